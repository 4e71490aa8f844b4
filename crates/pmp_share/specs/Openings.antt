-- A unit that has just started.
use Rattle.std.specs.Prelude.{◌≡◌, ℕ, List, [], replicate}
use Rattle.pmp_core.specs.RegisterFile.{RegisterFile}
use Rattle.pmp_share.specs.declared.knowledge.Known.{Known}
use Rattle.pmp_share.specs.Object.{no_batches}
use Rattle.pmp_share.specs.Known.{known}
use Rattle.pmp_share.specs.Tokens.{PublisherToken}

-- it starts from this register file, nothing is published or pending, and it has k checkers
pub record Started (file : RegisterFile) (k : ℕ) (publisher : PublisherToken) (checkers : List Known) : Type 0 where
  pub base : publisher.unit.base ≡ file
  pub published : publisher.published ≡ no_batches
  pub pending : publisher.pending ≡ []
  pub tried : publisher.tried ≡ 0
  pub seated : checkers ≡ replicate k (known publisher.unit no_batches)
