-- What a hart's TLB has besides its checker.
use Rattle.std.specs.Prelude.{◌≡◌, List, Option, IfSome, All}
use Rattle.pmp_harts.specs.declared.hart.Page.{Page}
use Rattle.pmp_share.specs.declared.knowledge.Known.{Known}
use Rattle.pmp_share.specs.Batches.{StartsWith}

-- the page's rights are from a prefix of the batches that the checker knows, in one unit
abbrev pub IsBehind : Known → Page → Type 0
IsBehind known page = (page.seen.value.unit ≡ known.unit) × StartsWith known.list page.seen.value.list

-- this holds for each page
abbrev pub AreBehind : Known → List (Option Page) → Type 0
AreBehind known pages = All (λ place. IfSome place (IsBehind known)) pages
