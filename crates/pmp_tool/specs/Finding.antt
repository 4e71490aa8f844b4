-- How the harts of a command's folders are found.
use Rattle.std.specs.Prelude.{◌≡◌, List, [], true, false, Option, Some, None, option_map, ⊤}
use Rattle.std.specs.declared.vec.Vec.{Vec}
use Rattle.clap.specs.Words.{Text}
use Rattle.pmp_text.specs.declared.refusal.Refusal.{Refusal}
use Rattle.pmp_text.specs.declared.refusal.Refusal.TheVariants.{BadFolder}
use Rattle.pmp_names.specs.declared.hart_name.HartName.{HartName}
use Rattle.pmp_names.specs.HartLists.{names_of}
use Rattle.pmp_names.specs.HartNames.{HasNoHarts}
use Rattle.pmp_tool.specs.declared.failure.Failure.{Failure}
use Rattle.pmp_tool.specs.declared.harts.Harts.{Harts}
use Rattle.pmp_tool.specs.Failures.{unread}
use Rattle.pmp_tool.specs.Harts.{IsNewOfHarts, IsOfHarts}
use Rattle.pmp_tool.specs.Inputs.{CantBeOpened, Folders, IsFolder}
use Rattle.pmp_text.specs.declared.fault.Source.{Source}

-- a path has these harts, or isn't a folder
abbrev pub AreFoundAt : (known : Option (Option (List Text))) → Option (List Text) → Type 0
AreFoundAt known None = IsOfHarts known false []
AreFoundAt known (Some harts) = IsOfHarts known true harts

-- the same for the new script, if there is one
abbrev pub AreFoundNew : Folders → (new : Option Text) → Option (List Text) → Type 0
AreFoundNew folders new None = IsNewOfHarts folders new false []
AreFoundNew folders new (Some harts) = IsNewOfHarts folders new true harts

-- a folder can't be read, or has no harts
abbrev pub IsUnlisted : (source : Source) → Failure → Type 0
IsUnlisted source failure = (fault : Refusal) × CantBeOpened fault × (failure ≡ unread fault source)

abbrev pub IsUnfit : (files : List Text) → (source : Source) → Failure → Type 0
IsUnfit files source failure = (fault : Refusal) × HasNoHarts files fault × (failure ≡ unread fault source)

-- a path can't be read, or has no harts
pub data AreUnfoundAt (known : Option (Option (List Text))) (source : Source) : Failure → Type 0 where
  unlisted : (fault : Refusal) → CantBeOpened fault → AreUnfoundAt known source (unread fault source)
  unfit : (fault : Refusal) (files : List Text) → IsFolder known (Some files) → HasNoHarts files fault
      → AreUnfoundAt known source (unread fault source)

abbrev pub AreUnfoundNew : Folders → (new : Option Text) → Failure → Type 0
AreUnfoundNew folders new failure = (path : Text) × (source : Source) × AreUnfoundAt (folders path) source failure

-- the harts of an old folder and of a new one, if there are any
abbrev pub AreJoined : (old new : Option (List Text)) → Option Harts → Type 0
AreJoined None None None = ⊤
AreJoined (Some old) None (Some harts) =
    (harts.old ≡ true) × (harts.new ≡ false) × (names_of harts.names.items ≡ old)
AreJoined None (Some new) (Some harts) =
    (harts.old ≡ false) × (harts.new ≡ true) × (names_of harts.names.items ≡ new)
AreJoined (Some old) (Some new) (Some harts) = (harts.old ≡ true) × (harts.new ≡ true)
    × (names_of harts.names.items ≡ old) × (names_of harts.names.items ≡ new)
AreJoined old new harts = ⊥

-- two folders with different harts
pub record AreUnjoined (old new : Option (List Text)) (refusal : Refusal) : Type 0 where
  pub old_harts : List Text
  pub new_harts : List Text
  pub old_are : old ≡ Some old_harts
  pub new_are : new ≡ Some new_harts
  pub unlike : old_harts ≡ new_harts → ⊥
  pub is : refusal ≡ BadFolder

abbrev pub names_in : {A : Type 0} → Option (Vec HartName A) → Option (List Text)
names_in harts = option_map (λ harts. names_of harts.items) harts
