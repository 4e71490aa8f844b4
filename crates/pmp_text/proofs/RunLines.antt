-- The rights of a run's line.
use Rattle.std.proofs.Common.{◌≡◌, Bool, true, false, refl}
use Rattle.pmp_core.specs.Rights.{Rights, perms_of}
use Rattle.pmp_text.specs.RightsTexts.{rights_text}
use Rattle.pmp_text.specs.RightsTexts.{perms_text}

by_bits : (read write execute : Bool) → let rights : Rights =
    record { read = read; write = write; execute = execute } in perms_text (perms_of rights) ≡ rights_text rights
unfolding perms_text
by_bits true true true = refl
by_bits true true false = refl
by_bits true false true = refl
by_bits true false false = refl
by_bits false true true = refl
by_bits false true false = refl
by_bits false false true = refl
by_bits false false false = refl

-- a set of rights is written as its rights are
pub text_of_perms : (rights : Rights) → perms_text (perms_of rights) ≡ rights_text rights
text_of_perms rights = by_bits rights.read rights.write rights.execute
