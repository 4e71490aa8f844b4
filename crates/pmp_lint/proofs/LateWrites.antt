-- What is found of the writes of one publication more.
use Rattle.std.proofs.Common.{◌≡◌, ◌∙◌, ap, ℕ, ◌+◌, List, [], ◌++◌}
use Rattle.std.specs.List.{flat_map}
use Rattle.std.proofs.lemmas.List.Concat.{flat_map-append}
use Rattle.pmp_text.specs.Cells.{RowValue}
use Rattle.pmp_text.specs.Contents.{ScriptContents}
use Rattle.pmp_lint.specs.Events.{happenings, happenings_in}
use Rattle.pmp_lint.specs.LateWrites.{late_writes, late_writes_of}
use Rattle.pmp_lint.specs.Telling.{HasTold, Telling}
use Rattle.pmp_lint.proofs.Events.{happenings_more}
use Rattle.pmp_lint.proofs.Telling.{told_more}

pub late_writes_more : {A : Type 0} (Adds : List RowValue → A → A → Type 0)
    (none : (rows : A) → Adds [] rows rows)
    (both : (one other : List RowValue) (first second third : A) → Adds one first second → Adds other second third
    → Adds (one ++ other) first third)
    (script : ScriptContents) (n : ℕ) (start before after : Telling A)
    → HasTold Adds (late_writes script n) start before
    → HasTold Adds (flat_map late_writes_of (happenings_in script n)) before after
    → HasTold Adds (late_writes script (n + 1)) start after
late_writes_more Adds none both script n start before after are told =
    let here = flat_map late_writes_of (happenings_in script n) in
    let all : late_writes script (n + 1) ≡ late_writes script n ++ here =
    ap (flat_map late_writes_of) (happenings_more script n)
    ∙ flat_map-append late_writes_of (happenings script n) (happenings_in script n) in
    rw all (told_more Adds none both (late_writes script n) here start before after are told)
