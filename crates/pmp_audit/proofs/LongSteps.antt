-- The steps of a long audit, from piece to piece.
use Rattle.std.proofs.Common.{◌≡◌, ℕ, ◌+◌, ◌≤◌, List, [], ◌∷◌, ◌++◌}
use Rattle.std.proofs.Common.{length, unwrap_or, Option, Some, None, Ok, refl, sym, ap, ◌∙◌}
use Rattle.std.proofs.Common.{append_assoc, arith}
use Rattle.std.specs.Prelude.{IfSome}
use Rattle.std.specs.Io.KnownBytes.{Appends, Consumes, IsAtEnd}
use Rattle.std.proofs.KnownBytes.{Appends-nil, Appends-trans, Consumes-nil, Consumes-trans}
use Rattle.std.proofs.lemmas.List.{length-append}
use Rattle.pmp_text.specs.Contents.{ScriptContents}
use Rattle.pmp_text.specs.Cutting.{IsFront}
use Rattle.pmp_text.specs.LongTraces.{Records, piece_fault}
use Rattle.pmp_text.specs.Scripts.{script_meaning}
use Rattle.pmp_text.specs.Tables.{records_of}
use Rattle.pmp_text.proofs.PieceFaults as pieces
use Rattle.pmp_text.specs.Moments.{moments_in}
use Rattle.pmp_audit.specs.declared.standing.Standing.{Standing}
use Rattle.pmp_audit.specs.LongAudit.{IsFrontOf}
use Rattle.pmp_audit.specs.LongPieces.{IsReported}
use Rattle.pmp_audit.proofs.PieceRows.{none_so_far}
use Rattle.pmp_audit.proofs.PieceTexts.{one_after, start}

-- so many pieces were read and reported, and these bytes are held of what follows
pub record Going (script : ScriptContents) (first count : ℕ) (in_old in_new : Option (List ℕ)) (held : List ℕ)
    (out_old out_new : Option (List ℕ)) (standing : Standing) : Type 0 where
  pub done : List ℕ
  pub records : Records
  pub text : List ℕ
  pub consumed : Consumes in_old in_new (done ++ held)
  pub apart : (more : List ℕ) → records_of (done ++ (held ++ more)) ≡ records ++ records_of (held ++ more)
  pub stands : IsReported script records (start first) standing text
  pub written : Appends out_old out_new text
  pub many : count ≤ length done

pub going_begins : (script : ScriptContents) (first : ℕ) (bytes_in : Option (List ℕ)) (held : List ℕ)
    (bytes_out : Option (List ℕ)) (standing : Standing) → held ≡ [] → standing ≡ start first
    → Going script first 0 bytes_in bytes_in held bytes_out bytes_out standing
going_begins script first bytes_in held bytes_out standing none fresh = record {
  done = [];
  records = [];
  text = [];
  consumed = rw none (Consumes-nil bytes_in);
  apart = λ more. refl;
  stands = none_so_far script (start first) standing (ap (λ (s : Standing). s.place) fresh)
      (ap (λ (s : Standing). s.faults) fresh);
  written = Appends-nil bytes_out;
  many = omega arith;
}

module _ {script : ScriptContents} {first count limit : ℕ} {in_old in_mid in_new : Option (List ℕ)} {held left : List ℕ}
    {out_old out_mid : Option (List ℕ)} {old : Standing}
    (going : Going script first count in_old in_mid held out_old out_mid old) where
  module _ (piece : List ℕ) (cut : IsFront limit held in_mid in_new left piece) where
    joined : (more : List ℕ) → held ++ (cut.taken ++ more) ≡ cut.before ++ cut.line_end ∷ (cut.behind ++ more)
    joined more = sym (append_assoc held cut.taken more) ∙ ap (λ (l : List ℕ). l ++ more) cut.split
        ∙ append_assoc cut.before (cut.line_end ∷ cut.behind) more

    pub goes_on : {out_new : Option (List ℕ)} {new : Standing} {text : List ℕ}
        → IsReported script (records_of piece) old new text → Appends out_mid out_new text
        → Going script first (count + 1) in_old in_new left out_old out_new new
    goes_on {text = text} reported wrote =
        let here = records_of piece in
        let fine = ap (λ (l : List ℕ). piece_fault (moments_in script) old.place (records_of l)) (sym cut.piece_is)
        ∙ reported.report.fine in
        let in_two = pieces.apart (moments_in script) old.place cut.before cut.line_end cut.ends fine in
        record {
          done = going.done ++ cut.before;
          records = going.records ++ here;
          text = going.text ++ text;
          consumed =
              let all : (going.done ++ held) ++ cut.taken ≡ (going.done ++ cut.before) ++ left =
              append_assoc going.done held cut.taken ∙ ap (λ (l : List ℕ). going.done ++ l) cut.split
              ∙ sym (append_assoc going.done cut.before (cut.line_end ∷ cut.behind))
              ∙ ap (λ (l : List ℕ). (going.done ++ cut.before) ++ l) (sym cut.left_is) in
              rw (← all) (Consumes-trans _ _ _ _ _ going.consumed cut.consumed);
          apart = λ more.
              let rest : left ++ more ≡ cut.line_end ∷ (cut.behind ++ more) =
              ap (λ (l : List ℕ). l ++ more) cut.left_is in
              ap records_of (append_assoc going.done cut.before (left ++ more)
              ∙ ap (λ (l : List ℕ). going.done ++ (cut.before ++ l)) rest
              ∙ ap (λ (l : List ℕ). going.done ++ l) (sym (joined more)))
              ∙ going.apart (cut.taken ++ more)
              ∙ ap (λ (l : List ℕ). going.records ++ records_of l) (joined more)
              ∙ ap (λ (l : Records). going.records ++ l) (in_two (cut.behind ++ more)
              ∙ ap (λ (l : List ℕ). records_of l ++ records_of (cut.line_end ∷ (cut.behind ++ more)))
              (sym cut.piece_is))
              ∙ sym (append_assoc going.records here (records_of (cut.line_end ∷ (cut.behind ++ more))))
              ∙ ap (λ (l : List ℕ). (going.records ++ here) ++ records_of l) (sym rest);
          stands = one_after going.stands reported;
          written = Appends-trans _ _ _ _ _ going.written wrote;
          many = let some = cut.some in let most = going.many in
              let count_is = length-append going.done cut.before in omega arith;
        }

-- ---- what is known of the whole trace

-- the bytes that were taken, and those that are left, as far as they are known
pub whole_trace : (old new : Option (List ℕ)) (bytes : List ℕ) → Consumes old new bytes
    → IfSome old (λ those. bytes ++ unwrap_or new [] ≡ those)
whole_trace None new bytes taken = tt
whole_trace (Some xs) None bytes taken = absurd taken
whole_trace (Some xs) (Some ys) bytes taken = sym taken

pub none_left : (new : Option (List ℕ)) → IsAtEnd new → unwrap_or new [] ≡ []
none_left None e = refl
none_left (Some xs) e = e

module _ {script : List ℕ} {contents : ScriptContents} (means : script_meaning script ≡ Ok contents) {first : ℕ}
    {records : Records} {standing : Standing} {text : List ℕ} (stands : IsReported contents records (start first) standing text)
    (trace : List ℕ) (behind : Records) (are : records_of trace ≡ records ++ behind) where
  -- what was written is a front of the report
  pub front_of : IsFrontOf script first trace text
  front_of = record {
    contents = contents;
    script_means = means;
    front = records;
    behind = behind;
    trace_has = are;
    report = stands.report;
  }
