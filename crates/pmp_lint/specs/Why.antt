-- Why an access is decided as it is after publications of a script (Volume II, 3.7.1.2, 3.7.1.3 and Smepmp).
use Rattle.std.specs.Prelude.{◌≡◌, ◌≢◌, ℕ, ◌+◌, ◌-◌, ◌<◌, ◌≤◌, ◌&&◌, nat_lt, List, [], ◌∷◌, length, if◌then◌else◌}
use Rattle.std.specs.Prelude.{Option, Some, None, option_map}
use Rattle.pmp_core.specs.declared.access.Access.{Access}
use Rattle.pmp_core.specs.declared.decision.Decision.{Decision}
use Rattle.pmp_core.specs.Configuration.{Configuration}
use Rattle.pmp_core.specs.Decision.{IsDecision}
use Rattle.pmp_core.specs.Lock.{lock_of}
use Rattle.pmp_core.specs.Ranges.{decision_of}
use Rattle.pmp_core.specs.RegisterFile.{entry_at, is_held}
use Rattle.pmp_core.specs.RegisterWrite.{is_tor}
use Rattle.pmp_core.specs.Span.{span_of}
use Rattle.pmp_text.specs.Contents.{ScriptContents}
use Rattle.pmp_text.specs.Reports.{entry_of, file_of_script}
use Rattle.pmp_lint.specs.declared.answer_run.AnswerRun.{AnswerRun}
use Rattle.pmp_lint.specs.declared.decider.Decider.{Decider}
use Rattle.pmp_lint.specs.declared.decider.RuleBits.{RuleBits}
use Rattle.pmp_lint.specs.declared.subject.Subject.TheVariants as subject
use Rattle.pmp_lint.specs.declared.because.Because.{Because}
use Rattle.pmp_lint.specs.Events.{changed_at}

-- the access's decision after `done` publications; `laws::law_decided_by_ranges` of pmp_core proves that it is the
-- manual's
abbrev pub decided_at : ScriptContents → (done : ℕ) → Access → Decision
decided_at script done access = decision_of (file_of_script script done) access

-- ---- the entry that decides

-- L, R, W and X, which name a row of Smepmp's table if MML is set
abbrev pub rule_bits : Configuration → RuleBits
rule_bits c = record { locked = c.locked; read = c.read; write = c.write; execute = c.execute }

-- the line that last changed a TOR entry's low bound: the pmpaddr before its own (3.7.1.1, top of range)
abbrev pub low_end_line : ScriptContents → (done i : ℕ) → Option ℕ
low_end_line script done i =
    let matching = (entry_at (file_of_script script done).entries i).configuration.matching in
    if is_tor matching && nat_lt 0 i then Some (changed_at script done (subject.Address (i - 1))) else None

-- entry i after `done` publications, and the lines of the events that last changed it
abbrev pub decoded : ScriptContents → (done i : ℕ) → Decider
decoded script done i =
    let file = file_of_script script done in
    let configuration = (entry_at file.entries i).configuration in
    record {
      entry = i;
      matching = configuration.matching;
      bytes = span_of file i;
      bits = rule_bits configuration;
      is_lockdown = file.mseccfg.mml;
      lock = lock_of file i;
      is_held = is_held file i;
      configured = changed_at script done (subject.Configuration i);
      addressed = changed_at script done (subject.Address i);
      low_end = low_end_line script done i;
    }

-- ---- since when

-- it is decided so at each moment from `since` up to this one, and differently right before `since`
pub record IsSince (script : ScriptContents) (done : ℕ) (access : Access) (since : ℕ) : Type 0 where
  pub within : since ≤ done
  pub same : (k : ℕ) → since ≤ k → k ≤ done → decided_at script k access ≡ decided_at script done access
  pub other : 0 < since → decided_at script (since - 1) access ≢ decided_at script done access

-- the decision, since when it is so, and the deciding entry, if any
pub record IsWhy (script : ScriptContents) (done : ℕ) (access : Access) (why : Because) : Type 0 where
  pub by_bytes : IsDecision (file_of_script script done) access why.decision
  pub since : IsSince script done access why.since
  pub decider : why.decider ≡ option_map (decoded script done) (entry_of why.decision.cause)

-- ---- at every moment

-- the longest sequence of moments, from its first on, with this decision
pub record IsAnswerRun (script : ScriptContents) (access : Access) (run : AnswerRun) : Type 0 where
  pub proper : run.first ≤ run.last
  pub within : run.last ≤ length script.batches
  pub same : (k : ℕ) → run.first ≤ k → k ≤ run.last → decided_at script k access ≡ run.decision
  pub longest : run.last < length script.batches → decided_at script (run.last + 1) access ≢ run.decision

-- such sequences one after the other, from this moment up to but not including `end`
abbrev pub AreAnswerRunsFrom : ScriptContents → Access → (first end : ℕ) → List AnswerRun → Type 0
AreAnswerRunsFrom script access first end [] = first ≡ end
AreAnswerRunsFrom script access first end (run ∷ rest) =
    (run.first ≡ first) × IsAnswerRun script access run × AreAnswerRunsFrom script access (run.last + 1) end rest

-- those of all moments
abbrev pub AreAnswerRuns : ScriptContents → Access → List AnswerRun → Type 0
AreAnswerRuns script access = AreAnswerRunsFrom script access 0 (length script.batches + 1)
