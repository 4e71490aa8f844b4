-- What a log and its open batch give of a script that is being read.
use Rattle.std.specs.Prelude.{◌≡◌, IfSome, drop, fold, length}
use Rattle.pmp_core.specs.RegisterWrite.{step}
use Rattle.pmp_text.specs.declared.script.head.Head.{Head}
use Rattle.pmp_text.specs.declared.script.reading.ScriptReading.{ScriptReading}
use Rattle.pmp_text.specs.Heads.{profile_said}
use Rattle.pmp_text.specs.declared.script.progress.OpenBatch.{OpenBatch}
use Rattle.pmp_text.specs.EventLogs.{Kept}
use Rattle.pmp_text.specs.Longhand.{file_said}
use Rattle.pmp_text.specs.Steps.Cuts.{AreOpen, cut_from}
use Rattle.pmp_text.specs.Steps.Progress.{HeadSoFar, Progress, Reading}

-- the publications that end in the log, and the events after them
abbrev pub progress_of : Kept → OpenBatch → Progress
progress_of kept open_batch = record {
  published = record {
    batches = cut_from 0 kept.ends kept.events;
    lines = cut_from 0 kept.ends kept.lines;
  };
  batch = drop open_batch.published kept.events;
  lines = drop open_batch.published kept.lines;
  since = open_batch.since;
}

-- these are as many as the batch says
abbrev pub IsOpen : Kept → OpenBatch → Type 0
IsOpen kept open_batch =
    AreOpen kept.ends open_batch.published (length kept.events) (length kept.lines) open_batch.since

-- what a head gives
abbrev pub head_of : Head → HeadSoFar
head_of head = record { lines = head.lines.items; is_over = head.is_over }

-- it has the hart that its lines give
abbrev pub IsHead : Head → Type 0
IsHead head = head.said ≡ profile_said head.lines.items

-- what the log, its open batch and the head give
abbrev pub reading_of : Kept → ScriptReading → Reading
reading_of kept reading = record {
  progress = progress_of kept reading.batch;
  head = head_of reading.head;
  expectations = kept.expectations;
  events = length kept.events;
  marks = kept.marks;
  done = length kept.ends;
}

-- the register file, if it is known, is the one after the events of the log
pub record IsReading (kept : Kept) (reading : ScriptReading) : Type 0 where
  pub batch : IsOpen kept reading.batch
  pub head : IsHead reading.head
  pub file : IfSome reading.file (λ file. file ≡ fold step (file_said reading.head.lines.items) kept.events)
