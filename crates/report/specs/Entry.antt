-- The record of a call as plain data: what was called, how it ended and what it printed.
use Rattle.std.specs.Prelude.{ℕ, ℤ, List}
use Rattle.core_lang.specs.declared.value.Value.{Value}
use Rattle.core_lang.specs.declared.value.Outcome.{Outcome}
use Rattle.core_lang.specs.Serial.{Scheduled}
use Rattle.history.specs.Commits.{Commit}
use Rattle.report.specs.declared.record.Record.{Record}
use Rattle.report.specs.declared.record.CallRef.{CallRef}
use Rattle.report.specs.declared.record.RecordRef.{RecordRef}

-- a call: its thread and its number there, the length of the history when it began, the section and its arguments; how
-- it ended and what it printed
pub record Entry : Type 0 where
  pub thread : ℕ
  pub step : ℕ
  pub begun : ℕ
  pub section : ℕ
  pub arguments : List Value
  pub outcome : Outcome
  pub prints : List ℤ

-- the call of an entry
abbrev pub scheduled_in : Entry → Scheduled
scheduled_in entry = record {
  thread = entry.thread;
  step = entry.step;
  call = record { section = entry.section; arguments = entry.arguments };
}

-- the entry of a record
abbrev pub entry_of : Record → Entry
entry_of made = record {
  thread = made.call.thread;
  step = made.call.step;
  begun = made.call.begun;
  section = made.call.section;
  arguments = made.call.arguments.now;
  outcome = made.outcome;
  prints = made.prints.items;
}

-- the call of a borrowed one
abbrev pub scheduled_called : CallRef → Scheduled
scheduled_called call = record {
  thread = call.thread;
  step = call.step;
  call = record { section = call.section; arguments = call.arguments.now };
}

-- the entry of a borrowed record
abbrev pub entry_said : RecordRef → Entry
entry_said said = record {
  thread = said.call.thread;
  step = said.call.step;
  begun = said.call.begun;
  section = said.call.section;
  arguments = said.call.arguments.now;
  outcome = said.outcome;
  prints = said.prints.now;
}

-- the entry of a finished section
abbrev pub entry_of_commit : Commit → Entry
entry_of_commit c = record {
  thread = c.thread;
  step = c.step;
  begun = c.begun;
  section = c.section;
  arguments = c.arguments;
  outcome = c.outcome;
  prints = c.prints;
}
