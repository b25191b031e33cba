-- The histories of a program: its calls, run whole one after another.
use Rattle.std.specs.Prelude.{◌≡◌, ℕ, ◌==◌, List, ◌∷◌, ◌++◌, map, filter, take, slice_get, codes, Some}
use Rattle.std.specs.List.{flat_map}
use Rattle.core_lang.specs.declared.value.Value.{Value}
use Rattle.core_lang.specs.declared.typed.Typed.{Typed}
use Rattle.core_lang.specs.Serial.{Invocation, Ended, SerialFromOpening}
use Rattle.code.specs.Listing.{line}
use Rattle.input_files.specs.declared.format.Format.{Format}
use Rattle.report.specs.Entry.{Entry, scheduled_in}
use Rattle.report.specs.History.{call_line}
use Rattle.replay.specs.declared.callers.Callers.{Callers}
use Rattle.replay.specs.declared.callers.Callers.TheVariants.{Scripts, Anyone}
use Rattle.replay.specs.Readers.{script_of, IsOpenCall, MayBegin, print_lines, closing_lines}

-- ---- calls

-- the section and the arguments of an entry's call
abbrev pub invocation_in : Entry → Invocation
invocation_in entry = record { section = entry.section; arguments = entry.arguments }

-- how it ended, and what it printed
abbrev pub ended_in : Entry → Ended
ended_in entry = record { outcome = entry.outcome; prints = entry.prints }

-- the threads of calls
abbrev pub order_of : List Entry → List ℕ
order_of entries = map (λ (e : Entry). e.thread) entries

-- the calls of a thread
abbrev pub of_thread : ℕ → List Entry → List Entry
of_thread t entries = filter (λ (e : Entry). e.thread == t) entries

-- the calls of each thread are those of its script, in order, each once, and the entries have no other calls
abbrev pub FollowScripts : Typed → List Entry → Type 0
FollowScripts program entries = (t : ℕ) → map scheduled_in (of_thread t entries) ≡ script_of program t

-- the calls are those of the scripts; or, where anyone may call, each is a call from outside after those before it
abbrev pub AreCalls : Callers → Typed → List Entry → Type 0
AreCalls Scripts program entries = FollowScripts program entries
AreCalls Anyone program entries = (k : ℕ) (e : Entry) → slice_get entries k ≡ Some e →
    IsOpenCall program (order_of (take k entries)) (scheduled_in e)

-- each may say that it began when the history was as long as it says
abbrev pub BeginAsTheyMay : Format → List Entry → Type 0
BeginAsTheyMay format entries = (k : ℕ) (e : Entry) → slice_get entries k ≡ Some e →
    MayBegin format (order_of (take k entries)) e.thread e.begun

-- ---- lines

-- a call's line, and its prints
abbrev pub entry_lines : Format → Typed → Entry → List (List ℕ)
entry_lines format program entry = call_line format program entry ∷ print_lines entry.prints

-- the lines of a history after its first
abbrev pub history_lines : Format → Typed → List Entry → List Value → List (List ℕ)
history_lines format program entries heap =
    flat_map (entry_lines format program) entries ++ codes "cells" ∷ closing_lines program heap

-- lines as one text
abbrev pub text_of : List (List ℕ) → List ℕ
text_of lines = flat_map line lines

-- ---- histories

-- the lines of calls that run whole, one after another, from the opening cells, and of the heap that they leave; they
-- are those of the scripts, each thread's in order, or from outside
pub record IsHistory (callers : Callers) (format : Format) (program : Typed) (entries : List Entry) (heap : List Value) (lines : List (List ℕ)) : Type 0 where
  pub calls : AreCalls callers program entries
  pub begins : BeginAsTheyMay format entries
  pub serial : SerialFromOpening program (map invocation_in entries) (map ended_in entries) heap
  pub told : lines ≡ history_lines format program entries heap
