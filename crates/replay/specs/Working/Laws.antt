-- Laws of verdicts, as the laws of `src/laws.rt` claim them.
use Rattle.std.specs.Prelude.{◌≡◌, ◌≤◌, ◌<◌, ◌^◌, ℕ, true, List, [], ◌∷◌, length, map, slice_get, string_bytes}
use Rattle.std.specs.Prelude.{Some, ⊤}
use Rattle.core_lang.specs.declared.value.Value.{Value}
use Rattle.core_lang.specs.declared.value.Value.TheVariants.{Int, Ref}
use Rattle.core_lang.specs.declared.shape.Pool.{Pool}
use Rattle.core_lang.specs.declared.tree.Section.{Section}
use Rattle.core_lang.specs.declared.typed.Typed.{Typed}
use Rattle.core_lang.specs.Arithmetic.{fits}
use Rattle.core_lang.specs.Serial.{Scheduled, opening_heap, all_calls, serial_run}
use Rattle.core_lang.specs.WellFormed.{CanCall, IsChecked}
use Rattle.history.specs.Commits.{Commit, committed, IsLegal, AreTrue}
use Rattle.input_files.specs.declared.format.Format.{Format}
use Rattle.input_files.specs.declared.format.Format.TheVariants.{One}
use Rattle.input_files.specs.Lines.{header_of}
use Rattle.input_files.specs.Pieces.{is_name}
use Rattle.report.specs.Entry.{Entry, scheduled_in, entry_of_commit}
use Rattle.report.specs.History.{history_of}
use Rattle.report.specs.Pieces.{invocation_text}
use Rattle.replay.specs.declared.callers.Callers.{Callers}
use Rattle.replay.specs.declared.callers.Callers.TheVariants.{Scripts, Anyone}
use Rattle.replay.specs.declared.verdict.Verdict.{Verdict}
use Rattle.replay.specs.Readers.{script_of}
use Rattle.replay.specs.Told.{invocation_in}
use Rattle.replay.specs.Verdicts.{IsSame, Holds}
use Rattle.replay.specs.Working.Histories.{ended_in, AreCalls, BeginAsTheyMay, history_lines, text_of, IsHistory}

-- at most one verdict holds of a history
abbrev pub AtMostOneVerdict : Type 0
AtMostOneVerdict = (turns : ℕ) (callers : Callers) (format : Format) (program : Typed) (lines : List (List ℕ)) (x y : Verdict) →
    IsChecked program → Holds turns callers format program lines x → Holds turns callers format program lines y → x ≡ y

-- lines for which the verdict `same` holds are those of a history
abbrev pub SameIsHistory : Type 0
SameIsHistory = (turns : ℕ) (callers : Callers) (format : Format) (program : Typed) (lines : List (List ℕ)) → IsSame turns callers format program lines →
    (entries : List Entry) × (heap : List Value) × IsHistory callers format program entries heap lines

-- the verdict `same` holds for the lines of a history, if the turns are enough
abbrev pub HistoryIsSame : Type 0
HistoryIsSame = (callers : Callers) (format : Format) (program : Typed) (entries : List Entry) (heap : List Value) (lines : List (List ℕ)) →
    IsHistory callers format program entries heap lines →
    (enough : ℕ) × ((turns : ℕ) → enough ≤ turns → IsSame turns callers format program lines)

-- the history text is the first line and these lines, each with its line feed
abbrev pub TextIsOfLines : Type 0
TextIsOfLines = (format : Format) (program : Typed) (entries : List Entry) (heap : List Value) →
    history_of format program entries heap ≡ text_of (header_of format ∷ history_lines format program entries heap)

-- if the turns settle all calls, run one after another with thread 0's whole script first, the verdict `same` holds for
-- the lines of these calls in the first format
abbrev pub SerialIsSame : Type 0
SerialIsSame = (turns : ℕ) (program : Typed) (entries : List Entry) →
    let ran = serial_run program turns in
    ran.unsettled ≡ [] → map scheduled_in entries ≡ all_calls program → map ended_in entries ≡ ran.ends →
    IsSame turns Scripts One program (history_lines One program entries ran.heap)

-- with turns enough the lines of a legal list of true entries are the same, where the calls are those of the scripts,
-- or from outside, and each says a begin that it may say; the cells are what the entries leave
abbrev pub EntriesAreSame : Type 0
EntriesAreSame = (callers : Callers) (format : Format) (program : Typed) (commits : List Commit) →
    let entries = map entry_of_commit commits in
    let heap = committed (opening_heap program) commits in
    IsLegal (opening_heap program) commits → AreTrue program commits → AreCalls callers program entries → BeginAsTheyMay format entries →
    (enough : ℕ) × ((turns : ℕ) → enough ≤ turns → IsSame turns callers format program (history_lines format program entries heap))

-- the numbers of values have 64 bits
abbrev pub HasBits : Value → Type 0
HasBits (Int number) = fits number ≡ true
HasBits (Ref object) = ⊤

abbrev pub HaveBits : List Value → Type 0
HaveBits values = (k : ℕ) (value : Value) → slice_get values k ≡ Some value → HasBits value

-- sections and pools have names, and no two of either have the same
pub record HasPlainNames (program : Typed) : Type 0 where
  pub sections : (k : ℕ) (s : Section) → slice_get program.sections.items k ≡ Some s → is_name (string_bytes s.name) ≡ true
  pub sections_apart : (j k : ℕ) (s t : Section) → slice_get program.sections.items j ≡ Some s →
      slice_get program.sections.items k ≡ Some t → string_bytes s.name ≡ string_bytes t.name → j ≡ k
  pub pools : (k : ℕ) (p : Pool) → slice_get program.shape.pools.items k ≡ Some p → is_name (string_bytes p.name) ≡ true
  pub pools_apart : (j k : ℕ) (p q : Pool) → slice_get program.shape.pools.items j ≡ Some p →
      slice_get program.shape.pools.items k ≡ Some q → string_bytes p.name ≡ string_bytes q.name → j ≡ k

-- in such a program, the text of a call that can be made is read back as this call
abbrev pub PlainCallsAreTold : Type 0
PlainCallsAreTold = (program : Typed) (section : ℕ) (arguments : List Value) → IsChecked program → HasPlainNames program →
    CanCall program section arguments → HaveBits arguments →
    invocation_in program (invocation_text program section arguments) ≡ Some (record { section = section; arguments = arguments })

-- the text of each call of the scripts is read back as this call
abbrev pub AreScriptsTold : Typed → Type 0
AreScriptsTold program = (t k : ℕ) (s : Scheduled) → slice_get (script_of program t) k ≡ Some s →
    invocation_in program (invocation_text program s.call.section s.call.arguments) ≡ Some s.call

-- a history whose calls are the scripts', each read back from its text, and that is the same, is the same if anyone may
-- call
abbrev pub ScriptsAreOpen : Type 0
ScriptsAreOpen = (turns : ℕ) (format : Format) (program : Typed) (lines : List (List ℕ)) → IsChecked program →
    AreScriptsTold program → length lines < 2 ^ 63 →
    IsSame turns Scripts format program lines → IsSame turns Anyone format program lines

-- two histories that have their calls in one order, each with one begin, have the same lines
abbrev pub OneOrderOneHistory : Type 0
OneOrderOneHistory = (callers : Callers) (format : Format) (program : Typed) (xs ys : List Entry) (heap other : List Value) (lines more : List (List ℕ)) →
    IsHistory callers format program xs heap lines → IsHistory callers format program ys other more →
    map scheduled_in xs ≡ map scheduled_in ys → map (λ (e : Entry). e.begun) xs ≡ map (λ (e : Entry). e.begun) ys → lines ≡ more
