-- What may come where a history differs.
use Rattle.std.specs.Prelude.{◌≡◌, ◌≢◌, ◌≤◌, ◌<◌, ◌^◌, ◌↔◌, ℕ, zero, suc, List, [], ◌∷◌, ◌++◌, length, map, string_bytes}
use Rattle.std.specs.Prelude.{Option, Some, None}
use Rattle.std.specs.Option.{option_map_or}
use Rattle.core_lang.specs.declared.typed.Typed.{Typed}
use Rattle.core_lang.specs.Serial.{Scheduled}
use Rattle.input_files.specs.declared.format.Format.{Format}
use Rattle.input_files.specs.declared.format.Format.TheVariants.{Two}
use Rattle.input_files.specs.Pieces.{before}
use Rattle.report.specs.History.{call_head}
use Rattle.replay.specs.declared.callers.Callers.{Callers}
use Rattle.replay.specs.declared.callers.Callers.TheVariants.{Scripts, Anyone}
use Rattle.replay.specs.declared.told.Told.{Told}
use Rattle.replay.specs.declared.verdict.Verdict.{Verdict}
use Rattle.replay.specs.declared.verdict.Verdict.TheVariants.{Same, Differs, Unsettled}
use Rattle.replay.specs.declared.wanted.Wanted.{Wanted}
use Rattle.replay.specs.declared.wanted.Wanted.TheVariants.{Line, Calls, Open, Nothing}
use Rattle.replay.specs.declared.wanted.Lack.{Lack}
use Rattle.replay.specs.declared.wanted.Lack.TheVariants as lack
use Rattle.replay.specs.Readers.{Reader, Comes, next_call, calls_by, IsNextCall, IsAmongCalls, AllCalled, MayBegin}
use Rattle.replay.specs.Told.{told_in, invoked_text, section_named}
use Rattle.replay.specs.Verdicts.{HasEnded, Reaches}

-- the line may come
abbrev pub MayCome : ℕ → Callers → Format → Typed → Reader → List ℕ → Type 0
MayCome turns callers format program reader text = (after : Reader) × Comes turns callers format program reader after text

-- the line of a thread's next call up to its end, if it has one, with a begin at the present length of the history
abbrev pub next_head : Format → Typed → List ℕ → ℕ → List (List ℕ)
next_head format program order t =
    option_map_or (λ (call : Scheduled). call_head format program call (length order) ∷ []) (next_call program order t) []

-- the heads of the first `t` threads
abbrev pub next_heads : Format → Typed → List ℕ → ℕ → List (List ℕ)
next_heads format program order zero = []
next_heads format program order (suc t) = next_heads format program order t ++ next_head format program order t

-- up to its end, the first of the lines is that of a next call
abbrev pub Names : Callers → Format → Typed → Reader → List (List ℕ) → Scheduled → ℕ → Type 0
Names callers format program reader [] call begun = ⊥
Names callers format program reader (text ∷ more) call begun =
    IsAmongCalls reader × (end : List ℕ) × IsNextCall callers format program reader.order text call begun end

-- the first of the lines is not that of a next call, not even up to its end
abbrev pub NamesNone : Callers → Format → Typed → Reader → List (List ℕ) → Type 0
NamesNone callers format program reader lines = (call : Scheduled) (begun : ℕ) → Names callers format program reader lines call begun → ⊥

-- a line has, up to its end, the call of the first of the lines, if that is of one
abbrev pub KeepsCall : Callers → Format → Typed → Reader → List (List ℕ) → List ℕ → Type 0
KeepsCall callers format program reader lines text = (call : Scheduled) (begun : ℕ) → Names callers format program reader lines call begun →
    (end : List ℕ) × (text ≡ call_head format program call begun ++ end)

-- ---- calls from outside

-- after these calls, a call of the thread may have exactly the begins in this range
abbrev pub MayBeginWithin : List ℕ → ℕ → ℕ → ℕ → Type 0
MayBeginWithin order thread least most = (begun : ℕ) → MayBegin Two order thread begun ↔ ((least ≤ begun) × (begun ≤ most))

-- the fault of a line's numbers, the first of these: a thread past 32 bits, another number than the call's, or a begin
-- out of range
abbrev pub LacksNumber : Format → List ℕ → Told → Lack → Type 0
LacksNumber format order told lack.Thread = 2 ^ 32 ≤ told.thread
LacksNumber format order told (lack.Number number) =
    (told.thread < 2 ^ 32) × (calls_by told.thread order ≡ number) × (told.step ≢ number)
LacksNumber format order told (lack.Begin least most) =
    (told.thread < 2 ^ 32) × (told.step ≡ calls_by told.thread order)
    × (format ≡ Two) × MayBeginWithin order told.thread least most × ((least ≤ told.begun) × (told.begun ≤ most) → ⊥)
LacksNumber format order told other = ⊥

-- the numbers are those that a next call of the thread may have
pub record AreInTurn (format : Format) (order : List ℕ) (told : Told) : Type 0 where
  pub thread : told.thread < 2 ^ 32
  pub counted : told.step ≡ calls_by told.thread order
  pub begins : MayBegin format order told.thread told.begun

-- what a line lacks that is not one of an open call up to its end, the first of these: the form of a call's line, a
-- number in turn, a known section, arguments that fit
abbrev pub LacksSo : Format → Typed → List ℕ → List ℕ → Lack → Type 0
LacksSo format program order text (lack.Form of) = (of ≡ format) × (told_in format text ≡ None)
LacksSo format program order text lack.Section =
    (told : Told) × (told_in format text ≡ Some told) × AreInTurn format order told
    × (section_named program (before 40 (invoked_text format text)) ≡ None)
LacksSo format program order text lack.Arguments =
    (told : Told) × (told_in format text ≡ Some told) × AreInTurn format order told
    × ((section : ℕ) × (section_named program (before 40 (invoked_text format text)) ≡ Some section))
LacksSo format program order text number = (told : Told) × (told_in format text ≡ Some told) × LacksNumber format order told number

-- what the first of the lines lacks, or, where there is none, a line of this form
abbrev pub Lacks : Format → Typed → List ℕ → List (List ℕ) → Lack → Type 0
Lacks format program order [] missing = missing ≡ lack.Form format
Lacks format program order (text ∷ more) missing = LacksSo format program order text missing

-- ---- what may come

-- no other line may come: one is due, or the first of the lines names its call, or the scripts have no further call
abbrev pub IsDetermined : Callers → Format → Typed → Reader → List (List ℕ) → Type 0
IsDetermined callers format program reader lines =
    IsAmongCalls reader → NamesNone callers format program reader lines →
    (callers ≡ Scripts) × AllCalled callers program reader.order

-- what may come as the first of the lines `lines`. A line: no other may come, and if the first of `lines` names a call,
-- the line is of this call. Calls: the first of `lines` names no call, and these are the heads of each thread's next
-- call. Any call: anyone may call, and the first of `lines` lacks `missing`. Nothing: the history is at its end
abbrev pub IsWanted : ℕ → Callers → Format → Typed → Reader → List (List ℕ) → Wanted → Type 0
IsWanted turns callers format program reader lines (Line text) =
    MayCome turns callers format program reader (string_bytes text)
    × KeepsCall callers format program reader lines (string_bytes text)
    × IsDetermined callers format program reader lines
IsWanted turns callers format program reader lines (Calls heads) =
    IsAmongCalls reader × (AllCalled callers program reader.order → ⊥) × NamesNone callers format program reader lines
    × (map (λ head. string_bytes head) heads.items ≡ next_heads format program reader.order (length program.threads.items))
IsWanted turns callers format program reader lines (Open missing) =
    (callers ≡ Anyone) × IsAmongCalls reader × NamesNone callers format program reader lines
    × Lacks format program reader.order lines missing
IsWanted turns callers format program reader lines Nothing = HasEnded reader

-- the lines before the one with this number came, and `wanted` may come there
pub record IsWantedAt (turns : ℕ) (callers : Callers) (format : Format) (program : Typed) (lines : List (List ℕ)) (number : ℕ) (wanted : Wanted) : Type 0 where
  pub reader : Reader
  pub rest : List (List ℕ)
  pub reached : Reaches turns callers format program lines number reader rest
  pub may_come : IsWanted turns callers format program reader rest wanted

-- what may come is reported exactly where the lines differ
abbrev pub Explains : ℕ → Callers → Format → Typed → List (List ℕ) → Verdict → Option Wanted → Type 0
Explains turns callers format program lines (Differs number) (Some wanted) = IsWantedAt turns callers format program lines number wanted
Explains turns callers format program lines (Differs number) None = ⊥
Explains turns callers format program lines Same wanted = wanted ≡ None
Explains turns callers format program lines (Unsettled number) wanted = wanted ≡ None
