-- Facts about a call that may come next, for callers of either kind.
use Rattle.std.proofs.Common.{◌≡◌, ◌∙◌, ◌<◌, ◌≤◌, ◌^◌, ℕ, List, length, Some, arith, sym, ap}
use Rattle.std.specs.Prelude.{◌==◌}
use Rattle.std.proofs.lemmas.List.Sums.{count_by-le-length}
use Rattle.core_lang.specs.declared.typed.Call.{Call}
use Rattle.core_lang.specs.declared.typed.Typed.{Typed}
use Rattle.core_lang.specs.Serial.{Scheduled}
use Rattle.core_lang.specs.Theory.Items.{map_some}
use Rattle.core_lang.specs.WellFormed.{IsChecked}
use Rattle.input_files.specs.declared.format.Format.{Format}
use Rattle.input_files.specs.declared.format.Format.TheVariants.{One, Two}
use Rattle.replay.specs.declared.callers.Callers.{Callers}
use Rattle.replay.specs.declared.callers.Callers.TheVariants.{Scripts, Anyone}
use Rattle.replay.specs.Readers.{IsNext, IsNextCall, MayBegin, calls_by, next_call}
use Rattle.replay.specs.Told.{invocation_in, invoked_text}
use Rattle.replay.specs.Working.Reading.{call_in}
use Rattle.replay.proofs.Cutting.{invocation_kept}
use Rattle.replay.proofs.Heads.{IsShort, invoked_head}
use Rattle.replay.proofs.Scripts.{scheduled_at, next_bounds, next_call_in}

-- a thread has at most as many calls as have come
pub calls_by_most : (t : ℕ) (order : List ℕ) → calls_by t order ≤ length order
calls_by_most t order = count_by-le-length (λ u. u == t) order

-- the next call of a script
pub scripted_call : (program : Typed) (order : List ℕ) (s : Scheduled) → next_call program order s.thread ≡ Some s →
    (found : Call) × (call_in program s.thread (calls_by s.thread order) ≡ Some found)
    × (scheduled_at s.thread (calls_by s.thread order) found ≡ s)
scripted_call program order s next =
    map_some (scheduled_at s.thread (calls_by s.thread order)) (call_in program s.thread (calls_by s.thread order)) s
    (sym (next_call_in program order s.thread) ∙ next)

-- the number of a next call is the number of its thread's calls so far
pub next_counted : (callers : Callers) (program : Typed) (order : List ℕ) (s : Scheduled) → IsNext callers program order s →
    s.step ≡ calls_by s.thread order
next_counted Scripts program order s next = sym (ap (λ (x : Scheduled). x.step) (scripted_call program order s next).2)
next_counted Anyone program order s next = next.counted

-- the number of the call's thread can be read
pub next_thread : (callers : Callers) (program : Typed) (order : List ℕ) (s : Scheduled) → IsChecked program →
    IsNext callers program order s → s.thread < 2 ^ 63
next_thread Scripts program order s well next = let few = (next_bounds program order s.thread s next well).0 in omega (arith, few)
next_thread Anyone program order s well next = let few = next.thread in omega (arith, few)

-- the begin of the call can be read
pub short_begin : (format : Format) (order : List ℕ) (t begun : ℕ) → MayBegin format order t begun →
    length order < 2 ^ 63 → IsShort format begun
short_begin One order t begun may short = may
short_begin Two order t begun may short = let h = may.0 in omega (arith, h)

-- the line of a call from outside says which call it is
pub call_told : (format : Format) (program : Typed) (order text : List ℕ) (s : Scheduled) (begun : ℕ) (end : List ℕ) →
    IsNextCall Anyone format program order text s begun end → invocation_in program (invoked_text format text) ≡ Some s.call
call_told format program order text s begun end is =
    let few = is.next.few in
    let thread = is.next.thread in
    let counted = is.next.counted in
    let most = calls_by_most s.thread order in
    ap (λ x. invocation_in program (invoked_text format x)) is.told
    ∙ ap (invocation_in program) (invoked_head format program s begun end (omega (arith, thread)) (omega (arith, counted, most, few))
    (short_begin format order s.thread begun is.begins few))
    ∙ invocation_kept program s.call.section s.call.arguments _ ∙ is.next.told
