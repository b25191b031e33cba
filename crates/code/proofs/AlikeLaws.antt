-- The laws of steps and of runs on held cells, from the same steps and runs on a heap.
use Rattle.std.proofs.Common.{◌≡◌, ℕ, List, [], Option, ℤ, subst}
use Rattle.std.proofs.lemmas.Option.{none-some, slice_get_within}
use Rattle.core_lang.specs.declared.value.Value.{Value}
use Rattle.core_lang.specs.declared.value.Outcome.{Outcome}
use Rattle.core_lang.specs.declared.shape.Shape.{Shape}
use Rattle.code.specs.declared.instr.Instr.{Instr}
use Rattle.code.specs.Machine.{Machine, Halted, Moves, Asks, Finishes, act, exec}
use Rattle.code.specs.Memory.{HeldCells, load_from, store_to, load_held, store_held, opened, overwritten, Agrees}
use Rattle.code.specs.Memory.{IsCovered, IsConsistent, IsPartOf, Keeps}
use Rattle.code.specs.Alone.{starting, alone}
use Rattle.code.specs.Working.Laws.{on_heap}
use Rattle.code.proofs.Alike.{Beside, act_beside, StandsBeside, run_beside, StandsOn, run_part}

pub keeps_held : (shape : Shape) (instr : Option Instr) (m next : Machine HeldCells) →
    act load_held store_held shape instr m ≡ Moves next → Keeps m.memory next.memory
keeps_held shape instr m next e =
    (subst (λ x. Beside [] shape x (act load_from store_to shape instr (on_heap [] m)) m) e (act_beside [] shape instr m)).0

pub moves_alike : (shape : Shape) (instr : Option Instr) (m next : Machine HeldCells) (heap : List Value) →
    act load_held store_held shape instr m ≡ Moves next →
    IsConsistent m.memory → IsCovered m.memory.cells heap → Agrees heap next.memory.reads →
    act load_from store_to shape instr (on_heap heap m) ≡ Moves (on_heap heap next)
moves_alike shape instr m next heap e =
    (subst (λ x. Beside heap shape x (act load_from store_to shape instr (on_heap heap m)) m) e (act_beside heap shape instr m)).2

pub asks_alike : (shape : Shape) (instr : Option Instr) (m : Machine HeldCells) (point : ℕ) (heap : List Value) →
    act load_held store_held shape instr m ≡ Asks point → act load_from store_to shape instr (on_heap heap m) ≡ Asks point
asks_alike shape instr m point heap e =
    subst (λ x. Beside heap shape x (act load_from store_to shape instr (on_heap heap m)) m) e (act_beside heap shape instr m)

pub finishes_alike : (shape : Shape) (instr : Option Instr) (m : Machine HeldCells) (outcome : Outcome) (heap : List Value) →
    act load_held store_held shape instr m ≡ Finishes outcome → act load_from store_to shape instr (on_heap heap m) ≡ Finishes outcome
finishes_alike shape instr m outcome heap e =
    subst (λ x. Beside heap shape x (act load_from store_to shape instr (on_heap heap m)) m) e (act_beside heap shape instr m)

opened_consistent : (cells : List (ℕ × Value)) → IsConsistent (opened cells)
opened_consistent cells = record {
  written = λ cell v is. absurd (none-some _ is);
  read = λ cell v unwritten is. absurd (none-some _ is);
}

pub halts_alike : (shape : Shape) (code : List Instr) (n : ℕ) (locals : List Value) (cells : List (ℕ × Value))
    (outcome : Outcome) (held : HeldCells) (prints : List ℤ) (heap : List Value) →
    exec load_held store_held shape code n (starting locals (opened cells)) ≡ Halted outcome held prints →
    IsCovered cells heap → Agrees heap held.reads →
    alone shape code n locals heap ≡ Halted outcome (overwritten heap held.writes) prints
halts_alike shape code n locals cells outcome held prints heap e covered agrees =
    let beside = run_beside heap shape code n (starting locals (opened cells)) (opened_consistent cells) covered in
    (subst (λ x. StandsBeside heap shape x (alone shape code n locals heap) (opened cells)) e beside agrees).1

pub halts_on_its_heap : (shape : Shape) (code : List Instr) (n : ℕ) (locals : List Value) (cells : List (ℕ × Value))
    (outcome : Outcome) (held : HeldCells) (prints : List ℤ) (heap : List Value) →
    exec load_held store_held shape code n (starting locals (opened cells)) ≡ Halted outcome held prints →
    IsPartOf heap (opened cells) →
    IsPartOf heap held × (alone shape code n locals heap ≡ Halted outcome (overwritten heap held.writes) prints)
halts_on_its_heap shape code n locals cells outcome held prints heap e part =
    let now : IsPartOf heap held = subst (StandsOn heap shape code) e (run_part heap shape code n (starting locals (opened cells)) part) in
    let covered : IsCovered cells heap = λ cell v is. slice_get_within heap cell v (part.now cell v is) in
    (now, halts_alike shape code n locals cells outcome held prints heap e covered now.reads)
