-- Laws of a machine's runs, as the laws of `src/laws.rt` claim them.
use Rattle.std.specs.Prelude.{◌≡◌, ℕ, ◌<◌, ◌≤◌, List, length, slice_get, Option, Some, None, ℤ, ⊤}
use Rattle.core_lang.specs.declared.value.Value.{Value}
use Rattle.core_lang.specs.declared.value.Outcome.{Outcome}
use Rattle.core_lang.specs.declared.shape.Shape.{Shape}
use Rattle.code.specs.declared.instr.Instr.{Instr}
use Rattle.code.specs.Machine.{Machine, Standing, At, Halted, Stuck, Moves, Asks, Finishes, act, exec}
use Rattle.code.specs.Memory.{HeldCells, value_at, load_from, store_to, load_held, store_held, opened, overwritten}
use Rattle.code.specs.Memory.{Agrees, IsCovered, IsConsistent, IsPartOf, Keeps}
use Rattle.code.specs.Alone.{starting, alone}

-- ---- over any memory

-- the machine has halted, or is stuck
abbrev pub IsOver : {M : Type 0} → Standing M → Type 0
IsOver (At m) = ⊥
IsOver (Halted outcome memory prints) = ⊤
IsOver Stuck = ⊤

-- a claim on every run of every code, over every memory of this type; a run has the state of the machine after each
-- number of instructions
abbrev pub InRuns : (M : Type 0) → ((ℕ → Standing M) → Type 0) → Type 0
InRuns M Claim =
    (load : M → ℕ → Option (Value × M)) (store : M → ℕ → Value → Option M)
    (shape : Shape) (code : List Instr) (m : Machine M) →
    Claim (λ n. exec load store shape code n m)

-- a run that is over stays as it is
abbrev pub StaysOver : {M : Type 0} → (ℕ → Standing M) → Type 0
StaysOver run = (n later : ℕ) → n ≤ later → IsOver (run n) → run later ≡ run n

-- two ends of a run are the same
abbrev pub EndsOnce : {M : Type 0} → (ℕ → Standing M) → Type 0
EndsOnce run = (n k : ℕ) → IsOver (run n) → IsOver (run k) → run n ≡ run k

-- ---- heaps with values written into them

-- a written cell has the value that was written
abbrev pub HasWritten : Type 0
HasWritten =
    (heap : List Value) (writes : List (ℕ × Value)) (cell : ℕ) (v : Value) →
    cell < length heap → value_at writes cell ≡ Some v → slice_get (overwritten heap writes) cell ≡ Some v

-- a cell that was not written has its former value
abbrev pub KeepsUnwritten : Type 0
KeepsUnwritten =
    (heap : List Value) (writes : List (ℕ × Value)) (cell : ℕ) →
    value_at writes cell ≡ None → slice_get (overwritten heap writes) cell ≡ slice_get heap cell

-- the number of cells does not change
abbrev pub KeepsSize : Type 0
KeepsSize = (heap : List Value) (writes : List (ℕ × Value)) → length (overwritten heap writes) ≡ length heap

-- ---- on held cells, beside heaps

-- a machine on held cells, put on a heap with its writes made
abbrev pub on_heap : List Value → Machine HeldCells → Machine (List Value)
on_heap heap m = record {
  place = m.place;
  stack = m.stack;
  locals = m.locals;
  memory = overwritten heap m.memory.writes;
  prints = m.prints;
}

-- an instruction that moves a machine on held cells keeps them
abbrev pub KeepsHeld : Type 0
KeepsHeld =
    (shape : Shape) (instr : Option Instr) (m next : Machine HeldCells) →
    act load_held store_held shape instr m ≡ Moves next → Keeps m.memory next.memory

-- such an instruction moves the machine in the same way on each heap that has the cells and the values that were read
-- of them
abbrev pub MovesAlike : Type 0
MovesAlike =
    (shape : Shape) (instr : Option Instr) (m next : Machine HeldCells) (heap : List Value) →
    act load_held store_held shape instr m ≡ Moves next →
    IsConsistent m.memory → IsCovered m.memory.cells heap → Agrees heap next.memory.reads →
    act load_from store_to shape instr (on_heap heap m) ≡ Moves (on_heap heap next)

-- an instruction that asks for locks does so on every heap
abbrev pub AsksAlike : Type 0
AsksAlike =
    (shape : Shape) (instr : Option Instr) (m : Machine HeldCells) (point : ℕ) (heap : List Value) →
    act load_held store_held shape instr m ≡ Asks point →
    act load_from store_to shape instr (on_heap heap m) ≡ Asks point

-- an instruction that comes to an outcome does so on every heap
abbrev pub FinishesAlike : Type 0
FinishesAlike =
    (shape : Shape) (instr : Option Instr) (m : Machine HeldCells) (outcome : Outcome) (heap : List Value) →
    act load_held store_held shape instr m ≡ Finishes outcome →
    act load_from store_to shape instr (on_heap heap m) ≡ Finishes outcome

-- a section that halts on cells that it holds from its start halts in the same way on each heap that has the cells and
-- the values that it read of them
abbrev pub HaltsAlike : Type 0
HaltsAlike =
    (shape : Shape) (code : List Instr) (n : ℕ) (locals : List Value) (cells : List (ℕ × Value))
    (outcome : Outcome) (held : HeldCells) (prints : List ℤ) (heap : List Value) →
    exec load_held store_held shape code n (starting locals (opened cells)) ≡ Halted outcome held prints →
    IsCovered cells heap → Agrees heap held.reads →
    alone shape code n locals heap ≡ Halted outcome (overwritten heap held.writes) prints

-- on a heap that the cells are part of at its start, such a section halts in the same way, and the cells are part of
-- that heap at its end
abbrev pub HaltsOnItsHeap : Type 0
HaltsOnItsHeap =
    (shape : Shape) (code : List Instr) (n : ℕ) (locals : List Value) (cells : List (ℕ × Value))
    (outcome : Outcome) (held : HeldCells) (prints : List ℤ) (heap : List Value) →
    exec load_held store_held shape code n (starting locals (opened cells)) ≡ Halted outcome held prints →
    IsPartOf heap (opened cells) →
    IsPartOf heap held × (alone shape code n locals heap ≡ Halted outcome (overwritten heap held.writes) prints)
