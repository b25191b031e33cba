-- How the cells of an open section stay part of a heap, as the law of `src/laws.rt` claims it. Nobody has to believe
-- this file.
use Rattle.std.specs.Prelude.{◌≡◌, ℕ, List, length, slice_get, Some}
use Rattle.std.specs.List.{Contains}
use Rattle.core_lang.specs.declared.value.Value.{Value}
use Rattle.locks.specs.declared.lock.Lock.{Lock}
use Rattle.layout.specs.Layouts.{LayoutOf}
use Rattle.code.specs.Memory.{HeldCells, IsPartOf}
use Rattle.lock_manager.specs.Manager.{Managed}
use Rattle.lock_manager.specs.Working.Managers.{IsKept}
use Rattle.runner.specs.Working.Opens.{OpenOf, IsOpen, Gets, Waits, moved_by}

-- the cells that the section holds, and what it read and wrote
abbrev pub memory_of : OpenOf → HeldCells
memory_of o = o.activation.machine.memory

-- two heaps have the same length, and the same value in each cell of these locks
pub record AreSameOn (layout : LayoutOf) (locks : List Lock) (heap heap' : List Value) : Type 0 where
  pub long : length heap' ≡ length heap
  pub cells : (cell : ℕ) (lock : Lock) → slice_get layout.cell_locks cell ≡ Some lock → Contains locks lock →
      slice_get heap' cell ≡ slice_get heap cell

-- if the cells of a section are part of a heap, they stay part of it after its instructions, and after a lock that it
-- is granted or waits for. They are also part of another heap with the same values in the cells of its locks
pub record SectionsStayPart : Type 0 where
  pub moves : (o : OpenOf) (count : ℕ) (heap : List Value) → IsPartOf heap (memory_of o) →
      IsPartOf heap (memory_of (moved_by count o))
  pub gets : (m m' : Managed) (o o' : OpenOf) → IsKept m → m.layout ≡ o.plan.layout → IsOpen o → Gets m o o' m' →
      IsPartOf m.values (memory_of o) → IsPartOf m.values (memory_of o')
  pub waits : (m m' : Managed) (o o' : OpenOf) (holder : ℕ) (heap : List Value) → Waits m o holder o' m' →
      IsPartOf heap (memory_of o) → IsPartOf heap (memory_of o')
  pub later : (o : OpenOf) (heap heap' : List Value) → IsOpen o →
      AreSameOn o.plan.layout o.activation.held heap heap' → IsPartOf heap (memory_of o) → IsPartOf heap' (memory_of o)
