-- Each cell that a group of statements reaches is protected by a lock that its thread has locked.
use Rattle.std.proofs.Common.{◌≡◌, ℕ, List, [], ◌∷◌, Option, Some, None}
use Rattle.std.proofs.Common.{slice_get, refl, sym, ap, ◌∙◌, subst}
use Rattle.std.specs.List.{Contains}
use Rattle.core_lang.specs.declared.value.Value.{Value}
use Rattle.core_lang.specs.Typing.{lookup}
use Rattle.core_lang.specs.Theory.Items.{same_value, not_in_none}
use Rattle.locks.specs.Locks.{among, lock_of_cell}
use Rattle.locks.specs.Theory.Order.{among_contains, contains_among}
use Rattle.code.specs.declared.instr.Instr.{Instr}
use Rattle.code.specs.declared.instr.Instr.TheVariants as instr
use Rattle.code.specs.Machine.{Effect, Moves, Asks, Finishes, Undefined, act}
use Rattle.code.specs.Memory.{HeldCells, value_at, load_held, store_held}
use Rattle.lowering.specs.Plans.{Plan, IsCompiled}
use Rattle.worlds.specs.Worlds.{World, ThreadState, Activation, HasOpen, code_at, next_effect}
use Rattle.c_language.specs.Meaning.{Frame, Anything}
use Rattle.c_language.specs.declared.statement.Operand.{Operand}
use Rattle.c_language.specs.Groups.{Group}
use Rattle.c_language.specs.Alike.{machine_of, AreFitting, Beside}
use Rattle.c_language.specs.Runs.{begin_group, IsAcquire}
use Rattle.c_threads.specs.Threads.{Progress, Taking, Over, Leaving, CallInC, ThreadInC, WorldInC}
use Rattle.c_threads.specs.Threads.{spots_at, group_in, frame}
use Rattle.c_threads.specs.Claims.{Runs, HasFittingNumbers, LocksAreApart, accessed_in, next_accesses, IsCovered, AccessesAreCovered, NoRaces}
use Rattle.c_threads.proofs.Shared.{reached_held}
use Rattle.c_threads.proofs.Beside.{GoesOn, is_plan}
use Rattle.c_threads.proofs.Stands.{CallStands}
use Rattle.c_threads.proofs.Calls.{call_at_progress}
use Rattle.c_threads.proofs.Runs.{RunLaws, Kept, stack_fits}

module _ (laws : RunLaws) (plan : Plan) (ok : IsCompiled plan) (short : HasFittingNumbers plan) (base : WorldInC) (w : World) (c : WorldInC) (k : Kept plan base w c) where
  -- ---- accesses

  on_anything : (place : ℕ) (f : Frame HeldCells) (ops : List Operand) (x : Effect HeldCells) → Beside place f ops x Anything → (x ≡ Undefined → ⊥) → ⊥
  on_anything place f ops (Moves next) b some = b
  on_anything place f ops (Asks point) b some = b
  on_anything place f ops (Finishes outcome) b some = b
  on_anything place f ops Undefined b some = some refl

  module _ (t : ℕ) (x : ThreadInC) (call : CallInC) (cell : ℕ) (h : Runs c t x call) (e : call.progress ≡ Taking []) where
    place_of : (thread : ThreadState) × (slice_get w.threads t ≡ Some thread) × CallStands plan c.cells thread x call (Taking [])
    place_of = call_at_progress plan w c k.stands t x call (Taking []) h e

    abbrev a_of : Activation
    a_of = place_of.2.1

    abbrev go_of : GoesOn plan c.cells x.locked call [] a_of
    go_of = place_of.2.3

    opened : HasOpen w t a_of
    opened = (place_of.0, place_of.1, place_of.2.2)

    abbrev frame_here : Frame HeldCells
    frame_here = frame call go_of.memory

    -- a cell that the section holds is covered
    is_covered : (v : Value) → value_at go_of.memory.cells cell ≡ Some v → IsCovered plan x cell
    is_covered v there =
        let mine = (k.reached.sound.well t a_of opened).only cell (v, ap (λ (b : Activation). value_at b.machine.memory.cells cell) go_of.is ∙ there) in
        (mine.0, sym (ok.laid_out.cell_locks cell) ∙ mine.1, among_contains x.locked mine.0 (ap (λ (b : Activation). among b.held mine.0) (sym go_of.is) ∙ mine.2))

    -- over the cells that the section holds, its group does nothing undefined
    not_anything : (i : Instr) → (IsAcquire i → ⊥) → slice_get (code_at plan call.call.section) call.place ≡ Some i →
        begin_group load_held store_held plan.program (group_in plan call.call.section call.place i) frame_here ≡ Anything → ⊥
    not_anything i other is any =
        let machine = machine_of call.place go_of.stack frame_here in
        let effect : next_effect plan a_of ≡ act load_held store_held plan.program.shape (Some i) machine =
        ap (next_effect plan) go_of.is ∙ ap (λ o. act load_held store_held plan.program.shape o machine) is in
        let next = laws.steps.ready.next plan w ok k.reached.sound k.reached.ready t a_of opened (ap (λ (b : Activation). b.pending) go_of.is) (ap (λ (b : Activation). b.outcome) go_of.is) in
        let fit = subst (λ (b : Activation). AreFitting b.machine.stack) go_of.is
        (stack_fits laws plan ok short base w c k t a_of opened (ap (λ (b : Activation). b.outcome) go_of.is)) in
        let s = laws.steps.groups load_held store_held plan.program (code_at plan call.call.section) (spots_at plan call.call.section) call.place i go_of.stack frame_here
        (is_plan laws.steps.plans plan call.call.section) is other go_of.low go_of.hold fit in
        on_anything call.place frame_here s.operands (act load_held store_held plan.program.shape (Some i) machine)
        (subst (Beside call.place frame_here s.operands (act load_held store_held plan.program.shape (Some i) machine)) any s.beside)
        (λ u. next.defined (effect ∙ u))

    in_group : (o : Option Group) → (begin_group load_held store_held plan.program o frame_here ≡ Anything → ⊥) →
        Contains (accessed_in c plan call o) cell → IsCovered plan x cell
    in_group None some has = absurd (not_in_none cell has)
    in_group (Some g) some has =
        let mine = reached_held plan.program.shape g.statements frame_here c.cells cell go_of.sees some has in
        is_covered mine.0 mine.1

    in_instruction : (o : Option Instr) → slice_get (code_at plan call.call.section) call.place ≡ o →
        Contains (accessed_in c plan call (lookup o (group_in plan call.call.section call.place))) cell → IsCovered plan x cell
    in_instruction None is has = absurd (not_in_none cell has)
    in_instruction (Some (instr.Acquire point)) is has = absurd (not_in_none cell has)
    in_instruction (Some i) is has = in_group (group_in plan call.call.section call.place i) (not_anything i (λ other. other) is) has

  pub covered : AccessesAreCovered plan c
  covered t x call cell h has = by call.progress refl has
    where
      by : (p : Progress) → call.progress ≡ p → Contains (next_accesses c plan call p) cell → IsCovered plan x cell
      by (Taking []) e has = in_instruction t x call cell h e (slice_get (code_at plan call.call.section) call.place) refl has
      by (Taking (lock ∷ rest)) e has = absurd (not_in_none cell has)
      by (Over outcome) e has = absurd (not_in_none cell has)
      by (Leaving outcome left) e has = absurd (not_in_none cell has)

  -- ---- no data race

  pub apart : LocksAreApart c
  apart t u x y lock at at' h h' = k.order.apart t u x y lock at at' (contains_among x.locked lock h) (contains_among y.locked lock h')

  pub no_races : NoRaces plan c
  no_races t u x y call other cell h h' has has' =
      let one = covered t x call cell h has in
      let two = covered u y other cell h' has' in
      let same : one.0 ≡ two.0 = same_value (lock_of_cell plan.program cell) one.0 two.0 one.1 two.1 in
      apart t u x y two.0 h.at h'.at (subst (Contains x.locked) same one.2) two.2
