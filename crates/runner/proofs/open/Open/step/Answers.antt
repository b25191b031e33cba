use Rattle.std.specs.Prelude.{◌≡◌, ◌++◌, ℕ, Some}
use Rattle.std.proofs.Common.{refl, sym, ap, ◌∙◌, subst}
use Rattle.core_lang.specs.declared.typed.Typed.{Typed}
use Rattle.code.specs.Machine.{Effect, Moves, act}
use Rattle.code.specs.Memory.{HeldCells, load_held, store_held}
use Rattle.worlds.specs.Worlds.{next_effect}
use Rattle.runner_machine.specs.Working.Machines.{RunOf, FitsRoom, HasSmallCells, with_machine}
use Rattle.runner.specs.Working.Asked.{AreTaken}
use Rattle.runner.specs.Working.Opens.{OpenOf}
use Rattle.runner.specs.Working.Ties.{open_as, open_in, its_call, IsKeptOpen}
use Rattle.runner.specs.declared.body.SectionFrame.{SectionFrame}
use Rattle.runner.proofs.Opened.{RunsInOrder, next_fits, cells_small, kept_moving}
use Rattle.runner.proofs.open.Open.step.Goals as goal

pub step-requires-clause-small : goal.step-requires-clause-small
step-requires-clause-small c =
    let x = c.self.inside in
    let o = open_in x.program.now x.ticket x.body.value in
    subst (λ (b : SectionFrame). HasSmallCells b.machine.machine.memory) (sym c.deref_mut-body.ensures.value) (cells_small o c.self.invariant.0.is_open)

pub step-requires-clause-fits : goal.step-requires-clause-fits
step-requires-clause-fits c =
    let x = c.self.inside in
    let o = open_in x.program.now x.ticket x.body.value in
    let b = x.body.value in
    let same_body : c.deref_mut-body.result.now ≡ b = c.deref_mut-body.ensures.value in
    let typed : c.expanded.result.now ≡ x.program.now.program =
    c.expanded.ensures.program in
    let r : RunsInOrder o = record {
      is_open = c.self.invariant.0.is_open;
      pending = ap (λ (o : OpenOf). o.activation.pending) c.self.view_is ∙ c.requires;
      outcome = refl;
    } in
    let i = c.instruction-instruction.result in
    let is : next_effect o.plan o.activation ≡ act load_held store_held o.plan.program.shape (Some i) o.activation.machine =
    subst (λ (o : OpenOf). next_effect o.plan o.activation
    ≡ act load_held store_held o.plan.program.shape (Some i) o.activation.machine) (sym c.self.view_is) c.instruction-instruction.ensures in
    let effect = is ∙ ap (λ (t : Typed). act load_held store_held t.shape (Some i) b.machine.machine) (sym typed) in
    let of = c.code-shown.ensures in
    subst (λ (b : SectionFrame). FitsRoom b.machine.operand_room (act load_held store_held c.expanded.result.now.shape (Some i) b.machine.machine))
    (sym same_body)
    (subst (λ (room : ℕ). FitsRoom room (act load_held store_held c.expanded.result.now.shape (Some i) b.machine.machine))
    (sym c.self.invariant.0.operands)
    (subst (λ (e : Effect HeldCells). FitsRoom o.room.operands e) effect
    (next_fits o c.code-shown.result.now c.sections_stay_in_order.ensures of r)))

pub invariant_of-self : goal.invariant_of-self
invariant_of-self c =
    let x = c.self.inside in
    let o = open_in x.program.now x.ticket x.body.value in
    let b = x.body.value in
    let same_body : c.deref_mut-body.result.now ≡ b = c.deref_mut-body.ensures.value in
    let typed : c.expanded.result.now ≡ x.program.now.program =
    c.expanded.ensures.program in
    let r : RunsInOrder o = record {
      is_open = c.self.invariant.0.is_open;
      pending = ap (λ (o : OpenOf). o.activation.pending) c.self.view_is ∙ c.requires;
      outcome = refl;
    } in
    let i = c.instruction-instruction.result in
    let is : next_effect o.plan o.activation ≡ act load_held store_held o.plan.program.shape (Some i) o.activation.machine =
    subst (λ (o : OpenOf). next_effect o.plan o.activation
    ≡ act load_held store_held o.plan.program.shape (Some i) o.activation.machine) (sym c.self.view_is) c.instruction-instruction.ensures in
    let m = c.step.new.self.machine in
    let moves : next_effect o.plan o.activation ≡ Moves m =
    is ∙ ap (λ (t : Typed). act load_held store_held t.shape (Some i) b.machine.machine) (sym typed)
    ∙ ap (λ (b : SectionFrame). act load_held store_held c.expanded.result.now.shape (Some i) b.machine.machine) (sym same_body)
    ∙ c.in-Moved.ensures.0 in
    let kept = kept_moving o x.ticket x.body.value.machine x.body.value.pending.room m
    c.steps_go_alike.ensures.keeps c.sections_stay_in_order.ensures r c.self.invariant.0 moves in
    let at_run = subst (λ (run : RunOf).
    IsKeptOpen (open_as x.program.now x.ticket b.step (its_call b) run b.pending.locks b.asked)
    x.ticket run b.pending.room) (sym (c.in-Moved.ensures.1 ∙ ap (λ (b : SectionFrame). with_machine b.machine m) same_body)) kept in (
      subst (λ (b : SectionFrame).
          IsKeptOpen (open_as x.program.now x.ticket b.step (its_call b) c.step.new.self b.pending.locks b.asked)
          x.ticket c.step.new.self b.pending.room) (sym same_body) at_run,
      ap (λ (b : SectionFrame). b.grants.items) same_body ∙ c.self.invariant.1,
      subst (λ (b : SectionFrame). AreTaken x.program.now b.section (x.ticket.session.held ++ b.pending.locks) b.taken) (sym same_body) c.self.invariant.2,
    )

pub invariant_of-self-in-Asks : goal.invariant_of-self-in-Asks
invariant_of-self-in-Asks c =
    let x = c.self.inside in
    let now = c.deref_mut-body.result.now in
    let same_body : now ≡ x.body.value = c.deref_mut-body.ensures.value in
    let at_body = subst (λ (b : SectionFrame).
    IsKeptOpen (open_as x.program.now x.ticket b.step (its_call b) b.machine b.pending.locks b.asked) x.ticket b.machine b.pending.room)
    (sym same_body) c.self.invariant.0 in (
      subst (λ (run : RunOf).
          IsKeptOpen (open_as x.program.now x.ticket now.step (its_call now) run now.pending.locks now.asked) x.ticket run now.pending.room)
          (sym c.in-Asks.ensures.1) at_body,
      ap (λ (b : SectionFrame). b.grants.items) same_body ∙ c.self.invariant.1,
      subst (λ (b : SectionFrame). AreTaken x.program.now b.section (x.ticket.session.held ++ b.pending.locks) b.taken) (sym same_body) c.self.invariant.2,
    )

pub invariant_of-self-in-Finished : goal.invariant_of-self-in-Finished
invariant_of-self-in-Finished c =
    let x = c.self.inside in
    let now = c.deref_mut-body.result.now in
    let same_body : now ≡ x.body.value = c.deref_mut-body.ensures.value in
    let at_body = subst (λ (b : SectionFrame).
    IsKeptOpen (open_as x.program.now x.ticket b.step (its_call b) b.machine b.pending.locks b.asked) x.ticket b.machine b.pending.room)
    (sym same_body) c.self.invariant.0 in (
      subst (λ (run : RunOf).
          IsKeptOpen (open_as x.program.now x.ticket now.step (its_call now) run now.pending.locks now.asked) x.ticket run now.pending.room)
          (sym c.in-Finished.ensures.1) at_body,
      ap (λ (b : SectionFrame). b.grants.items) same_body ∙ c.self.invariant.1,
      subst (λ (b : SectionFrame). AreTaken x.program.now b.section (x.ticket.session.held ++ b.pending.locks) b.taken) (sym same_body) c.self.invariant.2,
    )
