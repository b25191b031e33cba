use Rattle.std.proofs.Common.{◌≡◌, refl, sym, subst, arith}
use Rattle.code.specs.Machine.{Moves, Undefined}
use Rattle.runner_machine.specs.Working.Machines.{RunOf, FitsRoom, setting, with_machine}
use Rattle.runner_machine.proofs.Locals.{set_is, set_past, set_run, set_effect}
use Rattle.runner_machine.proofs.machine.StackMachine.put_local.Goals as goal

pub overflow_add-self : goal.overflow_add-self
overflow_add-self c =
    let x = c.self.inside in
    let run : RunOf = record {
      machine = record { place = x.place; stack = x.operands.stack; locals = x.locals.items; memory = x.held.memory; prints = x.prints };
      operand_room = x.operands.room;
      layout = x.held.layout;
      locks = x.held.locks;
      lock_room = x.held.lock_room;
      cell_room = x.held.cell_room;
    } in
    let fits = subst (FitsRoom run.operand_room) (set_is run.machine c.args.local c.in-Some.value (sym c.in-Some.ensures) (omega (arith, c.if-local-len.false, c.len.ensures, x.locals.ok.0)))
    (subst (λ (r : RunOf). FitsRoom r.operand_room (setting c.args.local r.machine)) (sym c.self.view_is) c.requires) in
    omega (arith, fits.0)

pub returns : goal.returns
returns c =
    let x = c.self.inside in
    let run : RunOf = record {
      machine = record { place = x.place; stack = x.operands.stack; locals = x.locals.items; memory = x.held.memory; prints = x.prints };
      operand_room = x.operands.room;
      layout = x.held.layout;
      locks = x.held.locks;
      lock_room = x.held.lock_room;
      cell_room = x.held.cell_room;
    } in
    let k = c.args.local in
    let v = c.in-Some.value in
    let o = c.pop.new.self in
    subst (λ (r : RunOf). (setting k r.machine ≡ Moves (set_run run k v o).machine) × (set_run run k v o ≡ with_machine r (set_run run k v o).machine)) c.self.view_is
    (set_effect run k v o c.pop.ensures (sym c.in-Some.ensures) (omega (arith, c.if-local-len.false, c.len.ensures, x.locals.ok.0)))

pub returns-then-local-len : goal.returns-then-local-len
returns-then-local-len c =
    let x = c.self.inside in
    let run : RunOf = record {
      machine = record { place = x.place; stack = x.operands.stack; locals = x.locals.items; memory = x.held.memory; prints = x.prints };
      operand_room = x.operands.room;
      layout = x.held.layout;
      locks = x.held.locks;
      lock_room = x.held.lock_room;
      cell_room = x.held.cell_room;
    } in (
      subst (λ (r : RunOf). setting c.args.local r.machine ≡ Undefined) c.self.view_is
          (set_past run.machine c.args.local c.in-Some.value (sym c.in-Some.ensures) (omega (arith, c.if-local-len.true, c.len.ensures, x.locals.ok.0))),
      refl,
    )
