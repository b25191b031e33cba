use Rattle.std.proofs.Common.{refl, sym, ap, subst}
use Rattle.code.specs.Machine.{Effect}
use Rattle.code.specs.Memory.{HeldCells}
use Rattle.runner_machine.specs.Working.Machines.{RunOf, FitsRoom, HasEffect}
use Rattle.runner_machine.proofs.Locals.{get_is, get_none}
use Rattle.runner_machine.proofs.machine.StackMachine.get_local.Goals as goal

pub push-requires : goal.push-requires
push-requires c =
    subst (FitsRoom c.args.self.now.operand_room)
    (get_is c.args.self.now.machine c.args.local c.self.inside.locals.items c.deref.result.now (ap (λ (r : RunOf). r.machine.locals) c.self.view_is) c.deref.ensures.value c.in-Some.value c.in-Some.ensures.lookup)
    c.requires

pub returns-in-Some : goal.returns-in-Some
returns-in-Some c =
    subst (λ (e : Effect HeldCells). HasEffect e c.args.self.now c.push.result c.push.new.self)
    (sym (get_is c.args.self.now.machine c.args.local c.self.inside.locals.items c.deref.result.now (ap (λ (r : RunOf). r.machine.locals) c.self.view_is) c.deref.ensures.value c.in-Some.value c.in-Some.ensures.lookup))
    c.push.ensures

pub returns-in-None : goal.returns-in-None
returns-in-None c = (
  get_none c.args.self.now.machine c.args.local c.self.inside.locals.items c.deref.result.now (ap (λ (r : RunOf). r.machine.locals) c.self.view_is) c.deref.ensures.value c.in-None.ensures.lookup,
  refl,
)
