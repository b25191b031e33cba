use Rattle.std.proofs.Common.{sym, arith, length, ◌-◌}
use Rattle.std.proofs.lemmas.Option.{slice_get_within}
use Rattle.runner_machine.proofs.Appended.{count_by_last}
use Rattle.runner_machine.proofs.held_lock.cells_of.Goals as goal

pub overflow_add-result : goal.overflow_add-result
overflow_add-result c =
    let at = sym c.in-Some.ensures.value in
    let within = slice_get_within c.args.held.now (length c.args.held.now - 1) c.in-Some.last.now at in
    omega (
      arith,
      count_by_last c.args.held.now (length c.args.held.now - 1) c.in-Some.last.now c.requires.runs at (omega (arith, within)),
      c.requires.few,
    )

pub returns-in-Some : goal.returns-in-Some
returns-in-Some c =
    let at = sym c.in-Some.ensures.value in
    let within = slice_get_within c.args.held.now (length c.args.held.now - 1) c.in-Some.last.now at in
    count_by_last c.args.held.now (length c.args.held.now - 1) c.in-Some.last.now c.requires.runs at (omega (arith, within))
