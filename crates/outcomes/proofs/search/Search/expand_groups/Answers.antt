use Rattle.std.proofs.Common.{◌∙◌, List, take, ap, arith}
use Rattle.core_lang.specs.declared.value.Value.{Value}
use Rattle.outcomes.specs.Working.States.{reached_of}
use Rattle.outcomes.specs.Working.Steps.{state_in}
use Rattle.outcomes.specs.Working.Reducing.{reduced_from, reduced_from_all}
use Rattle.outcomes.proofs.Going.{stop_further}
use Rattle.outcomes.proofs.Covering.{groups_all}
use Rattle.outcomes.proofs.search.Search.expand_groups.Goals as goal

pub returns-in-Some : goal.returns-in-Some
returns-in-Some c =
    let search = c.args.self.now in
    let groups = c.args.groups.now in
    let states = c.args.layer.now.states in
    let k = c.loop-number.number in
    let s = state_in search c.get.result.now in
    stop_further search c.args.work.now c.loop-number.work c.expand_group.new.work (reduced_from_all search groups (take k states))
    (reduced_from search groups s) (reduced_from_all search groups states) c.in-Some.stop c.loop-number.invariant
    (λ f left. groups_all search groups states k s f left (omega (arith, c.loop-number-test.true, c.len-number-end.ensures))
    (c.get.ensures.one ∙ ap (λ (o : List Value). reached_of o c.get.result.now) c.requires.opening))
    (rw c.in-Some.is at c.in_ok-stop.ensures)
