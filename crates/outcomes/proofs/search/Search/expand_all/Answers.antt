use Rattle.std.proofs.Common.{◌+◌, ◌∙◌, List, take, ap, arith}
use Rattle.core_lang.specs.declared.value.Value.{Value}
use Rattle.outcomes.specs.Working.States.{reached_of}
use Rattle.outcomes.specs.Working.Steps.{made_from, made_from_all}
use Rattle.outcomes.proofs.Going.{goes_again, all_more, states_all, stop_further}
use Rattle.outcomes.proofs.search.Search.expand_all.Goals as goal

pub loop-number-preserved : goal.loop-number-preserved
loop-number-preserved c =
    goes_again c.args.self.now c.args.work.now c.loop-number.work c.expand.new.work (made_from_all c.args.self.now (take c.loop-number.number c.args.layer.now.states))
    (made_from c.args.self.now c.get.result.now) (made_from_all c.args.self.now (take (c.loop-number.number + 1) c.args.layer.now.states))
    c.loop-number.invariant (rw c.in_default.is at c.in_ok-stop.ensures)
    (all_more c.args.self.now c.args.layer.now.states c.loop-number.number c.get.result.now (omega (arith, c.loop-number-test.true, c.len-number-end.ensures)) (c.get.ensures.one ∙ ap (λ (o : List Value). reached_of o c.get.result.now) c.requires.opening))

pub returns-in-Some : goal.returns-in-Some
returns-in-Some c =
    stop_further c.args.self.now c.args.work.now c.loop-number.work c.expand.new.work (made_from_all c.args.self.now (take c.loop-number.number c.args.layer.now.states))
    (made_from c.args.self.now c.get.result.now) (made_from_all c.args.self.now c.args.layer.now.states) c.in-Some.stop
    c.loop-number.invariant
    (λ f left. states_all c.args.self.now c.args.layer.now.states c.loop-number.number c.get.result.now f left (omega (arith, c.loop-number-test.true, c.len-number-end.ensures)) (c.get.ensures.one ∙ ap (λ (o : List Value). reached_of o c.get.result.now) c.requires.opening))
    (rw c.in-Some.is at c.in_ok-stop.ensures)
