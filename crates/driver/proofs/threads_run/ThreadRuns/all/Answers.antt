use Rattle.std.proofs.Common.{◌≡◌, ap, ◌∙◌, arith}
use Rattle.rope.specs.Working.Ropes.{rope_text}
use Rattle.driver.proofs.ThreadRunLemmas.{no_run_seen, one_more_seen, told_of_seen}
use Rattle.driver.proofs.threads_run.ThreadRuns.all.Goals as goal

pub loop-before-init : goal.loop-before-init
loop-before-init g c = no_run_seen _ _ _ c.expanded.ensures.program c.new-seen.ensures

pub loop-before-preserved : goal.loop-before-preserved
loop-before-preserved g c =
    one_more_seen _ _ _ _ _ _ _ c.loop-before.invariant c.in-Ok.ensures c.history.ensures c.deref.ensures.value c.in_ok-add-in-Ok.ensures

pub returns : goal.returns
returns g c =
    let all : c.loop-before.before ≡ c.args.times = omega arith in
    told_of_seen _ _ _ _ _ c.done.result all c.loop-before.invariant c.in_ok-out.ensures
    (c.done.ensures.ended, c.done.ensures.written ∙ ap rope_text c.of.ensures, c.done.ensures.told)
