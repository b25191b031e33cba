use Rattle.std.proofs.Common.{◌≡◌, ◌∙◌, ◌<◌, false, arith, sym}
use Rattle.std.specs.Prelude.{◌==◌, not}
use Rattle.interleavings.specs.Rivals.{can_go, threads_in}
use Rattle.interleavings.proofs.Contests.{fits, passes_by, can_not, is_left_out}
use Rattle.interleavings.proofs.waiting.Contest.first.Goals.{else-thread-besides-via-then-thread-besides+else-can_go, else-thread-besides-via-else-thread-besides}
use Rattle.interleavings.proofs.waiting.Contest.first.Goals as goal

pub threads-preserved : goal.threads-preserved
threads-preserved c =
    let w = c.args.self.now.world in
    let t = c.threads.thread in
    let low : t < threads_in w.plan = omega (arith, c.threads-test.true, c.threads-threads.ensures) in
    let other : fits w.plan w.world c.args.besides t ≡ false =
    elim c.else-thread-besides.branch [
      | else-thread-besides-via-then-thread-besides+else-can_go x ↦
          can_not (can_go w.plan w.world t) (not (t == c.args.besides)) (sym x.can_go.ensures ∙ x.if-can_go.false)
      | else-thread-besides-via-else-thread-besides x ↦
          is_left_out (can_go w.plan w.world t) t c.args.besides x.if-thread-besides.false
    ] in
    sym (passes_by w.plan w.world c.args.besides t low other) ∙ c.threads.invariant
