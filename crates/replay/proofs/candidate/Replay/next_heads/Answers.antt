use Rattle.std.proofs.Common.{◌≡◌, ◌∙◌, ◌+◌, ◌++◌, ℕ, suc, List, ap, arith}
use Rattle.replay.specs.Wanted.{next_head, next_heads}
use Rattle.replay.proofs.candidate.Replay.next_heads.Goals as goal

pub loop-thread-preserved : goal.loop-thread-preserved
loop-thread-preserved c reader is =
    let format = c.args.self.now.format in
    let program = c.args.self.now.program.now in
    let more : suc c.loop-thread.thread ≡ c.loop-thread.thread + 1 = omega arith in
    c.in_ok-push_next_head.ensures reader is
    ∙ ap (λ (heads : List (List ℕ)). heads ++ next_head format program reader.order c.loop-thread.thread) (c.loop-thread.invariant reader is)
    ∙ ap (next_heads format program reader.order) more
