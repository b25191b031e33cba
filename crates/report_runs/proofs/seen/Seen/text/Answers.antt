use Rattle.std.proofs.Common.{◌++◌, length, ap, ◌∙◌, arith}
use Rattle.report_runs.specs.Working.Heads.{totals_text}
use Rattle.report_runs.proofs.Keyed.{text_of}
use Rattle.report_runs.proofs.seen.Seen.text.Goals as goal

pub returns : goal.returns
returns c = λ program runs seen.
    let all = ap length c.deref-told-items.ensures.value in
    text_of program runs c.args.self.now seen _ _ _ _ c.loop-told.told-index c.len.ensures.len c.len-2.ensures.len (omega arith)
    (c.in_ok-push_head.ensures ∙ ap (λ bs. bs ++ totals_text c.args.self.now.runs c.len.result c.len-2.result) c.new-out.ensures.bytes)
    c.loop-told.invariant
