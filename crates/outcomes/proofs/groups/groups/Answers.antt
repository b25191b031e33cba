use Rattle.std.proofs.Common.{arith}
use Rattle.outcomes.proofs.Independent.{grouped_independent}
use Rattle.outcomes.proofs.groups.groups.Goals as goal

pub returns-then-threads : goal.returns-then-threads
returns-then-threads c =
    grouped_independent c.args.program.now c.args.written.now c.deref.result.now c.in_ok-bodies.bodies.items
    c.deref-2.result.now c.deref-3.result.now
    c.deref-then-threads.result.now c.len-threads.result
    (record { reads = c.in_ok-new.field-0; writes = c.in_ok-new-2.field-0 }) c.threads.new.self c.grouped.result
    c.requires.checked c.requires.expansion c.writing_out_changes_nothing.ensures.section c.deref.ensures.value
    c.deref-2.ensures.value c.deref-3.ensures.value
    c.deref-then-threads.ensures.value (omega (arith, c.len-threads.ensures)) c.in_ok-bodies.ensures
    c.threads.ensures.more
    (omega (arith, c.in_ok-new-2.ensures, c.len-3.ensures)) (c.threads.ensures.marked c.if-threads.true)
    c.grouped.ensures.joined
