use Rattle.std.proofs.Common.{◌≡◌, ◌∙◌, ◌<◌, ℕ, length, arith}
use Rattle.bit_set.specs.Working.Sets.{has_number}
use Rattle.outcomes.specs.Working.Marking.{marked}
use Rattle.outcomes.proofs.Grouped.{finest_then, grouped_then, mark_is}
use Rattle.outcomes.proofs.groups.grouped.Goals as goal

pub loop-number-preserved : goal.loop-number-preserved
loop-number-preserved c =
    let cells = c.args.cells.now in
    let touched = c.args.touched.now in
    let n = c.loop-number.number in
    let now = c.loop-number.groups.items in
    let next = c.join.new.groups.items in
    let within : n < length cells = omega (arith, c.loop-number-test.true) in
    let readers : (t : ℕ) → has_number c.threads_at-readers.result t ≡ marked cells touched.reads t n =
    λ t. c.threads_at-readers.ensures t ∙ mark_is cells touched.reads n t _ within in
    let writers : (t : ℕ) → has_number c.threads_at-writers.result t ≡ marked cells touched.writes t n =
    λ t. c.threads_at-writers.ensures t ∙ mark_is cells touched.writes n t _ within in
    record {
      long = c.join.ensures.coarser.0 ∙ c.loop-number.invariant.long;
      grouped = grouped_then cells touched now next n c.threads_at-readers.result c.threads_at-writers.result readers writers
          c.loop-number.invariant.grouped c.join.ensures.coarser c.join.ensures.joined;
      finest = finest_then cells touched now next n c.threads_at-readers.result c.threads_at-writers.result readers writers
          c.loop-number.invariant.finest c.join.ensures.linked;
    }

pub returns-clause-finest : goal.returns-clause-finest
returns-clause-finest c =
    λ label shared. c.loop-number.invariant.finest label
    (λ k below. shared k (omega (arith, below, c.loop-number.auto.number-end)))
