use Rattle.std.proofs.Common.{ap, ◌∙◌, arith, ◌++◌, ◌∷◌, []}
use Rattle.history.specs.Working.Histories.{HistoryOf, PromisedOf}
use Rattle.history.proofs.Storing.{packed_one_more, commits_one_more}
use Rattle.history.proofs.entries.History.enter.Goals as goal

pub invariant_of-self : goal.invariant_of-self
invariant_of-self c =
    let x = c.self.inside in
    let one_less = ap (λ (p : PromisedOf). p.entries) c.pack-packed.ensures.promised in (
      packed_one_more x.lists c.pack-packed.new.self x.entries.items c.push.new.self.items c.pack-packed.result c.args.entry.now
          c.self.invariant.0 c.pack-packed.ensures.packed c.pack-packed.ensures.lists c.in-Ok.ensures.items,
      omega (arith, one_less, c.in-Ok.ensures.len, c.push.ensures.capacity, c.self.invariant.1),
    )

pub returns-clause-commits : goal.returns-clause-commits
returns-clause-commits c =
    let x = c.self.inside in
    commits_one_more x.lists c.pack-packed.new.self x.entries.items c.push.new.self.items c.pack-packed.result c.args.entry.now
    c.self.invariant.0 c.pack-packed.ensures.packed c.pack-packed.ensures.lists c.in-Ok.ensures.items
    ∙ ap (λ (h : HistoryOf). h.commits ++ c.args.entry.now ∷ []) c.self.view_is
