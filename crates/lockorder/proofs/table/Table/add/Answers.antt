use Rattle.lockorder.proofs.Added.{each_added, still_few, still_within}
use Rattle.lockorder.proofs.table.Table.add.Goals as goal

pub invariant_of-self : goal.invariant_of-self
invariant_of-self c =
    let before = c.args.self.now.before.items in
    record {
      few = still_few before c.args.to c.args.from c.index.result.now c.union.result c.requires.to c.index.ensures c.union.ensures c.args.self.now.few;
      within = still_within before c.args.to c.args.from c.index.result.now c.union.result c.requires.to c.index.ensures c.union.ensures c.args.self.now.within c.requires.from;
    }

pub returns-clause-edges : goal.returns-clause-edges
returns-clause-edges c = λ b d. each_added c.args.self.now.before.items c.args.to c.args.from c.index.result.now c.union.result c.requires.to c.index.ensures c.union.ensures b d
