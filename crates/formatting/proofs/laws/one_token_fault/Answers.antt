use Rattle.formatting.proofs.Faults.{refused_so, never_right}
use Rattle.formatting.proofs.laws.one_token_fault.Goals as goal

pub returns-clause-one : goal.returns-clause-one
returns-clause-one c = λ text a b code start r h g f is. refused_so (record {
  one_list = c.one_list.ensures;
  one_tree = c.one_tree.ensures;
  one_unexpected = c.one_unexpected.ensures;
  one_too_deep = c.one_too_deep.ensures;
  one_misplaced = c.one_misplaced.ensures;
  never_both = c.never_both.ensures;
}) text a h b code start g f r is

pub returns-clause-never : goal.returns-clause-never
returns-clause-never c = λ text a b code start ds h g f tree. never_right (record {
  one_list = c.one_list.ensures;
  one_tree = c.one_tree.ensures;
  one_unexpected = c.one_unexpected.ensures;
  one_too_deep = c.one_too_deep.ensures;
  one_misplaced = c.one_misplaced.ensures;
  never_both = c.never_both.ensures;
}) text a h b code start g f ds tree
