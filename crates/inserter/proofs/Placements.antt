-- The lists of a placement satisfy what the law of runs requires.
use Rattle.inserter.specs.Working.Laws.{PlacementsAreOrdered}

pub placements_are_ordered : PlacementsAreOrdered
placements_are_ordered program ranks placed k section lists well ranked rise is here there =
    let are = is.each k section lists here there in
    record {
      well_formed = well;
      here = (k, here);
      ranked = ranked;
      rise = rise;
      allowed = record {
        long = are.long;
        only = λ p i list at c. let x = (are.each p list at).only i c in (x.0, x.1, x.2.wanted);
        all = λ p i list path at is_path due. (are.each p list at).all i path is_path due;
      };
    }
