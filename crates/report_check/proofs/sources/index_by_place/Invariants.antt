use Rattle.std.proofs.Common.{◌≡◌, ℕ, nat_eq}
use Rattle.std.specs.List.{find}
use Rattle.std.specs.Option.{option_copied, option_or}
use Rattle.indexmap.specs.IndexMap.{get}
use Rattle.report_check.specs.Sources.{has_place}
use Rattle.report_check.proofs.sources.index_by_place.Given as goal

-- the first helper with a place is the first of the remaining ones, or else the one of the index
abbrev pub invariant-loop-helper : goal.invariant-loop-helper
invariant-loop-helper l =
    (start : ℕ)
    → option_or (find (has_place start) l.helper-iterator.iter.rest.now) (option_copied (get nat_eq l.index start))
    ≡ find (has_place start) l.helpers
