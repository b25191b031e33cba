use Rattle.std.proofs.Common.{◌≡◌, ℕ, List, map, length, Some}
use Rattle.std.specs.Prelude.{slice_get}
use Rattle.core_lang.specs.declared.tree.Section.{Section}
use Rattle.inserter.specs.Placement.{AreLists, lists_of}
use Rattle.inserter.proofs.program_lists.place_by.Given as goal

abbrev pub invariant-loop-section : goal.invariant-loop-section
invariant-loop-section l = record {
  long : length l.sections.items ≡ l.section;
  each : (k : ℕ) (section : Section) (ls : List (List ℕ)) → slice_get l.program.sections.items k ≡ Some section →
      slice_get (map lists_of l.sections.items) k ≡ Some ls → AreLists l.program section l.ranks ls;
}
