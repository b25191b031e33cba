use Rattle.std.proofs.Common.{◌≡◌, ℕ, List, length, Some}
use Rattle.std.specs.Prelude.{slice_get}
use Rattle.core_lang.specs.declared.tree.Section.{Section}
use Rattle.language_server.specs.Held.{AreHeldLists}
use Rattle.language_server.specs.Working.Lines.{held_in}
use Rattle.language_server.proofs.held_paths.held.Given as goal

abbrev pub invariant-loop-number : goal.invariant-loop-number
invariant-loop-number l = record {
  long : length (held_in l.all.items) ≡ l.number;
  each : (k : ℕ) (section : Section) (ls : List (List ℕ)) → slice_get l.program.program.sections.items k ≡ Some section →
      slice_get (held_in l.all.items) k ≡ Some ls → AreHeldLists l.program.program section l.program.ranks ls;
}
