use Rattle.std.proofs.Common.{◌≡◌, ℕ, length, Some}
use Rattle.std.specs.Prelude.{slice_get}
use Rattle.core_lang.specs.declared.tree.Section.{Section}
use Rattle.code.specs.declared.places.SectionPlaces.{SectionPlaces}
use Rattle.code.specs.Working.Places.{PlacesOf}
use Rattle.report_runs.proofs.step_teller.all_places.Given as goal

abbrev pub invariant-loop-k : goal.invariant-loop-k
invariant-loop-k l = record {
  same : l.cursor.text.now ≡ l.text;
  long : length l.places.items ≡ l.k;
  each : (j : ℕ) (section : Section) (here : SectionPlaces) → slice_get l.typed.sections.items j ≡ Some section →
      slice_get l.places.items j ≡ Some here → PlacesOf l.text section here;
}
