-- What the code has done. Nobody has to believe this file.
use Rattle.std.specs.Prelude.{◌≡◌, ℕ, List, length, slice_get, Some}
use Rattle.core_lang.specs.declared.tree.Section.{Section}
use Rattle.code.specs.declared.places.SectionPlaces.{SectionPlaces}
use Rattle.code.specs.Working.Places.{PlacesOf}
use Rattle.lowering.specs.Plans.{Plan}

-- these are the places of a plan's sections
pub record AreTables (text : List ℕ) (plan : Plan) (places : List SectionPlaces) : Type 0 where
  pub long : length places ≡ length plan.program.sections.items
  pub each : (k : ℕ) (section : Section) (here : SectionPlaces) →
      slice_get plan.program.sections.items k ≡ Some section → slice_get places k ≡ Some here →
      PlacesOf text section here
