-- The instruction at a place, by the places of its section.
use Rattle.std.proofs.Common.{◌≡◌, ◌∙◌, ℕ, List, [], ◌∷◌, ◌++◌, length, Some, None, inl, inr, sym, ap, subst, append-nil}
use Rattle.std.specs.Prelude.{slice_get}
use Rattle.std.specs.Option.{option_map_or}
use Rattle.std.proofs.lemmas.Option.{same_Some}
use Rattle.core_lang.specs.declared.tree.Section.{Section}
use Rattle.core_lang.specs.Theory.Items.{pushed_at}
use Rattle.code.specs.declared.instr.Instr.{Instr}
use Rattle.code.specs.declared.places.SectionPlaces.{SectionPlaces}
use Rattle.code.specs.declared.section_code.SectionCode.{SectionCode}
use Rattle.code.specs.Listing.{text_at, instr_text}
use Rattle.code.specs.Lowering.{lists_at}
use Rattle.code.specs.Theory.LineTables.{places_told}
use Rattle.code.specs.Working.Places.{PlacesOf, table_text}
use Rattle.lowering.specs.Plans.{Plan}
use Rattle.lowering.specs.Working.Lowered.{IsLowered}
use Rattle.report_runs.specs.Trace.{text_in, instruction_text}

-- a property of each pair of items of two lists, with one more item of the second list
pub each_more : {A B : Type 0} (P : ℕ → A → B → Type 0) (xs : List A) (ys : List B) (x : A) (y : B) →
    slice_get xs (length ys) ≡ Some x → P (length ys) x y →
    ((j : ℕ) (a : A) (b : B) → slice_get xs j ≡ Some a → slice_get ys j ≡ Some b → P j a b) →
    (j : ℕ) (a : A) (b : B) → slice_get xs j ≡ Some a → slice_get (ys ++ y ∷ []) j ≡ Some b → P j a b
each_more P xs ys x y at here before j a b one two =
    elim (pushed_at ys y j b two) [
      | inl old ↦ before j a b one old
      | inr new ↦
          let same : x ≡ a = same_Some x a (sym at ∙ ap (slice_get xs) (sym new.0) ∙ one) in
          subst (P j a) new.1 (subst (λ z. P j z y) same (subst (λ i. P i x y) (sym new.0) here))
    ]

module _ (text : List ℕ) (plan : Plan) (k place : ℕ) where
  -- the instruction of a section, by the places and the code of the section
  pub told_by : (section : Section) (here : SectionPlaces) (made : SectionCode) (lists : List (List ℕ)) →
      slice_get plan.program.sections.items k ≡ Some section → PlacesOf text section here → IsLowered section (lists_at plan.lists k) made →
      lists ≡ lists_at plan.lists k →
      text_at (λ (i : Instr). table_text here made.begins.items place ++ instr_text plan.program section lists place i) made.instructions.items place
      ≡ instruction_text text plan k place
  told_by section here made lists at are lowered own =
      let fronts = places_told text (lists_at plan.lists k) section here made.begins.items are lowered.begins place in
      (λ j. text_at (λ (i : Instr). fronts j ++ instr_text plan.program section (own j) place i) (lowered.instructions j) place)
      ∙ sym (ap (λ o. option_map_or (text_in text plan (lists_at plan.lists k) place) o []) at)

  pub untold : slice_get plan.program.sections.items k ≡ None → instruction_text text plan k place ≡ []
  untold past = ap (λ o. option_map_or (text_in text plan (lists_at plan.lists k) place) o []) past

pub none_put : (old whole : List ℕ) → whole ≡ [] → old ≡ old ++ whole
none_put old whole is = sym (append-nil old) ∙ ap (λ l. old ++ l) (sym is)
