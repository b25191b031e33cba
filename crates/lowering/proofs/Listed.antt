-- The lines of one more section.
use Rattle.std.proofs.Common.{◌≡◌, ◌∙◌, ◌+◌, ◌<◌, ◌∷◌, ◌++◌, ℕ, suc, List, Option, Some, None, get_or, length, map, drop, refl}
use Rattle.std.proofs.Common.{sym, ap, subst, add-one, append_assoc, drop-cons}
use Rattle.std.specs.Prelude.{slice_get}
use Rattle.std.specs.Borrow.{Bor}
use Rattle.std.specs.Option.{option_copied}
use Rattle.std.specs.List.Sorted.{IsNonDecreasing}
use Rattle.std.proofs.lemmas.Option.{slice_get_read, same_Some}
use Rattle.core_lang.specs.declared.tree.Section.{Section}
use Rattle.core_lang.specs.declared.typed.Typed.{Typed}
use Rattle.locks.specs.LockPaths.{lock_path_of, lock_paths}
use Rattle.lockpaths.specs.declared.table.SectionPaths.{SectionPaths}
use Rattle.lockpaths.specs.declared.table.Paths.{Paths}
use Rattle.lockpaths.specs.Paths.{ArePaths}
use Rattle.code.specs.declared.places.SectionPlaces.{SectionPlaces}
use Rattle.code.specs.declared.section_code.SectionCode.{SectionCode}
use Rattle.code.specs.declared.section_code.ProgramCode.{ProgramCode}
use Rattle.code.specs.LineTables.{section_begins}
use Rattle.code.specs.Listing.{front_text, section_text, sections_text}
use Rattle.code.specs.Lowering.{section_code, lists_at}
use Rattle.code.specs.Theory.LineTables.{table_rises, places_told}
use Rattle.code.specs.Working.Places.{PlacesOf}
use Rattle.code.specs.Working.Sections.{front_of}
use Rattle.lowering.specs.Working.Listings.{AreTold}
use Rattle.lowering.specs.Working.Lowered.{IsLowered, IsCodeOf}

-- the prefix of an instruction in a listing is its position in the text, if a text is given
pub fronts_same : (text : Option (List ℕ)) (section : Section) (lists : List (List ℕ)) (made : SectionCode) (places : Option SectionPlaces)
    (lent : Option (Bor SectionPlaces)) → AreTold text section places → option_copied lent ≡ places → made.begins.items ≡ section_begins lists section →
    (place : ℕ) → front_of lent made place ≡ front_text text section lists place
fronts_same None section lists made None None told same is place = refl
fronts_same None section lists made None (Some lent) told same is place = absurd cc
fronts_same None section lists made (Some places) lent told same is place = absurd told
fronts_same (Some text) section lists made None lent told same is place = absurd told
fronts_same (Some text) section lists made (Some places) None told same is place = absurd cc
fronts_same (Some text) section lists made (Some places) (Some lent) told same is place =
    places_told text lists section lent.now made.begins.items (subst (PlacesOf text section) (sym (same_Some lent.now places same)) told) is place

-- a section of this number
module _ (program : Typed) (k : ℕ) (section : Section) (lt : k < length program.sections.items)
    (here : section ≡ get_or program.sections.items k section) where
  at : slice_get program.sections.items k ≡ Some section
  at = slice_get_read program.sections.items (length program.sections.items) k section refl lt here

  pub paths_are : (paths : Paths) (found : SectionPaths) → ArePaths program paths →
      found ≡ get_or paths.sections.items k found → map lock_path_of found.paths.items ≡ lock_paths program section
  paths_are paths found are there =
      (are.each k section found at
      (slice_get_read paths.sections.items (length program.sections.items) k found (sym are.sections) lt there)).paths

  -- and its code
  module _ (lists : List (List (List ℕ))) (code : ProgramCode) (made : SectionCode) (is : IsCodeOf program lists code)
      (there : made ≡ get_or code.sections.items k made) where
    pub lowered : IsLowered section (lists_at lists k) made
    lowered =
        is.each k section made at
        (slice_get_read code.sections.items (length program.sections.items) k made (sym is.long) lt there)

    pub begins_rise : IsNonDecreasing made.begins.items
    begins_rise = table_rises (lists_at lists k) section made.begins.items lowered.begins

    module _ (own : List (List ℕ)) (its : own ≡ lists_at lists k) where
      pub instructions_are : made.instructions.items ≡ section_code own section
      instructions_are = lowered.instructions ∙ ap (λ ls. section_code ls section) (sym its)

      pub section_put : (text : Option (List ℕ)) (front : ℕ → List ℕ) → ((place : ℕ) → front place ≡ front_text text section (lists_at lists k) place) →
          (old new : List ℕ) → new ≡ old ++ section_text program section own front →
          new ++ sections_text text program lists (k + 1) (drop (k + 1) program.sections.items)
          ≡ old ++ sections_text text program lists k (drop k program.sections.items)
      section_put text front told old new put =
          let sections = program.sections.items in
          let rest = sections_text text program lists (k + 1) (drop (k + 1) sections) in
          let next : drop k sections ≡ section ∷ drop (k + 1) sections =
          drop-cons sections k section lt ∙ ap (λ x. x ∷ drop (suc k) sections) (sym here)
          ∙ ap (λ (n : ℕ). section ∷ drop n sections) (sym (add-one k)) in
          let fronts : front ≡ front_text text section (lists_at lists k) = λ j place. told place j in
          ap (λ t. t ++ rest) put
          ∙ append_assoc old (section_text program section own front) rest
          ∙ ap (λ ls. old ++ (section_text program section ls front ++ rest)) its
          ∙ ap (λ f. old ++ (section_text program section (lists_at lists k) f ++ rest)) fronts
          ∙ ap (λ xs. old ++ sections_text text program lists k xs) (sym next)
