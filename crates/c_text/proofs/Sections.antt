-- One section more, for texts of numbered sections.
use Rattle.std.proofs.Common.{◌≡◌, ◌∙◌, ◌+◌, ◌<◌, ◌++◌, ◌∷◌, [], ℕ, zero, suc, List, Bool, Option, Some, None, length, map, drop, refl, sym, ap, arith, add-one, append_assoc}
use Rattle.std.specs.Prelude.{codes, slice_get, option_map, option_and_then}
use Rattle.std.specs.Option.{option_map_or}
use Rattle.std.proofs.lemmas.Option.{slice_get-map}
use Rattle.core_lang.specs.declared.tree.Section.{Section}
use Rattle.core_lang.specs.declared.typed.Typed.{Typed}
use Rattle.flow.specs.Points.{Point, points}
use Rattle.code.specs.declared.listed.Listed.{Listed}
use Rattle.code.specs.declared.places.SectionPlaces.{SectionPlaces}
use Rattle.code.specs.LineTables.{section_begins, point_at}
use Rattle.code.specs.Listing.{text_at}
use Rattle.code.specs.Lowering.{section_code, lists_at}
use Rattle.code.specs.Working.Asked.{lists_of}
use Rattle.code.specs.Working.Places.{PlacesOf, position_in, position_at}
use Rattle.c_statements.specs.Acquires.{numbered}
use Rattle.c_sections.specs.Instructions.{prints}
use Rattle.c_sections.specs.Marks.{mark, goes_on, line_in, directive_if}
use Rattle.c_sections.specs.Working.Marked.{line_of}
use Rattle.c_sections.specs.Sections.{prototype_text, section_text}
use Rattle.c_text.specs.Mains.{case_text}
use Rattle.c_text.specs.Files.{Source, is_printing, prototype_of, section_of, marked_of, case_of}
use Rattle.c_text.specs.Working.Sections.{at_number, IsListed}

numbered_at : (text : ℕ → Section → List ℕ) (xs : List Section) (k j : ℕ) → k < length xs →
    numbered text j (drop k xs) ≡ text_at (text j) xs k ++ numbered text (j + 1) (drop (suc k) xs)
numbered_at text [] k j lt = absurd (omega (arith, lt))
numbered_at text (x ∷ xs) zero j lt = refl
numbered_at text (x ∷ xs) (suc k) j lt = numbered_at text xs k j (omega (arith, lt))

-- the text of one section, followed by the text of the sections after it
pub numbered_on : (text : ℕ → Section → List ℕ) (program : Typed) (k : ℕ) → k < length program.sections.items →
    (old new : List ℕ) → new ≡ old ++ at_number text program k →
    new ++ numbered text (k + 1) (drop (k + 1) program.sections.items) ≡ old ++ numbered text k (drop k program.sections.items)
numbered_on text program k lt old new added =
    let sections = program.sections.items in
    let rest = numbered text (k + 1) (drop (k + 1) sections) in
    let same : rest ≡ numbered text (k + 1) (drop (suc k) sections) = ap (λ (n : ℕ). numbered text (k + 1) (drop n sections)) (add-one k) in
    ap (λ (t : List ℕ). t ++ rest) added ∙ append_assoc old (at_number text program k) rest
    ∙ ap (λ (t : List ℕ). old ++ (at_number text program k ++ t)) same
    ∙ ap (λ (t : List ℕ). old ++ t) (sym (numbered_at text sections k k lt))

-- the line of a point among positions
line_there : (text : List ℕ) (ps : List Point) (o : Option ℕ) →
    option_map line_of (option_and_then (λ point. slice_get (map (position_in text) ps) point) o)
    ≡ option_and_then (λ point. option_map (line_in text) (slice_get ps point)) o
line_there text ps None = refl
line_there text ps (Some point) = ap (option_map line_of) (slice_get-map (position_in text) ps point) ∙ read (slice_get ps point)
  where
    read : (o : Option Point) → option_map line_of (option_map (position_in text) o) ≡ option_map (line_in text) o
    read None = refl
    read (Some p) = refl

-- the line directive before an instruction, by the name of a file and the places of the section in it
abbrev pub mark_by : List ℕ → SectionPlaces → List ℕ → ℕ → List ℕ
mark_by name places begins place = directive_if name (goes_on begins place) (option_map line_of (position_at places begins place))

mark_is : (source : Source) (section : Section) (places : SectionPlaces) (begins : List ℕ) →
    PlacesOf source.text section places → (place : ℕ) →
    mark_by source.name places begins place ≡ mark source.name source.text section begins place
mark_is source section places begins placed place =
    let point = point_at begins place in
    ap (λ ps. directive_if source.name (goes_on begins place) (option_map line_of (option_and_then (λ point. slice_get ps point) point))) placed
    ∙ ap (directive_if source.name (goes_on begins place)) (line_there source.text (points section) point)

-- the section of a number, and what belongs to it
module _ (program : Typed) (lists : List (List (List ℕ))) (k : ℕ) (listed : Listed) (is : IsListed program lists k listed) where
  there : (text : ℕ → Section → List ℕ) → at_number text program k ≡ text k listed.section.now
  there text = ap (λ (o : Option Section). option_map_or (text k) o []) is.section

  printing : (b : Bool) → b ≡ prints listed.code.now.instructions.items → b ≡ is_printing lists k listed.section.now
  printing b printed = printed ∙ ap prints (is.code ∙ ap (λ (ls : List (List ℕ)). section_code ls listed.section.now) is.own)

  -- the texts of section `k`, written with an equal prefix and for an equal program
  module _ (prefix px : List ℕ) (p : Typed) (same_prefix : px ≡ prefix) (same_program : p ≡ program) where
    pub prototype_is : (b : Bool) → b ≡ prints listed.code.now.instructions.items →
        prototype_text px p listed.section.now b ++ codes ";\n" ≡ at_number (prototype_of prefix program lists) program k
    unfolding prototype_of
    prototype_is b printed =
        let s = listed.section.now in
        ap (λ (x : List ℕ). prototype_text x p s b ++ codes ";\n") same_prefix
        ∙ ap (λ (q : Typed). prototype_text prefix q s b ++ codes ";\n") same_program
        ∙ ap (λ (c : Bool). prototype_text prefix program s c ++ codes ";\n") (printing b printed)
        ∙ sym (there (prototype_of prefix program lists))

    written : (mark : Option (ℕ → List ℕ)) → section_text px p listed.section.now (lists_of listed) mark
        ≡ section_text prefix program listed.section.now (lists_at lists k) mark
    written mark =
        let s = listed.section.now in
        ap (λ (x : List ℕ). section_text x p s (lists_of listed) mark) same_prefix
        ∙ ap (λ (q : Typed). section_text prefix q s (lists_of listed) mark) same_program
        ∙ ap (λ (ls : List (List ℕ)). section_text prefix program s ls mark) is.own

    pub section_is : section_text px p listed.section.now (lists_of listed) None ≡ at_number (section_of prefix program lists) program k
    unfolding section_of
    section_is = written None ∙ sym (there (section_of prefix program lists))

    -- the same for the section's text with line directives of the program's file
    pub marked_is : (source : Source) (places : SectionPlaces) → PlacesOf source.text listed.section.now places →
        section_text px p listed.section.now (lists_of listed) (Some (mark_by source.name places listed.code.now.begins.items))
        ≡ at_number (marked_of prefix program lists source) program k
    unfolding marked_of
    marked_is source places placed =
        let s = listed.section.now in
        let begins = section_begins (lists_at lists k) s in
        written (Some (mark_by source.name places listed.code.now.begins.items))
        ∙ ap (λ (bs : List ℕ). section_text prefix program s (lists_at lists k) (Some (mark_by source.name places bs))) is.begins
        ∙ ap (λ (m : ℕ → List ℕ). section_text prefix program s (lists_at lists k) (Some m))
        (λ j place. mark_is source s places begins placed place j)
        ∙ sym (there (marked_of prefix program lists source))

    pub case_is : (b : Bool) → b ≡ prints listed.code.now.instructions.items →
        case_text px p k listed.section.now b ≡ at_number (case_of prefix program lists) program k
    unfolding case_of
    case_is b printed =
        let s = listed.section.now in
        ap (λ (x : List ℕ). case_text x p k s b) same_prefix
        ∙ ap (λ (q : Typed). case_text prefix q k s b) same_program
        ∙ ap (λ (c : Bool). case_text prefix program k s c) (printing b printed)
        ∙ sym (there (case_of prefix program lists))
