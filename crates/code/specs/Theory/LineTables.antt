-- The line table of a section's code rises, and gives the position of each instruction in the text.
use Rattle.std.proofs.Common.{◌≡◌, ℕ, zero, suc, ◌+◌, ◌<◌, ◌≤◌, List, [], ◌∷◌, ◌++◌, length, map, get_or, Option, Some}
use Rattle.std.proofs.Common.{None, refl, sym, ap, ◌∙◌, subst, arith, length-append}
use Rattle.std.specs.Prelude.{slice_get, option_map, option_and_then, codes}
use Rattle.std.specs.Option.{option_map_or}
use Rattle.std.specs.List.Sorted.{IsNonDecreasing}
use Rattle.std.proofs.lemmas.Option.{slice_get-map}
use Rattle.source.specs.Faults.{line_of, column_of}
use Rattle.core_lang.specs.declared.tree.Stmt.{Stmt}
use Rattle.core_lang.specs.declared.tree.Action.{Action, Bind, SetLocal, SetGlobal, SetElement, SetField, Call, Print}
use Rattle.core_lang.specs.declared.tree.Action.{If', IfElse', While', Row_of-Stmt, end_of-Stmt, more_of-Stmt}
use Rattle.core_lang.specs.declared.tree.Return.{Return as Result_of}
use Rattle.core_lang.specs.declared.tree.Section.{Section}
use Rattle.flow.specs.Points.{Point, points, start_of}
use Rattle.code.specs.declared.instr.Instr.TheVariants.{Jump, JumpBack, JumpIfFalse}
use Rattle.code.specs.declared.places.LineColumn.{LineColumn}
use Rattle.code.specs.declared.places.SectionPlaces.{SectionPlaces}
use Rattle.code.specs.Lowering.{test_code, points_of, points_in, acquire_code, stmt_code, block_code}
use Rattle.code.specs.LineTables.{behind_test, stmt_begins, block_begins, end_begins, body_begins, section_begins}
use Rattle.code.specs.LineTables.{point_at, position_text, place_text}
use Rattle.code.specs.Working.Places.{position_in, PlacesOf, table_text}

-- ---- the table rises

-- numbers rise from one to another
abbrev RiseIn : ℕ → List ℕ → ℕ → Type 0
RiseIn low [] high = low ≤ high
RiseIn low (x ∷ xs) high = (low ≤ x) × RiseIn x xs high

from_below : (xs : List ℕ) (low mid high : ℕ) → low ≤ mid → RiseIn mid xs high → RiseIn low xs high
from_below [] low mid high le h = let h' : mid ≤ high = h in omega arith
from_below (x ∷ xs) low mid high le h = let first = h.0 in ((let z : low ≤ x = omega (arith, first) in z), h.1)

to_above : (xs : List ℕ) (low mid high : ℕ) → mid ≤ high → RiseIn low xs mid → RiseIn low xs high
to_above [] low mid high le h = let h' : low ≤ mid = h in omega arith
to_above (x ∷ xs) low mid high le h = (h.0, to_above xs x mid high le h.1)

behind_each_other : (xs ys : List ℕ) (low mid high : ℕ) → RiseIn low xs mid → RiseIn mid ys high →
    RiseIn low (xs ++ ys) high
behind_each_other [] ys low mid high h k = from_below ys low mid high h k
behind_each_other (x ∷ xs) ys low mid high h k = (h.0, behind_each_other xs ys x mid high h.1 k)

none_lower : (xs : List ℕ) (low high j d : ℕ) → RiseIn low xs high → j < length xs → low ≤ get_or xs j d
none_lower [] low high j d h lt = absurd (omega arith)
none_lower (x ∷ xs) low high zero d h lt = h.0
none_lower (x ∷ xs) low high (suc j) d h lt =
    let first = h.0 in
    let rest = none_lower xs x high j d h.1 (omega arith) in
    omega (arith, first, rest)

one_after_other : (xs : List ℕ) (low high i j d : ℕ) → RiseIn low xs high → i ≤ j → j < length xs →
    get_or xs i d ≤ get_or xs j d
one_after_other [] low high i j d h le lt = absurd (omega arith)
one_after_other (x ∷ xs) low high zero zero d h le lt = omega arith
one_after_other (x ∷ xs) low high zero (suc j) d h le lt = none_lower xs x high j d h.1 (omega arith)
one_after_other (x ∷ xs) low high (suc i) zero d h le lt = absurd (omega arith)
one_after_other (x ∷ xs) low high (suc i) (suc j) d h le lt = one_after_other xs x high i j d h.1 (omega arith) (omega arith)

end_rises : (r : Option Result_of) (place : ℕ) → (high : ℕ) × RiseIn place (end_begins r place) high
end_rises None place = (place, (let z : place ≤ place = omega arith in z))
end_rises (Some r) place = let z : place ≤ place = omega arith in (place, (z, z))

module _ {P : Type 0} (lists : List (List P)) where
  mutual
    stmt_rises : (action : Action) (n place : ℕ) →
        RiseIn place (stmt_begins lists action n place) (place + length (stmt_code lists action n))
    stmt_rises (If' c m block) n place =
        let test = acquire_code lists n ++ test_code c in
        let code = block_code lists block (n + 1) in
        let b = behind_test lists (test_code c) n place in
        let inner = block_rises block (n + 1) b in
        let l = length-append test (JumpIfFalse (length code) ∷ code) in (
          (let z : place ≤ place = omega arith in z),
          from_below _ place b _ (omega arith) (to_above _ b (b + length code) _ (omega (arith, l)) inner),
        )
    stmt_rises (IfElse' c m block k otherwise) n place =
        let test = acquire_code lists n ++ test_code c in
        let first = block_code lists block (n + 1) in
        let second = block_code lists otherwise (n + 1 + points_in block) in
        let b = behind_test lists (test_code c) n place in
        let e = b + length first + 1 in
        let one = block_rises block (n + 1) b in
        let two = block_rises otherwise (n + 1 + points_in block) e in
        let inner = first ++ (Jump (length second) ∷ second) in
        let l = length-append test (JumpIfFalse (length first + 1) ∷ inner) in
        let m = length-append first (Jump (length second) ∷ second) in (
          (let z : place ≤ place = omega arith in z),
          from_below _ place b _ (omega arith)
              (behind_each_other _ _ b e _ (to_above _ b (b + length first) e (omega arith) one)
              (to_above _ e (e + length second) _ (omega (arith, l, m)) two)),
        )
    stmt_rises (While' c m body) n place =
        let test = acquire_code lists n ++ test_code c in
        let code = block_code lists body (n + 1) in
        let b = behind_test lists (test_code c) n place in
        let inner = block_rises body (n + 1) b in
        let back = JumpBack (length test + 1 + length code) ∷ [] in
        let l = length-append test (JumpIfFalse (length code + 1) ∷ (code ++ back)) in
        let m = length-append code back in (
          (let z : place ≤ place = omega arith in z),
          from_below _ place b _ (omega arith) (to_above _ b (b + length code) _ (omega (arith, l, m)) inner),
        )
    stmt_rises (Bind k e) n place = ((let z : place ≤ place = omega arith in z), omega arith)
    stmt_rises (SetLocal k e) n place = ((let z : place ≤ place = omega arith in z), omega arith)
    stmt_rises (SetGlobal cell e) n place = ((let z : place ≤ place = omega arith in z), omega arith)
    stmt_rises (SetElement array i e) n place = ((let z : place ≤ place = omega arith in z), omega arith)
    stmt_rises (SetField path s f e) n place = ((let z : place ≤ place = omega arith in z), omega arith)
    stmt_rises (Call f es r) n place = ((let z : place ≤ place = omega arith in z), omega arith)
    stmt_rises (Print e) n place = ((let z : place ≤ place = omega arith in z), omega arith)

    block_rises : {m : _} (row : Row_of-Stmt m) (n place : ℕ) →
        RiseIn place (block_begins lists row n place) (place + length (block_code lists row n))
    block_rises end_of-Stmt n place = omega arith
    block_rises (more_of-Stmt start action rest) n place =
        let here = stmt_code lists action n in
        let next = place + length here in
        let behind = block_code lists rest (n + points_of action) in
        let more = block_rises rest (n + points_of action) next in
        let l = length-append here behind in
        behind_each_other _ _ place next _ (stmt_rises action n place) (to_above _ next (next + length behind) _ (omega (arith, l)) more)

  body_rises : (ss : List Stmt) (n place : ℕ) (r : Option Result_of) →
      (high : ℕ) × RiseIn place (body_begins lists ss n place r) high
  body_rises [] n place r = end_rises r place
  body_rises (s ∷ ss) n place r =
      let next = place + length (stmt_code lists s.action n) in
      let more = body_rises ss (n + points_of s.action) next r in
      (more.0, behind_each_other _ _ place next more.0 (stmt_rises s.action n place) more.1)

  pub begins_rise : (section : Section) → IsNonDecreasing (section_begins lists section)
  begins_rise section =
      let all = body_rises section.body.items 0 0 section.result in
      λ i j d le lt. one_after_other (section_begins lists section) 0 all.0 i j d all.1 le lt

-- the table of a section's code rises
pub table_rises : (lists : List (List ℕ)) (section : Section) (begins : List ℕ) → begins ≡ section_begins lists section →
    IsNonDecreasing begins
table_rises lists section begins is = subst IsNonDecreasing (sym is) (begins_rise lists section)

-- ---- the table gives the position of an instruction

-- a point's place among positions
position_there : (text : List ℕ) (ps : List Point) (o : Option ℕ) →
    option_map_or (λ (p : LineColumn). position_text p.line p.column ++ codes " ") (option_and_then (λ point. slice_get (map (position_in text) ps) point) o) []
    ≡ option_map_or (λ start. position_text (line_of text start) (column_of text start) ++ codes " ") (option_and_then (λ point. option_map start_of (slice_get ps point)) o) []
position_there text ps None = refl
position_there text ps (Some point) =
    ap (λ o. option_map_or (λ (p : LineColumn). position_text p.line p.column ++ codes " ") o []) (slice_get-map (position_in text) ps point)
    ∙ read (slice_get ps point)
  where
    read : (o : Option Point) →
        option_map_or (λ (p : LineColumn). position_text p.line p.column ++ codes " ") (option_map (position_in text) o) []
        ≡ option_map_or (λ start. position_text (line_of text start) (column_of text start) ++ codes " ") (option_map start_of o) []
    read None = refl
    read (Some p) = refl

pub places_told : (text : List ℕ) (lists : List (List ℕ)) (section : Section) (places : SectionPlaces) (begins : List ℕ) →
    PlacesOf text section places → begins ≡ section_begins lists section → (place : ℕ) →
    table_text places begins place ≡ place_text text lists section place
places_told text lists section places begins are is place =
    ap (λ ps. option_map_or (λ (p : LineColumn). position_text p.line p.column ++ codes " ") (option_and_then (λ point. slice_get ps point) (point_at begins place)) []) are
    ∙ position_there text (points section) (point_at begins place)
    ∙ ap (λ bs. option_map_or (λ start. position_text (line_of text start) (column_of text start) ++ codes " ")
    (option_and_then (λ point. option_map start_of (slice_get (points section) point)) (point_at bs place)) []) is
