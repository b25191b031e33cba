-- How a rope grows.
use Rattle.std.proofs.Common.{◌≡◌, ℕ, zero, suc, ◌-◌, ◌<◌, ◌≤◌, List, [], ◌∷◌, ◌++◌, length, map, take, drop, refl}
use Rattle.std.proofs.Common.{sym, ap, ◌∙◌, arith, append_assoc, if◌then◌else◌, Bool, true, false, Result, Ok, Err}
use Rattle.std.proofs.Common.{Vec, Global}
use Rattle.std.specs.Prelude.{OnOk, is_ok}
use Rattle.std.specs.Prelude.{string_bytes, String}
use Rattle.std.specs.List.{All, flat_map}
use Rattle.std.proofs.lemmas.List.{drop-append-le, take-append-le, length-drop, append-nil, map-append, length-map}
use Rattle.std.proofs.Math.Seq.{take-length, drop-length}
use Rattle.std.proofs.lemmas.Grind.{flat_map-append}
use Rattle.rope.specs.declared.text.Insert.{Insert}
use Rattle.rope.specs.Working.Ropes.{RopeOf, rope_text, AddsTo, groups_of, part_of, both, piece, IsIn}

abbrev pub made : List ℕ → List (List (List ℕ)) → List Insert → ℕ → RopeOf
made own groups xs last = record { inserted = map (piece own groups) xs; rest = drop last own; groups = groups }

later : (P : Insert → Type 0) (x : Insert) (xs : List Insert) → All P (x ∷ xs) → All P xs
later P x xs all k d lt = all (suc k) d (omega (arith, lt))

first : (P : Insert → Type 0) (x : Insert) (xs : List Insert) → All P (x ∷ xs) → P x
first P x xs all = all 0 x (omega arith)

-- ---- more text of its own

pub still_in : (bytes more groups : ℕ) (xs : List Insert) → bytes ≤ more → All (IsIn bytes groups) xs →
    All (IsIn more groups) xs
still_in bytes more groups xs le all k d lt =
    let is = all k d lt in
    let at = is.at in
    record { from = is.from; at = omega (arith, at, le); group = is.group }

module _ (own more : List ℕ) (groups : List (List (List ℕ))) where
  piece_stays : (count : ℕ) (x : Insert) → IsIn (length own) count x → piece (own ++ more) groups x ≡ piece own groups x
  piece_stays count x is =
      let from = is.from in
      let at = is.at in
      let long = length-drop x.from own in
      ap (λ (bytes : List ℕ). (bytes, part_of groups x.group x.number))
      (ap (take (x.at - x.from)) (drop-append-le x.from own more (omega (arith, from, at)))
      ∙ take-append-le (x.at - x.from) (drop x.from own) more (omega (arith, long, from, at)))

  pieces_stay : (count : ℕ) (xs : List Insert) → All (IsIn (length own) count) xs →
      map (piece (own ++ more) groups) xs ≡ map (piece own groups) xs
  pieces_stay count [] all = refl
  pieces_stay count (x ∷ xs) all =
      ap (λ p. p ∷ map (piece (own ++ more) groups) xs) (piece_stays count x (first (IsIn (length own) count) x xs all))
      ∙ ap (λ ps. piece own groups x ∷ ps) (pieces_stay count xs (later (IsIn (length own) count) x xs all))

  pub own_grown : (count : ℕ) (grown : List ℕ) (xs : List Insert) (last : ℕ) → All (IsIn (length own) count) xs →
      last ≤ length own →
      grown ≡ own ++ more → rope_text (made grown groups xs last) ≡ rope_text (made own groups xs last) ++ more
  own_grown count grown xs last all within is =
      ap (λ (bytes : List ℕ). rope_text (made bytes groups xs last)) is
      ∙ ap (λ ps. flat_map both ps ++ drop last (own ++ more)) (pieces_stay count xs all)
      ∙ ap (λ (bytes : List ℕ). flat_map both (map (piece own groups) xs) ++ bytes) (drop-append-le last own more within)
      ∙ sym (append_assoc (flat_map both (map (piece own groups) xs)) (drop last own) more)

-- a growth adds a text, unless the allocation fails
pub own_added : {T E : Type 0} (r : Result T E) (own grown more : List ℕ) (groups : List (List (List ℕ))) (count : ℕ) (xs : List Insert) (last : ℕ) (rope : RopeOf) →
    made own groups xs last ≡ rope → (last ≤ length own) × All (IsIn (length own) count) xs → grown ≡ (if is_ok r then own ++ more else own) →
    OnOk r (AddsTo more rope (made grown groups xs last))
own_added (Ok x) own grown more groups count xs last rope is well e =
    (own_grown own more groups count grown xs last well.1 well.0 e ∙ ap (λ v. rope_text v ++ more) is, ap (λ v. v.groups) is)
own_added (Err x) own grown more groups count xs last rope is well e = record {}

-- ---- one more insert at the end

module _ (own : List ℕ) (groups : List (List (List ℕ))) (x : Insert) (at_end : x.at ≡ length own) where
  last_piece : piece own groups x ≡ (drop x.from own, part_of groups x.group x.number)
  last_piece =
      let long = length-drop x.from own in
      let all : x.at - x.from ≡ length (drop x.from own) = omega (arith, long, at_end) in
      ap (λ (bytes : List ℕ). (bytes, part_of groups x.group x.number))
      (ap (λ (n : ℕ). take n (drop x.from own)) all ∙ take-length (drop x.from own))

  pub part_grown : (xs grown : List Insert) → grown ≡ xs ++ x ∷ [] →
      rope_text (made own groups grown x.at) ≡ rope_text (made own groups xs x.from) ++ part_of groups x.group x.number
  part_grown xs grown is =
      let part = part_of groups x.group x.number in
      let before = map (piece own groups) xs in
      let rest = drop x.from own in
      let none : drop x.at own ≡ [] = ap (λ (n : ℕ). drop n own) at_end ∙ drop-length own in
      ap (λ (ys : List Insert). rope_text (made own groups ys x.at)) is
      ∙ ap (λ ps. flat_map both ps ++ drop x.at own) (map-append (piece own groups) xs (x ∷ []))
      ∙ ap (λ p. flat_map both (before ++ p ∷ []) ++ drop x.at own) last_piece
      ∙ ap (λ (bytes : List ℕ). flat_map both (before ++ (rest, part) ∷ []) ++ bytes) none
      ∙ append-nil (flat_map both (before ++ (rest, part) ∷ []))
      ∙ flat_map-append both before ((rest, part) ∷ [])
      ∙ ap (λ (bytes : List ℕ). flat_map both before ++ bytes) (append-nil (rest ++ part))
      ∙ sym (append_assoc (flat_map both before) rest part)

-- a push adds an insert, unless the allocation fails
pub part_added : (own : List ℕ) (groups : List (List (List ℕ))) (x : Insert) (xs grown : List Insert) (rope : RopeOf) →
    x.at ≡ length own → made own groups xs x.from ≡ rope → grown ≡ xs ++ x ∷ [] →
    AddsTo (part_of groups x.group x.number) rope (made own groups grown x.at)
part_added own groups x xs grown rope at_end is more =
    (part_grown own groups x at_end xs grown more ∙ ap (λ v. rope_text v ++ part_of groups x.group x.number) is, ap (λ v. v.groups) is)

pub in_more : (bytes groups : ℕ) (x : Insert) (xs grown : List Insert) → IsIn bytes groups x →
    All (IsIn bytes groups) xs → grown ≡ xs ++ x ∷ [] →
    All (IsIn bytes groups) grown
in_more bytes groups x xs grown is all e = rw e (more xs all)
  where
    more : (ys : List Insert) → All (IsIn bytes groups) ys → All (IsIn bytes groups) (ys ++ x ∷ [])
    more [] each zero d lt = is
    more [] each (suc k) d lt = absurd (omega (arith, lt))
    more (y ∷ ys) each zero d lt = first (IsIn bytes groups) y ys each
    more (y ∷ ys) each (suc k) d lt = more ys (later (IsIn bytes groups) y ys each) k d (omega (arith, lt))

-- ---- one more group

part_stays : (groups : List (List (List ℕ))) (more : List (List ℕ)) (group number : ℕ) → group < length groups →
    part_of (groups ++ more ∷ []) group number ≡ part_of groups group number
part_stays [] more group number lt = absurd (omega (arith, lt))
part_stays (g ∷ gs) more zero number lt = refl
part_stays (g ∷ gs) more (suc k) number lt = part_stays gs more k number (omega (arith, lt))

pub groups_grown : (own : List ℕ) (bytes count : ℕ) (groups : List (List (List ℕ))) (more : List (List ℕ)) (xs : List Insert) →
    count ≡ length groups → All (IsIn bytes count) xs → map (piece own (groups ++ more ∷ [])) xs ≡ map (piece own groups) xs
groups_grown own bytes count groups more [] e all = refl
groups_grown own bytes count groups more (x ∷ xs) e all =
    ap (λ (part : List ℕ). (take (x.at - x.from) (drop x.from own), part) ∷ map (piece own (groups ++ more ∷ [])) xs)
    (part_stays groups more x.group x.number (let lt = (first (IsIn bytes count) x xs all).group in omega (arith, lt, e)))
    ∙ ap (λ ps. piece own groups x ∷ ps) (groups_grown own bytes count groups more xs e (later (IsIn bytes count) x xs all))

-- a group is kept, or its growth is refused; the text stays the same
pub kept_same : (b : Bool) (own : List ℕ) (bytes : ℕ) (groups grown : List (Vec (String Global) Global)) (parts : Vec (String Global) Global) (xs : List Insert) (last : ℕ) →
    grown ≡ (if b then groups ++ parts ∷ [] else groups) → All (IsIn bytes (length groups)) xs →
    rope_text (made own (groups_of grown) xs last) ≡ rope_text (made own (groups_of groups) xs last)
kept_same true own bytes groups grown parts xs last is all =
    let texts : Vec (String Global) Global → List (List ℕ) = λ ps. map string_bytes ps.items in
    let made_of : List (List (List ℕ)) → List ℕ = λ gs. flat_map both (map (piece own gs) xs) ++ drop last own in
    ap (λ gs. made_of (groups_of gs)) is
    ∙ ap made_of (map-append texts groups (parts ∷ []))
    ∙ ap (λ ps. flat_map both ps ++ drop last own)
    (groups_grown own bytes (length groups) (groups_of groups) (texts parts) xs (sym (length-map groups texts)) all)
kept_same false own bytes groups grown parts xs last is all = ap (λ gs. rope_text (made own (groups_of gs) xs last)) is

pub still_of : (bytes groups more : ℕ) (xs : List Insert) → groups ≤ more → All (IsIn bytes groups) xs →
    All (IsIn bytes more) xs
still_of bytes groups more xs le all k d lt =
    let is = all k d lt in
    let group = is.group in
    record { from = is.from; at = is.at; group = omega (arith, group, le) }
