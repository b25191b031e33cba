-- Objects, cells and calls past their limits.
use Rattle.std.proofs.Common.{◌≡◌, ◌∙◌, ℕ, ◌+◌, ◌-◌, ◌<◌, ◌≤◌, zero, suc, Bool, true, false, List, [], ◌∷◌, take}
use Rattle.std.proofs.Common.{Option, Some, None, refl, sym, ap, add-one, arith, eq-eqb, lt-ltb}
use Rattle.std.proofs.lemmas.Bool.{eqb-true, ltb-true, ltb-false, le-ltb, leb-true, leb-false, le-leb, lt-leb, ne_eqb}
use Rattle.std.proofs.lemmas.Option.{same_Some}
use Rattle.std.proofs.lemmas.Slice.Eq.{bytes_eq-Decides}
use Rattle.std.specs.Prelude.{nat_lt, not, is_some, slice_get, if◌then◌else◌}
use Rattle.resolution.specs.Working.FaultLists.{is_at}
use Rattle.resolution.specs.Limits.{OBJECT_LIMIT, CELL_LIMIT, CALL_LIMIT}
use Rattle.resolution.specs.Numbers.{objects_of, cells_of, calls_of, new_field, total}
use Rattle.resolution.specs.Working.Building.{few_calls}
use Rattle.resolution.specs.Scopes.{declared, member_bears, member_name, place_from, place_of}
use Rattle.syntax.specs.Trees.{Ident, Member, lock_member, final_member, field_member, Field, Final, Decl}
use Rattle.explanation_faults.specs.Working.AmountsFound.{begins, ends_few, field_count, first_over}
use Rattle.explanation_faults.specs.AmountsPassed.{IsFirstOver, IsAmountPassed, objects, cells, calls}

if_false : {A : Type 0} (b : Bool) (x y : A) → b ≡ false → (if b then x else y) ≡ y
if_false b x y is = ap (λ (c : Bool). if c then x else y) is

if_true : {A : Type 0} (b : Bool) (x y : A) → b ≡ true → (if b then x else y) ≡ x
if_true b x y is = ap (λ (c : Bool). if c then x else y) is

-- ---- the first with which there is too much

begun : (at : ℕ) (o : Option Ident) → begins at o ≡ true → (x : Ident) × (o ≡ Some x) × (x.span.start ≡ at)
begun at (Some x) is = (x, refl, eqb-true x.span.start at is)
begun at None is = absurd cc

module _ (of : Decl → ℕ) (at : ℕ) where
  pub over_here : (room : ℕ) (d : Decl) (ds : List Decl) → room < of d →
      first_over of at room (d ∷ ds) ≡ begins at (declared d)
  over_here room d ds more = if_true (nat_lt room (of d)) _ _ (lt-ltb room (of d) more)

  pub over_later : (room : ℕ) (d : Decl) (ds : List Decl) → of d ≤ room →
      first_over of at room (d ∷ ds) ≡ first_over of at (room - of d) ds
  over_later room d ds few = if_false (nat_lt room (of d)) _ _ (le-ltb room (of d) few)

  over_front : (room : ℕ) (d : Decl) (ds : List Decl) (b : Bool) → nat_lt room (of d) ≡ b →
      (if b then begins at (declared d) else first_over of at (room - of d) ds) ≡ true →
      (first_over of at (room - of d) ds ≡ true → IsFirstOver of ds at (room - of d)) → IsFirstOver of (d ∷ ds) at room
  over_front room d ds true more is rest =
      let over = ltb-true room (of d) more in
      let b = begun at (declared d) is in
      record { place = 0; decl = d; name = b.0; listed = refl; named = b.1; starts = b.2; few = omega arith; many = omega (arith, over) }
  over_front room d ds false more is rest =
      let within = ltb-false room (of d) more in
      let p = rest is in
      record {
        place = suc p.place;
        decl = p.decl;
        name = p.name;
        listed = p.listed;
        named = p.named;
        starts = p.starts;
        few = let few = p.few in omega (arith, within, few);
        many = let many = p.many in omega (arith, within, many);
      }

  pub over_if : (room : ℕ) (ds : List Decl) → first_over of at room ds ≡ true → IsFirstOver of ds at room
  over_if room [] is = absurd cc
  over_if room (d ∷ ds) is = over_front room d ds (nat_lt room (of d)) refl is (over_if (room - of d) ds)

  over_there : (room : ℕ) (ds : List Decl) (k : ℕ) (d : Decl) (x : Ident) → slice_get ds k ≡ Some d →
      declared d ≡ Some x → x.span.start ≡ at →
      total of (take k ds) ≤ room → room < total of (take k ds) + of d → first_over of at room ds ≡ true
  over_there room [] k d x listed named starts few many = absurd cc
  over_there room (e ∷ ds) zero d x listed named starts few many =
      let same : e ≡ d = same_Some e d listed in
      let more : room < of e = rw same (omega (arith, many)) in
      over_here room e ds more ∙ ap (λ (y : Decl). begins at (declared y)) same ∙ ap (begins at) named ∙ eq-eqb x.span.start at starts
  over_there room (e ∷ ds) (suc k) d x listed named starts few many =
      over_later room e ds (omega (arith, few))
      ∙ over_there (room - of e) ds k d x listed named starts (omega (arith, few)) (omega (arith, few, many))

  pub over_so : (room : ℕ) (ds : List Decl) → IsFirstOver of ds at room → first_over of at room ds ≡ true
  over_so room ds p = over_there room ds p.place p.decl p.name p.listed p.named p.starts p.few p.many

  pub total_next : (ds : List Decl) (k : ℕ) (d : Decl) → slice_get ds k ≡ Some d →
      total of (take (suc k) ds) ≡ total of (take k ds) + of d
  total_next [] k d listed = absurd cc
  total_next (e ∷ ds) zero d listed = let same = ap of (same_Some e d listed) in omega (arith, same)
  total_next (e ∷ ds) (suc k) d listed = let rest = total_next ds k d listed in omega (arith, rest)

-- ---- calls

ends_parts : (a b : Bool) → (if a then false else b) ≡ true → (a ≡ false) × (b ≡ true)
ends_parts true b is = absurd cc
ends_parts false b is = (refl, is)

ends_from : (a b : Bool) → a ≡ false → b ≡ true → (if a then false else b) ≡ true
ends_from true b over is = absurd cc
ends_from false b over is = is

pub ends_no : (a b : Bool) → a ≡ true → (if a then false else b) ≡ false
ends_no true b few = refl
ends_no false b few = absurd cc

pub ends_by : (a b : Bool) → a ≡ false → (if a then false else b) ≡ b
ends_by true b over = absurd cc
ends_by false b over = refl

total_more : (of : Decl → ℕ) (at : ℕ) (ds : List Decl) (k : ℕ) (d : Decl) → slice_get ds k ≡ Some d →
    total of (take (k + 1) ds) ≡ total of (take k ds) + of d
total_more of at ds k d listed = ap (λ (n : ℕ). total of (take n ds)) (add-one k) ∙ total_next of at ds k d listed

-- the thread at this place passes the limit first
pub is_last : (decls : List Decl) (at k : ℕ) (d : Decl) → slice_get decls k ≡ Some d → begins at (declared d) ≡ true →
    ends_few decls k ≡ true →
    IsFirstOver calls_of decls at CALL_LIMIT
is_last decls at k d listed starts ends =
    let b = begun at (declared d) starts in
    let p = ends_parts (few_calls (take (k + 1) decls)) (few_calls (take k decls)) ends in
    let many : CALL_LIMIT < total calls_of (take (k + 1) decls) = leb-false (total calls_of (take (k + 1) decls)) CALL_LIMIT p.0 in
    let next = total_more calls_of at decls k d listed in
    record {
      place = k;
      decl = d;
      name = b.0;
      listed = listed;
      named = b.1;
      starts = b.2;
      few = leb-true (total calls_of (take k decls)) CALL_LIMIT p.1;
      many = omega (arith, many, next);
    }

-- the thread that passes the limit first begins at `at`
pub ends_there : (decls : List Decl) (at : ℕ) (p : IsFirstOver calls_of decls at CALL_LIMIT) →
    (begins at (declared p.decl) ≡ true) × (ends_few decls p.place ≡ true)
ends_there decls at p =
    let few = p.few in
    let many = p.many in
    let next = total_more calls_of at decls p.place p.decl p.listed in (
      ap (begins at) p.named ∙ eq-eqb p.name.span.start at p.starts,
      ends_from (few_calls (take (p.place + 1) decls)) (few_calls (take p.place decls))
          (lt-leb (total calls_of (take (p.place + 1) decls)) CALL_LIMIT (omega (arith, many, next)))
          (le-leb (total calls_of (take p.place decls)) CALL_LIMIT few),
    )

-- ---- the cells of an object

-- the first member of a name is the one at this place, or one before it
self_first : (ms : List Member) (q : List ℕ) (n k : ℕ) (m : Member) → slice_get ms k ≡ Some m →
    member_bears m q ≡ true →
    is_at (n + k) (place_from (λ x. member_bears x q) n ms) ≡ not (is_some (place_from (λ x. member_bears x q) n (take k ms)))
self_first [] q n k m listed bears = absurd cc
self_first (x ∷ xs) q n zero m listed bears = here (member_bears x q) (ap (λ (y : Member). member_bears y q) (same_Some x m listed) ∙ bears)
  where
    here : (b : Bool) → b ≡ true →
        is_at (n + 0) (if b then Some n else place_from (λ y. member_bears y q) (suc n) xs) ≡ true
    here true is = eq-eqb n (n + 0) (omega arith)
    here false is = absurd cc
self_first (x ∷ xs) q n (suc k) m listed bears = by_front (member_bears x q) (self_first xs q (suc n) k m listed bears)
  where
    by_front : (b : Bool) →
        is_at (suc n + k) (place_from (λ y. member_bears y q) (suc n) xs) ≡ not (is_some (place_from (λ y. member_bears y q) (suc n) (take k xs))) →
        is_at (n + suc k) (if b then Some n else place_from (λ y. member_bears y q) (suc n) xs)
        ≡ not (is_some (if b then Some n else place_from (λ y. member_bears y q) (suc n) (take k xs)))
    by_front true rest = ne_eqb n (n + suc k) (omega arith)
    by_front false rest =
        ap (λ (i : ℕ). is_at i (place_from (λ y. member_bears y q) (suc n) xs)) (let e : n + suc k ≡ suc n + k = omega arith in e) ∙ rest

new_if : (b : Bool) (o : Option ℕ) (f : Field) → b ≡ not (is_some o) →
    (if b then 1 else 0) ≡ new_field o (field_member f)
new_if true (Some i) f is = absurd cc
new_if true None f is = refl
new_if false (Some i) f is = refl
new_if false None f is = absurd cc

no_lock_field : (o : Option ℕ) (x : Ident) → 0 ≡ new_field o (lock_member x)
no_lock_field (Some i) x = refl
no_lock_field None x = refl

no_final_field : (o : Option ℕ) (f : Final) → 0 ≡ new_field o (final_member f)
no_final_field (Some i) f = refl
no_final_field None f = refl

-- a field counts if no member before it has its name
pub counted_new : (ms : List Member) (k : ℕ) (m : Member) → slice_get ms k ≡ Some m →
    field_count ms k m ≡ new_field (place_of member_bears (take k ms) (member_name m).text) m
counted_new ms k (lock_member x) listed = no_lock_field (place_of member_bears (take k ms) x.text) x
counted_new ms k (final_member f) listed = no_final_field (place_of member_bears (take k ms) f.name.text) f
counted_new ms k (field_member f) listed =
    new_if (is_at k (place_of member_bears ms f.name.text)) (place_of member_bears (take k ms) f.name.text) f
    (sym (ap (λ (n : ℕ). is_at n (place_of member_bears ms f.name.text)) (let e : 0 + k ≡ k = omega arith in e))
    ∙ self_first ms f.name.text 0 k (field_member f) listed ((bytes_eq-Decides f.name.text f.name.text).1 refl))

-- ---- none of the three

pub none_amount : (decls : List Decl) (at : ℕ) → first_over objects_of at OBJECT_LIMIT decls ≡ false →
    first_over (cells_of decls) at CELL_LIMIT decls ≡ false →
    (IsFirstOver calls_of decls at CALL_LIMIT → ⊥) → (words : List ℕ) → IsAmountPassed decls at words → ⊥
none_amount decls at few_objects few_cells few words (objects p) =
    let e : false ≡ true = sym few_objects ∙ over_so objects_of at OBJECT_LIMIT decls p in absurd cc
none_amount decls at few_objects few_cells few words (cells p) =
    let e : false ≡ true = sym few_cells ∙ over_so (cells_of decls) at CELL_LIMIT decls p in absurd cc
none_amount decls at few_objects few_cells few words (calls p) = few p
