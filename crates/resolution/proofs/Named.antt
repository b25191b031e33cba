-- The first item of a name.
use Rattle.std.proofs.Common.{◌≡◌, ℕ, ◌+◌, List, Option, Some, None, Bool, true, refl, sym, ap, ◌∙◌, subst, arith}
use Rattle.std.specs.Prelude.{slice_get}
use Rattle.std.proofs.lemmas.Slice.Eq.{bytes_eq-Decides}
use Rattle.syntax.specs.Trees.{Member}
use Rattle.resolution.specs.Scopes.{place_of, named, member_name, member_bears, the_member}
use Rattle.resolution.specs.Theory.Facts.{passing}

-- what a name is found to be
pub record IsFound {A Q : Type 0} (bears : A → Q → Bool) (xs : List A) (q : Q) (i : ℕ) (x : A) : Type 0 where
  pub place : place_of bears xs q ≡ Some i
  pub here : slice_get xs i ≡ Some x
  pub bearing : bears x q ≡ true

found_at : {A Q : Type 0} (bears : A → Q → Bool) (xs : List A) (q : Q) (k i : ℕ) (x y : A) →
    place_of bears xs q ≡ Some k → slice_get xs k ≡ Some y → ◌≡◌ {A = Option (ℕ × A)} (Some (k, y)) (Some (i, x)) →
    bears y q ≡ true → IsFound bears xs q i x
found_at {A = A} bears xs q k i x y p h e b =
    let pair : ◌≡◌ {A = ℕ × A} (k, y) (i, x) = cc in
    let a : k ≡ i = ap (λ (z : ℕ × A). z.0) pair in
    let c : y ≡ x = ap (λ (z : ℕ × A). z.1) pair in
    record {
      place = p ∙ ap Some a;
      here = subst (λ (j : ℕ). slice_get xs j ≡ Some x) a (h ∙ ap Some c);
      bearing = subst (λ z. bears z q ≡ true) c b;
    }

pub named_is : {A Q : Type 0} (bears : A → Q → Bool) (xs : List A) (q : Q) (i : ℕ) (x : A) →
    named bears xs q ≡ Some (i, x) → IsFound bears xs q i x
named_is bears xs q i x e = by_place (place_of bears xs q) refl
  where
    by_place : (o : Option ℕ) → place_of bears xs q ≡ o → IsFound bears xs q i x
    by_place None p = let none : named bears xs q ≡ None = rw p refl in absurd cc
    by_place (Some k) p =
        let r = passing (λ y. bears y q) xs 0 k p in
        let s : k ≡ r.by = (let z : k ≡ 0 + r.by = r.place in omega (arith, z)) in
        let h : slice_get xs k ≡ Some r.item = subst (λ (j : ℕ). slice_get xs j ≡ Some r.item) (sym s) r.here in
        let some : named bears xs q ≡ Some (k, r.item) = rw (p, h) refl in
        found_at bears xs q k i x r.item p h (sym some ∙ e) r.passed

-- a member that is found by a name is at its place, and is the first of its name
pub member_is : (ms : List Member) (q : List ℕ) (n : ℕ) (x : Member) → the_member ms q ≡ Some (n, x) →
    (slice_get ms n ≡ Some x) × (place_of member_bears ms (member_name x).text ≡ Some n)
member_is ms q n x e =
    let f = named_is member_bears ms q n x e in
    let same : q ≡ (member_name x).text = (bytes_eq-Decides q (member_name x).text).0 f.bearing in
    (f.here, subst (λ (r : List ℕ). place_of member_bears ms r ≡ Some n) same f.place)
