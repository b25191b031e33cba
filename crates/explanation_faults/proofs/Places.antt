-- Elements of lists by their places, and the first of those that pass a test.
use Rattle.std.proofs.Common.{◌≡◌, ◌∙◌, ◌+◌, ℕ, zero, suc, Bool, true, false, List, [], ◌∷◌, ◌++◌, length, take}
use Rattle.std.proofs.Common.{Option, Some, None, refl, ap, arith}
use Rattle.std.specs.Prelude.{slice_get, ◌||◌, if◌then◌else◌}
use Rattle.std.proofs.lemmas.Option.{same_Some}
use Rattle.resolution.specs.Scopes.{◌>>=◌, named, place_from, place_of}
use Rattle.resolution.specs.Where.{Has, first, further}

pub has_at : {A : Type 0} (xs : List A) (x : A) → Has xs x → (k : ℕ) × (slice_get xs k ≡ Some x)
has_at {A = A} [] x h = elim h [ ]
has_at (y ∷ xs) x first = (zero, refl)
has_at (y ∷ xs) x (further h) = let k = has_at xs x h in (suc k.0, k.1)

pub at_has : {A : Type 0} (xs : List A) (k : ℕ) (x : A) → slice_get xs k ≡ Some x → Has xs x
at_has [] k x e = absurd cc
at_has (y ∷ xs) zero x e = rw (same_Some y x e) first
at_has (y ∷ xs) (suc k) x e = further (at_has xs k x e)

-- the element that follows `before`
pub at_front : {A : Type 0} (before behind : List A) (x : A) → slice_get (before ++ x ∷ behind) (length before) ≡ Some x
at_front [] behind x = refl
at_front (y ∷ before) behind x = at_front before behind x

pub take_front : {A : Type 0} (before behind : List A) → take (length before) (before ++ behind) ≡ before
take_front [] behind = refl
take_front (y ∷ before) behind = ap (λ l. y ∷ l) (take_front before behind)

-- ---- whether some passes

abbrev pub some_pass : {A : Type 0} → (A → Bool) → List A → Bool
some_pass p [] = false
some_pass p (x ∷ xs) = p x || some_pass p xs

pub or_cases : (a b : Bool) (n : ℕ) (o : Option ℕ) (k : ℕ) → (if a then Some n else o) ≡ Some k →
    (o ≡ Some k → b ≡ true) → a || b ≡ true
or_cases true b n o k e rest = refl
or_cases false b n o k e rest = rest e

pub found_passes : {A : Type 0} (p : A → Bool) (n : ℕ) (xs : List A) (k : ℕ) → place_from p n xs ≡ Some k →
    some_pass p xs ≡ true
found_passes p n [] k e = absurd cc
found_passes p n (x ∷ xs) k e = or_cases (p x) (some_pass p xs) n (place_from p (suc n) xs) k e (λ f. found_passes p (suc n) xs k f)

-- the first element that passes, with its place
pub record Passing {A : Type 0} (p : A → Bool) (n : ℕ) (xs : List A) : Type 0 where
  pub offset : ℕ
  pub element : A
  pub found : place_from p n xs ≡ Some (n + offset)
  pub is : slice_get xs offset ≡ Some element
  pub passes : p element ≡ true

passing_cons : {A : Type 0} (p : A → Bool) (n : ℕ) (x : A) (xs : List A) (b : Bool) → p x ≡ b →
    b || some_pass p xs ≡ true →
    (some_pass p xs ≡ true → Passing p (suc n) xs) → Passing p n (x ∷ xs)
passing_cons p n x xs true is some rest = record {
  offset = 0;
  element = x;
  found = rw is (ap Some (omega arith));
  is = refl;
  passes = is;
}
passing_cons p n x xs false is some rest =
    let r = rest some in
    record {
      offset = suc r.offset;
      element = r.element;
      found = rw is (r.found ∙ ap Some (omega arith));
      is = r.is;
      passes = r.passes;
    }

pub passing : {A : Type 0} (p : A → Bool) (n : ℕ) (xs : List A) → some_pass p xs ≡ true → Passing p n xs
passing p n [] some = absurd cc
passing p n (x ∷ xs) some = passing_cons p n x xs (p x) refl some (passing p (suc n) xs)

-- the same for a whole list
pub passing_at : {A : Type 0} (p : A → Bool) (xs : List A) (r : Passing p 0 xs) → place_from p 0 xs ≡ Some r.offset
passing_at p xs r = r.found ∙ ap Some (omega arith)

-- the same for a name that some element bears
pub named_passes : {A Q : Type 0} (is : A → Q → Bool) (xs : List A) (q : Q) (f : ℕ × A) → named is xs q ≡ Some f →
    some_pass (λ x. is x q) xs ≡ true
named_passes is xs q f e = of_place (place_of is xs q) refl e
  where
    of_place : (o : Option ℕ) → place_of is xs q ≡ o → (o >>= λ i. slice_get xs i >>= λ x. Some (i, x)) ≡ Some f →
        some_pass (λ x. is x q) xs ≡ true
    of_place None at e = absurd cc
    of_place (Some i) at e = found_passes (λ x. is x q) 0 xs i at
