-- Lock paths, each once, in the order in which they are met.
use Rattle.std.proofs.Common.{◌≡◌, ℕ, suc, ◌+◌, Bool, true, false, not, ◌||◌, cond, List, [], ◌∷◌, ◌++◌, Some, None}
use Rattle.std.proofs.Common.{inl, inr, refl, sym, ap, ◌∙◌, subst, arith, append-nil}
use Rattle.std.specs.Prelude.{slice_get, if◌then◌else◌}
use Rattle.std.specs.List.{Contains, filter}
use Rattle.std.proofs.lemmas.Bool.{both_ways, false_from_ne_true}
use Rattle.std.proofs.lemmas.List.Elements.{filter-append}
use Rattle.locks.specs.LockPaths.{LockPath, same_path, each_once}
use Rattle.locks.specs.Working.Laws.{SamePathDecides}
use Rattle.lockpaths.specs.Working.Gathering.{place_from, is_in}
use Rattle.core_lang.specs.Theory.Items.{not_in_none, in_first, in_rest, in_cases}

abbrev others : LockPath → LockPath → Bool
others x other = not (same_path x other)

module _ (decides : SamePathDecides) where
  same_sym : (p q : LockPath) (b : Bool) → same_path p q ≡ b → same_path q p ≡ b
  same_sym p q true e = (decides q p).1 (sym ((decides p q).0 e))
  same_sym p q false e = false_from_ne_true (same_path q p) (λ t. both_ways (same_path p q) e ((decides p q).1 (sym ((decides q p).0 t))))

  -- ---- the place of a path

  at_place : (path x : LockPath) (xs : List LockPath) (k : ℕ) (b : Bool) → same_path path x ≡ b →
      (b || is_in path xs) ≡ true →
      (is_in path xs ≡ true → (i : ℕ) × (place_from path (k + 1) xs ≡ Some (k + 1 + i)) × (slice_get xs i ≡ Some path)) →
      (i : ℕ) × ((if b then Some k else place_from path (k + 1) xs) ≡ Some (k + i)) × (slice_get (x ∷ xs) i ≡ Some path)
  at_place path x xs k true s t rest = (0, ap Some (omega arith), ap Some (sym ((decides path x).0 s)))
  at_place path x xs k false s t rest = let r = rest t in (suc r.0, r.1 ∙ ap Some (omega arith), r.2)

  pub place_in : (path : LockPath) (k : ℕ) (xs : List LockPath) → is_in path xs ≡ true →
      (i : ℕ) × (place_from path k xs ≡ Some (k + i)) × (slice_get xs i ≡ Some path)
  place_in path k [] e = absurd cc
  place_in path k (x ∷ xs) e = at_place path x xs k (same_path path x) refl e (place_in path (k + 1) xs)

  no_place : (path : LockPath) (xs : List LockPath) (k : ℕ) (b : Bool) → (b || is_in path xs) ≡ false →
      (is_in path xs ≡ false → place_from path (k + 1) xs ≡ None) →
      (if b then Some k else place_from path (k + 1) xs) ≡ None
  no_place path xs k true e rest = absurd cc
  no_place path xs k false e rest = rest e

  pub place_none : (path : LockPath) (k : ℕ) (xs : List LockPath) → is_in path xs ≡ false → place_from path k xs ≡ None
  place_none path k [] e = refl
  place_none path k (x ∷ xs) e = no_place path xs k (same_path path x) e (place_none path (k + 1) xs)

  -- ---- being one of them

  contained : (path x : LockPath) (xs : List LockPath) (b : Bool) → same_path path x ≡ b →
      (b || is_in path xs) ≡ true → (is_in path xs ≡ true → Contains xs path) → Contains (x ∷ xs) path
  contained path x xs true s e rest = subst (λ z. Contains (z ∷ xs) path) ((decides path x).0 s) (in_first path xs)
  contained path x xs false s e rest = in_rest x path xs (rest e)

  pub is_in_contains : (path : LockPath) (xs : List LockPath) → is_in path xs ≡ true → Contains xs path
  is_in_contains path [] e = absurd cc
  is_in_contains path (x ∷ xs) e = contained path x xs (same_path path x) refl e (is_in_contains path xs)

  or_true : (a b : Bool) → b ≡ true → (a || b) ≡ true
  or_true true b e = refl
  or_true false b e = e

  pub contains_is_in : (path : LockPath) (xs : List LockPath) → Contains xs path → is_in path xs ≡ true
  contains_is_in path [] c = absurd (not_in_none path c)
  contains_is_in path (x ∷ xs) c =
      elim (in_cases x path xs c) [
        | inl e ↦ ap (λ b. b || is_in path xs) ((decides path x).1 (sym e))
        | inr d ↦ or_true (same_path path x) (is_in path xs) (contains_is_in path xs d)
      ]

  -- ---- one path more

  passed : (path x y : LockPath) (ys : List LockPath) (b : Bool) → same_path x y ≡ b → same_path path x ≡ false →
      is_in path (filter (others x) ys) ≡ is_in path ys →
      is_in path (cond (not b) (y ∷ filter (others x) ys) (filter (others x) ys)) ≡ (same_path path y || is_in path ys)
  passed path x y ys true s e rest =
      let other : same_path path y ≡ false = subst (λ z. same_path path z ≡ false) ((decides x y).0 s) e in
      rest ∙ sym (ap (λ b. b || is_in path ys) other)
  passed path x y ys false s e rest = ap (λ b. same_path path y || b) rest

  in_filter : (path x : LockPath) (xs : List LockPath) → same_path path x ≡ false →
      is_in path (filter (others x) xs) ≡ is_in path xs
  in_filter path x [] e = refl
  in_filter path x (y ∷ ys) e = passed path x y ys (same_path x y) refl e (in_filter path x ys e)

  once_step : (path x : LockPath) (ps : List LockPath) (b : Bool) → same_path path x ≡ b →
      is_in path (each_once ps) ≡ is_in path ps →
      (b || is_in path (filter (others x) (each_once ps))) ≡ (b || is_in path ps)
  once_step path x ps true s rest = refl
  once_step path x ps false s rest = in_filter path x (each_once ps) s ∙ rest

  pub once_in : (path : LockPath) (ps : List LockPath) → is_in path (each_once ps) ≡ is_in path ps
  once_in path [] = refl
  once_in path (x ∷ ps) = once_step path x ps (same_path path x) refl (once_in path ps)

  -- the paths with one that was met before are the same, and another one comes last
  known_step : (path x : LockPath) (ps : List LockPath) (b : Bool) → same_path path x ≡ b →
      (b || is_in path ps) ≡ true →
      (is_in path ps ≡ true → each_once (ps ++ path ∷ []) ≡ each_once ps) →
      (c : Bool) → is_in path ps ≡ c → (is_in path ps ≡ false → each_once (ps ++ path ∷ []) ≡ each_once ps ++ path ∷ []) →
      filter (others x) (each_once (ps ++ path ∷ [])) ≡ filter (others x) (each_once ps)
  known_step path x ps b s e rest true i other = ap (filter (others x)) (rest i)
  known_step path x ps false s e rest false i other = absurd (both_ways (is_in path ps) i e)
  known_step path x ps true s e rest false i other =
      let gone : others x path ≡ false = ap not (same_sym path x true s) in
      ap (filter (others x)) (other i) ∙ filter-append (others x) (each_once ps) (path ∷ [])
      ∙ ap (λ b. filter (others x) (each_once ps) ++ cond b (path ∷ []) []) gone ∙ append-nil (filter (others x) (each_once ps))

  new_step : (path x : LockPath) (ps : List LockPath) (b : Bool) → same_path path x ≡ b → (b || is_in path ps) ≡ false →
      (is_in path ps ≡ false → each_once (ps ++ path ∷ []) ≡ each_once ps ++ path ∷ []) →
      filter (others x) (each_once (ps ++ path ∷ [])) ≡ filter (others x) (each_once ps) ++ path ∷ []
  new_step path x ps true s e rest = absurd cc
  new_step path x ps false s e rest =
      let stays : others x path ≡ true = ap not (same_sym path x false s) in
      ap (filter (others x)) (rest e) ∙ filter-append (others x) (each_once ps) (path ∷ [])
      ∙ ap (λ b. filter (others x) (each_once ps) ++ cond b (path ∷ []) []) stays

  pub once_new : (path : LockPath) (ps : List LockPath) → is_in path ps ≡ false →
      each_once (ps ++ path ∷ []) ≡ each_once ps ++ path ∷ []
  once_new path [] e = refl
  once_new path (x ∷ ps) e = ap (λ l. x ∷ l) (new_step path x ps (same_path path x) refl e (once_new path ps))

  pub once_known : (path : LockPath) (ps : List LockPath) → is_in path ps ≡ true →
      each_once (ps ++ path ∷ []) ≡ each_once ps
  once_known path [] e = absurd cc
  once_known path (x ∷ ps) e =
      ap (λ l. x ∷ l) (known_step path x ps (same_path path x) refl e (once_known path ps) (is_in path ps) refl (once_new path ps))
