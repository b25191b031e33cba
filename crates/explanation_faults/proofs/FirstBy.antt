-- The first thing that a list gives.
use Rattle.std.proofs.Common.{◌≡◌, ◌∙◌, ◌+◌, ◌<◌, ℕ, List, [], ◌∷◌, ◌++◌, length, map, drop, get_or, Option, Some, None}
use Rattle.std.proofs.Common.{refl, sym, ap}
use Rattle.std.specs.List.{cons_option, filter_map}
use Rattle.std.specs.Prelude.{slice_get}
use Rattle.core_lang.specs.Theory.Items.{next_of}
use Rattle.resolution.specs.Where.{Has, first, further}
use Rattle.explanation_names.specs.FirstBy.{first_by, IsFirst}

module _ {A B : Type 0} (f : A → Option B) where
  of_front : (o : Option B) (y : B) (ys : List B) → o ≡ Some y → slice_get (cons_option o ys) 0 ≡ Some y
  of_front o y ys is = ap (λ (p : Option B). slice_get (cons_option p ys) 0) is

  of_rest : (o : Option B) (ys : List B) → o ≡ None → slice_get (cons_option o ys) 0 ≡ slice_get ys 0
  of_rest o ys is = ap (λ (p : Option B). slice_get (cons_option p ys) 0) is

  further_some : (o : Option B) (ys : List B) → ((z : B) × (slice_get ys 0 ≡ Some z)) →
      (z : B) × (slice_get (cons_option o ys) 0 ≡ Some z)
  further_some (Some y) ys rest = (y, refl)
  further_some None ys rest = rest

  -- if some element gives something, the list has a first such element
  pub some_first : (xs : List A) (x : A) (y : B) → Has xs x → f x ≡ Some y → (z : B) × (first_by f xs ≡ Some z)
  some_first [] x y has is = elim has [ ]
  some_first (w ∷ xs) x y first is = (y, of_front (f w) y (filter_map f xs) is)
  some_first (w ∷ xs) x y (further has) is = further_some (f w) (filter_map f xs) (some_first xs x y has is)

  from_front : (w : A) (ws : List A) (o : Option B) (y : B) → f w ≡ o →
      slice_get (cons_option o (filter_map f ws)) 0 ≡ Some y →
      (first_by f ws ≡ Some y → (x : A) × Has ws x × (f x ≡ Some y)) → (x : A) × Has (w ∷ ws) x × (f x ≡ Some y)
  from_front w ws (Some z) y gives is rest = (w, first, gives ∙ is)
  from_front w ws None y gives is rest = let r = rest is in (r.0, further r.1, r.2)

  -- what the list gives first comes from one of its elements
  pub first_from : (xs : List A) (y : B) → first_by f xs ≡ Some y → (x : A) × Has xs x × (f x ≡ Some y)
  first_from [] y is = absurd cc
  first_from (w ∷ ws) y is = from_front w ws (f w) y refl is (first_from ws y)

  -- the element that gives `y`, before which no element gives anything
  pub record Given (xs : List A) (y : B) : Type 0 where
    pub before : List A
    pub x : A
    pub behind : List A
    pub parts : xs ≡ before ++ x ∷ behind
    pub gives : f x ≡ Some y
    pub none : (z : A) → Has before z → f z ≡ None

  none_front : (w : A) (ws : List A) → f w ≡ None → ((z : A) → Has ws z → f z ≡ None) → (z : A) → Has (w ∷ ws) z →
      f z ≡ None
  none_front w ws is rest z first = is
  none_front w ws is rest z (further has) = rest z has

  given_front : (w : A) (ws : List A) (o : Option B) (y : B) → f w ≡ o →
      slice_get (cons_option o (filter_map f ws)) 0 ≡ Some y →
      (first_by f ws ≡ Some y → Given ws y) → Given (w ∷ ws) y
  given_front w ws (Some z) y here is rest =
      record { before = []; x = w; behind = ws; parts = refl; gives = here ∙ is; none = λ v has. elim has [ ] }
  given_front w ws None y here is rest =
      let r = rest is in
      record {
        before = w ∷ r.before;
        x = r.x;
        behind = r.behind;
        parts = ap (λ (l : List A). w ∷ l) r.parts;
        gives = r.gives;
        none = none_front w r.before here r.none;
      }

  pub given_by : (xs : List A) (y : B) → first_by f xs ≡ Some y → Given xs y
  given_by [] y is = absurd cc
  given_by (w ∷ ws) y is = given_front w ws (f w) y refl is (given_by ws y)

  pub given_back : (before : List A) (x : A) (behind : List A) (y : B) → f x ≡ Some y →
      ((z : A) → Has before z → f z ≡ None) →
      first_by f (before ++ x ∷ behind) ≡ Some y
  given_back [] x behind y gives none = of_front (f x) y (filter_map f behind) gives
  given_back (w ∷ before) x behind y gives none =
      of_rest (f w) (filter_map f (before ++ x ∷ behind)) (none w first) ∙ given_back before x behind y gives (λ z has. none z (further has))

  module _ {X : Type 0} (view : X → A) (xs : List X) (i : ℕ) (x : X) (whole : Option B) (lt : i < length xs) (is : x ≡ get_or xs i x)
      (before : first_by f (map view (drop i xs)) ≡ whole) where
    here : first_by f (map view (x ∷ drop (i + 1) xs)) ≡ whole
    here = ap (λ (l : List X). first_by f (map view l)) (sym (next_of xs i x lt is)) ∙ before

    -- a turn of a loop: the element gives something, or nothing
    pub first_here : (y : B) → f (view x) ≡ Some y → Some y ≡ whole
    first_here y gives = sym (of_front (f (view x)) y (filter_map f (map view (drop (i + 1) xs))) gives) ∙ here

    pub first_later : f (view x) ≡ None → first_by f (map view (drop (i + 1) xs)) ≡ whole
    first_later none = sym (of_rest (f (view x)) (filter_map f (map view (drop (i + 1) xs))) none) ∙ here

-- ---- the first of a kind

has_middle : {A : Type 0} (before : List A) (x : A) (after : List A) → Has (before ++ x ∷ after) x
has_middle [] x after = first
has_middle (y ∷ before) x after = further (has_middle before x after)

pub has_first : {A B : Type 0} (kind : B → A) (xs : List A) (x : B) → IsFirst kind xs x → Has xs (kind x)
has_first kind xs x is = rw is.parts (has_middle is.before (kind x) is.after)

module _ {A B : Type 0} (f : A → Option B) (kind : B → A) (only : (w : A) (y : B) → f w ≡ Some y → w ≡ kind y) (gives : (y : B) → f (kind y) ≡ Some y) where
  not_front : (y : B) (w : A) (ws : List A) → f w ≡ None → ((z : B) → Has ws (kind z) → ⊥) → Has (w ∷ ws) (kind y) → ⊥
  not_front y w ws none rest first = let e = sym none ∙ gives y in cc
  not_front y w ws none rest (further has) = rest y has

  first_front : (w : A) (ws : List A) (o : Option B) (y : B) → f w ≡ o →
      slice_get (cons_option o (filter_map f ws)) 0 ≡ Some y →
      (first_by f ws ≡ Some y → IsFirst kind ws y) → IsFirst kind (w ∷ ws) y
  first_front w ws (Some z) y here is rest =
      record { before = []; after = ws; parts = ap (λ (v : A). v ∷ ws) (only w y (here ∙ is)); none = λ z has. elim has [ ] }
  first_front w ws None y here is rest =
      let r = rest is in
      record { before = w ∷ r.before; after = r.after; parts = ap (λ (l : List A). w ∷ l) r.parts; none = λ z has. not_front z w r.before here r.none has }

  pub is_first : (xs : List A) (y : B) → first_by f xs ≡ Some y → IsFirst kind xs y
  is_first [] y is = absurd cc
  is_first (w ∷ ws) y is = first_front w ws (f w) y refl is (is_first ws y)
