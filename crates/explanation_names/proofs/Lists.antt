-- The items of lists that follow one another.
use Rattle.std.proofs.Common.{◌≡◌, List, [], ◌∷◌, ◌++◌, ◌⊎◌, inl, inr, Bool, true, false, Option, Some, None}
use Rattle.std.proofs.Common.{if◌then◌else◌, take, length, map, refl, ap}
use Rattle.std.specs.List.{cons_option, filter_map, flat_map}
use Rattle.resolution.specs.Where.{Has, first, further}

pub in_left : {A : Type 0} (xs ys : List A) {x : A} → Has xs x → Has (xs ++ ys) x
in_left [] ys h = elim h [ ]
in_left (y ∷ xs) ys first = first
in_left (y ∷ xs) ys (further h) = further (in_left xs ys h)

pub in_right : {A : Type 0} (xs ys : List A) {x : A} → Has ys x → Has (xs ++ ys) x
in_right [] ys h = h
in_right (y ∷ xs) ys h = further (in_right xs ys h)

pub apart : {A : Type 0} (xs ys : List A) {x : A} → Has (xs ++ ys) x → Has xs x ⊎ Has ys x
apart [] ys h = inr h
apart (y ∷ xs) ys first = inl first
apart (y ∷ xs) ys (further h) = elim (apart xs ys h) [ inl a ↦ inl (further a) | inr b ↦ inr b ]

-- a property of the elements of both lists
pub either : {A : Type 0} {P : Type 0} (xs ys : List A) {x : A} → (Has xs x → P) → (Has ys x → P) → Has (xs ++ ys) x → P
either xs ys f g h = elim (apart xs ys h) [ inl a ↦ f a | inr b ↦ g b ]

-- the element of a list of one
pub the_one : {A : Type 0} {x y : A} → Has (x ∷ []) y → x ≡ y
the_one first = refl
the_one (further h) = elim h [ ]

-- the elements of a list that is taken under a condition
pub where_so : {A : Type 0} (b : Bool) (xs : List A) {x : A} → b ≡ true → Has xs x → Has (if b then xs else []) x
where_so true xs is h = h
where_so false xs is h = absurd cc

pub so_where : {A : Type 0} {P : Type 0} (b : Bool) (xs : List A) {x : A} → (b ≡ true → Has xs x → P) →
    Has (if b then xs else []) x → P
so_where true xs f h = f refl h
so_where false xs f h = elim h [ ]

-- the elements that a function gives
module _ {A B : Type 0} (f : A → Option B) {y : B} where
  at_front : (o : Option B) (rest : List B) → o ≡ Some y → Has (cons_option o rest) y
  at_front (Some z) rest is = let e : z ≡ y = cc in rw e first
  at_front None rest is = absurd cc

  behind : (o : Option B) (rest : List B) → Has rest y → Has (cons_option o rest) y
  behind (Some z) rest h = further h
  behind None rest h = h

  pub given : (xs : List A) {x : A} → Has xs x → f x ≡ Some y → Has (filter_map f xs) y
  given [] h is = elim h [ ]
  given (x ∷ xs) first is = at_front (f x) (filter_map f xs) is
  given (x ∷ xs) (further h) is = behind (f x) (filter_map f xs) (given xs h is)

  from_front : {P : Type 0} (o : Option B) (rest : List B) → (o ≡ Some y → P) → (Has rest y → P) →
      Has (cons_option o rest) y → P
  from_front (Some z) rest here later first = here refl
  from_front (Some z) rest here later (further h) = later h
  from_front None rest here later h = later h

  pub from_given : {P : Type 0} (xs : List A) → ((x : A) → Has xs x → f x ≡ Some y → P) → Has (filter_map f xs) y → P
  from_given [] up h = elim h [ ]
  from_given (x ∷ xs) up h = from_front (f x) (filter_map f xs) (up x first) (from_given xs (λ z has. up z (further has))) h

-- the front of two lists appended
pub front : {A : Type 0} (xs ys : List A) → take (length xs) (xs ++ ys) ≡ xs
front [] ys = refl
front (x ∷ xs) ys = ap (λ l. x ∷ l) (front xs ys)

-- the elements of lists appended, one for each element of another
module _ {A B : Type 0} {y : B} where
  pub flat_in : (f : A → List B) (xs : List A) {x : A} → Has xs x → Has (f x) y → Has (flat_map f xs) y
  flat_in f [] has h = elim has [ ]
  flat_in f (x ∷ xs) first h = in_left (f x) (flat_map f xs) h
  flat_in f (x ∷ xs) (further has) h = in_right (f x) (flat_map f xs) (flat_in f xs has h)

  pub flat_from : {P : Type 0} (f : A → List B) (xs : List A) → ((x : A) → Has xs x → Has (f x) y → P) →
      Has (flat_map f xs) y → P
  flat_from f [] up h = elim h [ ]
  flat_from f (x ∷ xs) up h = either (f x) (flat_map f xs) (up x first) (flat_from f xs (λ z has. up z (further has))) h

  pub map_from : {P : Type 0} (f : A → B) (xs : List A) → ((x : A) → Has xs x → f x ≡ y → P) → Has (map f xs) y → P
  map_from f [] up h = elim h [ ]
  map_from f (x ∷ xs) up h = either (f x ∷ []) (map f xs) (λ one. up x first (the_one one)) (map_from f xs (λ z has. up z (further has))) h

pub map_in : {A B : Type 0} (f : A → B) (xs : List A) {x : A} → Has xs x → Has (map f xs) (f x)
map_in f [] has = elim has [ ]
map_in f (x ∷ xs) first = first
map_in f (x ∷ xs) (further has) = further (map_in f xs has)
