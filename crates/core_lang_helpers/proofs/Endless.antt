-- Calls go deeper than the number of helpers exactly if a recursion is reached.
use Rattle.std.proofs.Common.{◌≡◌, ℕ, zero, suc, ◌+◌, ◌<◌, ◌≤◌, Bool, true, false, ◌&&◌, List, [], ◌∷◌, length, ◌⊎◌}
use Rattle.std.proofs.Common.{inl, inr, refl, sym, ap, ◌∙◌, arith}
use Rattle.std.specs.Prelude.{slice_get, Option, Some, None}
use Rattle.std.proofs.lemmas.Bool.{cases_eq, cases_lt, cases_Bool, and_parts, and_from, both_ways, false_from_ne_true}
use Rattle.std.proofs.lemmas.Bool.{lt-ltb, le-ltb}
use Rattle.std.proofs.lemmas.Option.{slice_get_past}
use Rattle.core_lang_helpers.specs.declared.graph.CallSite.{CallSite}
use Rattle.core_lang_helpers.specs.Graphs.{Body}
use Rattle.core_lang_helpers.specs.Recursion.{HasCall, Calls, Reaches, calls, calls_one, ReachesRecursion}
use Rattle.core_lang_helpers.specs.Depths.{of_body, deepest_of, depth_within, far, depth, is_endless}
use Rattle.core_lang_helpers.specs.Counts.{one_for}
use Rattle.core_lang_helpers.specs.Working.Tables.{reaches}
use Rattle.core_lang_helpers.proofs.Closing.{first_there, reaches_all, all_reaches}

-- ---- how many pass a test

abbrev count_to : (ℕ → Bool) → ℕ → ℕ
count_to p zero = 0
count_to p (suc n) = one_for (p n) + count_to p n

one_le : (a b : Bool) → (a ≡ true → b ≡ true) → one_for a ≤ one_for b
one_le true true h = omega arith
one_le true false h = let e : false ≡ true = h refl in absurd cc
one_le false b h = omega arith

one_none : (a : Bool) → a ≡ false → one_for a ≡ 0
one_none a e = ap one_for e

one_some : (a : Bool) → a ≡ true → one_for a ≡ 1
one_some a e = ap one_for e

count_le : (p q : ℕ → Bool) (n : ℕ) → ((k : ℕ) → p k ≡ true → q k ≡ true) → count_to p n ≤ count_to q n
count_le p q zero h = omega arith
count_le p q (suc n) h =
    let one : one_for (p n) ≤ one_for (q n) = one_le (p n) (q n) (h n) in
    let rest : count_to p n ≤ count_to q n = count_le p q n h in
    omega (arith, one, rest)

count_lt : (p q : ℕ → Bool) (n j : ℕ) → ((k : ℕ) → p k ≡ true → q k ≡ true) → j < n → p j ≡ false → q j ≡ true →
    count_to p n < count_to q n
count_lt p q zero j h lt fails passes = absurd (omega (arith, lt))
count_lt p q (suc n) j h lt fails passes =
    elim (cases_eq j n) [
      | inl same ↦
          let none : one_for (p n) ≡ 0 = one_none (p n) (ap p (sym same) ∙ fails) in
          let some : one_for (q n) ≡ 1 = one_some (q n) (ap q (sym same) ∙ passes) in
          let rest : count_to p n ≤ count_to q n = count_le p q n h in
          omega (arith, none, some, rest)
      | inr ne ↦
          let less : j < n = omega (arith, lt, ne) in
          let one : one_for (p n) ≤ one_for (q n) = one_le (p n) (q n) (h n) in
          let rest : count_to p n < count_to q n = count_lt p q n j h less fails passes in
          omega (arith, one, rest)
    ]

abbrev any : ℕ → Bool
any k = true

count_any : (n : ℕ) → count_to any n ≡ n
count_any zero = refl
count_any (suc n) = let rest : count_to any n ≡ n = count_any n in omega (arith, rest)

-- some number below one passes, or none
search_below : (p : ℕ → Bool) (n : ℕ) → ((k : ℕ) × (p k ≡ true)) ⊎ ((k : ℕ) → k < n → p k ≡ false)
search_below p zero = inr (λ k lt. absurd (omega (arith, lt)))
search_below p (suc n) =
    elim (cases_Bool (p n)) [
      | inl passes ↦ inl (n, passes)
      | inr fails ↦ elim (search_below p n) [
        | inl found ↦ inl found
        | inr none ↦ inr (λ k lt. elim (cases_eq k n) [ inl same ↦ ap p same ∙ fails | inr ne ↦ none k (omega (arith, lt, ne)) ])
      ]
    ]

-- ---- the deepest of calls

pub deepest_le : (deep : ℕ → ℕ) (cs : List CallSite) (m : ℕ) → ((g : ℕ) → HasCall cs g → deep g ≤ m) →
    deepest_of deep cs ≤ m
deepest_le deep [] m h = omega arith
deepest_le deep (c ∷ cs) m h =
    let one : deep c.helper ≤ m = h c.helper (inl refl) in
    let rest : deepest_of deep cs ≤ m = deepest_le deep cs m (λ g has. h g (inr has)) in
    omega (arith, one, rest)

pub deepest_ge : (deep : ℕ → ℕ) (cs : List CallSite) (g : ℕ) → HasCall cs g → deep g ≤ deepest_of deep cs
deepest_ge deep [] g h = absurd h
deepest_ge deep (c ∷ cs) g (inl e) = let same : deep c.helper ≡ deep g = ap deep e in omega (arith, same)
deepest_ge deep (c ∷ cs) g (inr h) = let rest : deep g ≤ deepest_of deep cs = deepest_ge deep cs g h in omega (arith, rest)

-- without helpers, no call is deep
pub none_deep : (helpers : List Body) (n h : ℕ) → length helpers ≤ h → depth_within n helpers h ≡ 0
none_deep helpers zero h le = refl
none_deep helpers (suc n) h le =
    ap (λ (o : Option Body). of_body o (λ (b : Body). 1 + deepest_of (depth_within n helpers) b.calls)) (slice_get_past helpers h le)

-- ---- if no recursion is reached, calls are at most as deep as the number of helpers

abbrev pub NoCircle : List Body → ℕ → Type 0
NoCircle helpers f = (g : ℕ) → Reaches helpers f g → Reaches helpers g g → ⊥

called_free : (helpers : List Body) (f g : ℕ) → NoCircle helpers f → Calls helpers f g → NoCircle helpers g
called_free helpers f g free c = λ h r circle. free h (calls_one c r) circle

-- a helper that is called reaches less
abbrev reached : List Body → ℕ → ℕ
reached helpers f = count_to (reaches helpers f) (length helpers)

reached_less : (helpers : List Body) (f g : ℕ) → NoCircle helpers f → Calls helpers f g → g < length helpers →
    reached helpers g < reached helpers f
reached_less helpers f g free c lt =
    count_lt (reaches helpers g) (reaches helpers f) (length helpers) g
    (λ h e. reaches_all helpers f h (calls_one c (all_reaches helpers g h e))) lt
    (false_from_ne_true (reaches helpers g g) (λ e. free g (calls c) (all_reaches helpers g g e)))
    (reaches_all helpers f g (calls c))

depth_step : (helpers : List Body) (n f : ℕ) → NoCircle helpers f →
    ((g : ℕ) → NoCircle helpers g → depth_within n helpers g ≤ reached helpers g + 1) →
    (b : Body) → slice_get helpers f ≡ Some b → (g : ℕ) → HasCall b.calls g → depth_within n helpers g ≤ reached helpers f
depth_step helpers n f free before b is g has = elim (cases_lt g (length helpers)) [
  | inl lt ↦
      let less : reached helpers g < reached helpers f = reached_less helpers f g free (b, is, has) lt in
      let deep : depth_within n helpers g ≤ reached helpers g + 1 = before g (called_free helpers f g free (b, is, has)) in
      omega (arith, less, deep)
  | inr ge ↦ let none : depth_within n helpers g ≡ 0 = none_deep helpers n g ge in omega (arith, none)
]

depth_of : (helpers : List Body) (n f : ℕ) → NoCircle helpers f →
    ((g : ℕ) → NoCircle helpers g → depth_within n helpers g ≤ reached helpers g + 1) →
    (o : Option Body) → slice_get helpers f ≡ o → of_body o (λ (b : Body). 1 + deepest_of (depth_within n helpers) b.calls) ≤ reached helpers f + 1
depth_of helpers n f free before None is = omega arith
depth_of helpers n f free before (Some b) is =
    let deep : deepest_of (depth_within n helpers) b.calls ≤ reached helpers f = deepest_le (depth_within n helpers) b.calls (reached helpers f) (depth_step helpers n f free before b is) in
    omega (arith, deep)

depth_reached : (helpers : List Body) (n f : ℕ) → NoCircle helpers f → depth_within n helpers f ≤ reached helpers f + 1
depth_reached helpers zero f free = omega arith
depth_reached helpers (suc n) f free = depth_of helpers n f free (depth_reached helpers n) (slice_get helpers f) refl

pub free_depth : (helpers : List Body) (n f : ℕ) → NoCircle helpers f → depth_within n helpers f ≤ length helpers
free_depth helpers n f free = elim (cases_lt f (length helpers)) [
  | inl lt ↦
      let less : reached helpers f < count_to any (length helpers) = count_lt (reaches helpers f) any (length helpers) f (λ k e. refl) lt
      (false_from_ne_true (reaches helpers f f) (λ e. let r = all_reaches helpers f f e in free f r r)) refl in
      let all : count_to any (length helpers) ≡ length helpers = count_any (length helpers) in
      let deep : depth_within n helpers f ≤ reached helpers f + 1 = depth_reached helpers n f free in
      omega (arith, less, all, deep)
  | inr ge ↦ let none : depth_within n helpers f ≡ 0 = none_deep helpers n f ge in omega (arith, none)
]

pub free_ends : (helpers : List Body) (f : ℕ) → NoCircle helpers f → is_endless helpers f ≡ false
free_ends helpers f free = le-ltb (length helpers) (depth helpers f) (free_depth helpers (far helpers) f free)

-- ---- if a recursion is reached, calls are as deep as they are followed

pub called_deeper : (helpers : List Body) (n f g : ℕ) → Calls helpers f g →
    depth_within n helpers g + 1 ≤ depth_within (suc n) helpers f
called_deeper helpers n f g c =
    let is : depth_within (suc n) helpers f ≡ 1 + deepest_of (depth_within n helpers) c.0.calls =
    ap (λ (o : Option Body). of_body o (λ (b : Body). 1 + deepest_of (depth_within n helpers) b.calls)) c.1 in
    let deep : depth_within n helpers g ≤ deepest_of (depth_within n helpers) c.0.calls = deepest_ge (depth_within n helpers) c.0.calls g c.2 in
    omega (arith, is, deep)

circle_deep : (helpers : List Body) (n f g : ℕ) → Reaches helpers f g → Reaches helpers g g →
    n ≤ depth_within n helpers f
circle_deep helpers zero f g r circle = omega arith
circle_deep helpers (suc n) f g (calls c) circle =
    let deep : n ≤ depth_within n helpers g = circle_deep helpers n g g circle circle in
    let more : depth_within n helpers g + 1 ≤ depth_within (suc n) helpers f = called_deeper helpers n f g c in
    omega (arith, deep, more)
circle_deep helpers (suc n) f g (calls_one {g = x} c r) circle =
    let deep : n ≤ depth_within n helpers x = circle_deep helpers n x g r circle in
    let more : depth_within n helpers x + 1 ≤ depth_within (suc n) helpers f = called_deeper helpers n f x c in
    omega (arith, deep, more)

pub circle_endless : (helpers : List Body) (f : ℕ) → ReachesRecursion helpers f → is_endless helpers f ≡ true
circle_endless helpers f r =
    let deep : far helpers ≤ depth helpers f = circle_deep helpers (far helpers) f r.0 r.1 r.2 in
    lt-ltb (length helpers) (depth helpers f) (omega (arith, deep))

pub endless_circle : (helpers : List Body) (f : ℕ) → is_endless helpers f ≡ true → ReachesRecursion helpers f
endless_circle helpers f e =
    elim (search_below (λ (g : ℕ). reaches helpers f g && reaches helpers g g) (length helpers)) [
      | inl found ↦
          let p : (reaches helpers f found.0 ≡ true) × (reaches helpers found.0 found.0 ≡ true) = and_parts (reaches helpers f found.0) (reaches helpers found.0 found.0) found.1 in
          (found.0, all_reaches helpers f found.0 p.0, all_reaches helpers found.0 found.0 p.1)
      | inr none ↦
          let free : NoCircle helpers f = λ g r circle.
          both_ways (reaches helpers f g && reaches helpers g g) (none g (first_there helpers g g circle))
          (and_from (reaches helpers f g) (reaches helpers g g) (reaches_all helpers f g r) (reaches_all helpers g g circle)) in
          absurd (both_ways (is_endless helpers f) (free_ends helpers f free) e)
    ]
