-- The table of which helpers reach which agrees with the relation.
use Rattle.std.proofs.Common.{◌≡◌, ℕ, zero, suc, ◌<◌, true, ◌&&◌, List, [], ◌∷◌, length, ◌⊎◌, inl, inr, refl, ap, ◌∙◌}
use Rattle.std.proofs.Common.{subst, arith}
use Rattle.std.specs.Prelude.{◌==◌, slice_get, Option, Some, None}
use Rattle.std.proofs.lemmas.Bool.{cases_lt, or_cases, or_left, or_right, and_parts, and_from, eq-eqb, eqb-true}
use Rattle.std.proofs.lemmas.Option.{slice_get_within}
use Rattle.core_lang_helpers.specs.declared.graph.CallSite.{CallSite}
use Rattle.core_lang_helpers.specs.Graphs.{Body}
use Rattle.core_lang_helpers.specs.Recursion.{HasCall, Calls, Reaches, calls, calls_one}
use Rattle.core_lang_helpers.specs.Working.Tables.{is_called, called_by, reaches_over, reaches}

-- ---- one call

called_has : (cs : List CallSite) (g : ℕ) → is_called cs g ≡ true → HasCall cs g
called_has [] g e = absurd cc
called_has (c ∷ cs) g e =
    elim (or_cases (c.helper == g) (is_called cs g) e) [ inl here ↦ inl (eqb-true c.helper g here) | inr later ↦ inr (called_has cs g later) ]

has_called : (cs : List CallSite) (g : ℕ) → HasCall cs g → is_called cs g ≡ true
has_called [] g h = absurd h
has_called (c ∷ cs) g (inl e) = or_left (c.helper == g) (is_called cs g) (eq-eqb c.helper g e)
has_called (c ∷ cs) g (inr h) = or_right (c.helper == g) (is_called cs g) (has_called cs g h)

called_at : (helpers : List Body) (f g : ℕ) (o : Option Body) → slice_get helpers f ≡ o → called_by o g ≡ true →
    Calls helpers f g
called_at helpers f g (Some b) is e = (b, is, called_has b.calls g e)
called_at helpers f g None is e = absurd cc

called_calls : (helpers : List Body) (f g : ℕ) → called_by (slice_get helpers f) g ≡ true → Calls helpers f g
called_calls helpers f g e = called_at helpers f g (slice_get helpers f) refl e

calls_called : (helpers : List Body) (f g : ℕ) → Calls helpers f g → called_by (slice_get helpers f) g ≡ true
calls_called helpers f g c = ap (λ (o : Option Body). called_by o g) c.1 ∙ has_called c.0.calls g c.2

-- ---- reached helpers

pub reaches_on : (helpers : List Body) (f g h : ℕ) → Reaches helpers f g → Reaches helpers g h → Reaches helpers f h
reaches_on helpers f g h (calls c) r = calls_one c r
reaches_on helpers f g h (calls_one {g = x} c q) r = calls_one c (reaches_on helpers x g h q r)

-- a helper that reaches another one exists
pub first_there : (helpers : List Body) (f g : ℕ) → Reaches helpers f g → f < length helpers
first_there helpers f g (calls c) = slice_get_within helpers f c.0 c.1
first_there helpers f g (calls_one c r) = slice_get_within helpers f c.0 c.1

pub over_reaches : (helpers : List Body) (k f g : ℕ) → reaches_over k helpers f g ≡ true → Reaches helpers f g
over_reaches helpers zero f g e = calls (called_calls helpers f g e)
over_reaches helpers (suc k) f g e =
    elim (or_cases (reaches_over k helpers f g) (reaches_over k helpers f k && reaches_over k helpers k g) e) [
      | inl before ↦ over_reaches helpers k f g before
      | inr both ↦
          let p : (reaches_over k helpers f k ≡ true) × (reaches_over k helpers k g ≡ true) = and_parts (reaches_over k helpers f k) (reaches_over k helpers k g) both in
          reaches_on helpers f k g (over_reaches helpers k f k p.0) (over_reaches helpers k k g p.1)
    ]

kept : (helpers : List Body) (k f g : ℕ) → called_by (slice_get helpers f) g ≡ true → reaches_over k helpers f g ≡ true
kept helpers zero f g e = e
kept helpers (suc k) f g e = or_left (reaches_over k helpers f g) (reaches_over k helpers f k && reaches_over k helpers k g) (kept helpers k f g e)

-- as it is at one step, and through the helper that comes with it
abbrev Parts : List Body → ℕ → ℕ → ℕ → Type 0
Parts helpers k f g = (reaches_over k helpers f g ≡ true) ⊎ ((reaches_over k helpers f k ≡ true) × (reaches_over k helpers k g ≡ true))

parts : (helpers : List Body) (k f g : ℕ) → reaches_over (suc k) helpers f g ≡ true → Parts helpers k f g
parts helpers k f g e =
    elim (or_cases (reaches_over k helpers f g) (reaches_over k helpers f k && reaches_over k helpers k g) e) [
      | inl before ↦ inl before
      | inr both ↦ inr (and_parts (reaches_over k helpers f k) (reaches_over k helpers k g) both)
    ]

joined : (helpers : List Body) (k f g : ℕ) → Parts helpers k f g → reaches_over (suc k) helpers f g ≡ true
joined helpers k f g (inl before) = or_left (reaches_over k helpers f g) (reaches_over k helpers f k && reaches_over k helpers k g) before
joined helpers k f g (inr both) =
    or_right (reaches_over k helpers f g) (reaches_over k helpers f k && reaches_over k helpers k g) (and_from (reaches_over k helpers f k) (reaches_over k helpers k g) both.0 both.1)

-- closed over the helpers before
closed_before : (helpers : List Body) (k j f g : ℕ) →
    ((f g : ℕ) → reaches_over k helpers f j ≡ true → reaches_over k helpers j g ≡ true → reaches_over k helpers f g ≡ true) →
    Parts helpers k f j → Parts helpers k j g → Parts helpers k f g
closed_before helpers k j f g closed (inl a) (inl b) = inl (closed f g a b)
closed_before helpers k j f g closed (inl a) (inr b) = inr (closed f k a b.0, b.1)
closed_before helpers k j f g closed (inr a) (inl b) = inr (a.0, closed k g a.1 b)
closed_before helpers k j f g closed (inr a) (inr b) = inr (a.0, b.1)

-- and over the one that comes with it
to_last : (helpers : List Body) (k f : ℕ) → Parts helpers k f k → reaches_over k helpers f k ≡ true
to_last helpers k f (inl a) = a
to_last helpers k f (inr a) = a.0

from_last : (helpers : List Body) (k g : ℕ) → Parts helpers k k g → reaches_over k helpers k g ≡ true
from_last helpers k g (inl b) = b
from_last helpers k g (inr b) = b.1

closed : (helpers : List Body) (k j f g : ℕ) → j < k → reaches_over k helpers f j ≡ true →
    reaches_over k helpers j g ≡ true → reaches_over k helpers f g ≡ true
closed helpers zero j f g lt a b = absurd (omega (arith, lt))
closed helpers (suc k) j f g lt a b =
    elim (cases_lt j k) [
      | inl less ↦ joined helpers k f g (closed_before helpers k j f g (λ x y. closed helpers k j x y less) (parts helpers k f j a) (parts helpers k j g b))
      | inr ge ↦
          let same : j ≡ k = omega (arith, lt, ge) in
          joined helpers k f g (inr (
            to_last helpers k f (subst (Parts helpers k f) same (parts helpers k f j a)),
            from_last helpers k g (subst (λ (x : ℕ). Parts helpers k x g) same (parts helpers k j g b)),
          ))
    ]

pub reaches_all : (helpers : List Body) (f g : ℕ) → Reaches helpers f g → reaches helpers f g ≡ true
reaches_all helpers f g (calls c) = kept helpers (length helpers) f g (calls_called helpers f g c)
reaches_all helpers f g (calls_one {g = x} c r) =
    closed helpers (length helpers) x f g (first_there helpers x g r) (kept helpers (length helpers) f x (calls_called helpers f x c)) (reaches_all helpers x g r)

pub all_reaches : (helpers : List Body) (f g : ℕ) → reaches helpers f g ≡ true → Reaches helpers f g
all_reaches helpers f g e = over_reaches helpers (length helpers) f g e
