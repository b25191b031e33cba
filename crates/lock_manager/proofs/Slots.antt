-- The open sections, with one changed.
use Rattle.std.proofs.Common.{◌≡◌, ◌≢◌, ℕ, zero, suc, ◌+◌, ◌<◌, ◌≤◌, List, [], ◌∷◌, length, set, Option, Some, None}
use Rattle.std.proofs.Common.{◌⊎◌, inl, inr, refl, sym, ap, ◌∙◌, arith, get_or}
use Rattle.std.specs.Prelude.{slice_get}
use Rattle.std.specs.List.{Contains}
use Rattle.std.proofs.lemmas.Bool.{cases_eq}
use Rattle.std.proofs.lemmas.Option.{none-some, slice_get_within, slice_get_past}
use Rattle.core_lang.specs.Typing.{lookup}
use Rattle.layout.specs.Layouts.{AreDistinct}
use Rattle.locks.specs.declared.lock.Lock.{Lock}
use Rattle.lock_manager.specs.Manager.{SessionOf, session_in}
use Rattle.lock_manager.specs.Working.Managers.{Holds, Asks}
use Rattle.lock_manager.specs.Working.Ties.{sum_over, one_if_asking, one_if_some}
use Rattle.core_lang.specs.Theory.Items.{lookup_some, set_same, set_other, some_same}

pub slot_of : (slots : List (Option SessionOf)) (t : ℕ) (s : SessionOf) → session_in slots t ≡ Some s →
    slice_get slots t ≡ Some (Some s)
slot_of slots t s e = let r = lookup_some (slice_get slots t) (λ x. x) s e in r.1 ∙ ap Some r.2

pub slot_within : (slots : List (Option SessionOf)) (t : ℕ) (s : SessionOf) → session_in slots t ≡ Some s →
    t < length slots
slot_within slots t s e = slice_get_within slots t (Some s) (slot_of slots t s e)

pub closed_slot : (slots : List (Option SessionOf)) (t : ℕ) → t < length slots → session_in slots t ≡ None →
    slice_get slots t ≡ Some None
closed_slot [] t lt e = absurd (omega (arith, lt))
closed_slot (x ∷ slots) zero lt e = ap Some e
closed_slot (x ∷ slots) (suc t) lt e = closed_slot slots t (omega (arith, lt)) e

pub session_same : (slots : List (Option SessionOf)) (t : ℕ) (s : Option SessionOf) → t < length slots →
    session_in (set slots t s) t ≡ s
session_same slots t s lt = ap (λ o. lookup o (λ x. x)) (set_same slots t s lt)

pub session_other : (slots : List (Option SessionOf)) (t u : ℕ) (s : Option SessionOf) → t ≢ u →
    session_in (set slots t s) u ≡ session_in slots u
session_other slots t u s ne = ap (λ o. lookup o (λ x. x)) (set_other slots t u s ne)

pub closed_asks_nothing : (slots : List (Option SessionOf)) (t : ℕ) (lock : Lock) (s : SessionOf) →
    session_in slots t ≡ Some s → s.ask ≡ None → Asks slots t lock → ⊥
closed_asks_nothing slots t lock s e free a =
    let same : a.session ≡ s = some_same a.session s (sym a.is ∙ e) in
    none-some lock (sym free ∙ ap (λ (x : SessionOf). x.ask) (sym same) ∙ a.ask)

module _ (slots : List (Option SessionOf)) (t : ℕ) (s : Option SessionOf) (lt : t < length slots) where
  -- the holder of a lock after the change
  pub holds_cases : (u : ℕ) (lock : Lock) → Holds (set slots t s) u lock →
      ((t ≡ u) × (x : SessionOf) × (s ≡ Some x) × Contains x.held lock) ⊎ ((t ≢ u) × Holds slots u lock)
  holds_cases u lock h = elim (cases_eq t u) [
    | inl e ↦ inl (e, h.session, sym (session_same slots t s lt) ∙ ap (session_in (set slots t s)) e ∙ h.is, h.held)
    | inr ne ↦ inr (ne, record { session = h.session; is = sym (session_other slots t u s ne) ∙ h.is; held = h.held })
  ]

  pub holds_other : (u : ℕ) (lock : Lock) → t ≢ u → Holds slots u lock → Holds (set slots t s) u lock
  holds_other u lock ne h = record { session = h.session; is = session_other slots t u s ne ∙ h.is; held = h.held }

  pub holds_same : (x : SessionOf) (u : ℕ) (lock : Lock) → t ≡ u → s ≡ Some x → Contains x.held lock →
      Holds (set slots t s) u lock
  holds_same x u lock e is c = record { session = x; is = ap (session_in (set slots t s)) (sym e) ∙ session_same slots t s lt ∙ is; held = c }

  -- the thread that asks for a lock after the change
  pub asks_cases : (u : ℕ) (lock : Lock) → Asks (set slots t s) u lock →
      ((t ≡ u) × (x : SessionOf) × (s ≡ Some x) × (x.ask ≡ Some lock)) ⊎ ((t ≢ u) × Asks slots u lock)
  asks_cases u lock a = elim (cases_eq t u) [
    | inl e ↦ inl (e, a.session, sym (session_same slots t s lt) ∙ ap (session_in (set slots t s)) e ∙ a.is, a.ask)
    | inr ne ↦ inr (ne, record { session = a.session; is = sym (session_other slots t u s ne) ∙ a.is; ask = a.ask })
  ]

  -- the request of the changed slot
  pub asked_session : (x : SessionOf) (u : ℕ) (lock : Lock) → t ≡ u → s ≡ Some x → (a : Asks (set slots t s) u lock) →
      x ≡ a.session
  asked_session x u lock e is a = some_same x a.session (sym (ap (session_in (set slots t s)) (sym e) ∙ session_same slots t s lt ∙ is) ∙ a.is)

  pub asks_back : (u : ℕ) (lock : Lock) (a : Asks (set slots t s) u lock) → t ≢ u → Asks slots u lock
  asks_back u lock a ne = record { session = a.session; is = sym (session_other slots t u s ne) ∙ a.is; ask = a.ask }

  pub as_it_asked : (P : SessionOf → Type 0) (u : ℕ) (lock : Lock) (a : Asks (set slots t s) u lock) → t ≢ u →
      ((b : Asks slots u lock) → P b.session) → P a.session
  as_it_asked P u lock a ne f = f (record { session = a.session; is = sym (session_other slots t u s ne) ∙ a.is; ask = a.ask })

  pub asks_other : (u : ℕ) (lock : Lock) → t ≢ u → Asks slots u lock → Asks (set slots t s) u lock
  asks_other u lock ne a = record { session = a.session; is = session_other slots t u s ne ∙ a.is; ask = a.ask }

  pub asks_same : (x : SessionOf) (u : ℕ) (lock : Lock) → t ≡ u → s ≡ Some x → x.ask ≡ Some lock →
      Asks (set slots t s) u lock
  asks_same x u lock e is q = record { session = x; is = ap (session_in (set slots t s)) (sym e) ∙ session_same slots t s lt ∙ is; ask = q }

  -- each session holds its locks once
  pub once_set : ((u : ℕ) (x : SessionOf) → session_in slots u ≡ Some x → AreDistinct x.held) →
      ((x : SessionOf) → s ≡ Some x → AreDistinct x.held) →
      (u : ℕ) (x : SessionOf) → session_in (set slots t s) u ≡ Some x → AreDistinct x.held
  once_set others its u x is = elim (cases_eq t u) [
    | inl e ↦ its x (sym (session_same slots t s lt) ∙ ap (session_in (set slots t s)) e ∙ is)
    | inr ne ↦ others u x (sym (session_other slots t u s ne) ∙ is)
  ]

-- ---- sums

pub sum_set : (f : Option SessionOf → ℕ) (ss : List (Option SessionOf)) (t : ℕ) (old new : Option SessionOf) →
    slice_get ss t ≡ Some old →
    f old + sum_over f (set ss t new) ≡ f new + sum_over f ss
sum_set f [] t old new at = absurd (none-some old at)
sum_set f (x ∷ ss) zero old new at = let same : f x ≡ f old = ap f (some_same x old at) in omega (arith, same)
sum_set f (x ∷ ss) (suc t) old new at = omega (arith, sum_set f ss t old new at)

at_most_one : (s : Option SessionOf) → one_if_asking s ≤ 1
at_most_one None = omega arith
at_most_one (Some s) = some_at_most s.ask
  where
    some_at_most : (o : Option Lock) → one_if_some o ≤ 1
    some_at_most None = omega arith
    some_at_most (Some l) = omega arith

pub few_ask : (ss : List (Option SessionOf)) → sum_over one_if_asking ss ≤ length ss
few_ask [] = omega arith
few_ask (s ∷ ss) = omega (arith, at_most_one s, few_ask ss)

-- ---- a slot that is read

pub none_there : (slots : List (Option SessionOf)) (t : ℕ) (x : Option SessionOf) → x ≡ get_or slots t x → x ≡ None →
    session_in slots t ≡ None
none_there [] t x is e = refl
none_there (s ∷ slots) zero x is e = sym is ∙ e
none_there (s ∷ slots) (suc t) x is e = none_there slots t x is e

pub some_there : (slots : List (Option SessionOf)) (t : ℕ) (x : Option SessionOf) (s : SessionOf) →
    x ≡ get_or slots t x → session_in slots t ≡ Some s → x ≡ Some s
some_there [] t x s is e = absurd (none-some s e)
some_there (y ∷ slots) zero x s is e = is ∙ e
some_there (y ∷ slots) (suc t) x s is e = some_there slots t x s is e

pub open_within : (slots : List (Option SessionOf)) (t : ℕ) → session_in slots t ≢ None → t < length slots
open_within [] t is_open = absurd (is_open refl)
open_within (s ∷ slots) zero is_open = omega arith
open_within (s ∷ slots) (suc t) is_open = omega (arith, open_within slots t is_open)

pub session_read : (slots : List (Option SessionOf)) (t : ℕ) (x : Option SessionOf) (s : SessionOf) →
    t < length slots → x ≡ get_or slots t x → x ≡ Some s → session_in slots t ≡ Some s
session_read [] t x s lt is e = absurd (omega (arith, lt))
session_read (y ∷ slots) zero x s lt is e = sym is ∙ e
session_read (y ∷ slots) (suc t) x s lt is e = session_read slots t x s (omega (arith, lt)) is e

pub none_past : (slots : List (Option SessionOf)) (t : ℕ) → length slots ≤ t → session_in slots t ≡ None
none_past slots t le = ap (λ o. lookup o (λ x. x)) (slice_get_past slots t le)
