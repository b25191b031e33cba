-- The lock that is found is at hand, and one is found where one is.
use Rattle.std.proofs.Common.{◌≡◌, ◌∙◌, ℕ, Bool, true, false, List, [], ◌∷◌, Option, Some, None, refl, sym, ap, eq-eqb}
use Rattle.std.proofs.Common.{eqb-true}
use Rattle.std.specs.Option.{option_or}
use Rattle.std.specs.Prelude.{◌||◌, if◌then◌else◌}
use Rattle.std.proofs.lemmas.Bool.{or_left, or_right}
use Rattle.resolution.specs.Where.{Has, first, further}
use Rattle.syntax.specs.Trees.{Ident, Protection, Field, Member, lock_member, final_member, field_member, Struct, Decl}
use Rattle.syntax.specs.Trees.{lock, struct, global, array, pool, init, atomic, helper, thread}
use Rattle.core_lang.specs.Theory.Items.{if_some}
use Rattle.explanation_names.specs.FirstBy.{IsFirst}
use Rattle.explanation_faults.specs.LocksAtHand.{IsNearest, inside, outside, IsAtHand, for_global, for_array, for_field}
use Rattle.explanation_faults.specs.Working.LocksFound.{field_lacks_lock, global_lock, lacks_lock, lock_at_hand}
use Rattle.explanation_faults.specs.Working.LocksFound.{lock_for, lock_in, own_lock, some_lacks_lock}
use Rattle.explanation_faults.specs.LimitsPassed.{own_lock_in}
use Rattle.explanation_faults.proofs.FirstBy.{some_first, first_from, is_first, has_first}

some_bare : (at : ℕ) (ms : List Member) (m : Member) → Has ms m → field_lacks_lock at m ≡ true →
    some_lacks_lock at ms ≡ true
some_bare at [] m has is = elim has [ ]
some_bare at (w ∷ ms) m first is = or_left (field_lacks_lock at w) (some_lacks_lock at ms) is
some_bare at (w ∷ ms) m (further has) is = or_right (field_lacks_lock at w) (some_lacks_lock at ms) (some_bare at ms m has is)

if_so : {A : Type 0} (b : Bool) (o : Option A) → b ≡ true → (if b then o else None) ≡ o
if_so b o is = ap (λ (c : Bool). if c then o else None) is

own_or : (o p : Option Ident) → ((y : Ident) × (p ≡ Some y)) → (y : Ident) × (option_or o p ≡ Some y)
own_or (Some x) p y = (x, refl)
own_or None p y = y

-- ---- what is found

lock_only : (d : Decl) (x : Ident) → lock_in d ≡ Some x → d ≡ lock x
lock_only (lock y) x is = let same : y ≡ x = cc in ap lock same
lock_only (struct y) x is = absurd cc
lock_only (global y) x is = absurd cc
lock_only (array y) x is = absurd cc
lock_only (pool y) x is = absurd cc
lock_only (init y) x is = absurd cc
lock_only (atomic y) x is = absurd cc
lock_only (helper y) x is = absurd cc
lock_only (thread y) x is = absurd cc

own_only : (m : Member) (x : Ident) → own_lock_in m ≡ Some x → m ≡ lock_member x
own_only (lock_member y) x is = let same : y ≡ x = cc in ap lock_member same
own_only (final_member y) x is = absurd cc
own_only (field_member y) x is = absurd cc

lacks : (at : ℕ) (x : Ident) (p : Option Protection) → lacks_lock at x p ≡ true → (p ≡ None) × (x.span.start ≡ at)
lacks at x None is = (refl, eqb-true x.span.start at is)
lacks at x (Some p) is = absurd cc

-- a field without an annotation
record LacksThere (at : ℕ) (ms : List Member) : Type 0 where
  pub field : Field
  pub has : Has ms (field_member field)
  pub none : field.protection ≡ None
  pub starts : field.name.span.start ≡ at

further_lacks : (at : ℕ) (m : Member) (ms : List Member) → LacksThere at ms → LacksThere at (m ∷ ms)
further_lacks at m ms l = record { field = l.field; has = further l.has; none = l.none; starts = l.starts }

lacks_here : (at : ℕ) (m : Member) (ms : List Member) (b : Bool) → field_lacks_lock at m ≡ b →
    b || some_lacks_lock at ms ≡ true →
    (some_lacks_lock at ms ≡ true → LacksThere at ms) → LacksThere at (m ∷ ms)
lacks_here at m ms false is some rest = further_lacks at m ms (rest some)
lacks_here at (lock_member x) ms true is some rest = absurd cc
lacks_here at (final_member f) ms true is some rest = absurd cc
lacks_here at (field_member f) ms true is some rest =
    let l = lacks at f.name f.protection is in record { field = f; has = first; none = l.0; starts = l.1 }

lacks_there : (at : ℕ) (ms : List Member) → some_lacks_lock at ms ≡ true → LacksThere at ms
lacks_there at [] some = absurd cc
lacks_there at (m ∷ ms) some = lacks_here at m ms (field_lacks_lock at m) refl some (lacks_there at ms)

module _ (decls : List Decl) where
  global_first : (x : Ident) → global_lock decls ≡ Some x → IsFirst lock decls x
  global_first x is = is_first lock_in lock lock_only (λ y. refl) decls x is

  nearest : (s : Struct) (x : Ident) (o : Option Ident) → own_lock s.members ≡ o →
      option_or o (global_lock decls) ≡ Some x → IsNearest decls s.members x
  nearest s x (Some y) own is =
      inside (is_first own_lock_in lock_member own_only (λ y. refl) s.members x (own ∙ is))
  nearest s x None own is =
      outside (λ y has. let some = some_first own_lock_in s.members (lock_member y) y has refl in let e : None ≡ Some some.0 = sym own ∙ some.1 in absurd cc)
      (global_first x is)

  found_for : (at : ℕ) (d : Decl) (x : Ident) → Has decls d → lock_for decls at d ≡ Some x → IsAtHand decls at x
  found_for at (struct s) x has is =
      let found = if_some (some_lacks_lock at s.members) _ x is in
      let l = lacks_there at s.members found.0 in
      for_field has l.has l.none l.starts (nearest s x (own_lock s.members) refl found.1)
  found_for at (global v) x has is =
      let found = if_some (lacks_lock at v.name v.protection) _ x is in
      let l = lacks at v.name v.protection found.0 in
      for_global has l.0 l.1 (global_first x found.1)
  found_for at (array a) x has is =
      let found = if_some (lacks_lock at a.name a.protection) _ x is in
      let l = lacks at a.name a.protection found.0 in
      for_array has l.0 l.1 (global_first x found.1)
  found_for at (lock y) x has is = absurd cc
  found_for at (pool y) x has is = absurd cc
  found_for at (init y) x has is = absurd cc
  found_for at (atomic y) x has is = absurd cc
  found_for at (helper y) x has is = absurd cc
  found_for at (thread y) x has is = absurd cc

  pub is_at_hand : (at : ℕ) (x : Ident) → lock_at_hand decls at ≡ Some x → IsAtHand decls at x
  is_at_hand at x is = let from = first_from (lock_for decls at) decls x is in found_for at from.0 x from.1 from.2

  -- ---- what is at hand

  bare_at : (at : ℕ) (x : Ident) (p : Option Protection) → p ≡ None → x.span.start ≡ at → lacks_lock at x p ≡ true
  bare_at at x p none starts = ap (lacks_lock at x) none ∙ eq-eqb x.span.start at starts

  some_global : (x : Ident) → IsFirst lock decls x → (y : Ident) × (global_lock decls ≡ Some y)
  some_global x is = some_first lock_in decls (lock x) x (has_first lock decls x is) refl

  own_so : (o p : Option Ident) → ((y : Ident) × (o ≡ Some y)) → (y : Ident) × (option_or o p ≡ Some y)
  own_so (Some x) p y = (x, refl)
  own_so None p y = absurd (let e = y.1 in cc)

  some_nearest : (s : Struct) (x : Ident) → IsNearest decls s.members x →
      (y : Ident) × (option_or (own_lock s.members) (global_lock decls) ≡ Some y)
  some_nearest s x (inside is) =
      own_so (own_lock s.members) (global_lock decls) (some_first own_lock_in s.members (lock_member x) x (has_first lock_member s.members x is) refl)
  some_nearest s x (outside none is) = own_or (own_lock s.members) (global_lock decls) (some_global x is)

  at_hand_found : (at : ℕ) (x : Ident) → IsAtHand decls at x → (y : Ident) × (lock_at_hand decls at ≡ Some y)
  at_hand_found at x (for_global {v} has none starts is) =
      let a = some_global x is in
      some_first (lock_for decls at) decls (global v) a.0 has (if_so _ (global_lock decls) (bare_at at v.name v.protection none starts) ∙ a.1)
  at_hand_found at x (for_array {a} has none starts is) =
      let g = some_global x is in
      some_first (lock_for decls at) decls (array a) g.0 has (if_so _ (global_lock decls) (bare_at at a.name a.protection none starts) ∙ g.1)
  at_hand_found at x (for_field {s} {f} has field none starts is) =
      let own = some_nearest s x is in
      let some = some_bare at s.members (field_member f) field (bare_at at f.name f.protection none starts) in
      some_first (lock_for decls at) decls (struct s) own.0 has (if_so _ (option_or (own_lock s.members) (global_lock decls)) some ∙ own.1)

  pub none_at_hand : (at : ℕ) → lock_at_hand decls at ≡ None → (x : Ident) → IsAtHand decls at x → ⊥
  none_at_hand at none x is = let found = at_hand_found at x is in let e : None ≡ Some found.0 = sym none ∙ found.1 in absurd cc
