-- Tests of lists one element at a time.
use Rattle.std.proofs.Common.{◌≡◌, ◌∙◌, ℕ, zero, suc, ◌+◌, Bool, true, false, cond, List, [], ◌∷◌, map, take, get_or}
use Rattle.std.proofs.Common.{Option, Some, None, ap, refl, append_assoc}
use Rattle.std.proofs.Common.{◌++◌, sym}
use Rattle.std.proofs.lemmas.List.{map-append, take_more}
use Rattle.std.proofs.lemmas.List.Folds.{find-append}
use Rattle.std.proofs.lemmas.Option.{same_Some, slice_get_within, get_or_from_slice_get}
use Rattle.std.specs.Option.{option_or}
use Rattle.std.specs.Prelude.{◌||◌, find, slice_get}
use Rattle.std.specs.Option.{option_map_or}
use Rattle.std.specs.List.{list_any}
use Rattle.core_lang.specs.declared.tree.Section.{Section}
use Rattle.core_lang.specs.declared.typed.Typed.{Typed}
use Rattle.flow.specs.Points.{Point, points}
use Rattle.explanations.specs.CycleCalls.{call_of, helper_points, leads, starts_in}

or_true : (b : Bool) → (b || true) ≡ true
or_true true = refl
or_true false = refl

-- an element that settles the answer
pub any_at : {A B : Type 0} (f : A → B) (p : B → Bool) (xs : List A) (i : ℕ) (x : A) → slice_get xs i ≡ Some x →
    p (f x) ≡ true → list_any p (map f xs) ≡ true
any_at f p [] i x there is = absurd cc
any_at f p (y ∷ ys) zero x there is =
    ap (λ (b : Bool). b || list_any p (map f ys)) (ap (λ a. p (f a)) (same_Some y x there) ∙ is)
any_at f p (y ∷ ys) (suc i) x there is = ap (λ (b : Bool). p (f y) || b) (any_at f p ys i x there is) ∙ or_true (p (f y))

-- the first element that passes, after those that do not
pub found_at : {A B : Type 0} (f : A → B) (p : B → Bool) (xs : List A) (i : ℕ) (x : A) → slice_get xs i ≡ Some x →
    find p (map f (take i xs)) ≡ None → p (f x) ≡ true → find p (map f xs) ≡ Some (f x)
found_at f p [] i x there none is = absurd cc
found_at f p (y ∷ ys) zero x there none is =
    let same = same_Some y x there in
    ap (λ (b : Bool). cond b (Some (f y)) (find p (map f ys))) (ap (λ a. p (f a)) same ∙ is) ∙ ap (λ a. Some (f a)) same
found_at f p (y ∷ ys) (suc i) x there none is =
    elim (p (f y)) as (λ b. cond b (Some (f y)) (find p (map f (take i ys))) ≡ None →
    cond b (Some (f y)) (find p (map f ys)) ≡ Some (f x)) [
      | true ↦ λ h. cc
      | false ↦ λ h. found_at f p ys i x there h is
    ] none

-- one more element that does not pass
pub none_more : {A B : Type 0} (f : A → B) (p : B → Bool) (xs : List A) (i : ℕ) (x : A) → slice_get xs i ≡ Some x →
    find p (map f (take i xs)) ≡ None → p (f x) ≡ false → find p (map f (take (i + 1) xs)) ≡ None
none_more f p xs i x there none is =
    let lt = slice_get_within xs i x there in
    ap (λ l. find p (map f l)) (take_more xs i x lt)
    ∙ ap (find p) (map-append f (take i xs) (get_or xs i x ∷ []))
    ∙ find-append p (map f (take i xs)) (f (get_or xs i x) ∷ [])
    ∙ ap (λ o. option_or o (find p (f (get_or xs i x) ∷ []))) none
    ∙ ap (λ (b : Bool). cond b (Some (f (get_or xs i x))) None) (ap (λ a. p (f a)) (get_or_from_slice_get xs i x x there) ∙ is)

pub both_added : {A : Type 0} (first one two new between : List A) → between ≡ first ++ one → new ≡ between ++ two →
    new ≡ first ++ (one ++ two)
both_added {A = A} first one two new between e g = g ∙ ap (λ (l : List A). l ++ two) e ∙ append_assoc first one two

-- ---- the places to which a call leads

module _ (program : Typed) (at : ℕ) (p : Point) (number : ℕ) (helper : Section) (calls : call_of p ≡ Some number)
    (there : slice_get program.shape.helpers.items number ≡ Some helper) where
  -- a call leads to what the points of its helper do
  leads_by : (n : ℕ) → leads program (suc n) at p
      ≡ (starts_in (points helper) at || list_any (leads program n at) (points helper))
  leads_by n =
      ap (λ (o : Option ℕ). option_map_or (λ h. starts_in (helper_points program h) at || list_any (leads program n at) (helper_points program h)) o false) calls
      ∙ ap (λ (o : Option Section). starts_in (option_map_or points o []) at || list_any (leads program n at) (option_map_or points o [])) there

  pub led_by_start : (n : ℕ) (ps : List Point) → ps ≡ points helper → starts_in ps at ≡ true → leads program (suc n) at p ≡ true
  led_by_start n ps are is =
      leads_by n ∙ ap (λ l. starts_in l at || list_any (leads program n at) l) (sym are)
      ∙ ap (λ (b : Bool). b || list_any (leads program n at) ps) is

  pub led_by_call : (n : ℕ) (ps : List Point) → ps ≡ points helper → list_any (leads program n at) ps ≡ true →
      leads program (suc n) at p ≡ true
  led_by_call n ps are is =
      leads_by n ∙ ap (λ l. starts_in l at || list_any (leads program n at) l) (sym are)
      ∙ ap (λ (b : Bool). starts_in ps at || b) is ∙ or_true (starts_in ps at)

  pub not_led : (n : ℕ) (ps : List Point) → ps ≡ points helper → starts_in ps at ≡ false →
      list_any (leads program n at) ps ≡ false → leads program (suc n) at p ≡ false
  not_led n ps are no_start no_call =
      leads_by n ∙ ap (λ l. starts_in l at || list_any (leads program n at) l) (sym are)
      ∙ ap (λ (b : Bool). b || list_any (leads program n at) ps) no_start ∙ no_call
