-- Cells that accesses reach, and memories that have them.
use Rattle.std.proofs.Common.{◌≡◌, ◌≢◌, ℕ, List, [], ◌∷◌, ◌++◌, Option, Some, true, false, Result, Ok, Err, refl, sym}
use Rattle.std.proofs.Common.{ap, ◌∙◌, ⊎_elim, arith}
use Rattle.std.specs.Prelude.{slice_get, slice_set, nat_eq, ⊤}
use Rattle.std.proofs.lemmas.Bool.Decides.{eqb_tells}
use Rattle.std.proofs.lemmas.Option.{slice_get_within}
use Rattle.std.proofs.lemmas.List.Elements.{Contains-append_right}
use Rattle.core_lang.specs.declared.value.Value.{Value}
use Rattle.core_lang.specs.declared.value.Failure.{Failure}
use Rattle.core_lang.specs.declared.tree.FieldStep.{FieldStep}
use Rattle.core_lang.specs.declared.shape.Shape.{Shape}
use Rattle.core_lang.specs.Cells.{with, step_value}
use Rattle.core_lang.specs.Meaning.{along}
use Rattle.locks.specs.Accesses.{Access}
use Rattle.code.specs.Theory.Values.{set_here, set_there}
use Rattle.code.specs.Working.Seen.{Shows, IsSeen, IsAccessible, Covers}

-- ---- values that are seen

-- if one cell is written
pub shows-set : (seen seen' : ℕ → Option Value) (heap : List Value) (cell : ℕ) (old v : Value) → Shows seen heap →
    slice_get heap cell ≡ Some old →
    seen' cell ≡ Some v → ((c : ℕ) → (c ≡ cell → ⊥) → seen' c ≡ seen c) → Shows seen' (slice_set heap cell v)
shows-set seen seen' heap cell old v s at here others c w e =
    ⊎_elim
    (λ (h : (nat_eq c cell ≡ true) × (c ≡ cell)).
    let same : Some w ≡ Some v = sym e ∙ ap seen' h.1 ∙ here in
    ap (slice_get (slice_set heap cell v)) h.1 ∙ set_here heap cell v (slice_get_within heap cell old at) ∙ sym same)
    (λ (h : (nat_eq c cell ≡ false) × (c ≢ cell)).
    set_there heap cell c v h.1 ∙ s c w (sym (others c h.1) ∙ e))
    (eqb_tells c cell)

pub seen-set : (seen seen' : ℕ → Option Value) (cell : ℕ) (v : Value) →
    seen' cell ≡ Some v → ((c : ℕ) → (c ≡ cell → ⊥) → seen' c ≡ seen c) → (c : ℕ) → IsSeen seen c → IsSeen seen' c
seen-set seen seen' cell v here others c h =
    ⊎_elim
    (λ (e : (nat_eq c cell ≡ true) × (c ≡ cell)). (v, ap seen' e.1 ∙ here))
    (λ (e : (nat_eq c cell ≡ false) × (c ≢ cell)). (h.0, others c e.1 ∙ h.1))
    (eqb_tells c cell)

-- ---- accesses

-- over a state, and what is seen of cells
module _ (shape : Shape) (locals heap : List Value) (seen : ℕ → Option Value) where
  -- of each of some accesses, one after another, the cell is seen
  abbrev pub CoversEach : List Access → Type 0
  CoversEach [] = ⊤
  CoversEach (a ∷ xs) = IsAccessible shape locals heap seen a.target × CoversEach xs

  pub covers-front : (xs ys : List Access) → CoversEach (xs ++ ys) → CoversEach xs
  covers-front [] ys c = tt
  covers-front (a ∷ xs) ys c = (c.0, covers-front xs ys c.1)

  pub covers-back : (xs ys : List Access) → CoversEach (xs ++ ys) → CoversEach ys
  covers-back [] ys c = c
  covers-back (a ∷ xs) ys c = covers-back xs ys c.1

  pub covers_each : (xs : List Access) → Covers shape locals heap seen xs → CoversEach xs
  covers_each [] h = tt
  covers_each (a ∷ xs) h = (h a (0, omega arith, refl), covers_each xs (λ b c. h b (Contains-append_right (a ∷ []) xs b c)))

-- ---- results

pub with-with : {A B C : Type 0} (r : Result A Failure) (f : A → Result B Failure) (g : B → Result C Failure) →
    with (with r f) g ≡ with r (λ a. with (f a) g)
with-with (Ok a) f g = refl
with-with (Err x) f g = refl

pub with-same : {A B : Type 0} (r : Result A Failure) (f g : A → Result B Failure) → ((a : A) → f a ≡ g a) →
    with r f ≡ with r g
with-same (Ok a) f g e = e a
with-same (Err x) f g e = refl

-- one more field after others
pub along-append : (shape : Shape) (heap : List Value) (fs : List FieldStep) (step : FieldStep) (v : Value) →
    along shape heap v (fs ++ step ∷ []) ≡ with (along shape heap v fs) (λ o. step_value shape heap o step)
along-append shape heap [] step v = with-Ok (step_value shape heap v step)
  where
    with-Ok : (r : Result Value Failure) → with r (λ a. Ok a) ≡ r
    with-Ok (Ok a) = refl
    with-Ok (Err f) = refl
along-append shape heap (f ∷ fs) step v =
    with-same (step_value shape heap v f) _ _ (λ w. along-append shape heap fs step w)
    ∙ sym (with-with (step_value shape heap v f) (λ w. along shape heap w fs) (λ o. step_value shape heap o step))
