-- One more target of an `init`.
use Rattle.std.proofs.Common.{◌≡◌, ℕ, List, [], ◌∷◌, Option, Some, None, Bool, true, false, refl, sym, ap, ◌∙◌}
use Rattle.std.proofs.Common.{if◌then◌else◌}
use Rattle.std.specs.Prelude.{◌&&◌, cond, slice_get}
use Rattle.std.specs.Option.{option_or}
use Rattle.std.specs.Map.{lookup}
use Rattle.resolution.specs.declared.init_target.InitTarget.{InitTarget}
use Rattle.resolution.specs.Scopes.{◌>>=◌, place_of, named}
use Rattle.resolution.specs.Constants.{same_init_target}
use Rattle.resolution.specs.Theory.Facts.{same_is}

pub and_is : (a b d : Bool) → (a && (b && d)) ≡ (a && b && d)
and_is true b d = refl
and_is false b d = refl

pub add_is : (f : InitTarget → Option ℕ) (init_target : InitTarget) (place : ℕ) (g : InitTarget) →
    f init_target ≡ None →
    cond (same_init_target init_target g) (Some place) (f g) ≡ option_or (f g) (if same_init_target init_target g then Some place else None)
add_is f init_target place g none = decide (same_init_target init_target g) refl
  where
    or_none : (o : Option ℕ) → o ≡ option_or o None
    or_none None = refl
    or_none (Some k) = refl

    decide : (b : Bool) → same_init_target init_target g ≡ b →
        cond b (Some place) (f g) ≡ option_or (f g) (if b then Some place else None)
    decide true e = let h : f g ≡ None = sym (ap f (same_is init_target g e)) ∙ none in sym (ap (λ (o : Option ℕ). option_or o (Some place)) h)
    decide false e = or_none (f g)

pub add_test : (f : InitTarget → Option ℕ) (init_target : InitTarget) (place : ℕ) (g : InitTarget) (t : Bool) →
    t ≡ same_init_target init_target g → f init_target ≡ None →
    cond t (Some place) (f g) ≡ option_or (f g) (if same_init_target init_target g then Some place else None)
add_test f init_target place g t is none = ap (λ (b : Bool). cond b (Some place) (f g)) is ∙ add_is f init_target place g none

pub get_same : (test other : InitTarget → Bool) → ((h : InitTarget) → test h ≡ other h) →
    (es : List (InitTarget × ℕ)) → lookup test es ≡ lookup other es
get_same test other same [] = refl
get_same test other same (e ∷ es) = ap (λ (b : Bool). cond b (Some e.1) (lookup test es)) (same e.0) ∙ ap (cond (other e.0) (Some e.1)) (get_same test other same es)

-- the first that bears it, where its place is known and what stands there
pub named_is : {A Q : Type 0} (bears : A → Q → Bool) (xs : List A) (q : Q) (i : ℕ) (x : A) →
    place_of bears xs q ≡ Some i → slice_get xs i ≡ Some x → named bears xs q ≡ Some (i, x)
named_is {A} bears xs q i x place here =
    ap (λ (o : Option ℕ). ◌>>=◌ {B = ℕ × A} o (λ j. ◌>>=◌ {B = ℕ × A} (slice_get xs j) (λ y. Some (j, y)))) place
    ∙ ap (λ (o : Option A). ◌>>=◌ {B = ℕ × A} o (λ y. Some (i, y))) here
