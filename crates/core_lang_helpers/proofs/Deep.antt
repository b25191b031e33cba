-- Helpers of at most a given depth.
use Rattle.std.proofs.Common.{◌≡◌, ℕ, zero, suc, ◌+◌, ◌<◌, ◌≤◌, List, [], ◌∷◌, length, refl, sym, ap, subst, arith}
use Rattle.std.specs.Prelude.{slice_get, Option, Some}
use Rattle.core_lang_helpers.specs.declared.graph.CallSite.{CallSite}
use Rattle.core_lang_helpers.specs.Graphs.{Body}
use Rattle.core_lang_helpers.specs.Depths.{of_body, deepest_of, depth_within, CallsOnly, IsAtMostDeep}
use Rattle.core_lang_helpers.specs.Working.Laws.{CallsAreOfHelpers}

-- what holds of each helper of at most this depth holds of all called helpers
all_called : (deep : ℕ → ℕ) (P Q : ℕ → Type 0) (d : ℕ) → ((g : ℕ) → deep g ≤ d → P g → Q g) → (cs : List CallSite) →
    deepest_of deep cs ≤ d → CallsOnly P cs → CallsOnly Q cs
all_called deep P Q d go [] le only = tt
all_called deep P Q d go (c ∷ cs) le only = (go c.helper (omega (arith, le)) only.0, all_called deep P Q d go cs (omega (arith, le)) only.1)

pub there : (helpers : List Body) (f : ℕ) → f < length helpers → (b : Body) × (slice_get helpers f ≡ Some b)
there [] f lt = absurd (omega (arith, lt))
there (b ∷ bs) zero lt = (b, refl)
there (b ∷ bs) (suc f) lt = there bs f (omega (arith, lt))

deep_is : (helpers : List Body) (n f : ℕ) (b : Body) → slice_get helpers f ≡ Some b →
    depth_within (suc n) helpers f ≡ 1 + deepest_of (depth_within n helpers) b.calls
deep_is helpers n f b is = ap (λ (o : Option Body). of_body o (λ (b : Body). 1 + deepest_of (depth_within n helpers) b.calls)) is

-- calls followed further than they go tell how deep they go
pub deep_at : (helpers : List Body) → CallsAreOfHelpers helpers → (d n f : ℕ) → f < length helpers →
    depth_within n helpers f ≤ d → d < n → IsAtMostDeep helpers d f
deep_at helpers right d zero f lt le less = absurd (omega (arith, less))
deep_at helpers right zero (suc n) f lt le less =
    let b = there helpers f lt in
    let is : depth_within (suc n) helpers f ≡ 1 + deepest_of (depth_within n helpers) b.0.calls = deep_is helpers n f b.0 b.1 in
    absurd (omega (arith, is, le))
deep_at helpers right (suc d) (suc n) f lt le less =
    let b = there helpers f lt in
    let is : depth_within (suc n) helpers f ≡ 1 + deepest_of (depth_within n helpers) b.0.calls = deep_is helpers n f b.0 b.1 in
    let called : deepest_of (depth_within n helpers) b.0.calls ≤ d = omega (arith, is, le) in (
      b.0,
      b.1,
      all_called (depth_within n helpers) (λ (g : ℕ). g < length helpers) (IsAtMostDeep helpers d) d
          (λ g shallow here. deep_at helpers right d n g here shallow (omega (arith, less))) b.0.calls called (right f b.0 b.1),
    )

pub only_like : (P Q : ℕ → Type 0) → ((g : ℕ) → P g → Q g) → (cs : List CallSite) → CallsOnly P cs → CallsOnly Q cs
only_like P Q go [] only = tt
only_like P Q go (c ∷ cs) only = (go c.helper only.0, only_like P Q go cs only.1)

deeper : (helpers : List Body) (d f : ℕ) → IsAtMostDeep helpers d f → IsAtMostDeep helpers (suc d) f
deeper helpers zero f is = absurd is
deeper helpers (suc d) f is = (is.0, is.1, only_like (IsAtMostDeep helpers d) (IsAtMostDeep helpers (suc d)) (deeper helpers d) is.0.calls is.2)

-- and so at most any more
pub deeper_by : (helpers : List Body) (more d f : ℕ) → IsAtMostDeep helpers d f → (e : ℕ) → e ≡ d + more →
    IsAtMostDeep helpers e f
deeper_by helpers zero d f is e same = subst (λ (x : ℕ). IsAtMostDeep helpers x f) (sym (let eq : e ≡ d = omega (arith, same) in eq)) is
deeper_by helpers (suc more) d f is e same = deeper_by helpers more (suc d) f (deeper helpers d f is) e (omega (arith, same))
