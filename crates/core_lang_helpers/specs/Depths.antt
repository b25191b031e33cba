-- How deep calls go.
use Rattle.std.specs.Prelude.{◌≡◌, ℕ, zero, suc, ◌+◌, max, nat_lt, Bool, List, [], ◌∷◌, length, slice_get, Option}
use Rattle.std.specs.Prelude.{Some, None, ⊤}
use Rattle.core_lang_helpers.specs.declared.graph.CallSite.{CallSite}
use Rattle.core_lang_helpers.specs.Graphs.{Body}

-- the number of a body, or 0 if it does not exist
abbrev pub of_body : Option Body → (Body → ℕ) → ℕ
of_body (Some body) go = go body
of_body None go = 0

-- the greatest of the called helpers' depths, 0 without calls
abbrev pub deepest_of : (ℕ → ℕ) → List CallSite → ℕ
deepest_of depth [] = 0
deepest_of depth (c ∷ cs) = max (depth c.helper) (deepest_of depth cs)

-- the depth of a helper: 1 if it calls none, else one more than the deepest that it calls. Calls are followed to this
-- depth and no further
abbrev pub depth_within : ℕ → List Body → ℕ → ℕ
depth_within zero helpers h = 0
depth_within (suc n) helpers h = of_body (slice_get helpers h) (λ (b : Body). 1 + deepest_of (depth_within n helpers) b.calls)

-- one more than the number of helpers: calls go so deep only if a helper is called again
abbrev pub far : List Body → ℕ
far helpers = length helpers + 1

-- the depth of a helper
abbrev pub depth : List Body → ℕ → ℕ
depth helpers h = depth_within (far helpers) helpers h

-- the calls of a helper have no end: it reaches a recursion, as a law states in both directions
abbrev pub is_endless : List Body → ℕ → Bool
is_endless helpers h = nat_lt (length helpers) (depth helpers h)

-- each called helper has the property
abbrev pub CallsOnly : (ℕ → Type 0) → List CallSite → Type 0
CallsOnly P [] = ⊤
CallsOnly P (c ∷ cs) = P c.helper × CallsOnly P cs

-- the calls of a helper go at most this deep: it calls only helpers whose calls go one less deep
abbrev pub IsAtMostDeep : List Body → ℕ → ℕ → Type 0
IsAtMostDeep helpers zero h = ⊥
IsAtMostDeep helpers (suc d) h = (b : Body) × (slice_get helpers h ≡ Some b) × CallsOnly (IsAtMostDeep helpers d) b.calls
