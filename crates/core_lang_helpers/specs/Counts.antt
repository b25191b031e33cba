-- What calls bring when helpers are expanded: locals and points.
use Rattle.std.specs.Prelude.{ℕ, zero, suc, ◌+◌, Bool, true, false, if◌then◌else◌, List, slice_get}
use Rattle.std.specs.List.{sum_by}
use Rattle.core_lang_helpers.specs.declared.graph.CallSite.{CallSite}
use Rattle.core_lang_helpers.specs.Graphs.{Body}
use Rattle.core_lang_helpers.specs.Depths.{of_body, far, is_endless}

-- 1 if true, else 0
abbrev pub one_for : Bool → ℕ
one_for true = 1
one_for false = 0

-- the number of hidden locals for a call: 1 for a result that no `let` binds
abbrev pub hidden : List Body → CallSite → ℕ
hidden helpers c = if c.is_bound then 0 else of_body (slice_get helpers c.helper) (λ (b : Body). one_for b.has_result)

-- the number of locals of a helper and of its calls, which are followed to this depth and no further
abbrev pub locals_within : ℕ → List Body → ℕ → ℕ
locals_within zero helpers h = 0
locals_within (suc n) helpers h =
    of_body (slice_get helpers h) (λ (b : Body). b.locals + sum_by (λ (c : CallSite). locals_within n helpers c.helper + hidden helpers c) b.calls)

-- the number of points that replace a call: a `let` for each parameter, the points of the body, those of its calls, and
-- a `let` of the result, bound or hidden
abbrev pub points_within : ℕ → List Body → ℕ → ℕ
points_within zero helpers h = 0
points_within (suc n) helpers h =
    of_body (slice_get helpers h) (λ (b : Body). b.parameters + b.points + sum_by (λ (c : CallSite). points_within n helpers c.helper) b.calls + one_for b.has_result)

-- the number of locals that a call in a section brings; 0 if the helper reaches a recursion
abbrev pub brought_locals : List Body → CallSite → ℕ
brought_locals helpers c = if is_endless helpers c.helper then 0 else locals_within (far helpers) helpers c.helper + hidden helpers c

-- the number of points that a call in a section brings; 0 if the helper reaches a recursion
abbrev pub brought_points : List Body → CallSite → ℕ
brought_points helpers c = if is_endless helpers c.helper then 0 else points_within (far helpers) helpers c.helper
