-- The faults of a graph: recursion, and the limits of depth and of what calls bring.
use Rattle.std.specs.Prelude.{◌≡◌, ℕ, ◌+◌, ◌<◌, ◌≤◌, List, ◌∷◌, ◌++◌, slice_get, Some, false}
use Rattle.std.specs.List.{sum_by}
use Rattle.source.specs.declared.fault.Code.{Code}
use Rattle.source.specs.declared.fault.Code.TheVariants.{LimitExceeded, RecursiveHelper}
use Rattle.core_lang_helpers.specs.declared.graph.CallSite.{CallSite}
use Rattle.core_lang_helpers.specs.Graphs.{Body, Graph}
use Rattle.core_lang_helpers.specs.Recursion.{LeadsTo}
use Rattle.core_lang_helpers.specs.Depths.{depth, is_endless}
use Rattle.core_lang_helpers.specs.Counts.{brought_locals, brought_points}
pub use Rattle.source.specs.Limits.{DEPTH_LIMIT, LOCAL_LIMIT, POINT_LIMIT}

-- the call closes a recursion: in helper f, a call of a helper that is f or reaches it
pub data IsRecursive (graph : Graph) : ℕ → Type 0 where
  recursive_call : (f k : ℕ) {body : Body} {c : CallSite} →
      slice_get graph.helpers f ≡ Some body → slice_get body.calls k ≡ Some c → LeadsTo graph.helpers c.helper f →
      IsRecursive graph c.start

-- the fault of a limit at this byte
pub data IsOverLimit (graph : Graph) : ℕ → Type 0 where
  -- a helper that does not reach a recursion, and is too deep
  too_deep : (f : ℕ) {body : Body} →
      slice_get graph.helpers f ≡ Some body → is_endless graph.helpers f ≡ false → DEPTH_LIMIT < depth graph.helpers f →
      IsOverLimit graph body.start
  -- the first call with which a section has too many locals; the section's own locals count before those of its calls
  too_many_locals : (s : ℕ) (before behind : List CallSite) (c : CallSite) {section : Body} →
      slice_get graph.sections s ≡ Some section → section.calls ≡ before ++ c ∷ behind →
      section.locals + sum_by (brought_locals graph.helpers) before ≤ LOCAL_LIMIT →
      LOCAL_LIMIT < section.locals + sum_by (brought_locals graph.helpers) before + brought_locals graph.helpers c →
      IsOverLimit graph c.start
  too_many_points : (s : ℕ) (before behind : List CallSite) (c : CallSite) {section : Body} →
      slice_get graph.sections s ≡ Some section → section.calls ≡ before ++ c ∷ behind →
      sum_by (brought_points graph.helpers) before ≤ POINT_LIMIT →
      POINT_LIMIT < sum_by (brought_points graph.helpers) before + brought_points graph.helpers c →
      IsOverLimit graph c.start

-- the graph has a fault of this code at this byte
pub data IsGraphFault (graph : Graph) : Code → ℕ → Type 0 where
  recursive : {p : ℕ} → IsRecursive graph p → IsGraphFault graph RecursiveHelper p
  over_limit : {p : ℕ} → IsOverLimit graph p → IsGraphFault graph LimitExceeded p
