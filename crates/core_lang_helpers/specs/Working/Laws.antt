-- Laws of graphs and of their faults, as `src/laws.rt` claims them.
use Rattle.std.specs.Prelude.{◌≡◌, ◌↔◌, ℕ, ◌+◌, ◌<◌, ◌≤◌, List, [], length, slice_get, Some, true}
use Rattle.std.specs.List.{sum_by}
use Rattle.source.specs.declared.fault.Code.{Code}
use Rattle.source.specs.declared.fault.Code.TheVariants.{RecursiveHelper}
use Rattle.source.specs.declared.mistake.Mistake.{Mistake}
use Rattle.source.specs.Theory.Leasts.{IsAmong}
use Rattle.core_lang_helpers.specs.Graphs.{Body, Graph}
use Rattle.core_lang_helpers.specs.Recursion.{ReachesRecursion}
use Rattle.core_lang_helpers.specs.Depths.{CallsOnly, IsAtMostDeep, is_endless}
use Rattle.core_lang_helpers.specs.Counts.{brought_locals, brought_points}
use Rattle.core_lang_helpers.specs.Faults.{DEPTH_LIMIT, LOCAL_LIMIT, POINT_LIMIT, IsGraphFault}
use Rattle.core_lang_helpers.specs.Working.FaultLists.{graph_faults}
use Rattle.core_lang.specs.declared.tree.Section.{Section}
use Rattle.core_lang.specs.declared.typed.Typed.{Typed}
use Rattle.core_lang.specs.Typing.{IsWellTypedSection}
use Rattle.core_lang.specs.Scopes.{IsWellScoped}
use Rattle.core_lang.specs.WellFormed.{IsWithinLimits}
use Rattle.core_lang_helpers.specs.Working.Programs.{IsGraphOf, CallsKeepLimits}

-- each listed fault is a fault of the graph
abbrev pub ListedAreFaults : Type 0
ListedAreFaults = (graph : Graph) (f : Mistake) → IsAmong f (graph_faults graph) → IsGraphFault graph f.code f.start

-- each fault of the graph is listed
abbrev pub FaultsAreListed : Type 0
FaultsAreListed = (graph : Graph) (code : Code) (p : ℕ) → IsGraphFault graph code p → IsAmong (record { code = code; start = p }) (graph_faults graph)

-- the calls of a helper have no end exactly if it reaches a recursion
abbrev pub EndlessReachRecursion : Type 0
EndlessReachRecursion = (helpers : List Body) (f : ℕ) → (is_endless helpers f ≡ true) ↔ ReachesRecursion helpers f

-- every call in a helper calls a helper that exists
abbrev pub CallsAreOfHelpers : List Body → Type 0
CallsAreOfHelpers helpers = (f : ℕ) (b : Body) → slice_get helpers f ≡ Some b → CallsOnly (λ g. g < length helpers) b.calls

abbrev pub HasNoGraphFault : Graph → Type 0
HasNoGraphFault graph = (code : Code) (p : ℕ) → IsGraphFault graph code p → ⊥

-- in a graph without a fault, each helper is at most as deep as the limit
abbrev pub FaultlessAreAtMostDeep : Type 0
FaultlessAreAtMostDeep = (graph : Graph) → HasNoGraphFault graph → CallsAreOfHelpers graph.helpers →
    (f : ℕ) → f < length graph.helpers → IsAtMostDeep graph.helpers DEPTH_LIMIT f

-- in a graph without a fault, the points that the calls of a section bring are within their limit, and if its own
-- locals are within theirs, these are together with the brought ones
abbrev pub FaultlessBringFew : Type 0
FaultlessBringFew = (graph : Graph) → HasNoGraphFault graph → (s : ℕ) (section : Body) → slice_get graph.sections s ≡ Some section →
    (section.locals ≤ LOCAL_LIMIT → section.locals + sum_by (brought_locals graph.helpers) section.calls ≤ LOCAL_LIMIT)
    × (sum_by (brought_points graph.helpers) section.calls ≤ POINT_LIMIT)

-- if no helper calls another one, no helper reaches a recursion
abbrev pub WithoutCallsNoRecursion : Type 0
WithoutCallsNoRecursion = (graph : Graph) → ((f : ℕ) (b : Body) → slice_get graph.helpers f ≡ Some b → b.calls ≡ []) →
    (p : ℕ) → IsGraphFault graph RecursiveHelper p → ⊥

-- a program within its other limits, well typed and well scoped, whose graph has no fault, keeps the limits of calls
abbrev pub FaultlessKeepLimits : Type 0
FaultlessKeepLimits = (program : Typed) (graph : Graph) → IsGraphOf program graph → HasNoGraphFault graph → IsWithinLimits program →
    ((k : ℕ) (helper : Section) → slice_get program.shape.helpers.items k ≡ Some helper → IsWellTypedSection program helper) →
    ((k : ℕ) (section : Section) → slice_get program.sections.items k ≡ Some section → IsWellScoped section) → CallsKeepLimits program
