-- The faults of a graph as one list, in the order in which they are looked for. Only proofs need it: `Faults` defines
-- the faults.
use Rattle.std.specs.Prelude.{ℕ, ◌+◌, nat_lt, nat_le, not, ◌&&◌, Bool, true, if◌then◌else◌, List, [], ◌∷◌, ◌++◌, Option}
use Rattle.std.specs.Prelude.{Some, None}
use Rattle.std.specs.List.{flat_map, list_any}
use Rattle.source.specs.declared.fault.Code.{Code}
use Rattle.source.specs.declared.fault.Code.TheVariants.{LimitExceeded, RecursiveHelper}
use Rattle.source.specs.declared.mistake.Mistake.{Mistake}
use Rattle.source.specs.Mistakes.{goes_before}
use Rattle.core_lang_helpers.specs.declared.graph.CallSite.{CallSite}
use Rattle.core_lang_helpers.specs.Graphs.{Body, Graph}
use Rattle.core_lang_helpers.specs.Depths.{depth, is_endless}
use Rattle.core_lang_helpers.specs.Counts.{brought_locals, brought_points}
use Rattle.core_lang_helpers.specs.Faults.{DEPTH_LIMIT, LOCAL_LIMIT, POINT_LIMIT}
use Rattle.core_lang_helpers.specs.Working.Tables.{leads_to, is_marked}

abbrev pub told_if : Bool → Code → ℕ → List Mistake
told_if b code start = if b then record { code = code; start = start } ∷ [] else []

-- ---- helpers

-- a call in helper f leads back to f
abbrev pub leads_back : List Body → ℕ → CallSite → Bool
leads_back helpers f c = leads_to helpers c.helper f

abbrev pub recursion_faults : List Body → ℕ → CallSite → List Mistake
recursion_faults helpers f c = told_if (leads_back helpers f c) RecursiveHelper c.start

-- the fault of a call of a marked helper
abbrev pub marked_faults : List Bool → CallSite → List Mistake
marked_faults marks c = told_if (is_marked marks c.helper) RecursiveHelper c.start

-- a recursion at this call is kept: it comes before the noted fault
abbrev pub is_new : Option Mistake → CallSite → Bool
is_new None c = true
is_new (Some kept) c = goes_before (record { code = RecursiveHelper; start = c.start }) kept

abbrev pub any_new : Option Mistake → List CallSite → Bool
any_new least calls = list_any (is_new least) calls

abbrev pub is_too_deep : List Body → ℕ → Bool
is_too_deep helpers f = nat_lt DEPTH_LIMIT (depth helpers f) && not (is_endless helpers f)

-- the faults of helper f
abbrev pub helper_faults : List Body → ℕ → Body → List Mistake
helper_faults helpers f b = told_if (is_too_deep helpers f) LimitExceeded b.start ++ flat_map (recursion_faults helpers f) b.calls

-- the faults of the helpers from a number on
abbrev pub helpers_faults : List Body → ℕ → List Body → List Mistake
helpers_faults helpers f [] = []
helpers_faults helpers f (b ∷ bs) = helper_faults helpers f b ++ helpers_faults helpers (f + 1) bs

-- ---- sections

-- a further count is the first to exceed the limit, after the count before
abbrev pub first_too_many : ℕ → ℕ → ℕ → Bool
first_too_many limit before more = nat_le before limit && nat_lt limit (before + more)

-- the faults of a section's calls, after these counts of locals and points
abbrev pub call_faults : List Body → ℕ → ℕ → List CallSite → List Mistake
call_faults helpers locals points [] = []
call_faults helpers locals points (c ∷ cs) =
    told_if (first_too_many LOCAL_LIMIT locals (brought_locals helpers c)) LimitExceeded c.start
    ++ told_if (first_too_many POINT_LIMIT points (brought_points helpers c)) LimitExceeded c.start
    ++ call_faults helpers (locals + brought_locals helpers c) (points + brought_points helpers c) cs

abbrev pub section_faults : List Body → Body → List Mistake
section_faults helpers b = call_faults helpers b.locals 0 b.calls

-- ---- the whole

abbrev pub graph_faults : Graph → List Mistake
graph_faults graph = helpers_faults graph.helpers 0 graph.helpers ++ flat_map (section_faults graph.helpers) graph.sections
