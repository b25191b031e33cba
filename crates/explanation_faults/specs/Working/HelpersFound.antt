-- How the code finds a limit on what helpers call. Nobody has to believe this file.
use Rattle.std.specs.Prelude.{◌≡◌, ◌<◌, ℕ, false, List, slice_get, Some}
use Rattle.core_lang_helpers.specs.Depths.{depth, is_endless}
use Rattle.core_lang_helpers.specs.Working.FaultLists.{graph_faults}
use Rattle.core_lang_helpers.specs.Faults.{DEPTH_LIMIT}
use Rattle.core_lang_helpers.specs.Graphs.{Body}
use Rattle.resolution.specs.CallGraphs.{helper_bodies, tree_graph}
use Rattle.source.specs.Mistakes.{least_of}
use Rattle.source.specs.declared.fault.Code.TheVariants.{LimitExceeded, RecursiveHelper}
use Rattle.syntax.specs.Trees.{Decl}

abbrev pub all_helpers : List Decl → List Body
all_helpers decls = helper_bodies decls decls

-- a helper that is declared at the byte reaches no recursion, and is too deep
pub record IsDeepThere (helpers : List Body) (at : ℕ) : Type 0 where
  pub number : ℕ
  pub body : Body
  pub listed : slice_get helpers number ≡ Some body
  pub starts : body.start ≡ at
  pub ends : is_endless helpers number ≡ false
  pub deep : DEPTH_LIMIT < depth helpers number

-- of the graph's faults and a recursion at the byte, the first is a limit exceeded at this byte
abbrev pub IsFirstThere : List Decl → ℕ → Type 0
IsFirstThere decls at =
    least_of (Some (record { code = RecursiveHelper; start = at })) (graph_faults (tree_graph decls)) ≡ Some (record { code = LimitExceeded; start = at })
