-- The calls of helpers and sections, as plain data.
use Rattle.std.specs.Prelude.{ℕ, Bool, List, [], ◌∷◌, ◌++◌, map}
use Rattle.core_lang_helpers.specs.declared.graph.CallSite.{CallSite}
use Rattle.core_lang_helpers.specs.declared.graph.CallerBody as code
use Rattle.core_lang_helpers.specs.declared.graph.CallGraph.{CallGraph}

-- a helper or a section, as far as the call graph needs it
pub record Body : Type 0 where
  -- where the declared name starts
  pub start : ℕ
  pub parameters : ℕ
  -- the number of parameters, `let`s and `var`s
  pub locals : ℕ
  -- the number of statements that are points by themselves: all but calls and the `return`
  pub points : ℕ
  pub has_result : Bool
  -- the calls, in the order of the text
  pub calls : List CallSite

-- the helpers and sections of a program; calls name helpers by their numbers
pub record Graph : Type 0 where
  pub helpers : List Body
  pub sections : List Body

-- ---- graphs of the code

abbrev pub body_of : code.CallerBody → Body
body_of b = record { start = b.start; parameters = b.parameters; locals = b.locals; points = b.points; has_result = b.has_result; calls = b.calls.items }

abbrev pub bodies_of : List code.CallerBody → List Body
bodies_of bs = map body_of bs

abbrev pub graph_of : CallGraph → Graph
graph_of g = record { helpers = bodies_of g.helpers.items; sections = bodies_of g.sections.items }

abbrev pub no_bodies : Graph
no_bodies = record { helpers = []; sections = [] }

abbrev pub with_helper : Graph → Body → Graph
with_helper g b = record g { helpers = g.helpers ++ b ∷ [] }

abbrev pub with_section : Graph → Body → Graph
with_section g b = record g { sections = g.sections ++ b ∷ [] }
