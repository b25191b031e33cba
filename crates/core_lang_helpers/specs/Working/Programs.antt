-- The call graph of a resolved program: what its sections and helpers call, by number.
use Rattle.std.specs.Prelude.{◌≡◌, ℕ, ◌+◌, ◌≤◌, Bool, List, [], ◌∷◌, ◌++◌, map, length, slice_get, Some, is_some}
use Rattle.source.specs.Limits.{LOCAL_LIMIT, POINT_LIMIT}
use Rattle.core_lang.specs.declared.tree.Stmt.{Stmt}
use Rattle.core_lang.specs.declared.tree.Action.{Action, Call, If', IfElse', While', Row_of-Stmt, end_of-Stmt}
use Rattle.core_lang.specs.declared.tree.Action.{more_of-Stmt}
use Rattle.core_lang.specs.declared.tree.Section.{Section}
use Rattle.core_lang.specs.declared.typed.Typed.{Typed}
use Rattle.core_lang.specs.Meaning.{deepest}
use Rattle.core_lang.specs.Helpers.{IsAtMostDeep}
use Rattle.core_lang.specs.Scopes.{bound_in_all}
use Rattle.core_lang.specs.WrittenLocals.{written_locals}
use Rattle.core_lang.specs.WrittenPoints.{points_among_all, helper_points}
use Rattle.core_lang_helpers.specs.declared.graph.CallSite.{CallSite}
use Rattle.core_lang_helpers.specs.Graphs.{Body, Graph}

-- a call without its position: the helper, and whether the result is bound
abbrev pub site_of : CallSite → ℕ × Bool
site_of c = (c.helper, c.is_bound)

-- the calls of statements, in the order of the text
abbrev mutual
  pub sites_by : Action → List (ℕ × Bool)
  sites_by (Call helper arguments result) = (helper, is_some result) ∷ []
  sites_by (If' c m block) = sites_in block
  sites_by (IfElse' c m block k otherwise) = sites_in block ++ sites_in otherwise
  sites_by (While' c m body) = sites_in body
  sites_by _ = []

  pub sites_in : {m : _} → Row_of-Stmt m → List (ℕ × Bool)
  sites_in end_of-Stmt = []
  sites_in (more_of-Stmt start action rest) = sites_by action ++ sites_in rest

-- the calls of a list of statements, in the order of the text
abbrev pub sites_in_all : List Stmt → List (ℕ × Bool)
sites_in_all [] = []
sites_in_all (x ∷ xs) = sites_by x.action ++ sites_in_all xs

abbrev pub brings_none : ℕ → ℕ
brings_none helper = 0

-- the counts and calls of a section or a helper
pub record IsBodyOf (section : Section) (b : Body) : Type 0 where
  pub parameters : b.parameters ≡ section.parameters
  pub locals : b.locals ≡ section.parameters + length (bound_in_all section.body.items)
  pub points : b.points ≡ points_among_all 1 brings_none section.body.items
  pub has_result : b.has_result ≡ is_some section.result_type
  pub calls : map site_of b.calls ≡ sites_in_all section.body.items

-- the graph has the counts and calls of each helper and each section, in their order
pub record IsGraphOf (program : Typed) (graph : Graph) : Type 0 where
  pub few : length graph.helpers ≡ length program.shape.helpers.items
  pub helpers : (k : ℕ) (h : Section) → slice_get program.shape.helpers.items k ≡ Some h →
      (b : Body) × (slice_get graph.helpers k ≡ Some b) × IsBodyOf h b
  pub sections : (k : ℕ) (s : Section) → slice_get program.sections.items k ≡ Some s →
      (b : Body) × (slice_get graph.sections k ≡ Some b) × IsBodyOf s b

-- calls of helpers keep the limits: no helper is too deep, and no section gets too many locals or points from helpers
pub record CallsKeepLimits (program : Typed) : Type 0 where
  pub helper_depths : (k : ℕ) (h : Section) → slice_get program.shape.helpers.items k ≡ Some h →
      IsAtMostDeep program.shape deepest k
  pub written_locals : (k : ℕ) (section : Section) → slice_get program.sections.items k ≡ Some section →
      length (written_locals program.shape section) ≤ LOCAL_LIMIT
  pub helper_points : (k : ℕ) (section : Section) → slice_get program.sections.items k ≡ Some section →
      helper_points program.shape section ≤ POINT_LIMIT
