-- The limit on what helpers call that is exceeded.
use Rattle.std.specs.Prelude.{◌≡◌, ℕ, List, false, codes}
use Rattle.core_lang_helpers.specs.Faults.{IsGraphFault, IsOverLimit, too_deep, too_many_locals, too_many_points}
use Rattle.core_lang_helpers.specs.Graphs.{Graph}
use Rattle.resolution.specs.CallGraphs.{tree_graph}
use Rattle.source.specs.Mistakes.{goes_before}
use Rattle.source.specs.declared.fault.Code.{Code}
use Rattle.source.specs.declared.fault.Code.TheVariants.{LimitExceeded}
use Rattle.syntax.specs.Trees.{Decl}

-- the limit is that of depth
abbrev pub IsOfDepth : {graph : Graph} {p : ℕ} → IsOverLimit graph p → Type 0
IsOfDepth (too_deep f is ends deep) = Unit {0}
IsOfDepth (too_many_locals s before behind c is parts few many) = ⊥
IsOfDepth (too_many_points s before behind c is parts few many) = ⊥

-- E15, for what helpers call and bring
pub data IsHelperLimit (decls : List Decl) (at : ℕ) : List ℕ → Type 0 where
  depth : (o : IsOverLimit (tree_graph decls) at) → IsOfDepth o →
      IsHelperLimit decls at (codes "calls of helpers go at most 8 deep")
  brought : (o : IsOverLimit (tree_graph decls) at) → (IsOfDepth o → ⊥) →
      IsHelperLimit decls at (codes "with what its calls bring, a section has at most 64 locals, and at most 65536 points of helpers")

-- a limit is exceeded at this byte, and no fault of what sections and helpers call goes before that
pub record IsFirstOfHelpers (decls : List Decl) (at : ℕ) : Type 0 where
  pub over : IsOverLimit (tree_graph decls) at
  pub first : (code : Code) (p : ℕ) → IsGraphFault (tree_graph decls) code p →
      goes_before (record { code = code; start = p }) (record { code = LimitExceeded; start = at }) ≡ false
