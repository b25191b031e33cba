-- The facts about a text whose lock classes have a cycle.
use Rattle.std.specs.Prelude.{◌≡◌, ℕ, List, [], string_bytes}
use Rattle.core_lang.specs.declared.typed.Typed.{Typed}
use Rattle.core_lang.specs.WellFormed.{IsWellFormed}
use Rattle.core_lang_helpers.specs.Data.{IsExpanded}
use Rattle.lockorder.specs.Faults.{IsCycleOf, IsFaultOf}
use Rattle.lockpaths.specs.Paths.{ArePaths}
use Rattle.resolution.specs.Resolved.{Resolves}
use Rattle.source.specs.declared.fault.Refusal.{Refusal}
use Rattle.source.specs.declared.fault.Refusal.TheVariants.{Fault, NoMemory}
use Rattle.source.specs.Texts.{HasTokens}
use Rattle.source.specs.Tokens.{Tok}
use Rattle.syntax.specs.Faults.{HasRightTree}
use Rattle.syntax.specs.Trees.{Decl}
use Rattle.lowering.specs.Working.Compiled.{program_of}
use Rattle.compiler.specs.declared.passes.Cyclic.{Cyclic}
use Rattle.compiler.specs.Programs.{IsOfFirstPass}

-- a fault without detail, which only that of a cycle has; or the failure of an allocation
abbrev pub IsBare : Refusal → Type 0
IsBare NoMemory = Unit {0}
IsBare (Fault fault) = string_bytes fault.detail ≡ []

-- the program is what the text means, and the second one is it with its helpers expanded
pub record IsWrittenProgram (source : List ℕ) (program written : Typed) : Type 0 where
  pub tokens : List Tok
  pub tree : List Decl
  pub has_tokens : HasTokens source tokens
  pub has_tree : HasRightTree tokens tree
  pub resolves : Resolves tree program
  pub expanded : IsExpanded program written

-- the text's fault is that of a cycle of its program's lock classes, which has these edges
pub record IsCyclic (source : List ℕ) (cyclic : Cyclic) : Type 0 where
  pub program : IsWrittenProgram source cyclic.trees.accepted (program_of cyclic.trees)
  pub well_formed : IsWellFormed (program_of cyclic.trees)
  pub paths : ArePaths (program_of cyclic.trees) cyclic.paths
  pub cycle : IsCycleOf (program_of cyclic.trees) cyclic.edges.items
  pub told : IsFaultOf (program_of cyclic.trees) cyclic.edges.items cyclic.fault
  pub first : IsOfFirstPass source cyclic.fault
