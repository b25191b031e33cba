-- The program of a text, or its fault.
use Rattle.std.specs.Prelude.{◌≡◌, ℕ, List}
use Rattle.source.specs.declared.fault.Code.{Code}
use Rattle.core_lang.specs.declared.typed.Typed.{Typed}
use Rattle.source.specs.declared.fault.Fault as the_fault
use Rattle.source.specs.declared.fault.Refusal.{Refusal}
use Rattle.source.specs.declared.fault.Refusal.TheVariants.{Fault, NoMemory}
use Rattle.source.specs.Tokens.{Tok}
use Rattle.source.specs.Texts as text
use Rattle.syntax.specs.Trees.{Decl}
use Rattle.syntax.specs.Faults as grammar
use Rattle.resolution.specs.Faults as names
use Rattle.source.specs.Mistakes.{IsLeastOf}
use Rattle.resolution.specs.Resolved.{Resolves}
use Rattle.core_lang_helpers.specs.Data.{IsExpanded}
use Rattle.locks.specs.Faults as paths
use Rattle.lockorder.specs.Faults as order

-- a fault of the text, of its tokens, of its tree; or, in the program that the tree means with its helpers expanded,
-- one of its lock paths or of the order of its locks
pub data HasFault (source : List ℕ) (fault : the_fault.Fault) : Type 0 where
  of_text : text.IsRefusal source (Fault fault) → HasFault source fault
  of_tokens : (tokens : List Tok) → text.HasTokens source tokens → grammar.IsRefusal tokens (Fault fault) →
      HasFault source fault
  of_tree : (tokens : List Tok) (tree : List Decl) → text.HasTokens source tokens → grammar.HasRightTree tokens tree
      → names.IsRefusal tree (Fault fault) → HasFault source fault
  of_paths : (tokens : List Tok) (tree : List Decl) (program written : Typed) → text.HasTokens source tokens →
      grammar.HasRightTree tokens tree
      → Resolves tree program → IsExpanded program written → paths.IsRefusal written (Fault fault) → HasFault source fault
  of_order : (tokens : List Tok) (tree : List Decl) (program written : Typed) → text.HasTokens source tokens →
      grammar.HasRightTree tokens tree
      → Resolves tree program → IsExpanded program written → order.IsFault written fault → HasFault source fault

-- the text has these tokens, the tokens this tree, and the program is what the tree means; the text has no fault
pub record Accepts (source : List ℕ) (program : Typed) : Type 0 where
  pub tokens : List Tok
  pub tree : List Decl
  pub has_tokens : text.HasTokens source tokens
  pub has_tree : grammar.HasRightTree tokens tree
  pub resolves : Resolves tree program
  pub faultless : (fault : the_fault.Fault) → HasFault source fault → ⊥

-- the text has no fault of its own
abbrev pub HasNoTextFault : List ℕ → Type 0
HasNoTextFault source = (code : Code) (start : ℕ) → text.IsFault source code start → ⊥

-- the tokens have no fault
abbrev pub HasNoTokenFault : List Tok → Type 0
HasNoTokenFault tokens = (code : Code) (start : ℕ) → grammar.IsFault tokens code start → ⊥

-- a fault of the first pass that has one. A text has at most one fault of its own. Of the tree, and of the lock paths
-- of the program with its helpers expanded, it is the least fault. Of the order of locks, it is at the first point that
-- makes the cycle's first edge
pub data IsOfFirstPass (source : List ℕ) (fault : the_fault.Fault) : Type 0 where
  in_text : text.IsRefusal source (Fault fault) → IsOfFirstPass source fault
  in_tokens : (tokens : List Tok) → HasNoTextFault source → text.HasTokens source tokens
      → grammar.IsRefusal tokens (Fault fault) → IsOfFirstPass source fault
  in_tree : (tokens : List Tok) (tree : List Decl) → HasNoTextFault source → text.HasTokens source tokens
      → HasNoTokenFault tokens → grammar.HasRightTree tokens tree
      → names.IsRefusal tree (Fault fault) → IsLeastOf (names.IsFault tree) (Fault fault) → IsOfFirstPass source fault
  in_paths : (tokens : List Tok) (tree : List Decl) (program written : Typed) → HasNoTextFault source →
      text.HasTokens source tokens
      → HasNoTokenFault tokens → grammar.HasRightTree tokens tree → names.HasNoFault tree → Resolves tree program → IsExpanded program written
      → paths.IsRefusal written (Fault fault) → paths.IsLeast written (Fault fault) → IsOfFirstPass source fault
  in_order : (tokens : List Tok) (tree : List Decl) (program written : Typed) → HasNoTextFault source →
      text.HasTokens source tokens
      → HasNoTokenFault tokens → grammar.HasRightTree tokens tree → names.HasNoFault tree → Resolves tree program → IsExpanded program written
      → paths.HasNoFault written → order.IsFaultAtFirst written fault → IsOfFirstPass source fault

-- the refusal is such a fault, or the failure of an allocation
abbrev pub IsRefusal : List ℕ → Refusal → Type 0
IsRefusal source NoMemory = Unit {0}
IsRefusal source (Fault fault) = IsOfFirstPass source fault

-- the refusal is the failure of an allocation
abbrev pub IsForMemory : Refusal → Type 0
IsForMemory refusal = refusal ≡ NoMemory
