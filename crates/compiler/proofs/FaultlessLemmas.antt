-- If each pass succeeds, the text has no fault.
use Rattle.std.proofs.Common.{◌≡◌, ℕ, ◌<◌, ◌≤◌, List, length, inl, inr, refl, sym, subst, arith}
use Rattle.std.proofs.lemmas.Bool.{cases_lt}
use Rattle.source.specs.declared.fault.Code.{Code}
use Rattle.source.specs.declared.fault.Fault as the_fault
use Rattle.source.specs.Tokens.{Tok}
use Rattle.source.specs.Texts as text
use Rattle.source.specs.Texts.{AreTokens, at_end, token, too_big, SOURCE_LIMIT}
use Rattle.syntax.specs.Trees.{Decl}
use Rattle.syntax.specs.Grammar.{nesting, NESTING_LIMIT}
use Rattle.syntax.specs.Faults as grammar
use Rattle.syntax.specs.Faults.{NoEnd, IsMisplaced, unended, unexpected, too_deep, misplaced}
use Rattle.resolution.specs.Faults as names
use Rattle.core_lang.specs.declared.typed.Typed.{Typed}
use Rattle.resolution.specs.CoreViews.{core_of}
use Rattle.resolution.specs.Tables.{AreTables}
use Rattle.resolution.specs.Working.Laws.{StandsForOne}
use Rattle.resolution.specs.Resolved.{Resolves}
use Rattle.core_lang_helpers.specs.Data.{IsExpanded}
use Rattle.locks.specs.Faults as paths
use Rattle.lockorder.specs.Faults as order
use Rattle.compiler.specs.Programs.{HasFault, of_text, of_tokens, of_tree, of_paths, of_order}
use Rattle.compiler.proofs.Alike.{fault_alike}
use Rattle.compiler.proofs.ExpandedAlike.{expanded_alike}
use Rattle.compiler.proofs.OrderAlike.{order_fault_alike}

-- the tokens of a text end with its end
tokens_end : (total : ℕ) (source : List ℕ) (ts : List Tok) → AreTokens total source ts → NoEnd ts → ⊥
tokens_end total source _ (at_end gap) none = none.0 refl
tokens_end total source _ (token next within rest) none = tokens_end total _ _ rest none.1

-- tokens with a tree have no fault but a misplaced return
pub tokens_faultless : (source : List ℕ) (ts : List Tok) (tree : List Decl) (code : Code) (start : ℕ) →
    text.HasTokens source ts
    → grammar.HasRightTree ts tree → ((s : ℕ) → IsMisplaced ts s → ⊥) → grammar.IsFault ts code start → ⊥
tokens_faultless source ts tree _ _ has right placed (unended none) = tokens_end (length source) source ts has none
tokens_faultless source ts tree _ _ has right placed (unexpected u) =
    u.no_program tree u.after (rw u.parts at right.0.0)
tokens_faultless source ts tree _ _ has right placed (too_deep d) =
    let shallow : nesting 0 d.before < NESTING_LIMIT = right.0.1 d.before d.after d.token d.parts d.opens in
    let deep = d.deep in absurd (omega arith)
tokens_faultless source ts tree _ start has right placed (misplaced m) = placed start m

-- a text has no fault if neither its bytes, nor its tokens, nor its tree, nor the resolved program has one
module _ (source : List ℕ) (ts : List Tok) (tree : List Decl) (program written : Typed)
    (no_text : (code : Code) (start : ℕ) → text.IsFault source code start → ⊥)
    (one_program : StandsForOne)
    (one : (other : List Tok) → length source ≤ SOURCE_LIMIT → text.HasTokens source other → ts ≡ other)
    (has : text.HasTokens source ts) (right : grammar.HasRightTree ts tree) (placed : (s : ℕ) → IsMisplaced ts s → ⊥)
    (only : (other : List Decl) → grammar.HasRightTree ts other → tree ≡ other) (no_tree : names.HasNoFault tree)
    (means : Resolves tree program) (expanded : IsExpanded program written) (no_path : paths.HasNoFault written) (no_cycle : order.HasNoFault written) where
  -- a text has at most one tree
  tree_same : (tokens : List Tok) (decls : List Decl) → length source ≤ SOURCE_LIMIT → text.HasTokens source tokens
      → grammar.HasRightTree tokens decls → tree ≡ decls
  tree_same tokens decls within others rights =
      only decls (subst (λ (o : List Tok). grammar.HasRightTree o decls) (sym (one tokens within others)) rights)

  -- all programs that the tree means are equal as data
  program_same : (other : Typed) (decls : List Decl) → tree ≡ decls → Resolves decls other →
      core_of other ≡ core_of program
  program_same other decls same resolves =
      one_program tree (core_of other) (core_of program)
      (subst (λ (d : List Decl). AreTables d (core_of other)) (sym same) resolves) means

  -- all expansions of these programs are equal as data
  written_same : (other out : Typed) (decls : List Decl) → tree ≡ decls → Resolves decls other →
      IsExpanded other out → core_of out ≡ core_of written
  written_same other out decls same resolves is = expanded_alike other program out written (program_same other decls same resolves) is expanded

  faultless_within : length source ≤ SOURCE_LIMIT → (fault : the_fault.Fault) → HasFault source fault → ⊥
  faultless_within within fault (of_text refused) = no_text _ _ refused.0
  faultless_within within fault (of_tokens tokens others refused) =
      tokens_faultless source ts tree _ _ has right placed
      (subst (λ (o : List Tok). grammar.IsFault o fault.code fault.start) (sym (one tokens within others)) refused.0)
  faultless_within within fault (of_tree tokens decls others rights refused) =
      no_tree _ _ (subst (λ (d : List Decl). names.IsFault d fault.code fault.start) (sym (tree_same tokens decls within others rights)) refused.0)
  faultless_within within fault (of_paths tokens decls other out others rights resolves is refused) =
      no_path _ _ (fault_alike out written (written_same other out decls (tree_same tokens decls within others rights) resolves is) _ _ refused.0)
  faultless_within within fault (of_order tokens decls other out others rights resolves is wrong) =
      no_cycle fault
      (order_fault_alike out written (written_same other out decls (tree_same tokens decls within others rights) resolves is) fault wrong)

  pub faultless : (fault : the_fault.Fault) → HasFault source fault → ⊥
  faultless fault wrong =
      elim (cases_lt SOURCE_LIMIT (length source)) [
        | inr within ↦ faultless_within within fault wrong
        | inl over ↦ no_text _ _ (too_big over)
      ]
