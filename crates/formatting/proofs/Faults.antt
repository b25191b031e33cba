-- The tokens of a text have at most one fault.
use Rattle.std.proofs.Common.{◌≡◌, ◌≤◌, ℕ, List, length, refl, subst, arith}
use Rattle.source.specs.declared.fault.Code.{Code}
use Rattle.source.specs.declared.fault.Refusal.{Refusal}
use Rattle.source.specs.declared.fault.Refusal.TheVariants.{Fault, NoMemory}
use Rattle.source.specs.Faults.{IsFaultAt}
use Rattle.source.specs.Tokens.{Tok}
use Rattle.source.specs.Texts.{AreTokens, at_end, token, HasTokens}
use Rattle.syntax.specs.Trees.{Decl}
use Rattle.syntax.specs.Grammar.{Spells, HasTree}
use Rattle.syntax.specs.Returns.{IsReturnFault}
use Rattle.syntax.specs.Faults.{HasRightTree, IsUnexpected, IsTooDeep, IsMisplaced, NoEnd, IsFault, unended, unexpected}
use Rattle.syntax.specs.Faults.{too_deep, misplaced}
use Rattle.syntax.specs.Faults as grammar
use Rattle.source.specs.Texts as text
use Rattle.formatting.specs.Formatted.{HasFault, of_text, of_tokens, IsRefusal}

ended : {total : ℕ} {text : List ℕ} {ts : List Tok} → AreTokens total text ts → NoEnd ts → ⊥
ended (at_end gap) h = h.0 refl
ended (token next small more) h = ended more h.1

not_unexpected : (ts : List Tok) (ds : List Decl) (at : ℕ) → HasTree ts ds → IsUnexpected ts at → ⊥
not_unexpected ts ds at tree u = u.no_program ds u.after (subst (Spells ds) u.parts tree.0)

not_deep : (ts : List Tok) (ds : List Decl) (at : ℕ) → HasTree ts ds → IsTooDeep ts at → ⊥
not_deep ts ds at tree u = let h = tree.1 u.before u.after u.token u.parts u.opens in let d = u.deep in absurd (omega arith)

-- the laws of the parser
pub record Laws : Type 0 where
  pub one_list : (text : List ℕ) (a b : List Tok) → HasTokens text a → HasTokens text b → a ≡ b
  pub one_tree : (ts : List Tok) (a b : List Decl) → HasTree ts a → HasTree ts b → a ≡ b
  pub one_unexpected : (ts : List Tok) (a b : ℕ) → IsUnexpected ts a → IsUnexpected ts b → a ≡ b
  pub one_too_deep : (ts : List Tok) (a b : ℕ) → IsTooDeep ts a → IsTooDeep ts b → a ≡ b
  pub one_misplaced : (ts : List Tok) (a b : ℕ) → IsMisplaced ts a → IsMisplaced ts b → a ≡ b
  pub never_both : (ts : List Tok) (a b : ℕ) → IsUnexpected ts a → IsTooDeep ts b → ⊥

module _ (laws : Laws) (source : List ℕ) (ts : List Tok) (has : HasTokens source ts) where
  one_fault : (code other : Code) (start at : ℕ) → IsFault ts code start → IsFault ts other at → (code ≡ other) × (start ≡ at)
  one_fault code other start at (unended h) g = absurd (ended has h)
  one_fault code other start at g (unended h) = absurd (ended has h)
  one_fault code other start at (unexpected h) (unexpected g) = (refl, laws.one_unexpected ts start at h g)
  one_fault code other start at (unexpected h) (too_deep g) = absurd (laws.never_both ts start at h g)
  one_fault code other start at (unexpected h) (misplaced g) = absurd (not_unexpected ts g.tree start g.has_tree h)
  one_fault code other start at (too_deep h) (unexpected g) = absurd (laws.never_both ts at start g h)
  one_fault code other start at (too_deep h) (too_deep g) = (refl, laws.one_too_deep ts start at h g)
  one_fault code other start at (too_deep h) (misplaced g) = absurd (not_deep ts g.tree start g.has_tree h)
  one_fault code other start at (misplaced h) (unexpected g) = absurd (not_unexpected ts h.tree at h.has_tree g)
  one_fault code other start at (misplaced h) (too_deep g) = absurd (not_deep ts h.tree at h.has_tree g)
  one_fault code other start at (misplaced h) (misplaced g) = (refl, laws.one_misplaced ts start at h g)

  no_fault : (ds : List Decl) (code : Code) (start : ℕ) → HasRightTree ts ds → IsFault ts code start → ⊥
  no_fault ds code start tree (unended h) = ended has h
  no_fault ds code start tree (unexpected h) = not_unexpected ts ds start tree.0 h
  no_fault ds code start tree (too_deep h) = not_deep ts ds start tree.0 h
  no_fault ds code start tree (misplaced h) =
      tree.1 start (subst (λ (ds : List Decl). IsReturnFault ds start) (laws.one_tree ts h.tree ds h.has_tree tree.0) h.first.0)

  module _ (us : List Tok) (code : Code) (start : ℕ) (others : HasTokens source us) (fault : IsFault us code start) where
    the_fault : IsFault ts code start
    the_fault = subst (λ (l : List Tok). IsFault l code start) (laws.one_list source us ts others has) fault

    pub refused_so : (r : Refusal) → grammar.IsRefusal ts r → IsFaultAt code start r
    refused_so (Fault f) h = let e = one_fault f.code code f.start start h.0 the_fault in (e.0, e.1, h.1)
    refused_so NoMemory h = tt

    pub never_right : (ds : List Decl) → HasRightTree ts ds → ⊥
    never_right ds tree = no_fault ds code start tree the_fault

module _ (source : List ℕ) where
  pub refusal_of_text : (r : Refusal) → text.IsRefusal source r → IsRefusal source r
  refusal_of_text (Fault f) h = (of_text h.0, h.1)
  refusal_of_text NoMemory h = tt

  pub refusal_of_tokens : (ts : List Tok) → length source ≤ text.SOURCE_LIMIT → HasTokens source ts → (r : Refusal) →
      grammar.IsRefusal ts r → IsRefusal source r
  refusal_of_tokens ts within has (Fault f) h = (of_tokens ts within has h.0, h.1)
  refusal_of_tokens ts within has NoMemory h = tt

  pub judged : {P : Type 0} {code : Code} {start : ℕ} → HasFault source code start → (text.IsFault source code start → P) →
      ((ts : List Tok) → length source ≤ text.SOURCE_LIMIT → HasTokens source ts → IsFault ts code start → P) → P
  judged (of_text f) on_text on_tokens = on_text f
  judged (of_tokens ts within has f) on_text on_tokens = on_tokens ts within has f

  pub no_memory : (code : Code) (start : ℕ) (r : Refusal) → r ≡ NoMemory → IsFaultAt code start r
  no_memory code start r e = rw e tt
