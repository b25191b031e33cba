-- The result of reading, as a fact about a program and its returns.
use Rattle.std.proofs.Common.{◌≡◌, ℕ, zero, suc, ◌-◌, List, [], ◌∷◌, length, drop, Some, None, Ok, Err, refl, sym, ap}
use Rattle.std.proofs.Common.{◌∙◌, subst, arith}
use Rattle.source.specs.declared.fault.Code.TheVariants.{UnexpectedToken, NestedTooDeep, MisplacedReturn}
use Rattle.source.specs.Tokens.{Tok}
use Rattle.syntax.specs.Trees.{Decl}
use Rattle.syntax.specs.Grammar.{NESTING_LIMIT, HasTree}
use Rattle.syntax.specs.Returns.{ReturnsRight, IsFirstReturnFault}
use Rattle.syntax.specs.Faults.{HasRightTree, IsMisplaced, IsFault, unended, unexpected, too_deep, misplaced}
use Rattle.parser.specs.declared.stop.Stop.{Stop}
use Rattle.parser.specs.declared.stop.Stop.TheVariants.{Unexpected, TooDeep}
use Rattle.parser.specs.Working.Declarations.{program_at, first_start}
use Rattle.parser.specs.Working.Returning.{least_fault}
use Rattle.parser.proofs.Programs.{program_is, unexpected_at, too_deep_at, no_end_at, no_answer, only_tree}
use Rattle.parser.proofs.Least.{returns_right, first_fault, not_right, same_first}

drop_all : (ts : List Tok) → drop (length ts) ts ≡ []
drop_all [] = refl
drop_all (t ∷ ts) = drop_all ts

-- after all tokens there is none
no_place : (ts : List Tok) → first_start (drop (length ts - 0) ts) ≡ 0
no_place ts = ap (λ (us : List Tok). first_start us) (ap (λ n. drop n ts) (omega arith) ∙ drop_all ts)

module _ (ts : List Tok) where
  module _ (ds : List Decl) (read : program_at NESTING_LIMIT ts ≡ Ok ds) where
    pub right_tree : least_fault ds ≡ None → HasRightTree ts ds
    right_tree e = (program_is ts ds read, returns_right ds e)

    same_tree : (es : List Decl) → HasTree ts es → ds ≡ es
    same_tree es h = only_tree ts ds es (program_is ts ds read) h

    pub right_only : (es : List Decl) → HasRightTree ts es → ds ≡ es
    right_only es h = same_tree es h.0

    first_of : (start : ℕ) → IsMisplaced ts start → IsFirstReturnFault ds start
    first_of start m = subst (λ (es : List Decl). IsFirstReturnFault es start) (sym (same_tree m.tree m.has_tree)) m.first

    pub no_misplaced : least_fault ds ≡ None → (start : ℕ) → IsMisplaced ts start → ⊥
    no_misplaced e start m = returns_right ds e start (first_of start m).0

    module _ (n : ℕ) (fault : least_fault ds ≡ Some n) where
      pub not_answered : (es : List Decl) → HasRightTree ts es → ⊥
      not_answered es h = not_right ds n fault (subst ReturnsRight (sym (same_tree es h.0)) h.1)

      pub is_misplaced : IsFault ts MisplacedReturn n
      is_misplaced = misplaced (record { tree = ds; has_tree = program_is ts ds read; first = first_fault ds n fault })

      pub same_misplaced : (start : ℕ) → IsMisplaced ts start → n ≡ start
      same_misplaced start m = same_first ds n start fault (first_of start m)

  module _ (e : Stop) (read : program_at NESTING_LIMIT ts ≡ Err e) where
    pub not_read : (es : List Decl) → HasRightTree ts es → ⊥
    not_read es h = no_answer ts es e h.0 read

    pub never_misplaced : (start : ℕ) → IsMisplaced ts start → ⊥
    never_misplaced start m = no_answer ts m.tree e m.has_tree read

  pub is_unexpected : (left : ℕ) → program_at NESTING_LIMIT ts ≡ Err (Unexpected left) →
      IsFault ts UnexpectedToken (first_start (drop (length ts - left) ts))
  is_unexpected zero e = subst (IsFault ts UnexpectedToken) (sym (no_place ts)) (unended (no_end_at ts e))
  is_unexpected (suc n) e = unexpected (unexpected_at ts n e)

  pub is_too_deep : (left : ℕ) → program_at NESTING_LIMIT ts ≡ Err (TooDeep left) →
      IsFault ts NestedTooDeep (first_start (drop (length ts - left) ts))
  is_too_deep left e = too_deep (too_deep_at ts left e)
