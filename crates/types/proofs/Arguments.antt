-- Arguments, one after another.
use Rattle.std.proofs.Common.{◌≡◌, ℕ, suc, ◌≤◌, List, [], ◌∷◌, Option, Some, None, Bool, true, false, length, drop}
use Rattle.std.proofs.Common.{refl, ap, ◌∙◌, arith}
use Rattle.std.specs.Prelude.{min, map, nat_le}
use Rattle.std.proofs.lemmas.Bool.Decides.{nat_tests}
use Rattle.std.proofs.Math.ListN.{drop_of_length-le}
use Rattle.syntax.specs.declared.tree.Param as rust_param
use Rattle.syntax.specs.declared.tree.Const as rust_const
use Rattle.syntax.specs.Views.{param_of, const_of}
use Rattle.syntax.specs.Trees.{Decl, Param, Const}
use Rattle.core_lang.specs.declared.value.Value.{Value}
use Rattle.resolution.specs.Constants.{want_of}
use Rattle.resolution.specs.Working.TypedConstants.{added, typed_const, typed_arguments}
use Rattle.resolution.specs.Working.FaultLists.{argument_faults}

pub typed_unlike : (decls : List Decl) (ps : List Param) (cs : List Const) → (length ps ≡ length cs → ⊥) →
    typed_arguments decls ps cs ≡ None
typed_unlike decls [] [] h = absurd (h refl)
typed_unlike decls [] (c ∷ cs) h = refl
typed_unlike decls (p ∷ ps) [] h = refl
typed_unlike decls (p ∷ ps) (c ∷ cs) h = ap (added (typed_const decls (want_of decls p) c)) (typed_unlike decls ps cs (λ e. h (ap suc e))) ∙ none (typed_const decls (want_of decls p) c)
  where
    none : (o : Option Value) → added o None ≡ None
    none None = refl
    none (Some x) = refl

none_left : (decls : List Decl) (cs : List Const) → argument_faults decls [] cs ≡ []
none_left decls [] = refl
none_left decls (c ∷ cs) = refl

none_right : (decls : List Decl) (ps : List Param) → argument_faults decls ps [] ≡ []
none_right decls [] = refl
none_right decls (p ∷ ps) = refl

pub arguments_end : (decls : List Decl) (ps : List rust_param.Param) (cs : List rust_const.Const) (i : ℕ) →
    min (length ps) (length cs) ≤ i → argument_faults decls (map param_of (drop i ps)) (map const_of (drop i cs)) ≡ []
arguments_end decls ps cs i le = decide (nat_le (length ps) i) refl
  where
    decide : (b : Bool) → nat_le (length ps) i ≡ b →
        argument_faults decls (map param_of (drop i ps)) (map const_of (drop i cs)) ≡ []
    decide true e = ap (λ (xs : List rust_param.Param). argument_faults decls (map param_of xs) (map const_of (drop i cs))) (drop_of_length-le ps (grind (arith, nat_tests))) ∙ none_left decls (map const_of (drop i cs))
    decide false e = ap (λ (xs : List rust_const.Const). argument_faults decls (map param_of (drop i ps)) (map const_of xs)) (drop_of_length-le cs (grind (arith, nat_tests))) ∙ none_right decls (map param_of (drop i ps))
