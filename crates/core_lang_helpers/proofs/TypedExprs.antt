-- Renamed expressions and conditions have the same types.
use Rattle.std.proofs.Common.{◌≡◌, ℕ, List, [], ◌∷◌, Option, Some, None, sym, ap, ◌∙◌, subst}
use Rattle.std.specs.Prelude.{slice_get}
use Rattle.std.specs.List.{Contains}
use Rattle.core_lang.specs.declared.value.ValueType.{ValueType}
use Rattle.core_lang.specs.declared.value.ValueType.TheVariants.{Integer, Reference}
use Rattle.core_lang.specs.declared.tree.Comparison.{Comparison}
use Rattle.core_lang.specs.declared.tree.Comparison.TheVariants.{Equal, NotEqual, Less, LessOrEqual, Greater}
use Rattle.core_lang.specs.declared.tree.Comparison.TheVariants.{GreaterOrEqual}
use Rattle.core_lang.specs.declared.tree.FieldStep.{FieldStep}
use Rattle.core_lang.specs.declared.tree.FieldStep.TheVariants as step
use Rattle.core_lang.specs.declared.tree.Path.{Path}
use Rattle.core_lang.specs.declared.tree.Expr.{Expr, Number, Null, Place, Global, Element', Member', Negate', Owned'}
use Rattle.core_lang.specs.declared.tree.Expr.{Chain', Row_of-Operation, end_of-Operation, more_of-Operation}
use Rattle.core_lang.specs.declared.tree.Condition.{Condition, Compare, Not', And', Or', Row_of-Condition}
use Rattle.core_lang.specs.declared.tree.Condition.{end_of-Condition, more_of-Condition}
use Rattle.core_lang.specs.declared.tree.Local.{Local}
use Rattle.core_lang.specs.declared.tree.Return.{Return}
use Rattle.core_lang.specs.declared.typed.Typed.{Typed}
use Rattle.core_lang.specs.Typing.{local_types, final_target, global_type, array_type, pool_struct, LeadsTo, IsPathTo}
use Rattle.core_lang.specs.Typing.{IsOf, AreIntegers, CanCompare, IsTest, AreTests, IsResult}
use Rattle.core_lang.specs.Expansion.{Pair, pair, RenamesPath, Renames, RenamesEach, RenamesTest, RenamesTests}
use Rattle.core_lang.specs.Expansion.{RenamesResult, IsExpansion}
use Rattle.core_lang.specs.WrittenLocals.{LocalData}
use Rattle.core_lang_helpers.specs.Data.{IsSameBesides}
use Rattle.core_lang_helpers.proofs.Places.{final_same, field_same, global_same, array_same, pool_same}
use Rattle.core_lang_helpers.proofs.Located.{types_of, StandsFor, type_there}

module _ (program program' : Typed) (expands : IsExpansion program program') (same : IsSameBesides program program') (own : List Local) (all : List LocalData) (scope : List Pair)
    (stands : StandsFor own all scope) where
  local_typed : (k written : ℕ) (t : ValueType) → Contains scope (pair k written) →
      slice_get (local_types own) k ≡ Some t → slice_get (types_of all) written ≡ Some t
  local_typed k written t c is = let found = stands k written c in type_there own all k written t found.0 found.1 found.2 found.3 found.4 is

  leads : (from : ValueType) (fs : List FieldStep) (to : ValueType) → LeadsTo program (local_types own) from fs to →
      LeadsTo program' (types_of all) from fs to
  leads from [] to h = h
  leads Integer (f ∷ fs) to h = absurd h
  leads (Reference s) (step.Final structure f ∷ fs) to (e, target, is, rest) = (e, target, final_same program program' expands same s f ∙ is, leads (Reference target) fs to rest)
  leads (Reference s) (step.Field structure f ∷ fs) to (e, t, is, rest) = (e, t, field_same program program' expands same s f ∙ is, leads t fs to rest)

  pub path_typed : (p q : Path) (t : ValueType) → RenamesPath scope p q → IsPathTo program (local_types own) p t →
      IsPathTo program' (types_of all) q t
  path_typed p q t r (from, is, h) =
      (from, local_typed p.local q.local from r.local is, subst (λ fs. LeadsTo program' (types_of all) from fs t) (sym r.fields) (leads from p.fields.items t h))

  mutual
    pub typed : (e e' : Expr) (t : ValueType) → Renames scope e e' → IsOf program (local_types own) e t →
        IsOf program' (types_of all) e' t
    typed (Number n) (Number m) Integer r h = tt
    typed (Number n) (Number m) (Reference s) r h = absurd h
    typed Null Null Integer r h = absurd h
    typed Null Null (Reference s) r h = tt
    typed (Place p) (Place q) t r h = path_typed p q t r h
    typed (Global start cell) (Global start' cell') t r h = ap (λ z. global_type program' z) r.1 ∙ global_same program program' expands same cell ∙ h
    typed (Element' start array p i) (Element' start' array' p' i') t r h =
        (ap (λ z. array_type program' z) r.1 ∙ array_same program program' expands same array ∙ h.0, typed i i' Integer r.2 h.1)
    typed (Member' pool p i) (Member' pool' p' i') Integer r h = absurd h
    typed (Member' pool p i) (Member' pool' p' i') (Reference s) r h =
        (ap (λ z. pool_struct program' z) r.0 ∙ pool_same program program' expands same pool ∙ h.0, typed i i' Integer r.1 h.1)
    typed (Negate' p e) (Negate' p' e') Integer r h = typed e e' Integer r h
    typed (Negate' p e) (Negate' p' e') (Reference s) r h = absurd h
    typed (Owned' p e s f start k) (Owned' p' e' s' f' start' k') Integer r h = absurd h
    typed (Owned' p e s f start k) (Owned' p' e' s' f' start' k') (Reference t) r h = (
      r.0 ∙ h.0,
      typed e e' (Reference t) r.4 h.1,
      (h.2.0, ap (λ z. final_target program' t z) r.1 ∙ final_same program program' expands same t f ∙ h.2.1, local_typed k k' (Reference h.2.0) r.3 h.2.2),
    )
    typed (Chain' p first m rest) (Chain' p' first' m' rest') Integer r h = (typed first first' Integer r.0 h.0, integers rest rest' r.1 h.1)
    typed (Chain' p first m rest) (Chain' p' first' m' rest') (Reference s) r h = absurd h
    typed _ _ t r h = absurd r

    integers : {m m' : _} (row : Row_of-Operation m) (row' : Row_of-Operation m') → RenamesEach scope row row' →
        AreIntegers program (local_types own) row →
        AreIntegers program' (types_of all) row'
    integers end_of-Operation end_of-Operation r h = tt
    integers (more_of-Operation o e rest) (more_of-Operation o' e' rest') r h = (typed e e' Integer r.1 h.0, integers rest rest' r.2 h.1)
    integers _ _ r h = absurd r

  compares : (c c' : Comparison) (a b a' b' : Expr) → c' ≡ c → Renames scope a a' → Renames scope b b' →
      CanCompare program (local_types own) c a b →
      CanCompare program' (types_of all) c' a' b'
  compares Equal c' a b a' b' e r s h = subst (λ z. CanCompare program' (types_of all) z a' b') (sym e) (h.0, typed a a' h.0 r h.1, typed b b' h.0 s h.2)
  compares NotEqual c' a b a' b' e r s h = subst (λ z. CanCompare program' (types_of all) z a' b') (sym e) (h.0, typed a a' h.0 r h.1, typed b b' h.0 s h.2)
  compares Less c' a b a' b' e r s h = subst (λ z. CanCompare program' (types_of all) z a' b') (sym e) (typed a a' Integer r h.0, typed b b' Integer s h.1)
  compares LessOrEqual c' a b a' b' e r s h = subst (λ z. CanCompare program' (types_of all) z a' b') (sym e) (typed a a' Integer r h.0, typed b b' Integer s h.1)
  compares Greater c' a b a' b' e r s h = subst (λ z. CanCompare program' (types_of all) z a' b') (sym e) (typed a a' Integer r h.0, typed b b' Integer s h.1)
  compares GreaterOrEqual c' a b a' b' e r s h = subst (λ z. CanCompare program' (types_of all) z a' b') (sym e) (typed a a' Integer r h.0, typed b b' Integer s h.1)

  mutual
    pub test_typed : (c c' : Condition) → RenamesTest scope c c' → IsTest program (local_types own) c →
        IsTest program' (types_of all) c'
    test_typed (Compare c a b) (Compare c' a' b') r h = compares c c' a b a' b' r.0 r.1 r.2 h
    test_typed (Not' p c) (Not' p' c') r h = test_typed c c' r h
    test_typed (And' m before p last) (And' m' before' p' last') r h = (tests_typed before before' r.0 h.0, test_typed last last' r.1 h.1)
    test_typed (Or' m before p last) (Or' m' before' p' last') r h = (tests_typed before before' r.0 h.0, test_typed last last' r.1 h.1)
    test_typed _ _ r h = absurd r

    tests_typed : {m m' : _} (row : Row_of-Condition m) (row' : Row_of-Condition m') → RenamesTests scope row row' →
        AreTests program (local_types own) row →
        AreTests program' (types_of all) row'
    tests_typed end_of-Condition end_of-Condition r h = tt
    tests_typed (more_of-Condition c rest) (more_of-Condition c' rest') r h = (test_typed c c' r.0 h.0, tests_typed rest rest' r.1 h.1)
    tests_typed _ _ r h = absurd r

  pub result_typed : (t : Option ValueType) (x y : Option Return) → RenamesResult scope x y →
      IsResult program (local_types own) t x → IsResult program' (types_of all) t y
  result_typed None None None r h = tt
  result_typed None (Some x) y r h = absurd h
  result_typed (Some t) None y r h = absurd h
  result_typed (Some t) (Some x) (Some y) r h = typed x.value y.value t r.1 h
  result_typed _ None (Some y) r h = absurd r
  result_typed _ (Some x) None r h = absurd r
