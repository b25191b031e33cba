-- Resolved calls of helpers are well typed.
use Rattle.std.proofs.Common.{◌≡◌, ℕ, List, [], ◌∷◌, Option, Some, sym, subst}
use Rattle.std.specs.Prelude.{slice_get, take, ⊤}
use Rattle.syntax.specs.Trees.{Expr, Param, Section, Decl, helper, HelperCall}
use Rattle.core_lang.specs.declared.value.ValueType.{ValueType}
use Rattle.resolution.specs.Core as core
use Rattle.resolution.specs.Scopes.{Scope, outside, number_at, type_of, result_of}
use Rattle.resolution.proofs.Typed.{types_of, AreAll, Taken, Acts}
use Rattle.resolution.proofs.TypedResolvedExprs.{Sound, Have, wanted_good, decl_there}
use Rattle.resolution.specs.Typing.{TypesArguments, no_argument, one_argument, TypesCall, types_call}

-- ---- the helpers of a program

-- types are those of parameters
abbrev pub TypesAre : List Decl → List Param → List ValueType → Type 0
TypesAre decls [] [] = ⊤
TypesAre decls [] (t ∷ ts) = ⊥
TypesAre decls (p ∷ ps) [] = ⊥
TypesAre decls (p ∷ ps) (t ∷ ts) = (type_of (outside decls) p.value_type ≡ Some t) × TypesAre decls ps ts

-- a helper at its number
pub record HelperIn (decls : List Decl) (s : Section) (p : core.Program) (k : ℕ) : Type 0 where
  pub section : core.Section
  pub there : slice_get p.helpers k ≡ Some section
  pub parameters : TypesAre decls s.params (types_of (take section.parameters section.locals))
  pub result : section.result_type ≡ result_of decls s

abbrev pub HasHelpers : List Decl → core.Program → Type 0
HasHelpers decls p = (n : ℕ) (s : Section) → slice_get decls n ≡ Some (helper s) →
    HelperIn decls s p (number_at decls n (helper s))

-- ---- calls

module _ (sc : Scope) (p : core.Program) (types : List ValueType) (sound : Sound sc.decls p)
    (have : Have sc.locals types) (helpers : HasHelpers sc.decls p) where
  arguments_good : {ps : List Param} {es : List Expr} {xs : List core.Expr} → TypesArguments sc ps es xs →
      (ts : List ValueType) → TypesAre sc.decls ps ts → AreAll p types xs ts
  arguments_good no_argument [] h = tt
  arguments_good no_argument (t ∷ ts) h = absurd h
  arguments_good (one_argument g k) [] h = absurd h
  arguments_good (one_argument g k) (t ∷ ts) h = (wanted_good sc p types sound have t h.0 g, arguments_good k ts h.1)

  pub call_good : {c : HelperCall} {s : Section} {n : ℕ} {xs : List core.Expr} (local : Option ℕ) →
      TypesCall sc c s n xs →
      Taken p types local (result_of sc.decls s) → Acts p types (core.call n xs local)
  call_good local (types_call {c = c} {i = i} {s = s} is k) takes =
      let h = helpers i s (decl_there sc p types sound have c.helper.text i (helper s) is) in (
        h.section,
        h.there,
        arguments_good k (types_of (take h.section.parameters h.section.locals)) h.parameters,
        subst
            (Taken p types local) (sym h.result) takes,
      )
