-- A value that is tested by a final reference and a local is well typed.
use Rattle.std.proofs.Common.{◌≡◌, ℕ, List, Option, Some, None, refl, sym, ap, ◌∙◌}
use Rattle.syntax.specs.Trees.{Owner, final_member}
use Rattle.core_lang.specs.declared.value.ValueType.{ValueType}
use Rattle.core_lang.specs.declared.value.ValueType.TheVariants.{Reference}
use Rattle.resolution.specs.Core as core
use Rattle.resolution.specs.Scopes.{◌>>=◌, Scope, struct_named}
use Rattle.resolution.proofs.Named.{member_is}
use Rattle.resolution.proofs.Typed.{Is}
use Rattle.resolution.proofs.TypedResolvedExprs.{Sound, Have, local_meant}
use Rattle.resolution.specs.Typing.{is_final_of, TypesOwner, types_owner}

module _ (sc : Scope) (p : core.Program) (types : List ValueType) (sound : Sound sc.decls p)
    (have : Have sc.locals types) where
  -- the struct that a final reference's type is a reference to
  target_of_type : (o : Option ℕ) (u : ValueType) → (◌>>=◌ {B = ValueType} o (λ k. Some (Reference k))) ≡ Some u →
      (k : ℕ) × (o ≡ Some k) × (u ≡ Reference k)
  target_of_type None u e = cc
  target_of_type (Some k) u e = (k, refl, (let same : Reference k ≡ u = cc in sym same))

  pub owner_good : {t : ValueType} {o : Owner} {x y : core.Expr} → TypesOwner sc t o x y → Is p types x t →
      Is p types y t
  owner_good (types_owner {o = o} {i = i} {l = l}
      (is_final_of {k = k} {i = m} {s = s} {x = y} {f = f} {t = u} there at e) is typed within few) h =
      let named = target_of_type (struct_named sc.decls f.target) u e in
      let final = sound.final k s m f named.0 there (member_is s.members y.text m (final_member f) at).0 named.1 in
      let local = have i l u (local_meant sc p types sound have o.local.text i l is) typed in
      (refl, h, (named.0, final, local ∙ ap (λ (v : ValueType). Some v) named.2))
