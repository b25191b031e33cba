-- A normal form ends at the object at which its path ends.
use Rattle.std.proofs.Common.{◌≡◌, ℕ, List, [], ◌∷◌, Option, Some, inl, inr, sym, ap, ◌∙◌, subst}
use Rattle.std.specs.List.{Contains}
use Rattle.core_lang.specs.declared.value.Value.{Value}
use Rattle.core_lang.specs.declared.shape.Shape.{Shape}
use Rattle.core_lang.specs.declared.tree.Section.{Section}
use Rattle.core_lang.specs.Typing.{lookup}
use Rattle.core_lang.specs.Scopes.{NamesOnly, IsWellScoped}
use Rattle.locks.specs.Locks.{led_to}
use Rattle.locks.specs.LockPaths.{StablePath, Binding, bindings, replaced, all_replaced, normal_form, object_at}
use Rattle.locks.specs.LockPaths.{IsLet, LetsAgree}
use Rattle.locks.proofs.Scoped.{bound_behind}
use Rattle.locks.proofs.Normal.{IsFixed, IsRoot, Replaces, other, by_owner, no_path, by_path, past_parts, replaces}
use Rattle.locks.proofs.Normal.{all_roots, fixed_kinds}
use Rattle.locks.proofs.Finals.{object_append}
use Rattle.core_lang.specs.Theory.Items.{in_first, in_rest, lookup_some}

module _ (section : Section) (well : IsWellScoped section) (scope : List ℕ) (shape : Shape) (locals : List Value)
    (closed : (b : Binding) → Contains (bindings section) b → Contains scope b.local → NamesOnly scope b.value)
    (agree : LetsAgree section scope shape locals) where
  abbrev pub ends : StablePath → Option ℕ
  ends path = object_at shape locals path.root path.finals

  -- what is bound and fixed is a `let`
  is_let : (b : Binding) → Contains (bindings section) b → IsFixed section b.local → IsLet section b.local
  is_let b among fixed =
      let kind = well.kinds b.local fixed.0 fixed.1 in
      (fixed.0, fixed.1, elim (fixed_kinds fixed.0.kind fixed.2) [ inl is ↦ absurd (kind.1 (bound_behind section well b among) is) | inr is ↦ is ])

  one_same : (b : Binding) (path path' : StablePath) (o : ℕ) → Contains (bindings section) b →
      IsRoot section scope path.root → Replaces section b path path' → ends path ≡ Some o → ends path' ≡ Some o
  one_same b path path' o among root (other n) end = end
  one_same b path path' o among root (no_path same n none) end = end
  one_same b path path' o among root (by_owner owner q same is past) end =
      let in_scope : Contains scope b.local = subst (λ k. Contains scope k) (sym same) root.in_scope in
      let fixed : IsFixed section b.local = subst (IsFixed section) (sym same) root.fixed in
      let parts = past_parts owner path.finals path' past in
      let go : ℕ → Option ℕ = λ n. led_to shape n parts.rest in
      let split : lookup (object_at shape locals b.local (owner.final ∷ [])) go ≡ Some o =
      sym (object_append shape locals b.local (owner.final ∷ []) parts.rest)
      ∙ ap (λ fs. object_at shape locals b.local fs) (sym parts.front) ∙ ap (λ k. object_at shape locals k path.finals) same ∙ end in
      let x = lookup_some (object_at shape locals b.local (owner.final ∷ [])) go o split in
      let agrees = agree.owners b owner x.0 among in_scope (is_let b among fixed) is x.1 in
      ap (λ (z : StablePath). object_at shape locals z.root z.finals) parts.path_is
      ∙ object_append shape locals owner.path.root owner.path.finals parts.rest ∙ ap (λ r. lookup r go) agrees ∙ x.2
  one_same b path path' o among root (by_path q same n is) end =
      let in_scope : Contains scope b.local = subst (λ k. Contains scope k) (sym same) root.in_scope in
      let fixed : IsFixed section b.local = subst (IsFixed section) (sym same) root.fixed in
      let agrees = agree.paths b q among in_scope (is_let b among fixed) is in
      let go : ℕ → Option ℕ = λ n. led_to shape n path.finals in
      object_append shape locals q.root q.finals path.finals ∙ ap (λ r. lookup r go) (sym agrees)
      ∙ sym (object_append shape locals b.local [] path.finals) ∙ ap (λ k. object_at shape locals k path.finals) same ∙ end

  all_same : (bs : List Binding) (path : StablePath) (o : ℕ) →
      ((b : Binding) → Contains bs b → Contains (bindings section) b) → IsRoot section scope path.root →
      ends path ≡ Some o → ends (all_replaced section bs path) ≡ Some o
  all_same [] path o sub root end = end
  all_same (x ∷ bs) path o sub root end =
      let rest : (b : Binding) → Contains bs b → Contains (bindings section) b = λ b c. sub b (in_rest x b bs c) in
      let path' = all_replaced section bs path in
      one_same x path' (replaced section x path') o (sub x (in_first x bs)) (all_roots section scope (bindings section) closed bs path rest root) (replaces section x path')
      (all_same bs path o rest root end)

  pub normal_same : (path : StablePath) (o : ℕ) → IsRoot section scope path.root → ends path ≡ Some o →
      ends (normal_form section path) ≡ Some o
  normal_same path o root end = all_same (bindings section) path o (λ b c. c) root end
