-- The normal form of a path that begins at a `let` of a stable path is that path's, with the finals after; any other
-- path is its own.
use Rattle.std.proofs.Common.{◌≡◌, ℕ, ◌+◌, ◌<◌, Bool, true, false, List, [], ◌∷◌, Option, Some, None, inl, inr, refl}
use Rattle.std.proofs.Common.{sym, ap, ◌∙◌, arith}
use Rattle.std.specs.Prelude.{◌==◌, if◌then◌else◌}
use Rattle.std.specs.List.{Contains}
use Rattle.std.proofs.lemmas.Option.{none-some}
use Rattle.core_lang.specs.declared.tree.Section.{Section}
use Rattle.std.proofs.lemmas.Bool.{eq-eqb}
use Rattle.locks.specs.LockPaths.{StablePath, OwnerPath, Binding, stable_value, owner_of, owned_path, or_behind}
use Rattle.locks.specs.LockPaths.{bindings, behind, replaced, all_replaced}
use Rattle.locks.specs.Working.Laws.{NormalFormOfOwned, NormalFormOfLet, NormalFormOfOther}
use Rattle.locks.proofs.Normal.{Replaces, other, by_owner, no_path, by_path, past_parts, IsOrdered, from_next}
use Rattle.locks.proofs.Normal.{unchanged, bindings_ordered}
use Rattle.core_lang.specs.Theory.Items.{not_in_none, in_cases}

module _ (section : Section) where
  -- the path that replaces a path that begins at the local of a binding
  abbrev Step : Binding → StablePath → StablePath
  Step b path = or_behind (owned_path (owner_of section b.value) path) (stable_value section b.value) path

  by_it : (x : Binding) (path : StablePath) (t : Bool) → (x.local == path.root) ≡ t → x.local ≡ path.root →
      (if t then Step x path else path) ≡ Step x path
  by_it x path true e same = refl
  by_it x path false e same = absurd (no (sym (eq-eqb x.local path.root same) ∙ e))
    where
      no : true ≡ false → ⊥
      no h = cc

  not_it : (x : Binding) (path path' : StablePath) → (x.local ≡ path.root → ⊥) → Replaces section x path path' →
      path' ≡ path
  not_it x path path' n (other m) = refl
  not_it x path path' n (by_owner o q e is past) = absurd (n e)
  not_it x path path' n (no_path e m none) = refl
  not_it x path path' n (by_path r e m some) = absurd (n e)

  -- a path that begins below all that is bound
  low_stays : (bs : List Binding) (next : ℕ) (path : StablePath) → IsOrdered section next bs → path.root < next →
      all_replaced section bs path ≡ path
  low_stays bs next path o low = unchanged section bs path (λ d k f. absurd (omega (arith, from_next section bs next d o k, low, f)))

  of_step : (bs : List Binding) (next : ℕ) (b : Binding) (path q : StablePath) → IsOrdered section next bs →
      Contains bs b → b.local ≡ path.root →
      Step b path ≡ q → q.root < b.local → all_replaced section bs path ≡ all_replaced section bs q
  of_step [] next b path q o c same is low = absurd (not_in_none b c)
  of_step (x ∷ bs) next b path q o c same is low =
      elim (in_cases x b bs c) [
        | inl e ↦
            let here : x.local ≡ path.root = ap (λ z. z.local) e ∙ same in
            let value : Step x path ≡ q = ap (λ z. Step z path) e ∙ is in
            let less : q.root < next = let l = ap (λ z. z.local) e in omega (arith, l, low, o.0) in
            let later : all_replaced section bs path ≡ path = low_stays bs (next + 1) path o.3 (omega (arith, here, o.0)) in
            ap (replaced section x) later ∙ by_it x path (x.local == path.root) refl here ∙ value ∙ sym (low_stays (x ∷ bs) next q o less)
        | inr d ↦ ap (replaced section x) (of_step bs (next + 1) b path q o.3 d same is low)
      ]

  -- the initialiser of a binding names locals that were bound before
  below_it : (bs : List Binding) (next : ℕ) (b : Binding) → IsOrdered section next bs → Contains bs b →
      ((q : StablePath) → stable_value section b.value ≡ Some q → q.root < b.local) × ((o : OwnerPath) → owner_of section b.value ≡ Some o → o.path.root < b.local)
  below_it [] next b o c = absurd (not_in_none b c)
  below_it (x ∷ bs) next b o c =
      elim (in_cases x b bs c) [
        | inl e ↦ (
          λ q is. let l = ap (λ (z : Binding). z.local) e in omega (arith, l, o.0, o.1 q (ap (λ (z : Binding). stable_value section z.value) e ∙ is)),
          λ w is. let l = ap (λ (z : Binding). z.local) e in omega (arith, l, o.0, o.2 w (ap (λ (z : Binding). owner_of section z.value) e ∙ is)),
        )
        | inr d ↦ below_it bs (next + 1) b o.3 d
      ]

  past_root : (o : Option OwnerPath) (path from : StablePath) (k : ℕ) → owned_path o path ≡ Some from →
      ((w : OwnerPath) → o ≡ Some w → w.path.root < k) → from.root < k
  past_root None path from k is low = absurd (none-some from is)
  past_root (Some w) path from k is low =
      let e = ap (λ (z : StablePath). z.root) (past_parts w path.finals from is).path_is in
      let l = low w refl in
      omega (arith, e, l)

pub normal_form_of_owned : NormalFormOfOwned
normal_form_of_owned section b path from well among same is =
    let ordered = bindings_ordered section well in
    let low = below_it section (bindings section) section.parameters b ordered among in
    of_step section (bindings section) section.parameters b path from ordered among same (ap (λ z. or_behind z (stable_value section b.value) path) is)
    (past_root section (owner_of section b.value) path from b.local is low.1)

pub normal_form_of_let : NormalFormOfLet
normal_form_of_let section b path from well among same none is =
    let ordered = bindings_ordered section well in
    let low = below_it section (bindings section) section.parameters b ordered among in
    of_step section (bindings section) section.parameters b path (behind (Some from) path) ordered among same
    (ap (λ z. or_behind z (stable_value section b.value) path) none ∙ ap (λ z. behind z path) is) (low.0 from is)

pub normal_form_of_other : NormalFormOfOther
normal_form_of_other section path none = unchanged section (bindings section) path none
