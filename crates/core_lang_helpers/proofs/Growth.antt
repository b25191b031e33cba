-- Statements keep the scope: what they bind is put in front of it.
use Rattle.std.proofs.Common.{◌≡◌, ℕ, List, [], ◌∷◌, ◌++◌, Option, Some, None, sym, ap, ◌∙◌, append_assoc}
use Rattle.core_lang.specs.declared.tree.Stmt.{Stmt}
use Rattle.core_lang.specs.declared.tree.Action.{Action, Bind, SetLocal, SetGlobal, SetElement, SetField, Call, Print}
use Rattle.core_lang.specs.declared.tree.Action.{If', IfElse', While'}
use Rattle.core_lang.specs.declared.tree.Return.{Return}
use Rattle.core_lang.specs.Expansion.{Pair, pair, At, Bound, Bodies, Writes, WritesAll}

abbrev pub Grows : At → At → Type 0
Grows a b = (more : List Pair) × (b.scope ≡ more ++ a.scope)

same : (a b : At) → b.scope ≡ a.scope → Grows a b
same a b e = ([], e)

bound_grows : (result : Option ℕ) (r : Option Return) (a b : At) (fresh : ℕ) (last : List Stmt) →
    Bound result r a fresh last b → Grows a b
bound_grows None None a b fresh last w = same a b (ap (λ (z : At). z.scope) w.1)
bound_grows None (Some r) a b fresh last w = same a b (ap (λ (z : At). z.scope) w.1)
bound_grows (Some k) None a b fresh last w = absurd w
bound_grows (Some k) (Some r) a b fresh last w = (pair a.own fresh ∷ [], ap (λ (z : At). z.scope) w.2)

module _ (Body : Bodies) where
  grows : (x : Action) (start : ℕ) (a b : At) (ys : List Stmt) → Writes Body x start a ys b → Grows a b
  grows (Bind k e) start a b ys (e', r, own, w, f) = (pair a.own a.fresh ∷ [], ap (λ (z : At). z.scope) f)
  grows (SetLocal k e) start a b ys (k', e', c, r, w, f) = same a b (ap (λ (z : At). z.scope) f)
  grows (SetGlobal cell e) start a b ys (e', r, w, f) = same a b (ap (λ (z : At). z.scope) f)
  grows (SetElement array i e) start a b ys (i', e', ri, r, w, f) = same a b (ap (λ (z : At). z.scope) f)
  grows (SetField p s g e) start a b ys (p', e', rp, r, w, f) = same a b (ap (λ (z : At). z.scope) f)
  grows (Call k es result) start a b ys (lets, body, last, r, fresh, args, inside, w, e) = bound_grows result r a b fresh last w
  grows (Print e) start a b ys (e', r, w, f) = same a b (ap (λ (z : At). z.scope) f)
  grows (If' c m block) start a b ys (c', block', after, t, w, e, f) = same a b (ap (λ (z : At). z.scope) f)
  grows (IfElse' c m block k otherwise) start a b ys (c', block', otherwise', middle, after, t, w, w', e, f) = same a b (ap (λ (z : At). z.scope) f)
  grows (While' c m body) start a b ys (c', body', after, t, w, e, f) = same a b (ap (λ (z : At). z.scope) f)

  pub all_grow : (xs : List Stmt) (a b : At) (ys : List Stmt) → WritesAll Body xs a ys b → Grows a b
  all_grow [] a b ys (e, f) = same a b (ap (λ (z : At). z.scope) f)
  all_grow (x ∷ xs) a b ys (front, back, middle, w, ws, e) =
      let first = grows x.action x.start a middle front w in
      let second = all_grow xs middle b back ws in
      (second.0 ++ first.0, second.1 ∙ ap (λ zs. second.0 ++ zs) first.1 ∙ sym (append_assoc second.0 first.0 a.scope))
