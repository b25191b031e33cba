-- Each local is bound at one point.
use Rattle.std.proofs.Common.{◌≡◌, ℕ, zero, suc, List, [], ◌∷◌, Option, Some, None, refl, sym, ap, ◌∙◌, subst}
use Rattle.std.specs.Prelude.{slice_get}
use Rattle.std.specs.List.{Contains, cons_option, filter_map}
use Rattle.std.proofs.lemmas.Option.{none-some, same_Some}
use Rattle.core_lang.specs.declared.tree.Section.{Section}
use Rattle.core_lang.specs.Scopes.{IsWellScoped}
use Rattle.core_lang.specs.Theory.Items.{contains_at}
use Rattle.flow.specs.Points.{points, bound_at, Binds}
use Rattle.locks.proofs.Lists.{AreDistinct, in_filter_map}
use Rattle.locks.proofs.Numbered.{numbers_distinct, bounds, bounds_numbered}

distinct_rest : {X : Type 0} (o : Option X) (xs : List X) → AreDistinct (cons_option o xs) → AreDistinct xs
distinct_rest None xs d = d
distinct_rest (Some x) xs d = d.1

distinct_new : {X : Type 0} (o : Option X) (xs : List X) (x : X) → AreDistinct (cons_option o xs) → o ≡ Some x →
    Contains xs x → ⊥
distinct_new None xs x d e c = none-some x e
distinct_new {X} (Some y) xs x d e c = d.0 (subst (λ (z : X). Contains xs z) (sym (same_Some y x e)) c)

-- if the items' values are distinct, each value belongs to the item at one place
same_place : {X Y : Type 0} (h : X → Option Y) (xs : List X) → AreDistinct (filter_map h xs) → (i j : ℕ) (p q : X) (y : Y) →
    slice_get xs i ≡ Some p → slice_get xs j ≡ Some q → h p ≡ Some y → h q ≡ Some y → i ≡ j
same_place h [] d i j p q y a b e f = absurd (none-some p a)
same_place h (x ∷ xs) d zero zero p q y a b e f = refl
same_place h (x ∷ xs) d zero (suc j) p q y a b e f =
    absurd (distinct_new (h x) (filter_map h xs) y d (ap h (same_Some x p a) ∙ e) (in_filter_map h xs q y (contains_at xs j q b) f))
same_place h (x ∷ xs) d (suc i) zero p q y a b e f =
    absurd (distinct_new (h x) (filter_map h xs) y d (ap h (same_Some x q b) ∙ f) (in_filter_map h xs p y (contains_at xs i p a) e))
same_place h (x ∷ xs) d (suc i) (suc j) p q y a b e f =
    ap suc (same_place h xs (distinct_rest (h x) (filter_map h xs) d) i j p q y a b e f)

pub bound_at_one : (section : Section) → IsWellScoped section → (p q k : ℕ) → Binds section p k → Binds section q k → p ≡ q
bound_at_one section well p q k b d =
    let numbered = bounds_numbered section well in
    let distinct : AreDistinct (bounds (points section)) = subst AreDistinct (sym numbered.1) (numbers_distinct section.parameters numbered.0) in
    same_place bound_at (points section) distinct p q b.0 d.0 k b.1 d.1 b.2 d.2
