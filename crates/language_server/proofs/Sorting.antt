-- Sets in order.
use Rattle.std.proofs.Common.{◌≡◌, ◌∙◌, List, [], ◌∷◌, map, refl, ap}
use Rattle.std.specs.BTreeSet.{insert_key}
use Rattle.std.specs.Ordering.{match_ordering}
use Rattle.std.specs.declared.cmp.Ordering.{Ordering}
use Rattle.std.specs.declared.cmp.Ordering.TheVariants.{Less, Equal, Greater}

chosen : {A B : Type 0} (f : List A → List B) (o : Ordering) (a b c : List A) → f (match_ordering o a b c) ≡ match_ordering o (f a) (f b) (f c)
chosen f Less a b c = refl
chosen f Equal a b c = refl
chosen f Greater a b c = refl

-- one more element of a set, where the set and its values have the same order
pub one_more : {A B : Type 0} (f : A → B) (c : A → A → Ordering) (d : B → B → Ordering) → ((x y : A) → c x y ≡ d (f x) (f y)) →
    (keys : List A) (key : A) → map f (insert_key c keys key) ≡ insert_key d (map f keys) (f key)
one_more f c d same [] key = refl
one_more f c d same (x ∷ keys) key =
    chosen (map f) (c key x) (key ∷ x ∷ keys) (x ∷ keys) (x ∷ insert_key c keys key)
    ∙ ap (λ (o : Ordering). match_ordering o (f key ∷ f x ∷ map f keys) (f x ∷ map f keys) (f x ∷ map f (insert_key c keys key))) (same key x)
    ∙ ap (λ rest. match_ordering (d (f key) (f x)) (f key ∷ f x ∷ map f keys) (f x ∷ map f keys) (f x ∷ rest)) (one_more f c d same keys key)
