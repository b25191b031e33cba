-- Values that are read one after another.
use Rattle.std.proofs.Common.{◌≡◌, ◌∙◌, ◌+◌, ◌++◌, ℕ, List, [], ◌∷◌, Some, ap, sym, take, slice_get}
use Rattle.std.proofs.lemmas.List.{take_more}
use Rattle.std.proofs.lemmas.Option.{slice_get_within, get_or_from_slice_get}

pub one_more_read : {X : Type 0} (xs : List X) (k : ℕ) (x : X) (ys more : List X) → slice_get xs k ≡ Some x →
    ys ≡ take k xs →
    more ≡ ys ++ x ∷ [] → more ≡ take (k + 1) xs
one_more_read xs k x ys more at so_far next =
    next ∙ ap (λ zs. zs ++ x ∷ []) so_far ∙ ap (λ y. take k xs ++ y ∷ []) (sym (get_or_from_slice_get xs k x x at)) ∙ sym (take_more xs k x (slice_get_within xs k x at))
