use Rattle.std.proofs.Common.{◌∙◌, ◌*◌, ◌+◌, ap, refl}
use Rattle.lockorder.proofs.Lists.{none_only}
use Rattle.lockorder.proofs.Tells.{item_at, none_told}
use Rattle.lockorder.proofs.telling.Telling.open.Goals as goal

pub returns : goal.returns
returns c = record {
  classes = refl;
  none = λ b d. ap (λ l. item_at l (128 * b + d)) (c.in_ok-told.ensures.items_if_clones_equal (none_only _ (λ x e. e))) ∙ none_told _ (128 * b + d);
}
