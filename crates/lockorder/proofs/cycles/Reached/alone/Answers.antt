use Rattle.std.proofs.Common.{◌++◌, ◌∷◌, [], ap, ◌∙◌, arith, Some, None, replicate, set}
use Rattle.lockorder.proofs.Lists.{none_only}
use Rattle.lockorder.proofs.Reaching.{alone_reached}
use Rattle.lockorder.proofs.cycles.Reached.alone.Goals as goal

pub index_mut-requires : goal.index_mut-requires
index_mut-requires c =
    omega (arith, c.in_ok-distances.ensures.len, c.len.ensures, c.args.table.now.before.ok.0, c.requires)

pub returns-clause-reached : goal.returns-clause-reached
returns-clause-reached c =
    alone_reached c.args.table.now.before.items _ c.requires
    (ap (λ l. set l c.args.target (Some 0)) (c.in_ok-distances.ensures.items_if_clones_equal (none_only _ (λ x e. e)) ∙ ap (λ n. replicate n None) (c.len.ensures ∙ c.args.table.now.before.ok.0)))
    (c.in_ok-push.ensures.items ∙ ap (λ l. l ++ c.args.target ∷ []) c.new-classes.ensures.items)
