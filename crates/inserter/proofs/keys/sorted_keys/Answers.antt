use Rattle.std.proofs.Common.{◌≡◌, map, length, ap, ◌∙◌, arith}
use Rattle.std.specs.Prelude.{slice_index}
use Rattle.std.proofs.lemmas.List.{length-map}
use Rattle.inserter.specs.Working.Keys.{first_keys}
use Rattle.inserter.proofs.KeyLists.{sorted_are_keys}
use Rattle.inserter.proofs.keys.sorted_keys.Goals as goal

pub returns : goal.returns
returns c =
    let ranks = map (slice_index c.args.ranks.now) c.args.classes.now in
    let long = length-map c.args.classes.now (slice_index c.args.ranks.now) in
    let through : c.loop-path.path ≡ length ranks = omega (arith, long, c.loop-path.auto.path-end, c.loop-path-test.false) in
    sorted_are_keys ranks c.loop-path.keys.items c.sort_unstable.new.self.items (omega (arith, long, c.requires))
    (c.loop-path.invariant ∙ ap (first_keys ranks) through) c.sort_unstable.ensures.permutation c.sort_unstable.ensures.sorted
