use Rattle.std.proofs.Common.{ℕ, ◌<◌, List, [], length, sym, subst, arith, append-nil}
use Rattle.std.specs.List.{AllZip}
use Rattle.std.proofs.lemmas.List.{drop_all}
use Rattle.std.proofs.lemmas.List.Elements.{All-take, All-drop}
use Rattle.locks.specs.declared.path_set.PathSet.{PathSet}
use Rattle.lockpaths.specs.Working.Numbers.{IsSetOf, cut}
use Rattle.lockpaths.proofs.Cuts.{rising_at, cut_more}
use Rattle.lockpaths.proofs.program.sets_of.Goals as goal

pub returns : goal.returns
returns c =
    let none = drop_all c.loop-end.end-index c.args.ends.now c.loop-end-test.false in
    subst (λ (l : List PathSet). AllZip IsSetOf l (cut 0 c.args.numbers.now c.args.ends.now)) (append-nil c.loop-end.sets.items)
    (c.loop-end.invariant.sets [] (subst (λ (l : List ℕ). AllZip IsSetOf [] (cut c.loop-end.start c.args.numbers.now l)) (sym none) tt))

pub slice_bounds-set_of-count : goal.slice_bounds-set_of-count
slice_bounds-set_of-count c =
    (rising_at c.loop-end.start (length c.args.numbers.now) c.args.ends.now c.loop-end.end-index c.loop-end.invariant.rising c.loop-end-test.true).0

pub slice_bounds-set_of-start : goal.slice_bounds-set_of-start
slice_bounds-set_of-start c =
    let rising = rising_at c.loop-end.start (length c.args.numbers.now) c.args.ends.now c.loop-end.end-index c.loop-end.invariant.rising c.loop-end-test.true in
    omega (arith, rising.0, rising.1)

pub slice_bounds-set_of-end : goal.slice_bounds-set_of-end
slice_bounds-set_of-end c =
    let rising = rising_at c.loop-end.start (length c.args.numbers.now) c.args.ends.now c.loop-end.end-index c.loop-end.invariant.rising c.loop-end-test.true in
    omega (arith, rising.1)

pub loop-end-preserved : goal.loop-end-preserved
loop-end-preserved c = record {
  sets =
      cut_more c.args.numbers.now c.args.ends.now c.loop-end.end-index c.loop-end.start c.loop-end.sets.items c.push.new.self.items c.set_of-set.result
      c.loop-end-test.true c.loop-end.invariant.sets c.set_of-set.ensures c.in_ok-push.ensures.items;
  rising =
      (rising_at c.loop-end.start (length c.args.numbers.now) c.args.ends.now c.loop-end.end-index c.loop-end.invariant.rising c.loop-end-test.true).2;
}

pub set_of-set-requires : goal.set_of-set-requires
set_of-set-requires c = All-take (λ n. n < 64) _ _ (All-drop (λ n. n < 64) c.loop-end.start c.args.numbers.now c.requires.small)
