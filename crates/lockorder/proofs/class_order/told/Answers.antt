use Rattle.std.proofs.Common.{◌<◌, length, ◌∙◌, sym, subst, arith}
use Rattle.lockorder.specs.Working.Tellings.{AreBetween, AreToldMore}
use Rattle.std.specs.List.{All}
use Rattle.std.proofs.lemmas.Option.{slice_get_within}
use Rattle.lockorder.proofs.Bridge.{section_at, bound_once, classes_within, edges_between, at_makes, makes_at_points}
use Rattle.lockorder.proofs.Tells.{none_are_told, are_told_more, all_told, closed_pairs}
use Rattle.lockorder.proofs.class_order.told.Goals as goal

pub loop-section-init : goal.loop-section-init
loop-section-init c = record {
  classes = c.in_ok-telling.ensures.classes ∙ c.len.ensures ∙ c.args.program.now.classes.ok.0;
  told = none_are_told c.args.program.now (length c.args.program.now.classes.items) c.in_ok-telling.telling.told.items c.in_ok-telling.ensures.none;
}

pub loop-section-preserved : goal.loop-section-preserved
loop-section-preserved c =
    let program = c.args.program.now in
    let n = length program.classes.items in
    let k = c.loop-section.section in
    let x = c.index-points-section.result in
    let lt = c.loop-section-test.true in
    let s = section_at program c.args.points.now c.requires.points k x lt c.index-points-section.is in
    let are = s.2 in
    let i = c.loop-section.invariant in
    let old = c.loop-section.telling.told.items in
    let new = c.tell.new.self.told.items in
    record {
      classes = c.in_ok-tell.ensures.classes ∙ i.classes;
      told =
          are_told_more program k x
          (at_makes program c.requires.program c.each_path_once.ensures.listed c.paths_have_classes.ensures k s.0 s.1 x are)
          (λ b d u v m. makes_at_points program c.requires.program c.each_path_once.ensures.listed c.paths_have_classes.ensures k s.0 s.1 x are u v b d m)
          n old new i.told (subst (λ m. AreToldMore x k m old new) i.classes c.in_ok-tell.ensures.told);
    }

pub tell-requires-clause-once : goal.tell-requires-clause-once
tell-requires-clause-once c =
    let program = c.args.program.now in
    let k = c.loop-section.section in
    let x = c.index-points-section.result in
    let lt = c.loop-section-test.true in
    let s = section_at program c.args.points.now c.requires.points k x lt c.index-points-section.is in
    bound_once program c.requires.program c.each_path_once.ensures.listed c.paths_have_classes.ensures k s.0 s.1 x s.2
    (c.requires.program.scopes k s.0 s.1)

pub tell-requires-clause-within : goal.tell-requires-clause-within
tell-requires-clause-within c =
    let program = c.args.program.now in
    let k = c.loop-section.section in
    let x = c.index-points-section.result in
    let lt = c.loop-section-test.true in
    let s = section_at program c.args.points.now c.requires.points k x lt c.index-points-section.is in
    subst (λ n. All (λ class. class < n) x.classes.items) (sym c.loop-section.invariant.classes)
    (classes_within program c.requires.program c.each_path_once.ensures.listed c.paths_have_classes.ensures k s.0 s.1 x s.2)

pub close-requires-clause-between : goal.close-requires-clause-between
close-requires-clause-between c =
    subst (λ n. AreBetween n c.args.pairs.now) (sym c.loop-section.invariant.classes)
    (edges_between c.args.program.now c.requires.program c.paths_have_classes.ensures c.args.pairs.now c.requires.pairs)

pub close-requires-clause-all : goal.close-requires-clause-all
close-requires-clause-all c =
    let program = c.args.program.now in
    all_told program c.args.pairs.now c.loop-section.telling.told.items c.loop-section.section (length program.classes.items) c.requires.pairs
    (edges_between program c.requires.program c.paths_have_classes.ensures c.args.pairs.now c.requires.pairs) c.loop-section.invariant.told
    (λ k u v b d m. omega (arith, slice_get_within program.sections.items k m.section m.here, c.loop-section-test.false, c.requires.points.sections))

pub returns-clause-pairs : goal.returns-clause-pairs
returns-clause-pairs c =
    (closed_pairs c.args.program.now c.loop-section.section (length c.args.program.now.classes.items) c.args.pairs.now c.loop-section.telling.told.items c.in_ok-told.told.items
    c.loop-section.invariant.told (edges_between c.args.program.now c.requires.program c.paths_have_classes.ensures c.args.pairs.now c.requires.pairs)
    c.in_ok-told.ensures).0

pub returns-clause-made : goal.returns-clause-made
returns-clause-made c =
    (closed_pairs c.args.program.now c.loop-section.section (length c.args.program.now.classes.items) c.args.pairs.now c.loop-section.telling.told.items c.in_ok-told.told.items
    c.loop-section.invariant.told (edges_between c.args.program.now c.requires.program c.paths_have_classes.ensures c.args.pairs.now c.requires.pairs)
    c.in_ok-told.ensures).1
