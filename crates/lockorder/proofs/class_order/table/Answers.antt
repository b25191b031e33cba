use Rattle.std.proofs.Common.{◌<◌, inl, inr, sym, ◌∙◌, subst, arith}
use Rattle.std.specs.List.{All}
use Rattle.std.proofs.lemmas.Bool.{both_ways}
use Rattle.std.proofs.lemmas.Option.{slice_get_within}
use Rattle.lockorder.specs.Working.Tables.{has_edge}
use Rattle.lockorder.specs.Working.Sections.{MakesSomewhere}
use Rattle.lockorder.proofs.InSection.{joined_by}
use Rattle.lockorder.proofs.Bridge.{MakesIn, section_at, classes_within, somewhere_makes, makes_somewhere}
use Rattle.lockorder.proofs.class_order.table.Goals as goal

pub loop-section-init : goal.loop-section-init
loop-section-init c = record {
  classes = c.in_ok-table.ensures.classes ∙ c.len.ensures ∙ c.args.program.now.classes.ok.0;
  edges = λ b d. (
    λ h. absurd (both_ways (has_edge c.in_ok-table.table.before.items b d) (c.in_ok-table.ensures.edges b d) h),
    λ h. elim h [ inl bad ↦ absurd bad | inr below ↦ absurd (omega (arith, below.1)) ],
  );
}

pub add_to-requires : goal.add_to-requires
add_to-requires c =
    let program = c.args.program.now in
    let k = c.loop-section.section-index in
    let x = c.section-item.result in
    let s = section_at program c.args.points.now c.requires.points k x c.loop-section-test.true c.section-item.is in
    subst (λ n. All (λ class. class < n) x.classes.items) (sym c.loop-section.invariant.classes)
    (classes_within program c.requires.program c.each_path_once.ensures.listed c.paths_have_classes.ensures k s.0 s.1 x s.2)

pub loop-section-preserved : goal.loop-section-preserved
loop-section-preserved c =
    let program = c.args.program.now in
    let k = c.loop-section.section-index in
    let x = c.section-item.result in
    let s = section_at program c.args.points.now c.requires.points k x c.loop-section-test.true c.section-item.is in
    record {
      classes = c.add_to.ensures.classes ∙ c.loop-section.invariant.classes;
      edges = λ b d.
          joined_by (λ j. MakesIn program j b d) k ⊥ (MakesSomewhere x b d) (has_edge c.loop-section.table.before.items b d) (has_edge c.add_to.new.table.before.items b d)
          (c.loop-section.invariant.edges b d) (c.add_to.ensures.edges b d)
          (somewhere_makes program c.requires.program c.each_path_once.ensures.listed c.paths_have_classes.ensures k s.0 s.1 x s.2 b d)
          (λ m. makes_somewhere program c.requires.program c.each_path_once.ensures.listed c.paths_have_classes.ensures k s.0 s.1 x s.2 m.0 m.1 b d m.2);
    }

pub returns-clause-edges : goal.returns-clause-edges
returns-clause-edges c b d =
    let program = c.args.program.now in
    let all = c.loop-section.invariant.edges b d in (
      λ h. elim (all.0 h) [ inl bad ↦ absurd bad | inr m ↦ (m.0, m.2.0, m.2.1, m.2.2) ],
      λ e. all.1 (inr (
        e.0,
        omega (arith, slice_get_within program.sections.items e.0 e.3.section e.3.here, c.loop-section-test.false, c.requires.points.sections),
        (e.1, e.2, e.3),
      )),
    )
