use Rattle.std.proofs.Common.{◌<◌, length, inl, inr, sym, ap, ◌∙◌, arith}
use Rattle.std.specs.Prelude.{◌==◌}
use Rattle.std.proofs.lemmas.Bool.{both_ways}
use Rattle.std.proofs.lemmas.Option.{slice_get_within}
use Rattle.locks.specs.Sets.{has}
use Rattle.bit_set.specs.declared.set.BitSet.{BitSet}
use Rattle.bit_set.specs.Working.Sets.{has_number}
use Rattle.lockorder.specs.Working.Sections.{IsIn, IsOfClass}
use Rattle.lockorder.proofs.InSection.{joined, not_joined, class_read, class_decides}
use Rattle.lockorder.proofs.section_edges.SectionEdges.classes_of.Goals as goal
use Rattle.lockorder.proofs.section_edges.SectionEdges.classes_of.Goals.{then-contains, else-contains}

pub loop-path-preserved : goal.loop-path-preserved
loop-path-preserved c d =
    let x = c.args.self.now.points.now in
    let n = c.loop-path.path in
    let lt : n < length x.classes.items = omega (arith, c.loop-path-test.true, c.len-path-end.ensures, x.classes.ok.0) in
    elim c.if-contains.branch [
      | then-contains w ↦
          let of = class_decides x n w.index.result.now d (class_read x n w.index.result.now lt w.index.ensures) in
          joined (λ i. IsIn c.args.set i × IsOfClass x d i) n ⊥ (has_number c.loop-path.classes d) (has_number c.if-contains.classes d) (d == w.index.result.now) (c.loop-path.invariant d)
          (ap (λ (s : BitSet). has_number s d) w.classes-is ∙ w.with-classes.ensures d)
          (λ h. (sym c.contains.ensures ∙ w.if-contains.true, of.0 h), λ h. of.1 h.1)
      | else-contains w ↦
          not_joined (λ i. IsIn c.args.set i × IsOfClass x d i) n ⊥ (has_number c.loop-path.classes d) (has_number c.if-contains.classes d) (c.args.set.bits == n) (c.loop-path.invariant d)
          (ap (λ (s : BitSet). has_number s d) w.classes-is) (λ p. both_ways (has c.args.set n) (sym c.contains.ensures ∙ w.if-contains.false) p.0)
    ]

pub returns : goal.returns
returns c d =
    let x = c.args.self.now.points.now in
    let all = c.loop-path.invariant d in (
      λ h. elim (all.0 h) [ inl bad ↦ absurd bad | inr b ↦ (b.0, b.2.0, b.2.1) ],
      λ h. all.1 (inr (
        h.0,
        omega (arith, slice_get_within x.classes.items h.0 d h.2, c.loop-path-test.false, c.len-path-end.ensures, x.classes.ok.0),
        (h.1, h.2),
      )),
    )
