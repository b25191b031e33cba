use Rattle.std.proofs.Common.{ℕ, ◌<◌, ◌&&◌, length, inl, inr, sym, ap, subst, ◌∙◌, arith}
use Rattle.std.specs.Prelude.{◌==◌}
use Rattle.std.proofs.lemmas.Bool.{both_ways, and_parts, and_from}
use Rattle.std.proofs.lemmas.Option.{slice_get_within}
use Rattle.locks.specs.Sets.{has}
use Rattle.lockorder.specs.declared.table.Table.{Table}
use Rattle.lockorder.specs.Working.Tables.{has_edge, InSet, InTable}
use Rattle.bit_set.specs.Working.Sets.{has_number}
use Rattle.lockorder.specs.Working.Sections.{IsIn, IsOfClass}
use Rattle.lockorder.proofs.Added.{below_end}
use Rattle.lockorder.proofs.InSection.{joined, not_joined, class_read, class_decides}
use Rattle.lockorder.proofs.section_edges.SectionEdges.add_roots.Goals as goal
use Rattle.lockorder.proofs.section_edges.SectionEdges.add_roots.Goals.{then-contains, else-contains}

pub loop-path-preserved : goal.loop-path-preserved
loop-path-preserved c =
    let x = c.args.self.now.points.now in
    let n = c.loop-path.path in
    let old = c.args.table.now.before.items in
    let lt : n < length x.classes.items = omega (arith, c.loop-path-test.true, c.len-path-end.ensures, x.classes.ok.0) in
    elim c.if-contains.branch [
      | then-contains w ↦ record {
        classes = ap (λ (t : Table). length t.before.items) w.table-is ∙ w.add.ensures.classes ∙ c.loop-path.invariant.classes;
        edges = λ b d.
            let of = class_decides x n w.index.result.now d (class_read x n w.index.result.now lt w.index.ensures) in
            joined (λ i. IsIn c.args.bound i × IsOfClass x d i × InSet c.args.used b) n (InTable old b d) (has_edge c.loop-path.table.before.items b d) (has_edge c.if-contains.table.before.items b d)
            (d == w.index.result.now && has_number c.args.used b) (c.loop-path.invariant.edges b d) (ap (λ (t : Table). has_edge t.before.items b d) w.table-is ∙ w.add.ensures.edges b d) (
              λ h. let p = and_parts (d == w.index.result.now) (has_number c.args.used b) h in (sym c.contains.ensures ∙ w.if-contains.true, of.0 p.0, p.1),
              λ h. and_from (d == w.index.result.now) (has_number c.args.used b) (of.1 h.1) h.2,
            );
      }
      | else-contains w ↦ record {
        classes = ap (λ (t : Table). length t.before.items) w.table-is ∙ c.loop-path.invariant.classes;
        edges = λ b d.
            not_joined (λ i. IsIn c.args.bound i × IsOfClass x d i × InSet c.args.used b) n (InTable old b d) (has_edge c.loop-path.table.before.items b d) (has_edge c.if-contains.table.before.items b d)
            (d == n) (c.loop-path.invariant.edges b d) (ap (λ (t : Table). has_edge t.before.items b d) w.table-is)
            (λ p. both_ways (has c.args.bound n) (sym c.contains.ensures ∙ w.if-contains.false) p.0);
      }
    ]

pub returns-clause-edges : goal.returns-clause-edges
returns-clause-edges c b d =
    let x = c.args.self.now.points.now in
    let all = c.loop-path.invariant.edges b d in (
      λ h. elim (all.0 h) [ inl o ↦ inl o | inr p ↦ inr (p.2.2, (p.0, p.2.0, p.2.1)) ],
      λ h. all.1 (elim h [
        | inl o ↦ inl o
        | inr p ↦ inr (
          p.1.0,
          omega (arith, slice_get_within x.classes.items p.1.0 d p.1.2, c.loop-path-test.false, c.len-path-end.ensures, x.classes.ok.0),
          (p.1.1, p.1.2, p.0),
        )
      ]),
    )

pub add-requires-clause-from : goal.add-requires-clause-from
add-requires-clause-from c = λ b h. subst (λ (n : ℕ). b < n) (sym c.loop-path.invariant.classes) (c.requires.used b h)

pub add-requires-clause-to : goal.add-requires-clause-to
add-requires-clause-to c =
    let classes = c.args.self.now.points.now.classes in
    let n = c.loop-path.path in
    let here = c.index.result.now in
    let lt = below_end n c.len-path-end.result _ (length classes.items) c.loop-path-test.true c.len-path-end.ensures classes.ok.0 in
    subst (λ (k : ℕ). here < k) (sym c.loop-path.invariant.classes)
    (subst (λ (b : ℕ). b < length c.args.table.now.before.items) (sym c.index.ensures) (c.requires.classes n here lt))
