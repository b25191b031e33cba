use Rattle.std.proofs.Common.{ℕ, ◌<◌, get_or, length, inl, inr, sym, ap, ◌∙◌, subst, arith}
use Rattle.std.specs.List.{All}
use Rattle.std.proofs.lemmas.Option.{get_or_from_slice_get, slice_get_within}
use Rattle.locks.specs.declared.path_set.PathSet.{PathSet}
use Rattle.points.specs.declared.table.Points.{Points}
use Rattle.std.proofs.lemmas.Bool.{both_ways, not-false, eqb-true}
use Rattle.locks.specs.Sets.{has}
use Rattle.std.specs.Prelude.{◌==◌}
use Rattle.lockorder.specs.declared.table.Table.{Table}
use Rattle.lockorder.specs.Working.Tables.{has_edge, InSet, InTable}
use Rattle.lockorder.specs.Working.Sections.{UsesSoFar, BindsAt, HasClass, set_at}
use Rattle.lockorder.proofs.Added.{below_few}
use Rattle.lockorder.proofs.InSection.{joined_by, not_joined, used_in_union, union_has, set_read, same_set}
use Rattle.lockorder.proofs.InSection.{set_within, same_bits}
use Rattle.lockorder.proofs.section_edges.SectionEdges.add_to.Goals as goal
use Rattle.lockorder.proofs.section_edges.SectionEdges.add_to.Goals.{then-ne, else-ne}

pub loop-point-preserved : goal.loop-point-preserved
loop-point-preserved c =
    let x = c.args.self.now.points.now in
    let p = c.loop-point.point in
    let lt : p < length x.bound.items = omega (arith, c.loop-point-test.true, c.len-point-end.ensures, x.bound.ok.0) in
    let read = set_read x.bound.items p c.index.result.now lt c.index.ensures in
    elim c.if-ne.branch [
      | then-ne w ↦ record {
        classes = ap (λ (t : Table). length t.before.items) w.table-is ∙ w.add_roots.ensures.classes ∙ c.loop-point.invariant.classes;
        edges = λ b d.
            let added = w.add_roots.ensures.edges b d in
            let same = ap (λ (t : Table). has_edge t.before.items b d) w.table-is in
            joined_by (λ q. UsesSoFar x q b × BindsAt x q d) p (InTable c.args.table.now.before.items b d) (InSet w.classes_of-used.result b × HasClass x c.index.result.now d)
            (has_edge c.loop-point.table.before.items b d) (has_edge c.if-ne.table.before.items b d) (c.loop-point.invariant.edges b d)
            (λ h. added.0 (sym same ∙ h), λ h. same ∙ added.1 h)
            (λ h. (used_in_union x p b w.used_so_far.result w.used_so_far.ensures ((w.classes_of-used.ensures b).0 h.0), same_set x c.index.result.now (set_at x.bound.items p) d read h.1))
            (λ h. ((w.classes_of-used.ensures b).1 (union_has x p b w.used_so_far.result w.used_so_far.ensures h.0), same_set x (set_at x.bound.items p) c.index.result.now d (sym read) h.1));
      }
      | else-ne w ↦ record {
        classes = ap (λ (t : Table). length t.before.items) w.table-is ∙ c.loop-point.invariant.classes;
        edges = λ b d.
            not_joined (λ q. UsesSoFar x q b × BindsAt x q d) p (InTable c.args.table.now.before.items b d) (has_edge c.loop-point.table.before.items b d) (has_edge c.if-ne.table.before.items b d)
            (b == d) (c.loop-point.invariant.edges b d) (ap (λ (t : Table). has_edge t.before.items b d) w.table-is)
            (λ h.
            let i = same_set x (set_at x.bound.items p) c.index.result.now d (sym read) h.1 in
            both_ways (has c.new.result i.0) (c.new.ensures i.0)
            (same_bits c.index.result.now c.new.result i.0 (eqb-true c.index.result.now.bits c.new.result.bits (not-false (c.index.result.now.bits == c.new.result.bits) (sym c.ne.ensures ∙ w.if-ne.false))) i.1));
      }
    ]

pub returns-clause-edges : goal.returns-clause-edges
returns-clause-edges c b d =
    let x = c.args.self.now.points.now in
    let all = c.loop-point.invariant.edges b d in (
      λ h. elim (all.0 h) [ inl o ↦ inl o | inr p ↦ inr (p.0, p.2.0, p.2.1) ],
      λ h. all.1 (elim h [
        | inl o ↦ inl o
        | inr p ↦ inr (
          p.0,
          omega (arith, set_within x.bound.items p.0 p.2.0 p.2.1, c.loop-point-test.false, c.len-point-end.ensures, x.bound.ok.0),
          (p.1, p.2),
        )
      ]),
    )

class_below : (x : Points) (limit : ℕ) → All (λ c. c < limit) x.classes.items → (set : PathSet) (c : ℕ) →
    HasClass x set c → c < limit
class_below x limit all set c h =
    subst (λ n. n < limit) (get_or_from_slice_get x.classes.items h.0 c c h.2) (all h.0 c (slice_get_within x.classes.items h.0 c h.2))

pub add_roots-requires-clause-classes : goal.add_roots-requires-clause-classes
add_roots-requires-clause-classes c = subst (λ n. All (λ d. d < n) c.args.self.now.points.now.classes.items) (sym c.loop-point.invariant.classes) c.requires

pub add_roots-requires-clause-used : goal.add_roots-requires-clause-used
add_roots-requires-clause-used c d h =
    subst (λ n. d < n) (sym c.loop-point.invariant.classes)
    (class_below c.args.self.now.points.now (length c.args.table.now.before.items) c.requires c.used_so_far.result d ((c.classes_of-used.ensures d).0 h))

pub classes_of-used-requires : goal.classes_of-used-requires
classes_of-used-requires c = λ k d lt.
    below_few (get_or c.args.self.now.points.now.classes.items k d) (length c.loop-point.table.before.items) (length c.args.table.now.before.items) (c.requires k d lt)
    c.loop-point.invariant.classes c.loop-point.table.few
