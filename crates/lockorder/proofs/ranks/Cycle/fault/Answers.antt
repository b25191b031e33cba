use Rattle.std.proofs.Common.{length, refl, ap, ◌∙◌}
use Rattle.lockorder.specs.Faults.{cycle_text, classes_of}
use Rattle.lockorder.proofs.Blame.{first_makes, fault_of, is_at_first, starts_at, used_within}
use Rattle.lockorder.proofs.Added.{below_same}
use Rattle.std.proofs.lemmas.Option.{slice_get_within}
use Rattle.lockorder.proofs.ranks.Cycle.fault.Goals as goal

pub returns-clause-of_cycle : goal.returns-clause-of_cycle
returns-clause-of_cycle c =
    let program = c.args.program.now in
    let edges = c.args.self.now.edges.items in
    let first = c.index-first.result.now in
    let m = first_makes program edges first c.requires c.index-first.ensures in
    fault_of program edges first _ c.requires c.index-first.ensures
    (starts_at program first.section first.used first.bound first.class m.0 c.index.result.now c.in_ok-points.points.items c.index-2.result.now c.start-start.result m.1
    c.index.ensures c.in_ok-points.ensures c.index-2.ensures c.start-start.ensures) refl (c.in_ok-detail.ensures ∙ ap (λ l. cycle_text program (classes_of l)) c.deref.ensures.value)

pub returns-clause-first : goal.returns-clause-first
returns-clause-first c = is_at_first c.args.program.now c.args.self.now.edges.items _ c.requires (returns-clause-of_cycle c)

pub index-requires-2 : goal.index-requires-2
index-requires-2 c =
    let program = c.args.program.now in
    let first = c.index-first.result.now in
    let m = first_makes program c.args.self.now.edges.items first c.requires c.index-first.ensures in
    below_same first.used (length c.in_ok-points.points.items) _
    (used_within program first.section first.used first.bound first.class m.0 c.index.result.now c.in_ok-points.points.items m.1 c.index.ensures c.in_ok-points.ensures)
    c.in_ok-points.points.ok.0

pub index-requires : goal.index-requires
index-requires c =
    let program = c.args.program.now in
    let first = c.index-first.result.now in
    let m = first_makes program c.args.self.now.edges.items first c.requires c.index-first.ensures in
    below_same first.section (length program.sections.items) _ (slice_get_within program.sections.items first.section m.1.section m.1.here) program.sections.ok.0
