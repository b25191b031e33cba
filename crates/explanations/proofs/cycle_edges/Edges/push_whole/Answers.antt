use Rattle.std.proofs.Common.{◌∙◌, sym, subst, refl, length}
use Rattle.std.proofs.lemmas.Option.{slice_get_read, slice_get_within, same_Some}
use Rattle.explanation.specs.Notes.{note_of}
use Rattle.lockorder.specs.Edges.{BindsClass}
use Rattle.explanations.proofs.Cycles.{map_behind}
use Rattle.explanations.proofs.Found.{bound_within}
use Rattle.explanations.proofs.cycle_edges.Edges.push_whole.Goals as goal

pub way_note-requires-clause-paths : goal.way_note-requires-clause-paths
way_note-requires-clause-paths c =
    let sections = c.args.self.now.program.now.sections.items in
    let found = c.args.self.now.paths.now.sections.items in
    let k = c.args.edge.section in
    let lt = slice_get_within sections k c.requires.made.makes.section c.requires.made.makes.here in
    c.requires.paths.each k c.index.result.now c.index-2.result.now
    (slice_get_read sections (length sections) k c.index.result.now refl lt c.index.ensures)
    (slice_get_read found (length sections) k c.index-2.result.now (sym c.requires.paths.sections) lt c.index-2.ensures)

pub way_note-requires-clause-point : goal.way_note-requires-clause-point
way_note-requires-clause-point c =
    let sections = c.args.self.now.program.now.sections.items in
    let m = c.requires.made.makes in
    let lt = slice_get_within sections c.args.edge.section m.section m.here in
    let here = slice_get_read sections (length sections) c.args.edge.section c.index.result.now refl lt c.index.ensures in
    bound_within c.args.self.now.program.now c.index.result.now c.args.edge.bound c.args.next
    (subst (λ s. BindsClass c.args.self.now.program.now s c.args.edge.bound c.args.next)
    (same_Some m.section c.index.result.now (sym m.here ∙ here)) m.binds)

pub returns : goal.returns
returns c =
    let sections = c.args.self.now.program.now.sections.items in
    let m = c.requires.made.makes in
    let lt = slice_get_within sections c.args.edge.section m.section m.here in
    let a = c.in_ok-push.ensures in
    record {
      usage = a.usage;
      binding = a.binding;
      way = note_of c.in_ok-way_note.field-0;
      added = map_behind note_of _ _ _ a.usage a.binding _ a.added c.in_ok-push-2.ensures.items;
      tells = a.tells;
      tells_way = record {
        section = c.index.result.now;
        here = slice_get_read sections (length sections) c.args.edge.section c.index.result.now refl lt c.index.ensures;
        tells = c.in_ok-way_note.ensures;
      };
    }
