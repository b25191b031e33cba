use Rattle.std.proofs.Common.{◌∙◌, ◌<◌, map, sym, ap, subst, refl, length, arith}
use Rattle.std.proofs.lemmas.Option.{slice_get_read, slice_get_within, same_Some}
use Rattle.explanation.specs.Notes.{note_of}
use Rattle.lockorder.specs.Edges.{UsesClass, BindsClass}
use Rattle.explanations.proofs.Cycles.{map_two}
use Rattle.flow.specs.Working.PointList.{point_at}
use Rattle.explanations.proofs.cycle_edges.Edges.push.Goals as goal

pub use_note-requires-clause-paths : goal.use_note-requires-clause-paths
use_note-requires-clause-paths c =
    let sections = c.args.self.now.program.now.sections.items in
    let found = c.args.self.now.paths.now.sections.items in
    let k = c.args.edge.section in
    let lt = slice_get_within sections k c.requires.made.makes.section c.requires.made.makes.here in
    c.requires.paths.each k c.index.result.now c.index-2.result.now
    (slice_get_read sections (length sections) k c.index.result.now refl lt c.index.ensures)
    (slice_get_read found (length sections) k c.index-2.result.now (sym c.requires.paths.sections) lt c.index-2.ensures)

pub use_note-requires-clause-used : goal.use_note-requires-clause-used
use_note-requires-clause-used c =
    let sections = c.args.self.now.program.now.sections.items in
    let m = c.requires.made.makes in
    let lt = slice_get_within sections c.args.edge.section m.section m.here in
    let here = slice_get_read sections (length sections) c.args.edge.section c.index.result.now refl lt c.index.ensures in
    subst (λ s. UsesClass c.args.self.now.program.now s c.args.edge.used c.args.edge.class)
    (same_Some m.section c.index.result.now (sym m.here ∙ here)) m.uses

pub binding_note-requires-clause-paths : goal.binding_note-requires-clause-paths
binding_note-requires-clause-paths c =
    let sections = c.args.self.now.program.now.sections.items in
    let found = c.args.self.now.paths.now.sections.items in
    let k = c.args.edge.section in
    let lt = slice_get_within sections k c.requires.made.makes.section c.requires.made.makes.here in
    c.requires.paths.each k c.index.result.now c.index-2.result.now
    (slice_get_read sections (length sections) k c.index.result.now refl lt c.index.ensures)
    (slice_get_read found (length sections) k c.index-2.result.now (sym c.requires.paths.sections) lt c.index-2.ensures)

pub binding_note-requires-clause-listed : goal.binding_note-requires-clause-listed
binding_note-requires-clause-listed c =
    let sections = c.args.self.now.program.now.sections.items in
    let each = c.args.self.now.points.now in
    let list = c.index-self-edge.result in
    let k = c.args.edge.section in
    let m = c.requires.made.makes in
    let lt = slice_get_within sections k m.section m.here in
    let here = slice_get_read sections (length sections) k c.index.result.now refl lt c.index.ensures in
    let within : k < length each = omega (arith, lt, c.requires.points.0) in
    let there = slice_get_read each (length each) k list refl within c.index-self-edge.is in
    ap (map point_at) (c.deref-2.ensures.value ∙ sym (ap (λ l. l.items) c.index-self-edge.is))
    ∙ c.requires.points.1 k list there c.index.result.now here

pub binding_note-requires-clause-binds : goal.binding_note-requires-clause-binds
binding_note-requires-clause-binds c =
    let sections = c.args.self.now.program.now.sections.items in
    let m = c.requires.made.makes in
    let lt = slice_get_within sections c.args.edge.section m.section m.here in
    let here = slice_get_read sections (length sections) c.args.edge.section c.index.result.now refl lt c.index.ensures in
    subst (λ s. BindsClass c.args.self.now.program.now s c.args.edge.bound c.args.next)
    (same_Some m.section c.index.result.now (sym m.here ∙ here)) m.binds

pub returns : goal.returns
returns c =
    let sections = c.args.self.now.program.now.sections.items in
    let m = c.requires.made.makes in
    let lt = slice_get_within sections c.args.edge.section m.section m.here in
    record {
      usage = note_of c.in_ok-use_note.field-0;
      binding = note_of c.in_ok-binding_note.field-0;
      added = map_two note_of _ _ _ _ _ c.in_ok-push.ensures.items c.in_ok-push-2.ensures.items;
      tells = record {
        section = c.index.result.now;
        here = slice_get_read sections (length sections) c.args.edge.section c.index.result.now refl lt c.index.ensures;
        tells_use = c.in_ok-use_note.ensures;
        tells_binding = c.in_ok-binding_note.ensures;
      };
    }
