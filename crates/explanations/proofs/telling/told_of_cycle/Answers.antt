use Rattle.std.proofs.Common.{map, subst, sym}
use Rattle.explanation.specs.Further.{Further}
use Rattle.explanation.specs.Notes.{note_of}
use Rattle.lowering.specs.Working.Compiled.{program_of}
use Rattle.explanations.specs.Told.{IsToldOf, cycle_explained, faulty}
use Rattle.explanations.proofs.telling.told_of_cycle.Goals as goal

pub returns : goal.returns
returns c = subst (λ (x : Further). IsToldOf c.args.text.now (faulty c.args.cyclic.fault (map note_of c.push.new.notes.items) x))
    (sym c.none.ensures) (cycle_explained (record {
      given = c.requires.first;
      accepted = c.args.cyclic.trees.accepted;
      program = program_of c.args.cyclic.trees;
      meant = c.requires.program;
      edges = c.args.cyclic.edges.items;
      cycle = c.requires.cycle;
      of_cycle = c.requires.told;
      of_edges = map note_of c.in_ok-notes.notes.items;
      tell = rw (c.program-program.ensures, c.deref.ensures.value) at c.in_ok-notes.ensures;
      whole = rw (c.program-program.ensures, c.deref-2.ensures.value) at c.in_ok-push.ensures;
    }))
