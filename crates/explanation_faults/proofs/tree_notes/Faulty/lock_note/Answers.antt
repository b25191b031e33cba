use Rattle.std.proofs.Common.{sym}
use Rattle.syntax.specs.Views.{ident}
use Rattle.explanation_faults.specs.Working.Values.{decls_of}
use Rattle.explanation_faults.proofs.LocksAtHand.{is_at_hand, none_at_hand}
use Rattle.explanation_faults.proofs.tree_notes.Faulty.lock_note.Goals as goal

pub returns-in_default : goal.returns-in_default
returns-in_default c = λ note is.
    let x = c.args.self.now in
    none_at_hand (decls_of x) x.at (sym (rw c.items.ensures at c.in_default.ensures)) is.name is.at_hand

pub returns : goal.returns
returns c =
    let x = c.args.self.now in
    record {
      name = ident c.in-Some.name.now;
      at_hand = is_at_hand (decls_of x) x.at (ident c.in-Some.name.now) (sym (rw c.items.ensures at c.in-Some.ensures));
      said = c.in_ok-note.ensures;
    }
