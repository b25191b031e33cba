use Rattle.std.proofs.Common.{inr, ap}
use Rattle.explanation_faults.specs.Words.{note_of_all}
use Rattle.explanation_faults.specs.Working.Values.{decls_of, tokens_of}
use Rattle.explanation_faults.proofs.NearNames.{null_not_meant}
use Rattle.explanation_faults.proofs.tree_notes.Faulty.null_note.Goals as goal

pub returns-then-not-branch : goal.returns-then-not-branch
returns-then-not-branch c =
    let x = c.args.self.now in
    null_not_meant (tokens_of x) (decls_of x) x.at c.args.name.now c.requires.there c.requires.none
    (λ meant. let is = c.in_ok-is_null_meant.ensures.1 meant in cc)

pub returns : goal.returns
returns c =
    inr record {
      none = c.requires.none;
      meant = record { unknown = c.args.name.now; there = c.requires.there; meant = c.in_ok-is_null_meant.ensures.0 c.if-not-branch.false };
      said = ap note_of_all c.in_ok-from_str.ensures.ok;
    }
