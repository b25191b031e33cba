use Rattle.std.proofs.Common.{◌∙◌, sym, ap}
use Rattle.std.specs.Prelude.{codes}
use Rattle.syntax.specs.Trees.{Ident}
use Rattle.explanation_faults.specs.Words.{name_note}
use Rattle.explanation_faults.specs.Working.Values.{decls_of}
use Rattle.explanation_names.specs.Working.Viewed.{member_at}
use Rattle.explanation_faults.proofs.FinalsPassed.{at_same}
use Rattle.explanation_faults.proofs.tree_notes.Faulty.passed_note.Goals as goal

pub returns-in_default : goal.returns-in_default
returns-in_default c = λ note is.
    let e = c.in_default.ensures ∙ at_same (decls_of c.args.self.now) c.args.self.now.at ∙ is.passed in
    absurd cc

pub returns : goal.returns
returns c = record {
  member = member_at c.in-Some.member;
  passed = sym (c.in-Some.ensures ∙ at_same (decls_of c.args.self.now) c.args.self.now.at);
  said = c.in_ok-note.ensures ∙ ap (λ (x : Ident). name_note x (codes " is declared here, and is not a final reference")) c.member_name-name.ensures;
}
