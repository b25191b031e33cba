use Rattle.std.proofs.Common.{ℕ, List, [], ◌∷◌, sym, subst}
use Rattle.explanation_faults.specs.TextNotes.{AreTextNotes}
use Rattle.explanation_faults.specs.Words.{note_of_all}
use Rattle.explanation_faults.proofs.TextTrees.{with_limit, without_limit}
use Rattle.explanation_faults.proofs.text_notes.limit_notes.Goals as goal

pub returns-in_default : goal.returns-in_default
returns-in_default c =
    rw c.new-notes.ensures.items
    (without_limit c.args.text.now c.args.found.now c.requires.its c.args.fault.now.code c.args.fault.now.start c.requires.other c.in_default.ensures)

pub returns : goal.returns
returns c =
    let code = c.args.fault.now.code in
    let at = c.args.fault.now.start in
    rw (c.in_ok-push.ensures.items, c.new-notes.ensures.items)
    (subst (λ (words : List ℕ). AreTextNotes c.args.text.now code at (note_of_all words ∷ [])) (sym c.in_ok-from_str.ensures.ok)
    (with_limit c.args.text.now c.args.found.now c.requires.its code at c.in-Some.words.now c.in-Some.ensures.0 c.in-Some.ensures.1))
