use Rattle.std.proofs.Common.{◌≡◌, ◌∙◌, true, false, sym}
use Rattle.explanation_faults.specs.FaultNotes.{of_count, of_amount, of_finals, of_helpers, of_paths}
use Rattle.explanation_faults.specs.Working.Values.{decls_of, tokens_of}
use Rattle.explanation_faults.proofs.FinalsPassed.{finals_if, finals_so}
use Rattle.explanation_faults.proofs.LimitsPassed.{none_passed, passed_if}
use Rattle.explanation_faults.proofs.Telling.{none_of_limits}
use Rattle.explanation_faults.proofs.tree_notes.Faulty.limit.Goals as goal

pub returns-in-Some : goal.returns-in-Some
returns-in-Some c =
    let x = c.args.self.now in
    of_count (passed_if (decls_of x) x.at c.in-Some.words.now (sym (rw (c.in-Some.is, c.items.ensures) at c.in_ok-words.ensures)))

pub returns-in-Some-2 : goal.returns-in-Some-2
returns-in-Some-2 c = of_amount (rw c.in-Some-2.is at c.in_ok-words-2.ensures)

pub returns-in-Some-passed_member : goal.returns-in-Some-passed_member
returns-in-Some-passed_member c =
    let x = c.args.self.now in
    of_finals (finals_if (decls_of x) x.at _ (sym c.in-Some-passed_member.ensures))

pub returns-in-Some-3 : goal.returns-in-Some-3
returns-in-Some-3 c = of_helpers (rw c.in-Some-3.is at c.in_ok-words-3.ensures)

pub returns-then-branch : goal.returns-then-branch
returns-then-branch c = of_paths (c.in_ok-are_paths_past.ensures.0 c.if-branch.true)

pub returns : goal.returns
returns c =
    let x = c.args.self.now in
    none_of_limits (tokens_of x) (decls_of x) x.at
    (none_passed (decls_of x) x.at (sym (rw (c.in_default.is, c.items.ensures) at c.in_ok-words.ensures)))
    (rw c.in_default-2.is at c.in_ok-words-2.ensures)
    (λ passed. let some = finals_so (decls_of x) x.at passed in let e = c.in_default-passed_member.ensures ∙ some.1 in absurd cc)
    (rw c.in_default-3.is at c.in_ok-words-3.ensures)
    (λ first. let e : false ≡ true = sym c.if-branch.false ∙ c.in_ok-are_paths_past.ensures.1 first in absurd cc)
