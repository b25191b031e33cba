use Rattle.std.proofs.Common.{◌≡◌, Err, Some, None, sym, ◌∙◌}
use Rattle.source.specs.Tokens.{seen}
use Rattle.syntax.specs.Views.{tree_of}
use Rattle.syntax.specs.Grammar.{NESTING_LIMIT}
use Rattle.parser.specs.declared.stop.Stop.TheVariants.{Unexpected, TooDeep}
use Rattle.parser.specs.Working.Declarations.{program_at}
use Rattle.parser.specs.Working.Returning.{least_fault}
use Rattle.parser.proofs.Programs.{start_seen}
use Rattle.parser.proofs.Verdicts.{right_tree, right_only, no_misplaced, not_answered, is_misplaced, same_misplaced}
use Rattle.parser.proofs.Verdicts.{not_read, never_misplaced, is_unexpected, is_too_deep}
use Rattle.parser.proofs.whole.parse.Goals as goal

pub returns-in-None-clause-found : goal.returns-in-None-clause-found
returns-in-None-clause-found c =
    let none : least_fault (tree_of c.in-Ok.tree) ≡ None = rw c.deref.ensures.value at (sym c.in-None.ensures) in
    right_tree (seen c.args.tokens.now) (tree_of c.in-Ok.tree) c.in-Ok.ensures none

pub returns-in-None-clause-only : goal.returns-in-None-clause-only
returns-in-None-clause-only c = λ ds h. right_only (seen c.args.tokens.now) (tree_of c.in-Ok.tree) c.in-Ok.ensures ds h

pub returns-in-None-clause-misplaced : goal.returns-in-None-clause-misplaced
returns-in-None-clause-misplaced c = λ start m.
    let none : least_fault (tree_of c.in-Ok.tree) ≡ None = rw c.deref.ensures.value at (sym c.in-None.ensures) in
    no_misplaced (seen c.args.tokens.now) (tree_of c.in-Ok.tree) c.in-Ok.ensures none start m

pub returns-in-Some-clause-only : goal.returns-in-Some-clause-only
returns-in-Some-clause-only c = λ ds h.
    let some : least_fault (tree_of c.in-Ok.tree) ≡ Some c.in-Some.start = rw c.deref.ensures.value at (sym c.in-Some.ensures) in
    absurd (not_answered (seen c.args.tokens.now) (tree_of c.in-Ok.tree) c.in-Ok.ensures c.in-Some.start some ds h)

pub returns-in-Some-clause-fault : goal.returns-in-Some-clause-fault
returns-in-Some-clause-fault c =
    let some : least_fault (tree_of c.in-Ok.tree) ≡ Some c.in-Some.start = rw c.deref.ensures.value at (sym c.in-Some.ensures) in
    (rw (c.at.ensures.code, c.at.ensures.start) (is_misplaced (seen c.args.tokens.now) (tree_of c.in-Ok.tree) c.in-Ok.ensures c.in-Some.start some), c.at.ensures.detail)

pub returns-in-Some-clause-misplaced : goal.returns-in-Some-clause-misplaced
returns-in-Some-clause-misplaced c = λ start m.
    let some : least_fault (tree_of c.in-Ok.tree) ≡ Some c.in-Some.start = rw c.deref.ensures.value at (sym c.in-Some.ensures) in
    (c.at.ensures.code, c.at.ensures.start ∙ same_misplaced (seen c.args.tokens.now) (tree_of c.in-Ok.tree) c.in-Ok.ensures c.in-Some.start some start m, c.at.ensures.detail)

pub returns-in-Err-Unexpected-clause-only : goal.returns-in-Err-Unexpected-clause-only
returns-in-Err-Unexpected-clause-only c = λ ds h.
    let a : program_at NESTING_LIMIT (seen c.args.tokens.now) ≡ Err (Unexpected c.in-Err-Unexpected.left) = rw c.in-Err-Unexpected.field-0-is at c.in-Err-Unexpected.ensures in
    absurd (not_read (seen c.args.tokens.now) (Unexpected c.in-Err-Unexpected.left) a ds h)

pub returns-in-Err-Unexpected-clause-fault : goal.returns-in-Err-Unexpected-clause-fault
returns-in-Err-Unexpected-clause-fault c =
    let a : program_at NESTING_LIMIT (seen c.args.tokens.now) ≡ Err (Unexpected c.in-Err-Unexpected.left) = rw c.in-Err-Unexpected.field-0-is at c.in-Err-Unexpected.ensures in
    (rw (c.at-in-Err-Unexpected.ensures.code, c.at-in-Err-Unexpected.ensures.start, c.start_of.ensures, start_seen c.args.tokens.now c.in-Err-Unexpected.left) (is_unexpected (seen c.args.tokens.now) c.in-Err-Unexpected.left a), c.at-in-Err-Unexpected.ensures.detail)

pub returns-in-Err-Unexpected-clause-misplaced : goal.returns-in-Err-Unexpected-clause-misplaced
returns-in-Err-Unexpected-clause-misplaced c = λ start m.
    let a : program_at NESTING_LIMIT (seen c.args.tokens.now) ≡ Err (Unexpected c.in-Err-Unexpected.left) = rw c.in-Err-Unexpected.field-0-is at c.in-Err-Unexpected.ensures in
    absurd (never_misplaced (seen c.args.tokens.now) (Unexpected c.in-Err-Unexpected.left) a start m)

pub returns-in-Err-TooDeep-clause-only : goal.returns-in-Err-TooDeep-clause-only
returns-in-Err-TooDeep-clause-only c = λ ds h.
    let a : program_at NESTING_LIMIT (seen c.args.tokens.now) ≡ Err (TooDeep c.in-Err-TooDeep.left) = rw c.in-Err-TooDeep.field-0-is at c.in-Err-TooDeep.ensures in
    absurd (not_read (seen c.args.tokens.now) (TooDeep c.in-Err-TooDeep.left) a ds h)

pub returns-in-Err-TooDeep-clause-fault : goal.returns-in-Err-TooDeep-clause-fault
returns-in-Err-TooDeep-clause-fault c =
    let a : program_at NESTING_LIMIT (seen c.args.tokens.now) ≡ Err (TooDeep c.in-Err-TooDeep.left) = rw c.in-Err-TooDeep.field-0-is at c.in-Err-TooDeep.ensures in
    (rw (c.at-in-Err-TooDeep.ensures.code, c.at-in-Err-TooDeep.ensures.start, c.start_of-in-Err-TooDeep.ensures, start_seen c.args.tokens.now c.in-Err-TooDeep.left) (is_too_deep (seen c.args.tokens.now) c.in-Err-TooDeep.left a), c.at-in-Err-TooDeep.ensures.detail)

pub returns-in-Err-TooDeep-clause-misplaced : goal.returns-in-Err-TooDeep-clause-misplaced
returns-in-Err-TooDeep-clause-misplaced c = λ start m.
    let a : program_at NESTING_LIMIT (seen c.args.tokens.now) ≡ Err (TooDeep c.in-Err-TooDeep.left) = rw c.in-Err-TooDeep.field-0-is at c.in-Err-TooDeep.ensures in
    absurd (never_misplaced (seen c.args.tokens.now) (TooDeep c.in-Err-TooDeep.left) a start m)
