use Rattle.std.proofs.Common.{map}
use Rattle.std.proofs.lemmas.Result.{on_ok_weaker}
use Rattle.explanation.specs.Notes.{note_of}
use Rattle.explanations.proofs.Leading.{both_added}
use Rattle.explanations.proofs.cycle_calls.Calls.push_edge.Goals as goal

pub returns : goal.returns
returns c =
    let first = rw c.in_ok-used.ensures at c.in_ok-push_to.ensures in
    let second = rw c.in_ok-bound.ensures at c.push_to-2.ensures in
    on_ok_weaker c.push_to-2.result (λ added. both_added (map note_of c.args.notes.now.items) _ _ _ _ first added) second
