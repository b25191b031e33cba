use Rattle.std.proofs.Common.{◌≡◌, drop}
use Rattle.outcomes.specs.Working.Changes.{applied}
use Rattle.outcomes.proofs.changes.make_changes.Given as goal

-- the remaining changes, made to the cells so far, give the final cells
abbrev pub invariant-loop-change : goal.invariant-loop-change
invariant-loop-change l = record {
  cells : applied (drop l.change-index l.changes) l.draft.now ≡ applied l.changes l.fn.heap;
  before : l.draft.before ≡ l.fn.heap;
}
