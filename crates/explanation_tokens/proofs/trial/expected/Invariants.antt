use Rattle.std.proofs.Common.{◌≡◌, take}
use Rattle.explanation_tokens.specs.Expected.{AreThose, CanCome, all_candidates}
use Rattle.explanation_tokens.specs.Working.Trials.{AreBefore, before_in}
use Rattle.explanation_tokens.proofs.trial.expected.Given as goal

-- the tokens before the place stay, and of the candidates so far those that can come are found
abbrev pub invariant-loop-candidate : goal.invariant-loop-candidate
invariant-loop-candidate l = record {
  behind : AreBefore l.place l.tokens.items;
  before : before_in l.place l.tokens.items ≡ before_in l.place l.initial.tokens.items;
  those : AreThose (CanCome (before_in l.place l.initial.tokens.items) l.place.span.start) (take l.candidate-index all_candidates) l.list.items;
}
