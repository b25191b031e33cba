use Rattle.std.proofs.Common.{◌≡◌, drop}
use Rattle.outcomes.specs.Working.Hashes.{mixed_answers}
use Rattle.outcomes.proofs.hash.mixed_answers.Given as goal

-- the rest, mixed into the hash so far, gives the whole hash
abbrev pub invariant-loop-answer : goal.invariant-loop-answer
invariant-loop-answer l = mixed_answers l.hasher (drop l.answer-index l.answers) ≡ mixed_answers l.fn.start l.answers
