use Rattle.std.proofs.Common.{take}
use Rattle.source.specs.Tokens.{seen}
use Rattle.explanation_tokens.specs.Expected.{StartBefore}
use Rattle.explanation_tokens.proofs.trial.place_of.Given as goal

-- the tokens so far start before the place
abbrev pub invariant-loop-number : goal.invariant-loop-number
invariant-loop-number l = StartBefore (take l.number (seen l.tokens)) l.start
