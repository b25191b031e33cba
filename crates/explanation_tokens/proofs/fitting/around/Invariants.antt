use Rattle.std.proofs.Common.{◌≡◌, take}
use Rattle.source.specs.Tokens.{seen}
use Rattle.explanation_tokens.specs.Around.{behind_all}
use Rattle.explanation_tokens.specs.Working.Seen.{around_of}
use Rattle.explanation_tokens.proofs.fitting.around.Given as goal

-- the surroundings, by the tokens so far
abbrev pub invariant-loop-token : goal.invariant-loop-token
invariant-loop-token l = around_of l.around ≡ behind_all (seen (take l.token-index l.tokens))
