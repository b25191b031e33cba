use Rattle.std.proofs.Common.{◌≡◌, take}
use Rattle.source.specs.Tokens.{seen}
use Rattle.explanation_names.specs.NullMeant.{with_null}
use Rattle.explanation_names.proofs.null_meant.with_null.Given as goal

abbrev pub invariant-loop-token : goal.invariant-loop-token
invariant-loop-token l = seen l.made.items ≡ with_null l.at (seen (take l.token-index l.tokens))
