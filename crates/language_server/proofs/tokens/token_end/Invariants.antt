use Rattle.std.proofs.Common.{◌≡◌, length}
use Rattle.source.specs.Tokens.{seen}
use Rattle.language_server.specs.Changes.{token_end}
use Rattle.language_server.proofs.tokens.token_end.Given as goal

abbrev pub invariant-tokens : goal.invariant-tokens
invariant-tokens l = token_end (seen l.rest) l.start ≡ token_end (seen l.tokens) l.start

abbrev pub decreases-tokens : goal.decreases-tokens
decreases-tokens l = length l.rest
