use Rattle.std.proofs.Common.{◌≡◌, length}
use Rattle.source.specs.Tokens.{seen}
use Rattle.language_server.specs.Changes.{place_behind}
use Rattle.language_server.proofs.tokens.annotation_place.Given as goal

abbrev pub invariant-tokens : goal.invariant-tokens
invariant-tokens l = place_behind l.place l.name (seen l.rest) ≡ place_behind 0 l.name (seen l.tokens)

abbrev pub decreases-tokens : goal.decreases-tokens
decreases-tokens l = length l.rest
