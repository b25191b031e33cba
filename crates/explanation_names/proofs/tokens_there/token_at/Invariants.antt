use Rattle.std.proofs.Common.{◌≡◌, drop}
use Rattle.std.specs.Prelude.{◌==◌}
use Rattle.resolution.specs.Scopes.{place_from}
use Rattle.source.specs.Tokens.{Tok, seen}
use Rattle.explanation_names.proofs.tokens_there.token_at.Given as goal

abbrev pub invariant-loop-i : goal.invariant-loop-i
invariant-loop-i l =
    place_from (λ (t : Tok). t.span.start == l.at) l.i (seen (drop l.i l.tokens)) ≡ place_from (λ (t : Tok). t.span.start == l.at) 0 (seen l.tokens)
