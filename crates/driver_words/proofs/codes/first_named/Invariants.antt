use Rattle.std.proofs.Common.{◌≡◌, take, None}
use Rattle.std.specs.List.{find}
use Rattle.driver_words.specs.Codes.{is_named}
use Rattle.driver_words.proofs.codes.first_named.Given as goal

-- the word names none of the codes so far
abbrev pub invariant-loop-code : goal.invariant-loop-code
invariant-loop-code l = find (is_named l.word) (take l.code-index l.codes) ≡ None
