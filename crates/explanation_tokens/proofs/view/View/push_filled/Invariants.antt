use Rattle.std.proofs.Common.{take}
use Rattle.std.specs.List.{flat_map}
use Rattle.locks.specs.Texts.{AddsText}
use Rattle.source.specs.Tokens.{seen}
use Rattle.explanation_tokens.specs.Advice.{filled}
use Rattle.explanation_tokens.proofs.view.View.push_filled.Given as goal

-- the bytes so far are written, with their letters filled in
abbrev pub invariant-loop-byte : goal.invariant-loop-byte
invariant-loop-byte l = AddsText (flat_map (filled (seen l.self.tokens.now) l.self.number) (take l.byte-index l.byte-items)) l.initial.out l.out
