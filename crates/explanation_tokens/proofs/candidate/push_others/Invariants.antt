use Rattle.std.proofs.Common.{take}
use Rattle.locks.specs.Texts.{AddsText}
use Rattle.explanation_tokens.specs.Expected.{candidate_texts}
use Rattle.explanation_tokens.proofs.candidate.push_others.Given as goal

-- the texts of the candidates so far are written
abbrev pub invariant-loop-candidate : goal.invariant-loop-candidate
invariant-loop-candidate l = AddsText (candidate_texts (take l.candidate-index l.others)) l.initial.out l.out
