use Rattle.std.proofs.Common.{arith, sym, not}
use Rattle.source.specs.Texts.{is_name_byte}
use Rattle.std.proofs.lemmas.List.Sums.{position_or_len_is}
use Rattle.input_files.proofs.writing.thread_len.Goals as goal

pub returns-clause-place : goal.returns-clause-place
returns-clause-place c =
    sym (position_or_len_is (λ byte. not (is_name_byte byte)) c.args.bytes.now _ 0 (omega arith) (λ k h. c.loop-i.invariant k (omega arith)) (λ h. absurd (omega arith)))
