use Rattle.std.proofs.Common.{◌≡◌, ◌<◌, ℕ, get_or, not, false}
use Rattle.source.specs.Texts.{is_name_byte}
use Rattle.input_files.proofs.writing.thread_len.Given as goal

abbrev pub invariant-loop-i : goal.invariant-loop-i
invariant-loop-i l = (k : ℕ) → k < l.i → not (is_name_byte (get_or l.bytes k 0)) ≡ false
