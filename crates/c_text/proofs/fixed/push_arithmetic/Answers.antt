use Rattle.std.specs.Prelude.{string_bytes}
use Rattle.locks.specs.Theory.Written.{piece_added}
use Rattle.c_text.specs.Fixed.{arithmetic_text}
use Rattle.c_text.proofs.fixed.push_arithmetic.Goals as goal

pub returns : goal.returns
unfolding arithmetic_text
returns c = piece_added c.push_str.result _ (string_bytes c.args.out.now) arithmetic_text c.push_str.ensures.bytes
