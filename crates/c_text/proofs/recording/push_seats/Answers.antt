use Rattle.std.specs.Prelude.{string_bytes}
use Rattle.locks.specs.Theory.Written.{piece_added}
use Rattle.c_text.specs.Recording.{seats_text}
use Rattle.c_text.proofs.recording.push_seats.Goals as goal

pub returns : goal.returns
unfolding seats_text
returns c = piece_added c.push_str.result _ (string_bytes c.args.out.now) seats_text c.push_str.ensures.bytes
