use Rattle.std.specs.Prelude.{string_bytes}
use Rattle.locks.specs.Theory.Written.{piece_added}
use Rattle.c_text.specs.Recording.{writing_text}
use Rattle.c_text.proofs.recording.push_writing.Goals as goal

pub returns : goal.returns
unfolding writing_text
returns c = piece_added c.push_str.result _ (string_bytes c.args.out.now) writing_text c.push_str.ensures.bytes
