use Rattle.std.proofs.Common.{◌++◌, string_bytes}
use Rattle.std.specs.Prelude.{codes}
use Rattle.locks.specs.Theory.Written.{piece_added}
use Rattle.c_statements.specs.Acquires.{numbered}
use Rattle.c_sections.specs.Working.Prototypes.{check_line_of}
use Rattle.c_statements.specs.Theory.Chains.{then, more}
use Rattle.c_sections.proofs.names.Writer.push_guarded.Goals as goal

pub returns : goal.returns
returns c =
    let old = string_bytes c.args.out.now in
    let a = codes "#ifdef AL_CHECK\n" in
    let b = numbered (check_line_of c.args.self.now) 0 c.args.list.now in
    let z = codes "#endif\n" in
    let m1 = string_bytes c.push_str.new.self in
    let m2 = string_bytes c.push_check_lines.new.out in
    let new = string_bytes c.push_str-2.new.self in
    then c.push_str-2.result (piece_added c.push_str-2.result new m2 z c.push_str-2.ensures.bytes)
    (λ e. more old (a ++ b) z m2 new (more old a b m1 m2 c.in_ok-push_str.ensures.bytes c.in_ok-push_check_lines.ensures) e)
