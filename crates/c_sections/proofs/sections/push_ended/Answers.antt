use Rattle.std.proofs.Common.{◌++◌, string_bytes}
use Rattle.std.specs.Prelude.{codes}
use Rattle.locks.specs.Theory.Written.{piece_added}
use Rattle.c_sections.specs.Sections.{value_word, printed_words}
use Rattle.c_statements.specs.Theory.Chains.{then, more}
use Rattle.c_sections.proofs.sections.push_ended.Goals as goal

pub returns : goal.returns
returns c =
    let old = string_bytes c.args.out.now in
    let a = codes "#ifdef AL_HISTORY\n  autolock_ended(seat, trap, " in
    let v = value_word c.args.section.now.result_type in
    let p = printed_words c.args.prints in
    let z = codes ");\n#endif\n" in
    let m1 = string_bytes c.push_str.new.self in
    let m2 = string_bytes c.push_value_word.new.out in
    let m3 = string_bytes c.push_printed.new.out in
    let new = string_bytes c.push_str-2.new.self in
    then c.push_str-2.result (piece_added c.push_str-2.result new m3 z c.push_str-2.ensures.bytes)
    (λ e. more old (a ++ v ++ p) z m3 new (more old (a ++ v) p m2 m3
    (more old a v m1 m2 c.in_ok-push_str.ensures.bytes c.in_ok-push_value_word.ensures) c.in_ok-push_printed.ensures) e)
