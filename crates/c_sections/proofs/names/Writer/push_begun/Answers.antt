use Rattle.std.proofs.Common.{◌∙◌, ◌++◌, List, ap, length, string_bytes}
use Rattle.std.specs.Prelude.{codes}
use Rattle.std.specs.Fmt.{decimal}
use Rattle.core_lang.specs.declared.tree.Local.{Local}
use Rattle.locks.specs.Theory.Written.{piece_added}
use Rattle.c_sections.specs.Sections.{section_name, arguments_text, kept_line}
use Rattle.c_statements.specs.Theory.Chains.{then, more}
use Rattle.c_sections.proofs.names.Writer.push_begun.Goals as goal

pub returns : goal.returns
returns c =
    let old = string_bytes c.args.out.now in
    let list = c.parameters-list.result.now in
    let a = codes "#ifdef AL_HISTORY\n  struct autolock_seat *seat = autolock_begin(s->history, " in
    let s = section_name c.args.self.now.prefix.now c.args.section.now in
    let n = λ (l : List Local). codes ", " ++ decimal (length l) ++ codes ", (const int64_t[]) { " in
    let b = codes "0 });\n" in
    let k = kept_line c.args.prints in
    let z = codes "#endif\n" in
    let m1 = string_bytes c.push_str.new.self in
    let m2 = string_bytes c.push_section_name.new.out in
    let m3 = string_bytes c.write.new.self in
    let m4 = string_bytes c.push_arguments.new.out in
    let m5 = string_bytes c.push_str-2.new.self in
    let m6 = string_bytes c.push_kept.new.out in
    let new = string_bytes c.push_str-3.new.self in
    then c.push_str-3.result (piece_added c.push_str-3.result new m6 z c.push_str-3.ensures.bytes)
    (λ e. more old (a ++ s ++ n list ++ arguments_text list ++ b ++ k) z m6 new
    (more old (a ++ s ++ n list ++ arguments_text list ++ b) k m5 m6
    (more old (a ++ s ++ n list ++ arguments_text list) b m4 m5 (more old (a ++ s ++ n list) (arguments_text list) m3 m4
    (more old (a ++ s) (n list) m2 m3
    (more old a s m1 m2 c.in_ok-push_str.ensures.bytes c.in_ok-push_section_name.ensures) c.in_ok-write.ensures.bytes)
    c.in_ok-push_arguments.ensures) c.in_ok-push_str-2.ensures.bytes) c.in_ok-push_kept.ensures) e
    ∙ ap (λ (l : List Local). old ++ (a ++ s ++ n l ++ arguments_text l ++ b ++ k ++ z)) c.parameters-list.ensures)
