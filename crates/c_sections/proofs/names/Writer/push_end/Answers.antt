use Rattle.std.proofs.Common.{◌++◌, ◌∙◌, ℕ, map, length, string_bytes, sym, ap}
use Rattle.std.specs.Prelude.{codes}
use Rattle.std.proofs.lemmas.List.{length-map}
use Rattle.locks.specs.LockPaths.{lock_path_of}
use Rattle.locks.specs.Theory.Written.{piece_added}
use Rattle.c_statements.specs.Acquires.{downward}
use Rattle.c_sections.specs.Sections.{ended_text, unlock_line, count_line, give_line, return_text}
use Rattle.c_statements.specs.Statements.{line}
use Rattle.c_statements.specs.Theory.Chains.{then, more}
use Rattle.c_sections.proofs.names.Writer.push_end.Goals as goal

pub returns : goal.returns
returns c =
    let old = string_bytes c.args.out.now in
    let a = codes "  goto begin;\nend:\n" in
    let h = ended_text c.args.section.now c.args.prints in
    let paths = map lock_path_of c.args.paths.now in
    let released = unlock_line c.args.self.now.program.now paths in
    let u = downward released (length paths) in
    let n = count_line c.args.prints in
    let t = line (codes "result.trap = trap;") in
    let g = give_line c.args.section.now.result_type in
    let m0 = string_bytes c.push_str.new.self in
    let m1 = string_bytes c.push_ended.new.out in
    let m2 = string_bytes c.push_unlocks.new.out in
    let m3 = string_bytes c.push_count_line.new.out in
    let m4 = string_bytes c.push_str-2.new.self in
    let m5 = string_bytes c.push_give_line.new.out in
    let new = string_bytes c.push_str-3.new.self in
    then c.push_str-3.result (piece_added c.push_str-3.result new m5 return_text c.push_str-3.ensures.bytes)
    (λ e. more old (a ++ h ++ u ++ n ++ t ++ g) return_text m5 new
    (more old (a ++ h ++ u ++ n ++ t) g m4 m5 (more old (a ++ h ++ u ++ n) t m3 m4 (more old (a ++ h ++ u) n m2 m3
    (more old (a ++ h) u m1 m2 (more old a h m0 m1 c.in_ok-push_str.ensures.bytes c.in_ok-push_ended.ensures)
    (c.in_ok-push_unlocks.ensures ∙ ap (λ (n : ℕ). m1 ++ downward released n) (sym (length-map c.args.paths.now lock_path_of)))) c.in_ok-push_count_line.ensures)
    c.in_ok-push_str-2.ensures.bytes) c.in_ok-push_give_line.ensures) e)
