use Rattle.std.proofs.Common.{◌++◌, string_bytes}
use Rattle.std.specs.Prelude.{codes}
use Rattle.c_sections.specs.Sections.{used_locals, used_locks}
use Rattle.c_statements.specs.Theory.Chains.{then, more}
use Rattle.c_sections.proofs.sections.push_uses.Goals as goal

pub returns : goal.returns
returns c =
    let old = string_bytes c.args.out.now in
    let a = codes "  (void)s;\n" in
    let b = used_locals c.args.section.now in
    let m1 = string_bytes c.push_str.new.self in
    let m2 = string_bytes c.push_used_locals.new.out in
    then c.push_used_locks.result c.push_used_locks.ensures
    (λ e. more old (a ++ b) (used_locks c.args.count) m2 (string_bytes c.push_used_locks.new.out)
    (more old a b m1 m2 c.in_ok-push_str.ensures.bytes c.in_ok-push_used_locals.ensures) e)
