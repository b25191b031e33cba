use Rattle.std.proofs.Common.{◌∙◌, ◌++◌, ℕ, List, string_bytes, ap}
use Rattle.std.specs.Prelude.{codes}
use Rattle.std.specs.Fmt.{decimal}
use Rattle.locks.specs.Texts.{last_name}
use Rattle.c_statements.specs.Theory.Chains.{then, more}
use Rattle.c_statements.specs.Theory.Lines.{pool_line}
use Rattle.c_statements.proofs.class_loops.ClassLoops.push_pool.Goals as goal

pub returns : goal.returns
returns c =
    let x = c.args.self.now in
    let pool = c.args.pool.now in
    let old = string_bytes c.args.out.now in
    let n = decimal pool.length in
    let d = decimal x.number in
    let name = string_bytes pool.name in
    let a = codes " for (int64_t i = 0; i < " ++ (n ++ codes "; i++) { ") in
    let b = codes "h[" ++ (d ++ (codes "] = &s->p_" ++ (name ++ codes "[i].l_"))) in
    let l = last_name x.program.now x.class in
    let z = codes "; " ++ (c.args.called.now ++ (codes "(h[" ++ (d ++ codes "]); }"))) in
    let m1 = string_bytes c.write.new.self in
    let m2 = string_bytes c.write-2.new.self in
    let m3 = string_bytes c.push_last.new.out in
    let new = string_bytes c.write-3.new.self in
    then c.write-3.result c.write-3.ensures.bytes
    (λ e. more old (a ++ b ++ l) z m3 new
    (more old (a ++ b) l m2 m3 (more old a b m1 m2 c.in_ok-write.ensures.bytes c.in_ok-write-2.ensures.bytes) c.in_ok-push_last.ensures) e
    ∙ ap (λ (t : List ℕ). old ++ t) (pool_line (codes " for (int64_t i = 0; i < ") n (codes "; i++) { ") (codes "h[") d (codes "]") (codes " = &s->p_") name
    (codes "[i].l_") l (codes "; ") c.args.called.now (codes "(") (codes "); }")))
