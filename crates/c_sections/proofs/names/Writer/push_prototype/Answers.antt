use Rattle.std.proofs.Common.{◌++◌, string_bytes}
use Rattle.std.specs.Prelude.{codes}
use Rattle.locks.specs.Theory.Written.{piece_added}
use Rattle.c_statements.specs.Names.{own}
use Rattle.c_sections.specs.Sections.{out_text}
use Rattle.c_sections.specs.Working.Prototypes.{head_of, parameters_of}
use Rattle.c_statements.specs.Theory.Chains.{then, more}
use Rattle.c_sections.proofs.names.Writer.push_prototype.Goals as goal

pub returns : goal.returns
returns c =
    let x = c.args.self.now in
    let old = string_bytes c.args.out.now in
    let a = head_of x c.args.section.now in
    let b = codes "(struct " in
    let o = own x.prefix.now (codes "State") in
    let d = codes " *s" in
    let p = parameters_of x c.args.section.now in
    let q = out_text c.args.prints in
    let z = codes ")" in
    let m1 = string_bytes c.push_head.new.out in
    let m2 = string_bytes c.push_str.new.self in
    let m3 = string_bytes c.push_own.new.out in
    let m4 = string_bytes c.push_str-2.new.self in
    let m5 = string_bytes c.push_parameters.new.out in
    let m6 = string_bytes c.push_out.new.out in
    let new = string_bytes c.push_str-3.new.self in
    then c.push_str-3.result (piece_added c.push_str-3.result new m6 z c.push_str-3.ensures.bytes)
    (λ e. more old (a ++ b ++ o ++ d ++ p ++ q) z m6 new (more old (a ++ b ++ o ++ d ++ p) q m5 m6 (more old (a ++ b ++ o ++ d) p m4 m5
    (more old (a ++ b ++ o) d m3 m4 (more old (a ++ b) o m2 m3 (more old a b m1 m2 c.in_ok-push_head.ensures c.in_ok-push_str.ensures.bytes)
    c.in_ok-push_own.ensures) c.in_ok-push_str-2.ensures.bytes) c.in_ok-push_parameters.ensures) c.in_ok-push_out.ensures) e)
