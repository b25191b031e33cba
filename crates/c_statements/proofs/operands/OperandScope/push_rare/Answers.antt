use Rattle.std.proofs.Common.{◌++◌, string_bytes}
use Rattle.std.specs.Prelude.{codes}
use Rattle.locks.specs.Theory.Written.{piece_added}
use Rattle.c_statements.specs.Working.Views.{condition_of}
use Rattle.c_statements.specs.Theory.Chains.{then, more}
use Rattle.c_statements.proofs.operands.OperandScope.push_rare.Goals as goal

pub returns : goal.returns
returns c =
    let old = string_bytes c.args.out.now in
    let a = codes "if (AL_RARE(" in
    let t = condition_of c.args.self.now c.args.test in
    let z = codes ")) AL_TRAP(" in
    let m = string_bytes c.push_condition.new.out in
    let new = string_bytes c.push_str-2.new.self in
    then c.push_str-2.result (piece_added c.push_str-2.result new m z c.push_str-2.ensures.bytes)
    (λ e. more old (a ++ t) z m new
    (more old a t (string_bytes c.push_str.new.self) m c.in_ok-push_str.ensures.bytes c.in_ok-push_condition.ensures) e)
