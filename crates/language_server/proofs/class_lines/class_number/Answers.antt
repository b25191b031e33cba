use Rattle.std.proofs.Common.{ℕ, length, sym, ◌∙◌, arith}
use Rattle.std.specs.Str.{bytes_eq}
use Rattle.locks.specs.Texts.{class_name}
use Rattle.language_server.proofs.First.{found_before}
use Rattle.language_server.proofs.class_lines.class_number.Goals as goal

pub returns-then-branch : goal.returns-then-branch
returns-then-branch c =
    found_before (λ (n : ℕ). bytes_eq (class_name c.args.program.now n) c.args.class.now) c.loop-number.number
    (length c.args.program.now.classes.items) c.loop-number.invariant (sym c.in_ok-is_written.ensures ∙ c.if-branch.true)
    (let is = c.len-number-end.ensures in let lt = c.loop-number-test.true in omega arith)
