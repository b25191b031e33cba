use Rattle.std.proofs.Common.{string_bytes, append_assoc}
use Rattle.std.specs.Prelude.{codes}
use Rattle.locks.specs.Theory.Written.{piece_added}
use Rattle.c_statements.specs.Theory.Chains.{then}
use Rattle.c_statements.proofs.operands.OperandScope.push_check.Goals as goal

pub returns : goal.returns
returns c =
    then c.push_str-4.result
    (piece_added c.push_str-4.result (string_bytes c.push_str-4.new.self) (string_bytes c.push_between.new.out)
    (codes ");\n") c.push_str-4.ensures.bytes)
    (λ e. simp append_assoc (simp (
      c.in_ok-push_between.ensures,
      c.in_ok-push_str-3.ensures.bytes,
      c.in_ok-push_temporary.ensures,
      c.in_ok-push_str-2.ensures.bytes,
      c.in_ok-push_str.ensures.bytes,
      c.checked_word.ensures,
      append_assoc,
    ) at e))
