use Rattle.std.proofs.Common.{◌∙◌, ◌+◌, ◌++◌, ℕ, List, string_bytes, ap}
use Rattle.std.specs.Prelude.{codes}
use Rattle.std.specs.Fmt.{decimal}
use Rattle.c_statements.specs.Theory.Chains.{then}
use Rattle.c_statements.specs.Theory.Lines.{two_numbers}
use Rattle.c_statements.proofs.acquires.push_exchange.Goals as goal

pub returns : goal.returns
returns c =
    then c.write.result c.write.ensures.bytes
    (λ e. e ∙ ap (λ (t : List ℕ). string_bytes c.args.out.now ++ t)
    (two_numbers (codes "  AL_ORDER(m[") (codes "]") (codes "\n") (decimal c.args.place) (codes ", ") (codes "m[") (decimal (c.args.place + 1)) (codes ");")))
