use Rattle.std.proofs.Common.{◌∙◌, ◌++◌, ℕ, List, string_bytes, ap}
use Rattle.std.specs.Prelude.{codes}
use Rattle.std.specs.Fmt.{decimal}
use Rattle.c_statements.specs.Theory.Chains.{then}
use Rattle.c_statements.specs.Theory.Lines.{three_numbers}
use Rattle.c_statements.proofs.acquires.push_keep.Goals as goal

pub returns : goal.returns
returns c =
    let d = decimal c.args.place in
    then c.write.result c.write.ensures.bytes
    (λ e. e ∙ ap (λ (t : List ℕ). string_bytes c.args.out.now ++ t)
    (three_numbers (codes "  if (m[") (codes "]") (codes "\n") d (codes " != NULL) ") (codes "h[") (decimal c.args.number) (codes " = ") (codes "m[") d (codes ";")))
