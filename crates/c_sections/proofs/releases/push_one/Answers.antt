use Rattle.std.proofs.Common.{◌∙◌, ◌++◌, ℕ, List, string_bytes, ap}
use Rattle.std.specs.Prelude.{codes}
use Rattle.std.specs.Fmt.{decimal}
use Rattle.c_statements.specs.Theory.Chains.{then}
use Rattle.c_sections.proofs.Lines.{one_number}
use Rattle.c_sections.proofs.releases.push_one.Goals as goal

pub returns : goal.returns
returns c =
    then c.write.result c.write.ensures.bytes
    (λ e. e ∙ ap (λ (t : List ℕ). string_bytes c.args.out.now ++ t)
    (one_number (codes "AL_UNLOCK(") (codes "h[") (decimal c.args.number) (codes "]") (codes ");")))
