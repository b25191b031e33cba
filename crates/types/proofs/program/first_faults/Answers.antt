use Rattle.std.proofs.Common.{ap, ◌∙◌}
use Rattle.resolution.specs.Working.Findings.{Firsts}
use Rattle.std.specs.Prelude.{map}
use Rattle.syntax.specs.Views.{tree_of, decl_of}
use Rattle.types_symbols.specs.Working.Views.{decls_of}
use Rattle.types.proofs.Checked.{firsts_after, whole_firsts}
use Rattle.types.proofs.program.first_faults.Goals as goal

pub returns : goal.returns
returns c =
    let ds = tree_of c.args.tree.now in
    let items = ap (map decl_of) c.deref.ensures.value in
    whole_firsts ds (decls_of c.in_ok-symbols.symbols) c.new.new.firsts c.check_all.new.firsts (ap (map decl_of) c.in_ok-symbols.ensures.items ∙ items) (c.in_ok-symbols.ensures.faults ∙ ap (firsts_after c.new-firsts.result) items ∙ ap (λ (s : Firsts). firsts_after s ds) c.new-firsts.ensures) c.in_ok-check_all.ensures.faults
