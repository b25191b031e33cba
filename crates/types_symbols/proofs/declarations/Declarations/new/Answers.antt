use Rattle.std.proofs.Common.{[], ◌∙◌}
use Rattle.resolution.specs.Working.FaultLists.{twice_faults, struct_faults}
use Rattle.types_symbols.specs.Working.Views.{decls_of}
use Rattle.types_symbols.specs.Theory.Steps.{noted_one}
use Rattle.types_symbols.proofs.declarations.Declarations.new.Goals as goal

pub returns-clause-faults : goal.returns-clause-faults
returns-clause-faults c =
    let decls = decls_of c.args.items.now in
    c.in_ok-structs.ensures.faults ∙ noted_one c.args.firsts.now c.check_names.new.firsts (twice_faults [] decls) (struct_faults decls) c.in_ok-names.ensures.faults

pub invariant_of-result : goal.invariant_of-result
invariant_of-result c = (c.in_ok-names.ensures.names, c.in_ok-names.ensures.counts, c.in_ok-structs.ensures.structs)
