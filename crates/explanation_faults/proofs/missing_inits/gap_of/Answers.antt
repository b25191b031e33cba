use Rattle.syntax.specs.Views.{pool_of, struct_of}
use Rattle.types_symbols.specs.Working.Views.{decls_of}
use Rattle.explanation_faults.proofs.MissingInits.{gap_found}
use Rattle.explanation_faults.proofs.missing_inits.gap_of.Goals as goal

pub returns : goal.returns
returns c =
    gap_found (decls_of c.args.symbols.now) c.args.place (pool_of c.args.pool.now) c.args.at _ (struct_of c.in_ok-structure.structure.now) c.if-pool-at.false
    c.in_ok-structure.ensures c.missing_final.result c.missing_final.ensures
