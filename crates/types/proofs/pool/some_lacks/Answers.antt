use Rattle.std.proofs.Common.{arith, sym, ◌≡◌, false}
use Rattle.std.proofs.lemmas.Grind.{common_steps}
use Rattle.std.specs.Prelude.{is_some}
use Rattle.resolution.specs.Constants.{given}
use Rattle.types_symbols.specs.Working.Views.{decls_of}
use Rattle.types.proofs.Objects.{lacking}
use Rattle.types.proofs.pool.some_lacks.Goals as goal

pub returns-then-is_none : goal.returns-then-is_none
returns-then-is_none c =
    let ds = decls_of c.args.symbols.now in
    let none : is_some (given ds (record { pool = c.args.pool; index = c.loop-index.index; member = c.args.member })) ≡ false = grind (arith, common_steps) in
    sym (lacking ds c.args.pool c.args.member c.loop-index.index c.args.count c.loop-index-test.true none)
