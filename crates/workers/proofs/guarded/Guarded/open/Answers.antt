use Rattle.std.proofs.Common.{sym, subst}
use Rattle.layout.specs.Layouts.{IsLayoutOf}
use Rattle.workers.proofs.guarded.Guarded.open.Goals as goal

pub open-requires : goal.open-requires
open-requires g c =
    let program = c.args.program.now.program in
    (program, subst (IsLayoutOf program) (sym c.layout.ensures) c.expanded-shown.ensures.compiled.laid_out)
