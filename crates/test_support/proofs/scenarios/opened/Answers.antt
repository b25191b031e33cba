use Rattle.std.proofs.Common.{sym, subst}
use Rattle.layout.specs.Layouts.{LayoutOf, IsLayoutOf}
use Rattle.test_support.proofs.scenarios.opened.Goals as goal

pub open-requires : goal.open-requires
open-requires c =
    let program = c.args.program.now.program in
    (program, subst (λ (layout : LayoutOf). IsLayoutOf program layout) (sym c.layout.ensures) c.expanded-shown.ensures.compiled.laid_out)
