use Rattle.std.proofs.Common.{ap}
use Rattle.std.specs.Prelude.{map, option_map}
use Rattle.syntax.specs.Views.{ident}
use Rattle.types_bodies.specs.Working.Checkers.{scope}
use Rattle.types_bodies.specs.Working.Targets.{assignee_of}
use Rattle.types_bodies.proofs.Lasts.{along_seen, along_blamed}
use Rattle.types_bodies.proofs.target.path_target.Goals as goal

pub returns-clause-value : goal.returns-clause-value
returns-clause-value c =
    along_seen (scope c.args.checker.now).decls (ident c.args.path.now.first).span.start _ _ _ _ _ c.meaning-m.ensures (ap (map ident) c.deref.ensures.value) c.in_ok-w.ensures.value
    (option_map assignee_of c.assignee_along.result) c.assignee_along.ensures.value

pub returns-clause-faults : goal.returns-clause-faults
returns-clause-faults c =
    along_blamed (scope c.args.checker.now).decls (ident c.args.path.now.first).span.start _ _ _ _ _ c.meaning-m.ensures (ap (map ident) c.deref.ensures.value) c.in_ok-w.ensures.value
    _ _ _ c.in_ok-w.ensures.faults c.assignee_along.ensures.faults
