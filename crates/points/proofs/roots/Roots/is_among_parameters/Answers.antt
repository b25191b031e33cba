use Rattle.std.proofs.Common.{◌∙◌, sym, ap}
use Rattle.core_lang.specs.Scopes.{numbers_from}
use Rattle.points.specs.Working.Scoping.{is_among}
use Rattle.points.proofs.Scopings.{among_parameters}
use Rattle.points.proofs.roots.Roots.is_among_parameters.Goals as goal

pub returns-in-Local : goal.returns-in-Local
returns-in-Local c = among_parameters c.in-Local.local c.args.parameters ∙ ap (is_among (numbers_from 0 c.args.parameters)) (sym c.in-Local.is)
