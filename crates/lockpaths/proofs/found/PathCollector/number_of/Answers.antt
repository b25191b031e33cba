use Rattle.std.proofs.Common.{ap}
use Rattle.lockpaths.specs.Working.Places.{path_at}
use Rattle.lockpaths.specs.Working.Told.{Seen}
use Rattle.lockpaths.proofs.Reading.{below_all}
use Rattle.lockpaths.proofs.found.PathCollector.number_of.Goals as goal

pub returns-then-is_same-clause-within : goal.returns-then-is_same-clause-within
returns-then-is_same-clause-within c =
    below_all (path_at c.self.inside.forms.paths) c.loop-k.k c.len-k-end.result _ c.self.inside.places.items c.args.self.now.gathered.paths c.loop-k-test.true c.len-k-end.ensures c.self.inside.places.ok.0
    (ap (λ (s : Seen). s.gathered.paths) c.self.view_is)
