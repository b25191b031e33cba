use Rattle.std.proofs.Common.{ap}
use Rattle.lockpaths.specs.Working.Places.{path_at}
use Rattle.lockpaths.specs.Working.Told.{Seen}
use Rattle.lockpaths.proofs.Reading.{number_small}
use Rattle.lockpaths.proofs.found.PathCollector.meet.Goals as goal

pub overflow_cast-number : goal.overflow_cast-number
overflow_cast-number c = record {
  fits = number_small (path_at c.self.inside.forms.paths) c.in-Some-number_of.number c.self.inside.places.items c.args.self.now.gathered.paths c.in-Some-number_of.ensures.within
      (ap (λ (s : Seen). s.gathered.paths) c.self.view_is) c.self.invariant.few;
}
