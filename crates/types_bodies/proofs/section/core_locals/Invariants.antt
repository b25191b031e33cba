use Rattle.std.proofs.Common.{◌≡◌, drop}
use Rattle.std.specs.Prelude.{map, option_map}
use Rattle.resolution.specs.CoreViews as core
use Rattle.resolution.specs.Working.TypedSections.{core_locals}
use Rattle.resolution.specs.Working.Building.{joined}
use Rattle.types_symbols.specs.Working.Scoped.{local_seen}
use Rattle.types_bodies.proofs.section.core_locals.Given as goal

abbrev pub invariant-loop-local : goal.invariant-loop-local
invariant-loop-local l = record {
  value : joined (option_map (λ ls. core.core_locals ls.items) l.made) (core_locals (map local_seen (drop l.local-index l.locals))) ≡ core_locals (map local_seen l.locals);
}
