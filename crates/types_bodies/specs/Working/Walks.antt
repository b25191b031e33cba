-- Walks along fields, as values of this crate stand for them.
use Rattle.std.specs.Prelude.{ℕ, List, map}
use Rattle.resolution.specs.declared.finding.Finding.{Finding}
use Rattle.core_lang.specs.declared.tree.FieldStep.{FieldStep}
use Rattle.syntax.specs.declared.tree.Name.{Name}
use Rattle.syntax.specs.Trees.{Ident, Decl}
use Rattle.syntax.specs.Views.{ident}
use Rattle.resolution.specs.Scopes.{Meaning, the_struct}
use Rattle.resolution.specs.Expressions.{Walk, reached, at_lock, lost, over}
use Rattle.resolution.specs.Working.FaultLists.{walk_faults, path_faults}
use Rattle.types_bodies.specs.declared.place.Walk as w
use Rattle.types_bodies.specs.declared.place.Walk.TheVariants as u

abbrev pub walk_of : w.Walk → Walk
walk_of (u.Reached steps t) = reached steps.items t
walk_of u.AtLock = at_lock
walk_of u.Lost = lost

-- a walk over a field, after steps to an object of the struct with this number
abbrev pub over_field : List Decl → List FieldStep → ℕ → Ident → Walk
over_field decls steps structure f = over decls steps structure (the_struct decls structure) f.text

-- the faults of fields, after a walk to them
abbrev pub fields_faults : List Decl → ℕ → Walk → List Name → List Finding
fields_faults decls start w fields = walk_faults decls start w (map ident fields)

abbrev pub way_faults : List Decl → ℕ → Meaning → List Name → List Finding
way_faults decls start m fields = path_faults decls start m (map ident fields)
