-- Arrays and pools, and what they have at an index.
use Rattle.std.specs.Prelude.{ℕ, List, Option, Some, None}
use Rattle.syntax.specs.Trees.{ref_type, Decl, array, pool}
use Rattle.core_lang.specs.declared.value.ValueType.{ValueType}
use Rattle.resolution.specs.declared.wanted.Sort.TheVariants as sort
use Rattle.resolution.specs.Core as core
use Rattle.resolution.specs.Scopes.{outside, Meaning, a_decl, number_at, type_of}
use Rattle.resolution.specs.Expressions.{ResolvedExpr, value}
use Rattle.types_bodies.specs.declared.place.Indexed.{Indexed}
use Rattle.types_bodies.specs.declared.place.Indexed.TheVariants.{Array, Pool}

-- an array or a pool with this type, if the type has no fault
abbrev pub of_type : (ValueType → Indexed) → Option ValueType → Option Indexed
of_type make (Some t) = Some (make t)
of_type make None = None

-- the array or pool that a name refers to
abbrev pub indexed_by : List Decl → Meaning → Option Indexed
indexed_by decls (a_decl i (array a)) = of_type (Array (number_at decls i (array a))) (type_of (outside decls) a.value_type)
indexed_by decls (a_decl i (pool p)) = of_type (Pool (number_at decls i (pool p))) (type_of (outside decls) (ref_type p.target))
indexed_by decls _ = None

-- the value at an index
abbrev pub element_by : ℕ → Option Indexed → Option core.Expr → Option ResolvedExpr
element_by start (Some (Array n t)) (Some index) = Some (value (core.element start n index) (sort.Of t))
element_by start (Some (Pool n t)) (Some index) = Some (value (core.member n index) (sort.Of t))
element_by start (Some x) None = None
element_by start None index = None
