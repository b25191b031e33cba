-- The resolved form of expressions, and where paths lead.
use Rattle.std.specs.Prelude.{ℕ, min, Bool, true, false, List, [], ◌∷◌, ◌++◌, ◌==◌, Option, Some, None}
use Rattle.syntax.specs.declared.tree.Operator as syntax_operator
use Rattle.syntax.specs.declared.tree.Operator.TheVariants as op
use Rattle.syntax.specs.declared.tree.Level.{Level}
use Rattle.syntax.specs.declared.tree.Level.TheVariants.{Term, Sum}
use Rattle.syntax.specs.declared.tree.Comparison as written
use Rattle.syntax.specs.declared.tree.Comparison.TheVariants as sign
use Rattle.syntax.specs.Trees.{Ident, ref_type, Decl, Member, lock_member, final_member, field_member, Struct}
use Rattle.core_lang.specs.declared.value.ValueType as core_type
use Rattle.core_lang.specs.declared.value.ValueType.TheVariants.{Integer, Reference}
use Rattle.core_lang.specs.declared.tree.Operator.{Operator}
use Rattle.core_lang.specs.declared.tree.Operator.TheVariants.{Add, Sub, Mul, Div, Rem}
use Rattle.core_lang.specs.declared.tree.Comparison.{Comparison}
use Rattle.core_lang.specs.declared.tree.Comparison.TheVariants.{Equal, NotEqual, Less, LessOrEqual, Greater}
use Rattle.core_lang.specs.declared.tree.Comparison.TheVariants.{GreaterOrEqual}
use Rattle.core_lang.specs.declared.tree.FieldStep.{FieldStep}
use Rattle.core_lang.specs.declared.tree.FieldStep.TheVariants as step
use Rattle.resolution.specs.declared.wanted.Sort.{Sort}
use Rattle.resolution.specs.declared.wanted.Sort.TheVariants as sort
use Rattle.resolution.specs.declared.wanted.Want.{Want}
use Rattle.resolution.specs.declared.wanted.Want.TheVariants.{Anything, Condition, Value}
use Rattle.resolution.specs.Core as core
use Rattle.resolution.specs.Limits.{MEMBER_LIMIT, CELL_LIMIT}
use Rattle.resolution.specs.Scopes.{outside, Meaning, a_local, a_decl, nothing, the_struct, the_member, number_in}
use Rattle.resolution.specs.Scopes.{type_of}
use Rattle.resolution.specs.Numbers.{cells_ahead}

-- ---- what is found, and what is expected

-- the resolved form of an expression: a value of a sort, or a condition
pub data ResolvedExpr : Type 0 where
  value : core.Expr → Sort → ResolvedExpr
  truth : core.Condition → ResolvedExpr

-- a value of this sort is one of the type
abbrev pub fits_type : core_type.ValueType → Sort → Bool
fits_type Integer (sort.Of Integer) = true
fits_type Integer (sort.Of (Reference s)) = false
fits_type Integer sort.Null = false
fits_type (Reference s) (sort.Of Integer) = false
fits_type (Reference s) (sort.Of (Reference r)) = s == r
fits_type (Reference s) sort.Null = true

-- a value of this sort is expected
abbrev pub fits_sort : Want → Sort → Bool
fits_sort Anything s = true
fits_sort Condition s = false
fits_sort (Value t) s = fits_type t s

-- an expression of this form is expected
abbrev pub fits : Want → ResolvedExpr → Bool
fits w (value e s) = fits_sort w s
fits Anything (truth c) = true
fits Condition (truth c) = true
fits (Value t) (truth c) = false

-- the sorts that `==` takes: two of one type, and null with a reference or null
abbrev pub alike_sorts : Sort → Sort → Bool
alike_sorts (sort.Of t) s = fits_type t s
alike_sorts sort.Null sort.Null = true
alike_sorts sort.Null (sort.Of Integer) = false
alike_sorts sort.Null (sort.Of (Reference r)) = true

-- the expectation of a value for a place of this type; anything, if the type has a fault
abbrev pub want : Option core_type.ValueType → Want
want (Some t) = Value t
want None = Anything

-- ---- numbers, names and elements

-- the path from a local that starts at this byte
abbrev pub local_path : ℕ → ℕ → List FieldStep → core.Path
local_path start i steps = record { start = start; local = i; fields = steps; in_parentheses = false }

-- the cell of the global at this place; past the limit all have one number, and the program has a fault
abbrev pub cell_of : List Decl → ℕ → ℕ
cell_of decls i = min (cells_ahead decls i) CELL_LIMIT

-- an expression in parentheses; a local or a path is marked, since it is then not a stable path
abbrev pub marked : ResolvedExpr → ResolvedExpr
marked (value (core.place p) s) = value (core.place (record p { in_parentheses = true })) s
marked r = r

-- ---- paths

-- where fields lead: to a value over these steps, to a lock, or nowhere
pub data Walk : Type 0 where
  reached : List FieldStep → core_type.ValueType → Walk
  at_lock : Walk
  lost : Walk

-- the number of a member; past the limit all have one number, and the program has a fault
abbrev pub member_number : List Member → ℕ → Member → ℕ
member_number ms i m = min (number_in ms i m) MEMBER_LIMIT

-- over a step to a value, if its type has no fault
abbrev pub over_step : List FieldStep → FieldStep → Option core_type.ValueType → Walk
over_step steps s (Some t) = reached (steps ++ s ∷ []) t
over_step steps s None = lost

-- over a member of the struct k, which has these members
abbrev pub over_member : List Decl → List FieldStep → ℕ → List Member → Option (ℕ × Member) → Walk
over_member decls steps k ms (Some (i, lock_member x)) = at_lock
over_member decls steps k ms (Some (i, final_member f)) =
    over_step steps (step.Final k (member_number ms i (final_member f))) (type_of (outside decls) (ref_type f.target))
over_member decls steps k ms (Some (i, field_member f)) =
    over_step steps (step.Field k (member_number ms i (field_member f))) (type_of (outside decls) f.value_type)
over_member decls steps k ms None = lost

-- over the member of this name of the struct k
abbrev pub over : List Decl → List FieldStep → ℕ → Option Struct → List ℕ → Walk
over decls steps k (Some s) q = over_member decls steps k s.members (the_member s.members q)
over decls steps k None q = lost

-- over one field
abbrev pub stepped : List Decl → Walk → Ident → Walk
stepped decls (reached steps (Reference k)) f = over decls steps k (the_struct decls k) f.text
stepped decls (reached steps Integer) f = lost
stepped decls at_lock f = lost
stepped decls lost f = lost

-- over fields, one after another
abbrev pub walked : List Decl → Walk → List Ident → Walk
walked decls w [] = w
walked decls w (f ∷ fs) = walked decls (stepped decls w f) fs

-- at the local itself
abbrev pub at_local : Option core_type.ValueType → Walk
at_local (Some t) = reached [] t
at_local None = lost

-- where a local and its fields lead
abbrev pub walk_from : List Decl → Meaning → List Ident → Walk
walk_from decls (a_local i l) fs = walked decls (at_local l.value_type) fs
walk_from decls (a_decl i d) fs = lost
walk_from decls nothing fs = lost

-- ---- operators

-- the operator between two numbers
abbrev pub operator_of : syntax_operator.Operator → Option Operator
operator_of op.Add = Some Add
operator_of op.Sub = Some Sub
operator_of op.Mul = Some Mul
operator_of op.Div = Some Div
operator_of op.Rem = Some Rem
operator_of op.And = None
operator_of op.Or = None

-- the operators of this level take numbers
abbrev pub IsOfNumbers : Level → Type 0
IsOfNumbers Term = Unit {0}
IsOfNumbers Sum = Unit {0}
IsOfNumbers _ = ⊥

-- the comparison of two values
abbrev pub comparison_of : written.Comparison → Comparison
comparison_of sign.Equal = Equal
comparison_of sign.NotEqual = NotEqual
comparison_of sign.Less = Less
comparison_of sign.LessOrEqual = LessOrEqual
comparison_of sign.Greater = Greater
comparison_of sign.GreaterOrEqual = GreaterOrEqual

-- the comparison is `==` or `!=`
abbrev pub IsEquality : written.Comparison → Type 0
IsEquality sign.Equal = Unit {0}
IsEquality sign.NotEqual = Unit {0}
IsEquality _ = ⊥
