-- What a reason names: the kind of an expression, and what a name refers to.
use Rattle.syntax.specs.Trees.{Decl, lock, struct, global, array, pool, init, atomic, helper, thread}
use Rattle.resolution.specs.declared.why.Kind.{Kind}
use Rattle.resolution.specs.declared.why.Kind.TheVariants as kind
use Rattle.resolution.specs.declared.why.Referent.{Referent}
use Rattle.resolution.specs.declared.why.Referent.TheVariants as stands
use Rattle.resolution.specs.Scopes.{Meaning, a_local, a_decl, nothing}
use Rattle.resolution.specs.Expressions.{ResolvedExpr, value, truth}

-- the kind of an expression
abbrev pub kind_of : ResolvedExpr → Kind
kind_of (value e s) = kind.Value s
kind_of (truth c) = kind.Condition

-- what the name of a declaration refers to
abbrev pub referent_of : Decl → Referent
referent_of (lock x) = stands.Lock
referent_of (struct s) = stands.Struct
referent_of (global v) = stands.Global
referent_of (array a) = stands.Array
referent_of (pool p) = stands.Pool
referent_of (init i) = stands.Nothing
referent_of (atomic s) = stands.Section
referent_of (helper s) = stands.Helper
referent_of (thread t) = stands.Thread

-- what a name refers to
abbrev pub stands_for : Meaning → Referent
stands_for (a_local i l) = stands.Local l.kind
stands_for (a_decl i d) = referent_of d
stands_for nothing = stands.Nothing
