-- The expansion of statements, appended to those before.
use Rattle.std.specs.Prelude.{◌≡◌, ℕ, ◌+◌, List, ◌++◌, map, take, length, slice_get, Option, Some, None}
use Rattle.core_lang.specs.declared.tree.Stmt.{Stmt}
use Rattle.core_lang.specs.declared.value.ValueType.{ValueType}
use Rattle.core_lang.specs.declared.tree.Expr.{Expr}
use Rattle.core_lang.specs.declared.tree.Action.{Action, Bind}
use Rattle.core_lang.specs.declared.tree.Local.{Local}
use Rattle.core_lang.specs.declared.tree.Return.{Return}
use Rattle.core_lang.specs.declared.tree.Section.{Section}
use Rattle.core_lang.specs.Expansion.{At, behind_bound, behind_block, one, Renames, Bodies, Writes, WritesAll}
use Rattle.core_lang.specs.Expansion.{WritesBody, HelpersWritten}
use Rattle.core_lang.specs.WrittenLocals.{LocalData, local_data, parameter_data, own_local, hidden_local, Brought}
use Rattle.core_lang.specs.WrittenLocals.{locals_by, locals_in_all, brought}
use Rattle.core_lang_helpers.specs.declared.scope.WrittenScope.{WrittenScope}
use Rattle.core_lang_helpers.specs.declared.body.BodyWriter.{BodyWriter}
use Rattle.core_lang_helpers.specs.Working.Scopes.{at_of}

-- the expansions of the helpers that a body calls
abbrev pub bodies : BodyWriter → Bodies
bodies body = HelpersWritten body.shape.now body.depth

-- the state of the expansion: the next local has the number of locals so far
abbrev pub at : WrittenScope → List Local → At
at scope locals = at_of scope (length locals)

-- the state after a `let` or `var` of this local
abbrev pub HasBound : ℕ → At → At → Type 0
HasBound local a b = (local ≡ a.own) × (b ≡ behind_bound a)

-- an action is expanded to a single one, wherever it starts
abbrev pub WritesOne : Bodies → Action → At → Action → At → Type 0
WritesOne helpers x a y b = (start : ℕ) → Writes helpers x start a (one start y) b

-- an action that binds nothing is expanded to a single one, whatever the number of the next local
abbrev pub WritesAnywhere : Bodies → Action → WrittenScope → Action → Type 0
WritesAnywhere helpers x scope y = (fresh : ℕ) → WritesOne helpers x (at_of scope fresh) y (at_of scope fresh)

-- a `let` or `var` of a local is expanded to this action
abbrev pub WritesBound : ℕ → Expr → At → Action → At → Type 0
WritesBound local e a y b = (e' : Expr) × Renames a.scope e e' × (y ≡ Bind a.fresh e') × HasBound local a b

-- the expansion of a statement was appended
abbrev pub Wrote : Bodies → Stmt → At → List Stmt → List Stmt → At → Type 0
Wrote helpers x a old new b = (ys : List Stmt) × (new ≡ old ++ ys) × Writes helpers x.action x.start a ys b

-- the expansions of statements were appended
abbrev pub WroteAll : Bodies → List Stmt → At → List Stmt → List Stmt → At → Type 0
WroteAll helpers xs a old new b = (ys : List Stmt) × (new ≡ old ++ ys) × WritesAll helpers xs a ys b

-- the expansion of a block, by itself
abbrev pub WroteBlock : Bodies → List Stmt → At → List Stmt → At → Type 0
WroteBlock helpers xs a ys b = (after : At) × WritesAll helpers xs a ys after × (b ≡ behind_block a after)

-- the expansion of a body was appended, and this is its result
abbrev pub WroteBody : Bodies → Section → ℕ → List Stmt → List Stmt → Option Return → ℕ → Type 0
WroteBody helpers section first old new r fresh = (ys : List Stmt) × (new ≡ old ++ ys) × WritesBody helpers section first ys r fresh

-- the state after the `let` of a helper's result, bound or hidden
abbrev pub HasReceived : Option ℕ → At → At → Type 0
HasReceived (Some local) a b = HasBound local a b
HasReceived None a b = b ≡ record a { fresh = a.fresh + 1 }

-- the writer of the helper of this number, called with this number of arguments
pub record IsCallee (body : BodyWriter) (number arguments : ℕ) (helper : BodyWriter) : Type 0 where
  pub shape : helper.shape ≡ body.shape
  pub depth : body.depth ≡ helper.depth + 1
  pub found : slice_get body.shape.now.helpers.items number ≡ Some helper.section.now
  pub count : arguments ≡ helper.section.now.parameters

-- ---- the new locals

-- the locals that the helpers called by a body bring
abbrev pub brings : BodyWriter → ℕ → Brought
brings body = brought body.depth body.shape.now

-- these locals were appended
abbrev pub HasMore : List Local → List Local → List LocalData → Type 0
HasMore old new more = map local_data new ≡ map local_data old ++ more

-- the local of a body with this number
abbrev pub local_at : BodyWriter → ℕ → List LocalData
local_at body local = own_local (slice_get body.section.now.locals.items local)

-- the locals that an action binds in the expansion
abbrev pub locals_of : BodyWriter → Action → List LocalData
locals_of body action = locals_by (brings body) body.section.now.locals.items action

abbrev pub locals_of_all : BodyWriter → List Stmt → List LocalData
locals_of_all body statements = locals_in_all (brings body) body.section.now.locals.items statements

-- the local that a helper's result is bound to, or a hidden one
abbrev pub received : BodyWriter → Option ℕ → Option ValueType → List LocalData
received body (Some local) t = local_at body local
received body None t = hidden_local t

-- the parameters of a section, as they are
abbrev pub kept_parameters : Section → List LocalData
kept_parameters section = map local_data (take section.parameters section.locals.items)

abbrev pub taken_parameters : Section → List LocalData
taken_parameters section = map parameter_data (take section.parameters section.locals.items)
