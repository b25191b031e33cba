-- The locals and scopes that values of the code stand for.
use Rattle.std.specs.Prelude.{◌≡◌, List, Option, map, string_bytes}
use Rattle.core_lang.specs.declared.tree.LocalKind.{LocalKind}
use Rattle.core_lang.specs.declared.value.ValueType.{ValueType}
use Rattle.syntax.specs.Trees.{Decl, Ident}
use Rattle.syntax.specs.Views.{decl_of}
use Rattle.resolution.specs.declared.body_limits.BodyLimits.{BodyLimits}
use Rattle.resolution.specs.Scopes.{Local, Scope, Meaning, a_local, a_decl, nothing, bound}
use Rattle.types_symbols.specs.declared.scope.Local as the_local
use Rattle.types_symbols.specs.declared.scope.ResolvedName as m
use Rattle.types_symbols.specs.declared.scope.ResolvedName.TheVariants as v

abbrev pub local_seen : the_local.Local → Local
local_seen l = record { name = string_bytes l.name; kind = l.kind; value_type = l.value_type; is_visible = l.is_visible }

abbrev pub locals_seen : List the_local.Local → List Local
locals_seen ls = map local_seen ls

-- the locals of a section or a helper so far, its result type, and its limits
pub record KnownLocals : Type 0 where
  pub locals : List Local
  pub result : Option ValueType
  pub limits : BodyLimits

abbrev pub scope_of : List Decl → KnownLocals → Scope
scope_of decls k = record { decls = decls; locals = k.locals; result = k.result; limits = k.limits }

-- a local of this kind, name and type was appended, whatever the declarations
abbrev pub IsBound : KnownLocals → KnownLocals → LocalKind → Ident → Option ValueType → Type 0
IsBound old new kind x t = (decls : List Decl) → scope_of decls new ≡ bound (scope_of decls old) kind x t

abbrev pub meaning_of : m.ResolvedName → Meaning
meaning_of (v.Local i x) = a_local i (local_seen x.now)
meaning_of (v.Decl i d) = a_decl i (decl_of d.now)
meaning_of v.Nothing = nothing
