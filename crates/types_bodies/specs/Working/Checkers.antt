-- The model of a checker: the declarations, and the locals so far.
use Rattle.std.specs.Prelude.{List, Option}
use Rattle.core_lang.specs.declared.value.ValueType.{ValueType}
use Rattle.syntax.specs.declared.tree.Decl.{Decl}
use Rattle.resolution.specs.declared.body_limits.BodyLimits.{BodyLimits}
use Rattle.resolution.specs.Scopes.{Local, Scope}
use Rattle.types_symbols.specs.Working.Views.{decls_of}

-- a scope, with the declarations as they are written
pub record Known : Type 0 where
  pub decls : List Decl
  pub locals : List Local
  pub result : Option ValueType
  pub limits : BodyLimits

abbrev pub scope : Known → Scope
scope k = record { decls = decls_of k.decls; locals = k.locals; result = k.result; limits = k.limits }
