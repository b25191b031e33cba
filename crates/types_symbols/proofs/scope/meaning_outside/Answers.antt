use Rattle.std.proofs.Common.{ap, sym, refl}
use Rattle.syntax.specs.Views.{decl_of}
use Rattle.resolution.specs.Scopes.{the_decl, declared_as}
use Rattle.types_symbols.specs.Working.Views.{decls_of}
use Rattle.types_symbols.specs.Theory.Steps.{found_as, missed_as}
use Rattle.types_symbols.proofs.scope.meaning_outside.Goals as goal

pub returns-in-Some : goal.returns-in-Some
returns-in-Some c =
    sym (ap declared_as (found_as decl_of (the_decl (decls_of c.args.symbols.now)) c.as_str.result.now _ c.as_str.ensures.value c.in-Some.place c.in-Some.decl.now c.in-Some.decl.now c.in-Some.ensures refl))

pub returns-in-None : goal.returns-in-None
returns-in-None c = sym (ap declared_as (missed_as decl_of (the_decl (decls_of c.args.symbols.now)) c.as_str.result.now _ c.as_str.ensures.value c.in-None.ensures))
