use Rattle.std.proofs.Common.{sym}
use Rattle.types_symbols.specs.Working.Scoped.{scope_of, local_seen}
use Rattle.types_symbols.specs.Working.Views.{decls_of}
use Rattle.types_symbols.proofs.Named.{local_meant}
use Rattle.types_symbols.proofs.scope.meaning_at.Goals as goal

pub returns-then-local : goal.returns-then-local
returns-then-local c =
    sym (local_meant (scope_of (decls_of c.args.symbols.now) c.args.locals.now) c.as_str.result.now _ c.in-Some.place (local_seen c.in-Some.local.now) c.in-Some.ensures c.as_str.ensures.value c.if-local.true)
