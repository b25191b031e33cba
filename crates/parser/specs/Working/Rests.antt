-- What follows the words `pool` and `init`, each read as the declaration that it is.
use Rattle.std.specs.Prelude.{ℕ, Ok}
use Rattle.source.specs.declared.span.Span.{Span}
use Rattle.syntax.specs.Trees.{Decl, pool, init}
use Rattle.parser.specs.Working.Reading.{◌>>=◌, Reader}
use Rattle.parser.specs.Working.Declarations.{pool_at, init_at}

abbrev pub pool_decl : ℕ → Reader Decl
pool_decl room ts = do
  p ← pool_at room ts
  Ok (pool p.0, p.1)

abbrev pub init_decl : ℕ → Span → Reader Decl
init_decl room start ts = do
  i ← init_at room start ts
  Ok (init i.0, i.1)
