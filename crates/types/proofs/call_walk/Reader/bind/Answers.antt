use Rattle.std.proofs.Common.{ap, ◌∙◌}
use Rattle.types_symbols.specs.{decls_of}
use Rattle.types_symbols.specs.Theory.Steps.{on_ok_by}
use Rattle.syntax.specs.Views.{ident}
use Rattle.resolution.specs.Scopes.{bound}
use Rattle.types.specs.Working.Walks.{scope_at}
use Rattle.types.proofs.call_walk.Reader.bind.Goals as goal

pub returns : goal.returns
returns c =
    on_ok_by c.bind.result
    (λ is. is (decls_of c.args.self.now.symbols.now) ∙ ap (bound (scope_at c.args.self.now c.args.locals.now) c.args.kind (ident c.args.name.now)) c.type_at-value_type.ensures)
    c.bind.ensures
