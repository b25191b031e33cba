use Rattle.std.proofs.Common.{ap, ◌∙◌}
use Rattle.syntax.specs.Views.{ident}
use Rattle.resolution.specs.Scopes.{bound}
use Rattle.types_symbols.specs.{decls_of}
use Rattle.types_symbols.specs.Theory.Steps.{on_ok_by}
use Rattle.types_bodies.specs.Working.Checkers.{scope}
use Rattle.types_bodies.proofs.checker.Checker.bind.Goals as goal

pub returns : goal.returns
returns c =
    on_ok_by c.bind.result
    (λ is. is (decls_of c.self.inside.symbols.now) ∙ ap (λ k. bound (scope k) c.args.kind (ident c.args.name.now) c.args.value_type) c.self.view_is)
    c.bind.ensures
