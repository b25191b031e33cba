use Rattle.std.proofs.Common.{ap, ◌∙◌}
use Rattle.std.specs.Prelude.{map}
use Rattle.syntax.specs.Views.{ident}
use Rattle.resolution.specs.Working.TypedExpressions.{path_value}
use Rattle.resolution.specs.Expressions.{walk_from}
use Rattle.types_symbols.specs.{meaning_of}
use Rattle.types_bodies.specs.Working.Checkers.{scope}
use Rattle.types_bodies.proofs.checker.Checker.path.Goals as goal

pub returns-clause-value : goal.returns-clause-value
returns-clause-value c =
    let ds = (scope c.args.self.now).decls in
    let path = c.args.path.now in
    let start = (ident path.first).span.start in
    let m = meaning_of c.meaning-m.result in
    c.path_value.ensures
    ∙ ap (path_value start m) (c.in_ok-w.ensures.value ∙ ap (λ fs. walk_from ds m (map ident fs)) c.deref.ensures.value)
    ∙ ap (λ k. path_value start k (walk_from ds k (map ident path.fields.items))) c.meaning-m.ensures
