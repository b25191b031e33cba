use Rattle.std.proofs.Common.{ap, ◌∙◌}
use Rattle.core_lang.specs.declared.tree.LocalKind.TheVariants.{Parameter}
use Rattle.syntax.specs.Views.{param_of}
use Rattle.resolution.specs.Scopes.{bound}
use Rattle.types_symbols.specs.{decls_of}
use Rattle.types_symbols.specs.Theory.Steps.{param_step}
use Rattle.types.specs.Working.Walks.{scope_at}
use Rattle.types.proofs.call_walk.Reader.params.Goals as goal

pub loop-param-preserved : goal.loop-param-preserved
loop-param-preserved c =
    let reader = c.args.self.now in
    let sc = scope_at reader c.loop-param.locals in
    let sc' = scope_at reader c.bind.new.self in
    let x = c.param-item.result in
    param_step sc sc' _ c.args.params.now c.loop-param.param-index x c.loop-param-test.true c.param-item.is
    (c.in_ok-bind.ensures (decls_of reader.symbols.now) ∙ ap (bound sc Parameter (param_of x).name) c.type_outside-value_type.ensures) c.loop-param.invariant
