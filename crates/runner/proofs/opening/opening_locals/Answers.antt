use Rattle.std.specs.Prelude.{List, ◌++◌, map, drop, length}
use Rattle.std.proofs.Common.{ap, ◌∙◌}
use Rattle.core_lang.specs.declared.tree.Local.{Local}
use Rattle.core_lang.specs.declared.value.Value.{Value}
use Rattle.core_lang.specs.Whole.{default_local}
use Rattle.runner.proofs.opening.opening_locals.Goals as goal

pub returns : goal.returns
returns c =
    c.in_ok-locals.ensures
    ∙ ap (λ (vs : List Value). vs ++ map default_local (drop (length vs) c.deref.result.now)) c.in_ok-refill.ensures
    ∙ ap (λ (ls : List Local). c.args.arguments.now ++ map default_local (drop (length c.args.arguments.now) ls)) c.deref.ensures.value
