use Rattle.std.proofs.Common.{◌∙◌}
use Rattle.core_lang.specs.declared.value.ValueType.TheVariants.{Integer}
use Rattle.syntax.specs.Views.{ident, expr_of}
use Rattle.resolution.specs.declared.wanted.Want.TheVariants.{Value}
use Rattle.resolution.specs.Working.FaultLists.{wanted_faults}
use Rattle.types_bodies.specs.Working.Checkers.{scope}
use Rattle.types_bodies.proofs.Elements.{assigned_seen, assigned_blamed}
use Rattle.types_bodies.proofs.target.element_target.Goals as goal

pub returns-clause-value : goal.returns-clause-value
returns-clause-value c =
    c.assigned_at.ensures ∙ assigned_seen (scope c.args.checker.now).decls _ _ _ _ _ c.meaning.ensures c.array_at-array.ensures.value c.in_ok-index.ensures.value

pub returns-clause-faults : goal.returns-clause-faults
returns-clause-faults c =
    let sc = scope c.args.checker.now in
    let x = c.args.element.now in
    c.in_ok-index.ensures.faults
    ∙ assigned_blamed sc.decls (ident x.name).span.start _ _ _ _ (wanted_faults sc (Value Integer) (expr_of x.index)) c.meaning.ensures c.array_at-array.ensures.faults
