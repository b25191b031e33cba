use Rattle.std.proofs.Common.{sym, ◌∙◌}
use Rattle.std.specs.Prelude.{map}
use Rattle.std.proofs.lemmas.List.{length-map}
use Rattle.syntax.specs.Views.{section_of, expr_of, param_of, helper_call_of}
use Rattle.types_bodies.specs.Working.Checkers.{scope}
use Rattle.types_bodies.specs.Working.Calls.{helper_named}
use Rattle.types_bodies.proofs.Calls.{none_passed}
use Rattle.types_bodies.proofs.call.passed.Goals as goal

pub returns-then-len-clause-value : goal.returns-then-len-clause-value
returns-then-len-clause-value c =
    let sc = scope c.args.checker.now in
    let h = c.in-Some.helper.now in
    let es = c.args.c.now.arguments.items in
    none_passed sc (helper_named sc (helper_call_of c.args.c.now)) c.in-Some.field-0-0 (section_of h) (map expr_of es) c.in-Some.ensures
    (λ even. c.if-len.true (c.len.ensures ∙ h.params.ok.0 ∙ sym (length-map h.params.items param_of) ∙ even ∙ length-map es expr_of ∙ sym c.args.c.now.arguments.ok.0 ∙ sym c.len-2.ensures))
