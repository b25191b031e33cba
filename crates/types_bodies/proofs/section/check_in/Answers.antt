use Rattle.std.proofs.Common.{◌≡◌, subst, ap, ◌∙◌}
use Rattle.std.specs.Prelude.{IfOk, map, option_map}
use Rattle.syntax.specs.Views.{param_of, stmts_of, section_of as section_view}
use Rattle.resolution.specs.CoreViews.{core_section}
use Rattle.resolution.specs.Scopes.{entered}
use Rattle.resolution.specs.Working.TypedStatements.{typed_body}
use Rattle.resolution.specs.Statements.{after_all}
use Rattle.resolution.specs.Working.TypedSections.{core_locals}
use Rattle.types_bodies.specs.Working.Checkers.{scope}
use Rattle.types_bodies.proofs.Blocks.{section_is}
use Rattle.types_bodies.proofs.section.check_in.Goals as goal

pub returns-clause-value : goal.returns-clause-value
returns-clause-value c =
    let start = scope c.args.checker.now in
    let entry = scope c.check_params.new.checker in
    subst (λ x. IfOk c.section_of.result (λ r. option_map core_section r ≡ x))
    (section_is start (section_view c.args.s.now) entry (scope c.check_body.new.checker) _ _
    (c.in_ok-check_params.ensures.scope ∙ ap (λ ps. entered start (map param_of ps)) c.deref.ensures.value)
    (c.in_ok-body.ensures.value ∙ ap (λ ss. typed_body entry (stmts_of ss)) c.deref-2.ensures.value)
    (c.in_ok-body.ensures.scope ∙ ap (λ ss. after_all entry (stmts_of ss)) c.deref-2.ensures.value)
    (c.in-Ok.ensures ∙ ap core_locals c.locals.ensures))
    c.section_of.ensures
