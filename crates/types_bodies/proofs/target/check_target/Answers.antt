use Rattle.std.proofs.Common.{◌≡◌, ap, sym, subst, ◌∙◌}
use Rattle.std.specs.Prelude.{IfOk, OnOk, option_map}
use Rattle.syntax.specs.Views.{ident, element_of, path_of, place_of}
use Rattle.resolution.specs.Working.TypedStatements.{assignee_at, target_of}
use Rattle.resolution.specs.Working.Findings.{found_in}
use Rattle.resolution.specs.Working.FaultLists.{no_target, target_faults}
use Rattle.types_bodies.specs.Working.Checkers.{scope}
use Rattle.types_bodies.specs.Working.Targets.{assignee_of}
use Rattle.types_bodies.proofs.target.check_target.Goals as goal

pub returns-in-Name-clause-value : goal.returns-in-Name-clause-value
returns-in-Name-clause-value c =
    let sc = scope c.args.checker.now in
    c.assignee_at.ensures.value ∙ ap (assignee_at sc.decls) c.meaning.ensures ∙ sym (ap (λ p. target_of sc (place_of p)) c.in-Name.is)

pub returns-in-Name-clause-faults : goal.returns-in-Name-clause-faults
returns-in-Name-clause-faults c =
    let sc = scope c.args.checker.now in
    c.assignee_at.ensures.faults ∙ ap (λ m. found_in c.args.firsts.now (no_target sc.decls (ident c.in-Name.name).span.start m)) c.meaning.ensures
    ∙ sym (ap (λ p. found_in c.args.firsts.now (target_faults sc (place_of p))) c.in-Name.is)

pub returns-in-Element-clause-value : goal.returns-in-Element-clause-value
returns-in-Element-clause-value c =
    subst (λ p. IfOk c.element_target.result (λ r. option_map assignee_of r ≡ target_of (scope c.args.checker.now) p)) (ap element_of c.deref.ensures ∙ sym (ap place_of c.in-Element.is)) c.element_target.ensures.value

pub returns-in-Element-clause-faults : goal.returns-in-Element-clause-faults
returns-in-Element-clause-faults c =
    subst (λ p. OnOk c.element_target.result (c.element_target.new.firsts ≡ found_in c.args.firsts.now (target_faults (scope c.args.checker.now) p))) (ap element_of c.deref.ensures ∙ sym (ap place_of c.in-Element.is)) c.element_target.ensures.faults

pub returns-in-Path-clause-value : goal.returns-in-Path-clause-value
returns-in-Path-clause-value c =
    subst (λ p. IfOk c.path_target.result (λ r. option_map assignee_of r ≡ target_of (scope c.args.checker.now) p)) (ap path_of c.deref-in-Path.ensures ∙ sym (ap place_of c.in-Path.is)) c.path_target.ensures.value

pub returns-in-Path-clause-faults : goal.returns-in-Path-clause-faults
returns-in-Path-clause-faults c =
    subst (λ p. OnOk c.path_target.result (c.path_target.new.firsts ≡ found_in c.args.firsts.now (target_faults (scope c.args.checker.now) p))) (ap path_of c.deref-in-Path.ensures ∙ sym (ap place_of c.in-Path.is)) c.path_target.ensures.faults
