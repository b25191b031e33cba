use Rattle.std.proofs.Common.{◌≡◌, ap, sym, ◌∙◌, ◌+◌, drop, List, []}
use Rattle.std.proofs.Math.ListN.{drop_of_length-le}
use Rattle.std.specs.Prelude.{map}
use Rattle.syntax.specs.declared.tree.Name.{Name}
use Rattle.syntax.specs.Views.{ident}
use Rattle.resolution.specs.Expressions.{walked}
use Rattle.resolution.specs.Working.Findings.{found_in}
use Rattle.resolution.specs.Working.FaultLists.{step_faults, walk_faults}
use Rattle.types_bodies.specs.Working.Checkers.{scope}
use Rattle.types_bodies.specs.Working.Walks.{walk_of}
use Rattle.types_symbols.specs.Theory.Steps.{step, noted_one}
use Rattle.types_bodies.proofs.checker.Checker.walked.Goals as goal

pub loop-f-preserved : goal.loop-f-preserved
loop-f-preserved c =
    let ds = (scope c.args.self.now).decls in
    let old = walk_of c.loop-f.reached in
    let new = walk_of c.in_ok-reached.reached in
    let items = c.args.fields.now in
    let f = c.f-item.result in
    let rest = map ident (drop (c.loop-f.f-index + 1) items) in
    record {
      value = step (λ fs. walked ds old (map ident fs)) (λ fs. walked ds new (map ident fs)) items c.loop-f.f-index f _ c.loop-f-test.true c.f-item.is
          (ap (λ w. walked ds w rest) c.in_ok-reached.ensures.value) c.loop-f.invariant.value;
      faults = step (λ fs. found_in c.loop-f.firsts (walk_faults ds c.args.start old (map ident fs))) (λ fs. found_in c.stepped.new.firsts (walk_faults ds c.args.start new (map ident fs))) items c.loop-f.f-index f _ c.loop-f-test.true c.f-item.is
          (ap (λ w. found_in c.stepped.new.firsts (walk_faults ds c.args.start w rest)) c.in_ok-reached.ensures.value ∙ noted_one c.loop-f.firsts c.stepped.new.firsts (step_faults ds c.args.start old (ident f)) _ c.in_ok-reached.ensures.faults) c.loop-f.invariant.faults;
    }

pub returns-clause-value : goal.returns-clause-value
returns-clause-value c =
    let none : drop c.loop-f.f-index c.args.fields.now ≡ [] = drop_of_length-le c.args.fields.now c.loop-f-test.false in
    sym (ap (λ (fs : List Name). walked (scope c.args.self.now).decls (walk_of c.loop-f.reached) (map ident fs)) none) ∙ c.loop-f.invariant.value

pub returns-clause-faults : goal.returns-clause-faults
returns-clause-faults c =
    let none : drop c.loop-f.f-index c.args.fields.now ≡ [] = drop_of_length-le c.args.fields.now c.loop-f-test.false in
    c.report_end.ensures ∙ sym (ap (λ (fs : List Name). found_in c.loop-f.firsts (walk_faults (scope c.args.self.now).decls c.args.start (walk_of c.loop-f.reached) (map ident fs))) none) ∙ c.loop-f.invariant.faults
