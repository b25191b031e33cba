use Rattle.std.proofs.Common.{◌≡◌, ◌∙◌, ◌+◌, ◌∷◌, ◌++◌, List, [], map, take, drop, sym, ap, subst}
use Rattle.std.proofs.lemmas.List.{drop_all}
use Rattle.syntax.specs.declared.tree.ClassName as written
use Rattle.syntax.specs.Trees.{ClassName}
use Rattle.syntax.specs.Views.{class_name_of}
use Rattle.resolution.specs.Scopes.{place_of, same_class}
use Rattle.resolution.specs.Working.Findings.{found_in}
use Rattle.resolution.specs.Working.FaultLists.{class_faults, again, listed_faults}
use Rattle.types_symbols.specs.Working.Listed.{IsListOf}
use Rattle.types_symbols.specs.Working.Views.{decls_of}
use Rattle.types_symbols.specs.Theory.Steps.{step, noted_two}
use Rattle.types_symbols.proofs.Declared.{take-here}
use Rattle.types_symbols.proofs.ListedNames.{again_by, listed_more}
use Rattle.types_symbols.proofs.listed.report_listed.Goals as goal

pub loop-class-preserved : goal.loop-class-preserved
loop-class-preserved c =
    let decls = decls_of c.args.symbols.now in
    let items = c.args.listed.now in
    let i = c.loop-class.class-index in
    let x = c.class-item-in-loop-class.result in
    let k = class_name_of x in
    let lt = c.loop-class-test.true in
    let is = c.class-item-in-loop-class.is in
    let before = map class_name_of (take i items) in
    let rest = map class_name_of (drop (i + 1) items) in
    let more = take-here class_name_of items i x lt is in
    let f = c.loop-class.firsts in
    let g = c.report_class-in-loop-class.new.firsts in
    let last = c.report_if.new.firsts in
    let was = c.in_ok-is_again.ensures.was_there ∙ c.loop-class.invariant.before k in
    record {
      before = subst (λ (cs : List ClassName). IsListOf cs c.add.new.self) (sym more)
          (listed_more before k c.loop-class.before c.add.new.self c.loop-class.invariant.before c.in_ok-is_again.ensures.names);
      faults = step (λ (xs : List written.ClassName). found_in f (listed_faults decls before (map class_name_of xs))) (λ (xs : List written.ClassName). found_in last (listed_faults decls (map class_name_of (take (i + 1) items)) (map class_name_of xs))) items i x _ lt is
          (ap (λ (cs : List ClassName). found_in last (listed_faults decls cs rest)) more
          ∙ noted_two f g last (class_faults decls k) (again k.structure.span.start (place_of same_class before k)) (listed_faults decls (before ++ k ∷ []) rest)
          c.report_class-in-loop-class.ensures
          (c.report_if.ensures ∙ ap (found_in g) (again_by c.in_ok-is_again.is_again (place_of same_class before k) k.structure.span.start was)))
          c.loop-class.invariant.faults;
    }

pub returns : goal.returns
returns c =
    let decls = decls_of c.args.symbols.now in
    let items = c.args.listed.now in
    let i = c.loop-class.class-index in
    let none : drop i items ≡ [] = drop_all i items c.loop-class-test.false in
    sym (ap (λ (xs : List written.ClassName). found_in c.loop-class.firsts (listed_faults decls (map class_name_of (take i items)) (map class_name_of xs))) none)
    ∙ c.loop-class.invariant.faults
