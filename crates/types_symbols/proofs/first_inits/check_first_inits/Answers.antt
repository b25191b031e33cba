use Rattle.std.proofs.Common.{◌≡◌, ◌+◌, ◌∷◌, ◌++◌, [], ap, sym, subst, ◌∙◌, List, take, drop}
use Rattle.std.proofs.lemmas.List.{take_all, drop_all}
use Rattle.syntax.specs.declared.tree.Decl as rust
use Rattle.syntax.specs.Trees.{Decl}
use Rattle.syntax.specs.Views.{decl_of}
use Rattle.resolution.specs.Working.Findings.{found_in}
use Rattle.resolution.specs.Working.FaultLists.{repeated, repeated_faults}
use Rattle.types_symbols.specs.Working.Given.{IsInitTargetTable}
use Rattle.types_symbols.specs.Working.Views.{decls_of}
use Rattle.types_symbols.proofs.Declared.{take-here, taken_length}
use Rattle.types_symbols.proofs.Giving.{init_targets_more, repeated_is}
use Rattle.types_symbols.specs.Theory.Steps.{step, noted_one}
use Rattle.types_symbols.proofs.first_inits.check_first_inits.Goals as goal

pub loop-place-preserved : goal.loop-place-preserved
loop-place-preserved c =
    let items = c.items-items.result.now in
    let all = decls_of c.args.decls.now in
    let i = c.loop-place.place in
    let x = c.index-items-place.result in
    let d = decl_of x in
    let lt = c.loop-place-test.true in
    let is = c.index-items-place.is in
    let ds = decls_of (take i items) in
    let more = take-here decl_of items i x lt is in
    record {
      table = subst (λ (es : List Decl). IsInitTargetTable all es c.check_decl.new.first_inits) (sym more)
          (init_targets_more all ds d i c.loop-place.first_inits c.check_decl.new.first_inits (taken_length decl_of items i lt) c.loop-place.invariant.table c.in-Ok.ensures.first_inits);
      faults = step (λ xs. found_in c.loop-place.firsts (repeated_faults all ds (decls_of xs))) (λ xs. found_in c.check_decl.new.firsts (repeated_faults all (decls_of (take (i + 1) items)) (decls_of xs))) items i x _ lt is
          (ap (λ (es : List Decl). found_in c.check_decl.new.firsts (repeated_faults all es (decls_of (drop (i + 1) items)))) more
          ∙ noted_one c.loop-place.firsts c.check_decl.new.firsts (repeated all ds d) (repeated_faults all (ds ++ d ∷ []) (decls_of (drop (i + 1) items)))
          (c.in-Ok.ensures.faults ∙ ap (found_in c.loop-place.firsts) (repeated_is all ds c.loop-place.first_inits d c.loop-place.invariant.table)))
          c.loop-place.invariant.faults;
    }

pub loop-place-init : goal.loop-place-init
loop-place-init c =
    let all = decls_of c.args.decls.now in
    record {
      table = c.new-first_inits.ensures;
      faults = ap (λ (xs : List rust.Decl). found_in c.args.firsts.now (repeated_faults all [] (decls_of xs))) c.items-items.ensures;
    }

pub returns : goal.returns
returns c =
    let items = c.items-items.result.now in
    let all = decls_of c.args.decls.now in
    let i = c.loop-place.place in
    let taken : take i items ≡ c.args.decls.now = take_all i items c.loop-place-test.false ∙ c.items-items.ensures in
    let none : drop i items ≡ [] = drop_all i items c.loop-place-test.false in
    record {
      first_inits = subst (λ (xs : List rust.Decl). IsInitTargetTable all (decls_of xs) c.loop-place.first_inits) taken c.loop-place.invariant.table;
      faults = ap (λ (xs : List rust.Decl). found_in c.loop-place.firsts (repeated_faults all (decls_of (take i items)) (decls_of xs))) (sym none) ∙ c.loop-place.invariant.faults;
    }
