use Rattle.std.proofs.Common.{◌≡◌, ◌+◌, ◌∷◌, [], refl, ap, sym, subst, ◌∙◌, List, take, drop}
use Rattle.std.proofs.lemmas.List.{take_all, drop_all}
use Rattle.std.specs.Prelude.{map}
use Rattle.syntax.specs.declared.tree.Decl as rust
use Rattle.syntax.specs.Trees.{Decl}
use Rattle.syntax.specs.Views.{decl_of, struct_of}
use Rattle.resolution.specs.Working.Findings.{found_in}
use Rattle.resolution.specs.Working.FaultLists.{struct_faults}
use Rattle.types_symbols.specs.Working.Views.{decls_of, AreStructures}
use Rattle.types_symbols.proofs.Declared.{take-here}
use Rattle.types_symbols.proofs.Structs.{structures_more, faults_more}
use Rattle.types_symbols.specs.Theory.Steps.{step, noted_one}
use Rattle.types_symbols.proofs.declarations.check_structs.Goals as goal

pub loop-d-preserved : goal.loop-d-preserved
loop-d-preserved c =
    let decls = c.args.decls.now in
    let i = c.loop-d.d-index in
    let x = c.d-item.result in
    let d = decl_of x in
    let lt = c.loop-d-test.true in
    let is = c.d-item.is in
    let ds = decls_of (take i decls) in
    let rest = decls_of (drop (i + 1) decls) in
    let g = c.check_struct.new.firsts in
    record {
      structs = subst (λ (es : List Decl). AreStructures es c.check_struct.new.structs.items) (sym (take-here decl_of decls i x lt is))
          (structures_more ds d c.loop-d.structs.items c.check_struct.new.structs.items c.in_ok-check_struct.ensures.structs c.loop-d.invariant.structs);
      faults = step (λ xs. found_in c.loop-d.firsts (struct_faults (decls_of xs))) (λ xs. found_in g (struct_faults (decls_of xs))) decls i x _ lt is
          (noted_one c.loop-d.firsts g (struct_faults (d ∷ [])) (struct_faults rest) c.in_ok-check_struct.ensures.faults ∙ ap (found_in c.loop-d.firsts) (faults_more d rest))
          c.loop-d.invariant.faults;
    }

pub loop-d-init : goal.loop-d-init
loop-d-init c = record {
  structs = ap (map struct_of) c.new-structs.ensures.items;
  faults = refl;
}

pub returns : goal.returns
returns c =
    let decls = c.args.decls.now in
    let i = c.loop-d.d-index in
    let all : take i decls ≡ decls = take_all i decls c.loop-d-test.false in
    let none : drop i decls ≡ [] = drop_all i decls c.loop-d-test.false in
    record {
      structs = subst (λ (xs : List rust.Decl). AreStructures (decls_of xs) c.loop-d.structs.items) all c.loop-d.invariant.structs;
      faults = ap (λ (xs : List rust.Decl). found_in c.loop-d.firsts (struct_faults (decls_of xs))) (sym none) ∙ c.loop-d.invariant.faults;
    }
