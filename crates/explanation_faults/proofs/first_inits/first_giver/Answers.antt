use Rattle.std.proofs.Common.{◌≡◌, ◌∙◌, true, false, sym, ap}
use Rattle.syntax.specs.declared.tree.Decl.{Decl}
use Rattle.syntax.specs.Views.{decl_of, init_of}
use Rattle.explanation_faults.specs.Inits.{gives_same}
use Rattle.explanation_faults.proofs.FirstInits.{first_here, not_here, gives_nothing}
use Rattle.explanation_names.specs.Theory.Viewed.{viewed_at}
use Rattle.std.proofs.Common.{refl, Some}
use Rattle.explanation_faults.proofs.first_inits.first_giver.Goals as goal
use Rattle.explanation_faults.proofs.first_inits.first_giver.Goals.{in-Init+else-is_same_target, in_default}

pub returns-then-is_same_target : goal.returns-then-is_same_target
returns-then-is_same_target c =
    let j = init_of c.args.init.now in
    let k = c.loop-decl.decl-index in
    let gives : gives_same j (decl_of c.decl-item.result) ≡ true = rw c.in-Init.is (sym c.if-is_same_target.ensures) in
    record {
      number = k;
      found = first_here j c.args.decls.now k c.decl-item.result c.decl-item.is c.loop-decl-test.true gives c.loop-decl.invariant;
      is_first = viewed_at decl_of c.args.decls.now c.args.decls.now k c.decl-item.result refl c.decl-item.is c.loop-decl-test.true
          ∙ ap (λ (d : Decl). Some (decl_of d)) c.in-Init.is;
    }

pub loop-decl-preserved : goal.loop-decl-preserved
loop-decl-preserved c =
    let j = init_of c.args.init.now in
    elim c.match-decl.branch [
      | in-Init+else-is_same_target w ↦
          let none : gives_same j (decl_of c.decl-item.result) ≡ false = rw w.in-Init.is (sym w.if-is_same_target.ensures) in
          not_here j c.args.decls.now c.loop-decl.decl-index c.decl-item.result c.decl-item.is c.loop-decl-test.true none c.loop-decl.invariant
      | in_default w ↦
          not_here j c.args.decls.now c.loop-decl.decl-index c.decl-item.result c.decl-item.is c.loop-decl-test.true
          (gives_nothing j c.decl-item.result w.in_default.not-Init) c.loop-decl.invariant
    ]
