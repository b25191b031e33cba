use Rattle.std.proofs.Common.{◌↔◌, List, map, sym, ap, subst}
use Rattle.core_lang.specs.declared.typed.Cell.{Cell}
use Rattle.core_lang.specs.Serial.{Serial, opening_heap}
use Rattle.lowering.proofs.laws.compiled_run_alike.Goals as goal

pub returns : goal.returns
returns c plan calls ends heap compiled fill =
    let same = ap (λ (xs : List Cell). map (λ (cell : Cell). cell.opening) xs) compiled.expanded.expansion.cells in
    let alike = c.writing_out_changes_nothing.ensures.serial plan.accepted plan.program (opening_heap plan.accepted) heap calls ends compiled.expanded.expansion fill in
    subst (λ opening. (Serial plan.accepted (opening_heap plan.accepted) calls ends heap) ↔ (Serial plan.program opening calls ends heap)) (sym same) alike
