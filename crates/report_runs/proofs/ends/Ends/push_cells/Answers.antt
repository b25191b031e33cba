use Rattle.std.proofs.Common.{◌≡◌, ◌∙◌, ◌<◌, ◌+◌, ◌∷◌, ◌++◌, List, length, drop, get_or, add-one, drop-cons, ap, sym, arith, pos, string_bytes}
use Rattle.core_lang.specs.declared.value.Value.{Value}
use Rattle.core_lang.specs.declared.value.Value.TheVariants.{Int}
use Rattle.report_runs.specs.Outcomes.{cell_texts}
use Rattle.report_runs.proofs.OrderSteps.{piece_more}
use Rattle.report_runs.proofs.ends.Ends.push_cells.Goals as goal

pub loop-place-preserved : goal.loop-place-preserved
loop-place-preserved c =
    let values = c.args.values.now in
    let place = c.loop-place.place in
    let within : place < length values = omega (arith, c.loop-place-test.true) in
    let next : drop place values ≡ get_or values place (Int (pos 0)) ∷ drop (place + 1) values =
    rw add-one (drop-cons values place (Int (pos 0)) within) in
    piece_more _ _ _ _ _ c.in_ok-push_place.ensures
    (ap (λ (vs : List Value). string_bytes c.loop-place.out ++ cell_texts c.args.self.now.program.now c.args.self.now.asked.now.cells c.args.known.now place vs) (sym next)
    ∙ c.loop-place.invariant)
