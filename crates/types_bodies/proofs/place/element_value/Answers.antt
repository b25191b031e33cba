use Rattle.std.proofs.Common.{Some, ap, sym, ◌∙◌}
use Rattle.std.specs.Prelude.{option_map}
use Rattle.core_lang.specs.declared.tree.Expr.{Expr}
use Rattle.resolution.specs.CoreViews.{core_expr}
use Rattle.types_bodies.specs.Working.Indexing.{element_by}
use Rattle.types_bodies.specs.declared.place.Indexed.{Indexed}
use Rattle.types_bodies.specs.declared.place.Indexed.TheVariants.{Array, Pool}
use Rattle.types_bodies.specs.Theory.Zips.{zipped}
use Rattle.types_bodies.proofs.place.element_value.Goals as goal

pub returns-in-Array : goal.returns-in-Array
returns-in-Array c =
    let start = c.args.start in
    c.value_of.ensures
    ∙ ap (λ (e : Expr). element_by start (Some (Array c.in-Array.array c.in-Array.t)) (Some (core_expr e))) c.in_ok-index.ensures.ok
    ∙ ap (λ (x : Indexed). element_by start (Some x) (Some (core_expr c.in-Some.index))) (sym c.in-Array.is)
    ∙ zipped (λ x e. element_by start x (option_map core_expr e)) c.args.indexed c.args.index c.in-Some.indexed c.in-Some.index c.in-Some.ensures

pub returns-in-Pool : goal.returns-in-Pool
returns-in-Pool c =
    let start = c.args.start in
    c.value_of-in-Pool.ensures
    ∙ ap (λ (e : Expr). element_by start (Some (Pool c.in-Pool.pool c.in-Pool.t)) (Some (core_expr e))) c.in_ok-index.ensures.ok
    ∙ ap (λ (x : Indexed). element_by start (Some x) (Some (core_expr c.in-Some.index))) (sym c.in-Pool.is)
    ∙ zipped (λ x e. element_by start x (option_map core_expr e)) c.args.indexed c.args.index c.in-Some.indexed c.in-Some.index c.in-Some.ensures
