use Rattle.std.proofs.Common.{◌∙◌, ◌-◌, drop, length, sym, ap, arith, length-drop}
use Rattle.std.proofs.lemmas.List.{drop-map, take_all}
use Rattle.explanation_faults.specs.Working.LimitsFound.{some_starts}
use Rattle.explanation_names.specs.Working.Values.{ident_at, idents}
use Rattle.explanation_faults.proofs.limits_passed.is_past.Goals as goal

pub returns : goal.returns
returns c =
    let names = c.args.names.now in
    let limit = c.args.limit in
    c.some_starts.ensures
    ∙ ap (λ l. some_starts c.args.at (idents l)) (take_all (length names - limit) (drop limit names) (omega (arith, length-drop limit names)))
    ∙ ap (some_starts c.args.at) (sym (drop-map ident_at limit names))
