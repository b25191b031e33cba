use Rattle.std.proofs.Common.{sym, ap, ◌∙◌}
use Rattle.std.specs.Prelude.{map}
use Rattle.syntax.specs.Views.{tree_of, decl_of}
use Rattle.resolution.specs.CoreViews.{core_of}
use Rattle.resolution.specs.Working.Findings.{Firsts, first}
use Rattle.resolution.specs.Theory.Firsts.{was_none}
use Rattle.types.specs.Working.Whole.{judged_faults}
use Rattle.types_symbols.specs.Working.Views.{decls_of}
use Rattle.types.specs.Working.Grown.{if_right, built}
use Rattle.types.proofs.Checked.{firsts_after, whole_firsts, whole_built, none_built, begun}
use Rattle.types.proofs.program.check.Goals as goal

pub returns-in-Some-clause-fault : goal.returns-in-Some-clause-fault
returns-in-Some-clause-fault c =
    let ds = tree_of c.args.tree.now in
    let items = ap (map decl_of) c.deref.ensures.value in
    let whole = c.first.ensures ∙ ap first (whole_firsts ds (decls_of c.in_ok-symbols.symbols) c.new.new.firsts c.check_all.new.firsts (ap (map decl_of) c.in_ok-symbols.ensures.items ∙ items) (c.in_ok-symbols.ensures.faults ∙ ap (firsts_after c.new-firsts.result) items ∙ ap (λ (s : Firsts). firsts_after s ds) c.new-firsts.ensures) c.in_ok-check_all.ensures.faults) ∙ c.first_faults.ensures.first ds in
    rw (c.at.ensures.code, c.at.ensures.start) (c.least_fault.ensures.fault ds c.in-Some.fault (sym whole ∙ c.in-Some.is), c.at.ensures.detail)

pub returns-in-Some-clause-least : goal.returns-in-Some-clause-least
returns-in-Some-clause-least c = λ code p h.
    let ds = tree_of c.args.tree.now in
    let items = ap (map decl_of) c.deref.ensures.value in
    let whole = c.first.ensures ∙ ap first (whole_firsts ds (decls_of c.in_ok-symbols.symbols) c.new.new.firsts c.check_all.new.firsts (ap (map decl_of) c.in_ok-symbols.ensures.items ∙ items) (c.in_ok-symbols.ensures.faults ∙ ap (firsts_after c.new-firsts.result) items ∙ ap (λ (s : Firsts). firsts_after s ds) c.new-firsts.ensures) c.in_ok-check_all.ensures.faults) ∙ c.first_faults.ensures.first ds in
    rw (c.at.ensures.code, c.at.ensures.start) (c.least_fault.ensures.least ds c.in-Some.fault (sym whole ∙ c.in-Some.is) code p h)

pub unreachable-requires : goal.unreachable-requires
unreachable-requires c =
    let ds = tree_of c.args.tree.now in
    let items = ap (map decl_of) c.deref.ensures.value in
    let same = ap (map decl_of) c.in_ok-symbols.ensures.items ∙ items in
    let whole = c.first.ensures ∙ ap first (whole_firsts ds (decls_of c.in_ok-symbols.symbols) c.new.new.firsts c.check_all.new.firsts same (c.in_ok-symbols.ensures.faults ∙ ap (firsts_after c.new-firsts.result) items ∙ ap (λ (s : Firsts). firsts_after s ds) c.new-firsts.ensures) c.in_ok-check_all.ensures.faults) ∙ c.first_faults.ensures.first ds in
    let none = was_none c.new.new.firsts (judged_faults (decls_of c.in_ok-symbols.symbols)) (ap first (sym c.in_ok-check_all.ensures.faults) ∙ sym c.first.ensures ∙ c.in_default.is) in
    let all = whole_built ds (decls_of c.in_ok-symbols.symbols) _ (built c.check_all.new.grown) same (begun (first c.new.new.firsts) c.is_empty.result c.nothing.result none c.is_empty.ensures c.nothing.ensures) c.in_ok-check_all.ensures.value in
    let some = c.faultless_are_resolved.ensures ds c.requires (sym whole ∙ c.in_default.is) in
    none_built ds (built c.check_all.new.grown) all
    (ap (λ b. if_right b c.check_all.new.grown.program) c.if-not-grown.true)
    (some.0, c.resolved_by_rules.ensures.back ds some.0 some.1)

pub returns-clause-resolves : goal.returns-clause-resolves
returns-clause-resolves c =
    let ds = tree_of c.args.tree.now in
    let items = ap (map decl_of) c.deref.ensures.value in
    let same = ap (map decl_of) c.in_ok-symbols.ensures.items ∙ items in
    let none = was_none c.new.new.firsts (judged_faults (decls_of c.in_ok-symbols.symbols)) (ap first (sym c.in_ok-check_all.ensures.faults) ∙ sym c.first.ensures ∙ c.in_default.is) in
    let all = whole_built ds (decls_of c.in_ok-symbols.symbols) _ (built c.check_all.new.grown) same (begun (first c.new.new.firsts) c.is_empty.result c.nothing.result none c.is_empty.ensures c.nothing.ensures) c.in_ok-check_all.ensures.value in
    c.resolved_by_rules.ensures.there ds (core_of c.check_all.new.grown.program)
    (sym all ∙ ap (λ b. if_right b c.check_all.new.grown.program) c.if-not-grown.false)

pub returns-clause-checked : goal.returns-clause-checked
returns-clause-checked c =
    let ds = tree_of c.args.tree.now in
    let items = ap (map decl_of) c.deref.ensures.value in
    let same = ap (map decl_of) c.in_ok-symbols.ensures.items ∙ items in
    let whole = c.first.ensures ∙ ap first (whole_firsts ds (decls_of c.in_ok-symbols.symbols) c.new.new.firsts c.check_all.new.firsts same (c.in_ok-symbols.ensures.faults ∙ ap (firsts_after c.new-firsts.result) items ∙ ap (λ (s : Firsts). firsts_after s ds) c.new-firsts.ensures) c.in_ok-check_all.ensures.faults) ∙ c.first_faults.ensures.first ds in
    let none = was_none c.new.new.firsts (judged_faults (decls_of c.in_ok-symbols.symbols)) (ap first (sym c.in_ok-check_all.ensures.faults) ∙ sym c.first.ensures ∙ c.in_default.is) in
    let all = whole_built ds (decls_of c.in_ok-symbols.symbols) _ (built c.check_all.new.grown) same (begun (first c.new.new.firsts) c.is_empty.result c.nothing.result none c.is_empty.ensures c.nothing.ensures) c.in_ok-check_all.ensures.value in
    c.resolved_are_checked.ensures ds c.check_all.new.grown.program (sym whole ∙ c.in_default.is)
    (c.resolved_by_rules.ensures.there ds (core_of c.check_all.new.grown.program)
    (sym all ∙ ap (λ b. if_right b c.check_all.new.grown.program) c.if-not-grown.false))

pub returns-clause-well_formed : goal.returns-clause-well_formed
returns-clause-well_formed c =
    let ds = tree_of c.args.tree.now in
    let items = ap (map decl_of) c.deref.ensures.value in
    let same = ap (map decl_of) c.in_ok-symbols.ensures.items ∙ items in
    let whole = c.first.ensures ∙ ap first (whole_firsts ds (decls_of c.in_ok-symbols.symbols) c.new.new.firsts c.check_all.new.firsts same (c.in_ok-symbols.ensures.faults ∙ ap (firsts_after c.new-firsts.result) items ∙ ap (λ (s : Firsts). firsts_after s ds) c.new-firsts.ensures) c.in_ok-check_all.ensures.faults) ∙ c.first_faults.ensures.first ds in
    let none = was_none c.new.new.firsts (judged_faults (decls_of c.in_ok-symbols.symbols)) (ap first (sym c.in_ok-check_all.ensures.faults) ∙ sym c.first.ensures ∙ c.in_default.is) in
    let all = whole_built ds (decls_of c.in_ok-symbols.symbols) _ (built c.check_all.new.grown) same (begun (first c.new.new.firsts) c.is_empty.result c.nothing.result none c.is_empty.ensures c.nothing.ensures) c.in_ok-check_all.ensures.value in
    c.without_helpers.ensures ds c.check_all.new.grown.program (sym whole ∙ c.in_default.is)
    (c.resolved_by_rules.ensures.there ds (core_of c.check_all.new.grown.program)
    (sym all ∙ ap (λ b. if_right b c.check_all.new.grown.program) c.if-not-grown.false))

pub returns-clause-faultless : goal.returns-clause-faultless
returns-clause-faultless c =
    let ds = tree_of c.args.tree.now in
    let items = ap (map decl_of) c.deref.ensures.value in
    let whole = c.first.ensures ∙ ap first (whole_firsts ds (decls_of c.in_ok-symbols.symbols) c.new.new.firsts c.check_all.new.firsts (ap (map decl_of) c.in_ok-symbols.ensures.items ∙ items) (c.in_ok-symbols.ensures.faults ∙ ap (firsts_after c.new-firsts.result) items ∙ ap (λ (s : Firsts). firsts_after s ds) c.new-firsts.ensures) c.in_ok-check_all.ensures.faults) ∙ c.first_faults.ensures.first ds in
    c.least_fault.ensures.none ds (sym whole ∙ c.in_default.is)
