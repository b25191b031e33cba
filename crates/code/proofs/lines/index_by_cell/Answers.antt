use Rattle.std.proofs.Common.{◌≡◌, ◌∙◌, List, None, nat_eq, ap, sym, rules}
use Rattle.std.proofs.lemmas.List.{nil_from_length}
use Rattle.std.specs.Prelude.{◌==◌}
use Rattle.std.specs.List.{find}
use Rattle.std.specs.Option.{option_copied, option_or}
use Rattle.indexmap.specs.IndexMap.{get}
use Rattle.core_lang.specs.declared.typed.GlobalVariable.{GlobalVariable}
use Rattle.code.proofs.Indexes.{or-none, last-moved}
use Rattle.code.proofs.lines.index_by_cell.Goals as goal

pub loop-global-init : goal.loop-global-init
loop-global-init c = λ cell.
    let test = λ (g : GlobalVariable). g.cell == cell in
    let all : c.into_iter-global-iterator.result.iter.rest.now ≡ c.args.globals.now = search rules in
    let none : get nat_eq c.new-index.result cell ≡ None = search rules in
    ap (λ (gs : List GlobalVariable). option_or (find test gs) (option_copied (get nat_eq c.new-index.result cell))) all
    ∙ ap (λ o. option_or (find test c.args.globals.now) (option_copied o)) none
    ∙ or-none (find test c.args.globals.now)

pub loop-global-preserved : goal.loop-global-preserved
loop-global-preserved c = λ cell.
    let test = λ (g : GlobalVariable). g.cell == cell in
    let left = c.next.new.self.iter.rest.now in
    let index = c.loop-global.index in
    ap (λ o. option_or (find test left) (option_copied o)) (c.in_ok-insert.ensures.updates.0 cell)
    ∙ last-moved test left c.in-Some.global (get nat_eq index cell)
    ∙ ap (λ (gs : List GlobalVariable). option_or (find test gs) (option_copied (get nat_eq index cell)))
    (sym c.in-Some.ensures.steps)
    ∙ c.loop-global.invariant cell

pub returns : goal.returns
returns c = λ cell.
    let test = λ (g : GlobalVariable). g.cell == cell in
    let none = nil_from_length c.loop-global.global-iterator.iter.rest.now c.in-None.ensures.steps.0 in
    ap (λ (gs : List GlobalVariable). option_or (find test gs) (option_copied (get nat_eq c.loop-global.index cell)))
    (sym none)
    ∙ c.loop-global.invariant cell
