use Rattle.std.proofs.Common.{◌∙◌, ◌-◌, ◌^◌, ◌≤◌, length, arith}
use Rattle.std.proofs.lemmas.Result.{IfOk-weaker}
use Rattle.lsp_texts.specs.Theory.Ends.{cut_off}
use Rattle.lsp_texts.proofs.RangeLemmas.{same_range}
use Rattle.lsp_texts.proofs.listing.name_range.Goals as goal

pub returns-clause-told : goal.returns-clause-told
returns-clause-told c =
    let walker = c.args.walker.now in
    let short : length walker.text.now ≤ 2 ^ 64 - 1 = omega (arith, walker.short) in
    let cut = cut_off walker.text.now _ (2 ^ 64 - 1) _ short c.saturating_add-end.ensures in
    IfOk-weaker c.range_value.result _ _ (λ told is. is ∙ same_range walker.text.now c.args.name.start _ _ cut) c.range_value.ensures.told
