use Rattle.std.proofs.Common.{◌∙◌, ◌<◌, ap, inr, length, arith}
use Rattle.serde_json.specs.Written.{has_float}
use Rattle.source.specs.Texts.{SOURCE_LIMIT, too_big}
use Rattle.source.specs.declared.fault.Code.TheVariants.{LimitExceeded}
use Rattle.lsp_texts.proofs.SymbolFloats.{none_in_items}
use Rattle.lsp_texts.proofs.listing.document_symbols.Goals as goal

pub returns-then-bytes-gt-SOURCE_LIMIT-clause-told : goal.returns-then-bytes-gt-SOURCE_LIMIT-clause-told
returns-then-bytes-gt-SOURCE_LIMIT-clause-told c =
    let long : SOURCE_LIMIT < length c.args.text.now = omega (arith, c.as_bytes-bytes.ensures.len) in
    inr (LimitExceeded, 0, too_big long, c.no_symbols.ensures)

pub returns-in-Ok-clause-plain : goal.returns-in-Ok-clause-plain
returns-in-Ok-clause-plain c = ap has_float c.in_ok-told-in-Ok.ensures ∙ none_in_items c.as_bytes-bytes.result.now c.deref-in-Ok.result.now c.deref-in-Ok-2.result.now
