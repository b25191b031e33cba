use Rattle.std.proofs.Common.{◌≡◌, ◌∙◌, List, ℕ, true, false, sym}
use Rattle.std.proofs.lemmas.Result.{IfOk-weaker}
use Rattle.std.proofs.lemmas.Slice.Eq.{bytes_eq-Decides}
use Rattle.std.specs.Str.{bytes_eq}
use Rattle.formatting.specs.Formatted.{IsFormatted}
use Rattle.lsp_texts.specs.Edits.{HasLayout, changed, kept, none}
use Rattle.lsp_texts.proofs.edits.edits_to.Goals as goal

pub returns-in-Ok-clause-told : goal.returns-in-Ok-clause-told
returns-in-Ok-clause-told c =
    let text = c.args.text.now in
    let same : c.in-Ok.new.now ≡ text = (bytes_eq-Decides c.in-Ok.new.now text).0 (sym c.if-eq.ensures) in
    let its : c.args.layout.now ≡ text = sym c.in-Ok.ensures.cases.0 ∙ same in
    let formatted : IsFormatted text text = rw its at c.requires.formatted in
    rw c.no_edits.ensures (kept (record { program = c.requires.program; formatted = formatted }))

differs : (new text : List ℕ) → false ≡ bytes_eq new text → new ≡ text → ⊥
differs new text apart same = let yes : bytes_eq new text ≡ true = (bytes_eq-Decides new text).1 same in absurd cc

pub returns-in-Ok-2-clause-told : goal.returns-in-Ok-2-clause-told
returns-in-Ok-2-clause-told c =
    let text = c.args.text.now in
    let new = c.in-Ok.new.now in
    let its : c.args.layout.now ≡ new = sym c.in-Ok.ensures.cases.0 in
    let formatted : IsFormatted text new = rw its at c.requires.formatted in
    let has : HasLayout text new = record { program = c.requires.program; formatted = formatted } in
    IfOk-weaker c.whole_edits.result _ _
    (λ told is. rw is (changed has (differs new text c.if-eq.ensures)))
    c.whole_edits.ensures

pub returns-in-Err-clause-told : goal.returns-in-Err-clause-told
returns-in-Err-clause-told c = rw c.null_value.ensures (none (λ out has utf8.
    let same = c.one_layout.ensures c.args.text.now out c.args.layout.now has.formatted c.requires.formatted in
    c.in-Err.ensures.cases.0 (rw same at utf8)))
