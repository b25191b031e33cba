use Rattle.std.proofs.Common.{◌∙◌, ℕ, arith}
use Rattle.serde_json.proofs.Views.{view-Array}
use Rattle.serde_json.specs.Data.{Data}
use Rattle.lsp_texts.specs.Renames.{edit_data}
use Rattle.lsp_texts.proofs.ListLemmas.{all_told, one_told}
use Rattle.lsp_texts.proofs.renaming.Renaming.edits.Goals as goal

pub loop-at-preserved : goal.loop-at-preserved
loop-at-preserved c =
    let own = c.args.self.now in
    let f : ℕ → Data = edit_data own.name.now own.document.text.now own.document.tokens.now in
    record {
      text = c.edit.ensures.same ∙ c.loop-at.invariant.text;
      told = one_told f c.args.found.now c.loop-at.at-index c.loop-at.values.items c.push.new.self.items c.in_ok-edit.field-0 (omega arith)
          c.loop-at.invariant.told c.in_ok-edit.ensures.told c.in_ok-push.ensures.items;
    }

pub returns : goal.returns
returns c =
    let own = c.args.self.now in
    let f : ℕ → Data = edit_data own.name.now own.document.text.now own.document.tokens.now in
    view-Array c.loop-at.values ∙ all_told f c.args.found.now c.loop-at.at-index c.loop-at.values.items (omega arith) c.loop-at.invariant.told
