use Rattle.std.proofs.Common.{◌∙◌, ℕ, arith}
use Rattle.serde_json.proofs.Views.{view-Array}
use Rattle.serde_json.specs.Data.{Data}
use Rattle.lsp_texts.specs.Links.{location_data}
use Rattle.lsp_texts.proofs.ListLemmas.{all_told, one_told}
use Rattle.lsp_texts.proofs.linked.Linked.locations.Goals as goal

pub loop-at-preserved : goal.loop-at-preserved
loop-at-preserved c =
    let own = c.args.self.now in
    let f : ℕ → Data = location_data own.uri.now own.text.now own.tokens.now in
    record {
      text = c.location.ensures.same ∙ c.loop-at.invariant.text;
      told = one_told f c.args.found.now c.loop-at.at-index c.loop-at.values.items c.push.new.self.items c.in_ok-location.field-0 (omega arith)
          c.loop-at.invariant.told c.in_ok-location.ensures.told c.in_ok-push.ensures.items;
    }

pub returns : goal.returns
returns c =
    let own = c.args.self.now in
    let f : ℕ → Data = location_data own.uri.now own.text.now own.tokens.now in
    view-Array c.loop-at.values ∙ all_told f c.args.found.now c.loop-at.at-index c.loop-at.values.items (omega arith) c.loop-at.invariant.told
