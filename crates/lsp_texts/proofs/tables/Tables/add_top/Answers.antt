use Rattle.std.proofs.Common.{◌≡◌, ◌∙◌, Some, None, refl, sym, ap}
use Rattle.std.specs.Str.{bytes_eq}
use Rattle.std.proofs.lemmas.Map.Text.{btree_map_updates_str}
use Rattle.lsp_texts.specs.Working.Tables.{top_in}
use Rattle.lsp_texts.proofs.TableLemmas.{added, is_none_of, same_text}
use Rattle.lsp_texts.proofs.tables.Tables.add_top.Goals as goal

pub returns-in_ok-insert : goal.returns-in_ok-insert
returns-in_ok-insert c =
    let text = c.args.text.now in
    let old = c.args.self.now in
    let none : top_in old text ≡ None = is_none_of _ _ c.top.ensures c.is_none.ensures c.if-is_none.true in
    record {
      top = λ q. added (bytes_eq text q) (top_in old q) _ c.args.at
          (λ same. ap (top_in old) (sym (same_text text q same)) ∙ none)
          (btree_map_updates_str text old.top c.insert.new.self (Some c.args.at) c.in_ok-insert.ensures.updates q);
      inner = λ o q. refl;
    }
