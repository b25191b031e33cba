use Rattle.std.proofs.Common.{◌≡◌, ◌∙◌, Some, None, refl, sym, ap, cond}
use Rattle.std.specs.Prelude.{◌==◌, ◌&&◌}
use Rattle.std.specs.Str.{bytes_eq}
use Rattle.lsp_texts.specs.Working.Tables.{inner_in}
use Rattle.lsp_texts.proofs.TableLemmas.{added, is_none_of, same_pair, same_inner}
use Rattle.lsp_texts.proofs.tables.Tables.add_inner.Goals as goal

pub returns-in_ok-insert : goal.returns-in_ok-insert
returns-in_ok-insert c =
    let text = c.args.text.now in
    let owner = c.args.owner in
    let old = c.args.self.now in
    let none : inner_in old owner text ≡ None = is_none_of _ _ c.inner.ensures c.is_none.ensures c.if-is_none.true in
    record {
      top = λ q. refl;
      inner = λ o q. added ((owner == o) && bytes_eq text q) (inner_in old o q) _ c.args.at
          (λ same. sym (same_inner old owner o text q same) ∙ none)
          (c.in_ok-insert.ensures.updates.0 (o, record { ref_ptr = (0, 0); now = q })
          ∙ ap (λ b. cond b (Some c.args.at) (inner_in old o q)) (same_pair owner o text q));
    }
