use Rattle.std.proofs.Common.{◌≡◌, ◌∙◌, Some, None, sym, ap}
use Rattle.source.specs.Texts.{HasTokens}
use Rattle.source.specs.Tokens.{seen}
use Rattle.lsp_texts.specs.Working.LoneNames.{are_lone}
use Rattle.lsp_texts.proofs.NameLemmas.{has_name_tokens, is_name_alone, name_is_lone, name_is_short, name_tokens}
use Rattle.lsp_texts.proofs.renaming.is_name.Goals as goal

pub returns-in-Some : goal.returns-in-Some
returns-in-Some c =
    let text = c.args.text.now in
    let tokens = c.in-Some.tokens.items in
    let has : HasTokens text (seen tokens) = rw c.in-Some.is at c.in_ok-tokens.ensures.found in
    let lone : c.are_name.result ≡ are_lone (seen tokens) text =
    c.are_name.ensures ∙ ap (λ l. are_lone (seen l) text) c.deref.ensures.value in (
      λ yes_is. is_name_alone has (sym lone ∙ yes_is),
      λ is.
          let same : Some (seen tokens) ≡ Some (name_tokens text) =
          rw c.in-Some.is at (c.in_ok-tokens.ensures.only (name_tokens text) (name_is_short text is) (has_name_tokens text is)) in
          let list : seen tokens ≡ name_tokens text = cc in
          lone ∙ name_is_lone text (seen tokens) list,
    )

pub returns-in-None : goal.returns-in-None
returns-in-None c =
    let text = c.args.text.now in (
      λ e. absurd cc,
      λ is.
          let none : None ≡ Some (name_tokens text) =
          rw c.in-None.is at (c.in_ok-tokens.ensures.only (name_tokens text) (name_is_short text is) (has_name_tokens text is)) in
          absurd cc,
    )
