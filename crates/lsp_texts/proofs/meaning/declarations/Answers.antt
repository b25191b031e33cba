use Rattle.std.proofs.Common.{◌∙◌, ap}
use Rattle.lsp_texts.specs.Declarations.{declaration_of}
use Rattle.lsp_texts.proofs.DeclarationLemmas.{none_in, one_more}
use Rattle.lsp_texts.proofs.meaning.declarations.Goals as goal

pub loop-at-init : goal.loop-at-init
loop-at-init c =
    let tokens = c.args.tokens.now in
    record { found = c.new-found.ensures.items ∙ none_in tokens; place = c.first-place.ensures tokens }

pub loop-at-preserved : goal.loop-at-preserved
loop-at-preserved c =
    let tokens = c.args.tokens.now in
    let at = c.loop-at.at in
    let found = c.loop-at.found.items in
    record {
      found = one_more tokens at found c.push.new.self.items c.declaration_of-declared.result c.loop-at.invariant.found
          (c.declaration_of-declared.ensures ∙ ap (λ before. declaration_of tokens before at) c.deref.ensures.value)
          c.in_ok-push.ensures.items;
      place = c.behind-place.ensures;
    }
