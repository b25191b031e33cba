use Rattle.std.proofs.Common.{◌∙◌, ap}
use Rattle.std.proofs.lemmas.Result.{IfOk-weaker}
use Rattle.serde_json.specs.Written.{has_float}
use Rattle.lsp_texts.specs.Links.{declaration_at, references_of}
use Rattle.lsp_texts.proofs.LinkFloats.{none_in_locations}
use Rattle.lsp_texts.proofs.answers.references.Goals as goal

pub returns-clause-plain : goal.returns-clause-plain
returns-clause-plain c =
    let text = c.as_bytes.result.now in
    let tokens = c.deref-2.result.now in
    IfOk-weaker c.references_in.result _ _
    (λ told is. ap has_float is ∙ none_in_locations c.args.asked.now.uri.now text tokens
    (references_of tokens c.args.with_declaration (declaration_at text c.args.asked.now.position tokens)))
    c.references_in.ensures
