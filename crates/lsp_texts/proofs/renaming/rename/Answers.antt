use Rattle.std.proofs.Common.{◌∙◌, ap}
use Rattle.std.specs.Prelude.{option_and_then}
use Rattle.std.proofs.lemmas.Result.{IfOk-weaker}
use Rattle.serde_json.specs.Written.{has_float}
use Rattle.lsp_texts.specs.Links.{declaration_at}
use Rattle.lsp_texts.specs.Renames.{unless_taken}
use Rattle.lsp_texts.proofs.LinkFloats.{none_in_rename}
use Rattle.lsp_texts.proofs.renaming.rename.Goals as goal

pub returns-clause-plain : goal.returns-clause-plain
returns-clause-plain c =
    let text = c.as_bytes.result.now in
    let tokens = c.deref-2.result.now in
    IfOk-weaker c.renamed.result _ _
    (λ told is. ap has_float is ∙ none_in_rename c.args.asked.now.uri.now text c.args.new_name.now tokens
    (option_and_then (unless_taken tokens c.args.new_name.now) (declaration_at text c.args.asked.now.position tokens)))
    c.renamed.ensures
