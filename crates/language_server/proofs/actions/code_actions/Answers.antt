use Rattle.std.proofs.Common.{◌≡◌, ◌∙◌, List, ap}
use Rattle.explanations.specs.Told.{IsToldOf, said_by}
use Rattle.serde_json.specs.View.{view}
use Rattle.serde_json.specs.Written.{has_float}
use Rattle.source.specs.declared.token.Token.{Token}
use Rattle.source.specs.Texts.{HasTokens}
use Rattle.source.specs.Tokens.{seen}
use Rattle.language_server.specs.Actions.{actions_data, of_told, without_tokens}
use Rattle.language_server.proofs.ActionFloats.{none_in_told}
use Rattle.language_server.proofs.actions.code_actions.Goals as goal

pub returns-in-Err-Fault-clause-told : goal.returns-in-Err-Fault-clause-told
returns-in-Err-Fault-clause-told c =
    let given = rw (c.in-Err-Fault.field-0-is, c.as_bytes-text.ensures.value) at c.in-Err-Fault.ensures.fault in
    rw c.no_actions.ensures (without_tokens given.0)

pub returns-clause-told : goal.returns-clause-told
returns-clause-told c =
    let asked = c.args.asked.now in
    let text = asked.text.now in
    let told = said_by c.in_ok-told.told in
    let tokens = c.in-Ok.tokens.items in
    let is_told : IsToldOf text told = rw c.as_bytes-text.ensures.value at c.in_ok-told.ensures in
    let has : HasTokens text (seen tokens) = rw c.as_bytes-text.ensures.value at c.in-Ok.ensures.found in
    let found : view c.in_ok-found.found ≡ actions_data asked.uri.now text (asked.start, asked.end) (seen tokens) told =
    c.in_ok-found.ensures
    ∙ ap (λ (ts : List Token). actions_data asked.uri.now text (asked.start, asked.end) (seen ts) told)
    c.deref.ensures.value in
    rw found (of_told is_told has)

pub returns-clause-plain : goal.returns-clause-plain
returns-clause-plain c = ap has_float c.in_ok-found.ensures ∙ none_in_told _ _ _ _ (said_by c.in_ok-told.told)
