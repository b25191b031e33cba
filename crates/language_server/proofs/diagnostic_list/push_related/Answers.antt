use Rattle.std.proofs.Common.{◌∙◌, ◌++◌, ◌∷◌, [], map, string_bytes, sym, ap}
use Rattle.std.proofs.lemmas.List.{map_push}
use Rattle.serde_json.specs.View.{view}
use Rattle.language_server.specs.Diagnostics.{related_data, related_of_note}
use Rattle.language_server.proofs.diagnostic_list.push_related.Goals as goal

pub returns : goal.returns
returns c =
    let uri = c.args.places.now.document.uri.now in
    let text = c.args.places.now.document.text.now in
    let words = string_bytes c.args.note.now.words in
    let before = map view c.args.values.now.items in
    let said = c.in_ok-related.ensures ∙ ap (related_data uri text c.in-Some.start) c.as_str.ensures.value in
    ap (map view) c.in_ok-push.ensures.items ∙ map_push view c.args.values.now.items _ ∙ ap (λ d. before ++ d ∷ []) said
    ∙ sym (ap (λ start. before ++ related_of_note uri text start words) c.in-Some.is)
