use Rattle.std.proofs.Common.{◌≡◌, ◌∙◌, ap, sym, map, List, [], ◌∷◌, ◌++◌, Option, option_to_list}
use Rattle.std.specs.Option.{option_map}
use Rattle.explanation.specs.Notes.{Note, note_of}
use Rattle.source.specs.Tokens.{seen}
use Rattle.explanation_tokens.specs.Advice.{advice_on}
use Rattle.explanation_tokens.proofs.Firsts.{noted_is}
use Rattle.explanation_tokens.proofs.notes.advice.Goals as goal
use Rattle.explanation_tokens.proofs.notes.advice.Goals.{in-Some+in_ok-push, in_default}

pub returns : goal.returns
returns c =
    let ts = seen c.args.tokens.now in
    let n = c.args.number in
    let is : option_map note_of c.in_ok-note.field-0 ≡ advice_on ts n = c.in_ok-note.ensures ∙ noted_is c.in_ok-view.view ts n c.in_ok-view.ensures in
    elim c.match-branch-3.branch [
      | in-Some+in_ok-push w ↦
          ap (λ v. map note_of v.items) w.notes-is
          ∙ ap (map note_of) (w.in_ok-push.ensures.items ∙ ap (λ (l : List _). l ++ w.in-Some.note ∷ []) c.new-notes.ensures.items)
          ∙ ap (λ (o : Option Note). option_to_list o) (ap (option_map note_of) (sym w.in-Some.is) ∙ is)
      | in_default w ↦
          ap (λ v. map note_of v.items) w.notes-is
          ∙ ap (map note_of) c.new-notes.ensures.items
          ∙ ap (λ (o : Option Note). option_to_list o) (ap (option_map note_of) (sym w.in_default.is) ∙ is)
    ]
