use Rattle.std.proofs.Common.{◌≡◌, ◌<◌, ℕ, List, ap, sym, ◌∙◌, arith}
use Rattle.std.specs.Prelude.{slice_get, slice_index_or}
use Rattle.core_lang.specs.declared.value.Value.{Value}
use Rattle.runner_machine.specs.Working.Noted.{NotesOf, number_of, if_of}
use Rattle.runner_machine.proofs.Padded.{number_padded}
use Rattle.runner_machine.proofs.notes.Notes.number.Goals as goal

pub returns : goal.returns
returns c =
    let x = c.self.inside in
    let mark : c.mark_at.result ≡ slice_index_or x.marks.items c.args.place 0 =
    c.mark_at.ensures ∙ ap (λ (ms : List ℕ). slice_index_or ms c.args.place 0) c.deref-2.ensures.value in
    let within : c.args.place < x.long = omega (arith, c.self.invariant.0, c.requires, ap (λ (n : NotesOf). n.room) c.self.view_is) in
    c.led_by.ensures
    ∙ ap (λ (xs : List (ℕ × Value)). if_of c.args.cell c.mark_at.result (slice_get xs c.mark_at.result)) c.deref.ensures.value
    ∙ sym (number_padded x.marks.items x.list.items x.long x.room c.args.place c.args.cell c.mark_at.result within mark)
    ∙ ap (λ (n : NotesOf). number_of n c.args.place c.args.cell) c.self.view_is
