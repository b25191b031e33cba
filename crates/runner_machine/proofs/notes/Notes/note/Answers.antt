use Rattle.std.proofs.Common.{◌≡◌, ◌<◌, ◌++◌, ◌∷◌, [], ℕ, List, ap, sym, ◌∙◌, arith, subst, rules, None}
use Rattle.core_lang.specs.declared.value.Value.{Value}
use Rattle.runner_machine.specs.Working.Noted.{NotesOf, number_of}
use Rattle.runner_machine.proofs.Padded.{noted_anew}
use Rattle.runner_machine.proofs.notes.Notes.note.Goals as goal

pub returns-in-None : goal.returns-in-None
returns-in-None c =
    let pushed : c.push.new.self.items ≡ c.self.inside.list.items ++ (c.args.cell, c.args.value) ∷ [] = search rules in
    noted_anew c.self.inside.marks.items c.fill.new.marks.items c.self.inside.list.items c.push.new.self.items c.self.inside.long c.self.inside.room
    c.args.place c.args.cell c.len.result c.args.value c.args.self.now c.self.view_is (search rules) c.self.invariant.2
    (search rules) c.fill.ensures.filled (search rules) pushed
