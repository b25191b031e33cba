use Rattle.std.proofs.Common.{◌++◌, ◌∙◌, [], List, Option, None, ap, append-nil, map, sym, arith}
use Rattle.std.specs.Option.{option_map_or}
use Rattle.std.proofs.lemmas.Option.{slice_get_past}
use Rattle.core_lang.specs.declared.tree.Section.{Section}
use Rattle.explanation.specs.Notes.{Note, note_of}
use Rattle.explanations.specs.CycleCalls.{calls_in}
use Rattle.explanations.proofs.cycle_calls.Calls.push_to.Goals as goal

pub returns-in-None : goal.returns-in-None
returns-in-None c =
    let program = c.args.self.now.program.now in
    let none = slice_get_past program.sections.items c.args.section (grind (arith, c.in-None.ensures.lookup, c.deref.ensures.value)) in
    sym (append-nil (map note_of c.args.notes.now.items))
    ∙ ap (λ (o : Option Section). map note_of c.args.notes.now.items ++ option_map_or (λ section. calls_in program section c.args.told.now c.args.at) o []) (sym none)
