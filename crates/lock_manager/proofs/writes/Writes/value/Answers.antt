use Rattle.std.proofs.Common.{◌∙◌, ◌≡◌, None, sym}
use Rattle.std.specs.Prelude.{pos}
use Rattle.std.proofs.lemmas.Option.{slice_get-get_or}
use Rattle.core_lang.specs.declared.value.Value.TheVariants.{Int}
use Rattle.code.specs.Memory.{value_at}
use Rattle.lock_manager.proofs.writes.Writes.value.Goals.{then-self, else-self}
use Rattle.lock_manager.proofs.writes.Writes.value.Goals as goal

pub returns-in-None : goal.returns-in-None
returns-in-None c =
    let none : value_at c.args.self.now.writes.now c.args.cell ≡ None = elim c.if-self.branch [
      | then-self w ↦ sym w.halved-written.ensures ∙ sym w.written-is ∙ c.in-None.is
      | else-self w ↦ sym w.searched-written.ensures ∙ sym w.written-is ∙ c.in-None.is
    ] in
    c.written_values_stand.ensures.unwritten c.args.values.now c.args.self.now.writes.now c.args.cell none
    ∙ slice_get-get_or c.args.values.now c.args.cell (Int (pos 0)) c.requires
