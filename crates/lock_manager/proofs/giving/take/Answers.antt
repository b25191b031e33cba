use Rattle.std.proofs.Common.{ap, ◌∙◌, sym, Some}
use Rattle.lock_manager.specs.declared.places.LockPlace.TheVariants.{Taken}
use Rattle.lock_manager.proofs.Lists.{set_set}
use Rattle.lock_manager.proofs.giving.take.Goals as goal
use Rattle.core_lang.specs.Theory.Items.{set_itself, read_at}

pub returns-in-Taken-clause-stay : goal.returns-in-Taken-clause-stay
returns-in-Taken-clause-stay c =
    set_set c.args.places.now.items c.args.number c.replace.new.dest (Taken c.in-Taken.holder)
    ∙ set_itself c.args.places.now.items c.args.number (Taken c.in-Taken.holder)
    (read_at c.args.places.now.items c.args.number c.index_mut.result.now c.requires c.index_mut.ensures.value ∙ ap Some (sym c.replace.ensures.value ∙ c.in-Taken.is))

pub returns-in-Free-clause-free : goal.returns-in-Free-clause-free
returns-in-Free-clause-free c =
    read_at c.args.places.now.items c.args.number c.index_mut.result.now c.requires c.index_mut.ensures.value ∙ ap Some (sym c.replace.ensures.value ∙ c.in-Free.is)

pub returns-in-Taken-clause-taken : goal.returns-in-Taken-clause-taken
returns-in-Taken-clause-taken c =
    read_at c.args.places.now.items c.args.number c.index_mut.result.now c.requires c.index_mut.ensures.value ∙ ap Some (sym c.replace.ensures.value ∙ c.in-Taken.is)
