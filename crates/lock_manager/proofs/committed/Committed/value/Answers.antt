use Rattle.std.proofs.Common.{◌<◌, ◌∙◌, length, subst, sym, ap}
use Rattle.std.specs.Prelude.{slice_get}
use Rattle.lock_manager.specs.Working.Committed.{CommittedOf}
use Rattle.lock_manager.proofs.committed.Committed.value.Goals as goal
use Rattle.core_lang.specs.Theory.Items.{read_at}

pub returns : goal.returns
returns c =
    let lt = subst (λ (v : CommittedOf). c.args.cell < length v.values) (sym c.self.view_is) c.requires in
    sym (ap (λ (v : CommittedOf). slice_get v.values c.args.cell) c.self.view_is) ∙ read_at c.self.inside.values.items c.args.cell c.index.result.now lt c.index.ensures
