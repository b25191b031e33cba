use Rattle.std.proofs.Common.{◌≡◌, ◌∙◌, Some, None, subst, sym, ap, arith, refl}
use Rattle.std.proofs.lemmas.Option.{slice_get_within}
use Rattle.lock_manager.specs.Manager.{Managed}
use Rattle.lock_manager.specs.Working.Managers.{managed, cell_of}
use Rattle.lock_manager.proofs.Rules.{as_many_values, free_cell, taken_cell, place_within}
use Rattle.lock_manager.proofs.manager.Manager.cell.Goals as goal
use Rattle.core_lang.specs.Theory.Items.{read_at}

pub value-requires : goal.value-requires
value-requires c =
    let x = c.self.inside in
    let m = managed x.committed x.ranks.now x.places.items x.queue x.sections x.history.commits in
    omega (arith, slice_get_within m.layout.cell_locks c.args.cell c.in_ok-lock.lock (sym c.in_ok-lock.ensures.lock), as_many_values m c.self.invariant.0 c.one_entry_more.ensures.size)

pub returns-in-Free : goal.returns-in-Free
returns-in-Free c =
    let x = c.self.inside in
    let m = managed x.committed x.ranks.now x.places.items x.queue x.sections x.history.commits in
    let n = c.number_of.result in
    let here = read_at m.places n c.index.result.now (place_within m n c.in_ok-lock.lock c.self.invariant.0 c.number_of.ensures.at) c.index.ensures ∙ ap Some c.in-Free.is in
    subst (λ (v : Managed). Some c.value.result ≡ cell_of v c.args.cell) c.self.view_is
    (free_cell m c.args.cell c.in_ok-lock.lock n c.in-Free.field-0 c.value.result c.self.invariant.0 c.one_entry_more.ensures.size (sym c.in_ok-lock.ensures.lock) c.number_of.ensures.found here c.value.ensures)

pub returns-in-Taken : goal.returns-in-Taken
returns-in-Taken c =
    let x = c.self.inside in
    let m = managed x.committed x.ranks.now x.places.items x.queue x.sections x.history.commits in
    let n = c.number_of.result in
    let here = read_at m.places n c.index.result.now (place_within m n c.in_ok-lock.lock c.self.invariant.0 c.number_of.ensures.at) c.index.ensures ∙ ap Some c.in-Taken.is in
    subst (λ (v : Managed). None ≡ cell_of v c.args.cell) c.self.view_is
    (taken_cell m c.args.cell c.in_ok-lock.lock n c.in-Taken.field-0 (sym c.in_ok-lock.ensures.lock) c.number_of.ensures.found here)

pub index-requires : goal.index-requires
index-requires c =
    let x = c.self.inside in
    let m = managed x.committed x.ranks.now x.places.items x.queue x.sections x.history.commits in
    omega (arith, place_within m c.number_of.result c.in_ok-lock.lock c.self.invariant.0 c.number_of.ensures.at, x.places.ok.0)

pub number_of-requires : goal.number_of-requires
number_of-requires c = c.in_ok-lock.ensures.listed c.in_ok-lock.lock refl
