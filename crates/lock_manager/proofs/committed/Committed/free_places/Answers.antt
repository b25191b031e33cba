use Rattle.std.proofs.Common.{◌≡◌, ℕ, ◌<◌, List, length, Some, sym, ap, ◌∙◌, subst, arith, get_or, Vec, Global}
use Rattle.std.specs.Prelude.{slice_get}
use Rattle.std.specs.List.{All}
use Rattle.core_lang.specs.declared.value.Value.{Value}
use Rattle.moved_cells.specs.Working.Grants.{values_on}
use Rattle.lock_manager.specs.declared.places.LockPlace.TheVariants.{Free}
use Rattle.lock_manager.specs.Working.Committed.{CommittedOf, rows, members_of}
use Rattle.lock_manager.proofs.Members.{row_within, rows_long}
use Rattle.lock_manager.proofs.GivenBack.{one_place_more, all_places}
use Rattle.lock_manager.proofs.committed.Committed.free_places.Goals as goal
use Rattle.core_lang.specs.Theory.Items.{read_at, map_at}

pub cells_with-requires : goal.cells_with-requires
cells_with-requires c =
    let x = c.self.inside in
    subst (λ (cs : List ℕ). All (λ (cell : ℕ). cell < length c.deref-in-loop-row.result.now) cs) (sym c.deref.ensures.value)
    (row_within x.layout.now x.members.items c.self.invariant.members c.loop-row.row-index c.row-item.result (length c.deref-in-loop-row.result.now)
    (sym c.self.invariant.count ∙ sym (ap length c.deref-in-loop-row.ensures.value))
    (read_at x.members.items c.loop-row.row-index c.row-item.result
    (omega (arith, c.loop-row-test.true, ap length c.deref-row-items.ensures.value))
    (subst (λ (vs : List (Vec ℕ Global)). c.row-item.result ≡ get_or vs c.loop-row.row-index c.row-item.result) c.deref-row-items.ensures.value c.row-item.is)))

pub loop-row-preserved : goal.loop-row-preserved
loop-row-preserved c =
    let x = c.self.inside in
    let at : slice_get x.members.items c.loop-row.row-index ≡ Some c.row-item.result =
    read_at x.members.items c.loop-row.row-index c.row-item.result
    (omega (arith, c.loop-row-test.true, ap length c.deref-row-items.ensures.value))
    (subst (λ (vs : List (Vec ℕ Global)). c.row-item.result ≡ get_or vs c.loop-row.row-index c.row-item.result) c.deref-row-items.ensures.value c.row-item.is) in
    let heap : c.deref-in-loop-row.result.now ≡ c.args.self.now.values = c.deref-in-loop-row.ensures.value ∙ ap (λ (v : CommittedOf). v.values) c.self.view_is in
    c.in_ok-push.ensures.items
    ∙ one_place_more (λ (r : List ℕ). Free (values_on c.args.self.now.values r)) (rows x.members.items) c.loop-row.row-index c.row-item.result.items c.loop-row.places.items
    (Free c.in_ok-cells_with.field-0) (map_at (λ (v : Vec ℕ Global). v.items) x.members.items c.loop-row.row-index c.row-item.result at) c.loop-row.invariant
    (ap (λ (vs : List Value). Free vs) (c.in_ok-cells_with.ensures ∙ ap (λ (h : List Value). values_on h c.deref.result.now) heap ∙ ap (values_on c.args.self.now.values) c.deref.ensures.value))

pub returns : goal.returns
returns c =
    let x = c.self.inside in
    all_places c.args.self.now.layout c.args.self.now.values (rows x.members.items) c.loop-row.places.items c.loop-row.row-index
    (c.self.invariant.members ∙ ap (λ (v : CommittedOf). members_of v.layout) c.self.view_is)
    (omega (arith, c.loop-row-test.false, ap length c.deref-row-items.ensures.value, rows_long x.members.items)) c.loop-row.invariant
