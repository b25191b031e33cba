use Rattle.std.proofs.Common.{◌∙◌, ◌∷◌, [], length, sym, ap, subst, arith}
use Rattle.std.specs.List.{All, Contains}
use Rattle.std.proofs.Math.ListN.{length-set}
use Rattle.moved_cells.specs.Working.Grants.{GrantOf, IsWhole}
use Rattle.locks.specs.declared.lock.Lock.{Lock}
use Rattle.layout.specs.LockCells.{cells_of}
use Rattle.lock_manager.proofs.Lists.{all_front, all_last}
use Rattle.lock_manager.proofs.GivenBack.{one_restored}
use Rattle.std.proofs.lemmas.Option.{slice_get_within}
use Rattle.lock_manager.proofs.committed.Committed.restore.Goals as goal

pub loop-grant-preserved-in-Some : goal.loop-grant-preserved-in-Some
loop-grant-preserved-in-Some c = record {
  all = one_restored c.args.self.now c.loop-grant.places.items c.loop-grant.grants.items c.pop.new.self.items c.in-Some.grant _ _ c.number_of-number.result
      c.in-Some.ensures.items c.into_parts-cells.ensures.lock c.reset.ensures c.number_of-number.ensures.found ∙ c.loop-grant.invariant.all;
  count = length-set c.loop-grant.places.items c.number_of-number.result _ ∙ c.loop-grant.invariant.count;
  whole = all_front (IsWhole c.args.self.now.layout.cell_locks) c.pop.new.self.items (c.in-Some.grant ∷ [])
      (subst (All (IsWhole c.args.self.now.layout.cell_locks)) c.in-Some.ensures.items c.loop-grant.invariant.whole);
  listed = all_front (λ (g : GrantOf). Contains c.args.self.now.layout.locks g.lock) c.pop.new.self.items (c.in-Some.grant ∷ [])
      (subst (All (λ (g : GrantOf). Contains c.args.self.now.layout.locks g.lock)) c.in-Some.ensures.items c.loop-grant.invariant.listed);
}

pub loop-grant-preserved : goal.loop-grant-preserved
loop-grant-preserved c = record {
  all = one_restored c.args.self.now c.loop-grant.places.items c.loop-grant.grants.items c.pop.new.self.items c.in-Some.grant _ _ c.number_of-number.result
      c.in-Some.ensures.items c.into_parts-cells.ensures.lock c.reset.ensures c.number_of-number.ensures.found ∙ c.loop-grant.invariant.all;
  count = length-set c.loop-grant.places.items c.number_of-number.result _ ∙ c.loop-grant.invariant.count;
  whole = all_front (IsWhole c.args.self.now.layout.cell_locks) c.pop.new.self.items (c.in-Some.grant ∷ [])
      (subst (All (IsWhole c.args.self.now.layout.cell_locks)) c.in-Some.ensures.items c.loop-grant.invariant.whole);
  listed = all_front (λ (g : GrantOf). Contains c.args.self.now.layout.locks g.lock) c.pop.new.self.items (c.in-Some.grant ∷ [])
      (subst (All (λ (g : GrantOf). Contains c.args.self.now.layout.locks g.lock)) c.in-Some.ensures.items c.loop-grant.invariant.listed);
}

pub reset-requires-clause-listed : goal.reset-requires-clause-listed
reset-requires-clause-listed c =
    subst (λ (l : Lock). Contains c.args.self.now.layout.locks l) (sym c.into_parts-cells.ensures.lock)
    (all_last (λ (g : GrantOf). Contains c.args.self.now.layout.locks g.lock) c.pop.new.self.items c.in-Some.grant
    (subst (All (λ (g : GrantOf). Contains c.args.self.now.layout.locks g.lock)) c.in-Some.ensures.items c.loop-grant.invariant.listed))

pub reset-requires-clause-count : goal.reset-requires-clause-count
reset-requires-clause-count c =
    ap length c.into_parts-cells.ensures.cells
    ∙ all_last (IsWhole c.args.self.now.layout.cell_locks) c.pop.new.self.items c.in-Some.grant
    (subst (All (IsWhole c.args.self.now.layout.cell_locks)) c.in-Some.ensures.items c.loop-grant.invariant.whole)
    ∙ ap (λ (l : Lock). length (cells_of c.args.self.now.layout.cell_locks l)) (sym c.into_parts-cells.ensures.lock)

pub number_of-number-requires : goal.number_of-number-requires
number_of-number-requires c =
    subst (λ (l : Lock). Contains c.args.self.now.layout.locks l) (sym c.into_parts-cells.ensures.lock)
    (all_last (λ (g : GrantOf). Contains c.args.self.now.layout.locks g.lock) c.pop.new.self.items c.in-Some.grant
    (subst (All (λ (g : GrantOf). Contains c.args.self.now.layout.locks g.lock)) c.in-Some.ensures.items c.loop-grant.invariant.listed))

pub index_mut-requires : goal.index_mut-requires
index_mut-requires c =
    omega (
      arith,
      slice_get_within c.args.self.now.layout.locks c.number_of-number.result c.into_parts-cells.result.0 c.number_of-number.ensures.at,
      c.loop-grant.invariant.count,
      c.loop-grant.places.ok.0,
    )
