use Rattle.std.proofs.Common.{◌≡◌, length, vec_len}
use Rattle.std.specs.List.{Contains, All}
use Rattle.moved_cells.specs.Working.Grants.{GrantOf}
use Rattle.lock_manager.specs.Working.Managers.{given_back}
use Rattle.lock_manager.proofs.committed.Committed.put_back.Given as goal

abbrev pub invariant-loop-grant : goal.invariant-loop-grant
invariant-loop-grant l = record {
  all : given_back l.self.layout.locks l.places.items l.grants.items ≡ given_back l.self.layout.locks l.fn.places.items l.fn.grants.items;
  count : length l.places.items ≡ length l.self.layout.locks;
  listed : All (λ (g : GrantOf). Contains l.self.layout.locks g.lock) l.grants.items;
}

abbrev pub decreases-loop-grant : goal.decreases-loop-grant
decreases-loop-grant l = vec_len l.grants
