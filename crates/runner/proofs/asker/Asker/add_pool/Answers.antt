use Rattle.std.proofs.Common.{◌+◌, ◌-◌, ℕ, List, length, map, ap, arith}
use Rattle.locks.specs.declared.lock.Lock.{Lock}
use Rattle.locks.specs.Locks.{object_lock}
use Rattle.worlds.specs.Asking.{insert_new, insert_all}
use Rattle.runner.proofs.Asked.{range_next, range_is_longer}
use Rattle.runner.proofs.asker.Asker.add_pool.Goals as goal

pub add_lock-requires : goal.add_lock-requires
add_lock-requires c =
    let a = c.args.self.now in
    let ranks = a.program.now.ranks in
    let held = a.machine.now.locks in
    let pool = c.args.pool.now in
    let left = c.loop-left.left in
    let old = c.args.pending.now.locks in
    let lock = object_lock c.args.class (pool.first + (left - 1)) in
    let next =
    ap (λ (objects : List ℕ). insert_all ranks held (map (object_lock c.args.class) objects) old)
    (range_next pool.first pool.length left c.loop-left-test.true c.loop-left.invariant.0) in
    let more = ap (λ (ps : List Lock). length (insert_new ranks held lock ps)) c.loop-left.invariant.1 in
    let whole = range_is_longer ranks held c.args.class old pool.first (left - 1) (pool.length - (left - 1)) pool.length
    (omega (arith, c.loop-left.invariant.0)) in
    omega (arith, ap length next, more, whole, c.requires.room, c.loop-left.invariant.2)
