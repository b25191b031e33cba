use Rattle.std.proofs.Common.{◌≡◌, ◌∙◌, ◌+◌, ◌-◌, ◌≤◌, ◌<◌, ℕ, List, length, Some, true, refl, sym, ap, arith}
use Rattle.std.specs.Prelude.{◌==◌, get_or, slice_get}
use Rattle.std.proofs.lemmas.Bool.{eq-eqb}
use Rattle.std.proofs.lemmas.Option.{slice_get_read, slice_get_within, same_Some}
use Rattle.core_lang.specs.declared.shape.Pool.{Pool}
use Rattle.core_lang.specs.declared.typed.Typed.{Typed}
use Rattle.locks.specs.declared.lock.Lock.{Lock}
use Rattle.worlds.specs.Asking.{insert_all}
use Rattle.runner.specs.Working.Asked.{pool_locks}
use Rattle.runner.proofs.Asked.{pool_next, pools_are_longer}
use Rattle.runner.proofs.asker.Asker.add_members.Goals as goal

-- a pool of the program, read twice
record IsRead (program expanded : Typed) (left structure : ℕ) (tested pool : Pool) : Type 0 where
  at : slice_get program.shape.pools.items (left - 1) ≡ Some pool
  read : pool ≡ get_or program.shape.pools.items (left - 1) pool
  holds : (pool.structure == structure) ≡ true

is_read : (program expanded : Typed) (left structure : ℕ) (tested pool : Pool) → expanded ≡ program → 0 < left →
    left ≤ length program.shape.pools.items →
    tested ≡ get_or expanded.shape.pools.items (left - 1) tested → pool ≡ get_or expanded.shape.pools.items (left - 1) pool →
    tested.structure ≡ structure → IsRead program expanded left structure tested pool
is_read program expanded left structure tested pool same some le first second is =
    let pools = expanded.shape.pools.items in
    let long = ap (λ (t : Typed). length t.shape.pools.items) same in
    let lt : left - 1 < length pools = omega (arith, long, some, le) in
    let here : slice_get pools (left - 1) ≡ Some pool = slice_get_read pools (length pools) (left - 1) pool refl lt second in
    let there : slice_get pools (left - 1) ≡ Some tested = slice_get_read pools (length pools) (left - 1) tested refl lt first in
    let one : tested ≡ pool = same_Some tested pool (sym there ∙ here) in
    record {
      at = ap (λ (t : Typed). slice_get t.shape.pools.items (left - 1)) (sym same) ∙ here;
      read = second ∙ ap (λ (t : Typed). get_or t.shape.pools.items (left - 1) pool) same;
      holds = eq-eqb pool.structure structure (ap (λ (p : Pool). p.structure) (sym one) ∙ is);
    }

pub add_pool-requires-clause-numbers : goal.add_pool-requires-clause-numbers
add_pool-requires-clause-numbers c =
    let program = c.args.self.now.program.now.program in
    let pool = c.index-then-index-structure.result.now in
    let left = c.loop-left.left in
    let r = is_read program c.expanded.result.now left c.args.structure c.index.result.now pool c.expanded.ensures.program
    c.loop-left-test.true c.loop-left.invariant.0 c.index.ensures c.index-then-index-structure.ensures c.if-index-structure.true in
    λ i lt.
    let o = c.expanded.ensures.compiled.well_formed.laid_out.pool (left - 1) pool r.at i lt in
    let within = slice_get_within program.shape.objects.items (pool.first + i) o.0 o.1 in
    omega (arith, within, c.expanded.ensures.compiled.well_formed.within.objects)

pub add_pool-requires-clause-room : goal.add_pool-requires-clause-room
add_pool-requires-clause-room c =
    let a = c.args.self.now in
    let program = a.program.now.program in
    let ranks = a.program.now.ranks in
    let held = a.machine.now.locks in
    let class = c.args.class in
    let pools = program.shape.pools.items in
    let pool = c.index-then-index-structure.result.now in
    let left = c.loop-left.left in
    let old = c.args.pending.now.locks in
    let r = is_read program c.expanded.result.now left c.args.structure c.index.result.now pool c.expanded.ensures.program
    c.loop-left-test.true c.loop-left.invariant.0 c.index.ensures c.index-then-index-structure.ensures c.if-index-structure.true in
    let next = pool_next ranks held class old c.args.structure pools left pool c.loop-left-test.true c.loop-left.invariant.0 r.read r.holds in
    let now = ap (λ (ps : List Lock). length (insert_all ranks held (pool_locks class pool) ps)) c.loop-left.invariant.1 in
    let whole = pools_are_longer ranks held class old c.args.structure pools (left - 1) in
    omega (arith, ap length next, now, whole, c.requires, c.loop-left.invariant.2)

pub loop-left-preserved-then-index-structure : goal.loop-left-preserved-then-index-structure
loop-left-preserved-then-index-structure c =
    let a = c.args.self.now in
    let program = a.program.now.program in
    let ranks = a.program.now.ranks in
    let held = a.machine.now.locks in
    let class = c.args.class in
    let pool = c.index-then-index-structure.result.now in
    let left = c.loop-left.left in
    let r = is_read program c.expanded.result.now left c.args.structure c.index.result.now pool c.expanded.ensures.program
    c.loop-left-test.true c.loop-left.invariant.0 c.index.ensures c.index-then-index-structure.ensures c.if-index-structure.true in
    let next = pool_next ranks held class c.args.pending.now.locks c.args.structure program.shape.pools.items left pool
    c.loop-left-test.true c.loop-left.invariant.0 r.read r.holds in (
      omega (arith, c.loop-left.invariant.0),
      c.add_pool.ensures.locks ∙ ap (insert_all ranks held (pool_locks class pool)) c.loop-left.invariant.1 ∙ sym next,
      omega (arith, c.loop-left.invariant.2, c.add_pool.ensures.room),
    )
