use Rattle.std.proofs.Common.{◌∙◌, ◌-◌, length, arith, map, string_bytes, subst, ap, sym, List, ℕ}
use Rattle.core_lang.specs.declared.shape.Pool.{Pool}
use Rattle.replay.specs.Working.Names.{IsWithName}
use Rattle.replay.proofs.Numbering.{last_none, last_more}
use Rattle.replay.proofs.names.Numbers.of_pools.Goals as goal

pub loop-left-init : goal.loop-left-init
loop-left-init c = last_none (map (λ (x : Pool). string_bytes x.name) c.args.pools.now) c.new-numbers.result c.new-numbers.ensures

pub loop-left-preserved : goal.loop-left-preserved
loop-left-preserved c =
    let number = length c.args.pools.now - 1 - c.loop-left.left in
    last_more (λ (x : Pool). string_bytes x.name) c.args.pools.now c.loop-left.left number c.index-pools-number.result c.loop-left.numbers c.set.new.self
    c.loop-left.invariant (omega (arith, c.loop-left-test.true)) c.index-pools-number.is
    (subst (λ (name : List ℕ). IsWithName name number c.loop-left.numbers c.set.new.self)
    (c.as_bytes.ensures.value ∙ c.as_str.ensures.value ∙ ap (λ (x : Pool). string_bytes x.name) (sym c.index-pools-number.is)) c.in_ok-set.ensures)
