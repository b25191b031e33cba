use Rattle.std.proofs.Common.{◌≡◌, ◌-◌, ℕ, drop, get_or, length, refl, sym, subst, ◌∙◌, arith}
use Rattle.std.proofs.lemmas.List.{drop_all}
use Rattle.locks.specs.declared.lock.Lock.{Lock}
use Rattle.locks.specs.Locks.{same_lock}
use Rattle.locks.specs.Theory.Order.{same_is}
use Rattle.lock_manager.proofs.Lists.{not_false, drop_less_same}
use Rattle.lock_manager.proofs.session.same_locks.Goals as goal

pub loop-left-init : goal.loop-left-init
loop-left-init c = record {
  same = drop_all (length c.args.a.now) c.args.a.now (omega arith) ∙ sym (drop_all (length c.args.a.now) c.args.b.now (omega (arith, c.if-a-b.false)));
  within = omega arith;
}

pub loop-left-preserved : goal.loop-left-preserved
loop-left-preserved c =
    let d : Lock = record { class = 0; object = 0 } in
    let a = get_or c.args.a.now (c.loop-left.left - 1) d in
    let b = get_or c.args.b.now (c.loop-left.left - 1) d in
    record {
      same = drop_less_same c.args.a.now c.args.b.now c.loop-left.left d c.loop-left-test.true c.loop-left.invariant.within c.if-a-b.false
          (same_is a b (not_false (same_lock a b) (sym c.ne.ensures ∙ c.if-ne.false))) c.loop-left.invariant.same;
      within = omega (arith, c.loop-left.invariant.within);
    }

pub returns : goal.returns
returns c =
    let none : c.loop-left.left ≡ 0 = omega (arith, c.loop-left-test.false) in
    (λ e. subst (λ (n : ℕ). drop n c.args.a.now ≡ drop n c.args.b.now) none c.loop-left.invariant.same, λ same. refl)
