use Rattle.std.proofs.Common.{inl, inr, sym, ◌∙◌, arith}
use Rattle.std.proofs.lemmas.Bool.{cases_lt, both_ways}
use Rattle.lockorder.specs.Working.Tables.{IsReadyIn}
use Rattle.bit_set.specs.Working.Sets.{has_number}
use Rattle.lockorder.proofs.InSection.{none_next}
use Rattle.lockorder.proofs.table.Table.next.Goals as goal
use Rattle.lockorder.proofs.table.Table.next.Goals.{else-not-contains-via-then-not-contains+else-is_behind}
use Rattle.lockorder.proofs.table.Table.next.Goals.{else-not-contains-via-else-not-contains}

pub returns-then-is_behind : goal.returns-then-is_behind
returns-then-is_behind c = record {
  ready = record {
    class = omega (arith, c.loop-class-test.true, c.len-class-end.ensures, c.args.self.now.before.ok.0);
    new = λ e. both_ways (has_number c.args.listed c.loop-class.class) (sym c.contains.ensures ∙ c.if-not-contains.true) e;
    listed_before = c.is_behind.ensures.0 c.if-is_behind.true;
  };
  lowest = λ d is. elim (cases_lt d c.loop-class.class) [ inl less ↦ absurd (c.loop-class.invariant d less is) | inr ge ↦ ge ];
}

pub returns : goal.returns
returns c d is = c.loop-class.invariant d (omega (arith, is.class, c.loop-class-test.false, c.len-class-end.ensures, c.args.self.now.before.ok.0)) is

pub loop-class-preserved : goal.loop-class-preserved
loop-class-preserved c =
    none_next (IsReadyIn c.args.self.now.before.items c.args.listed) c.loop-class.class c.loop-class.invariant (λ is. elim c.else-not-contains.branch [
      | else-not-contains-via-then-not-contains+else-is_behind w ↦ both_ways w.is_behind.result w.if-is_behind.false (w.is_behind.ensures.1 is.listed_before)
      | else-not-contains-via-else-not-contains w ↦ is.new (sym c.contains.ensures ∙ w.if-not-contains.false)
    ])
