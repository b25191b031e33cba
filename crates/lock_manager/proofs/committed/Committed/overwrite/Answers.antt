use Rattle.std.proofs.Common.{◌∙◌, length, ap, subst, sym}
use Rattle.code.specs.Theory.Values.{length-overwritten}
use Rattle.lock_manager.specs.Working.Committed.{CommittedOf, AreOfCells}
use Rattle.lock_manager.proofs.committed.Committed.overwrite.Goals as goal

pub invariant_of-self : goal.invariant_of-self
invariant_of-self c = record {
  members = c.self.invariant.members;
  distinct = c.self.invariant.distinct;
  count = ap length c.write_all.ensures ∙ length-overwritten c.self.inside.values.items c.args.writes.now ∙ c.self.invariant.count;
}

pub write_all-requires : goal.write_all-requires
write_all-requires c = subst (λ (v : CommittedOf). AreOfCells v c.args.writes.now) (sym c.self.view_is) c.requires
