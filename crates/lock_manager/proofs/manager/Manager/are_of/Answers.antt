use Rattle.std.proofs.Common.{List, ap, subst, sym}
use Rattle.std.specs.List.{All, Contains}
use Rattle.locks.specs.declared.lock.Lock.{Lock}
use Rattle.moved_cells.specs.Working.Grants.{GrantOf, IsWhole}
use Rattle.lock_manager.specs.Manager.{Managed}
use Rattle.lock_manager.proofs.Lists.{never_both}
use Rattle.lock_manager.proofs.manager.Manager.are_of.Goals as goal
use Rattle.core_lang.specs.Theory.Items.{all_contained, all_from, both_false}

pub are_in_step-requires : goal.are_in_step-requires
are_in_step-requires c = subst (λ (v : Managed). All (Contains v.layout.locks) c.args.held.now) (sym c.self.view_is) c.requires

pub are_whole-requires : goal.are_whole-requires
are_whole-requires c =
    subst (λ (v : Managed). All (λ (g : GrantOf). Contains v.layout.locks g.lock) c.args.grants.now) (sym c.self.view_is)
    (all_from (λ (g : GrantOf). Contains c.args.self.now.layout.locks g.lock) c.args.grants.now (λ g there.
    all_contained (Contains c.args.self.now.layout.locks) c.args.held.now g.lock c.requires
    (all_contained (λ (x : GrantOf). Contains c.args.held.now x.lock) c.args.grants.now g (c.all_held.ensures.0 c.if-not-all_held.false) there)))

pub returns : goal.returns
returns c =
    let layout = ap (λ (v : Managed). v.layout.cell_locks) c.self.view_is in (
      λ e. record {
        count = c.if-grants-held.false;
        all = c.all_granted.ensures.0 c.if-not-all_granted.false;
        only = c.all_held.ensures.0 c.if-not-all_held.false;
        whole = subst (λ (ls : List Lock). All (IsWhole ls) c.args.grants.now) layout (c.are_whole.ensures.0 e);
      },
      λ own. c.are_whole.ensures.1 (subst (λ (ls : List Lock). All (IsWhole ls) c.args.grants.now) (sym layout) own.whole),
    )

pub returns-then-grants-held : goal.returns-then-grants-held
returns-then-grants-held c = both_false (λ own. c.if-grants-held.true own.count)

pub returns-then-not-all_granted : goal.returns-then-not-all_granted
returns-then-not-all_granted c = both_false (λ own. never_both (c.all_granted.ensures.1 own.all) c.if-not-all_granted.true)

pub returns-then-not-all_held : goal.returns-then-not-all_held
returns-then-not-all_held c = both_false (λ own. never_both (c.all_held.ensures.1 own.only) c.if-not-all_held.true)
