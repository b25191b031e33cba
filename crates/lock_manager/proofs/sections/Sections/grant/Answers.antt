use Rattle.std.proofs.Common.{Some, set, length, List, Option, sym, ap, ◌∙◌, arith, ◌<◌, subst}
use Rattle.lock_manager.specs.Manager.{SessionOf}
use Rattle.lock_manager.specs.Working.Sessions.{with_lock}
use Rattle.lock_manager.specs.Manager.{session_in}
use Rattle.lock_manager.proofs.Slots.{none_there, some_there, slot_within}
use Rattle.std.proofs.lemmas.Option.{none-some}
use Rattle.std.proofs.Math.ListN.{length-set}
use Rattle.lock_manager.proofs.sections.Sections.grant.Goals as goal
use Rattle.core_lang.specs.Theory.Items.{some_same}

pub unreachable-requires : goal.unreachable-requires
unreachable-requires c =
    let none = none_there c.self.inside.slots.items c.args.thread c.index_mut.result.now c.index_mut.ensures.value c.in-None.is in
    none-some c.requires.session (sym none ∙ ap (λ (v : List (Option SessionOf)). session_in v c.args.thread) c.self.view_is ∙ c.requires.is)

pub index_mut-requires : goal.index_mut-requires
index_mut-requires c = omega (arith, slot_within c.args.self.now c.args.thread c.requires.session c.requires.is, ap length c.self.view_is, c.self.inside.slots.ok.0)

pub grant-requires : goal.grant-requires
grant-requires c =
    let there = some_there c.self.inside.slots.items c.args.thread c.index_mut.result.now c.requires.session c.index_mut.ensures.value
    (ap (λ (v : List (Option SessionOf)). session_in v c.args.thread) c.self.view_is ∙ c.requires.is) in
    subst (λ (x : SessionOf). length x.held < x.room.locks) (sym (some_same c.in-Some.session c.requires.session (sym c.in-Some.is ∙ there))) c.requires.room

pub returns : goal.returns
returns c = λ s e.
    let there = some_there c.self.inside.slots.items c.args.thread c.index_mut.result.now s c.index_mut.ensures.value
    (ap (λ (v : List (Option SessionOf)). session_in v c.args.thread) c.self.view_is ∙ e) in
    let same = some_same c.in-Some.session s (sym c.in-Some.is ∙ there) in
    ap (λ (v : List (Option SessionOf)). set v c.args.thread (Some c.grant.new.self)) c.self.view_is
    ∙ ap (λ (x : SessionOf). set c.args.self.now c.args.thread (Some x)) (c.grant.ensures ∙ ap (λ (x : SessionOf). with_lock x c.args.lock) same)

pub invariant_of-self : goal.invariant_of-self
invariant_of-self c = (length-set c.self.inside.slots.items c.args.thread _ ∙ c.self.invariant.0, c.self.invariant.1)
