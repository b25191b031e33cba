use Rattle.std.proofs.Common.{◌≡◌, ap, sym, ◌∙◌, length, subst, ℕ, arith}
use Rattle.core_lang.specs.declared.typed.Typed.{Typed}
use Rattle.layout.specs.Layouts.{LayoutOf, IsLayoutOf}
use Rattle.lock_manager.specs.Working.Managers.{opened}
use Rattle.interleavings.specs.Working.States.{AreReady}
use Rattle.interleavings.specs.Threads.{threads_of}
use Rattle.interleavings.proofs.Opening.{tied_at_first, world_is}
use Rattle.interleavings.proofs.world.World.open.Goals as goal

pub open-requires : goal.open-requires
open-requires c =
    (c.args.program.now.program, subst (IsLayoutOf c.args.program.now.program) (sym c.layout.ensures) c.expanded-typed.ensures.compiled.laid_out)

pub invariant_of-result : goal.invariant_of-result
invariant_of-result c =
    let plan = c.args.program.now in
    let is : c.in_ok-manager.manager ≡ opened plan.layout plan.ranks =
    c.in_ok-manager.ensures ∙ ap (λ (l : LayoutOf). opened l c.ranks.result.now) c.layout.ensures ∙ ap (opened plan.layout) c.ranks.ensures in
    let same = ap (λ (t : Typed). length t.threads.items) c.expanded-typed.ensures.program in
    let count : c.len.result ≡ length plan.program.threads.items = omega (arith, c.len.ensures, c.expanded-typed.result.now.threads.ok.0, same) in
    let ready : AreReady (length plan.program.threads.items) c.in_ok-states.states.items =
    subst (λ (n : ℕ). AreReady n c.in_ok-states.states.items) count c.in_ok-states.ensures in
    tied_at_first plan c.in_ok-manager.manager c.in_ok-states.states.items c.expanded-typed.ensures.compiled is ready
    c.keeps_its_rules.ensures.rules_kept c.one_entry_more.ensures.size c.steps_keep_sound.ensures.opening c.worlds_stay_ready.ensures

pub returns : goal.returns
returns c =
    let plan = c.args.program.now in
    let is : c.in_ok-manager.manager ≡ opened plan.layout plan.ranks =
    c.in_ok-manager.ensures ∙ ap (λ (l : LayoutOf). opened l c.ranks.result.now) c.layout.ensures ∙ ap (opened plan.layout) c.ranks.ensures in
    let same = ap (λ (t : Typed). length t.threads.items) c.expanded-typed.ensures.program in
    let count : c.len.result ≡ length plan.program.threads.items = omega (arith, c.len.ensures, c.expanded-typed.result.now.threads.ok.0, same) in
    let ready : AreReady (length plan.program.threads.items) c.in_ok-states.states.items =
    subst (λ (n : ℕ). AreReady n c.in_ok-states.states.items) count c.in_ok-states.ensures in
    ap (threads_of plan) (world_is plan c.in_ok-manager.manager c.in_ok-states.states.items c.expanded-typed.ensures.compiled is ready
    c.keeps_its_rules.ensures.rules_kept c.one_entry_more.ensures.size c.steps_keep_sound.ensures.opening)
