use Rattle.std.proofs.Common.{◌≡◌, ◌<◌, length, Some, set, refl, sym, ap, ◌∙◌, arith}
use Rattle.std.specs.Prelude.{slice_get}
use Rattle.std.proofs.lemmas.List.{set-set}
use Rattle.std.proofs.lemmas.Option.{slice_get_read}
use Rattle.interleavings.specs.declared.state.TypedState.{TypedState}
use Rattle.interleavings.specs.declared.state.TypedState.TheVariants as state
use Rattle.interleavings.specs.Working.States.{state_of}
use Rattle.interleavings.proofs.Along.{ran_tied, ran_steps, ran_moves}
use Rattle.interleavings.proofs.world.World.run_on.Goals as goal

pub invariant_of-self : goal.invariant_of-self
invariant_of-self c =
    let states = c.self.inside.states.items in
    let t = c.args.thread in
    let low : t < length states = omega (arith, c.if-thread-len.false, c.len.ensures) in
    let here : slice_get states t ≡ Some (state.Running c.in-Running-state.running) =
    slice_get_read states (length states) t c.index_mut.result.now refl low c.index_mut.ensures.value
    ∙ ap (λ (x : TypedState). Some x) (sym c.replace-state.ensures.value ∙ c.in-Running-state.is) in
    let last = set (set states t c.replace-state.new.dest) t c.put.new.place in
    let is : last ≡ set states t (state_of c.run-count.result.1) =
    set-set states t c.replace-state.new.dest c.put.new.place ∙ ap (set states t) (c.put.ensures ∙ c.state_of.ensures) in
    ran_tied c.self.inside.program.now c.self.inside.manager states last t c.in-Running-state.running c.run-count.result.1 c.args.self.now
    c.self.invariant c.keeps_its_rules.ensures.rules_kept c.one_entry_more.ensures.size c.steps_keep_sound.ensures.step
    c.worlds_stay_ready.ensures c.precedes_is_strict.ensures here is c.self.view_is
    c.args.most c.run-count.result.0 c.run-count.ensures.ran c.run-count.ensures.named

pub returns-clause-steps : goal.returns-clause-steps
returns-clause-steps c =
    let states = c.self.inside.states.items in
    let t = c.args.thread in
    let low : t < length states = omega (arith, c.if-thread-len.false, c.len.ensures) in
    let here : slice_get states t ≡ Some (state.Running c.in-Running-state.running) =
    slice_get_read states (length states) t c.index_mut.result.now refl low c.index_mut.ensures.value
    ∙ ap (λ (x : TypedState). Some x) (sym c.replace-state.ensures.value ∙ c.in-Running-state.is) in
    let last = set (set states t c.replace-state.new.dest) t c.put.new.place in
    let is : last ≡ set states t (state_of c.run-count.result.1) =
    set-set states t c.replace-state.new.dest c.put.new.place ∙ ap (set states t) (c.put.ensures ∙ c.state_of.ensures) in
    ran_steps c.self.inside.program.now c.self.inside.manager states last t c.in-Running-state.running c.run-count.result.1 c.args.self.now
    c.self.invariant c.keeps_its_rules.ensures.rules_kept c.one_entry_more.ensures.size c.steps_keep_sound.ensures.step
    c.worlds_stay_ready.ensures c.precedes_is_strict.ensures here is c.self.view_is
    c.args.most c.run-count.result.0 c.run-count.ensures.ran c.run-count.ensures.named

pub returns-clause-moves : goal.returns-clause-moves
returns-clause-moves c =
    let states = c.self.inside.states.items in
    let t = c.args.thread in
    let low : t < length states = omega (arith, c.if-thread-len.false, c.len.ensures) in
    let here : slice_get states t ≡ Some (state.Running c.in-Running-state.running) =
    slice_get_read states (length states) t c.index_mut.result.now refl low c.index_mut.ensures.value
    ∙ ap (λ (x : TypedState). Some x) (sym c.replace-state.ensures.value ∙ c.in-Running-state.is) in
    let last = set (set states t c.replace-state.new.dest) t c.put.new.place in
    let is : last ≡ set states t (state_of c.run-count.result.1) =
    set-set states t c.replace-state.new.dest c.put.new.place ∙ ap (set states t) (c.put.ensures ∙ c.state_of.ensures) in
    ran_moves c.self.inside.program.now c.self.inside.manager states last t c.in-Running-state.running c.run-count.result.1 c.args.self.now
    c.self.invariant c.keeps_its_rules.ensures.rules_kept c.one_entry_more.ensures.size c.steps_keep_sound.ensures.step
    c.worlds_stay_ready.ensures c.precedes_is_strict.ensures here is c.self.view_is
    c.args.most c.run-count.result.0 c.run-count.ensures.ran
