use Rattle.std.proofs.Common.{◌≡◌, ◌<◌, length, Some, set, refl, sym, ap, ◌∙◌, arith}
use Rattle.std.specs.Prelude.{slice_get}
use Rattle.std.proofs.lemmas.List.{set-set}
use Rattle.std.proofs.lemmas.Option.{slice_get_read}
use Rattle.interleavings.specs.declared.state.TypedState.{TypedState}
use Rattle.interleavings.proofs.Turning.{can_step, stepped_tied, stepped_ok, stepped_err, stepped_begins}
use Rattle.interleavings.proofs.world.World.step.Goals as goal

pub step-next-requires : goal.step-next-requires
step-next-requires c =
    let states = c.self.inside.states.items in
    let t = c.args.thread in
    let low : t < length states = omega (arith, c.if-thread-len.false, c.len.ensures) in
    let here : slice_get states t ≡ Some c.replace-state.result =
    slice_get_read states (length states) t c.index_mut.result.now refl low c.index_mut.ensures.value ∙ ap (λ (x : TypedState). Some x) (sym c.replace-state.ensures.value) in
    can_step c.self.inside.program.now c.self.inside.manager states t c.self.invariant c.keeps_its_rules.ensures.rules_kept c.replace-state.result c.slots_are_cells.ensures.read here

pub invariant_of-self : goal.invariant_of-self
invariant_of-self c =
    let states = c.self.inside.states.items in
    let t = c.args.thread in
    let low : t < length states = omega (arith, c.if-thread-len.false, c.len.ensures) in
    let here : slice_get states t ≡ Some c.replace-state.result =
    slice_get_read states (length states) t c.index_mut.result.now refl low c.index_mut.ensures.value ∙ ap (λ (x : TypedState). Some x) (sym c.replace-state.ensures.value) in
    let last = set (set states t c.replace-state.new.dest) t c.put.new.place in
    let is : last ≡ set states t c.step-next.result.0 = set-set states t c.replace-state.new.dest c.put.new.place ∙ ap (set states t) c.put.ensures in
    stepped_tied c.self.inside.program.now c.self.inside.manager states last t c.replace-state.result c.step-next.result.0 c.step-next.new.manager c.args.self.now
    c.self.invariant c.keeps_its_rules.ensures.rules_kept c.keeps_its_rules-2.ensures.rules_kept c.one_entry_more.ensures.size c.steps_keep_sound.ensures.step
    c.worlds_stay_ready.ensures c.precedes_is_strict.ensures here is c.self.view_is c.step-next.result.1 c.step-next.ensures

pub returns-clause-ok : goal.returns-clause-ok
returns-clause-ok c =
    let states = c.self.inside.states.items in
    let t = c.args.thread in
    let low : t < length states = omega (arith, c.if-thread-len.false, c.len.ensures) in
    let here : slice_get states t ≡ Some c.replace-state.result =
    slice_get_read states (length states) t c.index_mut.result.now refl low c.index_mut.ensures.value ∙ ap (λ (x : TypedState). Some x) (sym c.replace-state.ensures.value) in
    let last = set (set states t c.replace-state.new.dest) t c.put.new.place in
    let is : last ≡ set states t c.step-next.result.0 = set-set states t c.replace-state.new.dest c.put.new.place ∙ ap (set states t) c.put.ensures in
    stepped_ok c.self.inside.program.now c.self.inside.manager states last t c.replace-state.result c.step-next.result.0 c.step-next.new.manager c.args.self.now
    c.self.invariant c.keeps_its_rules.ensures.rules_kept c.keeps_its_rules-2.ensures.rules_kept c.one_entry_more.ensures.size c.steps_keep_sound.ensures.step
    c.worlds_stay_ready.ensures c.precedes_is_strict.ensures here is c.self.view_is c.step-next.result.1 c.step-next.ensures

pub returns-clause-err : goal.returns-clause-err
returns-clause-err c =
    let states = c.self.inside.states.items in
    let t = c.args.thread in
    let low : t < length states = omega (arith, c.if-thread-len.false, c.len.ensures) in
    let here : slice_get states t ≡ Some c.replace-state.result =
    slice_get_read states (length states) t c.index_mut.result.now refl low c.index_mut.ensures.value ∙ ap (λ (x : TypedState). Some x) (sym c.replace-state.ensures.value) in
    let last = set (set states t c.replace-state.new.dest) t c.put.new.place in
    let is : last ≡ set states t c.step-next.result.0 = set-set states t c.replace-state.new.dest c.put.new.place ∙ ap (set states t) c.put.ensures in
    stepped_err c.self.inside.program.now c.self.inside.manager states last t c.replace-state.result c.step-next.result.0 c.step-next.new.manager c.args.self.now
    c.self.invariant c.keeps_its_rules.ensures.rules_kept c.keeps_its_rules-2.ensures.rules_kept c.one_entry_more.ensures.size c.steps_keep_sound.ensures.step
    c.worlds_stay_ready.ensures c.precedes_is_strict.ensures here is c.self.view_is c.step-next.result.1 c.step-next.ensures

pub returns-clause-begins : goal.returns-clause-begins
returns-clause-begins c =
    let states = c.self.inside.states.items in
    let t = c.args.thread in
    let low : t < length states = omega (arith, c.if-thread-len.false, c.len.ensures) in
    let here : slice_get states t ≡ Some c.replace-state.result =
    slice_get_read states (length states) t c.index_mut.result.now refl low c.index_mut.ensures.value ∙ ap (λ (x : TypedState). Some x) (sym c.replace-state.ensures.value) in
    let last = set (set states t c.replace-state.new.dest) t c.put.new.place in
    let is : last ≡ set states t c.step-next.result.0 = set-set states t c.replace-state.new.dest c.put.new.place ∙ ap (set states t) c.put.ensures in
    stepped_begins c.self.inside.program.now c.self.inside.manager states last t c.replace-state.result c.step-next.result.0 c.step-next.new.manager c.args.self.now
    c.self.invariant c.keeps_its_rules.ensures.rules_kept c.keeps_its_rules-2.ensures.rules_kept c.one_entry_more.ensures.size c.steps_keep_sound.ensures.step
    c.worlds_stay_ready.ensures c.precedes_is_strict.ensures here is c.self.view_is c.step-next.result.1 c.step-next.ensures
