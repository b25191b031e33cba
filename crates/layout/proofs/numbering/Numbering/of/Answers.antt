use Rattle.std.proofs.Common.{◌≡◌, ℕ, ◌+◌, ◌++◌, length, Some, sym, ap, ◌∙◌, subst, length-append}
use Rattle.std.specs.Prelude.{slice_get}
use Rattle.std.proofs.lemmas.List.{append-nil}
use Rattle.layout.specs.Layouts.{global_locks, object_locks, lock_fields, object_struct, if_global_lock}
use Rattle.layout.specs.Working.Numbers.{KnowFields, AreFields, locks_at}
use Rattle.layout.proofs.Found.{below_end, at_end, few_objects}
use Rattle.layout.proofs.Numbered.{distinct}
use Rattle.layout.proofs.Listed.{knows_more, fields_known, one_class, one_object}
use Rattle.layout.proofs.numbering.Numbering.of.Goals as goal
use Rattle.core_lang.specs.Theory.Items.{read_at}

pub loop-class-preserved : goal.loop-class-preserved
loop-class-preserved c =
    let program = c.args.program.now in
    let n = c.loop-class.class-index in
    let old = c.loop-class.numbering in
    let new = c.add_class.new.self in
    let i = c.loop-class.invariant in
    let at_items = read_at c.deref-class-items.result.now n c.class-item.result c.loop-class-test.true c.class-item.is in
    let at : slice_get program.classes.items n ≡ Some c.class-item.result = subst (λ cs. slice_get cs n ≡ Some c.class-item.result) c.deref-class-items.ensures.value at_items in
    record {
      classes = ap length c.in_ok-add_class.ensures.classes ∙ length-append old.classes.items _ ∙ ap (λ k. k + 1) i.classes;
      locks = c.in_ok-add_class.ensures.locks ∙ ap (λ ls. ls ++ if_global_lock (length old.classes.items) (Some c.class-item.result)) i.locks
          ∙ ap (λ k. global_locks program n ++ if_global_lock k (Some c.class-item.result)) i.classes ∙ sym (one_class program n c.class-item.result at);
      fields = knows_more program n (length old.locks.items) old.classes.items new.classes.items c.class-item.result i.fields i.classes at c.in_ok-add_class.ensures.classes;
      objects = c.in_ok-add_class.ensures.objects ∙ i.objects;
    }

pub add_object-requires-clause-fields : goal.add_object-requires-clause-fields
add_object-requires-clause-fields c =
    subst (AreFields c.loop-object.numbering.classes.items) (sym c.lock_fields.ensures)
    (fields_known c.args.program.now c.loop-object.object c.loop-object.numbering.classes.items c.requires c.loop-object.invariant.fields)

pub loop-object-preserved : goal.loop-object-preserved
loop-object-preserved c =
    let program = c.args.program.now in
    let n = c.loop-object.object in
    let old = c.loop-object.numbering in
    let new = c.add_object.new.self in
    let i = c.loop-object.invariant in
    let globals = global_locks program (length program.classes.items) in
    let fields = lock_fields (object_struct program n) in
    record {
      fields = subst (KnowFields program (length program.classes.items)) (sym c.in_ok-add_object.ensures.classes) i.fields;
      locks = c.in_ok-add_object.ensures.locks ∙ ap (λ ls. ls ++ locks_at (length old.objects.items) c.lock_fields.result.now) i.locks
          ∙ ap (λ k. (globals ++ object_locks program n) ++ locks_at k c.lock_fields.result.now) i.objects
          ∙ ap (λ fs. (globals ++ object_locks program n) ++ locks_at n fs) c.lock_fields.ensures
          ∙ one_object program globals n;
      objects = ap length c.in_ok-add_object.ensures.objects ∙ length-append old.objects.items _ ∙ ap (λ k. k + 1) i.objects;
    }

pub returns-clause-distinct : goal.returns-clause-distinct
returns-clause-distinct c =
    let x = c.loop-object.numbering in
    distinct x.classes.items x.objects.items x.locks.items x.numbered

pub returns-clause-locks : goal.returns-clause-locks
returns-clause-locks c =
    let program = c.args.program.now in
    let objects = program.shape.objects in
    c.loop-object.invariant.locks
    ∙ ap (λ (n : ℕ). global_locks program (length program.classes.items) ++ object_locks program n)
    (at_end c.loop-object.object c.len-object-end.result (length objects.items) c.loop-object.auto.object-end (c.len-object-end.ensures ∙ objects.ok.0) c.loop-object-test.false)

pub lock_fields-requires-clause-object : goal.lock_fields-requires-clause-object
lock_fields-requires-clause-object c =
    let objects = c.args.program.now.shape.objects in
    below_end c.loop-object.object c.len-object-end.result _ (length objects.items) c.loop-object-test.true c.len-object-end.ensures objects.ok.0

pub loop-object-init : goal.loop-object-init
loop-object-init c =
    let program = c.args.program.now in
    let i = c.loop-class.invariant in
    let through = at_end c.loop-class.class-index (length c.deref-class-items.result.now) (length program.classes.items) c.loop-class.auto.class-index-end
    (ap length c.deref-class-items.ensures.value) c.loop-class-test.false in
    record {
      fields = subst (λ (n : ℕ). KnowFields program n c.loop-class.numbering.classes.items) through i.fields;
      locks = i.locks ∙ ap (global_locks program) through ∙ sym (append-nil (global_locks program (length program.classes.items)));
      objects = ap length i.objects;
    }

pub add_object-requires-clause-few : goal.add_object-requires-clause-few
add_object-requires-clause-few c =
    let objects = c.args.program.now.shape.objects in
    few_objects (length c.loop-object.numbering.objects.items) c.loop-object.object (length objects.items) c.loop-object.invariant.objects
    (below_end c.loop-object.object c.len-object-end.result _ (length objects.items) c.loop-object-test.true c.len-object-end.ensures objects.ok.0) c.requires.within.objects
