use Rattle.std.proofs.Common.{◌≡◌, ℕ, List, ◌+◌, ◌++◌, ◌∷◌, [], length, take, Some, is_ok, sym, ap, ◌∙◌, subst, arith}
use Rattle.std.proofs.Common.{length-append}
use Rattle.std.specs.Prelude.{slice_get}
use Rattle.std.proofs.lemmas.List.{length-map, length-take-le}
use Rattle.core_lang.specs.declared.typed.LockField.{LockField}
use Rattle.locks.specs.declared.lock.Lock.{Lock}
use Rattle.layout.specs.declared.places.ClassPlace.TheVariants as place
use Rattle.layout.specs.Working.Numbers.{locks_at}
use Rattle.layout.proofs.Lists.{taken_whole}
use Rattle.layout.proofs.Listed.{one_more_lock}
use Rattle.layout.proofs.Numbered.{object_added, field_added}
use Rattle.layout.proofs.numbering.Numbering.add_object.Goals as goal
use Rattle.core_lang.specs.Theory.Items.{read_at, last_at}

pub invariant_of-self : goal.invariant_of-self
invariant_of-self c =
    let x = c.args.self.now in
    record {
      numbered = object_added (is_ok c.push.result) x.classes.items x.objects.items c.push.new.self.items x.locks.items
          c.len-first_lock.result x.numbered c.push.ensures.items;
    }

pub invariant_of-self-in-loop-field : goal.invariant_of-self-in-loop-field
invariant_of-self-in-loop-field c =
    let old = c.args.self.now in
    let x = c.loop-field.self in
    let i = c.loop-field.invariant in
    let fields = c.args.fields.now in
    let l = c.loop-field.field-index in
    let own : ℕ = c.len-first_lock.result in
    let at = read_at fields l c.field-item.result c.loop-field-test.true c.field-item.is in
    let class_at : slice_get x.classes.items c.field-item.result.class ≡ Some (place.Field l) =
    subst (λ cs. slice_get cs c.field-item.result.class ≡ Some (place.Field l)) (sym i.classes) (c.requires.fields l c.field-item.result at) in
    let own_at : slice_get (old.objects.items ++ own ∷ []) c.len-object.result ≡ Some own =
    subst (λ n. slice_get (old.objects.items ++ own ∷ []) n ≡ Some own) (sym (c.len-object.ensures ∙ old.objects.ok.0)) (last_at old.objects.items own) in
    let object_at : slice_get x.objects.items c.len-object.result ≡ Some own = subst (λ os. slice_get os c.len-object.result ≡ Some own) (sym i.objects) own_at in
    let made : LockField → Lock = λ (f : LockField). record { class = f.class; object = c.len-object.result } in
    let long : length x.locks.items ≡ c.len-first_lock.result + l =
    omega (
      arith,
      ap length i.locks,
      length-append old.locks.items (locks_at c.len-object.result (take l fields)),
      length-map (take l fields) made,
      length-take-le l fields (omega (arith, c.loop-field-test.true)),
      c.len-first_lock.ensures,
      old.locks.ok.0,
    ) in
    record {
      numbered = field_added (is_ok c.push-in-loop-field.result) x.classes.items x.objects.items x.locks.items c.push-in-loop-field.new.self.items c.field-item.result.class l
          c.len-object.result own x.numbered class_at object_at long c.push-in-loop-field.ensures.items;
    }

pub loop-field-preserved : goal.loop-field-preserved
loop-field-preserved c =
    let i = c.loop-field.invariant in
    record {
      locks = one_more_lock c.len-object.result c.loop-field.field-index c.args.fields.now c.field-item.result c.args.self.now.locks.items c.loop-field.self.locks.items c.push-in-loop-field.new.self.items
          c.loop-field-test.true c.field-item.is i.locks c.in_ok-push-2.ensures.items;
      classes = i.classes;
      objects = i.objects;
    }

pub returns : goal.returns
returns c =
    let old = c.args.self.now in
    let i = c.loop-field.invariant in
    record {
      locks = i.locks ∙ ap (λ (fs : List LockField). old.locks.items ++ locks_at c.len-object.result fs) (taken_whole c.args.fields.now c.loop-field.field-index c.loop-field-test.false)
          ∙ ap (λ (n : ℕ). old.locks.items ++ locks_at n c.args.fields.now) (c.len-object.ensures ∙ old.objects.ok.0);
      classes = i.classes;
      objects = i.objects ∙ ap (λ (n : ℕ). old.objects.items ++ n ∷ []) (c.len-first_lock.ensures ∙ old.locks.ok.0);
    }
