use Rattle.std.proofs.Common.{◌∙◌, is_ok}
use Rattle.layout.specs.declared.places.ClassPlace.TheVariants as place
use Rattle.layout.proofs.Numbered.{global_added, class_added}
use Rattle.layout.proofs.numbering.Numbering.add_class.Goals as goal

pub invariant_of-self-in-Global : goal.invariant_of-self-in-Global
invariant_of-self-in-Global c =
    let x = c.args.self.now in
    record {
      numbered = global_added (is_ok c.push-in-Global.result) x.classes.items c.push.new.self.items x.objects.items x.locks.items c.push-in-Global.new.self.items
          c.len-number.result c.len-class.result x.numbered (c.len-number.ensures ∙ x.locks.ok.0) (c.len-class.ensures ∙ x.classes.ok.0)
          c.in_ok-push-in-Global.ensures.items c.push-in-Global.ensures.items;
    }

pub invariant_of-self-in-Field : goal.invariant_of-self-in-Field
invariant_of-self-in-Field c =
    let x = c.args.self.now in
    record {
      numbered = class_added (is_ok c.push-in-Field.result) x.classes.items c.push-in-Field.new.self.items x.objects.items x.locks.items (place.Field c.in-Field.lock)
          x.numbered c.push-in-Field.ensures.items;
    }
