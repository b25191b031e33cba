use Rattle.lockpaths.proofs.Placed.{found_same}
use Rattle.lockpaths.proofs.found.PathCollector.normal_form.Goals as goal

pub returns-clause-told : goal.returns-clause-told
returns-clause-told c =
    let x = c.self.inside in
    found_same x.forms c.form_at.new.self x.places.items x.numbers.items x.ends.items x.least c.args.self.now c.self.invariant c.form_at.ensures.kept c.self.view_is
