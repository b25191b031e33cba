use Rattle.std.specs.Prelude.{is_ok}
use Rattle.std.proofs.Common.{◌∙◌, ap}
use Rattle.rope.specs.Working.Ropes.{rope_text}
use Rattle.rope.proofs.Ropes.{kept_same}
use Rattle.rope.proofs.text.Rope.keep.Goals as goal

pub returns-clause-text : goal.returns-clause-text
returns-clause-text c =
    let x = c.self.inside in
    kept_same (is_ok c.push.result) x.own.items _ x.groups.items c.push.new.self.items c.args.parts x.inserts.items x.last c.push.ensures.items c.self.invariant.1
    ∙ ap rope_text c.self.view_is
