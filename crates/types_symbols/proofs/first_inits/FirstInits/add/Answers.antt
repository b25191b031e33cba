use Rattle.std.proofs.Common.{◌≡◌, ◌∙◌, ap, sym, Some, None, rules}
use Rattle.std.specs.Prelude.{◌==◌, ◌&&◌, cond}
use Rattle.resolution.specs.Constants.{same_init_target}
use Rattle.types_symbols.specs.Working.Given.{init_target_found}
use Rattle.types_symbols.proofs.Given.{add_test, and_is, get_same}
use Rattle.types_symbols.proofs.first_inits.FirstInits.add.Goals as goal

pub returns-in_ok-insert : goal.returns-in_ok-insert
returns-in_ok-insert c = λ g.
    let none : init_target_found c.args.self.now c.args.init_target ≡ None = search rules in
    let t = (c.args.init_target.pool == g.pool) && ((c.args.init_target.index == g.index) && (c.args.init_target.member == g.member)) in
    sym (get_same _ (same_init_target g) (λ h. and_is (g.pool == h.pool) (g.index == h.index) (g.member == h.member)) c.insert.new.self.entries)
    ∙ c.in_ok-insert.ensures.updates.0 g
    ∙ ap (cond t (Some c.args.place)) (get_same _ (same_init_target g) (λ h. and_is (g.pool == h.pool) (g.index == h.index) (g.member == h.member)) c.args.self.now.places.entries)
    ∙ add_test (init_target_found c.args.self.now) c.args.init_target c.args.place g t (and_is (c.args.init_target.pool == g.pool) (c.args.init_target.index == g.index) (c.args.init_target.member == g.member)) none
