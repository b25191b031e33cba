use Rattle.std.proofs.Common.{◌≡◌, List, [], ◌∷◌, ◌++◌, Option, Some, sym, ap, ◌∙◌}
use Rattle.std.specs.Option.{option_zip}
use Rattle.std.specs.Prelude.{option_map}
use Rattle.core_lang.specs.declared.tree.Condition as rc
use Rattle.types_bodies.specs.Working.Parts.{so_far, tests_with}
use Rattle.types_bodies.specs.Theory.Zips.{zipped}
use Rattle.types_bodies.specs.declared.resolved_expr.Tests as the_tests
use Rattle.types_bodies.proofs.resolved_expr.with_test.Goals as goal

tests_made : (ts : Option the_tests.Tests) (x : Option rc.Condition) (t : the_tests.Tests) (y : rc.Condition) (items : List rc.Condition) →
    Some (t, y) ≡ option_zip ts x → items ≡ t.before.items ++ t.last ∷ [] → tests_with (option_map so_far ts) x ≡ Some (record { before = items; last = y })
tests_made ts x t y items both is =
    sym (zipped (λ a b. tests_with (option_map so_far a) b) ts x t y both) ∙ ap (λ (l : List rc.Condition). Some (record { before = l; last = y })) (sym is)

pub returns : goal.returns
returns c = sym (tests_made c.args.tests c.args.c c.in-Some.tests c.in-Some.c c.push.new.self.items c.in-Some.ensures c.in_default-push.ensures.items)
