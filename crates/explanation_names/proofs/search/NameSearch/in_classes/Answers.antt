use Rattle.std.proofs.Common.{refl, map}
use Rattle.std.specs.List.{flat_map}
use Rattle.syntax.specs.Views.{class_name_of}
use Rattle.explanation_names.specs.Working.UsesFound.{uses_of_class}
use Rattle.explanation_names.specs.Working.Values.{locals_at}
use Rattle.explanation_names.proofs.Added.{tells_first, item_said, all_said}
use Rattle.explanation_names.proofs.search.NameSearch.in_classes.Goals as goal

pub loop-class-init : goal.loop-class-init
loop-class-init c = tells_first _ _ _

pub loop-class-preserved : goal.loop-class-preserved
loop-class-preserved c =
    item_said (λ xs. flat_map (uses_of_class (locals_at c.args.self.now)) (map class_name_of xs)) c.args.classes.now c.loop-class.class-index c.class-item.result c.loop-class-test.true c.class-item.is refl
    c.loop-class.invariant c.in_class.ensures

pub returns : goal.returns
returns c =
    all_said (λ xs. flat_map (uses_of_class (locals_at c.args.self.now)) (map class_name_of xs)) c.args.classes.now c.loop-class.class-index c.loop-class-test.false refl c.loop-class.invariant
