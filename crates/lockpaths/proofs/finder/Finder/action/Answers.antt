use Rattle.lockpaths.proofs.Going.{over_element, over_field}
use Rattle.lockpaths.specs.Working.Told.{seen}
use Rattle.lockpaths.proofs.finder.Finder.action.Goals as goal

pub returns-in_ok-expr-in-SetElement-2 : goal.returns-in_ok-expr-in-SetElement-2
returns-in_ok-expr-in-SetElement-2 c =
    over_element c.args.self.now (seen c.args.found.now) (seen c.element.new.found) (seen c.expr-in-SetElement.new.found) (seen c.expr-in-SetElement-2.new.found) c.args.start c.args.action.now
    c.in-SetElement.array c.in-SetElement.index c.in-SetElement.value c.in-SetElement.is c.in_ok-element-in-SetElement.ensures c.in_ok-expr-in-SetElement.ensures
    c.in_ok-expr-in-SetElement-2.ensures

pub returns-in_ok-expr-in-SetField : goal.returns-in_ok-expr-in-SetField
returns-in_ok-expr-in-SetField c =
    over_field c.args.self.now (seen c.args.found.now) (seen c.along.new.found) (seen c.field.new.found) (seen c.expr-in-SetField.new.found) c.args.start c.args.action.now
    c.in-SetField.base c.in-SetField.structure c.in-SetField.field c.in-SetField.value c.in-SetField.is
    c.deref.result.now c.in_ok-along-in-SetField.ensures c.deref.ensures.value c.in_ok-field-in-SetField.ensures c.in_ok-expr-in-SetField.ensures
