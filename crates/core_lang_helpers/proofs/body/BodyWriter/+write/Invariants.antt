use Rattle.std.proofs.Common.{◌+◌, ◌*◌, take}
use Rattle.core_lang_helpers.specs.Working.Bodies.{bodies, at, WroteAll, HasMore, locals_of_all}
use Rattle.core_lang_helpers.proofs.Sizes.{size, sizes, step}
use Rattle.core_lang_helpers.proofs.body.BodyWriter.+write.Given as goal

abbrev pub decreases-action : goal.decreases-action
decreases-action l = l.self.now.depth * step l.self.now.shape.now.helpers.items + 4 * size l.action.now

abbrev pub decreases-call : goal.decreases-call
decreases-call l = l.self.now.depth * step l.self.now.shape.now.helpers.items + 4 * size l.statement.now.action

abbrev pub decreases-statement : goal.decreases-statement
decreases-statement l = l.self.now.depth * step l.self.now.shape.now.helpers.items + (4 * size l.statement.now.action + 1)

abbrev pub decreases-statements : goal.decreases-statements
decreases-statements l = l.self.now.depth * step l.self.now.shape.now.helpers.items + (4 * sizes l.statements.now + 2)

abbrev pub decreases-block : goal.decreases-block
decreases-block l = l.self.now.depth * step l.self.now.shape.now.helpers.items + (4 * sizes l.block.now + 3)

abbrev pub decreases-body : goal.decreases-body
decreases-body l = l.self.now.depth * step l.self.now.shape.now.helpers.items + (4 * sizes l.self.now.section.now.body.items + 3)

abbrev pub invariant-statements-loop-statement : goal.invariant-statements-loop-statement
invariant-statements-loop-statement l = record {
  written : WroteAll (bodies l.self) (take l.statement-index l.statements) (at l.fn.scope l.fn.locals.items) l.fn.written.items l.written.items (at l.scope l.locals.items);
  locals : HasMore l.fn.locals.items l.locals.items (locals_of_all l.self (take l.statement-index l.statements));
}
