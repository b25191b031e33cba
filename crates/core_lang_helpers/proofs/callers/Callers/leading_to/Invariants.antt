use Rattle.std.proofs.Common.{◌+◌, length}
use Rattle.core_lang_helpers.specs.Graphs.{bodies_of}
use Rattle.core_lang_helpers.specs.Working.Tables.{unmarked}
use Rattle.core_lang_helpers.proofs.Leading.{IsSearch}
use Rattle.core_lang_helpers.proofs.callers.Callers.leading_to.Given as goal

abbrev pub invariant-loop-helper : goal.invariant-loop-helper
invariant-loop-helper l = IsSearch (bodies_of l.self.helpers.now) l.marks.items l.pending.items l.to

abbrev pub decreases-loop-helper : goal.decreases-loop-helper
decreases-loop-helper l = unmarked l.marks.items + length l.pending.items
