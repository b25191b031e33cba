use Rattle.std.proofs.Common.{sym, ◌∙◌}
use Rattle.core_lang_helpers.specs.Working.Knowledge.{bodies}
use Rattle.core_lang_helpers.proofs.Noting.{none_new}
use Rattle.core_lang_helpers.proofs.graph_faults.Known.report_recursion.Goals as goal

pub returns-else-any_is_new : goal.returns-else-any_is_new
returns-else-any_is_new c = none_new (bodies c.args.self.now) c.args.from c.args.least.now c.args.calls.now (sym c.any_is_new.ensures ∙ c.if-any_is_new.false)
