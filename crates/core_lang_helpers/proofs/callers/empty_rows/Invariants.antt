use Rattle.core_lang_helpers.specs.Working.Tables.{HaveNone}
use Rattle.core_lang_helpers.proofs.callers.empty_rows.Given as goal

abbrev pub invariant-loop : goal.invariant-loop
invariant-loop l = HaveNone l.rows.items l.counter
