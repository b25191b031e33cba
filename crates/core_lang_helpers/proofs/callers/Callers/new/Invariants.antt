use Rattle.core_lang_helpers.specs.Graphs.{bodies_of}
use Rattle.core_lang_helpers.specs.Working.Tables.{IsCallersTo}
use Rattle.core_lang_helpers.proofs.callers.Callers.new.Given as goal

abbrev pub invariant-loop-from : goal.invariant-loop-from
invariant-loop-from l = IsCallersTo (bodies_of l.helpers) l.rows.items l.from
