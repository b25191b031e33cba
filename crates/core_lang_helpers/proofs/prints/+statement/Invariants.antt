use Rattle.std.proofs.Common.{◌≡◌, ◌≤◌, ◌+◌, min, drop}
use Rattle.core_lang_helpers.specs.Prints.{prints_in_all}
use Rattle.core_lang_helpers.proofs.prints.+statement.Given as goal

abbrev pub invariant-of_block-loop-statement : goal.invariant-of_block-loop-statement
invariant-of_block-loop-statement l = record {
  few : l.prints ≤ 256;
  all : min 256 (l.prints + prints_in_all (drop l.statement-index l.statements)) ≡ min 256 (prints_in_all l.statements);
}
