use Rattle.std.proofs.Common.{ℕ, take}
use Rattle.core_lang_helpers.specs.Working.Tables.{Has}
use Rattle.core_lang_helpers.specs.Working.Knowledge.{IsSettling, Settles, Pends}
use Rattle.core_lang_helpers.proofs.settling.Settling.settle_all.Given as goal

abbrev pub invariant-loop-helper : goal.invariant-loop-helper
invariant-loop-helper l = record {
  settling : IsSettling l.self;
  settles : Settles l.fn.self l.self;
  pend : (f : ℕ) → Has (take l.helper-index l.row) f → Pends l.self f;
}
