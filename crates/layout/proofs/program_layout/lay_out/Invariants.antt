use Rattle.std.proofs.Common.{◌≡◌, take, length}
use Rattle.core_lang.specs.Serial.{opening_heap}
use Rattle.layout.proofs.Laid.{AreLocked}
use Rattle.layout.specs.Layouts.{all_locks}
use Rattle.layout.proofs.program_layout.lay_out.Given as goal

abbrev pub invariant-loop-cell : goal.invariant-loop-cell
invariant-loop-cell l = record {
  locks : l.layout.locks ≡ all_locks l.program;
  opening : l.layout.opening ≡ take l.cell (opening_heap l.program);
  long : length l.layout.cell_locks ≡ l.cell;
  cell_locks : AreLocked l.program l.cell l.layout.cell_locks;
}
