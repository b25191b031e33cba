use Rattle.std.proofs.Common.{◌≡◌, map, take}
use Rattle.std.specs.List.{AllZip}
use Rattle.core_lang.specs.Expansion.{IsWrittenOut}
use Rattle.core_lang.specs.WrittenLocals.{AreWrittenLocals}
use Rattle.core_lang_helpers.specs.Data.{head_data}
use Rattle.core_lang_helpers.proofs.program.all_written_out.Given as goal

abbrev pub invariant-loop-section : goal.invariant-loop-section
invariant-loop-section l = record {
  written : AllZip (IsWrittenOut l.shape) (take l.section-index l.sections) l.made.items;
  locals : AllZip (AreWrittenLocals l.shape) (take l.section-index l.sections) l.made.items;
  heads : map head_data l.made.items ≡ map head_data (take l.section-index l.sections);
}
