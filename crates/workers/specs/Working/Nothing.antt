-- Default members of a marker, if no call picks a program and a row, and a default entry: all are empty.
use Rattle.std.specs.Prelude.{◌^◌, []}
use Rattle.std.proofs.Common.{refl, lit<, lit≤, Vec, Global}
use denote.RawPtr.{null_ptr}
use Rattle.core_lang.specs.declared.typed.Typed.{Typed}
use Rattle.core_lang.specs.declared.value.Outcome.TheVariants.{Ends}
use Rattle.history.specs.Commits.{Commit}
use Rattle.lowering.specs.Plans.{Plan}
use Rattle.logbook.specs.Pages.{Book}

abbrev no_memory : Global
no_memory = record { memory = record { seal = tt } }

abbrev none : {X : Type 0} → Vec X Global
none = record {
  ptr = null_ptr;
  len = 0;
  cap = 0;
  alloc = no_memory;
  items = [];
  ok = (refl, lit≤ {m = 0} {n = 0} tt);
  small = lit< {m = 0} {n = 2 ^ 63} tt;
}

abbrev pub no_program : Typed
no_program = record {
  classes = none;
  structs = none;
  globals = none;
  shape = record { arrays = none; pools = none; objects = none; finals = none; helpers = none };
  cells = none;
  sections = none;
  threads = none;
}

abbrev pub no_plan : Plan
no_plan = record {
  accepted = no_program;
  program = no_program;
  ranks = [];
  lists = [];
  layout = record { opening = []; cell_locks = []; locks = [] };
}

abbrev pub no_book : Book
no_book = record { number = 0; log_name = 0; cells_name = 0 }

abbrev pub no_entry : Commit
no_entry = record {
  thread = 0;
  step = 0;
  section = 0;
  arguments = [];
  begun = 0;
  reads = [];
  writes = [];
  outcome = Ends;
  prints = [];
}
