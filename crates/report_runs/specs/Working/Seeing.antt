-- What is kept of runs. Nobody has to believe this file.
use Rattle.std.specs.Prelude.{◌≡◌, true, List, length, map}
use Rattle.std.specs.List.{AllByRecursion, IsDistinct, list_any}
use Rattle.core_lang.specs.declared.typed.Typed.{Typed}
use Rattle.report_runs.specs.declared.run_kind.Held.{Held}
use Rattle.report_runs.specs.declared.run_kind.RunKind.{RunKind}
use Rattle.report_runs.specs.declared.run_kind.Place.{Place}
use Rattle.report_runs.specs.declared.seen.Seen.{Seen}
use Rattle.report_runs.specs.Runs.{Run, same_order, same_end, same_kind, firsts}
use Rattle.report_runs.specs.Working.Kinds.{held_of, call_place}
use Rattle.report_runs.specs.Working.Rows.{row_told, row_of}

-- the order and the end of a run, as the code has them
abbrev pub order_in : Run → List Place
order_in run = map call_place run.log

abbrev pub end_in : Run → List Held
end_in run = map held_of run.values

-- what a kind of run shows: its order and its end
pub record Shown : Type 0 where
  pub order : List Place
  pub end : List Held

abbrev pub kind_shown : RunKind → Shown
kind_shown kind = record { order = kind.order.items; end = kind.end.items }

abbrev pub kind_in : Run → Shown
kind_in run = record { order = order_in run; end = end_in run }

-- the order and the end of a run are among those that were seen
pub record IsKnown (runs : List Run) (run : Run) : Type 0 where
  pub order : list_any (same_order run) (firsts same_order runs) ≡ true
  pub end : list_any (same_end run) (firsts same_end runs) ≡ true

-- these runs were seen
pub record HasSeen (program : Typed) (runs : List Run) (seen : Seen) : Type 0 where
  pub of_program : seen.program.now ≡ program
  pub counted : seen.runs ≡ length runs
  pub orders : map (λ order. order.items) seen.orders.keys ≡ map order_in (firsts same_order runs)
  pub ends : map (λ end. end.items) seen.ends.keys ≡ map end_in (firsts same_end runs)
  pub kinds : map kind_shown seen.kinds.keys ≡ map kind_in (firsts same_kind runs)
  pub told : map row_told seen.told.items ≡ map (row_of program runs) (firsts same_kind runs)
  pub distinct : IsDistinct same_kind (firsts same_kind runs)
  pub met : (run : Run) → list_any (same_kind run) (firsts same_kind runs) ≡ list_any (same_kind run) runs
  pub known : AllByRecursion (IsKnown runs) (firsts same_kind runs)
