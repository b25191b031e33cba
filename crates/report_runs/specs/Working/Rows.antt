-- The row of a kind of run, as plain data. Nobody has to believe this file.
use Rattle.std.specs.Prelude.{ℕ, List, ◌++◌, codes, string_bytes, count_by}
use Rattle.std.specs.Fmt.{decimal}
use Rattle.core_lang.specs.declared.typed.Typed.{Typed}
use Rattle.code.specs.Listing.{line}
use Rattle.report_runs.specs.declared.runs_told.Told.{Told}
use Rattle.report_runs.specs.Runs.{Run, same_order, same_end, same_kind, number_of, run_text}

-- the row of a kind: its order, its end, the number of its runs, and one history
pub record Row : Type 0 where
  pub order : ℕ
  pub end : ℕ
  pub runs : ℕ
  pub history : List ℕ

abbrev pub row_told : Told → Row
row_told told = record { order = told.order; end = told.end; runs = told.runs; history = string_bytes told.history }

abbrev pub row_of : Typed → List Run → Run → Row
row_of program runs run = record {
  order = number_of same_order runs run;
  end = number_of same_end runs run;
  runs = count_by (same_kind run) runs;
  history = run_text program run;
}

abbrev pub row_text : Row → List ℕ
row_text row =
    line (codes "order " ++ decimal row.order ++ codes " runs " ++ decimal row.runs ++ codes " end " ++ decimal row.end)
    ++ row.history
