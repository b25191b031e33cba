-- The text of runs, as bytes: their number, the numbers of different orders of their calls and of different ends of
-- their cells, and the first history of each kind of run.
use Rattle.std.specs.Prelude.{ℕ, ◌+◌, ◌==◌, ◌&&◌, Bool, false, List, [], ◌∷◌, ◌++◌, if◌then◌else◌, length, map, fold, codes}
use Rattle.std.specs.Prelude.{nat_eq, count_by}
use Rattle.std.specs.Cmp.Lexicographic.{pointwise}
use Rattle.std.specs.Fmt.{decimal}
use Rattle.std.specs.List.{flat_map, list_any, position_or_len}
use Rattle.std.specs.Option.{option_eq}
use Rattle.std.specs.Ordering.{int_eq}
use Rattle.core_lang.specs.declared.value.Value.{Value}
use Rattle.core_lang.specs.declared.value.Value.TheVariants.{Int, Ref}
use Rattle.core_lang.specs.declared.typed.Typed.{Typed}
use Rattle.code.specs.Listing.{line}
use Rattle.history.specs.Commits.{Commit}
use Rattle.input_files.specs.declared.format.Format.TheVariants.{Two}
use Rattle.report.specs.Entry.{entry_of_commit}
use Rattle.report.specs.History.{history_of}

-- a run: the entries of its history, in order, and the values that they leave in the cells
pub record Run : Type 0 where
  pub log : List Commit
  pub values : List Value

-- ---- equal runs

-- two entries are of the same call of the same thread
abbrev pub same_place : Commit → Commit → Bool
same_place a b = (a.thread == b.thread) && (a.step == b.step)

-- two runs have the same order: the same number of entries, of the same call at each position
abbrev pub same_order : Run → Run → Bool
same_order a b = pointwise same_place a.log b.log

-- two values are the same
abbrev pub same_value : Value → Value → Bool
same_value (Int a) (Int b) = int_eq a b
same_value (Int a) (Ref b) = false
same_value (Ref a) (Int b) = false
same_value (Ref a) (Ref b) = option_eq nat_eq a b

-- two runs have the same end: the same value in each cell
abbrev pub same_end : Run → Run → Bool
same_end a b = pointwise same_value a.values b.values

-- two runs are of one kind
abbrev pub same_kind : Run → Run → Bool
same_kind a b = same_order a b && same_end a b

-- ---- different runs

-- `firsts`, and `x` unless it is the same as one of them
abbrev pub with_first : {A : Type 0} → (A → A → Bool) → List A → A → List A
with_first same firsts x = if list_any (same x) firsts then firsts else firsts ++ x ∷ []

-- the first one of each kind, in order
abbrev pub firsts : {A : Type 0} → (A → A → Bool) → List A → List A
firsts same xs = fold (with_first same) [] xs

-- the number, from 1, of the first run that is the same
abbrev pub number_of : (Run → Run → Bool) → List Run → Run → ℕ
number_of same runs run = position_or_len (same run) (firsts same runs) + 1

-- ---- the text

-- order T runs C end K: the order's number, the number of runs of this kind, and the end's number
abbrev pub kind_line : List Run → Run → List ℕ
kind_line runs run =
    codes "order " ++ decimal (number_of same_order runs run) ++ codes " runs " ++ decimal (count_by (same_kind run) runs)
    ++ codes " end " ++ decimal (number_of same_end runs run)

-- the history of a run, as `run` writes it
abbrev pub run_text : Typed → Run → List ℕ
run_text program run = history_of Two program (map entry_of_commit run.log) run.values

-- the summary, and then for each kind of run, in the order of their first runs, its line and its first history
abbrev pub runs_text : Typed → List Run → List ℕ
runs_text program runs =
    line (codes "runs " ++ decimal (length runs))
    ++ line (codes "orders " ++ decimal (length (firsts same_order runs)))
    ++ line (codes "ends " ++ decimal (length (firsts same_end runs)))
    ++ flat_map (λ (run : Run). line (kind_line runs run) ++ run_text program run) (firsts same_kind runs)
