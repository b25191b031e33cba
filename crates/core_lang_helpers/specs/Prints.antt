-- The most numbers that one run of a section prints.
use Rattle.std.specs.Prelude.{ℕ, zero, suc, ◌+◌, min, List, [], ◌∷◌}
use Rattle.source.specs.Limits.{PRINT_LIMIT}
use Rattle.core_lang.specs.declared.tree.Stmt.{Stmt}
use Rattle.core_lang.specs.declared.tree.Action.{Action, Call, Print, If', IfElse', While', Row_of-Stmt, end_of-Stmt}
use Rattle.core_lang.specs.declared.tree.Action.{more_of-Stmt}
use Rattle.core_lang.specs.declared.tree.Section.{Section}

-- the most numbers that a loop prints, by what its body prints: 0 if the body prints none, else the limit of a run
abbrev pub repeated : ℕ → ℕ
repeated zero = 0
repeated (suc n) = PRINT_LIMIT

-- the most numbers that a statement prints; for a call the limit of a run, whatever the helper does
abbrev mutual
  pub prints_in : Action → ℕ
  prints_in (Print e) = 1
  prints_in (Call helper arguments result) = PRINT_LIMIT
  prints_in (If' c m block) = prints_in_row block
  prints_in (IfElse' c m block k otherwise) = prints_in_row block + prints_in_row otherwise
  prints_in (While' c m body) = repeated (prints_in_row body)
  prints_in _ = 0

  pub prints_in_row : {m : _} → Row_of-Stmt m → ℕ
  prints_in_row end_of-Stmt = 0
  prints_in_row (more_of-Stmt start action rest) = prints_in action + prints_in_row rest

-- the most numbers that one run of a list of statements prints
abbrev pub prints_in_all : List Stmt → ℕ
prints_in_all [] = 0
prints_in_all (x ∷ xs) = prints_in x.action + prints_in_all xs

-- the most numbers that a run of a section prints: the number of its prints, if none is in a loop and it calls no
-- helper, and never more than the limit of a run
unfoldable pub most_prints : Section → ℕ
most_prints section = min PRINT_LIMIT (prints_in_all section.body.items)
