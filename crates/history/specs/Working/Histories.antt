-- A history as a value.
use Rattle.std.specs.Prelude.{◌<◌, ◌≤◌, ◌+◌, ℕ, suc, List, length}
use Rattle.source.specs.Limits.{PARAMETER_LIMIT, PRINT_LIMIT}
use Rattle.history.specs.Commits.{Commit}

-- room that was made and not yet used: for `entries` commits, with `cells` reads together and as many writes
pub record PromisedOf : Type 0 where
  pub entries : ℕ
  pub cells : ℕ

-- the commits, in the order in which they ended, and the room for further ones
pub record HistoryOf : Type 0 where
  pub commits : List Commit
  pub promised : PromisedOf

-- no room was made
abbrev pub nothing_promised : PromisedOf
nothing_promised = record { entries = 0; cells = 0 }

-- the room and that for one more commit, of a section that reads and writes at most the given number of cells
abbrev pub with_promise : PromisedOf → ℕ → PromisedOf
with_promise p cells = record { entries = suc p.entries; cells = p.cells + cells }

-- the room has a place for one commit that reads and writes at most `cells` cells
pub record IsPromised (p : PromisedOf) (cells : ℕ) : Type 0 where
  pub entry : 0 < p.entries
  pub within : cells ≤ p.cells

-- the commit's lists fit into the room for one commit of a section that touches at most `cells` cells
pub record IsWithin (cells : ℕ) (c : Commit) : Type 0 where
  pub arguments : length c.arguments ≤ PARAMETER_LIMIT
  pub reads : length c.reads ≤ cells
  pub writes : length c.writes ≤ cells
  pub prints : length c.prints ≤ PRINT_LIMIT
