-- The first lines. Nobody has to believe this file.
use Rattle.std.specs.Prelude.{ℕ, List, ◌++◌, codes}
use Rattle.std.specs.Fmt.{decimal}
use Rattle.code.specs.Listing.{line}

-- how many runs, orders and ends there are
abbrev pub totals_text : ℕ → ℕ → ℕ → List ℕ
totals_text runs orders ends =
    line (codes "runs " ++ decimal runs) ++ line (codes "orders " ++ decimal orders) ++ line (codes "ends " ++ decimal ends)
