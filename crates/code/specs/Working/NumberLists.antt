-- Lists of numbers, as clauses see them.
use Rattle.std.specs.Prelude.{ℕ, List, map, Vec}

-- the numbers of lock paths that lists have
abbrev pub number_lists : {Z : Type 0} → List (Vec ℕ Z) → List (List ℕ)
number_lists lists = map (λ (list : Vec ℕ _). list.items) lists
