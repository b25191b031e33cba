-- Orders that share their prefixes. Nobody has to believe this file.
use Rattle.std.specs.Prelude.{◌≡◌, ℕ, ◌<◌, ◌≤◌, List, length, [], ◌∷◌, ◌++◌, slice_get, slice_index_or, Some}
use Rattle.outcomes.specs.declared.trail.TrailEdge.{TrailEdge}

-- the order at this index, followed by a thread
abbrev pub longer : List (List ℕ) → ℕ → ℕ → List ℕ
longer orders order thread = slice_index_or orders order [] ++ thread ∷ []

-- the first list is a prefix of the second
abbrev pub IsLonger : List (List ℕ) → List (List ℕ) → Type 0
IsLonger trail trail' = (more : List (List ℕ)) × (trail' ≡ trail ++ more)

-- the first of them is the empty one
abbrev pub IsBegun : List (List ℕ) → Type 0
IsBegun trail = (0 < length trail) × (slice_index_or trail 0 [] ≡ [])

-- the orders, and those that the steps make from them
abbrev pub grown : List (List ℕ) → List TrailEdge → List (List ℕ)
grown orders [] = orders
grown orders (s ∷ ss) = grown (orders ++ longer orders s.before s.thread ∷ []) ss

-- the empty order, and those that the steps make from it
abbrev pub orders_of : List TrailEdge → List (List ℕ)
orders_of steps = grown ([] ∷ []) steps

-- each step extends an earlier order
abbrev pub AreBackward : List TrailEdge → Type 0
AreBackward steps = (k : ℕ) (s : TrailEdge) → slice_get steps k ≡ Some s → s.before ≤ k
