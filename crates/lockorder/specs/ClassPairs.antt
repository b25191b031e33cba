-- The lock order of a program as data: the pairs of classes of which the first must precede the second, and the use and
-- binding that make each.
use Rattle.std.specs.Prelude.{◌≡◌, ◌⊎◌, ◌<◌, ℕ, List, map}
use Rattle.std.specs.List.{All, AllPairs, Contains}
use Rattle.core_lang.specs.declared.typed.Typed.{Typed}
use Rattle.lockorder.specs.declared.ranks.ClassPair.{ClassPair}
use Rattle.lockorder.specs.Edges.{MakesFirst, Edge}

-- the class from which the edge leads, and that to which it leads
abbrev pub classes_of_pair : ClassPair → ℕ × ℕ
classes_of_pair pair = (pair.edge.class, pair.next)

-- the use and binding of the pair are the first that make its edge
abbrev pub IsMadeFirst : Typed → ClassPair → Type 0
IsMadeFirst program pair = MakesFirst program pair.edge.section pair.edge.used pair.edge.bound pair.edge.class pair.next

-- a pair with a lower first class, or with the same first class and a lower second one
abbrev pub Precedes : ℕ × ℕ → ℕ × ℕ → Type 0
Precedes a b = (a.0 < b.0) ⊎ ((a.0 ≡ b.0) × (a.1 < b.1))

-- each pair is an edge with the use and binding that make it first. The pairs rise, so that none is repeated, and every
-- edge is listed
pub record AreClassPairs (program : Typed) (pairs : List ClassPair) : Type 0 where
  pub made : All (IsMadeFirst program) pairs
  pub rising : AllPairs Precedes (map classes_of_pair pairs)
  pub all : (c d : ℕ) → Edge program c d → Contains (map classes_of_pair pairs) (c, d)
