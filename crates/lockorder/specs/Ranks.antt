-- Rank lists and cycles of classes of which some must precede others.
use Rattle.std.specs.Prelude.{◌≡◌, ◌≢◌, ℕ, ◌<◌, ◌≤◌, ◌++◌, List, [], ◌∷◌, length, slice_get, Some, ⊤}
use Rattle.std.specs.List.{AllPairs, Contains}

-- an edge from one class to another means that the first must precede the second; classes are numbered below their
-- count
module _ (Edge : ℕ → ℕ → Type 0) (classes : ℕ) where
  -- the class is not listed, and all that must precede it are
  pub record IsReady (IsListed : ℕ → Type 0) (c : ℕ) : Type 0 where
    pub class : c < classes
    pub new : IsListed c → ⊥
    pub listed_before : (b : ℕ) → Edge b c → IsListed b

  -- the lowest-numbered class that is ready
  pub record IsNext (IsListed : ℕ → Type 0) (c : ℕ) : Type 0 where
    pub ready : IsReady IsListed c
    pub lowest : (d : ℕ) → IsReady IsListed d → c ≤ d

  -- after those that are listed, each is the next one
  abbrev pub EachIsNext : List ℕ → List ℕ → Type 0
  EachIsNext listed [] = ⊤
  EachIsNext listed (c ∷ rest) = IsNext (Contains listed) c × EachIsNext (listed ++ c ∷ []) rest

  -- all classes, each the next one after those before it
  pub record IsRankList (list : List ℕ) : Type 0 where
    pub each : EachIsNext [] list
    pub all : (c : ℕ) → c < classes → Contains list c

  -- for each class its place in the rank list
  pub record AreRanks (ranks : List ℕ) : Type 0 where
    pub list : List ℕ
    pub is_list : IsRankList list
    pub places : (k c : ℕ) → slice_get list k ≡ Some c → slice_get ranks c ≡ Some k
    pub long : length ranks ≡ classes

-- each class has a lower rank than those that must follow it
abbrev pub Rise : (ℕ → ℕ → Type 0) → List ℕ → Type 0
Rise Edge ranks = (c d r s : ℕ) → Edge c d → slice_get ranks c ≡ Some r → slice_get ranks d ≡ Some s → r < s

-- an edge leads from each class to the next, and from the last to this class
abbrev pub LeadTo : (ℕ → ℕ → Type 0) → ℕ → List ℕ → Type 0
LeadTo Edge first [] = ⊤
LeadTo Edge first (c ∷ []) = Edge c first
LeadTo Edge first (c ∷ d ∷ rest) = Edge c d × LeadTo Edge first (d ∷ rest)

-- no two classes are equal
abbrev pub AreDistinct : List ℕ → Type 0
AreDistinct list = AllPairs ◌≢◌ list

-- one or more distinct classes, with an edge from each to the next, and from the last to the first
abbrev pub IsCycle : (ℕ → ℕ → Type 0) → List ℕ → Type 0
IsCycle Edge [] = ⊥
IsCycle Edge (c ∷ rest) = AreDistinct (c ∷ rest) × LeadTo Edge c (c ∷ rest)
