-- The ends of the blocks of parts, as the code notes them. Nobody has to believe these: `Points` defines which point
-- follows which.
use Rattle.std.specs.Prelude.{◌≡◌, ⊤, ℕ, ◌+◌, ◌<◌, List, [], ◌∷◌, ◌++◌, length}
use Rattle.std.proofs.Common.{get_or}
use Rattle.flow.specs.Skeletons.{Skeleton, Nil, Step, Fork, Loop, count}
use Rattle.points.specs.declared.ends.Ends.{Ends}

-- for each point, the ends of the blocks of the part that it is the first point of; the points are numbered from n
abbrev pub ends_from : Skeleton → ℕ → List Ends
ends_from Nil n = []
ends_from (Step r) n = record { middle = n + 1; end = n + 1 } ∷ ends_from r (n + 1)
ends_from (Fork a b r) n =
    record { middle = n + 1 + count a; end = n + 1 + count a + count b }
    ∷ (ends_from a (n + 1) ++ (ends_from b (n + 1 + count a) ++ ends_from r (n + 1 + count a + count b)))
ends_from (Loop a r) n =
    record { middle = n + 1 + count a; end = n + 1 + count a } ∷ (ends_from a (n + 1) ++ ends_from r (n + 1 + count a))

-- the ends of points were appended; the points are numbered from the length of the list on
abbrev pub AddsEnds : Skeleton → List Ends → List Ends → Type 0
AddsEnds c old new = new ≡ old ++ ends_from c (length old)

-- a list has these ends for point n
abbrev pub IsEndAt : List Ends → ℕ → ℕ → ℕ → Type 0
IsEndAt ends n middle end = (n < length ends) × ((none : Ends) → get_or ends n none ≡ record { middle = middle; end = end })

-- a list has the ends of points that are numbered from n
abbrev pub AreEndsAt : List Ends → Skeleton → ℕ → Type 0
AreEndsAt ends Nil n = ⊤
AreEndsAt ends (Step r) n = IsEndAt ends n (n + 1) (n + 1) × AreEndsAt ends r (n + 1)
AreEndsAt ends (Fork a b r) n =
    IsEndAt ends n (n + 1 + count a) (n + 1 + count a + count b) × AreEndsAt ends a (n + 1) × AreEndsAt ends b (n + 1 + count a)
    × AreEndsAt ends r (n + 1 + count a + count b)
AreEndsAt ends (Loop a r) n =
    IsEndAt ends n (n + 1 + count a) (n + 1 + count a) × AreEndsAt ends a (n + 1) × AreEndsAt ends r (n + 1 + count a)
