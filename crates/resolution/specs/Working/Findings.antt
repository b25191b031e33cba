-- Faults of names and types with their reasons: which of two is reported, the least of several, and the first ones.
-- They are ordered by place and code alone.
use Rattle.std.specs.Prelude.{ℕ, Bool, if◌then◌else◌, nat_lt, ◌||◌, List, [], ◌∷◌, length, take, Option, Some, None}
use Rattle.std.specs.Prelude.{◌≡◌, ◌⊎◌, ◌+◌, true, false}
use Rattle.source.specs.declared.fault.Code.{Code}
use Rattle.source.specs.declared.mistake.Mistake.{Mistake}
use Rattle.source.specs.Mistakes.{goes_before}
use Rattle.resolution.specs.declared.why.Why.{Why}
use Rattle.resolution.specs.declared.why.Why.TheVariants.{Plain}
use Rattle.resolution.specs.declared.finding.Finding.{Finding}
pub use Rattle.resolution.specs.FirstFaults.{mistake_of, goes_ahead, MOST, Firsts, IsAmong, IsOneOf, GoesAheadOfAll, AllGoAhead, Rises}

-- the lesser of a fault, if one is given, and another
abbrev pub lesser : Option Finding → Finding → Option Finding
lesser None g = Some g
lesser (Some f) g = if goes_ahead g f then Some g else Some f

-- the least of a fault, if one is given, and further ones
abbrev pub least_of : Option Finding → List Finding → Option Finding
least_of f [] = f
least_of f (g ∷ gs) = least_of (lesser f g) gs

abbrev pub nothing_found : Firsts
nothing_found = record { kept = []; more = false }

abbrev pub first_of : List Finding → Option Finding
first_of [] = None
first_of (f ∷ fs) = Some f

abbrev pub first : Firsts → Option Finding
first s = first_of s.kept

-- the faults with one inserted at its place, unless one with its code and place is among them
abbrev pub placed : Finding → List Finding → List Finding
placed g [] = g ∷ []
placed g (f ∷ fs) = if goes_ahead g f then g ∷ f ∷ fs else if goes_ahead f g then f ∷ placed g fs else f ∷ fs

-- the place of a fault, counted from k; none if one with its code and place is among them
abbrev pub place_in : ℕ → Finding → List Finding → Option ℕ
place_in k g [] = Some k
place_in k g (f ∷ fs) = if goes_ahead g f then Some k else if goes_ahead f g then place_in (k + 1) g fs else None

-- the first n of these faults; the flag says whether more were found
abbrev pub cut_off : ℕ → List Finding → Bool → Firsts
cut_off n fs more = record { kept = take n fs; more = more || nat_lt n (length fs) }

-- the first faults after one more was found
abbrev pub with_found : Firsts → Finding → Firsts
with_found s g = cut_off MOST (placed g s.kept) s.more

-- the first faults after further ones were found
abbrev pub found_in : Firsts → List Finding → Firsts
found_in s [] = s
found_in s (g ∷ gs) = found_in (with_found s g) gs

abbrev pub told : Code → ℕ → Why → Finding
told code start why = record { code = code; start = start; why = why }

-- a fault whose code says all
abbrev pub plain : Mistake → Finding
plain f = told f.code f.start Plain

abbrev pub found_if : Bool → Finding → List Finding
found_if b f = if b then f ∷ [] else []
