-- What the code takes for the other faults. Nobody has to believe this.
use Rattle.std.specs.Prelude.{Bool, List, [], ◌∷◌, if◌then◌else◌, ◌||◌, map}
use Rattle.explanation.specs.Further.{Further, nothing_further}
use Rattle.resolution.specs.declared.finding.Finding.{Finding}
use Rattle.resolution.specs.Working.Findings.{mistake_of}
use Rattle.source.specs.declared.mistake.Mistake.{Mistake}
use Rattle.source.specs.Mistakes.{goes_before}

-- the two faults differ in code or place
abbrev pub differ : Mistake → Mistake → Bool
differ a b = goes_before a b || goes_before b a

-- the further faults: those after the first one, if `fault` is the first one, and otherwise none
abbrev pub others_of : Mistake → Bool → List Finding → Further
others_of fault more [] = nothing_further
others_of fault more (f ∷ fs) = if differ (mistake_of f) fault then nothing_further else record { faults = map mistake_of fs; more = more }
