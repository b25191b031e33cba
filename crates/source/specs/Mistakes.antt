-- Which of two faults is reported: the order of faults, and the least of several.
use Rattle.std.specs.Prelude.{◌≡◌, ℕ, nat_lt, ◌==◌, ◌&&◌, ◌||◌, Bool, false, if◌then◌else◌, List, [], ◌∷◌, Option}
use Rattle.std.specs.Prelude.{Some, None}
use Rattle.source.specs.declared.fault.Code.{Code}
use Rattle.source.specs.declared.fault.Code.TheVariants.{BadCharacter, NumberTooLarge, UnexpectedToken, NestedTooDeep}
use Rattle.source.specs.declared.fault.Code.TheVariants.{DeclaredTwice, UnknownName, WrongType, WrongArgumentCount}
use Rattle.source.specs.declared.fault.Code.TheVariants.{NotAssignable, NeitherFinalNorProtected, ProtectedByNoLock}
use Rattle.source.specs.declared.fault.Code.TheVariants.{ProtectedByPassesNonFinal, UnstableBase, LockOrderCycle}
use Rattle.source.specs.declared.fault.Code.TheVariants.{LimitExceeded, FinalWithoutOpeningValue}
use Rattle.source.specs.declared.fault.Code.TheVariants.{InitOutOfRangeOrRepeated, MisplacedReturn, LockAsValue}
use Rattle.source.specs.declared.fault.Code.TheVariants.{RecursiveHelper}
use Rattle.source.specs.declared.fault.Refusal.{Refusal}
use Rattle.source.specs.declared.fault.Refusal.TheVariants as refusal
use Rattle.source.specs.declared.mistake.Mistake.{Mistake}

-- the number in a code's printed name
abbrev pub code_number : Code → ℕ
code_number BadCharacter = 1
code_number NumberTooLarge = 2
code_number UnexpectedToken = 3
code_number NestedTooDeep = 4
code_number DeclaredTwice = 5
code_number UnknownName = 6
code_number WrongType = 7
code_number WrongArgumentCount = 8
code_number NotAssignable = 9
code_number NeitherFinalNorProtected = 10
code_number ProtectedByNoLock = 11
code_number ProtectedByPassesNonFinal = 12
code_number UnstableBase = 13
code_number LockOrderCycle = 14
code_number LimitExceeded = 15
code_number FinalWithoutOpeningValue = 16
code_number InitOutOfRangeOrRepeated = 17
code_number MisplacedReturn = 18
code_number LockAsValue = 19
code_number RecursiveHelper = 20

-- the fault that starts first comes first; of two with one start, the one with the lower code
abbrev pub goes_before : Mistake → Mistake → Bool
goes_before f g = nat_lt f.start g.start || (f.start == g.start) && nat_lt (code_number f.code) (code_number g.code)

-- the lesser of a fault, if one is given, and another
abbrev pub lesser : Option Mistake → Mistake → Option Mistake
lesser None g = Some g
lesser (Some f) g = if goes_before g f then Some g else Some f

-- the least of a list of faults and of one more, if it is given
abbrev pub least_of : Option Mistake → List Mistake → Option Mistake
least_of f [] = f
least_of f (g ∷ gs) = least_of (lesser f g) gs

-- no fault of the relation, which is by code and start, comes before the fault of the refusal
abbrev pub IsLeastOf : (Code → ℕ → Type 0) → Refusal → Type 0
IsLeastOf IsFault refusal.NoMemory = Unit {0}
IsLeastOf IsFault (refusal.Fault f) =
    (code : Code) (start : ℕ) → IsFault code start → goes_before (record { code = code; start = start }) (record { code = f.code; start = f.start }) ≡ false
