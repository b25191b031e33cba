-- Words that are codes of faults.
use Rattle.std.specs.Char.{is_ascii_digit}
use Rattle.std.specs.Prelude.{Bool, false, ◌==◌, ◌&&◌, ◌||◌, List, [], ◌∷◌, Option, find}
use Rattle.std.specs.Str.{bytes_eq}
use Rattle.clap.specs.Words.{Text}
use Rattle.source.specs.Codes.{code_name}
use Rattle.source.specs.declared.fault.Code.{Code}
use Rattle.source.specs.declared.fault.Code.TheVariants.{BadCharacter, NumberTooLarge, UnexpectedToken, NestedTooDeep}
use Rattle.source.specs.declared.fault.Code.TheVariants.{DeclaredTwice, UnknownName, WrongType, WrongArgumentCount}
use Rattle.source.specs.declared.fault.Code.TheVariants.{NotAssignable, NeitherFinalNorProtected, ProtectedByNoLock}
use Rattle.source.specs.declared.fault.Code.TheVariants.{ProtectedByPassesNonFinal, UnstableBase, LockOrderCycle}
use Rattle.source.specs.declared.fault.Code.TheVariants.{LimitExceeded, FinalWithoutOpeningValue}
use Rattle.source.specs.declared.fault.Code.TheVariants.{InitOutOfRangeOrRepeated, MisplacedReturn, LockAsValue}
use Rattle.source.specs.declared.fault.Code.TheVariants.{RecursiveHelper}

abbrev pub all_codes : List Code
all_codes =
    BadCharacter ∷ NumberTooLarge ∷ UnexpectedToken ∷ NestedTooDeep ∷ DeclaredTwice ∷ UnknownName ∷ WrongType ∷ WrongArgumentCount
    ∷ NotAssignable ∷ NeitherFinalNorProtected ∷ ProtectedByNoLock ∷ ProtectedByPassesNonFinal ∷ UnstableBase ∷ LockOrderCycle
    ∷ LimitExceeded ∷ FinalWithoutOpeningValue ∷ InitOutOfRangeOrRepeated ∷ MisplacedReturn ∷ LockAsValue ∷ RecursiveHelper ∷ []

-- the word is `E` or `e`, and two digits
abbrev pub is_code_word : Text → Bool
is_code_word (e ∷ tens ∷ ones ∷ []) = ((e == 69) || (e == 101)) && is_ascii_digit tens && is_ascii_digit ones
is_code_word _ = false

-- all but the first byte
abbrev pub rest : Text → Text
rest [] = []
rest (x ∷ xs) = xs

-- the word is the code's printed name, except for its first byte
abbrev pub is_named : Text → Code → Bool
is_named word code = bytes_eq (rest (code_name code)) (rest word)

-- the code that a word written so names, if there is one
abbrev pub code_named : Text → Option Code
code_named word = find (is_named word) all_codes
