-- The printed name and the message of a fault's code.
use Rattle.std.specs.Prelude.{ℕ, List, codes}
use Rattle.source.specs.declared.fault.Code.{Code}
use Rattle.source.specs.declared.fault.Code.TheVariants.{BadCharacter, NumberTooLarge, UnexpectedToken, NestedTooDeep}
use Rattle.source.specs.declared.fault.Code.TheVariants.{DeclaredTwice, UnknownName, WrongType, WrongArgumentCount}
use Rattle.source.specs.declared.fault.Code.TheVariants.{NotAssignable, NeitherFinalNorProtected, ProtectedByNoLock}
use Rattle.source.specs.declared.fault.Code.TheVariants.{ProtectedByPassesNonFinal, UnstableBase, LockOrderCycle}
use Rattle.source.specs.declared.fault.Code.TheVariants.{LimitExceeded, FinalWithoutOpeningValue}
use Rattle.source.specs.declared.fault.Code.TheVariants.{InitOutOfRangeOrRepeated, MisplacedReturn, LockAsValue}
use Rattle.source.specs.declared.fault.Code.TheVariants.{RecursiveHelper}

-- the code's printed name
abbrev pub code_name : Code → List ℕ
code_name BadCharacter = codes "E01"
code_name NumberTooLarge = codes "E02"
code_name UnexpectedToken = codes "E03"
code_name NestedTooDeep = codes "E04"
code_name DeclaredTwice = codes "E05"
code_name UnknownName = codes "E06"
code_name WrongType = codes "E07"
code_name WrongArgumentCount = codes "E08"
code_name NotAssignable = codes "E09"
code_name NeitherFinalNorProtected = codes "E10"
code_name ProtectedByNoLock = codes "E11"
code_name ProtectedByPassesNonFinal = codes "E12"
code_name UnstableBase = codes "E13"
code_name LockOrderCycle = codes "E14"
code_name LimitExceeded = codes "E15"
code_name FinalWithoutOpeningValue = codes "E16"
code_name InitOutOfRangeOrRepeated = codes "E17"
code_name MisplacedReturn = codes "E18"
code_name LockAsValue = codes "E19"
code_name RecursiveHelper = codes "E20"

-- the message of a code
abbrev pub code_text : Code → List ℕ
code_text BadCharacter = codes "bad character"
code_text NumberTooLarge = codes "number too large"
code_text UnexpectedToken = codes "unexpected token"
code_text NestedTooDeep = codes "nested too deep"
code_text DeclaredTwice = codes "declared twice"
code_text UnknownName = codes "unknown name"
code_text WrongType = codes "wrong type"
code_text WrongArgumentCount = codes "wrong number of arguments"
code_text NotAssignable = codes "not assignable"
code_text NeitherFinalNorProtected = codes "neither final nor protected"
code_text ProtectedByNoLock = codes "protected_by does not end at a lock"
code_text ProtectedByPassesNonFinal = codes "protected_by passes a field that is not final"
code_text UnstableBase = codes "unstable base"
code_text LockOrderCycle = codes "lock order cycle"
code_text LimitExceeded = codes "limit exceeded"
code_text FinalWithoutOpeningValue = codes "final reference without opening value"
code_text InitOutOfRangeOrRepeated = codes "init out of range or repeated"
code_text MisplacedReturn = codes "misplaced or missing return"
code_text LockAsValue = codes "lock used as a value"
code_text RecursiveHelper = codes "recursive helper"
