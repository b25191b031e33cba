-- The remedy of a fault, by its code.
use Rattle.std.specs.Prelude.{ℕ, List, ◌++◌, codes}
use Rattle.code.specs.Listing.{line}
use Rattle.source.specs.declared.fault.Code.{Code}
use Rattle.source.specs.declared.fault.Code.TheVariants.{BadCharacter, NumberTooLarge, UnexpectedToken, NestedTooDeep}
use Rattle.source.specs.declared.fault.Code.TheVariants.{DeclaredTwice, UnknownName, WrongType, WrongArgumentCount}
use Rattle.source.specs.declared.fault.Code.TheVariants.{NotAssignable, NeitherFinalNorProtected, ProtectedByNoLock}
use Rattle.source.specs.declared.fault.Code.TheVariants.{ProtectedByPassesNonFinal, UnstableBase, LockOrderCycle}
use Rattle.source.specs.declared.fault.Code.TheVariants.{LimitExceeded, FinalWithoutOpeningValue}
use Rattle.source.specs.declared.fault.Code.TheVariants.{InitOutOfRangeOrRepeated, MisplacedReturn, LockAsValue}
use Rattle.source.specs.declared.fault.Code.TheVariants.{RecursiveHelper}

-- what can be done about a fault of this code
abbrev pub remedy : Code → List ℕ
remedy BadCharacter = codes "write && for &, || for |, // for #; names have ASCII letters only, and there are no strings"
remedy NumberTooLarge = codes "9223372036854775807 is the greatest number; in a section -9223372036854775807 - 1 is the least"
remedy UnexpectedToken = codes "write something else here; or the token before it lacks something: a ;, a type, a parenthesis"
remedy NestedTooDeep = codes "bind a part of the expression by a let, or leave out parentheses that change nothing"
remedy DeclaredTwice = codes "take another name: those of a section differ from each other and from those of the top level"
remedy UnknownName = codes "declare it or fix the spelling; a let or var is in scope until the end of its block"
remedy WrongType = codes "use an expression of the expected type or kind; a comparison is a condition, not a value"
remedy WrongArgumentCount = codes "give one argument for each parameter"
remedy NotAssignable = codes "copy it into a var, and assign to that; of an array assign the elements"
remedy NeitherFinalNorProtected = codes "say which lock protects it: protected_by(LOCK)"
remedy ProtectedByNoLock = codes "end the annotation at a lock; of a global or an array it is a global lock alone"
remedy ProtectedByPassesNonFinal = codes "make the reference final, or take a lock of the own struct or a global lock"
remedy UnstableBase = codes "bind the object by a let first: let n: ref S = a.next; in a walk list its class in the head: lock(S.l)"
remedy LockOrderCycle = codes "put the lets before all uses; or take a parameter, or list the class in the section's head: lock(S.l)"
remedy LimitExceeded = codes "split what is too large; the limits are fixed"
remedy FinalWithoutOpeningValue = codes "give an init with an object for each member of each pool of the struct"
remedy InitOutOfRangeOrRepeated = codes "count members from 0, and give each field of a member one init"
remedy MisplacedReturn = codes "keep the result in a var, and return that in the last statement of the body"
remedy LockAsValue = codes "leave it out: locks are taken and given back by the compiler"
remedy RecursiveHelper = codes "write a loop; where each turn comes back to what it left, keep a stack in an array"

-- help: REMEDY
abbrev pub remedy_text : Code → List ℕ
remedy_text code = line (codes "help: " ++ remedy code)
