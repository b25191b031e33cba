-- The line of the lock that belongs to a declaration.
use Rattle.std.specs.Prelude.{◌≡◌, ℕ, List, [], ◌++◌, codes, length, Option, Some, None, option_and_then}
use Rattle.std.specs.Fmt.{decimal}
use Rattle.std.specs.List.{slice_get}
use Rattle.std.specs.Str.{bytes_eq}
use Rattle.code.specs.Listing.{line}
use Rattle.compiler.specs.Programs.{Accepts, IsOfFirstPass}
use Rattle.core_lang.specs.declared.typed.Typed.{Typed}
use Rattle.locks.specs.Texts.{class_name}
use Rattle.lowering.specs.Plans.{Plan, IsCompiled}
use Rattle.lsp_texts.specs.Declarations.{first}
use Rattle.source.specs.declared.fault.Fault.{Fault}

-- the number of the class that is written like this
abbrev pub class_number : Typed → List ℕ → Option ℕ
class_number program class = first (λ c. bytes_eq (class_name program c) class) (length program.classes.items)

-- the rank of that class, where the program's classes have these ranks
abbrev pub rank_of : Typed → List ℕ → List ℕ → Option ℕ
rank_of program ranks class = option_and_then (slice_get ranks) (class_number program class)

-- the words on a rank, which are empty for a name without a rank
abbrev pub rank_words : Option ℕ → List ℕ
rank_words None = []
rank_words (Some rank) = codes ", rank " ++ decimal rank

-- lock class CLASS, rank RANK
abbrev pub class_line : List ℕ → Option ℕ → List ℕ
class_line class rank = line (codes "lock class " ++ class ++ rank_words rank)

-- the text is accepted, and the line has the class with its rank in the order; or it has a fault, and the line has the
-- class alone
pub data IsClassLine (text class told : List ℕ) : Type 0 where
  accepted : (plan : Plan) → Accepts text plan.accepted → IsCompiled plan →
      told ≡ class_line class (rank_of plan.program plan.ranks class) → IsClassLine text class told
  refused : (fault : Fault) → IsOfFirstPass text fault → told ≡ class_line class None → IsClassLine text class told

-- the line on the class of a lock, which is empty for a name without a lock
abbrev pub IsLockLine : List ℕ → Option (List ℕ) → List ℕ → Type 0
IsLockLine text None told = told ≡ []
IsLockLine text (Some class) told = IsClassLine text class told
