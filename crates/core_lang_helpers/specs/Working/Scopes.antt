-- The model of the code's scope, and lists of renamed trees.
use Rattle.std.specs.Prelude.{◌≡◌, ℕ, List, ◌++◌, map, reverse}
use Rattle.std.specs.List.{AllZip}
use Rattle.core_lang.specs.declared.tree.Expr.{Expr}
use Rattle.core_lang.specs.declared.tree.Operation.{Operation}
use Rattle.core_lang.specs.declared.tree.Condition.{Condition}
use Rattle.core_lang.specs.declared.tree.Stmt.{Stmt}
use Rattle.core_lang.specs.Expansion.{Pair, pair, At, Renames, RenamesTest, Arguments}
use Rattle.core_lang_helpers.specs.declared.scope.Pair as code
use Rattle.core_lang_helpers.specs.declared.scope.WrittenScope.{WrittenScope}

abbrev pub pair_of : code.Pair → Pair
pair_of p = pair p.own p.written

-- the pairs in scope, the last one bound first
abbrev pub pairs_of : WrittenScope → List Pair
pairs_of scope = reverse (map pair_of scope.pairs.items)

-- the state of the expansion, in which the next local gets this number
abbrev pub at_of : WrittenScope → ℕ → At
at_of scope fresh = record { scope = pairs_of scope; own = scope.own; fresh = fresh }

-- the same operations, with each local replaced
abbrev pub RenamesOperation : List Pair → Operation → Operation → Type 0
RenamesOperation scope o o' = (o'.operator ≡ o.operator) × Renames scope o.operand o'.operand

abbrev pub RenamesOperations : List Pair → List Operation → List Operation → Type 0
RenamesOperations scope os os' = AllZip (RenamesOperation scope) os os'

-- the same conditions, with each local replaced
abbrev pub RenamesConditions : List Pair → List Condition → List Condition → Type 0
RenamesConditions scope cs cs' = AllZip (RenamesTest scope) cs cs'

-- a `let` for each argument was appended
abbrev pub HasLets : ℕ → List Pair → List Expr → ℕ → List Stmt → List Stmt → Type 0
HasLets start scope es first old new = (lets : List Stmt) × (new ≡ old ++ lets) × Arguments start scope es first lets
