-- The meaning of statements with a bound on the depth of calls. At the greatest depth it is that of the language.
use Rattle.std.specs.Prelude.{ℕ, List, Result, Ok, Err}
use Rattle.core_lang.specs.declared.value.Value.{Value}
use Rattle.core_lang.specs.declared.value.Failure.{Failure}
use Rattle.core_lang.specs.declared.value.Failure.TheVariants.{Trap, Wrong}
use Rattle.core_lang.specs.declared.value.Outcome.TheVariants as out
use Rattle.core_lang.specs.declared.shape.Shape.{Shape}
use Rattle.core_lang.specs.declared.tree.Action.{Action}
use Rattle.core_lang.specs.declared.tree.Condition.{Condition}
use Rattle.core_lang.specs.declared.tree.Expr.{Expr}
use Rattle.core_lang.specs.declared.tree.Section.{Section}
use Rattle.core_lang.specs.declared.tree.Stmt.{Stmt}
use Rattle.core_lang.specs.Meaning.{State, Flow, Helpers, effect_by, sequence_by, helped, truth_of, turns, values_of}
use Rattle.core_lang.specs.Meaning.{run_from as helper_run}
use Rattle.core_lang.specs.Whole.{Run, over, Gone_astray}
use Rattle.meaning.specs.declared.execution.Bounds.{Bounds}

-- the runs of helpers within these bounds
abbrev pub helpers_within : Shape → Bounds → Helpers
helpers_within shape bounds = helped bounds.depth shape bounds.turns

-- the effect of a statement within these bounds
abbrev pub effect_within : Action → Shape → Bounds → State → Flow
effect_within x shape bounds = effect_by (helpers_within shape bounds) x shape bounds.turns

-- the effect of statements, one after another
abbrev pub sequence_within : List Stmt → Shape → Bounds → State → Flow
sequence_within block shape bounds = sequence_by (helpers_within shape bounds) block shape bounds.turns

-- the effect of a loop, by the list of its statements
abbrev pub while_within : Condition → List Stmt → Shape → Bounds → State → Flow
while_within c body shape bounds s =
    turns bounds.turns (λ s. truth_of c shape s.locals s.heap) (sequence_within body shape bounds) s

-- the run of a section or of a helper from a state on
abbrev pub run_within : Section → Shape → Bounds → State → Run
run_within section shape bounds s = helper_run (helpers_within shape bounds) section shape bounds.turns s

-- the run of the helper of this number on these arguments
abbrev pub helped_within : ℕ → List Value → Shape → Bounds → State → Run
helped_within helper arguments shape bounds s = helpers_within shape bounds helper arguments s.heap s.prints

-- the run of `go` on a value; if there is none, the end in its trap, or astray
abbrev pub if_given : {A : Type 0} → Result A Failure → State → (A → Run) → Run
if_given (Ok a) s go = go a
if_given (Err (Trap t)) s go = over (out.Traps t) s
if_given (Err Wrong) s go = Gone_astray

-- the run of a call: that of the helper on the values of the arguments
abbrev pub called : ℕ → List Expr → Shape → Bounds → State → Run
called helper arguments shape bounds s =
    if_given (values_of arguments shape s.locals s.heap) s (λ values. helped_within helper values shape bounds s)
