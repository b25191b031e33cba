-- The state of a section under way.
use Rattle.std.specs.Prelude.{◌≡◌, ℕ, List}
use Rattle.core_lang.specs.declared.shape.Shape.{Shape}
use Rattle.core_lang.specs.declared.tree.Condition.{Condition}
use Rattle.core_lang.specs.declared.tree.Expr.{Expr}
use Rattle.core_lang.specs.declared.tree.Section.{Section}
use Rattle.core_lang.specs.declared.tree.Stmt.{Stmt}
use Rattle.core_lang.specs.Meaning.{State, Flow, given, sequence, stored, truth_of, turns, value_of}
use Rattle.core_lang.specs.Whole.{Run, concluded}
use Rattle.meaning.specs.declared.execution.Execution.{Execution}

abbrev pub state_of : Execution → State
state_of e = record { locals = e.locals.items; heap = e.draft.now; prints = e.prints.items }

-- where an assignment to a local leads
abbrev pub assigned : ℕ → Expr → Shape → State → Flow
assigned local e shape s = given (value_of e shape s.locals s.heap) s (λ v. stored local v s)

-- the effect of a loop, by the list of its statements
abbrev pub while : Condition → List Stmt → Shape → ℕ → State → Flow
while c body shape n s = turns n (λ s. truth_of c shape s.locals s.heap) (sequence body shape n) s

-- a section's run from a state on
abbrev pub run_from : Section → Shape → ℕ → State → Run
run_from section shape n s = concluded section.result shape (sequence section.body.items shape n s)

-- the heap from before the run has not changed
abbrev pub Keeps : Execution → Execution → Type 0
Keeps old new = new.draft.before ≡ old.draft.before
