-- An `if` and a loop, by the lists of their statements.
use Rattle.std.proofs.Common.{◌≡◌, ◌≢◌, ℕ, zero, suc, ◌-◌, List, Vec, Global, refl, sym, ap, ◌∙◌, Result, Ok, Bool}
use Rattle.std.proofs.Common.{true, false, sub-one}
use Rattle.core_lang.specs.declared.value.Value.{Value}
use Rattle.core_lang.specs.declared.value.Failure.{Failure}
use Rattle.core_lang.specs.declared.shape.Shape.{Shape}
use Rattle.core_lang.specs.declared.tree.Condition.{Condition}
use Rattle.core_lang.specs.declared.tree.Stmt.{Stmt}
use Rattle.core_lang.specs.declared.tree.Action.{Action, If, IfElse, While}
use Rattle.meaning.proofs.Rows.{effect_if, effect_if_else, effect_while}
use Rattle.core_lang.specs.Meaning.{State, Flow, GoesOn, Helpers, given, choose, after, turns, truth_of, effect_by}
use Rattle.core_lang.specs.Meaning.{sequence_by}

-- the truth value that the code finds is that of the condition in this state
found_truth : (c : Condition) (shape : Shape) (s : State) (locals heap : List Value) (t b : Bool) →
    locals ≡ s.locals → heap ≡ s.heap → Ok t ≡ truth_of c shape locals heap → t ≡ b → truth_of c shape s.locals s.heap ≡ Ok b
found_truth c shape s locals heap t b l h e is =
    ap (λ x. truth_of c shape x s.heap) (sym l) ∙ ap (truth_of c shape locals) (sym h) ∙ sym e ∙ ap Ok is

pub if_true : (call : Helpers) (x : Action) (c : Condition) (a : Vec Stmt Global) (items : List Stmt) (shape : Shape) (n : ℕ) (s : State) (locals heap : List Value) (t : Bool) →
    x ≡ If c a → locals ≡ s.locals → heap ≡ s.heap → Ok t ≡ truth_of c shape locals heap → t ≡ true → items ≡ a.items →
    sequence_by call items shape n s ≡ effect_by call x shape n s
if_true call x c a items shape n s locals heap t is l h e holds all =
    ap (λ i. sequence_by call i shape n s) all
    ∙ sym (ap (λ r. given r s (λ t. choose t (sequence_by call a.items shape n s) (GoesOn s))) (found_truth c shape s locals heap t true l h e holds))
    ∙ sym (effect_if call c a shape n s)
    ∙ ap (λ y. effect_by call y shape n s) (sym is)

pub if_false : (call : Helpers) (x : Action) (c : Condition) (a : Vec Stmt Global) (shape : Shape) (n : ℕ) (s : State) (locals heap : List Value) (t : Bool) →
    x ≡ If c a → locals ≡ s.locals → heap ≡ s.heap → Ok t ≡ truth_of c shape locals heap → t ≡ false →
    effect_by call x shape n s ≡ GoesOn s
if_false call x c a shape n s locals heap t is l h e fails =
    ap (λ y. effect_by call y shape n s) is
    ∙ effect_if call c a shape n s
    ∙ ap (λ r. given r s (λ t. choose t (sequence_by call a.items shape n s) (GoesOn s))) (found_truth c shape s locals heap t false l h e fails)

pub if_else_true : (call : Helpers) (x : Action) (c : Condition) (a b : Vec Stmt Global) (items : List Stmt) (shape : Shape) (n : ℕ) (s : State) (locals heap : List Value) (t : Bool) →
    x ≡ IfElse c a b → locals ≡ s.locals → heap ≡ s.heap → Ok t ≡ truth_of c shape locals heap → t ≡ true → items ≡ a.items →
    sequence_by call items shape n s ≡ effect_by call x shape n s
if_else_true call x c a b items shape n s locals heap t is l h e holds all =
    ap (λ i. sequence_by call i shape n s) all
    ∙ sym (ap (λ r. given r s (λ t. choose t (sequence_by call a.items shape n s) (sequence_by call b.items shape n s))) (found_truth c shape s locals heap t true l h e holds))
    ∙ sym (effect_if_else call c a b shape n s)
    ∙ ap (λ y. effect_by call y shape n s) (sym is)

pub if_else_false : (call : Helpers) (x : Action) (c : Condition) (a b : Vec Stmt Global) (items : List Stmt) (shape : Shape) (n : ℕ) (s : State) (locals heap : List Value) (t : Bool) →
    x ≡ IfElse c a b → locals ≡ s.locals → heap ≡ s.heap → Ok t ≡ truth_of c shape locals heap → t ≡ false → items ≡ b.items →
    sequence_by call items shape n s ≡ effect_by call x shape n s
if_else_false call x c a b items shape n s locals heap t is l h e fails all =
    ap (λ i. sequence_by call i shape n s) all
    ∙ sym (ap (λ r. given r s (λ t. choose t (sequence_by call a.items shape n s) (sequence_by call b.items shape n s))) (found_truth c shape s locals heap t false l h e fails))
    ∙ sym (effect_if_else call c a b shape n s)
    ∙ ap (λ y. effect_by call y shape n s) (sym is)

pub while_is : (call : Helpers) (x : Action) (c : Condition) (body : Vec Stmt Global) (items : List Stmt) (shape : Shape) (n : ℕ) (s : State) → x ≡ While c body → items ≡ body.items →
    turns n (λ s. truth_of c shape s.locals s.heap) (sequence_by call items shape n) s ≡ effect_by call x shape n s
while_is call x c body items shape n s is all =
    ap (λ i. turns n (λ s. truth_of c shape s.locals s.heap) (sequence_by call i shape n) s) all
    ∙ sym (effect_while call c body shape n s)
    ∙ ap (λ y. effect_by call y shape n s) (sym is)

pub turn : (left : ℕ) (test : State → Result Bool Failure) (body : State → Flow) (s s' : State) → left ≢ 0 →
    test s ≡ Ok true → body s ≡ GoesOn s' →
    turns (left - 1) test body s' ≡ turns left test body s
turn zero test body s s' some holds goes = absurd (some refl)
turn (suc left) test body s s' some holds goes =
    ap (λ k. turns k test body s') (sub-one (suc left))
    ∙ sym (ap (λ f. after f (turns left test body)) goes)
    ∙ sym (ap (λ r. given r s (λ b. choose b (after (body s) (turns left test body)) (GoesOn s))) holds)

pub while_turns : (call : Helpers) (c : Condition) (items : List Stmt) (shape : Shape) (n left : ℕ) (s s' : State) (locals heap : List Value) (t : Bool) →
    left ≢ 0 → locals ≡ s.locals → heap ≡ s.heap → Ok t ≡ truth_of c shape locals heap → t ≡ true → sequence_by call items shape n s ≡ GoesOn s' →
    turns (left - 1) (λ s. truth_of c shape s.locals s.heap) (sequence_by call items shape n) s' ≡ turns left (λ s. truth_of c shape s.locals s.heap) (sequence_by call items shape n) s
while_turns call c items shape n left s s' locals heap t some l h e holds goes =
    turn left (λ s. truth_of c shape s.locals s.heap) (sequence_by call items shape n) s s' some
    (found_truth c shape s locals heap t true l h e holds) goes
