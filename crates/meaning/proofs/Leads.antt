-- The effect of a statement, from those of its parts.
use Rattle.std.proofs.Common.{◌≡◌, ◌∙◌, ℕ, zero, suc, ◌+◌, ◌<◌, ◌≤◌, Bool, List, ◌∷◌, Result, Ok, Err, Vec, Global}
use Rattle.std.proofs.Common.{length, get_or, drop, drop-cons, sym, ap, subst}
use Rattle.std.specs.Prelude.{slice_set, IsErrAnd}
use Rattle.std.proofs.Math.Numerals.{add-one}
use Rattle.std.proofs.lemmas.List.{drop_all}
use Rattle.std.proofs.lemmas.Option.{slice_get_past, slice_get-get_or}
use Rattle.core_lang.specs.declared.value.Value.{Value}
use Rattle.core_lang.specs.declared.value.Failure.{Failure}
use Rattle.core_lang.specs.declared.value.Failure.TheVariants.{Trap, Wrong}
use Rattle.core_lang.specs.declared.shape.Shape.{Shape}
use Rattle.core_lang.specs.declared.tree.Condition.{Condition}
use Rattle.core_lang.specs.declared.tree.Expr.{Expr}
use Rattle.core_lang.specs.declared.tree.Path.{Path}
use Rattle.core_lang.specs.declared.tree.Stmt.{Stmt}
use Rattle.core_lang.specs.declared.tree.Action.{Action, SetGlobal, SetElement, SetField, Print, If, IfElse}
use Rattle.core_lang.specs.Cells.{with, found, element_cell, field_cell, not_null}
use Rattle.meaning.proofs.Rows.{effect_if, effect_if_else}
use Rattle.core_lang.specs.Meaning.{State, Flow, GoesOn, Beyond, Astray, Helpers, given, choose, after, turns, value_of}
use Rattle.core_lang.specs.Meaning.{place_of, truth_of, effect_by, sequence_by, stored, written, printed}
use Rattle.meaning.specs.declared.execution.Halt.{Halt}
use Rattle.meaning.specs.declared.execution.Halt.TheVariants as halt
use Rattle.meaning.specs.Working.Halts.{halt_of, Follows}

-- ---- a value at the state

pub value_there : (e : Expr) (shape : Shape) (s : State) (locals heap : List Value) (r : Result Value Failure) →
    locals ≡ s.locals → heap ≡ s.heap →
    r ≡ value_of e shape locals heap → value_of e shape s.locals s.heap ≡ r
value_there e shape s locals heap r l h is = ap (λ x. value_of e shape x s.heap) (sym l) ∙ ap (value_of e shape locals) (sym h) ∙ sym is

pub place_there : (path : Path) (shape : Shape) (s : State) (locals heap : List Value) (r : Result Value Failure) →
    locals ≡ s.locals → heap ≡ s.heap →
    r ≡ place_of path shape locals heap → place_of path shape s.locals s.heap ≡ r
place_there path shape s locals heap r l h is = ap (λ x. place_of path shape x s.heap) (sym l) ∙ ap (place_of path shape locals) (sym h) ∙ sym is

pub truth_there : (c : Condition) (shape : Shape) (s : State) (locals heap : List Value) (r : Result Bool Failure) →
    locals ≡ s.locals → heap ≡ s.heap →
    r ≡ truth_of c shape locals heap → truth_of c shape s.locals s.heap ≡ r
truth_there c shape s locals heap r l h is = ap (λ x. truth_of c shape x s.heap) (sym l) ∙ ap (truth_of c shape locals) (sym h) ∙ sym is

pub with_both : {A B : Type 0} (x : Result A Failure) (a : A) (f : A → Result B Failure) (r : Result B Failure) →
    x ≡ Ok a → r ≡ f a → with x f ≡ r
with_both x a f r e is = ap (λ y. with y f) e ∙ sym is

-- ---- a failure

pub stops : {A : Type 0} (r : Result (Unit {0}) Halt) (f : Failure) (s : State) (flow : Flow) (go : A → Flow) →
    IsErrAnd r (λ y. y ≡ halt_of f) →
    flow ≡ given (Err f) s go → Follows r s flow
stops (Ok u) f s flow go is e = absurd is
stops (Err y) (Trap t) s flow go is e = subst (λ z. Follows (Err z) s flow) (sym is) e
stops (Err y) Wrong s flow go is e = subst (λ z. Follows (Err z) s flow) (sym is) e

-- ---- each kind of statement

module _ (call : Helpers) (x : Action) (shape : Shape) (n : ℕ) (s : State) where
  module _ (cell : ℕ) (e : Expr) (is : x ≡ SetGlobal cell e) where
    pub global_value : (r : Result Value Failure) → value_of e shape s.locals s.heap ≡ r →
        effect_by call x shape n s ≡ given r s (λ v. written cell v s)
    global_value r at = ap (λ y. effect_by call y shape n s) is ∙ ap (λ y. given y s (λ v. written cell v s)) at

  module _ (e : Expr) (is : x ≡ Print e) where
    pub print_value : (r : Result Value Failure) → value_of e shape s.locals s.heap ≡ r →
        effect_by call x shape n s ≡ given r s (λ v. printed v s)
    print_value r at = ap (λ y. effect_by call y shape n s) is ∙ ap (λ y. given y s (λ v. printed v s)) at

  module _ (array : ℕ) (index e : Expr) (is : x ≡ SetElement array index e) where
    pub element_index : (r : Result Value Failure) → value_of index shape s.locals s.heap ≡ r →
        effect_by call x shape n s ≡ given r s (λ i. given (element_cell shape array i) s (λ cell. given (value_of e shape s.locals s.heap) s (λ v. written cell v s)))
    element_index r at =
        ap (λ y. effect_by call y shape n s) is
        ∙ ap (λ y. given y s (λ i. given (element_cell shape array i) s (λ cell. given (value_of e shape s.locals s.heap) s (λ v. written cell v s)))) at

    pub element_at : (i : Value) (r : Result ℕ Failure) → value_of index shape s.locals s.heap ≡ Ok i →
        element_cell shape array i ≡ r →
        effect_by call x shape n s ≡ given r s (λ cell. given (value_of e shape s.locals s.heap) s (λ v. written cell v s))
    element_at i r at there = element_index (Ok i) at ∙ ap (λ y. given y s (λ cell. given (value_of e shape s.locals s.heap) s (λ v. written cell v s))) there

    pub element_value : (i : Value) (cell : ℕ) (r : Result Value Failure) →
        value_of index shape s.locals s.heap ≡ Ok i → element_cell shape array i ≡ Ok cell →
        value_of e shape s.locals s.heap ≡ r → effect_by call x shape n s ≡ given r s (λ v. written cell v s)
    element_value i cell r at there gives = element_at i (Ok cell) at there ∙ ap (λ y. given y s (λ v. written cell v s)) gives

  module _ (path : Path) (structure field : ℕ) (e : Expr) (is : x ≡ SetField path structure field e) where
    pub field_base : (r : Result Value Failure) → with (place_of path shape s.locals s.heap) not_null ≡ r →
        effect_by call x shape n s ≡ given r s (λ base. given (value_of e shape s.locals s.heap) s (λ v. given (field_cell shape base field) s (λ cell. written cell v s)))
    field_base r at =
        ap (λ y. effect_by call y shape n s) is
        ∙ ap (λ y. given y s (λ base. given (value_of e shape s.locals s.heap) s (λ v. given (field_cell shape base field) s (λ cell. written cell v s)))) at

    pub field_value : (base : Value) (r : Result Value Failure) →
        with (place_of path shape s.locals s.heap) not_null ≡ Ok base → value_of e shape s.locals s.heap ≡ r →
        effect_by call x shape n s ≡ given r s (λ v. given (field_cell shape base field) s (λ cell. written cell v s))
    field_value base r at gives = field_base (Ok base) at ∙ ap (λ y. given y s (λ v. given (field_cell shape base field) s (λ cell. written cell v s))) gives

    pub field_at : (base v : Value) (r : Result ℕ Failure) →
        with (place_of path shape s.locals s.heap) not_null ≡ Ok base → value_of e shape s.locals s.heap ≡ Ok v →
        field_cell shape base field ≡ r → effect_by call x shape n s ≡ given r s (λ cell. written cell v s)
    field_at base v r at gives there = field_value base (Ok v) at gives ∙ ap (λ y. given y s (λ cell. written cell v s)) there

  pub if_fails : (c : Condition) (a : Vec Stmt Global) (f : Failure) → x ≡ If c a →
      truth_of c shape s.locals s.heap ≡ Err f →
      effect_by call x shape n s ≡ given (Err f) s (λ t. choose t (sequence_by call a.items shape n s) (GoesOn s))
  if_fails c a f is fails =
      ap (λ y. effect_by call y shape n s) is ∙ effect_if call c a shape n s
      ∙ ap (λ r. given r s (λ t. choose t (sequence_by call a.items shape n s) (GoesOn s))) fails

  pub if_else_fails : (c : Condition) (a b : Vec Stmt Global) (f : Failure) → x ≡ IfElse c a b →
      truth_of c shape s.locals s.heap ≡ Err f →
      effect_by call x shape n s ≡ given (Err f) s (λ t. choose t (sequence_by call a.items shape n s) (sequence_by call b.items shape n s))
  if_else_fails c a b f is fails =
      ap (λ y. effect_by call y shape n s) is ∙ effect_if_else call c a b shape n s
      ∙ ap (λ r. given r s (λ t. choose t (sequence_by call a.items shape n s) (sequence_by call b.items shape n s))) fails

-- ---- a loop whose test fails

pub turns_fail : (left : ℕ) (test : State → Result Bool Failure) (body : State →
    Flow) (s : State) (f : Failure) (whole : Flow) → test s ≡ Err f →
    turns left test body s ≡ whole → whole ≡ given (Err f) s (λ (b : Bool). Beyond)
turns_fail zero test body s (Trap t) whole fails e = sym e ∙ ap (λ r. given r s (λ b. choose b Beyond (GoesOn s))) fails
turns_fail zero test body s Wrong whole fails e = sym e ∙ ap (λ r. given r s (λ b. choose b Beyond (GoesOn s))) fails
turns_fail (suc left) test body s (Trap t) whole fails e = sym e ∙ ap (λ r. given r s (λ b. choose b (after (body s) (turns left test body)) (GoesOn s))) fails
turns_fail (suc left) test body s Wrong whole fails e = sym e ∙ ap (λ r. given r s (λ b. choose b (after (body s) (turns left test body)) (GoesOn s))) fails

-- ---- one statement after another

stays_stopped : (y : Halt) (s : State) (flow : Flow) (go : State → Flow) → Follows (Err y) s flow →
    Follows (Err y) s (after flow go)
stays_stopped (halt.Trap t) s flow go e = ap (λ f. after f go) e
stays_stopped halt.Beyond s flow go e = ap (λ f. after f go) e
stays_stopped halt.Wrong s flow go e = ap (λ f. after f go) e
stays_stopped halt.NoMemory s flow go e = e

pub sequence_ends : (call : Helpers) (items : List Stmt) (i : ℕ) (shape : Shape) (n : ℕ) (s : State) (whole : Flow) →
    length items ≤ i →
    sequence_by call (drop i items) shape n s ≡ whole → whole ≡ GoesOn s
sequence_ends call items i shape n s whole le e = sym e ∙ ap (λ xs. sequence_by call xs shape n s) (drop_all i items le)

module _ (call : Helpers) (items : List Stmt) (i : ℕ) (item : Stmt) (shape : Shape) (n : ℕ) (s : State) (whole : Flow) (lt : i < length items) (is : item ≡ get_or items i item)
    (same : sequence_by call (drop i items) shape n s ≡ whole) where
  next : after (effect_by call item.action shape n s) (sequence_by call (drop (suc i) items) shape n) ≡ whole
  next = ap (λ xs. sequence_by call xs shape n s) (ap (λ y. y ∷ drop (suc i) items) is ∙ sym (drop-cons items i item lt)) ∙ same

  pub sequence_goes : (s' : State) → effect_by call item.action shape n s ≡ GoesOn s' →
      sequence_by call (drop (i + 1) items) shape n s' ≡ whole
  sequence_goes s' goes =
      ap (λ k. sequence_by call (drop k items) shape n s') (add-one i)
      ∙ sym (ap (λ f. after f (sequence_by call (drop (suc i) items) shape n)) goes) ∙ next

  pub sequence_stops : (r : Result (Unit {0}) Halt) (y : Halt) (s' : State) → IsErrAnd r (λ z. z ≡ y) →
      Follows (Err y) s' (effect_by call item.action shape n s) →
      Follows r s' whole
  sequence_stops (Ok u) y s' fails stopped = absurd fails
  sequence_stops (Err z) y s' fails stopped =
      subst (λ w. Follows (Err w) s' whole) (sym fails)
      (subst (Follows (Err y) s') next (stays_stopped y s' (effect_by call item.action shape n s) (sequence_by call (drop (suc i) items) shape n) stopped))

-- ---- a write to a local or a cell

pub stored_within : (k : ℕ) (v : Value) (s : State) → k < length s.locals →
    stored k v s ≡ GoesOn (record s { locals = slice_set s.locals k v })
stored_within k v s lt = ap (λ o. given (found o) s (λ _. GoesOn (record s { locals = slice_set s.locals k v }))) (slice_get-get_or s.locals k v lt)

pub stored_past : (k : ℕ) (v : Value) (s : State) → length s.locals ≤ k → stored k v s ≡ Astray
stored_past k v s le = ap (λ o. given (found o) s (λ _. GoesOn (record s { locals = slice_set s.locals k v }))) (slice_get_past s.locals k le)

pub written_within : (k : ℕ) (v : Value) (s : State) (after : List Value) → k < length s.heap →
    after ≡ slice_set s.heap k v → written k v s ≡ GoesOn (record s { heap = after })
written_within k v s after lt is =
    ap (λ o. given (found o) s (λ _. GoesOn (record s { heap = slice_set s.heap k v }))) (slice_get-get_or s.heap k v lt)
    ∙ ap (λ h. GoesOn (record s { heap = h })) (sym is)

pub written_past : (k : ℕ) (v : Value) (s : State) → length s.heap ≤ k → written k v s ≡ Astray
written_past k v s le = ap (λ o. given (found o) s (λ _. GoesOn (record s { heap = slice_set s.heap k v }))) (slice_get_past s.heap k le)
