-- A section that only calls a helper means what the helper's body means.
use Rattle.std.proofs.Common.{◌≡◌, ◌∙◌, ◌<◌, ℕ, zero, suc, List, [], ◌∷◌, length, Option, Some, None, Result, Ok, Err}
use Rattle.std.proofs.Common.{refl, sym, ap, arith}
use Rattle.std.specs.Prelude.{slice_get, slice_set}
use Rattle.core_lang.specs.declared.value.Value.{Value}
use Rattle.core_lang.specs.declared.value.Failure.{Failure}
use Rattle.core_lang.specs.declared.value.Failure.TheVariants.{Trap, Wrong}
use Rattle.core_lang.specs.declared.shape.Shape.{Shape}
use Rattle.core_lang.specs.declared.tree.FieldStep.{FieldStep}
use Rattle.core_lang.specs.declared.tree.Path.{Path}
use Rattle.core_lang.specs.declared.tree.Expr.{Place}
use Rattle.core_lang.specs.declared.tree.Stmt.{Stmt}
use Rattle.core_lang.specs.declared.tree.Return.{Return}
use Rattle.core_lang.specs.declared.tree.Section.{Section}
use Rattle.core_lang.specs.Cells.{with, found}
use Rattle.core_lang.specs.Meaning.{State, Flow, GoesOn, Traps, Beyond, Astray, along, value_of, given, after, returned}
use Rattle.core_lang.specs.Meaning.{concluded, opening, back, sequence_by, run_from, if_there, helped}
use Rattle.core_lang.specs.Theory.Items.{get_some}
use Rattle.theorems.specs.Meanings.{ACallDoesWhatTheHelperDoes, ACallGivesWhatTheHelperGives}

-- a call that binds nothing ends as the helper's body does
behind_dropped : (shape : Shape) (s : State) (flow : Flow) →
    concluded None shape (after (back (concluded None shape flow) None s) (λ t. GoesOn t)) ≡ concluded None shape flow
behind_dropped shape s (GoesOn t) = refl
behind_dropped shape s (Traps c t) = refl
behind_dropped shape s Beyond = refl
behind_dropped shape s Astray = refl

pub does_what_it_does : ACallDoesWhatTheHelperDoes
does_what_it_does shape section helper number start n arguments passed values heap body none found_there no_result gives =
    let s = opening section passed heap in
    let call = helped 8 shape n in
    let flow = sequence_by (helped 7 shape n) helper.body.items shape n (opening helper values heap) in
    let ends = λ (f : Flow). concluded None shape (after f (λ t. GoesOn t)) in
    ap (λ (o : Option Return). concluded o shape (sequence_by call section.body.items shape n s)) none
    ∙ ap (λ (xs : List Stmt). concluded None shape (sequence_by call xs shape n s)) body
    ∙ ap (λ (r : Result (List Value) Failure). ends (given r s (λ vs. back (call number vs heap []) None s))) gives
    ∙ ap (λ (o : Option Section). ends (back (if_there o (λ h. run_from (helped 7 shape n) h shape n (opening h values heap))) None s)) found_there
    ∙ ap (λ (o : Option Return). ends (back (concluded o shape flow) None s)) no_result
    ∙ behind_dropped shape s flow
    ∙ sym (ap (λ (o : Option Return). concluded o shape flow) no_result)

-- ---- with a result

no_fields : (fields : List FieldStep) → length fields ≡ 0 → fields ≡ []
no_fields [] e = refl
no_fields (f ∷ fs) e = absurd (omega (arith, e))

get_set : (xs : List Value) (k : ℕ) (v : Value) → k < length xs → slice_get (slice_set xs k v) k ≡ Some v
get_set [] k v lt = absurd (omega (arith, lt))
get_set (x ∷ xs) zero v lt = refl
get_set (x ∷ xs) (suc k) v lt = get_set xs k v (omega (arith, lt))

module _ (shape : Shape) (place k : ℕ) (path : Path) (s : State) (here : path.local ≡ k) (none : path.fields.items ≡ []) (lt : k < length s.locals) where
  abbrev result : Option Return
  result = Some (record { start = place; value = Place path })

  abbrev state_with : State → Value → State
  state_with t v = record { locals = slice_set s.locals k v; heap = t.heap; prints = t.prints }

  reads : (t : State) (v : Value) → value_of (Place path) shape (slice_set s.locals k v) t.heap ≡ Ok v
  reads t v =
      ap (λ j. with (found (slice_get (slice_set s.locals k v) j)) (λ base. along shape t.heap base path.fields.items)) here
      ∙ ap (λ (o : Option Value). with (found o) (λ base. along shape t.heap base path.fields.items)) (get_set s.locals k v lt)
      ∙ ap (along shape t.heap v) none

  behind_value : (r : Result Value Failure) (t : State) →
      concluded result shape (after (back (returned r t) (Some k) s) (λ u. GoesOn u)) ≡ returned r t
  behind_value (Ok v) t =
      let there = get_some s.locals k lt in
      ap (λ (o : Option Value). concluded result shape (after (given (found o) (record { locals = s.locals; heap = t.heap; prints = t.prints })
      (λ _. GoesOn (state_with t v))) (λ u. GoesOn u))) there.1
      ∙ ap (λ (r : Result Value Failure). returned r (state_with t v)) (reads t v)
  behind_value (Err (Trap c)) t = refl
  behind_value (Err Wrong) t = refl

  behind_bound : (r : Return) (flow : Flow) →
      concluded result shape (after (back (concluded (Some r) shape flow) (Some k) s) (λ u. GoesOn u)) ≡ concluded (Some r) shape flow
  behind_bound r (GoesOn t) = behind_value (value_of r.value shape t.locals t.heap) t
  behind_bound r (Traps c t) = refl
  behind_bound r Beyond = refl
  behind_bound r Astray = refl

pub gives_what_it_gives : ACallGivesWhatTheHelperGives
gives_what_it_gives shape section helper number start place n k arguments path r passed values heap body is here none lt found_there has gives =
    let s = opening section passed heap in
    let call = helped 8 shape n in
    let flow = sequence_by (helped 7 shape n) helper.body.items shape n (opening helper values heap) in
    let end : Option Return = Some (record { start = place; value = Place path }) in
    let ends = λ (f : Flow). concluded end shape (after f (λ t. GoesOn t)) in
    ap (λ (o : Option Return). concluded o shape (sequence_by call section.body.items shape n s)) is
    ∙ ap (λ (xs : List Stmt). concluded end shape (sequence_by call xs shape n s)) body
    ∙ ap (λ (o : Result (List Value) Failure). ends (given o s (λ vs. back (call number vs heap []) (Some k) s))) gives
    ∙ ap (λ (o : Option Section). ends (back (if_there o (λ h. run_from (helped 7 shape n) h shape n (opening h values heap))) (Some k) s)) found_there
    ∙ ap (λ (o : Option Return). ends (back (concluded o shape flow) (Some k) s)) has
    ∙ behind_bound shape place k path s here (no_fields path.fields.items none) lt r flow
    ∙ sym (ap (λ (o : Option Return). concluded o shape flow) has)
