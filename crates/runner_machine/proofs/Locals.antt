-- Reading a local, and setting a local.
use Rattle.std.proofs.Common.{◌≡◌, ◌∙◌, ℕ, ◌<◌, ◌≤◌, ◌+◌, List, [], ◌∷◌, Some, None, length, drop, slice_get, refl}
use Rattle.std.proofs.Common.{sym, ap, subst}
use Rattle.std.specs.Prelude.{slice_set}
use Rattle.std.specs.Borrow.{Bor}
use Rattle.std.specs.Slice.{IsItemAt}
use Rattle.std.proofs.lemmas.Option.{slice_get_past, slice_get_read, slice_get-get_or}
use Rattle.core_lang.specs.declared.value.Value.{Value}
use Rattle.core_lang.specs.Cells.{found}
use Rattle.code.specs.Machine.{Machine, Effect, Moves, Undefined, advances, on_top, or_trap}
use Rattle.code.specs.Memory.{HeldCells}
use Rattle.runner_machine.specs.Working.Operands.{OperandsOf, popped}
use Rattle.runner_machine.specs.Working.Machines.{RunOf, getting, setting, with_machine}

module _ (m : Machine HeldCells) (k : ℕ) (values lent : List Value) (same : values ≡ m.locals) (lends : lent ≡ values) where
  pub get_is : (b : Bor Value) → IsItemAt lent k (Some b) → getting k m ≡ advances m (b.now ∷ m.stack)
  get_is b h =
      ap (λ o. or_trap (found o) (λ v. advances m (v ∷ m.stack)))
      (ap (λ (xs : List Value). slice_get xs k) (sym (lends ∙ same)) ∙ slice_get_read lent (length lent) k b.now refl h.3.0 h.1)

  pub get_none : IsItemAt lent k None → getting k m ≡ Undefined
  get_none h =
      ap (λ o. or_trap (found o) (λ v. advances m (v ∷ m.stack)))
      (ap (λ (xs : List Value). slice_get xs k) (sym (lends ∙ same)) ∙ slice_get_past lent k h.3)

some_same : (a b : Value) → Some a ≡ Some b → a ≡ b
some_same a b e = cc

top_is : (stack : List Value) (v : Value) (go : Value → List Value → Effect HeldCells) → slice_get stack 0 ≡ Some v →
    on_top stack go ≡ go v (drop 1 stack)
top_is [] v go e = cc
top_is (x ∷ rest) v go e = ap (λ y. go y rest) (some_same x v e)

pub set_is : (m : Machine HeldCells) (k : ℕ) (v : Value) → slice_get m.stack 0 ≡ Some v → k < length m.locals →
    setting k m ≡ advances (record m { locals = slice_set m.locals k v }) (drop 1 m.stack)
set_is m k v top lt =
    top_is m.stack v (λ w rest. or_trap (found (slice_get m.locals k)) (λ old. advances (record m { locals = slice_set m.locals k w }) rest)) top
    ∙ ap (λ o. or_trap (found o) (λ old. advances (record m { locals = slice_set m.locals k v }) (drop 1 m.stack))) (slice_get-get_or m.locals k v lt)

pub set_past : (m : Machine HeldCells) (k : ℕ) (v : Value) → slice_get m.stack 0 ≡ Some v → length m.locals ≤ k →
    setting k m ≡ Undefined
set_past m k v top le =
    top_is m.stack v (λ w rest. or_trap (found (slice_get m.locals k)) (λ old. advances (record m { locals = slice_set m.locals k w }) rest)) top
    ∙ ap (λ o. or_trap (found o) (λ old. advances (record m { locals = slice_set m.locals k v }) (drop 1 m.stack))) (slice_get_past m.locals k le)

-- the run after a local is set
abbrev pub set_run : RunOf → ℕ → Value → OperandsOf → RunOf
set_run run k v o = record run {
  machine = record run.machine { place = run.machine.place + 1; stack = o.stack; locals = slice_set run.machine.locals k v };
  operand_room = o.room;
}

pub set_effect : (run : RunOf) (k : ℕ) (v : Value) (o : OperandsOf) →
    o ≡ popped (record { stack = run.machine.stack; room = run.operand_room }) →
    slice_get run.machine.stack 0 ≡ Some v → k < length run.machine.locals →
    (setting k run.machine ≡ Moves (set_run run k v o).machine) × (set_run run k v o ≡ with_machine run (set_run run k v o).machine)
set_effect run k v o e top lt =
    subst (λ (x : OperandsOf). (setting k run.machine ≡ Moves (set_run run k v x).machine) × (set_run run k v x ≡ with_machine run (set_run run k v x).machine)) (sym e)
    (set_is run.machine k v top lt, refl)
