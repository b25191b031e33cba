-- A point that can be executed leads where its meaning leads: on, to a trap, or to the end of the section.
use Rattle.std.proofs.Common.{◌≡◌, ℕ, List, Option, Result, Ok, Err, refl}
use Rattle.core_lang.specs.declared.value.Value.{Value}
use Rattle.core_lang.specs.declared.value.Trap.{Trap as Cause}
use Rattle.core_lang.specs.declared.value.Failure.{Failure}
use Rattle.core_lang.specs.declared.value.Failure.TheVariants.{Trap, Wrong}
use Rattle.core_lang.specs.declared.value.Outcome.{Outcome}
use Rattle.core_lang.specs.declared.value.Outcome.TheVariants as out
use Rattle.core_lang.specs.declared.shape.Shape.{Shape}
use Rattle.core_lang.specs.declared.tree.Section.{Section}
use Rattle.core_lang.specs.Meaning.{State, Flow, GoesOn, Traps, Beyond, Astray, given, value_of}
use Rattle.flow.specs.Points.{Point, statement, result}
use Rattle.flow.specs.Working.Effects.{effect_at}
use Rattle.code.specs.Machine.{Machine}
use Rattle.code.specs.Working.Seen.{IsMemory}
use Rattle.code.specs.Working.Ahead.{MayEnd, HasComeOn}
use Rattle.code.specs.Working.PointLaws.{PointsGoOn}
use Rattle.code.proofs.points.Results.{Gives, Leads}
use Rattle.code.proofs.points.Points.{Does, point_safe}

-- a flow that isn't astray, by its cases
leads-exactly : (F : Outcome → Type 0) (P : State → Type 0) (f : Flow) → (f ≡ Astray → ⊥) →
    ((t : Cause) (later : State) → f ≡ Traps t later → F (out.Traps t)) →
    ((later : State) → f ≡ GoesOn later → P later) → Leads F f P
leads-exactly F P (GoesOn s) sound traps goes = goes s refl
leads-exactly F P (Traps t s) sound traps goes = traps t s refl
leads-exactly F P Beyond sound traps goes = tt
leads-exactly F P Astray sound traps goes = sound refl

-- the value of a `return`
gives-exactly : (F : Outcome → Type 0) (s : State) (r : Result Value Failure) →
    (given r s (λ v. GoesOn s) ≡ Astray → ⊥) →
    ((t : Cause) (later : State) → given r s (λ v. GoesOn s) ≡ Traps t later → F (out.Traps t)) → ((v : Value) → r ≡ Ok v → F (out.Returns v)) →
    Gives F r (λ v. F (out.Returns v))
gives-exactly F s (Ok v) sound traps returns = returns v refl
gives-exactly F s (Err (Trap t)) sound traps returns = traps t s refl
gives-exactly F s (Err Wrong) sound traps returns = sound refl

module _ {P M : Type 0} (load : M → ℕ → Option (Value × M)) (store : M → ℕ → Value → Option M) (view : M → ℕ → Option Value)
    (is : IsMemory load store view) (shape : Shape) (Q : Machine M → Type 0) (room : ℕ) (lists : List (List P)) (section : Section) (s : State) where
  does_exactly : (point : Point) (A : State → Type 0) → (effect_at point shape s ≡ Astray → ⊥) →
      ((later : State) → effect_at point shape s ≡ GoesOn later → A later) →
      Does load store view is shape (MayEnd shape point s) Q room lists section point s (λ later. MayEnd shape point s out.Ends × A later)
  does_exactly (statement start action) A sound goes =
      leads-exactly (MayEnd shape (statement start action) s) _ (effect_at (statement start action) shape s) sound (λ t later e. (later, e))
      (λ later e. ((later, e), goes later e))
  does_exactly (result r) A sound goes =
      gives-exactly (MayEnd shape (result r) s) s (value_of r.value shape s.locals s.heap) sound (λ t later e. (later, e)) (λ v e. e)

pub points_go_on : {P M : Type 0} (load : M → ℕ → Option (Value × M)) (store : M → ℕ → Value → Option M) (view : M →
    ℕ → Option Value) →
    IsMemory load store view → PointsGoOn P M load store view
points_go_on load store view is shape lists section x s memory room only inside room_is can =
    let Q = HasComeOn view shape lists section x s (view memory) in
    point_safe load store view is shape (MayEnd shape x.point s) Q room lists section x s memory only inside room_is can.shows can.covers
    (does_exactly load store view is shape Q room lists section s x.point _ can.sound
    (λ later e memory' y shows keeps inside' follows.
    record { later = later; leads = e; to = y; inside = inside'; follows = follows; is = refl; shows = shows; keeps = keeps }))
