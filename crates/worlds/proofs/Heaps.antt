-- Held cells with values of their types, and a heap of the program that has them.
use Rattle.std.proofs.Common.{◌≡◌, ◌<◌, ℕ, zero, suc, List, [], ◌∷◌, length, Some, slice_get, refl, sym, ◌∙◌, subst}
use Rattle.std.proofs.Common.{arith, inl, inr}
use Rattle.std.proofs.lemmas.List.{length-map}
use Rattle.std.proofs.lemmas.Option.{slice_get_within}
use Rattle.core_lang.specs.declared.value.Value.{Value}
use Rattle.core_lang.specs.declared.value.ValueType.{ValueType}
use Rattle.core_lang.specs.declared.shape.Shape.{Shape}
use Rattle.core_lang.specs.declared.typed.Cell.{Cell}
use Rattle.core_lang.specs.declared.typed.Typed.{Typed}
use Rattle.core_lang.specs.Serial.{opening_heap}
use Rattle.core_lang.specs.Typing.{HasType, HaveTypes, cell_types, IsHeap}
use Rattle.core_lang.specs.WellFormed.{IsWellFormed}
use Rattle.code.specs.Memory.{HeldCells, value_at, overwritten}
use Rattle.code.specs.Working.Seen.{held_value, Shows}
use Rattle.code.specs.Working.Laws.{HasWritten, KeepsUnwritten, KeepsSize}
use Rattle.worlds.specs.Working.Ahead.{SeesTyped}
use Rattle.worlds.proofs.Cells.{some_or_none}

-- ---- a value for each type

-- the type of a value
pub type_at : (shape : Shape) (ts : List ValueType) (vs : List Value) → HaveTypes shape ts vs → (c : ℕ) (v : Value) →
    slice_get vs c ≡ Some v →
    (t : ValueType) × (slice_get ts c ≡ Some t) × HasType shape t v
type_at shape [] [] h c v e = absurd cc
type_at shape [] (w ∷ vs) h c v e = absurd h
type_at shape (t ∷ ts) [] h c v e = absurd h
type_at shape (t ∷ ts) (w ∷ vs) h zero v e = (let same : w ≡ v = cc e in (t, refl, subst (HasType shape t) same h.0))
type_at shape (t ∷ ts) (w ∷ vs) h (suc c) v e = type_at shape ts vs h.1 c v e

-- a value of a type
value_for : (shape : Shape) (ts : List ValueType) (vs : List Value) → HaveTypes shape ts vs →
    (c : ℕ) (t : ValueType) → slice_get ts c ≡ Some t →
    (v : Value) × (slice_get vs c ≡ Some v) × HasType shape t v
value_for shape [] vs h c t e = absurd cc
value_for shape (s ∷ ts) [] h c t e = absurd h
value_for shape (s ∷ ts) (w ∷ vs) h zero t e = (let same : s ≡ t = cc e in (w, refl, subst (λ x. HasType shape x w) same h.0))
value_for shape (s ∷ ts) (w ∷ vs) h (suc c) t e = value_for shape ts vs h.1 c t e

have_types : (shape : Shape) (ts : List ValueType) (vs : List Value) → length ts ≡ length vs →
    ((c : ℕ) (t : ValueType) → slice_get ts c ≡ Some t → (v : Value) × (slice_get vs c ≡ Some v) × HasType shape t v) → HaveTypes shape ts vs
have_types shape [] [] e h = tt
have_types shape [] (v ∷ vs) e h = absurd (omega (arith, e))
have_types shape (t ∷ ts) [] e h = absurd (omega (arith, e))
have_types shape (t ∷ ts) (v ∷ vs) e h =
    let x = h 0 t refl in
    let is : Some v ≡ Some x.0 = x.1 in
    let same : x.0 ≡ v = cc is in (
      subst (HasType shape t) same x.2,
      have_types shape ts vs (omega (arith, e)) (λ c u at. h (suc c) u at),
    )

-- ---- a heap with the held cells

pub record IsShown (program : Typed) (memory : HeldCells) : Type 0 where
  pub heap : List Value
  pub is_heap : IsHeap program heap
  pub shows : Shows (held_value memory) heap

-- the opening heap with the held cells written into it
pub shown : HasWritten → KeepsUnwritten → KeepsSize → (program : Typed) → IsWellFormed program → (memory : HeldCells) →
    SeesTyped program (held_value memory) → IsShown program memory
shown written unwritten size program well memory typed =
    let before = opening_heap program in
    let cells = memory.cells in
    let one : length (cell_types program) ≡ length program.cells.items = length-map program.cells.items (λ (c : Cell). c.value_type) in
    let two : length before ≡ length program.cells.items = length-map program.cells.items (λ (c : Cell). c.opening) in
    let shows : Shows (held_value memory) (overwritten before cells) =
    λ c v e. (let t = typed c v e in
    let less : c < length (cell_types program) = slice_get_within (cell_types program) c t.0 t.1 in
    written before cells c v (omega (arith, less, one, two)) e) in
    record {
      heap = overwritten before cells;
      is_heap = have_types program.shape (cell_types program) (overwritten before cells) (one ∙ sym (size before cells ∙ two))
          (λ c t at. elim (some_or_none (value_at cells c)) [
            | inl s ↦ (let x = typed c s.0 s.1 in
                let both : Some x.0 ≡ Some t = sym x.1 ∙ at in
                let same : x.0 ≡ t = cc both in
                (s.0, shows c s.0 s.1, subst (λ y. HasType program.shape y s.0) same x.2))
            | inr n ↦ (let y = value_for program.shape (cell_types program) before well.opens c t at in
                (y.0, unwritten before cells c n ∙ y.1, y.2))
          ]);
      shows = shows;
    }
