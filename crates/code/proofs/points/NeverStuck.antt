-- A section of a well-formed program, run alone on a heap of the program, is never stuck.
use Rattle.std.proofs.Common.{◌≡◌, ℕ, zero, suc, ◌+◌, ◌<◌, ◌≤◌, List, [], ◌∷◌, length, Option, Some, None, refl, sym}
use Rattle.std.proofs.Common.{ap, ◌∙◌, subst, ⊎_elim, arith}
use Rattle.std.specs.Prelude.{slice_get}
use Rattle.std.proofs.lemmas.Option.{none-some, slice_get_cases}
use Rattle.core_lang.specs.declared.value.Value.{Value}
use Rattle.core_lang.specs.declared.value.ValueType.{ValueType}
use Rattle.core_lang.specs.declared.value.Outcome.{Outcome}
use Rattle.core_lang.specs.declared.shape.Shape.{Shape}
use Rattle.core_lang.specs.declared.tree.Section.{Section}
use Rattle.core_lang.specs.declared.typed.Typed.{Typed}
use Rattle.core_lang.specs.Meaning.{State}
use Rattle.core_lang.specs.Whole.{opening}
use Rattle.core_lang.specs.Typing.{HaveTypes, local_types, cell_types}
use Rattle.core_lang.specs.Working.Soundness.{IsTypedState, LeadsToTyped}
use Rattle.core_lang.specs.WellFormed.{IsWellFormed}
use Rattle.core_lang.specs.Theory.Checked.{calls_nothing}
use Rattle.core_lang.specs.Theory.Openings.{opening_has}
use Rattle.flow.specs.Skeletons.{skeleton}
use Rattle.flow.specs.Flow.{head}
use Rattle.flow.specs.Working.Effects.{effect_at}
use Rattle.flow.specs.Working.Laws.{PointsStayTyped}
use Rattle.locks.specs.Faults.{HasSection}
use Rattle.code.specs.declared.instr.Instr.{Instr}
use Rattle.code.specs.Machine.{Machine, Effect, Moves, Asks, Finishes, Undefined, act, proceed, exec}
use Rattle.code.specs.Memory.{load_from, store_to}
use Rattle.code.specs.Lowering.{acquire_any, acquire_code, section_code}
use Rattle.code.specs.Needs.{operand_need}
use Rattle.code.specs.Alone.{IsNeverStuck}
use Rattle.code.specs.Working.Seen.{IsSeen, Shows}
use Rattle.code.specs.Working.Spots.{HasAt, Spot, InSection}
use Rattle.code.specs.Working.Ahead.{Safe, there, moves, finishes, Goes, Steps, between_points, CanExecute, MayEnd}
use Rattle.code.specs.Working.Ahead.{HasComeOn}
use Rattle.code.specs.Working.PointLaws.{SectionsGoOn}
use Rattle.code.specs.Theory.Safety.{safe, steps_more}
use Rattle.code.proofs.points.Memories.{heap_is_memory}
use Rattle.code.proofs.points.Numbers.{spot_is_point}
use Rattle.code.proofs.points.Between.{first_point_is_at_start, empty_has_end, spots_acquire}
use Rattle.code.proofs.points.Exact.{points_go_on}

-- ---- lists

-- a list that shows another, and has each of its places, is that list
same_list : (xs ys : List Value) → Shows (slice_get xs) ys → ((c : ℕ) → c < length ys → IsSeen (slice_get xs) c) →
    xs ≡ ys
same_list [] [] shows seen = refl
same_list [] (y ∷ ys) shows seen = let h = seen 0 (omega arith) in absurd (none-some h.0 h.1)
same_list (x ∷ xs) [] shows seen = absurd (none-some x (shows 0 x refl))
same_list (x ∷ xs) (y ∷ ys) shows seen =
    let first : Some y ≡ Some x = shows 0 x refl in
    let same : y ≡ x = cc in
    ap (λ z. z ∷ xs) (sym same) ∙ ap (λ zs. y ∷ zs) (same_list xs ys (λ c v e. shows (suc c) v e) (λ c lt. seen (suc c) (omega (arith, lt))))

types_length : (shape : Shape) (ts : List ValueType) (vs : List Value) → HaveTypes shape ts vs → length ts ≡ length vs
types_length shape [] [] h = refl
types_length shape [] (v ∷ vs) h = absurd h
types_length shape (t ∷ ts) [] h = absurd h
types_length shape (t ∷ ts) (v ∷ vs) h = let e = types_length shape ts vs h.1 in omega (arith, e)

there_is : (xs : List Value) (c : ℕ) → c < length xs → IsSeen (slice_get xs) c
there_is xs c lt =
    ⊎_elim (λ (h : (x : Value) × (c < length xs) × (slice_get xs c ≡ Some x) × _). (h.0, h.2))
    (λ (h : (length xs ≤ c) × (slice_get xs c ≡ None)). absurd (omega (arith, lt, h.0)))
    (slice_get_cases xs c).1

-- ---- runs

abbrev Any : Outcome → Type 0
Any outcome = Unit {0}

module _ {P : Type 0} (typed : PointsStayTyped) (program : Typed) (section : Section) (lists : List (List P)) (well : IsWellFormed program) (here : HasSection program section) where
  abbrev types : List ValueType
  types = local_types section.locals.items

  abbrev code : List Instr
  code = section_code lists section

  abbrev room : ℕ
  room = operand_need section

  -- where a point begins, in a typed state, whose heap is the memory
  record IsAtPoint (m : Machine (List Value)) : Type 0 where
    state : State
    point : Spot
    inside : InSection lists section point
    is : m ≡ between_points point.place state state.heap
    fits : IsTypedState program types state

  abbrev IsSafe : Machine (List Value) → Type 0
  IsSafe = Safe load_from store_to program.shape code Any IsAtPoint room

  abbrev GoesOnSafely : Machine (List Value) → Type 0
  GoesOnSafely = Steps load_from store_to program.shape code Any IsAtPoint room

  abbrev run : ℕ → Machine (List Value) → Type 0
  run n m = IsNeverStuck room (exec load_from store_to program.shape code n m)

  -- from a point to the next
  comes_on : (x : Spot) (s : State) → IsTypedState program types s →
      LeadsToTyped program types (effect_at x.point program.shape s) →
      (m : Machine (List Value)) → HasComeOn slice_get program.shape lists section x s (slice_get s.heap) m → IsAtPoint m
  comes_on x s fits leads m h =
      let later : IsTypedState program types h.later = subst (LeadsToTyped program types) h.leads leads in
      let before = types_length program.shape (cell_types program) s.heap fits.heap in
      let behind = types_length program.shape (cell_types program) h.later.heap later.heap in
      let same : m.memory ≡ h.later.heap = same_list m.memory h.later.heap h.shows (λ c lt. h.keeps c (there_is s.heap c (omega (arith, lt, before, behind)))) in
      record { state = h.later; point = h.to; inside = h.inside; is = h.is ∙ ap (between_points h.to.place h.later) same; fits = later }

  point_steps : (x : Spot) (s : State) → InSection lists section x → IsTypedState program types s →
      GoesOnSafely (between_points (x.place + length (acquire_code lists x.number)) s s.heap)
  point_steps x s inside fits =
      let leads = typed program here.0 x.number section x.point s well here.1 (spot_is_point lists section x inside) fits in
      let can : CanExecute program.shape x.point s (slice_get s.heap) =
      record {
        shows = λ c v e. e;
        covers = λ a among c v reaches e. e;
        sound = λ e. subst (LeadsToTyped program types) e leads;
      } in
      steps_more load_from store_to program.shape code room (MayEnd program.shape x.point s) Any
      (HasComeOn slice_get program.shape lists section x s (slice_get s.heap)) IsAtPoint (λ outcome f. tt) (comes_on x s fits leads) _
      (points_go_on load_from store_to slice_get heap_is_memory program.shape lists section x s s.heap room (calls_nothing program here.0 section well here.1) inside (omega arith) can)

  -- after an instruction
  goes_on : (n : ℕ) (m : Machine (List Value)) (x : Effect (List Value)) →
      Goes load_from store_to program.shape code Any IsAtPoint room x →
      ((next : Machine (List Value)) → IsSafe next → run n next) →
      IsNeverStuck room (proceed load_from store_to program.shape m x (exec load_from store_to program.shape code n))
  goes_on n m (Moves next) g k = k next g
  goes_on n m (Asks point) g k = absurd g
  goes_on n m (Finishes outcome) g k = tt
  goes_on n m Undefined g k = absurd g

  steps_on : (n : ℕ) (m : Machine (List Value)) → GoesOnSafely m →
      ((next : Machine (List Value)) → IsSafe next → run n next) → run (suc n) m
  steps_on n m g k = goes_on n m (act load_from store_to program.shape (slice_get code m.place) m) g.1 k

  -- what is acquired before a point is passed over
  passes_on : (n place point : ℕ) (s : State) (o : Option (List P)) → HasAt code place (acquire_any o point) →
      GoesOnSafely (between_points (place + length (acquire_any o point)) s s.heap) → ((next : Machine (List Value)) → IsSafe next → run n next) →
      run (suc n) (between_points place s s.heap)
  passes_on n place point s None has g k =
      let e : place + 0 ≡ place = omega arith in
      steps_on n _ (subst (λ i. GoesOnSafely (between_points i s s.heap)) e g) k
  passes_on n place point s (Some []) has g k =
      let e : place + 0 ≡ place = omega arith in
      steps_on n _ (subst (λ i. GoesOnSafely (between_points i s s.heap)) e g) k
  passes_on n place point s (Some (path ∷ paths)) has g k =
      let m = between_points place s s.heap in
      subst (λ o. IsNeverStuck room (proceed load_from store_to program.shape m (act load_from store_to program.shape o m) (exec load_from store_to program.shape code n))) (sym has.0)
      (k (between_points (place + 1) s s.heap) (safe load_from store_to program.shape code room Any IsAtPoint _ g))

  point_on : (n : ℕ) (m : Machine (List Value)) → IsAtPoint m →
      ((next : Machine (List Value)) → IsSafe next → run n next) → run (suc n) m
  point_on n m h k =
      let x = h.point in
      subst (run (suc n)) (sym h.is)
      (passes_on n x.place x.number h.state (slice_get lists x.number) (spots_acquire lists section x h.inside) (point_steps x h.state h.inside h.fits) k)

  never_stuck : (n : ℕ) (m : Machine (List Value)) → IsSafe m → run n m
  never_stuck zero m (there h) =
      let empty : length m.stack ≡ 0 = ap (λ (m : Machine (List Value)). length m.stack) h.is in
      omega (arith, empty)
  never_stuck zero m (moves fit e g) = fit
  never_stuck zero m (finishes fit e f) = fit
  never_stuck (suc n) m (there h) = point_on n m h (never_stuck n)
  never_stuck (suc n) m (moves fit e g) =
      subst (λ x. IsNeverStuck room (proceed load_from store_to program.shape m x (exec load_from store_to program.shape code n))) (sym e) (never_stuck n _ g)
  never_stuck (suc n) m (finishes fit e f) =
      subst (λ x. IsNeverStuck room (proceed load_from store_to program.shape m x (exec load_from store_to program.shape code n))) (sym e) tt

  starts : (s : State) (o : Option ℕ) → head (skeleton section) 0 None ≡ o → IsTypedState program types s →
      IsSafe (between_points 0 s s.heap)
  starts s None e fits =
      finishes (omega arith) (ap (λ o. act load_from store_to program.shape o (between_points 0 s s.heap)) (empty_has_end lists section e)) tt
  starts s (Some p) e fits =
      let first = first_point_is_at_start lists section p e in
      there (record { state = s; point = first.0; inside = first.1; is = ap (λ place. between_points place s s.heap) (sym first.3); fits = fits })

pub sections_go_on : {P : Type 0} → PointsStayTyped → SectionsGoOn P
sections_go_on typed program section lists well here arguments heap n fit is_heap =
    let s = opening section arguments heap in
    never_stuck typed program section lists well here n (between_points 0 s heap)
    (starts typed program section lists well here s (head (skeleton section) 0 None) refl
    (record { locals = opening_has program.shape section.parameters section.locals.items arguments fit; heap = is_heap }))
