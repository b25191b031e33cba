-- The notes at places.
use Rattle.std.proofs.Common.{◌≡◌, ◌≢◌, ℕ, zero, suc, ◌+◌, ◌<◌, ◌≤◌, List, [], ◌∷◌, ◌++◌, length, set, Option, Some}
use Rattle.std.proofs.Common.{None, inl, inr, refl, sym, ap, ◌∙◌, arith, length-append, length-set}
use Rattle.std.specs.Prelude.{slice_get, nat_eq, if◌then◌else◌}
use Rattle.std.specs.List.{Contains}
use Rattle.std.proofs.lemmas.Bool.Decides.{eqb_tells}
use Rattle.std.proofs.lemmas.Option.{none-some, same_Some, slice_get_within}
use Rattle.core_lang.specs.declared.value.Value.{Value}
use Rattle.code.specs.Memory.{value_at, with_value}
use Rattle.runner_machine.specs.Working.Noted.{NotesOf, if_of, led_by, number_of, with_note_at, with_note, in_order}
use Rattle.runner_machine.specs.Working.Noted.{EachOnce, AreNotes}
use Rattle.runner_machine.proofs.Lists.{first, get_right, Distinct, here, past}
use Rattle.runner_machine.proofs.Rising.{set_in_order}
use Rattle.runner_machine.proofs.Sorted.{at_value, value_somewhere, none_nowhere}
use Rattle.core_lang.specs.Theory.Items.{contains_at, at_contained, set_same, in_cases, in_rest, still_at}
use Rattle.code.specs.Theory.Values.{value_right}

-- ---- a list with one more item, or another one

-- the items of a list after one of them is replaced
set_cases : {X : Type 0} (xs : List X) (i j : ℕ) (y x : X) → slice_get (set xs i y) j ≡ Some x → j ≢ i →
    slice_get xs j ≡ Some x
set_cases [] i j y x at ne = at
set_cases (z ∷ xs) zero zero y x at ne = absurd (ne refl)
set_cases (z ∷ xs) zero (suc j) y x at ne = at
set_cases (z ∷ xs) (suc i) zero y x at ne = at
set_cases (z ∷ xs) (suc i) (suc j) y x at ne = set_cases xs i j y x at (λ e. ne (ap suc e))

set_other_place : {X : Type 0} (xs : List X) (i j : ℕ) (y x : X) → slice_get xs j ≡ Some x → j ≢ i →
    slice_get (set xs i y) j ≡ Some x
set_other_place [] i j y x at ne = at
set_other_place (z ∷ xs) zero zero y x at ne = absurd (ne refl)
set_other_place (z ∷ xs) zero (suc j) y x at ne = at
set_other_place (z ∷ xs) (suc i) zero y x at ne = at
set_other_place (z ∷ xs) (suc i) (suc j) y x at ne = set_other_place xs i j y x at (λ e. ne (ap suc e))

get_before : {X : Type 0} (xs : List X) (y : X) (j : ℕ) (x : X) → slice_get (xs ++ y ∷ []) j ≡ Some x →
    j < length xs → slice_get xs j ≡ Some x
get_before [] y j x at lt = absurd (omega (arith, lt))
get_before (z ∷ xs) y zero x at lt = at
get_before (z ∷ xs) y (suc j) x at lt = get_before xs y j x at (omega (arith, lt))

get_last : {X : Type 0} (xs : List X) (y x : X) → slice_get (xs ++ y ∷ []) (length xs) ≡ Some x → y ≡ x
get_last xs y x at = same_Some y x (sym (get_right xs (y ∷ []) (length xs) 0 (omega arith)) ∙ at)

-- ---- cells of a list of notes

set_elsewhere : (xs : List (ℕ × Value)) (k c : ℕ) (w v : Value) (d : ℕ) → slice_get xs k ≡ Some (c, w) → c ≢ d →
    value_at (set xs k (c, v)) d ≡ value_at xs d
set_elsewhere [] k c w v d at ne = refl
set_elsewhere (y ∷ ys) zero c w v d at ne =
    past (c, v) ys d ne ∙ sym (past y ys d (λ q. ne (sym (ap (λ (z : ℕ × Value). z.0) (same_Some y (c, w) at)) ∙ q)))
set_elsewhere (y ∷ ys) (suc k) c w v d at ne =
    ap (λ (t : Option Value). if nat_eq y.0 d then Some y.1 else t) (set_elsewhere ys k c w v d at ne)

once_set : (xs : List (ℕ × Value)) (k c : ℕ) (w v : Value) → EachOnce xs → slice_get xs k ≡ Some (c, w) →
    EachOnce (set xs k (c, v))
once_set [] k c w v once at = once
once_set (y ∷ ys) zero c w v once at =
    (ap (value_at ys) (sym (ap (λ (z : ℕ × Value). z.0) (same_Some y (c, w) at))) ∙ once.0, once.1)
once_set (y ∷ ys) (suc k) c w v once at =
    let there : value_at ys c ≡ Some w = at_value ys k (c, w) once.1 at in
    (set_elsewhere ys k c w v y.0 at (λ q. none-some w (sym once.0 ∙ ap (value_at ys) (sym q) ∙ there)) ∙ once.0, once_set ys k c w v once.1 at)

append_elsewhere : (xs : List (ℕ × Value)) (c : ℕ) (v : Value) (d : ℕ) → c ≢ d →
    value_at (xs ++ (c, v) ∷ []) d ≡ value_at xs d
append_elsewhere [] c v d ne = past (c, v) [] d ne
append_elsewhere (y ∷ ys) c v d ne =
    ap (λ (t : Option Value). if nat_eq y.0 d then Some y.1 else t) (append_elsewhere ys c v d ne)

once_append : (xs : List (ℕ × Value)) (c : ℕ) (v : Value) → EachOnce xs → value_at xs c ≡ None →
    EachOnce (xs ++ (c, v) ∷ [])
once_append [] c v once none = (refl, tt)
once_append (y ∷ ys) c v once none = elim (eqb_tells y.0 c) [
  | inl h ↦ absurd (none-some y.1 (sym none ∙ here y ys c h.1))
  | inr h ↦ (
    append_elsewhere ys c v y.0 (λ q. h.1 (sym q)) ∙ once.0,
    once_append ys c v once.1 (sym (past y ys c h.1) ∙ none),
  )
]

-- ---- no more notes than cells

abbrev without : List ℕ → ℕ → List ℕ
without [] i = []
without (c ∷ cs) zero = cs
without (c ∷ cs) (suc i) = c ∷ without cs i

one_less : (cs : List ℕ) (i a : ℕ) → slice_get cs i ≡ Some a → length cs ≡ length (without cs i) + 1
one_less [] i a at = absurd (none-some a at)
one_less (c ∷ cs) zero a at = omega arith
one_less (c ∷ cs) (suc i) a at = omega (arith, one_less cs i a at)

still : (cs : List ℕ) (i d a : ℕ) → slice_get cs i ≡ Some a → Contains cs d → d ≢ a → Contains (without cs i) d
still [] i d a at has ne = absurd (none-some a at)
still (c ∷ cs) zero d a at has ne = elim (in_cases c d cs has) [
  | inl e ↦ absurd (ne (sym e ∙ same_Some c a at))
  | inr h ↦ h
]
still (c ∷ cs) (suc i) d a at has ne = elim (in_cases c d cs has) [
  | inl e ↦ first c (without cs i) d e
  | inr h ↦ in_rest c d (without cs i) (still cs i d a at h ne)
]

no_more : (xs : List (ℕ × Value)) (cs : List ℕ) → EachOnce xs →
    ((c : ℕ) (v : Value) → value_at xs c ≡ Some v → Contains cs c) → length xs ≤ length cs
no_more [] cs once all = omega arith
no_more (x ∷ xs) cs once all =
    let at = at_contained cs x.0 (all x.0 x.1 (here x xs x.0 refl)) in
    let rest : length xs ≤ length (without cs at.0) =
    no_more xs (without cs at.0) once.1 (λ c v is.
    let ne : x.0 ≢ c = λ q. none-some v (sym once.0 ∙ ap (value_at xs) q ∙ is) in
    still cs at.0 c x.0 at.1 (all c v (past x xs c ne ∙ is)) (λ q. ne (sym q))) in
    omega (arith, rest, one_less cs at.0 x.0 at.1)

-- ---- the note to which a mark leads

no_value : (o : Option Value) → ((v : Value) → o ≡ Some v → ⊥) → o ≡ None
no_value None not = refl
no_value (Some v) not = absurd (not v refl)

led_to : (cell mark k : ℕ) (o : Option (ℕ × Value)) → if_of cell mark o ≡ Some k →
    (v : Value) × (o ≡ Some (cell, v)) × (mark ≡ k)
led_to cell mark k None e = absurd (none-some k e)
led_to cell mark k (Some x) e = elim (eqb_tells x.0 cell) [
  | inl h ↦ (x.1, ap (λ (c : ℕ). Some (c, x.1)) h.1, same_Some mark k (sym (ap (λ b. if b then Some mark else None) h.0) ∙ e))
  | inr h ↦ absurd (none-some k (sym (ap (λ b. if b then Some mark else None) h.0) ∙ e))
]

leads : (cell mark : ℕ) (v : Value) → if_of cell mark (Some (cell, v)) ≡ Some mark
leads cell mark v = elim (eqb_tells cell cell) [
  | inl h ↦ ap (λ b. if b then Some mark else None) h.0
  | inr h ↦ absurd (h.1 refl)
]

one_place : (cs : List ℕ) (p q c : ℕ) → Distinct cs → slice_get cs p ≡ Some c → slice_get cs q ≡ Some c → p ≡ q
one_place [] p q c d at too = absurd (none-some c at)
one_place (b ∷ cs) zero zero c d at too = refl
one_place (b ∷ cs) zero (suc q) c d at too = absurd (d.0 (contains_at cs q b (too ∙ sym at)))
one_place (b ∷ cs) (suc p) zero c d at too = absurd (d.0 (contains_at cs p b (at ∙ sym too)))
one_place (b ∷ cs) (suc p) (suc q) c d at too = ap suc (one_place cs p q c d.1 at too)

module _ (cells : List ℕ) (n : NotesOf) (are : AreNotes cells n) where
  -- notes that have room are at most as many as the cells
  pub few : 0 < n.room → length n.list ≤ length cells
  few live = no_more n.list cells are.once (λ c v is.
      let at = at_contained n.list (c, v) (value_somewhere n.list c v is) in
      let m = are.marked live at.0 (c, v) at.1 in
      contains_at cells m.place c m.cell_is)

  -- the same notes with more cells
  pub with_cells : (more : List ℕ) → AreNotes (cells ++ more) n
  with_cells more = record {
    marked = λ live k x at. record {
      place = (are.marked live k x at).place;
      cell_is = still_at cells more (are.marked live k x at).place x.0 (are.marked live k x at).cell_is;
      mark_is = (are.marked live k x at).mark_is;
    };
    once = are.once;
    long = are.long;
  }

  module _ (distinct : Distinct cells) (place cell : ℕ) (has_place : slice_get cells place ≡ Some cell) (live : 0 < n.room) where
    led_by_some : (k : ℕ) (o : Option ℕ) → led_by n.list cell o ≡ Some k →
        (v : Value) × (slice_get n.list k ≡ Some (cell, v))
    led_by_some k None e = absurd (none-some k e)
    led_by_some k (Some mark) e =
        let led = led_to cell mark k (slice_get n.list mark) e in
        (led.0, ap (slice_get n.list) (sym led.2) ∙ led.1)

    -- the note that is found is the note of the cell
    pub found : (k : ℕ) → number_of n place cell ≡ Some k → (v : Value) × (slice_get n.list k ≡ Some (cell, v))
    found k e = led_by_some k (slice_get n.marks place) e

    pub found_value : (k : ℕ) → number_of n place cell ≡ Some k → (v : Value) × (value_at n.list cell ≡ Some v)
    found_value k e = ((found k e).0, at_value n.list k (cell, (found k e).0) are.once (found k e).1)

    -- a cell without such a note has no value
    pub not_found : number_of n place cell ≡ None → value_at n.list cell ≡ None
    not_found e = no_value (value_at n.list cell) (λ v is.
        let at = at_contained n.list (cell, v) (value_somewhere n.list cell v is) in
        let m = are.marked live at.0 (cell, v) at.1 in
        let mark : slice_get n.marks place ≡ Some at.0 =
        ap (slice_get n.marks) (one_place cells place m.place cell distinct has_place m.cell_is) ∙ m.mark_is in
        none-some at.0 (sym e ∙ ap (led_by n.list cell) mark ∙ ap (if_of cell at.0) at.1 ∙ leads cell at.0 v))

    module _ (v : Value) (fits : place < length n.marks) where
      again : (k : ℕ) → number_of n place cell ≡ Some k → AreNotes cells (with_note_at n place cell v (Some k))
      again k e =
          let old = found k e in record {
            marked = λ live' j x at. elim (eqb_tells j k) [
              | inl h ↦ (
                  let same : (cell, v) ≡ x =
                  same_Some (cell, v) x (sym (set_same n.list k (cell, v) (slice_get_within n.list k (cell, old.0) old.1)) ∙ ap (slice_get (set n.list k (cell, v))) (sym h.1) ∙ at) in
                  let m = are.marked live k (cell, old.0) old.1 in
                  record {
                    place = m.place;
                    cell_is = m.cell_is ∙ ap (λ (z : ℕ × Value). Some z.0) same;
                    mark_is = m.mark_is ∙ ap Some (sym h.1);
                  })
              | inr h ↦ are.marked live j x (set_cases n.list k j (cell, v) x at h.1)
            ];
            once = once_set n.list k cell old.0 v are.once old.1;
            long = are.long;
          }

      anew : number_of n place cell ≡ None → AreNotes cells (with_note_at n place cell v None)
      anew e =
          let none : value_at n.list cell ≡ None = not_found e in record {
            marked = λ live' j x at. elim (eqb_tells j (length n.list)) [
              | inl h ↦ (
                  let same : (cell, v) ≡ x = get_last n.list (cell, v) x (ap (slice_get (n.list ++ (cell, v) ∷ [])) (sym h.1) ∙ at) in
                  record {
                    place = place;
                    cell_is = has_place ∙ ap (λ (z : ℕ × Value). Some z.0) same;
                    mark_is = set_same n.marks place (length n.list) fits ∙ ap Some (sym h.1);
                  })
              | inr h ↦ (
                  let within : j < length (n.list ++ (cell, v) ∷ []) = slice_get_within (n.list ++ (cell, v) ∷ []) j x at in
                  let lt : j < length n.list = omega (arith, within, length-append n.list ((cell, v) ∷ []), h.1) in
                  let was : slice_get n.list j ≡ Some x = get_before n.list (cell, v) j x at lt in
                  let m = are.marked live j x was in
                  let other : m.place ≢ place =
                  λ q. none_nowhere n.list j x (ap (value_at n.list) (same_Some x.0 cell (sym m.cell_is ∙ ap (slice_get cells) q ∙ has_place)) ∙ none) was in
                  record {
                    place = m.place;
                    cell_is = m.cell_is;
                    mark_is = set_other_place n.marks place m.place (length n.list) j m.mark_is other;
                  })
            ];
            once = once_append n.list cell v are.once none;
            long = omega (arith, are.long, length-set n.marks place (length n.list));
          }

      noted_by : (o : Option ℕ) → number_of n place cell ≡ o → AreNotes cells (with_note_at n place cell v o)
      noted_by (Some k) e = again k e
      noted_by None e = anew e

      -- the cell is noted
      pub noted_so : AreNotes cells (with_note n place cell v)
      noted_so = noted_by (number_of n place cell) refl

      set_by : (o : Option ℕ) → number_of n place cell ≡ o →
          in_order (with_note_at n place cell v o).list ≡ with_value (in_order n.list) cell v
      set_by (Some k) e =
          let old = found k e in
          set_in_order n.list (set n.list k (cell, v)) cell v
          (at_value (set n.list k (cell, v)) k (cell, v) (once_set n.list k cell old.0 v are.once old.1)
          (set_same n.list k (cell, v) (slice_get_within n.list k (cell, old.0) old.1)))
          (λ d ne. set_elsewhere n.list k cell old.0 v d old.1 ne)
      set_by None e =
          set_in_order n.list (n.list ++ (cell, v) ∷ []) cell v
          (value_right n.list ((cell, v) ∷ []) cell (not_found e) ∙ here (cell, v) [] cell refl)
          (λ d ne. append_elsewhere n.list cell v d ne)

      -- the value of the cell is set
      pub noted_with : in_order (with_note n place cell v).list ≡ with_value (in_order n.list) cell v
      noted_with = set_by (number_of n place cell) refl

same_room_by : (n : NotesOf) (place cell : ℕ) (v : Value) (o : Option ℕ) → (with_note_at n place cell v o).room ≡ n.room
same_room_by n place cell v (Some k) = refl
same_room_by n place cell v None = refl

pub same_room : (n : NotesOf) (place cell : ℕ) (v : Value) → (with_note n place cell v).room ≡ n.room
same_room n place cell v = same_room_by n place cell v (number_of n place cell)

-- a cell that is not noted yet can be noted
pub one_more : (cells : List ℕ) (n : NotesOf) (are : AreNotes cells n) → Distinct cells → (place cell : ℕ) →
    slice_get cells place ≡ Some cell →
    0 < n.room → Value → place < length n.marks → number_of n place cell ≡ None → length n.list < length cells
one_more cells n are distinct place cell at live v fits none =
    let more : AreNotes cells (with_note_at n place cell v None) = anew cells n are distinct place cell at live v fits none in
    omega (arith, few cells (with_note_at n place cell v None) more live, length-append n.list ((cell, v) ∷ []))
