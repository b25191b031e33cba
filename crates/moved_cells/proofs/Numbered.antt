-- Cells in order of their numbers, each with its value.
use Rattle.std.proofs.Common.{Option, ◌≡◌, ◌<◌, ◌≢◌, ◌≤◌, ◌+◌, ℕ, zero, suc, List, [], ◌∷◌, length, map, set, Some}
use Rattle.std.proofs.Common.{Bool, true, false, inl, inr, refl, sym, ap, ◌∙◌, subst, arith}
use Rattle.std.specs.Prelude.{slice_get, nat_eq, if◌then◌else◌, ⊤}
use Rattle.std.proofs.lemmas.Bool.Decides.{eqb_tells}
use Rattle.std.proofs.lemmas.Option.{none-some}
use Rattle.core_lang.specs.declared.value.Value.{Value}
use Rattle.core_lang.specs.Theory.Items.{get_some}
use Rattle.locks.specs.declared.lock.Lock.{Lock}
use Rattle.code.specs.Memory.{value_at, with_changed, Agrees}
use Rattle.layout.specs.LockCells.{cells_from}
use Rattle.locks.specs.Locks.{same_lock}
use Rattle.moved_cells.specs.Working.Grants.{numbered, values_on, if_there}

-- each number is at least `n`, and greater than those before it
abbrev pub Rise : ℕ → List ℕ → Type 0
Rise n [] = ⊤
Rise n (c ∷ cs) = (n ≤ c) × Rise (c + 1) cs

rise_lower : (n m : ℕ) (cs : List ℕ) → m ≤ n → Rise n cs → Rise m cs
rise_lower n m [] le r = tt
rise_lower n m (c ∷ cs) le r = (omega (arith, le, r.0), r.1)

rise_if : (b : Bool) (k : ℕ) (cs : List ℕ) → Rise (k + 1) cs → Rise k (if b then k ∷ cs else cs)
rise_if true k cs r = (omega arith, r)
rise_if false k cs r = rise_lower (k + 1) k cs (omega arith) r

pub cells_rise : (k : ℕ) (locks : List Lock) (lock : Lock) → Rise k (cells_from k locks lock)
cells_rise k [] lock = tt
cells_rise k (l ∷ ls) lock = rise_if (same_lock l lock) k (cells_from (k + 1) ls lock) (cells_rise (k + 1) ls lock)

least : (n : ℕ) (cs : List ℕ) (offset cell : ℕ) → Rise n cs → slice_get cs offset ≡ Some cell → n ≤ cell
least n [] offset cell r at = absurd (none-some cell at)
least n (c ∷ cs) zero cell r at = let e : c ≡ cell = cc in omega (arith, e, r.0)
least n (c ∷ cs) (suc offset) cell r at = omega (arith, r.0, least (c + 1) cs offset cell r.1 at)

first_is : {A : Type 0} (a k : ℕ) (x rest : A) → a ≡ k → (if nat_eq a k then x else rest) ≡ x
first_is a k x rest e = elim (eqb_tells a k) [ inl h ↦ ap (λ b. if b then x else rest) h.0 | inr h ↦ absurd (h.1 e) ]

first_is_not : {A : Type 0} (a k : ℕ) (x rest : A) → a ≢ k → (if nat_eq a k then x else rest) ≡ rest
first_is_not a k x rest ne = elim (eqb_tells a k) [ inl h ↦ absurd (ne h.1) | inr h ↦ ap (λ b. if b then x else rest) h.0 ]

pub numbered_cells : (cs : List ℕ) (vs : List Value) → length vs ≡ length cs →
    map (λ (x : ℕ × Value). x.0) (numbered cs vs) ≡ cs
numbered_cells [] vs e = refl
numbered_cells (c ∷ cs) [] e = absurd (omega (arith, e))
numbered_cells (c ∷ cs) (v ∷ vs) e = ap (λ xs. c ∷ xs) (numbered_cells cs vs (omega (arith, e)))

pub found_at : (n : ℕ) (cs : List ℕ) (vs : List Value) (cell offset : ℕ) → Rise n cs → length vs ≡ length cs →
    slice_get cs offset ≡ Some cell →
    value_at (numbered cs vs) cell ≡ slice_get vs offset
found_at n [] vs cell offset r e at = absurd (none-some cell at)
found_at n (c ∷ cs) [] cell offset r e at = absurd (omega (arith, e))
found_at n (c ∷ cs) (v ∷ vs) cell zero r e at = let same : c ≡ cell = cc in first_is c cell (Some v) (value_at (numbered cs vs) cell) same
found_at n (c ∷ cs) (v ∷ vs) cell (suc offset) r e at =
    let later : c + 1 ≤ cell = least (c + 1) cs offset cell r.1 at in
    first_is_not c cell (Some v) (value_at (numbered cs vs) cell) (λ q. absurd (omega (arith, later, q)))
    ∙ found_at (c + 1) cs vs cell offset r.1 (omega (arith, e)) at

pub changed_at : (n : ℕ) (cs : List ℕ) (vs : List Value) (cell offset : ℕ) (v : Value) → Rise n cs →
    length vs ≡ length cs → slice_get cs offset ≡ Some cell →
    numbered cs (set vs offset v) ≡ with_changed (numbered cs vs) cell v
changed_at n [] vs cell offset v r e at = absurd (none-some cell at)
changed_at n (c ∷ cs) [] cell offset v r e at = absurd (omega (arith, e))
changed_at n (c ∷ cs) (w ∷ vs) cell zero v r e at =
    let same : c ≡ cell = cc in
    ap (λ k. (k, v) ∷ numbered cs vs) same
    ∙ sym (first_is c cell ((cell, v) ∷ numbered cs vs) ((c, w) ∷ with_changed (numbered cs vs) cell v) same)
changed_at n (c ∷ cs) (w ∷ vs) cell (suc offset) v r e at =
    let later : c + 1 ≤ cell = least (c + 1) cs offset cell r.1 at in
    ap (λ xs. (c, w) ∷ xs) (changed_at (c + 1) cs vs cell offset v r.1 (omega (arith, e)) at)
    ∙ sym (first_is_not c cell ((cell, v) ∷ numbered cs vs) ((c, w) ∷ with_changed (numbered cs vs) cell v) (λ q. absurd (omega (arith, later, q))))

-- ---- values on a heap

one_more_whole : (b : Bool) (k : ℕ) (cs : List ℕ) (heap : List Value) → k < length heap →
    length (values_on heap cs) ≡ length cs →
    length (values_on heap (if b then k ∷ cs else cs)) ≡ length (if b then k ∷ cs else cs)
one_more_whole true k cs heap lt e = let v = get_some heap k lt in ap (λ o. length (if_there o (values_on heap cs))) v.1 ∙ ap suc e
one_more_whole false k cs heap lt e = e

pub values_whole : (k : ℕ) (locks : List Lock) (lock : Lock) (heap : List Value) → k + length locks ≤ length heap →
    length (values_on heap (cells_from k locks lock)) ≡ length (cells_from k locks lock)
values_whole k [] lock heap le = refl
values_whole k (l ∷ ls) lock heap le =
    one_more_whole (same_lock l lock) k (cells_from (k + 1) ls lock) heap (omega (arith, le)) (values_whole (k + 1) ls lock heap (omega (arith, le)))

one_more_agrees : (b : Bool) (k : ℕ) (cs : List ℕ) (heap : List Value) → k < length heap →
    Agrees heap (numbered cs (values_on heap cs)) →
    Agrees heap (numbered (if b then k ∷ cs else cs) (values_on heap (if b then k ∷ cs else cs)))
one_more_agrees true k cs heap lt a =
    let v = get_some heap k lt in
    subst (λ (o : Option Value). Agrees heap (numbered (k ∷ cs) (if_there o (values_on heap cs)))) (sym v.1) (v.1, a)
one_more_agrees false k cs heap lt a = a

pub values_agree : (k : ℕ) (locks : List Lock) (lock : Lock) (heap : List Value) → k + length locks ≤ length heap →
    Agrees heap (numbered (cells_from k locks lock) (values_on heap (cells_from k locks lock)))
values_agree k [] lock heap le = tt
values_agree k (l ∷ ls) lock heap le =
    one_more_agrees (same_lock l lock) k (cells_from (k + 1) ls lock) heap (omega (arith, le)) (values_agree (k + 1) ls lock heap (omega (arith, le)))
