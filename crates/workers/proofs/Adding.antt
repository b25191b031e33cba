-- Adding an entry by an exchange keeps the rule, and so does a look.
use Rattle.std.proofs.Common.{◌≡◌, ℕ, ◌+◌, ◌<◌, ◌==◌, Bool, true, false, List, [], ◌∷◌, ◌++◌, length, refl, ap, sym, subst, arith, inl, length-append, None}
use Rattle.std.proofs.lemmas.List.{append-nil}
use Rattle.std.proofs.lemmas.Bool.Decides.{nat_tests}
use mathlib.Core.List.{IsPrefix}
use prog.Atomic.{either}
use Rattle.logbook.specs.Pages.{Cell, cell, keeps, no_nib, step, Moves, Goes}
use Rattle.history.specs.Commits.{Commit}
use Rattle.workers.specs.Working.Rules.{IsKept, Adds, Looks}
use Rattle.workers.proofs.Fronts.{prefix_whole}

abbrev shown : List Commit → List Commit
shown log = []

abbrev moved : Commit → List Commit → List Commit → ℕ → Type 0
moved ask xs ys n = Unit {0}

adds_goes : (log v : List Commit) (e : Commit) (old : ℕ) → length v ≡ old → IsPrefix v log
    → (b : Bool) → (length log == old) ≡ b
    → Goes IsKept shown (moved e) 0 (v, (no_nib, None)) (λ n. either (n == old) (old + 1) n) (Adds (step 0 old (old + 1) e) (v, (no_nib, None))) ((length log, true) ∷ (0, true) ∷ []) log
adds_goes log v e old len pre true is =
    let here : length log ≡ old = grind (arith, nat_tests) in
    let same : v ≡ log = prefix_whole v log pre (omega arith) in
    let n : either (length log == old) (old + 1) (length log) ≡ length (log ++ e ∷ []) = rw is (omega (arith, length-append log (e ∷ []))) in (
      keeps,
      e ∷ [],
      None,
      tt,
      record { words = ap (λ (k : ℕ). (k, true) ∷ (0, true) ∷ []) n },
      inl (refl, refl),
      rw is (ap (λ w. w ++ e ∷ []) (sym same)),
    )
adds_goes log v e old len pre false is =
    let n : either (length log == old) (old + 1) (length log) ≡ length (log ++ []) = rw is (ap length (sym (append-nil log))) in (
      keeps,
      [],
      None,
      tt,
      record { words = ap (λ (k : ℕ). (k, true) ∷ (0, true) ∷ []) n },
      inl (refl, refl),
      rw is tt,
    )

-- for each log, the exchange adds the entry after all that was seen, or finds that the log is longer
pub adds_moves : (v : List Commit) (e : Commit) (old : ℕ) → length v ≡ old
    → Moves IsKept shown (moved e) 0 (v, (no_nib, None)) (λ n. either (n == old) (old + 1) n) (Adds (step 0 old (old + 1) e) (v, (no_nib, None)))
adds_moves v e old len cs log kept pre away =
    let P : List Cell → Type 0 = λ c. (0 < length c) × ((cell c 0).1 ≡ true) × Goes IsKept shown (moved e) 0
    (v, (no_nib, None)) (λ n. either (n == old) (old + 1) n)
    (Adds (step 0 old (old + 1) e) (v, (no_nib, None))) c log in
    subst P (sym kept.words) (omega arith, refl, adds_goes log v e old len pre (length log == old) refl)

looks_goes : (log v : List Commit) (e : Commit) →
    Goes IsKept shown (moved e) 0 (v, (no_nib, None)) (λ n. n) (Looks (step 0 0 0 e) (v, (no_nib, None))) ((length log, true) ∷ (0, true) ∷ []) log
looks_goes log v e =
    let n : length log ≡ length (log ++ []) = ap length (sym (append-nil log)) in (
      keeps,
      [],
      None,
      tt,
      record { words = ap (λ (k : ℕ). (k, true) ∷ (0, true) ∷ []) n },
      inl (refl, refl),
      n,
    )

-- for each row, a look finds the number of its entries
pub looks_moves : (v : List Commit) (e : Commit) →
    Moves IsKept shown (moved e) 0 (v, (no_nib, None)) (λ n. n) (Looks (step 0 0 0 e) (v, (no_nib, None)))
looks_moves v e cs log kept pre away =
    let P : List Cell → Type 0 = λ c. (0 < length c) × ((cell c 0).1 ≡ true) × Goes IsKept shown (moved e) 0 (v, (no_nib, None)) (λ n. n) (Looks (step 0 0 0 e) (v, (no_nib, None))) c log in
    subst P (sym kept.words) (omega arith, refl, looks_goes log v e)
