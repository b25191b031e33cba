-- Locals that are out of scope.
use Rattle.std.proofs.Common.{◌≡◌, ℕ, zero, suc, ◌<◌, ◌≤◌, List, [], ◌∷◌, Option, Some, Bool, true, false, length}
use Rattle.std.proofs.Common.{get_or, refl, sym, ap, ◌∙◌, arith, subst, if◌then◌else◌}
use Rattle.std.specs.Prelude.{map, slice_set}
use Rattle.resolution.specs.Scopes.{Local, place_from, local_bears, hidden, hidden_from}
use Rattle.types_symbols.specs.declared.names.Names.{Names}
use Rattle.types_symbols.specs.declared.scope.Local as l
use Rattle.types_symbols.specs.Working.Found.{IsTableOf}
use Rattle.types_symbols.specs.Working.Scoped.{local_seen, locals_seen}

pub hide_step : (xs : List l.Local) (i : ℕ) (x y : l.Local) → i < length xs → x ≡ get_or xs i x →
    local_seen y ≡ hidden (local_seen x) →
    hidden_from (suc i) (map local_seen (slice_set xs i y)) ≡ hidden_from i (map local_seen xs)
hide_step [] i x y lt is e = absurd (omega arith)
hide_step (z ∷ xs) zero x y lt is e = ap (λ (w : Local). w ∷ hidden_from zero (map local_seen xs)) (e ∙ ap (λ (w : l.Local). hidden (local_seen w)) is)
hide_step (z ∷ xs) (suc i) x y lt is e = ap (λ (ws : List Local). local_seen z ∷ ws) (hide_step xs i x y (omega arith) is e)

pub hide_none : (xs : List Local) (n : ℕ) → length xs ≤ n → hidden_from n xs ≡ xs
hide_none [] n le = refl
hide_none (x ∷ xs) zero le = absurd (omega arith)
hide_none (x ∷ xs) (suc n) le = ap (λ (ws : List Local). x ∷ ws) (hide_none xs n (omega arith))

place_if : (b : Bool) (k : ℕ) (m n : Option ℕ) → m ≡ n → (if b then Some k else m) ≡ (if b then Some k else n)
place_if true k m n e = refl
place_if false k m n e = e

place_hidden : (q : List ℕ) (k n : ℕ) (xs : List Local) →
    place_from (λ (x : Local). local_bears x q) k (hidden_from n xs) ≡ place_from (λ (x : Local). local_bears x q) k xs
place_hidden q k n [] = refl
place_hidden q k zero (x ∷ xs) = place_if (local_bears x q) k _ _ (place_hidden q (suc k) zero xs)
place_hidden q k (suc n) (x ∷ xs) = place_if (local_bears x q) k _ _ (place_hidden q (suc k) n xs)

pub table_hidden : (n : ℕ) (xs ys : List Local) (names : Names) → ys ≡ hidden_from n xs →
    IsTableOf local_bears xs names → IsTableOf local_bears ys names
table_hidden n xs ys names made table =
    let P : List Local → Type 0 = λ ws. IsTableOf local_bears ws names in
    subst P (sym made) (λ q. table q ∙ sym (place_hidden q 0 n xs))

pub seen_length : (xs : List l.Local) → length (locals_seen xs) ≡ length xs
seen_length [] = refl
seen_length (x ∷ xs) = ap suc (seen_length xs)
