-- The tables of names.
use Rattle.std.proofs.Common.{◌≡◌, ℕ, suc, ◌+◌, List, [], ◌∷◌, ◌++◌, length, Option, Some, None, Bool, true, false}
use Rattle.std.proofs.Common.{if◌then◌else◌, refl, sym, ap, ◌∙◌, arith}
use Rattle.std.specs.Option.{option_or}
use Rattle.std.specs.Str.{bytes_eq}
use Rattle.std.specs.Map.{update}
use Rattle.std.proofs.lemmas.Slice.Eq.{bytes_eq-Decides}
use Rattle.std.proofs.lemmas.Grind.{common_steps}
use Rattle.resolution.specs.Scopes.{place_from}
use Rattle.types_symbols.specs.Working.Found.{found, IsTableOf}
use Rattle.types_symbols.specs.declared.names.Names.{Names}

pub table-first : (f : List ℕ → Option ℕ) (k q : List ℕ) (v : ℕ) → f k ≡ None →
    update bytes_eq f k (Some v) q ≡ option_or (f q) (if bytes_eq q k then Some v else None)
table-first f k q v none = grind (arith, common_steps, bytes_eq-Decides k q, bytes_eq-Decides q k)

or_if : (b c : Bool) (m : ℕ) (rest : Option ℕ) (more : Option ℕ) →
    rest ≡ option_or more (if c then Some m else None) → (k : ℕ) →
    (if b then Some k else rest) ≡ option_or (if b then Some k else more) (if c then Some m else None)
or_if true c m rest more h k = refl
or_if false c m rest more h k = h

-- one more item at the end
pub place-more : {A : Type 0} (p : A → Bool) (xs : List A) (x : A) (n m : ℕ) → m ≡ length xs + n →
    place_from p n (xs ++ x ∷ []) ≡ option_or (place_from p n xs) (if p x then Some m else None)
place-more p [] x n m e = let h : n ≡ m = omega (arith, e) in ap (λ (k : ℕ). if p x then Some k else None) h
place-more p (y ∷ xs) x n m e = or_if (p y) (p x) m (place_from p (suc n) (xs ++ x ∷ [])) (place_from p (suc n) xs) (place-more p xs x (suc n) m (omega (arith, e))) n

-- the table with one more name
pub table-more : {A : Type 0} (bears : A → List ℕ → Bool) (xs : List A) (x : A) (old new : Names) →
    IsTableOf bears xs old →
    ((q : List ℕ) → found new q ≡ option_or (found old q) (if bears x q then Some (length xs) else None)) →
    IsTableOf bears (xs ++ x ∷ []) new
table-more bears xs x old new h adds = λ q. adds q ∙ ap (λ (o : Option ℕ). option_or o (if bears x q then Some (length xs) else None)) (h q) ∙ sym (place-more (λ y. bears y q) xs x 0 (length xs) (omega arith))
