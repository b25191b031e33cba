-- Pieces written one after another.
use Rattle.std.proofs.Common.{◌≡◌, ◌∙◌, ◌++◌, ℕ, List, Result, Ok, Err, ap, append_assoc}
use Rattle.std.specs.Prelude.{OnOk}

-- a property of a success, and one that follows from it
pub then : {T E P Q : Type 0} (r : Result T E) → OnOk r P → (P → Q) → OnOk r Q
then (Ok x) p f = f p
then (Err e) p f = record {}

-- five pieces, one after another
pub five : (a b c d e old m1 m2 m3 m4 new : List ℕ) → m1 ≡ old ++ a → m2 ≡ m1 ++ b → m3 ≡ m2 ++ c → m4 ≡ m3 ++ d →
    new ≡ m4 ++ e → new ≡ old ++ (a ++ b ++ c ++ d ++ e)
five a b c d e old m1 m2 m3 m4 new h1 h2 h3 h4 h5 =
    h5 ∙ ap (λ m. m ++ e) (h4 ∙ ap (λ m. m ++ d) (h3 ∙ ap (λ m. m ++ c) (h2 ∙ ap (λ m. m ++ b) h1))) ∙ simp append_assoc

-- a piece after others
pub more : (old p q mid new : List ℕ) → mid ≡ old ++ p → new ≡ mid ++ q → new ≡ old ++ (p ++ q)
more old p q mid new before last = last ∙ ap (λ m. m ++ q) before ∙ append_assoc old p q
