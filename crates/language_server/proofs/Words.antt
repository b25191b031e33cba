-- The first word of words that begin with a name.
use Rattle.std.proofs.Common.{◌≡◌, ℕ, suc, ◌+◌, true, false, List, [], ◌∷◌, ◌++◌, refl, ap, arith}
use Rattle.std.specs.Prelude.{◌==◌, not}
use Rattle.std.specs.List.{list_all, prefix_len}
use Rattle.std.proofs.lemmas.Bool.{and_parts}
use Rattle.std.proofs.lemmas.Bool.Decides.{nat_tests}
use Rattle.source.specs.Texts.{is_name_byte}
use Rattle.language_server.specs.Changes.{first_word}

no_space : (b : ℕ) → is_name_byte b ≡ true → (b == 32) ≡ false
no_space b is = grind (arith, nat_tests)

-- a name that a space follows is the first word
pub named_first : (name rest : List ℕ) → list_all is_name_byte name ≡ true → first_word (name ++ 32 ∷ rest) ≡ name
named_first [] rest all = refl
named_first (b ∷ name) rest all =
    let parts = and_parts (is_name_byte b) (list_all is_name_byte name) all in
    let n = prefix_len (λ x. not (x == 32)) (name ++ 32 ∷ rest) in
    let more : 1 + n ≡ suc n = omega arith in
    rw (no_space b parts.0, more) (ap (λ (l : List ℕ). b ∷ l) (named_first name rest parts.1))
