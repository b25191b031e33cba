-- Parts of a text.
use Rattle.std.proofs.Common.{◌≡◌, ℕ, zero, suc, ◌+◌, ◌-◌, ◌≤◌, Bool, true, false, cond, List, [], ◌∷◌, ◌++◌, length, take, drop, get_or}
use Rattle.std.proofs.Common.{refl, sym, ap, ◌∙◌, arith, length-append}
use Rattle.std.proofs.lemmas.List.{take_at, drop_at, take_all}
use Rattle.source.specs.declared.token.Token.{Token}
use Rattle.source.specs.Tokens.{seen, seen_token}
use Rattle.formatting.specs.Pieces.{is_blank, kept, trimmed}
use Rattle.formatting.specs.Layout.{many}
use Rattle.lexer.specs.Working.Reading.{run_of, after_run}

module _ (p : ℕ → Bool) where
  pub run_parts : (bs : List ℕ) → run_of p bs ++ after_run p bs ≡ bs
  run_parts [] = refl
  run_parts (b ∷ bs) = elim (p b) as (λ t. cond t (b ∷ run_of p bs) [] ++ cond t (after_run p bs) (b ∷ bs) ≡ b ∷ bs) [ true ↦ ap (λ (l : List ℕ). b ∷ l) (run_parts bs) | false ↦ refl ]

  run_length : (bs : List ℕ) → length bs - length (after_run p bs) ≡ length (run_of p bs)
  run_length bs = omega (arith, length-append (run_of p bs) (after_run p bs), ap length (run_parts bs))

  pub run_le : (bs : List ℕ) → length (after_run p bs) ≤ length bs
  run_le bs = omega (arith, length-append (run_of p bs) (after_run p bs), ap length (run_parts bs))

  pub run_front : (bs : List ℕ) → take (length bs - length (after_run p bs)) bs ≡ run_of p bs
  run_front bs = ap (λ n. take n bs) (run_length bs) ∙ ap (λ (l : List ℕ). take (length (run_of p bs)) l) (sym (run_parts bs)) ∙ take_at (run_of p bs) (after_run p bs) (length (run_of p bs)) refl

  pub run_back : (bs : List ℕ) → drop (length bs - length (after_run p bs)) bs ≡ after_run p bs
  run_back bs = ap (λ n. drop n bs) (run_length bs) ∙ ap (λ (l : List ℕ). drop (length (run_of p bs)) l) (sym (run_parts bs)) ∙ drop_at (run_of p bs) (after_run p bs) (length (run_of p bs)) refl

-- ---- the end of a line

last_is : (front : List ℕ) (b : ℕ) → is_blank b ≡ false → trimmed (front ++ b ∷ []) ≡ front ++ b ∷ []
last_is [] b e = rw e refl
last_is (c ∷ []) b e = rw e refl
last_is (c ∷ d ∷ front) b e = ap (kept c) (last_is (d ∷ front) b e)

last_goes : (front : List ℕ) (b : ℕ) → is_blank b ≡ true → trimmed (front ++ b ∷ []) ≡ trimmed front
last_goes [] b e = rw e refl
last_goes (c ∷ front) b e = ap (kept c) (last_goes front b e)

pub at_back : (bs : List ℕ) → 1 ≤ length bs → bs ≡ take (length bs - 1) bs ++ get_or bs (length bs - 1) 0 ∷ []
at_back [] le = absurd (omega arith)
at_back (b ∷ []) le = refl
at_back (b ∷ c ∷ bs) le =
    let n : ℕ = length (c ∷ bs) - 1 in
    let e : length (b ∷ c ∷ bs) - 1 ≡ suc n = omega arith in
    ap (λ (l : List ℕ). b ∷ l) (at_back (c ∷ bs) (omega arith))
    ∙ ap (λ (m : ℕ). take m (b ∷ c ∷ bs) ++ get_or (b ∷ c ∷ bs) m 0 ∷ []) (sym e)

module _ (rest : List ℕ) (le : 1 ≤ length rest) where
  pub stays : is_blank (get_or rest (length rest - 1) 0) ≡ false → trimmed rest ≡ rest
  stays e = ap trimmed (at_back rest le) ∙ last_is (take (length rest - 1) rest) (get_or rest (length rest - 1) 0) e ∙ sym (at_back rest le)

  pub goes : is_blank (get_or rest (length rest - 1) 0) ≡ true → trimmed (take (length rest - 1) rest) ≡ trimmed rest
  goes e = sym (ap trimmed (at_back rest le) ∙ last_goes (take (length rest - 1) rest) (get_or rest (length rest - 1) 0) e)

pub seen_front : (xs : List Token) (x : Token) → 1 ≤ length xs → x ≡ get_or xs 0 x →
    seen xs ≡ seen_token x ∷ seen (take (length xs - 1) (drop 1 xs))
seen_front [] x le e = absurd (omega arith)
seen_front (y ∷ xs) x le e =
    let n : length (y ∷ xs) - 1 ≡ length xs = omega arith in
    ap (λ (y : Token). seen (y ∷ xs)) (sym e) ∙ ap (λ (l : List Token). seen_token x ∷ seen l) (sym (take_all (length (y ∷ xs) - 1) xs (omega arith)))

-- ---- a byte, many times

many_on : (n b : ℕ) → many n b ++ b ∷ [] ≡ b ∷ many n b
many_on zero b = refl
many_on (suc n) b = ap (λ (l : List ℕ). b ∷ l) (many_on n b)

pub many_more : (n b : ℕ) → many (n + 1) b ≡ many n b ++ b ∷ []
many_more n b = let e : n + 1 ≡ suc n = omega arith in ap (λ (n : ℕ). many n b) e ∙ sym (many_on n b)
