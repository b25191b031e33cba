-- What `decimal` writes is a count. Only proofs need it.
use Rattle.std.proofs.Common.{◌≡◌, ◌∙◌, ◌<◌, ◌≤◌, ◌+◌, ◌*◌, ◌-◌, ◌/◌, ◌%◌, ◌^◌, ℕ, true, false, List, []}
use Rattle.std.proofs.Common.{◌∷◌, ◌++◌, length, take, drop, get_or, arith, sym, ap, refl, inl, inr}
use Rattle.std.proofs.Common.{Some, length-append, append_assoc}
use Rattle.std.specs.Prelude.{◌==◌, zero, suc}
use Rattle.std.specs.List.{list_all, position_or_len}
use Rattle.std.specs.Fmt.{decimal}
use Rattle.std.proofs.Math.Bool.{or-true}
use Rattle.std.proofs.lemmas.Bool.{lt-ltb, cases_lt}
use Rattle.std.proofs.lemmas.Bool.Decides.{nat_tests}
use Rattle.std.proofs.lemmas.Fmt.{decimal_by_steps, decimal_digit, first_decimal}
use Rattle.std.proofs.lemmas.Grind.{common_steps}
use Rattle.std.proofs.lemmas.List.{take_at, drop_at, get_or_append_left, get_or_at, length_push}
use Rattle.std.proofs.lemmas.List.Folds.{list_all-append}
use Rattle.std.proofs.lemmas.List.Sums.{fold-append, position_or_len_is}
use Rattle.source.specs.Texts.{is_digit, value_of}
use Rattle.input_files.specs.Pieces.{before, behind, is_numeral, count_in}

-- ---- the digits of a number

record IsDecimal (n : ℕ) (ds : List ℕ) : Type 0 where
  digits : list_all is_digit ds ≡ true
  value : value_of ds ≡ n
  some : 0 < length ds
  no_space : (k : ℕ) → k < length ds → (get_or ds k 0 == 32) ≡ false

one_digit : (n : ℕ) → n < 10 → IsDecimal n ((48 + n) ∷ [])
one_digit n h = record {
  digits = let d : is_digit (48 + n) ≡ true = grind (arith, nat_tests) in rw d refl;
  value = omega arith;
  some = omega arith;
  no_space = first;
}
  where
    first : (k : ℕ) → k < 1 → (get_or ((48 + n) ∷ []) k 0 == 32) ≡ false
    first zero l = grind (arith, nat_tests)
    first (suc k) l = absurd (omega arith)

more_digits : (n : ℕ) (ds : List ℕ) → 10 ≤ n → IsDecimal (n / 10) ds → IsDecimal n (ds ++ ((48 + n % 10) ∷ []))
more_digits n ds h d = record {
  digits = let e : is_digit (48 + n % 10) ≡ true = grind (arith, nat_tests) in list_all-append is_digit ds ((48 + n % 10) ∷ []) ∙ rw (d.digits, e) refl;
  value = fold-append (λ (m b : ℕ). m * 10 + (b - 48)) 0 ds ((48 + n % 10) ∷ []) ∙ (let v : value_of ds ≡ n / 10 = d.value in omega arith);
  some = simp length-append (omega arith);
  no_space = λ k l. elim (cases_lt k (length ds)) [
    | inl less ↦ rw (get_or_append_left ds ((48 + n % 10) ∷ []) 0 k less) (d.no_space k less)
    | inr most ↦
        let last : k ≡ length ds = omega (arith, length-append ds ((48 + n % 10) ∷ [])) in
        let e : ((48 + n % 10) == 32) ≡ false = grind (arith, nat_tests) in
        rw (get_or_at ds (48 + n % 10) [] 0 k (sym last)) e
  ];
}

decimal_is : (n : ℕ) → n < 2 ^ 63 → IsDecimal n (decimal n)
decimal_is n small = decimal_by_steps IsDecimal one_digit more_digits n (omega arith)

numeral_at : (n : ℕ) (ds : List ℕ) → IsDecimal n ds → (0 < n → 48 < get_or ds 0 0) → (n ≡ 0 → length ds ≡ 1) →
    is_numeral ds ≡ true
numeral_at n [] d lead alone = absurd (omega (arith, d.some))
numeral_at n (first ∷ []) d lead alone = rw d.digits refl
numeral_at n (first ∷ second ∷ rest) d lead alone = elim (cases_lt 0 n) [
  | inl some ↦
      let over : 48 < first = lead some in
      let e : (first == 48) ≡ false = grind (arith, nat_tests) in
      rw (d.digits, e) (or-true (length (second ∷ rest) == 0))
  | inr none ↦ absurd (omega (arith, alone (omega arith)))
]

pub count_in-decimal : (n : ℕ) → n < 2 ^ 63 → count_in (decimal n) ≡ Some n
count_in-decimal n small =
    let d = decimal_is n small in
    let numeral : is_numeral (decimal n) ≡ true =
    numeral_at n (decimal n) d (λ some. first_decimal n some (omega arith))
    (λ none. ap length (decimal_digit n (omega arith))) in
    rw (numeral, d.value, lt-ltb n (2 ^ 63) small) refl

-- ---- a number and a space

module _ (n : ℕ) (rest : List ℕ) (small : n < 2 ^ 63) where
  space_at : position_or_len (λ b. b == 32) (decimal n ++ 32 ∷ rest) ≡ length (decimal n)
  space_at =
      position_or_len_is (λ b. b == 32) (decimal n ++ 32 ∷ rest) (length (decimal n)) 0
      (grind (arith, common_steps))
      (λ k less. rw (get_or_append_left (decimal n) (32 ∷ rest) 0 k less) ((decimal_is n small).no_space k less))
      (λ l. rw (get_or_at (decimal n) 32 rest 0 (length (decimal n)) refl) refl)

  pub before-count : before 32 (decimal n ++ 32 ∷ rest) ≡ decimal n
  before-count = ap (λ k. take k (decimal n ++ 32 ∷ rest)) space_at ∙ take_at (decimal n) (32 ∷ rest) (length (decimal n)) refl

  pub behind-count : behind 32 (decimal n ++ 32 ∷ rest) ≡ rest
  behind-count =
      ap (λ k. drop (k + 1) (decimal n ++ 32 ∷ rest)) space_at
      ∙ ap (drop (length (decimal n) + 1)) (sym (append_assoc (decimal n) (32 ∷ []) rest))
      ∙ drop_at (decimal n ++ 32 ∷ []) rest (length (decimal n) + 1) (length_push (decimal n) 32)
