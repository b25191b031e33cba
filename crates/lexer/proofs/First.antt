-- The first byte of a text, and the bytes after it.
use Rattle.std.proofs.Common.{◌≡◌, ◌∙◌, ◌+◌, ◌-◌, ◌*◌, ◌<◌, ◌≤◌, ℕ, List, [], ◌∷◌, length, take, drop, get_or, Bool}
use Rattle.std.proofs.Common.{true, false, Some, Ok, Option, refl, sym, ap, arith}
use Rattle.std.specs.Prelude.{◌==◌, ◌&&◌, ◌/◌}
use Rattle.std.proofs.lemmas.Bool.{eqb-true}
use Rattle.std.proofs.lemmas.Bool.Decides.{nat_tests}
use Rattle.std.proofs.lemmas.List.{take_all}
use Rattle.source.specs.declared.token.Sign.{Sign}
use Rattle.source.specs.Texts.{is_white, is_digit, is_letter, NUMBER_LIMIT}
use Rattle.source.specs.Tokens.{Lexeme, mark}
use Rattle.lexer.specs.Working.Reading.{after_line, skip, is_slash, double_of, sign_or, single_at, sign_at, unit_at}
use Rattle.lexer.specs.Working.Reading.{CanStand}
use Rattle.lexer.proofs.Gaps.{line_bounds}
use Rattle.lexer.proofs.Numbers.{number_on}
use Rattle.lexer.proofs.Steps.{skip_le, unit_shortens, unit_stands}

abbrev pub behind_first : List ℕ → List ℕ
behind_first bs = take (length bs - 1) (drop 1 bs)

in_front : (bs : List ℕ) → 1 ≤ length bs → bs ≡ get_or bs 0 0 ∷ behind_first bs
in_front [] le = absurd (omega (arith, le))
in_front (b ∷ bs) le = ap (λ (l : List ℕ). b ∷ l) (sym (take_all (length (b ∷ bs) - 1) bs (omega arith)))

-- ---- white space and comments

skip_white : (b : ℕ) (bs : List ℕ) → is_white b ≡ true → skip (b ∷ bs) ≡ skip bs
skip_white b bs w = rw w refl

skip_stays : (b : ℕ) (bs : List ℕ) → is_white b ≡ false → ((b == 47) && is_slash bs) ≡ false → skip (b ∷ bs) ≡ b ∷ bs
skip_stays b bs w s = rw (w, s) refl

pub not_both : (a b : Bool) → b ≡ false → (a && b) ≡ false
not_both true b e = e
not_both false b e = refl

pub not_first : (m n : ℕ) (b : Bool) → (m ≡ n → ⊥) → ((m == n) && b) ≡ false
not_first m n b ne = ap (λ (t : Bool). t && b) (decide (m == n) refl)
  where
    decide : (t : Bool) → (m == n) ≡ t → (m == n) ≡ false
    decide true e = absurd (ne (eqb-true m n e))
    decide false e = e

module _ (rest text : List ℕ) (le : 1 ≤ length rest) where
  pub white_skipped : is_white (get_or rest 0 0) ≡ true → skip rest ≡ skip text → skip (behind_first rest) ≡ skip text
  white_skipped w so_far = sym (ap skip (in_front rest le) ∙ skip_white (get_or rest 0 0) (behind_first rest) w) ∙ so_far

  pub nothing_skipped : is_white (get_or rest 0 0) ≡ false →
      ((get_or rest 0 0 == 47) && is_slash (behind_first rest)) ≡ false → skip rest ≡ skip text → rest ≡ skip text
  nothing_skipped w s so_far =
      in_front rest le ∙ sym (ap skip (in_front rest le) ∙ skip_stays (get_or rest 0 0) (behind_first rest) w s) ∙ so_far

pub comment_shorter : (rest after : List ℕ) → 1 ≤ length rest → after ≡ after_line (behind_first rest) →
    length after < length rest
comment_shorter rest after le is = omega (arith, ap length is, line_bounds (behind_first rest), ap length (in_front rest le))

-- ---- numbers and signs

digit_read : (n b : ℕ) (bs : List ℕ) → is_digit b ≡ true → number_on n (b ∷ bs) ≡ number_on (n * 10 + (b - 48)) bs
digit_read n b bs d = rw d refl

pub one_digit : (n : ℕ) (rest : List ℕ) → 1 ≤ length rest → is_digit (get_or rest 0 0) ≡ true →
    number_on (n * 10 + (get_or rest 0 0 - 48)) (behind_first rest) ≡ number_on n rest
one_digit n rest le d = sym (ap (number_on n) (in_front rest le) ∙ digit_read n (get_or rest 0 0) (behind_first rest) d)

digit_low : (b : ℕ) → is_digit b ≡ true → b < 58
digit_low b d = grind (arith, nat_tests)

pub stays_small : (n b : ℕ) → is_digit b ≡ true → n ≤ (9223372036854775807 - (b - 48)) / 10 →
    n * 10 + (b - 48) ≤ NUMBER_LIMIT
stays_small n b d le = omega (arith, le, digit_low b d)

pub double_taken : (first : ℕ) (rest : List ℕ) (s : Sign) → 1 ≤ length rest →
    Some s ≡ double_of first (get_or rest 0 0) → sign_at first rest ≡ Ok (mark s, behind_first rest)
double_taken first rest s le is =
    ap (sign_at first) (in_front rest le)
    ∙ ap (λ (o : Option Sign). sign_or o (behind_first rest) (single_at first (get_or rest 0 0 ∷ behind_first rest))) (sym is)

unit_else : (b : ℕ) (bs : List ℕ) → is_letter b ≡ false → is_digit b ≡ false → unit_at (b ∷ bs) ≡ sign_at b bs
unfolding unit_at
unit_else b bs l d = rw (l, d) refl

pub sign_first : (text : List ℕ) → 1 ≤ length text → is_letter (get_or text 0 0) ≡ false →
    is_digit (get_or text 0 0) ≡ false → unit_at text ≡ sign_at (get_or text 0 0) (behind_first text)
sign_first text le l d = ap unit_at (in_front text le) ∙ unit_else (get_or text 0 0) (behind_first text) l d

-- ---- a token within a text

module _ (text rest here : List ℕ) (is : here ≡ skip rest) (short : length rest ≤ length text) where
  pub here_within : length here ≤ length text
  here_within = omega (arith, ap length is, skip_le rest, short)

  module _ (k : Lexeme) (behind : List ℕ) (unit : unit_at here ≡ Ok (k, behind)) where
    pub less_behind : length behind < length rest
    less_behind = omega (arith, ap length is, skip_le rest, unit_shortens here k behind unit)

    pub behind_within : length behind ≤ length text
    behind_within = omega (arith, less_behind, short)

    pub can_stand : length text ≤ 1048576 → CanStand k (length text - length here) (length text - length behind)
    can_stand le = unit_stands (length text) here k behind unit here_within (omega (arith, le))
