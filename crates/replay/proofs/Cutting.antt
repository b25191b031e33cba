-- The parts of a text before and after the first byte of a kind, if more is appended.
use Rattle.std.proofs.Common.{◌≡◌, ◌∙◌, ◌<◌, ◌+◌, ℕ, Bool, true, false, List, [], ◌∷◌, ◌++◌, length, take, drop, arith, sym, ap, ap₂}
use Rattle.std.proofs.Common.{refl, append_assoc, length-append, subst, Some}
use Rattle.core_lang.specs.Typing.{lookup}
use Rattle.std.specs.Prelude.{◌==◌, not}
use Rattle.std.specs.List.{position_or_len}
use Rattle.std.proofs.lemmas.Bool.{ne_eqb}
use Rattle.std.proofs.lemmas.List.{take-append-le, drop-append-le}
use Rattle.std.proofs.lemmas.List.Folds.{prefix_len-append}
use Rattle.core_lang.specs.declared.value.Value.{Value}
use Rattle.core_lang.specs.declared.typed.Typed.{Typed}
use Rattle.input_files.specs.Pieces.{before, behind}
use Rattle.report.specs.Pieces.{invocation_text, section_name, values_text}
use Rattle.replay.specs.Told.{invocation_in, arguments_in, section_named}

-- the text has such a byte
abbrev pub Has : ℕ → List ℕ → Type 0
Has byte text = position_or_len (λ b. b == byte) text < length text

pub has_one : (byte : ℕ) (xs ys : List ℕ) → Has byte (xs ++ byte ∷ ys)
has_one byte [] ys =
    let same : (byte == byte) ≡ true = grind arith in
    rw same (omega arith)
has_one byte (x ∷ xs) ys = with_first (x == byte) refl (has_one byte xs ys)
  where
    with_first : (test : Bool) → (x == byte) ≡ test → Has byte (xs ++ byte ∷ ys) → Has byte (x ∷ (xs ++ byte ∷ ys))
    with_first true is h = rw is (omega arith)
    with_first false is h = rw is (omega (arith, h))

module _ (byte : ℕ) (xs ys : List ℕ) (has : Has byte xs) where
  place_kept : position_or_len (λ b. b == byte) (xs ++ ys) ≡ position_or_len (λ b. b == byte) xs
  place_kept =
      let apart = ne_eqb (position_or_len (λ b. b == byte) xs) (length xs) (λ same. absurd (omega (arith, same, has))) in
      prefix_len-append (λ b. not (b == byte)) xs ys ∙ rw apart refl

  pub has_kept : Has byte (xs ++ ys)
  has_kept = let same = place_kept in let long = length-append xs ys in omega (arith, same, long, has)

  pub before_kept : before byte (xs ++ ys) ≡ before byte xs
  before_kept = ap (λ n. take n (xs ++ ys)) place_kept ∙ take-append-le _ xs ys (omega (arith, has))

  pub behind_kept : behind byte (xs ++ ys) ≡ behind byte xs ++ ys
  behind_kept = ap (λ n. drop (n + 1) (xs ++ ys)) place_kept ∙ drop-append-le _ xs ys (omega (arith, has))

-- ---- invocations

abbrev tells : Typed → List ℕ → List ℕ → Type 0
tells program text other = invocation_in program text ≡ invocation_in program other

-- the text of an invocation, without its last bracket
abbrev pub open_text : Typed → ℕ → List Value → List ℕ
open_text program section arguments = section_name program section ++ 40 ∷ values_text program.shape arguments

pub whole_text : (program : Typed) (section : ℕ) (arguments : List Value) →
    invocation_text program section arguments ≡ open_text program section arguments ++ 41 ∷ []
whole_text program section arguments = simp append_assoc

told_alike : (program : Typed) (text other : List ℕ) → before 40 text ≡ before 40 other →
    before 41 (behind 40 text) ≡ before 41 (behind 40 other) → tells program text other
told_alike program text other name inside =
    ap₂ (λ (n i : List ℕ). lookup (section_named program n) (λ section. lookup (arguments_in program.shape i)
    (λ arguments. Some (record { section = section; arguments = arguments })))) name inside

-- text after an invocation does not change how the invocation is read
pub invocation_kept : (program : Typed) (section : ℕ) (arguments : List Value) (more : List ℕ) →
    invocation_in program (invocation_text program section arguments ++ more)
    ≡ invocation_in program (invocation_text program section arguments)
invocation_kept program section arguments more =
    let first = open_text program section arguments in
    let whole = invocation_text program section arguments in
    let is = whole_text program section arguments in
    let opened : Has 40 first = has_one 40 (section_name program section) (values_text program.shape arguments) in
    let has : Has 40 whole = subst (Has 40) (sym is) (has_kept 40 first (41 ∷ []) opened) in
    let inside : behind 40 whole ≡ behind 40 first ++ 41 ∷ [] = ap (behind 40) is ∙ behind_kept 40 first (41 ∷ []) opened in
    let closed : Has 41 (behind 40 whole) = subst (Has 41) (sym inside) (has_one 41 (behind 40 first) []) in
    told_alike program (whole ++ more) whole (before_kept 40 whole more has)
    (ap (before 41) (behind_kept 40 whole more has) ∙ before_kept 41 (behind 40 whole) more closed)
