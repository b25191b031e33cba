-- Single tokens: the result of reading one is the longest token at its place, and there is no other.
use Rattle.std.proofs.Common.{◌≡◌, ℕ, Bool, true, false, cond, List, [], ◌∷◌, ◌++◌, length, Option, Some, None, Result}
use Rattle.std.proofs.Common.{Ok, Err, refl, sym, ap, ◌∙◌, subst, arith, append_assoc}
use Rattle.std.specs.Prelude.{not, nat_le}
use Rattle.std.specs.List.{list_all}
use Rattle.std.proofs.lemmas.Bool.Decides.{nat_tests}
use Rattle.std.proofs.lemmas.List.{append-nil}
use Rattle.std.proofs.lemmas.List.Folds.{list_all-append}
use Rattle.std.proofs.lemmas.Bool.{and_parts}
use Rattle.source.specs.declared.fault.Code.{Code}
use Rattle.source.specs.declared.fault.Code.TheVariants.{BadCharacter, NumberTooLarge, UnexpectedToken, LimitExceeded}
use Rattle.source.specs.declared.token.Keyword.{Keyword}
use Rattle.source.specs.declared.token.Sign.{Sign}
use Rattle.source.specs.Tokens.{Lexeme, name, int, word, mark}
use Rattle.source.specs.Texts.{is_letter, is_digit, is_name_byte, is_white, keyword_text, sign_text, value_of, IsUnit}
use Rattle.source.specs.Texts.{is_name, is_number, is_word, is_mark, IsLongest, IsWithin, NUMBER_LIMIT, NAME_LIMIT}
use Rattle.lexer.specs.Working.Reading.{run_of, after_run, keyword_of, single_of, double_of, within, word_or_name}
use Rattle.lexer.specs.Working.Reading.{word_at, number_at, sign_or, single_at, sign_at, unit_at}
use Rattle.lexer.proofs.Runs.{run_parts, run_all, run_stops, run_head}
use Rattle.lexer.proofs.Texts.{keyword_found, keyword_is, is_word_text, keyword_letters, sign_in, sign_again}
use Rattle.lexer.proofs.Texts.{is_sign_text, sign_bytes, single_is, double_is}

-- ---- bytes

letter_no_digit : (b : ℕ) → is_letter b ≡ true → is_digit b ≡ false
letter_no_digit b h = grind (arith, nat_tests)

digit_no_letter : (b : ℕ) → is_digit b ≡ true → is_letter b ≡ false
digit_no_letter b h = grind (arith, nat_tests)

letter_no_white : (b : ℕ) → is_letter b ≡ true → is_white b ≡ false
letter_no_white b h = grind (arith, nat_tests)

digit_no_white : (b : ℕ) → is_digit b ≡ true → is_white b ≡ false
digit_no_white b h = grind (arith, nat_tests)

letter_in_name : (b : ℕ) → is_letter b ≡ true → is_name_byte b ≡ true
letter_in_name b h = rw h refl

digit_in_name : (b : ℕ) → is_digit b ≡ true → is_name_byte b ≡ true
digit_in_name b h = rw (digit_no_letter b h, h) refl

not_true : (b : Bool) → not b ≡ true → b ≡ false
not_true true e = absurd cc
not_true false e = refl

-- ---- the kind of a unit, by its first byte

word_parts : (b : ℕ) (bs : List ℕ) (w : Keyword) → keyword_text w ≡ b ∷ bs →
    (is_letter b ≡ true) × (list_all is_name_byte bs ≡ true)
word_parts b bs w e = and_parts (is_letter b) (list_all is_name_byte bs) (ap is_word_text (sym e) ∙ keyword_letters w)

sign_parts : (b : ℕ) (bs : List ℕ) (s : Sign) → sign_text s ≡ b ∷ bs → (is_name_byte b ≡ false) × (is_white b ≡ false)
sign_parts b bs s e =
    let p = and_parts (not (is_name_byte b)) (not (is_white b)) (ap is_sign_text (sym e) ∙ sign_bytes s) in
    (not_true (is_name_byte b) p.0, not_true (is_white b) p.1)

-- a unit that begins with a letter has letters and digits alone
unit_named : {bytes : List ℕ} {k : Lexeme} → IsUnit bytes k → (b : ℕ) (bs : List ℕ) → bytes ≡ b ∷ bs →
    is_letter b ≡ true → list_all is_name_byte bytes ≡ true
unit_named (is_name {b = c} {bs = cs} letter all never) b bs e h = rw (letter_in_name c letter, all) refl
unit_named (is_number {b = c} {bs = cs} all) b bs e h =
    let p = and_parts (is_digit c) (list_all is_digit cs) all in
    let same : c ≡ b = cc in
    let d : is_digit b ≡ true = ap is_digit (sym same) ∙ p.0 in
    let n : is_digit b ≡ false = letter_no_digit b h in
    absurd cc
unit_named (is_word w) b bs e h = let p = word_parts b bs w e in ap (list_all is_name_byte) e ∙ rw (letter_in_name b h, p.1) refl
unit_named (is_mark s) b bs e h = let p = sign_parts b bs s e in let n : is_name_byte b ≡ true = letter_in_name b h in let q = p.0 in absurd cc

-- a unit that begins with a digit has digits alone
unit_digits : {bytes : List ℕ} {k : Lexeme} → IsUnit bytes k → (b : ℕ) (bs : List ℕ) → bytes ≡ b ∷ bs →
    is_digit b ≡ true → list_all is_digit bytes ≡ true
unit_digits (is_name {b = c} {bs = cs} letter all never) b bs e h =
    let same : c ≡ b = cc in
    let d : is_digit b ≡ false = ap is_digit (sym same) ∙ letter_no_digit c letter in
    absurd cc
unit_digits (is_number {b = c} {bs = cs} all) b bs e h = all
unit_digits (is_word w) b bs e h = let p = word_parts b bs w e in let d : is_letter b ≡ false = digit_no_letter b h in let q = p.0 in absurd cc
unit_digits (is_mark s) b bs e h = let p = sign_parts b bs s e in let n : is_name_byte b ≡ true = digit_in_name b h in let q = p.0 in absurd cc

-- a unit that begins with neither is a sign
unit_sign : {bytes : List ℕ} {k : Lexeme} → IsUnit bytes k → (b : ℕ) (bs : List ℕ) → bytes ≡ b ∷ bs →
    is_letter b ≡ false → is_digit b ≡ false → (s : Sign) × (bytes ≡ sign_text s)
unit_sign (is_name {b = c} {bs = cs} letter all never) b bs e h g =
    let same : c ≡ b = cc in
    let d : is_letter b ≡ true = ap is_letter (sym same) ∙ letter in
    absurd cc
unit_sign (is_number {b = c} {bs = cs} all) b bs e h g =
    let p = and_parts (is_digit c) (list_all is_digit cs) all in
    let same : c ≡ b = cc in
    let d : is_digit b ≡ true = ap is_digit (sym same) ∙ p.0 in
    absurd cc
unit_sign (is_word w) b bs e h g = let p = word_parts b bs w e in let q = p.0 in absurd cc
unit_sign (is_mark s) b bs e h g = (s, refl)

-- a unit has a first byte, which is not white space
pub record Begins (bytes : List ℕ) : Type 0 where
  pub first : ℕ
  pub more : List ℕ
  pub is : bytes ≡ first ∷ more
  pub no_white : is_white first ≡ false

word_begins : (bytes : List ℕ) → is_word_text bytes ≡ true → Begins bytes
word_begins [] e = absurd cc
word_begins (b ∷ bs) e = let p = and_parts (is_letter b) (list_all is_name_byte bs) e in record { first = b; more = bs; is = refl; no_white = letter_no_white b p.0 }

sign_begins : (bytes : List ℕ) → is_sign_text bytes ≡ true → Begins bytes
sign_begins [] e = absurd cc
sign_begins (b ∷ bs) e = let p = and_parts (not (is_name_byte b)) (not (is_white b)) e in record { first = b; more = bs; is = refl; no_white = not_true (is_white b) p.1 }

pub unit_begins : {bytes : List ℕ} {k : Lexeme} → IsUnit bytes k → Begins bytes
unit_begins (is_name {b = c} {bs = cs} letter all never) = record { first = c; more = cs; is = refl; no_white = letter_no_white c letter }
unit_begins (is_number {b = c} {bs = cs} all) = let p = and_parts (is_digit c) (list_all is_digit cs) all in record { first = c; more = cs; is = refl; no_white = digit_no_white c p.0 }
unit_begins (is_word w) = word_begins (keyword_text w) (keyword_letters w)
unit_begins (is_mark s) = sign_begins (sign_text s) (sign_bytes s)

-- ---- bytes are one token at most

abbrev word_kind : Option Keyword → List ℕ → Option Lexeme
word_kind (Some w) bs = Some (word w)
word_kind None bs = Some (name bs)

abbrev mark_kind : Option Sign → Option Lexeme
mark_kind (Some s) = Some (mark s)
mark_kind None = None

abbrev kind_of : List ℕ → Option Lexeme
kind_of [] = None
kind_of (b ∷ bs) = cond (is_letter b) (word_kind (keyword_of (b ∷ bs)) (b ∷ bs)) (cond (is_digit b) (Some (int (value_of (b ∷ bs)))) (mark_kind (sign_in (b ∷ bs))))

no_keyword : (bs : List ℕ) (o : Option Keyword) → keyword_of bs ≡ o → ((w : Keyword) → keyword_text w ≡ bs → ⊥) →
    o ≡ None
no_keyword bs (Some w) e h = absurd (h w (keyword_is w bs e))
no_keyword bs None e h = refl

word_again : (b : ℕ) (bs : List ℕ) (w : Keyword) → keyword_text w ≡ b ∷ bs → kind_of (b ∷ bs) ≡ Some (word w)
word_again b bs w e = rw ((word_parts b bs w e).0, keyword_found w (b ∷ bs) e) refl

mark_again : (b : ℕ) (bs : List ℕ) (s : Sign) → sign_text s ≡ b ∷ bs → kind_of (b ∷ bs) ≡ Some (mark s)
mark_again b bs s e =
    let h : is_name_byte b ≡ false = (sign_parts b bs s e).0 in
    let l : is_letter b ≡ false = grind (arith, nat_tests) in
    let d : is_digit b ≡ false = grind (arith, nat_tests) in
    let g : sign_in (b ∷ bs) ≡ Some s = subst (λ (t : List ℕ). sign_in t ≡ Some s) e (sign_again s) in
    rw (l, d) (ap mark_kind g)

kind_again : {bytes : List ℕ} {k : Lexeme} → IsUnit bytes k → kind_of bytes ≡ Some k
kind_again (is_name {b = c} {bs = cs} letter all never) = rw (letter, no_keyword (c ∷ cs) (keyword_of (c ∷ cs)) refl never) refl
kind_again (is_number {b = c} {bs = cs} all) = let p = and_parts (is_digit c) (list_all is_digit cs) all in rw (digit_no_letter c p.0, p.0) refl
kind_again (is_word w) = let b = unit_begins (is_word w) in ap kind_of b.is ∙ word_again b.first b.more w b.is
kind_again (is_mark s) = let b = unit_begins (is_mark s) in ap kind_of b.is ∙ mark_again b.first b.more s b.is

pub same_kind : (a b : List ℕ) (k l : Lexeme) → IsUnit a k → IsUnit b l → a ≡ b → k ≡ l
same_kind a b k l h g e = let p : kind_of a ≡ Some k = kind_again h in let q : kind_of b ≡ Some l = kind_again g in let r : kind_of a ≡ kind_of b = ap kind_of e in cc

-- ---- two units at one place, both longest, are one

-- the same for two tokens that share the bytes `before`
same_behind : (before a b r s : List ℕ) (k l : Lexeme) → a ++ r ≡ b ++ s → IsUnit (before ++ a) k →
    IsUnit (before ++ b) l → IsLongest (before ++ a) r → IsLongest (before ++ b) s → a ≡ b
same_behind before [] [] r s k l e u v m n = refl
same_behind before [] (c ∷ b) r s k l e u v m n = absurd (m c b s l e (subst (λ (t : List ℕ). IsUnit (t ++ c ∷ b) l) (sym (append-nil before)) v))
same_behind before (c ∷ a) [] r s k l e u v m n = absurd (n c a r k (sym e) (subst (λ (t : List ℕ). IsUnit (t ++ c ∷ a) k) (sym (append-nil before)) u))
same_behind before (c ∷ a) (d ∷ b) r s k l e u v m n =
    let same : d ≡ c = cc in
    let rest : a ++ r ≡ b ++ s = cc in
    let on : (x : List ℕ) → (before ++ c ∷ []) ++ x ≡ before ++ c ∷ x = λ x. append_assoc before (c ∷ []) x in
    let at : (x : List ℕ) → (before ++ c ∷ []) ++ x ≡ before ++ d ∷ x = λ x. on x ∙ ap (λ (z : ℕ). before ++ z ∷ x) (sym same) in
    let ih = same_behind (before ++ c ∷ []) a b r s k l rest (subst (λ (t : List ℕ). IsUnit t k) (sym (on a)) u) (subst (λ (t : List ℕ). IsUnit t l) (sym (at b)) v) (subst (λ (t : List ℕ). IsLongest t r) (sym (on a)) m) (subst (λ (t : List ℕ). IsLongest t s) (sym (at b)) n) in
    ap (λ (z : ℕ). z ∷ a) (sym same) ∙ ap (λ (z : List ℕ). d ∷ z) ih

pub same_unit : (a b r s : List ℕ) (k l : Lexeme) → a ++ r ≡ b ++ s → IsUnit a k → IsUnit b l → IsLongest a r →
    IsLongest b s → a ≡ b
same_unit a b r s k l e u v m n = same_behind [] a b r s k l e u v m n

-- ---- what reading answers

pub record Over (t : List ℕ) (k : Lexeme) : Type 0 where
  pub bytes : List ℕ
  pub rest : List ℕ
  pub parts : t ≡ bytes ++ rest
  pub unit : IsUnit bytes k
  pub longest : IsLongest bytes rest
  pub over : IsWithin k → ⊥

pub record Reads (t : List ℕ) (k : Lexeme) (rest : List ℕ) : Type 0 where
  pub bytes : List ℕ
  pub parts : t ≡ bytes ++ rest
  pub unit : IsUnit bytes k
  pub longest : IsLongest bytes rest
  pub small : IsWithin k

-- the code of the fault of a token that exceeds a limit
abbrev pub over_code : Lexeme → Code
over_code (int n) = NumberTooLarge
over_code (name x) = LimitExceeded
over_code _ = UnexpectedToken

-- why no token can be read
pub data Stuck (t : List ℕ) : Code → Type 0 where
  no_unit : ((bytes other : List ℕ) (k : Lexeme) → t ≡ bytes ++ other → IsUnit bytes k → ⊥) → Stuck t BadCharacter
  over_unit : {c : Code} (k : Lexeme) → Over t k → over_code k ≡ c → Stuck t c

abbrev pub UnitAt : List ℕ → Result (Lexeme × List ℕ) Code → Type 0
UnitAt t (Ok x) = Reads t x.0 x.1
UnitAt t (Err c) = Stuck t c

-- a run is longest where each unit that begins with it goes on by bytes that pass its test
run_longest : (p : ℕ → Bool) (t : List ℕ) →
    ((more : List ℕ) (k : Lexeme) → IsUnit (run_of p t ++ more) k → list_all p (run_of p t ++ more) ≡ true) →
    IsLongest (run_of p t) (after_run p t)
run_longest p t h = λ b more other k e u.
    let all = h (b ∷ more) k u in
    let parts = and_parts (list_all p (run_of p t)) (list_all p (b ∷ more)) (sym (list_all-append p (run_of p t) (b ∷ more)) ∙ all) in
    let first = and_parts (p b) (list_all p more) parts.1 in
    let stop : p b ≡ false = run_stops p t b (more ++ other) e in
    let go : p b ≡ true = first.0 in
    absurd cc

-- ---- names and keywords

module _ (b : ℕ) (bs : List ℕ) (h : is_letter b ≡ true) where
  abbrev name_run : List ℕ
  name_run = run_of is_name_byte (b ∷ bs)

  abbrev name_rest : List ℕ
  name_rest = after_run is_name_byte (b ∷ bs)

  name_more : List ℕ
  name_more = run_of is_name_byte bs

  name_head : name_run ≡ b ∷ run_of is_name_byte bs
  name_head = run_head is_name_byte b bs (letter_in_name b h)

  name_longest : IsLongest name_run name_rest
  name_longest = run_longest is_name_byte (b ∷ bs) (λ more k u. unit_named u b (run_of is_name_byte bs ++ more) (ap (λ (l : List ℕ). l ++ more) name_head) h)

  name_unit : ((w : Keyword) → keyword_text w ≡ name_run → ⊥) → IsUnit name_run (name name_run)
  name_unit never = subst (λ (l : List ℕ). IsUnit l (name l)) (sym name_head) (is_name h (run_all is_name_byte bs) (λ w e. never w (e ∙ sym name_head)))

  name_within : (t : Bool) → nat_le (length name_run) NAME_LIMIT ≡ t →
      ((w : Keyword) → keyword_text w ≡ name_run → ⊥) →
      UnitAt (b ∷ bs) (within t (name name_run) name_rest LimitExceeded)
  name_within true e never = record { bytes = name_run; parts = sym (run_parts is_name_byte (b ∷ bs)); unit = name_unit never; longest = name_longest; small = grind (arith, nat_tests) }
  name_within false e never = over_unit (name name_run) (record { bytes = name_run; rest = name_rest; parts = sym (run_parts is_name_byte (b ∷ bs)); unit = name_unit never; longest = name_longest; over = λ l. absurd (grind (arith, nat_tests)) }) refl

  word_turn : (o : Option Keyword) → keyword_of name_run ≡ o → UnitAt (b ∷ bs) (word_or_name o name_run name_rest)
  word_turn (Some w) e = record { bytes = name_run; parts = sym (run_parts is_name_byte (b ∷ bs)); unit = subst (λ (l : List ℕ). IsUnit l (word w)) (keyword_is w name_run e) (is_word w); longest = name_longest; small = tt }
  word_turn None e = name_within (nat_le (length name_run) NAME_LIMIT) refl (λ w g. let f = keyword_found w name_run g in absurd cc)

  word_law : UnitAt (b ∷ bs) (word_at (b ∷ bs))
  word_law = word_turn (keyword_of name_run) refl

-- ---- numbers

module _ (b : ℕ) (bs : List ℕ) (h : is_digit b ≡ true) where
  abbrev digits : List ℕ
  digits = run_of is_digit (b ∷ bs)

  abbrev digits_rest : List ℕ
  digits_rest = after_run is_digit (b ∷ bs)

  digits_head : digits ≡ b ∷ run_of is_digit bs
  digits_head = run_head is_digit b bs h

  digits_longest : IsLongest digits digits_rest
  digits_longest = run_longest is_digit (b ∷ bs) (λ more k u. unit_digits u b (run_of is_digit bs ++ more) (ap (λ (l : List ℕ). l ++ more) digits_head) h)

  digits_unit : IsUnit digits (int (value_of digits))
  digits_unit = subst (λ (l : List ℕ). IsUnit l (int (value_of l))) (sym digits_head) (is_number (ap (list_all is_digit) (sym digits_head) ∙ run_all is_digit (b ∷ bs)))

  digits_turn : (t : Bool) → nat_le (value_of digits) NUMBER_LIMIT ≡ t →
      UnitAt (b ∷ bs) (within t (int (value_of digits)) digits_rest NumberTooLarge)
  digits_turn true e = record { bytes = digits; parts = sym (run_parts is_digit (b ∷ bs)); unit = digits_unit; longest = digits_longest; small = grind (arith, nat_tests) }
  digits_turn false e = over_unit (int (value_of digits)) (record { bytes = digits; rest = digits_rest; parts = sym (run_parts is_digit (b ∷ bs)); unit = digits_unit; longest = digits_longest; over = λ l. absurd (grind (arith, nat_tests)) }) refl

  number_law : UnitAt (b ∷ bs) (number_at (b ∷ bs))
  number_law = digits_turn (nat_le (value_of digits) NUMBER_LIMIT) refl

-- ---- signs

module _ (a : ℕ) (letter : is_letter a ≡ false) (digit : is_digit a ≡ false) where
  -- a unit that begins here is one of the signs by their texts
  sign_unit : (bytes more : List ℕ) (k : Lexeme) → IsUnit bytes k → bytes ≡ a ∷ more →
      (s : Sign) × (sign_in (a ∷ more) ≡ Some s)
  sign_unit bytes more k u e =
      let p = unit_sign u a more e letter digit in
      (p.0, subst (λ (t : List ℕ). sign_in t ≡ Some p.0) (sym p.1 ∙ e) (sign_again p.0))

  no_single : (bs : List ℕ) → single_of a ≡ None → ((b : ℕ) (rest : List ℕ) → bs ≡ b ∷ rest → double_of a b ≡ None) →
      UnitAt (a ∷ bs) (Err BadCharacter)
  no_single bs none never = no_unit (λ bytes other k e u. let s = unit_begins u in
      let h = s.is in
      let same : s.first ≡ a = let q : a ∷ bs ≡ s.first ∷ (s.more ++ other) = e ∙ ap (λ (l : List ℕ). l ++ other) h in cc in
      let behind : bs ≡ s.more ++ other = let q : a ∷ bs ≡ s.first ∷ (s.more ++ other) = e ∙ ap (λ (l : List ℕ). l ++ other) h in cc in
      by_more s.more other behind (sign_unit bytes s.more k u (h ∙ ap (λ (c : ℕ). c ∷ s.more) same)))
    where
      by_more : (more other : List ℕ) → bs ≡ more ++ other → (s : Sign) × (sign_in (a ∷ more) ≡ Some s) → ⊥
      by_more [] other e g = let p = g.1 in absurd cc
      by_more (b ∷ []) other e g = let p = g.1 in let q : double_of a b ≡ None = never b other e in absurd cc
      by_more (b ∷ c ∷ more) other e g = let p = g.1 in absurd cc

  single_longest : (bs : List ℕ) → ((b : ℕ) (rest : List ℕ) → bs ≡ b ∷ rest → double_of a b ≡ None) →
      IsLongest (a ∷ []) bs
  single_longest bs never = λ b more other k e u. by_more b more other e (sign_unit (a ∷ b ∷ more) (b ∷ more) k u refl)
    where
      by_more : (b : ℕ) (more other : List ℕ) → bs ≡ (b ∷ more) ++ other →
          (s : Sign) × (sign_in (a ∷ b ∷ more) ≡ Some s) → ⊥
      by_more b [] other e g = let p = g.1 in let q : double_of a b ≡ None = never b other e in absurd cc
      by_more b (c ∷ more) other e g = let p = g.1 in absurd cc

  single_turn : (bs : List ℕ) (o : Option Sign) → single_of a ≡ o →
      ((b : ℕ) (rest : List ℕ) → bs ≡ b ∷ rest → double_of a b ≡ None) →
      UnitAt (a ∷ bs) (sign_or o bs (Err BadCharacter))
  single_turn bs (Some s) e never = record { bytes = a ∷ []; parts = refl; unit = subst (λ (l : List ℕ). IsUnit l (mark s)) (single_is a s e) (is_mark s); longest = single_longest bs never; small = tt }
  single_turn bs None e never = no_single bs e never

  double_longest : (b : ℕ) (rest : List ℕ) → IsLongest (a ∷ b ∷ []) rest
  double_longest b rest = λ c more other k e u. let g = sign_unit (a ∷ b ∷ c ∷ more) (b ∷ c ∷ more) k u refl in let p = g.1 in absurd cc

  double_turn : (b : ℕ) (rest : List ℕ) (o : Option Sign) → double_of a b ≡ o →
      UnitAt (a ∷ b ∷ rest) (sign_or o rest (single_at a (b ∷ rest)))
  double_turn b rest (Some s) e = record { bytes = a ∷ b ∷ []; parts = refl; unit = subst (λ (l : List ℕ). IsUnit l (mark s)) (double_is a b s e) (is_mark s); longest = double_longest b rest; small = tt }
  double_turn b rest None e = single_turn (b ∷ rest) (single_of a) refl (λ c more h. let same : b ≡ c = cc in ap (double_of a) (sym same) ∙ e)

  sign_law : (bs : List ℕ) → UnitAt (a ∷ bs) (sign_at a bs)
  sign_law [] = single_turn [] (single_of a) refl (λ b rest e. absurd cc)
  sign_law (b ∷ rest) = double_turn b rest (double_of a b) refl

-- ---- all

digit_turn : (b : ℕ) (bs : List ℕ) (t : Bool) → is_digit b ≡ t → is_letter b ≡ false →
    UnitAt (b ∷ bs) (cond t (number_at (b ∷ bs)) (sign_at b bs))
digit_turn b bs true e h = number_law b bs e
digit_turn b bs false e h = sign_law b h e bs

letter_turn : (b : ℕ) (bs : List ℕ) (t : Bool) → is_letter b ≡ t →
    UnitAt (b ∷ bs) (cond t (word_at (b ∷ bs)) (cond (is_digit b) (number_at (b ∷ bs)) (sign_at b bs)))
letter_turn b bs true e = word_law b bs e
letter_turn b bs false e = digit_turn b bs (is_digit b) refl e

pub unit_law : (t : List ℕ) → UnitAt t (unit_at t)
unfolding unit_at
unit_law [] = no_unit (λ bytes other k e u. let b = unit_begins u in let q : [] ≡ b.first ∷ (b.more ++ other) = e ∙ ap (λ (l : List ℕ). l ++ other) b.is in absurd cc)
unit_law (b ∷ bs) = letter_turn b bs (is_letter b) refl
