-- In a program with plain names, the text of a call determines the call.
use Rattle.std.proofs.Common.{◌≡◌, ◌∙◌, ◌<◌, ◌≤◌, ◌+◌, ◌-◌, ◌^◌, ℕ, ℤ, zero, suc, pos, negsuc, Bool, true, false, List, [], ◌∷◌, ◌++◌}
use Rattle.std.proofs.Common.{length, take, drop, get_or, map, slice_get, Option, Some, None, arith, sym, ap, refl, subst, string_bytes, inl, inr}
use Rattle.std.proofs.Common.{append_assoc, append-nil, length-append}
use Rattle.std.specs.Prelude.{codes, ◌==◌, ◌||◌, not, ◌/◌, ◌%◌, ◌*◌}
use Rattle.std.specs.Fmt.{decimal, signed_decimal}
use Rattle.std.specs.List.{flat_map, list_all, position_or_len, slice_split}
use Rattle.std.specs.Str.{bytes_eq}
use Rattle.std.proofs.lemmas.Bool.Decides.{nat_tests}
use Rattle.std.proofs.Math.Bool.{or-true}
use Rattle.std.proofs.lemmas.Fmt.{decimal_nonempty, decimal_step, first_decimal}
use Rattle.std.proofs.lemmas.List.Sums.{fold-append}
use Rattle.std.proofs.lemmas.Option.{slice_get_within}
use Rattle.std.specs.Prelude.{option_and_then}
use Rattle.std.specs.Option.{option_map, option_map_or}
use Rattle.std.proofs.lemmas.Bool.{and_parts, cases_lt, eq-eqb, ne_eqb, false≢true, lt-ltb, ltb-true, le-leb}
use Rattle.std.proofs.lemmas.List.{take_at, drop_at}
use Rattle.std.proofs.lemmas.List.Folds.{list_all-append, prefix_len-append}
use Rattle.std.proofs.lemmas.Slice.Eq.{bytes_eq-Decides}
use Rattle.core_lang.specs.declared.value.Value.{Value}
use Rattle.core_lang.specs.declared.value.Value.TheVariants.{Int, Ref}
use Rattle.core_lang.specs.declared.shape.Pool.{Pool}
use Rattle.core_lang.specs.declared.shape.Object.{Object}
use Rattle.core_lang.specs.declared.shape.Shape.{Shape}
use Rattle.core_lang.specs.declared.value.ValueType.{ValueType}
use Rattle.core_lang.specs.declared.value.ValueType.TheVariants.{Integer, Reference}
use Rattle.core_lang.specs.Serial.{Invocation}
use Rattle.core_lang.specs.Theory.Items.{if_some, lookup_some, map_at, map_back, some_same}
use Rattle.core_lang.specs.declared.tree.Section.{Section}
use Rattle.core_lang.specs.declared.typed.Typed.{Typed}
use Rattle.core_lang.specs.Arithmetic.{fits}
use Rattle.core_lang.specs.Typing.{Fit, HasType, HaveTypes, lookup, struct_of}
use Rattle.core_lang.specs.WellFormed.{IsChecked, CanCall}
use Rattle.source.specs.Texts.{is_digit, is_letter, is_name_byte, value_of}
use Rattle.input_files.specs.Pieces.{before, behind, count_in, is_count, is_name, is_numeral, number_in}
use Rattle.input_files.specs.Theory.Counts.{count_in-decimal}
use Rattle.report.specs.Pieces.{index_text, invocation_text, object_text, pool_of, section_name, value_text, values_text}
use Rattle.replay.specs.Told.{and_values, arguments_in, first_named, invocation_in, member_of, number_or, object_in, pool_named}
use Rattle.replay.specs.Told.{reference_in, section_named, unspaced, value_in, values_in}
use Rattle.replay.specs.Working.Laws.{HasBits, HasPlainNames, HaveBits, PlainCallsAreTold}
use Rattle.replay.proofs.Cutting.{whole_text}
use Rattle.replay.proofs.Members.{comma, some_text, split_last, split_more}

-- ---- bytes

letter_digit : (b : ℕ) → is_letter b ≡ true → is_digit b ≡ false
letter_digit b is = grind (arith, nat_tests)

some_digits : (z : ℤ) → fits z ≡ true → 0 < length (signed_decimal z)
some_digits (pos n) fit = decimal_nonempty n (let small = ltb-true n (2 ^ 63) fit in omega (arith, small))
some_digits (negsuc n) fit = omega arith

-- ---- texts without a byte

abbrev pub Free : ℕ → List ℕ → Type 0
Free byte text = position_or_len (λ b. b == byte) text ≡ length text

free_all : (test : ℕ → Bool) (byte : ℕ) (xs : List ℕ) → list_all test xs ≡ true → test byte ≡ false → Free byte xs
free_all test byte [] all none = refl
free_all test byte (x ∷ xs) all none =
    let parts = and_parts _ _ all in
    let rest = free_all test byte xs parts.1 none in
    let apart = ne_eqb x byte (λ same. false≢true (sym none ∙ ap test (sym same) ∙ parts.0)) in
    rw apart (omega (arith, rest))

module _ (byte : ℕ) (xs ys : List ℕ) (free : Free byte xs) where
  place_behind : position_or_len (λ b. b == byte) (xs ++ ys) ≡ length xs + position_or_len (λ b. b == byte) ys
  place_behind =
      let same = eq-eqb (position_or_len (λ b. b == byte) xs) (length xs) free in
      prefix_len-append (λ b. not (b == byte)) xs ys ∙ rw same refl

  free_append : Free byte ys → Free byte (xs ++ ys)
  free_append more = let here = place_behind in let long = length-append xs ys in omega (arith, here, more, long)

module _ (byte : ℕ) (xs ys : List ℕ) (free : Free byte xs) where
  place_at : position_or_len (λ b. b == byte) (xs ++ byte ∷ ys) ≡ length xs
  place_at =
      let here = place_behind byte xs (byte ∷ ys) free in
      let same = eq-eqb byte byte refl in
      here ∙ rw same (omega arith)

  before_at : before byte (xs ++ byte ∷ ys) ≡ xs
  before_at = ap (λ n. take n (xs ++ byte ∷ ys)) place_at ∙ take_at xs (byte ∷ ys) (length xs) refl

  behind_at : behind byte (xs ++ byte ∷ ys) ≡ ys
  behind_at =
      let long = length-append xs (byte ∷ []) in
      ap (λ n. drop (n + 1) (xs ++ byte ∷ ys)) place_at
      ∙ ap (drop (length xs + 1)) (sym (append_assoc xs (byte ∷ []) ys))
      ∙ drop_at (xs ++ byte ∷ []) ys (length xs + 1) (omega (arith, long))

-- ---- names

name_bytes : (name : List ℕ) → is_name name ≡ true → list_all is_name_byte name ≡ true
name_bytes [] is = absurd (false≢true is)
name_bytes (first ∷ rest) is =
    let parts = and_parts _ _ is in
    let letter : is_letter first ≡ true = parts.0 in
    let byte : is_name_byte first ≡ true = rw letter refl in
    let more : list_all is_name_byte rest ≡ true = (and_parts _ _ parts.1).0 in
    rw (byte, more) refl

-- the first name of a list is at its index, if no other index has it
first_is : (names : List (List ℕ)) (from k : ℕ) (name : List ℕ) → slice_get names k ≡ Some name →
    ((j : ℕ) → slice_get names j ≡ Some name → j ≡ k) → first_named from names name ≡ Some (from + k)
first_is [] from k name here one = absurd (cc)
first_is (x ∷ names) from zero name here one =
    let same : x ≡ name = cc in
    let test = (bytes_eq-Decides x name).1 same in
    rw test (ap Some (omega arith))
first_is (x ∷ names) from (suc k) name here one =
    let apart : bytes_eq x name ≡ true → ⊥ = λ so.
    let same = (bytes_eq-Decides x name).0 so in
    let zero_is = one 0 (ap Some same) in absurd (omega (arith, zero_is)) in
    let rest = first_is names (from + 1) k name here (λ j at. let next = one (suc j) at in omega (arith, next)) in
    let place : (from + 1) + k ≡ from + suc k = omega arith in
    with_test (bytes_eq x name) refl apart (rest ∙ ap Some place)
  where
    with_test : (test : Bool) → bytes_eq x name ≡ test → (bytes_eq x name ≡ true → ⊥) → first_named (from + 1) names name ≡ Some (from + suc k) →
        first_named from (x ∷ names) name ≡ Some (from + suc k)
    with_test true is apart rest = absurd (apart is)
    with_test false is apart rest = rw is rest

first_zero : (names : List (List ℕ)) (k : ℕ) (name : List ℕ) → slice_get names k ≡ Some name →
    ((j : ℕ) → slice_get names j ≡ Some name → j ≡ k) → first_named 0 names name ≡ Some k
first_zero names k name here one = first_is names 0 k name here one ∙ ap Some (omega arith)

-- ---- numbers

digits_of : (n : ℕ) → n < 2 ^ 63 → (is_count (decimal n) ≡ true) × (value_of (decimal n) ≡ n)
digits_of n small =
    let e = if_some (is_count (decimal n)) (Some (value_of (decimal n))) n (count_in-decimal n small) in
    (e.0, some_same _ _ e.1)

numeral_digits : (ds : List ℕ) → is_numeral ds ≡ true → list_all is_digit ds ≡ true
numeral_digits [] is = absurd (false≢true is)
numeral_digits (d ∷ ds) is = (and_parts _ _ is).0

-- a number and one digit more
one_more : (n : ℕ) → 10 ≤ n → n ≤ 2 ^ 63 → (list_all is_digit (decimal n) ≡ true) × (value_of (decimal n) ≡ n)
one_more n least most =
    let front = digits_of (n / 10) (omega (arith, most)) in
    let digits = numeral_digits (decimal (n / 10)) (and_parts _ _ front.0).0 in
    let value = front.1 in
    let step : decimal n ≡ decimal (n / 10) ++ (48 + n % 10) ∷ [] = decimal_step n least (omega (arith, most)) in
    let digit : is_digit (48 + n % 10) ≡ true = grind (arith, nat_tests) in (
      ap (list_all is_digit) step ∙ list_all-append is_digit (decimal (n / 10)) ((48 + n % 10) ∷ []) ∙ rw (digits, digit) refl,
      ap value_of step ∙ fold-append (λ (m b : ℕ). m * 10 + (b - 48)) 0 (decimal (n / 10)) ((48 + n % 10) ∷ []) ∙ omega (arith, value),
    )

decimal_digits : (n : ℕ) → n ≤ 2 ^ 63 → list_all is_digit (decimal n) ≡ true
decimal_digits n most = elim (cases_lt n (2 ^ 63)) [
  | inl less ↦ numeral_digits (decimal n) (and_parts _ _ (digits_of n less).0).0
  | inr past ↦ (one_more n (omega (arith, past)) most).0
]

decimal_value : (n : ℕ) → n ≤ 2 ^ 63 → value_of (decimal n) ≡ n
decimal_value n most = elim (cases_lt n (2 ^ 63)) [
  | inl less ↦ (digits_of n less).1
  | inr past ↦ (one_more n (omega (arith, past)) most).1
]

-- digits that do not begin with 0 are a numeral
leading : (ds : List ℕ) → list_all is_digit ds ≡ true → 48 < get_or ds 0 0 → is_numeral ds ≡ true
leading [] all lead = absurd (omega (arith, lead))
leading (d ∷ ds) all lead =
    let apart = ne_eqb d 48 (λ same. absurd (omega (arith, same, lead))) in
    rw (all, apart) (or-true (length ds == 0))

counted : (ds : List ℕ) → is_count ds ≡ true → number_in ds ≡ Some (pos (value_of ds))
counted [] is = absurd (false≢true is)
counted (d ∷ ds) is =
    let digit = (and_parts _ _ (numeral_digits (d ∷ ds) (and_parts _ _ is).0)).0 in
    let none : is_digit 45 ≡ false = refl in
    let apart = ne_eqb d 45 (λ same. false≢true (sym none ∙ ap is_digit (sym same) ∙ digit)) in
    rw (apart, is) refl

pub number_told : (z : ℤ) → fits z ≡ true → number_in (signed_decimal z) ≡ Some z
number_told (pos n) fit =
    let is = digits_of n (ltb-true n (2 ^ 63) fit) in
    counted (decimal n) is.0 ∙ ap (λ v. Some (pos v)) is.1
number_told (negsuc n) fit =
    let small = ltb-true n (2 ^ 63) fit in
    let numeral = leading (decimal (suc n)) (decimal_digits (suc n) (omega (arith, small))) (first_decimal (suc n) (omega arith) (omega (arith, small))) in
    let value = decimal_value (suc n) (omega (arith, small)) in
    let some = lt-ltb 0 (suc n) (omega arith) in
    let most = le-leb (suc n) (2 ^ 63) (omega (arith, small)) in
    let less : suc n - 1 ≡ n = omega arith in
    rw (numeral, value, some, most) (ap (λ m. Some (negsuc m)) less)

-- ---- the bytes of values

-- the bytes of values: letters, digits and a few signs
abbrev pub is_plain : ℕ → Bool
is_plain b = is_name_byte b || ((b == 45) || ((b == 91) || (b == 93)))

all_of : (f g : ℕ → Bool) → ((b : ℕ) → f b ≡ true → g b ≡ true) → (xs : List ℕ) → list_all f xs ≡ true → list_all g xs ≡ true
all_of f g more [] all = refl
all_of f g more (x ∷ xs) all =
    let parts = and_parts _ _ all in
    let here = more x parts.0 in
    let rest = all_of f g more xs parts.1 in
    rw (here, rest) refl

plain_name : (b : ℕ) → is_name_byte b ≡ true → is_plain b ≡ true
plain_name b is = rw is refl

plain_digit : (b : ℕ) → is_digit b ≡ true → is_plain b ≡ true
plain_digit b is = plain_name b (rw is (or-true (is_letter b)))

unspaced_plain : (xs : List ℕ) → list_all is_plain xs ≡ true → unspaced xs ≡ xs
unspaced_plain [] all = refl
unspaced_plain (x ∷ xs) all =
    let none : is_plain 32 ≡ false = refl in
    let apart = ne_eqb x 32 (λ same. false≢true (sym none ∙ ap is_plain (sym same) ∙ (and_parts _ _ all).0)) in
    rw apart refl

plain_number : (z : ℤ) → fits z ≡ true → list_all is_plain (signed_decimal z) ≡ true
plain_number (pos n) fit =
    let small = ltb-true n (2 ^ 63) fit in
    all_of is_digit is_plain plain_digit (decimal n) (decimal_digits n (omega (arith, small)))
plain_number (negsuc n) fit =
    let small = ltb-true n (2 ^ 63) fit in
    all_of is_digit is_plain plain_digit (decimal (suc n)) (decimal_digits (suc n) (omega (arith, small)))

-- ---- members of pools

-- the text of a member
abbrev member_text : List ℕ → ℕ → List ℕ
member_text name index = name ++ 91 ∷ (decimal index ++ 93 ∷ [])

letter_number : (d : ℕ) (ds : List ℕ) → is_letter d ≡ true → number_in (d ∷ ds) ≡ None
letter_number d ds is =
    let none : is_letter 45 ≡ false = refl in
    let apart = ne_eqb d 45 (λ same. false≢true (sym none ∙ ap is_letter (sym same) ∙ is)) in
    let digit : is_digit d ≡ false = letter_digit d is in
    rw (apart, digit) refl

module _ (name : List ℕ) (named : is_name name ≡ true) (index : ℕ) (small : index < 2 ^ 63) where
  free_name : (byte : ℕ) → is_name_byte byte ≡ false → Free byte name
  free_name byte none = free_all is_name_byte byte name (name_bytes name named) none

  free_index : Free 93 (decimal index)
  free_index = free_all is_digit 93 (decimal index) (decimal_digits index (omega (arith, small))) refl

  plain_member : list_all is_plain (member_text name index) ≡ true
  plain_member =
      let first = all_of is_name_byte is_plain plain_name name (name_bytes name named) in
      let more = all_of is_digit is_plain plain_digit (decimal index) (decimal_digits index (omega (arith, small))) in
      list_all-append is_plain name (91 ∷ (decimal index ++ 93 ∷ []))
      ∙ rw first (list_all-append is_plain (decimal index) (93 ∷ []) ∙ rw more refl)

  no_number : number_in (member_text name index) ≡ None
  no_number = of_first name named refl
    where
      of_first : (text : List ℕ) → is_name text ≡ true → text ≡ name → number_in (member_text name index) ≡ None
      of_first [] is same = absurd (false≢true is)
      of_first (d ∷ ds) is same =
          subst (λ (n : List ℕ). number_in (member_text n index) ≡ None) same
          (letter_number d (ds ++ 91 ∷ (decimal index ++ 93 ∷ [])) (and_parts _ _ is).0)

  no_null : bytes_eq (member_text name index) (codes "null") ≡ false
  no_null = with_test (bytes_eq (member_text name index) (codes "null")) refl
    where
      has : position_or_len (λ b. b == 91) (member_text name index) ≡ length name
      has = place_at 91 name (decimal index ++ 93 ∷ []) (free_name 91 refl)

      with_test : (test : Bool) → bytes_eq (member_text name index) (codes "null") ≡ test →
          bytes_eq (member_text name index) (codes "null") ≡ false
      with_test false is = is
      with_test true is =
          let same = (bytes_eq-Decides (member_text name index) (codes "null")).0 is in
          let place : position_or_len (λ b. b == 91) (codes "null") ≡ length name = subst (λ (t : List ℕ). position_or_len (λ b. b == 91) t ≡ length name) same has in
          let long : length (member_text name index) ≡ 4 = ap length same in
          let parts = length-append name (91 ∷ (decimal index ++ 93 ∷ [])) in
          let four : position_or_len (λ b. b == 91) (codes "null") ≡ 4 = refl in
          absurd (omega (arith, place, four, long, parts))

  member_before : before 91 (member_text name index) ≡ name
  member_before = before_at 91 name (decimal index ++ 93 ∷ []) (free_name 91 refl)

  member_index : count_in (before 93 (behind 91 (member_text name index))) ≡ Some index
  member_index =
      ap (λ (t : List ℕ). count_in (before 93 t)) (behind_at 91 name (decimal index ++ 93 ∷ []) (free_name 91 refl))
      ∙ ap count_in (before_at 93 (decimal index) [] free_index) ∙ count_in-decimal index small

-- ---- values

-- the value that a text stands for is read back from it
pub record IsValueTold (shape : Shape) (value : Value) : Type 0 where
  pub told : value_in shape (value_text shape value) ≡ Some value
  pub plain : list_all is_plain (value_text shape value) ≡ true
  pub some : 0 < length (value_text shape value)

module _ (program : Typed) (well : IsChecked program) (plain : HasPlainNames program) where
  abbrev shape : Shape
  shape = program.shape

  pool_first : (p : ℕ) (pool : Pool) → slice_get shape.pools.items p ≡ Some pool → pool_named shape (string_bytes pool.name) ≡ Some pool
  pool_first p pool here =
      let names = map (λ (x : Pool). string_bytes x.name) shape.pools.items in
      let first = first_zero names p (string_bytes pool.name) (map_at (λ (x : Pool). string_bytes x.name) shape.pools.items p pool here)
      (λ j at. let other = map_back (λ (x : Pool). string_bytes x.name) shape.pools.items j (string_bytes pool.name) at in
      plain.pools_apart j p other.0 pool other.1 here other.2) in
      ap (λ found. lookup found (slice_get shape.pools.items)) first ∙ here

  section_first : (k : ℕ) (section : Section) → slice_get program.sections.items k ≡ Some section →
      section_named program (string_bytes section.name) ≡ Some k
  section_first k section here =
      first_zero (map (λ (x : Section). string_bytes x.name) program.sections.items) k (string_bytes section.name)
      (map_at (λ (x : Section). string_bytes x.name) program.sections.items k section here)
      (λ j at. let other = map_back (λ (x : Section). string_bytes x.name) program.sections.items j (string_bytes section.name) at in
      plain.sections_apart j k other.0 section other.1 here other.2)

  object_told : (o s : ℕ) → struct_of shape o ≡ Some s → IsValueTold shape (Ref (Some o))
  object_told o s of =
      let found = lookup_some (slice_get shape.objects.items o) _ s of in
      let member = well.laid_out.object o found.0 found.1 in
      let pool = member.0 in
      let here = member.1 in
      let least = member.2 in
      let most = member.3 in
      let index = o - pool.first in
      let within = slice_get_within shape.objects.items o found.0 found.1 in
      let few = well.within.objects in
      let name = string_bytes pool.name in
      let named = plain.pools found.0.pool pool here in
      let small : index < 2 ^ 63 = omega (arith, within, few) in
      let of_pool : pool_of shape o ≡ Some pool = ap (λ (x : Option Object). option_and_then (λ (ob : Object). slice_get shape.pools.items ob.pool) x) found.1 ∙ here in
      let text : object_text shape o ≡ member_text name index =
      ap (λ (x : Option Pool). option_map_or (λ (p : Pool). string_bytes p.name ++ index_text (o - p.first)) x []) of_pool in
      let whole : pool.first + index ≡ o = omega (arith, least) in
      let object : object_in shape (member_text name index) ≡ Some o =
      ap (λ found. lookup found (λ (p : Pool). lookup (count_in (before 93 (behind 91 (member_text name index)))) (member_of p)))
      (ap (pool_named shape) (member_before name named index small) ∙ pool_first found.0.pool pool here)
      ∙ ap (λ i. lookup i (member_of pool)) (member_index name named index small)
      ∙ rw (lt-ltb index pool.length (omega (arith, least, most))) (ap Some whole) in
      record {
        told = ap (value_in shape) text
            ∙ ap (λ n. number_or n (reference_in shape (member_text name index))) (no_number name named index small)
            ∙ rw (no_null name named index small) (ap (option_map (λ object. Ref (Some object))) object);
        plain = ap (list_all is_plain) text ∙ plain_member name named index small;
        some = subst (λ (t : List ℕ). 0 < length t) (sym text) (let long = length-append name (91 ∷ (decimal index ++ 93 ∷ [])) in omega (arith, long));
      }

  pub value_told : (t : ValueType) (value : Value) → HasType shape t value → HasBits value → IsValueTold shape value
  value_told t (Int number) has bits = record {
    told = ap (λ n. number_or n (reference_in shape (signed_decimal number))) (number_told number bits);
    plain = plain_number number bits;
    some = some_digits number bits;
  }
  value_told Integer (Ref r) has bits = absurd has
  value_told (Reference s) (Ref None) has bits = record { told = refl; plain = refl; some = omega arith }
  value_told (Reference s) (Ref (Some o)) has bits = object_told o s has

  -- ---- arguments

  abbrev told_all : List Value → Type 0
  told_all values = (k : ℕ) (v : Value) → slice_get values k ≡ Some v → IsValueTold shape v

  -- what follows the first value
  abbrev tail : List Value → List ℕ
  tail values = flat_map (λ value. codes ", " ++ value_text shape value) values

  abbrev spaced : Value → List ℕ
  spaced value = 32 ∷ value_text shape value

  plain_free : (xs : List ℕ) → list_all is_plain xs ≡ true → Free 44 xs
  plain_free xs all = free_all is_plain 44 xs all refl

  spaced_free : (v : Value) → IsValueTold shape v → Free 44 (spaced v)
  spaced_free v told = let h = plain_free (value_text shape v) told.plain in omega (arith, h)

  split_tail : (first : List ℕ) (values : List Value) → Free 44 first → told_all values →
      slice_split comma (first ++ tail values) ≡ first ∷ map spaced values
  split_tail first [] free all =
      ap (slice_split comma) (append-nil first) ∙ split_last shape first (length first) (sym free) (omega arith)
  split_tail first (v ∷ values) free all =
      let rest = spaced v ++ tail values in
      let place = place_at 44 first rest free in
      let long = length-append first (44 ∷ rest) in
      split_more shape (first ++ 44 ∷ rest) (length first) (sym place) (omega (arith, long))
      ∙ ap (λ xs. xs ∷ slice_split comma (drop (length first + 1) (first ++ 44 ∷ rest))) (take_at first (44 ∷ rest) (length first) refl)
      ∙ ap (λ xs. first ∷ slice_split comma xs) (ap (drop (length first + 1)) (sym (append_assoc first (44 ∷ []) rest))
      ∙ drop_at (first ++ 44 ∷ []) rest (length first + 1) (let l = length-append first (44 ∷ []) in omega (arith, l)))
      ∙ ap (λ xs. first ∷ xs) (split_tail (spaced v) values (spaced_free v (all 0 v refl)) (λ k w is. all (suc k) w is))

  rest_told : (values : List Value) → told_all values → values_in shape (map spaced values) ≡ Some values
  rest_told [] all = refl
  rest_told (v ∷ values) all =
      ap (λ x. lookup x (λ value. and_values value (values_in shape (map spaced values)))) (all 0 v refl).told
      ∙ ap (and_values v) (rest_told values (λ k w is. all (suc k) w is))

  arguments_told : (values : List Value) → told_all values → arguments_in shape (values_text shape values) ≡ Some values
  arguments_told [] all = refl
  arguments_told (v ∷ values) all =
      let first = value_text shape v in
      let told = all 0 v refl in
      let rest : told_all values = λ k w is. all (suc k) w is in
      let long = length-append first (tail values) in
      let some = told.some in
      let apart = ne_eqb (length (first ++ tail values)) 0 (λ none. absurd (omega (arith, none, long, some))) in
      some_text shape (first ++ tail values) apart
      ∙ ap (values_in shape) (split_tail first values (plain_free first told.plain) rest)
      ∙ ap (λ x. lookup x (λ value. and_values value (values_in shape (map spaced values))))
      (ap (value_in shape) (unspaced_plain first told.plain) ∙ told.told)
      ∙ ap (and_values v) (rest_told values rest)

  tail_free : (values : List Value) → told_all values → Free 41 (tail values)
  tail_free [] all = refl
  tail_free (v ∷ values) all =
      let here = free_all is_plain 41 (value_text shape v) (all 0 v refl).plain refl in
      let more = free_append 41 (value_text shape v) (tail values) here (tail_free values (λ k w is. all (suc k) w is)) in
      omega (arith, more)

  values_free : (values : List Value) → told_all values → Free 41 (values_text shape values)
  values_free [] all = refl
  values_free (v ∷ values) all =
      free_append 41 (value_text shape v) (tail values) (free_all is_plain 41 (value_text shape v) (all 0 v refl).plain refl)
      (tail_free values (λ k w is. all (suc k) w is))

  -- ---- calls

  types_told : (types : List ValueType) (values : List Value) → HaveTypes shape types values → HaveBits values → told_all values
  types_told [] [] have bits k v is = absurd (cc)
  types_told [] (w ∷ values) have bits k v is = absurd have
  types_told (t ∷ types) [] have bits k v is = absurd have
  types_told (t ∷ types) (w ∷ values) have bits zero v is =
      let same : w ≡ v = cc in subst (IsValueTold shape) same (value_told t w have.0 (bits 0 w refl))
  types_told (t ∷ types) (w ∷ values) have bits (suc k) v is =
      types_told types values have.1 (λ j d at. bits (suc j) d at) k v is

  can_call : (section : ℕ) (arguments : List Value) → CanCall program section arguments →
      (s : Section) × (slice_get program.sections.items section ≡ Some s) × Fit program s arguments
  unfolding CanCall
  can_call section arguments can = can

  abbrev telling : List ℕ → List ℕ → Option Invocation
  telling name inside =
      lookup (section_named program name) (λ section. lookup (arguments_in shape inside)
      (λ arguments. Some (record { section = section; arguments = arguments })))

  pub call_told : (section : ℕ) (arguments : List Value) → CanCall program section arguments → HaveBits arguments →
      invocation_in program (invocation_text program section arguments) ≡ Some (record { section = section; arguments = arguments })
  call_told section arguments can bits =
      let found = can_call section arguments can in
      let name = string_bytes found.0.name in
      let inside = values_text shape arguments in
      let all = types_told _ arguments found.2 bits in
      let named : section_name program section ≡ name = ap (λ x. option_map_or (λ (s : Section). string_bytes s.name) x []) found.1 in
      let free = free_all is_name_byte 40 name (name_bytes name (plain.sections section found.0 found.1)) refl in
      let text : invocation_text program section arguments ≡ name ++ 40 ∷ (inside ++ 41 ∷ []) =
      whole_text program section arguments ∙ append_assoc (section_name program section) (40 ∷ inside) (41 ∷ [])
      ∙ ap (λ n. n ++ 40 ∷ (inside ++ 41 ∷ [])) named in
      let closed = before_at 41 inside [] (values_free arguments all) in
      ap (invocation_in program) text
      ∙ ap (λ n. telling n (before 41 (behind 40 (name ++ 40 ∷ (inside ++ 41 ∷ []))))) (before_at 40 name (inside ++ 41 ∷ []) free)
      ∙ ap (telling name) (ap (before 41) (behind_at 40 name (inside ++ 41 ∷ []) free) ∙ closed)
      ∙ ap (λ n. lookup n (λ section. lookup (arguments_in shape inside) (λ arguments. Some (record { section = section; arguments = arguments }))))
      (section_first section found.0 found.1)
      ∙ ap (λ x. lookup x (λ arguments. Some (record { section = section; arguments = arguments }))) (arguments_told arguments all)

pub plain_told : PlainCallsAreTold
plain_told program section arguments well plain can bits = call_told program well plain section arguments can bits
