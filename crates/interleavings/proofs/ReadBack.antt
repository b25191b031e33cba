-- A written steps file is read back.
use Rattle.std.proofs.Common.{◌≡◌, ◌∙◌, ◌<◌, ◌≤◌, ℕ, ◌+◌, ◌*◌, ◌/◌, ◌%◌, ◌-◌, suc, true, false, List, [], ◌∷◌, ◌++◌, All}
use Rattle.std.proofs.Common.{length, get_or, string_bytes, Option, Some, Ok, ap, subst, refl, arith, inl, inr}
use Rattle.std.proofs.Common.{length-append, append_assoc}
use Rattle.std.specs.Prelude.{◌==◌, nat_le, nat_lt, slice_get}
use Rattle.std.specs.Fmt.{decimal}
use Rattle.std.specs.List.{slice_split, list_all}
use Rattle.std.specs.Option.{option_map_or}
use Rattle.std.proofs.Math.Seq.{take-append_seam, drop-append_seam}
use Rattle.std.proofs.lemmas.Bool.{and_parts, cases_Bool}
use Rattle.std.proofs.lemmas.Bool.Decides.{nat_tests}
use Rattle.std.proofs.lemmas.Fmt.{decimal_by_steps}
use Rattle.std.proofs.lemmas.List.Elements.{All-append, All-cons}
use Rattle.std.proofs.lemmas.List.Concat.{flat_map-cons}
use Rattle.std.proofs.lemmas.List.Folds.{list_all-append}
use Rattle.std.proofs.lemmas.List.Splits.{slice_split_at}
use Rattle.std.proofs.lemmas.List.Sums.{AllPass-from_list_all, fold-append, position_or_len_is, sum_by-cons}
use Rattle.std.proofs.lemmas.Option.{slice_get_within, get_or_from_slice_get, slice_get-get_or}
use Rattle.std.proofs.lemmas.Slice.Eq.{bytes_eq-Decides}
use Rattle.core_lang.specs.Theory.Items.{get_some}
use Rattle.core_lang.specs.declared.typed.Thread.{Thread}
use Rattle.core_lang.specs.declared.typed.Typed.{Typed}
use Rattle.source.specs.Texts.{is_letter, is_name_byte}
use Rattle.input_files.specs.declared.item.Item.{Item}
use Rattle.input_files.specs.declared.item.Until.{Until}
use Rattle.input_files.specs.declared.item.Until.TheVariants.{Count, Stop, CallEnd}
use Rattle.input_files.specs.Steps.{is_white, is_digit, are_digits, value_of, thread_len, until_of, until_in, number_of, is_named}
use Rattle.input_files.specs.Steps.{counted, and_then, item_of, items_from, STEP_LIMIT}
use Rattle.interleavings.specs.Schedules.{AreOfThreads, counted_in, thread_name, until_text, item_text, schedule_text}
use Rattle.interleavings.specs.ScheduleLaws.{is_name, AreNamed, placed, TextsAreReadBack}

-- ---- numbers

record IsDecimal (n : ℕ) (ds : List ℕ) : Type 0 where
  digits : list_all is_digit ds ≡ true
  value : value_of ds ≡ n
  some : 0 < length ds

one_digit : (n : ℕ) → n < 10 → IsDecimal n ((48 + n) ∷ [])
one_digit n h = record {
  digits = let d : is_digit (48 + n) ≡ true = grind (arith, nat_tests) in rw d refl;
  value = omega arith;
  some = omega arith;
}

more_digits : (n : ℕ) (ds : List ℕ) → 10 ≤ n → IsDecimal (n / 10) ds → IsDecimal n (ds ++ ((48 + n % 10) ∷ []))
more_digits n ds h d = record {
  digits = let e : is_digit (48 + n % 10) ≡ true = grind (arith, nat_tests) in
      list_all-append is_digit ds ((48 + n % 10) ∷ []) ∙ rw (d.digits, e) refl;
  value = fold-append (λ (m b : ℕ). m * 10 + (b - 48)) 0 ds ((48 + n % 10) ∷ [])
      ∙ (let v : value_of ds ≡ n / 10 = d.value in omega arith);
  some = simp length-append (omega arith);
}

decimals : (n : ℕ) → n ≤ STEP_LIMIT → IsDecimal n (decimal n)
decimals n h = decimal_by_steps IsDecimal one_digit more_digits n (omega arith)

-- ---- the ends of items

-- a text without white bytes whose first byte is not a name's, and which is read as the end of an item
record Says (u : Until) (bytes : List ℕ) : Type 0 where
  sign : ℕ
  rest : List ℕ
  is : bytes ≡ sign ∷ rest
  no_name : is_name_byte sign ≡ false
  no_white : All (λ b. is_white b ≡ false) bytes
  read : until_of bytes ≡ Some u

digit_no_white : (b : ℕ) → is_digit b ≡ true → is_white b ≡ false
digit_no_white b h = grind (arith, nat_tests)

count_read : (n : ℕ) (ds : List ℕ) → IsDecimal n ds → until_of (42 ∷ ds) ≡ Some (Count n)
count_read n [] d = absurd (omega (arith, d.some))
count_read n (b ∷ bs) d =
    let some : (length (b ∷ bs) == 0) ≡ false = grind (arith, nat_tests) in
    rw (some, d.digits, d.value) refl

says : (u : Until) → counted u ≤ STEP_LIMIT → Says u (until_text u)
says (Count n) h =
    let d = decimals n h in
    record {
      sign = 42;
      rest = decimal n;
      is = refl;
      no_name = refl;
      read = count_read n (decimal n) d;
      no_white = All-cons (λ b. is_white b ≡ false) 42 (decimal n) refl
          (λ k e high.
          digit_no_white (get_or (decimal n) k e) (AllPass-from_list_all is_digit (decimal n) d.digits k e high));
    }
says Stop h = record {
  sign = 33;
  rest = [];
  is = refl;
  no_name = refl;
  read = refl;
  no_white = All-cons (λ b. is_white b ≡ false) 33 [] refl (λ k e high. absurd (omega (arith, high)));
}
says CallEnd h = record {
  sign = 43;
  rest = [];
  is = refl;
  no_name = refl;
  read = refl;
  no_white = All-cons (λ b. is_white b ≡ false) 43 [] refl (λ k e high. absurd (omega (arith, high)));
}

-- ---- names

letter_no_digit : (b : ℕ) → is_letter b ≡ true → is_digit b ≡ false
letter_no_digit b h = grind (arith, nat_tests)

letter_in_name : (b : ℕ) → is_letter b ≡ true → is_name_byte b ≡ true
letter_in_name b h = rw h refl

name_no_white : (b : ℕ) → is_name_byte b ≡ true → is_white b ≡ false
name_no_white b h = grind (arith, nat_tests)

-- a name, by its bytes
record IsNameOf (bytes : List ℕ) : Type 0 where
  some : 0 < length bytes
  each : list_all is_name_byte bytes ≡ true
  no_digits : are_digits bytes ≡ false

name_of : (bytes : List ℕ) → is_name bytes ≡ true → IsNameOf bytes
name_of [] h = absurd cc
name_of (b ∷ bs) h =
    let s = and_parts (is_letter b) (list_all is_name_byte bs) h in
    let some : (length (b ∷ bs) == 0) ≡ false = grind (arith, nat_tests) in
    record {
      some = omega arith;
      each = rw (letter_in_name b s.0, s.1) refl;
      no_digits = rw (some, letter_no_digit b s.0) refl;
    }

-- the name of the thread ends before the sign
name_length : (xs rest : List ℕ) (sign : ℕ) → list_all is_name_byte xs ≡ true → is_name_byte sign ≡ false →
    thread_len (xs ++ sign ∷ rest) ≡ length xs
name_length [] rest sign all none = rw none refl
name_length (x ∷ xs) rest sign all none =
    let s = and_parts (is_name_byte x) (list_all is_name_byte xs) all in
    let more : thread_len (xs ++ sign ∷ rest) ≡ length xs = name_length xs rest sign s.1 none in
    rw s.0 (omega (arith, more))

-- a piece that is not empty is an item
items_from-item : (threads : List Thread) (start before : ℕ) (piece : List ℕ) (pieces : List (List ℕ)) →
    0 < length piece → items_from threads start before (piece ∷ pieces)
    ≡ and_then (item_of threads start before piece) start
    (λ (item : Item). items_from threads (start + (length piece + 1)) (before + counted item.until) pieces)
items_from-item threads start before [] pieces some = absurd (omega arith)
items_from-item threads start before (byte ∷ bytes) pieces some = refl

-- the first thread of its name is the thread
module _ (threads : List Thread) (named : AreNamed threads) (t : ℕ) (x : Thread)
    (at : slice_get threads t ≡ Some x) where
  low : t < length threads
  low = slice_get_within threads t x at

  here : get_or threads t x ≡ x
  here = get_or_from_slice_get threads t x x at

  none_before : (k : ℕ) → k < t → is_named (string_bytes x.name) (get_or threads k x) ≡ false
  none_before k less = elim (cases_Bool (is_named (string_bytes x.name) (get_or threads k x))) [
    | inr other ↦ other
    | inl like ↦
        let same : string_bytes (get_or threads k x).name ≡ string_bytes x.name =
        (bytes_eq-Decides (string_bytes (get_or threads k x).name) (string_bytes x.name)).0 like in
        let there = slice_get-get_or threads k x (omega (arith, less, low)) in
        let one : k ≡ t = named.apart k t (get_or threads k x) x there at same in
        absurd (omega (arith, less, one))
  ]

  named_here : is_named (string_bytes x.name) (get_or threads t x) ≡ true
  named_here = rw here ((bytes_eq-Decides (string_bytes x.name) (string_bytes x.name)).1 refl)

  word : IsNameOf (string_bytes x.name)
  word =
      name_of (string_bytes x.name)
      (subst (λ (y : Thread). is_name (string_bytes y.name) ≡ true) here (named.names t x low))

  number_is : number_of threads (string_bytes x.name) ≡ t
  number_is = rw word.no_digits
      (position_or_len_is (is_named (string_bytes x.name)) threads t x (omega (arith, low)) none_before
      (λ more. named_here))

  -- ---- an item

  module _ (u : Until) (start before : ℕ) (within : before + counted u ≤ STEP_LIMIT) where
    said : Says u (until_text u)
    said = says u (omega (arith, within))

    abbrev piece : List ℕ
    piece = string_bytes x.name ++ until_text u

    long : thread_len piece ≡ length (string_bytes x.name)
    long = ap (λ (bytes : List ℕ). thread_len (string_bytes x.name ++ bytes)) said.is
        ∙ name_length (string_bytes x.name) said.rest said.sign word.each said.no_name

    until_is : until_in piece ≡ Some u
    until_is =
        let some : (length (string_bytes x.name) == 0) ≡ false = grind (arith, nat_tests, word.some) in
        rw (long, some, drop-append_seam (string_bytes x.name) (until_text u)) said.read

    item_is : item_of threads start before piece ≡ Ok (record { thread = t; until = u; start = start })
    item_is =
        let there : nat_le (length threads) t ≡ false = grind (arith, nat_tests, low) in
        let few : nat_lt STEP_LIMIT (before + counted u) ≡ false = grind (arith, nat_tests, within) in
        rw (until_is, long, take-append_seam (string_bytes x.name) (until_text u), number_is, there, few) refl

    no_white : All (λ b. is_white b ≡ false) piece
    no_white = All-append (λ b. is_white b ≡ false) (string_bytes x.name) (until_text u)
        (λ k e high.
        name_no_white (get_or (string_bytes x.name) k e)
        (AllPass-from_list_all is_name_byte (string_bytes x.name) word.each k e high))
        said.no_white

    -- an item that is written in front of a text is its first
    piece_read : (rest : List ℕ) (more : List Item) →
        items_from threads (start + (length piece + 1)) (before + counted u) (slice_split is_white rest) ≡ Ok more →
        items_from threads start before (slice_split is_white ((piece ++ 10 ∷ []) ++ rest))
        ≡ Ok (record { thread = t; until = u; start = start } ∷ more)
    piece_read rest more read =
        ap (λ (bytes : List ℕ). items_from threads start before (slice_split is_white bytes))
        (append_assoc piece (10 ∷ []) rest)
        ∙ ap (items_from threads start before) (slice_split_at is_white piece 10 rest no_white refl)
        ∙ items_from-item threads start before piece (slice_split is_white rest)
        (omega (arith, word.some, length-append (string_bytes x.name) (until_text u)))
        ∙ rw (item_is, read) refl

-- ---- all items

all_read : (program : Typed) (items : List Item) (start before : ℕ) → AreNamed program.threads.items →
    AreOfThreads program items → before + counted_in items ≤ STEP_LIMIT →
    items_from program.threads.items start before (slice_split is_white (schedule_text program items))
    ≡ Ok (placed program start items)
all_read program [] start before named of_threads within = refl
all_read program (item ∷ items) start before named of_threads within =
    let P : Item → Type 0 = λ (other : Item). other.thread < length program.threads.items in
    let low : item.thread < length program.threads.items = of_threads 0 item (omega arith) in
    let x = get_some program.threads.items item.thread low in
    let name : thread_name program item.thread ≡ string_bytes x.0.name =
    ap (λ (o : Option Thread). option_map_or (λ (thread : Thread). string_bytes thread.name) o []) x.1 in
    let written : item_text program item ≡ (string_bytes x.0.name ++ until_text item.until) ++ 10 ∷ [] =
    ap (λ (bytes : List ℕ). (bytes ++ until_text item.until) ++ 10 ∷ []) name in
    let all : before + (counted item.until + counted_in items) ≤ STEP_LIMIT =
    omega (arith, within, sum_by-cons (λ (i : Item). counted i.until) item items) in
    let after = start + (length (string_bytes x.0.name ++ until_text item.until) + 1) in
    let others =
    all_read program items after (before + counted item.until) named
    (λ k d high. of_threads (suc k) d (omega (arith, high))) (omega (arith, all)) in
    let place : after ≡ start + length (item_text program item) =
    rw written (omega (arith, length-append (string_bytes x.0.name ++ until_text item.until) (10 ∷ []))) in
    ap (λ (bytes : List ℕ). items_from program.threads.items start before (slice_split is_white bytes))
    (flat_map-cons (item_text program) item items
    ∙ ap (λ (bytes : List ℕ). bytes ++ schedule_text program items) written)
    ∙ piece_read program.threads.items named item.thread x.0 x.1 item.until start before (omega (arith, all))
    (schedule_text program items)
    (placed program after items) others
    ∙ ap (λ (n : ℕ).
    Ok (record { thread = item.thread; until = item.until; start = start } ∷ placed program n items)) place

pub texts_read_back : TextsAreReadBack
texts_read_back program items named of_threads within =
    all_read program items 0 0 named of_threads (omega (arith, within))
