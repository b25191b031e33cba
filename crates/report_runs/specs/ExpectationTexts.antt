-- The meaning of the text of an expectation: SUM RELATION SUM. A SUM is ITEM, then + ITEM or - ITEM any number of
-- times, perhaps with a - before it; an ITEM is a number or a name. Blanks may stand before and after each of these.
use Rattle.std.specs.Prelude.{◌≡◌, ℕ, ◌-◌, Bool, not, ◌==◌, ◌&&◌, ◌||◌, nat_le, if◌then◌else◌, List, [], ◌∷◌, ◌++◌, length, drop, map}
use Rattle.std.specs.Prelude.{false, Option, Some, None, option_map, Result, Ok, Err, ℤ, pos, zero, suc}
use Rattle.std.specs.List.{list_all, prefix_len, take_while}
use Rattle.std.specs.Option.{option_map_or}
use Rattle.source.specs.Texts.{is_digit, is_name_byte, value_of, NUMBER_LIMIT}
use Rattle.report_runs.specs.declared.expectation.Relation.{Relation}
use Rattle.report_runs.specs.declared.expectation.Relation.TheVariants.{Equal, NotEqual, Less, LessOrEqual, Greater, GreaterOrEqual}
use Rattle.report_runs.specs.declared.expectation.Sign.{Sign}
use Rattle.report_runs.specs.declared.expectation.Sign.TheVariants.{Plus, Minus}
use Rattle.report_runs.specs.declared.expectation.Item.{Item}
use Rattle.report_runs.specs.declared.expectation.Item.TheVariants.{Number, Name}
use Rattle.report_runs.specs.declared.expectation.Term.{Term}
use Rattle.report_runs.specs.declared.expectation.Expectation.{Expectation}
use Rattle.report_runs.specs.declared.expectation.ExpectationRefusal.{ExpectationRefusal}
use Rattle.report_runs.specs.declared.expectation.ExpectationRefusal.TheVariants.{Bad, NoMemory}

-- ---- meanings

-- a number, or the cells of a name
pub data Amount : Type 0 where
  the_number : ℤ → Amount
  the_name : List ℕ → Amount

-- an item that is added or subtracted
pub record Part : Type 0 where
  pub sign : Sign
  pub amount : Amount

-- two sums, and the relation between them
pub record Said : Type 0 where
  pub left : List Part
  pub relation : Relation
  pub right : List Part

abbrev pub amount_of : Item → Amount
amount_of (Number n) = the_number n
amount_of (Name text) = the_name text.now

abbrev pub part_of : Term → Part
part_of term = record { sign = term.sign; amount = amount_of term.item }

abbrev pub said_of : Expectation → Said
said_of e = record { left = map part_of e.left.items; relation = e.relation; right = map part_of e.right.items }

-- ---- bytes

-- space, tab
abbrev pub is_blank : ℕ → Bool
is_blank b = (b == 32) || (b == 9)

-- letters, digits, `_`, `.`, `[`, `]`
abbrev pub is_word_byte : ℕ → Bool
is_word_byte b = is_name_byte b || (b == 46) || (b == 91) || (b == 93)

-- the text after the first bytes that pass the test
abbrev pub behind : (ℕ → Bool) → List ℕ → List ℕ
behind test text = drop (prefix_len test text) text

-- the text after the blanks at its start
abbrev pub skip : List ℕ → List ℕ
skip text = behind is_blank text

-- ---- items

-- all bytes of the word are digits
abbrev pub are_digits : List ℕ → Bool
are_digits word = list_all is_digit word

-- the number that digits write, if it is at most 9223372036854775807
abbrev pub number_in : List ℕ → Option ℤ
number_in word = if are_digits word && nat_le (value_of word) NUMBER_LIMIT then Some (pos (value_of word)) else None

-- what a word writes: a number, if it begins with a digit, and otherwise a name
abbrev pub amount_in : List ℕ → Option Amount
amount_in [] = None
amount_in (b ∷ bs) = if is_digit b then option_map the_number (number_in (b ∷ bs)) else Some (the_name (b ∷ bs))

-- the item at the start of a text, and the rest
abbrev pub item_at : List ℕ → Option (Amount × List ℕ)
item_at text = option_map (λ amount. (amount, behind is_word_byte text)) (amount_in (take_while is_word_byte text))

-- ---- signs

-- the + or - at the start of a text, and the rest
abbrev pub sign_at : List ℕ → Option (Sign × List ℕ)
sign_at [] = None
sign_at (b ∷ bs) = if b == 43 then Some (Plus, bs) else if b == 45 then Some (Minus, bs) else None

-- ==, !=, <=, >=
abbrev pub relation_of_two : ℕ → ℕ → Option Relation
relation_of_two a b =
    if not (b == 61) then None
    else if a == 61 then Some Equal
    else if a == 33 then Some NotEqual
    else if a == 60 then Some LessOrEqual
    else if a == 62 then Some GreaterOrEqual
    else None

-- <, >
abbrev pub relation_of_one : ℕ → Option Relation
relation_of_one a = if a == 60 then Some Less else if a == 62 then Some Greater else None

-- the relation at the start of a text, and the rest; the longer one where two match
abbrev pub relation_at : List ℕ → Option (Relation × List ℕ)
relation_at [] = None
relation_at (a ∷ []) = option_map (λ r. (r, [])) (relation_of_one a)
relation_at (a ∷ b ∷ bs) =
    option_map_or (λ r. Some (r, bs)) (relation_of_two a b) (option_map (λ r. (r, b ∷ bs)) (relation_of_one a))

-- ---- sums

-- what is read of a text, and the rest; or the rest where it can't be read
abbrev pub Reading : Type 0 → Type 0
Reading A = Result (A × List ℕ) (List ℕ)

-- the parts before those that are read
abbrev pub in_front : List Part → Reading (List Part) → Reading (List Part)
in_front parts (Ok read) = Ok (parts ++ read.0, read.1)
in_front parts (Err stop) = Err stop

-- ITEM after a sign, then + ITEM or - ITEM, as long as there are any: at most n items
abbrev pub sum_from : ℕ → Sign → List ℕ → Reading (List Part)
sum_from zero sign text = Err (skip text)
sum_from (suc n) sign text =
    option_map_or (λ (item : Amount × List ℕ). in_front (record { sign = sign; amount = item.0 } ∷ [])
    (option_map_or (λ (next : Sign × List ℕ). sum_from n next.0 next.1) (sign_at (skip item.1)) (Ok ([], skip item.1))))
    (item_at (skip text)) (Err (skip text))

-- the text begins with this byte
abbrev pub begins_with : ℕ → List ℕ → Bool
begins_with byte [] = false
begins_with byte (b ∷ bs) = b == byte

-- a sum, perhaps with a - before it; it has at most as many items as bytes
abbrev pub sum_at : List ℕ → Reading (List Part)
sum_at text =
    if begins_with 45 (skip text) then sum_from (length text) Minus (drop 1 (skip text))
    else sum_from (length text) Plus (skip text)

-- ---- the whole text

-- what is meant, if the rest is empty
abbrev pub if_at_end : Said → List ℕ → Result Said (List ℕ)
if_at_end said [] = Ok said
if_at_end said (b ∷ bs) = Err (b ∷ bs)

-- the rest after a sum and a relation
abbrev pub with_right : List Part → Relation → Reading (List Part) → Result Said (List ℕ)
with_right left relation (Ok read) = if_at_end (record { left = left; relation = relation; right = read.0 }) read.1
with_right left relation (Err stop) = Err stop

-- the rest after a sum
abbrev pub with_left : Reading (List Part) → Result Said (List ℕ)
with_left (Ok read) =
    option_map_or (λ (r : Relation × List ℕ). with_right read.0 r.0 (sum_at r.1)) (relation_at read.1) (Err read.1)
with_left (Err stop) = Err stop

-- two sums with a relation between them, and an empty rest; or the rest where it can't be read
abbrev pub read_text : List ℕ → Result Said (List ℕ)
read_text text = with_left (sum_at text)

-- the byte at which this rest begins
abbrev pub place_where : List ℕ → Result Said (List ℕ) → Result Said ℕ
place_where text (Ok said) = Ok said
place_where text (Err stop) = Err (length text - length stop)

-- what a text means; or, where it does not mean anything, the byte up to which it can be read
abbrev pub meaning_of : List ℕ → Result Said ℕ
meaning_of text = place_where text (read_text text)

-- the text is read, or refused at that byte, or memory runs out
abbrev pub Answers : Result Expectation ExpectationRefusal → Result Said ℕ → Type 0
Answers (Ok e) meaning = meaning ≡ Ok (said_of e)
Answers (Err (Bad bad)) meaning = meaning ≡ Err bad.start
Answers (Err NoMemory) meaning = Unit {0}
