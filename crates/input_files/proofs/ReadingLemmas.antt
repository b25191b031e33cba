-- One line of a history at a time.
use Rattle.std.proofs.Common.{◌≡◌, ◌∙◌, ◌<◌, ◌≤◌, ◌+◌, ℕ, zero, suc, List, [], ◌∷◌, ap, sym, refl, inl, inr, arith, Result}
use Rattle.std.proofs.Common.{Ok, Err, Some, None, length, take, drop, slice_get}
use Rattle.std.proofs.lemmas.Bool.{le-ltb, lt-ltb, cases_lt}
use Rattle.std.proofs.lemmas.List.{length-take-le}
use Rattle.std.proofs.lemmas.List.Splits.{length-slice_split}
use Rattle.std.specs.Prelude.{◌==◌, Bool, OnOk, IfErr}
use Rattle.std.specs.List.{slice_split, position_or_len}
use Rattle.input_files.specs.declared.format.Format.{Format}
use Rattle.input_files.specs.declared.history_reading.Reader.{Reader}
use Rattle.input_files.specs.declared.history_refusal.HistoryCode.TheVariants.{BadHeader, MissingEnd, LongLine}
use Rattle.input_files.specs.declared.history_refusal.HistoryFault.{HistoryFault}
use Rattle.input_files.specs.declared.stage.Stage.{Stage}
use Rattle.input_files.specs.declared.stage.Stage.TheVariants.{Opening}
use Rattle.input_files.specs.Lines.{after, format_of}
use Rattle.input_files.specs.Histories.{History, Lines, all_but_last, fault_at, history_in, history_of_pieces}
use Rattle.input_files.specs.Histories.{in_front, lines_from, lines_in, LINE_LIMIT, with_format}
use Rattle.input_files.specs.Working.HistoryReading.{IsEnd, IsFaultOfEnd, IsFaultOfLine, Judges, TakesLine, lines_at}
use Rattle.input_files.proofs.Cuts.{split_more, split_last}

-- a line that is allowed, and what follows it
pub line_taken : (format : Format) (stage stage' : Stage) (number : ℕ) (line next : List ℕ) (more : List (List ℕ)) →
    length line ≤ LINE_LIMIT → after format stage line ≡ Some stage' →
    lines_from format stage number (line ∷ next ∷ more)
    ≡ in_front (line ∷ []) (lines_from format stage' (number + 1) (next ∷ more))
line_taken format stage stage' number line next more short allowed = rw (le-ltb LINE_LIMIT (length line) short, allowed) refl

-- ---- the first piece

abbrev pub feed : ℕ → Bool
feed b = b == 10

-- a text has at least one piece
none_left : (text : List ℕ) → slice_split feed text ≡ [] → ⊥
none_left text none = omega (arith, length-slice_split feed text, ap length none)

-- the first piece of a text, and the second
first_of_more : (text : List ℕ) (place : ℕ) → place ≡ position_or_len feed text → place < length text →
    (next : List ℕ) × (more : List (List ℕ)) × (slice_split feed text ≡ take place text ∷ next ∷ more)
    × (slice_split feed (drop (place + 1) text) ≡ next ∷ more)
first_of_more text place is less = with_rest (slice_split feed (drop (place + 1) text)) refl
  where
    with_rest : (rest : List (List ℕ)) → slice_split feed (drop (place + 1) text) ≡ rest →
        (next : List ℕ) × (more : List (List ℕ)) × (slice_split feed text ≡ take place text ∷ next ∷ more)
        × (slice_split feed (drop (place + 1) text) ≡ next ∷ more)
    with_rest [] e = absurd (none_left (drop (place + 1) text) e)
    with_rest (next ∷ more) e = (next, more, split_more feed text place is less ∙ ap (λ l. take place text ∷ l) e, e)

module _ (text : List ℕ) (place : ℕ) (is : place ≡ position_or_len feed text) where
  pub first_long : place ≤ length text → LINE_LIMIT < place → history_in text ≡ fault_at LongLine 1
  first_long bound long = elim (cases_lt place (length text)) [
    | inl less ↦
        let first = first_of_more text place is less in
        ap history_of_pieces first.2
        ∙ rw (lt-ltb LINE_LIMIT (length (take place text)) (omega (arith, length-take-le place text bound, long))) refl
    | inr most ↦
        ap history_of_pieces (split_last feed text (omega (arith, is)))
        ∙ rw (lt-ltb LINE_LIMIT (length text) (omega (arith, long, bound))) refl
  ]

  pub first_alone : place ≡ length text → place ≤ LINE_LIMIT → history_in text ≡ fault_at MissingEnd 1
  first_alone all short =
      ap history_of_pieces (split_last feed text (omega (arith, is, all)))
      ∙ rw (le-ltb LINE_LIMIT (length text) (omega (arith, short, all))) refl

  pub first_bad : place < length text → place ≤ LINE_LIMIT → format_of (take place text) ≡ None →
      history_in text ≡ fault_at BadHeader 1
  first_bad less short none =
      let first = first_of_more text place is less in
      ap history_of_pieces first.2
      ∙ rw (le-ltb LINE_LIMIT (length (take place text)) (omega (arith, length-take-le place text (omega arith), short)), none) refl

  pub first_good : (format : Format) → place < length text → place ≤ LINE_LIMIT →
      format_of (take place text) ≡ Some format →
      history_in text ≡ with_format format (lines_from format Opening 2 (slice_split feed (drop (place + 1) text)))
  first_good format less short some =
      let first = first_of_more text place is less in
      ap history_of_pieces first.2
      ∙ rw (le-ltb LINE_LIMIT (length (take place text)) (omega (arith, length-take-le place text (omega arith), short)), some, first.3) refl

-- the first line is refused
pub first_refused : (said : History) (rest : Lines) (format : Format) (fault : HistoryFault) →
    said ≡ with_format format rest → rest ≡ Err fault → said ≡ Err fault
first_refused said rest format fault is wrong = is ∙ ap (with_format format) wrong

pub first_answers : (said : History) (rest : Lines) (format : Format) (lines : List (List ℕ)) →
    said ≡ with_format format rest → rest ≡ Ok lines → said ≡ Ok (format, lines)
first_answers said rest format lines is right = is ∙ ap (with_format format) right

-- ---- the lines of a text

module _ (text : List ℕ) (place : ℕ) (is : place ≡ position_or_len feed text) where
  -- the first line
  pub line_first : place < length text → lines_in text ≡ take place text ∷ lines_in (drop (place + 1) text)
  line_first less =
      let first = first_of_more text place is less in
      ap all_but_last first.2 ∙ ap (λ pieces. take place text ∷ all_but_last pieces) (sym first.3)

  -- a text without line feeds has none
  pub line_none : length text ≤ place → lines_in text ≡ []
  line_none all = ap all_but_last (split_last feed text (omega (arith, is, all)))

-- the remaining lines, one line further
pub rest_further : (lines : List (List ℕ)) (i : ℕ) (line : List ℕ) (rest : List (List ℕ)) → drop i lines ≡ line ∷ rest →
    drop (suc i) lines ≡ rest
rest_further [] zero line rest is = absurd (cc)
rest_further [] (suc i) line rest is = absurd (cc)
rest_further (x ∷ lines) zero line rest is = cc
rest_further (x ∷ lines) (suc i) line rest is = rest_further lines i line rest is

-- the line at a place is the first of those from the place on
pub at_rest : (lines : List (List ℕ)) (i : ℕ) → slice_get lines i ≡ slice_get (drop i lines) 0
at_rest [] zero = refl
at_rest [] (suc i) = refl
at_rest (x ∷ lines) zero = refl
at_rest (x ∷ lines) (suc i) = at_rest lines i

-- no line is left after more lines have been skipped
pub none_further : (lines : List (List ℕ)) (i n : ℕ) → drop i lines ≡ [] → i ≤ n → None ≡ slice_get lines n
none_further [] i zero is most = refl
none_further [] i (suc n) is most = refl
none_further (x ∷ lines) zero n is most = absurd (cc)
none_further (x ∷ lines) (suc i) zero is most = absurd (omega arith)
none_further (x ∷ lines) (suc i) (suc n) is most = none_further lines i n is (omega arith)

-- ---- the pieces after the first

-- the answer for the pieces that are left is the answer for all
pub record Follows (said now : Lines) (lines left : List (List ℕ)) : Type 0 where
  pub right : now ≡ Ok left → said ≡ Ok lines
  pub wrong : (fault : HistoryFault) → now ≡ Err fault → said ≡ Err fault

module _ (reader : Reader) (rest : List ℕ) (place : ℕ) (said : Lines) (lines : List (List ℕ)) (is : place ≡ position_or_len feed rest)
    (left : Follows said (lines_at reader (slice_split feed rest)) lines (lines_in rest)) where
  -- after the last line feed there is an end
  pub end_reached : place ≡ length rest → IsEnd reader rest → said ≡ Ok lines
  end_reached all end =
      left.right (ap (lines_at reader) (split_last feed rest (omega (arith, is, all))) ∙ end
      ∙ ap Ok (sym (line_none rest place is (omega (arith, all)))))

  -- after the last line feed there is a fault
  pub end_refused : place ≡ length rest → (fault : HistoryFault) → IsFaultOfEnd reader rest fault → said ≡ Err fault
  end_refused all fault wrong =
      left.wrong fault (ap (lines_at reader) (split_last feed rest (omega (arith, is, all))) ∙ wrong)

  pub end_judged : {T : Type 0} (result : Result T HistoryFault) → place ≡ length rest → OnOk result (IsEnd reader rest) →
      IfErr result (IsFaultOfEnd reader rest) → Judges said lines result
  end_judged (Ok nothing) all end wrong = end_reached all end
  end_judged (Err fault) all end wrong = end_refused all fault wrong

  -- a line is at fault
  pub line_refused : place < length rest → (fault : HistoryFault) → IsFaultOfLine reader (take place rest) fault → said ≡ Err fault
  line_refused less fault wrong =
      let first = first_of_more rest place is less in
      left.wrong fault (ap (lines_at reader) first.2 ∙ wrong first.0 first.1)

  -- a line is taken
  pub line_more : (reader' : Reader) → place < length rest → TakesLine reader reader' (take place rest) →
      Follows said (lines_at reader' (slice_split feed (drop (place + 1) rest))) lines (lines_in (drop (place + 1) rest))
  line_more reader' less takes =
      let first = first_of_more rest place is less in
      let now : lines_at reader (slice_split feed rest) ≡ in_front (take place rest ∷ []) (lines_at reader' (slice_split feed (drop (place + 1) rest))) =
      ap (lines_at reader) first.2 ∙ takes first.0 first.1
      ∙ ap (λ pieces. in_front (take place rest ∷ []) (lines_at reader' pieces)) (sym first.3) in
      record {
        right = λ good. left.right (now ∙ ap (in_front (take place rest ∷ [])) good ∙ ap Ok (sym (line_first rest place is less)));
        wrong = λ fault bad. left.wrong fault (now ∙ ap (in_front (take place rest ∷ [])) bad);
      }
