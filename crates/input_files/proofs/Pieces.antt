-- One piece of a steps file at a time.
use Rattle.std.proofs.lemmas.List.Splits.{slice_split_first, slice_split_none}
use Rattle.std.proofs.lemmas.List.Sums.{fails_before_first}
use Rattle.std.proofs.lemmas.List.{take_all, length-take-le, append-nil}
use Rattle.std.proofs.lemmas.Bool.{cases_lt}
use Rattle.std.proofs.Common.{sym, inl, inr, ◌≤◌, ◌≡◌, ◌∙◌, ℕ, ◌+◌, ◌<◌, List, [], ◌∷◌, ◌++◌, length, take, drop, ap}
use Rattle.std.proofs.Common.{refl, arith, Ok, Err}
use Rattle.std.specs.List.{slice_split, position_or_len}
use Rattle.core_lang.specs.declared.typed.Thread.{Thread}
use Rattle.input_files.specs.declared.item.Item.{Item}
use Rattle.input_files.specs.declared.steps_refusal.StepsFault.{StepsFault}
use Rattle.input_files.specs.declared.steps_refusal.StepsRefusal.{StepsRefusal}
use Rattle.input_files.specs.declared.steps_refusal.StepsRefusal.TheVariants.{Fault, NoMemory}
use Rattle.input_files.specs.Steps.{IfFault, Answers, is_white, item_of, counted, in_front, and_then, items_from, items_in}
use Rattle.input_files.specs.Working.StepsReading.{IsFaultOfPiece}
use Rattle.input_files.specs.Theory.Fronts.{in_front-both}

-- a piece that is not empty is an item
pub items_from-item : (threads : List Thread) (start before : ℕ) (piece : List ℕ) (pieces : List (List ℕ)) → 0 < length piece →
    items_from threads start before (piece ∷ pieces)
    ≡ and_then (item_of threads start before piece) start
    (λ (item : Item). items_from threads (start + (length piece + 1)) (before + counted item.until) pieces)
items_from-item threads start before [] pieces some = absurd (omega arith)
items_from-item threads start before (byte ∷ bytes) pieces some = refl

-- the first piece, if the text has a white byte
pub split_more : (xs : List ℕ) → position_or_len is_white xs < length xs →
    slice_split is_white xs
    ≡ take (position_or_len is_white xs) xs ∷ slice_split is_white (drop (position_or_len is_white xs + 1) xs)
split_more xs some = slice_split_first is_white xs 0 some

-- the only piece, if it has none
pub split_last : (xs : List ℕ) → length xs ≤ position_or_len is_white xs → slice_split is_white xs ≡ xs ∷ []
split_last xs none = slice_split_none is_white xs (λ k d high. fails_before_first is_white xs k d (omega arith))

-- an item, and then the items of the rest
pub piece_taken : (threads : List Thread) (start before : ℕ) (old : List Item) (piece : List ℕ) (item : Item) (pieces : List (List ℕ)) →
    0 < length piece → item_of threads start before piece ≡ Ok item →
    in_front (old ++ item ∷ []) (items_from threads (start + (length piece + 1)) (before + counted item.until) pieces)
    ≡ in_front old (items_from threads start before (piece ∷ pieces))
piece_taken threads start before old piece item pieces some is =
    rw (items_from-item threads start before piece pieces some, is) (sym (in_front-both old (item ∷ []) _))

-- the first piece, whether it is the only one or not
pub split_any : (xs : List ℕ) (len : ℕ) → len ≡ position_or_len is_white xs → len ≤ length xs →
    (pieces : List (List ℕ)) × (slice_split is_white xs ≡ take len xs ∷ pieces)
split_any xs len is bound = elim (cases_lt len (length xs)) [
  | inl less ↦ (slice_split is_white (drop (position_or_len is_white xs + 1) xs), rw is (split_more xs (omega (arith, is))))
  | inr most ↦ ([], split_last xs (omega (arith, is)) ∙ ap (λ (l : List ℕ). l ∷ []) (sym (take_all len xs most)))
]

module _ (threads : List Thread) (start before after : ℕ) (old : List Item) (rest text : List ℕ) (len : ℕ)
    (is : len ≡ position_or_len is_white rest) (bound : len ≤ length rest)
    (all : in_front old (items_from threads start before (slice_split is_white rest)) ≡ items_in threads text) where
  -- the fault of the first faulty piece is the text's fault
  pub pieces_fault : (fault : StepsFault) →
      IsFaultOfPiece threads start before (take len rest) fault → items_in threads text ≡ Err fault
  pieces_fault fault is_fault =
      let found = split_any rest len is bound in
      sym all ∙ ap (in_front old) (ap (items_from threads start before) found.1 ∙ is_fault found.0)

  -- the same for a refusal
  pub pieces_refused : (refusal : StepsRefusal) →
      IfFault {T = Unit {0}} (Err refusal) (IsFaultOfPiece threads start before (take len rest)) →
      Answers (Err refusal) (items_in threads text)
  pieces_refused (Fault fault) is_fault = pieces_fault fault is_fault
  pieces_refused NoMemory is_fault = tt

  -- after the last piece there are no more items
  pub pieces_end : (new : List Item) → len ≡ length rest →
      ((pieces : List (List ℕ)) →
      in_front new (items_from threads (start + (length (take len rest) + 1)) after pieces)
      ≡ in_front old (items_from threads start before (take len rest ∷ pieces))) →
      items_in threads text ≡ Ok new
  pieces_end new whole ok =
      let one : slice_split is_white rest ≡ take len rest ∷ [] =
      split_last rest (omega (arith, is, whole)) ∙ ap (λ (l : List ℕ). l ∷ []) (sym (take_all len rest (omega (arith, whole)))) in
      sym all ∙ ap (in_front old) (ap (items_from threads start before) one) ∙ sym (ok []) ∙ ap Ok (append-nil new)

  -- the pieces after this one
  pub pieces_more : (new : List Item) → len < length rest →
      ((pieces : List (List ℕ)) →
      in_front new (items_from threads (start + (length (take len rest) + 1)) after pieces)
      ≡ in_front old (items_from threads start before (take len rest ∷ pieces))) →
      in_front new (items_from threads (start + (len + 1)) after (slice_split is_white (drop (len + 1) rest)))
      ≡ items_in threads text
  pieces_more new less ok =
      let size : length (take len rest) ≡ len = length-take-le len rest (omega arith) in
      let split : slice_split is_white rest ≡ take len rest ∷ slice_split is_white (drop (len + 1) rest) =
      rw is (split_more rest (omega (arith, is))) in
      ap (λ (n : ℕ). in_front new (items_from threads (start + (n + 1)) after (slice_split is_white (drop (len + 1) rest)))) (sym size)
      ∙ ok (slice_split is_white (drop (len + 1) rest)) ∙ ap (in_front old) (ap (items_from threads start before) (sym split)) ∙ all
