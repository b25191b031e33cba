-- A sum is read item by item.
use Rattle.std.proofs.Common.{◌≡◌, ◌∙◌, ℕ, zero, suc, ◌<◌, ◌≤◌, List, [], ◌∷◌, ◌++◌, length, take, drop, refl, sym, ap, arith}
use Rattle.std.proofs.Common.{Option, Some, None, Ok, Err, append_assoc, length-drop, append-nil}
use Rattle.std.specs.Prelude.{option_map}
use Rattle.std.specs.Option.{option_map_or}
use Rattle.std.specs.List.{prefix_len, take_while}
use Rattle.std.proofs.lemmas.Option.{none-some, same_Some}
use Rattle.report_runs.specs.declared.expectation.Sign.{Sign}
use Rattle.report_runs.specs.ExpectationTexts.{Amount, Part, Reading, is_blank, is_word_byte, behind, skip, amount_in, item_at, sign_at, in_front, sum_from}

pub in_front_twice : (xs ys : List Part) (reading : Reading (List Part)) → in_front xs (in_front ys reading) ≡ in_front (xs ++ ys) reading
in_front_twice xs ys (Ok read) = ap (λ (ps : List Part). let r : Reading (List Part) = Ok (ps, read.1) in r) (sym (append_assoc xs ys read.0))
in_front_twice xs ys (Err stop) = refl

-- a word that stands for an amount is not empty
word_shortens : (text : List ℕ) (n : ℕ) (word : List ℕ) (a : Amount) → word ≡ take n text → Some a ≡ amount_in word → length (drop n text) < length text
word_shortens [] n [] a is some = absurd (none-some a (sym some))
word_shortens [] zero (w ∷ ws) a is some = absurd cc
word_shortens [] (suc n) (w ∷ ws) a is some = absurd cc
word_shortens (t ∷ ts) zero word a is some = absurd (none-some a (sym (some ∙ ap amount_in is)))
word_shortens (t ∷ ts) (suc n) word a is some = omega (arith, length-drop n ts)

pub item_shortens : (text : List ℕ) (a : Amount) (rest : List ℕ) → Some (a, rest) ≡ item_at text → length rest < length text
item_shortens text a rest is = turn (amount_in (take_while is_word_byte text)) refl is
  where
    turn : (o : Option Amount) → o ≡ amount_in (take_while is_word_byte text) →
        ◌≡◌ {A = Option (Amount × List ℕ)} (Some (a, rest)) (option_map (λ amount. (amount, behind is_word_byte text)) o) → length rest < length text
    turn None e h = absurd (none-some (a, rest) (sym h))
    turn (Some b) e h =
        let same = same_Some (a, rest) (b, behind is_word_byte text) h in
        omega (arith, ap (λ (p : Amount × List ℕ). length p.1) same, word_shortens text (prefix_len is_word_byte text) _ b refl e)

pub sign_shortens : (text : List ℕ) (s : Sign) (rest : List ℕ) → Some (s, rest) ≡ sign_at text → length rest < length text
sign_shortens [] s rest is = absurd (none-some (s, rest) (sym is))
sign_shortens (b ∷ bs) s rest is = grind arith

-- the parts so far and the remaining ones are all parts
abbrev pub IsSoFar : List Part → Sign → List ℕ → Reading (List Part) → Type 0
IsSoFar parts sign rest whole = (m : ℕ) × (length rest ≤ m) × (in_front parts (sum_from m sign rest) ≡ whole)

-- the text after an item: the next sign and its item, or nothing more
abbrev pub behind_item : ℕ → List ℕ → Option (Sign × List ℕ) → Reading (List Part)
behind_item n here next = option_map_or (λ (next : Sign × List ℕ). sum_from n next.0 next.1) next (Ok ([], here))

abbrev pub from_item : ℕ → Sign → List ℕ → Option (Amount × List ℕ) → Reading (List Part)
from_item n sign here item =
    option_map_or (λ (item : Amount × List ℕ). in_front (record { sign = sign; amount = item.0 } ∷ []) (behind_item n (skip item.1) (sign_at (skip item.1))))
    item (Err here)

module _ (sign : Sign) (rest here : List ℕ) (is_here : here ≡ skip rest) where
  stopped : (m : ℕ) → None ≡ item_at here → sum_from m sign rest ≡ Err here
  stopped zero none = ap (λ (h : List ℕ). let r : Reading (List Part) = Err h in r) (sym is_here)
  stopped (suc m) none = ap (λ (h : List ℕ). from_item m sign h (item_at h)) (sym is_here) ∙ ap (from_item m sign here) (sym none)

  module _ (a : Amount) (left : List ℕ) (item : Some (a, left) ≡ item_at here) where
    one_item : (m : ℕ) → sum_from (suc m) sign rest
        ≡ in_front (record { sign = sign; amount = a } ∷ []) (behind_item m (skip left) (sign_at (skip left)))
    one_item m = ap (λ (h : List ℕ). from_item m sign h (item_at h)) (sym is_here) ∙ ap (from_item m sign here) (sym item)

    some_left : length rest ≤ 0 → ⊥
    some_left few =
        omega (arith, few, item_shortens here a left item, ap length is_here, length-drop (prefix_len is_blank rest) rest)

module _ (parts : List Part) (sign : Sign) (rest here : List ℕ) (whole : Reading (List Part)) (is_here : here ≡ skip rest) where
  pub stops : None ≡ item_at here → IsSoFar parts sign rest whole → whole ≡ Err here
  stops none (m, enough, is) = sym is ∙ ap (in_front parts) (stopped sign rest here is_here m none)

  module _ (a : Amount) (left there : List ℕ) (item : Some (a, left) ≡ item_at here) (is_there : there ≡ skip left) where
    abbrev pub part : Part
    part = record { sign = sign; amount = a }

    at_sign : (next : Option (Sign × List ℕ)) (m : ℕ) → next ≡ sign_at there → in_front parts (sum_from (suc m) sign rest) ≡ whole →
        whole ≡ in_front (parts ++ part ∷ []) (behind_item m there next)
    at_sign next m is_next is =
        sym is ∙ ap (in_front parts) (one_item sign rest here is_here a left item m)
        ∙ in_front_twice parts (part ∷ []) (behind_item m (skip left) (sign_at (skip left)))
        ∙ ap (λ (h : List ℕ). in_front (parts ++ part ∷ []) (behind_item m h (sign_at h))) (sym is_there)
        ∙ ap (λ (o : Option (Sign × List ℕ)). in_front (parts ++ part ∷ []) (behind_item m there o)) (sym is_next)

    pub ends : None ≡ sign_at there → IsSoFar parts sign rest whole → whole ≡ Ok (parts ++ part ∷ [], there)
    ends none (zero, enough, is) = absurd (some_left sign rest here is_here a left item enough)
    ends none (suc m, enough, is) = at_sign None m none is ∙ ap (λ (ps : List Part). let r : Reading (List Part) = Ok (ps, there) in r) (append-nil (parts ++ part ∷ []))

    pub sum_shortens : (next : Sign) (more : List ℕ) → Some (next, more) ≡ sign_at there → length more < length rest
    sum_shortens next more some =
        omega (
          arith,
          sign_shortens there next more some,
          ap length is_there,
          length-drop (prefix_len is_blank left) left,
          item_shortens here a left item,
          ap length is_here,
          length-drop (prefix_len is_blank rest) rest,
        )

    pub goes_on : (next : Sign) (more : List ℕ) → Some (next, more) ≡ sign_at there → IsSoFar parts sign rest whole →
        IsSoFar (parts ++ part ∷ []) next more whole
    goes_on next more some (zero, enough, is) = absurd (some_left sign rest here is_here a left item enough)
    goes_on next more some (suc m, enough, is) =
        (m, omega (arith, sum_shortens next more some, enough), sym (at_sign (Some (next, more)) m some is))

pub in_front_none : (reading : Reading (List Part)) → in_front [] reading ≡ reading
in_front_none (Ok read) = refl
in_front_none (Err stop) = refl
