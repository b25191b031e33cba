-- Marks, of which only the first ones are stored.
use Rattle.std.proofs.Common.{◌≡◌, ◌<◌, ◌≤◌, ◌+◌, ◌-◌, ℕ, zero, suc, List, [], ◌∷◌, ◌++◌, length, replicate, set, get_or, Some, None, Option}
use Rattle.std.proofs.Common.{refl, sym, ap, ◌∙◌, subst, arith, length-append}
use Rattle.std.specs.Prelude.{slice_get, slice_index_or}
use Rattle.std.proofs.lemmas.List.{length-replicate, replicate_more}
use Rattle.core_lang.specs.declared.value.Value.{Value}
use Rattle.runner_machine.specs.Working.Noted.{NotesOf, padded, if_of, led_by, number_of, with_note_at, with_note, IsFilled}

zero_at : (n i : ℕ) → i < n → slice_get {X = ℕ} (replicate {A = ℕ} n 0) i ≡ Some 0
zero_at zero i lt = absurd (omega (arith, lt))
zero_at (suc n) zero lt = refl
zero_at (suc n) (suc i) lt = zero_at n i (omega (arith, lt))

-- the mark at an index, stored or not
padded_from : (xs : List ℕ) (n i : ℕ) → i < length xs + n → slice_get {X = ℕ} (xs ++ replicate {A = ℕ} n 0) i ≡ Some (get_or xs i 0)
padded_from [] n i lt = zero_at n i (omega (arith, lt))
padded_from (x ∷ xs) n zero lt = refl
padded_from (x ∷ xs) n (suc i) lt = padded_from xs n i (omega (arith, lt))

pub padded_at : (marks : List ℕ) (long place : ℕ) → place < long →
    slice_get (padded marks long) place ≡ Some (slice_index_or marks place 0)
padded_at marks long place lt = padded_from marks (long - length marks) place (omega (arith, lt))

pub padded_long : (marks : List ℕ) (long : ℕ) → length marks ≤ long → length (padded marks long) ≡ long
padded_long marks long le =
    omega (arith, le, length-append marks (replicate {A = ℕ} (long - length marks) 0), length-replicate {A = ℕ} (long - length marks) 0)

glue : (xs ys zs : List ℕ) → (xs ++ ys) ++ zs ≡ xs ++ (ys ++ zs)
glue [] ys zs = refl
glue (x ∷ xs) ys zs = ap (λ (t : List ℕ). x ∷ t) (glue xs ys zs)

abbrev zeros : ℕ → List ℕ
zeros n = replicate {A = ℕ} n 0

more_zeros : (a b : ℕ) → zeros a ++ zeros b ≡ zeros (a + b)
more_zeros zero b = ap zeros (let e : b ≡ 0 + b = omega arith in e)
more_zeros (suc a) b = ap (λ (t : List ℕ). 0 ∷ t) (more_zeros a b) ∙ ap zeros (let e : suc (a + b) ≡ suc a + b = omega arith in e)

-- storing more marks does not change a mark
pub padded_filled : (marks marks' : List ℕ) (place long : ℕ) → length marks ≤ long → place < long → IsFilled marks place marks' →
    padded marks' long ≡ padded marks long
padded_filled marks marks' place long le lt f =
    let all : length marks' ≡ length marks + f.more = ap length f.is ∙ length-append marks (zeros f.more) ∙ ap (λ (n : ℕ). length marks + n) (length-replicate {A = ℕ} f.more 0) in
    let within = f.within long le lt in
    let rest : f.more + (long - length marks') ≡ long - length marks = omega (arith, all, within) in
    ap (λ (ms : List ℕ). ms ++ zeros (long - length marks')) f.is
    ∙ glue marks (zeros f.more) (zeros (long - length marks'))
    ∙ ap (λ (zs : List ℕ). marks ++ zs) (more_zeros f.more (long - length marks') ∙ ap zeros rest)

set_front : (xs ys : List ℕ) (i v : ℕ) → i < length xs → set (xs ++ ys) i v ≡ set xs i v ++ ys
set_front [] ys i v lt = absurd (omega (arith, lt))
set_front (x ∷ xs) ys zero v lt = refl
set_front (x ∷ xs) ys (suc i) v lt = ap (λ (t : List ℕ). x ∷ t) (set_front xs ys i v (omega (arith, lt)))

length_set : (xs : List ℕ) (i v : ℕ) → length (set xs i v) ≡ length xs
length_set [] i v = refl
length_set (x ∷ xs) zero v = refl
length_set (x ∷ xs) (suc i) v = ap suc (length_set xs i v)

-- a mark is set
pub padded_set : (marks : List ℕ) (place long v : ℕ) → place < length marks →
    padded (set marks place v) long ≡ set (padded marks long) place v
padded_set marks place long v lt =
    ap (λ (n : ℕ). set marks place v ++ zeros (long - n)) (length_set marks place v)
    ∙ sym (set_front marks (zeros (long - length marks)) place v lt)

-- one more mark is stored
pub one_zero_more : (marks now : List ℕ) (more : ℕ) → now ≡ marks ++ replicate more 0 → now ++ 0 ∷ [] ≡ marks ++ replicate (more + 1) 0
one_zero_more marks now more is =
    ap (λ (ms : List ℕ). ms ++ 0 ∷ []) is ∙ glue marks (zeros more) (0 ∷ []) ∙ ap (λ (zs : List ℕ). marks ++ zs) (let z : ℕ = 0 in replicate_more more z)

-- ---- notes

pub number_padded : (marks : List ℕ) (list : List (ℕ × Value)) (long room place cell mark : ℕ) → place < long →
    mark ≡ slice_index_or marks place 0 →
    number_of (record { marks = padded marks long; list = list; room = room }) place cell ≡ if_of cell mark (slice_get list mark)
number_padded marks list long room place cell mark lt e =
    ap (led_by list cell) (padded_at marks long place lt) ∙ ap (λ (m : ℕ). if_of cell m (slice_get list m)) (sym e)

-- the cell at a place is noted for the first time
pub noted_anew : (marks marks' : List ℕ) (list list' : List (ℕ × Value)) (long room place cell n : ℕ) (v : Value) (now : NotesOf) →
    record { marks = padded marks long; list = list; room = room } ≡ now → number_of now place cell ≡ None → length marks ≤ long →
    place < long → IsFilled marks place marks' → n ≡ length list → list' ≡ list ++ (cell, v) ∷ [] →
    record { marks = padded (set marks' place n) long; list = list'; room = room } ≡ with_note now place cell v
noted_anew marks marks' list list' long room place cell n v now is none le lt filled count more =
    let old : NotesOf = record { marks = padded marks long; list = list; room = room } in
    let new : NotesOf = record { marks = padded (set marks' place n) long; list = list'; room = room } in
    let before : number_of old place cell ≡ None = ap (λ (w : NotesOf). number_of w place cell) is ∙ none in
    let set_so : padded (set marks' place n) long ≡ set (padded marks long) place (length list) =
    padded_set marks' place long n filled.there
    ∙ ap (λ (ms : List ℕ). set ms place n) (padded_filled marks marks' place long le lt filled)
    ∙ ap (set (padded marks long) place) count in
    let there : new ≡ with_note_at old place cell v None = λ i. record { marks = set_so i; list = more i; room = room } in
    subst (λ (w : NotesOf). new ≡ with_note w place cell v) is (there ∙ ap (with_note_at old place cell v) (sym before))
