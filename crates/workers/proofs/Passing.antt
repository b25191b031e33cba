-- The answers and the steps of a thread's entries, by parts of a log.
use Rattle.std.proofs.Common.{◌≡◌, ◌≢◌, ℕ, ◌+◌, ◌<◌, ◌≤◌, ◌==◌, ◌&&◌, Bool, true, false, if◌then◌else◌, List, [], ◌∷◌}
use Rattle.std.proofs.Common.{◌++◌, length, drop, refl, sym, ap, ◌∙◌, subst, arith, ne_eqb, eq-eqb}
use Rattle.std.proofs.lemmas.List.{append-nil, drop_at}
use Rattle.std.proofs.lemmas.List.Elements.{All-nil, All-cons, All-head, All-tail}
use Rattle.history.specs.Commits.{Commit}
use Rattle.workers.specs.Seats.{ReplyOf, SeatOf, AllBelow, AreBegunInTurn}
use Rattle.workers.specs.Logs.{Begins, NoneOf}
use Rattle.workers.specs.Answers.{reply_at, replies_of, in_step}
use Rattle.lowering.specs.Plans.{Plan}
use Rattle.workers.specs.Working.Within.{IsSeat, IsIn, SeesOwn}

-- ---- answers

abbrev first_if : Bool → ReplyOf → List ReplyOf → List ReplyOf
first_if b r rs = if b then r ∷ rs else rs

-- the answers of the first entries, followed by those of the others
pub replies-append : (t p : ℕ) (xs ys : List Commit) →
    replies_of t p (xs ++ ys) ≡ replies_of t p xs ++ replies_of t (p + length xs) ys
replies-append t p [] ys = ap (λ (n : ℕ). replies_of t n ys) (omega arith)
replies-append t p (x ∷ xs) ys =
    let place : (p + 1) + length xs ≡ p + length (x ∷ xs) = omega arith in
    let rest = replies-append t (p + 1) xs ys ∙ ap (λ (n : ℕ). replies_of t (p + 1) xs ++ replies_of t n ys) place in
    put (x.thread == t) (reply_at p x) (replies_of t (p + 1) (xs ++ ys)) (replies_of t (p + 1) xs) (replies_of t (p + length (x ∷ xs)) ys) rest
  where
    put : (b : Bool) (r : ReplyOf) (all front back : List ReplyOf) → all ≡ front ++ back →
        first_if b r all ≡ first_if b r front ++ back
    put true r all front back is = ap (λ (rs : List ReplyOf). r ∷ rs) is
    put false r all front back is = is

-- entries of other threads have no answers of this thread
pub replies-none : (t p : ℕ) (xs : List Commit) → NoneOf t xs → replies_of t p xs ≡ []
replies-none t p [] others = refl
replies-none t p (x ∷ xs) others =
    let other : (x.thread == t) ≡ false = ne_eqb x.thread t (All-head (λ (c : Commit). c.thread ≢ t) x xs others) in
    rw other (replies-none t (p + 1) xs (All-tail (λ (c : Commit). c.thread ≢ t) x xs others))

-- an entry of the thread has one answer
pub replies-one : (t p : ℕ) (e : Commit) → e.thread ≡ t → replies_of t p (e ∷ []) ≡ reply_at p e ∷ []
replies-one t p e own =
    let is : (e.thread == t) ≡ true = eq-eqb e.thread t own in rw is refl

-- the positions are positions of the log
pub replies-below : (t p : ℕ) (xs : List Commit) → AllBelow (p + length xs) (replies_of t p xs)
replies-below t p [] = All-nil (λ (r : ReplyOf). r.position < p + 0)
replies-below t p (x ∷ xs) =
    let place : (p + 1) + length xs ≡ p + length (x ∷ xs) = omega arith in
    let rest = subst (λ (n : ℕ). AllBelow n (replies_of t (p + 1) xs)) place (replies-below t (p + 1) xs) in
    put (x.thread == t) (reply_at p x) (replies_of t (p + 1) xs) (omega arith) rest
  where
    put : (b : Bool) (r : ReplyOf) (rs : List ReplyOf) → r.position < p + length (x ∷ xs) →
        AllBelow (p + length (x ∷ xs)) rs →
        AllBelow (p + length (x ∷ xs)) (first_if b r rs)
    put true r rs here rest = All-cons (λ (r : ReplyOf). r.position < p + length (x ∷ xs)) r rs here rest
    put false r rs here rest = rest

-- ---- begins

-- one more answer, which began after the positions of all others
pub begun-push : (floor : ℕ) (rs : List ReplyOf) (r : ReplyOf) → AreBegunInTurn floor rs → floor ≤ r.begun → AllBelow r.begun rs →
    r.begun ≤ r.position → AreBegunInTurn floor (rs ++ r ∷ [])
begun-push floor [] r begun le below most = (le, most, tt)
begun-push floor (x ∷ rs) r begun le below most =
    let first : x.position < r.begun = All-head (λ (z : ReplyOf). z.position < r.begun) x rs below in
    (begun.0, begun.1, begun-push (x.position + 1) rs r begun.2 (omega (arith, first)) (All-tail (λ (z : ReplyOf). z.position < r.begun) x rs below) most)

-- ---- steps

-- the steps of the first entries rise from `k` on, and those of the others from there on
pub steps-append : (t k p : ℕ) (xs ys : List Commit) → in_step t k xs ≡ true →
    in_step t (k + length (replies_of t p xs)) ys ≡ true →
    in_step t k (xs ++ ys) ≡ true
steps-append t k p [] ys front back = ap (λ (n : ℕ). in_step t n ys) (omega arith) ∙ back
steps-append t k p (x ∷ xs) ys front back =
    put (x.thread == t) (x.step == k) (steps-append t (k + 1) (p + 1) xs ys) (steps-append t k (p + 1) xs ys) front back
  where
    put : (b up : Bool) →
        (in_step t (k + 1) xs ≡ true → in_step t ((k + 1) + length (replies_of t (p + 1) xs)) ys ≡ true → in_step t (k + 1) (xs ++ ys) ≡ true) →
        (in_step t k xs ≡ true → in_step t (k + length (replies_of t (p + 1) xs)) ys ≡ true → in_step t k (xs ++ ys) ≡ true) →
        (if b then (up && in_step t (k + 1) xs) else in_step t k xs) ≡ true →
        in_step t (k + length (first_if b (reply_at p x) (replies_of t (p + 1) xs))) ys ≡ true →
        (if b then (up && in_step t (k + 1) (xs ++ ys)) else in_step t k (xs ++ ys)) ≡ true
    put true true own other front back =
        let place : k + length (reply_at p x ∷ replies_of t (p + 1) xs) ≡ (k + 1) + length (replies_of t (p + 1) xs) = omega arith in
        own front (ap (λ (n : ℕ). in_step t n ys) (sym place) ∙ back)
    put true false own other front back = absurd (cc front)
    put false up own other front back = other front back

pub steps-none : (t k : ℕ) (xs : List Commit) → NoneOf t xs → in_step t k xs ≡ true
steps-none t k [] others = refl
steps-none t k (x ∷ xs) others =
    let other : (x.thread == t) ≡ false = ne_eqb x.thread t (All-head (λ (c : Commit). c.thread ≢ t) x xs others) in
    rw other (steps-none t k xs (All-tail (λ (c : Commit). c.thread ≢ t) x xs others))

pub steps-one : (t k : ℕ) (e : Commit) → e.thread ≡ t → e.step ≡ k → in_step t k (e ∷ []) ≡ true
steps-one t k e own step =
    let is : (e.thread == t) ≡ true = eq-eqb e.thread t own in
    let up : (e.step == k) ≡ true = eq-eqb e.step k step in rw (is, up) refl

-- ---- a seat's own entry after those of others

-- one more answer
pub replies_more : (t position : ℕ) (e : Commit) (old new : List Commit) → SeesOwn t position e old new → e.thread ≡ t →
    replies_of t 0 new ≡ replies_of t 0 old ++ reply_at position e ∷ []
replies_more t position e old new seen own =
    let between = seen.between in
    let first : replies_of t 0 (old ++ between) ≡ replies_of t 0 old =
    replies-append t 0 old between ∙ ap (λ (rs : List ReplyOf). replies_of t 0 old ++ rs) (replies-none t (0 + length old) between seen.others)
    ∙ append-nil (replies_of t 0 old) in
    ap (replies_of t 0) seen.is ∙ replies-append t 0 (old ++ between) (e ∷ [])
    ∙ ap (λ (rs : List ReplyOf). rs ++ replies_of t (0 + length (old ++ between)) (e ∷ [])) first
    ∙ ap (λ (rs : List ReplyOf). replies_of t 0 old ++ rs) (replies-one t (0 + length (old ++ between)) e own)
    ∙ ap (λ (n : ℕ). replies_of t 0 old ++ reply_at n e ∷ []) (omega (arith, seen.long))

-- one more step
pub steps_more : (t position : ℕ) (e : Commit) (old new : List Commit) → SeesOwn t position e old new → e.thread ≡ t →
    e.step ≡ length (replies_of t 0 old) → in_step t 0 old ≡ true → in_step t 0 new ≡ true
steps_more t position e old new seen own step steps =
    let between = seen.between in
    let first : in_step t 0 (old ++ between) ≡ true = steps-append t 0 0 old between steps (steps-none t (0 + length (replies_of t 0 old)) between seen.others) in
    let count : length (replies_of t 0 (old ++ between)) ≡ length (replies_of t 0 old) =
    ap length (replies-append t 0 old between ∙ ap (λ (rs : List ReplyOf). replies_of t 0 old ++ rs) (replies-none t (0 + length old) between seen.others)
    ∙ append-nil (replies_of t 0 old)) in
    ap (in_step t 0) seen.is ∙ steps-append t 0 0 (old ++ between) (e ∷ []) first (steps-one t (0 + length (replies_of t 0 (old ++ between))) e own (omega (arith, step, count)))

-- ---- a history that goes on without the thread

pub answers_in : (plan : Plan) (t step count thread : ℕ) (s : List Commit) (seat : SeatOf) (log : List Commit) →
    record { thread = t; answers = replies_of t 0 s; seen = s } ≡ seat → IsSeat plan t step s → Begins s log →
    count ≡ length s → thread ≡ seat.thread → NoneOf thread (drop count log) → IsIn log seat
answers_in plan t step count thread s seat log view kept begins long same others =
    let rest = begins.rest in
    let own : thread ≡ t = same ∙ ap (λ (x : SeatOf). x.thread) (sym view) in
    let behind : drop count log ≡ rest = ap (drop count) begins.is ∙ drop_at s rest count (sym long) in
    let none : NoneOf t rest = subst (λ (n : ℕ). NoneOf n rest) own (subst (NoneOf thread) behind others) in
    let is : IsIn log (record { thread = t; answers = replies_of t 0 s; seen = s }) = record {
      answers = record {
        answers =
            sym (ap (replies_of t 0) begins.is ∙ replies-append t 0 s rest
            ∙ ap (λ (rs : List ReplyOf). replies_of t 0 s ++ rs) (replies-none t (0 + length s) rest none) ∙ append-nil (replies_of t 0 s));
        begun = kept.begun;
        steps =
            ap (in_step t 0) begins.is
            ∙ steps-append t 0 0 s rest kept.steps (steps-none t (0 + length (replies_of t 0 s)) rest none);
      };
      seen = begins;
    } in
    subst (IsIn log) view is
