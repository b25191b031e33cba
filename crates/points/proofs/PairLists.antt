-- The list of pairs of parts one after another.
use Rattle.std.specs.Prelude.{◌≡◌, ℕ, ◌+◌, ◌<◌, ◌≤◌, List, [], ◌∷◌, ◌++◌, Option, Some}
use Rattle.std.proofs.Common.{refl, sym, ap, ◌∙◌, arith, length, drop, get_or, append_assoc, subst}
use Rattle.flow.specs.declared.skeleton.Part.{Part}
use Rattle.flow.specs.declared.skeleton.Part.TheOpen.{Part-F, Point, If, While}
use Rattle.flow.specs.declared.skeleton.Part.TheFolds.{fold_out-Part}
use Rattle.flow.specs.Skeletons.{Skeleton, Nil, Step, Fork, Loop, count}
use Rattle.flow.specs.Flow.{head, pair_with, pairs_from}
use Rattle.flow.specs.Working.Parts.{part_step, part_in_front, skeleton_of}
use Rattle.flow.specs.Theory.Joined.{joined, split_turn}

head_joined : (c d : Skeleton) (n : ℕ) (k : Option ℕ) → head (joined c d) n k ≡ head c n (head d (n + count c) k)
head_joined Nil d n k = let e : n ≡ n + 0 = omega arith in ap (λ m. head d m k) e
head_joined (Step r) d n k = refl
head_joined (Fork a b r) d n k = refl
head_joined (Loop a r) d n k = refl

pairs_joined : (c d : Skeleton) (n : ℕ) (k : Option ℕ) →
    pairs_from (joined c d) n k ≡ pairs_from c n (head d (n + count c) k) ++ pairs_from d (n + count c) k
pairs_joined Nil d n k = let e : n ≡ n + 0 = omega arith in ap (λ m. pairs_from d m k) e
pairs_joined (Step r) d n k =
    let e : n + 1 + count r ≡ n + (1 + count r) = omega arith in
    let next = head d (n + (1 + count r)) k in
    let after = ap (λ m. head d m k) e in
    let F : Option ℕ → List (ℕ × ℕ) = λ x. pair_with n x in
    ap (λ x. F x ++ pairs_from (joined r d) (n + 1) k) (head_joined r d (n + 1) k ∙ ap (head r (n + 1)) after)
    ∙ ap (λ l. F (head r (n + 1) next) ++ l)
    (pairs_joined r d (n + 1) k ∙ ap (λ x. pairs_from r (n + 1) x ++ pairs_from d (n + 1 + count r) k) after ∙ ap (λ m. pairs_from r (n + 1) next ++ pairs_from d m k) e)
    ∙ sym (append_assoc (F (head r (n + 1) next)) (pairs_from r (n + 1) next) (pairs_from d (n + (1 + count r)) k))
pairs_joined (Fork a b r) d n k =
    let n3 = n + 1 + count a + count b in
    let e : n3 + count r ≡ n + (1 + count a + count b + count r) = omega arith in
    let next = head d (n + (1 + count a + count b + count r)) k in
    let after = ap (λ m. head d m k) e in
    let F : Option ℕ → List (ℕ × ℕ) = λ x.
    pair_with n (head a (n + 1) x) ++ pair_with n (head b (n + 1 + count a) x) ++ pairs_from a (n + 1) x ++ pairs_from b (n + 1 + count a) x in
    ap (λ x. F x ++ pairs_from (joined r d) n3 k) (head_joined r d n3 k ∙ ap (head r n3) after)
    ∙ ap (λ l. F (head r n3 next) ++ l)
    (pairs_joined r d n3 k ∙ ap (λ x. pairs_from r n3 x ++ pairs_from d (n3 + count r) k) after ∙ ap (λ m. pairs_from r n3 next ++ pairs_from d m k) e)
    ∙ sym (append_assoc (F (head r n3 next)) (pairs_from r n3 next) (pairs_from d (n + (1 + count a + count b + count r)) k))
pairs_joined (Loop a r) d n k =
    let n2 = n + 1 + count a in
    let e : n2 + count r ≡ n + (1 + count a + count r) = omega arith in
    let next = head d (n + (1 + count a + count r)) k in
    let after = ap (λ m. head d m k) e in
    let F : Option ℕ → List (ℕ × ℕ) = λ x. pair_with n (head a (n + 1) (Some n)) ++ pair_with n x ++ pairs_from a (n + 1) (Some n) in
    ap (λ x. F x ++ pairs_from (joined r d) n2 k) (head_joined r d n2 k ∙ ap (head r n2) after)
    ∙ ap (λ l. F (head r n2 next) ++ l)
    (pairs_joined r d n2 k ∙ ap (λ x. pairs_from r n2 x ++ pairs_from d (n2 + count r) k) after ∙ ap (λ m. pairs_from r n2 next ++ pairs_from d m k) e)
    ∙ sym (append_assoc (F (head r n2 next)) (pairs_from r n2 next) (pairs_from d (n + (1 + count a + count r)) k))

-- one turn of the loop over parts
pub pairs_turn : (ps : List Part) (i : ℕ) (p : Part) → p ≡ get_or ps i p → i < length ps →
    (list more : List (ℕ × ℕ)) (n end : ℕ) (k follower : Option ℕ) →
    end ≡ n + count (part_in_front p Nil) → follower ≡ head (skeleton_of (drop (i + 1) ps)) end k → more ≡ list ++ pairs_from (part_in_front p Nil) n follower →
    more ++ pairs_from (skeleton_of (drop (i + 1) ps)) end k ≡ list ++ pairs_from (skeleton_of (drop i ps)) n k
pairs_turn ps i p is h list more n end k follower ee ef em =
    let f = part_in_front p Nil in
    let rest = skeleton_of (drop (i + 1) ps) in
    let m = n + count f in
    ap (λ l. l ++ pairs_from rest end k) (em ∙ ap (λ x. list ++ pairs_from f n x) (ef ∙ ap (λ x. head rest x k) ee))
    ∙ ap (λ x. (list ++ pairs_from f n (head rest m k)) ++ pairs_from rest x k) ee
    ∙ append_assoc list (pairs_from f n (head rest m k)) (pairs_from rest m k)
    ∙ ap (λ l. list ++ l) (sym (pairs_joined f rest n k) ∙ ap (λ c. pairs_from c n k) (sym (split_turn ps i p is h)))

-- ---- the first point

head_of_front : (x : Part-F (Skeleton → Skeleton)) (r : Skeleton) (n : ℕ) (k : Option ℕ) →
    head (part_step x r) n k ≡ Some n
head_of_front Point r n k = refl
head_of_front (If a b) r n k = refl
head_of_front (While a) r n k = refl

pub first_some : (ps : List Part) (n : ℕ) (k : Option ℕ) → 0 < length ps → head (skeleton_of ps) n k ≡ Some n
first_some [] n k h = absurd (omega arith)
first_some (p ∷ ps) n k h =
    ap (λ f. head (f (skeleton_of ps)) n k) (fold_out-Part (Skeleton → Skeleton) part_step p) ∙ head_of_front _ (skeleton_of ps) n k

pub first_none : (ps : List Part) (n : ℕ) (k : Option ℕ) → length ps ≡ 0 → head (skeleton_of ps) n k ≡ k
first_none [] n k e = refl
first_none (p ∷ ps) n k e = absurd (omega (arith, e))

count_of_front : (x : Part-F (Skeleton → Skeleton)) → 1 ≤ count (part_step x Nil)
count_of_front Point = omega arith
count_of_front (If a b) = omega arith
count_of_front (While a) = omega arith

-- a part has a point
pub has_point : (p : Part) → 1 ≤ count (part_in_front p Nil)
has_point p = subst (λ f. 1 ≤ count (f Nil)) (sym (fold_out-Part (Skeleton → Skeleton) part_step p)) (count_of_front _)
