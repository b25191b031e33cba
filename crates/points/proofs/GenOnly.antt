-- A forward may analysis that kills nothing: two passes over a loop gather the sets of all its points.
use Rattle.std.specs.Prelude.{◌≡◌, ℕ, ◌+◌, ◌||◌, ◌&&◌, not, Bool, true, false, ◌∷◌, ◌++◌, replicate}
use Rattle.std.proofs.Common.{refl, sym, ap, ◌∙◌, arith, add-one}
use Rattle.std.proofs.lemmas.Bool.{or_left, or_right, false≢true}
use Rattle.std.proofs.lemmas.List.{replicate-append-replicate}
use Rattle.flow.specs.Skeletons.{Skeleton, Nil, Step, Fork, Loop, count}
use Rattle.flow.specs.Theory.Gather.{or, gather_keeps}
use Rattle.flow.specs.Theory.Held.{through, holds}
use Rattle.flow.specs.Theory.MustHold.{past}
use Rattle.flow.specs.Theory.Passes.{gather, befores}

same : (x y : Bool) → (x ≡ true → y ≡ true) → (y ≡ true → x ≡ true) → x ≡ y
same true y there back = sym (there refl)
same false true there back = back refl
same false false there back = refl

-- as the theories write a transfer function
turned : (a b : Bool) → ((a || b) && true) ≡ (b || a)
turned true true = refl
turned true false = refl
turned false true = refl
turned false false = refl

kept : (x y : Bool) → (x ≡ true → y ≡ true) → (x || y) ≡ y
kept true y there = sym (there refl)
kept false y there = refl

kept_last : (x y : Bool) → (y ≡ true → x ≡ true) → (x || y) ≡ x
kept_last true y back = refl
kept_last false true back = sym (back refl)
kept_last false false back = refl

-- a test that keeps what is true, made twice
again : (f : Bool → Bool) → ((x : Bool) → x ≡ true → f x ≡ true) → (x y : Bool) → f x ≡ y → f y ≡ y
again f keeps x true e = keeps true refl
again f keeps true false e = absurd (false≢true (sym e ∙ keeps true refl))
again f keeps false false e = e

more : (n : ℕ) (s : Bool) → s ∷ replicate n s ≡ replicate (1 + n) s
more n s = let e : n + 1 ≡ 1 + n = omega arith in ap (λ m. replicate m s) (sym (add-one n) ∙ e)

module _ (u : ℕ → Bool) where
  -- if nothing more is gathered, the set before each point is the same
  even : (c : Skeleton) (n : ℕ) (x s : Bool) → x ≡ s → gather or u c n x ≡ s →
      befores or u c n x ≡ replicate (count c) s
  even Nil n x s e h = refl
  even (Step r) n x s e h =
      let last = λ (t : (x || u n) ≡ true). sym h ∙ gather_keeps u r (n + 1) (x || u n) t in
      let here : (x || u n) ≡ s = same (x || u n) s last (λ t. or_left _ _ (e ∙ t)) in
      ap (λ l. x ∷ l) (even r (n + 1) (x || u n) s here h) ∙ ap (λ z. z ∷ replicate (count r) s) e ∙ more (count r) s
  even (Fork a b r) n x s e h =
      let n2 = n + 1 + count a in
      let n3 = n + 1 + count a + count b in
      let y = x || u n in
      let ga = gather or u a (n + 1) y in
      let gb = gather or u b n2 y in
      let last = λ (t : (ga || gb) ≡ true). sym h ∙ gather_keeps u r n3 (ga || gb) t in
      let from = λ (t : s ≡ true). or_left x (u n) (e ∙ t) in
      let of_a = λ (t : y ≡ true). gather_keeps u a (n + 1) y t in
      let of_b = λ (t : y ≡ true). gather_keeps u b n2 y t in
      let here : y ≡ s = same y s (λ t. last (or_left ga gb (of_a t))) from in
      let ea = even a (n + 1) y s here (same ga s (λ t. last (or_left ga gb t)) (λ t. of_a (from t))) in
      let eb = even b n2 y s here (same gb s (λ t. last (or_right ga gb t)) (λ t. of_b (from t))) in
      let er = even r n3 (ga || gb) s (same (ga || gb) s last (λ t. or_left ga gb (of_a (from t)))) h in
      let sum : 1 + (count a + (count b + count r)) ≡ 1 + count a + count b + count r = omega arith in
      let A = replicate (count a) s in
      let B = replicate (count b) s in
      ap (λ z. z ∷ (befores or u a (n + 1) y ++ (befores or u b n2 y ++ befores or u r n3 (ga || gb)))) e
      ∙ ap (λ z. s ∷ (z ++ (befores or u b n2 y ++ befores or u r n3 (ga || gb)))) ea
      ∙ ap (λ z. s ∷ (A ++ (z ++ befores or u r n3 (ga || gb)))) eb ∙ ap (λ z. s ∷ (A ++ (B ++ z))) er
      ∙ ap (λ z. s ∷ (A ++ z)) (replicate-append-replicate (count b) (count r) s)
      ∙ ap (λ z. s ∷ z) (replicate-append-replicate (count a) (count b + count r) s)
      ∙ more (count a + (count b + count r)) s ∙ ap (λ m. replicate m s) sum
  even (Loop a r) n x s e h =
      let n2 = n + 1 + count a in
      let y = x || u n in
      let g = gather or u a (n + 1) y in
      let last = λ (t : g ≡ true). sym h ∙ gather_keeps u r n2 g t in
      let from = λ (t : s ≡ true). gather_keeps u a (n + 1) y (or_left x (u n) (e ∙ t)) in
      let here : g ≡ s = same g s last from in
      let sum : 1 + (count a + count r) ≡ 1 + count a + count r = omega arith in
      ap (λ z. g ∷ (replicate (count a) g ++ z)) (even r n2 g s here h)
      ∙ ap (λ z. z ∷ (replicate (count a) z ++ replicate (count r) s)) here
      ∙ ap (λ z. s ∷ z) (replicate-append-replicate (count a) (count r) s)
      ∙ more (count a + count r) s ∙ ap (λ m. replicate m s) sum

module _ (u b : ℕ → Bool) (none : (p : ℕ) → b p ≡ false) where
  pub adds : (n : ℕ) (s : Bool) → past u b n s ≡ (s || u n)
  adds n s = ap (λ x. (u n || s) && not x) (none n) ∙ turned (u n) s

  -- the value before a loop's condition and that after the loop, given the value after a turn
  module _ (c : Skeleton) (n : ℕ) (s t : Bool) (is : t ≡ gather or u c (n + 1) (s || u n)) where
    at_loop : (s || t) ≡ gather or u c (n + 1) (s || u n)
    at_loop = ap (or s) is ∙ kept s _ (λ h. gather_keeps u c (n + 1) (s || u n) (or_left s (u n) h))

    out_of_loop : past u b n (s || t) ≡ gather or u c (n + 1) (s || u n)
    out_of_loop =
        adds n (s || t) ∙ ap (λ z. z || u n) at_loop
        ∙ kept_last _ (u n) (λ h. gather_keeps u c (n + 1) (s || u n) (or_right s (u n) h))

  pub through_gen : (c : Skeleton) (n : ℕ) (s : Bool) → through (past u b) or c n s ≡ gather or u c n s
  through_gen Nil n s = refl
  through_gen (Step r) n s = through_gen r (n + 1) _ ∙ ap (gather or u r (n + 1)) (adds n s)
  through_gen (Fork x y r) n s =
      let n2 = n + 1 + count x in
      let e = adds n s in
      through_gen r (n2 + count y) _ ∙ ap (gather or u r (n2 + count y))
      (ap (λ z. z || through (past u b) or y n2 (past u b n s)) (through_gen x (n + 1) _ ∙ ap (gather or u x (n + 1)) e)
      ∙ ap (or (gather or u x (n + 1) (s || u n))) (through_gen y n2 _ ∙ ap (gather or u y n2) e))
  through_gen (Loop x r) n s =
      let round = through_gen x (n + 1) (past u b n s) ∙ ap (gather or u x (n + 1)) (adds n s) in
      through_gen r (n + 1 + count x) _ ∙ ap (gather or u r (n + 1 + count x)) (out_of_loop x n s _ round)

  pub holds_gen : (c : Skeleton) (n : ℕ) (s : Bool) → holds (past u b) or c n s ≡ befores or u c n s
  holds_gen Nil n s = refl
  holds_gen (Step r) n s = ap (λ l. s ∷ l) (holds_gen r (n + 1) _ ∙ ap (befores or u r (n + 1)) (adds n s))
  holds_gen (Fork x y r) n s =
      let n2 = n + 1 + count x in
      let n3 = n + 1 + count x + count y in
      let P = past u b in
      let e = adds n s in
      let one = through P or x (n + 1) (P n s) in
      let two = through P or y n2 (P n s) in
      let all = gather or u x (n + 1) (s || u n) in
      let A = befores or u x (n + 1) (s || u n) in
      let B = befores or u y n2 (s || u n) in
      let joined : or one two ≡ or all (gather or u y n2 (s || u n)) =
      ap (λ z. or z two) (through_gen x (n + 1) _ ∙ ap (gather or u x (n + 1)) e)
      ∙ ap (or all) (through_gen y n2 _ ∙ ap (gather or u y n2) e) in
      ap (λ l. s ∷ (l ++ (holds P or y n2 (P n s) ++ holds P or r n3 (or one two))))
      (holds_gen x (n + 1) _ ∙ ap (befores or u x (n + 1)) e)
      ∙ ap (λ l. s ∷ (A ++ (l ++ holds P or r n3 (or one two)))) (holds_gen y n2 _ ∙ ap (befores or u y n2) e)
      ∙ ap (λ l. s ∷ (A ++ (B ++ l))) (holds_gen r n3 _ ∙ ap (befores or u r n3) joined)
  holds_gen (Loop x r) n s =
      let n2 = n + 1 + count x in
      let P = past u b in
      let all = gather or u x (n + 1) (s || u n) in
      let t = through P or x (n + 1) (P n s) in
      let round : t ≡ all = through_gen x (n + 1) _ ∙ ap (gather or u x (n + 1)) (adds n s) in
      let idle = again (gather or u x (n + 1)) (gather_keeps u x (n + 1)) (s || u n) all refl in
      ap (λ z. z ∷ (holds P or x (n + 1) (P n (or s t)) ++ holds P or r n2 (P n (or s t)))) (at_loop x n s t round)
      ∙ ap (λ z. all ∷ (holds P or x (n + 1) z ++ holds P or r n2 z)) (out_of_loop x n s t round)
      ∙ ap (λ z. all ∷ (z ++ holds P or r n2 all)) (holds_gen x (n + 1) all ∙ even u x (n + 1) all all refl idle)
      ∙ ap (λ z. all ∷ (replicate (count x) all ++ z)) (holds_gen r n2 all)
