-- The list of the ends of blocks, and what is read from it.
use Rattle.std.proofs.Common.{◌≡◌, ℕ, ◌+◌, ◌<◌, List, [], ◌∷◌, ◌++◌, length, drop, get_or, set, refl, sym, ap, ◌∙◌}
use Rattle.std.proofs.Common.{subst, arith, append_assoc, append-nil, length-append}
use Rattle.std.proofs.Math.Seq.{set-append_seam, get_or-append_seam}
use Rattle.flow.specs.declared.skeleton.Part.{Part}
use Rattle.flow.specs.declared.skeleton.Part.TheOpen.{Part-F, Point, If, While}
use Rattle.flow.specs.declared.skeleton.Part.TheFolds.{fold_out-Part}
use Rattle.flow.specs.Skeletons.{Skeleton, Nil, Step, Fork, Loop, count}
use Rattle.flow.specs.Working.Parts.{part_step, part_in_front, skeleton_of}
use Rattle.flow.specs.Theory.Joined.{joined, split_turn}
use Rattle.points.specs.declared.ends.Ends.{Ends}
use Rattle.points.specs.Working.Ends.{ends_from, IsEndAt, AreEndsAt}

length_ends : (c : Skeleton) (n : ℕ) → length (ends_from c n) ≡ count c
length_ends Nil n = refl
length_ends (Step r) n = omega (arith, length_ends r (n + 1))
length_ends (Fork a b r) n =
    simp (length-append, length_ends a (n + 1), length_ends b (n + 1 + count a), length_ends r (n + 1 + count a + count b)) (omega arith)
length_ends (Loop a r) n = simp (length-append, length_ends a (n + 1), length_ends r (n + 1 + count a)) (omega arith)

-- ---- parts one after another

ends_joined : (c d : Skeleton) (n : ℕ) → ends_from (joined c d) n ≡ ends_from c n ++ ends_from d (n + count c)
ends_joined Nil d n = let e : n ≡ n + 0 = omega arith in ap (λ m. ends_from d m) e
ends_joined (Step r) d n =
    let e : n + 1 + count r ≡ n + (1 + count r) = omega arith in
    ap (λ l. record { middle = n + 1; end = n + 1 } ∷ l) (ends_joined r d (n + 1) ∙ ap (λ m. ends_from r (n + 1) ++ ends_from d m) e)
ends_joined (Fork a b r) d n =
    let n3 = n + 1 + count a + count b in
    let e : n3 + count r ≡ n + (1 + count a + count b + count r) = omega arith in
    let la = ends_from a (n + 1) in
    let lb = ends_from b (n + 1 + count a) in
    let lr = ends_from r n3 in
    let ld = ends_from d (n + (1 + count a + count b + count r)) in
    ap (λ l. record { middle = n + 1 + count a; end = n3 } ∷ (la ++ (lb ++ l))) (ends_joined r d n3 ∙ ap (λ m. lr ++ ends_from d m) e)
    ∙ ap (λ l. record { middle = n + 1 + count a; end = n3 } ∷ l) (sym (append_assoc la (lb ++ lr) ld ∙ ap (λ l. la ++ l) (append_assoc lb lr ld)))
ends_joined (Loop a r) d n =
    let n2 = n + 1 + count a in
    let e : n2 + count r ≡ n + (1 + count a + count r) = omega arith in
    let la = ends_from a (n + 1) in
    let lr = ends_from r n2 in
    let ld = ends_from d (n + (1 + count a + count r)) in
    ap (λ l. record { middle = n2; end = n2 } ∷ (la ++ l)) (ends_joined r d n2 ∙ ap (λ m. lr ++ ends_from d m) e)
    ∙ ap (λ l. record { middle = n2; end = n2 } ∷ l) (sym (append_assoc la lr ld))

-- one turn of the loop over parts
pub ends_turn : (ps : List Part) (i : ℕ) (p : Part) → p ≡ get_or ps i p → i < length ps → (now more : List Ends) →
    more ≡ now ++ ends_from (part_in_front p Nil) (length now) →
    more ++ ends_from (skeleton_of (drop (i + 1) ps)) (length more) ≡ now ++ ends_from (skeleton_of (drop i ps)) (length now)
ends_turn ps i p is h now more em =
    let f = part_in_front p Nil in
    let rest = skeleton_of (drop (i + 1) ps) in
    let k = length now in
    let F = ends_from f k in
    let len : length more ≡ k + count f = ap length em ∙ length-append now F ∙ ap (λ m. k + m) (length_ends f k) in
    ap (λ m. more ++ ends_from rest m) len ∙ ap (λ l. l ++ ends_from rest (k + count f)) em ∙ append_assoc now F (ends_from rest (k + count f))
    ∙ ap (λ l. now ++ l) (sym (ends_joined f rest k) ∙ ap (λ c. ends_from c k) (sym (split_turn ps i p is h)))

-- ---- one part

pub step_ends : (c : Skeleton) (old new : List Ends) (n : ℕ) → c ≡ Step Nil → n ≡ length old →
    new ≡ old ++ record { middle = n + 1; end = n + 1 } ∷ [] → new ≡ old ++ ends_from c (length old)
step_ends c old new n is en e1 =
    e1 ∙ ap (λ m. old ++ record { middle = m + 1; end = m + 1 } ∷ []) en ∙ ap (λ x. old ++ ends_from x (length old)) (sym is)

-- the list after a point's place and its first block
module _ (a : Skeleton) (old l1 l2 : List Ends) (e0 : Ends) (e1 : l1 ≡ old ++ e0 ∷ []) (e2 : l2 ≡ l1 ++ ends_from a (length l1)) where
  one_block : l2 ≡ old ++ (e0 ∷ ends_from a (length old + 1))
  one_block =
      let len : length l1 ≡ length old + 1 = ap length e1 ∙ length-append old (e0 ∷ []) in
      e2 ∙ ap (λ m. l1 ++ ends_from a m) len ∙ ap (λ l. l ++ ends_from a (length old + 1)) e1 ∙ append_assoc old (e0 ∷ []) (ends_from a (length old + 1))

  one_length : length l2 ≡ length old + 1 + count a
  one_length =
      let tail = ends_from a (length old + 1) in
      let more : length (e0 ∷ tail) ≡ count a + 1 = omega (arith, length_ends a (length old + 1)) in
      omega (arith, ap length one_block ∙ length-append old (e0 ∷ tail), more)

  pub loop_ends : (c : Skeleton) (l3 : List Ends) (n end : ℕ) → c ≡ Loop a Nil → n ≡ length old → end ≡ length l2 →
      l3 ≡ set l2 n (record { middle = end; end = end }) → l3 ≡ old ++ ends_from c (length old)
  loop_ends c l3 n end is en ee e3 =
      let k = length old in
      let A = ends_from a (k + 1) in
      e3 ∙ ap (λ l. set l n (record { middle = end; end = end })) one_block ∙ ap (λ m. set (old ++ (e0 ∷ A)) m (record { middle = end; end = end })) en
      ∙ set-append_seam old e0 A (record { middle = end; end = end }) ∙ ap (λ m. old ++ (record { middle = m; end = m } ∷ A)) (ee ∙ one_length)
      ∙ ap (λ l. old ++ (record { middle = k + 1 + count a; end = k + 1 + count a } ∷ l)) (sym (append-nil A))
      ∙ ap (λ x. old ++ ends_from x k) (sym is)

  pub fork_ends : (c b : Skeleton) (l3 l4 : List Ends) (n middle end : ℕ) → c ≡ Fork a b Nil → n ≡ length old →
      middle ≡ length l2 →
      l3 ≡ l2 ++ ends_from b (length l2) → end ≡ length l3 → l4 ≡ set l3 n (record { middle = middle; end = end }) → l4 ≡ old ++ ends_from c (length old)
  fork_ends c b l3 l4 n middle end is en em e3 ee e4 =
      let k = length old in
      let A = ends_from a (k + 1) in
      let B = ends_from b (k + 1 + count a) in
      let both : l3 ≡ old ++ (e0 ∷ (A ++ B)) =
      e3 ∙ ap (λ m. l2 ++ ends_from b m) one_length ∙ ap (λ l. l ++ B) one_block ∙ append_assoc old (e0 ∷ A) B in
      let len : length l3 ≡ k + 1 + count a + count b =
      ap length e3 ∙ length-append l2 (ends_from b (length l2)) ∙ ap (λ m. length l2 + m) (length_ends b (length l2)) ∙ ap (λ m. m + count b) one_length in
      e4 ∙ ap (λ l. set l n (record { middle = middle; end = end })) both ∙ ap (λ m. set (old ++ (e0 ∷ (A ++ B))) m (record { middle = middle; end = end })) en
      ∙ set-append_seam old e0 (A ++ B) (record { middle = middle; end = end })
      ∙ ap (λ m. old ++ (record { middle = m; end = end } ∷ (A ++ B))) (em ∙ one_length)
      ∙ ap (λ m. old ++ (record { middle = k + 1 + count a; end = m } ∷ (A ++ B))) (ee ∙ len)
      ∙ ap (λ l. old ++ (record { middle = k + 1 + count a; end = k + 1 + count a + count b } ∷ (A ++ l))) (sym (append-nil B))
      ∙ ap (λ x. old ++ ends_from x k) (sym is)

-- ---- the list has what was put into it

is_there : (before after : List Ends) (n middle end : ℕ) (t : List Ends) → n ≡ length before →
    t ≡ before ++ (record { middle = middle; end = end } ∷ after) → IsEndAt t n middle end
is_there before after n middle end t en et =
    let e : Ends = record { middle = middle; end = end } in
    let len : length t ≡ length before + length (e ∷ after) = ap length et ∙ length-append before (e ∷ after) in
    let some : length (e ∷ after) ≡ length after + 1 = omega arith in (
      omega (arith, len, en, some),
      λ none. ap (λ l. get_or l n none) et ∙ ap (λ m. get_or (before ++ (e ∷ after)) m none) en ∙ get_or-append_seam before e after none,
    )

module _ (t : List Ends) where
  -- after some of a list comes the rest
  behind_some : (before some rest : List Ends) → t ≡ before ++ (some ++ rest) → t ≡ (before ++ some) ++ rest
  behind_some before some rest e = e ∙ sym (append_assoc before some rest)

  behind_length : (before : List Ends) (c : Skeleton) (n m : ℕ) → n ≡ length before → n + count c ≡ m →
      m ≡ length (before ++ ends_from c n)
  behind_length before c n m en em = omega (arith, en, em, length-append before (ends_from c n), length_ends c n)

  pub are_there : (c : Skeleton) (before after : List Ends) (n : ℕ) → n ≡ length before →
      t ≡ before ++ (ends_from c n ++ after) → AreEndsAt t c n
  are_there Nil before after n en et = tt
  are_there (Step r) before after n en et =
      let e : Ends = record { middle = n + 1; end = n + 1 } in
      let R = ends_from r (n + 1) in (
        is_there before (R ++ after) n (n + 1) (n + 1) t en et,
        are_there r (before ++ e ∷ []) after (n + 1) (omega (arith, en, length-append before (e ∷ []))) (behind_some before (e ∷ []) (R ++ after) et),
      )
  are_there (Fork a b r) before after n en et =
      let n2 = n + 1 + count a in
      let n3 = n + 1 + count a + count b in
      let e : Ends = record { middle = n2; end = n3 } in
      let A = ends_from a (n + 1) in
      let B = ends_from b n2 in
      let R = ends_from r n3 in
      let first = before ++ e ∷ [] in
      let len : n + 1 ≡ length first = omega (arith, en, length-append before (e ∷ [])) in
      let ta : t ≡ first ++ (A ++ ((B ++ R) ++ after)) =
      behind_some before (e ∷ []) ((A ++ (B ++ R)) ++ after) et ∙ ap (λ l. first ++ l) (append_assoc A (B ++ R) after) in
      let tb : t ≡ (first ++ A) ++ (B ++ (R ++ after)) = behind_some first A ((B ++ R) ++ after) ta ∙ ap (λ l. (first ++ A) ++ l) (append_assoc B R after) in
      let la = behind_length first a (n + 1) n2 len refl in (
        is_there before ((A ++ (B ++ R)) ++ after) n n2 n3 t en et,
        are_there a first ((B ++ R) ++ after) (n + 1) len ta,
        are_there b (first ++ A) (R ++ after) n2 la tb,
        are_there r ((first ++ A) ++ B) after n3 (behind_length (first ++ A) b n2 n3 la refl) (behind_some (first ++ A) B (R ++ after) tb),
      )
  are_there (Loop a r) before after n en et =
      let n2 = n + 1 + count a in
      let e : Ends = record { middle = n2; end = n2 } in
      let A = ends_from a (n + 1) in
      let R = ends_from r n2 in
      let first = before ++ e ∷ [] in
      let len : n + 1 ≡ length first = omega (arith, en, length-append before (e ∷ [])) in
      let ta : t ≡ first ++ (A ++ (R ++ after)) =
      behind_some before (e ∷ []) ((A ++ R) ++ after) et ∙ ap (λ l. first ++ l) (append_assoc A R after) in (
        is_there before ((A ++ R) ++ after) n n2 n2 t en et,
        are_there a first (R ++ after) (n + 1) len ta,
        are_there r (first ++ A) after n2 (behind_length first a (n + 1) n2 len refl) (behind_some first A (R ++ after) ta),
      )

-- of a whole section
pub are_all_there : (c : Skeleton) (none t : List Ends) → none ≡ [] → t ≡ none ++ ends_from c (length none) →
    AreEndsAt t c 0
are_all_there c none t e et =
    are_there t c [] [] 0 refl (et ∙ ap (λ l. l ++ ends_from c (length l)) e ∙ sym (append-nil (ends_from c 0)))

-- ---- and what is read from it

module _ (t : List Ends) where
  split_ends : (c d : Skeleton) (n : ℕ) → AreEndsAt t (joined c d) n → AreEndsAt t c n × AreEndsAt t d (n + count c)
  split_ends Nil d n h = let e : n ≡ n + 0 = omega arith in (tt, subst (AreEndsAt t d) e h)
  split_ends (Step r) d n h =
      let e : n + 1 + count r ≡ n + (1 + count r) = omega arith in
      let i = split_ends r d (n + 1) h.1 in
      ((h.0, i.0), subst (AreEndsAt t d) e i.1)
  split_ends (Fork a b r) d n h =
      let n3 = n + 1 + count a + count b in
      let e : n3 + count r ≡ n + (1 + count a + count b + count r) = omega arith in
      let i = split_ends r d n3 h.3 in
      ((h.0, h.1, h.2, i.0), subst (AreEndsAt t d) e i.1)
  split_ends (Loop a r) d n h =
      let n2 = n + 1 + count a in
      let e : n2 + count r ≡ n + (1 + count a + count r) = omega arith in
      let i = split_ends r d n2 h.2 in
      ((h.0, h.1, i.0), subst (AreEndsAt t d) e i.1)

  front_read : (x : Part-F (Skeleton → Skeleton)) (n : ℕ) → AreEndsAt t (part_step x Nil) n →
      (middle : ℕ) × IsEndAt t n middle (n + count (part_step x Nil))
  front_read Point n h = (n + 1, h.0)
  front_read (If a b) n h = let e : n + 1 + count _ + count _ ≡ n + (1 + count _ + count _ + 0) = omega arith in (_, subst (IsEndAt t n _) e h.0)
  front_read (While a) n h = let e : n + 1 + count _ ≡ n + (1 + count _ + 0) = omega arith in (_, subst (IsEndAt t n _) e h.0)

  -- of a part whose points are numbered from n
  pub part_read : (p : Part) (n : ℕ) → AreEndsAt t (part_in_front p Nil) n →
      (middle : ℕ) × IsEndAt t n middle (n + count (part_in_front p Nil))
  part_read p n h =
      let e = fold_out-Part (Skeleton → Skeleton) part_step p in
      subst (λ f. (middle : ℕ) × IsEndAt t n middle (n + count (f Nil))) (sym e) (front_read _ n (subst (λ f. AreEndsAt t (f Nil) n) e h))

  -- of the first of some parts, and of the others
  pub ends_split : (ps : List Part) (i n : ℕ) (p : Part) → p ≡ get_or ps i p → i < length ps →
      AreEndsAt t (skeleton_of (drop i ps)) n →
      AreEndsAt t (part_in_front p Nil) n × AreEndsAt t (skeleton_of (drop (i + 1) ps)) (n + count (part_in_front p Nil))
  ends_split ps i n p is lt h =
      split_ends (part_in_front p Nil) (skeleton_of (drop (i + 1) ps)) n (subst (λ c. AreEndsAt t c n) (split_turn ps i p is lt) h)

  -- where a part ends
  pub end_of : (p : Part) (n : ℕ) → AreEndsAt t (part_in_front p Nil) n →
      (get_or t n (record { middle = 0; end = 0 })).end ≡ n + count (part_in_front p Nil)
  end_of p n h = let r = part_read p n h in ap (λ (e : Ends). e.end) (r.1.1 (record { middle = 0; end = 0 }))
