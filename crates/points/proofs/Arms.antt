-- The cases of the analyses over parts: a point, an `if` and a `while`.
use Rattle.std.specs.Prelude.{◌≡◌, ℕ, ◌+◌, ◌||◌, Bool, List, [], ◌∷◌, ◌++◌, replicate, reverse}
use Rattle.std.proofs.Common.{refl, sym, ap, ◌∙◌, arith, add-one, append_assoc, append-nil, Vec, Global}
use Rattle.std.proofs.lemmas.List.{reverse-append}
use Rattle.flow.specs.declared.skeleton.Part.{Part}
use Rattle.flow.specs.declared.skeleton.Part.TheViews.{If, While}
use Rattle.flow.specs.Skeletons.{Skeleton, Nil, Fork, Loop, count}
use Rattle.flow.specs.Working.Parts.{part_in_front, skeleton_of}
use Rattle.flow.specs.Theory.Gather.{or}
use Rattle.flow.specs.Theory.Held.{through, holds}
use Rattle.flow.specs.Theory.Joined.{later_loop}
use Rattle.flow.specs.Theory.MustHold.{past}
use Rattle.flow.specs.Theory.Passes.{gather, behind, laters}
use Rattle.flow.specs.Theory.Views.{front_if, front_while}
use Rattle.locks.specs.declared.path_set.PathSet.{PathSet}
use Rattle.locks.specs.Sets.{has}
use Rattle.points.specs.declared.dataflow.Dataflow.{Dataflow}
use Rattle.points.specs.Working.Dataflow.{column, marks, join_of, joins, transfers, down_to, IsMay, IsThrough}
use Rattle.points.specs.Working.Dataflow.{IsBehind, AreForward, AreBackward}
use Rattle.points.proofs.GenOnly.{adds, through_gen, holds_gen}
use Rattle.points.proofs.Sets.{column-push, column-more}

-- which skeleton a part is
pub as_if : (part : Part) (a b : Vec Part Global) (fs gs : List Part) → part ≡ If a b → fs ≡ a.items → gs ≡ b.items →
    part_in_front part Nil ≡ Fork (skeleton_of fs) (skeleton_of gs) Nil
as_if part a b fs gs is first second =
    front_if part a b Nil is
    ∙ ap (λ x. Fork (skeleton_of x) (skeleton_of b.items) Nil) (sym first)
    ∙ ap (λ x. Fork (skeleton_of fs) (skeleton_of x) Nil) (sym second)

pub as_while : (part : Part) (a : Vec Part Global) (fs : List Part) → part ≡ While a → fs ≡ a.items →
    part_in_front part Nil ≡ Loop (skeleton_of fs) Nil
as_while part a fs is first = front_while part a Nil is ∙ ap (λ x. Loop (skeleton_of x) Nil) (sym first)

-- a set is what a point makes of another, and what two are joined to
abbrev pub IsPast : Dataflow → ℕ → PathSet → PathSet → Type 0
IsPast d n set here = (i : ℕ) → has here i ≡ transfers d i n (has set i)

abbrev pub IsJoin : Dataflow → PathSet → PathSet → PathSet → Type 0
IsJoin d one two set = (i : ℕ) → has set i ≡ joins d (has one i) (has two i)

-- ---- forward

module _ (d : Dataflow) (n : ℕ) where
  pub past_of : (m : ℕ) (set here : PathSet) → m ≡ n → IsPast d m set here → IsPast d n set here
  past_of m set here same is i = is i ∙ ap (λ k. transfers d i k (has set i)) same

  pub through_fork : (c a b : Skeleton) (k m : ℕ) (first here one two set : PathSet) → c ≡ Fork a b Nil → k ≡ n + 1 →
      m ≡ k + count a → IsPast d n first here →
      IsThrough d a k here one → IsThrough d b m here two → IsJoin d one two set → IsThrough d c n first set
  through_fork c a b k m first here one two set is ek em made in_a in_b met i =
      let P = transfers d i in
      let e = P n (has first i) in
      let em' : m ≡ n + 1 + count a = omega (arith, ek, em) in
      met i
      ∙ ap (λ x. joins d x (has two i)) (in_a i ∙ ap (λ x. through P (joins d) a k x) (made i)
      ∙ ap (λ x. through P (joins d) a x e) ek)
      ∙ ap (λ x. joins d (through P (joins d) a (n + 1) e) x)
      (in_b i ∙ ap (λ x. through P (joins d) b m x) (made i) ∙ ap (λ x. through P (joins d) b x e) em')
      ∙ ap (λ x. through P (joins d) x n (has first i)) (sym is)

  -- the set before a loop's condition
  at_condition : (a : Skeleton) (k : ℕ) (first here round both : PathSet) → k ≡ n + 1 → IsPast d n first here →
      IsThrough d a k here round → IsJoin d first round both → (i : ℕ) →
      has both i ≡ joins d (has first i) (through (transfers d i) (joins d) a (n + 1) (transfers d i n (has first i)))
  at_condition a k first here round both ek made in_a met i =
      let P = transfers d i in
      met i ∙ ap (λ x. joins d (has first i) x)
      (in_a i ∙ ap (λ x. through P (joins d) a k x) (made i) ∙ ap (λ x. through P (joins d) a x (P n (has first i))) ek)

  pub through_loop : (c a : Skeleton) (k : ℕ) (first here round both inner : PathSet) → c ≡ Loop a Nil → k ≡ n + 1 →
      IsPast d n first here →
      IsThrough d a k here round → IsJoin d first round both → IsPast d n both inner → IsThrough d c n first inner
  through_loop c a k first here round both inner is ek made in_a met behind i =
      behind i ∙ ap (transfers d i n) (at_condition a k first here round both ek made in_a met i)
      ∙ ap (λ x. through (transfers d i) (joins d) x n (has first i)) (sym is)

  pub forward_fork : (c a b : Skeleton) (first here : PathSet) (was one two sets : Vec PathSet Global) →
      c ≡ Fork a b Nil → was.len ≡ n → one.len ≡ n + 1 →
      two.len ≡ one.len + count a → IsPast d n first here → one.items ≡ was.items ++ first ∷ [] →
      AreForward d a here one two → AreForward d b here two sets → AreForward d c first was sets
  forward_fork c a b first here was one two sets is ew e1 e2 made push in_a in_b i =
      let P = transfers d i in
      let s = has first i in
      let e = P n s in
      let A = holds P (joins d) a (n + 1) e in
      let B = holds P (joins d) b (n + 1 + count a) e in
      let o = column i was.items in
      let e2' : two.len ≡ n + 1 + count a = omega (arith, e1, e2) in
      let first' : column i two.items ≡ (o ++ s ∷ []) ++ A =
      in_a i ∙ ap (λ x. column i one.items ++ holds P (joins d) a one.len x) (made i)
      ∙ ap (λ x. column i one.items ++ holds P (joins d) a x e) e1
      ∙ ap (λ x. x ++ A) (column-push i was.items one.items first push) in
      in_b i ∙ ap (λ x. column i two.items ++ holds P (joins d) b two.len x) (made i)
      ∙ ap (λ x. column i two.items ++ holds P (joins d) b x e) e2'
      ∙ ap (λ x. x ++ B) first'
      ∙ append_assoc (o ++ s ∷ []) A B ∙ append_assoc o (s ∷ []) (A ++ B)
      ∙ ap (λ x. o ++ s ∷ (A ++ x)) (sym (append-nil B))
      ∙ ap (λ x. o ++ holds P (joins d) (Fork a b Nil) x s) (sym ew)
      ∙ ap (λ x. o ++ holds P (joins d) x was.len s) (sym is)

  pub forward_loop : (c a : Skeleton) (k : ℕ) (first here round both inner : PathSet)
      (was one sets : Vec PathSet Global) → c ≡ Loop a Nil → was.len ≡ n → one.len ≡ n + 1 →
      k ≡ n + 1 → IsPast d n first here → IsThrough d a k here round → IsJoin d first round both →
      IsPast d n both inner → one.items ≡ was.items ++ both ∷ [] →
      AreForward d a inner one sets → AreForward d c first was sets
  forward_loop c a k first here round both inner was one sets is ew e1 ek made in_a met behind push body i =
      let P = transfers d i in
      let s = has first i in
      let x = joins d s (through P (joins d) a (n + 1) (P n s)) in
      let o = column i was.items in
      let at = at_condition a k first here round both ek made in_a met i in
      let A = holds P (joins d) a (n + 1) (P n x) in
      body i ∙ ap (λ z. column i one.items ++ holds P (joins d) a one.len z) (behind i ∙ ap (P n) at)
      ∙ ap (λ z. column i one.items ++ holds P (joins d) a z (P n x)) e1
      ∙ ap (λ z. z ++ A) (column-push i was.items one.items both push ∙ ap (λ z. o ++ z ∷ []) at)
      ∙ append_assoc o (x ∷ []) A ∙ ap (λ z. o ++ x ∷ z) (sym (append-nil A))
      ∙ ap (λ z. o ++ holds P (joins d) (Loop a Nil) z s) (sym ew)
      ∙ ap (λ z. o ++ holds P (joins d) z was.len s) (sym is)

-- ---- backward, if nothing is killed

module _ (d : Dataflow) (may : IsMay d) where
  with_gen : (n : ℕ) (set here : PathSet) → IsPast d n set here → (i : ℕ) →
      has here i ≡ (has set i || marks i d.gens.now n)
  with_gen n set here is i =
      is i ∙ ap (λ k. past (marks i d.gens.now) (marks i k) n (has set i)) may.0
      ∙ adds (marks i d.gens.now) (marks i []) (λ p. refl) n (has set i)

  union : (one two set : PathSet) → IsJoin d one two set → (i : ℕ) → has set i ≡ (has one i || has two i)
  union one two set is i = is i ∙ ap (λ j. join_of j (has one i) (has two i)) may.1

  gathered : (c : Skeleton) (n : ℕ) (set here all : PathSet) → IsPast d n set here → IsThrough d c (n + 1) here all →
      (i : ℕ) → has all i ≡ gather or (marks i d.gens.now) c (n + 1) (has set i || marks i d.gens.now n)
  gathered c n set here all made is i =
      let w = marks i d.gens.now in
      is i ∙ ap (λ k. through (past_by i k) (joins d) c (n + 1) (has here i)) may.0
      ∙ ap (λ j. through (past_by i []) (join_of j) c (n + 1) (has here i)) may.1
      ∙ through_gen w (marks i []) (λ p. refl) c (n + 1) (has here i)
      ∙ ap (gather or w c (n + 1)) (with_gen n set here made i)
    where
      past_by : ℕ → List PathSet → ℕ → Bool → Bool
      past_by i kills = past (marks i d.gens.now) (marks i kills)

  -- what comes back to the condition of an `if`
  either : (a b : Skeleton) (n k m : ℕ) (last one two set : PathSet) → k ≡ n + 1 → m ≡ n + 1 + count a →
      IsBehind d a k last one → IsBehind d b m last two → IsJoin d one two set → (i : ℕ) →
      has set i ≡ (behind or (marks i d.gens.now) a (n + 1) (has last i)
      || behind or (marks i d.gens.now) b (n + 1 + count a) (has last i))
  either a b n k m last one two set ek em first second joined i =
      let w = marks i d.gens.now in
      let l = has last i in
      union one two set joined i
      ∙ ap (λ x. x || has two i) (first i ∙ ap (λ x. behind or w a x l) ek)
      ∙ ap (λ x. behind or w a (n + 1) l || x) (second i ∙ ap (λ x. behind or w b x l) em)

  pub behind_loop : (c a : Skeleton) (n : ℕ) (last here all : PathSet) → c ≡ Loop a Nil → IsPast d n last here →
      IsThrough d a (n + 1) here all → IsBehind d c n last all
  behind_loop c a n last here all is made body i =
      gathered a n last here all made body i ∙ ap (λ x. behind or (marks i d.gens.now) x n (has last i)) (sym is)

  pub backward_fork : (c a b : Skeleton) (n : ℕ) (last one two set : PathSet)
      (was second first sets : Vec PathSet Global) →
      c ≡ Fork a b Nil → down_to d sets ≡ n → down_to d first ≡ n + 1 → down_to d second ≡ n + 1 + count a →
      IsBehind d a (down_to d first) last one → IsBehind d b (down_to d second) last two → IsJoin d one two set →
      AreBackward d b last was second → AreBackward d a last second first → sets.items ≡ first.items ++ set ∷ [] →
      AreBackward d c last was sets
  backward_fork c a b n last one two set was second first sets is en ek em of_a of_b joined in_b in_a push i =
      let w = marks i d.gens.now in
      let l = has last i in
      let A = laters or w a (n + 1) l in
      let B = laters or w b (n + 1 + count a) l in
      let x = behind or w a (n + 1) l || behind or w b (n + 1 + count a) l in
      let o = column i was.items in
      let whole : reverse (x ∷ (A ++ (B ++ []))) ≡ (reverse B ++ reverse A) ++ x ∷ [] =
      ap (λ z. reverse (x ∷ (A ++ z))) (append-nil B) ∙ reverse-append (x ∷ []) (A ++ B)
      ∙ ap (λ z. z ++ x ∷ []) (reverse-append A B) in
      column-push i first.items sets.items set push
      ∙ ap (λ z. z ++ has set i ∷ []) (in_a i ∙ ap (λ z. column i second.items ++ reverse (laters or w a z l)) ek
      ∙ ap (λ z. z ++ reverse A) (in_b i ∙ ap (λ z. o ++ reverse (laters or w b z l)) em)
      ∙ append_assoc o (reverse B) (reverse A))
      ∙ append_assoc o (reverse B ++ reverse A) (has set i ∷ [])
      ∙ ap (λ z. o ++ ((reverse B ++ reverse A) ++ z ∷ [])) (either a b n _ _ last one two set ek em of_a of_b joined i)
      ∙ ap (λ z. o ++ z) (sym whole)
      ∙ ap (λ z. o ++ reverse (laters or w z n l)) (sym is) ∙ ap (λ z. o ++ reverse (laters or w c z l)) (sym en)

  pub backward_loop : (c a : Skeleton) (n times : ℕ) (last here all : PathSet) (was sets : Vec PathSet Global) →
      c ≡ Loop a Nil → down_to d sets ≡ n → times ≡ count a + 1 → IsPast d n last here →
      IsThrough d a (n + 1) here all → sets.items ≡ was.items ++ replicate times all → AreBackward d c last was sets
  backward_loop c a n times last here all was sets is en et made body push i =
      let w = marks i d.gens.now in
      let l = has last i in
      let o = column i was.items in
      column-more i was.items sets.items times all push ∙ ap (λ x. o ++ replicate x (has all i)) et
      ∙ ap (λ x. o ++ x) (sym (later_loop or w a n l (has all i) (gathered a n last here all made body i)))
      ∙ ap (λ z. o ++ reverse (laters or w z n l)) (sym is) ∙ ap (λ z. o ++ reverse (laters or w c z l)) (sym en)

  to_inner : (a : Skeleton) (k n : ℕ) (here all : PathSet) → k ≡ n + 1 → IsThrough d a k here all →
      IsThrough d a (n + 1) here all
  to_inner a k n here all ek body i = body i ∙ ap (λ m. through (transfers d i) (joins d) a m (has here i)) ek

  -- a loop, where nothing is killed: the same comes to all its points and out of it
  pub through_loop_gen : (c a : Skeleton) (k n : ℕ) (first here all : PathSet) → c ≡ Loop a Nil → k ≡ n + 1 →
      IsPast d n first here → IsThrough d a k here all → IsThrough d c n first all
  through_loop_gen c a k n first here all is ek made body i =
      let w = marks i d.gens.now in
      let s = has first i in
      gathered a n first here all made (to_inner a k n here all ek body) i
      ∙ sym (through_gen w (marks i []) (λ p. refl) (Loop a Nil) n s)
      ∙ ap (λ l. through (past w (marks i l)) or (Loop a Nil) n s) (sym may.0)
      ∙ ap (λ j. through (transfers d i) (join_of j) (Loop a Nil) n s) (sym may.1)
      ∙ ap (λ x. through (transfers d i) (joins d) x n s) (sym is)

  pub forward_loop_gen : (c a : Skeleton) (k n times : ℕ) (first here all : PathSet) (was sets : Vec PathSet Global) →
      c ≡ Loop a Nil → was.len ≡ n → k ≡ n + 1 → times ≡ count a + 1 → IsPast d n first here →
      IsThrough d a k here all → sets.items ≡ was.items ++ replicate times all → AreForward d c first was sets
  forward_loop_gen c a k n times first here all was sets is ew ek et made body push i =
      let w = marks i d.gens.now in
      let s = has first i in
      let g = gather or w a (n + 1) (s || w n) in
      let o = column i was.items in
      column-more i was.items sets.items times all push ∙ ap (λ x. o ++ replicate x (has all i)) et
      ∙ ap (λ x. o ++ replicate (count a + 1) x) (gathered a n first here all made (to_inner a k n here all ek body) i)
      ∙ ap (λ m. o ++ replicate m g) (add-one (count a))
      ∙ ap (λ x. o ++ g ∷ x) (sym (append-nil (replicate (count a) g)))
      ∙ ap (λ x. o ++ x) (sym (holds_gen w (marks i []) (λ p. refl) (Loop a Nil) n s))
      ∙ ap (λ l. o ++ holds (past w (marks i l)) or (Loop a Nil) n s) (sym may.0)
      ∙ ap (λ j. o ++ holds (transfers d i) (join_of j) (Loop a Nil) n s) (sym may.1)
      ∙ ap (λ z. o ++ holds (transfers d i) (joins d) (Loop a Nil) z s) (sym ew)
      ∙ ap (λ z. o ++ holds (transfers d i) (joins d) z was.len s) (sym is)
