-- Steps until a thread stops, a few at a time.
use Rattle.std.proofs.Common.{◌≡◌, ◌≤◌, ◌<◌, ◌+◌, ◌-◌, ℕ, zero, suc, Bool, true, false, cond, replicate, Option, Some, None}
use Rattle.std.proofs.Common.{refl, sym, ap, ap₂, ◌∙◌, arith}
use Rattle.lowering.specs.Plans.{Plan}
use Rattle.worlds.specs.declared.event.Event.{Event}
use Rattle.worlds.specs.declared.event.Event.TheVariants.{Moved, Ended}
use Rattle.worlds.specs.Worlds.{World, happens, world_after}
use Rattle.interleavings.specs.declared.status.ThreadStatus.{ThreadStatus}
use Rattle.interleavings.specs.Statuses.{status_of}
use Rattle.interleavings.specs.Threads.{ThreadsOf, with_steps}
use Rattle.interleavings.specs.Items.{is_idle, is_stopped, one_and, until_stop, until_call_end}
use Rattle.interleavings.specs.Working.Found.{AreMoves, is_end, plus}
use Rattle.interleavings.proofs.Many.{one_step_more}
use Rattle.interleavings.proofs.Along.{further_steps}
use Rattle.interleavings.proofs.Moving.{moved_runs}

-- ---- how many, with more

plus-none : (more : Option ℕ) → plus 0 more ≡ more
plus-none None = refl
plus-none (Some more) = let number : 0 + more ≡ more = omega arith in ap (λ n. Some n) number

plus-both : (a b : ℕ) (more : Option ℕ) → plus a (plus b more) ≡ plus (a + b) more
plus-both a b None = refl
plus-both a b (Some more) = let number : a + (b + more) ≡ a + b + more = omega arith in ap (λ n. Some n) number

pub ended : (e : Event) (more : Option ℕ) → is_end e ≡ true → one_and e more ≡ Some 1
ended (Ended position) more is = refl
ended _ more is = absurd cc

pub not_ended : (e : Event) (more : Option ℕ) → is_end e ≡ false → one_and e more ≡ plus 1 more
not_ended (Ended position) more is = absurd cc
not_ended _ None is = refl
not_ended _ (Some more) is = refl

-- ---- `T!`, step by step

module _ (plan : Plan) (t : ℕ) where
  pub stopped : (left : ℕ) (w : World) → is_stopped (status_of plan w t) ≡ true → until_stop plan t left w ≡ Some 0
  unfolding until_stop
  stopped zero w is = ap (λ b. cond b (Some 0) None) is
  stopped (suc left) w is =
      ap (λ b. cond b (Some 0) (one_and (happens plan w t).0 (until_stop plan t left (happens plan w t).1))) is

  pub none_left : (w : World) → is_stopped (status_of plan w t) ≡ false → until_stop plan t 0 w ≡ None
  unfolding until_stop
  none_left w is = ap (λ b. cond b (Some 0) None) is

  pub one_on : (left : ℕ) (w : World) → is_stopped (status_of plan w t) ≡ false → 0 < left →
      until_stop plan t left w ≡ one_and (happens plan w t).0 (until_stop plan t (left - 1) (happens plan w t).1)
  unfolding until_stop
  one_on zero w is some = absurd (omega (arith, some))
  one_on (suc left) w is some =
      let number : left ≡ suc left - 1 = omega arith in
      ap (λ b. cond b (Some 0) (one_and (happens plan w t).0 (until_stop plan t left (happens plan w t).1))) is
      ∙ ap (λ n. one_and (happens plan w t).0 (until_stop plan t n (happens plan w t).1)) number

  -- instructions of the thread add their number to the steps until it stops
  pub many_on : (k left : ℕ) (w : World) → k ≤ left →
      ((j : ℕ) → j < k → (happens plan (world_after plan w (replicate j t)) t).0 ≡ Moved) →
      until_stop plan t left w ≡ plus k (until_stop plan t (left - k) (world_after plan w (replicate k t)))
  many_on zero left w within moves =
      let number : left ≡ left - 0 = omega arith in
      sym (plus-none (until_stop plan t left w)) ∙ ap (λ n. plus 0 (until_stop plan t n w)) number
  many_on (suc k) left w within moves =
      let next : World = (happens plan w t).1 in
      let moved : (happens plan w t).0 ≡ Moved = moves 0 (omega arith) in
      let fewer : k ≤ left - 1 = omega (arith, within) in
      let some : 0 < left = omega (arith, within) in
      let ones : 1 + k ≡ suc k = omega arith in
      let rest : left - 1 - k ≡ left - suc k = omega arith in
      one_on left w (moved_runs plan w t moved) some
      ∙ not_ended (happens plan w t).0 (until_stop plan t (left - 1) next) (ap is_end moved)
      ∙ ap (plus 1) (many_on k (left - 1) next fewer (λ j low. moves (suc j) (omega (arith, low))))
      ∙ plus-both 1 k (until_stop plan t (left - 1 - k) (world_after plan next (replicate k t)))
      ∙ ap₂ (λ n m. plus n (until_stop plan t m (world_after plan next (replicate k t)))) ones rest

-- ---- `T!`, from a place on the way

-- the given number of steps was taken; the remaining steps are those from the state now
pub record OnTheWay (t left count : ℕ) (first now : ThreadsOf) : Type 0 where
  pub within : count ≤ left
  pub so_far : now ≡ with_steps first (replicate count t)
  pub comes : until_stop first.plan t left first.world ≡ plus count (until_stop first.plan t (left - count) now.world)

pub at_first : (t left : ℕ) (first : ThreadsOf) → OnTheWay t left 0 first first
at_first t left first =
    let number : left ≡ left - 0 = omega arith in
    record {
      within = omega arith;
      so_far = refl;
      comes = sym (plus-none (until_stop first.plan t left first.world))
          ∙ ap (λ n. plus 0 (until_stop first.plan t n first.world)) number;
    }

module _ (t left count : ℕ) (first now : ThreadsOf) (way : OnTheWay t left count first now) (s : ThreadStatus) (b : Bool)
    (stands : s ≡ status_of now.plan now.world t) (tested : b ≡ is_stopped s) where
  same_plan : now.plan ≡ first.plan
  same_plan = ap (λ (w : ThreadsOf). w.plan) way.so_far

  status_here : (x : Bool) → b ≡ x → is_stopped (status_of first.plan now.world t) ≡ x
  status_here x is =
      ap (λ (p : Plan). is_stopped (status_of p now.world t)) (sym same_plan) ∙ ap is_stopped (sym stands) ∙ sym tested ∙ is

  pub stops_here : b ≡ true → Some count ≡ until_stop first.plan t left first.world
  stops_here is =
      let number : count + 0 ≡ count = omega arith in
      sym (way.comes ∙ ap (plus count) (stopped first.plan t (left - count) now.world (status_here true is)) ∙ ap (λ n. Some n) number)

  pub too_many : b ≡ false → count ≡ left → None ≡ until_stop first.plan t left first.world
  too_many is all =
      let number : left - count ≡ 0 = omega (arith, all) in
      sym (way.comes ∙ ap (λ n. plus count (until_stop first.plan t n now.world)) number
      ∙ ap (plus count) (none_left first.plan t now.world (status_here false is)))

  module _ (e : Event) (next : ThreadsOf) (step : happens now.plan now.world t ≡ (e, next.world)) (same : next.plan ≡ now.plan)
      (goes : b ≡ false) (some : count < left) where
    step_here : happens first.plan now.world t ≡ (e, next.world)
    step_here = ap (λ (p : Plan). happens p now.world t) (sym same_plan) ∙ step

    pub after_one : next ≡ with_steps first (replicate (count + 1) t)
    after_one = one_step_more first now next t count e way.so_far step same

    comes_on : until_stop first.plan t left first.world ≡ plus count (one_and e (until_stop first.plan t (left - count - 1) next.world))
    comes_on =
        let more : 0 < left - count = omega (arith, some) in
        way.comes ∙ ap (plus count) (one_on first.plan t (left - count) now.world (status_here false goes) more
        ∙ ap (λ (r : Event × World). one_and r.0 (until_stop first.plan t (left - count - 1) r.1)) step_here)

    pub ends_here : is_end e ≡ true → Some (count + 1) ≡ until_stop first.plan t left first.world
    ends_here is = sym (comes_on ∙ ap (plus count) (ended e (until_stop first.plan t (left - count - 1) next.world) is))

    pub goes_on : is_end e ≡ false → (more : ℕ) (last : ThreadsOf) → more ≤ left - (count + 1) →
        last ≡ with_steps next (replicate more t) → AreMoves next t more → OnTheWay t left (count + 1 + more) first last
    goes_on is more last few ran moves =
        let plans : next.plan ≡ first.plan = same ∙ same_plan in
        let fewer : more ≤ left - count - 1 = omega (arith, few) in
        let world : last.world ≡ world_after first.plan next.world (replicate more t) =
        ap (λ (w : ThreadsOf). w.world) ran ∙ ap (λ (p : Plan). world_after p next.world (replicate more t)) plans in
        let moved : (j : ℕ) → j < more → (happens first.plan (world_after first.plan next.world (replicate j t)) t).0 ≡ Moved =
        λ j low. ap (λ (p : Plan). (happens p (world_after p next.world (replicate j t)) t).0) (sym plans) ∙ moves j low in
        let ones : count + (1 + more) ≡ count + 1 + more = omega arith in
        let rest : left - count - 1 - more ≡ left - (count + 1 + more) = omega arith in
        record {
          within = omega (arith, few, some);
          so_far = ran ∙ ap (λ (w : ThreadsOf). with_steps w (replicate more t)) after_one ∙ further_steps first (count + 1) more t;
          comes = comes_on
              ∙ ap (plus count) (not_ended e (until_stop first.plan t (left - count - 1) next.world) is
              ∙ ap (plus 1) (many_on first.plan t more (left - count - 1) next.world fewer moved)
              ∙ plus-both 1 more (until_stop first.plan t (left - count - 1 - more) (world_after first.plan next.world (replicate more t))))
              ∙ plus-both count (1 + more) (until_stop first.plan t (left - count - 1 - more) (world_after first.plan next.world (replicate more t)))
              ∙ ap₂ (λ n m. plus n (until_stop first.plan t m (world_after first.plan next.world (replicate more t)))) ones rest
              ∙ ap (λ (w : World). plus (count + 1 + more) (until_stop first.plan t (left - (count + 1 + more)) w)) (sym world);
        }

-- ---- `T+`

module _ (t left : ℕ) (first : ThreadsOf) (s : ThreadStatus) (b : Bool)
    (stands : s ≡ status_of first.plan first.world t) (tested : b ≡ is_idle s) where
  status_first : (x : Bool) → b ≡ x → is_idle (status_of first.plan first.world t) ≡ x
  status_first x is = ap is_idle (sym stands) ∙ sym tested ∙ is

  idle : (n : ℕ) → b ≡ true → until_call_end first.plan t n first.world ≡ Some 0
  idle zero is = ap (λ b. cond b (Some 0) None) (status_first true is)
  idle (suc n) is =
      ap (λ b. cond b (Some 0)
      (one_and (happens first.plan first.world t).0 (until_stop first.plan t n (happens first.plan first.world t).1)))
      (status_first true is)

  pub idle_here : b ≡ true → Some 0 ≡ until_call_end first.plan t left first.world
  idle_here is = sym (idle left is)

  pub none_for_call : b ≡ false → left ≡ 0 → None ≡ until_call_end first.plan t left first.world
  none_for_call is none =
      sym (ap (λ n. until_call_end first.plan t n first.world) none ∙ ap (λ b. cond b (Some 0) None) (status_first false is))

  module _ (e : Event) (next : ThreadsOf) (step : happens first.plan first.world t ≡ (e, next.world)) (same : next.plan ≡ first.plan)
      (goes : b ≡ false) where
    call_on : (n m : ℕ) → n ≡ suc m → until_call_end first.plan t n first.world ≡ one_and e (until_stop next.plan t m next.world)
    call_on n m is =
        ap (λ k. until_call_end first.plan t k first.world) is
        ∙ ap (λ b. cond b (Some 0)
        (one_and (happens first.plan first.world t).0 (until_stop first.plan t m (happens first.plan first.world t).1)))
        (status_first false goes)
        ∙ ap (λ (r : Event × World). one_and r.0 (until_stop first.plan t m r.1)) step
        ∙ ap (λ (p : Plan). one_and e (until_stop p t m next.world)) (sym same)

    pub call_ends : 0 < left → is_end e ≡ true → Some 1 ≡ until_call_end first.plan t left first.world
    call_ends some is =
        let number : left ≡ suc (left - 1) = omega (arith, some) in
        sym (call_on left (left - 1) number ∙ ended e (until_stop next.plan t (left - 1) next.world) is)

    pub call_goes_on : 0 < left → is_end e ≡ false → (more : Option ℕ) → more ≡ until_stop next.plan t (left - 1) next.world →
        plus 1 more ≡ until_call_end first.plan t left first.world
    call_goes_on some is more found =
        let number : left ≡ suc (left - 1) = omega (arith, some) in
        sym (call_on left (left - 1) number ∙ not_ended e (until_stop next.plan t (left - 1) next.world) is ∙ ap (plus 1) (sym found))

    pub first_step : next ≡ with_steps first (replicate 1 t)
    first_step =
        let number : 0 + 1 ≡ 1 = omega arith in
        one_step_more first first next t 0 e refl step same ∙ ap (λ n. with_steps first (replicate n t)) number

    pub then_steps : (more : ℕ) (last : ThreadsOf) → last ≡ with_steps next (replicate more t) →
        last ≡ with_steps first (replicate (1 + more) t)
    then_steps more last ran =
        ran ∙ ap (λ (w : ThreadsOf). with_steps w (replicate more t)) first_step ∙ further_steps first 1 more t
