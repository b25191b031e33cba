-- Rounds, an item at a time.
use Rattle.std.proofs.Common.{◌≡◌, ◌∙◌, ◌<◌, ◌≤◌, ℕ, zero, suc, ◌+◌, ◌-◌, Bool, true, false, cond, List, [], ◌∷◌, ◌++◌}
use Rattle.std.proofs.Common.{length, length-append, append_assoc, append-nil, replicate, Option, Some, None, Ok, ap, sym, subst, refl, arith, inl, inr}
use Rattle.std.specs.Prelude.{◌==◌, ◌&&◌, not, nat_le, Result, unwrap_or}
use Rattle.std.specs.List.{find, range_with_len}
use Rattle.std.specs.Option.{option_map}
use Rattle.std.proofs.lemmas.Bool.{cases_Bool}
use Rattle.std.proofs.lemmas.Bool.Decides.{nat_tests}
use Rattle.std.proofs.lemmas.List.Elements.{All-push}
use Rattle.std.proofs.lemmas.List.Sums.{sum_by_push}
use Rattle.interleavings.specs.Items.{steps_until, turn_and, turns_from, turns_of}
use Rattle.interleavings.specs.Threads.{ThreadsOf, threads_of, with_steps}
use Rattle.lowering.specs.Plans.{Plan}
use Rattle.interleavings.specs.declared.waiting.Contest.{Contest}
use Rattle.interleavings.specs.declared.waiting.NextItem.{NextItem}
use Rattle.interleavings.specs.declared.waiting.Stage.{Stage}
use Rattle.interleavings.specs.declared.waiting.Stage.TheVariants.{Round, Others}
use Rattle.interleavings.specs.Rivals.{can_go, first_to_go, followed_by, is_on_way, leader, led_by, next_item, next_of, rivals_from, rivals_of}
use Rattle.interleavings.specs.Rivals.{and_after, threads_in, to_lock}
use Rattle.interleavings.specs.Schedules.{AreOfThreads, counted_in}
use Rattle.interleavings.specs.Working.Contests.{Advances, IsWithin, Takes}
use Rattle.input_files.specs.Steps.{counted, in_front, STEP_LIMIT}
use Rattle.input_files.specs.declared.item.Item.{Item}
use Rattle.input_files.specs.declared.item.Until.{Until}
use Rattle.input_files.specs.declared.item.Until.TheVariants.{Count, Stop, CallEnd}
use Rattle.input_files.specs.declared.steps_refusal.StepsFault.{StepsFault}
use Rattle.input_files.specs.declared.turn.Turn.{Turn}
use Rattle.worlds.specs.declared.event.Event.{Event}
use Rattle.worlds.specs.Theory.Steps.{steps_more}
use Rattle.worlds.specs.Worlds.{World, happens, world_after, opening_world}

-- ---- the thread that comes next

module _ (plan : Plan) (w : World) (besides from : ℕ) where
  abbrev pub fits : Bool
  fits = can_go plan w from && not (from == besides)

  one_first : from < threads_in plan →
      first_to_go plan w besides from ≡ cond fits (Some from) (first_to_go plan w besides (from + 1))
  one_first low =
      let left : threads_in plan - from ≡ suc (threads_in plan - (from + 1)) = omega (arith, low) in
      ap (λ (n : ℕ). find (λ t. can_go plan w t && not (t == besides)) (range_with_len from n)) left

  pub passes_by : from < threads_in plan → fits ≡ false →
      first_to_go plan w besides from ≡ first_to_go plan w besides (from + 1)
  passes_by low other =
      one_first low ∙ ap (λ (b : Bool). cond b (Some from) (first_to_go plan w besides (from + 1))) other

  pub is_first : from < threads_in plan → fits ≡ true → first_to_go plan w besides from ≡ Some from
  is_first low goes =
      one_first low ∙ ap (λ (b : Bool). cond b (Some from) (first_to_go plan w besides (from + 1))) goes

  pub is_none : threads_in plan ≤ from → first_to_go plan w besides from ≡ None
  is_none past =
      let left : threads_in plan - from ≡ 0 = omega (arith, past) in
      ap (λ (n : ℕ). find (λ t. can_go plan w t && not (t == besides)) (range_with_len from n)) left

pub can_not : (goes other : Bool) → goes ≡ false → (goes && other) ≡ false
can_not goes other none = rw none refl

pub is_left_out : (goes : Bool) (t besides : ℕ) → t ≡ besides → (goes && not (t == besides)) ≡ false
is_left_out goes t besides is =
    let same : (t == besides) ≡ true = grind (arith, nat_tests) in
    elim (cases_Bool goes) [ inl can ↦ rw (can, same) refl | inr not_now ↦ rw not_now refl ]

-- ---- the value of an option that has one

some_is : (a b : ℕ) → Some a ≡ Some b → a ≡ b
some_is a b same = ap (λ (o : Option ℕ). unwrap_or o 0) same

next_is : (a b : NextItem) → Some a ≡ Some b → a ≡ b
next_is a b same = ap (λ (o : Option NextItem). unwrap_or o a) same

-- ---- the steps to a lock

plus_both : (i k : ℕ) (o : Option ℕ) →
    option_map (λ more. i + more) (option_map (λ more. k + more) o) ≡ option_map (λ more. (i + k) + more) o
plus_both i k None = refl
plus_both i k (Some more) = ap Some (omega arith)

plus_none : (o : Option ℕ) → option_map (λ more. 0 + more) o ≡ o
plus_none None = refl
plus_none (Some more) = ap Some (omega arith)

replicate_push : (n t : ℕ) → replicate (suc n) t ≡ replicate n t ++ t ∷ []
replicate_push zero t = refl
replicate_push (suc n) t = ap (λ (ts : List ℕ). t ∷ ts) (replicate_push n t)

-- one step more of a thread
step_more : (first w next : ThreadsOf) (t i : ℕ) (e : Event) → w ≡ with_steps first (replicate i t) →
    happens w.plan w.world t ≡ (e, next.world) → next.plan ≡ w.plan → next ≡ with_steps first (replicate (i + 1) t)
step_more first w next t i e so_far step same =
    let plan : next.plan ≡ first.plan = same ∙ ap (λ (x : ThreadsOf). x.plan) so_far in
    let number : suc i ≡ i + 1 = omega arith in
    let world : next.world ≡ world_after first.plan first.world (replicate (i + 1) t) =
    ap (λ (r : Event × World). r.1) (sym step) ∙ ap (λ (x : ThreadsOf). (happens x.plan x.world t).1) so_far
    ∙ sym (steps_more first.plan first.world (replicate i t) (t ∷ []))
    ∙ ap (world_after first.plan first.world) (sym (replicate_push i t) ∙ ap (λ (n : ℕ). replicate n t) number) in
    λ j. threads_of (plan j) (world j)

-- the given number of steps was taken, each of which left the thread on its way
pub record OnWay (t count : ℕ) (first now : Contest) : Type 0 where
  pub takes : Takes t count first now
  pub comes : to_lock first.world.plan t first.left first.world.world
      ≡ option_map (λ more. count + more) (to_lock now.world.plan t (first.left - count) now.world.world)

pub not_yet : (t : ℕ) (first : Contest) → OnWay t 0 first first
not_yet t first = record {
  takes = record { world = refl; left = refl; stage = refl; within = omega arith };
  comes =
      let all : first.left ≡ first.left - 0 = omega arith in
      sym (plus_none (to_lock first.world.plan t first.left first.world.world))
      ∙ ap (λ (n : ℕ). option_map (λ more. 0 + more) (to_lock first.world.plan t n first.world.world)) all;
}

-- a step, and more where it leaves the thread on its way
abbrev and_more : Bool → Option ℕ → Option ℕ
and_more is_on more = cond is_on (option_map (λ n. 1 + n) more) (Some 1)

one_left : (plan : Plan) (t left : ℕ) (w : World) → 0 < left →
    to_lock plan t left w
    ≡ and_more (is_on_way (happens plan w t).0) (to_lock plan t (left - 1) (happens plan w t).1)
unfolding to_lock
one_left plan t zero w some = absurd (omega (arith, some))
one_left plan t (suc left) w some =
    let number : left ≡ suc left - 1 = omega arith in
    ap (λ (n : ℕ). and_more (is_on_way (happens plan w t).0) (to_lock plan t n (happens plan w t).1)) number

pub to_none : (plan : Plan) (t : ℕ) (w : World) → to_lock plan t 0 w ≡ None
unfolding to_lock
to_none plan t w = refl

module _ (t count : ℕ) (first now next : Contest) (e : Event) (so_far : OnWay t count first now)
    (some : count < first.left) (step : happens now.world.plan now.world.world t ≡ (e, next.world.world))
    (plan : next.world.plan ≡ now.world.plan)
    (left : next.left ≡ now.left) (stage : next.stage ≡ now.stage) where
  pub one_taken : Takes t (count + 1) first next
  one_taken = record {
    world = step_more first.world now.world next.world t count e so_far.takes.world step plan;
    left = left ∙ so_far.takes.left;
    stage = stage ∙ so_far.takes.stage;
    within = omega (arith, some);
  }

  by_event : to_lock now.world.plan t (first.left - count) now.world.world
      ≡ and_more (is_on_way e) (to_lock now.world.plan t (first.left - (count + 1)) next.world.world)
  by_event =
      let fewer : first.left - count - 1 ≡ first.left - (count + 1) = omega arith in
      one_left now.world.plan t (first.left - count) now.world.world (omega (arith, some))
      ∙ ap (λ (r : Event × World).
      and_more (is_on_way r.0) (to_lock now.world.plan t (first.left - count - 1) r.1)) step
      ∙ ap (λ (n : ℕ). and_more (is_on_way e) (to_lock now.world.plan t n next.world.world)) fewer

  -- the thread has reached the place to which it was to go
  pub reached : is_on_way e ≡ false → Some (count + 1) ≡ to_lock first.world.plan t first.left first.world.world
  reached there =
      let one : to_lock now.world.plan t (first.left - count) now.world.world ≡ Some 1 =
      by_event
      ∙ ap (λ (b : Bool). and_more b (to_lock now.world.plan t (first.left - (count + 1)) next.world.world)) there in
      sym (so_far.comes ∙ ap (option_map (λ more. count + more)) one)

  -- the thread is still on its way
  pub on_way : is_on_way e ≡ true → OnWay t (count + 1) first next
  on_way still = record {
    takes = one_taken;
    comes = so_far.comes
        ∙ ap (option_map (λ more. count + more)) (by_event
        ∙ ap (λ (b : Bool). and_more b (to_lock now.world.plan t (first.left - (count + 1)) next.world.world)) still)
        ∙ plus_both count 1 (to_lock now.world.plan t (first.left - (count + 1)) next.world.world)
        ∙ ap (λ (p : Plan).
        option_map (λ more. (count + 1) + more) (to_lock p t (first.left - (count + 1)) next.world.world)) (sym plan);
  }

-- the steps ran out
pub too_far : (t count : ℕ) (first now : Contest) → OnWay t count first now → first.left ≤ count →
    None ≡ to_lock first.world.plan t first.left first.world.world
too_far t count first now so_far past =
    let none : first.left - count ≡ 0 = omega (arith, past) in
    sym (so_far.comes ∙ ap (option_map (λ more. count + more))
    (ap (λ (n : ℕ). to_lock now.world.plan t n now.world.world) none ∙ to_none now.world.plan t now.world.world))

-- ---- all items

-- the items after one, at most the given number
abbrev those_after : Plan → ℕ → ℕ → World → NextItem → List Item
those_after plan most left w next =
    rivals_from plan most (left - next.count) (world_after plan w (replicate next.count next.item.thread)) next.after

-- the next ones of a contest
abbrev those_next : Plan → ℕ → Contest → List Item
those_next plan most contest = rivals_from plan most contest.left contest.world.world contest.stage

-- the items so far, and those that come next, are all items
pub record GoesOn (plan : Plan) (most : ℕ) (items : List Item) (contest : Contest) : Type 0 where
  pub few : length items ≤ most
  pub plan_is : contest.world.plan ≡ plan
  pub within : IsWithin (threads_in plan) contest.stage
  pub of_threads : AreOfThreads plan.program items
  pub steps : counted_in items + contest.left ≤ STEP_LIMIT
  pub all : items ++ those_next plan (most - length items) contest ≡ rivals_of plan most

one_more : (plan : Plan) (most left : ℕ) (w : World) (stage : Stage) → 0 < most →
    rivals_from plan most left w stage
    ≡ and_after (next_item plan left w stage) (those_after plan (most - 1) left w)
unfolding rivals_from
one_more plan zero left w stage some = absurd (omega (arith, some))
one_more plan (suc most) left w stage some =
    let number : most ≡ suc most - 1 = omega arith in
    ap (λ (m : ℕ). and_after (next_item plan left w stage) (those_after plan m left w)) number

no_more : (plan : Plan) (left : ℕ) (w : World) (stage : Stage) → rivals_from plan 0 left w stage ≡ []
unfolding rivals_from
no_more plan left w stage = refl

-- if at most as many items are requested as were found, these are all
pub enough : (plan : Plan) (most : ℕ) (items : List Item) (contest : Contest) → GoesOn plan most items contest →
    most ≤ length items → items ≡ rivals_of plan most
enough plan most items contest so_far many =
    let none : most - length items ≡ 0 = omega (arith, many) in
    sym (ap (λ (more : List Item). items ++ more)
    (ap (λ (n : ℕ). those_next plan n contest) none ∙ no_more plan contest.left contest.world.world contest.stage)
    ∙ append-nil items)
    ∙ so_far.all

module _ (plan : Plan) (most : ℕ) (items : List Item) (contest : Contest) (so_far : GoesOn plan most items contest)
    (few : length items < most) where
  abbrev comes_next : Plan → Option NextItem
  comes_next p = next_item p contest.left contest.world.world contest.stage

  abbrev after : NextItem → List Item
  after = those_after plan (most - length items - 1) contest.left contest.world.world

  by_next : (next : Option NextItem) → comes_next contest.world.plan ≡ next →
      items ++ and_after next after ≡ rivals_of plan most
  by_next next is =
      let same : comes_next plan ≡ next = ap comes_next (sym so_far.plan_is) ∙ is in
      let one : those_next plan (most - length items) contest ≡ and_after next after =
      one_more plan (most - length items) contest.left contest.world.world contest.stage (omega (arith, few))
      ∙ ap (λ (o : Option NextItem). and_after o after) same in
      ap (λ (more : List Item). items ++ more) (sym one) ∙ so_far.all

  -- if no item comes next, these are all
  pub no_next : comes_next contest.world.plan ≡ None → items ≡ rivals_of plan most
  no_next none = sym (append-nil items) ∙ by_next None none

  -- one more item
  pub item_more : (new : List Item) (item : Item) (next : Contest) → Advances item contest next →
      new ≡ items ++ item ∷ [] → GoesOn plan most new next
  item_more new item next comes more =
      let n = comes.next in
      let long : length new ≡ length items + 1 = rw more (omega (arith, length-append items (item ∷ []))) in
      let fewer : ℕ = most - length items - 1 in
      let number : fewer ≡ most - length new = omega (arith, long) in
      let stands : next.world ≡ with_steps contest.world (replicate n.count item.thread) = comes.world in
      let same : next.world.plan ≡ plan = ap (λ (w : ThreadsOf). w.plan) stands ∙ so_far.plan_is in
      let world : next.world.world ≡ world_after plan contest.world.world (replicate n.count n.item.thread) =
      ap (λ (w : ThreadsOf). w.world) stands
      ∙ ap (λ (p : Plan). world_after p contest.world.world (replicate n.count item.thread)) so_far.plan_is
      ∙ ap (λ (i : Item). world_after plan contest.world.world (replicate n.count i.thread)) comes.item_is in
      record {
        few = omega (arith, few, long);
        plan_is = same;
        within = subst (λ (p : Plan). IsWithin (threads_in p) next.stage) so_far.plan_is comes.after;
        of_threads = rw more (All-push (λ (i : Item). i.thread < threads_in plan) items item so_far.of_threads
            (subst (λ (p : Plan). item.thread < threads_in p) so_far.plan_is comes.thread));
        steps = rw more (omega (
          arith,
          so_far.steps,
          comes.left,
          comes.counts,
          comes.within,
          sum_by_push (λ (i : Item). counted i.until) items item,
        ));
        all =
            let left = contest.left - n.count in
            let last = λ (k : ℕ) (w : World) (stage : Stage). items ++ n.item ∷ rivals_from plan fewer k w stage in
            ap (λ (l : List Item). l ++ those_next plan (most - length new) next)
            (more ∙ ap (λ (i : Item). items ++ i ∷ []) comes.item_is)
            ∙ append_assoc items (n.item ∷ []) (those_next plan (most - length new) next)
            ∙ ap (λ (k : ℕ). items ++ n.item ∷ those_next plan k next) (sym number)
            ∙ ap (λ (k : ℕ). last k next.world.world next.stage) comes.left
            ∙ ap (λ (w : World). last left w next.stage) world
            ∙ ap (last left (world_after plan contest.world.world (replicate n.count n.item.thread))) comes.stage
            ∙ by_next (Some n) comes.is;
      }

-- ---- the items make at most as many steps as those of a file

within_more : (goes : Bool) (left count : ℕ) (rest : Option ℕ) → ((n : ℕ) → rest ≡ Some n → n ≤ left) →
    cond goes (option_map (λ more. 1 + more) rest) (Some 1) ≡ Some count → count ≤ suc left
within_more true left count None below is = absurd cc
within_more true left count (Some n) below is =
    let one : 1 + n ≡ count = some_is (1 + n) count is in
    omega (arith, one, below n refl)
within_more false left count rest below is =
    let one : 1 ≡ count = some_is 1 count is in
    omega (arith, one)

-- a thread reaches its lock in at most `left` steps
lock_within : (plan : Plan) (t left : ℕ) (w : World) (count : ℕ) → to_lock plan t left w ≡ Some count → count ≤ left
unfolding to_lock
lock_within plan t zero w count is = absurd cc
lock_within plan t (suc left) w count is =
    within_more (is_on_way (happens plan w t).0) left count (to_lock plan t left (happens plan w t).1)
    (lock_within plan t left (happens plan w t).1) is

-- the next item counts the steps until it ends
abbrev Steps : Plan → ℕ → World → NextItem → Type 0
Steps plan left w n = steps_until plan n.item.thread left w n.item.until ≡ Some n.count

counted_steps : (plan : Plan) (left : ℕ) (w : World) (t : ℕ) (found : Option ℕ) (n : NextItem) →
    to_lock plan t left w ≡ found →
    option_map (λ count. next_of t (Count count) (Others t 0) count) found ≡ Some n → Steps plan left w n
counted_steps plan left w t None n is said = absurd cc
counted_steps plan left w t (Some count) n is said =
    let few : nat_le count left ≡ true = let h = lock_within plan t left w count is in grind (arith, nat_tests) in
    let next = next_of t (Count count) (Others t 0) count in
    subst (λ (m : NextItem). Steps plan left w m) (next_is next n said) (rw few refl)

until_steps : (plan : Plan) (left : ℕ) (w : World) (t : ℕ) (until : Until) (after : Stage) (found : Option ℕ)
    (n : NextItem) → steps_until plan t left w until ≡ found → option_map (next_of t until after) found ≡ Some n →
    Steps plan left w n
until_steps plan left w t until after None n is said = absurd cc
until_steps plan left w t until after (Some count) n is said =
    subst (λ (m : NextItem). Steps plan left w m) (next_is (next_of t until after count) n said) is

led_steps : (plan : Plan) (left : ℕ) (w : World) (leads : Option ℕ) (n : NextItem) →
    led_by plan left w leads ≡ Some n → Steps plan left w n
led_steps plan left w None n said = absurd cc
led_steps plan left w (Some t) n said = counted_steps plan left w t (to_lock plan t left w) n refl said

followed_steps : (plan : Plan) (left : ℕ) (w : World) (t : ℕ) (other : Option ℕ) (n : NextItem) →
    followed_by plan left w t other ≡ Some n → Steps plan left w n
followed_steps plan left w t (Some other) n said =
    until_steps plan left w other Stop (Others t (other + 1)) (steps_until plan other left w Stop) n refl said
followed_steps plan left w t None n said =
    until_steps plan left w t CallEnd (Round (t + 1)) (steps_until plan t left w CallEnd) n refl said

next_steps : (plan : Plan) (left : ℕ) (w : World) (stage : Stage) (n : NextItem) →
    next_item plan left w stage ≡ Some n → Steps plan left w n
next_steps plan left w (Round from) n said = led_steps plan left w (leader plan w from) n said
next_steps plan left w (Others t from) n said = followed_steps plan left w t (first_to_go plan w t from) n said

-- there are turns
abbrev pub HaveTurns : Result (List Turn) StepsFault → Type 0
HaveTurns said = (turns : List Turn) × (said ≡ Ok turns)

in_front_ok : (some : List Turn) (said : Result (List Turn) StepsFault) → HaveTurns said →
    HaveTurns (in_front some said)
in_front_ok some said found = (some ++ found.0, ap (in_front some) found.1)

rest_taken : (plan : Plan) (left : ℕ) (w : World) (next : Option NextItem) (after : NextItem → List Item) →
    ((n : NextItem) → next ≡ Some n → Steps plan left w n) →
    ((n : NextItem) →
    HaveTurns (turns_from plan (left - n.count) (world_after plan w (replicate n.count n.item.thread)) (after n))) →
    HaveTurns (turns_from plan left w (and_after next after))
rest_taken plan left w None after steps others = ([], refl)
rest_taken plan left w (Some n) after steps others =
    let rest : ℕ → Result (List Turn) StepsFault =
    λ count. turns_from plan (left - count) (world_after plan w (replicate count n.item.thread)) (after n) in
    subst HaveTurns (sym (ap (λ (count : Option ℕ). turn_and n.item count rest) (steps n refl)))
    (in_front_ok (record { thread = n.item.thread; count = n.count } ∷ []) (rest n.count) (others n))

all_taken : (plan : Plan) (most left : ℕ) (w : World) (stage : Stage) →
    HaveTurns (turns_from plan left w (rivals_from plan most left w stage))
unfolding rivals_from
all_taken plan zero left w stage = ([], refl)
all_taken plan (suc most) left w stage =
    rest_taken plan left w (next_item plan left w stage) (those_after plan most left w)
    (next_steps plan left w stage)
    (λ n. all_taken plan most (left - n.count) (world_after plan w (replicate n.count n.item.thread)) n.after)

-- the items of rivals have turns
pub taken : (plan : Plan) (most : ℕ) (items : List Item) → items ≡ rivals_of plan most →
    (turns : List Turn) × (turns_of plan items ≡ Ok turns)
taken plan most items is = rw is (all_taken plan most STEP_LIMIT (opening_world plan) (Round 0))
