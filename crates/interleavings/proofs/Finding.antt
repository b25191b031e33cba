-- The turns of items, one after another.
use Rattle.std.proofs.Common.{◌≡◌, ◌≤◌, ◌<◌, ◌+◌, ◌-◌, ◌&&◌, ℕ, zero, suc, true, List, [], ◌∷◌, ◌++◌, length, take, drop, get_or}
use Rattle.std.proofs.Common.{replicate, Option, Some, None, Result, Ok, Err, refl, sym, subst, ap, ap₂, ◌∙◌, arith, append_assoc, drop-cons}
use Rattle.std.proofs.lemmas.Bool.{and_parts}
use Rattle.std.proofs.lemmas.List.{take_all, take_more, append-nil, take-append-drop, length-drop}
use Rattle.lowering.specs.Plans.{Plan}
use Rattle.input_files.specs.declared.item.Item.{Item}
use Rattle.input_files.specs.declared.item.Until.{Until}
use Rattle.input_files.specs.declared.item.Until.TheVariants.{Count, Stop, CallEnd}
use Rattle.input_files.specs.declared.steps_refusal.StepsFault.{StepsFault}
use Rattle.input_files.specs.declared.turn.Turn.{Turn}
use Rattle.input_files.specs.declared.steps_refusal.StepsRefusal.{StepsRefusal}
use Rattle.input_files.specs.declared.steps_refusal.StepsRefusal.TheVariants.{Fault, NoMemory}
use Rattle.input_files.specs.Steps.{in_front, STEP_LIMIT, Answers, IfFault}
use Rattle.std.specs.Prelude.{OnOk}
use Rattle.input_files.specs.Theory.Fronts.{in_front-both, in_front-nil}
use Rattle.worlds.specs.Worlds.{World, world_after, opening_world}
use Rattle.interleavings.specs.Threads.{ThreadsOf, at_opening}
use Rattle.interleavings.specs.Items.{steps_until, turn_and, turns_from, turns_of}
use Rattle.interleavings.specs.Working.Found.{Takes, is_counted, are_counted, count_within, counted_turns, Adds, IsTooMuch}
use Rattle.interleavings.specs.Working.Found.{RunsItems, RunsFromOpening, RunIsTooMuch, CountsItems, CountIsTooMuch}
use Rattle.interleavings.specs.declared.items.Finder.{Finder}

-- ---- lists

-- the items, with one more, and others after it
one_more : (items more : List Item) (i : ℕ) (d : Item) → i < length items →
    take (i + 1) items ++ more ≡ take i items ++ get_or items i d ∷ more
one_more items more i d low =
    ap (λ l. l ++ more) (take_more items i d low) ∙ append_assoc (take i items) (get_or items i d ∷ []) more

-- the items are cut at one of them
parted : (items : List Item) (i : ℕ) (d : Item) → i < length items →
    items ≡ take i items ++ get_or items i d ∷ drop (suc i) items
parted [] i d low = absurd (omega (arith, low))
parted (x ∷ xs) zero d low = refl
parted (x ∷ xs) (suc i) d low = ap (λ l. x ∷ l) (parted xs i d (omega (arith, low)))

parted_with : (items more : List Item) (i : ℕ) (d : Item) → i < length items →
    items ++ more ≡ take i items ++ get_or items i d ∷ (drop (suc i) items ++ more)
parted_with items more i d low =
    ap (λ l. l ++ more) (parted items i d low) ∙ append_assoc (take i items) (get_or items i d ∷ drop (suc i) items) more

-- a fault after some turns is the fault of the rest
fault_behind : (turns : List Turn) (said : Result (List Turn) StepsFault) (fault : StepsFault) →
    in_front turns said ≡ Err fault → said ≡ Err fault
fault_behind turns (Ok more) fault is = absurd cc
fault_behind turns (Err other) fault is = is

-- a refusal whose fault has a property has each weaker property
pub weaker_fault : (T : Type 0) (refusal : StepsRefusal) (P Q : StepsFault → Type 0) → ((fault : StepsFault) → P fault → Q fault) →
    IfFault {T = T} (Err refusal) P → IfFault {T = T} (Err refusal) Q
weaker_fault T (Fault fault) P Q so is = so fault is
weaker_fault T NoMemory P Q so is = tt

-- a refusal is the right answer if its fault is the one to report
answered : (U : Type 0) (refusal : StepsRefusal) (P : StepsFault → Type 0) (said : Result (List Turn) StepsFault) →
    ((fault : StepsFault) → P fault → said ≡ Err fault) → IfFault {T = U} (Err refusal) P → Answers {T = Turn} (Err refusal) said
answered U (Fault fault) P said so is = so fault is
answered U NoMemory P said so is = tt

-- ---- items that are run

pub runs_none : (f : Finder) (w : ThreadsOf) → RunsItems [] f w f w
runs_none f w = record { plan = refl; found = λ more. refl }

module _ (items : List Item) (i : ℕ) (d : Item) (low : i < length items) (old mid : Finder) (first now : ThreadsOf)
    (so_far : RunsItems (take i items) old first mid now) (count : Option ℕ)
    (comes : count ≡ steps_until now.plan (get_or items i d).thread mid.left now.world (get_or items i d).until) where
  come : steps_until first.plan (get_or items i d).thread mid.left now.world (get_or items i d).until ≡ count
  come = ap (λ (p : Plan). steps_until p (get_or items i d).thread mid.left now.world (get_or items i d).until) (sym so_far.plan) ∙ sym comes

  turn_first : (more : List Item) →
      turns_from first.plan mid.left now.world (get_or items i d ∷ more)
      ≡ turn_and (get_or items i d) count (λ n. turns_from first.plan (mid.left - n) (world_after first.plan now.world (replicate n (get_or items i d).thread)) more)
  turn_first more =
      ap (λ (c : Option ℕ). turn_and (get_or items i d) c
      (λ n. turns_from first.plan (mid.left - n) (world_after first.plan now.world (replicate n (get_or items i d).thread)) more)) come

  pub runs_fault : (fault : StepsFault) → IsTooMuch (get_or items i d) count fault → RunIsTooMuch items old first fault
  runs_fault fault is more =
      fault_behind old.turns.items (turns_from first.plan old.left first.world (items ++ more)) fault
      (ap (λ (l : List Item). in_front old.turns.items (turns_from first.plan old.left first.world l)) (parted_with items more i d low)
      ∙ sym (so_far.found (get_or items i d ∷ (drop (suc i) items ++ more)))
      ∙ ap (in_front mid.turns.items) (turn_first (drop (suc i) items ++ more)
      ∙ ap (λ (c : Option ℕ). turn_and (get_or items i d) c
      (λ n. turns_from first.plan (mid.left - n) (world_after first.plan now.world (replicate n (get_or items i d).thread)) (drop (suc i) items ++ more))) is.0)
      ∙ ap (λ (f : StepsFault). Err f) (sym is.1))

module _ (items : List Item) (i : ℕ) (d : Item) (low : i < length items) (old mid new : Finder) (first now last : ThreadsOf)
    (so_far : RunsItems (take i items) old first mid now) where
  pub runs_on : (count : Option ℕ) →
      count ≡ steps_until now.plan (get_or items i d).thread mid.left now.world (get_or items i d).until →
      Takes (get_or items i d).thread count now last → Adds (get_or items i d) count mid new →
      RunsItems (take (i + 1) items) old first new last
  runs_on None comes takes adds = absurd adds
  runs_on (Some n) comes takes adds =
      let t = (get_or items i d).thread in
      let turn : Turn = record { thread = t; count = n } in
      let plan : last.plan ≡ first.plan = ap (λ (w : ThreadsOf). w.plan) takes ∙ so_far.plan in
      let world : last.world ≡ world_after first.plan now.world (replicate n t) =
      ap (λ (w : ThreadsOf). w.world) takes ∙ ap (λ (p : Plan). world_after p now.world (replicate n t)) so_far.plan in
      record {
        plan = plan;
        found = λ more.
            ap₂ (λ (turns : List Turn) (left : ℕ). in_front turns (turns_from first.plan left last.world more)) adds.0 adds.1
            ∙ ap (λ (w : World). in_front (mid.turns.items ++ turn ∷ []) (turns_from first.plan (mid.left - n) w more)) world
            ∙ sym (in_front-both mid.turns.items (turn ∷ []) (turns_from first.plan (mid.left - n) (world_after first.plan now.world (replicate n t)) more))
            ∙ ap (in_front mid.turns.items) (sym (turn_first items i d low old mid first now so_far (Some n) comes more))
            ∙ so_far.found (get_or items i d ∷ more)
            ∙ ap (λ (l : List Item). in_front old.turns.items (turns_from first.plan old.left first.world l)) (sym (one_more items more i d low));
      }

-- the run of items from the opening world
pub run_made : (plan : Plan) (items : List Item) (old new : Finder) (first last : ThreadsOf) → first ≡ at_opening plan →
    {A E : Type 0} (r : Result A E) → OnOk r (RunsItems items old first new last) → OnOk r (RunsFromOpening plan items old new)
run_made plan items old new first last opened (Ok a) is =
    (last, subst (λ (w : ThreadsOf). RunsItems items old w new last) opened is)
run_made plan items old new first last opened (Err e) is = tt

-- ---- items that count their steps

pub counts_none : (f : Finder) → CountsItems [] f f
counts_none f more = refl

module _ (items : List Item) (i : ℕ) (d : Item) (low : i < length items) (old mid : Finder)
    (so_far : CountsItems (take i items) old mid) where
  counted_first : (count : Option ℕ) → count ≡ count_within mid.left (get_or items i d).until → (more : List Item) →
      counted_turns mid.left (get_or items i d ∷ more)
      ≡ turn_and (get_or items i d) count (λ n. counted_turns (mid.left - n) more)
  counted_first count comes more =
      ap (λ (c : Option ℕ). turn_and (get_or items i d) c (λ n. counted_turns (mid.left - n) more)) (sym comes)

  pub counts_fault : (count : Option ℕ) → count ≡ count_within mid.left (get_or items i d).until → (fault : StepsFault) →
      IsTooMuch (get_or items i d) count fault → CountIsTooMuch items old fault
  counts_fault count comes fault is more =
      fault_behind old.turns.items (counted_turns old.left (items ++ more)) fault
      (ap (λ (l : List Item). in_front old.turns.items (counted_turns old.left l)) (parted_with items more i d low)
      ∙ sym (so_far (get_or items i d ∷ (drop (suc i) items ++ more)))
      ∙ ap (in_front mid.turns.items) (counted_first count comes (drop (suc i) items ++ more)
      ∙ ap (λ (c : Option ℕ). turn_and (get_or items i d) c (λ n. counted_turns (mid.left - n) (drop (suc i) items ++ more))) is.0)
      ∙ ap (λ (f : StepsFault). Err f) (sym is.1))

  pub counts_on : (count : Option ℕ) → count ≡ count_within mid.left (get_or items i d).until → (new : Finder) →
      Adds (get_or items i d) count mid new → CountsItems (take (i + 1) items) old new
  counts_on None comes new adds more = absurd adds
  counts_on (Some n) comes new adds more =
      let turn : Turn = record { thread = (get_or items i d).thread; count = n } in
      ap₂ (λ (turns : List Turn) (left : ℕ). in_front turns (counted_turns left more)) adds.0 adds.1
      ∙ sym (in_front-both mid.turns.items (turn ∷ []) (counted_turns (mid.left - n) more))
      ∙ ap (in_front mid.turns.items) (sym (counted_first (Some n) comes more))
      ∙ so_far (get_or items i d ∷ more)
      ∙ ap (λ (l : List Item). in_front old.turns.items (counted_turns old.left l)) (sym (one_more items more i d low))

-- the items from `len - 1` on are counted, if that item and those after it are
pub counted_back : (items : List Item) (len : ℕ) (d : Item) → 0 < len → len ≤ length items → are_counted (drop len items) ≡ true →
    is_counted (get_or items (len - 1) d).until ≡ true → are_counted (drop (len - 1) items) ≡ true
counted_back items len d some within rest here =
    let low : len - 1 < length items = omega (arith, some, within) in
    let number : suc (len - 1) ≡ len = omega (arith, some) in
    ap are_counted (drop-cons items (len - 1) d low)
    ∙ ap₂ (λ a b. a && b) here (ap (λ n. are_counted (drop n items)) number ∙ rest)

-- ---- counted items come to the same from any world

same_count : (plan : Plan) (t left : ℕ) (w : World) (until : Until) → is_counted until ≡ true →
    steps_until plan t left w until ≡ count_within left until
same_count plan t left w (Count count) is = refl
same_count plan t left w Stop is = absurd cc
same_count plan t left w CallEnd is = absurd cc

same_rest : (x : Item) (count : Option ℕ) (f g : ℕ → Result (List Turn) StepsFault) → ((n : ℕ) → f n ≡ g n) →
    turn_and x count f ≡ turn_and x count g
same_rest _ None f g same = refl
same_rest x (Some n) f g same = ap (in_front (record { thread = x.thread; count = n } ∷ [])) (same n)

counted_same : (plan : Plan) (left : ℕ) (w : World) (items : List Item) → are_counted items ≡ true →
    turns_from plan left w items ≡ counted_turns left items
counted_same plan left w [] are = refl
counted_same plan left w (item ∷ items) are =
    let parts = and_parts (is_counted item.until) (are_counted items) are in
    ap (λ (c : Option ℕ). turn_and item c (λ n. turns_from plan (left - n) (world_after plan w (replicate n item.thread)) items))
    (same_count plan item.thread left w item.until parts.0)
    ∙ same_rest item (count_within left item.until)
    (λ n. turns_from plan (left - n) (world_after plan w (replicate n item.thread)) items) (λ n. counted_turns (left - n) items)
    (λ n. counted_same plan (left - n) (world_after plan w (replicate n item.thread)) items parts.1)

-- taking as many items as are left takes all that are left
pub rest_is : (items : List Item) (len : ℕ) → len ≤ length items → take (length items - len) (drop len items) ≡ drop len items
rest_is items len within = take_all (length items - len) (drop len items) (simp length-drop (omega arith))

-- ---- all items

module _ (plan : Plan) (items : List Item) (len : ℕ) (start : Finder) (opened : start.turns.items ≡ []) (full : start.left ≡ STEP_LIMIT) where
  -- a fault in the items' run from the opening world is the fault of all items
  all_fault_first : (fault : StepsFault) → RunIsTooMuch (take len items) start (at_opening plan) fault → turns_of plan items ≡ Err fault
  all_fault_first fault is =
      ap (λ (n : ℕ). turns_from plan n (opening_world plan) items) (sym full)
      ∙ ap (λ (l : List Item). turns_from plan start.left (opening_world plan) l) (sym (take-append-drop len items))
      ∙ is (drop len items)

  pub all_refused_first : (U : Type 0) (refusal : StepsRefusal) →
      IfFault {T = U} (Err refusal) (RunIsTooMuch (take len items) start (at_opening plan)) → Answers {T = Turn} (Err refusal) (turns_of plan items)
  all_refused_first U refusal is =
      answered U refusal (RunIsTooMuch (take len items) start (at_opening plan)) (turns_of plan items) all_fault_first is

  module _ (mid : Finder) (found : RunsFromOpening plan (take len items) start mid) (rest : are_counted (drop len items) ≡ true) where
    all_are : turns_of plan items ≡ in_front mid.turns.items (counted_turns mid.left (drop len items))
    all_are =
        ap (λ (n : ℕ). turns_from plan n (opening_world plan) items) (sym full)
        ∙ ap (λ (l : List Item). turns_from plan start.left (opening_world plan) l) (sym (take-append-drop len items))
        ∙ sym (in_front-nil (turns_from plan start.left (opening_world plan) (take len items ++ drop len items)))
        ∙ ap (λ (turns : List Turn). in_front turns (turns_from plan start.left (opening_world plan) (take len items ++ drop len items))) (sym opened)
        ∙ sym (found.1.found (drop len items))
        ∙ ap (in_front mid.turns.items) (counted_same plan mid.left found.0.world (drop len items) rest)

    all_fault_last : (fault : StepsFault) → CountIsTooMuch (drop len items) mid fault → turns_of plan items ≡ Err fault
    all_fault_last fault is =
        all_are ∙ ap (λ (l : List Item). in_front mid.turns.items (counted_turns mid.left l)) (sym (append-nil (drop len items)))
        ∙ ap (in_front mid.turns.items) (is [])

    pub all_refused_last : (U : Type 0) (refusal : StepsRefusal) →
        IfFault {T = U} (Err refusal) (CountIsTooMuch (drop len items) mid) → Answers {T = Turn} (Err refusal) (turns_of plan items)
    all_refused_last U refusal is =
        answered U refusal (CountIsTooMuch (drop len items) mid) (turns_of plan items) all_fault_last is

    pub all_found : (last : Finder) → CountsItems (drop len items) mid last → turns_of plan items ≡ Ok last.turns.items
    all_found last counts =
        all_are ∙ ap (λ (l : List Item). in_front mid.turns.items (counted_turns mid.left l)) (sym (append-nil (drop len items)))
        ∙ sym (counts []) ∙ ap (λ (turns : List Turn). Ok turns) (append-nil last.turns.items)
