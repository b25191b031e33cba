-- Calls of sections that touch different cells can be run in either order.
use Rattle.std.proofs.Common.{◌≡◌, ℕ, suc, List, [], ◌∷◌, Some, None, Option, Result, Ok, Err, Bool, true}
use Rattle.std.proofs.Common.{false, refl, sym, ap, ◌∙◌, subst}
use Rattle.std.specs.Prelude.{slice_get, map, drop, length}
use Rattle.core_lang.specs.declared.value.Value.{Value}
use Rattle.core_lang.specs.declared.value.Outcome.{Outcome}
use Rattle.core_lang.specs.declared.value.Outcome.TheVariants as out
use Rattle.core_lang.specs.declared.value.Failure.{Failure}
use Rattle.core_lang.specs.declared.value.Failure.TheVariants.{Trap, Wrong}
use Rattle.core_lang.specs.declared.shape.Shape.{Shape}
use Rattle.core_lang.specs.declared.tree.Return.{Return}
use Rattle.core_lang.specs.declared.tree.Section.{Section}
use Rattle.core_lang.specs.declared.typed.Typed.{Typed}
use Rattle.core_lang.specs.Meaning.{State, Flow, GoesOn, Traps, Beyond, Astray, value_of, helped, deepest, sequence}
use Rattle.core_lang.specs.Whole.{Finished, Run, Over, Beyond_turns, Gone_astray, run_of, over, returned, ending}
use Rattle.core_lang.specs.Whole.{concluded, default_local, opening}
use Rattle.core_lang.specs.Serial.{Invocation, end_of, run_section, run_call}
use Rattle.core_lang.specs.Theory.Items.{still_at}
use Rattle.outcomes.specs.Footprints.{ResultWithin, SectionWithin}
use Rattle.outcomes.specs.Commuting.{Commute}
use Rattle.outcomes.specs.IndependenceLaws.{AgreeOn, EndsAlike, In, OtherCellsChangeNothing, WritesApart}
use Rattle.outcomes.specs.IndependenceLaws.{CallsApartCommute}
use Rattle.outcomes.proofs.Frame.{AreAlike, LeadAlike, value_both, sequence_both}

-- a run that reads only some cells and writes only some cells, on each heap
abbrev pub IsFramed : (ℕ → Type 0) → (ℕ → Type 0) → (List Value → Run) → Type 0
IsFramed Read Write run =
    (heap heap' : List Value) (finished : Finished) → AgreeOn Read heap heap' → AgreeOn Write heap heap' →
    run heap ≡ Over finished →
    EndsAlike Read Write run heap heap' finished

astray_not_over : (finished : Finished) → Gone_astray ≡ Over finished → ⊥
astray_not_over finished e = cc

beyond_not_over : (finished : Finished) → Beyond_turns ≡ Over finished → ⊥
beyond_not_over finished e = cc

module _ (shape : Shape) (arguments : List Value) (Read Write : ℕ → Type 0) (heap heap' : List Value) where
  -- the ends of two runs are alike
  abbrev EndAlike : Run → Run → Type 0
  EndAlike x y = (finished : Finished) → x ≡ Over finished → EndsAlike Read Write (λ _. y) heap heap' finished

  over_both : (o : Outcome) (s t : State) → AreAlike shape arguments Read Write heap heap' s t →
      EndAlike (over o s) (over o t)
  over_both o s t a finished e =
      let first : Finished = record { outcome = o; prints = s.prints; heap = s.heap } in
      let same : first ≡ finished = let is : Over first ≡ Over finished = e in cc in
      subst (λ x. EndsAlike Read Write (λ _. over o t) heap heap' x) same (record {
        other = record { outcome = o; prints = t.prints; heap = t.heap };
        over = refl;
        ends = ap (λ ns. record { outcome = o; prints = ns }) (sym a.prints);
        reads = a.reads;
        writes = a.writes;
        kept = a.kept;
        kept' = a.kept';
      })

  returned_both : (r : Result Value Failure) (s t : State) → AreAlike shape arguments Read Write heap heap' s t →
      EndAlike (returned r s) (returned r t)
  returned_both (Ok v) s t a = over_both (out.Returns v) s t a
  returned_both (Err (Trap c)) s t a = over_both (out.Traps c) s t a
  returned_both (Err Wrong) s t a = λ finished e. absurd (astray_not_over finished e)

  ending_both : (result : Option Return) (s t : State) → AreAlike shape arguments Read Write heap heap' s t →
      ResultWithin shape arguments Read Write result → EndAlike (ending result shape s) (ending result shape t)
  ending_both None s t a is = over_both out.Ends s t a
  ending_both (Some r) s t a is =
      subst (λ x. EndAlike (ending (Some r) shape s) (returned x t))
      (value_both shape arguments Read Write heap heap' r.value s t a is)
      (returned_both (value_of r.value shape s.locals s.heap) s t a)

  concluded_both : (result : Option Return) (x y : Flow) → LeadAlike shape arguments Read Write heap heap' x y →
      ResultWithin shape arguments Read Write result → EndAlike (concluded result shape x) (concluded result shape y)
  concluded_both result (GoesOn s) (GoesOn t) a is = ending_both result s t a is
  concluded_both result (GoesOn s) (Traps d t) a is = absurd a
  concluded_both result (GoesOn s) Beyond a is = absurd a
  concluded_both result (GoesOn s) Astray a is = absurd a
  concluded_both result (Traps c s) (GoesOn t) a is = absurd a
  concluded_both result (Traps c s) (Traps d t) a is =
      subst (λ x. EndAlike (over (out.Traps c) s) (over (out.Traps x) t)) a.0 (over_both (out.Traps c) s t a.1)
  concluded_both result (Traps c s) Beyond a is = absurd a
  concluded_both result (Traps c s) Astray a is = absurd a
  concluded_both result Beyond y a is = λ finished e. absurd (beyond_not_over finished e)
  concluded_both result Astray y a is = λ finished e. absurd (astray_not_over finished e)

pub section_framed : (section : Section) (shape : Shape) (n : ℕ) (arguments : List Value) (Read Write : ℕ → Type 0) →
    SectionWithin shape arguments Read Write section → IsFramed Read Write (run_of section shape n arguments)
section_framed section shape n arguments Read Write is heap heap' finished reads writes e =
    let s = opening section arguments heap in
    let t = opening section arguments heap' in
    let start : AreAlike shape arguments Read Write heap heap' s t = record {
      locals = refl;
      prints = refl;
      knows = λ k v here. still_at arguments (map default_local (drop (length arguments) section.locals.items)) k v
          here;
      reads = reads;
      writes = writes;
      kept = λ c w. refl;
      kept' = λ c w. refl;
    } in
    let both = sequence_both shape arguments Read Write heap heap' (helped deepest shape n) n section.body.items s t
    start is.0 in
    let end = concluded_both shape arguments Read Write heap heap' section.result
    (sequence section.body.items shape n s) (sequence section.body.items shape n t) both is.1 finished e in
    record {
      other = end.other;
      over = end.over;
      ends = end.ends;
      reads = end.reads;
      writes = end.writes;
      kept = end.kept;
      kept' = end.kept';
    }

pub other_cells : OtherCellsChangeNothing
other_cells section shape n arguments heap heap' finished reads writes is agree agree' e =
    section_framed section shape n arguments (In reads) (In writes) is heap heap' finished agree agree' e

same_lists : {A : Type 0} (xs ys : List A) → ((k : ℕ) → slice_get xs k ≡ slice_get ys k) → xs ≡ ys
same_lists [] [] h = refl
same_lists [] (y ∷ ys) h = let e = h 0 in let wrong : ⊥ = cc in absurd wrong
same_lists (x ∷ xs) [] h = let e = h 0 in let wrong : ⊥ = cc in absurd wrong
same_lists (x ∷ xs) (y ∷ ys) h =
    let e : Some x ≡ Some y = h 0 in
    let first : x ≡ y = cc in
    ap (λ z. z ∷ xs) first ∙ ap (λ zs. y ∷ zs) (same_lists xs ys (λ k. h (suc k)))

not_in : (set : ℕ → Bool) (c : ℕ) → set c ≡ false → In set c → ⊥
not_in set c e is = cc

-- a cell is in a set or is not
by_set : (P : Type 0) (b : Bool) → (b ≡ true → P) → (b ≡ false → P) → P
by_set P true h k = h refl
by_set P false h k = k refl

-- two runs of which neither writes what the other touches
module _ (run run' : List Value → Run) (reads writes reads' writes' : ℕ → Bool)
    (framed : IsFramed (In reads) (In writes) run) (framed' : IsFramed (In reads') (In writes') run')
    (apart : WritesApart writes reads' writes') (apart' : WritesApart writes' reads writes) where
  apart_reads : (c : ℕ) → In reads c → In writes' c → ⊥
  apart_reads c r w = not_in reads c (apart' c w).0 r

  apart_reads' : (c : ℕ) → In reads' c → In writes c → ⊥
  apart_reads' c r w = not_in reads' c (apart c w).0 r

  apart_writes : (c : ℕ) → In writes c → In writes' c → ⊥
  apart_writes c w w' = not_in writes c (apart' c w').1 w

  -- the results in the other order
  pub record Turned (heap : List Value) (first second : Finished) : Type 0 where
    pub sooner : Finished
    pub later : Finished
    pub sooner_over : run' heap ≡ Over sooner
    pub later_over : run sooner.heap ≡ Over later
    pub sooner_ends : end_of sooner ≡ end_of second
    pub later_ends : end_of later ≡ end_of first
    pub heap_is : later.heap ≡ second.heap

  pub turned : (heap : List Value) (first second : Finished) → run heap ≡ Over first → run' first.heap ≡ Over second →
      Turned heap first second
  turned heap first second e e' =
      let alone = framed heap heap first (λ c r. refl) (λ c w. refl) e in
      -- the second run finds its cells as they were before the first
      let x = framed' first.heap heap second (λ c r. alone.kept c (λ w. apart_reads' c r w))
      (λ c w'. alone.kept c (λ w. apart_writes c w w')) e' in
      -- the first run finds its cells as they were before the second
      let y = framed heap x.other.heap first (λ c r. sym (x.kept' c (λ w'. apart_reads c r w')))
      (λ c w. sym (x.kept' c (λ w'. apart_writes c w w'))) e in
      let same : (c : ℕ) → slice_get y.other.heap c ≡ slice_get second.heap c = λ c.
      by_set (slice_get y.other.heap c ≡ slice_get second.heap c) (writes c)
      (λ w. sym (y.writes c w) ∙ sym (x.kept c (λ w'. apart_writes c w w')))
      (λ w. y.kept' c (not_in writes c w) ∙ by_set (slice_get x.other.heap c ≡ slice_get second.heap c) (writes' c)
      (λ w'. sym (x.writes c w'))
      (λ w'. x.kept' c (not_in writes' c w') ∙ sym (alone.kept c (not_in writes c w))
      ∙ sym (x.kept c (not_in writes' c w')))) in
      record {
        sooner = x.other;
        later = y.other;
        sooner_over = x.over;
        later_over = y.over;
        sooner_ends = x.ends;
        later_ends = y.ends;
        heap_is = same_lists y.other.heap second.heap same;
      }

pub none_framed : (Read Write : ℕ → Type 0) → IsFramed Read Write (λ heap. Gone_astray)
none_framed Read Write heap heap' finished reads writes e = absurd (astray_not_over finished e)

call_framed : (program : Typed) (n : ℕ) (call : Invocation) (Read Write : ℕ → Type 0) (o : Option Section) →
    ((section : Section) → o ≡ Some section → SectionWithin program.shape call.arguments Read Write section) →
    IsFramed Read Write (run_section o program n call.arguments)
call_framed program n call Read Write None is = none_framed Read Write
call_framed program n call Read Write (Some section) is = section_framed section program.shape n call.arguments Read
    Write (is section refl)

-- calls whose runs are framed commute
pub framed_commute : (program : Typed) (n : ℕ) (a b : Invocation) (reads writes reads' writes' : ℕ → Bool) →
    IsFramed (In reads) (In writes) (run_call program n a) → IsFramed (In reads') (In writes') (run_call program n b) →
    WritesApart writes reads' writes' → WritesApart writes' reads writes → Commute program n a b
framed_commute program n a b reads writes reads' writes' framed framed' apart apart' heap first second e e' =
    let t = turned (run_call program n a) (run_call program n b) reads writes reads' writes' framed framed' apart
    apart' heap first second e e' in
    record {
      sooner = t.sooner;
      later = t.later;
      sooner_over = t.sooner_over;
      later_over = t.later_over;
      sooner_ends = t.sooner_ends;
      later_ends = t.later_ends;
      heap_is = t.heap_is;
    }

pub calls_apart : CallsApartCommute
calls_apart program n a b reads writes reads' writes' is is' apart apart' =
    framed_commute program n a b reads writes reads' writes'
    (call_framed program n a (In reads) (In writes) (slice_get program.sections.items a.section) is)
    (call_framed program n b (In reads') (In writes') (slice_get program.sections.items b.section) is') apart apart'
