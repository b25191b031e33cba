-- The configurations to which the calls of orders lead.
use Rattle.std.proofs.Common.{◌≡◌, ◌∙◌, ◌≢◌, ℕ, ◌+◌, ◌-◌, ◌*◌, ◌<◌, ◌≤◌, zero, suc, Bool, true, false, cond, List, []}
use Rattle.std.proofs.Common.{◌∷◌, ◌++◌, length, map, get_or, Option, Some, sum_by, nat_eq, ap, sym, subst, refl, arith}
use Rattle.std.proofs.Common.{◌⊎◌, inl, inr, length-append}
use Rattle.std.specs.List.{All, AllPairs, Contains}
use Rattle.std.proofs.lemmas.Bool.Decides.{Decides-eqb}
use Rattle.std.proofs.lemmas.List.{length-map, get_or_default}
use Rattle.std.proofs.lemmas.List.Elements.{All-append, Contains-append_left, Contains-append_right}
use Rattle.std.proofs.lemmas.List.Sums.{sum_by-cons, get_or-le-sum_by}
use Rattle.std.proofs.lemmas.List.{get_or-map}
use Rattle.std.proofs.Math.ListN.{get_or-append}
use Rattle.std.proofs.Math.Seq.{get_or-append_right}
use Rattle.core_lang.specs.declared.value.Value.{Value}
use Rattle.outcomes.specs.Ends.{Left, opening_left, no_answers, answers_after}
use Rattle.core_lang.specs.declared.typed.Typed.{Typed}
use Rattle.core_lang.specs.Laws.{OverIsWhole, SettledAreSerial, HaveAtMostOneSerial}
use Rattle.core_lang.specs.Serial.{Ended, SerialFromOpening}
use Rattle.core_lang.specs.WellFormed.{calls_together}
use Rattle.outcomes.specs.declared.search.Search.{Search}
use Rattle.outcomes.specs.declared.search.Work.{Work}
use Rattle.outcomes.specs.Working.Steps.{GoesOn, Growth}
use Rattle.outcomes.specs.Orders.{none_done, orders_of, calls_in}
use Rattle.outcomes.specs.Ends.{done_after, end_in, Configuration, AreAllConfigurations, HasConfigurations}
use Rattle.outcomes.specs.Ends.{LeadsTo, HasSomeConfigurations}
use Rattle.outcomes.specs.Working.States.{Reached, left_with, at, nowhere}
use Rattle.outcomes.specs.Working.Searching.{Leads, Summand, order_at, IsGood, AreGood, weight, total}
use Rattle.outcomes.proofs.Leading.{leads_serially, leads_made}
use Rattle.outcomes.proofs.Full.{fits, made_few, made_in_order, leads_done}
use Rattle.outcomes.proofs.Whole.{counted, unsettled_end, ends_as, no_end, settled_left, some_term, passed, both_true}
use Rattle.outcomes.proofs.Whole.{same_left, left_is, left_same, both_left}
use Rattle.outcomes.specs.Theory.Done.{sums}

-- ---- a layer has all configurations of its depth

pub same_counts : List ℕ → List ℕ → Bool
same_counts [] [] = true
same_counts [] (y ∷ ys) = false
same_counts (x ∷ xs) [] = false
same_counts (x ∷ xs) (y ∷ ys) = cond (nat_eq x y) (same_counts xs ys) false

pub counts_are : (xs ys : List ℕ) → same_counts xs ys ≡ true → xs ≡ ys
unfolding same_counts
counts_are [] [] same = refl
counts_are [] (y ∷ ys) same = cc
counts_are (x ∷ xs) [] same = cc
counts_are (x ∷ xs) (y ∷ ys) same =
    let both = both_true (nat_eq x y) (same_counts xs ys) same in
    ap (λ z. z ∷ xs) ((Decides-eqb x y).0 both.0) ∙ ap (λ zs. y ∷ zs) (counts_are xs ys both.1)

pub counts_same : (xs : List ℕ) → same_counts xs xs ≡ true
unfolding same_counts
counts_same [] = refl
counts_same (x ∷ xs) = ap (λ b. cond b (same_counts xs xs) false) ((Decides-eqb x x).1 refl) ∙ counts_same xs

-- the number of orders that lead to a state, if the state passes the test, and otherwise 0
unfoldable pub passing : (List ℕ → Option Left → Bool) → Reached → ℕ
passing test s = cond (test s.done (Some s.left)) s.orders 0

unfoldable pub tested : (List ℕ → Option Left → Bool) → Summand
tested test d o = cond (test d o) 1 0

pub total_here : (program : Typed) (n : ℕ) (test : List ℕ → Option Left → Bool) (layer : List Reached) →
    total program n (tested test) 0 layer ≡ sum_by (passing test) layer
unfolding passing tested
total_here program n test [] = refl
total_here program n test (s ∷ layer) =
    let g : Reached → ℕ = λ s. s.orders * weight program n (tested test) 0 s.done s.left in
    sum_by-cons g s layer ∙ ap (λ x. x + sum_by g layer) (counted (test s.done (Some s.left)) s.orders)
    ∙ ap (λ x. passing test s + x) (total_here program n test layer) ∙ sym (sum_by-cons (passing test) s layer)

pub none_pass : (test : List ℕ → Option Left → Bool) (layer : List Reached) →
    ((d : List ℕ) (heap : Left) → test d (Some heap) ≡ false) →
    sum_by (passing test) layer ≡ 0
unfolding passing
none_pass test [] none = refl
none_pass test (s ∷ layer) none =
    sum_by-cons (passing test) s layer ∙ ap (λ b. cond b s.orders 0 + sum_by (passing test) layer) (none s.done s.left)
    ∙ ap (λ x. 0 + x) (none_pass test layer none)

-- an order is in the sum where its end passes
order_passes : (program : Typed) (n : ℕ) (answers : Bool) (depth : ℕ) (test : List ℕ → Option Left → Bool) (order : List ℕ) →
    Contains (orders_of program depth (none_done program)) order →
    test (done_after (none_done program) order) (end_in program n answers order) ≡ true →
    0 < weight program n (tested test) depth (none_done program) (opening_left program answers)
unfolding tested
order_passes program n answers depth test order there passes =
    let p : List ℕ → ℕ = λ o. cond (test (done_after (none_done program) o) (end_in program n answers o)) 1 0 in
    let most = get_or-le-sum_by p (orders_of program depth (none_done program)) there.0 order there.1 in
    let one : p (get_or (orders_of program depth (none_done program)) there.0 order) ≡ 1 = ap p there.2 ∙ ap (λ (b : Bool). cond b 1 0) passes in
    omega (arith, most, one)

unfoldable pub unsettled : List ℕ → Option Left → Bool
unsettled d o = unsettled_end o

unfoldable pub ends_at : List ℕ → Left → List ℕ → Option Left → Bool
ends_at done heap d o = cond (same_counts d done) (ends_as heap o) false

-- what the calls of an order leave
abbrev pub left_in : Typed → Bool → List ℕ → List Ended → List Value → Left
left_in program answers order ends heap = left_with heap (answers_after program (none_done program) order ends (no_answers answers program))

pub layer_has : SettledAreSerial → HaveAtMostOneSerial → (program : Typed) (n : ℕ) (answers : Bool) (depth : ℕ) (layer : List Reached) →
    ((f : Summand) → total program n f 0 layer ≡ weight program n f depth (none_done program) (opening_left program answers)) →
    (order : List ℕ) (ends : List Ended) (heap : List Value) → length order ≡ depth → length (calls_in program order) ≡ length order →
    SerialFromOpening program (calls_in program order) ends heap →
    (k : ℕ) × (k < length layer) × ((at layer k).done ≡ done_after (none_done program) order) × ((at layer k).left ≡ left_in program answers order ends heap)
unfolding unsettled ends_at unsettled_end ends_as passing
layer_has settled once program n answers depth layer sums order ends heap long made serial =
    let there : Contains (orders_of program depth (none_done program)) order =
    subst (λ (k : ℕ). Contains (orders_of program k (none_done program)) order) long (made_in_order program (none_done program) order made) in
    let none : weight program n (tested unsettled) depth (none_done program) (opening_left program answers) ≡ 0 =
    sym (sums (tested unsettled)) ∙ total_here program n unsettled layer ∙ none_pass unsettled layer (λ d h. refl) in
    let ended = no_end (end_in program n answers order) (λ is. (let some = order_passes program n answers depth unsettled order there is in omega (arith, some, none))) in
    let left = left_in program answers order ends heap in
    let same : ended.0 ≡ left = settled_left settled once program n (opening_left program answers) (none_done program) order heap ended.0 ends serial ended.1 in
    let done = done_after (none_done program) order in
    let passes : ends_at done left done (end_in program n answers order) ≡ true =
    ap (λ (b : Bool). cond b (ends_as left (end_in program n answers order)) false) (counts_same done)
    ∙ ap (ends_as left) ended.1 ∙ ap (λ (l : Left). same_left l left) same ∙ left_same left in
    let some = order_passes program n answers depth (ends_at done left) order there passes in
    let sum : total program n (tested (ends_at done left)) 0 layer ≡ weight program n (tested (ends_at done left)) depth (none_done program) (opening_left program answers) =
    sums (tested (ends_at done left)) in
    let here = total_here program n (ends_at done left) layer in
    let term = some_term (passing (ends_at done left)) layer (omega (arith, some, sum, here)) in
    let s = term.1 in
    let both = both_true (same_counts s.done done) (same_left s.left left) (passed (ends_at done left s.done (Some s.left)) s.orders term.4) in
    let is : at layer term.0 ≡ s = get_or_default layer term.0 nowhere s term.2 ∙ term.3 in
    (term.0, term.2, ap (λ (r : Reached). r.done) is ∙ counts_are s.done done both.0, ap (λ (r : Reached). r.left) is ∙ left_is s.left left both.1)

-- ---- the configurations so far

abbrev pub configuration_of : Reached → Configuration
configuration_of s = record { done = s.done; left = s.left }

-- an order of fewer than `depth` calls leads to the configuration
unfoldable pub IsLedBelow : Typed → ℕ → Bool → ℕ → Configuration → Type 0
IsLedBelow program n answers depth configuration =
    (order : List ℕ) × (length order < depth) × Leads program n (none_done program) (opening_left program answers) order configuration.done configuration.left

-- the orders lead to each of the configurations, and no two configurations are equal
pub record AreLedBelow (program : Typed) (n : ℕ) (answers : Bool) (depth : ℕ) (configurations : List Configuration) : Type 0 where
  pub each : All (IsLedBelow program n answers depth) configurations
  pub apart : AllPairs (λ (a b : Configuration). a ≢ b) configurations

-- the configurations to which orders of fewer than `depth` calls lead, each once
pub record AreConfigurationsBelow (program : Typed) (n : ℕ) (answers : Bool) (depth : ℕ) (configurations : List Configuration) : Type 0 where
  pub led : AreLedBelow program n answers depth configurations
  pub all : (order : List ℕ) (ends : List Ended) (heap : List Value) → length order < depth →
      length (calls_in program order) ≡ length order →
      SerialFromOpening program (calls_in program order) ends heap → Contains configurations (record { done = done_after (none_done program) order; left = left_in program answers order ends heap })

pub none_led : (program : Typed) (n : ℕ) (answers : Bool) → AreLedBelow program n answers 0 []
none_led program n answers =
    record { each = λ k d within. absurd (omega arith); apart = λ j k d below within. absurd (omega arith) }

pub no_places : (program : Typed) (n : ℕ) (answers : Bool) → AreConfigurationsBelow program n answers 0 []
no_places program n answers =
    record {
      led = none_led program n answers;
      all = λ order ends heap short. absurd (omega arith);
    }

less_or_not : (a b : ℕ) → (a < b) ⊎ (b ≤ a)
less_or_not zero zero = inr (omega arith)
less_or_not zero (suc b) = inl (omega arith)
less_or_not (suc a) zero = inr (omega arith)
less_or_not (suc a) (suc b) = elim (less_or_not a b) [ inl less ↦ inl (omega arith) | inr not ↦ inr (omega arith) ]

-- an index of two lists appended is an index of one of them
stands_in : (xs ys : List Configuration) (k : ℕ) (d : Configuration) → k < length (xs ++ ys) →
    ((k < length xs) × (get_or (xs ++ ys) k d ≡ get_or xs k d)) ⊎ ((length xs ≤ k) × (k - length xs < length ys) × (get_or (xs ++ ys) k d ≡ get_or ys (k - length xs) d))
stands_in xs ys k d within =
    let long : length (xs ++ ys) ≡ length xs + length ys = length-append xs ys in
    elim (less_or_not k (length xs)) [
      | inl less ↦ inl (less, get_or-append xs ys d k less)
      | inr not ↦ inr (not, omega (arith, within, long, not), get_or-append_right xs ys k d not)
    ]

-- the configurations of a layer
layer_place : (layer : List Reached) (k : ℕ) (d : Configuration) → k < length (map configuration_of layer) →
    get_or (map configuration_of layer) k d ≡ configuration_of (at layer k)
layer_place layer k d within = get_or-map configuration_of layer k nowhere d (rw length-map at within)

led_further : (program : Typed) (n : ℕ) (answers : Bool) (depth : ℕ) (configurations : List Configuration) →
    All (IsLedBelow program n answers depth) configurations → All (IsLedBelow program n answers (depth + 1)) configurations
unfolding IsLedBelow
led_further program n answers depth configurations each k d within =
    let led = each k d within in (led.0, (let short = led.1 in omega arith), led.2)

layer_led : (program : Typed) (n : ℕ) (answers : Bool) (depth : ℕ) (trail : List (List ℕ)) (layer : List Reached) →
    AreGood program n depth (opening_left program answers) trail layer →
    All (IsLedBelow program n answers (depth + 1)) (map configuration_of layer)
unfolding IsLedBelow
layer_led program n answers depth trail layer good k d within =
    let inside : k < length layer = rw length-map at within in
    let one = good.each k inside in
    subst (IsLedBelow program n answers (depth + 1)) (sym (layer_place layer k d within))
    (order_at trail (at layer k).first, (let long = one.long in omega arith), one.leads)

-- a configuration of fewer calls, or of other cells, is another one
earlier_apart : (program : Typed) (n : ℕ) (answers : Bool) (depth : ℕ) (trail : List (List ℕ)) (s : Reached) (configuration : Configuration) → IsLedBelow program n answers depth configuration → IsGood program n depth (opening_left program answers) trail s →
    configuration ≢ configuration_of s
unfolding IsLedBelow
earlier_apart program n answers depth trail s configuration led good same =
    let few = (fits program n (opening_left program answers) led.0 configuration.done configuration.left led.2).2 in
    let many = (fits program n (opening_left program answers) (order_at trail s.first) s.done s.left good.leads).2 in
    let short = led.1 in
    let long = good.long in
    let sum : sums configuration.done ≡ sums s.done = ap (λ (p : Configuration). sums p.done) same in
    omega arith

layer_apart : (program : Typed) (n : ℕ) (answers : Bool) (depth : ℕ) (trail : List (List ℕ)) (layer : List Reached) →
    AreGood program n depth (opening_left program answers) trail layer →
    AllPairs (λ (a b : Configuration). a ≢ b) (map configuration_of layer)
layer_apart program n answers depth trail layer good j k d below within same =
    let inside : k < length layer = rw length-map at within in
    let early : j < length (map configuration_of layer) = omega arith in
    let is : configuration_of (at layer j) ≡ configuration_of (at layer k) = sym (layer_place layer j d early) ∙ same ∙ layer_place layer k d within in
    good.apart j k below inside (ap (λ (p : Configuration). p.done) is, ap (λ (p : Configuration). p.left) is)

both_apart : (program : Typed) (n : ℕ) (answers : Bool) (depth : ℕ) (trail : List (List ℕ)) (layer : List Reached) (configurations : List Configuration) → AreGood program n depth (opening_left program answers) trail layer →
    AreLedBelow program n answers depth configurations → AllPairs (λ (a b : Configuration). a ≢ b) (configurations ++ map configuration_of layer)
both_apart program n answers depth trail layer configurations good before j k d below within same =
    let ys = map configuration_of layer in
    let early : j < length (configurations ++ ys) = omega arith in
    elim (stands_in configurations ys k d within) [
      | inl herek ↦ (elim (stands_in configurations ys j d early) [
        | inl herej ↦ before.apart j k d below herek.0 (sym herej.1 ∙ same ∙ herek.1)
        | inr therej ↦ absurd (let least = therej.0 in let less = herek.0 in omega arith)
      ])
      | inr therek ↦ (elim (stands_in configurations ys j d early) [
        | inl herej ↦ (let inside : k - length configurations < length layer = rw length-map at therek.1 in
            earlier_apart program n answers depth trail (at layer (k - length configurations)) (get_or configurations j d) (before.each j d herej.0) (good.each (k - length configurations) inside)
            (sym herej.1 ∙ same ∙ therek.2 ∙ layer_place layer (k - length configurations) d therek.1))
        | inr therej ↦ layer_apart program n answers depth trail layer good (j - length configurations) (k - length configurations) d
            (let a = therej.0 in let b = therek.0 in omega arith) therek.1 (sym therej.2 ∙ same ∙ therek.2)
      ])
    ]

abbrev configuration_at : List ℕ → Left → Configuration
configuration_at done left = record { done = done; left = left }

place_is : (a b : List ℕ) (c d : Left) → a ≡ b → c ≡ d → configuration_at a c ≡ configuration_at b d
place_is a b c d first second = ap (λ (x : List ℕ). configuration_at x c) first ∙ ap (configuration_at b) second

-- the configurations so far, with those of one more layer
pub led_more : (program : Typed) (n : ℕ) (answers : Bool) (depth : ℕ) (trail : List (List ℕ)) (layer : List Reached) (configurations : List Configuration) →
    AreGood program n depth (opening_left program answers) trail layer →
    AreLedBelow program n answers depth configurations → AreLedBelow program n answers (depth + 1) (configurations ++ map configuration_of layer)
led_more program n answers depth trail layer configurations good before =
    record {
      each = All-append (IsLedBelow program n answers (depth + 1)) configurations (map configuration_of layer) (led_further program n answers depth configurations before.each)
          (layer_led program n answers depth trail layer good);
      apart = both_apart program n answers depth trail layer configurations good before;
    }

pub places_more : SettledAreSerial → HaveAtMostOneSerial →
    (program : Typed) (n : ℕ) (answers : Bool) (depth : ℕ) (trail : List (List ℕ)) (layer : List Reached) (configurations : List Configuration) →
    AreGood program n depth (opening_left program answers) trail layer →
    ((f : Summand) → total program n f 0 layer ≡ weight program n f depth (none_done program) (opening_left program answers)) →
    AreConfigurationsBelow program n answers depth configurations → AreConfigurationsBelow program n answers (depth + 1) (configurations ++ map configuration_of layer)
places_more settled once program n answers depth trail layer configurations good sums before =
    record {
      led = led_more program n answers depth trail layer configurations good before.led;
      all = λ order ends heap short made serial. elim (less_or_not (length order) depth) [
        | inl less ↦ Contains-append_left configurations (map configuration_of layer) _ (before.all order ends heap less made serial)
        | inr not ↦ (let there = layer_has settled once program n answers depth layer sums order ends heap (omega arith) made serial in
            let configuration : Configuration = configuration_at (done_after (none_done program) order) (left_in program answers order ends heap) in
            let inside : there.0 < length (map configuration_of layer) = (let w = there.1 in rw length-map w) in
            Contains-append_right configurations (map configuration_of layer) configuration
            (there.0, inside, layer_place layer there.0 configuration inside ∙ place_is _ _ _ _ there.2 there.3))
      ];
    }

pub are_led : OverIsWhole → (program : Typed) (n : ℕ) (answers : Bool) (depth : ℕ) (configurations : List Configuration) →
    AreLedBelow program n answers depth configurations → All (LeadsTo program answers) configurations
unfolding IsLedBelow
are_led law program n answers depth configurations below k d within =
    let led = below.each k d within in
    let configuration = get_or configurations k d in
    let serial = leads_serially law program n (none_done program) (opening_left program answers) led.0 configuration.done configuration.left led.2 in
    record {
      order = led.0;
      made = leads_made program n (none_done program) (opening_left program answers) led.0 configuration.done configuration.left led.2;
      done = leads_done program n (none_done program) (opening_left program answers) led.0 configuration.done configuration.left led.2;
      ends = serial.0;
      serial = serial.1;
      answered = serial.2;
    }

pub all_places : OverIsWhole → (program : Typed) (n : ℕ) (answers : Bool) (depth : ℕ) (configurations : List Configuration) →
    depth ≡ calls_together program.threads.items →
    AreConfigurationsBelow program n answers (depth + 1) configurations → AreAllConfigurations program answers configurations
all_places law program n answers depth configurations all below =
    record {
      each = are_led law program n answers (depth + 1) configurations below.led;
      apart = below.led.apart;
      all = λ configuration there. (let few = made_few program there.order there.made in
          subst (Contains configurations) (place_is _ _ _ _ there.done (both_left _ configuration.left refl (sym there.answered)))
          (below.all there.order there.ends configuration.left.cells (omega arith) there.made there.serial));
    }

pub has_places : OverIsWhole → SettledAreSerial → HaveAtMostOneSerial →
    (program : Typed) (n : ℕ) (answers : Bool) (depth count : ℕ) (trail : List (List ℕ)) (layer : List Reached) (configurations : List Configuration) →
    depth ≡ calls_together program.threads.items → AreGood program n depth (opening_left program answers) trail layer →
    ((f : Summand) → total program n f 0 layer ≡ weight program n f depth (none_done program) (opening_left program answers)) →
    AreConfigurationsBelow program n answers depth configurations → length configurations + length layer ≡ count → HasConfigurations program answers count
has_places law settled once program n answers depth count trail layer configurations all good sums before sum =
    let ys = map configuration_of layer in
    let long : length (configurations ++ ys) ≡ length configurations + length ys = length-append configurations ys in
    let same : length ys ≡ length layer = length-map layer configuration_of in
    (configurations ++ ys, all_places law program n answers depth (configurations ++ ys) all (places_more settled once program n answers depth trail layer configurations good sums before), omega arith)

-- there are as many configurations as states so far, if not all are known
pub has_some_places : OverIsWhole →
    (program : Typed) (n : ℕ) (answers : Bool) (depth count : ℕ) (trail : List (List ℕ)) (layer : List Reached) (configurations : List Configuration) →
    AreGood program n depth (opening_left program answers) trail layer →
    AreLedBelow program n answers depth configurations → length configurations + length layer ≡ count → HasSomeConfigurations program answers count
has_some_places law program n answers depth count trail layer configurations good before sum =
    let ys = map configuration_of layer in
    let long : length (configurations ++ ys) ≡ length configurations + length ys = length-append configurations ys in
    let same : length ys ≡ length layer = length-map layer configuration_of in
    let all = led_more program n answers depth trail layer configurations good before in
    (configurations ++ ys, record { each = are_led law program n answers (depth + 1) (configurations ++ ys) all; apart = all.apart }, omega arith)

pub before_more : (search : Search) (old new : Work) (growth : Growth) (configurations : List Configuration) (layer : List Reached) →
    GoesOn search old new growth → old.next.states ≡ [] →
    length configurations + length layer ≡ length old.trail → length (configurations ++ map configuration_of layer) + length new.next.states ≡ length new.trail
before_more search old new growth configurations layer goes empty before =
    let grown = goes.grown in
    let none : length old.next.states ≡ 0 = ap length empty in
    let long : length (configurations ++ map configuration_of layer) ≡ length configurations + length (map configuration_of layer) = length-append configurations (map configuration_of layer) in
    let same : length (map configuration_of layer) ≡ length layer = length-map layer configuration_of in
    omega arith
