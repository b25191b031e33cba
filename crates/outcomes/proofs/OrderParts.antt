-- The parts of orders.
use Rattle.std.proofs.Common.{◌≡◌, ◌∙◌, ◌≢◌, ℕ, ◌+◌, ◌-◌, ◌<◌, ◌≤◌, zero, suc, List, [], ◌∷◌, ◌++◌, length, get_or}
use Rattle.std.proofs.Common.{Option, Some, None, ◌⊎◌, inl, inr, ap, sym, subst, refl, arith, length-append}
use Rattle.std.proofs.Common.{get_or-set_other}
use Rattle.std.specs.Prelude.{⊤, slice_index, option_to_list}
use Rattle.std.specs.List.{Contains}
use Rattle.std.proofs.lemmas.Bool.{cases_eq}
use Rattle.std.proofs.lemmas.List.{get_or-map, get_or_default, length-map}
use Rattle.std.proofs.Math.ListN.{get_or-append}
use Rattle.std.proofs.Math.Seq.{get_or-append_right}
use Rattle.core_lang.specs.declared.typed.Typed.{Typed}
use Rattle.core_lang.specs.Serial.{Invocation}
use Rattle.core_lang.specs.WellFormed.{calls_together}
use Rattle.outcomes.specs.Orders.{next_call, one_more, orders_of, begun_with, begun_by, calls_of}
use Rattle.outcomes.specs.Ends.{done_after}
use Rattle.outcomes.specs.Theory.Done.{sums-lengths, length-lengths, sums, lengths}
use Rattle.outcomes.proofs.Full.{Within, made_fully, same_sums, some_call}

-- ---- the first call of an order

less_or_not : (a b : ℕ) → (a < b) ⊎ (b ≤ a)
less_or_not zero zero = inr (omega arith)
less_or_not zero (suc b) = inl (omega arith)
less_or_not (suc a) zero = inr (omega arith)
less_or_not (suc a) (suc b) = elim (less_or_not a b) [ inl less ↦ inl (omega arith) | inr not ↦ inr (omega arith) ]

in_either : (xs ys : List (List ℕ)) (x : List ℕ) → Contains (xs ++ ys) x → Contains xs x ⊎ Contains ys x
in_either xs ys x there =
    let long : length (xs ++ ys) ≡ length xs + length ys = length-append xs ys in
    elim (less_or_not there.0 (length xs)) [
      | inl less ↦ inl (there.0, less, sym (get_or-append xs ys x there.0 less) ∙ there.2)
      | inr not ↦ inr (
        there.0 - length xs,
        (let within = there.1 in omega (arith, within, long, not)),
        sym (get_or-append_right xs ys there.0 x not) ∙ there.2,
      )
    ]

-- an order that begins with a thread
record IsBegun (o : Option Invocation) (t : ℕ) (following : List (List ℕ)) (order : List ℕ) : Type 0 where
  call : Invocation
  next : o ≡ Some call
  rest : List ℕ
  is : order ≡ t ∷ rest
  there : Contains following rest

begun_is : (o : Option Invocation) (t : ℕ) (following : List (List ℕ)) (order : List ℕ) →
    Contains (begun_with o t following) order → IsBegun o t following order
begun_is None t following order there = absurd (let within = there.1 in omega (arith, within))
begun_is (Some call) t following order there =
    let front : List ℕ → List ℕ = λ o. t ∷ o in
    let within : there.0 < length following = (let w = there.1 in rw length-map at w) in
    let rest = get_or following there.0 [] in
    record {
      call = call;
      next = refl;
      rest = rest;
      is = sym there.2 ∙ get_or-map front following there.0 [] order within;
      there = (there.0, within, get_or_default following there.0 rest [] within);
    }

-- the first thread of an order has a call left, and the others follow in an order of the remaining calls
pub record BeginsWith (program : Typed) (following : List ℕ → List (List ℕ)) (done : List ℕ) (count : ℕ) (order : List ℕ) : Type 0 where
  pub thread : ℕ
  pub below : thread < count
  pub call : Invocation
  pub next : next_call program done thread ≡ Some call
  pub rest : List ℕ
  pub is : order ≡ thread ∷ rest
  pub there : Contains (following (one_more done thread)) rest

pub begins : (program : Typed) (following : List ℕ → List (List ℕ)) (done : List ℕ) (count : ℕ) (order : List ℕ) →
    Contains (begun_by program following done count) order → BeginsWith program following done count order
begins program following done zero order there = absurd (let within = there.1 in omega (arith, within))
begins program following done (suc t) order there =
    elim (in_either (begun_by program following done t) (begun_with (next_call program done t) t (following (one_more done t))) order there) [
      | inl before ↦ (let b = begins program following done t order before in
          record { thread = b.thread; below = (let w = b.below in omega arith); call = b.call; next = b.next; rest = b.rest; is = b.is; there = b.there })
      | inr here ↦ (let b = begun_is (next_call program done t) t (following (one_more done t)) order here in
          record { thread = t; below = omega arith; call = b.call; next = b.next; rest = b.rest; is = b.is; there = b.there })
    ]

none_is : (order : List ℕ) → Contains ([] ∷ []) order → order ≡ []
none_is order (zero, within, is) = sym is
none_is order (suc k, within, is) = absurd (omega (arith, within))

-- an order of no calls is empty
pub no_order : (program : Typed) (done order : List ℕ) → Contains (orders_of program 0 done) order → order ≡ []
no_order program done order there = none_is order there

-- each call of an order is the next one of its thread
pub order_made : (program : Typed) (left : ℕ) (done order : List ℕ) → Contains (orders_of program left done) order →
    (length order ≡ left) × (length (calls_of program done order) ≡ length order)
order_made program zero done order there =
    subst (λ (o : List ℕ). (length o ≡ 0) × (length (calls_of program done o) ≡ length o)) (sym (none_is order there)) (refl, refl)
order_made program (suc left) done order there =
    let b = begins program (orders_of program left) done (length program.threads.items) order there in
    let rest = order_made program left (one_more done b.thread) b.rest b.there in
    subst (λ (o : List ℕ). (length o ≡ suc left) × (length (calls_of program done o) ≡ length o)) (sym b.is) (
      ap (λ k. suc k) rest.0,
      ap (λ (c : Option Invocation). length (option_to_list c ++ calls_of program (one_more done b.thread) b.rest)) b.next
          ∙ ap (λ k. suc k) rest.1,
    )

-- ---- the first thread of a group

-- no thread of the order is of the group
abbrev pub NoneIn : List ℕ → ℕ → List ℕ → Type 0
NoneIn groups group [] = ⊤
NoneIn groups group (u ∷ us) = (slice_index groups u ≢ group) × NoneIn groups group us

-- the first thread of the order that is of the group
pub record IsFirst (groups : List ℕ) (group : ℕ) (order : List ℕ) : Type 0 where
  pub before : List ℕ
  pub thread : ℕ
  pub behind : List ℕ
  pub is : order ≡ before ++ thread ∷ behind
  pub none : NoneIn groups group before
  pub same : slice_index groups thread ≡ group

first_or_none : (groups : List ℕ) (group : ℕ) (order : List ℕ) → IsFirst groups group order ⊎ NoneIn groups group order
first_or_none groups group [] = inr tt
first_or_none groups group (u ∷ us) =
    elim (cases_eq (slice_index groups u) group) [
      | inl same ↦ inl (record { before = []; thread = u; behind = us; is = refl; none = tt; same = same })
      | inr other ↦ (elim (first_or_none groups group us) [
        | inl f ↦ inl (record {
          before = u ∷ f.before;
          thread = f.thread;
          behind = f.behind;
          is = ap (λ (o : List ℕ). u ∷ o) f.is;
          none = (other, f.none);
          same = f.same;
        })
        | inr none ↦ inr (other, none)
      ])
    ]

-- an order without the group's threads makes no call of them
still_done : (groups : List ℕ) (t : ℕ) (done order : List ℕ) → NoneIn groups (slice_index groups t) order →
    get_or (done_after done order) t 0 ≡ get_or done t 0
still_done groups t done [] none = refl
still_done groups t done (u ∷ us) none =
    still_done groups t (one_more done u) us none.1
    ∙ get_or-set_other done u t (get_or done u 0 + 1) 0 (λ (same : t ≡ u). none.0 (ap (slice_index groups) (sym same)))

-- an order of all remaining calls has each thread with a call left, and hence a first thread of its group
pub first_of_group : (program : Typed) (groups : List ℕ) (left : ℕ) (done order : List ℕ) (t : ℕ) (call : Invocation) →
    Contains (orders_of program left done) order → length done ≡ length program.threads.items →
    Within done (lengths program.threads.items) → sums done + left ≡ calls_together program.threads.items →
    next_call program done t ≡ Some call → IsFirst groups (slice_index groups t) order
first_of_group program groups left done order t call there long few sum next =
    elim (first_or_none groups (slice_index groups t) order) [
      | inl first ↦ first
      | inr none ↦ absurd (
          let made = order_made program left done order there in
          let all = made_fully program done order made.1 long few in
          let total : sums (lengths program.threads.items) ≡ calls_together program.threads.items = sums-lengths program.threads.items in
          let same : length (lengths program.threads.items) ≡ length program.threads.items = length-lengths program.threads.items in
          let full : done_after done order ≡ lengths program.threads.items =
          same_sums (done_after done order) (lengths program.threads.items) (all.0 ∙ sym same) all.1 (omega (arith, all.2, made.0, sum, total)) in
          let still = still_done groups t done order none in
          let less = some_call program.threads.items done t call next in
          let here = ap (λ (d : List ℕ). get_or d t 0) full in
          omega (arith, still, less, here))
    ]
