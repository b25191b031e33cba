-- A call of a group comes before calls of others.
use Rattle.std.proofs.Common.{◌≡◌, ◌∙◌, ◌≢◌, ℕ, ◌+◌, ◌<◌, zero, suc, List, [], ◌∷◌, ◌++◌, length, get_or, take, slice_set}
use Rattle.std.proofs.Common.{Option, Some, ◌⊎◌, inl, inr, ap, sym, subst, refl, arith, get_or-set_other}
use Rattle.std.specs.Prelude.{slice_index}
use Rattle.std.specs.List.{Contains}
use Rattle.std.proofs.lemmas.List.{set_comm}
use Rattle.core_lang.specs.declared.value.Outcome.{Outcome}
use Rattle.core_lang.specs.declared.typed.Thread.{Thread}
use Rattle.core_lang.specs.declared.typed.Typed.{Typed}
use Rattle.core_lang.specs.Serial.{Invocation, Ended}
use Rattle.core_lang.specs.WellFormed.{calls_together}
use Rattle.outcomes.specs.Commuting.{AreIndependent, call_at}
use Rattle.outcomes.specs.Orders.{next_call, one_more, orders_of, call_number}
use Rattle.outcomes.specs.Ends.{Left}
use Rattle.outcomes.specs.Working.Searching.{left_after, Leads}
use Rattle.outcomes.specs.Theory.Done.{among_begun, lengths}
use Rattle.outcomes.proofs.Full.{some_call}
use Rattle.outcomes.proofs.Leading.{next_within}
use Rattle.outcomes.proofs.OrderParts.{begins, no_order, NoneIn}
use Rattle.outcomes.proofs.Whole.{both_left}

-- ---- the numbers of calls that are done

-- the next call of another thread stays the next one
next_stays : (program : Typed) (done : List ℕ) (t u : ℕ) → u ≢ t → next_call program (one_more done t) u ≡ next_call program done u
next_stays program done t u other = ap (call_at program u) (get_or-set_other done t u (get_or done t 0 + 1) 0 other)

-- two threads' calls are counted in either order
done_in_turn : (done : List ℕ) (t u : ℕ) → t ≢ u → one_more (one_more done t) u ≡ one_more (one_more done u) t
done_in_turn done t u other =
    let dt = get_or done t 0 in
    let du = get_or done u 0 in
    ap (λ (v : ℕ). slice_set (slice_set done t (dt + 1)) u (v + 1))
    (get_or-set_other done t u (dt + 1) 0 (λ (same : u ≡ t). other (sym same)))
    ∙ set_comm done t u (dt + 1) (du + 1) other
    ∙ sym (ap (λ (v : ℕ). slice_set (slice_set done u (du + 1)) t (v + 1)) (get_or-set_other done u t (du + 1) 0 other))

-- ---- numbers of calls

before_less : (ts : List Thread) (t u k : ℕ) → t < u → k < get_or (lengths ts) t 0 →
    calls_together (take t ts) + k < calls_together (take u ts)
before_less [] t u k less within = absurd (omega (arith, within))
before_less (x ∷ ts) zero zero k less within = absurd (omega (arith, less))
before_less (x ∷ ts) zero (suc u) k less within = omega (arith, within)
before_less (x ∷ ts) (suc t) zero k less within = absurd (omega (arith, less))
before_less (x ∷ ts) (suc t) (suc u) k less within =
    let rest = before_less ts t u k (omega (arith, less)) within in omega (arith, rest)

either_less : (a b : ℕ) → a ≢ b → (a < b) ⊎ (b < a)
either_less zero zero other = absurd (other refl)
either_less zero (suc b) other = inl (omega arith)
either_less (suc a) zero other = inr (omega arith)
either_less (suc a) (suc b) other =
    elim (either_less a b (λ (same : a ≡ b). other (ap (λ k. suc k) same))) [ inl less ↦ inl (omega arith) | inr more ↦ inr (omega arith) ]

numbers_apart : (program : Typed) (done : List ℕ) (t u : ℕ) (a b : Invocation) → t ≢ u →
    next_call program done t ≡ Some a → next_call program done u ≡ Some b →
    call_number program t (get_or done t 0) ≢ call_number program u (get_or done u 0)
numbers_apart program done t u a b other next_t next_u same =
    let ts = program.threads.items in
    elim (either_less t u other) [
      | inl less ↦ (let w = before_less ts t u (get_or done t 0) less (some_call ts done t a next_t) in omega (arith, w, same))
      | inr more ↦ (let w = before_less ts u t (get_or done u 0) more (some_call ts done u b next_u) in omega (arith, w, same))
    ]

-- ---- two calls

abbrev set_answer : List (Option Outcome) → ℕ → Outcome → List (Option Outcome)
set_answer answers number outcome = slice_set answers number (Some outcome)

-- answers of two calls are kept in either order
answers_in_turn : (program : Typed) (done : List ℕ) (t u : ℕ) (a b : Invocation) (answers : List (Option Outcome)) (of_t of_u : Outcome) →
    t ≢ u → next_call program done t ≡ Some a → next_call program done u ≡ Some b →
    set_answer (set_answer answers (call_number program t (get_or done t 0)) of_t) (call_number program u (get_or (one_more done t) u 0)) of_u
    ≡ set_answer (set_answer answers (call_number program u (get_or done u 0)) of_u) (call_number program t (get_or (one_more done u) t 0)) of_t
answers_in_turn program done t u a b answers of_t of_u other next_t next_u =
    let nt = call_number program t (get_or done t 0) in
    let nu = call_number program u (get_or done u 0) in
    ap (λ (k : ℕ). set_answer (set_answer answers nt of_t) (call_number program u k) of_u)
    (get_or-set_other done t u (get_or done t 0 + 1) 0 (λ (same : u ≡ t). other (sym same)))
    ∙ set_comm answers nt nu (Some of_t) (Some of_u) (numbers_apart program done t u a b other next_t next_u)
    ∙ sym (ap (λ (k : ℕ). set_answer (set_answer answers nu of_u) (call_number program t k) of_t)
    (get_or-set_other done u t (get_or done u 0 + 1) 0 other))

-- calls of two groups lead to the same state in either order
pub in_turn : (program : Typed) (groups : List ℕ) (n : ℕ) → AreIndependent program groups →
    (done : List ℕ) (left : Left) (t u : ℕ) (order done' : List ℕ) (left' : Left) → slice_index groups u ≢ slice_index groups t →
    Leads program n done left (t ∷ u ∷ order) done' left' → Leads program n done left (u ∷ t ∷ order) done' left'
in_turn program groups n independent done left t u order done' left' apart (a, first, next_t, over_t, (b, second, next_u, over_u, rest)) =
    let other : t ≢ u = λ (same : t ≡ u). apart (ap (slice_index groups) (sym same)) in
    let back : u ≢ t = λ (same : u ≡ t). other (sym same) in
    let now_u : next_call program done u ≡ Some b = sym (next_stays program done t u back) ∙ next_u in
    let swapped = independent.commute n t u (get_or done t 0) (get_or done u 0) a b (λ (same : slice_index groups t ≡ slice_index groups u). apart (sym same)) next_t now_u
    left.cells first second over_t over_u in
    let of_u : swapped.sooner.outcome ≡ second.outcome = ap (λ (e : Ended). e.outcome) swapped.sooner_ends in
    let of_t : swapped.later.outcome ≡ first.outcome = ap (λ (e : Ended). e.outcome) swapped.later_ends in
    let before : Left = left_after program (one_more done t) u second (left_after program done t first left) in
    let after : Left = left_after program (one_more done u) t swapped.later (left_after program done u swapped.sooner left) in
    let answers : before.answers ≡ after.answers =
    answers_in_turn program done t u a b left.answers first.outcome second.outcome other next_t now_u
    ∙ sym (ap (λ (o : Outcome). set_answer (set_answer left.answers (call_number program u (get_or done u 0)) o) (call_number program t (get_or (one_more done u) t 0)) swapped.later.outcome) of_u
    ∙ ap (set_answer (set_answer left.answers (call_number program u (get_or done u 0)) second.outcome) (call_number program t (get_or (one_more done u) t 0))) of_t) in
    let same : before ≡ after = both_left before after (sym swapped.heap_is) answers in (
      b,
      swapped.sooner,
      now_u,
      swapped.sooner_over,
      (
        a,
        swapped.later,
        next_stays program done u t other ∙ next_t,
        swapped.later_over,
        subst (λ (d : List ℕ). Leads program n d after order done' left') (done_in_turn done t u other)
            (subst (λ (l : Left). Leads program n (one_more (one_more done t) u) l order done' left') same rest),
      ),
    )

-- ---- a call before others

pub heads : (u v : ℕ) (us vs : List ℕ) → u ∷ us ≡ v ∷ vs → (u ≡ v) × (us ≡ vs)
heads u v us vs is = (cc, cc)

nothing_first : (u : ℕ) (us : List ℕ) → u ∷ us ≡ [] → ⊥
nothing_first u us is = cc

-- an order that begins with another thread's call can begin with this thread's call
earlier : (program : Typed) (left : ℕ) (done : List ℕ) (u t : ℕ) (order : List ℕ) (b : Invocation) → u ≢ t →
    next_call program done u ≡ Some b → Contains (orders_of program left (one_more done u)) (t ∷ order) →
    Contains (orders_of program (suc left) done) (t ∷ u ∷ order)
earlier program zero done u t order b other next_u there =
    absurd (nothing_first t order (no_order program (one_more done u) (t ∷ order) there))
earlier program (suc left) done u t order b other next_u there =
    let count = length program.threads.items in
    let parts = begins program (orders_of program left) (one_more done u) count (t ∷ order) there in
    let same = heads t parts.thread order parts.rest parts.is in
    let next_t : next_call program done t ≡ Some parts.call =
    sym (next_stays program done u t (λ (is : t ≡ u). other (sym is))) ∙ ap (next_call program (one_more done u)) same.0 ∙ parts.next in
    let rest : Contains (orders_of program left (one_more (one_more done t) u)) order =
    subst (λ (d : List ℕ). Contains (orders_of program left d) order) (done_in_turn done u t other)
    (subst (λ (x : ℕ). Contains (orders_of program left (one_more (one_more done u) x)) order) (sym same.0)
    (subst (Contains (orders_of program left (one_more (one_more done u) parts.thread))) (sym same.1) parts.there)) in
    let next_u' : next_call program (one_more done t) u ≡ Some b = next_stays program done t u other ∙ next_u in
    among_begun program (orders_of program (suc left)) done count t parts.call (u ∷ order) (next_within program done t parts.call next_t) next_t
    (among_begun program (orders_of program left) (one_more done t) count u b order (next_within program (one_more done t) u b next_u') next_u' rest)

-- this thread's call can come first, and the order leads to the same state
pub record IsEarlier (program : Typed) (n left : ℕ) (done before : List ℕ) (t : ℕ) (behind : List ℕ) : Type 0 where
  pub there : Contains (orders_of program left done) (t ∷ before ++ behind)
  pub leads : (l : Left) (done' : List ℕ) (left' : Left) → Leads program n done l (t ∷ before ++ behind) done' left' →
      Leads program n done l (before ++ t ∷ behind) done' left'

pub moved : (program : Typed) (groups : List ℕ) (n : ℕ) → AreIndependent program groups →
    (left : ℕ) (done before : List ℕ) (t : ℕ) (behind : List ℕ) → NoneIn groups (slice_index groups t) before →
    Contains (orders_of program left done) (before ++ t ∷ behind) → IsEarlier program n left done before t behind
moved program groups n independent left done [] t behind none there =
    record { there = there; leads = λ l done' left' leads. leads }
moved program groups n independent zero done (u ∷ us) t behind none there =
    absurd (nothing_first u (us ++ t ∷ behind) (no_order program done (u ∷ us ++ t ∷ behind) there))
moved program groups n independent (suc left) done (u ∷ us) t behind none there =
    let parts = begins program (orders_of program left) done (length program.threads.items) (u ∷ us ++ t ∷ behind) there in
    let same = heads u parts.thread (us ++ t ∷ behind) parts.rest parts.is in
    let next_u : next_call program done u ≡ Some parts.call = ap (next_call program done) same.0 ∙ parts.next in
    let rest : Contains (orders_of program left (one_more done u)) (us ++ t ∷ behind) =
    subst (λ (x : ℕ). Contains (orders_of program left (one_more done x)) (us ++ t ∷ behind)) (sym same.0)
    (subst (Contains (orders_of program left (one_more done parts.thread))) (sym same.1) parts.there) in
    let inner = moved program groups n independent left (one_more done u) us t behind none.1 rest in
    let other : u ≢ t = λ (is : u ≡ t). none.0 (ap (slice_index groups) is) in
    record {
      there = earlier program left done u t (us ++ behind) parts.call other next_u inner.there;
      leads = λ l done' left' leads. (
          let turned = in_turn program groups n independent done l t u (us ++ behind) done' left' none.0 leads in (
            turned.0,
            turned.1,
            turned.2,
            turned.3,
            inner.leads (left_after program done u turned.1 l) done' left' turned.4,
          ));
    }
