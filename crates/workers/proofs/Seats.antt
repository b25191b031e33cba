-- A seat gains an answer.
use Rattle.std.proofs.Common.{◌≡◌, ◌<◌, ◌≤◌, ◌+◌, ℕ, ℤ, Vec, Global, refl, List, [], ◌∷◌, ◌++◌, length, sym, ap, ◌∙◌, subst, arith, Some}
use Rattle.std.proofs.lemmas.List.{length_push}
use Rattle.std.proofs.lemmas.List.Elements.{All-weaker}
use Rattle.std.proofs.lemmas.Option.{slice_get_within}
use Rattle.core_lang.specs.Serial.{Invocation}
use Rattle.core_lang.specs.WellFormed.{CanCall}
use Rattle.core_lang.specs.declared.typed.Typed.{Typed}
use Rattle.core_lang.specs.declared.value.Outcome.{Outcome}
use Rattle.history.specs.Commits.{Commit, call_of, committed}
use Rattle.lowering.specs.Plans.{Plan}
use Rattle.core_lang.specs.declared.value.Value.{Value}
use Rattle.runner.specs.Working.Opens.{OpenOf, PoisedOf, ReadyOf, Prepares, IsItsEntry, IsSame, entry_of}
use Rattle.workers.specs.Seats.{ReplyOf, SeatOf, AllBelow, AreBegunInTurn, Gains, reply}
use Rattle.workers.specs.Answers.{IsAnswer, reply_at, replies_of}
use Rattle.workers.specs.Logs.{IsSound}
use Rattle.workers.specs.Seen.{Sees}
use Rattle.workers.specs.Working.Within.{IsSeat, IsBegunOn, HasBegun, IsEntered, IsNotedOf, SeesOwn, SeesItsOwn, HasAnswer}
use Rattle.workers.proofs.Passing.{replies-below, replies_more, steps_more, begun-push}
use Rattle.workers.specs.declared.seat.Done.{Done}

pub raised : (a b : ℕ) (hs : List ReplyOf) → a ≤ b → AllBelow a hs → AllBelow b hs
raised a b hs le h = All-weaker (λ (x : ReplyOf). x.position < a) (λ (x : ReplyOf). x.position < b) (λ x l. omega (arith, l, le)) hs h

-- an entry that follows a sound log answers its call
pub answer_from : (plan : Plan) (floor position : ℕ) (o : OpenOf) (e : Commit) → IsItsEntry o e →
    IsEntered plan floor o position →
    IsAnswer plan o.activation.call position e.outcome e.prints
answer_from plan floor position o e its entered =
    let c = entry_of o e.outcome in
    let prints : c.prints ≡ e.prints = sym (ap (λ (x : Commit). x.prints) its.is) in
    let heap = committed plan.layout.opening entered.log in
    let is : IsAnswer plan o.activation.call position e.outcome c.prints = record {
      log = entered.log;
      long = entered.long;
      sound = entered.sound;
      heap = _;
      gives = entered.is_true e.outcome its.over heap entered.cells entered.agrees;
    } in
    subst (λ (ps : List _). IsAnswer plan o.activation.call position e.outcome ps) prints is

-- a section that can be called is one of the program's
pub called_within : (program : Typed) (section : ℕ) (arguments : List Value) → CanCall program section arguments →
    section < length program.sections.items
unfolding CanCall
called_within program section arguments can = slice_get_within program.sections.items section can.0 can.1

-- a call that was prepared and has begun
pub has_begun : (plan named : Plan) (section : ℕ) (arguments : List Value) (ready : ReadyOf) (p : PoisedOf) (b : OpenOf) →
    Prepares ready named (record { section = section; arguments = arguments }) p → named ≡ plan → IsBegunOn p b →
    HasBegun plan (record { section = section; arguments = arguments }) ready b
has_begun plan named section arguments ready p b prepared is begun = record {
  plan_is = begun.plan ∙ ap (λ (q : PoisedOf). q.plan) prepared ∙ is;
  thread = begun.thread ∙ ap (λ (q : PoisedOf). q.thread) prepared;
  step = begun.step ∙ ap (λ (q : PoisedOf). q.step) prepared;
  call_is = begun.call ∙ ap (λ (q : PoisedOf). q.call) prepared;
}

some_same : (x y : Outcome) → Some x ≡ Some y → x ≡ y
some_same x y e = cc e

-- a section has at most one entry
one_entry : (o : OpenOf) (e e' : Commit) → IsItsEntry o e → IsItsEntry o e' → e ≡ e'
one_entry o e e' a b =
    a.is ∙ ap (entry_of o) (some_same e.outcome e'.outcome (sym a.over ∙ b.over)) ∙ sym b.is

-- an answer that has the parts of an entry keeps them with an equal list of prints
pub noted_still : {entry : Commit} {told : Done} (prints : Vec ℤ Global) → IsNotedOf entry told →
    prints.items ≡ told.prints.items → IsNotedOf entry (record told { prints = prints })
noted_still prints noted same = record { outcome = noted.outcome; prints = same ∙ noted.prints }

-- a call that has begun, was run to its end and entered is answered
pub answered : (plan : Plan) (position section : ℕ) (arguments : List Value) (ready ready' : ReadyOf) (b o : OpenOf) (e : Commit) (told : Done)
    (old new : List Commit) → HasBegun plan (record { section = section; arguments = arguments }) ready b → IsSame b o → IsItsEntry o e →
    IsNotedOf e told → IsEntered plan (length old) o position → ready' ≡ record { thread = o.thread; step = o.step + 1 } →
    SeesItsOwn o position old new → IsSound plan new →
    HasAnswer plan (record { section = section; arguments = arguments }) ready old ready' (record told { position = position }) new
answered plan position section arguments ready ready' b o e told old new begun same its are entered ready_is own sound =
    let call : Invocation = record { section = section; arguments = arguments } in
    let calls : o.activation.call ≡ call = same.call ∙ begun.call_is in
    let thread : o.thread ≡ ready.thread = same.thread ∙ begun.thread in
    let step : o.step ≡ ready.step = same.step ∙ begun.step in
    let seen : SeesOwn o.thread position e old new =
    subst (λ (x : Commit). SeesOwn o.thread position x old new) (one_entry o own.entry e own.its its) own.seen in
    let called : call_of e ≡ call = ap call_of its.is ∙ calls in
    let began : e.begun ≡ o.activation.begun = ap (λ (x : Commit). x.begun) its.is in
    let answer : IsAnswer plan o.activation.call position e.outcome e.prints = answer_from plan (length old) position o e its entered in
    let of_call : IsAnswer plan call position e.outcome e.prints =
    subst (λ (i : Invocation). IsAnswer plan i position e.outcome e.prints) calls answer in
    let of_outcome : IsAnswer plan call position told.outcome e.prints =
    subst (λ (x : Outcome). IsAnswer plan call position x e.prints) (sym are.outcome) of_call in
    record {
      answer = subst (λ (ps : List ℤ). IsAnswer plan call position told.outcome ps) (sym are.prints) of_outcome;
      ready_is = rw (ready_is, thread, step) refl;
      entry = e;
      own = ap (λ (x : Commit). x.thread) its.is ∙ thread;
      step = ap (λ (x : Commit). x.step) its.is ∙ step;
      reply_is =
          ap (λ (i : Invocation). reply position e.begun i e.outcome e.prints) called
          ∙ ap (λ (x : Outcome). reply position e.begun call x e.prints) (sym are.outcome)
          ∙ ap (λ (ps : List ℤ). reply position e.begun call told.outcome ps) (sym are.prints);
      above = omega (arith, entered.above, began);
      at_most = omega (arith, entered.begun, began);
      seen = subst (λ (t : ℕ). SeesOwn t position e old new) thread seen;
      sound = sound;
    }

-- ---- the seat after an answered call

pub seat_after : (plan : Plan) (call : Invocation) (ready ready' : ReadyOf) (told : Done) (old new : List Commit) →
    IsSeat plan ready.thread ready.step old →
    HasAnswer plan call ready old ready' told new → IsSeat plan ready'.thread ready'.step new
seat_after plan call ready ready' told old new seat answered =
    let t = ready.thread in
    let more = replies_more t told.position answered.entry old new answered.seen answered.own in
    let gained : IsSeat plan t (ready.step + 1) new = record {
      few = seat.few;
      step_is = ap (λ (n : ℕ). n + 1) seat.step_is ∙ sym (ap length more ∙ length_push (replies_of t 0 old) (reply_at told.position answered.entry));
      steps = steps_more t told.position answered.entry old new answered.seen answered.own (answered.step ∙ seat.step_is) seat.steps;
      begun =
          subst (AreBegunInTurn 0) (sym more)
          (begun-push 0 (replies_of t 0 old) (reply_at told.position answered.entry) seat.begun (omega arith)
          (raised (0 + length old) answered.entry.begun (replies_of t 0 old) (omega (arith, answered.above)) (replies-below t 0 old)) answered.at_most);
      sound = answered.sound;
    } in
    subst (λ (r : ReadyOf). IsSeat plan r.thread r.step new) (sym answered.ready_is) gained

-- what a seat shows
abbrev pub shown : ℕ → List Commit → SeatOf
shown thread log = record { thread = thread; answers = replies_of thread 0 log; seen = log }

-- the answer that the seat gains
pub gains : (plan : Plan) (call : Invocation) (ready ready' : ReadyOf) (told : Done) (seat : SeatOf) (old new : List Commit) → shown ready.thread old ≡ seat →
    HasAnswer plan call ready old ready' told new → Gains seat (shown ready'.thread new) told.position call told.outcome told.prints.items
gains plan call ready ready' told seat old new view answered =
    let t = ready.thread in
    let hs = replies_of t 0 old in
    let e = answered.entry in
    let after : SeatOf = shown ready'.thread new in
    let thread : ready'.thread ≡ t = ap (λ (r : ReadyOf). r.thread) answered.ready_is in
    let more : replies_of t 0 new ≡ hs ++ reply told.position e.begun call told.outcome told.prints.items ∷ [] =
    replies_more t told.position e old new answered.seen answered.own ∙ ap (λ (x : ReplyOf). hs ++ x ∷ []) answered.reply_is in
    let gained : Gains (shown t old) after told.position call told.outcome told.prints.items = record {
      begun = e.begun;
      is =
          ap (λ (n : ℕ). shown n new) thread
          ∙ ap (λ (xs : List ReplyOf). record { thread = t; answers = xs; seen = new }) more;
      above = raised (0 + length old) e.begun hs (omega (arith, answered.above)) (replies-below t 0 old);
      at_most = answered.at_most;
    } in
    subst (λ (s : SeatOf). Gains s after told.position call told.outcome told.prints.items) view gained

-- the log that the seat has seen
pub sees : (plan : Plan) (call : Invocation) (ready ready' : ReadyOf) (told : Done) (seat : SeatOf) (old new : List Commit) → shown ready.thread old ≡ seat →
    IsSeat plan ready.thread ready.step old → HasAnswer plan call ready old ready' told new → Sees plan seat (shown ready'.thread new)
sees plan call ready ready' told seat old new view kept answered =
    let t = ready.thread in
    let own = answered.seen in
    let thread : ready'.thread ≡ t = ap (λ (r : ReadyOf). r.thread) answered.ready_is in
    let saw : Sees plan (shown t old) (shown ready'.thread new) = record {
      between = own.between;
      entry = answered.entry;
      is = own.is;
      others = own.others;
      own = answered.own;
      step = answered.step ∙ kept.step_is;
      answers =
          ap (λ (n : ℕ). replies_of n 0 new) thread ∙ replies_more t told.position answered.entry old new own answered.own
          ∙ ap (λ (n : ℕ). replies_of t 0 old ++ reply_at n answered.entry ∷ []) (sym own.long);
      sound = answered.sound;
    } in
    subst (λ (s : SeatOf). Sees plan s (shown ready'.thread new)) view saw

-- all answers are before the position of the next one
pub all_below : (plan : Plan) (call : Invocation) (ready ready' : ReadyOf) (told : Done) (seat : SeatOf) (old new : List Commit) → shown ready.thread old ≡ seat →
    HasAnswer plan call ready old ready' told new → AllBelow told.position seat.answers
all_below plan call ready ready' told seat old new view answered =
    let hs = replies_of ready.thread 0 old in
    subst (λ (s : SeatOf). AllBelow told.position s.answers) view
    (raised (0 + length old) told.position hs (omega (arith, answered.above, answered.at_most)) (replies-below ready.thread 0 old))
