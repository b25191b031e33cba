use Rattle.std.specs.Prelude.{◌≡◌, ◌<◌, ◌≤◌, ℕ, zero, suc, List, [], ◌∷◌, length, take, get_or, slice_get, Option, Some}
use Rattle.std.proofs.lemmas.List.{length-map}
use Rattle.std.specs.Option.{option_map_or}
use Rattle.std.proofs.Common.{refl, sym, ap, ◌∙◌, subst, arith}
use Rattle.std.proofs.lemmas.Option.{slice_get_within, get_or_from_slice_get}
use Rattle.core_lang.specs.declared.value.Value.{Value}
use Rattle.core_lang.specs.declared.tree.Section.{Section}
use Rattle.core_lang.specs.declared.typed.Typed.{Typed}
use Rattle.core_lang.specs.Serial.{Invocation}
use Rattle.core_lang.specs.WellFormed.{CanCall}
use Rattle.core_lang.specs.Typing.{local_types}
use Rattle.core_lang.specs.Whole.{opening}
use Rattle.core_lang.specs.Theory.Openings.{have_length}
use Rattle.layout.specs.declared.room.Room.{Room}
use Rattle.lock_manager.specs.Manager.{SessionOf}
use Rattle.lock_manager.specs.Working.Sessions.{TicketOf, fresh}
use Rattle.lock_manager.specs.Manager.{Managed}
use Rattle.lock_manager.specs.Working.Calls.{Begins}
use Rattle.lowering.specs.Plans.{Plan, IsCompiled}
use Rattle.worlds.specs.Waiting.{first_if}
use Rattle.worlds.specs.Worlds.{locals_at}
use Rattle.worlds.specs.Working.InOrder.{SectionsStayInOrder, SufficesFor}
use Rattle.runner_machine.specs.Working.Machines.{RunOf}
use Rattle.runner.specs.Working.Opens.{OpenOf, ReadyOf, IsOpen, Began}
use Rattle.runner.specs.declared.body.SectionFrame.{SectionFrame}
use Rattle.runner.specs.Working.Ties.{open_as, begun_as, cells_together, its_call, IsBeginning, IsKeptOpen}

-- a call that fits has its section
pub called : (program : Typed) (number : ℕ) (arguments : List Value) → CanCall program number arguments →
    (section : Section) × (slice_get program.sections.items number ≡ Some section)
unfolding CanCall
called program number arguments can = (can.0, can.1)

pub called_within : (program : Typed) (number : ℕ) (arguments : List Value) → CanCall program number arguments →
    number < length program.sections.items
called_within program number arguments can =
    let section = called program number arguments can in
    slice_get_within program.sections.items number section.0 section.1

-- the locals of the call
pub first_locals : (plan : Plan) (call : Invocation) (x : Section) → CanCall plan.program call.section call.arguments →
    x ≡ get_or plan.program.sections.items call.section x →
    (opening x call.arguments []).locals ≡ locals_at plan call
first_locals plan call x can is =
    let section = called plan.program call.section call.arguments can in
    let same : x ≡ section.0 = is ∙ get_or_from_slice_get plan.program.sections.items call.section section.0 x section.1 in
    ap (λ (s : Section). (opening s call.arguments []).locals) same
    ∙ sym (ap (λ (s : Option Section). option_map_or (λ (s : Section). (opening s call.arguments []).locals) s []) section.1)

-- the arguments that are taken are at most `n`
taken : {A : Type 0} (n : ℕ) (xs : List A) → length (take n xs) ≤ n
taken zero xs = omega arith
taken (suc n) [] = omega arith
taken (suc n) (x ∷ xs) = omega (arith, taken n xs)

pub few_arguments : (plan : Plan) (number : ℕ) (arguments : List Value) → IsCompiled plan →
    CanCall plan.program number arguments →
    length arguments ≤ 8
unfolding CanCall
few_arguments plan number arguments compiled can =
    let section = can.0 in
    let types = local_types (take section.parameters section.locals.items) in
    let same : length arguments ≡ length types = have_length plan.program.shape types arguments can.2 in
    let named : length types ≡ length (take section.parameters section.locals.items) = length-map _ _ in
    omega (arith, same, named, taken section.parameters section.locals.items, compiled.well_formed.within.parameters number section can.1)

-- the section as it begins
pub as_begun : (plan : Plan) (b : SectionFrame) (ticket : TicketOf) (step : ℕ) → IsBeginning plan b →
    ticket.session ≡ fresh ticket.session.begun b.room →
    open_as plan ticket step (its_call b) b.machine b.pending.locks b.asked
    ≡ begun_as plan ticket.thread step b.room ticket.session.begun (its_call b)
as_begun plan b ticket step p is =
    λ i. open_as plan (record { thread = ticket.thread; session = is i }) step (its_call b) (p.run_is i) (p.none_pending i) (p.not_asked i)

pub kept_at_first : (plan : Plan) (b : SectionFrame) (ticket : TicketOf) (step : ℕ) → SectionsStayInOrder → IsBeginning plan b →
    ticket.session ≡ fresh ticket.session.begun b.room →
    IsKeptOpen (open_as plan ticket step (its_call b) b.machine b.pending.locks b.asked) ticket b.machine
    b.pending.room
kept_at_first plan b ticket step laws p is =
    let call = its_call b in
    let room = b.room in
    let o : OpenOf = begun_as plan ticket.thread step room ticket.session.begun call in
    let open_at_first : IsOpen o = record {
      compiled = p.compiled;
      in_order = laws.begins plan ticket.session.begun call p.compiled p.fits;
      room = p.room_is;
    } in
    let asks_nothing_yet : ticket.session.ask ≡ first_if b.asked b.pending.locks =
    ap (λ (s : SessionOf). s.ask) is ∙ sym (λ i. first_if (p.not_asked i) (p.none_pending i)) in
    let none : ticket.session.held ≡ [] = ap (λ (s : SessionOf). s.held) is in
    let its_room : ticket.session.room ≡ room = ap (λ (s : SessionOf). s.room) is in
    let locks : ticket.session.room.locks ≡ room.locks = ap (λ (r : Room). r.locks) its_room in
    record {
      is_open = subst IsOpen (sym (as_begun plan b ticket step p is)) open_at_first;
      ticket_is = λ i. record {
        thread = ticket.thread;
        session = record {
          begun = ticket.session.begun;
          held = ticket.session.held;
          ask = asks_nothing_yet i;
          room = ticket.session.room;
        };
      };
      layout = ap (λ (r : RunOf). r.layout) p.run_is;
      locks = ap (λ (r : RunOf). r.locks) p.run_is ∙ sym none;
      operands = ap (λ (r : RunOf). r.operand_room) p.run_is ∙ ap (λ (r : Room). r.operands) (sym its_room);
      lock_room = ap (λ (r : RunOf). r.lock_room) p.run_is ∙ ap (λ (r : Room). r.locks) (sym its_room);
      cell_room = ap (λ (r : RunOf). r.cell_room) p.run_is ∙ ap (λ (r : Room). r.cells) (sym its_room);
      pending_fits = omega (arith, locks, p.pending_fits);
      cells = ap (λ (r : RunOf). length r.machine.memory.cells) p.run_is ∙ sym (ap (cells_together plan) none);
      few_arguments = few_arguments plan b.section b.arguments.items p.compiled p.fits;
    }

-- the call has begun
pub has_begun : (m m' : Managed) (ready : ReadyOf) (plan : Plan) (call : Invocation) (room : Room) (ticket : TicketOf) (o : OpenOf) →
    SufficesFor plan call.section room → Begins m ready.thread room ticket m' →
    o ≡ begun_as plan ticket.thread ready.step room ticket.session.begun call → Began m ready plan call o m'
has_begun m m' ready plan call room ticket o its_room begins is =
    let e : o ≡ begun_as plan ready.thread ready.step room (length m.history) call =
    is ∙ ap (λ (t : TicketOf). begun_as plan t.thread ready.step room t.session.begun call) begins.ticket_is in
    subst (λ (x : OpenOf). Began m ready plan call x m') (sym e)
    (record {
      room = its_room;
      is = refl;
      begins = record { was_closed = begins.was_closed; ticket_is = refl; manager = begins.manager };
    })

pub fresh_ticket : (m m' : Managed) (t : ℕ) (room : Room) (ticket : TicketOf) → Begins m t room ticket m' →
    ticket.session ≡ fresh ticket.session.begun room
fresh_ticket m m' t room ticket begins =
    ap (λ (x : TicketOf). x.session) begins.ticket_is
    ∙ ap (λ (x : TicketOf). fresh x.session.begun room) (sym begins.ticket_is)
