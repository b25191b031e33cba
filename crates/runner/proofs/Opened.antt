use Rattle.std.specs.Prelude.{◌≡◌, ◌≢◌, ◌<◌, ◌≤◌, ◌^◌, ℕ, suc, Bool, true, false, List, [], ◌∷◌, length, drop, map}
use Rattle.std.specs.Prelude.{get_or, slice_get, Option, Some, None}
use Rattle.std.specs.Option.{option_map_or}
use Rattle.std.proofs.Common.{refl, sym, ap, ◌∙◌, subst, arith, length-append}
use Rattle.std.proofs.lemmas.Option.{slice_get_within, get_or_from_slice_get}
use Rattle.core_lang.specs.declared.value.Value.{Value}
use Rattle.core_lang.specs.declared.tree.Section.{Section}
use Rattle.locks.specs.declared.lock.Lock.{Lock}
use Rattle.layout.specs.declared.room.Room.{Room}
use Rattle.code.specs.declared.instr.Instr.{Instr}
use Rattle.code.specs.declared.section_code.SectionCode.{SectionCode}
use Rattle.code.specs.declared.section_code.ProgramCode.{ProgramCode}
use Rattle.code.specs.Lowering.{section_code, lists_at}
use Rattle.code.specs.Machine.{Machine, Effect, Moves, Asks, Finishes, Undefined, act, passed}
use Rattle.code.specs.Memory.{HeldCells, value_at, load_held, store_held}
use Rattle.code.specs.Working.Laws.{KeepsHeld}
use Rattle.lowering.specs.Working.Lowered.{IsCodeOf}
use Rattle.worlds.specs.Worlds.{code_at, locks_before, instructed, next_effect}
use Rattle.worlds.specs.Working.InOrder.{IsInOrder, SectionsStayInOrder}
use Rattle.worlds.specs.Waiting.{first_if}
use Rattle.lock_manager.specs.Working.Sessions.{TicketOf}
use Rattle.runner_machine.specs.Working.Machines.{RunOf, with_machine, FitsRoom, HasSmallCells}
use Rattle.runner.specs.Working.Opens.{OpenOf, IsOpen, further, moved}
use Rattle.runner.specs.Working.Ties.{IsKeptOpen}
use Rattle.runner.proofs.Asked.{also_there}

-- an open section that is running
pub record RunsInOrder (o : OpenOf) : Type 0 where
  pub is_open : IsOpen o
  pub pending : o.activation.pending ≡ []
  pub outcome : o.activation.outcome ≡ None

-- the code of its section
pub record HasCode (o : OpenOf) (code : ProgramCode) : Type 0 where
  pub made : SectionCode
  pub at : slice_get code.sections.items o.activation.call.section ≡ Some made
  pub is : code_at o.plan o.activation.call.section ≡ made.instructions.items

pub has_code : (o : OpenOf) (code : ProgramCode) → IsOpen o → IsCodeOf o.plan.program o.plan.lists code → HasCode o code
has_code o code is_open of =
    let k = o.activation.call.section in
    let well = is_open.in_order.well in
    let made = also_there o.plan.program.sections.items code.sections.items k well.section (sym of.long) well.is in
    let lowered = of.each k well.section made.0 well.is made.1 in
    record {
      made = made.0;
      at = made.1;
      is = ap (λ (s : Option Section). option_map_or (λ (section : Section). section_code (lists_at o.plan.lists k) section) s []) well.is
          ∙ sym lowered.instructions;
    }

-- ---- the next instruction

instruction_there : (o : OpenOf) (i : Option Instr) → next_effect o.plan o.activation ≢ Undefined →
    slice_get (code_at o.plan o.activation.call.section) o.activation.machine.place ≡ i →
    o.activation.machine.place < length (code_at o.plan o.activation.call.section)
instruction_there o None defined e =
    absurd (defined (ap (λ (i : Option Instr). act load_held store_held o.plan.program.shape i o.activation.machine) e))
instruction_there o (Some i) defined e =
    slice_get_within (code_at o.plan o.activation.call.section) o.activation.machine.place i e

pub next_there : (o : OpenOf) → SectionsStayInOrder → RunsInOrder o →
    o.activation.machine.place < length (code_at o.plan o.activation.call.section)
next_there o laws r =
    instruction_there o (slice_get (code_at o.plan o.activation.call.section) o.activation.machine.place)
    (laws.next o.plan o.activation r.is_open.compiled r.is_open.in_order r.pending r.outcome).defined refl

-- the place of the section is a place of its code
pub place_there : (o : OpenOf) (code : ProgramCode) (h : HasCode o code) → SectionsStayInOrder → RunsInOrder o →
    o.activation.machine.place < length h.made.instructions.items
place_there o code h laws r = omega (arith, next_there o laws r, ap (λ (is : List Instr). length is) h.is)

-- the places of a code are numbers of 64 bits
pub code_is_short : (made : SectionCode) → length made.instructions.items < 2 ^ 63
code_is_short made = omega (arith, made.instructions.ok.0, made.instructions.ok.1, made.instructions.small)

-- the section's room is enough for its operands
pub stack_fits : (o : OpenOf) → SectionsStayInOrder → RunsInOrder o →
    length o.activation.machine.stack ≤ o.room.operands
stack_fits o laws r =
    let next = laws.next o.plan o.activation r.is_open.compiled r.is_open.in_order r.pending r.outcome in
    let suffices = r.is_open.room next.section next.is in
    omega (arith, next.fits, ap (λ (room : Room). room.operands) suffices.is, suffices.is_whole.operands)

-- an instruction keeps the call of its section
moved_call : (o : OpenOf) (e : Effect HeldCells) → (instructed o.plan o.activation e).call ≡ o.activation.call
moved_call o (Moves m) = refl
moved_call o (Asks point) = refl
moved_call o (Finishes outcome) = refl
moved_call o Undefined = refl

moved_by : (o : OpenOf) (e : Effect HeldCells) → IsOpen o → IsInOrder o.plan (instructed o.plan o.activation e) →
    IsOpen (further o (instructed o.plan o.activation e))
moved_by o (Moves m) is_open in_order = record { compiled = is_open.compiled; in_order = in_order; room = is_open.room }
moved_by o (Asks point) is_open in_order = record { compiled = is_open.compiled; in_order = in_order; room = is_open.room }
moved_by o (Finishes outcome) is_open in_order = record { compiled = is_open.compiled; in_order = in_order; room = is_open.room }
moved_by o Undefined is_open in_order = record { compiled = is_open.compiled; in_order = in_order; room = is_open.room }

pub moved_is_open : (o : OpenOf) → SectionsStayInOrder → RunsInOrder o → IsOpen (moved o)
moved_is_open o laws r =
    moved_by o (next_effect o.plan o.activation) r.is_open
    (laws.moves o.plan o.activation r.is_open.compiled r.is_open.in_order r.pending r.outcome)

-- the same with a known effect
pub open_after : (o : OpenOf) (e : Effect HeldCells) → SectionsStayInOrder → RunsInOrder o →
    next_effect o.plan o.activation ≡ e →
    IsOpen (further o (instructed o.plan o.activation e))
open_after o e laws r is =
    subst (λ (x : Effect HeldCells). IsOpen (further o (instructed o.plan o.activation x))) is (moved_is_open o laws r)

-- ---- the room of the section

-- the section has room after each effect
effect_fits : (o : OpenOf) (code : ProgramCode) (e : Effect HeldCells) → SectionsStayInOrder →
    IsCodeOf o.plan.program o.plan.lists code →
    RunsInOrder o → next_effect o.plan o.activation ≡ e → FitsRoom o.room.operands e
effect_fits o code (Moves m) laws of r is =
    let o' : OpenOf = further o (record o.activation { machine = m }) in
    let r' : RunsInOrder o' = record { is_open = open_after o (Moves m) laws r is; pending = r.pending; outcome = r.outcome } in
    let h = has_code o' code r'.is_open of in
    let place = place_there o' code h laws r' in
    let short = code_is_short h.made in
    (omega arith, stack_fits o' laws r')
effect_fits o code (Asks point) laws of r is = tt
effect_fits o code (Finishes outcome) laws of r is = tt
effect_fits o code Undefined laws of r is = tt

pub next_fits : (o : OpenOf) (code : ProgramCode) → SectionsStayInOrder → IsCodeOf o.plan.program o.plan.lists code →
    RunsInOrder o → FitsRoom o.room.operands (next_effect o.plan o.activation)
next_fits o code laws of r = effect_fits o code (next_effect o.plan o.activation) laws of r refl

-- the section has room for its pending locks
pending_fits : (o : OpenOf) (ps : List Lock) → SectionsStayInOrder → IsOpen o → o.activation.pending ≡ ps →
    length ps ≤ o.room.locks
pending_fits o [] laws is_open is = omega arith
pending_fits o (first ∷ rest) laws is_open is =
    let well = is_open.in_order.well in
    let fit = laws.fit o.plan o.activation first rest well.section o.room is_open.compiled is_open.in_order is well.is
    (is_open.room well.section well.is) in
    let both = length-append o.activation.held o.activation.pending in
    omega (arith, fit.locks_fit, both, ap (λ (xs : List Lock). length xs) is)

pub asked_fits : (o : OpenOf) (point : ℕ) → SectionsStayInOrder → RunsInOrder o →
    next_effect o.plan o.activation ≡ Asks point →
    length (locks_before o.plan o.activation.call.section point o.activation.held o.activation.machine.locals) ≤ o.room.locks
asked_fits o point laws r is =
    pending_fits (further o (instructed o.plan o.activation (Asks point)))
    (locks_before o.plan o.activation.call.section point o.activation.held o.activation.machine.locals)
    laws (open_after o (Asks point) laws r is) refl

-- ---- the numbers of its cells

cell_small : (o : OpenOf) (cell : ℕ) (v : Option Value) → IsOpen o → 2 ^ 32 ≤ cell →
    value_at o.activation.machine.memory.cells cell ≡ v → v ≡ None
cell_small o cell None is_open large is = refl
cell_small o cell (Some v) is_open large is =
    let held = is_open.in_order.well.only cell (v, is) in
    let within = slice_get_within o.plan.layout.cell_locks cell held.0 held.1 in
    let cells = is_open.compiled.laid_out.cells in
    let few = is_open.compiled.well_formed.within.cells in
    absurd (omega (arith, within, cells, few, large))

pub cells_small : (o : OpenOf) → IsOpen o → HasSmallCells o.activation.machine.memory
cells_small o is_open cell large =
    cell_small o cell (value_at o.activation.machine.memory.cells cell) is_open large refl

-- ---- how the code keeps it

-- the section code that the code reads is that of the section
pub code_read : (o : OpenOf) (code : ProgramCode) (h : HasCode o code) (x : SectionCode) →
    x ≡ get_or code.sections.items o.activation.call.section x → x ≡ h.made
code_read o code h x is = is ∙ get_or_from_slice_get code.sections.items o.activation.call.section h.made x h.at

no_ask : (asked : Bool) → first_if asked [] ≡ None
no_ask true = refl
no_ask false = refl

pub asks_nothing : (o : OpenOf) → o.activation.pending ≡ [] → first_if o.activation.asked o.activation.pending ≡ None
asks_nothing o none = ap (first_if o.activation.asked) none ∙ no_ask o.activation.asked

same_length : (xs ys : List (ℕ × Value)) → map (λ (x : ℕ × Value). x.0) xs ≡ map (λ (x : ℕ × Value). x.0) ys →
    length xs ≡ length ys
same_length [] [] e = refl
same_length [] (y ∷ ys) e = absurd (omega (arith, ap (λ (zs : List ℕ). length zs) e))
same_length (x ∷ xs) [] e = absurd (omega (arith, ap (λ (zs : List ℕ). length zs) e))
same_length (x ∷ xs) (y ∷ ys) e = ap suc (same_length xs ys (ap (λ (zs : List ℕ). drop 1 zs) e))

pub kept_moving : (o : OpenOf) (ticket : TicketOf) (run : RunOf) (pending_room : ℕ) (m : Machine HeldCells) →
    KeepsHeld → SectionsStayInOrder → RunsInOrder o → IsKeptOpen o ticket run pending_room →
    next_effect o.plan o.activation ≡ Moves m →
    IsKeptOpen (further o (record o.activation { machine = m })) ticket (with_machine run m) pending_room
kept_moving o ticket run pending_room m keeps laws r kept is = record {
  is_open = open_after o (Moves m) laws r is;
  ticket_is = kept.ticket_is;
  layout = kept.layout;
  locks = kept.locks;
  operands = kept.operands;
  lock_room = kept.lock_room;
  cell_room = kept.cell_room;
  pending_fits = kept.pending_fits;
  few_arguments = kept.few_arguments;
  cells =
      same_length m.memory.cells o.activation.machine.memory.cells
      (keeps o.plan.program.shape (slice_get (code_at o.plan o.activation.call.section) o.activation.machine.place)
      o.activation.machine m is).cells
      ∙ kept.cells;
}

pub kept_asking : (o : OpenOf) (ticket : TicketOf) (run : RunOf) (pending_room more : ℕ) (point : ℕ) →
    SectionsStayInOrder → RunsInOrder o → IsKeptOpen o ticket run pending_room →
    next_effect o.plan o.activation ≡ Asks point → pending_room ≤ more →
    IsKeptOpen (further o (instructed o.plan o.activation (Asks point))) ticket (with_machine run (passed run.machine)) more
kept_asking o ticket run pending_room more point laws r kept is le = record {
  is_open = open_after o (Asks point) laws r is;
  ticket_is =
      kept.ticket_is
      ∙ (λ i. record {
        thread = o.thread;
        session = record {
          begun = o.activation.begun;
          held = o.activation.held;
          ask = asks_nothing o r.pending i;
          room = o.room;
        };
      });
  layout = kept.layout;
  locks = kept.locks;
  operands = kept.operands;
  lock_room = kept.lock_room;
  cell_room = kept.cell_room;
  pending_fits = omega (arith, kept.pending_fits);
  cells = kept.cells;
  few_arguments = kept.few_arguments;
}
