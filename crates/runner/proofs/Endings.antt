use Rattle.std.specs.Prelude.{◌≡◌, ◌<◌, ◌≤◌, ℕ, zero, suc, Bool, true, nat_eq, if◌then◌else◌, List, [], ◌∷◌, ◌++◌}
use Rattle.std.specs.Prelude.{length, drop, get_or, unwrap_or, Option, Some, None}
use Rattle.std.proofs.lemmas.Option.{none-some}
use Rattle.std.specs.List.{All}
use Rattle.std.proofs.Common.{refl, sym, ap, ◌∙◌, subst, arith}
use Rattle.std.proofs.lemmas.Bool.Decides.{nat_tests}
use Rattle.core_lang.specs.declared.value.Value.{Value}
use Rattle.core_lang.specs.declared.value.Outcome.{Outcome}
use Rattle.locks.specs.declared.lock.Lock.{Lock}
use Rattle.layout.specs.Layouts.{LayoutOf}
use Rattle.code.specs.Machine.{Machine}
use Rattle.code.specs.Memory.{HeldCells, IsConsistent, value_at}
use Rattle.std.proofs.lemmas.List.Elements.{All-head, All-tail}
use Rattle.layout.specs.LockCells.{cells_of}
use Rattle.moved_cells.specs.Working.Grants.{GrantOf, IsWhole, numbered, locks_of}
use Rattle.lock_manager.specs.Manager.{Managed}
use Rattle.lock_manager.specs.Working.Calls.{CanRelease}
use Rattle.runner_machine.specs.Working.Held.{cells_granted}
use Rattle.history.specs.Commits.{Commit}
use Rattle.lock_manager.specs.Working.Sessions.{TicketOf}
use Rattle.lowering.specs.Plans.{Plan}
use Rattle.worlds.specs.Waiting.{first_if}
use Rattle.worlds.specs.Working.InOrder.{SectionsStayInOrder}
use Rattle.core_lang.specs.Serial.{Invocation}
use Rattle.runner_machine.specs.Working.Machines.{RunOf, IsFinished}
use Rattle.runner.specs.Working.Opens.{OpenOf, IsOpen, CanGiveBack, entry_of, moved}
use Rattle.runner.specs.Working.Ties.{open_as, over_by, ended_as, IsKeptOpen, IsKeptEnded}
use Rattle.runner.proofs.Opened.{RunsInOrder, moved_is_open}

-- a section without held cells has read and written nothing
nothing_held : (xs : List (ℕ × Value)) (cell : ℕ) → length xs ≤ 0 → value_at xs cell ≡ None
nothing_held [] cell e = refl
nothing_held (x ∷ xs) cell e = absurd (omega (arith, e))

nothing_there : (xs : List (ℕ × Value)) → ((cell : ℕ) (v : Value) → value_at xs cell ≡ Some v → ⊥) → length xs ≤ 0
nothing_there [] none = omega arith
nothing_there (x ∷ xs) none =
    let itself : nat_eq x.0 x.0 ≡ true = grind (arith, nat_tests) in
    absurd (none x.0 x.1 (ap (λ (b : Bool). if b then Some x.1 else value_at xs x.0) itself))

few_noted : (held : HeldCells) (room : ℕ) → IsConsistent held → length held.cells ≤ room →
    (0 < room → length held.reads ≤ room) →
    (0 < room → length held.writes ≤ room) → (length held.reads ≤ room) × (length held.writes ≤ room)
few_noted held zero consistent cells reads writes =
    let none_written = nothing_there held.writes
    (λ cell v e. none-some v (sym (nothing_held held.cells cell cells) ∙ consistent.written cell v e)) in (
      nothing_there held.reads (λ cell v e. none-some v
          (sym (nothing_held held.cells cell cells) ∙ consistent.read cell v (nothing_held held.writes cell none_written) e)),
      none_written,
    )
few_noted held (suc room) consistent cells reads writes = (reads (omega arith), writes (omega arith))

module _ (plan : Plan) (ticket : TicketOf) (step : ℕ) (call : Invocation) (run : RunOf) (pending : List Lock) (asked : Bool)
    (pending_room : ℕ) (outcome : Outcome) (run' : RunOf) (grants : List GrantOf) where
  -- the section was run to its end, and its grants are no longer in its machine
  pub record IsOver : Type 0 where
    pub kept : IsKeptOpen (open_as plan ticket step call run pending asked) ticket run pending_room
    pub none : pending ≡ []
    pub leads : moved (open_as plan ticket step call run pending asked) ≡ over_by (open_as plan ticket step call run pending asked) outcome
    pub finished : IsFinished run grants run'

  pub ended_is : IsOver →
      ended_as plan ticket step call run' grants asked outcome ≡ over_by (open_as plan ticket step call run pending asked) outcome
  ended_is t =
      let cells : cells_granted plan.layout.cell_locks grants ≡ run.machine.memory.cells =
      ap (λ (l : LayoutOf). cells_granted l.cell_locks grants) (sym t.kept.layout) ∙ t.finished.cells in
      λ i. record {
        plan = plan;
        thread = ticket.thread;
        step = step;
        room = ticket.session.room;
        activation = record {
          call = call;
          begun = ticket.session.begun;
          machine = record (t.finished.left i).machine { memory = record (t.finished.left i).machine.memory { cells = cells i } };
          held = ticket.session.held;
          pending = sym t.none i;
          asked = asked;
          outcome = Some outcome;
        };
      }

  pub kept_ended : SectionsStayInOrder → IsOver →
      let o = ended_as plan ticket step call run' grants asked outcome in
      IsKeptEnded o ticket run' grants (entry_of o outcome)
  kept_ended laws t =
      let o = open_as plan ticket step call run pending asked in
      let r : RunsInOrder o = record { is_open = t.kept.is_open; pending = t.none; outcome = refl } in
      let machine = ap (λ (r : RunOf). r.machine) t.finished.left in
      let reads = ap (λ (m : Machine HeldCells). length m.memory.reads) machine in
      let writes = ap (λ (m : Machine HeldCells). length m.memory.writes) machine in
      let prints = ap (λ (m : Machine HeldCells). length m.prints) machine in
      let few = few_noted run.machine.memory run.cell_room t.kept.is_open.in_order.well.consistent t.finished.lent t.finished.reads t.finished.writes in
      record {
        is_open = subst IsOpen (sym (ended_is t)) (subst IsOpen t.leads (moved_is_open o laws r));
        ticket_is = t.kept.ticket_is ∙ (λ i. record {
          thread = ticket.thread;
          session = record {
            begun = ticket.session.begun;
            held = ticket.session.held;
            ask = first_if asked (t.none i);
            room = ticket.session.room;
          };
        });
        its = record {
          locks = t.finished.locks ∙ t.kept.locks;
          whole = subst (λ (l : LayoutOf). All (IsWhole l.cell_locks) grants) t.kept.layout t.finished.whole;
          cells = refl;
        };
        within = record {
          arguments = t.kept.few_arguments;
          reads = omega (arith, reads, few.0, t.kept.cell_room);
          writes = omega (arith, writes, few.1, t.kept.cell_room);
          prints = omega (arith, prints, t.finished.prints);
        };
        no_locks = ap (λ (r : RunOf). r.locks) t.finished.left;
        no_room = ap (λ (r : RunOf). r.cell_room) t.finished.left;
      }

-- ---- the grants of the section

numbered_apart : (cs : List ℕ) (vs ws : List Value) (r s : List (ℕ × Value)) → length vs ≡ length cs →
    length ws ≡ length cs →
    numbered cs vs ++ r ≡ numbered cs ws ++ s → (vs ≡ ws) × (r ≡ s)
numbered_apart [] [] [] r s lv lw e = (refl, e)
numbered_apart [] (v ∷ vs) ws r s lv lw e = absurd (omega arith)
numbered_apart [] [] (w ∷ ws) r s lv lw e = absurd (omega arith)
numbered_apart (c ∷ cs) [] ws r s lv lw e = absurd (omega arith)
numbered_apart (c ∷ cs) (v ∷ vs) [] r s lv lw e = absurd (omega arith)
numbered_apart (c ∷ cs) (v ∷ vs) (w ∷ ws) r s lv lw e =
    let rest = numbered_apart cs vs ws r s (omega arith) (omega arith) (ap (λ (zs : List (ℕ × Value)). drop 1 zs) e) in
    let first : v ≡ w = ap (λ (zs : List (ℕ × Value)). (get_or zs 0 (c, v)).1) e in
    ((λ i. first i ∷ rest.0 i), rest.1)

-- whole grants of the same locks with the same cells are equal
alike : (cl : List Lock) (gs hs : List GrantOf) → locks_of gs ≡ locks_of hs → All (IsWhole cl) gs →
    All (IsWhole cl) hs →
    cells_granted cl gs ≡ cells_granted cl hs → gs ≡ hs
alike cl [] [] locks whole others cells = refl
alike cl [] (h ∷ hs) locks whole others cells = absurd (omega (arith, ap (λ (ls : List Lock). length ls) locks))
alike cl (g ∷ gs) [] locks whole others cells = absurd (omega (arith, ap (λ (ls : List Lock). length ls) locks))
alike cl (g ∷ gs) (h ∷ hs) locks whole others cells =
    let lock : g.lock ≡ h.lock = ap (λ (ls : List Lock). get_or ls 0 g.lock) locks in
    let its : length h.values ≡ length (cells_of cl g.lock) =
    All-head (IsWhole cl) h hs others ∙ ap (λ (l : Lock). length (cells_of cl l)) (sym lock) in
    let same : numbered (cells_of cl g.lock) g.values ++ cells_granted cl gs
    ≡ numbered (cells_of cl g.lock) h.values ++ cells_granted cl hs =
    cells ∙ ap (λ (l : Lock). numbered (cells_of cl l) h.values ++ cells_granted cl hs) (sym lock) in
    let apart = numbered_apart (cells_of cl g.lock) g.values h.values (cells_granted cl gs) (cells_granted cl hs)
    (All-head (IsWhole cl) g gs whole) its same in
    let rest = alike cl gs hs (ap (λ (ls : List Lock). drop 1 ls) locks) (All-tail (IsWhole cl) g gs whole)
    (All-tail (IsWhole cl) h hs others) apart.1 in
    λ i. record { lock = lock i; values = apart.0 i } ∷ rest i

-- the section may be released if its own grants and entry may be given back
module _ (m : Managed) (o : OpenOf) (ticket : TicketOf) (run : RunOf) (grants : List GrantOf) (outcome : Outcome)
    (kept : IsKeptEnded o ticket run grants (entry_of o outcome)) (over : o.activation.outcome ≡ Some outcome) where
  pub can_end : CanRelease m ticket grants (entry_of o outcome) → CanGiveBack m o
  can_end can grants' other its over' =
      let same_grants : grants ≡ grants' =
      alike o.plan.layout.cell_locks grants grants' (kept.its.locks ∙ sym its.locks) kept.its.whole its.whole
      (kept.its.cells ∙ sym its.cells) in
      let same_outcome : Some outcome ≡ Some other = sym over ∙ over' in
      let same_entry : entry_of o outcome ≡ entry_of o other =
      ap (entry_of o) (ap (λ (x : Option Outcome). unwrap_or x other) same_outcome) in
      subst (λ (t : TicketOf). CanRelease m t grants' (entry_of o other)) kept.ticket_is
      (subst (λ (gs : List GrantOf). CanRelease m ticket gs (entry_of o other)) same_grants
      (subst (λ (e : Commit). CanRelease m ticket grants e) same_entry can))

  pub own_release : CanGiveBack m o → CanRelease m ticket grants (entry_of o outcome)
  own_release can =
      subst (λ (t : TicketOf). CanRelease m t grants (entry_of o outcome)) (sym kept.ticket_is) (can grants outcome kept.its over)
