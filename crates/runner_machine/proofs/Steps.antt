-- The effects of a read, a write and a grant.
use Rattle.std.proofs.Common.{◌≡◌, ℕ, ◌+◌, ◌<◌, ◌≤◌, true, false, List, [], ◌∷◌, ◌++◌, length, set, get_or, Option}
use Rattle.std.proofs.Common.{Some, None, refl, sym, ap, ◌∙◌, subst, arith, length-set, length-append}
use Rattle.std.specs.Prelude.{slice_get}
use Rattle.std.specs.List.{Contains}
use Rattle.std.proofs.lemmas.List.Elements.{All-nil, All-set, All-push}
use Rattle.std.proofs.lemmas.Option.{none-some, slice_get_within, get_or_from_slice_get}
use Rattle.core_lang.specs.declared.value.Value.{Value}
use Rattle.locks.specs.declared.lock.Lock.{Lock}
use Rattle.code.specs.Memory.{HeldCells, value_at, with_value, with_changed, noted, read_if_held, write_if_held}
use Rattle.layout.specs.Layouts.{LayoutOf, AreDistinct}
use Rattle.moved_cells.specs.Working.Grants.{GrantOf, cells_in, IsWhole, locks_of}
use Rattle.moved_cells.specs.Working.Laws.{OffsetsFindValues, OffsetsChangeCells}
use Rattle.runner_machine.specs.Working.Held.{HoldingOf, cells_granted, CanHold, with_grant, without_grants, IsLoad}
use Rattle.runner_machine.specs.Working.Held.{IsStore}
use Rattle.runner_machine.specs.Working.Noted.{NotesOf, number_of, with_note, in_order, EachOnce, AreNotes}
use Rattle.runner_machine.specs.Working.Kept.{cells_under, values_count, IsSpot, IsElsewhere, IsKept, holding_of}
use Rattle.runner_machine.proofs.Lists.{Distinct}
use Rattle.runner_machine.proofs.Rising.{in_order_values, in_order_twice, in_order_once}
use Rattle.runner_machine.proofs.Sorted.{length_in_order}
use Rattle.runner_machine.proofs.Noting.{few, found_value, not_found, noted_so, noted_with, with_cells, one_more}
use Rattle.runner_machine.proofs.Noting.{same_room}
use Rattle.runner_machine.proofs.Places.{distinct_under, under_append}
use Rattle.runner_machine.proofs.Granted.{locks_append, count_append, granted_append, append_none, length_locks}
use Rattle.runner_machine.proofs.Granted.{granted_count, under_count, elsewhere, granted_value, granted_changed, cell_at}
use Rattle.runner_machine.proofs.Granted.{locks_set, count_set, whole_at}
use Rattle.runner_machine.specs.declared.held_lock.HeldLock.{HeldLock}
use Rattle.runner_machine.specs.Working.Finding.{AreHeld}
use Rattle.runner_machine.proofs.Holds.{held_set}
use Rattle.core_lang.specs.Theory.Items.{get_some}
use Rattle.layout.specs.Theory.Numbers.{distinct_push}

pub item_is : {X : Type 0} (xs : List X) (i : ℕ) (x y : X) → slice_get xs i ≡ Some x → y ≡ get_or xs i y → y ≡ x
item_is xs i x y at e = e ∙ get_or_from_slice_get xs i x y at

module _ (layout : LayoutOf) (gs : List GrantOf) (reads writes : NotesOf) (ls cs : ℕ) (kept : IsKept layout.cell_locks gs reads writes ls cs) where
  distinct : Distinct (cells_under layout.cell_locks (locks_of gs))
  distinct = distinct_under layout.cell_locks (locks_of gs) kept.distinct

  pub reads_once : EachOnce reads.list
  reads_once = kept.reads_are.once

  pub writes_once : EachOnce writes.list
  writes_once = kept.writes_are.once

  pub cells_long : length (cells_granted layout.cell_locks gs) ≡ values_count gs
  cells_long = granted_count layout.cell_locks gs kept.whole

  -- ---- the end

  few_noted : (n : NotesOf) → AreNotes (cells_under layout.cell_locks (locks_of gs)) n → n.room ≡ cs → 0 < cs →
      length (in_order n.list) ≤ cs
  few_noted n are room some =
      let few_are : length n.list ≤ length (cells_under layout.cell_locks (locks_of gs)) =
      few (cells_under layout.cell_locks (locks_of gs)) n are (omega (arith, some, room)) in
      omega (arith, length_in_order n.list, few_are, under_count layout.cell_locks gs kept.whole, kept.cells_fit)

  over : (n m : NotesOf) → m.list ≡ in_order n.list → m.room ≡ 0 → AreNotes [] m
  over n m list room = record {
    marked = λ live. absurd (omega (arith, live, room));
    once = subst EachOnce (sym list) (in_order_once n.list);
    long = omega (arith, room);
  }

  module _ (old : HoldingOf) (was : holding_of layout gs reads writes ls cs ≡ old) (hs : List GrantOf) (none : hs ≡ [])
      (r w : NotesOf) (reads_list : r.list ≡ in_order reads.list) (reads_over : r.room ≡ 0)
      (writes_list : w.list ≡ in_order writes.list) (writes_over : w.room ≡ 0) where
    pub kept_over : IsKept layout.cell_locks hs r w 0 0
    kept_over = subst (λ (x : List GrantOf). IsKept layout.cell_locks x r w 0 0) (sym none) (record {
      whole = All-nil (IsWhole layout.cell_locks);
      distinct = λ i j lock at too. absurd (none-some lock at);
      reads_are = over reads r reads_list reads_over;
      writes_are = over writes w writes_list writes_over;
      reads_room = reads_over;
      writes_room = writes_over;
      locks_fit = omega arith;
      cells_fit = omega arith;
    })

    pub left_over : holding_of layout hs r w 0 0 ≡ without_grants old
    left_over =
        (λ i. holding_of layout (none i) r w 0 0)
        ∙ (λ i. record {
          layout = layout;
          locks = [];
          memory = record {
            cells = [];
            reads = (ap in_order reads_list ∙ in_order_twice reads.list) i;
            writes = (ap in_order writes_list ∙ in_order_twice writes.list) i;
          };
          lock_room = 0;
          cell_room = 0;
        })
        ∙ ap without_grants was

    few_over : (n m : NotesOf) → AreNotes (cells_under layout.cell_locks (locks_of gs)) n → n.room ≡ cs →
        m.list ≡ in_order n.list →
        0 < old.cell_room → length (in_order m.list) ≤ old.cell_room
    few_over n m are room list some =
        let same : cs ≡ old.cell_room = ap (λ (h : HoldingOf). h.cell_room) was in
        let long : length (in_order m.list) ≡ length (in_order n.list) = ap length (ap in_order list ∙ in_order_twice n.list) in
        let few_are : length (in_order n.list) ≤ cs = few_noted n are room (omega (arith, some, same)) in
        omega (arith, same, long, few_are)

    pub few_reads : 0 < old.cell_room → length (in_order r.list) ≤ old.cell_room
    few_reads = few_over reads r kept.reads_are kept.reads_room reads_list

    pub few_writes : 0 < old.cell_room → length (in_order w.list) ≤ old.cell_room
    few_writes = few_over writes w kept.writes_are kept.writes_room writes_list

  -- ---- a cell that is not held

  module _ (old : HoldingOf) (was : holding_of layout gs reads writes ls cs ≡ old) (cell : ℕ) (out : IsElsewhere layout.cell_locks gs cell) where
    not_there : value_at old.memory.cells cell ≡ None
    not_there = ap (λ (h : HoldingOf). value_at h.memory.cells cell) (sym was) ∙ elsewhere layout.cell_locks gs cell out

    pub none_loaded : IsLoad old cell None old
    none_loaded = (ap (read_if_held old.memory cell) not_there, refl)

    pub none_stored : (v : Value) → IsStore old cell v false old
    none_stored v = (ap (λ (o : Option Value). write_if_held old.memory o cell v) not_there, refl)

  -- ---- a cell that is held

  module _ (old : HoldingOf) (was : holding_of layout gs reads writes ls cs ≡ old) (cell index offset place : ℕ)
      (spot : IsSpot layout.cell_locks gs cell index offset place) (read : OffsetsFindValues) where
    has_place : slice_get (cells_under layout.cell_locks (locks_of gs)) place ≡ Some cell
    has_place =
        ap (slice_get (cells_under layout.cell_locks (locks_of gs))) spot.place_is
        ∙ cell_at layout.cell_locks gs index spot.grant cell offset kept.whole spot.is spot.slot.offset_is

    has_value : (v : Value) → slice_get spot.grant.values offset ≡ Some v →
        value_at (cells_granted layout.cell_locks gs) cell ≡ Some v
    has_value v is = granted_value layout.cell_locks cell offset spot.grant spot.slot read gs index v kept.whole kept.distinct spot.is is

    marked : (n : NotesOf) → AreNotes (cells_under layout.cell_locks (locks_of gs)) n → n.room ≡ cs →
        place < length n.marks
    marked n are room = omega (arith, spot.place_fits, kept.cells_fit, are.long, room)

    live : (n : NotesOf) → n.room ≡ cs → 0 < n.room
    live n room = omega (arith, spot.place_fits, kept.cells_fit, room)

    -- there is room for one more note
    pub fits_room : (n : NotesOf) → n.room ≡ cs → place < n.room
    fits_room n room = omega (arith, spot.place_fits, kept.cells_fit, room)

    one_more_fits : (n : NotesOf) → AreNotes (cells_under layout.cell_locks (locks_of gs)) n → n.room ≡ cs → Value →
        number_of n place cell ≡ None → length n.list < n.room
    one_more_fits n are room v none =
        let more : length n.list < length (cells_under layout.cell_locks (locks_of gs)) =
        one_more (cells_under layout.cell_locks (locks_of gs)) n are distinct place cell has_place (live n room) v (marked n are room) none in
        omega (arith, more, under_count layout.cell_locks gs kept.whole, kept.cells_fit, room)

    pub read_fits : Value → number_of reads place cell ≡ None → length reads.list < reads.room
    read_fits v none = one_more_fits reads kept.reads_are kept.reads_room v none

    pub write_fits : Value → number_of writes place cell ≡ None → length writes.list < writes.room
    write_fits v none = one_more_fits writes kept.writes_are kept.writes_room v none

    pub index_within : index < length gs
    index_within = slice_get_within gs index spot.grant spot.is

    pub offset_within : (g : GrantOf) → g ≡ get_or gs index g → offset < length g.values
    offset_within g at =
        subst (λ (h : GrantOf). offset < length h.values) (sym (item_is gs index spot.grant g spot.is at)) spot.offset_fits

    pub loaded_written : (g : GrantOf) (v : Value) (k : ℕ) → g ≡ get_or gs index g →
        slice_get g.values offset ≡ Some v →
        number_of writes place cell ≡ Some k → IsLoad old cell (Some v) old
    loaded_written g v k at is there =
        let same : g ≡ spot.grant = item_is gs index spot.grant g spot.is at in
        let value : value_at (cells_granted layout.cell_locks gs) cell ≡ Some v = has_value v (ap (λ (h : GrantOf). slice_get h.values offset) (sym same) ∙ is) in
        let held : HeldCells = (holding_of layout gs reads writes ls cs).memory in
        let is_noted = found_value (cells_under layout.cell_locks (locks_of gs)) writes kept.writes_are distinct place cell has_place (live writes kept.writes_room) k there in
        let written : value_at held.writes cell ≡ Some is_noted.0 = in_order_values writes.list cell ∙ is_noted.1 in
        subst (λ (h : HoldingOf). IsLoad h cell (Some v) h) was
        (ap (read_if_held held cell) value ∙ ap (λ (o : Option Value). Some (v, noted held cell v o)) written, refl)

    pub loaded_first : (g : GrantOf) (v : Value) (more : NotesOf) → g ≡ get_or gs index g →
        slice_get g.values offset ≡ Some v →
        number_of writes place cell ≡ None → more ≡ with_note reads place cell v → IsLoad old cell (Some v) (holding_of layout gs more writes ls cs)
    loaded_first g v more at is there e =
        let same : g ≡ spot.grant = item_is gs index spot.grant g spot.is at in
        let value : value_at (cells_granted layout.cell_locks gs) cell ≡ Some v = has_value v (ap (λ (h : GrantOf). slice_get h.values offset) (sym same) ∙ is) in
        let held : HeldCells = (holding_of layout gs reads writes ls cs).memory in
        let unwritten : value_at held.writes cell ≡ None =
        in_order_values writes.list cell
        ∙ not_found (cells_under layout.cell_locks (locks_of gs)) writes kept.writes_are distinct place cell has_place (live writes kept.writes_room) there in
        let noting : in_order more.list ≡ with_value held.reads cell v =
        ap (λ (n : NotesOf). in_order n.list) e
        ∙ noted_with (cells_under layout.cell_locks (locks_of gs)) reads kept.reads_are distinct place cell has_place (live reads kept.reads_room) v (marked reads kept.reads_are kept.reads_room) in
        subst (λ (h : HoldingOf). IsLoad h cell (Some v) (holding_of layout gs more writes ls cs)) was (
          ap (read_if_held held cell) value ∙ ap (λ (o : Option Value). Some (v, noted held cell v o)) unwritten
              ∙ ap (λ (rs : List (ℕ × Value)). Some (v, record held { reads = rs })) (sym noting),
          refl,
        )

    pub kept_noted : (v : Value) (more : NotesOf) → more ≡ with_note reads place cell v →
        IsKept layout.cell_locks gs more writes ls cs
    kept_noted v more e = subst (λ (n : NotesOf). IsKept layout.cell_locks gs n writes ls cs) (sym e) (record {
      whole = kept.whole;
      distinct = kept.distinct;
      reads_are = noted_so (cells_under layout.cell_locks (locks_of gs)) reads kept.reads_are distinct place cell has_place (live reads kept.reads_room) v (marked reads kept.reads_are kept.reads_room);
      writes_are = kept.writes_are;
      reads_room = same_room reads place cell v ∙ kept.reads_room;
      writes_room = kept.writes_room;
      locks_fit = kept.locks_fit;
      cells_fit = kept.cells_fit;
    })

    -- ---- a write

    module _ (g h : GrantOf) (v : Value) (more : NotesOf) (at : g ≡ get_or gs index g) (changed : h ≡ record g { values = set g.values offset v })
        (e : more ≡ with_note writes place cell v) where
      put : h ≡ record spot.grant { values = set spot.grant.values offset v }
      put = changed ∙ ap (λ (x : GrantOf). record x { values = set x.values offset v }) (item_is gs index spot.grant g spot.is at)

      set_to : set gs index h ≡ set gs index (record spot.grant { values = set spot.grant.values offset v })
      set_to = ap (λ (x : GrantOf). set gs index x) put

      same_locks : locks_of (set gs index h) ≡ locks_of gs
      same_locks = ap locks_of set_to ∙ locks_set gs index spot.grant (set spot.grant.values offset v) spot.is

      whole_still : IsWhole layout.cell_locks h
      whole_still =
          subst (IsWhole layout.cell_locks) (sym put)
          (length-set spot.grant.values offset v ∙ whole_at layout.cell_locks gs index spot.grant kept.whole spot.is)

      same_count : values_count (set gs index h) ≡ values_count gs
      same_count = ap values_count set_to ∙ count_set gs index spot.grant (set spot.grant.values offset v) spot.is (length-set spot.grant.values offset v)

      pub kept_stored : IsKept layout.cell_locks (set gs index h) reads more ls cs
      kept_stored = subst (λ (n : NotesOf). IsKept layout.cell_locks (set gs index h) reads n ls cs) (sym e) (record {
        whole = All-set (IsWhole layout.cell_locks) gs index h whole_still kept.whole;
        distinct = subst AreDistinct (sym same_locks) kept.distinct;
        reads_are = subst (λ (locks : List Lock). AreNotes (cells_under layout.cell_locks locks) reads) (sym same_locks) kept.reads_are;
        writes_are = subst (λ (locks : List Lock). AreNotes (cells_under layout.cell_locks locks) (with_note writes place cell v)) (sym same_locks)
            (noted_so (cells_under layout.cell_locks (locks_of gs)) writes kept.writes_are distinct place cell has_place (live writes kept.writes_room) v (marked writes kept.writes_are kept.writes_room));
        reads_room = kept.reads_room;
        writes_room = same_room writes place cell v ∙ kept.writes_room;
        locks_fit = omega (arith, length-set gs index h, kept.locks_fit);
        cells_fit = omega (arith, same_count, kept.cells_fit);
      })

      pub held_stored : (hs : List HeldLock) → AreHeld gs hs → AreHeld (set gs index h) hs
      held_stored hs are =
          subst (λ (x : List GrantOf). AreHeld x hs) (sym set_to)
          (held_set gs hs index spot.grant (set spot.grant.values offset v) are spot.is (length-set spot.grant.values offset v))

      pub stored : OffsetsChangeCells → IsStore old cell v true (holding_of layout (set gs index h) reads more ls cs)
      stored change =
          let before = get_some spot.grant.values offset spot.offset_fits in
          let held : HeldCells = (holding_of layout gs reads writes ls cs).memory in
          let noting : in_order more.list ≡ with_value held.writes cell v =
          ap (λ (n : NotesOf). in_order n.list) e
          ∙ noted_with (cells_under layout.cell_locks (locks_of gs)) writes kept.writes_are distinct place cell has_place (live writes kept.writes_room) v (marked writes kept.writes_are kept.writes_room) in
          let cells : cells_granted layout.cell_locks (set gs index h) ≡ with_changed held.cells cell v =
          ap (cells_granted layout.cell_locks) set_to
          ∙ granted_changed layout.cell_locks cell offset spot.grant spot.slot read change gs index before.0 v kept.whole kept.distinct spot.is before.1 in
          subst (λ (x : HoldingOf). IsStore x cell v true (holding_of layout (set gs index h) reads more ls cs)) was (
            ap (λ (o : Option Value). write_if_held held o cell v) (has_value before.0 before.1)
                ∙ ap (λ (xs : List (ℕ × Value)). Some (record held { cells = xs; writes = with_value held.writes cell v })) (sym cells)
                ∙ ap (λ (ws : List (ℕ × Value)). Some (record held { cells = cells_granted layout.cell_locks (set gs index h); writes = ws })) (sym noting),
            ap (λ (locks : List Lock). record (holding_of layout (set gs index h) reads more ls cs) { locks = locks }) same_locks,
          )

  -- ---- one more grant

  module _ (old : HoldingOf) (was : holding_of layout gs reads writes ls cs ≡ old) (g : GrantOf) (can : CanHold old g) where
    pub room_is : values_count gs + length g.values ≤ cs
    room_is =
        omega (arith, can.cells_fit, cells_long, ap (λ (h : HoldingOf). length h.memory.cells) was, ap (λ (h : HoldingOf). h.cell_room) was)

    new_lock : Contains (locks_of gs) g.lock → ⊥
    new_lock has = can.new (subst (λ (h : HoldingOf). Contains h.locks g.lock) was has)

    all_cells : IsWhole layout.cell_locks g
    all_cells = subst (λ (h : HoldingOf). IsWhole h.layout.cell_locks g) (sym was) can.whole

    under_more : cells_under layout.cell_locks (locks_of (gs ++ g ∷ [])) ≡ cells_under layout.cell_locks (locks_of gs) ++ cells_under layout.cell_locks (g.lock ∷ [])
    under_more = ap (cells_under layout.cell_locks) (locks_append gs (g ∷ [])) ∙ under_append layout.cell_locks (locks_of gs) (g.lock ∷ [])

    notes_more : (n : NotesOf) → AreNotes (cells_under layout.cell_locks (locks_of gs)) n →
        AreNotes (cells_under layout.cell_locks (locks_of (gs ++ g ∷ []))) n
    notes_more n are =
        subst (λ (xs : List ℕ). AreNotes xs n) (sym under_more)
        (with_cells (cells_under layout.cell_locks (locks_of gs)) n are (cells_under layout.cell_locks (g.lock ∷ [])))

    kept_granted : IsKept layout.cell_locks (gs ++ g ∷ []) reads writes ls cs
    kept_granted = record {
      whole = All-push (IsWhole layout.cell_locks) gs g kept.whole all_cells;
      distinct = subst AreDistinct (sym (locks_append gs (g ∷ []))) (distinct_push (locks_of gs) g.lock kept.distinct new_lock);
      reads_are = notes_more reads kept.reads_are;
      writes_are = notes_more writes kept.writes_are;
      reads_room = kept.reads_room;
      writes_room = kept.writes_room;
      locks_fit = omega (arith, length-append gs (g ∷ []), can.lock_fits, length_locks gs, ap (λ (h : HoldingOf). length h.locks) was, ap (λ (h : HoldingOf). h.lock_room) was);
      cells_fit = omega (arith, count_append gs (g ∷ []), room_is);
    }

    granted : holding_of layout (gs ++ g ∷ []) reads writes ls cs ≡ with_grant old g
    granted =
        (λ i. record {
          layout = layout;
          locks = locks_append gs (g ∷ []) i;
          memory = record {
            cells = cells i;
            reads = in_order reads.list;
            writes = in_order writes.list;
          };
          lock_room = ls;
          cell_room = cs;
        })
        ∙ ap (λ (h : HoldingOf). with_grant h g) was
      where
        cells : cells_granted layout.cell_locks (gs ++ g ∷ []) ≡ cells_granted layout.cell_locks gs ++ cells_in layout.cell_locks g
        cells =
            granted_append layout.cell_locks gs (g ∷ [])
            ∙ ap (λ (xs : List (ℕ × Value)). cells_granted layout.cell_locks gs ++ xs) (append_none (cells_in layout.cell_locks g))

    -- the invariant after the grant, for the list of grants that the code makes
    pub kept_after : (hs : List GrantOf) → hs ≡ gs ++ g ∷ [] → IsKept layout.cell_locks hs reads writes ls cs
    kept_after hs e = subst (λ (x : List GrantOf). IsKept layout.cell_locks x reads writes ls cs) (sym e) kept_granted

    pub granted_after : (hs : List GrantOf) → hs ≡ gs ++ g ∷ [] →
        holding_of layout hs reads writes ls cs ≡ with_grant old g
    granted_after hs e = ap (λ (x : List GrantOf). holding_of layout x reads writes ls cs) e ∙ granted
