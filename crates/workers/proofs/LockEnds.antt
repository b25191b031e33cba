-- The length of the log when each lock was last released, and the consequences for the cells of locks that have not
-- been released since.
use Rattle.std.proofs.Common.{◌≡◌, ◌<◌, ◌≤◌, ◌+◌, ◌-◌, ℕ, zero, suc, Bool, true, false, List, [], ◌∷◌, ◌++◌, length, drop, take}
use Rattle.std.proofs.Common.{Some, refl, sym, ap, ◌∙◌, subst, arith, inl, inr, get_or, set, slice_index_or, ◌⊎◌}
use Rattle.std.specs.Prelude.{slice_get}
use Rattle.std.specs.List.{All, Contains}
use lib.Dec.{leb}
use Rattle.std.proofs.lemmas.Bool.{cases_eq}
use Rattle.std.proofs.lemmas.Bool.Decides.{nat_tests}
use Rattle.std.proofs.lemmas.List.{drop-drop, drop_at, drop-append-le, drop_all, length_push, get_or-set_same, get_or-set_other, take_more}
use Rattle.std.proofs.lemmas.List.{append-nil, length-append}
use Rattle.std.proofs.lemmas.List.Elements.{Contains-append_cases}
use Rattle.core_lang.specs.declared.value.Value.{Value}
use Rattle.core_lang.specs.Theory.Items.{all_contained, contains_at, one_contained, some_same}
use Rattle.locks.specs.declared.lock.Lock.{Lock}
use Rattle.locks.specs.Locks.{among}
use Rattle.locks.specs.Theory.Order.{among_contains, contains_among}
use Rattle.layout.specs.Layouts.{LayoutOf, AreDistinct}
use Rattle.history.specs.Commits.{Commit, committed, IsLegal, NoneWrites, WritesNot}
use Rattle.history.specs.Working.Laws.{Commuting, CommittedKeepsSize}
use Rattle.lock_manager.specs.Manager.{Managed}
use Rattle.lock_manager.specs.Working.Managers.{IsKept}
use Rattle.lock_manager.specs.Working.Calls.{IsOwnWrite}
use Rattle.lowering.specs.Plans.{Plan}
use Rattle.workers.specs.Logs.{Begins}
use Rattle.workers.specs.Working.Guarding.{IsManagerOf}
use Rattle.workers.specs.Working.LockEnds.{LockEndsOf, IsBefore, AreGivenBack, AreEndsOf, AreAsSeen}

-- ---- parts of a log that don't write a cell

none_drop : (cell k : ℕ) (log : List Commit) → NoneWrites cell log → NoneWrites cell (drop k log)
none_drop cell zero log none = none
none_drop cell (suc k) [] none = tt
none_drop cell (suc k) (c ∷ log) none = none_drop cell k log none.1

none_later : (cell a b : ℕ) (log : List Commit) → a ≤ b → NoneWrites cell (drop a log) → NoneWrites cell (drop b log)
none_later cell a b log le none =
    let further : drop (b - a) (drop a log) ≡ drop b log = drop-drop (b - a) a log ∙ ap (λ (n : ℕ). drop n log) (omega (arith, le)) in
    subst (NoneWrites cell) further (none_drop cell (b - a) (drop a log) none)

none_push : (cell : ℕ) (log : List Commit) (e : Commit) → NoneWrites cell log → WritesNot cell e.writes → NoneWrites cell (log ++ e ∷ [])
none_push cell [] e none spared = (spared, tt)
none_push cell (c ∷ log) e none spared = (none.0, none_push cell log e none.1 spared)

-- one more entry that does not write the cell
none_more : (cell a : ℕ) (log : List Commit) (e : Commit) → WritesNot cell e.writes → NoneWrites cell (drop a log) → (b : Bool) →
    leb a (length log) ≡ b → NoneWrites cell (drop a (log ++ e ∷ []))
none_more cell a log e spared none true is =
    let le : a ≤ length log = grind (arith, nat_tests) in
    subst (NoneWrites cell) (sym (drop-append-le a log (e ∷ []) le)) (none_push cell (drop a log) e none spared)
none_more cell a log e spared none false is =
    let gt : length log < a = grind (arith, nat_tests) in
    let over : drop a (log ++ e ∷ []) ≡ [] = drop_all a (log ++ e ∷ []) (omega (arith, length_push log e, gt)) in
    subst (NoneWrites cell) (sym over) tt

-- no entry follows the whole log
none_at_end : (cell a : ℕ) (log : List Commit) → length log ≤ a → NoneWrites cell (drop a log)
none_at_end cell a log le = subst (NoneWrites cell) (sym (drop_all a log le)) tt

-- ---- a log without entries

pub no_entries : (cell k : ℕ) → NoneWrites cell (drop {A = Commit} k [])
no_entries cell k = none_at_end cell k [] (omega arith)

-- ---- locks that are released

set_at : (ends : List ℕ) (number n long : ℕ) → number < length ends →
    ((n ≡ number) × (get_or (set ends number long) n 0 ≡ long)) ⊎ (get_or (set ends number long) n 0 ≡ get_or ends n 0)
set_at ends number n long within = elim (cases_eq n number) [
  | inl same ↦ inl (same, ap (λ (k : ℕ). get_or (set ends number long) k 0) same ∙ get_or-set_same ends number long 0 within)
  | inr other ↦ inr (get_or-set_other ends number n long 0 other)
]

pub none_given : (e : LockEndsOf) (long : ℕ) → AreGivenBack e [] long e
none_given e long = record {
  layout = refl;
  given = λ n lock at c. absurd (omega (arith, c.1));
  others = λ n. inr refl;
}

-- releasing a lock that the layout does not have changes nothing
pub not_given : (e : LockEndsOf) (lock : Lock) (long : ℕ) → (Contains e.layout.locks lock → ⊥) → AreGivenBack e (lock ∷ []) long e
not_given e lock long away = record {
  layout = refl;
  given = λ n other at c. absurd (away (subst (Contains e.layout.locks) (sym (one_contained lock other c)) (contains_at e.layout.locks n other at)));
  others = λ n. inr refl;
}

pub one_given : (e : LockEndsOf) (lock : Lock) (long number : ℕ) → AreDistinct e.layout.locks → slice_get e.layout.locks number ≡ Some lock →
    number < length e.ends → AreGivenBack e (lock ∷ []) long (record e { ends = set e.ends number long })
one_given e lock long number distinct here within = record {
  layout = refl;
  given = λ n other at c. (
      let is : n ≡ number = distinct n number other at (here ∙ ap Some (one_contained lock other c)) in
      ap (λ (k : ℕ). get_or (set e.ends number long) k 0) is ∙ get_or-set_same e.ends number long 0 within);
  others = λ n. elim (set_at e.ends number n long within) [ inl now ↦ inl now.1 | inr kept ↦ inr kept ];
}

-- some locks are released, and then others
both_given : (e e1 e2 : LockEndsOf) (done more : List Lock) (long : ℕ) → AreGivenBack e done long e1 → AreGivenBack e1 more long e2 →
    AreGivenBack e (done ++ more) long e2
both_given e e1 e2 done more long first then = record {
  layout = then.layout ∙ first.layout;
  given = λ n lock at c. elim (Contains-append_cases done more lock c) [
    | inl before ↦ elim (then.others n) [
      | inl now ↦ now
      | inr kept ↦ kept ∙ first.given n lock at before
    ]
    | inr now ↦ then.given n lock (ap (λ (l : LayoutOf). slice_get l.locks n) first.layout ∙ at) now
  ];
  others = λ n. elim (then.others n) [
    | inl now ↦ inl now
    | inr kept ↦ elim (first.others n) [
      | inl old ↦ inl (kept ∙ old)
      | inr old ↦ inr (kept ∙ old)
    ]
  ];
}

pub more_given : (e e1 e2 : LockEndsOf) (locks : List Lock) (k long : ℕ) (d : Lock) → k < length locks →
    AreGivenBack e (take k locks) long e1 → AreGivenBack e1 (get_or locks k d ∷ []) long e2 → AreGivenBack e (take (k + 1) locks) long e2
more_given e e1 e2 locks k long d lt first then =
    subst (λ (ls : List Lock). AreGivenBack e ls long e2) (sym (take_more locks k d lt)) (both_given e e1 e2 (take k locks) (get_or locks k d ∷ []) long first then)

-- ---- one more entry

-- an entry that writes only cells of its locks does not write a cell of another lock
spares : (cell_locks held : List Lock) (cell : ℕ) (lock : Lock) (ws : List (ℕ × Value)) → slice_get cell_locks cell ≡ Some lock →
    (Contains held lock → ⊥) → ((k : ℕ) (d : ℕ × Value) → k < length ws → IsOwnWrite cell_locks held (get_or ws k d)) → WritesNot cell ws
spares cell_locks held cell lock [] at away own = tt
spares cell_locks held cell lock (w ∷ ws) at away own = (
  λ same.
      let o = own 0 w (omega arith) in
      let is : o.lock ≡ lock = some_same o.lock lock (sym o.lock_is ∙ ap (slice_get cell_locks) same ∙ at) in
      away (subst (Contains held) is o.is_held),
  spares cell_locks held cell lock ws at away (λ k d lt. own (suc k) d (omega (arith, lt))),
)

module _ (e e' : LockEndsOf) (log : List Commit) (entry : Commit) (held : List Lock) (long : ℕ) (ends : AreEndsOf e log)
    (given : AreGivenBack e held long e') (is : long ≡ length (log ++ entry ∷ [])) (own : All (IsOwnWrite e.layout.cell_locks held) entry.writes)
  where
    at_end : (n cell : ℕ) → slice_index_or e'.ends n 0 ≡ long → NoneWrites cell (drop (slice_index_or e'.ends n 0) (log ++ entry ∷ []))
    at_end n cell same = none_at_end cell (slice_index_or e'.ends n 0) (log ++ entry ∷ []) (omega (arith, same, is))

    spared_by : (n cell : ℕ) (lock : Lock) → slice_get e.layout.locks n ≡ Some lock → slice_get e.layout.cell_locks cell ≡ Some lock →
        (b : Bool) → among held lock ≡ b → NoneWrites cell (drop (slice_index_or e'.ends n 0) (log ++ entry ∷ []))
    spared_by n cell lock at there true holds = at_end n cell (given.given n lock at (among_contains held lock holds))
    spared_by n cell lock at there false away = elim (given.others n) [
      | inl same ↦ at_end n cell same
      | inr kept ↦ (
          let not_held : Contains held lock → ⊥ = λ c. (let bad : true ≡ false = sym (contains_among held lock c) ∙ away in cc) in
          let a = slice_index_or e.ends n 0 in
          subst (λ (k : ℕ). NoneWrites cell (drop k (log ++ entry ∷ []))) (sym kept)
          (none_more cell a log entry (spares e.layout.cell_locks held cell lock entry.writes there not_held own) (ends n cell lock at there) (leb a (length log)) refl))
    ]

    pub ends_after : AreEndsOf e' (log ++ entry ∷ [])
    ends_after n cell lock at there =
        let here = ap (λ (l : LayoutOf). slice_get l.locks n) (sym given.layout) ∙ at in
        let cells = ap (λ (l : LayoutOf). slice_get l.cell_locks cell) (sym given.layout) ∙ there in
        spared_by n cell lock here cells (among held lock) refl

-- ---- cells that stay as they were seen

module _ (plan : Plan) (e : LockEndsOf) (seen log : List Commit) (floor : ℕ) (commuting : Commuting) (layout : e.layout ≡ plan.layout)
    (legal : IsLegal plan.layout.opening log) (ends : AreEndsOf e log) (begins : Begins seen log) (long : floor ≡ length seen)
  where
    same_cell : (cell : ℕ) (lock : Lock) → IsBefore e floor lock → slice_get plan.layout.cell_locks cell ≡ Some lock →
        slice_get (committed plan.layout.opening log) cell ≡ slice_get (committed plan.layout.opening seen) cell
    same_cell cell lock b at =
        let opening = plan.layout.opening in
        let rest = begins.rest in
        let there = ap (λ (l : LayoutOf). slice_get l.cell_locks cell) layout ∙ at in
        let behind : drop floor log ≡ rest = ap (drop floor) begins.is ∙ drop_at seen rest floor (sym long) in
        let none : NoneWrites cell rest =
        subst (NoneWrites cell) behind (none_later cell (slice_index_or e.ends b.number 0) floor log b.before (ends b.number cell lock b.at there)) in
        ap (λ (l : List Commit). slice_get (committed opening l) cell) begins.is
        ∙ commuting opening seen rest cell (subst (IsLegal opening) begins.is legal) none

    pub as_seen : CommittedKeepsSize → (locks : List Lock) → All (IsBefore e floor) locks → AreAsSeen plan locks seen log
    as_seen size locks all = record {
      long = size plan.layout.opening log ∙ sym (size plan.layout.opening seen);
      cells = λ cell lock at c. same_cell cell lock (all_contained (IsBefore e floor) locks lock all c) at;
    }

-- no entry was added since
no_rest : (rest : List Commit) → length rest ≤ 0 → rest ≡ []
no_rest [] le = refl
no_rest (c ∷ rest) le = absurd (omega (arith, le))

pub as_it_was : (plan : Plan) (locks : List Lock) (seen log : List Commit) → Begins seen log → length seen ≡ length log →
    AreAsSeen plan locks seen log
as_it_was plan locks seen log begins long =
    let none : begins.rest ≡ [] = no_rest begins.rest (omega (arith, long, ap length begins.is, length-append seen begins.rest)) in
    let same : log ≡ seen = begins.is ∙ ap (λ (r : List Commit). seen ++ r) none ∙ append-nil seen in
    record {
      long = ap (λ (l : List Commit). length (committed plan.layout.opening l)) same;
      cells = λ cell lock at c. ap (λ (l : List Commit). slice_get (committed plan.layout.opening l) cell) same;
    }

-- ---- the claims, by the state under the Mutex

module _ (plan : Plan) (m : Managed) (of : IsManagerOf plan m) (kept : IsKept m) (seen log : List Commit) (is : log ≡ m.history)
    (begins : Begins seen log) (floor : ℕ) (long : floor ≡ length seen) (locks : List Lock)
  where
    pub seen_whole : (whole : ℕ) → whole ≡ length log → floor ≡ whole → AreAsSeen plan locks seen m.history
    seen_whole whole all same =
        as_it_was plan locks seen m.history (subst (Begins seen) is begins)
        (sym long ∙ same ∙ all ∙ ap (λ (l : List Commit). length l) is)

    pub seen_so : Commuting → CommittedKeepsSize → (e : LockEndsOf) → e.layout ≡ plan.layout → AreEndsOf e m.history →
        All (IsBefore e floor) locks → AreAsSeen plan locks seen m.history
    seen_so commuting size e layout ends all =
        as_seen plan e seen m.history floor commuting layout (subst (λ (l : LayoutOf). IsLegal l.opening m.history) of.layout kept.legal) ends
        (subst (Begins seen) is begins) long size locks all

-- the log gets an entry of a section whose locks are released
pub ends_entered : (plan : Plan) (m m' : Managed) (e e' : LockEndsOf) (entry : Commit) (locks : List Lock) (count : ℕ) → IsManagerOf plan m →
    e.layout ≡ plan.layout → AreEndsOf e m.history → AreGivenBack e locks count e' → count ≡ length m'.history →
    m'.history ≡ m.history ++ entry ∷ [] → All (IsOwnWrite m.layout.cell_locks locks) entry.writes → AreEndsOf e' m'.history
ends_entered plan m m' e e' entry locks count of layout ends given counted history own =
    let cells : m.layout.cell_locks ≡ e.layout.cell_locks = ap (λ (l : LayoutOf). l.cell_locks) (of.layout ∙ sym layout) in
    subst (AreEndsOf e') (sym history)
    (ends_after e e' m.history entry locks count ends given (counted ∙ ap (λ (l : List Commit). length l) history)
    (subst (λ (cl : List Lock). All (IsOwnWrite cl locks) entry.writes) cells own))
