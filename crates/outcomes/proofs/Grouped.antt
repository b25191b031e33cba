-- Groups that are joined, one after another.
use Rattle.std.proofs.Common.{◌≡◌, ◌≢◌, ◌<◌, ◌≤◌, ◌+◌, ℕ, zero, suc, Bool, true, false, List, [], ◌∷◌, ◌++◌, refl, sym}
use Rattle.std.proofs.Common.{ap, ◌∙◌, subst, ⊎_elim, take, length, get_or, arith, if◌then◌else◌, ◌==◌, ◌||◌, ◌⊎◌, inl, inr, Option}
use Rattle.bit_set.specs.declared.set.BitSet.{BitSet}
use Rattle.bit_set.specs.Working.Sets.{has_number}
use Rattle.std.specs.Prelude.{slice_index, slice_set}
use Rattle.std.proofs.lemmas.Bool.{cases_lt}
use Rattle.std.proofs.lemmas.Bool.Decides.{nat_tests}
use Rattle.std.proofs.lemmas.List.{take_more}
use Rattle.std.proofs.lemmas.Option.{slice_get-get_or}
use Rattle.core_lang.specs.declared.tree.Section.{Section}
use Rattle.outcomes.specs.declared.accesses.AccessWalk.{AccessWalk}
use Rattle.outcomes.specs.Working.Grouping.{relabelled, IsRelabelled, AreTogether, IsCoarser, IsFiner, AreLinked, AreJoined}
use Rattle.outcomes.specs.Working.Grouping.{AreGrouped, AreFinest}
use Rattle.outcomes.specs.Working.Marking.{marked, mark_at, has_mark, array_mark}
use Rattle.outcomes.specs.declared.marks.TouchMarks.{TouchMarks}
use Rattle.outcomes.specs.declared.touched.Touched.{Touched}
use Rattle.core_lang.specs.declared.typed.Cell.{Cell}
use Rattle.outcomes.specs.Working.Listing.{IsListed, AreListed}

-- an item of a list does not depend on the default for indices past the end
pub any_default : {A : Type 0} (xs : List A) (i : ℕ) (d e : A) → i < length xs → get_or xs i d ≡ get_or xs i e
any_default [] i d e lt = absurd (omega (arith, lt))
any_default (x ∷ xs) zero d e lt = refl
any_default (x ∷ xs) (suc i) d e lt = any_default xs i d e (omega (arith, lt))

pub set_here : (xs : List ℕ) (i v : ℕ) → i < length xs → slice_index (slice_set xs i v) i ≡ v
set_here [] i v lt = absurd (omega (arith, lt))
set_here (x ∷ xs) zero v lt = refl
set_here (x ∷ xs) (suc i) v lt = set_here xs i v (omega (arith, lt))

pub set_elsewhere : (xs : List ℕ) (i j v : ℕ) → i ≢ j → slice_index (slice_set xs i v) j ≡ slice_index xs j
set_elsewhere [] i j v ne = refl
set_elsewhere (x ∷ xs) zero zero v ne = absurd (ne refl)
set_elsewhere (x ∷ xs) zero (suc j) v ne = refl
set_elsewhere (x ∷ xs) (suc i) zero v ne = refl
set_elsewhere (x ∷ xs) (suc i) (suc j) v ne = set_elsewhere xs i j v (λ e. ne (ap suc e))

relabelled_from : (from to : ℕ) → relabelled from to from ≡ to
relabelled_from from to =
    let e : (from == from) ≡ true = grind (arith, nat_tests) in ap (λ b. if b then to else from) e

same_if : (from to group : ℕ) (b : Bool) → from ≡ to → (group == from) ≡ b → (if b then to else group) ≡ group
same_if from to group true e is = let same : group ≡ from = grind (arith, nat_tests) in sym e ∙ sym same
same_if from to group false e is = refl

relabelled_same : (from to group : ℕ) → from ≡ to → relabelled from to group ≡ group
relabelled_same from to group e = same_if from to group (group == from) e refl

choose_same : (b : Bool) (to : ℕ) → (if b then to else to) ≡ to
choose_same true to = refl
choose_same false to = refl

-- joining a group with itself changes nothing
pub relabelled_alike : (groups : List ℕ) (from to : ℕ) → from ≡ to → IsRelabelled from to groups groups
relabelled_alike groups from to e = (refl, λ t lt. sym (relabelled_same from to (slice_index groups t) e))

-- the group of one thread is joined with the first one
module _ (before now next : List ℕ) (i first from to : ℕ) (touching : ℕ → Bool) (lt : i < length now)
    (lt' : first < length now)
    (is_from : from ≡ get_or now i from) (is_to : to ≡ get_or now first to) (coarser : IsCoarser before now)
    (joined : (u : ℕ) → u < i → touching u ≡ true → AreTogether now u first) (new : IsRelabelled from to now next) where
  from_is : slice_index now i ≡ from
  from_is = any_default now i 0 from lt ∙ sym is_from

  to_is : slice_index now first ≡ to
  to_is = any_default now first 0 to lt' ∙ sym is_to

  stays : (t u : ℕ) → t < length now → u < length now → AreTogether now t u → AreTogether next t u
  stays t u lt_t lt_u e = new.1 t lt_t ∙ ap (relabelled from to) e ∙ sym (new.1 u lt_u)

  pub coarser_then : IsCoarser before next
  coarser_then = (
    new.0 ∙ coarser.0,
    λ t u lt_t lt_u e.
        stays t u (omega (arith, lt_t, coarser.0)) (omega (arith, lt_u, coarser.0)) (coarser.1 t u lt_t lt_u e),
  )

  here : AreTogether next i first
  here =
      new.1 i lt ∙ ap (relabelled from to) from_is ∙ relabelled_from from to ∙ sym (choose_same (to == from) to)
      ∙ sym (ap (relabelled from to) to_is) ∙ sym (new.1 first lt')

  pub joined_then : (u : ℕ) → u < i + 1 → touching u ≡ true → AreTogether next u first
  joined_then u before_u is =
      ⊎_elim (λ (le : u < i). stays u first (omega (arith, le, lt)) lt' (joined u le is))
      (λ (le : i ≤ u). let same : u ≡ i = omega (arith, le, before_u) in
      subst (λ v. AreTogether next v first) (sym same) here)
      (cases_lt u i)

-- a thread that does not touch the cell
pub joined_else : (now : List ℕ) (i first : ℕ) (touching : ℕ → Bool) → touching i ≡ false →
    ((u : ℕ) → u < i → touching u ≡ true → AreTogether now u first) → (u : ℕ) → u < i + 1 → touching u ≡ true →
    AreTogether now u first
joined_else now i first touching none joined u before_u is =
    ⊎_elim (λ (le : u < i). joined u le is)
    (λ (le : i ≤ u).
    let same : u ≡ i = omega (arith, le, before_u) in
    let wrong : false ≡ true = sym none ∙ ap touching (sym same) ∙ is in
    let no : ⊥ = cc in absurd no)
    (cases_lt u i)

pub listed_behind : (bodies : List AccessWalk) (sections : List Section) (body : AccessWalk) (section : Section) →
    AreListed bodies sections →
    IsListed body section → AreListed (bodies ++ body ∷ []) (sections ++ section ∷ [])
listed_behind [] [] body section are is = (is, tt)
listed_behind [] (s ∷ ss) body section are is = absurd are
listed_behind (b ∷ bs) [] body section are is = absurd are
listed_behind (b ∷ bs) (s ∷ ss) body section are is = (are.0, listed_behind bs ss body section are.1 is)

pub listed_turn : (bodies bodies' : List AccessWalk) (sections : List Section) (i : ℕ) (body : AccessWalk) (section : Section) →
    i < length sections →
    section ≡ get_or sections i section → bodies' ≡ bodies ++ body ∷ [] → AreListed bodies (take i sections) →
    IsListed body section →
    AreListed bodies' (take (i + 1) sections)
listed_turn bodies bodies' sections i body section lt is pushed are one =
    let all = listed_behind bodies (take i sections) body section are one in
    let split : take i sections ++ section ∷ [] ≡ take (i + 1) sections =
    ap (λ s. take i sections ++ s ∷ []) is ∙ sym (take_more sections i section lt) in
    subst (λ l. AreListed l (take (i + 1) sections)) (sym pushed) (subst (AreListed (bodies ++ body ∷ [])) split all)

-- the invariant: the groups of the threads so far that touch a cell are joined
pub record Joining (before now : List ℕ) (i first : ℕ) (touching : ℕ → Bool) : Type 0 where
  pub coarser : IsCoarser before now
  pub joined : (u : ℕ) → u < i → touching u ≡ true → AreTogether now u first

pub joining_then : (before now next : List ℕ) (i first from to : ℕ) (touching : ℕ → Bool) → i < length now →
    first < length now →
    from ≡ get_or now i from → to ≡ get_or now first to → Joining before now i first touching →
    IsRelabelled from to now next →
    Joining before next (i + 1) first touching
joining_then before now next i first from to touching lt lt' is_from is_to inv new = record {
  coarser = coarser_then before now next i first from to touching lt lt' is_from is_to inv.coarser inv.joined new;
  joined = joined_then before now next i first from to touching lt lt' is_from is_to inv.coarser inv.joined new;
}

pub joining_else : (before now : List ℕ) (i first : ℕ) (touching : ℕ → Bool) → touching i ≡ false →
    Joining before now i first touching →
    Joining before now (i + 1) first touching
joining_else before now i first touching none inv =
    record { coarser = inv.coarser; joined = joined_else now i first touching none inv.joined }

-- ---- no more is joined than is linked

relabelled_case : (from to group : ℕ) (b : Bool) → (group == from) ≡ b →
    ((group ≡ from) × ((if b then to else group) ≡ to)) ⊎ ((if b then to else group) ≡ group)
relabelled_case from to group true e = let same : group ≡ from = grind (arith, nat_tests) in inl (same, refl)
relabelled_case from to group false e = inr refl

module _ (now next : List ℕ) (i first from to : ℕ) (label : ℕ → ℕ) (lt : i < length now) (lt' : first < length now)
    (is_from : slice_index now i ≡ from) (is_to : slice_index now first ≡ to) (meet : label i ≡ label first) (finer : IsFiner now label)
    (new : IsRelabelled from to now next) where
  -- a thread of the group that is moved, and one of the group to which it is moved
  moved_to : (t u : ℕ) → t < length now → u < length now → slice_index now t ≡ from → slice_index now u ≡ to → label t ≡ label u
  moved_to t u lt_t lt_u first_is second_is =
      finer t i lt_t lt (first_is ∙ sym is_from) ∙ meet ∙ finer first u lt' lt_u (is_to ∙ sym second_is)

  pub finer_then : IsFiner next label
  finer_then t u lt_t lt_u same =
      let in_t : t < length now = omega (arith, lt_t, new.0) in
      let in_u : u < length now = omega (arith, lt_u, new.0) in
      let e : relabelled from to (slice_index now t) ≡ relabelled from to (slice_index now u) =
      sym (new.1 t in_t) ∙ same ∙ new.1 u in_u in
      elim (relabelled_case from to (slice_index now t) (slice_index now t == from) refl) [
        | inl moved_t ↦ (elim (relabelled_case from to (slice_index now u) (slice_index now u == from) refl) [
          | inl moved_u ↦ finer t u in_t in_u (moved_t.0 ∙ sym moved_u.0)
          | inr still_u ↦ moved_to t u in_t in_u moved_t.0 (sym still_u ∙ sym e ∙ moved_t.1)
        ])
        | inr still_t ↦ (elim (relabelled_case from to (slice_index now u) (slice_index now u == from) refl) [
          | inl moved_u ↦ sym (moved_to u t in_u in_t moved_u.0 (sym still_t ∙ e ∙ moved_u.1))
          | inr still_u ↦ finer t u in_t in_u (sym still_t ∙ e ∙ still_u)
        ])
      ]

pub linked_then : (before now next : List ℕ) (i first from to : ℕ) (readers writers : BitSet) → i < length now → first < length now →
    from ≡ get_or now i from → to ≡ get_or now first to → has_number writers first ≡ true →
    (has_number readers i || has_number writers i) ≡ true → AreLinked before now readers writers →
    IsRelabelled from to now next → AreLinked before next readers writers
linked_then before now next i first from to readers writers lt lt' is_from is_to writes touches linked new label finer shared =
    finer_then now next i first from to label lt lt' (any_default now i 0 from lt ∙ sym is_from) (any_default now first 0 to lt' ∙ sym is_to)
    (sym (shared first i writes touches)) (linked label finer shared) new

-- one more cell
pub finest_then : (cells : List Cell) (touched : Touched) (now next : List ℕ) (n : ℕ) (readers writers : BitSet) →
    ((t : ℕ) → has_number readers t ≡ marked cells touched.reads t n) → ((t : ℕ) → has_number writers t ≡ marked cells touched.writes t n) →
    AreFinest cells touched now n → AreLinked now next readers writers → AreFinest cells touched next (n + 1)
finest_then cells touched now next n readers writers readers_are writers_are finest linked label shared =
    linked label (finest label (λ c below. shared c (omega (arith, below))))
    (λ t u writes touches. shared n (omega arith) t u (sym (writers_are t) ∙ writes)
    (subst (λ (b : Bool). (b || marked cells touched.writes u n) ≡ true) (readers_are u)
    (subst (λ (b : Bool). (has_number readers u || b) ≡ true) (writers_are u) touches)))

pub grouped_then : (cells : List Cell) (touched : Touched) (now next : List ℕ) (n : ℕ) (readers writers : BitSet) →
    ((t : ℕ) → has_number readers t ≡ marked cells touched.reads t n) → ((t : ℕ) → has_number writers t ≡ marked cells touched.writes t n) →
    AreGrouped cells touched now n → IsCoarser now next → AreJoined next readers writers → AreGrouped cells touched next (n + 1)
grouped_then cells touched now next n readers writers readers_are writers_are grouped coarser joined c t u below lt_t lt_u writes touches =
    ⊎_elim
    (λ (le : c < n). coarser.1 t u (omega (arith, lt_t, coarser.0)) (omega (arith, lt_u, coarser.0))
    (grouped c t u le (omega (arith, lt_t, coarser.0)) (omega (arith, lt_u, coarser.0)) writes touches))
    (λ (le : n ≤ c). let same : c ≡ n = omega (arith, le, below) in
    joined t u lt_t lt_u (writers_are t ∙ subst (λ (k : ℕ). marked cells touched.writes t k ≡ true) same writes)
    (subst (λ (b : Bool). (b || has_number writers u) ≡ true) (sym (readers_are u))
    (subst (λ (b : Bool). (marked cells touched.reads u n || b) ≡ true) (sym (writers_are u))
    (subst (λ (k : ℕ). (marked cells touched.reads u k || marked cells touched.writes u k) ≡ true) same touches))))
    (cases_lt c n)

pub mark_is : (cells : List Cell) (marks : TouchMarks) (number thread : ℕ) (d : Cell) → number < length cells →
    mark_at marks number (get_or cells number d).owner thread ≡ marked cells marks thread number
mark_is cells marks number thread d within =
    ap (λ (o : Option Cell). has_mark marks.cells.items number thread || array_mark o marks.arrays.items thread)
    (sym (slice_get-get_or cells number d within))
