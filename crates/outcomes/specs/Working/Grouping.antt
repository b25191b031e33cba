-- The groups of threads, by the cells that the threads have marked.
use Rattle.std.specs.Prelude.{◌≡◌, ◌<◌, ◌||◌, ◌==◌, ℕ, Bool, true, List, length, slice_index, if◌then◌else◌}
use Rattle.bit_set.specs.declared.set.BitSet.{BitSet}
use Rattle.bit_set.specs.Working.Sets.{has_number}
use Rattle.core_lang.specs.declared.typed.Cell.{Cell}
use Rattle.outcomes.specs.declared.touched.Touched.{Touched}
use Rattle.outcomes.specs.Working.Marking.{marked}

-- a group, after one group was joined to another
abbrev pub relabelled : ℕ → ℕ → ℕ → ℕ
relabelled from to group = if group == from then to else group

abbrev pub IsRelabelled : ℕ → ℕ → List ℕ → List ℕ → Type 0
IsRelabelled from to groups groups' =
    (length groups' ≡ length groups) ×
    ((t : ℕ) → t < length groups → slice_index groups' t ≡ relabelled from to (slice_index groups t))

abbrev pub AreTogether : List ℕ → ℕ → ℕ → Type 0
AreTogether groups t u = slice_index groups t ≡ slice_index groups u

-- the number of threads is the same, and threads of one group stay in one group
abbrev pub IsCoarser : List ℕ → List ℕ → Type 0
IsCoarser groups groups' =
    (length groups' ≡ length groups) ×
    ((t u : ℕ) → t < length groups → u < length groups → AreTogether groups t u → AreTogether groups' t u)

-- each thread that writes is in one group with each that reads or writes
abbrev pub AreJoined : List ℕ → BitSet → BitSet → Type 0
AreJoined groups readers writers =
    (t u : ℕ) → t < length groups → u < length groups → has_number writers t ≡ true →
    (has_number readers u || has_number writers u) ≡ true → AreTogether groups t u

-- threads of one group have one label
abbrev pub IsFiner : List ℕ → (ℕ → ℕ) → Type 0
IsFiner groups label =
    (t u : ℕ) → t < length groups → u < length groups → AreTogether groups t u → label t ≡ label u

-- each thread that writes has one label with each that reads or writes
abbrev pub IsShared : (ℕ → ℕ) → (ℕ → Bool) → (ℕ → Bool) → Type 0
IsShared label reads writes =
    (t u : ℕ) → writes t ≡ true → (reads u || writes u) ≡ true → label t ≡ label u

-- only threads that are linked so were joined: each labelling that is one for these threads, and in which threads of one
-- group had one label, is one in which they have one label
abbrev pub AreLinked : List ℕ → List ℕ → BitSet → BitSet → Type 0
AreLinked groups groups' readers writers =
    (label : ℕ → ℕ) → IsFiner groups label → IsShared label (has_number readers) (has_number writers) → IsFiner groups' label

-- the threads are joined for each cell below the given number
abbrev pub AreGrouped : List Cell → Touched → List ℕ → ℕ → Type 0
AreGrouped cells touched groups count =
    (c t u : ℕ) → c < count → t < length groups → u < length groups →
    marked cells touched.writes t c ≡ true →
    (marked cells touched.reads u c || marked cells touched.writes u c) ≡ true → AreTogether groups t u

-- each thread has a group, and the threads are joined for all cells
abbrev pub AreGroups : List Cell → Touched → ℕ → List ℕ → Type 0
AreGroups cells touched threads groups = (length groups ≡ threads) × AreGrouped cells touched groups (length cells)

-- the groups are the finest ones: if each two threads of which one writes a cell that the other reads or writes have one
-- label, then so have all threads of one group. A group is hence a chain of such threads
abbrev pub AreFinest : List Cell → Touched → List ℕ → ℕ → Type 0
AreFinest cells touched groups count =
    (label : ℕ → ℕ) →
    ((c : ℕ) → c < count → IsShared label (λ t. marked cells touched.reads t c) (λ t. marked cells touched.writes t c)) →
    IsFiner groups label

-- one group for all threads
abbrev pub AreOneGroup : ℕ → List ℕ → Type 0
AreOneGroup threads groups = (length groups ≡ threads) × ((thread : ℕ) → slice_index groups thread ≡ 0)
