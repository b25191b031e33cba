-- The hash table of states. Nobody has to believe this file.
use Rattle.std.specs.Prelude.{◌≡◌, ℕ, suc, ◌<◌, List, length, map, slice_get, Option, Some, None, nat_eq}
use Rattle.std.specs.HashMap.{HashMap, get}
use Rattle.std.specs.declared.hash.FoldHasher.{FoldHasher}
use Rattle.std.specs.declared.hash.BuildHasherDefault.{BuildHasherDefault}
use Rattle.core_lang.specs.declared.value.Value.{Value}
use Rattle.outcomes.specs.Ends.{Left}
use Rattle.outcomes.specs.declared.layer.Entry.{Entry}
use Rattle.outcomes.specs.Working.Changes.{AreChanges}
use Rattle.outcomes.specs.Working.Hashes.{hash_left}
use Rattle.outcomes.specs.declared.layer.Place.{Place}
use Rattle.outcomes.specs.declared.layer.Place.TheVariants.{Found, Free}
use Rattle.outcomes.specs.Working.States.{Layered, Reached, IsAlike, NoneIsAlike, at, entry_state, orders_to}

-- the hash of an entry, by a hasher with the keys and the values of the cells before any call
abbrev pub hash_of : FoldHasher → List Value → Entry → ℕ
hash_of start opening e = hash_left start opening e.state.done.items (entry_state opening e).left

-- the entry at this index has the hash
abbrev pub HasHash : FoldHasher → List Value → List Entry → ℕ → ℕ → Type 0
HasHash start opening entries h k = (e : Entry) × (slice_get entries k ≡ Some e) × (hash_of start opening e ≡ h)

-- the last of the first n entries that has the hash, if any has
abbrev pub IsLast : FoldHasher → List Value → List Entry → ℕ → ℕ → Option ℕ → Type 0
IsLast start opening entries h n None = (k : ℕ) → k < n → ¬ (HasHash start opening entries h k)
IsLast start opening entries h n (Some last) =
    (last < n) × HasHash start opening entries h last × ((k : ℕ) → last < k → k < n → ¬ (HasHash start opening entries h k))

-- each hash leads to the last entry that has it, and each entry to the last one before it with the same hash. The total
-- is the number of orders that lead to the states together
pub record IsTable (start : FoldHasher) (opening : List Value) (entries : List Entry) (places : HashMap ℕ ℕ (BuildHasherDefault FoldHasher))
    (total : ℕ) : Type 0 where
  pub last : (h : ℕ) → IsLast start opening entries h (length entries) (get nat_eq places h)
  pub before : (k : ℕ) (e : Entry) → slice_get entries k ≡ Some e → IsLast start opening entries (hash_of start opening e) k e.before
  pub sum : total ≡ orders_to (map (entry_state opening) entries)
  -- states are compared by their changes
  pub changes : (k : ℕ) (e : Entry) → slice_get entries k ≡ Some e → AreChanges opening e.state.changes.items

-- the entry at this index is equal to the given state
abbrev pub HasAlike : List Value → List Entry → List ℕ → Left → ℕ → Type 0
HasAlike opening entries done left k = (e : Entry) × (slice_get entries k ≡ Some e) × IsAlike done left (entry_state opening e)

-- the remaining search: the entry at the index has the hash of the state, and no entry after it is equal to the state.
-- Without an index, no entry is
abbrev pub IsLeft : FoldHasher → List Value → List Entry → List ℕ → Left → Option ℕ → Type 0
IsLeft start opening entries done left None = (k : ℕ) → ¬ (HasAlike opening entries done left k)
IsLeft start opening entries done left (Some k) =
    HasHash start opening entries (hash_left start opening done left) k × ((j : ℕ) → k < j → ¬ (HasAlike opening entries done left j))

-- the number of entries up to the index
abbrev pub left_count : Option ℕ → ℕ
left_count None = 0
left_count (Some k) = suc k

-- the key is the hash of the state
abbrev pub IsKey : Layered → Reached → ℕ → Type 0
IsKey layer s key = key ≡ hash_left layer.start layer.opening s.done s.left

-- the place of the state with these numbers of calls done and these contents
abbrev pub IsPlace : Layered → List ℕ → Left → Place → Type 0
IsPlace layer done left (Found number) = (number < length layer.states) × IsAlike done left (at layer.states number)
IsPlace layer done left (Free key) =
    NoneIsAlike done left layer.states × (key ≡ hash_left layer.start layer.opening done left)
