-- A table of seats, and the progress of each. It mirrors the code: nobody has to believe it.
use Rattle.std.specs.Prelude.{◌≡◌, ℕ, unwrap_or}
use Rattle.std.specs.BTreeMap.{BTreeMap, get}
use Rattle.std.specs.Ordering.{nat_cmp}
use Rattle.replay.specs.declared.progress.ThreadProgress.{ThreadProgress}

-- the seat of a thread without calls
abbrev pub empty_seat : ThreadProgress
empty_seat = record { called = 0; least = 0 }

-- the seat of a thread
abbrev pub seat_in : BTreeMap ℕ ThreadProgress → ℕ → ThreadProgress
seat_in seats t = unwrap_or (get nat_cmp seats t) empty_seat

-- the seats with this one for a thread
pub record IsWithSeat (t : ℕ) (seat : ThreadProgress) (old new : BTreeMap ℕ ThreadProgress) : Type 0 where
  pub here : seat_in new t ≡ seat
  pub others : (u : ℕ) → (u ≡ t → ⊥) → seat_in new u ≡ seat_in old u
