use Rattle.std.proofs.Common.{◌≡◌, ℕ, ◌<◌, map, length, Some}
use Rattle.std.specs.Prelude.{slice_index_or}
use Rattle.workers.specs.Seats.{SeatOf}
use Rattle.workers.specs.Answers.{call_in, script_at}
use Rattle.workers.proofs.threads.in_order.Given as goal

abbrev pub invariant-loop-place : goal.invariant-loop-place
invariant-loop-place g l = record {
  threads : (k : ℕ) (d : SeatOf) → k < length l.seats.items → (slice_index_or l.seats.items k d).thread ≡ k;
  calls : (k : ℕ) (d : SeatOf) → k < length l.seats.items →
      Some (map call_in (slice_index_or l.seats.items k d).answers) ≡ script_at g.J.Naming.plan (slice_index_or l.seats.items k d).thread;
}
