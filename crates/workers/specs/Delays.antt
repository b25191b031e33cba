-- The delays of a thread.
use Rattle.std.specs.Prelude.{ℕ, ◌+◌, ◌/◌, ◌%◌, ◌^◌, ◌==◌, if◌then◌else◌}
use Rattle.rand_xoshiro.specs.SplitMix64.{mix_u64}

-- a number each of whose bits depends on all bits of both numbers: the output of the generator SplitMix64 at their sum
abbrev pub mixed : ℕ → ℕ → ℕ
mixed state word = (mix_u64 ((state + word) % 2 ^ 64)).0

-- the delay for a number, in turns: three of four numbers give 0, the others 1 to 2048
abbrev pub turns_of : ℕ → ℕ
turns_of drawn = if drawn % 4 == 0 then 1 + drawn / 4 % 2048 else 0

-- the delay of a pass, in turns, from the seed, the thread, the progress of its call, and the number of earlier passes
abbrev pub delay : ℕ → ℕ → ℕ → ℕ → ℕ
delay seed thread step pass = turns_of (mixed (mixed (mixed seed thread) step) pass)
