-- Random items. The words come from the generator xoshiro256++, and numbers from its words, as in the library `rand`.
use Rattle.std.specs.Prelude.{ℕ, zero, suc, ◌^◌, ◌-◌, ◌==◌, List, [], ◌∷◌, nat_lt, if◌then◌else◌}
use Rattle.rand.specs.Draw.{draw_map}
use Rattle.rand.specs.Uniform.{canon}
use Rattle.rand_core.specs.Steps.{stream_of, steps_u64_high}
use Rattle.rand_core.specs.Stream.{Stream, next_u32}
use Rattle.rand_xoshiro.specs.SplitMix64.{splitmix_seed}
use Rattle.rand_xoshiro.specs.Xoshiro256.{of_seed, plus_plus}
use Rattle.input_files.specs.declared.item.Item.{Item}
use Rattle.input_files.specs.declared.item.Until.{Until}
use Rattle.input_files.specs.declared.item.Until.TheVariants.{Count, Stop, CallEnd}

-- the generator's state for a seed
abbrev pub seeded : ℕ → List ℕ
seeded seed = of_seed (splitmix_seed 32 seed)

-- the words of the generator from a state on
abbrev pub stream_at : List ℕ → Stream
stream_at state = stream_of (steps_u64_high plus_plus) state

-- a number below an end, from 32 bits
abbrev pub draw_below : ℕ → Stream → ℕ × Stream
draw_below end = canon (2 ^ 32) next_u32 end

-- how far an item goes, by a number below 16: four have `T!`, four `T+`, and one each `T*1` to `T*8`
abbrev pub drawn_until : ℕ → Until
drawn_until k = if nat_lt k 4 then Stop else if nat_lt k 8 then CallEnd else Count (k - 7)

-- an item from two draws of the library `rand`: a thread of the given number of threads, and a number below 16
abbrev pub draw_item : ℕ → Stream → Item × Stream
draw_item threads s =
    let thread = draw_below threads s in
    draw_map (λ k. record { thread = thread.0; until = drawn_until k; start = 0 }) (draw_below 16) thread.1

-- the given number of items, one after another
unfoldable pub draw_items : ℕ → ℕ → Stream → List Item
draw_items threads zero s = []
draw_items threads (suc count) s = (draw_item threads s).0 ∷ draw_items threads count (draw_item threads s).1

-- the items of a seed; none without a thread
abbrev pub drawn_items : ℕ → ℕ → ℕ → List Item
drawn_items threads seed count = if threads == 0 then [] else draw_items threads count (stream_at (seeded seed))
