use Rattle.std.proofs.Common.{◌∙◌, ℕ, ap}
use Rattle.rand_core.specs.Steps.{stream_of}
use Rattle.rand_core.specs.Stream.{Stream, next_u64}
use Rattle.rand_xoshiro.specs.SplitMix64.{mix_u64}
use Rattle.workers.proofs.delaying.mixed.Goals as goal

pub returns : goal.returns
unfolding next_u64 stream_of
returns c =
    ap (λ (drawn : ℕ × Stream). drawn.0) c.next_u64.ensures
    ∙ ap (λ (state : ℕ). (mix_u64 state).0) c.seed_from_u64.ensures.same
