use Rattle.std.proofs.Common.{◌≡◌, map}
use Rattle.std.specs.Prelude.{string_bytes}
use Rattle.replay.specs.Readers.{Reader}
use Rattle.replay.specs.Working.Reading.{IsAt}
use Rattle.replay.specs.Wanted.{next_heads}
use Rattle.replay.proofs.candidate.Replay.next_heads.Given as goal

-- the heads of the threads so far
abbrev pub invariant-loop-thread : goal.invariant-loop-thread
invariant-loop-thread l = (reader : Reader) → IsAt l.self.program.now l.at reader →
    map (λ head. string_bytes head) l.heads.items ≡ next_heads l.self.format l.self.program.now reader.order l.thread
