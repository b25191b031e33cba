use Rattle.std.specs.Int.{w128}
use Rattle.bit_set.specs.Theory.Bits.{bit_with}
use Rattle.bit_set.proofs.set.BitSet.with.Goals as goal

pub returns : goal.returns
returns c = bit_with w128 c.args.self.bits c.args.number c.requires
