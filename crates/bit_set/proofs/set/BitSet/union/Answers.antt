use Rattle.bit_set.specs.Theory.Bits.{bit_or_is}
use Rattle.bit_set.proofs.set.BitSet.union.Goals as goal

pub returns : goal.returns
returns c = bit_or_is c.args.self.bits c.args.other.bits
