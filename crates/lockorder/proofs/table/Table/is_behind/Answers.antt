use Rattle.std.proofs.Common.{◌<◌, arith, refl}
use Rattle.lockorder.proofs.table.Table.is_behind.Goals as goal

pub returns : goal.returns
returns c = (
  λ e b edge.
      let lt = c.args.self.now.within b c.args.class edge in
      let below : b < c.loop-before.before = omega (arith, lt, c.loop-before-test.false, c.len-before-end.ensures, c.args.self.now.before.ok.0) in
      c.loop-before.invariant b below edge,
  λ h. refl,
)
