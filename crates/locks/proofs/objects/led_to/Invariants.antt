use Rattle.std.proofs.Common.{◌≡◌, drop}
use Rattle.locks.specs.Locks.{led_to}
use Rattle.locks.proofs.objects.led_to.Given as goal

abbrev pub invariant-loop-number : goal.invariant-loop-number
invariant-loop-number l = led_to l.shape l.reached (drop l.number-index l.finals) ≡ led_to l.shape l.object l.finals
