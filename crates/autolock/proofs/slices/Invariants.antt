use Rattle.std.proofs.Common.{◌≡◌, map, string_bytes, take}
use Rattle.autolock.proofs.slices.Given as goal

abbrev pub invariant-loop-argument : goal.invariant-loop-argument
invariant-loop-argument l = map (λ word. word.now) l.all.items ≡ map (λ word. string_bytes word) (take l.argument-index l.arguments)
