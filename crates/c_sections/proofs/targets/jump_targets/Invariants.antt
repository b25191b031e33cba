use Rattle.std.proofs.Common.{◌≡◌, ℕ, ◌<◌, false, drop, length, get_or}
use Rattle.std.specs.Prelude.{◌||◌}
use Rattle.c_sections.specs.Instructions.{is_target}
use Rattle.c_sections.proofs.targets.jump_targets.Given as goal

abbrev pub invariant-loop-place : goal.invariant-loop-place
invariant-loop-place l = record {
  count : length l.flags.items ≡ length l.code;
  each : (p : ℕ) → p < length l.code → (get_or l.flags.items p false || is_target p l.place (drop l.place l.code)) ≡ is_target p 0 l.code;
}
