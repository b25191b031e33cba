use Rattle.std.proofs.Common.{◌≡◌, ◌≤◌, ◌+◌, drop}
use Rattle.std.specs.Prelude.{map}
use Rattle.syntax.specs.Views.{member_of, struct_of}
use Rattle.resolution.specs.Limits.{CLASS_LIMIT}
use Rattle.resolution.specs.Scopes.{count}
use Rattle.resolution.specs.Numbers.{is_lock}
use Rattle.types_symbols.specs.Working.Capped.{capped}
use Rattle.types_symbols.proofs.totals.locks_in.Given as goal

abbrev pub invariant-loop-m : goal.invariant-loop-m
invariant-loop-m l = record {
  sum : capped CLASS_LIMIT (l.locks + count is_lock (map member_of (drop l.m-index l.structure.members.items))) ≡ capped CLASS_LIMIT (count is_lock (struct_of l.structure).members);
  within : l.locks ≤ CLASS_LIMIT + 1;
}
