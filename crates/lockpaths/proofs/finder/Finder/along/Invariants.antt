use Rattle.std.proofs.Common.{◌≡◌, take, drop, true, None}
use Rattle.locks.specs.Accesses.{along, in_path}
use Rattle.locks.specs.LockPaths.{all_final}
use Rattle.lockpaths.specs.Working.Finding.{over}
use Rattle.lockpaths.specs.Working.Told.{seen}
use Rattle.lockpaths.proofs.finder.Finder.along.Given as goal

abbrev pub invariant-loop-k : goal.invariant-loop-k
invariant-loop-k l = record {
  met : over l.self (seen l.found) (along l.path.start l.path.local (take l.k l.path.fields.items) (drop l.k l.path.fields.items)) ≡ over l.self (seen l.initial.found) (in_path l.path);
  behind : l.is_behind ≡ true → all_final (take l.k l.path.fields.items) ≡ None;
}
