use Rattle.std.proofs.Common.{◌≡◌, drop}
use Rattle.locks.specs.LockPaths.{all_final}
use Rattle.lockpaths.proofs.Walks.{behind_all}
use Rattle.lockpaths.proofs.forms.push_finals.Given as goal

abbrev pub invariant-loop-field : goal.invariant-loop-field
invariant-loop-field l = behind_all l.finals.items (all_final (drop l.field-index l.fields)) ≡ behind_all l.initial.finals.items (all_final l.fields)
