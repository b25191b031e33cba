use Rattle.std.proofs.Common.{◌≡◌, ◌++◌, ◌-◌}
use Rattle.std.specs.List.{filter, range_with_len}
use Rattle.locks.specs.Sets.{has}
use Rattle.language_server.proofs.held_paths.numbers_in.Given as goal

-- the listed numbers and those of the remaining paths are all
abbrev pub invariant-loop-path : goal.invariant-loop-path
invariant-loop-path l =
    l.list.items ++ filter (has l.set) (range_with_len l.path (l.many - l.path)) ≡ filter (has l.set) (range_with_len 0 l.many)
