use Rattle.std.proofs.Common.{map, string_bytes}
use Rattle.locks.specs.LockPaths.{lock_path_of}
use Rattle.c_sections.specs.Sections.{unlock_line}
use Rattle.c_statements.specs.Theory.Loops.{downward_moved}
use Rattle.c_sections.proofs.releases.push_unlocks.Goals as goal

pub loop-number-preserved : goal.loop-number-preserved
loop-number-preserved c =
    downward_moved (unlock_line c.args.program.now (map lock_path_of c.args.paths.now)) c.loop-number.number (string_bytes c.loop-number.out)
    (string_bytes c.push_unlock_at.new.out) _ c.loop-number-test.true c.in_ok-push_unlock_at.ensures c.loop-number.invariant
