-- The exit statuses.
use Rattle.std.specs.Prelude.{ℕ}
use Rattle.driver.specs.declared.status.Status.{Status}
use Rattle.driver.specs.declared.status.Status.TheVariants.{Done, Refused, BadWords, Failed, OutOfMemory, Differs}
use Rattle.driver.specs.declared.status.Status.TheVariants.{BadInput, Unsettled, Strange, Unexpected}

-- the number of a status, with which a process or a call from C ends
abbrev pub exit_status : Status → ℕ
exit_status Done = 0
exit_status Refused = 1
exit_status BadWords = 2
exit_status Failed = 3
exit_status OutOfMemory = 4
exit_status Differs = 5
exit_status BadInput = 6
exit_status Unsettled = 7
exit_status Strange = 8
exit_status Unexpected = 9
