use Rattle.test_support.proofs.thread_runs.side_by_side.Given as goal

abbrev pub ghosts-said_side_by_side : goal.ghosts-said_side_by_side
ghosts-said_side_by_side g a = record { plan = a.program.now; book = a.row.now }
