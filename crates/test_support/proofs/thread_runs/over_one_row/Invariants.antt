use Rattle.test_support.proofs.thread_runs.over_one_row.Given as goal

abbrev pub ghosts-said_over_one_row : goal.ghosts-said_over_one_row
ghosts-said_over_one_row g a = record { plan = a.program.now; book = a.row.now }
