use Rattle.test_support.proofs.thread_runs.in_turn.Given as goal

abbrev pub ghosts-said_in_turn : goal.ghosts-said_in_turn
ghosts-said_in_turn g a = record { plan = a.program.now; book = a.row.now }
