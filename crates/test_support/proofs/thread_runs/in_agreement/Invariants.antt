use Rattle.test_support.proofs.thread_runs.in_agreement.Given as goal

abbrev pub ghosts-said_in_agreement : goal.ghosts-said_in_agreement
ghosts-said_in_agreement g a = record { plan = a.program.now; book = a.row.now }
