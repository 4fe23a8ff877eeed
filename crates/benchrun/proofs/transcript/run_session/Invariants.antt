use Rattle.benchrun.proofs.transcript.run_session.Given as goal

-- the lines are the ones that were read
abbrev pub ghosts-perform_lines : goal.ghosts-perform_lines
ghosts-perform_lines a = record { said = a.said.now }
