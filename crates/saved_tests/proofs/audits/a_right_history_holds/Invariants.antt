use Rattle.saved_tests.proofs.audits.a_right_history_holds.Given as goal

abbrev pub ghosts-verdict_of : goal.ghosts-verdict_of
ghosts-verdict_of g a = record { name = a.blank.name; parts = a.blank.parts }
