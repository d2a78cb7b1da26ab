use Rattle.saved_tests.proofs.audits.another_commit_differs.Given as goal

abbrev pub ghosts-verdict_of : goal.ghosts-verdict_of
ghosts-verdict_of g a = record { name = a.blank.name; parts = a.blank.parts }
