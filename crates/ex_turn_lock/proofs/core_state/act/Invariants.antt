use Rattle.ex_turn_lock.proofs.core_state.act.Given as goal

abbrev pub ghosts-leave_some : goal.ghosts-leave_some
ghosts-leave_some g a = record { offers = λ h t. g.M.Machine.replies (g.M.Machine.room a.state.machine) a.about.now.0 a.about.now.1 h t }
