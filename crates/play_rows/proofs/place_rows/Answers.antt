use Rattle.std.proofs.Common.{refl}
use Rattle.play_rows.proofs.place_rows.Goals as goal

pub returns : goal.returns
returns c = record { two = refl; two_left = refl; two_met = refl; two_placed = refl; lane = refl; left_over = refl; unmet = refl; twice = refl; both = refl; up_twice = refl; other_run = refl; beyond = refl; pair_refuses = refl; pair_again = refl; pull_takes = refl; due = refl; not_due = refl; due_later = refl; well_formed = refl }
