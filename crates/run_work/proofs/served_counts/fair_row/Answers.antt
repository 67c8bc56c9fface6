use Rattle.run_work.proofs.served_counts.fair_row.Goals as goal

pub returns : goal.returns
returns c = λ m e. absurd (cc)
