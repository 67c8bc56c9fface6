use Rattle.std.proofs.Common.{refl}
use Rattle.master_side.proofs.Counts.{back_counts, still_counts}
use Rattle.master_side.proofs.news_kept.counts_law.Goals as goal

pub returns-clause-begins : goal.returns-clause-begins
returns-clause-begins g c = λ pace made. record { is = refl; early = tt }

pub returns-clause-back : goal.returns-clause-back
returns-clause-back g c = λ station pace made counter octets carried due at counts d b p k w i. back_counts station pace made at counts d b counter octets carried due p k w i

pub returns-clause-still : goal.returns-clause-still
returns-clause-still g c = λ station pace made at counts back p n k. still_counts station pace made at counts back p n k
