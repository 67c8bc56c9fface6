use Rattle.std.specs.Prelude.{◌≡◌, Some, None}
use Rattle.served_places.proofs.All.{goes_told}
use Rattle.served_places.proofs.kept_rows.all_law.Goals as goal

pub returns-clause-begins : goal.returns-clause-begins
returns-clause-begins c = λ pace a p e. absurd (let bad : None ≡ Some p = e in cc)

pub returns-clause-goes : goal.returns-clause-goes
returns-clause-goes c = λ lens recover retry gives made ds f w v is t returns some kept held told. goes_told lens recover retry gives made ds f w v is t returns some kept held told
