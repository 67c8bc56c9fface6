use Rattle.seen_slaves.proofs.Fits.{fits}
use Rattle.seen_slaves.proofs.seen_spent.fits_law.Goals as goal

pub returns : goal.returns
returns g c = λ w is never u processor seer table spot run opened v r fs counts e n seen. fits w is never u processor seer table spot run opened v r fs counts e n seen
