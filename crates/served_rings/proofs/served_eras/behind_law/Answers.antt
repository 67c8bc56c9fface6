use Rattle.served_rings.proofs.served_eras.behind_law.Goals as goal

pub returns : goal.returns
returns c = λ p boot lens.
    let real = c.real_server_law.ensures.behind p boot lens in
    record { served = record { seen = real.served.seen; told = real.served.told }; carries = real.carries; clears = real.clears }
