-- WHO IS APART from a station: a slave that is opened or returned, as long as it has no station yet or its own.
use Rattle.std.proofs.Common.{◌≡◌, ◌⊎◌, inl, inr, ℕ, ◌==◌, false, List, [], ◌∷◌, ap, sym, ◌∙◌, subst}
use Rattle.frames_seen.specs.of_datagrams.Datagram as Raw
use Rattle.frames_seen.specs.of_esc_registers.declared.registers.Registers as Esc
use Rattle.frames_seen.specs.of_slave_node.Passing.{passed}
use Rattle.frames_seen.specs.Own.{IsApart}
use Rattle.frames_seen.proofs.Aparts.{apart_one, none_apart}
use Rattle.frames_seen.proofs.Owns.{unmoved}
use Rattle.slave_lives.specs.Opening.{Plan, AtMostOne}

-- a slave that is opened or returned: it has no station yet, or its own
called_other : (station : ℕ) (p : Plan) (r : Esc.Registers) → (0 == station) ≡ false → (p.station == station) ≡ false → (r.station ≡ 0) ⊎ (r.station ≡ p.station) → (r.station == station) ≡ false
called_other station p r zero_ own (inl e) = ap (λ x. x == station) e ∙ zero_
called_other station p r zero_ own (inr e) = ap (λ x. x == station) e ∙ own

pub closed_apart : (station : ℕ) (p : Plan) (n : ℕ) (r : Esc.Registers) (ds : List Raw.Datagram) → (0 == station) ≡ false → (p.station == station) ≡ false → (r.station ≡ 0) ⊎ (r.station ≡ p.station) → AtMostOne p n r ds → IsApart station r ds
closed_apart station p n r [] zero_ own called one = tt
closed_apart station p n r (d ∷ ds) zero_ own called (inl other) =
    let e = unmoved r d other.0 in
    (λ to. other.0, closed_apart station p n (passed r d).registers ds zero_ own (subst (λ x. (x.station ≡ 0) ⊎ (x.station ≡ p.station)) (sym e) called) other.1)
closed_apart station p n r (d ∷ ds) zero_ own called (inr mine) =
    (λ to. apart_one station r d (called_other station p r zero_ own called) to, none_apart station (passed r d).registers ds mine.2)
