-- A SLAVE'S OWN DATAGRAMS, of octets and as data, are the same.
use Rattle.std.proofs.Common.{◌≡◌, ℕ, ◌==◌, ◌&&◌, Bool, true, false, List, [], ◌∷◌, refl, ap, ◌∙◌}
use Rattle.std.specs.Prelude.{if◌then◌else◌, nat_le, ◌-◌}
use Rattle.frames_seen.specs.of_datagrams.declared.command.Command.{Command}
use Rattle.frames_seen.specs.of_datagrams.declared.command.Command.TheVariants.{Aprd, Apwr, Aprw, Fprd, Fpwr, Fprw}
use Rattle.frames_seen.specs.of_datagrams.Datagram as Raw
use Rattle.frames_seen.specs.of_esc_registers.Access.{is_by_station}
use Rattle.frames_seen.specs.of_segment_model.Slaves.{Address}
use Rattle.frames_seen.specs.of_segment_model.Record.{is_for}
use Rattle.frames_seen.specs.of_frame_view.View.{Lens, datagram_seen, address_of, place_of}
use Rattle.frames_seen.specs.of_frame_view.Seen.{datagrams_seen}
use Rattle.frames_seen.specs.Own.{is_to, own_of, own_seen}
use Rattle.frames_seen.specs.of_life_model.Own.{own}

-- none by place is for a station
no_place : (station adp : ℕ) → is_for station (place_of adp) ≡ false
no_place station adp = go (adp == 0) (nat_le 32768 adp)
  where
    go : (b c : Bool) → is_for station (if b then Address.Place 0 else if c then Address.Place (65536 - adp) else Address.Passed) ≡ false
    go true c = refl
    go false true = refl
    go false false = refl

for_by : (station adp : ℕ) (c : Command) → is_for station (address_of c adp) ≡ (is_by_station c && adp == station)
for_by station adp Fprd = refl
for_by station adp Fpwr = refl
for_by station adp Fprw = refl
for_by station adp Aprd = no_place station adp
for_by station adp Apwr = no_place station adp
for_by station adp Aprw = no_place station adp
for_by station adp c = refl

pub own_is : (lens : ℕ → Lens) (station : ℕ) (ds : List Raw.Datagram) → own station (datagrams_seen lens ds) ≡ own_seen lens station ds
own_is lens station [] = refl
own_is lens station (d ∷ ds) = ap (λ (b : Bool). if b then datagram_seen lens d ∷ own station (datagrams_seen lens ds) else own station (datagrams_seen lens ds)) (for_by station d.head.adp d.head.command) ∙ go (own_is lens station ds) (is_to station d)
  where
    go : own station (datagrams_seen lens ds) ≡ datagrams_seen lens (own_of station ds) → (b : Bool) → (if b then datagram_seen lens d ∷ own station (datagrams_seen lens ds) else own station (datagrams_seen lens ds)) ≡ datagrams_seen lens (if b then d ∷ own_of station ds else own_of station ds)
    go others true = ap (λ l. datagram_seen lens d ∷ l) others
    go others false = others
