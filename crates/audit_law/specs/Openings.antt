-- The openings of a station's link in a capture.
use Rattle.std.specs.Prelude.{◌≡◌, ℕ, ◌==◌, ◌&&◌, ◌||◌, not, Bool, true, false, List, [], ◌∷◌, ◌++◌, length, Some, ⊤}
use Rattle.capture_audit.specs.of_pcap_frames.declared.capture.Capture.{Capture}
use Rattle.capture_audit.specs.declared.access.Access.{Access}
use Rattle.capture_audit.specs.declared.access.Access.TheVariants.{Manager}
use Rattle.capture_audit.specs.declared.access.Manager.{Manager as WhichManager}
use Rattle.capture_audit.specs.declared.known.Known.{Known}
use Rattle.capture_audit.specs.declared.station.Seat.{Seat}
use Rattle.capture_audit.specs.declared.station.StationAudit.{StationAudit}
use Rattle.capture_audit.specs.declared.link.Link.{Link}
use Rattle.capture_audit.specs.Access.{access_of}
use Rattle.capture_audit.specs.Exchanges.{Sent, exchanges}
use Rattle.capture_audit.specs.Rules.{new_link}
use Rattle.capture_audit.specs.Audit.{station_of, seat_of, row_of, new_station, with_mails, enables, opens, met, first_known}
use Rattle.audit_law.specs.Told.{Told, sent_by, accepted_by}
use Rattle.capture_audit.specs.Causes.{behind, all_of}

-- a write of a sync manager that closes the link or opens it anew
abbrev pub turns_by : Access → Sent → Seat → Bool
turns_by (Manager manager) d seat = not (enables d.body) || opens manager d seat
turns_by _ d seat = false

-- the same of this station
abbrev pub turns : ℕ → Known → Sent → Bool
turns station k d = (station_of d == station) && turns_by (access_of d.head (length d.body)) d (seat_of station k.seats)

-- over these datagrams the station's link is neither closed nor opened anew
abbrev pub Stays : ℕ → Known → List Sent → Type 0
Stays station k [] = ⊤
Stays station k (d ∷ ds) = (turns station k d ≡ false) × Stays station (met k d) ds

-- this datagram opens the station's link, with areas of these lengths
pub record Opens (station : ℕ) (k : Known) (d : Sent) (out_len in_len : ℕ) : Type 0 where
  pub manager : WhichManager
  pub own : station_of d ≡ station
  pub access : access_of d.head (length d.body) ≡ Manager manager
  pub opens : opens manager d (seat_of station k.seats) ≡ true
  pub link : (seat_of station (met k d).seats).link ≡ Some (new_link out_len in_len)

-- what is known of a station's mails
abbrev pub mails_of : ℕ → Known → StationAudit
mails_of station k = row_of (λ s. s.station) (new_station station) station k.stations

-- the mails of these accesses stand behind those that were known of the station
abbrev pub AddsMails : ℕ → Link → List Told → Known → Known → Type 0
AddsMails station link ts old new = mails_of station new ≡ with_mails (sent_by link ts) (accepted_by link ts) (mails_of station old)

-- An opening in a capture: this datagram opens the station's link, behind these before it, and the link stays open over those
-- that come next, up to any moment.
pub record IsOpening (file : List ℕ) (capture : Capture) (station out_len in_len : ℕ) (before : List Sent) (d : Sent) (during : List Sent) : Type 0 where
  pub after : List Sent
  pub all : all_of (exchanges file false 0 capture.packets) ≡ before ++ d ∷ (during ++ after)
  pub opens : Opens station (behind first_known before) d out_len in_len
  pub stays : Stays station (met (behind first_known before) d) during
