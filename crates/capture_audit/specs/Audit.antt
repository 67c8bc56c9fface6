-- Stations, the links that open and close at them, and the verdict.
use Rattle.std.specs.Prelude.{ℕ, ◌%◌, ◌==◌, Bool, false, not, is_some, ◌&&◌, if◌then◌else◌, List, [], ◌∷◌, ◌++◌, length, slice_index, Option, Some, None, Result, Ok, Err}
use Rattle.capture_view.specs.of_ec_fields.Fields.{number_at}
use Rattle.capture_view.specs.of_mailbox_mail.declared.mail.Mail.{Mail}
use Rattle.capture_view.specs.of_pcap_frames.declared.capture.Capture.{Capture}
use Rattle.capture_audit.specs.declared.access.Access.{Access}
use Rattle.capture_audit.specs.declared.access.Access.TheVariants.{Manager, Mailbox, Other}
use Rattle.capture_audit.specs.declared.access.Manager.{Manager as WhichManager}
use Rattle.capture_audit.specs.declared.access.Manager.TheVariants as managers
use Rattle.capture_audit.specs.declared.access.MailAccess.{MailAccess}
use Rattle.capture_audit.specs.declared.rule.Rule.{Rule}
use Rattle.capture_audit.specs.declared.rule.Rule.TheVariants as rules
use Rattle.capture_audit.specs.declared.link.Link.{Link}
use Rattle.capture_audit.specs.declared.station.Seat.{Seat}
use Rattle.capture_audit.specs.declared.station.StationAudit.{StationAudit}
use Rattle.capture_audit.specs.declared.known.Known.{Known}
use Rattle.capture_audit.specs.declared.verdict.Verdict.{Verdict}
use Rattle.capture_audit.specs.declared.verdict.Verdict.TheVariants.{Yes, No}
use Rattle.capture_audit.specs.Access.{access_of}
use Rattle.capture_audit.specs.Exchanges.{Sent, Exchange, exchanges}
use Rattle.capture_audit.specs.Rules.{number_of, is_done, new_link, link_rule, link_on, mails_sent, mails_accepted}

-- the row of a key, this one where it has none
abbrev pub row_of : {A : Type 0} → (A → ℕ) → A → ℕ → List A → A
row_of key fresh k [] = fresh
row_of key fresh k (x ∷ xs) = if key x == k then x else row_of key fresh k xs

-- the rows with that of a key changed; where it has none, this one is changed and put behind them
abbrev pub changed_at : {A : Type 0} → (A → ℕ) → A → (A → A) → ℕ → List A → List A
changed_at key fresh f k [] = f fresh ∷ []
changed_at key fresh f k (x ∷ xs) = if key x == k then f x ∷ xs else x ∷ changed_at key fresh f k xs

-- a station whose managers weren't written
abbrev pub new_seat : ℕ → Seat
new_seat station = record { station = station; out_len = None; in_len = None; link = None }

-- a station without mails
abbrev pub new_station : ℕ → StationAudit
new_station station = record { station = station; sent = []; accepted = [] }

-- the write of a sync manager enables it: bit 0 of its activate octet
abbrev pub enables : List ℕ → Bool
enables body = slice_index body 6 % 2 == 1

-- where both managers were enabled with these lengths since the link opened last, it opens anew
abbrev pub opened_by : Option ℕ → Option ℕ → Seat → Seat
opened_by (Some out_len) (Some in_len) seat = record seat { out_len = None; in_len = None; link = Some (new_link out_len in_len) }
opened_by out_len in_len seat = record seat { out_len = out_len; in_len = in_len }

-- a manager was enabled with an area of this length
abbrev pub enabled : WhichManager → ℕ → Seat → Seat
enabled managers.Out len seat = opened_by (Some len) seat.in_len seat
enabled managers.In len seat = opened_by seat.out_len (Some len) seat

-- a manager was disabled, which closes the link
abbrev pub disabled : WhichManager → Seat → Seat
disabled managers.Out seat = record seat { out_len = None; link = None }
disabled managers.In seat = record seat { in_len = None; link = None }

-- the write of a manager: one that clears enable counts though it doesn't return, one that sets it where it returned with
-- working counter 1
abbrev pub managed : WhichManager → Sent → Seat → Seat
managed manager sent seat =
    if not (enables sent.body) then disabled manager seat
    else if is_done sent.back then enabled manager (number_at 2 sent.body 2) seat
    else seat

-- the other manager was enabled since the link opened last
abbrev pub other_enabled : WhichManager → Seat → Bool
other_enabled managers.Out seat = is_some seat.in_len
other_enabled managers.In seat = is_some seat.out_len

-- the write opens the link
abbrev pub opens : WhichManager → Sent → Seat → Bool
opens manager sent seat = enables sent.body && (is_done sent.back && other_enabled manager seat)

-- the station that a datagram is for
abbrev pub station_of : Sent → ℕ
station_of sent = sent.head.adp

-- what is known of a station
abbrev pub seat_of : ℕ → List Seat → Seat
seat_of station seats = row_of (λ s. s.station) (new_seat station) station seats

-- and that changed
abbrev pub seat_changed : (Seat → Seat) → ℕ → List Seat → List Seat
seat_changed f station seats = changed_at (λ s. s.station) (new_seat station) f station seats

-- the mails of a station
abbrev pub station_changed : (StationAudit → StationAudit) → ℕ → List StationAudit → List StationAudit
station_changed f station stations = changed_at (λ s. s.station) (new_station station) f station stations

-- mails that were sent and accepted, behind those before them
abbrev pub with_mails : List Mail → List Mail → StationAudit → StationAudit
with_mails sent accepted station = record station { sent = station.sent ++ sent; accepted = station.accepted ++ accepted }

-- the rule that an access of a mailbox breaks, by the station's link
abbrev pub mailbox_rule : Option Link → MailAccess → Sent → Option Rule
mailbox_rule None access sent = Some rules.NotOpen
mailbox_rule (Some link) access sent = link_rule link access sent

-- the rule that a datagram breaks, by what it is
abbrev pub rule_by : Access → Known → Sent → Option Rule
rule_by (Mailbox access) k sent = mailbox_rule (seat_of (station_of sent) k.seats).link access sent
rule_by _ k sent = None

-- THE RULE that a datagram breaks, none where it breaks none
abbrev pub rule_at : Known → Sent → Option Rule
rule_at k sent = rule_by (access_of sent.head (length sent.body)) k sent

-- the station's link goes on
abbrev pub mailbox_met : Option Link → MailAccess → Known → Sent → Known
mailbox_met None access k sent = k
mailbox_met (Some link) access k sent = record {
  seats = seat_changed (λ s. record s { link = Some (link_on link access sent) }) (station_of sent) k.seats;
  stations = station_changed (with_mails (mails_sent link access sent) (mails_accepted link access sent)) (station_of sent) k.stations;
}

-- a station has a row of mails from its first opening on
abbrev pub manager_met : WhichManager → Known → Sent → Known
manager_met manager k sent = record {
  seats = seat_changed (managed manager sent) (station_of sent) k.seats;
  stations = if opens manager sent (seat_of (station_of sent) k.seats) then station_changed (λ s. s) (station_of sent) k.stations else k.stations;
}

-- what is known behind a datagram, by what it is
abbrev pub met_by : Access → Known → Sent → Known
met_by (Manager manager) k sent = manager_met manager k sent
met_by (Mailbox access) k sent = mailbox_met (seat_of (station_of sent) k.seats).link access k sent
met_by Other k sent = k

-- what is known behind a datagram that breaks no rule
abbrev pub met : Known → Sent → Known
met k sent = met_by (access_of sent.head (length sent.body)) k sent

-- where a rule is broken, that; else the other
abbrev pub unless : Option Rule → Result Known Rule → Result Known Rule
unless (Some rule) other = Err rule
unless None other = other

-- what is known behind datagrams, or the rule that the first of them breaks that breaks one
abbrev pub judged : Known → List Sent → Result Known Rule
judged k [] = Ok k
judged k (d ∷ ds) = unless (rule_at k d) (judged (met k d) ds)

-- what is known behind datagrams that break no rule
abbrev pub kept : Known → Result Known Rule → Known
kept k (Ok behind) = behind
kept k (Err rule) = k

-- where the datagrams of a packet break a rule, that is the verdict; else the other
abbrev pub verdict_by : Result Known Rule → ℕ → Verdict → Verdict
verdict_by (Ok behind) packet other = other
verdict_by (Err rule) packet other = No (number_of rule) packet

-- exchanges are judged one behind the other
abbrev pub judged_all : Known → List Exchange → Verdict
judged_all k [] = Yes k.stations
judged_all k (x ∷ xs) = verdict_by (judged k x.datagrams) x.packet (judged_all (kept k (judged k x.datagrams)) xs)

-- nothing is known
abbrev pub first_known : Known
first_known = record { seats = []; stations = [] }

-- THE VERDICT on a capture
abbrev pub verdict_of : List ℕ → Capture → Verdict
verdict_of file capture = judged_all first_known (exchanges file false 0 capture.packets)
