-- What a datagram does to what is known.
use Rattle.std.proofs.Common.{◌≡◌, ℕ, true, false, List, sym, ap, ◌∙◌, Some, None}
use Rattle.std.specs.Prelude.{slice_set, slice_index_or}
use Rattle.capture_audit.specs.declared.access.MailAccess.{MailAccess}
use Rattle.capture_audit.specs.declared.access.Manager.{Manager}
use Rattle.capture_audit.specs.declared.known.Known.{Known}
use Rattle.capture_audit.specs.declared.link.Link.{Link}
use Rattle.capture_audit.specs.declared.link.Moved.{Moved}
use Rattle.capture_audit.specs.declared.station.Seat.{Seat}
use Rattle.capture_audit.specs.declared.station.Step.TheVariants.{Moves}
use Rattle.capture_audit.specs.declared.station.StationAudit.{StationAudit}
use Rattle.capture_audit.specs.Exchanges.{Sent}
use Rattle.capture_audit.specs.Rules.{link_on}
use Rattle.capture_audit.specs.Audit.{seat_of, seat_changed, station_changed, with_mails, managed, opens, manager_met, mailbox_rule, mailbox_met}
use Rattle.capture_audit.specs.Moves.{sent_by, accepted_by, Steps}
use Rattle.capture_audit.specs.Judged.{HasSeat, HasStation}

met_seats : (seats : List Seat) (st at : ℕ) (row seat : Seat) (link behind : Link) (access : MailAccess) (d : Sent) → HasSeat seats seats st at → row ≡ seat_of st seats → seat ≡ record row { link = Some behind } → behind ≡ link_on link access d
    → slice_set seats at seat ≡ seat_changed (λ s. record s { link = Some (link_on link access d) }) st seats
met_seats seats st at row seat link behind access d has is new on =
    let known : record row { link = Some behind } ≡ record (seat_of st seats) { link = Some (link_on link access d) } = λ i. record (is i) { link = Some (on i) } in
    let own : seat ≡ record (seat_of st seats) { link = Some (link_on link access d) } = new ∙ known in
    ap (λ (s : Seat). slice_set seats at s) own ∙ has.changed (λ (s : Seat). record s { link = Some (link_on link access d) })

-- a link goes on at its station
pub moved_on : (k : Known) (at : ℕ) (row seat : Seat) (stations : List StationAudit) (access : MailAccess) (d : Sent) (moved : Moved) → HasSeat k.seats k.seats d.head.adp at → row ≡ seat_of d.head.adp k.seats
    → Steps row seat access d (Moves moved) → stations ≡ station_changed (with_mails (sent_by moved) (accepted_by moved)) d.head.adp k.stations
    → (mailbox_rule (seat_of d.head.adp k.seats).link access d ≡ None) × (record { seats = slice_set k.seats at seat; stations = stations } ≡ mailbox_met (seat_of d.head.adp k.seats).link access k d)
moved_on k at row seat stations access d moved has is (link, behind, there, none, new, goes) told =
    let opened : (seat_of d.head.adp k.seats).link ≡ Some link = ap (λ (s : Seat). s.link) (sym is) ∙ there in
    let seats = met_seats k.seats d.head.adp at row seat link behind access d has is new goes.link in
    let mails = told ∙ (λ i. station_changed (with_mails (goes.mails i) (goes.accepted i)) d.head.adp k.stations) in (
      ap (λ (s : Seat). mailbox_rule s.link access d) (sym is) ∙ none,
      (λ i. record { seats = seats i; stations = mails i }) ∙ ap (λ o. mailbox_met o access k d) (sym opened),
    )

managed_seats : (seats seats' : List Seat) (at : ℕ) (row seat : Seat) (manager : Manager) (d : Sent) → HasSeat seats seats' d.head.adp at → row ≡ slice_index_or seats' at row → seat ≡ managed manager d row
    → slice_set seats' at seat ≡ seat_changed (managed manager d) d.head.adp seats
managed_seats seats seats' at row seat manager d has is new =
    ap (λ s. slice_set seats' at s) (new ∙ ap (managed manager d) (is ∙ has.row row)) ∙ has.changed (managed manager d)

-- a manager was written at its station, which opens the link or doesn't
pub managed_on : (k : Known) (seats' : List Seat) (at : ℕ) (row seat : Seat) (stations : List StationAudit) (manager : Manager) (d : Sent) → HasSeat k.seats seats' d.head.adp at → row ≡ slice_index_or seats' at row → seat ≡ managed manager d row
    → opens manager d row ≡ true → (at' : ℕ) → HasStation k.stations stations d.head.adp at' → record { seats = slice_set seats' at seat; stations = stations } ≡ manager_met manager k d
managed_on k seats' at row seat stations manager d has is new there at' made =
    let seats = managed_seats k.seats seats' at row seat manager d has is new in
    let own : opens manager d (seat_of d.head.adp k.seats) ≡ true = ap (opens manager d) (sym (is ∙ has.row row)) ∙ there in
    rw own (λ i. record { seats = seats i; stations = made.same i })

pub managed_still : (k : Known) (seats' : List Seat) (at : ℕ) (row seat : Seat) (manager : Manager) (d : Sent) → HasSeat k.seats seats' d.head.adp at → row ≡ slice_index_or seats' at row → seat ≡ managed manager d row
    → opens manager d row ≡ false → record { seats = slice_set seats' at seat; stations = k.stations } ≡ manager_met manager k d
managed_still k seats' at row seat manager d has is new closed =
    let seats = managed_seats k.seats seats' at row seat manager d has is new in
    let own : opens manager d (seat_of d.head.adp k.seats) ≡ false = ap (opens manager d) (sym (is ∙ has.row row)) ∙ closed in
    rw own (λ i. record { seats = seats i; stations = k.stations })
