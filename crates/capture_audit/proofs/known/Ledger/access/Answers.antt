use Rattle.std.proofs.Common.{rules, ◌≡◌, ◌==◌, position, Some, None, sym, ap, subst, ◌∙◌}
use Rattle.capture_audit.specs.declared.known.Known.{Known}
use Rattle.capture_audit.specs.declared.station.Seat.{Seat}
use Rattle.capture_audit.specs.declared.station.Step.TheVariants.{Breaks, Moves}
use Rattle.capture_audit.specs.Seen.{datagram_seen}
use Rattle.std.specs.Prelude.{slice_set}
use Rattle.capture_audit.specs.Audit.{new_seat, mailbox_met, mailbox_rule, seat_of, station_changed, with_mails}
use Rattle.capture_audit.specs.Moves.{Steps, sent_by, accepted_by}
use Rattle.capture_audit.proofs.Keyed.{row_found, row_absent, place_is, places_kept}
use Rattle.capture_audit.proofs.Steps.{moved_on}
use Rattle.capture_audit.proofs.known.Ledger.access.Goals as goal

pub returns-in_default : goal.returns-in_default
returns-in_default c =
    let d = datagram_seen c.args.datagram.now in
    let none : position (λ s. s == d.head.adp) c.self.inside.seat_places ≡ None = search rules in
    let absent = place_is (λ (s : Seat). s.station) (new_seat d.head.adp) d.head.adp c.self.inside.seat_places c.self.inside.known.seats c.self.invariant.0 ∙ none in
    let fresh = row_absent (λ (s : Seat). s.station) (new_seat d.head.adp) d.head.adp c.self.inside.known.seats absent in
    ap (λ (s : Seat). mailbox_rule s.link c.args.access d) (ap (λ (k : Known). seat_of d.head.adp k.seats) (sym c.self.view_is) ∙ fresh)

pub returns-in-Breaks : goal.returns-in-Breaks
returns-in-Breaks c =
    let d = datagram_seen c.args.datagram.now in
    let found : position (λ s. s == d.head.adp) c.self.inside.seat_places ≡ Some c.in-Some.at = search rules in
    let has = row_found (λ (s : Seat). s.station) (new_seat d.head.adp) d.head.adp c.self.inside.seat_places c.self.inside.known.seats c.in-Some.at c.self.invariant.0 found in
    let own = ap (λ (k : Known). seat_of d.head.adp k.seats) (sym c.self.view_is) ∙ sym (c.at_mut.ensures.value ∙ has.row c.at_mut.result.now) in
    let steps : Steps c.at_mut.result.now c.access.new.self c.args.access d (Breaks c.in-Breaks.rule) = search rules in
    ap (λ (s : Seat). mailbox_rule s.link c.args.access d) own ∙ steps

pub returns-in_ok-note-in-Moves : goal.returns-in_ok-note-in-Moves
returns-in_ok-note-in-Moves c =
    let d = datagram_seen c.args.datagram.now in
    let found : position (λ s. s == d.head.adp) c.self.inside.seat_places ≡ Some c.in-Some.at = search rules in
    let has = row_found (λ (s : Seat). s.station) (new_seat d.head.adp) d.head.adp c.self.inside.seat_places c.self.inside.known.seats c.in-Some.at c.self.invariant.0 found in
    let steps : Steps c.at_mut.result.now c.access.new.self c.args.access d (Moves c.in-Moves.moved) = search rules in
    let told : c.note.new.stations ≡ station_changed (with_mails (sent_by c.in-Moves.moved) (accepted_by c.in-Moves.moved)) d.head.adp c.self.inside.known.stations = search rules in
    let behind : Known = record { seats = slice_set c.self.inside.known.seats c.in-Some.at c.access.new.self; stations = c.note.new.stations } in
    subst (λ (k : Known). (mailbox_rule (seat_of d.head.adp k.seats).link c.args.access d ≡ None) × (behind ≡ mailbox_met (seat_of d.head.adp k.seats).link c.args.access k d)) c.self.view_is
    (moved_on c.self.inside.known c.in-Some.at c.at_mut.result.now c.access.new.self c.note.new.stations c.args.access d c.in-Moves.moved has (c.at_mut.ensures.value ∙ has.row c.at_mut.result.now) steps told)

pub invariant_of-self : goal.invariant_of-self
invariant_of-self c = (
  places_kept (λ (s : Seat). s.station) c.self.inside.seat_places c.self.inside.known.seats c.in-Some.at c.at_mut.result.now c.access.new.self c.self.invariant.0 c.at_mut.ensures.value c.access.ensures.station,
  c.self.invariant.1,
)

pub invariant_of-self-in-Breaks : goal.invariant_of-self-in-Breaks
invariant_of-self-in-Breaks c = (
  places_kept (λ (s : Seat). s.station) c.self.inside.seat_places c.self.inside.known.seats c.in-Some.at c.at_mut.result.now c.access.new.self c.self.invariant.0 c.at_mut.ensures.value c.access.ensures.station,
  c.self.invariant.1,
)

pub invariant_of-self-in_err-note-in-Moves : goal.invariant_of-self-in_err-note-in-Moves
invariant_of-self-in_err-note-in-Moves c = (
  places_kept (λ (s : Seat). s.station) c.self.inside.seat_places c.self.inside.known.seats c.in-Some.at c.at_mut.result.now c.access.new.self c.self.invariant.0 c.at_mut.ensures.value c.access.ensures.station,
  c.note.ensures.places,
)

pub invariant_of-self-in-Moves : goal.invariant_of-self-in-Moves
invariant_of-self-in-Moves c = (
  places_kept (λ (s : Seat). s.station) c.self.inside.seat_places c.self.inside.known.seats c.in-Some.at c.at_mut.result.now c.access.new.self c.self.invariant.0 c.at_mut.ensures.value c.access.ensures.station,
  c.note.ensures.places,
)
