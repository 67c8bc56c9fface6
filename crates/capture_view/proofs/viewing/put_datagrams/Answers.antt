use Rattle.std.proofs.Common.{rules, ◌≡◌, ◌+◌, ◌++◌, [], ◌∷◌, take, refl, sym, ap, ◌∙◌, arith, Some, None, Ok}
use Rattle.std.specs.Option.{option_to_list}
use Rattle.datagrams.specs.Datagram.{size_of}
use Rattle.datagrams.specs.Frame.{frame_read, parts_of}
use Rattle.capture_view.specs.View.{datagram_lines, parts_lines, frame_lines}
use Rattle.capture_view.proofs.Telling.{told_nothing, stops, goes_on}
use Rattle.capture_view.proofs.Walk.{body_inside, lines_split, first_is, next_is, last_lines}
use Rattle.capture_view.proofs.viewing.put_datagrams.Goals as goal

pub datagrams-init : goal.datagrams-init
datagrams-init g c =
    let start = first_is c.args.frame.now c.first-part.result c.requires.0 c.requires.1 (c.first-part.ensures.first c.requires.0 c.requires.1) in
    (start.0, rw start.1 (told_nothing g.O.Sink.written g.O.Sink.sink_faults c.args.sink.now))

pub returns-in_err-put_datagram : goal.returns-in_err-put_datagram
returns-in_err-put_datagram g c =
    let p = c.datagrams.invariant.0 in
    let rest = parts_lines c.args.frame.now (parts_of (c.datagrams.part.at + size_of p.datagram) p.behind) in
    goes_on (frame_lines c.args.frame.now (frame_read c.args.frame.now)) c.datagrams.invariant.1 refl
    (stops rest (datagram_lines c.args.frame.now c.datagrams.part ++ rest) c.in_err-put_datagram.field-0.0 c.from_residual.result c.put_datagram.ensures (search rules) (search rules) refl)
    (lines_split c.args.frame.now c.datagrams.part p)

pub returns-in_default : goal.returns-in_default
returns-in_default g c =
    let p = c.datagrams.invariant.0 in
    let none : c.next.result ≡ None = search rules in
    let last : [] ≡ take 1 (parts_of (c.datagrams.part.at + size_of p.datagram) p.behind) =
    ap option_to_list (sym none) ∙ c.next.ensures.next p.front p.datagram p.behind p.frame p.place p.head in
    let ok : c.put_datagram.result ≡ Ok tt = search rules in
    goes_on (frame_lines c.args.frame.now (frame_read c.args.frame.now)) c.datagrams.invariant.1 refl (rw ok at c.put_datagram.ensures)
    (last_lines c.args.frame.now c.datagrams.part p last)

pub datagrams-smaller : goal.datagrams-smaller
datagrams-smaller g c =
    let p = c.datagrams.invariant.0 in
    let some : c.next.result ≡ Some c.in-Some.behind = search rules in
    let behind : c.in-Some.behind ∷ [] ≡ take 1 (parts_of (c.datagrams.part.at + size_of p.datagram) p.behind) =
    ap option_to_list (sym some) ∙ c.next.ensures.next p.front p.datagram p.behind p.frame p.place p.head in
    let n = next_is c.args.frame.now c.datagrams.part c.in-Some.behind p behind in
    let low = n.behind in
    let inside = body_inside c.args.frame.now c.in-Some.behind n.is in
    omega arith

pub datagrams-preserved : goal.datagrams-preserved
datagrams-preserved g c =
    let p = c.datagrams.invariant.0 in
    let some : c.next.result ≡ Some c.in-Some.behind = search rules in
    let behind : c.in-Some.behind ∷ [] ≡ take 1 (parts_of (c.datagrams.part.at + size_of p.datagram) p.behind) =
    ap option_to_list (sym some) ∙ c.next.ensures.next p.front p.datagram p.behind p.frame p.place p.head in
    let n = next_is c.args.frame.now c.datagrams.part c.in-Some.behind p behind in
    let ok : c.put_datagram.result ≡ Ok tt = search rules in
    (n.is, goes_on (parts_lines c.args.frame.now (parts_of 16 n.is.front)) c.datagrams.invariant.1 refl (rw ok at c.put_datagram.ensures) n.told)
