use Rattle.std.proofs.Common.{◌≡◌, ◌∙◌, ap, sym, false, is_none, Some, Ok, Err, rules}
use Rattle.ec_links.specs.Link.{GivesPiece, is_quiet}
use Rattle.ec_links.specs.declared.link.Piece.TheVariants.{Bytes, Quiet, Ended}
use Rattle.gateway_stream.specs.Cutting.{missing, is_full, is_whole}
use Rattle.gateway_stream.specs.Hearing.{heard_of, TurnsTo}
use Rattle.gateway_stream.proofs.Heard.{hears_none, hears_one, gave, as_ended}
use Rattle.gateway_stream.proofs.stream.StreamPort.turn.Goals as goal

pub returns-in-Some-eq0-clause-hears : goal.returns-in-Some-eq0-clause-hears
returns-in-Some-eq0-clause-hears g c =
    let asked : missing c.args.self.now.kept.items ≡ Some c.in-Some.most = search rules in
    let none : missing c.get.new.into.items ≡ Some 0 = search rules in
    let answer : c.get.result ≡ Ok Bytes = search rules in
    let piece : GivesPiece (g.L.Link.given c.args.self.now.link) (g.L.Link.given c.get.new.self) c.args.self.now.kept.items c.get.new.into.items c.in-Some.most =
    gave (g.L.Link.given c.args.self.now.link) (g.L.Link.given c.get.new.self) c.args.self.now.kept.items c.get.new.into.items c.in-Some.most
    c.get.result c.get.ensures.gives answer in
    rw (c.clear.ensures, c.refill.ensures ∙ c.as_slice-in-Some-eq0.ensures.value)
    (hears_one (g.L.Link.given c.args.self.now.link) (g.L.Link.given c.get.new.self) c.args.self.now.kept.items c.get.new.into.items c.in-Some.most
    asked piece (ap (λ left. is_full left) none))

pub returns-in-Some-missing-clause-hears : goal.returns-in-Some-missing-clause-hears
returns-in-Some-missing-clause-hears g c =
    let asked : missing c.args.self.now.kept.items ≡ Some c.in-Some.most = search rules in
    let unfinished : is_whole c.get.new.into.items ≡ false = search rules in
    let answer : c.get.result ≡ Ok Bytes = search rules in
    rw c.requires.blank
    (hears_none (g.L.Link.given c.args.self.now.link) (g.L.Link.given c.get.new.self) c.args.self.now.kept.items c.get.new.into.items c.in-Some.most asked
    (gave (g.L.Link.given c.args.self.now.link) (g.L.Link.given c.get.new.self) c.args.self.now.kept.items c.get.new.into.items c.in-Some.most
    c.get.result c.get.ensures.gives answer)
    unfinished)

pub returns-in-None-clause-hears : goal.returns-in-None-clause-hears
returns-in-None-clause-hears g c =
    let asked : missing c.args.self.now.kept.items ≡ Some c.in-Some.most = search rules in
    let unfinished : is_whole c.get.new.into.items ≡ false = search rules in
    let answer : c.get.result ≡ Ok Bytes = search rules in
    rw c.requires.blank
    (as_ended (heard_of (g.L.Link.given c.args.self.now.link) c.args.self.now.kept.items) (heard_of (g.L.Link.given c.get.new.self) c.get.new.into.items)
    (hears_none (g.L.Link.given c.args.self.now.link) (g.L.Link.given c.get.new.self) c.args.self.now.kept.items c.get.new.into.items c.in-Some.most asked
    (gave (g.L.Link.given c.args.self.now.link) (g.L.Link.given c.get.new.self) c.args.self.now.kept.items c.get.new.into.items c.in-Some.most
    c.get.result c.get.ensures.gives answer)
    unfinished))

pub returns-in-Some-eq0-clause-asks : goal.returns-in-Some-eq0-clause-asks
returns-in-Some-eq0-clause-asks g c =
    let asked : missing c.args.self.now.kept.items ≡ Some c.in-Some.most = search rules in
    let answer : c.get.result ≡ Ok Bytes = search rules in
    TurnsTo.asked c.get.result (ap is_none asked) c.get.ensures.asks (sym (ap is_quiet answer))

pub returns-in-Some-missing-clause-asks : goal.returns-in-Some-missing-clause-asks
returns-in-Some-missing-clause-asks g c =
    let asked : missing c.args.self.now.kept.items ≡ Some c.in-Some.most = search rules in
    let answer : c.get.result ≡ Ok Bytes = search rules in
    TurnsTo.asked c.get.result (ap is_none asked) c.get.ensures.asks (sym (ap is_quiet answer))

pub returns-in-None-clause-asks : goal.returns-in-None-clause-asks
returns-in-None-clause-asks g c =
    let asked : missing c.args.self.now.kept.items ≡ Some c.in-Some.most = search rules in
    let answer : c.get.result ≡ Ok Bytes = search rules in
    TurnsTo.asked c.get.result (ap is_none asked) c.get.ensures.asks (sym (ap is_quiet answer))

pub returns-in-Ok-Quiet-clause-asks : goal.returns-in-Ok-Quiet-clause-asks
returns-in-Ok-Quiet-clause-asks g c =
    let asked : missing c.args.self.now.kept.items ≡ Some c.in-Some.most = search rules in
    let answer : c.get.result ≡ Ok Quiet = search rules in
    TurnsTo.asked c.get.result (ap is_none asked) c.get.ensures.asks (sym (ap is_quiet answer))

pub returns-in-Ok-Ended-clause-asks : goal.returns-in-Ok-Ended-clause-asks
returns-in-Ok-Ended-clause-asks g c =
    let asked : missing c.args.self.now.kept.items ≡ Some c.in-Some.most = search rules in
    let answer : c.get.result ≡ Ok Ended = search rules in
    TurnsTo.asked c.get.result (ap is_none asked) c.get.ensures.asks (sym (ap is_quiet answer))

pub returns-in-Err-clause-asks : goal.returns-in-Err-clause-asks
returns-in-Err-clause-asks g c =
    let asked : missing c.args.self.now.kept.items ≡ Some c.in-Some.most = search rules in
    let answer : c.get.result ≡ Err c.in-Err.error = search rules in
    TurnsTo.asked c.get.result (ap is_none asked) c.get.ensures.asks (sym (ap is_quiet answer))
