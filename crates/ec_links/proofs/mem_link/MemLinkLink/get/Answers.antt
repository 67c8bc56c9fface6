use Rattle.std.proofs.Common.{◌≡◌, true, arith}
use Rattle.ec_links.specs.Link.{left_at, from_piece, piece_first}
use Rattle.ec_links.specs.declared.link.Piece.TheVariants.{Quiet}
use Rattle.ec_links.proofs.Given.{has_octets, never_quiet}
use Rattle.ec_links.proofs.mem_link.MemLinkLink.get.Goals as goal

pub give-piece-requires-clause-ready : goal.give-piece-requires-clause-ready
give-piece-requires-clause-ready c =
    let left : left_at c.next_place-self.result c.args.self.now.from c.args.self.now.items
    ≡ from_piece c.args.wait (left_at c.args.self.now.at c.args.self.now.from c.args.self.now.items) = grind arith in
    rw left (has_octets c.args.wait (left_at c.args.self.now.at c.args.self.now.from c.args.self.now.items))

pub returns-clause-waits : goal.returns-clause-waits
returns-clause-waits c = λ waits quiet.
    let answer : piece_first (from_piece true (left_at c.args.self.now.at c.args.self.now.from c.args.self.now.items)) ≡ Quiet = grind arith in
    never_quiet (left_at c.args.self.now.at c.args.self.now.from c.args.self.now.items) answer
