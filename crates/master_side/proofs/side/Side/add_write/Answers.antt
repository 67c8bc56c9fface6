use Rattle.std.proofs.Common.{◌+◌, ◌++◌, ◌∷◌, [], ◌∙◌, ap, length}
use Rattle.mailbox_master.specs.of_datagrams.Frame.{IsBegun}
use Rattle.mailbox_master.specs.Seat.{seat_octets, text_of}
use Rattle.master_side.proofs.Grams.{write_begun, write_sent}
use Rattle.master_side.proofs.Agains.{seat_len}
use Rattle.master_side.proofs.side.Side.add_write.Goals as goal

pub returns-clause-begun : goal.returns-clause-begun
returns-clause-begun g c = λ ds b.
    let out = c.args.self.now.out in
    write_begun c.args.index out _ (seat_octets out) (λ d. IsBegun c.add_with.new.frame.items (ds ++ d ∷ [])) c.requires.held c.head-head.ensures.head (λ m e. ap (text_of out.len) e) (c.add_with.ensures.adds ds b)

pub returns-clause-sent : goal.returns-clause-sent
returns-clause-sent g c = let side = c.args.self.now in write_sent c.args.index side.area side.out c.requires.held c.head-head.ensures.reads side.out_least side.out_most

pub returns-clause-grows : goal.returns-clause-grows
returns-clause-grows g c = c.add_with.ensures.len ∙ ap (λ n. length c.args.frame.now.items + (12 + n)) (seat_len c.args.self.now.out c.head-head.ensures.reads)
