-- A slave, a datagram and a frame with the mails as another sees them.
use Rattle.std.specs.Prelude.{Option, Some, None, List, map}
use Rattle.state_model.specs.of_link_model.Mails.{LinkMail}
use Rattle.state_model.specs.of_link_model.Slave.{OutSide, InSide, Node}
use Rattle.state_model.specs.of_link_model.Frames.{Ask, Gram}
use Rattle.state_model.specs.of_segment_model.Slaves.{Serving, Slave, Datagram}

-- a mail of a link
abbrev pub mail_as : {N M : Type 0} → (N → M) → LinkMail N → LinkMail M
mail_as f m = record { counter = m.counter; body = f m.body }

-- a mailbox, or any mail that may be there
abbrev pub box_as : {N M : Type 0} → (N → M) → Option (LinkMail N) → Option (LinkMail M)
box_as f None = None
box_as f (Some m) = Some (mail_as f m)

-- mailbox 0
abbrev pub out_as : {N M : Type 0} → (N → M) → OutSide N → OutSide M
out_as f s = record { box = box_as f s.box; last_taken = s.last_taken }

-- mailbox 1
abbrev pub in_as : {N M : Type 0} → (N → M) → InSide N → InSide M
in_as f s = record {
  box = box_as f s.box;
  offered = box_as f s.offered;
  again = s.again;
  last_read = box_as f s.last_read;
  withdrawn = box_as f s.withdrawn;
  newest = s.newest;
  request = s.request;
  acknowledge = s.acknowledge;
}

-- and its server as h sees it
abbrev pub serving_as : {N M W V : Type 0} → (N → M) → (W → V) → Serving W N → Serving V M
serving_as f h s = record { server = h s.server; waiting = map f s.waiting }

-- a node
abbrev pub node_as : {N M W V : Type 0} → (N → M) → (W → V) → Node N (Serving W N) → Node M (Serving V M)
node_as f h n = record { out = out_as f n.out; inn = in_as f n.inn; server = serving_as f h n.server }

-- a slave
abbrev pub slave_as : {N M W V : Type 0} → (N → M) → (W → V) → Slave W N → Slave V M
slave_as f h s = record { node = node_as f h s.node; registers = s.registers }

-- what a datagram asks of a mailbox
abbrev pub ask_as : {N M : Type 0} → (N → M) → Ask N → Ask M
ask_as f (Ask.WriteMail m) = Ask.WriteMail (mail_as f m)
ask_as f Ask.ReadMail = Ask.ReadMail
ask_as f (Ask.WriteRequest bit) = Ask.WriteRequest bit
ask_as f Ask.ReadAcknowledge = Ask.ReadAcknowledge
ask_as f Ask.Other = Ask.Other

-- what a link sees of a datagram
abbrev pub gram_as : {N M : Type 0} → (N → M) → Gram N → Gram M
gram_as f g = record { station = g.station; ask = ask_as f g.ask; counter = g.counter; mail = box_as f g.mail; acknowledge = g.acknowledge }

-- a datagram
abbrev pub datagram_as : {N M : Type 0} → (N → M) → Datagram N → Datagram M
datagram_as f d = record { gram = gram_as f d.gram; address = d.address; access = d.access; counter = d.counter; found = d.found }

-- all datagrams of a frame
abbrev pub all_as : {N M : Type 0} → (N → M) → List (Datagram N) → List (Datagram M)
all_as f ds = map (λ d. datagram_as f d) ds
