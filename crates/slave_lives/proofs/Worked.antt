-- A frame of 60 octets round a ring of two slaves: a mail for the first, which is open, and the first access of a reopening for the second.
use Rattle.std.proofs.Common.{◌≡◌, ℕ, true, false, List, [], ◌∷◌, refl}
use Rattle.std.specs.Prelude.{None, Ok, map, replicate, zero, suc}
use Rattle.frames_seen.specs.of_datagrams.declared.command.Command.TheVariants.{Fpwr, Apwr}
use Rattle.frames_seen.specs.of_datagrams.Datagram as Raw
use Rattle.frames_seen.specs.of_datagrams.Frame.{frame_text}
use Rattle.frames_seen.specs.of_esc_registers.declared.registers.Registers as Esc
use Rattle.frames_seen.specs.of_mailbox_mail.declared.mail.Kind.TheVariants.{CoE}
use Rattle.frames_seen.specs.of_link_model.Frames.{Ask}
use Rattle.frames_seen.specs.of_segment_model.Slaves.{Address, Access}
use Rattle.frames_seen.specs.of_segment_ring.Ring.{ring_behind, RingState}
use Rattle.frames_seen.specs.of_frame_view.View.{Lens, asking}
use Rattle.frames_seen.specs.of_frame_view.Seen.{seen}
use Rattle.frames_seen.specs.Slaves.{registers_seen}
use Rattle.frames_seen.specs.of_slave_node.Node.{Node, new_box, node_passed}
use Rattle.slave_lives.specs.Nodes.{stepped}
use Rattle.slave_lives.specs.Steps.{Running}

written : Raw.Datagram
written = record {
  head = record { command = Fpwr; index = 7; adp = 4097; ado = 4096; len = 8; circulating = false; more = true; interrupt = 0; counter = 0 };
  reserved = 0;
  body = 2 ∷ 0 ∷ 0 ∷ 0 ∷ 0 ∷ 51 ∷ 9 ∷ 8 ∷ [];
}

-- the slave at place 1 has ADP 65535 before the first
returning : Raw.Datagram
returning = record {
  head = record { command = Apwr; index = 8; adp = 65535; ado = 288; len = 2; circulating = false; more = false; interrupt = 0; counter = 0 };
  reserved = 0;
  body = 17 ∷ 0 ∷ [];
}

the_octets : List ℕ
unfolding written returning
the_octets = frame_text (written ∷ returning ∷ [])

lens_8 : ℕ → Lens
lens_8 station = record { out = 8; back = 8 }

-- as it is seen
worked : seen lens_8 the_octets ≡
    asking (Ask.WriteMail (record { counter = 3; body = Ok (record { address = 0; kind = CoE; counter = 0; body = record { items = 9 ∷ 8 ∷ [] } }) })) Access.Elsewhere 4097 (Address.Station 4097) 0 (2 ∷ 0 ∷ 0 ∷ 0 ∷ 0 ∷ 51 ∷ 9 ∷ 8 ∷ [])
    ∷ asking Ask.Other (Access.SetControl 1 true) 0 (Address.Place 1) 0 (17 ∷ 0 ∷ []) ∷ []
unfolding written returning the_octets lens_8
worked = refl

-- a slave in PreOp with both managers on, whose server counts what it takes
registers : ℕ → Esc.Registers
registers station = record {
  station = station;
  al_control = 2;
  unhandled = false;
  al_status = 2;
  al_code = 0;
  out_manager = record { start = 4096; length = 8; control = 38; activate = 1; acknowledge = false; full = false; area = replicate 8 0 };
  in_manager = record { start = 6144; length = 8; control = 34; activate = 1; acknowledge = false; full = false; area = replicate 8 0 };
}

slave : ℕ → Node ℕ
unfolding registers
slave station = record { registers = registers station; kept = new_box; al = record { state = 2; error = 0 }; boot = false; server = 5 }

counting : Running ℕ
counting = record { take = λ n b al. suc n; next = λ n. None; rest = λ n. n; clear = λ n. zero }

ring : RingState (Node ℕ)
unfolding slave registers
ring = record { nodes = slave 4097 ∷ slave 4098 ∷ []; paces = 1 ∷ 1 ∷ []; lose = []; number = 0 }

-- behind the frame and a step of each: the first has taken the mail, the second is in Init, its server cleared
told : Node ℕ → ℕ × ℕ × ℕ × ℕ
told n = (n.registers.station, n.server, (registers_seen n.registers).state, n.kept.last_taken)

seen_states : map told (ring_behind node_passed (stepped counting) ring the_octets).nodes
    ≡ (4097, 6, 2, 3) ∷ (4098, 0, 1, 0) ∷ []
unfolding written returning the_octets registers slave counting ring told
seen_states = refl
