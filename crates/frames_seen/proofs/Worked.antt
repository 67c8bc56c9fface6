-- A frame of 60 octets with the write of a mail of 8 octets to station 4097, and the read of mailbox 1 behind a slave, as they are seen.
use Rattle.std.proofs.Common.{◌≡◌, ℕ, false, List, [], ◌∷◌, refl}
use Rattle.std.specs.Prelude.{Ok}
use Rattle.slave_node.specs.of_datagrams.declared.command.Command.TheVariants.{Fpwr}
use Rattle.slave_node.specs.of_datagrams.Datagram as Raw
use Rattle.slave_node.specs.of_datagrams.Frame.{frame_text}
use Rattle.frame_view.specs.of_mailbox_mail.declared.mail.Kind.TheVariants.{CoE}
use Rattle.frame_view.specs.of_link_model.Frames.{Ask}
use Rattle.frame_view.specs.of_segment_model.Slaves.{Address, Access}
use Rattle.frame_view.specs.View.{Lens, asking}
use Rattle.frame_view.specs.Seen.{seen}

written : Raw.Datagram
written = record {
  head = record { command = Fpwr; index = 7; adp = 4097; ado = 4096; len = 8; circulating = false; more = false; interrupt = 0; counter = 0 };
  reserved = 0;
  body = 2 ∷ 0 ∷ 0 ∷ 0 ∷ 0 ∷ 51 ∷ 9 ∷ 8 ∷ [];
}

the_octets : List ℕ
unfolding written
the_octets = frame_text (written ∷ [])

lens_8 : ℕ → Lens
lens_8 station = record { out = 8; back = 8 }

worked : seen lens_8 the_octets ≡ asking (Ask.WriteMail (record { counter = 3; body = Ok (record { address = 0; kind = CoE; counter = 0; body = record { items = 9 ∷ 8 ∷ [] } }) })) Access.Elsewhere 4097 (Address.Station 4097) 0 (2 ∷ 0 ∷ 0 ∷ 0 ∷ 0 ∷ 51 ∷ 9 ∷ 8 ∷ []) ∷ []
unfolding written the_octets lens_8
worked = refl
