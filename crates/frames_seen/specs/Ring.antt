-- A frame through a ring of slaves, over their registers, and what one slave has of it.
use Rattle.std.specs.Prelude.{◌≡◌, ℕ, List, [], ◌∷◌, ⊤}
use Rattle.slave_node.specs.of_datagrams.Datagram as Raw
use Rattle.slave_node.specs.of_esc_registers.declared.registers.Registers as Esc
use Rattle.slave_node.specs.Passing.{registers_after, datagrams_after}
use Rattle.frame_view.specs.of_link_mails.Body.{Body}
use Rattle.slave_node.specs.of_mailbox_slave.Kept.{Kept}
use Rattle.frame_view.specs.of_segment_model.Slaves.{Serving, Datagram, slave_after, frame_after}
use Rattle.frame_view.specs.View.{Lens}
use Rattle.frames_seen.specs.Slaves.{slave_of, IsOpen}
use Rattle.frames_seen.specs.Own.{own_seen, IsApart}

-- the frame behind these slaves
abbrev pub all_after : List Esc.Registers → List Raw.Datagram → List Raw.Datagram
all_after [] ds = ds
all_after (r ∷ rs) ds = all_after rs (datagrams_after r ds)

-- they are all apart from a station, each as the frame comes to it
abbrev pub AllApart : ℕ → List Esc.Registers → List Raw.Datagram → Type 0
AllApart station [] ds = ⊤
AllApart station (r ∷ rs) ds = IsApart station r ds × AllApart station rs (datagrams_after r ds)

-- ONE OPEN SLAVE OF A RING: the frame as it was sent, as it came to the slave, and as it came back behind all
pub record IsRingMet {V : Type 0} (lens : ℕ → Lens) (before : List Esc.Registers) (r : Esc.Registers) (behind : List Esc.Registers) (k : Kept) (v : Serving V Body) (sent : List Raw.Datagram) : Type 0 where
  pub back : own_seen lens r.station (all_after behind (datagrams_after r (all_after before sent))) ≡ frame_after r.station (slave_of k r v) (own_seen lens r.station sent)
  pub slave : slave_of k (registers_after r (all_after before sent)) v ≡ slave_after r.station (slave_of k r v) (own_seen lens r.station sent)
  pub stays : IsOpen lens (registers_after r (all_after before sent))
  pub station : (registers_after r (all_after before sent)).station ≡ r.station

-- a datagram that came back answers the one that was sent: its station, what it asks, whom it means by station, and its access are the same
pub record IsAnswer {M : Type 0} (d e : Datagram M) : Type 0 where
  pub station : e.gram.station ≡ d.gram.station
  pub ask : e.gram.ask ≡ d.gram.ask
  pub access : e.access ≡ d.access

-- each of a frame, in order
abbrev pub AreAnswers : {M : Type 0} → List (Datagram M) → List (Datagram M) → Type 0
AreAnswers [] [] = ⊤
AreAnswers (d ∷ ds) (e ∷ es) = IsAnswer d e × AreAnswers ds es
AreAnswers _ _ = ⊥
