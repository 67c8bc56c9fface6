-- THE EPOCHS OF A LIFE that are over, each with the server that its slave left.
use Rattle.std.specs.Prelude.{◌≡◌, ◌≤◌, ◌<◌, ◌∷◌, ◌++◌, ℕ, true, false, Option, Some, None, List, [], length, ⊤}
use Rattle.frames_seen.specs.of_exchange_model.Exchange.{Speech, plain}
use Rattle.frames_seen.specs.of_exchange_model.Rows.{Row, answer_after}
use Rattle.frames_seen.specs.of_frame_view.Seen.{seen}
use Rattle.frames_seen.specs.of_link_mails.Body.{Body}
use Rattle.frames_seen.specs.of_segment_model.Record.{Frame}
use Rattle.frames_seen.specs.of_segment_model.Slaves.{Registers, Slave}
use Rattle.frames_seen.specs.of_life_model.Lives.{Spot, Era}
use Rattle.frames_seen.specs.of_life_model.Eras.{EraIs, Clearing, IsClearing}
use Rattle.frames_seen.specs.of_life_model.Own.{own}
use Rattle.frames_seen.specs.of_state_model.Accounts.{Pick}
use Rattle.frames_seen.specs.of_segment_ring.Ring.{is_in_pace}
use Rattle.slave_lives.specs.Lived.{Behind, table_of, RingFrame, octets_back, is_reached, node_met, LivesEra, IsForOpen, StepsUp}

-- AN EPOCH THAT ENDED: it was open up to one of these frames, from this application on, and its slave left this server
pub record LeftEra {S V A Q R : Type 0} (w : Behind S V A Q R) (spot : Spot) (from : A) (e : Era Body Q R) (fs : List (Frame Body)) (s : S) : Type 0 where
  pub opened : ℕ
  pub until : ℕ
  pub server : V
  pub registers : Registers
  pub slave : Slave V Body
  pub before : opened < until
  pub within : until ≤ length fs
  pub begins : w.exchange.app server ≡ w.states.told registers.state from
  pub first : e.cleared ≡ None → registers.state ≡ spot.start
  pub in_state : registers.state ≡ e.state
  pub is : EraIs w.exchange w.states w.processor (table_of w) spot e opened until fs server registers slave
  pub state : ℕ
  pub leaves : slave.node.server.server ≡ (w.sees state s).server

-- a return to Init clears the server, as it is seen in each AL state
pub record ClearsAs {S V A Q R : Type 0} (w : Behind S V A Q R) (c : Clearing V A) : Type 0 where
  pub clearing : IsClearing w.exchange c
  pub seen : (al : ℕ) (s : S) → (w.sees al (w.running.clear s)).server ≡ c.clear (w.sees al s).server

-- ALL EPOCHS THAT ARE OVER, from one application to another: each that was opened leaves what the next begins with, cleared, and so does one
-- that wasn't, by what stood before it
pub data LeftEras {S V A Q R : Type 0} (w : Behind S V A Q R) (cleared : A → A) (spot : Spot) (fs : List (Frame Body)) : A → List (Era Body Q R) → A → Type 0 where
  none : (a : A) → LeftEras w cleared spot fs a [] a
  closed : (a : A) (es : List (Era Body Q R)) (b : A) (e : Era Body Q R) → LeftEras w cleared spot fs a es b → e.opened ≡ None → LeftEras w cleared spot fs a (es ++ e ∷ []) (cleared b)
  opened : (a : A) (es : List (Era Body Q R)) (b : A) (e : Era Body Q R) (s : S) → LeftEras w cleared spot fs a es b → (left : LeftEra w spot b e fs s) →
      LeftEras w cleared spot fs a (es ++ e ∷ []) (cleared (w.exchange.app (w.sees left.state s).server))

-- no wish
abbrev pub no_pick : {Q : Type 0} → Pick Q
no_pick = record { begin = None; hold = false }

-- the row in hand has the answer that the mails heard for it are
abbrev pub IsAnswered : {M Q R : Type 0} → Speech M Q R → Option (Row M Q R) → Type 0
IsAnswered x None = ⊤
IsAnswered x (Some r) = (frame : ℕ) → answer_after frame r.answer (x.ends r.service (plain x.emission r.heard)) ≡ r.answer

-- A FRAME WITHOUT DATAGRAMS OF THE SLAVE, as while a reopening has begun and hasn't reached it
pub record QuietFrame {S V A Q R : Type 0} (w : Behind S V A Q R) (spot : Spot) (e : Era Body Q R) (t : RingFrame S) : Type 0 where
  pub sent : own spot.station (seen w.lens t.octets) ≡ []
  pub back : own spot.station (seen w.lens (octets_back t)) ≡ []
  pub answered : IsAnswered w.exchange.speech e.side.now

-- a frame of a slave whose reopening has begun and hasn't reached it: its epoch is lived by its node yet
pub record YetFrame {S V A Q R : Type 0} (w : Behind S V A Q R) (spot : Spot) (from : A) (e : Era Body Q R) (fs : List (Frame Body)) (t : RingFrame S) : Type 0 where
  pub at : length t.before ≡ spot.place
  pub lives : LivesEra w spot from e fs t.node
  pub alone : is_reached t ≡ true → IsForOpen t.before t.node t.behind t.datagrams
  pub quiet : QuietFrame w spot e t
  pub steps : is_in_pace t.pace t.ring.number ≡ true → StepsUp w (node_met t)
