-- THE LIFE OF A SLAVE BY EPOCHS THAT ITS MASTER LEADS, turn by turn, with the counters that its record keeps.
use Rattle.std.specs.Prelude.{◌≡◌, ℕ, Bool, Option, List, [], ◌∷◌, ◌++◌}
use Rattle.served_rings.specs.Counters.{IsCounted}
use Rattle.run_work.specs.of_frame_view.Seen.{seen}
use Rattle.run_work.specs.of_frame_view.View.{Lens}
use Rattle.run_work.specs.of_frames_seen.Slaves.{registers_seen}
use Rattle.served_rings.specs.Led.{LedEra}
use Rattle.served_places.specs.of_life_model.Lives.{Spot, Era, Life, new_era}
use Rattle.served_places.specs.of_link_mails.Body.{Body}
use Rattle.served_places.specs.of_link_model.Segment.{RingFate}
use Rattle.run_work.specs.of_master_side.Passing.{news_back, news_lost}
use Rattle.served_places.specs.of_segment_model.Record.{Frame, News, Kept}
use Rattle.served_places.specs.of_segment_model.Slaves.{Datagram}
use Rattle.run_work.specs.of_slave_lives.Lived.{Behind, RingFrame, octets_back}
use Rattle.run_work.specs.of_slave_lives.Opening.{Plan}
use Rattle.run_work.specs.of_slave_node.Node.{Node}
use Rattle.run_work.specs.of_whole_ring.Whole.{IsLivedBy}

module _ {S V A Q R : Type 0} (w : Behind S V A Q R) (more : Body → Bool) (passed : Q → Bool) (spot : Spot) where
  -- an open slave's epoch, with those counters
  pub record LedKept (kept : Kept) (counts : Bool) (from : A) (e : Era Body Q R) (fs : List (Frame Body)) (n : Node S) : Type 0 where
    pub led : Bool
    pub era : LedEra w more passed spot from led e fs n
    pub counted : IsCounted spot era.opened fs led kept counts

  -- one whose reopening hasn't reached it
  pub record LedYet (from : A) (e : Era Body Q R) (fs : List (Frame Body)) (n : Node S) : Type 0 where
    pub led : Bool
    pub era : LedEra w more passed spot from led e fs n

  -- one that is over: up to some frames, and the slave left this server
  pub record LedLeft (from : A) (e : Era Body Q R) (s : S) : Type 0 where
    pub led : Bool
    pub frames : List (Frame Body)
    pub node : Node S
    pub era : LedEra w more passed spot from led e frames node
    pub same : node.server ≡ s

  -- ALL THAT ARE OVER, from one application to another: each that was opened leaves what the next begins with, cleared, and so does one that wasn't, by what
  -- stood before it
  pub data AllLeds (cleared : A → A) : A → List (Era Body Q R) → A → Type 0 where
    none : (a : A) → AllLeds cleared a [] a
    closed : (a : A) (es : List (Era Body Q R)) (b : A) (e : Era Body Q R) (at : Option ℕ) (state : ℕ) → AllLeds cleared a es b → e ≡ new_era at state → AllLeds cleared a (es ++ e ∷ []) (cleared b)
    opened : (a : A) (es : List (Era Body Q R)) (b : A) (e : Era Body Q R) (s : S) → AllLeds cleared a es b → (left : LedLeft b e s) →
        AllLeds cleared a (es ++ e ∷ []) (w.exchange.app (w.sees (registers_seen left.node.registers).state (w.running.clear s)).server)

  -- THE LIFE, with the counters that stand behind the last frame, where the slave is open
  abbrev pub IsLedLived : (A → A) → Plan → Kept → Bool → A → Life Body Q R → List (Frame Body) → Node S → Type 0
  IsLedLived cleared p kept counts first l fs n = IsLivedBy w (λ a e gs m. LedKept kept counts a e gs m) (λ a e gs m. LedYet a e gs m) (λ a e gs s. LedLeft a e s) (λ gs a es b. AllLeds cleared a es b) p spot first l fs n

-- a frame as the record of a slave has it, by how it was sent, its fate and what came back: as it came back, or as it was sent where it was lost
abbrev pub recorded_by : List (Datagram Body) → RingFate → List (Datagram Body) → Frame Body
recorded_by sent RingFate.Back back = record { sent = back; fate = RingFate.Back; back = back }
recorded_by sent (RingFate.Lost after) back = record { sent = sent; fate = RingFate.Lost 0; back = [] }

-- and the news that the record says of it
abbrev pub news_by : ℕ → Kept → Bool → List (Datagram Body) → RingFate → List (Datagram Body) → List (News Body)
news_by station kept counts sent RingFate.Back back = news_back station kept counts back
news_by station kept counts sent (RingFate.Lost after) back = news_lost station kept sent

-- of a frame
abbrev pub recorded_of : Frame Body → Frame Body
recorded_of f = recorded_by f.sent f.fate f.back

-- its news
abbrev pub news_of : ℕ → Kept → Bool → Frame Body → List (News Body)
news_of station kept counts f = news_by station kept counts f.sent f.fate f.back

-- of a frame of a ring, at a fate
abbrev pub recorded_as : {S : Type 0} → (ℕ → Lens) → RingFrame S → RingFate → Frame Body
recorded_as lens t fate = recorded_by (seen lens t.octets) fate (seen lens (octets_back t))

-- its news
abbrev pub news_as : {S : Type 0} → (ℕ → Lens) → ℕ → Kept → Bool → RingFrame S → RingFate → List (News Body)
news_as lens station kept counts t fate = news_by station kept counts (seen lens t.octets) fate (seen lens (octets_back t))
