-- WHEN THE PACKETS WERE OVER that came into hand of the slaves of a run or a serving, by the lives of these.
use Rattle.std.specs.Prelude.{◌≡◌, ◌&&◌, ℕ, Bool, not, Option, None, List, [], ◌++◌, length, map, ⊤}
use Rattle.packets_heard.specs.of_master_node.Backtold.{has_packet}
use Rattle.packets_heard.specs.of_master_node.Begins.{begun_of}
use Rattle.packets_heard.specs.of_master_node.Serving.{run_lead, run_turn}
use Rattle.plan_ring.specs.of_frame_view.Seen.{seen}
use Rattle.plan_ring.specs.of_frame_view.View.{Lens}
use Rattle.plan_ring.specs.of_frame_view.Shares.{Lived}
use Rattle.served_places.specs.of_exchange_model.Exchange.{Speech}
use Rattle.served_places.specs.of_life_model.Lives.{Life}
use Rattle.served_places.specs.of_life_runs.Led.{Exchanged, IsLed, Leads, Turn, gives_up_at, led_behind, speech_at}
use Rattle.served_places.specs.of_life_runs.Spans.{is_open}
use Rattle.served_places.specs.of_link_mails.Body.{Body}
use Rattle.served_places.specs.of_master_duty.Reply.{Reply}
use Rattle.served_places.specs.of_state_model.Stated.{Service}
use Rattle.served_places.specs.of_master_hand.Spoken.{Asked}
use Rattle.served_places.specs.of_master_tour.Goes.{holds_at}
use Rattle.served_places.specs.of_state_model.Accounts.{is_free}
use Rattle.packets_heard.specs.Over.{packet_begun}
use Rattle.plan_ring.specs.Dues.{AllDue}
use Rattle.run_notes.specs.Handed.{AllWhere, is_packet}
use Rattle.run_notes.specs.declared.notes.Notes.{Notes}
use Rattle.run_record.specs.Mails.{overs_behind}
use Rattle.served_places.specs.of_segment_ring.declared.wire.Fate.TheVariants as Fates
use Rattle.served_places.specs.of_life_runs.Served.{IsServedLed, Serves, served_behind}

-- a packet is in hand of an open slave, by its life: the newest service by mails is one, and a fragment of it isn't written yet
abbrev pub has_fragments : Speech Body Asked Reply → Life Body Asked Reply → Bool
has_fragments x l = is_open l.stand && (has_packet l.era.side.now && not (is_free x l.era.side l.era.side.now))

-- with the mailboxes that the slave has
abbrev pub has_unwritten : (ℕ → Lens) → Lived Asked Reply → Bool
has_unwritten lens l = has_fragments (speech_at lens l.spot) l.life

-- of the slave at a place, between frames
abbrev pub forwards_now : (ℕ → Lens) → List Leads → ℕ → Bool
forwards_now lens as' k = holds_at (λ a. has_unwritten lens a.lived) as' k

-- and before one
abbrev pub forwards_before : (ℕ → Lens) → List Turn → ℕ → Bool
forwards_before lens us k = holds_at (λ u. has_unwritten lens u.lived) us k

-- a packet isn't over yet as it comes into hand
abbrev pub packet_open : Option (Service Asked) → List (Option ℕ)
packet_open b = map (λ p. None) (packet_begun b)

-- with a frame that came back the packet in hand is over, where it was in hand before the return and isn't behind it
abbrev pub written_on : (ℕ → Lens) → Exchanged → ℕ → List Turn → List Leads → ℕ → List (Option ℕ) → List (Option ℕ)
written_on lens f made us behind k overs = overs_behind f.fate made (forwards_before lens us k) (forwards_now lens behind k) (overs ++ packet_open (begun_of us k))

module _ {lens : ℕ → Lens} {recover retry : ℕ} {first : List Leads} where
  -- WHEN THE PACKETS WERE OVER of the slave at a place of a run, in order: each with the number of the frame behind whose return its last fragment was written, if it was
  abbrev pub packets_written : {fs : List Exchanged} {missed : ℕ} {as' : List Leads} → IsLed lens recover retry first fs missed as' → ℕ → List (Option ℕ)
  packets_written IsLed.start k = []
  packets_written (IsLed.on fs missed as' f us led frame) k = written_on lens f (length fs) us (map (led_behind lens recover retry (gives_up_at lens recover retry missed) (length fs) f) us) k (packets_written led k)

  -- EACH MAIL THAT WAS ACCEPTED OVER A RUN WAS DUE
  abbrev pub WereDue : {fs : List Exchanged} {missed : ℕ} {as' : List Leads} → IsLed lens recover retry first fs missed as' → Type 0
  WereDue IsLed.start = ⊤
  WereDue (IsLed.on fs missed as' f us led frame) = WereDue led × (f.fate ≡ Fates.Pass → AllDue lens (seen lens f.back) us)

module _ {lens : ℕ → Lens} {recover retry : ℕ} {first : List Serves} where
  -- the same of a serving
  abbrev pub served_written : {fs : List Exchanged} {missed : ℕ} {ws : List Serves} → IsServedLed lens recover retry first fs missed ws → ℕ → List (Option ℕ)
  served_written IsServedLed.start k = []
  served_written (IsServedLed.asks fs missed ws place key led may) k = served_written led k
  served_written (IsServedLed.on fs missed ws f vs led frame) k =
      written_on lens f (length fs) (map run_turn vs) (map run_lead (map (served_behind lens recover retry (gives_up_at lens recover retry missed) (length fs) f) vs)) k (served_written led k)

  -- EACH MAIL THAT WAS ACCEPTED OVER A SERVING WAS DUE
  abbrev pub WereServedDue : {fs : List Exchanged} {missed : ℕ} {ws : List Serves} → IsServedLed lens recover retry first fs missed ws → Type 0
  WereServedDue IsServedLed.start = ⊤
  WereServedDue (IsServedLed.asks fs missed ws place key led may) = WereServedDue led
  WereServedDue (IsServedLed.on fs missed ws f vs led frame) = WereServedDue led × (f.fate ≡ Fates.Pass → AllDue lens (seen lens f.back) (map run_turn vs))

  -- JUST THE ANSWERS OF ITS PACKETS ARE NOTED of each slave behind these frames of a serving, and whether one is in hand
  abbrev pub AreWritten : {fs : List Exchanged} {missed : ℕ} {ws : List Serves} → IsServedLed lens recover retry first fs missed ws → List Notes → Type 0
  AreWritten {fs} {missed} {ws} led notes = AllWhere is_packet (λ k. served_written led k) (λ k. forwards_now lens (map run_lead ws) k) notes
