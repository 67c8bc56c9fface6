-- THE PACKETS AND THE EVENTS OF A SWITCH over the frames of a serving, as over those of a run: a mail that is asked between them changes nothing of them.
use Rattle.std.specs.Prelude.{◌≡◌, ℕ, Option, List, [], ◌++◌, map, length}
use Rattle.arrayvec.specs.ArrayVec.{ArrayVec}
use Rattle.master_node.specs.of_eoe_switch.declared.switching.SwitchEvent.{SwitchEvent}
use Rattle.master_node.specs.of_frame_view.View.{Lens}
use Rattle.master_node.specs.of_life_runs.Led.{Exchanged, gives_up_at}
use Rattle.master_node.specs.Begins.{begins_other, begun_of}
use Rattle.master_node.specs.Serving.{run_lead, run_turn}
use Rattle.packets_heard.specs.Heard.{Joined, Times, joined_none, joined_on, times_none, times_on}
use Rattle.packets_heard.specs.Listed.{ListedOn, long_ones, packets_by}
use Rattle.packets_heard.specs.Numbers.{NumberedOn, each_with, frame_where}
use Rattle.packets_heard.specs.Over.{BegunOn, packet_begun}
use Rattle.master_node.specs.of_life_runs.Served.{Serves, IsServedLed, served_behind}

module _ {lens : ℕ → Lens} {recover retry : ℕ} {first : List Serves} where
  -- a slave's packets, as its master joins them
  abbrev pub served_joined : {fs : List Exchanged} {missed : ℕ} {ws : List Serves} → IsServedLed lens recover retry first fs missed ws → List Joined
  served_joined IsServedLed.start = joined_none (map run_lead first)
  served_joined (IsServedLed.asks fs missed ws place k led may) = served_joined led
  served_joined (IsServedLed.on fs missed ws f vs led frame) = joined_on lens f (served_joined led) (map run_turn vs)

  -- the mails accepted of it each time that it was open
  abbrev pub served_times : {fs : List Exchanged} {missed : ℕ} {ws : List Serves} → IsServedLed lens recover retry first fs missed ws → List Times
  served_times IsServedLed.start = times_none (map run_lead first)
  served_times (IsServedLed.asks fs missed ws place k led may) = served_times led
  served_times (IsServedLed.on fs missed ws f vs led frame) = times_on lens f (served_times led) (map run_turn vs)

  -- THE PACKETS THAT CAME INTO HAND of the slave at a place
  abbrev pub served_packets : {fs : List Exchanged} {missed : ℕ} {ws : List Serves} → IsServedLed lens recover retry first fs missed ws → ℕ → List (ArrayVec ℕ)
  served_packets IsServedLed.start k = []
  served_packets (IsServedLed.asks fs missed ws place key led may) k = served_packets led k
  served_packets (IsServedLed.on fs missed ws f vs led frame) k = served_packets led k ++ packet_begun (begun_of (map run_turn vs) k)

  -- THE FRAMES BEFORE WHICH PACKETS CAME INTO HAND of the slave at a place, in order
  abbrev pub served_begun : {fs : List Exchanged} {missed : ℕ} {ws : List Serves} → IsServedLed lens recover retry first fs missed ws → ℕ → List ℕ
  served_begun IsServedLed.start k = []
  served_begun (IsServedLed.asks fs missed ws place key led may) k = served_begun led k
  served_begun (IsServedLed.on fs missed ws f vs led frame) k = served_begun led k ++ each_with (length fs) (packet_begun (begun_of (map run_turn vs) k))

  -- those before which another service did: one of the script, or a mail that is passed on
  abbrev pub served_other : {fs : List Exchanged} {missed : ℕ} {ws : List Serves} → IsServedLed lens recover retry first fs missed ws → ℕ → List ℕ
  served_other IsServedLed.start k = []
  served_other (IsServedLed.asks fs missed ws place key led may) k = served_other led k
  served_other (IsServedLed.on fs missed ws f vs led frame) k = served_other led k ++ frame_where (begins_other (begun_of (map run_turn vs) k)) (length fs)

  module _ (ports : List (Option ℕ)) where
    -- THE FRAMES THAT BROUGHT THE LAST FRAGMENT OF A PACKET of the slave at a place, in order, once for each packet; those of less than 14 octets are left out
    abbrev pub served_completed : {fs : List Exchanged} {missed : ℕ} {ws : List Serves} → IsServedLed lens recover retry first fs missed ws → ℕ → List ℕ
    served_completed IsServedLed.start k = []
    served_completed (IsServedLed.asks fs missed ws place key led may) k = served_completed led k
    served_completed (IsServedLed.on fs missed ws f vs led frame) k =
        served_completed led k ++ each_with (length fs) (long_ones (packets_by lens recover retry ports f f.fate (map run_turn vs) (served_joined led) k))

    -- THE EVENTS OF A SERVING, frame by frame
    abbrev pub ServedListed : {fs : List Exchanged} {missed : ℕ} {ws : List Serves} → IsServedLed lens recover retry first fs missed ws → List SwitchEvent → Type 0
    ServedListed IsServedLed.start es = es ≡ []
    ServedListed (IsServedLed.asks fs missed ws place k led may) es = ServedListed led es
    ServedListed (IsServedLed.on fs missed ws f vs led frame) es =
        ListedOn lens recover retry ports (λ old. ServedListed led old) f (map run_turn vs) (map run_lead (map (served_behind lens recover retry (gives_up_at lens recover retry missed) (length fs) f) vs)) (served_joined led) es

    -- JUST THE PACKETS BEGIN THAT CAME INTO HAND, frame by frame, each the oldest at the port of its slave, of a switch with so many ports
    abbrev pub AreServedBegun : ℕ → {fs : List Exchanged} {missed : ℕ} {ws : List Serves} → IsServedLed lens recover retry first fs missed ws → List SwitchEvent → Type 0
    AreServedBegun many IsServedLed.start es = es ≡ []
    AreServedBegun many (IsServedLed.asks fs missed ws place k led may) es = AreServedBegun many led es
    AreServedBegun many (IsServedLed.on fs missed ws f vs led frame) es = BegunOn (λ old. AreServedBegun many led old) ports many (map run_turn vs) es

    -- EACH EVENT HAS ITS NUMBER, frame by frame: how many frames had been sent when it came
    abbrev pub ServedNumbered : ℕ → {fs : List Exchanged} {missed : ℕ} {ws : List Serves} → IsServedLed lens recover retry first fs missed ws → List SwitchEvent → List ℕ → Type 0
    ServedNumbered many IsServedLed.start es ns = (es ≡ []) × (ns ≡ [])
    ServedNumbered many (IsServedLed.asks fs missed ws place k led may) es ns = ServedNumbered many led es ns
    ServedNumbered many (IsServedLed.on fs missed ws f vs led frame) es ns =
        NumberedOn (λ old. ServedListed led old) (λ old. AreServedBegun many led old) (λ old numbers. ServedNumbered many led old numbers) ports many (length fs) (map run_turn vs) es ns
