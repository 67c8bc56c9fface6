-- WHAT ONE FRAME MORE BRINGS of an open slave whose master passes mails on.
use Rattle.std.specs.Prelude.{Option, List, length}
use Rattle.idle_slaves.specs.of_exchange_model.Exchange.{Exchange}
use Rattle.idle_slaves.specs.of_life_model.Lives.{AsksOpen, Era, Spot, era_next}
use Rattle.idle_slaves.specs.of_life_model.Own.{own}
use Rattle.idle_slaves.specs.of_link_model.Frames.{all_accepted}
use Rattle.served_rings.specs.of_master_side.Due.{EachDue}
use Rattle.served_rings.specs.of_few_replies.Led.{AreSingle}
use Rattle.idle_slaves.specs.of_segment_model.Record.{Frame}
use Rattle.idle_slaves.specs.of_segment_model.Slaves.{Datagram, Slave, frame_after, grams}
use Rattle.served_rings.specs.of_life_counts.Epochs.{AllFair, Speaker}
use Rattle.idle_slaves.specs.of_state_model.Accounts.{Pick, Started}

module _ {V M Q R C T : Type 0} (w : Speaker V M Q R C T) where
  -- each mail is fair to the slave, whatever comes into hand
  abbrev pub AllAreFair : Type 0
  AllAreFair = (ts : List (Started T)) → AllFair w ts

  -- WHAT A FRAME BRINGS IS DUE, by the row in hand as the frame finds it: whatever the master chooses before, where the frame asks of the slave what it may
  abbrev pub SeenBringsDue : {A : Type 0} → Exchange V A M T (Option R) → Spot → List (Frame M) → Era M T (Option R) → Slave V M → Type 0
  SeenBringsDue u spot fs e n = (pick : Pick T) (sent : List (Datagram M)) →
      (let k = era_next u.speech w.naming.acknowledged w.naming.more w.naming.passed (length fs) e pick in
      AsksOpen spot.station k sent → AreSingle (own spot.station sent) → EachDue w.naming.speech k.side.now (all_accepted spot.station k.side.halves (grams (frame_after spot.station n (own spot.station sent)))))
