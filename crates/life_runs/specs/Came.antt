-- WHAT CAME INTO HAND OF A SLAVE OF A SERVING: the services of its script, packets, and the mails that were passed on to it.
use Rattle.std.specs.Prelude.{◌≡◌, ℕ, Some, List, [], ◌∷◌, ◌++◌}
use Rattle.master_tour.specs.of_life_model.Script.{life_started}
use Rattle.master_hand.specs.of_state_model.Stated.{Service}
use Rattle.master_tour.specs.of_frame_view.View.{Lens}
use Rattle.master_hand.specs.Spoken.{Asked, passed}
use Rattle.master_hand.specs.of_segment_plan.declared.service.Service as Plan
use Rattle.life_runs.specs.Led.{Comes, Leads}
use Rattle.life_runs.specs.Served.{Keyed, Serves}

-- THE NEXT OF THE SCRIPT, a packet, or the next of these mails, one by one, and so many of the script; `room` is the length of the slave's mailbox 0
pub data ServedCame (room : ℕ) (script : List Plan.Service) : ℕ → List Keyed → List (Service Asked) → Type 0 where
  none : ServedCame room script 0 [] []
  own : (n m : ℕ) (ks : List Keyed) (qs : List (Service Asked)) (q : Service Asked) → ServedCame room script n ks qs → Comes room script n (Some q) m → ServedCame room script m ks (qs ++ q ∷ [])
  mail : (n : ℕ) (ks : List Keyed) (qs : List (Service Asked)) (k : Keyed) → ServedCame room script n ks qs → ServedCame room script n (ks ++ k ∷ []) (qs ++ Service.Mails (passed k.mail) ∷ [])

-- these are among those, in order, each once
pub data AreAmong : List Keyed → List Keyed → Type 0 where
  none : AreAmong [] []
  takes : (k : Keyed) (ks ls : List Keyed) → AreAmong ks ls → AreAmong (k ∷ ks) (k ∷ ls)
  skips : (l : Keyed) (ks ls : List Keyed) → AreAmong ks ls → AreAmong ks (l ∷ ls)

-- OVER ALL EPOCHS OF ITS LIFE: none of the script is skipped; the mails that were passed on and those that wait are among those that were asked, in order,
-- and all of them where the slave was never given up
pub record HasServed (lens : ℕ → Lens) (w : Serves) : Type 0 where
  pub mails : List Keyed
  pub came : ServedCame (lens w.lead.lived.spot.station).out w.lead.script w.lead.number mails (life_started w.lead.lived.life)
  pub among : AreAmong (mails ++ w.waits) w.asked
  pub all : w.lead.lived.life.gave ≡ [] → w.asked ≡ mails ++ w.waits

-- nothing came into hand of a slave
pub record IsFresh (a : Leads) : Type 0 where
  pub number : a.number ≡ 0
  pub started : life_started a.lived.life ≡ []
