-- A MASTER MAKES NO VISIT IN VAIN ALSO WHILE MAILS ARE PASSED ON: what its frames ask a slave of a serving, what is then remembered, what begins, and when all rest.
use Rattle.std.specs.Prelude.{◌≡◌, ◌⊎◌, ℕ, suc, Bool, true, false, is_some, Option, Some, None, List, [], ◌∷◌, ⊤}
use Rattle.life_runs.specs.of_life_model.Visits.{Visit, mails_visit, drain_visit}
use Rattle.life_runs.specs.of_frame_view.View.{Lens}
use Rattle.life_runs.specs.of_frame_view.Shares.{AllThree}
use Rattle.life_runs.specs.Led.{Leads, Turn, speech_at}
use Rattle.life_runs.specs.of_segment_model.Slaves.{Datagram}
use Rattle.life_runs.specs.of_state_model.Accounts.{Duty}
use Rattle.life_runs.specs.of_master_side.Due.{EachDue}
use Rattle.life_runs.specs.of_master_side.Recall.{Recall}
use Rattle.life_runs.specs.of_link_mails.Body.{Body}
use Rattle.life_runs.specs.of_master_tour.Brings.{accepted_in}
use Rattle.life_runs.specs.of_segment_model.Ends.{Passing}
use Rattle.life_runs.specs.of_life_model.Lives.{Stand}
use Rattle.life_runs.specs.of_life_model.Own.{own}
use Rattle.life_runs.specs.Served.{Serves, ServedTurn}
use Rattle.master_node.specs.Eager.{EachSo, IsClear, stage_visit}
use Rattle.master_node.specs.Recalled.{IsFull, paused_behind, turn_behind}
use Rattle.master_node.specs.Resting.{MayBegin, Rests}
use Rattle.master_node.specs.Starts.{IsAtEnd}
use Rattle.master_node.specs.declared.lan.Lan.{Lan}

-- without a state service: while mailbox 0 has a mail that is passed on its status and mailbox 1 are read in turn
abbrev pub mail_visit : Option Passing → Recall → Bool → Visit
mail_visit None m holding = mails_visit m.paused holding
mail_visit (Some Passing.Waiting) m holding = mails_visit m.paused holding
mail_visit (Some Passing.Sent) m holding = mails_visit m.paused holding
mail_visit (Some Passing.Boxed) m holding = drain_visit m.turn
mail_visit (Some Passing.Served) m holding = mails_visit m.paused holding
mail_visit (Some Passing.Answered) m holding = mails_visit m.paused holding

-- THE NEXT VISIT of an open slave of a serving, by the state service in hand, how far a mail has come that is passed on, what is remembered, and whether a mail is held
abbrev pub visit_next : Option Duty → Option Passing → Recall → Bool → Option Visit
visit_next None passing m holding = Some (mail_visit passing m holding)
visit_next (Some duty) passing m holding = stage_visit duty.stage m

-- by a slave's life
abbrev pub served_visit : Turn → Recall → Option Visit
served_visit u m = visit_next u.lived.life.era.account.hand u.lived.life.era.passing m (is_some u.lived.life.era.side.halves.out.holding)

-- THE FRAME ASKS A SLAVE with nothing in doubt by its visit
abbrev pub ServedVisitAsks : List (Datagram Body) → Recall → Turn → Type 0
ServedVisitAsks sent m u = IsClear u → EachSo u.lived.life.era.account.hand u.lived.life.era.side.halves (served_visit u m) (own u.lived.spot.station sent)

-- all slaves
abbrev pub AllServedAsk : List (Datagram Body) → List Recall → List Turn → Type 0
AllServedAsk sent (m ∷ ms) (u ∷ us) = ServedVisitAsks sent m u × AllServedAsk sent ms us
AllServedAsk sent [] [] = ⊤
AllServedAsk sent _ _ = ⊥

-- A SLAVE BEHIND A FRAME THAT CAME BACK SO, where a mail that is passed on has come so far behind it: what is remembered of it, by what was, where that mail came no
-- step on; and its hand knows its mails as long as each mail of the slave is due
pub record ServedRecallsBack (lens : ℕ → Lens) (back : List (Datagram Body)) (behind : Option Passing) (u : Turn) (m n : Recall) : Type 0 where
  pub visited : behind ≡ u.lived.life.era.passing → IsClear u → u.share.under ≡ true → (v : Visit) → served_visit u m ≡ Some v → (d : Datagram Body) → own u.lived.spot.station back ≡ d ∷ [] → IsFull v d →
      (n.paused ≡ paused_behind v d.gram.counter m.paused) × (n.turn ≡ turn_behind v m.turn)
  pub unvisited : u.lived.life.stand ≡ Stand.Open → u.share.under ≡ false → n ≡ m
  pub known : m.knows ≡ true → (u.lived.life.stand ≡ Stand.Open → EachDue (speech_at lens u.lived.spot) u.lived.life.era.side.now (accepted_in u.lived.spot u.lived.life back)) → n.knows ≡ true

-- of all slaves
abbrev pub AllServedRecall : (ℕ → Lens) → List (Datagram Body) → (ServedTurn → Serves) → List ServedTurn → List Recall → List Recall → Type 0
AllServedRecall lens back behind vs ms ns = AllThree (λ v m n. ServedRecallsBack lens back (behind v).lead.lived.life.era.passing v.turn m n) vs ms ns

-- WHERE A SERVICE MIGHT BEGIN AT A VISIT and none did, nothing is left that might: the script is at its end, and neither a packet waits at the port nor a mail that is
-- to be passed on
abbrev pub ServedBegins : (ℕ → Lens) → Lan → ℕ → Recall → Serves → Turn → Type 0
ServedBegins lens l place m w u = m.knows ≡ true → MayBegin lens w.lead → w.lead.lived.life.era.passing ≡ None → u.share.under ≡ true → u.begun ≡ None → IsAtEnd lens l place w.lead × (w.waits ≡ [])

-- of all slaves, from this place on
abbrev pub AllServedBegin : (ℕ → Lens) → Lan → ℕ → List Recall → List Serves → List Turn → Type 0
AllServedBegin lens l place (m ∷ ms) (w ∷ ws) (u ∷ us) = ServedBegins lens l place m w u × AllServedBegin lens l (suc place) ms ws us
AllServedBegin lens l place [] [] [] = ⊤
AllServedBegin lens l place _ _ _ = ⊥

-- THE MASTER WANTS NOTHING of a slave of a serving: it was given up for good; or it rests as in a run, no mail that is passed on is in hand, and none waits
abbrev pub ServedResting : (ℕ → Lens) → Lan → ℕ → Recall → Serves → Type 0
ServedResting lens l place m w = (w.lead.lived.life.stand ≡ Stand.Gone) ⊎ (Rests lens l place m w.lead × (w.lead.lived.life.era.passing ≡ None) × (w.waits ≡ []))

-- of all slaves, from this place on
abbrev pub AllServedRest : (ℕ → Lens) → Lan → ℕ → List Recall → List Serves → Type 0
AllServedRest lens l place (m ∷ ms) (w ∷ ws) = ServedResting lens l place m w × AllServedRest lens l (suc place) ms ws
AllServedRest lens l place [] [] = ⊤
AllServedRest lens l place _ _ = ⊥

-- what is remembered of a slave's turn counts for nothing where no state service is in hand, nor a mail that is passed on
abbrev pub AllServedStill : List Recall → List Leads → Type 0
AllServedStill [] [] = ⊤
AllServedStill (m ∷ ms) (a ∷ as') = (a.lived.life.stand ≡ Stand.Open → a.lived.life.era.account.hand ≡ None → a.lived.life.era.passing ≡ None → m.turn ≡ false) × AllServedStill ms as'
AllServedStill _ _ = ⊥
