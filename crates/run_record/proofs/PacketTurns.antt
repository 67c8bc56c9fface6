-- A PACKET IN HAND OF A SLAVE, by its life before a frame: what came into hand, and which fragment was taken up.
use Rattle.std.proofs.Common.{◌≡◌, ℕ, zero, suc, Bool, true, false, Option, Some, None, List, [], ◌∷◌, refl, sym, ap, ◌∙◌, subst}
use Rattle.std.specs.Prelude.{◌&&◌, if◌then◌else◌, not, option_map}
use Rattle.packets_heard.proofs.of_master_node.Frees.{none_next}
use Rattle.packets_heard.proofs.of_master_node.Newest.{Newest, no_more}
use Rattle.packets_heard.proofs.of_master_node.PacketRows.{held_open, packet_begins}
use Rattle.packets_heard.specs.of_master_node.Backtold.{has_packet}
use Rattle.packets_heard.specs.of_master_node.Begins.{is_other}
use Rattle.plan_ring.specs.of_frame_view.View.{Lens}
use Rattle.served_places.specs.of_exchange_model.Areas.{Areas}
use Rattle.served_places.specs.of_exchange_model.Exchange.{Speech}
use Rattle.served_places.specs.of_exchange_model.Rows.{Row, begun, row_told}
use Rattle.served_places.specs.of_life_model.Lives.{Life, Stand, granted, life_next}
use Rattle.served_places.specs.of_life_runs.First.{leads_from}
use Rattle.served_places.specs.of_life_runs.Spans.{is_open}
use Rattle.served_places.specs.of_link_mails.Body.{Body}
use Rattle.served_places.specs.of_master_duty.Reply.{Reply}
use Rattle.served_places.specs.of_state_model.Stated.{Service}
use Rattle.served_places.specs.of_master_hand.Spoken.{Asked, acknowledged, hand_speech, is_followed, is_passed}
use Rattle.served_places.specs.of_segment_model.Ends.{Passing}
use Rattle.served_places.specs.of_segment_model.Seats.{Side, next_mail, side_holds, side_next}
use Rattle.served_places.specs.of_state_model.Accounts.{Account, Duty, Pick, account_begins, account_next, is_acknowledged, is_free, mails_begin, starts, state_begins}
use Rattle.run_record.specs.Written.{forwards_now, has_fragments}
use Rattle.packets_heard.specs.of_segment_plan.declared.service.Service as Plan
use Rattle.packets_heard.specs.of_segment_plan.declared.slave.SlaveSpec.{SlaveSpec}

-- in the epoch of a slave that is open
abbrev pub unwritten_in : Speech Body Asked Reply → Side Body Asked Reply → Bool
unwritten_in x d = has_packet d.now && not (is_free x d d.now)

module _ (areas : Areas) where
  abbrev y : Speech Body Asked Reply
  y = hand_speech areas

  -- a fragment is taken up, or none is: the packet is in hand as it was
  taken_up : (d : Side Body Asked Reply) (now : Option (Row Body Asked Reply)) (hold : Bool) (ms : List Body) → d.now ≡ now → ms ≡ next_mail y now d.halves.out.holding hold → unwritten_in y (side_holds d ms) ≡ unwritten_in y d
  taken_up d now hold [] e m = refl
  taken_up d None hold (b ∷ ms) e m =
      (λ i. has_packet (option_map (λ r. row_told b r) (e i)) && not (is_free y (side_holds d (b ∷ ms)) (option_map (λ r. row_told b r) (e i)))) ∙ sym (λ i. has_packet (e i) && not (is_free y d (e i)))
  taken_up d (Some r) hold (b ∷ ms) e m =
      (λ i. has_packet (option_map (λ r. row_told b r) (e i)) && not (is_free y f (option_map (λ r. row_told b r) (e i)))) ∙ by (is_other r.service) refl ∙ sym (λ i. has_packet (e i) && not (is_free y d (e i)))
    where
      f : Side Body Asked Reply
      f = side_holds d (b ∷ ms)

      before : (z : Bool) → is_free y d (Some r) ≡ z → is_free y d (Some r) ≡ false
      before false g = g
      before true g = absurd (let none : b ∷ ms ≡ [] = m ∙ none_next y d (Some r) d.halves.out.holding hold g in cc)

      by : (z : Bool) → is_other r.service ≡ z → (not (is_other r.service) && not (is_free y f (Some (row_told b r)))) ≡ (not (is_other r.service) && not (is_free y d (Some r)))
      by true o = ap (λ (z : Bool). not z && not (is_free y f (Some (row_told b r)))) o ∙ sym (ap (λ (z : Bool). not z && not (is_free y d (Some r))) o)
      by false o = ap (λ (z : Bool). not (is_other r.service) && not z) (held_open areas f (row_told b r) refl refl ∙ sym (before (is_free y d (Some r)) refl))

  -- nothing is to come into hand
  abbrev wish : Bool → Pick Asked
  wish hold = record { begin = None; hold = hold }

  -- WHERE NOTHING CAME INTO HAND it is in hand as it was
  pub none_comes : (made : ℕ) (l : Life Body Asked Reply) (stand : Stand) (hold : Bool) → has_fragments y (life_next y acknowledged is_followed is_passed made l stand (wish hold)) ≡ has_fragments y l
  none_comes made l (Stand.Opens o) hold = refl
  none_comes made l Stand.Gone hold = refl
  none_comes made l Stand.Open hold = ap (λ (z : Bool). is_open l.stand && z) (by l.era.passing l.era.account.hand)
    where
      by : (p : Option Passing) (h : Option Duty) → unwritten_in y (side_next y made l.era.side (record { begin = mails_begin h (granted p (wish hold)).begin; hold = (granted p (wish hold)).hold })) ≡ unwritten_in y l.era.side
      by None None = taken_up l.era.side l.era.side.now hold _ refl refl
      by None (Some duty) = taken_up l.era.side l.era.side.now hold _ refl refl
      by (Some p) None = taken_up l.era.side l.era.side.now hold _ refl refl
      by (Some p) (Some duty) = taken_up l.era.side l.era.side.now hold _ refl refl

  -- A PACKET THAT CAME INTO HAND is
  pub packet_comes : (q : Asked) (made : ℕ) (k : Side Body Asked Reply) → is_other q ≡ false → Newest y made q k → unwritten_in y k ≡ true
  packet_comes q made k o n = (λ i. has_packet k.now && not (packet_begins areas q made k o n i)) ∙ and_true (has_packet k.now) ∙ subst (λ (z : Side Body Asked Reply). has_packet z.now ≡ true) (sym n.is) (go (next_mail y n.side.now n.side.halves.out.holding n.hold))
    where
      and_true : (b : Bool) → (b && true) ≡ b
      and_true true = refl
      and_true false = refl

      go : (ms : List Body) → has_packet (side_holds n.side ms).now ≡ true
      go [] = ap has_packet n.now ∙ ap not o
      go (m ∷ ms) = ap (λ z. has_packet (option_map (λ r. row_told m r) z)) n.now ∙ ap not o

  -- and another service by mails that did is none
  pub other_comes : (q : Asked) (made : ℕ) (k : Side Body Asked Reply) → is_other q ≡ true → Newest y made q k → unwritten_in y k ≡ false
  other_comes q made k o n = subst (λ (z : Side Body Asked Reply). unwritten_in y z ≡ false) (sym n.is) (go (next_mail y n.side.now n.side.halves.out.holding n.hold))
    where
      go : (ms : List Body) → unwritten_in y (side_holds n.side ms) ≡ false
      go [] = (λ i. has_packet (n.now i) && not (is_free y n.side (n.now i))) ∙ ap (λ (z : Bool). not z && not (is_free y n.side (Some (begun q made)))) o
      go (m ∷ ms) =
          (λ i. has_packet (option_map (λ r. row_told m r) (n.now i)) && not (is_free y (side_holds n.side (m ∷ ms)) (option_map (λ r. row_told m r) (n.now i))))
          ∙ ap (λ (z : Bool). not z && not (is_free y (side_holds n.side (m ∷ ms)) (Some (row_told m (begun q made))))) o

  -- WHERE A SERVICE CAME INTO HAND the newest one by mails was over
  module _ (made : ℕ) (l : Life Body Asked Reply) (pick : Pick Asked) (s : Service Asked) (begins : pick.begin ≡ Some s) where
    abbrev a : Account Asked Reply
    a = l.era.account

    abbrev over : Bool
    over = is_free y l.era.side l.era.side.now

    begun_mails : (q : Asked) (valid free : Bool) → (if valid && free then record a { started = starts a (Service.Mails q) made } else a).started ≡ starts a (Service.Mails q) made → free ≡ true
    begun_mails q true true e = refl
    begun_mails q true false e = absurd (no_more a.started _ e)
    begun_mails q false free e = absurd (no_more a.started _ e)

    begun_state : (target : ℕ) (free shown : Bool) → (if free && shown then state_begins a target made else a).started ≡ starts a (Service.State target) made → free ≡ true
    begun_state target true shown e = refl
    begun_state target false shown e = absurd (no_more a.started _ e)

    begun_over : (t : Service Asked) → (account_begins y acknowledged made l.era.side a None (Some t)).started ≡ starts a t made → over ≡ true
    begun_over (Service.Mails q) e = begun_mails q (y.valid q) over e
    begun_over (Service.State target) e = begun_state target over (is_acknowledged y acknowledged l.era.side l.era.side.now) e

    was_open : (account_next y acknowledged made l.era.side a (granted l.era.passing pick)).started ≡ starts a s made → over ≡ true
    was_open e = by l.era.passing a.hand refl refl
      where
        by : (p : Option Passing) (h : Option Duty) → l.era.passing ≡ p → a.hand ≡ h → over ≡ true
        by None None p h = begun_over s (sym (λ i. (account_begins y acknowledged made l.era.side a None (begins i)).started) ∙ sym (λ i. (account_begins y acknowledged made l.era.side a (h i) (granted (p i) pick).begin).started) ∙ e)
        by None (Some duty) p h =
            absurd (no_more a.started _ (sym (λ i. (account_begins y acknowledged made l.era.side a (Some duty) (begins i)).started) ∙ sym (λ i. (account_begins y acknowledged made l.era.side a (h i) (granted (p i) pick).begin).started) ∙ e))
        by (Some q) h p k = absurd (no_more a.started _ (sym (λ i. (account_begins y acknowledged made l.era.side a a.hand (granted (p i) pick).begin).started) ∙ e))

    pub was_over : (stand : Stand) → (life_next y acknowledged is_followed is_passed made l stand pick).era.account.started ≡ starts a s made → over ≡ true
    was_over (Stand.Opens o) e = absurd (no_more a.started _ e)
    was_over Stand.Gone e = absurd (no_more a.started _ e)
    was_over Stand.Open e = was_open e

  -- so none was in hand
  pub over_none : (l : Life Body Asked Reply) → is_free y l.era.side l.era.side.now ≡ true → has_fragments y l ≡ false
  over_none l f = (λ i. is_open l.stand && (has_packet l.era.side.now && not (f i))) ∙ by (is_open l.stand) (has_packet l.era.side.now)
    where
      by : (b c : Bool) → (b && (c && false)) ≡ false
      by true true = refl
      by true false = refl
      by false c = refl

  -- a change of state leaves the mails as they were
  pub state_comes : (made : ℕ) (l : Life Body Asked Reply) (stand : Stand) (target : ℕ) (hold : Bool) →
      has_fragments y (life_next y acknowledged is_followed is_passed made l stand (record { begin = Some (Service.State target); hold = hold })) ≡ has_fragments y l
  state_comes made l (Stand.Opens o) target hold = refl
  state_comes made l Stand.Gone target hold = refl
  state_comes made l Stand.Open target hold = ap (λ (z : Bool). is_open l.stand && z) (by l.era.passing l.era.account.hand)
    where
      change : Pick Asked
      change = record { begin = Some (Service.State target); hold = hold }

      by : (p : Option Passing) (h : Option Duty) → unwritten_in y (side_next y made l.era.side (record { begin = mails_begin h (granted p change).begin; hold = (granted p change).hold })) ≡ unwritten_in y l.era.side
      by None None = taken_up l.era.side l.era.side.now hold _ refl refl
      by None (Some duty) = taken_up l.era.side l.era.side.now hold _ refl refl
      by (Some p) None = taken_up l.era.side l.era.side.now hold _ refl refl
      by (Some p) (Some duty) = taken_up l.era.side l.era.side.now hold _ refl refl

-- BEFORE THE FIRST FRAME none is in hand
pub none_forwards : (lens : ℕ → Lens) (rows : List (ℕ × Plan.Service)) (place : ℕ) (ss : List SlaveSpec) (k : ℕ) → forwards_now lens (leads_from rows place ss) k ≡ false
none_forwards lens rows place [] k = refl
none_forwards lens rows place (s ∷ ss) zero = refl
none_forwards lens rows place (s ∷ ss) (suc k) = none_forwards lens rows (suc place) ss k
