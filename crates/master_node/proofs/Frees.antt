-- A SLAVE OF WHICH A SERVICE MIGHT COME INTO HAND: so it stays as long as none did, and its side shows it.
use Rattle.std.proofs.Common.{◌≡◌, ℕ, Bool, true, false, Option, Some, None, List, [], ◌∷◌, refl, sym, ap, ◌∙◌, subst}
use Rattle.std.specs.Prelude.{◌&&◌}
use Rattle.life_runs.specs.of_frame_view.View.{Lens}
use Rattle.life_runs.specs.Led.{speech_at}
use Rattle.life_runs.specs.of_link_model.Mails.{LinkMail}
use Rattle.life_runs.specs.of_master_duty.Reply.{Reply}
use Rattle.life_runs.specs.of_exchange_model.Exchange.{Speech}
use Rattle.life_runs.specs.of_exchange_model.Rows.{Row, left}
use Rattle.life_runs.specs.of_segment_model.Ends as Ends
use Rattle.life_runs.specs.of_segment_model.Seats
use Rattle.life_runs.specs.of_segment_model.Seats.{Choice, first_left, is_none_left, next_mail, side_holds, side_next}
use Rattle.life_runs.specs.of_master_duty.declared.duty.Duty.{Duty}
use Rattle.life_runs.specs.of_state_model.Accounts
use Rattle.life_runs.specs.of_state_model.Accounts.{Account, Pick, account_begins, is_acknowledged, is_free, mails_begin}
use Rattle.life_runs.specs.of_master_hand.Shown.{knows}
use Rattle.life_runs.specs.of_master_hand.Spoken.{Asked, acknowledged}
use Rattle.life_runs.specs.of_master_hand.declared.hand.InHand.{InHand}
use Rattle.life_runs.specs.of_master_side.Carried.{in_hand}
use Rattle.life_runs.specs.of_master_side.Shown.{DutyShows}
use Rattle.life_runs.specs.of_master_side.declared.hand.Hand.{Ghosts}
use Rattle.life_runs.specs.of_link_mails.Body.{Body}
use Rattle.life_runs.specs.of_master_tour.Stands.{StandShows, StopShows}
use Rattle.life_runs.specs.of_master_tour.declared.stop.Stand.{Stand}
use Rattle.life_runs.specs.of_master_tour.declared.stop.Stop.{Stop}
use Rattle.life_runs.specs.of_life_model.Lives
use Rattle.life_runs.specs.of_life_model.Lives.{Life, Spot, granted, life_next}
use Rattle.master_node.specs.Shows.{side_shows}
use Rattle.master_node.specs.Starts.{SideFrees}

-- no state service is in hand
pub no_hand : (duty : Option Duty) (hand : Option Accounts.Duty) → hand ≡ None → DutyShows duty hand → duty ≡ None
no_hand None hand e x = refl
no_hand (Some d) hand e x = absurd (let t = sym e ∙ x.1 in cc)

-- nothing is left to take up of a service that is over
left_none : {M : Type 0} (ms : List M) (b : Bool) → (is_none_left ms && b) ≡ true → ms ≡ []
left_none [] b e = refl
left_none (m ∷ ms) b e = absurd (cc)

pub none_next : {Q : Type 0} (x : Speech Body Q Reply) (d : Seats.Side Body Q Reply) (now : Option (Row Body Q Reply)) (holding : Option (LinkMail Body)) (hold : Bool) → is_free x d now ≡ true → next_mail x now holding hold ≡ []
none_next x d now holding false e = refl
none_next x d None holding true e = refl
none_next x d (Some r) (Some m) true e = refl
none_next x d (Some r) None true e = ap (λ z. first_left z) (left_none (left x r) _ e)

-- a life that stays but for what is held
pub record StillLife {Q : Type 0} (l k : Life Body Q Reply) : Type 0 where
  pub stand : k.stand ≡ l.stand
  pub side : k.era.side ≡ l.era.side
  pub account : k.era.account ≡ l.era.account

granted_none : {Q : Type 0} (passing : Option Ends.Passing) (pick : Pick Q) → pick.begin ≡ None → (granted passing pick).begin ≡ None
granted_none None pick e = e
granted_none (Some p) pick e = refl

side_still : {Q : Type 0} (x : Speech Body Q Reply) (made : ℕ) (d : Seats.Side Body Q Reply) (c : Choice Q) → c.begin ≡ None → is_free x d d.now ≡ true → side_next x made d c ≡ d
side_still x made d c e f =
    ap (λ z. side_next x made d (record { begin = z; hold = c.hold })) e ∙ ap (λ z. side_holds d z) (none_next x d d.now d.halves.out.holding c.hold f)

pub still_life : {Q : Type 0} (x : Speech Body Q Reply) (acknowledged : Q → Bool) (more : Body → Bool) (passed : Q → Bool) (made : ℕ) (l k : Life Body Q Reply) (stand : Lives.Stand) (pick : Pick Q) → stand ≡ Lives.Stand.Open → pick.begin ≡ None → is_free x l.era.side l.era.side.now ≡ true →
    k ≡ life_next x acknowledged more passed made l stand pick → StillLife l k
still_life x acknowledged more passed made l k (Lives.Stand.Opens o) pick s e f is = absurd (cc)
still_life x acknowledged more passed made l k Lives.Stand.Gone pick s e f is = absurd (cc)
still_life x acknowledged more passed made l k Lives.Stand.Open pick s e f is =
    let p = granted l.era.passing pick in
    let none = granted_none l.era.passing pick e in
    record {
      stand = ap (λ z. z.stand) is;
      side = ap (λ z. z.era.side) is ∙ side_still x made l.era.side (record { begin = mails_begin l.era.account.hand p.begin; hold = p.hold }) (ap (λ z. mails_begin l.era.account.hand z) none) f;
      account = ap (λ z. z.era.account) is ∙ ap (λ z. account_begins x acknowledged made l.era.side l.era.account l.era.account.hand z) none;
    }

pub still_on : {Q : Type 0} (l k n : Life Body Q Reply) → StillLife l k → StillLife k n → StillLife l n
still_on l k n a b = record { stand = b.stand ∙ a.stand; side = b.side ∙ a.side; account = b.account ∙ a.account }

-- a life of which a service might come into hand
pub record MightBegin (x : Speech Body Asked Reply) (l : Life Body Asked Reply) : Type 0 where
  pub stands : l.stand ≡ Lives.Stand.Open
  pub free : is_free x l.era.side l.era.side.now ≡ true
  pub done : is_acknowledged x acknowledged l.era.side l.era.side.now ≡ true
  pub hand : l.era.account.hand ≡ None

pub might_still : (x : Speech Body Asked Reply) (l k : Life Body Asked Reply) → StillLife l k → MightBegin x l → MightBegin x k
might_still x l k s m = record {
  stands = s.stand ∙ m.stands;
  free = subst (λ (z : Seats.Side Body Asked Reply). is_free x z z.now ≡ true) (sym s.side) m.free;
  done = subst (λ (z : Seats.Side Body Asked Reply). is_acknowledged x acknowledged z z.now ≡ true) (sym s.side) m.done;
  hand = ap (λ (z : Account Asked Reply). z.hand) s.account ∙ m.hand;
}

-- ITS STOP IS OPEN, and its side shows that
module _ {G : Ghosts InHand} (lens : ℕ → Lens) (recover : ℕ) (spot : Spot) where
  frees_stand : (s : Stop InHand G) (stand : Stand) (l : Life Body Asked Reply) → s.stand ≡ stand → StandShows (side_shows lens recover s spot) spot s.stand l → knows s.side.hand.course ≡ true → (s.stand ≡ Stand.Open → s.side.passing ≡ None) → MightBegin (speech_at lens spot) l → (s.stand ≡ Stand.Open) × SideFrees s.side
  frees_stand s (Stand.Opening up) l e w k p m =
      let stood = subst (λ (z : Stand). StandShows (side_shows lens recover s spot) spot z l) e w in
      absurd (let t = sym stood.stand ∙ m.stands in cc)
  frees_stand s Stand.Gone l e w k p m =
      let stood = subst (λ (z : Stand). StandShows (side_shows lens recover s spot) spot z l) e w in
      absurd (let t = sym stood ∙ m.stands in cc)
  frees_stand s Stand.Open l e w k p m =
      let stood = subst (λ (z : Stand). StandShows (side_shows lens recover s spot) spot z l) e w in (
        e,
        record {
          speech = speech_at lens spot;
          side = l.era.side;
          account = l.era.account;
          shows = stood.1;
          known = k;
          hand = no_hand (in_hand s.side.duty) l.era.account.hand m.hand stood.1.state;
          unpassed = p e;
          free = m.free;
          done = m.done;
        },
      )

  pub frees : (s : Stop InHand G) (l : Life Body Asked Reply) → StopShows (side_shows lens recover s spot) recover spot s.stand s.spare l → knows s.side.hand.course ≡ true → (s.stand ≡ Stand.Open → s.side.passing ≡ None) → MightBegin (speech_at lens spot) l → (s.stand ≡ Stand.Open) × SideFrees s.side
  frees s l w k p m = frees_stand s s.stand l refl w.stood k p m
