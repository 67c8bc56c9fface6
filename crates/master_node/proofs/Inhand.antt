-- WHAT A POST HAS IN HAND is what its slave's life has: before the first frame, at a visit, and behind a lost frame.
use Rattle.std.proofs.Common.{◌≡◌, inl, inr, ℕ, Bool, true, false, Option, Some, None, List, [], ◌∷◌, length, refl, sym, ap, ◌∙◌, subst}
use Rattle.std.specs.Prelude.{◌&&◌, is_some, nat_lt, option_map, if◌then◌else◌}
use Rattle.life_runs.specs.of_frame_view.Shares.{given_where}
use Rattle.life_runs.specs.of_exchange_model.Areas.{Areas}
use Rattle.life_runs.specs.of_master_duty.Reply.{Reply}
use Rattle.life_runs.specs.of_exchange_model.Exchange.{Speech}
use Rattle.life_runs.specs.of_exchange_model.Rows.{Row, begun, row_told}
use Rattle.life_runs.specs.of_segment_model.Ends as Ends
use Rattle.life_runs.specs.of_segment_model.Record.{Kept}
use Rattle.life_runs.specs.of_segment_model.Seats.{Side, next_mail, side_holds, side_next}
use Rattle.life_runs.specs.of_segment_model.Slaves.{Datagram, grams}
use Rattle.life_runs.specs.of_state_model.Stated.{Service}
use Rattle.life_runs.specs.of_state_model.Accounts.{Account, Duty, Pick, account_begins, is_acknowledged, is_free, mails_begin, starts, state_begins}
use Rattle.life_runs.specs.of_master_hand.Spoken.{Asked, acknowledged, hand_speech, is_followed, is_passed}
use Rattle.life_runs.specs.of_master_side.Passing.{news_lost, passing_behind}
use Rattle.life_runs.specs.of_link_mails.Body.{Body}
use Rattle.life_runs.specs.of_master_tour.Stands.{Counts}
use Rattle.life_runs.specs.of_life_model.Lives
use Rattle.life_runs.specs.of_life_model.Lives.{Life, Spot, granted, life_lost, life_next, new_life}
use Rattle.life_runs.specs.of_life_model.Own
use Rattle.master_node.specs.Begins.{is_other}
use Rattle.master_node.specs.Handed.{HasBegun}
use Rattle.master_node.specs.Inhand.{AnswerHas, HasInHand, HasPassed, MailsWork, NewestHas, OpenHas, PacketHas, ServiceHas, WorkOf}
use Rattle.master_node.specs.Passes.{BeginsFree}
use Rattle.master_node.specs.declared.post.Work.{Work}
use Rattle.master_node.proofs.Frees.{none_next}
use Rattle.master_node.proofs.Handeds.{begun_is, lost_on}
use Rattle.master_node.proofs.Newest.{Newest, newest, no_more}
use Rattle.master_node.proofs.PacketRows.{held_open, out_lost, packet_begins, script_answered, same_over}
use Rattle.master_node.proofs.Rowtells.{passed_other}

-- BEFORE THE FIRST FRAME nothing is in hand
pub new_inhand : (x : Speech Body Asked Reply) (known : Bool) (state : ℕ) → (let l : Life Body Asked Reply = new_life state in HasInHand x known l l.stand Work.Nothing)
new_inhand x known state = (refl, λ e. record { row = refl; account = refl; passing = refl })

-- THE SAME ROW, as free as it was where it is a packet, has what it had
pub service_as : (passed other free now knows answered : Bool) (work : Work) → (other ≡ false → answered ≡ false → now ≡ free) → ServiceHas passed other free knows answered work → ServiceHas passed other now knows answered work
service_as true other free now knows answered work f h = h
service_as false true free now knows answered work f h = h
service_as false false free now knows answered work f h = (h.0, subst (λ z. PacketHas z knows work) (sym (f refl h.0)) h.1)

pub record SameService (r k : Row Body Asked Reply) : Type 0 where
  pub service : k.service ≡ r.service
  pub answered : is_some k.answer ≡ is_some r.answer

pub row_as : (free now knows : Bool) (work : Work) (r k : Row Body Asked Reply) → SameService r k → (is_other r.service ≡ false → is_some r.answer ≡ false → now ≡ free) → NewestHas free knows (Some r) work → NewestHas now knows (Some k) work
row_as free now knows work r k s f h =
    subst (λ z. ServiceHas (is_passed k.service) (is_other k.service) now knows z work) (sym s.answered)
    (subst (λ z. ServiceHas (is_passed z) (is_other z) now knows (is_some r.answer) work) (sym s.service) (service_as (is_passed r.service) (is_other r.service) free now knows (is_some r.answer) work f h))

pub no_answer : (o : Option (Reply × ℕ)) → is_some o ≡ false → o ≡ None
no_answer None e = refl
no_answer (Some a) e = absurd (let bad : true ≡ false = e in cc)

-- a packet never has an answer
abbrev pub PacketsUnanswered : Option (Row Body Asked Reply) → Type 0
PacketsUnanswered now = (r : Row Body Asked Reply) → now ≡ Some r → is_other r.service ≡ false → is_some r.answer ≡ false

service_unanswered : (passed other free knows answered : Bool) (work : Work) → (passed ≡ true → other ≡ true) → other ≡ false → ServiceHas passed other free knows answered work → answered ≡ false
service_unanswered true other free knows answered work p o h = absurd (let bad : true ≡ false = sym (p refl) ∙ o in cc)
service_unanswered false true free knows answered work p o h = absurd (let bad : true ≡ false = o in cc)
service_unanswered false false free knows answered work p o h = h.0

newest_unanswered : (free knows : Bool) (now : Option (Row Body Asked Reply)) (work : Work) → NewestHas free knows now work → PacketsUnanswered now
newest_unanswered free knows now work h r e o =
    let k = subst (λ z. NewestHas free knows z work) e h in service_unanswered (is_passed r.service) (is_other r.service) free knows (is_some r.answer) work (passed_other r.service) o k

pub open_unanswered : (x : Speech Body Asked Reply) (knows : Bool) (d : Side Body Asked Reply) (hand : Option Duty) (passing : Option Ends.Passing) (work : Work) → OpenHas x knows d hand passing work → PacketsUnanswered d.now
open_unanswered x knows d None None work h = newest_unanswered (is_free x d d.now) knows d.now work h
open_unanswered x knows d None (Some p) work h = λ r e o.
    (let same : Some h.0.row ≡ Some r = sym h.0.is ∙ e in
    let one : h.0.row ≡ r = cc in
    absurd (let bad : true ≡ false = sym (passed_other h.0.row.service h.0.passed) ∙ ap (λ (z : Row Body Asked Reply). is_other z.service) one ∙ o in cc))
open_unanswered x knows d (Some duty) passing work h = newest_unanswered (is_free x d d.now) knows d.now Work.Nothing h.1

-- what is over leaves nothing in hand, whatever else comes
packet_nothing : (knows : Bool) → PacketHas true knows Work.Nothing
packet_nothing true = refl
packet_nothing false = inr refl

module _ (areas : Areas) where
  abbrev x : Speech Body Asked Reply
  x = hand_speech areas

  over_nothing : (knows : Bool) (d : Side Body Asked Reply) (r : Row Body Asked Reply) (passed other : Bool) → is_passed r.service ≡ passed → is_other r.service ≡ other → is_free x d (Some r) ≡ true → (other ≡ false → is_some r.answer ≡ false) → ServiceHas passed other (is_free x d (Some r)) knows (is_some r.answer) Work.Nothing
  over_nothing knows d r true other p o f none = refl
  over_nothing knows d r false false p o f none = (none refl, subst (λ z. PacketHas z knows Work.Nothing) (sym f) (packet_nothing knows))
  over_nothing knows d r false true p o f none = subst (λ z. AnswerHas z Work.Nothing) (sym (script_answered areas d r p o f)) refl

  pub free_nothing : (knows : Bool) (d : Side Body Asked Reply) (now : Option (Row Body Asked Reply)) → is_free x d now ≡ true → PacketsUnanswered now → NewestHas (is_free x d now) knows now Work.Nothing
  free_nothing knows d None f none = refl
  free_nothing knows d (Some r) f none = over_nothing knows d r (is_passed r.service) (is_other r.service) refl refl f (λ o. none r refl o)

  -- WHERE NOTHING CAME INTO HAND the next mail is taken up, or none is
  taken_up : (known : Bool) (d : Side Body Asked Reply) (work : Work) (now : Option (Row Body Asked Reply)) (hold : Bool) (ms : List Body) → d.now ≡ now → ms ≡ next_mail x now d.halves.out.holding hold → NewestHas (is_free x d now) known now work →
      NewestHas (is_free x (side_holds d ms) (side_holds d ms).now) known (side_holds d ms).now work
  taken_up known d work now hold [] e m h = subst (λ z. NewestHas (is_free x d z) known z work) (sym e) h
  taken_up known d work None hold (b ∷ ms) e m h = subst (λ z. NewestHas (is_free x (side_holds d (b ∷ ms)) (option_map (λ r. row_told b r) z)) known (option_map (λ r. row_told b r) z) work) (sym e) h
  taken_up known d work (Some r) hold (b ∷ ms) e m h =
      let f = side_holds d (b ∷ ms) in
      subst (λ z. NewestHas (is_free x f (option_map (λ r. row_told b r) z)) known (option_map (λ r. row_told b r) z) work) (sym e)
      (row_as (is_free x d (Some r)) (is_free x f (Some (row_told b r))) known work r (row_told b r) (record { service = refl; answered = refl })
      (λ o a. held_open areas f (row_told b r) refl refl ∙ sym (go (is_free x d (Some r)) refl)) h)
    where
      go : (z : Bool) → is_free x d (Some r) ≡ z → is_free x d (Some r) ≡ false
      go false g = g
      go true g = absurd (let none : b ∷ ms ≡ [] = m ∙ none_next x d (Some r) d.halves.out.holding hold g in cc)

  pub newest_held : (known : Bool) (d : Side Body Asked Reply) (hold : Bool) (work : Work) → NewestHas (is_free x d d.now) known d.now work →
      (let f = side_holds d (next_mail x d.now d.halves.out.holding hold) in NewestHas (is_free x f f.now) known f.now work)
  newest_held known d hold work h = taken_up known d work d.now hold (next_mail x d.now d.halves.out.holding hold) refl refl h

  -- a mail that is passed on stays the newest
  held_passed : (d : Side Body Asked Reply) (ms : List Body) → HasPassed d.now → HasPassed (side_holds d ms).now
  held_passed d [] p = p
  held_passed d (b ∷ ms) p = record { row = row_told b p.row; is = ap (λ z. option_map (λ r. row_told b r) z) p.is; passed = p.passed }

  pub open_held : (known : Bool) (d : Side Body Asked Reply) (hold : Bool) (hand : Option Duty) (passing : Option Ends.Passing) (work : Work) → OpenHas x known d hand passing work → OpenHas x known (side_holds d (next_mail x d.now d.halves.out.holding hold)) hand passing work
  open_held known d hold None None work h = newest_held known d hold work h
  open_held known d hold None (Some p) work h = (held_passed d (next_mail x d.now d.halves.out.holding hold) h.0, h.1)
  open_held known d hold (Some duty) passing work h = (h.0, newest_held known d hold Work.Nothing h.1, h.2)

  -- the row that came into hand
  record NewRow (q : Asked) (k : Side Body Asked Reply) : Type 0 where
    row : Row Body Asked Reply
    is : k.now ≡ Some row
    service : row.service ≡ q
    answer : row.answer ≡ None

  new_row : (q : Asked) (made : ℕ) (k : Side Body Asked Reply) → Newest x made q k → NewRow q k
  new_row q made k n = subst (λ (z : Side Body Asked Reply). NewRow q z) (sym n.is) (go (next_mail x n.side.now n.side.halves.out.holding n.hold))
    where
      go : (ms : List Body) → NewRow q (side_holds n.side ms)
      go [] = record { row = begun q made; is = n.now; service = refl; answer = refl }
      go (m ∷ ms) = record { row = row_told m (begun q made); is = ap (λ z. option_map (λ r. row_told m r) z) n.now; service = refl; answer = refl }

  new_has : (known : Bool) (q : Asked) (made : ℕ) (k : Side Body Asked Reply) (new : Work) (passed other : Bool) → is_passed q ≡ passed → is_other q ≡ other → Newest x made q k → MailsWork passed other new → (r : NewRow q k) →
      OpenHas x known k None (if passed then Some Ends.Passing.Waiting else None) new
  new_has known q made k new true other p o n w r = (record { row = r.row; is = r.is; passed = ap is_passed r.service ∙ p }, w)
  new_has known q made k new false true p o n w r =
      subst (λ z. NewestHas (is_free x k z) known z new) (sym r.is)
      (subst (λ z. ServiceHas z (is_other r.row.service) (is_free x k (Some r.row)) known (is_some r.row.answer) new) (sym (ap is_passed r.service ∙ p))
      (subst (λ z. ServiceHas false z (is_free x k (Some r.row)) known (is_some r.row.answer) new) (sym (ap is_other r.service ∙ o))
      (subst (λ (z : Option (Reply × ℕ)). AnswerHas (is_some z) new) (sym r.answer) w)))
  new_has known q made k new false false p o n w r =
      subst (λ z. NewestHas z known k.now new) (sym (packet_begins areas q made k o n))
      (subst (λ z. NewestHas false known z new) (sym r.is)
      (subst (λ z. ServiceHas z (is_other r.row.service) false known (is_some r.row.answer) new) (sym (ap is_passed r.service ∙ p))
      (subst (λ z. ServiceHas false z false known (is_some r.row.answer) new) (sym (ap is_other r.service ∙ o)) (ap is_some r.answer, w))))

  -- AT A VISIT
  module _ (made : ℕ) (l : Life Body Asked Reply) where
    abbrev next : Lives.Stand → Pick Asked → Life Body Asked Reply
    next stand pick = life_next x acknowledged is_followed is_passed made l stand pick

    -- of an open slave
    granted_hold : (p : Option Ends.Passing) (pick : Pick Asked) → (granted p pick).hold ≡ pick.hold
    granted_hold None pick = refl
    granted_hold (Some p) pick = refl

    granted_begin : (p : Option Ends.Passing) (pick : Pick Asked) → pick.begin ≡ None → (granted p pick).begin ≡ None
    granted_begin None pick e = e
    granted_begin (Some p) pick e = refl

    none_mails : (hand : Option Duty) (b : Option (Service Asked)) → b ≡ None → mails_begin hand b ≡ None
    none_mails hand None e = go hand
      where
        go : (z : Option Duty) → mails_begin {Q = Asked} z None ≡ None
        go None = refl
        go (Some duty) = refl
    none_mails hand (Some s) e = absurd (cc)

    -- the side, where no service by mails came into hand
    side_is : (pick : Pick Asked) → mails_begin l.era.account.hand (granted l.era.passing pick).begin ≡ None → (next Lives.Stand.Open pick).era.side ≡ side_holds l.era.side (next_mail x l.era.side.now l.era.side.halves.out.holding pick.hold)
    side_is pick e = λ i. side_next x made l.era.side (record { begin = e i; hold = granted_hold l.era.passing pick i })

    none_open : (known : Bool) (pick : Pick Asked) (work : Work) → pick.begin ≡ None → HasBegun l None (next Lives.Stand.Open pick) → OpenHas x known l.era.side l.era.account.hand l.era.passing work →
        (let m = next Lives.Stand.Open pick in OpenHas x known m.era.side m.era.account.hand m.era.passing work)
    none_open known pick work e b h =
        let m = next Lives.Stand.Open pick in
        subst (λ z. OpenHas x known m.era.side m.era.account.hand z work) (sym b.passing)
        (subst (λ z. OpenHas x known m.era.side z l.era.passing work) (sym b.duty)
        (subst (λ z. OpenHas x known z l.era.account.hand l.era.passing work) (sym (side_is pick (none_mails l.era.account.hand (granted l.era.passing pick).begin (granted_begin l.era.passing pick e))))
        (open_held known l.era.side pick.hold l.era.account.hand l.era.passing work h)))

    -- a service by mails did
    mails_open : (known : Bool) (pick : Pick Asked) (q : Asked) (new : Work) (m : Life Body Asked Reply) → pick.begin ≡ Some (Service.Mails q) → m ≡ next l.stand pick → m.era.account.started ≡ starts l.era.account (Service.Mails q) made → l.era.passing ≡ None →
        HasBegun l (Some (Service.Mails q)) m → MailsWork (is_passed q) (is_other q) new → OpenHas x known m.era.side m.era.account.hand m.era.passing new
    mails_open known pick q new m e is c free b w =
        let n = newest x q made acknowledged is_followed is_passed l m l.stand pick e is c in
        subst (λ z. OpenHas x known m.era.side m.era.account.hand z new) (sym (b.passing ∙ ap (λ z. passing_behind is_passed z (Some (Service.Mails q))) free))
        (subst (λ z. OpenHas x known m.era.side z (passing_behind is_passed None (Some (Service.Mails q))) new) (sym b.duty)
        (new_has known q made m.era.side new (is_passed q) (is_other q) refl refl n w (new_row q made m.era.side n)))

    -- a change of state did: the newest service is over
    record StateBegan (a : Account Asked Reply) : Type 0 where
      duty : Duty
      hand : a.hand ≡ Some duty
      free : is_free x l.era.side l.era.side.now ≡ true
      none : l.era.account.hand ≡ None

    state_by : (target : ℕ) (hand : Option Duty) → l.era.account.hand ≡ hand → (account_begins x acknowledged made l.era.side l.era.account hand (Some (Service.State target))).started ≡ starts l.era.account (Service.State target) made →
        StateBegan (account_begins x acknowledged made l.era.side l.era.account hand (Some (Service.State target)))
    state_by target (Some duty) e c = absurd (no_more l.era.account.started _ c)
    state_by target None e c = by (is_free x l.era.side l.era.side.now) (is_acknowledged x acknowledged l.era.side l.era.side.now) refl c
      where
        by : (free done : Bool) → is_free x l.era.side l.era.side.now ≡ free → (if free && done then state_begins l.era.account target made else l.era.account).started ≡ starts l.era.account (Service.State target) made →
            StateBegan (if free && done then state_begins l.era.account target made else l.era.account)
        by true true f g = record { duty = _; hand = refl; free = f; none = e }
        by true false f g = absurd (no_more l.era.account.started _ g)
        by false done f g = absurd (no_more l.era.account.started _ g)

    state_open : (known : Bool) (pick : Pick Asked) (target : ℕ) (new : Work) → pick.begin ≡ Some (Service.State target) → l.era.passing ≡ None → HasBegun l (Some (Service.State target)) (next Lives.Stand.Open pick) →
        (next Lives.Stand.Open pick).era.account.started ≡ starts l.era.account (Service.State target) made → new ≡ Work.State →
        PacketsUnanswered l.era.side.now → (let m = next Lives.Stand.Open pick in OpenHas x known m.era.side m.era.account.hand m.era.passing new)
    state_open known pick target new e free b c w none =
        let m = next Lives.Stand.Open pick in
        let g : (granted l.era.passing pick).begin ≡ Some (Service.State target) = ap (λ z. (granted z pick).begin) free ∙ e in
        let is : m.era.account ≡ account_begins x acknowledged made l.era.side l.era.account l.era.account.hand (Some (Service.State target)) = ap (λ z. account_begins x acknowledged made l.era.side l.era.account l.era.account.hand z) g in
        let s = state_by target l.era.account.hand refl (sym (ap (λ z. z.started) is) ∙ c) in
        let side = side_is pick ((λ i. mails_begin (s.none i) (g i))) in
        let still = side ∙ ap (λ z. side_holds l.era.side z) (none_next x l.era.side l.era.side.now l.era.side.halves.out.holding pick.hold s.free) in
        subst (λ z. OpenHas x known m.era.side m.era.account.hand z new) (sym (b.passing ∙ free))
        (subst (λ z. OpenHas x known m.era.side z None new) (sym (ap (λ z. z.hand) is ∙ s.hand))
        (subst (λ z. OpenHas x known z (Some s.duty) None new) (sym still) (refl, free_nothing known l.era.side l.era.side.now s.free none, w)))

    module _ (known known' : Bool) (old new : Work) where
      visit_open : (pick : Pick Asked) (b : Option (Service Asked)) → l.stand ≡ Lives.Stand.Open → pick.begin ≡ b → (is_some b ≡ false → known' ≡ known) → WorkOf b old new → BeginsFree l b → Counts made b l (next Lives.Stand.Open pick) →
          OpenHas x known l.era.side l.era.account.hand l.era.passing old → (let m = next Lives.Stand.Open pick in OpenHas x known' m.era.side m.era.account.hand m.era.passing new)
      visit_open pick b o e k w f c h = go b e k w f c (begun_is x made l (next Lives.Stand.Open pick) b pick (sym (ap (λ z. next z pick) o)) e (subst (λ z. Counts made z l (next Lives.Stand.Open pick)) (sym e) c) f)
        where
          go : (b : Option (Service Asked)) → pick.begin ≡ b → (is_some b ≡ false → known' ≡ known) → WorkOf b old new → BeginsFree l b → Counts made b l (next Lives.Stand.Open pick) → HasBegun l b (next Lives.Stand.Open pick) →
              (let m = next Lives.Stand.Open pick in OpenHas x known' m.era.side m.era.account.hand m.era.passing new)
          go None e k w f c g =
              let m = next Lives.Stand.Open pick in
              subst (λ z. OpenHas x z m.era.side m.era.account.hand m.era.passing new) (sym (k refl)) (subst (λ z. OpenHas x known m.era.side m.era.account.hand m.era.passing z) (sym w) (none_open known pick old e g h))
          go (Some (Service.Mails q)) e k w f c g = mails_open known' pick q new (next Lives.Stand.Open pick) e (sym (ap (λ z. next z pick) o)) c (f _ refl).1 g w
          go (Some (Service.State target)) e k w f c g = state_open known' pick target new e (f _ refl).1 g c w (open_unanswered x known l.era.side l.era.account.hand l.era.passing old h)

      -- of one that isn't nothing comes into hand
      none_came : (b : Option (Service Asked)) → WorkOf b old new → (is_some b ≡ true → ⊥) → (is_some b ≡ false) × (new ≡ old)
      none_came None w f = (refl, w)
      none_came (Some s) w f = absurd (f refl)

      begins_open : (b : Option (Service Asked)) → BeginsFree l b → is_some b ≡ true → l.stand ≡ Lives.Stand.Open
      begins_open None f t = absurd (let bad : false ≡ true = t in cc)
      begins_open (Some s) f t = (f s refl).0

      pub next_inhand : (pick : Pick Asked) → HasInHand x known l l.stand old → (is_some pick.begin ≡ false → known' ≡ known) → WorkOf pick.begin old new → BeginsFree l pick.begin → Counts made pick.begin l (next l.stand pick) →
          HasInHand x known' (next l.stand pick) (next l.stand pick).stand new
      next_inhand pick h k w f c = go l.stand refl h c
        where
          go : (stand : Lives.Stand) → l.stand ≡ stand → HasInHand x known l stand old → Counts made pick.begin l (next stand pick) → HasInHand x known' (next stand pick) (next stand pick).stand new
          go (Lives.Stand.Opens o) s h c =
              let n = none_came pick.begin w (λ t. absurd (let bad : Lives.Stand.Opens o ≡ Lives.Stand.Open = sym s ∙ begins_open pick.begin f t in cc)) in
              subst (λ z. HasInHand x known' l z new) (sym s) (subst (λ z. HasInHand x known' l (Lives.Stand.Opens o) z) (sym n.1) h)
          go Lives.Stand.Open s h c = subst (λ z. HasInHand x known' (next Lives.Stand.Open pick) z new) (sym s) (visit_open pick pick.begin s refl k w f c h)
          go Lives.Stand.Gone s h c =
              let n = none_came pick.begin w (λ t. absurd (let bad : Lives.Stand.Gone ≡ Lives.Stand.Open = sym s ∙ begins_open pick.begin f t in cc)) in
              subst (λ z. HasInHand x known' l z new) (sym s) (n.1 ∙ h)

  -- BEHIND A LOST FRAME: it stays, or the slave was given up and nothing is in hand
  module _ (spot : Spot) (kept : Kept) (sent : List (Datagram Body)) (recover made : ℕ) (l : Life Body Asked Reply) where
    abbrev lost : Lives.Stand → Life Body Asked Reply
    lost stand = life_lost x acknowledged is_followed is_passed spot (news_lost spot.station kept sent) sent l stand

    abbrev side : Side Body Asked Reply
    side = (lost Lives.Stand.Open).era.side

    out_is : side.halves.out ≡ l.era.side.halves.out
    out_is = out_lost spot.station l.era.side.halves (grams (Own.own spot.station sent))

    newest_lost : (known : Bool) (now : Option (Row Body Asked Reply)) (work : Work) → NewestHas (is_free x l.era.side now) known now work → NewestHas (is_free x side now) known now work
    newest_lost known None work h = h
    newest_lost known (Some r) work h =
        row_as (is_free x l.era.side (Some r)) (is_free x side (Some r)) known work r r (record { service = refl; answered = refl })
        (λ o a. same_over areas l.era.side side r r o (record { service = refl; told = refl; answer = refl }) (ap (λ z. z.holding) out_is) (inl (no_answer r.answer a))) h

    open_lost : (known : Bool) (hand : Option Duty) (p q : Option Ends.Passing) (work : Work) → is_some q ≡ is_some p → OpenHas x known l.era.side hand p work → OpenHas x known side hand q work
    open_lost known None None None work e h = newest_lost known l.era.side.now work h
    open_lost known None (Some p) (Some q) work e h = h
    open_lost known None None (Some q) work e h = absurd (let bad : true ≡ false = e in cc)
    open_lost known None (Some p) None work e h = absurd (let bad : false ≡ true = e in cc)
    open_lost known (Some duty) None None work e h = (refl, newest_lost known l.era.side.now Work.Nothing h.1, h.2)
    open_lost known (Some duty) None (Some q) work e h = absurd (let bad : true ≡ false = e in cc)
    open_lost known (Some duty) (Some p) q work e h = absurd (let bad : Some p ≡ None = h.0 in cc)

    life_has : (known : Bool) (old : Work) (stand : Lives.Stand) → l.stand ≡ stand → HasInHand x known l stand old → HasInHand x known (lost stand) (lost stand).stand old
    life_has known old (Lives.Stand.Opens o) s h = subst (λ z. HasInHand x known l z old) (sym s) h
    life_has known old Lives.Stand.Gone s h = subst (λ z. HasInHand x known l z old) (sym s) h
    life_has known old Lives.Stand.Open s h =
        subst (λ z. HasInHand x known (lost Lives.Stand.Open) z old) (sym s)
        (open_lost known l.era.account.hand l.era.passing (lost Lives.Stand.Open).era.passing old (lost_on x spot kept sent l Lives.Stand.Open).passing h)

    given_has : (known : Bool) (m : Life Body Asked Reply) (again : Bool) → HasInHand x known m (if again then Lives.reopening spot.start false else Lives.Stand.Gone) Work.Nothing
    given_has known m true = (refl, λ e. absurd (let bad : true ≡ false = e in cc))
    given_has known m false = refl

    pub lost_inhand : (known known' gives : Bool) (old : Work) → HasInHand x known l l.stand old → (gives ≡ false → known' ≡ known) →
        (let m = given_where gives recover spot made (lost l.stand) in HasInHand x known' m m.stand (if gives then Work.Nothing else old))
    lost_inhand known known' true old h k = given_has known' (given_where true recover spot made (lost l.stand)) (nat_lt (length (lost l.stand).gave) recover)
    lost_inhand known known' false old h k = subst (λ z. HasInHand x z (lost l.stand) (lost l.stand).stand old) (sym (k refl)) (life_has known old l.stand refl h)
