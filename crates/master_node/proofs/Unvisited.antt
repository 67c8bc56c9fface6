-- WITHOUT A DATAGRAM NOTHING COMES INTO HAND: a service that came into hand at a visit had room in the frame, and has something to send.
use Rattle.std.proofs.Common.{◌≡◌, ◌+◌, ℕ, zero, suc, Bool, true, false, Option, Some, None, List, [], ◌∷◌, ◌++◌, refl, ap, ◌∙◌, subst, arith}
use Rattle.std.specs.Prelude.{◌&&◌, is_none, is_some, option_map}
use Rattle.life_runs.specs.of_datagrams.Datagram as Raw
use Rattle.life_runs.specs.of_mailbox_mail.declared.mail.Mail.{Mail}
use Rattle.life_runs.specs.of_link_model.Link.{Halves}
use Rattle.life_runs.specs.of_frame_view.View.{Lens}
use Rattle.life_runs.specs.of_frame_view.Shares.{AllFrom, Lived}
use Rattle.life_runs.specs.Led.{speech_at}
use Rattle.life_runs.specs.of_master_duty.Reply.{Reply}
use Rattle.life_runs.specs.of_state_model.Stated.{Service}
use Rattle.life_runs.specs.of_state_model.Accounts.{Pick}
use Rattle.life_runs.proofs.of_master_hand.Firsts.{some_planned}
use Rattle.life_runs.specs.of_master_hand.Laying.{ready_of}
use Rattle.life_runs.specs.of_master_hand.Over.{over_by}
use Rattle.life_runs.specs.of_master_hand.Shown.{Shows, knows}
use Rattle.life_runs.specs.of_master_hand.Spoken.{Asked, acknowledged, is_followed, is_passed}
use Rattle.life_runs.specs.of_master_hand.Talk.{Talking}
use Rattle.life_runs.specs.of_master_hand.contracts.hand.InHandHand.TheImpl as Impl
use Rattle.life_runs.specs.of_master_hand.declared.clients.Which.{Which}
use Rattle.life_runs.specs.of_master_hand.declared.course.Course.{Course}
use Rattle.life_runs.specs.of_master_hand.declared.hand.InHand.{InHand}
use Rattle.life_runs.specs.of_master_side.Carried.{in_hand}
use Rattle.life_runs.specs.of_master_side.First.{HoldsFirst}
use Rattle.life_runs.specs.of_master_side.Free.{is_free_side}
use Rattle.life_runs.specs.of_master_side.Shown.{SideShows, started_by, wish_begun}
use Rattle.life_runs.specs.of_master_side.declared.carried.Target.{Target}
use Rattle.life_runs.specs.of_master_side.declared.carried.Wish.{Wish}
use Rattle.life_runs.specs.of_master_side.declared.side.Side.{Side}
use Rattle.life_runs.specs.of_link_mails.Body.{Body, link_mail}
use Rattle.life_runs.proofs.of_master_tour.FirstRooms.{has_datagram}
use Rattle.life_runs.specs.of_master_tour.First.{FitsFirst, LacksFirst}
use Rattle.life_runs.specs.of_master_tour.Recalls.{TakesUp as Holds}
use Rattle.life_runs.specs.of_master_tour.Stands.{Counts, StandShows, StopShows}
use Rattle.life_runs.specs.of_master_tour.Walks.{StepsAt}
use Rattle.life_runs.specs.of_master_tour.declared.stop.Stand.{Stand}
use Rattle.life_runs.specs.of_master_tour.declared.stop.Stop.{Stop}
use Rattle.life_runs.specs.of_life_model.Lives.{Life, Spot, life_next}
use Rattle.master_node.specs.Coming.{wish_of}
use Rattle.master_node.specs.Eager.{recall_of}
use Rattle.master_node.specs.Filling.{StopFills}
use Rattle.master_node.specs.Kept.{StopStays}
use Rattle.master_node.specs.Shows.{side_shows}
use Rattle.master_node.specs.declared.coming.Coming.{Coming}
use Rattle.master_node.proofs.Newest.{newest, unheld}
use Rattle.master_node.proofs.Ports.{and_second}

-- a slave of the tour
abbrev pub Slave : Type 0
Slave = Stop InHand Impl.ghosts

-- A FREE SIDE'S HAND KNOWS ITS MAILS: behind a reply that was not due its newest service is never over
knows_over : (course : Course) (which : Which) (c : Talking) (fresh idle b : Bool) → (over_by course which c fresh idle && b) ≡ true → knows course ≡ true
knows_over Course.Nothing which c fresh idle b e = refl
knows_over Course.Goes which c fresh idle b e = refl
knows_over Course.Answered which c fresh idle b e = refl
knows_over Course.Mute which c fresh idle b e = absurd (cc)
knows_over Course.Closed which c fresh idle b e = absurd (cc)
knows_over Course.Astray which c fresh idle b e = absurd (cc)

knows_free : (s : Side InHand Impl.ghosts) → is_free_side s ≡ true → knows s.hand.course ≡ true
knows_free s e =
    let idle = is_none s.out.state in
    knows_over s.hand.course s.hand.which s.hand.clients s.fresh idle (Impl.ghosts.done s.hand idle) (and_second (is_none (in_hand s.duty) && is_none s.passing) _ e)

pub some_wish : (coming : Option Coming) → is_some (wish_of coming) ≡ true → is_some coming ≡ true
some_wish None e = e
some_wish (Some coming) e = refl

module _ (octets : List ℕ) (wish : Option Wish) where
  -- ROOM IS ASKED of a slave of which something may come into hand
  pub record Roomed (s t : Slave) : Type 0 where
    pub free : is_some wish ≡ true → (s.stand ≡ Stand.Open) × (is_free_side s.side ≡ true)
    pub fits : FitsFirst octets wish s
    pub still : is_free_side s.side ≡ true → is_some wish ≡ true → t.side ≡ s.side

  -- and it is laid ready
  pub record Roomy (s t : Slave) : Type 0 where
    pub free : is_some wish ≡ true → (s.stand ≡ Stand.Open) × (is_free_side s.side ≡ true)
    pub fits : FitsFirst octets wish s
    pub out : is_some wish ≡ true → t.side.out.len ≡ s.side.out.len
    pub inn : is_some wish ≡ true → t.side.inn ≡ s.side.inn
    pub paused : is_some wish ≡ true → t.side.paused ≡ s.side.paused
    pub known : is_some wish ≡ true → knows t.side.hand.course ≡ true
    pub stand : t.stand ≡ s.stand

  pub roomy : (s t u : Slave) → t.stand ≡ s.stand → Roomed s t → StopStays t u → Roomy s u
  roomy s t u e r k = record {
    free = r.free;
    fits = r.fits;
    out = λ w. ap (λ z. z.len) k.side.side.out_is ∙ ap (λ (z : Side InHand Impl.ghosts). z.out.len) (r.still (r.free w).1 w);
    inn = λ w. k.side.side.in_is ∙ ap (λ (z : Side InHand Impl.ghosts). z.inn) (r.still (r.free w).1 w);
    paused = λ w. k.side.paused ∙ ap (λ (z : Side InHand Impl.ghosts). z.paused) (r.still (r.free w).1 w);
    known = λ w. ap (λ z. knows z) k.side.hand.course_is ∙ ap (λ (z : Side InHand Impl.ghosts). knows z.hand.course) (r.still (r.free w).1 w) ∙ knows_free s.side (r.free w).1;
    stand = k.stand ∙ e;
  }

  -- ITS VISIT
  pub record Lacking (result : Bool) (t u : Slave) : Type 0 where
    pub lacks : LacksFirst octets result wish t u
    pub takes : Holds u.stand u.side.out.state (knows u.side.hand.course) (λ x d a. SideShows (Shows u.side.hand.course u.side.hand.which u.side.hand.clients x) u.side.out u.side.inn u.side.fresh u.side.duty d a)
    pub stand : u.stand ≡ t.stand
    pub recalled : recall_of u ≡ recall_of t

  -- from before its room was asked to behind its visit
  pub record Went (result : Bool) (got : Option Slave) (s u : Slave) : Type 0 where
    pub between : Slave
    pub is : got ≡ Some between
    pub roomed : Roomy s between
    pub lacking : Lacking result between u
    pub place : u.place ≡ between.place

-- NOTHING CAME INTO HAND where neither a change of state did nor a service by mails
nothing_by : (result : Bool) (wish : Option Wish) (ready : Option Asked) → ((target : Target) → result ≡ true → wish ≡ Some (Wish.State target) → ⊥) → ((q : Asked) → result ≡ true → wish ≡ Some Wish.Mails → ready ≡ Some q → ⊥) → wish_begun result wish ready ≡ None
nothing_by false wish ready s m = refl
nothing_by true None ready s m = refl
nothing_by true (Some Wish.Mails) None s m = refl
nothing_by true (Some Wish.Mails) (Some q) s m = absurd (m q refl refl refl)
nothing_by true (Some (Wish.State target)) ready s m = absurd (s target refl refl)

-- a service by mails that came into hand, and is counted, has a mail held behind its visit
module _ (lens : ℕ → Lens) (recover made : ℕ) where
  held_mails : (l k : Life Body Asked Reply) (spot : Spot) (pick : Pick Asked) (q : Asked) (u : Slave) → u.stand ≡ Stand.Open → knows u.side.hand.course ≡ true →
      Holds u.stand u.side.out.state (knows u.side.hand.course) (λ x d a. SideShows (Shows u.side.hand.course u.side.hand.which u.side.hand.clients x) u.side.out u.side.inn u.side.fresh u.side.duty d a) →
      StopShows (side_shows lens recover u spot) recover spot u.stand u.spare k → k ≡ life_next (speech_at lens spot) acknowledged is_followed is_passed made l l.stand pick → pick.begin ≡ Some (Service.Mails q) → Counts made pick.begin l k → u.side.out.state ≡ None → ⊥
  held_mails l k spot pick q u opened known holds shown is b took none =
      let x = speech_at lens spot in
      let stood = subst (λ (z : Stand). StandShows (λ d b. side_shows lens recover u spot d b) spot z k) opened shown.stood in
      let n = newest x q made acknowledged is_followed is_passed l k l.stand pick b is (took ∙ ap (λ z. l.era.account.started ++ started_by made z) b) in
      let out : k.era.side.halves.out.holding ≡ None = ap (λ (z : Halves Body). z.out.holding) stood.1.halves ∙ ap (λ z. option_map link_mail z) none in
      some_planned (record { out = (lens spot.station).out; back = (lens spot.station).back }) q n.valid (unheld x q made k.era.side n out (holds opened none known x k.era.side k.era.account stood.1))

  -- THE SLAVE THAT WAS VISITED has a datagram in the frame, where something came into hand of it
  pub without : (octets : List ℕ) (wish : Option Wish) (result : Bool) (begun : ℕ → Option (Service Asked)) (index : ℕ) (next : List ℕ) (ds : List Raw.Datagram) (i : ℕ) (a : Lived Asked Reply) (s t u : Slave) → StopFills lens recover made begun index next ds i a u → Roomy octets wish s t → Lacking octets wish result t u →
      begun a.spot.place ≡ wish_begun result wish (ready_of t.side.hand.laying) → u.under ≡ false → wish_begun result wish (ready_of t.side.hand.laying) ≡ None
  without octets wish result begun index next ds i a s t u f r v b under =
      nothing_by result wish (ready_of t.side.hand.laying) (λ target is e. lacking (Wish.State target) is e tt)
      (λ q is e g. mails q e (f.wish ∙ b ∙ (λ j. wish_begun (is j) (e j) (g j))) u.side.out.state refl is)
    where
      lacking : (w : Wish) → result ≡ true → wish ≡ Some w → HoldsFirst w u.side.out.state → ⊥
      lacking w is e h =
          let some = ap (λ z. is_some z) e in
          has_datagram octets w s t u (r.free some).0 (r.free some).1 s.side.out_least s.side.in_least (subst (λ z. FitsFirst octets z s) e r.fits) (r.out some) (r.inn some) (r.paused some)
          (subst (λ z. LacksFirst octets z (Some w) t u) is (subst (λ z. LacksFirst octets result z t u) e v.lacks)) under h

      mails : (q : Asked) → wish ≡ Some Wish.Mails → f.pick.begin ≡ Some (Service.Mails q) → (held : Option Mail) → u.side.out.state ≡ held → result ≡ true → ⊥
      mails q e p (Some m) h is = lacking Wish.Mails is e (ap (λ z. is_some z) h)
      mails q e p None h is =
          let some = ap (λ z. is_some z) e in
          held_mails a.life f.life a.spot f.pick q u (v.stand ∙ r.stand ∙ (r.free some).0) (ap (λ z. z.knows) v.recalled ∙ r.known some) v.takes f.lives.shown f.next p f.took h

-- ONE PLACE, where the second list is known place by place
pub steps_behind : {A S : Type 0} (P : ℕ → A → S → Type 0) (R T : S → S → Type 0) (i n m : ℕ) (as' : List A) (ss ts : List S) → m ≡ i + n → ((a : A) (s t : S) → P m a t → R s t → T s t) → AllFrom P i as' ts → StepsAt R n ss ts → StepsAt T n ss ts
steps_behind P R T i zero m as' [] ts e h p r = absurd r
steps_behind P R T i (suc n) m as' [] ts e h p r = absurd r
steps_behind P R T i zero m as' (s ∷ ss) [] e h p r = absurd r
steps_behind P R T i (suc n) m as' (s ∷ ss) [] e h p r = absurd r
steps_behind P R T i n m [] (s ∷ ss) (t ∷ ts) e h p r = absurd p
steps_behind P R T i zero m (a ∷ as') (s ∷ ss) (t ∷ ts) e h p r = (h a s t (subst (λ z. P z a t) (let f : i ≡ m = omega (arith, e) in f) p.0) r.0, r.1)
steps_behind P R T i (suc n) m (a ∷ as') (s ∷ ss) (t ∷ ts) e h p r = (r.0, steps_behind P R T (suc i) n m as' ss ts (omega (arith, e)) h p.1 r.1)
