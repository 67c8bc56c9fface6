-- WHAT MIGHT BEGIN AT A VISIT did, or nothing is left that might; and of all other slaves nothing changes.
use Rattle.std.proofs.Common.{◌≡◌, ◌==◌, ◌+◌, ◌<◌, ℕ, zero, suc, Bool, true, false, Option, Some, None, List, [], ◌∷◌, refl, sym, ap, ◌∙◌, subst, arith}
use Rattle.std.specs.Prelude.{IfSome, length, map, nat_lt, slice_get}
use Rattle.std.proofs.lemmas.Bool.{eq-eqb, eqb-true, ltb-false}
use Rattle.life_runs.specs.of_datagrams.Datagram as Raw
use Rattle.life_runs.specs.of_frame_view.View.{Lens}
use Rattle.life_runs.specs.of_frame_view.Shares.{AllBoth, AllFrom, Lived}
use Rattle.life_runs.specs.Led.{Leads, Turn, speech_at}
use Rattle.life_runs.specs.of_master_duty.Reply.{Reply}
use Rattle.life_runs.specs.of_state_model.Stated as Stated
use Rattle.life_runs.specs.of_state_model.Accounts.{Pick}
use Rattle.life_runs.specs.of_master_hand.Laying.{Waiting, asked_next, ready_by, ready_of}
use Rattle.life_runs.specs.of_master_hand.Shown.{Shows, awaits_reply, knows}
use Rattle.life_runs.specs.of_master_hand.Spoken.{Asked, acknowledged, is_followed, is_passed}
use Rattle.life_runs.specs.of_master_hand.declared.hand.InHand.{InHand}
use Rattle.life_runs.specs.of_master_hand.declared.laying.Laid.{Laid}
use Rattle.life_runs.specs.of_master_side.Passing.{passing_behind}
use Rattle.life_runs.specs.of_master_side.Recall.{BeginsNone}
use Rattle.life_runs.specs.of_master_side.Shown.{SideShows, wish_begun}
use Rattle.life_runs.specs.of_master_side.declared.carried.Wish.{Wish}
use Rattle.life_runs.specs.of_master_side.declared.hand.Hand.{Ghosts}
use Rattle.life_runs.specs.of_link_mails.Body.{Body}
use Rattle.life_runs.specs.of_master_tour.Made.{is_in}
use Rattle.life_runs.specs.of_master_tour.Recalls.{BeginsAll as Begins}
use Rattle.life_runs.specs.of_master_tour.Passing.{StandPassing}
use Rattle.life_runs.specs.of_master_tour.Stands.{HoldShows, StopShows}
use Rattle.life_runs.specs.of_master_tour.Walks.{StepsAt}
use Rattle.life_runs.specs.of_master_tour.declared.stop.Stand.{Stand}
use Rattle.life_runs.specs.of_master_tour.declared.stop.Stop.{Stop}
use Rattle.life_runs.specs.of_life_model.Lives.{Life, life_next}
use Rattle.life_runs.specs.of_segment_plan.declared.service.Service as Plan
use Rattle.life_runs.specs.Served.{Keyed, Serves}
use Rattle.master_node.specs.Begins.{NoneMore, PacketFirst, begun_of}
use Rattle.master_node.specs.Coming.{IsComing, IsLaid, next_of, wish_of}
use Rattle.master_node.specs.Eager.{recall_of}
use Rattle.master_node.specs.Filling.{IsAmong, StopFills}
use Rattle.master_node.specs.Kept.{StopStays}
use Rattle.master_node.specs.Resting.{MayBegin}
use Rattle.master_node.specs.Serving.{run_lead}
use Rattle.master_node.specs.Shows.{lived_of, side_shows}
use Rattle.master_node.specs.Passes.{IsMailReady, IsServing, ScriptLast, ThreeFrom, waits_in}
use Rattle.master_node.specs.ServedEager.{AllServedBegin}
use Rattle.master_node.specs.Starts.{AllBegin, AllUnvisited, HasStarted, IsByMails, LaysPacket, NeverBegins, NoPacket, NoneComes, SideFrees, WaitsFor}
use Rattle.master_node.specs.declared.coming.Coming.{Coming}
use Rattle.master_node.specs.declared.lan.Lan.{Lan}
use Rattle.master_node.proofs.Frees.{MightBegin, StillLife, frees, might_still, still_life}
use Rattle.master_node.proofs.Kepts.{shows_kept}
use Rattle.master_node.proofs.Lefts.{in_here, in_tail, in_there}
use Rattle.master_node.proofs.Mailed.{none_came}
use Rattle.master_node.proofs.Restings.{none_unseen}

-- ONE PLACE of two lists goes on, and at all others the one list stays
from_apart : {A S : Type 0} (P Q : ℕ → A → S → Type 0) (m i : ℕ) (as' : List A) (ss : List S) → m < i → ((j : ℕ) (a : A) (s : S) → (j ≡ m → ⊥) → P j a s → Q j a s) → AllFrom P i as' ss → AllFrom Q i as' ss
from_apart P Q m i [] [] l h p = tt
from_apart P Q m i [] (s ∷ ss) l h p = absurd p
from_apart P Q m i (a ∷ as') [] l h p = absurd p
from_apart P Q m i (a ∷ as') (s ∷ ss) l h p = (h i a s (λ e. omega (arith, e, l)) p.0, from_apart P Q m (suc i) as' ss (omega (arith, l)) h p.1)

pub from_steps : {A S : Type 0} (P Q : ℕ → A → S → Type 0) (R : S → S → Type 0) (i n m : ℕ) (as' : List A) (ss ts : List S) → m ≡ i + n → ((a : A) (s t : S) → P m a s → R s t → Q m a t) → ((j : ℕ) (a : A) (s : S) → (j ≡ m → ⊥) → P j a s → Q j a s) →
    AllFrom P i as' ss → StepsAt R n ss ts → AllFrom Q i as' ts
from_steps P Q R i zero m [] [] ts e at other p r = absurd r
from_steps P Q R i (suc n) m [] [] ts e at other p r = absurd r
from_steps P Q R i n m [] (s ∷ ss) ts e at other p r = absurd p
from_steps P Q R i n m (a ∷ as') [] ts e at other p r = absurd p
from_steps P Q R i zero m (a ∷ as') (s ∷ ss) [] e at other p r = absurd r
from_steps P Q R i (suc n) m (a ∷ as') (s ∷ ss) [] e at other p r = absurd r
from_steps P Q R i zero m (a ∷ as') (s ∷ ss) (t ∷ ts) e at other p r =
    let f : m ≡ i = omega (arith, e) in (
      subst (λ z. Q z a t) f (at a s t (subst (λ z. P z a s) (sym f) p.0) r.0),
      subst (λ z. AllFrom Q (suc i) as' z) (sym r.1) (from_apart P Q m (suc i) as' ss (omega (arith, f)) other p.1),
    )
from_steps P Q R i (suc n) m (a ∷ as') (s ∷ ss) (t ∷ ts) e at other p r = (
  subst (λ z. Q i a z) (sym r.0) (other i a s (λ q. omega (arith, q, e)) p.0),
  from_steps P Q R (suc i) n m as' ss ts (omega (arith, e)) at other p.1 r.1,
)

pub from_both : {A S : Type 0} (P Q : ℕ → A → S → Type 0) (i : ℕ) (as' : List A) (ss : List S) → AllFrom P i as' ss → AllFrom Q i as' ss → AllFrom (λ j a s. P j a s × Q j a s) i as' ss
from_both P Q i [] [] p q = tt
from_both P Q i [] (s ∷ ss) p q = absurd p
from_both P Q i (a ∷ as') [] p q = absurd p
from_both P Q i (a ∷ as') (s ∷ ss) p q = ((p.0, q.0), from_both P Q (suc i) as' ss p.1 q.1)

-- the places that were visited, and one more
pub in_behind : (j p : ℕ) (ps : List ℕ) → (j ≡ p → ⊥) → is_in j (p ∷ ps) ≡ true → is_in j ps ≡ true
in_behind j p ps n e = go (j == p) refl
  where
    go : (z : Bool) → (j == p) ≡ z → is_in j ps ≡ true
    go true f = absurd (n (eqb-true j p f))
    go false f = sym (in_tail j p ps f) ∙ e

-- A SLAVE WHOSE VISIT IS TO COME: nothing came into hand of it, and its next service is that of its script
pub record WaitsYet {G : Ghosts InHand} (lens : ℕ → Lens) (recover made : ℕ) (a : Leads) (s : Stop InHand G) : Type 0 where
  pub next : next_of s ≡ slice_get a.script a.number
  pub unpassed : a.lived.life.era.passing ≡ None → s.stand ≡ Stand.Open → s.side.passing ≡ None
  pub room : (lens a.lived.spot.station).out ≡ s.side.out.len
  pub life : Life Body Asked Reply
  pub pick : Pick Asked
  pub none : pick.begin ≡ None
  pub is : life ≡ life_next (speech_at lens a.lived.spot) acknowledged is_followed is_passed made a.lived.life a.lived.life.stand pick
  pub shown : StopShows (side_shows lens recover s a.lived.spot) recover a.lived.spot s.stand s.spare life

-- what may come into hand of it
pub record ComesSo {G : Ghosts InHand} (l : Lan) (place : ℕ) (got : List Keyed) (coming : Option Coming) (s : Stop InHand G) : Type 0 where
  pub first : PacketFirst l place coming
  pub last : ScriptLast got coming
  pub none : coming ≡ None → s.stand ≡ Stand.Open → SideFrees s.side → NoneComes l place (next_of s) × (got ≡ [])
  pub mails : coming ≡ Some Coming.Script → IsByMails (next_of s)

-- what the frame's room is asked of
abbrev pub Asks : {G : Ghosts InHand} → Stop InHand G → Stop InHand G → Type 0
Asks s t = ((lens : ℕ → Lens) (recover made : ℕ) (a : Leads) (l : Life Body Asked Reply) → StopShows (side_shows lens recover s a.lived.spot) recover a.lived.spot s.stand s.spare l →
    HoldShows (speech_at lens a.lived.spot) acknowledged is_followed is_passed made l (StopShows (side_shows lens recover t a.lived.spot) recover a.lived.spot t.stand t.spare)) × (t.side.passing ≡ s.side.passing) × (t.side.out.len ≡ s.side.out.len) × (next_of t ≡ next_of s) × (recall_of t ≡ recall_of s)

-- laid ready, and before its visit
pub record Readies {G : Ghosts InHand} (lens : ℕ → Lens) (recover made : ℕ) (l : Lan) (place : ℕ) (got : List Keyed) (coming : Option Coming) (s t : Stop InHand G) : Type 0 where
  pub so : ComesSo l place got coming s
  pub known : knows t.side.hand.course ≡ knows s.side.hand.course
  pub next : next_of t ≡ next_of s
  pub out : t.side.out.len ≡ s.side.out.len
  pub laid : IsLaid coming t.side.hand.laying.laid
  pub packet : LaysPacket coming t.side.hand.laying.laid
  pub mail : IsMailReady coming t.side.hand.laying
  pub frees : (a : Leads) → WaitsYet lens recover made a s → knows t.side.hand.course ≡ true → MayBegin lens a → a.lived.life.era.passing ≡ None → (t.stand ≡ Stand.Open) × SideFrees t.side

-- and its visit
abbrev pub BeginsSo : {G : Ghosts InHand} → Option Coming → Bool → Stop InHand G → Type 0
BeginsSo coming result t =
    Begins t.stand result (knows t.side.hand.course) t.side.duty t.side.passing acknowledged (λ x d a. SideShows (Shows t.side.hand.course t.side.hand.which t.side.hand.clients x) t.side.out t.side.inn t.side.fresh t.side.duty d a) (wish_of coming) (ready_of t.side.hand.laying)

-- behind that nothing is left that might begin, where nothing did
abbrev pub LeavesNone : {G : Ghosts InHand} → (ℕ → Lens) → ℕ → ℕ → Lan → ℕ → List Keyed → Option (Stated.Service Asked) → Stop InHand G → Stop InHand G → Type 0
LeavesNone lens recover made l place got what s t = (a : Leads) → WaitsYet lens recover made a s → knows t.side.hand.course ≡ true → MayBegin lens a → a.lived.life.era.passing ≡ None → what ≡ None →
    NeverBegins (lens a.lived.spot.station).out (slice_get a.script a.number) × NoPacket l place × (got ≡ [])

-- a service by mails that nothing is asked by never begins
never_by : (room : ℕ) (next : Option Plan.Service) → asked_next room next ≡ None → IsByMails next → NeverBegins room next
never_by room None e m = tt
never_by room (Some (Plan.Service.Sdo service)) e m = e
never_by room (Some (Plan.Service.ReadFile name pass)) e m = e
never_by room (Some (Plan.Service.WriteFile name pass bytes)) e m = e
never_by room (Some (Plan.Service.ReadIdn number idn elements)) e m = e
never_by room (Some (Plan.Service.WriteIdn number idn elements bytes)) e m = e
never_by room (Some (Plan.Service.SetIp block)) e m = e
never_by room (Some Plan.Service.GetIp) e m = e
never_by room (Some (Plan.Service.State state)) e m = absurd m
never_by room (Some (Plan.Service.Forward packet)) e m = e

packet_none : (w : Waiting) → w.laid ≡ Laid.Packet → ready_of w ≡ None → ⊥
packet_none w e n = let t = sym (ap (λ z. ready_by z w) e) ∙ n in cc

module _ (lens : ℕ → Lens) (recover made : ℕ) where
  might : (a : Leads) → MayBegin lens a → MightBegin (speech_at lens a.lived.spot) a.lived.life
  might a b = record { stands = b.stands; free = b.free; done = b.done; hand = b.hand }

  module _ {G : Ghosts InHand} where
    -- a slave whose visit is to come, and what its stop shows
    yet : (a : Leads) (s : Stop InHand G) (w : WaitsYet lens recover made a s) → MayBegin lens a → StillLife a.lived.life w.life
    yet a s w b = still_life (speech_at lens a.lived.spot) acknowledged is_followed is_passed made a.lived.life w.life a.lived.life.stand w.pick b.stands w.none b.free w.is

    yet_frees : (a : Leads) (s : Stop InHand G) → WaitsYet lens recover made a s → knows s.side.hand.course ≡ true → MayBegin lens a → a.lived.life.era.passing ≡ None → (s.stand ≡ Stand.Open) × SideFrees s.side
    yet_frees a s w k b p = frees lens recover a.lived.spot s w.life w.shown k (w.unpassed p) (might_still _ a.lived.life w.life (yet a s w b) (might a b))

    knows_same : (s t : Stop InHand G) → recall_of t ≡ recall_of s → knows t.side.hand.course ≡ knows s.side.hand.course
    knows_same s t e = ap (λ z. z.knows) e

    pub readies : (l : Lan) (place : ℕ) (got : List Keyed) (coming : Option Coming) (s t u : Stop InHand G) → ComesSo l place got coming s → Asks s t → StopStays t u → IsLaid coming u.side.hand.laying.laid → LaysPacket coming u.side.hand.laying.laid → IsMailReady coming u.side.hand.laying →
        Readies lens recover made l place got coming s u
    readies l place got coming s t u so q k laid packet mail =
        let known : knows u.side.hand.course ≡ knows s.side.hand.course = ap (λ z. knows z) k.side.hand.course_is ∙ knows_same s t q.4 in
        record {
          so = so;
          known = known;
          next = (λ i. slice_get (k.side.script i) (k.side.number i)) ∙ q.3;
          out = ap (λ z. z.len) k.side.side.out_is ∙ q.2;
          laid = laid;
          packet = packet;
          mail = mail;
          frees = λ a w e b p.
              let h = q.0 lens recover made a w.life w.shown in
              let x = speech_at lens a.lived.spot in
              let spot = a.lived.spot in
              let old = yet a s w b in
              let m = might_still x a.lived.life w.life old (might a b) in
              let n = life_next x acknowledged is_followed is_passed made w.life w.life.stand (record { begin = None; hold = h.hold }) in
              let still = still_life x acknowledged is_followed is_passed made w.life n w.life.stand (record { begin = None; hold = h.hold }) m.stands refl m.free refl in
              let here = subst (λ f. StopShows f recover spot t.stand t.spare n) (sym (shows_kept lens recover t.side.hand.laying.number spot t u k)) h.shown in
              let there : StopShows (side_shows lens recover u spot) recover spot u.stand u.spare n = subst (λ z. StopShows (side_shows lens recover u spot) recover spot z u.spare n) (sym k.stand) (subst (λ z. StopShows (side_shows lens recover u spot) recover spot t.stand z n) (sym k.spare) here) in
              let opened = (yet_frees a s w (sym known ∙ e) b p).0 in
              frees lens recover spot u n there e (λ o. k.side.passing ∙ q.1 ∙ w.unpassed p opened) (might_still x w.life n still m);
        }

    -- nothing came into hand by what was wished
    begins_none : (coming : Option Coming) (result : Bool) (t : Stop InHand G) → wish_begun result (wish_of coming) (ready_of t.side.hand.laying) ≡ None → t.stand ≡ Stand.Open → SideFrees t.side → BeginsSo coming result t → BeginsNone (wish_of coming) (ready_of t.side.hand.laying)
    begins_none coming false t e o f b = b o refl f.known f.hand f.unpassed f.speech f.side f.account f.shows f.free f.done
    begins_none coming true t e o f b = go (wish_of coming) (ready_of t.side.hand.laying) e
      where
        go : (wish : Option Wish) (ready : Option Asked) → wish_begun true wish ready ≡ None → BeginsNone wish ready
        go None ready w = tt
        go (Some Wish.Mails) None w = refl
        go (Some Wish.Mails) (Some q) w = absurd (cc)
        go (Some (Wish.State target)) ready w = absurd (cc)

    left_by : (l : Lan) (place : ℕ) (got : List Keyed) (coming : Option Coming) (s t : Stop InHand G) (a : Leads) → t.side.out.len ≡ t.side.hand.laying.areas.out → ComesSo l place got coming s → Readies lens recover made l place got coming s t → WaitsYet lens recover made a s → knows s.side.hand.course ≡ true → MayBegin lens a → a.lived.life.era.passing ≡ None →
        BeginsNone (wish_of coming) (ready_of t.side.hand.laying) → NeverBegins (lens a.lived.spot.station).out (slice_get a.script a.number) × NoPacket l place × (got ≡ [])
    left_by l place got None s t a room so r w k b p n =
        let f = yet_frees a s w k b p in
        let c = so.none refl f.0 f.1 in
        (subst (λ z. NeverBegins (lens a.lived.spot.station).out z) w.next (c.0.1 (lens a.lived.spot.station).out), c.0.0, c.1)
    left_by l place got (Some Coming.Packet) s t a room so r w k b p n = absurd (packet_none t.side.hand.laying r.packet n)
    left_by l place got (Some Coming.Mail) s t a room so r w k b p n = absurd (let z = sym r.mail.1 ∙ n in cc)
    left_by l place got (Some Coming.Script) s t a room so r w k b p n =
        let laying = t.side.hand.laying in
        let asked : asked_next laying.areas.out (next_of t) ≡ None = sym (ap (λ z. ready_by z laying) r.laid) ∙ n in
        let area : laying.areas.out ≡ (lens a.lived.spot.station).out = sym room ∙ r.out ∙ sym w.room in
        let next : next_of t ≡ slice_get a.script a.number = r.next ∙ w.next in
        let never = never_by laying.areas.out (next_of t) asked (subst (λ z. IsByMails z) (sym r.next) (so.mails refl)) in
        (subst (λ z. NeverBegins (lens a.lived.spot.station).out z) next (subst (λ z. NeverBegins z (next_of t)) area never), so.first, so.last)
    left_by l place got (Some (Coming.State target)) s t a room so r w k b p n = absurd n

    pub leaves_none : (l : Lan) (place : ℕ) (got : List Keyed) (coming : Option Coming) (result : Bool) (s t u : Stop InHand G) → t.side.out.len ≡ t.side.hand.laying.areas.out → Readies lens recover made l place got coming s t → BeginsSo coming result t → recall_of u ≡ recall_of t →
        LeavesNone lens recover made l place got (wish_begun result (wish_of coming) (ready_of t.side.hand.laying)) s u
    leaves_none l place got coming result s t u room r b e = λ a w k m p n.
        let here = sym (knows_same t u e) ∙ k in
        let f = r.frees a w here m p in
        left_by l place got coming s t a room r.so r w (sym r.known ∙ here) m p (begins_none coming result t n f.0 f.1 b)

  -- of a frame that is made, at a place whose visit is to come
  pub waits_yet : {G : Ghosts InHand} (begun : ℕ → Option (Stated.Service Asked)) (index : ℕ) (left : List ℕ) (ds : List Raw.Datagram) (i : ℕ) (a : Leads) (s : Stop InHand G) → is_in i left ≡ true → StopFills lens recover made begun index left ds i a.lived s → IsAmong lens begun left i a s → WaitsYet lens recover made a s
  waits_yet begun index left ds i a s at f m = record {
    next = λ j. slice_get (m.script j) (m.still at j);
    unpassed = λ p o. m.unpassed;
    room = m.room;
    life = f.life;
    pick = f.pick;
    none = f.idle at;
    is = f.next;
    shown = f.lives.shown;
  }

-- of the frame of a serving, where it still has all mails that waited
module _ (lens : ℕ → Lens) (recover made : ℕ) where
  pub serves_yet : {G : Ghosts InHand} (begun : ℕ → Option (Stated.Service Asked)) (index : ℕ) (left : List ℕ) (ds : List Raw.Datagram) (i : ℕ) (w : Serves) (ks : List Keyed) (s : Stop InHand G) → is_in i left ≡ true → StopFills lens recover made begun index left ds i w.lead.lived s →
      IsServing lens begun made left i w ks s → WaitsYet lens recover made w.lead s × (ks ≡ w.waits)
  serves_yet begun index left ds i w ks s at f h =
      let none = h.still at in
      let same = none_came (lens w.lead.lived.spot.station).out w.lead.script w.waits ks w.hand h.hand w.lead.number s.side.hand.laying.number (begun w.lead.lived.spot.place) h.comes none in
      let awaits = awaits_reply s.side.hand.course s.side.hand.which s.side.hand.clients in
      let passing = h.passing w.lead.lived.life (ap (λ z. passing_behind is_passed w.lead.lived.life.era.passing z) (sym none)) in (
        record {
          next = λ j. slice_get (h.script j) (same.number_is j);
          unpassed = λ p o. none_unseen s.side.passing (sym (subst (λ z. StandPassing z awaits s.side.passing w.lead.lived.life) o passing).is ∙ p);
          room = h.room;
          life = f.life;
          pick = f.pick;
          none = f.idle at;
          is = f.next;
          shown = f.lives.shown;
        },
        same.waits_are,
      )

-- WHAT IS KNOWN OF EACH SLAVE of a serving while its frame is made, and which mails wait for the one at a place
pub record KnownServed {G : Ghosts InHand} (F : ℕ → Lived Asked Reply → Stop InHand G → Type 0) (S : ℕ → Serves → List Keyed → Stop InHand G → Type 0) (T : ℕ → Serves → Stop InHand G → Type 0) (place : ℕ) (got : List Keyed) (i : ℕ) (w : Serves) (s : Stop InHand G) : Type 0 where
  pub waits : List Keyed
  pub fills : F i w.lead.lived s
  pub serving : S i w waits s
  pub starts : T i w s
  pub here : i ≡ place → waits ≡ got

module _ {G : Ghosts InHand} (F : ℕ → Lived Asked Reply → Stop InHand G → Type 0) (S : ℕ → Serves → List Keyed → Stop InHand G → Type 0) (T : ℕ → Serves → Stop InHand G → Type 0) (place : ℕ) (got : List Keyed) where
  serves_from : (i : ℕ) (ws : List Serves) (kss : List (List Keyed)) (ss : List (Stop InHand G)) → ((n : ℕ) → place ≡ i + n → waits_in kss n ≡ got) → AllFrom F i (map (λ w. lived_of (run_lead w)) ws) ss → ThreeFrom S i ws kss ss → AllFrom T i ws ss →
      AllFrom (λ j w s. KnownServed F S T place got j w s) i ws ss
  serves_from i [] kss [] h f p t = tt
  serves_from i [] kss (s ∷ ss) h f p t = absurd f
  serves_from i (w ∷ ws) kss [] h f p t = absurd f
  serves_from i (w ∷ ws) [] (s ∷ ss) h f p t = absurd p
  serves_from i (w ∷ ws) (ks ∷ kss) (s ∷ ss) h f p t = (
    record { waits = ks; fills = f.0; serving = p.0; starts = t.0; here = λ e. h 0 (omega (arith, e)) },
    serves_from (suc i) ws kss ss (λ n e. h (suc n) (omega (arith, e))) f.1 p.1 t.1,
  )

  pub serves_known : (ws : List Serves) (kss : List (List Keyed)) (ss : List (Stop InHand G)) → waits_in kss place ≡ got → AllFrom F 0 (map (λ w. lived_of (run_lead w)) ws) ss → ThreeFrom S 0 ws kss ss → AllFrom T 0 ws ss → AllFrom (λ j w s. KnownServed F S T place got j w s) 0 ws ss
  serves_known ws kss ss e f p t = serves_from 0 ws kss ss (λ n q. ap (λ z. waits_in kss z) (let r : n ≡ place = omega (arith, q) in r) ∙ e) f p t

-- whether a packet waits
pub none_waiting : {T : Type 0} (ps : List T) → nat_lt 0 (length ps) ≡ false → ps ≡ []
none_waiting [] e = refl
none_waiting (p ∷ ps) e = let m = ltb-false 0 (suc (length ps)) e in absurd (omega (arith, m))

pub some_waiting : {T : Type 0} (ps : List T) → nat_lt 0 (length ps) ≡ true → ps ≡ [] → ⊥
some_waiting [] e n = cc
some_waiting (p ∷ ps) e n = cc

pub waits_other : (l : Lan) (place : ℕ) (o : Option Coming) → (o ≡ Some Coming.Packet → ⊥) → WaitsFor l place o
waits_other l place None n = tt
waits_other l place (Some Coming.Packet) n = absurd (n refl)
waits_other l place (Some Coming.Mail) n = tt
waits_other l place (Some Coming.Script) n = tt
waits_other l place (Some (Coming.State target)) n = tt

-- what has started stays
pub started_same : {G : Ghosts InHand} (lens : ℕ → Lens) (l : Lan) (visited : List ℕ) (i : ℕ) (begun : Option (Stated.Service Asked)) (a : Leads) (waits : List Keyed) (s t : Stop InHand G) → t.under ≡ s.under → recall_of t ≡ recall_of s → HasStarted lens l visited i begun a waits s → HasStarted lens l visited i begun a waits t
started_same lens l visited i begun a waits s t u r h = record { under = λ w. h.under (sym u ∙ w); ends = λ w k. h.ends w (sym (ap (λ z. z.knows) r) ∙ k); unvisited = λ w. h.unvisited (sym u ∙ w) }

-- it does where another slave is visited
pub started_there : {G : Ghosts InHand} (lens : ℕ → Lens) (l m : Lan) (visited : List ℕ) (place j : ℕ) (begun now : Option (Stated.Service Asked)) (a : Leads) (waits : List Keyed) (s : Stop InHand G) → NoneMore l m → (j ≡ place → ⊥) → now ≡ begun → HasStarted lens l visited j begun a waits s → HasStarted lens m (place ∷ visited) j now a waits s
started_there lens l m visited place j begun now a waits s fewer n e h = record {
  under = λ w. in_there j place visited (h.under w);
  ends = λ w k b p f. (let g = h.ends (in_behind j place visited n w) k b p (sym e ∙ f) in (record { script = g.0.script; packet = fewer j g.0.packet }, g.1));
  unvisited = λ w. e ∙ h.unvisited w;
}

-- and the one that is
pub started_here : {G : Ghosts InHand} (lens : ℕ → Lens) (recover made : ℕ) (l m : Lan) (visited : List ℕ) (place : ℕ) (got : List Keyed) (now what : Option (Stated.Service Asked)) (a : Leads) (waits : List Keyed) (s u : Stop InHand G) → NoneMore l m → now ≡ what → WaitsYet lens recover made a s → (got ≡ [] → waits ≡ []) → LeavesNone lens recover made l place got what s u → (u.under ≡ false → what ≡ None) →
    HasStarted lens m (place ∷ visited) place now a waits u
started_here lens recover made l m visited place got now what a waits s u fewer e w empty h n = record {
  under = λ t. in_here place place visited (eq-eqb place place refl);
  ends = λ t k b p f. (let g = h a w k b p (sym e ∙ f) in (record { script = g.0; packet = fewer place g.1 }, empty g.2));
  unvisited = λ t. e ∙ n t;
}

-- what may come at a place
pub some_so : {G : Ghosts InHand} (l : Lan) (place : ℕ) (got : List Keyed) (coming : Option Coming) (o : Option (Stop InHand G)) → PacketFirst l place coming → ScriptLast got coming → (coming ≡ None → IfSome o (λ s. s.stand ≡ Stand.Open → SideFrees s.side → NoneComes l place (next_of s) × (got ≡ []))) →
    IfSome o (λ s. coming ≡ Some Coming.Script → IsByMails (next_of s)) → IfSome o (λ s. ComesSo l place got coming s)
some_so l place got coming None first last none mails = tt
some_so l place got coming (Some s) first last none mails = record { first = first; last = last; none = λ e. none e; mails = mails }

-- of a run no mail comes
pub mail_none : (next : Option Plan.Service) (coming : Option Coming) (w : Waiting) → IsComing next coming → IsMailReady coming w
mail_none next None w i = tt
mail_none next (Some Coming.Packet) w i = tt
mail_none next (Some Coming.Mail) w i = absurd i
mail_none next (Some Coming.Script) w i = tt
mail_none next (Some (Coming.State target)) w i = tt

-- THE FRAME IS MADE: of all slaves, by their shares of it
module _ {G : Ghosts InHand} (lens : ℕ → Lens) (l : Lan) (visited : List ℕ) (o : ℕ → Option (Stated.Service Asked)) (R : Turn → Stop InHand G → Type 0) (share : (u : Turn) (s : Stop InHand G) → R u s → u.share.under ≡ s.under) where
  -- without a visit by the frame nothing came into hand
  all_unvisited : {A : Type 0} (P : ℕ → A → Stop InHand G → Type 0) → ((j : ℕ) (x : A) (s : Stop InHand G) → P j x s → s.under ≡ false → o j ≡ None) → (i : ℕ) (xs : List A) (us : List Turn) (ss : List (Stop InHand G)) → AllFrom P i xs ss → AllBoth R us ss →
      ((k j : ℕ) → j ≡ i + k → begun_of us k ≡ o j) → AllUnvisited us
  all_unvisited P none i xs [] ss h w f = tt
  all_unvisited P none i xs (u ∷ us) [] h w f = absurd w
  all_unvisited P none i [] (u ∷ us) (s ∷ ss) h w f = absurd h
  all_unvisited P none i (x ∷ xs) (u ∷ us) (s ∷ ss) h w f = (
    λ v. f 0 i (omega arith) ∙ none i x s h.0 (sym (share u s w.0) ∙ v),
    all_unvisited P none (suc i) xs us ss h.1 w.1 (λ k j e. f (suc k) j (omega (arith, e))),
  )

  -- of a run, none of which has a mail in hand that is passed on
  all_begin : (P : ℕ → Leads → Stop InHand G → Type 0) → ((j : ℕ) (a : Leads) (s : Stop InHand G) → P j a s → HasStarted lens l visited j (o j) a [] s × (a.lived.life.era.passing ≡ None)) → (i : ℕ) (as' : List Leads) (us : List Turn) (ss : List (Stop InHand G)) → AllFrom P i as' ss → AllBoth R us ss →
      ((k j : ℕ) → j ≡ i + k → begun_of us k ≡ o j) → AllBegin lens l i (map (λ s. recall_of s) ss) as' us
  all_begin P at i [] [] [] h w f = tt
  all_begin P at i [] us (s ∷ ss) h w f = absurd h
  all_begin P at i (a ∷ as') us [] h w f = absurd h
  all_begin P at i [] (u ∷ us) [] h w f = absurd w
  all_begin P at i (a ∷ as') [] (s ∷ ss) h w f = absurd w
  all_begin P at i (a ∷ as') (u ∷ us) (s ∷ ss) h w f =
      let x = at i a s h.0 in (
        λ k b v e. (x.0.ends (x.0.under (sym (share u s w.0) ∙ v)) k b x.1 (sym (f 0 i (omega arith)) ∙ e)).0,
        all_begin P at (suc i) as' us ss h.1 w.1 (λ k j e. f (suc k) j (omega (arith, e))),
      )

  -- and of a serving
  all_served : (i : ℕ) (ws : List Serves) (us : List Turn) (ss : List (Stop InHand G)) → AllFrom (λ j w s. HasStarted lens l visited j (o j) w.lead w.waits s) i ws ss → AllBoth R us ss → ((k j : ℕ) → j ≡ i + k → begun_of us k ≡ o j) →
      AllServedBegin lens l i (map (λ s. recall_of s) ss) ws us
  all_served i [] [] [] h w f = tt
  all_served i [] us (s ∷ ss) h w f = absurd h
  all_served i (x ∷ ws) us [] h w f = absurd h
  all_served i [] (u ∷ us) [] h w f = absurd w
  all_served i (x ∷ ws) [] (s ∷ ss) h w f = absurd w
  all_served i (x ∷ ws) (u ∷ us) (s ∷ ss) h w f = (
    λ k b p v e. h.0.ends (h.0.under (sym (share u s w.0) ∙ v)) k b p (sym (f 0 i (omega arith)) ∙ e),
    all_served (suc i) ws us ss h.1 w.1 (λ k j e. f (suc k) j (omega (arith, e))),
  )

  from_first : (us : List Turn) → ((k : ℕ) → begun_of us k ≡ o k) → (k j : ℕ) → j ≡ 0 + k → begun_of us k ≡ o j
  from_first us f k j q = f k ∙ ap o (let w : k ≡ j = omega (arith, q) in w)

  pub all_start : (P : ℕ → Leads → Stop InHand G → Type 0) → ((j : ℕ) (a : Leads) (s : Stop InHand G) → P j a s → HasStarted lens l visited j (o j) a [] s × (a.lived.life.era.passing ≡ None)) → (as' : List Leads) (us : List Turn) (ss : List (Stop InHand G)) → AllFrom P 0 as' ss → AllBoth R us ss → ((k : ℕ) → begun_of us k ≡ o k) →
      AllBegin lens l 0 (map (λ s. recall_of s) ss) as' us × AllUnvisited us
  all_start P at as' us ss h w f =
      (all_begin P at 0 as' us ss h w (from_first us f), all_unvisited P (λ j a s p n. (at j a s p).0.unvisited n) 0 as' us ss h w (from_first us f))

  pub serves_start : (ws : List Serves) (us : List Turn) (ss : List (Stop InHand G)) → AllFrom (λ j w s. HasStarted lens l visited j (o j) w.lead w.waits s) 0 ws ss → AllBoth R us ss → ((k : ℕ) → begun_of us k ≡ o k) → AllServedBegin lens l 0 (map (λ s. recall_of s) ss) ws us × AllUnvisited us
  serves_start ws us ss h w f =
      (all_served 0 ws us ss h w (from_first us f), all_unvisited (λ j x s. HasStarted lens l visited j (o j) x.lead x.waits s) (λ j x s p n. p.unvisited n) 0 ws us ss h w (from_first us f))
