-- EPOCH BY EPOCH: what a slave of a serving did in its life.
use Rattle.std.proofs.Common.{◌≡◌, ◌≢◌, inl, inr, ℕ, Bool, false, Option, List, [], ◌∷◌, ◌++◌, refl, ap, sym, ◌∙◌, subst}
use Rattle.run_work.specs.of_frame_view.View.{Lens}
use Rattle.run_work.specs.of_frames_seen.Slaves.{registers_seen}
use Rattle.served_rings.specs.Lives.{LedKept, LedYet, LedLeft, AllLeds}
use Rattle.served_places.specs.of_life_model.Lives.{Spot, Era, Life, Opening, Stand, new_era}
use Rattle.served_places.specs.of_link_mails.Body.{Body}
use Rattle.run_work.specs.of_master_duty.Reply.{Reply}
use Rattle.run_work.specs.of_master_hand.Spoken.{Asked, is_followed, is_passed}
use Rattle.run_work.specs.of_few_replies.Clearing.{Forgets}
use Rattle.served_rings.specs.Speakers.{cleared_whole, speaker}
use Rattle.served_places.specs.of_segment_model.Record.{Frame, Kept}
use Rattle.served_places.specs.of_segment_model.Seats.{rows_of}
use Rattle.served_rings.specs.Serves.{serves}
use Rattle.served_rings.specs.Clearing.{serves_clearing}
use Rattle.run_work.specs.of_slave_lives.Lived.{Behind, IsBehind}
use Rattle.run_work.specs.of_slave_lives.Opening.{Plan}
use Rattle.run_work.specs.of_slave_lives.Stands.{opening_again}
use Rattle.run_work.specs.of_slave_model.Profile.{Profile}
use Rattle.run_work.specs.of_slave_parts.Parts.{Server}
use Rattle.run_work.specs.of_slave_server.Serving.{Serving, fresh}
use Rattle.run_work.specs.of_slave_node.Node.{Node}
use Rattle.served_places.specs.of_state_model.Families.{InState}
use Rattle.run_work.specs.of_life_counts.Epochs.{IsSpeaker}
use Rattle.run_work.specs.of_whole_ring.Whole.{OpensBy, StandsBy}
use Rattle.served_rings.specs.Served.{AreServedEras, Holds, IsServedEra, IsServedNewest, IsServedLife, NothingCame}
use Rattle.served_rings.specs.Stood.{AllHeld, GoneOpen, HeldAt, StateStands}
use Rattle.served_rings.specs.StoodLives.{AllBegin, BeginsAt, IsStoodLived, LeftOpen, StandsUp}
use Rattle.served_rings.proofs.Epochs.{era_served}
use Rattle.served_rings.proofs.Newest.{snoc_same}

pub not_open : (o : Opening) → Stand.Opens o ≢ Stand.Open
not_open o e = cc

pub gone_not_open : Stand.Gone ≢ Stand.Open
gone_not_open e = cc

-- of an epoch that is new nothing came into hand
nothing : (e : Era Body Asked Reply) (cleared : Option ℕ) (state : ℕ) → e ≡ new_era cleared state → NothingCame e
nothing e cleared state is_new = record { started = ap (λ (d : Era Body Asked Reply). d.account.started) is_new; rows = ap (λ (d : Era Body Asked Reply). rows_of d.side) is_new }

module _ (p : Profile) (k : IsSpeaker (speaker p)) (forgets : Forgets (speaker p).exchange (speaker p).core cleared_whole) (boot : Bool) (lens : ℕ → Lens) (behind : IsBehind (serves p boot lens)) (spot : Spot) where
  abbrev w : Behind Serving (InState Server) (InState Server) Asked Reply
  w = serves p boot lens

  abbrev Before : InState Server → List (Era Body Asked Reply) → InState Server → Type 0
  Before a es b = AreServedEras p boot spot.station spot.start a es b

  abbrev Newest : InState Server → Era Body Asked Reply → Node Serving → Stand → Type 0
  Newest from e n stand = IsServedNewest p boot spot.station spot.start from e n stand

  -- a return to Init clears parts alike
  clears_inner : (a b : InState Server) → a.inner ≡ b.inner → (cleared_whole a).inner ≡ (cleared_whole b).inner
  clears_inner a b same = ap (λ (z : Server). record (fresh z.app.app) { handled = z.handled }) same

  -- a slave that has what an epoch begins with, cleared, holds it
  begins_holds : (from at : InState Server) → from.inner ≡ at.inner → (al : ℕ) (n : Node Serving) → from ≡ w.exchange.app (w.sees al (w.running.clear n.server)).server → Holds at n
  begins_holds from at same al n begins = record {
    app = sym (ap (λ (v : InState Server). v.inner.app.app) begins) ∙ ap (λ (z : Server). z.app.app) same;
    handled = sym (ap (λ (v : InState Server). v.inner.handled) begins) ∙ ap (λ (z : Server). z.handled) same;
  }

  -- so it held what it was cleared from
  held_at : (stood : ℕ → Node Serving → Type 0) (b v : InState Server) (cleared : Option ℕ) → b.inner ≡ (cleared_whole v).inner → BeginsAt w stood b cleared → HeldAt stood v cleared
  held_at stood b v cleared same x =
      let holds = begins_holds b (cleared_whole v) same x.al x.node x.begins in
      record { frame = x.frame; shown = x.shown; node = x.node; stands = x.stands; holds = record { app = holds.app; handled = holds.handled } }

  -- all that are over, with the server that the next one begins with, and what the slave held as each ended
  record Begun (stood : ℕ → Node Serving → Type 0) (a : InState Server) (es : List (Era Body Asked Reply)) (b : InState Server) (cleared : Option ℕ) : Type 0 where
    at : InState Server
    all : Before a es at
    same : b.inner ≡ at.inner
    held : AllHeld p boot spot.station stood spot.start a es at all cleared

  past_served : (stood : ℕ → Node Serving → Type 0) (a : InState Server) (es : List (Era Body Asked Reply)) (b : InState Server) (all : AllLeds w is_followed is_passed spot serves_clearing.cleared a es b) (cleared : Option ℕ) →
      AllBegin w is_followed is_passed spot stood serves_clearing.cleared a es b all cleared → Begun stood a es b cleared
  past_served stood _ _ _ (AllLeds.none a) cleared begins = record { at = a; all = AreServedEras.none; same = refl; held = tt }
  past_served stood _ _ _ (AllLeds.closed a es b e at state before is_new) cleared begins =
      let rest = past_served stood a es b before e.cleared begins.0 in
      let same = clears_inner b rest.at rest.same in
      record {
        at = cleared_whole rest.at;
        all = AreServedEras.unopened es rest.at e rest.all (nothing e at state is_new);
        same = same;
        held = (rest.held, held_at stood (serves_clearing.cleared b) rest.at cleared same begins.1);
      }
  past_served stood _ _ _ (AllLeds.opened a es b e s before left) cleared begins =
      let rest = past_served stood a es b before e.cleared begins.0 in
      let one = era_served p k forgets boot lens spot b left.led e left.frames left.node left.era behind rest.at rest.same in
      let state = (registers_seen left.node.registers).state in
      let same = ap (λ (z : Serving). (cleared_whole (w.sees state z).server).inner) (sym left.same) ∙ ap (λ (v : InState Server). v.inner) one.cleared in
      record {
        at = cleared_whole one.done;
        all = AreServedEras.opened es rest.at e _ one.done rest.all one.was;
        same = same;
        held = (rest.held, held_at stood (w.exchange.app (w.sees state (w.running.clear s)).server) one.done cleared same begins.1);
      }

  -- and one whose services a return to Init clears as those that an epoch left holds what that carried out
  left_holds : (from : InState Server) (e : Era Body Asked Reply) (left done : InState Server) → IsServedEra p boot spot.station from e left done → (n : Node Serving) (s : Serving) →
      w.running.clear n.server ≡ w.running.clear s → s.server ≡ left.inner → Holds done n
  left_holds from e left done era n s clears is = record {
    app = ap (λ (z : Serving). z.server.app.app) clears ∙ ap (λ (z : Server). z.app.app) is ∙ era.app;
    handled = ap (λ (z : Serving). z.server.handled) clears ∙ ap (λ (z : Server). z.handled) is ∙ era.handled;
  }

  opens_served : (plan : Plan) (from at : InState Server) → from.inner ≡ at.inner → (e : Era Body Asked Reply) (fs : List (Frame Body)) (stand : Stand) → stand ≢ Stand.Open → (n : Node Serving) (o : Opening) →
      OpensBy w (λ a d gs m. LedYet w is_followed is_passed spot a d gs m) (λ a d gs s. LedLeft w is_followed is_passed spot a d s) plan spot from e fs o n → Newest at e n stand
  opens_served plan from at same e fs stand shut n o (OpensBy.yet again step is still) =
      let x = still.lives.epoch in
      let one = era_served p k forgets boot lens spot from x.led e fs n x.era behind at same in
      IsServedNewest.over stand shut _ one.done one.was (left_holds _ e _ one.done one.was.era n n.server refl refl)
  opens_served plan from at same e fs stand shut n o (OpensBy.anew closing x start) = IsServedNewest.unopened stand shut (nothing e x.cleared x.state x.is_new) (begins_holds from at same x.al n x.begins)
  opens_served plan from at same e fs stand shut n o (OpensBy.over closing again early x) =
      let y = x.left in
      let one = era_served p k forgets boot lens spot from y.led e y.frames y.node y.era behind at same in
      IsServedNewest.over stand shut _ one.done one.was (left_holds _ e _ one.done one.was.era n x.server x.cleared (ap (λ (z : Serving). z.server) (sym y.same)))

  newest_served : (plan : Plan) (kept : Kept) (counts : Bool) (from at : InState Server) → from.inner ≡ at.inner → (e : Era Body Asked Reply) (fs : List (Frame Body)) (stand : Stand) (n : Node Serving) →
      StandsBy w (λ a d gs m. LedKept w is_followed is_passed spot kept counts a d gs m) (λ a d gs m. LedYet w is_followed is_passed spot a d gs m) (λ a d gs s. LedLeft w is_followed is_passed spot a d s) plan spot from e fs stand n → Newest at e n stand
  newest_served plan kept counts from at same e fs (Stand.Opens o) n now = opens_served plan from at same e fs (Stand.Opens o) (not_open o) n o now
  newest_served plan kept counts from at same e fs Stand.Open n now =
      let x = now.lives.epoch in
      let one = era_served p k forgets boot lens spot from x.led e fs n x.era behind at same in
      IsServedNewest.lives _ one.done refl refl one.was one.rests
  newest_served plan kept counts from at same e fs Stand.Gone n now = opens_served plan from at same e fs Stand.Gone gone_not_open n (opening_again spot.start false) now

  -- the newest; where it was given up for good while it was open its AL state stands
  newest_stood : (stood : ℕ → Node Serving → Type 0) (plan : Plan) (kept : Kept) (counts : Bool) (from at : InState Server) → from.inner ≡ at.inner → (l : Life Body Asked Reply) (fs : List (Frame Body)) (stand : Stand) (n : Node Serving) →
      StandsBy w (λ a d gs m. LedKept w is_followed is_passed spot kept counts a d gs m) (λ a d gs m. LedYet w is_followed is_passed spot a d gs m) (λ a d gs s. LedLeft w is_followed is_passed spot a d s) plan spot from l.era fs stand n →
      StandsUp w is_followed is_passed spot stood serves_clearing.cleared from l fs n stand → (d : Newest at l.era n stand) × (stand ≡ Stand.Gone → (before : List ℕ) (last : ℕ) → l.gave ≡ before ++ last ∷ [] → LeftOpen before l.era → StateStands p boot spot.station spot.start at l.era n stand d)
  newest_stood stood plan kept counts from at same l fs (Stand.Opens o) n now up =
      (newest_served plan kept counts from at same l.era fs (Stand.Opens o) n now, λ gone before last gave left. absurd (let no_ : Stand.Opens o ≡ Stand.Gone = gone in cc))
  newest_stood stood plan kept counts from at same l fs Stand.Open n now up = (newest_served plan kept counts from at same l.era fs Stand.Open n now, λ gone before last gave left. absurd (let no_ : Stand.Open ≡ Stand.Gone = gone in cc))
  newest_stood stood plan kept counts from at same l fs Stand.Gone n now (gave_before, last_gave, gave_is, inl still) =
      let x = still.lives.epoch in
      let one = era_served p k forgets boot lens spot from x.led l.era fs n x.era behind at same in
      (IsServedNewest.over Stand.Gone gone_not_open _ one.done one.was (left_holds _ l.era _ one.done one.was.era n n.server refl refl), λ gone before last gave left. sym one.was.era.state)
  newest_stood stood plan kept counts from at same l fs Stand.Gone n now (gave_before, last_gave, gave_is, inr never) = (
    newest_served plan kept counts from at same l.era fs Stand.Gone n now,
    λ gone before last gave left. absurd (never (subst (λ (gs : List ℕ). LeftOpen gs l.era) (snoc_same before gave_before last last_gave (sym gave ∙ gave_is)).0 left)),
  )

  -- THE WHOLE LIFE, and what the slave held as each epoch that is over ended
  pub life_served : (stood : ℕ → Node Serving → Type 0) (plan : Plan) (kept : Kept) (counts : Bool) (first : InState Server) (l : Life Body Asked Reply) (fs : List (Frame Body)) (n : Node Serving) →
      IsStoodLived w is_followed is_passed spot stood serves_clearing.cleared plan kept counts first l fs n →
      (d : IsServedLife p boot spot.station spot.start first l n) × AllHeld p boot spot.station stood spot.start first l.past d.from d.past l.era.cleared × (GoneOpen l → StateStands p boot spot.station spot.start d.from l.era n l.stand d.newest)
  life_served stood plan kept counts first l fs n i =
      let before = past_served stood first l.past i.0.from i.0.past.0 l.era.cleared i.0.past.1 in
      let newest = newest_stood stood plan kept counts i.0.from before.at before.same l fs l.stand n i.0.now i.1 in
      (record { from = before.at; past = before.all; newest = newest.0 }, before.held, λ g. newest.1 g.gone g.before g.last g.gave g.left)
