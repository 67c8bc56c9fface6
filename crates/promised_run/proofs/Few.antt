-- Where no more frames in a row are lost than the retry limit no slave is given up.
use Rattle.std.proofs.Common.{◌≡◌, ◌≢◌, ℕ, suc, ◌+◌, ◌-◌, ◌≤◌, ◌<◌, Bool, true, false, Option, Some, None, List, [], ◌∷◌, ◌++◌, map, length, refl, ap, sym, ◌∙◌, subst, arith}
use Rattle.std.specs.Prelude.{◌==◌, ◌&&◌, ◌||◌, nat_lt, not, if◌then◌else◌, ⊤}
use Rattle.std.proofs.lemmas.Bool.{ltb-true, ltb-false}
use Rattle.std.proofs.lemmas.List.{length-append}
use Rattle.run_promises.specs.of_datagrams.Datagram as Raw
use Rattle.run_promises.specs.of_exchange_model.Exchange.{Speech}
use Rattle.seen_slaves.specs.of_frame_view.View.{Lens}
use Rattle.seen_slaves.specs.of_frame_view.Seen.{seen}
use Rattle.seen_slaves.specs.of_frame_view.Shares.{came_at}
use Rattle.run_promises.specs.of_life_model.Lives.{Spot, Life, Stand, Opening, life_next, life_back, life_lost, era_back, opening_back, shows_clear, is_shown, last_step, clears, opens, steps_on, reopens, reopens_at, reopening, opens_state, returns_to_init}
use Rattle.run_promises.specs.of_life_runs.First.{lens_of, first_leads, leads_from}
use Rattle.run_promises.specs.of_life_runs.Led.{Exchanged, Leads, Turn, AllTurn, IsLed, is_passed, speech_at, led_behind, life_behind, gives_up_at, missed_behind}
use Rattle.run_promises.specs.of_link_mails.Body.{Body}
use Rattle.seen_slaves.specs.of_master_duty.Reply.{Reply}
use Rattle.seen_slaves.specs.of_master_hand.Spoken.{Asked, acknowledged, is_followed}
use Rattle.run_promises.specs.of_segment_model.Record.{News}
use Rattle.run_promises.specs.of_segment_model.Slaves.{Datagram, Found}
use Rattle.run_promises.specs.of_segment_plan.declared.plan.Scenario.{Scenario}
use Rattle.run_promises.specs.of_segment_plan.declared.service.Service as Plan
use Rattle.run_promises.specs.of_segment_plan.declared.slave.SlaveSpec.{SlaveSpec}
use Rattle.run_promises.specs.of_segment_ring.Schedule.{fate_at}
use Rattle.run_promises.specs.of_segment_ring.declared.wire.Fate.{Fate}
use Rattle.run_promises.specs.of_segment_ring.declared.wire.Fate.TheVariants.{Pass, Lost}
use Rattle.run_promises.specs.of_state_model.Accounts.{Duty, Stage, Pick}
use Rattle.gateway_run.specs.of_run_book.declared.book.Book.{Book}
use Rattle.gateway_run.specs.of_run_book.declared.book.Ending.{Ending}
use Rattle.gateway_run.specs.of_run_book.declared.book.Ending.TheVariants as endings
use Rattle.gateway_run.specs.of_run_book.declared.book.SentFrame.{SentFrame}
use Rattle.gateway_run.specs.of_run_book.declared.book.SlaveBook.{SlaveBook}
use Rattle.run_promises.specs.of_master_node.Wants.{gave_of}
use Rattle.gateway_run.specs.of_run_record.Led.{exchanged, LedBook}
use Rattle.gateway_run.specs.of_run_notes.Slaves.{gaves_in}
use Rattle.gateway_run.specs.of_run_record.Ran.{HasFrames, EndsAs}
use Rattle.gateway_run.specs.of_run_record.Replay.{first_ring, behind as ring_next, AreRecorded}
use Rattle.gateway_run.specs.of_run_record.Session.{some_given_up}
use Rattle.run_promises.specs.of_segment_ring.Ring.{RingState}
use Rattle.run_promises.specs.of_slave_server.declared.server.SlaveServer.{SlaveServer}
use Rattle.run_promises.specs.of_slave_node.Node.{Node}
use Rattle.promised_run.specs.Few.{IsLost, AreFewLost, NoneGivenUp, OutlivesLosses}

-- these frames, from this number on, have the fates of the schedule
abbrev pub AreFated : List (ℕ × ℕ) → ℕ → List Exchanged → Type 0
AreFated lose number [] = ⊤
AreFated lose number (f ∷ fs) = (f.fate ≡ fate_at lose number) × AreFated lose (suc number) fs

-- none of these slaves was given up
abbrev pub NoneGave : List Leads → Type 0
NoneGave [] = ⊤
NoneGave (a ∷ as') = (a.lived.life.gave ≡ []) × NoneGave as'

abbrev pub LifeOf : Type 0
LifeOf = Life Body Asked Reply

-- WHAT LEAVES A LIFE'S GIVE-UPS: what comes into hand, a return, and a loss by which none is given up
module _ (frame : ℕ) (l : LifeOf) where
  opening_gave : (o : Opening) (done : Bool) (found : Option Found) → (opening_back frame l o done found).gave ≡ l.gave
  opening_gave o done found = go (shows_clear o) (done && is_shown 1 found) (o.step == last_step o) (done && is_shown o.state found)
    where
      go : (shows seen last there : Bool) → (if shows then (if seen then clears frame l o else l) else if last then (if there then opens frame l else l) else steps_on l o).gave ≡ l.gave
      go true true last there = refl
      go true false last there = refl
      go false seen true true = refl
      go false seen true false = refl
      go false seen false there = refl

  reopens_gave : (m : LifeOf) (hand : Option Duty) → (reopens m hand).gave ≡ m.gave
  reopens_gave m None = refl
  reopens_gave m (Some duty) = go duty.stage
    where
      by : (b : Bool) → (if b then record m { stand = reopening (opens_state duty.target) true } else m).gave ≡ m.gave
      by true = refl
      by false = refl

      go : (stage : Stage) → (reopens_at m duty.target stage).gave ≡ m.gave
      go Stage.Drains = refl
      go (Stage.Goes phase) = by (returns_to_init duty.target)

  module _ (x : Speech Body Asked Reply) where
    pub next_gave : (pick : Pick Asked) (stand : Stand) → (life_next x acknowledged is_followed is_passed frame l stand pick).gave ≡ l.gave
    next_gave pick (Stand.Opens o) = refl
    next_gave pick Stand.Open = refl
    next_gave pick Stand.Gone = refl

    pub back_gave : (spot : Spot) (news : List (News Body)) (back : List (Datagram Body)) (came : Option (Bool × Option Found)) (stand : Stand) → (life_back x acknowledged is_followed is_passed frame spot news back came l stand).gave ≡ l.gave
    back_gave spot news back None (Stand.Opens o) = refl
    back_gave spot news back (Some came) (Stand.Opens o) = opening_gave o came.0 came.1
    back_gave spot news back came Stand.Open = let era = era_back x acknowledged is_followed is_passed spot.station frame news back l.era in reopens_gave (record l { era = era }) era.account.hand
    back_gave spot news back came Stand.Gone = refl

    pub lost_gave : (spot : Spot) (news : List (News Body)) (sent : List (Datagram Body)) (stand : Stand) → (life_lost x acknowledged is_followed is_passed spot news sent l stand).gave ≡ l.gave
    lost_gave spot news sent (Stand.Opens o) = refl
    lost_gave spot news sent Stand.Open = refl
    lost_gave spot news sent Stand.Gone = refl

-- ONE FRAME
module _ (lens : ℕ → Lens) (recover retry made : ℕ) where
  -- no slave was given up before it
  abbrev NoneTurned : List Turn → Type 0
  NoneTurned [] = ⊤
  NoneTurned (u ∷ us) = (u.lived.life.gave ≡ []) × NoneTurned us

  turned : (ds : List Raw.Datagram) (as' : List Leads) (us : List Turn) → AllTurn lens made ds as' us → NoneGave as' → NoneTurned us
  turned ds [] [] t n = tt
  turned ds [] (u ∷ us) t n = absurd t
  turned ds (a ∷ as') [] t n = absurd t
  turned ds (a ∷ as') (u ∷ us) t n =
      (ap (λ (l : LifeOf). l.gave) t.0.next.life ∙ next_gave made a.lived.life (speech_at lens a.lived.spot) t.0.next.pick a.lived.life.stand ∙ n.0, turned ds as' us t.1 n.1)

  -- a slave that isn't given up by it
  one_behind : (gives : Bool) (f : Exchanged) (fate : Fate) (u : Turn) → (IsLost fate → gives ≡ false) → (life_behind lens recover retry gives made f fate u.lived u.share).life.gave ≡ u.lived.life.gave
  one_behind gives f Pass u few = back_gave made u.lived.life (speech_at lens u.lived.spot) u.lived.spot [] (seen lens f.back) (came_at u.share.under u.share.at (seen lens f.back)) u.lived.life.stand
  one_behind true f (Lost after) u few = let no : true ≡ false = few tt in absurd cc
  one_behind false f (Lost after) u few = lost_gave made u.lived.life (speech_at lens u.lived.spot) u.lived.spot [] (seen lens f.sent) u.lived.life.stand

  behind : (gives : Bool) (f : Exchanged) (us : List Turn) → (IsLost f.fate → gives ≡ false) → NoneTurned us → NoneGave (map (led_behind lens recover retry gives made f) us)
  behind gives f [] few n = tt
  behind gives f (u ∷ us) few n = (one_behind gives f f.fate u few ∙ n.0, behind gives f us few n.1)

-- THE FATES of frames, one behind the other
pub fated_split : (lose : List (ℕ × ℕ)) (number : ℕ) (fs : List Exchanged) (f : Exchanged) → AreFated lose number (fs ++ f ∷ []) → AreFated lose number fs × (f.fate ≡ fate_at lose (number + length fs))
fated_split lose number [] f h = (tt, subst (λ (n : ℕ). f.fate ≡ fate_at lose n) (omega arith) h.0)
fated_split lose number (g ∷ fs) f h =
    let rest = fated_split lose (suc number) fs f h.1 in
    ((h.0, rest.0), subst (λ (n : ℕ). f.fate ≡ fate_at lose n) (omega arith) rest.1)

-- A RUN SO FAR: no slave was given up, and so many frames in a row were lost last
pub record Stands (lose : List (ℕ × ℕ)) (count missed : ℕ) (as' : List Leads) : Type 0 where
  pub none : NoneGave as'
  pub first : ℕ
  pub whole : first + missed ≡ count
  pub lost : (k : ℕ) → k < missed → IsLost (fate_at lose (first + k))

module _ (lens : ℕ → Lens) (recover retry : ℕ) (lose : List (ℕ × ℕ)) (few : AreFewLost lose retry) where
  -- with this frame, which is lost too
  all_lost : (first count missed : ℕ) → first + missed ≡ count → IsLost (fate_at lose count) → ((k : ℕ) → k < missed → IsLost (fate_at lose (first + k))) → (k : ℕ) → k < suc missed → IsLost (fate_at lose (first + k))
  all_lost first count missed whole now before k less = go (nat_lt k missed) refl
    where
      go : (b : Bool) → nat_lt k missed ≡ b → IsLost (fate_at lose (first + k))
      go true e = before k (ltb-true k missed e)
      go false e = let last = ltb-false k missed e in subst (λ (n : ℕ). IsLost (fate_at lose n)) (omega (arith, whole, less, last)) now

  -- it isn't one more than the retry limit
  not_last : (first missed : ℕ) → ((k : ℕ) → k < suc missed → IsLost (fate_at lose (first + k))) → retry ≤ missed → ⊥
  not_last first missed all most = few (first + (missed - retry)) (λ k le. subst (λ (n : ℕ). IsLost (fate_at lose n)) (omega (arith, most)) (all (missed - retry + k) (omega (arith, most, le))))

  -- ONE FRAME MORE, by which none of these is given up where it isn't lost or may be
  pub stands_on :
      (fs : List Exchanged) (f : Exchanged) (missed : ℕ) (as' later : List Leads) → f.fate ≡ fate_at lose (0 + length fs) → Stands lose (length fs) missed as' → ((IsLost f.fate → gives_up_at lens recover retry missed ≡ false) → NoneGave later)
      → Stands lose (length (fs ++ f ∷ [])) (missed_behind lens recover retry f.fate missed) later
  stands_on fs f missed as' later at h none = by f.fate refl
    where
      by : (fate : Fate) → f.fate ≡ fate → Stands lose (length (fs ++ f ∷ [])) (missed_behind lens recover retry f.fate missed) later
      by Pass e = subst (λ (fate : Fate). Stands lose (length (fs ++ f ∷ [])) (missed_behind lens recover retry fate missed) later) (sym e) (record {
        none = none (λ is. absurd (subst (λ (fate : Fate). IsLost fate) e is));
        first = length (fs ++ f ∷ []);
        whole = omega arith;
        lost = λ k less. absurd (omega (arith, less));
      })
      by (Lost after) e = subst (λ (fate : Fate). Stands lose (length (fs ++ f ∷ [])) (missed_behind lens recover retry fate missed) later) (sym e) (go (nat_lt missed retry) refl)
        where
          zero_plus : 0 + length fs ≡ length fs
          zero_plus = omega arith

          now : IsLost (fate_at lose (length fs))
          now = subst (λ (n : ℕ). IsLost (fate_at lose n)) zero_plus (subst (λ (fate : Fate). IsLost fate) (sym (sym at ∙ e)) tt)

          all : (k : ℕ) → k < suc missed → IsLost (fate_at lose (h.first + k))
          all = all_lost h.first (length fs) missed h.whole now h.lost

          go : (b : Bool) → nat_lt missed retry ≡ b → Stands lose (length (fs ++ f ∷ [])) (if nat_lt missed retry then missed + 1 else 0) later
          go false le = absurd (not_last h.first missed all (ltb-false missed retry le))
          go true lt = subst (λ (b : Bool). Stands lose (length (fs ++ f ∷ [])) (if b then missed + 1 else 0) later) (sym lt) (record {
            none = none (λ is. ap not lt);
            first = h.first;
            whole = (let k = h.whole in let many = length-append fs (f ∷ []) in omega (arith, k, many));
            lost = λ k less. all k (omega (arith, less));
          })

  stands : (leads : List Leads) (fs : List Exchanged) (missed : ℕ) (as' : List Leads) → IsLed lens recover retry leads fs missed as' → NoneGave leads → AreFated lose 0 fs → Stands lose (length fs) missed as'
  stands leads [] _ _ IsLed.start none fated = record { none = none; first = 0; whole = refl; lost = λ k less. absurd (omega (arith, less)) }
  stands leads _ _ _ (IsLed.on fs missed as' f us led frame) none fated =
      let split = fated_split lose 0 fs f fated in
      let h = stands leads fs missed as' led none split.0 in
      let us_none = turned lens recover retry (length fs) frame.datagrams as' us frame.each h.none in
      stands_on fs f missed as' (map (led_behind lens recover retry (gives_up_at lens recover retry missed) (length fs) f) us) split.1 h (λ seldom. behind lens recover retry (length fs) (gives_up_at lens recover retry missed) f us seldom us_none)

-- before the first frame
pub none_first : (rows : List (ℕ × Plan.Service)) (place : ℕ) (ss : List SlaveSpec) → NoneGave (leads_from rows place ss)
none_first rows place [] = tt
none_first rows place (s ∷ ss) = (refl, none_first rows (suc place) ss)

-- OVER A RUN
none_gave : (plan : Scenario) (lens : ℕ → Lens) (fs : List Exchanged) (missed : ℕ) (as' : List Leads) → IsLed lens plan.recover plan.retry (first_leads plan) fs missed as' → AreFated plan.lose 0 fs → AreFewLost plan.lose plan.retry → NoneGave as'
none_gave plan lens fs missed as' led fated few = (stands lens plan.recover plan.retry plan.lose few (first_leads plan) fs missed as' led (none_first plan.services 0 plan.slaves) fated).none

-- ITS BOOK: the frames have the fates of the schedule
pub recorded_fates : (ring : RingState (Node SlaveServer)) (fs : List SentFrame) → AreRecorded ring fs → AreFated ring.lose ring.number (map exchanged fs)
recorded_fates ring [] r = tt
recorded_fates ring (f ∷ fs) r = (r.0.fate, recorded_fates (ring_next ring f.sent) fs r.1)

-- its rows have the give-ups of the lives
rows_none : (as' : List Leads) (rows : List SlaveBook) → gaves_in rows ≡ map gave_of as' → NoneGave as' → NoneGivenUp rows
rows_none as' [] e n = tt
rows_none [] (row ∷ rows) e n = absurd cc
rows_none (a ∷ as') (row ∷ rows) e n =
    let both : row.gave ∷ gaves_in rows ≡ a.lived.life.gave ∷ map gave_of as' = e in
    let here : row.gave ≡ a.lived.life.gave = cc in
    let rest : gaves_in rows ≡ map gave_of as' = cc in
    (here ∙ n.0, rows_none as' rows rest n.1)

pub none_any : (rows : List SlaveBook) → NoneGivenUp rows → some_given_up rows ≡ false
none_any [] n = refl
none_any (row ∷ rows) n = ap (λ (g : List ℕ). nat_lt 0 (length g) || some_given_up rows) n.0 ∙ none_any rows n.1

-- WHERE NO MORE FRAMES IN A ROW ARE LOST THAN THE RETRY LIMIT no slave is given up
pub outlived : (plan : Scenario) (book : Book) → HasFrames plan book → EndsAs plan book book.ending → (led : LedBook plan book book.ending) → AreFewLost plan.lose plan.retry → book.ending ≢ endings.NoMemory → OutlivesLosses book
outlived plan book frames ends led few ok = record { slaves = none; ending = stays }
  where
    none : NoneGivenUp book.slaves
    none =
        rows_none led.leads book.slaves (led.gave ok)
        (none_gave plan (lens_of plan.slaves) (map exchanged book.frames) led.missed led.leads led.lives (recorded_fates (first_ring plan) book.frames frames.recorded) few)

    stays : book.ending ≢ endings.GivenUp
    stays is =
        let over = subst (λ (e : Ending). EndsAs plan book e) is ends in
        let some : some_given_up book.slaves ≡ true = over.gave in
        let no : some_given_up book.slaves ≡ false = none_any book.slaves none in
        absurd cc
