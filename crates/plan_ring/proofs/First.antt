-- A RUN IN WHICH EACH SLAVE STAYS IN ITS FIRST EPOCH.
use Rattle.std.proofs.Common.{◌≡◌, ℕ, suc, Bool, List, [], ◌∷◌, length, refl, sym, subst}
use Rattle.run_frames.specs.of_datagrams.Datagram as Raw
use Rattle.whole_ring.specs.of_frame_view.View.{Lens}
use Rattle.slave_server.specs.of_link_mails.Body.{Body}
use Rattle.slave_server.specs.of_segment_model.Record.{Frame}
use Rattle.slave_server.specs.of_segment_plan.declared.slave.SlaveSpec.{SlaveSpec}
use Rattle.run_frames.specs.of_segment_ring.declared.wire.Fate.{Fate}
use Rattle.run_frames.specs.of_segment_ring.declared.wire.Fate.TheVariants.{Pass, Lost}
use Rattle.slave_server.specs.of_state_model.Accounts.{Pick}
use Rattle.whole_ring.specs.of_life_model.Lives.{Life, Stand, life_next, life_back, life_lost}
use Rattle.run_frames.specs.of_master_duty.Reply as Master
use Rattle.run_frames.specs.of_master_hand.Spoken.{Asked, acknowledged}
use Rattle.whole_ring.specs.of_frame_view.Shares.{came_at, given_where}
use Rattle.whole_ring.specs.of_life_model.Script.{Addressed, HaveBegun, AnyLive, EachLive, AllLive, RestsWhole, DoneWhole}
use Rattle.plan_ring.specs.Rows.{IsFirst}
use Rattle.plan_ring.proofs.Rows.{back_first, lost_first, new_first}
use Rattle.plan_ring.proofs.KeptFirst.{first_book}
use Rattle.whole_ring.specs.Members.{AllLived}
use Rattle.plan_ring.specs.Plan.{PlanMember, FitsPlan, step, new_members}
use Rattle.plan_ring.specs.Master.{owed, speech_of, AllLed, Under, IsUnder, AllUnder, led_behind, AllBehind}
use Rattle.plan_ring.specs.First.{AllFirst, Stays, AllStay, AllOpen, AllBooks, runs_of, AllAtRest, RunEnds}

next_stands : (m : PlanMember) (more : Body → Bool) (passed : Asked → Bool) (made : ℕ) (stand : Stand) (pick : Pick Asked) → (life_next (speech_of m) acknowledged more passed made m.life stand pick).stand ≡ m.life.stand
next_stands m more passed made (Stand.Opens o) pick = refl
next_stands m more passed made Stand.Open pick = refl
next_stands m more passed made Stand.Gone pick = refl

module _ (more : Body → Bool) (passed : Asked → Bool) (lens : ℕ → Lens) (made : ℕ) (ds : List Raw.Datagram) (gives : Bool) (recover : ℕ) (f : Frame Body) where
  -- ONE SLAVE
  module _ (m : PlanMember) (u : Under) (x : IsUnder more passed lens made ds m u) (is : IsFirst made m.life) where
    abbrev next : Life Body Asked Master.Reply
    next = life_next (speech_of m) acknowledged more passed made m.life m.life.stand x.next.pick

    stand_is : next.stand ≡ m.life.stand
    stand_is = next_stands m more passed made m.life.stand x.next.pick

    behind_first : (fate : Fate) → Stays more passed lens made ds gives fate m u x → IsFirst (suc made) (led_behind more passed gives recover made f fate m u).life
    behind_first Pass stays =
        subst (λ (l : Life Body Asked Master.Reply). IsFirst (suc made) (life_back (speech_of m) acknowledged more passed made u.lived.spot u.news f.back (came_at u.share.under u.share.at f.back) l l.stand)) (sym x.next.life)
        (subst (λ (st : Stand). IsFirst (suc made) (life_back (speech_of m) acknowledged more passed made u.lived.spot u.news f.back (came_at u.share.under u.share.at f.back) next st)) (sym stand_is)
        (back_first (speech_of m) acknowledged more passed made u.lived.spot u.news x.next.pick stays.wish m.life is f.back (came_at u.share.under u.share.at f.back) m.life.stand refl))
    behind_first (Lost after) stays =
        subst (λ (b : Bool). IsFirst (suc made) (given_where b recover u.lived.spot made (life_lost (speech_of m) acknowledged more passed u.lived.spot u.news f.sent u.lived.life u.lived.life.stand))) (sym stays.given)
        (subst (λ (l : Life Body Asked Master.Reply). IsFirst (suc made) (life_lost (speech_of m) acknowledged more passed u.lived.spot u.news f.sent l l.stand)) (sym x.next.life)
        (subst (λ (st : Stand). IsFirst (suc made) (life_lost (speech_of m) acknowledged more passed u.lived.spot u.news f.sent next st)) (sym stand_is)
        (lost_first (speech_of m) acknowledged more passed made u.lived.spot u.news x.next.pick stays.wish m.life is f.sent m.life.stand refl)))

  -- ALL OF THEM
  pub all_first : (fate : Fate) (ms : List PlanMember) (us : List Under) (ns : List PlanMember) (xs : AllUnder more passed lens made ds ms us) → AllStay more passed lens made ds gives fate ms us xs →
      AllBehind more passed gives recover made f fate ms us ns → AllFirst made ms → AllFirst (suc made) ns
  all_first fate [] [] [] xs stay shown first = tt
  all_first fate [] [] (n ∷ ns) xs stay shown first = absurd shown
  all_first fate [] (u ∷ us) ns xs stay shown first = absurd xs
  all_first fate (m ∷ ms) [] ns xs stay shown first = absurd xs
  all_first fate (m ∷ ms) (u ∷ us) [] xs stay shown first = absurd shown
  all_first fate (m ∷ ms) (u ∷ us) (n ∷ ns) xs stay shown first =
      let one = behind_first m u xs.0 first.0 fate stay.0 in
      (subst (λ (l : Life Body Asked Master.Reply). IsFirst (suc made) l) (λ i. (sym shown.0 i).life) one, all_first fate ms us ns xs.1 stay.1 shown.1 first.1)

-- SWITCHED ON
pub all_new : (lens : ℕ → Lens) (place : ℕ) (ss : List SlaveSpec) (paces : List ℕ) → AllFirst 0 (new_members lens place ss paces)
all_new lens place [] paces = tt
all_new lens place (s ∷ ss) [] = tt
all_new lens place (s ∷ ss) (pace ∷ paces) = (new_first s.start, all_new lens (suc place) ss paces)

module _ (lens : ℕ → Lens) (ss : List SlaveSpec) (more : Body → Bool) (fs : List (Frame Body)) where
  -- THEIR BOOKS
  pub all_books : (place : ℕ) (ms : List PlanMember) (lives : AllLived lens step (FitsPlan ss) fs place ms) (led : AllLed ms) → AllFirst (length fs) ms → AllOpen lens ss more fs ms → AllBooks lens ss more fs place ms lives led
  all_books place [] lives led first open_ = tt
  all_books place (m ∷ ms) lives led first open_ =
      (first_book m.services m.clearing m.plan m.spot (owed m lives.0.whole led.0) led.0.forgets more m.first m.life fs m.node lives.0.lived first.0 open_.0, all_books (suc place) ms lives.1 led.1 first.1 open_.1)

  -- NOTHING IS LEFT
  each_rests : (place : ℕ) (ms : List PlanMember) (lives : AllLived lens step (FitsPlan ss) fs place ms) (led : AllLed ms) (books : AllBooks lens ss more fs place ms lives led) (as' : List (Addressed Asked)) → AllAtRest lens ss more fs ms as' →
      EachLive (λ r. RestsWhole r.setting r.book r.addressed) (runs_of lens ss more fs place ms lives led books as')
  each_rests place [] lives led books as' rest = tt
  each_rests place (m ∷ ms) lives led books [] rest = tt
  each_rests place (m ∷ ms) lives led books (a ∷ as') rest =
      let b = books.0 in
      let k = rest.0 in
      ((λ live. record { rest = b.rests k.settled k.wants k.hand; begun = subst (λ qs. HaveBegun a qs) (sym b.begun) k.begun }), each_rests (suc place) ms lives.1 led.1 books.1 as' rest.1)

  -- ALL IS DONE
  all_done : (place : ℕ) (ms : List PlanMember) (lives : AllLived lens step (FitsPlan ss) fs place ms) (led : AllLed ms) (books : AllBooks lens ss more fs place ms lives led) (as' : List (Addressed Asked)) → AllAtRest lens ss more fs ms as' →
      AllLive (λ r. DoneWhole r.setting r.book r.addressed) (runs_of lens ss more fs place ms lives led books as')
  all_done place [] lives led books as' rest = tt
  all_done place (m ∷ ms) lives led books [] rest = tt
  all_done place (m ∷ ms) lives led books (a ∷ as') rest =
      let b = books.0 in
      let k = rest.0 in
      (record { done = b.done k.settled k.wants k.hand; begun = subst (λ qs. HaveBegun a qs) (sym b.begun) k.begun }, all_done (suc place) ms lives.1 led.1 books.1 as' rest.1)

  pub run_ends : {P : Type 0} (place : ℕ) (ms : List PlanMember) (lives : AllLived lens step (FitsPlan ss) fs place ms) (led : AllLed ms) (books : AllBooks lens ss more fs place ms lives led) (as' : List (Addressed Asked)) (host arrived : List P) → AllAtRest lens ss more fs ms as' →
      (AnyLive (runs_of lens ss more fs place ms lives led books as') → arrived ≡ host) → RunEnds lens ss more fs place ms lives led books as' host arrived
  run_ends place ms lives led books as' host arrived rest came = record {
    rests = record { slaves = each_rests place ms lives led books as' rest; host_in = came };
    done = record { slaves = all_done place ms lives led books as' rest; host_in = came };
  }
