-- THE MAIL IN HAND that is passed on, over a frame, by the life of its slave.
use Rattle.std.proofs.Common.{◌≡◌, ◌==◌, ℕ, suc, Bool, true, false, Option, None, Some, List, [], ◌∷◌, ◌++◌, ◌+◌, refl, sym, ap, ◌∙◌, subst, arith, length}
use Rattle.std.specs.Prelude.{◌&&◌, is_some, nat_lt, map, if◌then◌else◌}
use Rattle.std.proofs.lemmas.Bool.Decides.{nat_tests}
use Rattle.life_runs.specs.of_frame_view.Shares.{given_where}
use Rattle.life_runs.specs.of_master_duty.Reply.{Reply}
use Rattle.life_runs.specs.of_exchange_model.Exchange.{Speech}
use Rattle.life_runs.specs.of_segment_model.Ends as Ends
use Rattle.life_runs.specs.of_segment_model.Record.{Kept, News}
use Rattle.life_runs.specs.of_segment_model.Slaves.{Datagram, Found}
use Rattle.life_runs.specs.of_state_model.Stated.{Service}
use Rattle.life_runs.specs.of_state_model.Accounts as Accounts
use Rattle.life_runs.specs.of_state_model.Accounts.{Account, Pick, account_back}
use Rattle.life_runs.specs.of_master_hand.Spoken.{Asked, acknowledged, is_followed, is_passed}
use Rattle.life_runs.specs.of_master_side.Passing.{news_lost}
use Rattle.life_runs.specs.of_master_side.Shown.{started_by}
use Rattle.life_runs.specs.of_link_mails.Body.{Body}
use Rattle.life_runs.specs.of_life_model.Lives
use Rattle.life_runs.specs.of_master_tour.Stands.{Counts}
use Rattle.life_runs.specs.of_life_model.Lives.{Life, Spot, granted, life_back, life_lost, life_next, passes}
use Rattle.life_runs.specs.of_life_model.Own.{own}
use Rattle.life_runs.specs.of_segment_plan.declared.service.Service as Plan
use Rattle.life_runs.specs.Served.{Keyed, ServedComes}
pub use Rattle.life_runs.proofs.Quiet.{comes_own}
use Rattle.life_runs.specs.Told.{Passed, told_on}
use Rattle.master_node.specs.Handed.{HasBegun, IsDuty, IsHanded, StaysNamed, hand_behind, is_left, newest}
use Rattle.master_node.specs.Passes.{BeginsFree}
use Rattle.master_node.specs.declared.post.Work.{Work}
use Rattle.master_node.proofs.Changes.{none_back}
use Rattle.master_node.proofs.Mailed.{next_passing, next_stands}

-- THE MAIL IN HAND is the one that came
pub hand_is : (room : ℕ) (script : List Plan.Service) (waits left : List Keyed) (hand behind : Option Passed) (n m : ℕ) (b : Option (Service Asked)) → ServedComes room script waits hand n b m left behind → behind ≡ hand_behind waits hand b
hand_is room script waits left hand behind n m _ ServedComes.none = refl
hand_is room script waits left hand behind n m _ (ServedComes.own (Service.Mails q) k c) = sym (ap (λ (z : Bool). if z then newest waits else None) (comes_own room script n k (Some (Service.Mails q)) c q refl))
hand_is room script waits left hand behind n m _ (ServedComes.own (Service.State target) k c) = refl
hand_is room script waits left hand behind n m _ (ServedComes.mail k rest e) = ap newest (sym e)

-- A MAIL IN HAND keeps its key, whatever is told of it
told_named : (p : Option Ends.Passing) (ms : List Body) (hand : Option Passed) (q : Passed) → hand ≡ Some q → (r : Passed) × (told_on p ms hand ≡ Some r) × (r.key ≡ q.key)
told_named p ms None q e = absurd (cc)
told_named p ms (Some r) q e = (let same : r ≡ q = cc in (_, refl, ap (λ z. z.key) same))

-- the account with no change of state in hand gets none by a frame
stays_free : (station frame : ℕ) (a : Account Asked Reply) (ds : List (Datagram Body)) → a.hand ≡ None → (account_back station frame a ds).hand ≡ None
stays_free station frame a ds e = ap (λ z. z.hand) (none_back station frame a ds e) ∙ e

module _ (x : Speech Body Asked Reply) (frame : ℕ) (spot : Spot) (ns : List (News Body)) (back : List (Datagram Body)) where
  abbrev behind_so : Option (Bool × Option Found) → Life Body Asked Reply → Lives.Stand → Life Body Asked Reply
  behind_so came l stand = life_back x acknowledged is_followed is_passed frame spot ns back came l stand

  -- an open slave stays so, where no change of state is in hand
  pub stays_open : (came : Option (Bool × Option Found)) (l : Life Body Asked Reply) (stand : Lives.Stand) → stand ≡ Lives.Stand.Open → l.stand ≡ Lives.Stand.Open → l.era.account.hand ≡ None →
      ((behind_so came l stand).stand ≡ Lives.Stand.Open) × ((behind_so came l stand).era.account.hand ≡ None)
  stays_open came l (Lives.Stand.Opens o) e o' h = absurd (cc)
  stays_open came l Lives.Stand.Gone e o' h = absurd (cc)
  stays_open None l Lives.Stand.Open e o' h = go (account_back spot.station frame l.era.account (own spot.station back)).hand refl
    where
      now : Life Body Asked Reply
      now = record l { era = Lives.era_back x acknowledged is_followed is_passed spot.station frame ns back l.era }

      go : (hand : Option Accounts.Duty) → (account_back spot.station frame l.era.account (own spot.station back)).hand ≡ hand → ((Lives.reopens now hand).stand ≡ Lives.Stand.Open) × ((Lives.reopens now hand).era.account.hand ≡ None)
      go None k = (o', k)
      go (Some duty) k = absurd (let free = stays_free spot.station frame l.era.account (own spot.station back) h in cc)
  stays_open (Some got) l Lives.Stand.Open e o' h = go (account_back spot.station frame l.era.account (own spot.station back)).hand refl
    where
      now : Life Body Asked Reply
      now = record l { era = Lives.era_back x acknowledged is_followed is_passed spot.station frame ns back l.era }

      go : (hand : Option Accounts.Duty) → (account_back spot.station frame l.era.account (own spot.station back)).hand ≡ hand → ((Lives.reopens now hand).stand ≡ Lives.Stand.Open) × ((Lives.reopens now hand).era.account.hand ≡ None)
      go None k = (o', k)
      go (Some duty) k = absurd (let free = stays_free spot.station frame l.era.account (own spot.station back) h in cc)

  -- a mail in hand behind a frame, in an epoch that isn't over, was in hand before it in one that wasn't
  abbrev IsThere : Life Body Asked Reply → Type 0
  IsThere l = (is_left l.stand ≡ false) × (is_some l.era.passing ≡ true)

  reopens_passing : (l : Life Body Asked Reply) (hand : Option Accounts.Duty) → (Lives.reopens l hand).era.passing ≡ l.era.passing
  reopens_passing l None = refl
  reopens_passing l (Some duty) = go duty.stage
    where
      by : (b : Bool) → (if b then record l { stand = Lives.reopening (Lives.opens_state duty.target) true } else l).era.passing ≡ l.era.passing
      by true = refl
      by false = refl

      go : (stage : Accounts.Stage) → (Lives.reopens_at l duty.target stage).era.passing ≡ l.era.passing
      go Accounts.Stage.Drains = refl
      go (Accounts.Stage.Goes phase) = by (Lives.returns_to_init duty.target)

  -- how far the mail of an open slave comes
  pub back_passing : (came : Option (Bool × Option Found)) (l : Life Body Asked Reply) (stand : Lives.Stand) → stand ≡ Lives.Stand.Open → (behind_so came l stand).era.passing ≡ passes x acknowledged is_followed is_passed l.era.passing ns
  back_passing came l (Lives.Stand.Opens o) e = absurd (cc)
  back_passing came l Lives.Stand.Gone e = absurd (cc)
  back_passing None l Lives.Stand.Open e = reopens_passing _ (account_back spot.station frame l.era.account (own spot.station back)).hand
  back_passing (Some got) l Lives.Stand.Open e = reopens_passing _ (account_back spot.station frame l.era.account (own spot.station back)).hand

  passes_some : (p : Option Ends.Passing) → is_some (passes x acknowledged is_followed is_passed p ns) ≡ true → is_some p ≡ true
  passes_some None t = t
  passes_some (Some p) t = refl

  pub last_left : (o : Lives.Opening) → (o.step == Lives.last_step o) ≡ true → is_left (Lives.Stand.Opens o) ≡ false
  last_left o e = go o.again e
    where
      go : (again : Bool) → (o.step == (if again then 9 else 5)) ≡ true → (again && nat_lt o.step 3) ≡ false
      go false f = refl
      go true f = grind (arith, nat_tests, f)

  pub steps_left : (o : Lives.Opening) → Lives.shows_clear o ≡ false → is_left (Lives.Stand.Opens (record o { step = suc o.step })) ≡ false → is_left (Lives.Stand.Opens o) ≡ false
  steps_left o e n = go o.again e n
    where
      go : (again : Bool) → (again && o.step == 2) ≡ false → (again && nat_lt (suc o.step) 3) ≡ false → (again && nat_lt o.step 3) ≡ false
      go false f g = refl
      go true f g = grind (arith, nat_tests, f, g)

  opening_was : (l : Life Body Asked Reply) (o : Lives.Opening) (done : Bool) (found : Option Found) → l.stand ≡ Lives.Stand.Opens o → IsThere (Lives.opening_back frame l o done found) → IsThere l
  opening_was l o done found s = go (Lives.shows_clear o) (done && Lives.is_shown 1 found) (o.step == Lives.last_step o) (done && Lives.is_shown o.state found) refl refl
    where
      go : (shows seen last there : Bool) → Lives.shows_clear o ≡ shows → (o.step == Lives.last_step o) ≡ last →
          IsThere (if shows then (if seen then Lives.clears frame l o else l) else if last then (if there then Lives.opens frame l else l) else Lives.steps_on l o) → IsThere l
      go true true last there e f i = absurd (let bad = i.1 in cc)
      go true false last there e f i = i
      go false seen true true e f i = (ap is_left s ∙ last_left o f, i.1)
      go false seen true false e f i = i
      go false seen false there e f i = (ap is_left s ∙ steps_left o e i.0, i.1)

  back_was : (came : Option (Bool × Option Found)) (l : Life Body Asked Reply) (stand : Lives.Stand) → l.stand ≡ stand → IsThere (behind_so came l stand) → IsThere l
  back_was None l (Lives.Stand.Opens o) s i = i
  back_was (Some got) l (Lives.Stand.Opens o) s i = opening_was l o got.0 got.1 s i
  back_was None l Lives.Stand.Open s i = (ap is_left s, passes_some l.era.passing (ap (λ (z : Option Ends.Passing). is_some z) (sym (reopens_passing _ (account_back spot.station frame l.era.account (own spot.station back)).hand)) ∙ i.1))
  back_was (Some got) l Lives.Stand.Open s i = (ap is_left s, passes_some l.era.passing (ap (λ (z : Option Ends.Passing). is_some z) (sym (reopens_passing _ (account_back spot.station frame l.era.account (own spot.station back)).hand)) ∙ i.1))
  back_was None l Lives.Stand.Gone s i = i
  back_was (Some got) l Lives.Stand.Gone s i = i

  -- THE POST BEHIND A FRAME THAT CAME BACK
  pub back_handed : (came : Option (Bool × Option Found)) (l : Life Body Asked Reply) (before after : Work) (hand : Option Passed) (ms : List Body) → IsHanded before hand l → StaysNamed before after (is_some (behind_so came l l.stand).era.passing) →
      IsHanded after (told_on l.era.passing ms hand) (behind_so came l l.stand)
  back_handed came l before after hand ms h w = record {
    named = λ key e. (let z = w.named key e in
        let n = h.named key z.0 in
        let r = told_named l.era.passing ms hand n.passed n.is in
        let s = stays_open came l l.stand n.opened n.opened n.alone in
        record { opened = s.0; passing = z.1; alone = s.1; passed = r.0; is = r.1; key_is = r.2 ∙ n.key_is });
    only = λ n t. (let b = back_was came l l.stand refl (n, t) in
        let k = h.only b.0 b.1 in
        (k.0, w.stays k.0 k.1 t));
  }

-- BEHIND A LOST ONE: as long as the slave isn't given up its mail goes on
module _ (x : Speech Body Asked Reply) where
  sent_on : (p : Ends.Passing) (ms : List Body) → is_some (passes x acknowledged is_followed is_passed (Some p) (map (λ m. News.Told m) ms ++ [])) ≡ true
  sent_on p [] = refl
  sent_on Ends.Passing.Waiting (m ∷ ms) = sent_on Ends.Passing.Sent ms
  sent_on Ends.Passing.Sent (m ∷ ms) = sent_on Ends.Passing.Sent ms
  sent_on Ends.Passing.Boxed (m ∷ ms) = sent_on Ends.Passing.Boxed ms
  sent_on Ends.Passing.Served (m ∷ ms) = sent_on Ends.Passing.Served ms
  sent_on Ends.Passing.Answered (m ∷ ms) = sent_on Ends.Passing.Answered ms

  all_sent : (p : Option Ends.Passing) (ms : List Body) → is_some (passes x acknowledged is_followed is_passed p (map (λ m. News.Told m) ms ++ [])) ≡ is_some p
  all_sent None ms = refl
  all_sent (Some p) ms = sent_on p ms

  module _ (spot : Spot) (kept : Kept) (sent : List (Datagram Body)) where
    abbrev lost_so : Life Body Asked Reply → Lives.Stand → Life Body Asked Reply
    lost_so l stand = life_lost x acknowledged is_followed is_passed spot (news_lost spot.station kept sent) sent l stand

    -- nothing of the slave changes but how far its mail has come
    pub record LostOn (l m : Life Body Asked Reply) : Type 0 where
      pub stand : m.stand ≡ l.stand
      pub duty : m.era.account.hand ≡ l.era.account.hand
      pub passing : is_some m.era.passing ≡ is_some l.era.passing

    pub lost_on : (l : Life Body Asked Reply) (stand : Lives.Stand) → LostOn l (lost_so l stand)
    lost_on l (Lives.Stand.Opens o) = record { stand = refl; duty = refl; passing = refl }
    lost_on l Lives.Stand.Open = record { stand = refl; duty = refl; passing = all_sent l.era.passing _ }
    lost_on l Lives.Stand.Gone = record { stand = refl; duty = refl; passing = refl }

    -- THE POST BEHIND A LOST FRAME, by which the slave is given up, or isn't
    pub lost_handed : (gives : Bool) (recover made : ℕ) (l : Life Body Asked Reply) (before after : Work) (hand : Option Passed) → IsHanded before hand l → (gives ≡ true → after ≡ Work.Nothing) → (gives ≡ false → after ≡ before) →
        IsHanded after (if gives then None else told_on l.era.passing [] hand) (given_where gives recover spot made (lost_so l l.stand))
    lost_handed true recover made l before after hand h drops stays = record {
      named = λ key e. absurd (let bad = sym (drops refl) ∙ e in cc);
      only = λ n t. absurd (go (nat_lt (length (lost_so l l.stand).gave) recover) n);
    }
      where
        go : (b : Bool) → is_left (if b then Lives.reopening spot.start false else Lives.Stand.Gone) ≡ false → ⊥
        go true n = absurd (let bad : true ≡ false = n in cc)
        go false n = absurd (let bad : true ≡ false = n in cc)
    lost_handed false recover made l before after hand h drops stays =
        let s = lost_on l l.stand in
        record {
          named = λ key e. (let n = h.named key (sym (stays refl) ∙ e) in
              let r = told_named l.era.passing [] hand n.passed n.is in
              record { opened = s.stand ∙ n.opened; passing = s.passing ∙ n.passing; alone = s.duty ∙ n.alone; passed = r.0; is = r.1; key_is = r.2 ∙ n.key_is });
          only = λ n t. (let k = h.only (sym (ap is_left s.stand) ∙ n) (sym s.passing ∙ t) in (k.0, stays refl ∙ k.1));
        }

-- BEFORE A FRAME
no_grow : {T : Type 0} (xs : List T) (x : T) → xs ≡ xs ++ x ∷ [] → ⊥
no_grow [] x e = absurd (cc)
no_grow (y ∷ ys) x e = no_grow ys x (ap tail e)
  where
    tail : {T : Type 0} → List T → List T
    tail [] = []
    tail (z ∷ zs) = zs

module _ (x : Speech Body Asked Reply) (made : ℕ) (l : Life Body Asked Reply) where
  abbrev begins_so : Option Accounts.Duty → Option (Service Asked) → Account Asked Reply
  begins_so hand b = Accounts.account_begins x acknowledged made l.era.side l.era.account hand b

  none_begins : (hand : Option Accounts.Duty) (b : Option (Service Asked)) → b ≡ None → begins_so hand b ≡ l.era.account
  none_begins None b e = ap (λ z. begins_so None z) e
  none_begins (Some duty) b e = ap (λ z. begins_so (Some duty) z) e

  none_granted : (p : Option Ends.Passing) (pick : Pick Asked) → pick.begin ≡ None → (granted p pick).begin ≡ None
  none_granted None pick e = e
  none_granted (Some p) pick e = refl

  mails_begins : (hand : Option Accounts.Duty) (q : Asked) → l.era.account.hand ≡ hand → (begins_so hand (Some (Service.Mails q))).started ≡ l.era.account.started ++ record { service = Service.Mails q; frame = made } ∷ [] →
      (begins_so hand (Some (Service.Mails q))).hand ≡ None
  mails_begins (Some duty) q e c = absurd (no_grow l.era.account.started _ c)
  mails_begins None q e c = by (x.valid q && Accounts.is_free x l.era.side l.era.side.now)
    where
      by : (b : Bool) → (if b then record l.era.account { started = Accounts.starts l.era.account (Service.Mails q) made } else l.era.account).hand ≡ None
      by true = e
      by false = e

  next_duty : (stand : Lives.Stand) (b : Option (Service Asked)) (pick : Pick Asked) → l.stand ≡ stand → pick.begin ≡ b → Counts made pick.begin l (life_next x acknowledged is_followed is_passed made l stand pick) → BeginsFree l b →
      IsDuty l.era.account.hand b (life_next x acknowledged is_followed is_passed made l stand pick).era.account.hand
  next_duty (Lives.Stand.Opens o) None pick s e c free = refl
  next_duty Lives.Stand.Gone None pick s e c free = refl
  next_duty Lives.Stand.Open None pick s e c free = ap (λ z. z.hand) (none_begins l.era.account.hand (granted l.era.passing pick).begin (none_granted l.era.passing pick e))
  next_duty stand (Some (Service.State target)) pick s e c free = tt
  next_duty (Lives.Stand.Opens o) (Some (Service.Mails q)) pick s e c free = absurd (let bad = sym s ∙ (free (Service.Mails q) refl).0 in cc)
  next_duty Lives.Stand.Gone (Some (Service.Mails q)) pick s e c free = absurd (let bad = sym s ∙ (free (Service.Mails q) refl).0 in cc)
  next_duty Lives.Stand.Open (Some (Service.Mails q)) pick s e c free =
      let g : (granted l.era.passing pick).begin ≡ Some (Service.Mails q) = ap (λ z. (granted z pick).begin) (free (Service.Mails q) refl).1 ∙ e in
      ap (λ z. (begins_so l.era.account.hand z).hand) g
      ∙ mails_begins l.era.account.hand q refl (ap (λ z. (begins_so l.era.account.hand z).started) (sym g) ∙ subst (λ z. (begins_so l.era.account.hand (granted l.era.passing pick).begin).started ≡ l.era.account.started ++ started_by made z) e c)

  pub begun_is : (n : Life Body Asked Reply) (b : Option (Service Asked)) (pick : Pick Asked) → n ≡ life_next x acknowledged is_followed is_passed made l l.stand pick → pick.begin ≡ b → Counts made pick.begin l n → BeginsFree l b → HasBegun l b n
  begun_is n b pick is e counts free = record {
    stand = ap (λ z. z.stand) is ∙ next_stands x made l l.stand pick refl;
    passing = next_passing x made l n b pick is e counts free;
    duty = subst (λ z. IsDuty l.era.account.hand b z.era.account.hand) (sym is) (next_duty l.stand b pick refl e (subst (λ z. Counts made pick.begin l z) is counts) free);
  }
