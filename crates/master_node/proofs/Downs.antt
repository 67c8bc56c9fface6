-- Which ports go down behind a lost frame.
use Rattle.std.proofs.Common.{◌≡◌, ℕ, zero, suc, ◌+◌, ◌<◌, ◌≤◌, List, [], ◌∷◌, ◌++◌, Bool, true, false, Option, Some, None, refl, sym, ap, subst, ◌∙◌, arith, length, take, get_or, append_assoc, append-nil, add-one, length-append}
use Rattle.std.specs.Prelude.{◌&&◌, not, nat_lt, map, slice_get}
use Rattle.std.proofs.lemmas.List.{length-map}
use Rattle.std.proofs.Math.Seq.{take-suc}
use Rattle.eoe_switch.specs.declared.switching.SwitchEvent.{SwitchEvent}
use Rattle.life_runs.specs.of_frame_view.View.{Lens}
use Rattle.life_runs.specs.of_frame_view.Shares.{AllBoth, given_where}
use Rattle.life_runs.specs.of_master_duty.Reply.{Reply}
use Rattle.life_runs.specs.of_exchange_model.Exchange.{Speech}
use Rattle.life_runs.specs.of_segment_model.Record.{News}
use Rattle.life_runs.specs.of_segment_model.Slaves.{Datagram}
use Rattle.life_runs.specs.of_segment_model.Seats.{Side}
use Rattle.life_runs.specs.of_state_model.Accounts.{Account}
use Rattle.life_runs.specs.of_master_hand.Spoken.{Asked, acknowledged, is_followed, is_passed}
use Rattle.life_runs.specs.of_link_mails.Body.{Body}
use Rattle.life_runs.specs.of_master_side.declared.carried.Carried.{Carried}
use Rattle.life_runs.specs.of_master_tour.Goes.{is_live, holds_at}
use Rattle.life_runs.specs.of_master_tour.Stands.{StandShows, StandUnder, turned, turned_by, is_opening, is_open}
use Rattle.life_runs.specs.of_master_tour.Walks.{EachPair}
use Rattle.life_runs.specs.of_master_tour.declared.stop.Stand.{Stand}
use Rattle.life_runs.specs.of_master_tour.declared.stop.Turned.{Turned}
use Rattle.life_runs.specs.of_life_model.Lives as Lives
use Rattle.life_runs.specs.of_life_model.Lives.{Life, Spot, life_lost}
use Rattle.life_runs.proofs.of_master_tour.Goes.{holds_here}
use Rattle.life_runs.proofs.of_master_tour.Openings.{lt_self, lt_more}
use Rattle.master_node.specs.Downs.{Lists, down_by, downs_in, is_given_up}
use Rattle.master_node.specs.Forwards.{port_by}
use Rattle.master_node.specs.Happened.{events_of}
use Rattle.master_node.specs.Shows.{is_led}
use Rattle.master_node.specs.declared.happened.Happening.{Happening}
use Rattle.master_node.specs.declared.lan.Lan.{Lan}
use Rattle.master_node.proofs.Happenings.{events_push}

-- ---- what is listed, one after the other

many_events : (rows : List Happening) → length (events_of rows) ≡ length rows
many_events rows = length-map rows (λ (r : Happening). r.event)

pub lists_one : (es : List SwitchEvent) (l l' : Lan) (r : Happening) → es ≡ r.event ∷ [] → l'.ports ≡ l.ports → (length l.happened < 17 → l'.happened ≡ l.happened ++ r ∷ []) → Lists es l l'
lists_one es l l' r e p f =
    let one : length es ≡ 1 = ap length e in
    record {
      ports = p;
      listed = λ room. ap events_of (f (omega (arith, room, one))) ∙ events_push l.happened r ∙ ap (λ z. events_of l.happened ++ z) (sym e);
    }

pub lists_none : (es : List SwitchEvent) (l l' : Lan) → es ≡ [] → l' ≡ l → Lists es l l'
lists_none es l l' e s = record {
  ports = ap (λ z. z.ports) s;
  listed = λ room. ap (λ z. events_of z.happened) s ∙ sym (ap (λ z. events_of l.happened ++ z) e ∙ append-nil (events_of l.happened));
}

pub lists_then : (es fs : List SwitchEvent) (l m n : Lan) → Lists es l m → Lists fs m n → Lists (es ++ fs) l n
lists_then es fs l m n a b =
    let both : length (es ++ fs) ≡ length es + length fs = length-append es fs in
    record {
      ports = b.ports ∙ a.ports;
      listed = λ room.
          let first = a.listed (omega (arith, room, both)) in
          let many : length m.happened ≡ length l.happened + length es =
          sym (many_events m.happened) ∙ ap length first ∙ length-append (events_of l.happened) es ∙ ap (λ n. n + length es) (many_events l.happened) in
          b.listed (omega (arith, room, both, many)) ∙ ap (λ z. z ++ fs) first ∙ append_assoc (events_of l.happened) es fs;
    }

pub lists_as : (es fs : List SwitchEvent) (l m : Lan) → fs ≡ es → Lists es l m → Lists fs l m
lists_as es fs l m e a = subst (λ z. Lists z l m) (sym e) a

pub lists_from : (es : List SwitchEvent) (l m n : Lan) → m ≡ l → Lists es m n → Lists es l n
lists_from es l m n e a = subst (λ z. Lists es z n) e a

pub lists_on : (es : List SwitchEvent) (l m n : Lan) → n ≡ m → Lists es l m → Lists es l n
lists_on es l m n e a = subst (λ z. Lists es l z) (sym e) a

-- a whole step, from an empty list on
pub lists_all : (es : List SwitchEvent) (l m : Lan) → length es ≤ 17 → l.happened ≡ [] → Lists es l m → events_of m.happened ≡ es
lists_all es l m few none a = a.listed (subst (λ (z : List Happening). length z + length es ≤ 17) (sym none) (omega (arith, few))) ∙ ap (λ z. events_of z ++ es) none

-- ---- the ports that go down

pub stays_up : (port : Option ℕ) → down_by port false ≡ []
stays_up None = refl
stays_up (Some port) = refl

pub down_not : (port : Option ℕ) (goes : Bool) → goes ≡ false → down_by port goes ≡ []
down_not port goes e = ap (λ z. down_by port z) e ∙ stays_up port

down_few : (port : Option ℕ) (goes : Bool) → length (down_by port goes) ≤ 1
down_few None goes = omega arith
down_few (Some port) false = omega arith
down_few (Some port) true = omega arith

pub downs_few : (ports : List (Option ℕ)) (goes : ℕ → Bool) (ps : List ℕ) → length (downs_in ports goes ps) ≤ length ps
downs_few ports goes [] = omega arith
downs_few ports goes (p ∷ ps) =
    let here = down_by (port_by (slice_get ports p)) (goes p) in
    omega (arith, down_few (port_by (slice_get ports p)) (goes p), downs_few ports goes ps, length-append here (downs_in ports goes ps))

downs_push : (ports : List (Option ℕ)) (goes : ℕ → Bool) (ps : List ℕ) (p : ℕ) → downs_in ports goes (ps ++ p ∷ []) ≡ downs_in ports goes ps ++ down_by (port_by (slice_get ports p)) (goes p)
downs_push ports goes [] p = append-nil (down_by (port_by (slice_get ports p)) (goes p))
downs_push ports goes (q ∷ ps) p =
    let here = down_by (port_by (slice_get ports q)) (goes q) in
    ap (λ z. here ++ z) (downs_push ports goes ps p) ∙ sym (append_assoc here (downs_in ports goes ps) (down_by (port_by (slice_get ports p)) (goes p)))

pub downs_next : (ports : List (Option ℕ)) (goes : ℕ → Bool) (ps : List ℕ) (k d : ℕ) → k < length ps →
    downs_in ports goes (take (k + 1) ps) ≡ downs_in ports goes (take k ps) ++ down_by (port_by (slice_get ports (get_or ps k d))) (goes (get_or ps k d))
downs_next ports goes ps k d l = ap (λ z. downs_in ports goes z) (ap (λ n. take n ps) (add-one k) ∙ take-suc ps k d l) ∙ downs_push ports goes (take k ps) (get_or ps k d)

pub downs_same : (ports : List (Option ℕ)) (f g : ℕ → Bool) → ((p : ℕ) → f p ≡ g p) → (ps : List ℕ) → downs_in ports f ps ≡ downs_in ports g ps
downs_same ports f g h [] = refl
downs_same ports f g h (p ∷ ps) = λ i. down_by (port_by (slice_get ports p)) (h p i) ++ downs_same ports f g h ps i

-- ---- whether a slave goes

pub holds_beyond : {S : Type 0} (test : S → Bool) (ss : List S) (p : ℕ) → length ss ≤ p → holds_at test ss p ≡ false
holds_beyond test [] p l = refl
holds_beyond test (s ∷ ss) zero l = absurd (omega (arith, l))
holds_beyond test (s ∷ ss) (suc p) l = holds_beyond test ss p (omega (arith, l))

-- one stands there
pub here_is : {S : Type 0} (test : S → Bool) (ss : List S) (place : ℕ) (s : S) (r : Bool) → place < length ss → s ≡ get_or ss place s → test s ≡ r → holds_at test ss place ≡ r
here_is test ss place s r l e t = sym (holds_here test ss place s l e) ∙ t

abbrev SlaveLife : Type 0
SlaveLife = Life Body Asked Reply

pub live_is : {Q : Type 0} (shows : Side Body Q Reply → Account Q Reply → Type 0) (spot : Spot) (z : Stand) (m : Life Body Q Reply) → StandShows shows spot z m → is_live z ≡ is_led m.stand
live_is shows spot (Stand.Opening up) m s = sym (ap is_led s.stand)
live_is shows spot Stand.Open m s = sym (ap is_led s.0)
live_is shows spot Stand.Gone m s = sym (ap is_led s)

pub under_live : {Q : Type 0} (shows : Side Body Q Reply → Account Q Reply → Type 0) (spot : Spot) (lens : ℕ → Lens) (station at : ℕ) (under : Bool) (carried : Carried) (z : Stand) (l : Life Body Q Reply) (sent : List (Datagram Body)) →
    StandShows shows spot z l → StandUnder lens station at under carried z l sent → under ≡ true → is_led l.stand ≡ true
under_live shows spot lens station at under carried (Stand.Opening up) l sent s w e = ap is_led s.stand
under_live shows spot lens station at under carried Stand.Open l sent s w e = ap is_led s.0
under_live shows spot lens station at under carried Stand.Gone l sent s w e = absurd (let bad : true ≡ false = sym e ∙ w in cc)

not_turned : (clears opens : Bool) → is_given_up (turned_by false clears opens) ≡ false
not_turned true opens = refl
not_turned false true = refl
not_turned false false = refl

stays_led : (b : Bool) → false ≡ (b && not b)
stays_led true = refl
stays_led false = refl

pub both_true : (a b : Bool) → (a && b) ≡ true → b ≡ true
both_true true b e = e
both_true false b e = absurd (let bad : false ≡ true = e in cc)

module _ (x : Speech Body Asked Reply) (recover number : ℕ) (spot : Spot) (ns : List (News Body)) (sent : List (Datagram Body)) where
  abbrev lost_of : SlaveLife → SlaveLife
  lost_of l = life_lost x acknowledged is_followed is_passed spot ns sent l l.stand

  lost_stays : (l : SlaveLife) (z : Lives.Stand) → (let m = life_lost x acknowledged is_followed is_passed spot ns sent l z in (m.stand ≡ l.stand) × (m.gave ≡ l.gave))
  lost_stays l (Lives.Stand.Opens o) = (refl, refl)
  lost_stays l Lives.Stand.Open = (refl, refl)
  lost_stays l Lives.Stand.Gone = (refl, refl)

  pub given_is : (gives : Bool) (l : SlaveLife) (news : Option Turned) → news ≡ turned l (given_where gives recover spot number (lost_of l)) → is_given_up news ≡ gives
  given_is true l news t =
      let m = given_where true recover spot number (lost_of l) in
      let more : nat_lt (length l.gave) (length m.gave) ≡ true = ap (λ (z : List ℕ). nat_lt (length l.gave) (length (z ++ number ∷ []))) (lost_stays l l.stand).1 ∙ lt_more l.gave number in
      ap is_given_up (t ∙ ap (λ z. turned_by z (nat_lt (length l.past) (length m.past)) (is_opening l.stand && is_open m.stand)) more)
  given_is false l news t =
      let m = lost_of l in
      let same : nat_lt (length l.gave) (length m.gave) ≡ false = ap (λ (z : List ℕ). nat_lt (length l.gave) (length z)) (lost_stays l l.stand).1 ∙ lt_self (length l.gave) in
      ap is_given_up (t ∙ ap (λ z. turned_by z (nat_lt (length l.past) (length m.past)) (is_opening l.stand && is_open m.stand)) same) ∙ not_turned (nat_lt (length l.past) (length m.past)) (is_opening l.stand && is_open m.stand)

  -- one that a frame gives up, or doesn't
  pub gone_is : (gives : Bool) (l : SlaveLife) (news : Option Turned) (live : Bool) → (gives ≡ true → is_led l.stand ≡ true) → news ≡ turned l (given_where gives recover spot number (lost_of l)) →
      live ≡ is_led (given_where gives recover spot number (lost_of l)).stand → (is_given_up news && not live) ≡ (is_led l.stand && not (is_led (given_where gives recover spot number (lost_of l)).stand))
  gone_is true l news live led t e =
      let m = given_where true recover spot number (lost_of l) in
      let more : nat_lt (length l.gave) (length m.gave) ≡ true = ap (λ (z : List ℕ). nat_lt (length l.gave) (length (z ++ number ∷ []))) (lost_stays l l.stand).1 ∙ lt_more l.gave number in
      let given : is_given_up news ≡ true = ap is_given_up (t ∙ ap (λ z. turned_by z (nat_lt (length l.past) (length m.past)) (is_opening l.stand && is_open m.stand)) more) in
      (λ i. given i && not (e i)) ∙ (λ i. sym (led refl) i && not (is_led m.stand))
  gone_is false l news live led t e =
      let m = lost_of l in
      let same : nat_lt (length l.gave) (length m.gave) ≡ false = ap (λ (z : List ℕ). nat_lt (length l.gave) (length z)) (lost_stays l l.stand).1 ∙ lt_self (length l.gave) in
      let not_given : is_given_up news ≡ false =
      ap is_given_up (t ∙ ap (λ z. turned_by z (nat_lt (length l.past) (length m.past)) (is_opening l.stand && is_open m.stand)) same) ∙ not_turned (nat_lt (length l.past) (length m.past)) (is_opening l.stand && is_open m.stand) in
      ap (λ z. z && not live) not_given ∙ stays_led (is_led l.stand) ∙ ap (λ z. is_led l.stand && not (is_led z)) (sym (lost_stays l l.stand).0)

-- all of them
pub goes_at : {A B S : Type 0} (R : A → S → Type 0) (P : S → S → Type 0) (on : A → B) (f : A → Bool) (g : B → Bool) (a b : S → Bool) → ((u : A) (s t : S) → R u s → P s t → (a t && b t) ≡ (f u && not (g (on u)))) →
    (us : List A) (ss ts : List S) → AllBoth R us ss → EachPair P ss ts → (k : ℕ) → (holds_at a ts k && holds_at b ts k) ≡ (holds_at f us k && not (holds_at g (map on us) k))
goes_at R P on f g a b h [] [] [] r p k = refl
goes_at R P on f g a b h [] [] (t ∷ ts) r p k = absurd p
goes_at R P on f g a b h [] (s ∷ ss) ts r p k = absurd r
goes_at R P on f g a b h (u ∷ us) [] ts r p k = absurd r
goes_at R P on f g a b h (u ∷ us) (s ∷ ss) [] r p k = absurd p
goes_at R P on f g a b h (u ∷ us) (s ∷ ss) (t ∷ ts) r p zero = h u s t r.0 p.0
goes_at R P on f g a b h (u ∷ us) (s ∷ ss) (t ∷ ts) r p (suc k) = goes_at R P on f g a b h us ss ts r.1 p.1 k
