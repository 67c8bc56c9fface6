-- THE MASTER'S LIVES are those of the ring: what it speaks with a slave is what the slave's client speaks, but for mails that are passed on.
use Rattle.std.proofs.Common.{◌≡◌, ℕ, suc, ◌&&◌, All, Bool, true, false, List, [], ◌∷◌, ◌++◌, length, refl, ap, sym, ◌∙◌, subst}
use Rattle.std.specs.Prelude.{if◌then◌else◌}
use Rattle.std.proofs.lemmas.List.Elements.{All-head, All-tail}
use Rattle.run_frames.specs.of_datagrams.Datagram as Raw
use Rattle.run_frames.specs.of_datagrams.Frame.{IsFrame, chained}
use Rattle.slave_server.specs.of_slave_node.Passing.{datagrams_after}
use Rattle.whole_ring.specs.of_frame_view.View.{Lens}
use Rattle.slave_server.specs.of_link_mails.Body.{Body}
use Rattle.slave_server.specs.of_segment_model.Record.{Frame}
use Rattle.slave_server.specs.of_segment_plan.Sound.{IsSlave}
use Rattle.slave_server.specs.of_segment_plan.declared.slave.SlaveSpec.{SlaveSpec}
use Rattle.slave_server.specs.of_exchange_model.Exchange.{IsLawful}
use Rattle.slave_server.specs.of_slave_model.Profile.{Profile, IsProfile}
use Rattle.run_frames.specs.of_segment_ring.declared.wire.Fate.{Fate}
use Rattle.run_frames.specs.of_segment_ring.declared.wire.Fate.TheVariants.{Pass, Lost}
use Rattle.run_frames.specs.of_segment_ring.Ring.{RingState, ring_behind}
use Rattle.run_frames.specs.of_segment_ring.Schedule.{fate_at}
use Rattle.slave_server.specs.Serving.{Serving}
use Rattle.slave_server.specs.of_slave_node.Node.{Node, node_passed}
use Rattle.run_frames.specs.of_master_duty.Reply as Master
use Rattle.run_frames.specs.of_master_hand.Spoken.{Asked, acknowledged}
use Rattle.whole_ring.specs.of_life_model.Lives.{Spot, Life, life_next, life_back, life_lost, gives_up}
use Rattle.whole_ring.specs.of_frame_view.Shares as Shares
use Rattle.whole_ring.specs.of_frame_view.Shares.{Lived, came_at, given_where}
use Rattle.plan_ring.specs.Alike.{InHandIs}
use Rattle.plan_ring.proofs.Alike as Alike
use Rattle.whole_ring.specs.of_slave_lives.Rings.{fate_seen, is_met_at, met, turned}
use Rattle.whole_ring.specs.Members.{IsRing}
use Rattle.whole_ring.specs.Turning.{Turn, TurnsFor, AllTurn, frame_at, next_life, life_by, behind_frame, given_up}
use Rattle.whole_ring.proofs.Begins as Begins
use Rattle.whole_ring.proofs.Members as Members
use Rattle.whole_ring.proofs.Turning.{next_stand}
use Rattle.plan_ring.specs.Asked.{is_service, asked}
use Rattle.plan_ring.specs.Plan.{PlanMember, FitsPlan, AllMacs, step, new_members}
use Rattle.plan_ring.proofs.Asked.{alike, forgets_as}
use Rattle.slave_server.specs.Spec.{profile_of}
use Rattle.plan_ring.specs.Master.{speech_of, lived_of, IsLed, AllLed, Under, IsUnder, AllUnder, IsSame, AllSame, AllBehind, OnAs, GoesOn}

module _ (more : Body → Bool) (passed : Asked → Bool) (lens : ℕ → Lens) (made : ℕ) (ds : List Raw.Datagram) where
  -- ONE SLAVE
  module _ (m : PlanMember) (u : Under) (led : IsLed m) (x : IsUnder more passed lens made ds m u) where
    abbrev pub turn_of : Turn Asked
    turn_of = record { pick = x.next.pick; share = u.share; news = u.news }

    pub next_same : next_life more passed made m.services m.life turn_of ≡ u.lived.life
    next_same =
        ap (λ (k : Asked → Bool). life_next m.services.exchange.speech k more passed made m.life m.life.stand x.next.pick) led.last
        ∙ sym (Alike.next_same is_service (speech_of m) m.services.exchange.speech led.alike acknowledged more passed made m.life m.life.stand x.next.pick led.in_hand x.wish)
        ∙ sym x.next.life

    next_in : InHandIs is_service u.lived.life
    next_in = subst (λ (l : Life Body Asked Master.Reply). InHandIs is_service l)
        (sym (Alike.next_same is_service (speech_of m) m.services.exchange.speech led.alike acknowledged more passed made m.life m.life.stand x.next.pick led.in_hand x.wish) ∙ sym x.next.life)
        (Alike.next_is is_service (speech_of m) m.services.exchange.speech led.alike acknowledged more passed made m.life m.life.stand x.next.pick led.in_hand x.wish)

    pub lived_is : u.lived ≡ record { spot = m.spot; life = next_life more passed made m.services m.life turn_of }
    lived_is = λ i. record { spot = x.next.spot i; life = sym next_same i }

    pub turns_for : TurnsFor more passed lens made ds m turn_of
    turns_for = record { asked = subst (λ (l : Lived Asked Master.Reply). Shares.Asked lens ds l u.share) lived_is x.asked; boots = x.boots }

    pub stand_is : u.lived.life.stand ≡ m.life.stand
    stand_is = ap (λ (l : Life Body Asked Master.Reply). l.stand) (sym next_same) ∙ next_stand more passed made m.services m.life turn_of

    -- behind a frame that came back
    pub back_life : (f : Frame Body) → life_back m.services.exchange.speech m.services.states.acknowledged more passed made m.spot u.news f.back (came_at u.share.under u.share.at f.back) (next_life more passed made m.services m.life turn_of) m.life.stand
        ≡ life_back (speech_of m) acknowledged more passed made u.lived.spot u.news f.back (came_at u.share.under u.share.at f.back) u.lived.life u.lived.life.stand
    back_life f =
        (λ i. life_back m.services.exchange.speech (led.last i) more passed made (sym x.next.spot i) u.news f.back (came_at u.share.under u.share.at f.back) (next_same i) (sym stand_is i))
        ∙ sym (Alike.back_same is_service (speech_of m) m.services.exchange.speech led.alike acknowledged more passed made u.lived.spot u.news f.back (came_at u.share.under u.share.at f.back) u.lived.life u.lived.life.stand next_in)

    back_in : (f : Frame Body) → InHandIs is_service (life_back (speech_of m) acknowledged more passed made u.lived.spot u.news f.back (came_at u.share.under u.share.at f.back) u.lived.life u.lived.life.stand)
    back_in f = subst (λ (l : Life Body Asked Master.Reply). InHandIs is_service l)
        (sym (Alike.back_same is_service (speech_of m) m.services.exchange.speech led.alike acknowledged more passed made u.lived.spot u.news f.back (came_at u.share.under u.share.at f.back) u.lived.life u.lived.life.stand next_in))
        (Alike.back_is is_service (speech_of m) m.services.exchange.speech led.alike acknowledged more passed made u.lived.spot u.news f.back (came_at u.share.under u.share.at f.back) u.lived.life u.lived.life.stand next_in)

    -- and behind a lost one
    pub lost_life : (f : Frame Body) → life_lost m.services.exchange.speech m.services.states.acknowledged more passed m.spot u.news f.sent (next_life more passed made m.services m.life turn_of) m.life.stand
        ≡ life_lost (speech_of m) acknowledged more passed u.lived.spot u.news f.sent u.lived.life u.lived.life.stand
    lost_life f =
        (λ i. life_lost m.services.exchange.speech (led.last i) more passed (sym x.next.spot i) u.news f.sent (next_same i) (sym stand_is i))
        ∙ sym (Alike.lost_same is_service (speech_of m) m.services.exchange.speech led.alike acknowledged more passed u.lived.spot u.news f.sent u.lived.life u.lived.life.stand)

    lost_in : (f : Frame Body) → InHandIs is_service (life_lost (speech_of m) acknowledged more passed u.lived.spot u.news f.sent u.lived.life u.lived.life.stand)
    lost_in f = subst (λ (l : Life Body Asked Master.Reply). InHandIs is_service l)
        (sym (Alike.lost_same is_service (speech_of m) m.services.exchange.speech led.alike acknowledged more passed u.lived.spot u.news f.sent u.lived.life u.lived.life.stand))
        (Alike.lost_is is_service (speech_of m) m.services.exchange.speech led.alike acknowledged more passed u.lived.spot u.news f.sent u.lived.life u.lived.life.stand next_in)

  -- ALL SLAVES
  abbrev pub turns_of : (ms : List PlanMember) (us : List Under) → AllLed ms → AllUnder more passed lens made ds ms us → List (Turn Asked)
  turns_of [] [] led xs = []
  turns_of [] (u ∷ us) led xs = []
  turns_of (m ∷ ms) [] led xs = []
  turns_of (m ∷ ms) (u ∷ us) led xs = record { pick = xs.0.next.pick; share = u.share; news = u.news } ∷ turns_of ms us led.1 xs.1

  pub all_turn : (ms : List PlanMember) (us : List Under) (led : AllLed ms) (xs : AllUnder more passed lens made ds ms us) → AllTurn more passed lens made ds ms (turns_of ms us led xs)
  all_turn [] [] led xs = tt
  all_turn [] (u ∷ us) led xs = absurd xs
  all_turn (m ∷ ms) [] led xs = absurd xs
  all_turn (m ∷ ms) (u ∷ us) led xs = (turns_for m u led.0 xs.0, all_turn ms us led.1 xs.1)

  -- which of them a lost frame carried, where these are given up
  abbrev pub carried : Bool → Fate → List Under → List Bool
  carried gives Pass us = []
  carried gives (Lost after) [] = []
  carried gives (Lost after) (u ∷ us) = (gives && u.share.under) ∷ carried gives (Lost after) us

  -- so they are led on, and are what the master shows
  pub record LedOn (gives : Bool) (recover : ℕ) (f : Frame Body) (fate : Fate) (ms : List PlanMember) (us : List Under) (ns : List PlanMember) : Type 0 where
    pub led : AllLed ns
    pub same : AllSame ms ns
    pub shown : AllBehind more passed gives recover made f fate ms us ns

  pub led_back : (gives : Bool) (recover : ℕ) (f : Frame Body) (place : ℕ) (ms : List PlanMember) (us : List Under) (es : List Raw.Datagram) (led : AllLed ms) (xs : AllUnder more passed lens made ds ms us) →
      LedOn gives recover f Pass ms us (behind_frame more passed made f Pass place ms (turns_of ms us led xs) es)
  led_back gives recover f place [] [] es led xs = record { led = tt; same = tt; shown = tt }
  led_back gives recover f place [] (u ∷ us) es led xs = absurd xs
  led_back gives recover f place (m ∷ ms) [] es led xs = absurd xs
  led_back gives recover f place (m ∷ ms) (u ∷ us) es led xs =
      let rest = led_back gives recover f (suc place) ms us (datagrams_after m.node.registers es) led.1 xs.1 in
      let same = back_life m u led.0 xs.0 f in
      record {
        led = (record { alike = led.0.alike; lawful = led.0.lawful; last = led.0.last; in_hand = subst (λ (l : Life Body Asked Master.Reply). InHandIs is_service l) (sym same) (back_in m u led.0 xs.0 f); forgets = led.0.forgets }, rest.led);
        same = (record { services = refl; clearing = refl; plan = refl; spot = refl; first = refl; pace = refl }, rest.same);
        shown = ((λ i. record { spot = sym xs.0.next.spot i; life = same i }), rest.shown);
      }

  -- one that is given up, or isn't
  led_given : (b : Bool) (recover : ℕ) (n : PlanMember) → IsLed n → IsLed (if b then record n { life = gives_up recover n.spot made n.life } else n)
  led_given true recover n k = record { alike = k.alike; lawful = k.lawful; last = k.last; in_hand = k.in_hand; forgets = k.forgets }
  led_given false recover n k = k

  same_given : (b : Bool) (recover : ℕ) (m n : PlanMember) → IsSame m n → IsSame m (if b then record n { life = gives_up recover n.spot made n.life } else n)
  same_given true recover m n k = record { services = k.services; clearing = k.clearing; plan = k.plan; spot = k.spot; first = k.first; pace = k.pace }
  same_given false recover m n k = k

  shown_given : (b : Bool) (recover : ℕ) (n : PlanMember) (spot : Spot) (l : Life Body Asked Master.Reply) → n.spot ≡ spot → n.life ≡ l →
      lived_of (if b then record n { life = gives_up recover n.spot made n.life } else n) ≡ record { spot = spot; life = given_where b recover spot made l }
  shown_given true recover n spot l e f = λ i. record { spot = e i; life = gives_up recover (e i) made (f i) }
  shown_given false recover n spot l e f = λ i. record { spot = e i; life = f i }

  pub led_lost : (gives : Bool) (recover after : ℕ) (f : Frame Body) (place : ℕ) (ms : List PlanMember) (us : List Under) (es : List Raw.Datagram) (led : AllLed ms) (xs : AllUnder more passed lens made ds ms us) →
      LedOn gives recover f (Lost after) ms us (given_up recover made (behind_frame more passed made f (Lost after) place ms (turns_of ms us led xs) es) (carried gives (Lost after) us))
  led_lost gives recover after f place [] [] es led xs = record { led = tt; same = tt; shown = tt }
  led_lost gives recover after f place [] (u ∷ us) es led xs = absurd xs
  led_lost gives recover after f place (m ∷ ms) [] es led xs = absurd xs
  led_lost gives recover after f place (m ∷ ms) (u ∷ us) es led xs =
      let rest = led_lost gives recover after f (suc place) ms us (datagrams_after m.node.registers es) led.1 xs.1 in
      let same = lost_life m u led.0 xs.0 f in
      let n : PlanMember = record m {
        life = life_by more passed made f (fate_seen (Lost after)) m.services m.spot m.life (turn_of m u led.0 xs.0);
        node = turned m.services.running m.pace made (met (is_met_at place (Lost after)) m.node es);
      } in
      let mine : IsLed n = record { alike = led.0.alike; lawful = led.0.lawful; last = led.0.last; in_hand = subst (λ (l : Life Body Asked Master.Reply). InHandIs is_service l) (sym same) (lost_in m u led.0 xs.0 f); forgets = led.0.forgets } in
      record {
        led = (led_given (gives && u.share.under) recover n mine, rest.led);
        same = (same_given (gives && u.share.under) recover m n (record { services = refl; clearing = refl; plan = refl; spot = refl; first = refl; pace = refl }), rest.same);
        shown = (shown_given (gives && u.share.under) recover n u.lived.spot (life_lost (speech_of m) acknowledged more passed u.lived.spot u.news f.sent u.lived.life u.lived.life.stand) (sym xs.0.next.spot) same, rest.shown);
      }

-- THE RING GOES ON with its master
module _ (more : Body → Bool) (passed : Asked → Bool) (lens : ℕ → Lens) (ss : List SlaveSpec) (gives : Bool) (recover : ℕ) (fs : List (Frame Body)) (ring : RingState (Node Serving)) (octets : List ℕ) (ds : List Raw.Datagram) (is_frame : IsFrame octets (chained ds)) (ms : List PlanMember) (us : List Under)
    (r : IsRing lens step (FitsPlan ss) fs ring ms) (led : AllLed ms) (xs : AllUnder more passed lens (length fs) ds ms us) where
  abbrev f : Frame Body
  f = frame_at lens ring octets

  abbrev ns : List PlanMember
  ns = behind_frame more passed (length fs) f (fate_at ring.lose ring.number) 0 ms (turns_of more passed lens (length fs) ds ms us led xs) (chained ds)

  on : IsRing lens step (FitsPlan ss) (fs ++ f ∷ []) (ring_behind node_passed step ring octets) ns
  on = Members.ring_on lens step (FitsPlan ss) more passed fs ring octets ds is_frame ms (turns_of more passed lens (length fs) ds ms us led xs) r (all_turn more passed lens (length fs) ds ms us led xs)

  pub goes_on : GoesOn more passed lens ss gives recover fs ring octets ms us
  goes_on = go (fate_at ring.lose ring.number) on
    where
      go : (fate : Fate) → IsRing lens step (FitsPlan ss) (fs ++ frame_at lens ring octets ∷ []) (ring_behind node_passed step ring octets)
          (behind_frame more passed (length fs) (frame_at lens ring octets) fate 0 ms (turns_of more passed lens (length fs) ds ms us led xs) (chained ds)) →
          OnAs more passed lens ss gives recover fs ring octets ms us fate
      go Pass on = let x = led_back more passed lens (length fs) ds gives recover (frame_at lens ring octets) 0 ms us (chained ds) led xs in record { behind = _; lives = on; led = x.led; same = x.same; shown = x.shown }
      go (Lost after) on =
          let x = led_lost more passed lens (length fs) ds gives recover after (frame_at lens ring octets) 0 ms us (chained ds) led xs in
          record {
            behind = _;
            lives = Begins.ring_given lens step (FitsPlan ss) (fs ++ frame_at lens ring octets ∷ []) recover (length fs) (ring_behind node_passed step ring octets)
                (behind_frame more passed (length fs) (frame_at lens ring octets) (Lost after) 0 ms (turns_of more passed lens (length fs) ds ms us led xs) (chained ds)) (carried more passed lens (length fs) ds gives (Lost after) us) on;
            led = x.led;
            same = x.same;
            shown = x.shown;
          }

-- it begins with a master to which nothing has happened
pub led_first : ((p : Profile) → IsProfile p → (boot : Bool) (lens : ℕ → Lens) → IsLawful (asked p boot lens).exchange) → (lens : ℕ → Lens) (place : ℕ) (ss : List SlaveSpec) (paces : List ℕ) → All IsSlave ss → AllMacs ss → AllLed (new_members lens place ss paces)
led_first law lens place [] paces slaves macs = tt
led_first law lens place (s ∷ ss) [] slaves macs = tt
led_first law lens place (s ∷ ss) (pace ∷ paces) slaves macs =
    let here = All-head IsSlave s ss slaves in
    let profile : IsProfile (profile_of s) = record { out_least = here.out_least; out_most = here.out_most; back_least = here.in_least; back_most = here.in_most; mac = macs.0 } in (
      record { alike = alike (profile_of s) s.boot lens; lawful = law (profile_of s) profile s.boot lens; last = refl; in_hand = tt; forgets = forgets_as (profile_of s) s.boot lens },
      led_first law lens (suc place) ss paces (All-tail IsSlave s ss slaves) macs.1,
    )
