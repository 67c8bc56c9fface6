-- A frame that a master leads, for the slaves as it is counted.
use Rattle.std.proofs.Common.{◌≡◌, ℕ, ◌-◌, ◌==◌, ◌&&◌, Bool, true, false, List, [], ◌∷◌, map, refl, sym, ap, ◌∙◌, cond, if◌then◌else◌, inl, inr}
use Rattle.std.specs.Prelude.{nat_le}
use Rattle.life_runs.specs.of_datagrams.Datagram as Raw
use Rattle.life_runs.specs.of_datagrams.Frame.{IsFrame, chained}
use Rattle.life_runs.specs.of_frame_view.Seen.{seen, datagrams_seen}
use Rattle.life_runs.specs.of_frame_view.View.{Lens, datagram_seen, address_of, place_of}
use Rattle.life_runs.proofs.of_frame_view.Octets.{seen_chained}
use Rattle.life_runs.specs.of_frame_view.Frames.{FrameFor, AllNotFor, IsNotFor}
use Rattle.life_runs.specs.of_frame_view.Shares.{Asked as Asks, IsNext, came_at, given_where}
use Rattle.life_runs.specs.of_life_model.Lives.{Spot, Life, life_next, life_lost, life_back}
use Rattle.life_runs.specs.of_life_model.Own.{own}
use Rattle.life_runs.specs.Led.{Exchanged, Leads, Turn, IsTurn, AllTurn, speech_at, is_passed, led_behind, life_behind}
use Rattle.life_runs.specs.of_link_mails.Body.{Body}
use Rattle.life_runs.specs.of_master_duty.Reply.{Reply}
use Rattle.life_runs.specs.of_master_hand.Spoken.{Asked, acknowledged, is_followed}
use Rattle.life_runs.specs.of_segment_model.Record.{is_for}
use Rattle.life_runs.specs.of_segment_model.Slaves.{Datagram, Address}
use Rattle.life_runs.specs.of_segment_ring.declared.wire.Fate.TheVariants.{Pass, Lost}
use Rattle.run_frames.specs.Clocks.{Clocked}
use Rattle.run_frames.specs.Goes.{Under, IsUnder, AllUnder, all_lost, all_back, given_if, lost_life, back_life}
use Rattle.run_frames.specs.Led.{AreLed, under_of, unders}

-- a datagram of another slave isn't to this station
no_station : (station adp : ℕ) → is_for station (place_of adp) ≡ false
no_station station adp = by (adp == 0) (nat_le 32768 adp)
  where
    by : (b c : Bool) → is_for station (if b then Address.Place 0 else if c then Address.Place (65536 - adp) else Address.Passed) ≡ false
    by true c = refl
    by false true = refl
    by false false = refl

by_command : (lens : ℕ → Lens) (spot : Spot) (d : Raw.Datagram) → IsNotFor spot d → is_for spot.station (datagram_seen lens d).address ≡ false
by_command lens spot d (IsNotFor.station other is apart zero') = elim is.command [
  | inl e ↦ ap (λ c. is_for spot.station (address_of c d.head.adp)) e ∙ ap (λ z. z == spot.station) is.adp ∙ apart
  | inr e ↦ ap (λ c. is_for spot.station (address_of c d.head.adp)) e ∙ ap (λ z. z == spot.station) is.adp ∙ apart
]
by_command lens spot d (IsNotFor.place other is apart few) = elim is.command [
  | inl e ↦ ap (λ c. is_for spot.station (address_of c d.head.adp)) e ∙ no_station spot.station d.head.adp
  | inr e ↦ ap (λ c. is_for spot.station (address_of c d.head.adp)) e ∙ no_station spot.station d.head.adp
]

none_own : (lens : ℕ → Lens) (spot : Spot) (ds : List Raw.Datagram) → AllNotFor spot ds → own spot.station (datagrams_seen lens ds) ≡ []
none_own lens spot [] n = refl
none_own lens spot (d ∷ ds) n = ap (λ b. cond b (datagram_seen lens d ∷ own spot.station (datagrams_seen lens ds)) (own spot.station (datagrams_seen lens ds))) (by_command lens spot d n.0) ∙ none_own lens spot ds n.1

-- what a law of views says of octets
abbrev pub SeenIs : Type 0
SeenIs = (lens : ℕ → Lens) (octets : List ℕ) (ds : List Raw.Datagram) → IsFrame octets ds → seen lens octets ≡ map (datagram_seen lens) ds

module _ (seen_is : SeenIs) (lens : ℕ → Lens) (recover retry made : ℕ) (f : Exchanged) where
  abbrev Slave : Type 0
  Slave = Clocked Body Asked Reply

  -- ONE SLAVE, with its share of the frame
  pub one_under : (ds : List Raw.Datagram) (c : Slave) (a : Leads) (u : Turn) (v : Under Body Asked Reply) → c.spot ≡ a.lived.spot → c.life ≡ a.lived.life → seen lens f.sent ≡ datagrams_seen lens ds →
      IsNext (speech_at lens a.lived.spot) acknowledged is_followed is_passed made a.lived u.lived → Asks lens ds u.lived u.share → v.life ≡ u.lived.life → v.under ≡ u.share.under → IsUnder (speech_at lens) acknowledged is_followed is_passed made (seen lens f.sent) c v
  one_under ds c a u v spot life view next asked same under = record {
    pick = next.pick;
    life = same ∙ next.life ∙ ap (λ s. life_next (speech_at lens s) acknowledged is_followed is_passed made a.lived.life a.lived.life.stand next.pick) (sym spot)
        ∙ ap (λ l. life_next (speech_at lens c.spot) acknowledged is_followed is_passed made l l.stand next.pick) (sym life);
    none = λ out. ap (own c.spot.station) view ∙ ap (λ s. own s.station (datagrams_seen lens ds)) (spot ∙ sym next.spot) ∙ none_of asked.has (sym under ∙ out);
  }
    where
      none_of : FrameFor lens u.lived.spot u.lived.life.stand u.share ds → u.share.under ≡ false → own u.lived.spot.station (datagrams_seen lens ds) ≡ []
      none_of (FrameFor.none not_under n) out = none_own lens u.lived.spot ds n
      none_of (FrameFor.one is d has gram) out = absurd (cc)

  -- ALL OF THEM
  pub all_under : (ds : List Raw.Datagram) (back : List (Datagram Body)) (cs : List Slave) (as' : List Leads) (us : List Turn) → AreLed as' cs → seen lens f.sent ≡ datagrams_seen lens ds → AllTurn lens made ds as' us →
      AllUnder (speech_at lens) acknowledged is_followed is_passed made (seen lens f.sent) cs (unders back us)
  all_under ds back [] [] [] l view t = tt
  all_under ds back [] [] (u ∷ us) l view t = absurd t
  all_under ds back [] (a ∷ as') us l view t = absurd l
  all_under ds back (c ∷ cs) [] us l view t = absurd l
  all_under ds back (c ∷ cs) (a ∷ as') [] l view t = absurd t
  all_under ds back (c ∷ cs) (a ∷ as') (u ∷ us) l view t = (one_under ds c a u (under_of back u) l.0 l.1 view t.0.next t.0.asked refl refl, all_under ds back cs as' us l.2 view t.1)

  -- behind a lost frame
  pub given_same : {Q R : Type 0} (b : Bool) (spot : Spot) (l : Life Body Q R) → given_if b recover spot made l ≡ given_where b recover spot made l
  given_same true spot l = refl
  given_same false spot l = refl

  one_lost : (gives : Bool) (after : ℕ) (ds : List Raw.Datagram) (back : List (Datagram Body)) (c : Slave) (a : Leads) (u : Turn) → c.spot ≡ a.lived.spot → IsTurn lens made ds a u → f.fate ≡ Lost after →
      (c.spot ≡ (led_behind lens recover retry gives made f u).lived.spot) × (lost_life (speech_at lens) acknowledged is_followed is_passed gives recover made (seen lens f.sent) c (under_of back u) ≡ (led_behind lens recover retry gives made f u).lived.life)
  one_lost gives after ds back c a u spot t fate =
      let here : c.spot ≡ u.lived.spot = spot ∙ sym t.next.spot in
      let now = ap (λ z. life_behind lens recover retry gives made f z u.lived u.share) fate in (
        here ∙ sym (ap (λ z. z.spot) now),
        ap (λ s. given_if (gives && u.share.under) recover s made (life_lost (speech_at lens s) acknowledged is_followed is_passed s [] (seen lens f.sent) u.lived.life u.lived.life.stand)) here
            ∙ given_same (gives && u.share.under) u.lived.spot (life_lost (speech_at lens u.lived.spot) acknowledged is_followed is_passed u.lived.spot [] (seen lens f.sent) u.lived.life u.lived.life.stand) ∙ sym (ap (λ z. z.life) now),
      )

  pub all_led_lost : (gives : Bool) (after : ℕ) (ds : List Raw.Datagram) (back : List (Datagram Body)) (cs : List Slave) (as' : List Leads) (us : List Turn) → AreLed as' cs → AllTurn lens made ds as' us → f.fate ≡ Lost after →
      AreLed (map (led_behind lens recover retry gives made f) us) (all_lost (speech_at lens) acknowledged is_followed is_passed gives recover made (seen lens f.sent) cs (unders back us))
  all_led_lost gives after ds back [] [] [] l t fate = tt
  all_led_lost gives after ds back [] [] (u ∷ us) l t fate = absurd t
  all_led_lost gives after ds back [] (a ∷ as') us l t fate = absurd l
  all_led_lost gives after ds back (c ∷ cs) [] us l t fate = absurd l
  all_led_lost gives after ds back (c ∷ cs) (a ∷ as') [] l t fate = absurd t
  all_led_lost gives after ds back (c ∷ cs) (a ∷ as') (u ∷ us) l t fate =
      let one = one_lost gives after ds back c a u l.0 t.0 fate in
      (one.0, one.1, all_led_lost gives after ds back cs as' us l.2 t.1 fate)

  -- behind one that came back
  one_back : (gives : Bool) (ds : List Raw.Datagram) (c : Slave) (a : Leads) (u : Turn) → c.spot ≡ a.lived.spot → IsTurn lens made ds a u → f.fate ≡ Pass →
      (c.spot ≡ (led_behind lens recover retry gives made f u).lived.spot) × (back_life (speech_at lens) acknowledged is_followed is_passed made (seen lens f.back) c (under_of (seen lens f.back) u) ≡ (led_behind lens recover retry gives made f u).lived.life)
  one_back gives ds c a u spot t fate =
      let here : c.spot ≡ u.lived.spot = spot ∙ sym t.next.spot in
      let now = ap (λ z. life_behind lens recover retry gives made f z u.lived u.share) fate in (
        here ∙ sym (ap (λ z. z.spot) now),
        ap (λ s. life_back (speech_at lens s) acknowledged is_followed is_passed made s [] (seen lens f.back) (came_at u.share.under u.share.at (seen lens f.back)) u.lived.life u.lived.life.stand) here ∙ sym (ap (λ z. z.life) now),
      )

  pub all_led_back : (gives : Bool) (ds : List Raw.Datagram) (cs : List Slave) (as' : List Leads) (us : List Turn) → AreLed as' cs → AllTurn lens made ds as' us → f.fate ≡ Pass →
      AreLed (map (led_behind lens recover retry gives made f) us) (all_back (speech_at lens) acknowledged is_followed is_passed made (seen lens f.back) cs (unders (seen lens f.back) us))
  all_led_back gives ds [] [] [] l t fate = tt
  all_led_back gives ds [] [] (u ∷ us) l t fate = absurd t
  all_led_back gives ds [] (a ∷ as') us l t fate = absurd l
  all_led_back gives ds (c ∷ cs) [] us l t fate = absurd l
  all_led_back gives ds (c ∷ cs) (a ∷ as') [] l t fate = absurd t
  all_led_back gives ds (c ∷ cs) (a ∷ as') (u ∷ us) l t fate =
      let one = one_back gives ds c a u l.0 t.0 fate in
      (one.0, one.1, all_led_back gives ds cs as' us l.2 t.1 fate)

  -- the frame as it is seen
  pub led_view : (ds : List Raw.Datagram) → IsFrame f.sent (chained ds) → seen lens f.sent ≡ datagrams_seen lens ds
  led_view ds is = seen_is lens f.sent (chained ds) is ∙ seen_chained lens ds
