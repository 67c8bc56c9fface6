-- What a master shows of its slaves behind a frame.
use Rattle.std.proofs.Common.{◌≡◌, ℕ, zero, suc, ◌+◌, ◌≤◌, Bool, true, false, List, [], ◌∷◌, None, refl, sym, ap, ◌∙◌, subst, length}
use Rattle.std.specs.Prelude.{map, All, not, nat_lt, if◌then◌else◌}
use Rattle.life_runs.specs.of_frame_view.View.{Lens}
use Rattle.life_runs.specs.of_frame_view.Seen.{seen}
use Rattle.life_runs.specs.of_frame_view.Frames.{Share, AreApart}
use Rattle.life_runs.specs.of_frame_view.Shares.{Lived, AllBoth, AllThree, IsElsewhere, AreDistinct, lived_back, lived_lost}
use Rattle.life_runs.specs.of_life_model.Lives.{Spot}
use Rattle.life_runs.specs.Led.{Leads, Turn, Exchanged, speech_at, life_behind, led_behind, missed_behind}
use Rattle.life_runs.specs.of_master_duty.Reply.{Reply}
use Rattle.life_runs.specs.of_master_hand.Laying.{scripted}
use Rattle.life_runs.specs.of_master_hand.Spoken.{Asked, acknowledged, is_followed, is_passed}
use Rattle.life_runs.specs.of_master_hand.declared.hand.InHand.{InHand}
use Rattle.life_runs.specs.of_master_side.declared.hand.Hand.{Ghosts}
use Rattle.life_runs.specs.of_master_tour.Goes.{is_opened, holds_at, opened_behind}
use Rattle.life_runs.specs.of_master_tour.Stands.{StandShows, is_opening}
use Rattle.life_runs.specs.of_master_tour.Walks.{EachPair}
use Rattle.life_runs.specs.of_master_tour.declared.stop.Stand.{Stand}
use Rattle.life_runs.specs.of_master_tour.declared.stop.Stop.{Stop}
use Rattle.life_runs.proofs.of_master_tour.Unpassed.{unpassed_back, unpassed_lost}
use Rattle.life_runs.specs.of_segment_ring.declared.wire.Fate.{Fate}
use Rattle.life_runs.specs.of_segment_ring.declared.wire.Fate.TheVariants.{Pass, Lost}
use Rattle.master_node.specs.Rooms.{FitAgain}
use Rattle.master_node.proofs.Fits.{again_on, stays_sends}
use Rattle.master_node.specs.declared.node.MasterNode.{MasterNode}
use Rattle.master_node.specs.Kept.{StopStays, NodeKept}
use Rattle.master_node.specs.Shows.{WaitsNone, lived_of, turned_of, is_live_lead, is_opening_lead, side_shows, IsLived, IsLead, IsUnder, ComeAgain, GoesOn, GoesUnder, MasterShows}
use Rattle.master_node.proofs.Goings.{map_length, ahead_behind, ahead_again, comes_again}
use Rattle.master_node.proofs.Kepts.{lives_kept}
use Rattle.master_node.proofs.Lists.{each_length, both_each, both_holds, both_length}
use Rattle.master_node.proofs.Sents.{each_holds}
use Rattle.master_node.proofs.Toureds.{opened_same}

module _ (lens : ℕ → Lens) (recover : ℕ) where
  -- its stand tells whether it is brought up or opened anew
  stand_opens : {G : Ghosts InHand} (a : Lived Asked Reply) (t : Stop InHand G) → IsLived lens recover a t → is_opened t.stand ≡ is_opening a.life.stand
  stand_opens a t v = go t.stand v.shown.stood
    where
      go : (z : Stand) → StandShows (side_shows lens recover t a.spot) a.spot z a.life → is_opened z ≡ is_opening a.life.stand
      go (Stand.Opening up) s = sym (ap is_opening s.stand)
      go Stand.Open s = sym (ap is_opening s.0)
      go Stand.Gone s = sym (ap is_opening s)

  lives_open : {G : Ghosts InHand} (leads : List Leads) (ts : List (Stop InHand G)) → AllBoth (λ a t. IsLived lens recover a t) (map lived_of leads) ts → (k : ℕ) → holds_at (λ s. is_opened s.stand) ts k ≡ holds_at is_opening_lead leads k
  lives_open [] [] l k = refl
  lives_open [] (t ∷ ts) l k = absurd l
  lives_open (a ∷ leads) [] l k = absurd l
  lives_open (a ∷ leads) (t ∷ ts) l zero = stand_opens a.lived t l.0
  lives_open (a ∷ leads) (t ∷ ts) l (suc k) = lives_open leads ts l.1 k

  -- how many there are, and have ended their first bring-up, by their lives
  lives_long : {G : Ghosts InHand} (leads : List Leads) (ts : List (Stop InHand G)) → AllBoth (λ a t. IsLived lens recover a t) (map lived_of leads) ts → length ts ≡ length leads
  lives_long leads ts l = sym (both_length (λ a t. IsLived lens recover a t) (map lived_of leads) ts l) ∙ map_length lived_of leads

  pub behind_long : {G : Ghosts InHand} (leads : List Leads) (ts rs : List (Stop InHand G)) → EachPair (λ s t. StopStays s t) ts rs → AllBoth (λ a t. IsLived lens recover a t) (map lived_of leads) rs → length ts ≡ length leads
  behind_long leads ts rs e l = each_length (λ s t. StopStays s t) ts rs e ∙ lives_long leads rs l

  pub opens_behind : {G : Ghosts InHand} (leads : List Leads) (opened : ℕ) (ts rs : List (Stop InHand G)) → EachPair (λ s t. StopStays s t) ts rs → AllBoth (λ a t. IsLived lens recover a t) (map lived_of leads) rs →
      opened_behind (λ s. is_opened s.stand) opened ts ≡ opened_behind is_opening_lead opened leads
  opens_behind leads opened ts rs e l =
      opened_same (λ s. is_opened s.stand) is_opening_lead opened ts leads (behind_long leads ts rs e l)
      (λ k. sym (each_holds (λ s t. StopStays s t) (λ s. is_opened s.stand) (λ s t p. ap is_opened p.stand) ts rs e k) ∙ lives_open leads rs l k)

module _ (lens : ℕ → Lens) (recover retry : ℕ) where
  -- a slave stays what it is where its master only tells
  pub lead_kept : {G : Ghosts InHand} (a : Leads) (s t : Stop InHand G) → IsLead lens recover a s → StopStays s t → IsLead lens recover a t
  lead_kept a s t l k = record {
    lives = lives_kept lens recover s.side.hand.laying.number a.lived s t k l.lives;
    script = k.side.script ∙ l.script;
    number = k.side.number ∙ l.number;
    short = l.short;
    unpassed = k.side.passing ∙ l.unpassed;
    own = l.own;
  }

  -- behind a frame it is where it was in the ring, and no mail is passed on to it
  behind_spot : (gives : Bool) (made : ℕ) (f : Exchanged) (fate : Fate) (l : Lived Asked Reply) (share : Share) → (life_behind lens recover retry gives made f fate l share).spot ≡ l.spot
  behind_spot gives made f Pass l share = refl
  behind_spot gives made f (Lost after) l share = refl

  behind_own : (gives : Bool) (made : ℕ) (f : Exchanged) (fate : Fate) (l : Lived Asked Reply) (share : Share) → l.life.era.passing ≡ None → (life_behind lens recover retry gives made f fate l share).life.era.passing ≡ None
  behind_own gives made f Pass l share e = unpassed_back (speech_at lens l.spot) acknowledged is_followed is_passed made (seen lens f.back) l share [] e
  behind_own gives made f (Lost after) l share e = unpassed_lost (speech_at lens l.spot) acknowledged is_followed is_passed gives recover made (seen lens f.sent) l share [] e

  -- its life behind one that came back, and behind a lost one
  pub life_back_is : {G : Ghosts InHand} (gives : Bool) (made : ℕ) (f : Exchanged) (octets back : List ℕ) (u : Turn) (s : Stop InHand G) → f.fate ≡ Pass → f.back ≡ back → IsUnder lens recover octets u s →
      lived_back (speech_at lens u.lived.spot) acknowledged is_followed is_passed made (seen lens back) u.lived (record { under = s.under; at = s.at }) [] ≡ life_behind lens recover retry gives made f f.fate u.lived u.share
  life_back_is gives made f octets back u s is b i =
      sym (ap (λ (z : Fate). life_behind lens recover retry gives made f z u.lived u.share) is
      ∙ (λ j. lived_back (speech_at lens u.lived.spot) acknowledged is_followed is_passed made (seen lens (b j)) u.lived (record { under = i.under j; at = i.at j }) []))

  pub life_lost_is : {G : Ghosts InHand} (gives gives' : Bool) (made : ℕ) (f : Exchanged) (octets : List ℕ) (after : ℕ) (u : Turn) (s : Stop InHand G) → f.fate ≡ Lost after → f.sent ≡ octets → gives ≡ gives' → IsUnder lens recover octets u s →
      lived_lost (speech_at lens u.lived.spot) acknowledged is_followed is_passed gives' recover made (seen lens octets) u.lived (record { under = s.under; at = s.at }) [] ≡ life_behind lens recover retry gives made f f.fate u.lived u.share
  life_lost_is gives gives' made f octets after u s is b g i =
      sym (ap (λ (z : Fate). life_behind lens recover retry gives made f z u.lived u.share) is
      ∙ (λ j. lived_lost (speech_at lens u.lived.spot) acknowledged is_followed is_passed (g j) recover made (seen lens (b j)) u.lived (record { under = i.under j; at = i.at j }) []))

  module _ (gives : Bool) (made : ℕ) (f : Exchanged) where
    -- THE SLAVE BEHIND THE FRAME
    pub lead_behind : {G : Ghosts InHand} (octets : List ℕ) (u : Turn) (s t : Stop InHand G) (b : Lived Asked Reply) → IsUnder lens recover octets u s → IsLived lens recover b t → b ≡ life_behind lens recover retry gives made f f.fate u.lived u.share →
        scripted t.side.hand.laying ≡ scripted s.side.hand.laying → (s.side.passing ≡ None → t.side.passing ≡ None) → IsLead lens recover (led_behind lens recover retry gives made f u) t
    lead_behind octets u s t b i v e k p = record {
      lives = subst (λ z. IsLived lens recover z t) e v;
      script = ap (λ z. z.script) k ∙ i.lead.script;
      number = ap (λ z. z.number) k ∙ i.lead.number;
      short = i.lead.short;
      unpassed = p i.lead.unpassed;
      own = behind_own gives made f f.fate u.lived u.share i.lead.own;
    }

    -- all of them
    pub all_led : {G : Ghosts InHand} (octets : List ℕ) (T : Lived Asked Reply → Stop InHand G → Stop InHand G → Type 0) (E : Stop InHand G → Stop InHand G → Type 0)
        (us : List Turn) (ss ts : List (Stop InHand G)) → AllBoth (λ u s. IsUnder lens recover octets u s) us ss → AllThree T (map turned_of us) ss ts → EachPair E ss ts →
        ((u : Turn) (s t : Stop InHand G) → IsUnder lens recover octets u s → T u.lived s t → E s t → IsLead lens recover (led_behind lens recover retry gives made f u) t) → AllBoth (λ a t. IsLead lens recover a t) (map (led_behind lens recover retry gives made f) us) ts
    all_led octets T E [] [] [] i t e h = tt
    all_led octets T E [] [] (y ∷ ts) i t e h = absurd e
    all_led octets T E [] (s ∷ ss) ts i t e h = absurd i
    all_led octets T E (u ∷ us) [] ts i t e h = absurd i
    all_led octets T E (u ∷ us) (s ∷ ss) [] i t e h = absurd e
    all_led octets T E (u ∷ us) (s ∷ ss) (y ∷ ts) i t e h = (h u s y i.0 t.0 e.0, all_led octets T E us ss ts i.1 t.1 e.1 h)

    elsewhere_on : (spot : Spot) (us : List Turn) → IsElsewhere spot (map turned_of us) → IsElsewhere spot (map lived_of (map (led_behind lens recover retry gives made f) us))
    elsewhere_on spot [] e = tt
    elsewhere_on spot (u ∷ us) e = (subst (AreApart spot) (sym (behind_spot gives made f f.fate u.lived u.share)) e.0, elsewhere_on spot us e.1)

    distinct_on : (us : List Turn) → AreDistinct (map turned_of us) → AreDistinct (map lived_of (map (led_behind lens recover retry gives made f) us))
    distinct_on [] d = tt
    distinct_on (u ∷ us) d = (
      subst (λ (z : Spot). IsElsewhere z (map lived_of (map (led_behind lens recover retry gives made f) us))) (sym (behind_spot gives made f f.fate u.lived u.share)) (elsewhere_on u.lived.spot us d.0),
      distinct_on us d.1,
    )

    -- those that are opened, by their stops
    opens_at : {G : Ghosts InHand} (us : List Turn) (ts : List (Stop InHand G)) → AllBoth (λ a t. IsLead lens recover a t) (map (led_behind lens recover retry gives made f) us) ts → (k : ℕ) →
        holds_at (λ s. is_opened s.stand) ts k ≡ holds_at is_opening_lead (map (led_behind lens recover retry gives made f) us) k
    opens_at us ts l k = both_holds (λ a t. IsLead lens recover a t) is_opening_lead (λ s. is_opened s.stand) (λ a s v. stand_opens lens recover a.lived s v.lives) (map (led_behind lens recover retry gives made f) us) ts l k

    as_long : {G : Ghosts InHand} (us : List Turn) (ts : List (Stop InHand G)) → AllBoth (λ a t. IsLead lens recover a t) (map (led_behind lens recover retry gives made f) us) ts → length ts ≡ length us
    as_long us ts l = sym (both_length (λ a t. IsLead lens recover a t) (map (led_behind lens recover retry gives made f) us) ts l) ∙ map_length (led_behind lens recover retry gives made f) us

    -- where the tour goes on where the same slaves don't come again
    pub goes_behind : {G : Ghosts InHand} (again : Bool) (visit visit' : List ℕ) (opened opened' : ℕ) (us : List Turn) (ts : List (Stop InHand G)) → again ≡ false → opened' ≡ opened_behind (λ s. is_opened s.stand) opened ts →
        AllBoth (λ a t. IsLead lens recover a t) (map (led_behind lens recover retry gives made f) us) ts → GoesUnder visit opened us → GoesOn again visit' opened' (map (led_behind lens recover retry gives made f) us)
    goes_behind again visit visit' opened opened' us ts n e l g = record {
      ahead = λ k a b. ahead_behind lens recover retry gives made f (λ s. is_opened s.stand) opened visit us ts g (as_long us ts l) (opens_at us ts l) k (subst (λ z. z ≤ k) e a) b;
      comes = λ t. absurd (let z = sym t ∙ n in cc);
    }

    -- THE MASTER BEHIND THE FRAME, which has told what that brought
    pub behind_shows : (m n : MasterNode) (missed : ℕ) (us : List Turn) → NodeKept m n → AllBoth (λ a t. IsLead lens recover a t) (map (led_behind lens recover retry gives made f) us) m.tour.stops.items → AreDistinct (map turned_of us) → All WaitsNone m.posts.items →
        GoesOn m.tour.again m.tour.visit.items m.tour.opened (map (led_behind lens recover retry gives made f) us) → m.tour.missed ≡ missed → m.tour.retry ≡ retry → (m.tour.again ≡ true → FitAgain m.tour.visit.items m.tour.stops.items) →
        MasterShows lens recover retry n missed (map (led_behind lens recover retry gives made f) us)
    behind_shows m n missed us k l d q g a b w = record {
      each = both_each (λ a t. IsLead lens recover a t) (λ s t. StopStays s t) (λ a t. IsLead lens recover a t) (λ a s t v w. lead_kept a s t v w) (map (led_behind lens recover retry gives made f) us) m.tour.stops.items n.tour.stops.items l k.each;
      distinct = distinct_on us d;
      quiet = k.quiet q;
      goes = subst (λ z. GoesOn z n.tour.visit.items n.tour.opened (map (led_behind lens recover retry gives made f) us)) (sym k.tour.again)
          (subst (λ z. GoesOn m.tour.again z.items n.tour.opened (map (led_behind lens recover retry gives made f) us)) (sym k.tour.visit)
          (subst (λ z. GoesOn m.tour.again m.tour.visit.items z (map (led_behind lens recover retry gives made f) us)) (sym k.tour.opened) g));
      missed_is = k.tour.missed ∙ a;
      retry_is = k.tour.retry ∙ b;
      again = λ e. subst (λ z. FitAgain z.items n.tour.stops.items) (sym k.tour.visit) (again_on (λ s t. StopStays s t) (λ s t z. stays_sends s t z) m.tour.stops.items n.tour.stops.items m.tour.visit.items k.each (w (sym k.tour.again ∙ e)));
    }

  -- where the tour goes on behind a lost frame: the same slaves come again, or were given up
  pub goes_lost : {G : Ghosts InHand} (made : ℕ) (f : Exchanged) (after : ℕ) (comes again : Bool) (visit visit' : List ℕ) (opened opened' : ℕ) (us : List Turn) (ts : List (Stop InHand G)) → f.fate ≡ Lost after → again ≡ comes → visit' ≡ visit →
      opened' ≡ (if comes then opened else opened_behind (λ s. is_opened s.stand) opened ts) → AllBoth (λ a t. IsLead lens recover a t) (map (led_behind lens recover retry (not comes) made f) us) ts → GoesUnder visit opened us →
      GoesOn again visit' opened' (map (led_behind lens recover retry (not comes) made f) us)
  goes_lost made f after true again visit visit' opened opened' us ts is n v e l g = record {
    ahead = λ k a b. ahead_again lens recover retry made f after is opened visit us g k (subst (λ z. z ≤ k) e a) b;
    comes = λ t. subst (λ z. ComeAgain is_live_lead z opened' (map (led_behind lens recover retry false made f) us)) (sym v)
        (subst (λ z. ComeAgain is_live_lead visit z (map (led_behind lens recover retry false made f) us)) (sym e) (comes_again lens recover retry made f after is opened visit us g));
  }
  goes_lost made f after false again visit visit' opened opened' us ts is n v e l g = goes_behind true made f again visit visit' opened opened' us ts n e l g

  -- how many frames are lost in a row then
  pub missed_is : (f : Exchanged) (after missed was of : ℕ) → f.fate ≡ Lost after → was ≡ missed → of ≡ retry → (if nat_lt was of then was + 1 else 0) ≡ missed_behind lens recover retry f.fate missed
  missed_is f after missed was of is a b = (λ i. if nat_lt (a i) (b i) then a i + 1 else 0) ∙ ap (λ (z : Fate). missed_behind lens recover retry z missed) (sym is)
