-- Slaves that no frame carried yet are in their first bring-up, and stay there.
use Rattle.std.proofs.Common.{◌≡◌, ℕ, zero, suc, ◌<◌, ◌≤◌, ◌==◌, ◌&&◌, Bool, true, false, Option, Some, None, List, [], ◌∷◌, map, refl, sym, ap, ◌∙◌, subst, arith, if◌then◌else◌, eqb-true}
use Rattle.std.specs.Prelude.{nat_lt}
use Rattle.std.proofs.lemmas.Bool.{ltb-false}
use Rattle.run_promises.specs.of_datagrams.Datagram as Raw
use Rattle.run_promises.specs.of_exchange_model.Exchange.{Speech}
use Rattle.seen_slaves.specs.of_frame_view.Seen.{seen}
use Rattle.seen_slaves.specs.of_frame_view.View.{Lens}
use Rattle.seen_slaves.specs.of_frame_view.Shares.{came_at, given_where}
use Rattle.run_promises.specs.of_life_model.Lives.{Spot, Stand, Life, life_next, life_back, life_lost}
use Rattle.run_promises.specs.of_life_runs.Led.{Exchanged, Leads, Turn, IsTurn, AllTurn, speech_at, is_passed, led_behind, life_behind}
use Rattle.run_promises.specs.of_link_mails.Body.{Body}
use Rattle.seen_slaves.specs.of_master_duty.Reply.{Reply}
use Rattle.seen_slaves.specs.of_master_hand.Spoken.{Asked, acknowledged, is_followed}
use Rattle.run_promises.specs.of_master_node.Shows.{is_opening_lead}
use Rattle.run_promises.specs.of_master_tour.Goes.{holds_at}
use Rattle.run_promises.specs.of_master_tour.Stands.{is_opening}
use Rattle.run_promises.specs.of_segment_model.Slaves.{Datagram}
use Rattle.run_promises.specs.of_segment_ring.declared.wire.Fate.{Fate}
use Rattle.run_promises.specs.of_segment_ring.declared.wire.Fate.TheVariants.{Pass, Lost}
use Rattle.seen_slaves.specs.of_run_frames.Clocks.{Clocked}
use Rattle.seen_slaves.specs.of_run_frames.Orders.{is_in}
use Rattle.seen_slaves.specs.of_run_frames.Tours.{VisitOf, PlacesOf}

abbrev Slave : Type 0
Slave = Clocked Body Asked Reply

-- ---- one slave
abbrev MyLife : Type 0
MyLife = Life Body Asked Reply

opens_of : (s : Stand) → is_opening s ≡ true → (o : _) × (s ≡ Stand.Opens o)
opens_of (Stand.Opens o) e = (o, refl)
opens_of Stand.Open e = absurd (cc)
opens_of Stand.Gone e = absurd (cc)

module _ (x : Speech Body Asked Reply) (made : ℕ) (spot : Spot) where
  next_opening : (l m : MyLife) (pick : _) → m ≡ life_next x acknowledged is_followed is_passed made l l.stand pick → is_opening l.stand ≡ true → is_opening m.stand ≡ true
  next_opening l m pick e is = go l.stand refl
    where
      go : (s : Stand) → l.stand ≡ s → is_opening m.stand ≡ true
      go (Stand.Opens o) same = ap (λ z. is_opening z.stand) (e ∙ ap (λ z. life_next x acknowledged is_followed is_passed made l z pick) same) ∙ is
      go Stand.Open same = absurd (let no : is_opening Stand.Open ≡ true = ap is_opening (sym same) ∙ is in cc)
      go Stand.Gone same = absurd (let no : is_opening Stand.Gone ≡ true = ap is_opening (sym same) ∙ is in cc)

  back_opening : (back : List (Datagram Body)) (under : Bool) (at : ℕ) (l : MyLife) (s : Stand) → under ≡ false → l.stand ≡ s → is_opening l.stand ≡ true → is_opening (life_back x acknowledged is_followed is_passed made spot [] back (came_at under at back) l s).stand ≡ true
  back_opening back true at l s out same is = absurd (cc)
  back_opening back false at l (Stand.Opens o) out same is = is
  back_opening back false at l Stand.Open out same is = absurd (let no : is_opening Stand.Open ≡ true = ap is_opening (sym same) ∙ is in cc)
  back_opening back false at l Stand.Gone out same is = absurd (let no : is_opening Stand.Gone ≡ true = ap is_opening (sym same) ∙ is in cc)

  lost_opening : (sent : List (Datagram Body)) (gives : Bool) (recover : ℕ) (l : MyLife) (s : Stand) → gives ≡ false → l.stand ≡ s → is_opening l.stand ≡ true → is_opening (given_where gives recover spot made (life_lost x acknowledged is_followed is_passed spot [] sent l s)).stand ≡ true
  lost_opening sent true recover l s out same is = absurd (cc)
  lost_opening sent false recover l (Stand.Opens o) out same is = is
  lost_opening sent false recover l Stand.Open out same is = absurd (let no : is_opening Stand.Open ≡ true = ap is_opening (sym same) ∙ is in cc)
  lost_opening sent false recover l Stand.Gone out same is = absurd (let no : is_opening Stand.Gone ≡ true = ap is_opening (sym same) ∙ is in cc)

module _ (lens : ℕ → Lens) (recover retry made : ℕ) (f : Exchanged) (gives : Bool) where
  abbrev lead_of : Turn → Leads
  lead_of u = led_behind lens recover retry gives made f u

  turn_opening : (ds : List Raw.Datagram) (a : Leads) (u : Turn) → IsTurn lens made ds a u → is_opening_lead a ≡ true → is_opening u.lived.life.stand ≡ true
  turn_opening ds a u t is = next_opening (speech_at lens a.lived.spot) made a.lived.spot a.lived.life u.lived.life t.next.pick t.next.life is

  no_give : (g b : Bool) → b ≡ false → (g && b) ≡ false
  no_give true b e = e
  no_give false b e = refl

  -- a frame that has no datagram for it
  out_opening : (ds : List Raw.Datagram) (a : Leads) (u : Turn) → IsTurn lens made ds a u → is_opening_lead a ≡ true → u.share.under ≡ false → is_opening_lead (lead_of u) ≡ true
  out_opening ds a u t is out = by f.fate
    where
      by : (z : Fate) → is_opening (life_behind lens recover retry gives made f z u.lived u.share).life.stand ≡ true
      by Pass = back_opening (speech_at lens u.lived.spot) made u.lived.spot (seen lens f.back) u.share.under u.share.at u.lived.life u.lived.life.stand out refl (turn_opening ds a u t is)
      by (Lost after) = lost_opening (speech_at lens u.lived.spot) made u.lived.spot (seen lens f.sent) (gives && u.share.under) recover u.lived.life u.lived.life.stand (no_give gives u.share.under out) refl (turn_opening ds a u t is)

  -- a lost one by which nobody is given up
  kept_opening : (after : ℕ) (ds : List Raw.Datagram) (a : Leads) (u : Turn) → IsTurn lens made ds a u → is_opening_lead a ≡ true → f.fate ≡ Lost after → gives ≡ false → is_opening_lead (lead_of u) ≡ true
  kept_opening after ds a u t is fate none =
      subst (λ z. is_opening (life_behind lens recover retry gives made f z u.lived u.share).life.stand ≡ true) (sym fate)
      (lost_opening (speech_at lens u.lived.spot) made u.lived.spot (seen lens f.sent) (gives && u.share.under) recover u.lived.life u.lived.life.stand (ap (λ g. g && u.share.under) none) refl (turn_opening ds a u t is))

  -- ---- all of them
  pub out_stays : (ds : List Raw.Datagram) (as' : List Leads) (us : List Turn) → AllTurn lens made ds as' us → (k : ℕ) → holds_at is_opening_lead as' k ≡ true → holds_at (λ u. u.share.under) us k ≡ false → holds_at is_opening_lead (map (led_behind lens recover retry gives made f) us) k ≡ true
  out_stays ds [] us t k is out = absurd (cc)
  out_stays ds (a ∷ as') [] t k is out = absurd t
  out_stays ds (a ∷ as') (u ∷ us) t zero is out = out_opening ds a u t.0 is out
  out_stays ds (a ∷ as') (u ∷ us) t (suc k) is out = out_stays ds as' us t.1 k is out

  pub kept_stays : (after : ℕ) (ds : List Raw.Datagram) (as' : List Leads) (us : List Turn) → AllTurn lens made ds as' us → f.fate ≡ Lost after → gives ≡ false → (k : ℕ) → holds_at is_opening_lead as' k ≡ true → holds_at is_opening_lead (map (led_behind lens recover retry gives made f) us) k ≡ true
  kept_stays after ds [] us t fate none k is = absurd (cc)
  kept_stays after ds (a ∷ as') [] t fate none k is = absurd t
  kept_stays after ds (a ∷ as') (u ∷ us) t fate none zero is = kept_opening after ds a u t.0 is fate none
  kept_stays after ds (a ∷ as') (u ∷ us) t fate none (suc k) is = kept_stays after ds as' us t.1 fate none k is

-- ---- in the first bring-up a frame carries the slave that is brought up
pub alone : (again : Option (List ℕ)) (count opened : ℕ) (last : Option ℕ) (cs : List Slave) (ps : List ℕ) → PlacesOf again count opened last cs ps → ((same : List ℕ) → again ≡ Some same → same ≡ opened ∷ []) → opened < count → ps ≡ opened ∷ []
alone (Some same) count opened last cs ps p h less = p ∙ h same refl
alone None count opened last cs ps p h less = go (nat_lt opened count) refl p
  where
    go : (b : Bool) → nat_lt opened count ≡ b → VisitOf b count opened last cs ps → ps ≡ opened ∷ []
    go true e v = v
    go false e v = absurd (let more = ltb-false opened count e in omega (arith, more, less))

pub not_in : (k opened : ℕ) (ps : List ℕ) → ps ≡ opened ∷ [] → suc opened ≤ k → is_in k ps ≡ false
not_in k opened ps e more = ap (is_in k) e ∙ go (k == opened) refl
  where
    go : (b : Bool) → (k == opened) ≡ b → (if b then true else false) ≡ false
    go true same = absurd (let k' : k ≡ opened = eqb-true k opened same in omega (arith, k', more))
    go false same = refl
