-- WHAT IS NOTED BEHIND A LOST FRAME, and at which frames a slave is given up.
use Rattle.std.proofs.Common.{◌≡◌, ◌⊎◌, inl, inr, ℕ, ◌<◌, Bool, true, false, Option, Some, None, List, [], ◌∷◌, ◌++◌, length, refl, ap, sym, ◌∙◌, subst, append-nil}
use Rattle.std.specs.Prelude.{◌==◌, ◌&&◌, nat_lt, if◌then◌else◌}
use Rattle.std.specs.List.{All}
use Rattle.life_runs.specs.of_exchange_model.Exchange.{Speech}
use Rattle.life_runs.specs.of_frame_view.View.{Lens}
use Rattle.life_runs.specs.of_frame_view.Seen.{seen}
use Rattle.life_runs.proofs.Spans as Spans
use Rattle.life_runs.specs.Spans.{EpochsBack, EpochsLost, is_leaving, is_open, spans_behind, spans_of}
use Rattle.life_runs.specs.of_frame_view.Shares.{came_at, given_where}
use Rattle.life_runs.specs.of_life_model.Lives.{Spot, Era, Life, Stand, Opening, life_back, life_lost, era_back, opening_back, shows_clear, is_shown, last_step, clears, opens, steps_on, reopens, reopens_at, reopening, opens_state, returns_to_init}
use Rattle.life_runs.specs.Led.{Exchanged, Leads, Turn, is_passed, speech_at}
use Rattle.life_runs.specs.of_link_mails.Body.{Body}
use Rattle.life_runs.specs.of_master_duty.Reply.{Reply}
use Rattle.life_runs.specs.of_master_hand.Spoken.{Asked, acknowledged, is_followed}
use Rattle.life_runs.specs.of_segment_model.Record.{News}
use Rattle.life_runs.specs.of_segment_model.Slaves.{Datagram, Found}
use Rattle.life_runs.specs.of_segment_ring.declared.wire.Fate.TheVariants.{Pass, Lost}
use Rattle.life_runs.specs.of_state_model.Accounts.{Duty, Stage}
use Rattle.run_frames.specs.ScriptAnswers.{EraRests, Noted, AllNoted, IsStill, Waits, StandsBy, FreshBy, IsNoted, era_scripted, eras_scripted, life_scripted, turned}
use Rattle.run_frames.specs.Steps.{IsBefore, PassesSo, LosesSo}
use Rattle.run_frames.proofs.Anew.{anew_lost, eras_given}
use Rattle.run_frames.proofs.Befores.{back_before, lost_before, given_before}
use Rattle.run_frames.proofs.Lists.{eras_more}
use Rattle.run_frames.proofs.Passes.{led, pass_still, pass_waits, pass_told, pass_own, awaiting, pass_goes, pass_ends, pass_some, pass_anew}
use Rattle.run_frames.proofs.Sides.{longer}
use Rattle.run_frames.proofs.Turns.{awaits_on, beside_on, changes_on, rests_on, fresh_open}

-- A LIFE BEHIND A LOST FRAME
module _ (u : Turn) (x : Speech Body Asked Reply) (recover frame : ℕ) (news : List (News Body)) (sent : List (Datagram Body)) (before : IsBefore frame u.lived.life) where
  abbrev spot : Spot
  spot = u.lived.spot

  abbrev l : Life Body Asked Reply
  l = u.lived.life

  abbrev without : Stand → Life Body Asked Reply
  without stand = life_lost x acknowledged is_followed is_passed spot news sent l stand

  abbrev given : Bool → Life Body Asked Reply
  given b = given_where b recover spot frame (without l.stand)

  -- the slave with this life
  abbrev living : Life Body Asked Reply → Leads
  living z = record { script = u.script; number = u.number; lived = record { spot = spot; life = z } }

  lost_era : Stand → Era Body Asked Reply
  lost_era stand = (without stand).era

  lost_rests : EraRests l.era → EraRests (without Stand.Open).era
  lost_rests (inl h) = inl h
  lost_rests (inr w) = inr (beside_on l.era (without Stand.Open).era w [] w.row (sym (append-nil l.era.account.started)) refl w.now)

  lost_stands : (stand : Stand) → l.stand ≡ stand → (w : Waits) → StandsBy w (turned u) → StandsBy w (living (without stand))
  lost_stands (Stand.Opens o) s w h = by w h
    where
      by : (w : Waits) → StandsBy w (turned u) → StandsBy w (living l)
      by Waits.nothing h = h
      by Waits.reply h = h
      by Waits.change h = h
  lost_stands Stand.Gone s w h = by w h
    where
      by : (w : Waits) → StandsBy w (turned u) → StandsBy w (living l)
      by Waits.nothing h = h
      by Waits.reply h = h
      by Waits.change h = h
  lost_stands Stand.Open s Waits.nothing h = record { rests = λ t. let r = h.rests t in rests_on l.era (without Stand.Open).era r refl refl refl (lost_rests r.row); opens = λ o t. absurd (let bad = sym s ∙ t in cc) }
  lost_stands Stand.Open s Waits.reply h = record { stand = h.stand; era = awaits_on l.era (without Stand.Open).era h.era h.era.row refl refl refl h.era.hand h.era.now refl; unanswered = h.unanswered }
  lost_stands Stand.Open s Waits.change (inl g) = inl (record { stand = g.stand; era = changes_on l.era (without Stand.Open).era g.era g.era.duty refl refl g.era.hand refl (lost_rests g.era.row) })
  lost_stands Stand.Open s Waits.change (inr c) = absurd (let bad : true ≡ false = sym (ap is_open s) ∙ c.away in cc)

  lost_noted : (stand : Stand) → l.stand ≡ stand → (w : Waits) (number : ℕ) (ns : List Noted) → IsNoted (turned u) w number ns → IsNoted (living (without stand)) w number ns
  lost_noted (Stand.Opens o) s w number ns h = record { many = h.many; beside = h.beside; noted = h.noted; fresh = h.fresh; stands = lost_stands (Stand.Opens o) s w h.stands }
  lost_noted Stand.Open s w number ns h = record { many = h.many; beside = h.beside; noted = h.noted; fresh = fresh_open l (without Stand.Open) s s refl refl h.fresh; stands = lost_stands Stand.Open s w h.stands }
  lost_noted Stand.Gone s w number ns h = record { many = h.many; beside = h.beside; noted = h.noted; fresh = h.fresh; stands = lost_stands Stand.Gone s w h.stands }

  lost_gave : (stand : Stand) → (without stand).gave ≡ l.gave
  lost_gave (Stand.Opens o) = refl
  lost_gave Stand.Open = refl
  lost_gave Stand.Gone = refl

  more_gave : (given true).gave ≡ l.gave ++ frame ∷ []
  more_gave = ap (λ (g : List ℕ). g ++ frame ∷ []) (lost_gave l.stand)

  -- of one that is given up nothing is awaited
  away : (b : Bool) → (if b then reopening spot.start false else Stand.Gone) ≡ Stand.Open → ⊥
  away true e = absurd (cc)
  away false e = absurd (cc)

  fresh_given : (b : Bool) (gave : List ℕ) (e : Era Body Asked Reply) → FreshBy (if b then reopening spot.start false else Stand.Gone) gave e
  fresh_given true gave e = λ n. absurd (let bad : true ≡ false = n in cc)
  fresh_given false gave e = tt

  -- its epochs keep what they came to, and no frame that opens it later gives the newest more
  abbrev kept : Life Body Asked Reply
  kept = without l.stand

  kept_before : IsBefore frame kept
  kept_before = lost_before frame l before x spot news sent l.stand

  abbrev gave' : List ℕ
  gave' = kept.gave ++ frame ∷ []

  given_scripted : life_scripted (given true) ≡ life_scripted kept
  given_scripted = ap (λ ss. ss ++ era_scripted None kept.era) (eras_given kept.gave frame kept.past kept.era.opened kept_before.past kept_before.era)

  given_over : (g : ℕ) → All (λ k. k < g) gave' → eras_scripted gave' (kept.past ++ kept.era ∷ []) (Some g) ≡ eras_scripted gave' (kept.past ++ kept.era ∷ []) None
  given_over g later =
      eras_more gave' kept.past kept.era (Some g)
      ∙ ap (λ (z : Option ℕ). eras_scripted gave' kept.past kept.era.opened ++ era_scripted z kept.era) (anew_lost kept.gave frame kept.era.opened g kept_before.era later)
      ∙ sym (eras_more gave' kept.past kept.era None)

  given_opens : (b : Bool) (o : Opening) → (if b then reopening spot.start false else Stand.Gone) ≡ Stand.Opens o → (g : ℕ) → All (λ k. k < g) gave' →
      eras_scripted gave' (if is_leaving (if b then reopening spot.start false else Stand.Gone) then kept.past ++ kept.era ∷ [] else kept.past) (Some g)
      ≡ eras_scripted gave' (if is_leaving (if b then reopening spot.start false else Stand.Gone) then kept.past ++ kept.era ∷ [] else kept.past) None
  given_opens true o e g later = given_over g later
  given_opens false o e g later = absurd (cc)

  given_still : IsStill (given true)
  given_still = record {
    rests = λ s. absurd (away (nat_lt (length kept.gave) recover) s);
    opens = λ o s g later. given_opens (nat_lt (length kept.gave) recover) o s g later;
  }

  given_noted : (w : Waits) (number : ℕ) (ns : List Noted) → IsNoted (living kept) w number ns → IsNoted (living (given true)) Waits.nothing number ns
  given_noted w number ns h = record {
    many = h.many;
    beside = h.beside;
    noted = subst (λ ss. AllNoted ss ns) (sym given_scripted) h.noted;
    fresh = fresh_given (nat_lt (length kept.gave) recover) gave' kept.era;
    stands = given_still;
  }

  pub lost_waits : (b : Bool) (w : Waits) (number : ℕ) (ns : List Noted) → IsNoted (turned u) w number ns → (given b).gave ≡ l.gave → IsNoted (living (given b)) w number ns
  lost_waits true w number ns h e = absurd (longer l.gave frame (sym e ∙ more_gave))
  lost_waits false w number ns h e = lost_noted l.stand refl w number ns h

  pub lost_given : (b : Bool) (w : Waits) (number : ℕ) (ns : List Noted) → IsNoted (turned u) w number ns → (given b).gave ≡ l.gave ++ frame ∷ [] → IsNoted (living (given b)) Waits.nothing number ns
  lost_given true w number ns h e = given_noted w number ns (lost_noted l.stand refl w number ns h)
  lost_given false w number ns h e = absurd (longer l.gave frame (sym (lost_gave l.stand) ∙ e))

  pub given_gave : (b : Bool) → ((given b).gave ≡ l.gave) ⊎ ((given b).gave ≡ l.gave ++ frame ∷ [])
  given_gave true = inr more_gave
  given_gave false = inl (lost_gave l.stand)

-- BEHIND A FRAME OF EITHER FATE
module _ (lens : ℕ → Lens) (recover : ℕ) (gives : Bool) (made : ℕ) (f : Exchanged) (news : List (News Body)) (u : Turn) (before : IsBefore made u.lived.life) where
  opening_gave : (l : Life Body Asked Reply) (o : Opening) (done : Bool) (found : Option Found) → (opening_back made l o done found).gave ≡ l.gave
  opening_gave l o done found = go (shows_clear o) (done && is_shown 1 found) (o.step == last_step o) (done && is_shown o.state found)
    where
      go : (shows seen last there : Bool) → (if shows then (if seen then clears made l o else l) else if last then (if there then opens made l else l) else steps_on l o).gave ≡ l.gave
      go true true last there = refl
      go true false last there = refl
      go false seen true true = refl
      go false seen true false = refl
      go false seen false there = refl

  reopens_gave : (l : Life Body Asked Reply) (hand : Option Duty) → (reopens l hand).gave ≡ l.gave
  reopens_gave l None = refl
  reopens_gave l (Some duty) = go duty.stage
    where
      by : (b : Bool) → (if b then record l { stand = reopening (opens_state duty.target) true } else l).gave ≡ l.gave
      by true = refl
      by false = refl

      go : (stage : Stage) → (reopens_at l duty.target stage).gave ≡ l.gave
      go Stage.Drains = refl
      go (Stage.Goes phase) = by (returns_to_init duty.target)

  back_gave : (x : Speech Body Asked Reply) (spot : Spot) (back : List (Datagram Body)) (l : Life Body Asked Reply) (came : Option (Bool × Option Found)) (stand : Stand) → (life_back x acknowledged is_followed is_passed made spot news back came l stand).gave ≡ l.gave
  back_gave x spot back l None (Stand.Opens o) = refl
  back_gave x spot back l (Some came) (Stand.Opens o) = opening_gave l o came.0 came.1
  back_gave x spot back l came Stand.Open = let e = era_back x acknowledged is_followed is_passed spot.station made news back l.era in reopens_gave (record l { era = e }) e.account.hand
  back_gave x spot back l came Stand.Gone = refl

  -- NEWS change nothing of the epochs, of how the master stands to the slave, and of give-ups
  record IsLike (m n : Life Body Asked Reply) : Type 0 where
    spans : spans_of m ≡ spans_of n
    stand : m.stand ≡ n.stand
    gave : m.gave ≡ n.gave

  abbrev back_by : List (News Body) → Option (Bool × Option Found) → Stand → Life Body Asked Reply
  back_by ns came stand = life_back (speech_at lens u.lived.spot) acknowledged is_followed is_passed made u.lived.spot ns (seen lens f.back) came u.lived.life stand

  abbrev open_by : List (News Body) → Life Body Asked Reply
  open_by ns = record u.lived.life { era = era_back (speech_at lens u.lived.spot) acknowledged is_followed is_passed u.lived.spot.station made ns (seen lens f.back) u.lived.life.era }

  reopens_like : (hand : Option Duty) → IsLike (reopens (open_by news) hand) (reopens (open_by []) hand)
  reopens_like None = record { spans = refl; stand = refl; gave = refl }
  reopens_like (Some duty) = go duty.stage
    where
      by : (b : Bool) → IsLike (if b then record (open_by news) { stand = reopening (opens_state duty.target) true } else open_by news) (if b then record (open_by []) { stand = reopening (opens_state duty.target) true } else open_by [])
      by true = record { spans = refl; stand = refl; gave = refl }
      by false = record { spans = refl; stand = refl; gave = refl }

      go : (stage : Stage) → IsLike (reopens_at (open_by news) duty.target stage) (reopens_at (open_by []) duty.target stage)
      go Stage.Drains = record { spans = refl; stand = refl; gave = refl }
      go (Stage.Goes phase) = by (returns_to_init duty.target)

  back_like : (came : Option (Bool × Option Found)) (stand : Stand) → IsLike (back_by news came stand) (back_by [] came stand)
  back_like None (Stand.Opens o) = record { spans = refl; stand = refl; gave = refl }
  back_like (Some came) (Stand.Opens o) = record { spans = refl; stand = refl; gave = refl }
  back_like came Stand.Open = reopens_like (open_by []).era.account.hand
  back_like came Stand.Gone = record { spans = refl; stand = refl; gave = refl }

  back_epochs : EpochsBack made u.lived.life (led lens recover gives made f news u before Pass).lived.life
  back_epochs =
      let e = Spans.passes_so lens recover 0 made gives f u.lived u.share in
      let k = back_like (came_at u.share.under u.share.at (seen lens f.back)) u.lived.life.stand in
      record { spans = k.spans ∙ e.spans ∙ (λ i. spans_behind made (is_leaving u.lived.life.stand) (is_leaving (sym k.stand i)) (is_open u.lived.life.stand) (is_open (sym k.stand i)) (spans_of u.lived.life)) }

  abbrev lost_by : List (News Body) → Bool → Stand → Life Body Asked Reply
  lost_by ns b stand = given_where b recover u.lived.spot made (life_lost (speech_at lens u.lived.spot) acknowledged is_followed is_passed u.lived.spot ns (seen lens f.sent) u.lived.life stand)

  lost_like : (b : Bool) (stand : Stand) → IsLike (lost_by news b stand) (lost_by [] b stand)
  lost_like true (Stand.Opens o) = record { spans = refl; stand = refl; gave = refl }
  lost_like true Stand.Open = record { spans = refl; stand = refl; gave = refl }
  lost_like true Stand.Gone = record { spans = refl; stand = refl; gave = refl }
  lost_like false (Stand.Opens o) = record { spans = refl; stand = refl; gave = refl }
  lost_like false Stand.Open = record { spans = refl; stand = refl; gave = refl }
  lost_like false Stand.Gone = record { spans = refl; stand = refl; gave = refl }

  lost_epochs : (after : ℕ) → EpochsLost u.lived.life (led lens recover gives made f news u before (Lost after)).lived.life
  lost_epochs after =
      let e = Spans.loses_so lens recover 0 made gives f u.lived u.share after in
      let k = lost_like (gives && u.share.under) u.lived.life.stand in
      record { spans = k.spans ∙ e.spans; stand = λ g. k.stand ∙ e.stand (sym k.gave ∙ g); given = λ no. ap is_open k.stand ∙ e.given (λ g. no (k.gave ∙ g)) }

  pub passes_so : PassesSo made (turned u) (led lens recover gives made f news u before Pass)
  passes_so = record {
    still = λ number ns h. pass_still lens recover gives made f news u before number ns h;
    reply = record {
      waits = λ number ns h none. pass_waits lens recover gives made f news u before number ns h none;
      told = λ number front frame reply g e h. pass_told lens recover gives made f news u before number front frame reply g e h;
      up = λ number ns h. (awaiting lens recover gives made f news u before number ns h).stand;
      own = λ number ns row h e p. pass_own lens recover gives made f news u before number ns h row e p;
    };
    change = record {
      goes = λ number ns h e. pass_goes lens recover gives made f news u before number ns h e;
      ends = λ number front frame outcome a b none over h. pass_ends lens recover gives made f news u before number front frame outcome a b none over h;
      some = λ number ns h a b none over. pass_some lens recover gives made f news u before number ns h a b none over;
      anew = λ number front frame a b h. pass_anew lens recover gives made f news u before number front frame a b h;
    };
    gave = back_gave (speech_at lens u.lived.spot) u.lived.spot (seen lens f.back) u.lived.life (came_at u.share.under u.share.at (seen lens f.back)) u.lived.life.stand;
    same = record { script = refl; number = refl };
    epochs = back_epochs;
    before = back_before made u.lived.life before (speech_at lens u.lived.spot) u.lived.spot news (seen lens f.back) (came_at u.share.under u.share.at (seen lens f.back)) u.lived.life.stand;
  }

  pub loses_so : (after : ℕ) → LosesSo made (turned u) (led lens recover gives made f news u before (Lost after))
  loses_so after = record {
    waits = λ w number ns h same. lost_waits u (speech_at lens u.lived.spot) recover made news (seen lens f.sent) before (gives && u.share.under) w number ns h same;
    given = λ w number ns h more. lost_given u (speech_at lens u.lived.spot) recover made news (seen lens f.sent) before (gives && u.share.under) w number ns h more;
    gave = given_gave u (speech_at lens u.lived.spot) recover made news (seen lens f.sent) before (gives && u.share.under);
    same = record { script = refl; number = refl };
    epochs = lost_epochs after;
    before = given_before made recover u.lived.spot (gives && u.share.under) (life_lost (speech_at lens u.lived.spot) acknowledged is_followed is_passed u.lived.spot news (seen lens f.sent) u.lived.life u.lived.life.stand)
        (lost_before made u.lived.life before (speech_at lens u.lived.spot) u.lived.spot news (seen lens f.sent) u.lived.life.stand);
  }
