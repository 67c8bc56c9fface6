-- THE EPOCH BEHIND A FRAME stays the same where it is seen what is meant by mails.
use Rattle.std.proofs.Common.{◌≡◌, ℕ, ◌==◌, ◌&&◌, Bool, true, false, not, Option, None, Some, List, [], ◌∷◌, ◌++◌, map, refl, ap, ◌∙◌, if◌then◌else◌}
use Rattle.std.proofs.lemmas.List.{map-append}
use Rattle.master_hand.specs.of_exchange_model.Exchange.{Exchange, Speech}
use Rattle.few_replies.specs.of_life_model.Lives.{Era, era_after, passes}
use Rattle.few_replies.specs.of_life_model.Own.{own}
use Rattle.few_replies.specs.of_link_model.Frames.{all_accepted}
use Rattle.few_replies.specs.of_link_model.Segment.{RingFate}
use Rattle.few_replies.specs.Calm.{calm_tagged}
use Rattle.few_replies.specs.Client.{ByContents}
use Rattle.few_replies.specs.Erased.{side_seen, all_news_as, OfRow, EndOne}
use Rattle.few_replies.proofs.Naturals.{back_side, lost_side}
use Rattle.few_replies.specs.Silent.{is_passed}
use Rattle.master_hand.specs.of_segment_model.Ends.{Outcome, Passing}
use Rattle.master_hand.specs.of_segment_model.Record.{News, is_for, mails_heard}
use Rattle.master_hand.specs.of_segment_model.Seats.{side_back, side_lost}
use Rattle.master_hand.specs.of_segment_model.Slaves.{Datagram, grams}
use Rattle.master_hand.specs.of_serving_model.Erasing.{datagram_as, all_as}
use Rattle.master_hand.specs.of_serving_model.Tagged.{Tagged, Asked}
use Rattle.master_hand.specs.of_serving_model.TaggedStates.{asked_acknowledged}
use Rattle.master_hand.specs.of_state_model.Stated.{Stated}
use Rattle.master_hand.specs.of_state_model.Accounts.{Account, Duty, Change, Progress, account_by, account_met, account_back, access_done}
use Rattle.life_counts.specs.Seen.{outcome_seen, account_seen, era_seen, change_seen}
use Rattle.life_counts.specs.Spoken.{Naming, Speaks}
use Rattle.life_counts.proofs.News.{passes_same}

-- ---- an account
module _ {N M P Q R : Type 0} (f : N → M) (g : P → Q) where
  abbrev same : R → R
  same r = r

  abbrev counts : Account P R → Account Q R
  counts a = account_seen f g same a

  outcome_same : (o : Outcome R) → outcome_seen same o ≡ o
  outcome_same (Outcome.Replied r) = refl
  outcome_same Outcome.Handed = refl
  outcome_same Outcome.Reached = refl
  outcome_same (Outcome.Refused code) = refl

  by_same : (frame : ℕ) (a : Account P R) (duty : Duty) (k : Progress R) → counts (account_by frame a duty k) ≡ account_by frame (counts a) duty k
  by_same frame a duty (Progress.On stage) = refl
  by_same frame a duty (Progress.Over answer) =
      ap (λ (l : List (Change R)). record (counts a) { hand = None; over = l })
      (map-append (λ c. change_seen f g same c) a.over (record { target = duty.target; frame = duty.frame; answer = answer; completed = frame } ∷ [])
      ∙ ap (λ (o : Outcome R). map (λ c. change_seen f g same c) a.over ++ record { target = duty.target; frame = duty.frame; answer = o; completed = frame } ∷ []) (outcome_same answer))

  met_same : (station frame : ℕ) (a : Account P R) (hand : Option Duty) (d : Datagram N) → counts (account_met station frame a hand d) ≡ account_met station frame (counts a) hand (datagram_as f d)
  met_same station frame a None d = refl
  met_same station frame a (Some duty) d = go (is_for station d.address && not (d.counter == 0))
    where
      go : (b : Bool) → counts (if b then account_by frame a duty (access_done duty.target duty.stage d.access d.found) else a) ≡ (if b then account_by frame (counts a) duty (access_done duty.target duty.stage d.access d.found) else counts a)
      go true = by_same frame a duty (access_done duty.target duty.stage d.access d.found)
      go false = refl

  pub account_same : (station frame : ℕ) (a : Account P R) (ds : List (Datagram N)) → counts (account_back station frame a ds) ≡ account_back station frame (counts a) (all_as f ds)
  account_same station frame a [] = refl
  account_same station frame a (d ∷ ds) =
      account_same station frame (account_met station frame a a.hand d) ds ∙ ap (λ (k : Account Q R). account_back station frame k (all_as f ds)) (met_same station frame a a.hand d)

-- a slave's own datagrams
pub own_as : {N M : Type 0} (f : N → M) (station : ℕ) (ds : List (Datagram N)) → all_as f (own station ds) ≡ own station (all_as f ds)
own_as f station [] = refl
own_as f station (d ∷ ds) = go (is_for station d.address) (own_as f station ds)
  where
    go : (b : Bool) → all_as f (own station ds) ≡ own station (all_as f ds) → all_as f (if b then d ∷ own station ds else own station ds) ≡ (if b then datagram_as f d ∷ own station (all_as f ds) else own station (all_as f ds))
    go true e = ap (λ l. datagram_as f d ∷ l) e
    go false e = e

module _ {V M Q R T : Type 0} (x : Exchange V V M Q R) (calm : V → Bool) (fair : M → Bool) (s : Stated V V Q) (n : Naming M Q T R) (speaks : Speaks n x.speech s.acknowledged) where
  abbrev y : Speech (Tagged M Q) (Asked M Q) (Option R)
  y = (calm_tagged x calm fair).speech

  abbrev mail : Tagged M Q → M
  mail t = t.mail

  abbrev answer : Option R → Option R
  answer r = r

  abbrev EraHere : Type 0
  EraHere = Era (Tagged M Q) (Asked M Q) (Option R)

  abbrev named : EraHere → Era M T (Option R)
  named e = era_seen mail n.name answer e

  -- what is known of the row in hand behind the frame: its clients end it alike, as long as it has no answer
  abbrev pub EndsSame : ℕ → List (Datagram (Tagged M Q)) → EraHere → Type 0
  EndsSame station back e = OfRow (λ r. r.answer ≡ None → EndOne mail n.name answer y n.speech r.service (r.heard ++ all_accepted station e.side.halves (grams (own station back)))) e.side.now

  abbrev here : ℕ → ℕ → List (News (Tagged M Q)) → List (Datagram (Tagged M Q)) → RingFate → List (Datagram (Tagged M Q)) → EraHere → EraHere
  here station frame news sent fate back e = era_after y (asked_acknowledged s.acknowledged) (λ t. n.more t.mail) is_passed station frame news sent fate back e

  abbrev there : ℕ → ℕ → List (News M) → List (Datagram M) → RingFate → List (Datagram M) → Era M T (Option R) → Era M T (Option R)
  there station frame news sent fate back e = era_after n.speech n.acknowledged n.more n.passed station frame news sent fate back e

  passing_same : (o : Option Passing) (news : List (News (Tagged M Q))) → ByContents x.speech.emission (mails_heard news) →
      passes y (asked_acknowledged s.acknowledged) (λ t. n.more t.mail) is_passed o news ≡ passes n.speech n.acknowledged n.more n.passed o (all_news_as mail news)
  passing_same o news by = passes_same Q x.speech.emission n.more y n.speech refl speaks.emission (asked_acknowledged s.acknowledged) is_passed n.acknowledged n.passed o news by

  pub after_named : (station frame : ℕ) (news : List (News (Tagged M Q))) (sent : List (Datagram (Tagged M Q))) (fate : RingFate) (back : List (Datagram (Tagged M Q))) (e : EraHere) → ByContents x.speech.emission (mails_heard news) →
      EndsSame station back e → named (here station frame news sent fate back e) ≡ there station frame (all_news_as mail news) (all_as mail sent) fate (all_as mail back) (named e)
  after_named station frame news sent RingFate.Back back e by ends =
      let side = back_side mail n.name answer y n.speech frame station (own station back) e.side ends ∙ ap (λ l. side_back n.speech frame station l (side_seen mail n.name answer e.side)) (own_as mail station back) in
      let account = account_same mail n.name station frame e.account (own station back) ∙ ap (λ l. account_back station frame (account_seen mail n.name answer e.account) l) (own_as mail station back) in
      let passing = passing_same e.passing news by in
      λ i. record { cleared = e.cleared; opened = e.opened; state = e.state; side = side i; account = account i; passing = passing i }
  after_named station frame news sent (RingFate.Lost after) back e by ends =
      let side = lost_side mail n.name answer station (own station sent) e.side ∙ ap (λ l. side_lost station l (side_seen mail n.name answer e.side)) (own_as mail station sent) in
      let passing = passing_same e.passing news by in
      λ i. record { cleared = e.cleared; opened = e.opened; state = e.state; side = side i; account = account_seen mail n.name answer e.account; passing = passing i }
