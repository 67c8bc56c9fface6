-- The record's counter of the last mail heard is the side's, all along a slave's life: whatever its frames are.
use Rattle.std.proofs.Common.{◌≡◌, ℕ, ◌==◌, Bool, true, false, Option, None, List, [], ◌∷◌, refl, sym, ap, ◌∙◌, if◌then◌else◌}
use Rattle.std.specs.Prelude.{nat_le}
use Rattle.idle_slaves.specs.of_life_runs.Lives.{came_so, lost_so}
use Rattle.idle_slaves.specs.of_exchange_model.Exchange.{Speech}
use Rattle.idle_slaves.specs.of_frame_view.Seen.{seen}
use Rattle.idle_slaves.specs.of_frame_view.View.{Lens}
use Rattle.idle_slaves.specs.of_life_model.Lives.{Life, Spot, era_back, era_lost, era_next, granted, new_side}
use Rattle.idle_slaves.specs.of_life_model.Own.{own}
use Rattle.idle_slaves.specs.of_link_mails.Body.{Body}
use Rattle.idle_slaves.specs.of_link_model.Frames.{Ask, Gram, all_accepted, halves_lost, halves_without}
use Rattle.idle_slaves.specs.of_link_model.Link.{Halves}
use Rattle.idle_slaves.specs.of_link_model.Master.{InHalf}
use Rattle.served_rings.specs.of_master_duty.Reply.{Reply}
use Rattle.served_rings.specs.of_master_hand.Spoken.{Asked}
use Rattle.served_rings.specs.of_master_side.Passing.{news_back, news_lost}
use Rattle.idle_slaves.proofs.of_master_tour.Backs.{own_accepted, own_back, seen_aims}
use Rattle.served_rings.proofs.of_few_replies.Passings.{counted_same}
use Rattle.idle_slaves.proofs.of_run_frames.Access.{begins_same, holds_same}
use Rattle.idle_slaves.specs.of_segment_model.Ends.{Passing}
use Rattle.idle_slaves.specs.of_segment_model.Record.{Kept, News, frame_news, heard_behind, kept_after, mails_heard, nothing_kept}
use Rattle.idle_slaves.specs.of_segment_model.Seats.{Side, next_mail, side_begins}
use Rattle.idle_slaves.specs.of_segment_model.Slaves.{grams}
use Rattle.served_rings.proofs.of_segment_model.News.{heard_frame, kept_back}
use Rattle.idle_slaves.specs.of_state_model.Accounts.{Pick, mails_choice, new_account}

abbrev pub Heard : Kept → Option Passing → Side Body Asked Reply → Type 0
Heard kept passing d = d.halves.inn.last ≡ kept.heard

pub new_heard : Heard nothing_kept None new_side
new_heard = refl

-- a lost frame leaves it
lost_last : (h : Halves Body) (ask : Ask Body) → (halves_lost h ask).inn.last ≡ h.inn.last
lost_last h (Ask.WriteMail m) = refl
lost_last h Ask.ReadMail = refl
lost_last h (Ask.WriteRequest bit) = refl
lost_last h Ask.ReadAcknowledge = refl
lost_last h Ask.Other = refl

without_last : (station : ℕ) (h : Halves Body) (gs : List (Gram Body)) → (halves_without station h gs).inn.last ≡ h.inn.last
without_last station h [] = refl
without_last station h (g ∷ gs) = without_last station (if g.station == station then halves_lost h g.ask else h) gs ∙ go (g.station == station)
  where
    go : (b : Bool) → (if b then halves_lost h g.ask else h).inn.last ≡ h.inn.last
    go true = lost_last h g.ask
    go false = refl

module _ (x : Speech Body Asked Reply) (acknowledged : Asked → Bool) (more : Body → Bool) (passed : Asked → Bool) (frame : ℕ) (kept : Kept) (l : Life Body Asked Reply) where
  -- ---- before a frame
  pub next_heard : (pick : Pick Asked) → Heard kept l.era.passing l.era.side → (let e = era_next x acknowledged more passed frame l.era pick in Heard kept e.passing e.side)
  next_heard pick k =
      let c = mails_choice l.era.account (granted l.era.passing pick) in
      let d = side_begins x frame l.era.side l.era.side.now c.begin in
      ap (λ (i : InHalf). i.last) (holds_same d (next_mail x d.now d.halves.out.holding c.hold) ∙ begins_same x frame l.era.side l.era.side.now c.begin) ∙ k

  module _ (lens : ℕ → Lens) (spot : Spot) (some : nat_le 1 spot.station ≡ true) (octets : List ℕ) where
    -- ---- behind one that came back
    pub back_heard : (ns : List (News Body)) → Heard kept l.era.passing l.era.side → (let e = era_back x acknowledged more passed spot.station frame ns (seen lens octets) l.era in Heard (kept_after spot.station kept (came_so (seen lens octets))) e.passing e.side)
    back_heard ns k =
        own_back x (λ d a. d.halves.inn.last ≡ (kept_after spot.station kept (came_so (seen lens octets))).heard) frame spot.station (seen lens octets) l.era.side new_account (seen_aims lens octets spot.station some)
        (sym (kept_back spot.station l.era.side.halves (seen lens octets)) ∙ ap (λ n. heard_behind spot.station n (seen lens octets)) k)

    -- the mails of its news are those that are accepted
    pub news_heard : (counts : Bool) → Heard kept l.era.passing l.era.side → mails_heard (news_back spot.station kept counts (seen lens octets)) ≡ all_accepted spot.station l.era.side.halves (grams (own spot.station (seen lens octets)))
    news_heard counts k =
        own_accepted (λ ms. mails_heard (news_back spot.station kept counts (seen lens octets)) ≡ ms) spot.station (seen lens octets) l.era.side.halves (seen_aims lens octets spot.station some)
        ((counted_same counts (frame_news spot.station kept (came_so (seen lens octets)))).heard
        ∙ heard_frame spot.station kept l.era.side.halves (came_so (seen lens octets)) k)

    -- ---- behind a lost one, by which no mail is heard
    pub lost_none : mails_heard (news_lost spot.station kept (seen lens octets)) ≡ []
    lost_none =
        let h = l.era.side.halves in
        heard_frame spot.station kept (record h { inn = record h.inn { last = kept.heard } }) (lost_so (seen lens octets)) refl

    pub lost_heard : (ns : List (News Body)) → Heard kept l.era.passing l.era.side → (let e = era_lost x acknowledged more passed spot.station ns (seen lens octets) l.era in Heard (kept_after spot.station kept (lost_so (seen lens octets))) e.passing e.side)
    lost_heard ns k = without_last spot.station l.era.side.halves (grams (own spot.station (seen lens octets))) ∙ k
