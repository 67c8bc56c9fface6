-- WHAT A FRAME MORE BRINGS of an epoch that its master leads is due to it: so it is where it is seen what is meant by its mails.
use Rattle.std.proofs.Common.{◌≡◌, ℕ, Bool, true, false, not, cond, is_some, Option, Some, None, option_map, List, [], ◌∷◌, ◌++◌, map, length, refl, sym, ap, ◌∙◌, subst, append_assoc}
use Rattle.std.proofs.lemmas.List.{map-append}
use Rattle.idle_slaves.specs.of_exchange_model.Exchange.{Exchange, plain}
use Rattle.idle_slaves.specs.of_exchange_model.Rows.{Row, row_heard}
use Rattle.idle_slaves.proofs.of_exchange_model.Words.{plain-append}
use Rattle.idle_slaves.specs.of_life_model.Eras.{era_frames, planned}
use Rattle.idle_slaves.specs.of_life_model.Lives.{AsksOpen, Era, Spot, era_next, granted}
use Rattle.idle_slaves.specs.of_life_model.Own.{own}
use Rattle.idle_slaves.specs.of_link_model.Frames.{all_accepted}
use Rattle.idle_slaves.specs.of_link_model.Segment.{RingFate}
use Rattle.served_rings.specs.of_master_side.Due.{EachDue}
use Rattle.idle_slaves.specs.of_slave_model.Hears.{HearsFirst}
use Rattle.served_rings.specs.of_few_replies.Client.{ByContents}
use Rattle.served_rings.specs.of_few_replies.Erased.{OfRow}
use Rattle.served_rings.specs.of_few_replies.Led.{AreSingle, EraTurn, IsLed, MayTurn}
use Rattle.served_rings.specs.of_few_replies.Silent.{is_passed}
use Rattle.idle_slaves.proofs.of_plan_ring.Eras.{era_due}
use Rattle.idle_slaves.specs.of_segment_model.Record.{Frame}
use Rattle.idle_slaves.specs.of_segment_model.Slaves.{Datagram, Processor, Registers, Slave, frame_after, grams, slave_after}
use Rattle.seen_slaves.specs.Brings.{AllAreFair, SeenBringsDue}
use Rattle.served_rings.proofs.of_few_replies.Naturals.{accepted_as}
use Rattle.seen_slaves.proofs.Known.{HasRest, each_due}
use Rattle.seen_slaves.proofs.Ties.{tied}
use Rattle.served_rings.specs.of_serving_model.Erasing.{all_as}
use Rattle.served_rings.specs.of_serving_model.Passing.{ends_told}
use Rattle.served_rings.specs.of_serving_model.Tagged.{Asked, Rowed, Tagged, is_own, real, untag}
use Rattle.served_rings.proofs.of_serving_model.Erasing.{frame_after-as}
use Rattle.idle_slaves.specs.of_state_model.States.{Table}
use Rattle.served_rings.specs.of_life_counts.Epochs.{IsRun, IsSpeaker, Speaker, between, era_named, seeing, seeing_states}
use Rattle.served_rings.specs.of_life_counts.Foreseen.{AllRight}
use Rattle.served_rings.proofs.of_life_counts.Answered.{AllAnswered, HasAnswer, StateLast, next_rests}
use Rattle.served_rings.proofs.of_life_counts.Begins.{Next}
use Rattle.served_rings.proofs.of_life_counts.Eras.{Knows, era_knows}
use Rattle.served_rings.proofs.of_life_counts.Frames.{frame_to, own_to, to_own}
use Rattle.served_rings.proofs.of_life_counts.Led as Led
use Rattle.served_rings.proofs.of_life_counts.Marks.{HasReplies, IsPassedNow, PassedNow}
use Rattle.served_rings.proofs.of_life_counts.Opened.{after_started}
use Rattle.served_rings.proofs.of_life_counts.Turns as Turns
use Rattle.served_rings.proofs.of_life_counts.Ways.{met}
use Rattle.served_rings.proofs.of_life_counts.TaggedWhole.{seeing_lawful, seeing_stated}
use Rattle.seen_slaves.proofs.Hears.{hears_calm}
use Rattle.idle_slaves.specs.of_state_model.Accounts.{Pick, Started}
use Rattle.idle_slaves.specs.of_state_model.Promise.{services_in}
use Rattle.idle_slaves.specs.of_state_model.Tasks.{IsTaskPlan}

module _ {V M Q R C T A : Type 0} (w : Speaker V M Q R C T) (k : IsSpeaker w) (hears : HearsFirst w.exchange) (fair : AllAreFair w) (u : Exchange V A M T (Option R)) (processor : Processor V) (seer : Processor (Rowed V M Q)) (tables : ℕ → Table) (spot : Spot)
    (run : IsRun w u processor seer (tables spot.station)) (opened : ℕ) (v : V) (r : Registers) (plan : IsTaskPlan (seeing w) (seeing_states w) seer tables (planned spot (between v) r ∷ [])) (answers : r.station ≡ spot.station) where
  abbrev Meant : Type 0
  Meant = Tagged M Q

  abbrev RowHere : Type 0
  RowHere = Row (Tagged M Q) (Asked M Q) (Option R)

  abbrev mail : Tagged M Q → M
  mail t = t.mail

  abbrev sees_more : Tagged M Q → Bool
  sees_more t = w.naming.more t.mail

  abbrev y : Exchange (Rowed V M Q) V (Tagged M Q) (Asked M Q) (Option R)
  y = seeing w

  module _ (fs : List (Frame M)) (counts : Bool) (e : Era M T (Option R)) (n : Slave V M) (i : Led.Tied w k (seeing_lawful w k) (seeing_stated w k) u processor seer tables spot run opened v r fs counts e n) (pick : Pick T) (sent : List (Datagram M))
      (asks : AsksOpen spot.station (era_next u.speech w.naming.acknowledged w.naming.more w.naming.passed (length fs) e pick) sent) (single : AreSingle (own spot.station sent)) where
    abbrev en : Era M T (Option R)
    en = era_next u.speech w.naming.acknowledged w.naming.more w.naming.passed (length fs) e pick

    -- the turn with this frame, which comes back, and no step behind it
    abbrev turn : EraTurn V M T
    turn = record { pick = pick; sent = sent; fate = RingFate.Back; back = frame_after spot.station n (own spot.station sent); steps = []; slave = slave_after spot.station n (own spot.station sent) }

    may : MayTurn u w.naming.acknowledged processor w.naming.more w.naming.passed spot opened fs e n turn
    may = record {
      asks = asks;
      single = single;
      back = sym (to_own spot.station (frame_after spot.station n (own spot.station sent)) (frame_to spot.station spot.station n (own spot.station sent) (own_to spot.station sent)));
      slave = refl;
    }

    abbrev next : Next w.exchange w.calm w.fair w.states w.naming k.speaks (tables spot.station) v (length i.frames) i.era pick
    next = Led.chosen w k (seeing_lawful w k) (seeing_stated w k) u processor seer tables spot run opened v r fs counts e n i turn may (fair en.account.started)

    abbrev dn : Era (Tagged M Q) (Asked M Q) (Option R)
    dn = era_next y.speech (seeing_states w).acknowledged sees_more is_passed (length i.frames) i.era next.mine

    next_is : era_named w dn ≡ en
    next_is = next.is ∙ (λ j. era_next (sym run.speech j) w.naming.acknowledged w.naming.more w.naming.passed (i.long j) (i.named j) pick)

    right : AllRight w.exchange w.states (tables spot.station) v (services_in dn.account.started)
    right = Led.right_next w k (seeing_lawful w k) (seeing_stated w k) u processor seer tables spot run opened v r fs counts e n i turn may (fair en.account.started)

    abbrev went : Turns.Sent w.exchange w.core k.served w.calm w.fair w.states k.stated (seeing_lawful w k) (seeing_stated w k) u processor seer run.serve run.tells run.tells_seen run.carries tables spot run.worded opened v r w.naming.more i.frames i.era i.slave i.later i.is i.right next.mine sent
    went = Led.went w k (seeing_lawful w k) (seeing_stated w k) u processor seer tables spot run opened v r fs counts e n i turn may (fair en.account.started)

    abbrev back : List (Datagram (Tagged M Q))
    back = frame_after spot.station i.slave went.datagrams

    same_sent : own spot.station went.datagrams ≡ went.datagrams
    same_sent = to_own spot.station went.datagrams went.to

    same_back : own spot.station back ≡ back
    same_back = to_own spot.station back (frame_to spot.station spot.station i.slave went.datagrams went.to)

    -- ---- what it brings, seen with what is meant
    abbrev accepted : List (Tagged M Q)
    accepted = all_accepted spot.station dn.side.halves (grams (own spot.station back))

    tells : ByContents w.exchange.speech.emission accepted
    tells = subst (ByContents w.exchange.speech.emission)
        (Turns.accepted_is w.exchange w.core k.served w.calm w.fair w.states k.stated (seeing_lawful w k) (seeing_stated w k) u processor seer run.serve run.tells run.tells_seen run.carries tables spot run.worded opened v r w.naming.more i.frames i.era i.slave i.later i.is i.right next.mine right sent went RingFate.Back k.last)
        (Turns.news_tell w.exchange w.core k.served w.calm w.fair w.states k.stated (seeing_lawful w k) (seeing_stated w k) u processor seer run.serve run.tells run.tells_seen run.carries tables spot run.worded opened v r w.naming.more i.frames i.era i.slave i.later i.is i.right next.mine right sent went RingFate.Back k.last counts)

    due : EachDue y.speech dn.side.now accepted
    due = subst (λ (l : List (Datagram (Tagged M Q))). EachDue y.speech dn.side.now (all_accepted spot.station dn.side.halves (grams l))) (ap (frame_after spot.station i.slave) same_sent ∙ sym same_back)
        (era_due (seeing w) (seeing_lawful w k) (hears_calm w.exchange w.core k.served hears w.calm w.fair) (seeing_states w) (seeing_stated w k) seer tables spot i.era opened (length i.frames) i.frames (between v) r i.slave i.is
        (length i.frames) (granted i.era.passing next.mine) (own spot.station went.datagrams) went.asks.halves)

    -- ---- the row behind it
    abbrev behind : Era (Tagged M Q) (Asked M Q) (Option R)
    behind = Turns.after w.exchange w.core k.served w.calm w.fair w.states k.stated (seeing_lawful w k) (seeing_stated w k) u processor seer run.serve run.tells run.tells_seen run.carries tables spot run.worded opened v r w.naming.more i.frames i.era i.slave i.later i.is i.right next.mine right sent went RingFate.Back counts

    abbrev went_frame : Frame (Tagged M Q)
    went_frame = Turns.went w.exchange w.core k.served w.calm w.fair w.states k.stated (seeing_lawful w k) (seeing_stated w k) u processor seer run.serve run.tells run.tells_seen run.carries tables spot run.worded opened v r w.naming.more i.frames i.era i.slave i.later i.is i.right next.mine right sent went RingFate.Back

    knows_behind : Knows w.exchange w.calm w.fair w.states w.naming.more k.last (era_frames spot opened (length (i.frames ++ went_frame ∷ [])) (i.frames ++ went_frame ∷ [])) spot.station behind.side behind.account
    knows_behind = era_knows w.exchange w.core k.served w.calm w.fair w.states k.stated (seeing_lawful w k) (seeing_stated w k) seer tables spot behind opened (length (i.frames ++ went_frame ∷ [])) (i.frames ++ went_frame ∷ []) (between v) r
        (met mail (real w.exchange) spot.station i.slave went.datagrams RingFate.Back).slave
        (Turns.era_met w.exchange w.core k.served w.calm w.fair w.states k.stated (seeing_lawful w k) (seeing_stated w k) u processor seer run.serve run.tells run.tells_seen run.carries tables spot run.worded opened v r w.naming.more i.frames i.era i.slave i.later i.is i.right next.mine right sent went RingFate.Back counts) refl
        (Turns.right_behind w.exchange w.core k.served w.calm w.fair w.states k.stated (seeing_lawful w k) (seeing_stated w k) u processor seer run.serve run.tells run.tells_seen run.carries tables spot run.worded opened v r w.naming.more i.frames i.era i.slave i.later i.is i.right next.mine right sent went RingFate.Back
        (Turns.news w.exchange w.core k.served w.calm w.fair w.states k.stated (seeing_lawful w k) (seeing_stated w k) u processor seer run.serve run.tells run.tells_seen run.carries tables spot run.worded opened v r w.naming.more i.frames i.era i.slave i.later i.is i.right next.mine right sent went RingFate.Back counts)) w.naming.more k.last

    started_is : behind.account.started ≡ dn.account.started
    started_is = after_started y.speech (seeing_states w).acknowledged sees_more is_passed spot.station (length i.frames)
        (Turns.news w.exchange w.core k.served w.calm w.fair w.states k.stated (seeing_lawful w k) (seeing_stated w k) u processor seer run.serve run.tells run.tells_seen run.carries tables spot run.worded opened v r w.naming.more i.frames i.era i.slave i.later i.is i.right next.mine right sent went RingFate.Back counts) went.datagrams RingFate.Back back dn

    abbrev IsNow : List (Started (Asked M Q)) → RowHere → Type 0
    IsNow started row = IsPassedNow w.exchange w.calm w.fair w.states w.naming.more k.last started row

    row_behind : (row : RowHere) → dn.side.now ≡ Some row → IsNow dn.account.started (row_heard y.speech (length i.frames) accepted row)
    row_behind row is = subst (λ (started : List (Started (Asked M Q))). IsNow started (row_heard y.speech (length i.frames) accepted row)) started_is
        (subst (λ (now : Option RowHere). OfRow (IsNow behind.account.started) now) (ap (option_map (λ (z : RowHere). row_heard y.speech (length i.frames) accepted z)) is) knows_behind.passed)

    -- ---- where a state service came behind it, it has its answer
    abbrev Answers : Option RowHere → Type 0
    Answers now = AllAnswered w.exchange w.calm w.fair (seeing_states w).acknowledged sees_more now

    abbrev IsLast : List (Started (Asked M Q)) → Type 0
    IsLast started = StateLast w.exchange w.calm w.fair (seeing_states w).acknowledged sees_more started

    last_answers : (started : List (Started (Asked M Q))) (now : Option RowHere) → OfRow (IsNow started) now → IsLast started → Answers now
    last_answers started None p l = tt
    last_answers started (Some row) p l = λ m is. go (p m true is)
      where
        go : {m : M} → PassedNow w.exchange w.calm w.fair w.states w.naming.more k.last started m true row → is_some row.answer ≡ true
        go (PassedNow.heard marks all none) = absurd (none refl l.0 l.1)
        go (PassedNow.rests target newest yes_ answered) = answered

    knows_now : Knows w.exchange w.calm w.fair w.states w.naming.more k.last (era_frames spot opened (length i.frames) i.frames) spot.station i.era.side i.era.account
    knows_now = era_knows w.exchange w.core k.served w.calm w.fair w.states k.stated (seeing_lawful w k) (seeing_stated w k) seer tables spot i.era opened (length i.frames) i.frames (between v) r i.slave i.is refl i.right w.naming.more k.last

    rests : IsLast dn.account.started → Answers dn.side.now
    rests l = next_rests w.exchange w.calm w.fair (seeing_states w).acknowledged sees_more (length i.frames) i.era next.mine (λ b. last_answers i.era.account.started i.era.side.now knows_now.passed b) l

    -- ---- WHAT FOLLOWS a reply to a mail that is passed on
    abbrev replies : List (Tagged M Q) → List (Tagged M Q)
    replies ts = plain (λ (t : Tagged M Q). is_own t.meant) ts

    all_replies : (row : RowHere) → dn.side.now ≡ Some row → row.answer ≡ None → (m : M) → row.service ≡ Asked.Passed m true → HasReplies w.exchange w.calm w.fair w.states w.naming.more k.last (replies (row.heard ++ accepted))
    all_replies row is none m e = go (row_behind row is m true e)
      where
        go : PassedNow w.exchange w.calm w.fair w.states w.naming.more k.last dn.account.started m true (row_heard y.speech (length i.frames) accepted row) → HasReplies w.exchange w.calm w.fair w.states w.naming.more k.last (replies (row.heard ++ accepted))
        go (PassedNow.heard marks all state) = all refl
        go (PassedNow.rests target newest yes_ answered) =
            absurd (let has : HasAnswer w.exchange w.calm w.fair (seeing_states w).acknowledged sees_more row = subst Answers is (rests (target, newest)) in
            let no : false ≡ true = sym (ap is_some none) ∙ has m e in cc)

    follows : (row : RowHere) → dn.side.now ≡ Some row → (b : Tagged M Q) (cs : List (Tagged M Q)) → accepted ≡ b ∷ cs → HasRest w.exchange w.calm w.fair w.states w.naming k.speaks row b
    follows row is b cs are plainly none m e =
        let reps = all_replies row is none m e in
        let cut : replies (row.heard ++ accepted) ≡ replies row.heard ++ b ∷ replies cs =
        plain-append (λ (t : Tagged M Q). is_own t.meant) row.heard accepted ∙ ap (λ (l : List (Tagged M Q)). replies row.heard ++ replies l) are ∙ ap (λ (l : List (Tagged M Q)). replies row.heard ++ l) (first plainly) in
        let list : untag (replies row.heard) ++ b.mail ∷ (untag (replies cs) ++ reps.begin.0) ≡ reps.all =
        sym (append_assoc (untag (replies row.heard)) (b.mail ∷ untag (replies cs)) reps.begin.0)
        ∙ ap (λ (l : List M). l ++ reps.begin.0) (sym (map-append mail (replies row.heard) (b ∷ replies cs)) ∙ ap (λ (l : List (Tagged M Q)). untag l) (sym cut)) ∙ reps.begin.1 in
        (untag (replies cs) ++ reps.begin.0, ap (ends_told w.naming.more) list ∙ reps.tells)
      where
        first : is_own b.meant ≡ false → replies (b ∷ cs) ≡ b ∷ replies cs
        first e = ap (λ (c : Bool). cond (not c) (b ∷ replies cs) (replies cs)) e

    rest_now : (b : Tagged M Q) (cs : List (Tagged M Q)) → accepted ≡ b ∷ cs → OfRow (λ (row : RowHere). HasRest w.exchange w.calm w.fair w.states w.naming k.speaks row b) dn.side.now
    rest_now b cs are = go dn.side.now refl
      where
        go : (now : Option RowHere) → dn.side.now ≡ now → OfRow (λ (row : RowHere). HasRest w.exchange w.calm w.fair w.states w.naming k.speaks row b) now
        go None is = tt
        go (Some row) is = follows row is b cs are

    -- ---- WITHOUT WHAT IS MEANT
    named : EachDue w.naming.speech (era_named w dn).side.now (map mail accepted)
    named = each_due w.exchange w.calm w.fair w.states w.naming k.speaks dn.side.now next.known accepted tells rest_now due

    back_is : all_as mail (own spot.station back) ≡ frame_after spot.station n (own spot.station sent)
    back_is = ap (all_as mail) same_back ∙ frame_after-as mail (real w.exchange) spot.station i.slave went.datagrams ∙ (λ j. frame_after spot.station (i.stands j) (went.is_sent j))

    accepted_is : map mail accepted ≡ all_accepted spot.station (era_named w dn).side.halves (grams (frame_after spot.station n (own spot.station sent)))
    accepted_is = accepted_as mail spot.station dn.side.halves (own spot.station back) ∙ ap (λ (l : List (Datagram M)). all_accepted spot.station (era_named w dn).side.halves (grams l)) back_is

    brings : EachDue w.naming.speech en.side.now (all_accepted spot.station en.side.halves (grams (frame_after spot.station n (own spot.station sent))))
    brings = subst (λ (z : Era M T (Option R)). EachDue w.naming.speech z.side.now (all_accepted spot.station z.side.halves (grams (frame_after spot.station n (own spot.station sent))))) next_is
        (subst (λ (l : List M). EachDue w.naming.speech (era_named w dn).side.now l) accepted_is named)

  pub seen_due : (fs : List (Frame M)) (counts : Bool) (e : Era M T (Option R)) (n : Slave V M) → IsLed u w.naming.acknowledged processor w.naming.more w.naming.passed spot opened v r fs counts e n → SeenBringsDue w u spot fs e n
  seen_due fs counts e n led = λ pick sent asks single. brings fs counts e n (tied w k fair u processor seer tables spot run opened v r plan answers fs counts e n led) pick sent asks single
