-- ONE TURN of an epoch, with what is meant by its mails.
use Rattle.std.proofs.Common.{◌≡◌, inl, inr, ℕ, suc, ◌<◌, ◌≤◌, Bool, true, false, Option, Some, List, [], ◌∷◌, ◌++◌, length, refl, ap, sym, ◌∙◌, subst, arith, length-append, if◌then◌else◌}
use Rattle.master_hand.specs.of_exchange_model.Exchange.{Exchange, Speech, IsLawful}
use Rattle.few_replies.specs.of_life_model.Eras.{EraIs, era_frames}
use Rattle.few_replies.specs.of_life_model.Lives.{Spot, Era, AsksOpen, ReadsFull, granted, era_next, era_after}
use Rattle.few_replies.specs.of_life_model.Own as Own
use Rattle.few_replies.specs.of_life_model.Own.{own_fate, own_frame}
use Rattle.few_replies.proofs.of_life_model.Eras as LifeEras
use Rattle.few_replies.proofs.of_life_model.Eras.{frames_push}
use Rattle.few_replies.specs.of_link_model.Frames.{IsFrameFor, all_accepted}
use Rattle.few_replies.specs.of_link_model.Segment.{RingFate}
use Rattle.few_replies.specs.Calm.{calm_tagged}
use Rattle.few_replies.specs.Client.{ByContents}
use Rattle.few_replies.specs.Erased.{halves_as}
use Rattle.few_replies.specs.Led.{counted_news, AreSingle}
use Rattle.few_replies.specs.Silent.{is_passed}
use Rattle.master_hand.specs.of_segment_model.Record.{Frame, News, Kept, frame_news, kept_all, nothing_kept, news_each, joined, mails_heard, heard, is_for}
use Rattle.master_hand.specs.of_segment_model.Seats.{Side, side_begins, side_holds, next_mail}
use Rattle.master_hand.specs.of_segment_model.Slaves.{Registers, Processor, Slave, Datagram, Ring, grams, ring_after, ring_back, ring_steps, slave_steps}
use Rattle.few_replies.proofs.of_segment_model.Answers.{news_each-push}
use Rattle.few_replies.proofs.of_segment_model.News.{heard_frame, mails_heard-append, joined-append}
use Rattle.few_replies.proofs.of_segment_model.Sounds.{began_halves}
use Rattle.master_hand.specs.of_serving_model.Erasing.{slave_as, all_as}
use Rattle.master_hand.specs.of_serving_model.Passing.{LastTells}
use Rattle.master_hand.specs.of_serving_model.Tagged.{IsServed, Tagged, Asked, Rowed, real}
use Rattle.master_hand.specs.of_serving_model.TaggedStates.{IsStatedServed, tagged_states, asked_acknowledged}
use Rattle.master_hand.specs.of_state_model.Stated.{Stated, IsStated}
use Rattle.master_hand.specs.of_state_model.States.{Table, carry}
use Rattle.master_hand.specs.of_state_model.Accounts as Accounts
use Rattle.master_hand.specs.of_state_model.Accounts.{Pick, duty_access}
use Rattle.master_hand.specs.of_state_model.Promise.{services_in}
use Rattle.life_counts.specs.Epochs.{between}
use Rattle.life_counts.specs.Foreseen.{AllRight}
use Rattle.life_counts.proofs.Eras.{era_steps, era_knows}
use Rattle.life_counts.proofs.Frames.{ToIt, meaning, reads_as, served_as, single_as, own_to, to_own, to_as}
use Rattle.life_counts.proofs.Overs.{asks as asks_of, sent_asks}
use Rattle.life_counts.proofs.Ways.{Met, met, Comes, Stepped, steps}
use Rattle.life_counts.proofs.Opened.{after_started}

-- contents tell of a part what they tell of all
pub by_behind : {M Q : Type 0} (e : M → Bool) (as' bs : List (Tagged M Q)) → ByContents e (as' ++ bs) → ByContents e bs
by_behind e [] bs all = all
by_behind e (a ∷ as') bs all = by_behind e as' bs all.1

pub by_append : {M Q : Type 0} (e : M → Bool) (as' bs : List (Tagged M Q)) → ByContents e as' → ByContents e bs → ByContents e (as' ++ bs)
by_append e [] bs all rest = rest
by_append e (a ∷ as') bs all rest = (all.0, by_append e as' bs all.1 rest)

-- the mails heard behind one more frame
pub heard_push : {M : Type 0} (station : ℕ) (fs : List (Frame M)) (f : Frame M) → heard station (fs ++ f ∷ []) ≡ heard station fs ++ mails_heard (frame_news station (kept_all station nothing_kept fs) f)
heard_push station fs f =
    ap (λ l. mails_heard (joined l)) (news_each-push station nothing_kept fs f) ∙ ap mails_heard (joined-append (news_each station nothing_kept fs) (frame_news station (kept_all station nothing_kept fs) f))
    ∙ mails_heard-append (joined (news_each station nothing_kept fs)) (frame_news station (kept_all station nothing_kept fs) f)

-- a status that the slave's own datagrams read is read
pub reads_own : {M : Type 0} (station : ℕ) (ds : List (Datagram M)) → ReadsFull station (Own.own station ds) → ReadsFull station ds
reads_own station [] r = r
reads_own {M} station (d ∷ ds) r = go (is_for station d.address) r (reads_own station ds)
  where
    go : (b : Bool) → ReadsFull station (let l : List (Datagram M) = if b then d ∷ Own.own station ds else Own.own station ds in l) → (ReadsFull station (Own.own station ds) → ReadsFull station ds) → ReadsFull station (d ∷ ds)
    go true (inl e) more = inl e
    go true (inr e) more = inr (more e)
    go false e more = inr (more e)

-- the inward half stays by a choice
pub next_inn : {M Q R : Type 0} (x : Speech M Q R) (d : Side M Q R) (ms : List M) → (side_holds d ms).halves.inn ≡ d.halves.inn
next_inn x d [] = refl
next_inn x d (m ∷ ms) = refl

module _ {V M Q R C A T : Type 0} (x : Exchange V V M Q R) (core : V → C) (law : IsServed x core) (calm : V → Bool) (fair : M → Bool) (s : Stated V V Q) (owes : IsStatedServed x s) (lawful : IsLawful (calm_tagged x calm fair)) (stated : IsStated (calm_tagged x calm fair) (tagged_states x s))
    (u : Exchange V A M T (Option R)) (processor : Processor V) (seer : Processor (Rowed V M Q)) (serve : u.serve ≡ x.serve) (tells : (state : ℕ) (v : V) → processor.tell state v ≡ s.tell state v)
    (tells_seen : (state : ℕ) (v : Rowed V M Q) → seer.tell state v ≡ (tagged_states x s).tell state v) (carries : (k : Registers) → seer.carry k ≡ processor.carry k) (tables : ℕ → Table) (spot : Spot) (worded : (k : Registers) → seer.carry k ≡ carry (tables spot.station) k)
    (opened : ℕ) (v : V) (r : Registers) (more : M → Bool) where
  abbrev y : Exchange (Rowed V M Q) V (Tagged M Q) (Asked M Q) (Option R)
  y = calm_tagged x calm fair

  abbrev mail : Tagged M Q → M
  mail t = t.mail

  abbrev EraHere : Type 0
  EraHere = Era (Tagged M Q) (Asked M Q) (Option R)

  abbrev SlaveHere : Type 0
  SlaveHere = Slave (Rowed V M Q) (Tagged M Q)

  abbrev IsEra : EraHere → List (Frame (Tagged M Q)) → SlaveHere → Type 0
  IsEra d gs m = EraIs y (tagged_states x s) seer tables spot d opened (length gs) gs (between v) r m

  abbrev sees_more : Tagged M Q → Bool
  sees_more t = more t.mail

  pushed : {K : Type 0} (gs : List K) (g : K) → length (gs ++ g ∷ []) ≡ suc (length gs)
  pushed gs g = let e = length-append gs (g ∷ []) in omega (arith, e)

  -- A FRAME THAT THE MASTER SENT, by an epoch that is this one without what is meant
  module _ (gs : List (Frame (Tagged M Q))) (d : EraHere) (m : SlaveHere) (later : opened < length gs) (is : IsEra d gs m) (before : AllRight x s (tables spot.station) v (services_in d.account.started)) (mine : Pick (Asked M Q)) where
    abbrev pub dn : EraHere
    dn = era_next y.speech (asked_acknowledged s.acknowledged) sees_more is_passed (length gs) d mine

    -- what it asks, as its halves mean it
    pub record Sent (sent : List (Datagram M)) : Type 0 where
      pub datagrams : List (Datagram (Tagged M Q))
      pub is_sent : all_as mail datagrams ≡ Own.own spot.station sent
      pub to : ToIt spot.station datagrams
      pub asks : AsksOpen spot.station dn datagrams
      pub single : AreSingle (Own.own spot.station datagrams)
      pub few : asks_of spot.station (grams datagrams) ≤ 1

    pub sent_so : {P : Type 0} (en : Era M P (Option R)) (sent : List (Datagram M)) → en.side.halves ≡ halves_as mail dn.side.halves → en.account.hand ≡ dn.account.hand → AsksOpen spot.station en sent → AreSingle (Own.own spot.station sent) → Sent sent
    sent_so en sent halves hand asks single =
        let own = Own.own spot.station sent in
        let k = meaning Q spot.station own dn.side.halves.out.holding (Some dn.side.halves.inn) (subst (λ h. IsFrameFor spot.station h (grams own)) halves asks.halves) in
        let to : ToIt spot.station k.datagrams = to_as mail spot.station k.datagrams (subst (ToIt spot.station) (sym k.is) (own_to spot.station sent)) in
        let same : Own.own spot.station k.datagrams ≡ k.datagrams = to_own spot.station k.datagrams to in
        record {
          datagrams = k.datagrams;
          is_sent = k.is;
          to = to;
          asks = record {
            halves = subst (λ l. IsFrameFor spot.station dn.side.halves (grams l)) (sym same) k.sent;
            served = subst (λ l. Accounts.IsServed spot.station (duty_access dn.account.hand) l) (sym same)
                (served_as mail spot.station (duty_access dn.account.hand) k.datagrams (subst (λ l. Accounts.IsServed spot.station (duty_access dn.account.hand) l) (sym k.is) (subst (λ h. Accounts.IsServed spot.station (duty_access h) own) hand asks.served)));
            status = λ reads. ap (λ h. h.inn.state) (sym halves) ∙ asks.status (reads_own spot.station sent (subst (ReadsFull spot.station) k.is (reads_as mail spot.station k.datagrams reads)));
          };
          single = subst AreSingle (sym same) (single_as mail spot.station k.datagrams (subst AreSingle (sym k.is) single));
          few = sent_asks spot.station dn.side.halves.out.holding (Some dn.side.halves.inn) (grams k.datagrams) k.sent;
        }

    -- THE TURN
    module _ (right : AllRight x s (tables spot.station) v (services_in dn.account.started)) (sent : List (Datagram M)) (k : Sent sent) (fate : RingFate) where
      abbrev one : Ring (Rowed V M Q) (Tagged M Q)
      one = (spot.station, m) ∷ []

      abbrev mets : Met mail (real x) spot.station m k.datagrams (own_fate spot.place fate)
      mets = met mail (real x) spot.station m k.datagrams (own_fate spot.place fate)

      abbrev pub back : List (Datagram (Tagged M Q))
      back = ring_back one k.datagrams (own_fate spot.place fate)

      abbrev pub went : Frame (Tagged M Q)
      went = record { sent = k.datagrams; fate = fate; back = back }

      same_sent : Own.own spot.station k.datagrams ≡ k.datagrams
      same_sent = to_own spot.station k.datagrams k.to

      same_back : Own.own spot.station back ≡ back
      same_back = to_own spot.station back (mets.to k.to)

      abbrev behind : List (News (Tagged M Q)) → EraHere
      behind news = era_after y.speech (asked_acknowledged s.acknowledged) sees_more is_passed spot.station (length gs) news k.datagrams fate back dn

      -- the epoch behind the frame and these steps
      pub era_behind : (news : List (News (Tagged M Q))) (ks : List ℕ) (slave : SlaveHere) → ring_steps y seer (ring_after one k.datagrams (own_fate spot.place fate)) ks ≡ (spot.station, slave) ∷ [] → IsEra (behind news) (gs ++ went ∷ []) slave
      era_behind news ks slave rings =
          subst (λ j. EraIs y (tagged_states x s) seer tables spot (behind news) opened j (gs ++ went ∷ []) (between v) r slave) (sym (pushed gs went))
          (LifeEras.own_turns y (tagged_states x s) seer tables sees_more is_passed spot d opened gs (between v) r m later is mine news k.datagrams fate back ks slave k.asks
          (ap (λ l. ring_back one l (own_fate spot.place fate)) same_sent ∙ sym same_back) (ap (λ l. ring_steps y seer (ring_after one l (own_fate spot.place fate)) ks) same_sent ∙ rings))

      pub right_behind : (news : List (News (Tagged M Q))) → AllRight x s (tables spot.station) v (services_in (behind news).account.started)
      right_behind news = subst (λ l. AllRight x s (tables spot.station) v (services_in l)) (sym (after_started y.speech (asked_acknowledged s.acknowledged) sees_more is_passed spot.station (length gs) news k.datagrams fate back dn)) right

      -- ITS NEWS, and the epoch behind it
      abbrev frames : List (Frame (Tagged M Q))
      frames = era_frames spot opened (length gs) gs

      abbrev kept : Kept
      kept = kept_all spot.station nothing_kept frames

      abbrev mine_went : Frame (Tagged M Q)
      mine_went = own_frame spot.station spot.place went

      abbrev pub news : Bool → List (News (Tagged M Q))
      news counts = counted_news counts (frame_news spot.station kept mine_went)

      abbrev pub after : Bool → EraHere
      after counts = behind (news counts)

      pub era_met : (counts : Bool) → IsEra (after counts) (gs ++ went ∷ []) mets.slave
      era_met counts = era_behind (news counts) [] mets.slave mets.ring

      -- THE SLAVE behind the steps
      alike : (counts : Bool) (slave : SlaveHere) → Comes mail (real x) spot.station y seer u processor mets.slave slave → slave_as mail (real x) (slave_steps y seer slave) ≡ slave_steps u processor (slave_as mail (real x) slave)
      alike counts slave c =
          let e = era_behind (news counts) c.steps slave (ap (λ (l : Ring (Rowed V M Q) (Tagged M Q)). ring_steps y seer l c.steps) mets.ring ∙ c.ring) in
          era_steps x core law calm fair s owes lawful stated seer tables spot (after counts) opened (length (gs ++ went ∷ [])) (gs ++ went ∷ []) (between v) r slave e refl (right_behind (news counts)) u processor serve tells tells_seen carries worded

      pub stepped : (counts : Bool) (ks : List ℕ) → Stepped mail (real x) spot.station y seer u processor mets.slave mets.slave ks
      stepped counts ks = steps mail (real x) spot.station y seer u processor mets.slave (λ slave c. alike counts slave c) ks mets.slave (record { steps = []; ring = refl })

      -- the frames behind it
      pub frames_behind : era_frames spot opened (length (gs ++ went ∷ [])) (gs ++ went ∷ []) ≡ frames ++ mine_went ∷ []
      frames_behind = ap (λ j. era_frames spot opened j (gs ++ went ∷ [])) (pushed gs went) ∙ frames_push spot opened gs went later

      module _ (more_tells : LastTells x more) where
        -- WHAT WAS HEARD by it is told by its contents, and was accepted
        pub news_tell : Bool → ByContents x.speech.emission (mails_heard (frame_news spot.station kept mine_went))
        news_tell counts =
            let known = era_knows x core law calm fair s owes lawful stated seer tables spot (after counts) opened (length (gs ++ went ∷ [])) (gs ++ went ∷ []) (between v) r mets.slave (era_met counts) refl (right_behind (news counts)) more more_tells in
            by_behind x.speech.emission (heard spot.station frames) (mails_heard (frame_news spot.station kept mine_went))
            (subst (ByContents x.speech.emission) (ap (heard spot.station) frames_behind ∙ heard_push spot.station frames mine_went) known.tells)

        pub accepted_is : mails_heard (frame_news spot.station kept mine_went) ≡ all_accepted spot.station dn.side.halves (grams (Own.own spot.station back))
        accepted_is =
            let known = era_knows x core law calm fair s owes lawful stated seer tables spot d opened (length gs) gs (between v) r m is refl before more more_tells in
            let choice = Accounts.mails_choice d.account (granted d.passing mine) in
            let b = side_begins y.speech (length gs) d.side d.side.now choice.begin in
            let inn : dn.side.halves.inn ≡ d.side.halves.inn =
            next_inn y.speech b (next_mail y.speech b.now b.halves.out.holding choice.hold) ∙ ap (λ h. h.inn) (began_halves y (length gs) d.side d.side.now choice.begin) in
            heard_frame spot.station kept dn.side.halves mine_went (ap (λ h. h.last) inn ∙ known.kept)
