-- ALL SLAVES OVER A FRAME: behind it each desk is what the lives have, and each datagram that was passed on got what is its own.
use Rattle.std.proofs.Common.{◌≡◌, ◌≤◌, ℕ, zero, suc, ◌+◌, Bool, true, false, Option, Some, None, List, [], ◌∷◌, ◌++◌, map, refl, sym, ap, ◌∙◌, subst, arith}
use Rattle.std.specs.Prelude.{◌≢◌, ◌&&◌, cond, filter, if◌then◌else◌, slice_get, All, Ok}
use Rattle.std.proofs.lemmas.List.Elements.{All-nil, All-cons, All-head, All-tail, All-filter, All-weaker}
use Rattle.gateway_core.specs.Framing.{request_in}
use Rattle.run_record.proofs.of_served_places.All.{goes_told, same_stand, turn_held}
use Rattle.run_record.proofs.of_served_places.Held.{next_has}
use Rattle.run_record.proofs.of_served_places.Next.{next_free, next_passing}
use Rattle.run_record.proofs.of_life_runs.Tells.{HasPassed}
use Rattle.run_record.specs.of_served_places.Rows.{AreAll, HearsNoMore, IsHeld, StandsTold, ToldAll}
use Rattle.run_record.specs.of_life_runs.Served.{AllServedTurn, IsServedTurn, Keyed, ServedComes, Serves, ServedTurn, TellsSo, gives_it}
use Rattle.run_record.specs.of_life_runs.Told.{Passed, replies_in, told_on}
use Rattle.gateway_core.specs.of_mailbox_mail.declared.mail.Mail.{Mail}
use Rattle.run_record.proofs.of_master_node.Counts.{lost_gave}
use Rattle.run_record.proofs.of_master_node.Handeds.{comes_own}
use Rattle.run_record.specs.of_master_node.Begins.{begun_of as began_of}
use Rattle.run_record.specs.of_master_node.Events.{begun_told, oldest_in, served_tells}
use Rattle.run_record.specs.of_master_node.Listing.{number_at, told_in}
use Rattle.run_record.specs.of_master_node.Serving.{run_lead, run_turn, serves_of}
use Rattle.run_record.specs.of_master_node.Shows.{is_carried}
use Rattle.run_record.specs.of_master_node.Wants.{gave_of}
use Rattle.run_record.specs.of_master_node.declared.event.Event.{Event}
use Rattle.run_record.specs.of_master_node.declared.event.Event.TheVariants as events
use Rattle.run_record.specs.of_life_runs.Lives.{LifeKept}
use Rattle.run_record.specs.of_datagrams.Datagram as Raw
use Rattle.run_record.specs.of_datagrams.Frame.{IsFrame, chained}
use Rattle.run_record.specs.of_frame_view.Seen.{seen}
use Rattle.run_record.specs.of_frame_view.View.{Lens}
use Rattle.run_record.specs.of_frame_view.Shares.{AllBoth, given_where}
use Rattle.run_record.specs.of_life_model.Lives.{Life, Stand, life_lost}
use Rattle.run_record.specs.of_life_runs.Led.{speech_at}
use Rattle.run_record.specs.of_link_mails.Body.{Body}
use Rattle.run_record.specs.of_segment_plan.declared.service.Service as Plan
use Rattle.run_record.specs.of_state_model.Stated.{Service}
use Rattle.run_record.specs.of_master_duty.Reply.{Reply}
use Rattle.run_record.specs.of_master_hand.Spoken.{Asked, acknowledged, is_followed, is_passed}
use Rattle.run_record.specs.of_master_side.Passing.{news_back, news_lost, passing_behind}
use Rattle.run_record.specs.of_master_tour.Brings.{accepted_in}
use Rattle.run_record.specs.of_master_tour.Goes.{holds_at}
use Rattle.run_record.specs.of_master_tour.Made.{is_in}
use Rattle.run_record.specs.of_segment_model.Ends.{Passing}
use Rattle.run_record.specs.of_segment_model.Returned.{Returns}
use Rattle.run_record.specs.of_segment_ring.declared.wire.Fate.{Fate}
use Rattle.run_record.specs.of_segment_ring.declared.wire.Fate.TheVariants.{Pass, Lost}
use Rattle.run_record.specs.of_run_book.declared.book.GramIn.{GramIn}
use Rattle.run_record.proofs.Noted.{next_gives, pass_gives}
use Rattle.gateway_run.specs.Account.{Owing, left_by_all, owed_by_all}
use Rattle.gateway_run.specs.Desk.{AreApart}
use Rattle.gateway_run.specs.Rooms.{begun_of, done_by_all, has_begun, owed_for, requests_of, waiting_of}
use Rattle.gateway_run.specs.Replies.{AllDesk, Fares, GivesAll, IsDesk, IsOurs}
use Rattle.gateway_run.specs.declared.desk.Request.{Request}
use Rattle.gateway_run.proofs.Behind.{in_hand}
use Rattle.gateway_run.proofs.Befores.{HasBefore, rows_next}
use Rattle.gateway_run.proofs.Begins.{HasBegun}
use Rattle.gateway_run.proofs.Losts.{tells_lost}
use Rattle.gateway_run.proofs.Places.{told_where}
use Rattle.gateway_run.proofs.Rooms.{IsOwnKey, begun_here, not_same, waits_here}
use Rattle.gateway_run.proofs.Rounds.{AllKnown, HasStepped, IsOrderly, SlaveSteps, slave_first, slave_steps, tells_by}
use Rattle.gateway_run.proofs.Tolds.{begun_at, begun_own, frame_so, goes_so, shown, shown_none, shown_own, shows, shows_at, shows_beyond, where_all}
use Rattle.gateway_run.proofs.Views.{AreOf, events_unlike}

-- A KEY IS OF ONE SLAVE ALONE that the one request has which a test keeps
key_apart : (p : Request → Bool) (rs : List Request) (r : Request) (rest : List Request) → AreApart rs → filter p rs ≡ r ∷ rest → All (λ (q : Request). p q ≡ false → q.key ≢ r.key) rs
key_apart p [] r rest a e = All-nil (λ (q : Request). p q ≡ false → q.key ≢ r.key)
key_apart p (q ∷ rs) r rest a e = go (p q) refl (λ less. key_apart p rs r rest a.1 less)
  where
    Apart : Request → Type 0
    Apart z = p z ≡ false → z.key ≢ r.key

    go : (b : Bool) → p q ≡ b → (filter p rs ≡ r ∷ rest → All Apart rs) → All Apart (q ∷ rs)
    go true t on =
        let all : q ∷ filter p rs ≡ r ∷ rest = sym (ap (λ (y : Bool). cond y (q ∷ filter p rs) (filter p rs)) t) ∙ e in
        let same : q ≡ r = cc in
        All-cons Apart q rs (λ f. absurd (let bad : true ≡ false = sym t ∙ f in cc))
        (All-weaker (λ (z : Request). z.key ≢ q.key) Apart (λ z off f k. off (k ∙ ap (λ (y : Request). y.key) (sym same))) rs a.0)
    go false t on =
        let less : filter p rs ≡ r ∷ rest = sym (ap (λ (y : Bool). cond y (q ∷ filter p rs) (filter p rs)) t) ∙ e in
        let off : q.key ≢ r.key = (λ s. All-head (λ (z : Request). z.key ≢ q.key) r rest (subst (All (λ (z : Request). z.key ≢ q.key)) less (All-filter p (λ (z : Request). z.key ≢ q.key) rs a.0)) (sym s)) in
        All-cons Apart q rs (λ f. off) (on less)

not_begun : (i : ℕ) (r : Request) → r.slave ≢ i → has_begun i r ≡ false
not_begun i r off = ap (λ (z : Bool). z && r.begun) (not_same r.slave i off)

-- so the key of the mail in hand is its slave's
own_key : (gs : List GramIn) (i : ℕ) (w : Serves) (os : List Owing) (came : List ℕ) (rs : List Request) (p : Passed) (x : Passing) → w.hand ≡ Some p → w.lead.lived.life.era.passing ≡ Some x → AreApart rs →
    IsDesk gs os i w came (waiting_of i rs) (begun_of i rs) → IsOwnKey i p.key rs
own_key gs i w os came rs p x h e apart d =
    let it = in_hand gs i w w os [] came rs p [] h x e d in
    All-weaker (λ (q : Request). has_begun i q ≡ false → q.key ≢ it.request.key) (λ (q : Request). q.slave ≢ i → q.key ≢ p.key) (λ q off s k. off (not_begun i q s) (k ∙ it.for_it.key)) rs (key_apart (has_begun i) rs it.request [] apart it.is)

-- what stands at a place
holds_here : {S : Type 0} (test : S → Bool) (xs : List S) (k : ℕ) (x : S) → slice_get xs k ≡ Some x → holds_at test xs k ≡ test x
holds_here test [] k x e = absurd (cc)
holds_here test (y ∷ xs) zero x e = ap test (let same : y ≡ x = cc in same)
holds_here test (y ∷ xs) (suc k) x e = holds_here test xs k x e

-- WHERE NO MAIL IS IN HAND that was passed on, none is under way of an open slave, before a frame too
module _ (lens : ℕ → Lens) (made : ℕ) (ds : List Raw.Datagram) (w : Serves) (v : ServedTurn) (t : IsServedTurn lens made ds w v) (free : w.hand ≡ None → w.lead.lived.life.stand ≡ Stand.Open → w.lead.lived.life.era.passing ≡ None) where
  turn_free : v.hand ≡ None → v.turn.lived.life.stand ≡ Stand.Open → v.turn.lived.life.era.passing ≡ None
  turn_free none opened = go (lens w.lead.lived.spot.station).out w.lead.number v.turn.number w.lead.script w.waits v.waits w.hand v.hand v.turn.begun t.comes refl refl none
    where
      is : (b : Option (Service Asked)) → v.turn.begun ≡ b → v.turn.lived.life.era.passing ≡ passing_behind is_passed w.lead.lived.life.era.passing b
      is b e = next_passing lens made ds w v t ∙ ap (passing_behind is_passed w.lead.lived.life.era.passing) e

      own_passing : (s : Service Asked) → ((q : Asked) → s ≡ Service.Mails q → is_passed q ≡ false) → (p : Option Passing) → passing_behind is_passed p (Some s) ≡ p
      own_passing (Service.State target) own p = refl
      own_passing (Service.Mails q) own p = ap (λ z. if z then Some Passing.Waiting else p) (own q refl)

      go : (room n m : ℕ) (script : List Plan.Service) (waits rest : List Keyed) (hand after : Option Passed) (b : Option (Service Asked)) → ServedComes room script waits hand n b m rest after → w.hand ≡ hand → v.turn.begun ≡ b → after ≡ None →
          v.turn.lived.life.era.passing ≡ None
      go _ _ _ _ _ _ _ _ _ ServedComes.none h e a = is None e ∙ free (h ∙ a) (sym (same_stand lens made ds w v t) ∙ opened)
      go room n _ script _ _ _ _ _ (ServedComes.own s m own) h e a =
          is (Some s) e ∙ own_passing s (λ q z. comes_own room script n m (Some s) own q (ap Some z)) w.lead.lived.life.era.passing ∙ next_free lens made ds w v t s e
      go _ _ _ _ _ _ _ _ _ (ServedComes.mail k rest q) h e a = absurd (let bad : Some (record { key = k.key; mail = k.mail; told = [] }) ≡ None = a in cc)

-- WHAT IS KNOWN OF A SLAVE between frames: it is open while the mail passed on last is its newest, what was told of that are all its replies where it is over; it
-- has a station, and the record its counters; and before the frame of this number it was given up and its rows began
pub record IsLively (made : ℕ) (w : Serves) : Type 0 where
  pub before : HasBefore made w
  pub held : IsHeld w
  pub had : (p : Passed) → w.hand ≡ Some p → HasPassed p w.lead.lived.life
  pub free : w.hand ≡ None → w.lead.lived.life.stand ≡ Stand.Open → w.lead.lived.life.era.passing ≡ None
  pub told : ToldAll w
  pub named : 1 ≤ w.lead.lived.spot.station
  pub kept : LifeKept w.kept w.lead.lived.life

module _ (lens : ℕ → Lens) (recover retry : ℕ) (gives : Bool) (made : ℕ) (sent back : List ℕ) (fate : Fate) (gs : List GramIn) (rs : List Request) (os : List Owing) (dones : List ℕ) (ws : List Serves) (vs : List ServedTurn) (forwards : ℕ → ℕ) (first second : List ℕ) where
  abbrev pub begins : ℕ → List Event
  begins k = served_tells ws k (forwards k) (began_of (map run_turn vs) k)

  abbrev pub turned_shows : ℕ → List Event
  turned_shows k = shows lens recover retry gives made sent back vs fate k

  abbrev pub after_begins : List Request
  after_begins = left_by_all (told_in begins first) rs

  abbrev pub after_all : List Request
  after_all = left_by_all (told_in turned_shows second) after_begins

  abbrev pub besides : List Owing
  besides = owed_by_all (told_in turned_shows second) after_begins

  abbrev pub ends : List ℕ
  ends = done_by_all (told_in turned_shows second) after_begins

  abbrev pub goes : ServedTurn → Serves
  goes v = goes_so lens recover retry gives made sent back fate v

  -- WHAT IS KNOWN OF THE FRAME
  pub record IsKnown : Type 0 where
    pub datagrams : List Raw.Datagram
    pub is : IsFrame sent (chained datagrams)
    pub returns : fate ≡ Pass → Returns (seen lens sent) (seen lens back)
    pub orderly : IsOrderly made gs rs dones first second
    pub others : (k : ℕ) → is_in k first ≡ false → began_of (map run_turn vs) k ≡ None
    pub carried : (k : ℕ) → holds_at (λ v. is_carried v.turn) vs k ≡ true → is_in k second ≡ true

  module _ (k : IsKnown) where
    begins_own : (j : ℕ) → AreOf j rs (begins j)
    begins_own j = begun_own j (number_at (map run_lead ws) j) (forwards j) (oldest_in ws j) (began_of (map run_turn vs) j) rs

    -- ONE SLAVE
    module _ (i : ℕ) (w : Serves) (v : ServedTurn) (came : List ℕ) (at_v : slice_get vs i ≡ Some v) (turn : IsServedTurn lens made k.datagrams w v) (lively : IsLively made w) where
      -- the frame left it out
      left_out : is_in i second ≡ false → v.turn.share.under ≡ false
      left_out e = go v.turn.share.under refl
        where
          go : (b : Bool) → v.turn.share.under ≡ b → b ≡ false
          go true u = absurd (let bad : true ≡ false = sym (k.carried i (holds_here (λ v. is_carried v.turn) vs i v at_v ∙ u)) ∙ e in cc)
          go false u = refl

      begins_is : told_where begins i first ≡ begun_told i (number_at (map run_lead ws) i) (forwards i) (oldest_in ws i) v.turn.begun
      begins_is =
          where_all begins i first (λ e. ap (begun_told i (number_at (map run_lead ws) i) (forwards i) (oldest_in ws i)) (k.others i e))
          ∙ ap (begun_told i (number_at (map run_lead ws) i) (forwards i) (oldest_in ws i)) (begun_at vs i v at_v)

      shown_is : told_where turned_shows i second ≡ shown lens recover retry gives made sent back fate i v
      shown_is =
          where_all turned_shows i second
          (λ e. shows_at lens recover retry gives made sent back vs fate i v at_v ∙ shown_none lens recover retry gives made sent back fate k.datagrams w v k.is turn k.returns lively.named (left_out e) i)
          ∙ shows_at lens recover retry gives made sent back vs fate i v at_v

      first_desk : IsDesk gs os i w came (waiting_of i rs) (begun_of i rs) → HasBegun lens made k.datagrams w v turn gs i os came (requests_of i rs) (requests_of i after_begins)
      first_desk d =
          slave_first lens recover retry gives made sent back gs rs os dones begins turned_shows first second i w v came k.orderly.once1 begins_own k.datagrams turn (number_at (map run_lead ws) i) (forwards i) (oldest_in ws i) begins_is (next_gives lens made w.lead.lived v.turn.lived turn.next) k.orderly.early d

      -- what is told of it behind the frame is told under its own keys
      shows_own : IsDesk gs os i w came (waiting_of i rs) (begun_of i rs) → AreOf i after_begins (turned_shows i)
      shows_own d =
          subst (AreOf i after_begins) (sym (shows_at lens recover retry gives made sent back vs fate i v at_v))
          (shown_own lens recover retry gives made sent back fate i v after_begins
          (λ p h x e. own_key gs i (serves_of v) os begun.comes after_begins p x h e (events_unlike (λ (r : Request). r.key) (λ r. refl) (told_in begins first) rs k.orderly.apart) desk))
        where
          begun : HasBegun lens made k.datagrams w v turn gs i os came (requests_of i rs) (requests_of i after_begins)
          begun = first_desk d

          desk : IsDesk gs os i (serves_of v) begun.comes (waiting_of i after_begins) (begun_of i after_begins)
          desk = subst (λ bs. IsDesk gs os i (serves_of v) begun.comes (waiting_of i after_begins) bs) (begun_here i after_begins)
              (subst (λ qs. IsDesk gs os i (serves_of v) begun.comes qs (begun_of i (requests_of i after_begins))) (waits_here i after_begins) begun.desk)

    -- WHAT STANDS AT A PLACE of all
    pub record IsAt (n : ℕ) (v : ServedTurn) : Type 0 where
      pub slave : Serves
      pub came : List ℕ
      pub turn : IsServedTurn lens made k.datagrams slave v
      pub lively : IsLively made slave
      pub desk : IsDesk gs os n slave came (waiting_of n rs) (begun_of n rs)

    at_place : (i : ℕ) (ws' : List Serves) (vs' : List ServedTurn) (nss : List (List ℕ)) → AllServedTurn lens made k.datagrams ws' vs' → All (IsLively made) ws' → AllDesk gs rs os i ws' nss → (j n : ℕ) (v : ServedTurn) → n ≡ i + j → slice_get vs' j ≡ Some v → IsAt n v
    at_place i ws' [] nss t l d j n v e a = absurd (cc)
    at_place i [] (u ∷ vs') nss t l d j n v e a = absurd t
    at_place i (w ∷ ws') (u ∷ vs') [] t l d j n v e a = absurd d
    at_place i (w ∷ ws') (u ∷ vs') (ns ∷ nss) t l d zero n v e a =
        let same : u ≡ v = cc in
        let here : i ≡ n = omega (arith, e) in
        subst (λ m. IsAt m v) here (subst (λ z. IsAt i z) same (record { slave = w; came = ns; turn = t.0; lively = All-head (IsLively made) w ws' l; desk = d.0 }))
    at_place i (w ∷ ws') (u ∷ vs') (ns ∷ nss) t l d (suc j) n v e a = at_place (suc i) ws' vs' nss t.1 (All-tail (IsLively made) w ws' l) d.1 j n v (omega (arith, e)) a

    -- so all that is told behind the frame is told under keys of its own
    module _ (each : AllServedTurn lens made k.datagrams ws vs) (lively : All (IsLively made) ws) (came : List (List ℕ)) (desk : AllDesk gs rs os 0 ws came) where
      all_own : (j : ℕ) → AreOf j after_begins (turned_shows j)
      all_own j = go (slice_get vs j) refl
        where
          go : (o : Option ServedTurn) → slice_get vs j ≡ o → AreOf j after_begins (turned_shows j)
          go None e = subst (AreOf j after_begins) (sym (shows_beyond lens recover retry gives made sent back vs fate j e)) tt
          go (Some v) e = (let a = at_place 0 ws vs came each lively desk j j v (omega arith) e in shows_own j a.slave v a.came e a.turn a.lively a.desk)

      known : AllKnown lens recover retry gives made sent back gs rs os dones begins turned_shows first second
      known = record { orderly = k.orderly; own1 = begins_own; own2 = all_own }

      -- ONE SLAVE over the frame
      module _ (i : ℕ) (w : Serves) (v : ServedTurn) (ns : List ℕ) (at_v : slice_get vs i ≡ Some v) (turn : IsServedTurn lens made k.datagrams w v) (l : IsLively made w) (own : TellsSo (goes v)) where
        -- what is told of it, as it is written of one slave
        shown_as : (z : Fate) → shown lens recover retry gives made sent back z i v ≡ tells_by lens recover retry gives made sent back gs rs os dones begins turned_shows first second i w v ns z
        shown_as Pass = refl
        shown_as (Lost after) = go (gives_it lens recover retry gives (Lost after) v)
          where
            go : (b : Bool) → (if b then events.GivenUp i ∷ [] else []) ≡
                tells_lost lens recover retry gives made after sent back v gs i os besides ns after_begins (λ n. is_in n dones) (λ n. is_in n (dones ++ ends)) b
            go true = refl
            go false = refl

        all_so : (z : Fate) → ToldAll (goes_so lens recover retry gives made sent back z v) → z ≡ Pass → (p : Passed) → v.hand ≡ Some p → (goes_so lens recover retry gives made sent back Pass v).lead.lived.life.era.passing ≡ None →
            AreAll (p.told ++ replies_in v.turn.lived.life.era.passing (accepted_in v.turn.lived.spot v.turn.lived.life (seen lens back)))
        all_so Pass told s p e n =
            subst (λ o. StandsTold o (p.told ++ replies_in v.turn.lived.life.era.passing (accepted_in v.turn.lived.spot v.turn.lived.life (seen lens back)))) n
            (told (record p { told = p.told ++ replies_in v.turn.lived.life.era.passing (accepted_in v.turn.lived.spot v.turn.lived.life (seen lens back)) })
            (ap (told_on v.turn.lived.life.era.passing (accepted_in v.turn.lived.spot v.turn.lived.life (seen lens back))) e))
        all_so (Lost after) told s p e n = absurd (cc)

        -- it stays told of
        pub told_all : ToldAll (goes v)
        told_all = goes_told lens recover retry gives made k.datagrams (frame_so lens recover retry gives made sent back fate) w v k.is turn k.returns l.named l.kept l.held l.told

        -- how often it was given up
        abbrev lost : Life Body Asked Reply
        lost = life_lost (speech_at lens v.turn.lived.spot) acknowledged is_followed is_passed v.turn.lived.spot (news_lost v.turn.lived.spot.station v.kept (seen lens sent)) (seen lens sent) v.turn.lived.life v.turn.lived.life.stand

        lost_same : lost.gave ≡ v.turn.lived.life.gave
        lost_same = lost_gave (speech_at lens v.turn.lived.spot) acknowledged is_followed is_passed recover v.turn.lived.spot v.turn.lived.life (news_lost v.turn.lived.spot.station v.kept (seen lens sent)) (seen lens sent) v.turn.lived.life.stand

        spared_so : (z : Fate) → gives_it lens recover retry gives z v ≡ false → gave_of (goes_so lens recover retry gives made sent back z v).lead ≡ v.turn.lived.life.gave
        spared_so Pass g =
            pass_gives lens recover gives made (frame_so lens recover retry gives made sent back Pass) v.turn.lived v.turn.share (news_back v.turn.lived.spot.station v.kept v.counts (seen lens back)) v.turn.lived.life.gave refl
        spared_so (Lost after) g = ap (λ b. (given_where b recover v.turn.lived.spot made lost).gave) g ∙ lost_same

        given_so : (z : Fate) → gives_it lens recover retry gives z v ≡ true → gave_of (goes_so lens recover retry gives made sent back z v).lead ≡ v.turn.lived.life.gave ++ made ∷ []
        given_so Pass g = absurd (cc)
        given_so (Lost after) g = ap (λ b. (given_where b recover v.turn.lived.spot made lost).gave) g ∙ ap (λ l. l ++ made ∷ []) lost_same

        steps : SlaveSteps lens recover retry gives made sent back gs rs os dones begins turned_shows first second i w v ns fate
        steps = record {
          datagrams = k.datagrams;
          turn = turn;
          number = number_at (map run_lead ws) i;
          forwards = forwards i;
          oldest = oldest_in ws i;
          begins_is = begins_is i w v ns at_v turn l;
          shows_is = shown_is i w v ns at_v turn l ∙ shown_as fate;
          opened = turn_held lens made k.datagrams w v turn l.held;
          own = own;
          had = λ p e. (next_has lens made k.datagrams w v turn l.had p e).tells;
          free = turn_free lens made k.datagrams w v turn l.free;
          all = λ s p e x g n. all_so fate told_all s p e n;
          gave_next = next_gives lens made w.lead.lived v.turn.lived turn.next;
          rows_next = rows_next lens recover retry made k.datagrams w v turn l.before;
          spared = spared_so fate;
          given_up = given_so fate;
        }

        pub one_stepped : IsDesk gs os i w ns (waiting_of i rs) (begun_of i rs) → HasStepped lens recover retry gives made sent back gs rs os dones begins turned_shows first second i w v ns fate
        one_stepped d = slave_steps lens recover retry gives made sent back gs rs os dones begins turned_shows first second i w v ns known fate steps d

      -- ALL FROM A PLACE ON
      pub record AtPlace (n : ℕ) (w : Serves) (ns : List ℕ) (b : Option Serves) (c : Option (List ℕ)) : Type 0 where
        pub after : Serves
        pub is : b ≡ Some after
        pub comes : List ℕ
        pub there : c ≡ Some comes
        pub fares : (number : ℕ) (asked : Mail) (o : IsOurs gs n number) → request_in o.gram.bytes ≡ Ok asked → Fares w ns (waiting_of n rs) (begun_of n rs) (is_in number dones) number o.gram.frame asked (owed_for number os) →
            Fares after comes (waiting_of n after_all) (begun_of n after_all) (is_in number (dones ++ ends)) number o.gram.frame asked (owed_for number (os ++ besides))

      pub record AllStepped (i : ℕ) (ws' : List Serves) (vs' : List ServedTurn) (nss : List (List ℕ)) : Type 0 where
        pub comes : List (List ℕ)
        pub desks : AllDesk gs after_all (os ++ besides) i (map goes vs') comes
        pub told : All ToldAll (map goes vs')
        pub whole : All (HearsNoMore lens recover retry (frame_so lens recover retry gives made sent back fate)) vs' → AllBoth (GivesAll os (λ n. is_in n dones)) ws' nss → AllBoth (GivesAll (os ++ besides) (λ n. is_in n (dones ++ ends))) (map goes vs') comes
        pub at : (j n : ℕ) (w : Serves) (ns : List ℕ) → n ≡ i + j → slice_get ws' j ≡ Some w → slice_get nss j ≡ Some ns → AtPlace n w ns (slice_get (map goes vs') j) (slice_get comes j)

      all_stepped : (i : ℕ) (ws' : List Serves) (vs' : List ServedTurn) (nss : List (List ℕ)) → ((j n : ℕ) → n ≡ i + j → slice_get vs n ≡ slice_get vs' j) → AllServedTurn lens made k.datagrams ws' vs' → All (IsLively made) ws' → All TellsSo (map goes vs') →
          AllDesk gs rs os i ws' nss → AllStepped i ws' vs' nss
      all_stepped i [] [] [] front t l o d = record { comes = []; desks = tt; told = All-nil ToldAll; whole = λ quiet all. tt; at = λ j n w ns e a b. absurd (let bad : None ≡ Some w = a in cc) }
      all_stepped i [] [] (ns ∷ nss) front t l o d = absurd d
      all_stepped i [] (v ∷ vs') nss front t l o d = absurd t
      all_stepped i (w ∷ ws') [] nss front t l o d = absurd t
      all_stepped i (w ∷ ws') (v ∷ vs') [] front t l o d = absurd d
      all_stepped i (w ∷ ws') (v ∷ vs') (ns ∷ nss) front t l o d =
          let here : slice_get vs i ≡ Some v = front 0 i (omega arith) in
          let lively_here = All-head (IsLively made) w ws' l in
          let own_here = All-head TellsSo (goes v) (map goes vs') o in
          let s = one_stepped i w v ns here t.0 lively_here own_here d.0 in
          let later = all_stepped (suc i) ws' vs' nss (λ j n e. front (suc j) n (omega (arith, e))) t.1 (All-tail (IsLively made) w ws' l) (All-tail TellsSo (goes v) (map goes vs') o) d.1 in
          let one : AtPlace i w ns (Some (goes v)) (Some s.comes) = record { after = goes v; is = refl; comes = s.comes; there = refl; fares = s.fares } in
          record {
            comes = s.comes ∷ later.comes;
            desks = (s.desk, later.desks);
            told = All-cons ToldAll (goes v) (map goes vs') (told_all i w v ns here t.0 lively_here own_here) later.told;
            whole = λ quiet all. (
              s.whole (All-head (HearsNoMore lens recover retry (frame_so lens recover retry gives made sent back fate)) v vs' quiet) all.0,
              later.whole (All-tail (HearsNoMore lens recover retry (frame_so lens recover retry gives made sent back fate)) v vs' quiet) all.1,
            );
            at = places i w ws' (goes v) (map goes vs') ns nss s.comes later.comes one later.at;
          }
        where
          places : (i : ℕ) (w : Serves) (ws' : List Serves) (b : Serves) (bs : List Serves) (ns : List ℕ) (nss : List (List ℕ)) (c : List ℕ) (cs : List (List ℕ)) → AtPlace i w ns (Some b) (Some c) →
              ((j n : ℕ) (w : Serves) (ns : List ℕ) → n ≡ suc i + j → slice_get ws' j ≡ Some w → slice_get nss j ≡ Some ns → AtPlace n w ns (slice_get bs j) (slice_get cs j)) →
              (j n : ℕ) (u : Serves) (ms : List ℕ) → n ≡ i + j → slice_get (w ∷ ws') j ≡ Some u → slice_get (ns ∷ nss) j ≡ Some ms → AtPlace n u ms (slice_get (b ∷ bs) j) (slice_get (c ∷ cs) j)
          places i w ws' b bs ns nss c cs one later zero n u ms e a f =
              let same : w ≡ u = cc in
              let came_same : ns ≡ ms = cc in
              let here : i ≡ n = omega (arith, e) in
              subst (λ m. AtPlace m u ms (Some b) (Some c)) here (subst (λ z. AtPlace i z ms (Some b) (Some c)) same (subst (λ z. AtPlace i w z (Some b) (Some c)) came_same one))
          places i w ws' b bs ns nss c cs one later (suc j) n u ms e a f = later j n u ms (omega (arith, e)) a f

      pub all_turned : All TellsSo (map goes vs) → AllStepped 0 ws vs came
      all_turned own = all_stepped 0 ws vs came (λ j n e. ap (slice_get vs) (let same : n ≡ j = omega (arith, e) in same)) each lively own desk
