-- TURN BY TURN: a mail that is passed on, has no reply and is over was taken: its slave has carried out all services by mails that came into hand.
use Rattle.std.proofs.Common.{◌≡◌, ◌⊎◌, inl, inr, ℕ, suc, ◌+◌, ◌<◌, ◌≤◌, ◌&&◌, Bool, true, false, Option, Some, None, List, [], ◌∷◌, ◌++◌, map, length, refl, ap, ap₂, sym, ◌∙◌, subst, arith, append-nil, length-append, if◌then◌else◌}
use Rattle.std.specs.Prelude.{⊤, nat_lt}
use Rattle.served_places.proofs.of_exchange_model.Lists.{append_cancel, append_none}
use Rattle.served_places.proofs.of_exchange_model.Words.{plain-append}
use Rattle.served_places.specs.of_exchange_model.Exchange.{Exchange, IsLawful, plain}
use Rattle.served_places.specs.of_exchange_model.Rows.{Row, row_heard}
use Rattle.run_work.proofs.of_life_counts.Marks.{newest_last, none_plain}
use Rattle.run_work.specs.of_life_counts.Epochs.{newest_of}
use Rattle.served_places.proofs.of_life_model.Eras.{frames_length, frames_push, of_one, session_of}
use Rattle.served_places.specs.of_life_model.Eras.{OpenEra, era_frames, planned}
use Rattle.served_places.specs.of_life_model.Lives.{Spot, Era, era_after, granted, passes, passing_begins}
use Rattle.served_places.specs.of_life_model.Own as Own
use Rattle.served_places.specs.of_life_model.Own.{own_fate, own_frame}
use Rattle.served_places.specs.of_link_model.Frames.{all_accepted}
use Rattle.served_places.specs.of_link_model.Segment.{RingFate}
use Rattle.served_places.proofs.of_few_replies.Founds.{AllFindNone, empty_was, late_tells, sees_empty, sees_late}
use Rattle.run_work.specs.of_few_replies.Led.{AreSingle, EraTurn, IsLed, MayTurn, frame_in, news_in, turn_after, turn_next}
use Rattle.served_places.proofs.of_segment_model.Answers.{kept_of}
use Rattle.served_places.proofs.of_segment_model.News.{heard_told, mails_heard-append}
use Rattle.served_places.proofs.of_segment_model.Posts.{news-push}
use Rattle.served_places.proofs.of_segment_model.Rising.{RisesNow, next_rises}
use Rattle.served_places.proofs.of_segment_model.Written.{back_tells, mails_told}
use Rattle.served_places.specs.of_segment_model.Ends.{Passing, all_written}
use Rattle.served_places.specs.of_segment_model.Record.{Frame, News, all_told, back_news, joined, mails_heard, news_from}
use Rattle.served_places.specs.of_segment_model.Seats.{Side, newest, rows_of}
use Rattle.served_places.specs.of_segment_model.Slaves.{Datagram, Processor, Registers, Slave, frame_after, grams, ring_back}
use Rattle.served_places.specs.of_serving_model.Tagged.{no_reply}
use Rattle.served_places.specs.of_state_model.Stated.{IsStated, Service, Stated}
use Rattle.served_places.specs.of_state_model.States.{Table}
use Rattle.served_places.proofs.of_state_model.Completed.{started_back}
use Rattle.served_places.proofs.of_state_model.Sessions.{of_slaves}
use Rattle.served_places.specs.of_state_model.Accounts.{Account, Duty, account_begins, duty_access, is_free, mails_choice, starts}
use Rattle.served_places.specs.of_state_model.Promise.{mails_in, services_in}
use Rattle.served_places.specs.of_state_model.Tasks.{IsTaskPlan}
use Rattle.served_rings.proofs.Sessions.{led_later, led_session}
use Rattle.served_rings.proofs.TakenNow.{AtMoment, IsByMails, at_moment}
use Rattle.served_rings.proofs.Turned.{Comes, Goes, GoesOn, NowGoes, accepted_of, by_mails, turned}
use Rattle.served_rings.proofs.TakenBy.{Part, PartOf, comes_on, finds_none, one_more, longer, turn_grows}

module _ {V A M Q R : Type 0} (x : Exchange V A M Q R) (law : IsLawful x) (s : Stated V A Q) (stated : IsStated x s) (processor : Processor V) (table : ℕ → Table) (more : M → Bool) (passed : Q → Bool) (single : (q : Q) → passed q ≡ true → length (x.speech.planned q []) ≡ 1)
    (spot : Spot) (opened : ℕ) (v : V) (r : Registers) (plan : IsTaskPlan x s processor table (planned spot v r ∷ [])) (answers : r.station ≡ spot.station) where
  abbrev Led : List (Frame M) → Bool → Era M Q R → Slave V M → Type 0
  Led fs counts e n = IsLed x s.acknowledged processor more passed spot opened v r fs counts e n

  abbrev framed : List (Frame M) → List (Frame M)
  framed fs = era_frames spot opened (length fs) fs

  abbrev pub counted : Slave V M → ℕ
  counted n = x.handled n.node.server.server

  abbrev record_of : List (Frame M) → Row M Q R → List (News M)
  record_of fs row = joined (news_from spot.station row.frame (framed fs))

  -- at each moment
  pub at : (fs : List (Frame M)) (counts : Bool) (e : Era M Q R) (n : Slave V M) → Led fs counts e n → AtMoment x spot.station (framed fs) v e.side e.account n
  at fs counts e n l =
      let era : OpenEra V A M Q R = record {
        exchange = x;
        states = s;
        processor = processor;
        table = table;
        spot = spot;
        era = e;
        opened = opened;
        end = length fs;
        frames = fs;
        server = v;
        registers = r;
        slave = n;
        lawful = law;
        stated = stated;
        is = led_session x s processor table more passed spot opened v r plan answers fs counts e n l;
      } in
      let P : Table → List (Frame M) → ℕ → V → Side M Q R → Account Q R → Slave V M → Type 0 = (λ t gs station start d a m. AtMoment x station gs start d a m) in
      let z = session_of era in
      of_one era (λ station start d a m. P (table station) (framed fs) station start d a m)
      (of_slaves z.exchange z.lawful z.states z.stated z.processor z.table (λ m. false) z.planned.tells z.plan z.planned z.sides z.accounts z.ring z.frames z.tasked P
      (λ t begun it gs seat a h. at_moment z.exchange z.lawful z.states z.stated t (λ m. false) begun it gs seat a h))

  -- all rows are carried out
  abbrev pub All : Side M Q R → Slave V M → Type 0
  All d n = x.handled v + length (rows_of d) ≤ counted n

  -- of these rows, the first of which has this number, each mail that is passed on and has no reply is among those that are counted
  abbrev pub AreDone : ℕ → ℕ → List (Row M Q R) → Type 0
  AreDone done number [] = ⊤
  AreDone done number (k ∷ ks) = (passed k.service ≡ true → x.speech.handed k.service ≡ true → x.handled v + suc number ≤ done) × AreDone done (suc number) ks

  more_done : (a b : ℕ) → a ≤ b → (number : ℕ) (ks : List (Row M Q R)) → AreDone a number ks → AreDone b number ks
  more_done a b le number [] all = tt
  more_done a b le number (k ∷ ks) all = ((λ passes posts. let one = all.0 passes posts in omega (arith, one, le)), more_done a b le (suc number) ks all.1)

  push_done : (done number : ℕ) (ks : List (Row M Q R)) (k : Row M Q R) → AreDone done number ks → (passed k.service ≡ true → x.speech.handed k.service ≡ true → x.handled v + suc (number + length ks) ≤ done) → AreDone done number (ks ++ k ∷ [])
  push_done done number [] k all one = ((λ passes posts. let o = one passes posts in omega (arith, o)), tt)
  push_done done number (z ∷ ks) k all one = (all.0, push_done done (suc number) ks k all.1 (λ passes posts. let o = one passes posts in omega (arith, o)))

  -- THE NEWEST: while its mail isn't over it is the newest that came into hand; and its slave carried out all rows, or the record has come so far of it
  pub record Stands (fs : List (Frame M)) (e : Era M Q R) (n : Slave V M) (row : Row M Q R) : Type 0 where
    pub mails : (p : Passing) → e.passing ≡ Some p → IsByMails e.account.started
    pub stage : x.speech.handed row.service ≡ true → All e.side n ⊎ PartOf x.speech s.acknowledged more passed e.passing (record_of fs row)

  abbrev pub NowStands : List (Frame M) → Era M Q R → Slave V M → Option (Row M Q R) → Type 0
  NowStands fs e n None = ⊤
  NowStands fs e n (Some row) = passed row.service ≡ true → Stands fs e n row

  pub record Kept (fs : List (Frame M)) (e : Era M Q R) (n : Slave V M) : Type 0 where
    pub past : AreDone (counted n) 0 e.side.past
    pub now : NowStands fs e n e.side.now

  module _ (gs : List (Frame M)) (counts : Bool) (d : Era M Q R) (m : Slave V M) (l : Led gs counts d m) (t : EraTurn V M Q) (may : MayTurn x s.acknowledged processor more passed spot opened gs d m t) (kept : Kept gs d m) where
    abbrev next : Era M Q R
    next = turn_next x s.acknowledged processor more passed spot opened gs d t

    abbrev e : Era M Q R
    e = turn_after x s.acknowledged processor more passed spot opened gs counts d t

    abbrev fs : List (Frame M)
    fs = gs ++ frame_in t ∷ []

    abbrev mine : List (Datagram M)
    mine = Own.own spot.station t.sent

    abbrev F : Frame M
    F = own_frame spot.station spot.place (frame_in t)

    abbrev back : List (News M)
    back = back_news spot.station (kept_of spot.station (framed gs)).heard F.back

    abbrev ts : List M
    ts = all_told spot.station (kept_of spot.station (framed gs)).told (grams F.sent)

    now_at : AtMoment x spot.station (framed fs) v e.side e.account t.slave
    now_at = at fs _ e t.slave (IsLed.goes_on gs counts d m l t may)

    was_later : opened < length gs
    was_later = led_later x s processor table more passed spot opened v r plan answers gs counts d m l

    long : length (framed gs) ≡ length gs
    long = frames_length spot opened gs was_later

    pushed : framed fs ≡ framed gs ++ F ∷ []
    pushed = ap (λ i. era_frames spot opened i fs) (let grown = length-append gs (frame_in t ∷ []) in let same : length fs ≡ suc (length gs) = omega (arith, grown) in same) ∙ frames_push spot opened gs (frame_in t) was_later

    grows : counted m ≤ counted t.slave
    grows = turn_grows x law s stated processor plan.tells (own_fate spot.place t.fate) t.steps spot.station spot.station m t.slave mine may.slave

    -- what came back is what the slave makes of datagrams that found nothing before
    record Came : Type 0 where
      ds : List (Datagram M)
      is : F.back ≡ frame_after spot.station m ds
      clean : AllFindNone spot.station ds
      apart : AreSingle ds

    came : Came
    came = go t.fate refl
      where
        go : (fate : RingFate) → t.fate ≡ fate → Came
        go RingFate.Back f = record {
          ds = mine;
          is = sym (sym (ap (λ z. ring_back ((spot.station, m) ∷ []) mine (own_fate spot.place z)) f) ∙ may.back);
          clean = finds_none spot.station (duty_access next.account.hand) mine may.asks.served;
          apart = may.single;
        }
        go (RingFate.Lost after) f = record { ds = []; is = sym (sym (ap (λ z. ring_back ((spot.station, m) ∷ []) mine (own_fate spot.place z)) f) ∙ may.back); clean = tt; apart = tt }

    late : sees_late back ≡ false
    late = ap (λ z. sees_late (back_news spot.station (kept_of spot.station (framed gs)).heard z)) came.is ∙ late_tells spot.station (kept_of spot.station (framed gs)).heard m came.ds came.clean came.apart

    emptied : sees_empty back ≡ true → m.node.out.box ≡ None
    emptied seen = empty_was spot.station (kept_of spot.station (framed gs)).heard m came.ds came.clean (sym (ap (λ z. sees_empty (back_news spot.station (kept_of spot.station (framed gs)).heard z)) came.is) ∙ seen)

    none_told : mails_told back ≡ []
    none_told = back_tells spot.station (kept_of spot.station (framed gs)).heard F.back

    passing_is : e.passing ≡ passes x.speech s.acknowledged more passed next.passing (news_in spot opened gs counts t)
    passing_is = go t.fate
      where
        go : (fate : RingFate) → (era_after x.speech s.acknowledged more passed spot.station (length gs) (news_in spot opened gs counts t) t.sent fate t.back next).passing ≡ passes x.speech s.acknowledged more passed next.passing (news_in spot opened gs counts t)
        go RingFate.Back = refl
        go (RingFate.Lost after) = refl

    started_is : e.account.started ≡ next.account.started
    started_is = go t.fate
      where
        go : (fate : RingFate) → (era_after x.speech s.acknowledged more passed spot.station (length gs) (news_in spot opened gs counts t) t.sent fate t.back next).account.started ≡ next.account.started
        go RingFate.Back = started_back spot.station (length gs) next.account (Own.own spot.station t.back)
        go (RingFate.Lost after) = refl

    -- THE RECORD of the newest row behind the frame
    module _ (row : Row M Q R) (now : e.side.now ≡ Some row) (began : row.frame ≤ length (framed gs)) (posts : x.speech.handed row.service ≡ true) where
      record_is : record_of fs row ≡ record_of gs row ++ (map (λ m. News.Told m) ts ++ back)
      record_is = ap (λ hs. joined (news_from spot.station row.frame hs)) pushed ∙ news-push spot.station row.frame (framed gs) F began

      none : no_reply x.speech.emission (mails_heard back) ≡ true
      none =
          let k = now_at.now row now in
          let heard : mails_heard (record_of fs row) ≡ mails_heard (record_of gs row) ++ mails_heard back =
          ap mails_heard record_is ∙ mails_heard-append (record_of gs row) (map (λ m. News.Told m) ts ++ back)
          ∙ ap (λ z. mails_heard (record_of gs row) ++ z) (mails_heard-append (map (λ m. News.Told m) ts) back ∙ ap (λ z. z ++ mails_heard back) (heard_told ts)) in
          let all : plain x.speech.emission (mails_heard (record_of gs row)) ++ plain x.speech.emission (mails_heard back) ≡ [] =
          sym (plain-append x.speech.emission (mails_heard (record_of gs row)) (mails_heard back)) ∙ ap (plain x.speech.emission) (sym heard ∙ sym k.hears) ∙ k.quiet posts in
          none_plain x.speech.emission (mails_heard back) (append_none (plain x.speech.emission (mails_heard (record_of gs row))) (plain x.speech.emission (mails_heard back)) all).1

      on : (p : Passing) → next.passing ≡ Some p → Part x.speech s.acknowledged more passed p (record_of gs row) → PartOf x.speech s.acknowledged more passed e.passing (record_of fs row) ⊎ ((p ≡ Passing.Boxed) × (sees_empty back ≡ true))
      on p f part =
          let here : e.passing ≡ passes x.speech s.acknowledged more passed (Some p) (news_in spot opened gs counts t) = passing_is ∙ ap (λ o. passes x.speech s.acknowledged more passed o (news_in spot opened gs counts t)) f in
          subst (λ o. PartOf x.speech s.acknowledged more passed o (record_of fs row) ⊎ ((p ≡ Passing.Boxed) × (sees_empty back ≡ true))) (sym here)
          (subst (λ z. PartOf x.speech s.acknowledged more passed (passes x.speech s.acknowledged more passed (Some p) (news_in spot opened gs counts t)) z ⊎ ((p ≡ Passing.Boxed) × (sees_empty back ≡ true))) (sym record_is)
          (comes_on x.speech s.acknowledged more passed counts (record_of gs row) back ts none_told late none p part))

    -- ---- the newest row goes on
    abbrev wish : Option Passing → Option (Service Q)
    wish o = (granted o t.pick).begin

    abbrev account_by : Option Passing → Account Q R
    account_by o = account_begins x.speech s.acknowledged (length gs) d.side d.account d.account.hand (wish o)

    abbrev passing_by : Option Passing → Option Passing
    passing_by o = passing_begins x.speech s.acknowledged more passed o d.account (account_by o) (wish o)

    same_account : (hand : Option Duty) → account_begins x.speech s.acknowledged (length gs) d.side d.account hand None ≡ d.account
    same_account None = refl
    same_account (Some duty) = refl

    -- no mail that is passed on comes into hand with state services alone
    none_passes : (hand : Option Duty) (begin : Option (Service Q)) (added : List _) → (account_begins x.speech s.acknowledged (length gs) d.side d.account hand begin).started ≡ d.account.started ++ added → mails_in (services_in added) ≡ 0 →
        passing_begins x.speech s.acknowledged more passed None d.account (account_begins x.speech s.acknowledged (length gs) d.side d.account hand begin) begin ≡ None
    none_passes hand None added is states = refl
    none_passes None (Some (Service.State target)) added is states = refl
    none_passes (Some duty) (Some (Service.State target)) added is states = refl
    none_passes (Some duty) (Some (Service.Mails q)) added is states = same_length q (length d.account.started) refl
      where
        same_length : (q : Q) (k : ℕ) → k ≡ length d.account.started → (if passed q && nat_lt (length d.account.started) k then Some Passing.Waiting else None) ≡ None
        same_length q k e = ap (λ b. if passed q && b then Some Passing.Waiting else None) (longer (length d.account.started) k (sym e)) ∙ off (passed q)
          where
            off : (b : Bool) → (if b && false then Some Passing.Waiting else None) ≡ None
            off true = refl
            off false = refl
    none_passes None (Some (Service.Mails q)) added is states = go (x.speech.valid q && is_free x.speech d.side d.side.now) is
      where
        off : (b : Bool) → (if b && false then Some Passing.Waiting else None) ≡ None
        off true = refl
        off false = refl

        go : (b : Bool) → (if b then record d.account { started = starts d.account (Service.Mails q) (length gs) } else d.account).started ≡ d.account.started ++ added →
            (if passed q && nat_lt (length d.account.started) (length (if b then record d.account { started = starts d.account (Service.Mails q) (length gs) } else d.account).started) then Some Passing.Waiting else None) ≡ None
        go true is =
            let same = append_cancel d.account.started (by_mails q (length gs) ∷ []) added is in
            let no : 1 ≡ 0 = ap (λ l. mails_in (services_in l)) same ∙ states in
            absurd (omega (arith, no))
        go false is = ap (λ b. if passed q && b then Some Passing.Waiting else None) (longer (length d.account.started) (length d.account.started) refl) ∙ off (passed q)

    module _ (ms : List M) (g : GoesOn ms d.account.started d.side e.account.started e.side) where
      goes_row : (old row : Row M Q R) → d.side.now ≡ Some old → e.side.now ≡ Some row → Goes ms old row → (passed old.service ≡ true → Stands gs d m old) → passed row.service ≡ true → Stands fs e t.slave row
      goes_row old row was now goes stood pass = go d.passing refl
        where
          k : Stands gs d m old
          k = stood (ap passed (sym goes.service) ∙ pass)

          same_length : length (rows_of e.side) ≡ length (rows_of d.side)
          same_length =
              let l1 = ap (λ z. length (e.side.past ++ newest z)) now ∙ length-append e.side.past (row ∷ []) in
              let l2 = ap (λ z. length (d.side.past ++ newest z)) was ∙ length-append d.side.past (old ∷ []) in
              let l3 = ap length g.past in
              let one : length (row ∷ []) ≡ length (old ∷ []) = refl in
              omega (arith, l1, l2, l3, one)

          all_on : All d.side m → All e.side t.slave
          all_on all = let more = grows in let l = same_length in omega (arith, all, more, l)

          began : row.frame ≤ length (framed gs)
          began = subst (λ z. z ≤ length (framed gs)) (sym goes.frame) ((at gs counts d m l).now old was).begun

          old_posts : x.speech.handed row.service ≡ true → x.speech.handed old.service ≡ true
          old_posts posts = ap x.speech.handed (sym goes.service) ∙ posts

          same_record : record_of gs old ≡ record_of gs row
          same_record = ap (λ z. joined (news_from spot.station z (framed gs))) (sym goes.frame)

          by : (o : Option Passing) → d.passing ≡ o → PartOf x.speech s.acknowledged more passed o (record_of gs old) → x.speech.handed row.service ≡ true → ((q : Passing) → o ≡ Some q → IsByMails d.account.started) →
              All e.side t.slave ⊎ PartOf x.speech s.acknowledged more passed e.passing (record_of fs row)
          by None f part posts mails = absurd part
          by (Some q) f part posts mails = elim (on row now began posts q (ap passing_by f) (subst (Part x.speech s.acknowledged more passed q) same_record part)) [
            | inl z ↦ inr z
            | inr z ↦
                let b = (at gs counts d m l).now old was in
                let boxed_part : all_written 1 (record_of gs old) ≡ true = subst (λ p. Part x.speech s.acknowledged more passed p (record_of gs old)) z.0 part in
                let count = single old.service (ap passed (sym goes.service) ∙ pass) in
                let over = b.written (old_posts posts) (ap (λ n. all_written n (record_of gs old)) count ∙ boxed_part) in
                inl (all_on (b.taken (mails q refl) (old_posts posts) over.0 over.1 (emptied z.1)))
          ]

          stage : x.speech.handed row.service ≡ true → All e.side t.slave ⊎ PartOf x.speech s.acknowledged more passed e.passing (record_of fs row)
          stage posts = elim (k.stage (old_posts posts)) [
            | inl all ↦ inl (all_on all)
            | inr part ↦ by d.passing refl part posts k.mails
          ]

          go : (o : Option Passing) → d.passing ≡ o → Stands fs e t.slave row
          go (Some q) f = record {
            mails = λ p is. subst IsByMails (sym (started_is ∙ ap (λ z. (account_by z).started) f ∙ ap (λ (z : Account Q R). z.started) (same_account d.account.hand))) (k.mails q f);
            stage = stage;
          }
          go None f = record {
            mails = λ p is.
                let none_next : next.passing ≡ None = ap passing_by f ∙ none_passes d.account.hand (wish None) g.added (ap (λ z. (account_by z).started) (sym f) ∙ sym started_is ∙ g.started) g.states in
                let no : None ≡ Some p = sym (passing_is ∙ ap (λ o. passes_here o) none_next) ∙ is in
                absurd (let bad : None ≡ Some p = no in cc);
            stage = stage;
          }
            where
              passes_here : Option Passing → Option Passing
              passes_here o = passes x.speech s.acknowledged more passed o (news_in spot opened gs counts t)

      goes_now : (old now : Option (Row M Q R)) → d.side.now ≡ old → e.side.now ≡ now → NowGoes ms old now → NowStands gs d m old → NowStands fs e t.slave now
      goes_now None None was is goes stood = tt
      goes_now None (Some row) was is goes stood = absurd goes
      goes_now (Some old) None was is goes stood = absurd goes
      goes_now (Some old) (Some row) was is goes stood = goes_row old row was is goes stood

      goes : Kept fs e t.slave
      goes = record {
        past = subst (AreDone (counted t.slave) 0) (sym g.past) (more_done (counted m) (counted t.slave) grows 0 d.side.past kept.past);
        now = goes_now d.side.now e.side.now refl refl g.now kept.now;
      }

    -- ---- or a service by mails comes into hand
    module _ (c : Comes d.passing (wish d.passing) d.account.started d.side e.account.started e.side) where
      -- it came with this frame
      began_now : c.row.frame ≤ length gs
      began_now = go t.fate next.side.now c.now before
        where
          before : RisesNow next.side.past next.side.now (length gs)
          before = next_rises x d.side (mails_choice d.account (granted d.passing t.pick)) (length gs) (subst (RisesNow d.side.past d.side.now) long (at gs counts d m l).rises)

          go : (fate : RingFate) (old : Option (Row M Q R)) → (era_after x.speech s.acknowledged more passed spot.station (length gs) (news_in spot opened gs counts t) t.sent fate t.back (record next { side = record next.side { now = old } })).side.now ≡ Some c.row → RisesNow next.side.past old (length gs) → c.row.frame ≤ length gs
          go RingFate.Back None is k = absurd (let no : None ≡ Some c.row = is in cc)
          go RingFate.Back (Some row) is k =
              let same : row_heard x.speech (length gs) (all_accepted spot.station next.side.halves (grams (Own.own spot.station t.back))) row ≡ c.row = cc in
              subst (λ (z : Row M Q R). z.frame ≤ length gs) same k.frame
          go (RingFate.Lost after) None is k = absurd (let no : None ≡ Some c.row = is in cc)
          go (RingFate.Lost after) (Some row) is k = let same : row ≡ c.row = cc in subst (λ (z : Row M Q R). z.frame ≤ length gs) same k.frame

      waits : passed c.row.service ≡ true → next.passing ≡ Some Passing.Waiting
      waits passes =
          let one : length next.account.started ≡ length d.account.started + 1 = ap length (sym started_is ∙ c.started) ∙ length-append d.account.started (by_mails c.service c.frame ∷ []) in
          ap (λ z. passing_begins x.speech s.acknowledged more passed d.passing d.account next.account z) c.wished
          ∙ ap₂ (λ (a b : Bool). if a && b then Some Passing.Waiting else d.passing) (ap passed (sym c.is) ∙ passes) (one_more (length d.account.started) (length next.account.started) one)

      stands : passed c.row.service ≡ true → Stands fs e t.slave c.row
      stands passes = record {
        mails = λ p is target state.
            let newest : newest_of e.account.started ≡ Some (Service.Mails c.service) = ap newest_of c.started ∙ newest_last d.account.started (by_mails c.service c.frame) in
            let no : Some (Service.Mails c.service) ≡ Some (Service.State target) = sym newest ∙ state in cc;
        stage = λ posts. (elim (on c.row c.now (subst (λ k. c.row.frame ≤ k) (sym long) began_now) posts Passing.Waiting (waits passes) tt) [
          | inl z ↦ inr z
          | inr z ↦ absurd (let no : Passing.Waiting ≡ Passing.Boxed = z.0 in cc)
        ]);
      }

      past_done : (old : Option (Row M Q R)) → d.side.now ≡ old → NowStands gs d m old → AreDone (counted m) 0 (d.side.past ++ newest old)
      past_done None was stood = subst (AreDone (counted m) 0) (sym (append-nil d.side.past)) kept.past
      past_done (Some old) was stood = push_done (counted m) 0 d.side.past old kept.past (λ passes posts. (elim ((stood passes).stage posts) [
        | inl all ↦
            let l1 = ap (λ z. length (d.side.past ++ newest z)) was ∙ length-append d.side.past (old ∷ []) in
            let one : length (old ∷ []) ≡ 1 = refl in
            omega (arith, all, l1, one)
        | inr part ↦ absurd (subst (λ o. PartOf x.speech s.acknowledged more passed o (record_of gs old)) c.free part)
      ]))

      comes : Kept fs e t.slave
      comes = record {
        past = subst (AreDone (counted t.slave) 0) (sym c.past) (more_done (counted m) (counted t.slave) grows 0 (rows_of d.side) (past_done d.side.now refl kept.now));
        now = subst (NowStands fs e t.slave) (sym c.now) stands;
      }

    turned_kept : Kept fs e t.slave
    turned_kept = elim (turned x.speech s.acknowledged more passed spot.station (length gs) (news_in spot opened gs counts t) t.sent t.fate t.back d t.pick) [
      | inl g ↦ goes (accepted_of spot.station t.fate t.back next.side) g
      | inr c ↦ comes c
    ]

  -- SO IT IS at each moment
  pub kept_led : (fs : List (Frame M)) (counts : Bool) (e : Era M Q R) (n : Slave V M) → Led fs counts e n → Kept fs e n
  kept_led hs counts e n (IsLed.begins cleared state gs is) = record { past = tt; now = tt }
  kept_led hs counts e n (IsLed.goes_on gs k d m l t may) = turned_kept gs k d m l t may (kept_led gs k d m l)
