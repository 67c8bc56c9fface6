-- WHAT WAS ACCEPTED BEFORE THE NEWEST SERVICE BY MAILS CAME INTO HAND: of an epoch as its master leads it, just all replies to the services before it; so, where a
-- state service came behind it, just all its own replies were heard.
use Rattle.std.proofs.Common.{◌≡◌, inl, inr, ℕ, suc, ◌≤◌, Bool, true, false, Option, Some, None, List, [], ◌∷◌, ◌++◌, take, drop, length, refl, ap, ap₂, sym, ◌∙◌, subst, append_assoc, append-nil, arith, length-append}
use Rattle.std.proofs.lemmas.List.{append_cancel_right, take-append-drop, take-append-le}
use Rattle.served_places.specs.of_exchange_model.Exchange.{Exchange, IsLawful, after, given, plain}
use Rattle.served_places.specs.of_exchange_model.Prefix.{IsPrefixOf}
use Rattle.served_places.specs.of_exchange_model.Rows.{Row, Settled, heard_all, services, told_all}
use Rattle.served_places.proofs.of_exchange_model.Lists.{append_cancel, filter-append, prefix_nil}
use Rattle.served_places.proofs.of_exchange_model.Nows.{heard_begins}
use Rattle.served_places.proofs.of_exchange_model.Settles.{heard_all-append, settled_front, settled_heard}
use Rattle.served_places.proofs.of_exchange_model.Words.{after-append}
use Rattle.served_places.proofs.of_life_model.Eras.{frames_push, of_one, session_of}
use Rattle.served_places.specs.of_life_model.Eras.{EraIs, OpenEra, era_frames, planned}
use Rattle.served_places.specs.of_life_model.Lives.{Spot, Era}
use Rattle.served_places.specs.of_life_model.Own.{own_frame}
use Rattle.run_work.specs.of_few_replies.Led.{IsLed, frame_in, news_in, turn_next}
use Rattle.served_places.proofs.of_segment_model.Answers.{Open, OpenNow, news_each-push}
use Rattle.served_places.proofs.of_segment_model.News.{mails_heard-append}
use Rattle.served_places.specs.of_segment_model.Ends.{Outcome}
use Rattle.served_places.specs.of_segment_model.Record.{Frame, Kept, heard, joined, kept_after, mails_heard, news_each, news_from, nothing_kept}
use Rattle.served_places.specs.of_segment_model.Seats.{Seat, Side}
use Rattle.served_places.specs.of_segment_model.Slaves.{Processor, Registers, Slave}
use Rattle.served_places.proofs.of_state_model.Acts.{acts_append}
use Rattle.served_places.proofs.of_state_model.StatedLaw.{stated_law}
use Rattle.served_places.specs.of_state_model.Stated.{Act, Counting, IsStated, Service, Stated, acts, with_states}
use Rattle.served_places.specs.of_state_model.Promises.{IsTable}
use Rattle.served_places.specs.of_state_model.States.{Table}
use Rattle.served_places.proofs.of_state_model.Ghosts as Ghosts
use Rattle.served_places.proofs.of_state_model.Ghosts.{counting, start_of, starts_append, starts_of}
use Rattle.served_places.proofs.of_state_model.Newest.{Holds}
use Rattle.served_places.proofs.of_state_model.Sessions.{of_slaves}
use Rattle.served_places.proofs.of_state_model.Stately.{state_over}
use Rattle.served_places.specs.of_state_model.Accounts.{Account, Started}
use Rattle.served_places.specs.of_state_model.Promise.{mails_in, services_in}
use Rattle.served_places.specs.of_state_model.Tasks.{IsTaskPlan}
use Rattle.run_work.proofs.of_life_counts.Steps.{started_services}
use Rattle.served_rings.proofs.Newest.{snoc_same}
use Rattle.served_rings.proofs.Sessions.{led_later, led_session}
use Rattle.served_rings.proofs.Turned.{NowGoes, accepted_of, by_mails, comes_split, goes_split, none_behind, none_front, turned}

-- the mails accepted in the frames before the one with this number
abbrev pub accepted_before : {M : Type 0} → ℕ → ℕ → List (Frame M) → List M
accepted_before station frame fs = mails_heard (joined (take frame (news_each station nothing_kept fs)))

joined_both : {X : Type 0} (xs ys : List (List X)) → joined (xs ++ ys) ≡ joined xs ++ joined ys
joined_both [] ys = refl
joined_both (x ∷ xs) ys = ap (λ l. x ++ l) (joined_both xs ys) ∙ sym (append_assoc x (joined xs) (joined ys))

-- all that were, and those since
accepted_split : {M : Type 0} (station frame : ℕ) (fs : List (Frame M)) → heard station fs ≡ accepted_before station frame fs ++ mails_heard (joined (news_from station frame fs))
accepted_split station frame fs =
    let news = news_each station nothing_kept fs in
    ap (λ l. mails_heard (joined l)) (sym (take-append-drop frame news)) ∙ ap mails_heard (joined_both (take frame news) (drop frame news)) ∙ mails_heard-append (joined (take frame news)) (joined (drop frame news))

news_length : {M : Type 0} (station : ℕ) (kept : Kept) (fs : List (Frame M)) → length (news_each station kept fs) ≡ length fs
news_length station kept [] = refl
news_length station kept (f ∷ fs) = ap suc (news_length station (kept_after station kept f) fs)

-- a later frame changes nothing of that
accepted_stays : {M : Type 0} (station frame : ℕ) (fs : List (Frame M)) (f : Frame M) → frame ≤ length fs → accepted_before station frame (fs ++ f ∷ []) ≡ accepted_before station frame fs
accepted_stays station frame fs f le =
    ap (λ l. mails_heard (joined (take frame l))) (news_each-push station nothing_kept fs f)
    ∙ ap (λ l. mails_heard (joined l)) (take-append-le frame (news_each station nothing_kept fs) _ (subst (λ n. frame ≤ n) (sym (news_length station nothing_kept fs)) le))

-- the first of some rows, by what came into hand
record Split {M Q R : Type 0} (gs : List (Ghosts.GhostRow M Q R)) (before : List (Started Q)) (s : Started Q) (behind : List (Started Q)) : Type 0 where
  front : List (Ghosts.GhostRow M Q R)
  row : Ghosts.GhostRow M Q R
  rest : List (Ghosts.GhostRow M Q R)
  is : gs ≡ front ++ row ∷ rest
  before_is : starts_of front ≡ before
  row_is : start_of row ≡ s
  rest_is : starts_of rest ≡ behind

split_rows : {M Q R : Type 0} (gs : List (Ghosts.GhostRow M Q R)) (before : List (Started Q)) (s : Started Q) (behind : List (Started Q)) → starts_of gs ≡ before ++ s ∷ behind → Split gs before s behind
split_rows [] [] s behind e = absurd (let no : [] ≡ s ∷ behind = e in cc)
split_rows [] (b ∷ before) s behind e = absurd (let no : [] ≡ b ∷ (before ++ s ∷ behind) = e in cc)
split_rows (g ∷ gs) [] s behind e = record { front = []; row = g; rest = gs; is = refl; before_is = refl; row_is = (let head : start_of g ≡ s = cc in head); rest_is = (let tail : starts_of gs ≡ behind = cc in tail) }
split_rows (g ∷ gs) (b ∷ before) s behind e =
    let head : start_of g ≡ b = cc in
    let k = split_rows gs before s behind (let tail : starts_of gs ≡ before ++ s ∷ behind = cc in tail) in
    record { front = g ∷ k.front; row = k.row; rest = k.rest; is = ap (λ l. g ∷ l) k.is; before_is = ap₂ (λ a l. a ∷ l) head k.before_is; row_is = k.row_is; rest_is = k.rest_is }

module _ {V A M Q R : Type 0} (x : Exchange V A M Q R) (law : IsLawful x) (s : Stated V A Q) (stated : IsStated x s) where
  module _ (t : Table) where
    abbrev both : Exchange (Counting V) (A × ℕ) (Act M) (Service Q) (Outcome R)
    both = with_states x s t

    abbrev Ghost : Type 0
    Ghost = Ghosts.GhostRow M Q R

    both_lawful : IsLawful both
    both_lawful = stated_law x s t stated law

    abbrev plains : List (Act M) → List (Act M)
    plains l = plain both.speech.emission l

    -- all acts of services, one behind the other
    abbrev pub told_by : Counting V → List (Service Q) → List (Act M)
    told_by c [] = []
    told_by c (q ∷ qs) = both.full c q ++ told_by (after both.serve c (both.full c q)) qs

    -- and all replies to them
    abbrev pub replies_all : Counting V → List (Service Q) → List (Act M)
    replies_all c qs = plains (given both.serve c (told_by c qs))

    told_rows : (c : Counting V) (gs : List Ghost) → Settled both c gs → told_all gs ≡ told_by c (services gs)
    told_rows c [] k = refl
    told_rows c (g ∷ gs) k =
        ap₂ (λ (a l : List (Act M)). a ++ l) k.0.told (told_rows (after both.serve c g.told) gs k.1 ∙ ap (λ ms. told_by (after both.serve c ms) (services gs)) k.0.told)

    heard_rows : (c : Counting V) (gs : List Ghost) → Settled both c gs → plains (heard_all gs) ≡ replies_all c (services gs)
    heard_rows c gs k = settled_heard both both_lawful c gs k ∙ ap (λ l. plains (given both.serve c l)) (told_rows c gs k)

    settled_rest : (c : Counting V) (fs gs : List Ghost) → Settled both c (fs ++ gs) → Settled both (after both.serve c (told_all fs)) gs
    settled_rest c [] gs k = k
    settled_rest c (f ∷ fs) gs k = subst (λ z. Settled both z gs) (sym (after-append both.serve c f.told (told_all fs))) (settled_rest (after both.serve c f.told) fs gs k.1)

    -- state services have no replies
    none_heard : (c : Counting V) (gs : List Ghost) → Settled both c gs → mails_in (services gs) ≡ 0 → plains (heard_all gs) ≡ []
    none_heard c [] k none = refl
    none_heard c (g ∷ gs) k none = go g.service refl none (none_heard (after both.serve c g.told) gs k.1)
      where
        go : (q : Service Q) → g.service ≡ q → mails_in (q ∷ services gs) ≡ 0 → (mails_in (services gs) ≡ 0 → plains (heard_all gs) ≡ []) → plains (g.heard ++ heard_all gs) ≡ []
        go (Service.Mails q) e none rest = absurd (let no : suc (mails_in (services gs)) ≡ 0 = none in cc)
        go (Service.State target) e none rest =
            let told : g.told ≡ Act.Word target ∷ [] = k.0.told ∙ ap (both.full c) e in
            filter-append _ g.heard (heard_all gs)
            ∙ ap₂ (λ (a b : List (Act M)). a ++ b) (k.0.heard ∙ ap (λ ms. plains (given both.serve c ms)) told) (rest none)

    -- OF A SLAVE AND ITS ACCOUNT at one moment
    module _ (station : ℕ) (fs : List (Frame M)) (start : V) where
      -- WHERE A STATE SERVICE CAME BEHIND: rows of the services before, and of its own mails all replies were accepted behind theirs
      pub record StateRows (before : List (Started Q)) (q : Q) (r : Row M Q R) : Type 0 where
        pub rows : List Ghost
        pub settled : Settled both (counting start) rows
        pub services_is : services rows ≡ services_in before
        pub all : (let u = after both.serve (counting start) (told_all rows) in
            plains (acts (accepted_before station r.frame fs)) ++ plains (acts r.heard) ≡ replies_all (counting start) (services_in before) ++ plains (given both.serve u (both.full u (Service.Mails q))))

      pub record MomentOf (d : Side M Q R) (a : Account Q R) : Type 0 where
        pub ready : x.ready start ≡ true
        pub begun : (r : Row M Q R) → d.now ≡ Some r → r.frame ≤ length fs
        pub newest : (before : List (Started Q)) (q : Q) (f : ℕ) → a.started ≡ before ++ by_mails q f ∷ [] → (r : Row M Q R) → d.now ≡ Some r → plains (acts (accepted_before station r.frame fs)) ≡ replies_all (counting start) (services_in before)
        pub behind : (before : List (Started Q)) (q : Q) (f : ℕ) (states : List (Started Q)) (target g : ℕ) → a.started ≡ (before ++ by_mails q f ∷ states) ++ record { service = Service.State target; frame = g } ∷ [] → mails_in (services_in states) ≡ 0 →
            (r : Row M Q R) → d.now ≡ Some r → StateRows before q r

    module _ (more : M → Bool) (begun : ℕ) (is : IsTable t begun) (fs : List (Frame M)) (seat : Seat V M Q R) (a : Account Q R) (h : Holds x law s stated t more begun is fs seat a) where
      abbrev RowsHere : Type 0
      RowsHere = Ghosts.Rowed x law s t (state_over t begun a.over) seat a h.carried.taken h.carried.rest

      abbrev c : Counting V
      c = counting seat.start

      split : (g : RowsHere) → a.started ≡ starts_of (g.front ++ g.last) ++ start_of g.now ∷ []
      split g = sym (sym (starts_append (g.front ++ g.last) (g.now ∷ [])) ∙ g.started)

      listens : (now : Option (Row M Q R)) (r : Row M Q R) → now ≡ Some r → OpenNow x law seat.station fs now → Open x law seat.station fs r
      listens None r e k = absurd (let no : None ≡ Some r = e in cc)
      listens (Some n) r e k = let same : n ≡ r = cc in subst (Open x law seat.station fs) same k

      module _ (r : Row M Q R) (now : seat.side.now ≡ Some r) where
        open_row : Open x law seat.station fs r
        open_row = listens seat.side.now r now h.records.listens.now

        -- accepted were those before, and what was heard in it
        accepted_is : acts seat.accepted ≡ acts (accepted_before seat.station r.frame fs) ++ acts r.heard
        accepted_is =
            ap acts (h.records.hears ∙ accepted_split seat.station r.frame fs ∙ ap (λ l. accepted_before seat.station r.frame fs ++ l) (sym open_row.hears))
            ∙ acts_append (accepted_before seat.station r.frame fs) r.heard

        module _ (g : RowsHere) where
          abbrev past : List Ghost
          past = g.front ++ g.last

          here_by_mails : (before : List (Started Q)) (q : Q) (f : ℕ) → a.started ≡ before ++ by_mails q f ∷ [] → Ghosts.Shows g.now r → plains (acts (accepted_before seat.station r.frame fs)) ≡ replies_all c (services_in before)
          here_by_mails before q f e shows =
              let all : acts (accepted_before seat.station r.frame fs) ++ acts r.heard ≡ heard_all past ++ acts r.heard = sym accepted_is ∙ g.moment.fits.all_accepted ∙ ap (λ l. heard_all past ++ l) shows.heard in
              let same = (snoc_same (starts_of past) before (start_of g.now) (by_mails q f) (sym (split g) ∙ e)).0 in
              ap plains (append_cancel_right (acts (accepted_before seat.station r.frame fs)) (heard_all past) (acts r.heard) all)
              ∙ heard_rows c past g.moment.fits.settled ∙ ap (replies_all c) (sym (started_services past) ∙ ap services_in same)

          -- nothing replies to a state service
          state_quiet : (target : ℕ) → g.now.service ≡ Service.State target → plains g.now.heard ≡ []
          state_quiet target e =
              let u = after both.serve c (told_all past) in
              let begins = heard_begins both both_lawful c past g.now (h.carried.taken ++ acts h.carried.rest) h.carried.taken (acts seat.accepted) g.moment.fits.settled g.moment.fits.all_held g.moment.fits.all_accepted g.moment.order g.moment.hears g.moment.fits.mine in
              prefix_nil (plains g.now.heard) (subst (λ z. IsPrefixOf (plains g.now.heard) (plains (given both.serve u (both.full u z)))) e begins)

          here_by_state : (before : List (Started Q)) (q : Q) (f : ℕ) (states : List (Started Q)) (target k : ℕ) → a.started ≡ (before ++ by_mails q f ∷ states) ++ record { service = Service.State target; frame = k } ∷ [] → mails_in (services_in states) ≡ 0 → StateRows seat.station fs seat.start before q r
          here_by_state before q f states target k e none =
              let one : Started Q = record { service = Service.State target; frame = k } in
              let last = snoc_same (starts_of past) (before ++ by_mails q f ∷ states) (start_of g.now) one (sym (split g) ∙ e) in
              let y = split_rows past before (by_mails q f) states last.0 in
              let settled : Settled both c (y.front ++ y.row ∷ y.rest) = subst (Settled both c) y.is g.moment.fits.settled in
              let first = settled_front both both_lawful c y.front (y.row ∷ y.rest) settled in
              let rest = settled_rest c y.front (y.row ∷ y.rest) settled in
              let u = after both.serve c (told_all y.front) in
              let service : y.row.service ≡ Service.Mails q = ap (λ (z : Started Q). z.service) y.row_is in
              let quiet = none_heard (after both.serve u y.row.told) y.rest rest.1 (ap mails_in (sym (started_services y.rest) ∙ ap services_in y.rest_is) ∙ none) in
              let before_is : services y.front ≡ services_in before = sym (started_services y.front) ∙ ap services_in y.before_is in
              record {
                rows = y.front;
                settled = first;
                services_is = before_is;
                all = sym (filter-append _ (acts (accepted_before seat.station r.frame fs)) (acts r.heard)) ∙ ap plains (sym accepted_is ∙ g.moment.fits.all_accepted)
                    ∙ filter-append _ (heard_all past) g.now.heard ∙ ap (λ l. plains (heard_all past) ++ l) (state_quiet target (ap (λ (z : Started Q). z.service) last.1)) ∙ append-nil (plains (heard_all past))
                    ∙ ap (λ l. plains (heard_all l)) y.is ∙ ap plains (heard_all-append y.front (y.row ∷ y.rest)) ∙ filter-append _ (heard_all y.front) (y.row.heard ++ heard_all y.rest)
                    ∙ ap₂ (λ (a b : List (Act M)). a ++ b) (heard_rows c y.front first ∙ ap (replies_all c) before_is)
                    (filter-append _ y.row.heard (heard_all y.rest) ∙ ap₂ (λ (a b : List (Act M)). a ++ b) (rest.0.heard ∙ ap (λ ms. plains (given both.serve u ms)) (rest.0.told ∙ ap (both.full u) service)) quiet
                    ∙ append-nil (plains (given both.serve u (both.full u (Service.Mails q)))));
              }

      none_one : (before : List (Started Q)) (z : Started Q) → [] ≡ before ++ z ∷ [] → ⊥
      none_one [] z e = let no : [] ≡ z ∷ [] = e in cc
      none_one (b ∷ before) z e = let no : [] ≡ b ∷ (before ++ z ∷ []) = e in cc

      no_state : (g : RowsHere) (target : ℕ) → g.now.service ≡ Service.State target → (before : List (Started Q)) (q : Q) (f : ℕ) → a.started ≡ before ++ by_mails q f ∷ [] → ⊥
      no_state g target e before q f started =
          let last = snoc_same (starts_of (g.front ++ g.last)) before (start_of g.now) (by_mails q f) (sym (split g) ∙ started) in
          let clash : Service.State target ≡ Service.Mails q = sym e ∙ ap (λ (z : Started Q). z.service) last.1 in cc

      -- AT THIS MOMENT
      pub moment : MomentOf seat.station fs seat.start seat.side a
      moment = record {
        ready = h.ready;
        begun = λ r now. (open_row r now).begun;
        newest = λ before q f started r now. (elim h.carried.rows [
          | inl u ↦ absurd (none_one before (by_mails q f) (sym u.started ∙ started))
          | inr g ↦ elim g.place [
            | inl k ↦ here_by_mails r now g before q f started (subst (Ghosts.Shows g.now) (let some : Some k.row ≡ Some r = sym k.is ∙ now in let same : k.row ≡ r = cc in same) k.shows)
            | inr n ↦ absurd (no_state g n.target n.service before q f started)
          ]
        ]);
        behind = λ before q f states target k started none r now. (elim h.carried.rows [
          | inl u ↦ absurd (none_one (before ++ by_mails q f ∷ states) (record { service = Service.State target; frame = k }) (sym u.started ∙ started))
          | inr g ↦ here_by_state r now g before q f states target k started none
        ]);
      }

  -- OF AN EPOCH
  module _ (processor : Processor V) (table : ℕ → Table) (spot : Spot) (opened : ℕ) (v : V) (r : Registers) where
    abbrev here : Table
    here = table spot.station

    abbrev framed : List (Frame M) → List (Frame M)
    framed fs = era_frames spot opened (length fs) fs

    moment_of : (fs : List (Frame M)) (e : Era M Q R) (n : Slave V M) → EraIs x s processor table spot e opened (length fs) fs v r n → MomentOf here spot.station (framed fs) v e.side e.account
    moment_of fs e n is =
        let era : OpenEra V A M Q R = record {
          exchange = x;
          states = s;
          processor = processor;
          table = table;
          spot = spot;
          era = e;
          opened = opened;
          end = length fs;
          frames = fs;
          server = v;
          registers = r;
          slave = n;
          lawful = law;
          stated = stated;
          is = is;
        } in
        let P : Table → List (Frame M) → ℕ → V → Side M Q R → Account Q R → Slave V M → Type 0 = (λ t gs station start d a m. MomentOf t station gs start d a) in
        let z = session_of era in
        of_one era (λ station start d a m. P (table station) (framed fs) station start d a m)
        (of_slaves z.exchange z.lawful z.states z.stated z.processor z.table (λ m. false) z.planned.tells z.plan z.planned z.sides z.accounts z.ring z.frames z.tasked P (λ t begun it gs seat a h. moment t (λ m. false) begun it gs seat a h))

    module _ (more : M → Bool) (passed : Q → Bool) (plan : IsTaskPlan x s processor table (planned spot v r ∷ [])) (answers : r.station ≡ spot.station) where
      abbrev Led : List (Frame M) → Bool → Era M Q R → Slave V M → Type 0
      Led fs counts e n = IsLed x s.acknowledged processor more passed spot opened v r fs counts e n

      at : (fs : List (Frame M)) (counts : Bool) (e : Era M Q R) (n : Slave V M) → Led fs counts e n → MomentOf here spot.station (framed fs) v e.side e.account
      at fs counts e n l = moment_of fs e n (led_session x s processor table more passed spot opened v r plan answers fs counts e n l)

      -- the row that went on
      gone : (ms : List M) (old : Option (Row M Q R)) (now : Option (Row M Q R)) (row : Row M Q R) → now ≡ Some row → NowGoes ms old now → (was : Row M Q R) × (old ≡ Some was) × (row.frame ≡ was.frame)
      gone ms None None row e g = absurd (let no : None ≡ Some row = e in cc)
      gone ms None (Some n) row e g = absurd g
      gone ms (Some o) None row e g = absurd g
      gone ms (Some o) (Some n) row e g = (o, refl, (let same : n ≡ row = cc in ap (λ (z : Row M Q R). z.frame) (sym same) ∙ g.frame))

      -- BEFORE IT just the replies to the services before it were accepted
      led_before : (fs : List (Frame M)) (counts : Bool) (e : Era M Q R) (n : Slave V M) → Led fs counts e n → (before : List (Started Q)) (q : Q) (f : ℕ) (states : List (Started Q)) → e.account.started ≡ before ++ by_mails q f ∷ states → mails_in (services_in states) ≡ 0 →
          (row : Row M Q R) → e.side.now ≡ Some row → plains here (acts (accepted_before spot.station row.frame (framed fs))) ≡ replies_all here (counting v) (services_in before)
      led_before fs counts e n (IsLed.begins cleared state gs is) before q f states started none row now = absurd (let no : None ≡ Some row = now in cc)
      led_before fs counts e n (IsLed.goes_on gs k d m l t may) before q f states started none row now =
          elim (turned x.speech s.acknowledged more passed spot.station (length gs) (news_in spot opened gs k t) t.sent t.fate t.back d t.pick) [
            | inl g ↦
                let cut = goes_split d.account.started g.added before states q f (sym g.started ∙ started) g.states in
                let old = gone (accepted_of spot.station t.fate t.back (turn_next x s.acknowledged processor more passed spot opened gs d t).side) d.side.now e.side.now row now g.now in
                let before_none : mails_in (services_in cut.0) ≡ 0 = none_front cut.0 g.added (ap (λ l. mails_in (services_in l)) (sym cut.2) ∙ none) in
                let was = led_before gs k d m l before q f cut.0 cut.1 before_none old.0 old.1 in
                let pushed : framed (gs ++ frame_in t ∷ []) ≡ framed gs ++ own_frame spot.station spot.place (frame_in t) ∷ [] =
                ap (λ i. era_frames spot opened i (gs ++ frame_in t ∷ [])) (one_longer gs (frame_in t)) ∙ frames_push spot opened gs (frame_in t) (led_later x s processor table more passed spot opened v r plan answers gs k d m l) in
                ap₂ (λ (i : ℕ) (hs : List (Frame M)). plains here (acts (accepted_before spot.station i hs))) old.2 pushed
                ∙ ap (λ ms. plains here (acts ms)) (accepted_stays spot.station old.0.frame (framed gs) (own_frame spot.station spot.place (frame_in t)) ((at gs k d m l).begun old.0 old.1)) ∙ was
            | inr c ↦
                let last = comes_split d.account.started before states c.service c.frame q f (sym c.started ∙ started) none in
                (at fs counts e n (IsLed.goes_on gs k d m l t may)).newest before q f (started ∙ ap (λ l. before ++ by_mails q f ∷ l) last.2) row now
          ]
        where
          one_longer : (gs : List (Frame M)) (g : Frame M) → length (gs ++ g ∷ []) ≡ suc (length gs)
          one_longer gs g = let e = length-append gs (g ∷ []) in omega (arith, e)

      -- SO ALL REPLIES TO IT WERE HEARD in its row, where a state service came behind it
      pub record StateHeard (before : List (Started Q)) (q : Q) (row : Row M Q R) : Type 0 where
        pub rows : List (Ghosts.GhostRow M Q R)
        pub ready : x.ready v ≡ true
        pub settled : Settled (both here) (counting v) rows
        pub services_is : services rows ≡ services_in before
        pub all : (let u = after (both here).serve (counting v) (told_all rows) in plains here (acts row.heard) ≡ plains here (given (both here).serve u ((both here).full u (Service.Mails q))))

      pub led_behind : (fs : List (Frame M)) (counts : Bool) (e : Era M Q R) (n : Slave V M) → Led fs counts e n → (before : List (Started Q)) (q : Q) (f : ℕ) (states : List (Started Q)) (target g : ℕ) →
          e.account.started ≡ (before ++ by_mails q f ∷ states) ++ record { service = Service.State target; frame = g } ∷ [] → mails_in (services_in states) ≡ 0 → (row : Row M Q R) → e.side.now ≡ Some row → StateHeard before q row
      led_behind fs counts e n l before q f states target g started none row now =
          let k = at fs counts e n l in
          let y = k.behind before q f states target g started none row now in
          let one : Started Q = record { service = Service.State target; frame = g } in
          let u = after (both here).serve (counting v) (told_all y.rows) in
          let own = plains here (given (both here).serve u ((both here).full u (Service.Mails q))) in
          let first = led_before fs counts e n l before q f (states ++ one ∷ []) (started ∙ append_assoc before (by_mails q f ∷ states) (one ∷ [])) (none_behind states target g none) row now in
          record {
            rows = y.rows;
            ready = k.ready;
            settled = y.settled;
            services_is = y.services_is;
            all = append_cancel (plains here (acts (accepted_before spot.station row.frame (framed fs)))) (plains here (acts row.heard)) own (y.all ∙ ap (λ l. l ++ own) (sym first));
          }
