-- AT ONE MOMENT OF AN EPOCH: where its newest service goes by mails, and its slave took all of them, the slave has carried out all services by mails that came
-- into hand. So it has where nothing is left to write of it and mailbox 0 is empty, and where a reply was heard to its one mail.
use Rattle.std.proofs.Common.{◌≡◌, ◌≢◌, inl, inr, ℕ, suc, ◌+◌, ◌≤◌, Bool, true, false, is_none, Option, Some, None, List, [], ◌∷◌, ◌++◌, drop, length, refl, ap, sym, ◌∙◌, subst, arith, append-nil, length-append}
use Rattle.std.proofs.lemmas.Bool.Decides.{leb_tells}
use Rattle.std.proofs.lemmas.List.{drop_all}
use Rattle.served_places.proofs.of_exchange_model.Lists.{append_cancel, prefix_nil, prefix_trans}
use Rattle.served_places.proofs.of_exchange_model.Nows.{reached_or_waits}
use Rattle.served_places.proofs.of_exchange_model.Settles.{settled_app, settled_handled, settled_ready}
use Rattle.served_places.proofs.of_exchange_model.Steps.{handed_whole}
use Rattle.served_places.proofs.of_exchange_model.Words.{after-append}
use Rattle.served_places.specs.of_exchange_model.Exchange.{Exchange, IsLawful, after, given, plain}
use Rattle.served_places.specs.of_exchange_model.Prefix.{IsPrefixOf}
use Rattle.served_places.specs.of_exchange_model.Rows.{Row, left, services, told_all}
use Rattle.run_work.proofs.of_life_counts.Steps.{started_services}
use Rattle.run_work.specs.of_life_counts.Epochs.{newest_of}
use Rattle.run_work.proofs.of_life_counts.Marks.{newest_last}
use Rattle.served_places.specs.of_link_model.Mails.{LinkMail}
use Rattle.served_places.proofs.of_segment_model.Answers.{Open, OpenNow}
use Rattle.served_places.proofs.of_segment_model.Handed.{Facts, NowFacts, PostNow}
use Rattle.served_places.proofs.of_segment_model.Posts.{PostOpen}
use Rattle.served_places.proofs.of_segment_model.Rests.{all_taken}
use Rattle.served_places.proofs.of_segment_model.Rising.{RisesNow}
use Rattle.served_places.proofs.of_segment_model.Written.{mails_told}
use Rattle.served_places.specs.of_segment_model.Ends.{Outcome, all_written}
use Rattle.served_places.specs.of_segment_model.Record.{Frame, News, joined, mails_heard, news_from}
use Rattle.served_places.specs.of_segment_model.Seats.{Seat, Side, link_of, rows_of}
use Rattle.served_places.specs.of_segment_model.Slaves.{Slave}
use Rattle.served_places.proofs.of_state_model.Acts.{acts_same, executed, left_mails, plain_acts}
use Rattle.served_places.proofs.of_state_model.StatedLaw.{stated_law}
use Rattle.served_places.specs.of_state_model.Stated.{Act, Counting, IsStated, Service, Stated, acts, service_handed, states_in, with_states}
use Rattle.served_places.specs.of_state_model.Promises.{IsTable}
use Rattle.served_places.specs.of_state_model.States.{Table}
use Rattle.served_places.proofs.of_state_model.Booked
use Rattle.served_places.proofs.of_state_model.Dones.{by_kind, services_length}
use Rattle.served_places.proofs.of_state_model.Ghosts as Ghosts
use Rattle.served_places.proofs.of_state_model.Ghosts.{GhostRow, counting, start_of, starts_append, starts_of}
use Rattle.served_places.proofs.of_state_model.Newest.{Holds, side_facts}
use Rattle.served_places.proofs.of_state_model.Stately.{state_over}
use Rattle.served_places.specs.of_state_model.Accounts.{Account, Started}
use Rattle.served_places.specs.of_state_model.Promise.{mail_of, mails_in, mails_started, rows_started, services_in}
use Rattle.served_rings.proofs.Turned.{mails_both}

-- as many rows as services by mails
mails_length : {Q : Type 0} (ss : List (Started Q)) → length (mails_started ss) ≡ mails_in (services_in ss)
mails_length [] = refl
mails_length {Q} (s ∷ ss) = go s.service (mails_length ss)
  where
    go : (z : Service Q) → length (mails_started ss) ≡ mails_in (services_in ss) → length (mail_of z s.frame ++ mails_started ss) ≡ mails_in (z ∷ services_in ss)
    go (Service.Mails q) rest = ap suc rest
    go (Service.State target) rest = rest

rows_length : {M Q R : Type 0} (rs : List (Row M Q R)) → length (rows_started rs) ≡ length rs
rows_length [] = refl
rows_length (r ∷ rs) = ap suc (rows_length rs)

idle : {M : Type 0} (holding : Option (LinkMail M)) → is_none holding ≡ true → holding ≡ None
idle None e = refl
idle (Some m) e = absurd (let no : false ≡ true = e in cc)

-- a first part of one item is none or all
one_part : {X : Type 0} (own rest : List X) (one : X) → own ++ rest ≡ one ∷ [] → own ≢ [] → own ≡ one ∷ []
one_part [] rest one e some = absurd (some refl)
one_part (k ∷ []) rest one e some = let head : k ≡ one = cc in ap (λ z. z ∷ []) head
one_part (k ∷ (l ∷ own)) rest one e some = absurd (let no : l ∷ (own ++ rest) ≡ [] = cc in cc)

-- the newest that came into hand changes no AL state
abbrev pub IsByMails : {Q : Type 0} → List (Started Q) → Type 0
IsByMails ss = (target : ℕ) → newest_of ss ≡ Some (Service.State target) → ⊥

module _ {V A M Q R : Type 0} (x : Exchange V A M Q R) (station : ℕ) (fs : List (Frame M)) (start : V) (d : Side M Q R) (a : Account Q R) (n : Slave V M) where
  -- ALL ROWS ARE CARRIED OUT
  abbrev pub AllRows : Type 0
  AllRows = x.handled start + length (rows_of d) ≤ x.handled n.node.server.server

  -- WHAT IS KNOWN OF THE NEWEST ROW
  pub record RowNow (r : Row M Q R) : Type 0 where
    pub begun : r.frame ≤ length fs
    pub hears : r.heard ≡ mails_heard (joined (news_from station r.frame fs))
    -- one that ends with its last write has no reply, and is over where the record has its write
    pub quiet : x.speech.handed r.service ≡ true → plain x.speech.emission r.heard ≡ []
    pub written : x.speech.handed r.service ≡ true → all_written (length (x.speech.planned r.service [])) (joined (news_from station r.frame fs)) ≡ true → (left x.speech r ≡ []) × (d.halves.out.holding ≡ None)
    -- and it is carried out where mailbox 0 was emptied behind it, or a reply was heard to its one mail
    pub taken : IsByMails a.started → x.speech.handed r.service ≡ true → left x.speech r ≡ [] → d.halves.out.holding ≡ None → n.node.out.box ≡ None → AllRows
    pub replied : IsByMails a.started → (m : M) → ((hs : List M) → x.speech.planned r.service hs ≡ m ∷ []) → plain x.speech.emission r.heard ≢ [] → AllRows

  pub record AtMoment : Type 0 where
    pub rises : RisesNow d.past d.now (length fs)
    pub now : (r : Row M Q R) → d.now ≡ Some r → RowNow r

module _ {V A M Q R : Type 0} (x : Exchange V A M Q R) (law : IsLawful x) (s : Stated V A Q) (stated : IsStated x s) (t : Table) (more : M → Bool) (begun : ℕ) (is : IsTable t begun) (fs : List (Frame M)) (seat : Seat V M Q R) (a : Account Q R) (h : Holds x law s stated t more begun is fs seat a) where
  abbrev both : Exchange (Counting V) (A × ℕ) (Act M) (Service Q) (Outcome R)
  both = with_states x s t

  both_lawful : IsLawful both
  both_lawful = stated_law x s t stated law

  abbrev c : Counting V
  c = counting seat.start

  abbrev RowsHere : Type 0
  RowsHere = Ghosts.Rowed x law s t (state_over t begun a.over) seat a h.carried.taken h.carried.rest

  abbrev All : Type 0
  All = AllRows x seat.station fs seat.start seat.side a seat.slave

  split : (g : RowsHere) → a.started ≡ starts_of (g.front ++ g.last) ++ start_of g.now ∷ []
  split g = sym (sym (starts_append (g.front ++ g.last) (g.now ∷ [])) ∙ g.started)

  rows_mails : length (rows_of seat.side) ≡ mails_in (services_in a.started)
  rows_mails = sym (rows_length (rows_of seat.side)) ∙ ap length (sym (Booked.tasks_answered x law s stated t more begun is fs seat a h).mails) ∙ mails_length a.started

  module _ (g : RowsHere) where
    abbrev before : List (GhostRow M Q R)
    before = g.front ++ g.last

    abbrev w : Counting V
    w = after both.serve c (told_all before)

    -- where all mails of the newest service are taken
    all_done : (q : Q) → g.now.service ≡ Service.Mails q → h.carried.taken ≡ told_all before ++ both.full w g.now.service → All
    all_done q service taken =
        let settled = g.moment.fits.settled in
        let ready = settled_ready both both_lawful c before h.ready settled in
        let behind = both_lawful.whole w g.now.service ready g.moment.fits.valid in
        let counted = settled_handled both both_lawful c before h.ready settled in
        let app = settled_app both both_lawful c before h.ready settled in
        let words : w.words ≡ 0 + states_in (services before) = ap (λ (p : A × ℕ). p.1) app ∙ executed x s t (x.app seat.start) 0 (services before) in
        let last : Counting V = after both.serve w (both.full w g.now.service) in
        let same : last.words ≡ w.words = ap (λ (p : A × ℕ). p.1) behind.app ∙ ap (λ z. (both.exec (both.app w) z).1) service in
        let one = behind.handled in
        let kinds = by_kind (services before) in
        let long = services_length before in
        let server : last.server ≡ seat.slave.node.server.server = ap (λ (k : Counting V). k.server) (sym (after-append both.serve c (told_all before) (both.full w g.now.service)) ∙ ap (after both.serve c) (sym taken)) ∙ h.carried.serves in
        let handled = ap x.handled server in
        let mails : mails_in (services_in a.started) ≡ mails_in (services_in (starts_of before)) + mails_in (services_in (start_of g.now ∷ [])) = ap (λ l. mails_in (services_in l)) (split g) ∙ mails_both (starts_of before) (start_of g.now ∷ []) in
        let mine : mails_in (services_in (start_of g.now ∷ [])) ≡ 1 = ap (λ z. mails_in (z ∷ [])) service in
        let these : mails_in (services_in (starts_of before)) ≡ mails_in (services before) = ap mails_in (started_services before) in
        let rows = rows_mails in
        omega (arith, counted, words, same, one, kinds, long, handled, mails, mine, these, rows)

  -- ---- the newest row
  module _ (r : Row M Q R) (now : seat.side.now ≡ Some r) where
    facts : x.speech.handed r.service ≡ true → Facts x law r
    facts = subst (NowFacts x law seat.side.past) now (side_facts x law s stated t more begun is fs seat a h.ready (state_over t begun a.over) h.carried)

    heard_now : Open x law seat.station fs r
    heard_now = subst (OpenNow x law seat.station fs) now h.records.listens.now

    abbrev N : List (News M)
    N = joined (news_from seat.station r.frame fs)

    abbrev count : ℕ
    count = length (x.speech.planned r.service [])

    written : x.speech.handed r.service ≡ true → all_written count N ≡ true → (left x.speech r ≡ []) × (seat.side.halves.out.holding ≡ None)
    written posts all =
        let opened : PostOpen seat.station r.frame count fs seat.side.fresh seat.side.halves.out.holding r.told = subst (PostNow x law seat.station fs seat.side.fresh seat.side.halves.out.holding) now h.posts.now posts in
        elim (leb_tells count (length (mails_told N))) [
          | inl k ↦
              let enough = k.1 in
              let told = ap length opened.told_is ∙ length-append (mails_told N) _ in (
                ap (λ hs. drop (length r.told) (x.speech.planned r.service hs)) (facts posts).silent ∙ drop_all (length r.told) (x.speech.planned r.service []) (omega (arith, enough, told)),
                idle seat.side.halves.out.holding (sym (opened.all enough) ∙ all),
              )
          | inr k ↦ let few = k.1 in absurd (let no : true ≡ false = sym all ∙ opened.few few in cc)
        ]

    no_state : (g : RowsHere) (target : ℕ) → g.now.service ≡ Service.State target → IsByMails a.started → ⊥
    no_state g target e mails = mails target (ap newest_of (split g) ∙ newest_last (starts_of (g.front ++ g.last)) (start_of g.now) ∙ ap (λ z. Some z) e)

    -- by its own mails
    by_mails : (P : Type 0) → IsByMails a.started → ((g : RowsHere) → Ghosts.Shows g.now r → P) → P
    by_mails P mails one = elim h.carried.rows [
      | inl u ↦ absurd (let no : None ≡ Some r = sym u.now ∙ now in cc)
      | inr g ↦ elim g.place [
        | inl k ↦ one g (subst (Ghosts.Shows g.now) (let some : Some k.row ≡ Some r = sym k.is ∙ now in let same : k.row ≡ r = cc in same) k.shows)
        | inr n ↦ absurd (no_state g n.target n.service mails)
      ]
    ]

    taken : IsByMails a.started → x.speech.handed r.service ≡ true → left x.speech r ≡ [] → seat.side.halves.out.holding ≡ None → seat.slave.node.out.box ≡ None → All
    taken mails posts nothing held box = by_mails All mails (λ g shows.
        let past = g.front ++ g.last in
        let rest : h.carried.rest ≡ [] = append_cancel seat.taken h.carried.rest [] (sym h.carried.held_is ∙ sym (all_taken (link_of seat) h.agrees box held) ∙ sym (append-nil seat.taken)) in
        let none : left both.speech g.now ≡ [] = left_mails x s t g.now r shows.service shows.told shows.heard ∙ ap acts nothing in
        let whole = handed_whole both both_lawful c h.ready g.front g.last g.now (h.carried.taken ++ acts h.carried.rest) h.carried.taken (acts seat.accepted) g.moment.fits g.moment.order g.moment.hears (ap (service_handed x.speech) shows.service ∙ posts) none in
        all_done g r.service shows.service (sym (append-nil h.carried.taken) ∙ ap (λ l. h.carried.taken ++ acts l) (sym rest) ∙ g.moment.fits.all_held ∙ ap (λ l. told_all past ++ l) whole.told))

    replied : IsByMails a.started → (m : M) → ((hs : List M) → x.speech.planned r.service hs ≡ m ∷ []) → plain x.speech.emission r.heard ≢ [] → All
    replied mails m planned some = by_mails All mails (λ g shows.
        let past = g.front ++ g.last in
        let fits = g.moment.fits in
        let u = after both.serve c (told_all past) in
        let ready = settled_ready both both_lawful c past h.ready fits.settled in
        let valid : x.speech.valid r.service ≡ true = subst (λ z. both.speech.valid z ≡ true) shows.service fits.valid in
        let full : both.full u g.now.service ≡ Act.Mail m ∷ [] = ap (both.full u) shows.service ∙ ap acts (sym (law.all_planned u.server r.service ready valid) ∙ planned (plain x.speech.emission (given x.serve u.server (x.full u.server r.service)))) in
        let heard : plain both.speech.emission g.now.heard ≢ [] = λ none. some (acts_same (plain x.speech.emission r.heard) [] (sym (plain_acts x.speech.emission r.heard) ∙ ap (plain both.speech.emission) (sym shows.heard) ∙ none)) in
        elim (reached_or_waits both both_lawful c past g.now (h.carried.taken ++ acts h.carried.rest) h.carried.taken (acts seat.accepted) fits.settled fits.all_held fits.all_accepted g.moment.order g.moment.hears) [
          | inl k ↦
              let own : k.own ≢ [] = λ none. heard (prefix_nil (plain both.speech.emission g.now.heard) (subst (λ l. IsPrefixOf (plain both.speech.emission g.now.heard) (plain both.speech.emission (given both.serve u l))) none k.hears)) in
              let part = prefix_trans k.own g.now.told (both.full u g.now.service) (g.moment.order.0, sym k.told_is) fits.mine in
              all_done g r.service shows.service (k.taken_is ∙ ap (λ l. told_all past ++ l) (one_part k.own part.0 (Act.Mail m) (part.1 ∙ full) own ∙ sym full))
          | inr k ↦ absurd (heard k.quiet)
        ])

    row_now : RowNow x seat.station fs seat.start seat.side a seat.slave r
    row_now = record { begun = heard_now.begun; hears = heard_now.hears; quiet = λ posts. (facts posts).silent; written = written; taken = taken; replied = replied }

  pub at_moment : AtMoment x seat.station fs seat.start seat.side a seat.slave
  at_moment = record { rises = h.records.rises; now = λ r now. row_now r now }
