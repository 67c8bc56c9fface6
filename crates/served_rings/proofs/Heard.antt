-- WHAT WAS HEARD OF EACH MAIL THAT WAS PASSED ON, over an epoch as its master leads it: just the replies of its server's one step.
use Rattle.std.proofs.Common.{◌≡◌, ◌⊎◌, inl, inr, ◌&&◌, ℕ, suc, ◌+◌, Bool, true, false, is_some, Option, None, Some, option_map, List, [], ◌∷◌, ◌++◌, map, length, refl, ap, ap₂, sym, ◌∙◌, subst, append_assoc, append-nil, length-append, arith, Ok, Err, if◌then◌else◌}
use Rattle.std.specs.Prelude.{nat_lt}
use Rattle.std.proofs.lemmas.Bool.Decides.{nat_tests}
use Rattle.std.proofs.lemmas.List.{map-append}
use Rattle.served_places.specs.of_exchange_model.Exchange.{plain}
use Rattle.served_places.specs.of_exchange_model.Rows.{Row, row_heard}
use Rattle.served_places.proofs.of_exchange_model.Lists.{append_cancel}
use Rattle.served_places.proofs.of_exchange_model.Words.{plain-append}
use Rattle.run_work.specs.of_frame_view.View.{Lens}
use Rattle.run_work.specs.of_life_counts.Seen.{service_seen}
use Rattle.served_places.specs.of_life_model.Eras.{planned}
use Rattle.served_places.specs.of_life_model.Lives.{Spot, Era, era_after, granted, passes, passing_begins}
use Rattle.served_places.specs.of_life_model.Own.{own}
use Rattle.served_places.specs.of_link_model.Frames.{all_accepted}
use Rattle.served_places.specs.of_link_model.Segment.{RingFate}
use Rattle.served_places.specs.of_link_mails.Body.{Body}
use Rattle.run_work.specs.of_mailbox_mail.declared.mail.Mail.{Mail}
use Rattle.run_work.specs.of_master_duty.Reply.{Reply}
use Rattle.run_work.specs.of_master_hand.Spoken as Spoken
use Rattle.run_work.specs.of_master_hand.Spoken.{Asked, emission, is_followed, is_passed, passed}
use Rattle.run_work.specs.of_few_replies.Client.{ByContents}
use Rattle.run_work.specs.of_few_replies.Erased.{OfRow, PlanOne, row_seen}
use Rattle.run_work.specs.of_few_replies.Led.{IsLed, EraTurn, MayTurn, counts_behind, frame_in, news_in, turn_after, turn_next}
use Rattle.served_places.proofs.of_few_replies.Clients.{plain_untag}
use Rattle.served_rings.specs.Speakers.{naming_of, processor_of, seer_of, speaker, spoken, spoken_states, table_of, whole_states}
use Rattle.run_work.specs.Sessions.{OwnService, Wanted, named_wanted}
use Rattle.served_places.specs.of_segment_model.Ends.{Passing}
use Rattle.served_places.specs.of_segment_model.Record.{Frame, News}
use Rattle.served_places.specs.of_segment_model.Seats.{newest, rows_of}
use Rattle.served_places.specs.of_segment_model.Slaves.{Registers, Slave, grams}
use Rattle.served_rings.specs.Serves.{serves}
use Rattle.served_places.specs.of_serving_model.Tagged as Tagged
use Rattle.served_places.specs.of_serving_model.Tagged.{Tagged, untag}
use Rattle.run_work.specs.of_slave_lives.Lived as Lived
use Rattle.run_work.specs.of_slave_model.Profile.{Profile, Protocol}
use Rattle.run_work.specs.of_slave_model.Server as SlaveReply
use Rattle.run_work.specs.of_slave_parts.Parts.{Server, parts}
use Rattle.run_work.specs.of_slave_parts.Served.{product_whole}
use Rattle.served_places.specs.of_state_model.Families.{InState}
use Rattle.served_places.specs.of_state_model.Stated.{Service}
use Rattle.served_places.specs.of_state_model.Promises.{state_behind}
use Rattle.run_work.specs.of_life_counts.Epochs.{IsSpeaker, IsSeen, seeing}
use Rattle.run_work.specs.of_life_counts.Foreseen as Foreseen
use Rattle.run_work.proofs.of_life_counts.TaggedWhole.{epoch_seen}
use Rattle.served_places.proofs.of_state_model.Completed.{started_back}
use Rattle.served_places.specs.of_state_model.Accounts.{Account, Pick, Started}
use Rattle.served_places.specs.of_state_model.Promise.{mails_in, services_in}
use Rattle.served_places.specs.of_state_model.Tasks.{IsTaskPlan}
use Rattle.served_rings.specs.Served.{AllHeard, IsHeardOf, IsHeardOne, passing_before, replies_to, server_behind}
use Rattle.served_rings.proofs.Mails.{AllNamed, IsNamedMail, all_mails, behind_named, mailer, mailer_runs, mailer_speaks, named_front, named_mail, named_mails, services_named, start_named}
use Rattle.served_rings.proofs.Newest as Newest
use Rattle.served_rings.proofs.Seen.{heard, valid}
use Rattle.served_rings.proofs.States.{heard_whole}
use Rattle.served_rings.proofs.Told.{row_whole}
use Rattle.served_rings.proofs.Turned.{Comes, Goes, GoesOn, NowGoes, accepted_of, by_mails, mails_both, turned}

-- what is there of a row that is seen otherwise
record SeenRow (now : Option (Row (Tagged Body OwnService) Wanted (Option SlaveReply.Reply))) (r : Row Body Asked Reply) : Type 0 where
  row : Row (Tagged Body OwnService) Wanted (Option SlaveReply.Reply)
  is : now ≡ Some row
  named : row_seen (λ (t : Tagged Body OwnService). t.mail) named_wanted (λ a. a) row ≡ r

seen_row : (now : Option (Row (Tagged Body OwnService) Wanted (Option SlaveReply.Reply))) (r : Row Body Asked Reply) → option_map (λ z. row_seen (λ (t : Tagged Body OwnService). t.mail) named_wanted (λ a. a) z) now ≡ Some r → SeenRow now r
seen_row None r e = absurd (let no : None ≡ Some r = e in cc)
seen_row (Some row) r e = record { row = row; is = refl; named = (let s : Some (row_seen (λ (t : Tagged Body OwnService). t.mail) named_wanted (λ a. a) row) ≡ Some r = e in cc) }

-- a fact of the row in hand
of_row : {N Q R : Type 0} (P : Row N Q R → Type 0) (now : Option (Row N Q R)) (row : Row N Q R) → now ≡ Some row → OfRow P now → P row
of_row P None row e k = absurd (let no : None ≡ Some row = e in cc)
of_row P (Some r) row e k = let same : r ≡ row = cc in subst P same k

one_less : (n m : ℕ) → m ≡ n + 1 → nat_lt n m ≡ true
one_less n m e = grind (arith, nat_tests, e)

-- a list seen otherwise, about one of its places
record Parts {X Y : Type 0} (f : X → Y) (xs : List X) (before : List Y) (y : Y) (behind : List Y) : Type 0 where
  front : List X
  one : X
  rest : List X
  is : xs ≡ front ++ one ∷ rest
  front_is : map f front ≡ before
  one_is : f one ≡ y
  rest_is : map f rest ≡ behind

parts_of : {X Y : Type 0} (f : X → Y) (xs : List X) (before : List Y) (y : Y) (behind : List Y) → map f xs ≡ before ++ y ∷ behind → Parts f xs before y behind
parts_of f [] [] y behind e = absurd (let no : [] ≡ y ∷ behind = e in cc)
parts_of f [] (z ∷ before) y behind e = absurd (let no : [] ≡ z ∷ (before ++ y ∷ behind) = e in cc)
parts_of f (x ∷ xs) [] y behind e = record { front = []; one = x; rest = xs; is = refl; front_is = refl; one_is = (let head : f x ≡ y = cc in head); rest_is = (let tail : map f xs ≡ behind = cc in tail) }
parts_of f (x ∷ xs) (z ∷ before) y behind e =
    let head : f x ≡ z = cc in
    let k = parts_of f xs before y behind (let tail : map f xs ≡ before ++ y ∷ behind = cc in tail) in
    record { front = x ∷ k.front; one = k.one; rest = k.rest; is = ap (λ l. x ∷ l) k.is; front_is = ap₂ (λ a l. a ∷ l) head k.front_is; one_is = k.one_is; rest_is = k.rest_is }

-- state services alone: none, or one is the last
record LastState {Q : Type 0} (xs : List (Started Q)) : Type 0 where
  front : List (Started Q)
  target : ℕ
  frame : ℕ
  is : xs ≡ front ++ record { service = Service.State target; frame = frame } ∷ []
  none : mails_in (services_in front) ≡ 0

last_state : {Q : Type 0} (xs : List (Started Q)) → mails_in (services_in xs) ≡ 0 → (xs ≡ []) ⊎ LastState xs
last_state [] none = inl refl
last_state {Q} (s ∷ xs) none = go s.service refl none (last_state xs)
  where
    go : (z : Service Q) → s.service ≡ z → mails_in (z ∷ services_in xs) ≡ 0 → (mails_in (services_in xs) ≡ 0 → (xs ≡ []) ⊎ LastState xs) → ((s ∷ xs) ≡ []) ⊎ LastState (s ∷ xs)
    go (Service.Mails q) e none rest = absurd (let no : suc (mails_in (services_in xs)) ≡ 0 = none in cc)
    go (Service.State target) e none rest = elim (rest none) [
      | inl is ↦ inr (record { front = []; target = target; frame = s.frame; is = (λ j. record { service = e j; frame = s.frame } ∷ is j); none = refl })
      | inr k ↦ inr (record { front = s ∷ k.front; target = k.target; frame = k.frame; is = ap (λ l. s ∷ l) k.is; none = ap (λ y. mails_in (y ∷ services_in k.front)) e ∙ k.none })
    ]

-- as many by their names
mails_named : (ss : List (Started Wanted)) → mails_in (services_in (map start_named ss)) ≡ mails_in (services_in ss)
mails_named [] = refl
mails_named (s ∷ ss) = go s.service (mails_named ss)
  where
    go : (z : Service Wanted) → mails_in (services_in (map start_named ss)) ≡ mails_in (services_in ss) → mails_in (service_seen named_wanted z ∷ services_in (map start_named ss)) ≡ mails_in (z ∷ services_in ss)
    go (Service.Mails q) rest = ap suc rest
    go (Service.State target) rest = rest

-- one of services that are such as the laws speak of
named_rest : (p : Profile) (qs rs : List (Service Wanted)) → AllNamed p (qs ++ rs) → AllNamed p rs
named_rest p [] rs k = k
named_rest p (q ∷ qs) rs k = named_rest p qs rs k.1

-- what is such and named a mail that is passed on is one
pub named_passed : (p : Profile) (q : Wanted) (rs : List (Service Wanted)) (m : Mail) → AllNamed p (Service.Mails q ∷ rs) → named_wanted q ≡ passed m → (answers : Bool) × (q ≡ Tagged.Asked.Passed (Ok m) answers)
named_passed p (Tagged.Asked.Script (Protocol.CoE, q)) rs m k e = absurd (let no : Spoken.sdo q ≡ passed m = e in cc)
named_passed p (Tagged.Asked.Script (Protocol.FoE, q)) rs m k e = absurd (let no : Spoken.file q ≡ passed m = e in cc)
named_passed p (Tagged.Asked.Script (Protocol.SoE, q)) rs m k e = absurd (let no : Spoken.drive q ≡ passed m = e in cc)
named_passed p (Tagged.Asked.Script (Protocol.EoE, q)) rs m k e = absurd (let no : Spoken.net q ≡ passed m = e in cc)
named_passed p (Tagged.Asked.Passed (Ok n) answers) rs m k e = (answers, (let same : n ≡ m = cc in ap (λ z. Tagged.Asked.Passed (Ok z) answers) same))
named_passed p (Tagged.Asked.Passed (Err fault) answers) rs m k e = absurd (let no : false ≡ true = k.0 in cc)

-- ---- the rows of services
module _ (p : Profile) (boot : Bool) (station : ℕ) where
  abbrev Rows : Type 0
  Rows = List (Row Body Asked Reply)

  passing_none : (qs : List (Service Asked)) → passing_before p boot station qs None ≡ None
  passing_none [] = refl
  passing_none (q ∷ qs) = refl

  passing_more : (qs : List (Service Asked)) (q : Service Asked) (rest : List (Service Asked)) (passing : Option Passing) → passing_before p boot station (qs ++ q ∷ rest) passing ≡ None
  passing_more [] q rest passing = refl
  passing_more (z ∷ qs) q rest passing = refl

  states_heard : (passing : Option Passing) (v : InState Server) (qs : List (Service Asked)) → mails_in qs ≡ 0 → AllHeard p boot station passing v qs []
  states_heard passing v [] none = tt
  states_heard passing v (Service.Mails q ∷ qs) none = absurd (let no : suc (mails_in qs) ≡ 0 = none in cc)
  states_heard passing v (Service.State target ∷ qs) none = states_heard passing (record v { state = state_behind (table_of boot station) v.state target }) qs none

  -- rows that are over, and one more
  more_heard : (passing : Option Passing) (v : InState Server) (qs : List (Service Asked)) (q : Asked) (states : List (Service Asked)) (rs : Rows) (r : Row Body Asked Reply) → mails_in states ≡ 0 → AllHeard p boot station None v qs rs →
      IsHeardOne p boot station (server_behind p boot station v qs) q (passing_before p boot station states passing) r → AllHeard p boot station passing v (qs ++ Service.Mails q ∷ states) (rs ++ r ∷ [])
  more_heard passing v [] q states [] r none all one = (one, states_heard passing ((spoken p).exec v q) states none)
  more_heard passing v [] q states (z ∷ rs) r none all one = absurd all
  more_heard passing v (Service.Mails d ∷ qs) q states [] r none all one = absurd all
  more_heard passing v (Service.Mails d ∷ qs) q states (z ∷ rs) r none all one = (
    subst (λ o. IsHeardOne p boot station v d o z) (passing_none qs ∙ sym (passing_more qs (Service.Mails q) states passing)) all.0,
    more_heard passing ((spoken p).exec v d) qs q states rs r none all.1 one,
  )
  more_heard passing v (Service.State target ∷ qs) q states rs r none all one = more_heard passing (record v { state = state_behind (table_of boot station) v.state target }) qs q states rs r none all one

module _ (p : Profile) (k : IsSpeaker (speaker p)) (boot : Bool) (lens : ℕ → Lens) (spot : Spot) (opened : ℕ) (server : InState Server) (registers : Registers)
    (plan : IsTaskPlan (spoken p) spoken_states (processor_of boot) (Lived.table_of (serves p boot lens)) (planned spot server registers ∷ [])) (answers : registers.station ≡ spot.station) where
  -- an epoch that is led from there on
  abbrev pub Led : List (Frame Body) → Bool → Era Body Asked Reply → Slave (InState Server) Body → Type 0
  Led fs counts e n = IsLed (spoken p) Spoken.acknowledged (processor_of boot) is_followed is_passed spot opened server registers fs counts e n

  abbrev Behind : List (Service Asked) → InState Server
  Behind qs = server_behind p boot spot.station server qs

  speaks : IsSpeaker (mailer p)
  speaks = mailer_speaks p k

  module _ (fs : List (Frame Body)) (counts : Bool) (e : Era Body Asked Reply) (n : Slave (InState Server) Body) (l : Led fs counts e n) where
    -- IT IS SEEN with what is meant by its mails
    pub seen_so : IsSeen (mailer p) (seer_of p boot) (table_of boot) spot opened server registers fs counts e n
    seen_so = epoch_seen (mailer p) speaks (spoken p) (processor_of boot) (seer_of p boot) (table_of boot) spot (mailer_runs p boot spot.station) opened server registers
        (record {
          plan = record { stations = plan.plan.stations; ready = (ap (λ (a : Bool). a && true) plan.plan.ready.0, tt) };
          apart = plan.apart;
          tells = λ state v. refl;
          brought = ((plan.brought.0.0, λ answers. let b = plan.brought.0.1 answers in record { control = b.control; refused = b.refused; sits = b.sits; state = b.state }), tt);
        }) answers fs counts e n l (all_mails p e.account.started)

    -- THE MAIL of the newest row
    module _ (i : IsSeen (mailer p) (seer_of p boot) (table_of boot) spot opened server registers fs counts e n) (before : List (Started Asked)) (m : Mail) (frame : ℕ) (states : List (Started Asked)) (r : Row Body Asked Reply)
        (started : e.account.started ≡ before ++ by_mails (passed m) frame ∷ states) (none : mails_in (services_in states) ≡ 0) (now : e.side.now ≡ Some r) (passes : r.service ≡ passed m) where
      abbrev there : List (Started Wanted)
      there = i.era.account.started

      at_parts : Parts start_named there before (by_mails (passed m) frame) states
      at_parts = parts_of start_named there before (by_mails (passed m) frame) states (ap (λ (d : Era Body Asked Reply). d.account.started) i.named ∙ started)

      row_here : SeenRow i.era.side.now r
      row_here = seen_row i.era.side.now r (ap (λ (d : Era Body Asked Reply). d.side.now) i.named ∙ now)

      all_valid : AllNamed p (services_in there)
      all_valid = valid (mailer p) speaks (seer_of p boot) (table_of boot) spot opened server registers fs counts e n i

      module _ (x : Parts start_named there before (by_mails (passed m) frame) states) (y : SeenRow i.era.side.now r) where
        -- the service of the row, without its name
        mailed : (q : Wanted) × (x.one.service ≡ Service.Mails q)
        mailed = named_mails p x.one.service (passed m) (ap (λ (s : Started Asked). s.service) x.one_is)

        whole : there ≡ x.front ++ by_mails mailed.0 x.one.frame ∷ x.rest
        whole = x.is ∙ (λ j. x.front ++ record { service = mailed.1 j; frame = x.one.frame } ∷ x.rest)

        split : services_in there ≡ services_in x.front ++ Service.Mails mailed.0 ∷ services_in x.rest
        split = ap services_in whole ∙ map-append (λ (s : Started Wanted). s.service) x.front (by_mails mailed.0 x.one.frame ∷ x.rest)

        at : Foreseen.server_behind (product_whole parts p) whole_states (table_of boot spot.station) server (services_in x.front) ≡ Behind (services_in before)
        at = behind_named p boot spot.station server (services_in x.front) (named_front p (services_in x.front) (Service.Mails mailed.0 ∷ services_in x.rest) (subst (AllNamed p) split all_valid))
            ∙ ap Behind (sym (services_named p x.front) ∙ ap services_in x.front_is)

        words : untag (Newest.replies (product_whole parts p) is_followed y.row) ≡ plain emission r.heard
        words =
            let contents = of_row (λ (h : Row (Tagged Body OwnService) Wanted (Option SlaveReply.Reply)). ByContents (product_whole parts p).speech.emission h.heard) i.era.side.now y.row y.is i.contents in
            plain_untag (product_whole parts p).speech.emission y.row.heard contents ∙ ap (λ (z : Row Body Asked Reply). plain emission z.heard) y.named

        -- it is the newest that came into hand
        heard_newest : x.rest ≡ [] → IsHeardOf p boot spot.station (Behind (services_in before)) m e.passing r
        heard_newest last =
            let name : named_wanted y.row.service ≡ passed m = ap (λ (z : Row Body Asked Reply). z.service) y.named ∙ passes in
            let hs : List (Tagged Body OwnService) = plain (λ t. Tagged.is_own t.meant) y.row.heard in
            let words_there : List Body = plain (naming_of p).speech.emission (map (λ (t : Tagged Body OwnService). t.mail) y.row.heard) in
            let plans = of_row (λ h. PlanOne (λ (t : Tagged Body OwnService). t.mail) named_wanted (λ (a : Option SlaveReply.Reply). a) (seeing (mailer p)).speech (naming_of p).speech h.service h.heard) i.era.side.now y.row y.is i.plans in
            let mail = named_mail p m y.row.service name (λ answers b is.
            ap (λ z. map (λ (t : Tagged Body OwnService). t.mail) (Tagged.asked_planned (product_whole parts p).speech z hs)) (sym is) ∙ plans ∙ ap (λ z. (naming_of p).speech.planned z words_there) name) in
            let h = heard (mailer p) speaks (seer_of p boot) (table_of boot) spot opened server registers fs counts e n i x.front mailed.0 x.one.frame (whole ∙ ap (λ l. x.front ++ by_mails mailed.0 x.one.frame ∷ l) last) (Ok m) mail.answers y.row y.is mail.is in
            record {
              begin = (h.begin.0, ap (λ z. z ++ h.begin.0) (sym words) ∙ h.begin.1 ∙ ap (λ v. replies_to p boot spot.station v m) at);
              all = λ over.
                  sym words ∙ row_whole (product_whole parts p) is_followed speaks.last _ (Ok m) mail.answers y.row h
                  (λ yes_. answered_by (ap (λ (d : Era Body Asked Reply). d.passing) i.named ∙ over) mail yes_) ∙ ap (λ v. replies_to p boot spot.station v m) at;
            }
          where
            answered_by : i.era.passing ≡ None → (mail : IsNamedMail p m y.row.service) → mail.answers ≡ true → is_some y.row.answer ≡ true
            answered_by over mail yes_ =
                of_row (λ (h : Row (Tagged Body OwnService) Wanted (Option SlaveReply.Reply)). (b : Body) → h.service ≡ Tagged.Asked.Passed b true → is_some h.answer ≡ true) i.era.side.now y.row y.is (i.answered over) (Ok m) (mail.is ∙ ap (λ c. Tagged.Asked.Passed (Ok m) c) yes_)

        -- or a state service came into hand behind it
        heard_before : LastState x.rest → plain emission r.heard ≡ replies_to p boot spot.station (Behind (services_in before)) m
        heard_before s =
            let rest = named_rest p (services_in x.front) (Service.Mails mailed.0 ∷ services_in x.rest) (subst (AllNamed p) split all_valid) in
            let name : named_wanted mailed.0 ≡ passed m = (let both : Service.Mails (named_wanted mailed.0) ≡ Service.Mails (passed m) = ap (service_seen named_wanted) (sym mailed.1) ∙ ap (λ (z : Started Asked). z.service) x.one_is in cc) in
            let mail = named_passed p mailed.0 (services_in x.rest) m rest name in
            let behind : there ≡ (x.front ++ by_mails (Tagged.Asked.Passed (Ok m) mail.0) x.one.frame ∷ s.front) ++ record { service = Service.State s.target; frame = s.frame } ∷ [] =
            whole ∙ ap₂ (λ (q : Wanted) (l : List (Started Wanted)). x.front ++ by_mails q x.one.frame ∷ l) mail.1 s.is
            ∙ sym (append_assoc x.front (by_mails (Tagged.Asked.Passed (Ok m) mail.0) x.one.frame ∷ s.front) (record { service = Service.State s.target; frame = s.frame } ∷ [])) in
            sym words ∙ heard_whole (mailer p) speaks (seer_of p boot) (table_of boot) spot opened server registers fs counts e n i x.front (Ok m) mail.0 x.one.frame s.front s.target s.frame behind s.none y.row y.is ∙ ap (λ v. replies_to p boot spot.station v m) at

        heard_parts : IsHeardOf p boot spot.station (Behind (services_in before)) m (passing_before p boot spot.station (services_in states) e.passing) r
        heard_parts = elim (last_state x.rest (sym (mails_named x.rest) ∙ ap (λ l. mails_in (services_in l)) x.rest_is ∙ none)) [
          | inl last ↦ subst (λ (l : List (Started Asked)). IsHeardOf p boot spot.station (Behind (services_in before)) m (passing_before p boot spot.station (services_in l) e.passing) r) (ap (map start_named) (sym last) ∙ x.rest_is) (heard_newest last)
          | inr s ↦ record { begin = ([], append-nil (plain emission r.heard) ∙ heard_before s); all = λ over. heard_before s }
        ]

      pub heard_here : IsHeardOf p boot spot.station (Behind (services_in before)) m (passing_before p boot spot.station (services_in states) e.passing) r
      heard_here = heard_parts at_parts row_here

  -- ---- ALL ROWS
  -- the newest of them, and those before it, which are over
  record Newer (e : Era Body Asked Reply) : Type 0 where
    before : List (Started Asked)
    service : Asked
    frame : ℕ
    states : List (Started Asked)
    row : Row Body Asked Reply
    started : e.account.started ≡ before ++ by_mails service frame ∷ states
    none : mails_in (services_in states) ≡ 0
    now : e.side.now ≡ Some row
    is : row.service ≡ service
    past : AllHeard p boot spot.station None server (services_in before) e.side.past

  -- or there is none
  record NoRow (e : Era Body Asked Reply) : Type 0 where
    none : mails_in (services_in e.account.started) ≡ 0
    past : e.side.past ≡ []
    now : e.side.now ≡ None

  abbrev Heard : Era Body Asked Reply → Type 0
  Heard e = AllHeard p boot spot.station e.passing server (services_in e.account.started) (rows_of e.side)

  heard_from : (fs : List (Frame Body)) (counts : Bool) (e : Era Body Asked Reply) (n : Slave (InState Server) Body) → Led fs counts e n → NoRow e ⊎ Newer e → Heard e
  heard_from fs counts e n l (inl k) =
      subst (AllHeard p boot spot.station e.passing server (services_in e.account.started)) (sym (λ j. k.past j ++ newest (k.now j))) (states_heard p boot spot.station e.passing server (services_in e.account.started) k.none)
  heard_from fs counts e n l (inr k) =
      let services : services_in e.account.started ≡ services_in k.before ++ Service.Mails k.service ∷ services_in k.states = ap services_in k.started ∙ map-append (λ (s : Started Asked). s.service) k.before (by_mails k.service k.frame ∷ k.states) in
      let one : IsHeardOne p boot spot.station (Behind (services_in k.before)) k.service (passing_before p boot spot.station (services_in k.states) e.passing) k.row = (
        k.is,
        λ m is. heard_here fs counts e n l (seen_so fs counts e n l) k.before m k.frame k.states k.row (k.started ∙ ap (λ q. k.before ++ by_mails q k.frame ∷ k.states) is) k.none k.now (k.is ∙ is),
      ) in
      subst (λ qs. AllHeard p boot spot.station e.passing server qs (rows_of e.side)) (sym services)
      (subst (AllHeard p boot spot.station e.passing server (services_in k.before ++ Service.Mails k.service ∷ services_in k.states)) (ap (λ z. e.side.past ++ newest z) (sym k.now))
      (more_heard p boot spot.station e.passing server (services_in k.before) k.service (services_in k.states) e.side.past k.row k.none k.past one))

  no_now : (ms : List Body) (old now : Option (Row Body Asked Reply)) → old ≡ None → NowGoes ms old now → now ≡ None
  no_now ms None None e g = refl
  no_now ms None (Some s) e g = absurd g
  no_now ms (Some r) now e g = absurd (let no : Some r ≡ None = e in cc)

  -- the row that goes on
  record NextRow (ms : List Body) (now : Option (Row Body Asked Reply)) (row : Row Body Asked Reply) : Type 0 where
    next : Row Body Asked Reply
    is : now ≡ Some next
    goes : Goes ms row next

  some_now : (ms : List Body) (old now : Option (Row Body Asked Reply)) (row : Row Body Asked Reply) → old ≡ Some row → NowGoes ms old now → NextRow ms now row
  some_now ms None now row e g = absurd (let no : None ≡ Some row = e in cc)
  some_now ms (Some r) None row e g = absurd g
  some_now ms (Some r) (Some s) row e g = record { next = s; is = refl; goes = (let same : r ≡ row = cc in subst (λ z. Goes ms z s) same g) }

  started_on : (ms : List Body) (d e : Era Body Asked Reply) (g : GoesOn ms d.account.started d.side e.account.started e.side) (k : Newer d) → e.account.started ≡ k.before ++ by_mails k.service k.frame ∷ (k.states ++ g.added)
  started_on ms d e g k = g.started ∙ ap (λ l. l ++ g.added) k.started ∙ append_assoc k.before (by_mails k.service k.frame ∷ k.states) g.added

  none_on : (ms : List Body) (d e : Era Body Asked Reply) (g : GoesOn ms d.account.started d.side e.account.started e.side) (k : Newer d) → mails_in (services_in (k.states ++ g.added)) ≡ 0
  none_on ms d e g k = mails_both k.states g.added ∙ ap₂ (λ (a b : ℕ). a + b) k.none g.states

  newer_on : (ms : List Body) (d e : Era Body Asked Reply) → GoesOn ms d.account.started d.side e.account.started e.side → Newer d → Newer e
  newer_on ms d e g k =
      let next = some_now ms d.side.now e.side.now k.row k.now g.now in
      record {
        before = k.before;
        service = k.service;
        frame = k.frame;
        states = k.states ++ g.added;
        row = next.next;
        started = started_on ms d e g k;
        none = none_on ms d e g k;
        now = next.is;
        is = next.goes.service ∙ k.is;
        past = subst (AllHeard p boot spot.station None server (services_in k.before)) (sym g.past) k.past;
      }

  goes_on : (ms : List Body) (d e : Era Body Asked Reply) → GoesOn ms d.account.started d.side e.account.started e.side → NoRow d ⊎ Newer d → NoRow e ⊎ Newer e
  goes_on ms d e g (inl k) = inl (record {
    none = ap (λ l. mails_in (services_in l)) g.started ∙ mails_both d.account.started g.added ∙ ap₂ (λ (a b : ℕ). a + b) k.none g.states;
    past = g.past ∙ k.past;
    now = no_now ms d.side.now e.side.now k.now g.now;
  })
  goes_on ms d e g (inr k) = inr (newer_on ms d e g k)

  comes : (wish : Option (Service Asked)) (d e : Era Body Asked Reply) → Heard d → Comes d.passing wish d.account.started d.side e.account.started e.side → Newer e
  comes wish d e all c = record {
    before = d.account.started;
    service = c.service;
    frame = c.frame;
    states = [];
    row = c.row;
    started = c.started;
    none = refl;
    now = c.now;
    is = c.is;
    past = subst (AllHeard p boot spot.station None server (services_in d.account.started)) (sym c.past) (subst (λ o. AllHeard p boot spot.station o server (services_in d.account.started) (rows_of d.side)) c.free all);
  }

  rows_led : (fs : List (Frame Body)) (counts : Bool) (e : Era Body Asked Reply) (n : Slave (InState Server) Body) → Led fs counts e n → NoRow e ⊎ Newer e
  rows_led fs counts e n (IsLed.begins cleared state gs is) = inl (record { none = refl; past = refl; now = refl })
  rows_led fs counts e n (IsLed.goes_on gs c d m l t may) =
      let before = rows_led gs c d m l in
      elim (turned (spoken p).speech Spoken.acknowledged is_followed is_passed spot.station (length gs) (news_in spot opened gs c t) t.sent t.fate t.back d t.pick) [
        | inl g ↦ goes_on (accepted_of spot.station t.fate t.back (turn_next (spoken p) Spoken.acknowledged (processor_of boot) is_followed is_passed spot opened gs d t).side) d e g before
        | inr k ↦ inr (comes (granted d.passing t.pick).begin d e (heard_from gs c d m l before) k)
      ]

  -- OF EACH ROW of the epoch
  pub all_heard : (fs : List (Frame Body)) (counts : Bool) (e : Era Body Asked Reply) (n : Slave (InState Server) Body) → Led fs counts e n → Heard e
  all_heard fs counts e n l = heard_from fs counts e n l (rows_led fs counts e n l)

  -- and where there is a row, there is a newest
  pub newest_there : (fs : List (Frame Body)) (counts : Bool) (e : Era Body Asked Reply) (n : Slave (InState Server) Body) → Led fs counts e n → e.side.now ≡ None → e.side.past ≡ []
  newest_there fs counts e n l none = elim (rows_led fs counts e n l) [ inl k ↦ k.past | inr k ↦ absurd (let no : None ≡ Some k.row = sym none ∙ k.now in cc) ]

  -- ---- BY A FRAME
  -- the services that pass a mail on
  passed_of : (q : Asked) → is_passed q ≡ true → (m : Mail) × (q ≡ passed m)
  passed_of (Spoken.sdo q) e = absurd (let no : false ≡ true = e in cc)
  passed_of (Spoken.file q) e = absurd (let no : false ≡ true = e in cc)
  passed_of (Spoken.drive q) e = absurd (let no : false ≡ true = e in cc)
  passed_of (Spoken.net q) e = absurd (let no : false ≡ true = e in cc)
  passed_of (Spoken.passed m) e = (m, refl)

  module _ (fs : List (Frame Body)) (counts : Bool) (e : Era Body Asked Reply) (n : Slave (InState Server) Body) (l : Led fs counts e n) (t : EraTurn (InState Server) Body Asked)
      (may : MayTurn (spoken p) Spoken.acknowledged (processor_of boot) is_followed is_passed spot opened fs e n t) where
    -- the epoch before the frame, and behind it
    abbrev next : Era Body Asked Reply
    next = turn_next (spoken p) Spoken.acknowledged (processor_of boot) is_followed is_passed spot opened fs e t

    abbrev behind : Era Body Asked Reply
    behind = turn_after (spoken p) Spoken.acknowledged (processor_of boot) is_followed is_passed spot opened fs counts e t

    abbrev news : List (News Body)
    news = news_in spot opened fs counts t

    abbrev wish : Option (Service Asked)
    wish = (granted e.passing t.pick).begin

    abbrev ms : List Body
    ms = accepted_of spot.station t.fate t.back next.side

    -- no mail was passed on before it
    was_over : (passing : Option Passing) (pick : Pick Asked) (new : Account Asked Reply) → passing_begins (spoken p).speech Spoken.acknowledged is_followed is_passed passing e.account new (granted passing pick).begin ≡ None → passing ≡ None
    was_over None pick new none = refl
    was_over (Some o) pick new none = none

    stays_over : (fate : RingFate) → next.passing ≡ None → (era_after (spoken p).speech Spoken.acknowledged is_followed is_passed spot.station (length fs) news t.sent fate t.back next).passing ≡ None
    stays_over RingFate.Back none = ap (λ o. passes (spoken p).speech Spoken.acknowledged is_followed is_passed o news) none
    stays_over (RingFate.Lost after) none = ap (λ o. passes (spoken p).speech Spoken.acknowledged is_followed is_passed o news) none

    started_by : (fate : RingFate) → (era_after (spoken p).speech Spoken.acknowledged is_followed is_passed spot.station (length fs) news t.sent fate t.back next).account.started ≡ next.account.started
    started_by RingFate.Back = started_back spot.station (length fs) next.account (own spot.station t.back)
    started_by (RingFate.Lost after) = refl

    -- one that comes into hand then waits to be sent
    waits : (q : Asked) (f : ℕ) → is_passed q ≡ true → wish ≡ Some (Service.Mails q) → next.account.started ≡ e.account.started ++ by_mails q f ∷ [] → next.passing ≡ None → ⊥
    waits q f pass wished grown none =
        let less : nat_lt (length e.account.started) (length next.account.started) ≡ true = one_less (length e.account.started) (length next.account.started) (ap length grown ∙ length-append e.account.started (by_mails q f ∷ [])) in
        let some : next.passing ≡ Some Passing.Waiting = ap (λ b. passing_begins (spoken p).speech Spoken.acknowledged is_followed is_passed e.passing e.account next.account b) wished ∙ ap₂ (λ (a b : Bool). if a && b then Some Passing.Waiting else e.passing) pass less in
        let no : None ≡ Some Passing.Waiting = sym none ∙ some in cc

    -- A MAIL THAT IS OVER gets no reply more
    pub no_more : next.passing ≡ None → (r : Row Body Asked Reply) → next.side.now ≡ Some r → is_passed r.service ≡ true → t.fate ≡ RingFate.Back → plain emission (all_accepted spot.station next.side.halves (grams (own spot.station t.back))) ≡ []
    no_more none r now pass fate = subst (λ z. plain emission (accepted_of spot.station z t.back next.side) ≡ []) fate
        (elim (turned (spoken p).speech Spoken.acknowledged is_followed is_passed spot.station (length fs) news t.sent t.fate t.back e t.pick) [ inl g ↦ on g | inr c ↦ absurd (new c) ])
      where
        -- the row behind the frame
        row_behind : behind.side.now ≡ Some (row_heard (spoken p).speech (length fs) (all_accepted spot.station next.side.halves (grams (own spot.station t.back))) r)
        row_behind = ap (λ z. (era_after (spoken p).speech Spoken.acknowledged is_followed is_passed spot.station (length fs) news t.sent z t.back next).side.now) fate
            ∙ ap (option_map (λ z. row_heard (spoken p).speech (length fs) (all_accepted spot.station next.side.halves (grams (own spot.station t.back))) z)) now

        new : Comes e.passing wish e.account.started e.side behind.account.started behind.side → ⊥
        new c =
            let same : Some c.row ≡ Some (row_heard (spoken p).speech (length fs) (all_accepted spot.station next.side.halves (grams (own spot.station t.back))) r) = sym c.now ∙ row_behind in
            let service : c.row.service ≡ r.service = (let row : c.row ≡ row_heard (spoken p).speech (length fs) (all_accepted spot.station next.side.halves (grams (own spot.station t.back))) r = cc in ap (λ (z : Row Body Asked Reply). z.service) row) in
            waits c.service c.frame (ap is_passed (sym c.is ∙ service) ∙ pass) c.wished (sym (started_by t.fate) ∙ c.started) none

        on : GoesOn ms e.account.started e.side behind.account.started behind.side → plain emission ms ≡ []
        on g = elim (rows_led fs counts e n l) [
          | inl k ↦ absurd (let no : None ≡ Some (row_heard (spoken p).speech (length fs) (all_accepted spot.station next.side.halves (grams (own spot.station t.back))) r) = sym (no_now ms e.side.now behind.side.now k.now g.now) ∙ row_behind in cc)
          | inr k ↦ both g k
        ]
          where
            both : GoesOn ms e.account.started e.side behind.account.started behind.side → Newer e → plain emission ms ≡ []
            both g k =
                let to = some_now ms e.side.now behind.side.now k.row k.now g.now in
                let same : Some to.next ≡ Some (row_heard (spoken p).speech (length fs) (all_accepted spot.station next.side.halves (grams (own spot.station t.back))) r) = sym to.is ∙ row_behind in
                let service : to.next.service ≡ r.service =
                (let row : to.next ≡ row_heard (spoken p).speech (length fs) (all_accepted spot.station next.side.halves (grams (own spot.station t.back))) r = cc in ap (λ (z : Row Body Asked Reply). z.service) row) in
                let mine : to.next.service ≡ k.service = to.goes.service ∙ k.is in
                let mail = passed_of k.service (ap is_passed (sym mine ∙ service) ∙ pass) in
                let over : e.passing ≡ None = was_over e.passing t.pick next.account none in
                let later = IsLed.goes_on fs counts e n l t may in
                let counted = counts_behind spot.station t.steps (own spot.station t.back) counts in
                let gs = fs ++ frame_in t ∷ [] in
                let first = (heard_here fs counts e n l (seen_so fs counts e n l) k.before mail.0 k.frame k.states k.row (k.started ∙ ap (λ q. k.before ++ by_mails q k.frame ∷ k.states) mail.1) k.none k.now (k.is ∙ mail.1)).all
                (ap (passing_before p boot spot.station (services_in k.states)) over ∙ passing_none p boot spot.station (services_in k.states)) in
                let last = (heard_here gs counted behind t.slave later (seen_so gs counted behind t.slave later) k.before mail.0 k.frame (k.states ++ g.added) to.next (started_on ms e behind g k ∙ ap (λ q. k.before ++ by_mails q k.frame ∷ (k.states ++ g.added)) mail.1)
                (none_on ms e behind g k) to.is (mine ∙ mail.1)).all (ap (passing_before p boot spot.station (services_in (k.states ++ g.added))) (stays_over t.fate none) ∙ passing_none p boot spot.station (services_in (k.states ++ g.added))) in
                append_cancel (plain emission k.row.heard) (plain emission ms) []
                (sym (plain-append emission k.row.heard ms) ∙ ap (plain emission) (sym to.goes.heard) ∙ last ∙ sym first ∙ sym (append-nil (plain emission k.row.heard)))
