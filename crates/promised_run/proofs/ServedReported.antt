-- WHAT THE BOOK OF A SERVING REPORTS is what its frames give.
use Rattle.std.proofs.Common.{◌≡◌, ℕ, suc, Bool, true, false, Option, Some, None, option_map, List, [], ◌∷◌, ◌++◌, map, refl, ap, ap₂, sym, ◌∙◌, subst}
use Rattle.std.proofs.lemmas.List.{map-append}
use Rattle.run_promises.specs.of_exchange_model.Rows.{Row}
use Rattle.seen_slaves.specs.of_frame_view.Shares.{AllBoth}
use Rattle.run_promises.specs.of_life_model.Eras.{era_frames}
use Rattle.run_promises.specs.of_life_model.Lives.{Spot, Era, Life, Stand, returns_to_init}
use Rattle.run_promises.specs.of_life_runs.First.{first_leads, lens_of, spot_of}
use Rattle.run_promises.specs.of_life_runs.Led.{Exchanged}
use Rattle.run_promises.specs.of_link_mails.Body.{Body}
use Rattle.seen_slaves.specs.of_master_duty.Reply.{Reply}
use Rattle.seen_slaves.specs.of_master_hand.Spoken.{Asked, sdo, file, drive, net, passed}
use Rattle.run_promises.specs.of_master_node.Serving.{run_lead}
use Rattle.seen_slaves.specs.of_plan_ring.Lives.{IsKnown}
use Rattle.seen_slaves.specs.of_plan_ring.Round.{AllRound, all_seen, ring_of}
use Rattle.promised_run.proofs.Reported.{are_noted, first_row, none_noted, parts, unopened_none}
use Rattle.promised_run.proofs.Rounds.{all_round}
use Rattle.promised_run.specs.ServedReported.{AllReportedSo, EraNoted, IsServedReported, LifeNoted, NewestNoted, PastNoted}
use Rattle.gateway_run.specs.of_run_book.declared.book.Book.{Book}
use Rattle.gateway_run.specs.of_run_book.declared.book.SlaveBook.{SlaveBook}
use Rattle.run_promises.proofs.Known.{known}
use Rattle.run_promises.specs.Slaves.{services_of}
use Rattle.gateway_run.specs.of_run_record.Led.{exchanged}
use Rattle.gateway_run.specs.of_run_record.Ran.{HasSent}
use Rattle.gateway_run.specs.of_run_record.Replay.{first_ring}
use Rattle.gateway_run.specs.of_run_notes.Reports.{IsBooked, noted_in}
use Rattle.run_promises.specs.of_scenario.Told.{IsTold}
use Rattle.seen_slaves.specs.of_run_frames.ScriptAnswers.{AllNoted, Came, Noted, Scripted, answers_in, change_outcome, changes_behind, era_scripted, eras_scripted, first_change, life_scripted, next_opened, opened_anew, scripted_by, scripted_in, scripted_mails}
use Rattle.seen_slaves.specs.of_run_frames.Came.{is_beside}
use Rattle.run_promises.specs.of_segment_model.Record.{Frame}
use Rattle.run_promises.specs.of_segment_model.Seats.{Side, newest, rows_of}
use Rattle.run_promises.specs.of_segment_plan.Sound.{IsPlan}
use Rattle.run_promises.specs.of_segment_plan.declared.plan.Scenario.{Scenario}
use Rattle.run_promises.specs.of_segment_plan.declared.slave.SlaveSpec.{SlaveSpec}
use Rattle.seen_slaves.specs.of_served_rings.ToldEras.{AllToldEras, AllToldLives, IsToldEra, IsToldLife, IsToldNewest, WasToldEra, next_cleared, unpassed_answer, unpassed_row, unpassed_side}
use Rattle.seen_slaves.proofs.of_served_rings.Unpassed.{rows_keys}
use Rattle.run_promises.specs.of_life_runs.Served.{IsServedLed, Serves, all_serve}
use Rattle.seen_slaves.specs.of_slave_lives.Lived.{Behind}
use Rattle.run_promises.specs.of_state_model.Stated.{Service}
use Rattle.run_promises.specs.of_state_model.Accounts.{Change, Started}
use Rattle.run_promises.specs.of_state_model.Promise.{mail_of, mails_started, rows_started}

-- the law
abbrev pub ErasLaw : Type 0
ErasLaw =
    (plan : Scenario) → IsPlan plan → IsKnown plan → (fs : List Exchanged) (missed : ℕ) (ws : List Serves) → IsServedLed (lens_of plan.slaves) plan.recover plan.retry (all_serve plan.paces (first_leads plan)) fs missed ws →
    AllRound (ring_of plan) fs → AllToldLives plan (all_seen (lens_of plan.slaves) fs) 0 plan.slaves ws

abbrev Held : Type 0
Held = Row Body Asked Reply

-- all rows of a side without the answers of mails that are passed on
rows_are : (d : Side Body Asked Reply) → rows_of (unpassed_side d) ≡ map (λ r. unpassed_row r) (rows_of d)
rows_are d = go d.now
  where
    go : (now : Option Held) → map (λ r. unpassed_row r) d.past ++ newest (option_map (λ r. unpassed_row r) now) ≡ map (λ r. unpassed_row r) (d.past ++ newest now)
    go None = sym (map-append (λ (r : Held). unpassed_row r) d.past [])
    go (Some r) = sym (map-append (λ (r : Held). unpassed_row r) d.past (r ∷ []))

-- a service of the script keeps its answer
keeps : (q : Asked) (answer : Option (Reply × ℕ)) → is_beside (Service.Mails q) ≡ false → unpassed_answer q answer ≡ answer
keeps (sdo q) answer own = refl
keeps (file q) answer own = refl
keeps (drive q) answer own = refl
keeps (net q) answer own = refl
keeps (passed m) answer own = absurd (let no : true ≡ false = own in cc)

-- so without those answers the script came to the same
abbrev SameScript : Option ℕ → List (Started Asked) → List Held → List (Change Reply) → Type 0
SameScript anew ss rs cs = mails_started ss ≡ rows_started rs → scripted_in anew ss (answers_in (map (λ r. unpassed_row r) rs)) cs ≡ scripted_in anew ss (answers_in rs) cs

scripted_same : (anew : Option ℕ) (ss : List (Started Asked)) (rs : List Held) (cs : List (Change Reply)) → SameScript anew ss rs cs
scripted_same anew [] rs cs m = refl
scripted_same anew (r ∷ ss) rs cs m = go r.service rs m (λ rs ds m. scripted_same anew ss rs ds m)
  where
    by : (q : Asked) (t : Held) (b : Bool) → is_beside (Service.Mails q) ≡ b → t.service ≡ q → (ts us : List Scripted) → ts ≡ us → scripted_mails b r.frame (unpassed_answer t.service t.answer) ts ≡ scripted_mails b r.frame t.answer us
    by q t true own same ts us rest = rest
    by q t false own same ts us rest = ap₂ (λ (a : Option (Reply × ℕ)) (ts : List Scripted). record { frame = r.frame; came = Came.mails a } ∷ ts) (keeps t.service t.answer (ap (λ z. is_beside (Service.Mails z)) same ∙ own)) rest

    go : (z : Service Asked) (rs : List Held) → mail_of z r.frame ++ mails_started ss ≡ rows_started rs → ((rs : List Held) (ds : List (Change Reply)) → SameScript anew ss rs ds) →
        scripted_by anew z r.frame (answers_in (map (λ r. unpassed_row r) rs)) cs (λ more others. scripted_in anew ss more others) ≡ scripted_by anew z r.frame (answers_in rs) cs (λ more others. scripted_in anew ss more others)
    go (Service.State target) rs m more =
        ap (λ (ts : List Scripted). record { frame = r.frame; came = Came.state (change_outcome (returns_to_init target) anew (first_change cs)) } ∷ ts) (more rs (changes_behind cs) m)
    go (Service.Mails q) [] m more = absurd (let bad : (q, r.frame) ∷ mails_started ss ≡ [] = m in cc)
    go (Service.Mails q) (t ∷ rs) m more =
        let e = first_row q r.frame t (mails_started ss) rs m in
        by q t (is_beside (Service.Mails q)) refl e.0 (scripted_in anew ss (answers_in (map (λ r. unpassed_row r) rs)) cs) (scripted_in anew ss (answers_in rs) cs) (more rs cs e.2)

-- ---- ALL EPOCHS of a life
module _ {S V A : Type 0} (w : Behind S V A Asked Reply) (spot : Spot) (fs : List (Frame Body)) where
  era_noted : (anew : Option ℕ) (e : Era Body Asked Reply) (until : ℕ) → IsToldEra w spot fs e until → (ns : List Noted) → AllNoted (era_scripted anew e) ns → EraNoted w.exchange.speech spot fs anew e until ns
  era_noted anew e until t ns h =
      let gs = era_frames spot t.opened until fs in
      record {
        opened = t.opened;
        opened_at = t.opened_at;
        before = t.before;
        within = t.within;
        in_rows = t.in_rows;
        noted = are_noted w.exchange.speech spot.station gs anew e.account.started (rows_of (unpassed_side e.side)) e.account.over ns t.told.mails t.told.answers
            (record { hand = e.account.hand; whole = t.told.states; over = t.told.over; none = t.told.hand })
            (subst (λ ts. AllNoted ts ns) (sym (ap (λ rs. scripted_in anew e.account.started (answers_in rs) e.account.over) (rows_are e.side) ∙ scripted_same anew e.account.started (rows_of e.side) e.account.over (t.told.mails ∙ rows_keys e.side))) h);
      }

  past_noted : (gave : List ℕ) (cleared opened : Option ℕ) (es : List (Era Body Asked Reply)) → AllToldEras w spot fs es cleared → (ns : List Noted) → AllNoted (eras_scripted gave es opened) ns → PastNoted w.exchange.speech spot fs gave cleared opened es ns
  past_noted gave cleared opened [] told ns h = subst (λ ms. PastNoted w.exchange.speech spot fs gave cleared opened [] ms) (sym (none_noted ns h)) PastNoted.none
  past_noted gave cleared opened (e ∷ es) told ns h =
      let anew = opened_anew gave e.opened (next_opened es opened) in
      let p = parts (era_scripted anew e) (eras_scripted gave es opened) ns h in
      subst (λ ms. PastNoted w.exchange.speech spot fs gave cleared opened (e ∷ es) ms) (sym p.whole) (go anew p.front p.behind told.0 p.first (past_noted gave cleared opened es told.1 p.behind p.last))
    where
      go : (anew : Option ℕ) (ms ns : List Noted) → WasToldEra w spot fs (next_cleared es cleared) e → AllNoted (era_scripted (opened_anew gave e.opened (next_opened es opened)) e) ms → PastNoted w.exchange.speech spot fs gave cleared opened es ns →
          PastNoted w.exchange.speech spot fs gave cleared opened (e ∷ es) (ms ++ ns)
      go anew ms ns (WasToldEra.unopened none nothing) h rest =
          let same : ms ≡ [] = none_noted ms (subst (λ ts. AllNoted ts ms) (unopened_none w spot fs (opened_anew gave e.opened (next_opened es opened)) e nothing) h) in
          subst (λ ks. PastNoted w.exchange.speech spot fs gave cleared opened (e ∷ es) (ks ++ ns)) (sym same) (PastNoted.unopened e es ns none nothing rest)
      go anew ms ns (WasToldEra.opened until t late) h rest = PastNoted.over e es until ms ns (era_noted (opened_anew gave e.opened (next_opened es opened)) e until t ms h) late rest

  newest_noted : (e : Era Body Asked Reply) (stand : Stand) → IsToldNewest w spot fs e stand → (ns : List Noted) → AllNoted (era_scripted None e) ns → NewestNoted w.exchange.speech spot fs e stand ns
  newest_noted e _ (IsToldNewest.lives t) ns h = NewestNoted.lives ns (era_noted None e _ t ns h)
  newest_noted e _ (IsToldNewest.unopened stand shut none nothing) ns h =
      subst (λ ms. NewestNoted w.exchange.speech spot fs e stand ms) (sym (none_noted ns (subst (λ ts. AllNoted ts ns) (unopened_none w spot fs None e nothing) h))) (NewestNoted.unopened stand shut none nothing)
  newest_noted e _ (IsToldNewest.over stand shut until t) ns h = NewestNoted.over stand shut until ns (era_noted None e until t ns h)

  life_noted : (l : Life Body Asked Reply) → IsToldLife w spot fs l → (ns : List Noted) → AllNoted (life_scripted l) ns → LifeNoted w.exchange.speech spot fs l ns
  life_noted l told ns h =
      let p = parts (eras_scripted l.gave l.past l.era.opened) (era_scripted None l.era) ns h in
      record {
        front = p.front;
        behind = p.behind;
        whole = p.whole;
        past = past_noted l.gave l.era.cleared l.era.opened l.past told.past p.front p.first;
        newest = newest_noted l.era l.stand told.newest p.behind p.last;
      }

-- ---- ALL SLAVES
all_noted : (plan : Scenario) (fs : List (Frame Body)) (place : ℕ) (ss : List SlaveSpec) (ws : List Serves) (rows : List SlaveBook) → AllToldLives plan fs place ss ws → AllBoth IsBooked (map run_lead ws) rows → AllReportedSo plan fs place ss ws rows
all_noted plan fs place [] [] [] told booked = tt
all_noted plan fs place [] [] (row ∷ rows) told booked = absurd booked
all_noted plan fs place [] (w ∷ ws) rows told booked = absurd told
all_noted plan fs place (s ∷ ss) [] rows told booked = absurd told
all_noted plan fs place (s ∷ ss) (w ∷ ws) [] told booked = absurd booked
all_noted plan fs place (s ∷ ss) (w ∷ ws) (row ∷ rows) told booked =
    (life_noted (services_of plan s) (spot_of place s) fs w.lead.lived.life told.0 (noted_in row.begun row.answers) booked.0, all_noted plan fs (suc place) ss ws rows told.1 booked.1)

-- WHAT THE BOOK REPORTS
pub all_reported_so : (plan : Scenario) (count : ℕ) (book : Book) → IsPlan plan → IsTold plan → ErasLaw → HasSent plan count book → IsServedReported plan count book
all_reported_so plan count book is told law sent = λ ending a.
    let l = a.answers.serving.leading in
    all_noted plan (all_seen (lens_of plan.slaves) (map exchanged book.frames)) 0 plan.slaves l.serves book.slaves
    (law plan is (known plan told) (map exchanged book.frames) l.missed l.serves l.lives (all_round (first_ring plan) book.frames sent.recorded)) a.reported
