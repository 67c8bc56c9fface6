-- WHAT BECOMES OF A DATAGRAM, by the lives of the slaves: it has one place more among those that were heard, and what it got stands there.
use Rattle.std.proofs.Common.{◌≡◌, ◌<◌, ◌≤◌, ℕ, zero, suc, ◌+◌, true, false, Some, None, List, [], ◌∷◌, ◌++◌, length, map, refl, sym, ap, ◌∙◌, subst, append-nil, length-append, arith}
use Rattle.std.specs.Prelude.{◌≢◌, slice_get, All, Ok}
use Rattle.std.proofs.lemmas.List.Elements.{All-nil, All-append, All-cons, All-push, All-weaker}
use Rattle.std.proofs.lemmas.List.Sums.{count_by-le-length, length-filter}
use Rattle.gateway_core.specs.Framing.{request_in}
use Rattle.run_record.specs.of_served_places.Rows.{ToldAll}
use Rattle.run_record.specs.of_life_runs.Served.{Keyed, MayAsk, Serves, asked_at}
use Rattle.gateway_core.specs.of_mailbox_mail.Mail.{error_of}
use Rattle.gateway_core.specs.of_mailbox_mail.declared.mail.Mail.{Mail}
use Rattle.run_record.specs.of_master_node.Wants.{gave_of}
use Rattle.run_record.specs.of_frame_view.View.{Lens}
use Rattle.run_record.specs.of_frame_view.Shares.{AllBoth}
use Rattle.run_record.specs.of_life_runs.First.{lens_of}
use Rattle.run_record.specs.of_life_runs.Led.{Exchanged}
use Rattle.run_record.specs.of_master_tour.Made.{is_in}
use Rattle.run_record.specs.of_run_book.declared.book.GramIn.{GramIn}
use Rattle.run_record.specs.of_master_node.Happened.{events_of as switch_events}
use Rattle.run_record.specs.Served.{AsksOn, Serving}
use Rattle.run_record.specs.Session.{SessionState}
use Rattle.run_record.specs.of_run_notes.Slaves.{home_of}
use Rattle.run_record.specs.of_segment_plan.Sound.{IsPlan}
use Rattle.run_record.specs.of_segment_plan.declared.plan.Scenario.{Scenario}
use Rattle.gateway_run.specs.Account.{IsFree, Judges, Judges.ignored as is_ignored, Judges.refused as is_refused, Judges.too_many, Judges.queues, Owing, waits_at}
use Rattle.gateway_run.specs.Rooms.{begun_of, grams_of, owed_for, waiting_of}
use Rattle.gateway_run.specs.Replies.{AllDesk, AllGot, Answers, Fares, Fares.waits, GivesAll, Got, Got.ignored, Got.queued, Got.refused, IsFor, IsHeard, IsUndone}
use Rattle.gateway_run.specs.Since.{NoneSince}
use Rattle.gateway_run.specs.declared.desk.Request.{Request}
use Rattle.gateway_run.proofs.Accounts.{apart_push, unlike_push}
use Rattle.gateway_run.proofs.Befores.{HasBefore, serve_before}
use Rattle.gateway_run.proofs.Comes.{known_at}
use Rattle.gateway_run.proofs.Gives.{all_give, asked_give}
use Rattle.gateway_run.proofs.Hands.{all_got, among_at, at_last, both_many}
use Rattle.gateway_run.proofs.Hearing.{asked_lookup, asked_told, below_out, desks_asked, desks_more, fares_asked, grams_push, heard_more, longer, none_owed, waits_push}
use Rattle.gateway_run.proofs.Rooms.{owed_append, owed_one, owed_other}
use Rattle.gateway_run.proofs.Rowed.{Rowed}

-- one datagram more that got what it got
got_push : (serves : List Serves) (came : List (List ℕ)) (rs : List Request) (dones : List ℕ) (os : List Owing) (n m : ℕ) (gs : List GramIn) (g : GramIn) → m ≡ n + length gs → AllGot serves came rs dones os n gs → Got serves came rs dones m g (owed_for m os) →
    AllGot serves came rs dones os n (gs ++ g ∷ [])
got_push serves came rs dones os n m [] g e a b = (subst (λ k. Got serves came rs dones k g (owed_for k os)) (let same : m ≡ n = omega (arith, e) in same) b, tt)
got_push serves came rs dones os n m (h ∷ gs) g e a b = (a.0, got_push serves came rs dones os (suc n) m gs g (omega (arith, e)) a.1 b)

-- what one of them got
pub got_at : (serves : List Serves) (came : List (List ℕ)) (rs : List Request) (dones : List ℕ) (os : List Owing) (k : ℕ) (gs : List GramIn) → AllGot serves came rs dones os k gs → (j m : ℕ) (g : GramIn) → m ≡ k + j → slice_get gs j ≡ Some g →
    Got serves came rs dones m g (owed_for m os)
got_at serves came rs dones os k [] a j m g e at = absurd (cc)
got_at serves came rs dones os k (x ∷ gs) a zero m g e at =
    let same : x ≡ g = cc in
    let here : k ≡ m = omega (arith, e) in
    subst (λ i. Got serves came rs dones i g (owed_for i os)) here (subst (λ z. Got serves came rs dones k z (owed_for k os)) same a.0)
got_at serves came rs dones os k (x ∷ gs) a (suc j) m g e at = got_at serves came rs dones os (suc k) gs a.1 j m g (omega (arith, e)) at

-- each of the earlier ones, by what it got
got_each : (serves new : List Serves) (came : List (List ℕ)) (rs rs' : List Request) (dones : List ℕ) (os now : List Owing) (n : ℕ) (gs : List GramIn) →
    ((j m : ℕ) (g : GramIn) → m ≡ n + j → slice_get gs j ≡ Some g → Got serves came rs dones m g (owed_for m os) → Got new came rs' dones m g (owed_for m now)) → AllGot serves came rs dones os n gs → AllGot new came rs' dones now n gs
got_each serves new came rs rs' dones os now n [] h a = tt
got_each serves new came rs rs' dones os now n (g ∷ gs) h a = (h 0 n g (omega arith) refl a.0, got_each serves new came rs rs' dones os now (suc n) gs (λ j m g e at. h (suc j) m g (omega (arith, e)) at) a.1)

-- the slave that is asked is there, and its datagrams
asked_there : (lens : ℕ → Lens) (gs : List GramIn) (rs : List Request) (os : List Owing) (i place : ℕ) (k : Keyed) (ws : List Serves) (nss : List (List ℕ)) → MayAsk lens place k ws → AllDesk gs rs os i ws nss →
    (u : Serves) × (slice_get (asked_at place k ws) place ≡ Some u) × ((ns : List ℕ) × (slice_get nss place ≡ Some ns))
asked_there lens gs rs os i place k [] nss may d = absurd may
asked_there lens gs rs os i place k (w ∷ ws) [] may d = absurd d
asked_there lens gs rs os i zero k (w ∷ ws) (ns ∷ nss) may d = (record w { asked = w.asked ++ k ∷ []; waits = w.waits ++ k ∷ [] }, refl, (ns, refl))
asked_there lens gs rs os i (suc place) k (w ∷ ws) (ns ∷ nss) may d = asked_there lens gs rs os (suc i) place k ws nss may d.1

-- no more mails wait for a slave than there are requests
waits_least : (gs : List GramIn) (rs : List Request) (os : List Owing) (i place many : ℕ) (ws : List Serves) (nss : List (List ℕ)) → slice_get (map (λ (w : Serves). length w.waits) ws) place ≡ Some many → AllDesk gs rs os i ws nss → many ≤ length rs
waits_least gs rs os i place many [] nss at d = absurd (cc)
waits_least gs rs os i place many (w ∷ ws) [] at d = absurd d
waits_least gs rs os i zero many (w ∷ ws) (ns ∷ nss) at d =
    let same : length w.waits ≡ many = cc in
    let n = both_many (IsFor gs) (waiting_of i rs) w.waits d.0.waits in
    let most : length (waiting_of i rs) ≤ length rs = subst (λ (k : ℕ). k ≤ length rs) (sym (length-filter (waits_at i) rs)) (count_by-le-length (waits_at i) rs) in
    omega (arith, same, n, most)
waits_least gs rs os i (suc place) many (w ∷ ws) (ns ∷ nss) at d = waits_least gs rs os (suc i) place many ws nss at d.1

-- what is owed at once by a new datagram is owed by that alone
pub error_alone : (n detail : ℕ) (os : List Owing) → All (λ (o : Owing). o.gram < n) os → owed_for n (os ++ record { gram = n; mail = error_of detail } ∷ []) ≡ error_of detail ∷ []
error_alone n detail os a =
    owed_append n os (record { gram = n; mail = error_of detail } ∷ [])
    ∙ (λ i. none_owed n os a i ++ owed_one (error_of detail) (record { key = 0; slave = 0; gram = n; begun = false }) i)

pub error_quiet : (n m detail : ℕ) (os : List Owing) → m < n → owed_for m (os ++ record { gram = n; mail = error_of detail } ∷ []) ≡ owed_for m os
error_quiet n m detail os less =
    owed_append m os (record { gram = n; mail = error_of detail } ∷ [])
    ∙ ap (λ l. owed_for m os ++ l) (owed_other m (error_of detail) (record { key = 0; slave = 0; gram = n; begun = false }) (λ s. omega (arith, s, less)))
    ∙ append-nil (owed_for m os)

pub nothing_quiet : (m : ℕ) (os : List Owing) → owed_for m (os ++ []) ≡ owed_for m os
nothing_quiet m os = ap (owed_for m) (append-nil os)

module _ (plan : Scenario) (s s' : SessionState) (fs : List Exchanged) (gs : List GramIn) (g : GramIn) (rs : List Request) (os : List Owing) (dones : List ℕ) (old : Answers plan s fs gs rs os dones) (due : g.frame ≡ length fs) where
  abbrev n : ℕ
  n = length gs

  abbrev ws : List Serves
  ws = old.serving.leading.serves

  -- with the same events at the switch
  abbrev Same : SessionState → List GramIn → List Request → List Owing → Type 0
  Same t hs qs ps = Rowed plan t fs hs qs ps dones (switch_events old.serving.rows) old.serving.numbers

  known : All (λ (r : Request). r.gram < length gs) rs
  known = All-weaker (IsHeard gs) (λ (r : Request). r.gram < length gs) (λ r h. known_at gs r.gram h.gram h.there) rs old.heard

  all_early : All (λ (h : GramIn). h.frame ≤ length fs) (gs ++ g ∷ [])
  all_early = All-push (λ (h : GramIn). h.frame ≤ length fs) gs g old.early (let now = due in omega (arith, now))

  -- IT ISN'T PASSED ON: the lives stay, and this is owed at once
  module _ (more : List Owing) (quiet : (m : ℕ) → m < length gs → owed_for m (os ++ more) ≡ owed_for m os) (few : All (λ (o : Owing). o.gram < length (gs ++ g ∷ [])) more) where
    stays : (t : SessionState) (serving : Serving plan t fs) → serving.leading.serves ≡ ws → serving.rows ≡ old.serving.rows → serving.numbers ≡ old.serving.numbers → Got ws old.came rs dones n g (owed_for n (os ++ more)) → Same t (gs ++ g ∷ []) rs (os ++ more)
    stays t serving same rows numbers got = (
      record {
        serving = serving;
        came = old.came;
        desk = subst (λ z. AllDesk (gs ++ g ∷ []) rs (os ++ more) 0 z old.came) (sym same) (desks_more gs g os more quiet rs rs 0 ws old.came (λ j less. (refl, refl)) old.desk);
        told = subst (All ToldAll) (sym same) old.told;
        apart = old.apart;
        filed = old.filed;
        heard = All-weaker (IsHeard gs) (IsHeard (gs ++ g ∷ [])) (heard_more gs g os more quiet) rs old.heard;
        undone = old.undone;
        early = all_early;
        ended = All-weaker (λ (m : ℕ). m < length gs) (λ (m : ℕ). m < length (gs ++ g ∷ [])) (longer gs g os more quiet) dones old.ended;
        owed = All-append (λ (o : Owing). o.gram < length (gs ++ g ∷ [])) os more (All-weaker (λ (o : Owing). o.gram < length gs) (λ (o : Owing). o.gram < length (gs ++ g ∷ [])) (λ o less. longer gs g os more quiet o.gram less) os old.owed) few;
        got = subst (λ z. AllGot z old.came rs dones (os ++ more) 0 (gs ++ g ∷ [])) (sym same)
            (got_push ws old.came rs dones (os ++ more) 0 n gs g (omega arith)
            (got_each ws ws old.came rs rs dones os (os ++ more) 0 gs (λ j m h e at b. subst (Got ws old.came rs dones m h) (sym (quiet m (let less = known_at gs j h at in omega (arith, less, e)))) b) old.got) got);
        whole = λ none. subst (λ z. AllBoth (GivesAll (os ++ more) (λ m. is_in m dones)) z old.came) (sym same) (all_give gs rs os (os ++ more) (λ m. is_in m dones) quiet 0 ws old.came old.desk (old.whole none));
      },
      ap switch_events rows,
      numbers,
    )

  -- one error is owed by it at once
  error_stays : (detail : ℕ) (asked : Mail) → request_in g.bytes ≡ Ok asked → g.queued ≡ None → detail ≢ 7 → (t : SessionState) (serving : Serving plan t fs) → serving.leading.serves ≡ ws → serving.rows ≡ old.serving.rows → serving.numbers ≡ old.serving.numbers →
      Same t (gs ++ g ∷ []) rs (os ++ record { gram = n; mail = error_of detail } ∷ [])
  error_stays detail asked request nowhere seldom t serving same rows numbers =
      stays (record { gram = n; mail = error_of detail } ∷ []) (λ m less. error_quiet n m detail os less)
      (All-cons (λ (o : Owing). o.gram < length (gs ++ g ∷ [])) (record { gram = n; mail = error_of detail }) [] (let long = length-append gs (g ∷ []) in omega (arith, long)) (All-nil (λ (o : Owing). o.gram < length (gs ++ g ∷ []))))
      t serving same rows numbers (refused asked detail request nowhere seldom (error_alone n detail os old.owed))

  -- IT IS PASSED ON: its mail waits at its slave
  module _ (slave key : ℕ) (mail : Mail) (on : AsksOn plan slave key mail s s' fs old.serving) (request : request_in g.bytes ≡ Ok mail) (there : g.queued ≡ Some slave) (free : IsFree key rs) where
    abbrev r : Request
    r = record { key = key; slave = slave; gram = n; begun = false }

    abbrev k : Keyed
    k = on.mail_asked

    quiet : (m : ℕ) → m < length gs → owed_for m (os ++ []) ≡ owed_for m os
    quiet m less = nothing_quiet m os

    abbrev is_heard : IsHeard (gs ++ g ∷ []) r
    is_heard = record { gram = g; there = at_last gs g; queued = there }

    is_for : IsFor (gs ++ g ∷ []) r k
    is_for = record { key = on.is.key_is; of_gram = is_heard; asked = mail; request = request; same = record { kind = on.is.kind; body = on.is.body } }

    none : owed_for n (os ++ []) ≡ []
    none = nothing_quiet n os ∙ none_owed n os old.owed

    undone_new : is_in n dones ≡ false
    undone_new = below_out n dones old.ended

    waits_new : is_in n (grams_of (waiting_of slave (rs ++ r ∷ []))) ≡ true
    waits_new =
        ap (λ l. is_in n (grams_of l)) (waits_push slave rs r refl refl) ∙ ap (is_in n) (grams_push (waiting_of slave rs) r)
        ∙ among_at n (grams_of (waiting_of slave rs) ++ n ∷ []) (length (grams_of (waiting_of slave rs))) (at_last (grams_of (waiting_of slave rs)) n)

    all_before : All (HasBefore (length fs)) (asked_at slave k ws)
    all_before = subst (All (HasBefore (length fs))) on.serves (serve_before plan fs on.new.leading.missed on.new.leading.serves on.new.leading.lives)

    got_new : Got (asked_at slave k ws) old.came (rs ++ r ∷ []) dones n g (owed_for n (os ++ []))
    got_new = (let a = asked_there (lens_of plan.slaves) gs rs os 0 slave k ws old.came on.may old.desk in
        let before = all_got (HasBefore (length fs)) (asked_at slave k ws) slave a.0 all_before a.1 in
        queued mail slave a.0 a.2.0 request there a.1 a.2.1 (waits waits_new undone_new (subst (λ (n : ℕ). NoneSince n (gave_of a.0.lead)) (sym due) before.gave) none))

    got_old : (j m : ℕ) (h : GramIn) → m ≡ 0 + j → slice_get gs j ≡ Some h → Got ws old.came rs dones m h (owed_for m os) → Got (asked_at slave k ws) old.came (rs ++ r ∷ []) dones m h (owed_for m (os ++ []))
    got_old j m h e at (ignored fault f q ms) = ignored fault f q (nothing_quiet m os ∙ ms)
    got_old j m h e at (refused asked detail f q seldom ms) = refused asked detail f q seldom (nothing_quiet m os ∙ ms)
    got_old j m h e at (queued asked place w numbers f q at_w at_came fares) =
        let a = asked_lookup slave k ws place w at_w in
        let less : m < length gs = (let known = known_at gs j h at in omega (arith, known, e)) in
        queued asked place a.0 numbers f q a.1 at_came
        (subst (Fares a.0 numbers (waiting_of place (rs ++ r ∷ [])) (begun_of place (rs ++ r ∷ [])) (is_in m dones) m h.frame asked) (sym (nothing_quiet m os))
        (fares_asked gs g os [] quiet rs r k refl is_for refl none place m h.frame w a.0 numbers (is_in m dones) asked (owed_for m os) a.2 less fares))

    passed : Same s' (gs ++ g ∷ []) (rs ++ r ∷ []) (os ++ [])
    passed = (
      record {
        serving = on.new;
        came = old.came;
        desk = subst (λ z. AllDesk (gs ++ g ∷ []) (rs ++ r ∷ []) (os ++ []) 0 z old.came) (sym on.serves) (desks_asked gs g os [] quiet rs r k refl is_for refl none 0 slave ws old.came (omega arith) old.desk);
        told = subst (All ToldAll) (sym on.serves) (asked_told slave k ws old.told);
        apart = apart_push rs r old.apart free;
        filed = unlike_push (λ (q : Request). q.gram) (λ q. refl) rs r old.filed (All-weaker (λ (q : Request). q.gram < length gs) (λ (q : Request). q.gram ≢ n) (λ q less e. omega (arith, less, e)) rs known);
        heard = All-push (IsHeard (gs ++ g ∷ [])) rs r (All-weaker (IsHeard gs) (IsHeard (gs ++ g ∷ [])) (heard_more gs g os [] quiet) rs old.heard) is_heard;
        undone = All-push (IsUndone dones) rs r old.undone undone_new;
        early = all_early;
        ended = All-weaker (λ (m : ℕ). m < length gs) (λ (m : ℕ). m < length (gs ++ g ∷ [])) (longer gs g os [] quiet) dones old.ended;
        owed = All-append (λ (o : Owing). o.gram < length (gs ++ g ∷ [])) os [] (All-weaker (λ (o : Owing). o.gram < length gs) (λ (o : Owing). o.gram < length (gs ++ g ∷ [])) (λ o less. longer gs g os [] quiet o.gram less) os old.owed) (All-nil (λ (o : Owing). o.gram < length (gs ++ g ∷ [])));
        got = subst (λ z. AllGot z old.came (rs ++ r ∷ []) dones (os ++ []) 0 (gs ++ g ∷ [])) (sym on.serves)
            (got_push (asked_at slave k ws) old.came (rs ++ r ∷ []) dones (os ++ []) 0 n gs g (omega arith) (got_each ws (asked_at slave k ws) old.came rs (rs ++ r ∷ []) dones os (os ++ []) 0 gs got_old old.got) got_new);
        whole = λ none.
            subst (λ z. AllBoth (GivesAll (os ++ []) (λ m. is_in m dones)) z old.came) (sym on.serves)
            (asked_give (os ++ []) (λ m. is_in m dones) slave k ws old.came (all_give gs rs os (os ++ []) (λ m. is_in m dones) quiet 0 ws old.came old.desk (old.whole none)));
      },
      ap switch_events on.rows,
      on.numbers,
    )

  -- WHATEVER BECOMES OF IT
  pub answers_heard : IsPlan plan → s.homes ≡ map home_of plan.slaves → length rs < 64 → (rs' : List Request) (more : List Owing) → Judges s s' rs rs' (length gs) g.bytes g.queued more → Same s' (gs ++ g ∷ []) rs' (os ++ more)
  answers_heard is homes few rs' more (is_ignored i) =
      subst (λ z. Same z (gs ++ g ∷ []) rs' (os ++ more)) (sym i.session)
      (subst (λ z. Same s (gs ++ g ∷ []) z (os ++ more)) (sym i.requests) (subst (λ z. Same s (gs ++ g ∷ []) rs (os ++ z)) (sym i.nothing)
      (stays [] (λ m less. nothing_quiet m os) (All-nil (λ (o : Owing). o.gram < length (gs ++ g ∷ []))) s old.serving refl refl refl (ignored i.fault i.request i.nowhere (nothing_quiet n os ∙ none_owed n os old.owed)))))
  answers_heard is homes few rs' more (is_refused f) =
      subst (λ z. Same z (gs ++ g ∷ []) rs' (os ++ more)) (sym f.session)
      (subst (λ z. Same s (gs ++ g ∷ []) z (os ++ more)) (sym f.requests) (subst (λ z. Same s (gs ++ g ∷ []) rs (os ++ z)) (sym f.error)
      (error_stays f.detail f.mail f.request f.nowhere (f.seldom few) s old.serving refl refl refl)))
  answers_heard is homes few rs' more (too_many t) =
      absurd (let most = waits_least gs rs os 0 t.slave 64 ws old.came (ap (λ (l : List ℕ). slice_get l t.slave) old.serving.waiting ∙ t.full) old.desk in omega (arith, few, most))
  answers_heard is homes few rs' more (queues q) =
      let on = q.led plan fs q.home is (subst (λ (hs : List (ℕ × ℕ)). slice_get hs q.slave ≡ Some q.home) homes q.at_home) q.fits old.serving in
      subst (λ z. Same s' (gs ++ g ∷ []) z (os ++ more)) (sym q.requests) (subst (λ z. Same s' (gs ++ g ∷ []) (rs ++ record { key = q.key; slave = q.slave; gram = length gs; begun = false } ∷ []) (os ++ z)) (sym q.nothing)
      (passed q.slave q.key q.mail on q.request q.there q.free))
