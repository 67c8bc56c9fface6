-- ONE FRAME MORE OF A SERVING: its desks and its datagrams behind that.
use Rattle.std.proofs.Common.{◌≡◌, ◌<◌, ◌≤◌, ℕ, suc, ◌+◌, Bool, true, false, Option, Some, None, List, [], ◌∷◌, ◌++◌, length, map, refl, sym, ap, ◌∙◌, subst, append-nil, append_assoc, length-append, eqb-true, arith}
use Rattle.std.specs.Prelude.{◌≢◌, ◌==◌, cond, filter, find, if◌then◌else◌, is_some, nat_le, not, slice_get, slice_index_or, All}
use Rattle.std.proofs.lemmas.Bool.{leb-true}
use Rattle.std.proofs.lemmas.List.Elements.{All-nil, All-append, All-cons, All-filter, All-head, All-map, All-tail, All-weaker}
use Rattle.run_record.proofs.of_served_places.Held.{all_has}
use Rattle.run_record.proofs.of_life_runs.Tells.{HasPassed}
use Rattle.run_record.proofs.of_life_runs.Telling.{serves_tell}
use Rattle.run_record.specs.of_served_places.Rows.{ToldAll}
use Rattle.run_record.specs.of_life_runs.Served.{Serves, ServedTurn, TellsSo}
use Rattle.run_record.specs.of_life_runs.Told.{Passed}
use Rattle.gateway_core.specs.of_mailbox_mail.Mail.{error_of}
use Rattle.gateway_core.specs.of_mailbox_mail.declared.mail.Mail.{Mail}
use Rattle.run_record.specs.of_master_node.Begins.{begun_of as began_of}
use Rattle.run_record.specs.of_master_node.Events.{oldest_in}
use Rattle.run_record.specs.of_master_node.Gateways.{is_gateway}
use Rattle.run_record.specs.of_master_node.Listing.{number_at, told_in}
use Rattle.run_record.specs.of_master_node.Named.{IsHanded, is_left}
use Rattle.run_record.specs.of_master_node.Origins.{forwards_at}
use Rattle.run_record.specs.of_master_node.Serving.{IsServed, run_lead, run_turn}
use Rattle.run_record.specs.of_master_node.declared.event.Event.{Event}
use Rattle.run_record.specs.of_master_node.declared.event.Event.TheVariants as events
use Rattle.run_record.specs.of_master_node.declared.post.Post.{Post}
use Rattle.run_record.specs.of_master_node.declared.post.Work.{Work}
use Rattle.run_record.specs.of_frame_view.View.{Lens}
use Rattle.run_record.specs.of_frame_view.Shares.{AllBoth, AllThree}
use Rattle.run_record.specs.of_life_model.Lives.{Stand}
use Rattle.run_record.specs.of_life_runs.First.{first_leads, lens_of}
use Rattle.run_record.specs.of_life_runs.Led.{Exchanged, gives_up_at}
use Rattle.run_record.specs.of_master_hand.declared.hand.InHand.{InHand}
use Rattle.run_record.specs.of_master_side.declared.hand.Hand.{Ghosts}
use Rattle.run_record.specs.of_master_tour.Made.{is_in}
use Rattle.run_record.specs.of_master_tour.declared.stop.Stop.{Stop}
use Rattle.run_record.specs.of_segment_model.Ends.{Passing}
use Rattle.run_record.specs.of_run_book.declared.book.GramIn.{GramIn}
use Rattle.run_record.specs.of_master_node.Happened.{events_of as switch_events}
use Rattle.run_record.specs.Served.{ServesOn, told_behind}
use Rattle.run_record.specs.Session.{FrameEvents, SessionState, numbers_over}
use Rattle.run_record.specs.of_segment_plan.declared.plan.Scenario.{Scenario}
use Rattle.gateway_run.specs.Account.{Owing, has_key, is_other, left_by, left_by_all, owed_by, owed_by_all, owed_to, owing, replied, waits_at}
use Rattle.gateway_run.specs.Events.{events_of}
use Rattle.gateway_run.specs.Rooms.{AreFiled, done_by, done_by_all, grams_of, owed_for}
use Rattle.gateway_run.specs.Replies.{AllDesk, AllGot, Answers, GivesAll, Got, Got.ignored, Got.queued, Got.refused, HearNoMore, IsHeard, IsUndone}
use Rattle.gateway_run.specs.declared.desk.Request.{Request}
use Rattle.gateway_run.proofs.Befores.{HasBefore, serve_before}
use Rattle.gateway_run.proofs.Comes.{known_at}
use Rattle.gateway_run.proofs.Rooms.{owed_append}
use Rattle.gateway_run.proofs.Rowed.{Rowed}
use Rattle.gateway_run.proofs.Rounds.{in_both}
use Rattle.gateway_run.proofs.Tolds.{began_ends, began_owes, begins_give, known_done, known_left, known_owed}
use Rattle.gateway_run.proofs.Turnings as Turnings
use Rattle.gateway_run.proofs.Turnings.{IsLively}
use Rattle.gateway_run.proofs.Views.{event_keeps, event_unlike, events_keep, events_unlike, given_both, given_none, left_append, owed_both, owed_is, owed_none}

-- WHAT IS KNOWN OF EACH SLAVE between frames, by what the master has of it
-- while no mail is in hand that was passed on, none is under way of an open slave
none_handed : (work : Work) (w : Serves) → IsHanded work w.hand w.lead.lived.life → w.hand ≡ None → w.lead.lived.life.stand ≡ Stand.Open → w.lead.lived.life.era.passing ≡ None
none_handed work w h none opened = go w.lead.lived.life.era.passing refl
  where
    go : (p : Option Passing) → w.lead.lived.life.era.passing ≡ p → p ≡ None
    go None e = refl
    go (Some p) e = absurd (
        let key = h.only (ap is_left opened) (ap (λ (o : Option Passing). is_some o) e) in
        let named = h.named key.0 key.1 in
        let bad : None ≡ Some named.passed = sym none ∙ named.is in
        cc)

abbrev Had : Serves → Type 0
Had w = (p : Passed) → w.hand ≡ Some p → HasPassed p w.lead.lived.life

pub lively : {G : Ghosts InHand} (lens : ℕ → Lens) (recover made : ℕ) (ws : List Serves) (ps : List Post) (ss : List (Stop InHand G)) → AllThree (λ w p s. IsServed lens recover made w p s) ws ps ss → All Had ws → All ToldAll ws → All (HasBefore made) ws → All (IsLively made) ws
lively lens recover made [] [] [] h a b before = All-nil (IsLively made)
lively lens recover made [] [] (s ∷ ss) h a b before = absurd h
lively lens recover made [] (p ∷ ps) [] h a b before = absurd h
lively lens recover made [] (p ∷ ps) (s ∷ ss) h a b before = absurd h
lively lens recover made (w ∷ ws) [] [] h a b before = absurd h
lively lens recover made (w ∷ ws) [] (s ∷ ss) h a b before = absurd h
lively lens recover made (w ∷ ws) (p ∷ ps) [] h a b before = absurd h
lively lens recover made (w ∷ ws) (p ∷ ps) (s ∷ ss) h a b before =
    All-cons (IsLively made) w ws
    (record {
      before = All-head (HasBefore made) w ws before;
      held = λ p e. (All-head Had w ws a p e).opened;
      had = All-head Had w ws a;
      free = none_handed p.work w h.0.handed;
      told = All-head ToldAll w ws b;
      named = leb-true 1 w.lead.lived.spot.station (subst (λ z. nat_le 1 z ≡ true) h.0.lives.planned.stands.station_is s.named);
      kept = h.0.kept;
    })
    (lively lens recover made ws ps ss h.1 (All-tail Had w ws a) (All-tail ToldAll w ws b) (All-tail (HasBefore made) w ws before))

-- A ROW THAT AN EVENT ENDS has no request behind it
module _ (key : ℕ) where
  off_first : (q : Request) (rs : List Request) → All (λ (r : Request). r.gram ≢ q.gram) rs → All (λ (r : Request). is_in r.gram (grams_of (filter (has_key key) rs)) ≡ false) (filter (is_other key) rs) →
      All (λ (r : Request). is_in r.gram (q.gram ∷ grams_of (filter (has_key key) rs)) ≡ false) (filter (is_other key) rs)
  off_first q rs off later = λ k r less. go (grams_of (filter (has_key key) rs)) (slice_index_or (filter (is_other key) rs) k r) (All-filter (is_other key) (λ (r : Request). r.gram ≢ q.gram) rs off k r less) (later k r less)
    where
      go : (ns : List ℕ) (r : Request) → r.gram ≢ q.gram → is_in r.gram ns ≡ false → is_in r.gram (q.gram ∷ ns) ≡ false
      go ns r apart e = by (r.gram == q.gram) refl
        where
          by : (b : Bool) → (r.gram == q.gram) ≡ b → (if b then true else is_in r.gram ns) ≡ false
          by true f = absurd (apart (eqb-true r.gram q.gram f))
          by false f = e

  done_off : (rs : List Request) → AreFiled rs → All (λ (r : Request). is_in r.gram (grams_of (filter (has_key key) rs)) ≡ false) (filter (is_other key) rs)
  done_off [] u = All-nil (λ (r : Request). is_in r.gram [] ≡ false)
  done_off (q ∷ rs) u = go (has_key key q) (done_off rs u.1)
    where
      go : (b : Bool) → All (λ (r : Request). is_in r.gram (grams_of (filter (has_key key) rs)) ≡ false) (filter (is_other key) rs) →
          All (λ (r : Request). is_in r.gram (grams_of (cond b (q ∷ filter (has_key key) rs) (filter (has_key key) rs))) ≡ false) (cond (not b) (q ∷ filter (is_other key) rs) (filter (is_other key) rs))
      go true later = off_first q rs u.0 later
      go false later = All-cons (λ (r : Request). is_in r.gram (grams_of (filter (has_key key) rs)) ≡ false) q (filter (is_other key) rs) (itself rs u.0) later
        where
          itself : (qs : List Request) → All (λ (r : Request). r.gram ≢ q.gram) qs → is_in q.gram (grams_of (filter (has_key key) qs)) ≡ false
          itself [] off = refl
          itself (p ∷ qs) off = by (has_key key p) (q.gram == p.gram) refl (itself qs (All-tail (λ (r : Request). r.gram ≢ q.gram) p qs off))
            where
              by : (b c : Bool) → (q.gram == p.gram) ≡ c → is_in q.gram (grams_of (filter (has_key key) qs)) ≡ false → is_in q.gram (grams_of (cond b (p ∷ filter (has_key key) qs) (filter (has_key key) qs))) ≡ false
              by true true f later = absurd (All-head (λ (r : Request). r.gram ≢ q.gram) p qs off (sym (eqb-true q.gram p.gram f)))
              by true false f later = ap (λ (z : Bool). if z then true else is_in q.gram (grams_of (filter (has_key key) qs))) f ∙ later
              by false c f later = later

none_off : (rs : List Request) → All (λ (r : Request). is_in r.gram [] ≡ false) rs
none_off [] = All-nil (λ (r : Request). is_in r.gram [] ≡ false)
none_off (r ∷ rs) = All-cons (λ (r : Request). is_in r.gram [] ≡ false) r rs refl (none_off rs)

event_off : (e : Event) (rs : List Request) → AreFiled rs → All (λ (r : Request). is_in r.gram (done_by e rs) ≡ false) (left_by e rs)
event_off (events.Began slave origin) rs u = none_off (left_by (events.Began slave origin) rs)
event_off (events.GivenUp slave) rs u = none_off (left_by (events.GivenUp slave) rs)
event_off (events.GatewayReply key mail) rs u = none_off rs
event_off (events.GatewayDone key) rs u = done_off key rs u
event_off (events.Answered slave kind) rs u = none_off rs
event_off (events.Emergency slave octets) rs u = none_off rs
event_off (events.Cleared slave own) rs u = none_off rs
event_off (events.Opened slave) rs u = none_off rs

neither : (n : ℕ) (ns ms : List ℕ) → is_in n ns ≡ false → is_in n ms ≡ false → is_in n (ns ++ ms) ≡ false
neither n ns ms a b = in_both n ns ms ∙ (λ i. if b i then true else a i)

both_off : (ns ms : List ℕ) (rs : List Request) → All (λ (r : Request). is_in r.gram ns ≡ false) rs → All (λ (r : Request). is_in r.gram ms ≡ false) rs → All (λ (r : Request). is_in r.gram (ns ++ ms) ≡ false) rs
both_off ns ms rs a b = λ k r less. neither (slice_index_or rs k r).gram ns ms (a k r less) (b k r less)

pub events_off : (es : List Event) (rs : List Request) → AreFiled rs → All (λ (r : Request). is_in r.gram (done_by_all es rs) ≡ false) (left_by_all es rs)
events_off [] rs u = none_off rs
events_off (e ∷ es) rs u =
    both_off (done_by e rs) (done_by_all es (left_by e rs)) (left_by_all es (left_by e rs))
    (events_keep (λ (r : Request). is_in r.gram (done_by e rs) ≡ false) (λ r p. p) es (left_by e rs) (event_off e rs u))
    (events_off es (left_by e rs) (event_unlike (λ (r : Request). r.gram) (λ r. refl) e rs u))

-- WHAT IS OWED is owed by datagrams of requests
module _ (P : ℕ → Type 0) where
  owing_of : (mail : Mail) (rs : List Request) → All (λ (r : Request). P r.gram) rs → All (λ (o : Owing). P o.gram) (map (owing mail) rs)
  owing_of mail rs a = All-map (λ (o : Owing). P o.gram) (owing mail) rs a

  found_of : (mail : Mail) (key : ℕ) (rs : List Request) → All (λ (r : Request). P r.gram) rs → All (λ (o : Owing). P o.gram) (replied mail key rs)
  found_of mail key [] a = All-nil (λ (o : Owing). P o.gram)
  found_of mail key (r ∷ rs) a = go (has_key key r) (found_of mail key rs (All-tail (λ (r : Request). P r.gram) r rs a))
    where
      go : (b : Bool) → All (λ (o : Owing). P o.gram) (replied mail key rs) → All (λ (o : Owing). P o.gram) (owed_to mail (cond b (Some r) (find (has_key key) rs)))
      go true later = All-cons (λ (o : Owing). P o.gram) (owing mail r) [] (All-head (λ (r : Request). P r.gram) r rs a) (All-nil (λ (o : Owing). P o.gram))
      go false later = later

  event_owes : (e : Event) (rs : List Request) → All (λ (r : Request). P r.gram) rs → All (λ (o : Owing). P o.gram) (owed_by e rs)
  event_owes (events.Began slave origin) rs a = All-nil (λ (o : Owing). P o.gram)
  event_owes (events.GivenUp slave) rs a = owing_of (error_of 5) (filter (waits_at slave) rs) (All-filter (waits_at slave) (λ (r : Request). P r.gram) rs a)
  event_owes (events.GatewayReply key mail) rs a = found_of mail key rs a
  event_owes (events.GatewayDone key) rs a = All-nil (λ (o : Owing). P o.gram)
  event_owes (events.Answered slave kind) rs a = All-nil (λ (o : Owing). P o.gram)
  event_owes (events.Emergency slave octets) rs a = All-nil (λ (o : Owing). P o.gram)
  event_owes (events.Cleared slave own) rs a = All-nil (λ (o : Owing). P o.gram)
  event_owes (events.Opened slave) rs a = All-nil (λ (o : Owing). P o.gram)

  pub events_owe : (es : List Event) (rs : List Request) → All (λ (r : Request). P r.gram) rs → All (λ (o : Owing). P o.gram) (owed_by_all es rs)
  events_owe [] rs a = All-nil (λ (o : Owing). P o.gram)
  events_owe (e ∷ es) rs a = All-append (λ (o : Owing). P o.gram) (owed_by e rs) (owed_by_all es (left_by e rs)) (event_owes e rs a) (events_owe es (left_by e rs) (event_keeps (λ (r : Request). P r.gram) (λ r p. p) e rs a))

  -- and so with the rows that are done
  event_ends : (e : Event) (rs : List Request) → All (λ (r : Request). P r.gram) rs → All P (done_by e rs)
  event_ends (events.Began slave origin) rs a = All-nil P
  event_ends (events.GivenUp slave) rs a = All-nil P
  event_ends (events.GatewayReply key mail) rs a = All-nil P
  event_ends (events.GatewayDone key) rs a = All-map P (λ (r : Request). r.gram) (filter (has_key key) rs) (All-filter (has_key key) (λ (r : Request). P r.gram) rs a)
  event_ends (events.Answered slave kind) rs a = All-nil P
  event_ends (events.Emergency slave octets) rs a = All-nil P
  event_ends (events.Cleared slave own) rs a = All-nil P
  event_ends (events.Opened slave) rs a = All-nil P

  pub events_end : (es : List Event) (rs : List Request) → All (λ (r : Request). P r.gram) rs → All P (done_by_all es rs)
  events_end [] rs a = All-nil P
  events_end (e ∷ es) rs a = All-append P (done_by e rs) (done_by_all es (left_by e rs)) (event_ends e rs a) (events_end es (left_by e rs) (event_keeps (λ (r : Request). P r.gram) (λ r p. p) e rs a))

-- A DATAGRAM THAT WAS NOT PASSED ON has no request
pub no_request : (gs : List GramIn) (n : ℕ) (g : GramIn) (rs : List Request) → slice_get gs n ≡ Some g → g.queued ≡ None → All (IsHeard gs) rs → All (λ (r : Request). r.gram ≢ n) rs
no_request gs n g rs there nowhere heard = All-weaker (IsHeard gs) (λ (r : Request). r.gram ≢ n) (λ r h s. (
    let all : Some h.gram ≡ Some g = sym h.there ∙ ap (slice_get gs) s ∙ there in
    let same : h.gram ≡ g = cc in
    let bad : Some r.slave ≡ None = sym h.queued ∙ ap (λ (z : GramIn). z.queued) same ∙ nowhere in
    cc)) rs heard

-- so nothing more is owed by it
pub no_more : (n : ℕ) (os : List Owing) (es : List Event) (rs : List Request) → All (λ (r : Request). r.gram ≢ n) rs → owed_for n (os ++ owed_by_all es rs) ≡ owed_for n os
no_more n os es rs off =
    owed_append n os (owed_by_all es rs)
    ∙ ap (λ ms. owed_for n os ++ ms) (ap (owed_for n) (owed_is es rs) ∙ given_none n owed_by (owed_for n) (owed_append n) refl (owed_none n) es rs off)
    ∙ append-nil (owed_for n os)

-- EACH DATAGRAM behind the frame
module _ (plan : Scenario) (s s' : SessionState) (fs : List Exchanged) (f : Exchanged) (gs : List GramIn) (rs : List Request) (os : List Owing) (dones : List ℕ) (old : Answers plan s fs gs rs os dones) (happened : FrameEvents)
    (on : ServesOn plan s s' happened fs f old.serving) where
  abbrev lens : ℕ → Lens
  lens = lens_of plan.slaves

  abbrev ws : List Serves
  ws = old.serving.leading.serves

  abbrev gives : Bool
  gives = gives_up_at lens plan.recover plan.retry old.serving.leading.missed

  abbrev forwards : ℕ → ℕ
  forwards k = forwards_at s.master.posts.items k

  abbrev first : List ℕ
  first = on.tells.began

  abbrev second : List ℕ
  second = on.tells.visited

  abbrev begins : ℕ → List Event
  begins k = Turnings.begins lens plan.recover plan.retry gives (length fs) f.sent f.back f.fate gs rs os dones ws on.turns forwards first second k

  abbrev shows : ℕ → List Event
  shows k = Turnings.turned_shows lens plan.recover plan.retry gives (length fs) f.sent f.back f.fate gs rs os dones ws on.turns forwards first second k

  abbrev goes : ServedTurn → Serves
  goes v = Turnings.goes lens plan.recover plan.retry gives (length fs) f.sent f.back f.fate gs rs os dones ws on.turns forwards first second v

  abbrev rs1 : List Request
  rs1 = left_by_all (told_in begins first) rs

  abbrev rs2 : List Request
  rs2 = left_by_all (told_in shows second) rs1

  abbrev more : List Owing
  more = owed_by_all (told_in shows second) rs1

  abbrev ended : List ℕ
  ended = done_by_all (told_in shows second) rs1

  abbrev known : Turnings.IsKnown lens plan.recover plan.retry gives (length fs) f.sent f.back f.fate gs rs os dones ws on.turns forwards first second
  known = record {
    datagrams = on.frame.datagrams;
    is = on.frame.frame;
    returns = on.returns;
    orderly = record { once1 = on.tells.began_once; once2 = on.tells.once; apart = old.apart; filed = old.filed; heard = old.heard; undone = old.undone; early = old.early };
    others = on.tells.others;
    carried = on.tells.carried;
  }

  all_lively : All (IsLively (length fs)) ws
  all_lively =
      lively lens plan.recover (length fs) ws s.master.posts.items s.master.tour.stops.items old.serving.leading.shows.each
      (all_has lens plan.recover plan.retry plan.paces (first_leads plan) fs old.serving.leading.missed ws old.serving.leading.lives) old.told
      (serve_before plan fs old.serving.leading.missed ws old.serving.leading.lives)

  own : All TellsSo (map goes on.turns)
  own = subst (All TellsSo) on.serves (serves_tell lens plan.recover plan.retry plan.paces (first_leads plan) (fs ++ f ∷ []) on.new.leading.missed on.new.leading.serves on.new.leading.lives)

  turned : Turnings.AllStepped lens plan.recover plan.retry gives (length fs) f.sent f.back f.fate gs rs os dones ws on.turns forwards first second known on.frame.each all_lively old.came old.desk 0 ws on.turns old.came
  turned = Turnings.all_turned lens plan.recover plan.retry gives (length fs) f.sent f.back f.fate gs rs os dones ws on.turns forwards first second known on.frame.each all_lively old.came old.desk own

  heard1 : All (IsHeard gs) rs1
  heard1 = events_keep (IsHeard gs) (λ r h. record { gram = h.gram; there = h.there; queued = h.queued }) (told_in begins first) rs old.heard

  filed1 : AreFiled rs1
  filed1 = events_unlike (λ (r : Request). r.gram) (λ r. refl) (told_in begins first) rs old.filed

  known1 : All (λ (r : Request). r.gram < length gs) rs1
  known1 = All-weaker (IsHeard gs) (λ (r : Request). r.gram < length gs) (λ r h. known_at gs r.gram h.gram h.there) rs1 heard1

  got_on : (n : ℕ) (g : GramIn) → slice_get gs n ≡ Some g → Got ws old.came rs dones n g (owed_for n os) → Got (map goes on.turns) turned.comes rs2 (dones ++ ended) n g (owed_for n (os ++ more))
  got_on n g there (ignored fault e q none) = ignored fault e q (no_more n os (told_in shows second) rs1 (no_request gs n g rs1 there q heard1) ∙ none)
  got_on n g there (refused asked detail e q seldom one) = refused asked detail e q seldom (no_more n os (told_in shows second) rs1 (no_request gs n g rs1 there q heard1) ∙ one)
  got_on n g there (queued asked slave w numbers e q at_w at_came fares) =
      let a = turned.at slave slave w numbers (omega arith) at_w at_came in
      queued asked slave a.after a.comes e q a.is a.there (a.fares n asked (record { gram = g; there = there; queued = q }) e fares)

  got_all : (n : ℕ) (gs' : List GramIn) → ((j m : ℕ) → m ≡ n + j → slice_get gs m ≡ slice_get gs' j) → AllGot ws old.came rs dones os n gs' → AllGot (map goes on.turns) turned.comes rs2 (dones ++ ended) (os ++ more) n gs'
  got_all n [] front a = tt
  got_all n (g ∷ gs') front a = (got_on n g (front 0 n (omega arith)) a.0, got_all (suc n) gs' (λ j m e. front (suc j) m (omega (arith, e))) a.1)

  -- what holds of these frames holds of those before the last
  fewer : HearNoMore plan (fs ++ f ∷ []) → HearNoMore plan fs
  fewer quiet = λ front back g e. quiet front (back ++ f ∷ []) g (ap (λ l. l ++ f ∷ []) e ∙ append_assoc front (g ∷ back) (f ∷ []))

  abbrev Behind : List Request → List Owing → List ℕ → Type 0
  Behind qs ps ds = Rowed plan s' (fs ++ f ∷ []) gs qs ps ds (switch_events old.serving.rows ++ (happened.making ++ happened.behind)) (old.serving.numbers ++ numbers_over (length fs) happened)

  behind : Behind rs2 (os ++ more) (dones ++ ended)
  behind = (
    record {
      serving = on.new;
      came = turned.comes;
      desk = subst (λ z. AllDesk gs rs2 (os ++ more) 0 z turned.comes) (sym on.serves) turned.desks;
      told = subst (All ToldAll) (sym on.serves) turned.told;
      apart = events_unlike (λ (r : Request). r.key) (λ r. refl) (told_in shows second) rs1 (events_unlike (λ (r : Request). r.key) (λ r. refl) (told_in begins first) rs old.apart);
      filed = events_unlike (λ (r : Request). r.gram) (λ r. refl) (told_in shows second) rs1 filed1;
      heard = events_keep (IsHeard gs) (λ r h. record { gram = h.gram; there = h.there; queued = h.queued }) (told_in shows second) rs1 heard1;
      undone = both_off dones ended rs2
          (events_keep (IsUndone dones) (λ r u. u) (told_in shows second) rs1 (events_keep (IsUndone dones) (λ r u. u) (told_in begins first) rs old.undone))
          (events_off (told_in shows second) rs1 filed1);
      early = All-weaker (λ (g : GramIn). g.frame ≤ length fs) (λ (g : GramIn). g.frame ≤ length (fs ++ f ∷ [])) (λ g less. (let long = length-append fs (f ∷ []) in omega (arith, long, less))) gs old.early;
      ended = All-append (λ (n : ℕ). n < length gs) dones ended old.ended (events_end (λ n. n < length gs) (told_in shows second) rs1 known1);
      owed = All-append (λ (o : Owing). o.gram < length gs) os more old.owed (events_owe (λ n. n < length gs) (told_in shows second) rs1 known1);
      got = subst (λ z. AllGot z turned.comes rs2 (dones ++ ended) (os ++ more) 0 gs) (sym on.serves)
          (got_all 0 gs (λ j m e. ap (slice_get gs) (let same : m ≡ j = omega (arith, e) in same)) old.got);
      whole = λ quiet.
          subst (λ z. AllBoth (GivesAll (os ++ more) (λ n. is_in n (dones ++ ended))) z turned.comes) (sym on.serves)
          (turned.whole (quiet fs [] f refl old.serving.leading.missed ws old.serving.leading.lives on.turns on.frame) (old.whole (fewer quiet)));
    },
    on.events,
    on.numbers,
  )

  -- WHAT IS LISTED of the frame is just what the lives tell
  abbrev es : List Event
  es = events_of s'.master

  told : filter is_gateway es ≡ told_in begins first ++ told_in shows second
  told = on.tells.told ∙ ap (λ (z : List Serves). told_in begins first ++ told_in (λ k. told_behind lens f f.fate on.turns z k) second) on.serves

  left_is : left_by_all es rs ≡ rs2
  left_is = known_left es rs ∙ ap (λ l. left_by_all l rs) told ∙ left_append (told_in begins first) (told_in shows second) rs

  owed_all : owed_by_all es rs ≡ more
  owed_all =
      known_owed es rs ∙ ap (λ l. owed_by_all l rs) told ∙ owed_both (told_in begins first) (told_in shows second) rs
      ∙ ap (λ l. l ++ more) (owed_is (told_in begins first) rs ∙ begins_give owed_by began_owes (number_at (map run_lead ws)) forwards (oldest_in ws) (began_of (map run_turn on.turns)) first rs)

  done_all : done_by_all es rs ≡ ended
  done_all =
      known_done es rs ∙ ap (λ l. done_by_all l rs) told ∙ given_both done_by (told_in begins first) (told_in shows second) rs
      ∙ ap (λ l. l ++ ended) (begins_give done_by began_ends (number_at (map run_lead ws)) forwards (oldest_in ws) (began_of (map run_turn on.turns)) first rs)

  pub answers_on : Behind (left_by_all es rs) (os ++ owed_by_all es rs) (dones ++ done_by_all es rs)
  answers_on =
      subst (λ l. Behind (left_by_all es rs) (os ++ owed_by_all es rs) (dones ++ l)) (sym done_all)
      (subst (λ l. Behind (left_by_all es rs) (os ++ l) (dones ++ ended)) (sym owed_all) (subst (λ l. Behind l (os ++ more) (dones ++ ended)) (sym left_is) behind))
