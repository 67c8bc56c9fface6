-- A serving that isn't cut off and gives no slave up ends as done, with each datagram that was queued at a slave done.
use Rattle.std.proofs.Common.{◌≡◌, ◌≢◌, ◌<◌, ◌≤◌, ℕ, zero, suc, Bool, true, false, is_some, Option, Some, None, List, [], ◌∷◌, map, length, refl, sym, ap, ◌∙◌, subst, arith}
use Rattle.std.specs.Prelude.{slice_get}
use Rattle.gateway_run.specs.Account.{Owing}
use Rattle.gateway_run.specs.Done.{AllDone, IsDone, IsOver, IsOver.cut as is_cut, IsOver.dropped as is_dropped, IsOver.whole as is_whole, LeavesNone}
use Rattle.gateway_run.specs.Replies.{dones_of}
use Rattle.gateway_run.specs.Rooms.{owed_for}
use Rattle.gateway_run.specs.Served.{HasAccount, IsServed}
use Rattle.gateway_run.specs.Serving.{Told}
use Rattle.gateway_run.specs.Since.{GaveSince}
use Rattle.run_promises.specs.of_life_runs.First.{lens_of, first_leads}
use Rattle.run_promises.specs.of_life_runs.Led.{Exchanged, Leads, gives_up_at, speech_at}
use Rattle.run_promises.specs.of_datagrams.Datagram as Raw
use Rattle.seen_slaves.specs.of_frame_view.Seen.{seen}
use Rattle.seen_slaves.specs.of_frame_view.View.{Lens}
use Rattle.seen_slaves.specs.of_frame_view.Shares.{came_at}
use Rattle.seen_slaves.specs.of_master_side.Passing.{news_back, news_lost}
use Rattle.run_promises.specs.of_segment_ring.declared.wire.Fate.{Fate}
use Rattle.run_promises.specs.of_segment_ring.declared.wire.Fate.TheVariants.{Pass, Lost}
use Rattle.gateway_run.specs.of_mailbox_mail.declared.mail.Mail.{Mail}
use Rattle.promised_run.proofs.Few.{AreFated, LifeOf, NoneGave, Stands, back_gave, fated_split, lost_gave, next_gave, none_any, none_first, recorded_fates, stands_on}
use Rattle.promised_run.specs.Few.{AreFewLost, IsLost, NoneGivenUp}
use Rattle.promised_run.specs.ServedBounded.{AreDone, HearsFair, IsServedBounded}
use Rattle.gateway_run.specs.of_run_book.declared.book.Book.{Book}
use Rattle.gateway_run.specs.of_run_book.declared.book.Ending.{Ending}
use Rattle.gateway_run.specs.of_run_book.declared.book.Ending.TheVariants as endings
use Rattle.gateway_run.specs.of_run_book.declared.book.GramIn.{GramIn}
use Rattle.run_promises.specs.of_master_node.Serving.{run_lead}
use Rattle.run_promises.specs.of_master_node.Wants.{gave_of}
use Rattle.run_promises.specs.of_master_tour.Made.{is_in}
use Rattle.gateway_run.specs.of_run_record.Led.{exchanged}
use Rattle.gateway_run.specs.of_run_record.Ran.{HasSent}
use Rattle.gateway_run.specs.of_run_record.Replay.{first_ring}
use Rattle.gateway_run.specs.of_run_record.Session.{budget_of, some_given_up}
use Rattle.gateway_run.specs.of_run_notes.Slaves.{gaves_noted, slave_rows}
use Rattle.gateway_run.specs.of_run_notes.declared.notes.Notes.{Notes}
use Rattle.run_promises.specs.of_segment_plan.Bound.{bound_of}
use Rattle.run_promises.specs.of_segment_plan.declared.plan.Scenario.{Scenario}
use Rattle.run_promises.specs.of_life_runs.Served.{AllServedTurn, IsServedLed, Keyed, Serves, ServedTurn, all_serve, asked_at, served_behind, served_life}
use Rattle.run_promises.specs.of_slave_node.Node.{Node}
use Rattle.run_promises.specs.of_slave_server.declared.server.SlaveServer.{SlaveServer}

-- ---- no slave is given up

-- where a mail is asked nothing else changes
asked_none : (place : ℕ) (k : Keyed) (ws : List Serves) → NoneGave (map run_lead ws) → NoneGave (map run_lead (asked_at place k ws))
asked_none place k [] n = tt
asked_none zero k (w ∷ ws) n = n
asked_none (suc place) k (w ∷ ws) n = (n.0, asked_none place k ws n.1)

-- ONE FRAME, by which none is given up
module _ (lens : ℕ → Lens) (recover retry made : ℕ) where
  one_behind : (gives : Bool) (f : Exchanged) (fate : Fate) (v : ServedTurn) → (IsLost fate → gives ≡ false) → (served_life lens recover retry gives made f fate v).life.gave ≡ v.turn.lived.life.gave
  one_behind gives f Pass v seldom =
      back_gave made v.turn.lived.life (speech_at lens v.turn.lived.spot) v.turn.lived.spot (news_back v.turn.lived.spot.station v.kept v.counts (seen lens f.back)) (seen lens f.back) (came_at v.turn.share.under v.turn.share.at (seen lens f.back))
      v.turn.lived.life.stand
  one_behind true f (Lost after) v seldom = let no : true ≡ false = seldom tt in absurd cc
  one_behind false f (Lost after) v seldom =
      lost_gave made v.turn.lived.life (speech_at lens v.turn.lived.spot) v.turn.lived.spot (news_lost v.turn.lived.spot.station v.kept (seen lens f.sent)) (seen lens f.sent) v.turn.lived.life.stand

  none_behind : (ds : List Raw.Datagram) (gives : Bool) (f : Exchanged) (ws : List Serves) (vs : List ServedTurn) → AllServedTurn lens made ds ws vs → (IsLost f.fate → gives ≡ false) → NoneGave (map run_lead ws) →
      NoneGave (map run_lead (map (served_behind lens recover retry gives made f) vs))
  none_behind ds gives f [] [] t seldom n = tt
  none_behind ds gives f [] (v ∷ vs) t seldom n = absurd t
  none_behind ds gives f (w ∷ ws) [] t seldom n = absurd t
  none_behind ds gives f (w ∷ ws) (v ∷ vs) t seldom n = (
    one_behind gives f f.fate v seldom ∙ ap (λ (l : LifeOf). l.gave) t.0.next.life ∙ next_gave made w.lead.lived.life (speech_at lens w.lead.lived.spot) t.0.next.pick w.lead.lived.life.stand ∙ n.0,
    none_behind ds gives f ws vs t.1 seldom n.1,
  )

-- THE FRAMES OF A SERVING
module _ (lens : ℕ → Lens) (recover retry : ℕ) (lose : List (ℕ × ℕ)) (few : AreFewLost lose retry) where
  stands : (first : List Serves) (fs : List Exchanged) (missed : ℕ) (ws : List Serves) → IsServedLed lens recover retry first fs missed ws → NoneGave (map run_lead first) → AreFated lose 0 fs → Stands lose (length fs) missed (map run_lead ws)
  stands first _ _ _ IsServedLed.start none fated = record { none = none; first = 0; whole = refl; lost = λ k less. absurd (omega (arith, less)) }
  stands first _ _ _ (IsServedLed.asks fs missed ws place k led may) none fated =
      let h = stands first fs missed ws led none fated in
      record { none = asked_none place k ws h.none; first = h.first; whole = h.whole; lost = h.lost }
  stands first _ _ _ (IsServedLed.on fs missed ws f vs led frame) none fated =
      let split = fated_split lose 0 fs f fated in
      let h = stands first fs missed ws led none split.0 in
      let gives = gives_up_at lens recover retry missed in
      stands_on lens recover retry lose few fs f missed (map run_lead ws) (map run_lead (map (served_behind lens recover retry gives (length fs) f) vs)) split.1 h
      (λ seldom. none_behind lens recover retry (length fs) frame.datagrams gives f ws vs frame.each seldom h.none)

-- before the first frame
first_none : (paces : List ℕ) (as' : List Leads) → NoneGave as' → NoneGave (map run_lead (all_serve paces as'))
first_none paces [] n = tt
first_none [] (a ∷ as') n = (n.0, first_none [] as' n.1)
first_none (pace ∷ paces) (a ∷ as') n = (n.0, first_none paces as' n.1)

-- the rows of a book have the give-ups of the lives
rows_none : (recover : ℕ) (nodes : List (Node SlaveServer)) (notes : List Notes) (as' : List Leads) → gaves_noted notes ≡ map gave_of as' → NoneGave as' → NoneGivenUp (slave_rows recover nodes notes)
rows_none recover [] notes as' e n = tt
rows_none recover (node ∷ nodes) [] as' e n = tt
rows_none recover (node ∷ nodes) (row ∷ notes) [] e n = absurd cc
rows_none recover (node ∷ nodes) (row ∷ notes) (a ∷ as') e n =
    let both : row.gave ∷ gaves_noted notes ≡ a.lived.life.gave ∷ map gave_of as' = e in
    let here : row.gave ≡ a.lived.life.gave = cc in
    let rest : gaves_noted notes ≡ map gave_of as' = cc in
    (here ∙ n.0, rows_none recover nodes notes as' rest n.1)

-- of each slave
none_at : (ws : List Serves) (place : ℕ) (w : Serves) → NoneGave (map run_lead ws) → slice_get ws place ≡ Some w → w.lead.lived.life.gave ≡ []
none_at [] place w n at = absurd (let no : None ≡ Some w = at in cc)
none_at (z ∷ ws) zero w n at = let same : z ≡ w = (let is : Some z ≡ Some w = at in cc) in ap (λ (y : Serves). y.lead.lived.life.gave) (sym same) ∙ n.0
none_at (z ∷ ws) (suc place) w n at = none_at ws place w n.1 at

-- of one that wasn't given up there is no give-up since
none_since : (frame : ℕ) (gave : List ℕ) → gave ≡ [] → GaveSince frame gave → ⊥
none_since frame gave none given = (let many : length gave ≡ 0 = ap length none in let less : given.0 < length gave = given.2 in omega (arith, many, less))

-- so each datagram that was queued at one is done
over_done : (w : Serves) (came : List ℕ) (done : Bool) (number heard : ℕ) (mails : List Mail) → gave_of w.lead ≡ [] → IsOver w came done number heard mails → done ≡ true
over_done w came done number heard mails none (is_whole asked told row all same is) = is
over_done w came done number heard mails none (is_dropped off given error undone) = absurd (none_since heard (gave_of w.lead) none given)
over_done w came done number heard mails none (is_cut asked told row given same undone) = absurd (none_since row.row.frame (gave_of w.lead) none given)

one_done : (ws : List Serves) (came : List (List ℕ)) (dones : List ℕ) (os : List Owing) (number : ℕ) (g : GramIn) → NoneGave (map run_lead ws) → IsDone ws came dones os number g → is_some g.queued ≡ true → is_in number dones ≡ true
one_done ws came dones os number g n d some = go g.queued refl some
  where
    go : (queued : Option ℕ) → g.queued ≡ queued → is_some queued ≡ true → is_in number dones ≡ true
    go None at is = absurd (let no : false ≡ true = is in cc)
    go (Some slave) at is = (let o = d slave at in over_done o.0 o.1 (is_in number dones) number g.frame (owed_for number os) (none_at ws slave o.0 n o.2) o.4)

all_done : (ws : List Serves) (came : List (List ℕ)) (dones : List ℕ) (os : List Owing) (number : ℕ) (gs : List GramIn) → NoneGave (map run_lead ws) → AllDone ws came dones os number gs → AreDone dones number gs
all_done ws came dones os number [] n d = tt
all_done ws came dones os number (g ∷ gs) n d = (one_done ws came dones os number g n d.0, all_done ws came dones os (suc number) gs n d.1)

-- ---- how it ends

-- the law of the bound, however the serving ended
abbrev pub FewerLaw : Scenario → ℕ → Book → Type 0
FewerLaw plan count book = (ending : Ending) → HasAccount plan count book ending → HearsFair book → length book.grams ≤ count → length book.frames < bound_of plan count

module _ (plan : Scenario) (count : ℕ) (first last : Told) (book : Book) (sent : HasSent plan count book) where
  -- no slave is given up over its frames
  none_gave : AreFewLost plan.lose plan.retry → (ending : Ending) (a : HasAccount plan count book ending) → NoneGave (map run_lead a.answers.serving.leading.serves)
  none_gave few ending a =
      let l = a.answers.serving.leading in
      (stands (lens_of plan.slaves) plan.recover plan.retry plan.lose few (all_serve plan.paces (first_leads plan)) (map exchanged book.frames) l.missed l.serves l.lives
      (first_none plan.paces (first_leads plan) (none_first plan.services 0 plan.slaves)) (recorded_fates (first_ring plan) book.frames sent.recorded)).none

  answered : AreFewLost plan.lose plan.retry → (ending : Ending) (a : HasAccount plan count book ending) → LeavesNone ending → AreDone (dones_of plan count a.session book.frames book.grams a.requests a.owed a.course) 0 book.grams
  answered few ending a leaves =
      all_done a.answers.serving.leading.serves a.answers.came (dones_of plan count a.session book.frames book.grams a.requests a.owed a.course) a.owed 0 book.grams (none_gave few ending a) (a.done leaves)

  by_account : AreFewLost plan.lose plan.retry → (ending : Ending) → HasAccount plan count book ending → NoneGivenUp book.slaves
  by_account few ending a =
      subst (λ rows. NoneGivenUp rows) (sym a.rows)
      (rows_none a.session.recover a.session.ring.nodes a.session.notes (map run_lead a.answers.serving.leading.serves) a.answers.serving.gave (none_gave few ending a))

  stayed_by : AreFewLost plan.lose plan.retry → (ending : Ending) → IsServed plan count first last book ending → ending ≢ endings.NoMemory → NoneGivenUp book.slaves
  stayed_by few endings.Done s memory = by_account few endings.Done s.3
  stayed_by few endings.GivenUp s memory = by_account few endings.GivenUp s.3
  stayed_by few endings.BudgetSpent s memory = by_account few endings.BudgetSpent s.3
  stayed_by few endings.PortFault s memory = by_account few endings.PortFault s.3
  stayed_by few endings.NoMemory s memory = absurd (memory refl)
  stayed_by few endings.Unfinished s memory = absurd s.0

  module _ (law : FewerLaw plan count book) (fair : HearsFair book) where
    fewer_by : (ending : Ending) → IsServed plan count first last book ending → ending ≢ endings.NoMemory → length book.frames < bound_of plan count
    fewer_by endings.Done s memory = law endings.Done s.3 fair s.1.few
    fewer_by endings.GivenUp s memory = law endings.GivenUp s.3 fair s.1.few
    fewer_by endings.BudgetSpent s memory = law endings.BudgetSpent s.3 fair s.1.few
    fewer_by endings.PortFault s memory = law endings.PortFault s.3 fair s.1.few
    fewer_by endings.NoMemory s memory = absurd (memory refl)
    fewer_by endings.Unfinished s memory = absurd s.0

  module _ (law : FewerLaw plan count book) (fair : HearsFair book) (enough : bound_of plan count ≤ budget_of plan count) where
    uncut_by : (ending : Ending) → IsServed plan count first last book ending → ending ≢ endings.BudgetSpent
    uncut_by endings.BudgetSpent s spent = (let less = fewer_by law fair endings.BudgetSpent s (λ memory. cc) in let all : length book.frames ≡ budget_of plan count = s.0.spent in omega (arith, less, enough, all))
    uncut_by ending s spent = absurd cc

    done_by : AreFewLost plan.lose plan.retry → (ending : Ending) → IsServed plan count first last book ending → ending ≢ endings.PortFault → ending ≢ endings.NoMemory → ending ≡ endings.Done
    done_by few endings.Done s port memory = refl
    done_by few endings.GivenUp s port memory =
        let some : some_given_up book.slaves ≡ true = s.0.gave in
        let no : some_given_up book.slaves ≡ false = none_any book.slaves (by_account few endings.GivenUp s.3) in
        absurd cc
    done_by few endings.BudgetSpent s port memory = absurd (uncut_by endings.BudgetSpent s refl)
    done_by few endings.PortFault s port memory = absurd (port refl)
    done_by few endings.NoMemory s port memory = absurd (memory refl)
    done_by few endings.Unfinished s port memory = absurd s.0

-- A SERVING IS NEVER CUT OFF, by the law of the bound
pub bounded : (plan : Scenario) (count : ℕ) (first last : Told) (book : Book) (ending : Ending) → FewerLaw plan count book → HasSent plan count book → IsServed plan count first last book ending → book.ending ≡ ending → IsServedBounded plan count book
bounded plan count first last book ending law sent served is =
    let mine : IsServed plan count first last book book.ending = subst (λ (e : Ending). IsServed plan count first last book e) (sym is) served in
    record {
      fewer = λ fair. fewer_by plan count first last book sent law fair book.ending mine;
      uncut = λ fair enough. uncut_by plan count first last book sent law fair enough book.ending mine;
      stayed = λ few. stayed_by plan count first last book sent few book.ending mine;
      answered = answered plan count first last book sent;
      done = λ fair enough few. done_by plan count first last book sent law fair enough few book.ending mine;
    }
