-- EACH DATAGRAM THAT WAS QUEUED AT A SLAVE got what that gives for its mail.
use Rattle.std.proofs.Common.{◌≡◌, ℕ, zero, suc, ◌+◌, Bool, true, false, Option, Some, None, List, [], ◌∷◌, ◌++◌, length, map, refl, sym, ap, ◌∙◌, subst, arith}
use Rattle.std.specs.Prelude.{option_map, slice_get, All, Ok}
use Rattle.std.proofs.lemmas.Option.{slice_get-map}
use Rattle.run_promises.specs.of_exchange_model.Exchange.{plain}
use Rattle.run_promises.specs.of_exchange_model.Prefix.{IsPrefixOf}
use Rattle.run_promises.specs.of_exchange_model.Rows.{Row}
use Rattle.gateway_run.specs.of_gateway_core.Framing.{request_in}
use Rattle.gateway_run.proofs.Given.{told_append}
use Rattle.gateway_run.proofs.Hands.{both_at, rises_apart}
use Rattle.gateway_run.proofs.Judging.{got_at}
use Rattle.gateway_run.specs.Account.{Owing}
use Rattle.gateway_run.specs.Replies.{AllDesk, Fares, Fares.dropped, Fares.replies, Fares.waits, GivesAll, Got, Got.ignored, Got.queued, Got.refused, HasRow, HearNoMore, IsSame, dones_of, mails_told, owed_in}
use Rattle.gateway_run.specs.Rooms.{AreRising, begun_of, grams_of, owed_for, waiting_of}
use Rattle.gateway_run.specs.Served.{HasAccount}
use Rattle.gateway_run.specs.declared.desk.Request.{Request}
use Rattle.seen_slaves.specs.of_frame_view.Shares.{AllBoth}
use Rattle.run_promises.specs.of_life_model.Lives.{Life}
use Rattle.run_promises.specs.of_life_runs.First.{first_leads, lens_of}
use Rattle.run_promises.specs.of_life_runs.Led.{Exchanged}
use Rattle.run_promises.specs.of_link_mails.Body.{Body}
use Rattle.gateway_run.specs.of_mailbox_mail.declared.mail.Mail.{Mail}
use Rattle.run_promises.specs.of_master_node.Wants.{gave_of}
use Rattle.seen_slaves.specs.of_master_duty.Reply.{Reply}
use Rattle.seen_slaves.specs.of_master_hand.Spoken.{Asked, emission, passed}
use Rattle.seen_slaves.specs.of_plan_ring.Lives.{IsKnown}
use Rattle.seen_slaves.specs.of_plan_ring.Round.{AllRound, behind, ring_of}
use Rattle.promised_run.proofs.Rounds.{all_round}
use Rattle.promised_run.proofs.Through.{RepliesLaw, stood_behind}
use Rattle.promised_run.specs.Stood.{StoodBehind}
use Rattle.promised_run.specs.Given.{IsGiven, IsGivenAt, IsGivenTo, IsGivenTo.dropped as is_dropped, IsGivenTo.takes, IsGivenTo.waits as still_waits, IsServedGiven, IsStepOf, mails_given}
use Rattle.gateway_run.specs.of_run_book.declared.book.Book.{Book}
use Rattle.gateway_run.specs.of_run_book.declared.book.Ending.{Ending}
use Rattle.gateway_run.specs.of_run_book.declared.book.GramIn.{GramIn}
use Rattle.run_promises.specs.of_master_tour.Made.{is_in}
use Rattle.run_promises.proofs.Known.{known}
use Rattle.gateway_run.specs.of_run_record.Led.{exchanged}
use Rattle.gateway_run.specs.of_run_record.Ran.{HasSent}
use Rattle.gateway_run.specs.of_run_record.Replay.{first_ring, ring_after}
use Rattle.run_promises.specs.of_run_work.Lives.{first_server}
use Rattle.run_promises.specs.of_scenario.Told.{IsTold}
use Rattle.run_promises.specs.of_segment_model.Ends.{Passing}
use Rattle.run_promises.specs.of_segment_plan.Sound.{IsPlan}
use Rattle.run_promises.specs.of_segment_plan.declared.plan.Scenario.{Scenario}
use Rattle.run_promises.specs.of_segment_plan.declared.slave.SlaveSpec.{SlaveSpec}
use Rattle.run_promises.specs.of_segment_ring.Ring.{RingState}
use Rattle.seen_slaves.specs.of_served_places.Rows.{HearsNoMore, passed_rows, passings, replies_of}
use Rattle.seen_slaves.specs.of_served_rings.Given.{AllGiven, Given, IsGiven as IsGivenRow, given}
use Rattle.seen_slaves.specs.of_served_rings.Served.{AllServeSo, IsServedLife, replies_to}
use Rattle.run_promises.specs.of_life_runs.Served.{IsServedFrame, IsServedLed, ServedTurn, Serves, all_serve}
use Rattle.run_promises.specs.of_slave_server.Serving.{Serving}
use Rattle.run_promises.specs.of_slave_server.Spec.{profile_of}
use Rattle.run_promises.specs.of_slave_node.Node.{Node}

-- the laws
abbrev pub StaysLaw : Type 0
StaysLaw =
    (plan : Scenario) → IsPlan plan → IsKnown plan → (fs : List Exchanged) (missed : ℕ) (ws : List Serves) → IsServedLed (lens_of plan.slaves) plan.recover plan.retry (all_serve plan.paces (first_leads plan)) fs missed ws →
    (f : Exchanged) (vs : List ServedTurn) → IsServedFrame (lens_of plan.slaves) (length fs) f.sent ws vs → AllRound (ring_of plan) (fs ++ f ∷ []) → All (HearsNoMore (lens_of plan.slaves) plan.recover plan.retry f) vs

abbrev pub RowsLaw : Type 0
RowsLaw =
    (s : SlaveSpec) (l : Life Body Asked Reply) (n : Node Serving) (d : IsServedLife (profile_of s) s.boot s.station s.start (first_server s) l n) →
    AllGiven (profile_of s) s.boot s.station (given (profile_of s) s.boot s.station s.start (first_server s) l n d) (passings l) (passed_rows l)

abbrev pub RowLaw : Type 0
RowLaw =
    (s : SlaveSpec) (gs : List Given) (ps : List (Option Passing)) (rs : List (Row Body Asked Reply)) → AllGiven (profile_of s) s.boot s.station gs ps rs →
    (i : ℕ) (r : Row Body Asked Reply) → slice_get rs i ≡ Some r → (g : Given) × (passing : Option Passing) × (slice_get gs i ≡ Some g) × (slice_get ps i ≡ Some passing) × IsGivenRow (profile_of s) s.boot s.station g passing r

-- NO FRAME OF THE BOOK BRINGS A REPLY MORE to a mail that is over
first_round : (ring : RingState (Node Serving)) (front back : List Exchanged) (f : Exchanged) → AllRound ring (front ++ f ∷ back) → AllRound ring (front ++ f ∷ [])
first_round ring [] back f all = (all.0, tt)
first_round ring (g ∷ front) back f all = (all.0, first_round (behind ring g.sent) front back f all.1)

quiet : (plan : Scenario) (count : ℕ) (book : Book) → IsPlan plan → IsTold plan → StaysLaw → HasSent plan count book → HearNoMore plan (map exchanged book.frames)
quiet plan count book is told law sent = λ front back f e missed ws led vs frame.
    law plan is (known plan told) front missed ws led f vs frame
    (first_round (ring_of plan) front back f (subst (AllRound (ring_of plan)) e (all_round (first_ring plan) book.frames sent.recorded)))

-- what stands at a place of what is made of each
map_at : {A B : Type 0} (f : A → B) (xs : List A) (k : ℕ) (x : A) → slice_get xs k ≡ Some x → slice_get (map f xs) k ≡ Some (f x)
map_at f xs k x e = slice_get-map f xs k ∙ ap (option_map f) e

-- the first mails are told first
told_first : (xs ys : List Body) → IsPrefixOf xs ys → IsPrefixOf (mails_told xs) (mails_told ys)
told_first xs ys p = (mails_told p.0, sym (told_append xs p.0) ∙ ap mails_told p.1)

-- a datagram that waits isn't among those whose mails came into hand
waits_apart : (came : List ℕ) (waiting : List Request) (number : ℕ) → AreRising (came ++ grams_of waiting) → is_in number (grams_of waiting) ≡ true → is_in number came ≡ false
waits_apart came waiting number rising among = by (is_in number came) refl
  where
    by : (b : Bool) → is_in number came ≡ b → is_in number came ≡ false
    by false none = none
    by true one = (let none = rises_apart number came (grams_of waiting) rising one in cc)

-- the datagrams of the slave at a place rise
rising_at : (gs : List GramIn) (rs : List Request) (os : List Owing) (i : ℕ) (ws : List Serves) (nss : List (List ℕ)) → AllDesk gs rs os i ws nss → (place slave : ℕ) (w : Serves) (came : List ℕ) → slave ≡ i + place →
    slice_get ws place ≡ Some w → slice_get nss place ≡ Some came → AreRising (came ++ grams_of (waiting_of slave rs))
rising_at gs rs os i [] nss all place slave w came at at_w at_came = absurd (let bad : None ≡ Some w = at_w in cc)
rising_at gs rs os i (u ∷ ws) [] all place slave w came at at_w at_came = absurd all
rising_at gs rs os i (u ∷ ws) (ks ∷ nss) all zero slave w came at at_w at_came =
    let came_same : ks ≡ came = (let is : Some ks ≡ Some came = at_came in cc) in
    let at_first : i ≡ slave = omega (arith, at) in
    subst (λ (z : List ℕ). AreRising (z ++ grams_of (waiting_of slave rs))) came_same (subst (λ (k : ℕ). AreRising (ks ++ grams_of (waiting_of k rs))) at_first all.0.rising)
rising_at gs rs os i (u ∷ ws) (ks ∷ nss) all (suc place) slave w came at at_w at_came =
    let next : slave ≡ suc i + place = omega (arith, at) in
    rising_at gs rs os (suc i) ws nss all.1 place slave w came next at_w at_came

-- ONE SLAVE
module _ (laws : RowsLaw) (law : RowLaw) (s : SlaveSpec) (w : Serves) (n : Node Serving) (d : IsServedLife (profile_of s) s.boot s.station s.start (first_server s) w.lead.lived.life n) (came : List ℕ) (os : List Owing) (dones : List ℕ) (all : GivesAll os (λ k. is_in k dones) w came) where
  abbrev steps : List Given
  steps = given (profile_of s) s.boot s.station s.start (first_server s) w.lead.lived.life n d

  module _ (number : ℕ) (asked : Mail) (told : List Body) (row : HasRow w came number asked told) where
    -- what was owed for it is what was heard in its row
    owed_is : owed_for number os ≡ mails_told (plain emission row.row.heard)
    owed_is =
        let here : slice_get (owed_in os came) row.index ≡ Some (owed_for number os) = map_at (λ (k : ℕ). owed_for k os) came row.index number row.its in
        let there : slice_get (map mails_told (replies_of (passed_rows w.lead.lived.life))) row.index ≡ Some (mails_told (plain emission row.row.heard)) =
        map_at mails_told (replies_of (passed_rows w.lead.lived.life)) row.index (plain emission row.row.heard) (map_at (λ (r : Row Body Asked Reply). plain emission r.heard) (passed_rows w.lead.lived.life) row.index row.row row.is) in
        let both : Some (owed_for number os) ≡ Some (mails_told (plain emission row.row.heard)) = sym here ∙ ap (λ l. slice_get l row.index) all.heard ∙ there in
        cc

    step_of : IsStepOf s steps (passings w.lead.lived.life) came number asked (is_in number dones) (owed_for number os)
    step_of =
        let g = law s steps (passings w.lead.lived.life) (passed_rows w.lead.lived.life) (laws s w.lead.lived.life n d) row.index row.row row.is in
        let over = both_at (λ k p. is_in k dones ≡ true → p ≡ None) came (passings w.lead.lived.life) row.index number all.over row.its in
        let same : row.mail ≡ g.0.mail = (let one : passed row.mail ≡ passed g.0.mail = sym row.service ∙ g.4.service in cc) in
        let stands : over.0 ≡ g.1 = (let one : Some over.0 ≡ Some g.1 = sym over.1 ∙ g.3 in cc) in
        record {
          index = row.index;
          its = row.its;
          step = g.0;
          is = g.2;
          same = subst (IsSame asked) same row.same;
          first = subst (λ ms. IsPrefixOf ms (mails_given s g.0)) (sym owed_is) (told_first (plain emission row.row.heard) (replies_to (profile_of s) s.boot s.station g.0.server g.0.mail) g.4.heard.begin);
          all = λ done. owed_is ∙ ap mails_told (g.4.heard.all (sym stands ∙ over.2 done));
          over = λ none. owed_is ∙ ap mails_told (g.4.heard.all (let one : Some g.1 ≡ Some None = sym g.3 ∙ none in cc));
        }

  given_to : (waiting begun : List Request) (number heard : ℕ) (asked : Mail) → AreRising (came ++ grams_of waiting) → Fares w came waiting begun (is_in number dones) number heard asked (owed_for number os) →
      IsGivenTo s steps (passings w.lead.lived.life) (gave_of w.lead) came number heard asked (is_in number dones) (owed_for number os)
  given_to waiting begun number heard asked rising (waits a b none c) = still_waits b (waits_apart came waiting number rising a) none c
  given_to waiting begun number heard asked rising (dropped a b c e given h) = is_dropped e c given h
  given_to waiting begun number heard asked rising (replies told row spared stands same) = takes (step_of number asked told row)

-- THE SLAVE AT A PLACE
given_at : RowsLaw → RowLaw → (os : List Owing) (dones : List ℕ) (ss : List SlaveSpec) (ws : List Serves) (ns : List (Node Serving)) (served : AllServeSo ss ws ns) (nss : List (List ℕ)) → AllBoth (GivesAll os (λ k. is_in k dones)) ws nss →
    (place : ℕ) (w : Serves) (came : List ℕ) → slice_get ws place ≡ Some w → slice_get nss place ≡ Some came → (waiting begun : List Request) (number heard : ℕ) (asked : Mail) → AreRising (came ++ grams_of waiting) → Fares w came waiting begun (is_in number dones) number heard asked (owed_for number os) →
    IsGivenAt ss ws ns served nss place number heard asked (is_in number dones) (owed_for number os)
given_at laws law os dones [] [] [] served nss all place w came at_w at_came waiting begun number heard asked rising f = absurd (let bad : None ≡ Some w = at_w in cc)
given_at laws law os dones [] [] (n ∷ ns) served nss all place w came at_w at_came waiting begun number heard asked rising f = absurd served
given_at laws law os dones [] (u ∷ ws) ns served nss all place w came at_w at_came waiting begun number heard asked rising f = absurd served
given_at laws law os dones (s ∷ ss) [] ns served nss all place w came at_w at_came waiting begun number heard asked rising f = absurd served
given_at laws law os dones (s ∷ ss) (u ∷ ws) [] served nss all place w came at_w at_came waiting begun number heard asked rising f = absurd served
given_at laws law os dones (s ∷ ss) (u ∷ ws) (n ∷ ns) served [] all place w came at_w at_came waiting begun number heard asked rising f = absurd all
given_at laws law os dones (s ∷ ss) (u ∷ ws) (n ∷ ns) served (ks ∷ nss) all zero w came at_w at_came waiting begun number heard asked rising f =
    let same : w ≡ u = (let is : Some u ≡ Some w = at_w in cc) in
    let came_same : came ≡ ks = (let is : Some ks ≡ Some came = at_came in cc) in
    given_to laws law s u n served.0 ks os dones all.0 waiting begun number heard asked (subst (λ (z : List ℕ). AreRising (z ++ grams_of waiting)) came_same rising)
    (subst (λ (z : Serves). Fares z ks waiting begun (is_in number dones) number heard asked (owed_for number os)) same (subst (λ (z : List ℕ). Fares w z waiting begun (is_in number dones) number heard asked (owed_for number os)) came_same f))
given_at laws law os dones (s ∷ ss) (u ∷ ws) (n ∷ ns) served (ks ∷ nss) all (suc place) w came at_w at_came waiting begun number heard asked rising f =
    given_at laws law os dones ss ws ns served.1 nss all.1 place w came at_w at_came waiting begun number heard asked rising f

-- ALL OF THE BOOK
module _ (plan : Scenario) (count : ℕ) (book : Book) (is : IsPlan plan) (told : IsTold plan) (replies_law : RepliesLaw) (stays : StaysLaw) (laws : RowsLaw) (law : RowLaw) (sent : HasSent plan count book) (ending : Ending) (a : HasAccount plan count book ending) where
  abbrev dones : List ℕ
  dones = dones_of plan count a.session book.frames book.grams a.requests a.owed a.course

  abbrev ws : List Serves
  ws = a.answers.serving.leading.serves

  abbrev nodes : List (Node Serving)
  nodes = (ring_after (first_ring plan) book.frames).nodes

  served : StoodBehind plan book.frames ws
  served = stood_behind plan book.frames ws
      (replies_law plan is (known plan told) (map exchanged book.frames) a.answers.serving.leading.missed ws a.answers.serving.leading.lives (all_round (first_ring plan) book.frames sent.recorded))

  by_got : (number : ℕ) (g : GramIn) (slave : ℕ) → g.queued ≡ Some slave → Got ws a.answers.came a.requests dones number g (owed_for number a.owed) →
      (asked : Mail) × (request_in g.bytes ≡ Ok asked) × IsGivenAt plan.slaves ws nodes served.each a.answers.came slave number g.frame asked (is_in number dones) (owed_for number a.owed)
  by_got number g slave q (ignored fault request nowhere none) = absurd (let bad : None ≡ Some slave = sym nowhere ∙ q in cc)
  by_got number g slave q (refused asked detail request nowhere seldom one) = absurd (let bad : None ≡ Some slave = sym nowhere ∙ q in cc)
  by_got number g slave q (queued asked place w numbers request there at_w at_came fares) =
      let same : place ≡ slave = (let both : Some place ≡ Some slave = sym there ∙ q in cc) in (
        asked,
        request,
        subst (λ k. IsGivenAt plan.slaves ws nodes served.each a.answers.came k number g.frame asked (is_in number dones) (owed_for number a.owed)) same
            (given_at laws law a.owed dones plan.slaves ws nodes served.each a.answers.came (a.answers.whole (quiet plan count book is told stays sent)) place w numbers at_w at_came (waiting_of place a.requests) (begun_of place a.requests) number g.frame asked
            (rising_at book.grams a.requests a.owed 0 ws a.answers.came a.answers.desk place place w numbers (omega arith) at_w at_came) fares),
      )

  given_all : IsGiven plan count book ending a
  given_all = record {
    served = served;
    each = λ number g slave there q. by_got number g slave q (got_at ws a.answers.came a.requests dones a.owed 0 book.grams a.answers.got number number g (omega arith) there);
  }

pub all_given : (plan : Scenario) (count : ℕ) (book : Book) → IsPlan plan → IsTold plan → RepliesLaw → StaysLaw → RowsLaw → RowLaw → HasSent plan count book → IsServedGiven plan count book
all_given plan count book is told replies_law stays laws law sent = λ ending a. given_all plan count book is told replies_law stays laws law sent ending a
