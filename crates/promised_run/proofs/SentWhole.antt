-- EACH EPOCH OF A RUN OR A SERVING sends whole packets, of which the first came in at the port of its slave.
use Rattle.std.proofs.Common.{◌≡◌, ◌≢◌, ℕ, zero, suc, Some, List, [], ◌∷◌, ◌++◌, map, length, le-ltb, refl, ap, ◌∙◌}
use Rattle.std.specs.Prelude.{slice_get}
use Rattle.run_promises.specs.of_life_runs.Led.{Exchanged, Leads}
use Rattle.seen_slaves.specs.of_plan_ring.Lives.{IsKnown}
use Rattle.seen_slaves.specs.of_plan_ring.Round.{AllRound, ring_of}
use Rattle.promised_run.proofs.Rounds.{all_round}
use Rattle.promised_run.proofs.Through.{RepliesLaw, stood_behind}
use Rattle.promised_run.specs.Alone.{ServesAlone}
use Rattle.promised_run.specs.Ports.{AllHavePorts, accepted_at}
use Rattle.promised_run.specs.SentWhole.{HasSentWhole, IsServedSentWhole, SendWhole, packet_of}
use Rattle.promised_run.specs.ServedPorts.{IsServedAtPorts}
use Rattle.promised_run.specs.Stood.{StoodBehind}
use Rattle.gateway_run.specs.of_run_book.declared.book.Book.{Book}
use Rattle.gateway_run.specs.of_run_book.declared.book.Ending.TheVariants as endings
use Rattle.gateway_run.specs.of_run_book.declared.book.SentFrame.{SentFrame}
use Rattle.run_promises.specs.of_master_node.Forwards.{port_by}
use Rattle.run_promises.specs.of_master_node.Happened.{arrivals_at}
use Rattle.run_promises.specs.of_master_node.Ports.{ports_behind}
use Rattle.gateway_run.specs.of_run_record.Led.{LeadTo, exchanged}
use Rattle.gateway_run.specs.of_run_record.Ran.{HasSent}
use Rattle.gateway_run.specs.of_run_record.Replay.{first_ring}
use Rattle.run_promises.specs.of_packets_heard.Heard.{Times, packets_of, times_in}
use Rattle.run_promises.specs.of_packets_heard.Listed.{long_ones, long_where}
use Rattle.run_promises.specs.of_packets_heard.Servings.{served_times}
use Rattle.run_promises.specs.of_segment_plan.Sound.{IsPlan}
use Rattle.run_promises.specs.of_segment_plan.declared.plan.Scenario.{Scenario}
use Rattle.run_promises.specs.Laws.{PacketsAreLong, RunsHear, ServingsHear, SlavesSendWhole}
use Rattle.run_promises.specs.Whole.{AllAreHeard, AreLong, heard_at}
use Rattle.run_promises.specs.of_life_runs.Served.{Serves}

-- packets of at least 14 octets all come in
long_all : (ps : List (List ℕ)) → AreLong ps → long_ones ps ≡ map packet_of ps
long_all [] long = refl
long_all (p ∷ ps) long = λ i. long_where (le-ltb (length p) 14 long.0 i) p ++ long_all ps long.1 i

-- the mails at a place
at_place : (ws : List Serves) (ts : List Times) → AllAreHeard ws ts → (k : ℕ) → accepted_at ts k ≡ heard_at ws k
at_place [] [] all k = refl
at_place [] (t ∷ ts) all k = absurd all
at_place (w ∷ ws) [] all k = absurd all
at_place (w ∷ ws) (t ∷ ts) all zero = all.0
at_place (w ∷ ws) (t ∷ ts) all (suc k) = at_place ws ts all.1 k

module _ (plan : Scenario) (is : IsPlan plan) (knows : IsKnown plan) (whole : SlavesSendWhole) (long : PacketsAreLong) where
  -- BY WHAT THE SLAVES SERVED
  send_whole : (frames : List SentFrame) (ws : List Serves) (times : List Times) → StoodBehind plan frames ws → AllAreHeard ws times → SendWhole plan frames ws times
  send_whole frames ws times stood all = record { served = stood; whole = whole plan is knows ws _ stood.each; heard = at_place ws times all }

  -- AND WHAT CAME IN at their ports
  abbrev ArriveBy : Book → List Times → Type 0
  ArriveBy book times = (k port : ℕ) → port_by (slice_get (ports_behind 0 plan.slaves) k) ≡ Some port → arrivals_at port book.switch ≡ long_ones (packets_of (accepted_at times k))

  has_sent : (book : Book) (ws : List Serves) (times : List Times) → SendWhole plan book.frames ws times → (book.ending ≢ endings.NoMemory → ArriveBy book times) → HasSentWhole plan book ws times
  has_sent book ws times sends come = record { sends = sends; arrive = λ memory k port at. come memory k port at ∙ ap (λ mss. long_ones (packets_of mss)) (sends.heard k) ∙ long_all (packets_of (heard_at ws k)) (long plan.slaves ws _ sends.served.each sends.whole k) }

  -- OF A SERVING, by each account of its book
  pub all_send : RepliesLaw → ServingsHear → (count : ℕ) (book : Book) → HasSent plan count book → IsServedAtPorts plan count book → IsServedSentWhole plan count book
  all_send replies accepted count book sent ports = λ a.
      let l = a.answers.serving.leading in
      let fs : List Exchanged = map exchanged book.frames in
      let round = all_round (first_ring plan) book.frames sent.recorded in
      let stood = stood_behind plan book.frames l.serves (replies plan is knows fs l.missed l.serves l.lives round) in
      has_sent book l.serves (served_times l.lives) (send_whole book.frames l.serves (served_times l.lives) stood (accepted plan is knows fs l.missed l.serves l.lives round))
      (λ memory k port at. ((ports memory a).ports k port at).arrived)

  -- OF A RUN
  pub run_sends : RunsHear → (book : Book) (missed : ℕ) (leads : List Leads) (led : LeadTo plan (map exchanged book.frames) missed leads) → AllRound (ring_of plan) (map exchanged book.frames) → (served : ServesAlone plan book leads) →
      (book.ending ≢ endings.NoMemory → AllHavePorts plan led book) → HasSentWhole plan book served.serves (times_in led)
  run_sends accepted book missed leads led round served ports =
      has_sent book served.serves (times_in led) (send_whole book.frames served.serves (times_in led) served.slaves (accepted plan is knows (map exchanged book.frames) missed leads led round served.serves served.alone))
      (λ memory k port at. (ports memory k port at).arrived)
