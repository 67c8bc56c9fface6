-- WHERE NOTHING IS LEFT of a serving, by its lives, by the rows of its slaves and by the events of its switch, all is done for its session.
use Rattle.std.proofs.Common.{◌≡◌, inl, inr, ℕ, suc, ◌+◌, Bool, true, false, Option, Some, None, List, [], ◌∷◌, map, length, refl, sym, ap, ◌∙◌, subst, arith}
use Rattle.std.specs.Prelude.{All, if◌then◌else◌, is_none, nat_lt, take}
use Rattle.std.specs.List.{list_any}
use Rattle.std.proofs.lemmas.Bool.{ltb-true}
use Rattle.std.proofs.lemmas.List.{length-map, length-take-le}
use Rattle.std.proofs.lemmas.List.Elements.{All-cons, All-head, All-nil, All-tail}
use Rattle.std.proofs.lemmas.Option.{slice_get_past}
use Rattle.packets_heard.specs.of_eoe_switch.Switch.{switched}
use Rattle.packets_heard.specs.of_eoe_switch.declared.switching.SwitchEvent.{SwitchEvent}
use Rattle.packets_heard.proofs.of_master_node.Restings.{serves_idle}
use Rattle.packets_heard.specs.of_master_node.Eager.{recall_of, recalls}
use Rattle.packets_heard.specs.of_master_node.Forwards.{forwarded}
use Rattle.packets_heard.specs.of_master_node.Happened.{arrivals_at, events_of}
use Rattle.packets_heard.specs.of_master_node.Ports.{ports_behind, ports_of}
use Rattle.packets_heard.specs.of_master_node.Recalled.{AllKnow}
use Rattle.packets_heard.specs.of_master_node.Resting.{MayBegin}
use Rattle.packets_heard.specs.of_master_node.ServedEager.{AllServedRest, ServedResting}
use Rattle.packets_heard.specs.of_master_node.Serving.{IsServed, run_lead}
use Rattle.packets_heard.specs.of_master_node.Shows.{is_led, is_live_lead}
use Rattle.packets_heard.specs.of_master_node.Wants.{AllCounted, IsIdle, IsServedOut}
use Rattle.packets_heard.specs.of_master_node.declared.lan.Lan.{Lan}
use Rattle.packets_heard.specs.of_master_node.declared.node.MasterNode.{MasterNode}
use Rattle.packets_heard.specs.of_master_node.declared.post.Post.{Post}
use Rattle.plan_ring.specs.of_frame_view.View.{Lens}
use Rattle.plan_ring.specs.of_frame_view.Shares.{AllBoth, AllThree}
use Rattle.served_places.specs.of_exchange_model.Exchange.{Speech}
use Rattle.served_places.specs.of_exchange_model.Rows.{Row, ends_unheard}
use Rattle.served_places.specs.of_life_runs.First.{lens_of}
use Rattle.served_places.specs.of_life_runs.Led.{Exchanged, Leads, speech_at}
use Rattle.served_places.specs.of_link_mails.Body.{Body}
use Rattle.served_places.specs.of_master_duty.Reply.{Reply}
use Rattle.served_places.specs.of_master_hand.Spoken.{Asked, acknowledged}
use Rattle.served_places.specs.of_master_hand.declared.hand.InHand.{InHand}
use Rattle.served_places.specs.of_master_side.Recall.{Recall}
use Rattle.served_places.specs.of_master_side.declared.hand.Hand.{Ghosts}
use Rattle.served_places.specs.of_master_tour.Goes.{holds_at}
use Rattle.served_places.specs.of_master_tour.declared.stop.Stop.{Stop}
use Rattle.served_places.specs.of_segment_model.Laws.{NothingInHand}
use Rattle.served_places.specs.of_segment_model.Seats.{Side}
use Rattle.served_places.specs.of_state_model.Accounts.{is_acknowledged, is_free}
use Rattle.packets_heard.specs.Recalled.{AllSettled}
use Rattle.run_notes.specs.of_run_book.declared.book.SlaveBook.{SlaveBook}
use Rattle.run_notes.specs.Slaves.{slave_rows}
use Rattle.run_notes.specs.declared.notes.Notes.{Notes}
use Rattle.run_record.proofs.Ends.{settled_rest}
use Rattle.run_record.proofs.NoPackets.{live_some}
use Rattle.run_record.proofs.ServedGaves.{has_lives, served_counted}
use Rattle.run_record.proofs.Unasked.{none_passed}
use Rattle.run_record.specs.Led.{LeavesNoPacket, RestsSo}
use Rattle.run_record.specs.Served.{Serving}
use Rattle.run_record.specs.Session.{IsDone, SessionState, has_live, session_rows}
use Rattle.run_record.specs.Written.{WereServedDue}
use Rattle.packets_heard.specs.of_segment_plan.declared.plan.Scenario.{Scenario}
use Rattle.served_places.specs.of_life_runs.Served.{IsQuiet, IsRunOf, Serves}
use Rattle.packets_heard.specs.of_slave_node.Node.{Node}
use Rattle.packets_heard.specs.of_slave_server.declared.server.SlaveServer.{SlaveServer}

-- ---- A SLAVE OF WHICH THE MASTER WANTS NOTHING rests, as its hand knows its mails and no packet waits at its port

-- the newest row is over, and the write of its last acknowledgement is done
free_by : (x : Speech Body Asked Reply) (d : Side Body Asked Reply) (o : Option (Row Body Asked Reply)) → NothingInHand x d o → is_free x d o ≡ true
free_by x d None over = refl
free_by x d (Some r) over = over

done_by : (x : Speech Body Asked Reply) (d : Side Body Asked Reply) (o : Option (Row Body Asked Reply)) → d.halves.out.holding ≡ None → is_acknowledged x acknowledged d o ≡ true
done_by x d None idle = refl
done_by x d (Some r) idle = by (ends_unheard x acknowledged r)
  where
    by : (b : Bool) → (if b then is_none d.halves.out.holding else true) ≡ true
    by true = ap is_none idle
    by false = refl

module _ (lens : ℕ → Lens) (l : Lan) where
  -- no packet waits at the ports of those that are live, from a place on
  abbrev pub NonePast : ℕ → List Leads → Type 0
  NonePast place as' = (k : ℕ) → holds_at is_live_lead as' k ≡ true → forwarded l.switch l.ports.items (place + k) ≡ []

  one_rest : (place : ℕ) (m : Recall) (w : Serves) → m.knows ≡ true → IsServedOut lens w → (is_live_lead w.lead ≡ true → forwarded l.switch l.ports.items place ≡ []) → ServedResting lens l place m w
  one_rest place m w known (inl gone) none = inl gone
  one_rest place m w known (inr out) none =
      let a = w.lead in
      let idle : IsIdle lens a = out.idle in
      let d = a.lived.life.era.side in
      let free : MayBegin lens a = record {
        stands = idle.stand;
        free = free_by (speech_at lens a.lived.spot) d d.now idle.side.nothing;
        done = done_by (speech_at lens a.lived.spot) d d.now idle.side.idle;
        hand = idle.hand;
      } in
      inr (
        record {
          known = known;
          free = free;
          held = idle.side.idle;
          clear = idle.side.clear;
          script = let n : a.number ≡ length a.script = idle.script in slice_get_past a.script a.number (omega (arith, n));
          packet = none (ap is_led idle.stand);
        },
        out.over,
        out.waits,
      )

  all_rest : (place : ℕ) (ms : List Recall) (ws : List Serves) → length ms ≡ length ws → AllKnow ms → All (IsServedOut lens) ws → NonePast place (map run_lead ws) → AllServedRest lens l place ms ws
  all_rest place [] [] same known out none = tt
  all_rest place [] (w ∷ ws) same known out none = absurd (omega (arith, same))
  all_rest place (m ∷ ms) [] same known out none = absurd (omega (arith, same))
  all_rest place (m ∷ ms) (w ∷ ws) same known out none = (
    one_rest place m w known.0 (All-head (IsServedOut lens) w ws out) (λ live. subst (λ n. forwarded l.switch l.ports.items n ≡ []) (here place) (none 0 live)),
    all_rest (suc place) ms ws (omega (arith, same)) known.1 (All-tail (IsServedOut lens) w ws out) (λ k live. subst (λ n. forwarded l.switch l.ports.items n ≡ []) (next place k) (none (suc k) live)),
  )
    where
      here : (n : ℕ) → n + 0 ≡ n
      here n = omega arith

      next : (n k : ℕ) → n + suc k ≡ suc n + k
      next n k = omega arith

-- as many lives as stops
as_many : {G : Ghosts InHand} (lens : ℕ → Lens) (recover made : ℕ) (ws : List Serves) (ps : List Post) (ss : List (Stop InHand G)) → AllThree (λ w p s. IsServed lens recover made w p s) ws ps ss → length ss ≡ length ws
as_many lens recover made [] [] [] x = refl
as_many lens recover made [] [] (s ∷ ss) x = absurd x
as_many lens recover made [] (p ∷ ps) ss x = absurd x
as_many lens recover made (w ∷ ws) [] ss x = absurd x
as_many lens recover made (w ∷ ws) (p ∷ ps) [] x = absurd x
as_many lens recover made (w ∷ ws) (p ∷ ps) (s ∷ ss) x = ap suc (as_many lens recover made ws ps ss x.1)

-- all of a list came in, where the first so many are all
all_in : {T : Type 0} (n : ℕ) (ts : List T) → take n ts ≡ ts → nat_lt n (length ts) ≡ false
all_in n ts whole = by (nat_lt n (length ts)) refl
  where
    by : (b : Bool) → nat_lt n (length ts) ≡ b → nat_lt n (length ts) ≡ false
    by false e = e
    by true e =
        let less = ltb-true n (length ts) e in
        let first = length-take-le n ts (omega (arith, less)) in
        let all = ap length whole in
        absurd (omega (arith, less, first, all))

-- ---- BY THE ROWS of a book

-- each is settled that wasn't given up for good
rows_settled : (lens : ℕ → Lens) (recover : ℕ) (as' : List Leads) (nodes : List (Node SlaveServer)) (notes : List Notes) → length notes ≡ length nodes → AllBoth (RestsSo lens) as' (slave_rows recover nodes notes) → AllSettled as' nodes
rows_settled lens recover [] [] notes same r = tt
rows_settled lens recover [] (node ∷ nodes) [] same r = absurd (omega (arith, same))
rows_settled lens recover [] (node ∷ nodes) (n ∷ notes) same r = absurd r
rows_settled lens recover (a ∷ as') [] notes same r = absurd r
rows_settled lens recover (a ∷ as') (node ∷ nodes) [] same r = absurd r
rows_settled lens recover (a ∷ as') (node ∷ nodes) (n ∷ notes) same r = (elim r.0 [ inl gone ↦ inl gone | inr rest ↦ inr rest.1 ], rows_settled lens recover as' nodes notes (omega (arith, same)) r.1)

-- and of the slaves of a run that rest the master of a serving wants nothing, where no mail is asked
one_out : (lens : ℕ → Lens) (w : Serves) (a : Leads) (row : SlaveBook) → IsQuiet w a → RestsSo lens a row → IsServedOut lens w
one_out lens w a row q (inl gone) = inl (ap (λ (z : Leads). z.lived.life.stand) q.lead ∙ gone)
one_out lens w a row q (inr rest) = inr (record { idle = subst (IsIdle lens) (sym q.lead) rest.0; waits = q.waits; over = none_passed w a q })

pub all_out : (lens : ℕ → Lens) (ws : List Serves) (as' : List Leads) (rows : List SlaveBook) → IsRunOf ws as' → AllBoth (RestsSo lens) as' rows → All (IsServedOut lens) ws
all_out lens [] [] rows q r = All-nil (IsServedOut lens)
all_out lens [] (a ∷ as') rows q r = absurd q
all_out lens (w ∷ ws) [] rows q r = absurd q
all_out lens (w ∷ ws) (a ∷ as') [] q r = absurd r
all_out lens (w ∷ ws) (a ∷ as') (row ∷ rows) q r = All-cons (IsServedOut lens) w ws (one_out lens w a row q.0 r.0) (all_out lens ws as' rows q.1 r.1)

-- ALL IS DONE where nothing is left
module _ (plan : Scenario) (s : SessionState) (fs : List Exchanged) (w : Serving plan s fs) (recover : s.recover ≡ plan.recover) (many : length s.notes ≡ length s.ring.nodes) (live : has_live s.master ≡ true) where
  abbrev lens : ℕ → Lens
  lens = lens_of plan.slaves

  abbrev m : MasterNode
  m = s.master

  abbrev ws : List Serves
  ws = w.leading.serves

  counted : AllCounted s.recover (map run_lead ws)
  counted = subst (λ (n : ℕ). AllCounted n (map run_lead ws)) (sym recover) (served_counted plan fs w.leading.missed ws w.leading.lives)

  some : list_any is_live_lead (map run_lead ws) ≡ true
  some = sym (live_some lens plan.recover (map run_lead ws) m.tour.stops.items (has_lives lens plan.recover plan.retry w.leading.missed (length fs) m ws w.leading.shows)) ∙ live

  module _ (es : List SwitchEvent) (events : events_of w.rows ≡ es) (none : LeavesNoPacket plan (map run_lead ws) es) where
    came : take m.lan.entered m.lan.host ≡ m.lan.host
    came = sym w.forwarded.happened.entered ∙ ap (λ z. arrivals_at 0 z) events ∙ none.host some ∙ sym w.forwarded.happened.own

    past : NonePast lens m.lan 0 (map run_lead ws)
    past = λ k is. subst (λ n. forwarded m.lan.switch m.lan.ports.items n ≡ []) (from_first k) (
        (λ i. forwarded (sym w.forwarded.happened.switch i) (w.forwarded.ports i) k)
        ∙ ap (λ (z : List SwitchEvent). forwarded (switched (ports_of plan.slaves) z).switch (ports_behind 0 plan.slaves) k) events ∙ none.slaves k is
        )
      where
        from_first : (n : ℕ) → n ≡ 0 + n
        from_first n = omega arith

    pub all_over : WereServedDue w.leading.lives → All (IsServedOut lens) ws → AllBoth (RestsSo lens) (map run_lead ws) (session_rows s) → IsDone s
    all_over due out rows =
        let many_stops : length (recalls m) ≡ length ws = length-map m.tour.stops.items (λ s. recall_of s) ∙ as_many lens plan.recover (length fs) ws m.posts.items m.tour.stops.items w.leading.shows.each in
        let rests : AllServedRest lens m.lan 0 (recalls m) ws = all_rest lens m.lan 0 (recalls m) ws many_stops (w.knows due) out past in
        record {
          idle = record { rest = λ k. serves_idle lens plan.recover (length fs) m.lan ws m.posts.items m.tour.stops.items w.leading.shows.each rests k; come = all_in m.lan.entered m.lan.host came };
          at_rest = settled_rest s.recover (map run_lead ws) s.ring.nodes s.notes (rows_settled lens s.recover (map run_lead ws) s.ring.nodes s.notes many rows) counted w.gave;
        }
