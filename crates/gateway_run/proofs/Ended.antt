-- A serving at its end.
use Rattle.std.proofs.Common.{◌≡◌, ℕ, ◌<◌, ◌≤◌, ◌⊎◌, [], ◌++◌, List, length, map, Bool, true, false, not, ◌&&◌, nat_lt, refl, sym, ap, ◌∙◌, subst, inl, inr, ltb-false, lt-ltb, arith}
use Rattle.std.specs.Prelude.{◌≢◌, All, Option, Result, Err, count_by, is_some}
use Rattle.slab.specs.Slab.{slab_len}
use Rattle.gateway_run.specs.declared.stop.Stop.{Stop}
use Rattle.gateway_run.specs.declared.stop.Stop.TheVariants as stops
use Rattle.std.proofs.lemmas.List.Elements.{All-nil}
use Rattle.gateway_core.specs.of_ec_outside.declared.port.SentGram.{SentGram}
use Rattle.run_record.specs.of_master_node.Happened.{HasHappened, events_of}
use Rattle.run_record.specs.of_master_node.Ports.{ports_behind, ports_of}
use Rattle.run_record.specs.of_master_node.Serving.{run_lead}
use Rattle.run_record.specs.of_frame_view.Shares.{AllBoth}
use Rattle.run_record.specs.of_life_runs.First.{lens_of}
use Rattle.run_record.specs.of_segment_plan.Sound.{IsPlan}
use Rattle.run_record.specs.of_segment_plan.Bound.{bound_of}
use Rattle.run_record.specs.of_segment_plan.declared.plan.Scenario.{Scenario}
use Rattle.run_record.specs.of_run_book.Book.{IsNew}
use Rattle.run_record.specs.of_run_book.declared.book.Book.{Book}
use Rattle.run_record.specs.of_run_book.declared.book.Ending.{Ending}
use Rattle.run_record.specs.of_run_book.declared.book.Ending.TheVariants as endings
use Rattle.run_record.specs.of_run_book.declared.book.GramIn.{GramIn}
use Rattle.run_record.specs.of_run_book.declared.book.GramOut.{GramOut}
use Rattle.run_record.specs.of_run_book.declared.book.SlaveBook.{SlaveBook}
use Rattle.run_record.specs.Mails.{passing_at, served_mails, served_overs}
use Rattle.run_record.specs.Led.{LeavesNone, exchanged}
use Rattle.run_record.specs.Served.{ServingBegins, ServingRests}
use Rattle.run_record.specs.Session.{are_at_rest, first_session, session_rows}
use Rattle.run_record.specs.Written.{forwards_now, served_written}
use Rattle.run_record.specs.of_eoe_switch.declared.switching.SwitchEvent.{SwitchEvent}
use Rattle.run_record.specs.of_packets_heard.Servings.{AreServedBegun, ServedListed, ServedNumbered, served_begun}
use Rattle.run_record.specs.of_run_notes.Epochs.{HasEpochs}
use Rattle.run_record.specs.of_run_notes.Handed.{AreForwarded, AreHanded}
use Rattle.run_record.specs.of_run_notes.Heard.{emergencies_in}
use Rattle.run_record.specs.of_run_notes.Packets.{AreMails, AreNumbered, begun_in, begun_noted}
use Rattle.run_record.specs.of_run_notes.Reports.{IsBooked}
use Rattle.run_record.specs.of_run_notes.Slaves.{home_of}
use Rattle.run_record.specs.of_run_notes.Switched.{SameSwitch}
use Rattle.run_record.specs.of_run_notes.Unsent.{IsSpent}
use Rattle.run_record.specs.Ran.{HasSent, EndsSo, StopsSo, StopsAs}
use Rattle.gateway_run.proofs.Room.{small_budget}
use Rattle.run_record.proofs.Underway.{begun, ended, many as many_sent}
use Rattle.run_record.proofs.MailNotes.{rows_forwarded, rows_handed}
use Rattle.run_record.proofs.of_run_notes.Heard.{heard_of_rows}
use Rattle.run_record.proofs.of_run_notes.Packets.{begun_of_rows}
use Rattle.run_record.proofs.of_run_notes.Reporting.{all_booked, all_epochs, all_spent}
use Rattle.run_record.proofs.of_run_notes.Switched.{has_packets}
use Rattle.gateway_run.specs.Heard.{heard_as, AreHeard, AreSent, AreSentBut, IsOwed, IsRightly, LacksLast}
use Rattle.gateway_run.specs.Account.{Course, Course.begins}
use Rattle.gateway_run.specs.Desk.{HasNone, IsOpen, AreApart}
use Rattle.gateway_run.specs.Mails.{HasMails}
use Rattle.gateway_run.specs.Replies.{Answers, dones_of}
use Rattle.gateway_run.specs.Serving.{Told, IsOn, IsServing, IsFaulted, Goes, LivesOn, can_hear, recent_of, since_of}
use Rattle.gateway_run.specs.Served.{HasGrams, HasAccount, HasWaited, IsBroken, IsPrompt, IsServed}
use Rattle.gateway_run.specs.declared.turn.Serving.{Serving}
use Rattle.gateway_run.proofs.Answering.{course_rowed}
use Rattle.gateway_run.proofs.Dones.{all_done, none_unfinished}
use Rattle.gateway_run.proofs.Mails.{book_late, book_mails}
use Rattle.gateway_run.proofs.Rested.{all_rest, no_packet, some_left}
use Rattle.gateway_run.proofs.Strays.{course_falls, course_strays}
use Rattle.gateway_run.proofs.Waits.{over_later}
use Rattle.gateway_run.proofs.Turns.{heard_none, sent_none, course_same, spelled_same}

-- before the first turn
pub first_serving : (plan : Scenario) (count : ℕ) (now : Told) (v : Serving) (b : Book) → v.session ≡ first_session plan count v.session.master → ServingBegins plan v.session → HasHappened (ports_of plan.slaves) plan.host [] v.session.master.lan → HasNone v.desk → v.desk.outbox.items ≡ [] → v.count ≡ count → v.over ≡ false → IsNew b → count < 4294967296 → IsPlan plan →
    IsServing plan count now now v b
first_serving plan count now v b session serves switch none outbox counts over new fits sound = let requests = none.0 in
    let c = course_same plan count v.session v.session [] b.frames [] b.grams [] v.desk.requests.items [] [] b.switch [] b.switched v.over v.over 0 0 refl new.frames new.grams requests new.switch new.switched (λ e. e) (begins v.session session serves, refl, refl, tt, refl, refl) in record {
      on = record {
        underway = begun plan count v.session b session new switch;
        counts = counts;
        few = let none = ap length new.grams in omega (arith, none);
        fits = fits;
        bounded = small_budget (bound_of plan count) plan.budget sound.laid.budget;
        is_plan = sound;
        sound = record {
          requests = subst (All (IsOpen v.desk.gateway (map heard_as b.grams))) (sym requests) (All-nil (IsOpen v.desk.gateway (map heard_as b.grams)));
          apart = subst AreApart (sym requests) tt;
          few = let n : slab_len v.desk.gateway ≡ 0 = ap (count_by is_some) none.1 in omega (arith, n);
          owed = subst (All (IsOwed (map heard_as b.grams))) (sym outbox) (All-nil (IsOwed (map heard_as b.grams)));
        };
        answered = subst (All (IsOwed (map heard_as b.grams))) (sym new.replies) (All-nil (IsOwed (map heard_as b.grams)));
        judged = subst (All (IsRightly (map home_of plan.slaves))) (sym new.grams) (All-nil (IsRightly (map home_of plan.slaves)));
        owed = [];
        course = c.0;
        switch = c.1;
        switched = c.2;
        waited = c.3;
        prompt = let n = ap length outbox in omega (arith, n);
        spelled = spelled_same (map heard_as b.grams) (map heard_as b.grams) [] [] (b.replies ++ v.desk.outbox.items) refl (ap (λ (l : List GramOut). l ++ v.desk.outbox.items) new.replies ∙ outbox) tt;
      };
      heard = subst (AreHeard now.heard now.heard) (sym new.grams) (heard_none now.heard);
      sent = subst (AreSent now.sent now.sent) (sym new.replies) (sent_none now.sent);
      over = λ e. absurd (cc);
      later = omega arith;
    }

-- nothing more can be heard
all_heard : (heard count : ℕ) (over : Bool) → (not over && nat_lt heard count) ≡ false → heard ≤ count → (heard ≡ count) ⊎ (over ≡ true)
all_heard heard count true shut few = inr refl
all_heard heard count false shut few = inl (let ge = ltb-false heard count shut in omega (arith, ge, few))

over_so : (heard count : ℕ) (over over' : Bool) → (over ≡ true → over' ≡ true) → (heard ≡ count) ⊎ (over ≡ true) → (heard ≡ count) ⊎ (over' ≡ true)
over_so heard count over over' told (inl all) = inl all
over_so heard count over over' told (inr is) = inr (told is)

-- a serving whose port failed or whose budget was spent may leave something
leaves_some : LeavesNone endings.PortFault → ⊥
leaves_some (inl e) = cc
leaves_some (inr e) = cc

spent_some : LeavesNone endings.BudgetSpent → ⊥
spent_some (inl e) = cc
spent_some (inr e) = cc

-- the same by a course that made as much owed
lacks_same : (old new : Option (List SentGram)) (replies : List GramOut) (besides heard heard' turned turned' : ℕ) → heard' ≡ heard → turned' ≡ turned → LacksLast old new replies besides heard turned → LacksLast old new replies besides heard' turned'
lacks_same old new replies besides heard heard' turned turned' since last (inl few) = inl (few.0, let least = few.1 in omega (arith, since, least))
lacks_same old new replies besides heard heard' turned turned' since last (inr less) = inr (omega (arith, last, less))

module _ (plan : Scenario) (count : ℕ) (first now : Told) (v : Serving) (b b' : Book) (some : 0 < count) (on : IsOn plan count v b) (heard : AreHeard first.heard now.heard b.grams) (stays : v.over ≡ true → now.over ≡ true)
    (frames : b'.frames ≡ b.frames) (kept : SameSwitch b b') (grams : b'.grams ≡ b.grams) (replies : b'.replies ≡ b.replies) (serving : b'.serving ≡ v.session.serving) (many : length v.session.notes ≡ length v.session.ring.nodes) where
  has_grams : HasGrams plan count first now b'
  has_grams = record {
    serving = serving ∙ on.underway.serves ∙ lt-ltb 0 count some;
    heard = subst (AreHeard first.heard now.heard) (sym grams) heard;
    few = subst (λ (l : List GramIn). length l ≤ count) (sym grams) on.few;
    answered = subst (λ (l : List GramIn). All (IsOwed (map heard_as l)) b'.replies) (sym grams) (subst (All (IsOwed (map heard_as b.grams))) (sym replies) on.answered);
    judged = subst (All (IsRightly (map home_of plan.slaves))) (sym grams) on.judged;
  }

  stops_as : (ending : Ending) → b'.slaves ≡ session_rows v.session → StopsSo v.session ending → StopsAs plan count b' ending
  stops_as ending rows so = ended plan count v.session b b' on.underway frames kept rows many ending so

  has_account : (ending : Ending) → b'.slaves ≡ session_rows v.session → (ending ≢ endings.PortFault → v.desk.outbox.items ≡ []) → (LeavesNone ending → ServingRests v.session × (are_at_rest (session_rows v.session) ≡ true)) → (ending ≡ endings.BudgetSpent → LivesOn v.session) →
      LacksLast first.sent now.sent b'.replies (length v.desk.outbox.items) (length (since_of on)) (length (recent_of on)) → (account : HasAccount plan count b' ending) × HasWaited now account × IsPrompt first now account
  has_account ending rows all rests lives prompt =
      let same = course_same plan count v.session v.session b.frames b'.frames b.grams b'.grams v.desk.requests.items v.desk.requests.items on.owed b.switch b'.switch b.switched b'.switched v.over now.over (length (since_of on)) (length (recent_of on)) refl frames grams refl kept.switch kept.switched (over_later v.over now.over stays) (on.course, on.switch, on.switched, on.waited, refl, refl) in
      let course' : Course plan count v.session b'.frames b'.grams v.desk.requests.items on.owed = same.0 in
      let rowed = course_rowed plan count on.is_plan v.session b'.frames b'.grams v.desk.requests.items on.owed course' in
      let answers' : Answers plan v.session (map exchanged b'.frames) b'.grams v.desk.requests.items on.owed (dones_of plan count v.session b'.frames b'.grams v.desk.requests.items on.owed course') = rowed.0 in
      let booked : events_of answers'.serving.rows ≡ b'.switch = rowed.1 ∙ same.1 in
      let numbered' : answers'.serving.numbers ≡ b'.switched = rowed.2 ∙ same.2 in
      let reported' : AllBoth IsBooked (map run_lead answers'.serving.leading.serves) b'.slaves =
      subst (λ (rs : List SlaveBook). AllBoth IsBooked (map run_lead answers'.serving.leading.serves) rs) (sym rows) (all_booked v.session.recover (map run_lead answers'.serving.leading.serves) v.session.ring.nodes v.session.notes many answers'.serving.told) in
      let noted : begun_in b'.slaves ≡ begun_noted v.session.notes = ap begun_in rows ∙ begun_of_rows v.session.recover v.session.ring.nodes v.session.notes many in
      let mails' : AreMails (λ k. served_mails answers'.serving.leading.lives k) (begun_in b'.slaves) = subst (λ z. AreMails (λ k. served_mails answers'.serving.leading.lives k) z) (sym noted) answers'.serving.packets.mailed in
      let acts' : AllBoth HasMails answers'.serving.leading.serves b'.slaves =
      book_mails plan (map exchanged b'.frames) answers'.serving.leading.missed answers'.serving.leading.serves answers'.serving.leading.lives b'.slaves reported' mails' in (
        record {
          session = v.session;
          requests = v.desk.requests.items;
          owed = on.owed;
          later = v.desk.outbox.items;
          course = course';
          spelled = spelled_same (map heard_as b.grams) (map heard_as b'.grams) on.owed (b.replies ++ v.desk.outbox.items) (b'.replies ++ v.desk.outbox.items) (ap (map heard_as) grams) (ap (λ (l : List GramOut). l ++ v.desk.outbox.items) replies) on.spelled;
          answers = answers';
          none = λ none. none_unfinished plan count v b on (rests none).0;
          done = λ none. all_done plan v.session (map exchanged b'.frames) b'.grams v.desk.requests.items on.owed (dones_of plan count v.session b'.frames b'.grams v.desk.requests.items on.owed course') answers' (none_unfinished plan count v b on (rests none).0);
          rows = rows;
          reported = reported';
          unsent = subst (λ (rs : List SlaveBook). AllBoth IsSpent (map run_lead answers'.serving.leading.serves) rs) (sym rows) (all_spent v.session.recover (map run_lead answers'.serving.leading.serves) v.session.ring.nodes v.session.notes many answers'.serving.told);
          epochs = subst (λ (rs : List SlaveBook). AllBoth HasEpochs (map run_lead answers'.serving.leading.serves) rs) (sym rows) (all_epochs v.session.recover (map run_lead answers'.serving.leading.serves) v.session.ring.nodes v.session.notes many answers'.serving.told);
          heard = ap emergencies_in rows ∙ heard_of_rows v.session.recover v.session.ring.nodes v.session.notes many ∙ answers'.serving.heard;
          listed = subst (λ (es : List SwitchEvent). ServedListed (ports_behind 0 plan.slaves) answers'.serving.leading.lives es) booked answers'.serving.forwarded.listed;
          begun = subst (λ (es : List SwitchEvent). AreServedBegun (ports_behind 0 plan.slaves) (ports_of plan.slaves) answers'.serving.leading.lives es) booked answers'.serving.forwarded.begun;
          numbered = subst (λ (ns : List ℕ). ServedNumbered (ports_behind 0 plan.slaves) (ports_of plan.slaves) answers'.serving.leading.lives b'.switch ns) numbered'
              (subst (λ (es : List SwitchEvent). ServedNumbered (ports_behind 0 plan.slaves) (ports_of plan.slaves) answers'.serving.leading.lives es answers'.serving.numbers) booked answers'.serving.numbered);
          forwards = subst (λ z. AreNumbered (λ k. served_begun answers'.serving.leading.lives k) z) (sym noted) answers'.serving.packets.rows;
          mails = mails';
          acts = acts';
          late = book_late b'.grams v.desk.requests.items on.owed 0 answers'.serving.leading.serves answers'.came b'.slaves answers'.desk acts';
          handed = subst (λ (rs : List SlaveBook). AreHanded (λ k. served_overs answers'.serving.leading.lives k) rs) (sym rows)
              (rows_handed v.session.recover v.session.ring.nodes v.session.notes (map run_lead answers'.serving.leading.serves) (λ k. served_overs answers'.serving.leading.lives k) (λ k. passing_at answers'.serving.leading.serves k) answers'.serving.told answers'.serving.handed);
          written = λ due. subst (λ (rs : List SlaveBook). AreForwarded (λ k. served_written answers'.serving.leading.lives k) rs) (sym rows)
              (rows_forwarded v.session.recover v.session.ring.nodes v.session.notes (map run_lead answers'.serving.leading.serves) (λ k. served_written answers'.serving.leading.lives k) (λ k. forwards_now (lens_of plan.slaves) (map run_lead answers'.serving.leading.serves) k) answers'.serving.told
              (answers'.serving.written due));
          rests = λ none. all_rest plan count v.session b b' on.underway answers'.serving (rests none).0 rows many (rests none).1;
          packets = has_packets plan v.session.ports v.session.ring.number v.session.master.lan b b' on.underway.ports (sym (ap length frames ∙ many_sent plan count v.session b on.underway)) kept on.underway.switched;
          come = λ none. no_packet plan count v.session b b' on.underway answers'.serving (rests none).0 kept;
          left = λ spent due none. some_left plan v.session b' answers'.serving on.underway.recover many (lives spent) rows booked due none;
          steady = course_falls plan count on.is_plan v.session b'.frames b'.grams v.desk.requests.items on.owed course';
          stray = course_strays plan count on.is_plan v.session b'.frames b'.grams v.desk.requests.items on.owed course' b'.slaves rows;
          all = all;
        },
        same.3,
        lacks_same first.sent now.sent b'.replies (length v.desk.outbox.items) (length (since_of on)) _ (length (recent_of on)) _ same.4 same.5 prompt,
      )

  -- a serving whose port failed
  faulted_so : (result : Ending) → (result ≢ endings.NoMemory → b'.slaves ≡ session_rows v.session) → (result ≡ endings.PortFault) ⊎ (result ≡ endings.NoMemory) → IsBroken first now b' →
      LacksLast first.sent now.sent b'.replies (length v.desk.outbox.items) (length (since_of on)) (length (recent_of on)) → IsServed plan count first now b' result
  faulted_so result rows (inl is) broken prompt =
      let apart : result ≢ endings.NoMemory = λ e. absurd (cc) in
      let a = has_account endings.PortFault (rows apart) (λ other. absurd (other refl)) (λ none. absurd (leaves_some none)) (λ spent. absurd (cc)) prompt in
      subst (IsServed plan count first now b') (sym is) (stops_as endings.PortFault (rows apart) tt, has_grams, broken, a.0, a.1, a.2)
  faulted_so result rows (inr is) broken prompt = subst (IsServed plan count first now b') (sym is) tt

  -- a serving that came to its end
  through_so : (ending result : Ending) → (result ≢ endings.NoMemory → b'.slaves ≡ session_rows v.session) → (result ≡ ending) ⊎ (result ≡ endings.NoMemory) → EndsSo v.session ending → (ending ≢ endings.BudgetSpent → (length b'.grams ≡ count) ⊎ (now.over ≡ true)) →
      (ending ≢ endings.BudgetSpent → ServingRests v.session) → (ending ≡ endings.BudgetSpent → LivesOn v.session) → v.desk.outbox.items ≡ [] → AreSent first.sent now.sent b'.replies → IsServed plan count first now b' result
  through_so ending result rows (inr is) so over rests lives empty sent = subst (IsServed plan count first now b') (sym is) tt
  through_so endings.Done result rows (inl is) so over rests lives empty sent =
      let apart : result ≢ endings.NoMemory = λ e. absurd (cc) in
      let a = has_account endings.Done (rows apart) (λ other. empty) (λ none. (rests (λ e. absurd (cc)), so.0)) (λ spent. absurd (cc)) (inl (sent, let n = ap length empty in omega (arith, n))) in
      subst (IsServed plan count first now b') (sym is) (stops_as endings.Done (rows apart) so, has_grams, record { over = over (λ e. absurd (cc)); sent = sent }, a.0, a.1, a.2)
  through_so endings.GivenUp result rows (inl is) so over rests lives empty sent =
      let apart : result ≢ endings.NoMemory = λ e. absurd (cc) in
      let a = has_account endings.GivenUp (rows apart) (λ other. empty) (λ none. (rests (λ e. absurd (cc)), so.0)) (λ spent. absurd (cc)) (inl (sent, let n = ap length empty in omega (arith, n))) in
      subst (IsServed plan count first now b') (sym is) (stops_as endings.GivenUp (rows apart) so, has_grams, record { over = over (λ e. absurd (cc)); sent = sent }, a.0, a.1, a.2)
  through_so endings.BudgetSpent result rows (inl is) so over rests lives empty sent =
      let apart : result ≢ endings.NoMemory = λ e. absurd (cc) in
      let a = has_account endings.BudgetSpent (rows apart) (λ other. empty) (λ none. absurd (spent_some none)) lives (inl (sent, let n = ap length empty in omega (arith, n))) in
      subst (IsServed plan count first now b') (sym is) (stops_as endings.BudgetSpent (rows apart) so, has_grams, sent, a.0, a.1, a.2)
  through_so endings.PortFault result rows (inl is) so over rests lives empty sent = absurd so
  through_so endings.NoMemory result rows (inl is) so over rests lives empty sent = absurd so
  through_so endings.Unfinished result rows (inl is) so over rests lives empty sent = absurd so

-- what a serving that ended leaves
pub served : (plan : Scenario) (count : ℕ) (first now : Told) (v : Serving) (b b' : Book) (ending result : Ending) → 0 < count → IsServing plan count first now v b → b'.frames ≡ b.frames → SameSwitch b b' → b'.grams ≡ b.grams → b'.replies ≡ b.replies →
    b'.serving ≡ v.session.serving → length v.session.notes ≡ length v.session.ring.nodes → (result ≢ endings.NoMemory → b'.slaves ≡ session_rows v.session) → (result ≡ ending) ⊎ (result ≡ endings.NoMemory) → EndsSo v.session ending →
    (ending ≢ endings.BudgetSpent → can_hear v b ≡ false) → (ending ≢ endings.BudgetSpent → ServingRests v.session) → (ending ≡ endings.BudgetSpent → LivesOn v.session) → v.desk.outbox.items ≡ [] → IsServed plan count first now b' result
served plan count first now v b b' ending result some h frames kept grams replies serving many rows is so whole rests lives empty =
    through_so plan count first now v b b' some h.on h.heard h.over frames kept grams replies serving many ending result rows is so
    (λ apart.
    let counts = h.on.counts in
    let few = h.on.few in
    let same = ap length grams in
    over_so (length b'.grams) count v.over now.over h.over (all_heard (length b'.grams) count v.over
    (subst (λ (n : ℕ). (not v.over && nat_lt n count) ≡ false) (sym same) (subst (λ (n : ℕ). (not v.over && nat_lt (length b.grams) n) ≡ false) counts (whole apart))) (omega (arith, same, few))))
    rests
    lives
    empty
    (subst (AreSent first.sent now.sent) (sym replies) h.sent)

-- what one leaves whose port failed
pub faulted : (plan : Scenario) (count : ℕ) (first now : Told) (v : Serving) (b b' : Book) (result : Ending) → 0 < count → IsFaulted plan count first now v b → b'.frames ≡ b.frames → SameSwitch b b' → b'.grams ≡ b.grams → b'.replies ≡ b.replies →
    b'.serving ≡ v.session.serving → length v.session.notes ≡ length v.session.ring.nodes → (result ≢ endings.NoMemory → b'.slaves ≡ session_rows v.session) → (result ≡ endings.PortFault) ⊎ (result ≡ endings.NoMemory) → IsServed plan count first now b' result
faulted plan count first now v b b' result some h frames kept grams replies serving many rows is =
    faulted_so plan count first now v b b' some h.on h.heard h.over frames kept grams replies serving many result rows is
    (record { rose = h.rose; sent = subst (AreSentBut first.sent now.sent) (sym replies) h.sent })
    (elim h.prompt [ inl few ↦ inl (subst (AreSent first.sent now.sent) (sym replies) few.0, few.1) | inr less ↦ inr less ])

-- the port failed, or memory ran out
pub fault_of : (plan : Scenario) (count : ℕ) (first now : Told) (v : Serving) (b : Book) (r : Result Ending Stop) → r ≡ Err stops.PortFault → Goes plan count first now v b r → IsFaulted plan count first now v b
fault_of plan count first now v b r is g = subst (Goes plan count first now v b) is g

pub cut_of : (plan : Scenario) (count : ℕ) (first now : Told) (v : Serving) (b : Book) (r : Result Ending Stop) → r ≡ Err stops.NoMemory → Goes plan count first now v b r → HasSent plan count b
cut_of plan count first now v b r is g = subst (Goes plan count first now v b) is g
