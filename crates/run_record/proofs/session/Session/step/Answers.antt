use Rattle.std.proofs.Common.{◌≡◌, ◌<◌, ◌^◌, refl, sym, ℕ, suc, List, ◌+◌, ◌++◌, ◌∷◌, [], length, vec_len, ap, ◌∙◌, subst, arith}
use Rattle.arrayvec.specs.ArrayVec.{ArrayVec}
use Rattle.served_places.specs.of_segment_ring.Ring.{RingState}
use Rattle.packets_heard.specs.of_slave_node.Node.{Node}
use Rattle.packets_heard.specs.of_slave_server.declared.server.SlaveServer.{SlaveServer}
use Rattle.run_notes.specs.of_run_book.declared.book.SentFrame.{SentFrame}
use Rattle.packets_heard.specs.of_master_node.Happened.{events_of}
use Rattle.packets_heard.specs.of_master_node.Listing.{events_in}
use Rattle.packets_heard.specs.of_master_node.declared.event.Event.{Event}
use Rattle.run_record.specs.Led.{exchanged}
use Rattle.run_record.proofs.Nexts.{next_led}
use Rattle.run_record.proofs.Servings.{serving_on}
use Rattle.run_record.specs.Replay.{behind, IsRecorded}
use Rattle.run_record.specs.Session.{FrameEvents, IsGrown, LedOn, SessionState}
use Rattle.run_notes.specs.Heard.{HeardBy}
use Rattle.run_notes.specs.Packets.{BeginsOn}
use Rattle.run_notes.specs.Reports.{ReportsBy, ReportsOn, TurnsAll}
use Rattle.run_notes.specs.Slaves.{GaveBy, SameFrames, KeepsRest}
use Rattle.run_notes.proofs.Kept.{rest_more}
use Rattle.run_notes.specs.Switched.{IsSwitched, NotesSwitch}
use Rattle.run_notes.specs.Times.{IsTimedBy, between}
use Rattle.run_notes.proofs.Timings.{times_step}
use Rattle.run_record.proofs.Numbered.{numbers_grown}
use Rattle.run_notes.proofs.Switched.{switched_step, switch_grown}
use Rattle.std.proofs.lemmas.Result.{on_ok_weaker}
use Rattle.run_record.proofs.Steps.{holds_on, no_frame, one_frame}
use Rattle.run_notes.specs.Handed.{MailsGo, kinds_in}
use Rattle.run_notes.proofs.Ways.{any_err, on_ok_both}
use Rattle.run_record.proofs.session.Session.step.Goals as goal

pub invariant_of-self-in_err-put_frame : goal.invariant_of-self-in_err-put_frame
invariant_of-self-in_err-put_frame c =
    let n : c.self.inside.ring.number ≡ c.args.self.now.ring.number = ap (λ (s : SessionState). s.ring.number) c.self.view_is in
    let b : c.self.inside.budget ≡ c.args.self.now.budget = ap (λ (s : SessionState). s.budget) c.self.view_is in
    let h = c.requires in
    holds_on c.self.inside.number c.self.inside.budget c.self.inside.log.notes c.note_before.new.self.notes c.self.inside.ring c.exchange-fate.new.self c.next.new.into.items (length c.self.inside.log.homes) (length c.self.inside.log.asked) (vec_len c.self.inside.master.posts) (length c.note_before.new.self.homes) (length c.note_before.new.self.asked) (vec_len c.next.new.self.posts)
    c.self.invariant (omega (arith, n, b, h)) c.note_before.ensures.slaves.notes c.exchange-fate.ensures.wire (ap length c.note_before.ensures.slaves.homes) (ap length c.note_before.ensures.slaves.asked) c.next.ensures.posts

pub returns-in_err-put_frame-clause-err : goal.returns-in_err-put_frame-clause-err
returns-in_err-put_frame-clause-err c =
    let ports : 1 + length c.self.inside.log.ports ≡ c.args.self.now.ports = ap (λ (s : SessionState). s.ports) c.self.view_is in
    any_err c.from_residual-in_err-put_frame.result
    (no_frame c.args.self.now (1 + length c.self.inside.log.ports) c.args.book.now c.note_before.new.book c.put_frame.new.book ports c.note_before.ensures.frames
    c.in_err-put_frame.ensures.err (c.put_frame.ensures.rest (1 + length c.self.inside.log.ports)))

pub invariant_of-self-2 : goal.invariant_of-self-2
invariant_of-self-2 c =
    let n : c.self.inside.ring.number ≡ c.args.self.now.ring.number = ap (λ (s : SessionState). s.ring.number) c.self.view_is in
    let b : c.self.inside.budget ≡ c.args.self.now.budget = ap (λ (s : SessionState). s.budget) c.self.view_is in
    let h = c.requires in
    holds_on c.self.inside.number c.self.inside.budget c.self.inside.log.notes c.note_behind.new.self.notes c.self.inside.ring c.exchange-fate.new.self c.next.new.into.items (length c.self.inside.log.homes) (length c.self.inside.log.asked) (vec_len c.self.inside.master.posts) (length c.note_behind.new.self.homes) (length c.note_behind.new.self.asked) (vec_len c.tell.new.master.posts)
    c.self.invariant (omega (arith, n, b, h)) (c.note_behind.ensures.slaves.notes ∙ c.note_before.ensures.slaves.notes) c.exchange-fate.ensures.wire (ap length (c.note_behind.ensures.slaves.homes ∙ c.note_before.ensures.slaves.homes)) (ap length (c.note_behind.ensures.slaves.asked ∙ c.note_before.ensures.slaves.asked)) (c.tell.ensures.posts ∙ c.next.ensures.posts)

pub returns-clause-ok : goal.returns-clause-ok
returns-clause-ok c =
    let f : SentFrame = record { sent = c.next.new.into.items; fate = c.exchange-fate.result; back = c.exchange-fate.new.back.items } in
    let happened : FrameEvents = record { making = events_of c.next.new.self.lan.happened; behind = events_of c.tell.new.master.lan.happened } in
    let ports = 1 + length c.self.inside.log.ports in
    let before : ports ≡ c.args.self.now.ports = ap (λ (s : SessionState). s.ports) c.self.view_is in
    let ring : c.self.inside.ring ≡ c.args.self.now.ring = ap (λ (s : SessionState). s.ring) c.self.view_is in
    let same : 1 + length c.note_before.new.self.ports ≡ ports = ap (λ (l : List ℕ). 1 + length l) c.note_before.ensures.slaves.ports in
    on_ok_weaker c.note_behind.result
    (λ noted.
    let both = noted.0 in
    let notes : NotesSwitch ports (c.self.inside.number + 1) c.tell.new.master.lan.happened c.put_frame.new.book c.note_behind.new.book =
    subst (λ (n : ℕ). NotesSwitch n (c.self.inside.number + 1) c.tell.new.master.lan.happened c.put_frame.new.book c.note_behind.new.book) same both.1.1.1.0 in
    let here : (host : List (ArrayVec ℕ)) → IsSwitched c.args.self.now.ports host c.args.self.now.ring.number c.args.self.now.master.lan c.args.book.now → IsSwitched ports host c.self.inside.number c.self.inside.master.lan c.args.book.now =
    λ host x. subst (λ (n : ℕ). IsSwitched ports host n c.self.inside.master.lan c.args.book.now) (sym c.self.invariant.0) (subst (λ (s : SessionState). IsSwitched s.ports host s.ring.number s.master.lan c.args.book.now) (sym c.self.view_is) x) in
    let grown : (host : List (ArrayVec ℕ)) → IsSwitched ports host c.self.inside.number c.self.inside.master.lan c.args.book.now → IsGrown c.self.inside.number happened c.args.book.now c.note_behind.new.book =
    λ host now.
    record {
      switch = switch_grown ports host c.self.inside.number c.self.inside.master.lan c.next.new.self.lan c.tell.new.master.lan c.args.book.now c.note_before.new.book c.put_frame.new.book c.note_behind.new.book
          c.next.ensures.happened c.in_ok-note_before.ensures.switch c.put_frame.ensures.switch c.tell.ensures.happened notes now;
      switched = numbers_grown ports host c.self.inside.number c.self.inside.master.lan c.next.new.self.lan c.tell.new.master.lan c.args.book.now c.note_before.new.book c.put_frame.new.book c.note_behind.new.book
          c.next.ensures.happened c.in_ok-note_before.ensures.switch c.put_frame.ensures.switch c.tell.ensures.happened notes now;
    } in (
      f,
      record {
        put = c.note_behind.ensures.frames.frames ∙ c.in_ok-put_frame.ensures.ok ∙ ap (λ fs. fs ++ f ∷ []) c.note_before.ensures.frames.frames;
        recorded = subst (λ r. IsRecorded r f) ring (record { fate = c.exchange-fate.ensures.fate; back = c.exchange-fate.ensures.back });
        short = record { sent = c.put_frame.ensures.sent_fits; back = c.put_frame.ensures.back_fits };
        ring = c.exchange-fate.ensures.wire ∙ ap (λ (r : RingState (Node SlaveServer)). behind r c.next.new.into.items) ring;
        homes = c.note_behind.ensures.slaves.homes ∙ c.note_before.ensures.slaves.homes ∙ ap (λ (s : SessionState). s.homes) c.self.view_is;
        asked = c.note_behind.ensures.slaves.asked ∙ c.note_before.ensures.slaves.asked ∙ ap (λ (s : SessionState). s.asked) c.self.view_is;
        ports = ap (λ (l : List ℕ). 1 + length l) c.note_behind.ensures.slaves.ports ∙ same ∙ before;
        at_ports = c.note_behind.ensures.slaves.ports ∙ c.note_before.ensures.slaves.ports ∙ ap (λ (s : SessionState). s.at_ports) c.self.view_is;
        recover = c.note_behind.ensures.slaves.recover ∙ c.note_before.ensures.slaves.recover ∙ ap (λ (s : SessionState). s.recover) c.self.view_is;
        budget = ap (λ (s : SessionState). s.budget) c.self.view_is;
        serving = ap (λ (s : SessionState). s.serving) c.self.view_is;
        rest = subst (λ (n : ℕ). KeepsRest n c.args.book.now c.note_behind.new.book) before
            (rest_more ports c.note_before.ensures.frames.rest (rest_more ports (c.put_frame.ensures.rest ports) (subst (λ (n : ℕ). KeepsRest n c.put_frame.new.book c.note_behind.new.book) same c.note_behind.ensures.frames.rest)));
        switch = λ host x.
            let number = c.self.invariant.0 in
            let next : c.exchange-fate.new.self.number ≡ suc c.self.inside.ring.number = ap (λ (r : RingState (Node SlaveServer)). r.number) c.exchange-fate.ensures.wire in
            let after : c.self.inside.number + 1 ≡ c.exchange-fate.new.self.number = omega (arith, number, next) in
            let last : 1 + length c.note_behind.new.self.ports ≡ ports = ap (λ (l : List ℕ). 1 + length l) c.note_behind.ensures.slaves.ports ∙ same in
            subst (λ (n : ℕ). IsSwitched n host c.exchange-fate.new.self.number c.tell.new.master.lan c.note_behind.new.book) (sym last)
            (subst (λ (n : ℕ). IsSwitched ports host n c.tell.new.master.lan c.note_behind.new.book) after
            (switched_step ports host c.self.inside.number c.self.inside.master.lan c.next.new.self.lan c.tell.new.master.lan c.args.book.now c.note_before.new.book c.put_frame.new.book c.note_behind.new.book
            c.next.ensures.happened c.in_ok-note_before.ensures.switch c.put_frame.ensures.switch c.tell.ensures.happened notes (here host x)));
        timed = λ x.
            let number = c.self.invariant.0 in
            let next : c.exchange-fate.new.self.number ≡ suc c.self.inside.ring.number = ap (λ (r : RingState (Node SlaveServer)). r.number) c.exchange-fate.ensures.wire in
            let old = subst (λ (s : SessionState). IsTimedBy (between s.ring.number) s.at_ports c.args.book.now s.notes) (sym c.self.view_is) x in
            subst (λ (n : ℕ). IsTimedBy (between n) c.note_behind.new.self.ports c.note_behind.new.book c.note_behind.new.self.notes) (omega (arith, number, next))
            (times_step c.self.inside.number c.next.new.self.lan.happened c.tell.new.master.lan.happened c.self.inside.log c.note_before.new.self c.note_behind.new.self c.args.book.now c.note_before.new.book c.put_frame.new.book c.note_behind.new.book
            c.note_before.ensures.slaves c.note_behind.ensures.slaves c.next.ensures.made.1 c.put_frame.ensures.switch c.in_ok-note_before.ensures.time noted.1
            (subst (λ (n : ℕ). IsTimedBy (between n) c.self.inside.log.ports c.args.book.now c.self.inside.log.notes) (sym number) old));
      },
      (
        happened,
        λ host x. subst (λ (n : ℕ). IsGrown n happened c.args.book.now c.note_behind.new.book) (c.self.invariant.0 ∙ ap (λ (s : SessionState). s.ring.number) c.self.view_is) (grown host (here host x)),
        serving_on _ _ _ c.next.new.self f c.next.result c.self.view_is c.next.ensures.idle c.next.ensures.services (λ lens recover retry missed made vs under back. c.tell.ensures.served lens recover retry missed made vs (exchanged f) refl refl under back)
            (λ lens recover as' h. c.tell.ensures.toured lens recover as' h)
            (record {
              joins = c.next.ensures.joins;
              making = c.next.ensures.made;
              makes = c.next.ensures.happened;
              tells = c.tell.ensures.happened;
              joined = λ lens recover retry missed made vs js under back h. c.tell.ensures.joins lens recover retry missed made vs js (exchanged f) refl refl under back h;
              arrivals = λ pass lens recover us js way back h. c.tell.ensures.arrivals pass lens recover c.next.new.into.items us js way back h;
              brought = λ pass lens recover us way back. c.tell.ensures.brought pass lens recover c.next.new.into.items us way back;
              remembers = λ pass lens recover retry missed made vs under back asks. c.tell.ensures.remembers pass lens recover retry missed made vs (exchanged f) refl refl under back asks;
              stays = λ after lost lens recover retry missed made vs under. c.tell.ensures.stays after lost lens recover retry missed made vs (exchanged f) under;
              leaves = λ after lost lens recover retry missed made vs under. c.tell.ensures.leaves after lost lens recover retry missed made vs (exchanged f) refl under;
              counts = c.tell.ensures.counts;
            })
            (c.tell.ensures.whole ∙ ap (λ (es : List Event). es ++ events_in c.tell.new.master) c.next.ensures.whole.1) (c.tell.ensures.told c.next.ensures.few) (c.tell.ensures.lists c.next.ensures.few)
            (record { fate = c.exchange-fate.ensures.fate; back = c.exchange-fate.ensures.back }) (let n = c.self.invariant.0 in let b = c.self.invariant.1 in let most = c.self.invariant.2 in omega (arith, n, b, most))
            (c.note_behind.ensures.slaves.asked ∙ c.note_before.ensures.slaves.asked) refl
            c.note_before.new.self c.note_behind.new.self c.note_before.ensures.slaves.recover c.in_ok-note_before.ensures.gave refl
            (subst (λ (n : ℕ). GaveBy f.fate n c.tell.new.master c.note_before.new.self c.note_behind.new.self) c.self.invariant.0 both.0)
            (subst (λ (n : ℕ). TurnsAll n c.next.new.self (ReportsOn c.self.inside.log.notes c.note_before.new.self.notes)) c.self.invariant.0 c.in_ok-note_before.ensures.told)
            (subst (λ (n : ℕ). ReportsBy f.fate n c.tell.new.master c.note_before.new.self c.note_behind.new.self) c.self.invariant.0 both.1.0)
            c.in_ok-note_before.ensures.heard (subst (λ (n : ℕ). HeardBy f.fate n c.tell.new.master c.note_before.new.self c.note_behind.new.self) c.self.invariant.0 both.1.1.0)
            (subst (λ (n : ℕ). TurnsAll n c.next.new.self (BeginsOn n c.next.new.self c.self.inside.log.notes c.note_before.new.self.notes)) c.self.invariant.0 c.in_ok-note_before.ensures.begun) both.1.1.1.1.0 c.note_before.ensures.slaves.notes
            c.in_ok-note_before.ensures.doubts (subst (λ (n : ℕ). MailsGo n (λ k. kinds_in k (events_in c.tell.new.master)) c.note_before.new.self.notes c.note_behind.new.self.notes) c.self.invariant.0 both.1.1.1.1.1)
            c.exchange-fate.ensures.wire,
      ),
    ))
    (on_ok_both _ _ c.note_behind.result
    (on_ok_both _ _ c.note_behind.result c.note_behind.ensures.gave (on_ok_both _ _ c.note_behind.result c.note_behind.ensures.told (on_ok_both _ _ c.note_behind.result c.note_behind.ensures.heard (on_ok_both _ _ c.note_behind.result c.note_behind.ensures.switch (on_ok_both _ _ c.note_behind.result c.note_behind.ensures.rows c.note_behind.ensures.mails)))))
    c.note_behind.ensures.time)

pub returns-clause-err : goal.returns-clause-err
returns-clause-err c =
    let f : SentFrame = record { sent = c.next.new.into.items; fate = c.exchange-fate.result; back = c.exchange-fate.new.back.items } in
    let ports = 1 + length c.self.inside.log.ports in
    let before : ports ≡ c.args.self.now.ports = ap (λ (s : SessionState). s.ports) c.self.view_is in
    let ring : c.self.inside.ring ≡ c.args.self.now.ring = ap (λ (s : SessionState). s.ring) c.self.view_is in
    let same : 1 + length c.note_before.new.self.ports ≡ ports = ap (λ (l : List ℕ). 1 + length l) c.note_before.ensures.slaves.ports in
    any_err c.note_behind.result
    (one_frame c.args.self.now ports c.args.book.now c.note_before.new.book c.put_frame.new.book c.note_behind.new.book f before c.note_before.ensures.frames c.in_ok-put_frame.ensures.ok
    (c.put_frame.ensures.rest ports) (subst (λ (n : ℕ). SameFrames n c.put_frame.new.book c.note_behind.new.book) same c.note_behind.ensures.frames)
    (subst (λ r. IsRecorded r f) ring (record { fate = c.exchange-fate.ensures.fate; back = c.exchange-fate.ensures.back }))
    (record { sent = c.put_frame.ensures.sent_fits; back = c.put_frame.ensures.back_fits })
    (subst (λ (s : SessionState). LedOn s f) c.self.view_is (λ plan fs number live l.
    let few : suc (length fs) < 2 ^ 32 = (let n = c.self.invariant.0 in let b = c.self.invariant.1 in let most = c.self.invariant.2 in omega (arith, number, n, b, most)) in
    next_led c.self.inside.master c.next.new.self (exchanged f) c.next.result c.next.ensures.idle c.next.ensures.services plan fs few live l)))
