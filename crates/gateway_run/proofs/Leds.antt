-- THE FRAMES OF A COURSE LEAD its session, from the plan's new lives on, with the mails that were asked.
use Rattle.std.proofs.Common.{◌≡◌, ℕ, suc, Bool, true, false, Option, Some, List, [], ◌∷◌, ◌++◌, map, length, length-append, refl, sym, ap, ◌∙◌, subst, arith}
use Rattle.std.specs.Bool.{OnFalse}
use Rattle.std.specs.Prelude.{All, slice_get}
use Rattle.std.proofs.lemmas.Bool.{OnFalse_at, OnFalse_from}
use Rattle.std.proofs.lemmas.List.{map-append}
use Rattle.std.proofs.lemmas.List.Elements.{All-weaker}
use Rattle.run_record.specs.of_life_runs.Served.{Serves}
use Rattle.run_record.specs.of_life_runs.First.{lens_of}
use Rattle.run_record.specs.of_life_runs.Led.{Exchanged, gives_up_at}
use Rattle.run_record.specs.of_run_book.declared.book.Book.{Book}
use Rattle.run_record.specs.of_run_book.declared.book.GramIn.{GramIn}
use Rattle.run_record.specs.of_run_book.declared.book.SentFrame.{SentFrame}
use Rattle.run_record.specs.Led.{exchanged}
use Rattle.run_record.specs.Served as Led
use Rattle.run_record.specs.Served.{ServingLives}
use Rattle.run_record.specs.Session.{SessionState, IsDone, has_live}
use Rattle.run_record.specs.of_run_notes.Notes.{stations_of}
use Rattle.run_record.specs.of_run_notes.Slaves.{home_of}
use Rattle.run_record.specs.of_segment_plan.Sound.{IsPlan}
use Rattle.run_record.specs.of_segment_plan.declared.plan.Scenario.{Scenario}
use Rattle.gateway_run.specs.Account.{Owing, Course, Course.begins, Course.hears, Course.steps, Judges, Judges.ignored as is_ignored, Judges.refused as is_refused, Judges.too_many, Judges.queues}
use Rattle.gateway_run.specs.Desk.{SameLive, StaysBusy}
use Rattle.gateway_run.specs.Serving.{IsOn, LivesUnless}
use Rattle.gateway_run.specs.declared.desk.Request.{Request}
use Rattle.gateway_run.specs.declared.turn.Serving.{Serving}
use Rattle.gateway_run.proofs.Gones.{NoneWaits, all_none, asked_none, few_given, none_wait}
use Rattle.gateway_run.proofs.Judged.{at_station}

-- a session that is led, of the plan's slaves; and no mail waits for one that was given up for good
pub record IsLed (plan : Scenario) (s : SessionState) (fs : List Exchanged) : Type 0 where
  pub homes : s.homes ≡ map home_of plan.slaves
  pub recover : s.recover ≡ plan.recover
  pub many : length fs ≡ s.ring.number
  pub serving : Led.Serving plan s fs
  pub waits : All (NoneWaits plan.recover) serving.leading.serves

one_more : (fs : List Exchanged) (f : Exchanged) → length (fs ++ f ∷ []) ≡ suc (length fs)
one_more fs f = let k = length-append fs (f ∷ []) in omega (arith, k)

judged_led : (plan : Scenario) → IsPlan plan → (s s' : SessionState) (fs : List Exchanged) (rs rs' : List Request) (number : ℕ) (octets : List ℕ) (queued : Option ℕ) (more : List Owing) → Judges s s' rs rs' number octets queued more → IsLed plan s fs → IsLed plan s' fs
judged_led plan is s s' fs rs rs' number octets queued more (is_ignored i) l = subst (λ (z : SessionState). IsLed plan z fs) (sym i.session) l
judged_led plan is s s' fs rs rs' number octets queued more (is_refused r) l = subst (λ (z : SessionState). IsLed plan z fs) (sym r.session) l
judged_led plan is s s' fs rs rs' number octets queued more (too_many t) l = let on = t.led plan fs l.serving in record {
  homes = ap (λ (z : SessionState). z.homes) t.asks ∙ l.homes;
  recover = ap (λ (z : SessionState). z.recover) t.asks ∙ l.recover;
  many = l.many ∙ sym (ap (λ (z : SessionState). z.ring.number) t.asks);
  serving = on.new;
  waits = subst (All (NoneWaits plan.recover)) (sym on.serves) l.waits;
}
judged_led plan is s s' fs rs rs' number octets queued more (queues q) l =
    let on = q.led plan fs q.home is (subst (λ (hs : List (ℕ × ℕ)). slice_get hs q.slave ≡ Some q.home) l.homes q.at_home) q.fits l.serving in
    let ws = l.serving.leading.serves in
    let at = at_station q.unfinished s (stations_of s.recover s.homes s.notes) q.mail q.slave refl q.place in
    let stands = subst (λ (recover : ℕ). slice_get (stations_of recover s.homes s.notes) q.slave ≡ Some (Some (q.mail.address, at.0))) l.recover at.1 in
    record {
      homes = ap (λ (z : SessionState). z.homes) q.asks ∙ l.homes;
      recover = ap (λ (z : SessionState). z.recover) q.asks ∙ l.recover;
      many = l.many ∙ sym (ap (λ (z : SessionState). z.ring.number) q.asks);
      serving = on.new;
      waits = subst (All (NoneWaits plan.recover)) (sym on.serves)
          (asked_none plan.recover q.slave on.mail_asked ws (few_given plan.recover s.homes s.notes ws l.serving.gave q.slave (q.mail.address, at.0) stands) l.waits);
    }

pub course_led : (plan : Scenario) (count : ℕ) → IsPlan plan → (s : SessionState) (fs : List SentFrame) (gs : List GramIn) (rs : List Request) (os : List Owing) → Course plan count s fs gs rs os → IsLed plan s (map exchanged fs)
course_led plan count is _ _ _ _ _ (begins s first serves) = record {
  homes = ap (λ (z : SessionState). z.homes) first;
  recover = ap (λ (z : SessionState). z.recover) first;
  many = sym (ap (λ (z : SessionState). z.ring.number) first);
  serving = serves;
  waits = All-weaker (λ (w : Serves). w.waits ≡ []) (NoneWaits plan.recover) (λ w none often. none) serves.leading.serves
      (none_wait serves.leading.serves (length plan.slaves) (serves.waiting ∙ ap (λ (z : SessionState). z.waiting) first));
}
course_led plan count is _ _ _ _ _ (hears s s' fs gs g rs rs' os more c at few judges) = judged_led plan is s s' (map exchanged fs) rs rs' (length gs) g.bytes g.queued more judges (course_led plan count is s fs gs rs os c)
course_led plan count is _ _ _ _ _ (steps s s' fs f gs rs os c m) =
    let l = course_led plan count is s fs gs rs os c in
    let number : s'.ring.number ≡ suc s.ring.number = ap (λ r. (record s { ring = r }).ring.number) m.ring in
    let more = m.led plan (map exchanged fs) l.recover l.many m.live m.busy l.serving in
    let on : IsLed plan s' (map exchanged fs ++ exchanged f ∷ []) = record {
      homes = m.homes ∙ l.homes;
      recover = m.recover ∙ l.recover;
      many = one_more (map exchanged fs) (exchanged f) ∙ ap suc l.many ∙ sym number;
      serving = more.new;
      waits = subst (All (NoneWaits plan.recover)) (sym more.serves)
          (all_none (lens_of plan.slaves) plan.recover plan.retry (gives_up_at (lens_of plan.slaves) plan.recover plan.retry l.serving.leading.missed) (length (map exchanged fs)) (exchanged f) more.frame.datagrams l.serving.leading.serves more.turns more.frame.each l.waits);
    } in
    subst (λ (k : List Exchanged). IsLed plan s' k) (sym (map-append exchanged fs (f ∷ []))) on

-- so do those of the book of a serving
pub on_led : (plan : Scenario) (count : ℕ) (v : Serving) (b : Book) → IsOn plan count v b → IsLed plan v.session (map exchanged b.frames)
on_led plan count v b on = course_led plan count on.is_plan v.session b.frames b.grams v.desk.requests.items on.owed on.course

-- some slave is live, where one is of each serving that is led
pub live_of : (plan : Scenario) (count : ℕ) (v : Serving) (b : Book) → IsOn plan count v b → ServingLives v.session → has_live v.session.master ≡ true
live_of plan count v b on lives =
    let l = on_led plan count v b on in
    lives plan (map exchanged b.frames) l.recover l.serving

-- and something is left to do, unless the segment is settled
pub lives_on : (plan : Scenario) (count : ℕ) (v : Serving) (b : Book) → IsOn plan count v b → (rests settled : Bool) → rests ≡ settled → OnFalse settled (ServingLives v.session) → OnFalse settled (IsDone v.session → ⊥) → LivesUnless rests v.session
lives_on plan count v b on rests settled is lives left = OnFalse_from rests ((has_live v.session.master ≡ true) × (IsDone v.session → ⊥)) (λ no.
    let so : ServingLives v.session = OnFalse_at (sym is ∙ no) lives in
    (live_of plan count v b on so, OnFalse_at (sym is ∙ no) left))

-- where it wasn't settled, some slave is still live behind what was heard, and something is still left to do
pub lives_still : (s s' : SessionState) → SameLive s s' → StaysBusy s s' → (rests settled : Bool) → settled ≡ false → LivesUnless settled s → LivesUnless rests s'
lives_still s s' same stays rests settled goes live = OnFalse_from rests ((has_live s'.master ≡ true) × (IsDone s' → ⊥)) (λ no.
    let is : (has_live s.master ≡ true) × (IsDone s → ⊥) = OnFalse_at goes live in
    (same ∙ is.0, λ done. is.1 (stays done)))
