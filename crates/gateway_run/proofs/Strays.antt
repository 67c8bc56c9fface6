-- ALL ALONG A COURSE the frames before which datagrams were heard don't fall; and error 5 of one that wasn't passed on comes only where no slave stands under its station.
use Rattle.std.proofs.Common.{◌≡◌, ◌<◌, ◌≤◌, ◌⊎◌, inl, inr, ℕ, zero, suc, ◌+◌, Bool, true, false, Option, Some, None, List, [], ◌∷◌, ◌++◌, length, map, refl, sym, ap, ◌∙◌, subst, eq-eqb, arith}
use Rattle.std.specs.Prelude.{◌==◌, All, Ok, Err, if◌then◌else◌, is_some, nat_le, nat_lt, slice_get, slice_index_or}
use Rattle.std.proofs.lemmas.List.{length-map}
use Rattle.std.proofs.lemmas.List.Elements.{All-nil, All-head, All-push, All-tail}
use Rattle.gateway_core.specs.Framing.{request_in}
use Rattle.gateway_core.specs.Gateway.{is_passed, judged_at, place_from, unfinished_at}
use Rattle.gateway_core.specs.declared.asker.Asker.{Asker}
use Rattle.run_record.specs.of_life_runs.Served.{Serves, served_behind}
use Rattle.gateway_core.specs.of_mailbox_mail.Mail.{error_of}
use Rattle.gateway_core.specs.of_mailbox_mail.declared.mail.Mail.{Mail}
use Rattle.run_record.specs.of_master_node.Serving.{run_lead}
use Rattle.run_record.specs.of_master_node.Wants.{gave_of}
use Rattle.run_record.specs.of_frame_view.Shares.{AllBoth}
use Rattle.run_record.specs.of_life_runs.First.{lens_of}
use Rattle.run_record.specs.of_life_runs.Led.{gives_up_at}
use Rattle.run_record.specs.of_run_book.declared.book.GramIn.{GramIn}
use Rattle.run_record.specs.of_run_book.declared.book.SentFrame.{SentFrame}
use Rattle.run_record.specs.of_run_book.declared.book.SlaveBook.{SlaveBook}
use Rattle.run_record.specs.Led.{exchanged}
use Rattle.run_record.specs.Served.{Serving}
use Rattle.run_record.specs.Session.{SessionState, session_rows}
use Rattle.run_record.specs.of_run_notes.Notes.{stations_of}
use Rattle.run_record.specs.of_run_notes.Slaves.{gaves_noted, home_of, slave_row, slave_rows}
use Rattle.run_record.specs.of_run_notes.declared.notes.Notes.{Notes}
use Rattle.run_record.proofs.Noted.{GivesOne}
use Rattle.run_record.proofs.ServedGaves.{all_give}
use Rattle.run_record.specs.of_segment_plan.Sound.{IsPlan}
use Rattle.run_record.specs.of_segment_plan.declared.plan.Scenario.{Scenario}
use Rattle.run_record.specs.of_segment_ring.declared.wire.Fate.{Fate}
use Rattle.run_record.specs.of_segment_ring.declared.wire.Fate.TheVariants as Fates
use Rattle.slab.specs.Slab.{Slab}
use Rattle.run_record.specs.of_slave_node.Node.{Node}
use Rattle.run_record.specs.of_slave_server.declared.server.SlaveServer.{SlaveServer}
use Rattle.gateway_run.specs.Account.{Owing, Course, Course.begins, Course.hears, Course.steps, Judges, Judges.ignored as is_ignored, Judges.refused as is_refused, Judges.too_many, Judges.queues}
use Rattle.gateway_run.specs.Events.{events_of}
use Rattle.gateway_run.specs.Rooms.{owed_for}
use Rattle.gateway_run.specs.Since.{NoneSince}
use Rattle.gateway_run.specs.Stray.{DontFall, IsStray}
use Rattle.gateway_run.specs.declared.desk.Request.{Request}
use Rattle.gateway_run.proofs.Accounts.{get_on}
use Rattle.gateway_run.proofs.Answering.{course_answers}
use Rattle.gateway_run.proofs.Befores.{HasBefore, serve_before}
use Rattle.gateway_run.proofs.Comes.{known_at}
use Rattle.gateway_run.proofs.Judging.{error_alone, error_quiet, nothing_quiet}
use Rattle.gateway_run.proofs.Leds.{course_led}
use Rattle.gateway_run.proofs.Stepping.{no_more, no_request}

-- each slave at home under a station was given up for good before so many frames had been sent, by all give-ups
abbrev AreLost : List (ℕ × ℕ) → ℕ → List (List ℕ) → ℕ → ℕ → Type 0
AreLost homes recover gaves station frames =
    (place len : ℕ) (gave : List ℕ) → slice_get homes place ≡ Some (station, len) → slice_get gaves place ≡ Some gave → (at : ℕ) × (slice_get gave recover ≡ Some at) × (at < frames)

-- none was given up from a frame on
abbrev AreBelow : ℕ → List (List ℕ) → Type 0
AreBelow n gaves = (place : ℕ) (gave : List ℕ) → slice_get gaves place ≡ Some gave → NoneSince n gave

lives_below : (n : ℕ) (ws : List Serves) → All (HasBefore n) ws → AreBelow n (map gave_of (map run_lead ws))
lives_below n [] h place gave e = absurd (cc)
lives_below n (w ∷ ws) h zero gave e = subst (NoneSince n) (let same : gave_of w.lead ≡ gave = cc in same) (All-head (HasBefore n) w ws h).gave
lives_below n (w ∷ ws) h (suc place) gave e = lives_below n ws (All-tail (HasBefore n) w ws h) place gave e

-- by the lives that the frames so far lead
noted_below : (plan : Scenario) (s : SessionState) (fs : List SentFrame) → Serving plan s (map exchanged fs) → AreBelow (length fs) (gaves_noted s.notes)
noted_below plan s fs serving =
    let l = serving.leading in
    subst (λ (n : ℕ). AreBelow n (gaves_noted s.notes)) (length-map fs exchanged)
    (subst (λ (gaves : List (List ℕ)). AreBelow (length (map exchanged fs)) gaves) (sym serving.gave)
    (lives_below (length (map exchanged fs)) l.serves (serve_before plan (map exchanged fs) l.missed l.serves l.lives)))

-- A FRAME gives up at most once
gives_get : (fate : Fate) (made : ℕ) (old now : List ℕ) → GivesOne fate made old now → (k at : ℕ) → slice_get old k ≡ Some at → slice_get now k ≡ Some at
gives_get Fates.Pass made old now g k at e = subst (λ (l : List ℕ). slice_get l k ≡ Some at) (sym g) e
gives_get (Fates.Lost after) made old now g k at e = subst (λ (l : List ℕ). slice_get l k ≡ Some at) g (go (nat_lt (length old) (length now)))
  where
    go : (b : Bool) → slice_get (if b then old ++ made ∷ [] else old) k ≡ Some at
    go true = get_on old (made ∷ []) k at e
    go false = e

-- what stands at a place had something there before
both_back : {S T : Type 0} (P : S → T → Type 0) (xs : List S) (ys : List T) (k : ℕ) (y : T) → AllBoth P xs ys → slice_get ys k ≡ Some y → (x : S) × (slice_get xs k ≡ Some x) × P x y
both_back P xs [] k y a e = absurd (cc)
both_back P [] (y' ∷ ys) k y a e = absurd a
both_back P (x ∷ xs) (y' ∷ ys) zero y a e = (x, refl, subst (P x) (let same : y' ≡ y = cc in same) a.0)
both_back P (x ∷ xs) (y' ∷ ys) (suc k) y a e = both_back P xs ys k y a.1 e

-- NO STATION STANDS where none is found
place_none : (at station : ℕ) (rows : List (Option (ℕ × ℕ))) → place_from at station rows ≡ None → (k len : ℕ) → slice_get rows k ≡ Some (Some (station, len)) → ⊥
place_none at station [] none k len e = cc
place_none at station (None ∷ rows) none zero len e = cc
place_none at station (None ∷ rows) none (suc k) len e = place_none (at + 1) station rows none k len e
place_none at station (Some row ∷ rows) none zero len e =
    let same : row ≡ (station, len) = cc in
    let here : (row.0 == station) ≡ true = eq-eqb row.0 station (ap (λ (z : ℕ × ℕ). z.0) same) in
    let bad : Some (at, row.1) ≡ None = sym (ap (λ (b : Bool). if b then Some (at, row.1) else place_from (at + 1) station rows) here) ∙ none in
    cc
place_none at station (Some row ∷ rows) none (suc k) len e = place_none (at + 1) station rows (later (row.0 == station) none) k len e
  where
    later : (b : Bool) → (if b then Some (at, row.1) else place_from (at + 1) station rows) ≡ None → place_from (at + 1) station rows ≡ None
    later true n = absurd (cc)
    later false n = n

-- of a slave whose station doesn't stand there is a last give-up
some_there : (xs : List ℕ) (k : ℕ) → (is_some (slice_get xs k) ≡ false → ⊥) → (at : ℕ) × (slice_get xs k ≡ Some at)
some_there xs k not = go (slice_get xs k) refl
  where
    go : (o : Option ℕ) → slice_get xs k ≡ o → (at : ℕ) × (slice_get xs k ≡ Some at)
    go None e = absurd (not (ap is_some e))
    go (Some at) e = (at, e)

all_at : {X : Type 0} (P : X → Type 0) (xs : List X) (k : ℕ) (x : X) → All P xs → slice_get xs k ≡ Some x → P x
all_at P [] k x all e = absurd (cc)
all_at P (y ∷ xs) zero x all e = subst P (let same : y ≡ x = cc in same) (All-head P y xs all)
all_at P (y ∷ xs) (suc k) x all e = all_at P xs k x (All-tail P y xs all) e

all_lost : (recover n station : ℕ) (homes : List (ℕ × ℕ)) (notes : List Notes) → place_from 0 station (stations_of recover homes notes) ≡ None → AreBelow n (gaves_noted notes) → AreLost homes recover (gaves_noted notes) station n
all_lost recover n station homes notes none below place len gave home there =
    let some = some_there gave recover (λ off. place_none 0 station (stations_of recover homes notes) none place len (stands homes notes place gave off home there)) in
    (some.0, some.1, all_at (λ (at : ℕ). at < n) gave recover some.0 (below place gave there) some.1)
  where
    stands : (hs : List (ℕ × ℕ)) (ns : List Notes) (k : ℕ) (gave : List ℕ) → is_some (slice_get gave recover) ≡ false → slice_get hs k ≡ Some (station, len) → slice_get (gaves_noted ns) k ≡ Some gave → slice_get (stations_of recover hs ns) k ≡ Some (Some (station, len))
    stands [] ns k gave off home there = absurd (cc)
    stands (h ∷ hs) [] k gave off home there = absurd (cc)
    stands (h ∷ hs) (m ∷ ns) zero gave off home there =
        let same : m.gave ≡ gave = cc in
        let its : h ≡ (station, len) = cc in
        ap (λ (b : Bool). Some (if b then None else Some h)) (ap (λ (l : List ℕ). is_some (slice_get l recover)) same ∙ off) ∙ ap (λ (z : ℕ × ℕ). Some (Some z)) its
    stands (h ∷ hs) (m ∷ ns) (suc k) gave off home there = stands hs ns k gave off home there

-- ERROR 5 of the gateway's own is that no station stands
abbrev detail_in : Mail → ℕ
detail_in m = slice_index_or m.body.items 2 0

other_detail : (g : Slab Asker) (mail : Mail) (place : ℕ × ℕ) (detail : ℕ) → judged_at g mail (Some place) ≡ Err detail → error_of detail ≡ error_of 5 → ⊥
other_detail g mail place detail is same = go (is_passed mail.kind) (nat_lt place.1 (6 + length mail.body.items)) (nat_le 64 (unfinished_at place.0 g)) is
  where
    go : (passed long full : Bool) → (if passed then (if long then Err 8 else if full then Err 7 else Ok place.0) else Err 2) ≡ Err detail → ⊥
    go true false false e = cc
    go true false true e =
        let its : 7 ≡ detail = cc in
        let bad : 7 ≡ 5 = ap detail_in (ap error_of its ∙ same) in
        omega (arith, bad)
    go true true full e =
        let its : 8 ≡ detail = cc in
        let bad : 8 ≡ 5 = ap detail_in (ap error_of its ∙ same) in
        omega (arith, bad)
    go false long full e =
        let its : 2 ≡ detail = cc in
        let bad : 2 ≡ 5 = ap detail_in (ap error_of its ∙ same) in
        omega (arith, bad)

none_found : (g : Slab Asker) (mail : Mail) (place : Option (ℕ × ℕ)) (detail : ℕ) → judged_at g mail place ≡ Err detail → error_of detail ≡ error_of 5 → place ≡ None
none_found g mail None detail is same = refl
none_found g mail (Some place) detail is same = absurd (other_detail g mail place detail is same)

-- one datagram more
push_get : {X : Type 0} (xs : List X) (x : X) (k : ℕ) (y : X) → slice_get (xs ++ x ∷ []) k ≡ Some y → (slice_get xs k ≡ Some y) ⊎ ((k ≡ length xs) × (x ≡ y))
push_get [] x zero y e = inr (refl, cc)
push_get [] x (suc k) y e = absurd (cc)
push_get (a ∷ xs) x zero y e = inl e
push_get (a ∷ xs) x (suc k) y e = later (push_get xs x k y e)
  where
    later : (slice_get xs k ≡ Some y) ⊎ ((k ≡ length xs) × (x ≡ y)) → (slice_get (a ∷ xs) (suc k) ≡ Some y) ⊎ ((suc k ≡ length (a ∷ xs)) × (x ≡ y))
    later (inl there) = inl there
    later (inr last) = inr (ap suc last.0, last.1)

push_steady : (gs : List GramIn) (g : GramIn) → DontFall gs → All (λ (h : GramIn). h.frame ≤ g.frame) gs → DontFall (gs ++ g ∷ [])
push_steady [] g steady all = (All-nil (λ (h : GramIn). g.frame ≤ h.frame), tt)
push_steady (h ∷ gs) g steady all =
    (All-push (λ (x : GramIn). h.frame ≤ x.frame) gs g steady.0 (All-head (λ (x : GramIn). x.frame ≤ g.frame) h gs all), push_steady gs g steady.1 (All-tail (λ (x : GramIn). x.frame ≤ g.frame) h gs all))

-- WHAT IS KNOWN of a course: the datagrams that were heard, by the frames sent and the give-ups that are noted
record IsSteady (plan : Scenario) (s : SessionState) (fs : List SentFrame) (gs : List GramIn) (os : List Owing) : Type 0 where
  steady : DontFall gs
  stray : (n : ℕ) (g : GramIn) → slice_get gs n ≡ Some g → g.queued ≡ None → (asked : Mail) → request_in g.bytes ≡ Ok asked → owed_for n os ≡ error_of 5 ∷ [] → AreLost (map home_of plan.slaves) plan.recover (gaves_noted s.notes) asked.address g.frame

judged_notes : (s s' : SessionState) (rs rs' : List Request) (number : ℕ) (octets : List ℕ) (queued : Option ℕ) (more : List Owing) → Judges s s' rs rs' number octets queued more → s'.notes ≡ s.notes
judged_notes s s' rs rs' number octets queued more (is_ignored i) = ap (λ (z : SessionState). z.notes) i.session
judged_notes s s' rs rs' number octets queued more (is_refused r) = ap (λ (z : SessionState). z.notes) r.session
judged_notes s s' rs rs' number octets queued more (too_many t) = ap (λ (z : SessionState). z.notes) t.asks
judged_notes s s' rs rs' number octets queued more (queues q) = ap (λ (z : SessionState). z.notes) q.asks

-- nothing more is owed by an earlier datagram
judged_quiet : (s s' : SessionState) (rs rs' : List Request) (number : ℕ) (octets : List ℕ) (queued : Option ℕ) (more os : List Owing) → Judges s s' rs rs' number octets queued more → (n : ℕ) → n < number → owed_for n (os ++ more) ≡ owed_for n os
judged_quiet s s' rs rs' number octets queued more os (is_ignored i) n less = ap (λ (l : List Owing). owed_for n (os ++ l)) i.nothing ∙ nothing_quiet n os
judged_quiet s s' rs rs' number octets queued more os (is_refused r) n less = ap (λ (l : List Owing). owed_for n (os ++ l)) r.error ∙ error_quiet number n r.detail os less
judged_quiet s s' rs rs' number octets queued more os (too_many t) n less = ap (λ (l : List Owing). owed_for n (os ++ l)) t.error ∙ error_quiet number n 7 os less
judged_quiet s s' rs rs' number octets queued more os (queues q) n less = ap (λ (l : List Owing). owed_for n (os ++ l)) q.nothing ∙ nothing_quiet n os

-- THE DATAGRAM THAT IS HEARD
module _ (recover number frames : ℕ) (homes : List (ℕ × ℕ)) (s s' : SessionState) (rs rs' : List Request) (octets : List ℕ) (more os : List Owing) (asked : Mail) (at : s.homes ≡ homes) (often : s.recover ≡ recover) (below : AreBelow frames (gaves_noted s.notes))
    (known : All (λ (o : Owing). o.gram < number) os) (request : request_in octets ≡ Ok asked) where
  alone : (detail : ℕ) → more ≡ record { gram = number; mail = error_of detail } ∷ [] → owed_for number (os ++ more) ≡ error_of 5 ∷ [] → error_of detail ≡ error_of 5
  alone detail is error =
      let one : error_of detail ∷ [] ≡ error_of 5 ∷ [] = sym (error_alone number detail os known) ∙ sym (ap (λ (l : List Owing). owed_for number (os ++ l)) is) ∙ error in
      cc

  new_lost : (queued : Option ℕ) → Judges s s' rs rs' number octets queued more → queued ≡ None → owed_for number (os ++ more) ≡ error_of 5 ∷ [] → AreLost homes recover (gaves_noted s.notes) asked.address frames
  new_lost queued (is_ignored i) nowhere error = absurd (let bad : Err i.fault ≡ Ok asked = sym i.request ∙ request in cc)
  new_lost queued (is_refused r) nowhere error =
      let both : Ok r.mail ≡ Ok asked = sym r.request ∙ request in
      let same : r.mail ≡ asked = cc in
      let none = none_found r.unfinished r.mail (place_from 0 r.mail.address (stations_of s.recover s.homes s.notes)) r.detail r.cause (alone r.detail r.error error) in
      all_lost recover frames asked.address homes s.notes
      (subst (λ (k : ℕ). place_from 0 asked.address (stations_of k homes s.notes) ≡ None) often
      (subst (λ (hs : List (ℕ × ℕ)). place_from 0 asked.address (stations_of s.recover hs s.notes) ≡ None) at
      (subst (λ (m : Mail). place_from 0 m.address (stations_of s.recover s.homes s.notes) ≡ None) same none)))
      below
  new_lost queued (too_many t) nowhere error = absurd (let bad : 7 ≡ 5 = ap detail_in (alone 7 t.error error) in omega (arith, bad))
  new_lost queued (queues q) nowhere error = absurd (let bad : Some q.slave ≡ None = sym q.there ∙ nowhere in cc)

-- ALL ALONG
course_steady : (plan : Scenario) (count : ℕ) → IsPlan plan → (s : SessionState) (fs : List SentFrame) (gs : List GramIn) (rs : List Request) (os : List Owing) → Course plan count s fs gs rs os → IsSteady plan s fs gs os
course_steady plan count is _ _ _ _ _ (begins s first serves) = record {
  steady = tt;
  stray = λ n g there. absurd (cc);
}
course_steady plan count is _ _ _ _ _ (hears s s' fs gs g rs rs' os more c at few judges) =
    let old = course_steady plan count is s fs gs rs os c in
    let l = course_led plan count is s fs gs rs os c in
    let a = course_answers plan count is s fs gs rs os c in
    let notes = judged_notes s s' rs rs' (length gs) g.bytes g.queued more judges in
    record {
      steady = push_steady gs g old.steady (subst (λ (n : ℕ). All (λ (h : GramIn). h.frame ≤ n) gs) (length-map fs exchanged ∙ sym at) a.early);
      stray = λ n h there nowhere asked request error.
          subst (λ (ns : List Notes). AreLost (map home_of plan.slaves) plan.recover (gaves_noted ns) asked.address h.frame) (sym notes)
          (elim (push_get gs g n h there) [
            | inl before ↦ old.stray n h before nowhere asked request (sym (judged_quiet s s' rs rs' (length gs) g.bytes g.queued more os judges n (known_at gs n h before)) ∙ error)
            | inr last ↦
                subst (λ (k : ℕ). AreLost (map home_of plan.slaves) plan.recover (gaves_noted s.notes) asked.address k) (sym at ∙ ap (λ (z : GramIn). z.frame) last.1)
                (new_lost plan.recover (length gs) (length fs) (map home_of plan.slaves) s s' rs rs' g.bytes more os asked l.homes l.recover (noted_below plan s fs l.serving) a.owed
                (ap (λ (z : GramIn). request_in z.bytes) last.1 ∙ request) g.queued judges (ap (λ (z : GramIn). z.queued) last.1 ∙ nowhere)
                (ap (λ (k : ℕ). owed_for k (os ++ more)) (sym last.0) ∙ error))
          ]);
    }
course_steady plan count is _ _ _ _ _ (steps s s' fs f gs rs os c m) =
    let old = course_steady plan count is s fs gs rs os c in
    let l = course_led plan count is s fs gs rs os c in
    let a = course_answers plan count is s fs gs rs os c in
    let more = m.led plan (map exchanged fs) l.recover l.many m.live m.busy l.serving in
    let lens = lens_of plan.slaves in
    let gives : AllBoth (λ o n. GivesOne f.fate (length (map exchanged fs)) o n) (gaves_noted s.notes) (gaves_noted s'.notes) =
    subst (AllBoth (λ o n. GivesOne f.fate (length (map exchanged fs)) o n) (gaves_noted s.notes)) (sym (more.new.gave ∙ ap (λ ws. map gave_of (map run_lead ws)) more.serves))
    (subst (λ olds. AllBoth (λ o n. GivesOne f.fate (length (map exchanged fs)) o n) olds (map gave_of (map run_lead (map (served_behind lens plan.recover plan.retry (gives_up_at lens plan.recover plan.retry l.serving.leading.missed) (length (map exchanged fs)) (exchanged f)) more.turns)))) (sym l.serving.gave)
    (all_give lens plan.recover plan.retry (gives_up_at lens plan.recover plan.retry l.serving.leading.missed) (length (map exchanged fs)) (exchanged f) more.frame.datagrams l.serving.leading.serves more.turns more.frame.each)) in
    record {
      steady = old.steady;
      stray = λ n g there nowhere asked request error place len gave home at.
          let b = both_back (λ o n. GivesOne f.fate (length (map exchanged fs)) o n) (gaves_noted s.notes) (gaves_noted s'.notes) place gave gives at in
          let lost = old.stray n g there nowhere asked request (sym (no_more n os (events_of s'.master) rs (no_request gs n g rs there nowhere a.heard)) ∙ error) place len b.0 home b.1 in
          (lost.0, gives_get f.fate (length (map exchanged fs)) b.0 gave b.2 plan.recover lost.0 lost.1, lost.2);
    }

-- SO IT IS by the rows of a book
row_gave : (recover : ℕ) (nodes : List (Node SlaveServer)) (notes : List Notes) (place : ℕ) (row : SlaveBook) → slice_get (slave_rows recover nodes notes) place ≡ Some row → (gave : List ℕ) × (slice_get (gaves_noted notes) place ≡ Some gave) × (row.given_up ≡ slice_get gave recover)
row_gave recover [] notes place row e = absurd (cc)
row_gave recover (node ∷ nodes) [] place row e = absurd (cc)
row_gave recover (node ∷ nodes) (n ∷ notes) zero row e = (n.gave, refl, (let same : slave_row recover node n ≡ row = cc in sym (ap (λ (r : SlaveBook). r.given_up) same)))
row_gave recover (node ∷ nodes) (n ∷ notes) (suc place) row e = row_gave recover nodes notes place row e

module _ (plan : Scenario) (count : ℕ) (is : IsPlan plan) (s : SessionState) (fs : List SentFrame) (gs : List GramIn) (rs : List Request) (os : List Owing) (c : Course plan count s fs gs rs os) where
  pub course_falls : DontFall gs
  course_falls = (course_steady plan count is s fs gs rs os c).steady

  pub course_strays : (rows : List SlaveBook) → rows ≡ session_rows s → (n : ℕ) (g : GramIn) → slice_get gs n ≡ Some g → IsStray (map home_of plan.slaves) rows os n g
  course_strays rows are n g at nowhere asked request error place len row home there =
      let r = row_gave s.recover s.ring.nodes s.notes place row (ap (λ (l : List SlaveBook). slice_get l place) (sym are) ∙ there) in
      let lost = (course_steady plan count is s fs gs rs os c).stray n g at nowhere asked request error place len r.0 home r.1 in
      (lost.0, r.2 ∙ ap (slice_get r.0) (course_led plan count is s fs gs rs os c).recover ∙ lost.1, lost.2)
