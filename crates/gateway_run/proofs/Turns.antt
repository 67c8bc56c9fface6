-- A serving, step by step.
use Rattle.std.proofs.Common.{◌≡◌, ℕ, suc, ◌+◌, ◌-◌, ◌<◌, ◌≤◌, if◌then◌else◌, List, [], ◌∷◌, ◌++◌, length, map, Bool, true, false, refl, sym, ap, ◌∙◌, subst, inl, inr, length-append, append_assoc, append-nil, ltb, ltb-true, ltb-false, arith}
use Rattle.std.specs.Prelude.{Option, Some, None, Result, Ok, Err, All}
use Rattle.std.proofs.lemmas.List.Elements.{All-push, All-head, All-tail}
use Rattle.gateway_core.specs.of_ec_outside.Faults.{Rose}
use Rattle.gateway_core.specs.of_ec_outside.Port.{HeardGram, Hears}
use Rattle.gateway_core.specs.of_ec_outside.declared.port.Peer.{Peer}
use Rattle.gateway_core.specs.of_ec_outside.declared.port.Heard.TheVariants as heards
use Rattle.gateway_core.specs.of_ec_outside.declared.port.PortErr.{PortErr}
use Rattle.gateway_core.specs.of_ec_outside.declared.port.PortErr.TheVariants as errors
use Rattle.gateway_run.specs.Stops.{stop_of}
use Rattle.gateway_core.specs.of_ec_outside.declared.port.SentGram.{SentGram}
use Rattle.run_record.specs.of_segment_plan.declared.plan.Scenario.{Scenario}
use Rattle.run_record.specs.of_run_book.declared.book.Book.{Book}
use Rattle.run_record.specs.of_run_book.declared.book.GramIn.{GramIn}
use Rattle.run_record.specs.of_run_book.declared.book.GramOut.{GramOut}
use Rattle.run_record.specs.of_run_book.declared.book.SentFrame.{SentFrame}
use Rattle.gateway_run.specs.Events.{events_of}
use Rattle.run_record.specs.Served.{ServingGoesOn}
use Rattle.run_record.specs.Session.{FrameEvents, SessionState, IsDone, Steps, Stops, SwitchGrows, has_live, numbers_over}
use Rattle.run_record.specs.of_eoe_switch.declared.switching.SwitchEvent.{SwitchEvent}
use Rattle.run_record.specs.of_run_notes.Slaves.{home_of}
use Rattle.run_record.specs.of_run_notes.Switched.{SameSwitch}
use Rattle.run_record.specs.Ran.{HasSent}
use Rattle.run_record.proofs.Underway.{same_on, has_frames, many as many_sent, stepped_on, stopped}
use Rattle.gateway_run.specs.Heard.{heard_as, sent_as, AreHeard, AreSent, AreSentBut, IsOwed, IsRightly}
use Rattle.gateway_run.specs.Account.{Owing, Course, Course.hears, Course.steps, AreSpelled, MayGo, Waited, happened_in, heard_since, left_by_all, numbers_in, owed_by_all, recent}
use Rattle.gateway_run.specs.Desk.{IsSound, AsksMails, SameLan, Owes, NotesAll, Takes, TakesSo}
use Rattle.gateway_run.specs.Goes.{MaySend}
use Rattle.gateway_run.specs.declared.desk.Request.{Request}
use Rattle.gateway_run.specs.Serving.{Told, IsOn, IsServing, IsHearing, IsFaulted, Listens, PutsOne, SentOne, FailedOne, SendsOne, Goes, GoesHearing, GoesTo, left, recent_of, since_of}
use Rattle.gateway_run.specs.declared.desk.Desk.{Desk}
use Rattle.gateway_run.specs.declared.stop.Stop.{Stop}
use Rattle.gateway_run.specs.declared.stop.Stop.TheVariants as stops
use Rattle.gateway_run.specs.declared.turn.Serving.{Serving}
use Rattle.gateway_run.proofs.Accounts.{owes_length, spelled_both, spelled_more}
use Rattle.gateway_run.proofs.Desks.{all_owed_more, sound_same}
use Rattle.gateway_run.proofs.Waits.{waited_still}

pub map_push : {A B : Type 0} (f : A → B) (xs : List A) (x : A) → map f (xs ++ x ∷ []) ≡ map f xs ++ f x ∷ []
map_push f [] x = refl
map_push f (y ∷ xs) x = ap (λ l. f y ∷ l) (map_push f xs x)

-- what was heard, with one more
heard_on : (first now next : Option (List HeardGram)) (grams : List GramIn) (g : GramIn) (peer : Peer) (octets : List ℕ) → heard_as g ≡ record { from = peer; bytes = octets } →
    AreHeard first now grams → Hears now next octets (Ok (heards.From peer)) → AreHeard first next (grams ++ g ∷ [])
heard_on None now next grams g peer octets is a h = tt
heard_on (Some old) now next grams g peer octets is a h =
    let h' : next ≡ Some ((old ++ map heard_as grams) ++ record { from = peer; bytes = octets } ∷ []) = subst (λ (x : Option (List HeardGram)). Hears x next octets (Ok (heards.From peer))) a h in
    h' ∙ ap Some (append_assoc old (map heard_as grams) (record { from = peer; bytes = octets } ∷ []) ∙ ap (λ (x : HeardGram). old ++ (map heard_as grams ++ x ∷ [])) (sym is) ∙ ap (λ (l : List HeardGram). old ++ l) (sym (map_push heard_as grams g)))

-- nothing was heard
abbrev Unheard : Option (List HeardGram) → Option (List HeardGram) → Type 0
Unheard None new = Unit {0}
Unheard (Some old) new = new ≡ Some old

heard_same : (first now next : Option (List HeardGram)) (grams : List GramIn) → AreHeard first now grams → Unheard now next → AreHeard first next grams
heard_same None now next grams a h = tt
heard_same (Some old) now next grams a h = let h' : next ≡ Some (old ++ map heard_as grams) = subst (λ (x : Option (List HeardGram)). Unheard x next) a h in h'

quiet_heard : (now next : Option (List HeardGram)) (octets : List ℕ) → Hears now next octets (Ok heards.Quiet) → Unheard now next
quiet_heard None next octets h = tt
quiet_heard (Some old) next octets h = h

ended_heard : (now next : Option (List HeardGram)) (octets : List ℕ) → Hears now next octets (Ok heards.Ended) → Unheard now next
ended_heard None next octets h = tt
ended_heard (Some old) next octets h = h

failed_heard : (now next : Option (List HeardGram)) (octets : List ℕ) → Hears now next octets (Err errors.Failed) → Unheard now next
failed_heard None next octets h = tt
failed_heard (Some old) next octets h = h

pub heard_none : (now : Option (List HeardGram)) → AreHeard now now []
heard_none None = tt
heard_none (Some old) = ap Some (sym (append-nil old))

pub sent_none : (now : Option (List SentGram)) → AreSent now now []
sent_none None = tt
sent_none (Some old) = ap Some (sym (append-nil old))

heard_kept : (first now next : Option (List HeardGram)) (grams : List GramIn) → AreHeard first now grams → next ≡ now → AreHeard first next grams
heard_kept first now next grams a same = subst (λ (x : Option (List HeardGram)). AreHeard first x grams) (sym same) a

sent_kept : (first now next : Option (List SentGram)) (replies : List GramOut) → AreSent first now replies → next ≡ now → AreSent first next replies
sent_kept first now next replies a same = subst (λ (x : Option (List SentGram)). AreSent first x replies) (sym same) a

-- what was sent, with one more
sent_on : (first now next : Option (List SentGram)) (replies : List GramOut) (r : GramOut) → AreSent first now replies → AreSent now next (r ∷ []) → AreSent first next (replies ++ r ∷ [])
sent_on None now next replies r a s = tt
sent_on (Some old) now next replies r a s =
    let s' : next ≡ Some ((old ++ map sent_as replies) ++ sent_as r ∷ []) = subst (λ (x : Option (List SentGram)). AreSent x next (r ∷ [])) a s in
    s' ∙ ap Some (append_assoc old (map sent_as replies) (sent_as r ∷ []) ∙ ap (λ (l : List SentGram). old ++ l) (sym (map_push sent_as replies r)))

-- nothing was sent, though one was to be
none_sent : (first now next : Option (List SentGram)) (replies : List GramOut) → AreSent first now replies → AreSent now next [] → AreSent first next replies
none_sent None now next replies a s = tt
none_sent (Some old) now next replies a s =
    let s' : next ≡ Some ((old ++ map sent_as replies) ++ []) = subst (λ (x : Option (List SentGram)). AreSent x next []) a s in
    s' ∙ ap Some (append_assoc old (map sent_as replies) [] ∙ ap (λ (l : List SentGram). old ++ l) (append-nil (map sent_as replies)))

one_before : (earlier : List GramOut) (last r : GramOut) → r ∷ [] ≡ earlier ++ last ∷ [] → earlier ≡ []
one_before [] last r is = refl
one_before (a ∷ []) last r is = absurd (cc)
one_before (a ∷ b ∷ earlier) last r is = absurd (cc)

sent_but : (first now next : Option (List SentGram)) (replies : List GramOut) (r : GramOut) → AreSent first now replies → AreSentBut now next (r ∷ []) → AreSentBut first next (replies ++ r ∷ [])
sent_but first now next replies r a (inl s) = inl (sent_on first now next replies r a s)
sent_but first now next replies r a (inr s) =
    inr (replies, r, refl, none_sent first now next replies a (subst (λ (l : List GramOut). AreSent now next l) (one_before s.0 s.1 r s.2) s.3))

-- a count of faults rose since its first value
pub rose_since : (first now next : ℕ) → first ≤ now → Rose now next → now ≤ next → Rose first next
rose_since first now next le (inl lt) later = inl (omega (arith, le, lt))
rose_since first now next le (inr most) later = since (ltb first next) refl
  where
    since : (less : Bool) → ltb first next ≡ less → Rose first next
    since true is = inl (ltb-true first next is)
    since false is = let ge = ltb-false first next is in let same : first ≡ now = omega (arith, le, later, ge) in inr (same ∙ most)

session_same : (s s' : SessionState) → s' ≡ s → AsksMails s s'
session_same s s' same = subst (λ (t : SessionState). AsksMails s t) (sym same) refl

-- a book in which something else was put
switch_same : {b b' c : Book} → b' ≡ c → c.switch ≡ b.switch → c.switched ≡ b.switched → c.host ≡ b.host → SameSwitch b b'
switch_same is switch switched host = record { switch = ap (λ (x : Book). x.switch) is ∙ switch; switched = ap (λ (x : Book). x.switched) is ∙ switched; host = ap (λ (x : Book). x.host) is ∙ host }

-- what is left to do, by what it depends on
abbrev pub left_of : SessionState → ℕ → ℕ → Bool → ℕ
left_of s heard count over = (s.budget - s.ring.number) + (count - heard) + (if over then 0 else 1)

pub left_kept : (v v' : Serving) (b b' : Book) → v'.session ≡ v.session → v'.count ≡ v.count → v'.over ≡ v.over → b'.grams ≡ b.grams → left v' b' ≡ left v b
left_kept v v' b b' session counts over grams =
    ap (λ (s : SessionState). left_of s (length b'.grams) v'.count v'.over) session ∙ ap (λ (l : List GramIn). left_of v.session (length l) v'.count v'.over) grams
    ∙ ap (λ (n : ℕ). left_of v.session (length b.grams) n v'.over) counts ∙ ap (λ (o : Bool). left_of v.session (length b.grams) v.count o) over

-- a course over which just these events came at the switch, with these numbers, and which waited before each frame; so much was made owed by what was heard since the
-- last, and so much came last
abbrev pub CourseTo : Scenario → ℕ → SessionState → List SentFrame → List GramIn → List Request → List Owing → List SwitchEvent → List ℕ → Bool → ℕ → ℕ → Type 0
CourseTo plan count s fs gs rs os es ns over since last =
    (c : Course plan count s fs gs rs os) × (happened_in plan count s fs gs rs os c ≡ es) × (numbers_in plan count s fs gs rs os c ≡ ns) × Waited plan count s fs gs rs os c over × (length (heard_since plan count s fs gs rs os c) ≡ since)
    × (length (recent plan count s fs gs rs os c) ≡ last)

-- the same course, and the same datagrams, by a port that may be over later
pub course_same : (plan : Scenario) (count : ℕ) (s s' : SessionState) (fs fs' : List SentFrame) (gs gs' : List GramIn) (rs rs' : List Request) (os : List Owing) (es es' : List SwitchEvent) (ns ns' : List ℕ) (over over' : Bool) (since last : ℕ) → s' ≡ s → fs' ≡ fs → gs' ≡ gs → rs' ≡ rs → es' ≡ es → ns' ≡ ns →
    (over' ≡ false → over ≡ false) → CourseTo plan count s fs gs rs os es ns over since last → CourseTo plan count s' fs' gs' rs' os es' ns' over' since last
course_same plan count s s' fs fs' gs gs' rs rs' os es es' ns ns' over over' since last session frames grams requests events numbers yet c =
    let d =
    subst (λ (l : List ℕ). CourseTo plan count s' fs' gs' rs' os es' l over since last) (sym numbers)
    (subst (λ (l : List SwitchEvent). CourseTo plan count s' fs' gs' rs' os l ns over since last) (sym events)
    (subst (λ (l : List Request). CourseTo plan count s' fs' gs' l os es ns over since last) (sym requests)
    (subst (λ (l : List GramIn). CourseTo plan count s' fs' l rs os es ns over since last) (sym grams)
    (subst (λ (l : List SentFrame). CourseTo plan count s' l gs rs os es ns over since last) (sym frames) (subst (λ (t : SessionState). CourseTo plan count t fs gs rs os es ns over since last) (sym session) c))))) in
    (d.0, d.1, d.2, waited_still plan count s' fs' gs' rs' os d.0 over over' yet d.3, d.4, d.5)

pub spelled_same : (heard heard' : List HeardGram) (os : List Owing) (rs rs' : List GramOut) → heard' ≡ heard → rs' ≡ rs → AreSpelled heard os rs → AreSpelled heard' os rs'
spelled_same heard heard' os rs rs' grams replies a =
    subst (λ (l : List GramOut). AreSpelled heard' os l) (sym replies) (subst (λ (l : List HeardGram). AreSpelled l os rs) (sym grams) a)

-- what was sent and is to be sent, with what is owed besides
pub spelled_on : (heard : List HeardGram) (os more : List Owing) (sent sent' out out' : List GramOut) → sent' ≡ sent → AreSpelled heard os (sent ++ out) → Owes heard more out out' → AreSpelled heard (os ++ more) (sent' ++ out')
spelled_on heard os more sent sent' out out' same a o =
    subst (λ (l : List GramOut). AreSpelled heard (os ++ more) l)
    (append_assoc sent out o.0 ∙ ap (λ (l : List GramOut). sent ++ l) (sym o.1) ∙ ap (λ (l : List GramOut). l ++ out') (sym same))
    (spelled_both heard os more (sent ++ out) o.0 a o.2)

-- so many more are still to be sent as are owed besides
fresh_more : (out out' since more all : ℕ) → out' ≡ out + more → all ≡ since + more → out ≤ since → out' ≤ all
fresh_more out out' since more all grown owed fresh = omega (arith, grown, owed, fresh)

-- one less is still to be sent
fewer_left : (out out' last last' : ℕ) → out ≡ suc out' → last' ≡ last → out ≤ last → out' < last'
fewer_left out out' last last' less owed prompt = omega (arith, less, owed, prompt)

-- as few are still to be sent
fresh_so : (out out' since since' : ℕ) → out' ≡ out → since' ≡ since → out ≤ since → out' ≤ since'
fresh_so out out' since since' same owed fresh = omega (arith, same, owed, fresh)

module _ (plan : Scenario) (count : ℕ) (first : Told) where
  -- as much was made owed by what was heard since the last frame, and as much came last
  abbrev OwesAlike : {v v' : Serving} {b b' : Book} → IsOn plan count v b → IsOn plan count v' b' → Type 0
  OwesAlike h h' = (length (since_of h') ≡ length (since_of h)) × (length (recent_of h') ≡ length (recent_of h))

  -- a serving of the same session and requests, whatever its port told: what it owes went into the book, or stands there still
  on_moved : (v v' : Serving) (b b' : Book) (replies : List GramOut) (h : IsOn plan count v b) → b' ≡ record b { replies = replies } → v'.session ≡ v.session → v'.count ≡ v.count → v'.desk.gateway ≡ v.desk.gateway → v'.desk.requests.items ≡ v.desk.requests.items → (v'.over ≡ false → v.over ≡ false) →
      replies ++ v'.desk.outbox.items ≡ b.replies ++ v.desk.outbox.items → All (IsOwed (map heard_as b.grams)) replies → All (IsOwed (map heard_as b.grams)) v'.desk.outbox.items → length v'.desk.outbox.items ≤ length v.desk.outbox.items →
      (h' : IsOn plan count v' b') × OwesAlike h h'
  on_moved v v' b b' replies h put session counts gateway requests yet all answered owed less =
      let grams : b'.grams ≡ b.grams = ap (λ (x : Book). x.grams) put in
      let sent : b'.replies ≡ replies = ap (λ (x : Book). x.replies) put in
      let c = course_same plan count v.session v'.session b.frames b'.frames b.grams b'.grams v.desk.requests.items v'.desk.requests.items h.owed b.switch b'.switch b.switched b'.switched v.over v'.over (length (since_of h)) (length (recent_of h)) session (ap (λ (x : Book). x.frames) put) grams requests (ap (λ (x : Book). x.switch) put) (ap (λ (x : Book). x.switched) put) yet (h.course, h.switch, h.switched, h.waited, refl, refl) in (
        record {
          underway = same_on plan count v.session v'.session b b' h.underway (session_same v.session v'.session session) (ap (λ (s : SessionState). s.master.lan) session) (ap (λ (x : Book). x.frames) put) (switch_same put refl refl refl) (ap (λ (x : Book). x.slaves) put);
          counts = counts ∙ h.counts;
          few = subst (λ (l : List GramIn). length l ≤ count) (sym grams) h.few;
          fits = h.fits;
          bounded = h.bounded;
          is_plan = h.is_plan;
          owed = h.owed;
          course = c.0;
          switch = c.1;
          switched = c.2;
          waited = c.3;
          prompt = let most = h.prompt in subst (λ (n : ℕ). length v'.desk.outbox.items ≤ n) (sym c.5) (omega (arith, less, most));
          spelled = spelled_same (map heard_as b.grams) (map heard_as b'.grams) h.owed (b.replies ++ v.desk.outbox.items) (b'.replies ++ v'.desk.outbox.items) (ap (map heard_as) grams) (ap (λ (l : List GramOut). l ++ v'.desk.outbox.items) sent ∙ all) h.spelled;
          sound = subst (λ (l : List GramIn). IsSound (map heard_as l) v'.desk) (sym grams) (sound_same (map heard_as b.grams) v.desk v'.desk gateway requests owed h.sound);
          answered = subst (λ (l : List GramIn). All (IsOwed (map heard_as l)) b'.replies) (sym grams) (subst (All (IsOwed (map heard_as b.grams))) (sym sent) answered);
          judged = subst (All (IsRightly (map home_of plan.slaves))) (sym grams) h.judged;
        },
        (c.4, c.5),
      )

  -- one of the same parts
  on_same : (v v' : Serving) (b : Book) (h : IsOn plan count v b) → v'.session ≡ v.session → v'.count ≡ v.count → v'.desk.outbox.items ≡ v.desk.outbox.items → v'.desk.gateway ≡ v.desk.gateway → v'.desk.requests.items ≡ v.desk.requests.items → (v'.over ≡ false → v.over ≡ false) →
      (h' : IsOn plan count v' b) × OwesAlike h h'
  on_same v v' b h session counts outbox gateway requests yet =
      on_moved v v' b b b.replies h refl session counts gateway requests yet (ap (λ (l : List GramOut). b.replies ++ l) outbox) h.answered (subst (All (IsOwed (map heard_as b.grams))) (sym outbox) h.sound.owed)
      (let n = ap length outbox in omega (arith, n))

  -- a desk of the same parts
  still : (now : Told) (v v' : Serving) (b : Book) (h : IsServing plan count first now v b) → v'.session ≡ v.session → v'.count ≡ v.count → v'.over ≡ v.over → v'.desk.outbox.items ≡ v.desk.outbox.items → v'.desk.gateway ≡ v.desk.gateway →
      v'.desk.requests.items ≡ v.desk.requests.items → (h' : IsServing plan count first now v' b) × OwesAlike h.on h'.on
  still now v v' b h session counts over outbox gateway requests =
      let o = on_same v v' b h.on session counts outbox gateway requests (λ e. sym over ∙ e) in
      (record { on = o.0; heard = h.heard; sent = h.sent; over = λ e. h.over (sym over ∙ e); later = h.later }, o.1)

  pub same_desk : (now : Told) (v v' : Serving) (b : Book) → IsServing plan count first now v b → v'.session ≡ v.session → v'.count ≡ v.count → v'.over ≡ v.over → v'.desk.outbox.items ≡ v.desk.outbox.items → v'.desk.gateway ≡ v.desk.gateway →
      v'.desk.requests.items ≡ v.desk.requests.items → IsServing plan count first now v' b
  same_desk now v v' b h session counts over outbox gateway requests = (still now v v' b h session counts over outbox gateway requests).0

  -- the buffer of what was heard last doesn't matter
  pub same_gram : (now : Told) (v v' : Serving) (b : Book) → v'.session ≡ v.session → v'.desk ≡ v.desk → v'.count ≡ v.count → v'.over ≡ v.over → IsHearing plan count first now v b → IsHearing plan count first now v' b
  same_gram now v v' b session desk counts over h =
      let outbox = ap (λ (d : Desk). d.outbox.items) desk in
      let s = still now v v' b h.serving session counts over outbox (ap (λ (d : Desk). d.gateway) desk) (ap (λ (d : Desk). d.requests.items) desk) in
      record { serving = s.0; fresh = fresh_so (length v.desk.outbox.items) (length v'.desk.outbox.items) (length (since_of h.serving.on)) (length (since_of s.0.on)) (ap length outbox) s.1.0 h.fresh }

  -- a turn begins with nothing that is still to be sent
  pub hears_first : (now : Told) (v : Serving) (b : Book) → v.desk.outbox.items ≡ [] → IsServing plan count first now v b → IsHearing plan count first now v b
  hears_first now v b none h = record { serving = h; fresh = let n = ap length none in omega (arith, n) }

  -- so many frames that they can be counted
  pub sent_few : {v : Serving} {b : Book} → IsOn plan count v b → length b.frames < 4294967296
  sent_few {v} {b} on =
      let s = has_frames plan count v.session b b on.underway refl refl in
      let few = s.few in
      let most = on.bounded in
      omega (arith, few, most)

  module _ (now next : Told) (v v' : Serving) (b b' : Book) (before : IsHearing plan count first now v b) where
    -- a datagram was taken
    pub took : (peer : Peer) (octets : List ℕ) → length v.desk.requests.items < 64 → Listens now next (heards.From peer) octets → length b.grams < v.count → v.over ≡ false → Takes v.session.homes peer octets b b' →
        (IsSound (map heard_as b.grams) v.desk → IsSound (map heard_as b'.grams) v'.desk) → TakesSo v.session v'.session v.desk v'.desk b b' → b' ≡ record b { grams = b'.grams } → AsksMails v.session v'.session → SameLan v.session v'.session → v'.count ≡ v.count → v'.over ≡ v.over →
        IsHearing plan count first next v' b'
    took peer octets few l room yet t sound so same asks lan counts over =
        let h = before.serving in
        let g = t.gram in
        let grams : map heard_as b'.grams ≡ map heard_as b.grams ++ heard_as g ∷ [] = ap (map heard_as) t.put ∙ map_push heard_as b.grams g in
        let frames = ap (λ (x : Book). x.frames) same in
        let sent = ap (λ (x : Book). x.replies) same in
        let homes = h.on.underway.homes in
        let c = course_same plan count v'.session v'.session b.frames b'.frames (b.grams ++ so.gram ∷ []) b'.grams v'.desk.requests.items v'.desk.requests.items (h.on.owed ++ so.taken.more) b.switch b'.switch b.switched b'.switched v'.over v'.over (length (since_of h.on ++ so.taken.more)) (length (since_of h.on ++ so.taken.more)) refl frames so.put refl (ap (λ (x : Book). x.switch) same) (ap (λ (x : Book). x.switched) same) (λ e. e) (
          hears v.session v'.session b.frames b.grams so.gram v.desk.requests.items v'.desk.requests.items h.on.owed so.taken.more h.on.course (so.frame (sent_few h.on)) few so.taken.judges,
          h.on.switch,
          h.on.switched,
          subst (Waited plan count v.session b.frames b.grams v.desk.requests.items h.on.owed h.on.course) yet h.on.waited,
          refl,
          refl,
        ) in
        let told : heard_as g ≡ record { from = peer; bytes = octets } = ap (λ (p : Peer). record { from = p; bytes = g.bytes }) t.from_peer ∙ ap (λ (o : List ℕ). record { from = peer; bytes = o }) t.with_octets in
        let fresh : length v'.desk.outbox.items ≤ length (since_of h.on ++ so.taken.more) =
        fresh_more (length v.desk.outbox.items) (length v'.desk.outbox.items) (length (since_of h.on)) (length so.taken.more) (length (since_of h.on ++ so.taken.more)) (owes_length (map heard_as b'.grams) so.taken.more v.desk.outbox.items v'.desk.outbox.items so.taken.owes)
        (length-append (since_of h.on) so.taken.more) before.fresh in
        record {
          serving = record {
            on = record {
              underway = same_on plan count v.session v'.session b b' h.on.underway asks lan (ap (λ (x : Book). x.frames) same) (switch_same same refl refl refl) (ap (λ (x : Book). x.slaves) same);
              counts = counts ∙ h.on.counts;
              few = let n = ap length t.put ∙ length-append b.grams (g ∷ []) in let c = h.on.counts in omega (arith, n, c, room);
              fits = h.on.fits;
              bounded = h.on.bounded;
              is_plan = h.on.is_plan;
              sound = sound h.on.sound;
              answered = subst (λ (rs : List GramOut). All (IsOwed (map heard_as b'.grams)) rs) (sym (ap (λ (x : Book). x.replies) same))
                  (subst (λ (l : List HeardGram). All (IsOwed l) b.replies) (sym grams) (all_owed_more (map heard_as b.grams) (heard_as g ∷ []) b.replies h.on.answered));
              judged = subst (All (IsRightly (map home_of plan.slaves))) (sym t.put) (All-push (IsRightly (map home_of plan.slaves)) b.grams g h.on.judged (subst (λ (l : List (ℕ × ℕ)). IsRightly l g) homes t.judged));
              owed = h.on.owed ++ so.taken.more;
              course = c.0;
              switch = c.1;
              switched = c.2;
              waited = c.3;
              prompt = subst (λ (n : ℕ). length v'.desk.outbox.items ≤ n) (sym c.5) fresh;
              spelled = spelled_on (map heard_as b'.grams) h.on.owed so.taken.more b.replies b'.replies v.desk.outbox.items v'.desk.outbox.items sent
                  (subst (λ (l : List HeardGram). AreSpelled l h.on.owed (b.replies ++ v.desk.outbox.items)) (sym grams) (spelled_more (map heard_as b.grams) (heard_as g ∷ []) h.on.owed (b.replies ++ v.desk.outbox.items) h.on.spelled)) so.taken.owes;
            };
            heard = subst (AreHeard first.heard next.heard) (sym t.put) (heard_on first.heard now.heard next.heard b.grams g peer octets told h.heard l.hears);
            sent = subst (AreSent first.sent next.sent) (sym (ap (λ (x : Book). x.replies) same)) (sent_kept first.sent now.sent next.sent b.replies h.sent l.sent);
            over = λ e. l.over ∙ h.over (sym over ∙ e);
            later = let a = h.later in let b = l.later in omega (arith, a, b);
          };
          fresh = subst (λ (n : ℕ). length v'.desk.outbox.items ≤ n) (sym c.4) fresh;
        }

  -- a serving that heard nothing, by what its port tells
  pub listened : (now next : Told) (v : Serving) (b : Book) → IsHearing plan count first now v b → Unheard now.heard next.heard → next.sent ≡ now.sent → (v.over ≡ true → next.over ≡ true) → now.faults ≤ next.faults →
      IsHearing plan count first next v b
  listened now next v b before heard sent over later = let h = before.serving in record {
    serving = record {
      on = h.on;
      heard = heard_same first.heard now.heard next.heard b.grams h.heard heard;
      sent = sent_kept first.sent now.sent next.sent b.replies h.sent sent;
      over = over;
      later = let a = h.later in omega (arith, a, later);
    };
    fresh = before.fresh;
  }

  pub quiet : (now next : Told) (v : Serving) (b : Book) (octets : List ℕ) → IsHearing plan count first now v b → Listens now next heards.Quiet octets → IsHearing plan count first next v b
  quiet now next v b octets h l = listened now next v b h (quiet_heard now.heard next.heard octets l.hears) l.sent (λ e. l.over ∙ h.serving.over e) l.later

  -- the port ended
  pub over : (now next : Told) (v v' : Serving) (b : Book) (octets : List ℕ) → v'.session ≡ v.session → v'.desk ≡ v.desk → v'.count ≡ v.count → v'.over ≡ true → IsHearing plan count first now v b → Listens now next heards.Ended octets → IsHearing plan count first next v' b
  over now next v v' b octets session desk counts ended before l =
      let h = before.serving in
      let outbox = ap (λ (d : Desk). d.outbox.items) desk in
      let o = on_same v v' b h.on session counts outbox (ap (λ (d : Desk). d.gateway) desk) (ap (λ (d : Desk). d.requests.items) desk) (λ e. absurd (cc)) in
      record {
        serving = record {
          on = o.0;
          heard = heard_same first.heard now.heard next.heard b.grams h.heard (ended_heard now.heard next.heard octets l.hears);
          sent = sent_kept first.sent now.sent next.sent b.replies h.sent l.sent;
          over = λ e. l.over;
          later = let a = h.later in let b = l.later in omega (arith, a, b);
        };
        fresh = fresh_so (length v.desk.outbox.items) (length v'.desk.outbox.items) (length (since_of h.on)) (length (since_of o.0)) (ap length outbox) o.1.0 before.fresh;
      }

  -- the port failed at listening
  pub failed : (now next : Told) (v : Serving) (b : Book) (octets : List ℕ) → IsHearing plan count first now v b → Hears now.heard next.heard octets (Err errors.Failed) → next.sent ≡ now.sent → next.over ≡ now.over → Rose now.faults next.faults → now.faults ≤ next.faults →
      IsFaulted plan count first next v b
  failed now next v b octets before heard sent over rose later =
      let h = before.serving in
      let same = sent_kept first.sent now.sent next.sent b.replies h.sent sent in
      record {
        on = h.on;
        heard = heard_same first.heard now.heard next.heard b.grams h.heard (failed_heard now.heard next.heard octets heard);
        sent = inl same;
        prompt = inl (same, before.fresh);
        over = λ e. over ∙ h.over e;
        rose = rose_since first.faults now.faults next.faults h.later rose later;
      }

  -- a frame was sent
  pub stepped : (now : Told) (v v' : Serving) (b b' : Book) (f : SentFrame) → IsHearing plan count first now v b → v.session.ring.number < v.session.budget → Steps v.session b v'.session b' f → (happened : FrameEvents) → SwitchGrows v.session b happened b' → ServingGoesOn v.session v'.session happened f → has_live v.session.master ≡ true →
      (IsDone v.session → ⊥) → MaySend v b → NotesAll (events_of v'.session.master) v.desk v'.desk → v'.count ≡ v.count → v'.over ≡ v.over → IsServing plan count first now v' b'
  stepped now v v' b b' f before left step happened grows led live busy may notes counts over =
      let h = before.serving in
      let told = notes (map heard_as b.grams) h.on.sound in
      let sound = told.sound in
      let more = owed_by_all (events_of v'.session.master) v.desk.requests.items in
      let left_now = left_by_all (events_of v'.session.master) v.desk.requests.items in
      let grams = step.rest.grams in
      let replies = step.rest.replies in
      let grown = grows plan.host h.on.underway.switched in
      let c = course_same plan count v'.session v'.session (b.frames ++ f ∷ []) b'.frames b.grams b'.grams left_now v'.desk.requests.items (h.on.owed ++ more) (b.switch ++ (happened.making ++ happened.behind)) b'.switch (b.switched ++ numbers_over (length b.frames) happened) b'.switched v.over v'.over 0 (length (since_of h.on ++ more)) refl step.put grams told.requests grown.switch
      (grown.switched ∙ ap (λ n. b.switched ++ numbers_over n happened) (sym (many_sent plan count v.session b h.on.underway))) (λ e. sym over ∙ e) (
        steps v.session v'.session b.frames f b.grams v.desk.requests.items h.on.owed h.on.course
            (record { recorded = step.recorded; ring = step.ring; homes = step.homes; asked = step.asked; recover = step.recover; live = live; busy = busy; happened = happened; led = led }),
        ap (λ z. z ++ (happened.making ++ happened.behind)) h.on.switch,
        ap (λ z. z ++ numbers_over (length b.frames) happened) h.on.switched,
        (subst (λ (n : ℕ). MayGo v.over n (length b.frames) b.grams v.desk.requests.items) h.on.counts (may (sent_few h.on)), h.on.waited),
        refl,
        refl,
      ) in
      record {
        on = record {
          underway = stepped_on plan count v.session b v'.session b' f h.on.underway left step;
          counts = counts ∙ h.on.counts;
          few = subst (λ (l : List GramIn). length l ≤ count) (sym grams) h.on.few;
          fits = h.on.fits;
          bounded = h.on.bounded;
          is_plan = h.on.is_plan;
          sound = subst (λ (l : List GramIn). IsSound (map heard_as l) v'.desk) (sym grams) sound;
          answered = subst (λ (l : List GramIn). All (IsOwed (map heard_as l)) b'.replies) (sym grams) (subst (All (IsOwed (map heard_as b.grams))) (sym replies) h.on.answered);
          judged = subst (All (IsRightly (map home_of plan.slaves))) (sym grams) h.on.judged;
          owed = h.on.owed ++ more;
          course = c.0;
          switch = c.1;
          switched = c.2;
          waited = c.3;
          prompt = subst (λ (n : ℕ). length v'.desk.outbox.items ≤ n) (sym c.5)
              (fresh_more (length v.desk.outbox.items) (length v'.desk.outbox.items) (length (since_of h.on)) (length more) (length (since_of h.on ++ more)) (owes_length (map heard_as b.grams) more v.desk.outbox.items v'.desk.outbox.items told.owes) (length-append (since_of h.on) more) before.fresh);
          spelled = subst (λ (l : List GramIn). AreSpelled (map heard_as l) (h.on.owed ++ more) (b'.replies ++ v'.desk.outbox.items)) (sym grams)
              (spelled_on (map heard_as b.grams) h.on.owed more b.replies b'.replies v.desk.outbox.items v'.desk.outbox.items replies h.on.spelled told.owes);
        };
        heard = subst (AreHeard first.heard now.heard) (sym grams) h.heard;
        sent = subst (AreSent first.sent now.sent) (sym replies) h.sent;
        over = λ e. h.over (sym over ∙ e);
        later = h.later;
      }

  pub frames_cut : (now : Told) (v : Serving) (b b' : Book) → IsServing plan count first now v b → v.session.ring.number < v.session.budget → Stops v.session b b' → HasSent plan count b'
  frames_cut now v b b' h left stop = stopped plan count v.session b b' h.on.underway left stop

  -- a datagram went from what is owed into the book
  handed_on : (v v' : Serving) (b b' : Book) (r : GramOut) (h : IsOn plan count v b) → v'.session ≡ v.session → v'.count ≡ v.count → v.desk.outbox.items ≡ r ∷ v'.desk.outbox.items → v'.desk.gateway ≡ v.desk.gateway → v'.desk.requests.items ≡ v.desk.requests.items → v'.over ≡ v.over →
      PutsOne r b b' → (h' : IsOn plan count v' b') × OwesAlike h h'
  handed_on v v' b b' r h session counts outbox gateway requests over put =
      let owed : All (IsOwed (map heard_as b.grams)) (r ∷ v'.desk.outbox.items) = subst (All (IsOwed (map heard_as b.grams))) outbox h.sound.owed in
      on_moved v v' b b' (b.replies ++ r ∷ []) h put session counts gateway requests (λ e. sym over ∙ e)
      (append_assoc b.replies (r ∷ []) v'.desk.outbox.items ∙ ap (λ (l : List GramOut). b.replies ++ l) (sym outbox))
      (All-push (IsOwed (map heard_as b.grams)) b.replies r h.answered (All-head (IsOwed (map heard_as b.grams)) r v'.desk.outbox.items owed))
      (All-tail (IsOwed (map heard_as b.grams)) r v'.desk.outbox.items owed) (let n = ap length outbox in omega (arith, n))

  module _ (now next : Told) (v v' : Serving) (b b' : Book) (r : GramOut) (h : IsServing plan count first now v b) (session : v'.session ≡ v.session) (counts : v'.count ≡ v.count) (over' : v'.over ≡ v.over)
      (outbox : v.desk.outbox.items ≡ r ∷ v'.desk.outbox.items) (gateway : v'.desk.gateway ≡ v.desk.gateway) (requests : v'.desk.requests.items ≡ v.desk.requests.items) where
    pub handed : SentOne r now next b b' → IsServing plan count first next v' b'
    handed s = record {
      on = (handed_on v v' b b' r h.on session counts outbox gateway requests over' s.puts).0;
      heard = subst (AreHeard first.heard next.heard) (sym (ap (λ (x : Book). x.grams) s.puts)) (heard_kept first.heard now.heard next.heard b.grams h.heard s.heard);
      sent = subst (AreSent first.sent next.sent) (sym (ap (λ (x : Book). x.replies) s.puts)) (sent_on first.sent now.sent next.sent b.replies r h.sent s.sent);
      over = λ e. s.over ∙ h.over (sym over' ∙ e);
      later = let a = h.later in let b = s.later in omega (arith, a, b);
    }

    pub not_handed : FailedOne r now next b b' → IsFaulted plan count first next v' b'
    not_handed s = let o = handed_on v v' b b' r h.on session counts outbox gateway requests over' s.puts in record {
      on = o.0;
      prompt = inr (fewer_left (length v.desk.outbox.items) (length v'.desk.outbox.items) (length (recent_of h.on)) (length (recent_of o.0)) (ap length outbox) o.1.1 h.on.prompt);
      heard = subst (AreHeard first.heard next.heard) (sym (ap (λ (x : Book). x.grams) s.puts)) (heard_kept first.heard now.heard next.heard b.grams h.heard s.heard);
      sent = subst (AreSentBut first.sent next.sent) (sym (ap (λ (x : Book). x.replies) s.puts)) (sent_but first.sent now.sent next.sent b.replies r h.sent s.sent);
      over = λ e. s.over ∙ h.over (sym over' ∙ e);
      rose = rose_since first.faults now.faults next.faults h.later s.rose s.later;
    }

    pub all_handed : (e : Result (Unit {0}) Stop) → SendsOne r now next b b' e → Goes plan count first next v' b' e
    all_handed (Ok done) s = handed s
    all_handed (Err stops.PortFault) s = not_handed s
    all_handed (Err stops.NoMemory) s = has_frames plan count v.session b b' h.on.underway (ap (λ (x : Book). x.frames) s) (ap (λ (x : Book). x.switch) s)

  -- the port failed at listening, or memory ran out there
  pub listen_failed : {T : Type 0} (now next : Told) (v : Serving) (b : Book) (octets : List ℕ) (e : PortErr) (r : Result T Stop) → IsHearing plan count first now v b → Hears now.heard next.heard octets (Err e) → next.sent ≡ now.sent → next.over ≡ now.over →
      (e ≡ errors.Failed → Rose now.faults next.faults) → now.faults ≤ next.faults → r ≡ Err (stop_of e) → GoesHearing plan count first next v b r
  listen_failed now next v b octets errors.Failed r h heard sent over rose later is = subst (GoesHearing plan count first next v b) (sym is) (failed now next v b octets h heard sent over (rose refl) later)
  listen_failed now next v b octets errors.NoMemory r h heard sent over rose later is = subst (GoesHearing plan count first next v b) (sym is) (has_frames plan count v.session b b h.serving.on.underway refl refl)

  -- the frames of a serving
  pub frames_of : (now : Told) (v : Serving) (b b' : Book) → IsServing plan count first now v b → b'.frames ≡ b.frames → b'.switch ≡ b.switch → HasSent plan count b'
  frames_of now v b b' h frames switch = has_frames plan count v.session b b' h.on.underway frames switch

  pub goes_without : (S : Type 0) {T : Type 0} (now : Told) (v : Serving) (b : Book) (r : Result T Stop) → r ≡ Err stops.NoMemory → HasSent plan count b → GoesTo S plan count first now v b r
  goes_without S now v b r is sent = subst (GoesTo S plan count first now v b) (sym is) sent

  -- an error is passed on
  pub goes_so : (S S' : Type 0) {T T' : Type 0} (now : Told) (v : Serving) (b : Book) (e : Stop) (r : Result T Stop) (r' : Result T' Stop) → r ≡ Err e → r' ≡ Err e → GoesTo S plan count first now v b r → GoesTo S' plan count first now v b r'
  goes_so S S' now v b stops.PortFault r r' is is' g = subst (GoesTo S' plan count first now v b) (sym is') (subst (GoesTo S plan count first now v b) is g)
  goes_so S S' now v b stops.NoMemory r r' is is' g = subst (GoesTo S' plan count first now v b) (sym is') (subst (GoesTo S plan count first now v b) is g)
