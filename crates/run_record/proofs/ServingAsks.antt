-- A mail is asked of a slave of a serving, or none is, as its master has it.
use Rattle.std.proofs.Common.{◌≡◌, ◌≢◌, ◌<◌, ℕ, zero, suc, Bool, true, false, List, [], ◌∷◌, ◌++◌, length, map, refl, sym, ap, ◌∙◌, subst}
use Rattle.std.proofs.lemmas.List.{length-map}
use Rattle.plan_ring.specs.of_mailbox_mail.declared.mail.Mail.{Mail}
use Rattle.packets_heard.proofs.of_master_node.Servings.{keyed, leads_same}
use Rattle.packets_heard.specs.of_master_node.Eager.{recall_of, recalls}
use Rattle.packets_heard.specs.of_master_node.Happened.{events_of}
use Rattle.packets_heard.specs.of_master_node.Lives.{waiting_at, waiting_of}
use Rattle.packets_heard.specs.of_master_node.Numbered.{IsNumbered}
use Rattle.packets_heard.specs.of_master_node.Origins.{forwards_at}
use Rattle.packets_heard.specs.of_master_node.Recalled.{AllKnow}
use Rattle.packets_heard.specs.of_master_node.Rooms.{FitAgain}
use Rattle.packets_heard.specs.of_master_node.Serving.{FitsAt, IsAsked, IsServed, ServedShows, run_lead}
use Rattle.packets_heard.specs.of_master_node.Shows.{GoesOn}
use Rattle.packets_heard.specs.of_master_node.Toured.{tour_of}
use Rattle.packets_heard.specs.of_master_node.Wants.{gave_of}
use Rattle.packets_heard.specs.of_master_node.declared.node.MasterNode.{MasterNode}
use Rattle.packets_heard.specs.of_master_node.declared.post.Post.{Post}
use Rattle.plan_ring.specs.of_frame_view.View.{Lens}
use Rattle.plan_ring.specs.of_frame_view.Shares.{AllBoth, AllThree}
use Rattle.served_places.specs.of_life_runs.First.{lens_of}
use Rattle.served_places.specs.of_life_runs.Led.{Exchanged, Leads}
use Rattle.served_places.specs.of_master_hand.declared.hand.InHand.{InHand}
use Rattle.served_places.specs.of_master_side.declared.hand.Hand.{Ghosts}
use Rattle.served_places.specs.of_master_tour.Walks.{StepsAt}
use Rattle.served_places.specs.of_master_tour.declared.stop.Stop.{Stop}
use Rattle.packets_heard.specs.Servings.{served_begun}
use Rattle.run_notes.specs.Handed.{AllHanded, AllWhere, IsHanded, IsNotedWhere, is_packet}
use Rattle.run_notes.specs.Heard.{emergencies_noted}
use Rattle.run_notes.specs.Reports.{AllReport}
use Rattle.run_notes.specs.Slaves.{gaves_noted}
use Rattle.run_notes.specs.declared.notes.Notes.{Notes}
use Rattle.run_notes.specs.declared.standing.AskedMail.{AskedMail}
use Rattle.run_record.proofs.Fits.{has_room, home_fits}
use Rattle.run_record.proofs.ServedBegan.{packets_stay}
use Rattle.run_record.proofs.ServedForwards.{served_asked, served_stays}
use Rattle.run_record.proofs.ServedRecalls.{recalled_asked, recalled_stays}
use Rattle.run_record.specs.Mails.{passing_at, served_mails, served_overs}
use Rattle.run_record.specs.Recalling.{state_of}
use Rattle.run_record.specs.Served.{ServeTo, ServingAsks, as_asked}
use Rattle.run_record.specs.Session.{SessionState, asked_mail, asked_more}
use Rattle.run_record.specs.Written.{forwards_now, served_written}
use Rattle.packets_heard.specs.of_segment_plan.declared.plan.Scenario.{Scenario}
use Rattle.served_places.proofs.of_life_runs.First.{apart_from, have_lens}
use Rattle.served_places.specs.of_life_runs.Served.{IsServedLed, Keyed, MayAsk, Serves, asked_at}

-- the mails that were asked of a slave, as the session has them, and how many wait for it
abbrev pub mails_of : Serves → List AskedMail
mails_of w = map as_asked w.asked

abbrev pub left_of : Serves → ℕ
left_of w = length w.waits

-- AS MANY WAIT as at the posts
posts_wait : {G : Ghosts InHand} (lens : ℕ → Lens) (recover made : ℕ) (ws : List Serves) (ps : List Post) (ss : List (Stop InHand G)) → AllThree (λ w p s. IsServed lens recover made w p s) ws ps ss → map left_of ws ≡ map waiting_of ps
posts_wait lens recover made [] [] [] h = refl
posts_wait lens recover made [] [] (s ∷ ss) h = absurd h
posts_wait lens recover made [] (p ∷ ps) [] h = absurd h
posts_wait lens recover made [] (p ∷ ps) (s ∷ ss) h = absurd h
posts_wait lens recover made (w ∷ ws) [] [] h = absurd h
posts_wait lens recover made (w ∷ ws) [] (s ∷ ss) h = absurd h
posts_wait lens recover made (w ∷ ws) (p ∷ ps) [] h = absurd h
posts_wait lens recover made (w ∷ ws) (p ∷ ps) (s ∷ ss) h = λ i. (ap length (sym h.0.waits) ∙ length-map p.mails.items keyed) i ∷ posts_wait lens recover made ws ps ss h.1 i

pub shown_wait : (lens : ℕ → Lens) (recover retry missed made : ℕ) (m : MasterNode) (ws : List Serves) → ServedShows lens recover retry m missed made ws → map left_of ws ≡ map waiting_of m.posts.items
shown_wait lens recover retry missed made m ws h = posts_wait lens recover made ws m.posts.items m.tour.stops.items h.each

-- ONE MAIL MORE
more_asked : (ks : List Keyed) (k : Keyed) → map as_asked (ks ++ k ∷ []) ≡ map as_asked ks ++ as_asked k ∷ []
more_asked [] k = refl
more_asked (x ∷ xs) k = ap (λ z. as_asked x ∷ z) (more_asked xs k)

same_mail : (key : ℕ) (mail : Mail) (k : Keyed) → IsAsked key mail k → as_asked k ≡ asked_mail key mail
same_mail key mail k i = λ j. record { key = i.key_is j; kind = i.kind j; body = i.body j }

asked_rows : (key place : ℕ) (mail : Mail) (k : Keyed) (ws : List Serves) → IsAsked key mail k → map mails_of (asked_at place k ws) ≡ asked_more (map mails_of ws) place (asked_mail key mail)
asked_rows key zero mail k [] i = refl
asked_rows key (suc place) mail k [] i = refl
asked_rows key zero mail k (w ∷ ws) i =
    ap (λ z. z ∷ map mails_of ws) (more_asked w.asked k ∙ ap (λ z. map as_asked w.asked ++ z ∷ []) (same_mail key mail k i))
asked_rows key (suc place) mail k (w ∷ ws) i = ap (λ z. mails_of w ∷ z) (asked_rows key place mail k ws i)

asked_passing : (place : ℕ) (m : Keyed) (ws : List Serves) (k : ℕ) → passing_at (asked_at place m ws) k ≡ passing_at ws k
asked_passing zero m [] k = refl
asked_passing (suc place) m [] k = refl
asked_passing zero m (w ∷ ws) zero = refl
asked_passing zero m (w ∷ ws) (suc k) = refl
asked_passing (suc place) m (w ∷ ws) zero = refl
asked_passing (suc place) m (w ∷ ws) (suc k) = asked_passing place m ws k

-- what its hands know stays, and what is noted of packets
recalls_stay : (m n : MasterNode) → n.tour ≡ m.tour → AllKnow (recalls m) → AllKnow (recalls n)
recalls_stay m n tour known = subst (λ z. AllKnow (map (λ s. recall_of s) z.stops.items)) (sym tour) known

abbrev WrittenSo : (plan : Scenario) (fs : List Exchanged) (missed : ℕ) (ws : List Serves) → ServeTo plan fs missed ws → List Notes → Type 0
WrittenSo plan fs missed ws lives notes = AllWhere is_packet (λ k. served_written lives k) (λ k. forwards_now (lens_of plan.slaves) (map run_lead ws) k) notes

packets_stay_noted : (plan : Scenario) (fs : List Exchanged) (missed : ℕ) (ws : List Serves) (lives : ServeTo plan fs missed ws) (notes notes' : List Notes) → notes' ≡ notes → WrittenSo plan fs missed ws lives notes → WrittenSo plan fs missed ws lives notes'
packets_stay_noted plan fs missed ws lives notes notes' same h = subst (λ (ns : List Notes). WrittenSo plan fs missed ws lives ns) (sym same) h

one_asked : (s s' : SessionState) (slave key : ℕ) (mail : Mail) →
    ((lens : ℕ → Lens) (recover retry missed made : ℕ) (ws : List Serves) → waiting_at s.master.posts.items slave < 64 → FitsAt lens slave (length mail.body.items) ws → ServedShows lens recover retry s.master missed made ws →
    (k : Keyed) × IsAsked key mail k × MayAsk lens slave k ws × ServedShows lens recover retry s'.master missed made (asked_at slave k ws)) →
    waiting_at s.master.posts.items slave ≢ 64 → s'.master.tour ≡ s.master.tour → s'.master.lan ≡ s.master.lan → s'.ring ≡ s.ring → s'.asked ≡ asked_more s.asked slave (asked_mail key mail) → s'.waiting ≡ map waiting_of s'.master.posts.items → s'.notes ≡ s.notes → ((k : ℕ) → forwards_at s'.master.posts.items k ≡ forwards_at s.master.posts.items k) → ServingAsks slave key mail s s' true
one_asked s s' slave key mail served apart tour lan ring asked waiting notes counts = λ plan fs home is there fits old.
    let lens = lens_of plan.slaves in
    let l = old.leading in
    let room = has_room plan fs l.missed slave s.master.posts.items l.serves l.lives (shown_wait lens plan.recover plan.retry l.missed (length fs) s.master l.serves l.shows) apart in
    let fit = home_fits plan fs l.missed (length mail.body.items) slave home l.serves (have_lens plan.slaves (apart_from [] 0 plan.slaves is.stations)) l.lives there fits in
    let more = served lens plan.recover plan.retry l.missed (length fs) l.serves room fit l.shows in
    let r = recalled_stays plan fs s.master s'.master (asked_at slave more.0 l.serves) (events_of old.rows) s.ring s'.ring tour ring (recalled_asked plan fs (tour_of s.master) l.serves slave more.0 (state_of s.master (events_of old.rows) s.ring) more.2 (l.toured, old.remembers)) in
    record {
      mail_asked = more.0;
      is = more.1;
      may = more.2;
      new = record {
        leading = record {
          missed = l.missed;
          serves = asked_at slave more.0 l.serves;
          lives = IsServedLed.asks fs l.missed l.serves slave more.0 l.lives more.2;
          shows = more.3;
          toured = r.0;
        };
        gave = ap gaves_noted notes ∙ old.gave ∙ ap (map gave_of) (sym (leads_same (λ a. a) slave more.0 l.serves));
        told = subst (λ (as' : List Leads). AllReport as' s'.notes) (sym (leads_same (λ a. a) slave more.0 l.serves)) (subst (λ (ns : List Notes). AllReport (map run_lead l.serves) ns) (sym notes) old.told);
        heard = ap emergencies_noted notes ∙ old.heard;
        asked = asked_rows key slave mail more.0 l.serves more.1 ∙ ap (λ z. asked_more z slave (asked_mail key mail)) old.asked ∙ sym asked;
        waiting = shown_wait lens plan.recover plan.retry l.missed (length fs) s'.master (asked_at slave more.0 l.serves) more.3 ∙ sym waiting;
        rows = old.rows;
        numbers = old.numbers;
        numbered = old.numbered;
        handed = λ k n at. subst (λ (z : Bool). IsHanded (served_overs l.lives k) z n) (sym (asked_passing slave more.0 l.serves k)) (subst (λ (ns : List Notes). AllHanded (λ k. served_overs l.lives k) (λ k. passing_at l.serves k) ns) (sym notes) old.handed k n at);
        knows = λ due. recalls_stay s.master s'.master tour (old.knows due);
        written = λ due k n at.
            subst (λ (as' : List Leads). IsNotedWhere is_packet (served_written l.lives k) (forwards_now lens as' k) n) (sym (leads_same (λ a. a) slave more.0 l.serves)) (packets_stay_noted plan fs l.missed l.serves l.lives s.notes s'.notes notes (old.written due) k n at);
        packets = packets_stay (λ k. served_begun l.lives k) (λ k. served_mails l.lives k) s.master s'.master s.notes s'.notes counts notes old.packets;
        forwarded = served_asked plan fs l.missed l.serves l.lives slave more.0 more.2 s'.master old.rows (leads_same (λ a. a) slave more.0 l.serves)
            (served_stays plan fs l.missed l.serves l.lives s.master s'.master old.rows tour lan old.forwarded);
        remembers = r.1;
      };
      missed = refl;
      serves = refl;
      rows = refl;
      numbers = refl;
    }

pub serving_asks : (t s s' : SessionState) (slave key : ℕ) (mail : Mail) → t ≡ s →
    ((lens : ℕ → Lens) (recover retry missed made : ℕ) (ws : List Serves) → waiting_at t.master.posts.items slave < 64 → FitsAt lens slave (length mail.body.items) ws → ServedShows lens recover retry t.master missed made ws →
    (k : Keyed) × IsAsked key mail k × MayAsk lens slave k ws × ServedShows lens recover retry s'.master missed made (asked_at slave k ws)) →
    waiting_at t.master.posts.items slave ≢ 64 → s'.master.tour ≡ t.master.tour → s'.master.lan ≡ t.master.lan → s'.ring ≡ t.ring → s'.asked ≡ asked_more s.asked slave (asked_mail key mail) → s'.waiting ≡ map waiting_of s'.master.posts.items → s'.notes ≡ t.notes → ((k : ℕ) → forwards_at s'.master.posts.items k ≡ forwards_at t.master.posts.items k) → ServingAsks slave key mail s s' true
serving_asks t s s' slave key mail view served apart tour lan ring asked waiting notes counts =
    subst (λ (z : SessionState). ServingAsks slave key mail z s' true) view (one_asked t s' slave key mail served apart tour lan ring (asked ∙ ap (λ (z : SessionState). asked_more z.asked slave (asked_mail key mail)) (sym view)) waiting notes counts)

-- NONE: its posts and its tour stay
all_stay : {S : Type 0} (i : ℕ) (xs ys : List S) → StepsAt (λ x y. y ≡ x) i xs ys → ys ≡ xs
all_stay zero [] ys e = absurd e
all_stay (suc i) [] ys e = absurd e
all_stay zero (x ∷ xs) [] e = absurd e
all_stay (suc i) (x ∷ xs) [] e = absurd e
all_stay zero (x ∷ xs) (y ∷ ys) e = λ j. e.0 j ∷ e.1 j
all_stay (suc i) (x ∷ xs) (y ∷ ys) e = λ j. e.0 j ∷ all_stay i xs ys e.1 j

shows_same : (lens : ℕ → Lens) (recover retry missed made : ℕ) (m n : MasterNode) (ws : List Serves) → n.tour ≡ m.tour → n.posts.items ≡ m.posts.items → n.made ≡ m.made → ServedShows lens recover retry m missed made ws → ServedShows lens recover retry n missed made ws
shows_same lens recover retry missed made m n ws tour posts number h = record {
  each = subst (λ z. AllThree (λ w p s. IsServed lens recover made w p s) ws n.posts.items z.stops.items) (sym tour) (subst (λ z. AllThree (λ w p s. IsServed lens recover made w p s) ws z m.tour.stops.items) (sym posts) h.each);
  distinct = h.distinct;
  goes = subst (λ z. GoesOn z.again z.visit.items z.opened (map run_lead ws)) (sym tour) h.goes;
  missed_is = ap (λ z. z.missed) tour ∙ h.missed_is;
  retry_is = ap (λ z. z.retry) tour ∙ h.retry_is;
  again = λ a. subst (λ z. FitAgain z.visit.items z.stops.items) (sym tour) (h.again (ap (λ z. z.again) (sym tour) ∙ a));
  made_is = number ∙ h.made_is;
  early = h.early;
  numbered = subst (λ z. AllBoth (λ w p. IsNumbered (length w.asked) p) ws z) (sym posts) h.numbered;
}

none_asked : (s s' : SessionState) (slave key : ℕ) (mail : Mail) → s'.master.tour ≡ s.master.tour → s'.master.lan ≡ s.master.lan → s'.ring ≡ s.ring → s'.master.made ≡ s.master.made → StepsAt (λ p q. q ≡ p) slave s.master.posts.items s'.master.posts.items →
    s'.asked ≡ s.asked → s'.waiting ≡ map waiting_of s'.master.posts.items → s'.notes ≡ s.notes → ServingAsks slave key mail s s' false
none_asked s s' slave key mail tour lan ring number stays asked waiting notes = λ plan fs old.
    let lens = lens_of plan.slaves in
    let l = old.leading in
    let shown = shows_same lens plan.recover plan.retry l.missed (length fs) s.master s'.master l.serves tour (all_stay slave s.master.posts.items s'.master.posts.items stays) number l.shows in
    let r = recalled_stays plan fs s.master s'.master l.serves (events_of old.rows) s.ring s'.ring tour ring (l.toured, old.remembers) in
    record {
      new = record {
        leading = record { missed = l.missed; serves = l.serves; lives = l.lives; shows = shown; toured = r.0 };
        gave = ap gaves_noted notes ∙ old.gave;
        told = subst (λ (ns : List Notes). AllReport (map run_lead l.serves) ns) (sym notes) old.told;
        heard = ap emergencies_noted notes ∙ old.heard;
        asked = old.asked ∙ sym asked;
        waiting = shown_wait lens plan.recover plan.retry l.missed (length fs) s'.master l.serves shown ∙ sym waiting;
        rows = old.rows;
        numbers = old.numbers;
        numbered = old.numbered;
        handed = subst (λ (ns : List Notes). AllHanded (λ k. served_overs l.lives k) (λ k. passing_at l.serves k) ns) (sym notes) old.handed;
        knows = λ due. recalls_stay s.master s'.master tour (old.knows due);
        written = λ due. packets_stay_noted plan fs l.missed l.serves l.lives s.notes s'.notes notes (old.written due);
        packets = packets_stay (λ k. served_begun l.lives k) (λ k. served_mails l.lives k) s.master s'.master s.notes s'.notes (λ k. ap (λ z. forwards_at z k) (all_stay slave s.master.posts.items s'.master.posts.items stays)) notes old.packets;
        forwarded = served_stays plan fs l.missed l.serves l.lives s.master s'.master old.rows tour lan old.forwarded;
        remembers = r.1;
      };
      missed = refl;
      serves = refl;
      rows = refl;
      numbers = refl;
    }

pub serving_stays : (t s s' : SessionState) (slave key : ℕ) (mail : Mail) → t ≡ s → s'.master.tour ≡ t.master.tour → s'.master.lan ≡ t.master.lan → s'.ring ≡ t.ring → s'.master.made ≡ t.master.made → StepsAt (λ p q. q ≡ p) slave t.master.posts.items s'.master.posts.items →
    s'.asked ≡ s.asked → s'.waiting ≡ map waiting_of s'.master.posts.items → s'.notes ≡ t.notes → ServingAsks slave key mail s s' false
serving_stays t s s' slave key mail view tour lan ring number stays asked waiting notes =
    subst (λ (z : SessionState). ServingAsks slave key mail z s' false) view (none_asked t s' slave key mail tour lan ring number stays (asked ∙ ap (λ (z : SessionState). z.asked) (sym view)) waiting notes)
