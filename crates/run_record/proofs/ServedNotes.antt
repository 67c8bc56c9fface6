-- WHAT IS NOTED OF ROWS BESIDE THE SCRIPTS over a serving goes with the lives of its slaves: their answers, and whether one is in hand; by one kind of rows.
use Rattle.std.proofs.Common.{◌≡◌, ◌==◌, ◌<◌, ◌+◌, ℕ, zero, suc, Bool, true, false, Option, Some, None, List, [], ◌∷◌, ◌++◌, length, map, refl, sym, ap, ◌∙◌, subst, arith}
use Rattle.std.specs.Prelude.{◌&&◌, if◌then◌else◌, slice_get}
use Rattle.served_places.specs.of_datagrams.Datagram as Raw
use Rattle.packets_heard.specs.of_master_node.Backtold.{known_at, returned_at, returned_told}
use Rattle.packets_heard.specs.of_master_node.Begins.{begun_of}
use Rattle.packets_heard.specs.of_master_node.Eager.{recalls}
use Rattle.packets_heard.specs.of_master_node.Events.{oldest_in}
use Rattle.packets_heard.specs.of_master_node.Lifetold.{lost_at}
use Rattle.packets_heard.specs.of_master_node.Listing.{events_in, told_in}
use Rattle.packets_heard.specs.of_master_node.Serving.{IsServedUnder, ServedUnder, run_lead, run_turn}
use Rattle.packets_heard.specs.of_master_node.Wants.{gave_of}
use Rattle.packets_heard.specs.of_master_node.declared.event.Event.{Event}
use Rattle.packets_heard.specs.of_master_node.declared.event.Origin.{Origin}
use Rattle.packets_heard.specs.of_master_node.declared.node.MasterNode.{MasterNode}
use Rattle.packets_heard.specs.of_master_node.declared.post.Post.{Post}
use Rattle.plan_ring.specs.of_frame_view.Seen.{seen}
use Rattle.plan_ring.specs.of_frame_view.View.{Lens}
use Rattle.plan_ring.specs.of_frame_view.Shares.{AllThree, Lived}
use Rattle.served_places.specs.of_life_model.Lives.{Life}
use Rattle.served_places.specs.of_life_runs.First.{first_leads, lens_of}
use Rattle.served_places.specs.of_life_runs.Led.{Exchanged, Leads, Turn, gives_up_at, missed_behind, speech_at}
use Rattle.served_places.specs.of_link_mails.Body.{Body}
use Rattle.packets_heard.specs.of_segment_plan.declared.service.Service as Plan
use Rattle.served_places.specs.of_master_duty.Reply.{Reply}
use Rattle.served_places.specs.of_state_model.Stated.{Service}
use Rattle.served_places.specs.of_master_hand.Spoken.{Asked}
use Rattle.served_places.specs.of_master_hand.declared.hand.InHand.{InHand}
use Rattle.served_places.specs.of_master_side.declared.hand.Hand.{Ghosts}
use Rattle.served_places.specs.of_master_tour.Brings.{accepted_in}
use Rattle.served_places.specs.of_master_tour.Goes.{holds_at}
use Rattle.served_places.specs.of_master_tour.Made.{is_in}
use Rattle.served_places.specs.of_master_tour.declared.stop.Stop.{Stop}
use Rattle.served_places.specs.of_segment_model.Returned.{Returns}
use Rattle.packets_heard.specs.Numbers.{each_with}
use Rattle.packets_heard.specs.Over.{packet_begun}
use Rattle.packets_heard.specs.Servings.{served_begun}
use Rattle.run_notes.proofs.Handings.{kinds_append}
use Rattle.run_notes.specs.Handed.{AllDoubts, AllWhere, Doubts, GoesBy, IsBeside, IsNotedWhere, MailsGo, Sound, has_where, kinds_in, noted_where}
use Rattle.run_notes.specs.Notes.{new_notes}
use Rattle.run_notes.specs.Packets.{begun_noted, mail_row, numbered_from, packet_row, rows_at, rows_with}
use Rattle.run_notes.specs.Reports.{AllReport, Reports}
use Rattle.run_notes.specs.Slaves.{first_notes, gaves_noted, scripted}
use Rattle.run_notes.specs.declared.notes.Notes.{Notes}
use Rattle.run_record.proofs.MailEvents.{in_kinds, losts_none, returned_off, told_here, told_none}
use Rattle.run_record.proofs.MailLives.{Goes}
use Rattle.run_record.proofs.MailNotes.{back_handed, lost_handed}
use Rattle.run_record.proofs.Noted.{next_gives}
use Rattle.run_record.proofs.ServedGaves.{one_gives}
use Rattle.run_record.specs.Forwarded.{PacketsNoted}
use Rattle.run_record.specs.Mails.{mail_begun, overs_behind, served_mails}
use Rattle.run_record.specs.Served.{ServeTo, events_behind}
use Rattle.served_places.specs.of_run_frames.ScriptAnswers.{turned}
use Rattle.packets_heard.specs.of_segment_plan.declared.plan.Scenario.{Scenario}
use Rattle.packets_heard.specs.of_segment_plan.declared.slave.SlaveSpec.{SlaveSpec}
use Rattle.served_places.specs.of_segment_ring.declared.wire.Fate.TheVariants as Fates
use Rattle.served_places.specs.of_segment_ring.declared.wire.Fate.{Fate}
use Rattle.served_places.specs.of_life_runs.Served.{AllServedTurn, IsServedFrame, IsServedLed, IsServedTurn, ServedTurn, Serves, all_serve, served_behind, served_life}

-- ---- at a place

pub none_at : {X P : Type 0} (k : ℕ) (x : X) → slice_get [] k ≡ Some x → P
none_at k x e = absurd (let bad : None ≡ Some x = e in cc)

map_at : {X Y : Type 0} (g : X → Y) (xs : List X) (k : ℕ) (x : X) → slice_get xs k ≡ Some x → slice_get (map g xs) k ≡ Some (g x)
map_at g [] k x e = none_at k x e
map_at g (y ∷ xs) zero x e = ap (λ z. Some (g z)) (let same : y ≡ x = cc in same)
map_at g (y ∷ xs) (suc k) x e = map_at g xs k x e

of_map : {X Y : Type 0} (g : X → Y) (xs : List X) (k : ℕ) (y : Y) → slice_get (map g xs) k ≡ Some y → (x : X) × (slice_get xs k ≡ Some x) × (g x ≡ y)
of_map g [] k y e = none_at k y e
of_map g (x ∷ xs) zero y e = (x, refl, let same : g x ≡ y = cc in same)
of_map g (x ∷ xs) (suc k) y e = of_map g xs k y e

one_there : {X : Type 0} (o : Option X) (x y : X) → o ≡ Some x → o ≡ Some y → x ≡ y
one_there o x y e f = let all : Some x ≡ Some y = sym e ∙ f in cc

holds_here : {X : Type 0} (test : X → Bool) (xs : List X) (k : ℕ) (x : X) → slice_get xs k ≡ Some x → holds_at test xs k ≡ test x
holds_here test [] k x e = none_at k x e
holds_here test (y ∷ xs) zero x e = ap test (let same : y ≡ x = cc in same)
holds_here test (y ∷ xs) (suc k) x e = holds_here test xs k x e

begun_here : (vs : List ServedTurn) (k : ℕ) (v : ServedTurn) → slice_get vs k ≡ Some v → begun_of (map run_turn vs) k ≡ v.turn.begun
begun_here [] k v e = none_at k v e
begun_here (u ∷ vs) zero v e = ap (λ (z : ServedTurn). z.turn.begun) (let same : u ≡ v = cc in same)
begun_here (u ∷ vs) (suc k) v e = begun_here vs k v e

rows_here : {X : Type 0} (row : Origin → ℕ → List X) (notes : List Notes) (k : ℕ) (n : Notes) → slice_get notes k ≡ Some n → rows_at row (begun_noted notes) k ≡ rows_with row n.begun
rows_here row [] k n e = none_at k n e
rows_here row (m ∷ notes) zero n e = ap (λ (z : Notes). rows_with row z.begun) (let same : m ≡ n = cc in same)
rows_here row (m ∷ notes) (suc k) n e = rows_here row notes k n e

within : (notes : List Notes) (k : ℕ) (n : Notes) → slice_get notes k ≡ Some n → k < length (begun_noted notes)
within [] k n e = none_at k n e
within (m ∷ notes) zero n e = omega arith
within (m ∷ notes) (suc k) n e = let l = within notes k n e in omega (arith, l)

gave_here : (notes : List Notes) (as' : List Leads) (k : ℕ) (n : Notes) (a : Leads) → gaves_noted notes ≡ map gave_of as' → slice_get notes k ≡ Some n → slice_get as' k ≡ Some a → n.gave ≡ gave_of a
gave_here [] as' k n a e f g = none_at k n f
gave_here (m ∷ notes) [] k n a e f g = none_at k a g
gave_here (m ∷ notes) (b ∷ as') zero n a e f g =
    let h : m.gave ≡ gave_of b = cc in let q : m ≡ n = cc in let r : b ≡ a = cc in ap (λ (z : Notes). z.gave) (sym q) ∙ h ∙ ap gave_of r
gave_here (m ∷ notes) (b ∷ as') (suc k) n a e f g = gave_here notes as' k n a (let h : gaves_noted notes ≡ map gave_of as' = cc in h) f g

report_at : (as' : List Leads) (notes : List Notes) → AllReport as' notes → (k : ℕ) (n : Notes) → slice_get notes k ≡ Some n → (a : Leads) × (slice_get as' k ≡ Some a) × Reports a n
report_at [] [] r k n e = none_at k n e
report_at [] (m ∷ notes) r k n e = absurd r
report_at (a ∷ as') [] r k n e = none_at k n e
report_at (a ∷ as') (m ∷ notes) r zero n e = (a, refl, subst (λ (z : Notes). Reports a z) (let same : m ≡ n = cc in same) r.0)
report_at (a ∷ as') (m ∷ notes) r (suc k) n e = report_at as' notes r.1 k n e

turn_at : (lens : ℕ → Lens) (made : ℕ) (ds : List Raw.Datagram) (ws : List Serves) (vs : List ServedTurn) → AllServedTurn lens made ds ws vs → (k : ℕ) (v : ServedTurn) → slice_get vs k ≡ Some v → (w : Serves) × (slice_get ws k ≡ Some w) × IsServedTurn lens made ds w v
turn_at lens made ds [] [] t k v e = none_at k v e
turn_at lens made ds [] (u ∷ vs) t k v e = absurd t
turn_at lens made ds (w ∷ ws) [] t k v e = absurd t
turn_at lens made ds (w ∷ ws) (u ∷ vs) t zero v e = (w, refl, subst (λ (z : ServedTurn). IsServedTurn lens made ds w z) (let same : u ≡ v = cc in same) t.0)
turn_at lens made ds (w ∷ ws) (u ∷ vs) t (suc k) v e = turn_at lens made ds ws vs t.1 k v e

module _ {G : Ghosts InHand} (lens : ℕ → Lens) (recover made : ℕ) (octets : List ℕ) where
  pub record UnderAt (ss : List (Stop InHand G)) (k : ℕ) (v : ServedTurn) : Type 0 where
    pub post : Post
    pub stop : Stop InHand G
    pub there : slice_get ss k ≡ Some stop
    pub under : IsServedUnder lens recover octets made v post stop

  under_at : (vs : List ServedTurn) (ps : List Post) (ss : List (Stop InHand G)) → AllThree (λ v p s. IsServedUnder lens recover octets made v p s) vs ps ss → (k : ℕ) (v : ServedTurn) → slice_get vs k ≡ Some v → UnderAt ss k v
  under_at [] ps ss h k v e = none_at k v e
  under_at (u ∷ vs) [] [] h k v e = absurd h
  under_at (u ∷ vs) [] (s ∷ ss) h k v e = absurd h
  under_at (u ∷ vs) (p ∷ ps) [] h k v e = absurd h
  under_at (u ∷ vs) (p ∷ ps) (s ∷ ss) h zero v e = record { post = p; stop = s; there = refl; under = subst (λ (z : ServedTurn). IsServedUnder lens recover octets made z p s) (let same : u ≡ v = cc in same) h.0 }
  under_at (u ∷ vs) (p ∷ ps) (s ∷ ss) h (suc k) v e = let r = under_at vs ps ss h.1 k v e in record { post = r.post; stop = r.stop; there = r.there; under = r.under }

-- ---- OF ALL SLAVES

-- WHAT IS NOTED OF A SLAVE BEFORE A FRAME: what came into hand is in doubt, and just those mails that are passed on and packets have rows that did
pub record IsTurnNoted (made : ℕ) (w : Serves) (v : ServedTurn) (mails : List (ℕ × ℕ)) (frames : List ℕ) (number : ℕ) (n n' : Notes) : Type 0 where
  pub doubts : Doubts n n'
  pub reports : Reports w.lead n
  pub reports_on : Reports (turned v.turn) n'
  pub mailed : rows_with mail_row n.begun ≡ mails
  pub mailed_on : rows_with mail_row n'.begun ≡ mails ++ mail_begun number made v.turn.begun
  pub rows : rows_with packet_row n.begun ≡ numbered_from 0 frames
  pub rows_on : rows_with packet_row n'.begun ≡ numbered_from 0 (frames ++ each_with made (packet_begun v.turn.begun))

-- of lost frames no answer is told
none_lost : (k : ℕ) (vs : List ServedTurn) (ws : List Serves) (ps : List ℕ) → kinds_in k (told_in (λ j. lost_at vs ws j) ps) ≡ []
none_lost k vs ws [] = refl
none_lost k vs ws (p ∷ ps) = kinds_append k (lost_at vs ws p) (told_in (λ j. lost_at vs ws j) ps) ∙ (λ i. losts_none k vs ws p i ++ none_lost k vs ws ps i)

module _ (plan : Scenario) (fs : List Exchanged) (missed : ℕ) (ws : List Serves) (led : ServeTo plan fs missed ws) (f : Exchanged) (vs : List ServedTurn) (frame : IsServedFrame (lens_of plan.slaves) (length fs) f.sent ws vs) (m0 m n : MasterNode) (old mid new : List Notes) where
  abbrev lens : ℕ → Lens
  lens = lens_of plan.slaves

  abbrev gives : Bool
  gives = gives_up_at lens plan.recover plan.retry missed

  abbrev goes_to : ServedTurn → Serves
  goes_to v = served_behind lens plan.recover plan.retry gives (length fs) f v

  abbrev pub behind : List Serves
  behind = map goes_to vs

  abbrev pub lives : IsServedLed lens plan.recover plan.retry (all_serve plan.paces (first_leads plan)) (fs ++ f ∷ []) (missed_behind lens plan.recover plan.retry f.fate missed) behind
  lives = IsServedLed.on fs missed ws f vs led frame

  -- the slave behind a frame of this fate, and what one that came back tells of it
  abbrev pub lived_by : Fate → ServedTurn → Lived Asked Reply
  lived_by fate v = served_life lens plan.recover plan.retry gives (length fs) f fate v

  abbrev pub tells : ℕ → ServedTurn → Life Body Asked Reply → List Event
  tells k v l = returned_told (speech_at lens v.turn.lived.spot) (known_at (recalls n) k) k v.hand (accepted_in v.turn.lived.spot v.turn.lived.life (seen lens f.back)) v.turn.lived.life l v.turn.lived.life.stand

  -- what is known of the frame, and of what is noted
  pub record Known : Type 0 where
    pub under : ServedUnder lens plan.recover plan.retry m f.sent missed (length fs) vs
    pub returned : f.fate ≡ Fates.Pass → Returns (seen lens f.sent) (seen lens f.back)
    pub lists : events_in n ≡ told_in (λ k. events_behind lens f f.fate (recalls n) vs behind k) m.tour.visit.items
    pub packets : PacketsNoted (λ k. served_begun led k) (λ k. served_mails led k) m0 old
    pub packets_on : PacketsNoted (λ k. served_begun lives k) (λ k. served_mails lives k) n new
    pub same : begun_noted new ≡ begun_noted mid
    pub doubts : AllDoubts old mid
    pub goes : MailsGo (length fs) (λ k. kinds_in k (events_in n)) mid new
    pub reports : AllReport (map run_lead ws) old
    pub turned_reports : AllReport (map turned (map run_turn vs)) mid
    pub gave : gaves_noted mid ≡ map gave_of (map run_lead ws)
    pub gave_on : gaves_noted new ≡ map gave_of (map run_lead behind)

  -- ROWS OF ONE KIND over the frame, of one slave: whether one is in hand by its life, those that came into hand, and when those before were over
  pub record GoesOver (test : Origin → Bool) (has : Lived Asked Reply → Bool) (opens : Option (Service Asked) → List (Option ℕ)) (overs : ℕ → List (Option ℕ)) : Type 0 where
    pub beside : IsBeside test
    pub turns : (k : ℕ) (w : Serves) (v : ServedTurn) (t : IsServedTurn lens (length fs) frame.datagrams w v) (n0 n1 : Notes) → IsTurnNoted (length fs) w v (served_mails led k) (served_begun led k) (oldest_in ws k) n0 n1 → IsNotedWhere test (overs k) (has w.lead.lived) n0 →
        IsNotedWhere test (overs k ++ opens v.turn.begun) (has v.turn.lived) n1
    pub returns : (k : ℕ) (w : Serves) (v : ServedTurn) (t : IsServedTurn lens (length fs) frame.datagrams w v) → slice_get vs k ≡ Some v → (u : UnderAt lens plan.recover (length fs) f.sent m.tour.stops.items k v) → f.fate ≡ Fates.Pass → (visits : Bool) → (u.stop.under ≡ true → visits ≡ true) →
        Goes (has v.turn.lived) (has (lived_by Fates.Pass v)) (if visits then kinds_in k (tells k v (lived_by Fates.Pass v).life) else [])
    pub loses : (k : ℕ) (w : Serves) (v : ServedTurn) (t : IsServedTurn lens (length fs) frame.datagrams w v) (u : UnderAt lens plan.recover (length fs) f.sent m.tour.stops.items k v) (after : ℕ) →
        has (lived_by (Fates.Lost after) v) ≡ (has v.turn.lived && length (lived_by (Fates.Lost after) v).life.gave == length v.turn.lived.life.gave)

  module _ (z : Known) (test : Origin → Bool) (has : Lived Asked Reply → Bool) (opens : Option (Service Asked) → List (Option ℕ)) (overs : ℕ → List (Option ℕ)) (kind : GoesOver test has opens overs) (noted : AllWhere test overs (λ k. holds_at (λ (a : Leads). has a.lived) (map run_lead ws) k) old) where
    -- the slave at a place
    module _ (k : ℕ) (n2 : Notes) (at2 : slice_get new k ≡ Some n2) (n1 : Notes) (at1 : slice_get mid k ≡ Some n1) (by : GoesBy (length fs) (kinds_in k (events_in n)) n1 n2) (n0 : Notes) (at0 : slice_get old k ≡ Some n0) (d : Doubts n0 n1)
        (v : ServedTurn) (at_v : slice_get vs k ≡ Some v) (r1 : Reports (turned v.turn) n1) (w : Serves) (at_w : slice_get ws k ≡ Some w) (t : IsServedTurn lens (length fs) frame.datagrams w v) where
      r0 : Reports w.lead n0
      r0 =
          let r = report_at (map run_lead ws) old z.reports k n0 at0 in
          subst (λ (a : Leads). Reports a n0) (one_there (slice_get (map run_lead ws) k) r.0 w.lead r.1 (map_at run_lead ws k w at_w)) r.2

      begun_is : begun_of (map run_turn vs) k ≡ v.turn.begun
      begun_is = begun_here vs k v at_v

      turn_noted : IsTurnNoted (length fs) w v (served_mails led k) (served_begun led k) (oldest_in ws k) n0 n1
      turn_noted = record {
        doubts = d;
        reports = r0;
        reports_on = r1;
        mailed = sym (rows_here mail_row old k n0 at0) ∙ z.packets.mailed k (within old k n0 at0);
        mailed_on = sym (rows_here mail_row mid k n1 at1) ∙ ap (λ x. rows_at mail_row x k) (sym z.same) ∙ z.packets_on.mailed k (within new k n2 at2) ∙ ap (λ x. served_mails led k ++ mail_begun (oldest_in ws k) (length fs) x) begun_is;
        rows = sym (rows_here packet_row old k n0 at0) ∙ z.packets.rows k (within old k n0 at0);
        rows_on = sym (rows_here packet_row mid k n1 at1) ∙ ap (λ x. rows_at packet_row x k) (sym z.same) ∙ z.packets_on.rows k (within new k n2 at2) ∙ ap (λ x. numbered_from 0 (served_begun led k ++ each_with (length fs) (packet_begun x))) begun_is;
      }

      before_it : IsNotedWhere test (overs k ++ opens v.turn.begun) (has v.turn.lived) n1
      before_it = kind.turns k w v t n0 n1 turn_noted (subst (λ (b : Bool). IsNotedWhere test (overs k) b n0) (holds_here (λ (a : Leads). has a.lived) (map run_lead ws) k w.lead (map_at run_lead ws k w at_w)) (noted k n0 at0))

      sound : Sound n1
      sound = record { aligned = r1.aligned; last = r1.last }

      gave1 : n1.gave ≡ gave_of w.lead
      gave1 = gave_here mid (map run_lead ws) k n1 w.lead z.gave at1 (map_at run_lead ws k w at_w)

      gave2 : n2.gave ≡ (goes_to v).lead.lived.life.gave
      gave2 = gave_here new (map run_lead behind) k n2 (goes_to v).lead z.gave_on at2 (map_at run_lead behind k (goes_to v) (map_at goes_to vs k v at_v))

      abbrev at_stop : UnderAt lens plan.recover (length fs) f.sent m.tour.stops.items k v
      at_stop = under_at lens plan.recover (length fs) f.sent vs m.posts.items m.tour.stops.items z.under.each k v at_v

      -- of a frame that came back
      abbrev tells_by : ℕ → ServedTurn → Serves → List Event
      tells_by j v w = tells j v w.lead.lived.life

      others : (p : ℕ) → (p == k) ≡ false → kinds_in k (returned_at lens (seen lens f.back) (recalls n) vs behind p) ≡ []
      others p off =
          told_none k (λ v w. tells_by p v w)
          (λ v w. returned_off k p off (speech_at lens v.turn.lived.spot) (known_at (recalls n) p) v.hand (accepted_in v.turn.lived.spot v.turn.lived.life (seen lens f.back)) v.turn.lived.life w.lead.lived.life v.turn.lived.life.stand) vs behind p

      carried : at_stop.stop.under ≡ true → is_in k m.tour.visit.items ≡ true
      carried e = z.under.carried k (holds_here (λ s. s.under) m.tour.stops.items k at_stop.stop at_stop.there ∙ e)

      by_pass : f.fate ≡ Fates.Pass → Goes (has v.turn.lived) (has (lived_by Fates.Pass v)) (kinds_in k (events_in n))
      by_pass e =
          let listed : events_in n ≡ told_in (λ j. returned_at lens (seen lens f.back) (recalls n) vs behind j) m.tour.visit.items = z.lists ∙ ap (λ (x : Fate). told_in (λ j. events_behind lens f x (recalls n) vs behind j) m.tour.visit.items) e in
          let its : kinds_in k (events_in n) ≡ (if is_in k m.tour.visit.items then kinds_in k (tells k v (lived_by f.fate v).life) else []) =
          ap (λ x. kinds_in k x) listed ∙ in_kinds k (λ j. returned_at lens (seen lens f.back) (recalls n) vs behind j) others m.tour.visit.items z.under.goes.comes.once
          ∙ ap (λ x. if is_in k m.tour.visit.items then kinds_in k x else []) (told_here (λ v w. tells_by k v w) goes_to vs k v at_v) in
          subst (λ x. Goes (has v.turn.lived) (has (lived_by Fates.Pass v)) x) (sym its)
          (subst (λ (x : Lived Asked Reply). Goes (has v.turn.lived) (has (lived_by Fates.Pass v)) (if is_in k m.tour.visit.items then kinds_in k (tells k v x.life) else [])) (sym (ap (λ (x : Fate). lived_by x v) e))
          (kind.returns k w v t at_v at_stop e (is_in k m.tour.visit.items) carried))

      after_it : IsNotedWhere test (overs_behind f.fate (length fs) (has v.turn.lived) (has (goes_to v).lead.lived) (overs k ++ opens v.turn.begun)) (has (goes_to v).lead.lived) n2
      after_it = go f.fate refl
        where
          go : (fate : Fate) → f.fate ≡ fate → IsNotedWhere test (overs_behind f.fate (length fs) (has v.turn.lived) (has (goes_to v).lead.lived) (overs k ++ opens v.turn.begun)) (has (goes_to v).lead.lived) n2
          go Fates.Pass e =
              let alike : length n2.gave ≡ length n1.gave = ap length (gave2 ∙ ap (λ (x : Fate). (lived_by x v).life.gave) e ∙ one_gives lens plan.recover plan.retry (length fs) frame.datagrams w v t gives f Fates.Pass ∙ sym gave1) in
              subst (λ (x : Fate). IsNotedWhere test (overs_behind x (length fs) (has v.turn.lived) (has (lived_by x v)) (overs k ++ opens v.turn.begun)) (has (lived_by x v)) n2) (sym e)
              (back_handed test kind.beside (length fs) (kinds_in k (events_in n)) n1 n2 (overs k ++ opens v.turn.begun) (has v.turn.lived) (has (lived_by Fates.Pass v)) before_it sound by (by_pass e) alike)
          go (Fates.Lost lasts) e =
              let none : kinds_in k (events_in n) ≡ [] = ap (λ x. kinds_in k x) (z.lists ∙ ap (λ (x : Fate). told_in (λ j. events_behind lens f x (recalls n) vs behind j) m.tour.visit.items) e) ∙ none_lost k vs behind m.tour.visit.items in
              let now : n2.gave ≡ (lived_by (Fates.Lost lasts) v).life.gave = gave2 ∙ ap (λ (x : Fate). (lived_by x v).life.gave) e in
              let was : v.turn.lived.life.gave ≡ n1.gave = next_gives lens (length fs) w.lead.lived v.turn.lived t.next ∙ sym gave1 in
              subst (λ (x : Fate). IsNotedWhere test (overs_behind x (length fs) (has v.turn.lived) (has (lived_by x v)) (overs k ++ opens v.turn.begun)) (has (lived_by x v)) n2) (sym e)
              (lost_handed test kind.beside (length fs) n1 n2 (overs k ++ opens v.turn.begun) (has v.turn.lived) (has (lived_by (Fates.Lost lasts) v)) before_it sound (subst (λ x. GoesBy (length fs) x n1 n2) none by)
              (kind.loses k w v t at_stop lasts ∙ (λ i. has v.turn.lived && length (sym now i) == length (was i))))

      -- as the serving has it
      one_noted : IsNotedWhere test (overs_behind f.fate (length fs) (holds_at (λ (u : Turn). has u.lived) (map run_turn vs) k) (holds_at (λ (a : Leads). has a.lived) (map run_lead behind) k) (overs k ++ opens (begun_of (map run_turn vs) k))) (holds_at (λ (a : Leads). has a.lived) (map run_lead behind) k) n2
      one_noted =
          let is : holds_at (λ (a : Leads). has a.lived) (map run_lead behind) k ≡ has (goes_to v).lead.lived = holds_here (λ (a : Leads). has a.lived) (map run_lead behind) k (goes_to v).lead (map_at run_lead behind k (goes_to v) (map_at goes_to vs k v at_v)) in
          let was : holds_at (λ (u : Turn). has u.lived) (map run_turn vs) k ≡ has v.turn.lived = holds_here (λ (u : Turn). has u.lived) (map run_turn vs) k v.turn (map_at run_turn vs k v at_v) in
          subst (λ (b : Bool). IsNotedWhere test (overs_behind f.fate (length fs) (holds_at (λ (u : Turn). has u.lived) (map run_turn vs) k) b (overs k ++ opens (begun_of (map run_turn vs) k))) b n2) (sym is)
          (subst (λ (b : Bool). IsNotedWhere test (overs_behind f.fate (length fs) b (has (goes_to v).lead.lived) (overs k ++ opens (begun_of (map run_turn vs) k))) (has (goes_to v).lead.lived) n2) (sym was)
          (subst (λ (b : Option (Service Asked)). IsNotedWhere test (overs_behind f.fate (length fs) (has v.turn.lived) (has (goes_to v).lead.lived) (overs k ++ opens b)) (has (goes_to v).lead.lived) n2) (sym begun_is) after_it))

    -- JUST THEIR ANSWERS ARE NOTED behind the frame
    pub all_noted : AllWhere test (λ k. overs_behind f.fate (length fs) (holds_at (λ (u : Turn). has u.lived) (map run_turn vs) k) (holds_at (λ (a : Leads). has a.lived) (map run_lead behind) k) (overs k ++ opens (begun_of (map run_turn vs) k)))
        (λ k. holds_at (λ (a : Leads). has a.lived) (map run_lead behind) k) new
    all_noted = λ k n2 at2.
        let g = z.goes k n2 at2 in
        let d = z.doubts k g.0 g.1 in
        let r = report_at (map turned (map run_turn vs)) mid z.turned_reports k g.0 g.1 in
        let u = of_map turned (map run_turn vs) k r.0 r.1 in
        let v = of_map run_turn vs k u.0 u.1 in
        let r1 : Reports (turned v.0.turn) g.0 = subst (λ (a : Leads). Reports a g.0) (sym (ap turned v.2 ∙ u.2)) r.2 in
        let w = turn_at lens (length fs) frame.datagrams ws vs frame.each k v.0 v.1 in
        one_noted k n2 at2 g.0 g.1 g.2 d.0 d.1 d.2 v.0 v.1 r1 w.0 w.1 w.2

-- BEFORE THE FIRST FRAME there is none
pub first_noted : (test : Origin → Bool) (services : List (ℕ × Plan.Service)) (number : ℕ) (specs : List SlaveSpec) (goes : ℕ → Bool) → ((k : ℕ) → goes k ≡ false) → AllWhere test (λ k. []) goes (first_notes services number specs)
first_noted test services number specs goes none = λ k n at. record { answers = (first k number specs n at).0; hand = (first k number specs n at).1 ∙ sym (none k) }
  where
    first : (k number : ℕ) (specs : List SlaveSpec) (n : Notes) → slice_get (first_notes services number specs) k ≡ Some n → (noted_where test n ≡ []) × (has_where test n ≡ false)
    first k number [] n at = none_at k n at
    first zero number (s ∷ specs) n at = subst (λ (z : Notes). (noted_where test z ≡ []) × (has_where test z ≡ false)) (let same : new_notes (scripted services number) ≡ n = cc in same) (refl, refl)
    first (suc k) number (s ∷ specs) n at = first k (number + 1) specs n at
