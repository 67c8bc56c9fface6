-- WHAT IS NOTED OF THE MAILS THAT ARE PASSED ON over a serving goes with the lives of its slaves: their answers, and whether one is in hand.
use Rattle.std.proofs.Common.{◌≡◌, ◌==◌, ◌≤◌, ℕ, Bool, true, false, Option, Some, None, List, [], ◌∷◌, ◌++◌, length, length-append, map, refl, sym, ap, ◌∙◌, subst, append-nil, arith}
use Rattle.std.specs.Prelude.{◌&&◌, is_some, nat_lt, nat_le, if◌then◌else◌, not}
use Rattle.std.proofs.lemmas.Bool.{eq-eqb, eqb-true, leb-true}
use Rattle.served_places.specs.of_datagrams.Datagram as Raw
use Rattle.served_places.specs.of_datagrams.Frame.{IsFrame, chained}
use Rattle.packets_heard.proofs.of_master_node.Counts.{lost_gave, next_stand}
use Rattle.packets_heard.proofs.of_master_node.Handeds.{comes_own, lost_on}
use Rattle.packets_heard.proofs.of_master_node.ServedJoins.{holds_map}
use Rattle.packets_heard.proofs.of_master_node.Serveds.{unread_behind}
use Rattle.packets_heard.specs.of_master_node.Backtold.{has_packet, known_at, returned_told}
use Rattle.packets_heard.specs.of_master_node.Begins.{begun_of}
use Rattle.packets_heard.specs.of_master_node.Eager.{recalls}
use Rattle.packets_heard.specs.of_master_node.Events.{oldest_in}
use Rattle.packets_heard.specs.of_master_node.Serving.{IsServedUnder, run_lead, run_turn}
use Rattle.packets_heard.specs.of_master_node.declared.event.Event.{Event}
use Rattle.packets_heard.specs.of_master_node.declared.event.Origin.TheVariants.{Forward, Gateway, Script}
use Rattle.packets_heard.specs.of_master_node.declared.event.Origin.{Origin}
use Rattle.packets_heard.specs.of_master_node.declared.node.MasterNode.{MasterNode}
use Rattle.packets_heard.specs.of_master_node.declared.post.Post.{Post}
use Rattle.plan_ring.specs.of_frame_view.Seen.{seen}
use Rattle.plan_ring.specs.of_frame_view.View.{Lens}
use Rattle.plan_ring.specs.of_frame_view.Shares.{Lived, came_at, given_where}
use Rattle.served_places.specs.of_exchange_model.Areas.{Areas}
use Rattle.served_places.specs.of_life_model.Lives.{Life, Stand, life_lost, reopening}
use Rattle.served_places.specs.of_life_runs.First.{lens_of}
use Rattle.served_places.specs.of_life_runs.Led.{Comes as OwnComes, Exchanged, Leads, Turn, gives_up_at, speech_at}
use Rattle.served_places.specs.of_life_runs.Spans.{is_open}
use Rattle.served_places.specs.of_link_mails.Body.{Body}
use Rattle.packets_heard.specs.of_segment_plan.declared.service.Service as Plan
use Rattle.served_places.specs.of_master_duty.Reply.{Reply}
use Rattle.served_places.specs.of_state_model.Stated.{Service}
use Rattle.served_places.specs.of_master_hand.Shown.{knows}
use Rattle.served_places.specs.of_master_hand.Spoken.{Asked, acknowledged, drive, file, is_followed, is_passed, net, passed, sdo}
use Rattle.served_places.specs.of_master_hand.declared.hand.InHand.{InHand}
use Rattle.served_places.specs.of_master_side.Passing.{news_back, news_lost, passing_behind}
use Rattle.served_places.specs.of_master_side.declared.hand.Hand.{Ghosts}
use Rattle.served_places.specs.of_master_tour.Brings.{accepted_in}
use Rattle.served_places.specs.of_master_tour.Goes.{holds_at}
use Rattle.served_places.specs.of_master_tour.declared.stop.Stop.{Stop}
use Rattle.served_places.specs.of_segment_model.Ends.{Passing}
use Rattle.served_places.specs.of_segment_model.Record.{News}
use Rattle.served_places.specs.of_segment_model.Returned.{Returns}
use Rattle.served_places.specs.of_segment_model.Slaves.{Found}
use Rattle.served_places.specs.of_state_model.Accounts.{is_free}
use Rattle.packets_heard.specs.Numbers.{each_with}
use Rattle.packets_heard.specs.Over.{packet_begun}
use Rattle.packets_heard.specs.Servings.{served_begun}
use Rattle.run_notes.specs.of_run_book.declared.book.Begun.{Begun}
use Rattle.run_notes.proofs.Packets.{with_append}
use Rattle.run_notes.specs.Handed.{AllHanded, IsHanded, is_mail, kinds_in}
use Rattle.run_notes.specs.Packets.{mail_row, numbered_from, packet_row, rows_with}
use Rattle.run_notes.specs.Unsent.{first_numbers, numbers_in, with_number}
use Rattle.run_notes.specs.declared.notes.Notes.{Notes}
use Rattle.run_record.proofs.MailLives.{Goes, back_goes, still_goes}
use Rattle.run_record.proofs.MailNotes.{Comes, begun_answers, mails_kind, turn_handed}
use Rattle.run_record.proofs.PacketLives.{back_goes as packet_goes, lost_same, unread_goes as packet_unread}
use Rattle.run_record.proofs.ServedNotes.{GoesOver, IsTurnNoted, Known, all_noted, behind, lives}
use Rattle.run_record.specs.Mails.{has_passing, mail_begun, mail_over, overs_behind, passing_at, passing_before, served_mails, served_overs}
use Rattle.run_record.specs.Served.{ServeTo}
use Rattle.run_record.specs.Written.{has_fragments}
use Rattle.packets_heard.specs.of_segment_plan.declared.plan.Scenario.{Scenario}
use Rattle.served_places.specs.of_segment_ring.declared.wire.Fate.TheVariants as Fates
use Rattle.served_places.specs.of_segment_ring.declared.wire.Fate.{Fate}
use Rattle.served_places.proofs.Next.{next_free, next_open, next_passing}
use Rattle.served_places.proofs.Unread.{unread_passing}
use Rattle.served_places.specs.of_life_runs.Served.{IsServedFrame, IsServedTurn, Keyed, ServedComes, ServedTurn, Serves, served_life}
use Rattle.served_places.specs.of_life_runs.Told.{Passed}

pub cancel : {X : Type 0} (xs ys zs : List X) → xs ++ ys ≡ xs ++ zs → ys ≡ zs
cancel [] ys zs e = e
cancel (x ∷ xs) ys zs e = cancel xs ys zs (let rest : xs ++ ys ≡ xs ++ zs = cc in rest)

and_false : (b : Bool) → (b && false) ≡ false
and_false true = refl
and_false false = refl

and_true : (b : Bool) → (b && true) ≡ b
and_true true = refl
and_true false = refl

-- ---- ONE SLAVE BEFORE A FRAME

number_more : (o : Origin) (ns ms : List ℕ) → with_number o (ns ++ ms) ≡ with_number o ns ++ ms
number_more (Script number) ns ms = refl
number_more (Forward number) ns ms = refl
number_more (Gateway number) ns ms = refl

pub numbers_append : (bs cs : List Begun) → numbers_in (bs ++ cs) ≡ numbers_in bs ++ numbers_in cs
numbers_append [] cs = refl
numbers_append (b ∷ bs) cs = ap (with_number b.origin) (numbers_append bs cs) ∙ number_more b.origin (numbers_in bs) (numbers_in cs)

-- nothing came into hand but a mail that is passed on: no service of the script, and no packet
abbrev IsBare : Option (Service Asked) → Type 0
IsBare b = mail_over b ≡ [] → b ≡ None

pub never_none : {P : Type 0} (s : Service Asked) → Some s ≡ None → P
never_none s e = absurd (cc)

no_packet : (frame : ℕ) (b : Option (Service Asked)) → IsBare b → each_with frame (packet_begun b) ≡ []
no_packet frame None h = refl
no_packet frame (Some (Service.State target)) h = never_none (Service.State target) (h refl)
no_packet frame (Some (Service.Mails (sdo q))) h = never_none (Service.Mails (sdo q)) (h refl)
no_packet frame (Some (Service.Mails (file q))) h = never_none (Service.Mails (file q)) (h refl)
no_packet frame (Some (Service.Mails (drive q))) h = never_none (Service.Mails (drive q)) (h refl)
no_packet frame (Some (Service.Mails (net q))) h = never_none (Service.Mails (net q)) (h refl)
no_packet frame (Some (Service.Mails (passed m))) h = refl

same_number : (room : ℕ) (script : List Plan.Service) (waits : List Keyed) (hand : Option Passed) (n : ℕ) (b : Option (Service Asked)) (m : ℕ) (rest : List Keyed) (now : Option Passed) → ServedComes room script waits hand n b m rest now → IsBare b → m ≡ n
same_number room script waits hand n _ _ _ _ ServedComes.none h = refl
same_number room script waits hand n _ _ _ _ (ServedComes.mail k rest e) h = refl
same_number room script waits hand n _ _ _ _ (ServedComes.own s m c) h = never_none s (h (over s c))
  where
    over : (s : Service Asked) → OwnComes room script n (Some s) m → mail_over (Some s) ≡ []
    over (Service.State target) c = refl
    over (Service.Mails q) c = ap (λ (z : Bool). if z then None ∷ [] else []) (comes_own room script n m (Some (Service.Mails q)) c q refl)

module _ (lens : ℕ → Lens) (made : ℕ) (ds : List Raw.Datagram) (w : Serves) (v : ServedTurn) (t : IsServedTurn lens made ds w v) where
  same_stand : v.turn.lived.life.stand ≡ w.lead.lived.life.stand
  same_stand =
      ap (λ (l : Life Body Asked Reply). l.stand) t.next.life ∙ next_stand (speech_at lens w.lead.lived.spot) acknowledged is_followed is_passed made w.lead.lived.life t.next.pick w.lead.lived.life.stand

  unpassed : (l : Life Body Asked Reply) → l.era.passing ≡ None → has_passing l ≡ false
  unpassed l e = ap (λ (p : Option Passing). is_open l.stand && is_some p) e ∙ and_false (is_open l.stand)

  passing_is : (b : Option (Service Asked)) → v.turn.begun ≡ b → v.turn.lived.life.era.passing ≡ passing_behind is_passed w.lead.lived.life.era.passing b
  passing_is b e = next_passing lens made ds w v t ∙ ap (λ z. passing_behind is_passed w.lead.lived.life.era.passing z) e

  turn_comes : (number frame : ℕ) → Comes v.turn.begun (mail_begun number frame v.turn.begun) (mail_over v.turn.begun) (has_passing w.lead.lived.life) (has_passing v.turn.lived.life)
  turn_comes number frame = by v.turn.begun refl
    where
      free : (s : Service Asked) → v.turn.begun ≡ Some s → w.lead.lived.life.era.passing ≡ None
      free s e = next_free lens made ds w v t s e

      by : (b : Option (Service Asked)) → v.turn.begun ≡ b → Comes v.turn.begun (mail_begun number frame v.turn.begun) (mail_over v.turn.begun) (has_passing w.lead.lived.life) (has_passing v.turn.lived.life)
      by None e = Comes.nothing e (ap (λ z. mail_begun number frame z) e) (λ i. is_open (same_stand i) && is_some (passing_is None e i))
      by (Some (Service.State target)) e =
          Comes.other (ap (λ z. mail_begun number frame z) e) (unpassed w.lead.lived.life (free (Service.State target) e)) (unpassed v.turn.lived.life (passing_is (Some (Service.State target)) e ∙ free (Service.State target) e))
      by (Some (Service.Mails q)) e = go (is_passed q) refl
        where
          go : (z : Bool) → is_passed q ≡ z → Comes v.turn.begun (mail_begun number frame v.turn.begun) (mail_over v.turn.begun) (has_passing w.lead.lived.life) (has_passing v.turn.lived.life)
          go true p =
              let now = passing_is (Some (Service.Mails q)) e ∙ ap (λ (z : Bool). if z then Some Passing.Waiting else w.lead.lived.life.era.passing) p in
              Comes.one (ap (λ z. mail_over z) e ∙ ap (λ (z : Bool). if z then None ∷ [] else []) p) (λ none. absurd (let bad : (number, frame) ∷ [] ≡ [] = sym (ap (λ z. mail_begun number frame z) e ∙ ap (λ (z : Bool). if z then (number, frame) ∷ [] else []) p) ∙ none in cc)) (unpassed w.lead.lived.life (free (Service.Mails q) e)) (λ i. is_open ((same_stand ∙ next_open lens made ds w v t (Service.Mails q) e) i) && is_some (now i))
          go false p =
              let now = passing_is (Some (Service.Mails q)) e ∙ ap (λ (z : Bool). if z then Some Passing.Waiting else w.lead.lived.life.era.passing) p in
              Comes.other (ap (λ z. mail_begun number frame z) e ∙ ap (λ (z : Bool). if z then (number, frame) ∷ [] else []) p) (unpassed w.lead.lived.life (free (Service.Mails q) e))
              (unpassed v.turn.lived.life (now ∙ free (Service.Mails q) e))

  turn_one : (n n' : Notes) (overs : List (Option ℕ)) (mails : List (ℕ × ℕ)) (frames : List ℕ) (number : ℕ) → IsTurnNoted made w v mails frames number n n' → IsHanded overs (has_passing w.lead.lived.life) n → IsHanded (overs ++ mail_over v.turn.begun) (has_passing v.turn.lived.life) n'
  turn_one n n' overs mails frames number o h =
      let d = o.doubts in
      let r = o.reports in
      let r' = o.reports_on in
      turn_handed is_mail mail_row packet_row mails_kind n n' overs (has_passing w.lead.lived.life) (has_passing v.turn.lived.life) v.turn.begun (mail_begun number made v.turn.begun) (mail_over v.turn.begun) d (record { aligned = r.aligned; last = r.last }) h
      (record {
        mails = cancel mails (rows_with mail_row d.more) (mail_begun number made v.turn.begun) (ap (λ z. z ++ rows_with mail_row d.more) (sym o.mailed) ∙ sym (ap (rows_with mail_row) d.begun ∙ with_append mail_row n.begun d.more) ∙ o.mailed_on);
        numbers = λ bare.
            let counts : n'.scripted ≡ n.scripted = r'.told.many ∙ same_number (lens w.lead.lived.spot.station).out w.lead.script w.waits w.hand w.lead.number v.turn.begun v.turn.number v.waits v.hand t.comes bare ∙ sym r.told.many in
            cancel (numbers_in n.begun) (numbers_in d.more) [] (sym (ap numbers_in d.begun ∙ numbers_append n.begun d.more) ∙ r'.rest.numbers ∙ ap first_numbers counts ∙ sym r.rest.numbers ∙ sym (append-nil (numbers_in n.begun)));
        answers = begun_answers number made v.turn.begun;
        outside = λ bare.
            cancel (rows_with packet_row n.begun) (rows_with packet_row d.more) []
            (sym (ap (rows_with packet_row) d.begun ∙ with_append packet_row n.begun d.more) ∙ o.rows_on ∙ ap (λ z. numbered_from 0 (frames ++ z)) (no_packet made v.turn.begun bare) ∙ ap (numbered_from 0) (append-nil frames) ∙ sym o.rows
            ∙ sym (append-nil (rows_with packet_row n.begun)));
      })
      (turn_comes number made)

-- ---- ONE SLAVE BEHIND A FRAME

module _ {G : Ghosts InHand} (lens : ℕ → Lens) (recover retry : ℕ) (gives : Bool) (made : ℕ) (ds : List Raw.Datagram) (f : Exchanged) (w : Serves) (v : ServedTurn) (is : IsFrame f.sent (chained ds)) (t : IsServedTurn lens made ds w v) (p : Post) (s : Stop InHand G) (u : IsServedUnder lens recover f.sent made v p s) where
  abbrev before : Life Body Asked Reply
  before = v.turn.lived.life

  abbrev pub after : Fate → Life Body Asked Reply
  after fate = (served_life lens recover retry gives made f fate v).life

  abbrev areas : Areas
  areas = record { out = (lens v.turn.lived.spot.station).out; back = (lens v.turn.lived.spot.station).back }

  abbrev pub told : ℕ → Bool → List Event
  told k known = returned_told (speech_at lens v.turn.lived.spot) known k v.hand (accepted_in v.turn.lived.spot before (seen lens f.back)) before (after Fates.Pass) before.stand

  abbrev ns : List (News Body)
  ns = news_back v.turn.lived.spot.station v.kept v.counts (seen lens f.back)

  abbrev came : Option (Bool × Option Found)
  came = came_at v.turn.share.under v.turn.share.at (seen lens f.back)

  abbrev ms : List Body
  ms = accepted_in v.turn.lived.spot before (seen lens f.back)

  pub pass_one : (k : ℕ) (known : Bool) (visits : Bool) → (s.under ≡ true → visits ≡ true) → Returns (seen lens f.sent) (seen lens f.back) → Goes (has_passing before) (has_passing (after Fates.Pass)) (if visits then kinds_in k (told k known) else [])
  pass_one k known visits carried returns = go visits refl
    where
      go : (b : Bool) → visits ≡ b → Goes (has_passing before) (has_passing (after Fates.Pass)) (if b then kinds_in k (told k known) else [])
      go true e = back_goes areas made k v.turn.lived.spot ns (seen lens f.back) known v.hand ms before came (knows s.side.hand.course) p.work u.served.handed u.served.inhand
      go false e =
          let named : 1 ≤ w.lead.lived.spot.station = leb-true 1 w.lead.lived.spot.station (subst (λ z. nat_le 1 z ≡ true) (u.served.lives.planned.stands.station_is ∙ ap (λ z. z.station) t.next.spot) s.named) in
          still_goes areas made k v.turn.lived.spot ns (seen lens f.back) known v.hand ms before came p.work u.served.handed (unread_passing lens recover retry gives made ds f w v is t returns named (left_out v.turn.share.under refl))
        where
          left_out : (b : Bool) → v.turn.share.under ≡ b → v.turn.share.under ≡ false
          left_out true f = absurd (let bad : true ≡ false = sym (carried (sym u.under ∙ f)) ∙ e in cc)
          left_out false f = f

  abbrev pub lost : Life Body Asked Reply
  lost = life_lost (speech_at lens v.turn.lived.spot) acknowledged is_followed is_passed v.turn.lived.spot (news_lost v.turn.lived.spot.station v.kept (seen lens f.sent)) (seen lens f.sent) before before.stand

  -- what is so of an open slave alone, and stays so by a lost frame, is so behind one just where the slave wasn't given up
  pub lost_where : (test : Life Body Asked Reply → Bool) → ((l : Life Body Asked Reply) → is_open l.stand ≡ false → test l ≡ false) → test lost ≡ test before → (after_it : ℕ) →
      test (after (Fates.Lost after_it)) ≡ (test before && length (after (Fates.Lost after_it)).gave == length before.gave)
  lost_where test closed stays after_it = go (gives && v.turn.share.under)
    where
      same : lost.gave ≡ before.gave
      same = lost_gave (speech_at lens v.turn.lived.spot) acknowledged is_followed is_passed recover v.turn.lived.spot before (news_lost v.turn.lived.spot.station v.kept (seen lens f.sent)) (seen lens f.sent) before.stand

      shut : (b : Bool) → is_open (if b then reopening v.turn.lived.spot.start false else Stand.Gone) ≡ false
      shut true = refl
      shut false = refl

      longer : (length (lost.gave ++ made ∷ []) == length before.gave) ≡ false
      longer = by (length (lost.gave ++ made ∷ []) == length before.gave) refl
        where
          by : (b : Bool) → (length (lost.gave ++ made ∷ []) == length before.gave) ≡ b → (length (lost.gave ++ made ∷ []) == length before.gave) ≡ false
          by true e = absurd (let q = eqb-true (length (lost.gave ++ made ∷ [])) (length before.gave) e in let l = length-append lost.gave (made ∷ []) in let k = ap length same in omega (arith, q, l, k))
          by false e = e

      go : (b : Bool) → test (given_where b recover v.turn.lived.spot made lost) ≡ (test before && length (given_where b recover v.turn.lived.spot made lost).gave == length before.gave)
      go true = closed (given_where true recover v.turn.lived.spot made lost) (shut (nat_lt (length lost.gave) recover)) ∙ sym (ap (λ (z : Bool). test before && z) longer ∙ and_false (test before))
      go false = stays ∙ sym (ap (λ (z : Bool). test before && z) (eq-eqb (length lost.gave) (length before.gave) (ap length same)) ∙ and_true (test before))

  pub lost_one : (after_it : ℕ) → has_passing (after (Fates.Lost after_it)) ≡ (has_passing before && length (after (Fates.Lost after_it)).gave == length before.gave)
  lost_one after_it =
      let on = lost_on (speech_at lens v.turn.lived.spot) v.turn.lived.spot v.kept (seen lens f.sent) before before.stand in
      lost_where has_passing (λ l e. ap (λ (z : Bool). z && is_some l.era.passing) e) (λ i. is_open (on.stand i) && on.passing i) after_it

  -- A PACKET, by a frame that came back and carried the slave, where its hand knows its mails behind it
  pub written_back : (k : ℕ) → Goes (has_fragments (speech_at lens v.turn.lived.spot) before) (has_fragments (speech_at lens v.turn.lived.spot) (after Fates.Pass)) (kinds_in k (told k true))
  written_back k = packet_goes areas made k v.turn.lived.spot ns (seen lens f.back) v.hand ms before came (knows s.side.hand.course) p.work u.served.inhand

  -- by one that came back at all
  pub pass_written : (k : ℕ) (visits : Bool) → (s.under ≡ true → visits ≡ true) → Returns (seen lens f.sent) (seen lens f.back) →
      Goes (has_fragments (speech_at lens v.turn.lived.spot) before) (has_fragments (speech_at lens v.turn.lived.spot) (after Fates.Pass)) (if visits then kinds_in k (told k true) else [])
  pass_written k visits carried returns = go visits refl
    where
      left_out : (b : Bool) → s.under ≡ b → visits ≡ false → s.under ≡ false
      left_out true f e = absurd (let bad : true ≡ false = sym (carried f) ∙ e in cc)
      left_out false f e = f

      go : (b : Bool) → visits ≡ b → Goes (has_fragments (speech_at lens v.turn.lived.spot) before) (has_fragments (speech_at lens v.turn.lived.spot) (after Fates.Pass)) (if b then kinds_in k (told k true) else [])
      go true e = written_back k
      go false e =
          packet_unread areas made k v.turn.lived.spot ns (seen lens f.back) v.hand ms before came (knows s.side.hand.course) p.work u.served.inhand
          (λ stands. (unread_behind lens recover made f.sent f.back v p s u returns (left_out s.under refl e) stands).0)

  -- and by a lost one
  pub written_lost : (after_it : ℕ) → has_fragments (speech_at lens v.turn.lived.spot) (after (Fates.Lost after_it)) ≡ (has_fragments (speech_at lens v.turn.lived.spot) before && length (after (Fates.Lost after_it)).gave == length before.gave)
  written_lost after_it =
      lost_where (λ l. has_fragments (speech_at lens v.turn.lived.spot) l) (λ l e. ap (λ (z : Bool). z && (has_packet l.era.side.now && not (is_free (speech_at lens v.turn.lived.spot) l.era.side l.era.side.now))) e)
      (lost_same areas v.turn.lived.spot (news_lost v.turn.lived.spot.station v.kept (seen lens f.sent)) (seen lens f.sent) before before.stand (knows s.side.hand.course) p.work u.served.inhand) after_it

-- ---- OF ALL SLAVES

module _ (plan : Scenario) (fs : List Exchanged) (missed : ℕ) (ws : List Serves) (led : ServeTo plan fs missed ws) (f : Exchanged) (vs : List ServedTurn) (frame : IsServedFrame (lens_of plan.slaves) (length fs) f.sent ws vs) (m0 m n : MasterNode) (old mid new : List Notes)
    (z : Known plan fs missed ws led f vs frame m0 m n old mid new) where
  abbrev lens : ℕ → Lens
  lens = lens_of plan.slaves

  abbrev gives : Bool
  gives = gives_up_at lens plan.recover plan.retry missed

  abbrev now_on : List Serves
  now_on = behind plan fs missed ws led f vs frame m0 m n old mid new

  abbrev has : Lived Asked Reply → Bool
  has l = has_passing l.life

  mails_go : GoesOver plan fs missed ws led f vs frame m0 m n old mid new is_mail has mail_over (λ k. served_overs led k)
  mails_go = record {
    beside = λ number. refl;
    turns = λ k w v t n0 n1 noted h. turn_one lens (length fs) frame.datagrams w v t n0 n1 (served_overs led k) (served_mails led k) (served_begun led k) (oldest_in ws k) noted h;
    returns = λ k w v t at u e visits carried. pass_one lens plan.recover plan.retry gives (length fs) frame.datagrams f w v frame.frame t u.post u.stop u.under k (known_at (recalls n) k) visits carried (z.returned e);
    loses = λ k w v t u lasts. lost_one lens plan.recover plan.retry gives (length fs) frame.datagrams f w v frame.frame t u.post u.stop u.under lasts;
  }

  -- JUST THEIR ANSWERS ARE NOTED behind the frame
  pub served_handed : AllHanded (λ k. served_overs led k) (λ k. passing_at ws k) old → AllHanded (λ k. served_overs (lives plan fs missed ws led f vs frame m0 m n old mid new) k) (λ k. passing_at now_on k) new
  served_handed handed = λ k n2 at.
      subst (λ (b : Bool). IsHanded (overs_behind f.fate (length fs) (passing_before vs k) b (served_overs led k ++ mail_over (begun_of (map run_turn vs) k))) b n2) (holds_map (λ (a : Leads). has a.lived) run_lead now_on k)
      (subst (λ (b : Bool). IsHanded (overs_behind f.fate (length fs) b (holds_at (λ (a : Leads). has a.lived) (map run_lead now_on) k) (served_overs led k ++ mail_over (begun_of (map run_turn vs) k))) (holds_at (λ (a : Leads). has a.lived) (map run_lead now_on) k) n2) (holds_map (λ (u : Turn). has u.lived) run_turn vs k)
      (all_noted plan fs missed ws led f vs frame m0 m n old mid new z is_mail has mail_over (λ j. served_overs led j) mails_go (λ j n0 at0. subst (λ (b : Bool). IsHanded (served_overs led j) b n0) (sym (holds_map (λ (a : Leads). has a.lived) run_lead ws j)) (handed j n0 at0)) k n2 at))
