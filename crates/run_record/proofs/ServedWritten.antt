-- A PACKET IN HAND of a slave of a serving: whether one is before a frame, by what came into hand, and what is noted of it over the frame.
use Rattle.std.proofs.Common.{◌≡◌, ◌+◌, ℕ, suc, Bool, true, false, Option, Some, None, List, [], ◌∷◌, ◌++◌, length, map, refl, sym, ap, ◌∙◌, subst, append-nil, arith}
use Rattle.std.specs.Prelude.{◌&&◌, if◌then◌else◌, nat_lt, slice_get}
use Rattle.served_places.specs.of_datagrams.Datagram as Raw
use Rattle.packets_heard.proofs.of_master_node.Counts.{next_stand}
use Rattle.packets_heard.proofs.of_master_node.Newest.{Newest, newest}
use Rattle.packets_heard.specs.of_master_node.Backtold.{known_at}
use Rattle.packets_heard.specs.of_master_node.Begins.{is_other}
use Rattle.packets_heard.specs.of_master_node.Eager.{recalls}
use Rattle.packets_heard.specs.of_master_node.Events.{oldest_in}
use Rattle.packets_heard.specs.of_master_node.Serving.{run_lead}
use Rattle.packets_heard.specs.of_master_node.declared.node.MasterNode.{MasterNode}
use Rattle.plan_ring.specs.of_frame_view.View.{Lens}
use Rattle.served_places.specs.of_exchange_model.Areas.{Areas}
use Rattle.served_places.specs.of_exchange_model.Exchange.{Speech}
use Rattle.served_places.specs.of_life_model.Lives.{Life, Spot, Stand, life_next}
use Rattle.served_places.specs.of_life_runs.First.{lens_of}
use Rattle.served_places.specs.of_life_runs.Led.{Comes as OwnComes, Exchanged, Took, gives_up_at, speech_at}
use Rattle.served_places.specs.of_life_runs.Spans.{is_open}
use Rattle.served_places.specs.of_link_mails.Body.{Body}
use Rattle.packets_heard.specs.of_segment_plan.declared.service.Service as Plan
use Rattle.served_places.specs.of_master_duty.Reply.{Reply}
use Rattle.served_places.specs.of_state_model.Stated.{Service}
use Rattle.served_places.specs.of_master_hand.Spoken.{Asked, acknowledged, drive, file, is_followed, is_passed, net, passed, sdo}
use Rattle.served_places.specs.of_master_hand.Talk.{asked_of}
use Rattle.packets_heard.specs.of_protocol_models.EoeClient as EoeClient
use Rattle.served_places.specs.of_state_model.Accounts.{Pick, starts}
use Rattle.packets_heard.specs.Numbers.{each_with}
use Rattle.packets_heard.specs.Over.{packet_begun, packet_of}
use Rattle.packets_heard.specs.Servings.{served_begun}
use Rattle.run_notes.specs.of_run_book.declared.book.Answer.TheVariants.{InDoubt}
use Rattle.run_notes.proofs.Packets.{with_append}
use Rattle.run_notes.specs.Handed.{AllWhere, IsNotedWhere, is_packet, kinds_in, over_answer}
use Rattle.run_notes.specs.Packets.{mail_row, numbered_from, packet_row, rows_with}
use Rattle.run_notes.specs.Unsent.{first_numbers, numbers_in}
use Rattle.run_notes.specs.declared.notes.Notes.{Notes}
use Rattle.run_record.proofs.Began.{numbered_append}
use Rattle.run_record.proofs.MailLives.{Goes}
use Rattle.run_record.proofs.MailNotes.{Comes, packets_kind, turn_handed}
use Rattle.run_record.proofs.PacketTurns.{none_comes, other_comes, over_none, packet_comes, state_comes, unwritten_in, was_over}
use Rattle.run_record.proofs.ServedHanded.{cancel, never_none, numbers_append, pass_written, told, written_lost}
use Rattle.run_record.proofs.ServedNotes.{GoesOver, IsTurnNoted, Known, all_noted, behind, lives}
use Rattle.run_record.specs.Mails.{mail_begun, served_mails}
use Rattle.run_record.specs.Served.{ServeTo}
use Rattle.run_record.specs.Written.{forwards_now, has_fragments, has_unwritten, packet_open, served_written}
use Rattle.packets_heard.specs.of_segment_plan.declared.plan.Scenario.{Scenario}
use Rattle.served_places.specs.of_segment_ring.declared.wire.Fate.TheVariants as Fates
use Rattle.served_places.proofs.Next.{next_open}
use Rattle.served_places.specs.of_life_runs.Served.{IsServedFrame, IsServedTurn, Keyed, ServedComes, ServedTurn, Serves, served_life}
use Rattle.served_places.specs.of_life_runs.Told.{Passed}

-- the rows of what came into hand, where that is a packet
abbrev pub rows_came : ℕ → ℕ → Option (Service Asked) → List (ℕ × ℕ)
rows_came number made b = numbered_from number (each_with made (packet_begun b))

packet_one : (q : Asked) → is_other q ≡ false → packet_open (Some (Service.Mails q)) ≡ None ∷ []
packet_one (net (EoeClient.packet octets frame)) e = refl
packet_one _ e = absurd (let bad : true ≡ false = e in cc)

packet_some : (number made : ℕ) (q : Asked) → is_other q ≡ false → rows_came number made (Some (Service.Mails q)) ≡ [] → ⊥
packet_some number made (net (EoeClient.packet octets frame)) e f = absurd (cc)
packet_some number made _ e f = absurd (let bad : true ≡ false = e in cc)

packet_none : (q : Asked) → is_other q ≡ true → packet_of q ≡ []
packet_none (net (EoeClient.packet octets frame)) e = absurd (let bad : false ≡ true = e in cc)
packet_none (net (EoeClient.set_ip block)) e = refl
packet_none (net EoeClient.get_ip) e = refl
packet_none (sdo q) e = refl
packet_none (file q) e = refl
packet_none (drive q) e = refl
packet_none (passed m) e = refl

module _ (lens : ℕ → Lens) (made : ℕ) (ds : List Raw.Datagram) (w : Serves) (v : ServedTurn) (t : IsServedTurn lens made ds w v) where
  abbrev before : Life Body Asked Reply
  before = w.lead.lived.life

  abbrev areas : Areas
  areas = record { out = (lens w.lead.lived.spot.station).out; back = (lens w.lead.lived.spot.station).back }

  abbrev x : Speech Body Asked Reply
  x = speech_at lens w.lead.lived.spot

  abbrev pick : Option (Service Asked) → Pick Asked
  pick b = record { begin = b; hold = t.next.pick.hold }

  life_is : (b : Option (Service Asked)) → v.turn.begun ≡ b → v.turn.lived.life ≡ life_next x acknowledged is_followed is_passed made before before.stand (pick b)
  life_is b e = t.next.life ∙ (λ i. life_next x acknowledged is_followed is_passed made before before.stand (record { begin = (t.begun ∙ e) i; hold = t.next.pick.hold }))

  started : (s : Service Asked) → v.turn.begun ≡ Some s → v.turn.lived.life.era.account.started ≡ starts before.era.account s made
  started s e = subst (λ b. Took made before.era.account v.turn.lived.life.era.account b) e t.took

  was_none : (s : Service Asked) → v.turn.begun ≡ Some s → has_fragments x before ≡ false
  was_none s e = over_none areas before (was_over areas made before (pick (Some s)) s refl before.stand (ap (λ (l : Life Body Asked Reply). l.era.account.started) (sym (life_is (Some s) e)) ∙ started s e))

  -- as the turn has its speech
  as_turned : has_unwritten lens v.turn.lived ≡ has_fragments x v.turn.lived.life
  as_turned = ap (λ (z : Spot). has_fragments (speech_at lens z) v.turn.lived.life) t.next.spot

  stands : (s : Service Asked) → v.turn.begun ≡ Some s → v.turn.lived.life.stand ≡ Stand.Open
  stands s e = ap (λ (l : Life Body Asked Reply). l.stand) t.next.life ∙ next_stand x acknowledged is_followed is_passed made before t.next.pick before.stand ∙ next_open lens made ds w v t s e

  newest_is : (q : Asked) → v.turn.begun ≡ Some (Service.Mails q) → Newest x made q v.turn.lived.life.era.side
  newest_is q e = newest x q made acknowledged is_followed is_passed before v.turn.lived.life before.stand (pick (Some (Service.Mails q))) refl (life_is (Some (Service.Mails q)) e) (started (Service.Mails q) e)

  mails_is : (q : Asked) → v.turn.begun ≡ Some (Service.Mails q) → (b : Bool) → unwritten_in x v.turn.lived.life.era.side ≡ b → has_unwritten lens v.turn.lived ≡ b
  mails_is q e b u = as_turned ∙ (λ i. is_open (stands (Service.Mails q) e i) && u i)

  -- WHAT CAME INTO HAND, and whether a packet is then
  pub packet_turn : (number : ℕ) → Comes v.turn.begun (rows_came number made v.turn.begun) (packet_open v.turn.begun) (has_unwritten lens w.lead.lived) (has_unwritten lens v.turn.lived)
  packet_turn number = by v.turn.begun refl
    where
      by : (b : Option (Service Asked)) → v.turn.begun ≡ b → Comes v.turn.begun (rows_came number made v.turn.begun) (packet_open v.turn.begun) (has_unwritten lens w.lead.lived) (has_unwritten lens v.turn.lived)
      by None e = Comes.nothing e (ap (λ z. rows_came number made z) e) (as_turned ∙ ap (λ (l : Life Body Asked Reply). has_fragments x l) (life_is None e) ∙ none_comes areas made before before.stand t.next.pick.hold)
      by (Some (Service.State target)) e =
          Comes.other (ap (λ z. rows_came number made z) e) (was_none (Service.State target) e)
          (as_turned ∙ ap (λ (l : Life Body Asked Reply). has_fragments x l) (life_is (Some (Service.State target)) e) ∙ state_comes areas made before before.stand target t.next.pick.hold ∙ was_none (Service.State target) e)
      by (Some (Service.Mails q)) e = go (is_other q) refl
        where
          go : (z : Bool) → is_other q ≡ z → Comes v.turn.begun (rows_came number made v.turn.begun) (packet_open v.turn.begun) (has_unwritten lens w.lead.lived) (has_unwritten lens v.turn.lived)
          go true o =
              Comes.other (ap (λ z. rows_came number made z) e ∙ ap (λ z. numbered_from number (each_with made z)) (packet_none q o)) (was_none (Service.Mails q) e)
              (mails_is q e false (other_comes areas q made v.turn.lived.life.era.side o (newest_is q e)))
          go false o =
              Comes.one (ap (λ z. packet_open z) e ∙ packet_one q o) (λ none. packet_some number made q o (sym (ap (λ z. rows_came number made z) e) ∙ none)) (was_none (Service.Mails q) e)
              (mails_is q e true (packet_comes areas q made v.turn.lived.life.era.side o (newest_is q e)))

-- no service of a script is a packet
abbrev other_in : Option Asked → Bool
other_in None = true
other_in (Some q) = is_other q

other_set : (b : Bool) (block : List ℕ) → other_in (if b then None else Some (net (EoeClient.set_ip block))) ≡ true
other_set true block = refl
other_set false block = refl

script_other : (room : ℕ) (s : Plan.Service) → other_in (asked_of room s) ≡ true
script_other room (Plan.Service.Sdo service) = refl
script_other room (Plan.Service.ReadFile name pass) = refl
script_other room (Plan.Service.WriteFile name pass bytes) = refl
script_other room (Plan.Service.ReadIdn number idn elements) = refl
script_other room (Plan.Service.WriteIdn number idn elements bytes) = refl
script_other room (Plan.Service.SetIp block) = other_set (nat_lt room (length block + 10)) block
script_other room Plan.Service.GetIp = refl
script_other room (Plan.Service.State target) = refl
script_other room (Plan.Service.Forward packet) = refl

-- nothing came into hand but a packet
abbrev IsForward : Option (Service Asked) → Type 0
IsForward b = packet_open b ≡ [] → b ≡ None

open_none : (q : Asked) → is_other q ≡ true → packet_open (Some (Service.Mails q)) ≡ []
open_none q o = ap (λ ps. map (λ p. None) ps) (packet_none q o)

same_number : (room : ℕ) (script : List Plan.Service) (waits : List Keyed) (hand : Option Passed) (n : ℕ) (b : Option (Service Asked)) (m : ℕ) (rest : List Keyed) (now : Option Passed) → ServedComes room script waits hand n b m rest now → IsForward b → m ≡ n
same_number room script waits hand n _ _ _ _ ServedComes.none h = refl
same_number room script waits hand n _ _ _ _ (ServedComes.mail k rest e) h = refl
same_number room script waits hand n _ _ _ _ (ServedComes.own s m c) h = own s m c h
  where
    own : (s : Service Asked) (m : ℕ) → OwnComes room script n (Some s) m → IsForward (Some s) → m ≡ n
    own _ _ (OwnComes.mails s q at asked) h = never_none (Service.Mails q) (h (open_none q (sym (ap other_in asked) ∙ script_other room s)))
    own _ _ (OwnComes.state target at) h = never_none (Service.State _) (h refl)
    own _ _ (OwnComes.packet octets frame) h = refl

-- and no mail that is passed on
no_mail : (number made : ℕ) (b : Option (Service Asked)) → IsForward b → mail_begun number made b ≡ []
no_mail number made None h = refl
no_mail number made (Some (Service.State target)) h = never_none (Service.State target) (h refl)
no_mail number made (Some (Service.Mails (sdo q))) h = refl
no_mail number made (Some (Service.Mails (file q))) h = refl
no_mail number made (Some (Service.Mails (drive q))) h = refl
no_mail number made (Some (Service.Mails (net q))) h = refl
no_mail number made (Some (Service.Mails (passed m))) h = never_none (Service.Mails (passed m)) (h refl)

-- none of them has an answer yet
open_doubts : {X : Type 0} (number made : ℕ) (ps : List X) → map {A = ℕ × ℕ} (λ r. InDoubt) (numbered_from number (each_with made ps)) ≡ map over_answer (map (λ p. None) ps)
open_doubts number made [] = refl
open_doubts number made (p ∷ ps) = ap (λ z. InDoubt ∷ z) (open_doubts (suc number) made ps)

module _ (lens : ℕ → Lens) (made : ℕ) (ds : List Raw.Datagram) (w : Serves) (v : ServedTurn) (t : IsServedTurn lens made ds w v) where
  -- ITS ROW IS NOTED, with no answer yet
  pub turn_written : (n n' : Notes) (overs : List (Option ℕ)) (mails : List (ℕ × ℕ)) (frames : List ℕ) (number : ℕ) → IsTurnNoted made w v mails frames number n n' → IsNotedWhere is_packet overs (has_unwritten lens w.lead.lived) n →
      IsNotedWhere is_packet (overs ++ packet_open v.turn.begun) (has_unwritten lens v.turn.lived) n'
  turn_written n n' overs mails frames number o h =
      let d = o.doubts in
      let r = o.reports in
      let r' = o.reports_on in
      turn_handed is_packet packet_row mail_row packets_kind n n' overs (has_unwritten lens w.lead.lived) (has_unwritten lens v.turn.lived) v.turn.begun (rows_came (length frames) made v.turn.begun) (packet_open v.turn.begun) d (record { aligned = r.aligned; last = r.last }) h
      (record {
        mails = cancel (numbered_from 0 frames) (rows_with packet_row d.more) (rows_came (length frames) made v.turn.begun)
            (ap (λ z. z ++ rows_with packet_row d.more) (sym o.rows) ∙ sym (ap (rows_with packet_row) d.begun ∙ with_append packet_row n.begun d.more) ∙ o.rows_on ∙ numbered_append 0 frames (each_with made (packet_begun v.turn.begun)) ∙ ap (λ z. numbered_from 0 frames ++ numbered_from z (each_with made (packet_begun v.turn.begun))) (let e : 0 + length frames ≡ length frames = omega arith in e));
        answers = open_doubts (length frames) made (packet_begun v.turn.begun);
        numbers = λ bare.
            let counts : n'.scripted ≡ n.scripted = r'.told.many ∙ same_number (lens w.lead.lived.spot.station).out w.lead.script w.waits w.hand w.lead.number v.turn.begun v.turn.number v.waits v.hand t.comes bare ∙ sym r.told.many in
            cancel (numbers_in n.begun) (numbers_in d.more) [] (sym (ap numbers_in d.begun ∙ numbers_append n.begun d.more) ∙ r'.rest.numbers ∙ ap first_numbers counts ∙ sym r.rest.numbers ∙ sym (append-nil (numbers_in n.begun)));
        outside = λ bare.
            cancel mails (rows_with mail_row d.more) [] (ap (λ z. z ++ rows_with mail_row d.more) (sym o.mailed) ∙ sym (ap (rows_with mail_row) d.begun ∙ with_append mail_row n.begun d.more) ∙ o.mailed_on ∙ ap (λ z. mails ++ z) (no_mail number made v.turn.begun bare));
      })
      (packet_turn lens made ds w v t (length frames))

-- ---- OF ALL SLAVES

module _ (plan : Scenario) (fs : List Exchanged) (missed : ℕ) (ws : List Serves) (led : ServeTo plan fs missed ws) (f : Exchanged) (vs : List ServedTurn) (frame : IsServedFrame (lens_of plan.slaves) (length fs) f.sent ws vs) (m0 m n : MasterNode) (old mid new : List Notes)
    (z : Known plan fs missed ws led f vs frame m0 m n old mid new) (knows : f.fate ≡ Fates.Pass → (k : ℕ) (v : ServedTurn) → slice_get vs k ≡ Some v → known_at (recalls n) k ≡ true) where
  abbrev lens : ℕ → Lens
  lens = lens_of plan.slaves

  abbrev gives : Bool
  gives = gives_up_at lens plan.recover plan.retry missed

  abbrev now_on : List Serves
  now_on = behind plan fs missed ws led f vs frame m0 m n old mid new

  packets_go : GoesOver plan fs missed ws led f vs frame m0 m n old mid new is_packet (has_unwritten lens) packet_open (λ k. served_written led k)
  packets_go = record {
    beside = λ number. refl;
    turns = λ k w v t n0 n1 noted h. turn_written lens (length fs) frame.datagrams w v t n0 n1 (served_written led k) (served_mails led k) (served_begun led k) (oldest_in ws k) noted h;
    returns = λ k w v t at u e visits carried.
        subst (λ (b : Bool). Goes (has_unwritten lens v.turn.lived) (has_unwritten lens (served_life lens plan.recover plan.retry gives (length fs) f Fates.Pass v)) (if visits then kinds_in k (told lens plan.recover plan.retry gives (length fs) frame.datagrams f w v frame.frame t u.post u.stop u.under k b) else [])) (sym (knows e k v at))
        (pass_written lens plan.recover plan.retry gives (length fs) frame.datagrams f w v frame.frame t u.post u.stop u.under k visits carried (z.returned e));
    loses = λ k w v t u lasts. written_lost lens plan.recover plan.retry gives (length fs) frame.datagrams f w v frame.frame t u.post u.stop u.under lasts;
  }

  -- JUST THEIR ANSWERS ARE NOTED behind the frame, where behind one that came back the hands know their mails
  pub served_written_on : AllWhere is_packet (λ k. served_written led k) (λ k. forwards_now lens (map run_lead ws) k) old →
      AllWhere is_packet (λ k. served_written (lives plan fs missed ws led f vs frame m0 m n old mid new) k) (λ k. forwards_now lens (map run_lead now_on) k) new
  served_written_on noted = all_noted plan fs missed ws led f vs frame m0 m n old mid new z is_packet (has_unwritten lens) packet_open (λ k. served_written led k) packets_go noted
