-- A PACKET IN HAND OF A SLAVE, by its life before a return and behind it: what is told of its answer.
use Rattle.std.proofs.Common.{◌≡◌, inl, inr, ◌==◌, ℕ, Bool, true, false, Option, Some, None, List, [], ◌∷◌, ◌++◌, length, refl, sym, ap, ◌∙◌, subst, append-nil}
use Rattle.std.specs.Prelude.{◌&&◌, ◌||◌, is_some, nat_lt, not, option_map, if◌then◌else◌}
use Rattle.std.proofs.lemmas.Bool.{eq-eqb, eqb-true}
use Rattle.plan_ring.specs.of_mailbox_mail.declared.outcome.ReplyKind.{ReplyKind}
use Rattle.packets_heard.specs.of_master_node.Backtold.{NewestHas, OpenHas, answer_told, changes_told, emergencies_told, has_packet, kind_of, over_told, packet_told, passed_told, returned_told}
use Rattle.packets_heard.specs.of_master_node.Begins.{is_other}
use Rattle.packets_heard.specs.of_master_node.Inhand.{HasInHand, ServiceHas}
use Rattle.packets_heard.specs.of_master_node.Gateways.{replies_told}
use Rattle.packets_heard.specs.of_master_node.declared.post.Work.{Work}
use Rattle.served_places.specs.of_exchange_model.Areas.{Areas}
use Rattle.served_places.specs.of_exchange_model.Exchange.{Speech}
use Rattle.served_places.specs.of_exchange_model.Rows.{Row, row_heard}
use Rattle.served_places.specs.of_link_model.Frames.{all_accepted, halves_after, halves_answered}
use Rattle.served_places.specs.of_link_model.Link.{Halves}
use Rattle.packets_heard.specs.of_master_node.Named.{is_left}
use Rattle.served_places.specs.of_life_model.Lives.{Era, Life, Opening, Spot, Stand, clears, is_shown, last_step, life_lost, opens, opens_state, reopening, reopens, reopens_at, returns_to_init, shows_clear, steps_on}
use Rattle.served_places.specs.of_life_model.Own.{own}
use Rattle.served_places.specs.of_life_runs.Spans.{is_open}
use Rattle.served_places.specs.of_link_mails.Body.{Body}
use Rattle.served_places.specs.of_master_duty.Reply.{Reply}
use Rattle.served_places.specs.of_master_hand.Brings.{emergencies_in}
use Rattle.served_places.specs.of_master_hand.Hears.{kind_in}
use Rattle.served_places.specs.of_master_hand.Spoken.{Asked, acknowledged, hand_speech, is_followed, is_passed}
use Rattle.served_places.specs.of_master_tour.Under.{mine}
use Rattle.served_places.specs.of_segment_model.Ends.{Passing}
use Rattle.served_places.specs.of_segment_model.Record.{News, is_for}
use Rattle.served_places.specs.of_segment_model.Seats.{Side, is_write, side_lost, writes}
use Rattle.served_places.specs.of_segment_model.Slaves.{Datagram, Found, grams}
use Rattle.served_places.specs.of_state_model.Accounts.{Account, Duty, Stage, is_free}
use Rattle.packets_heard.proofs.of_master_node.Handeds.{stays_open}
use Rattle.packets_heard.proofs.of_master_node.Inhand.{no_answer, open_unanswered}
use Rattle.packets_heard.proofs.of_master_node.PacketRows.{heard_unanswered, idle_back, out_lost, packet_ends, same_over, stays_over}
use Rattle.packets_heard.proofs.of_master_node.Rowtells.{kind_told, passed_other}
use Rattle.run_notes.specs.Handed.{kinds_in}
use Rattle.run_notes.proofs.Handings.{kinds_append}
use Rattle.run_record.proofs.MailLives.{Goes, behind_so, both_true, changes_none, e as era_behind, emergency_kinds, era_is, five_kinds, open_is, reply_kinds, same_account}
use Rattle.run_record.specs.Written.{has_fragments}
use Rattle.served_places.specs.of_life_runs.Told.{Passed, replies_in}

not_true : (b : Bool) → not b ≡ true → b ≡ false
not_true true e = absurd (let bad : false ≡ true = e in cc)
not_true false e = refl

-- WHAT IS KNOWN where a packet is in hand: its slave is open, its row is the newest and not over, and nothing else is in hand
pub record IsForwarding (x : Speech Body Asked Reply) (l : Life Body Asked Reply) : Type 0 where
  pub opened : l.stand ≡ Stand.Open
  pub row : Row Body Asked Reply
  pub is : l.era.side.now ≡ Some row
  pub packet : is_other row.service ≡ false
  pub unwritten : is_free x l.era.side l.era.side.now ≡ false
  pub alone : l.era.account.hand ≡ None
  pub passing : l.era.passing ≡ None

record IsPacketRow (now : Option (Row Body Asked Reply)) : Type 0 where
  row : Row Body Asked Reply
  is : now ≡ Some row
  packet : is_other row.service ≡ false

packet_row : (now : Option (Row Body Asked Reply)) → has_packet now ≡ true → IsPacketRow now
packet_row None e = absurd (let bad : false ≡ true = e in cc)
packet_row (Some r) e = record { row = r; is = refl; packet = not_true (is_other r.service) e }

-- where a packet isn't over the post has it in hand
never_nothing : (passed other free knows answered : Bool) → (passed ≡ true → other ≡ true) → other ≡ false → free ≡ false → ServiceHas passed other free knows answered Work.Nothing → ⊥
never_nothing true other free knows answered p o f h = absurd (let bad : true ≡ false = sym (p refl) ∙ o in cc)
never_nothing false true free knows answered p o f h = absurd (let bad : true ≡ false = o in cc)
never_nothing false false true knows answered p o f h = absurd (let bad : true ≡ false = f in cc)
never_nothing false false false knows answered p o f h = absurd (let bad : Work.Nothing ≡ Work.Packet = h.1 in cc)

alone_so : (x : Speech Body Asked Reply) (l : Life Body Asked Reply) (known : Bool) (work : Work) (p : IsPacketRow l.era.side.now) → is_free x l.era.side l.era.side.now ≡ false →
    OpenHas x known l.era.side l.era.account.hand l.era.passing work → (l.era.account.hand ≡ None) × (l.era.passing ≡ None)
alone_so x l known work p f h = go l.era.account.hand l.era.passing refl refl h
  where
    other_passed : is_passed p.row.service ≡ true → is_other p.row.service ≡ true
    other_passed e = passed_other p.row.service e

    go : (hand : Option Duty) (passing : Option Passing) → l.era.account.hand ≡ hand → l.era.passing ≡ passing → OpenHas x known l.era.side hand passing work → (l.era.account.hand ≡ None) × (l.era.passing ≡ None)
    go None None e q h = (e, q)
    go None (Some y) e q h = absurd (
        let r = h.0 in
        let same : Some r.row ≡ Some p.row = sym r.is ∙ p.is in
        let one : r.row ≡ p.row = cc in
        let bad : true ≡ false = sym (passed_other r.row.service r.passed) ∙ ap (λ (z : Row Body Asked Reply). is_other z.service) one ∙ p.packet in
        cc)
    go (Some duty) passing e q h =
        absurd (never_nothing (is_passed p.row.service) (is_other p.row.service) (is_free x l.era.side l.era.side.now) known (is_some p.row.answer) other_passed p.packet f (subst (λ (z : Option (Row Body Asked Reply)). NewestHas (is_free x l.era.side l.era.side.now) known z Work.Nothing) p.is h.1))

pub forwarding : (x : Speech Body Asked Reply) (l : Life Body Asked Reply) (known : Bool) (work : Work) → HasInHand x known l l.stand work → has_fragments x l ≡ true → IsForwarding x l
forwarding x l known work h e =
    let b = both_true (is_open l.stand) (has_packet l.era.side.now && not (is_free x l.era.side l.era.side.now)) e in
    let c = both_true (has_packet l.era.side.now) (not (is_free x l.era.side l.era.side.now)) b.1 in
    let o = open_is l.stand b.0 in
    let p = packet_row l.era.side.now c.0 in
    let f = not_true (is_free x l.era.side l.era.side.now) c.1 in
    let a = alone_so x l known work p f (subst (λ z. HasInHand x known l z work) o h) in
    record { opened = o; row = p.row; is = p.is; packet = p.packet; unwritten = f; alone = a.0; passing = a.1 }

over_kinds : (place : ℕ) (is : Bool) → kinds_in place (over_told place false is) ≡ (if is then ReplyKind.Handed ∷ [] else [])
over_kinds place true = ap (λ (z : Bool). (if z then ReplyKind.Handed ∷ [] else []) ++ []) (eq-eqb place place refl)
over_kinds place false = refl

-- no mail that is passed on ends
passed_none : (place : ℕ) (hand : Option Passed) (new : Option Passing) (ms : List Body) → kinds_in place (passed_told place hand None new ms) ≡ []
passed_none place None new ms = refl
passed_none place (Some p) new ms = kinds_append place (replies_told p.key (replies_in None ms)) [] ∙ ap (λ z. z ++ []) (reply_kinds place p.key (replies_in None ms))

-- its row behind the frame
heard_packet : (x : Speech Body Asked Reply) (made : ℕ) (ms : List Body) (row : Row Body Asked Reply) → is_other row.service ≡ false → has_packet (Some (row_heard x made ms row)) ≡ true
heard_packet x made ms row e = ap not e

-- by a frame that had nothing of a station its halves stay
unread_same : (station : ℕ) (h : Halves Body) (back : List (Datagram Body)) → mine station back ≡ [] → halves_after station h (grams (own station back)) ≡ h
unread_same station h [] e = refl
unread_same station h (d ∷ back) e = go (d.gram.station == station) refl (λ none. unread_same station h back none) (is_for station d.address)
  where
    rest : (d.gram.station == station) ≡ false → mine station back ≡ []
    rest f = sym (ap (λ (z : Bool). if z then d ∷ mine station back else mine station back) f) ∙ e

    go : (z : Bool) → (d.gram.station == station) ≡ z → (mine station back ≡ [] → halves_after station h (grams (own station back)) ≡ h) → (b : Bool) → halves_after station h (grams (if b then d ∷ own station back else own station back)) ≡ h
    go true f on b = absurd (let bad : d ∷ mine station back ≡ [] = sym (ap (λ (z : Bool). if z then d ∷ mine station back else mine station back) f) ∙ e in cc)
    go false f on true = ap (λ (z : Bool). halves_after station (if z then halves_answered h d.gram.ask d.gram else h) (grams (own station back))) f ∙ on (rest f)
    go false f on false = on (rest f)

-- and no write of its stands in it
unread_writes : (station : ℕ) (back : List (Datagram Body)) → mine station back ≡ [] → writes station (grams (own station back)) ≡ false
unread_writes station [] e = refl
unread_writes station (d ∷ back) e = go (d.gram.station == station) refl (λ none. unread_writes station back none) (is_for station d.address)
  where
    rest : (d.gram.station == station) ≡ false → mine station back ≡ []
    rest f = sym (ap (λ (z : Bool). if z then d ∷ mine station back else mine station back) f) ∙ e

    go : (z : Bool) → (d.gram.station == station) ≡ z → (mine station back ≡ [] → writes station (grams (own station back)) ≡ false) → (b : Bool) → writes station (grams (if b then d ∷ own station back else own station back)) ≡ false
    go true f on b = absurd (let bad : d ∷ mine station back ≡ [] = sym (ap (λ (z : Bool). if z then d ∷ mine station back else mine station back) f) ∙ e in cc)
    go false f on true = ap (λ (z : Bool). if z then is_write d.gram.ask || writes station (grams (own station back)) else writes station (grams (own station back))) f ∙ on (rest f)
    go false f on false = on (rest f)

unread_sent : (station : ℕ) (fresh : Bool) (back : List (Datagram Body)) → mine station back ≡ [] → (fresh && not (writes station (grams (own station back)))) ≡ fresh
unread_sent station fresh back none = ap (λ (w : Bool). fresh && not w) (unread_writes station back none) ∙ by fresh
  where
    by : (b : Bool) → (b && true) ≡ b
    by true = refl
    by false = refl

module _ (areas : Areas) (made place : ℕ) (spot : Spot) (ns : List (News Body)) (back : List (Datagram Body)) (hand : Option Passed) (ms : List Body) (l : Life Body Asked Reply) (came : Option (Bool × Option Found)) where
  abbrev x : Speech Body Asked Reply
  x = hand_speech areas

  abbrev e : Era Body Asked Reply
  e = era_behind areas made place spot ns back true hand ms l

  abbrev m : Life Body Asked Reply
  m = behind_so areas made place spot ns back true hand ms l came l.stand

  abbrev heard : List Body
  heard = all_accepted spot.station l.era.side.halves (grams (own spot.station back))

  abbrev was : Bool
  was = is_free x l.era.side l.era.side.now

  abbrev is : Bool
  is = is_free x m.era.side m.era.side.now

  module _ (t : IsForwarding x l) where
    stands : m.stand ≡ Stand.Open
    stands = (stays_open x made spot ns back came l l.stand t.opened t.opened t.alone).0

    era : m.era ≡ e
    era = era_is areas made place spot ns back true hand ms l came l.stand t.opened (ap (λ (a : Account Asked Reply). a.hand) (same_account areas made place spot ns back true hand ms l t.alone) ∙ t.alone)

    row_now : e.side.now ≡ Some (row_heard x made heard t.row)
    row_now = ap (λ z. option_map (λ r. row_heard x made heard r) z) t.is

    now : m.era.side.now ≡ Some (row_heard x made heard t.row)
    now = ap (λ (z : Era Body Asked Reply). z.side.now) era ∙ row_now

    goes_is : has_fragments x m ≡ not is
    goes_is = (λ i. is_open (stands i) && (has_packet (now i) && not is)) ∙ ap (λ (z : Bool). z && not is) (heard_packet x made heard t.row t.packet)

    answer_none : answer_told place (kind_of l.era.side.now) (kind_of m.era.side.now) ≡ []
    answer_none = (λ i. answer_told place (kind_of (t.is i)) (kind_of (now i))) ∙ kind_told place made t.row.answer _ (ap kind_in (packet_ends areas t.row.service _ t.packet))

    changes : changes_told place (length l.era.account.over) m.era.account.over ≡ []
    changes = ap (λ (z : Era Body Asked Reply). changes_told place (length l.era.account.over) z.account.over) era ∙ changes_none areas made place spot ns back true hand ms l t.alone

    packet_so : packet_told place (has_packet l.era.side.now) true was is ≡ over_told place false is
    packet_so = (λ i. packet_told place (has_packet (t.is i)) true (t.unwritten i) is) ∙ ap (λ (z : Bool). packet_told place (not z) true false is) t.packet

    told_kinds : kinds_in place (returned_told x true place hand ms l m l.stand) ≡ (if is then ReplyKind.Handed ∷ [] else [])
    told_kinds =
        let answers = answer_told place (kind_of l.era.side.now) (kind_of m.era.side.now) in
        let passed = passed_told place hand l.era.passing m.era.passing ms in
        let packets = packet_told place (has_packet l.era.side.now) true was is in
        let changed = changes_told place (length l.era.account.over) m.era.account.over in
        ap (λ z. kinds_in place (returned_told x true place hand ms l m z)) t.opened
        ∙ five_kinds place (emergencies_told place (emergencies_in ms)) passed answers packets changed (emergency_kinds place place (emergencies_in ms))
        ∙ (λ i. (ap (λ z. kinds_in place (passed_told place hand z m.era.passing ms)) t.passing ∙ passed_none place hand m.era.passing ms) i ++ kinds_in place (answer_none i) ++ (ap (kinds_in place) packet_so ∙ over_kinds place is) i ++ kinds_in place (changes i))
        ∙ append-nil (if is then ReplyKind.Handed ∷ [] else [])

    -- IT IS IN HAND, AND NOTHING IS TOLD OF IT, OR ITS LAST FRAGMENT WAS WRITTEN, AND JUST THAT IS TOLD
    pub back_there : has_fragments x l ≡ true → Goes (has_fragments x l) (has_fragments x m) (kinds_in place (returned_told x true place hand ms l m l.stand))
    back_there there = go is refl
      where
        go : (b : Bool) → is ≡ b → Goes (has_fragments x l) (has_fragments x m) (kinds_in place (returned_told x true place hand ms l m l.stand))
        go true f = Goes.over [] there (goes_is ∙ ap not f) (told_kinds ∙ ap (λ (z : Bool). if z then ReplyKind.Handed ∷ [] else []) f)
        go false f = Goes.on there (goes_is ∙ ap not f) (told_kinds ∙ ap (λ (z : Bool). if z then ReplyKind.Handed ∷ [] else []) f)

    -- and by a frame that had nothing of its slave it is in hand still
    unread_there : has_fragments x l ≡ true → mine spot.station back ≡ [] → Goes (has_fragments x l) (has_fragments x m) []
    unread_there there none = Goes.on there (goes_is ∙ ap not still) refl
      where
        still : is ≡ false
        still =
            ap (λ (z : Era Body Asked Reply). is_free x z.side z.side.now) era
            ∙ ap (λ z. is_free x e.side z) row_now
            ∙ same_over areas l.era.side e.side t.row (row_heard x made heard t.row) t.packet (record { service = refl; told = refl; answer = heard_unanswered areas made heard t.row t.packet }) (ap (λ (h : Halves Body). h.out.holding) (unread_same spot.station l.era.side.halves back none))
            (inr (unread_sent spot.station l.era.side.fresh back none))
            ∙ sym (ap (λ z. is_free x l.era.side z) t.is) ∙ t.unwritten

  -- where none is none comes
  back_none : (known : Bool) (work : Work) → HasInHand x known l l.stand work → has_fragments x l ≡ false → has_fragments x m ≡ false
  back_none known work h not_there = go came l.stand refl h
    where
      -- as an opening goes on
      opening : (o : Opening) (clear shown last comes : Bool) → (last ≡ true → l.era.side.now ≡ None) →
          has_fragments x (if clear then (if shown then clears made l o else l) else if last then (if comes then opens made l else l) else steps_on l o) ≡ false
      opening o true true last comes f = refl
      opening o true false last comes f = not_there
      opening o false shown true true f = ap (λ (z : Option (Row Body Asked Reply)). has_packet z && not (is_free x l.era.side l.era.side.now)) (f refl)
      opening o false shown true false f = not_there
      opening o false shown false comes f = refl

      -- its last access is no return to Init
      entered : (o : Opening) → (o.step == last_step o) ≡ true → is_left (Stand.Opens o) ≡ false
      entered o e = by o.again refl
        where
          by : (b : Bool) → o.again ≡ b → is_left (Stand.Opens o) ≡ false
          by true f = (λ i. f i && nat_lt (eqb-true o.step (last_step o) e i) 3) ∙ ap (λ (z : Bool). nat_lt (if z then 9 else 5) 3) f
          by false f = ap (λ (z : Bool). z && nat_lt o.step 3) f

      -- as the epoch goes on
      kept : (now : Option (Row Body Asked Reply)) → l.era.side.now ≡ now → (has_packet now && not (is_free x l.era.side now)) ≡ false →
          (has_packet (option_map (λ r. row_heard x made heard r) now) && not (is_free x e.side (option_map (λ r. row_heard x made heard r) now))) ≡ false
      kept None same f = refl
      kept (Some r) same f = by (is_other r.service) refl
        where
          over : (b : Bool) → (not false && not b) ≡ false → b ≡ true
          over true g = refl
          over false g = absurd (let bad : true ≡ false = g in cc)

          by : (b : Bool) → is_other r.service ≡ b → (not (is_other r.service) && not (is_free x e.side (Some (row_heard x made heard r)))) ≡ false
          by true o = ap (λ (z : Bool). not z && not (is_free x e.side (Some (row_heard x made heard r)))) o
          by false o =
              let was_over : is_free x l.era.side (Some r) ≡ true = over (is_free x l.era.side (Some r)) (sym (ap (λ (z : Bool). not z && not (is_free x l.era.side (Some r))) o) ∙ f) in
              let is_over : is_free x e.side (Some (row_heard x made heard r)) ≡ true =
              stays_over areas l.era.side e.side r (row_heard x made heard r) o (record { service = refl; told = refl; answer = heard_unanswered areas made heard r o }) (λ none. idle_back spot.station l.era.side.halves (grams (own spot.station back)) none)
              (λ sent. ap (λ (z : Bool). z && not (writes spot.station (grams (own spot.station back)))) sent) was_over in
              (λ i. not (o i) && not (is_over i))

      reopened : (k : Life Body Asked Reply) (hand : Option Duty) → has_fragments x k ≡ false → has_fragments x (reopens k hand) ≡ false
      reopened k None f = f
      reopened k (Some duty) f = by duty.stage
        where
          by : (stage : Stage) → has_fragments x (reopens_at k duty.target stage) ≡ false
          by Stage.Drains = f
          by (Stage.Goes phase) = init (returns_to_init duty.target)
            where
              init : (b : Bool) → has_fragments x (if b then record k { stand = reopening (opens_state duty.target) true } else k) ≡ false
              init true = refl
              init false = f

      comes : l.stand ≡ Stand.Open → has_fragments x (record l { era = e }) ≡ false
      comes s = ap (λ z. is_open z && (has_packet e.side.now && not (is_free x e.side e.side.now))) s ∙ kept l.era.side.now refl (sym (ap (λ z. is_open z && (has_packet l.era.side.now && not was)) s) ∙ not_there)

      go : (came : Option (Bool × Option Found)) (stand : Stand) → l.stand ≡ stand → HasInHand x known l stand work → has_fragments x (behind_so areas made place spot ns back true hand ms l came stand) ≡ false
      go came Stand.Gone s h = not_there
      go None (Stand.Opens o) s h = not_there
      go (Some got) (Stand.Opens o) s h = opening o (shows_clear o) (got.0 && is_shown 1 got.1) (o.step == last_step o) (got.0 && is_shown o.state got.1) (λ last. (h.1 (entered o last)).row)
      go None Stand.Open s h = reopened (record l { era = e }) e.account.hand (comes s)
      go (Some got) Stand.Open s h = reopened (record l { era = e }) e.account.hand (comes s)

  -- OF A SLAVE THAT THE FRAME CARRIED, where its hand knows its mails behind the frame
  pub back_goes : (known : Bool) (work : Work) → HasInHand x known l l.stand work → Goes (has_fragments x l) (has_fragments x m) (kinds_in place (returned_told x true place hand ms l m l.stand))
  back_goes known work h = go (has_fragments x l) refl
    where
      go : (b : Bool) → has_fragments x l ≡ b → Goes (has_fragments x l) (has_fragments x m) (kinds_in place (returned_told x true place hand ms l m l.stand))
      go true there = back_there (forwarding x l known work h there) there
      go false there = Goes.none there (back_none known work h there)

  -- and of an open one of which it had nothing
  pub unread_goes : (known : Bool) (work : Work) → HasInHand x known l l.stand work → (l.stand ≡ Stand.Open → mine spot.station back ≡ []) → Goes (has_fragments x l) (has_fragments x m) []
  unread_goes known work h none = go (has_fragments x l) refl
    where
      go : (b : Bool) → has_fragments x l ≡ b → Goes (has_fragments x l) (has_fragments x m) []
      go true there = (let t = forwarding x l known work h there in unread_there t there (none t.opened))
      go false there = Goes.none there (back_none known work h there)

-- BEHIND A LOST FRAME by which the slave isn't given up its packet is in hand as it was
pub lost_same : (areas : Areas) (spot : Spot) (ns : List (News Body)) (sent : List (Datagram Body)) (l : Life Body Asked Reply) (stand : Stand) (known : Bool) (work : Work) → HasInHand (hand_speech areas) known l stand work →
    has_fragments (hand_speech areas) (life_lost (hand_speech areas) acknowledged is_followed is_passed spot ns sent l stand) ≡ has_fragments (hand_speech areas) l
lost_same areas spot ns sent l (Stand.Opens o) known work h = refl
lost_same areas spot ns sent l Stand.Gone known work h = refl
lost_same areas spot ns sent l Stand.Open known work h = ap (λ (z : Bool). is_open l.stand && z) (by l.era.side.now refl)
  where
    x : Speech Body Asked Reply
    x = hand_speech areas

    d : Side Body Asked Reply
    d = side_lost spot.station (own spot.station sent) l.era.side

    by : (now : Option (Row Body Asked Reply)) → l.era.side.now ≡ now → (has_packet now && not (is_free x d now)) ≡ (has_packet now && not (is_free x l.era.side now))
    by None e = refl
    by (Some r) e = go (is_other r.service) refl
      where
        go : (b : Bool) → is_other r.service ≡ b → (not (is_other r.service) && not (is_free x d (Some r))) ≡ (not (is_other r.service) && not (is_free x l.era.side (Some r)))
        go true o = ap (λ (z : Bool). not z && not (is_free x d (Some r))) o ∙ sym (ap (λ (z : Bool). not z && not (is_free x l.era.side (Some r))) o)
        go false o =
            ap (λ (z : Bool). not (is_other r.service) && not z)
            (same_over areas l.era.side d r r o (record { service = refl; told = refl; answer = refl }) (ap (λ z. z.holding) (out_lost spot.station l.era.side.halves (grams (own spot.station sent))))
            (inl (no_answer r.answer (open_unanswered x known l.era.side l.era.account.hand l.era.passing work h r e o))))
