-- A MAIL IN HAND THAT IS PASSED ON, over a frame, by the life of its slave; and the answers that the frame tells of that slave.
use Rattle.std.proofs.Common.{◌≡◌, ℕ, Bool, true, false, Option, Some, None, List, [], ◌∷◌, ◌++◌, length, refl, sym, ap, ◌∙◌, subst}
use Rattle.std.specs.Prelude.{◌&&◌, is_some, not, option_map, if◌then◌else◌, Ok, Err}
use Rattle.std.proofs.lemmas.Bool.{eq-eqb}
use Rattle.plan_ring.specs.of_mailbox_mail.declared.outcome.ReplyKind.{ReplyKind}
use Rattle.packets_heard.specs.of_master_node.Backtold.{HasPassed, OpenHas, answer_told, changes_told, emergencies_told, ended_told, has_packet, kind_of, packet_told, passed_told, returned_told}
use Rattle.packets_heard.specs.of_master_node.Inhand.{HasInHand}
use Rattle.packets_heard.specs.of_master_node.Gateways.{replies_told}
use Rattle.packets_heard.specs.of_master_node.Named.{IsHanded, is_left}
use Rattle.packets_heard.specs.of_master_node.declared.event.Event.{Event}
use Rattle.packets_heard.specs.of_master_node.declared.post.Work.{Work}
use Rattle.served_places.specs.of_exchange_model.Areas.{Areas}
use Rattle.served_places.specs.of_exchange_model.Exchange.{Speech}
use Rattle.served_places.specs.of_exchange_model.Rows.{row_heard}
use Rattle.served_places.specs.of_link_model.Frames.{all_accepted}
use Rattle.served_places.specs.of_life_model.Lives.{Era, Life, Spot, Stand, era_back, life_back, reopens}
use Rattle.served_places.specs.of_life_model.Own.{own}
use Rattle.served_places.specs.of_life_runs.Spans.{is_open}
use Rattle.served_places.specs.of_link_mails.Body.{Body}
use Rattle.served_places.specs.of_master_duty.Reply.{Reply}
use Rattle.served_places.specs.of_master_hand.Brings.{emergencies_in}
use Rattle.served_places.specs.of_master_hand.Spoken.{Asked, acknowledged, hand_speech, is_followed, is_passed}
use Rattle.served_places.specs.of_segment_model.Ends.{Passing}
use Rattle.served_places.specs.of_segment_model.Record.{News}
use Rattle.served_places.specs.of_segment_model.Slaves.{Datagram, Found, grams}
use Rattle.served_places.specs.of_state_model.Accounts.{Account, Duty, is_free}
use Rattle.packets_heard.proofs.of_master_node.Changes.{none_back, none_more}
use Rattle.packets_heard.proofs.of_master_node.Handeds.{back_handed, stays_open}
use Rattle.packets_heard.proofs.of_master_node.Rowtells.{kind_told, passed_kind, passed_other}
use Rattle.run_notes.specs.Handed.{kinds_in}
use Rattle.run_notes.proofs.Handings.{kinds_append}
use Rattle.run_record.specs.Mails.{has_passing}
use Rattle.served_places.specs.of_life_runs.Told.{Passed, replies_in}

pub open_is : (stand : Stand) → is_open stand ≡ true → stand ≡ Stand.Open
open_is (Stand.Opens o) e = absurd (let bad : false ≡ true = e in cc)
open_is Stand.Open e = refl
open_is Stand.Gone e = absurd (let bad : false ≡ true = e in cc)

pub both_true : (a b : Bool) → (a && b) ≡ true → (a ≡ true) × (b ≡ true)
both_true true b e = (refl, e)
both_true false b e = absurd (let bad : false ≡ true = e in cc)

-- WHAT IS KNOWN where a mail is in hand: its slave is open, nothing else is in hand, and it has a key
pub record IsThere (hand : Option Passed) (l : Life Body Asked Reply) : Type 0 where
  pub opened : l.stand ≡ Stand.Open
  pub some : is_some l.era.passing ≡ true
  pub alone : l.era.account.hand ≡ None
  pub passed : Passed
  pub is : hand ≡ Some passed

pub there : (work : Work) (hand : Option Passed) (l : Life Body Asked Reply) → IsHanded work hand l → has_passing l ≡ true → IsThere hand l
there work hand l h e =
    let b = both_true (is_open l.stand) (is_some l.era.passing) e in
    let o = open_is l.stand b.0 in
    let k = h.only (ap is_left o) b.1 in
    let n = h.named k.0 k.1 in
    record { opened = o; some = b.1; alone = n.alone; passed = n.passed; is = n.is }

-- IT IS IN HAND, OR OVER, OR NONE WAS, and so it is told
pub data Goes (was is : Bool) (kinds : List ReplyKind) : Type 0 where
  on : was ≡ true → is ≡ true → kinds ≡ [] → Goes was is kinds
  over : (rest : List ReplyKind) → was ≡ true → is ≡ false → kinds ≡ ReplyKind.Handed ∷ rest → Goes was is kinds
  none : was ≡ false → is ≡ false → Goes was is kinds

-- ---- what is told of an open slave

pub emergency_kinds : (k place : ℕ) (os : List (List ℕ)) → kinds_in k (emergencies_told place os) ≡ []
emergency_kinds k place [] = refl
emergency_kinds k place (o ∷ os) = emergency_kinds k place os

pub reply_kinds : (k key : ℕ) (bs : List Body) → kinds_in k (replies_told key bs) ≡ []
reply_kinds k key [] = refl
reply_kinds k key (Ok m ∷ bs) = reply_kinds k key bs
reply_kinds k key (Err fault ∷ bs) = reply_kinds k key bs

pub five_kinds : (k : ℕ) (e p a q c : List Event) → kinds_in k e ≡ [] → kinds_in k (e ++ p ++ a ++ q ++ c) ≡ kinds_in k p ++ kinds_in k a ++ kinds_in k q ++ kinds_in k c
five_kinds k e p a q c quiet =
    kinds_append k (e ++ p ++ a ++ q) c
    ∙ ap (λ z. z ++ kinds_in k c) (kinds_append k (e ++ p ++ a) q ∙ ap (λ z. z ++ kinds_in k q) (kinds_append k (e ++ p) a ∙ ap (λ z. z ++ kinds_in k a) (kinds_append k e p ∙ ap (λ z. z ++ kinds_in k p) quiet)))

-- of the mail in hand
mail_kinds : (place : ℕ) (hand : Option Passed) (p : Passed) (old new : Option Passing) (ms : List Body) → hand ≡ Some p → is_some old ≡ true → kinds_in place (passed_told place hand old new ms) ≡ kinds_in place (ended_told place p.key true (is_some new))
mail_kinds place hand p old new ms is some =
    ap (λ z. kinds_in place (passed_told place z old new ms)) is
    ∙ kinds_append place (replies_told p.key (replies_in old ms)) (ended_told place p.key (is_some old) (is_some new))
    ∙ (λ i. reply_kinds place p.key (replies_in old ms) i ++ kinds_in place (ended_told place p.key (some i) (is_some new)))

ended_goes : (place key : ℕ) (goes : Bool) → goes ≡ true → kinds_in place (ended_told place key true goes) ≡ []
ended_goes place key goes e = ap (λ z. kinds_in place (ended_told place key true z)) e

ended_over : (place key : ℕ) (goes : Bool) → goes ≡ false → kinds_in place (ended_told place key true goes) ≡ ReplyKind.Handed ∷ []
ended_over place key goes e =
    ap (λ z. kinds_in place (ended_told place key true z)) e ∙ ap (λ (z : Bool). (if z then ReplyKind.Handed ∷ [] else []) ++ []) (eq-eqb place place refl)

module _ (areas : Areas) (made place : ℕ) (spot : Spot) (ns : List (News Body)) (back : List (Datagram Body)) (knows : Bool) (hand : Option Passed) (ms : List Body) (l : Life Body Asked Reply) where
  abbrev x : Speech Body Asked Reply
  x = hand_speech areas

  abbrev pub e : Era Body Asked Reply
  e = era_back x acknowledged is_followed is_passed spot.station made ns back l.era

  abbrev pub behind_so : Option (Bool × Option Found) → Stand → Life Body Asked Reply
  behind_so came stand = life_back x acknowledged is_followed is_passed made spot ns back came l stand

  -- the epoch behind the frame, where no change of state is in hand
  pub era_is : (came : Option (Bool × Option Found)) (stand : Stand) → stand ≡ Stand.Open → e.account.hand ≡ None → (behind_so came stand).era ≡ e
  era_is None Stand.Open s h = ap (λ (z : Option Duty). (reopens (record l { era = e }) z).era) h
  era_is (Some got) Stand.Open s h = ap (λ (z : Option Duty). (reopens (record l { era = e }) z).era) h
  era_is came (Stand.Opens o) s h = absurd (cc)
  era_is came Stand.Gone s h = absurd (cc)

  pub same_account : l.era.account.hand ≡ None → e.account ≡ l.era.account
  same_account h = none_back spot.station made l.era.account (own spot.station back) h

  -- nothing else is told of it
  module _ (p : HasPassed l.era.side.now) where
    answer_none : answer_told place (kind_of l.era.side.now) (kind_of e.side.now) ≡ []
    answer_none =
        let now : e.side.now ≡ Some (row_heard x made (all_accepted spot.station l.era.side.halves (grams (own spot.station back))) p.row) = ap (λ z. option_map (λ r. row_heard x made (all_accepted spot.station l.era.side.halves (grams (own spot.station back))) r) z) p.is in
        (λ i. answer_told place (kind_of (p.is i)) (kind_of (now i))) ∙ kind_told place made p.row.answer _ (passed_kind areas p.row.service _ p.passed)

    packet_none : (was is : Bool) → packet_told place (has_packet l.era.side.now) knows was is ≡ []
    packet_none was is = ap (λ z. packet_told place (has_packet z) knows was is) p.is ∙ ap (λ z. packet_told place (not z) knows was is) (passed_other p.row.service p.passed)

  pub changes_none : l.era.account.hand ≡ None → changes_told place (length l.era.account.over) e.account.over ≡ []
  changes_none h = ap (λ (a : Account Asked Reply). changes_told place (length l.era.account.over) a.over) (same_account h) ∙ none_more place l.era.account.over

  has_row : (known : Bool) (work : Work) → IsThere hand l → HasInHand x known l l.stand work → HasPassed l.era.side.now
  has_row known work t h = go l.era.passing t.some (subst (λ z. OpenHas x known l.era.side z l.era.passing work) t.alone (subst (λ z. HasInHand x known l z work) t.opened h))
    where
      go : (o : Option Passing) → is_some o ≡ true → OpenHas x known l.era.side None o work → HasPassed l.era.side.now
      go None s h = absurd (let bad : false ≡ true = s in cc)
      go (Some y) s h = h.0

  module _ (came : Option (Bool × Option Found)) where
    abbrev m : Life Body Asked Reply
    m = behind_so came l.stand

    abbrev told : List Event
    told = returned_told x knows place hand ms l m l.stand

    stands : IsThere hand l → m.stand ≡ Stand.Open
    stands t = (stays_open x made spot ns back came l l.stand t.opened t.opened t.alone).0

    is_there : IsThere hand l → has_passing m ≡ is_some m.era.passing
    is_there t = ap (λ z. is_open z && is_some m.era.passing) (stands t)

    open_kinds : (t : IsThere hand l) → kinds_in place told ≡
        kinds_in place (ended_told place t.passed.key true (is_some m.era.passing)) ++ kinds_in place (answer_told place (kind_of l.era.side.now) (kind_of m.era.side.now))
        ++ kinds_in place (packet_told place (has_packet l.era.side.now) knows (is_free x l.era.side l.era.side.now) (is_free x m.era.side m.era.side.now)) ++ kinds_in place (changes_told place (length l.era.account.over) m.era.account.over)
    open_kinds t =
        let answers = answer_told place (kind_of l.era.side.now) (kind_of m.era.side.now) in
        let packets = packet_told place (has_packet l.era.side.now) knows (is_free x l.era.side l.era.side.now) (is_free x m.era.side m.era.side.now) in
        let changes = changes_told place (length l.era.account.over) m.era.account.over in
        ap (λ z. kinds_in place (returned_told x knows place hand ms l m z)) t.opened
        ∙ five_kinds place (emergencies_told place (emergencies_in ms)) (passed_told place hand l.era.passing m.era.passing ms) answers packets changes (emergency_kinds place place (emergencies_in ms))
        ∙ ap (λ z. z ++ kinds_in place answers ++ kinds_in place packets ++ kinds_in place changes) (mail_kinds place hand t.passed l.era.passing m.era.passing ms t.is t.some)

    rest_none : (t : IsThere hand l) → HasPassed l.era.side.now →
        kinds_in place (answer_told place (kind_of l.era.side.now) (kind_of m.era.side.now)) ++ kinds_in place (packet_told place (has_packet l.era.side.now) knows (is_free x l.era.side l.era.side.now) (is_free x m.era.side m.era.side.now))
        ++ kinds_in place (changes_told place (length l.era.account.over) m.era.account.over) ≡ []
    rest_none t p =
        let era = era_is came l.stand t.opened (ap (λ (a : Account Asked Reply). a.hand) (same_account t.alone) ∙ t.alone) in
        (λ i. kinds_in place ((ap (λ (z : Era Body Asked Reply). answer_told place (kind_of l.era.side.now) (kind_of z.side.now)) era ∙ answer_none p) i)
        ++ kinds_in place (packet_none p (is_free x l.era.side l.era.side.now) (is_free x m.era.side m.era.side.now) i)
        ++ kinds_in place ((ap (λ (z : Era Body Asked Reply). changes_told place (length l.era.account.over) z.account.over) era ∙ changes_none t.alone) i))

    back_there : (known : Bool) (work : Work) → IsThere hand l → HasInHand x known l l.stand work → has_passing l ≡ true → Goes (has_passing l) (has_passing m) (kinds_in place told)
    back_there known work t h was = go (is_some m.era.passing) refl
      where
        go : (b : Bool) → is_some m.era.passing ≡ b → Goes (has_passing l) (has_passing m) (kinds_in place told)
        go true s =
            Goes.on was (is_there t ∙ s)
            (open_kinds t
            ∙ ap (λ z. z ++ kinds_in place (answer_told place (kind_of l.era.side.now) (kind_of m.era.side.now)) ++ kinds_in place (packet_told place (has_packet l.era.side.now) knows (is_free x l.era.side l.era.side.now) (is_free x m.era.side m.era.side.now)) ++ kinds_in place (changes_told place (length l.era.account.over) m.era.account.over)) (ended_goes place t.passed.key (is_some m.era.passing) s)
            ∙ rest_none t (has_row known work t h))
        go false s =
            Goes.over _ was (is_there t ∙ s)
            (open_kinds t
            ∙ ap (λ z. z ++ kinds_in place (answer_told place (kind_of l.era.side.now) (kind_of m.era.side.now)) ++ kinds_in place (packet_told place (has_packet l.era.side.now) knows (is_free x l.era.side l.era.side.now) (is_free x m.era.side m.era.side.now)) ++ kinds_in place (changes_told place (length l.era.account.over) m.era.account.over)) (ended_over place t.passed.key (is_some m.era.passing) s))

    -- where none is none comes
    back_none : (work : Work) → IsHanded work hand l → has_passing l ≡ false → has_passing m ≡ false
    back_none work h was = go (has_passing m) refl
      where
        nothing : IsHanded Work.Nothing None l
        nothing = record {
          named = λ key bad. absurd (cc);
          only = λ left some.
              let k = h.only left some in
              let n = h.named k.0 k.1 in
              let is : has_passing l ≡ true = (λ i. is_open (n.opened i) && n.passing i) in
              absurd (let bad : true ≡ false = sym is ∙ was in cc);
        }

        after : IsHanded Work.Nothing None m
        after = back_handed x made spot ns back came l Work.Nothing Work.Nothing None ms nothing (record { named = λ key bad. absurd (cc); stays = λ key bad. absurd (cc) })

        go : (b : Bool) → has_passing m ≡ b → has_passing m ≡ false
        go true is =
            let b = both_true (is_open m.stand) (is_some m.era.passing) is in
            let k = after.only (ap is_left (open_is m.stand b.0)) b.1 in
            absurd (let bad = k.1 in cc)
        go false is = is

    -- OF A SLAVE THAT THE FRAME CARRIED
    pub back_goes : (known : Bool) (work : Work) → IsHanded work hand l → HasInHand x known l l.stand work → Goes (has_passing l) (has_passing m) (kinds_in place told)
    back_goes known work i h = go (has_passing l) refl
      where
        go : (b : Bool) → has_passing l ≡ b → Goes (has_passing l) (has_passing m) (kinds_in place told)
        go true was = back_there known work (there work hand l i was) h was
        go false was = Goes.none was (back_none work i was)

    -- and of one that it left out
    pub still_goes : (work : Work) → IsHanded work hand l → m.era.passing ≡ l.era.passing → Goes (has_passing l) (has_passing m) []
    still_goes work i same = go (has_passing l) refl
      where
        go : (b : Bool) → has_passing l ≡ b → Goes (has_passing l) (has_passing m) []
        go true was = (let t = there work hand l i was in Goes.on was (is_there t ∙ ap (λ (z : Option Passing). is_some z) same ∙ t.some) refl)
        go false was = Goes.none was (back_none work i was)
