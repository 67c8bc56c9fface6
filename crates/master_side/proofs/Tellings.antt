-- What a slave's own datagram tells, for a mail that is passed on.
use Rattle.std.proofs.Common.{◌≡◌, ℕ, ◌==◌, List, [], ◌∷◌, ◌++◌, Bool, true, false, Option, Some, None, refl, sym, ap, ◌∙◌, append-nil, eq-eqb, map}
use Rattle.std.specs.Prelude.{◌&&◌, is_some, if◌then◌else◌, option_map, slice_index, nat_lt, ⊤}
use Rattle.master_duty.specs.of_ec_fields.Fields.{bits_of, number_at}
use Rattle.frame_view.specs.of_exchange_model.Exchange.{Speech}
use Rattle.mailbox_master.specs.of_link_mails.Body.{Body}
use Rattle.mailbox_master.specs.of_link_model.Link.{Halves}
use Rattle.mailbox_master.specs.of_link_model.Mails.{LinkMail, news}
use Rattle.mailbox_master.specs.of_link_model.Master.{InHalf, InState}
use Rattle.mailbox_master.specs.of_link_model.Frames.{Ask, Gram, in_ask, halves_accept, mail_back}
use Rattle.mailbox_master.specs.of_link_model.Segment.{RingFate}
use Rattle.master_duty.specs.of_segment_model.Ends as Ends
use Rattle.master_duty.specs.of_segment_model.Record.{News, Kept, frame_news, without_empty, gram_news, found_news, is_for, mail_told}
use Rattle.master_duty.specs.of_segment_model.Seats.{Side}
use Rattle.master_duty.specs.of_segment_model.Slaves.{Datagram, Address, Access, Found}
use Rattle.frame_view.specs.View.{register_counter, found_of, state_found}
use Rattle.frame_view.specs.of_life_model.Lives.{passes}
use Rattle.mailbox_master.specs.Any.{in_got}
use Rattle.mailbox_master.specs.Seat.{got_seen}
use Rattle.mailbox_master.specs.declared.seat.GotView.{GotView}
use Rattle.master_duty.specs.Reply.{Reply}
use Rattle.master_duty.specs.of_state_model.Accounts.{Account, duty_access}
use Rattle.master_side.specs.declared.carried.Carried.{Carried}
use Rattle.master_side.specs.declared.passing.Passing.{Passing}
use Rattle.master_side.specs.Carried.{Asks, Meant, IsBack, one, is_read, is_errand}
use Rattle.master_side.specs.Heard.{view_in, heard_of}
use Rattle.master_side.specs.Passes.{told_by, written_by, status_by, empty_by}
use Rattle.master_side.specs.Passing.{IsKept, passing_seen, news_back, news_lost}
use Rattle.master_side.proofs.Backs.{gram_back, in_counter, in_accept_is, errand_asks}
use Rattle.master_side.proofs.Passings.{fresh_told, news_told, by_none, by_append, told_seen, written_seen, full_seen, status_seen, empty_seen}

abbrev Bodies : Type 0
Bodies = List (News Body)

-- what is told of a mail that is sent
abbrev sent_news : Kept → Ask Body → Bodies
sent_news kept ask = map (λ m. News.Told m) (mail_told kept.told ask)

-- what came back of another register
abbrev found_back : Access → ℕ → List ℕ → Bodies
found_back access counter octets = if register_counter access counter == 0 then [] else found_news (found_of access counter octets)

abbrev back_frame : Datagram Body → Kept → ℕ → Bodies
back_frame b kept station = frame_news station kept (record { sent = one b; fate = RingFate.Back; back = one b })

module _ (station : ℕ) (kept : Kept) (b : Datagram Body) (ask : Ask Body) (access : Access) (k : b.gram.station ≡ station) (e : b.gram.ask ≡ ask) where
  mine : (b.gram.station == station) ≡ true
  mine = eq-eqb b.gram.station station k

  -- of a datagram that was lost
  pub lost_one : news_lost station kept (one b) ≡ sent_news kept ask
  lost_one =
      (λ i. map (λ m. News.Told m) ((if mine i then mail_told kept.told (e i) else []) ++ []) ++ [])
      ∙ append-nil (map (λ m. News.Told m) (mail_told kept.told ask ++ []))
      ∙ ap (λ ms. map (λ m. News.Told m) ms) (append-nil (mail_told kept.told ask))

  -- and of one that came back
  pub back_one : (counter : ℕ) (octets : List ℕ) → b.address ≡ Address.Station station → b.access ≡ access → IsBack counter octets b →
      back_frame b kept station ≡ sent_news kept ask ++ (gram_news kept.heard ask b.gram ++ found_back access counter octets)
  back_one counter octets to a i =
      (λ j. map (λ m. News.Told m) ((if mine j then mail_told kept.told (e j) else []) ++ [])
      ++ (((if mine j then gram_news kept.heard (e j) b.gram else []) ++ (if meant j then (if counted j == 0 then [] else found_news (found j)) else [])) ++ []))
      ∙ (λ j. map (λ m. News.Told m) (append-nil (mail_told kept.told ask) j) ++ append-nil (gram_news kept.heard ask b.gram ++ found_back access counter octets) j)
    where
      meant : is_for station b.address ≡ true
      meant = ap (is_for station) to ∙ eq-eqb station station refl

      counted : b.counter ≡ register_counter access counter
      counted = i.registers ∙ ap (λ z. register_counter z counter) a

      found : b.found ≡ found_of access counter octets
      found = i.found ∙ ap (λ z. found_of z counter octets) a

-- a status was read, or nothing
abbrev IsStateFound : Option Found → Type 0
IsStateFound None = ⊤
IsStateFound (Some (Found.State state refused)) = ⊤
IsStateFound (Some (Found.Full full)) = ⊥

-- empty reads that don't count are left out
counts_same : (counts : Bool) (ns : Bodies) → without_empty ns ≡ ns → (if counts then ns else without_empty ns) ≡ ns
counts_same true ns e = refl
counts_same false ns e = e

module _ {Q : Type 0} (x : Speech Body Q Reply) (acknowledged : Q → Bool) (more : Body → Bool) (passed : Q → Bool) where
  abbrev by : Option Ends.Passing → Bodies → Option Ends.Passing
  by p ns = passes x acknowledged more passed p ns

  module _ (station : ℕ) (kept : Kept) (b : Datagram Body) (d : Side Body Q Reply) (a : Account Q Reply) where
    -- the write of the mail held
    sends_fresh : IsKept kept d → (m : LinkMail Body) → d.halves.out.holding ≡ Some m → sent_news kept (Ask.WriteMail m) ≡ fresh_told d.fresh m.body
    sends_fresh k m h = ap (λ ms. map (λ m. News.Told m) ms) (news_told kept d m k h) ∙ go d.fresh
      where
        go : (f : Bool) → map (λ m. News.Told m) (if f then m.body ∷ [] else []) ≡ fresh_told f m.body
        go true = refl
        go false = refl

    pub lost_write_seen : (old : Option Passing) (fresh : Bool) (p : Option Ends.Passing) → d.fresh ≡ fresh → IsKept kept d → Meant station Carried.Write d.halves (duty_access a.hand) b → p ≡ passing_seen old →
        by p (news_lost station kept (one b)) ≡ passing_seen (told_by old fresh)
    lost_write_seen old fresh p f k w s = let (m, e, h, z) = w.asks in
        (λ i. by (s i) (lost_one station kept b (Ask.WriteMail m) Access.Elsewhere w.station_is e i))
        ∙ ap (by (passing_seen old)) (sends_fresh k m h ∙ ap (λ g. fresh_told g m.body) f) ∙ told_seen x acknowledged more passed old fresh m.body

    write_kept : (fresh z : Bool) (body : Body) → without_empty (fresh_told fresh body ++ ((if z then [] else News.Written ∷ []) ++ [])) ≡ fresh_told fresh body ++ ((if z then [] else News.Written ∷ []) ++ [])
    write_kept true true body = refl
    write_kept true false body = refl
    write_kept false true body = refl
    write_kept false false body = refl

    pub write_seen : (old : Option Passing) (fresh counts : Bool) (p : Option Ends.Passing) (counter : ℕ) (octets : List ℕ) → d.fresh ≡ fresh → IsKept kept d → Meant station Carried.Write d.halves (duty_access a.hand) b → IsBack counter octets b → p ≡ passing_seen old →
        by p (news_back station kept counts (one b)) ≡ passing_seen (written_by (told_by old fresh) counter)
    write_seen old fresh counts p counter octets f k w i s = let (m, e, h, z) = w.asks in
        let t = gram_back counter octets b (Ask.WriteMail m) i e refl in
        let told = fresh_told fresh m.body in
        let back = if counter == 0 then [] else News.Written ∷ [] in
        let is : back_frame b kept station ≡ told ++ (back ++ []) =
        back_one station kept b (Ask.WriteMail m) Access.Elsewhere w.station_is e counter octets w.address z i
        ∙ (λ j. (sends_fresh k m h ∙ ap (λ g. fresh_told g m.body) f) j ++ ((if t.counted j == 0 then [] else News.Written ∷ []) ++ [])) in
        (λ j. by (s j) (if counts then is j else without_empty (is j)))
        ∙ ap (by (passing_seen old)) (counts_same counts (told ++ (back ++ [])) (write_kept fresh (counter == 0) m.body) ∙ ap (λ l. told ++ l) (append-nil back))
        ∙ by_append x acknowledged more passed (passing_seen old) told back ∙ ap (λ q. by q back) (told_seen x acknowledged more passed old fresh m.body)
        ∙ written_seen x acknowledged more passed (told_by old fresh) counter

    -- an errand: the status of mailbox 0, or an access of a state service
    found_kept : (found : Option Found) → without_empty (found_news {M = Body} found) ≡ found_news found
    found_kept None = refl
    found_kept (Some (Found.State state refused)) = refl
    found_kept (Some (Found.Full full)) = refl

    found_back_kept : (access : Access) (counter : ℕ) (octets : List ℕ) → without_empty (found_back access counter octets) ≡ found_back access counter octets
    found_back_kept access counter octets = go (register_counter access counter == 0)
      where
        go : (z : Bool) → without_empty (if z then [] else found_news {M = Body} (found_of access counter octets)) ≡ (if z then [] else found_news (found_of access counter octets))
        go true = refl
        go false = found_kept (found_of access counter octets)

    errand_news : (counts : Bool) (access : Access) (counter : ℕ) (octets : List ℕ) → b.gram.station ≡ station → b.gram.ask ≡ Ask.Other → b.address ≡ Address.Station station → b.access ≡ access → IsBack counter octets b →
        news_back station kept counts (one b) ≡ found_back access counter octets
    errand_news counts access counter octets k e to z i =
        let is = back_one station kept b Ask.Other access k e counter octets to z i in
        (λ j. if counts then is j else without_empty (is j)) ∙ counts_same counts (found_back access counter octets) (found_back_kept access counter octets)

    unfound : (old : Option Passing) (counter : ℕ) (ns : Bodies) → (counter == 0) ≡ true → by (passing_seen old) (if counter == 0 then [] else ns) ≡ passing_seen old
    unfound old counter ns e = ap (λ (z : Bool). by (passing_seen old) (if z then [] else ns)) e ∙ by_none x acknowledged more passed (passing_seen old)

    state_seen : (old : Option Passing) (found : Option Found) → IsStateFound found → by (passing_seen old) (found_news found) ≡ passing_seen old
    state_seen old None w = by_none x acknowledged more passed (passing_seen old)
    state_seen old (Some (Found.State state refused)) w = status_seen x acknowledged more passed old state refused
    state_seen old (Some (Found.Full full)) w = absurd w

    status_found : (status code : ℕ) → IsStateFound (state_found status code)
    status_found status code = go (nat_lt status 32)
      where
        go : (z : Bool) → IsStateFound (if z then Some (Found.State (bits_of status 0 4) (if bits_of status 4 1 == 1 then Some code else None)) else None)
        go true = tt
        go false = tt

    back_seen : (old : Option Passing) (carried : Carried) (due : Option Access) (counter : ℕ) (octets : List ℕ) → is_errand carried ≡ true → Asks carried d.halves due b.gram.ask b.access → (counter == 0) ≡ false →
        by (passing_seen old) (found_back b.access counter octets) ≡ passing_seen (status_by old carried (bits_of (slice_index octets 0) 3 1 == 1))
    back_seen old Carried.Nothing due counter octets e w n = absurd (cc)
    back_seen old Carried.Write due counter octets e w n = absurd (cc)
    back_seen old Carried.Inward due counter octets e w n = absurd (cc)
    back_seen old Carried.Full due counter octets e w n =
        (λ j. by (passing_seen old) (found_back (w.1 j) counter octets))
        ∙ (λ j. by (passing_seen old) (if n j then [] else found_news (if n j then None else Some (Found.Full (bits_of (slice_index octets 0) 3 1 == 1)))))
        ∙ full_seen x acknowledged more passed old (bits_of (slice_index octets 0) 3 1 == 1)
    back_seen old Carried.Control due counter octets e (t, k, o, u, z) n =
        (λ j. by (passing_seen old) (found_back (z j) counter octets)) ∙ (λ j. by (passing_seen old) (if n j then [] else [])) ∙ by_none x acknowledged more passed (passing_seen old)
    back_seen old Carried.Status due counter octets e (o, u, z) n =
        (λ j. by (passing_seen old) (found_back (z j) counter octets))
        ∙ (λ j. by (passing_seen old) (if n j then [] else found_news (if n j then None else state_found (number_at 2 octets 0) (number_at 2 octets 4))))
        ∙ state_seen old (state_found (number_at 2 octets 0) (number_at 2 octets 4)) (status_found (number_at 2 octets 0) (number_at 2 octets 4))

    undone_counter : (access : Access) (counter : ℕ) → (counter == 0) ≡ true → (register_counter access counter == 0) ≡ true
    undone_counter Access.Elsewhere counter e = refl
    undone_counter Access.ReadState counter e = e
    undone_counter Access.ReadFull counter e = e
    undone_counter (Access.SetControl target acknowledge) counter e = e
    undone_counter (Access.SetStation station) counter e = e
    undone_counter (Access.SetFirst own) counter e = e
    undone_counter (Access.SetSecond own) counter e = e

    -- one that was not done tells nothing
    pub undone_seen : (old : Option Passing) (counts : Bool) (p : Option Ends.Passing) (carried : Carried) (counter : ℕ) (octets : List ℕ) → is_errand carried ≡ true → (counter == 0) ≡ true → Meant station carried d.halves (duty_access a.hand) b → IsBack counter octets b →
        p ≡ passing_seen old → by p (news_back station kept counts (one b)) ≡ passing_seen old
    undone_seen old counts p carried counter octets e n w i s =
        (λ j. by (s j) (errand_news counts b.access counter octets w.station_is (errand_asks carried d.halves (duty_access a.hand) b.gram.ask b.access e w.asks).0 w.address refl i j))
        ∙ ap (λ (z : Bool). by (passing_seen old) (if z then [] else found_news (found_of b.access counter octets))) (undone_counter b.access counter n)
        ∙ by_none x acknowledged more passed (passing_seen old)

    pub errand_seen : (old : Option Passing) (counts : Bool) (p : Option Ends.Passing) (carried : Carried) (counter : ℕ) (octets : List ℕ) → is_errand carried ≡ true → (counter == 0) ≡ false → Meant station carried d.halves (duty_access a.hand) b → IsBack counter octets b →
        p ≡ passing_seen old → by p (news_back station kept counts (one b)) ≡ passing_seen (status_by old carried (bits_of (slice_index octets 0) 3 1 == 1))
    errand_seen old counts p carried counter octets e n w i s =
        (λ j. by (s j) (errand_news counts b.access counter octets w.station_is (errand_asks carried d.halves (duty_access a.hand) b.gram.ask b.access e w.asks).0 w.address refl i j))
        ∙ back_seen old carried (duty_access a.hand) counter octets e w.asks n

    -- an errand that was lost tells nothing, nor does the inward half's datagram
    pub lost_errand_seen : (old : Option Passing) (p : Option Ends.Passing) (ask : Ask Body) → sent_news kept ask ≡ [] → b.gram.station ≡ station → b.gram.ask ≡ ask → p ≡ passing_seen old → by p (news_lost station kept (one b)) ≡ passing_seen old
    lost_errand_seen old p ask n k e s = (λ j. by (s j) ((lost_one station kept b ask Access.Elsewhere k e ∙ n) j)) ∙ by_none x acknowledged more passed (passing_seen old)

    pub inward_untold : (s : InState) (bit : Bool) → sent_news kept (in_ask s bit) ≡ []
    inward_untold InState.Clear bit = refl
    inward_untold InState.Doubt bit = refl
    inward_untold InState.Asked bit = refl
    inward_untold InState.Refetch bit = refl

    pub lost_other_seen : (old : Option Passing) (p : Option Ends.Passing) (carried : Carried) → (carried ≡ Carried.Write → ⊥) → Meant station carried d.halves (duty_access a.hand) b → p ≡ passing_seen old → by p (news_lost station kept (one b)) ≡ passing_seen old
    lost_other_seen old p Carried.Nothing n w s = absurd w.asks
    lost_other_seen old p Carried.Write n w s = absurd (n refl)
    lost_other_seen old p Carried.Inward n w s = lost_errand_seen old p (in_ask d.halves.inn.state d.halves.inn.bit) (inward_untold d.halves.inn.state d.halves.inn.bit) w.station_is w.asks.0 s
    lost_other_seen old p Carried.Full n w s = lost_errand_seen old p Ask.Other refl w.station_is w.asks.0 s
    lost_other_seen old p Carried.Control n w s = let (t, g, o, u, z) = w.asks in lost_errand_seen old p Ask.Other refl w.station_is o s
    lost_other_seen old p Carried.Status n w s = lost_errand_seen old p Ask.Other refl w.station_is w.asks.0 s

    -- the inward half's datagram: an empty read, or the mail that was accepted
    pub read_is : (h : InHalf) (s : InState) (counter : ℕ) (octets : List ℕ) (got : Option GotView) → option_map got_seen got ≡ in_got h s counter octets → is_some got ≡ is_read s
    read_is h InState.Clear counter octets None e = absurd (cc)
    read_is h InState.Clear counter octets (Some v) e = refl
    read_is h InState.Doubt counter octets None e = refl
    read_is h InState.Doubt counter octets (Some v) e = absurd (cc)
    read_is h InState.Asked counter octets None e = refl
    read_is h InState.Asked counter octets (Some v) e = absurd (cc)
    read_is h InState.Refetch counter octets None e = absurd (cc)
    read_is h InState.Refetch counter octets (Some v) e = refl

    abbrev empties : Bool → ℕ → Bodies
    empties read counter = if read && counter == 0 then News.NothingRead ∷ [] else []

    -- a read that came back with this counter: that is its news
    read_news : (last counter : ℕ) (g : Gram Body) (ms : List Body) → g.counter ≡ counter → news last (mail_back g) ≡ ms → gram_news last Ask.ReadMail g ≡ empties true counter ++ map (λ m. News.Heard m) ms
    read_news last counter g ms e n = ap (λ z. if z == 0 then News.NothingRead ∷ [] else map (λ m. News.Heard m) (news last g.mail)) e ∙ go (counter == 0) refl
      where
        go : (z : Bool) → (counter == 0) ≡ z → (if z then News.NothingRead ∷ [] else map (λ m. News.Heard m) (news last g.mail)) ≡ (if true && z then News.NothingRead ∷ [] else []) ++ map (λ m. News.Heard m) ms
        go true t = ap (λ l. News.NothingRead ∷ map (λ m. News.Heard m) l) (sym (ap (λ (z : Bool). news last (if z then None else g.mail)) (ap (λ z. z == 0) e ∙ t)) ∙ n)
        go false t = ap (λ l. map (λ m. News.Heard m) l) (sym (ap (λ (z : Bool). news last (if z then None else g.mail)) (ap (λ z. z == 0) e ∙ t)) ∙ n)

    inward_news : (last counter : ℕ) (s : InState) (bit : Bool) (h : Halves Body) (g : Gram Body) (ms : List Body) → g.counter ≡ counter → last ≡ h.inn.last → halves_accept h (in_ask s bit) g ≡ ms → gram_news last (in_ask s bit) g ≡ empties (is_read s) counter ++ map (λ m. News.Heard m) ms
    inward_news last counter InState.Clear bit h g ms e l n = read_news last counter g ms e (ap (λ k. news k (mail_back g)) l ∙ n)
    inward_news last counter InState.Doubt bit h g ms e l n = ap (λ z. map (λ m. News.Heard m) z) n
    inward_news last counter InState.Asked bit h g ms e l n = ap (λ z. map (λ m. News.Heard m) z) n
    inward_news last counter InState.Refetch bit h g ms e l n = read_news last counter g ms e (ap (λ k. news k (mail_back g)) l ∙ n)

    heard_kept : (ms : List Body) → without_empty (map (λ m. News.Heard m) ms) ≡ map (λ m. News.Heard m) ms
    heard_kept [] = refl
    heard_kept (m ∷ ms) = ap (λ l. News.Heard m ∷ l) (heard_kept ms)

    -- what of it counts
    counted_in : (read z counts : Bool) (ms : List Body) →
        (let ns = (if read && z then News.NothingRead ∷ [] else []) ++ map (λ m. News.Heard m) ms in if counts then ns else without_empty ns) ≡ (if read && (z && counts) then News.NothingRead ∷ [] else []) ++ map (λ m. News.Heard m) ms
    counted_in false z true ms = refl
    counted_in false z false ms = heard_kept ms
    counted_in true false true ms = refl
    counted_in true false false ms = heard_kept ms
    counted_in true true true ms = refl
    counted_in true true false ms = heard_kept ms

    empties_seen : (old : Option Passing) (z : Bool) → by (passing_seen old) (if z then News.NothingRead ∷ [] else []) ≡ passing_seen (if z then empty_by old else old)
    empties_seen old true = empty_seen x acknowledged more passed old
    empties_seen old false = by_none x acknowledged more passed (passing_seen old)

    pub inward_seen : (old : Option Passing) (counts was_read : Bool) (p : Option Ends.Passing) (counter : ℕ) (octets : List ℕ) (inn : InHalf) (got : Option GotView) → IsKept kept d → d.halves.inn ≡ inn → was_read ≡ is_some got → option_map got_seen got ≡ in_got inn inn.state counter octets →
        Meant station Carried.Inward d.halves (duty_access a.hand) b → IsBack counter octets b → p ≡ passing_seen old →
        by p (news_back station kept counts (one b)) ≡ by (passing_seen (if was_read && (counter == 0 && counts) then empty_by old else old)) (map (λ m. News.Heard m) (heard_of (view_in got)))
    inward_seen old counts was_read p counter octets inn got k n r g w i s =
        let (e, z) = w.asks in
        let st = d.halves.inn.state in
        let t = gram_back counter octets b (in_ask st d.halves.inn.bit) i e (in_counter st d.halves.inn.bit counter) in
        let ms = heard_of (view_in got) in
        let accepts = in_accept_is d.halves st d.halves.inn.bit counter octets b.gram got t (g ∙ sym (ap (λ (h : InHalf). in_got h h.state counter octets) n)) in
        let read : is_read st ≡ was_read = ap (λ (h : InHalf). is_read h.state) n ∙ sym (read_is inn inn.state counter octets got g) ∙ sym r in
        let is : back_frame b kept station ≡ (if was_read && counter == 0 then News.NothingRead ∷ [] else []) ++ map (λ m. News.Heard m) ms =
        back_one station kept b (in_ask st d.halves.inn.bit) Access.Elsewhere w.station_is e counter octets w.address z i
        ∙ (λ j. inward_untold st d.halves.inn.bit j ++ (inward_news kept.heard counter st d.halves.inn.bit d.halves b.gram ms t.counted (sym k.heard) accepts j ++ []))
        ∙ append-nil (empties (is_read st) counter ++ map (λ m. News.Heard m) ms)
        ∙ ap (λ (q : Bool). (if q && counter == 0 then News.NothingRead ∷ [] else []) ++ map (λ m. News.Heard m) ms) read in
        (λ j. by (s j) (if counts then is j else without_empty (is j)))
        ∙ ap (by (passing_seen old)) (counted_in was_read (counter == 0) counts ms)
        ∙ by_append x acknowledged more passed (passing_seen old) (if was_read && (counter == 0 && counts) then News.NothingRead ∷ [] else []) (map (λ m. News.Heard m) ms)
        ∙ ap (λ q. by q (map (λ m. News.Heard m) ms)) (empties_seen old (was_read && (counter == 0 && counts)))
