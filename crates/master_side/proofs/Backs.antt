-- A slave's own datagram, lost or back.
use Rattle.std.proofs.lemmas.Bool.{eqb-true}
use Rattle.std.proofs.lemmas.List.{length-take}
use Rattle.std.proofs.Common.{◌≡◌, ◌≢◌, ◌≤◌, ◌-◌, ℕ, ◌==◌, List, [], ◌++◌, Bool, true, false, Option, Some, None, refl, sym, ap, ◌∙◌, subst, append-nil, eq-eqb, take, drop, length, arith, inl, inr}
use Rattle.std.specs.Prelude.{◌&&◌, ◌||◌, not, if◌then◌else◌, option_map, ◌⊎◌, Result, Ok, Err, IfSome, nat_lt, ⊤}
use Rattle.master_duty.specs.of_mailbox_mail.declared.mail.Mail.{Mail}
use Rattle.master_duty.specs.of_mailbox_mail.declared.mail.MailFault.{MailFault}
use Rattle.master_duty.specs.of_mailbox_mail.declared.mail.MailFault.TheVariants.{Short, LengthPastArea}
use Rattle.master_duty.specs.of_mailbox_mail.declared.mail.MailView.{MailView}
use Rattle.master_duty.specs.of_mailbox_mail.declared.mail.Kind.{Kind}
use Rattle.master_duty.specs.of_mailbox_mail.Kind.{kind_of}
use Rattle.master_duty.specs.of_mailbox_mail.Mail.{mail_read, mail_of, is_past, type_in}
use Rattle.master_duty.specs.of_ec_fields.Fields.{number_at}
use Rattle.frame_view.specs.of_exchange_model.Rows.{Row, row_heard}
use Rattle.mailbox_master.specs.of_link_mails.Body.{Body, link_mail, mail_brought}
use Rattle.mailbox_master.specs.of_link_model.Mails.{LinkMail, news}
use Rattle.mailbox_master.specs.of_link_model.Counters.{repeats}
use Rattle.mailbox_master.specs.of_link_model.Master.{InHalf, InState, in_lost, out_answered, read_answered, doubt_answered, asked_answered}
use Rattle.mailbox_master.specs.of_link_model.Link.{Halves}
use Rattle.mailbox_master.specs.of_link_model.Frames.{Ask, Gram, in_ask, halves_answered, halves_accept, halves_lost, all_accepted, mail_back}
use Rattle.master_duty.specs.of_segment_model.Slaves.{Datagram, grams, Address, Access, Found}
use Rattle.master_duty.specs.of_segment_model.Seats.{Side, is_write, side_lost, side_back}
use Rattle.master_duty.specs.of_state_model.Accounts.{Account, account_back, account_met, account_by, access_done, duty_access}
use Rattle.mailbox_master.specs.Links.{OutLink}
use Rattle.mailbox_master.specs.Seat.{seat_half, got_seen}
use Rattle.mailbox_master.specs.declared.seat.GotView.{GotView}
use Rattle.mailbox_master.specs.declared.halves.InwardHalf.{InwardHalf}
use Rattle.mailbox_master.specs.Any.{in_half_of, out_returned, in_returned, in_got}
use Rattle.master_duty.specs.declared.duty.Duty.{Duty}
use Rattle.master_side.specs.declared.carried.Carried.{Carried}
use Rattle.frame_view.specs.of_exchange_model.Exchange.{Speech}
use Rattle.master_duty.specs.Reply.{Reply}
use Rattle.master_side.specs.Shown.{SideShows, DutyShows, OverShows}
use Rattle.master_side.specs.Carried.{Asks, Meant, IsBack, one, is_errand, duty_left, in_hand}
use Rattle.frame_view.specs.View.{link_counter, register_counter, link_mail_in, acknowledge_in, found_of}
use Rattle.master_duty.specs.declared.stage.Met.{Met}
use Rattle.master_duty.specs.Stages.{stage_of}
use Rattle.master_duty.specs.Mets.{progress_of, KeepsTarget}
use Rattle.master_duty.specs.of_segment_model.Ends.{Outcome}
use Rattle.master_duty.specs.of_segment_model.Record.{is_for}
use Rattle.master_duty.specs.of_state_model.Accounts as Tasks
use Rattle.master_side.specs.Heard.{view_in, heard_of}
use Rattle.mailbox_master.specs.Next.{got_by, got_of, accepted_by}
use Rattle.mailbox_master.specs.declared.inward.Got.TheVariants.{Mail as GotMail, Repeat, Empty}
use Rattle.mailbox_master.specs.declared.inward.Got.{Got}
use Rattle.mailbox_master.proofs.Agreement.{got_by-accepts}

abbrev Rows : Type 0 → Type 0
Rows Q = Option (Row Body Q Reply)

-- what came back of a datagram of its link
pub record GramBack (counter : ℕ) (octets : List ℕ) (ask : Ask Body) (g : Gram Body) : Type 0 where
  pub counted : g.counter ≡ counter
  pub mail : g.mail ≡ link_mail_in ask counter octets
  pub acknowledge : g.acknowledge ≡ acknowledge_in ask octets

and_false : (b : Bool) → b && false ≡ false
and_false true = refl
and_false false = refl

and_true : (b : Bool) → b && true ≡ b
and_true true = refl
and_true false = refl

in_lost_is : (h : Halves Body) (s : InState) (bit : Bool) → halves_lost h (in_ask s bit) ≡ record h { inn = in_lost h.inn s }
in_lost_is h InState.Clear bit = refl
in_lost_is h InState.Doubt bit = refl
in_lost_is h InState.Asked bit = refl
in_lost_is h InState.Refetch bit = refl

in_no_write : (s : InState) (bit : Bool) → is_write {M = Body} (in_ask s bit) ≡ false
in_no_write InState.Clear bit = refl
in_no_write InState.Doubt bit = refl
in_no_write InState.Asked bit = refl
in_no_write InState.Refetch bit = refl

unless_zero : (b : Bool) (o : Option (LinkMail Body)) → (b ≡ true → o ≡ None) → (if b then None else o) ≡ o
unless_zero true o e = sym (e refl)
unless_zero false o e = refl

brought_zero : (b : Bool) (m : Option (LinkMail Body)) → b ≡ true → (if b then None else m) ≡ None
brought_zero b m e = ap (λ (z : Bool). if z then None else m) e

zero_brings : (counter : ℕ) (r : Result Mail MailFault) → (counter == 0) ≡ true → mail_brought counter r ≡ None
zero_brings counter (Err fault) e = refl
zero_brings counter (Ok m) e = brought_zero (counter == 0) (Some (link_mail m)) e

brought_back : (counter : ℕ) (r : Result Mail MailFault) → (if counter == 0 then None else mail_brought counter r) ≡ mail_brought counter r
brought_back counter r = unless_zero (counter == 0) (mail_brought counter r) (zero_brings counter r)

back_is : (counter : ℕ) (octets : List ℕ) (g : Gram Body) → GramBack counter octets Ask.ReadMail g → mail_back g ≡ mail_brought counter (mail_read octets)
back_is counter octets g b = (λ i. if b.counted i == 0 then None else b.mail i) ∙ brought_back counter (mail_read octets)

in_back_is : (h : Halves Body) (s : InState) (bit : Bool) (counter : ℕ) (octets : List ℕ) (g : Gram Body) → GramBack counter octets (in_ask s bit) g → halves_answered h (in_ask s bit) g ≡ record h { inn = in_returned h.inn s counter octets }
in_back_is h InState.Clear bit counter octets g b = ap (λ o. record { out = h.out; inn = read_answered h.inn o }) (back_is counter octets g b)
in_back_is h InState.Doubt bit counter octets g b = ap (λ n. record { out = h.out; inn = doubt_answered h.inn n }) b.counted
in_back_is h InState.Asked bit counter octets g b = (λ i. record { out = h.out; inn = asked_answered h.inn (b.counted i) (b.acknowledge i) })
in_back_is h InState.Refetch bit counter octets g b = ap (λ o. record { out = h.out; inn = read_answered h.inn o }) (back_is counter octets g b)

heard_got : (got : Option GotView) (g : Got) → option_map got_seen got ≡ Some g → heard_of (view_in got) ≡ accepted_by g
heard_got None g e = absurd (cc)
heard_got (Some (GotView.Mail v)) g e = ap heard_accepted e
  where
    heard_accepted : Option Got → List Body
    heard_accepted None = []
    heard_accepted (Some k) = accepted_by k
heard_got (Some GotView.Repeat) g e = ap heard_accepted e
  where
    heard_accepted : Option Got → List Body
    heard_accepted None = []
    heard_accepted (Some k) = accepted_by k
heard_got (Some GotView.Empty) g e = ap heard_accepted e
  where
    heard_accepted : Option Got → List Body
    heard_accepted None = []
    heard_accepted (Some k) = accepted_by k
heard_got (Some (GotView.Bad fault)) g e = ap heard_accepted e
  where
    heard_accepted : Option Got → List Body
    heard_accepted None = []
    heard_accepted (Some k) = accepted_by k

pub heard_nothing : (got : Option GotView) → option_map got_seen got ≡ None → heard_of (view_in got) ≡ []
heard_nothing None e = refl
heard_nothing (Some g) e = absurd (cc)

pub in_accept_is : (h : Halves Body) (s : InState) (bit : Bool) (counter : ℕ) (octets : List ℕ) (g : Gram Body) (got : Option GotView) → GramBack counter octets (in_ask s bit) g → option_map got_seen got ≡ in_got h.inn s counter octets →
    halves_accept h (in_ask s bit) g ≡ heard_of (view_in got)
in_accept_is h InState.Clear bit counter octets g got b e = ap (news h.inn.last) (back_is counter octets g b) ∙ sym (got_by-accepts h.inn.last counter (mail_read octets)) ∙ sym (heard_got got (got_by h.inn.last counter (mail_read octets)) e)
in_accept_is h InState.Doubt bit counter octets g got b e = sym (heard_nothing got e)
in_accept_is h InState.Asked bit counter octets g got b e = sym (heard_nothing got e)
in_accept_is h InState.Refetch bit counter octets g got b e = ap (news h.inn.last) (back_is counter octets g b) ∙ sym (got_by-accepts h.inn.last counter (mail_read octets)) ∙ sym (heard_got got (got_by h.inn.last counter (mail_read octets)) e)

-- the same side, by its parts
pub kept_side : {Q : Type 0} (shows : Rows Q → Type 0) (out out' : OutLink (Option Mail)) (inn inn' : InwardHalf) (fresh fresh' : Bool) (duty duty' : Option Met) (d : Side Body Q Reply) (a : Account Q Reply) →
    (out' ≡ out) × (inn' ≡ inn) × (fresh' ≡ fresh) × (duty' ≡ duty) → SideShows shows out inn fresh duty d a → SideShows shows out' inn' fresh' duty' d a
kept_side shows out out' inn inn' fresh fresh' duty duty' d a (o, i, f, t) s = record {
  halves = s.halves ∙ (λ j. record { out = seat_half ((sym o) j); inn = in_half_of ((sym i) j) });
  unsent = s.unsent ∙ sym f;
  row = s.row;
  state = subst (λ (z : Option Met). DutyShows (in_hand z) a.hand) (sym t) s.state;
  over = subst (λ (z : Option Met). OverShows z a.over) (sym t) s.over;
}

pub not_equal : (a b : ℕ) → a ≢ b → (a == b) ≡ false
not_equal a b n = go (a == b) refl
  where
    go : (z : Bool) → (a == b) ≡ z → (a == b) ≡ false
    go false e = e
    go true e = absurd (n (eqb-true a b e))

-- a datagram of this slave
mine : {T : Type 0} (station : ℕ) (b : Datagram Body) (t e : T) → b.gram.station ≡ station → (if b.gram.station == station then t else e) ≡ t
mine station b t e k = ap (λ (z : Bool). if z then t else e) (eq-eqb b.gram.station station k)

pub in_counter : (s : InState) (bit : Bool) (counter : ℕ) → link_counter (in_ask s bit) counter ≡ counter
in_counter InState.Clear bit counter = refl
in_counter InState.Doubt bit counter = refl
in_counter InState.Asked bit counter = refl
in_counter InState.Refetch bit counter = refl

pub gram_back : (counter : ℕ) (octets : List ℕ) (b : Datagram Body) (ask : Ask Body) → IsBack counter octets b → b.gram.ask ≡ ask → link_counter ask counter ≡ counter → GramBack counter octets ask b.gram
gram_back counter octets b ask i e n = record { counted = i.counted ∙ ap (λ z. link_counter z counter) e ∙ n; mail = i.mail ∙ ap (λ z. link_mail_in z counter octets) e; acknowledge = i.acknowledge ∙ ap (λ z. acknowledge_in z octets) e }

-- ITS ACCOUNT
met_still : {Q : Type 0} (station made : ℕ) (a : Account Q Reply) (hand : Option Tasks.Duty) (b : Datagram Body) → b.counter ≡ 0 → account_met station made a hand b ≡ a
met_still station made a None b e = refl
met_still station made a (Some duty) b e =
    ap (λ n. if is_for station b.address && not (n == 0) then account_by made a duty (access_done duty.target duty.stage b.access b.found) else a) e
    ∙ ap (λ (z : Bool). if z then account_by made a duty (access_done duty.target duty.stage b.access b.found) else a) (and_false (is_for station b.address))

quiet_back : {Q : Type 0} (station made counter : ℕ) (octets : List ℕ) (a : Account Q Reply) (b : Datagram Body) → IsBack counter octets b → b.access ≡ Access.Elsewhere → account_back station made a (one b) ≡ a
quiet_back station made counter octets a b i e = met_still station made a a.hand b (i.registers ∙ ap (λ x. register_counter x counter) e)

none_counted : (x : Access) → register_counter x 0 ≡ 0
none_counted (Access.SetStation n) = refl
none_counted (Access.SetFirst r) = refl
none_counted (Access.SetSecond r) = refl
none_counted (Access.SetControl t k) = refl
none_counted Access.ReadState = refl
none_counted Access.ReadFull = refl
none_counted Access.Elsewhere = refl

undone_back : {Q : Type 0} (station made counter : ℕ) (octets : List ℕ) (a : Account Q Reply) (b : Datagram Body) → IsBack counter octets b → counter ≡ 0 → account_back station made a (one b) ≡ a
undone_back station made counter octets a b i e = met_still station made a a.hand b (i.registers ∙ ap (register_counter b.access) e ∙ none_counted b.access)

-- without a state service in hand nothing is met
free_back : {Q : Type 0} (station made : ℕ) (a : Account Q Reply) (b : Datagram Body) → a.hand ≡ None → account_back station made a (one b) ≡ a
free_back station made a b e = ap (λ (h : Option Tasks.Duty). account_met station made a h b) e

met_done : {Q : Type 0} (station made counter : ℕ) (a : Account Q Reply) (duty : Tasks.Duty) (b : Datagram Body) → b.address ≡ Address.Station station → b.counter ≡ counter → (counter == 0) ≡ false →
    account_met station made a (Some duty) b ≡ account_by made a duty (access_done duty.target duty.stage b.access b.found)
met_done station made counter a duty b at n some =
    (λ i. if is_for station (at i) && not (n i == 0) then account_by made a duty (access_done duty.target duty.stage b.access b.found) else a)
    ∙ (λ i. if eq-eqb station station refl i && not (some i) then account_by made a duty (access_done duty.target duty.stage b.access b.found) else a)

left_shown : {Q : Type 0} (made : ℕ) (a : Account Q Reply) (duty : Duty) (frame : ℕ) (met : Met) → KeepsTarget duty.target met →
    DutyShows (duty_left met) (account_by {R = Reply} made a (record { target = duty.target; frame = frame; stage = stage_of duty.stage }) (progress_of met)).hand
left_shown made a duty frame (Met.On next) k = (frame, λ i. Some (record { target = (sym k) i; frame = frame; stage = stage_of next.stage }))
left_shown made a duty frame Met.Reached k = refl
left_shown made a duty frame (Met.Refused code) k = refl

left_over : {Q : Type 0} (made : ℕ) (a : Account Q Reply) (duty : Duty) (frame : ℕ) (met : Met) →
    OverShows (Some met) (account_by {R = Reply} made a (record { target = duty.target; frame = frame; stage = stage_of duty.stage }) (progress_of met)).over
left_over made a duty frame (Met.On next) = tt
left_over made a duty frame Met.Reached = record { front = a.over; change = record { target = duty.target; frame = frame; answer = Outcome.Reached; completed = made }; is = refl; answered = refl }
left_over made a duty frame (Met.Refused code) =
    record { front = a.over; change = record { target = duty.target; frame = frame; answer = Outcome.Refused code; completed = made }; is = refl; answered = refl }

-- an access that counts
counts_back : (x : Access) (counter : ℕ) → (x ≡ Access.ReadFull) ⊎ ((x ≡ Access.ReadState) ⊎ ((t : ℕ) × (k : Bool) × (x ≡ Access.SetControl t k))) → register_counter x counter ≡ counter
counts_back x counter (inl e) = ap (λ z. register_counter z counter) e
counts_back x counter (inr (inl e)) = ap (λ z. register_counter z counter) e
counts_back x counter (inr (inr (t, k, e))) = ap (λ z. register_counter z counter) e

-- what an errand asks
pub errand_asks : (carried : Carried) (h : Halves Body) (due : Option Access) (ask : Ask Body) (x : Access) → is_errand carried ≡ true → Asks carried h due ask x →
    (ask ≡ Ask.Other) × ((x ≡ Access.ReadFull) ⊎ ((x ≡ Access.ReadState) ⊎ ((t : ℕ) × (k : Bool) × (x ≡ Access.SetControl t k))))
errand_asks Carried.Nothing h due ask x e w = absurd w
errand_asks Carried.Write h due ask x e w = absurd (cc)
errand_asks Carried.Inward h due ask x e w = absurd (cc)
errand_asks Carried.Full h due ask x e w = (w.0, inl w.1)
errand_asks Carried.Control h due ask x e (t, k, o, d, w) = (o, inr (inr (t, k, w)))
errand_asks Carried.Status h due ask x e (o, d, w) = (o, inr (inl w))

module _ {Q : Type 0} (sp : Speech Body Q Reply) (shows : Rows Q → Type 0) (out : OutLink (Option Mail)) (inn : InwardHalf) (fresh : Bool) (duty : Option Met) (d : Side Body Q Reply) (a : Account Q Reply) (station : ℕ) (b : Datagram Body) where
  -- the write was lost: the half stays, and the mail is no longer unsent
  pub lost_write : SideShows shows out inn fresh duty d a → Meant station Carried.Write d.halves (duty_access a.hand) b → SideShows shows out inn false duty (side_lost station (one b) d) a
  lost_write s w = let (m, e, k, x) = w.asks in record {
    halves = mine station b (halves_lost d.halves b.gram.ask) d.halves w.station_is ∙ ap (halves_lost d.halves) e ∙ s.halves;
    unsent = ap (λ z. d.fresh && not z) (mine station b (is_write b.gram.ask || false) false w.station_is ∙ ap (λ z. is_write z || false) e) ∙ and_false d.fresh;
    row = s.row;
    state = s.state;
    over = s.over;
  }

  -- the inward half's datagram was lost
  pub lost_inward : (new : InwardHalf) → in_half_of new ≡ in_lost (in_half_of inn) (in_half_of inn).state → SideShows shows out inn fresh duty d a → Meant station Carried.Inward d.halves (duty_access a.hand) b → SideShows shows out new fresh duty (side_lost station (one b) d) a
  lost_inward new n s w = let (e, x) = w.asks in record {
    halves = mine station b (halves_lost d.halves b.gram.ask) d.halves w.station_is ∙ ap (halves_lost d.halves) e ∙ in_lost_is d.halves d.halves.inn.state d.halves.inn.bit
        ∙ ap (λ (h : Halves Body). record { out = h.out; inn = in_lost h.inn h.inn.state }) s.halves ∙ ap (λ i. record { out = seat_half out; inn = i }) (sym n);
    unsent = ap (λ z. d.fresh && not z) (mine station b (is_write b.gram.ask || false) false w.station_is ∙ ap (λ z. is_write z || false) e ∙ ap (λ z. z || false) (in_no_write d.halves.inn.state d.halves.inn.bit)) ∙ and_true d.fresh ∙ s.unsent;
    row = s.row;
    state = s.state;
    over = s.over;
  }

  -- an errand was lost
  pub lost_errand : b.gram.station ≡ station → b.gram.ask ≡ Ask.Other → SideShows shows out inn fresh duty d a → SideShows shows out inn fresh duty (side_lost station (one b) d) a
  lost_errand k e s = record {
    halves = mine station b (halves_lost d.halves b.gram.ask) d.halves k ∙ ap (halves_lost d.halves) e ∙ s.halves;
    unsent = ap (λ z. d.fresh && not z) (mine station b (is_write b.gram.ask || false) false k ∙ ap (λ z. is_write z || false) e) ∙ and_true d.fresh ∙ s.unsent;
    row = s.row;
    state = s.state;
    over = s.over;
  }

  pub lost_rest : (k : Carried) → (k ≡ Carried.Nothing) ⊎ ((k ≡ Carried.Full) ⊎ ((k ≡ Carried.Control) ⊎ (k ≡ Carried.Status))) → SideShows shows out inn fresh duty d a → Meant station k d.halves (duty_access a.hand) b → SideShows shows out inn fresh duty (side_lost station (one b) d) a
  lost_rest k (inl e) s w = absurd ((subst (λ (z : Carried). Meant station z d.halves (duty_access a.hand) b) e w).asks)
  lost_rest k (inr (inl e)) s w = let m = subst (λ (z : Carried). Meant station z d.halves (duty_access a.hand) b) e w in lost_errand m.station_is m.asks.0 s
  lost_rest k (inr (inr (inl e))) s w = let m = subst (λ (z : Carried). Meant station z d.halves (duty_access a.hand) b) e w in let (t, g, o, x, z) = m.asks in lost_errand m.station_is o s
  lost_rest k (inr (inr (inr e))) s w = let m = subst (λ (z : Carried). Meant station z d.halves (duty_access a.hand) b) e w in lost_errand m.station_is m.asks.0 s

  -- the write came back
  pub write_back : (made counter : ℕ) (octets : List ℕ) (new : OutLink (Option Mail)) → seat_half new ≡ out_returned (seat_half out) (seat_half out).holding counter →
      ((h : Rows Q) → shows h → shows (option_map (λ r. row_heard sp made [] r) h)) →
      SideShows shows out inn fresh duty d a → Meant station Carried.Write d.halves (duty_access a.hand) b → IsBack counter octets b → SideShows shows new inn false duty (side_back sp made station (one b) d) (account_back station made a (one b))
  write_back made counter octets new n quiet s w i = let (m, e, k, x) = w.asks in let t = gram_back counter octets b (Ask.WriteMail m) i e refl in record {
    halves = mine station b (halves_answered d.halves b.gram.ask b.gram) d.halves w.station_is ∙ ap (λ z. halves_answered d.halves z b.gram) e ∙ ap (λ z. record { out = out_answered d.halves.out z; inn = d.halves.inn }) t.counted
        ∙ ap (λ (h : Halves Body). record { out = out_answered h.out counter; inn = h.inn }) s.halves
        ∙ ap (λ z. record { out = z; inn = in_half_of inn }) (ap (λ (z : Option (LinkMail Body)). out_returned (seat_half out) z counter) (sym k ∙ ap (λ (h : Halves Body). h.out.holding) s.halves) ∙ sym n);
    unsent = ap (λ z. d.fresh && not z) (mine station b (is_write b.gram.ask || false) false w.station_is ∙ ap (λ z. is_write z || false) e) ∙ and_false d.fresh;
    row = subst (λ ms. shows (option_map (λ r. row_heard sp made ms r) d.now)) (sym (ap (λ ms. ms ++ []) (mine station b (halves_accept d.halves b.gram.ask b.gram) [] w.station_is ∙ ap (λ z. halves_accept d.halves z b.gram) e))) (quiet d.now s.row);
    state = subst (λ (z : Account Q Reply). DutyShows (in_hand duty) z.hand) (sym (quiet_back station made counter octets a b i x)) s.state;
    over = subst (λ (z : Account Q Reply). OverShows duty z.over) (sym (quiet_back station made counter octets a b i x)) s.over;
  }

  -- the inward half's datagram came back
  pub inward_back : (made counter : ℕ) (octets : List ℕ) (new : InwardHalf) (next : Rows Q → Type 0) (got : Option GotView) → in_half_of new ≡ in_returned (in_half_of inn) (in_half_of inn).state counter octets → option_map got_seen got ≡ in_got (in_half_of inn) (in_half_of inn).state counter octets →
      ((frame : ℕ) (now : Rows Q) → shows now → next (option_map (λ r. row_heard sp frame (heard_of (view_in got)) r) now)) →
      SideShows shows out inn fresh duty d a → Meant station Carried.Inward d.halves (duty_access a.hand) b → IsBack counter octets b → SideShows next out new fresh duty (side_back sp made station (one b) d) (account_back station made a (one b))
  inward_back made counter octets new next got n k heard s w i = let (e, x) = w.asks in let t = gram_back counter octets b (in_ask d.halves.inn.state d.halves.inn.bit) i e (in_counter d.halves.inn.state d.halves.inn.bit counter) in record {
    halves = mine station b (halves_answered d.halves b.gram.ask b.gram) d.halves w.station_is ∙ ap (λ z. halves_answered d.halves z b.gram) e ∙ in_back_is d.halves d.halves.inn.state d.halves.inn.bit counter octets b.gram t
        ∙ ap (λ (h : Halves Body). record { out = h.out; inn = in_returned h.inn h.inn.state counter octets }) s.halves ∙ ap (λ i. record { out = seat_half out; inn = i }) (sym n);
    unsent = ap (λ z. d.fresh && not z) (mine station b (is_write b.gram.ask || false) false w.station_is ∙ ap (λ z. is_write z || false) e ∙ ap (λ z. z || false) (in_no_write d.halves.inn.state d.halves.inn.bit)) ∙ and_true d.fresh ∙ s.unsent;
    row = subst (λ ms. next (option_map (λ r. row_heard sp made ms r) d.now))
        (sym (ap (λ ms. ms ++ []) (mine station b (halves_accept d.halves b.gram.ask b.gram) [] w.station_is ∙ ap (λ z. halves_accept d.halves z b.gram) e) ∙ append-nil (halves_accept d.halves (in_ask d.halves.inn.state d.halves.inn.bit) b.gram)
        ∙ in_accept_is d.halves d.halves.inn.state d.halves.inn.bit counter octets b.gram got t (k ∙ sym (ap (λ (h : Halves Body). in_got h.inn h.inn.state counter octets) s.halves))))
        (heard made d.now s.row);
    state = subst (λ (z : Account Q Reply). DutyShows (in_hand duty) z.hand) (sym (quiet_back station made counter octets a b i x)) s.state;
    over = subst (λ (z : Account Q Reply). OverShows duty z.over) (sym (quiet_back station made counter octets a b i x)) s.over;
  }

  -- what the inward half accepts by it
  pub inward_accepts : (counter : ℕ) (octets : List ℕ) (got : Option GotView) → option_map got_seen got ≡ in_got (in_half_of inn) (in_half_of inn).state counter octets →
      SideShows shows out inn fresh duty d a → Meant station Carried.Inward d.halves (duty_access a.hand) b → IsBack counter octets b → all_accepted station d.halves (grams (one b)) ≡ heard_of (view_in got)
  inward_accepts counter octets got k s w i = let (e, x) = w.asks in let t = gram_back counter octets b (in_ask d.halves.inn.state d.halves.inn.bit) i e (in_counter d.halves.inn.state d.halves.inn.bit counter) in
      ap (λ ms. ms ++ []) (mine station b (halves_accept d.halves b.gram.ask b.gram) [] w.station_is ∙ ap (λ z. halves_accept d.halves z b.gram) e) ∙ append-nil (halves_accept d.halves (in_ask d.halves.inn.state d.halves.inn.bit) b.gram)
      ∙ in_accept_is d.halves d.halves.inn.state d.halves.inn.bit counter octets b.gram got t (k ∙ sym (ap (λ (h : Halves Body). in_got h.inn h.inn.state counter octets) s.halves))

  -- an errand came back: the link stays
  pub errand_back : (made : ℕ) (duty' : Option Met) (a' : Account Q Reply) → ((h : Rows Q) → shows h → shows (option_map (λ r. row_heard sp made [] r) h)) → b.gram.station ≡ station → b.gram.ask ≡ Ask.Other → DutyShows (in_hand duty') a'.hand × OverShows duty' a'.over →
      SideShows shows out inn fresh duty d a → SideShows shows out inn fresh duty' (side_back sp made station (one b) d) a'
  errand_back made duty' a' quiet k e t s = record {
    halves = mine station b (halves_answered d.halves b.gram.ask b.gram) d.halves k ∙ ap (λ z. halves_answered d.halves z b.gram) e ∙ s.halves;
    unsent = ap (λ z. d.fresh && not z) (mine station b (is_write b.gram.ask || false) false k ∙ ap (λ z. is_write z || false) e) ∙ and_true d.fresh ∙ s.unsent;
    row = subst (λ ms. shows (option_map (λ r. row_heard sp made ms r) d.now)) (sym (ap (λ ms. ms ++ []) (mine station b (halves_accept d.halves b.gram.ask b.gram) [] k ∙ ap (λ z. halves_accept d.halves z b.gram) e))) (quiet d.now s.row);
    state = t.0;
    over = t.1;
  }

-- A MAIL THAT WAS READ has at most 1,480 octets in its body
abbrev IsShort : Result Mail MailFault → Type 0
IsShort (Ok m) = length m.body.items ≤ 1480
IsShort (Err fault) = ⊤

or_right : (a b : Bool) → a || b ≡ false → b ≡ false
or_right true b e = absurd (cc)
or_right false b e = e

not_past : (n : ℕ) → nat_lt 1480 n ≡ false → n ≤ 1480
not_past n e = grind (arith, e)

short_take : (n : ℕ) (xs : List ℕ) → n ≤ 1480 → length (take n xs) ≤ 1480
short_take n xs l = let t = length-take n xs in omega (arith, t, l)

read_short : (octets : List ℕ) → IsShort (mail_read octets)
read_short octets = go (nat_lt (length octets) 6) (is_past octets) refl (kind_of (type_in octets))
  where
    go : (a p : Bool) → is_past octets ≡ p → (k : Option Kind) → IsShort (if a then Err Short else if p then Err LengthPastArea else mail_of octets k)
    go true p e k = tt
    go false true e k = tt
    go false false e None = tt
    go false false e (Some kind) = short_take (number_at 2 octets 0) (drop 6 octets) (not_past (number_at 2 octets 0) (or_right (nat_lt (length octets - 6) (number_at 2 octets 0)) (nat_lt 1480 (number_at 2 octets 0)) e))

abbrev GotShort : Option Got → Type 0
GotShort (Some (GotMail m)) = length m.body.items ≤ 1480
GotShort _ = ⊤

got_short_by : (last counter : ℕ) (r : Result Mail MailFault) → IsShort r → GotShort (Some (got_by last counter r))
got_short_by last counter r s = go (counter == 0) r s
  where
    repeated : (z : Bool) (m : Mail) → length m.body.items ≤ 1480 → GotShort (Some (if z then Repeat else GotMail m))
    repeated true m l = tt
    repeated false m l = l

    go : (z : Bool) (q : Result Mail MailFault) → IsShort q → GotShort (Some (if z then Empty else got_of last q))
    go true q t = tt
    go false (Err fault) t = tt
    go false (Ok m) t = repeated (repeats last m.counter) m t

in_got_short : (h : InHalf) (s : InState) (counter : ℕ) (octets : List ℕ) → GotShort (in_got h s counter octets)
in_got_short h InState.Clear counter octets = got_short_by h.last counter (mail_read octets) (read_short octets)
in_got_short h InState.Doubt counter octets = tt
in_got_short h InState.Asked counter octets = tt
in_got_short h InState.Refetch counter octets = got_short_by h.last counter (mail_read octets) (read_short octets)

pub view_short : (got : Option GotView) (view : Option MailView) (h : InHalf) (s : InState) (counter : ℕ) (octets : List ℕ) → option_map got_seen got ≡ in_got h s counter octets → view ≡ view_in got → IfSome view (λ v. length v.body.now ≤ 1480)
view_short got view h s counter octets e v = subst (λ (o : Option MailView). IfSome o (λ m. length m.body.now ≤ 1480)) (sym v) (go got (subst GotShort (sym e) (in_got_short h s counter octets)))
  where
    go : (g : Option GotView) → GotShort (option_map got_seen g) → IfSome (view_in g) (λ m. length m.body.now ≤ 1480)
    go None t = tt
    go (Some (GotView.Mail m)) t = t
    go (Some GotView.Repeat) t = tt
    go (Some GotView.Empty) t = tt
    go (Some (GotView.Bad fault)) t = tt

-- the state service behind an errand that was done
pub errand_done : {Q : Type 0} (station made counter : ℕ) (octets : List ℕ) (carried : Carried) (h : Halves Body) (due : Option Access) (a : Account Q Reply) (duty : Duty) (met : Met) (b : Datagram Body) → is_errand carried ≡ true → Meant station carried h due b → IsBack counter octets b → (counter == 0) ≡ false →
    DutyShows (Some duty) a.hand → progress_of {R = Reply} met ≡ access_done duty.target (stage_of duty.stage) b.access (found_of b.access counter octets) → KeepsTarget duty.target met →
    DutyShows (duty_left met) (account_back station made a (one b)).hand × OverShows (Some met) (account_back station made a (one b)).over
errand_done {Q = Q} station made counter octets carried h due a duty met b is w i some (frame, s) p k =
    subst (λ (z : Account Q Reply). DutyShows (duty_left met) z.hand × OverShows (Some met) z.over)
    (sym (ap (λ (h : Option Tasks.Duty). account_met station made a h b) s
    ∙ met_done station made counter a (record { target = duty.target; frame = frame; stage = stage_of duty.stage }) b w.address (i.registers ∙ counts_back b.access counter (errand_asks carried h due b.gram.ask b.access is w.asks).1) some
    ∙ ap (λ (f : Option Found). account_by made a (record { target = duty.target; frame = frame; stage = stage_of duty.stage }) (access_done duty.target (stage_of duty.stage) b.access f)) i.found
    ∙ ap (account_by made a (record { target = duty.target; frame = frame; stage = stage_of duty.stage })) (sym p)))
    (left_shown made a duty frame met k, left_over made a duty frame met)

-- the state service where nothing was done
pub errand_undone : {Q : Type 0} (station made counter : ℕ) (octets : List ℕ) (a : Account Q Reply) (duty : Option Met) (b : Datagram Body) → IsBack counter octets b → (counter ≡ 0) ⊎ (in_hand duty ≡ None) → DutyShows (in_hand duty) a.hand × OverShows duty a.over →
    DutyShows (in_hand duty) (account_back station made a (one b)).hand × OverShows duty (account_back station made a (one b)).over
errand_undone {Q = Q} station made counter octets a duty b i (inl e) s = subst (λ (z : Account Q Reply). DutyShows (in_hand duty) z.hand × OverShows duty z.over) (sym (undone_back station made counter octets a b i e)) s
errand_undone {Q = Q} station made counter octets a duty b i (inr e) s = subst (λ (z : Account Q Reply). DutyShows (in_hand duty) z.hand × OverShows duty z.over) (sym (free_back station made a b (subst (λ (o : Option Duty). DutyShows o a.hand) e s.0))) s
