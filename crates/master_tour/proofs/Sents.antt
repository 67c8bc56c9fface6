-- A frame that was made, for each slave: what its epoch asks for, and what is under way of it.
use Rattle.std.proofs.Common.{◌≡◌, inl, inr, ℕ, zero, suc, ◌==◌, Bool, true, false, List, [], ◌∷◌, ◌++◌, length, Option, Some, None, refl, sym, ap, ◌∙◌, subst, eq-eqb, arith}
use Rattle.std.specs.Prelude.{◌≤◌, if◌then◌else◌, cond, nat_le}
use Rattle.std.proofs.lemmas.Bool.{leb-true}
use Rattle.master_side.specs.of_datagrams.Datagram as Raw
use Rattle.master_side.specs.of_exchange_model.Exchange.{Speech}
use Rattle.master_side.specs.of_frame_view.View.{Lens, datagram_seen, link_counter, found_of}
use Rattle.master_side.specs.of_frame_view.Seen.{datagrams_seen}
use Rattle.master_side.specs.of_link_mails.Body.{Body}
use Rattle.master_side.specs.of_link_model.Mails.{LinkMail}
use Rattle.master_side.specs.of_link_model.Master.{InState, InHalf}
use Rattle.master_side.specs.of_link_model.Link.{Halves}
use Rattle.master_side.specs.of_link_model.Frames.{Gram, IsSent, IsFrameFor}
use Rattle.master_side.specs.of_link_model.Frames as Frames
use Rattle.master_side.specs.of_mailbox_mail.declared.mail.Mail.{Mail}
use Rattle.master_side.specs.of_mailbox_master.declared.halves.InwardHalf.{InwardHalf}
use Rattle.master_side.specs.of_mailbox_master.Links.{OutLink}
use Rattle.master_side.specs.of_mailbox_master.Any.{in_half_of, in_station, in_area_len}
use Rattle.master_side.specs.of_segment_model.Slaves.{Datagram, Access, grams}
use Rattle.master_side.specs.of_segment_model.Record.{is_for}
use Rattle.master_side.specs.of_segment_model.Seats.{Side}
use Rattle.master_side.specs.of_state_model.Stated.{Service}
use Rattle.master_side.specs.of_state_model.Accounts.{Account, IsServed, is_quiet, duty_access}
use Rattle.master_side.specs.of_master_duty.declared.stage.Met.{Met}
use Rattle.master_side.specs.of_master_duty.Reply.{Reply}
use Rattle.master_side.specs.declared.carried.Carried.{Carried}
use Rattle.master_side.specs.declared.passing.Passing.{Passing}
use Rattle.master_side.specs.Carried.{Meant, one}
use Rattle.master_side.specs.Sent.{visit_gram}
use Rattle.master_side.specs.of_life_model.Lives
use Rattle.master_side.specs.of_life_model.Lives.{Life, Era, Spot, AsksOpen, ReadsFull}
use Rattle.master_side.specs.of_life_model.Own.{own}
use Rattle.master_side.specs.of_frame_view.Frames.{AllNotFor, HasOne, FrameFor}
use Rattle.master_side.specs.of_frame_view.Shares.{Lived, AllFrom, AllThree}
use Rattle.master_side.proofs.of_frame_view.Frames.{own_none, own_one, not_gram}
use Rattle.master_tour.specs.declared.stop.Stand.{Stand}
use Rattle.master_tour.specs.Under.{Grams, mine, IsAt, Under}
use Rattle.master_tour.specs.Stands.{StandUnder, OpensUnder, stand_gram}
use Rattle.master_tour.specs.Made.{StopLives, StopHas, StopMade, StopSent}
use Rattle.master_tour.proofs.Grams.{gram_for, visit_open}
use Rattle.master_tour.proofs.Steps.{differ}

-- WHAT AN EPOCH ASKS FOR
reads_own : (station : ℕ) (ds : Grams) → ReadsFull station ds → ReadsFull station (own station ds)
reads_own station [] r = absurd r
reads_own station (d ∷ ds) (inl e) =
    let t : is_for station d.address ≡ true = ap (is_for station) e.0 ∙ eq-eqb station station refl in
    subst (λ (z : Bool). ReadsFull station (cond z (d ∷ own station ds) (own station ds))) (sym t) (inl e)
reads_own station (d ∷ ds) (inr r) = go (is_for station d.address) (reads_own station ds r)
  where
    go : (z : Bool) → ReadsFull station (own station ds) → ReadsFull station (cond z (d ∷ own station ds) (own station ds))
    go true k = inr k
    go false k = k

pub asks_none : {Q : Type 0} (station : ℕ) (e : Era Body Q Reply) (sent : Grams) → own station sent ≡ [] → AsksOpen station e sent
asks_none station e sent k = record {
  halves = subst (λ (z : Grams). IsFrameFor station e.side.halves (grams z)) (sym k) IsSent.nothing;
  served = subst (λ (z : Grams). IsServed station (duty_access e.account.hand) z) (sym k) IsServed.nothing;
  status = λ r. absurd (subst (ReadsFull station) k (reads_own station sent r));
}

sent_asks : (station : ℕ) (carried : Carried) (h : Halves Body) (due : Option Access) (b : Datagram Body) → b.gram.counter ≡ 0 → Meant station carried h due b → IsSent h.out.holding (Some h.inn) (b.gram ∷ [])
sent_asks station Carried.Nothing h due b k m = absurd m.asks
sent_asks station Carried.Write h due b k m = let (mail, e, o, x) = m.asks in subst (λ (held : Option (LinkMail Body)). IsSent held (Some h.inn) (b.gram ∷ [])) (sym o) (IsSent.write mail b.gram [] e k IsSent.nothing)
sent_asks station Carried.Inward h due b k m = IsSent.inward h.inn b.gram [] m.asks.0 k IsSent.nothing
sent_asks station Carried.Full h due b k m = IsSent.other b.gram [] m.asks.0 IsSent.nothing
sent_asks station Carried.Control h due b k m = let (t, g, e, u, x) = m.asks in IsSent.other b.gram [] e IsSent.nothing
sent_asks station Carried.Status h due b k m = IsSent.other b.gram [] m.asks.0 IsSent.nothing

served_asks : (station : ℕ) (carried : Carried) (h : Halves Body) (due : Option Access) (d : Datagram Body) → d.found ≡ None → Meant station carried h due d → IsServed station due (d ∷ [])
served_asks station Carried.Nothing h due d f m = absurd m.asks
served_asks station Carried.Write h due d f m = let (mail, e, o, x) = m.asks in IsServed.quiet d [] (ap is_quiet x) f IsServed.nothing
served_asks station Carried.Inward h due d f m = IsServed.quiet d [] (ap is_quiet m.asks.1) f IsServed.nothing
served_asks station Carried.Full h due d f m = IsServed.quiet d [] (ap is_quiet m.asks.1) f IsServed.nothing
served_asks station Carried.Control h due d f m = let (t, g, e, u, x) = m.asks in subst (λ (o : Option Access). IsServed station o (d ∷ [])) (sym u) (IsServed.own d [] m.address f IsServed.nothing)
served_asks station Carried.Status h due d f m = subst (λ (o : Option Access). IsServed station o (d ∷ [])) (sym m.asks.1) (IsServed.own d [] m.address f IsServed.nothing)

-- the status of mailbox 0 alone reads it
reads_full : (station : ℕ) (carried : Carried) (h : Halves Body) (due : Option Access) (b : Datagram Body) → Meant station carried h due b → b.access ≡ Access.ReadFull → carried ≡ Carried.Full
reads_full station Carried.Nothing h due b m r = absurd m.asks
reads_full station Carried.Write h due b m r = absurd (let (mail, e, o, x) = m.asks in let t = sym x ∙ r in cc)
reads_full station Carried.Inward h due b m r = absurd (let t = sym m.asks.1 ∙ r in cc)
reads_full station Carried.Full h due b m r = refl
reads_full station Carried.Control h due b m r = absurd (let (t, g, e, u, x) = m.asks in let z = sym x ∙ r in cc)
reads_full station Carried.Status h due b m r = absurd (let t = sym m.asks.2 ∙ r in cc)

reads_one : (station : ℕ) (b : Datagram Body) → ReadsFull station (b ∷ []) → b.access ≡ Access.ReadFull
reads_one station b (inl e) = e.1
reads_one station b (inr r) = absurd r

pub asks_one : {Q : Type 0} (station : ℕ) (carried : Carried) (e : Era Body Q Reply) (b : Datagram Body) (sent : Grams) → b.gram.counter ≡ 0 → b.found ≡ None → Meant station carried e.side.halves (duty_access e.account.hand) b →
    (carried ≡ Carried.Full → e.side.halves.inn.state ≡ InState.Clear) → own station sent ≡ b ∷ [] → AsksOpen station e sent
asks_one station carried e b sent c f m clear k = record {
  halves = subst (λ (z : Grams). IsFrameFor station e.side.halves (grams z)) (sym k)
      (subst (λ (z : List (Gram Body)). IsSent e.side.halves.out.holding (Some e.side.halves.inn) z) (sym (ap (λ (z : Bool). if z then b.gram ∷ [] else []) (eq-eqb b.gram.station station m.station_is))) (sent_asks station carried e.side.halves (duty_access e.account.hand) b c m));
  served = subst (λ (z : Grams). IsServed station (duty_access e.account.hand) z) (sym k) (served_asks station carried e.side.halves (duty_access e.account.hand) b f m);
  status = λ r. clear (reads_full station carried e.side.halves (duty_access e.account.hand) b m (reads_one station b (subst (ReadsFull station) k (reads_own station sent r))));
}

-- WHAT IS UNDER WAY
mine_behind : (lens : ℕ → Lens) (spot : Spot) (ds es : List Raw.Datagram) → (0 == spot.station) ≡ false → AllNotFor spot ds → mine spot.station (datagrams_seen lens (ds ++ es)) ≡ mine spot.station (datagrams_seen lens es)
mine_behind lens spot [] es z n = refl
mine_behind lens spot (d ∷ ds) es z n =
    ap (λ (w : Bool). if w then datagram_seen lens d ∷ mine spot.station (datagrams_seen lens (ds ++ es)) else mine spot.station (datagrams_seen lens (ds ++ es))) (not_gram lens spot d z n.0) ∙ mine_behind lens spot ds es z n.1

mine_none : (lens : ℕ → Lens) (spot : Spot) (ds : List Raw.Datagram) → (0 == spot.station) ≡ false → AllNotFor spot ds → mine spot.station (datagrams_seen lens ds) ≡ []
mine_none lens spot [] z n = refl
mine_none lens spot (d ∷ ds) z n =
    ap (λ (w : Bool). if w then datagram_seen lens d ∷ mine spot.station (datagrams_seen lens ds) else mine spot.station (datagrams_seen lens ds)) (not_gram lens spot d z n.0) ∙ mine_none lens spot ds z n.1

mine_one : (lens : ℕ → Lens) (spot : Spot) (at : ℕ) (d : Raw.Datagram) (ds : List Raw.Datagram) → (0 == spot.station) ≡ false → HasOne spot at d ds → (datagram_seen lens d).gram.station ≡ spot.station → mine spot.station (datagrams_seen lens ds) ≡ one (datagram_seen lens d)
mine_one lens spot at d ds z h e =
    ap (λ w. mine spot.station (datagrams_seen lens w)) h.split ∙ mine_behind lens spot h.front (d ∷ h.behind) z h.before
    ∙ ap (λ (w : Bool). if w then datagram_seen lens d ∷ mine spot.station (datagrams_seen lens h.behind) else mine spot.station (datagrams_seen lens h.behind)) (eq-eqb (datagram_seen lens d).gram.station spot.station e)
    ∙ ap (λ w. datagram_seen lens d ∷ w) (mine_none lens spot h.behind z h.after)

at_front : (lens : ℕ → Lens) (front behind : List Raw.Datagram) (d : Raw.Datagram) → IsAt (length front) (datagrams_seen lens (front ++ d ∷ behind)) (datagram_seen lens d)
at_front lens [] behind d = refl
at_front lens (e ∷ front) behind d = at_front lens front behind d

at_one : (lens : ℕ → Lens) (spot : Spot) (at : ℕ) (d : Raw.Datagram) (ds : List Raw.Datagram) → HasOne spot at d ds → IsAt at (datagrams_seen lens ds) (datagram_seen lens d)
at_one lens spot at d ds h =
    subst (λ n. IsAt n (datagrams_seen lens ds) (datagram_seen lens d)) h.place (subst (λ z. IsAt (length h.front) (datagrams_seen lens z) (datagram_seen lens d)) (sym h.split) (at_front lens h.front h.behind d))

pub way_of : {Q : Type 0} (lens : ℕ → Lens) (index : ℕ) (spot : Spot) (station : ℕ) (stand : Stand) (out : OutLink (Option Mail)) (inn : InwardHalf) (duty : Option Met) (carried : Carried) (under : Bool) (at : ℕ) (ds : List Raw.Datagram) (l : Life Body Q Reply) →
    station ≡ spot.station → (0 == spot.station) ≡ false → StopHas lens index spot station stand out inn duty carried under at ds l → StandUnder lens station at under carried stand l (datagrams_seen lens ds)
way_of lens index spot station (Stand.Opening up) out inn duty carried under at ds l e z (StopHas.none u n) = OpensUnder.none u
way_of lens index spot station (Stand.Opening up) out inn duty carried under at ds l e z (StopHas.one u h m c) = OpensUnder.has index _ u (at_one lens spot at _ ds h) m
way_of lens index spot station Stand.Open out inn duty carried under at ds l e z (StopHas.none u n) =
    Under.none u (subst (λ (k : ℕ). mine k (datagrams_seen lens ds) ≡ []) (sym e) (mine_none lens spot ds z n))
way_of lens index spot station Stand.Open out inn duty carried under at ds l e z (StopHas.one u h m c) =
    Under.has _ u (at_one lens spot at _ ds h) (subst (λ (k : ℕ). mine k (datagrams_seen lens ds) ≡ one (datagram_seen lens (stand_gram station index Stand.Open out inn duty carried))) (sym e) (mine_one lens spot at _ ds z h (m.station_is ∙ e))) m
way_of lens index spot station Stand.Gone out inn duty carried under at ds l e z (StopHas.none u n) = u
way_of lens index spot station Stand.Gone out inn duty carried under at ds l e z (StopHas.one u h m c) = absurd m

counter_zero : (a : Frames.Ask Body) (c : ℕ) → c ≡ 0 → link_counter a c ≡ 0
counter_zero (Frames.Ask.WriteMail m) c e = e
counter_zero Frames.Ask.ReadMail c e = e
counter_zero (Frames.Ask.WriteRequest bit) c e = e
counter_zero Frames.Ask.ReadAcknowledge c e = e
counter_zero Frames.Ask.Other c e = refl

found_none : (a : Access) (c : ℕ) (octets : List ℕ) → c ≡ 0 → found_of a c octets ≡ None
found_none (Access.SetStation n) c octets e = refl
found_none (Access.SetFirst b) c octets e = refl
found_none (Access.SetSecond b) c octets e = refl
found_none (Access.SetControl t b) c octets e = refl
found_none Access.ReadState c octets e = ap (λ (n : ℕ). found_of Access.ReadState n octets) e
found_none Access.ReadFull c octets e = ap (λ (n : ℕ). found_of Access.ReadFull n octets) e
found_none Access.Elsewhere c octets e = refl

seen_counter : (lens : ℕ → Lens) (d : Raw.Datagram) → d.head.counter ≡ 0 → (datagram_seen lens d).gram.counter ≡ 0
seen_counter lens d e = counter_zero (datagram_seen lens d).gram.ask d.head.counter e

seen_found : (lens : ℕ → Lens) (d : Raw.Datagram) → d.head.counter ≡ 0 → (datagram_seen lens d).found ≡ None
seen_found lens d e = found_none (datagram_seen lens d).access d.head.counter d.body e

module _ {Q : Type 0} (lens : ℕ → Lens) (recover index : ℕ) (shows : Side Body Q Reply → Account Q Reply → Type 0) (station place start : ℕ) (spare : ℕ) (out : OutLink (Option Mail)) (inn : InwardHalf) (duty : Option Met) (carried : Carried) (under : Bool) (at : ℕ) (ds : List Raw.Datagram) (spot : Spot) (l : Life Body Q Reply)
    (same : (d : Side Body Q Reply) (k : Account Q Reply) → shows d k → d.halves.inn ≡ in_half_of inn) (os : out.station ≡ station) (is : in_station inn ≡ station) where
  asks_of : (stand : Stand) → StopLives lens recover shows station place start stand spare out.len (in_area_len inn) (record { spot = spot; life = l }) → StopHas lens index spot station stand out inn duty carried under at ds l → l.stand ≡ Lives.Stand.Open → AsksOpen spot.station l.era (datagrams_seen lens ds)
  asks_of (Stand.Opening up) v h o = absurd (let t = sym v.shown.stood.stand ∙ o in cc)
  asks_of Stand.Gone v h o = absurd (let t = sym v.shown.stood ∙ o in cc)
  asks_of Stand.Open v (StopHas.none u n) o = asks_none spot.station l.era (datagrams_seen lens ds) (own_none lens spot ds n)
  asks_of Stand.Open v (StopHas.one u h m c) o =
      let gram = visit_gram station index out inn duty carried in
      let st = v.planned.stands.station_is in
      let opened = visit_open lens station index l.era.side.halves (duty_access l.era.account.hand) out inn duty carried os is m in
      let meant : Meant spot.station carried l.era.side.halves (duty_access l.era.account.hand) (datagram_seen lens gram) = subst (λ (k : ℕ). Meant k carried l.era.side.halves (duty_access l.era.account.hand) (datagram_seen lens gram)) st m in
      asks_one spot.station carried l.era (datagram_seen lens gram) (datagrams_seen lens ds) (seen_counter lens gram opened.counter) (seen_found lens gram opened.counter) meant
      (λ f. ap (λ (z : InHalf). z.state) (same l.era.side l.era.account v.shown.stood.1) ∙ c refl f)
      (own_one lens spot at gram ds h (ap (is_for spot.station) meant.address ∙ eq-eqb spot.station spot.station refl))

  frame_of : (stand : Stand) → StopLives lens recover shows station place start stand spare out.len (in_area_len inn) (record { spot = spot; life = l }) → StopHas lens index spot station stand out inn duty carried under at ds l → FrameFor lens spot l.stand (record { under = under; at = at }) ds
  frame_of stand v (StopHas.none u n) = FrameFor.none u n
  frame_of stand v (StopHas.one u h m c) = FrameFor.one u (stand_gram station index stand out inn duty carried) h (gram_for lens recover index shows station place start stand spare out inn duty carried spot l v os is m)

-- THE SLAVE, once the frame is made
pub stop_sent : {Q : Type 0} (x : Speech Body Q Reply) (acknowledged : Q → Bool) (more : Body → Bool) (passed : Q → Bool) (made : ℕ) (lens : ℕ → Lens) (recover index : ℕ) (shows : Side Body Q Reply → Account Q Reply → Type 0) (station place start : ℕ) (stand : Stand) (spare : ℕ) (out : OutLink (Option Mail)) (inn : InwardHalf) (duty : Option Met) (carried : Carried) (passing : Option Passing) (under : Bool) (at : ℕ) (left : List ℕ) (begun : ℕ → Option (Service Q)) (ds : List Raw.Datagram) (i : ℕ) (a : Lived Q Reply) →
    ((d : Side Body Q Reply) (k : Account Q Reply) → shows d k → d.halves.inn ≡ in_half_of inn) → out.station ≡ station → in_station inn ≡ station → nat_le 1 station ≡ true → StopMade x acknowledged more passed made begun lens recover index shows station place start stand spare out inn duty carried passing under at left ds i a →
    (b : Lived Q Reply) × StopSent x acknowledged more passed made begun lens recover shows station place start stand spare out.len (in_area_len inn) carried under at ds a b
stop_sent x acknowledged more passed made lens recover index shows station place start stand spare out inn duty carried passing under at left begun ds i a same os is named m =
    let st = m.lives.planned.stands.station_is in
    let low = leb-true 1 station named in (
      record { spot = a.spot; life = m.life },
      record {
        next = record { pick = m.pick; spot = refl; life = m.next };
        wish = m.wish;
        took = m.took;
        asked = record {
          has = frame_of lens recover index shows station place start spare out inn duty carried under at ds a.spot m.life same os is stand m.lives m.has;
          asks = asks_of lens recover index shows station place start spare out inn duty carried under at ds a.spot m.life same os is stand m.lives m.has;
        };
        lives = m.lives;
        way = way_of lens index a.spot station stand out inn duty carried under at ds m.life st (differ 0 a.spot.station (λ q. omega (arith, low, st, q))) m.has;
      },
    )

-- all of them
pub all_sent : {A B S : Type 0} (P : ℕ → A → S → Type 0) (T : A → B → S → Type 0) → ((i : ℕ) (a : A) (s : S) → P i a s → (b : B) × T a b s) → (i : ℕ) (as' : List A) (ss : List S) → AllFrom P i as' ss → (bs : List B) × AllThree T as' bs ss
all_sent P T h i [] [] p = ([], tt)
all_sent P T h i (a ∷ as') (s ∷ ss) p =
    let one = h i a s p.0 in
    let rest = all_sent P T h (suc i) as' ss p.1 in
    (one.0 ∷ rest.0, (one.1, rest.1))
all_sent P T h i [] (s ∷ ss) p = absurd p
all_sent P T h i (a ∷ as') [] p = absurd p

pub some_more : (count long : ℕ) → long ≡ count → (count ≡ 0 → ⊥) → 1 ≤ long
some_more zero long l n = absurd (n refl)
some_more (suc count) long l n = omega (arith, l)
