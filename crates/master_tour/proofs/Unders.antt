-- A slave's own datagrams of a frame: they alone count for it, and an answer has them at the same places.
use Rattle.std.proofs.Common.{◌≡◌, ◌+◌, ℕ, zero, suc, ◌==◌, List, [], ◌∷◌, ◌++◌, Bool, true, false, Option, Some, None, refl, sym, ap, ◌∙◌, subst, eq-eqb, length, get_or, ◌<◌, ◌≤◌, arith, length-append, ◌-◌}
use Rattle.std.proofs.lemmas.Bool.{eqb-true}
use Rattle.std.specs.Prelude.{◌&&◌, ◌||◌, not, nat_le, ⊤, if◌then◌else◌, option_map, map, take, drop}
use Rattle.master_side.specs.of_exchange_model.Rows.{Row, row_heard}
use Rattle.master_side.specs.of_datagrams.declared.frame.Part.{Part}
use Rattle.master_side.specs.of_link_model.Link.{Halves}
use Rattle.master_side.specs.of_link_model.Frames.{Ask, Gram, halves_answered, halves_accept, halves_lost, halves_after, halves_without, all_accepted, own}
use Rattle.master_side.specs.of_link_mails.Body.{Body}
use Rattle.master_side.specs.of_segment_model.Slaves.{Datagram, Address, Access, grams}
use Rattle.master_side.specs.of_segment_model.Record.{is_for}
use Rattle.master_side.specs.of_segment_model.Seats.{Side, writes, is_write, side_lost, side_back}
use Rattle.master_side.specs.of_state_model.Accounts
use Rattle.master_side.specs.of_state_model.Accounts.{Account, account_back, account_met, account_by, access_done}
use Rattle.master_side.specs.of_datagrams.Frame.{IsPart, text_of}
use Rattle.master_side.proofs.of_datagrams.Building.{text_of-append}
use Rattle.master_side.specs.of_exchange_model.Exchange.{Speech}
use Rattle.master_side.specs.of_master_duty.Reply.{Reply}
use Rattle.master_side.specs.of_frame_view.View.{Lens, station_of, address_of, place_of, is_own, read_access, write_access, access_of}
use Rattle.master_side.specs.of_ec_fields.Fields.{number_at, bits_of}
use Rattle.master_side.specs.of_datagrams.declared.command.Command.TheVariants.{Nop, Aprd, Apwr, Aprw, Fprd, Fpwr, Fprw, Brd, Bwr, Brw, Lrd, Lwr, Lrw, Armw, Frmw, Other}
use Rattle.master_side.specs.of_datagrams.declared.command.Command.{Command}
use Rattle.master_side.specs.of_frame_view.Seen.{part_seen}
use Rattle.master_side.specs.Carried.{Asks, Meant, IsBack, one}
use Rattle.master_side.specs.declared.carried.Carried.{Carried}
use Rattle.master_side.specs.Shown.{SideShows}
use Rattle.master_side.specs.of_mailbox_mail.declared.mail.Mail.{Mail}
use Rattle.master_side.specs.of_mailbox_master.Links.{OutLink}
use Rattle.master_side.specs.of_mailbox_master.declared.halves.InwardHalf.{InwardHalf}
use Rattle.master_side.specs.of_master_duty.declared.stage.Met.{Met}
use Rattle.master_side.specs.of_segment_model.Returned.{Returns, IsReturn}
use Rattle.master_tour.specs.Under.{Grams, mine, IsAt, Under}

-- the folds over a slave's own datagrams
lost_all : Halves Body → List (Gram Body) → Halves Body
lost_all h [] = h
lost_all h (g ∷ gs) = lost_all (halves_lost h g.ask) gs

answered_all : Halves Body → List (Gram Body) → Halves Body
answered_all h [] = h
answered_all h (g ∷ gs) = answered_all (halves_answered h g.ask g) gs

accept_all : Halves Body → List (Gram Body) → List Body
accept_all h [] = []
accept_all h (g ∷ gs) = halves_accept h g.ask g ++ accept_all (halves_answered h g.ask g) gs

any_write : List (Gram Body) → Bool
any_write [] = false
any_write (g ∷ gs) = is_write g.ask || any_write gs

without_own : (station : ℕ) (h : Halves Body) (gs : List (Gram Body)) → halves_without station h gs ≡ lost_all h (own station gs)
unfolding lost_all
without_own station h [] = refl
without_own station h (g ∷ gs) = go (g.station == station) (without_own station (halves_lost h g.ask) gs) (without_own station h gs)
  where
    go : (b : Bool) → halves_without station (halves_lost h g.ask) gs ≡ lost_all (halves_lost h g.ask) (own station gs) → halves_without station h gs ≡ lost_all h (own station gs) →
        halves_without station (if b then halves_lost h g.ask else h) gs ≡ lost_all h (if b then g ∷ own station gs else own station gs)
    go true e f = e
    go false e f = f

after_own : (station : ℕ) (h : Halves Body) (gs : List (Gram Body)) → halves_after station h gs ≡ answered_all h (own station gs)
unfolding answered_all
after_own station h [] = refl
after_own station h (g ∷ gs) = go (g.station == station) (after_own station (halves_answered h g.ask g) gs) (after_own station h gs)
  where
    go : (b : Bool) → halves_after station (halves_answered h g.ask g) gs ≡ answered_all (halves_answered h g.ask g) (own station gs) → halves_after station h gs ≡ answered_all h (own station gs) →
        halves_after station (if b then halves_answered h g.ask g else h) gs ≡ answered_all h (if b then g ∷ own station gs else own station gs)
    go true e f = e
    go false e f = f

accepted_own : (station : ℕ) (h : Halves Body) (gs : List (Gram Body)) → all_accepted station h gs ≡ accept_all h (own station gs)
unfolding accept_all
accepted_own station h [] = refl
accepted_own station h (g ∷ gs) = go (g.station == station) (accepted_own station (halves_answered h g.ask g) gs) (accepted_own station h gs)
  where
    go : (b : Bool) → all_accepted station (halves_answered h g.ask g) gs ≡ accept_all (halves_answered h g.ask g) (own station gs) → all_accepted station h gs ≡ accept_all h (own station gs) →
        (if b then halves_accept h g.ask g else []) ++ all_accepted station (if b then halves_answered h g.ask g else h) gs ≡ accept_all h (if b then g ∷ own station gs else own station gs)
    go true e f = ap (λ ms. halves_accept h g.ask g ++ ms) e
    go false e f = f

writes_own : (station : ℕ) (gs : List (Gram Body)) → writes station gs ≡ any_write (own station gs)
unfolding any_write
writes_own station [] = refl
writes_own station (g ∷ gs) = go (g.station == station) (writes_own station gs)
  where
    go : (b : Bool) → writes station gs ≡ any_write (own station gs) → (if b then is_write g.ask || writes station gs else writes station gs) ≡ any_write (if b then g ∷ own station gs else own station gs)
    go true e = ap (λ b. is_write g.ask || b) e
    go false e = e

pub own_mine : (station : ℕ) (ds : Grams) → own station (grams ds) ≡ grams (mine station ds)
own_mine station [] = refl
own_mine station (d ∷ ds) = go (d.gram.station == station) (own_mine station ds)
  where
    go : (z : Bool) → own station (grams ds) ≡ grams (mine station ds) → (if z then d.gram ∷ own station (grams ds) else own station (grams ds)) ≡ grams (if z then d ∷ mine station ds else mine station ds)
    go true e = ap (λ gs. d.gram ∷ gs) e
    go false e = e

-- frames with the same datagrams of a slave are the same for it
own_as : (station : ℕ) (ds es : Grams) → mine station ds ≡ mine station es → own station (grams ds) ≡ own station (grams es)
own_as station ds es e = own_mine station ds ∙ ap grams e ∙ sym (own_mine station es)

-- a datagram of its own is its only one
one_mine : (station : ℕ) (b : Datagram Body) → b.gram.station ≡ station → mine station (one b) ≡ one b
one_mine station b e = ap (λ (z : Bool). if z then b ∷ [] else []) (eq-eqb b.gram.station station e)

-- AN ANSWER HAS OF A SLAVE what the frame had
pub at_answer : (at : ℕ) (sent back : Grams) (s : Datagram Body) → Returns sent back → IsAt at sent s → (b : Datagram Body) × IsAt at back b × IsReturn s b
at_answer at [] [] s a i = absurd i
at_answer at [] (b ∷ bs) s a i = absurd a
at_answer at (x ∷ xs) [] s a i = absurd a
at_answer zero (x ∷ xs) (b ∷ bs) s a i = (b, refl, subst (λ (z : Datagram Body). IsReturn z b) (sym i) a.0)
at_answer (suc at) (x ∷ xs) (b ∷ bs) s a i = at_answer at xs bs s a.1 i

none_answer : (station : ℕ) (sent back : Grams) → Returns sent back → mine station sent ≡ [] → mine station back ≡ []
none_answer station [] [] a e = refl
none_answer station [] (b ∷ bs) a e = absurd a
none_answer station (x ∷ xs) [] a e = absurd a
none_answer station (x ∷ xs) (b ∷ bs) (s, more) e = go (x.gram.station == station) refl (none_answer station xs bs more)
  where
    go : (z : Bool) → (x.gram.station == station) ≡ z → (mine station xs ≡ [] → mine station bs ≡ []) → mine station (b ∷ bs) ≡ []
    go true k ih = absurd (let f = sym (ap (λ (z : Bool). if z then x ∷ mine station xs else mine station xs) k) ∙ e in cc)
    go false k ih = ap (λ (z : Bool). if z then b ∷ mine station bs else mine station bs) (ap (λ n. n == station) s.station ∙ k) ∙ ih (sym (ap (λ (z : Bool). if z then x ∷ mine station xs else mine station xs) k) ∙ e)

-- the one datagram of a slave stands where it stood
one_answer : (station at : ℕ) (sent back : Grams) (s b : Datagram Body) → Returns sent back → mine station sent ≡ one s → s.gram.station ≡ station → IsAt at sent s → IsAt at back b → mine station back ≡ one b
one_answer station at [] back s b a e k i j = absurd i
one_answer station at (x ∷ xs) [] s b a e k i j = absurd a
one_answer station zero (x ∷ xs) (y ∷ ys) s b (q, more) e k i j =
    let t = eq-eqb x.gram.station station (ap (λ (z : Datagram Body). z.gram.station) (sym i) ∙ k) in
    let rest : mine station xs ≡ [] = (let f = sym (ap (λ (z : Bool). if z then x ∷ mine station xs else mine station xs) t) ∙ e in cc) in
    ap (λ (z : Bool). if z then y ∷ mine station ys else mine station ys) (ap (λ n. n == station) q.station ∙ t) ∙ (λ n. (sym j) n ∷ none_answer station xs ys more rest n)
one_answer station (suc at) (x ∷ xs) (y ∷ ys) s b (q, more) e k i j = go (x.gram.station == station) refl (λ e. one_answer station at xs ys s b more e k i j)
  where
    none_at : (n : ℕ) (zs : Grams) → IsAt n zs s → mine station zs ≡ [] → ⊥
    none_at n [] i e = i
    none_at zero (z ∷ zs) i e = (let f = sym (ap (λ (w : Bool). if w then z ∷ mine station zs else mine station zs) (eq-eqb z.gram.station station (ap (λ (z : Datagram Body). z.gram.station) (sym i) ∙ k))) ∙ e in absurd (cc))
    none_at (suc n) (z ∷ zs) i e = none_at n zs i (drop_one (z.gram.station == station) e)
      where
        drop_one : (w : Bool) → (if w then z ∷ mine station zs else mine station zs) ≡ [] → mine station zs ≡ []
        drop_one true e = absurd (cc)
        drop_one false e = e

    go : (z : Bool) → (x.gram.station == station) ≡ z → (mine station xs ≡ one s → mine station ys ≡ one b) → mine station (y ∷ ys) ≡ one b
    go true t ih = absurd (none_at at xs i (let f = sym (ap (λ (z : Bool). if z then x ∷ mine station xs else mine station xs) t) ∙ e in cc))
    go false t ih = ap (λ (z : Bool). if z then y ∷ mine station ys else mine station ys) (ap (λ n. n == station) q.station ∙ t)
        ∙ ih (sym (ap (λ (z : Bool). if z then x ∷ mine station xs else mine station xs) t) ∙ e)

pub part_fits : (octets : List ℕ) (part : Part) → IsPart octets part → part.at < 5000
part_fits octets part i =
    let place = i.place in
    let bits = i.frame.eleven_bits in
    let takes = i.frame.takes_in in
    let all = ap length (text_of-append i.front (i.datagram ∷ i.behind)) ∙ length-append (text_of i.front) (text_of (i.datagram ∷ i.behind)) in
    omega (arith, place, bits, takes, all)

pub at_map : (f : Part → Datagram Body) (at : ℕ) (ps : List Part) (p : Part) (b : Datagram Body) → IsAt at (map f ps) b → b ≡ f (get_or ps at p)
at_map f at [] p b i = absurd i
at_map f zero (x ∷ xs) p b i = i
at_map f (suc at) (x ∷ xs) p b i = at_map f at xs p b i

pub at_short : (at : ℕ) (f : Part → Datagram Body) (ps : List Part) (b : Datagram Body) → IsAt at (map f ps) b → length ps ≤ at → ⊥
at_short at f [] b i l = i
at_short zero f (x ∷ xs) b i l = absurd (omega (arith, l))
at_short (suc at) f (x ∷ xs) b i l = at_short at f xs b i (omega (arith, l))

pub nothing_under : (station at : ℕ) (under : Bool) (carried : Carried) (h : Halves Body) (due : Option Access) (sent : Grams) → under ≡ false → Under station at under carried h due sent → mine station sent ≡ []
nothing_under station at under carried h due sent e (Under.none k n) = n
nothing_under station at under carried h due sent e (Under.has b u i n m) = absurd (let t = sym e ∙ u in cc)

pub short_under : (station at : ℕ) (under : Bool) (carried : Carried) (h : Halves Body) (due : Option Access) (f : Part → Datagram Body) (ps : List Part) (sent : Grams) → sent ≡ map f ps → length ps ≤ at → Under station at under carried h due sent → mine station sent ≡ []
short_under station at under carried h due f ps sent e l (Under.none k n) = n
short_under station at under carried h due f ps sent e l (Under.has b u i n m) = absurd (at_short at f ps b (subst (λ z. IsAt at z b) e i) l)

-- by its address a datagram comes back as it went
same_address : (station : ℕ) (a : Address) → ((n : ℕ) → is_for n a ≡ (station == n)) → a ≡ Address.Station station
same_address station (Address.Station other) f = ap Address.Station (eqb-true other station (f station ∙ eq-eqb station station refl))
same_address station (Address.Place n) f = absurd (let t = f station ∙ eq-eqb station station refl in cc)
same_address station Address.Passed f = absurd (let t = f station ∙ eq-eqb station station refl in cc)

meant_as : (station : ℕ) (carried : Carried) (h : Halves Body) (due : Option Access) (s b : Datagram Body) → IsReturn s b → Meant station carried h due s → Meant station carried h due b
meant_as station carried h due s b q m = record {
  station_is = q.station ∙ m.station_is;
  address = same_address station b.address (λ n. q.address n ∙ ap (is_for n) m.address);
  asks = subst (λ (z : Ask Body). Asks carried h due z b.access) (sym q.ask) (subst (λ (z : Access). Asks carried h due s.gram.ask z) (sym q.access) m.asks);
}

-- WHAT THE FRAME HAS OF A SLAVE comes back
pub under_back : (station at : ℕ) (under : Bool) (carried : Carried) (h : Halves Body) (due : Option Access) (sent back : Grams) → Returns sent back → Under station at under carried h due sent → Under station at under carried h due back
under_back station at under carried h due sent back a (Under.none k e) = Under.none k (none_answer station sent back a e)
under_back station at under carried h due sent back a (Under.has s u i e m) =
    let (b, j, q) = at_answer at sent back s a i in
    Under.has b u j (one_answer station at sent back s b a e m.station_is i j) (meant_as station carried h due s b q m)

-- a datagram means by its address the slave of whose mailboxes it is
abbrev pub SameAim : ℕ → Grams → Type 0
SameAim station [] = ⊤
SameAim station (d ∷ ds) = (is_for station d.address ≡ (d.gram.station == station)) × SameAim station ds

aim_one : (station : ℕ) (b : Datagram Body) → b.gram.station ≡ station → b.address ≡ Address.Station station → is_for station b.address ≡ (b.gram.station == station)
aim_one station b k m = ap (is_for station) m ∙ ap (λ n. n == station) (sym k)

-- no station is 0
none_zero : (station : ℕ) → nat_le 1 station ≡ true → false ≡ (0 == station)
none_zero zero l = absurd (cc)
none_zero (suc n) l = go (0 == suc n) refl
  where
    go : (b : Bool) → (0 == suc n) ≡ b → false ≡ (0 == suc n)
    go false e = sym e
    go true e = absurd (let k = eqb-true 0 (suc n) e in omega (arith, k))

by_place : (station adp : ℕ) → nat_le 1 station ≡ true → is_for station (place_of adp) ≡ (0 == station)
by_place station adp l = go (adp == 0) (nat_le 32768 adp)
  where
    go : (a b : Bool) → is_for station (if a then Address.Place 0 else if b then Address.Place (65536 - adp) else Address.Passed) ≡ (0 == station)
    go true b = none_zero station l
    go false true = none_zero station l
    go false false = none_zero station l

command_aim : (station : ℕ) (c : Command) (adp : ℕ) → nat_le 1 station ≡ true → is_for station (address_of c adp) ≡ (station_of c adp == station)
command_aim station Nop adp l = none_zero station l
command_aim station Aprd adp l = by_place station adp l
command_aim station Apwr adp l = by_place station adp l
command_aim station Aprw adp l = by_place station adp l
command_aim station Fprd adp l = refl
command_aim station Fpwr adp l = refl
command_aim station Fprw adp l = refl
command_aim station Brd adp l = none_zero station l
command_aim station Bwr adp l = none_zero station l
command_aim station Brw adp l = none_zero station l
command_aim station Lrd adp l = none_zero station l
command_aim station Lwr adp l = none_zero station l
command_aim station Lrw adp l = none_zero station l
command_aim station Armw adp l = none_zero station l
command_aim station Frmw adp l = none_zero station l
command_aim station (Other n) adp l = none_zero station l

pub aims : (lens : ℕ → Lens) (octets : List ℕ) (station : ℕ) (ps : List Part) → nat_le 1 station ≡ true → SameAim station (map (part_seen lens octets) ps)
aims lens octets station [] l = tt
aims lens octets station (p ∷ ps) l = (command_aim station p.head.command p.head.adp l, aims lens octets station ps l)

-- a status that is read has six octets
read_whole : (ado len : ℕ) → read_access ado len ≡ Access.ReadState → len ≡ 6
read_whole ado len = go (ado == 304) (len == 6) (ado == 2053) (len == 1) refl
  where
    go : (p q r s : Bool) → (len == 6) ≡ q → (if p then (if q then Access.ReadState else Access.Elsewhere) else if r then (if s then Access.ReadFull else Access.Elsewhere) else Access.Elsewhere) ≡ Access.ReadState → len ≡ 6
    go true true r s k e = eqb-true len 6 k
    go true false r s k e = absurd (cc)
    go false q true true k e = absurd (cc)
    go false q true false k e = absurd (cc)
    go false q false s k e = absurd (cc)

write_reads : (lens : Lens) (ado : ℕ) (octets : List ℕ) → write_access lens ado octets ≡ Access.ReadState → ⊥
write_reads lens ado octets = go (ado == 288) (length octets == 2) (ado == 16) (ado == 2048) (length octets == 8) (ado == 2056)
  where
    go : (a b c d f g : Bool) → (if a then (if b then Access.SetControl (bits_of (number_at 2 octets 0) 0 4) (not (bits_of (number_at 2 octets 0) 4 1 == 0)) else Access.Elsewhere)
        else if c then (if b then Access.SetStation (number_at 2 octets 0) else Access.Elsewhere)
        else if d then (if f then Access.SetFirst (is_own octets 4096 lens.out 38) else Access.Elsewhere)
        else if g then (if f then Access.SetSecond (is_own octets 6144 lens.back 34) else Access.Elsewhere)
        else Access.Elsewhere) ≡ Access.ReadState → ⊥
    go true true c d f g e = absurd (cc)
    go true false c d f g e = absurd (cc)
    go false true true d f g e = absurd (cc)
    go false false true d f g e = absurd (cc)
    go false b false true true g e = absurd (cc)
    go false b false true false g e = absurd (cc)
    go false b false false true true e = absurd (cc)
    go false b false false false true e = absurd (cc)
    go false b false false f false e = absurd (cc)

pub status_whole : (lens : Lens) (c : Command) (ado : ℕ) (octets : List ℕ) → access_of lens c ado octets ≡ Access.ReadState → length octets ≡ 6
status_whole lens Fpwr ado octets e = absurd (write_reads lens ado octets e)
status_whole lens Apwr ado octets e = absurd (write_reads lens ado octets e)
status_whole lens Fprd ado octets e = read_whole ado (length octets) e
status_whole lens Aprd ado octets e = read_whole ado (length octets) e
status_whole lens Nop ado octets e = absurd (cc)
status_whole lens Aprw ado octets e = absurd (cc)
status_whole lens Fprw ado octets e = absurd (cc)
status_whole lens Brd ado octets e = absurd (cc)
status_whole lens Bwr ado octets e = absurd (cc)
status_whole lens Brw ado octets e = absurd (cc)
status_whole lens Lrd ado octets e = absurd (cc)
status_whole lens Lwr ado octets e = absurd (cc)
status_whole lens Lrw ado octets e = absurd (cc)
status_whole lens Armw ado octets e = absurd (cc)
status_whole lens Frmw ado octets e = absurd (cc)
status_whole lens (Other n) ado octets e = absurd (cc)

-- frames with the same datagrams of a slave bring it the same mails
pub accepted_as : (station : ℕ) (ds es : Grams) (h : Halves Body) → mine station ds ≡ mine station es → all_accepted station h (grams ds) ≡ all_accepted station h (grams es)
accepted_as station ds es h e = accepted_own station h (grams ds) ∙ ap (accept_all h) (own_as station ds es e) ∙ sym (accepted_own station h (grams es))

-- what its datagram brought that came back
pub has_accepted : (P : List Body → Type 0) (station at : ℕ) (under : Bool) (carried : Carried) (due : Option Access) (lens : ℕ → Lens) (octets body : List ℕ) (ps : List Part) (p z : Part) (back : Grams) (h : Halves Body) →
    under ≡ true → p ≡ get_or ps at z → body ≡ take p.head.len (drop (p.at + 10) octets) → back ≡ map (part_seen lens octets) ps → Under station at under carried h due back →
    ((b : Datagram Body) → Meant station carried h due b → IsBack p.head.counter body b → P (all_accepted station h (grams (one b)))) → P (all_accepted station h (grams back))
has_accepted P station at under carried due lens octets body ps p z back h is g o e (Under.none k n) f = absurd (let t = sym k ∙ is in cc)
has_accepted P station at under carried due lens octets body ps p z back h is g o e (Under.has b u i n m) f =
    let same : b ≡ part_seen lens octets p = at_map (part_seen lens octets) at ps z b (subst (λ z. IsAt at z b) e i) ∙ ap (part_seen lens octets) (sym g) in
    let came : IsBack p.head.counter (take p.head.len (drop (p.at + 10) octets)) (part_seen lens octets p) = record { counted = refl; mail = refl; acknowledge = refl; registers = refl; found = refl; whole = status_whole (lens (station_of p.head.command p.head.adp)) p.head.command p.head.ado (take p.head.len (drop (p.at + 10) octets)) } in
    subst P (sym (accepted_as station back (one b) h (n ∙ sym (one_mine station b m.station_is))))
    (f b m (subst (λ z. IsBack p.head.counter z b) (sym o) (subst (λ (z : Datagram Body). IsBack p.head.counter (take p.head.len (drop (p.at + 10) octets)) z) (sym same) came)))

module _ {Q : Type 0} (sp : Speech Body Q Reply) where
  abbrev pub Rows : Type 0
  Rows = Option (Row Body Q Reply)

  pub back_as : (made station : ℕ) (ds es : Grams) (d : Side Body Q Reply) → mine station ds ≡ mine station es → side_back sp made station ds d ≡ side_back sp made station es d
  back_as made station ds es d e =
      let o = own_as station ds es e in
      let h = after_own station d.halves (grams ds) ∙ ap (answered_all d.halves) o ∙ sym (after_own station d.halves (grams es)) in
      let w = writes_own station (grams ds) ∙ ap any_write o ∙ sym (writes_own station (grams es)) in
      let k = accepted_own station d.halves (grams ds) ∙ ap (accept_all d.halves) o ∙ sym (accepted_own station d.halves (grams es)) in
      λ i. record { halves = h i; fresh = d.fresh && not (w i); past = d.past; now = option_map (λ r. row_heard sp made (k i) r) d.now }

  pub lost_as : (station : ℕ) (ds es : Grams) (d : Side Body Q Reply) → mine station ds ≡ mine station es → side_lost station ds d ≡ side_lost station es d
  lost_as station ds es d e =
      let o = own_as station ds es e in
      let h = without_own station d.halves (grams ds) ∙ ap (lost_all d.halves) o ∙ sym (without_own station d.halves (grams es)) in
      let w = writes_own station (grams ds) ∙ ap any_write o ∙ sym (writes_own station (grams es)) in
      λ i. record { halves = h i; fresh = d.fresh && not (w i); past = d.past; now = d.now }

  met_else : (station made : ℕ) (a : Account Q Reply) (hand : Option Accounts.Duty) (d : Datagram Body) → is_for station d.address ≡ false → account_met station made a hand d ≡ a
  met_else station made a None d e = refl
  met_else station made a (Some duty) d e = ap (λ (b : Bool). if b && not (d.counter == 0) then account_by made a duty (access_done duty.target duty.stage d.access d.found) else a) e

  account_mine : (station made : ℕ) (a : Account Q Reply) (ds : Grams) → SameAim station ds → account_back station made a ds ≡ account_back station made a (mine station ds)
  account_mine station made a [] b = refl
  account_mine station made a (d ∷ ds) b = go (d.gram.station == station) refl (λ z. account_mine station made z ds b.1)
    where
      go : (z : Bool) → (d.gram.station == station) ≡ z → ((c : Account Q Reply) → account_back station made c ds ≡ account_back station made c (mine station ds)) → account_back station made (account_met station made a a.hand d) ds ≡ account_back station made a (if d.gram.station == station then d ∷ mine station ds else mine station ds)
      go true e ih = ih (account_met station made a a.hand d) ∙ ap (λ (z : Bool). account_back station made a (if z then d ∷ mine station ds else mine station ds)) (sym e)
      go false e ih = ap (λ (z : Account Q Reply). account_back station made z ds) (met_else station made a a.hand d (b.0 ∙ e)) ∙ ih a
          ∙ ap (λ (z : Bool). account_back station made a (if z then d ∷ mine station ds else mine station ds)) (sym e)

  pub account_as : (station made : ℕ) (a : Account Q Reply) (ds es : Grams) → SameAim station ds → SameAim station es → mine station ds ≡ mine station es → account_back station made a ds ≡ account_back station made a es
  account_as station made a ds es b c e = account_mine station made a ds b ∙ ap (account_back station made a) e ∙ sym (account_mine station made a es c)

  -- nothing of a slave came back
  pub none_back : (shows : Rows → Type 0) (out : OutLink (Option Mail)) (inn : InwardHalf) (fresh : Bool) (duty : Option Met) (d : Side Body Q Reply) (a : Account Q Reply) (made station : ℕ) (back : Grams) → SameAim station back →
      ((h : Rows) → shows h → shows (option_map (λ r. row_heard sp made [] r) h)) → mine station back ≡ [] → SideShows shows out inn fresh duty d a → SideShows shows out inn fresh duty (side_back sp made station back d) (account_back station made a back)
  none_back shows out inn fresh duty d a made station back b quiet e s =
      subst (λ (z : Side Body Q Reply). SideShows shows out inn fresh duty z (account_back station made a back)) (sym (back_as made station back [] d e))
      (subst (λ (z : Account Q Reply). SideShows shows out inn fresh duty (side_back sp made station [] d) z) (sym (account_as station made a back [] b tt e))
      (record { halves = s.halves; unsent = still d.fresh ∙ s.unsent; row = quiet d.now s.row; state = s.state; over = s.over }))
    where
      still : (f : Bool) → f && true ≡ f
      still true = refl
      still false = refl

  -- ITS DATAGRAM CAME BACK
  pub has_back : (R : Side Body Q Reply → Account Q Reply → Type 0) (made station at : ℕ) (under : Bool) (carried : Carried) (due : Option Access) (lens : ℕ → Lens) (octets body : List ℕ) (ps : List Part) (p z : Part) (back : Grams) (d : Side Body Q Reply) (a : Account Q Reply) →
      under ≡ true → p ≡ get_or ps at z → body ≡ take p.head.len (drop (p.at + 10) octets) → back ≡ map (part_seen lens octets) ps → SameAim station back → Under station at under carried d.halves due back →
      ((b : Datagram Body) → Meant station carried d.halves due b → IsBack p.head.counter body b → R (side_back sp made station (one b) d) (account_back station made a (one b))) →
      R (side_back sp made station back d) (account_back station made a back)
  has_back R made station at under carried due lens octets body ps p z back d a is g o e y (Under.none k n) f = absurd (let t = sym k ∙ is in cc)
  has_back R made station at under carried due lens octets body ps p z back d a is g o e y (Under.has b u i n m) f =
      let same : b ≡ part_seen lens octets p = at_map (part_seen lens octets) at ps z b (subst (λ z. IsAt at z b) e i) ∙ ap (part_seen lens octets) (sym g) in
      let came : IsBack p.head.counter (take p.head.len (drop (p.at + 10) octets)) (part_seen lens octets p) = record { counted = refl; mail = refl; acknowledge = refl; registers = refl; found = refl; whole = status_whole (lens (station_of p.head.command p.head.adp)) p.head.command p.head.ado (take p.head.len (drop (p.at + 10) octets)) } in
      let here = n ∙ sym (one_mine station b m.station_is) in
      subst (λ (z : Side Body Q Reply). R z (account_back station made a back)) (sym (back_as made station back (one b) d here))
      (subst (λ (z : Account Q Reply). R (side_back sp made station (one b) d) z) (sym (account_as station made a back (one b) y (aim_one station b m.station_is m.address, tt) here))
      (f b m (subst (λ z. IsBack p.head.counter z b) (sym o) (subst (λ (z : Datagram Body). IsBack p.head.counter (take p.head.len (drop (p.at + 10) octets)) z) (sym same) came))))

  -- nothing of it was lost
  pub none_lost : (shows : Rows → Type 0) (out : OutLink (Option Mail)) (inn : InwardHalf) (fresh : Bool) (duty : Option Met) (d : Side Body Q Reply) (a : Account Q Reply) (station : ℕ) (sent : Grams) → mine station sent ≡ [] →
      SideShows shows out inn fresh duty d a → SideShows shows out inn fresh duty (side_lost station sent d) a
  none_lost shows out inn fresh duty d a station sent e s =
      subst (λ (z : Side Body Q Reply). SideShows shows out inn fresh duty z a) (sym (lost_as station sent [] d e))
      (record { halves = s.halves; unsent = still d.fresh ∙ s.unsent; row = s.row; state = s.state; over = s.over })
    where
      still : (f : Bool) → f && true ≡ f
      still true = refl
      still false = refl

  pub has_lost : (R : Side Body Q Reply → Type 0) (station at : ℕ) (under : Bool) (carried : Carried) (due : Option Access) (sent : Grams) (d : Side Body Q Reply) → under ≡ true → Under station at under carried d.halves due sent →
      ((b : Datagram Body) → Meant station carried d.halves due b → R (side_lost station (one b) d)) → R (side_lost station sent d)
  has_lost R station at under carried due sent d is (Under.none k n) f = absurd (let t = sym k ∙ is in cc)
  has_lost R station at under carried due sent d is (Under.has b u i n m) f = subst R (sym (lost_as station sent (one b) d (n ∙ sym (one_mine station b m.station_is)))) (f b m)
