-- A FRAME ASKS BY THE INWARD HALF FIRST: what is under way of a slave is that half's datagram, or the half is clear.
use Rattle.std.proofs.Common.{◌≡◌, ◌-◌, ◌==◌, ℕ, Bool, true, false, List, [], ◌∷◌, Option, refl, sym, ap, ◌∙◌, subst}
use Rattle.std.specs.Prelude.{if◌then◌else◌, cond, nat_le, map, Result, Ok, Err}
use Rattle.life_runs.specs.of_datagrams.declared.command.Command.{Command}
use Rattle.life_runs.specs.of_datagrams.declared.command.Command.TheVariants.{Nop, Aprd, Apwr, Aprw, Fprd, Fpwr, Fprw, Brd, Bwr, Brw, Lrd, Lwr, Lrw, Armw, Frmw, Other}
use Rattle.life_runs.specs.of_datagrams.declared.frame.Frame.{Frame}
use Rattle.life_runs.specs.of_datagrams.declared.frame.FrameFault.{FrameFault}
use Rattle.life_runs.specs.of_datagrams.declared.frame.Part.{Part}
use Rattle.life_runs.specs.of_datagrams.Frame.{frame_read}
use Rattle.life_runs.specs.of_frame_view.View.{Lens, address_of, place_of, station_of}
use Rattle.life_runs.specs.of_frame_view.Seen.{seen, part_seen, parts_seen}
use Rattle.life_runs.specs.of_frame_view.Shares.{AllBoth}
use Rattle.life_runs.specs.Led.{Turn}
use Rattle.life_runs.specs.of_mailbox_master.declared.halves.InwardHalf.{InwardHalf}
use Rattle.life_runs.specs.of_mailbox_master.Any.{in_half_of}
use Rattle.life_runs.specs.of_link_model.Link.{Halves}
use Rattle.life_runs.specs.of_link_model.Master.{InHalf}
use Rattle.life_runs.specs.of_segment_model.Slaves as Slaves
use Rattle.life_runs.specs.of_segment_model.Slaves.{Access, Datagram}
use Rattle.life_runs.specs.of_segment_model.Record.{is_for}
use Rattle.life_runs.specs.of_state_model.Accounts.{duty_access}
use Rattle.life_runs.specs.of_master_hand.declared.hand.InHand.{InHand}
use Rattle.life_runs.specs.of_master_side.Carried.{Meant, is_clear, is_by_half}
use Rattle.life_runs.specs.of_master_side.declared.carried.Carried.{Carried}
use Rattle.life_runs.specs.of_master_side.declared.hand.Hand.{Ghosts}
use Rattle.life_runs.specs.of_link_mails.Body.{Body}
use Rattle.life_runs.specs.of_life_model.Own.{own}
use Rattle.life_runs.specs.of_master_tour.Stands.{StandShows, StandUnder}
use Rattle.life_runs.specs.of_master_tour.Under.{Grams, mine, Under}
use Rattle.life_runs.specs.of_master_tour.declared.stop.Stand.{Stand}
use Rattle.life_runs.specs.of_master_tour.declared.stop.Stop.{Stop}
use Rattle.master_node.specs.Asks.{AsksHalf, EachAsks, AsksFirst, AllAsk}
use Rattle.master_node.specs.Shows.{IsOnFrame, side_shows}

-- A DATAGRAM THAT IS ADDRESSED TO A STATION is one to its mailboxes
place_never : (station adp : ℕ) → is_for station (place_of adp) ≡ false
place_never station adp = go (adp == 0) (nat_le 32768 adp)
  where
    go : (a b : Bool) → is_for station (if a then Slaves.Address.Place 0 else if b then Slaves.Address.Place (65536 - adp) else Slaves.Address.Passed) ≡ false
    go true b = refl
    go false true = refl
    go false false = refl

no_place : (station adp n : ℕ) → is_for station (place_of adp) ≡ true → (n == station) ≡ true
no_place station adp n e = absurd (let t = sym (place_never station adp) ∙ e in cc)

for_station : (station : ℕ) (c : Command) (adp : ℕ) → is_for station (address_of c adp) ≡ true → (station_of c adp == station) ≡ true
for_station station Nop adp e = absurd (cc)
for_station station Aprd adp e = no_place station adp 0 e
for_station station Apwr adp e = no_place station adp 0 e
for_station station Aprw adp e = no_place station adp 0 e
for_station station Fprd adp e = e
for_station station Fpwr adp e = e
for_station station Fprw adp e = e
for_station station Brd adp e = absurd (cc)
for_station station Bwr adp e = absurd (cc)
for_station station Brw adp e = absurd (cc)
for_station station Lrd adp e = absurd (cc)
for_station station Lwr adp e = absurd (cc)
for_station station Lrw adp e = absurd (cc)
for_station station Armw adp e = absurd (cc)
for_station station Frmw adp e = absurd (cc)
for_station station (Other n) adp e = absurd (cc)

-- each of a frame is
abbrev pub AreFor : ℕ → Grams → Type 0
AreFor station [] = Unit {0}
AreFor station (d ∷ ds) = (is_for station d.address ≡ true → (d.gram.station == station) ≡ true) × AreFor station ds

parts_for : (station : ℕ) (lens : ℕ → Lens) (octets : List ℕ) (ps : List Part) → AreFor station (map (part_seen lens octets) ps)
parts_for station lens octets [] = tt
parts_for station lens octets (p ∷ ps) = (for_station station p.head.command p.head.adp, parts_for station lens octets ps)

pub seen_for : (station : ℕ) (lens : ℕ → Lens) (octets : List ℕ) → AreFor station (seen lens octets)
seen_for station lens octets = go (frame_read octets)
  where
    go : (r : Result Frame FrameFault) → AreFor station (parts_seen lens octets r)
    go (Ok frame) = parts_for station lens octets frame.parts.items
    go (Err fault) = tt

-- so what its mailboxes are asked tells of those addressed to it
mine_own : (h : InHalf) (station : ℕ) (ds : Grams) → AreFor station ds → EachAsks h (mine station ds) → EachAsks h (own station ds)
mine_own h station [] f m = tt
mine_own h station (d ∷ ds) f m = go (is_for station d.address) (d.gram.station == station) f.0 (mine_own h station ds f.1) m
  where
    go : (a b : Bool) → (a ≡ true → b ≡ true) → (EachAsks h (mine station ds) → EachAsks h (own station ds)) → EachAsks h (if b then d ∷ mine station ds else mine station ds) → EachAsks h (cond a (d ∷ own station ds) (own station ds))
    go true true t rest k = (k.0, rest k.1)
    go true false t rest k = absurd (let e = t refl in cc)
    go false true t rest k = rest k.1
    go false false t rest k = rest k

-- THE ONE UNDER WAY
clear_is : (h : InHalf) (inn : InwardHalf) → h ≡ in_half_of inn → is_clear (in_half_of inn).state ≡ true → is_clear h.state ≡ false → ⊥
clear_is h inn e c n = let t = sym n ∙ ap (λ (z : InHalf). is_clear z.state) e ∙ c in absurd (cc)

asks_half : (station : ℕ) (carried : Carried) (h : Halves Body) (due : Option Access) (b : Datagram Body) (inn : InwardHalf) → h.inn ≡ in_half_of inn → is_by_half carried (in_half_of inn).state ≡ true → Meant station carried h due b → AsksHalf h.inn b
asks_half station Carried.Nothing h due b inn e c m = absurd m.asks
asks_half station Carried.Write h due b inn e c m = λ n. absurd (clear_is h.inn inn e c n)
asks_half station Carried.Inward h due b inn e c m = λ n. m.asks.0
asks_half station Carried.Full h due b inn e c m = λ n. absurd (clear_is h.inn inn e c n)
asks_half station Carried.Control h due b inn e c m = λ n. absurd (clear_is h.inn inn e c n)
asks_half station Carried.Status h due b inn e c m = λ n. absurd (clear_is h.inn inn e c n)

asks_under : (station at : ℕ) (under : Bool) (carried : Carried) (h : Halves Body) (due : Option Access) (sent : Grams) (inn : InwardHalf) → h.inn ≡ in_half_of inn → is_by_half carried (in_half_of inn).state ≡ true → Under station at under carried h due sent → EachAsks h.inn (mine station sent)
asks_under station at under carried h due sent inn e c (Under.none u n) = subst (EachAsks h.inn) (sym n) tt
asks_under station at under carried h due sent inn e c (Under.has b u a n m) = subst (EachAsks h.inn) (sym n) (asks_half station carried h due b inn e c m, tt)

-- OF ONE SLAVE
asks_stand : {G : Ghosts InHand} (lens : ℕ → Lens) (recover : ℕ) (octets : List ℕ) (u : Turn) (s : Stop InHand G) (stand : Stand) → s.stand ≡ stand → IsOnFrame lens recover octets u s → AsksFirst (seen lens octets) u
asks_stand lens recover octets u s (Stand.Opening up) k i = λ o.
    let stood = subst (λ (z : Stand). StandShows (λ d b. side_shows lens recover s u.lived.spot d b) u.lived.spot z u.lived.life) k i.lives.shown.stood in
    absurd (let t = sym stood.stand ∙ o in cc)
asks_stand lens recover octets u s Stand.Gone k i = λ o.
    let stood = subst (λ (z : Stand). StandShows (λ d b. side_shows lens recover s u.lived.spot d b) u.lived.spot z u.lived.life) k i.lives.shown.stood in
    absurd (let t = sym stood ∙ o in cc)
asks_stand lens recover octets u s Stand.Open k i = λ o.
    let stood = subst (λ (z : Stand). StandShows (λ d b. side_shows lens recover s u.lived.spot d b) u.lived.spot z u.lived.life) k i.lives.shown.stood in
    let e = u.lived.life.era in
    let way = subst (λ (z : Stand). StandUnder lens s.side.station s.at s.under s.side.carried z u.lived.life (seen lens octets)) k i.way in
    let asks = asks_under s.side.station s.at s.under s.side.carried e.side.halves (duty_access e.account.hand) (seen lens octets) s.side.inn (ap (λ (z : Halves Body). z.inn) stood.1.halves) s.side.by_half way in
    let place = i.lives.planned.stands.station_is in
    mine_own e.side.halves.inn u.lived.spot.station (seen lens octets) (seen_for u.lived.spot.station lens octets) (subst (λ (n : ℕ). EachAsks e.side.halves.inn (mine n (seen lens octets))) place asks)

-- and of all
pub all_ask : {G : Ghosts InHand} (lens : ℕ → Lens) (recover : ℕ) (octets : List ℕ) (us : List Turn) (ss : List (Stop InHand G)) → AllBoth (λ u s. IsOnFrame lens recover octets u s) us ss → AllAsk (seen lens octets) us
all_ask lens recover octets [] [] e = tt
all_ask lens recover octets (u ∷ us) (s ∷ ss) e = (asks_stand lens recover octets u s s.stand refl e.0, all_ask lens recover octets us ss e.1)
all_ask lens recover octets [] (s ∷ ss) e = absurd e
all_ask lens recover octets (u ∷ us) [] e = absurd e
