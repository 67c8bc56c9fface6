-- What comes back of a frame is the return of what was sent; and what of it is a station's own.
use Rattle.std.proofs.Common.{◌≡◌, ℕ, ◌==◌, Bool, true, false, List, [], ◌∷◌, filter, refl, ap, sym, ◌∙◌, subst}
use Rattle.std.specs.Prelude.{if◌then◌else◌, ◌||◌, zero, suc}
use Rattle.link_model.specs.Frames.{Gram, gram_meets, own}
use Rattle.link_model.proofs.Own.{station-gram_meets, ask-gram_meets}
use Rattle.segment_model.specs.Slaves.{Datagram, Slave, Ring, Address, address_behind, datagram_meets, slave_meets, frame_after, all_back, grams}
use Rattle.segment_model.specs.Record.{is_for}
use Rattle.segment_model.specs.Returned.{IsReturn, Returns}
use Rattle.segment_model.specs.Seats.{writes, is_write}

address_kept : (station : ℕ) (a : Address) → is_for station (address_behind a) ≡ is_for station a
address_kept station (Address.Station other) = refl
address_kept station (Address.Place zero) = refl
address_kept station (Address.Place (suc n)) = refl
address_kept station Address.Passed = refl

pub return-meets : {V M : Type 0} (station : ℕ) (s : Slave V M) (d : Datagram M) → IsReturn d (datagram_meets station s d)
return-meets station s d = record {
  station = by_station (d.gram.station == station);
  ask = by_ask (d.gram.station == station);
  address = λ other. address_kept other d.address;
  access = refl;
}
  where
    by_station : (b : Bool) → (if b then gram_meets s.node d.gram.ask d.gram else d.gram).station ≡ d.gram.station
    by_station true = station-gram_meets s.node d.gram.ask d.gram
    by_station false = refl

    by_ask : (b : Bool) → (if b then gram_meets s.node d.gram.ask d.gram else d.gram).ask ≡ d.gram.ask
    by_ask true = ask-gram_meets s.node d.gram.ask d.gram
    by_ask false = refl

return_again : {M : Type 0} (a b c : Datagram M) → IsReturn a b → IsReturn b c → IsReturn a c
return_again a b c e f = record {
  station = f.station ∙ e.station;
  ask = f.ask ∙ e.ask;
  address = λ station. f.address station ∙ e.address station;
  access = f.access ∙ e.access;
}

pub returns-again : {M : Type 0} (sent back behind : List (Datagram M)) → Returns sent back → Returns back behind → Returns sent behind
returns-again [] [] [] e f = tt
returns-again (a ∷ sent) (b ∷ back) (c ∷ behind) e f = (return_again a b c e.0 f.0, returns-again sent back behind e.1 f.1)
returns-again [] [] (c ∷ behind) e f = absurd f
returns-again [] (b ∷ back) behind e f = absurd e
returns-again (a ∷ sent) [] behind e f = absurd e
returns-again (a ∷ sent) (b ∷ back) [] e f = absurd f

pub returns-same : {M : Type 0} (sent : List (Datagram M)) → Returns sent sent
returns-same [] = tt
returns-same (d ∷ ds) = (record { station = refl; ask = refl; address = λ station. refl; access = refl }, returns-same ds)

pub returns-after : {V M : Type 0} (station : ℕ) (s : Slave V M) (sent : List (Datagram M)) → Returns sent (frame_after station s sent)
returns-after station s [] = tt
returns-after station s (d ∷ ds) = (return-meets station s d, returns-after station (slave_meets station s d) ds)

pub returns-back : {V M : Type 0} (ns : Ring V M) (sent : List (Datagram M)) → Returns sent (all_back ns sent)
returns-back [] sent = returns-same sent
returns-back (n ∷ ns) sent = returns-again sent (frame_after n.0 n.1 sent) _ (returns-after n.0 n.1 sent) (returns-back ns (frame_after n.0 n.1 sent))

-- of both, the datagrams that are told by what a return keeps
pub returns-filter : {M : Type 0} (p : Datagram M → Bool) → ((s b : Datagram M) → IsReturn s b → p b ≡ p s) → (sent back : List (Datagram M)) → Returns sent back → Returns (filter p sent) (filter p back)
returns-filter p keeps [] [] e = tt
returns-filter {M} p keeps (s ∷ sent) (b ∷ back) e = go (p s) (p b) (keeps s b e.0) (returns-filter p keeps sent back e.1)
  where
    go : (x y : Bool) → y ≡ x → Returns (filter p sent) (filter p back) → Returns (if x then s ∷ filter p sent else filter p sent) (if y then b ∷ filter p back else filter p back)
    go true true same more = (e.0, more)
    go false false same more = more
    go true false same more = absurd (let bad : false ≡ true = same in cc)
    go false true same more = absurd (let bad : true ≡ false = same in cc)
returns-filter p keeps [] (b ∷ back) e = absurd e
returns-filter p keeps (s ∷ sent) [] e = absurd e

-- a station's own datagrams
pub own-grams : {M : Type 0} (station : ℕ) (ds : List (Datagram M)) → own station (grams ds) ≡ grams (filter (λ d. d.gram.station == station) ds)
own-grams station [] = refl
own-grams {M} station (d ∷ ds) = go (d.gram.station == station) (own-grams station ds)
  where
    go : (b : Bool) → own station (grams ds) ≡ grams (filter (λ d. d.gram.station == station) ds) →
        (if b then d.gram ∷ own station (grams ds) else own station (grams ds)) ≡ grams (if b then d ∷ filter (λ d. d.gram.station == station) ds else filter (λ d. d.gram.station == station) ds)
    go true e = ap (λ gs. d.gram ∷ gs) e
    go false e = e

-- of the one that was sent the one that came back
pub own-back : {M : Type 0} (station : ℕ) (sent back : List (Datagram M)) → Returns sent back → Returns (filter (λ d. d.gram.station == station) sent) (filter (λ d. d.gram.station == station) back)
own-back station sent back e = returns-filter (λ d. d.gram.station == station) (λ s b r. ap (λ k. k == station) r.station) sent back e

pub meant-back : {M : Type 0} (station : ℕ) (sent back : List (Datagram M)) → Returns sent back → Returns (filter (λ d. is_for station d.address) sent) (filter (λ d. is_for station d.address) back)
meant-back station sent back e = returns-filter (λ d. is_for station d.address) (λ s b r. r.address station) sent back e

-- whether the station's mailbox is written is told by its own datagrams
abbrev pub any_write : {M : Type 0} → List (Gram M) → Bool
any_write [] = false
any_write (g ∷ gs) = is_write g.ask || any_write gs

pub writes-own : {M : Type 0} (station : ℕ) (gs : List (Gram M)) → writes station gs ≡ any_write (own station gs)
writes-own station [] = refl
writes-own {M} station (g ∷ gs) = go (g.station == station) (writes-own station gs)
  where
    go : (b : Bool) → writes station gs ≡ any_write (own station gs) → (if b then is_write g.ask || writes station gs else writes station gs) ≡ any_write (if b then g ∷ own station gs else own station gs)
    go true e = ap (λ b. is_write g.ask || b) e
    go false e = e

-- one datagram of a station was sent, and one of the same ask came back; or none was, and none did
grams_one : {M : Type 0} (sent back : List (Datagram M)) → Returns sent back → (g : Gram M) → grams sent ≡ g ∷ [] → (h : Gram M) × (grams back ≡ h ∷ []) × (h.ask ≡ g.ask)
grams_one [] [] r g e = absurd (cc)
grams_one (s ∷ []) (b ∷ []) r g e =
    let head : s.gram ≡ g = cc in
    (b.gram, refl, r.0.ask ∙ ap (λ k. k.ask) head)
grams_one (s ∷ (t ∷ sent)) (b ∷ back) r g e = absurd (cc)
grams_one (s ∷ []) (b ∷ (c ∷ back)) r g e = absurd r.1
grams_one [] (b ∷ back) r g e = absurd r
grams_one (s ∷ sent) [] r g e = absurd r

grams_none : {M : Type 0} (sent back : List (Datagram M)) → Returns sent back → grams sent ≡ [] → grams back ≡ []
grams_none [] [] r e = refl
grams_none (s ∷ sent) (b ∷ back) r e = absurd (cc)
grams_none [] (b ∷ back) r e = absurd r
grams_none (s ∷ sent) [] r e = absurd r

pub own-one : {M : Type 0} (station : ℕ) (sent back : List (Datagram M)) → Returns sent back → (g : Gram M) → own station (grams sent) ≡ g ∷ [] → (h : Gram M) × (own station (grams back) ≡ h ∷ []) × (h.ask ≡ g.ask)
own-one station sent back r g e =
    let one = grams_one _ _ (own-back station sent back r) g (sym (own-grams station sent) ∙ e) in
    (one.0, own-grams station back ∙ one.1, one.2)

pub own-none : {M : Type 0} (station : ℕ) (sent back : List (Datagram M)) → Returns sent back → own station (grams sent) ≡ [] → own station (grams back) ≡ []
own-none station sent back r e = own-grams station back ∙ grams_none _ _ (own-back station sent back r) (sym (own-grams station sent) ∙ e)

-- and so for what is addressed to it
one_back : {M : Type 0} (sent back : List (Datagram M)) → Returns sent back → (d : Datagram M) → sent ≡ d ∷ [] → (b : Datagram M) × (back ≡ b ∷ []) × IsReturn d b
one_back [] [] r d e = absurd (cc)
one_back (s ∷ []) (b ∷ []) r d e =
    let head : s ≡ d = cc in
    (b, refl, subst (λ z. IsReturn z b) head r.0)
one_back (s ∷ (t ∷ sent)) (b ∷ back) r d e = absurd (cc)
one_back (s ∷ []) (b ∷ (c ∷ back)) r d e = absurd r.1
one_back [] (b ∷ back) r d e = absurd r
one_back (s ∷ sent) [] r d e = absurd r

none_back : {M : Type 0} (sent back : List (Datagram M)) → Returns sent back → sent ≡ [] → back ≡ []
none_back [] [] r e = refl
none_back (s ∷ sent) (b ∷ back) r e = absurd (cc)
none_back [] (b ∷ back) r e = absurd r
none_back (s ∷ sent) [] r e = absurd r

pub meant-one : {M : Type 0} (station : ℕ) (sent back : List (Datagram M)) → Returns sent back → (d : Datagram M) → filter (λ d. is_for station d.address) sent ≡ d ∷ [] →
    (b : Datagram M) × (filter (λ d. is_for station d.address) back ≡ b ∷ []) × IsReturn d b
meant-one station sent back r d e = one_back _ _ (meant-back station sent back r) d e

pub meant-none : {M : Type 0} (station : ℕ) (sent back : List (Datagram M)) → Returns sent back → filter (λ d. is_for station d.address) sent ≡ [] → filter (λ d. is_for station d.address) back ≡ []
meant-none station sent back r e = none_back _ _ (meant-back station sent back r) e

pub writes-one : {M : Type 0} (station : ℕ) (gs : List (Gram M)) (g : Gram M) → own station gs ≡ g ∷ [] → writes station gs ≡ is_write g.ask
writes-one station gs g e = writes-own station gs ∙ ap any_write e ∙ or_false (is_write g.ask)
  where
    or_false : (b : Bool) → b || false ≡ b
    or_false true = refl
    or_false false = refl

pub writes-none : {M : Type 0} (station : ℕ) (gs : List (Gram M)) → own station gs ≡ [] → writes station gs ≡ false
writes-none station gs e = writes-own station gs ∙ ap any_write e
