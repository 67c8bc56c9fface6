-- A frame grows by the datagram of a slave that has none yet; and what a session sees of a slave's own.
use Rattle.std.proofs.Common.{◌≡◌, inl, inr, ℕ, ◌-◌, ◌%◌, ◌<◌, ◌==◌, Bool, true, false, List, [], ◌∷◌, ◌++◌, length, refl, sym, ap, ◌∙◌, subst, append_assoc, eq-eqb}
use Rattle.std.specs.Prelude.{◌⊎◌, if◌then◌else◌, nat_le}
use Rattle.std.proofs.lemmas.Bool.{eqb-true}
use Rattle.al_state.specs.declared.bringing.BringStep.{BringStep}
use Rattle.al_state.specs.declared.bringing.BringStep.TheVariants.{Return, Watch, Address, OutOff, InOff, OutManager, InManager, Start, Await}
use Rattle.al_state.specs.declared.bringing.BringUp.{BringUp}
use Rattle.al_state.specs.BringUp.{head_of, octets_of}
use Rattle.al_state.specs.of_datagrams.declared.command.Command.{Command}
use Rattle.al_state.specs.of_datagrams.declared.command.Command.TheVariants.{Aprd, Apwr, Fprd, Fpwr}
use Rattle.al_state.specs.of_datagrams.Command.{IsNamed}
use Rattle.al_state.specs.of_datagrams.Datagram as Raw
use Rattle.al_state.specs.of_datagrams.Frame.{datagram_of}
use Rattle.frame_view.specs.View.{Lens, datagram_seen, address_of, place_of, station_of}
use Rattle.frame_view.specs.Seen.{datagrams_seen}
use Rattle.life_model.specs.of_segment_model.Slaves as Slaves
use Rattle.life_model.specs.of_segment_model.Slaves.{Datagram}
use Rattle.life_model.specs.of_segment_model.Record.{is_for}
use Rattle.life_model.specs.Lives.{Spot, Stand}
use Rattle.life_model.specs.Own.{own}
use Rattle.frame_view.specs.Frames.{IsNotFor, AllNotFor, HasOne, GramFor, AreApart}

pub other_way : (a b : ℕ) → (a == b) ≡ false → (b == a) ≡ false
other_way a b e = go (b == a) refl
  where
    go : (z : Bool) → (b == a) ≡ z → (b == a) ≡ false
    go false k = k
    go true k = absurd (let t = sym (eq-eqb a b (sym (eqb-true b a k))) ∙ e in cc)

pub apart_back : (a b : Spot) → AreApart a b → AreApart b a
apart_back a b p = record { station = other_way a.station b.station p.station; place = other_way a.place b.place p.place }

-- a frame that has none, with one more behind that is another's
pub none_more : (spot : Spot) (ds : List Raw.Datagram) (d : Raw.Datagram) → AllNotFor spot ds → IsNotFor spot d → AllNotFor spot (ds ++ d ∷ [])
none_more spot [] d n o = (o, tt)
none_more spot (e ∷ ds) d n o = (n.0, none_more spot ds d n.1 o)

-- one that has one
pub one_more : (spot : Spot) (at : ℕ) (b : Raw.Datagram) (ds : List Raw.Datagram) (d : Raw.Datagram) → HasOne spot at b ds → IsNotFor spot d → HasOne spot at b (ds ++ d ∷ [])
one_more spot at b ds d h o = record {
  front = h.front;
  behind = h.behind ++ d ∷ [];
  split = ap (λ z. z ++ d ∷ []) h.split ∙ append_assoc h.front (b ∷ h.behind) (d ∷ []);
  place = h.place;
  before = h.before;
  after = none_more spot h.behind d h.after o;
}

-- and one that gets its own
pub one_new : (spot : Spot) (ds : List Raw.Datagram) (d : Raw.Datagram) → AllNotFor spot ds → HasOne spot (length ds) d (ds ++ d ∷ [])
one_new spot ds d n = record { front = ds; behind = []; split = refl; place = refl; before = n; after = tt }

-- THE DATAGRAM OF ONE SLAVE IS NOT FOR ANOTHER
opening_for : (spot other : Spot) (adp station out_len in_len start index : ℕ) (again : Bool) (step : BringStep) → station ≡ other.station → adp ≡ (65536 - other.place) % 65536 → AreApart other spot → (0 == other.station) ≡ false → other.place < 16 →
    (let up : BringUp = record { adp = adp; station = station; out_len = out_len; in_len = in_len; start = start; again = again; step = step } in IsNotFor spot (datagram_of (head_of up index) (octets_of up)))
opening_for spot other adp station out_len in_len start index again Return s p a z l = IsNotFor.place other.place (record { command = inr refl; adp = p }) a.place l
opening_for spot other adp station out_len in_len start index again Watch s p a z l = IsNotFor.place other.place (record { command = inl refl; adp = p }) a.place l
opening_for spot other adp station out_len in_len start index again Address s p a z l = IsNotFor.place other.place (record { command = inr refl; adp = p }) a.place l
opening_for spot other adp station out_len in_len start index again OutOff s p a z l = IsNotFor.station other.station (record { command = inr refl; adp = s }) a.station z
opening_for spot other adp station out_len in_len start index again InOff s p a z l = IsNotFor.station other.station (record { command = inr refl; adp = s }) a.station z
opening_for spot other adp station out_len in_len start index again OutManager s p a z l = IsNotFor.station other.station (record { command = inr refl; adp = s }) a.station z
opening_for spot other adp station out_len in_len start index again InManager s p a z l = IsNotFor.station other.station (record { command = inr refl; adp = s }) a.station z
opening_for spot other adp station out_len in_len start index again Start s p a z l = IsNotFor.station other.station (record { command = inr refl; adp = s }) a.station z
opening_for spot other adp station out_len in_len start index again Await s p a z l = IsNotFor.station other.station (record { command = inl refl; adp = s }) a.station z

pub not_for : (lens : ℕ → Lens) (spot other : Spot) (stand : Stand) (d : Raw.Datagram) → GramFor lens other stand d → AreApart other spot → (0 == other.station) ≡ false → other.place < 16 → IsNotFor spot d
not_for lens spot other (Stand.Opens o) d g a z l =
    let up = g.up in
    subst (IsNotFor spot) (sym g.is) (opening_for spot other up.adp up.station up.out_len up.in_len up.start g.index up.again up.step g.to.station g.to.place a z l)
not_for lens spot other Stand.Open d g a z l = IsNotFor.station other.station g.to a.station z
not_for lens spot other Stand.Gone d g a z l = absurd g

-- and each has a name
opening_named : (adp station out_len in_len start index : ℕ) (again : Bool) (step : BringStep) → (let up : BringUp = record { adp = adp; station = station; out_len = out_len; in_len = in_len; start = start; again = again; step = step } in IsNamed (head_of up index).command)
opening_named adp station out_len in_len start index again Return = tt
opening_named adp station out_len in_len start index again Watch = tt
opening_named adp station out_len in_len start index again Address = tt
opening_named adp station out_len in_len start index again OutOff = tt
opening_named adp station out_len in_len start index again InOff = tt
opening_named adp station out_len in_len start index again OutManager = tt
opening_named adp station out_len in_len start index again InManager = tt
opening_named adp station out_len in_len start index again Start = tt
opening_named adp station out_len in_len start index again Await = tt

command_named : (c : Command) → (c ≡ Fprd) ⊎ (c ≡ Fpwr) → IsNamed c
command_named c (inl e) = subst IsNamed (sym e) tt
command_named c (inr e) = subst IsNamed (sym e) tt

pub gram_named : (lens : ℕ → Lens) (spot : Spot) (stand : Stand) (d : Raw.Datagram) → GramFor lens spot stand d → IsNamed d.head.command
gram_named lens spot (Stand.Opens o) d g =
    let up = g.up in
    subst (λ (z : Raw.Datagram). IsNamed z.head.command) (sym g.is) (opening_named up.adp up.station up.out_len up.in_len up.start g.index up.again up.step)
gram_named lens spot Stand.Open d g = command_named d.head.command g.to.command
gram_named lens spot Stand.Gone d g = absurd g

-- WHAT IS SEEN OF A SLAVE'S OWN DATAGRAMS
place_never : (station adp : ℕ) → is_for station (place_of adp) ≡ false
place_never station adp = go (adp == 0) (nat_le 32768 adp)
  where
    go : (a b : Bool) → is_for station (if a then Slaves.Address.Place 0 else if b then Slaves.Address.Place (65536 - adp) else Slaves.Address.Passed) ≡ false
    go true b = refl
    go false true = refl
    go false false = refl

to_station : (station : ℕ) (c : Command) (adp : ℕ) → (c ≡ Fprd) ⊎ (c ≡ Fpwr) → is_for station (address_of c adp) ≡ (adp == station)
to_station station c adp (inl e) = ap (λ z. is_for station (address_of z adp)) e
to_station station c adp (inr e) = ap (λ z. is_for station (address_of z adp)) e

to_place : (station : ℕ) (c : Command) (adp : ℕ) → (c ≡ Aprd) ⊎ (c ≡ Apwr) → is_for station (address_of c adp) ≡ false
to_place station c adp (inl e) = ap (λ z. is_for station (address_of z adp)) e ∙ place_never station adp
to_place station c adp (inr e) = ap (λ z. is_for station (address_of z adp)) e ∙ place_never station adp

pub not_own : (lens : ℕ → Lens) (spot : Spot) (d : Raw.Datagram) → IsNotFor spot d → is_for spot.station (datagram_seen lens d).address ≡ false
not_own lens spot d (IsNotFor.station other b e z) = to_station spot.station d.head.command d.head.adp b.command ∙ ap (λ n. n == spot.station) b.adp ∙ e
not_own lens spot d (IsNotFor.place other b e l) = to_place spot.station d.head.command d.head.adp b.command

gram_to_station : (station : ℕ) (c : Command) (adp : ℕ) → (c ≡ Fprd) ⊎ (c ≡ Fpwr) → (station_of c adp == station) ≡ (adp == station)
gram_to_station station c adp (inl e) = ap (λ z. station_of z adp == station) e
gram_to_station station c adp (inr e) = ap (λ z. station_of z adp == station) e

gram_to_place : (station : ℕ) (c : Command) (adp : ℕ) → (c ≡ Aprd) ⊎ (c ≡ Apwr) → (station_of c adp == station) ≡ (0 == station)
gram_to_place station c adp (inl e) = ap (λ z. station_of z adp == station) e
gram_to_place station c adp (inr e) = ap (λ z. station_of z adp == station) e

pub not_gram : (lens : ℕ → Lens) (spot : Spot) (d : Raw.Datagram) → (0 == spot.station) ≡ false → IsNotFor spot d → ((datagram_seen lens d).gram.station == spot.station) ≡ false
not_gram lens spot d n (IsNotFor.station other b e z) = gram_to_station spot.station d.head.command d.head.adp b.command ∙ ap (λ m. m == spot.station) b.adp ∙ e
not_gram lens spot d n (IsNotFor.place other b e l) = gram_to_place spot.station d.head.command d.head.adp b.command ∙ n

pub own_behind : (lens : ℕ → Lens) (spot : Spot) (ds es : List Raw.Datagram) → AllNotFor spot ds → own spot.station (datagrams_seen lens (ds ++ es)) ≡ own spot.station (datagrams_seen lens es)
own_behind lens spot [] es n = refl
own_behind lens spot (d ∷ ds) es n =
    ap (λ (z : Bool). if z then datagram_seen lens d ∷ own spot.station (datagrams_seen lens (ds ++ es)) else own spot.station (datagrams_seen lens (ds ++ es))) (not_own lens spot d n.0) ∙ own_behind lens spot ds es n.1

pub own_none : (lens : ℕ → Lens) (spot : Spot) (ds : List Raw.Datagram) → AllNotFor spot ds → own spot.station (datagrams_seen lens ds) ≡ []
own_none lens spot [] n = refl
own_none lens spot (d ∷ ds) n =
    ap (λ (z : Bool). if z then datagram_seen lens d ∷ own spot.station (datagrams_seen lens ds) else own spot.station (datagrams_seen lens ds)) (not_own lens spot d n.0) ∙ own_none lens spot ds n.1

pub own_one : (lens : ℕ → Lens) (spot : Spot) (at : ℕ) (d : Raw.Datagram) (ds : List Raw.Datagram) → HasOne spot at d ds → is_for spot.station (datagram_seen lens d).address ≡ true → own spot.station (datagrams_seen lens ds) ≡ datagram_seen lens d ∷ []
own_one lens spot at d ds h e =
    ap (λ z. own spot.station (datagrams_seen lens z)) h.split ∙ own_behind lens spot h.front (d ∷ h.behind) h.before
    ∙ ap (λ (z : Bool). if z then datagram_seen lens d ∷ own spot.station (datagrams_seen lens h.behind) else own spot.station (datagrams_seen lens h.behind)) e
    ∙ ap (λ z. datagram_seen lens d ∷ z) (own_none lens spot h.behind h.after)
