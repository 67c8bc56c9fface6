-- WHAT A FRAME TELLS TO WHO ASKED, of the slave at a place: by its life alone, and nothing where the frame left it out.
use Rattle.std.proofs.Common.{◌≡◌, ◌≤◌, ℕ, zero, suc, Bool, true, false, Option, Some, None, List, [], ◌∷◌, ◌++◌, length, map, refl, sym, ap, ◌∙◌, append-nil, length-append, arith}
use Rattle.std.specs.Prelude.{◌&&◌, cond, nat_lt, if◌then◌else◌, is_some, filter, slice_get, Ok, Err}
use Rattle.std.proofs.lemmas.Bool.{le-ltb, lt-ltb}
use Rattle.run_record.proofs.of_served_places.Unread.{unread_accepted, unread_passing}
use Rattle.run_record.specs.of_life_runs.Served.{Serves, ServedTurn, IsServedTurn, gives_it, served_behind}
use Rattle.run_record.specs.of_life_runs.Told.{Passed, replies_in}
use Rattle.run_record.proofs.of_master_node.Counts.{lost_gave}
use Rattle.run_record.specs.of_master_node.Begins.{begun_of as began_of}
use Rattle.run_record.specs.of_master_node.Besides.{given_told}
use Rattle.run_record.specs.of_master_node.Events.{begun_told, origin_for}
use Rattle.run_record.specs.of_master_node.Gateways.{done_told, gateway_of, is_gateway, life_told, lives_told, replies_told}
use Rattle.run_record.specs.of_master_node.Lifetold.{lost_told, told_at}
use Rattle.run_record.specs.of_master_node.Listing.{told_in}
use Rattle.run_record.specs.of_master_node.Named.{is_left}
use Rattle.run_record.specs.of_master_node.Serving.{run_turn}
use Rattle.run_record.specs.of_master_node.declared.event.Event.{Event}
use Rattle.run_record.specs.of_master_node.declared.event.Event.TheVariants as events
use Rattle.run_record.specs.of_master_node.declared.event.Origin.{Origin}
use Rattle.run_record.specs.of_datagrams.Datagram as Raw
use Rattle.run_record.specs.of_datagrams.Frame.{IsFrame, chained}
use Rattle.run_record.specs.of_frame_view.Seen.{seen}
use Rattle.run_record.specs.of_frame_view.View.{Lens}
use Rattle.run_record.specs.of_frame_view.Shares.{given_where}
use Rattle.run_record.specs.of_exchange_model.Exchange.{Speech}
use Rattle.run_record.specs.of_life_model.Lives.{Life, Spot, Stand, gives_up, life_lost}
use Rattle.run_record.specs.of_life_runs.Led.{Exchanged, speech_at}
use Rattle.run_record.specs.of_link_mails.Body.{Body}
use Rattle.run_record.specs.of_master_duty.Reply.{Reply}
use Rattle.run_record.specs.of_state_model.Stated.{Service}
use Rattle.run_record.specs.of_master_hand.Spoken.{Asked, acknowledged, is_followed, is_passed}
use Rattle.run_record.specs.of_master_side.Passing.{news_lost}
use Rattle.run_record.specs.of_master_tour.Brings.{accepted_in}
use Rattle.run_record.specs.of_master_tour.Made.{is_in}
use Rattle.run_record.specs.of_master_tour.Stands.{is_open, is_opening, turned_by}
use Rattle.run_record.specs.of_segment_model.Ends.{Passing}
use Rattle.run_record.specs.of_segment_model.Record.{News}
use Rattle.run_record.specs.of_segment_model.Returned.{Returns}
use Rattle.run_record.specs.of_segment_model.Slaves.{Datagram}
use Rattle.run_record.specs.of_segment_ring.declared.wire.Fate.{Fate}
use Rattle.run_record.specs.of_segment_ring.declared.wire.Fate.TheVariants.{Pass, Lost}
use Rattle.run_record.specs.Served.{told_behind}
use Rattle.gateway_run.specs.Account.{left_by, left_by_all, owed_by, owed_by_all}
use Rattle.gateway_run.specs.Rooms.{done_by, done_by_all, given_by}
use Rattle.gateway_run.specs.declared.desk.Request.{Request}
use Rattle.gateway_run.proofs.Places.{told_where}
use Rattle.gateway_run.proofs.Rooms.{IsOwnKey}
use Rattle.gateway_run.proofs.Views.{AreOf, given_both, owed_is}

-- AN EVENT OF WHICH NO ASKER GETS TO KNOW leaves each request, owes nothing and ends no row
quiet_left : (e : Event) (rs : List Request) → is_gateway e ≡ false → left_by e rs ≡ rs
quiet_left (events.Began slave origin) rs n = absurd (cc)
quiet_left (events.GivenUp slave) rs n = absurd (cc)
quiet_left (events.GatewayReply key mail) rs n = absurd (cc)
quiet_left (events.GatewayDone key) rs n = absurd (cc)
quiet_left (events.Answered slave kind) rs n = refl
quiet_left (events.Emergency slave octets) rs n = refl
quiet_left (events.Cleared slave own) rs n = refl
quiet_left (events.Opened slave) rs n = refl

quiet_owed : (e : Event) (rs : List Request) → is_gateway e ≡ false → owed_by e rs ≡ []
quiet_owed (events.Began slave origin) rs n = absurd (cc)
quiet_owed (events.GivenUp slave) rs n = absurd (cc)
quiet_owed (events.GatewayReply key mail) rs n = absurd (cc)
quiet_owed (events.GatewayDone key) rs n = absurd (cc)
quiet_owed (events.Answered slave kind) rs n = refl
quiet_owed (events.Emergency slave octets) rs n = refl
quiet_owed (events.Cleared slave own) rs n = refl
quiet_owed (events.Opened slave) rs n = refl

quiet_done : (e : Event) (rs : List Request) → is_gateway e ≡ false → done_by e rs ≡ []
quiet_done (events.Began slave origin) rs n = absurd (cc)
quiet_done (events.GivenUp slave) rs n = absurd (cc)
quiet_done (events.GatewayReply key mail) rs n = absurd (cc)
quiet_done (events.GatewayDone key) rs n = absurd (cc)
quiet_done (events.Answered slave kind) rs n = refl
quiet_done (events.Emergency slave octets) rs n = refl
quiet_done (events.Cleared slave own) rs n = refl
quiet_done (events.Opened slave) rs n = refl

-- so of all events only those count
pub known_left : (es : List Event) (rs : List Request) → left_by_all es rs ≡ left_by_all (filter is_gateway es) rs
known_left [] rs = refl
known_left (e ∷ es) rs = go (is_gateway e) refl (λ qs. known_left es qs)
  where
    go : (b : Bool) → is_gateway e ≡ b → ((qs : List Request) → left_by_all es qs ≡ left_by_all (filter is_gateway es) qs) → left_by_all es (left_by e rs) ≡ left_by_all (cond b (e ∷ filter is_gateway es) (filter is_gateway es)) rs
    go true k on = on (left_by e rs)
    go false k on = ap (left_by_all es) (quiet_left e rs k) ∙ on rs

module _ {X : Type 0} (gives : Event → List Request → List X) (quiet : (e : Event) (rs : List Request) → is_gateway e ≡ false → gives e rs ≡ []) where
  known_given : (es : List Event) (rs : List Request) → given_by gives es rs ≡ given_by gives (filter is_gateway es) rs
  known_given [] rs = refl
  known_given (e ∷ es) rs = go (is_gateway e) refl (λ qs. known_given es qs)
    where
      go : (b : Bool) → is_gateway e ≡ b → ((qs : List Request) → given_by gives es qs ≡ given_by gives (filter is_gateway es) qs) → gives e rs ++ given_by gives es (left_by e rs) ≡ given_by gives (cond b (e ∷ filter is_gateway es) (filter is_gateway es)) rs
      go true k on = ap (λ (l : List X). gives e rs ++ l) (on (left_by e rs))
      go false k on = (λ i. quiet e rs k i ++ given_by gives es (quiet_left e rs k i)) ∙ on rs

pub known_owed : (es : List Event) (rs : List Request) → owed_by_all es rs ≡ owed_by_all (filter is_gateway es) rs
known_owed es rs = owed_is es rs ∙ known_given owed_by quiet_owed es rs ∙ sym (owed_is (filter is_gateway es) rs)

pub known_done : (es : List Event) (rs : List Request) → done_by_all es rs ≡ done_by_all (filter is_gateway es) rs
known_done es rs = known_given done_by quiet_done es rs

-- WHAT COMES INTO HAND owes nothing and ends no row
module _ {X : Type 0} (gives : Event → List Request → List X) (none : (slave : ℕ) (o : Origin) (rs : List Request) → gives (events.Began slave o) rs ≡ []) where
  began_gives : (place number forwards oldest : ℕ) (b : Option (Service Asked)) (rs : List Request) → given_by gives (begun_told place number forwards oldest b) rs ≡ []
  began_gives place number forwards oldest None rs = refl
  began_gives place number forwards oldest (Some s) rs = append-nil (gives (events.Began place (origin_for number forwards oldest s)) rs) ∙ none place (origin_for number forwards oldest s) rs

  pub begins_give : (numbers forwards oldest : ℕ → ℕ) (begun : ℕ → Option (Service Asked)) (ps : List ℕ) (rs : List Request) → given_by gives (told_in (λ k. begun_told k (numbers k) (forwards k) (oldest k) (begun k)) ps) rs ≡ []
  begins_give numbers forwards oldest begun [] rs = refl
  begins_give numbers forwards oldest begun (p ∷ ps) rs =
      given_both gives (begun_told p (numbers p) (forwards p) (oldest p) (begun p)) (told_in (λ k. begun_told k (numbers k) (forwards k) (oldest k) (begun k)) ps) rs
      ∙ (λ i. began_gives p (numbers p) (forwards p) (oldest p) (begun p) rs i ++ begins_give numbers forwards oldest begun ps (left_by_all (begun_told p (numbers p) (forwards p) (oldest p) (begun p)) rs) i)

pub began_owes : (slave : ℕ) (o : Origin) (rs : List Request) → owed_by (events.Began slave o) rs ≡ []
began_owes slave o rs = refl

pub began_ends : (slave : ℕ) (o : Origin) (rs : List Request) → done_by (events.Began slave o) rs ≡ []
began_ends slave o rs = refl

-- EACH IS TOLD OF ITS OWN SLAVE
pub begun_own : (k number forwards oldest : ℕ) (b : Option (Service Asked)) (rs : List Request) → AreOf k rs (begun_told k number forwards oldest b)
begun_own k number forwards oldest None rs = tt
begun_own k number forwards oldest (Some s) rs = (refl, tt)

module _ (j key : ℕ) (rs : List Request) (own : IsOwnKey j key rs) where
  replies_own : (bs : List Body) → AreOf j rs (replies_told key bs)
  replies_own [] = tt
  replies_own (Ok m ∷ bs) = (own, replies_own bs)
  replies_own (Err fault ∷ bs) = replies_own bs

  done_own : (was goes : Bool) → AreOf j rs (done_told key was goes)
  done_own true true = tt
  done_own true false = (own, tt)
  done_own false goes = tt

own_append : (j : ℕ) (es fs : List Event) (rs : List Request) → AreOf j rs es → AreOf j rs fs → AreOf j rs (es ++ fs)
own_append j [] fs rs a b = b
own_append j (e ∷ es) fs rs a b = (a.0, own_append j es fs rs a.1 b)

life_own : (j : ℕ) (hand : Option Passed) (ms : List Body) (l m : Life Body Asked Reply) (rs : List Request) → ((p : Passed) → hand ≡ Some p → (x : Passing) → l.era.passing ≡ Some x → IsOwnKey j p.key rs) → AreOf j rs (life_told hand ms l m)
life_own j None ms l m rs h = tt
life_own j (Some p) ms l m rs h = go (is_left l.stand) l.era.passing refl
  where
    go : (b : Bool) (o : Option Passing) → l.era.passing ≡ o → AreOf j rs (if b then [] else replies_told p.key (replies_in o ms) ++ done_told p.key (is_some o) (is_some m.era.passing))
    go true o e = tt
    go false None e = tt
    go false (Some x) e =
        let own = h p refl x e in
        own_append j (replies_told p.key (replies_in (Some x) ms)) (done_told p.key true (is_some m.era.passing)) rs (replies_own j p.key rs own (replies_in (Some x) ms)) (done_own j p.key rs own true (is_some m.era.passing))

-- AT A PLACE
pub begun_at : (vs : List ServedTurn) (k : ℕ) (v : ServedTurn) → slice_get vs k ≡ Some v → began_of (map run_turn vs) k ≡ v.turn.begun
begun_at [] k v e = absurd (cc)
begun_at (u ∷ vs) zero v e = ap (λ (z : ServedTurn). z.turn.begun) (let same : u ≡ v = cc in same)
begun_at (u ∷ vs) (suc k) v e = begun_at vs k v e

told_here : (tells : ServedTurn → Serves → List Event) (g : ServedTurn → Serves) (vs : List ServedTurn) (k : ℕ) (v : ServedTurn) → slice_get vs k ≡ Some v → told_at tells vs (map g vs) k ≡ tells v (g v)
told_here tells g [] k v e = absurd (cc)
told_here tells g (u ∷ vs) zero v e = ap (λ z. tells z (g z)) (let same : u ≡ v = cc in same)
told_here tells g (u ∷ vs) (suc k) v e = told_here tells g vs k v e

told_beyond : (tells : ServedTurn → Serves → List Event) (g : ServedTurn → Serves) (vs : List ServedTurn) (k : ℕ) → slice_get vs k ≡ None → told_at tells vs (map g vs) k ≡ []
told_beyond tells g [] k e = refl
told_beyond tells g (u ∷ vs) zero e = absurd (cc)
told_beyond tells g (u ∷ vs) (suc k) e = told_beyond tells g vs k e

lives_are : (back : List (Datagram Body)) (vs : List ServedTurn) (ws : List Serves) (k : ℕ) → lives_told back vs ws k ≡ told_at (gateway_of back) vs ws k
lives_are back [] ws k = refl
lives_are back (v ∷ vs) [] k = refl
lives_are back (v ∷ vs) (w ∷ ws) zero = refl
lives_are back (v ∷ vs) (w ∷ ws) (suc k) = lives_are back vs ws k

-- where nothing is told of one that was left out, all that is told of a slave is told
pub where_all : (tells : ℕ → List Event) (i : ℕ) (ps : List ℕ) → (is_in i ps ≡ false → tells i ≡ []) → told_where tells i ps ≡ tells i
where_all tells i ps h = go (is_in i ps) refl
  where
    go : (b : Bool) → is_in i ps ≡ b → (if b then tells i else []) ≡ tells i
    go true e = refl
    go false e = sym (h e)

-- A LOST FRAME tells that the slave was given up, where it was
module _ (x : Speech Body Asked Reply) (recover made place : ℕ) (spot : Spot) (ns : List (News Body)) (sent : List (Datagram Body)) (l : Life Body Asked Reply) where
  abbrev lost : Stand → Life Body Asked Reply
  lost stand = life_lost x acknowledged is_followed is_passed spot ns sent l stand

  lost_past : (stand : Stand) → (lost stand).past ≡ l.past
  lost_past (Stand.Opens o) = refl
  lost_past Stand.Open = refl
  lost_past Stand.Gone = refl

  same_gave : (stand : Stand) → (lost stand).gave ≡ l.gave
  same_gave stand = lost_gave x acknowledged is_followed is_passed recover spot l ns sent stand

  not_given : (b : Bool) → given_told place (turned_by false false b) ≡ []
  not_given true = refl
  not_given false = refl

  given_is : (given : Bool) (stand : Stand) → lost_told place l (given_where given recover spot made (lost stand)) ≡ (if given then events.GivenUp place ∷ [] else [])
  given_is true stand =
      let long = length-append l.gave (made ∷ []) in
      let more : nat_lt (length l.gave) (length ((lost stand).gave ++ made ∷ [])) ≡ true =
      ap (λ (g : List ℕ). nat_lt (length l.gave) (length (g ++ made ∷ []))) (same_gave stand) ∙ lt-ltb (length l.gave) (length (l.gave ++ made ∷ [])) (omega (arith, long)) in
      ap (λ z. given_told place (turned_by z (nat_lt (length l.past) (length (gives_up recover spot made (lost stand)).past)) (is_opening l.stand && is_open (gives_up recover spot made (lost stand)).stand))) more
  given_is false stand =
      let same : nat_lt (length l.gave) (length (lost stand).gave) ≡ false = ap (λ (g : List ℕ). nat_lt (length l.gave) (length g)) (same_gave stand) ∙ le-ltb (length l.gave) (length l.gave) (omega arith) in
      let past : nat_lt (length l.past) (length (lost stand).past) ≡ false = ap (λ z. nat_lt (length l.past) (length z)) (lost_past stand) ∙ le-ltb (length l.past) (length l.past) (omega arith) in
      (λ i. given_told place (turned_by (same i) (past i) (is_opening l.stand && is_open (lost stand).stand))) ∙ not_given (is_opening l.stand && is_open (lost stand).stand)

-- where no mail was accepted and the mail in hand is where it was nothing is told
quiet_told : (hand : Option Passed) (ms : List Body) (l m : Life Body Asked Reply) → ms ≡ [] → m.era.passing ≡ l.era.passing → life_told hand ms l m ≡ []
quiet_told None ms l m none same = refl
quiet_told (Some p) ms l m none same = go (is_left l.stand)
  where
    nothing : (o : Option Passing) → replies_told p.key (replies_in o []) ++ done_told p.key (is_some o) (is_some o) ≡ []
    nothing None = refl
    nothing (Some x) = refl

    go : (b : Bool) → (if b then [] else replies_told p.key (replies_in l.era.passing ms) ++ done_told p.key (is_some l.era.passing) (is_some m.era.passing)) ≡ []
    go true = refl
    go false = (λ i. replies_told p.key (replies_in l.era.passing (none i)) ++ done_told p.key (is_some l.era.passing) (is_some (same i))) ∙ nothing l.era.passing

-- WHAT A FRAME OF EITHER FATE TELLS
module _ (lens : ℕ → Lens) (recover retry : ℕ) (gives : Bool) (made : ℕ) (sent back : List ℕ) where
  abbrev pub frame_so : Fate → Exchanged
  frame_so fate = record { sent = sent; fate = fate; back = back }

  abbrev pub goes_so : Fate → ServedTurn → Serves
  goes_so fate v = served_behind lens recover retry gives made (frame_so fate) v

  -- of one slave
  abbrev pub shown : Fate → ℕ → ServedTurn → List Event
  shown Pass k v = life_told v.hand (accepted_in v.turn.lived.spot v.turn.lived.life (seen lens back)) v.turn.lived.life (goes_so Pass v).lead.lived.life
  shown (Lost after) k v = if gives_it lens recover retry gives (Lost after) v then events.GivenUp k ∷ [] else []

  -- of the one that the frame left out nothing
  pub shown_none : (fate : Fate) (ds : List Raw.Datagram) (w : Serves) (v : ServedTurn) → IsFrame sent (chained ds) → IsServedTurn lens made ds w v → (fate ≡ Pass → Returns (seen lens sent) (seen lens back)) → 1 ≤ w.lead.lived.spot.station →
      v.turn.share.under ≡ false → (k : ℕ) → shown fate k v ≡ []
  shown_none Pass ds w v is t r some still k =
      quiet_told v.hand (accepted_in v.turn.lived.spot v.turn.lived.life (seen lens back)) v.turn.lived.life (goes_so Pass v).lead.lived.life
      (unread_accepted lens recover retry gives made ds (frame_so Pass) w v is t (r refl) some still) (unread_passing lens recover retry gives made ds (frame_so Pass) w v is t (r refl) some still)
  shown_none (Lost after) ds w v is t r some still k = ap (λ z. if z then events.GivenUp k ∷ [] else []) (ap (λ z. gives && z) still ∙ never gives)
    where
      never : (b : Bool) → (b && false) ≡ false
      never true = refl
      never false = refl

  -- and each is told of its slave, where the key of the mail in hand is that slave's alone
  pub shown_own : (fate : Fate) (k : ℕ) (v : ServedTurn) (rs : List Request) → ((p : Passed) → v.hand ≡ Some p → (x : Passing) → v.turn.lived.life.era.passing ≡ Some x → IsOwnKey k p.key rs) → AreOf k rs (shown fate k v)
  shown_own Pass k v rs h = life_own k v.hand (accepted_in v.turn.lived.spot v.turn.lived.life (seen lens back)) v.turn.lived.life (goes_so Pass v).lead.lived.life rs h
  shown_own (Lost after) k v rs h = go (gives_it lens recover retry gives (Lost after) v)
    where
      go : (b : Bool) → AreOf k rs (if b then events.GivenUp k ∷ [] else [])
      go true = (refl, tt)
      go false = tt

  -- of all, by places
  module _ (vs : List ServedTurn) where
    abbrev pub shows : Fate → ℕ → List Event
    shows fate k = told_behind lens (frame_so fate) fate vs (map (goes_so fate) vs) k

    pub shows_at : (fate : Fate) (k : ℕ) (v : ServedTurn) → slice_get vs k ≡ Some v → shows fate k ≡ shown fate k v
    shows_at Pass k v e = lives_are (seen lens back) vs (map (goes_so Pass) vs) k ∙ told_here (gateway_of (seen lens back)) (goes_so Pass) vs k v e
    shows_at (Lost after) k v e =
        told_here (λ u w. lost_told k u.turn.lived.life w.lead.lived.life) (goes_so (Lost after)) vs k v e
        ∙ given_is (speech_at lens v.turn.lived.spot) recover made k v.turn.lived.spot (news_lost v.turn.lived.spot.station v.kept (seen lens sent)) (seen lens sent) v.turn.lived.life (gives && v.turn.share.under) v.turn.lived.life.stand

    pub shows_beyond : (fate : Fate) (k : ℕ) → slice_get vs k ≡ None → shows fate k ≡ []
    shows_beyond Pass k e = lives_are (seen lens back) vs (map (goes_so Pass) vs) k ∙ told_beyond (gateway_of (seen lens back)) (goes_so Pass) vs k e
    shows_beyond (Lost after) k e = told_beyond (λ u w. lost_told k u.turn.lived.life w.lead.lived.life) (goes_so (Lost after)) vs k e
