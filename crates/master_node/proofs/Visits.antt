-- A VISIT: what comes into hand of one slave, and what stays of all others.
use Rattle.std.proofs.Common.{◌≡◌, ◌<◌, ℕ, suc, Bool, true, false, Option, Some, None, List, [], refl, sym, ap, ◌∙◌, subst, arith, length}
use Rattle.std.specs.Prelude.{is_some, slice_get, map, IfSome, if◌then◌else◌}
use Rattle.life_runs.specs.of_frame_view.View.{Lens}
use Rattle.life_runs.specs.of_frame_view.Shares.{Lived, AllFrom, AreDistinct}
use Rattle.life_runs.specs.of_master_duty.Reply.{Reply}
use Rattle.life_runs.specs.Led.{Leads, Comes}
use Rattle.life_runs.specs.of_master_hand.Laying.{Scripted, scripted, scripted_behind, ready_of}
use Rattle.life_runs.specs.of_master_hand.Spoken.{Asked, is_passed}
use Rattle.life_runs.specs.of_master_hand.declared.hand.InHand.{InHand}
use Rattle.life_runs.specs.of_master_side.Shown.{wish_begun, takes_ready}
use Rattle.life_runs.specs.of_master_side.declared.carried.Target.{Target}
use Rattle.life_runs.specs.of_master_side.declared.carried.Wish.{Wish}
use Rattle.life_runs.specs.of_master_side.declared.hand.Hand.{Ghosts}
use Rattle.life_runs.specs.of_master_tour.Made.{ComesAt, FrameMade, is_in}
use Rattle.life_runs.specs.of_master_tour.Walks.{EachPair, StepsAt}
use Rattle.life_runs.specs.of_master_tour.declared.stop.Stop.{Stop}
use Rattle.life_runs.specs.of_segment_plan.declared.service.Service as Plan
use Rattle.life_runs.specs.of_state_model.Stated.{Service}
use Rattle.master_node.specs.Begins.{LaysOldest, PacketFirst, begins_by, begins_other, taken_where}
use Rattle.master_node.specs.Coming.{IsComing, IsLaid, PassesBy, CameBy, next_of, wish_of}
use Rattle.master_node.specs.Filling.{IsAmong, StopFills}
use Rattle.master_node.specs.Forwards.{forwarded, port_by}
use Rattle.master_node.specs.Kept.{StopKept, StopStays}
use Rattle.master_node.specs.Origins.{IsFrom}
use Rattle.master_node.specs.Shows.{lived_of}
use Rattle.master_node.specs.declared.coming.Coming.{Coming}
use Rattle.master_node.specs.declared.event.Origin.{Origin}
use Rattle.master_node.specs.declared.lan.Lan.{Lan}
use Rattle.master_node.proofs.Begins.{leaves_here, none_waits, spot_at, spot_here, steps_any}
use Rattle.master_node.proofs.Cames.{NumberBehind, came_by, ready_unpassed, got_inside}
use Rattle.master_node.proofs.Fills.{from_each, frame_each, fills_kept, begun_at, begun_here, begun_comes, among_step}
use Rattle.master_node.proofs.Kepts.{stop_same}
use Rattle.master_node.proofs.Listing.{Came, came_so}
use Rattle.master_node.proofs.Lists.{steps_map, steps_trans, steps_mid, steps_some, steps_got, steps_each}

-- a slave of which the frame's room is asked
pub record Fitted {G : Ghosts InHand} (s t : Stop InHand G) : Type 0 where
  pub place : t.place ≡ s.place
  pub passing : t.side.passing ≡ s.side.passing
  pub script : scripted t.side.hand.laying ≡ scripted s.side.hand.laying
  pub out : t.side.out.len ≡ s.side.out.len

-- and one that is visited
pub record Began {G : Ghosts InHand} (result : Bool) (wish : Option Wish) (s t : Stop InHand G) : Type 0 where
  pub place : t.place ≡ s.place
  pub out : t.side.out.len ≡ s.side.out.len
  pub ready : takes_ready result wish ≡ true → is_some (ready_of s.side.hand.laying) ≡ true
  pub script : scripted t.side.hand.laying ≡ (if takes_ready result wish then scripted_behind s.side.hand.laying else scripted s.side.hand.laying)
  pub unpassed : s.side.passing ≡ None → (takes_ready result wish ≡ true → (q : Asked) → ready_of s.side.hand.laying ≡ Some q → is_passed q ≡ false) → t.side.passing ≡ None

-- it has something laid ready, and is where it was
pub record Laid {G : Ghosts InHand} (coming : Option Coming) (s t : Stop InHand G) : Type 0 where
  pub comes : IsComing (next_of t) coming
  pub laid : IsLaid coming t.side.hand.laying.laid
  pub fitted : Fitted s t

-- it stays but for the number of its script's next service
pub record SomeKept {G : Ghosts InHand} (s t : Stop InHand G) : Type 0 where
  pub number : ℕ
  pub kept : StopKept number s t

-- what is known of a slave at its visit
pub record Visited {G : Ghosts InHand} (coming : Option Coming) (result : Bool) (got : Option (Stop InHand G)) (s t : Stop InHand G) : Type 0 where
  pub is : got ≡ Some s
  pub comes : IsComing (next_of s) coming
  pub laid : IsLaid coming s.side.hand.laying.laid
  pub began : Began result (wish_of coming) s t

-- and of all that
pub record Goes {G : Ghosts InHand} (coming : Option Coming) (result : Bool) (got : Option (Stop InHand G)) (s v : Stop InHand G) : Type 0 where
  pub second : Stop InHand G
  pub third : Stop InHand G
  pub laid : Laid coming s second
  pub visited : Visited coming result got second third
  pub came : CameBy result coming third v
  pub kept : SomeKept third v

record Behind {G : Ghosts InHand} (coming : Option Coming) (result : Bool) (got : Option (Stop InHand G)) (s v : Stop InHand G) : Type 0 where
  third : Stop InHand G
  visited : Visited coming result got s third
  came : CameBy result coming third v

module _ {G : Ghosts InHand} (coming : Option Coming) (result : Bool) (place : ℕ) (s0 s1 s2 s3 s4 : List (Stop InHand G)) (rooms : (s : Stop InHand G) → s.side.out.len ≡ s.side.hand.laying.areas.out) (comings : IfSome (slice_get s0 place) (λ s. IsComing (next_of s) coming))
    (fitted : StepsAt (λ s t. Fitted s t) place s0 s1) (laid : StepsAt (λ s t. StopStays s t × IsLaid coming t.side.hand.laying.laid) place s1 s2) (began : StepsAt (λ s t. Began result (wish_of coming) s t) place s2 s3) (came : StepsAt (λ s t. CameBy result coming s t) place s3 s4) where
  -- what came into hand, and where
  abbrev came_of : Option (Stop InHand G) → Option (Service Asked)
  came_of None = None
  came_of (Some s) = wish_begun result (wish_of coming) (ready_of s.side.hand.laying)

  abbrev place_of : Option (Stop InHand G) → ℕ
  place_of None = 0
  place_of (Some s) = s.place

  abbrev pub here : ℕ
  here = place_of (slice_get s2 place)

  abbrev pub what : Option (Service Asked)
  what = came_of (slice_get s2 place)

  pub what_is : (t : Stop InHand G) → slice_get s2 place ≡ Some t → wish_begun result (wish_of coming) (ready_of t.side.hand.laying) ≡ what
  what_is t e = ap came_of (sym e)

  abbrev pub now : (ℕ → Option (Service Asked)) → ℕ → Option (Service Asked)
  now begun = begun_at begun here what

  some_comes : (begun : ℕ → Option (Service Asked)) (o : Option (Stop InHand G)) → IfSome o (λ s. ComesAt begun (begun_at begun (place_of o) (came_of o)) s.place (wish_begun result (wish_of coming) (ready_of s.side.hand.laying)))
  some_comes begun None = tt
  some_comes begun (Some s) = begun_comes begun s.place (came_of (Some s))

  pub comes : (begun : ℕ → Option (Service Asked)) → IfSome (slice_get s2 place) (λ s. ComesAt begun (now begun) s.place (wish_begun result (wish_of coming) (ready_of s.side.hand.laying)))
  comes begun = some_comes begun (slice_get s2 place)

  -- one step after the other
  is_laid : (s t u : Stop InHand G) → IsComing (next_of s) coming × Fitted s t → StopStays t u × IsLaid coming u.side.hand.laying.laid → Laid coming s u
  is_laid s t u a b =
      let same : scripted u.side.hand.laying ≡ scripted s.side.hand.laying = (λ i. record { script = b.0.side.script i; number = b.0.side.number i }) ∙ a.1.script in
      record {
        comes = subst (λ (z : Scripted). IsComing (slice_get z.script z.number) coming) (sym same) a.0;
        laid = b.1;
        fitted = record {
          place = b.0.place ∙ a.1.place;
          passing = b.0.side.passing ∙ a.1.passing;
          script = same;
          out = ap (λ z. z.len) b.0.side.side.out_is ∙ a.1.out;
        };
      }

  all_laid : StepsAt (λ s u. Laid coming s u) place s0 s2
  all_laid = steps_trans _ _ (λ s u. Laid coming s u) place s0 s1 s2 (λ s t u a b. is_laid s t u a b) (steps_some (λ s. IsComing (next_of s) coming) (λ s t. Fitted s t) place s0 s1 fitted comings) laid

  all_visited : StepsAt (λ s t. Visited coming result (slice_get s2 place) s t) place s2 s3
  all_visited = steps_mid (λ s u. Laid coming s u) _ (λ s t. Visited coming result (slice_get s2 place) s t) place s0 s2 s3 (λ s t u a b. record { is = b.0; comes = a.comes; laid = a.laid; began = b.1 }) all_laid (steps_got (λ s t. Began result (wish_of coming) s t) place s2 s3 began)

  -- the script's number behind it
  number_is : (coming : Option Coming) (result : Bool) (s t : Stop InHand G) → CameBy result coming s t → NumberBehind result coming (scripted s.side.hand.laying) t.side.hand.laying.number
  number_is coming false s t c = c.side.number
  number_is None true s t c = c.side.number
  number_is (Some Coming.Packet) true s t c = c.side.number
  number_is (Some Coming.Mail) true s t c = c.side.number
  number_is (Some Coming.Script) true s t c = c.side.number
  number_is (Some (Coming.State target)) true s t c = λ l. (c l).side.number

  kept_is : (coming : Option Coming) (result : Bool) (s t u : Stop InHand G) → IsComing (next_of s) coming → scripted t.side.hand.laying ≡ (if takes_ready result (wish_of coming) then scripted_behind s.side.hand.laying else scripted s.side.hand.laying) → CameBy result coming t u → SomeKept t u
  kept_is coming false s t u i e c = record { number = _; kept = c }
  kept_is None true s t u i e c = record { number = _; kept = c }
  kept_is (Some Coming.Packet) true s t u i e c = record { number = _; kept = c }
  kept_is (Some Coming.Mail) true s t u i e c = record { number = _; kept = c }
  kept_is (Some Coming.Script) true s t u i e c = record { number = _; kept = c }
  kept_is (Some (Coming.State target)) true s t u i e c =
      record { number = _; kept = c (subst (λ (z : Scripted). z.number < length z.script) (sym e) (got_inside s.side.hand.laying.script s.side.hand.laying.number (Plan.Service.State i.0) i.1)) }

  any_same : (s : Stop InHand G) → SomeKept s s
  any_same s = record { number = _; kept = stop_same s }

  pub kept : EachPair (λ s t. SomeKept s t) s3 s4
  kept = steps_each _ (λ s t. SomeKept s t) place s3 s4 any_same (λ s t k. k)
      (steps_mid (λ s t. Visited coming result (slice_get s2 place) s t) _ (λ s t. SomeKept s t) place s2 s3 s4 (λ s t u a b. kept_is coming result s t u a.comes a.began.script b) all_visited came)

  -- THE FRAME, where that visit goes on with it
  pub frame : (lens : ℕ → Lens) (recover made index : ℕ) (begun : ℕ → Option (Service Asked)) (left next : List ℕ) (as' : List (Lived Asked Reply)) (octets octets' : List ℕ) (n n2 n3 : ℕ) → n2 ≡ n →
      FrameMade (λ ds i a s. StopFills lens recover made begun index left ds i a s) octets n as' s1 →
      (FrameMade (λ ds i a s. StopFills lens recover made begun index left ds i a s) octets n2 as' s2 → FrameMade (λ ds i a s. StopFills lens recover made (now begun) index next ds i a s) octets' n3 as' s3) →
      FrameMade (λ ds i a s. StopFills lens recover made (now begun) index next ds i a s) octets' n3 as' s3
  frame lens recover made index begun left next as' octets octets' n n2 n3 e f v =
      v (frame_each (λ ds i a s. StopFills lens recover made begun index left ds i a s) (λ s t. StopStays s t) (λ ds i a s. StopFills lens recover made begun index left ds i a s)
      (λ ds i a s t p k. fills_kept lens recover made begun index s.side.hand.laying.number left ds i a s t k p) octets n2 as' s1 s2 (subst (λ z. FrameMade (λ ds i a s. StopFills lens recover made begun index left ds i a s) octets z as' s1) (sym e) f)
      (steps_each (λ s t. StopStays s t × IsLaid coming t.side.hand.laying.laid) (λ s t. StopStays s t) place s1 s2 (λ s. stop_same s) (λ s t k. k.0) laid))

  -- and behind it what came into hand is passed by
  pub frame_kept : (lens : ℕ → Lens) (recover made index : ℕ) (begun : ℕ → Option (Service Asked)) (next : List ℕ) (as' : List (Lived Asked Reply)) (octets : List ℕ) (n : ℕ) →
      FrameMade (λ ds i a s. StopFills lens recover made (now begun) index next ds i a s) octets n as' s3 → FrameMade (λ ds i a s. StopFills lens recover made (now begun) index next ds i a s) octets n as' s4
  frame_kept lens recover made index begun next as' octets n f =
      frame_each (λ ds i a s. StopFills lens recover made (now begun) index next ds i a s) (λ s t. SomeKept s t) (λ ds i a s. StopFills lens recover made (now begun) index next ds i a s)
      (λ ds i a s t p k. fills_kept lens recover made (now begun) index k.number next ds i a s t k.kept p) octets n as' s3 s4 f kept

  -- what came into hand of the slave that is visited
  pub now_here : (begun : ℕ → Option (Service Asked)) (t u : Stop InHand G) (spot : ℕ) → slice_get s2 place ≡ Some t → u.place ≡ t.place → u.place ≡ spot → now begun spot ≡ wish_begun result (wish_of coming) (ready_of t.side.hand.laying)
  now_here begun t u spot is p q = begun_here begun here what spot (sym q ∙ p ∙ ap place_of (sym is)) ∙ ap came_of is

  -- nothing did
  pub none_here : (t : Stop InHand G) → slice_get s2 place ≡ Some t → wish_begun result (wish_of coming) (ready_of t.side.hand.laying) ≡ None → what ≡ None
  none_here t is n = ap came_of is ∙ n

  -- THE SLAVE GOES ON
  all_go : StepsAt (λ s v. Goes coming result (slice_get s2 place) s v) place s0 s4
  all_go = steps_trans (λ s u. Laid coming s u) (λ s v. Behind coming result (slice_get s2 place) s v) (λ s v. Goes coming result (slice_get s2 place) s v) place s0 s2 s4
      (λ s t v a b. record { second = t; third = b.third; laid = a; visited = b.visited; came = b.came; kept = kept_is coming result t b.third v b.visited.comes b.visited.began.script b.came }) all_laid
      (steps_trans (λ s t. Visited coming result (slice_get s2 place) s t) (λ s t. CameBy result coming s t) (λ s v. Behind coming result (slice_get s2 place) s v) place s2 s3 s4 (λ t u v a b. record { third = u; visited = a; came = b }) all_visited came)

  all_here : StepsAt (λ s v. s.place ≡ here) place s0 s4
  all_here = steps_map (λ s v. Goes coming result (slice_get s2 place) s v) (λ s v. s.place ≡ here) place s0 s4 (λ s v g. sym g.laid.fitted.place ∙ sym (ap place_of g.visited.is)) all_go

  pub spot : (lens : ℕ → Lens) (begun : ℕ → Option (Service Asked)) (left : List ℕ) (as' : List Leads) → AllFrom (λ i a s. IsAmong lens begun left i a s) 0 as' s0 → spot_at as' place ≡ Some here
  spot lens begun left as' m = spot_here lens begun left here 0 place as' s0 s4 m all_here

  -- WHAT LEAVES THE SWITCH is what came into hand
  pub leaves : (l : Lan) → StepsAt (λ s t. LaysOldest l place coming t) place s1 s2 → taken_where result l place coming ≡ begins_by (port_by (slice_get l.ports.items place)) what
  leaves l oldest =
      let same = taken_where result l place coming ≡ begins_by (port_by (slice_get l.ports.items place)) what in
      steps_any same place s2 s3
      (steps_mid (λ s t. LaysOldest l place coming t) (λ s t. Visited coming result (slice_get s2 place) s t) (λ s t. same) place s1 s2 s3
      (λ r s t a b. leaves_here l place coming result s b.comes b.laid b.began.ready a ∙ ap (λ z. begins_by (port_by (slice_get l.ports.items place)) (came_of z)) (sym b.is)) oldest all_visited)

  -- and none waits there, where that is no packet
  pub waits_none : (l : Lan) → PacketFirst l place coming → begins_other what ≡ true → forwarded l.switch l.ports.items place ≡ []
  waits_none l first e =
      let none = forwarded l.switch l.ports.items place ≡ [] in
      steps_any none place s2 s3
      (steps_map (λ s t. Visited coming result (slice_get s2 place) s t) (λ s t. none) place s2 s3 (λ s t b. none_waits l place coming result s b.laid first (ap (λ z. begins_other (came_of z)) (sym b.is) ∙ e)) all_visited)

  -- and so it is listed
  pub told : (number forwards : ℕ) (o : Origin) → IsFrom coming number forwards o → Came place number forwards o result coming what
  told number forwards o h =
      let same = Came place number forwards o result coming what in
      steps_any same place s2 s3
      (steps_map (λ s t. Visited coming result (slice_get s2 place) s t) (λ s t. same) place s2 s3
      (λ s t b. subst (λ z. Came place number forwards o result coming (came_of z)) (sym b.is) (came_so place number forwards o coming result s b.comes b.laid b.began.ready h)) all_visited)

  pub among : (lens : ℕ → Lens) (begun : ℕ → Option (Service Asked)) (left next : List ℕ) (as' : List Leads) → ((k : ℕ) → is_in k next ≡ true → is_in k left ≡ true) → is_in place left ≡ true → is_in place next ≡ false → AreDistinct (map lived_of as') →
      AllFrom (λ i a s. IsAmong lens begun left i a s) 0 as' s0 → AllFrom (λ i a s. IsAmong lens (now begun) next i a s) 0 as' s4
  among lens begun left next as' fewer at over d m =
      among_step lens begun left next fewer (λ s v. Goes coming result (slice_get s2 place) s v) here what 0 place place as' s0 s4 (omega arith)
      (λ a s v p n g.
      let t = g.second in
      let f = g.laid.fitted in
      let z = g.visited.began in
      let k = g.kept.kept in
      let script = ap (λ w. w.script) f.script ∙ n.script in
      let number = ap (λ w. w.number) f.script ∙ n.still at in
      let room = sym (rooms t) ∙ f.out ∙ sym n.room in
      let what_is : came_of (Some t) ≡ what = ap came_of (sym g.visited.is) in
      let came = came_by coming result (lens a.lived.spot.station).out t.side.hand.laying (scripted g.third.side.hand.laying) v.side.hand.laying.number room g.visited.comes g.visited.laid z.ready z.script (number_is coming result g.third v g.came) in
      record {
        script = k.side.script ∙ script_behind coming result t g.third z.script ∙ script;
        comes = subst (λ w. Comes (lens a.lived.spot.station).out a.script a.number w v.side.hand.laying.number) (what_is ∙ sym (begun_here begun here what a.lived.spot.place p))
            (subst (λ w. Comes (lens a.lived.spot.station).out w a.number (came_of (Some t)) v.side.hand.laying.number) script (subst (λ w. Comes (lens a.lived.spot.station).out t.side.hand.laying.script w (came_of (Some t)) v.side.hand.laying.number) number came));
        still = λ e. absurd (let w = sym over ∙ e in cc);
        short = n.short;
        unpassed = k.side.passing ∙ z.unpassed (f.passing ∙ n.unpassed) (λ w q e. ready_unpassed coming result t.side.hand.laying g.visited.comes g.visited.laid w q e);
        own = n.own;
        place = k.place ∙ z.place ∙ f.place ∙ n.place;
        room = n.room ∙ sym f.out ∙ sym z.out ∙ sym (ap (λ w. w.len) k.side.side.out_is);
      })
      d m all_go all_here
    where
      script_behind : (coming : Option Coming) (result : Bool) (s t : Stop InHand G) → scripted t.side.hand.laying ≡ (if takes_ready result (wish_of coming) then scripted_behind s.side.hand.laying else scripted s.side.hand.laying) → t.side.hand.laying.script ≡ s.side.hand.laying.script
      script_behind coming result s t e = ap (λ w. w.script) e ∙ go (takes_ready result (wish_of coming))
        where
          go : (z : Bool) → (if z then scripted_behind s.side.hand.laying else scripted s.side.hand.laying).script ≡ s.side.hand.laying.script
          go true = refl
          go false = refl

-- a change of state is passed by
pub state_passes : {G : Ghosts InHand} (coming : Coming) (target : Target) (s t : Stop InHand G) → coming ≡ Coming.State target → (s.side.hand.laying.number < length s.side.hand.laying.script → StopKept (suc s.side.hand.laying.number) s t) → PassesBy (Some coming) s t
state_passes coming target s t e k = subst (λ z. PassesBy (Some z) s t) (sym e) k

-- a slave of which the frame has no room
pub fitted_same : {G : Ghosts InHand} (s : Stop InHand G) → Fitted s s
fitted_same s = record { place = refl; passing = refl; script = refl; out = refl }

pub among_fitted : {G : Ghosts InHand} (lens : ℕ → Lens) (begun : ℕ → Option (Service Asked)) (left : List ℕ) (as' : List Leads) (place : ℕ) (ss ts : List (Stop InHand G)) → StepsAt (λ s t. Fitted s t) place ss ts →
    AllFrom (λ i a s. IsAmong lens begun left i a s) 0 as' ss → AllFrom (λ i a s. IsAmong lens begun left i a s) 0 as' ts
among_fitted lens begun left as' place ss ts f m =
    from_each (λ i a s. IsAmong lens begun left i a s) (λ s t. Fitted s t) (λ i a s. IsAmong lens begun left i a s)
    (λ i a s t n k. record {
      script = ap (λ w. w.script) k.script ∙ n.script;
      comes = subst (λ w. Comes (lens a.lived.spot.station).out a.script a.number (begun a.lived.spot.place) w) (sym (ap (λ w. w.number) k.script)) n.comes;
      still = λ e. ap (λ w. w.number) k.script ∙ n.still e;
      short = n.short;
      unpassed = k.passing ∙ n.unpassed;
      own = n.own;
      place = k.place ∙ n.place;
      room = n.room ∙ sym k.out;
    })
    0 as' ss ts m (steps_each (λ s t. Fitted s t) (λ s t. Fitted s t) place ss ts (λ s. fitted_same s) (λ s t k. k) f)
