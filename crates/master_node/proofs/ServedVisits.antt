-- A VISIT OF A SERVING: what comes into hand of one slave, which mails still wait for it, and what stays of all others.
use Rattle.std.proofs.Common.{◌≡◌, ◌==◌, ◌+◌, ◌<◌, ℕ, zero, suc, Bool, true, false, Option, None, Some, List, [], ◌∷◌, refl, sym, ap, ◌∙◌, subst, arith, length}
use Rattle.std.specs.Prelude.{◌&&◌, is_some, is_none, map, All, IfSome, slice_get, if◌then◌else◌}
use Rattle.std.proofs.lemmas.Bool.{eq-eqb, eqb-true}
use Rattle.life_runs.specs.of_datagrams.Datagram as Raw
use Rattle.life_runs.specs.of_frame_view.View.{Lens}
use Rattle.life_runs.specs.of_frame_view.Shares.{Lived, AllFrom, AreDistinct, IsElsewhere}
use Rattle.life_runs.specs.Led.{speech_at}
use Rattle.life_runs.specs.of_mailbox_master.Any.{in_area_len}
use Rattle.life_runs.specs.of_master_duty.Reply.{Reply}
use Rattle.life_runs.specs.of_exchange_model.Exchange.{Speech}
use Rattle.life_runs.specs.of_segment_model.Seats
use Rattle.life_runs.specs.of_state_model.Stated.{Service}
use Rattle.life_runs.specs.of_state_model.Accounts.{Account, Pick}
use Rattle.life_runs.specs.of_master_hand.Laying.{Scripted, ready_of, scripted, scripted_behind}
use Rattle.life_runs.specs.of_master_hand.Shown.{awaits_reply, knows}
use Rattle.life_runs.specs.of_master_hand.Spoken.{Asked, acknowledged, is_followed, is_passed}
use Rattle.life_runs.specs.of_master_hand.declared.hand.InHand.{InHand}
use Rattle.life_runs.specs.of_master_side.Free.{begins_by, is_free_side}
use Rattle.life_runs.specs.of_master_side.Passing.{passing_behind, passing_seen}
use Rattle.life_runs.specs.of_master_side.Shown.{takes_ready, wish_begun}
use Rattle.life_runs.specs.of_master_side.declared.carried.Wish.{Wish}
use Rattle.life_runs.specs.of_master_side.declared.hand.Hand.{Ghosts}
use Rattle.life_runs.specs.of_master_side.declared.passing.Passing.{Passing}
use Rattle.life_runs.specs.of_link_mails.Body.{Body}
use Rattle.life_runs.specs.of_master_tour.Counting.{ReadStays, StandCounts}
use Rattle.life_runs.specs.of_master_tour.Frees.{stand_begins}
use Rattle.life_runs.specs.of_master_tour.Made.{ComesAt, FrameMade, IsPlanned, is_in}
use Rattle.life_runs.specs.of_master_tour.Passing.{StandPassing}
use Rattle.life_runs.specs.of_master_tour.Stands.{Counts, StandShows, StopShows}
use Rattle.life_runs.specs.of_master_tour.Walks.{EachPair, StepsAt}
use Rattle.life_runs.proofs.of_master_tour.Walks.{steps_both}
use Rattle.life_runs.specs.of_master_tour.declared.stop.Stand.{Stand}
use Rattle.life_runs.specs.of_master_tour.declared.stop.Stop.{Stop}
use Rattle.life_runs.specs.of_life_model.Lives
use Rattle.life_runs.specs.of_life_model.Lives.{Life, Spot, life_next}
use Rattle.life_runs.specs.of_segment_plan.declared.service.Service as Plan
use Rattle.life_runs.specs.Served.{Keyed, Serves, ServedComes}
use Rattle.master_node.specs.Begins.{LaysOldest, PacketFirst, begins_by as packets_by, begins_other, taken_where}
use Rattle.master_node.specs.Coming.{CameBy, IsLaid, next_of, wish_of}
use Rattle.master_node.specs.Filling.{StopFills}
use Rattle.master_node.specs.Forwards.{forwarded, port_by}
use Rattle.master_node.specs.Kept.{StopKept, StopStays}
use Rattle.master_node.specs.Passes.{BeginsFree, IsMailReady, IsNextState, IsServing, LaysMail, MailWaits, ThreeFrom, waits_behind, waits_in}
use Rattle.master_node.specs.Handed.{HasBegun, IsHanding, LaysWork, hand_behind, work_from}
use Rattle.master_node.specs.Inhand.{HasInHand, WorkOf}
use Rattle.master_node.specs.Listing.{where_began}
use Rattle.master_node.specs.Named.{IsHanded}
use Rattle.master_node.specs.Serving.{MayPass, run_lead, waits_of}
use Rattle.master_node.specs.Shows.{lived_of, side_shows}
use Rattle.master_node.specs.declared.coming.Coming.{Coming}
use Rattle.master_node.specs.declared.lan.Lan.{Lan}
use Rattle.master_node.specs.declared.post.Post.{Post}
use Rattle.master_node.specs.declared.post.Work.{Work}
use Rattle.master_node.proofs.Begins.{leaves_served, none_waits, steps_any}
use Rattle.master_node.proofs.Cames.{NumberBehind, got_inside}
use Rattle.master_node.proofs.Fills.{begun_at, begun_comes, begun_here, fills_kept, frame_each}
use Rattle.master_node.proofs.Handings.{handing_on}
use Rattle.master_node.proofs.Kepts.{lives_kept, stop_same}
use Rattle.master_node.proofs.Lists.{no_end, no_step, steps_each, steps_got, steps_map, steps_mid, steps_trans}
use Rattle.master_node.proofs.Mailed.{next_passing, next_stands, none_begun, none_came, served_came, stand_same}
use Rattle.master_node.proofs.Threes.{three_with}
use Rattle.master_node.proofs.Visits.{Began, SomeKept}

-- what is ahead of a slave
pub record Ahead {G : Ghosts InHand} (coming : Option Coming) (s : Stop InHand G) : Type 0 where
  pub next : IsNextState (next_of s) coming
  pub free : is_some coming ≡ true → (s.stand ≡ Stand.Open) × (is_free_side s.side ≡ true)

-- it has what comes laid ready
pub record Readied {G : Ghosts InHand} (coming : Option Coming) (got : List Keyed) (s t : Stop InHand G) : Type 0 where
  pub stays : StopStays s t
  pub laid : IsLaid coming t.side.hand.laying.laid
  pub mail : LaysMail coming t.side.out.len got t.side.hand.laying

-- a mail that is passed on goes on by what came into hand
abbrev pub PassesOn : {G : Ghosts InHand} → (ℕ → Lens) → ℕ → ℕ → Option (Service Asked) → Stop InHand G → Stop InHand G → Type 0
PassesOn lens recover made b s t = (spot : Spot) (l m : Life Body Asked Reply) → IsPlanned lens spot s.side.station s.place s.start s.stand s.side.out.len (in_area_len s.side.inn) → (s.stand ≡ Stand.Open → is_some l.era.passing ≡ is_some s.side.passing) →
    StopShows (side_shows lens recover s spot) recover spot s.stand s.spare l → StandPassing s.stand (awaits_reply s.side.hand.course s.side.hand.which s.side.hand.clients) s.side.passing l → BeginsFree l b → m.era.passing ≡ passing_behind is_passed l.era.passing b →
    StandPassing t.stand (awaits_reply t.side.hand.course t.side.hand.which t.side.hand.clients) t.side.passing m

-- and is visited
pub record Visited {G : Ghosts InHand} (lens : ℕ → Lens) (recover made : ℕ) (wish : Option Wish) (result : Bool) (s t : Stop InHand G) : Type 0 where
  pub began : Began result wish s t
  pub did : result ≡ stand_begins s.stand (begins_by (is_free_side s.side) wish (ready_of s.side.hand.laying))
  pub stand : t.stand ≡ s.stand
  pub read : ReadStays s t
  pub known : knows t.side.hand.course ≡ knows s.side.hand.course
  pub passes : PassesOn lens recover made (wish_begun result wish (ready_of s.side.hand.laying)) s t

pub record Ready {G : Ghosts InHand} (coming : Option Coming) (got : List Keyed) (s t : Stop InHand G) : Type 0 where
  pub ahead : Ahead coming s
  pub readied : Readied coming got s t

pub record Seen {G : Ghosts InHand} (lens : ℕ → Lens) (recover made : ℕ) (coming : Option Coming) (result : Bool) (stop : Option (Stop InHand G)) (s t : Stop InHand G) : Type 0 where
  pub is : stop ≡ Some s
  pub next : IsNextState (next_of s) coming
  pub visited : Visited lens recover made (wish_of coming) result s t

pub record Goes {G : Ghosts InHand} (lens : ℕ → Lens) (recover made : ℕ) (coming : Option Coming) (result : Bool) (got : List Keyed) (stop : Option (Stop InHand G)) (s v : Stop InHand G) : Type 0 where
  pub second : Stop InHand G
  pub third : Stop InHand G
  pub ready : Ready coming got s second
  pub seen : Seen lens recover made coming result stop second third
  pub came : CameBy result coming third v
  pub kept : SomeKept third v

record Behind {G : Ghosts InHand} (lens : ℕ → Lens) (recover made : ℕ) (coming : Option Coming) (result : Bool) (stop : Option (Stop InHand G)) (s v : Stop InHand G) : Type 0 where
  third : Stop InHand G
  seen : Seen lens recover made coming result stop s third
  came : CameBy result coming third v

-- the script's number behind it
number_is : {G : Ghosts InHand} (coming : Option Coming) (result : Bool) (s t : Stop InHand G) → CameBy result coming s t → NumberBehind result coming (scripted s.side.hand.laying) t.side.hand.laying.number
number_is coming false s t c = c.side.number
number_is None true s t c = c.side.number
number_is (Some Coming.Packet) true s t c = c.side.number
number_is (Some Coming.Mail) true s t c = c.side.number
number_is (Some Coming.Script) true s t c = c.side.number
number_is (Some (Coming.State target)) true s t c = λ l. (c l).side.number

kept_is : {G : Ghosts InHand} (coming : Option Coming) (result : Bool) (s t u : Stop InHand G) → IsNextState (next_of s) coming → scripted t.side.hand.laying ≡ (if takes_ready result (wish_of coming) then scripted_behind s.side.hand.laying else scripted s.side.hand.laying) → CameBy result coming t u → SomeKept t u
kept_is coming false s t u i e c = record { number = _; kept = c }
kept_is None true s t u i e c = record { number = _; kept = c }
kept_is (Some Coming.Packet) true s t u i e c = record { number = _; kept = c }
kept_is (Some Coming.Mail) true s t u i e c = record { number = _; kept = c }
kept_is (Some Coming.Script) true s t u i e c = record { number = _; kept = c }
kept_is (Some (Coming.State target)) true s t u i e c =
    record { number = _; kept = c (subst (λ (z : Scripted). z.number < length z.script) (sym e) (got_inside s.side.hand.laying.script s.side.hand.laying.number (Plan.Service.State i.0) i.1)) }

any_same : {G : Ghosts InHand} (s : Stop InHand G) → SomeKept s s
any_same s = record { number = _; kept = stop_same s }

pub kept_by : {G : Ghosts InHand} (coming : Option Coming) (result : Bool) (place : ℕ) (s2 s3 s4 : List (Stop InHand G)) →
    StepsAt (λ s t. IsNextState (next_of s) coming × (scripted t.side.hand.laying ≡ (if takes_ready result (wish_of coming) then scripted_behind s.side.hand.laying else scripted s.side.hand.laying))) place s2 s3 →
    StepsAt (λ s t. CameBy result coming s t) place s3 s4 → EachPair (λ s t. SomeKept s t) s3 s4
kept_by coming result place s2 s3 s4 began came =
    steps_each _ (λ s t. SomeKept s t) place s3 s4 any_same (λ s t k. k) (steps_mid _ _ (λ s t. SomeKept s t) place s2 s3 s4 (λ s t u a b. kept_is coming result s t u a.0 a.1 b) began came)

script_stays : {G : Ghosts InHand} (b : Bool) (s t : Stop InHand G) → scripted t.side.hand.laying ≡ (if b then scripted_behind s.side.hand.laying else scripted s.side.hand.laying) → t.side.hand.laying.script ≡ s.side.hand.laying.script
script_stays b s t e = ap (λ w. w.script) e ∙ go b
  where
    go : (z : Bool) → (if z then scripted_behind s.side.hand.laying else scripted s.side.hand.laying).script ≡ s.side.hand.laying.script
    go true = refl
    go false = refl

-- where it is open its life is
open_life : (shows : Seats.Side Body Asked Reply → Account Asked Reply → Type 0) (spot : Spot) (stand : Stand) (l : Life Body Asked Reply) → stand ≡ Stand.Open → StandShows shows spot stand l → l.stand ≡ Lives.Stand.Open
open_life shows spot stand l e s = (subst (λ z. StandShows shows spot z l) e s).0

-- a free side has no mail in hand that is passed on
free_none : (a b : Bool) (o : Option Passing) → ((a && is_none o) && b) ≡ true → o ≡ None
free_none true b None e = refl
free_none true b (Some p) e = absurd (cc)
free_none false b o e = absurd (cc)

none_passing : (awaits : Bool) (stand : Stand) (p : Option Passing) (l : Life Body Asked Reply) → stand ≡ Stand.Open → p ≡ None → StandPassing stand awaits p l → l.era.passing ≡ None
none_passing awaits stand p l e n s = (subst (λ z. StandPassing z awaits p l) e s).is ∙ ap passing_seen n

-- a visit that passes a mail on
pub passes_on : (x : Speech Body Asked Reply) (made : ℕ) (l m : Life Body Asked Reply) (b : Option (Service Asked)) (hold awaits : Bool) (stand : Stand) (p : Option Passing) →
    (let n = life_next x acknowledged is_followed is_passed made l l.stand (record { begin = b; hold = hold }) in
    Counts made b l n → BeginsFree l b → StandPassing stand awaits p n → m.era.passing ≡ passing_behind is_passed l.era.passing b → StandPassing stand awaits p m)
passes_on x made l m b hold awaits stand p = λ counts free s e.
    let pick : Pick Asked = record { begin = b; hold = hold } in
    let n = life_next x acknowledged is_followed is_passed made l l.stand pick in
    stand_same stand awaits p n m (e ∙ sym (next_passing x made l n b pick refl refl counts free)) s

-- something is wished where something may come
pub wish_some : (coming : Option Coming) → is_some coming ≡ true → is_some (wish_of coming) ≡ true
wish_some None e = e
wish_some (Some Coming.Packet) e = refl
wish_some (Some Coming.Mail) e = refl
wish_some (Some Coming.Script) e = refl
wish_some (Some (Coming.State target)) e = refl

pub some_pair : {T : Type 0} (P Q : T → Type 0) (o : Option T) → IfSome o P → IfSome o Q → IfSome o (λ t. P t × Q t)
some_pair P Q None p q = tt
some_pair P Q (Some t) p q = (p, q)

-- something came into hand only where something may
comes_some : (coming : Option Coming) (result : Bool) (ready : Option Asked) (q : Service Asked) → wish_begun result (wish_of coming) ready ≡ Some q → is_some coming ≡ true
comes_some None result ready q e = absurd (let w = sym (none_begun None result ready refl) ∙ e in cc)
comes_some (Some c) result ready q e = refl

stands_kept : {G : Ghosts InHand} (n : ℕ) (s t : Stop InHand G) (l : Life Body Asked Reply) → StopKept n s t → StandPassing s.stand (awaits_reply s.side.hand.course s.side.hand.which s.side.hand.clients) s.side.passing l →
    StandPassing t.stand (awaits_reply t.side.hand.course t.side.hand.which t.side.hand.clients) t.side.passing l
stands_kept n s t l k h =
    subst (λ (z : Type 0). z) (λ j. StandPassing (sym k.stand j) (awaits_reply (sym k.side.hand.course_is j) (sym k.side.hand.which_is j) (sym k.side.hand.clients_are j)) (sym k.side.passing j) l) h

counts_kept : {G : Ghosts InHand} (n made : ℕ) (counts : Bool) (s t : Stop InHand G) → StopKept n s t → StandCounts s.stand s.side.read_at s.side.pace made counts → StandCounts t.stand t.side.read_at t.side.pace made counts
counts_kept n made counts s t k h = subst (λ (z : Type 0). z) (λ j. StandCounts (sym k.stand j) (sym k.side.read j) (sym k.side.pace j) made counts) h

module _ {G : Ghosts InHand} (lens : ℕ → Lens) (recover made : ℕ) (coming : Option Coming) (result : Bool) (place : ℕ) (got : List Keyed) (s0 s1 s2 s3 s4 : List (Stop InHand G)) (rooms : (s : Stop InHand G) → s.side.out.len ≡ s.side.hand.laying.areas.out)
    (frees : (n : ℕ) (s t : Stop InHand G) → StopKept n s t → is_free_side t.side ≡ is_free_side s.side) (ahead : StepsAt (λ s t. Ahead coming t) place s0 s1) (readied : StepsAt (λ s t. Readied coming got s t) place s1 s2)
    (visited : StepsAt (λ s t. Visited lens recover made (wish_of coming) result s t) place s2 s3) (came : StepsAt (λ s t. CameBy result coming s t) place s3 s4) where
  -- what came into hand, and where
  abbrev pub came_of : Option (Stop InHand G) → Option (Service Asked)
  came_of None = None
  came_of (Some s) = wish_begun result (wish_of coming) (ready_of s.side.hand.laying)

  abbrev pub place_of : Option (Stop InHand G) → ℕ
  place_of None = 0
  place_of (Some s) = s.place

  abbrev pub here : ℕ
  here = place_of (slice_get s2 place)

  abbrev pub what : Option (Service Asked)
  what = came_of (slice_get s2 place)

  abbrev pub now : (ℕ → Option (Service Asked)) → ℕ → Option (Service Asked)
  now begun = begun_at begun here what

  pub what_seen : (t : Stop InHand G) → slice_get s2 place ≡ Some t → wish_begun result (wish_of coming) (ready_of t.side.hand.laying) ≡ what
  what_seen t e = ap came_of (sym e)

  pub now_here : (begun : ℕ → Option (Service Asked)) (t u : Stop InHand G) (spot : ℕ) → slice_get s2 place ≡ Some t → u.place ≡ t.place → u.place ≡ spot → now begun spot ≡ wish_begun result (wish_of coming) (ready_of t.side.hand.laying)
  now_here begun t u spot is p q = begun_here begun here what spot (sym q ∙ p ∙ ap place_of (sym is)) ∙ ap came_of is

  some_comes : (begun : ℕ → Option (Service Asked)) (o : Option (Stop InHand G)) → IfSome o (λ s. ComesAt begun (begun_at begun (place_of o) (came_of o)) s.place (wish_begun result (wish_of coming) (ready_of s.side.hand.laying)))
  some_comes begun None = tt
  some_comes begun (Some s) = begun_comes begun s.place (came_of (Some s))

  pub comes : (begun : ℕ → Option (Service Asked)) → IfSome (slice_get s2 place) (λ s. ComesAt begun (now begun) s.place (wish_begun result (wish_of coming) (ready_of s.side.hand.laying)))
  comes begun = some_comes begun (slice_get s2 place)

  -- one step after the other
  all_ready : StepsAt (λ s t. Ready coming got s t) place s1 s2
  all_ready = steps_mid (λ s t. Ahead coming t) (λ s t. Readied coming got s t) (λ s t. Ready coming got s t) place s0 s1 s2 (λ r s t a b. record { ahead = a; readied = b }) ahead readied

  next_on : (s t : Stop InHand G) → Ready coming got s t → IsNextState (next_of t) coming
  next_on s t r =
      let same : scripted t.side.hand.laying ≡ scripted s.side.hand.laying = λ i. record { script = r.readied.stays.side.script i; number = r.readied.stays.side.number i } in
      subst (λ (z : Scripted). IsNextState (slice_get z.script z.number) coming) (sym same) r.ahead.next

  all_seen : StepsAt (λ s t. Seen lens recover made coming result (slice_get s2 place) s t) place s2 s3
  all_seen = steps_mid (λ s t. Ready coming got s t) _ (λ s t. Seen lens recover made coming result (slice_get s2 place) s t) place s1 s2 s3 (λ s t u a b. record { is = b.0; next = next_on s t a; visited = b.1 }) all_ready
      (steps_got (λ s t. Visited lens recover made (wish_of coming) result s t) place s2 s3 visited)

  pub kept : EachPair (λ s t. SomeKept s t) s3 s4
  kept = steps_each _ (λ s t. SomeKept s t) place s3 s4 any_same (λ s t k. k)
      (steps_mid (λ s t. Seen lens recover made coming result (slice_get s2 place) s t) _ (λ s t. SomeKept s t) place s2 s3 s4 (λ s t u a b. kept_is coming result s t u a.next a.visited.began.script b) all_seen came)

  -- THE FRAME, where that visit goes on with it
  pub frame : (index : ℕ) (begun : ℕ → Option (Service Asked)) (left next : List ℕ) (as' : List (Lived Asked Reply)) (octets octets' : List ℕ) (n n2 n3 : ℕ) → n2 ≡ n →
      FrameMade (λ ds i a s. StopFills lens recover made begun index left ds i a s) octets n as' s1 →
      (FrameMade (λ ds i a s. StopFills lens recover made begun index left ds i a s) octets n2 as' s2 → FrameMade (λ ds i a s. StopFills lens recover made (now begun) index next ds i a s) octets' n3 as' s3) →
      FrameMade (λ ds i a s. StopFills lens recover made (now begun) index next ds i a s) octets' n3 as' s3
  frame index begun left next as' octets octets' n n2 n3 e f v =
      v (frame_each (λ ds i a s. StopFills lens recover made begun index left ds i a s) (λ s t. StopStays s t) (λ ds i a s. StopFills lens recover made begun index left ds i a s)
      (λ ds i a s t p k. fills_kept lens recover made begun index s.side.hand.laying.number left ds i a s t k p) octets n2 as' s1 s2 (subst (λ z. FrameMade (λ ds i a s. StopFills lens recover made begun index left ds i a s) octets z as' s1) (sym e) f)
      (steps_each (λ s t. Readied coming got s t) (λ s t. StopStays s t) place s1 s2 (λ s. stop_same s) (λ s t k. k.stays) readied))

  -- and behind it what came into hand is passed by
  pub frame_kept : (index : ℕ) (begun : ℕ → Option (Service Asked)) (next : List ℕ) (as' : List (Lived Asked Reply)) (octets : List ℕ) (n : ℕ) →
      FrameMade (λ ds i a s. StopFills lens recover made (now begun) index next ds i a s) octets n as' s3 → FrameMade (λ ds i a s. StopFills lens recover made (now begun) index next ds i a s) octets n as' s4
  frame_kept index begun next as' octets n f =
      frame_each (λ ds i a s. StopFills lens recover made (now begun) index next ds i a s) (λ s t. SomeKept s t) (λ ds i a s. StopFills lens recover made (now begun) index next ds i a s)
      (λ ds i a s t p k. fills_kept lens recover made (now begun) index k.number next ds i a s t k.kept p) octets n as' s3 s4 f kept

  -- THE SLAVE GOES ON
  pub all_go : StepsAt (λ s v. Goes lens recover made coming result got (slice_get s2 place) s v) place s1 s4
  all_go = steps_trans (λ s u. Ready coming got s u) (λ s v. Behind lens recover made coming result (slice_get s2 place) s v) (λ s v. Goes lens recover made coming result got (slice_get s2 place) s v) place s1 s2 s4
      (λ s t v a b. record { second = t; third = b.third; ready = a; seen = b.seen; came = b.came; kept = kept_is coming result t b.third v b.seen.next b.seen.visited.began.script b.came }) all_ready
      (steps_trans (λ s t. Seen lens recover made coming result (slice_get s2 place) s t) (λ s t. CameBy result coming s t) (λ s v. Behind lens recover made coming result (slice_get s2 place) s v) place s2 s3 s4 (λ t u v a b. record { third = u; seen = a; came = b }) all_seen came)

  pub all_here : StepsAt (λ s v. s.place ≡ here) place s1 s4
  all_here = steps_map (λ s v. Goes lens recover made coming result got (slice_get s2 place) s v) (λ s v. s.place ≡ here) place s1 s4 (λ s v g. sym g.ready.readied.stays.place ∙ sym (ap place_of g.seen.is)) all_go

  -- WHAT LEAVES THE SWITCH is what came into hand
  pub leaves : (l : Lan) → StepsAt (λ s t. LaysOldest l place coming t) place s1 s2 → StepsAt (λ s t. IsMailReady coming t.side.hand.laying) place s1 s2 → taken_where result l place coming ≡ packets_by (port_by (slice_get l.ports.items place)) what
  leaves l oldest mail =
      let same = taken_where result l place coming ≡ packets_by (port_by (slice_get l.ports.items place)) what in
      let laid = steps_both _ _ place s1 s2 oldest (steps_both _ _ place s1 s2 mail readied) in
      steps_any same place s2 s3
      (steps_mid _ (λ s t. Seen lens recover made coming result (slice_get s2 place) s t) (λ s t. same) place s1 s2 s3
      (λ r s t a b. leaves_served l place coming result s b.next a.1.1.laid b.visited.began.ready a.0 a.1.0 ∙ ap (λ z. packets_by (port_by (slice_get l.ports.items place)) (came_of z)) (sym b.is)) laid all_seen)

  -- and none waits there, where that is no packet
  pub waits_none : (l : Lan) → PacketFirst l place coming → begins_other what ≡ true → forwarded l.switch l.ports.items place ≡ []
  waits_none l first e =
      let none = forwarded l.switch l.ports.items place ≡ [] in
      steps_any none place s2 s3
      (steps_mid (λ s t. Readied coming got s t) (λ s t. Seen lens recover made coming result (slice_get s2 place) s t) (λ s t. none) place s1 s2 s3
      (λ r s t a b. none_waits l place coming result s a.laid first (ap (λ z. begins_other (came_of z)) (sym b.is) ∙ e)) readied all_seen)

  module _ (begun : ℕ → Option (Service Asked)) (index : ℕ) (left next : List ℕ) (ds : List Raw.Datagram) (fewer : (k : ℕ) → is_in k next ≡ true → is_in k left ≡ true) (waits : MailWaits got coming) where
    abbrev Before : ℕ → Serves → List Keyed → Stop InHand G → Type 0
    Before i w ks s = StopFills lens recover made begun index left ds i (lived_of (run_lead w)) s × IsServing lens begun made left i w ks s

    abbrev After : ℕ → Serves → List Keyed → Stop InHand G → Type 0
    After i w ks s = IsServing lens (now begun) made next i w ks s

    goes_here : (i : ℕ) (w : Serves) (ks ls : List Keyed) (s v : Stop InHand G) → is_in i left ≡ true → is_in i next ≡ false → w.lead.lived.spot.place ≡ here → Before i w ks s → ls ≡ waits_behind coming ks → ks ≡ got → Goes lens recover made coming result got (slice_get s2 place) s v → After i w ls v
    goes_here i w ks ls s v at over p before leaves all_got g =
        let f = before.0 in
        let h = before.1 in
        let a = w.lead.lived in
        let t = g.second in
        let u = g.third in
        let stays = g.ready.readied.stays in
        let b = g.seen.visited.began in
        let k = g.kept.kept in
        let room = (lens a.spot.station).out in
        let none : begun a.spot.place ≡ None = h.still at in
        let same = none_came room w.lead.script w.waits ks w.hand h.hand w.lead.number s.side.hand.laying.number (begun a.spot.place) h.comes none in
        let begin = came_of (Some t) in
        let now_is : now begun a.spot.place ≡ begin = begun_here begun here what a.spot.place p ∙ ap came_of g.seen.is in
        let script : t.side.hand.laying.script ≡ w.lead.script = stays.side.script ∙ h.script in
        let number : t.side.hand.laying.number ≡ w.lead.number = stays.side.number ∙ same.number_is in
        let long : t.side.out.len ≡ room = ap (λ z. z.len) stays.side.side.out_is ∙ sym h.room in
        let free : is_some coming ≡ true → (t.stand ≡ Stand.Open) × (is_free_side t.side ≡ true) = λ e. (stays.stand ∙ (g.ready.ahead.free e).0, frees _ s t stays ∙ (g.ready.ahead.free e).1) in
        let mail = subst (λ z. LaysMail coming room z t.side.hand.laying) (sym all_got) (subst (λ z. LaysMail coming z got t.side.hand.laying) long g.ready.readied.mail) in
        let came_served = served_came room t.side.hand.laying (scripted u.side.hand.laying) v.side.hand.laying.number h.hand coming ks result t.stand (is_free_side t.side) (sym (rooms t) ∙ long) g.seen.next g.ready.readied.laid
        (subst (λ z. MailWaits z coming) (sym all_got) waits) (subst (λ z. All (λ q. MayPass room q) z) (sym same.waits_are) h.fits) mail g.seen.visited.did free b.ready b.script (number_is coming result u v g.came) in
        let l = f.life in
        let lived = lives_kept lens recover _ (record { spot = a.spot; life = l }) s t stays f.lives in
        let mail_same : l.era.passing ≡ a.life.era.passing = next_passing (speech_at lens a.spot) made a.life l None f.pick f.next (f.idle at) f.took (λ q e. absurd (cc)) in
        let stand_is : l.stand ≡ a.life.stand = ap (λ z. z.stand) f.next ∙ next_stands (speech_at lens a.spot) made a.life a.life.stand f.pick refl in
        let stood = stands_kept _ s t l stays (h.passing l (mail_same ∙ ap (λ z. passing_behind is_passed a.life.era.passing z) (sym none))) in
        let begins : BeginsFree l begin = λ q e. (let z = free (comes_some coming result (ready_of t.side.hand.laying) q e) in
        (open_life _ a.spot t.stand l z.0 lived.shown.stood, none_passing _ t.stand t.side.passing l z.0 (free_none _ _ t.side.passing z.1) stood)) in
        record {
          hand = came_served.behind;
          script = k.side.script ∙ script_stays _ t u b.script ∙ script;
          comes = subst (λ (z : Type 0). z) (λ j. ServedComes room (script j) (same.waits_are j) (same.hand_is j) (number j) (sym now_is j) v.side.hand.laying.number (sym leaves j) came_served.behind) came_served.comes;
          still = λ e. absurd (let z = sym over ∙ e in cc);
          free = λ q e. (let z = begins q (sym now_is ∙ e) in (sym stand_is ∙ z.0, sym mail_same ∙ z.1));
          short = h.short;
          place = k.place ∙ b.place ∙ stays.place ∙ h.place;
          room = h.room ∙ sym (ap (λ z. z.len) stays.side.side.out_is) ∙ sym b.out ∙ sym (ap (λ z. z.len) k.side.side.out_is);
          passing = λ m e. stands_kept g.kept.number u v m k
              (g.seen.visited.passes a.spot l m lived.planned (λ o. f.waits at (sym stays.stand ∙ o) ∙ ap is_some (sym stays.side.passing)) lived.shown stood begins (e ∙ (λ j. passing_behind is_passed (sym mail_same j) (now_is j))));
          kept = h.kept;
          counts = counts_kept g.kept.number made w.counts u v k (subst (λ (z : Type 0). z) (λ j. StandCounts (sym g.seen.visited.stand j) (sym g.seen.visited.read.0 j) (sym g.seen.visited.read.1 j) made w.counts) (counts_kept _ made w.counts s t stays h.counts));
          pace = k.side.pace ∙ g.seen.visited.read.1 ∙ stays.side.pace ∙ h.pace;
          fits = h.fits;
        }

    -- and all others stay
    other : (i : ℕ) (w : Serves) (ks : List Keyed) (s : Stop InHand G) → (w.lead.lived.spot.place == here) ≡ false → IsServing lens begun made left i w ks s → After i w ks s
    other i w ks s d h =
        let e = (begun_comes begun here what).elsewhere w.lead.lived.spot.place d in
        record {
          hand = h.hand;
          script = h.script;
          comes = subst (λ z. ServedComes (lens w.lead.lived.spot.station).out w.lead.script w.waits w.hand w.lead.number z s.side.hand.laying.number ks h.hand) (sym e) h.comes;
          still = λ n. e ∙ h.still (fewer i n);
          free = λ q n. h.free q (sym e ∙ n);
          short = h.short;
          place = h.place;
          room = h.room;
          passing = λ l n. h.passing l (n ∙ ap (λ z. passing_behind is_passed w.lead.lived.life.era.passing z) e);
          kept = h.kept;
          counts = h.counts;
          pace = h.pace;
          fits = h.fits;
        }

    apart : (q r : ℕ) → (q == r) ≡ false → (r == q) ≡ false
    apart q r n = go (r == q) refl
      where
        go : (z : Bool) → (r == q) ≡ z → (r == q) ≡ false
        go true f = absurd (let w = eq-eqb q r (sym (eqb-true r q f)) in cc)
        go false f = f

    others : (spot : Spot) → spot.place ≡ here → (i : ℕ) (ws : List Serves) (kss : List (List Keyed)) (ss : List (Stop InHand G)) → IsElsewhere spot (map (λ w. lived_of (run_lead w)) ws) → ThreeFrom Before i ws kss ss → ThreeFrom After i ws kss ss
    others spot p i [] [] [] e m = tt
    others spot p i [] [] (s ∷ ss) e m = absurd m
    others spot p i [] (ks ∷ kss) [] e m = absurd m
    others spot p i [] (ks ∷ kss) (s ∷ ss) e m = absurd m
    others spot p i (w ∷ ws) [] [] e m = absurd m
    others spot p i (w ∷ ws) [] (s ∷ ss) e m = absurd m
    others spot p i (w ∷ ws) (ks ∷ kss) [] e m = absurd m
    others spot p i (w ∷ ws) (ks ∷ kss) (s ∷ ss) e m =
        (other i w ks s (apart here w.lead.lived.spot.place (subst (λ z. (z == w.lead.lived.spot.place) ≡ false) p e.0.place)) m.0.1, others spot p (suc i) ws kss ss e.1 m.1)

    -- the place is that of the slave that goes on
    stands_at : (i n : ℕ) (ws : List Serves) (kss : List (List Keyed)) (ss ts : List (Stop InHand G)) (spot : Spot) → IsElsewhere spot (map (λ w. lived_of (run_lead w)) ws) → ThreeFrom Before i ws kss ss → StepsAt (λ s t. s.place ≡ here) n ss ts → (spot.place == here) ≡ false
    stands_at i n ws kss [] ts spot e m r = absurd (no_step _ n ts r)
    stands_at i n ws kss (s ∷ ss) [] spot e m r = absurd (no_end _ n s ss r)
    stands_at i n [] [] (s ∷ ss) (t ∷ ts) spot e m r = absurd m
    stands_at i n [] (ks ∷ kss) (s ∷ ss) (t ∷ ts) spot e m r = absurd m
    stands_at i n (w ∷ ws) [] (s ∷ ss) (t ∷ ts) spot e m r = absurd m
    stands_at i zero (w ∷ ws) (ks ∷ kss) (s ∷ ss) (t ∷ ts) spot e m r = subst (λ z. (spot.place == z) ≡ false) (sym m.0.1.place ∙ r.0) e.0.place
    stands_at i (suc n) (w ∷ ws) (ks ∷ kss) (s ∷ ss) (t ∷ ts) spot e m r = stands_at (suc i) n ws kss ss ts spot e.1 m.1 r.1

    step : (i n m : ℕ) (ws : List Serves) (kss lss : List (List Keyed)) (ss ts : List (Stop InHand G)) → m ≡ i + n → is_in m left ≡ true → is_in m next ≡ false → AreDistinct (map (λ w. lived_of (run_lead w)) ws) → ThreeFrom Before i ws kss ss →
        StepsAt (λ ks ls. ls ≡ waits_behind coming ks) n kss lss → waits_in kss n ≡ got → StepsAt (λ s v. Goes lens recover made coming result got (slice_get s2 place) s v) n ss ts → StepsAt (λ s t. s.place ≡ here) n ss ts → ThreeFrom After i ws lss ts
    step i n m ws [] lss ss ts e at over d p q g r o = absurd (no_step _ n lss q)
    step i n m ws (ks ∷ kss) [] ss ts e at over d p q g r o = absurd (no_end _ n ks kss q)
    step i n m ws (ks ∷ kss) (ls ∷ lss) [] ts e at over d p q g r o = absurd (no_step _ n ts r)
    step i n m ws (ks ∷ kss) (ls ∷ lss) (s ∷ ss) [] e at over d p q g r o = absurd (no_end _ n s ss r)
    step i n m [] (ks ∷ kss) (ls ∷ lss) (s ∷ ss) (t ∷ ts) e at over d p q g r o = absurd p
    step i zero m (w ∷ ws) (ks ∷ kss) (ls ∷ lss) (s ∷ ss) (t ∷ ts) e at over d p q g r o =
        let f : m ≡ i = omega (arith, e) in
        let spot : w.lead.lived.spot.place ≡ here = sym p.0.1.place ∙ o.0 in (
          goes_here i w ks ls s t (subst (λ z. is_in z left ≡ true) f at) (subst (λ z. is_in z next ≡ false) f over) spot p.0 q.0 g r.0,
          subst (λ z. ThreeFrom After (suc i) ws lss z) (sym r.1) (subst (λ z. ThreeFrom After (suc i) ws z ss) (sym q.1) (others w.lead.lived.spot spot (suc i) ws kss ss d.0 p.1)),
        )
    step i (suc n) m (w ∷ ws) (ks ∷ kss) (ls ∷ lss) (s ∷ ss) (t ∷ ts) e at over d p q g r o = (
      subst (λ z. After i w z t) (sym q.0) (subst (λ z. After i w ks z) (sym r.0) (other i w ks s (stands_at (suc i) n ws kss ss ts w.lead.lived.spot d.0 p.1 o.1) p.0.1)),
      step (suc i) n m ws kss lss ss ts (omega (arith, e)) at over d.1 p.1 q.1 g r.1 o.1,
    )

    pub serving : (ws : List Serves) (kss lss : List (List Keyed)) → is_in place left ≡ true → is_in place next ≡ false → AreDistinct (map (λ w. lived_of (run_lead w)) ws) → AllFrom (λ i a s. StopFills lens recover made begun index left ds i a s) 0 (map (λ w. lived_of (run_lead w)) ws) s1 →
        ThreeFrom (λ i w ks s. IsServing lens begun made left i w ks s) 0 ws kss s1 → StepsAt (λ ks ls. ls ≡ waits_behind coming ks) place kss lss → waits_in kss place ≡ got → ThreeFrom After 0 ws lss s4
    serving ws kss lss at over d f p q g =
        step 0 place place ws kss lss s1 s4 (omega arith) at over d (three_with (λ w. lived_of (run_lead w)) (λ i a s. StopFills lens recover made begun index left ds i a s) (λ i w ks s. IsServing lens begun made left i w ks s) 0 ws kss s1 f p) q g all_go all_here

    -- WHAT THE POSTS HAVE IN HAND: that of the visited slave goes on by what came into hand
    pub record Moved (p q : Post) : Type 0 where
      pub mid : Post
      pub lays : LaysWork coming p mid
      pub works : q.work ≡ work_from (where_began result coming) mid

    hands_here : (i : ℕ) (w : Serves) (p q : Post) (ls : List Keyed) (s v : Stop InHand G) → is_in i left ≡ true → w.lead.lived.spot.place ≡ here → Before i w (waits_of p) s → waits_of p ≡ got → Goes lens recover made coming result got (slice_get s2 place) s v → After i w ls v → Moved p q →
        IsHanding lens begun w p.work (knows s.side.hand.course) → IsHanding lens (now begun) w q.work (knows v.side.hand.course)
    hands_here i w p q ls s v at e before all_got g after moved handing =
        let h = before.1 in
        let a = w.lead.lived in
        let t = g.second in
        let stays = g.ready.readied.stays in
        let room = (lens a.spot.station).out in
        let none : begun a.spot.place ≡ None = h.still at in
        let same = none_came room w.lead.script w.waits (waits_of p) w.hand h.hand w.lead.number s.side.hand.laying.number (begun a.spot.place) h.comes none in
        let now_is : now begun a.spot.place ≡ came_of (Some t) = begun_here begun here what a.spot.place e ∙ ap came_of g.seen.is in
        let long : t.side.out.len ≡ room = ap (λ z. z.len) stays.side.side.out_is ∙ sym h.room in
        let mail = subst (λ z. LaysMail coming room z t.side.hand.laying) (sym all_got) (subst (λ z. LaysMail coming z got t.side.hand.laying) long g.ready.readied.mail) in
        let both = handing_on w p moved.mid q t.side.hand.laying room (waits_of p) t.stand (is_free_side t.side) (now begun a.spot.place) same.waits_are refl after.free
        (λ l b. subst (λ z. IsHanded p.work (hand_behind w.waits w.hand z) l) none (handing.handed l (subst (λ z. HasBegun a.life z l) (sym none) b)))
        coming result now_is g.seen.visited.did g.ready.readied.laid mail (subst (λ z. MailWaits z coming) (sym all_got) waits) (subst (λ z. All (λ k. MayPass room k) z) (sym same.waits_are) h.fits) moved.lays moved.works in
        let known = ap knows g.kept.kept.side.hand.course_is ∙ g.seen.visited.known ∙ ap knows stays.side.hand.course_is in
        record {
          handed = both.0;
          old = handing.old;
          was = subst (λ z. HasInHand (speech_at lens a.spot) z a.life a.life.stand handing.old) (sym known) handing.was;
          came = subst (λ z. WorkOf (now begun a.spot.place) z q.work) (subst (λ z. WorkOf z handing.old p.work) none handing.came) both.1;
        }

    hands_there : (w : Serves) (work : Work) (known : Bool) → (w.lead.lived.spot.place == here) ≡ false → IsHanding lens begun w work known → IsHanding lens (now begun) w work known
    hands_there w work known d handing =
        let e = (begun_comes begun here what).elsewhere w.lead.lived.spot.place d in
        record {
          handed = λ l b. subst (λ z. IsHanded work (hand_behind w.waits w.hand z) l) (sym e) (handing.handed l (subst (λ z. HasBegun w.lead.lived.life z l) e b));
          old = handing.old;
          was = handing.was;
          came = subst (λ z. WorkOf z handing.old work) (sym e) handing.came;
        }

    abbrev pub Hands : (ℕ → Option (Service Asked)) → ℕ → List Serves → List Post → List (Stop InHand G) → Type 0
    Hands so i ws ps ss = ThreeFrom (λ i w p s. IsHanding lens so w p.work (knows s.side.hand.course)) i ws ps ss

    -- none of the slaves behind stands there
    hands_others : (spot : Spot) → spot.place ≡ here → (i : ℕ) (ws : List Serves) (ps : List Post) (ss : List (Stop InHand G)) → IsElsewhere spot (map (λ w. lived_of (run_lead w)) ws) → Hands begun i ws ps ss → Hands (now begun) i ws ps ss
    hands_others spot e i [] [] [] d a = tt
    hands_others spot e i [] [] (s ∷ ss) d a = absurd a
    hands_others spot e i [] (p ∷ ps) ss d a = absurd a
    hands_others spot e i (w ∷ ws) [] ss d a = absurd a
    hands_others spot e i (w ∷ ws) (p ∷ ps) [] d a = absurd a
    hands_others spot e i (w ∷ ws) (p ∷ ps) (s ∷ ss) d a =
        (hands_there w p.work (knows s.side.hand.course) (apart here w.lead.lived.spot.place (subst (λ z. (z == w.lead.lived.spot.place) ≡ false) e d.0.place)) a.0, hands_others spot e (suc i) ws ps ss d.1 a.1)

    hands : (i n m : ℕ) (ws : List Serves) (ps qs : List Post) (lss : List (List Keyed)) (ss ts : List (Stop InHand G)) → m ≡ i + n → is_in m left ≡ true → AreDistinct (map (λ w. lived_of (run_lead w)) ws) → ThreeFrom Before i ws (map waits_of ps) ss → waits_in (map waits_of ps) n ≡ got →
        StepsAt (λ s v. Goes lens recover made coming result got (slice_get s2 place) s v) n ss ts → StepsAt (λ s t. s.place ≡ here) n ss ts → ThreeFrom After i ws lss ts → StepsAt (λ p q. Moved p q) n ps qs → Hands begun i ws ps ss → Hands (now begun) i ws qs ts
    hands i n m ws [] qs lss ss ts e at d b g r o a k h = absurd (no_step _ n qs k)
    hands i n m ws (p ∷ ps) [] lss ss ts e at d b g r o a k h = absurd (no_end _ n p ps k)
    hands i n m [] (p ∷ ps) (q ∷ qs) lss ss ts e at d b g r o a k h = absurd h
    hands i n m (w ∷ ws) (p ∷ ps) (q ∷ qs) lss [] ts e at d b g r o a k h = absurd b
    hands i n m (w ∷ ws) (p ∷ ps) (q ∷ qs) lss (s ∷ ss) [] e at d b g r o a k h = absurd (no_end _ n s ss r)
    hands i n m (w ∷ ws) (p ∷ ps) (q ∷ qs) [] (s ∷ ss) (t ∷ ts) e at d b g r o a k h = absurd a
    hands i zero m (w ∷ ws) (p ∷ ps) (q ∷ qs) (ls ∷ lss) (s ∷ ss) (t ∷ ts) e at d b g r o a k h =
        let f : m ≡ i = omega (arith, e) in
        let spot : w.lead.lived.spot.place ≡ here = sym b.0.1.place ∙ o.0 in (
          hands_here i w p q ls s t (subst (λ z. is_in z left ≡ true) f at) spot b.0 g r.0 a.0 k.0 h.0,
          subst (λ z. Hands (now begun) (suc i) ws qs z) (sym r.1) (subst (λ z. Hands (now begun) (suc i) ws z ss) (sym k.1) (hands_others w.lead.lived.spot spot (suc i) ws ps ss d.0 h.1)),
        )
    hands i (suc n) m (w ∷ ws) (p ∷ ps) (q ∷ qs) (ls ∷ lss) (s ∷ ss) (t ∷ ts) e at d b g r o a k h = (
      subst (λ z. IsHanding lens (now begun) w q.work (knows z.side.hand.course)) (sym r.0)
          (subst (λ z. IsHanding lens (now begun) w z.work (knows s.side.hand.course)) (sym k.0) (hands_there w p.work (knows s.side.hand.course) (stands_at (suc i) n ws (map waits_of ps) ss ts w.lead.lived.spot d.0 b.1 o.1) h.0)),
      hands (suc i) n m ws ps qs lss ss ts (omega (arith, e)) at d.1 b.1 g r.1 o.1 a.1 k.1 h.1,
    )

    pub handing : (ws : List Serves) (ps qs : List Post) (lss : List (List Keyed)) → is_in place left ≡ true → AreDistinct (map (λ w. lived_of (run_lead w)) ws) → AllFrom (λ i a s. StopFills lens recover made begun index left ds i a s) 0 (map (λ w. lived_of (run_lead w)) ws) s1 →
        ThreeFrom (λ i w ks s. IsServing lens begun made left i w ks s) 0 ws (map waits_of ps) s1 → waits_in (map waits_of ps) place ≡ got → ThreeFrom After 0 ws lss s4 → StepsAt (λ p q. Moved p q) place ps qs → Hands begun 0 ws ps s1 → Hands (now begun) 0 ws qs s4
    handing ws ps qs lss at d f p g a k h =
        hands 0 place place ws ps qs lss s1 s4 (omega arith) at d (three_with (λ w. lived_of (run_lead w)) (λ i a s. StopFills lens recover made begun index left ds i a s) (λ i w ks s. IsServing lens begun made left i w ks s) 0 ws (map waits_of ps) s1 f p) g all_go all_here a k h
