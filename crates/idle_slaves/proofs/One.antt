-- One slave by a frame that came back and gained nothing.
use Rattle.std.proofs.Common.{◌≡◌, ◌⊎◌, ◌≤◌, ℕ, suc, ◌%◌, ◌==◌, true, Option, Some, None, List, [], refl, sym, ap, ◌∙◌, subst, arith, if◌then◌else◌, inl, inr}
use Rattle.idle_slaves.specs.Eager.{Remembered, IsClear, NoneLeft, GetsNone}
use Rattle.idle_slaves.specs.Standing.{Unvisited, Visited, Standing}
use Rattle.idle_slaves.specs.EagerFrames.{FrameAs}
use Rattle.idle_slaves.proofs.Choices.{stand_next}
use Rattle.idle_slaves.proofs.Facts.{unvisited_waits}
use Rattle.idle_slaves.proofs.Goings.{going_silent}
use Rattle.idle_slaves.proofs.Slaves.{open_stands, waits_silent}
use Rattle.plan_ring.specs.of_exchange_model.Exchange.{Exchange, Speech}
use Rattle.plan_ring.specs.of_exchange_model.Rows.{begun}
use Rattle.plan_ring.specs.of_frame_view.View.{Lens}
use Rattle.idle_slaves.specs.Held.{HeldUp, EndsHeld}
use Rattle.idle_slaves.proofs.Held.{took_unpassed, unpaused}
use Rattle.idle_slaves.specs.Going.{Going}
use Rattle.idle_slaves.specs.Visited.{Waiting, IsUnpaused}
use Rattle.plan_ring.specs.of_life_model.Lives.{Life, Spot, Stand, life_next, life_back, era_next, granted}
use Rattle.plan_ring.specs.of_life_model.Own.{own}
use Rattle.plan_ring.specs.of_life_runs.Led.{Leads, Took, speech_at, is_passed}
use Rattle.plan_ring.specs.of_link_mails.Body.{Body}
use Rattle.plan_ring.specs.of_link_model.Frames.{all_accepted}
use Rattle.plan_ring.specs.of_link_model.Master.{InState as HalfState}
use Rattle.plan_ring.specs.of_master_duty.Reply.{Reply}
use Rattle.plan_ring.specs.of_master_hand.Spoken.{Asked, acknowledged, is_followed}
use Rattle.plan_ring.specs.PlanMet.{slave_at, IsMet}
use Rattle.plan_ring.specs.Asked.{asked}
use Rattle.plan_ring.specs.of_run_frames.Goes.{Under, back_life}
use Rattle.plan_ring.specs.of_run_frames.Orders.{is_live}
use Rattle.plan_ring.specs.of_run_frames.Waits.{Waits, waits_on}
use Rattle.plan_ring.specs.of_segment_model.Seats.{Side, side_next}
use Rattle.plan_ring.specs.of_segment_model.Slaves.{Datagram, Slave, Processor, frame_after, grams, serving, slave_after, slave_steps}
use Rattle.plan_ring.specs.of_segment_plan.declared.service.Service as Plan
use Rattle.plan_ring.specs.of_segment_plan.declared.slave.SlaveSpec.{SlaveSpec}
use Rattle.plan_ring.specs.of_slave_parts.Parts.{Core, Server}
use Rattle.plan_ring.specs.of_protocol_models.Network.{Station}
use Rattle.plan_ring.specs.of_slave_server.Serving.{Serving}
use Rattle.plan_ring.specs.of_slave_server.Spec.{profile_of}
use Rattle.plan_ring.specs.of_slave_node.Node.{Node}
use Rattle.plan_ring.specs.of_state_model.Families.{InState}
use Rattle.plan_ring.specs.of_state_model.Stated.{Service}
use Rattle.plan_ring.specs.of_state_model.States.{Table}
use Rattle.plan_ring.specs.of_state_model.Accounts.{Pick, account_begins, starts, mails_choice}
use Rattle.idle_slaves.proofs.Fits.{IsFit, IsReady, Rests, exchange_at, next_of, table_at}
use Rattle.idle_slaves.proofs.Fits as Fits
use Rattle.idle_slaves.proofs.WaitHeld.{ends_at}
use Rattle.idle_slaves.proofs.Took.{state_took, mails_took, begun_row}

module _ (lens : ℕ → Lens) (number : ℕ) (sent back : List (Datagram Body)) (s : SlaveSpec) (a : Leads) (c : Fits.Slave) (v : Under Body Asked Reply) (next' : Option Plan.Service) (n k : Node Serving) (m m' : Remembered) (t : Waits)
    (r : IsReady lens number sent back s a c v next' n k m m' t) where
  abbrev ex : Exchange (InState Server) (InState (Station Core)) Body Asked Reply
  ex = exchange_at lens s

  abbrev processor : Processor (InState Server)
  processor = (asked (profile_of s) s.boot lens).processor

  abbrev table : Table
  table = table_at lens s

  abbrev x : Spot → Speech Body Asked Reply
  x = speech_at lens

  abbrev slave : Slave (InState Server) Body
  slave = slave_at lens s n

  abbrev slave' : Slave (InState Server) Body
  slave' = slave_at lens s k

  abbrev next : Option Plan.Service
  next = next_of a

  abbrev on : Waits
  on = waits_on number c v t

  abbrev behind : Life Body Asked Reply
  behind = back_life (speech_at lens) acknowledged is_followed is_passed number back c v

  abbrev Before : Type 0
  Before = Standing (serving ex) table (x c.spot) acknowledged c.life slave m next t

  abbrev Behind : Type 0
  Behind = Standing (serving ex) table (x c.spot) acknowledged behind slave' m' next' on

  abbrev WaitsYet : Type 0
  WaitsYet = (is_live behind.stand ≡ true) × (on.tries ≤ 1)

  -- ---- an open slave
  module _ (stands : c.life.stand ≡ Stand.Open) where
    o : IsFit lens s c.spot c.life n
    o = r.fits stands

    z : IsMet lens sent back number c.pace s n k
    z = r.met stands

    at_open : v.life ≡ life_next (x c.spot) acknowledged is_followed is_passed number c.life Stand.Open r.pick
    at_open = r.life ∙ ap (λ y. life_next (x c.spot) acknowledged is_followed is_passed number c.life y r.pick) stands

    open_now : v.life.stand ≡ Stand.Open
    open_now = ap (λ (l : Life Body Asked Reply). l.stand) at_open ∙ stands

    abbrev frame : FrameAs ex processor table x acknowledged is_followed is_passed number sent back c v t slave slave'
    frame = record {
      pick = r.pick;
      life = r.life;
      same = r.same;
      still = r.still stands;
      tells = r.tells;
      one = r.one;
      none = r.none;
      back_is = subst (λ (h : ℕ). own h back ≡ frame_after h slave (own h sent)) (sym r.station) z.back_is;
      slave = subst (λ (h : ℕ). slave' ≡ (let y = slave_after h slave (own h sent) in if suc number % c.pace == 0 then slave_steps ex processor y else y)) (sym r.station) z.slave;
      here = o.here ∙ sym r.station;
      alone = o.alone;
    }

    -- ---- what came into hand
    took_era : (w : Service Asked) → r.begun ≡ Some w → (era_next (x c.spot) acknowledged is_followed is_passed number c.life.era r.pick).account.started ≡ starts c.life.era.account w number
    took_era w e = ap (λ (l : Life Body Asked Reply). l.era.account.started) (sym at_open) ∙ subst (λ b. Took number c.life.era.account v.life.era.account b) e r.took

    abbrev pick : Pick Asked
    pick = granted c.life.era.passing r.pick

    granted_is : (w : Service Asked) → r.begun ≡ Some w → (granted c.life.era.passing r.pick).begin ≡ Some w
    granted_is w e = ap (λ p. (granted p r.pick).begin) (took_unpassed (x c.spot) acknowledged is_followed is_passed number c.life.era r.pick w (took_era w e)) ∙ r.wish ∙ e

    took : (w : Service Asked) → r.begun ≡ Some w → (account_begins (x c.spot) acknowledged number c.life.era.side c.life.era.account c.life.era.account.hand (Some w)).started ≡ starts c.life.era.account w number
    took w e = ap (λ b. (account_begins (x c.spot) acknowledged number c.life.era.side c.life.era.account c.life.era.account.hand b).started) (sym (granted_is w e)) ∙ took_era w e

    hand_is : (w : Service Asked) → r.begun ≡ Some w → (account_begins (x c.spot) acknowledged number c.life.era.side c.life.era.account c.life.era.account.hand (Some w)).hand ≡ v.life.era.account.hand
    hand_is w e = ap (λ b. (account_begins (x c.spot) acknowledged number c.life.era.side c.life.era.account c.life.era.account.hand b).hand) (sym (granted_is w e)) ∙ ap (λ (l : Life Body Asked Reply). l.era.account.hand) (sym at_open)

    first_left : {X : Type 0} (q : Asked) → r.begun ≡ Some (Service.Mails q) → v.life.era.side.halves.out.holding ≡ None → NoneLeft (x c.spot) v.life → X
    first_left q e free left_none =
        let b = mails_took (x c.spot) acknowledged number c.life.era.side c.life.era.account c.life.era.account.hand q (took (Service.Mails q) e) in
        let side : v.life.era.side ≡ side_next (x c.spot) number c.life.era.side (mails_choice c.life.era.account pick) = ap (λ (l : Life Body Asked Reply). l.era.side) at_open in
        let now : v.life.era.side.now ≡ Some (begun q number) =
        ap (λ (d : Side Body Asked Reply). d.now) side
        ∙ begun_row (x c.spot) acknowledged number c.life.era.side c.life.era.account q pick (granted_is (Service.Mails q) e) b (ap (λ (d : Side Body Asked Reply). d.halves.out.holding) (sym side) ∙ free) in
        absurd (o.first q b.valid (left_none (begun q number) now))

    settles : v.under ≡ true → IsClear v.life → v.life.era.side.halves.out.holding ≡ None → v.life.era.account.hand ≡ None → r.begun ≡ None
    settles e clear free none = by r.begun refl
      where
        by : (b : Option (Service Asked)) → r.begun ≡ b → b ≡ None
        by None is = refl
        by (Some (Service.State target)) is =
            state_took (x c.spot) acknowledged number c.life.era.side c.life.era.account c.life.era.account.hand target (took (Service.State target) is) (hand_is (Service.State target) is ∙ none)
        by (Some (Service.Mails q)) is = first_left q is free (r.eager.takes e clear free)

    states : (target : ℕ) → r.begun ≡ Some (Service.State target) → ((era_next (x c.spot) acknowledged is_followed is_passed number c.life.era r.pick).account.started ≡ starts c.life.era.account (Service.State target) number) × (next_of a ≡ None → ⊥)
    states target is = (took_era (Service.State target) is, r.own_state target is)

    -- at a write in vain
    ends : v.under ≡ true → IsClear c.life → EndsHeld (x c.spot) acknowledged (next_of a ≡ None) c.spot.station back v.life behind
    ends e clear =
        subst (λ y. EndsHeld (x c.spot) acknowledged (next_of a ≡ None) c.spot.station back v.life (life_back (x c.spot) acknowledged is_followed is_passed number c.spot v.news back v.came v.life y)) (sym open_now)
        (ends_at (x c.spot) number c.spot c.life.era o.answered o.told o.silent r.pick (λ w wish. took_era w (sym r.wish ∙ wish)) v.life (ap (λ (l : Life Body Asked Reply). l.era) at_open) (next_of a ≡ None)
        (λ free hand passing none. (r.eager.ends e clear (record { free = free.free; done = free.done; hand = hand; passing = passing }) (sym r.wish ∙ none)).script) v.news back v.came)

    -- ---- behind the frame
    opened : GetsNone m m' → Before → Behind × (WaitsYet ⊎ Rests lens s a n m)
    opened gets before =
        let both = open_stands ex processor table x acknowledged is_followed is_passed number sent back c v t slave slave' frame m m' next r.begun r.wish r.eager r.remembers next' gets r.script o.link o.answered states ends o.frees settles stands before in
        (both.0, elim both.1 [ inl waits ↦ inl waits | inr done ↦ inr (r.rest (inr done)) ])

    -- no mail is heard of it
    abbrev Quiet : Type 0
    Quiet = all_accepted c.spot.station v.life.era.side.halves (grams (own c.spot.station back)) ≡ []

    waits_quiet : Waiting (serving ex) c.life slave.node m.memory t → IsUnpaused r.pick m.memory t → Quiet
    waits_quiet w pause = waits_silent ex processor table x acknowledged is_followed is_passed number sent back c v t slave slave' frame m m' next r.begun r.wish r.eager r.remembers o.link w pause

    visited_quiet : Visited (serving ex) (x c.spot) c.life slave.node m.memory t → HeldUp (x c.spot) acknowledged (next_of a ≡ None) c.life m.memory t → Quiet
    visited_quiet w held = waits_quiet w.waits (unpaused (x c.spot) acknowledged is_followed is_passed number c.life m.memory t r.pick (next_of a ≡ None) held (λ target e. states target (sym r.wish ∙ e)))

    fresh_quiet : Unvisited (serving ex) c.life slave.node t → Quiet
    fresh_quiet w = waits_quiet (unvisited_waits (serving ex) c.life slave.node t m.memory w) (λ target e one. absurd (let none = w.tries in omega (arith, none, one)))

    going_quiet : Going table c.life slave.registers t → c.life.era.side.halves.inn.state ≡ HalfState.Clear → Quiet
    going_quiet g clear = going_silent ex processor table x acknowledged is_followed is_passed number sent back c v t slave slave' frame m next r.begun r.eager g clear

    by_standing : Before → Quiet
    by_standing (Standing.gone e) = absurd (let no : Stand.Gone ≡ Stand.Open = sym e ∙ stands in cc)
    by_standing (Standing.fresh w control) = fresh_quiet w
    by_standing (Standing.waits w control end held) = visited_quiet w held
    by_standing (Standing.goes g clear) = going_quiet g clear

  -- its master stands to it before the frame as it chose
  stand_is : v.life.stand ≡ c.life.stand
  stand_is = ap (λ (l : Life Body Asked Reply). l.stand) r.life ∙ stand_next (x c.spot) acknowledged is_followed is_passed number c.life r.pick

  -- ---- one that was given up for good
  gone : c.life.stand ≡ Stand.Gone → Behind × (WaitsYet ⊎ Rests lens s a n m)
  gone e =
      let stand : v.life.stand ≡ Stand.Gone = stand_is ∙ e in (
        Standing.gone (ap (λ y. (life_back (x c.spot) acknowledged is_followed is_passed number c.spot v.news back v.came v.life y).stand) stand ∙ stand),
        inr (r.rest (inl e)),
      )

  pub stands_on : GetsNone m m' → Before → Behind × (WaitsYet ⊎ Rests lens s a n m)
  stands_on gets (Standing.gone e) = gone e
  stands_on gets (Standing.fresh w control) = opened w.shows.stands gets (Standing.fresh w control)
  stands_on gets (Standing.waits w control end held) = opened w.waits.shows.stands gets (Standing.waits w control end held)
  stands_on gets (Standing.goes g clear) = opened g.stands gets (Standing.goes g clear)

  -- no mail is heard of an open one
  pub quiet_at : Before → v.life.stand ≡ Stand.Open → all_accepted c.spot.station v.life.era.side.halves (grams (own c.spot.station back)) ≡ []
  quiet_at before open_then = by_standing (sym stand_is ∙ open_then) before
