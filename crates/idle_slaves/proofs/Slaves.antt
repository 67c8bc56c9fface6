-- ONE SLAVE by a frame that came back and gained nothing of it.
use Rattle.std.proofs.Common.{◌≡◌, ◌⊎◌, ◌≤◌, ℕ, zero, suc, ◌==◌, Bool, true, false, is_some, Option, Some, None, List, [], ◌∷◌, ◌++◌, refl, sym, ap, ◌∙◌, subst, arith, if◌then◌else◌, inl, inr, eq-eqb}
use Rattle.std.specs.Prelude.{◌&&◌}
use Rattle.plan_ring.specs.of_exchange_model.Exchange.{Exchange, Speech}
use Rattle.idle_slaves.specs.Held.{HeldUp, EndsHeld}
use Rattle.plan_ring.specs.of_slave_model.Moments.{IsFree, NowAnswered}
use Rattle.idle_slaves.proofs.Held.{held_up, unpaused}
use Rattle.idle_slaves.specs.Frames.{InVain, node_on, memory_on}
use Rattle.idle_slaves.specs.Going.{registers_on}
use Rattle.idle_slaves.specs.Links.{HasLink}
use Rattle.idle_slaves.specs.Visited.{IsFor, Meets, CameBack, HasRow, IsStill, IsUnpaused, Tells, Waiting, Chosen, LifeSpent, life_visit, memory_of}
use Rattle.idle_slaves.specs.Waiting.{Wanted, Memory, memory_behind, tried, wanted_by}
use Rattle.idle_slaves.proofs.Choosing.{chosen}
use Rattle.idle_slaves.proofs.Frames.{waits_so, was_spent}
use Rattle.idle_slaves.proofs.Returning.{boxed_is, not_boxed}
use Rattle.idle_slaves.proofs.Visited.{full_drains, second, same_node}
use Rattle.idle_slaves.proofs.Waiting.{Holds, holds}
use Rattle.plan_ring.specs.of_life_model.Gains.{gains}
use Rattle.plan_ring.specs.of_life_model.Visits.{Visit}
use Rattle.plan_ring.proofs.of_life_model.Gaining.{next_same}
use Rattle.plan_ring.specs.of_life_model.Lives.{Life, Spot, Stand, life_back, era_next}
use Rattle.plan_ring.specs.of_life_model.Own.{own}
use Rattle.plan_ring.specs.of_link_mails.Body.{Body}
use Rattle.plan_ring.specs.of_link_model.Frames.{Ask, node_meets, halves_answered, halves_accept, all_accepted}
use Rattle.plan_ring.specs.of_link_model.Link.{Halves}
use Rattle.plan_ring.specs.of_link_model.Mails.{LinkMail, news}
use Rattle.plan_ring.specs.of_link_model.Master.{InHalf, OutHalf}
use Rattle.plan_ring.specs.of_link_model.Slave.{Server}
use Rattle.plan_ring.specs.of_master_duty.Reply.{Reply}
use Rattle.plan_ring.specs.of_master_hand.Spoken.{Asked}
use Rattle.plan_ring.specs.of_run_frames.Clocks.{Clocked}
use Rattle.plan_ring.specs.of_run_frames.Goes.{Under, back_life}
use Rattle.plan_ring.specs.of_run_frames.Orders.{is_live}
use Rattle.plan_ring.specs.of_run_frames.Waits.{Waits, waits_on}
use Rattle.plan_ring.specs.of_segment_model.Record.{is_for}
use Rattle.plan_ring.specs.of_segment_model.Seats.{Side}
use Rattle.plan_ring.specs.of_segment_model.Slaves.{Datagram, Access, Found, Serving, Slave, Processor, grams, serving, slave_after}
use Rattle.plan_ring.specs.of_segment_plan.declared.service.Service as Plan
use Rattle.plan_ring.specs.of_state_model.Stated.{Service}
use Rattle.plan_ring.specs.of_state_model.States.{Table, Phase}
use Rattle.idle_slaves.specs.Steps.{NotGone}
use Rattle.plan_ring.specs.of_state_model.Accounts.{Duty, Stage, access_done, account_by, starts}
use Rattle.idle_slaves.specs.Eager.{Remembered, AsksVisit, EachAsksFor, IsClear, NoneLeft, MayBegin, IsAtEnd, IsEager, IsInVain, RemembersOn, GetsNone}
use Rattle.idle_slaves.specs.EagerFrames.{One, FrameAs, TellsBy}
use Rattle.idle_slaves.specs.Standing.{Unvisited, Visited, Standing, IsDone}
use Rattle.idle_slaves.proofs.Behind as Behind
use Rattle.idle_slaves.proofs.Behind.{left_heard}
use Rattle.idle_slaves.proofs.Choices.{row_next, same_next}
use Rattle.idle_slaves.proofs.Sent.{met, met_ask, read_counter, node_behind, registers_behind, came_back}
use Rattle.idle_slaves.proofs.Facts.{for_not_gone, for_draining, asks_visit, visit_registers, untouched, written_full, read_empty, unvisited_waits}
use Rattle.idle_slaves.proofs.Framed as Framed
use Rattle.idle_slaves.proofs.Goings.{going_stands}
use Rattle.idle_slaves.proofs.Fresh.{fresh_on as fresh_behind}

module _ {V A : Type 0} (ex : Exchange V A Body Asked Reply) (processor : Processor V) (table : Table) (x : Spot → Speech Body Asked Reply) (acknowledged : Asked → Bool) (more : Body → Bool) (passed : Asked → Bool) (number : ℕ) (sent back : List (Datagram Body)) where
  abbrev v : Server Body (Serving V Body)
  v = serving ex

  module _ (c : Clocked Body Asked Reply) (u : Under Body Asked Reply) (t : Waits) (s s' : Slave V Body) (f : FrameAs ex processor table x acknowledged more passed number sent back c u t s s') where
    abbrev station : ℕ
    station = c.spot.station

    abbrev behind : Life Body Asked Reply
    behind = back_life x acknowledged more passed number back c u

    inn_is : u.life.era.side.halves.inn ≡ c.life.era.side.halves.inn
    inn_is = Framed.inn_is ex processor table x acknowledged more passed number sent back c u t s s' f

    back_none : u.under ≡ false → own station back ≡ []
    back_none = Framed.back_none ex processor table x acknowledged more passed number sent back c u t s s' f

    sent_none : u.under ≡ false → slave_after station s (own station sent) ≡ s
    sent_none = Framed.sent_none ex processor table x acknowledged more passed number sent back c u t s s' f

    back_one : (o : One station sent) → own station back ≡ met station s f.here o.datagram o.sent_so ∷ []
    back_one = Framed.back_one ex processor table x acknowledged more passed number sent back c u t s s' f

    step_registers : slave_after station s (own station sent) ≡ s → s'.registers ≡ registers_on table number c s.registers
    step_registers = Framed.step_registers ex processor table x acknowledged more passed number sent back c u t s s' f

    step_node : slave_after station s (own station sent) ≡ s → NotGone c.life.era.account.hand → s'.node ≡ node_on v number c s.node
    step_node = Framed.step_node ex processor table x acknowledged more passed number sent back c u t s s' f

    step_control : s'.registers ≡ registers_on table number c s.registers → (t.stepped ≡ true → s.registers.control ≡ None) → (waits_on number c u t).stepped ≡ true → s'.registers.control ≡ None
    step_control = Framed.step_control ex processor table x acknowledged more passed number sent back c u t s s' f

    -- ---- A SLAVE THAT WAITS
    module _ (m n : Remembered) (next : Option Plan.Service) (begun : Option (Service Asked)) (wish : f.pick.begin ≡ begun) (eager : IsEager (x c.spot) station sent m u.under begun next c.life u.life) (remembers : RemembersOn station back m n u.under c.life u.life) where
      module _ (k : Waiting v c.life s.node m.memory t) (link : HasLink c.life.era.side s) (pause_free : IsUnpaused f.pick m.memory t) where
        chose : Chosen v c.life u.life s.node m.memory t
        chose = subst (λ z. Chosen v c.life z s.node m.memory t) (sym f.life) (chosen v c.life s.node m.memory t k (x c.spot) acknowledged more passed number f.pick pause_free)

        clear : IsClear u.life
        clear = record { stands = chose.shows.stands; clear = ap (λ (h : InHalf). h.state) inn_is ∙ ap (λ (h : Halves Body). h.inn.state) (sym k.shows.halves) ∙ (holds v k.link k.wanted m.memory t k.waits).clear }

        row : HasRow u.life s.node
        row = subst (λ z. HasRow z s.node) (sym f.life) (row_next (x c.spot) acknowledged more passed number c.life f.pick s.node
            (link.row (ap (λ (h : InHalf). h.state) (sym inn_is) ∙ clear.clear)))

        -- its visit
        asks : (o : One station sent) → AsksVisit u.life.era.side.halves (life_visit u.life (memory_of c.life u.life m.memory)) o.datagram
        asks o = asks_visit u.life.era.side.halves (memory_of c.life u.life m.memory) u.life.era.account.hand u.life.era.passing o.datagram (for_draining (wanted_by chose.wanted chose.coming) u.life.era.account.hand u.life.era.passing chose.shows.hand)
            (subst (λ ds. EachAsksFor u.life.era.side.halves (memory_of c.life u.life m.memory) u.life.era.account.hand u.life.era.passing ds) o.is (eager.asks clear)).0

        abbrev came : u.under ≡ true → CameBack station s.node u.life.era.side.halves (life_visit u.life (memory_of c.life u.life m.memory)) back
        came e = let o = f.one clear.stands e in came_back station s f.here o.datagram o.sent_so back u.life.era.side.halves (life_visit u.life (memory_of c.life u.life m.memory)) (back_one o) (asks o)

        -- what it tells of a mail that is passed on
        told_by : (w : Visit) (d : Datagram Body) → AsksVisit u.life.era.side.halves w d → (a : Datagram Body) → a.access ≡ d.access → a.gram.ask ≡ d.gram.ask → (d.gram.ask ≡ Ask.ReadMail → s.node.inn.box ≡ None → (a.gram.counter == 0) ≡ true) →
            Meets s.node u.life.era.side.halves w a → TellsBy t.stepped u.news a → Tells t.stepped s.node w u.news
        told_by Visit.Write d asks a access ask read meets by = tt
        told_by Visit.Read d asks a access ask read meets by = λ made empty. by.empty (access ∙ asks.1) (ask ∙ asks.0) (read asks.0 empty) made
        told_by Visit.Full d asks a access ask read (is_ask, is_access, counted, found) by = by.full (is_some s.node.out.box) (access ∙ asks.1) (ask ∙ asks.0) counted found

        told : u.under ≡ true → is_some u.life.era.passing ≡ true → Tells t.stepped s.node (life_visit u.life (memory_of c.life u.life m.memory)) u.news
        told e some =
            let o = f.one clear.stands e in
            let a = met station s f.here o.datagram o.sent_so in
            told_by (life_visit u.life (memory_of c.life u.life m.memory)) o.datagram (asks o) a refl (met_ask station s f.here o.datagram o.sent_so) (read_counter station s f.here o.datagram o.sent_so) (came e).meets (f.tells clear.stands some a (back_one o))

        vain : (u.under ≡ false → u.life ≡ c.life) → InVain x acknowledged more passed number back c u s.node m.memory t
        vain none = record {
          pick = f.pick;
          life = f.life;
          unpaused = pause_free;
          row = row;
          visits = came;
          tells = told;
          none = λ e. (none e, back_none e);
          same = f.same;
          still = f.still;
        }

        same : gains (life_back (x c.spot) acknowledged more passed number c.spot u.news back u.came u.life Stand.Open) ≡ gains u.life
        same =
            ap (λ z. gains (life_back (x c.spot) acknowledged more passed number c.spot u.news back u.came u.life z)) (sym clear.stands) ∙ f.same
            ∙ sym (next_same (x c.spot) acknowledged more passed number c.life c.life.stand f.pick) ∙ ap gains (sym f.life)

        still : (life_back (x c.spot) acknowledged more passed number c.spot u.news back u.came u.life Stand.Open).era.passing ≡ u.life.era.passing
        still = ap (λ z. (life_back (x c.spot) acknowledged more passed number c.spot u.news back u.came u.life z).era.passing) (sym clear.stands) ∙ f.still

        visit_still : u.under ≡ true → IsStill t.stepped s.node (life_visit u.life (memory_of c.life u.life m.memory)) u.news u.life (life_back (x c.spot) acknowledged more passed number c.spot u.news back u.came u.life Stand.Open)
        visit_still e = record { tells = told e; same = still }

        -- it leaves the slave
        visit_node : (e : u.under ≡ true) → node_meets s.node (let o = f.one clear.stands e in met station s f.here o.datagram o.sent_so).gram.ask ≡ s.node
        visit_node e = same_node v (x c.spot) acknowledged more passed number c.spot u.news back u.came u.life s.node m.memory t c.life chose row (came e) same (visit_still e)

        left_so : (b : Bool) → u.under ≡ b → slave_after station s (own station sent) ≡ s
        left_so false e = sent_none e
        left_so true e =
            let o = f.one clear.stands e in
            untouched station s o.datagram (own station sent) o.is (node_behind station s f.here o.datagram o.sent_so ∙ visit_node e)
            (registers_behind station s f.here o.datagram o.sent_so ∙ visit_registers u.life.era.side.halves (life_visit u.life (memory_of c.life u.life m.memory)) o.datagram s.registers (asks o))

        pub left : slave_after station s (own station sent) ≡ s
        left = left_so u.under refl

        not_gone : NotGone c.life.era.account.hand
        not_gone = for_not_gone k.wanted c.life.era.account.hand c.life.era.passing k.shows.hand

        -- behind it the hand is none, or drains yet
        module _ (i : InVain x acknowledged more passed number back c u s.node m.memory t) where
          pub waits : Waiting v behind (node_on v number c s.node) (memory_on c u m.memory) (waits_on number c u t)
          waits = waits_so v x acknowledged more passed number back c u s.node m.memory t k i

          -- where mailbox 0 was to be seen empty, it was full
          saw_full : (o : One station sent) → u.under ≡ true → (duty : Duty) → u.life.era.account.hand ≡ Some duty → duty.stage ≡ Stage.Drains → (d : Datagram Body) → own station back ≡ d ∷ [] → d.gram.station ≡ station → is_for station d.address ≡ true → d.access ≡ Access.ReadFull →
              (d.counter == 0) ≡ false → (box : Option (LinkMail Body)) → d.found ≡ Some (Found.Full (is_some box)) → is_some box ≡ true
          saw_full o e duty hand stage d one is address access counted (Some b) found = refl
          saw_full o e duty hand stage d one is address access counted None found = never waits.wanted waits.shows.hand
            where
              goes : behind.era.account.hand ≡ Some (record duty { stage = Stage.Goes Phase.Ask })
              goes =
                  Behind.hand_one (x c.spot) acknowledged more passed number c.spot u.news back u.came u.life clear.stands d one is duty hand address counted
                  ∙ (λ z. (account_by number u.life.era.account duty (access_done {R = Reply} duty.target (stage z) (access z) (found z))).hand)

              never : (q : Wanted) → IsFor q behind.era.account.hand behind.era.passing → is_some (let none : Option (LinkMail Body) = None in none) ≡ true
              never Wanted.Mails (none, unboxed) = absurd (let no : Some (record duty { stage = Stage.Goes Phase.Ask }) ≡ None = sym goes ∙ none in cc)
              never Wanted.Drains (inr (none, boxed)) = absurd (let no : Some (record duty { stage = Stage.Goes Phase.Ask }) ≡ None = sym goes ∙ none in cc)
              never Wanted.Drains (inl (other, is, drains)) =
                  let same : record duty { stage = Stage.Goes Phase.Ask } ≡ other = (let both : Some (record duty { stage = Stage.Goes Phase.Ask }) ≡ Some other = sym goes ∙ is in cc) in
                  absurd (let no : Stage.Goes Phase.Ask ≡ Stage.Drains = ap (λ (z : Duty). z.stage) same ∙ drains in cc)

          -- so it was in vain
          drains_now : life_visit u.life (memory_of c.life u.life m.memory) ≡ Visit.Full → IsFor Wanted.Drains u.life.era.account.hand u.life.era.passing
          drains_now e = full_drains (wanted_by chose.wanted chose.coming) u.life.era.account.hand u.life.era.passing (memory_of c.life u.life m.memory) (is_some u.life.era.side.halves.out.holding) chose.shows.hand e

          module _ (e : u.under ≡ true) where
            abbrev o : One station sent
            o = f.one clear.stands e

            abbrev d : Datagram Body
            d = met station s f.here o.datagram o.sent_so

            abbrev visit : Visit
            visit = life_visit u.life (memory_of c.life u.life m.memory)

            is_vain : (w : Visit) → visit ≡ w → AsksVisit u.life.era.side.halves w o.datagram → Meets s.node u.life.era.side.halves w d → IsInVain w d
            is_vain Visit.Write is asks (mail, held, ask, counter, access) = ap (λ n. n == 0) (counter ∙ written_full s.node mail (ap (node_meets s.node) (sym ask) ∙ visit_node e))
            is_vain Visit.Read is asks meets = tt
            is_vain Visit.Full is asks (ask, access, counted, found) =
                (counted, found ∙ ap (λ z. Some (Found.Full z)) (is_full (drains_now is)))
              where
                is_full : IsFor Wanted.Drains u.life.era.account.hand u.life.era.passing → is_some s.node.out.box ≡ true
                is_full (inl k) = saw_full o e k.0 k.1 k.2 d (came e).one (came e).station_is (came e).address access counted s.node.out.box found
                is_full (inr (none, boxed)) =
                    let b = not_boxed (x c.spot) acknowledged more passed number c.spot u.news back u.came u.life s.node t.stepped (boxed_is u.life.era.passing boxed)
                    (subst (λ z. IsStill t.stepped s.node z u.news u.life (life_back (x c.spot) acknowledged more passed number c.spot u.news back u.came u.life Stand.Open)) is (visit_still e)) in
                    ap is_some b.1

            -- the mail held stays held, and nothing is heard
            same_out : (w : Visit) → visit ≡ w → Meets s.node u.life.era.side.halves w d → IsInVain w d → (halves_answered u.life.era.side.halves d.gram.ask d.gram).out ≡ u.life.era.side.halves.out
            same_out Visit.Write is (mail, held, ask, counter, access) full =
                let h = u.life.era.side.halves in
                ap (λ a. (halves_answered h a d.gram).out) ask ∙ ap (λ (b : Bool). if b then h.out else record h.out { holding = None }) full
            same_out Visit.Read is (ask, mail, access) full = ap (λ a. (halves_answered u.life.era.side.halves a d.gram).out) ask
            same_out Visit.Full is (ask, access, counted, found) full = ap (λ a. (halves_answered u.life.era.side.halves a d.gram).out) ask

            hears_none : (w : Visit) → visit ≡ w → Meets s.node u.life.era.side.halves w d → halves_accept u.life.era.side.halves d.gram.ask d.gram ≡ []
            hears_none Visit.Write is (mail, held, ask, counter, access) = ap (λ a. halves_accept u.life.era.side.halves a d.gram) ask
            hears_none Visit.Read is (ask, mail, access) =
                ap (λ a. halves_accept u.life.era.side.halves a d.gram) ask
                ∙ ap (λ z. news u.life.era.side.halves.inn.last z) (mail ∙ read_empty s.node (ap (node_meets s.node) (sym ask) ∙ visit_node e))
            hears_none Visit.Full is (ask, access, counted, found) = ap (λ a. halves_accept u.life.era.side.halves a d.gram) ask

            abbrev meets : Meets s.node u.life.era.side.halves visit d
            meets = (came e).meets

            in_vain : IsInVain visit d
            in_vain = is_vain visit refl (asks o) meets

            left_visited : behind.era.side.halves.out.holding ≡ None → NoneLeft (x c.spot) behind
            left_visited free =
                let halves = Behind.halves_one (x c.spot) acknowledged more passed number c.spot u.news back u.came u.life clear.stands d (came e).one (came e).station_is in
                let held : u.life.era.side.halves.out.holding ≡ None = ap (λ (z : OutHalf Body). z.holding) (sym (ap (λ (h : Halves Body). h.out) halves ∙ same_out visit refl meets in_vain)) ∙ free in
                left_heard (x c.spot) number u.life.era.side.now behind.era.side.now
                (Behind.now_one (x c.spot) acknowledged more passed number c.spot u.news back u.came u.life clear.stands d (came e).one (came e).station_is (hears_none visit refl meets)) (eager.takes e clear held)

            remembers_so : n.memory ≡ memory_behind (memory_of c.life u.life m.memory) visit
            remembers_so = remembers.visited e clear (for_draining (wanted_by chose.wanted chose.coming) u.life.era.account.hand u.life.era.passing chose.shows.hand) d (came e).one in_vain

          -- what is remembered is what such a visit leaves
          memory_is : (b : Bool) → u.under ≡ b → n.memory ≡ (if b then memory_behind (memory_of c.life u.life m.memory) (life_visit u.life (memory_of c.life u.life m.memory)) else m.memory)
          memory_is true e = remembers_so e
          memory_is false e = remembers.unvisited e clear.stands

          left_none : u.under ≡ false → (u.life.era.side.halves.out.holding ≡ None → NoneLeft (x c.spot) u.life) → behind.era.side.halves.out.holding ≡ None → NoneLeft (x c.spot) behind
          left_none e before free =
              let halves = Behind.halves_none (x c.spot) acknowledged more passed number c.spot u.news back u.came u.life clear.stands (back_none e) in
              left_heard (x c.spot) number u.life.era.side.now behind.era.side.now (Behind.now_none (x c.spot) acknowledged more passed number c.spot u.news back u.came u.life clear.stands (back_none e))
              (before (ap (λ (h : Halves Body). h.out.holding) (sym halves) ∙ free))

          left_behind : (b : Bool) → u.under ≡ b → (b ≡ false → u.life.era.side.halves.out.holding ≡ None → NoneLeft (x c.spot) u.life) → behind.era.side.halves.out.holding ≡ None → NoneLeft (x c.spot) behind
          left_behind true e before = left_visited e
          left_behind false e before = left_none e (before refl)

          -- no mail was heard
          silent_one : (e : u.under ≡ true) → all_accepted station u.life.era.side.halves (grams (own station back)) ≡ []
          silent_one e =
              let h = u.life.era.side.halves in
              let o : One station sent = f.one clear.stands e in
              let d : Datagram Body = met station s f.here o.datagram o.sent_so in
              ap (λ (ds : List (Datagram Body)). all_accepted station h (grams ds)) (came e).one
              ∙ ap (λ (b : Bool). (if b then halves_accept h d.gram.ask d.gram else []) ++ []) (eq-eqb d.gram.station station (came e).station_is)
              ∙ ap (λ ms. ms ++ []) (hears_none e (life_visit u.life (memory_of c.life u.life m.memory)) refl (came e).meets)

          -- VISITED, behind it
          pub visited_on : (u.under ≡ false → u.life.era.side.halves.out.holding ≡ None → NoneLeft (x c.spot) u.life) → Visited v (x c.spot) behind s'.node n.memory (waits_on number c u t)
          visited_on before = record {
            waits = subst (λ z. Waiting v behind z n.memory (waits_on number c u t)) (sym (step_node left not_gone))
                (subst (λ z. Waiting v behind (node_on v number c s.node) z (waits_on number c u t)) (sym (memory_is u.under refl)) waits);
            left = left_behind u.under refl (λ e. before e);
          }

      -- ---- NO MAIL WAS HEARD of it
      module _ (link : HasLink c.life.era.side s) where
        abbrev pub Silent : Type 0
        Silent = all_accepted c.spot.station u.life.era.side.halves (grams (own c.spot.station back)) ≡ []

        silent_none : u.under ≡ false → Silent
        silent_none e = ap (λ (ds : List (Datagram Body)). all_accepted station u.life.era.side.halves (grams ds)) (back_none e)

        pub waits_silent : Waiting v c.life s.node m.memory t → IsUnpaused f.pick m.memory t → Silent
        waits_silent k pause = go u.under refl
          where
            go : (b : Bool) → u.under ≡ b → Silent
            go true e = silent_one k link pause (vain k link pause (λ out. absurd (let no : true ≡ false = sym e ∙ out in cc))) e
            go false e = silent_none e

      -- ---- WHAT IT IS BEHIND THE FRAME
      module _ (next' : Option Plan.Service) (gets : GetsNone m n) (script : next ≡ None → next' ≡ None) (link : HasLink c.life.era.side s) (answered : NowAnswered (x c.spot) c.life.era.side)
          (states : (target : ℕ) → begun ≡ Some (Service.State target) → ((era_next (x c.spot) acknowledged more passed number c.life.era f.pick).account.started ≡ starts c.life.era.account (Service.State target) number) × (next ≡ None → ⊥))
          (holds_up : u.under ≡ true → IsClear c.life → EndsHeld (x c.spot) acknowledged (next ≡ None) c.spot.station back u.life (back_life x acknowledged more passed number back c u)) (frees : LifeSpent v c.life s.node → NoneLeft (x c.spot) c.life → MayBegin (x c.spot) c.life)
          (settles : u.under ≡ true → IsClear u.life → u.life.era.side.halves.out.holding ≡ None → u.life.era.account.hand ≡ None → begun ≡ None) where
        abbrev on : Waits
        on = waits_on number c u t

        abbrev Stands : Type 0
        Stands = Standing v table (x c.spot) acknowledged behind s' n next' on

        abbrev WaitsYet : Type 0
        WaitsYet = (is_live behind.stand ≡ true) × (on.tries ≤ 1)

        abbrev Done : Type 0
        Done = IsDone v (x c.spot) c.life s m next

        open_waits : (k : Waiting v behind s'.node n.memory on) → on.tries ≤ 1 → WaitsYet
        open_waits k few = (ap is_live k.shows.stands, few)

        packet_none : IsAtEnd next m → IsAtEnd next' n
        packet_none e = record { script = script e.script; packet = by n.packet m.packet gets.packet e.packet; asked = by n.asked m.asked gets.asked e.asked }
          where
            by : (b c : Bool) → (b ≡ true → c ≡ true) → c ≡ false → b ≡ false
            by false c is none = refl
            by true c is none = absurd (let no : true ≡ false = sym (is refl) ∙ none in cc)

        -- behind a write in vain where a state service might begin, the script is at its end
        abbrev HeldOn : Life Body Asked Reply → Memory → Waits → Type 0
        HeldOn l mem w = HeldUp (x c.spot) acknowledged (next ≡ None) l mem w

        script_on : HeldOn behind n.memory on → HeldUp (x c.spot) acknowledged (next' ≡ None) behind n.memory on
        script_on h one paused hand unpassed free = script (h one paused hand unpassed free)

        state_begins : (target : ℕ) → f.pick.begin ≡ Some (Service.State target) → ((era_next (x c.spot) acknowledged more passed number c.life.era f.pick).account.started ≡ starts c.life.era.account (Service.State target) number) × (next ≡ None → ⊥)
        state_begins target e = states target (sym wish ∙ e)

        module _ (w : Waiting v c.life s.node m.memory t) (free : IsUnpaused f.pick m.memory t) (i : InVain x acknowledged more passed number back c u s.node m.memory t) (e : u.under ≡ true) where
          abbrev open_behind : Life Body Asked Reply
          open_behind = life_back (x c.spot) acknowledged more passed number c.spot u.news back u.came u.life Stand.Open

          open_is : behind ≡ open_behind
          open_is = ap (λ z. life_back (x c.spot) acknowledged more passed number c.spot u.news back u.came u.life z) (clear w link free).stands

          clear_c : IsClear c.life
          clear_c = record { stands = w.shows.stands; clear = ap (λ (h : Halves Body). h.inn.state) (sym w.shows.halves) ∙ (holds v w.link w.wanted m.memory t w.waits).clear }

          up : HeldOn open_behind (memory_behind (memory_of c.life u.life m.memory) (life_visit u.life (memory_of c.life u.life m.memory))) (tried t)
          up = held_up (x c.spot) acknowledged more passed number c.spot u.news back u.came u.life v c.life s.node m.memory t (next ≡ None) (chose w link free) (row w link free) (came w link free e) (same w link free) (visit_still w link free e)
              (subst (λ z. EndsHeld (x c.spot) acknowledged (next ≡ None) c.spot.station back u.life z) open_is (holds_up e clear_c))

          as_tried : 1 ≤ on.tries → 1 ≤ (tried t).tries
          as_tried one = subst (λ (b : Bool). 1 ≤ (if b && t.stepped then suc t.tries else t.tries)) e one

          pub held_visited : HeldOn behind n.memory on
          held_visited =
              subst (λ z. HeldOn z n.memory on) (sym open_is)
              (subst (λ z. HeldOn open_behind z on) (sym (remembers_so w link free i e)) (λ one paused hand unpassed might. up (as_tried one) paused hand unpassed might))

        -- ---- it was visited already
        module _ (k : Visited v (x c.spot) c.life s.node m.memory t) (control : t.stepped ≡ true → s.registers.control ≡ None) (end : 2 ≤ t.tries → IsAtEnd next m)
            (held : HeldUp (x c.spot) acknowledged (next ≡ None) c.life m.memory t) where
          unpaused_now : IsUnpaused f.pick m.memory t
          unpaused_now = unpaused (x c.spot) acknowledged more passed number c.life m.memory t f.pick (next ≡ None) held state_begins

          stays_so : u.under ≡ false → u.life ≡ c.life
          stays_so e = f.life ∙ same_next (x c.spot) acknowledged more passed number c.life f.pick k.waits.shows.stands (wish ∙ eager.begins e) (λ free r now. k.left free r now)

          i : InVain x acknowledged more passed number back c u s.node m.memory t
          i = vain k.waits link unpaused_now stays_so

          before : u.under ≡ false → u.life.era.side.halves.out.holding ≡ None → NoneLeft (x c.spot) u.life
          before e free = subst (λ z. NoneLeft (x c.spot) z) (sym (stays_so e)) (k.left (ap (λ (z : Life Body Asked Reply). z.era.side.halves.out.holding) (sym (stays_so e)) ∙ free))

          now : Visited v (x c.spot) behind s'.node n.memory on
          now = visited_on k.waits link unpaused_now i before

          none_left : LifeSpent v c.life s.node → NoneLeft (x c.spot) c.life
          none_left spent = k.left (sym (ap (λ (h : Halves Body). h.out.holding) spent.shows.halves) ∙ spent.spent.held)

          was : Holds v k.waits.link k.waits.wanted m.memory t
          was = holds v k.waits.link k.waits.wanted m.memory t k.waits.waits

          stepped_so : (b : Bool) → t.stepped ≡ b → 1 ≤ t.tries → b ≡ true
          stepped_so true e one = refl
          stepped_so false e one = absurd (let none : t.tries ≡ 0 = was.none e in omega (arith, none, one))

          clear_before : IsClear c.life
          clear_before = record { stands = k.waits.shows.stands; clear = ap (λ (h : Halves Body). h.inn.state) (sym k.waits.shows.halves) ∙ was.clear }

          ends_now : u.under ≡ true → 1 ≤ t.tries → IsAtEnd next m
          ends_now e one =
              let spent = second v (x c.spot) acknowledged more passed number c.spot u.news back u.came u.life s.node m.memory t c.life (chose k.waits link unpaused_now) (row k.waits link unpaused_now) (came k.waits link unpaused_now e) (same k.waits link unpaused_now) (visit_still k.waits link unpaused_now e) one in
              eager.ends e clear_before (frees spent.0 (none_left spent.0)) (settles e (clear k.waits link unpaused_now) (sym (ap (λ (h : Halves Body). h.out.holding) spent.1.shows.halves) ∙ spent.1.spent.held) spent.1.shows.hand.0)

          at_end : (under stepped : Bool) → u.under ≡ under → t.stepped ≡ stepped → 2 ≤ (if under && stepped then suc t.tries else t.tries) → IsAtEnd next m
          at_end true true e g two = ends_now e (omega (arith, two))
          at_end true false e g two = end two
          at_end false stepped e g two = end two

          one_of : (under stepped : Bool) → 2 ≤ (if under && stepped then suc t.tries else t.tries) → 1 ≤ t.tries
          one_of true true two = omega (arith, two)
          one_of true false two = omega (arith, two)
          one_of false stepped two = omega (arith, two)

          done : 2 ≤ on.tries → Done
          done two =
              let spent = was_spent v x acknowledged more passed number back c u s.node m.memory t k.waits i two in
              record {
                spent = spent;
                left = none_left spent;
                end = at_end u.under t.stepped refl refl two;
                control = control (stepped_so t.stepped refl (one_of u.under t.stepped two));
              }

          -- with no visit the side stays
          side_same : u.under ≡ false → behind.era.side ≡ c.life.era.side
          side_same e =
              Behind.side_none (x c.spot) acknowledged more passed number c.spot u.news back u.came u.life (clear k.waits link unpaused_now).stands (back_none e) (subst (λ (z : Life Body Asked Reply). NowAnswered (x c.spot) z.era.side) (sym (stays_so e)) answered)
              ∙ ap (λ (z : Life Body Asked Reply). z.era.side) (stays_so e)

          hand_same : u.under ≡ false → behind.era.account.hand ≡ c.life.era.account.hand
          hand_same e = Behind.hand_none (x c.spot) acknowledged more passed number c.spot u.news back u.came u.life (clear k.waits link unpaused_now).stands (back_none e) ∙ ap (λ (z : Life Body Asked Reply). z.era.account.hand) (stays_so e)

          passing_same : u.under ≡ false → behind.era.passing ≡ c.life.era.passing
          passing_same e = f.still ∙ ap (λ (z : Life Body Asked Reply). z.era.passing) (stays_so e)

          as_before : u.under ≡ false → 1 ≤ on.tries → 1 ≤ t.tries
          as_before e one = subst (λ (b : Bool). 1 ≤ (if b && t.stepped then suc t.tries else t.tries)) e one

          held_none : u.under ≡ false → HeldOn behind n.memory on
          held_none e one paused hand unpassed free =
              held (as_before e one) (ap (λ (z : Memory). z.paused) (sym (remembers.unvisited e (clear k.waits link unpaused_now).stands)) ∙ paused) (sym (hand_same e) ∙ hand) (sym (passing_same e) ∙ unpassed)
              (subst (λ (d : Side Body Asked Reply). IsFree (x c.spot) acknowledged d) (side_same e) free)

          held_now : (b : Bool) → u.under ≡ b → HeldOn behind n.memory on
          held_now true e = held_visited k.waits unpaused_now i e
          held_now false e = held_none e

          pub visited_stands : Stands
          visited_stands =
              Standing.waits now (step_control (step_registers (left k.waits link unpaused_now)) control) (λ two. packet_none (at_end u.under t.stepped refl refl two))
              (script_on (held_now u.under refl))

          pub visited_waits : WaitsYet ⊎ Done
          visited_waits = by on.tries refl
            where
              by : (tries : ℕ) → on.tries ≡ tries → WaitsYet ⊎ Done
              by zero e = inl (open_waits now.waits (omega (arith, e)))
              by (suc zero) e = inl (open_waits now.waits (omega (arith, e)))
              by (suc (suc tries)) e = inr (done (omega (arith, e)))

        -- ---- it was not
        module _ (k : Unvisited v c.life s.node t) (control : t.stepped ≡ true → s.registers.control ≡ None) where
          first : Waiting v c.life s.node m.memory t
          first = unvisited_waits v c.life s.node t m.memory k

          few : (under stepped : Bool) → (if under && stepped then suc t.tries else t.tries) ≤ 1
          few true true = let e = k.tries in omega (arith, e)
          few true false = let e = k.tries in omega (arith, e)
          few false stepped = let e = k.tries in omega (arith, e)

          unpaused_first : IsUnpaused f.pick m.memory t
          unpaused_first target e one = absurd (let none = k.tries in omega (arith, none, one))

          -- it is visited now
          visited_now : u.under ≡ true → Visited v (x c.spot) behind s'.node n.memory on
          visited_now e = visited_on first link unpaused_first (vain first link unpaused_first (λ out. absurd (let no : true ≡ false = sym e ∙ out in cc))) (λ out. absurd (let no : true ≡ false = sym e ∙ out in cc))

          -- or it isn't: what came into hand came into hand when something was gained
          -- or it isn't
          abbrev fresh_on : u.under ≡ false → Unvisited v behind s'.node on
          fresh_on out = fresh_behind ex processor table x acknowledged more passed number sent back c u t s s' f m.memory k out

          by_under : (b : Bool) → u.under ≡ b → Stands × WaitsYet
          by_under true e =
              let now = visited_now e in (
                Standing.waits now (step_control (step_registers (left first link unpaused_first)) control) (λ two. absurd (let one = few u.under t.stepped in omega (arith, one, two)))
                    (script_on (held_visited first unpaused_first (vain first link unpaused_first (λ out. absurd (let no : true ≡ false = sym e ∙ out in cc))) e)),
                open_waits now.waits (few u.under t.stepped),
              )
          by_under false e =
              let now = fresh_on e in (Standing.fresh now (step_control (step_registers (sent_none e)) control), (ap is_live now.shows.stands, few u.under t.stepped))

          pub fresh_stands : Stands × WaitsYet
          fresh_stands = by_under u.under refl

        -- ---- HOWEVER IT STOOD, while it is open
        pub open_stands : c.life.stand ≡ Stand.Open → Standing v table (x c.spot) acknowledged c.life s m next t → Stands × (WaitsYet ⊎ Done)
        open_stands stands (Standing.gone e) = absurd (let never : Stand.Gone ≡ Stand.Open = sym e ∙ stands in cc)
        open_stands stands (Standing.fresh k control) = let both = fresh_stands k control in (both.0, inl both.1)
        open_stands stands (Standing.waits k control end held) = (visited_stands k control end held, visited_waits k control end held)
        open_stands stands (Standing.goes g clear) = let both = going_stands ex processor table x acknowledged more passed number sent back c u t s s' f m next begun eager g clear n next' in (both.0, inl both.1)
