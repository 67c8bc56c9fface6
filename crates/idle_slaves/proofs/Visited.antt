-- A slave that waits, visit by visit.
use Rattle.std.proofs.Common.{◌≡◌, ◌≤◌, ℕ, Bool, true, false, is_some, Option, None, List, [], refl, sym, ap, ◌∙◌, subst, if◌then◌else◌, inl, inr}
use Rattle.plan_ring.specs.of_exchange_model.Exchange.{Speech}
use Rattle.plan_ring.specs.of_life_model.Gains.{gains}
use Rattle.plan_ring.specs.of_life_model.Visits.{Visit, mails_visit, drain_visit, visit_gain, visited}
use Rattle.plan_ring.specs.of_life_model.Lives.{Life, Spot, Stand, life_back}
use Rattle.plan_ring.specs.of_life_model.Own.{own}
use Rattle.plan_ring.specs.of_link_model.Frames.{node_meets}
use Rattle.plan_ring.specs.of_link_model.Link.{Halves, Link, Event, happens}
use Rattle.plan_ring.specs.of_link_model.Master.{InState}
use Rattle.plan_ring.specs.of_link_model.Slave.{Node, Server, processor_step}
use Rattle.plan_ring.specs.of_run_frames.Waits.{Waits}
use Rattle.plan_ring.specs.of_segment_model.Ends.{Passing}
use Rattle.plan_ring.specs.of_segment_model.Record.{News}
use Rattle.plan_ring.specs.of_segment_model.Slaves.{Datagram, Found}
use Rattle.plan_ring.specs.of_state_model.Accounts.{Duty}
use Rattle.idle_slaves.specs.Waiting.{Wanted, Memory, Coming, IsVain, IsWaiting, IsIdle, link_by, wanted_by, memory_by, memory_behind, visit_by, visit_with, tried}
use Rattle.idle_slaves.specs.Visited.{IsFor, Shows, CameBack, HasRow, IsStill, Waiting, Chosen, LifeSpent, is_served, visit_for, life_visit, memory_of}
use Rattle.idle_slaves.proofs.Returning.{IsVainly, vainly, not_served, served_is, then_hand, then_halves, then_stands, hand_none, halves_none}
use Rattle.idle_slaves.proofs.Visiting.{Same, vain_same}
use Rattle.idle_slaves.proofs.Waiting.{Holds, Comes, comes, holds, is_stepped, tried_more, spent, idle}

-- the visit, by life and by link
visit_is : (q : Wanted) (hand : Option Duty) (p : Option Passing) (m : Memory) (b : Bool) → IsFor q hand p → visit_for hand p m b ≡ visit_by q m b
visit_is Wanted.Mails hand p m b (none, unboxed) = ap (λ z. visit_for z p m b) none ∙ ap (λ (z : Bool). if z then drain_visit m.turn else mails_visit m.paused b) unboxed
visit_is Wanted.Drains hand p m b (inl (duty, is, stage)) = ap (λ z. visit_for z p m b) is
visit_is Wanted.Drains hand p m b (inr (none, boxed)) = ap (λ z. visit_for z p m b) none ∙ ap (λ (z : Bool). if z then drain_visit m.turn else mails_visit m.paused b) boxed

-- the status of mailbox 0 is read only while a state service drains, or mailbox 0 has taken a mail that is passed on
mails_full : {X : Type 0} (p b : Bool) → mails_visit p b ≡ Visit.Full → X
mails_full true b e = absurd (let no : Visit.Read ≡ Visit.Full = e in cc)
mails_full false true e = absurd (let no : Visit.Write ≡ Visit.Full = e in cc)
mails_full false false e = absurd (let no : Visit.Read ≡ Visit.Full = e in cc)

pub full_drains : (q : Wanted) (hand : Option Duty) (p : Option Passing) (m : Memory) (b : Bool) → IsFor q hand p → visit_for hand p m b ≡ Visit.Full → IsFor Wanted.Drains hand p
full_drains Wanted.Mails hand p m b e full = mails_full m.paused b (sym (visit_is Wanted.Mails hand p m b e) ∙ full)
full_drains Wanted.Drains hand p m b e full = e

-- where nothing is held and nothing drains mailbox 1 is read
reads : (p : Bool) → mails_visit p false ≡ Visit.Read
reads true = refl
reads false = refl

idle_reads : {B S : Type 0} (v : Server B S) (w : Link B S) (q : Wanted) (m : Memory) (c : Coming B) → q ≡ Wanted.Mails → c ≡ Coming.Nothing → w.halves.out.holding ≡ None → visit_with v w q m c ≡ Visit.Read
idle_reads {B} v w q m c e f none =
    ap (λ z. visit_with v w z m c) e ∙ ap (λ (z : Coming B). visit_with v w Wanted.Mails m z) f ∙ ap (λ h. mails_visit m.paused (is_some h)) none ∙ reads m.paused

-- of an open slave
pub at_open : {M Q R S : Type 0} (x : Speech M Q R) (acknowledged : Q → Bool) (more : M → Bool) (passed : Q → Bool) (frame : ℕ) (spot : Spot) (ns : List (News M)) (back : List (Datagram M)) (came : Option (Bool × Option Found)) (l : Life M Q R) (n : Node M S) (t : Waits) (visit : Visit) → l.stand ≡ Stand.Open →
    IsStill t.stepped n visit ns l (life_back x acknowledged more passed frame spot ns back came l l.stand) → IsStill t.stepped n visit ns l (life_back x acknowledged more passed frame spot ns back came l Stand.Open)
at_open x acknowledged more passed frame spot ns back came l n t visit stands still = subst (λ s. IsStill t.stepped n visit ns l (life_back x acknowledged more passed frame spot ns back came l s)) stands still

module _ {M Q R S : Type 0} (v : Server M S) (x : Speech M Q R) (acknowledged : Q → Bool) (more : M → Bool) (passed : Q → Bool) (frame : ℕ) (spot : Spot) (ns : List (News M)) (back : List (Datagram M)) (came : Option (Bool × Option Found)) (l : Life M Q R) (n : Node M S) (m : Memory) (t : Waits) where
  abbrev at : Stand → Life M Q R
  at stand = life_back x acknowledged more passed frame spot ns back came l stand

  -- ---- A VISIT
  module _ (old : Life M Q R) (c : Chosen v old l n m t) (row : HasRow l n) (b : CameBack spot.station n l.era.side.halves (life_visit l (memory_of old l m)) back) (same : gains (at Stand.Open) ≡ gains l)
      (still : IsStill t.stepped n (life_visit l (memory_of old l m)) ns l (at Stand.Open)) where
    abbrev u : Link M S
    u = link_by v c.link c.coming

    abbrev q : Wanted
    q = wanted_by c.wanted c.coming

    abbrev mem : Memory
    mem = memory_of old l m

    abbrev visit : Visit
    visit = life_visit l mem

    link : Holds v c.link c.wanted m t
    link = holds v c.link c.wanted m t c.waits

    come : Comes c.link u
    come = comes v c.link c.coming link.agrees

    clear : u.halves.inn.state ≡ InState.Clear
    clear = ap (λ k. k.state) come.inn ∙ link.clear

    remembers : mem ≡ memory_by m c.coming
    remembers = c.remembers

    visits : visit ≡ visit_with v c.link c.wanted m c.coming
    visits = visit_is q l.era.account.hand l.era.passing mem (is_some l.era.side.halves.out.holding) c.shows.hand ∙ ap (λ (h : Halves M). visit_by q mem (is_some h.out.holding)) (sym c.shows.halves) ∙ ap (λ z. visit_by q z (is_some u.halves.out.holding)) remembers

    vain : IsVainly l (at Stand.Open) n u visit q b.datagram.gram.ask
    vain = vainly x acknowledged more passed frame spot ns back came l c.shows.stands q n u c.shows.halves c.shows.node come.agrees (ap (λ (h : Halves M). h.inn.state) (sym c.shows.halves) ∙ clear) row c.shows.hand same still.same t.stepped visit
        (full_drains q l.era.account.hand l.era.passing mem (is_some l.era.side.halves.out.holding) c.shows.hand) still b

    pub same_node : node_meets n b.datagram.gram.ask ≡ n
    same_node = vain.node

    in_vain : IsVain v c.link c.wanted m c.coming
    in_vain = subst (λ z. visit_gain u z ≡ 0) visits vain.gain

    waiting : IsWaiting v (visited v u visit) q (memory_behind mem visit) (tried t)
    waiting = subst (λ z. IsWaiting v (visited v u visit) q (memory_behind z visit) (tried t)) (sym remembers)
        (subst (λ z. IsWaiting v (visited v u z) q (memory_behind (memory_by m c.coming) z) (tried t)) (sym visits) (IsWaiting.visits c.link c.wanted m t c.coming c.waits c.may in_vain))

    -- a mail that the slave has taken would be over
    node_is : c.link.node ≡ n
    node_is = c.was.node

    unserved : 1 ≤ t.tries → is_served l.era.passing ≡ false
    unserved one =
        let i = idle v c.link c.wanted m t c.coming c.waits one c.may in_vain in
        let read : visit ≡ Visit.Read = visits ∙ idle_reads v c.link c.wanted m c.coming i.wanted i.nothing i.spent.held in
        go (is_served l.era.passing) refl (subst (λ z. IsStill t.stepped n z ns l (at Stand.Open)) read still) (sym (ap (λ (k : Node M S). k.inn.box) node_is) ∙ i.spent.box)
      where
        go : (z : Bool) → is_served l.era.passing ≡ z → IsStill t.stepped n Visit.Read ns l (at Stand.Open) → n.inn.box ≡ None → z ≡ false
        go false e kept empty = refl
        go true e kept empty = not_served x acknowledged more passed frame spot ns back came l n t.stepped (is_stepped t.stepped t.tries link.none one) empty (served_is l.era.passing e) kept

    stays : Same u (visited v u visit)
    stays = vain_same v u visit come.agrees clear vain.gain

    pub on : Waiting v (at Stand.Open) n (memory_behind mem visit) (tried t)
    on = record {
      link = visited v u visit;
      wanted = q;
      waits = waiting;
      shows = record { halves = stays.halves ∙ c.shows.halves ∙ sym vain.halves; node = stays.node ∙ c.shows.node; hand = vain.hand; stands = vain.stands };
      unserved = λ two. ap is_served still.same ∙ unserved (tried_more t.stepped t.tries 1 link.none two).1;
    }

    idle_shows : IsIdle v c.link c.wanted c.coming → Shows l n c.link Wanted.Mails
    idle_shows i = record {
      halves = sym (ap (λ z. (link_by v c.link z).halves) i.nothing) ∙ c.shows.halves;
      node = sym come.node ∙ c.shows.node;
      hand = subst (λ z. IsFor z l.era.account.hand l.era.passing) (ap (wanted_by c.wanted) i.nothing ∙ i.wanted) c.shows.hand;
      stands = c.shows.stands;
    }

    old_shows : IsIdle v c.link c.wanted c.coming → Shows old n c.link Wanted.Mails
    old_shows i = record { halves = c.was.halves; node = c.was.node; hand = subst (λ z. IsFor z old.era.account.hand old.era.passing) i.wanted c.was.hand; stands = c.was.stands }

    pub second : 1 ≤ t.tries → LifeSpent v old n × LifeSpent v l n
    second one =
        let i = idle v c.link c.wanted m t c.coming c.waits one c.may in_vain in
        (record { link = c.link; shows = old_shows i; spent = i.spent; unserved = sym c.served ∙ unserved one }, record { link = c.link; shows = idle_shows i; spent = i.spent; unserved = unserved one })

  -- ---- NO VISIT
  pub none : Waiting v l n m t → own spot.station back ≡ [] → (at Stand.Open).era.passing ≡ l.era.passing → Waiting v (at Stand.Open) n m t
  none k empty still =
      let hand = hand_none x acknowledged more passed frame spot ns back came l k.shows.stands k.wanted empty k.shows.hand in
      record {
        link = k.link;
        wanted = k.wanted;
        waits = k.waits;
        shows = record {
          halves = k.shows.halves ∙ sym (then_halves x acknowledged more passed frame spot ns back came l k.shows.stands k.wanted hand ∙ halves_none x acknowledged more passed frame spot ns back came l k.shows.stands k.wanted empty);
          node = k.shows.node;
          hand = then_hand x acknowledged more passed frame spot ns back came l k.shows.stands k.wanted hand still;
          stands = then_stands x acknowledged more passed frame spot ns back came l k.shows.stands k.wanted hand;
        };
        unserved = λ two. ap is_served still ∙ k.unserved two;
      }

pub stepped : {M Q R S : Type 0} (v : Server M S) (l : Life M Q R) (n : Node M S) (m : Memory) (t : Waits) → Waiting v l n m t → Waiting v l (processor_step v n) m (record t { stepped = true })
stepped v l n m t k = record {
  link = happens v k.link Event.Pdi;
  wanted = k.wanted;
  waits = IsWaiting.steps k.link k.wanted m t k.waits;
  shows = record { halves = k.shows.halves; node = ap (processor_step v) k.shows.node; hand = k.shows.hand; stands = k.shows.stands };
  unserved = k.unserved;
}

pub life_spent : {M Q R S : Type 0} (v : Server M S) (l : Life M Q R) (n : Node M S) (m : Memory) (t : Waits) → Waiting v l n m t → 2 ≤ t.tries → LifeSpent v l n
life_spent v l n m t k two =
    let s = spent v k.link k.wanted m t k.waits two in
    record { link = k.link; shows = record { halves = k.shows.halves; node = k.shows.node; hand = subst (λ z. IsFor z l.era.account.hand l.era.passing) s.1 k.shows.hand; stands = k.shows.stands }; spent = s.0; unserved = k.unserved two }
