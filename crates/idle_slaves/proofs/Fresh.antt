-- A slave that was not visited since something was gained, by a frame without a visit: what came into hand came into hand then.
use Rattle.std.proofs.Common.{◌≡◌, ℕ, suc, ◌%◌, ◌==◌, Bool, true, false, List, [], refl, sym, ap, ◌∙◌, subst, arith, if◌then◌else◌}
use Rattle.std.specs.Prelude.{◌&&◌}
use Rattle.plan_ring.specs.of_exchange_model.Exchange.{Exchange, Speech}
use Rattle.idle_slaves.specs.Frames.{node_on}
use Rattle.idle_slaves.specs.Visited.{IsFor, Waiting, Chosen}
use Rattle.idle_slaves.specs.Waiting.{Memory, IsWaiting, link_by, wanted_by}
use Rattle.idle_slaves.proofs.Choosing.{chosen}
use Rattle.idle_slaves.proofs.Waiting.{Holds, Comes, holds, comes}
use Rattle.plan_ring.specs.of_life_model.Lives.{Life, Spot, Stand}
use Rattle.plan_ring.specs.of_life_model.Own.{own}
use Rattle.plan_ring.specs.of_link_mails.Body.{Body}
use Rattle.plan_ring.specs.of_link_model.Link.{Link}
use Rattle.plan_ring.specs.of_link_model.Master.{InHalf}
use Rattle.plan_ring.specs.of_link_model.Slave.{Server, processor_step}
use Rattle.plan_ring.specs.of_master_duty.Reply.{Reply}
use Rattle.plan_ring.specs.of_master_hand.Spoken.{Asked}
use Rattle.plan_ring.specs.of_run_frames.Clocks.{Clocked}
use Rattle.plan_ring.specs.of_run_frames.Goes.{Under, back_life}
use Rattle.plan_ring.specs.of_run_frames.Waits.{Waits, new_waits, waits_on}
use Rattle.plan_ring.specs.of_segment_model.Slaves.{Datagram, Serving, Slave, Processor, serving, slave_after}
use Rattle.plan_ring.specs.of_state_model.States.{Table}
use Rattle.idle_slaves.specs.Steps.{NotGone}
use Rattle.idle_slaves.specs.EagerFrames.{FrameAs}
use Rattle.idle_slaves.specs.Standing.{Steps, Unvisited}
use Rattle.idle_slaves.proofs.Behind as Behind
use Rattle.idle_slaves.proofs.Facts.{for_not_gone}
use Rattle.idle_slaves.proofs.Framed as Framed

module _ {V A : Type 0} (ex : Exchange V A Body Asked Reply) (processor : Processor V) (table : Table) (x : Spot → Speech Body Asked Reply) (acknowledged : Asked → Bool) (more : Body → Bool) (passed : Asked → Bool) (number : ℕ) (sent back : List (Datagram Body)) where
  abbrev v : Server Body (Serving V Body)
  v = serving ex

  module _ (c : Clocked Body Asked Reply) (u : Under Body Asked Reply) (t : Waits) (s s' : Slave V Body) (f : FrameAs ex processor table x acknowledged more passed number sent back c u t s s') where
    abbrev station : ℕ
    station = c.spot.station

    abbrev behind : Life Body Asked Reply
    behind = back_life x acknowledged more passed number back c u

    back_none : u.under ≡ false → own station back ≡ []
    back_none = Framed.back_none ex processor table x acknowledged more passed number sent back c u t s s' f

    sent_none : u.under ≡ false → slave_after station s (own station sent) ≡ s
    sent_none = Framed.sent_none ex processor table x acknowledged more passed number sent back c u t s s' f

    step_node : slave_after station s (own station sent) ≡ s → NotGone c.life.era.account.hand → s'.node ≡ node_on v number c s.node
    step_node = Framed.step_node ex processor table x acknowledged more passed number sent back c u t s s' f

    module _ (m : Memory) (k : Unvisited v c.life s.node t) (out : u.under ≡ false) where
      abbrev on : Waits
      on = waits_on number c u t

      begun_link : Waiting v c.life k.link.node m new_waits
      begun_link = record { link = k.link; wanted = k.wanted; waits = IsWaiting.new k.link k.wanted m k.agrees k.clear; shows = k.shows; unserved = λ no. absurd (omega (arith, no)) }

      ch : Chosen v c.life u.life k.link.node m new_waits
      ch = subst (λ z. Chosen v c.life z k.link.node m new_waits) (sym f.life) (chosen v c.life k.link.node m new_waits begun_link (x c.spot) acknowledged more passed number f.pick (λ target e one. absurd (omega (arith, one))))

      old : Holds v ch.link ch.wanted m new_waits
      old = holds v ch.link ch.wanted m new_waits ch.waits

      abbrev w : Link Body (Serving V Body)
      w = link_by v ch.link ch.coming

      come : Comes ch.link w
      come = comes v ch.link ch.coming old.agrees

      abbrev stands : u.life.stand ≡ Stand.Open
      stands = ch.shows.stands

      hand : behind.era.account.hand ≡ u.life.era.account.hand
      hand = Behind.hand_none (x c.spot) acknowledged more passed number c.spot u.news back u.came u.life stands (back_none out)

      for_behind : IsFor (wanted_by ch.wanted ch.coming) behind.era.account.hand behind.era.passing
      for_behind = subst (λ p. IsFor (wanted_by ch.wanted ch.coming) behind.era.account.hand p) (sym f.still) (subst (λ h. IsFor (wanted_by ch.wanted ch.coming) h u.life.era.passing) (sym hand) ch.shows.hand)

      old_steps : Steps v w.node s.node t.stepped
      old_steps = subst (λ z. Steps v z s.node t.stepped) (sym (come.node ∙ ch.was.node)) k.steps

      steps_on : (b : Bool) → Steps v w.node (if b then processor_step v s.node else s.node) (if b then true else t.stepped)
      steps_on true = Steps.more s.node t.stepped old_steps
      steps_on false = old_steps

      pub fresh_on : Unvisited v behind s'.node on
      fresh_on = record {
        link = w;
        wanted = wanted_by ch.wanted ch.coming;
        agrees = come.agrees;
        clear = ap (λ (h : InHalf). h.state) come.inn ∙ old.clear;
        shows = record {
          halves = ch.shows.halves ∙ sym (Behind.halves_none (x c.spot) acknowledged more passed number c.spot u.news back u.came u.life stands (back_none out));
          node = refl;
          hand = for_behind;
          stands = Behind.stand_for (x c.spot) acknowledged more passed number c.spot u.news back u.came u.life stands (wanted_by ch.wanted ch.coming) for_behind;
        };
        steps = subst (λ z. Steps v w.node z on.stepped) (sym (step_node (sent_none out) (for_not_gone k.wanted c.life.era.account.hand c.life.era.passing k.shows.hand))) (steps_on (suc number % c.pace == 0));
        tries = ap (λ (b : Bool). if b && t.stepped then suc t.tries else t.tries) out ∙ k.tries;
      }
