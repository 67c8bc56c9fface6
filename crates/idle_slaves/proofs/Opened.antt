-- An open slave of a plan's run, as its session has it, where no mail is passed on.
use Rattle.std.proofs.Common.{◌≡◌, ◌≢◌, ℕ, Bool, true, Option, Some, None, List, [], ◌∷◌, length, refl, sym, ap, ◌∙◌, subst}
use Rattle.plan_ring.specs.of_slave_model.Moments.{IsFree, NowAnswered}
use Rattle.idle_slaves.specs.Eager.{NoneLeft, MayBegin}
use Rattle.plan_ring.specs.of_exchange_model.Exchange.{Speech, plain}
use Rattle.plan_ring.specs.of_exchange_model.Rows.{Row, answer_after}
use Rattle.plan_ring.specs.of_frame_view.View.{Lens}
use Rattle.idle_slaves.proofs.Ends.{known}
use Rattle.idle_slaves.proofs.Spent.{spent_free}
use Rattle.idle_slaves.specs.Links.{HasLink}
use Rattle.idle_slaves.specs.Visited.{IsLeft, LifeSpent}
use Rattle.idle_slaves.proofs.Links.{era_link}
use Rattle.idle_slaves.proofs.Settled.{is_left}
use Rattle.plan_ring.specs.of_life_model.Lives.{Life}
use Rattle.plan_ring.specs.of_life_runs.First.{lens_of, spot_of}
use Rattle.plan_ring.specs.of_life_runs.Led.{Exchanged, Leads, speech_at}
use Rattle.plan_ring.specs.of_link_mails.Body.{Body}
use Rattle.plan_ring.specs.of_master_duty.Reply.{Reply}
use Rattle.plan_ring.specs.of_master_hand.Spoken.{Asked, acknowledged}
use Rattle.plan_ring.specs.Alike.{Alike}
use Rattle.plan_ring.proofs.NamedAlike.{answered_alike}
use Rattle.plan_ring.specs.of_slave_model.Waits.{NeverWaits}
use Rattle.plan_ring.specs.PlanMet.{slave_at, IsOpenAt, IsAt}
use Rattle.plan_ring.specs.Asked.{asked, is_service}
use Rattle.plan_ring.specs.Round.{all_seen}
use Rattle.plan_ring.specs.of_segment_model.Slaves.{serving}
use Rattle.plan_ring.specs.of_segment_plan.declared.plan.Scenario.{Scenario}
use Rattle.plan_ring.specs.of_segment_plan.declared.slave.SlaveSpec.{SlaveSpec}
use Rattle.plan_ring.specs.of_slave_lives.Ends.{IsAnswered}
use Rattle.plan_ring.specs.of_slave_lives.Lived.{table_of}
use Rattle.plan_ring.specs.of_slave_server.Serving.{Serving}
use Rattle.plan_ring.specs.of_slave_server.Spec.{profile_of}
use Rattle.plan_ring.specs.of_slave_node.Node.{Node}
use Rattle.idle_slaves.proofs.Comes.{era_comes}
use Rattle.idle_slaves.proofs.StatesSteps.{era_alone}
use Rattle.idle_slaves.proofs.Fits.{IsFit, IsSeated, ToldWhole, exchange_at}
use Rattle.idle_slaves.proofs.Took.{first_mail}

-- both speak alike of each other
alike_back : {M P T : Type 0} (is : P → Bool) (y z : Speech M P T) → Alike is y z → Alike is z y
alike_back is y z same = record {
  emission = sym same.emission;
  valid = λ q k. sym (same.valid q k);
  planned = λ q hs k. sym (same.planned q hs k);
  ends = λ q hs k. sym (same.ends q hs k);
  handed = λ q k. sym (same.handed q k);
}

pub answered_is : {M Q R : Type 0} (x : Speech M Q R) (now : Option (Row M Q R)) (r : Row M Q R) → IsAnswered x now → now ≡ Some r → (frame : ℕ) → answer_after frame r.answer (x.ends r.service (plain x.emission r.heard)) ≡ r.answer
answered_is x now r k e = subst (λ z. IsAnswered x z) e k

cons_none : {X : Type 0} (a : X) (xs : List X) → a ∷ xs ≢ []
cons_none a xs e = (let no : a ∷ xs ≡ [] = e in cc)

module _ (plan : Scenario) (fs : List Exchanged) (place : ℕ) (s : SlaveSpec) (a : Leads) (n : Node Serving) where
  abbrev lens : ℕ → Lens
  lens = lens_of plan.slaves

  abbrev x : Speech Body Asked Reply
  x = speech_at (lens_of plan.slaves) a.lived.spot

  abbrev l : Life Body Asked Reply
  l = a.lived.life

  module _ (o : IsOpenAt plan fs place s a n) (never : NeverWaits (asked (profile_of s) s.boot (lens_of plan.slaves)).exchange) (unpassed : a.lived.life.era.passing ≡ None) where
    link : HasLink l.era.side (slave_at lens s n)
    link =
        let w = asked (profile_of s) s.boot lens in
        let era = o.lives.lives.epoch in
        era_link w.exchange o.lawful w.states o.stated w.processor (table_of w) (spot_of place s) l.era era.opened (length (all_seen lens fs)) (all_seen lens fs) era.server era.registers (slave_at lens s n) era.is

    answered : NowAnswered x l.era.side
    answered =
        let w = asked (profile_of s) s.boot lens in
        answered_alike is_service w.exchange.speech x (alike_back is_service x w.exchange.speech o.alike) l.era.side o.row (λ r e. answered_is w.exchange.speech l.era.side.now r o.lives.lives.answered e)

    told : ToldWhole x acknowledged l.era
    told =
        let w = asked (profile_of s) s.boot lens in
        let era = o.lives.lives.epoch in
        subst (λ g. ToldWhole x g l.era) o.last
        (known w.exchange w.states w.processor (table_of w) (spot_of place s) l.era era.opened (length (all_seen lens fs)) (all_seen lens fs) era.server era.registers (slave_at lens s n) o.lawful o.stated era.is is_service x o.alike o.row)

    frees : LifeSpent (serving (exchange_at lens s)) l (slave_at lens s n).node → NoneLeft x l → MayBegin x l
    frees spent none =
        let w = asked (profile_of s) s.boot lens in
        let era = o.lives.lives.epoch in
        let k : IsLeft l (slave_at lens s n) = is_left w.exchange l (slave_at lens s n) spent in
        let f : IsFree x acknowledged l.era.side = subst (λ g. IsFree x g l.era.side) o.last
        (spent_free w.exchange w.states w.processor (table_of w) (spot_of place s) l era.opened (length (all_seen lens fs)) (all_seen lens fs) era.server era.registers (slave_at lens s n) o.lawful o.stated never era.is spent is_service x o.alike o.row answered none) in
        record { free = f.free; done = f.done; hand = k.hand; passing = unpassed }

    -- a service by mails has no answer before it has heard one, and it has a mail
    silent_service : (q : Asked) → is_service q ≡ true → x.ends q [] ≡ None
    silent_service q is = o.alike.ends q [] is ∙ o.lawful.none q

    silent : (q : Asked) → x.ends q [] ≡ None
    silent (Asked.sdo q) = silent_service (Asked.sdo q) refl
    silent (Asked.file q) = silent_service (Asked.file q) refl
    silent (Asked.drive q) = silent_service (Asked.drive q) refl
    silent (Asked.net q) = silent_service (Asked.net q) refl
    silent (Asked.passed m) = refl

    first_service : (q : Asked) → is_service q ≡ true → x.valid q ≡ true → x.planned q [] ≢ []
    first_service q is valid none =
        first_mail (exchange_at lens s) o.lawful never o.lives.lives.epoch.server q o.lives.lives.epoch.is.plan.plan.ready.0 (sym (o.alike.valid q is) ∙ valid) (sym (o.alike.planned q [] is) ∙ none)

    first : (q : Asked) → x.valid q ≡ true → x.planned q [] ≢ []
    first (Asked.sdo q) valid none = first_service (Asked.sdo q) refl valid none
    first (Asked.file q) valid none = first_service (Asked.file q) refl valid none
    first (Asked.drive q) valid none = first_service (Asked.drive q) refl valid none
    first (Asked.net q) valid none = first_service (Asked.net q) refl valid none
    first (Asked.passed m) valid none = cons_none _ _ none

    fits : IsFit (lens_of plan.slaves) s a.lived.spot a.lived.life n
    fits =
        let w = asked (profile_of s) s.boot lens in
        let era = o.lives.lives.epoch in
        record {
          here = era.station;
          link = link;
          alone = era_alone w.exchange o.lawful w.states o.stated w.processor (table_of w) (spot_of place s) l.era era.opened (length (all_seen lens fs)) (all_seen lens fs) era.server era.registers (slave_at lens s n) era.is;
          come = λ duty phase hand stage. era_comes w.exchange w.states w.processor (table_of w) (spot_of place s) l.era era.opened (length (all_seen lens fs)) (all_seen lens fs) era.server era.registers (slave_at lens s n) era.is duty phase hand stage;
          answered = answered;
          told = told;
          frees = frees;
          silent = silent;
          first = first;
        }

  pub seated : IsAt plan fs place s a n → NeverWaits (asked (profile_of s) s.boot (lens_of plan.slaves)).exchange → a.lived.life.era.passing ≡ None → IsSeated (lens_of plan.slaves) s a n
  seated at never unpassed = record { station = ap (λ z. z.station) at.spot; fits = λ stands. fits (at.stands stands) never unpassed }
