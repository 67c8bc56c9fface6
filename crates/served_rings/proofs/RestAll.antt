-- WHERE NOTHING IS LEFT all is done, slave by slave.
use Rattle.std.proofs.Common.{◌≡◌, ℕ, suc, true, None, List, [], ◌∷◌, ◌++◌, length, ap, ◌∙◌, subst, append-nil}
use Rattle.std.specs.Prelude.{All}
use Rattle.std.proofs.lemmas.List.Elements.{All-head, All-tail}
use Rattle.served_places.specs.of_life_model.Script.{life_started}
use Rattle.served_places.specs.of_exchange_model.Exchange.{Speech}
use Rattle.run_work.specs.of_frame_view.View.{Lens}
use Rattle.served_places.specs.of_life_model.Lives.{Era, Spot, Stand}
use Rattle.served_places.specs.of_life_runs.First.{HaveLens, lens_of, script_for}
use Rattle.served_places.specs.of_life_runs.Led.{speech_at}
use Rattle.served_places.specs.of_link_mails.Body.{Body}
use Rattle.run_work.specs.of_master_duty.Reply.{Reply}
use Rattle.run_work.specs.of_master_hand.Spoken.{Asked, hand_speech}
use Rattle.served_places.specs.of_segment_model.Laws.{WantsNothing}
use Rattle.run_work.specs.of_segment_plan.declared.plan.Scenario.{Scenario}
use Rattle.run_work.specs.of_segment_plan.declared.service.Service as Plan
use Rattle.run_work.specs.of_segment_plan.declared.slave.SlaveSpec.{SlaveSpec}
use Rattle.served_rings.specs.Rests.{AllServedDoneIf, IsServedDone, IsServedIdle, IsServedWhole}
use Rattle.served_rings.specs.Rings.{AllServedAt, IsServedAt}
use Rattle.served_rings.specs.Served.{IsServedLife, IsServedNewest}
use Rattle.served_rings.specs.Stood.{AllHeld, ServeStood}
use Rattle.served_rings.specs.StoodLives.{IsFirst, others}
use Rattle.served_rings.specs.Speakers.{spoken}
use Rattle.run_work.specs.Lives.{first_server}
use Rattle.served_places.specs.of_life_runs.Came.{AreAmong, HasServed, ServedCame}
use Rattle.served_places.specs.of_life_runs.Served.{Serves}
use Rattle.run_work.specs.of_slave_parts.Parts.{Server}
use Rattle.run_work.specs.of_slave_server.Serving.{Serving, next_mail}
use Rattle.run_work.specs.of_slave_server.Spec.{profile_of}
use Rattle.run_work.specs.of_slave_node.Node.{Node, is_settled}
use Rattle.served_places.specs.of_state_model.Families.{InState}

module _ (s : SlaveSpec) (from : InState Server) (e : Era Body Asked Reply) (n : Node Serving) (settled : is_settled next_mail n ≡ true) (wants : WantsNothing (spoken (profile_of s)).speech e.side) (hand : e.account.hand ≡ None) (over : e.passing ≡ None) where
  -- of an open epoch nothing is left
  whole : (stand : Stand) → stand ≡ Stand.Open → IsServedNewest (profile_of s) s.boot s.station s.start from e n stand → IsServedWhole (profile_of s) s.boot s.station s.start from e n
  whole _ is (IsServedNewest.lives left done inner state was rests) = record { left = left; done = done; inner = inner; state = state; was = was; nothing = rests settled wants hand over }
  whole _ is (IsServedNewest.unopened stand shut none holds) = absurd (shut is)
  whole _ is (IsServedNewest.over stand shut left done was holds) = absurd (shut is)

module _ (plan : Scenario) where
  abbrev lens : ℕ → Lens
  lens = lens_of plan.slaves

  module _ (stood : ℕ → Node Serving → Type 0) (place : ℕ) (s : SlaveSpec) (w : Serves) (n : Node Serving) (served : IsServedLife (profile_of s) s.boot s.station s.start (first_server s) w.lead.lived.life n)
      (held : AllHeld (profile_of s) s.boot s.station stood s.start (first_server s) w.lead.lived.life.past served.from served.past w.lead.lived.life.era.cleared) (at : IsServedAt plan place s w) (has : HasServed lens w)
      (out : (lens s.station).out ≡ s.out_len) (back : (lens s.station).back ≡ s.in_len) (idle : IsServedIdle lens w) (settled : is_settled next_mail n ≡ true) where
    abbrev script : List Plan.Service
    script = script_for place plan.services

    there : w.lead.lived.spot.station ≡ s.station
    there = ap (λ (k : Spot). k.station) at.spot

    -- its master speaks with it by the lengths of its mailboxes
    speaks : speech_at lens w.lead.lived.spot ≡ (spoken (profile_of s)).speech
    speaks =
        let outs : (lens w.lead.lived.spot.station).out ≡ s.out_len = ap (λ (k : ℕ). (lens k).out) there ∙ out in
        let backs : (lens w.lead.lived.spot.station).back ≡ s.in_len = ap (λ (k : ℕ). (lens k).back) there ∙ back in
        λ j. hand_speech (record { out = outs j; back = backs j })

    mails_are : has.mails ++ w.waits ≡ has.mails
    mails_are = ap (λ l. has.mails ++ l) idle.waits ∙ append-nil has.mails

    all_script : w.lead.number ≡ length script
    all_script = idle.script ∙ ap length at.script

    one_done : IsServedDone stood plan place s w n
    one_done = record {
      mails = has.mails;
      came = came_whole;
      among = subst (λ l. AreAmong l w.asked) mails_are has.among;
      all = λ never. has.all never ∙ mails_are;
      from = served.from;
      past = served.past;
      held = held;
      newest = whole s served.from w.lead.lived.life.era n settled (subst (λ (x : Speech Body Asked Reply). WantsNothing x w.lead.lived.life.era.side) speaks idle.side) idle.hand idle.over w.lead.lived.life.stand idle.stand served.newest;
    }
      where
        room : (lens w.lead.lived.spot.station).out ≡ s.out_len
        room = ap (λ (k : ℕ). (lens k).out) there ∙ out

        came_whole : ServedCame s.out_len script (length script) has.mails (life_started w.lead.lived.life)
        came_whole =
            subst (λ (k : ℕ). ServedCame s.out_len script k has.mails (life_started w.lead.lived.life)) all_script
            (subst (λ (l : List Plan.Service). ServedCame s.out_len l w.lead.number has.mails (life_started w.lead.lived.life)) at.script
            (subst (λ (k : ℕ). ServedCame k w.lead.script w.lead.number has.mails (life_started w.lead.lived.life)) room has.came))

  -- of all slaves
  pub all_done : (stood : ℕ → List (Node Serving)) (place : ℕ) (ss : List SlaveSpec) (ws : List Serves) (ns : List (Node Serving)) → HaveLens lens ss → ServeStood stood ss ws ns → AllServedAt plan place ss ws ns → All (HasServed lens) ws →
      AllServedDoneIf stood plan place ss ws ns
  all_done stood place [] [] [] long served at has = tt
  all_done stood place [] [] (n ∷ ns) long served at has = absurd at
  all_done stood place [] (w ∷ ws) ns long served at has = absurd at
  all_done stood place (s ∷ ss) [] ns long served at has = absurd at
  all_done stood place (s ∷ ss) (w ∷ ws) [] long served at has = absurd at
  all_done stood place (s ∷ ss) (w ∷ ws) (n ∷ ns) long served at has = (
    (λ idle settled. one_done (IsFirst stood) place s w n served.each.0 served.held.0.past at.0 (All-head (HasServed lens) w ws has) long.0.0 long.0.1 idle settled),
    all_done (others stood) (suc place) ss ws ns long.1 (record { each = served.each.1; held = served.held.1 }) at.1 (All-tail (HasServed lens) w ws has),
  )
