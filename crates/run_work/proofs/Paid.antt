-- Each life of a serving has gained no more than what came into hand of it counts.
use Rattle.std.proofs.Common.{◌≡◌, ◌+◌, ◌≤◌, All, List, [], ◌∷◌, length, sym, subst, arith, refl}
use Rattle.std.proofs.lemmas.List.Elements.{All-head, All-tail}
use Rattle.life_counts.specs.of_exchange_model.Exchange.{IsLawful}
use Rattle.life_counts.specs.Begun.{life_most, AreUnopened}
use Rattle.life_counts.specs.of_life_model.Gains.{gains}
use Rattle.life_counts.specs.of_life_model.Lives.{Life}
use Rattle.life_counts.specs.of_link_mails.Body.{Body}
use Rattle.life_counts.specs.of_few_replies.RowCounts.{AreCounted}
use Rattle.plan_ring.specs.of_master_duty.Reply as Master
use Rattle.life_counts.specs.of_master_hand.Spoken as Spoken
use Rattle.life_counts.specs.of_segment_plan.Sound.{IsSlave}
use Rattle.life_counts.specs.of_segment_plan.declared.slave.SlaveSpec.{SlaveSpec}
use Rattle.plan_ring.specs.of_life_runs.Served.{Serves}
use Rattle.run_work.specs.ServedGained.{serving_most, AllPaid}
use Rattle.life_counts.specs.of_few_replies.Shapes.{shape_at}
use Rattle.life_counts.specs.of_serving_model.Tagged.{ideal, tagged}
use Rattle.life_counts.specs.of_few_replies.Packets.{is_calm, is_fair}
use Rattle.life_counts.specs.of_slave_model.Acknowledged.{acknowledged}
use Rattle.life_counts.specs.of_slave_model.Profile.{Profile, IsProfile}
use Rattle.plan_ring.specs.of_slave_parts.Parts.{Server, parts}
use Rattle.plan_ring.specs.of_slave_parts.Served.{product_whole}
use Rattle.life_counts.specs.of_slave_server.Spec.{profile_of}
use Rattle.life_counts.specs.of_state_model.Families.{InState, states_of}
use Rattle.life_counts.specs.of_state_model.Stated.{IsStated}
use Rattle.life_counts.proofs.Seen.{gains_seen, unopened_seen, most_seen}
use Rattle.life_counts.proofs.Stated.{calm_stated}
use Rattle.life_counts.proofs.Worked.{worked_gains}
use Rattle.run_work.specs.Lives.{IsServedLife, AllServedLives}
use Rattle.run_work.specs.Sessions.{session, session_states, named_wanted}
use Rattle.run_work.proofs.Kept.{counts, keeps_all, wanted_most}
use Rattle.run_work.proofs.ServedLasts.{AllUnopened}

-- what a session of a slave owes
pub record Owes (p : Profile) : Type 0 where
  pub lawful : IsLawful (session p)
  pub stated : IsStated (tagged (product_whole parts p)) (session_states p)
  pub counted : AreCounted (session p) (λ w. shape_at (ideal (product_whole parts p) w)) (counts p)

pub life_paid : (p : Profile) → Owes p → (first : InState Server) (l : Life Body Spoken.Asked Master.Reply) → IsServedLife p first l → AreUnopened l → gains l ≤ 1 + life_most (serving_most p (shape_at first)) l
life_paid p owes first l is unopened =
    let stated = calm_stated (product_whole parts p) (states_of {V = Server} {A = Server} acknowledged) is_calm is_fair (λ state v. refl) owes.stated in
    let keeps = keeps_all p is.clearing is.clears owes.counted in
    let opened = unopened_seen (λ t. t.mail) named_wanted (λ r. r) is.life (subst AreUnopened (sym is.seen) unopened) in
    let few = worked_gains (session p) owes.lawful (session_states p) stated is.processor is.table is.spot is.clearing shape_at (counts p) keeps first is.life is.worked opened in
    subst (λ k. gains k ≤ 1 + life_most (serving_most p (shape_at first)) k) is.seen
    (omega (
      arith,
      gains_seen (λ t. t.mail) named_wanted (λ r. r) is.life,
      few,
      most_seen (λ t. t.mail) named_wanted (λ r. r) (counts p (shape_at first)) (serving_most p (shape_at first)) (λ q. wanted_most p (shape_at first) q) is.life,
    ))

pub all_paid : ((p : Profile) → IsProfile p → Owes p) → (ss : List SlaveSpec) (ws : List Serves) → All (λ (s : SlaveSpec). IsSlave s) ss → All (λ (s : SlaveSpec). length s.mac ≡ 6) ss → AllServedLives ss ws → AllUnopened ws → AllPaid ss ws
all_paid owes [] [] are macs lives unopened = tt
all_paid owes [] (w ∷ ws) are macs lives unopened = absurd lives
all_paid owes (s ∷ ss) [] are macs lives unopened = absurd lives
all_paid owes (s ∷ ss) (w ∷ ws) are macs lives unopened =
    let here = All-head (λ (s : SlaveSpec). IsSlave s) s ss are in
    let profile : IsProfile (profile_of s) = record { out_least = here.out_least; out_most = here.out_most; back_least = here.in_least; back_most = here.in_most; mac = All-head (λ (s : SlaveSpec). length s.mac ≡ 6) s ss macs } in (
      life_paid (profile_of s) (owes (profile_of s) profile) _ w.lead.lived.life lives.0 unopened.0,
      all_paid owes ss ws (All-tail (λ (s : SlaveSpec). IsSlave s) s ss are) (All-tail (λ (s : SlaveSpec). length s.mac ≡ 6) s ss macs) lives.1 unopened.1,
    )
