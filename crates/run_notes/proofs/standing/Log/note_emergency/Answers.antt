use Rattle.std.proofs.Common.{◌≡◌, ℕ, List, sym, ap, ◌∙◌, subst}
use Rattle.std.specs.Prelude.{Some}
use Rattle.std.proofs.lemmas.Result.{on_ok_weaker}
use Rattle.run_notes.specs.declared.notes.Notes.{Notes}
use Rattle.run_notes.specs.Reports.{Reports}
use Rattle.run_notes.proofs.Gaves.{same_gaves}
use Rattle.run_notes.proofs.Heard.{TellsOf, one_noted, none_noted}
use Rattle.run_notes.proofs.Reporting.{set_reports}
use Rattle.run_notes.proofs.Stations.{same_noted}
use Rattle.run_notes.proofs.Ways.{any_ok}
use Rattle.run_notes.proofs.Packets.{same_begun}
use Rattle.run_notes.proofs.Handings.{same_services}
use Rattle.run_notes.specs.Handed.{services_of}
use Rattle.run_notes.proofs.Times.{time_alarmed}
use Rattle.run_notes.proofs.Timings.{keeps_set}
use Rattle.run_notes.specs.Times.{Goes, behind}
use Rattle.run_notes.proofs.standing.Log.note_emergency.Goals as goal

pub invariant_of-self : goal.invariant_of-self
invariant_of-self c =
    let log = c.args.self.now in
    record { lit = log.lit ∙ sym (same_noted log.recover log.homes log.notes c.args.at c.at_mut.result.now c.alarmed.new.self (c.alarmed.ensures.gave ∙ ap (λ (n : Notes). n.gave) c.at_mut.ensures.value)) }

pub returns-clause-gave : goal.returns-clause-gave
returns-clause-gave c =
    any_ok c.alarmed.result (same_gaves c.args.self.now.notes c.args.at c.at_mut.result.now c.alarmed.new.self (c.alarmed.ensures.gave ∙ ap (λ (n : Notes). n.gave) c.at_mut.ensures.value))

pub returns-clause-told : goal.returns-clause-told
returns-clause-told c =
    on_ok_weaker c.alarmed.result
    (λ is. set_reports c.args.self.now.notes c.args.at c.at_mut.result.now c.alarmed.new.self c.at_mut.ensures.value (λ a r. subst (λ (n : Notes). Reports a n) (sym is) r))
    c.alarmed.ensures.is

pub returns-in_default-clause-heard : goal.returns-in_default-clause-heard
returns-in_default-clause-heard c =
    none_noted c.args.master.now c.args.frame c.args.at c.args.self.now.notes c.requires.notes c.requires.posts (λ us back x. c.in_default.ensures us back x)

pub returns-clause-heard : goal.returns-clause-heard
returns-clause-heard c =
    let m = c.args.master.now in
    let same : c.in_ok-octets.octets ≡ c.in-Some.found.now.items = c.in_ok-octets.ensures ∙ c.as_slice.ensures.value in
    let tells : TellsOf m c.args.at (Some c.in_ok-octets.octets) = subst (λ (octets : List ℕ). TellsOf m c.args.at (Some octets)) (sym same) (λ us back x. c.in-Some.ensures us back x) in
    on_ok_weaker c.alarmed.result
    (λ is. one_noted m c.args.frame c.args.at c.args.self.now.notes c.requires.notes c.requires.posts c.at_mut.result.now c.alarmed.new.self c.in_ok-octets.octets c.at_mut.ensures.value is tells)
    c.alarmed.ensures.is

pub returns-clause-rows : goal.returns-clause-rows
returns-clause-rows c =
    any_ok c.alarmed.result (same_begun c.args.self.now.notes c.args.at c.at_mut.result.now c.alarmed.new.self (c.alarmed.ensures.rows ∙ ap (λ (n : Notes). n.begun) c.at_mut.ensures.value))

pub returns-clause-services : goal.returns-clause-services
returns-clause-services c =
    on_ok_weaker c.alarmed.result
    (λ is. same_services c.args.self.now.notes c.args.at c.at_mut.result.now c.alarmed.new.self (ap services_of is ∙ ap services_of c.at_mut.ensures.value))
    c.alarmed.ensures.is

pub returns-in_default-clause-time : goal.returns-in_default-clause-time
returns-in_default-clause-time c = λ packets all. all

pub returns-clause-time : goal.returns-clause-time
returns-clause-time c =
    let t = behind c.args.frame in
    let n = c.at_mut.result.now in
    on_ok_weaker c.alarmed.result
    (λ is. keeps_set t c.args.self.now.notes c.args.at n c.alarmed.new.self c.at_mut.ensures.value (subst (λ (z : Notes). Goes t t n z) (sym is) (time_alarmed c.args.frame n c.in_ok-octets.octets)))
    c.alarmed.ensures.is
