-- The openings in a capture that obeys the rules.
use Rattle.std.proofs.Common.{◌≡◌, ℕ, false, List, ◌∷◌, ◌++◌, ap, ◌∙◌, subst}
use Rattle.capture_audit.specs.of_pcap_frames.declared.capture.Capture.{Capture}
use Rattle.mailbox_law.specs.Steps.{first_link, given, link_behind}
use Rattle.mailbox_law.specs.declared.steps.LinkStep.{LinkStep}
use Rattle.capture_audit.specs.declared.station.StationAudit.{StationAudit}
use Rattle.capture_audit.specs.declared.verdict.Verdict.TheVariants.{Yes}
use Rattle.capture_audit.specs.Exchanges.{Sent, exchanges}
use Rattle.capture_audit.specs.Rules.{new_link}
use Rattle.capture_audit.specs.Audit.{first_known, met, verdict_of, with_mails}
use Rattle.capture_audit.specs.Causes.{behind, all_of, Obeys as KeepsRules}
use Rattle.capture_audit.proofs.Causes.{yes_cause, obeys_front, obeys_rest}
use Rattle.audit_law.specs.Told.{Obeys, told, sent_by, accepted_by}
use Rattle.audit_law.specs.Possible.{Possible, IsOnce}
use Rattle.audit_law.specs.Openings.{IsOpening, AddsMails}
use Rattle.audit_law.proofs.Once.{once}
use Rattle.audit_law.proofs.Stations.{Goes, goes, opened_mails}

module _ (file : List ℕ) (capture : Capture) (stations : List StationAudit) (yes : verdict_of file capture ≡ Yes stations) where
  keeps : KeepsRules first_known (all_of (exchanges file false 0 capture.packets))
  keeps = ((yes_cause first_known (exchanges file false 0 capture.packets)).only stations yes).0

  pub stations_are : stations ≡ (behind first_known (all_of (exchanges file false 0 capture.packets))).stations
  stations_are = ((yes_cause first_known (exchanges file false 0 capture.packets)).only stations yes).1

  module _ (station out_len in_len : ℕ) (before during : List Sent) (d : Sent) (is : IsOpening file capture station out_len in_len before d during) where
    rules : KeepsRules (met (behind first_known before) d) during
    rules =
        let whole = subst (λ (ds : List Sent). KeepsRules first_known ds) is.all keeps in
        let rest = obeys_rest first_known before (d ∷ (during ++ is.after)) whole in
        obeys_front (met (behind first_known before) d) during is.after rest.1

    opening : Goes station (met (behind first_known before) d) (behind (met (behind first_known before) d) during) (new_link out_len in_len) (told station during)
    opening = goes station during (met (behind first_known before) d) (new_link out_len in_len) is.opens.link is.stays rules

    pub opening_obeys : Obeys (new_link out_len in_len) (told station during)
    opening_obeys = opening.obeys

    pub opening_once : (steps : List LinkStep) → Possible out_len in_len first_link steps (told station during) → IsOnce (link_behind steps) (given steps) (sent_by (new_link out_len in_len) (told station during)) (accepted_by (new_link out_len in_len) (told station during))
    opening_once steps p = once out_len in_len (told station during) steps opening.obeys p

    pub opening_mails : AddsMails station (new_link out_len in_len) (told station during) (behind first_known before) (behind (met (behind first_known before) d) during)
    opening_mails = opening.mails ∙ ap (λ (s : StationAudit). with_mails (sent_by (new_link out_len in_len) (told station during)) (accepted_by (new_link out_len in_len) (told station during)) s) (opened_mails station (behind first_known before) d is.opens.manager is.opens.own is.opens.access)
