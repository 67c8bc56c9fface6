-- What the laws say of an opening of a link, and of a capture that obeys the rules.
use Rattle.std.specs.Prelude.{◌≡◌, ℕ, List, false}
use Rattle.capture_audit.specs.of_pcap_frames.declared.capture.Capture.{Capture}
use Rattle.mailbox_law.specs.Steps.{first_link, given, link_behind}
use Rattle.mailbox_law.specs.declared.steps.LinkStep.{LinkStep}
use Rattle.capture_audit.specs.declared.station.StationAudit.{StationAudit}
use Rattle.capture_audit.specs.declared.verdict.Verdict.TheVariants.{Yes}
use Rattle.capture_audit.specs.Exchanges.{Sent, exchanges}
use Rattle.capture_audit.specs.Rules.{new_link}
use Rattle.capture_audit.specs.Audit.{first_known, met, verdict_of}
use Rattle.capture_audit.specs.Causes.{behind, all_of}
use Rattle.audit_law.specs.Told.{Told, Obeys, told, sent_by, accepted_by}
use Rattle.audit_law.specs.Openings.{IsOpening, AddsMails}
use Rattle.audit_law.specs.Possible.{Possible, IsOnce}

-- for these steps of a link, if they are possible for the accesses told: each mail once and in order
abbrev pub CarriesOnce : ℕ → ℕ → List Told → List LinkStep → Type 0
CarriesOnce out_len in_len ts steps = Possible out_len in_len first_link steps ts →
    IsOnce (link_behind steps) (given steps) (sent_by (new_link out_len in_len) ts) (accepted_by (new_link out_len in_len) ts)

-- for every list of steps of a link with areas of these lengths, where the accesses told break no rule: each mail once and in order
abbrev pub OpeningCarriesOnce : Type 0
OpeningCarriesOnce = (out_len in_len : ℕ) (ts : List Told) (steps : List LinkStep) → Obeys (new_link out_len in_len) ts → CarriesOnce out_len in_len ts steps

-- this holds of every opening of a station's link in a capture on which the verdict is yes, by its lengths, the datagrams before it, its own and those during it
abbrev pub OfOpenings : (ℕ → ℕ → ℕ → List Sent → Sent → List Sent → Type 0) → Type 0
OfOpenings P = (file : List ℕ) (capture : Capture) (stations : List StationAudit) (station out_len in_len : ℕ) (before during : List Sent) (d : Sent) →
    verdict_of file capture ≡ Yes stations → IsOpening file capture station out_len in_len before d during → P station out_len in_len before d during

-- behind an opening the audit tells of its station the mails from before it and then those of the opening
abbrev pub OpeningAdds : ℕ → ℕ → ℕ → List Sent → Sent → List Sent → Type 0
OpeningAdds station out_len in_len before d during =
    AddsMails station (new_link out_len in_len) (told station during) (behind first_known before) (behind (met (behind first_known before) d) during)

-- where the verdict on a capture is yes, the stations told are those that are known behind all its datagrams
abbrev pub StationsAreKnown : Type 0
StationsAreKnown = (file : List ℕ) (capture : Capture) (stations : List StationAudit) → verdict_of file capture ≡ Yes stations →
    stations ≡ (behind first_known (all_of (exchanges file false 0 capture.packets))).stations
