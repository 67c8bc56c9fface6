-- The families of codes.
use Rattle.std.specs.Prelude.{ℕ, Bool, true, false, List, codes}
use Rattle.code_texts.specs.declared.program.TheConstants.{RULES, FAULTS, AUDIT_RULES, STATUSES}
use Rattle.code_texts.specs.declared.services.TheConstants.{ABORTS, FOE_ERRORS, SOE_ERRORS, EOE_RESULTS, MAILBOX_ERRORS, AL_STATUS_CODES}
use Rattle.code_texts.specs.declared.family.Family.{Family}
use Rattle.code_texts.specs.declared.family.Family.TheVariants as families

-- the word by which the codes of a family are asked for
abbrev pub word_of : Family → List ℕ
word_of families.Rule = codes "rule"
word_of families.Fault = codes "fault"
word_of families.AuditRule = codes "audit"
word_of families.Status = codes "status"
word_of families.Abort = codes "abort"
word_of families.FoeError = codes "foe"
word_of families.SoeError = codes "soe"
word_of families.EoeResult = codes "eoe"
word_of families.MailboxError = codes "mailbox"
word_of families.AlStatus = codes "refused"

-- the first word of a line of a report that tells one
abbrev pub report_of : Family → List ℕ
report_of families.Rule = codes "refused"
report_of families.Fault = codes "refused"
report_of families.AuditRule = codes "audit"
report_of families.Status = codes "status"
report_of families.Abort = codes "abort"
report_of families.FoeError = codes "foe"
report_of families.SoeError = codes "soe"
report_of families.EoeResult = codes "eoe"
report_of families.MailboxError = codes "mailbox"
report_of families.AlStatus = codes "AL"

-- what such a code is
abbrev pub title_of : Family → List ℕ
title_of families.Rule = codes "refusal of a scenario"
title_of families.Fault = codes "refusal of a capture"
title_of families.AuditRule = codes "audit rule"
title_of families.Status = codes "exit status"
title_of families.Abort = codes "SDO abort code"
title_of families.FoeError = codes "FoE error"
title_of families.SoeError = codes "SoE error"
title_of families.EoeResult = codes "EoE result"
title_of families.MailboxError = codes "mailbox error"
title_of families.AlStatus = codes "AL status code"

-- the codes that services are refused with
abbrev pub is_of_services : Family → Bool
is_of_services families.Rule = false
is_of_services families.Fault = false
is_of_services families.AuditRule = false
is_of_services families.Status = false
is_of_services families.Abort = true
is_of_services families.FoeError = true
is_of_services families.SoeError = true
is_of_services families.EoeResult = true
is_of_services families.MailboxError = true
is_of_services families.AlStatus = true

-- the rows of a family: a line each, with the code, a blank and what it says
abbrev pub codes_of : Family → List ℕ
codes_of families.Rule = RULES.now
codes_of families.Fault = FAULTS.now
codes_of families.AuditRule = AUDIT_RULES.now
codes_of families.Status = STATUSES.now
codes_of families.Abort = ABORTS.now
codes_of families.FoeError = FOE_ERRORS.now
codes_of families.SoeError = SOE_ERRORS.now
codes_of families.EoeResult = EOE_RESULTS.now
codes_of families.MailboxError = MAILBOX_ERRORS.now
codes_of families.AlStatus = AL_STATUS_CODES.now
