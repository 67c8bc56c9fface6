-- What services came to, in words.
use Rattle.std.specs.Prelude.{ℕ, ◌==◌, List, [], ◌++◌, length, codes, if◌then◌else◌}
use Rattle.code_texts.specs.declared.family.Family.{Family}
use Rattle.code_texts.specs.declared.family.Family.TheVariants as families
use Rattle.code_texts.specs.Meaning.{meaning}
use Rattle.mailbox_mail.specs.declared.outcome.ReplyKind.{ReplyKind}
use Rattle.mailbox_mail.specs.declared.outcome.ReplyKind.TheVariants as kinds
use Rattle.object_dictionary.specs.declared.service.SdoService.{SdoService}
use Rattle.object_dictionary.specs.declared.service.SdoService.TheVariants as sdos
use Rattle.segment_plan.specs.declared.slave.SlaveSpec.{SlaveSpec}
use Rattle.segment_plan.specs.declared.service.Service.{Service}
use Rattle.segment_plan.specs.declared.service.Service.TheVariants as services
use Rattle.value_texts.specs.of_reply_text.Reply.{hex_of}
use Rattle.value_texts.specs.Texts.{octets_text, file_text}
use Rattle.value_texts.specs.Values.{value_text}
use Rattle.value_texts.specs.Names.{kind_at}
use Rattle.value_texts.specs.Whole.{whole_text}
use Rattle.value_texts.specs.Lists.{list_text}
use Rattle.value_texts.specs.Infos.{object_info_text, entry_info_text}
use Rattle.value_texts.specs.Idns.{idn_text}
use Rattle.value_texts.specs.Blocks.{block_text}

-- what a code says, where its family has it
unfoldable pub meaning_text : Family → List ℕ → List ℕ
meaning_text family code = if length (meaning family code) == 0 then [] else codes ": " ++ meaning family code

-- a refusal by a code
unfoldable pub refusal_text : List ℕ → Family → List ℕ → List ℕ
refusal_text word family code = codes "refused, " ++ (word ++ (code ++ meaning_text family code))

-- a refusal by a code of four digits
unfoldable pub coded_text : List ℕ → Family → ℕ → List ℕ
coded_text word family code = refusal_text word family (hex_of 4 code)

-- a refusal by an SDO abort code
unfoldable pub abort_text : ℕ → List ℕ
abort_text code = refusal_text (codes "abort ") families.Abort (hex_of 8 code)

-- what a service of CoE brought
unfoldable pub sdo_value : SlaveSpec → SdoService → List ℕ → List ℕ
sdo_value slave (sdos.Upload index sub) value = value_text (kind_at slave index sub) value
sdo_value slave (sdos.UploadAll index from) value = whole_text slave index from value
sdo_value slave (sdos.List kind) value = list_text kind value
sdo_value slave (sdos.ObjectInfo index) value = object_info_text value
sdo_value slave (sdos.EntryInfo index sub info) value = entry_info_text value
sdo_value slave _ value = octets_text value

-- what a service brought
unfoldable pub brought : SlaveSpec → Service → List ℕ → List ℕ
brought slave (services.Sdo sdo) value = sdo_value slave sdo value
brought slave (services.ReadFile name pass) value = file_text value
brought slave (services.ReadIdn drive idn elements) value = idn_text slave drive idn elements value
brought slave services.GetIp value = block_text value
brought slave _ value = octets_text value

-- HOW A SERVICE ENDED that brought no value: done, handed over, or refused with the code and what it says
unfoldable pub ended_text : ReplyKind → List ℕ
ended_text kinds.Done = codes "done"
ended_text kinds.Value = codes "done"
ended_text (kinds.Abort code) = abort_text code
ended_text (kinds.FoeError code) = coded_text (codes "foe ") families.FoeError code
ended_text (kinds.SoeError code) = coded_text (codes "soe ") families.SoeError code
ended_text (kinds.EoeResult code) = coded_text (codes "eoe ") families.EoeResult code
ended_text (kinds.MailboxError code) = coded_text (codes "mailbox ") families.MailboxError code
ended_text (kinds.StateRefused code) = coded_text (codes "AL status ") families.AlStatus code
ended_text kinds.Handed = codes "handed over"

-- WHAT A SERVICE CAME TO: the value that it brought, by its type, or how it ended
unfoldable pub result_text : SlaveSpec → Service → ReplyKind → List ℕ → List ℕ
result_text slave service kinds.Value value = brought slave service value
result_text slave service kind value = ended_text kind
