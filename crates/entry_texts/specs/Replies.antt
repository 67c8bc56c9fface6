-- The lines of a service that got a reply.
use Rattle.std.specs.Prelude.{ℕ, ◌==◌, List, ◌++◌, codes, length, if◌then◌else◌}
use Rattle.std.specs.Fmt.{decimal}
use Rattle.ecmbx_words.specs.declared.status.Status.TheVariants as statuses
use Rattle.mailbox_mail.specs.declared.outcome.ReplyKind.{ReplyKind}
use Rattle.mailbox_mail.specs.declared.outcome.ReplyKind.TheVariants as kinds
use Rattle.gateway_tool.specs.declared.reply.Reply.{Reply}
use Rattle.people_words.specs.declared.ended.Ended.{Ended}
use Rattle.segment_plan.specs.declared.service.Service.{Service}
use Rattle.segment_plan.specs.declared.slave.SlaveSpec.{SlaveSpec}
use Rattle.service_texts.specs.Services.{service_text}
use Rattle.service_texts.specs.Results.{result_text}

-- how a form ends whose service got a reply of this kind
abbrev pub end_of : ReplyKind → Ended
end_of kinds.Done = Ended.As statuses.Done
end_of kinds.Value = Ended.As statuses.Done
end_of kinds.Handed = Ended.As statuses.Done
end_of _ = Ended.ServiceRefused

-- what stands ahead of each line: the slave and the service
unfoldable pub head_text : SlaveSpec → Service → List ℕ
head_text slave service = slave.name ++ (codes ": " ++ (service_text slave service ++ codes " -> "))

-- THE LINE OF A REPLY
unfoldable pub reply_line : SlaveSpec → Service → Reply → List ℕ
reply_line slave service reply = head_text slave service ++ (result_text slave service reply.kind reply.value ++ codes "\n")

-- so many octets
unfoldable pub count_text : ℕ → List ℕ
count_text count = if count == 1 then codes "1 octet" else decimal count ++ codes " octets"

-- the line of a file that was read and saved
unfoldable pub saved_line : SlaveSpec → Service → List ℕ → List ℕ → List ℕ
saved_line slave service octets file = head_text slave service ++ (count_text (length octets) ++ (codes ", saved in " ++ (file ++ codes "\n")))
