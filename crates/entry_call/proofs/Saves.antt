-- What becomes of a reply.
use Rattle.std.proofs.Common.{◌≡◌, ◌≢◌, ℕ, List, [], Option, Ok, Err, inl}
use Rattle.ec_outside.specs.Files.{Table, Saves}
use Rattle.ec_outside.specs.declared.files.FilesErr.TheVariants as errors
use Rattle.ecmbx_words.specs.Texts.{fault_line}
use Rattle.ecmbx_words.specs.declared.status.Status.TheVariants as statuses
use Rattle.mailbox_mail.specs.declared.outcome.ReplyKind.{ReplyKind}
use Rattle.mailbox_mail.specs.declared.outcome.ReplyKind.TheVariants as kinds
use Rattle.people_words.specs.Ended.{Told}
use Rattle.people_words.specs.declared.ended.Ended.{Ended}
use Rattle.segment_plan.specs.declared.service.Service.{Service}
use Rattle.segment_plan.specs.declared.slave.SlaveSpec.{SlaveSpec}
use Rattle.entry_act.specs.Words.{last_in}
use Rattle.entry_texts.specs.Replies.{end_of, saved_line}
use Rattle.entry_call.specs.Ends.{Follows}
use Rattle.entry_call.specs.Service.{SaveCourse}

-- a reply is told with an end of its own
pub end_of_no_sink : (kind : ReplyKind) → end_of kind ≢ Ended.As statuses.SinkFault
end_of_no_sink kinds.Done is = absurd cc
end_of_no_sink kinds.Value is = absurd cc
end_of_no_sink (kinds.Abort code) is = absurd cc
end_of_no_sink (kinds.FoeError code) is = absurd cc
end_of_no_sink (kinds.SoeError code) is = absurd cc
end_of_no_sink (kinds.EoeResult code) is = absurd cc
end_of_no_sink (kinds.MailboxError code) is = absurd cc
end_of_no_sink (kinds.StateRefused code) is = absurd cc
end_of_no_sink kinds.Handed is = absurd cc

pub end_of_no_file : (kind : ReplyKind) → end_of kind ≢ Ended.As statuses.FileFault
end_of_no_file kinds.Done is = absurd cc
end_of_no_file kinds.Value is = absurd cc
end_of_no_file (kinds.Abort code) is = absurd cc
end_of_no_file (kinds.FoeError code) is = absurd cc
end_of_no_file (kinds.SoeError code) is = absurd cc
end_of_no_file (kinds.EoeResult code) is = absurd cc
end_of_no_file (kinds.MailboxError code) is = absurd cc
end_of_no_file (kinds.StateRefused code) is = absurd cc
end_of_no_file kinds.Handed is = absurd cc

module _ (words : List (List ℕ)) (slave : SlaveSpec) (service : Service) (octets file : List ℕ) (before behind : Option Table) (old new : Option (List ℕ)) (end : Ended) where
  -- a value that was saved
  pub saved_in : file ≡ last_in words → Saves before behind file octets (Ok tt) → Told (Ended.As statuses.Done) (saved_line slave service octets file) old new end
      → Follows (SaveCourse words slave service octets before behind) old new end
  saved_in same saves told =
      let under = rw same at saves in
      let line = rw same at told in
      (Ended.As statuses.Done, saved_line slave service octets (last_in words), SaveCourse.saved under, line)

  -- one that wasn't for a fault
  pub unsaved_in : file ≡ last_in words → Saves before behind file octets (Err errors.Failed) → Told (Ended.As statuses.FileFault) fault_line old new end
      → Follows (SaveCourse words slave service octets before behind) old new end
  unsaved_in same saves told =
      let under = rw same at saves in
      (Ended.As statuses.FileFault, fault_line, SaveCourse.unsaved under, told)

  -- and one for want of memory
  pub starved_in : file ≡ last_in words → Saves before behind file octets (Err errors.NoMemory) → end ≡ Ended.As statuses.NoMemory
      → Follows (SaveCourse words slave service octets before behind) old new end
  starved_in same saves is =
      let under = rw same at saves in
      (Ended.As statuses.NoMemory, [], SaveCourse.starved under, inl is)
