-- What a service is about, and the fragments of an element's octets from a place on.
use Rattle.std.specs.Prelude.{◌≡◌, ℕ, suc, ◌-◌, Bool, List, [], ◌∷◌, length, drop, Option, None, Some}
use Rattle.protocol_models.specs.of_soe_codec.Message.{soe_text}
use Rattle.protocol_models.specs.Elements.{Target, target}
use Rattle.protocol_models.specs.SoeMails.{Soe, SoeMail, mail, message, fragments}
use Rattle.soe_parts.specs.declared.subject.Subject.{Subject}

-- what a service is about: drive, IDN and element flags
abbrev pub subject_view : Subject → Target
subject_view s = target s.drive s.idn s.elements

-- a message with these two marks, the incomplete bit and the error bit
abbrev pub message_with : ℕ → Bool → Bool → Target → ℕ → List ℕ → Soe
message_with opcode incomplete error t field bytes = record (message opcode incomplete t field bytes) { error = error }

-- the fragments of an element's octets from a place on, or none where nothing is left
abbrev pub left_from : ℕ → ℕ → Target → List ℕ → Option ℕ → List SoeMail
left_from room opcode t octets None = []
left_from room opcode t octets (Some from) = fragments (suc (length octets)) opcode t (room - 10) (drop from octets)

-- a body is the one spelling of the first of these mails, and the others are behind it
pub record IsFirst (mails : List SoeMail) (body : List ℕ) (behind : List SoeMail) : Type 0 where
  pub message : Soe
  pub spelled : body ≡ soe_text message
  pub first : mails ≡ mail message ∷ behind
