-- HOW MANY MAILS A SLAVE ANSWERS ONE MAIL WITH AT MOST, by what its application tells and the length of its mailbox.
use Rattle.std.specs.Prelude.{◌≡◌, ℕ, suc, ◌-◌, ◌/◌, ◌≤◌, ◌==◌, ◌&&◌, not, Bool, true, false, []}
use Rattle.slave_parts.specs.of_eoe.Cutting.{blocks_of}
use Rattle.slave_parts.specs.of_link_mails.Body.{Body}
use Rattle.slave_parts.specs.of_protocol_models.CoeMails.{CoeMail, mail, unread, failed, fragment, other, Coe, Expedited, First}
use Rattle.slave_parts.specs.of_protocol_models.CoeModel.{value_length}
use Rattle.slave_parts.specs.of_protocol_models.CoeOctets.{coe_mail_heard}
use Rattle.slave_parts.specs.of_protocol_models.CoeServer.{Transfer, idle, downloading, uploading}
use Rattle.slave_parts.specs.of_protocol_models.Tables.{Target, Ask}
use Rattle.slave_parts.specs.of_slave_model.Application.{Parts}
use Rattle.slave_parts.specs.of_slave_model.Profile.{Profile}
use Rattle.slave_parts.specs.of_slave_model.Server.{Server, heard_by}
use Rattle.slave_parts.specs.of_protocol_models.Elements as Elements

-- WHAT AN APPLICATION TELLS: no information of its objects has more octets than the one number, and no element of its IDNs more than the other
pub record Tells {T F I : Type 0} (o : Parts T F I) (information element : ℕ) : Type 0 where
  pub objects : (al : ℕ) (t : T) (a : Ask) → (o.tables 0).valid t ≡ true → value_length ((o.tables al).info t a) ≤ information
  pub idns : (i : I) (t : Elements.Target) → o.elements.valid i ≡ true → value_length (o.elements.read i t) ≤ element

-- SO MANY MAILS ARE ENOUGH: an answer with an emergency behind it; the parts of an information, and the fragments of an element, of which each but the
-- last fills the mailbox; and the fragments of a packet that goes back, of 1,514 octets at most
pub record AreEnough (p : Profile) (information element most : ℕ) : Type 0 where
  pub two : 2 ≤ most
  pub parts : suc (information / (p.back - 12)) ≤ most
  pub fragments : suc (element / (p.back - 10)) ≤ most
  pub blocks : blocks_of 1514 ≤ most

-- the entry whose download makes the slave send a packet of itself
abbrev pub is_packet_entry : Target → Bool
is_packet_entry t = not t.all && (t.sub == 1 && t.index == 0x2F01)

-- a download to it that isn't finished
abbrev pub brings_packet : Transfer → Bool
brings_packet idle = false
brings_packet (downloading t size got toggle) = is_packet_entry t
brings_packet (uploading t rest toggle) = false

-- a message that begins one, or is one as a whole
abbrev pub begins_message : Coe → Bool
begins_message (Expedited index sub all bytes) = is_packet_entry (record { index = index; sub = sub; all = all })
begins_message (First index sub all size bytes) = is_packet_entry (record { index = index; sub = sub; all = all })
begins_message _ = false

-- of any mail to CoE
abbrev pub begins_mail : CoeMail → Bool
begins_mail (mail c) = begins_message c
begins_mail (unread fault service index sub) = false
begins_mail (failed detail) = false
begins_mail (fragment body) = false
begins_mail (other body) = false

-- A MAIL OF A DOWNLOAD TO THAT ENTRY: the first of its mails
abbrev pub begins_packet : Body → Bool
begins_packet b = begins_mail (heard_by coe_mail_heard (other []) b)

-- A SLAVE THAT EMITS NO PACKET by what it has taken so far: no such download is unfinished
abbrev pub is_packet_free : {T F I : Type 0} → Server T F I → Bool
is_packet_free j = not (brings_packet j.sdo)
