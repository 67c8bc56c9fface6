-- The services of an application as the exchange of their mails has them.
use Rattle.std.specs.Prelude.{◌≡◌, ℕ, suc, ◌+◌, ◌-◌, ◌≤◌, ◌%◌, true, false, List, [], ◌∷◌, map, length, Option, Some, None}
use Rattle.slave_server.specs.of_link_mails.Body.{Body}
use Rattle.slave_server.specs.of_mailbox_mail.declared.outcome.ReplyKind.{ReplyKind}
use Rattle.slave_server.specs.of_al_state.Request as States
use Rattle.slave_server.specs.of_exchange_model.Exchange.{Exchange}
use Rattle.slave_server.specs.of_segment_model.Ends.{Outcome}
use Rattle.slave_server.specs.of_protocol_models.CoeMails as CoeMails
use Rattle.slave_server.specs.of_protocol_models.CoeOctets.{coe_mail_written}
use Rattle.slave_server.specs.of_protocol_models.CoeServer.{Emission, emergency, packet}
use Rattle.slave_server.specs.of_protocol_models.FoeMeaning as Foe
use Rattle.slave_server.specs.of_protocol_models.SoeClient as Soe
use Rattle.slave_server.specs.of_protocol_models.Elements as Elements
use Rattle.slave_server.specs.of_protocol_models.EoeClient as Eoe
use Rattle.slave_server.specs.of_protocol_models.EoeMails.{packet_mails}
use Rattle.slave_server.specs.of_protocol_models.Network.{Station}
use Rattle.slave_server.specs.of_protocol_models.EoeOctets.{eoe_mail_written}
use Rattle.slave_server.specs.of_segment_plan.declared.service.Service as Plan
use Rattle.slave_server.specs.of_segment_plan.declared.service.Service.TheVariants as Asked
use Rattle.slave_server.specs.of_state_model.Families.{InState, states_of}
use Rattle.slave_server.specs.of_state_model.Stated as Stated
use Rattle.slave_server.specs.of_slave_model.Acknowledged.{acknowledged}
use Rattle.slave_server.specs.of_slave_model.Profile.{Protocol}
use Rattle.slave_server.specs.of_slave_model.Server.{ServiceOf, Reply, told_by}
use Rattle.slave_server.specs.of_slave_model.Product.{product}
use Rattle.slave_server.specs.of_slave_parts.Parts.{Core, Server, parts}
use Rattle.slave_app.specs.declared.app.App.{App}
use Rattle.slave_app.specs.Meaning.{Meant, profile_at, sdo_of}

-- an application in its AL state, with the frame number of the slave's next packet
abbrev pub stationed : ℕ → App → InState (Station Core)
stationed frame a = record {
  inner = record { app = record { objects = a.objects; files = a.files.kept; idns = a.idns; block = a.block.items }; frame = frame };
  state = a.al;
}

-- a packet that is sent takes a frame number, modulo 16
abbrev pub frame_behind : ℕ → Option Emission → ℕ
frame_behind frame (Some (packet octets)) = (frame + 1) % 16
frame_behind frame _ = frame

-- the mails of what is sent, through a mailbox of this length: an emergency, or the fragments of a packet
abbrev pub emission_mails : ℕ → ℕ → Option Emission → List Body
emission_mails room frame None = []
emission_mails room frame (Some (emergency octets)) = told_by coe_mail_written (CoeMails.mail (CoeMails.Emergency (record { items = octets }))) ∷ []
emission_mails room frame (Some (packet octets)) = map (told_by eoe_mail_written) (packet_mails room octets frame)

-- a service by mails; a packet comes with this frame number
abbrev pub mail_service : ℕ → Plan.Service → Option ((i : Protocol) × ServiceOf i)
mail_service number (Asked.Sdo q) = Some (Protocol.CoE, sdo_of q)
mail_service number (Asked.ReadFile name pass) = Some (Protocol.FoE, Foe.read name.items pass)
mail_service number (Asked.WriteFile name pass bytes) = Some (Protocol.FoE, Foe.write name.items pass bytes)
mail_service number (Asked.ReadIdn drive idn elements) = Some (Protocol.SoE, Soe.read (Elements.target drive idn elements))
mail_service number (Asked.WriteIdn drive idn elements bytes) = Some (Protocol.SoE, Soe.write (Elements.target drive idn elements) bytes)
mail_service number (Asked.SetIp block) = Some (Protocol.EoE, Eoe.set_ip block)
mail_service number Asked.GetIp = Some (Protocol.EoE, Eoe.get_ip)
mail_service number (Asked.Forward p) = Some (Protocol.EoE, Eoe.packet p.items number)
mail_service number (Asked.State to) = None

-- an address block is no longer than the answer that tells it, through a mailbox of this length
abbrev pub Fits : ℕ → Plan.Service → Type 0
Fits back (Asked.SetIp block) = length block ≤ back - 10
Fits back _ = Unit {0}

-- A SERVICE PERFORMED IS THE EXCHANGE'S: it leaves the application that the exchange of its mails leaves, replies what that replies where it has
-- a reply, and emits what that emits, whatever lengths the mailboxes and whatever number the next packet has
pub record IsExchanged (old : App) (m : Meant) (out back frame : ℕ) (q : (i : Protocol) × ServiceOf i) : Type 0 where
  pub exec : (product parts (profile_at old out back)).exec (stationed frame old) q ≡ stationed (frame_behind frame m.emission) m.app
  pub reply : (product parts (profile_at old out back)).speech.handed q ≡ false → (product parts (profile_at old out back)).reply (stationed frame old) q ≡ m.reply
  pub emits : (product parts (profile_at old out back)).emits (stationed frame old) q ≡ emission_mails back frame m.emission

-- the exchange with changes of the AL state among its services, by the slave's own table; the sync managers of a slave that was brought up are right
abbrev pub with_states : App → ℕ → ℕ → Exchange (Stated.Counting (InState Server)) (InState (Station Core) × ℕ) (Stated.Act Body) (Stated.Service ((i : Protocol) × ServiceOf i)) (Outcome Reply)
with_states a out back = Stated.with_states (product parts (profile_at a out back)) (states_of acknowledged) (λ from to. States.refusal_of from to a.boot true)

-- how a change of the AL state ended, by its reply
abbrev pub outcome_of : ReplyKind → Outcome Reply
outcome_of (ReplyKind.StateRefused code) = Outcome.Refused code
outcome_of _ = Outcome.Reached

-- AND SO IS A CHANGE OF THE AL STATE that does not return to Init
pub record IsStateExchanged (old : App) (m : Meant) (out back frame words to : ℕ) : Type 0 where
  pub exec : (with_states old out back).exec (stationed frame old, words) (Stated.Service.State to) ≡ (stationed frame m.app, suc words)
  pub reply : (with_states old out back).reply (stationed frame old, words) (Stated.Service.State to) ≡ outcome_of m.reply.0
  pub emits : m.emission ≡ None
