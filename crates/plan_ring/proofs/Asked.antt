-- A SLAVE'S SERVICES BY THE MASTER'S NAMES are such as the laws of lives speak of.
use Rattle.std.proofs.Common.{◌≡◌, ℕ, ◌&&◌, Bool, true, false, List, refl, ap, sym, ◌∙◌}
use Rattle.std.specs.Prelude.{if◌then◌else◌, None, option_map}
use Rattle.whole_ring.specs.of_frame_view.View.{Lens}
use Rattle.slave_server.specs.of_link_mails.Body.{Body}
use Rattle.slave_server.specs.of_exchange_model.Exchange.{Exchange, IsLawful}
use Rattle.plan_ring.proofs.Named.{named_law}
use Rattle.slave_server.specs.of_exchange_model.Refusing.{Refusal, gated}
use Rattle.slave_server.specs.of_protocol_models.FoeMeaning as FoeMeaning
use Rattle.slave_server.specs.of_protocol_models.Network.{Station}
use Rattle.run_frames.specs.of_master_hand.Spoken.{Asked, sdo, file, drive, net, passed, hand_speech, acknowledged}
use Rattle.slave_server.specs.of_state_model.Families.{InState, states_of}
use Rattle.slave_server.specs.of_slave_model.Acknowledged as Slave
use Rattle.slave_server.specs.of_slave_model.Product.{product, served, refusal, side}
use Rattle.slave_server.specs.of_slave_model.Profile.{Protocol, Profile, IsProfile, areas_of, serves}
use Rattle.slave_server.specs.of_slave_parts.Parts.{Core, Server, parts}
use Rattle.plan_ring.specs.Named.{Agrees, AgreesLast}
use Rattle.whole_ring.specs.of_life_model.Chain.{Same}
use Rattle.plan_ring.specs.KeptFirst.{Forgets}
use Rattle.plan_ring.specs.Real.{real_clearing}
use Rattle.plan_ring.specs.Alike.{Alike}
use Rattle.plan_ring.specs.Asked.{is_service, service_of, as_asked, asked}

-- a client is that of its protocol, served or not
gated_speech : {V A M Q R : Type 0} (b : Bool) (x : Exchange V A M Q R) (r : Refusal V M Q R) → (gated b x r).speech ≡ x.speech
gated_speech true x r = refl
gated_speech false x r = refl

module _ (p : Profile) where
  side_speech : (i : Protocol) → (side parts p 0 i).speech ≡ (served parts p 0 i).speech
  side_speech i = gated_speech (serves p 0 i) (served parts p 0 i) (refusal parts p 0 i)

  valid_as : (q : Asked) → is_service q ≡ true → (hand_speech (areas_of p)).valid q ≡ true → (product parts p).speech.valid (service_of q) ≡ true
  valid_as (sdo q) is v = ap (λ x. x.valid q) (side_speech Protocol.CoE) ∙ v
  valid_as (file q) is v = ap (λ x. x.valid q) (side_speech Protocol.FoE) ∙ v
  valid_as (drive q) is v = ap (λ x. x.valid q) (side_speech Protocol.SoE) ∙ v
  valid_as (net q) is v = ap (λ x. x.valid q) (side_speech Protocol.EoE) ∙ v
  valid_as (passed m) is v = absurd (let no_ : false ≡ true = is in cc)

  planned_as : (q : Asked) (hs : List Body) → is_service q ≡ true → (hand_speech (areas_of p)).planned q hs ≡ (product parts p).speech.planned (service_of q) hs
  planned_as (sdo q) hs is = sym (ap (λ x. x.planned q hs) (side_speech Protocol.CoE))
  planned_as (file q) hs is = sym (ap (λ x. x.planned q hs) (side_speech Protocol.FoE))
  planned_as (drive q) hs is = sym (ap (λ x. x.planned q hs) (side_speech Protocol.SoE))
  planned_as (net q) hs is = sym (ap (λ x. x.planned q hs) (side_speech Protocol.EoE))
  planned_as (passed m) hs is = absurd (let no_ : false ≡ true = is in cc)

  ends_as : (q : Asked) (hs : List Body) → is_service q ≡ true → (hand_speech (areas_of p)).ends q hs ≡ option_map as_asked.reply ((product parts p).speech.ends (service_of q) hs)
  ends_as (sdo q) hs is = ap (λ x. option_map as_asked.reply (x.ends q hs)) (sym (side_speech Protocol.CoE))
  ends_as (file q) hs is = ap (λ x. option_map as_asked.reply (x.ends q hs)) (sym (side_speech Protocol.FoE))
  ends_as (drive q) hs is = ap (λ x. option_map as_asked.reply (x.ends q hs)) (sym (side_speech Protocol.SoE))
  ends_as (net q) hs is = ap (λ x. option_map as_asked.reply (x.ends q hs)) (sym (side_speech Protocol.EoE))
  ends_as (passed m) hs is = absurd (let no_ : false ≡ true = is in cc)

  handed_as : (q : Asked) → is_service q ≡ true → (hand_speech (areas_of p)).handed q ≡ (product parts p).speech.handed (service_of q)
  handed_as (sdo q) is = sym (ap (λ x. x.handed q) (side_speech Protocol.CoE))
  handed_as (file q) is = sym (ap (λ x. x.handed q) (side_speech Protocol.FoE))
  handed_as (drive q) is = sym (ap (λ x. x.handed q) (side_speech Protocol.SoE))
  handed_as (net q) is = sym (ap (λ x. x.handed q) (side_speech Protocol.EoE))
  handed_as (passed m) is = absurd (let no_ : false ≡ true = is in cc)

  pub agrees : Agrees (product parts p) as_asked (hand_speech (areas_of p))
  agrees = record { valid = valid_as; planned = planned_as; ends = ends_as; handed = handed_as }

-- so it owes the laws
pub asked_lawful : ((p : Profile) → IsProfile p → IsLawful (product parts p)) → (p : Profile) → IsProfile p → (boot : Bool) (lens : ℕ → Lens) → IsLawful (asked p boot lens).exchange
asked_lawful law p profile boot lens = named_law (product parts p) as_asked (hand_speech (areas_of p)) (law p profile) (agrees p)

file_last : (q : FoeMeaning.Service) → FoeMeaning.is_file_read q ≡ Slave.is_file_read q
file_last (FoeMeaning.read name pass) = refl
file_last (FoeMeaning.write name pass bytes) = refl

pub agrees_last : AgreesLast (let s = states_of {V = Server} {A = Station Core} Slave.acknowledged in s) as_asked acknowledged
agrees_last (sdo q) is = refl
agrees_last (file q) is = file_last q
agrees_last (drive q) is = refl
agrees_last (net q) is = refl
agrees_last (passed m) is = absurd (let no_ : false ≡ true = is in cc)

-- THE MASTER SPEAKS ALIKE of all but mails that are passed on
pub alike : (p : Profile) (boot : Bool) (lens : ℕ → Lens) → Alike is_service (hand_speech (areas_of p)) (asked p boot lens).exchange.speech
alike p boot lens = record {
  emission = refl;
  valid = λ q is. sym (ap (λ (b : Bool). b && (hand_speech (areas_of p)).valid q) is);
  planned = λ q hs is. refl;
  ends = λ q hs is. sym (ap (λ (b : Bool). if b then (hand_speech (areas_of p)).ends q hs else None) is);
  handed = λ q is. refl;
}

-- the AL state told last stands, and a return to Init leaves it
cleared_same : (a b : InState (Station Core)) → Same (states_of {V = Server} {A = Station Core} Slave.acknowledged) a b → Same (states_of {V = Server} {A = Station Core} Slave.acknowledged) (real_clearing.cleared a) (real_clearing.cleared b)
cleared_same a b same = λ k. ap (λ (x : InState (Station Core)). record x { inner = record x.inner { frame = 0 } }) (same k)

pub forgets_as : (p : Profile) (boot : Bool) (lens : ℕ → Lens) → Forgets (asked p boot lens) real_clearing
forgets_as p boot lens = record { forgets = λ k j a. refl; keeps = λ a b same. cleared_same a b same }
