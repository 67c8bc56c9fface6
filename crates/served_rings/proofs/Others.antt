-- What the servers of FoE, SoE and EoE answer a mail with: one mail that no other follows, none, or an element in fragments.
use Rattle.std.proofs.Common.{◌≡◌, inl, inr, ℕ, suc, ◌+◌, ◌-◌, ◌*◌, ◌/◌, ◌%◌, ◌<◌, ◌≤◌, ◌==◌, not, cond, Bool, true, false, List, [], ◌∷◌, map, length, Option, Some, None, Result, Ok, Err, refl, ap, ◌∙◌, arith, if◌then◌else◌}
use Rattle.std.specs.Prelude.{◌⊎◌}
use Rattle.served_places.specs.of_link_mails.Body.{Body}
use Rattle.run_work.specs.of_eoe.declared.message.Fragment.{Fragment}
use Rattle.run_work.specs.of_eoe.Message.{eoe_text}
use Rattle.run_work.specs.of_protocol_models.CoeMails as Coe
use Rattle.run_work.specs.of_eoe.Cutting.{fragments_of}
use Rattle.run_work.specs.of_eoe.Joining.{taken}
use Rattle.run_work.specs.of_eoe.declared.joining.Joined.{Joined}
use Rattle.run_work.specs.of_eoe.declared.joining.Joined.TheVariants.{More, Whole, Dropped}
use Rattle.served_places.specs.of_exchange_model.Exchange.{plain}
use Rattle.served_places.specs.of_exchange_model.Lifted.{EachOf}
use Rattle.run_work.specs.of_protocol_models.FoeMails as Foe
use Rattle.run_work.specs.of_protocol_models.FoeOctets as FoeOctets
use Rattle.run_work.specs.of_protocol_models.Elements.{Elements, Target}
use Rattle.run_work.specs.of_protocol_models.SoeMails as Soe
use Rattle.run_work.specs.of_protocol_models.SoeOctets as SoeOctets
use Rattle.run_work.specs.of_protocol_models.SoeServer as SoeServer
use Rattle.run_work.specs.of_protocol_models.EoeMails as Eoe
use Rattle.run_work.specs.of_protocol_models.EoeOctets as EoeOctets
use Rattle.run_work.specs.of_protocol_models.EoeServer as EoeServer
use Rattle.run_work.specs.of_protocol_models.Network.{Network, Station}
use Rattle.run_work.specs.of_master_hand.Spoken.{is_followed}
use Rattle.served_places.specs.of_serving_model.Passing.{ends_told}
use Rattle.run_work.specs.of_slave_model.Product.{emission}
use Rattle.run_work.specs.of_slave_model.Server.{told_by}
use Rattle.run_work.proofs.of_slave_model.Stations.{fragment_told}
use Rattle.served_rings.specs.Told.{TellLast}
use Rattle.served_rings.proofs.Ends.{ends_mapped, fragments_told}
use Rattle.served_rings.proofs.Words.{complete_ends, refusal_ends, fragment_goes}

-- one mail that no other follows, be it a reply or not
pub alone : (b : Body) → is_followed b ≡ false → TellLast (b ∷ [])
alone b e = go (emission b)
  where
    go : (c : Bool) → (cond (not c) (b ∷ []) [] ≡ []) ⊎ (ends_told is_followed (cond (not c) (b ∷ []) []) ≡ true)
    go true = inl refl
    go false = inr (ap not e)

-- emissions are no replies
pub none_plain : (bs : List Body) → EachOf (λ b. emission b ≡ true) bs → plain emission bs ≡ []
none_plain [] all = refl
none_plain (b ∷ bs) all = ap (λ c. cond (not c) (b ∷ plain emission bs) (plain emission bs)) all.0 ∙ none_plain bs all.1

-- fragments of a packet are
pub fragments_emitted : (fs : List Fragment) → EachOf (λ b. emission b ≡ true) (map (told_by EoeOctets.eoe_mail_written) (map (λ (f : Fragment). Eoe.mail (Eoe.Part f)) fs))
fragments_emitted [] = tt
fragments_emitted (f ∷ fs) = (ap (λ (b : Bool). Coe.is_emission (if b then Coe.fragment (eoe_text (Eoe.Part f)) else Coe.other (eoe_text (Eoe.Part f)))) (fragment_told f), fragments_emitted fs)

-- SoE gives replies alone
pub soe_calm : (ms : List Soe.SoeMail) → EachOf (λ b. emission b ≡ false) (map (told_by SoeOctets.soe_mail_written) ms)
soe_calm [] = tt
soe_calm (Soe.mail m ∷ ms) = (refl, soe_calm ms)
soe_calm (Soe.unread fault incomplete ∷ ms) = (refl, soe_calm ms)
soe_calm (Soe.failed detail ∷ ms) = (refl, soe_calm ms)
soe_calm (Soe.other body ∷ ms) = (refl, soe_calm ms)

-- the replies are these mails as they are written
pub replies : {M : Type 0} (write : M → Body) (ms : List M) (bs : List Body) → plain emission bs ≡ map write ms → (ms ≡ []) ⊎ (ends_told (λ m. is_followed (write m)) ms ≡ true) → TellLast bs
replies write ms bs all told = elim told [
  | inl none ↦ inl (all ∙ ap (map write) none)
  | inr ends ↦ inr (ap (ends_told is_followed) all ∙ ends_mapped write is_followed ms ∙ ends)
]

-- FoE
foe_last : (m : Foe.FoeMail) → is_followed (told_by FoeOctets.foe_mail_written m) ≡ false
foe_last (Foe.mail f) = refl
foe_last (Foe.unread fault) = refl
foe_last (Foe.failed detail) = refl
foe_last (Foe.other body) = refl

pub foe_told : (ms : List Foe.FoeMail) → length ms ≤ 1 → TellLast (map (told_by FoeOctets.foe_mail_written) ms)
foe_told [] one = inl refl
foe_told (m ∷ []) one = alone (told_by FoeOctets.foe_mail_written m) (foe_last m)
foe_told (m ∷ (n ∷ ms)) one = absurd (omega arith)

-- SoE
module _ {S : Type 0} (o : Elements S) (room : ℕ) (wide : 10 < room) (app : S) where
  abbrev Told : SoeServer.Outcome S → Type 0
  Told x = (x.answers ≡ []) ⊎ (ends_told (λ m. is_followed (told_by SoeOctets.soe_mail_written m)) x.answers ≡ true)

  soe_either : (b : Bool) (r s : SoeServer.Outcome S) → Told r → Told s → Told (if b then r else s)
  soe_either true r s p q = p
  soe_either false r s p q = q

  soe_asked : (t : Target) (r : Result (List ℕ) ℕ) → Told (SoeServer.asked room app t r)
  soe_asked t (Ok bytes) = inr (fragments_told (λ m. is_followed (told_by SoeOctets.soe_mail_written m)) 2 t (λ part. complete_ends 2 t.idn t part (omega arith)) (λ left part. fragment_goes left t part) (suc (length bytes)) (room - 10) bytes (omega (arith, wide)) (omega arith))
  soe_asked t (Err code) = inr (ap not (refusal_ends 2 code t (omega arith)))

  soe_written : (t : Target) (r : Result S ℕ) → Told (SoeServer.written app t r)
  soe_written t (Ok changed) = inr (ap not (complete_ends 4 t.idn t [] (omega arith)))
  soe_written t (Err code) = inr (ap not (refusal_ends 4 code t (omega arith)))

  soe_takes : (join : Option SoeServer.Join) (s : Soe.Soe) → Told (SoeServer.soe_takes o room app join s)
  soe_takes join s =
      soe_either s.incomplete _ _ (inl refl)
      (soe_either (s.opcode == 1) _ _ (soe_asked (SoeServer.target_of s) (o.read app (SoeServer.target_of s)))
      (soe_either (s.opcode == 3) _ _ (soe_written (SoeServer.target_of s) (o.write app (SoeServer.target_of s) (SoeServer.gathered join s))) (inr refl)))

  soe_unread : (join : Option SoeServer.Join) (fault : Soe.SoeFault) (incomplete : Bool) → Told (SoeServer.takes_unread app join fault incomplete)
  soe_unread join Soe.Short incomplete = inr refl
  soe_unread join Soe.Opcode incomplete = soe_either incomplete _ _ (inl refl) (inr refl)
  soe_unread join Soe.Incomplete incomplete = inl refl

  pub soe_outcome : (join : Option SoeServer.Join) (m : Soe.SoeMail) → Told (SoeServer.soe_outcome o room app join m)
  soe_outcome join (Soe.mail s) = soe_takes join s
  soe_outcome join (Soe.unread fault incomplete) = soe_unread join fault incomplete
  soe_outcome join (Soe.failed detail) = inl refl
  soe_outcome join (Soe.other body) = inl refl

-- EoE
module _ {S : Type 0} (o : Network S) (room : ℕ) (station : Station S) where
  abbrev EoeTold : EoeServer.Outcome S → Type 0
  EoeTold x = TellLast (map (told_by EoeOctets.eoe_mail_written) x.gives)

  eoe_sends : (frame : ℕ) (r : S × Option (List ℕ)) → TellLast (map (told_by EoeOctets.eoe_mail_written) (EoeServer.sends room frame r).1)
  eoe_sends frame (app, None) = inl refl
  eoe_sends frame (app, Some octets) = inl (none_plain _ (fragments_emitted (fragments_of octets (32 * ((room - 10) / 32)) frame)))

  eoe_joined : (last : Bool) (unfinished : Option _) (j : Joined) → EoeTold (EoeServer.joined o room station last unfinished j)
  eoe_joined last unfinished More = inl refl
  eoe_joined last unfinished (Whole p) = eoe_sends station.frame (o.packet station.app p.items)
  eoe_joined last unfinished Dropped = inl refl

  eoe_set : (unfinished : Option _) (r : Option S) → EoeTold (EoeServer.set_answer station unfinished r)
  eoe_set unfinished (Some app) = alone (told_by EoeOctets.eoe_mail_written (Eoe.mail (Eoe.SetIpAnswer 0))) refl
  eoe_set unfinished None = alone (told_by EoeOctets.eoe_mail_written (Eoe.mail (Eoe.SetIpAnswer 1))) refl

  eoe_unread : (unfinished : Option _) (fault : Eoe.EoeFault) (kind : ℕ) → EoeTold (EoeServer.takes_unread station unfinished fault kind)
  eoe_unread unfinished Eoe.Short kind = alone (told_by EoeOctets.eoe_mail_written (Eoe.failed 6)) refl
  eoe_unread unfinished Eoe.WrongType kind = go (kind % 2 == 0)
    where
      go : (b : Bool) → TellLast (map (told_by EoeOctets.eoe_mail_written) (if b then Eoe.unsupported (kind + 1) ∷ [] else []))
      go true = alone (told_by EoeOctets.eoe_mail_written (Eoe.unsupported (kind + 1))) refl
      go false = inl refl
  eoe_unread unfinished Eoe.Offset kind = inl refl

  eoe_takes : (unfinished : Option _) (e : Eoe.Eoe) → EoeTold (EoeServer.eoe_takes o room station unfinished e)
  eoe_takes unfinished (Eoe.Part f) = eoe_joined f.last (taken unfinished f).unfinished (taken unfinished f).joined
  eoe_takes unfinished (Eoe.SetIp block) = eoe_set unfinished (EoeServer.addressed o room station.app block.items)
  eoe_takes unfinished Eoe.GetIp = alone (told_by EoeOctets.eoe_mail_written (Eoe.mail (Eoe.GetIpAnswer 0 (record { items = o.block station.app })))) refl
  eoe_takes unfinished (Eoe.SetIpAnswer result_code) = inl refl
  eoe_takes unfinished (Eoe.GetIpAnswer result_code block) = inl refl

  pub eoe_outcome : (unfinished : Option _) (m : Eoe.EoeMail) → EoeTold (EoeServer.eoe_outcome o room station unfinished m)
  eoe_outcome unfinished (Eoe.mail e) = eoe_takes unfinished e
  eoe_outcome unfinished (Eoe.unread fault kind) = eoe_unread unfinished fault kind
  eoe_outcome unfinished (Eoe.unsupported kind) = inl refl
  eoe_outcome unfinished (Eoe.failed detail) = inl refl
  eoe_outcome unfinished (Eoe.other body) = inl refl
