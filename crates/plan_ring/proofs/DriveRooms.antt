-- WHAT SERVERS OF SOE AND EOE give has room, and leaves what they act on.
use Rattle.std.proofs.Common.{◌≡◌, ℕ, zero, suc, ◌+◌, ◌-◌, ◌*◌, ◌/◌, ◌%◌, ◌≤◌, ◌==◌, ◌&&◌, nat_le, Bool, true, false, List, [], ◌∷◌, map, length, take, drop, Option, Some, None, Result, Ok, Err, refl, ap, sym, subst, arith, leb-true}
use Rattle.std.specs.Prelude.{if◌then◌else◌}
use Rattle.slave_server.specs.of_protocol_models.Elements as Elements
use Rattle.slave_server.specs.of_protocol_models.Elements.{Target, Elements}
use Rattle.slave_server.specs.of_protocol_models.SoeMails as SoeMails
use Rattle.slave_server.specs.of_protocol_models.SoeMails.{Soe, SoeMail, fragments, message}
use Rattle.slave_server.specs.of_protocol_models.SoeServer as Soe
use Rattle.slave_server.specs.of_protocol_models.SoeOctets.{soe_mail_written}
use Rattle.slave_server.specs.of_eoe.declared.joining.Joined.{Joined}
use Rattle.slave_server.specs.of_eoe.declared.joining.Joined.TheVariants.{More, Whole, Dropped}
use Rattle.slave_server.specs.of_eoe.declared.joining.Unfinished.{Unfinished}
use Rattle.slave_server.specs.of_eoe.declared.message.Fragment.{Fragment}
use Rattle.slave_server.specs.of_eoe.Address.{is_block}
use Rattle.slave_server.specs.of_eoe.Cutting.{fragments_of}
use Rattle.slave_server.specs.of_eoe.Joining.{taken}
use Rattle.slave_server.specs.of_eoe.Message.{eoe_text}
use Rattle.slave_server.specs.of_protocol_models.EoeMails as EoeMails
use Rattle.slave_server.specs.of_protocol_models.EoeMails.{Eoe, EoeMail, Part}
use Rattle.slave_server.specs.of_protocol_models.Network.{Network, Station}
use Rattle.slave_server.specs.of_protocol_models.EoeServer as Eoe
use Rattle.slave_server.specs.of_protocol_models.EoeOctets.{eoe_mail_written}
use Rattle.whole_ring.specs.of_slave_lives.Nodes.{IsPlaced}
use Rattle.plan_ring.specs.Rooms.{AllPlaced}
use Rattle.plan_ring.proofs.Rooms.{body_placed, error_placed, take_few, fragments_placed}

module _ (back : ℕ) (least : 64 ≤ back) (most : back ≤ 1486) where
  -- ---- SoE
  module _ {S : Type 0} (o : Elements S) (Is : S → Type 0) (stays : (s changed : S) (t : Target) (bytes : List ℕ) → Is s → o.write s t bytes ≡ Ok changed → Is changed) where
    pub record SoeGood (x : Soe.Outcome S) : Type 0 where
      pub answers : AllPlaced back (map soe_mail_written x.answers)
      pub app : Is x.app

    soe_placed : (m : Soe) → length m.bytes.items ≤ back - 10 → IsPlaced back (soe_mail_written (SoeMails.mail m))
    soe_placed m few = body_placed back least most _ _ (omega (arith, few, least))

    parted : (fuel opcode : ℕ) (t : Target) (bytes : List ℕ) → AllPlaced back (map soe_mail_written (fragments fuel opcode t (back - 10) bytes))
    parted zero opcode t bytes = tt
    parted (suc fuel) opcode t bytes = go (parted fuel opcode t (drop (back - 10) bytes)) (nat_le (length bytes) (back - 10)) refl
      where
        go : AllPlaced back (map soe_mail_written (fragments fuel opcode t (back - 10) (drop (back - 10) bytes))) → (b : Bool) → nat_le (length bytes) (back - 10) ≡ b → AllPlaced back (map soe_mail_written (if b then SoeMails.mail (message opcode false t t.idn bytes) ∷ []
            else SoeMails.mail (message opcode true t (SoeMails.parts_of (back - 10) (length bytes - (back - 10))) (take (back - 10) bytes)) ∷ fragments fuel opcode t (back - 10) (drop (back - 10) bytes)))
        go more true e = (soe_placed (message opcode false t t.idn bytes) (leb-true _ _ e), tt)
        go more false e = (soe_placed (message opcode true t (SoeMails.parts_of (back - 10) (length bytes - (back - 10))) (take (back - 10) bytes)) (take_few (back - 10) bytes), more)

    refused : (app : S) (opcode : ℕ) (t : Target) (code : ℕ) → Is app → SoeGood (Soe.answered app None (SoeMails.mail (SoeMails.refusal opcode t code) ∷ []))
    refused app opcode t code is = record { answers = (soe_placed (SoeMails.refusal opcode t code) (omega (arith, least)), tt); app = is }

    soe_fails : (app : S) (join : Option Soe.Join) (detail : ℕ) → Is app → SoeGood (Soe.answered app join (SoeMails.failed detail ∷ []))
    soe_fails app join detail is = record { answers = (error_placed back least most detail, tt); app = is }

    whole : (app : S) (join : Option Soe.Join) (m : Soe) → Is app → SoeGood (Soe.takes_whole o back app join m)
    whole app join m is = go (m.opcode == 1) (m.opcode == 3)
      where
        asked : (r : Result (List ℕ) ℕ) → SoeGood (Soe.asked back app (Soe.target_of m) r)
        asked (Ok bytes) = record { answers = parted (suc (length bytes)) 2 (Soe.target_of m) bytes; app = is }
        asked (Err code) = refused app 2 (Soe.target_of m) code is

        written_ : (r : Result S ℕ) → o.write app (Soe.target_of m) (Soe.gathered join m) ≡ r → SoeGood (Soe.written app (Soe.target_of m) r)
        written_ (Ok changed) e = record { answers = (soe_placed (message 4 false (Soe.target_of m) (Soe.target_of m).idn []) (omega (arith, least)), tt); app = stays app changed (Soe.target_of m) (Soe.gathered join m) is e }
        written_ (Err code) e = refused app 4 (Soe.target_of m) code is

        go : (a b : Bool) → SoeGood (if a then Soe.asked back app (Soe.target_of m) (o.read app (Soe.target_of m)) else if b then Soe.written app (Soe.target_of m) (o.write app (Soe.target_of m) (Soe.gathered join m)) else Soe.answered app None (SoeMails.failed 4 ∷ []))
        go true b = asked (o.read app (Soe.target_of m))
        go false true = written_ (o.write app (Soe.target_of m) (Soe.gathered join m)) refl
        go false false = soe_fails app None 4 is

    pub soe_outcome : (app : S) (join : Option Soe.Join) (m : SoeMail) → Is app → SoeGood (Soe.soe_outcome o back app join m)
    soe_outcome app join (SoeMails.mail m) is = go m.incomplete
      where
        go : (b : Bool) → SoeGood (if b then Soe.silent app (Some (Soe.joined join m)) else Soe.takes_whole o back app join m)
        go true = record { answers = tt; app = is }
        go false = whole app join m is
    soe_outcome app join (SoeMails.unread SoeMails.Short incomplete) is = soe_fails app join 6 is
    soe_outcome app join (SoeMails.unread SoeMails.Opcode incomplete) is = go incomplete
      where
        go : (b : Bool) → SoeGood (if b then Soe.silent app join else Soe.answered app join (SoeMails.failed 4 ∷ []))
        go true = record { answers = tt; app = is }
        go false = soe_fails app join 4 is
    soe_outcome app join (SoeMails.unread SoeMails.Incomplete incomplete) is = record { answers = tt; app = is }
    soe_outcome app join (SoeMails.failed detail) is = record { answers = tt; app = is }
    soe_outcome app join (SoeMails.other body) is = record { answers = tt; app = is }

  -- ---- EoE
  module _ {S : Type 0} (o : Network S) (Is : S → Type 0) (packets : (s : S) (octets : List ℕ) → Is s → Is (o.packet s octets).0) (sets : (s changed : S) (block : List ℕ) → Is s → length block + 10 ≤ back → o.set_ip s block ≡ Some changed → Is changed)
      (blocks : (s : S) → Is s → length (o.block s) + 10 ≤ back) where
    -- a station whose frame number has four bits
    pub record IsAt (s : Station S) : Type 0 where
      pub app : Is s.app
      pub frame : s.frame ≤ 15

    pub record EoeGood (x : Eoe.Outcome S) : Type 0 where
      pub gives : AllPlaced back (map eoe_mail_written x.gives)
      pub at : IsAt x.station

    eoe_placed : (m : Eoe) → length (eoe_text m) + 6 ≤ back → IsPlaced back (eoe_mail_written (EoeMails.mail m))
    eoe_placed m few = body_placed back least most _ _ few

    map_parts : (fs : List Fragment) → map eoe_mail_written (map EoeMails.part fs) ≡ map (λ f. eoe_mail_written (EoeMails.part f)) fs
    map_parts [] = refl
    map_parts (f ∷ fs) = ap (λ l. eoe_mail_written (EoeMails.part f) ∷ l) (map_parts fs)

    quiet : (s : Station S) (unfinished : Option Unfinished) (counts : Bool) → IsAt s → EoeGood (record { station = s; unfinished = unfinished; counts = counts; gives = [] })
    quiet s unfinished counts at = record { gives = tt; at = at }

    one : (s : Station S) (unfinished : Option Unfinished) (counts : Bool) (m : EoeMail) → IsAt s → IsPlaced back (eoe_mail_written m) → EoeGood (record { station = s; unfinished = unfinished; counts = counts; gives = m ∷ [] })
    one s unfinished counts m at placed = record { gives = (placed, tt); at = at }

    sent : (s : Station S) (last : Bool) (unfinished : Option Unfinished) (app : S) → Is app → s.frame ≤ 15 → (r : Option (List ℕ)) →
        EoeGood (record { station = (Eoe.sends back s.frame (app, r)).0; unfinished = unfinished; counts = last; gives = (Eoe.sends back s.frame (app, r)).1 })
    sent s last unfinished app is few None = record { gives = tt; at = record { app = is; frame = few } }
    sent s last unfinished app is few (Some octets) = record {
      gives = subst (λ l. AllPlaced back l) (sym (map_parts (fragments_of octets (32 * ((back - 10) / 32)) s.frame)))
          (fragments_placed back least most (λ f. eoe_mail_written (EoeMails.part f)) (λ f short. eoe_placed (Part f) short) octets s.frame (length octets) 0 0);
      at = record { app = is; frame = omega arith };
    }

    part_taken : (s : Station S) (last : Bool) (unfinished : Option Unfinished) (j : Joined) → IsAt s → EoeGood (Eoe.joined o back s last unfinished j)
    part_taken s last unfinished More at = quiet s unfinished last at
    part_taken s last unfinished (Whole packet) at = sent s last unfinished (o.packet s.app packet.items).0 (packets s.app packet.items at.app) at.frame (o.packet s.app packet.items).1
    part_taken s last unfinished Dropped at = quiet s unfinished last at

    set : (s : Station S) (unfinished : Option Unfinished) (block : List ℕ) → IsAt s → EoeGood (Eoe.set_answer s unfinished (Eoe.addressed o back s.app block))
    set s unfinished block at = go (is_block block && nat_le (length block) (back - 10)) refl
      where
        right : (a b : Bool) → (a && b) ≡ true → b ≡ true
        right true b e = e
        right false b e = absurd (cc)

        few : (is_block block && nat_le (length block) (back - 10)) ≡ true → length block + 10 ≤ back
        few e = let short = leb-true (length block) (back - 10) (right (is_block block) (nat_le (length block) (back - 10)) e) in omega (arith, short, least)

        answer : (r : Option S) → ((changed : S) → r ≡ Some changed → Is changed) → EoeGood (Eoe.set_answer s unfinished r)
        answer (Some app) is = one (record s { app = app }) unfinished true _ (record { app = is app refl; frame = at.frame }) (eoe_placed (EoeMails.SetIpAnswer 0) (omega (arith, least)))
        answer None is = one s unfinished true _ at (eoe_placed (EoeMails.SetIpAnswer 1) (omega (arith, least)))

        go : (b : Bool) → (is_block block && nat_le (length block) (back - 10)) ≡ b → EoeGood (Eoe.set_answer s unfinished (if b then o.set_ip s.app block else None))
        go true e = answer (o.set_ip s.app block) (λ changed there. sets s.app changed block at.app (few e) there)
        go false e = answer None (λ changed there. absurd (let no_ : None ≡ Some changed = there in cc))

    takes : (s : Station S) (unfinished : Option Unfinished) (m : Eoe) → IsAt s → EoeGood (Eoe.eoe_takes o back s unfinished m)
    takes s unfinished (Part f) at = part_taken s f.last (taken unfinished f).unfinished (taken unfinished f).joined at
    takes s unfinished (EoeMails.SetIp block) at = set s unfinished block.items at
    takes s unfinished EoeMails.GetIp at = one s unfinished true _ at (eoe_placed (EoeMails.GetIpAnswer 0 (record { items = o.block s.app })) (let few = blocks s.app at.app in omega (arith, few)))
    takes s unfinished (EoeMails.SetIpAnswer code) at = quiet s unfinished true at
    takes s unfinished (EoeMails.GetIpAnswer code block) at = quiet s unfinished true at

    pub eoe_outcome : (s : Station S) (unfinished : Option Unfinished) (m : EoeMail) → IsAt s → EoeGood (Eoe.eoe_outcome o back s unfinished m)
    eoe_outcome s unfinished (EoeMails.mail m) at = takes s unfinished m at
    eoe_outcome s unfinished (EoeMails.unread EoeMails.Short kind) at = one s unfinished true _ at (error_placed back least most 6)
    eoe_outcome s unfinished (EoeMails.unread EoeMails.WrongType kind) at = go (kind % 2 == 0)
      where
        go : (b : Bool) → EoeGood (Eoe.answered s unfinished (if b then EoeMails.unsupported (kind + 1) ∷ [] else []))
        go true = one s unfinished true _ at (body_placed back least most _ _ (omega (arith, least)))
        go false = quiet s unfinished true at
    eoe_outcome s unfinished (EoeMails.unread EoeMails.Offset kind) at = quiet s unfinished false at
    eoe_outcome s unfinished (EoeMails.unsupported kind) at = quiet s unfinished true at
    eoe_outcome s unfinished (EoeMails.failed detail) at = quiet s unfinished false at
    eoe_outcome s unfinished (EoeMails.other body) at = quiet s unfinished false at
