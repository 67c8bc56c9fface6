-- EACH SERVICE BY MAILS has a first mail.
use Rattle.std.proofs.Common.{◌≡◌, ◌-◌, ℕ, suc, Bool, true, false, Option, List, [], ◌∷◌, refl, arith}
use Rattle.std.specs.Prelude.{map, length, nat_lt, nat_le, if◌then◌else◌}
use Rattle.std.proofs.lemmas.Bool.{ltb-false}
use Rattle.foe_client.specs.of_exchange_model.Areas.{Areas}
use Rattle.foe_client.specs.of_exchange_model.Dialogue.{Turn, said}
use Rattle.eoe_client.specs.of_protocol_models.CoeClient as CoeClient
use Rattle.eoe_client.specs.of_protocol_models.CoeMeaning as CoeMeaning
use Rattle.eoe_client.specs.of_protocol_models.CoeServer.{is_expedited}
use Rattle.eoe_client.specs.of_protocol_models.FoeClient as FoeClient
use Rattle.eoe_client.specs.of_protocol_models.FoeMeaning as FoeMeaning
use Rattle.eoe_client.specs.of_protocol_models.SoeClient as SoeClient
use Rattle.eoe_client.specs.of_protocol_models.EoeClient as EoeClient
use Rattle.master_hand.specs.Spoken.{Asked, sdo, file, drive, net, passed, planned, valid, told_sdo, told_file, told_drive, told_net}

none_mapped : {S T : Type 0} (f : S → T) (xs : List S) → map f xs ≡ [] → xs ≡ []
none_mapped f [] e = refl
none_mapped f (x ∷ xs) e = absurd (cc)

none_said : {M : Type 0} (decide : M → List M → Option Turn) (fuel : ℕ) (ms hs : List M) → said decide (suc fuel) ms hs ≡ [] → ms ≡ []
none_said decide fuel [] hs e = refl
none_said decide fuel (m ∷ ms) hs e = absurd (cc)

some_either : {T : Type 0} (b : Bool) (x y : T) (xs ys : List T) → (if b then x ∷ xs else y ∷ ys) ≡ [] → ⊥
some_either true x y xs ys e = cc
some_either false x y xs ys e = cc

some_sdo : (room : ℕ) (q : CoeMeaning.Service) (n : ℕ) → CoeClient.mails_of room q n ≡ [] → ⊥
some_sdo room (CoeMeaning.download t bytes) n e = some_either (is_expedited bytes) _ _ _ _ e
some_sdo room (CoeMeaning.upload t) n e = cc
some_sdo room (CoeMeaning.information a) n e = cc

some_file : (out : ℕ) (q : FoeMeaning.Service) (n : ℕ) → FoeClient.mails_of out q n ≡ [] → ⊥
some_file out (FoeMeaning.read name pass) n e = cc
some_file out (FoeMeaning.write name pass bytes) n e = cc

some_drive : (room : ℕ) (q : SoeClient.Service) → SoeClient.mails_of room q ≡ [] → ⊥
some_drive room (SoeClient.read t) e = cc
some_drive room (SoeClient.write t bytes) e = some_either (nat_le (length bytes) (room - 10)) _ _ _ _ e

is_some_part : (n : ℕ) → nat_lt 0 (suc n) ≡ true
is_some_part n = go (nat_lt 0 (suc n)) refl
  where
    go : (z : Bool) → nat_lt 0 (suc n) ≡ z → nat_lt 0 (suc n) ≡ true
    go true e = e
    go false e = absurd (let m = ltb-false 0 (suc n) e in omega (arith, m))

some_part : {S T : Type 0} (f : S → T) (b : Bool) (x : S) (xs : List S) → b ≡ true → map f (if b then x ∷ xs else []) ≡ [] → ⊥
some_part f true x xs t e = cc
some_part f false x xs t e = absurd (cc)

some_net : (room : ℕ) (q : EoeClient.Service) → EoeClient.is_service q ≡ true → EoeClient.mails_of room q ≡ [] → ⊥
some_net room (EoeClient.packet [] frame) v e = absurd (let f : false ≡ true = v in cc)
some_net room (EoeClient.packet (b ∷ bs) frame) v e = some_part _ (nat_lt 0 (suc (length bs))) _ _ (is_some_part (length bs)) e
some_net room (EoeClient.set_ip block) v e = cc
some_net room EoeClient.get_ip v e = cc

-- what it plans before it has heard anything
pub some_planned : (areas : Areas) (q : Asked) → valid areas q ≡ true → planned areas q [] ≡ [] → ⊥
some_planned areas (sdo q) v e = some_sdo areas.out q 0 (none_said CoeClient.decide 0 (CoeClient.mails_of areas.out q 0) [] (none_mapped told_sdo _ e))
some_planned areas (file q) v e = some_file areas.out q 0 (none_said (FoeClient.decide areas.out) 0 (FoeClient.mails_of areas.out q 0) [] (none_mapped told_file _ e))
some_planned areas (drive q) v e = some_drive areas.out q (none_mapped told_drive _ e)
some_planned areas (net q) v e = some_net areas.out q v (none_mapped told_net _ e)
some_planned areas (passed m) v e = cc
