-- The client of each protocol never waits in vain.
use Rattle.std.proofs.Common.{◌≡◌, inl, inr, ℕ, zero, suc, ◌+◌, ◌<◌, ◌≤◌, Bool, true, List, [], ◌∷◌, ◌++◌, length, refl, sym, ap, ◌∙◌, arith, append-nil, length-append}
use Rattle.std.specs.Prelude.{drop}
use Rattle.protocol_models.specs.of_exchange_model.Areas.{Areas, AreMailboxes}
use Rattle.protocol_models.specs.of_exchange_model.Exchange.{given, plain}
use Rattle.protocol_models.specs.of_exchange_model.Prefix.{IsPrefixOf}
use Rattle.protocol_models.specs.of_exchange_model.Dialogue.{said}
use Rattle.protocol_models.proofs.of_exchange_model.Turns.{said_more}
use Rattle.protocol_models.specs.Tables as Tables
use Rattle.protocol_models.specs.CoeModel as CoeModel
use Rattle.protocol_models.proofs.Progress.{goes_on}
use Rattle.protocol_models.specs.FoeMails.{FoeMail, Read, Ack, mail, is_emission}
use Rattle.protocol_models.specs.Files.{Files, AreLawful}
use Rattle.protocol_models.specs.FoeServer.{Server}
use Rattle.protocol_models.specs.FoeMeaning.{Service, read, write}
use Rattle.protocol_models.specs.FoeClient.{mails_of, acks, decide}
use Rattle.protocol_models.specs.FoeModel.{turns, planned, full, foe_exchange}
use Rattle.protocol_models.proofs.FoeLaw.{bound, kept}
use Rattle.protocol_models.proofs.FoeCarries.{step, all_plain}
use Rattle.protocol_models.proofs.FoeSpeaks.{decided, replies_few}
use Rattle.protocol_models.specs.Elements.{Elements}
use Rattle.protocol_models.specs.SoeModel.{soe_exchange}
use Rattle.protocol_models.specs.Network.{Network}
use Rattle.protocol_models.specs.EoeModel.{eoe_exchange}
use Rattle.slave_model.specs.Waits.{NeverWaits}
use Rattle.slave_model.proofs.Dialogues.{tells_all, never}

-- CoE: a client that has heard all replies has the next mail
longer : {M : Type 0} (p : List M) (m : M) (planned : List M) → IsPrefixOf (p ++ m ∷ []) planned → drop (length p) planned ≡ [] → ⊥
longer [] m planned h none = absurd (let front : m ∷ h.0 ≡ [] = h.1 ∙ none in cc)
longer (k ∷ p) m [] h none = absurd (let front : k ∷ ((p ++ m ∷ []) ++ h.0) ≡ [] = h.1 in cc)
longer (k ∷ p) m (n ∷ planned) h none = longer p m planned (h.0, (let front : k ∷ ((p ++ m ∷ []) ++ h.0) ≡ n ∷ planned = h.1 in cc)) none

pub coe_never : {S : Type 0} (o : Tables.Tables S) (eoe : Bool) (areas : Areas) → Tables.AreLawful o → AreMailboxes areas → NeverWaits (CoeModel.coe_exchange o eoe areas)
coe_never o eoe areas law sized v q ready valid p [] e none = refl
coe_never o eoe areas law sized v q ready valid p (m ∷ r) e none = absurd (longer p m _ (goes_on o eoe areas law sized v q ready p m r e) none)

-- SoE and EoE: it tells all from the first on
pub soe_never : {S : Type 0} (o : Elements S) (areas : Areas) → NeverWaits (soe_exchange o areas)
soe_never o areas v q ready valid p r e none = tells_all _ p r _ e refl none

pub eoe_never : {S : Type 0} (o : Network S) (areas : Areas) → NeverWaits (eoe_exchange o areas)
eoe_never o areas v q ready valid p r e none = tells_all _ p r _ e refl none

-- FoE
acks_begin : (n m number : ℕ) → n ≤ m → IsPrefixOf (acks n number) (acks m number)
acks_begin zero m number less = (acks m number, refl)
acks_begin (suc n) zero number less = absurd (omega arith)
acks_begin (suc n) (suc m) number less = let rest = acks_begin n m (number + 1) (omega arith) in (rest.0, ap (λ l. mail (Ack number) ∷ l) rest.1)

acks_long : (n number : ℕ) → length (acks n number) ≡ n
acks_long zero number = refl
acks_long (suc n) number = ap suc (acks_long n (number + 1))

module _ {S : Type 0} (o : Files S) (law : AreLawful o) (areas : Areas) (sized : AreMailboxes areas) where
  -- more turns and more acknowledgements than replies don't matter
  pub planned_more : (q : Service) (n : ℕ) (hs : List FoeMail) → length hs < n → planned areas.out q hs ≡ said (decide areas.out) n (mails_of areas.out q n) hs
  planned_more (write name pass bytes) n hs few =
      said_more (decide areas.out) (λ m. refl) (suc (length hs)) n (mails_of areas.out (write name pass bytes) (length hs)) [] hs (omega arith) few (inr refl)
      ∙ ap (λ ms. said (decide areas.out) n ms hs) (append-nil (mails_of areas.out (write name pass bytes) (length hs)))
  planned_more (read name pass) n hs few =
      let begins = acks_begin (length hs) n 1 (omega arith) in
      said_more (decide areas.out) (λ m. refl) (suc (length hs)) n (mail (Read pass (record { items = name })) ∷ acks (length hs) 1) begins.0 hs (omega arith) few
      (inl (omega (arith, acks_long (length hs) 1))) ∙ ap (λ ms. said (decide areas.out) n (mail (Read pass (record { items = name })) ∷ ms) hs) begins.1

  pub fewer_than : (app : S) (q : Service) → bound o law areas sized app q < turns o app q
  fewer_than app (read name pass) = omega arith
  fewer_than app (write name pass bytes) = omega arith

  few_replies : (v : Server S) (q : Service) → o.valid v.app ≡ true → (p r : List FoeMail) → full o areas v q ≡ p ++ r → length (plain is_emission (given (step o areas) v p)) < turns o v.app q
  few_replies v q sound p r e =
      omega (arith, replies_few o areas v p, ap length (all_plain (given (step o areas) v p)), ap length e, length-append p r, (kept o law areas sized v q sound).few, fewer_than v.app q)

  pub foe_never : NeverWaits (foe_exchange o areas)
  foe_never v q ready valid p r e none =
      let hs = plain is_emission (given (step o areas) v p) in
      never (step o areas) is_emission (decide areas.out) (turns o v.app q) v (mails_of areas.out q (turns o v.app q)) p r (decided o areas (mails_of areas.out q (turns o v.app q))) e
      (ap (drop (length p)) (sym (planned_more q (turns o v.app q) hs (few_replies v q ready p r e))) ∙ none)
