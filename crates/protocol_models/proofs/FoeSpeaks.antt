-- A server answers a mail by at most one, and each mail of a write by one.
use Rattle.std.proofs.Common.{◌≡◌, ℕ, zero, suc, ◌+◌, ◌≤◌, Bool, true, false, not, List, [], ◌∷◌, ◌++◌, length, drop, if◌then◌else◌, Option, None, Some, refl, ap, ◌∙◌, arith, nat_lt, ◌==◌, length-append}
use Rattle.exchange_model.specs.Areas.{Areas}
use Rattle.exchange_model.specs.Exchange.{given, plain}
use Rattle.exchange_model.specs.Dialogue.{Decides}
use Rattle.exchange_model.specs.Lifted.{EachOf}
use Rattle.exchange_model.proofs.Turns.{one_answer}
use Rattle.protocol_models.specs.FoeMails.{Read, Write, Data, Ack, Error, Busy, FoeFault, Short, Opcode, Name, FoeMail, mail, unread, failed, other, is_emission}
use Rattle.protocol_models.specs.Files.{Files}
use Rattle.protocol_models.specs.FoeServer.{Transfer, idle, reading, writing, closing, Outcome, Server, begun, opened, closes, stores, takes_data, takes_ack, takes_unread, is_last, packet_room}
use Rattle.protocol_models.specs.FoeClient.{decide, packets}
use Rattle.protocol_models.proofs.FoeCarries.{step, foe_takes, all_plain}

-- a request to write, or a packet
abbrev pub is_asked : FoeMail → Bool
is_asked (mail (Write pass name)) = true
is_asked (mail (Data packet bytes)) = true
is_asked _ = false

abbrev pub AllAsked : List FoeMail → Type 0
AllAsked ms = EachOf (λ m. is_asked m ≡ true) ms

-- one answer
abbrev pub Speaks : {S : Type 0} → Outcome S → Type 0
Speaks x = (a : FoeMail) × (x.answers ≡ a ∷ [])

module _ {S : Type 0} (o : Files S) (areas : Areas) where
  either : (b : Bool) (x y : Outcome S) → Speaks x → Speaks y → Speaks (if b then x else y)
  either true x y p q = p
  either false x y p q = q

  by_begun : (app : S) (name : List ℕ) (found : Option ℕ) → Speaks (begun app name found)
  by_begun app name None = (_, refl)
  by_begun app name (Some code) = (_, refl)

  by_closes : (app : S) (name : List ℕ) (number : ℕ) (got : List ℕ) (told : ℕ) → Speaks (closes o app name number got told)
  by_closes app name number got told = either (nat_lt told (o.busy app name)) _ _ (_, refl) (_, refl)

  by_stores : (app : S) (name : List ℕ) (number : ℕ) (got part : List ℕ) → Speaks (stores o areas.out app name number got part)
  by_stores app name number got part =
      either (not (o.has_room app (length (got ++ part)))) _ _ (_, refl)
      (either (is_last areas.out part) _ _ (by_closes app name number (got ++ part) 0) (_, refl))

  by_data : (app : S) (transfer : Transfer) (packet : ℕ) (part : List ℕ) → Speaks (takes_data o areas.out app transfer packet part)
  by_data app idle packet part = (_, refl)
  by_data app (reading number left) packet part = (_, refl)
  by_data app (writing name number got) packet part = either (packet == number + 1) _ _ (by_stores app name packet got part) (_, refl)
  by_data app (closing name number got told) packet part = either (packet == number) _ _ (by_closes app name number got told) (_, refl)

  speaks : (v : Server S) (m : FoeMail) → is_asked m ≡ true → Speaks (foe_takes o areas v m)
  speaks v (mail (Write pass name)) e = by_begun v.app name.items (o.allowed v.app name.items pass true)
  speaks v (mail (Data packet bytes)) e = by_data v.app v.transfer packet bytes.items
  speaks v _ e = absurd (cc)

  pub one_reply : (v : Server S) (m : FoeMail) → is_asked m ≡ true → (a : FoeMail) × (plain is_emission (step o areas v m).1 ≡ a ∷ [])
  one_reply v m e = let s = speaks v m e in (s.0, all_plain (foe_takes o areas v m).answers ∙ s.1)

  -- at most one
  few_by : (x : Outcome S) → Speaks x → length x.answers ≤ 1
  few_by x s = omega (arith, ap length s.1)

  few_either : (b : Bool) (x y : Outcome S) → length x.answers ≤ 1 → length y.answers ≤ 1 → length (if b then x else y).answers ≤ 1
  few_either true x y p q = p
  few_either false x y p q = q

  few_opened : (app : S) (bytes : List ℕ) (found : Option ℕ) → length (opened areas.back app bytes found).answers ≤ 1
  few_opened app bytes None = omega arith
  few_opened app bytes (Some code) = omega arith

  few_ack : (app : S) (transfer : Transfer) (packet : ℕ) → length (takes_ack areas.back app transfer packet).answers ≤ 1
  few_ack app idle packet = omega arith
  few_ack app (reading number left) packet =
      few_either (packet == number) _ _ (few_either (nat_lt (length left) (packet_room areas.back)) _ _ (omega arith) (omega arith)) (omega arith)
  few_ack app (writing name number got) packet = omega arith
  few_ack app (closing name number got told) packet = omega arith

  few_unread : (app : S) (transfer : Transfer) (fault : FoeFault) → length (takes_unread app transfer fault).answers ≤ 1
  few_unread app transfer Short = omega arith
  few_unread app transfer Opcode = omega arith
  few_unread app transfer Name = omega arith

  few_answers : (v : Server S) (m : FoeMail) → length (foe_takes o areas v m).answers ≤ 1
  few_answers v (mail (Read pass name)) = few_opened v.app (o.get v.app name.items) (o.allowed v.app name.items pass false)
  few_answers v (mail (Write pass name)) = few_by (begun v.app name.items (o.allowed v.app name.items pass true)) (by_begun v.app name.items (o.allowed v.app name.items pass true))
  few_answers v (mail (Data packet bytes)) = few_by (takes_data o areas.out v.app v.transfer packet bytes.items) (by_data v.app v.transfer packet bytes.items)
  few_answers v (mail (Ack packet)) = few_ack v.app v.transfer packet
  few_answers v (mail (Error code)) = omega arith
  few_answers v (mail (Busy done entire)) = omega arith
  few_answers v (unread fault) = few_unread v.app v.transfer fault
  few_answers v (failed detail) = omega arith
  few_answers v (other body) = omega arith

  pub decided : (ms : List FoeMail) → Decides (step o areas) is_emission (decide areas.out) ms
  decided [] = tt
  decided (m ∷ ms) = (
    (λ v. one_answer (decide areas.out) m (plain is_emission (step o areas v m).1) refl
        (omega (arith, few_answers v m, ap length (all_plain (foe_takes o areas v m).answers)))),
    decided ms,
  )

  pub replies_few : (v : Server S) (ms : List FoeMail) → length (given (step o areas) v ms) ≤ length ms
  replies_few v [] = omega arith
  replies_few v (m ∷ ms) =
      omega (arith, few_answers v m, length-append (step o areas v m).1 (given (step o areas) (step o areas v m).0 ms), replies_few (step o areas v m).0 ms)

-- the packets of a file
asked_if : (b : Bool) (xs : List FoeMail) → AllAsked xs → AllAsked (if b then [] else xs)
asked_if true xs all = tt
asked_if false xs all = all

pub packets_asked : (fuel out number : ℕ) (left : List ℕ) → AllAsked (packets fuel out number left)
packets_asked zero out number left = tt
packets_asked (suc fuel) out number left = (refl, asked_if (nat_lt (length left) (packet_room out)) _ (packets_asked fuel out (number + 1) (drop (packet_room out) left)))
