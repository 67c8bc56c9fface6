-- Worked rows, computed: what clients have left to tell behind a first part of their mails, before and behind a reply to it.
use Rattle.std.proofs.Common.{◌≡◌, ℕ, List, [], ◌∷◌, replicate, refl}
use Rattle.std.specs.Prelude.{drop}
use Rattle.protocol_models.specs.of_exchange_model.Toy.{adder, second, held, sum}
use Rattle.protocol_models.specs.FoeMails.{FoeMail, mail, Read, Data, Ack, Busy}
use Rattle.protocol_models.specs.FoeMeaning.{read, write}
use Rattle.protocol_models.specs.FoeModel.{planned}

-- a sum: behind its first mail nothing, then its second
waits : drop 1 (adder.speech.planned (sum 3) []) ≡ []
waits = refl

goes_on : drop 1 (adder.speech.planned (sum 3) (held ∷ [])) ≡ second ∷ []
goes_on = refl

told_both : drop 2 (adder.speech.planned (sum 3) (held ∷ [])) ≡ []
told_both = refl

abbrev name : List ℕ
name = 0x61 ∷ []

abbrev packet : ℕ → List ℕ → FoeMail
packet number octets = mail (Data number (record { items = octets }))

-- a file is read: nothing behind the request until a packet came, then its acknowledgement, of the last packet too
asks : planned 64 (read name 0) [] ≡ mail (Read 0 (record { items = name })) ∷ []
asks = refl

acknowledges : drop 1 (planned 64 (read name 0) (packet 1 (replicate 52 7) ∷ [])) ≡ mail (Ack 1) ∷ []
acknowledges = refl

acknowledged : drop 2 (planned 64 (read name 0) (packet 1 (replicate 52 7) ∷ [])) ≡ []
acknowledged = refl

-- a file is written: a last packet that met a busy slave is told again, once each time
busy_again : drop 2 (planned 64 (write name 0 (7 ∷ [])) (mail (Ack 0) ∷ mail (Busy 1 2) ∷ [])) ≡ packet 1 (7 ∷ []) ∷ []
busy_again = refl

busy_waits : drop 3 (planned 64 (write name 0 (7 ∷ [])) (mail (Ack 0) ∷ mail (Busy 1 2) ∷ [])) ≡ []
busy_waits = refl
