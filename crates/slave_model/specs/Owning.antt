-- What a protocol owes to stand beside the others: its clients' mails are its own, and what it gives is told apart by the slave as by itself.
use Rattle.std.specs.Prelude.{◌≡◌, ℕ, Bool, true, false, Option, Some, None, Ok, Err}
use Rattle.link_mails.specs.Body.{Body}
use Rattle.protocol_models.specs.of_exchange_model.Exchange.{given}
use Rattle.protocol_models.specs.of_exchange_model.Lifted.{EachOf}
use Rattle.slave_model.specs.Profile.{Protocol, Profile}
use Rattle.slave_model.specs.Application.{Parts}
use Rattle.slave_model.specs.Server.{Seat, ServiceOf}
use Rattle.slave_model.specs.Product.{side, protocol_of, emission}

-- whether two protocols are the same
abbrev pub same_protocol : Protocol → Protocol → Bool
same_protocol Protocol.CoE Protocol.CoE = true
same_protocol Protocol.FoE Protocol.FoE = true
same_protocol Protocol.SoE Protocol.SoE = true
same_protocol Protocol.EoE Protocol.EoE = true
same_protocol i k = false

-- the protocol is found
abbrev pub is_of : Protocol → Option Protocol → Bool
is_of i None = false
is_of i (Some k) = same_protocol i k

-- a mail of a protocol
abbrev pub mine : Protocol → Body → Bool
mine i (Ok m) = is_of i (protocol_of m.kind)
mine i (Err fault) = false

module _ {T F I : Type 0} (o : Parts T F I) (p : Profile) (al : ℕ) where
  -- What a side still owes: its clients' mails are its own, and what it gives is told apart by the slave as by the protocol.
  pub record AreOwn (i : Protocol) : Type 0 where
    pub sends : (v : Seat T F I i) (q : ServiceOf i) → (side o p al i).ready v ≡ true → (side o p al i).speech.valid q ≡ true → EachOf (λ b. mine i b ≡ true) ((side o p al i).full v q)
    pub gives : (v : Seat T F I i) (q : ServiceOf i) → (side o p al i).ready v ≡ true → (side o p al i).speech.valid q ≡ true →
        EachOf (λ g. emission g ≡ (side o p al i).speech.emission g) (given (side o p al i).serve v ((side o p al i).full v q))
