-- What a slave is that never changes: the lengths of its mailboxes, the protocols that it serves, and its addresses.
use Rattle.std.specs.Prelude.{◌≡◌, ◌≤◌, ℕ, ◌==◌, ◌&&◌, ◌||◌, not, Bool, true, false, List, length}
use Rattle.protocol_models.specs.of_exchange_model.Areas.{Areas}

-- the protocols behind a mailbox
pub data Protocol : Type 0 where
  CoE : Protocol
  FoE : Protocol
  SoE : Protocol
  EoE : Protocol

-- a slave, but for what its services act on
pub record Profile : Type 0 where
  -- the lengths of the mailbox for requests and of the one that the slave sends through
  pub out : ℕ
  pub back : ℕ
  pub has_coe : Bool
  pub has_foe : Bool
  pub has_soe : Bool
  pub has_eoe : Bool
  -- whether its addresses are fixed, and its MAC address
  pub fixed_ip : Bool
  pub mac : List ℕ

-- lengths that mailboxes may have, and a MAC address of six octets
pub record IsProfile (p : Profile) : Type 0 where
  pub out_least : 64 ≤ p.out
  pub out_most : p.out ≤ 1486
  pub back_least : 64 ≤ p.back
  pub back_most : p.back ≤ 1486
  pub mac : length p.mac ≡ 6

-- its mailboxes
abbrev pub areas_of : Profile → Areas
areas_of p = record { out = p.out; back = p.back }

-- a protocol that the slave has
abbrev pub has : Profile → Protocol → Bool
has p Protocol.CoE = p.has_coe
has p Protocol.FoE = p.has_foe
has p Protocol.SoE = p.has_soe
has p Protocol.EoE = p.has_eoe

-- FoE, which alone is served in Bootstrap
abbrev pub is_file_access : Protocol → Bool
is_file_access Protocol.CoE = false
is_file_access Protocol.FoE = true
is_file_access Protocol.SoE = false
is_file_access Protocol.EoE = false

-- it is served in this AL state: Bootstrap (3) has FoE alone
abbrev pub serves : Profile → ℕ → Protocol → Bool
serves p al i = has p i && (is_file_access i || not (al == 3))
