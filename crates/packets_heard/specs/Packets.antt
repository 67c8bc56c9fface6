-- Packets that a slave emits, cut into fragments, and what its master joins of those that it heard.
use Rattle.std.specs.Prelude.{◌≡◌, ℕ, ◌-◌, ◌*◌, ◌/◌, ◌≤◌, ⊤, Bool, true, Option, Some, None, List, [], ◌∷◌, ◌++◌, map, length}
use Rattle.master_node.specs.of_eoe.declared.message.Fragment.{Fragment}
use Rattle.master_node.specs.of_eoe.declared.joining.Joined.{Joined}
use Rattle.master_node.specs.of_eoe.declared.joining.Joined.TheVariants.{More, Whole, Dropped}
use Rattle.master_node.specs.of_eoe.Cutting.{fragments_of}
use Rattle.master_node.specs.of_eoe.Joining.{joins}
use Rattle.slave_server.specs.of_exchange_model.Prefix.{IsPrefixOf}
use Rattle.slave_server.specs.of_exchange_model.Exchange.{Exchange}
use Rattle.slave_server.specs.of_state_model.States.{Table}
use Rattle.slave_server.specs.of_state_model.Stated.{Stated, Service}
use Rattle.master_node.specs.of_life_model.Book.{Line, acted}

-- a packet that a slave emitted, with its EoE frame number
pub record Emitted : Type 0 where
  pub octets : List ℕ
  pub frame : ℕ

-- each has 14 to 1,514 octets
abbrev pub ArePackets : List Emitted → Type 0
ArePackets [] = ⊤
ArePackets (p ∷ ps) = ((14 ≤ length p.octets) × (length p.octets ≤ 1514)) × ArePackets ps

-- all their fragments, in order, through a mailbox of this length
abbrev pub all_fragments : ℕ → List Emitted → List Fragment
all_fragments room [] = []
all_fragments room (p ∷ ps) = fragments_of p.octets (32 * ((room - 10) / 32)) p.frame ++ all_fragments room ps

-- their octets
abbrev pub octets_of : List Emitted → List (List ℕ)
octets_of ps = map (λ p. p.octets) ps

-- the packets that were joined
abbrev pub wholes : List Joined → List (List ℕ)
wholes [] = []
wholes (More ∷ js) = wholes js
wholes (Whole p ∷ js) = p.items ∷ wholes js
wholes (Dropped ∷ js) = wholes js

-- no fragment was dropped
abbrev pub NoneDropped : List Joined → Type 0
NoneDropped [] = ⊤
NoneDropped (More ∷ js) = NoneDropped js
NoneDropped (Whole p ∷ js) = NoneDropped js
NoneDropped (Dropped ∷ js) = ⊥

-- THE PACKETS THAT ARRIVED, joined of fragments that were heard, are the first of those emitted, and none is dropped
pub record HasArrived (heard : List Fragment) (emitted : List Emitted) : Type 0 where
  pub packets : IsPrefixOf (wholes (joins None heard)) (octets_of emitted)
  pub none : NoneDropped (joins None heard)

-- all of them
pub record HaveAllArrived (heard : List Fragment) (emitted : List Emitted) : Type 0 where
  pub packets : wholes (joins None heard) ≡ octets_of emitted
  pub none : NoneDropped (joins None heard)

-- a fragment, where a mail is one
abbrev pub as_part : Option Fragment → List Fragment
as_part None = []
as_part (Some f) = f ∷ []

-- the fragments among mails
abbrev pub parts : {M : Type 0} → (M → Option Fragment) → List M → List Fragment
parts part [] = []
parts part (m ∷ ms) = as_part (part m) ++ parts part ms

-- a fragment is an emission
abbrev pub IsOwn : {M : Type 0} → (M → Bool) → (M → Option Fragment) → Type 0
IsOwn {M} emission part = (m : M) (f : Fragment) → part m ≡ Some f → emission m ≡ true

module _ {V A M Q R : Type 0} (x : Exchange V A M Q R) (s : Stated V A Q) (table : Table) (cleared : A → A) (weigh : A → Q → ℕ) (room : ℕ) (part : M → Option Fragment) (packets : A → Q → List Emitted) where
  -- the packets that a row emits
  abbrev pub packets_by : A → Service Q → List Emitted
  packets_by a (Service.Mails q) = packets a q
  packets_by a (Service.State target) = []

  -- and all of these
  abbrev pub packets_of : A → List (Line Q R) → List Emitted
  packets_of a [] = []
  packets_of a (l ∷ ls) = packets_by a l.service ++ packets_of (acted x s table cleared weigh a l.service) ls

  -- WHAT A ROW EMITS has the fragments of its packets
  abbrev pub IsCut : A → Service Q → Type 0
  IsCut a (Service.Mails q) = (parts part (x.emits a q) ≡ all_fragments room (packets a q)) × ArePackets (packets a q)
  IsCut a (Service.State target) = ⊤

  -- and so it is of all these
  abbrev pub AreCut : A → List (Line Q R) → Type 0
  AreCut a [] = ⊤
  AreCut a (l ∷ ls) = IsCut a l.service × AreCut (acted x s table cleared weigh a l.service) ls
