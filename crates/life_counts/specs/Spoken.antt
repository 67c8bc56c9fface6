-- A MASTER'S NAMES of services and of mails that are passed on: what it speaks by them is what their own clients do.
use Rattle.std.specs.Prelude.{◌≡◌, ◌⊎◌, Bool, true, false, if◌then◌else◌, Option, None, Some, option_map, List, [], ◌∷◌}
use Rattle.master_hand.specs.of_exchange_model.Exchange.{Speech}
use Rattle.master_hand.specs.of_serving_model.Passing.{ends_told}
use Rattle.master_hand.specs.of_serving_model.Tagged.{Asked}

-- a master's speech, its names, and what it knows of services: which end with an acknowledgement, which pass a mail on, and which mails are followed by others
pub record Naming (M Q T R : Type 0) : Type 0 where
  pub speech : Speech M T (Option R)
  pub name : Asked M Q → T
  pub acknowledged : T → Bool
  pub passed : T → Bool
  pub more : M → Bool

module _ {M Q T R : Type 0} (n : Naming M Q T R) where
  -- THIS IS THE NAME of a service, whose client speaks so
  pub record IsScript (x : Speech M Q R) (acknowledged : Q → Bool) (q : Q) (t : T) : Type 0 where
    pub named : n.name (Asked.Script q) ≡ t
    pub valid : n.speech.valid t ≡ x.valid q
    pub handed : n.speech.handed t ≡ x.handed q
    pub planned : (hs : List M) → n.speech.planned t hs ≡ x.planned q hs
    pub ends : (hs : List M) → n.speech.ends t hs ≡ option_map (λ r. Some r) (x.ends q hs)
    pub last : n.acknowledged t ≡ acknowledged q
    pub unpassed : n.passed t ≡ false

  -- of a mail that is passed on, whether it is answered or not: it ends with a reply that none follows, and may with its write
  pub record IsPassed (m : M) (t : T) : Type 0 where
    pub named : (answers : Bool) → n.name (Asked.Passed m answers) ≡ t
    pub valid : n.speech.valid t ≡ true
    pub handed : n.speech.handed t ≡ true
    pub planned : (hs : List M) → n.speech.planned t hs ≡ m ∷ []
    pub ends : (hs : List M) → n.speech.ends t hs ≡ (if ends_told n.more hs then Some None else None)
    pub last : n.acknowledged t ≡ false
    pub passes : n.passed t ≡ true

  -- of one or the other
  abbrev pub IsNamed : Speech M Q R → (Q → Bool) → T → Type 0
  IsNamed x acknowledged t = ((q : Q) × IsScript x acknowledged q t) ⊎ ((m : M) × IsPassed m t)

  -- THE MASTER SPEAKS AS THE CLIENTS DO
  pub record Speaks (x : Speech M Q R) (acknowledged : Q → Bool) : Type 0 where
    pub emission : n.speech.emission ≡ x.emission
    pub names : (t : T) → IsNamed x acknowledged t
