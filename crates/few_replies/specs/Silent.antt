-- A mail that is passed on, and over without a reply: it had none.
use Rattle.std.specs.Prelude.{◌≡◌, Bool, true, false, not, Option, Some, None, List, [], ◌∷◌, ⊤}
use Rattle.slave_parts.specs.of_exchange_model.Exchange.{Exchange, plain}
use Rattle.slave_parts.specs.of_exchange_model.Rows.{Row}
use Rattle.slave_parts.specs.of_segment_model.Ends.{Passing}
use Rattle.slave_parts.specs.of_life_model.Lives.{Era}
use Rattle.slave_parts.specs.of_serving_model.Tagged.{Tagged, Asked, Rowed, untag, is_own, no_reply, ideal}

-- a mail that is passed on
abbrev pub is_passed : {M Q : Type 0} → Asked M Q → Bool
is_passed (Asked.Script q) = false
is_passed (Asked.Passed m answers) = true

-- it is foreseen to be answered just where this server replies to it
abbrev pub IsForeseenRight : {V M Q R : Type 0} → Exchange V V M Q R → V → M → Bool → Type 0
IsForeseenRight x v m answers = answers ≡ not (no_reply x.speech.emission (x.serve v m).1)

-- no reply was heard in the row
abbrev pub HeardNone : {M Q R : Type 0} → Row (Tagged M Q) (Asked M Q) (Option R) → Type 0
HeardNone r = no_reply (λ t. is_own t.meant) r.heard ≡ true

module _ {V M Q R : Type 0} (x : Exchange V V M Q R) where
  -- A ROW IN WHICH NO REPLY WAS HEARD, of a mail that was passed on, had none: of each server that foresees it right
  abbrev pub HadNone : Row (Tagged M Q) (Asked M Q) (Option R) → Type 0
  HadNone r = (m : M) (answers : Bool) → r.service ≡ Asked.Passed m answers → HeardNone r → (v : V) → IsForeseenRight x v m answers → plain x.speech.emission (x.serve v m).1 ≡ []

  -- each of these
  abbrev pub AllHadNone : List (Row (Tagged M Q) (Asked M Q) (Option R)) → Type 0
  AllHadNone [] = ⊤
  AllHadNone (r ∷ rs) = HadNone r × AllHadNone rs

  -- the newest, where its mail is over
  abbrev pub NowHadNone : Option Passing → Option (Row (Tagged M Q) (Asked M Q) (Option R)) → Type 0
  NowHadNone (Some p) now = ⊤
  NowHadNone None None = ⊤
  NowHadNone None (Some r) = HadNone r

  -- of an epoch
  pub record EachHadNone (e : Era (Tagged M Q) (Asked M Q) (Option R)) : Type 0 where
    pub past : AllHadNone e.side.past
    pub now : NowHadNone e.passing e.side.now

  -- ALL REPLIES OF A MAIL that was passed on, in order, were heard in its row, also where there are none
  abbrev pub HeardAll : Rowed V M Q → M → Row (Tagged M Q) (Asked M Q) (Option R) → Type 0
  HeardAll w m r = untag (plain (λ t. is_own t.meant) r.heard) ≡ plain x.speech.emission (x.serve (ideal x w) m).1
