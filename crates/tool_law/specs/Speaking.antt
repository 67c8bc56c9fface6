-- What a client and a server owe each other so that their mails may go one by one, with nobody to say where the replies end.
use Rattle.std.specs.Prelude.{◌≡◌, ◌<◌, ◌≤◌, suc, true, is_some, List, [], ◌∷◌, ◌++◌, length, Some}
use Rattle.slave_model.specs.of_exchange_model.Exchange.{Exchange, given, plain}
use Rattle.slave_model.specs.of_exchange_model.Prefix.{IsPrefixOf}

-- A SERVICE THAT GOES MAIL BY MAIL, against a server; error is a mailbox error
pub record IsSpeaking {V A M Q R : Type 0} (x : Exchange V A M Q R) (error : M) (v : V) (q : Q) : Type 0 where
  -- the client never sends more mails than it has heard, but one, and takes none back
  pub few_planned : (hs : List M) → length (x.speech.planned q hs) ≤ suc (length hs)
  pub more_planned : (hs more : List M) → IsPrefixOf (x.speech.planned q hs) (x.speech.planned q (hs ++ more))
  -- on the replies to a first part of its mails it goes on
  pub goes_on : (p : List M) (m : M) (r : List M) → x.full v q ≡ p ++ m ∷ r → (rest : List M) × (x.speech.planned q (plain x.speech.emission (given x.serve v p)) ≡ p ++ m ∷ rest)
  -- the server answers no mail twice
  pub few_replies : (p r : List M) → x.full v q ≡ p ++ r → length (plain x.speech.emission (given x.serve v p)) ≤ length p
  -- where a reply side goes on, a mailbox error ends it
  pub refused : (hs : List M) (h : M) (more : List M) (r : R) → x.speech.ends q (hs ++ h ∷ more) ≡ Some r → is_some (x.speech.ends q (hs ++ error ∷ [])) ≡ true
  -- the mails are few
  pub few : length (x.full v q) < 65536
