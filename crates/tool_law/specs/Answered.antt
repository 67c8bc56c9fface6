-- What an exchange owes so that its client may speak over a gateway, where replies come one by one and nobody says where they end.
use Rattle.std.specs.Prelude.{◌≡◌, ◌<◌, ◌≤◌, ℕ, suc, true, false, is_some, List, [], ◌∷◌, ◌++◌, map, length, Some}
use Rattle.slave_model.specs.of_mailbox_mail.Mail.{error_of}
use Rattle.slave_model.specs.of_mailbox_mail.declared.mail.Mail.{Mail}
use Rattle.slave_model.specs.of_mailbox_mail.declared.outcome.ReplyKind.{ReplyKind}
use Rattle.slave_model.specs.of_exchange_model.Exchange.{Exchange, IsLawful, given, plain}
use Rattle.slave_model.specs.of_exchange_model.Lifted.{EachOf}
use Rattle.slave_model.specs.of_exchange_model.Prefix.{IsPrefixOf}
use Rattle.gateway_tool.specs.Rule.{Call, planned, ends}

-- a mail to nobody and not counted
abbrev pub bare : Mail → Mail
bare m = record m { address = 0; counter = 0 }

-- A SERVICE OF AN EXCHANGE AS ONE OF A CALL, against a server
pub record IsAnswered {V A Q : Type 0} (x : Exchange V A Mail Q (ReplyKind × List ℕ)) (v : V) (q : Q) (c : Call) : Type 0 where
  pub law : IsLawful x
  pub ready : x.ready v ≡ true
  pub valid : x.speech.valid q ≡ true
  pub answers : x.speech.handed q ≡ false
  -- its client is the one of the call
  pub plans : (hs : List Mail) → x.speech.planned q hs ≡ planned c.areas c.service hs
  pub replies : (hs : List Mail) → x.speech.ends q hs ≡ ends c.areas c.service hs
  -- neither side looks at addresses and counters
  pub serves_bare : (w : V) (m : Mail) (address counter : ℕ) → x.serve w (record m { address = address; counter = counter }) ≡ x.serve w m
  pub plans_bare : (hs : List Mail) → planned c.areas c.service (map bare hs) ≡ planned c.areas c.service hs
  pub ends_bare : (hs : List Mail) → ends c.areas c.service (map bare hs) ≡ ends c.areas c.service hs
  -- the client never sends more mails than it has heard, but one, and takes none back
  pub few_planned : (hs : List Mail) → length (planned c.areas c.service hs) ≤ suc (length hs)
  pub more_planned : (hs more : List Mail) → IsPrefixOf (planned c.areas c.service hs) (planned c.areas c.service (hs ++ more))
  -- on the replies to a first part of its mails it goes on
  pub goes_on : (p : List Mail) (m : Mail) (r : List Mail) → x.full v q ≡ p ++ m ∷ r →
      (rest : List Mail) × (planned c.areas c.service (plain x.speech.emission (given x.serve v p)) ≡ p ++ m ∷ rest)
  -- the server answers no mail twice
  pub few_replies : (p r : List Mail) → x.full v q ≡ p ++ r → length (plain x.speech.emission (given x.serve v p)) ≤ length p
  -- where a reply side goes on, a mailbox error ends it
  pub refused : (hs : List Mail) (h : Mail) (more : List Mail) (r : ReplyKind × List ℕ) → ends c.areas c.service (hs ++ h ∷ more) ≡ Some r → is_some (ends c.areas c.service (hs ++ error_of 0 ∷ [])) ≡ true
  -- the mails are few, and each fits a datagram
  pub few : length (x.full v q) < 65536
  pub short : (hs : List Mail) → EachOf (λ (m : Mail). length m.body.items ≤ 1480) (planned c.areas c.service hs)
  pub station : c.station < 65536
