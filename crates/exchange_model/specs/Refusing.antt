-- A protocol that a slave doesn't serve: each service is answered by a mailbox error and has no effect.
use Rattle.std.specs.Prelude.{◌≡◌, suc, Bool, true, false, if◌then◌else◌, List, [], ◌∷◌, ◌++◌, Some}
use Rattle.exchange_model.specs.Prefix.{IsPrefixOf}
use Rattle.exchange_model.specs.Exchange.{Exchange}
use Rattle.exchange_model.specs.Lifted.{EachOf}

-- How a slave refuses a protocol. V: a server; M: a mail; Q: a service; R: a reply
pub record Refusal (V M Q R : Type 0) : Type 0 where
  -- a server with one service more carried out
  pub counted : V → V
  -- whether a mail counts as a service, and what it is answered by
  pub counts : M → Bool
  pub gives : M → List M
  -- the mailbox error, and the reply that it is
  pub refusal : M
  pub reply : R
  -- the mails that a client sends
  pub asked : Q → List M

-- it counts what it is told to count, and gives the mailbox error or nothing
abbrev pub refused_serve : {V M Q R : Type 0} → Refusal V M Q R → V → M → V × List M
refused_serve r v m = (if r.counts m then r.counted v else v, r.gives m)

-- the exchange of such a slave: its client is that of the protocol
abbrev pub refusing : {V A M Q R : Type 0} → Exchange V A M Q R → Refusal V M Q R → Exchange V A M Q R
refusing x r = record {
  serve = refused_serve r;
  app = x.app;
  handled = x.handled;
  ready = x.ready;
  speech = x.speech;
  full = λ v q. r.asked q;
  exec = λ a q. a;
  reply = λ a q. r.reply;
  emits = λ a q. [];
}

-- served, or refused
abbrev pub gated : {V A M Q R : Type 0} → Bool → Exchange V A M Q R → Refusal V M Q R → Exchange V A M Q R
gated true x r = x
gated false x r = refusing x r

-- the mails of a client: those before the last neither count nor get an answer; the last counts, and is answered by the mailbox error where the
-- service has a reply
pub record IsAsked {V M Q R : Type 0} (r : Refusal V M Q R) (handed : Bool) (ms : List M) : Type 0 where
  pub front : List M
  pub last : M
  pub mails : ms ≡ front ++ last ∷ []
  pub quiet : EachOf (λ m. (r.counts m ≡ false) × (r.gives m ≡ [])) front
  pub counts : r.counts last ≡ true
  pub answer : r.gives last ≡ (if handed then [] else r.refusal ∷ [])

-- what a protocol owes to be refused so
pub record IsRefusal {V A M Q R : Type 0} (x : Exchange V A M Q R) (r : Refusal V M Q R) : Type 0 where
  pub app : (v : V) → x.app (r.counted v) ≡ x.app v
  pub handled : (v : V) → x.handled (r.counted v) ≡ suc (x.handled v)
  pub ready : (v : V) → x.ready v ≡ true → x.ready (r.counted v) ≡ true
  pub plain : x.speech.emission r.refusal ≡ false
  pub asked : (q : Q) → x.speech.valid q ≡ true → IsAsked r (x.speech.handed q) (r.asked q)
  -- the client sends these mails, hears the mailbox error as its reply, and stops
  pub ends : (q : Q) → x.speech.valid q ≡ true → x.speech.handed q ≡ false → x.speech.ends q (r.refusal ∷ []) ≡ Some r.reply
  pub begins : (q : Q) → x.speech.valid q ≡ true → IsPrefixOf (x.speech.planned q []) (r.asked q)
  pub sends : (q : Q) → x.speech.valid q ≡ true → x.speech.handed q ≡ false → x.speech.planned q (r.refusal ∷ []) ≡ r.asked q
  pub posts : (q : Q) → x.speech.valid q ≡ true → x.speech.handed q ≡ true → x.speech.planned q [] ≡ r.asked q
