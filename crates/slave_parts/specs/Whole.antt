-- A protocol seen with its whole server: its application is the server with its unfinished transfers, and a service says what it leaves of them.
use Rattle.std.specs.Prelude.{◌≡◌, suc, Bool, true, false, [], ◌∷◌, Some}
use Rattle.idn_table.specs.of_exchange_model.Prefix.{IsPrefixOf}
use Rattle.idn_table.specs.of_exchange_model.Exchange.{Exchange, after}
use Rattle.idn_table.specs.of_exchange_model.Refusing.{Refusal, refused_serve, IsAsked}

-- the same exchange over the whole server, of which a service makes what it is told to; ready: the servers of which the laws speak
abbrev pub whole_server : {V A M Q R : Type 0} → Exchange V A M Q R → (V → Bool) → (V → Q → V) → Exchange V V M Q R
whole_server x ready exec = record {
  serve = x.serve;
  app = λ v. v;
  handled = x.handled;
  ready = ready;
  speech = x.speech;
  full = x.full;
  exec = exec;
  reply = λ v q. x.reply (x.app v) q;
  emits = λ v q. x.emits (x.app v) q;
}

-- what that asks beside the laws: all mails of a service leave this server, and a service and any mail leave one of which the laws speak
pub record IsWhole {V A M Q R : Type 0} (x : Exchange V A M Q R) (ready : V → Bool) (exec : V → Q → V) : Type 0 where
  pub lawful : (v : V) → ready v ≡ true → x.ready v ≡ true
  pub again : (v : V) (q : Q) → ready v ≡ true → x.speech.valid q ≡ true → ready (exec v q) ≡ true
  pub passes : (v : V) (m : M) → ready v ≡ true → ready (x.serve v m).0 ≡ true
  pub whole : (v : V) (q : Q) → ready v ≡ true → x.speech.valid q ≡ true → after x.serve v (x.full v q) ≡ exec v q

-- a protocol that isn't served, over the whole server: each service counts, and no transfer changes
abbrev pub refusing_whole : {V M Q R : Type 0} → Exchange V V M Q R → Refusal V M Q R → Exchange V V M Q R
refusing_whole x r = record {
  serve = refused_serve r;
  app = λ v. v;
  handled = x.handled;
  ready = x.ready;
  speech = x.speech;
  full = λ v q. r.asked q;
  exec = λ v q. r.counted v;
  reply = λ v q. r.reply;
  emits = λ v q. [];
}

-- served, or refused
abbrev pub gated_whole : {V M Q R : Type 0} → Bool → Exchange V V M Q R → Refusal V M Q R → Exchange V V M Q R
gated_whole true x r = x
gated_whole false x r = refusing_whole x r

-- what a protocol owes to be refused so, in whatever state its server is; of the server `core` is seen
pub record IsRefusedWhole {V M Q R C : Type 0} (x : Exchange V V M Q R) (core : V → C) (r : Refusal V M Q R) : Type 0 where
  pub core_is : (v : V) → core (r.counted v) ≡ core v
  pub handled : (v : V) → x.handled (r.counted v) ≡ suc (x.handled v)
  pub ready : (v : V) → x.ready v ≡ true → x.ready (r.counted v) ≡ true
  pub plain : x.speech.emission r.refusal ≡ false
  pub asked : (q : Q) → x.speech.valid q ≡ true → IsAsked r (x.speech.handed q) (r.asked q)
  pub ends : (q : Q) → x.speech.valid q ≡ true → x.speech.handed q ≡ false → x.speech.ends q (r.refusal ∷ []) ≡ Some r.reply
  pub begins : (q : Q) → x.speech.valid q ≡ true → IsPrefixOf (x.speech.planned q []) (r.asked q)
  pub sends : (q : Q) → x.speech.valid q ≡ true → x.speech.handed q ≡ false → x.speech.planned q (r.refusal ∷ []) ≡ r.asked q
  pub posts : (q : Q) → x.speech.valid q ≡ true → x.speech.handed q ≡ true → x.speech.planned q [] ≡ r.asked q
