-- An exchange over what its mails are written as: each mail is read, served and its answers written.
use Rattle.std.specs.Prelude.{◌≡◌, true, List, [], ◌∷◌, map}
use Rattle.exchange_model.specs.Exchange.{Exchange, Speech, given}

-- each mail of these has a property
abbrev pub EachOf : {M : Type 0} → (M → Type 0) → List M → Type 0
EachOf P [] = Unit {0}
EachOf P (m ∷ ms) = P m × EachOf P ms

-- a mail is read, served, and what the server gives is written
abbrev pub lifted_serve : {V M N : Type 0} → (V → M → V × List M) → (N → M) → (M → N) → V → N → V × List N
lifted_serve serve read write v n = ((serve v (read n)).0, map write (serve v (read n)).1)

-- the client of the same, over mails that are read and written
abbrev pub lifted_speech : {M N Q R : Type 0} → Speech M Q R → (N → M) → (M → N) → Speech N Q R
lifted_speech x read write = record {
  emission = λ n. x.emission (read n);
  valid = x.valid;
  planned = λ q ns. map write (x.planned q (map read ns));
  ends = λ q ns. x.ends q (map read ns);
  handed = x.handed;
}

-- AN EXCHANGE OVER OTHER MAILS: each is read where it is taken and heard, and written where it is given and told
abbrev pub lifted : {V A M N Q R : Type 0} → Exchange V A M Q R → (N → M) → (M → N) → Exchange V A N Q R
lifted x read write = record {
  serve = lifted_serve x.serve read write;
  app = x.app;
  handled = x.handled;
  ready = x.ready;
  speech = lifted_speech x.speech read write;
  full = λ v q. map write (x.full v q);
  exec = x.exec;
  reply = x.reply;
  emits = λ a q. map write (x.emits a q);
}

-- a mail that is read from what it is written as
abbrev pub ReadsBack : {M N : Type 0} → (N → M) → (M → N) → M → Type 0
ReadsBack read write m = read (write m) ≡ m

-- the mails of the services of which the laws speak, from client and server, are read back
pub record Spells {V A M N Q R : Type 0} (x : Exchange V A M Q R) (read : N → M) (write : M → N) : Type 0 where
  pub told : (v : V) (q : Q) → x.ready v ≡ true → x.speech.valid q ≡ true → EachOf (ReadsBack read write) (x.full v q)
  pub answered : (v : V) (q : Q) → x.ready v ≡ true → x.speech.valid q ≡ true → EachOf (ReadsBack read write) (given x.serve v (x.full v q))
