-- WHICH MAILS THAT ARE PASSED ON ARE FORESEEN AS ANSWERED: just those that the server replies to that they come to.
use Rattle.std.specs.Prelude.{List, [], ◌∷◌, ⊤}
use Rattle.master_hand.specs.of_exchange_model.Exchange.{Exchange}
use Rattle.few_replies.specs.Silent.{IsForeseenRight}
use Rattle.master_hand.specs.of_serving_model.Tagged.{Asked, asked_exec}
use Rattle.master_hand.specs.of_state_model.Stated.{Stated, Service}
use Rattle.master_hand.specs.of_state_model.Promises.{state_behind}
use Rattle.master_hand.specs.of_state_model.States.{Table}

module _ {V M Q R : Type 0} (x : Exchange V V M Q R) (s : Stated V V Q) (table : Table) where
  -- of one, at this server
  abbrev pub IsRightAt : V → Asked M Q → Type 0
  IsRightAt v (Asked.Script q) = ⊤
  IsRightAt v (Asked.Passed m answers) = IsForeseenRight x v m answers

  -- OF ALL SERVICES, by mails and of the AL state: each at the server behind those before it
  abbrev pub AllRight : V → List (Service (Asked M Q)) → Type 0
  AllRight v [] = ⊤
  AllRight v (Service.Mails q ∷ qs) = IsRightAt v q × AllRight (asked_exec x v q) qs
  AllRight v (Service.State target ∷ qs) = AllRight (s.tell (state_behind table (s.state v) target) v) qs

  -- the server behind services
  abbrev pub server_behind : V → List (Service (Asked M Q)) → V
  server_behind v [] = v
  server_behind v (Service.Mails q ∷ qs) = server_behind (asked_exec x v q) qs
  server_behind v (Service.State target ∷ qs) = server_behind (s.tell (state_behind table (s.state v) target) v) qs
