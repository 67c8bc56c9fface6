-- But for an acknowledgement of a file read no mail is left behind the last reply.
use Rattle.std.proofs.Common.{◌≡◌, ◌&&◌, Bool, true, false, sym, ap, ◌∙◌, subst}
use Rattle.protocol_models.specs.of_exchange_model.Exchange.{Exchange, IsLawful, outnumbers, plain, AnswersLast}
use Rattle.protocol_models.specs.of_exchange_model.Lifted.{EachOf}
use Rattle.protocol_models.specs.of_exchange_model.Sides.{Slave, joined, IsSide}
use Rattle.protocol_models.specs.of_exchange_model.Refusing.{Refusal, IsRefusal, refusing, gated}
use Rattle.protocol_models.proofs.of_exchange_model.Refusals.{all_taken}
use Rattle.protocol_models.proofs.of_exchange_model.SumLaw.{each_left, plain_same, told_full, told_part}

-- where a protocol is refused
module _ {V A M Q R : Type 0} (x : Exchange V A M Q R) (r : Refusal V M Q R) (law : IsLawful x) (is : IsRefusal x r) (acknowledged : Q → Bool) where
  pub refusing_last : AnswersLast (refusing x r) acknowledged
  refusing_last v q ready valid answers quiet p rest e same = (all_taken r x.speech is.plain v q answers (is.asked q valid) p rest e same).1

  pub gated_last : AnswersLast x acknowledged → (b : Bool) → AnswersLast (gated b x r) acknowledged
  gated_last last true = last
  gated_last last false = refusing_last

-- protocols together
module _ {I J A M R : Type 0} {V Q : I → Type 0} (s : Slave J A M) (x : (i : I) → Exchange (V i) A M (Q i) R) (seat : (i : I) → J → V i) (side : (i : I) → IsSide s (x i) (seat i)) (acknowledged : (i : I) → Q i → Bool)
    (last : (i : I) → AnswersLast (x i) (acknowledged i)) where
  pub joined_last : AnswersLast (joined s x seat) (λ q. acknowledged q.0 q.1)
  joined_last j q ready valid answers quiet p rest e same =
      let i = q.0 in
      let d = side i in
      let mails = d.sends (seat i j) q.1 (d.ready j ready) valid in
      let mine = each_left (λ m. d.mine m ≡ true) p rest (subst (EachOf (λ m. d.mine m ≡ true)) e mails) in
      let whole = plain_same s (x i) (seat i) d j ((x i).full (seat i j) q.1) mails (told_full s x seat side j q ready valid) in
      last i (seat i j) q.1 (d.ready j ready) valid answers (ap (λ l. acknowledged i q.1 && outnumbers ((x i).full (seat i j) q.1) l) (sym whole) ∙ quiet) p rest e
      (sym (plain_same s (x i) (seat i) d j p mine (told_part s x seat side j q ready valid p rest e)) ∙ same ∙ whole)
