-- WORKED ROWS: a mail of a protocol that its slave doesn't serve.
use Rattle.std.proofs.Common.{◌≡◌, ◌&&◌, not, ◌==◌, ℕ, suc, Bool, false, [], ◌∷◌, ap, ◌∙◌, Ok}
use Rattle.served_places.specs.of_exchange_model.Exchange.{plain}
use Rattle.served_places.specs.of_exchange_model.Refusing.{gated}
use Rattle.run_work.specs.of_mailbox_mail.declared.mail.Kind.{Kind}
use Rattle.run_work.specs.of_mailbox_mail.declared.mail.Mail.{Mail}
use Rattle.run_work.specs.of_master_hand.Spoken.{emission, passed}
use Rattle.run_work.specs.of_slave_model.Product.{protocol_of, refusal, serve_by, served}
use Rattle.run_work.specs.of_slave_model.Profile.{Protocol, Profile, serves}
use Rattle.run_work.specs.of_slave_model.Server.{failure, reseated, seat}
use Rattle.run_work.specs.of_slave_parts.Parts.{Server, parts}
use Rattle.served_places.specs.of_state_model.Families.{InState}
use Rattle.served_places.specs.of_state_model.Stated.{Service}
use Rattle.served_rings.specs.Served.{replies_to, server_behind}

module _ (p : Profile) (boot : Bool) (station : ℕ) (v : InState Server) (m : Mail) (none : p.has_coe ≡ false) (kind : m.kind ≡ Kind.CoE) where
  off : serves p v.state Protocol.CoE ≡ false
  off = ap (λ (b : Bool). b && not (v.state == 3)) none

  pub replies_one : replies_to p boot station v m ≡ failure 2 ∷ []
  replies_one =
      ap (λ k. plain emission (serve_by parts p v.state v.inner (Ok m) k (protocol_of k)).1) kind
      ∙ ap (λ b. plain emission ((gated b (served parts p v.state Protocol.CoE) (refusal parts p v.state Protocol.CoE)).serve (seat Protocol.CoE v.inner) (Ok m)).1) off

  pub counts_one : (server_behind p boot station v (Service.Mails (passed m) ∷ [])).inner.handled ≡ suc v.inner.handled
  counts_one =
      ap (λ k. (serve_by parts p v.state v.inner (Ok m) k (protocol_of k)).0.handled) kind
      ∙ ap (λ b. (reseated Protocol.CoE v.inner ((gated b (served parts p v.state Protocol.CoE) (refusal parts p v.state Protocol.CoE)).serve (seat Protocol.CoE v.inner) (Ok m)).0).handled) off
