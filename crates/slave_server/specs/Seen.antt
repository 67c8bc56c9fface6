-- The slave's server as the exchange's own server behind its mailboxes.
use Rattle.std.specs.Prelude.{◌≡◌, ℕ, map, option_map, Ok}
use Rattle.slave_node.specs.of_mailbox_mail.declared.mail.Mail.{Mail}
use Rattle.slave_node.specs.of_link_mails.Body.{Body, uncounted}
use Rattle.slave_parts.specs.of_segment_model.Slaves as Slaves
use Rattle.slave_parts.specs.of_segment_model.Slaves.{serving}
use Rattle.slave_parts.specs.of_state_model.Families.{InState}
use Rattle.slave_parts.specs.of_slave_model.Profile.{Profile}
use Rattle.slave_parts.specs.of_slave_model.Product.{product}
use Rattle.slave_parts.specs.Parts.{Server, parts}
use Rattle.slave_server.specs.Serving.{Serving, takes, next_mail, rest}

-- in this AL state
abbrev pub seen_in : ℕ → Serving → Slaves.Serving (InState Server) Body
seen_in al s = record { server = record { inner = s.server; state = al }; waiting = map (λ (m : Mail). let b : Body = Ok (uncounted m) in b) s.waiting }

-- each step of it is the exchange's
pub record IsExchange (p : Profile) (al : ℕ) : Type 0 where
  pub take : (s : Serving) (b : Body) → s.profile ≡ p → seen_in al (takes s b al) ≡ (serving (product parts p)).take (seen_in al s) b
  pub next : (s : Serving) → option_map (λ (m : Mail). let b : Body = Ok (uncounted m) in b) (next_mail s) ≡ (serving (product parts p)).next (seen_in al s)
  pub rest : (s : Serving) → seen_in al (rest s) ≡ (serving (product parts p)).rest (seen_in al s)
  -- and the profile never changes
  pub stays : (s : Serving) (b : Body) → (takes s b al).profile ≡ s.profile
