-- A MAIL IS ASKED of a slave.
use Rattle.std.specs.Prelude.{◌≡◌, ℕ, List, [], ◌∷◌, ◌++◌}
use Rattle.life_runs.specs.of_mailbox_mail.declared.mail.Mail.{Mail}
use Rattle.master_node.specs.declared.post.Asked.{Asked}

-- it waits behind those that do, under its key, without address and counter
pub record AppendsMail (key : ℕ) (mail : Mail) (old new : List Asked) : Type 0 where
  pub asked : Asked
  pub waits : new ≡ old ++ asked ∷ []
  pub key_is : asked.key ≡ key
  pub bare : (asked.mail.address ≡ 0) × (asked.mail.counter ≡ 0)
  pub kind : asked.mail.kind ≡ mail.kind
  pub body : asked.mail.body.items ≡ mail.body.items
