-- The server's next mail stands in mailbox 1: the model's step 5, and its one spelling.
use Rattle.std.proofs.Common.{◌≡◌, ℕ, true, false, Option, Some, None, is_some, ap, sym, ◌∙◌, arith}
use Rattle.std.specs.Prelude.{option_map}
use Rattle.std.proofs.lemmas.Grind.{common_steps}
use Rattle.esc_registers.specs.of_mailbox_mail.declared.mail.Mail.{Mail}
use Rattle.link_mails.specs.of_link_model.Counters.{next_counter}
use Rattle.link_mails.specs.of_link_model.Slave.{node_offer}
use Rattle.link_mails.specs.Body.{Body, counted_as, link_mail}
use Rattle.esc_registers.specs.declared.registers.Registers.{Registers}
use Rattle.esc_registers.specs.of_mailbox_mail.Area.{mail_area}
use Rattle.mailbox_slave.specs.Kept.{Kept, offered}
use Rattle.mailbox_slave.specs.Registers.{in_box, in_len}
use Rattle.mailbox_slave.specs.Node.{node_of, server_of, IsSpelled}
use Rattle.mailbox_slave.specs.Exact.{with_mail}

-- what the box keeps, with the server's next mail offered
abbrev pub kept_next : Kept → Option Mail → Kept
kept_next k x = record k { newest = next_counter k.newest; again = false; fresh = option_map (counted_as (next_counter k.newest)) x }

pub next_node : {S : Type 0} (take : S → Body → ℕ → S) (next : S → Option Mail) (rest : S → S) (al : ℕ) (k : Kept) (r : Registers) (s : S) (k2 : Kept) (r2 : Registers) (s2 : S) (x : Option Mail) → next s ≡ x → is_some x ≡ true → r.in_manager.full ≡ false → k.withdrawn ≡ None → k2 ≡ kept_next k x → Some r2 ≡ option_map (λ m. with_mail r (counted_as (next_counter k.newest) m)) x → in_box r2 ≡ option_map (λ m. link_mail (counted_as (next_counter k.newest) m)) x → s2 ≡ rest s → node_of k2 r2 s2 ≡ node_offer (server_of take next rest al) (node_of k r s)
next_node take next rest al k r s k2 r2 s2 None e some full none kept registers box server = grind (arith, common_steps)
next_node take next rest al k r s k2 r2 s2 (Some m) e some full none kept registers box server = grind (arith, common_steps)

pub next_spelled : (k k2 : Kept) (r r2 : Registers) (x : Option Mail) → is_some x ≡ true → k2 ≡ kept_next k x → Some r2 ≡ option_map (λ m. with_mail r (counted_as (next_counter k.newest) m)) x → in_len r2 ≡ in_len r → IsSpelled k2 r2
next_spelled k k2 r r2 None some kept registers len = λ full. absurd (let no : false ≡ true = some in cc)
next_spelled k k2 r r2 (Some m) some kept registers len = λ full.
    let n : Mail = counted_as (next_counter k.newest) m in
    let both : Some r2 ≡ Some (with_mail r n) = registers in
    let same : r2 ≡ with_mail r n = cc in
    let area : r2.in_manager.area ≡ mail_area (in_len r) n = ap (λ (x : Registers). x.in_manager.area) same in
    (n, ap offered kept, area ∙ ap (λ len. mail_area len n) (sym len))
