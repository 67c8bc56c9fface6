-- What the processor's step does to the registers, to what the box keeps and to the server, octet by octet.
use Rattle.std.specs.Prelude.{ℕ, Bool, true, false, not, ◌&&◌, if◌then◌else◌, is_some, is_none, Option, Some, None}
use Rattle.esc_registers.specs.of_mailbox_mail.declared.mail.Mail.{Mail}
use Rattle.esc_registers.specs.of_mailbox_mail.Mail.{mail_read}
use Rattle.link_mails.specs.of_link_model.Counters.{next_counter, repeats}
use Rattle.link_mails.specs.of_link_model.Mails.{LinkMail, first_of}
use Rattle.link_mails.specs.Body.{Body, counted_as, link_read}
use Rattle.esc_registers.specs.of_mailbox_mail.Area.{mail_area}
use Rattle.esc_registers.specs.Manager.{is_repeat_asked}
use Rattle.esc_registers.specs.declared.registers.Registers.{Registers}
use Rattle.mailbox_slave.specs.Kept.{Kept}
use Rattle.mailbox_slave.specs.Registers.{in_len, request_of}

-- what a box keeps, with its registers
pub record Boxes : Type 0 where
  pub kept : Kept
  pub registers : Registers

-- the same with the server behind them
pub record Slave (S : Type 0) : Type 0 where
  pub kept : Kept
  pub registers : Registers
  pub server : S

-- the registers with this mail in mailbox 1: it is full, and its octets are the mail's one spelling and zeros
abbrev pub with_mail : Registers → Mail → Registers
with_mail r m = record r { in_manager = record r.in_manager { area = mail_area (in_len r) m; full = true } }

-- the registers with the repeat request acknowledged
abbrev pub with_acknowledge : Registers → Registers
with_acknowledge r = record r { in_manager = record r.in_manager { acknowledge = request_of r } }

-- the registers with mailbox 0 free again
abbrev pub with_out_free : Registers → Registers
with_out_free r = record r { out_manager = record r.out_manager { full = false } }

-- step 1: where mailbox 1 is empty, the new mail that was offered there is the last one read; else a repeat was
abbrev pub kept_noticed : Kept → Bool → Kept
kept_noticed k full =
    if full then k else if is_some k.fresh then record k { last_read = k.fresh; fresh = None } else record k { again = false }

-- the last read mail is offered again, unless it stands already, and a new one that stands unread is withdrawn
abbrev pub last_repeated : Kept → Registers → Option Mail → Boxes
last_repeated k r None = record { kept = k; registers = r }
last_repeated k r (Some m) =
    if k.again then record { kept = k; registers = r }
    else record {
      kept = record k { again = true; fresh = None; withdrawn = first_of k.fresh k.withdrawn };
      registers = with_mail r m;
    }

-- step 2: a repeat request that is not yet acknowledged is answered
abbrev pub request_answered : Kept → Registers → Boxes
request_answered k r =
    if is_repeat_asked r.in_manager
    then (let b = last_repeated k r k.last_read in record b { registers = with_acknowledge b.registers })
    else record { kept = k; registers = r }

-- steps 1 and 2
abbrev pub boxes_looked : Kept → Registers → Boxes
boxes_looked k r = request_answered (kept_noticed k r.in_manager.full) r

-- what stands in mailbox 0, as the link has it
abbrev pub out_mail : Registers → LinkMail Body
out_mail r = link_read (mail_read r.out_manager.area)

-- mailbox 1 is empty, no mail is withdrawn, and the server has nothing waiting
abbrev pub is_free : Kept → Registers → Option Mail → Bool
is_free k r next = not r.in_manager.full && (is_none k.withdrawn && is_none next)

-- step 4: a mail in mailbox 0 that is the last one taken is removed; any other is taken where the slave is free
abbrev pub mail_served : {S : Type 0} → (S → Body → ℕ → S) → (S → Option Mail) → ℕ → Kept → Registers → S → Slave S
mail_served take next al k r s =
    if not r.out_manager.full then record { kept = k; registers = r; server = s }
    else if repeats k.last_taken (out_mail r).counter then record { kept = k; registers = with_out_free r; server = s }
    else if is_free k r (next s)
    then record {
      kept = record k { last_taken = (out_mail r).counter };
      registers = with_out_free r;
      server = take s (out_mail r).body al;
    }
    else record { kept = k; registers = r; server = s }

-- a mail is offered in the empty mailbox 1: the withdrawn one, else the server's next with the next counter
abbrev pub next_offered : {S : Type 0} → (S → S) → Kept → Registers → S → Option Mail → Option Mail → Slave S
next_offered rest k r s (Some m) next =
    record { kept = record k { again = false; fresh = Some m; withdrawn = None }; registers = with_mail r m; server = s }
next_offered rest k r s None (Some m) =
    let n = counted_as (next_counter k.newest) m in
    record {
      kept = record k { newest = next_counter k.newest; again = false; fresh = Some n };
      registers = with_mail r n;
      server = rest s;
    }
next_offered rest k r s None None = record { kept = k; registers = r; server = s }

-- step 5
abbrev pub mail_offered : {S : Type 0} → (S → Option Mail) → (S → S) → Kept → Registers → S → Slave S
mail_offered next rest k r s =
    if r.in_manager.full then record { kept = k; registers = r; server = s } else next_offered rest k r s k.withdrawn (next s)

-- steps 4 and 5
abbrev pub slave_served : {S : Type 0} → (S → Body → ℕ → S) → (S → Option Mail) → (S → S) → ℕ → Kept → Registers → S → Slave S
slave_served take next rest al k r s =
    let t = mail_served take next al k r s in mail_offered next rest t.kept t.registers t.server

-- the processor's step, in this AL state
abbrev pub slave_stepped : {S : Type 0} → (S → Body → ℕ → S) → (S → Option Mail) → (S → S) → ℕ → Kept → Registers → S → Slave S
slave_stepped take next rest al k r s =
    let b = boxes_looked k r in slave_served take next rest al b.kept b.registers s
