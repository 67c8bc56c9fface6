use Rattle.std.proofs.Common.{◌≡◌, refl, sym, subst, ℕ, ◌+◌, Some, None}
use Rattle.slab.specs.Slab.{Slab, Updates, get, slab_len}
use Rattle.ec_outside.specs.declared.port.Peer.{Peer}
use Rattle.mailbox_mail.specs.declared.mail.Mail.{Mail}
use Rattle.gateway_core.specs.Gateway.{IsAsker, Queues}
use Rattle.gateway_core.specs.declared.asker.Asked.TheVariants as asked
use Rattle.gateway_core.specs.declared.asker.Asker.{Asker}

-- a request that was put under a vacant key of the requests inside
pub queues_inside :
    {old inside new : Slab Asker} {peer : Peer} {slave : ℕ} {mail : Mail} {asker : Asker} {key : ℕ} → old ≡ inside
    → get inside key ≡ None → Updates inside new key (Some asker) → slab_len new ≡ slab_len inside + 1
    → IsAsker peer slave mail asker → Queues old new peer slave mail (asked.Queued key slave mail)
queues_inside {old} {inside} {new} {peer} {slave} {mail} {asker} {key} same vacant updates one is_asker =
    let P : Slab Asker → Type 0 = λ g. Queues g new peer slave mail (asked.Queued key slave mail) in
    subst P (sym same)
    (record { key = key; asker = asker; queued = refl; vacant = vacant; is_asker = is_asker; updates = updates; one = one })
