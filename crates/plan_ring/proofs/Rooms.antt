-- EACH MAIL OF A SLAVE HAS ROOM: what a server gives for a mail, whatever the mail is.
use Rattle.std.proofs.Common.{ℕ, zero, suc, ◌+◌, ◌-◌, ◌*◌, ◌/◌, ◌≤◌, nat_lt, Bool, true, false, List, [], ◌∷◌, ◌++◌, map, length, take, drop, arith}
use Rattle.std.specs.Prelude.{if◌then◌else◌}
use Rattle.slave_server.specs.of_mailbox_mail.Mail.{error_of}
use Rattle.slave_server.specs.of_mailbox_mail.declared.mail.Kind.{Kind}
use Rattle.slave_server.specs.of_mailbox_mail.declared.mail.Mail.{Mail}
use Rattle.slave_server.specs.of_eoe.declared.message.Eoe.TheVariants.{Fragment as Part}
use Rattle.slave_server.specs.of_eoe.declared.message.Fragment.{Fragment}
use Rattle.slave_server.specs.of_eoe.Cutting.{fragment_at, fragments_from}
use Rattle.slave_server.specs.of_eoe.Message.{eoe_text}
use Rattle.slave_server.specs.of_protocol_models.CoeOctets.{mail_with}
use Rattle.slave_server.specs.of_slave_model.Server.{told_by}
use Rattle.slave_server.specs.Serving.{written}
use Rattle.whole_ring.specs.of_slave_lives.Nodes.{IsPlaced}
use Rattle.plan_ring.specs.Rooms.{AllPlaced}

pub take_few : (n : ℕ) (l : List ℕ) → length (take n l) ≤ n
take_few zero l = omega arith
take_few (suc n) [] = omega arith
take_few (suc n) (x ∷ l) = omega (arith, take_few n l)

module _ (back : ℕ) (least : 64 ≤ back) (most : back ≤ 1486) where
  pub body_placed : (kind : Kind) (body : List ℕ) → length body + 6 ≤ back → IsPlaced back (mail_with kind body)
  body_placed kind body few = record { counted = omega arith; addressed = omega arith; short = omega (arith, few, most); fits = omega (arith, few) }

  pub error_placed : (detail : ℕ) → IsPlaced back (error_of detail)
  error_placed detail = record { counted = omega arith; addressed = omega arith; short = omega arith; fits = omega (arith, least) }

  pub all_append : (ms ns : List Mail) → AllPlaced back ms → AllPlaced back ns → AllPlaced back (ms ++ ns)
  all_append [] ns a b = b
  all_append (m ∷ ms) ns a b = (a.0, all_append ms ns a.1 b)

  -- as the link is told of them
  pub told : {X : Type 0} (write : X → Mail) (xs : List X) → AllPlaced back (map write xs) → AllPlaced back (written (map (told_by write) xs))
  told write [] all = tt
  told write (x ∷ xs) all = (all.0, told write xs all.1)

  -- a fragment of a packet, cut for this mailbox
  part_few : (n : ℕ) → 32 * ((back - 10) / 32) ≤ back - 10
  part_few n = omega arith

  fragment_few : (packet : List ℕ) (frame k at : ℕ) → length (eoe_text (Part (fragment_at packet (32 * ((back - 10) / 32)) frame k at))) + 6 ≤ back
  fragment_few packet frame k at =
      let few = take_few (32 * ((back - 10) / 32)) (drop at packet) in
      let part = part_few 0 in
      omega (arith, few, part, least)

  pub fragments_placed : (write : Fragment → Mail) → ((f : Fragment) → length (eoe_text (Part f)) + 6 ≤ back → IsPlaced back (write f)) → (packet : List ℕ) (frame most_ k at : ℕ) →
      AllPlaced back (map write (fragments_from packet (32 * ((back - 10) / 32)) frame most_ k at))
  fragments_placed write each packet frame zero k at = tt
  fragments_placed write each packet frame (suc n) k at = go (fragments_placed write each packet frame n (k + 1) (at + 32 * ((back - 10) / 32))) (nat_lt at (length packet))
    where
      go : AllPlaced back (map write (fragments_from packet (32 * ((back - 10) / 32)) frame n (k + 1) (at + 32 * ((back - 10) / 32)))) → (b : Bool) → AllPlaced back (map write (if b then fragment_at packet (32 * ((back - 10) / 32)) frame k at ∷ fragments_from packet (32 * ((back - 10) / 32)) frame n (k + 1) (at + 32 * ((back - 10) / 32)) else []))
      go more true = (each (fragment_at packet (32 * ((back - 10) / 32)) frame k at) (fragment_few packet frame k at), more)
      go more false = tt
