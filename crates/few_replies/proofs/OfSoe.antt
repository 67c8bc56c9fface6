-- The mails of SoE.
use Rattle.std.proofs.Common.{◌≡◌, ℕ, zero, suc, ◌-◌, ◌/◌, ◌<◌, ◌≤◌, inl, inr, true, List, length, drop, Result, Ok, Err, refl, ap, arith, length-drop, le-leb}
use Rattle.std.proofs.lemmas.Bool.{cases_lt, lt-leb}
use Rattle.slave_parts.specs.of_exchange_model.Areas.{Areas, AreMailboxes}
use Rattle.slave_parts.specs.of_protocol_models.CoeModel.{value_length}
use Rattle.slave_parts.specs.of_protocol_models.Elements.{Target, Elements, AreLawful}
use Rattle.slave_parts.specs.of_protocol_models.SoeMails.{fragments}
use Rattle.slave_parts.specs.of_protocol_models.SoeServer.{Server}
use Rattle.slave_parts.specs.of_protocol_models.SoeClient.{Service, read, write, is_service}
use Rattle.slave_parts.specs.of_protocol_models.SoeModel.{is_ready, soe_exchange}
use Rattle.slave_parts.proofs.of_protocol_models.SoeCarries.{answer_to}
use Rattle.slave_parts.proofs.of_protocol_models.SoeLaw.{answer_to_read, kept}
use Rattle.few_replies.specs.Counts.{third, mails_between, mails_within, soe_octets}
use Rattle.few_replies.proofs.Thirds.{fits, one_less}

-- the fragments of an element
pub fragments_within : (w fuel opcode : ℕ) (t : Target) (part : ℕ) (bytes : List ℕ) → 0 < w → w ≤ part → length (fragments fuel opcode t part bytes) ≤ suc (length bytes / w)
fragments_within w zero opcode t part bytes some wide = omega arith
fragments_within w (suc fuel) opcode t part bytes some wide = elim (cases_lt part (length bytes)) [
  | inr ends ↦ rw (le-leb (length bytes) part ends) (omega arith)
  | inl more ↦
      let rest = fragments_within w fuel opcode t part (drop part bytes) some wide in
      let less = one_less w part (length bytes) some wide (omega arith) in
      rw (lt-leb (length bytes) part more) (omega (arith, rest, less, ap (λ n. n / w) (length-drop part bytes)))
]

module _ {S : Type 0} (o : Elements S) (law : AreLawful o) (areas : Areas) (sized : AreMailboxes areas) where
  -- the answer to a read, and to a write
  read_within : (t : Target) (r : Result (List ℕ) ℕ) → length (answer_to_read o law areas sized t r) ≤ suc (value_length r / third areas)
  read_within t (Ok bytes) = let f = fits areas sized in fragments_within (third areas) (suc (length bytes)) 2 t (areas.back - 10) bytes f.some (omega (arith, f.back))
  read_within t (Err code) = omega arith

  write_within : (t : Target) (r : Result S ℕ) → length (answer_to t r) ≡ 1
  write_within t (Ok changed) = refl
  write_within t (Err code) = refl

  pub soe_within : (v : Server S) (q : Service) → is_ready o v ≡ true → is_service q ≡ true → mails_between (soe_exchange o areas) v q ≤ mails_within areas (soe_octets o v.app q)
  soe_within v (read t) ready valid =
      let all = (kept o law areas sized v (read t) ready valid).given in
      omega (arith, ap length all, read_within t (o.read v.app t))
  soe_within v (write t bytes) ready valid =
      let all = (kept o law areas sized v (write t bytes) ready valid).given in
      let f = fits areas sized in
      let told = fragments_within (third areas) (suc (length bytes)) 3 t (areas.out - 10) bytes f.some (omega (arith, f.out)) in
      omega (arith, ap length all, write_within t (o.write v.app t bytes), told)
