-- A MAIL OF SoE is counted, or leaves the table: a fragment is joined, and the last one's message writes.
use Rattle.std.proofs.Common.{◌≡◌, ◌⊎◌, inl, inr, ℕ, Bool, true, List, Option, Result, Ok, Err, refl}
use Rattle.std.specs.Prelude.{◌==◌}
use Rattle.seen_slaves.proofs.Choices.{either}
use Rattle.idle_slaves.specs.of_protocol_models.Elements.{Target, Elements}
use Rattle.idle_slaves.specs.of_protocol_models.SoeMails.{Soe, SoeFault, Short, Opcode, Incomplete, SoeMail, mail, unread, failed, other}
use Rattle.idle_slaves.specs.of_protocol_models.SoeServer.{Join, Outcome, asked, gathered, written, target_of, takes_whole, takes_unread, soe_outcome}

module _ {S : Type 0} (o : Elements S) (room : ℕ) where
  -- counted, or the table is this
  abbrev Quiet : S → Outcome S → Type 0
  Quiet app x = (x.counts ≡ true) ⊎ (x.app ≡ app)

  asked_quiet : (app : S) (t : Target) (r : Result (List ℕ) ℕ) → Quiet app (asked room app t r)
  asked_quiet app t (Ok bytes) = inl refl
  asked_quiet app t (Err code) = inl refl

  written_quiet : (app : S) (t : Target) (r : Result S ℕ) → Quiet app (written app t r)
  written_quiet app t (Ok changed) = inl refl
  written_quiet app t (Err code) = inl refl

  whole_quiet : (app : S) (join : Option Join) (s : Soe) → Quiet app (takes_whole o room app join s)
  whole_quiet app join s =
      either (Quiet app) (s.opcode == 1) _ _ (asked_quiet app (target_of s) (o.read app (target_of s)))
      (either (Quiet app) (s.opcode == 3) _ _ (written_quiet app (target_of s) (o.write app (target_of s) (gathered join s))) (inl refl))

  unread_quiet : (app : S) (join : Option Join) (fault : SoeFault) (incomplete : Bool) → Quiet app (takes_unread app join fault incomplete)
  unread_quiet app join Short incomplete = inl refl
  unread_quiet app join Opcode incomplete = either (Quiet app) incomplete _ _ (inr refl) (inl refl)
  unread_quiet app join Incomplete incomplete = inr refl

  -- whatever comes
  pub soe_quiet : (app : S) (join : Option Join) (m : SoeMail) → Quiet app (soe_outcome o room app join m)
  soe_quiet app join (mail s) = either (Quiet app) s.incomplete _ _ (inr refl) (whole_quiet app join s)
  soe_quiet app join (unread fault incomplete) = unread_quiet app join fault incomplete
  soe_quiet app join (failed detail) = inr refl
  soe_quiet app join (other body) = inr refl
