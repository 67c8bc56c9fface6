-- What the slave's AL state machine does with a control word is what the model carries out.
use Rattle.std.proofs.Common.{◌≡◌, ◌≢◌, ℕ, ◌==◌, ◌&&◌, Bool, true, false, not, Option, Some, None, refl, ap, sym, ◌∙◌, subst, arith, if◌then◌else◌}
use Rattle.std.proofs.lemmas.Bool.Decides.{nat_tests}
use Rattle.frame_view.specs.of_ec_fields.Fields.{bits_of}
use Rattle.slave_node.specs.of_al_state.declared.machine.Al.{Al}
use Rattle.slave_node.specs.of_al_state.declared.machine.Asked.{Asked}
use Rattle.slave_node.specs.of_al_state.declared.machine.Asked.TheVariants.{Ignored}
use Rattle.slave_node.specs.of_al_state.Request.{refusal_of, carried, request_of}
use Rattle.frame_view.specs.of_segment_model.Slaves.{Registers}
use Rattle.frame_view.specs.of_state_model.States.{carry, word_carried, decided}
use Rattle.frames_seen.specs.Shows.{Shows, slave_table, error_of, word_seen}
use Rattle.frames_seen.proofs.Tables.{coded}

pub not_zero : (n : ℕ) → n ≢ 0 → (n == 0) ≡ false
not_zero n d = grind (arith, nat_tests, d)

module _ (boot areas : Bool) (al : Al) (r : Registers) (control : ℕ) (shows : Shows al r) where
  -- a word that is carried out
  made : (v : Option ℕ) → refusal_of r.state (bits_of control 0 4) boot areas ≡ v → Shows (carried al (bits_of control 0 4) v).0 (decided r (bits_of control 0 4) v)
  made None e = record { state = refl; error = refl; coded = λ c f. absurd (cc) }
  made (Some code) e = record { state = shows.state; error = refl; coded = λ c f. let same : code ≡ c = some_same code c f in subst (λ n. n ≢ 0) same (coded boot areas r.state (bits_of control 0 4) code e) }
    where
      some_same : (a b : ℕ) → Some a ≡ Some b → a ≡ b
      some_same a b e = cc

  cleared : (v : Option ℕ) → (decided r (bits_of control 0 4) v).control ≡ None
  cleared None = refl
  cleared (Some code) = refl

  both : (Shows (carried al (bits_of control 0 4) (refusal_of al.state (bits_of control 0 4) boot areas)).0 (decided r (bits_of control 0 4) (refusal_of r.state (bits_of control 0 4) boot areas)))
      × ((decided r (bits_of control 0 4) (refusal_of r.state (bits_of control 0 4) boot areas)).control ≡ None)
  both = (
    subst (λ s. Shows (carried al (bits_of control 0 4) (refusal_of s (bits_of control 0 4) boot areas)).0 (decided r (bits_of control 0 4) (refusal_of r.state (bits_of control 0 4) boot areas))) (sym shows.state)
        (made (refusal_of r.state (bits_of control 0 4) boot areas) refl),
    cleared (refusal_of r.state (bits_of control 0 4) boot areas),
  )

  abbrev asked : Bool → Al × Asked
  asked ignores = if ignores then (al, Ignored) else carried al (bits_of control 0 4) (refusal_of al.state (bits_of control 0 4) boot areas)

  abbrev Met : Bool → Registers → Type 0
  Met ignores n = (Shows (asked ignores).0 n) × (n.control ≡ None)

  kept : Shows al (record r { control = None })
  kept = record { state = shows.state; error = shows.error; coded = shows.coded }

  by_flag : (refused : Option ℕ) → r.refused ≡ refused → (zero_bit : Bool) → (bits_of control 4 1 == 0) ≡ zero_bit → Met (not (al.error == 0) && zero_bit) (word_carried (slave_table boot areas) r refused (Some (bits_of control 0 4, not zero_bit)))
  by_flag None e b f = subst (λ i. Met i (decided r (bits_of control 0 4) (refusal_of r.state (bits_of control 0 4) boot areas))) (sym open_now) both
    where
      open_now : (not (al.error == 0) && b) ≡ false
      open_now = ap (λ n. not (n == 0) && b) (shows.error ∙ ap error_of e)
  by_flag (Some code) e b f = go b
    where
      flagged : (al.error == 0) ≡ false
      flagged = ap (λ n. n == 0) (shows.error ∙ ap error_of e) ∙ not_zero code (shows.coded code e)

      go : (b : Bool) → Met (not (al.error == 0) && b) (if not b then decided r (bits_of control 0 4) (refusal_of r.state (bits_of control 0 4) boot areas) else record r { control = None })
      go true = subst (λ z. Met (not z && true) (record r { control = None })) (sym flagged) (kept, refl)
      go false = subst (λ z. Met (not z && false) (decided r (bits_of control 0 4) (refusal_of r.state (bits_of control 0 4) boot areas))) (sym flagged) both

  pub carries : r.control ≡ Some (word_seen control) → (Shows (request_of al control boot areas).0 (carry (slave_table boot areas) r)) × ((carry (slave_table boot areas) r).control ≡ None)
  carries e = subst (λ c. Met (not (al.error == 0) && (bits_of control 4 1 == 0)) (word_carried (slave_table boot areas) r r.refused c)) (sym e) (by_flag r.refused refl (bits_of control 4 1 == 0) refl)
