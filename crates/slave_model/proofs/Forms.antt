-- A client that never waits in vain doesn't either in the forms that exchanges are put in.
use Rattle.std.proofs.Common.{◌≡◌, ℕ, Bool, true, false, not, List, [], ◌∷◌, ◌++◌, map, refl, sym, ap, ◌∙◌, subst, inl, inr}
use Rattle.std.specs.Prelude.{drop, length}
use Rattle.std.proofs.lemmas.List.{map-append, drop-map, length-map}
use Rattle.protocol_models.specs.of_exchange_model.Exchange.{Exchange, given, plain}
use Rattle.protocol_models.specs.of_exchange_model.Lifted.{EachOf, ReadsBack, Spells, lifted, lifted_serve}
use Rattle.protocol_models.proofs.of_exchange_model.Lifting.{all_back}
use Rattle.protocol_models.proofs.of_exchange_model.Lists.{drop_behind, filter_mapped}
use Rattle.protocol_models.proofs.of_exchange_model.Words.{given_part}
use Rattle.protocol_models.specs.of_exchange_model.Refusing.{Refusal, IsRefusal, refusing, gated}
use Rattle.protocol_models.specs.of_exchange_model.Sides.{Slave, IsSide, joined}
use Rattle.protocol_models.proofs.of_exchange_model.Refusals.{snoc_cut, each_front, Quiet, quiet_given}
use Rattle.protocol_models.proofs.of_exchange_model.SumLaw.{each_left, plain_same, told_part}
use Rattle.life_model.specs.of_state_model.Families.{AreOneClient, in_states}
use Rattle.life_model.proofs.of_state_model.FamilyLaw.{plain_given_in}
use Rattle.slave_model.specs.Waits.{NeverWaits, TellsAll}

none_mapped : {M N : Type 0} (f : M → N) (ns : List M) → map f ns ≡ [] → ns ≡ []
none_mapped f [] e = refl
none_mapped f (n ∷ ns) e = absurd (cc)

-- OVER WHAT MAILS ARE WRITTEN AS
module _ {V A M N Q R : Type 0} (x : Exchange V A M Q R) (read : N → M) (write : M → N) (spells : Spells x read write) (never : NeverWaits x) where
  given_read : (v : V) (ns : List N) → given (lifted_serve x.serve read write) v ns ≡ map write (given x.serve v (map read ns))
  given_read v [] = refl
  given_read v (n ∷ ns) =
      ap (λ l. map write (x.serve v (read n)).1 ++ l) (given_read (x.serve v (read n)).0 ns)
      ∙ sym (map-append write (x.serve v (read n)).1 (given x.serve (x.serve v (read n)).0 (map read ns)))

  replies_read : (v : V) (ns : List N) → EachOf (ReadsBack read write) (given x.serve v (map read ns)) →
      map read (plain (λ n. x.speech.emission (read n)) (given (lifted_serve x.serve read write) v ns)) ≡ plain x.speech.emission (given x.serve v (map read ns))
  replies_read v ns back =
      sym (filter_mapped read (λ m. not (x.speech.emission m)) (given (lifted_serve x.serve read write) v ns))
      ∙ ap (λ l. plain x.speech.emission (map read l)) (given_read v ns)
      ∙ ap (plain x.speech.emission) (all_back x read write (given x.serve v (map read ns)) back)

  pub lifted_never : NeverWaits (lifted x read write)
  lifted_never v q ready valid ps rs e none =
      let full = x.full v q in
      let known : map read (map write full) ≡ full = all_back x read write full (spells.told v q ready valid) in
      let cut : full ≡ map read ps ++ map read rs = sym known ∙ ap (map read) e ∙ map-append read ps rs in
      let begun = given_part x.serve v (map read ps) full (map read rs, sym cut) in
      let part_read = each_front (ReadsBack read write) (given x.serve v (map read ps)) begun.0 (subst (EachOf (ReadsBack read write)) (sym begun.1) (spells.answered v q ready valid)) in
      let told : List M = x.speech.planned q (plain x.speech.emission (given x.serve v (map read ps))) in
      let mapped : drop (length ps) (map write told) ≡ [] = ap (λ l. drop (length ps) (map write (x.speech.planned q l))) (sym (replies_read v ps part_read)) ∙ none in
      let short : drop (length (map read ps)) told ≡ [] =
      ap (λ n. drop n told) (length-map ps read) ∙ none_mapped write (drop (length ps) told) (sym (drop-map write (length ps) told) ∙ mapped) in
      none_mapped read rs (never v q ready valid (map read ps) (map read rs) cut short)

-- WHERE A PROTOCOL IS REFUSED
module _ {V A M Q R : Type 0} (x : Exchange V A M Q R) (r : Refusal V M Q R) (is : IsRefusal x r) (tells : TellsAll x r) where
  pub refusing_never : NeverWaits (refusing x r)
  refusing_never v q ready valid p rest e none =
      let a = is.asked q valid in
      elim (snoc_cut a.front a.last p rest (sym a.mails ∙ e)) [
        | inl front ↦
            let quiet : given (refusing x r).serve v p ≡ [] = quiet_given r v p (each_front _ p front.0 (subst (Quiet r) front.1 a.quiet)) in
            let all : x.speech.planned q (plain x.speech.emission (given (refusing x r).serve v p)) ≡ p ++ rest = ap (λ l. x.speech.planned q (plain x.speech.emission l)) quiet ∙ tells q valid ∙ e in
            sym (drop_behind p rest) ∙ ap (drop (length p)) (sym all) ∙ none
        | inr whole ↦ whole.1
      ]

  pub gated_never : NeverWaits x → (served : Bool) → NeverWaits (gated served x r)
  gated_never never true = never
  gated_never never false = refusing_never

-- PROTOCOLS TOGETHER
module _ {I J A M R : Type 0} {V Q : I → Type 0} (s : Slave J A M) (x : (i : I) → Exchange (V i) A M (Q i) R) (seat : (i : I) → J → V i) (side : (i : I) → IsSide s (x i) (seat i)) (never : (i : I) → NeverWaits (x i)) where
  pub joined_never : NeverWaits (joined s x seat)
  joined_never j q ready valid p rest e none =
      let i = q.0 in
      let d = side i in
      let mails = d.sends (seat i j) q.1 (d.ready j ready) valid in
      let mine = each_left (λ m. d.mine m ≡ true) p rest (subst (EachOf (λ m. d.mine m ≡ true)) e mails) in
      never i (seat i j) q.1 (d.ready j ready) valid p rest e
      (ap (λ l. drop (length p) ((x i).speech.planned q.1 l)) (sym (plain_same s (x i) (seat i) d j p mine (told_part s x seat side j q ready valid p rest e))) ∙ none)

-- A FAMILY OVER THE AL STATES
module _ {V A M Q R : Type 0} (x : ℕ → Exchange V A M Q R) (one : AreOneClient x) (never : (state : ℕ) → NeverWaits (x state)) where
  pub family_never : NeverWaits (in_states x)
  family_never v q ready valid p rest e none =
      never v.state v.inner q ready (one.valid v.state q ∙ valid) p rest e
      (ap (drop (length p)) (one.planned v.state q (plain (x v.state).speech.emission (given (x v.state).serve v.inner p)) ∙ ap ((x 0).speech.planned q) (sym (plain_given_in x one v p))) ∙ none)
