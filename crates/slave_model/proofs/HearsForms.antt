-- A client that hears first does so too in the forms that exchanges are put in.
use Rattle.std.proofs.Common.{◌≡◌, ℕ, Bool, true, false, not, List, [], ◌∷◌, ◌++◌, map, refl, sym, ap, ◌∙◌, subst, inl, inr}
use Rattle.std.specs.Prelude.{drop, length}
use Rattle.std.proofs.lemmas.List.{map-append, drop-map, length-map}
use Rattle.protocol_models.specs.of_exchange_model.Exchange.{Exchange, given, plain}
use Rattle.protocol_models.specs.of_exchange_model.Lifted.{EachOf, ReadsBack, Spells, lifted, lifted_serve}
use Rattle.protocol_models.proofs.of_exchange_model.Lifting.{all_back}
use Rattle.protocol_models.proofs.of_exchange_model.Lists.{filter_mapped}
use Rattle.protocol_models.proofs.of_exchange_model.Words.{given_part}
use Rattle.protocol_models.specs.of_exchange_model.Refusing.{Refusal, IsRefusal, refusing, gated}
use Rattle.protocol_models.specs.of_exchange_model.Sides.{Slave, IsSide, joined}
use Rattle.protocol_models.proofs.of_exchange_model.Refusals.{snoc_cut, each_front, Quiet, quiet_given, heard_of, replies}
use Rattle.protocol_models.proofs.of_exchange_model.SumLaw.{each_left, plain_same, told_part}
use Rattle.life_model.specs.of_state_model.Families.{AreOneClient, in_states}
use Rattle.life_model.proofs.of_state_model.FamilyLaw.{plain_given_in}
use Rattle.slave_model.specs.Hears.{HearsFirst}
use Rattle.slave_model.proofs.HearsDialogues.{at_last, not_none}

-- OVER WHAT MAILS ARE WRITTEN AS
module _ {V A M N Q R : Type 0} (x : Exchange V A M Q R) (read : N → M) (write : M → N) (spells : Spells x read write) (hears : HearsFirst x) where
  given_read : (v : V) (ns : List N) → given (lifted_serve x.serve read write) v ns ≡ map write (given x.serve v (map read ns))
  given_read v [] = refl
  given_read v (n ∷ ns) =
      ap (λ l. map write (x.serve v (read n)).1 ++ l) (given_read (x.serve v (read n)).0 ns)
      ∙ sym (map-append write (x.serve v (read n)).1 (given x.serve (x.serve v (read n)).0 (map read ns)))

  replies_read : (v : V) (ns : List N) → EachOf (ReadsBack read write) (given x.serve v (map read ns)) →
      map read (plain (λ n. x.speech.emission (read n)) (given (lifted_serve x.serve read write) v ns)) ≡ plain x.speech.emission (given x.serve v (map read ns))
  replies_read v ns back =
      sym (filter_mapped read (λ m. not (x.speech.emission m)) (given (lifted_serve x.serve read write) v ns))
      ∙ ap (λ l. plain x.speech.emission (map read l)) (given_read v ns)
      ∙ ap (plain x.speech.emission) (all_back x read write (given x.serve v (map read ns)) back)

  pub lifted_hears : HearsFirst (lifted x read write)
  lifted_hears v q ready valid ps rs e hs b more comes =
      let full = x.full v q in
      let known : map read (map write full) ≡ full = all_back x read write full (spells.told v q ready valid) in
      let cut : full ≡ map read ps ++ map read rs = sym known ∙ ap (map read) e ∙ map-append read ps rs in
      let begun = given_part x.serve v (map read ps) full (map read rs, sym cut) in
      let part_read = each_front (ReadsBack read write) (given x.serve v (map read ps)) begun.0 (subst (EachOf (ReadsBack read write)) (sym begun.1) (spells.answered v q ready valid)) in
      let told : List M = x.speech.planned q (map read hs) in
      let heard : plain x.speech.emission (given x.serve v (map read ps)) ≡ map read hs ++ read b ∷ map read more =
      sym (replies_read v ps part_read) ∙ ap (map read) comes ∙ map-append read hs (b ∷ more) in
      let short : drop (length ps) told ≡ [] = ap (λ n. drop n told) (sym (length-map ps read)) ∙ hears v q ready valid (map read ps) (map read rs) cut (map read hs) (read b) (map read more) heard in
      drop-map write (length ps) told ∙ ap (map write) short

-- WHERE A PROTOCOL IS REFUSED: the mailbox error comes for the last mail
one_heard : {X M : Type 0} (refusal : M) (h : M) (hs : List M) (b : M) (more : List M) → refusal ∷ [] ≡ (h ∷ hs) ++ b ∷ more → X
one_heard refusal h hs b more e = not_none hs b more (let tail : [] ≡ hs ++ b ∷ more = cc in tail)

module _ {V A M Q R : Type 0} (x : Exchange V A M Q R) (r : Refusal V M Q R) (is : IsRefusal x r) where
  first_heard : (handed : Bool) (q : Q) → x.speech.valid q ≡ true → (p rest : List M) → r.asked q ≡ p ++ rest → rest ≡ [] → (hs : List M) (b : M) (more : List M) → heard_of r handed ≡ hs ++ b ∷ more →
      drop (length p) (x.speech.planned q hs) ≡ []
  first_heard true q valid p rest e none hs b more comes = not_none hs b more comes
  first_heard false q valid p rest e none [] b more comes = at_last (r.asked q) p rest (x.speech.planned q []) e none (is.begins q valid)
  first_heard false q valid p rest e none (h ∷ hs) b more comes = one_heard r.refusal h hs b more comes

  pub refusing_hears : HearsFirst (refusing x r)
  refusing_hears v q ready valid p rest e hs b more comes =
      let a = is.asked q valid in
      elim (snoc_cut a.front a.last p rest (sym a.mails ∙ e)) [
        | inl front ↦
            let quiet : given (refusing x r).serve v p ≡ [] = quiet_given r v p (each_front _ p front.0 (subst (Quiet r) front.1 a.quiet)) in
            not_none hs b more (ap (plain x.speech.emission) (sym quiet) ∙ comes)
        | inr whole ↦
            let all : r.asked q ≡ p = a.mails ∙ sym whole.0 in
            first_heard (x.speech.handed q) q valid p rest e whole.1 hs b more
            (sym (replies r x.speech is.plain v (x.speech.handed q) (r.asked q) a) ∙ ap (λ ms. plain x.speech.emission (given (refusing x r).serve v ms)) all ∙ comes)
      ]

  pub gated_hears : HearsFirst x → (served : Bool) → HearsFirst (gated served x r)
  gated_hears hears true = hears
  gated_hears hears false = refusing_hears

-- PROTOCOLS TOGETHER
module _ {I J A M R : Type 0} {V Q : I → Type 0} (s : Slave J A M) (x : (i : I) → Exchange (V i) A M (Q i) R) (seat : (i : I) → J → V i) (side : (i : I) → IsSide s (x i) (seat i)) (hears : (i : I) → HearsFirst (x i)) where
  pub joined_hears : HearsFirst (joined s x seat)
  joined_hears j q ready valid p rest e hs b more comes =
      let i = q.0 in
      let d = side i in
      let mails = d.sends (seat i j) q.1 (d.ready j ready) valid in
      let mine = each_left (λ m. d.mine m ≡ true) p rest (subst (EachOf (λ m. d.mine m ≡ true)) e mails) in
      hears i (seat i j) q.1 (d.ready j ready) valid p rest e hs b more (sym (plain_same s (x i) (seat i) d j p mine (told_part s x seat side j q ready valid p rest e)) ∙ comes)

-- A FAMILY OVER THE AL STATES
module _ {V A M Q R : Type 0} (x : ℕ → Exchange V A M Q R) (one : AreOneClient x) (hears : (state : ℕ) → HearsFirst (x state)) where
  pub family_hears : HearsFirst (in_states x)
  family_hears v q ready valid p rest e hs b more comes =
      ap (drop (length p)) (sym (one.planned v.state q hs)) ∙ hears v.state v.inner q ready (one.valid v.state q ∙ valid) p rest e hs b more (sym (plain_given_in x one v p) ∙ comes)
