-- Services that go mail by mail: over other mails, where a protocol isn't served, and among the protocols of a slave.
use Rattle.std.proofs.Common.{◌≡◌, suc, ◌≤◌, List, [], ◌∷◌, ◌++◌, length, map, Bool, true, false, refl, sym, ap, ◌∙◌, subst, arith, cond, not, length-append}
use Rattle.std.specs.Prelude.{is_some}
use Rattle.std.proofs.lemmas.List.{length-map}
use Rattle.slave_model.specs.of_exchange_model.Exchange.{Exchange, after, given, plain}
use Rattle.slave_model.specs.of_exchange_model.Lifted.{EachOf, ReadsBack, Spells, lifted, lifted_serve}
use Rattle.slave_model.specs.of_exchange_model.Prefix.{IsPrefixOf}
use Rattle.slave_model.proofs.of_exchange_model.Words.{given-append}
use Rattle.slave_model.proofs.of_exchange_model.Lifting.{map_append, map_begin, each_filter, CutBefore, cut_before, all_back}
use Rattle.slave_model.specs.of_exchange_model.Refusing.{Refusal, refused_serve, gated}
use Rattle.slave_model.specs.of_exchange_model.Sides.{Slave, IsSide, joined}
use Rattle.slave_model.proofs.of_exchange_model.SumLaw.{each_left, plain_same, told_part}
use Rattle.tool_law.specs.Speaking.{IsSpeaking}

-- ---- over other mails

module _ {V A M N Q R : Type 0} (x : Exchange V A M Q R) (read : N → M) (write : M → N) (error : N) (v : V) (q : Q) (spells : Spells x read write) (ready : x.ready v ≡ true) (valid : x.speech.valid q ≡ true) (s : IsSpeaking x (read error) v q) where
  given_written : (w : V) (ms : List M) → EachOf (ReadsBack read write) ms → given (lifted_serve x.serve read write) w (map write ms) ≡ map write (given x.serve w ms)
  given_written w [] all = refl
  given_written w (m ∷ ms) all =
      ap (λ (k : M). map write (x.serve w k).1 ++ given (lifted_serve x.serve read write) (x.serve w k).0 (map write ms)) all.0
      ∙ ap (λ l. map write (x.serve w m).1 ++ l) (given_written (x.serve w m).0 ms all.1)
      ∙ sym (map_append write (x.serve w m).1 (given x.serve (x.serve w m).0 ms))

  plain_written : (ms : List M) → EachOf (ReadsBack read write) ms → plain (λ n. x.speech.emission (read n)) (map write ms) ≡ map write (plain x.speech.emission ms)
  plain_written [] all = refl
  plain_written (m ∷ ms) all =
      ap (λ (k : M). cond (not (x.speech.emission k)) (write m ∷ plain (λ n. x.speech.emission (read n)) (map write ms)) (plain (λ n. x.speech.emission (read n)) (map write ms))) all.0
      ∙ keep (not (x.speech.emission m)) (plain_written ms all.1)
    where
      keep : (b : Bool) → plain (λ n. x.speech.emission (read n)) (map write ms) ≡ map write (plain x.speech.emission ms) →
          cond b (write m ∷ plain (λ n. x.speech.emission (read n)) (map write ms)) (plain (λ n. x.speech.emission (read n)) (map write ms)) ≡ map write (cond b (m ∷ plain x.speech.emission ms) (plain x.speech.emission ms))
      keep true e = ap (λ l. write m ∷ l) e
      keep false e = e

  -- what is heard for a first part of the mails
  told_front : (p r : List M) → x.full v q ≡ p ++ r → EachOf (ReadsBack read write) p
  told_front p r e = each_left _ p r (subst (EachOf (ReadsBack read write)) e (spells.told v q ready valid))

  given_front : (p r : List M) → x.full v q ≡ p ++ r → EachOf (ReadsBack read write) (given x.serve v p)
  given_front p r e =
      each_left _ (given x.serve v p) (given x.serve (after x.serve v p) r) (subst (EachOf (ReadsBack read write)) (ap (given x.serve v) e ∙ given-append x.serve v p r) (spells.answered v q ready valid))

  heard_front : (p r : List M) → x.full v q ≡ p ++ r → plain (λ n. x.speech.emission (read n)) (given (lifted_serve x.serve read write) v (map write p)) ≡ map write (plain x.speech.emission (given x.serve v p))
  heard_front p r e = ap (plain (λ n. x.speech.emission (read n))) (given_written v p (told_front p r e)) ∙ plain_written (given x.serve v p) (given_front p r e)

  plain_back : (p r : List M) → x.full v q ≡ p ++ r → EachOf (ReadsBack read write) (plain x.speech.emission (given x.serve v p))
  plain_back p r e = each_filter _ (λ m. not (x.speech.emission m)) (given x.serve v p) (given_front p r e)

  goes_written : (p : List N) (m : N) (r : List N) → map write (x.full v q) ≡ p ++ m ∷ r →
      (rest : List N) × (map write (x.speech.planned q (map read (plain (λ n. x.speech.emission (read n)) (given (lifted_serve x.serve read write) v p)))) ≡ p ++ m ∷ rest)
  goes_written p m r e = by cut.rest cut.rest_is cut.whole
    where
      cut : CutBefore write (x.full v q) p (m ∷ r)
      cut = cut_before write (x.full v q) p (m ∷ r) e

      by : (others : List M) → m ∷ r ≡ map write others → x.full v q ≡ cut.front ++ others →
          (rest : List N) × (map write (x.speech.planned q (map read (plain (λ n. x.speech.emission (read n)) (given (lifted_serve x.serve read write) v p)))) ≡ p ++ m ∷ rest)
      by [] f whole = absurd (cc)
      by (k ∷ others) f whole =
          let g = s.goes_on cut.front k others whole in
          let heard = plain x.speech.emission (given x.serve v cut.front) in
          let here : plain (λ n. x.speech.emission (read n)) (given (lifted_serve x.serve read write) v p) ≡ map write heard =
          ap (λ l. plain (λ n. x.speech.emission (read n)) (given (lifted_serve x.serve read write) v l)) cut.front_is ∙ heard_front cut.front (k ∷ others) whole in
          let head : m ≡ write k = cc in (
            map write g.0,
            ap (λ l. map write (x.speech.planned q (map read l))) here ∙ ap (λ l. map write (x.speech.planned q l)) (all_back x read write heard (plain_back cut.front (k ∷ others) whole))
                ∙ ap (map write) g.1 ∙ map_append write cut.front (k ∷ g.0) ∙ (λ i. sym cut.front_is i ++ sym head i ∷ map write g.0),
          )

  few_written : (p r : List N) → map write (x.full v q) ≡ p ++ r → length (plain (λ n. x.speech.emission (read n)) (given (lifted_serve x.serve read write) v p)) ≤ length p
  few_written p r e =
      let cut = cut_before write (x.full v q) p r e in
      let heard = plain x.speech.emission (given x.serve v cut.front) in
      let here : plain (λ n. x.speech.emission (read n)) (given (lifted_serve x.serve read write) v p) ≡ map write heard =
      ap (λ l. plain (λ n. x.speech.emission (read n)) (given (lifted_serve x.serve read write) v l)) cut.front_is ∙ heard_front cut.front cut.rest cut.whole in
      let a = ap length here in
      let b = ap length cut.front_is in
      omega (arith, a, b, length-map heard write, length-map cut.front write, s.few_replies cut.front cut.rest cut.whole)

  pub lifted_speaking : IsSpeaking (lifted x read write) error v q
  lifted_speaking = record {
    few_planned = λ hs. (let f = s.few_planned (map read hs) in omega (arith, f, length-map (x.speech.planned q (map read hs)) write, length-map hs read));
    more_planned = λ hs more. subst (λ l. IsPrefixOf (map write (x.speech.planned q (map read hs))) (map write (x.speech.planned q l))) (sym (map_append read hs more)) (map_begin write _ _ (s.more_planned (map read hs) (map read more)));
    goes_on = goes_written;
    few_replies = few_written;
    refused = λ hs h more r e. ap is_some (ap (x.speech.ends q) (map_append read hs (error ∷ []))) ∙ s.refused (map read hs) (read h) (map read more) r (ap (x.speech.ends q) (sym (map_append read hs (h ∷ more))) ∙ e);
    few = (let f = s.few in omega (arith, f, length-map (x.full v q) write));
  }

-- ---- where a protocol isn't served

plain_few : {M : Type 0} (emission : M → Bool) (ms : List M) → length (plain emission ms) ≤ length ms
plain_few emission [] = omega arith
plain_few emission (m ∷ ms) = by (not (emission m)) (plain_few emission ms)
  where
    by : (b : Bool) → length (plain emission ms) ≤ length ms → length (cond b (m ∷ plain emission ms) (plain emission ms)) ≤ suc (length ms)
    by true h = omega (arith, h)
    by false h = omega (arith, h)

module _ {V A M Q R : Type 0} (x : Exchange V A M Q R) (r : Refusal V M Q R) (error : M) (v : V) (q : Q) (s : IsSpeaking x error v q) (one : length (r.asked q) ≤ 1) (first : x.speech.planned q [] ≡ r.asked q) (single : (m : M) → length (r.gives m) ≤ 1) where
  refusing_goes : (p : List M) (m : M) (rest : List M) → r.asked q ≡ p ++ m ∷ rest → (more : List M) × (x.speech.planned q (plain x.speech.emission (given (refused_serve r) v p)) ≡ p ++ m ∷ more)
  refusing_goes [] m rest e = (rest, first ∙ e)
  refusing_goes (k ∷ p) m rest e = absurd (let n = ap length e in omega (arith, one, n, length-append p (m ∷ rest)))

  refusing_few : (p rest : List M) → r.asked q ≡ p ++ rest → length (plain x.speech.emission (given (refused_serve r) v p)) ≤ length p
  refusing_few [] rest e = omega arith
  refusing_few (k ∷ []) rest e = omega (arith, plain_few x.speech.emission (r.gives k ++ []), length-append (r.gives k) [], single k)
  refusing_few (k ∷ l ∷ p) rest e = absurd (let n = ap length e in omega (arith, one, n, length-append p rest))

  pub gated_speaking : (b : Bool) → IsSpeaking (gated b x r) error v q
  gated_speaking true = s
  gated_speaking false = record { few_planned = s.few_planned; more_planned = s.more_planned; goes_on = refusing_goes; few_replies = refusing_few; refused = s.refused; few = omega (arith, one) }

-- ---- among the protocols of a slave

module _ {I J A M R : Type 0} {V Q : I → Type 0} (s : Slave J A M) (x : (i : I) → Exchange (V i) A M (Q i) R) (seat : (i : I) → J → V i) (side : (i : I) → IsSide s (x i) (seat i)) where
  pub joined_speaking : (j : J) (i : I) (q : Q i) (error : M) → s.ready j ≡ true → (x i).speech.valid q ≡ true → IsSpeaking (x i) error (seat i j) q → IsSpeaking (joined s x seat) error j (i, q)
  joined_speaking j i q error ready valid k = record {
    few_planned = k.few_planned;
    more_planned = k.more_planned;
    goes_on = λ p m r e. (let g = k.goes_on p m r e in (g.0, ap ((x i).speech.planned q) (same p (m ∷ r) e) ∙ g.1));
    few_replies = λ p r e. (let n = k.few_replies p r e in let f = ap length (same p r e) in omega (arith, n, f));
    refused = k.refused;
    few = k.few;
  }
    where
      same : (p r : List M) → (x i).full (seat i j) q ≡ p ++ r → plain s.emission (given s.serve j p) ≡ plain (x i).speech.emission (given (x i).serve (seat i j) p)
      same p r e =
          plain_same s (x i) (seat i) (side i) j p (each_left _ p r (subst (EachOf (λ m. (side i).mine m ≡ true)) e ((side i).sends (seat i j) q ((side i).ready j ready) valid))) (told_part s x seat side j (i, q) ready valid p r e)
