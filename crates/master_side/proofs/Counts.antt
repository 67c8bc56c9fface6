-- A side knows whether an empty read counts, frame by frame.
use Rattle.std.proofs.Common.{◌≡◌, ℕ, suc, ◌+◌, ◌*◌, ◌/◌, ◌%◌, ◌<◌, ◌≤◌, ◌==◌, List, Bool, true, false, Option, Some, None, refl, sym, ap, ◌∙◌, subst, eq-eqb, eqb-true, arith, inl, inr}
use Rattle.std.specs.Prelude.{◌&&◌, not, nat_lt, if◌then◌else◌}
use Rattle.std.proofs.Math.Nat.{mod-lt, mod-eq_of_lt, suc-mod, mod_self, mod-add-div', div-mul-le_self, div-eq_of_lt-le}
use Rattle.std.proofs.lemmas.Nat.{le-div}
use Rattle.std.proofs.lemmas.Bool.{cases_lt}
use Rattle.std.proofs.lemmas.Bool.Decides.{nat_tests}
use Rattle.frame_view.specs.View.{link_counter}
use Rattle.mailbox_master.specs.of_link_mails.Body.{Body}
use Rattle.mailbox_master.specs.of_link_model.Frames.{Ask, in_ask}
use Rattle.mailbox_master.specs.of_link_model.Master.{InState}
use Rattle.master_duty.specs.of_segment_model.Record as Record
use Rattle.master_duty.specs.of_segment_model.Record.{did_read}
use Rattle.master_duty.specs.of_segment_model.Seats.{Side}
use Rattle.master_duty.specs.of_segment_model.Slaves.{Datagram, Access, grams}
use Rattle.master_duty.specs.Reply.{Reply}
use Rattle.master_side.specs.Carried.{Asks, Meant, IsBack, one, is_read}
use Rattle.master_side.specs.Passing.{counts_at, read_behind}
use Rattle.master_side.specs.declared.carried.Carried.{Carried}
use Rattle.master_side.specs.Counts.{counts_behind, CountsAt}

-- where no step comes behind this frame the remainder grows by one
mod_on : (pace made : ℕ) → 1 ≤ pace → (suc made % pace == 0) ≡ false → suc made % pace ≡ suc (made % pace)
mod_on pace made p e = elim (cases_lt (suc (made % pace)) pace) [
  | inl less ↦ suc-mod made pace ∙ mod-eq_of_lt less
  | inr more ↦ absurd (
      let less : made % pace < pace = mod-lt made (omega (arith, p)) in
      let same : suc (made % pace) ≡ pace = omega (arith, less, more) in
      let none : suc made % pace ≡ 0 = suc-mod made pace ∙ ap (λ z. z % pace) same ∙ mod_self pace in
      let is : (suc made % pace == 0) ≡ true = ap (λ z. z == 0) none in
      cc)
]

-- where one does it is the greatest
mod_full : (pace made : ℕ) → 1 ≤ pace → suc made % pace ≡ 0 → suc (made % pace) ≡ pace
mod_full pace made p e = elim (cases_lt (suc (made % pace)) pace) [
  | inl less ↦ absurd (let bad : suc (made % pace) ≡ 0 = sym (suc-mod made pace ∙ mod-eq_of_lt less) ∙ e in cc)
  | inr more ↦ let less : made % pace < pace = mod-lt made (omega (arith, p)) in omega (arith, less, more)
]

-- no step: the quotient stays
div_still : (pace made : ℕ) → 1 ≤ pace → (suc made % pace == 0) ≡ false → suc made / pace ≡ made / pace
div_still pace made p e =
    let on = mod_on pace made p e in
    let less : suc made % pace < pace = mod-lt (suc made) (omega (arith, p)) in
    let whole : made % pace + made / pace * pace ≡ made = mod-add-div' made pace in
    div-eq_of_lt-le {k = made / pace} pace {m = suc made} (omega (arith, whole)) (omega (arith, whole, on, less))

-- a step: it grows
div_grows : (pace made : ℕ) → 1 ≤ pace → suc made % pace ≡ 0 → made / pace < suc made / pace
div_grows pace made p e =
    let full = mod_full pace made p e in
    let whole : made % pace + made / pace * pace ≡ made = mod-add-div' made pace in
    le-div (suc (made / pace)) (suc made) pace (omega (arith, p)) (omega (arith, whole, full))

div_most : (pace at made : ℕ) → 1 ≤ pace → at ≤ made → at / pace ≤ made / pace
div_most pace at made p l = le-div (at / pace) made pace (omega (arith, p)) (omega (arith, l, div-mul-le_self at pace))

-- by the frame of the last done read
at_on : (pace at made : ℕ) → 1 ≤ pace → at ≤ made → counts_at (Some at) pace (suc made) ≡ (if suc made % pace == 0 then true else counts_at (Some at) pace made)
at_on pace at made p l = go (suc made % pace == 0) refl
  where
    go : (z : Bool) → (suc made % pace == 0) ≡ z → nat_lt (at / pace) (suc made / pace) ≡ (if z then true else nat_lt (at / pace) (made / pace))
    go true e = (let grows = div_grows pace made p (eqb-true (suc made % pace) 0 e) in let most = div_most pace at made p l in grind (arith, nat_tests, grows, most))
    go false e = ap (λ z. nat_lt (at / pace) z) (div_still pace made p e)

any_on : (pace made : ℕ) (at : Option ℕ) (counts : Bool) → 1 ≤ pace → CountsAt at pace made counts → CountsAt at pace (suc made) (if suc made % pace == 0 then true else counts)
any_on pace made None counts p k = record { is = go (suc made % pace == 0); early = tt }
  where
    go : (z : Bool) → true ≡ (if z then true else counts)
    go true = refl
    go false = k.is
any_on pace made (Some at) counts p k = record {
  is = at_on pace at made p (let l : at < made = k.early in omega (arith, l)) ∙ ap (λ c. if suc made % pace == 0 then true else c) k.is;
  early = (let l : at < made = k.early in let m : at < suc made = omega (arith, l) in m);
}

and_true : (b : Bool) → b && true ≡ b
and_true true = refl
and_true false = refl

and_false : (b : Bool) → b && false ≡ false
and_false true = refl
and_false false = refl

-- without a done read of its own
pub still_counts : (station pace made : ℕ) (at : Option ℕ) (counts : Bool) (back : List (Datagram Body)) → 1 ≤ pace → did_read station (grams back) ≡ false → CountsAt at pace made counts → CountsAt at pace (suc made) (counts_behind station pace made back counts)
still_counts station pace made at counts back p n k =
    subst (λ (z : Bool). CountsAt at pace (suc made) (if suc made % pace == 0 then true else z)) (sym (ap (λ z. counts && not z) n ∙ and_true counts)) (any_on pace made at counts p k)

-- behind one
pub read_counts : (station pace made : ℕ) (counts : Bool) (back : List (Datagram Body)) → 1 ≤ pace → did_read station (grams back) ≡ true → CountsAt (Some made) pace (suc made) (counts_behind station pace made back counts)
read_counts station pace made counts back p n = record {
  is = at_on pace made made p (omega arith) ∙ ap (λ (c : Bool). if suc made % pace == 0 then true else c) (equal ∙ sym (ap (λ z. counts && not z) n ∙ and_false counts));
  early = (let m : made < suc made = omega arith in m);
}
  where
    equal : nat_lt (made / pace) (made / pace) ≡ false
    equal = grind (arith, nat_tests)

module _ {Q : Type 0} (station pace made : ℕ) (at : Option ℕ) (counts : Bool) (d : Side Body Q Reply) (b : Datagram Body) (counter : ℕ) (octets : List ℕ) where
  -- this datagram, of its own station, is a read that was done
  abbrev reads_by : Bool → Ask Body → ℕ → Bool
  reads_by mine ask n = if mine && Record.is_read ask && not (n == 0) then true else false

  -- behind its own datagram
  pub back_counts : (carried : Carried) (due : Option Access) → 1 ≤ pace → CountsAt at pace made counts → Meant station carried d.halves due b → IsBack counter octets b →
      CountsAt (read_behind carried d.halves.inn.state counter made at) pace (suc made) (counts_behind station pace made (one b) counts)
  back_counts carried due p k w i = go carried w.asks
    where
      Goal : Option ℕ → Type 0
      Goal after = CountsAt after pace (suc made) (counts_behind station pace made (one b) counts)

      -- no read
      other : (ask : Ask Body) → b.gram.ask ≡ ask → Record.is_read ask ≡ false → Goal at
      other ask e n = still_counts station pace made at counts (one b) p (ap (λ a. reads_by (b.gram.station == station) a b.gram.counter) e ∙ ap (λ r. if (b.gram.station == station) && r && not (b.gram.counter == 0) then true else false) n ∙ never (b.gram.station == station) (not (b.gram.counter == 0))) k
        where
          never : (m z : Bool) → (if m && false && z then true else false) ≡ false
          never true z = refl
          never false z = refl

      -- a read: done or not
      read : b.gram.ask ≡ Ask.ReadMail → Goal (if not (counter == 0) then Some made else at)
      read e = done (counter == 0) refl
        where
          same : b.gram.counter ≡ counter
          same = i.counted ∙ ap (λ a. link_counter a counter) e

          reads : did_read station (grams (one b)) ≡ (if not (counter == 0) then true else false)
          reads = ap (λ m. reads_by m b.gram.ask b.gram.counter) (eq-eqb b.gram.station station w.station_is) ∙ ap (λ a. reads_by true a b.gram.counter) e ∙ ap (λ n. reads_by true Ask.ReadMail n) same

          done : (z : Bool) → (counter == 0) ≡ z → Goal (if not (counter == 0) then Some made else at)
          done true f = subst (λ (z : Bool). Goal (if not z then Some made else at)) (sym f) (still_counts station pace made at counts (one b) p (reads ∙ ap (λ (z : Bool). if not z then true else false) f) k)
          done false f = subst (λ (z : Bool). Goal (if not z then Some made else at)) (sym f) (read_counts station pace made counts (one b) p (reads ∙ ap (λ (z : Bool). if not z then true else false) f))

      inward : (s : InState) (bit : Bool) → b.gram.ask ≡ in_ask s bit → Goal (if is_read s && not (counter == 0) then Some made else at)
      inward InState.Clear bit e = read e
      inward InState.Doubt bit e = other (Ask.WriteRequest bit) e refl
      inward InState.Asked bit e = other Ask.ReadAcknowledge e refl
      inward InState.Refetch bit e = read e

      go : (c : Carried) → Asks c d.halves due b.gram.ask b.access → Goal (read_behind c d.halves.inn.state counter made at)
      go Carried.Nothing t = absurd t
      go Carried.Write (m, e, h, z) = other (Ask.WriteMail m) e refl
      go Carried.Inward (e, z) = inward d.halves.inn.state d.halves.inn.bit e
      go Carried.Full (e, z) = other Ask.Other e refl
      go Carried.Control (t, g, e, u, z) = other Ask.Other e refl
      go Carried.Status (e, u, z) = other Ask.Other e refl
