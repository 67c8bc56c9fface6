-- NOTHING COMES INTO HAND at a visit without a datagram, where the frame's room was asked for it.
use Rattle.std.proofs.Common.{◌≡◌, ◌≤◌, ◌-◌, ℕ, Bool, true, false, Option, Some, length, refl, ap, ◌∙◌, subst, arith, leb-true, nat_le, List}
use Rattle.std.specs.Prelude.{◌&&◌, not, if◌then◌else◌}
use Rattle.std.proofs.lemmas.List.{length-replicate}
use Rattle.master_side.specs.of_link_model.Master.{InState}
use Rattle.master_side.specs.of_mailbox_mail.declared.mail.Mail.{Mail}
use Rattle.master_side.specs.of_mailbox_master.declared.halves.InwardHalf.{InwardHalf}
use Rattle.master_side.specs.of_mailbox_master.Links.{OutLink}
use Rattle.master_side.specs.of_mailbox_master.Any.{in_half_of, in_area_len, in_access, in_access_of}
use Rattle.master_side.specs.Again.{HasNoRoom}
use Rattle.master_side.specs.Carried.{is_clear}
use Rattle.master_side.specs.First.{HoldsFirst, first_by, first_of}
use Rattle.master_side.specs.Free.{is_free_side}
use Rattle.master_side.specs.Sent.{gram_len}
use Rattle.master_side.specs.declared.carried.Carried.{Carried}
use Rattle.master_side.specs.declared.carried.Wish.{Wish}
use Rattle.master_side.specs.declared.hand.Hand.{Ghosts}
use Rattle.master_side.specs.declared.side.Side.{Side}
use Rattle.master_tour.specs.First.{FitsFirst, LacksFirst}
use Rattle.master_tour.specs.declared.stop.Stand.{Stand}
use Rattle.master_tour.specs.declared.stop.Stop.{Stop}

-- a datagram has octets
some_in : (len : ℕ) (bit : Bool) (s : InState) → 64 ≤ len → 1 ≤ length (in_access len bit s).octets
some_in len bit InState.Clear l = let n = length-replicate {A = ℕ} len 0 in omega (arith, n, l)
some_in len bit InState.Doubt l = omega arith
some_in len bit InState.Asked l = omega arith
some_in len bit InState.Refetch l = let n = length-replicate {A = ℕ} len 0 in omega (arith, n, l)

some_inward : (inn : InwardHalf) → nat_le 64 (in_area_len inn) ≡ true → 1 ≤ length (in_access_of inn).octets
some_inward inn l = some_in (in_area_len inn) (in_half_of inn).bit (in_half_of inn).state (leb-true 64 (in_area_len inn) l)

some_by : (out : OutLink (Option Mail)) (inn : InwardHalf) (b : Bool) (k : Carried) → 1 ≤ gram_len out inn k → nat_le 64 (in_area_len inn) ≡ true → 1 ≤ gram_len out inn (if b then k else Carried.Inward)
some_by out inn true k m l = m
some_by out inn false k m l = some_inward inn l

len_is : (out out' : OutLink (Option Mail)) (inn inn' : InwardHalf) → out'.len ≡ out.len → inn' ≡ inn → (k : Carried) → gram_len out' inn' k ≡ gram_len out inn k
len_is out out' inn inn' l e Carried.Nothing = refl
len_is out out' inn inn' l e Carried.Write = l
len_is out out' inn inn' l e Carried.Inward = ap (λ z. length (in_access_of z).octets) e
len_is out out' inn inn' l e Carried.Full = refl
len_is out out' inn inn' l e Carried.Control = refl
len_is out out' inn inn' l e Carried.Status = refl

no_lack : (octets : List ℕ) (n : ℕ) → 1 ≤ n → n ≤ 1514 - length octets - 12 → HasNoRoom octets n → ⊥
no_lack octets n some fits lacks = omega (arith, some, fits, lacks)

module _ {H : Type 0} {G : Ghosts H} where
  -- so has that with which a service begins
  pub some_first : (s : Side H G) (w : Wish) → nat_le 64 s.out.len ≡ true → nat_le 64 (in_area_len s.inn) ≡ true → 1 ≤ first_of s w
  some_first s Wish.Mails out inn = some_by s.out s.inn (is_clear (in_half_of s.inn).state && not s.paused) Carried.Write (let l = leb-true 64 s.out.len out in omega (arith, l)) inn
  some_first s (Wish.State target) out inn = some_by s.out s.inn (is_clear (in_half_of s.inn).state) Carried.Full (omega arith) inn

  -- by these of a side alone
  pub first_same : (s t : Side H G) (w : Wish) → t.out.len ≡ s.out.len → t.inn ≡ s.inn → t.paused ≡ s.paused → first_of t w ≡ first_of s w
  first_same s t w l i p =
      len_is s.out t.out s.inn t.inn l i (first_by (in_half_of t.inn).state t.paused w)
      ∙ ap (λ z. gram_len s.out s.inn (first_by (in_half_of z).state t.paused w)) i
      ∙ ap (λ z. gram_len s.out s.inn (first_by (in_half_of s.inn).state z w)) p

  -- a visit whose service had room has a datagram, where a mail of it is held
  pub has_datagram : (octets : List ℕ) (w : Wish) (s t u : Stop H G) → s.stand ≡ Stand.Open → is_free_side s.side ≡ true → nat_le 64 s.side.out.len ≡ true → nat_le 64 (in_area_len s.side.inn) ≡ true →
      FitsFirst octets (Some w) s → t.side.out.len ≡ s.side.out.len → t.side.inn ≡ s.side.inn → t.side.paused ≡ s.side.paused →
      LacksFirst octets true (Some w) t u → u.under ≡ false → HoldsFirst w u.side.out.state → ⊥
  has_datagram octets w s t u o f out inn fits l i p lacks under held =
      no_lack octets (first_of s.side w) (some_first s.side w out inn) (fits o f w refl) (subst (λ n. HasNoRoom octets n) (first_same s.side t.side w l i p) (lacks refl under w refl held))
