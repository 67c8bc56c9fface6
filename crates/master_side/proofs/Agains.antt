-- Behind a lost frame a slave's next datagram is no longer than the one that was lost.
use Rattle.std.proofs.Common.{◌≡◌, ◌≤◌, ℕ, Bool, true, false, Option, Some, None, length, refl, sym, ap, ◌∙◌, subst, arith, leb-true, leb-false, nat_le}
use Rattle.std.specs.Prelude.{◌&&◌, not, is_some, if◌then◌else◌}
use Rattle.std.proofs.lemmas.List.{length-replicate}
use Rattle.master_duty.specs.of_mailbox_mail.declared.mail.Mail.{Mail}
use Rattle.mailbox_master.specs.of_link_model.Master.{InState, InHalf, in_lost}
use Rattle.mailbox_master.specs.declared.halves.InwardHalf.{InwardHalf}
use Rattle.mailbox_master.specs.Links.{OutLink}
use Rattle.mailbox_master.specs.Any.{in_half_of, in_area_len, in_access, in_access_of}
use Rattle.mailbox_master.specs.Seat.{ReadsAs, seat_octets, text_of}
use Rattle.master_duty.specs.declared.duty.Duty.{Duty}
use Rattle.master_duty.specs.declared.stage.Errand.{Errand}
use Rattle.master_duty.specs.declared.stage.Met.{Met}
use Rattle.master_duty.specs.declared.stage.Stage.{Stage}
use Rattle.master_duty.specs.Stages.{errand_of}
use Rattle.master_side.specs.Carried.{choice_of, duty_choice, errand_choice, mails_choice, link_choice, drain_choice, in_hand, is_clear, is_read}
use Rattle.master_side.specs.Passes.{told_by}
use Rattle.master_side.specs.Sent.{gram_len}
use Rattle.master_side.specs.Again.{HoldsOn, IsOnWay, Repeats, SendsAtMost, larger, area_of, next_with, next_len, sent_len}
use Rattle.master_side.specs.declared.hand.Hand.{Ghosts}
use Rattle.master_side.specs.declared.side.Side.{Side}
use Rattle.master_side.specs.declared.carried.Carried.{Carried}
use Rattle.master_side.specs.declared.passing.Passing.{Passing}

-- THE SAME KIND AGAIN, whatever mail is held: a mail that was held still is, and without one the half isn't clear
link_same : (s : InState) (paused : Bool) (old held : Option Mail) (carried : Carried) → carried ≡ link_choice s paused old → (carried ≡ Carried.Inward → is_read s ≡ false) → (is_some old ≡ true → is_some held ≡ true) → link_choice s paused held ≡ carried
link_same InState.Clear false (Some m) (Some n) carried e r h = sym e
link_same InState.Clear false (Some m) None carried e r h = absurd (let b = h refl in cc)
link_same InState.Clear false None held carried e r h = absurd (let b = r e in cc)
link_same InState.Clear true old held carried e r h = sym e
link_same InState.Doubt paused old held carried e r h = sym e
link_same InState.Asked paused old held carried e r h = sym e
link_same InState.Refetch paused old held carried e r h = sym e

mails_same : (passing : Option Passing) (s : InState) (turn paused : Bool) (old held : Option Mail) (carried : Carried) → carried ≡ mails_choice passing s turn paused old → (carried ≡ Carried.Inward → is_read s ≡ false) → (is_some old ≡ true → is_some held ≡ true) → mails_choice passing s turn paused held ≡ carried
mails_same None s turn paused old held carried e r h = link_same s paused old held carried e r h
mails_same (Some Passing.Waiting) s turn paused old held carried e r h = link_same s paused old held carried e r h
mails_same (Some Passing.Sent) s turn paused old held carried e r h = link_same s paused old held carried e r h
mails_same (Some Passing.Boxed) s turn paused old held carried e r h = sym e
mails_same (Some Passing.Served) s turn paused old held carried e r h = link_same s paused old held carried e r h
mails_same (Some Passing.Answered) s turn paused old held carried e r h = link_same s paused old held carried e r h

duty_same : (duty : Option Duty) (passing : Option Passing) (s : InState) (turn paused : Bool) (old held : Option Mail) (carried : Carried) → carried ≡ duty_choice duty passing s turn paused old → (carried ≡ Carried.Inward → is_read s ≡ false) → (is_some old ≡ true → is_some held ≡ true) → duty_choice duty passing s turn paused held ≡ carried
duty_same None passing s turn paused old held carried e r h = mails_same passing s turn paused old held carried e r h
duty_same (Some d) passing s turn paused old held carried e r h = sym e

pub choice_same : (duty : Option Met) (passing : Option Passing) (s : InState) (turn paused : Bool) (old held : Option Mail) (carried : Carried) → carried ≡ choice_of duty passing s turn paused old → (carried ≡ Carried.Inward → is_read s ≡ false) → (is_some old ≡ true → is_some held ≡ true) → choice_of duty passing s turn paused held ≡ carried
choice_same duty passing s turn paused old held carried e r h = duty_same (in_hand duty) passing s turn paused old held carried e r h

-- WITHOUT A STATE SERVICE AND A MAIL THAT IS PASSED ON it is that of the link
pub free_choice : (duty : Option Met) (passing : Option Passing) (s : InState) (turn paused : Bool) (old : Option Mail) → in_hand duty ≡ None → passing ≡ None → choice_of duty passing s turn paused old ≡ link_choice s paused old
free_choice duty passing s turn paused old n p = λ i. duty_choice (n i) (p i) s turn paused old

-- a service by mails that comes into hand leaves it
pub mails_begin : (duty : Option Met) (passing : Option Passing) (s : InState) (turn turn' paused : Bool) (old held : Option Mail) (carried : Carried) (waits : Bool) → in_hand duty ≡ None → passing ≡ None → carried ≡ choice_of duty passing s turn paused old → (carried ≡ Carried.Inward → is_read s ≡ false) → (is_some old ≡ true → is_some held ≡ true) →
    choice_of duty (if waits then Some Passing.Waiting else None) s turn' paused held ≡ carried
mails_begin duty passing s turn turn' paused old held carried waits n p e r h = ap (λ z. duty_choice z (if waits then Some Passing.Waiting else None) s turn' paused held) n ∙ go waits
  where
    go : (z : Bool) → mails_choice (if z then Some Passing.Waiting else None) s turn' paused held ≡ carried
    go true = link_same s paused old held carried (e ∙ free_choice duty passing s turn paused old n p) r h
    go false = link_same s paused old held carried (e ∙ free_choice duty passing s turn paused old n p) r h

-- a clear half writes its mail, and another asks for the repeat
pub clear_write : (s : InState) (paused : Bool) (old : Option Mail) (carried : Carried) → carried ≡ link_choice s paused old → (carried ≡ Carried.Inward → is_read s ≡ false) → is_clear s ≡ true → (carried ≡ Carried.Write) × (paused ≡ false)
clear_write InState.Clear false (Some m) carried e r c = (e, refl)
clear_write InState.Clear false None carried e r c = absurd (let b = r e in cc)
clear_write InState.Clear true old carried e r c = absurd (let b = r e in cc)
clear_write InState.Doubt paused old carried e r c = absurd (cc)
clear_write InState.Asked paused old carried e r c = absurd (cc)
clear_write InState.Refetch paused old carried e r c = absurd (cc)

pub unclear_inward : (s : InState) (paused : Bool) (old : Option Mail) (carried : Carried) → carried ≡ link_choice s paused old → is_clear s ≡ false → carried ≡ Carried.Inward
unclear_inward InState.Clear paused old carried e c = absurd (cc)
unclear_inward InState.Doubt paused old carried e c = e
unclear_inward InState.Asked paused old carried e c = e
unclear_inward InState.Refetch paused old carried e c = e

-- a state service that comes into hand has a shorter one, or the same
pub state_most : (out : OutLink (Option Mail)) (inn : InwardHalf) (s : InState) (paused : Bool) (old : Option Mail) (carried : Carried) → carried ≡ link_choice s paused old → (carried ≡ Carried.Inward → is_read s ≡ false) → nat_le 64 out.len ≡ true → gram_len out inn (drain_choice s false) ≤ gram_len out inn carried
state_most out inn InState.Clear paused old carried e r l =
    let w = clear_write InState.Clear paused old carried e r refl in
    let m = leb-true 64 out.len l in
    subst (λ z. 1 ≤ gram_len out inn z) (sym w.0) (omega (arith, m))
state_most out inn InState.Doubt paused old carried e r l = subst (λ z. gram_len out inn Carried.Inward ≤ gram_len out inn z) (sym e) (omega arith)
state_most out inn InState.Asked paused old carried e r l = subst (λ z. gram_len out inn Carried.Inward ≤ gram_len out inn z) (sym e) (omega arith)
state_most out inn InState.Refetch paused old carried e r l = subst (λ z. gram_len out inn Carried.Inward ≤ gram_len out inn z) (sym e) (omega arith)

-- THE WRITE WAS LOST: that the mail was sent changes nothing
told_mails : (passing : Option Passing) (fresh : Bool) (s : InState) (turn paused : Bool) (old : Option Mail) → mails_choice (told_by passing fresh) s turn paused old ≡ mails_choice passing s turn paused old
told_mails None fresh s turn paused old = refl
told_mails (Some Passing.Waiting) true s turn paused old = refl
told_mails (Some Passing.Waiting) false s turn paused old = refl
told_mails (Some Passing.Sent) fresh s turn paused old = refl
told_mails (Some Passing.Boxed) fresh s turn paused old = refl
told_mails (Some Passing.Served) fresh s turn paused old = refl
told_mails (Some Passing.Answered) fresh s turn paused old = refl

told_duty : (duty : Option Duty) (passing : Option Passing) (fresh : Bool) (s : InState) (turn paused : Bool) (old : Option Mail) → duty_choice duty (told_by passing fresh) s turn paused old ≡ duty_choice duty passing s turn paused old
told_duty None passing fresh s turn paused old = told_mails passing fresh s turn paused old
told_duty (Some d) passing fresh s turn paused old = refl

pub told_choice : (duty : Option Met) (passing : Option Passing) (fresh : Bool) (s : InState) (turn paused : Bool) (old : Option Mail) → choice_of duty (told_by passing fresh) s turn paused old ≡ choice_of duty passing s turn paused old
told_choice duty passing fresh s turn paused old = told_duty (in_hand duty) passing fresh s turn paused old

-- THE INWARD HALF'S WAS LOST: it isn't clear then, and reads nothing
pub lost_unclear : (h : InHalf) (s : InState) → h.state ≡ s → (is_clear (in_lost h s).state ≡ false) × (is_read (in_lost h s).state ≡ false)
lost_unclear h InState.Clear e = (refl, refl)
lost_unclear h InState.Doubt e = (ap is_clear e, ap is_read e)
lost_unclear h InState.Asked e = (ap is_clear e, ap is_read e)
lost_unclear h InState.Refetch e = (refl, refl)

unclear_mails : (passing : Option Passing) (s : InState) (turn paused : Bool) (old : Option Mail) → is_clear s ≡ false → Carried.Inward ≡ mails_choice passing s turn paused old
unclear_mails None s turn paused old e = ap (λ z. if z && (not paused && is_some old) then Carried.Write else Carried.Inward) (sym e)
unclear_mails (Some Passing.Waiting) s turn paused old e = ap (λ z. if z && (not paused && is_some old) then Carried.Write else Carried.Inward) (sym e)
unclear_mails (Some Passing.Sent) s turn paused old e = ap (λ z. if z && (not paused && is_some old) then Carried.Write else Carried.Inward) (sym e)
unclear_mails (Some Passing.Boxed) s turn paused old e = ap (λ z. if z && not turn then Carried.Full else Carried.Inward) (sym e)
unclear_mails (Some Passing.Served) s turn paused old e = ap (λ z. if z && (not paused && is_some old) then Carried.Write else Carried.Inward) (sym e)
unclear_mails (Some Passing.Answered) s turn paused old e = ap (λ z. if z && (not paused && is_some old) then Carried.Write else Carried.Inward) (sym e)

unclear_errand : (o : Option Errand) (s z : InState) (turn : Bool) → Carried.Inward ≡ errand_choice o s turn → is_clear z ≡ false → Carried.Inward ≡ errand_choice o z turn
unclear_errand None s z turn c e = ap (λ b. if b && not turn then Carried.Full else Carried.Inward) (sym e)
unclear_errand (Some errand) s z turn c e = c

unclear_duty : (duty : Option Duty) (passing : Option Passing) (s z : InState) (turn paused : Bool) (old : Option Mail) → Carried.Inward ≡ duty_choice duty passing s turn paused old → is_clear z ≡ false → Carried.Inward ≡ duty_choice duty passing z turn paused old
unclear_duty None passing s z turn paused old c e = unclear_mails passing z turn paused old e
unclear_duty (Some d) passing s z turn paused old c e = unclear_errand (errand_of d.stage) s z turn c e

pub inward_again : (duty : Option Met) (passing : Option Passing) (s z : InState) (turn paused : Bool) (old : Option Mail) → Carried.Inward ≡ choice_of duty passing s turn paused old → is_clear z ≡ false → Carried.Inward ≡ choice_of duty passing z turn paused old
inward_again duty passing s z turn paused old c e = unclear_duty (in_hand duty) passing s z turn paused old c e

unread_len : (len : ℕ) (bit : Bool) (s : InState) → is_read s ≡ false → length (in_access len bit s).octets ≡ 1
unread_len len bit InState.Clear e = absurd (cc)
unread_len len bit InState.Doubt e = refl
unread_len len bit InState.Asked e = refl
unread_len len bit InState.Refetch e = absurd (cc)

some_len : (len : ℕ) (bit : Bool) (s : InState) → 64 ≤ len → 1 ≤ length (in_access len bit s).octets
some_len len bit InState.Clear l = let n = length-replicate {A = ℕ} len 0 in omega (arith, n, l)
some_len len bit InState.Doubt l = omega arith
some_len len bit InState.Asked l = omega arith
some_len len bit InState.Refetch l = let n = length-replicate {A = ℕ} len 0 in omega (arith, n, l)

pub inward_shorter : (inn inn' : InwardHalf) → nat_le 64 (in_area_len inn) ≡ true → is_read (in_half_of inn').state ≡ false → length (in_access_of inn').octets ≤ length (in_access_of inn).octets
inward_shorter inn inn' l r =
    let a = unread_len (in_area_len inn') (in_half_of inn').bit (in_half_of inn').state r in
    let b = some_len (in_area_len inn) (in_half_of inn).bit (in_half_of inn).state (leb-true 64 (in_area_len inn) l) in
    omega (arith, a, b)

-- how long the inward half's is at most
pub inward_most : (inn : InwardHalf) → nat_le 64 (in_area_len inn) ≡ true → length (in_access_of inn).octets ≤ in_area_len inn
inward_most inn l = go (in_half_of inn).state
  where
    go : (s : InState) → length (in_access (in_area_len inn) (in_half_of inn).bit s).octets ≤ in_area_len inn
    go InState.Clear = let n = length-replicate {A = ℕ} (in_area_len inn) 0 in omega (arith, n)
    go InState.Doubt = let m = leb-true 64 (in_area_len inn) l in omega (arith, m)
    go InState.Asked = let m = leb-true 64 (in_area_len inn) l in omega (arith, m)
    go InState.Refetch = let n = length-replicate {A = ℕ} (in_area_len inn) 0 in omega (arith, n)

-- A MAIL THAT IS HELD where none was leaves what the next visit sends
len_same : (out out' : OutLink (Option Mail)) (inn inn' : InwardHalf) → out'.len ≡ out.len → inn' ≡ inn → (k : Carried) → gram_len out' inn' k ≡ gram_len out inn k
len_same out out' inn inn' l e Carried.Nothing = refl
len_same out out' inn inn' l e Carried.Write = l
len_same out out' inn inn' l e Carried.Inward = ap (λ z. length (in_access_of z).octets) e
len_same out out' inn inn' l e Carried.Full = refl
len_same out out' inn inn' l e Carried.Control = refl
len_same out out' inn inn' l e Carried.Status = refl

-- NO DATAGRAM IS LONGER than the larger mailbox
larger_out : (a b n : ℕ) → n ≤ a → n ≤ larger a b
larger_out a b n l = go (nat_le a b) refl
  where
    go : (z : Bool) → nat_le a b ≡ z → n ≤ (if z then b else a)
    go true e = let m = leb-true a b e in omega (arith, m, l)
    go false e = l

larger_back : (a b n : ℕ) → n ≤ b → n ≤ larger a b
larger_back a b n l = go (nat_le a b) refl
  where
    go : (z : Bool) → nat_le a b ≡ z → n ≤ (if z then b else a)
    go true e = l
    go false e = let m = leb-false a b e in omega (arith, m, l)

-- the octets of a mail held
pub seat_len : (out : OutLink (Option Mail)) → ((m : Mail) → out.state ≡ Some m → ReadsAs out.len m) → length (seat_octets out) ≡ out.len
seat_len out reads = go out.state refl
  where
    go : (o : Option Mail) → out.state ≡ o → length (text_of out.len o) ≡ out.len
    go None e = length-replicate {A = ℕ} out.len 0
    go (Some m) e = (reads m e).1

pub never : true ≡ false → ⊥
never e = absurd (cc)

module _ {H : Type 0} {G : Ghosts H} where
  with_same : (s t : Side H G) → HoldsOn s t → (held : Option Mail) → next_with t held ≡ next_with s held
  with_same s t k held = λ i. choice_of (k.duty i) (k.passing i) (in_half_of (k.inn i)).state (k.turn i) (k.paused i) held

  pub holds_most : (s t : Side H G) (n : ℕ) → HoldsOn s t → SendsAtMost n s → SendsAtMost n t
  holds_most s t n k m = λ held h. subst (λ z. z ≤ n) (sym (len_same s.out t.out s.inn t.inn k.len k.inn (next_with t held) ∙ ap (gram_len s.out s.inn) (with_same s t k held))) (m held (λ b. h (k.held b)))

  pub holds_again : (s t : Side H G) → HoldsOn s t → Repeats s → Repeats t
  holds_again s t k r = record {
    same = k.carried ∙ sym (choice_same s.duty s.passing (in_half_of s.inn).state s.turn s.paused s.out.state t.out.state s.carried r.same r.unread k.held) ∙ sym (with_same s t k t.out.state);
    unread = λ e. ap (λ z. is_read (in_half_of z).state) k.inn ∙ r.unread (sym k.carried ∙ e);
  }

  pub holds_len : (s t : Side H G) → HoldsOn s t → sent_len t ≡ sent_len s
  holds_len s t k = len_same s.out t.out s.inn t.inn k.len k.inn t.carried ∙ ap (gram_len s.out s.inn) k.carried

  pub again_most : (s : Side H G) → Repeats s → SendsAtMost (sent_len s) s
  again_most s r = λ held h. let e = ap (gram_len s.out s.inn) (choice_same s.duty s.passing (in_half_of s.inn).state s.turn s.paused s.out.state held s.carried r.same r.unread h) in omega (arith, e)

  pub again_len : (s : Side H G) → Repeats s → next_len s ≡ sent_len s
  again_len s r = ap (gram_len s.out s.inn) (sym r.same)

  -- A SERVICE THAT COMES INTO HAND there has no longer one
  pub mails_most : (s : Side H G) (passing : Option Passing) (waits : Bool) → passing ≡ (if waits then Some Passing.Waiting else None) → in_hand s.duty ≡ None → s.passing ≡ None → Repeats s → (held : Option Mail) → (is_some s.out.state ≡ true → is_some held ≡ true) →
      gram_len s.out s.inn (choice_of s.duty passing (in_half_of s.inn).state false s.paused held) ≤ sent_len s
  mails_most s passing waits e n p r held h =
      let same = ap (gram_len s.out s.inn) (ap (λ z. choice_of s.duty z (in_half_of s.inn).state false s.paused held) e ∙ mails_begin s.duty s.passing (in_half_of s.inn).state s.turn false s.paused s.out.state held s.carried waits n p r.same r.unread h) in
      omega (arith, same)

  pub drains_most : (s : Side H G) (d : Duty) → d.stage ≡ Stage.Drain → in_hand s.duty ≡ None → s.passing ≡ None → Repeats s → (held : Option Mail) → gram_len s.out s.inn (choice_of (Some (Met.On d)) s.passing (in_half_of s.inn).state false s.paused held) ≤ sent_len s
  drains_most s d e n p r held =
      subst (λ z. gram_len s.out s.inn (errand_choice (errand_of z) (in_half_of s.inn).state false) ≤ sent_len s) (sym e)
      (state_most s.out s.inn (in_half_of s.inn).state s.paused s.out.state s.carried (r.same ∙ free_choice s.duty s.passing (in_half_of s.inn).state s.turn s.paused s.out.state n p) r.unread s.out_least)

  link_is : (s : Side H G) → in_hand s.duty ≡ None → s.passing ≡ None → Repeats s → s.carried ≡ link_choice (in_half_of s.inn).state s.paused s.out.state
  link_is s n p r = r.same ∙ free_choice s.duty s.passing (in_half_of s.inn).state s.turn s.paused s.out.state n p

  -- before one comes into hand
  pub asks_again : (s : Side H G) → in_hand s.duty ≡ None → s.passing ≡ None → Repeats s → is_clear (in_half_of s.inn).state ≡ false → gram_len s.out s.inn Carried.Inward ≡ sent_len s
  asks_again s n p r u = ap (gram_len s.out s.inn) (sym (unclear_inward (in_half_of s.inn).state s.paused s.out.state s.carried (link_is s n p r) u))

  pub writes_again : (s : Side H G) → in_hand s.duty ≡ None → s.passing ≡ None → Repeats s → is_clear (in_half_of s.inn).state ≡ true → (gram_len s.out s.inn Carried.Write ≡ sent_len s) × (s.paused ≡ false) × (1 ≤ sent_len s)
  writes_again s n p r u =
      let w = clear_write (in_half_of s.inn).state s.paused s.out.state s.carried (link_is s n p r) r.unread u in
      let e = ap (gram_len s.out s.inn) (sym w.0) in
      let l = leb-true 64 s.out.len s.out_least in
      (e, w.1, omega (arith, e, l))

  -- WHAT WAS LOST
  pub kept_lost : (s t : Side H G) → t.out ≡ s.out → t.inn ≡ s.inn → t.duty ≡ s.duty → t.carried ≡ s.carried → t.turn ≡ s.turn → t.paused ≡ s.paused → t.passing ≡ told_by s.passing s.fresh → (s.carried ≡ Carried.Inward → ⊥) → IsOnWay s → Repeats t × (sent_len t ≤ sent_len s)
  kept_lost s t o i d k u a p n w = (
    record {
      same = k ∙ w ∙ sym (told_choice s.duty s.passing s.fresh (in_half_of s.inn).state s.turn s.paused s.out.state) ∙ (λ j. choice_of ((sym d) j) ((sym p) j) (in_half_of ((sym i) j)).state ((sym u) j) ((sym a) j) ((sym o) j).state);
      unread = λ e. absurd (n (sym k ∙ e));
    },
    (let same : sent_len t ≡ sent_len s = λ j. gram_len (o j) (i j) (k j) in omega (arith, same)),
  )

  pub same_lost : (s : Side H G) → (s.carried ≡ Carried.Inward → ⊥) → IsOnWay s → Repeats s × (sent_len s ≤ sent_len s)
  same_lost s n w = (record { same = w; unread = λ e. absurd (n e) }, omega arith)

  pub inward_lost : (s t : Side H G) → t.out ≡ s.out → in_half_of t.inn ≡ in_lost (in_half_of s.inn) (in_half_of s.inn).state → t.duty ≡ s.duty → t.carried ≡ s.carried → t.turn ≡ s.turn → t.paused ≡ s.paused → t.passing ≡ s.passing → s.carried ≡ Carried.Inward → IsOnWay s → Repeats t × (sent_len t ≤ sent_len s)
  inward_lost s t o i d k u a p c w =
      let h = in_half_of s.inn in
      let z = lost_unclear h h.state refl in
      let clear : is_clear (in_half_of t.inn).state ≡ false = ap (λ (y : InHalf). is_clear y.state) i ∙ z.0 in
      let read : is_read (in_half_of t.inn).state ≡ false = ap (λ (y : InHalf). is_read y.state) i ∙ z.1 in
      let here : sent_len t ≡ length (in_access_of t.inn).octets = ap (gram_len t.out t.inn) (k ∙ c) in
      let there : sent_len s ≡ length (in_access_of s.inn).octets = ap (gram_len s.out s.inn) c in
      let shorter = inward_shorter s.inn t.inn s.in_least read in (
        record {
          same = k ∙ c ∙ inward_again s.duty s.passing h.state (in_half_of t.inn).state s.turn s.paused s.out.state (sym c ∙ w) clear ∙ (λ j. choice_of ((sym d) j) ((sym p) j) (in_half_of t.inn).state ((sym u) j) ((sym a) j) ((sym o) j).state);
          unread = λ e. read;
        },
        omega (arith, here, there, shorter),
      )

  -- no datagram of a side is
  pub len_most : (s : Side H G) (k : Carried) → gram_len s.out s.inn k ≤ area_of s
  len_most s Carried.Nothing = omega arith
  len_most s Carried.Write = larger_out s.out.len (in_area_len s.inn) s.out.len (omega arith)
  len_most s Carried.Inward = larger_back s.out.len (in_area_len s.inn) (length (in_access_of s.inn).octets) (inward_most s.inn s.in_least)
  len_most s Carried.Full = larger_out s.out.len (in_area_len s.inn) 1 (let l = leb-true 64 s.out.len s.out_least in omega (arith, l))
  len_most s Carried.Control = larger_out s.out.len (in_area_len s.inn) 2 (let l = leb-true 64 s.out.len s.out_least in omega (arith, l))
  len_most s Carried.Status = larger_out s.out.len (in_area_len s.inn) 6 (let l = leb-true 64 s.out.len s.out_least in omega (arith, l))

  -- a mail that is held leaves that length
  pub area_same : (s t : Side H G) → t.out.len ≡ s.out.len → in_area_len t.inn ≡ in_area_len s.inn → area_of t ≡ area_of s
  area_same s t o i = λ j. larger (o j) (i j)

  pub least_area : (s : Side H G) → 64 ≤ area_of s
  least_area s = larger_out s.out.len (in_area_len s.inn) 64 (leb-true 64 s.out.len s.out_least)
