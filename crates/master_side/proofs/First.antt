-- The datagram with which a service begins.
use Rattle.std.proofs.Common.{◌≡◌, Bool, true, false, Option, Some, None, refl, ap, ◌∙◌}
use Rattle.std.specs.Prelude.{is_some, if◌then◌else◌}
use Rattle.master_duty.specs.of_mailbox_mail.declared.mail.Mail.{Mail}
use Rattle.mailbox_master.specs.of_link_model.Master.{InState}
use Rattle.mailbox_master.specs.Any.{in_half_of}
use Rattle.mailbox_master.specs.Links.{OutLink}
use Rattle.mailbox_master.specs.declared.halves.InwardHalf.{InwardHalf}
use Rattle.master_duty.specs.declared.duty.Duty.{Duty}
use Rattle.master_duty.specs.declared.stage.Met.{Met}
use Rattle.master_duty.specs.declared.stage.Stage.{Stage}
use Rattle.master_duty.specs.Stages.{errand_of}
use Rattle.master_side.specs.Again.{HoldsOn}
use Rattle.master_side.specs.Carried.{choice_of, duty_choice, errand_choice, drain_choice, in_hand, link_choice, mails_choice}
use Rattle.master_side.specs.First.{SendsFirst, first_by}
use Rattle.master_side.specs.Sent.{gram_len}
use Rattle.master_side.specs.declared.carried.Target.{Target}
use Rattle.master_side.specs.declared.carried.Wish.{Wish}
use Rattle.master_side.specs.declared.hand.Hand.{Ghosts}
use Rattle.master_side.specs.declared.passing.Passing.{Passing}
use Rattle.master_side.specs.declared.side.Side.{Side}

link_first : (s : InState) (paused : Bool) (held : Option Mail) → is_some held ≡ true → link_choice s paused held ≡ first_by s paused Wish.Mails
link_first InState.Clear paused None e = absurd (cc)
link_first InState.Clear true (Some m) e = refl
link_first InState.Clear false (Some m) e = refl
link_first InState.Doubt paused held e = refl
link_first InState.Asked paused held e = refl
link_first InState.Refetch paused held e = refl

-- mails
pub mails_first : (duty : Option Met) (s : InState) (turn paused : Bool) (held : Option Mail) (waits : Bool) → in_hand duty ≡ None → is_some held ≡ true → choice_of duty (if waits then Some Passing.Waiting else None) s turn paused held ≡ first_by s paused Wish.Mails
mails_first duty s turn paused held waits n e = ap (λ z. duty_choice z (if waits then Some Passing.Waiting else None) s turn paused held) n ∙ go waits
  where
    go : (z : Bool) → mails_choice (if z then Some Passing.Waiting else None) s turn paused held ≡ first_by s paused Wish.Mails
    go true = link_first s paused held e
    go false = link_first s paused held e

pub mails_at : (out : OutLink (Option Mail)) (inn : InwardHalf) (duty : Option Met) (passing : Option Passing) (s : InState) (turn paused : Bool) (held : Option Mail) (waits : Bool) → passing ≡ (if waits then Some Passing.Waiting else None) → in_hand duty ≡ None → is_some held ≡ true →
    gram_len out inn (choice_of duty passing s turn paused held) ≡ gram_len out inn (first_by s paused Wish.Mails)
mails_at out inn duty passing s turn paused held waits p n e = ap (λ z. gram_len out inn (choice_of duty z s turn paused held)) p ∙ ap (gram_len out inn) (mails_first duty s turn paused held waits n e)

-- a change of state
drain_first : (s : InState) (paused : Bool) (target : Target) → drain_choice s false ≡ first_by s paused (Wish.State target)
drain_first InState.Clear paused target = refl
drain_first InState.Doubt paused target = refl
drain_first InState.Asked paused target = refl
drain_first InState.Refetch paused target = refl

pub state_first : (duty : Duty) (passing : Option Passing) (s : InState) (paused : Bool) (held : Option Mail) (target : Target) → duty.stage ≡ Stage.Drain → choice_of (Some (Met.On duty)) passing s false paused held ≡ first_by s paused (Wish.State target)
state_first duty passing s paused held target e = ap (λ z. errand_choice (errand_of z) s false) e ∙ drain_first s paused target

pub wish_mails : (w : Wish) → Some Wish.Mails ≡ Some w → Wish.Mails ≡ w
wish_mails w e = cc

pub wish_state : (target : Target) (w : Wish) → Some (Wish.State target) ≡ Some w → Wish.State target ≡ w
wish_state target w e = cc

-- where a mail is taken up behind it
module _ {H : Type 0} {G : Ghosts H} where
  pub holds_first : (s m t : Side H G) (began : Bool) (wish : Option Wish) → HoldsOn m t → SendsFirst s m began wish → SendsFirst s t began wish
  holds_first s m t began wish k f = λ b w e held h. (λ i. gram_len (record t.out { len = k.len i }) (k.inn i) (choice_of (k.duty i) (k.passing i) (in_half_of (k.inn i)).state (k.turn i) (k.paused i) held)) ∙ f b w e held h
