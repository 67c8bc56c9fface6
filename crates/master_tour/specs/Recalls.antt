-- WHAT A VISIT OF AN OPEN SLAVE LEAVES TO DO, where its hand knows the mails of its service.
use Rattle.std.specs.Prelude.{◌≡◌, Bool, true, false, Option, None, []}
use Rattle.master_side.specs.of_exchange_model.Exchange.{Speech}
use Rattle.master_side.specs.of_link_mails.Body.{Body}
use Rattle.master_side.specs.of_segment_model.Seats.{Side, next_mail}
use Rattle.master_side.specs.of_state_model.Accounts.{Account, is_free, is_acknowledged}
use Rattle.master_side.specs.Carried.{in_hand}
use Rattle.master_side.specs.Recall.{BeginsNone}
use Rattle.master_side.specs.declared.carried.Wish.{Wish}
use Rattle.master_side.specs.declared.passing.Passing.{Passing}
use Rattle.master_side.specs.of_mailbox_mail.declared.mail.Mail.{Mail}
use Rattle.master_side.specs.of_master_duty.Reply.{Reply}
use Rattle.master_side.specs.of_master_duty.declared.stage.Met.{Met}
use Rattle.master_tour.specs.declared.stop.Stand.{Stand}

-- behind it no mail is left that could be taken up, where none is held
abbrev pub TakesUp : {Q : Type 0} → Stand → Option Mail → Bool → (Speech Body Q Reply → Side Body Q Reply → Account Q Reply → Type 0) → Type 0
TakesUp {Q} stand held knows shows = stand ≡ Stand.Open → held ≡ None → knows ≡ true → (x : Speech Body Q Reply) (d : Side Body Q Reply) (a : Account Q Reply) → shows x d a → next_mail x d.now None true ≡ []

-- where nothing came into hand by it though something might, this wish was for none
abbrev pub BeginsAll : {Q : Type 0} → Stand → Bool → Bool → Option Met → Option Passing → (Q → Bool) → (Speech Body Q Reply → Side Body Q Reply → Account Q Reply → Type 0) → Option Wish → Option Q → Type 0
BeginsAll {Q} stand began knows duty passing acknowledged shows wish ready = stand ≡ Stand.Open → began ≡ false → knows ≡ true → in_hand duty ≡ None → passing ≡ None → (x : Speech Body Q Reply) (d : Side Body Q Reply) (a : Account Q Reply) → shows x d a →
    is_free x d d.now ≡ true → is_acknowledged x acknowledged d d.now ≡ true → BeginsNone wish ready
