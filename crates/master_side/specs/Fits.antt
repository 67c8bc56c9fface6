-- What a mail that is taken to be held tells of its row.
use Rattle.std.specs.Prelude.{◌≡◌, Bool, true, false, [], ◌∷◌, Option, None, Ok, option_map}
use Rattle.master_duty.specs.of_mailbox_mail.declared.mail.Mail.{Mail}
use Rattle.frame_view.specs.of_exchange_model.Exchange.{Speech}
use Rattle.frame_view.specs.of_exchange_model.Rows.{Row, row_told}
use Rattle.mailbox_master.specs.of_link_mails.Body.{Body, uncounted}
use Rattle.master_duty.specs.of_segment_model.Seats.{next_mail}

-- the mail taken is the first that the row has left, and is told; where none was taken the row is as it was
abbrev pub Tells : {Q R : Type 0} → Bool → Mail → Speech Body Q R → Option (Row Body Q R) → (Option (Row Body Q R) → Type 0) → Type 0
Tells false m x now shows = shows now
Tells true m x now shows = (next_mail x now None true ≡ Ok (uncounted m) ∷ []) × shows (option_map (λ r. row_told (Ok (uncounted m)) r) now)
