-- A MAIL THAT REPLIES, as a hand hears it, and the answer that it has then.
use Rattle.std.specs.Prelude.{◌≡◌, ℕ, Bool, true, false, [], ◌∷◌, Option, Some, None, option_map, if◌then◌else◌}
use Rattle.foe_client.specs.of_exchange_model.Exchange.{Speech}
use Rattle.foe_client.specs.of_exchange_model.Rows.{Row, row_heard}
use Rattle.eoe_client.specs.of_mailbox_mail.declared.outcome.ReplyKind.{ReplyKind}
use Rattle.master_side.specs.Due.{IsDue}
use Rattle.master_side.specs.of_link_mails.Body.{Body}
use Rattle.master_side.specs.of_master_duty.Reply.{Reply}
use Rattle.master_hand.specs.Spoken.{Asked, emission, hand_speech}
use Rattle.master_hand.specs.Talk.{client_awaits, value_of}
use Rattle.master_hand.specs.Shown.{Shows, HandShows, awaits_reply, has_reply, knows}
use Rattle.master_hand.specs.declared.hand.InHand.{InHand}

-- a reply of a mail that is passed on is awaited
abbrev pub awaits_in : InHand → Bool
awaits_in h = awaits_reply h.course h.which h.clients

-- a mail comes that replies: what the hand shows of the row goes on by it
abbrev pub HearsReply : InHand → InHand → Body → Type 0
HearsReply h k b = (frame : ℕ) (now : Option (Row Body Asked Reply)) → emission b ≡ false → HandShows h.course h.which h.clients now →
    HandShows k.course k.which k.clients (option_map (λ r. row_heard (hand_speech h.clients.areas) frame (b ∷ []) r) now)

-- and it goes on knowing its mails, where that was due
abbrev pub KnowsReply : InHand → InHand → Body → Type 0
KnowsReply h k b = (now : Option (Row Body Asked Reply)) → emission b ≡ false → HandShows h.course h.which h.clients now → knows h.course ≡ true →
    IsDue (hand_speech h.clients.areas) now b → knows k.course ≡ true

-- the answer of the row that it shows has this kind, and the client's value
abbrev pub AnswersSo : InHand → ReplyKind → Type 0
AnswersSo h kind = (x : Speech Body Asked Reply) (now : Option (Row Body Asked Reply)) (row : Row Body Asked Reply) (a : Reply × ℕ) → Shows h.course h.which h.clients x now →
    now ≡ Some row → row.answer ≡ Some a → a.0 ≡ Some (kind, value_of h.which h.clients)

-- the kind of a reply; that of a mail that is passed on has none
abbrev pub kind_in : Option Reply → Option ReplyKind
kind_in None = None
kind_in (Some None) = None
kind_in (Some (Some (kind, value))) = Some kind

-- THE KIND OF ITS ANSWER, once the reply of the newest service is there
abbrev pub answer_kept : InHand → Option ReplyKind
answer_kept h = if has_reply h.course then kind_in (client_awaits h.which h.clients []) else None
