-- WHAT IS KEPT OF A REPLY to a mail that is passed on, so that it can be handed on.
use Rattle.std.specs.Prelude.{◌≡◌, ◌&&◌, not, Bool, true, false, List, [], Option, Some, None, option_map, if◌then◌else◌}
use Rattle.eoe_client.specs.of_mailbox_mail.declared.mail.Mail.{Mail}
use Rattle.eoe_client.specs.of_mailbox_mail.declared.outcome.Took.{Took}
use Rattle.master_side.specs.of_link_mails.Body.{Body}
use Rattle.master_side.specs.declared.hand.Heard.{Heard}
use Rattle.master_hand.specs.Brings.{as_list}
use Rattle.master_hand.specs.Spoken.{emission}
use Rattle.master_hand.specs.Passed.{body_of}
use Rattle.master_hand.specs.declared.clients.Which.{Which}
use Rattle.master_hand.specs.declared.found.Brought.{Brought}
use Rattle.master_hand.specs.declared.found.Found.{Found}

-- the mail that replies, where the mail heard last was a reply of one that is passed on
abbrev pub reply_by : Brought → Mail → Option Mail
reply_by Brought.Reply m = Some m
reply_by Brought.Nothing m = None
reply_by Brought.Emergency m = None
reply_by Brought.Packet m = None

-- of what was found
abbrev pub reply_kept : Found → Option Mail
reply_kept f = reply_by f.brought f.mail

-- this mail, where it is a reply
abbrev pub kept_where : {T : Type 0} → Bool → T → Option T
kept_where replies m = if replies then Some m else None

-- where none was kept before, this mail is, if it is a reply
abbrev pub KeepsReply : Found → Found → Bool → Mail → Type 0
KeepsReply old new replies m = reply_kept old ≡ None → reply_kept new ≡ kept_where replies m

-- a client awaits what it takes, but for a foreign mail
abbrev pub is_awaited : Took → Bool
is_awaited Took.More = true
is_awaited Took.Done = true
is_awaited Took.Foreign = false

-- the client of a mail that is passed on was the one that took it
abbrev pub is_reply : Which → Took → Bool
is_reply Which.Coe took = false
is_reply Which.ReadFile took = false
is_reply Which.WriteFile took = false
is_reply Which.Soe took = false
is_reply Which.Address took = false
is_reply Which.Packet took = false
is_reply Which.Passed took = is_awaited took

-- WHAT IS KEPT OF THE MAIL HEARD LAST: that mail, just where a reply of one that is passed on was awaited before it and it is no emission
abbrev pub Replies : Found → Bool → Body → Type 0
Replies f awaited b = option_map body_of (reply_kept f) ≡ kept_where (awaited && not (emission b)) b

-- the replies that a frame brought to be handed on: the mail that is kept, where one was accepted
abbrev pub replies_of : Option Heard → Found → List Body
replies_of None f = []
replies_of (Some what) f = as_list (option_map body_of (reply_kept f))
