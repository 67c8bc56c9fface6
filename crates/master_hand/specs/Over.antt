-- WHETHER THE NEWEST SERVICE OF A HAND IS OVER, and the write of its last acknowledgement done, by what is held.
use Rattle.std.specs.Prelude.{◌&&◌, not, Bool, true, false, Option, Some, None, [], if◌then◌else◌}
use Rattle.serving_model.specs.of_segment_model.Seats.{is_none_left}
use Rattle.foe_client.specs.Talk.{is_value}
use Rattle.eoe_client.specs.of_mailbox_mail.declared.outcome.ReplyKind.{ReplyKind}
use Rattle.master_hand.specs.Hears.{kind_in}
use Rattle.master_hand.specs.Talk.{Talking, client_awaits, client_later, is_handed, is_read}
use Rattle.master_hand.specs.declared.course.Course.{Course}
use Rattle.master_hand.specs.declared.clients.Which.{Which}

-- no mail of it is left; and what is handed over and has no reply is over once none is held, all else once its reply is there and the mail held was sent
abbrev pub is_sent_by : Bool → Which → Talking → Bool → Bool → Bool
is_sent_by answered which c fresh idle = is_none_left (client_later which c []) && (if is_handed which && not answered then idle else answered && not fresh)

-- over, as far as it has come; behind a mail that was not due it never is
abbrev pub over_by : Course → Which → Talking → Bool → Bool → Bool
over_by Course.Nothing which c fresh idle = true
over_by Course.Goes which c fresh idle = is_sent_by false which c fresh idle
over_by Course.Answered which c fresh idle = is_sent_by true which c fresh idle
over_by Course.Mute which c fresh idle = false
over_by Course.Closed which c fresh idle = false
over_by Course.Astray which c fresh idle = false

-- the kind of a reply that has a value
abbrev pub has_value : Option ReplyKind → Bool
has_value None = false
has_value (Some kind) = is_value kind

-- A READ THAT DELIVERED ITS FILE ends with an acknowledgement; a refused one has none
abbrev pub delivers : Which → Talking → Bool
delivers which c = is_read which && has_value (kind_in (client_awaits which c []))

-- acknowledged: once no mail is held, and before that where its last mail is no acknowledgement
abbrev pub done_by : Course → Which → Talking → Bool → Bool
done_by Course.Nothing which c idle = true
done_by Course.Goes which c idle = if is_read which then idle else true
done_by Course.Answered which c idle = if delivers which c then idle else true
done_by Course.Mute which c idle = idle
done_by Course.Closed which c idle = idle
done_by Course.Astray which c idle = idle
