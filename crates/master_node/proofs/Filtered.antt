-- WHAT IS TOLD TO WHO ASKED among all that a frame does.
use Rattle.std.proofs.Common.{◌≡◌, ℕ, Bool, true, false, Option, Some, None, List, [], ◌∷◌, ◌++◌, refl, ap, ◌∙◌, append-nil}
use Rattle.std.specs.Prelude.{filter}
use Rattle.std.proofs.lemmas.List.Elements.{filter-append}
use Rattle.life_runs.specs.of_mailbox_mail.declared.mail.Mail.{Mail}
use Rattle.life_runs.specs.of_mailbox_mail.declared.outcome.ReplyKind.{ReplyKind}
use Rattle.life_runs.specs.of_master_duty.declared.stage.Met.{Met}
use Rattle.life_runs.specs.of_master_hand.Brings.{emergency_kept}
use Rattle.life_runs.specs.of_master_hand.Replied.{reply_kept}
use Rattle.life_runs.specs.of_master_hand.declared.found.Found.{Found}
use Rattle.life_runs.specs.of_master_hand.declared.hand.InHand.{InHand}
use Rattle.life_runs.specs.of_master_side.Free.{is_free_side}
use Rattle.life_runs.specs.of_master_side.declared.hand.Hand.{Ghosts}
use Rattle.life_runs.specs.of_master_side.declared.hand.Heard.{Heard}
use Rattle.life_runs.specs.of_master_side.declared.passing.Passing.{Passing}
use Rattle.life_runs.specs.of_master_tour.declared.stop.Stand.{Stand}
use Rattle.life_runs.specs.of_master_tour.declared.stop.Stop.{Stop}
use Rattle.life_runs.specs.of_master_tour.declared.stop.Turned.{Turned}
use Rattle.life_runs.specs.of_master_hand.Hears.{answer_kept}
use Rattle.master_node.specs.Besides.{Does, answered_does, back_does, by_stop, emergency_told, handed_where, heard_does, mail_does, met_at, met_where, over_does, passed_where, reply_told, stays, turned_where}
use Rattle.master_node.specs.Gateways.{is_gateway}
use Rattle.master_node.specs.Handed.{work_at}
use Rattle.master_node.specs.Listing.{told_in}
use Rattle.master_node.specs.declared.event.Event.{Event}
use Rattle.master_node.specs.declared.post.Post.{Post}
use Rattle.master_node.specs.declared.post.Work.{Work}
use Rattle.master_node.proofs.Besides.{stop_on, stop_same}

-- where a mail was heard
abbrev pub heard_told : ℕ → Option Heard → Found → List Event
heard_told key None f = []
heard_told key (Some what) f = reply_told key (reply_kept f)

-- a mail that its side has forgotten gets no further reply
abbrev pub over_told : ℕ → Option Passing → List Event
over_told key None = Event.GatewayDone key ∷ []
over_told key (Some passing) = []

-- by what is in hand of the slave
abbrev pub gateway_by : {G : Ghosts InHand} → Work → Stop InHand G → List Event
gateway_by (Work.Passed key) s = heard_told key s.side.heard s.side.hand.found ++ over_told key s.side.passing
gateway_by Work.Nothing s = []
gateway_by Work.Mails s = []
gateway_by Work.State s = []
gateway_by Work.Packet s = []

-- ---- a mail that is passed on

alerted : (place : ℕ) (o : Option (List ℕ)) (es : List Event) → filter is_gateway (emergency_told place o ++ es) ≡ filter is_gateway es
alerted place None es = refl
alerted place (Some octets) es = refl

replied : (key : ℕ) (o : Option Mail) → filter is_gateway (reply_told key o) ≡ reply_told key o
replied key None = refl
replied key (Some m) = refl

passed : (place key : ℕ) (p : Option Passing) (w : Work) → filter is_gateway (passed_where place key p w).told ≡ over_told key p
passed place key None w = refl
passed place key (Some p) w = refl

passed_heard : {G : Ghosts InHand} (place key : ℕ) (what : Option Heard) (s : Stop InHand G) → filter is_gateway (heard_does place what s (Work.Passed key)).told ≡ heard_told key what s.side.hand.found
passed_heard place key None s = refl
passed_heard place key (Some what) s = alerted place (emergency_kept s.side.hand.found) (reply_told key (reply_kept s.side.hand.found)) ∙ replied key (reply_kept s.side.hand.found)

passed_goes : {G : Ghosts InHand} (place key : ℕ) (what : Option Heard) (s : Stop InHand G) → (heard_does place what s (Work.Passed key)).work ≡ Work.Passed key
passed_goes place key None s = refl
passed_goes place key (Some what) s = refl

-- ---- anything else

abbrev is_mail : Work → Bool
is_mail (Work.Passed key) = true
is_mail Work.Nothing = false
is_mail Work.Mails = false
is_mail Work.State = false
is_mail Work.Packet = false

record Calm (es : List Event) (w : Work) : Type 0 where
  none : filter is_gateway es ≡ []
  other : is_mail w ≡ false

answered_calm : (place : ℕ) (o : Option ReplyKind) (w : Work) → is_mail w ≡ false → Calm (answered_does place o w).told (answered_does place o w).work
answered_calm place None w e = record { none = refl; other = e }
answered_calm place (Some kind) w e = record { none = refl; other = refl }

mail_calm : {G : Ghosts InHand} (place : ℕ) (s : Stop InHand G) (w : Work) → is_mail w ≡ false → Calm (mail_does place s w).told (mail_does place s w).work
mail_calm place s Work.Mails e = answered_calm place (answer_kept s.side.hand) Work.Mails refl
mail_calm place s Work.Nothing e = record { none = refl; other = refl }
mail_calm place s Work.State e = record { none = refl; other = refl }
mail_calm place s Work.Packet e = record { none = refl; other = refl }
mail_calm place s (Work.Passed key) e = absurd (let bad : true ≡ false = e in cc)

heard_calm : {G : Ghosts InHand} (place : ℕ) (what : Option Heard) (s : Stop InHand G) (w : Work) → is_mail w ≡ false → Calm (heard_does place what s w).told (heard_does place what s w).work
heard_calm place None s w e = record { none = refl; other = e }
heard_calm place (Some what) s w e =
    let m = mail_calm place s w e in
    record { none = alerted place (emergency_kept s.side.hand.found) (mail_does place s w).told ∙ m.none; other = m.other }

handed_calm : (place : ℕ) (b : Bool) (w : Work) → filter is_gateway (handed_where place b w).told ≡ []
handed_calm place true w = refl
handed_calm place false w = refl

met_calm : (place : ℕ) (o : Option Met) (w : Work) → filter is_gateway (met_where place o w).told ≡ []
met_calm place None w = refl
met_calm place (Some (Met.On duty)) w = refl
met_calm place (Some Met.Reached) w = refl
met_calm place (Some (Met.Refused code)) w = refl

stood_calm : (place : ℕ) (stand : Stand) (o : Option Met) (w : Work) → filter is_gateway (met_at place stand o w).told ≡ []
stood_calm place (Stand.Opening up) o w = refl
stood_calm place Stand.Open o w = met_calm place o w
stood_calm place Stand.Gone o w = refl

over_calm : {G : Ghosts InHand} (place : ℕ) (s : Stop InHand G) (w : Work) → is_mail w ≡ false → filter is_gateway (over_does place s w).told ≡ []
over_calm place s Work.Nothing e = refl
over_calm place s Work.Mails e = refl
over_calm place s Work.State e = stood_calm place s.stand s.side.duty Work.State
over_calm place s Work.Packet e = handed_calm place (is_free_side s.side) Work.Packet
over_calm place s (Work.Passed key) e = absurd (let bad : true ≡ false = e in cc)

-- how a slave turned is not told to who asked
turned_calm : (place : ℕ) (news : Option Turned) (w : Work) → filter is_gateway (turned_where place news w).told ≡ []
turned_calm place None w = refl
turned_calm place (Some Turned.GivenUp) w = refl
turned_calm place (Some Turned.Cleared) w = refl
turned_calm place (Some Turned.Opened) Work.State = refl
turned_calm place (Some Turned.Opened) Work.Nothing = refl
turned_calm place (Some Turned.Opened) Work.Mails = refl
turned_calm place (Some Turned.Opened) Work.Packet = refl
turned_calm place (Some Turned.Opened) (Work.Passed key) = refl

-- ---- WHAT A FRAME DOES to a slave tells just this to who asked

three : (as' bs cs : List Event) → filter is_gateway cs ≡ [] → filter is_gateway ((as' ++ bs) ++ cs) ≡ filter is_gateway as' ++ filter is_gateway bs
three as' bs cs e = filter-append is_gateway (as' ++ bs) cs ∙ (λ i. filter-append is_gateway as' bs i ++ e i) ∙ append-nil (filter is_gateway as' ++ filter is_gateway bs)

other_back : {G : Ghosts InHand} (place : ℕ) (s : Stop InHand G) (w : Work) → is_mail w ≡ false → filter is_gateway (back_does place s w).told ≡ []
other_back place s w e =
    let h = heard_does place s.side.heard s w in
    let o = over_does place s h.work in
    let c = heard_calm place s.side.heard s w e in
    three h.told o.told (turned_where place s.news o.work).told (turned_calm place s.news o.work) ∙ (λ i. c.none i ++ over_calm place s h.work c.other i)

pub back_asked : {G : Ghosts InHand} (place : ℕ) (s : Stop InHand G) (w : Work) → filter is_gateway (back_does place s w).told ≡ gateway_by w s
back_asked place s (Work.Passed key) =
    let h = heard_does place s.side.heard s (Work.Passed key) in
    let o = over_does place s h.work in
    three h.told o.told (turned_where place s.news o.work).told (turned_calm place s.news o.work)
    ∙ (λ i. passed_heard place key s.side.heard s i ++ (ap (λ z. filter is_gateway (over_does place s z).told) (passed_goes place key s.side.heard s) ∙ passed place key s.side.passing (Work.Passed key)) i)
back_asked place s Work.Nothing = other_back place s Work.Nothing refl
back_asked place s Work.Mails = other_back place s Work.Mails refl
back_asked place s Work.State = other_back place s Work.State refl
back_asked place s Work.Packet = other_back place s Work.Packet refl

-- of all slaves
pub filter_told : (tells : ℕ → List Event) (ps : List ℕ) → filter is_gateway (told_in tells ps) ≡ told_in (λ k. filter is_gateway (tells k)) ps
filter_told tells [] = refl
filter_told tells (p ∷ ps) = filter-append is_gateway (tells p) (told_in tells ps) ∙ ap (λ z. filter is_gateway (tells p) ++ z) (filter_told tells ps)

pub place_asked : {G : Ghosts InHand} (ps : List Post) (ss : List (Stop InHand G)) (k : ℕ) →
    filter is_gateway (by_stop (stays (work_at ps k)) (λ s. back_does k s (work_at ps k)) ss k).told ≡ by_stop [] (λ s. gateway_by (work_at ps k) s) ss k
place_asked ps ss k =
    let w = work_at ps k in
    stop_on (λ (d : Does). filter is_gateway d.told) (stays w) (λ s. back_does k s w) ss k ∙ stop_same [] (λ s. filter is_gateway (back_does k s w).told) (λ s. gateway_by w s) ss k (λ s. back_asked k s w)
