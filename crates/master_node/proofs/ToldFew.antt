-- HOW MUCH A FRAME TELLS at most.
use Rattle.std.proofs.Common.{◌≡◌, ap, ◌∙◌, ◌≤◌, ◌+◌, ◌*◌, ℕ, zero, suc, Bool, true, false, Option, Some, None, List, [], ◌∷◌, ◌++◌, arith, length}
use Rattle.std.proofs.lemmas.List.{length-append}
use Rattle.life_runs.specs.of_mailbox_mail.declared.mail.Mail.{Mail}
use Rattle.life_runs.specs.of_mailbox_mail.declared.outcome.ReplyKind.{ReplyKind}
use Rattle.life_runs.specs.of_master_duty.declared.stage.Met.{Met}
use Rattle.life_runs.specs.of_master_hand.Brings.{emergency_kept}
use Rattle.life_runs.specs.of_master_hand.Replied.{reply_kept}
use Rattle.life_runs.specs.of_master_hand.declared.hand.InHand.{InHand}
use Rattle.life_runs.specs.of_master_side.Free.{is_free_side}
use Rattle.life_runs.specs.of_master_side.declared.hand.Hand.{Ghosts}
use Rattle.life_runs.specs.of_master_side.declared.hand.Heard.{Heard}
use Rattle.life_runs.specs.of_master_side.declared.passing.Passing.{Passing}
use Rattle.life_runs.specs.of_master_tour.declared.stop.Stand.{Stand}
use Rattle.life_runs.specs.of_master_tour.declared.stop.Stop.{Stop}
use Rattle.life_runs.specs.of_master_tour.declared.stop.Turned.{Turned}
use Rattle.life_runs.specs.of_master_hand.Hears.{answer_kept}
use Rattle.master_node.specs.Besides.{Does, TellsAll, answered_does, back_does, by_stop, emergency_told, given_at, given_told, handed_where, heard_does, mail_does, met_at, met_where, over_does, passed_where, reply_told, stays, turned_where}
use Rattle.master_node.specs.Handed.{work_at}
use Rattle.master_node.specs.Listing.{events_in, told_in}
use Rattle.master_node.specs.declared.event.Event.{Event}
use Rattle.master_node.specs.declared.node.MasterNode.{MasterNode}
use Rattle.master_node.specs.declared.post.Post.{Post}
use Rattle.master_node.specs.declared.post.Work.{Work}

-- five events of each of so many slaves, or one
pub told_five : (tells : ℕ → List Event) → ((k : ℕ) → length (tells k) ≤ 5) → (ps : List ℕ) → length (told_in tells ps) ≤ 5 * length ps
told_five tells h [] = omega arith
told_five tells h (p ∷ ps) = omega (arith, length-append (tells p) (told_in tells ps), h p, told_five tells h ps)

pub told_one : (tells : ℕ → List Event) → ((k : ℕ) → length (tells k) ≤ 1) → (ps : List ℕ) → length (told_in tells ps) ≤ length ps
told_one tells h [] = omega arith
told_one tells h (p ∷ ps) = omega (arith, length-append (tells p) (told_in tells ps), h p, told_one tells h ps)

-- just these are listed, where what was listed before the step leaves room for them
pub just_told : {m n : MasterNode} (es : List Event) (before : ℕ) → TellsAll es m n → before ≤ 16 → m.list.count ≡ before → events_in m ≡ [] → length es ≤ 80 → events_in n ≡ es
just_told es before t few is last most = t.told (omega (arith, is, few, most)) ∙ ap (λ z. z ++ es) last

-- of whichever slave stands there
stop_all : {A : Type 0} {G : Ghosts InHand} (P : A → Type 0) (none : A) (does : Stop InHand G → A) → P none → ((s : Stop InHand G) → P (does s)) → (ss : List (Stop InHand G)) (k : ℕ) → P (by_stop none does ss k)
stop_all P none does n h [] k = n
stop_all P none does n h (s ∷ ss) zero = h s
stop_all P none does n h (s ∷ ss) (suc k) = stop_all P none does n h ss k

one_alert : (place : ℕ) (o : Option (List ℕ)) → length (emergency_told place o) ≤ 1
one_alert place None = omega arith
one_alert place (Some octets) = omega arith

one_reply : (key : ℕ) (o : Option Mail) → length (reply_told key o) ≤ 1
one_reply key None = omega arith
one_reply key (Some m) = omega arith

one_answer : (place : ℕ) (o : Option ReplyKind) (w : Work) → length (answered_does place o w).told ≤ 1
one_answer place None w = omega arith
one_answer place (Some kind) w = omega arith

mail_few : {G : Ghosts InHand} (place : ℕ) (s : Stop InHand G) (w : Work) → length (mail_does place s w).told ≤ 1
mail_few place s (Work.Passed key) = one_reply key (reply_kept s.side.hand.found)
mail_few place s Work.Mails = one_answer place (answer_kept s.side.hand) Work.Mails
mail_few place s Work.Nothing = omega arith
mail_few place s Work.State = omega arith
mail_few place s Work.Packet = omega arith

heard_few : {G : Ghosts InHand} (place : ℕ) (what : Option Heard) (s : Stop InHand G) (w : Work) → length (heard_does place what s w).told ≤ 2
heard_few place None s w = omega arith
heard_few place (Some what) s w =
    omega (arith, length-append (emergency_told place (emergency_kept s.side.hand.found)) (mail_does place s w).told, one_alert place (emergency_kept s.side.hand.found), mail_few place s w)

turned_two : (place : ℕ) (news : Option Turned) (w : Work) → length (turned_where place news w).told ≤ 2
turned_two place None w = omega arith
turned_two place (Some Turned.GivenUp) w = omega arith
turned_two place (Some Turned.Cleared) w = omega arith
turned_two place (Some Turned.Opened) Work.State = omega arith
turned_two place (Some Turned.Opened) Work.Nothing = omega arith
turned_two place (Some Turned.Opened) Work.Mails = omega arith
turned_two place (Some Turned.Opened) Work.Packet = omega arith
turned_two place (Some Turned.Opened) (Work.Passed key) = omega arith

turned_one : (place : ℕ) (news : Option Turned) → length (turned_where place news Work.Nothing).told ≤ 1
turned_one place None = omega arith
turned_one place (Some Turned.GivenUp) = omega arith
turned_one place (Some Turned.Cleared) = omega arith
turned_one place (Some Turned.Opened) = omega arith

-- what is over, and how the slave turned then
abbrev ThreeBy : ℕ → Option Turned → Does → Type 0
ThreeBy place news d = length d.told + length (turned_where place news d.work).told ≤ 3

one_more : (place : ℕ) (news : Option Turned) (d : Does) → length d.told ≤ 1 → ThreeBy place news d
one_more place news d l = omega (arith, l, turned_two place news d.work)

handed_three : (place : ℕ) (news : Option Turned) (b : Bool) (w : Work) → ThreeBy place news (handed_where place b w)
handed_three place news true w = one_more place news (handed_where place true w) (omega arith)
handed_three place news false w = one_more place news (handed_where place false w) (omega arith)

met_three : (place : ℕ) (news : Option Turned) (o : Option Met) (w : Work) → ThreeBy place news (met_where place o w)
met_three place news None w = one_more place news (met_where place None w) (omega arith)
met_three place news (Some (Met.On duty)) w = one_more place news (met_where place (Some (Met.On duty)) w) (omega arith)
met_three place news (Some Met.Reached) w = one_more place news (met_where place (Some Met.Reached) w) (omega arith)
met_three place news (Some (Met.Refused code)) w = one_more place news (met_where place (Some (Met.Refused code)) w) (omega arith)

stood_three : (place : ℕ) (news : Option Turned) (stand : Stand) (o : Option Met) (w : Work) → ThreeBy place news (met_at place stand o w)
stood_three place news (Stand.Opening up) o w = one_more place news (stays w) (omega arith)
stood_three place news Stand.Open o w = met_three place news o w
stood_three place news Stand.Gone o w = one_more place news (stays w) (omega arith)

passed_three : (place key : ℕ) (news : Option Turned) (p : Option Passing) (w : Work) → ThreeBy place news (passed_where place key p w)
passed_three place key news None w = omega (arith, turned_one place news)
passed_three place key news (Some p) w = one_more place news (passed_where place key (Some p) w) (omega arith)

over_three : {G : Ghosts InHand} (place : ℕ) (s : Stop InHand G) (w : Work) → ThreeBy place s.news (over_does place s w)
over_three place s Work.Nothing = one_more place s.news (over_does place s Work.Nothing) (omega arith)
over_three place s Work.Mails = one_more place s.news (over_does place s Work.Mails) (omega arith)
over_three place s Work.Packet = handed_three place s.news (is_free_side s.side) Work.Packet
over_three place s (Work.Passed key) = passed_three place key s.news s.side.passing (Work.Passed key)
over_three place s Work.State = stood_three place s.news s.stand s.side.duty Work.State

-- FIVE EVENTS A SLAVE
back_five : {G : Ghosts InHand} (place : ℕ) (s : Stop InHand G) (w : Work) → length (back_does place s w).told ≤ 5
back_five place s w =
    let h = heard_does place s.side.heard s w in
    let o = over_does place s h.work in
    omega (arith, length-append (h.told ++ o.told) (turned_where place s.news o.work).told, length-append h.told o.told, heard_few place s.side.heard s w, over_three place s h.work)

pub back_few : {G : Ghosts InHand} (ps : List Post) (ss : List (Stop InHand G)) (k : ℕ) → length (by_stop (stays (work_at ps k)) (λ s. back_does k s (work_at ps k)) ss k).told ≤ 5
back_few ps ss k = stop_all (λ (d : Does). length d.told ≤ 5) (stays (work_at ps k)) (λ s. back_does k s (work_at ps k)) (omega arith) (λ s. back_five k s (work_at ps k)) ss k

-- AND ONE of a slave that was given up
pub given_few : {G : Ghosts InHand} (ss : List (Stop InHand G)) (k : ℕ) → length (given_at ss k) ≤ 1
given_few ss k = stop_all (λ (z : List Event). length z ≤ 1) [] (λ s. given_told k s.news) (omega arith) (λ s. go s.news) ss k
  where
    go : (news : Option Turned) → length (given_told k news) ≤ 1
    go None = omega arith
    go (Some Turned.GivenUp) = omega arith
    go (Some Turned.Cleared) = omega arith
    go (Some Turned.Opened) = omega arith
