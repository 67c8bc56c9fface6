-- What a reply is to a mail that is passed on: others follow it, or it is the last.
use Rattle.std.proofs.Common.{◌≡◌, List, [], ◌∷◌, Bool, true, false, Option, Some, None, refl, sym, ap, ◌∙◌}
use Rattle.std.specs.Prelude.{◌&&◌, not, is_some, is_none, if◌then◌else◌, Err, option_map}
use Rattle.eoe_client.specs.of_mailbox_mail.declared.outcome.Took.{Took}
use Rattle.eoe_client.specs.of_mailbox_mail.declared.mail.MailFault.TheVariants.{Short}
use Rattle.foe_client.specs.of_exchange_model.Areas.{Areas}
use Rattle.foe_client.specs.of_exchange_model.Exchange.{Speech, plain}
use Rattle.master_side.specs.of_link_mails.Body.{Body}
use Rattle.master_side.specs.of_master_duty.Reply.{Reply}
use Rattle.master_side.specs.Passing.{told_as, goes_on}
use Rattle.master_hand.specs.Spoken.{Asked, sdo, file, drive, net, passed, emission, is_followed, is_passed, hand_speech, passed_ends}
use Rattle.master_hand.specs.Passed.{at_end, passed_awaits, body_of}
use Rattle.master_hand.specs.Talk.{Talking, which_of, is_mail, client_awaits, Begins, IsSent, ClientTook}
use Rattle.master_hand.specs.Shown.{is_awaiting, awaits_reply, course_behind, heard_as}
use Rattle.master_hand.specs.declared.course.Course.{Course}
use Rattle.master_hand.specs.declared.clients.Which.{Which}
use Rattle.master_hand.specs.declared.passed.Content.{Content}
use Rattle.master_hand.specs.declared.passed.PassedMail.{PassedMail}
use Rattle.eoe_client.specs.of_mailbox_mail.declared.mail.Mail.{Mail}
use Rattle.master_side.specs.declared.hand.Heard.{Heard}
use Rattle.master_side.specs.Heard.{Brought}
use Rattle.master_hand.specs.Brings.{as_list}
use Rattle.master_hand.specs.Replied.{reply_kept, kept_where, is_reply, Replies, replies_of}
use Rattle.master_hand.specs.declared.found.Found.{Found}
use Rattle.master_hand.proofs.Passing.{by_over}
use Rattle.master_hand.proofs.Hands.{none_ends}

both_left : (a b : Bool) → a && b ≡ true → a ≡ true
both_left true b e = refl
both_left false b e = e

both_right : (a b : Bool) → a && b ≡ true → b ≡ true
both_right true b e = e
both_right false b e = absurd (cc)

passed_mail : (q : Asked) → is_passed q ≡ true → is_mail (which_of q) ≡ true
passed_mail (sdo q) e = absurd (cc)
passed_mail (file q) e = absurd (cc)
passed_mail (drive q) e = absurd (cc)
passed_mail (net q) e = absurd (cc)
passed_mail (passed m) e = refl

some_is : (q p : Asked) → Some q ≡ Some p → q ≡ p
some_is q p e = cc

-- a mail that is passed on came into hand
pub begins_awaits : (old c : Talking) (which : Which) (course : Course) (asked : Option Asked) (q : Asked) → Begins (Some which) asked old c → course ≡ Course.Goes → asked ≡ Some q → is_passed q ≡ true → awaits_reply course which c ≡ true
begins_awaits old c which course asked q (p, e, s) w a t =
    let same : p ≡ q = some_is p q (sym e ∙ a) in
    let mail : is_mail which ≡ true = ap is_mail (sym s.kind) ∙ passed_mail p (ap is_passed same ∙ t) in
    let none : is_none (client_awaits which c []) ≡ true = ap (λ (o : Option Reply). is_none o) (s.replies [] ∙ none_ends old.areas p) in
    (λ i. is_awaiting (w i) && (mail i && none i))

pub none_awaits : (old c : Talking) (asked : Option Asked) (q : Asked) (goal : Bool) → Begins None asked old c → asked ≡ Some q → goal ≡ true
none_awaits old c asked q goal b e = absurd (let t : None ≡ Some q = sym b.0 ∙ e in cc)

-- its mail is taken to be held
pub sent_awaits : (b : Bool) (course : Course) (which : Which) (old new : Talking) (held : Content) → IsSent b which old held new → awaits_reply course which old ≡ true → awaits_reply course which new ≡ true
sent_awaits true course which old new held s e = ap (λ (o : Option Reply). is_awaiting course && (is_mail which && is_none o)) (s.replies []) ∙ e
sent_awaits false course which old new held s e = ap (λ c. awaits_reply course which c) s ∙ e

-- A REPLY that is taken is followed by others, or is the last
open_awaits : (p : PassedMail) (over : Bool) (hs : List Body) → p.over ≡ over → is_none (passed_awaits p []) ≡ true → passed_awaits p hs ≡ passed_ends hs
open_awaits p true hs e n = absurd (let t : is_none (passed_awaits p []) ≡ false = ap (λ (b : Bool). is_none (if b then at_end [] else passed_ends [])) e in cc)
open_awaits p false hs e n = ap (λ (b : Bool). if b then at_end hs else passed_ends hs) e

took_passed : (took : Took) (old new : Talking) (b : Body) (followed : Bool) → is_followed b ≡ followed → is_none (client_awaits Which.Passed old []) ≡ true → ClientTook took Which.Passed old b new → heard_as took ≡ told_as false followed
took_passed Took.More old new b true f n t = refl
took_passed Took.More old new b false f n t = absurd (
    let is : None ≡ passed_ends (b ∷ []) = sym t.1 ∙ t.0.replies [] ∙ open_awaits old.passed old.passed.over (b ∷ []) refl n in
    let some : passed_ends (b ∷ []) ≡ Some None = ap (λ (z : Bool). if not z then Some None else None) f in
    let bad : None ≡ Some None = is ∙ some in cc)
took_passed Took.Done old new b false f n t = refl
took_passed Took.Done old new b true f n t = absurd (
    let is : client_awaits Which.Passed new [] ≡ passed_ends (b ∷ []) = t.0.replies [] ∙ open_awaits old.passed old.passed.over (b ∷ []) refl n in
    let none : passed_ends (b ∷ []) ≡ None = ap (λ (z : Bool). if not z then Some None else None) f in
    let bad : false ≡ true = sym (ap (λ (o : Option Reply). is_some o) (is ∙ none)) ∙ t.1 in cc)
took_passed Took.Foreign old new b true f n t = absurd (
    let last : List Body = Err Short ∷ [] in
    let is : None ≡ passed_ends (b ∷ last) = sym (t.0 last) ∙ open_awaits old.passed old.passed.over (b ∷ last) refl n in
    let some : passed_ends (b ∷ last) ≡ Some None = ap (λ (z : Bool). if (if z then true else false) then Some None else None) f in
    let bad : None ≡ Some None = is ∙ some in cc)
took_passed Took.Foreign old new b false f n t = absurd (
    let is : None ≡ passed_ends (b ∷ []) = sym (t.0 []) ∙ open_awaits old.passed old.passed.over (b ∷ []) refl n in
    let some : passed_ends (b ∷ []) ≡ Some None = ap (λ (z : Bool). if not z then Some None else None) f in
    let bad : None ≡ Some None = is ∙ some in cc)

took_mail : (took : Took) (which : Which) (old new : Talking) (b : Body) → is_mail which ≡ true → is_none (client_awaits which old []) ≡ true → ClientTook took which old b new → heard_as took ≡ told_as false (is_followed b)
took_mail took Which.Coe old new b e n t = absurd (cc)
took_mail took Which.ReadFile old new b e n t = absurd (cc)
took_mail took Which.WriteFile old new b e n t = absurd (cc)
took_mail took Which.Soe old new b e n t = absurd (cc)
took_mail took Which.Address old new b e n t = absurd (cc)
took_mail took Which.Packet old new b e n t = absurd (cc)
took_mail took Which.Passed old new b e n t = took_passed took old new b (is_followed b) refl n t

pub took_tells : (took : Took) (course : Course) (which : Which) (old new : Talking) (b : Body) → awaits_reply course which old ≡ true → ClientTook took which old b new → heard_as took ≡ told_as false (is_followed b)
took_tells took course which old new b a t =
    let m = both_right (is_awaiting course) (is_mail which && is_none (client_awaits which old [])) a in
    took_mail took which old new b (both_left (is_mail which) (is_none (client_awaits which old [])) m) (both_right (is_mail which) (is_none (client_awaits which old [])) m) t

-- more of it is awaited then
pub took_awaits : (took : Took) (left : Bool) (course : Course) (which : Which) (old new : Talking) (b : Body) → awaits_reply course which old ≡ true → ClientTook took which old b new → goes_on (heard_as took) ≡ true → awaits_reply (course_behind left took) which new ≡ true
took_awaits Took.More left course which old new b a t g =
    let m = both_right (is_awaiting course) (is_mail which && is_none (client_awaits which old [])) a in
    (λ i. awaiting left i && (both_left (is_mail which) (is_none (client_awaits which old [])) m i && is_none (t.1 i)))
  where
    awaiting : (l : Bool) → is_awaiting (course_behind l Took.More) ≡ true
    awaiting true = refl
    awaiting false = refl
took_awaits Took.Done left course which old new b a t g = absurd (cc)
took_awaits Took.Foreign left course which old new b a t g = absurd (cc)

-- what is heard, by the slave's speech
pub emission_tells : (x : Speech Body Asked Reply) (areas : Areas) (b : Body) (e more : Bool) → x ≡ hand_speech areas → e ≡ emission b → told_as e more ≡ told_as (x.emission b) more
emission_tells x areas b e more s k = ap (λ z. told_as z more) (k ∙ ap (λ (y : Speech Body Asked Reply). y.emission b) (sym s))

-- A MAIL THAT IS PASSED ON, behind whose last reply none belongs to it: no further mail is taken then
ends_once : (p : PassedMail) (over : Bool) → p.over ≡ over → ((hs : List Body) → passed_awaits p hs ≡ None) → ⊥
ends_once p true o n = let is : Some None ≡ None = sym (ap (λ z. by_over z []) o) ∙ n [] in cc
ends_once p false o n = let last : List Body = Err Short ∷ [] in let is : Some None ≡ None = sym (ap (λ z. by_over z last) o) ∙ n last in cc

told_foreign : (followed : Bool) → Heard.Foreign ≡ told_as false followed → ⊥
told_foreign true e = cc
told_foreign false e = cc

took_replied : (took : Took) (old new : Talking) (b : Body) (over : Bool) → old.passed.over ≡ over → ClientTook took Which.Passed old b new → is_reply Which.Passed took ≡ is_none (by_over over [])
took_replied Took.More old new b false o t = refl
took_replied Took.More old new b true o t = absurd (ends_once new.passed new.passed.over refl (λ hs. t.0.replies hs ∙ ap (λ z. by_over z (b ∷ hs)) o))
took_replied Took.Done old new b false o t = refl
took_replied Took.Done old new b true o t = absurd (let bad : false ≡ true = sym (ap (λ (r : Option Reply). is_some r) (t.0.replies [] ∙ ap (λ z. by_over z (b ∷ [])) o)) ∙ t.1 in cc)
took_replied Took.Foreign old new b true o t = refl
took_replied Took.Foreign old new b false o t = absurd (told_foreign (is_followed b) (took_passed Took.Foreign old new b (is_followed b) refl (ap (λ z. is_none (by_over z [])) o) t))

-- what is taken is a reply of a mail that is passed on just where one was awaited
pub took_replies : (took : Took) (course : Course) (which : Which) (old new : Talking) (b : Body) → is_awaiting course ≡ true → ClientTook took which old b new → is_reply which took ≡ awaits_reply course which old
took_replies took course which old new b w t = by which t ∙ sym (ap (λ z. z && (is_mail which && is_none (client_awaits which old []))) w)
  where
    by : (k : Which) → ClientTook took k old b new → is_reply k took ≡ is_mail k && is_none (client_awaits k old [])
    by Which.Coe t = refl
    by Which.ReadFile t = refl
    by Which.WriteFile t = refl
    by Which.Soe t = refl
    by Which.Address t = refl
    by Which.Packet t = refl
    by Which.Passed t = took_replied took old new b old.passed.over refl t

-- what is kept of a mail that was heard: none of an emission, and none where no reply was awaited
pub emission_kept : (f : Found) (awaited : Bool) (b : Body) → emission b ≡ true → reply_kept f ≡ None → Replies f awaited b
emission_kept f true b e n = ap (option_map body_of) n ∙ ap (λ z. kept_where (not z) b) (sym e)
emission_kept f false b e n = ap (option_map body_of) n

pub unawaited_kept : (f : Found) (course : Course) (which : Which) (c : Talking) (b : Body) → is_awaiting course ≡ false → reply_kept f ≡ None → Replies f (awaits_reply course which c) b
unawaited_kept f course which c b w n =
    ap (option_map body_of) n ∙ sym (ap (λ z. kept_where ((z && (is_mail which && is_none (client_awaits which c []))) && not (emission b)) b) w)

pub reply_is_kept : (f : Found) (awaited : Bool) (m : Mail) → emission (body_of m) ≡ false → reply_kept f ≡ kept_where awaited m → Replies f awaited (body_of m)
reply_is_kept f true m e k = ap (option_map body_of) k ∙ ap (λ z. kept_where (not z) (body_of m)) (sym e)
reply_is_kept f false m e k = ap (option_map body_of) k

-- WHAT IS HANDED ON OF A FRAME: its mails but for emissions where a reply of a mail that is passed on was awaited, and else none
pub replies_are : (f : Found) (awaited : Bool) (heard : Option Heard) (ms : List Body) → Brought (Replies f awaited) heard ms → replies_of heard f ≡ (if awaited then plain emission ms else [])
replies_are f true None ms e = sym (ap (plain emission) e)
replies_are f false None ms e = refl
replies_are f true (Some what) ms (b, e, k) = ap as_list k ∙ by (emission b) ∙ sym (ap (plain emission) e)
  where
    by : (z : Bool) → as_list (kept_where (true && not z) b) ≡ (if not z then b ∷ [] else [])
    by true = refl
    by false = refl
replies_are f false (Some what) ms (b, e, k) = ap as_list k
