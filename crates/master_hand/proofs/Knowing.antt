-- A HAND THAT KNOWS WHICH MAILS ARE LEFT of its service: it takes up each, is over with the last, and goes on so behind a reply that was due.
use Rattle.std.proofs.Common.{◌≡◌, ◌⊎◌, inl, inr, ◌∷◌, [], List, Bool, true, false, Option, Some, None, refl, sym, ap, ◌∙◌, subst}
use Rattle.std.specs.Prelude.{◌&&◌, not, is_some, is_none, if◌then◌else◌}
use Rattle.foe_client.specs.of_exchange_model.Exchange.{Speech}
use Rattle.foe_client.specs.of_exchange_model.Rows.{Row, ends_unheard, left}
use Rattle.eoe_client.specs.of_mailbox_mail.declared.outcome.Took.{Took}
use Rattle.master_side.specs.Due.{IsDue, IsReply}
use Rattle.master_side.specs.of_link_mails.Body.{Body}
use Rattle.master_side.specs.of_master_duty.Reply.{Reply}
use Rattle.serving_model.specs.of_state_model.Accounts as Accounts
use Rattle.serving_model.specs.of_state_model.Accounts.{is_free}
use Rattle.serving_model.specs.of_segment_model.Seats.{Side, next_mail, first_left, is_none_left}
use Rattle.master_hand.specs.Grips.{Going}
use Rattle.master_hand.specs.Over.{delivers}
use Rattle.master_hand.specs.Shown.{HandShows, Shows, course_behind, is_awaiting, knows}
use Rattle.master_hand.specs.Spoken.{Asked, acknowledged, hand_speech, emission}
use Rattle.master_hand.specs.declared.passed.Content.{Content}
use Rattle.master_hand.specs.Talk.{Talking, IsOf, IsSent, ClientTook, client_later, client_awaits, is_handed, is_read}
use Rattle.master_hand.specs.declared.course.Course.{Course}
use Rattle.master_hand.specs.declared.clients.Which.{Which}
use Rattle.master_hand.proofs.Grips.{talks_left}
use Rattle.master_hand.proofs.Hands.{handed_of}
use Rattle.master_hand.proofs.Acknowledged.{answered_unheard, going_unheard, none_some as none_of_some}

abbrev Rows : Type 0
Rows = Option (Row Body Asked Reply)

abbrev Goes : Bool → Which → Talking → Rows → Type 0
Goes b which c now = Going (hand_speech c.areas) (IsOf which) (client_later which c) (client_awaits which c) b now

-- NO MAIL IS LEFT: of a hand with no service
pub rest_nothing : (course : Course) (which : Which) (c : Talking) (x : Speech Body Asked Reply) (now : Rows) → course ≡ Course.Nothing → Shows course which c x now → next_mail x now None true ≡ []
rest_nothing course which c x now w h = ap (λ r. next_mail x r None true) (subst (λ (z : Course). HandShows z which c now) w h.1)

rest_going : (b : Bool) (which : Which) (c : Talking) (now : Rows) → client_later which c [] ≡ [] → Goes b which c now → next_mail (hand_speech c.areas) now None true ≡ []
rest_going b which c now l g = ap (λ r. next_mail (hand_speech c.areas) r None true) g.is ∙ ap first_left (talks_left (hand_speech c.areas) (client_later which c) (client_awaits which c) g.row g.talks ∙ l)

-- of one whose client has none
pub rest_shown : (course : Course) (which : Which) (c : Talking) (x : Speech Body Asked Reply) (now : Rows) → (course ≡ Course.Goes) ⊎ (course ≡ Course.Answered) → client_later which c [] ≡ [] → Shows course which c x now → next_mail x now None true ≡ []
rest_shown course which c x now (inl w) l h = ap (λ (y : Speech Body Asked Reply). next_mail y now None true) h.0 ∙ rest_going false which c now l (subst (λ (z : Course). HandShows z which c now) w h.1)
rest_shown course which c x now (inr w) l h = ap (λ (y : Speech Body Asked Reply). next_mail y now None true) h.0 ∙ rest_going true which c now l (subst (λ (z : Course). HandShows z which c now) w h.1)

never : false ≡ true → ⊥
never e = absurd (cc)

-- where none was sent the client is as it was
pub unsent : (b : Bool) (which : Which) (old : Talking) (held : Content) (new : Talking) → b ≡ false → IsSent b which old held new → new ≡ old
unsent true which old held new e s = absurd (never (sym e))
unsent false which old held new e s = s

-- the others know nothing
pub knows_not : (course : Course) → knows course ≡ true → (course ≡ Course.Mute) ⊎ ((course ≡ Course.Closed) ⊎ (course ≡ Course.Astray)) → ⊥
knows_not course k (inl w) = never (sym (ap knows w) ∙ k)
knows_not course k (inr (inl w)) = never (sym (ap knows w) ∙ k)
knows_not course k (inr (inr w)) = never (sym (ap knows w) ∙ k)

-- so a hand that takes up none has none left
pub rest_other : (course : Course) (which : Which) (c : Talking) (x : Speech Body Asked Reply) (now : Rows) → (course ≡ Course.Nothing) ⊎ ((course ≡ Course.Mute) ⊎ ((course ≡ Course.Closed) ⊎ (course ≡ Course.Astray))) → knows course ≡ true → Shows course which c x now → next_mail x now None true ≡ []
rest_other course which c x now (inl w) k h = rest_nothing course which c x now w h
rest_other course which c x now (inr w) k h = absurd (knows_not course k w)

none_left : (ms : List Body) → is_none_left ms ≡ true → ms ≡ []
none_left [] e = refl
none_left (m ∷ ms) e = absurd (never e)

both_left : (a b : Bool) → (a && b) ≡ true → a ≡ true
both_left true b e = refl
both_left false b e = absurd (never e)

both_right : (a b : Bool) → (a && b) ≡ true → b ≡ true
both_right true b e = e
both_right false b e = absurd (never e)

none_of : {T : Type 0} (o : Option T) → is_none o ≡ true → o ≡ None
none_of None e = refl
none_of (Some t) e = absurd (never e)

over_by : {T : Type 0} (h idle answered fresh : Bool) (holding : Option T) → (if h && not answered then is_none holding else answered && not fresh) ≡ true → (holding ≡ None → idle ≡ true) →
    (if h && not answered then idle else answered && not fresh) ≡ true
over_by true idle false fresh holding e f = f (none_of holding e)
over_by true idle true fresh holding e f = e
over_by false idle answered fresh holding e f = e

-- A SERVICE THAT IS OVER is so for its client
pub record IsSentBy (which : Which) (c : Talking) (answered fresh idle : Bool) : Type 0 where
  pub left : client_later which c [] ≡ []
  pub done : (if is_handed which && not answered then idle else answered && not fresh) ≡ true

free_over : (b : Bool) (which : Which) (c : Talking) (fresh idle : Bool) (d : Side Body Asked Reply) → d.fresh ≡ fresh → (d.halves.out.holding ≡ None → idle ≡ true) → Goes b which c d.now → is_free (hand_speech c.areas) d d.now ≡ true → IsSentBy which c b fresh idle
free_over b which c fresh idle d s i g e =
    let kind = handed_of c.areas g.row.service ∙ ap is_handed g.kind in
    let over = sym (ap (λ r. is_free (hand_speech c.areas) d r) g.is) ∙ e in
    let done : (if is_handed which && not b then is_none d.halves.out.holding else b && not fresh) ≡ true =
    sym (λ k. if kind k && (none_of_some g.row.answer ∙ ap not g.answer) k then is_none d.halves.out.holding else g.answer k && not (s k)) ∙ both_right (is_none_left (left (hand_speech c.areas) g.row)) _ over in
    record {
      left = sym (talks_left (hand_speech c.areas) (client_later which c) (client_awaits which c) g.row g.talks) ∙ none_left _ (both_left (is_none_left (left (hand_speech c.areas) g.row)) _ over);
      done = over_by (is_handed which) idle b fresh d.halves.out.holding done i;
    }

pub goes_over : (course : Course) (which : Which) (c : Talking) (fresh idle : Bool) (x : Speech Body Asked Reply) (d : Side Body Asked Reply) → course ≡ Course.Goes → d.fresh ≡ fresh → (d.halves.out.holding ≡ None → idle ≡ true) → Shows course which c x d.now →
    is_free x d d.now ≡ true → IsSentBy which c false fresh idle
goes_over course which c fresh idle x d w s i h e =
    free_over false which c fresh idle d s i (subst (λ (z : Course). HandShows z which c d.now) w h.1) (sym (ap (λ (y : Speech Body Asked Reply). is_free y d d.now) h.0) ∙ e)

pub answered_over : (course : Course) (which : Which) (c : Talking) (fresh idle : Bool) (x : Speech Body Asked Reply) (d : Side Body Asked Reply) → course ≡ Course.Answered → d.fresh ≡ fresh → (d.halves.out.holding ≡ None → idle ≡ true) → Shows course which c x d.now →
    is_free x d d.now ≡ true → IsSentBy which c true fresh idle
answered_over course which c fresh idle x d w s i h e =
    free_over true which c fresh idle d s i (subst (λ (z : Course). HandShows z which c d.now) w h.1) (sym (ap (λ (y : Speech Body Asked Reply). is_free y d d.now) h.0) ∙ e)

-- a read of a file is acknowledged where no mail is held
acknowledged_none : (b : Bool) (d : Side Body Asked Reply) → b ≡ true → (if b then is_none d.halves.out.holding else true) ≡ true → d.halves.out.holding ≡ None
acknowledged_none b d r e = none_of d.halves.out.holding (sym (ap (λ (z : Bool). if z then is_none d.halves.out.holding else true) r) ∙ e)

pub shown_idle : (course : Course) (which : Which) (c : Talking) (idle : Bool) (x : Speech Body Asked Reply) (d : Side Body Asked Reply) → course ≡ Course.Goes → is_read which ≡ true → (d.halves.out.holding ≡ None → idle ≡ true) →
    Shows course which c x d.now → Accounts.is_acknowledged x acknowledged d d.now ≡ true → idle ≡ true
shown_idle course which c idle x d w r i h e =
    let g = subst (λ (z : Course). HandShows z which c d.now) w h.1 in
    let done = sym (ap (λ (y : Speech Body Asked Reply). Accounts.is_acknowledged y acknowledged d d.now) h.0 ∙ ap (λ o. Accounts.is_acknowledged (hand_speech c.areas) acknowledged d o) g.is) ∙ e in
    i (acknowledged_none (ends_unheard (hand_speech c.areas) acknowledged g.row) d (going_unheard which c d.now g ∙ r) done)

-- one that delivered its file too
pub delivered_idle : (course : Course) (which : Which) (c : Talking) (idle : Bool) (x : Speech Body Asked Reply) (d : Side Body Asked Reply) → course ≡ Course.Answered → delivers which c ≡ true → (d.halves.out.holding ≡ None → idle ≡ true) →
    Shows course which c x d.now → Accounts.is_acknowledged x acknowledged d d.now ≡ true → idle ≡ true
delivered_idle course which c idle x d w r i h e =
    let g = subst (λ (z : Course). HandShows z which c d.now) w h.1 in
    let done = sym (ap (λ (y : Speech Body Asked Reply). Accounts.is_acknowledged y acknowledged d d.now) h.0 ∙ ap (λ o. Accounts.is_acknowledged (hand_speech c.areas) acknowledged d o) g.is) ∙ e in
    i (acknowledged_none (ends_unheard (hand_speech c.areas) acknowledged g.row) d (answered_unheard which c d.now g ∙ r) done)

-- A REPLY THAT IS DUE
some_row : (r q : Row Body Asked Reply) → Some r ≡ Some q → r ≡ q
some_row r q e = cc

reply_of : (x : Speech Body Asked Reply) (now : Rows) (r : Row Body Asked Reply) (b : Body) → now ≡ Some r → x.emission b ≡ false → IsDue x now b → IsReply x r b
reply_of x now r b e n d = go (subst (λ z. IsDue x z b) e d)
  where
    go : IsDue x (Some r) b → IsReply x r b
    go (inl t) = absurd (never (sym n ∙ t))
    go (inr k) = k

-- comes only where no mail is left
pub due_left : (course : Course) (which : Which) (c : Talking) (b : Body) (now : Rows) → course ≡ Course.Goes → emission b ≡ false → HandShows course which c now → IsDue (hand_speech c.areas) now b → client_later which c [] ≡ []
due_left course which c b now w n h d =
    let g = subst (λ (z : Course). HandShows z which c now) w h in
    sym (talks_left (hand_speech c.areas) (client_later which c) (client_awaits which c) g.row g.talks) ∙ (reply_of (hand_speech c.areas) now g.row b g.is n d).told

none_some : (o : Option Reply) (r : Reply) → o ≡ None → o ≡ Some r → ⊥
none_some o r e f = absurd (cc)

-- is one that the client awaits
due_took : (took : Took) (course : Course) (which : Which) (c new : Talking) (b : Body) (now : Rows) → course ≡ Course.Goes → emission b ≡ false → HandShows course which c now → IsDue (hand_speech c.areas) now b → ClientTook took which c b new → knows (course_behind false took) ≡ true
due_took Took.More course which c new b now w n h d t = refl
due_took Took.Done course which c new b now w n h d t = refl
due_took Took.Foreign course which c new b now w n h d t =
    let g = subst (λ (z : Course). HandShows z which c now) w h in
    let k = reply_of (hand_speech c.areas) now g.row b g.is n d in
    absurd (none_some _ k.reply (t.0 k.rest) (sym (g.talks.goes (b ∷ k.rest)) ∙ k.ends))

pub goes_of : (course : Course) → knows course ≡ true → is_awaiting course ≡ true → course ≡ Course.Goes
goes_of Course.Nothing k e = absurd (never e)
goes_of Course.Goes k e = refl
goes_of Course.Answered k e = absurd (never e)
goes_of Course.Mute k e = absurd (never k)
goes_of Course.Closed k e = absurd (never k)
goes_of Course.Astray k e = absurd (never k)

-- so the hand knows its mails behind it
pub due_knows : (left : Bool) (took : Took) (course : Course) (which : Which) (c new : Talking) (b : Body) (now : Rows) → (course ≡ Course.Goes → client_later which c [] ≡ [] → left ≡ false) → is_awaiting course ≡ true → knows course ≡ true → emission b ≡ false →
    HandShows course which c now → IsDue (hand_speech c.areas) now b → ClientTook took which c b new → knows (course_behind left took) ≡ true
due_knows left took course which c new b now all a k n h d t =
    let w = goes_of course k a in
    ap (λ z. knows (course_behind z took)) (all w (due_left course which c b now w n h d)) ∙ due_took took course which c new b now w n h d t

-- it knows them behind a reply only where it did before: none of its own was left then, so the service goes on
pub sure_before : (left : Bool) (took : Took) (course : Course) → (left ≡ false → course ≡ Course.Goes) → knows (course_behind left took) ≡ true → knows course ≡ true
sure_before false took course goes k = ap knows (goes refl)
sure_before true Took.More course goes k = absurd (never k)
sure_before true Took.Done course goes k = absurd (never k)
sure_before true Took.Foreign course goes k = absurd (never k)

-- none is where the reply is there
pub due_answered : (course : Course) (which : Which) (c : Talking) (b : Body) (x : Speech Body Asked Reply) (now : Rows) → course ≡ Course.Answered → x.emission b ≡ false → Shows course which c x now → IsDue x now b → ⊥
due_answered course which c b x now w n h d =
    let g = subst (λ (z : Course). HandShows z which c now) w h.1 in
    never (sym (ap is_some (reply_of x now g.row b g.is n d).unanswered) ∙ g.answer)
