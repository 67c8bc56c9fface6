-- The hand's steps, over its clients.
use Rattle.std.proofs.Common.{◌≡◌, ℕ, List, [], ◌∷◌, Bool, true, false, Option, Some, None, refl, sym, ap, ◌∙◌, subst, inl, inr}
use Rattle.std.specs.Prelude.{is_some, is_none, option_map, Ok, not, ◌&&◌, if◌then◌else◌, ◌⊎◌}
use Rattle.eoe_client.specs.of_mailbox_mail.declared.outcome.Took.{Took}
use Rattle.foe_client.specs.of_exchange_model.Areas.{Areas}
use Rattle.foe_client.specs.of_exchange_model.Exchange.{Speech, plain}
use Rattle.foe_client.specs.of_exchange_model.Rows.{Row, begun, ends_unheard, row_heard, row_told}
use Rattle.master_side.specs.of_link_mails.Body.{Body}
use Rattle.serving_model.specs.of_segment_model.Seats.{Side, is_none_left, next_mail}
use Rattle.serving_model.specs.of_state_model.Accounts as Accounts
use Rattle.serving_model.specs.of_state_model.Accounts.{is_free}
use Rattle.master_side.specs.of_master_duty.Reply.{Reply}
use Rattle.master_side.specs.Fits.{Tells}
use Rattle.eoe_client.specs.of_protocol_models.FoeMeaning as FoeMeaning
use Rattle.eoe_client.specs.of_protocol_models.EoeClient as EoeClient
use Rattle.foe_client.proofs.of_protocol_models.CoeClosing.{ends_none}
use Rattle.eoe_client.specs.of_protocol_models.SoeClient as SoeClient
use Rattle.master_hand.specs.Spoken.{Asked, sdo, file, drive, net, passed, emission, ends, handed, replied, acknowledged, hand_speech}
use Rattle.master_hand.specs.Passed.{mail_of}
use Rattle.master_hand.specs.Grips.{Going, Hearing}
use Rattle.master_hand.specs.Talk.{Talking, which_of, IsOf, is_handed, is_read, client_later, client_awaits, Starts, Begins, SendsNext, IsSent, Follows, ClientTook, is_askable}
use Rattle.master_hand.specs.Over.{delivers}
use Rattle.master_hand.specs.Quiet.{has_stays}
use Rattle.master_hand.specs.Shown.{HandShows, Shows, is_awaiting, is_answered, course_behind}
use Rattle.master_hand.specs.declared.course.Course.{Course}
use Rattle.master_hand.specs.declared.clients.Which.{Which}
use Rattle.master_hand.specs.declared.passed.Content.{Content}
use Rattle.master_hand.proofs.Acknowledged.{answered_unheard, going_unheard, none_some}
use Rattle.master_hand.proofs.Grips.{going_begun, going_told, going_next, going_emission, going_heard, talks_left, hears_of, hearing_emission, hearing_heard, has_of}

abbrev pub Rows : Type 0
Rows = Option (Row Body Asked Reply)

none_row : (f : Row Body Asked Reply → Row Body Asked Reply) (now : Rows) → now ≡ None → option_map f now ≡ None
none_row f now e = ap (option_map f) e

-- mails that reply to nothing leave what the hand shows
pub unmoved : (course : Course) (which : Which) (c : Talking) (ms : List Body) (frame : ℕ) (now : Rows) → plain emission ms ≡ [] → HandShows course which c now →
    HandShows course which c (option_map (λ r. row_heard (hand_speech c.areas) frame ms r) now)
unmoved Course.Nothing which c ms frame now e h = none_row (λ r. row_heard (hand_speech c.areas) frame ms r) now h
unmoved Course.Goes which c ms frame now e h = going_emission (hand_speech c.areas) (IsOf which) (client_later which c) (client_awaits which c) false now frame ms e h
unmoved Course.Answered which c ms frame now e h = going_emission (hand_speech c.areas) (IsOf which) (client_later which c) (client_awaits which c) true now frame ms e h
unmoved Course.Mute which c ms frame now e h = hearing_emission (hand_speech c.areas) (IsOf which) (client_awaits which c) false now frame ms e h
unmoved Course.Closed which c ms frame now e h = has_stays (hand_speech c.areas) (IsOf which) (client_awaits which c []) now frame ms h
unmoved Course.Astray which c ms frame now e h = hearing_emission (hand_speech c.areas) (IsOf which) (λ hs. None) false now frame ms e h

-- no reply without a mail
pub none_ends : (areas : Areas) (q : Asked) → ends areas q [] ≡ None
none_ends areas (sdo q) = ap replied (ends_none areas.out q)
none_ends areas (file (FoeMeaning.read name pass)) = refl
none_ends areas (file (FoeMeaning.write name pass bytes)) = refl
none_ends areas (drive (SoeClient.read t)) = refl
none_ends areas (drive (SoeClient.write t bytes)) = refl
none_ends areas (net (EoeClient.packet octets frame)) = refl
none_ends areas (net (EoeClient.set_ip block)) = refl
none_ends areas (net EoeClient.get_ip) = refl
none_ends areas (passed m) = refl

-- a service comes into hand
pub begun_shown : (areas : Areas) (c : Talking) (which : Which) (q : Asked) (frame : ℕ) → c.areas ≡ areas → Starts areas q which c → HandShows Course.Goes which c (Some (begun q frame))
begun_shown areas c which q frame e s =
    subst (λ (a : Areas). Going (hand_speech a) (IsOf which) (client_later which c) (client_awaits which c) false (Some (begun q frame))) (sym e)
    (going_begun (hand_speech areas) (IsOf which) (client_later which c) (client_awaits which c) q frame s.mails s.replies (none_ends areas q) s.kind)

some_is : (q p : Asked) → Some q ≡ Some p → q ≡ p
some_is q p e = cc

pub begins_shown : (x : Speech Body Asked Reply) (old c : Talking) (which now_which : Which) (course : Course) (asked : Option Asked) (q : Asked) (frame : ℕ) → Begins (Some which) asked old c → c.areas ≡ old.areas →
    is_askable old.areas asked ≡ true → now_which ≡ which → course ≡ Course.Goes → asked ≡ Some q → x ≡ hand_speech old.areas → (x.valid q ≡ true) × Shows course now_which c x (Some (begun q frame))
begins_shown x old c which now_which course asked q frame b a v w k e s = (
  ap (λ (y : Speech Body Asked Reply). y.valid q) s ∙ ap (is_askable old.areas) (sym e) ∙ v,
  (
    s ∙ ap hand_speech (sym a),
    subst (λ (z : Course). HandShows z now_which c (Some (begun q frame))) (sym k)
        (subst (λ (z : Which). HandShows Course.Goes z c (Some (begun q frame))) (sym w)
        (begun_shown old.areas c which q frame a (subst (λ (p : Asked). Starts old.areas p which c) (some_is b.0 q (sym b.1 ∙ e)) b.2))),
  ),
)

-- what a service in hand shows, with its reply or without
abbrev pub Goes : Bool → Which → Talking → Rows → Type 0
Goes b which c now = Going (hand_speech c.areas) (IsOf which) (client_later which c) (client_awaits which c) b now

-- the next mail is taken to be held
told_going : (which : Which) (old new : Talking) (held : Content) (b : Bool) (now : Rows) → SendsNext which old held new → Goes b which old now →
    (next_mail (hand_speech old.areas) now None true ≡ Ok (mail_of held) ∷ []) × Goes b which new (option_map (λ r. row_told (Ok (mail_of held)) r) now)
told_going which old new held b now s g = (
  going_next (hand_speech old.areas) (IsOf which) (client_later which old) (client_later which new) (client_awaits which old) b now (Ok (mail_of held)) s.mails g,
  subst (λ (a : Areas). Going (hand_speech a) (IsOf which) (client_later which new) (client_awaits which new) b (option_map (λ r. row_told (Ok (mail_of held)) r) now)) (sym s.areas)
      (going_told (hand_speech old.areas) (IsOf which) (client_later which old) (client_later which new) (client_awaits which old) (client_awaits which new) b now (Ok (mail_of held)) s.mails s.replies g),
)

told_in : (which : Which) (old new : Talking) (held : Content) (b : Bool) (x : Speech Body Asked Reply) (now : Rows) → SendsNext which old held new → x ≡ hand_speech old.areas → Goes b which old now →
    (next_mail x now None true ≡ Ok (mail_of held) ∷ []) × (x ≡ hand_speech new.areas) × Goes b which new (option_map (λ r. row_told (Ok (mail_of held)) r) now)
told_in which old new held b x now s e g =
    let t = told_going which old new held b now s g in
    (ap (λ (y : Speech Body Asked Reply). next_mail y now None true) e ∙ t.0, e ∙ ap hand_speech (sym s.areas), t.1)

pub told_shown : (b : Bool) (course : Course) (which : Which) (old new : Talking) (held : Content) (x : Speech Body Asked Reply) (now : Rows) → IsSent b which old held new → (course ≡ Course.Goes) ⊎ (course ≡ Course.Answered) → Shows course which old x now →
    Tells b (mail_of held) x now (Shows course which new x)
told_shown false course which old new held x now s w h = subst (λ (c : Talking). Shows course which c x now) (sym s) h
told_shown true course which old new held x now s (inl w) h =
    let t = told_in which old new held false x now s h.0 (subst (λ (z : Course). HandShows z which old now) w h.1) in
    (t.0, (t.1, subst (λ (z : Course). HandShows z which new (option_map (λ r. row_told (Ok (mail_of held)) r) now)) (sym w) t.2))
told_shown true course which old new held x now s (inr w) h =
    let t = told_in which old new held true x now s h.0 (subst (λ (z : Course). HandShows z which old now) w h.1) in
    (t.0, (t.1, subst (λ (z : Course). HandShows z which new (option_map (λ r. row_told (Ok (mail_of held)) r) now)) (sym w) t.2))

-- a mail that was accepted
plain_emission : (b : Body) → emission b ≡ true → plain emission (b ∷ []) ≡ []
plain_emission b e = ap (λ (z : Bool). if not z then b ∷ [] else []) e

plain_reply : (b : Body) → emission b ≡ false → plain emission (b ∷ []) ≡ b ∷ []
plain_reply b e = ap (λ (z : Bool). if not z then b ∷ [] else []) e

pub emission_shown : (course : Course) (which : Which) (c : Talking) (b : Body) (x : Speech Body Asked Reply) (frame : ℕ) (now : Rows) → emission b ≡ true → Shows course which c x now →
    Shows course which c x (option_map (λ r. row_heard x frame (b ∷ []) r) now)
emission_shown course which c b x frame now e s =
    (s.0, subst (λ (y : Speech Body Asked Reply). HandShows course which c (option_map (λ r. row_heard y frame (b ∷ []) r) now)) (sym s.0) (unmoved course which c (b ∷ []) frame now (plain_emission b e) s.1))

-- how far a service has come behind a mail that it doesn't await any more
abbrev pub course_beyond : Course → Course
course_beyond Course.Answered = Course.Closed
course_beyond course = course

beyond : (course : Course) (which : Which) (c : Talking) (b : Body) (frame : ℕ) (now : Rows) → is_awaiting course ≡ false → HandShows course which c now →
    HandShows (course_beyond course) which c (option_map (λ r. row_heard (hand_speech c.areas) frame (b ∷ []) r) now)
beyond Course.Nothing which c b frame now n h = none_row (λ r. row_heard (hand_speech c.areas) frame (b ∷ []) r) now h
beyond Course.Goes which c b frame now n h = absurd (cc)
beyond Course.Answered which c b frame now n h =
    has_stays (hand_speech c.areas) (IsOf which) (client_awaits which c []) now frame (b ∷ []) (has_of (hand_speech c.areas) (IsOf which) (client_awaits which c) now (hears_of (hand_speech c.areas) (IsOf which) (client_later which c) (client_awaits which c) true now h))
beyond Course.Mute which c b frame now n h = absurd (cc)
beyond Course.Closed which c b frame now n h = has_stays (hand_speech c.areas) (IsOf which) (client_awaits which c []) now frame (b ∷ []) h
beyond Course.Astray which c b frame now n h = hearing_heard (hand_speech c.areas) (IsOf which) (λ hs. None) (λ hs. None) false now frame (b ∷ []) (plain emission (b ∷ [])) refl (λ hs. refl) refl h

-- with no service in hand, behind a complete reply and behind a foreign mail
pub beyond_shown : (course behind : Course) (which : Which) (c : Talking) (b : Body) (x : Speech Body Asked Reply) (frame : ℕ) (now : Rows) → is_awaiting course ≡ false → behind ≡ course_beyond course → Shows course which c x now →
    Shows behind which c x (option_map (λ r. row_heard x frame (b ∷ []) r) now)
beyond_shown course behind which c b x frame now n w s = (
  s.0,
  subst (λ (z : Course). HandShows z which c (option_map (λ r. row_heard x frame (b ∷ []) r) now)) (sym w)
      (subst (λ (y : Speech Body Asked Reply). HandShows (course_beyond course) which c (option_map (λ r. row_heard y frame (b ∷ []) r) now)) (sym s.0) (beyond course which c b frame now n s.1)),
)

-- a mail that the client awaits
went : (which : Which) (old new : Talking) (b : Body) (answered : Bool) (frame : ℕ) (now : Rows) → Follows which old b new → client_later which old [] ≡ [] → new.areas ≡ old.areas → is_some (client_awaits which new []) ≡ answered → emission b ≡ false → Goes false which old now →
    Goes answered which new (option_map (λ r. row_heard (hand_speech old.areas) frame (b ∷ []) r) now)
went which old new b answered frame now f l a s e g =
    subst (λ (z : Areas). Going (hand_speech z) (IsOf which) (client_later which new) (client_awaits which new) answered (option_map (λ r. row_heard (hand_speech old.areas) frame (b ∷ []) r) now)) (sym a)
    (going_heard (hand_speech old.areas) (IsOf which) (client_later which old) (client_later which new) (client_awaits which old) (client_awaits which new) answered now frame (b ∷ []) (b ∷ []) (plain_reply b e) (f.mails l) f.replies s g)

-- as long as a reply may come, the hand tells of the replies
hears : (course : Course) (which : Which) (c : Talking) (now : Rows) → is_awaiting course ≡ true → HandShows course which c now → Hearing (hand_speech c.areas) (IsOf which) (client_awaits which c) false now
hears Course.Nothing which c now w h = absurd (cc)
hears Course.Goes which c now w h = hears_of (hand_speech c.areas) (IsOf which) (client_later which c) (client_awaits which c) false now h
hears Course.Answered which c now w h = absurd (cc)
hears Course.Mute which c now w h = h
hears Course.Closed which c now w h = absurd (cc)
hears Course.Astray which c now w h = absurd (cc)

-- what is heard of the replies, by another client of the same speech
heard_on : (which : Which) (old new : Talking) (awaits : List Body → Option Reply) (b : Body) (answered : Bool) (frame : ℕ) (now : Rows) → ((hs : List Body) → awaits hs ≡ client_awaits which old (b ∷ hs)) → new.areas ≡ old.areas → is_some (awaits []) ≡ answered → emission b ≡ false →
    Hearing (hand_speech old.areas) (IsOf which) (client_awaits which old) false now → Hearing (hand_speech new.areas) (IsOf which) awaits answered (option_map (λ r. row_heard (hand_speech old.areas) frame (b ∷ []) r) now)
heard_on which old new awaits b answered frame now f a s e g =
    subst (λ (z : Areas). Hearing (hand_speech z) (IsOf which) awaits answered (option_map (λ r. row_heard (hand_speech old.areas) frame (b ∷ []) r) now)) (sym a)
    (hearing_heard (hand_speech old.areas) (IsOf which) (client_awaits which old) awaits answered now frame (b ∷ []) (b ∷ []) (plain_reply b e) f s g)

-- A MAIL THAT REPLIES, by what it is to the client, and by whether mails were left
pub took_shown : (left : Bool) (took : Took) (was : Course) (which : Which) (old new : Talking) (b : Body) (frame : ℕ) (now : Rows) → ClientTook took which old b new → (left ≡ false → (was ≡ Course.Goes) × (client_later which old [] ≡ [])) → new.areas ≡ old.areas → is_awaiting was ≡ true →
    emission b ≡ false → HandShows was which old now → HandShows (course_behind left took) which new (option_map (λ r. row_heard (hand_speech old.areas) frame (b ∷ []) r) now)
took_shown false Took.More was which old new b frame now t l a w e h =
    let k = l refl in
    went which old new b false frame now t.0 k.1 a (ap is_some t.1) e (subst (λ (z : Course). HandShows z which old now) k.0 h)
took_shown false Took.Done was which old new b frame now t l a w e h =
    let k = l refl in
    went which old new b true frame now t.0 k.1 a t.1 e (subst (λ (z : Course). HandShows z which old now) k.0 h)
took_shown true Took.More was which old new b frame now t l a w e h = heard_on which old new (client_awaits which new) b false frame now t.0.replies a (ap is_some t.1) e (hears was which old now w h)
took_shown true Took.Done was which old new b frame now t l a w e h =
    has_of (hand_speech new.areas) (IsOf which) (client_awaits which new) _ (heard_on which old new (client_awaits which new) b true frame now t.0.replies a t.1 e (hears was which old now w h))
took_shown false Took.Foreign was which old new b frame now t l a w e h = heard_on which old new (λ hs. None) b false frame now (λ hs. sym (t.0 hs)) a refl e (hears was which old now w h)
took_shown true Took.Foreign was which old new b frame now t l a w e h = heard_on which old new (λ hs. None) b false frame now (λ hs. sym (t.0 hs)) a refl e (hears was which old now w h)

-- and the reply is there where the course says so
pub took_answered : (left : Bool) (took : Took) (which : Which) (old new : Talking) (b : Body) → ClientTook took which old b new → is_answered (course_behind left took) which new ≡ true
took_answered false Took.More which old new b t = refl
took_answered false Took.Done which old new b t = t.1
took_answered true Took.More which old new b t = refl
took_answered true Took.Done which old new b t = t.1
took_answered false Took.Foreign which old new b t = refl
took_answered true Took.Foreign which old new b t = refl

-- packets and mails that are passed on end with their last write, and no other service does
pub handed_of : (areas : Areas) (q : Asked) → handed areas q ≡ is_handed (which_of q)
handed_of areas (sdo q) = refl
handed_of areas (file (FoeMeaning.read name pass)) = refl
handed_of areas (file (FoeMeaning.write name pass bytes)) = refl
handed_of areas (drive q) = refl
handed_of areas (net (EoeClient.packet octets frame)) = refl
handed_of areas (net (EoeClient.set_ip block)) = refl
handed_of areas (net EoeClient.get_ip) = refl
handed_of areas (passed m) = refl

over_by : {T : Type 0} (h idle answered fresh : Bool) (holding : Option T) → (if h && not answered then idle else answered && not fresh) ≡ true → (idle ≡ true → holding ≡ None) →
    (if h && not answered then is_none holding else answered && not fresh) ≡ true
over_by true idle false fresh holding e f = ap is_none (f e)
over_by true idle true fresh holding e f = e
over_by false idle answered fresh holding e f = e

-- a service of which no mail is left or unsent is over
over_free : (b : Bool) (which : Which) (c : Talking) (fresh idle : Bool) (d : Side Body Asked Reply) → client_later which c [] ≡ [] → (if is_handed which && not b then idle else b && not fresh) ≡ true → d.fresh ≡ fresh →
    (idle ≡ true → d.halves.out.holding ≡ None) → Goes b which c d.now → is_free (hand_speech c.areas) d d.now ≡ true
over_free b which c fresh idle d l o s i g =
    let left = talks_left (hand_speech c.areas) (client_later which c) (client_awaits which c) g.row g.talks ∙ l in
    let kind = handed_of c.areas g.row.service ∙ ap is_handed g.kind in
    ap (λ r. is_free (hand_speech c.areas) d r) g.is
    ∙ (λ k. is_none_left (left k) && (if kind k && (none_some g.row.answer ∙ ap not g.answer) k then is_none d.halves.out.holding else (g.answer k && not (s k))))
    ∙ over_by (is_handed which) idle b fresh d.halves.out.holding o i

pub sent_free : (b : Bool) (course : Course) (which : Which) (c : Talking) (fresh idle : Bool) (x : Speech Body Asked Reply) (d : Side Body Asked Reply) → HandShows course which c d.now ≡ Goes b which c d.now → client_later which c [] ≡ [] →
    (if is_handed which && not b then idle else b && not fresh) ≡ true → d.fresh ≡ fresh → (idle ≡ true → d.halves.out.holding ≡ None) → Shows course which c x d.now → is_free x d d.now ≡ true
sent_free b course which c fresh idle x d k l o s i h =
    ap (λ (y : Speech Body Asked Reply). is_free y d d.now) h.0 ∙ over_free b which c fresh idle d l o s i (subst (λ (T : Type 0). T) k h.1)

pub goes_is : (course : Course) (which : Which) (c : Talking) (now : Rows) → course ≡ Course.Goes → HandShows course which c now ≡ Goes false which c now
goes_is course which c now e = ap (λ (z : Course). HandShows z which c now) e

pub answered_is : (course : Course) (which : Which) (c : Talking) (now : Rows) → course ≡ Course.Answered → HandShows course which c now ≡ Goes true which c now
answered_is course which c now e = ap (λ (z : Course). HandShows z which c now) e

pub nothing_free : (course : Course) (which : Which) (c : Talking) (x : Speech Body Asked Reply) (d : Side Body Asked Reply) → course ≡ Course.Nothing → Shows course which c x d.now → is_free x d d.now ≡ true
nothing_free course which c x d w h = ap (λ r. is_free x d r) (subst (λ (z : Course). HandShows z which c d.now) w h.1)

-- nothing is in hand of which the last write could be open
pub nothing_acknowledged : (course : Course) (which : Which) (c : Talking) (x : Speech Body Asked Reply) (d : Side Body Asked Reply) → course ≡ Course.Nothing → Shows course which c x d.now → Accounts.is_acknowledged x acknowledged d d.now ≡ true
nothing_acknowledged course which c x d w h = ap (λ r. Accounts.is_acknowledged x acknowledged d r) (subst (λ (z : Course). HandShows z which c d.now) w h.1)

-- the outward half is idle
pub idle_acknowledged : (x : Speech Body Asked Reply) (d : Side Body Asked Reply) (now : Rows) → d.halves.out.holding ≡ None → Accounts.is_acknowledged x acknowledged d now ≡ true
idle_acknowledged x d None e = refl
idle_acknowledged x d (Some r) e = by (ends_unheard x acknowledged r) e
  where
    by : (b : Bool) → d.halves.out.holding ≡ None → (if b then is_none d.halves.out.holding else true) ≡ true
    by true e = ap is_none e
    by false e = refl

-- the service is no read of a file
pub other_acknowledged : (course : Course) (which : Which) (c : Talking) (x : Speech Body Asked Reply) (d : Side Body Asked Reply) → course ≡ Course.Goes → is_read which ≡ false → Shows course which c x d.now →
    Accounts.is_acknowledged x acknowledged d d.now ≡ true
other_acknowledged course which c x d w n h =
    let g = subst (λ (z : Course). HandShows z which c d.now) w h.1 in
    ap (λ (y : Speech Body Asked Reply). Accounts.is_acknowledged y acknowledged d d.now) h.0 ∙ ap (λ r. Accounts.is_acknowledged (hand_speech c.areas) acknowledged d r) g.is
    ∙ ap (λ (z : Bool). if z then is_none d.halves.out.holding else true) (going_unheard which c d.now g ∙ n)

-- or has its answer, and delivered none
pub refused_acknowledged : (course : Course) (which : Which) (c : Talking) (x : Speech Body Asked Reply) (d : Side Body Asked Reply) → course ≡ Course.Answered → delivers which c ≡ false → Shows course which c x d.now →
    Accounts.is_acknowledged x acknowledged d d.now ≡ true
refused_acknowledged course which c x d w n h =
    let g = subst (λ (z : Course). HandShows z which c d.now) w h.1 in
    ap (λ (y : Speech Body Asked Reply). Accounts.is_acknowledged y acknowledged d d.now) h.0 ∙ ap (λ r. Accounts.is_acknowledged (hand_speech c.areas) acknowledged d r) g.is
    ∙ ap (λ (z : Bool). if z then is_none d.halves.out.holding else true) (answered_unheard which c d.now g ∙ n)

-- the row behind a mail, over any speech that the hand shows
pub heard_shown : (course : Course) (which : Which) (old new : Talking) (b : Body) (x : Speech Body Asked Reply) (frame : ℕ) (now : Rows) → x ≡ hand_speech old.areas → new.areas ≡ old.areas →
    HandShows course which new (option_map (λ r. row_heard (hand_speech old.areas) frame (b ∷ []) r) now) → Shows course which new x (option_map (λ r. row_heard x frame (b ∷ []) r) now)
heard_shown course which old new b x frame now e a h =
    (e ∙ ap hand_speech (sym a), subst (λ (y : Speech Body Asked Reply). HandShows course which new (option_map (λ r. row_heard y frame (b ∷ []) r) now)) (sym e) h)
