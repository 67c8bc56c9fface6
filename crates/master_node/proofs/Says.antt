-- WHAT A MASTER SAYS of the newest service of a slave.
use Rattle.std.proofs.Common.{◌≡◌, ◌<◌, ◌≤◌, ℕ, zero, suc, true, false, Option, Some, None, List, [], ◌∷◌, ◌++◌, length, get_or, refl, ap, sym, ◌∙◌, subst, arith}
use Rattle.std.specs.Prelude.{IfSome, IfOk, Result, Ok, Err, slice_get, is_some, Bool, if◌then◌else◌}
use Rattle.std.proofs.lemmas.List.{append-nil}
use Rattle.life_runs.specs.of_exchange_model.Exchange.{Speech}
use Rattle.life_runs.specs.of_exchange_model.Rows.{Row}
use Rattle.life_runs.specs.of_frame_view.View.{Lens}
use Rattle.life_runs.specs.of_frame_view.Shares.{AllBoth, Lived}
use Rattle.life_runs.specs.of_life_model.Lives
use Rattle.life_runs.specs.Led.{Leads}
use Rattle.life_runs.specs.of_link_mails.Body.{Body}
use Rattle.life_runs.specs.of_mailbox_mail.declared.outcome.ReplyKind.{ReplyKind}
use Rattle.life_runs.specs.of_master_duty.Reply.{Reply}
use Rattle.life_runs.specs.of_master_duty.declared.duty.Duty.{Duty}
use Rattle.life_runs.specs.of_protocol_models.EoeClient as EoeClient
use Rattle.life_runs.specs.of_protocol_models.FoeMeaning as FoeMeaning
use Rattle.life_runs.specs.of_master_hand.Grips.{HasIt}
use Rattle.life_runs.specs.of_master_hand.Passed.{at_end, passed_awaits}
use Rattle.life_runs.specs.of_master_hand.declared.passed.PassedMail.{PassedMail}
use Rattle.life_runs.specs.of_master_hand.Shown.{Shows, has_reply}
use Rattle.life_runs.specs.of_master_hand.Spoken.{Asked, sdo, file, drive, net, passed, is_passed, passed_ends}
use Rattle.life_runs.specs.of_master_hand.Talk.{Talking, IsOf, is_mail, which_of, client_awaits, value_of}
use Rattle.life_runs.specs.of_master_hand.declared.clients.Which.{Which}
use Rattle.life_runs.specs.of_master_hand.declared.course.Course.{Course}
use Rattle.life_runs.specs.of_master_hand.declared.hand.InHand.{InHand}
use Rattle.life_runs.specs.of_master_side.Carried.{in_hand}
use Rattle.life_runs.specs.of_master_side.Shown.{DutyShows}
use Rattle.life_runs.specs.of_master_side.declared.hand.Hand.{Ghosts}
use Rattle.life_runs.specs.of_master_tour.Stands.{StandShows}
use Rattle.life_runs.specs.of_master_tour.declared.stop.Stand.{Stand}
use Rattle.life_runs.specs.of_master_tour.declared.stop.Stop.{Stop}
use Rattle.life_runs.specs.of_state_model.Accounts
use Rattle.master_node.specs.Shows.{IsLived, side_shows}
use Rattle.master_node.specs.Told.{IsTold, Tells, answer_at, value_by, value_in}
use Rattle.master_node.specs.declared.post.Post.{Post}
use Rattle.master_node.specs.declared.told.Told.{Told}

abbrev Held : Type 0
Held = Row Body Asked Reply

-- BY THE HAND
some_of : {T : Type 0} (o : Option T) → is_some o ≡ true → (x : T) × (o ≡ Some x)
some_of None e = absurd (let bad : false ≡ true = e in cc)
some_of (Some x) e = (x, refl)

none_of : {T : Type 0} (o : Option T) → is_some o ≡ false → o ≡ None
none_of None e = refl
none_of (Some x) e = absurd (let bad : true ≡ false = e in cc)

same_row : (now : Option Held) (r row : Held) → now ≡ Some r → now ≡ Some row → r ≡ row
same_row now r row e f = let same : Some r ≡ Some row = sym e ∙ f in cc

-- no reply is there
pub waits_by : (course : Course) (which : Which) (c : Talking) (x : Speech Body Asked Reply) (now : Option Held) → has_reply course ≡ false → Shows course which c x now → (row : Held) → now ≡ Some row → row.answer ≡ None
waits_by Course.Nothing which c x now n h row e = absurd (let bad : None ≡ Some row = sym h.1 ∙ e in cc)
waits_by Course.Goes which c x now n h row e = let g = h.1 in ap (λ (r : Held). r.answer) (sym (same_row now g.row row g.is e)) ∙ none_of g.row.answer g.answer
waits_by Course.Answered which c x now n h row e = absurd (let bad : true ≡ false = n in cc)
waits_by Course.Mute which c x now n h row e = let g = h.1 in ap (λ (r : Held). r.answer) (sym (same_row now g.row row g.is e)) ∙ none_of g.row.answer g.answer
waits_by Course.Closed which c x now n h row e = absurd (let bad : true ≡ false = n in cc)
waits_by Course.Astray which c x now n h row e = let g = h.1 in ap (λ (r : Held). r.answer) (sym (same_row now g.row row g.is e)) ∙ none_of g.row.answer g.answer

-- one is
pub has_it : (course : Course) (which : Which) (c : Talking) (x : Speech Body Asked Reply) (now : Option Held) → has_reply course ≡ true → Shows course which c x now → HasIt (IsOf which) (client_awaits which c []) now
has_it Course.Nothing which c x now n h = absurd (let bad : false ≡ true = n in cc)
has_it Course.Goes which c x now n h = absurd (let bad : false ≡ true = n in cc)
has_it Course.Answered which c x now n h =
    let g = h.1 in
    let a = some_of g.row.answer g.answer in
    record { row = g.row; answer = a.0; is = g.is; kind = g.kind; answered = a.1; kept = g.kept a.0 a.1 }
has_it Course.Mute which c x now n h = absurd (let bad : false ≡ true = n in cc)
has_it Course.Closed which c x now n h = h.1
has_it Course.Astray which c x now n h = absurd (let bad : false ≡ true = n in cc)

pub told_answer : (course : Course) (which : Which) (c : Talking) (kind : ReplyKind) (old new : List ℕ) → has_reply course ≡ true → new ≡ old ++ value_of which c →
    ((x : Speech Body Asked Reply) (now : Option Held) (row : Held) (a : Reply × ℕ) → Shows course which c x now → now ≡ Some row → row.answer ≡ Some a → a.0 ≡ Some (kind, value_of which c)) →
    (x : Speech Body Asked Reply) (now : Option Held) → Shows course which c x now → Tells (Told.Answered kind) old new now
told_answer course which c kind old new n e told x now h =
    let g = has_it course which c x now n h in
    (value_of which c, e, record { row = g.row; frame = g.answer.1; is = g.is; answer = g.answered ∙ ap (λ (z : Reply). Some (z, g.answer.1)) (told x now g.row g.answer h g.is g.answered) })

mail_passed : (q : Asked) → is_mail (which_of q) ≡ is_passed q
mail_passed (sdo q) = refl
mail_passed (file (FoeMeaning.read name pass)) = refl
mail_passed (file (FoeMeaning.write name pass bytes)) = refl
mail_passed (drive q) = refl
mail_passed (net (EoeClient.set_ip block)) = refl
mail_passed (net EoeClient.get_ip) = refl
mail_passed (net (EoeClient.packet octets frame)) = refl
mail_passed (passed m) = refl

pub told_passed : (course : Course) (which : Which) (c : Talking) (x : Speech Body Asked Reply) (now : Option Held) → has_reply course ≡ true → is_mail which ≡ true → Shows course which c x now → (row : Held) → now ≡ Some row → is_passed row.service ≡ true
told_passed course which c x now n p h row e =
    let g = has_it course which c x now n h in
    ap (λ (r : Held). is_passed r.service) (sym (same_row now g.row row g.is e)) ∙ sym (mail_passed g.row.service) ∙ ap is_mail g.kind ∙ p

-- ITS VALUE: none while no reply is there
pub value_waits : (course : Course) (which : Which) (c : Talking) (x : Speech Body Asked Reply) (now : Option Held) (old new : List ℕ) → has_reply course ≡ false → Shows course which c x now → new ≡ old → new ≡ old ++ value_in now
value_waits course which c x None old new n h e = e ∙ sym (append-nil old)
value_waits course which c x (Some row) old new n h e = e ∙ sym (ap (λ z. old ++ value_by z) (waits_by course which c x (Some row) n h row refl) ∙ append-nil old)

-- the client's
pub value_answer : (course : Course) (which : Which) (c : Talking) (kind : ReplyKind) (old new : List ℕ) → has_reply course ≡ true → new ≡ old ++ value_of which c →
    ((x : Speech Body Asked Reply) (now : Option Held) (row : Held) (a : Reply × ℕ) → Shows course which c x now → now ≡ Some row → row.answer ≡ Some a → a.0 ≡ Some (kind, value_of which c)) →
    (x : Speech Body Asked Reply) (now : Option Held) → Shows course which c x now → new ≡ old ++ value_in now
value_answer course which c kind old new n e told x now h =
    let g = has_it course which c x now n h in
    e ∙ sym (ap (λ z. old ++ value_in z) g.is ∙ ap (λ z. old ++ value_by z) g.answered ∙ ap (λ (z : Reply). old ++ value_by (Some (z, g.answer.1))) (told x now g.row g.answer h g.is g.answered))

-- none where a mail is passed on
none_at_end : (p : PassedMail) (a : Reply) → passed_awaits p [] ≡ Some a → a ≡ None
none_at_end p a e = by p.over e
  where
    by : (b : Bool) → (if b then at_end [] else passed_ends []) ≡ Some a → a ≡ None
    by true e = cc
    by false e = cc

none_mail : (which : Which) (c : Talking) (a : Reply) → is_mail which ≡ true → client_awaits which c [] ≡ Some a → a ≡ None
none_mail Which.Coe c a p e = absurd (let bad : false ≡ true = p in cc)
none_mail Which.ReadFile c a p e = absurd (let bad : false ≡ true = p in cc)
none_mail Which.WriteFile c a p e = absurd (let bad : false ≡ true = p in cc)
none_mail Which.Soe c a p e = absurd (let bad : false ≡ true = p in cc)
none_mail Which.Address c a p e = absurd (let bad : false ≡ true = p in cc)
none_mail Which.Packet c a p e = absurd (let bad : false ≡ true = p in cc)
none_mail Which.Passed c a p e = none_at_end c.passed a e

pub value_passed : (course : Course) (which : Which) (c : Talking) (x : Speech Body Asked Reply) (now : Option Held) (old new : List ℕ) → has_reply course ≡ true → is_mail which ≡ true → Shows course which c x now → new ≡ old → new ≡ old ++ value_in now
value_passed course which c x now old new n p h e =
    let g = has_it course which c x now n h in
    e ∙ sym (ap (λ z. old ++ value_in z) g.is ∙ ap (λ z. old ++ value_by z) g.answered ∙ ap (λ (z : Reply). old ++ value_by (Some (z, g.answer.1))) (none_mail which c g.answer.0 p g.kept) ∙ append-nil old)

-- BY THE STOP
duty_some : (duty : Option Duty) (hand : Option Accounts.Duty) → DutyShows duty hand → is_some duty ≡ is_some hand
duty_some None hand e = sym (ap is_some e)
duty_some (Some duty) hand e = sym (ap is_some e.1)

module _ {G : Ghosts InHand} (lens : ℕ → Lens) (recover : ℕ) where
  open_shows : (a : Lived Asked Reply) (s : Stop InHand G) (stand : Stand) → StandShows (λ d b. side_shows lens recover s a.spot d b) a.spot stand a.life → a.life.stand ≡ Lives.Stand.Open →
      side_shows lens recover s a.spot a.life.era.side a.life.era.account
  open_shows a s (Stand.Opening up) h e = absurd (let bad = sym h.stand ∙ e in cc)
  open_shows a s Stand.Open h e = h.1
  open_shows a s Stand.Gone h e = absurd (let bad = sym h ∙ e in cc)

  pub lived_open : (a : Lived Asked Reply) (s : Stop InHand G) → IsLived lens recover a s → a.life.stand ≡ Lives.Stand.Open → side_shows lens recover s a.spot a.life.era.side a.life.era.account
  lived_open a s l e = open_shows a s s.stand l.shown.stood e

  pub lead_open : (a : Leads) (s : Stop InHand G) → IsTold lens recover a s → a.lived.life.stand ≡ Lives.Stand.Open → side_shows lens recover s a.lived.spot a.lived.life.era.side a.lived.life.era.account
  lead_open a s l e = lived_open a.lived s l.lives e

  pub duty_open : (a : Leads) (s : Stop InHand G) → IsTold lens recover a s → a.lived.life.stand ≡ Lives.Stand.Open → is_some (in_hand s.side.duty) ≡ is_some a.lived.life.era.account.hand
  duty_open a s l e = duty_some (in_hand s.side.duty) a.lived.life.era.account.hand (lead_open a s l e).state

-- AT A PLACE
pub both_here : {A S : Type 0} (P : A → S → Type 0) (Q : A → Type 0) (as' : List A) (ss : List S) (k : ℕ) (s : S) → AllBoth P as' ss → k < length ss → s ≡ get_or ss k s → ((a : A) → P a s → Q a) → IfSome (slice_get as' k) Q
both_here P Q [] [] k s x l e h = tt
both_here P Q [] (t ∷ ts) k s x l e h = absurd x
both_here P Q (a ∷ as') [] k s x l e h = absurd x
both_here P Q (a ∷ as') (t ∷ ts) zero s x l e h = h a (subst (P a) (sym e) x.0)
both_here P Q (a ∷ as') (t ∷ ts) (suc k) s x l e h = both_here P Q as' ts k s x.1 (omega (arith, l)) e h

-- the last answer of the slave at a place
pub answer_here : (ps : List Post) (k : ℕ) (p : Post) → k < length ps → p ≡ get_or ps k p → answer_at ps k ≡ p.answer
answer_here [] k p l e = absurd (omega (arith, l))
answer_here (q ∷ ps) zero p l e = ap (λ (z : Post). z.answer) (sym e)
answer_here (q ∷ ps) (suc k) p l e = answer_here ps k p (omega (arith, l)) e

pub answer_out : (ps : List Post) (k : ℕ) → length ps ≤ k → answer_at ps k ≡ None
answer_out [] k l = refl
answer_out (q ∷ ps) zero l = absurd (omega (arith, l))
answer_out (q ∷ ps) (suc k) l = answer_out ps k (omega (arith, l))

-- where a call came to a value
pub if_ok_so : {T E : Type 0} {P Q : T → Type 0} (r : Result T E) → ((t : T) → P t → Q t) → IfOk r P → IfOk r Q
if_ok_so (Ok t) h p = h t p
if_ok_so (Err e) h p = tt
