-- An audit's link tracks the halves of every link that may be behind it.
use Rattle.std.proofs.Common.{◌≡◌, ℕ, ◌==◌, Bool, true, false, not, ◌&&◌, ◌||◌, if◌then◌else◌, List, [], ◌∷◌, ◌++◌, length, refl, sym, ap, ◌∙◌, subst, append-nil, Option, Some, None, Result, Ok, Err, arith}
use Rattle.std.specs.Prelude.{slice_index}
use Rattle.std.specs.Str.{bytes_eq}
use Rattle.std.proofs.lemmas.Slice.Eq.{bytes_eq-Decides}
use Rattle.std.proofs.lemmas.Grind.{common_steps}
use Rattle.std.proofs.lemmas.Bool.Decides.{nat_tests}
use Rattle.capture_audit.specs.of_mailbox_mail.declared.mail.Mail.{Mail}
use Rattle.capture_audit.specs.of_mailbox_mail.declared.mail.MailFault.{MailFault}
use Rattle.capture_audit.specs.of_mailbox_mail.Mail.{mail_read}
use Rattle.mailbox_law.specs.of_link_model.Counters.{next_counter}
use Rattle.mailbox_law.specs.of_link_model.Mails.{LinkMail, is_repeat, news, seen, differs}
use Rattle.mailbox_law.specs.of_link_model.Master.{InHalf, InState, OutHalf, read_lost, read_answered}
use Rattle.mailbox_law.specs.of_link_model.Slave.{OutSide, served}
use Rattle.mailbox_law.specs.of_link_model.Link.{Link, written, write_counter, out_half_after, in_half_after, in_news}
use Rattle.mailbox_law.specs.of_link_mails.Body.{Body, link_mail, uncounted, bit_1}
use Rattle.mailbox_law.specs.Waiting.{bodies_of}
use Rattle.mailbox_law.specs.Steps.{fate_of}
use Rattle.mailbox_law.specs.declared.steps.LinkFate.{LinkFate}
use Rattle.mailbox_law.specs.declared.steps.LinkFate.TheVariants.{Pass, LostBefore, LostBehind}
use Rattle.capture_audit.specs.declared.access.MailAccess.{MailAccess}
use Rattle.capture_audit.specs.declared.access.MailAccess.TheVariants.{WriteMail, ReadMail}
use Rattle.capture_audit.specs.declared.link.Link.{Link as AuditLink}
use Rattle.capture_audit.specs.declared.link.Inward.{Inward}
use Rattle.capture_audit.specs.declared.link.Inward.TheVariants.{Clear, Doubt, Asked, Refetch}
use Rattle.capture_audit.specs.declared.rule.Rule.{Rule}
use Rattle.capture_audit.specs.declared.rule.Rule.TheVariants.{NoMail, OtherMail, BadReturn}
use Rattle.capture_audit.specs.of_mailbox_mail.Counter.{counter_behind}
use Rattle.capture_audit.specs.Exchanges.{Return, Sent}
use Rattle.capture_audit.specs.Rules.{link_rule, link_on, mails_sent, mails_accepted, write_rule, return_rule, sent_rule, first_rule, goes_on, write_on, mail_written, is_done, is_due, read_on, accept_on, mail_new, mail_back, request_on, acknowledge_on, same_bit}
use Rattle.audit_law.specs.Possible.{access_by, WriteReturns, InwardReturns}

-- the state of a half in the model
abbrev pub state_of : Inward → InState
state_of Clear = InState.Clear
state_of Doubt = InState.Doubt
state_of Asked = InState.Asked
state_of Refetch = InState.Refetch

-- what an outward half holds against the mails that were sent: the write that hasn't come back; or nothing, or a mail that
-- was taken up and not yet written, which is no repeat of what the slave has
abbrev pub TracksOut : Bool → List ℕ → Option (LinkMail Body) → OutSide Body → List Body → List Mail → Type 0
TracksOut true written holding side held sent = (m : Mail) × (holding ≡ Some (link_mail m)) × (mail_read written ≡ Ok m) × (held ≡ bodies_of sent)
TracksOut false written None side held sent = held ≡ bodies_of sent
TracksOut false written (Some lm) side held sent = (held ≡ bodies_of sent ++ lm.body ∷ []) × (is_repeat (seen side.last_taken side.box) lm ≡ false)

-- an audit's link against a link of the model, and the mails so far
pub record Tracks (a : AuditLink) (w : Link Body (List Body)) (sent accepted : List Mail) : Type 0 where
  pub out : TracksOut a.waits a.written w.halves.out.holding w.node.out w.held sent
  pub last : a.last_accepted ≡ w.halves.inn.last
  pub state : state_of a.state ≡ w.halves.inn.state
  pub bit : a.bit ≡ w.halves.inn.bit
  pub accepted_are : w.accepted ≡ bodies_of accepted

pub bodies-append : (xs ys : List Mail) → bodies_of (xs ++ ys) ≡ bodies_of xs ++ bodies_of ys
bodies-append [] ys = refl
bodies-append (x ∷ xs) ys = ap (λ (bs : List Body). Ok (uncounted x) ∷ bs) (bodies-append xs ys)

-- ---- the slave's side of mailbox 0

-- the counter that comes next is another one
next_differs : (c : ℕ) (body : Body) → is_repeat c (record { counter = next_counter c; body = body }) ≡ false
next_differs c body = grind (arith, nat_tests, common_steps)

seen_served_by : (s : OutSide Body) (m : LinkMail Body) (free again : Bool) → is_repeat s.last_taken m ≡ again → s.box ≡ Some m
    → (let n = if again then record s { box = None } else if free then record { box = None; last_taken = m.counter } else s in seen n.last_taken n.box) ≡ seen s.last_taken s.box
seen_served_by s m free true again is = grind (arith, nat_tests, common_steps)
seen_served_by s m true false again is = ap (λ b. seen s.last_taken b) (sym is)
seen_served_by s m false false again is = refl

-- taking what stands in mailbox 0 leaves the counter that the slave has seen
pub seen_served : (s : OutSide Body) (box : Option (LinkMail Body)) (free : Bool) → s.box ≡ box → seen (served s box free).last_taken (served s box free).box ≡ seen s.last_taken s.box
seen_served s None free is = refl
seen_served s (Some m) free is = seen_served_by s m free (is_repeat s.last_taken m) refl is

-- what is tracked of the outward half rests on that counter alone
pub side_out : (waits : Bool) (written : List ℕ) (holding : Option (LinkMail Body)) (side side' : OutSide Body) (held : List Body) (sent : List Mail) → seen side'.last_taken side'.box ≡ seen side.last_taken side.box
    → TracksOut waits written holding side held sent → TracksOut waits written holding side' held sent
side_out true written holding side side' held sent same t = t
side_out false written None side side' held sent same t = t
side_out false written (Some lm) side side' held sent same t = (t.0, ap (λ c. is_repeat c lm) same ∙ t.1)

-- ---- a mail is taken up

pub hold_out : (waits : Bool) (written : List ℕ) (h : OutHalf Body) (side : OutSide Body) (held : List Body) (sent : List Mail) (body : Body) → h.holding ≡ None → h.last ≡ seen (seen side.last_taken side.box) h.holding → TracksOut waits written h.holding side held sent
    → TracksOut waits written (Some (record { counter = next_counter h.last; body = body })) side (held ++ body ∷ []) sent
hold_out true written h side held sent body none last (m, holds, reads, all) = absurd cc
hold_out false written h side held sent body none last t =
    let all : held ≡ bodies_of sent = subst (λ x. TracksOut false written x side held sent) none t in
    let seen_last : h.last ≡ seen side.last_taken side.box = last ∙ ap (seen (seen side.last_taken side.box)) none in
    (ap (λ xs. xs ++ body ∷ []) all, subst (λ c. is_repeat c (record { counter = next_counter h.last; body = body }) ≡ false) seen_last (next_differs h.last body))

-- ---- a mail is written

-- what is tracked behind a write of the mail held, by what returned
write_tracks : (fate : LinkFate) (box : Option (LinkMail Body)) (back : Option Return) (h : OutHalf Body) (side : OutSide Body) (written : List ℕ) (held : List Body) (sent : List Mail) (m : Mail) → h.holding ≡ Some (link_mail m) → mail_read written ≡ Ok m → held ≡ bodies_of sent
    → WriteReturns fate (write_counter box) back → TracksOut (not (is_done back)) written (out_half_after h (Some (link_mail m)) box (fate_of fate)).holding side held sent
write_tracks Pass None back h side written held sent m holds reads all (b, is, counter) =
    let done : is_done back ≡ true = ap is_done is ∙ ap (λ (c : ℕ). c == 1) counter in
    rw done all
write_tracks Pass (Some stood) back h side written held sent m holds reads all (b, is, counter) =
    let done : is_done back ≡ false = ap is_done is ∙ ap (λ (c : ℕ). c == 1) counter in
    rw done (m, holds, reads, all)
write_tracks LostBefore box back h side written held sent m holds reads all is = rw is (m, holds, reads, all)
write_tracks LostBehind box back h side written held sent m holds reads all is = rw is (m, holds, reads, all)

-- a write that breaks no rule goes on
goes_by : (long on : Bool) → (if not long then Some NoMail else if not on then Some OtherMail else None) ≡ None → on ≡ true
goes_by true true is = refl
goes_by true false is = absurd cc
goes_by false on is = absurd cc

none_first : (x y : Option Rule) → first_rule x y ≡ None → (x ≡ None) × (y ≡ None)
none_first (Some r) y is = absurd cc
none_first None y is = (refl, is)

pub out_goes : (a : AuditLink) (d : Sent) (m : Mail) → link_rule a WriteMail d ≡ None → mail_read d.body ≡ Ok m → goes_on a d.body m ≡ true
out_goes a d m none reads =
    let first = (none_first (write_rule a d.body (mail_read d.body)) (return_rule a WriteMail d.back) none).0 in
    goes_by (length d.body == a.out_len) (goes_on a d.body m) (ap (write_rule a d.body) (sym reads) ∙ first)

-- the outward half behind a write that breaks no rule
out_by : (waits : Bool) (a : AuditLink) (d : Sent) (fate : LinkFate) (h : OutHalf Body) (side side' : OutSide Body) (box : Option (LinkMail Body)) (held : List Body) (sent : List Mail) (m : Mail) → a.waits ≡ waits → goes_on a d.body m ≡ true → mail_read d.body ≡ Ok m → h.holding ≡ Some (link_mail m)
    → WriteReturns fate (write_counter box) d.back → TracksOut waits a.written h.holding side held sent
    → (let n = if waits then record a { waits = not (is_done d.back) } else record a { last_sent = m.counter; written = d.body; waits = not (is_done d.back) } in
    TracksOut n.waits n.written (out_half_after h (Some (link_mail m)) box (fate_of fate)).holding side' held (sent ++ (if waits then [] else m ∷ [])))
out_by true a d fate h side side' box held sent m w goes reads holds back (m', holds', reads', all) =
    let same : bytes_eq d.body a.written ≡ true = ap (λ (b : Bool). if b then bytes_eq d.body a.written else m.counter == counter_behind a.last_sent) (sym w) ∙ goes in
    let equal : d.body ≡ a.written = (bytes_eq-Decides d.body a.written).0 same in
    write_tracks fate box d.back h side' a.written held (sent ++ []) m holds (ap mail_read (sym equal) ∙ reads) (all ∙ ap bodies_of (sym (append-nil sent))) back
out_by false a d fate h side side' box held sent m w goes reads holds back t =
    let own = subst (λ x. TracksOut false a.written x side held sent) holds t in
    write_tracks fate box d.back h side' d.body held (sent ++ m ∷ []) m holds reads (own.0 ∙ sym (bodies-append sent (m ∷ []))) back

pub out_tracks : (a : AuditLink) (d : Sent) (fate : LinkFate) (h : OutHalf Body) (side side' : OutSide Body) (box : Option (LinkMail Body)) (held : List Body) (sent : List Mail) (m : Mail) → link_rule a WriteMail d ≡ None → mail_read d.body ≡ Ok m → h.holding ≡ Some (link_mail m)
    → WriteReturns fate (write_counter box) d.back → TracksOut a.waits a.written h.holding side held sent
    → TracksOut (link_on a WriteMail d).waits (link_on a WriteMail d).written (out_half_after h h.holding box (fate_of fate)).holding side' held (sent ++ mails_sent a WriteMail d)
out_tracks a d fate h side side' box held sent m none reads holds back t =
    let goes = out_goes a d m none reads in
    subst (λ (r : Result Mail MailFault). TracksOut (write_on a d r).waits (write_on a d r).written (out_half_after h h.holding box (fate_of fate)).holding side' held (sent ++ mail_written a r)) (sym reads)
    (subst (λ (o : Option (LinkMail Body)). TracksOut (write_on a d (Ok m)).waits (write_on a d (Ok m)).written (out_half_after h o box (fate_of fate)).holding side' held (sent ++ mail_written a (Ok m))) (sym holds)
    (out_by a.waits a d fate h side side' box held sent m refl goes reads holds back t))

-- of two links the inward half is the same
abbrev SameIn : AuditLink → AuditLink → Type 0
SameIn x y = (x.last_accepted ≡ y.last_accepted) × (x.state ≡ y.state) × (x.bit ≡ y.bit)

same_if : (b : Bool) (x y a : AuditLink) → SameIn x a → SameIn y a → SameIn (if b then x else y) a
same_if true x y a p q = p
same_if false x y a p q = q

write_same : (a : AuditLink) (d : Sent) (r : Result Mail MailFault) → SameIn (write_on a d r) a
write_same a d (Err fault) = (refl, refl, refl)
write_same a d (Ok m) = same_if a.waits _ _ a (refl, refl, refl) (refl, refl, refl)

-- a write leaves what is tracked of the inward half
pub write_inward : (a : AuditLink) (d : Sent) → SameIn (link_on a WriteMail d) a
write_inward a d = write_same a d (mail_read d.body)

-- ---- the inward half

-- what is tracked of it
pub record TracksIn (a : AuditLink) (h : InHalf) : Type 0 where
  pub last : a.last_accepted ≡ h.last
  pub state : state_of a.state ≡ h.state
  pub bit : a.bit ≡ h.bit

read_lost_tracks : (a : AuditLink) (h : InHalf) (back : Option Return) → back ≡ None → TracksIn a h → TracksIn (read_on a back) (read_lost h) × (bodies_of (mail_back a back) ≡ [])
read_lost_tracks a h back is t = rw is (record { last = t.last; state = refl; bit = ap not t.bit }, refl)

read_none : (a : AuditLink) (h : InHalf) (back : Option Return) (b : Return) → back ≡ Some b → b.counter ≡ 0 → TracksIn a h → TracksIn (read_on a back) (read_answered {B = Body} h None) × (bodies_of (mail_back a back) ≡ [])
read_none a h back b is zero t = rw (is, zero) (record { last = t.last; state = refl; bit = t.bit }, refl)

due_by : (b : Bool) → (if b then None else Some BadReturn) ≡ None → b ≡ true
due_by true is = refl
due_by false is = absurd cc

due_of : (a : AuditLink) (b : Return) (m : Mail) → return_rule a ReadMail (Some b) ≡ None → b.counter ≡ 1 → mail_read b.body ≡ Ok m → is_due a (Ok m) ≡ true
due_of a b m none one reads =
    let due : (if is_due a (Ok m) then None else Some BadReturn) ≡ None = rw (one, reads) at none in
    due_by (is_due a (Ok m)) due

counted_of : (z b : Bool) → (not z && b) ≡ true → z ≡ false
counted_of true b is = absurd cc
counted_of false b is = refl

new_by : (b z : Bool) (m : Mail) → z ≡ false → bodies_of (if b then [] else m ∷ []) ≡ (if not z && b then [] else Ok (uncounted m) ∷ [])
new_by true true m is = absurd cc
new_by false true m is = absurd cc
new_by true false m is = refl
new_by false false m is = refl

read_some : (a : AuditLink) (d : Sent) (h : InHalf) (lm : LinkMail Body) (b : Return) (m : Mail) → link_rule a ReadMail d ≡ None → d.back ≡ Some b → b.counter ≡ 1 → mail_read b.body ≡ Ok m → lm ≡ link_mail m → TracksIn a h
    → TracksIn (read_on a d.back) (read_answered h (Some lm)) × (bodies_of (mail_back a d.back) ≡ news h.last (Some lm))
read_some a d h lm b m none is one reads same t =
    let second = (none_first (sent_rule a ReadMail d.body) (return_rule a ReadMail d.back) none).1 in
    let due = due_of a b m (ap (return_rule a ReadMail) (sym is) ∙ second) one reads in
    let counted : (m.counter == 0) ≡ false = counted_of (m.counter == 0) (m.counter == a.last_accepted || m.counter == counter_behind a.last_accepted) due in
    let fresh : bodies_of (mail_new a (Ok m)) ≡ news h.last (Some (link_mail m)) =
    new_by (m.counter == a.last_accepted) (m.counter == 0) m counted ∙ ap (λ (l : ℕ). if not (m.counter == 0) && (m.counter == l) then [] else Ok (uncounted m) ∷ []) t.last in
    rw (is, one, reads, same) (record { last = refl; state = refl; bit = t.bit }, fresh)

-- a read of mailbox 1, in either state that makes it
pub clear_tracks : (a : AuditLink) (d : Sent) (fate : LinkFate) (h : InHalf) (box : Option (LinkMail Body)) (ack : Bool) → link_rule a ReadMail d ≡ None → InwardReturns fate InState.Clear box ack d.back → TracksIn a h
    → TracksIn (read_on a d.back) (in_half_after h InState.Clear box ack (fate_of fate)) × (bodies_of (mail_back a d.back) ≡ in_news h InState.Clear box (fate_of fate))
clear_tracks a d Pass h None ack none (b, is, zero) t = read_none a h d.back b is zero t
clear_tracks a d Pass h (Some lm) ack none (b, is, ans) t = read_some a d h lm b ans.1 none is ans.0 ans.2 ans.3 t
clear_tracks a d LostBefore h box ack none is t = read_lost_tracks a h d.back is t
clear_tracks a d LostBehind h box ack none is t = read_lost_tracks a h d.back is t

pub refetch_tracks : (a : AuditLink) (d : Sent) (fate : LinkFate) (h : InHalf) (box : Option (LinkMail Body)) (ack : Bool) → link_rule a ReadMail d ≡ None → InwardReturns fate InState.Refetch box ack d.back → TracksIn a h
    → TracksIn (read_on a d.back) (in_half_after h InState.Refetch box ack (fate_of fate)) × (bodies_of (mail_back a d.back) ≡ in_news h InState.Refetch box (fate_of fate))
refetch_tracks a d Pass h None ack none (b, is, zero) t = read_none a h d.back b is zero t
refetch_tracks a d Pass h (Some lm) ack none (b, is, ans) t = read_some a d h lm b ans.1 none is ans.0 ans.2 ans.3 t
refetch_tracks a d LostBefore h box ack none is t = read_lost_tracks a h d.back is t
refetch_tracks a d LostBehind h box ack none is t = read_lost_tracks a h d.back is t

-- the write of the repeat request
pub doubt_tracks : (a : AuditLink) (fate : LinkFate) (h : InHalf) (box : Option (LinkMail Body)) (ack : Bool) (back : Option Return) → InwardReturns fate InState.Doubt box ack back → TracksIn a h
    → TracksIn (request_on a back) (in_half_after h InState.Doubt box ack (fate_of fate)) × ([] ≡ in_news h InState.Doubt box (fate_of fate))
doubt_tracks a Pass h box ack back (b, is, one) t = rw (is, one) (record { last = t.last; state = refl; bit = t.bit }, refl)
doubt_tracks a LostBefore h box ack back is t = rw is (t, refl)
doubt_tracks a LostBehind h box ack back is t = rw is (t, refl)

asked_by : (a : AuditLink) (h : InHalf) (x y : Bool) → TracksIn a h → TracksIn (if same_bit x y then record a { state = Refetch } else a) (if differs x y then h else record h { state = InState.Refetch })
asked_by a h true true t = record { last = t.last; state = refl; bit = t.bit }
asked_by a h true false t = t
asked_by a h false true t = t
asked_by a h false false t = record { last = t.last; state = refl; bit = t.bit }

-- the read of its acknowledge
pub asked_tracks : (a : AuditLink) (fate : LinkFate) (h : InHalf) (box : Option (LinkMail Body)) (ack : Bool) (back : Option Return) → InwardReturns fate InState.Asked box ack back → TracksIn a h
    → TracksIn (acknowledge_on a back) (in_half_after h InState.Asked box ack (fate_of fate)) × ([] ≡ in_news h InState.Asked box (fate_of fate))
asked_tracks a Pass h box ack back (b, is, ans) t =
    let x : Bool = bit_1 (slice_index b.body 0) in
    let own : TracksIn (if same_bit x a.bit then record a { state = Refetch } else a) (if differs x a.bit then h else record h { state = InState.Refetch }) = asked_by a h x a.bit t in
    let half : TracksIn (if same_bit x a.bit then record a { state = Refetch } else a) (if differs x h.bit then h else record h { state = InState.Refetch }) =
    subst (λ (y : Bool). TracksIn (if same_bit x a.bit then record a { state = Refetch } else a) (if differs x y then h else record h { state = InState.Refetch })) t.bit own in
    let both : TracksIn (if same_bit x a.bit then record a { state = Refetch } else a) (if differs ack h.bit then h else record h { state = InState.Refetch }) =
    subst (λ (k : Bool). TracksIn (if same_bit x a.bit then record a { state = Refetch } else a) (if differs k h.bit then h else record h { state = InState.Refetch })) ans.1 half in
    let read : acknowledge_on a back ≡ (if same_bit x a.bit then record a { state = Refetch } else a) =
    ap (acknowledge_on a) is ∙ ap (λ (c : ℕ). if c == 0 then a else if same_bit x a.bit then record a { state = Refetch } else a) ans.0 in
    (subst (λ (l : AuditLink). TracksIn l (if differs ack h.bit then h else record h { state = InState.Refetch })) (sym read) both, refl)
asked_tracks a LostBefore h box ack back is t = rw is (t, refl)
asked_tracks a LostBehind h box ack back is t = rw is (t, refl)

-- ---- any datagram of the inward half

-- what an access leaves of what is tracked of the outward half
abbrev SameOut : AuditLink → AuditLink → Type 0
SameOut x y = (x.waits ≡ y.waits) × (x.written ≡ y.written)

same_out_if : (b : Bool) (x y a : AuditLink) → SameOut x a → SameOut y a → SameOut (if b then x else y) a
same_out_if true x y a p q = p
same_out_if false x y a p q = q

accept_out : (a : AuditLink) (r : Result Mail MailFault) → SameOut (accept_on a r) a
accept_out a (Ok m) = (refl, refl)
accept_out a (Err fault) = (refl, refl)

read_out : (a : AuditLink) (back : Option Return) → SameOut (read_on a back) a
read_out a None = (refl, refl)
read_out a (Some b) = same_out_if (b.counter == 0) _ _ a (refl, refl) (accept_out a (mail_read b.body))

request_out : (a : AuditLink) (back : Option Return) → SameOut (request_on a back) a
request_out a None = (refl, refl)
request_out a (Some b) = same_out_if (b.counter == 0) _ _ a (refl, refl) (refl, refl)

acknowledge_out : (a : AuditLink) (back : Option Return) → SameOut (acknowledge_on a back) a
acknowledge_out a None = (refl, refl)
acknowledge_out a (Some b) = same_out_if (b.counter == 0) _ _ a (refl, refl) (same_out_if (same_bit (bit_1 (slice_index b.body 0)) a.bit) _ _ a (refl, refl) (refl, refl))

-- what a datagram of the inward half does
pub record StepsIn (a : AuditLink) (access : MailAccess) (d : Sent) (fate : LinkFate) (h : InHalf) (state : InState) (box : Option (LinkMail Body)) (ack : Bool) : Type 0 where
  pub half : TracksIn (link_on a access d) (in_half_after h state box ack (fate_of fate))
  pub mails : bodies_of (mails_accepted a access d) ≡ in_news h state box (fate_of fate)
  pub nothing : mails_sent a access d ≡ []
  pub out : SameOut (link_on a access d) a

pub in_tracks : (state : InState) (a : AuditLink) (d : Sent) (fate : LinkFate) (h : InHalf) (box : Option (LinkMail Body)) (ack : Bool) → link_rule a (access_by state) d ≡ None → InwardReturns fate state box ack d.back → TracksIn a h → StepsIn a (access_by state) d fate h state box ack
in_tracks InState.Clear a d fate h box ack none back t =
    let step = clear_tracks a d fate h box ack none back t in
    record { half = step.0; mails = step.1; nothing = refl; out = read_out a d.back }
in_tracks InState.Doubt a d fate h box ack none back t =
    let step = doubt_tracks a fate h box ack d.back back t in
    record { half = step.0; mails = step.1; nothing = refl; out = request_out a d.back }
in_tracks InState.Asked a d fate h box ack none back t =
    let step = asked_tracks a fate h box ack d.back back t in
    record { half = step.0; mails = step.1; nothing = refl; out = acknowledge_out a d.back }
in_tracks InState.Refetch a d fate h box ack none back t =
    let step = refetch_tracks a d fate h box ack none back t in
    record { half = step.0; mails = step.1; nothing = refl; out = read_out a d.back }
