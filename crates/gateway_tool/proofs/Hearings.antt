-- What a datagram that was heard makes of a talk.
use Rattle.std.proofs.Common.{◌≡◌, ℕ, ◌+◌, ◌-◌, ◌*◌, ◌<◌, List, [], ◌∷◌, ◌++◌, Bool, true, false, Option, Some, None, refl, sym, ap, ◌∙◌, subst, length, arith, if◌then◌else◌, length-append, append-nil}
use Rattle.std.specs.Prelude.{◌||◌, not, is_some, nat_le}
use Rattle.std.proofs.lemmas.List.{append_assoc}
use Rattle.std.proofs.lemmas.Bool.{and_parts, and_from}
use Rattle.std.proofs.lemmas.Bool.Decides.{nat_tests}
use Rattle.gateway_core.specs.of_ec_outside.Port.{HeardGram}
use Rattle.gateway_core.specs.of_mailbox_mail.Mail.{error_of}
use Rattle.gateway_core.specs.of_mailbox_mail.declared.mail.Mail.{Mail}
use Rattle.gateway_core.specs.of_mailbox_mail.declared.outcome.ReplyKind.{ReplyKind}
use Rattle.gateway_core.specs.of_mailbox_mail.declared.outcome.Took.{Took}
use Rattle.link_model.specs.Counters.{counter_of}
use Rattle.gateway_core.specs.Framing.{request_in}
use Rattle.gateway_tool.specs.Rule.{Call, Standing, planned, ends, said, replied, is_next, mail_in, mail_to, hears_mail, hears, hears_all, is_spent, is_open, are_awaited, at_first, passed_over, with_mail}
use Rattle.gateway_tool.specs.Told.{Told}
use Rattle.gateway_tool.specs.Client.{left, awaits, Takes}
use Rattle.gateway_tool.specs.Talk.{Stands, heard_by, HearsMail, passed_behind, taken_behind, Goes, HasHeard, most_left, is_done}
use Rattle.gateway_tool.specs.declared.client.Client.{Client}
use Rattle.gateway_tool.specs.declared.talk.Talk.{Talk}

-- tests

or_left : (a b : Bool) → a ≡ true → (a || b) ≡ true
or_left true b e = refl
or_left false b e = absurd (cc)

or_right : (a b : Bool) → b ≡ true → (a || b) ≡ true
or_right true b e = refl
or_right false b e = e

or_none : (a b : Bool) → a ≡ false → b ≡ false → (a || b) ≡ false
or_none true b e f = absurd (cc)
or_none false b e f = f

pub below_not : (n m : ℕ) → m < n → nat_le n m ≡ false
below_not n m h = grind (arith, nat_tests, h)

-- what is kept of a talk behind a datagram
pub record Keeps (took : Took) (old new : Talk) : Type 0 where
  pub counter : new.counter ≡ old.counter
  pub station : new.station ≡ old.station
  pub to : new.to ≡ old.to
  pub passed : new.passed ≡ passed_behind took old.passed
  pub taken : new.taken ≡ taken_behind took old.taken

-- a mail that may come next is taken

stands_with : (c : Call) (s : Standing) (told : List Mail) (old new : Talk) (m : Mail) → Stands c s told old → ((hs : List Mail) → left new.client hs ≡ left old.client (m ∷ hs)) → ((hs : List Mail) → awaits new.client hs ≡ awaits old.client (m ∷ hs)) →
    new.counter ≡ old.counter → new.station ≡ old.station → new.to ≡ old.to → new.passed ≡ 0 → new.taken ≡ old.taken + 1 → Stands c (with_mail s m) told new
stands_with c s told old new m h l a counter at peer passed taken = record {
  mails = λ hs. ap (λ (ms : List Mail). told ++ ms) (l hs) ∙ h.mails (m ∷ hs) ∙ ap (λ (ms : List Mail). planned c.areas c.service ms) (sym (append_assoc s.taken (m ∷ []) hs));
  replies = λ hs. a hs ∙ h.replies (m ∷ hs) ∙ ap (λ (ms : List Mail). ends c.areas c.service ms) (sym (append_assoc s.taken (m ∷ []) hs));
  counter = counter ∙ h.counter;
  taken = taken ∙ ap (λ (n : ℕ). n + 1) h.taken ∙ sym (length-append s.taken (m ∷ []));
  passed = passed;
  station = at ∙ h.station;
  to = peer ∙ h.to;
}

stands_past : (c : Call) (s : Standing) (told : List Mail) (old new : Talk) → Stands c s told old → new.client ≡ old.client → new.counter ≡ old.counter → new.station ≡ old.station → new.to ≡ old.to → new.passed ≡ old.passed + 1 → new.taken ≡ old.taken →
    Stands c (passed_over s) told new
stands_past c s told old new h same counter at peer passed taken = record {
  mails = λ hs. ap (λ (k : Client). told ++ left k hs) same ∙ h.mails hs;
  replies = λ hs. ap (λ (k : Client). awaits k hs) same ∙ h.replies hs;
  counter = counter ∙ h.counter;
  taken = taken ∙ h.taken;
  passed = (let e = h.passed in omega (arith, passed, e));
  station = at ∙ h.station;
  to = peer ∙ h.to;
}

is_taken : (c : Call) (s : Standing) (told : List Mail) (t : Talk) (m : Mail) → is_next c s m ≡ true → Stands c (with_mail s m) told t → Stands c (hears_mail c s (Some m)) told t
is_taken c s told t m e h = subst (λ (b : Bool). Stands c (if b then with_mail s m else passed_over s) told t) (sym e) h

is_passed : (c : Call) (s : Standing) (told : List Mail) (t : Talk) (m : Mail) → is_next c s m ≡ false → Stands c (passed_over s) told t → Stands c (hears_mail c s (Some m)) told t
is_passed c s told t m e h = subst (λ (b : Bool). Stands c (if b then with_mail s m else passed_over s) told t) (sym e) h

hears_mail_so : (took : Took) (c : Call) (s : Standing) (told : List Mail) (old new : Talk) (m : Mail) → Stands c s told old → Takes took old.client m new.client → Keeps took old new → Stands c (hears_mail c s (Some m)) told new
hears_mail_so Took.More c s told old new m h t k =
    let some : is_some (ends c.areas c.service (s.taken ++ m ∷ error_of 0 ∷ [])) ≡ true = ap is_some (sym (t.0.replies (error_of 0 ∷ []) ∙ h.replies (m ∷ error_of 0 ∷ []))) ∙ t.2 in
    is_taken c s told new m (or_right (is_some (ends c.areas c.service (s.taken ++ m ∷ []))) (is_some (ends c.areas c.service (s.taken ++ m ∷ error_of 0 ∷ []))) some)
    (stands_with c s told old new m h t.0.mails t.0.replies k.counter k.station k.to k.passed k.taken)
hears_mail_so Took.Done c s told old new m h t k =
    let some : is_some (ends c.areas c.service (s.taken ++ m ∷ [])) ≡ true = ap is_some (sym (t.0.replies [] ∙ h.replies (m ∷ []))) ∙ t.1 in
    is_taken c s told new m (or_left (is_some (ends c.areas c.service (s.taken ++ m ∷ []))) (is_some (ends c.areas c.service (s.taken ++ m ∷ error_of 0 ∷ []))) some)
    (stands_with c s told old new m h t.0.mails t.0.replies k.counter k.station k.to k.passed k.taken)
hears_mail_so Took.Foreign c s told old new m h t k =
    let one : is_some (ends c.areas c.service (s.taken ++ m ∷ [])) ≡ false = ap is_some (sym (h.replies (m ∷ [])) ∙ t.0 []) in
    let two : is_some (ends c.areas c.service (s.taken ++ m ∷ error_of 0 ∷ [])) ≡ false = ap is_some (sym (h.replies (m ∷ error_of 0 ∷ [])) ∙ t.0 (error_of 0 ∷ [])) in
    is_passed c s told new m (or_none (is_some (ends c.areas c.service (s.taken ++ m ∷ []))) (is_some (ends c.areas c.service (s.taken ++ m ∷ error_of 0 ∷ []))) one two)
    (stands_past c s told old new h t.1 k.counter k.station k.to k.passed k.taken)

keeps_foreign : (took : Took) (old new : Talk) → took ≡ Took.Foreign → Keeps took old new → Keeps Took.Foreign old new
keeps_foreign took old new e k = subst (λ (t : Took). Keeps t old new) e k

hears_so : (o : Option Mail) (took : Took) (c : Call) (s : Standing) (told : List Mail) (old new : Talk) → Stands c s told old → HearsMail took o old.client new.client → Keeps took old new → Stands c (hears_mail c s o) told new
hears_so None took c s told old new h t k = let f = keeps_foreign took old new t.0 k in stands_past c s told old new h t.1 f.counter f.station f.to f.passed f.taken
hears_so (Some m) took c s told old new h t k = hears_mail_so took c s told old new m h t k

-- the mails told and those left are all that are to be sent so far
pub so_said : (c : Call) (s : Standing) (told : List Mail) (t : Talk) → Stands c s told t → told ++ left t.client [] ≡ said c s
so_said c s told t h = h.mails [] ∙ ap (λ (ms : List Mail). planned c.areas c.service ms) (append-nil s.taken)

pub all_said : (c : Call) (s : Standing) (told : List Mail) (t : Talk) → Stands c s told t → left t.client [] ≡ [] → told ≡ said c s
all_said c s told t h e = sym (append-nil told) ∙ ap (λ (ms : List Mail). told ++ ms) (sym e) ∙ so_said c s told t h

-- and the reply awaited is the one that came
pub so_replied : (c : Call) (s : Standing) (told : List Mail) (t : Talk) → Stands c s told t → awaits t.client [] ≡ replied c s
so_replied c s told t h = h.replies [] ∙ ap (λ (ms : List Mail). ends c.areas c.service ms) (append-nil s.taken)

-- datagrams in turn

hears_push : (c : Call) (s : Standing) (gs : List HeardGram) (g : HeardGram) → hears_all c s (gs ++ g ∷ []) ≡ hears c (hears_all c s gs) g.bytes
hears_push c s [] g = refl
hears_push c s (x ∷ gs) g = hears_push c (hears c s x.bytes) gs g

awaited_push : (c : Call) (s : Standing) (gs : List HeardGram) (g : HeardGram) → are_awaited c s gs ≡ true → is_open c (hears_all c s gs) ≡ true → are_awaited c s (gs ++ g ∷ []) ≡ true
awaited_push c s [] g a o = and_from (is_open c s) true o refl
awaited_push c s (x ∷ gs) g a o =
    let p = and_parts (is_open c s) (are_awaited c (hears c s x.bytes) gs) a in
    and_from (is_open c s) (are_awaited c (hears c s x.bytes) (gs ++ g ∷ [])) p.0 (awaited_push c (hears c s x.bytes) gs g p.1 o)

pub not_spent : (s : Standing) (told : List Mail) (c : Call) (t : Talk) → Stands c s told t → t.passed < 65536 → t.taken < 65536 → is_spent s ≡ false
not_spent s told c t h p n =
    let a = h.passed in
    let b = h.taken in
    or_none (nat_le 65536 s.passed) (nat_le 65536 (length s.taken)) (below_not 65536 s.passed (omega (arith, a, p))) (below_not 65536 (length s.taken) (omega (arith, b, n)))

is_open_so : (c : Call) (s : Standing) → replied c s ≡ None → is_spent s ≡ false → is_open c s ≡ true
is_open_so c s r n = and_from (not (is_some (replied c s))) (not (is_spent s)) (ap (λ (o : Option (ReplyKind × List ℕ)). not (is_some o)) r) (ap not n)

pub hears_gram : (c : Call) (first now : Told) (old new : Talk) (took : Took) → HasHeard c first now old → left old.client [] ≡ [] → awaits old.client [] ≡ None → old.passed < 65536 → old.taken < 65536 → HearsMail took (heard_by old) old.client new.client → Keeps took old new →
    Goes c first now new
hears_gram c first now old new took h e n p t heard k =
    let s : Standing = hears_all c at_first h.grams in
    let counted : old.counter ≡ counter_of (length (said c s)) = h.stands.counter ∙ ap (λ (ms : List Mail). counter_of (length ms)) (all_said c s h.told old h.stands e) in
    let same : hears_mail c s (heard_by old) ≡ hears c s old.gram.items =
    (λ i. hears_mail c s (mail_to (h.stands.station i) (counted i) (mail_in (request_in old.gram.items)))) in
    let stands = subst (λ (z : Standing). Stands c z h.told new) same (hears_so (heard_by old) took c s h.told old new h.stands heard k) in
    let open_so = is_open_so c s (sym (so_replied c s h.told old h.stands) ∙ n) (not_spent s h.told c old h.stands p t) in
    record {
      grams = h.grams ++ record { from = h.«from»; bytes = old.gram.items } ∷ [];
      told = h.told;
      awaited = awaited_push c at_first h.grams (record { from = h.«from»; bytes = old.gram.items }) h.awaited open_so;
      stands = subst (λ (z : Standing). Stands c z h.told new) (sym (hears_push c at_first h.grams (record { from = h.«from»; bytes = old.gram.items }))) stands;
      heard = h.heard;
      sent = h.sent;
      later = h.later;
    }

-- whether the reply is complete

took_none : (took : Took) → took ≡ Took.Foreign → is_done took ≡ false
took_none took e = ap is_done e

pub replied_so : (o : Option Mail) (took : Took) (old new : Client) → awaits old [] ≡ None → HearsMail took o old new → is_some (awaits new []) ≡ is_done took
replied_so None took old new e t = ap is_some (ap (λ (k : Client). awaits k []) t.1 ∙ e) ∙ sym (took_none took t.0)
replied_so (Some m) Took.More old new e t = ap is_some t.1
replied_so (Some m) Took.Done old new e t = t.1
replied_so (Some m) Took.Foreign old new e t = ap is_some (ap (λ (k : Client). awaits k []) t.1 ∙ e)

pub quiet_so : (o : Option Mail) (took : Took) (old new : Client) (n : ℕ) → left old [] ≡ [] → HearsMail took o old new → 0 < passed_behind took n → left new [] ≡ []
quiet_so None took old new n e t h = ap (λ (k : Client). left k []) t.1 ∙ e
quiet_so (Some m) Took.More old new n e t h = absurd (omega (arith, h))
quiet_so (Some m) Took.Done old new n e t h = absurd (omega (arith, h))
quiet_so (Some m) Took.Foreign old new n e t h = ap (λ (k : Client). left k []) t.1 ∙ e

-- fewer datagrams may be heard

less_by : (took : Took) (p t : ℕ) → p < 65536 → t < 65536 → (65536 - taken_behind took t) * 65537 + (65536 - passed_behind took p) < (65536 - t) * 65537 + (65536 - p)
less_by Took.Foreign p t a b = omega (arith, a, b)
less_by Took.More p t a b = omega (arith, a, b)
less_by Took.Done p t a b = omega (arith, a, b)

pub less_left : (took : Took) (old new : Talk) → old.passed < 65536 → old.taken < 65536 → new.passed ≡ passed_behind took old.passed → new.taken ≡ taken_behind took old.taken → most_left new < most_left old
less_left took old new p t a b =
    let h = less_by took old.passed old.taken p t in
    subst (λ (n : ℕ). (65536 - n) * 65537 + (65536 - new.passed) < most_left old) (sym b) (subst (λ (n : ℕ). (65536 - taken_behind took old.taken) * 65537 + (65536 - n) < most_left old) (sym a) h)

-- a talk behind a datagram

pub keeps : (took : Took) (old mid new : Talk) → mid ≡ record old { client = mid.client } → new ≡ record mid { passed = passed_behind took mid.passed; taken = taken_behind took mid.taken } → Keeps took old new
keeps took old mid new e f = record {
  counter = ap (λ (t : Talk). t.counter) f ∙ ap (λ (t : Talk). t.counter) e;
  station = ap (λ (t : Talk). t.station) f ∙ ap (λ (t : Talk). t.station) e;
  to = ap (λ (t : Talk). t.to) f ∙ ap (λ (t : Talk). t.to) e;
  passed = ap (λ (t : Talk). t.passed) f ∙ ap (λ (t : Talk). passed_behind took t.passed) e;
  taken = ap (λ (t : Talk). t.taken) f ∙ ap (λ (t : Talk). taken_behind took t.taken) e;
}
