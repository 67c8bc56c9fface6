-- Each step of the outward half and of mailbox 0 keeps their agreement.
use Rattle.std.proofs.Common.{◌≡◌, Bool, true, false, Option, Some, None, List, [], ◌∷◌, ◌++◌, arith, refl, if◌then◌else◌}
use Rattle.std.proofs.lemmas.Grind.{common_steps}
use Rattle.std.proofs.lemmas.Bool.Decides.{nat_tests}
use Rattle.link_model.specs.Mails.{LinkMail, is_repeat}
use Rattle.link_model.specs.Master.{OutHalf, out_hold}
use Rattle.link_model.specs.Slave.{OutSide, served, mail_taken}
use Rattle.link_model.specs.Link.{Fate, out_half_after, out_side_after}
use Rattle.link_model.specs.Agree.{OutAgree}
use Rattle.link_model.proofs.Lists.{pushes}

pub hold_keeps : {B : Type 0} (h : OutHalf B) (s : OutSide B) (held taken : List B) (body : B) → h.holding ≡ None → OutAgree h s held taken → OutAgree (out_hold h body) s (held ++ (body ∷ [])) taken
hold_keeps h s held taken body idle a = grind (arith, common_steps, nat_tests, pushes)

-- an empty mailbox 0 meets the write, and the half hears of it
pub passes : {B : Type 0} (h : OutHalf B) (s : OutSide B) (held taken : List B) (m : LinkMail B) → h.holding ≡ Some m → s.box ≡ None → OutAgree h s held taken → OutAgree (record h { holding = None }) (record s { box = Some m }) held taken
passes h s held taken m holds empty a = grind (arith, common_steps, nat_tests, pushes)

-- an empty mailbox 0 meets the write, and the half does not hear of it
pub meets : {B : Type 0} (h : OutHalf B) (s : OutSide B) (held taken : List B) (m : LinkMail B) → h.holding ≡ Some m → s.box ≡ None → OutAgree h s held taken → OutAgree h (record s { box = Some m }) held taken
meets h s held taken m holds empty a = grind (arith, common_steps, nat_tests, pushes)

-- a repeat in mailbox 0 is removed
pub repeat_removed : {B : Type 0} (h : OutHalf B) (s : OutSide B) (held taken : List B) (m : LinkMail B) → s.box ≡ Some m → is_repeat s.last_taken m ≡ true → OutAgree h s held taken → OutAgree h (record s { box = None }) held taken
repeat_removed h s held taken m full repeat a = grind (arith, common_steps, nat_tests, pushes)

-- a new mail in mailbox 0 is taken
pub mail_is_taken : {B : Type 0} (h : OutHalf B) (s : OutSide B) (held taken : List B) (m : LinkMail B) → s.box ≡ Some m → is_repeat s.last_taken m ≡ false → OutAgree h s held taken → OutAgree h (record { box = None; last_taken = m.counter }) held (taken ++ (m.body ∷ []))
mail_is_taken h s held taken m full new a = grind (arith, common_steps, nat_tests, pushes)

append_none : {B : Type 0} (h : OutHalf B) (s : OutSide B) (held taken : List B) → OutAgree h s held taken → OutAgree h s held (taken ++ [])
append_none h s held taken a = grind (arith, common_steps)

-- step 4 of the processor, free or not
pub serve_keeps : {B : Type 0} (h : OutHalf B) (s : OutSide B) (held taken : List B) (free : Bool) (box : Option (LinkMail B)) → s.box ≡ box → OutAgree h s held taken → OutAgree h (served s box free) held (taken ++ mail_taken s box free)
serve_keeps h s held taken free None e a = append_none h s held taken a
serve_keeps {B} h s held taken free (Some m) e a = split free (is_repeat s.last_taken m) refl
  where
    split : (f r : Bool) → is_repeat s.last_taken m ≡ r → OutAgree h (if r then record s { box = None } else if f then record { box = None; last_taken = m.counter } else s) held (taken ++ (if r then [] else if f then m.body ∷ [] else []))
    split f true q = append_none h (record s { box = None }) held taken (repeat_removed h s held taken m e q a)
    split true false q = mail_is_taken h s held taken m e q a
    split false false q = append_none h s held taken a

-- the outward half's datagram, with any fate
pub out_keeps : {B : Type 0} (h : OutHalf B) (s : OutSide B) (held taken : List B) (fate : Fate) (holding box : Option (LinkMail B)) → h.holding ≡ holding → s.box ≡ box → OutAgree h s held taken → OutAgree (out_half_after h holding box fate) (out_side_after s holding box fate) held taken
out_keeps h s held taken fate None box e f a = a
out_keeps h s held taken Fate.Pass (Some m) None e f a = passes h s held taken m e f a
out_keeps h s held taken Fate.Pass (Some m) (Some n) e f a = a
out_keeps h s held taken Fate.LostBefore (Some m) box e f a = a
out_keeps h s held taken Fate.LostBehind (Some m) None e f a = meets h s held taken m e f a
out_keeps h s held taken Fate.LostBehind (Some m) (Some n) e f a = a
