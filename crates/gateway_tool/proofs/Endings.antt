-- How a call ended, by what its talk keeps.
use Rattle.std.proofs.Common.{◌≡◌, ℕ, ◌≤◌, List, [], ◌∷◌, ◌++◌, Bool, true, false, Some, None, Ok, Err, refl, sym, ap, ◌∙◌, subst, length, arith, inl, inr}
use Rattle.std.specs.Prelude.{◌⊎◌, ◌||◌, nat_le, Result}
use Rattle.gateway_core.specs.of_ec_outside.Faults.{Rose}
use Rattle.gateway_core.specs.of_ec_outside.declared.port.PortErr.{PortErr}
use Rattle.gateway_core.specs.of_mailbox_mail.declared.mail.Mail.{Mail}
use Rattle.gateway_tool.specs.declared.reply.Reply.{Reply}
use Rattle.gateway_tool.specs.Rule.{IsForm, Call, Standing, said, hears_all, is_spent, at_first, grams_of}
use Rattle.gateway_tool.specs.Told.{Told, Adds}
use Rattle.gateway_tool.specs.Client.{left, awaits}
use Rattle.gateway_tool.specs.Talk.{Stands, Goes, Lacks, GoesSo, is_worn, Rests, Replies, Stops}
use Rattle.gateway_tool.specs.Ended.{but_last, MayLack, IsSent, Causes, HasEnded}
use Rattle.gateway_tool.specs.declared.talk.Talk.{Talk}
use Rattle.gateway_tool.specs.declared.asking.ToolEnd.{ToolEnd}
use Rattle.gateway_tool.proofs.Clients.{one_planned}
use Rattle.gateway_tool.proofs.Talks.{adds_none}
use Rattle.gateway_tool.proofs.Hearings.{all_said, so_said, so_replied}

-- lists without their last

last_off : {A : Type 0} (xs : List A) (x : A) → but_last (xs ++ x ∷ []) ≡ xs
last_off [] x = refl
last_off (y ∷ []) x = refl
last_off (y ∷ z ∷ zs) x = ap (λ ys. y ∷ ys) (last_off (z ∷ zs) x)

few_off : {A : Type 0} (xs : List A) → length xs ≤ 1 → but_last xs ≡ []
few_off [] f = refl
few_off (x ∷ []) f = refl
few_off (x ∷ y ∷ ys) f = absurd (omega (arith, f))

-- a call that begins

pub goes_first : (c : Call) (first : Told) (t : Talk) → Stands c at_first [] t → Goes c first first t
goes_first c first t s =
    record { grams = []; told = []; awaited = refl; stands = s; heard = adds_none first.heard; sent = adds_none first.sent; later = omega arith }

pub never_begun : (c : Call) (first : Told) (value : Reply) → IsForm c.service → HasEnded c first first value ToolEnd.NoMemory
never_begun c first value f = record {
  grams = [];
  awaited = refl;
  heard = adds_none first.heard;
  sent = inr (subst (λ (ms : List Mail). Adds first.sent first.sent (grams_of c ms)) (sym (few_off (said c at_first) (one_planned c.areas c.service f))) (adds_none first.sent), tt);
  causes = tt;
}

-- what was sent

ended_goes : (c : Call) (first last : Told) (t : Talk) (value : Reply) (end : ToolEnd) (g : Goes c first last t) → left t.client [] ≡ [] → Causes c (hears_all c at_first g.grams) first last value end → HasEnded c first last value end
ended_goes c first last t value end g e k = record {
  grams = g.grams;
  awaited = g.awaited;
  heard = g.heard;
  sent = inl (subst (λ (ms : List Mail). Adds first.sent last.sent (grams_of c ms)) (all_said c (hears_all c at_first g.grams) g.told t g.stands e) g.sent);
  causes = k;
}

lacking : (c : Call) (first last : Told) (s : Standing) (told : List Mail) (m : Mail) (end : ToolEnd) → told ++ m ∷ [] ≡ said c s → Adds first.sent last.sent (grams_of c told) → MayLack s first last end → IsSent c s first last end
lacking c first last s told m end e a k = inr (subst (λ (ms : List Mail). Adds first.sent last.sent (grams_of c ms)) (sym (last_off told m) ∙ ap but_last e) a, k)

ended_lacks : (c : Call) (first last : Told) (t : Talk) (value : Reply) (end : ToolEnd) (l : Lacks c first last t) → left t.client [] ≡ [] → MayLack (hears_all c at_first l.grams) first last end → Causes c (hears_all c at_first l.grams) first last value end →
    HasEnded c first last value end
ended_lacks c first last t value end l e m k = record {
  grams = l.grams;
  awaited = l.awaited;
  heard = l.heard;
  sent = lacking c first last (hears_all c at_first l.grams) l.told l.last end (all_said c (hears_all c at_first l.grams) (l.told ++ l.last ∷ []) t l.stands e) l.sent m;
  causes = k;
}

-- a reply

replies_so : (c : Call) (s : Standing) (told : List Mail) (t : Talk) (first last : Told) (value : Reply) → Stands c s told t → awaits t.client [] ≡ Some (value.kind, value.value) → last.over ≡ first.over → Causes c s first last value ToolEnd.Reply
replies_so c s told t first last value h e o = (sym (so_replied c s told t h) ∙ e, o)

pub reply_ended : (c : Call) (first last : Told) (t : Talk) (value : Reply) → Goes c first last t ⊎ (Lacks c first last t × Rose first.faults last.faults) → left t.client [] ≡ [] → awaits t.client [] ≡ Some (value.kind, value.value) → last.over ≡ first.over →
    HasEnded c first last value ToolEnd.Reply
reply_ended c first last t value (inl g) e r o = ended_goes c first last t value ToolEnd.Reply g e (replies_so c (hears_all c at_first g.grams) g.told t first last value g.stands r o)
reply_ended c first last t value (inr l) e r o = ended_lacks c first last t value ToolEnd.Reply l.0 e l.1 (replies_so c (hears_all c at_first l.0.grams) (l.0.told ++ l.0.last ∷ []) t first last value l.0.stands r o)

-- want of memory

pub memory_ended : (c : Call) (first last : Told) (t : Talk) (value : Reply) → Goes c first last t ⊎ Lacks c first last t → left t.client [] ≡ [] → HasEnded c first last value ToolEnd.NoMemory
memory_ended c first last t value (inl g) e = ended_goes c first last t value ToolEnd.NoMemory g e tt
memory_ended c first last t value (inr l) e = ended_lacks c first last t value ToolEnd.NoMemory l e tt tt

pub unrosen : (c : Call) (first last : Told) (t : Talk) → Goes c first last t ⊎ (Lacks c first last t × Rose first.faults last.faults) → Goes c first last t ⊎ Lacks c first last t
unrosen c first last t (inl g) = inl g
unrosen c first last t (inr l) = inr l.0

-- a fault

spent_so : (c : Call) (s : Standing) (told : List Mail) (t : Talk) → Stands c s told t → is_worn t ≡ is_spent s
spent_so c s told t h = λ i. nat_le 65536 (h.passed i) || nat_le 65536 (h.taken i)

faults_so : (c : Call) (s : Standing) (told : List Mail) (t : Talk) (first last : Told) (value : Reply) → Stands c s told t → awaits t.client [] ≡ None → is_worn t ≡ false → last.over ≡ first.over → Rose first.faults last.faults →
    Causes c s first last value ToolEnd.PortFault
faults_so c s told t first last value h n w o r = (sym (so_replied c s told t h) ∙ n, sym (spent_so c s told t h) ∙ w, o, r)

pub fault_ended : (c : Call) (first last : Told) (t : Talk) (value : Reply) → (Goes c first last t ⊎ Lacks c first last t) × Rose first.faults last.faults → left t.client [] ≡ [] → awaits t.client [] ≡ None → (last.over ≡ first.over) × (is_worn t ≡ false) →
    HasEnded c first last value ToolEnd.PortFault
fault_ended c first last t value h e n w = by h.0
  where
    by : Goes c first last t ⊎ Lacks c first last t → HasEnded c first last value ToolEnd.PortFault
    by (inl g) = ended_goes c first last t value ToolEnd.PortFault g e (faults_so c (hears_all c at_first g.grams) g.told t first last value g.stands n w.1 w.0 h.1)
    by (inr l) = ended_lacks c first last t value ToolEnd.PortFault l e h.1 (faults_so c (hears_all c at_first l.grams) (l.told ++ l.last ∷ []) t first last value l.stands n w.1 w.0 h.1)

-- no answer

one_off : {A : Type 0} (xs : List A) → length xs ≤ 1 → (xs ≡ []) ⊎ ((x : A) × (xs ≡ x ∷ []))
one_off [] f = inl refl
one_off (x ∷ []) f = inr (x, refl)
one_off (x ∷ y ∷ ys) f = absurd (omega (arith, f))

unanswered_so : (c : Call) (s : Standing) (told : List Mail) (t : Talk) (first last : Told) (value : Reply) → Stands c s told t → awaits t.client [] ≡ None → Stops t first.over last.over (Ok false) → Causes c s first last value ToolEnd.NoAnswer
unanswered_so c s told t first last value h n (inl w) = (sym (so_replied c s told t h) ∙ n, inl (w.0, sym (spent_so c s told t h) ∙ w.1))
unanswered_so c s told t first last value h n (inr w) = (sym (so_replied c s told t h) ∙ n, inr (w.0, sym (spent_so c s told t h) ∙ w.1))

some_said : (c : Call) (s : Standing) (told : List Mail) (t : Talk) (m : Mail) → Stands c s told t → left t.client [] ≡ m ∷ [] → told ++ m ∷ [] ≡ said c s
some_said c s told t m h e = ap (λ (ms : List Mail). told ++ ms) (sym e) ∙ so_said c s told t h

ended_worn : (c : Call) (first last : Told) (t : Talk) (value : Reply) (g : Goes c first last t) → length (left t.client []) ≤ 1 → 65536 ≤ t.taken → Causes c (hears_all c at_first g.grams) first last value ToolEnd.NoAnswer → HasEnded c first last value ToolEnd.NoAnswer
ended_worn c first last t value g f w k = by (one_off (left t.client []) f)
  where
    by : (left t.client [] ≡ []) ⊎ ((m : Mail) × (left t.client [] ≡ m ∷ [])) → HasEnded c first last value ToolEnd.NoAnswer
    by (inl e) = ended_goes c first last t value ToolEnd.NoAnswer g e k
    by (inr m) =
        let s : Standing = hears_all c at_first g.grams in
        let n : 65536 ≤ length s.taken = subst (λ (x : ℕ). 65536 ≤ x) g.stands.taken w in
        record { grams = g.grams; awaited = g.awaited; heard = g.heard; sent = lacking c first last s g.told m.0 ToolEnd.NoAnswer (some_said c s g.told t m.0 g.stands m.1) g.sent n; causes = k }

pub answer_ended : (c : Call) (first last : Told) (t : Talk) (value : Reply) → Goes c first last t → Rests t (Ok false) → length (left t.client []) ≤ 1 → awaits t.client [] ≡ None → Stops t first.over last.over (Ok false) → HasEnded c first last value ToolEnd.NoAnswer
answer_ended c first last t value g (inl e) f n w = ended_goes c first last t value ToolEnd.NoAnswer g e (unanswered_so c (hears_all c at_first g.grams) g.told t first last value g.stands n w)
answer_ended c first last t value g (inr r) f n w = ended_worn c first last t value g f r (unanswered_so c (hears_all c at_first g.grams) g.told t first last value g.stands n w)

-- a call by the answer of its talk

pub asked_reply : (c : Call) (first last : Told) (t : Talk) (value : Reply) (r : Result Bool PortErr) → r ≡ Ok true → GoesSo c first last t r → Rests t r → Stops t first.over last.over r → awaits t.client [] ≡ Some (value.kind, value.value) → HasEnded c first last value ToolEnd.Reply
asked_reply c first last t value r e g s o a =
    reply_ended c first last t value (subst (λ (x : Result Bool PortErr). GoesSo c first last t x) e g) (subst (λ (x : Result Bool PortErr). Rests t x) e s) a (subst (λ (x : Result Bool PortErr). Stops t first.over last.over x) e o)

pub asked_unkept : (c : Call) (first last : Told) (t : Talk) (value : Reply) (r : Result Bool PortErr) → r ≡ Ok true → GoesSo c first last t r → Rests t r → HasEnded c first last value ToolEnd.NoMemory
asked_unkept c first last t value r e g s =
    memory_ended c first last t value (unrosen c first last t (subst (λ (x : Result Bool PortErr). GoesSo c first last t x) e g)) (subst (λ (x : Result Bool PortErr). Rests t x) e s)

pub asked_nothing : (c : Call) (first last : Told) (t : Talk) (value : Reply) (r : Result Bool PortErr) → r ≡ Ok false → GoesSo c first last t r → Rests t r → length (left t.client []) ≤ 1 → Replies t.client r → Stops t first.over last.over r →
    HasEnded c first last value ToolEnd.NoAnswer
asked_nothing c first last t value r e g s f n o =
    answer_ended c first last t value (subst (λ (x : Result Bool PortErr). GoesSo c first last t x) e g) (subst (λ (x : Result Bool PortErr). Rests t x) e s) f (subst (λ (x : Result Bool PortErr). Replies t.client x) e n)
    (subst (λ (x : Result Bool PortErr). Stops t first.over last.over x) e o)

pub asked_failed : (c : Call) (first last : Told) (t : Talk) (value : Reply) (r : Result Bool PortErr) → r ≡ Err PortErr.Failed → GoesSo c first last t r → Rests t r → Replies t.client r → Stops t first.over last.over r → HasEnded c first last value ToolEnd.PortFault
asked_failed c first last t value r e g s n o =
    fault_ended c first last t value (subst (λ (x : Result Bool PortErr). GoesSo c first last t x) e g) (subst (λ (x : Result Bool PortErr). Rests t x) e s) (subst (λ (x : Result Bool PortErr). Replies t.client x) e n)
    (subst (λ (x : Result Bool PortErr). Stops t first.over last.over x) e o)

pub asked_lost : (c : Call) (first last : Told) (t : Talk) (value : Reply) (r : Result Bool PortErr) → r ≡ Err PortErr.NoMemory → GoesSo c first last t r → Rests t r → HasEnded c first last value ToolEnd.NoMemory
asked_lost c first last t value r e g s =
    memory_ended c first last t value (subst (λ (x : Result Bool PortErr). GoesSo c first last t x) e g) (subst (λ (x : Result Bool PortErr). Rests t x) e s)
