-- A client of a gateway over a server that answers it: each datagram heard is taken.
use Rattle.std.proofs.Common.{◌≡◌, ℕ, suc, ◌≤◌, ◌⊎◌, List, [], ◌∷◌, ◌++◌, length, map, Bool, true, false, Option, Some, None, refl, sym, ap, ◌∙◌, subst, arith, inl, inr, append_assoc, append-nil, length-append, if◌then◌else◌}
use Rattle.std.specs.Prelude.{◌&&◌, ◌||◌, ◌==◌, not, is_some}
use Rattle.std.proofs.lemmas.Bool.{and_parts}
use Rattle.gateway_tool.specs.of_ec_outside.Port.{HeardGram}
use Rattle.gateway_tool.specs.of_link_model.Counters.{counter_of}
use Rattle.slave_model.specs.of_mailbox_mail.Mail.{error_of}
use Rattle.slave_model.specs.of_mailbox_mail.declared.mail.Mail.{Mail}
use Rattle.slave_model.specs.of_mailbox_mail.declared.outcome.ReplyKind.{ReplyKind}
use Rattle.slave_model.specs.of_exchange_model.Exchange.{Exchange, after, given, plain}
use Rattle.slave_model.proofs.of_exchange_model.Lists.{append_cancel}
use Rattle.slave_model.proofs.of_exchange_model.Words.{plain_given-append, plain-append}
use Rattle.slave_model.proofs.of_exchange_model.Lifting.{map_append}
use Rattle.gateway_tool.specs.of_gateway_core.Framing.{request_in}
use Rattle.gateway_tool.specs.Rule.{Call, Standing, planned, ends, said, replied, is_next, mail_in, mail_to, hears_mail, hears, hears_all, is_spent, is_open, are_awaited, passed_over, with_mail}
use Rattle.gateway_tool.specs.Ended.{but_last}
use Rattle.tool_law.specs.Gives.{to_asker, gives, held}
use Rattle.tool_law.specs.Answered.{bare, IsAnswered}
use Rattle.tool_law.proofs.Framed.{same_number}
use Rattle.tool_law.proofs.Stamps.{stamp, stamps, bare_gives, gives_one}

-- lists

pub same_front : {A : Type 0} (xs ys a b : List A) → xs ++ a ≡ ys ++ b → length xs ≡ length ys → xs ≡ ys
same_front [] [] a b e n = refl
same_front [] (y ∷ ys) a b e n = absurd (omega (arith, n))
same_front (x ∷ xs) [] a b e n = absurd (omega (arith, n))
same_front (x ∷ xs) (y ∷ ys) a b e n =
    let head : x ≡ y = cc in
    let tail : xs ++ a ≡ ys ++ b = cc in
    let rest = same_front xs ys a b tail (omega (arith, n)) in
    λ i. head i ∷ rest i

nothing : {A : Type 0} (xs : List A) → length xs ≡ 0 → xs ≡ []
nothing [] e = refl
nothing (x ∷ xs) e = absurd (omega (arith, e))

pub last_behind : {A : Type 0} (xs : List A) (y : A) (ys : List A) → but_last (xs ++ y ∷ ys) ≡ xs ++ but_last (y ∷ ys)
last_behind [] y ys = refl
last_behind (x ∷ []) y ys = refl
last_behind (x ∷ z ∷ xs) y ys = ap (λ l. x ∷ l) (last_behind (z ∷ xs) y ys)

-- a list or it without its last: behind a first part and one more, or the first part alone
pub cut_last : {A : Type 0} (p : List A) (m : A) (rest s : List A) → (s ≡ p ++ m ∷ rest) ⊎ (s ≡ but_last (p ++ m ∷ rest)) → ((more : List A) × (s ≡ p ++ m ∷ more)) ⊎ (s ≡ p)
cut_last p m rest s (inl e) = inl (rest, e)
cut_last p m [] s (inr e) = inr (e ∙ last_behind p m [] ∙ append-nil p)
cut_last p m (y ∷ ys) s (inr e) = inl (but_last (y ∷ ys), e ∙ last_behind p m (y ∷ ys))

append_one : {A : Type 0} (p : List A) (m : A) (r : List A) → (p ++ m ∷ []) ++ r ≡ p ++ m ∷ r
append_one [] m r = refl
append_one (k ∷ p) m r = ap (λ l. k ∷ l) (append_one p m r)

-- a standing takes no mail back
pub taken_on : (c : Call) (s : Standing) (gs : List HeardGram) → (more : List Mail) × ((hears_all c s gs).taken ≡ s.taken ++ more)
taken_on c s [] = ([], sym (append-nil s.taken))
taken_on c s (g ∷ gs) = by (mail_to c.station (counter_of (length (said c s))) (mail_in (request_in g.bytes))) (taken_on c (hears c s g.bytes) gs)
  where
    one : (o : Option Mail) → (more : List Mail) × ((hears_mail c s o).taken ≡ s.taken ++ more)
    one None = ([], sym (append-nil s.taken))
    one (Some m) = if_next (is_next c s m)
      where
        if_next : (b : Bool) → (more : List Mail) × ((if b then with_mail s m else passed_over s).taken ≡ s.taken ++ more)
        if_next true = (m ∷ [], refl)
        if_next false = ([], sym (append-nil s.taken))

    by : (o : Option Mail) → (more : List Mail) × ((hears_all c (hears_mail c s o) gs).taken ≡ (hears_mail c s o).taken ++ more) → (more : List Mail) × ((hears_all c (hears_mail c s o) gs).taken ≡ s.taken ++ more)
    by o b = let a = one o in (a.0 ++ b.0, b.1 ∙ ap (λ l. l ++ b.0) a.1 ∙ append_assoc s.taken a.0 b.0)

module _ {V A Q : Type 0} (x : Exchange V A Mail Q (ReplyKind × List ℕ)) (v : V) (q : Q) (c : Call) (owes : IsAnswered x v q c) where
  abbrev pub plan : List Mail → List Mail
  plan hs = planned c.areas c.service hs

  abbrev pub end_of : List Mail → Option (ReplyKind × List ℕ)
  end_of hs = ends c.areas c.service hs

  -- what is heard for these mails
  abbrev pub replies : List Mail → List Mail
  replies p = plain x.speech.emission (given x.serve v p)

  -- what is heard for one more
  abbrev pub answer : List Mail → Mail → List Mail
  answer p m = plain x.speech.emission (x.serve (after x.serve v p) m).1

  -- and for those behind it
  abbrev pub others : List Mail → Mail → List Mail → List Mail
  others p m r = plain x.speech.emission (given x.serve (x.serve (after x.serve v p) m).0 r)

  pub replies_cut : (p : List Mail) (m : Mail) (r : List Mail) → replies (p ++ m ∷ r) ≡ replies p ++ (answer p m ++ others p m r)
  replies_cut p m r = plain_given-append x.serve x.speech.emission v p (m ∷ r) ∙ ap (λ l. replies p ++ l) (plain-append x.speech.emission (x.serve (after x.serve v p) m).1 (given x.serve (x.serve (after x.serve v p) m).0 r))

  -- all replies are the service's reply
  pub whole : end_of (replies (x.full v q)) ≡ Some (x.reply (x.app v) q)
  whole = sym (owes.replies (replies (x.full v q))) ∙ owes.law.replied v q owes.ready owes.valid owes.answers

  -- without address and counter
  pub same_plan : (hs os : List Mail) → map bare hs ≡ map bare os → plan hs ≡ plan os
  same_plan hs os e = sym (owes.plans_bare hs) ∙ ap plan e ∙ owes.plans_bare os

  pub same_end : (hs os : List Mail) → map bare hs ≡ map bare os → end_of hs ≡ end_of os
  same_end hs os e = sym (owes.ends_bare hs) ∙ ap end_of e ∙ owes.ends_bare os

  -- each mail but the last is answered once
  pub counts : (p : List Mail) (m : Mail) (r : List Mail) → x.full v q ≡ p ++ m ∷ r → length (replies p) ≡ length p
  counts p m r e =
      let g = owes.goes_on p m r e in
      let l : length (plan (replies p)) ≡ length (p ++ m ∷ g.0) = ap length g.1 in
      let a = owes.few_planned (replies p) in
      let b = owes.few_replies p (m ∷ r) e in
      omega (arith, l, length-append p (m ∷ g.0), a, b)

  -- and a client that has heard the replies to a first part has that part to send, and one mail more
  pub planned_at : (hs p : List Mail) (m : Mail) (r : List Mail) → x.full v q ≡ p ++ m ∷ r → map bare hs ≡ map bare (replies p) → plan hs ≡ p ++ m ∷ []
  planned_at hs p m r e same =
      let g = owes.goes_on p m r e in
      let l : length (plan (replies p)) ≡ length (p ++ m ∷ g.0) = ap length g.1 in
      let a = owes.few_planned (replies p) in
      let n : length g.0 ≡ 0 = omega (arith, l, length-append p (m ∷ g.0), a, counts p m r e) in
      same_plan hs (replies p) same ∙ g.1 ∙ ap (λ l. p ++ m ∷ l) (nothing g.0 n)

  pub answered_once : (p : List Mail) (m : Mail) (r : List Mail) → x.full v q ≡ p ++ m ∷ r → length (answer p m) ≤ 1
  answered_once p m r e =
      let few = owes.few_replies (p ++ m ∷ []) r (e ∙ sym (append_one p m r)) in
      let cut : length (replies (p ++ m ∷ [])) ≡ length (replies p ++ (answer p m ++ others p m [])) = ap length (replies_cut p m []) in
      omega (arith, few, cut, length-append (replies p) (answer p m ++ others p m []), length-append (answer p m) (others p m []), length-append p (m ∷ []), counts p m r e)

  -- a mail that isn't answered is the last one
  pub silent_last : (p : List Mail) (m : Mail) (r : List Mail) → x.full v q ≡ p ++ m ∷ r → answer p m ≡ [] → replies p ≡ replies (x.full v q)
  silent_last p m [] e none =
      sym (ap replies e ∙ replies_cut p m [] ∙ ap (λ l. replies p ++ (l ++ others p m [])) none ∙ append-nil (replies p))
  silent_last p m (k ∷ r) e none =
      let n = counts (p ++ m ∷ []) k r (e ∙ sym (append_one p m (k ∷ r))) in
      let cut : length (replies (p ++ m ∷ [])) ≡ length (replies p ++ (answer p m ++ others p m [])) = ap length (replies_cut p m []) in
      let z = ap length none in
      absurd (omega (arith, n, cut, length-append (replies p) (answer p m ++ others p m []), length-append (answer p m) (others p m []), z, length-append p (m ∷ []), counts p m (k ∷ r) e))

  -- where all replies came, the reply is there
  pub over : (hs p : List Mail) → map bare hs ≡ map bare (replies p) → replies p ≡ replies (x.full v q) → end_of hs ≡ Some (x.reply (x.app v) q)
  over hs p same all = same_end hs (replies p) same ∙ ap end_of all ∙ whole

  -- a reply that may come next: it completes the reply, or a mailbox error behind it would
  next_by : (front : List Mail) (h : Mail) (rest : List Mail) → end_of ((front ++ h ∷ []) ++ rest) ≡ Some (x.reply (x.app v) q) →
      (is_some (end_of (front ++ h ∷ [])) ≡ true) ⊎ (is_some (end_of ((front ++ h ∷ []) ++ error_of 0 ∷ [])) ≡ true)
  next_by front h [] e = inl (ap is_some (ap end_of (sym (append-nil (front ++ h ∷ []))) ∙ e))
  next_by front h (k ∷ rest) e = inr (owes.refused (front ++ h ∷ []) k rest (x.reply (x.app v) q) e)

  -- what is given for these mails as requests
  abbrev pub given_for : List Mail → List Mail
  given_for ms = gives x.serve x.speech.emission v (stamps c 0 ms)

  pub bare_given : (p : List Mail) → map bare (given_for p) ≡ map bare (replies p)
  bare_given p = bare_gives x.serve x.speech.emission owes.serves_bare c v 0 p

  -- a call behind a first part of the mails: just what is given for them was taken
  pub record Stood (s : Standing) (p : List Mail) : Type 0 where
    pub rest : List Mail
    pub parts : x.full v q ≡ p ++ rest
    pub passed : s.passed ≡ 0
    pub taken : s.taken ≡ given_for p

  pub bare_taken : (s : Standing) (p : List Mail) → Stood s p → map bare s.taken ≡ map bare (replies p)
  bare_taken s p st = ap (map bare) st.taken ∙ bare_given p

  -- the mails that were sent, by those taken: all that are planned, or all but the last
  abbrev pub Sent : Standing → List Mail → Type 0
  Sent s ms = (ms ≡ plan s.taken) ⊎ (ms ≡ but_last (plan s.taken))

  sent_by : (t : Standing) (ms all : List Mail) → plan t.taken ≡ all → Sent t ms → (ms ≡ all) ⊎ (ms ≡ but_last all)
  sent_by t ms all e (inl f) = inl (f ∙ e)
  sent_by t ms all e (inr f) = inr (f ∙ ap but_last e)

  -- they are a first part and one mail more, or that part alone
  pub sent_on : (s t : Standing) (more p : List Mail) (m : Mail) (r ms : List Mail) → Stood s p → x.full v q ≡ p ++ m ∷ r → t.taken ≡ s.taken ++ more → Sent t ms → ((rest : List Mail) × (ms ≡ p ++ m ∷ rest)) ⊎ (ms ≡ p)
  sent_on s t more p m r ms st e grown sent =
      let here = planned_at s.taken p m r e (bare_taken s p st) in
      let on = owes.more_planned s.taken more in
      let all : plan t.taken ≡ p ++ m ∷ on.0 = ap plan grown ∙ sym on.1 ∙ ap (λ l. l ++ on.0) here ∙ append_one p m on.0 in
      cut_last p m on.0 ms (sent_by t ms (p ++ m ∷ on.0) all sent)

  -- the reply for one more mail is taken

  open_none : (o : Option (ReplyKind × List ℕ)) → not (is_some o) ≡ true → o ≡ None
  open_none None e = refl
  open_none (Some r) e = absurd (cc)

  unreplied : (s : Standing) → is_open c s ≡ true → end_of s.taken ≡ None
  unreplied s e = open_none (replied c s) (and_parts (not (is_some (replied c s))) (not (is_spent s)) e).0

  mail_to_own : (station counter : ℕ) (m : Mail) → m.address ≡ station → m.counter ≡ counter → mail_to station counter (Some m) ≡ Some m
  mail_to_own station counter m a n = by (m.address == station) (m.counter == counter) (same_number m.address station a) (same_number m.counter counter n)
    where
      by : (b d : Bool) → b ≡ true → d ≡ true → (if b && d then Some m else None) ≡ Some m
      by b d e f = rw (e, f) refl

  either_true : (a b : Bool) → (a ≡ true) ⊎ (b ≡ true) → (a || b) ≡ true
  either_true true b h = refl
  either_true false b (inl e) = absurd (cc)
  either_true false b (inr e) = e

  taken_if : (s : Standing) (m : Mail) → is_next c s m ≡ true → hears_mail c s (Some m) ≡ with_mail s m
  taken_if s m e = ap (λ (b : Bool). if b then with_mail s m else passed_over s) e

  bare_push : (front hs : List Mail) (m h : Mail) (rest : List Mail) → map bare front ≡ map bare hs → bare m ≡ bare h → map bare (front ++ m ∷ rest) ≡ map bare (hs ++ h ∷ rest)
  bare_push front hs m h rest e f = map_append bare front (m ∷ rest) ∙ (λ i. e i ++ f i ∷ map bare rest) ∙ sym (map_append bare hs (h ∷ rest))

  is_next_so : (s : Standing) (p : List Mail) (m1 : Mail) (r : List Mail) (m h : Mail) → Stood s p → x.full v q ≡ p ++ m1 ∷ r → answer p m1 ≡ h ∷ [] → bare m ≡ bare h → is_next c s m ≡ true
  is_next_so s p m1 r m h st e one same = either_true (is_some (end_of (s.taken ++ m ∷ []))) (is_some (end_of (s.taken ++ m ∷ error_of 0 ∷ []))) (turn (next_by (replies p) h (others p m1 r) all))
    where
      all : end_of ((replies p ++ h ∷ []) ++ others p m1 r) ≡ Some (x.reply (x.app v) q)
      all = ap end_of (append_assoc (replies p) (h ∷ []) (others p m1 r) ∙ ap (λ l. replies p ++ (l ++ others p m1 r)) (sym one) ∙ sym (ap replies e ∙ replies_cut p m1 r)) ∙ whole

      turn : (is_some (end_of (replies p ++ h ∷ [])) ≡ true) ⊎ (is_some (end_of ((replies p ++ h ∷ []) ++ error_of 0 ∷ [])) ≡ true) →
          (is_some (end_of (s.taken ++ m ∷ [])) ≡ true) ⊎ (is_some (end_of (s.taken ++ m ∷ error_of 0 ∷ [])) ≡ true)
      turn (inl g) = inl (ap is_some (same_end (s.taken ++ m ∷ []) (replies p ++ h ∷ []) (bare_push s.taken (replies p) m h [] (bare_taken s p st) same)) ∙ g)
      turn (inr g) = inr (ap is_some (same_end (s.taken ++ m ∷ error_of 0 ∷ []) (replies p ++ h ∷ error_of 0 ∷ []) (bare_push s.taken (replies p) m h (error_of 0 ∷ []) (bare_taken s p st) same)
          ∙ ap end_of (sym (append_one (replies p) h (error_of 0 ∷ [])))) ∙ g)

  hears_reply : (s : Standing) (p : List Mail) (m1 : Mail) (r : List Mail) (octets : List ℕ) (m h : Mail) → Stood s p → x.full v q ≡ p ++ m1 ∷ r → answer p m1 ≡ h ∷ [] → m ≡ to_asker (stamp c (suc (length p)) m1) h →
      mail_in (request_in octets) ≡ Some m → hears c s octets ≡ with_mail s m
  hears_reply s p m1 r octets m h st e one is reads =
      let here = planned_at s.taken p m1 r e (bare_taken s p st) in
      let n : length (said c s) ≡ suc (length p) = (let k = ap length here in omega (arith, k, length-append p (m1 ∷ []))) in
      let number : m.counter ≡ counter_of (length (said c s)) = ap (λ (z : Mail). z.counter) is ∙ ap counter_of (sym n) in
      let station : m.address ≡ c.station = ap (λ (z : Mail). z.address) is in
      ap (λ (o : Option Mail). hears_mail c s (mail_to c.station (counter_of (length (said c s))) o)) reads
      ∙ ap (hears_mail c s) (mail_to_own c.station (counter_of (length (said c s))) m station number)
      ∙ taken_if s m (is_next_so s p m1 r m h st e one (ap bare is))

  stood_on : (s : Standing) (p : List Mail) (m1 : Mail) (r : List Mail) (m h : Mail) → Stood s p → x.full v q ≡ p ++ m1 ∷ r → answer p m1 ≡ h ∷ [] → m ≡ to_asker (stamp c (suc (length p)) m1) h → Stood (with_mail s m) (p ++ m1 ∷ [])
  stood_on s p m1 r m h st e one is = record {
    rest = r;
    parts = e ∙ sym (append_one p m1 r);
    passed = refl;
    taken = (λ i. st.taken i ++ is i ∷ [])
        ∙ ap (λ l. given_for p ++ l) (sym (append-nil (to_asker (stamp c (suc (length p)) m1) h ∷ [])))
        ∙ ap (λ l. given_for p ++ (map (to_asker (stamp c (suc (length p)) m1)) l ++ [])) (sym one)
        ∙ sym (gives_one x.serve x.speech.emission owes.serves_bare c v p m1 []);
  }

  -- THE WALK: each datagram heard is taken
  pub walk : (gs : List HeardGram) (s : Standing) (p : List Mail) → Stood s p → (back ms : List Mail) → Sent (hears_all c s gs) ms → given_for ms ≡ s.taken ++ back → held gs ≡ map Some back → are_awaited c s gs ≡ true →
      (behind : List Mail) × Stood (hears_all c s gs) behind × ((hears_all c s gs).taken ≡ given_for ms)
  walk [] s p st [] ms sent all reads open_so = (p, st, sym (all ∙ append-nil s.taken))
  walk [] s p st (m ∷ back) ms sent all reads open_so = absurd (cc)
  walk (g ∷ gs) s p st [] ms sent all reads open_so = absurd (cc)
  walk (g ∷ gs) s p st (m ∷ back) ms sent all reads open_so = by_rest st.rest st.parts (λ t p2 st2 u d r a. walk gs t p2 st2 back ms u d r a)
    where
      -- the rest of the walk
      Goes : Type 0
      Goes = (t : Standing) (p2 : List Mail) → Stood t p2 → Sent (hears_all c t gs) ms → given_for ms ≡ t.taken ++ back → held gs ≡ map Some back → are_awaited c t gs ≡ true →
          (behind : List Mail) × Stood (hears_all c t gs) behind × ((hears_all c t gs).taken ≡ given_for ms)

      waits : end_of s.taken ≡ None
      waits = unreplied s (and_parts (is_open c s) (are_awaited c (hears c s g.bytes) gs) open_so).0

      never : replies p ≡ replies (x.full v q) → ⊥
      never e = absurd (let o = over s.taken p (bare_taken s p st) e in let w = waits in cc)

      read_first : mail_in (request_in g.bytes) ≡ Some m
      read_first = cc

      read_others : held gs ≡ map Some back
      read_others = cc

      on : (m1 : Mail) (r : List Mail) (h : Mail) → x.full v q ≡ p ++ m1 ∷ r → answer p m1 ≡ h ∷ [] → m ≡ to_asker (stamp c (suc (length p)) m1) h → Goes → (behind : List Mail) × Stood (hears_all c s (g ∷ gs)) behind × ((hears_all c s (g ∷ gs)).taken ≡ given_for ms)
      on m1 r h e one is goes =
          let same = hears_reply s p m1 r g.bytes m h st e one is read_first in
          subst (λ (t : Standing). Sent (hears_all c t gs) ms → are_awaited c t gs ≡ true → (behind : List Mail) × Stood (hears_all c t gs) behind × ((hears_all c t gs).taken ≡ given_for ms)) (sym same)
          (λ u a. goes (with_mail s m) (p ++ m1 ∷ []) (stood_on s p m1 r m h st e one is) u (all ∙ sym (append_one s.taken m back)) read_others a)
          sent (and_parts (is_open c s) (are_awaited c (hears c s g.bytes) gs) open_so).1

      by_answer : (m1 : Mail) (r rest : List Mail) → x.full v q ≡ p ++ m1 ∷ r → ms ≡ p ++ m1 ∷ rest → (l : List Mail) → answer p m1 ≡ l → Goes → (behind : List Mail) × Stood (hears_all c s (g ∷ gs)) behind × ((hears_all c s (g ∷ gs)).taken ≡ given_for ms)
      by_answer m1 r rest e f [] one goes = absurd (never (silent_last p m1 r e one))
      by_answer m1 r rest e f (h ∷ k ∷ l) one goes = absurd (let n = answered_once p m1 r e in let z = ap length one in omega (arith, n, z))
      by_answer m1 r rest e f (h ∷ []) one goes =
          let request = stamp c (suc (length p)) m1 in
          let later = gives x.serve x.speech.emission (x.serve (after x.serve v p) m1).0 (stamps c (suc (length p)) rest) in
          let cut : s.taken ++ (m ∷ back) ≡ s.taken ++ (to_asker request h ∷ later) =
          sym all ∙ ap given_for f ∙ gives_one x.serve x.speech.emission owes.serves_bare c v p m1 rest
          ∙ ap (λ l. given_for p ++ (map (to_asker request) l ++ later)) one ∙ ap (λ l. l ++ (to_asker request h ∷ later)) (sym st.taken) in
          let first = append_cancel s.taken (m ∷ back) (to_asker request h ∷ later) cut in
          on m1 r h e one (let is : m ≡ to_asker request h = cc in is) goes

      by_sent : (m1 : Mail) (r : List Mail) → x.full v q ≡ p ++ m1 ∷ r → ((rest : List Mail) × (ms ≡ p ++ m1 ∷ rest)) ⊎ (ms ≡ p) → Goes → (behind : List Mail) × Stood (hears_all c s (g ∷ gs)) behind × ((hears_all c s (g ∷ gs)).taken ≡ given_for ms)
      by_sent m1 r e (inl f) goes = by_answer m1 r f.0 e f.1 (answer p m1) refl goes
      by_sent m1 r e (inr f) goes =
          absurd (let z = ap length (sym all ∙ ap given_for f ∙ sym st.taken) in omega (arith, z, length-append s.taken (m ∷ back)))

      by_rest : (r : List Mail) → x.full v q ≡ p ++ r → Goes → (behind : List Mail) × Stood (hears_all c s (g ∷ gs)) behind × ((hears_all c s (g ∷ gs)).taken ≡ given_for ms)
      by_rest [] e goes = absurd (never (ap replies (sym (e ∙ append-nil p))))
      by_rest (m1 ∷ r) e goes =
          let grown = taken_on c s (g ∷ gs) in
          by_sent m1 r e (sent_on s (hears_all c s (g ∷ gs)) grown.0 p m1 r ms st e grown.1 sent) goes
