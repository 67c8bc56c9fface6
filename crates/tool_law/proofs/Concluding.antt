-- How a call ends over a server that answers it.
use Rattle.std.proofs.Common.{◌≡◌, ℕ, suc, ◌≤◌, ◌<◌, ◌⊎◌, List, [], ◌∷◌, ◌++◌, length, map, Option, Some, None, refl, sym, ap, ◌∙◌, subst, arith, inl, inr, append-nil, length-append}
use Rattle.std.proofs.lemmas.List.{length-map}
use Rattle.gateway_tool.specs.of_ec_outside.Port.{HeardGram}
use Rattle.gateway_tool.specs.of_ec_outside.declared.port.SentGram.{SentGram}
use Rattle.slave_model.specs.of_mailbox_mail.declared.mail.Mail.{Mail}
use Rattle.slave_model.specs.of_mailbox_mail.declared.outcome.ReplyKind.{ReplyKind}
use Rattle.slave_model.specs.of_exchange_model.Exchange.{Exchange, Behind, after, given, plain}
use Rattle.slave_model.specs.of_exchange_model.Lifted.{EachOf}
use Rattle.slave_model.proofs.of_exchange_model.Lists.{append_cancel}
use Rattle.slave_model.proofs.of_exchange_model.Words.{plain_given-append}
use Rattle.gateway_tool.specs.declared.reply.Reply.{Reply}
use Rattle.gateway_tool.specs.declared.asking.ToolEnd.{ToolEnd}
use Rattle.gateway_tool.specs.Rule.{Call, Standing, at_first, said, replied, hears_all, grams_of}
use Rattle.gateway_tool.specs.Told.{Told, Adds}
use Rattle.gateway_tool.specs.Ended.{but_last, MayLack, IsSent, Causes, HasEnded}
use Rattle.tool_law.specs.Gives.{to_asker, gives, posted, held, Gives}
use Rattle.tool_law.specs.Answered.{bare, IsAnswered}
use Rattle.tool_law.specs.Concluded.{Tells, IsCarriedOut, Concludes}
use Rattle.tool_law.proofs.Stamps.{stamp, stamps, posted_stamps, after_stamps, gives_one}
use Rattle.tool_law.proofs.Walk.{same_front, plan, end_of, replies, answer, whole, same_plan, same_end, over, planned_at, silent_last, given_for, bare_given, Stood, bare_taken, Sent, walk}

-- what a port tells is told once

adds_told : {A : Type 0} (first last : Option (List A)) (old more these : List A) → first ≡ Some old → last ≡ Some (old ++ more) → Adds first last these → these ≡ more
adds_told None last old more these e f a = absurd (cc)
adds_told (Some o) last old more these e f a =
    let same : o ≡ old = cc in
    let both : Some (o ++ these) ≡ Some (old ++ more) = sym a ∙ f in
    let lists : o ++ these ≡ old ++ more = cc in
    append_cancel old these more (ap (λ l. l ++ these) (sym same) ∙ lists)

some_once : {A : Type 0} (xs ys : List A) → map Some xs ≡ map Some ys → xs ≡ ys
some_once [] [] e = refl
some_once [] (y ∷ ys) e = absurd (cc)
some_once (x ∷ xs) [] e = absurd (cc)
some_once (x ∷ xs) (y ∷ ys) e =
    let first : x ≡ y = cc in
    let others : map Some xs ≡ map Some ys = cc in
    let rest = some_once xs ys others in
    λ i. first i ∷ rest i

-- a list without its last

each_but_last : {A : Type 0} (P : A → Type 0) (xs : List A) → EachOf P xs → EachOf P (but_last xs)
each_but_last P [] all = tt
each_but_last P (x ∷ []) all = tt
each_but_last P (x ∷ y ∷ ys) all = (all.0, each_but_last P (y ∷ ys) all.1)

record Lasts {A : Type 0} (xs : List A) : Type 0 where
  init : List A
  last : A
  parts : xs ≡ init ++ last ∷ []
  front : but_last xs ≡ init

lasts : {A : Type 0} (xs : List A) → (xs ≡ []) ⊎ Lasts xs
lasts [] = inl refl
lasts (x ∷ []) = inr (record { init = []; last = x; parts = refl; front = refl })
lasts (x ∷ y ∷ ys) = by (lasts (y ∷ ys))
  where
    by : (y ∷ ys ≡ []) ⊎ Lasts (y ∷ ys) → (x ∷ y ∷ ys ≡ []) ⊎ Lasts (x ∷ y ∷ ys)
    by (inl e) = absurd (cc)
    by (inr l) = inr (record { init = x ∷ l.init; last = l.last; parts = ap (λ zs. x ∷ zs) l.parts; front = ap (λ zs. x ∷ zs) l.front })

module _ {V A Q : Type 0} (x : Exchange V A Mail Q (ReplyKind × List ℕ)) (v : V) (q : Q) (c : Call) (owes : IsAnswered x v q c) where
  begun : Stood x v q c owes at_first []
  begun = record { rest = x.full v q; parts = refl; passed = refl; taken = refl }

  -- as many mails are alike where they are alike but for addresses and counters
  as_many : (xs ys : List Mail) → map bare xs ≡ map bare ys → length xs ≡ length ys
  as_many xs ys e = sym (length-map xs bare) ∙ ap length e ∙ length-map ys bare

  -- too few datagrams were taken for the call to end by their number
  taken_few : (s : Standing) (p : List Mail) → Stood x v q c owes s p → length s.taken < 65536
  taken_few s p st =
      let n = as_many s.taken (replies x v q c owes p) (bare_taken x v q c owes s p st) in
      let few = owes.few_replies p st.rest st.parts in
      let all = ap length st.parts in
      let most = owes.few in
      omega (arith, n, few, all, length-append p st.rest, most)

  -- a client that has heard all that is given for all its mails has its reply
  unanswered : (s : Standing) (p ms : List Mail) → Stood x v q c owes s p → s.taken ≡ given_for x v q c owes ms → ms ≡ plan x v q c owes s.taken → end_of x v q c owes s.taken ≡ None → ⊥
  unanswered s p ms st all planned none = by st.rest st.parts
    where
      never : replies x v q c owes p ≡ replies x v q c owes (x.full v q) → ⊥
      never e = absurd (let o = over x v q c owes s.taken p (bare_taken x v q c owes s p st) e in let w = none in cc)

      by : (r : List Mail) → x.full v q ≡ p ++ r → ⊥
      by [] e = never (ap (replies x v q c owes) (sym (e ∙ append-nil p)))
      by (m ∷ r) e =
          let here = planned ∙ planned_at x v q c owes s.taken p m r e (bare_taken x v q c owes s p st) in
          let one = map (to_asker (stamp c (suc (length p)) m)) (answer x v q c owes p m) in
          let more : given_for x v q c owes p ≡ given_for x v q c owes p ++ (one ++ []) =
          sym st.taken ∙ all ∙ ap (given_for x v q c owes) here ∙ gives_one x.serve x.speech.emission owes.serves_bare c v p m [] in
          let n = ap length more in
          let z : length (answer x v q c owes p m) ≡ 0 = omega (arith, n, length-append (given_for x v q c owes p) (one ++ []), length-append one [], length-map (answer x v q c owes p m) (to_asker (stamp c (suc (length p)) m))) in
          never (silent_last x v q c owes p m r e (none_of (answer x v q c owes p m) z))
        where
          none_of : (xs : List Mail) → length xs ≡ 0 → xs ≡ []
          none_of [] e = refl
          none_of (k ∷ ks) e = absurd (omega (arith, e))

  -- where the reply is there, all replies came
  all_came : (s : Standing) (p : List Mail) (r : ReplyKind × List ℕ) → Stood x v q c owes s p → end_of x v q c owes s.taken ≡ Some r → replies x v q c owes p ≡ replies x v q c owes (x.full v q)
  all_came s p r st e = by (plain x.speech.emission (given x.serve (after x.serve v p) st.rest)) cut
    where
      cut : replies x v q c owes (x.full v q) ≡ replies x v q c owes p ++ plain x.speech.emission (given x.serve (after x.serve v p) st.rest)
      cut = ap (replies x v q c owes) st.parts ∙ plain_given-append x.serve x.speech.emission v p st.rest

      here : x.speech.ends q (replies x v q c owes p) ≡ Some r
      here = owes.replies (replies x v q c owes p) ∙ sym (same_end x v q c owes s.taken (replies x v q c owes p) (bare_taken x v q c owes s p st)) ∙ e

      by : (l : List Mail) → replies x v q c owes (x.full v q) ≡ replies x v q c owes p ++ l → replies x v q c owes p ≡ replies x v q c owes (x.full v q)
      by [] e = sym (e ∙ append-nil (replies x v q c owes p))
      by (k ∷ l) f =
          let none = owes.law.ended q (replies x v q c owes p) k l r here in
          let some = owes.replies (replies x v q c owes p ++ k ∷ l) ∙ ap (end_of x v q c owes) (sym f) ∙ whole x v q c owes in
          absurd (cc)

  -- the mails that were sent have carried the service out
  carried : (s : Standing) (p ms : List Mail) → Stood x v q c owes s p → s.taken ≡ given_for x v q c owes ms → Sent x v q c owes s ms → replies x v q c owes p ≡ replies x v q c owes (x.full v q) → Behind x v q ms
  carried s p ms st all sent came = by sent
    where
      planned_all : plan x v q c owes s.taken ≡ x.full v q
      planned_all = same_plan x v q c owes s.taken (replies x v q c owes (x.full v q)) (bare_taken x v q c owes s p st ∙ ap (map bare) came)
          ∙ sym (owes.plans (replies x v q c owes (x.full v q))) ∙ owes.law.all_planned v q owes.ready owes.valid

      all_behind : Behind x v q (x.full v q)
      all_behind = owes.law.whole v q owes.ready owes.valid

      front : Lasts (x.full v q) → ms ≡ but_last (x.full v q) → Behind x v q ms
      front l e =
          let is : ms ≡ l.init = e ∙ l.front in
          let alike : map bare (replies x v q c owes l.init) ≡ map bare (replies x v q c owes (x.full v q)) =
          sym (bare_given x v q c owes l.init) ∙ ap (λ z. map bare (given_for x v q c owes z)) (sym is) ∙ ap (map bare) (sym all) ∙ bare_taken x v q c owes s p st ∙ ap (map bare) came in
          let cut : replies x v q c owes (x.full v q) ≡ replies x v q c owes l.init ++ plain x.speech.emission (given x.serve (after x.serve v l.init) (l.last ∷ [])) =
          ap (replies x v q c owes) l.parts ∙ plain_given-append x.serve x.speech.emission v l.init (l.last ∷ []) in
          let same = same_front (replies x v q c owes l.init) (replies x v q c owes (x.full v q)) _ [] (sym cut ∙ sym (append-nil (replies x v q c owes (x.full v q)))) (as_many _ _ alike) in
          subst (Behind x v q) (sym is) (owes.law.counted v q owes.ready owes.valid owes.answers l.init (l.last ∷ []) l.parts same)

      by_last : ms ≡ but_last (x.full v q) → (x.full v q ≡ []) ⊎ Lasts (x.full v q) → Behind x v q ms
      by_last e (inl z) = subst (Behind x v q) (z ∙ sym (e ∙ ap but_last z)) all_behind
      by_last e (inr l) = front l e

      by : Sent x v q c owes s ms → Behind x v q ms
      by (inl e) = subst (Behind x v q) (sym (e ∙ planned_all)) all_behind
      by (inr e) = by_last (e ∙ ap but_last planned_all) (lasts (x.full v q))

  reply_so : (s : Standing) (p ms requests : List Mail) (value : Reply) → Stood x v q c owes s p → s.taken ≡ given_for x v q c owes ms → Sent x v q c owes s ms → requests ≡ stamps c 0 ms → replied c s ≡ Some (value.kind, value.value) → IsCarriedOut x v q requests value
  reply_so s p ms requests value st all sent is e =
      let came = all_came s p (value.kind, value.value) st e in
      let o = over x v q c owes s.taken p (bare_taken x v q c owes s p st) came in
      let b = carried s p ms st all sent came in
      let w : after x.serve v requests ≡ after x.serve v ms = ap (after x.serve v) is ∙ after_stamps x.serve x.speech.emission owes.serves_bare c v 0 ms in
      let both : Some (value.kind, value.value) ≡ Some (x.reply (x.app v) q) = sym e ∙ o in
      record { reply = cc; app = ap x.app w ∙ b.app; handled = ap x.handled w ∙ b.handled }

  -- a call by what it took, and what was sent

  enough : (s : Standing) (p : List Mail) (first last : Told) → Stood x v q c owes s p → MayLack s first last ToolEnd.NoAnswer → ⊥
  enough s p first last st lack = let few = taken_few s p st in absurd (omega (arith, few, lack))

  by_end : (end : ToolEnd) (s : Standing) (p ms requests : List Mail) (value : Reply) (first last : Told) → Stood x v q c owes s p → s.taken ≡ given_for x v q c owes ms → (ms ≡ said c s) ⊎ ((ms ≡ but_last (said c s)) × MayLack s first last end) → requests ≡ stamps c 0 ms →
      Causes c s first last value end → Concludes x v q requests value end
  by_end ToolEnd.Reply s p ms requests value first last st all (inl e) is k = reply_so s p ms requests value st all (inl e) is k.0
  by_end ToolEnd.Reply s p ms requests value first last st all (inr e) is k = reply_so s p ms requests value st all (inr e.0) is k.0
  by_end ToolEnd.NoAnswer s p ms requests value first last st all (inl e) is k = unanswered s p ms st all e k.0
  by_end ToolEnd.NoAnswer s p ms requests value first last st all (inr e) is k = enough s p first last st e.1
  by_end ToolEnd.PortFault s p ms requests value first last st all e is k = tt
  by_end ToolEnd.NoMemory s p ms requests value first last st all e is k = tt

  -- THE CLIENT LAW
  pub concluded : (first last : Told) (heard : List HeardGram) (sent : List SentGram) (requests : List Mail) (value : Reply) (end : ToolEnd) → Tells first last heard sent → HasEnded c first last value end → Gives x.serve x.speech.emission v sent heard requests →
      Concludes x v q requests value end
  concluded first last heard sent requests value end tells ended given = by ended.sent
    where
      same_heard : ended.grams ≡ heard
      same_heard = adds_told first.heard last.heard tells.heard_first heard ended.grams tells.heard_so tells.heard_then ended.heard

      on : (ms : List Mail) → Adds first.sent last.sent (grams_of c ms) → EachOf (λ (m : Mail). length m.body.items ≤ 1480) ms →
          (ms ≡ said c (hears_all c at_first ended.grams)) ⊎ ((ms ≡ but_last (said c (hears_all c at_first ended.grams))) × MayLack (hears_all c at_first ended.grams) first last end) → Concludes x v q requests value end
      on ms adds short e =
          let same_sent = adds_told first.sent last.sent tells.sent_first sent (grams_of c ms) tells.sent_so tells.sent_then adds in
          let is : requests ≡ stamps c 0 ms = some_once requests (stamps c 0 ms) (sym given.asked ∙ ap posted (sym same_sent) ∙ posted_stamps c 0 ms owes.station short) in
          let reads : held ended.grams ≡ map Some (given_for x v q c owes ms) = ap held same_heard ∙ given.answered ∙ ap (λ rs. map Some (gives x.serve x.speech.emission v rs)) is in
          let w = walk x v q c owes ended.grams at_first [] begun (given_for x v q c owes ms) ms (sent_of ms e) refl reads ended.awaited in
          by_end end (hears_all c at_first ended.grams) w.0 ms requests value first last w.1 w.2 e is ended.causes
        where
          sent_of : (ms : List Mail) → (ms ≡ said c (hears_all c at_first ended.grams)) ⊎ ((ms ≡ but_last (said c (hears_all c at_first ended.grams))) × MayLack (hears_all c at_first ended.grams) first last end) →
              Sent x v q c owes (hears_all c at_first ended.grams) ms
          sent_of ms (inl e) = inl e
          sent_of ms (inr e) = inr e.0

      by : IsSent c (hears_all c at_first ended.grams) first last end → Concludes x v q requests value end
      by (inl adds) = on (said c (hears_all c at_first ended.grams)) adds (owes.short (hears_all c at_first ended.grams).taken) (inl refl)
      by (inr lack) = on (but_last (said c (hears_all c at_first ended.grams))) lack.0 (each_but_last _ (said c (hears_all c at_first ended.grams)) (owes.short (hears_all c at_first ended.grams).taken)) (inr (refl, lack.1))
