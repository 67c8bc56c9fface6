-- What a talk keeps of its call, from datagram to datagram.
use Rattle.std.proofs.Common.{◌≡◌, ℕ, ◌+◌, ◌<◌, ◌≤◌, List, [], ◌∷◌, ◌++◌, true, false, Option, Some, None, Ok, Err, refl, sym, ap, ◌∙◌, subst, length, arith, inl, inr, length-append, append-nil}
use Rattle.std.specs.Prelude.{suc, Result, ◌⊎◌}
use Rattle.std.proofs.lemmas.List.{append_assoc}
use Rattle.gateway_core.specs.of_ec_outside.Faults.{Rose}
use Rattle.gateway_core.specs.of_ec_outside.Port.{Sends}
use Rattle.gateway_core.specs.of_ec_outside.declared.port.Peer.{Peer}
use Rattle.gateway_core.specs.of_ec_outside.declared.port.PortErr.{PortErr}
use Rattle.gateway_core.specs.of_ec_outside.declared.port.SentGram.{SentGram}
use Rattle.gateway_core.specs.of_mailbox_mail.declared.mail.Mail.{Mail}
use Rattle.gateway_core.specs.of_mailbox_mail.declared.mail.Kind.{Kind}
use Rattle.link_model.specs.Counters.{counter_of, next_counter}
use Rattle.link_model.proofs.Lists.{counter_of-push}
use Rattle.gateway_core.specs.Framing.{gram_text}
use Rattle.gateway_tool.specs.Rule.{Call, Standing, hears_all, at_first, gram_of, grams_behind, grams_of}
use Rattle.gateway_tool.specs.Told.{Told, Adds}
use Rattle.gateway_tool.specs.Client.{left, kind_of, mail_with, SendsNext}
use Rattle.gateway_tool.specs.Talk.{Stands, Lays, Goes, Lacks, SendsSo, EndsSo, forgiven}
use Rattle.gateway_tool.specs.declared.client.Client.{Client}
use Rattle.gateway_tool.specs.declared.talk.Talk.{Talk}

-- lists

pub none_left : {A : Type 0} (xs : List A) → length xs ≡ 0 → xs ≡ []
none_left [] e = refl
none_left (x ∷ xs) e = absurd (omega (arith, e))

behind_one : {A : Type 0} (all : List A) (x : A) (rest : List A) → length all ≤ 1 → all ≡ x ∷ rest → rest ≡ []
behind_one all x rest few e = let h = ap length e in none_left rest (omega (arith, few, h))

-- datagrams

grams_push : (c : Call) (n : ℕ) (ms : List Mail) (m : Mail) → grams_behind c n (ms ++ m ∷ []) ≡ grams_behind c n ms ++ gram_of c (n + length ms + 1) m ∷ []
grams_push c n [] m = ap (λ (k : ℕ). gram_of c k m ∷ []) (let e : suc n ≡ n + 0 + 1 = omega arith in e)
grams_push c n (x ∷ ms) m =
    ap (λ (gs : List SentGram). gram_of c (suc n) x ∷ gs) (grams_push c (suc n) ms m)
    ∙ ap (λ (k : ℕ). gram_of c (suc n) x ∷ (grams_behind c (suc n) ms ++ gram_of c k m ∷ [])) (let e : suc n + length ms + 1 ≡ n + length (x ∷ ms) + 1 = omega arith in e)

pub grams_one : (c : Call) (ms : List Mail) (m : Mail) → grams_of c (ms ++ m ∷ []) ≡ grams_of c ms ++ gram_of c (length ms + 1) m ∷ []
grams_one c ms m = grams_push c 0 ms m ∙ ap (λ (k : ℕ). grams_behind c 0 ms ++ gram_of c k m ∷ []) (let e : 0 + length ms + 1 ≡ length ms + 1 = omega arith in e)

-- what a port tells besides

adds_more : {A : Type 0} (first now next : Option (List A)) (xs ys : List A) → Adds first now xs → Adds now next ys → Adds first next (xs ++ ys)
adds_more None now next xs ys a b = tt
adds_more (Some old) now next xs ys a b = subst (λ n. Adds n next ys) a b ∙ ap Some (append_assoc old xs ys)

adds_same : {A : Type 0} (first now next : Option (List A)) (xs : List A) → next ≡ now → Adds first now xs → Adds first next xs
adds_same first now next xs e a = subst (λ n. Adds first n xs) (sym e) a

pub adds_none : {A : Type 0} (first : Option (List A)) → Adds first first []
adds_none None = tt
adds_none (Some old) = ap Some (sym (append-nil old))

sends_one : (now next : Option (List SentGram)) (to : Peer) (octets : List ℕ) (done : Unit {0}) → Sends now next to octets (Ok done) → Adds now next (record { to = to; bytes = octets } ∷ [])
sends_one None next to octets done s = tt
sends_one (Some old) next to octets done s = s

sends_none : (first now next : Option (List SentGram)) (to : Peer) (octets : List ℕ) (xs : List SentGram) → Sends now next to octets (Err PortErr.NoMemory) → Adds first now xs → Adds first next xs
sends_none None now next to octets xs s a = tt
sends_none (Some old) now next to octets xs s a =
    let t = subst (λ n. Sends n next to octets (Err PortErr.NoMemory)) a s in
    t

sends_some : (first now next : Option (List SentGram)) (to : Peer) (octets : List ℕ) (xs : List SentGram) → Sends now next to octets (Err PortErr.Failed) → Adds first now xs →
    Adds first next xs ⊎ Adds first next (xs ++ record { to = to; bytes = octets } ∷ [])
sends_some None now next to octets xs s a = inl tt
sends_some (Some old) now next to octets xs s a =
    elim (subst (λ n. Sends n next to octets (Err PortErr.Failed)) a s) [ inl same ↦ inl same | inr more ↦ inr (more ∙ ap Some (append_assoc old xs (record { to = to; bytes = octets } ∷ []))) ]

rose_later : (first now next : ℕ) → first ≤ now → now ≤ next → Rose now next → Rose first next
rose_later first now next a b (inl less) = inl (omega (arith, a, less))
rose_later first now next a b (inr end) = elim (below first now a) [ inl same ↦ inr (same ∙ end) | inr less ↦ inl (omega (arith, less, b)) ]
  where
    below : (x y : ℕ) → x ≤ y → (x ≡ y) ⊎ (x < y)
    below x y h = grind (arith, h)

-- a mail is sent

pub sent_then : (old new : Client) (octets : List ℕ) → length (left old []) ≤ 1 → SendsNext old octets new → left new [] ≡ []
sent_then old new octets few s = behind_one (left old []) (mail_with (kind_of old) octets) (left new []) few (s.mails [])

stands_sent : (c : Call) (s : Standing) (told : List Mail) (old new : Talk) (octets : List ℕ) → Stands c s told old → SendsNext old.client octets new.client → new.counter ≡ next_counter old.counter → new.taken ≡ old.taken → new.passed ≡ old.passed → new.station ≡ old.station → new.to ≡ old.to →
    Stands c s (told ++ mail_with (kind_of old.client) octets ∷ []) new
stands_sent c s told old new octets h n counter taken passed at peer = record {
  mails = λ hs. append_assoc told (mail_with (kind_of old.client) octets ∷ []) (left new.client hs) ∙ ap (λ (ms : List Mail). told ++ ms) (sym (n.mails hs)) ∙ h.mails hs;
  replies = λ hs. n.replies hs ∙ h.replies hs;
  counter = counter ∙ ap next_counter h.counter ∙ sym (counter_of-push told (mail_with (kind_of old.client) octets));
  taken = taken ∙ h.taken;
  passed = passed ∙ h.passed;
  station = at ∙ h.station;
  to = peer ∙ h.to;
}

counted_next : (told : List Mail) (m : Mail) → counter_of (length (told ++ m ∷ [])) ≡ counter_of (length told + 1)
counted_next told m = ap counter_of (length-append told (m ∷ []))

pub laid : (c : Call) (s : Standing) (told : List Mail) (old new : Talk) (kind : Kind) (octets : List ℕ) → Stands c s told old → SendsNext old.client octets new.client → new.counter ≡ next_counter old.counter → new.taken ≡ old.taken → new.passed ≡ old.passed →
    new.station ≡ old.station → new.to ≡ old.to → kind ≡ kind_of old.client → new.gram.items ≡ gram_text (record { address = old.station; kind = kind; counter = new.counter; body = record { items = octets } }) → Lays true c s told new
laid c s told old new kind octets h n counter taken passed at peer is text =
    let k = stands_sent c s told old new octets h n counter taken passed at peer in
    let count : new.counter ≡ counter_of (length told + 1) = k.counter ∙ counted_next told (mail_with (kind_of old.client) octets) in (
      mail_with (kind_of old.client) octets,
      k,
      text ∙ (λ i. gram_text (record { address = h.station i; kind = is i; counter = count i; body = record { items = octets } })),
    )

goes_laid : (c : Call) (first now next : Told) (old new : Talk) (g : Goes c first now old) → Stands c (hears_all c at_first g.grams) g.told new → next.heard ≡ now.heard → next.sent ≡ now.sent → now.faults ≤ next.faults → Goes c first next new
goes_laid c first now next old new g s h e l = record {
  grams = g.grams;
  told = g.told;
  awaited = g.awaited;
  stands = s;
  heard = adds_same first.heard now.heard next.heard g.grams h g.heard;
  sent = adds_same first.sent now.sent next.sent (grams_of c g.told) e g.sent;
  later = let a = g.later in omega (arith, a, l);
}

pub sends_nothing : (c : Call) (first now : Told) (old new : Talk) → Goes c first now old → ((s : Standing) (told : List Mail) → Stands c s told old → Lays false c s told new) → Goes c first now new
sends_nothing c first now old new g l = goes_laid c first now now old new g (l (hears_all c at_first g.grams) g.told g.stands) refl refl (omega arith)

lacks_laid : (c : Call) (first now next : Told) (old new : Talk) (g : Goes c first now old) (m : Mail) → Stands c (hears_all c at_first g.grams) (g.told ++ m ∷ []) new → next.heard ≡ now.heard → Adds first.sent next.sent (grams_of c g.told) → now.faults ≤ next.faults →
    Lacks c first next new
lacks_laid c first now next old new g m s h e l = record {
  grams = g.grams;
  told = g.told;
  last = m;
  awaited = g.awaited;
  stands = s;
  heard = adds_same first.heard now.heard next.heard g.grams h g.heard;
  sent = e;
  later = let a = g.later in omega (arith, a, l);
}

sent_laid : (c : Call) (first now next : Told) (old new : Talk) (g : Goes c first now old) (m : Mail) → Stands c (hears_all c at_first g.grams) (g.told ++ m ∷ []) new → next.heard ≡ now.heard → Adds first.sent next.sent (grams_of c g.told ++ gram_of c (length g.told + 1) m ∷ []) →
    now.faults ≤ next.faults → Goes c first next new
sent_laid c first now next old new g m s h e l = record {
  grams = g.grams;
  told = g.told ++ m ∷ [];
  awaited = g.awaited;
  stands = s;
  heard = adds_same first.heard now.heard next.heard g.grams h g.heard;
  sent = subst (λ gs. Adds first.sent next.sent gs) (sym (grams_one c g.told m)) e;
  later = let a = g.later in omega (arith, a, l);
}

-- the datagram of a mail was handed to the port
sent_by : (c : Call) (first now next : Told) (old new : Talk) (r : Result (Unit {0}) PortErr) (g : Goes c first now old) (m : Mail) → Stands c (hears_all c at_first g.grams) (g.told ++ m ∷ []) new → next.heard ≡ now.heard → now.faults ≤ next.faults →
    (r ≡ Err PortErr.Failed → Rose now.faults next.faults) → Sends now.sent next.sent c.to (gram_of c (length g.told + 1) m).bytes r → SendsSo c first next new r
sent_by c first now next old new (Ok done) g m s h l cause e =
    sent_laid c first now next old new g m s h (adds_more first.sent now.sent next.sent (grams_of c g.told) (gram_of c (length g.told + 1) m ∷ []) g.sent (sends_one now.sent next.sent c.to (gram_of c (length g.told + 1) m).bytes done e)) l
sent_by c first now next old new (Err PortErr.Failed) g m s h l cause e = (
  elim (sends_some first.sent now.sent next.sent c.to (gram_of c (length g.told + 1) m).bytes (grams_of c g.told) e g.sent) [
    | inl same ↦ inr (lacks_laid c first now next old new g m s h same l)
    | inr more ↦ inl (sent_laid c first now next old new g m s h more l)
  ],
  rose_later first.faults now.faults next.faults g.later l (cause refl),
)
sent_by c first now next old new (Err PortErr.NoMemory) g m s h l cause e =
    lacks_laid c first now next old new g m s h (sends_none first.sent now.sent next.sent c.to (gram_of c (length g.told + 1) m).bytes (grams_of c g.told) e g.sent) l

pub sends_laid : (c : Call) (first now next : Told) (old new : Talk) (r : Result (Unit {0}) PortErr) → Goes c first now old → ((s : Standing) (told : List Mail) → Stands c s told old → Lays true c s told new) → next.heard ≡ now.heard → now.faults ≤ next.faults →
    (r ≡ Err PortErr.Failed → Rose now.faults next.faults) → Sends now.sent next.sent new.to new.gram.items r → SendsSo c first next new r
sends_laid c first now next old new r g lay h l cause e =
    let laid_so = lay (hears_all c at_first g.grams) g.told g.stands in
    let to_peer = subst (λ (p : Peer). Sends now.sent next.sent p new.gram.items r) laid_so.1.to e in
    sent_by c first now next old new r g laid_so.0 laid_so.1 h l cause (subst (λ (o : List ℕ). Sends now.sent next.sent c.to o r) laid_so.2 to_peer)

-- the last acknowledgement

pub ends_so : (c : Call) (first now : Told) (t : Talk) (r : Result (Unit {0}) PortErr) → SendsSo c first now t r → EndsSo c first now t (forgiven r)
ends_so c first now t (Ok done) s = inl s
ends_so c first now t (Err PortErr.Failed) s = elim s.0 [ inl g ↦ inl g | inr l ↦ inr (l, s.1) ]
ends_so c first now t (Err PortErr.NoMemory) s = s

pub never_failed : (r : Result (Unit {0}) PortErr) → forgiven r ≡ Err PortErr.Failed → ⊥
never_failed (Ok done) e = cc
never_failed (Err PortErr.Failed) e = cc
never_failed (Err PortErr.NoMemory) e = cc
