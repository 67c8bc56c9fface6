-- The mails that were asked in the course of a serving: each is that of a datagram of its own.
use Rattle.std.proofs.Common.{◌≡◌, ◌≤◌, ◌+◌, ℕ, zero, suc, true, List, [], ◌∷◌, ◌++◌, length, length-append, map, refl, sym, ap, ◌∙◌, subst, arith}
use Rattle.std.specs.Prelude.{All, Ok, Some, replicate}
use Rattle.std.proofs.lemmas.List.{length-map}
use Rattle.std.proofs.lemmas.List.Elements.{All-nil, All-cons, All-head, All-tail, All-pop, All-push, All-replicate}
use Rattle.seen_slaves.specs.of_few_replies.Packets.{is_fair}
use Rattle.gateway_run.specs.Account.{Course, Course.begins, Course.hears, Course.steps, Judges, Judges.ignored as is_ignored, Judges.refused as is_refused, Judges.too_many, Judges.queues, Owing}
use Rattle.gateway_run.specs.declared.desk.Request.{Request}
use Rattle.gateway_run.specs.of_mailbox_mail.declared.mail.Mail.{Mail}
use Rattle.gateway_run.specs.of_run_book.declared.book.GramIn.{GramIn}
use Rattle.gateway_run.specs.of_run_book.declared.book.SentFrame.{SentFrame}
use Rattle.gateway_run.specs.of_run_notes.declared.standing.AskedMail.{AskedMail}
use Rattle.gateway_run.specs.of_run_record.Served.{as_asked}
use Rattle.gateway_run.specs.of_run_record.Session.{SessionState, asked_mail, asked_more}
use Rattle.run_promises.specs.of_run_work.Fair.{AsksFair, IsFairGram}
use Rattle.run_promises.specs.of_run_work.ServedGained.{asked_in}
use Rattle.run_promises.specs.of_segment_plan.declared.plan.Scenario.{Scenario}
use Rattle.run_promises.specs.of_life_runs.Served.{Keyed, Serves}

-- ---- how many, and how they are
abbrev pub many : List (List AskedMail) → ℕ
many [] = 0
many (row ∷ rows) = length row + many rows

abbrev IsFairAsked : AskedMail → Type 0
IsFairAsked a = (m : Mail) → m.kind ≡ a.kind → m.body.items ≡ a.body → is_fair (Ok m) ≡ true

abbrev AreFair : List AskedMail → Type 0
AreFair row = All IsFairAsked row

-- a mail is fair by its kind and its octets
fair_same : (m n : Mail) → m.kind ≡ n.kind → m.body.items ≡ n.body.items → is_fair (Ok m) ≡ is_fair (Ok n)
fair_same m n kind body = λ i. is_fair (Ok (record { address = 0; counter = 0; kind = kind i; body = record { items = body i } }))

many_none : (n : ℕ) → many (replicate n []) ≡ 0
many_none zero = refl
many_none (suc n) = ap (λ k. 0 + k) (many_none n)

-- one more
one_more : (rows : List (List AskedMail)) (k : ℕ) (a : AskedMail) → many (asked_more rows k a) ≤ suc (many rows)
one_more [] k a = omega arith
one_more (row ∷ rows) zero a = let e = length-append row (a ∷ []) in omega (arith, e)
one_more (row ∷ rows) (suc k) a = let e = one_more rows k a in omega (arith, e)

fair_more : (rows : List (List AskedMail)) (k : ℕ) (a : AskedMail) → IsFairAsked a → All AreFair rows → All AreFair (asked_more rows k a)
fair_more [] k a f h = h
fair_more (row ∷ rows) zero a f h = All-cons AreFair (row ++ a ∷ []) rows (All-push IsFairAsked row a (All-head AreFair row rows h) f) (All-tail AreFair row rows h)
fair_more (row ∷ rows) (suc k) a f h = All-cons AreFair row (asked_more rows k a) (All-head AreFair row rows h) (fair_more rows k a f (All-tail AreFair row rows h))

-- ---- in a course
abbrev IsFairIn : GramIn → Type 0
IsFairIn g = IsFairGram g.bytes

unmapped : (gs : List GramIn) → All IsFairGram (map (λ (g : GramIn). g.bytes) gs) → All IsFairIn gs
unmapped [] h = All-nil IsFairIn
unmapped (g ∷ gs) h =
    All-cons IsFairIn g gs (All-head IsFairGram g.bytes (map (λ (g : GramIn). g.bytes) gs) h) (unmapped gs (All-tail IsFairGram g.bytes (map (λ (g : GramIn). g.bytes) gs) h))

abbrev Asked : SessionState → List GramIn → Type 0
Asked s gs = (many s.asked ≤ length gs) × (All IsFairIn gs → All AreFair s.asked)

longer : (gs : List GramIn) (g : GramIn) → length (gs ++ g ∷ []) ≡ suc (length gs)
longer gs g = let e = length-append gs (g ∷ []) in omega (arith, e)

-- where none was asked
stays : (s s' : SessionState) (gs : List GramIn) (g : GramIn) → s'.asked ≡ s.asked → Asked s gs → Asked s' (gs ++ g ∷ [])
stays s s' gs g same h =
    let few = h.0 in
    let e = longer gs g in
    let many_same = ap many same in (
      omega (arith, few, e, many_same),
      λ fair. subst (All AreFair) (sym same) (h.1 (All-pop IsFairIn (gs ++ g ∷ []) gs (Some g) refl fair).0),
    )

judged_asked : (s s' : SessionState) (gs : List GramIn) (g : GramIn) (rs rs' : List Request) (more : List Owing) → Judges s s' rs rs' (length gs) g.bytes g.queued more → Asked s gs → Asked s' (gs ++ g ∷ [])
judged_asked s s' gs g rs rs' more (is_ignored j) h = stays s s' gs g (ap (λ (z : SessionState). z.asked) j.session) h
judged_asked s s' gs g rs rs' more (is_refused j) h = stays s s' gs g (ap (λ (z : SessionState). z.asked) j.session) h
judged_asked s s' gs g rs rs' more (too_many j) h = stays s s' gs g (ap (λ (z : SessionState). z.asked) j.asks) h
judged_asked s s' gs g rs rs' more (queues j) h =
    let is : s'.asked ≡ asked_more s.asked j.slave (asked_mail j.key j.mail) = ap (λ (z : SessionState). z.asked) j.asks in
    let few = h.0 in
    let e = longer gs g in
    let count = ap many is in
    let one = one_more s.asked j.slave (asked_mail j.key j.mail) in (
      omega (arith, few, e, count, one),
      λ fair.
          let both = All-pop IsFairIn (gs ++ g ∷ []) gs (Some g) refl fair in
          subst (All AreFair) (sym is) (fair_more s.asked j.slave (asked_mail j.key j.mail) (λ m kind body. fair_same m j.mail kind body ∙ both.1 j.mail j.request) (h.1 both.0)),
    )

pub course_asked : (plan : Scenario) (count : ℕ) (s : SessionState) (fs : List SentFrame) (gs : List GramIn) (rs : List Request) (os : List Owing) → Course plan count s fs gs rs os → Asked s gs
course_asked plan count _ _ _ _ _ (begins s first serves) =
    let is : s.asked ≡ replicate (length plan.slaves) [] = ap (λ (z : SessionState). z.asked) first in
    let none = ap many is ∙ many_none (length plan.slaves) in
    (omega (arith, none), λ fair. subst (All AreFair) (sym is) (All-replicate AreFair (length plan.slaves) [] (All-nil IsFairAsked)))
course_asked plan count _ _ _ _ _ (hears s s' fs gs g rs rs' os more c at few judges) = judged_asked s s' gs g rs rs' more judges (course_asked plan count s fs gs rs os c)
course_asked plan count _ _ _ _ _ (steps s s' fs f gs rs os c m) =
    let h = course_asked plan count s fs gs rs os c in
    let few = h.0 in
    let same = ap many m.asked in
    (omega (arith, few, same), λ fair. subst (All AreFair) (sym m.asked) (h.1 fair))

-- ---- of the slaves that are led
many_asked : (ws : List Serves) → asked_in ws ≡ many (map (λ w. map as_asked w.asked) ws)
many_asked [] = refl
many_asked (w ∷ ws) = (λ i. sym (length-map w.asked as_asked) i + many_asked ws i)

one_fair : (ks : List Keyed) → All IsFairAsked (map as_asked ks) → All (λ (k : Keyed). is_fair (Ok k.mail) ≡ true) ks
one_fair [] h = All-nil (λ (k : Keyed). is_fair (Ok k.mail) ≡ true)
one_fair (k ∷ ks) h =
    All-cons (λ (k : Keyed). is_fair (Ok k.mail) ≡ true) k ks (All-head IsFairAsked (as_asked k) (map as_asked ks) h k.mail refl refl) (one_fair ks (All-tail IsFairAsked (as_asked k) (map as_asked ks) h))

all_fair : (ws : List Serves) → All AreFair (map (λ w. map as_asked w.asked) ws) → All AsksFair ws
all_fair [] h = All-nil AsksFair
all_fair (w ∷ ws) h =
    let rows = map (λ (z : Serves). map as_asked z.asked) ws in
    All-cons AsksFair w ws (one_fair w.asked (All-head AreFair (map as_asked w.asked) rows h)) (all_fair ws (All-tail AreFair (map as_asked w.asked) rows h))

pub few_asked : (ws : List Serves) (s : SessionState) (gs : List GramIn) → map (λ w. map as_asked w.asked) ws ≡ s.asked → Asked s gs → asked_in ws ≤ length gs
few_asked ws s gs is h =
    let few = h.0 in
    let same = many_asked ws ∙ ap many is in
    omega (arith, few, same)

pub fair_asked : (ws : List Serves) (s : SessionState) (gs : List GramIn) → map (λ w. map as_asked w.asked) ws ≡ s.asked → Asked s gs → All IsFairGram (map (λ (g : GramIn). g.bytes) gs) → All AsksFair ws
fair_asked ws s gs is h fair = all_fair ws (subst (All AreFair) (sym is) (h.1 (unmapped gs fair)))
