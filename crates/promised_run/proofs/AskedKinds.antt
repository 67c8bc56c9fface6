-- The mails that were asked in the course of a serving are of the protocols whose mails are passed on.
use Rattle.std.proofs.Common.{◌≡◌, ◌&&◌, not, ℕ, zero, suc, Bool, true, false, Option, None, Some, Result, Ok, Err, List, [], ◌∷◌, ◌++◌, length, map, refl, sym, ap, ap₂, subst, if◌then◌else◌}
use Rattle.std.specs.Prelude.{All}
use Rattle.std.proofs.lemmas.List.Elements.{All-nil, All-cons, All-head, All-tail, All-push, All-replicate}
use Rattle.seen_slaves.specs.of_few_replies.Packets.{is_fair}
use Rattle.gateway_run.specs.of_gateway_core.Gateway.{is_passed, judged, judged_at, place_from}
use Rattle.gateway_run.specs.of_gateway_core.declared.asker.Asker.{Asker}
use Rattle.gateway_run.specs.Account.{Course, Course.begins, Course.hears, Course.steps, Judges, Judges.ignored as is_ignored, Judges.refused as is_refused, Judges.too_many, Judges.queues, Owing}
use Rattle.gateway_run.specs.declared.desk.Request.{Request}
use Rattle.gateway_run.specs.of_mailbox_mail.declared.mail.Kind.{Kind}
use Rattle.gateway_run.specs.of_mailbox_mail.declared.mail.Mail.{Mail}
use Rattle.gateway_run.specs.of_run_book.declared.book.GramIn.{GramIn}
use Rattle.gateway_run.specs.of_run_book.declared.book.SentFrame.{SentFrame}
use Rattle.gateway_run.specs.of_run_notes.Notes.{stations_of}
use Rattle.gateway_run.specs.of_run_notes.declared.standing.AskedMail.{AskedMail}
use Rattle.gateway_run.specs.of_run_record.Served.{as_asked}
use Rattle.gateway_run.specs.of_run_record.Session.{SessionState, asked_mail, asked_more}
use Rattle.run_promises.specs.of_run_work.Fair.{AsksFair}
use Rattle.run_promises.specs.of_segment_plan.declared.plan.Scenario.{Scenario}
use Rattle.run_promises.specs.Sends.{is_network, of_network}
use Rattle.run_promises.specs.Quiet.{AsksQuiet, is_quiet}
use Rattle.run_promises.specs.of_life_runs.Served.{Keyed, Serves}
use Rattle.slab.specs.Slab.{Slab}

-- one that was judged so is of such a protocol
judged_kind : (g : Slab Asker) (mail : Mail) (rows : List (Option (ℕ × ℕ))) (slave : ℕ) → judged g mail rows ≡ Ok slave → is_passed mail.kind ≡ true
judged_kind g mail rows slave e = at (place_from 0 mail.address rows) (ap came e)
  where
    came : Result ℕ ℕ → Bool
    came (Ok slave) = true
    came (Err detail) = false

    by : (other : Result ℕ ℕ) (b : Bool) → came (if b then other else Err 2) ≡ true → b ≡ true
    by other true f = refl
    by other false f = f

    at : (found : Option (ℕ × ℕ)) → came (judged_at g mail found) ≡ true → is_passed mail.kind ≡ true
    at None f = absurd (let no : false ≡ true = f in cc)
    at (Some place) f = by _ (is_passed mail.kind) f

-- ---- in a course
abbrev IsPassedOn : AskedMail → Type 0
IsPassedOn a = is_passed a.kind ≡ true

abbrev ArePassedOn : List AskedMail → Type 0
ArePassedOn row = All IsPassedOn row

passed_more : (rows : List (List AskedMail)) (k : ℕ) (a : AskedMail) → IsPassedOn a → All ArePassedOn rows → All ArePassedOn (asked_more rows k a)
passed_more [] k a p h = h
passed_more (row ∷ rows) zero a p h = All-cons ArePassedOn (row ++ a ∷ []) rows (All-push IsPassedOn row a (All-head ArePassedOn row rows h) p) (All-tail ArePassedOn row rows h)
passed_more (row ∷ rows) (suc k) a p h = All-cons ArePassedOn row (asked_more rows k a) (All-head ArePassedOn row rows h) (passed_more rows k a p (All-tail ArePassedOn row rows h))

same_rows : (s s' : SessionState) → s'.asked ≡ s.asked → All ArePassedOn s.asked → All ArePassedOn s'.asked
same_rows s s' same h = subst (All ArePassedOn) (sym same) h

judged_passed : (s s' : SessionState) (number : ℕ) (g : GramIn) (rs rs' : List Request) (more : List Owing) → Judges s s' rs rs' number g.bytes g.queued more → All ArePassedOn s.asked → All ArePassedOn s'.asked
judged_passed s s' number g rs rs' more (is_ignored j) h = same_rows s s' (ap (λ (z : SessionState). z.asked) j.session) h
judged_passed s s' number g rs rs' more (is_refused j) h = same_rows s s' (ap (λ (z : SessionState). z.asked) j.session) h
judged_passed s s' number g rs rs' more (too_many j) h = same_rows s s' (ap (λ (z : SessionState). z.asked) j.asks) h
judged_passed s s' number g rs rs' more (queues j) h =
    subst (All ArePassedOn) (sym (ap (λ (z : SessionState). z.asked) j.asks)) (passed_more s.asked j.slave (asked_mail j.key j.mail) (judged_kind j.unfinished j.mail (stations_of s.recover s.homes s.notes) j.slave j.place) h)

pub course_passed : (plan : Scenario) (count : ℕ) (s : SessionState) (fs : List SentFrame) (gs : List GramIn) (rs : List Request) (os : List Owing) → Course plan count s fs gs rs os → All ArePassedOn s.asked
course_passed plan count _ _ _ _ _ (begins s first serves) =
    subst (All ArePassedOn) (sym (ap (λ (z : SessionState). z.asked) first)) (All-replicate ArePassedOn (length plan.slaves) [] (All-nil IsPassedOn))
course_passed plan count _ _ _ _ _ (hears s s' fs gs g rs rs' os more c at few judges) = judged_passed s s' (length gs) g rs rs' more judges (course_passed plan count s fs gs rs os c)
course_passed plan count _ _ _ _ _ (steps s s' fs f gs rs os c m) = same_rows s s' m.asked (course_passed plan count s fs gs rs os c)

-- ---- of the slaves that are led
-- none of these is of EoE
no_network : (kind : Kind) → is_passed kind ≡ true → of_network kind ≡ false
no_network Kind.CoE e = refl
no_network Kind.FoE e = refl
no_network Kind.SoE e = refl
no_network Kind.Error e = absurd (let no : false ≡ true = e in cc)
no_network Kind.AoE e = absurd (let no : false ≡ true = e in cc)
no_network Kind.EoE e = absurd (let no : false ≡ true = e in cc)
no_network Kind.VoE e = absurd (let no : false ≡ true = e in cc)

abbrev IsFairKeyed : Keyed → Type 0
IsFairKeyed k = is_fair (Ok k.mail) ≡ true

abbrev IsQuietKeyed : Keyed → Type 0
IsQuietKeyed k = is_quiet (Ok k.mail) ≡ true

one_quiet : (ks : List Keyed) → All IsPassedOn (map as_asked ks) → All IsFairKeyed ks → All IsQuietKeyed ks
one_quiet [] h fair = All-nil IsQuietKeyed
one_quiet (k ∷ ks) h fair =
    let here : is_network (Ok k.mail) ≡ false = no_network k.mail.kind (All-head IsPassedOn (as_asked k) (map as_asked ks) h) in
    All-cons IsQuietKeyed k ks (ap₂ (λ (a b : Bool). a && not b) (All-head IsFairKeyed k ks fair) here) (one_quiet ks (All-tail IsPassedOn (as_asked k) (map as_asked ks) h) (All-tail IsFairKeyed k ks fair))

all_quiet : (ws : List Serves) → All ArePassedOn (map (λ w. map as_asked w.asked) ws) → All AsksFair ws → All AsksQuiet ws
all_quiet [] h fair = All-nil AsksQuiet
all_quiet (w ∷ ws) h fair =
    let rows = map (λ (z : Serves). map as_asked z.asked) ws in
    All-cons AsksQuiet w ws (one_quiet w.asked (All-head ArePassedOn (map as_asked w.asked) rows h) (All-head AsksFair w ws fair)) (all_quiet ws (All-tail ArePassedOn (map as_asked w.asked) rows h) (All-tail AsksFair w ws fair))

pub quiet_asked : (ws : List Serves) (s : SessionState) → map (λ w. map as_asked w.asked) ws ≡ s.asked → All ArePassedOn s.asked → All AsksFair ws → All AsksQuiet ws
quiet_asked ws s is h fair = all_quiet ws (subst (All ArePassedOn) (sym is) h) fair
