-- WHERE EACH SERVICE HAS ITS OUTCOME its master has its answer: that of the application behind those before it.
use Rattle.std.proofs.Common.{◌≡◌, ◌<◌, ℕ, suc, ◌==◌, Bool, true, false, Option, None, Some, option_map, List, [], ◌∷◌, ◌++◌, refl, ap, sym, ◌∙◌, subst, if◌then◌else◌}
use Rattle.std.specs.Prelude.{⊤}
use Rattle.served_places.specs.of_exchange_model.Exchange.{Exchange, Speech, plain}
use Rattle.served_places.specs.of_exchange_model.Rows.{Row}
use Rattle.served_places.specs.of_link_model.Mails.{first_of}
use Rattle.served_places.specs.of_segment_model.Ends.{Outcome, mails_end, state_ends}
use Rattle.served_places.specs.of_segment_model.Laws.{AllAnswered, IsAnswered, as_outcome}
use Rattle.served_places.specs.of_segment_model.Record.{Frame, News, first_end, mails_heard, news_from, or_later}
use Rattle.served_places.specs.of_state_model.Stated.{Service, Stated, service_exec, service_reply}
use Rattle.served_places.specs.of_state_model.Promises.{answer_of, state_behind}
use Rattle.served_places.specs.of_state_model.States.{Table}
use Rattle.served_places.specs.of_state_model.Accounts.{Change, Started}
use Rattle.served_places.specs.of_state_model.Promise.{AllDone, AllEnded, AllFound, AllReplied, IsReply, changes_in, mail_of, mails_started, outcome_of, rows_started, services_in, state_found, state_of, states_started}

-- ---- the outcome of a state service tells that it was carried out
same_reply : {R : Type 0} (r o : Outcome R) → Some r ≡ Some o → IsReply r → IsReply o
same_reply r o e is = let same : r ≡ o = cc in subst IsReply same is

state_replies : {M R : Type 0} (target : ℕ) (refusal : Option ℕ) (ns : List (News M)) (o : Outcome R) → state_ends target refusal ns ≡ Some o → IsReply o
state_replies target refusal [] o e = absurd (let no : None ≡ Some o = e in cc)
state_replies {M} {R} target None (News.Status state None ∷ ns) o e = go (state == target) e (λ is. state_replies target None ns o is)
  where
    go : (b : Bool) → (if b then Some Outcome.Reached else state_ends {R = R} target None ns) ≡ Some o → (state_ends {R = R} target None ns ≡ Some o → IsReply o) → IsReply o
    go true is later = same_reply Outcome.Reached o is tt
    go false is later = later is
state_replies target (Some code) (News.Status state None ∷ ns) o e = same_reply (Outcome.Refused code) o e tt
state_replies target None (News.Status state (Some code) ∷ ns) o e = state_replies target (first_of None (Some code)) ns o e
state_replies target (Some old) (News.Status state (Some code) ∷ ns) o e = state_replies target (first_of (Some old) (Some code)) ns o e
state_replies target refusal (News.Told m ∷ ns) o e = state_replies target refusal ns o e
state_replies target refusal (News.Written ∷ ns) o e = state_replies target refusal ns o e
state_replies target refusal (News.Heard m ∷ ns) o e = state_replies target refusal ns o e
state_replies target refusal (News.NothingRead ∷ ns) o e = state_replies target refusal ns o e
state_replies target refusal (News.BoxFull full ∷ ns) o e = state_replies target refusal ns o e

first_of_all : {N T : Type 0} (P : T → Type 0) (ends : List N → Option T) → ((ns : List N) (o : T) → ends ns ≡ Some o → P o) → (frame : ℕ) (before : List N) (nss : List (List N)) (o : T × ℕ) → first_end ends frame before nss ≡ Some o → P o.0
first_of_all P ends each frame before [] o e = absurd (let no : None ≡ Some o = e in cc)
first_of_all {T = T} P ends each frame before (ns ∷ nss) o e = go (ends (before ++ ns)) refl e (λ later. first_of_all P ends each (suc frame) (before ++ ns) nss o later)
  where
    go : (found : Option T) → ends (before ++ ns) ≡ found → or_later found frame (first_end ends (suc frame) (before ++ ns) nss) ≡ Some o → (first_end ends (suc frame) (before ++ ns) nss ≡ Some o → P o.0) → P o.0
    go None is some later = later some
    go (Some r) is some later = let same : ◌≡◌ {A = T × ℕ} (r, frame) o = cc in each (before ++ ns) o.0 (is ∙ ap (λ (k : T × ℕ). Some k.0) same)

-- and so does that of a service by mails that has a reply
mails_reply : {M Q R : Type 0} (x : Speech M Q R) (q : Q) (ns : List (News M)) (o : Outcome R) → mails_end x q false ns ≡ Some o → IsReply o
mails_reply {R = R} x q ns o e = go (x.ends q (plain x.emission (mails_heard ns))) e
  where
    go : (found : Option R) → option_map (λ r. Outcome.Replied r) found ≡ Some o → IsReply o
    go None e = absurd (let no : None ≡ Some o = e in cc)
    go (Some r) e = same_reply (Outcome.Replied r) o e tt

module _ {V A M Q R : Type 0} (x : Exchange V A M Q R) (s : Stated V A Q) (table : Table) where
  -- a service by mails that has a reply has this one
  abbrev pub IsReplied : A → Q → Row M Q R → Type 0
  IsReplied a q r = (r.service ≡ q) × (x.speech.handed q ≡ false → (frame : ℕ) × (r.answer ≡ Some (x.reply a q, frame)))

  -- EACH SERVICE HAS ITS ANSWER, from an application on, beside the number of changes
  abbrev pub AreAnswered : A × ℕ → List (Service Q) → List (Row M Q R) → List (Change R) → Type 0
  AreAnswered a [] [] [] = ⊤
  AreAnswered a (Service.Mails q ∷ qs) (r ∷ rs) cs = IsReplied a.0 q r × AreAnswered (x.exec a.0 q, a.1) qs rs cs
  AreAnswered a (Service.State target ∷ qs) rs (c ∷ cs) =
      (c.target ≡ target) × (c.answer ≡ answer_of (table (s.state a.0) target)) × AreAnswered (s.told (state_behind table (s.state a.0) target) a.0, suc a.1) qs rs cs
  AreAnswered a _ _ _ = ⊥

  -- one that has its answer has this reply, and is among the first so many
  abbrev pub IsReplyOf : ℕ → ℕ → A → Q → Row M Q R → Type 0
  IsReplyOf count number a q r = (r.service ≡ q) × (x.speech.handed q ≡ false → (reply : R) (frame : ℕ) → r.answer ≡ Some (reply, frame) → (reply ≡ x.reply a q) × (number < count))

  -- SO EACH ANSWER IS, from an application on, beside the number of changes; a change of the AL state that isn't over has none
  abbrev pub AreReplies : ℕ → ℕ → A × ℕ → List (Service Q) → List (Row M Q R) → List (Change R) → Type 0
  AreReplies count number a [] [] [] = ⊤
  AreReplies count number a (Service.Mails q ∷ qs) (r ∷ rs) cs = IsReplyOf count number a.0 q r × AreReplies count (suc number) (x.exec a.0 q, a.1) qs rs cs
  AreReplies count number a (Service.State target ∷ qs) rs [] = AreReplies count (suc number) (s.told (state_behind table (s.state a.0) target) a.0, suc a.1) qs rs []
  AreReplies count number a (Service.State target ∷ qs) rs (c ∷ cs) =
      (c.target ≡ target) × (c.answer ≡ answer_of (table (s.state a.0) target)) × (number < count) × AreReplies count (suc number) (s.told (state_behind table (s.state a.0) target) a.0, suc a.1) qs rs cs
  AreReplies count number a _ _ _ = ⊥

  module _ (more : M → Bool) (station : ℕ) (fs : List (Frame M)) where
    abbrev outcome : Service Q → ℕ → Option (Outcome R × ℕ)
    outcome q frame = outcome_of x.speech more station fs (record { service = q; frame = frame })

    abbrev HasEnded : Service Q → ℕ → Type 0
    HasEnded q frame = (o : Outcome R × ℕ) × (outcome q frame ≡ Some o)

    abbrev Replies : A × ℕ → Service Q → ℕ → Type 0
    Replies a q frame = (o : Outcome R × ℕ) → outcome q frame ≡ Some o → IsReply o.0 → o.0 ≡ service_reply x s table a q

    -- an outcome of a service that has a reply tells that it was carried out, and so does one of a change of the AL state
    pub mails_replied : (q : Q) (frame : ℕ) (o : Outcome R × ℕ) → outcome (Service.Mails q) frame ≡ Some o → x.speech.handed q ≡ false → IsReply o.0
    mails_replied q frame o found replies = first_of_all IsReply (λ (ns : List (News M)). mails_end x.speech q false ns) (λ ns o e. mails_reply x.speech q ns o e) frame [] (news_from station frame fs) o
        (ap (λ b. first_end (λ (ns : List (News M)). mails_end x.speech q b ns) frame [] (news_from station frame fs)) (sym replies) ∙ found)

    pub state_replied : (target frame : ℕ) (o : Outcome R × ℕ) → outcome (Service.State target) frame ≡ Some o → IsReply o.0
    state_replied target frame o found = first_of_all IsReply (λ (ns : List (News M)). state_ends target None ns) (λ ns o e. state_replies target None ns o e) frame [] (news_from station frame fs) o found

    -- by its outcome
    reply_of : (reply : R) (answer : Option (R × ℕ)) (o : Outcome R × ℕ) → as_outcome answer ≡ Some o → (IsReply o.0 → o.0 ≡ Outcome.Replied reply) → (frame : ℕ) × (answer ≡ Some (reply, frame))
    reply_of reply None o e is = absurd (let no : None ≡ Some o = e in cc)
    reply_of reply (Some b) o e is =
        let both : ◌≡◌ {A = Outcome R × ℕ} (Outcome.Replied b.0, b.1) o = cc in
        let same : Outcome.Replied b.0 ≡ Outcome.Replied reply = ap (λ (k : Outcome R × ℕ). k.0) both ∙ is (subst IsReply (ap (λ (k : Outcome R × ℕ). k.0) both) tt) in
        let one : b.0 ≡ reply = cc in
        (b.1, ap (λ k. Some (k, b.1)) one)

    row_replied : (a : A × ℕ) (q : Q) (frame : ℕ) (r : Row M Q R) → ◌≡◌ {A = Q × ℕ} (q, frame) (r.service, r.frame) → IsAnswered x.speech more station fs r → HasEnded (Service.Mails q) frame → Replies a (Service.Mails q) frame → IsReplied a.0 q r
    row_replied a q frame r same has ended replies =
        let service : r.service ≡ q = sym (ap (λ (k : Q × ℕ). k.0) same) in (
          service,
          λ one.
              let found : as_outcome r.answer ≡ outcome (Service.Mails q) frame = has.replied (ap x.speech.handed service ∙ one) ∙ ap (λ (k : Q × ℕ). outcome (Service.Mails k.0) k.1) (sym same) in
              reply_of (x.reply a.0 q) r.answer ended.0 (found ∙ ended.1) (replies ended.0 ended.1),
        )

    change_replied : (a : A × ℕ) (target frame : ℕ) (c : Change R) → ◌≡◌ {A = ℕ × ℕ} (target, frame) (c.target, c.frame) → state_found x.speech more station fs c.target c.frame ≡ Some (c.answer, c.completed) → Replies a (Service.State target) frame → c.answer ≡ answer_of (table (s.state a.0) target)
    change_replied a target frame c same found replies =
        let here : outcome (Service.State target) frame ≡ Some (c.answer, c.completed) = ap (λ (k : ℕ × ℕ). outcome (Service.State k.0) k.1) same ∙ found in
        replies (c.answer, c.completed) here (state_replied target frame (c.answer, c.completed) here)

    -- of these services
    abbrev HaveAnswers : List (Started Q) → Type 0
    HaveAnswers ss = (b : A × ℕ) (rs : List (Row M Q R)) (cs : List (Change R)) → mails_started ss ≡ rows_started rs → states_started ss ≡ changes_in cs → AllAnswered x.speech more station fs rs → AllFound x.speech more station fs cs →
        AllReplied x s table more station fs b ss → AreAnswered b (services_in ss) rs cs

    -- SO IT IS of all that came into hand
    pub all_answered : (a : A × ℕ) (ss : List (Started Q)) (rs : List (Row M Q R)) (cs : List (Change R)) → mails_started ss ≡ rows_started rs → states_started ss ≡ changes_in cs → AllAnswered x.speech more station fs rs → AllFound x.speech more station fs cs →
        AllEnded x.speech more station fs ss → AllReplied x s table more station fs a ss → AreAnswered a (services_in ss) rs cs
    all_answered a [] [] [] rows changes has found ended replied = tt
    all_answered a [] [] (c ∷ cs) rows changes has found ended replied = absurd (let no : [] ≡ (c.target, c.frame) ∷ changes_in cs = changes in cc)
    all_answered a [] (r ∷ rs) cs rows changes has found ended replied = absurd (let no : [] ≡ (r.service, r.frame) ∷ rows_started rs = rows in cc)
    all_answered a (t ∷ ss) rs cs rows changes has found ended replied =
        by t.service rs cs rows changes has found ended.0 replied.0 replied.1 (λ b rs cs rows changes has found rest. all_answered b ss rs cs rows changes has found ended.1 rest)
      where
        by : (q : Service Q) (rs : List (Row M Q R)) (cs : List (Change R)) → mail_of q t.frame ++ mails_started ss ≡ rows_started rs → state_of q t.frame ++ states_started ss ≡ changes_in cs → AllAnswered x.speech more station fs rs → AllFound x.speech more station fs cs →
            HasEnded q t.frame → Replies a q t.frame → AllReplied x s table more station fs (service_exec x s table a q) ss → HaveAnswers ss → AreAnswered a (q ∷ services_in ss) rs cs
        by (Service.Mails q) [] cs rows changes has found one reply replied rest = absurd (let no : (q, t.frame) ∷ mails_started ss ≡ [] = rows in cc)
        by (Service.Mails q) (r ∷ rs) cs rows changes has found one reply replied rest =
            let all : (q, t.frame) ∷ mails_started ss ≡ (r.service, r.frame) ∷ rows_started rs = rows in
            let head : ◌≡◌ {A = Q × ℕ} (q, t.frame) (r.service, r.frame) = cc in
            let tail : mails_started ss ≡ rows_started rs = cc in
            (row_replied a q t.frame r head has.0 one reply, rest (x.exec a.0 q, a.1) rs cs tail changes has.1 found replied)
        by (Service.State target) rs [] rows changes has found one reply replied rest = absurd (let no : (target, t.frame) ∷ states_started ss ≡ [] = changes in cc)
        by (Service.State target) rs (c ∷ cs) rows changes has found one reply replied rest =
            let all : (target, t.frame) ∷ states_started ss ≡ (c.target, c.frame) ∷ changes_in cs = changes in
            let head : ◌≡◌ {A = ℕ × ℕ} (target, t.frame) (c.target, c.frame) = cc in
            let tail : states_started ss ≡ changes_in cs = cc in
            (sym (ap (λ (k : ℕ × ℕ). k.0) head), change_replied a target t.frame c head found.0 reply, rest (s.told (state_behind table (s.state a.0) target) a.0, suc a.1) rs cs rows tail has found.1 replied)

    -- ---- at each moment
    abbrev IsDone : ℕ → ℕ → Service Q → ℕ → Type 0
    IsDone count number q frame = (o : Outcome R × ℕ) → outcome q frame ≡ Some o → IsReply o.0 → number < count

    row_reply : (count number : ℕ) (a : A × ℕ) (q : Q) (frame : ℕ) (r : Row M Q R) → ◌≡◌ {A = Q × ℕ} (q, frame) (r.service, r.frame) → IsAnswered x.speech more station fs r → Replies a (Service.Mails q) frame → IsDone count number (Service.Mails q) frame →
        IsReplyOf count number a.0 q r
    row_reply count number a q frame r same has replies done =
        let service : r.service ≡ q = sym (ap (λ (k : Q × ℕ). k.0) same) in (
          service,
          λ one reply at answer.
              let found : as_outcome r.answer ≡ outcome (Service.Mails q) frame = has.replied (ap x.speech.handed service ∙ one) ∙ ap (λ (k : Q × ℕ). outcome (Service.Mails k.0) k.1) (sym same) in
              let here : outcome (Service.Mails q) frame ≡ Some (Outcome.Replied reply, at) = sym found ∙ ap as_outcome answer in
              let is : Outcome.Replied reply ≡ Outcome.Replied (x.reply a.0 q) = replies (Outcome.Replied reply, at) here tt in
              let own : reply ≡ x.reply a.0 q = cc in
              (own, done (Outcome.Replied reply, at) here tt),
        )

    change_done : (count number target frame : ℕ) (c : Change R) → ◌≡◌ {A = ℕ × ℕ} (target, frame) (c.target, c.frame) → state_found x.speech more station fs c.target c.frame ≡ Some (c.answer, c.completed) → IsDone count number (Service.State target) frame → number < count
    change_done count number target frame c same found done =
        let here : outcome (Service.State target) frame ≡ Some (c.answer, c.completed) = ap (λ (k : ℕ × ℕ). outcome (Service.State k.0) k.1) same ∙ found in
        done (c.answer, c.completed) here (state_replied target frame (c.answer, c.completed) here)

    -- of these services, behind which no more changes than these came into hand
    abbrev HaveReplies : ℕ → List (Started Q) → Type 0
    HaveReplies count ss = (number : ℕ) (b : A × ℕ) (rs : List (Row M Q R)) (cs : List (Change R)) (ds : List (ℕ × ℕ)) → mails_started ss ≡ rows_started rs → states_started ss ≡ changes_in cs ++ ds → AllAnswered x.speech more station fs rs → AllFound x.speech more station fs cs →
        AllReplied x s table more station fs b ss → AllDone x.speech more station fs count number ss → AreReplies count number b (services_in ss) rs cs

    -- SO EACH ANSWER IS of all that came into hand
    pub all_replies : (count : ℕ) (ss : List (Started Q)) (number : ℕ) (a : A × ℕ) (rs : List (Row M Q R)) (cs : List (Change R)) (ds : List (ℕ × ℕ)) → mails_started ss ≡ rows_started rs → states_started ss ≡ changes_in cs ++ ds → AllAnswered x.speech more station fs rs →
        AllFound x.speech more station fs cs → AllReplied x s table more station fs a ss → AllDone x.speech more station fs count number ss → AreReplies count number a (services_in ss) rs cs
    all_replies count [] number a [] [] ds rows changes has found replied done = tt
    all_replies count [] number a [] (c ∷ cs) ds rows changes has found replied done = absurd (let no : [] ≡ (c.target, c.frame) ∷ (changes_in cs ++ ds) = changes in cc)
    all_replies count [] number a (r ∷ rs) cs ds rows changes has found replied done = absurd (let no : [] ≡ (r.service, r.frame) ∷ rows_started rs = rows in cc)
    all_replies count (t ∷ ss) number a rs cs ds rows changes has found replied done =
        by t.service rs cs ds rows changes has found replied.0 replied.1 done.0 done.1 (λ m b rs cs ds rows changes has found rest ended. all_replies count ss m b rs cs ds rows changes has found rest ended)
      where
        by : (q : Service Q) (rs : List (Row M Q R)) (cs : List (Change R)) (ds : List (ℕ × ℕ)) → mail_of q t.frame ++ mails_started ss ≡ rows_started rs → state_of q t.frame ++ states_started ss ≡ changes_in cs ++ ds → AllAnswered x.speech more station fs rs →
            AllFound x.speech more station fs cs → Replies a q t.frame → AllReplied x s table more station fs (service_exec x s table a q) ss → IsDone count number q t.frame → AllDone x.speech more station fs count (suc number) ss → HaveReplies count ss →
            AreReplies count number a (q ∷ services_in ss) rs cs
        by (Service.Mails q) [] cs ds rows changes has found reply replied one done rest = absurd (let no : (q, t.frame) ∷ mails_started ss ≡ [] = rows in cc)
        by (Service.Mails q) (r ∷ rs) cs ds rows changes has found reply replied one done rest =
            let all : (q, t.frame) ∷ mails_started ss ≡ (r.service, r.frame) ∷ rows_started rs = rows in
            let head : ◌≡◌ {A = Q × ℕ} (q, t.frame) (r.service, r.frame) = cc in
            let tail : mails_started ss ≡ rows_started rs = cc in
            (row_reply count number a q t.frame r head has.0 reply one, rest (suc number) (x.exec a.0 q, a.1) rs cs ds tail changes has.1 found replied done)
        by (Service.State target) rs [] ds rows changes has found reply replied one done rest =
            rest (suc number) (s.told (state_behind table (s.state a.0) target) a.0, suc a.1) rs [] (states_started ss) rows refl has tt replied done
        by (Service.State target) rs (c ∷ cs) ds rows changes has found reply replied one done rest =
            let all : (target, t.frame) ∷ states_started ss ≡ (c.target, c.frame) ∷ (changes_in cs ++ ds) = changes in
            let head : ◌≡◌ {A = ℕ × ℕ} (target, t.frame) (c.target, c.frame) = cc in
            let tail : states_started ss ≡ changes_in cs ++ ds = cc in (
              sym (ap (λ (k : ℕ × ℕ). k.0) head),
              change_replied a target t.frame c head found.0 reply,
              change_done count number target t.frame c head found.0 one,
              rest (suc number) (s.told (state_behind table (s.state a.0) target) a.0, suc a.1) rs cs ds rows tail has found.1 replied done,
            )
