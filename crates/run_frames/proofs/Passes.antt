-- WHAT IS NOTED BEHIND A FRAME OF A RUN, whatever is awaited.
use Rattle.std.proofs.Common.{◌≡◌, ◌⊎◌, inl, inr, ℕ, Bool, true, false, Option, Some, None, List, [], ◌∷◌, ◌++◌, length, length-append, refl, ap, sym, ◌∙◌, subst, arith}
use Rattle.std.specs.Prelude.{is_some}
use Rattle.life_runs.specs.of_exchange_model.Areas.{Areas}
use Rattle.life_runs.specs.of_frame_view.View.{Lens}
use Rattle.life_runs.specs.of_frame_view.Seen.{seen}
use Rattle.life_runs.specs.Spans.{is_open}
use Rattle.life_runs.specs.of_frame_view.Shares.{Lived, came_at, lived_back, lived_lost}
use Rattle.life_runs.specs.of_life_model.Lives.{Life}
use Rattle.life_runs.specs.Led.{Exchanged, Leads, Turn, is_passed, speech_at}
use Rattle.life_runs.specs.of_link_mails.Body.{Body}
use Rattle.life_runs.specs.of_master_duty.Reply.{Reply}
use Rattle.life_runs.specs.of_master_hand.Spoken.{Asked, acknowledged, ends, is_followed}
use Rattle.life_runs.specs.of_segment_model.Ends.{Outcome}
use Rattle.life_runs.specs.of_segment_model.Record.{News}
use Rattle.life_runs.specs.of_segment_model.Slaves.{Datagram, Found}
use Rattle.life_runs.specs.of_segment_ring.declared.wire.Fate.{Fate}
use Rattle.life_runs.specs.of_segment_ring.declared.wire.Fate.TheVariants.{Lost, Pass}
use Rattle.life_runs.specs.of_state_model.Accounts.{Change}
use Rattle.run_frames.specs.ScriptAnswers.{Came, Noted, IsReported, AllNoted, RowRests, RestsSo, Awaits, ComesAnew, IsGoing, Waits, StandsBy, FreshBy, IsNoted, now_answer, newest_answer, reply_by, reached_at, life_scripted, turned}
use Rattle.run_frames.specs.Steps.{IsBefore, EndedSo, account_of, opened, with_begun, with_reply}
use Rattle.run_frames.proofs.Backs.{Held, AwaitsBack, front_scripted, changes_front, awaits_scripted, changes_scripted, after_none, not_passed, last_change, change_reported}
use Rattle.run_frames.proofs.Frames.{Stays, AnewBack, ChangeBack, back_stays, still_back, anew_back, awaits_back, change_back}
use Rattle.run_frames.proofs.Lists.{Answer, Over, noted_more, noted_front}

-- an outcome is reported by its reply
reported : (outcome : Outcome Reply) (c : Change Reply) (made : ℕ) → c.answer ≡ outcome → c.completed ≡ made → IsReported (change_reported c) (Some (reply_by outcome, made))
reported outcome c made e f = λ i. Some (reply_by (sym e i), sym f i)

no_longer : (xs : Over) (c : Change Reply) → xs ++ c ∷ [] ≡ [] → ⊥
no_longer xs c e = let n = length-append xs (c ∷ []) in let m = ap length e in absurd (omega (arith, n, m))

-- BEHIND A RETURN
module _ (lens : ℕ → Lens) (recover : ℕ) (gives : Bool) (made : ℕ) (f : Exchanged) (news : List (News Body)) (u : Turn) (before : IsBefore made u.lived.life) where
  -- the life behind a frame of this fate, whatever news that is of a mail that is passed on
  abbrev pub lived_by : Fate → Lived Asked Reply
  lived_by Pass = lived_back (speech_at lens u.lived.spot) acknowledged is_followed is_passed made (seen lens f.back) u.lived u.share news
  lived_by (Lost after) = lived_lost (speech_at lens u.lived.spot) acknowledged is_followed is_passed gives recover made (seen lens f.sent) u.lived u.share news

  abbrev pub led : Fate → Leads
  led fate = record { script = u.script; number = u.number; lived = lived_by fate }

  abbrev areas : Areas
  areas = record { out = (lens u.lived.spot.station).out; back = (lens u.lived.spot.station).back }

  abbrev back : List (Datagram Body)
  back = seen lens f.back

  abbrev came : Option (Bool × Option Found)
  came = came_at u.share.under u.share.at back

  abbrev l : Life Body Asked Reply
  l = u.lived.life

  abbrev m : Life Body Asked Reply
  m = (led Pass).lived.life

  stays : Stays l m
  stays = back_stays areas made u.lived.spot news back l before.gave came l.stand refl

  noted_so : (w v : Waits) (number : ℕ) (ns ms : List Noted) → IsNoted (turned u) w number ns → AllNoted (life_scripted m) ms → StandsBy v (led Pass) → IsNoted (led Pass) v number ms
  noted_so w v number ns ms h noted stands = record { many = h.many; beside = stays.beside h.beside; noted = noted; fresh = stays.fresh h.fresh; stands = stands }

  noted_same : (ns : List Noted) → life_scripted m ≡ life_scripted l → AllNoted (life_scripted l) ns → AllNoted (life_scripted m) ns
  noted_same ns e h = subst (λ ss. AllNoted ss ns) (sym e) h

  -- nothing is awaited
  pub pass_still : (number : ℕ) (ns : List Noted) → IsNoted (turned u) Waits.nothing number ns → IsNoted (led Pass) Waits.nothing number ns
  pass_still number ns h =
      let b = still_back areas made u.lived.spot news back l before.gave came l.stand refl h.fresh h.stands in
      noted_so Waits.nothing Waits.nothing number ns ns h (noted_same ns b.scripted h.noted) b.still

  -- a reply is
  module _ (number : ℕ) (ns : List Noted) (h : IsNoted (turned u) Waits.reply number ns) where
    abbrev w : Awaits l.era
    w = h.stands.era

    pub awaiting : AwaitsBack areas made l w m
    awaiting = awaits_back areas made u.lived.spot news back l before.gave came l.stand refl h.stands.stand w h.stands.unanswered

    -- the newest as it was, and as it is
    was : life_scripted l ≡ front_scripted l w ++ record { frame = w.frame; came = Came.mails None } ∷ []
    was = awaits_scripted l w ∙ ap (λ (z : Answer). front_scripted l w ++ record { frame = w.frame; came = Came.mails z } ∷ []) h.stands.unanswered

    is : life_scripted m ≡ front_scripted l w ++ record { frame = w.frame; came = Came.mails (now_answer m.era.side.now) } ∷ []
    is = awaits_scripted m awaiting.era ∙ (λ i. awaiting.front i ++ record { frame = awaiting.at i; came = Came.mails (now_answer m.era.side.now) } ∷ [])

    pub pass_waits : newest_answer (led Pass) ≡ None → IsNoted (led Pass) Waits.reply number ns
    pass_waits none =
        noted_so Waits.reply Waits.reply number ns ns h
        (noted_same ns (is ∙ ap (λ (z : Answer). front_scripted l w ++ record { frame = w.frame; came = Came.mails z } ∷ []) none ∙ sym was) h.noted)
        (record { stand = awaiting.stand; era = awaiting.era; unanswered = none })

    pub pass_own : (row : Held) → m.era.side.now ≡ Some row → is_passed row.service ≡ true → ⊥
    pass_own row e p = let same : row ≡ awaiting.era.row = (let both = sym e ∙ awaiting.era.now in cc) in not_passed areas awaiting.era.row.service (awaiting.era.replies areas) (ap (λ (r : Held). is_passed r.service) (sym same) ∙ p)

    told_rests : (reply : Reply) (g : ℕ) → newest_answer (led Pass) ≡ Some (reply, g) → RestsSo m.era
    told_rests reply g e = record {
      hand = awaiting.era.hand;
      states = awaiting.era.states;
      row = inl (subst (λ (z : Option Held). RowRests z) (sym awaiting.era.now) (ap is_some (sym (ap now_answer awaiting.era.now) ∙ e)));
    }

  pub pass_told : (number : ℕ) (front : List Noted) (frame : ℕ) (reply : Reply) (g : ℕ) → newest_answer (led Pass) ≡ Some (reply, g) → IsNoted (turned u) Waits.reply number (with_begun frame front) → IsNoted (led Pass) Waits.nothing number (with_reply front frame (Some (reply, made)))
  pass_told number front frame reply g e h =
      let ns = with_begun frame front in
      let w : Awaits l.era = h.stands.era in
      let k = awaiting number ns h in
      let parts = noted_front (front_scripted l w) front (record { frame = w.frame; came = Came.mails None }) (record { frame = frame; reply = None }) (subst (λ ss. AllNoted ss ns) (was number ns h) h.noted) in
      let at = (after_none made (ends areas w.row.service k.heard) reply g (sym k.answer ∙ e)).0 in
      let answer : Some (reply, made) ≡ now_answer m.era.side.now = ap (λ (z : ℕ). Some (reply, z)) (sym at) ∙ sym e in
      noted_so Waits.reply Waits.nothing number ns (with_reply front frame (Some (reply, made))) h
      (subst (λ ss. AllNoted ss (with_reply front frame (Some (reply, made)))) (sym (is number ns h))
      (noted_more (front_scripted l w) front (record { frame = w.frame; came = Came.mails (now_answer m.era.side.now) }) (record { frame = frame; reply = Some (reply, made) }) parts.0 parts.1 answer))
      (record { rests = λ t. told_rests number ns h reply g e; opens = λ o t. absurd (let bad = sym k.stand ∙ t in cc) })

  -- a change of state is
  abbrev IsBack : (g : IsGoing l) → Type 0
  IsBack g = ChangeBack areas made u.lived.spot news back l before.gave g.era m

  went : FreshBy l.stand l.gave l.era → (g : IsGoing l) → IsBack g
  went f g = change_back areas made u.lived.spot news back l before.gave g.stand f g.era came l.stand refl

  abbrev IsAnew : (c : ComesAnew l) → Type 0
  IsAnew c = AnewBack areas made u.lived.spot news back l before.gave c m

  anew : FreshBy l.stand l.gave l.era → (c : ComesAnew l) → IsAnew c
  anew f c = anew_back areas made u.lived.spot news back l before.gave c came l.stand refl f

  clash : {P : Type 0} (b : Bool) → b ≡ true → b ≡ false → P
  clash b e g = absurd (let bad : true ≡ false = sym e ∙ g in cc)

  pub pass_goes : (number : ℕ) (ns : List Noted) → IsNoted (turned u) Waits.change number ns → (opened (led Pass) ≡ true → (opened (turned u) ≡ true) × (is_some (account_of (led Pass)).hand ≡ true)) → IsNoted (led Pass) Waits.change number ns
  pass_goes number ns h open' = by h.stands
    where
      going : (g : IsGoing l) → IsBack g → IsNoted (led Pass) Waits.change number ns
      going g (ChangeBack.goes s k same hand) = noted_so Waits.change Waits.change number ns ns h (noted_same ns same h.noted) (inl (record { stand = s; era = k }))
      going g (ChangeBack.leaves c same) = noted_so Waits.change Waits.change number ns ns h (noted_same ns same h.noted) (inr c)
      going g (ChangeBack.over c s idle more at same rests) = absurd (let t = open' (ap is_open s) in let bad : true ≡ false = sym t.1 ∙ ap is_some idle in cc)

      away : (c : ComesAnew l) → IsAnew c → IsNoted (led Pass) Waits.change number ns
      away c (AnewBack.awaits k same) = noted_so Waits.change Waits.change number ns ns h (noted_same ns same h.noted) (inr k)
      away c (AnewBack.reached s whole rests) = clash (is_open l.stand) (open' (ap is_open s)).0 c.away

      by : IsGoing l ⊎ ComesAnew l → IsNoted (led Pass) Waits.change number ns
      by (inl g) = going g (went h.fresh g)
      by (inr c) = away c (anew h.fresh c)

  pub pass_ends : (number : ℕ) (front : List Noted) (frame : ℕ) (outcome : Outcome Reply) → opened (turned u) ≡ true → opened (led Pass) ≡ true → (account_of (led Pass)).hand ≡ None → EndedSo (account_of (led Pass)).over outcome →
      IsNoted (turned u) Waits.change number (with_begun frame front) → IsNoted (led Pass) Waits.nothing number (with_reply front frame (Some (reply_by outcome, made)))
  pass_ends number front frame outcome before open' none ended h = by h.stands
    where
      ends : (g : IsGoing l) → IsBack g → IsNoted (led Pass) Waits.nothing number (with_reply front frame (Some (reply_by outcome, made)))
      ends g (ChangeBack.goes s k same hand) = absurd (let bad : true ≡ false = sym hand ∙ ap is_some none in cc)
      ends g (ChangeBack.leaves c same) = clash (is_open m.stand) open' c.away
      ends g (ChangeBack.over c s idle more at same rests) =
          let ns = with_begun frame front in
          let w = g.era in
          let parts = noted_front (changes_front l w) front (record { frame = w.frame; came = Came.state None }) (record { frame = frame; reply = None }) (subst (λ ss. AllNoted ss ns) (changes_scripted l w) h.noted) in
          let last : c ≡ ended.change = last_change l.era.account.over ended.front c ended.change (sym more ∙ ended.whole) in
          noted_so Waits.change Waits.nothing number ns (with_reply front frame (Some (reply_by outcome, made))) h
          (subst (λ ss. AllNoted ss (with_reply front frame (Some (reply_by outcome, made)))) (sym same)
          (noted_more (changes_front l w) front (record { frame = w.frame; came = change_reported c }) (record { frame = frame; reply = Some (reply_by outcome, made) }) parts.0 parts.1
          (reported outcome c made (ap (λ (z : Change Reply). z.answer) last ∙ ended.is) at)))
          (record { rests = λ t. rests; opens = λ o t. absurd (let bad = sym s ∙ t in cc) })

      by : IsGoing l ⊎ ComesAnew l → IsNoted (led Pass) Waits.nothing number (with_reply front frame (Some (reply_by outcome, made)))
      by (inl g) = ends g (went h.fresh g)
      by (inr c) = clash (is_open l.stand) before c.away

  pub pass_some : (number : ℕ) (ns : List Noted) → IsNoted (turned u) Waits.change number ns → opened (turned u) ≡ true → opened (led Pass) ≡ true → (account_of (led Pass)).hand ≡ None → (account_of (led Pass)).over ≡ [] → ⊥
  pass_some number ns h before open' none nil = by h.stands
    where
      some : (g : IsGoing l) → IsBack g → ⊥
      some g (ChangeBack.goes s k same hand) = absurd (let bad : true ≡ false = sym hand ∙ ap is_some none in cc)
      some g (ChangeBack.leaves c same) = clash (is_open m.stand) open' c.away
      some g (ChangeBack.over c s idle more at same rests) = no_longer l.era.account.over c (sym more ∙ nil)

      by : IsGoing l ⊎ ComesAnew l → ⊥
      by (inl g) = some g (went h.fresh g)
      by (inr c) = clash (is_open l.stand) before c.away

  pub pass_anew : (number : ℕ) (front : List Noted) (frame : ℕ) → opened (turned u) ≡ false → opened (led Pass) ≡ true →
      IsNoted (turned u) Waits.change number (with_begun frame front) → IsNoted (led Pass) Waits.nothing number (with_reply front frame (Some (reply_by Outcome.Reached, made)))
  pass_anew number front frame closed open' h = by h.stands
    where
      reply : Answer
      reply = Some (reply_by Outcome.Reached, made)

      opens : (c : ComesAnew l) → IsAnew c → IsNoted (led Pass) Waits.nothing number (with_reply front frame reply)
      opens c (AnewBack.awaits k same) = clash (is_open m.stand) open' k.away
      opens c (AnewBack.reached s whole rests) =
          let ns = with_begun frame front in
          let parts = noted_front c.front front (record { frame = c.frame; came = Came.state None }) (record { frame = frame; reply = None }) (subst (λ ss. AllNoted ss ns) c.whole h.noted) in
          noted_so Waits.change Waits.nothing number ns (with_reply front frame reply) h
          (subst (λ ss. AllNoted ss (with_reply front frame reply)) (sym whole)
          (noted_more c.front front (record { frame = c.frame; came = Came.state (reached_at (Some made)) }) (record { frame = frame; reply = reply }) parts.0 parts.1 refl))
          (record { rests = λ t. rests; opens = λ o t. absurd (let bad = sym s ∙ t in cc) })

      by : IsGoing l ⊎ ComesAnew l → IsNoted (led Pass) Waits.nothing number (with_reply front frame reply)
      by (inl g) = clash (is_open l.stand) (ap is_open g.stand) closed
      by (inr c) = opens c (anew h.fresh c)
