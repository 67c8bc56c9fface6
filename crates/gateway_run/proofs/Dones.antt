-- WHERE A SERVING LEAVES NOTHING no request is unfinished, so each datagram that was queued at a slave is done, or a give-up of that slave ended it.
use Rattle.std.proofs.Common.{◌≡◌, ◌+◌, inl, inr, ℕ, zero, suc, Bool, true, false, Option, Some, None, List, [], ◌∷◌, length, map, refl, sym, ap, ◌∙◌, subst, arith, eq-eqb}
use Rattle.std.specs.Prelude.{All, ◌==◌, ◌&&◌, cond, not, slice_get}
use Rattle.std.specs.Bool.{OnTrue}
use Rattle.std.proofs.lemmas.Bool.{OnTrue_at, OnTrue_from}
use Rattle.std.proofs.lemmas.List.Elements.{All-head, All-tail}
use Rattle.run_record.proofs.of_served_places.Held.{all_held}
use Rattle.run_record.specs.of_served_places.Rows.{IsHeld}
use Rattle.run_record.specs.of_life_runs.Served.{Serves}
use Rattle.run_record.specs.of_life_runs.Told.{Passed}
use Rattle.gateway_core.specs.of_mailbox_mail.declared.mail.Mail.{Mail}
use Rattle.run_record.specs.of_master_node.Serving.{run_lead}
use Rattle.run_record.specs.of_master_node.Wants.{AllCounted, IsCounted, IsServedOut, gave_of}
use Rattle.run_record.specs.of_frame_view.View.{Lens}
use Rattle.run_record.specs.of_frame_view.Shares.{AllBoth}
use Rattle.run_record.specs.of_life_model.Lives.{Stand}
use Rattle.run_record.specs.of_life_runs.First.{first_leads, lens_of}
use Rattle.run_record.specs.of_life_runs.Led.{Exchanged}
use Rattle.run_record.specs.of_master_tour.Made.{is_in}
use Rattle.run_record.specs.of_run_book.declared.book.Book.{Book}
use Rattle.run_record.specs.of_run_book.declared.book.GramIn.{GramIn}
use Rattle.run_record.specs.Led.{exchanged}
use Rattle.run_record.specs.Served.{ServingRests}
use Rattle.run_record.specs.Session.{SessionState}
use Rattle.run_record.proofs.ServedGaves.{served_counted}
use Rattle.run_record.specs.of_segment_plan.declared.plan.Scenario.{Scenario}
use Rattle.gateway_run.specs.Account.{Owing, waits_at}
use Rattle.gateway_run.specs.Done.{AllDone, IsDone, IsOver, IsOver.cut, IsOver.dropped as is_dropped, IsOver.whole}
use Rattle.gateway_run.specs.Replies.{AllDesk, AllGot, Answers, Fares, Fares.dropped, Fares.replies, Fares.waits, Got, Got.ignored, Got.queued, Got.refused, IsDesk, IsFor, IsHeard, StandsSo, dones_of, keyed_in}
use Rattle.gateway_run.specs.Rooms.{begun_of, has_begun, owed_for, waiting_of}
use Rattle.gateway_run.specs.Serving.{EmptyWhere, IsOn}
use Rattle.gateway_run.specs.declared.desk.Request.{Request}
use Rattle.gateway_run.specs.declared.turn.Serving.{Serving}
use Rattle.gateway_run.proofs.Answering.{course_answers}
use Rattle.gateway_run.proofs.Comes.{none_begun}
use Rattle.gateway_run.proofs.Gones.{NoneWaits, same_none}
use Rattle.gateway_run.proofs.Judging.{got_at}
use Rattle.gateway_run.proofs.Leds.{IsLed, on_led}

-- nothing stands for nothing
none_both : {T : Type 0} (P : Request → T → Type 0) (rs : List Request) → AllBoth P rs [] → rs ≡ []
none_both P [] a = refl
none_both P (r ∷ rs) a = absurd a

-- of a slave that was given up for good no mail is in hand
none_held : (w : Serves) → IsHeld w → w.lead.lived.life.stand ≡ Stand.Gone → w.hand ≡ None
none_held w held gone = go w.hand refl
  where
    go : (hand : Option Passed) → w.hand ≡ hand → hand ≡ None
    go None e = refl
    go (Some p) e = absurd (let bad : Stand.Gone ≡ Stand.Open = sym gone ∙ held p e in cc)

-- a request waits for its slave, or its mail came into hand
both_true : (a b : Bool) → a ≡ true → b ≡ true → (a && b) ≡ true
both_true true true e f = refl
both_true true false e f = f
both_true false b e f = e

some_left : (r : Request) (more : List Request) → waiting_of r.slave (r ∷ more) ≡ [] → begun_of r.slave (r ∷ more) ≡ [] → ⊥
some_left r more none over = go r.begun refl
  where
    its : (r.slave == r.slave) ≡ true
    its = eq-eqb r.slave r.slave refl

    go : (b : Bool) → r.begun ≡ b → ⊥
    go true e =
        let here : has_begun r.slave r ≡ true = both_true (r.slave == r.slave) r.begun its e in
        let bad : r ∷ begun_of r.slave more ≡ [] = sym (ap (λ (z : Bool). cond z (r ∷ begun_of r.slave more) (begun_of r.slave more)) here) ∙ over in
        cc
    go false e =
        let here : waits_at r.slave r ≡ true = both_true (r.slave == r.slave) (not r.begun) its (ap not e) in
        let bad : r ∷ waiting_of r.slave more ≡ [] = sym (ap (λ (z : Bool). cond z (r ∷ waiting_of r.slave more) (waiting_of r.slave more)) here) ∙ none in
        cc

module _ (lens : ℕ → Lens) (recover : ℕ) (all : List GramIn) (rs : List Request) (os : List Owing) (dones : List ℕ) where
  -- WHAT STANDS AT A PLACE
  record IsOut (slave : ℕ) (w : Serves) (numbers : List ℕ) : Type 0 where
    desk : IsDesk all os slave w numbers (waiting_of slave rs) (begun_of slave rs)
    out : IsServedOut lens w
    counted : IsCounted recover w.lead.lived.life.stand (length (gave_of w.lead))
    held : IsHeld w
    quiet : NoneWaits recover w

  out_at : (i : ℕ) (ws : List Serves) (nss : List (List ℕ)) → AllDesk all rs os i ws nss → All (IsServedOut lens) ws → AllCounted recover (map run_lead ws) → All IsHeld ws → All (NoneWaits recover) ws → (j slave : ℕ) (w : Serves) (numbers : List ℕ) →
      slave ≡ i + j → slice_get ws j ≡ Some w → slice_get nss j ≡ Some numbers → IsOut slave w numbers
  out_at i [] nss d o c h n j slave w numbers e at came = absurd (cc)
  out_at i (u ∷ ws) [] d o c h n j slave w numbers e at came = absurd d
  out_at i (u ∷ ws) (ns ∷ nss) d o c h n zero slave w numbers e at came =
      let same : u ≡ w = cc in
      let its : ns ≡ numbers = cc in
      let here : i ≡ slave = omega (arith, e) in
      subst (λ k. IsOut k w numbers) here (subst (λ z. IsOut i z numbers) same
      (subst (λ z. IsOut i u z) its (record { desk = d.0; out = All-head (IsServedOut lens) u ws o; counted = c.0; held = All-head IsHeld u ws h; quiet = All-head (NoneWaits recover) u ws n })))
  out_at i (u ∷ ws) (ns ∷ nss) d o c h n (suc j) slave w numbers e at came =
      out_at (suc i) ws nss d.1 (All-tail (IsServedOut lens) u ws o) c.1 (All-tail IsHeld u ws h) (All-tail (NoneWaits recover) u ws n) j slave w numbers (omega (arith, e)) at came

  -- no request is of it
  none_here : (slave : ℕ) (w : Serves) (numbers : List ℕ) → IsOut slave w numbers → (waiting_of slave rs ≡ []) × (begun_of slave rs ≡ [])
  none_here slave w numbers h = go h.out
    where
      go : IsServedOut lens w → (waiting_of slave rs ≡ []) × (begun_of slave rs ≡ [])
      go (inl gone) =
          let often : length (gave_of w.lead) ≡ suc recover = subst (λ (st : Stand). IsCounted recover st (length (gave_of w.lead))) gone h.counted in (
            none_both (IsFor all) (waiting_of slave rs) (subst (AllBoth (IsFor all) (waiting_of slave rs)) (h.quiet (omega (arith, often))) h.desk.waits),
            none_both (IsFor all) (begun_of slave rs)
                (subst (λ (hand : Option Passed). AllBoth (IsFor all) (begun_of slave rs) (keyed_in hand w.lead.lived.life.era.passing)) (none_held w h.held gone) h.desk.in_hand),
          )
      go (inr out) = (none_both (IsFor all) (waiting_of slave rs) (subst (AllBoth (IsFor all) (waiting_of slave rs)) out.waits h.desk.waits), none_begun all w (begun_of slave rs) out.over h.desk.in_hand)

  module _ (ws : List Serves) (nss : List (List ℕ)) (d : AllDesk all rs os 0 ws nss) (o : All (IsServedOut lens) ws) (c : AllCounted recover (map run_lead ws)) (h : All IsHeld ws) (n : All (NoneWaits recover) ws) where
    none_of : (r : Request) (heard : IsHeard all r) (mails : List Mail) → Got ws nss rs dones r.gram heard.gram mails → (waiting_of r.slave rs ≡ []) × (begun_of r.slave rs ≡ [])
    none_of r heard mails (ignored fault request nowhere none) = absurd (let bad : None ≡ Some r.slave = sym nowhere ∙ heard.queued in cc)
    none_of r heard mails (refused asked detail request nowhere seldom error) = absurd (let bad : None ≡ Some r.slave = sym nowhere ∙ heard.queued in cc)
    none_of r heard mails (queued asked slave w numbers request there at came fares) =
        let both : Some slave ≡ Some r.slave = sym there ∙ heard.queued in
        let same : slave ≡ r.slave = cc in
        subst (λ k. (waiting_of k rs ≡ []) × (begun_of k rs ≡ [])) same (none_here slave w numbers (out_at 0 ws nss d o c h n slave slave w numbers (omega arith) at came))

    -- NO REQUEST IS UNFINISHED
    none_left : AllGot ws nss rs dones os 0 all → All (IsHeard all) rs → rs ≡ []
    none_left got heard = go rs refl
      where
        go : (qs : List Request) → rs ≡ qs → rs ≡ []
        go [] e = e
        go (r ∷ more) e =
            let is : IsHeard all r = All-head (IsHeard all) r more (subst (All (IsHeard all)) e heard) in
            let none = none_of r is (owed_for r.gram os) (got_at ws nss rs dones os 0 all got r.gram r.gram is.gram (omega arith) is.there) in
            absurd (some_left r more (sym (ap (waiting_of r.slave) e) ∙ none.0) (sym (ap (begun_of r.slave) e) ∙ none.1))

pub no_request : (plan : Scenario) (s : SessionState) (fs : List Exchanged) (gs : List GramIn) (rs : List Request) (os : List Owing) (dones : List ℕ) (a : Answers plan s fs gs rs os dones) → IsLed plan s fs → All (IsServedOut (lens_of plan.slaves)) a.serving.leading.serves → rs ≡ []
no_request plan s fs gs rs os dones a led out =
    let l = a.serving.leading in
    let held = all_held (lens_of plan.slaves) plan.recover plan.retry plan.paces (first_leads plan) fs l.missed l.serves l.lives in
    let quiet = same_none plan.recover led.serving.leading.serves l.serves (led.serving.waiting ∙ sym a.serving.waiting) (sym led.serving.gave ∙ a.serving.gave) led.waits in
    none_left (lens_of plan.slaves) plan.recover gs rs os dones l.serves a.came a.desk out (served_counted plan fs l.missed l.serves l.lives) held quiet a.got a.heard

-- so it is with a serving that rests
pub none_unfinished : (plan : Scenario) (count : ℕ) (v : Serving) (b : Book) → IsOn plan count v b → ServingRests v.session → v.desk.requests.items ≡ []
none_unfinished plan count v b on rests =
    let a = course_answers plan count on.is_plan v.session b.frames b.grams v.desk.requests.items on.owed on.course in
    no_request plan v.session (map exchanged b.frames) b.grams v.desk.requests.items on.owed (dones_of plan count v.session b.frames b.grams v.desk.requests.items on.owed on.course) a (on_led plan count v b on) (rests.slaves plan (map exchanged b.frames) a.serving)

-- the same, where the segment is settled
pub empty_on : (plan : Scenario) (count : ℕ) (v : Serving) (b : Book) → IsOn plan count v b → (settled : Bool) → OnTrue settled (ServingRests v.session) → EmptyWhere settled v
empty_on plan count v b on settled rests = OnTrue_from settled (v.desk.requests.items ≡ []) (λ is. none_unfinished plan count v b on (OnTrue_at is rests))

-- WHERE NONE IS each datagram that was queued at a slave is over
over : (w : Serves) (numbers : List ℕ) (done : Bool) (number heard : ℕ) (asked : Mail) (mails : List Mail) → Fares w numbers [] [] done number heard asked mails → IsOver w numbers done number heard mails
over w numbers done number heard asked mails (waits a b none c) = absurd (cc)
over w numbers done number heard asked mails (dropped a b c e given m) = is_dropped c given m e
over w numbers done number heard asked mails (replies told row spared s m) = stands done refl s
  where
    stands : (z : Bool) → done ≡ z → StandsSo w [] number row.row.frame told z → IsOver w numbers done number heard mails
    stands true e all = whole asked told row all m e
    stands false e (inl here) = absurd (let bad : false ≡ true = here.0 in cc)
    stands false e (inr given) = cut asked told row given m e

module _ (serves : List Serves) (came : List (List ℕ)) (os : List Owing) (dones : List ℕ) where
  one_done : (number : ℕ) (g : GramIn) → Got serves came [] dones number g (owed_for number os) → IsDone serves came dones os number g
  one_done number g (ignored fault request nowhere none) = λ slave at. absurd (let bad : None ≡ Some slave = sym nowhere ∙ at in cc)
  one_done number g (refused asked detail request nowhere seldom error) = λ slave at. absurd (let bad : None ≡ Some slave = sym nowhere ∙ at in cc)
  one_done number g (queued asked place w numbers request there at_w at_came fares) = λ slave at.
      let same : place ≡ slave = (let both : Some place ≡ Some slave = sym there ∙ at in cc) in (
        w,
        numbers,
        subst (λ k. slice_get serves k ≡ Some w) same at_w,
        subst (λ k. slice_get came k ≡ Some numbers) same at_came,
        over w numbers (is_in number dones) number g.frame asked (owed_for number os) fares,
      )

  each_done : (n : ℕ) (gs : List GramIn) → AllGot serves came [] dones os n gs → AllDone serves came dones os n gs
  each_done n [] a = tt
  each_done n (g ∷ gs) a = (one_done n g a.0, each_done (suc n) gs a.1)

pub all_done : (plan : Scenario) (s : SessionState) (fs : List Exchanged) (gs : List GramIn) (rs : List Request) (os : List Owing) (dones : List ℕ) (a : Answers plan s fs gs rs os dones) → rs ≡ [] → AllDone a.serving.leading.serves a.came dones os 0 gs
all_done plan s fs gs rs os dones a none =
    let serves = a.serving.leading.serves in
    each_done serves a.came os dones 0 gs (subst (λ (qs : List Request). AllGot serves a.came qs dones os 0 gs) none a.got)
