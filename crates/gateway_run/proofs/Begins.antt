-- BEFORE A FRAME what comes into hand of a slave is what its desk has: one slave's requests behind what is listed of it.
use Rattle.std.proofs.Common.{◌≡◌, ℕ, ◌≤◌, Bool, true, false, Option, Some, None, List, [], ◌∷◌, ◌++◌, refl, sym, ap, ◌∙◌, subst, append-nil, eqb-true}
use Rattle.std.specs.Prelude.{◌==◌, if◌then◌else◌, map, not, slice_get, All, Ok}
use Rattle.std.proofs.lemmas.List.Elements.{All-filter, All-head, filter_passes}
use Rattle.run_record.specs.of_exchange_model.Rows.{begun}
use Rattle.gateway_core.specs.Framing.{request_in}
use Rattle.run_record.specs.of_served_places.Rows.{Stays, passed_rows, passings, replies_of, row_begun}
use Rattle.run_record.proofs.of_served_places.Next.{next_free, next_heard, next_over, next_passing, next_stays, waiting_row}
use Rattle.run_record.proofs.of_served_places.Stay.{StaysOver}
use Rattle.run_record.specs.of_life_runs.Served.{Keyed, Serves, ServedComes, ServedTurn, IsServedTurn}
use Rattle.run_record.specs.of_life_runs.Told.{Passed}
use Rattle.gateway_core.specs.of_mailbox_mail.declared.mail.Mail.{Mail}
use Rattle.run_record.proofs.of_master_node.Handeds.{comes_own}
use Rattle.run_record.specs.of_master_node.Begins.{is_other}
use Rattle.run_record.specs.of_master_node.Events.{begun_told}
use Rattle.run_record.specs.of_master_node.Listing.{origin_of}
use Rattle.run_record.specs.of_master_node.Serving.{serves_of}
use Rattle.run_record.specs.of_master_node.Wants.{gave_of}
use Rattle.run_record.specs.of_master_node.declared.event.Event.TheVariants as events
use Rattle.run_record.specs.of_master_node.declared.event.Origin.{Origin}
use Rattle.run_record.specs.of_datagrams.Datagram as Raw
use Rattle.run_record.specs.of_frame_view.View.{Lens}
use Rattle.run_record.specs.of_frame_view.Shares.{AllBoth}
use Rattle.run_record.specs.of_segment_plan.declared.service.Service as Plan
use Rattle.run_record.specs.of_state_model.Stated.{Service}
use Rattle.run_record.specs.of_master_hand.Spoken.{Asked, is_passed, passed}
use Rattle.run_record.specs.of_master_side.Passing.{passing_behind}
use Rattle.run_record.specs.of_run_book.declared.book.GramIn.{GramIn}
use Rattle.gateway_run.specs.Account.{Owing, begun_first, left_by, left_by_all, waits_at}
use Rattle.gateway_run.specs.Rooms.{begun_of, owed_for, waiting_of}
use Rattle.gateway_run.specs.Replies.{Fares, GivesAll, IsDesk, IsFor, IsNew, keyed_in}
use Rattle.gateway_run.specs.declared.desk.Request.{Request}
use Rattle.gateway_run.proofs.Rooms.{both_left}
use Rattle.gateway_run.proofs.Desking.{comes_here}
use Rattle.gateway_run.proofs.Gives.{gives_mail, gives_same}
use Rattle.gateway_run.proofs.Hands.{desk_same, fares_same, keyed_none}
use Rattle.gateway_run.proofs.Comes.{MailComes, desk_mail, fares_mail, none_begun, oldest}

-- a service of its own changes no request
own_left : (slave number forwards oldest : ℕ) (s : Service Asked) (rs : List Request) → ((q : Asked) → s ≡ Service.Mails q → is_passed q ≡ false) → left_by_all (begun_told slave number forwards oldest (Some s)) rs ≡ rs
own_left slave number forwards oldest (Service.State target) rs own = refl
own_left slave number forwards oldest (Service.Mails q) rs own = ap (λ o. left_by (events.Began slave o) rs) (ap (λ b. if b then Origin.Gateway oldest else origin_of number forwards (Service.Mails q)) (own q refl)) ∙ go (is_other q)
  where
    go : (b : Bool) → left_by (events.Began slave (if b then Origin.Script number else Origin.Forward forwards)) rs ≡ rs
    go true = refl
    go false = refl

-- nor is a row of it one of a mail that is passed on
own_row : (made : ℕ) (s : Service Asked) → ((q : Asked) → s ≡ Service.Mails q → is_passed q ≡ false) → row_begun made (Some s) ≡ []
own_row made (Service.State target) own = refl
own_row made (Service.Mails q) own = ap (λ b. if b then begun q made ∷ [] else []) (own q refl)

module _ (lens : ℕ → Lens) (made : ℕ) (ds : List Raw.Datagram) (w : Serves) (v : ServedTurn) (t : IsServedTurn lens made ds w v) (gs : List GramIn) (slave : ℕ) (os : List Owing) (came : List ℕ) (rs : List Request) where
  -- ITS DESK BEFORE THE FRAME, with these requests left, and what each of its datagrams got
  pub record HasBegun (qs : List Request) : Type 0 where
    pub comes : List ℕ
    pub desk : IsDesk gs os slave (serves_of v) comes (waiting_of slave qs) (begun_of slave qs)
    pub fares : (done : Bool) (number : ℕ) (asked : Mail) (gram : GramIn) → slice_get gs number ≡ Some gram → request_in gram.bytes ≡ Ok asked →
        Fares w came (waiting_of slave rs) (begun_of slave rs) done number gram.frame asked (owed_for number os) → Fares (serves_of v) comes (waiting_of slave qs) (begun_of slave qs) done number gram.frame asked (owed_for number os)
    pub whole : (done : ℕ → Bool) → All (λ (r : Request). done r.gram ≡ false) rs → GivesAll os done w came → GivesAll os done (serves_of v) comes

  module _ (gave : gave_of (serves_of v).lead ≡ gave_of w.lead) (early : All (λ (g : GramIn). g.frame ≤ made) gs) (d : IsDesk gs os slave w came (waiting_of slave rs) (begun_of slave rs)) where
    stays : row_begun made v.turn.begun ≡ [] → AllBoth Stays (passed_rows w.lead.lived.life) (passed_rows v.turn.lived.life)
    stays e = subst (λ z. AllBoth Stays z (passed_rows v.turn.lived.life)) (append-nil (passed_rows w.lead.lived.life)) (subst (λ z. AllBoth Stays (passed_rows w.lead.lived.life ++ z) (passed_rows v.turn.lived.life)) e (next_stays lens made ds w v t))

    heard_none : row_begun made v.turn.begun ≡ [] → replies_of (passed_rows v.turn.lived.life) ≡ replies_of (passed_rows w.lead.lived.life)
    heard_none e = next_heard lens made ds w v t ∙ ap (λ rs. replies_of (passed_rows w.lead.lived.life) ++ replies_of rs) e ∙ append-nil (replies_of (passed_rows w.lead.lived.life))

    over_none : row_begun made v.turn.begun ≡ [] → AllBoth StaysOver (passings w.lead.lived.life) (passings v.turn.lived.life)
    over_none e =
        subst (λ ps. AllBoth StaysOver ps (passings v.turn.lived.life)) (ap (λ rs. passings w.lead.lived.life ++ map waiting_row rs) e ∙ append-nil (passings w.lead.lived.life)) (next_over lens made ds w v t)

    -- nothing that is passed on
    quiet : v.waits ≡ w.waits → keyed_in v.hand v.turn.lived.life.era.passing ≡ keyed_in w.hand w.lead.lived.life.era.passing → ((p : Passed) → v.hand ≡ Some p → w.hand ≡ Some p) → row_begun made v.turn.begun ≡ [] → HasBegun rs
    quiet same keyed hand none = record {
      comes = came;
      desk = desk_same gs slave w (serves_of v) came (waiting_of slave rs) (begun_of slave rs) os same keyed hand (stays none) d;
      fares = λ done number asked gram there request f. fares_same gs slave w (serves_of v) came (waiting_of slave rs) (begun_of slave rs) done number gram.frame asked (owed_for number os) gave (stays none) f;
      whole = λ done undone all. gives_same os done w (serves_of v) came (heard_none none) (over_none none) all;
    }

    -- a mail that is passed on
    mail_begins : (k : Keyed) (rest : List Keyed) → w.waits ≡ k ∷ rest → v.waits ≡ rest → v.hand ≡ Some (record { key = k.key; mail = k.mail; told = [] }) → v.turn.begun ≡ Some (Service.Mails (passed k.mail)) → HasBegun (begun_first slave rs)
    mail_begins k rest waits left hand e =
        let free = next_free lens made ds w v t (Service.Mails (passed k.mail)) e in
        let o = oldest (IsFor gs) (waiting_of slave rs) w.waits k rest waits d.waits in
        let none = none_begun gs w (begun_of slave rs) free d.in_hand in
        let after = comes_here slave o.request o.rest rs o.is none in
        let comes : MailComes gs slave w (serves_of v) came k rest (begun (passed k.mail) made) os = record {
          waits = waits;
          left = left;
          free = free;
          hand = hand;
          passing = next_passing lens made ds w v t ∙ (λ i. passing_behind is_passed (free i) (e i));
          its = refl;
          stay = subst (λ b. AllBoth Stays (passed_rows w.lead.lived.life ++ row_begun made b) (passed_rows v.turn.lived.life)) e (next_stays lens made ds w v t);
          early = early;
        } in
        let here : o.request.slave ≡ slave = eqb-true o.request.slave slave (both_left (o.request.slave == slave) (not o.request.begun) (All-head (λ r. waits_at slave r ≡ true) o.request o.rest (subst (All (λ r. waits_at slave r ≡ true)) o.is (filter_passes (waits_at slave) rs)))) in
        let old = subst (λ z. IsDesk gs os slave w came z (begun_of slave rs)) o.is d in
        record {
          comes = came ++ o.request.gram ∷ [];
          desk = subst (λ z. IsDesk gs os slave (serves_of v) (came ++ o.request.gram ∷ []) z (begun_of slave (begun_first slave rs))) (sym after.0)
              (subst (λ z. IsDesk gs os slave (serves_of v) (came ++ o.request.gram ∷ []) o.rest z) (sym after.1)
              (desk_mail gs slave w (serves_of v) came k rest (begun (passed k.mail) made) os comes o.request o.rest (begun_of slave rs) old here));
          fares = λ done number asked gram there request f.
              subst (λ z. Fares (serves_of v) (came ++ o.request.gram ∷ []) z (begun_of slave (begun_first slave rs)) done number gram.frame asked (owed_for number os)) (sym after.0)
              (subst (λ z. Fares (serves_of v) (came ++ o.request.gram ∷ []) o.rest z done number gram.frame asked (owed_for number os)) (sym after.1)
              (fares_mail gs slave w (serves_of v) came k rest (begun (passed k.mail) made) os comes o.request o.rest (begun_of slave rs) old done number asked (owed_for number os) gram there request gave
              (subst (λ z. Fares w came z (begun_of slave rs) done number gram.frame asked (owed_for number os)) o.is f)));
          whole = λ done undone all.
              gives_mail os done w (serves_of v) came o.request.gram (All-head (IsNew os) o.request o.rest (subst (All (IsNew os)) o.is d.new))
              (All-head (λ (r : Request). done r.gram ≡ false) o.request o.rest (subst (All (λ (r : Request). done r.gram ≡ false)) o.is (All-filter (waits_at slave) (λ (r : Request). done r.gram ≡ false) rs undone)))
              (next_heard lens made ds w v t ∙ ap (λ b. replies_of (passed_rows w.lead.lived.life) ++ replies_of (row_begun made b)) e)
              (subst (λ b. AllBoth StaysOver (passings w.lead.lived.life ++ map waiting_row (row_begun made b)) (passings v.turn.lived.life)) e (next_over lens made ds w v t)) all;
        }

    by_comes : (number forwards first_of room n m : ℕ) (script : List Plan.Service) (waits rest : List Keyed) (hand after : Option Passed) (b : Option (Service Asked)) → ServedComes room script waits hand n b m rest after → w.waits ≡ waits → w.hand ≡ hand → v.waits ≡ rest → v.hand ≡ after → v.turn.begun ≡ b →
        HasBegun (left_by_all (begun_told slave number forwards first_of b) rs)
    by_comes number forwards first_of _ _ _ _ _ _ _ _ _ ServedComes.none a b c e f =
        quiet (c ∙ sym a)
        ((λ i. keyed_in ((e ∙ sym b) i) ((next_passing lens made ds w v t ∙ ap (passing_behind is_passed w.lead.lived.life.era.passing) f) i)))
        (λ p h. b ∙ sym e ∙ h)
        (ap (row_begun made) f)
    by_comes number forwards first_of room n _ script _ _ _ _ _ (ServedComes.own s m own) a b c e f =
        let other : (q : Asked) → s ≡ Service.Mails q → is_passed q ≡ false = (λ q z. comes_own room script n m (Some s) own q (ap Some z)) in
        subst HasBegun (sym (own_left slave number forwards first_of s rs other))
        (quiet (c ∙ sym a)
        (ap (λ h. keyed_in h v.turn.lived.life.era.passing) e ∙ sym (ap (keyed_in w.hand) (next_free lens made ds w v t s f) ∙ keyed_none w.hand))
        (λ p h. absurd (let bad : None ≡ Some p = sym e ∙ h in cc))
        (ap (row_begun made) f ∙ own_row made s other))
    by_comes number forwards first_of _ _ _ _ _ _ _ _ _ (ServedComes.mail k rest first) a b c e f = mail_begins k rest (a ∙ first) c e f

    pub slave_begins : (number forwards first_of : ℕ) → HasBegun (left_by_all (begun_told slave number forwards first_of v.turn.begun) rs)
    slave_begins number forwards first_of = by_comes number forwards first_of (lens w.lead.lived.spot.station).out w.lead.number v.turn.number w.lead.script w.waits v.waits w.hand v.hand v.turn.begun t.comes refl refl refl refl refl
