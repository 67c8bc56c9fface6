-- EACH MAIL THAT WAS PASSED ON and is over, or to which a reply was heard, is carried out; and of two services that may not be the older is a packet.
use Rattle.std.proofs.Common.{◌≡◌, ◌≢◌, ◌⊎◌, inl, inr, ℕ, zero, suc, ◌+◌, ◌-◌, ◌<◌, ◌≤◌, Bool, true, false, is_some, Option, None, Some, List, [], ◌∷◌, ◌++◌, drop, length, map, take, refl, ap, sym, ◌∙◌, subst, arith, length-append, Ok, Err}
use Rattle.std.specs.Prelude.{⊤}
use Rattle.std.proofs.lemmas.Bool.Decides.{leb_tells}
use Rattle.run_work.specs.of_protocol_models.EoeClient as EoeClient
use Rattle.served_places.specs.of_exchange_model.Exchange.{plain}
use Rattle.served_places.specs.of_exchange_model.Rows.{Row}
use Rattle.run_work.proofs.of_life_counts.TaggedWhole.{seeing_lawful, seeing_stated}
use Rattle.run_work.specs.of_life_counts.Epochs.{IsSpeaker, IsSeen, between, era_named, newest_of, seeing, seeing_states}
use Rattle.run_work.specs.of_life_counts.Seen.{service_seen}
use Rattle.served_places.specs.of_life_model.Lives.{Spot, Era}
use Rattle.served_places.specs.of_link_mails.Body.{Body}
use Rattle.run_work.specs.of_mailbox_mail.Mail.{error_of}
use Rattle.run_work.specs.of_mailbox_mail.declared.mail.Mail.{Mail}
use Rattle.run_work.specs.of_master_duty.Reply.{Reply}
use Rattle.run_work.specs.of_master_hand.Spoken as Spoken
use Rattle.run_work.specs.of_master_hand.Spoken.{Asked, emission, passed}
use Rattle.served_places.proofs.of_few_replies.Clients.{plain_untag}
use Rattle.run_work.specs.of_few_replies.Client.{ByContents}
use Rattle.run_work.specs.of_few_replies.Erased.{OfRow}
use Rattle.run_work.specs.of_few_replies.Silent.{is_passed}
use Rattle.run_work.specs.Sessions.{Meant, Wanted, named_wanted}
use Rattle.served_places.proofs.of_segment_model.Rising.{RisesNow}
use Rattle.served_places.specs.of_segment_model.Ends.{Outcome, Passing}
use Rattle.served_places.specs.of_segment_model.Laws.{AllAnswered, IsAnswered, as_outcome}
use Rattle.served_places.specs.of_segment_model.Record.{Frame, joined, news_from}
use Rattle.served_places.specs.of_segment_model.Seats.{newest, rows_of}
use Rattle.served_places.specs.of_segment_model.Slaves.{Registers, Slave}
use Rattle.served_rings.proofs.Ended.{mails_replied, state_replied}
use Rattle.served_rings.proofs.Heard.{named_passed}
use Rattle.served_rings.proofs.Mails.{AllNamed, mailer, services_named}
use Rattle.served_rings.proofs.Rested.{RowHere, mail, same, seen_row}
use Rattle.served_rings.proofs.RowsSeen.{rows_seen}
use Rattle.served_rings.proofs.Seen.{promised, valid}
use Rattle.served_rings.proofs.SeenRests.{answered, frames}
use Rattle.served_rings.proofs.Speakers.{script}
use Rattle.served_rings.proofs.Taken as Taken
use Rattle.served_rings.proofs.TakenBy.{PartOf}
use Rattle.served_rings.proofs.TakenNow.{AtMoment, IsByMails}
use Rattle.served_rings.specs.Served.{AllTaken, IsPacket, IsTakenOf, passing_before}
use Rattle.served_rings.specs.Speakers.{seer_of, table_of}
use Rattle.served_places.specs.of_serving_model.Tagged as Tagged
use Rattle.served_places.specs.of_serving_model.Tagged.{untag}
use Rattle.run_work.specs.of_slave_model.Profile.{Profile, Protocol}
use Rattle.run_work.specs.of_slave_model.Server as SlaveReply
use Rattle.run_work.specs.of_slave_parts.Parts.{Server, parts}
use Rattle.run_work.specs.of_slave_parts.Served.{product_whole}
use Rattle.served_places.specs.of_state_model.Families.{InState}
use Rattle.served_places.specs.of_state_model.Stated.{Service}
use Rattle.served_places.specs.of_state_model.Accounts.{Started}
use Rattle.served_places.specs.of_state_model.Promise.{AllDone, AllEnded, IsReply, but_last, mail_of, mails_in, mails_started, outcome_of, rows_started, services_in}

-- ---- numbers of services, and of those among them that go by mails
-- so many services by mails are among the first so many, of which these come behind so many others
abbrev Behind : {Q : Type 0} → ℕ → ℕ → ℕ → ℕ → List (Service Q) → Type 0
Behind all count number index qs = all ≤ index + mails_in (take (count - number) qs)

behind_mails : {Q : Type 0} (all count number index : ℕ) (q : Q) (qs : List (Service Q)) → Behind all count number index (Service.Mails q ∷ qs) → Behind all count (suc number) (suc index) qs
behind_mails all count number index q qs b = go (count - number) refl b
  where
    go : (k : ℕ) → count - number ≡ k → all ≤ index + mails_in (take k (Service.Mails q ∷ qs)) → all ≤ suc index + mails_in (take (count - suc number) qs)
    go zero e b = omega (arith, b)
    go (suc k) e b = let less : count - suc number ≡ k = omega (arith, e) in subst (λ j. all ≤ suc index + mails_in (take j qs)) (sym less) (omega (arith, b))

behind_state : {Q : Type 0} (all count number index target : ℕ) (qs : List (Service Q)) → Behind all count number index (Service.State target ∷ qs) → Behind all count (suc number) index qs
behind_state all count number index target qs b = go (count - number) refl b
  where
    go : (k : ℕ) → count - number ≡ k → all ≤ index + mails_in (take k (Service.State target ∷ qs)) → all ≤ index + mails_in (take (count - suc number) qs)
    go zero e b = omega (arith, b)
    go (suc k) e b = let less : count - suc number ≡ k = omega (arith, e) in subst (λ j. all ≤ index + mails_in (take j qs)) (sym less) b

-- one of those by mails is among them
among : {Q : Type 0} (all count number index : ℕ) (qs : List (Service Q)) → Behind all count number index qs → index < all → number < count
among all count number index qs b less = elim (leb_tells count number) [
  | inl k ↦
      let none : count - number ≡ 0 = (let le = k.1 in omega (arith, le)) in
      let few : all ≤ index + mails_in (take 0 qs) = subst (λ j. all ≤ index + mails_in (take j qs)) none b in
      let zero_mails : mails_in (take 0 qs) ≡ 0 = refl in
      absurd (omega (arith, few, zero_mails, less))
  | inr k ↦ k.1
]

-- state services alone
only_states : {Q : Type 0} (s : Started Q) (ss : List (Started Q)) → mails_started (s ∷ ss) ≡ [] → (target : ℕ) × (newest_of (s ∷ ss) ≡ Some (Service.State target))
only_states {Q} s [] none = go s.service refl none
  where
    go : (z : Service Q) → s.service ≡ z → mail_of z s.frame ++ [] ≡ [] → (target : ℕ) × (Some s.service ≡ Some (Service.State target))
    go (Service.Mails q) e none = absurd (let no : (q, s.frame) ∷ [] ≡ [] = none in cc)
    go (Service.State target) e none = (target, ap (λ z. Some z) e)
only_states {Q} s (k ∷ ss) none = only_states k ss (go s.service none)
  where
    go : (z : Service Q) → mail_of z s.frame ++ mails_started (k ∷ ss) ≡ [] → mails_started (k ∷ ss) ≡ []
    go (Service.Mails q) none = absurd (let no : (q, s.frame) ∷ mails_started (k ∷ ss) ≡ [] = none in cc)
    go (Service.State target) none = none

module _ (p : Profile) (boot : Bool) (station : ℕ) (gs : List (Frame Meant)) (count all : ℕ) (passing : Option Passing) where
  abbrev named : Service Wanted → Service Asked
  named q = service_seen named_wanted q

  abbrev handed : Wanted → Bool
  handed q = (seeing (mailer p)).speech.handed q

  -- ---- of each row, and of the newest
  abbrev PastOk : ℕ → RowHere p → Type 0
  PastOk index r = (m : Body) → r.service ≡ Tagged.Asked.Passed m false → index < all

  pub record LastOk (index : ℕ) (r : RowHere p) : Type 0 where
    pub over : passing ≡ None → (m : Body) → r.service ≡ Tagged.Asked.Passed m false → index < all
    pub answered : passing ≡ None → (m : Body) → r.service ≡ Tagged.Asked.Passed m true → is_some r.answer ≡ true
    pub replied : (z : Passing) → passing ≡ Some z → (m : Body) (answers : Bool) → r.service ≡ Tagged.Asked.Passed m answers → plain emission (seen_row p r).heard ≢ [] → index < all

  abbrev AllOk : ℕ → List (RowHere p) → Type 0
  AllOk index [] = ⊤
  AllOk index (r ∷ []) = LastOk index r
  AllOk index (r ∷ (k ∷ rs)) = PastOk index r × AllOk (suc index) (k ∷ rs)

  abbrev Ended : List (Started Wanted) → Type 0
  Ended ss = AllEnded (seeing (mailer p)).speech (λ m. false) station gs ss

  abbrev Done : ℕ → List (Started Wanted) → Type 0
  Done number ss = AllDone (seeing (mailer p)).speech (λ m. false) station gs count number ss

  abbrev Answered : List (RowHere p) → Type 0
  Answered rs = AllAnswered (seeing (mailer p)).speech (λ m. false) station gs rs

  -- one that has a reply is carried out
  abbrev HasEnded : Started Wanted → Type 0
  HasEnded s = (o : Outcome (Option SlaveReply.Reply) × ℕ) × (outcome_of (seeing (mailer p)).speech (λ m. false) station gs s ≡ Some o)

  abbrev IsDone : ℕ → Started Wanted → Type 0
  IsDone number s = (o : Outcome (Option SlaveReply.Reply) × ℕ) → outcome_of (seeing (mailer p)).speech (λ m. false) station gs s ≡ Some o → IsReply o.0 → number < count

  done_one : (number : ℕ) (s : Started Wanted) (q : Wanted) → s.service ≡ Service.Mails q → handed q ≡ false → HasEnded s → IsDone number s → number < count
  done_one number s q is replies ended done =
      let found = ap (λ z. outcome_of (seeing (mailer p)).speech (λ m. false) station gs (record { service = z; frame = s.frame })) (sym is) ∙ ended.1 in
      done ended.0 ended.1 (mails_replied (seeing (mailer p)) (seeing_states (mailer p)) (table_of boot station) (λ m. false) station gs q s.frame ended.0 found replies)

  some_outcome : (r : RowHere p) (s : Started Wanted) (q : Wanted) → s.service ≡ Service.Mails q → ◌≡◌ {A = Wanted × ℕ} (q, s.frame) (r.service, r.frame) → handed q ≡ false → IsAnswered (seeing (mailer p)).speech (λ m. false) station gs r → is_some r.answer ≡ true → HasEnded s
  some_outcome r s q is at replies has some = go r.answer refl some
    where
      go : (a : Option (Option SlaveReply.Reply × ℕ)) → r.answer ≡ a → is_some a ≡ true → HasEnded s
      go None e some = absurd (let no : false ≡ true = some in cc)
      go (Some a) e some =
          let service : r.service ≡ q = sym (ap (λ (k : Wanted × ℕ). k.0) at) in
          let found = has.replied (ap handed service ∙ replies) in (
            (Outcome.Replied a.0, a.1),
            ap (λ z. outcome_of (seeing (mailer p)).speech (λ m. false) station gs (record { service = z; frame = s.frame })) is
                ∙ ap (λ (k : Wanted × ℕ). outcome_of (seeing (mailer p)).speech (λ m. false) station gs (record { service = Service.Mails k.0; frame = k.1 })) at ∙ sym found ∙ ap as_outcome e,
          )

  abbrev Goal : ℕ → List (Started Wanted) → List (RowHere p) → Type 0
  Goal number ss rs = AllTaken p boot station count number passing (map named (services_in ss)) (map (λ r. seen_row p r) rs)

  -- ONE MAIL that was passed on
  module _ (number index : ℕ) (s : Started Wanted) (r : RowHere p) (q : Wanted) (is : s.service ≡ Service.Mails q) (at : ◌≡◌ {A = Wanted × ℕ} (q, s.frame) (r.service, r.frame)) (counted : index < all → number < count) (done : IsDone number s)
      (has : IsAnswered (seeing (mailer p)).speech (λ m. false) station gs r) (m : Mail) (mine : (answers : Bool) × (q ≡ Tagged.Asked.Passed (Ok m) answers)) where
    service : (answers : Bool) → q ≡ Tagged.Asked.Passed (Ok m) answers → r.service ≡ Tagged.Asked.Passed (Ok m) answers
    service answers e = sym (ap (λ (k : Wanted × ℕ). k.0) at) ∙ e

    -- the newest that came into hand
    newest_taken : LastOk index r → IsTakenOf p boot station count number passing (seen_row p r)
    newest_taken ok = record { over = over; replied = λ some. by passing refl some }
      where
        over : passing ≡ None → number < count
        over none = go mine.0 mine.1
          where
            go : (answers : Bool) → q ≡ Tagged.Asked.Passed (Ok m) answers → number < count
            go true e = let replies : handed q ≡ false = ap handed e in done_one number s q is replies (some_outcome r s q is at replies has (ok.answered none (Ok m) (service true e))) done
            go false e = counted (ok.over none (Ok m) (service false e))

        by : (o : Option Passing) → passing ≡ o → plain emission (seen_row p r).heard ≢ [] → number < count
        by None e some = over e
        by (Some z) e some = counted (ok.replied z e (Ok m) mine.0 (service mine.0 mine.1) some)

    -- or others came into hand behind it
    past_taken : HasEnded s → ((b : Body) → r.service ≡ Tagged.Asked.Passed b false → index < all) → IsTakenOf p boot station count number None (seen_row p r)
    past_taken ended ok = record { over = λ none. all_done; replied = λ some. all_done }
      where
        go : (answers : Bool) → q ≡ Tagged.Asked.Passed (Ok m) answers → number < count
        go true e = done_one number s q is (ap handed e) ended done
        go false e = counted (ok (Ok m) (service false e))

        all_done : number < count
        all_done = go mine.0 mine.1

  -- ALL ROWS
  pub all_taken : (ss : List (Started Wanted)) (rs : List (RowHere p)) (number index : ℕ) → AllNamed p (services_in ss) → mails_started ss ≡ rows_started rs → Behind all count number index (services_in ss) → Ended (but_last ss) → Done number ss → Answered rs →
      ((z : Passing) → passing ≡ Some z → IsByMails ss) → AllOk index rs → Goal number ss rs
  all_taken [] [] number index known rows b ended done has mails ok = tt
  all_taken [] (r ∷ rs) number index known rows b ended done has mails ok = absurd (let no : [] ≡ (r.service, r.frame) ∷ rows_started rs = rows in cc)
  all_taken (s ∷ ss) rs number index known rows b ended done has mails ok = by s.service refl rs rows b has ok (λ l i tail b has ok. all_taken ss l (suc number) i known.1 tail b rest_ended done.1 has rest_mails ok)
    where
      -- what is left
      rest_mails : (z : Passing) → passing ≡ Some z → IsByMails ss
      rest_mails z e = go ss (mails z e)
        where
          go : (l : List (Started Wanted)) → IsByMails (s ∷ l) → IsByMails l
          go [] k = λ target no. absurd (let bad : None ≡ Some (Service.State target) = no in cc)
          go (a ∷ l) k = k

      rest_ended : Ended (but_last ss)
      rest_ended = go ss ended
        where
          go : (l : List (Started Wanted)) → Ended (but_last (s ∷ l)) → Ended (but_last l)
          go [] k = tt
          go (a ∷ l) k = k.1

      rest_ok : (r : RowHere p) (l : List (RowHere p)) → AllOk index (r ∷ l) → AllOk (suc index) l
      rest_ok r [] k = tt
      rest_ok r (a ∷ l) k = k.1

      one : (q : Wanted) → s.service ≡ Service.Mails q → (r : RowHere p) (l : List (RowHere p)) → ◌≡◌ {A = Wanted × ℕ} (q, s.frame) (r.service, r.frame) → mails_started ss ≡ rows_started l → (index < all → number < count) → IsAnswered (seeing (mailer p)).speech (λ m. false) station gs r → AllOk index (r ∷ l) →
          (m : Mail) → (answers : Bool) × (q ≡ Tagged.Asked.Passed (Ok m) answers) → IsTakenOf p boot station count number (passing_before p boot station (map named (services_in ss)) passing) (seen_row p r)
      one q is r l at tail counted has ok m mine = go ss l ended mails tail ok
        where
          go : (ts : List (Started Wanted)) (l : List (RowHere p)) → Ended (but_last (s ∷ ts)) → ((z : Passing) → passing ≡ Some z → IsByMails (s ∷ ts)) → mails_started ts ≡ rows_started l → AllOk index (r ∷ l) →
              IsTakenOf p boot station count number (passing_before p boot station (map named (services_in ts)) passing) (seen_row p r)
          go [] [] ended mails tail ok = newest_taken number index s r q is at counted done.0 has m mine ok
          go [] (k ∷ l) ended mails tail ok = absurd (let no : [] ≡ (k.service, k.frame) ∷ rows_started l = tail in cc)
          go (a ∷ ts) (k ∷ l) ended mails tail ok = past_taken number index s r q is at counted done.0 has m mine ended.0 ok.0
          go (a ∷ ts) [] ended mails tail ok = past_taken number index s r q is at counted done.0 has m mine ended.0 (over passing refl)
            where
              over : (o : Option Passing) → passing ≡ o → (b : Body) → r.service ≡ Tagged.Asked.Passed b false → index < all
              over None e body silent = ok.over e body silent
              over (Some z) e body silent = absurd (let state = only_states a ts tail in mails z e state.0 state.1)

      -- of the services behind it
      Rest : Type 0
      Rest = (l : List (RowHere p)) (i : ℕ) → mails_started ss ≡ rows_started l → Behind all count (suc number) i (services_in ss) → Answered l → AllOk i l → Goal (suc number) ss l

      by : (z : Service Wanted) → s.service ≡ z → (rs : List (RowHere p)) → mail_of z s.frame ++ mails_started ss ≡ rows_started rs → Behind all count number index (z ∷ services_in ss) → Answered rs → AllOk index rs → Rest →
          AllTaken p boot station count number passing (named z ∷ map named (services_in ss)) (map (λ r. seen_row p r) rs)
      by (Service.Mails q) is [] rows b has ok rest = absurd (let no : (q, s.frame) ∷ mails_started ss ≡ [] = rows in cc)
      by (Service.Mails q) is (r ∷ l) rows b has ok rest =
          let whole : (q, s.frame) ∷ mails_started ss ≡ (r.service, r.frame) ∷ rows_started l = rows in
          let at : ◌≡◌ {A = Wanted × ℕ} (q, s.frame) (r.service, r.frame) = cc in
          let tail : mails_started ss ≡ rows_started l = cc in (
            (λ m e. one q is r l at tail (λ less. among all count number index (Service.Mails q ∷ services_in ss) b less) has.0 ok m (named_passed p q (services_in ss) m (subst (λ z. AllNamed p (z ∷ services_in ss)) is known) e)),
            rest l (suc index) tail (behind_mails all count number index q (services_in ss) b) has.1 (rest_ok r l ok),
          )
      by (Service.State target) is rs rows b has ok rest = rest rs index rows (behind_state all count number index target (services_in ss) b) has ok

  -- ---- OF TWO that aren't among the first so many the older is a packet
  net_packet : (q : EoeClient.Service) → EoeClient.is_handed q ≡ true → IsPacket (Service.Mails (Spoken.net q))
  net_packet (EoeClient.packet octets frame) e = tt
  net_packet (EoeClient.set_ip block) e = absurd (let no : false ≡ true = e in cc)
  net_packet EoeClient.get_ip e = absurd (let no : false ≡ true = e in cc)

  -- of one that has no reply, where a mail that is passed on would be among them
  packet_named : (number : ℕ) (q : Wanted) → number < count ⊎ ((m : Mail) → named_wanted q ≡ passed m → number < count) → handed q ≡ true → number < count ⊎ IsPacket (named (Service.Mails q))
  packet_named number q (inl less) e = inl less
  packet_named number (Tagged.Asked.Script (Protocol.CoE, q)) (inr taken) e = absurd (let no : false ≡ true = (script p Protocol.CoE q).handed ∙ e in cc)
  packet_named number (Tagged.Asked.Script (Protocol.FoE, q)) (inr taken) e = absurd (let no : false ≡ true = (script p Protocol.FoE q).handed ∙ e in cc)
  packet_named number (Tagged.Asked.Script (Protocol.SoE, q)) (inr taken) e = absurd (let no : false ≡ true = (script p Protocol.SoE q).handed ∙ e in cc)
  packet_named number (Tagged.Asked.Script (Protocol.EoE, q)) (inr taken) e = inr (net_packet q ((script p Protocol.EoE q).handed ∙ e))
  packet_named number (Tagged.Asked.Passed (Ok m) answers) (inr taken) e = inl (taken m refl)
  packet_named number (Tagged.Asked.Passed (Err fault) answers) (inr taken) e = inl (taken (error_of 0) refl)

  -- one in front of others
  front : (number : ℕ) (s a : Started Wanted) (ts : List (Started Wanted)) (rs : List (Row Body Asked Reply)) → HasEnded s → IsDone number s → AllTaken p boot station count number passing (named s.service ∷ map named (services_in (a ∷ ts))) rs → number < count ⊎ IsPacket (named s.service)
  front number s a ts rs ended done taken = go s.service refl rs taken
    where
      go : (z : Service Wanted) → s.service ≡ z → (rs : List (Row Body Asked Reply)) → AllTaken p boot station count number passing (named z ∷ map named (services_in (a ∷ ts))) rs → number < count ⊎ IsPacket (named z)
      go (Service.State target) is rs taken =
          let found = ap (λ z. outcome_of (seeing (mailer p)).speech (λ m. false) station gs (record { service = z; frame = s.frame })) (sym is) ∙ ended.1 in
          inl (done ended.0 ended.1 (state_replied (seeing (mailer p)) (seeing_states (mailer p)) (table_of boot station) (λ m. false) station gs target s.frame ended.0 found))
      go (Service.Mails q) is [] taken = absurd taken
      go (Service.Mails q) is (r ∷ l) taken = by (handed q) refl
        where
          by : (b : Bool) → handed q ≡ b → number < count ⊎ IsPacket (named (Service.Mails q))
          by true e = packet_named number q (inr (λ m mine. (taken.0 m mine).over refl)) e
          by false e = inl (done_one number s q is e ended done)

  pub older_packet : (ss : List (Started Wanted)) (rs : List (Row Body Asked Reply)) (number : ℕ) → Ended (but_last ss) → Done number ss → AllTaken p boot station count number passing (map named (services_in ss)) rs → (k : ℕ) → number + k ≡ count →
      (older newest : Service Asked) → drop k (map named (services_in ss)) ≡ older ∷ newest ∷ [] → IsPacket older
  older_packet [] rs number ended done taken zero at older newest e = absurd (let no : [] ≡ older ∷ newest ∷ [] = e in cc)
  older_packet [] rs number ended done taken (suc k) at older newest e = absurd (let no : [] ≡ older ∷ newest ∷ [] = e in cc)
  older_packet (s ∷ []) rs number ended done taken zero at older newest e = absurd (let no : [] ≡ newest ∷ [] = cc in cc)
  older_packet (s ∷ (a ∷ ts)) rs number ended done taken zero at older newest e =
      let head : named s.service ≡ older = cc in
      elim (front number s a ts rs ended.0 done.0 taken) [
        | inl less ↦ absurd (omega (arith, less, at))
        | inr is ↦ subst IsPacket head is
      ]
  older_packet (s ∷ ss) rs number ended done taken (suc k) at older newest e = go s.service rs taken (λ l taken. older_packet ss l (suc number) (rest_ended ss ended) done.1 taken k (omega (arith, at)) older newest e)
    where
      rest_ended : (l : List (Started Wanted)) → Ended (but_last (s ∷ l)) → Ended (but_last l)
      rest_ended [] z = tt
      rest_ended (a ∷ l) z = z.1

      go : (z : Service Wanted) (rs : List (Row Body Asked Reply)) → AllTaken p boot station count number passing (named z ∷ map named (services_in ss)) rs →
          ((l : List (Row Body Asked Reply)) → AllTaken p boot station count (suc number) passing (map named (services_in ss)) l → IsPacket older) → IsPacket older
      go (Service.State target) rs taken rest = rest rs taken
      go (Service.Mails q) [] taken rest = absurd taken
      go (Service.Mails q) (r ∷ l) taken rest = rest l taken.1

module _ (p : Profile) (k : IsSpeaker (mailer p)) (boot : Bool) (spot : Spot) (opened : ℕ) (v : InState Server) (r : Registers) (fs : List (Frame Body)) (counts : Bool) (e : Era Body Asked Reply) (n : Slave (InState Server) Body)
    (i : IsSeen (mailer p) (seer_of p boot) (table_of boot) spot opened v r fs counts e n) where
  -- so many of its services were carried out
  abbrev pub many : ℕ
  many = (promised (mailer p) k (seer_of p boot) (table_of boot) spot opened v r fs counts e n i).count

  abbrev started : List (Started Wanted)
  started = i.era.account.started

  abbrev rows : List (RowHere p)
  rows = rows_of i.era.side

  abbrev those : ℕ
  those = mails_in (take many (services_in started))

  abbrev framed : List (Frame Meant)
  framed = frames (mailer p) k (seer_of p boot) (table_of boot) spot opened v r fs counts e n i

  single : (q : Wanted) → is_passed q ≡ true → length ((seeing (mailer p)).speech.planned q []) ≡ 1
  single (Tagged.Asked.Script q) e = absurd (let no : false ≡ true = e in cc)
  single (Tagged.Asked.Passed m answers) e = refl

  -- what is kept of it, turn by turn, and what is known of it now
  abbrev Kept : Type 0
  Kept = Taken.Kept (seeing (mailer p)) (seeing_lawful (mailer p) k) (seeing_states (mailer p)) (seeing_stated (mailer p) k) (seer_of p boot) (table_of boot) (λ t. (mailer p).naming.more t.mail) is_passed single spot opened (between v) r i.is.plan i.is.answers i.frames i.era i.slave

  kept : Kept
  kept = Taken.kept_led (seeing (mailer p)) (seeing_lawful (mailer p) k) (seeing_states (mailer p)) (seeing_stated (mailer p) k) (seer_of p boot) (table_of boot) (λ t. (mailer p).naming.more t.mail) is_passed single spot opened (between v) r i.is.plan i.is.answers i.frames counts i.era i.slave i.led

  now_at : AtMoment (seeing (mailer p)) spot.station framed (between v) i.era.side i.era.account i.slave
  now_at = Taken.at (seeing (mailer p)) (seeing_lawful (mailer p) k) (seeing_states (mailer p)) (seeing_stated (mailer p) k) (seer_of p boot) (table_of boot) (λ t. (mailer p).naming.more t.mail) is_passed single spot opened (between v) r i.is.plan i.is.answers i.frames counts i.era i.slave i.led

  -- one of the rows that are counted
  counted : (index : ℕ) → (seeing (mailer p)).handled (between v) + suc index ≤ (seeing (mailer p)).handled i.slave.node.server.server → index < those
  counted index less = let did = (promised (mailer p) k (seer_of p boot) (table_of boot) spot opened v r fs counts e n i).handled in omega (arith, less, did)

  abbrev Stands : RowHere p → Type 0
  Stands row = Taken.Stands (seeing (mailer p)) (seeing_lawful (mailer p) k) (seeing_states (mailer p)) (seeing_stated (mailer p) k) (seer_of p boot) (table_of boot) (λ t. (mailer p).naming.more t.mail) is_passed single spot opened (between v) r i.is.plan i.is.answers i.frames i.era i.slave row

  abbrev NowStands : Option (RowHere p) → Type 0
  NowStands now = Taken.NowStands (seeing (mailer p)) (seeing_lawful (mailer p) k) (seeing_states (mailer p)) (seeing_stated (mailer p) k) (seer_of p boot) (table_of boot) (λ t. (mailer p).naming.more t.mail) is_passed single spot opened (between v) r i.is.plan i.is.answers i.frames i.era i.slave now

  stands : (row : RowHere p) → i.era.side.now ≡ Some row → is_passed row.service ≡ true → Stands row
  stands row now = subst NowStands now kept.now

  abbrev LastHere : ℕ → RowHere p → Type 0
  LastHere index row = LastOk p boot spot.station framed many those i.era.passing index row

  module _ (row : RowHere p) (now : i.era.side.now ≡ Some row) where
    -- where all rows are carried out it is
    all_rows : (seeing (mailer p)).handled (between v) + length rows ≤ (seeing (mailer p)).handled i.slave.node.server.server → length i.era.side.past < those
    all_rows all =
        let long = ap (λ z. length (i.era.side.past ++ newest z)) now ∙ length-append i.era.side.past (row ∷ []) in
        let one : length (row ∷ []) ≡ 1 = refl in
        counted (length i.era.side.past) (omega (arith, all, long, one))

    silent_over : i.era.passing ≡ None → (m : Body) → row.service ≡ Tagged.Asked.Passed m false → length i.era.side.past < those
    silent_over none m silent = elim ((stands row now (ap is_passed silent)).stage (ap (λ q. (seeing (mailer p)).speech.handed q) silent)) [
      | inl all ↦ all_rows all
      | inr part ↦ absurd (subst (λ o. PartOf (seeing (mailer p)).speech (seeing_states (mailer p)).acknowledged (λ t. (mailer p).naming.more t.mail) is_passed o (joined (news_from spot.station row.frame framed))) none part)
    ]

    replied_here : (z : Passing) → i.era.passing ≡ Some z → (m : Body) (answers : Bool) → row.service ≡ Tagged.Asked.Passed m answers → plain emission (seen_row p row).heard ≢ [] → length i.era.side.past < those
    replied_here z some m answers is heard =
        let contents = subst (OfRow (λ (h : RowHere p). ByContents (product_whole parts p).speech.emission h.heard)) now i.contents in
        let alone : Meant = record { mail = m; meant = Tagged.Meant.Alone answers } in
        all_rows ((now_at.now row now).replied ((stands row now (ap is_passed is)).mails z some) alone (λ hs. ap (λ q. (seeing (mailer p)).speech.planned q hs) is)
        (λ none. heard (sym (plain_untag (product_whole parts p).speech.emission row.heard contents) ∙ ap untag none)))

    last_ok : LastHere (length i.era.side.past) row
    last_ok = record {
      over = silent_over;
      answered = λ none m is. subst (OfRow (λ (h : RowHere p). (b : Body) → h.service ≡ Tagged.Asked.Passed b true → is_some h.answer ≡ true)) now (i.answered none) m is;
      replied = replied_here;
    }

  abbrev Past : ℕ → List (RowHere p) → Type 0
  Past index rs = Taken.AreDone (seeing (mailer p)) (seeing_lawful (mailer p) k) (seeing_states (mailer p)) (seeing_stated (mailer p) k) (seer_of p boot) (table_of boot) (λ t. (mailer p).naming.more t.mail) is_passed single spot opened (between v) r i.is.plan i.is.answers
      ((seeing (mailer p)).handled i.slave.node.server.server) index rs

  abbrev AllHere : ℕ → List (RowHere p) → Type 0
  AllHere index rs = AllOk p boot spot.station framed many those i.era.passing index rs

  past_ok : (past : List (RowHere p)) (index : ℕ) (now : Option (RowHere p)) → Past index past → ((row : RowHere p) → now ≡ Some row → LastHere (index + length past) row) → (now ≡ None → past ≡ []) → AllHere index (past ++ newest now)
  past_ok [] index None done last none = tt
  past_ok [] index (Some row) done last none = let same : index + 0 ≡ index = omega arith in subst (λ j. LastHere j row) same (last row refl)
  past_ok (h ∷ []) index None done last none = absurd (let no : h ∷ [] ≡ [] = none refl in cc)
  past_ok (h ∷ []) index (Some row) done last none =
      let same : index + length (h ∷ []) ≡ suc index = omega arith in
      ((λ m silent. counted index (done.0 (ap is_passed silent) (ap (λ q. (seeing (mailer p)).speech.handed q) silent))), subst (λ j. LastHere j row) same (last row refl))
  past_ok (h ∷ (a ∷ past)) index now done last none =
      let same : index + length (h ∷ (a ∷ past)) ≡ suc index + length (a ∷ past) = omega arith in (
        (λ m silent. counted index (done.0 (ap is_passed silent) (ap (λ q. (seeing (mailer p)).speech.handed q) silent))),
        past_ok (a ∷ past) (suc index) now done.1 (λ row is. subst (λ j. LastHere j row) same (last row is)) (λ is. absurd (let no : h ∷ (a ∷ past) ≡ [] = none is in cc)),
      )

  ok : AllHere 0 rows
  ok =
      let same : length i.era.side.past ≡ 0 + length i.era.side.past = omega arith in
      past_ok i.era.side.past 0 i.era.side.now kept.past (λ row now. subst (λ j. LastHere j row) same (last_ok row now)) (λ none. subst (λ o. RisesNow i.era.side.past o (length framed)) none now_at.rises)

  abbrev named_era : Era Body Asked Reply
  named_era = era_named (mailer p) i.era

  taken_there : AllTaken p boot spot.station many 0 i.era.passing (map (λ q. service_seen named_wanted q) (services_in started)) (map (λ h. seen_row p h) rows)
  taken_there =
      let did = promised (mailer p) k (seer_of p boot) (table_of boot) spot opened v r fs counts e n i in
      let has = answered (mailer p) k (seer_of p boot) (table_of boot) spot opened v r fs counts e n i in
      let same : many - 0 ≡ many = omega arith in
      all_taken p boot spot.station framed many those i.era.passing started rows 0 0 (valid (mailer p) k (seer_of p boot) (table_of boot) spot opened v r fs counts e n i) has.mails
      (subst (λ j. those ≤ 0 + mails_in (take j (services_in started))) (sym same) (omega arith)) did.in_doubt did.in_done has.answers
      (λ z some. let h = i.passes z some in (stands h.row h.is h.passes).mails z some) ok

  -- EACH MAIL that was passed on
  pub taken_so : AllTaken p boot spot.station many 0 e.passing (services_in e.account.started) (rows_of e.side)
  taken_so = subst (λ (d : Era Body Asked Reply). AllTaken p boot spot.station many 0 d.passing (services_in d.account.started) (rows_of d.side)) i.named
      (subst (λ l. AllTaken p boot spot.station many 0 i.era.passing (services_in named_era.account.started) l) (sym (rows_seen (mail p) named_wanted (same p) i.era.side))
      (subst (λ qs. AllTaken p boot spot.station many 0 i.era.passing qs (map (λ h. seen_row p h) rows)) (sym (services_named p started)) taken_there))

  -- OF TWO services that aren't carried out the older is a packet
  pub packet_so : (older newest : Service Asked) → drop many (services_in e.account.started) ≡ older ∷ newest ∷ [] → IsPacket older
  packet_so =
      let did = promised (mailer p) k (seer_of p boot) (table_of boot) spot opened v r fs counts e n i in
      subst (λ (d : Era Body Asked Reply). (older newest : Service Asked) → drop many (services_in d.account.started) ≡ older ∷ newest ∷ [] → IsPacket older) i.named
      (subst (λ qs. (older newest : Service Asked) → drop many qs ≡ older ∷ newest ∷ [] → IsPacket older) (sym (services_named p started))
      (older_packet p boot spot.station framed many those i.era.passing started (map (λ h. seen_row p h) rows) 0 did.in_doubt did.in_done taken_there many (omega arith)))
