-- BEHIND A FRAME the desk of a slave is what its life has, and each of its datagrams got what is its own.
use Rattle.std.proofs.Common.{◌≡◌, ℕ, Bool, true, false, Option, Some, None, List, [], ◌∷◌, ◌++◌, map, refl, sym, ap, ◌∙◌, subst, append-nil, eq-eqb, length-append, arith}
use Rattle.std.specs.Prelude.{◌≢◌, if◌then◌else◌, length, slice_get, slice_index_or, All, Ok}
use Rattle.std.proofs.lemmas.List.Elements.{All-filter, All-map, All-weaker}
use Rattle.gateway_core.specs.Framing.{request_in}
use Rattle.run_record.proofs.of_served_places.Stay.{StaysOver, passings_last}
use Rattle.run_record.specs.of_served_places.Rows.{AreAll, Stays, last_more, passed_rows, passings, replies_of}
use Rattle.run_record.specs.of_life_runs.Served.{Serves}
use Rattle.run_record.specs.of_life_runs.Told.{Passed, TellsOwn}
use Rattle.gateway_core.specs.of_mailbox_mail.declared.mail.Mail.{Mail}
use Rattle.run_record.specs.of_master_node.Wants.{gave_of}
use Rattle.run_record.specs.of_master_node.declared.event.Event.{Event}
use Rattle.run_record.specs.of_frame_view.Shares.{AllBoth}
use Rattle.run_record.specs.of_link_mails.Body.{Body}
use Rattle.run_record.specs.of_master_hand.Spoken.{is_passed}
use Rattle.run_record.specs.of_master_tour.Made.{is_in}
use Rattle.run_record.specs.of_segment_model.Ends.{Passing}
use Rattle.run_record.specs.of_run_book.declared.book.GramIn.{GramIn}
use Rattle.gateway_run.specs.Account.{Owing, owing, others, owed_by_all, waits_at}
use Rattle.gateway_run.specs.Desk.{AreApart}
use Rattle.gateway_run.specs.Rooms.{AreRising, begun_of, done_by_all, grams_of, has_begun, owed_for, waiting_of}
use Rattle.gateway_run.specs.Replies.{Fares, GivesAll, IsDesk, IsFor, IsNewest, IsOurs, StandsSo, keyed_in, mails_told, owed_in}
use Rattle.gateway_run.specs.declared.desk.Request.{Request}
use Rattle.gateway_run.proofs.Desking.{owed_its, owed_not}
use Rattle.gateway_run.proofs.Hands.{all_among, all_in, all_left, among_at, at_last, both_many, in_head, rises_apart, rises_first, stands_undone}
use Rattle.gateway_run.proofs.Behind.{InHand, done_none, done_one, finished, in_hand, owes, told_of}
use Rattle.gateway_run.proofs.Given.{IsTold, desk_told, fares_told, last_same}
use Rattle.gateway_run.proofs.Gives.{OverIf, gives_told, over_last, over_same, owed_last_more, owed_none_more, rises_less}
use Rattle.gateway_run.proofs.Rooms.{not_same}

-- what these events make owed besides, and which rows they end, of the datagrams of this slave
pub record OwesBesides (gs : List GramIn) (slave : ℕ) (os more : List Owing) (rs : List Request) (es : List Event) (done done' : ℕ → Bool) : Type 0 where
  pub owed : (n : ℕ) → IsOurs gs slave n → owed_for n (os ++ more) ≡ owed_for n os ++ owed_for n (owed_by_all es rs)
  pub ended : (n : ℕ) → IsOurs gs slave n → done' n ≡ (if is_in n (done_by_all es rs) then true else done n)

-- ITS DESK BEHIND THE FRAME, with these requests left, and what each of its datagrams got; these replies are told of the mail in hand
pub record HasTold (gs : List GramIn) (slave : ℕ) (w v : Serves) (os more : List Owing) (came : List ℕ) (rs : List Request) (done done' : ℕ → Bool) (told : List Body) (qs : List Request) : Type 0 where
  pub desk : IsDesk gs (os ++ more) slave v came (waiting_of slave qs) (begun_of slave qs)
  pub fares : (number : ℕ) (asked : Mail) (o : IsOurs gs slave number) → request_in o.gram.bytes ≡ Ok asked →
      Fares w came (waiting_of slave rs) (begun_of slave rs) (done number) number o.gram.frame asked (owed_for number os) → Fares v came (waiting_of slave qs) (begun_of slave qs) (done' number) number o.gram.frame asked (owed_for number (os ++ more))
  pub whole : replies_of (passed_rows v.lead.lived.life) ≡ last_more told (replies_of (passed_rows w.lead.lived.life)) → AllBoth StaysOver (passings w.lead.lived.life) (passings v.lead.lived.life) → GivesAll os done w came → GivesAll (os ++ more) done' v came

module _ (gs : List GramIn) (slave : ℕ) (w v : Serves) (os more : List Owing) (came : List ℕ) (rs : List Request) (es : List Event) (done done' : ℕ → Bool) where
  -- WHAT IS KNOWN where a mail was passed on last
  module _ (p : Passed) (new : List Body) where
    pub record IsBehind : Type 0 where
      pub waits : v.waits ≡ w.waits
      pub hand : w.hand ≡ Some p
      pub behind : v.hand ≡ Some (record p { told = p.told ++ new })
      pub stay : AllBoth Stays (passed_rows w.lead.lived.life) (passed_rows v.lead.lived.life)
      pub gave : gave_of v.lead ≡ gave_of w.lead
      pub own : TellsOwn (record p { told = p.told ++ new }) v.lead.lived.life.era.passing v.lead.lived.life.era.side.now
      pub owes : OwesBesides gs slave os more rs es done done'
      pub ours : All (λ (r : Request). IsOurs gs slave r.gram) rs
      pub undone : All (λ (r : Request). done r.gram ≡ false) rs

    module _ (b : IsBehind) (d : IsDesk gs os slave w came (waiting_of slave rs) (begun_of slave rs)) where
      last : IsNewest gs slave came os p
      last = d.newest p b.hand

      last_ours : IsOurs gs slave last.number
      last_ours = record { gram = last.gram; there = last.there; queued = last.queued }

      -- none that waits is the one in hand
      not_last : (r : Request) → is_in r.gram (grams_of (waiting_of slave rs)) ≡ true → last.number ≢ r.gram
      not_last r e s = (let there = rises_apart last.number came (grams_of (waiting_of slave rs)) d.rising (among_at last.number came (length last.before) (ap (λ ns. slice_get ns (length last.before)) last.last ∙ at_last last.before last.number)) in
          let bad : true ≡ false = sym e ∙ ap (λ n. is_in n (grams_of (waiting_of slave rs))) (sym s) ∙ there in cc)

      all_waiting : All (λ (r : Request). last.number ≢ r.gram) (waiting_of slave rs)
      all_waiting = All-weaker (λ (r : Request). is_in r.gram (grams_of (waiting_of slave rs)) ≡ true) (λ (r : Request). last.number ≢ r.gram) not_last (waiting_of slave rs) (all_among (waiting_of slave rs))

      -- those that wait are this slave's
      ours_waiting : All (λ (r : Request). IsOurs gs slave r.gram) (waiting_of slave rs)
      ours_waiting = All-filter (waits_at slave) (λ (r : Request). IsOurs gs slave r.gram) rs b.ours

      -- the request in hand is of the last datagram
      its_gram : (r : Request) → begun_of slave rs ≡ r ∷ [] → last.number ≡ r.gram
      its_gram r e = (let o = d.its r e in (last_same last.before o.0 last.number r.gram (sym last.last ∙ o.1)).0)

      -- no request is done whose mail is in hand
      undone : (number : ℕ) → is_in number (grams_of (begun_of slave rs)) ≡ true → done number ≡ false
      undone number e = all_in (λ n. done n ≡ false) number (grams_of (begun_of slave rs)) (All-map (λ n. done n ≡ false) (λ (r : Request). r.gram) (begun_of slave rs) (All-filter (has_begun slave) (λ (r : Request). done r.gram ≡ false) rs b.undone)) e

      -- NOTHING OF IT IS TOLD, and its request stays as it is
      module _ (was : Bool) (none : (n : ℕ) → owed_for n (owed_by_all es rs) ≡ []) (never : (n : ℕ) → is_in n (done_by_all es rs) ≡ false) (nothing : new ≡ []) (keyed : AllBoth (IsFor gs) (begun_of slave rs) (keyed_in v.hand v.lead.lived.life.era.passing)) where
        same_owed : (n : ℕ) → IsOurs gs slave n → owed_for n (os ++ more) ≡ owed_for n os
        same_owed n o = b.owes.owed n o ∙ ap (λ ms. owed_for n os ++ ms) (none n) ∙ append-nil (owed_for n os)

        same_done : (n : ℕ) → IsOurs gs slave n → done' n ≡ done n
        same_done n o = b.owes.ended n o ∙ ap (λ z. if z then true else done n) (never n)

        told : IsTold gs slave w v came (waiting_of slave rs) (begun_of slave rs) (begun_of slave rs) p new os more
        told = record {
          waits = b.waits;
          hand = b.hand;
          behind = b.behind;
          stay = b.stay;
          still = λ r e. e;
          in_hand = keyed;
          owed = λ n. same_owed n.number (record { gram = n.gram; there = n.there; queued = n.queued }) ∙ sym (append-nil (owed_for n.number os)) ∙ ap (λ l. owed_for n.number os ++ mails_told l) (sym nothing);
          others = All-weaker (λ (r : Request). IsOurs gs slave r.gram) (λ (r : Request). owed_for r.gram (os ++ more) ≡ owed_for r.gram os) (λ r o. same_owed r.gram o) (waiting_of slave rs) ours_waiting;
        }

        pub tells_nothing : HasTold gs slave w v os more came rs done done' new rs
        tells_nothing = record {
          desk = desk_told gs slave w v came (waiting_of slave rs) (begun_of slave rs) (begun_of slave rs) p new os more told d;
          fares = λ number asked o request f. fares_told gs slave w v came (waiting_of slave rs) (begun_of slave rs) (begun_of slave rs) p new os more told d (done number) (done' number) number asked o.gram o.there request b.gave b.own
              (λ began told e s. stands_undone w v (begun_of slave rs) (begun_of slave rs) number began told (p.told ++ new) (done number) (done' number) (undone number e) (same_done number o ∙ undone number e) b.gave (λ here. here) s)
              (λ e. (same_owed number o, same_done number o, e)) f;
          whole = λ heard over all.
              gives_told os done w v came (os ++ more) done' new
              (owed_none_more os (os ++ more) came (mails_told new) (ap mails_told nothing) (All-weaker (IsOurs gs slave) (λ n. owed_for n (os ++ more) ≡ owed_for n os) same_owed came d.ours))
              (λ a. over_same done done' came (passings w.lead.lived.life) (passings v.lead.lived.life) (All-weaker (IsOurs gs slave) (λ n. done' n ≡ done n) same_done came d.ours) a over) heard all;
        }

      -- REPLIES OF IT ARE TOLD, and its request stays while it isn't over
      module _ (apart : AreApart rs) (x : Passing) (passing : w.lead.lived.life.era.passing ≡ Some x) where
        i : InHand gs slave w v os more came rs p new
        i = in_hand gs slave w v os more came rs p new b.hand x passing d

        number_is : last.number ≡ i.request.gram
        number_is = its_gram i.request i.is

        module _ (goes : Bool) (tells : es ≡ told_of gs slave w v os more came rs p new true goes) where
          owed_all : owed_by_all es rs ≡ map (λ m. owing m i.request) (mails_told new)
          owed_all = ap (λ l. owed_by_all l rs) tells ∙ owes gs slave w v os more came rs p new apart i true goes

          owed_last : owed_for last.number (os ++ more) ≡ owed_for last.number os ++ mails_told new
          owed_last = b.owes.owed last.number last_ours ∙ ap (λ ms. owed_for last.number os ++ ms) (ap (owed_for last.number) owed_all ∙ ap (λ n. owed_for n (map (λ m. owing m i.request) (mails_told new))) number_is ∙ owed_its i.request (mails_told new))

          owed_others : (n : ℕ) → IsOurs gs slave n → i.request.gram ≢ n → owed_for n (os ++ more) ≡ owed_for n os
          owed_others n o off = b.owes.owed n o ∙ ap (λ ms. owed_for n os ++ ms) (ap (owed_for n) owed_all ∙ owed_not n i.request (mails_told new) off) ∙ append-nil (owed_for n os)

          waiting_same : All (λ (r : Request). owed_for r.gram (os ++ more) ≡ owed_for r.gram os) (waiting_of slave rs)
          waiting_same = λ k r less. owed_others (slice_index_or (waiting_of slave rs) k r).gram (ours_waiting k r less) (λ s. all_waiting k r less (number_is ∙ s))

          newest_owed : (n : IsNewest gs slave came os p) → owed_for n.number (os ++ more) ≡ owed_for n.number os ++ mails_told new
          newest_owed n = (let same : last.number ≡ n.number = (last_same last.before n.before last.number n.number (sym last.last ∙ n.last)).0 in subst (λ k. owed_for k (os ++ more) ≡ owed_for k os ++ mails_told new) same owed_last)

          -- of those whose mails came into hand, the last alone is owed more
          ours_before : All (λ n. IsOurs gs slave n × (i.request.gram ≢ n)) last.before
          ours_before = λ k n less. (
            all_left (IsOurs gs slave) last.before (last.number ∷ []) (subst (All (IsOurs gs slave)) last.last d.ours) k n less,
            λ s. (let below = rises_less last.before last.number (subst AreRising last.last (rises_first came (grams_of (waiting_of slave rs)) d.rising)) k n less in omega (arith, below, s, number_is)),
          )

          owed_all_last : owed_in (os ++ more) came ≡ last_more (mails_told new) (owed_in os came)
          owed_all_last =
              owed_last_more os (os ++ more) came last.before last.number (mails_told new) last.last
              (All-weaker (λ n. IsOurs gs slave n × (i.request.gram ≢ n)) (λ n. owed_for n (os ++ more) ≡ owed_for n os) (λ n o. owed_others n o.0 o.1) last.before ours_before) owed_last

          -- one that isn't in hand is another
          not_begun : (number : ℕ) → is_in number (grams_of (begun_of slave rs)) ≡ false → i.request.gram ≢ number
          not_begun number e s = (let bad : true ≡ false = sym (in_head number i.request.gram true (eq-eqb number i.request.gram (sym s)) []) ∙ sym (ap (λ bs. is_in number (grams_of bs)) i.is) ∙ e in cc)

        -- it goes on
        pub tells_on : (y : Passing) → v.lead.lived.life.era.passing ≡ Some y → es ≡ told_of gs slave w v os more came rs p new true true → HasTold gs slave w v os more came rs done done' new rs
        tells_on y goes tells = record {
          desk = desk_told gs slave w v came (waiting_of slave rs) (begun_of slave rs) (begun_of slave rs) p new os more told d;
          fares = λ number asked o request f. fares_told gs slave w v came (waiting_of slave rs) (begun_of slave rs) (begun_of slave rs) p new os more told d (done number) (done' number) number asked o.gram o.there request b.gave b.own
              (λ began told e s. stands_undone w v (begun_of slave rs) (begun_of slave rs) number began told (p.told ++ new) (done number) (done' number) (undone number e) (same_done number o ∙ undone number e) b.gave (λ here. here) s)
              (λ e. (owed_others true tells number o (not_begun true tells number e), same_done number o, e)) f;
          whole = λ heard over all.
              gives_told os done w v came (os ++ more) done' new (owed_all_last true tells)
              (λ a. over_same done done' came (passings w.lead.lived.life) (passings v.lead.lived.life) (All-weaker (IsOurs gs slave) (λ n. done' n ≡ done n) same_done came d.ours) a over) heard all;
        }
          where
            same_done : (n : ℕ) → IsOurs gs slave n → done' n ≡ done n
            same_done n o = b.owes.ended n o ∙ ap (λ z. if z then true else done n) (ap (λ l. is_in n (done_by_all l rs)) tells ∙ done_none gs slave w v os more came rs p new apart i n)

            told : IsTold gs slave w v came (waiting_of slave rs) (begun_of slave rs) (begun_of slave rs) p new os more
            told = record {
              waits = b.waits;
              hand = b.hand;
              behind = b.behind;
              stay = b.stay;
              still = λ r e. e;
              in_hand = subst (AllBoth (IsFor gs) (begun_of slave rs)) (λ k. keyed_in ((sym b.behind) k) ((sym goes) k)) (subst (AllBoth (IsFor gs) (begun_of slave rs)) (λ k. keyed_in (b.hand k) (passing k)) d.in_hand);
              owed = newest_owed true tells;
              others = waiting_same true tells;
            }

        -- it is over, with all its replies
        pub tells_over : v.lead.lived.life.era.passing ≡ None → AreAll (p.told ++ new) → es ≡ told_of gs slave w v os more came rs p new true false → HasTold gs slave w v os more came rs done done' new (others p.key rs)
        tells_over over all tells = record {
          desk = subst (λ bs. IsDesk gs (os ++ more) slave v came (waiting_of slave (others p.key rs)) bs) (sym left.1) (subst (λ ws. IsDesk gs (os ++ more) slave v came ws []) (sym left.0)
              (desk_told gs slave w v came (waiting_of slave rs) (begun_of slave rs) [] p new os more told d));
          fares = λ number asked o request f.
              subst (λ bs. Fares v came (waiting_of slave (others p.key rs)) bs (done' number) number o.gram.frame asked (owed_for number (os ++ more))) (sym left.1) (subst (λ ws. Fares v came ws [] (done' number) number o.gram.frame asked (owed_for number (os ++ more))) (sym left.0)
              (fares_told gs slave w v came (waiting_of slave rs) (begun_of slave rs) [] p new os more told d (done number) (done' number) number asked o.gram o.there request b.gave b.own
              (λ began told e s. subst (StandsSo v [] number began (p.told ++ new)) (sym (b.owes.ended number o ∙ ap (λ z. if z then true else done number) (in_done number e))) all)
              (λ e. (owed_others false tells number o (not_begun false tells number e), b.owes.ended number o ∙ ap (λ z. if z then true else done number) (not_done number e), refl)) f));
          whole = λ heard stays all. gives_told os done w v came (os ++ more) done' new (owed_all_last false tells) (λ a. all_over a stays) heard all;
        }
          where
            left : (waiting_of slave (others p.key rs) ≡ waiting_of slave rs) × (begun_of slave (others p.key rs) ≡ [])
            left = finished gs slave w v os more came rs p new apart i

            dones : (number : ℕ) → is_in number (done_by_all es rs) ≡ is_in number (grams_of (begun_of slave rs))
            dones number = ap (λ l. is_in number (done_by_all l rs)) tells ∙ ap (is_in number) (done_one gs slave w v os more came rs p new apart i) ∙ ap (λ bs. is_in number (grams_of bs)) (sym i.is)

            in_done : (number : ℕ) → is_in number (grams_of (begun_of slave rs)) ≡ true → is_in number (done_by_all es rs) ≡ true
            in_done number e = dones number ∙ e

            not_done : (number : ℕ) → is_in number (grams_of (begun_of slave rs)) ≡ false → is_in number (done_by_all es rs) ≡ false
            not_done number e = dones number ∙ e

            -- of the others none is done by it, and the last is over
            same_before : All (λ n. done' n ≡ done n) last.before
            same_before = All-weaker (λ n. IsOurs gs slave n × (i.request.gram ≢ n)) (λ n. done' n ≡ done n) (λ n o. b.owes.ended n o.0 ∙ ap (λ z. if z then true else done n) (not_done n (off_begun n o.1))) last.before (ours_before false tells)
              where
                off_begun : (n : ℕ) → i.request.gram ≢ n → is_in n (grams_of (begun_of slave rs)) ≡ false
                off_begun n off = ap (λ bs. is_in n (grams_of bs)) i.is ∙ in_head n i.request.gram false (not_same n i.request.gram (λ s. off (sym s))) []

            all_over : AllBoth (OverIf done) came (passings w.lead.lived.life) → AllBoth StaysOver (passings w.lead.lived.life) (passings v.lead.lived.life) → AllBoth (OverIf done') came (passings v.lead.lived.life)
            all_over a stays =
                subst (λ ns. AllBoth (OverIf done') ns (passings v.lead.lived.life)) (sym last.last)
                (over_last done done' last.before last.number (passings w.lead.lived.life) (passings v.lead.lived.life) same_before (subst (λ ns. AllBoth (OverIf done) ns (passings w.lead.lived.life)) last.last a) stays last_over)
              where
                newest : (front : List (Option Passing)) × (passings v.lead.lived.life ≡ front ++ v.lead.lived.life.era.passing ∷ [])
                newest = passings_last v.lead.lived.life b.own.row b.own.is (ap is_passed b.own.service)

                place : length last.before ≡ length newest.0
                place =
                    let many = both_many (OverIf done) came (passings w.lead.lived.life) a ∙ both_many StaysOver (passings w.lead.lived.life) (passings v.lead.lived.life) stays in
                    let these = ap length last.last ∙ length-append last.before (last.number ∷ []) in
                    let those = ap length newest.1 ∙ length-append newest.0 (v.lead.lived.life.era.passing ∷ []) in
                    omega (arith, many, these, those)

                last_over : slice_get (passings v.lead.lived.life) (length last.before) ≡ Some None
                last_over = ap (slice_get (passings v.lead.lived.life)) place ∙ ap (λ ps. slice_get ps (length newest.0)) newest.1 ∙ at_last newest.0 v.lead.lived.life.era.passing ∙ ap Some over

            none_keyed : AllBoth (IsFor gs) [] (keyed_in v.hand v.lead.lived.life.era.passing)
            none_keyed = subst (AllBoth (IsFor gs) []) (λ k. keyed_in ((sym b.behind) k) ((sym over) k)) tt

            told : IsTold gs slave w v came (waiting_of slave rs) (begun_of slave rs) [] p new os more
            told = record {
              waits = b.waits;
              hand = b.hand;
              behind = b.behind;
              stay = b.stay;
              still = λ r e. absurd (cc);
              in_hand = none_keyed;
              owed = newest_owed false tells;
              others = waiting_same false tells;
            }
