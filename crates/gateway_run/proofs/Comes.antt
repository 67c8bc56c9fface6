-- A MAIL COMES INTO HAND of a slave: the oldest of its requests that wait is the one whose mail is in hand.
use Rattle.std.proofs.Common.{◌≡◌, ℕ, zero, suc, ◌+◌, ◌<◌, ◌≤◌, ◌⊎◌, Bool, true, false, inl, Option, Some, None, List, [], ◌∷◌, ◌++◌, length, refl, sym, ap, ◌∙◌, subst, eqb-true, append_assoc, length-append, arith}
use Rattle.std.specs.Prelude.{◌==◌, slice_get, All, Ok}
use Rattle.std.proofs.lemmas.List.Elements.{All-head, All-tail, All-push, All-weaker}
use Rattle.run_record.specs.of_master_node.Wants.{gave_of}
use Rattle.run_record.specs.of_exchange_model.Exchange.{plain}
use Rattle.run_record.specs.of_exchange_model.Rows.{Row, begun}
use Rattle.gateway_core.specs.Framing.{request_in}
use Rattle.run_record.specs.of_served_places.Rows.{Stays, passed_rows}
use Rattle.run_record.specs.of_life_runs.Served.{Keyed, Serves}
use Rattle.run_record.specs.of_life_runs.Told.{Passed}
use Rattle.gateway_core.specs.of_mailbox_mail.declared.mail.Mail.{Mail}
use Rattle.run_record.specs.of_frame_view.Shares.{AllBoth}
use Rattle.run_record.specs.of_link_mails.Body.{Body}
use Rattle.run_record.specs.of_master_duty.Reply.{Reply}
use Rattle.run_record.specs.of_master_hand.Spoken.{Asked, emission, passed}
use Rattle.run_record.specs.of_master_tour.Made.{is_in}
use Rattle.run_record.specs.of_segment_model.Ends.{Passing}
use Rattle.run_record.specs.of_run_book.declared.book.GramIn.{GramIn}
use Rattle.gateway_run.specs.Account.{Owing}
use Rattle.gateway_run.specs.Rooms.{AreRising, grams_of}
use Rattle.gateway_run.specs.Replies.{Fares, Fares.dropped, Fares.replies, Fares.waits, IsDesk, IsFor, IsLate, IsNew, IsNewest, IsOurs, IsSame, StandsSo, keyed_in}
use Rattle.gateway_run.specs.Since.{GaveSince, NoneSince}
use Rattle.gateway_run.specs.declared.desk.Request.{Request}
use Rattle.gateway_run.proofs.Hands.{KeepsRow, all_got, at_last, both_at, both_many, both_push, in_append, in_head, late_stays, replies_same, row_stays}

-- the oldest that waits
pub record Oldest (waiting : List Request) : Type 0 where
  pub request : Request
  pub rest : List Request
  pub is : waiting ≡ request ∷ rest

pub oldest : {T : Type 0} (P : Request → T → Type 0) (waiting : List Request) (ks : List T) (k : T) (more : List T) → ks ≡ k ∷ more → AllBoth P waiting ks → Oldest waiting
oldest P [] [] k more e a = absurd (cc)
oldest P [] (l ∷ ks) k more e a = absurd a
oldest P (r ∷ rs) [] k more e a = absurd a
oldest P (r ∷ rs) (l ∷ ks) k more e a = record { request = r; rest = rs; is = refl }

-- the same request, whose mail came into hand
abbrev pub with_mail : Request → Request
with_mail r = record r { begun = true }

for_begun : (gs : List GramIn) (r : Request) (k : Keyed) → IsFor gs r k → IsFor gs (with_mail r) (record { key = k.key; mail = k.mail })
for_begun gs r k f = record {
  key = f.key;
  of_gram = record { gram = f.of_gram.gram; there = f.of_gram.there; queued = f.of_gram.queued };
  asked = f.asked;
  request = f.request;
  same = f.same;
}

pub known_at : (gs : List GramIn) (n : ℕ) (g : GramIn) → slice_get gs n ≡ Some g → n < length gs
known_at [] n g e = absurd (cc)
known_at (h ∷ gs) zero g e = omega arith
known_at (h ∷ gs) (suc n) g e = (let l = known_at gs n g e in omega (arith, l))

-- each of a slave's was heard
pub ours_known : (gs : List GramIn) (slave : ℕ) (came : List ℕ) → All (IsOurs gs slave) came → All (λ (n : ℕ). n < length gs) came
ours_known gs slave came a = All-weaker (IsOurs gs slave) (λ (n : ℕ). n < length gs) (λ n o. known_at gs n o.gram o.there) came a

pub none_begun : (gs : List GramIn) (w : Serves) (begun : List Request) → w.lead.lived.life.era.passing ≡ None → AllBoth (IsFor gs) begun (keyed_in w.hand w.lead.lived.life.era.passing) → begun ≡ []
none_begun gs w begun free a = by w.hand (subst (λ p. AllBoth (IsFor gs) begun (keyed_in w.hand p)) free a)
  where
    none : (rs : List Request) → AllBoth (IsFor gs) rs [] → rs ≡ []
    none [] a = refl
    none (r ∷ rs) a = absurd a

    by : (hand : Option Passed) → AllBoth (IsFor gs) begun (keyed_in hand None) → begun ≡ []
    by None a = none begun a
    by (Some p) a = none begun a

module _ (gs : List GramIn) (slave : ℕ) (w v : Serves) (came : List ℕ) (k : Keyed) (rest : List Keyed) (row : Row Body Asked Reply) (os : List Owing) where
  -- WHAT COMES INTO HAND, by the lives
  pub record MailComes : Type 0 where
    pub waits : w.waits ≡ k ∷ rest
    pub left : v.waits ≡ rest
    pub free : w.lead.lived.life.era.passing ≡ None
    pub hand : v.hand ≡ Some (record { key = k.key; mail = k.mail; told = [] })
    pub passing : v.lead.lived.life.era.passing ≡ Some Passing.Waiting
    pub its : row.service ≡ passed k.mail
    pub stay : AllBoth Stays (passed_rows w.lead.lived.life ++ row ∷ []) (passed_rows v.lead.lived.life)
    -- all datagrams so far were heard by then
    pub early : All (λ (g : GramIn). g.frame ≤ row.frame) gs

  module _ (c : MailComes) (r : Request) (more begun : List Request) (d : IsDesk gs os slave w came (r ∷ more) begun) where
    pub is_for : IsFor gs r k
    is_for = (subst (AllBoth (IsFor gs) (r ∷ more)) c.waits d.waits).0

    many : length (came ++ r.gram ∷ []) ≡ length (passed_rows v.lead.lived.life)
    many = length-append came (r.gram ∷ []) ∙ ap (λ n. n + 1) d.many ∙ sym (length-append (passed_rows w.lead.lived.life) (row ∷ [])) ∙ both_many Stays (passed_rows w.lead.lived.life ++ row ∷ []) (passed_rows v.lead.lived.life) c.stay

    pub desk_mail : r.slave ≡ slave → IsDesk gs os slave v (came ++ r.gram ∷ []) more (with_mail r ∷ [])
    desk_mail here = record {
      waits = subst (AllBoth (IsFor gs) more) (sym c.left) (subst (AllBoth (IsFor gs) (r ∷ more)) c.waits d.waits).1;
      in_hand = subst (AllBoth (IsFor gs) (with_mail r ∷ [])) (sym (λ i. keyed_in (c.hand i) (c.passing i))) (for_begun gs r k is_for, tt);
      its = λ q e. (came, ap (λ n. came ++ n ∷ []) (let same : with_mail r ≡ q = cc in ap (λ (z : Request). z.gram) same));
      newest = λ p e. (let same : record { key = k.key; mail = k.mail; told = [] } ≡ p = (let all : Some (record { key = k.key; mail = k.mail; told = [] }) ≡ Some p = sym c.hand ∙ e in cc) in
          subst (IsNewest gs slave (came ++ r.gram ∷ []) os) same (record {
            before = came;
            number = r.gram;
            last = refl;
            gram = is_for.of_gram.gram;
            there = is_for.of_gram.there;
            queued = is_for.of_gram.queued ∙ ap Some here;
            asked = is_for.asked;
            request = is_for.request;
            same = is_for.same;
            owed = All-head (IsNew os) r more d.new;
          }));
      new = All-tail (IsNew os) r more d.new;
      many = many;
      ours = All-push (IsOurs gs slave) came r.gram d.ours (record { gram = is_for.of_gram.gram; there = is_for.of_gram.there; queued = is_for.of_gram.queued ∙ ap Some here });
      rising = subst AreRising (sym (append_assoc came (r.gram ∷ []) (grams_of more))) d.rising;
      late = late_stays gs (came ++ r.gram ∷ []) (passed_rows w.lead.lived.life ++ row ∷ []) (passed_rows v.lead.lived.life)
          (both_push (IsLate gs) came (passed_rows w.lead.lived.life) r.gram row d.late (λ g e. all_got (λ (g : GramIn). g.frame ≤ row.frame) gs r.gram g c.early e)) c.stay;
    }

    -- its row is the last of those that were passed on
    pub first_row : (number : ℕ) (asked : Mail) → number ≡ r.gram → is_for.asked ≡ asked → KeepsRow v (came ++ r.gram ∷ []) number asked [] row.frame
    first_row number asked number_is asked_is =
        let at = both_at Stays (passed_rows w.lead.lived.life ++ row ∷ []) (passed_rows v.lead.lived.life) (length came) row c.stay (ap (slice_get (passed_rows w.lead.lived.life ++ row ∷ [])) d.many ∙ at_last (passed_rows w.lead.lived.life) row) in
        record {
          its = record {
            index = length came;
            its = at_last came r.gram ∙ ap Some (sym number_is);
            row = at.0;
            is = at.1;
            mail = k.mail;
            same = subst (λ m. IsSame m k.mail) asked_is is_for.same;
            service = at.2.service ∙ c.its;
            rest = plain emission at.0.heard;
            heard = refl;
          };
          frame = at.2.frame;
        }

    -- what its datagrams got
    pub fares_mail : (done : Bool) (number : ℕ) (asked : Mail) (mails : List Mail) → (gram : GramIn) → slice_get gs number ≡ Some gram → request_in gram.bytes ≡ Ok asked → gave_of v.lead ≡ gave_of w.lead →
        Fares w came (r ∷ more) begun done number gram.frame asked mails → Fares v (came ++ r.gram ∷ []) more (with_mail r ∷ []) done number gram.frame asked mails
    fares_mail done number asked mails gram there request gave (waits a b none e) = go (number == r.gram) refl
      where
        still : NoneSince gram.frame (gave_of v.lead)
        still = subst (NoneSince gram.frame) (sym gave) none

        go : (z : Bool) → (number == r.gram) ≡ z → Fares v (came ++ r.gram ∷ []) more (with_mail r ∷ []) done number gram.frame asked mails
        go false f = waits (sym (in_head number r.gram false f (grams_of more)) ∙ a) b still e
        go true f =
            replies [] kept.its (All-weaker (λ (at : ℕ). at < gram.frame) (λ (at : ℕ). (at < gram.frame) ⊎ (kept.its.row.frame ≤ at)) (λ at less. inl less) (gave_of v.lead) still)
            (subst (StandsSo v (with_mail r ∷ []) number kept.its.row.frame []) (sym b) (inl (in_head number r.gram true f [], since))) e
          where
            number_is : number ≡ r.gram
            number_is = eqb-true number r.gram f

            same_asked : is_for.asked ≡ asked
            same_asked = (let g : is_for.of_gram.gram ≡ gram = (let all : Some is_for.of_gram.gram ≡ Some gram = sym is_for.of_gram.there ∙ ap (slice_get gs) (sym number_is) ∙ there in cc) in
                let both = sym is_for.request ∙ ap (λ (z : GramIn). request_in z.bytes) g ∙ request in cc)

            kept : KeepsRow v (came ++ r.gram ∷ []) number asked [] row.frame
            kept = first_row number asked number_is same_asked

            -- it began no earlier than it was heard
            since : NoneSince kept.its.row.frame (gave_of v.lead)
            since = All-weaker (λ (at : ℕ). at < gram.frame) (λ (at : ℕ). at < kept.its.row.frame)
                (λ at less. (let due : gram.frame ≤ row.frame = all_got (λ (g : GramIn). g.frame ≤ row.frame) gs number gram c.early there in let began = kept.frame in omega (arith, less, due, began))) (gave_of v.lead) still
    fares_mail done number asked mails gram there request gave (dropped a b g e given h) = go (number == r.gram) refl
      where
        go : (z : Bool) → (number == r.gram) ≡ z → Fares v (came ++ r.gram ∷ []) more (with_mail r ∷ []) done number gram.frame asked mails
        go true t = absurd (let bad : true ≡ false = sym (in_head number r.gram true t (grams_of more)) ∙ a in cc)
        go false t =
            dropped (sym (in_head number r.gram false t (grams_of more)) ∙ a) (in_head number r.gram false t []) (in_append number came (r.gram ∷ []) g ∙ in_head number r.gram false t []) e
            (subst (GaveSince gram.frame) (sym gave) given) h
    fares_mail done number asked mails gram there request gave (replies told row' spared stands same) =
        replies_same w v came (came ++ r.gram ∷ []) more begun (with_mail r ∷ []) done number gram.frame asked mails told row' (row_stays w v came (r.gram ∷ []) number asked told (row ∷ []) c.stay row') gave
        (λ here. absurd (let bad : false ≡ true = sym (ap (λ rs. is_in number (grams_of rs)) none) ∙ here in cc)) spared stands same
      where
        none : begun ≡ []
        none = none_begun gs w begun c.free d.in_hand
