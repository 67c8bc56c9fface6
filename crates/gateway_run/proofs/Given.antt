-- WHAT IS TOLD OF THE MAIL IN HAND OF A SLAVE, and a give-up of that slave, as its desk has it.
use Rattle.std.proofs.Common.{◌≡◌, ◌<◌, ◌≤◌, ◌⊎◌, ℕ, suc, Bool, true, false, inr, Option, Some, None, List, [], ◌∷◌, ◌++◌, length, refl, sym, ap, ◌∙◌, subst, append-nil, append_assoc, length-append, arith}
use Rattle.std.specs.Prelude.{cond, filter, slice_get, All, Ok, Err}
use Rattle.std.proofs.lemmas.List.Elements.{All-nil, All-cons, All-push, filter-append}
use Rattle.std.proofs.lemmas.List.Quantifiers.{Any-push}
use Rattle.run_record.specs.of_master_node.Wants.{gave_of}
use Rattle.run_record.specs.of_exchange_model.Rows.{Row}
use Rattle.gateway_core.specs.Framing.{request_in}
use Rattle.run_record.specs.of_served_places.Rows.{Stays, eras_rows, is_passed_row, passed_rows}
use Rattle.run_record.specs.of_life_runs.Served.{Keyed, Serves}
use Rattle.run_record.specs.of_life_runs.Told.{Passed, TellsOwn}
use Rattle.gateway_core.specs.of_mailbox_mail.Mail.{error_of}
use Rattle.gateway_core.specs.of_mailbox_mail.declared.mail.Mail.{Mail}
use Rattle.run_record.specs.of_frame_view.Shares.{AllBoth}
use Rattle.run_record.specs.of_link_mails.Body.{Body}
use Rattle.run_record.specs.of_master_duty.Reply.{Reply}
use Rattle.run_record.specs.of_master_hand.Spoken.{Asked, is_passed}
use Rattle.run_record.specs.of_master_tour.Made.{is_in}
use Rattle.run_record.specs.of_life_model.Lives.{Life}
use Rattle.run_record.specs.of_segment_model.Ends.{Passing}
use Rattle.run_record.specs.of_segment_model.Seats.{newest}
use Rattle.run_record.specs.of_run_book.declared.book.GramIn.{GramIn}
use Rattle.gateway_run.specs.Account.{Owing}
use Rattle.gateway_run.specs.Rooms.{AreRising, grams_of, owed_for}
use Rattle.gateway_run.specs.Replies.{Fares, Fares.dropped, Fares.replies, Fares.waits, HasRow, IsDesk, IsFor, IsNew, IsNewest, IsSame, StandsSo, keyed_in, mails_told}
use Rattle.gateway_run.specs.Since.{GaveSince, NoneSince, SparedBetween}
use Rattle.gateway_run.specs.declared.desk.Request.{Request}
use Rattle.gateway_run.proofs.Befores.{AreBegun}
use Rattle.gateway_run.proofs.Hands.{KeepsRow, all_got, all_in, among_at, at_last, both_many, late_stays, replies_same, rises_apart, rises_first, row_alone, row_same}

pub told_append : (as' bs : List Body) → mails_told (as' ++ bs) ≡ mails_told as' ++ mails_told bs
told_append [] bs = refl
told_append (Ok m ∷ as') bs = ap (λ l. record m { address = 0; counter = 0 } ∷ l) (told_append as' bs)
told_append (Err fault ∷ as') bs = told_append as' bs

-- THE DESK BEHIND WHAT IS TOLD: these are owed besides by the datagram of the mail in hand, and nothing by those that wait
module _ (gs : List GramIn) (slave : ℕ) (w v : Serves) (came : List ℕ) (waiting begun left : List Request) (p : Passed) (new : List Body) (os more : List Owing) where
  pub record IsTold : Type 0 where
    pub waits : v.waits ≡ w.waits
    pub hand : w.hand ≡ Some p
    pub behind : v.hand ≡ Some (record p { told = p.told ++ new })
    pub stay : AllBoth Stays (passed_rows w.lead.lived.life) (passed_rows v.lead.lived.life)
    pub still : (r : Request) → left ≡ r ∷ [] → begun ≡ r ∷ []
    pub in_hand : AllBoth (IsFor gs) left (keyed_in v.hand v.lead.lived.life.era.passing)
    pub owed : (n : IsNewest gs slave came os p) → owed_for n.number (os ++ more) ≡ owed_for n.number os ++ mails_told new
    pub others : All (λ (r : Request). owed_for r.gram (os ++ more) ≡ owed_for r.gram os) waiting

  pub desk_told : IsTold → IsDesk gs os slave w came waiting begun → IsDesk gs (os ++ more) slave v came waiting left
  desk_told t d = record {
    waits = subst (AllBoth (IsFor gs) waiting) (sym t.waits) d.waits;
    in_hand = t.in_hand;
    its = λ r e. d.its r (t.still r e);
    newest = λ q e. (
        let n = d.newest p t.hand in
        let same : record p { told = p.told ++ new } ≡ q = (let all : Some (record p { told = p.told ++ new }) ≡ Some q = sym t.behind ∙ e in cc) in
        subst (IsNewest gs slave came (os ++ more)) same (record {
          before = n.before;
          number = n.number;
          last = n.last;
          gram = n.gram;
          there = n.there;
          queued = n.queued;
          asked = n.asked;
          request = n.request;
          same = n.same;
          owed = t.owed n ∙ ap (λ l. l ++ mails_told new) n.owed ∙ sym (told_append p.told new);
        }));
    new = λ k r less. t.others k r less ∙ d.new k r less;
    many = d.many ∙ both_many Stays (passed_rows w.lead.lived.life) (passed_rows v.lead.lived.life) t.stay;
    ours = d.ours;
    rising = d.rising;
    late = late_stays gs came (passed_rows w.lead.lived.life) (passed_rows v.lead.lived.life) d.late t.stay;
  }

-- A SLAVE IS GIVEN UP: no request of it is left
module _ (gs : List GramIn) (slave : ℕ) (w v : Serves) (came : List ℕ) (waiting begun : List Request) (os more : List Owing) where
  pub desk_gone : v.waits ≡ [] → v.hand ≡ None → AllBoth Stays (passed_rows w.lead.lived.life) (passed_rows v.lead.lived.life) → IsDesk gs os slave w came waiting begun → IsDesk gs (os ++ more) slave v came [] []
  desk_gone none hand stay d = record {
    waits = subst (AllBoth (IsFor gs) []) (sym none) tt;
    in_hand = subst (λ h. AllBoth (IsFor gs) [] (keyed_in h v.lead.lived.life.era.passing)) (sym hand) tt;
    its = λ r e. absurd (cc);
    newest = λ p e. absurd (let bad : None ≡ Some p = sym hand ∙ e in cc);
    new = All-nil (IsNew (os ++ more));
    many = d.many ∙ both_many Stays (passed_rows w.lead.lived.life) (passed_rows v.lead.lived.life) stay;
    ours = d.ours;
    rising = subst AreRising (sym (append-nil came)) (rises_first came (grams_of waiting) d.rising);
    late = late_stays gs came (passed_rows w.lead.lived.life) (passed_rows v.lead.lived.life) d.late stay;
  }

  pub fares_gone : (made : ℕ) (done : Bool) (number heard : ℕ) (asked : Mail) (mails mails' : List Mail) → gave_of v.lead ≡ gave_of w.lead ++ made ∷ [] → heard ≤ made →
      AreBegun (suc made) (passed_rows w.lead.lived.life) → AllBoth Stays (passed_rows w.lead.lived.life) (passed_rows v.lead.lived.life) → IsDesk gs os slave w came waiting begun →
      (is_in number (grams_of waiting) ≡ true → mails' ≡ mails ++ error_of 5 ∷ []) → (is_in number (grams_of waiting) ≡ false → mails' ≡ mails) →
      Fares w came waiting begun done number heard asked mails → Fares v came [] [] done number heard asked mails'
  fares_gone made done number heard asked mails mails' given due early stay d here there f = by f
    where
      -- it was given up since
      since : (frame : ℕ) → frame ≤ made → GaveSince frame (gave_of v.lead)
      since frame less = subst (GaveSince frame) (sym given) (Any-push (λ (at : ℕ). frame ≤ at) (gave_of w.lead) made less)

      not_came : is_in number (grams_of waiting) ≡ true → (z : Bool) → is_in number came ≡ z → z ≡ false
      not_came a false e = refl
      not_came a true e = absurd (let bad : true ≡ false = sym a ∙ rises_apart number came (grams_of waiting) d.rising e in cc)

      by : Fares w came waiting begun done number heard asked mails → Fares v came [] [] done number heard asked mails'
      by (waits a b none c) = dropped refl refl (not_came a (is_in number came) refl) b (since heard due) (here a ∙ ap (λ l. l ++ error_of 5 ∷ []) c)
      by (dropped a b c e before h) = dropped refl refl c e (since heard due) (there a ∙ h)
      by (replies told row spared stands same) =
          replies told kept.its
          (subst (SparedBetween heard kept.its.row.frame) (sym given) (All-push (λ (at : ℕ). (at < heard) ⊎ (kept.its.row.frame ≤ at)) (gave_of w.lead) made (subst (λ n. SparedBetween heard n (gave_of w.lead)) (sym kept.frame) spared) (inr began)))
          (stands_so done stands) (there (rises_apart number came (grams_of waiting) d.rising (among_at number came row.index row.its)) ∙ same)
        where
          kept : KeepsRow v came number asked told row.row.frame
          kept = row_same w v came number asked told stay row

          -- its mail came into hand before
          began : kept.its.row.frame ≤ made
          began = (let less : row.row.frame < suc made = all_got (λ (r : Row Body Asked Reply). r.frame < suc made) (passed_rows w.lead.lived.life) row.index row.row early row.is in let same = kept.frame in omega (arith, less, same))

          stands_so : (z : Bool) → StandsSo w begun number row.row.frame told z → StandsSo v [] number kept.its.row.frame told z
          stands_so true s = s
          stands_so false s = inr (since kept.its.row.frame began)

-- THE ROW OF THE MAIL IN HAND is the last of those that were passed on
pub last_same : {T : Type 0} (xs ys : List T) (x y : T) → xs ++ x ∷ [] ≡ ys ++ y ∷ [] → (x ≡ y) × (length xs ≡ length ys)
last_same [] [] x y e = ((let all = e in cc), refl)
last_same [] (b ∷ ys) x y e = absurd (none ys (let all : [] ≡ ys ++ y ∷ [] = cc in all))
  where
    none : (zs : List _) → [] ≡ zs ++ y ∷ [] → ⊥
    none [] f = cc
    none (z ∷ zs) f = cc
last_same (a ∷ xs) [] x y e = absurd (none xs (let all : xs ++ x ∷ [] ≡ [] = cc in all))
  where
    none : (zs : List _) → zs ++ x ∷ [] ≡ [] → ⊥
    none [] f = cc
    none (z ∷ zs) f = cc
last_same (a ∷ xs) (b ∷ ys) x y e = (let rest : xs ++ x ∷ [] ≡ ys ++ y ∷ [] = cc in let later = last_same xs ys x y rest in (later.0, ap suc later.1))

pub passed_last : (l : Life Body Asked Reply) (row : Row Body Asked Reply) → l.era.side.now ≡ Some row → is_passed row.service ≡ true → (before : List (Row Body Asked Reply)) × (passed_rows l ≡ before ++ row ∷ [])
passed_last l row e p = (
  filter is_passed_row (eras_rows l.past ++ l.era.side.past),
  ap (λ n. filter is_passed_row (eras_rows l.past ++ (l.era.side.past ++ newest n))) e
      ∙ ap (filter is_passed_row) (sym (append_assoc (eras_rows l.past) l.era.side.past (row ∷ [])))
      ∙ filter-append is_passed_row (eras_rows l.past ++ l.era.side.past) (row ∷ [])
      ∙ ap (λ b. filter is_passed_row (eras_rows l.past ++ l.era.side.past) ++ cond b (row ∷ []) []) p,
)

module _ (gs : List GramIn) (slave : ℕ) (v : Serves) (came : List ℕ) (os : List Owing) (p q : Passed) where
  newest_row : (n : IsNewest gs slave came os p) (number : ℕ) (asked : Mail) → number ≡ n.number → n.asked ≡ asked → q.mail ≡ p.mail → length came ≡ length (passed_rows v.lead.lived.life) →
      TellsOwn q v.lead.lived.life.era.passing v.lead.lived.life.era.side.now → HasRow v came number asked q.told
  newest_row n number asked number_is asked_is mail many t =
      let last = passed_last v.lead.lived.life t.row t.is (ap is_passed t.service) in
      let place : length n.before ≡ length last.0 = (
      let a = ap length n.last ∙ length-append n.before (n.number ∷ []) in
      let b = ap length last.1 ∙ length-append last.0 (t.row ∷ []) in
      let c = many in
      omega (arith, a, b, c)) in
      record {
        index = length n.before;
        its = ap (λ ns. slice_get ns (length n.before)) n.last ∙ at_last n.before n.number ∙ ap Some (sym number_is);
        row = t.row;
        is = ap (λ rs. slice_get rs (length n.before)) last.1 ∙ ap (slice_get (last.0 ++ t.row ∷ [])) place ∙ at_last last.0 t.row;
        mail = q.mail;
        same = subst (λ m. IsSame m q.mail) asked_is (subst (IsSame n.asked) (sym mail) n.same);
        service = t.service;
        rest = t.rest;
        heard = t.heard;
      }

-- WHAT ITS DATAGRAMS GOT behind what is told
module _ (gs : List GramIn) (slave : ℕ) (w v : Serves) (came : List ℕ) (waiting begun left : List Request) (p : Passed) (new : List Body) (os more : List Owing) where
  one_begun : IsDesk gs os slave w came waiting begun → (number : ℕ) → is_in number (grams_of begun) ≡ true → (r : Request) × (begun ≡ r ∷ []) × (number ≡ r.gram)
  one_begun d number e = go begun (keyed_in w.hand w.lead.lived.life.era.passing) d.in_hand e (few w.hand w.lead.lived.life.era.passing)
    where
      IsFew : List Keyed → Type 0
      IsFew ks = (k : Keyed) (l : Keyed) (more : List Keyed) → ks ≡ k ∷ (l ∷ more) → ⊥

      few : (hand : Option Passed) (passing : Option Passing) → IsFew (keyed_in hand passing)
      few None passing = λ k l ks f. cc
      few (Some p) None = λ k l ks f. cc
      few (Some p) (Some q) = λ k l ks f. cc

      go : (rs : List Request) (ks : List Keyed) → AllBoth (IsFor gs) rs ks → is_in number (grams_of rs) ≡ true → IsFew ks → (r : Request) × (rs ≡ r ∷ []) × (number ≡ r.gram)
      go [] ks a f few = absurd (cc)
      go (r ∷ rs) [] a f few = absurd a
      go (r ∷ []) (k ∷ ks) a f few = (r, refl, all_in (λ n. n ≡ r.gram) number (r.gram ∷ []) (All-cons (λ n. n ≡ r.gram) r.gram [] refl (All-nil (λ n. n ≡ r.gram))) f)
      go (r ∷ (s ∷ rs)) (k ∷ []) a f few = absurd a.1
      go (r ∷ (s ∷ rs)) (k ∷ (l ∷ ks)) a f few = absurd (few k l ks refl)

  pub fares_told : IsTold gs slave w v came waiting begun left p new os more → IsDesk gs os slave w came waiting begun → (done done' : Bool) (number : ℕ) (asked : Mail) (gram : GramIn) → slice_get gs number ≡ Some gram → request_in gram.bytes ≡ Ok asked →
      gave_of v.lead ≡ gave_of w.lead → TellsOwn (record p { told = p.told ++ new }) v.lead.lived.life.era.passing v.lead.lived.life.era.side.now →
      ((began : ℕ) (told : List Body) → is_in number (grams_of begun) ≡ true → StandsSo w begun number began told done → StandsSo v left number began (p.told ++ new) done') →
      (is_in number (grams_of begun) ≡ false → (owed_for number (os ++ more) ≡ owed_for number os) × (done' ≡ done) × (is_in number (grams_of left) ≡ false)) →
      Fares w came waiting begun done number gram.frame asked (owed_for number os) → Fares v came waiting left done' number gram.frame asked (owed_for number (os ++ more))
  fares_told t d done done' number asked gram there request gave own here off f = by f (is_in number (grams_of begun)) refl
    where
      last : IsNewest gs slave came os p
      last = d.newest p t.hand

      -- it is the newest
      its : is_in number (grams_of begun) ≡ true → number ≡ last.number
      its e = (let one = one_begun d number e in let o = d.its one.0 one.1 in one.2 ∙ (last_same o.0 last.before one.0.gram last.number (sym o.1 ∙ last.last)).0)

      not_waiting : is_in number (grams_of begun) ≡ true → is_in number (grams_of waiting) ≡ false
      not_waiting e = rises_apart number came (grams_of waiting) d.rising (among_at number came (length last.before) (ap (λ ns. slice_get ns (length last.before)) last.last ∙ at_last last.before last.number ∙ ap Some (sym (its e))))

      same_asked : is_in number (grams_of begun) ≡ true → last.asked ≡ asked
      same_asked e =
          let g : last.gram ≡ gram = (let all : Some last.gram ≡ Some gram = sym last.there ∙ ap (slice_get gs) (sym (its e)) ∙ there in cc) in
          let both : Ok last.asked ≡ Ok asked = sym last.request ∙ ap (λ (z : GramIn). request_in z.bytes) g ∙ request in
          cc

      -- its row is the newest
      in_hand : is_in number (grams_of begun) ≡ true → (told : List Body) (row : HasRow w came number asked told) → SparedBetween gram.frame row.row.frame (gave_of w.lead) → StandsSo w begun number row.row.frame told done →
          Fares v came waiting left done' number gram.frame asked (owed_for number (os ++ more))
      in_hand e told row spared stands =
          replies (p.told ++ new) now
          (subst (λ n. SparedBetween gram.frame n (gave_of v.lead)) (sym began) (subst (SparedBetween gram.frame row.row.frame) (sym gave) spared))
          (subst (λ n. StandsSo v left number n (p.told ++ new) done') (sym began) (here row.row.frame told e stands))
          (ap (λ n. owed_for n (os ++ more)) (its e) ∙ t.owed last ∙ ap (λ l. l ++ mails_told new) last.owed ∙ sym (told_append p.told new))
        where
          now : HasRow v came number asked (p.told ++ new)
          now = newest_row gs slave v came os p (record p { told = p.told ++ new }) last number asked (its e) (same_asked e) refl (d.many ∙ both_many Stays (passed_rows w.lead.lived.life) (passed_rows v.lead.lived.life) t.stay) own

          began : now.row.frame ≡ row.row.frame
          began = (let kept = row_same w v came number asked told t.stay row in
              ap (λ (r : Row Body Asked Reply). r.frame) (row_alone v came number asked asked (p.told ++ new) told (rises_first came (grams_of waiting) d.rising) now kept.its) ∙ kept.frame)

      by : Fares w came waiting begun done number gram.frame asked (owed_for number os) → (b : Bool) → is_in number (grams_of begun) ≡ b → Fares v came waiting left done' number gram.frame asked (owed_for number (os ++ more))
      by (waits a b none c) true e = absurd (let bad : true ≡ false = sym a ∙ not_waiting e in cc)
      by (waits a b none c) false e = (let o = off e in waits a (o.1 ∙ b) (subst (NoneSince gram.frame) (sym gave) none) (o.0 ∙ c))
      by (dropped a b c x given z) true e = absurd (let bad : true ≡ false = sym e ∙ b in cc)
      by (dropped a b c x given z) false e = (let o = off e in dropped a o.2 c (o.1 ∙ x) (subst (GaveSince gram.frame) (sym gave) given) (o.0 ∙ z))
      by (replies told row spared stands same) true e = in_hand e told row spared stands
      by (replies told row spared stands same) false e =
          let o = off e in
          subst (λ z. Fares v came waiting left z number gram.frame asked (owed_for number (os ++ more))) (sym o.1)
          (replies_same w v came came waiting begun left done number gram.frame asked (owed_for number (os ++ more)) told row (row_same w v came number asked told t.stay row) gave
          (λ h. absurd (let bad : true ≡ false = sym h ∙ e in cc)) spared stands (o.0 ∙ same))
