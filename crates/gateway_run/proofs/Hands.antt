-- WHAT COMES INTO HAND OF A SLAVE, AND WHAT IS TOLD OF IT, as its desk has it.
use Rattle.std.proofs.Common.{◌≡◌, ℕ, zero, suc, ◌<◌, ◌≤◌, Bool, true, false, inl, inr, Option, Some, None, List, [], ◌∷◌, ◌++◌, length, refl, sym, ap, ◌∙◌, subst, eq-eqb, eqb-true, append_assoc, arith}
use Rattle.std.specs.Prelude.{◌==◌, if◌then◌else◌, slice_get, All}
use Rattle.std.proofs.lemmas.List.Elements.{All-nil, All-head, All-tail, All-cons, All-push, All-weaker}
use Rattle.run_record.specs.of_master_node.Wants.{gave_of}
use Rattle.run_record.specs.of_exchange_model.Exchange.{plain}
use Rattle.run_record.specs.of_exchange_model.Rows.{Row}
use Rattle.run_record.proofs.of_exchange_model.Words.{plain-append}
use Rattle.run_record.specs.of_served_places.Rows.{Stays, passed_rows}
use Rattle.run_record.specs.of_life_runs.Served.{Serves}
use Rattle.run_record.specs.of_life_runs.Told.{Passed}
use Rattle.gateway_core.specs.of_mailbox_mail.declared.mail.Mail.{Mail}
use Rattle.run_record.specs.of_frame_view.Shares.{AllBoth}
use Rattle.run_record.specs.of_link_mails.Body.{Body}
use Rattle.run_record.specs.of_master_duty.Reply.{Reply}
use Rattle.run_record.specs.of_master_hand.Spoken.{Asked, emission}
use Rattle.run_record.specs.of_master_tour.Made.{is_in}
use Rattle.run_record.specs.of_run_book.declared.book.GramIn.{GramIn}
use Rattle.gateway_run.specs.Account.{Owing}
use Rattle.gateway_run.specs.Rooms.{AreRising, grams_of}
use Rattle.gateway_run.specs.Replies.{Fares, Fares.dropped, Fares.replies, Fares.waits, HasRow, IsDesk, IsFor, IsLate, StandsSo, keyed_in, mails_told}
use Rattle.gateway_run.specs.Since.{GaveSince, NoneSince, SparedBetween}
use Rattle.gateway_run.specs.declared.desk.Request.{Request}
use Rattle.gateway_run.proofs.Accounts.{get_on}

-- LISTS THAT GO PLACE BY PLACE have one length
pub both_many : {S T : Type 0} (P : S → T → Type 0) (xs : List S) (ys : List T) → AllBoth P xs ys → length xs ≡ length ys
both_many P [] [] a = refl
both_many P [] (y ∷ ys) a = absurd a
both_many P (x ∷ xs) [] a = absurd a
both_many P (x ∷ xs) (y ∷ ys) a = ap suc (both_many P xs ys a.1)

-- and what stands at a place of the first stands there in the second so
pub both_at : {S T : Type 0} (P : S → T → Type 0) (xs : List S) (ys : List T) (k : ℕ) (x : S) → AllBoth P xs ys → slice_get xs k ≡ Some x → (y : T) × (slice_get ys k ≡ Some y) × P x y
both_at P [] ys k x a e = absurd (cc)
both_at P (x' ∷ xs) [] k x a e = absurd a
both_at P (x' ∷ xs) (y ∷ ys) zero x a e = (y, refl, subst (λ z. P z y) (let same : x' ≡ x = cc in same) a.0)
both_at P (x' ∷ xs) (y ∷ ys) (suc k) x a e = both_at P xs ys k x a.1 e

pub both_along : {S T U : Type 0} (P : S → T → Type 0) (Q : T → U → Type 0) (R : S → U → Type 0) → ((x : S) (y : T) (z : U) → P x y → Q y z → R x z) → (xs : List S) (ys : List T) (zs : List U) → AllBoth P xs ys → AllBoth Q ys zs → AllBoth R xs zs
both_along P Q R h [] [] [] a b = tt
both_along P Q R h [] [] (z ∷ zs) a b = absurd b
both_along P Q R h [] (y ∷ ys) zs a b = absurd a
both_along P Q R h (x ∷ xs) [] zs a b = absurd a
both_along P Q R h (x ∷ xs) (y ∷ ys) [] a b = absurd b
both_along P Q R h (x ∷ xs) (y ∷ ys) (z ∷ zs) a b = (h x y z a.0 b.0, both_along P Q R h xs ys zs a.1 b.1)

pub both_push : {S T : Type 0} (P : S → T → Type 0) (xs : List S) (ys : List T) (x : S) (y : T) → AllBoth P xs ys → P x y → AllBoth P (xs ++ x ∷ []) (ys ++ y ∷ [])
both_push P [] [] x y a p = (p, tt)
both_push P [] (z ∷ ys) x y a p = absurd a
both_push P (z ∷ xs) [] x y a p = absurd a
both_push P (z ∷ xs) (u ∷ ys) x y a p = (a.0, both_push P xs ys x y a.1 p)

-- rows that stay began when they did
pub late_stays : (gs : List GramIn) (came : List ℕ) (rows rows' : List (Row Body Asked Reply)) → AllBoth (IsLate gs) came rows → AllBoth Stays rows rows' → AllBoth (IsLate gs) came rows'
late_stays gs came rows rows' late stay = both_along (IsLate gs) Stays (IsLate gs) (λ n r s l k g e. subst (λ m. g.frame ≤ m) (sym k.frame) (l g e)) came rows rows' late stay

pub all_got : {T : Type 0} (P : T → Type 0) (xs : List T) (k : ℕ) (x : T) → All P xs → slice_get xs k ≡ Some x → P x
all_got P [] k x a e = absurd (cc)
all_got P (y ∷ xs) zero x a e = subst P (let same : y ≡ x = cc in same) (All-head P y xs a)
all_got P (y ∷ xs) (suc k) x a e = all_got P xs k x (All-tail P y xs a) e

-- NUMBERS THAT RISE
pub rises_on : (ns : List ℕ) (n : ℕ) → AreRising ns → All (λ m. m < n) ns → AreRising (ns ++ n ∷ [])
rises_on [] n r below = (All-nil (λ m. n < m), tt)
rises_on (m ∷ ns) n r below = (All-push (λ k. m < k) ns n r.0 (All-head (λ k. k < n) m ns below), rises_on ns n r.1 (All-tail (λ k. k < n) m ns below))

pub all_left : (P : ℕ → Type 0) (ns ms : List ℕ) → All P (ns ++ ms) → All P ns
all_left P [] ms a = All-nil P
all_left P (n ∷ ns) ms a = All-cons P n ns (All-head P n (ns ++ ms) a) (all_left P ns ms (All-tail P n (ns ++ ms) a))

pub rises_first : (ns ms : List ℕ) → AreRising (ns ++ ms) → AreRising ns
rises_first [] ms r = tt
rises_first (n ∷ ns) ms r = (all_left (λ m. n < m) ns ms r.0, rises_first ns ms r.1)

-- of numbers that rise each stands at one place
rises_at : (ns : List ℕ) (i j n : ℕ) → AreRising ns → slice_get ns i ≡ Some n → slice_get ns j ≡ Some n → i ≡ j
rises_at [] i j n r a b = absurd (cc)
rises_at (m ∷ ns) zero zero n r a b = refl
rises_at (m ∷ ns) zero (suc j) n r a b = absurd (let less : m < n = all_got (λ k. m < k) ns j n r.0 b in let same : m ≡ n = cc in omega (arith, less, same))
rises_at (m ∷ ns) (suc i) zero n r a b = absurd (let less : m < n = all_got (λ k. m < k) ns i n r.0 a in let same : m ≡ n = cc in omega (arith, less, same))
rises_at (m ∷ ns) (suc i) (suc j) n r a b = ap suc (rises_at ns i j n r.1 a b)

-- one that is among these
pub in_head : (n m : ℕ) (b : Bool) → (n == m) ≡ b → (ns : List ℕ) → is_in n (m ∷ ns) ≡ (if b then true else is_in n ns)
in_head n m b e ns = ap (λ z. if z then true else is_in n ns) e

pub all_in : (P : ℕ → Type 0) (n : ℕ) (ns : List ℕ) → All P ns → is_in n ns ≡ true → P n
all_in P n [] a e = absurd (cc)
all_in P n (m ∷ ns) a e = go (n == m) refl (λ f. all_in P n ns (All-tail P m ns a) f)
  where
    go : (b : Bool) → (n == m) ≡ b → (is_in n ns ≡ true → P n) → P n
    go true f on = subst P (sym (eqb-true n m f)) (All-head P m ns a)
    go false f on = on (sym (in_head n m false f ns) ∙ e)

pub in_append : (n : ℕ) (ns ms : List ℕ) → is_in n ns ≡ false → is_in n (ns ++ ms) ≡ is_in n ms
in_append n [] ms e = refl
in_append n (m ∷ ns) ms e = go (n == m) refl (λ f. in_append n ns ms f)
  where
    go : (b : Bool) → (n == m) ≡ b → (is_in n ns ≡ false → is_in n (ns ++ ms) ≡ is_in n ms) → is_in n ((m ∷ ns) ++ ms) ≡ is_in n ms
    go true f on = absurd (let bad : true ≡ false = sym (in_head n m true f ns) ∙ e in cc)
    go false f on = in_head n m false f (ns ++ ms) ∙ on (sym (in_head n m false f ns) ∙ e)

in_front : (n : ℕ) (ns ms : List ℕ) → is_in n ns ≡ true → is_in n (ns ++ ms) ≡ true
in_front n [] ms e = absurd (cc)
in_front n (m ∷ ns) ms e = go (n == m) refl (λ f. in_front n ns ms f)
  where
    go : (b : Bool) → (n == m) ≡ b → (is_in n ns ≡ true → is_in n (ns ++ ms) ≡ true) → is_in n ((m ∷ ns) ++ ms) ≡ true
    go true f on = in_head n m true f (ns ++ ms)
    go false f on = in_head n m false f (ns ++ ms) ∙ on (sym (in_head n m false f ns) ∙ e)

pub in_back : (n : ℕ) (ns ms : List ℕ) → is_in n ms ≡ true → is_in n (ns ++ ms) ≡ true
in_back n ns ms e = go (is_in n ns) refl
  where
    go : (b : Bool) → is_in n ns ≡ b → is_in n (ns ++ ms) ≡ true
    go true f = in_front n ns ms f
    go false f = in_append n ns ms f ∙ e

-- of those that rise none stands twice
pub rises_apart : (n : ℕ) (ns ms : List ℕ) → AreRising (ns ++ ms) → is_in n ns ≡ true → is_in n ms ≡ false
rises_apart n [] ms r e = absurd (cc)
rises_apart n (m ∷ ns) ms r e = go (n == m) refl (λ f. rises_apart n ns ms r.1 f)
  where
    none : (b : Bool) → is_in n ms ≡ b → (n == m) ≡ true → b ≡ false
    none false g f = refl
    none true g f = absurd (let less : m < n = all_in (λ k. m < k) n (ns ++ ms) r.0 (in_back n ns ms g) in let same = eqb-true n m f in omega (arith, less, same))

    go : (b : Bool) → (n == m) ≡ b → (is_in n ns ≡ true → is_in n ms ≡ false) → is_in n ms ≡ false
    go true f on = none (is_in n ms) refl f
    go false f on = on (sym (in_head n m false f ns) ∙ e)

pub among_at : (number : ℕ) (ns : List ℕ) (k : ℕ) → slice_get ns k ≡ Some number → is_in number ns ≡ true
among_at number [] k e = absurd (cc)
among_at number (n ∷ ns) zero e = in_head number n true (eq-eqb number n (let same : n ≡ number = cc in sym same)) ns
among_at number (n ∷ ns) (suc k) e = in_back number (n ∷ []) ns (among_at number ns k e)

-- each is among all
pub all_among : (qs : List Request) → All (λ (r : Request). is_in r.gram (grams_of qs) ≡ true) qs
all_among [] = All-nil (λ (r : Request). is_in r.gram [] ≡ true)
all_among (q ∷ qs) =
    All-cons (λ (r : Request). is_in r.gram (grams_of (q ∷ qs)) ≡ true) q qs (in_head q.gram q.gram true (eq-eqb q.gram q.gram refl) (grams_of qs))
    (All-weaker (λ (r : Request). is_in r.gram (grams_of qs) ≡ true) (λ (r : Request). is_in r.gram (grams_of (q ∷ qs)) ≡ true) (λ r e. in_back r.gram (q.gram ∷ []) (grams_of qs) e) qs (all_among qs))

pub at_last : {T : Type 0} (xs : List T) (y : T) → slice_get (xs ++ y ∷ []) (length xs) ≡ Some y
at_last [] y = refl
at_last (x ∷ xs) y = at_last xs y

-- THE ROW OF A DATAGRAM stays its row, and began when it did
pub record KeepsRow (v : Serves) (came : List ℕ) (number : ℕ) (asked : Mail) (told : List Body) (began : ℕ) : Type 0 where
  pub its : HasRow v came number asked told
  pub frame : its.row.frame ≡ began

row_kept : (w v : Serves) (came now : List ℕ) (number : ℕ) (asked : Mail) (told : List Body) (h : HasRow w came number asked told) → slice_get now h.index ≡ Some number →
    (row : Row Body Asked Reply) → slice_get (passed_rows v.lead.lived.life) h.index ≡ Some row → Stays h.row row → KeepsRow v now number asked told h.row.frame
row_kept w v came now number asked told h its row is stays = record {
  its = record {
    index = h.index;
    its = its;
    row = row;
    is = is;
    mail = h.mail;
    same = h.same;
    service = stays.service ∙ h.service;
    rest = h.rest ++ plain emission stays.more;
    heard = ap (plain emission) stays.heard ∙ plain-append emission h.row.heard stays.more ∙ ap (λ l. l ++ plain emission stays.more) h.heard ∙ append_assoc told h.rest (plain emission stays.more);
  };
  frame = stays.frame;
}

pub row_stays : (w v : Serves) (came more : List ℕ) (number : ℕ) (asked : Mail) (told : List Body) (rows : List (Row Body Asked Reply)) → AllBoth Stays (passed_rows w.lead.lived.life ++ rows) (passed_rows v.lead.lived.life) →
    (h : HasRow w came number asked told) → KeepsRow v (came ++ more) number asked told h.row.frame
row_stays w v came more number asked told rows stay h =
    let at = both_at Stays (passed_rows w.lead.lived.life ++ rows) (passed_rows v.lead.lived.life) h.index h.row stay (get_on (passed_rows w.lead.lived.life) rows h.index h.row h.is) in
    row_kept w v came (came ++ more) number asked told h (get_on came more h.index number h.its) at.0 at.1 at.2

pub row_same : (w v : Serves) (came : List ℕ) (number : ℕ) (asked : Mail) (told : List Body) → AllBoth Stays (passed_rows w.lead.lived.life) (passed_rows v.lead.lived.life) →
    (h : HasRow w came number asked told) → KeepsRow v came number asked told h.row.frame
row_same w v came number asked told stay h =
    let at = both_at Stays (passed_rows w.lead.lived.life) (passed_rows v.lead.lived.life) h.index h.row stay h.is in
    row_kept w v came came number asked told h h.its at.0 at.1 at.2

-- and it has one alone
pub row_alone : (v : Serves) (came : List ℕ) (number : ℕ) (asked asked' : Mail) (told told' : List Body) → AreRising came → (a : HasRow v came number asked told) (b : HasRow v came number asked' told') → a.row ≡ b.row
row_alone v came number asked asked' told told' rising a b =
    let place : a.index ≡ b.index = rises_at came a.index b.index number rising a.its b.its in
    let same : Some a.row ≡ Some b.row = sym a.is ∙ ap (slice_get (passed_rows v.lead.lived.life)) place ∙ b.is in
    cc

-- WHERE THE SLAVE WASN'T GIVEN UP MEANWHILE its row stands as it did, while its request is left
pub stands_same : (w v : Serves) (begun left : List Request) (number began : ℕ) (told : List Body) (done : Bool) → gave_of v.lead ≡ gave_of w.lead → (is_in number (grams_of begun) ≡ true → is_in number (grams_of left) ≡ true) →
    StandsSo w begun number began told done → StandsSo v left number began told done
stands_same w v begun left number began told true same still s = s
stands_same w v begun left number began told false same still (inl here) = inl (still here.0, subst (NoneSince began) (sym same) here.1)
stands_same w v begun left number began told false same still (inr given) = inr (subst (GaveSince began) (sym same) given)

-- one that isn't done does whatever is told of it
pub stands_undone : (w v : Serves) (begun left : List Request) (number began : ℕ) (told more : List Body) (done done' : Bool) → done ≡ false → done' ≡ false → gave_of v.lead ≡ gave_of w.lead → (is_in number (grams_of begun) ≡ true → is_in number (grams_of left) ≡ true) →
    StandsSo w begun number began told done → StandsSo v left number began more done'
stands_undone w v begun left number began told more done done' undone off same still s =
    subst (StandsSo v left number began more) (sym off) (stands_same w v begun left number began told false same still (subst (StandsSo w begun number began told) undone s))

-- so it has the first of its replies
pub replies_same : (w v : Serves) (came now : List ℕ) (waiting begun left : List Request) (done : Bool) (number heard : ℕ) (asked : Mail) (mails : List Mail) (told : List Body) (row : HasRow w came number asked told) → KeepsRow v now number asked told row.row.frame →
    gave_of v.lead ≡ gave_of w.lead → (is_in number (grams_of begun) ≡ true → is_in number (grams_of left) ≡ true) → SparedBetween heard row.row.frame (gave_of w.lead) → StandsSo w begun number row.row.frame told done → mails ≡ mails_told told →
    Fares v now waiting left done number heard asked mails
replies_same w v came now waiting begun left done number heard asked mails told row kept same still spared stands are =
    replies told kept.its (subst (λ n. SparedBetween heard n (gave_of v.lead)) (sym kept.frame) (subst (SparedBetween heard row.row.frame) (sym same) spared))
    (subst (λ n. StandsSo v left number n told done) (sym kept.frame) (stands_same w v begun left number row.row.frame told done same still stands)) are

-- NOTHING COMES INTO HAND, or a service of its own: its desk stays, where what is passed on stays
pub keyed_none : (hand : Option Passed) → keyed_in hand None ≡ []
keyed_none None = refl
keyed_none (Some p) = refl

module _ (gs : List GramIn) (slave : ℕ) (w v : Serves) (came : List ℕ) (waiting begun : List Request) where
  pub desk_same : (os : List Owing) → v.waits ≡ w.waits → keyed_in v.hand v.lead.lived.life.era.passing ≡ keyed_in w.hand w.lead.lived.life.era.passing → ((p : Passed) → v.hand ≡ Some p → w.hand ≡ Some p) →
      AllBoth Stays (passed_rows w.lead.lived.life) (passed_rows v.lead.lived.life) → IsDesk gs os slave w came waiting begun → IsDesk gs os slave v came waiting begun
  desk_same os same keyed hand stay d = record {
    waits = subst (AllBoth (IsFor gs) waiting) (sym same) d.waits;
    in_hand = subst (AllBoth (IsFor gs) begun) (sym keyed) d.in_hand;
    its = d.its;
    newest = λ p e. d.newest p (hand p e);
    new = d.new;
    many = d.many ∙ both_many Stays (passed_rows w.lead.lived.life) (passed_rows v.lead.lived.life) stay;
    ours = d.ours;
    rising = d.rising;
    late = late_stays gs came (passed_rows w.lead.lived.life) (passed_rows v.lead.lived.life) d.late stay;
  }

  pub fares_same : (done : Bool) (number heard : ℕ) (asked : Mail) (mails : List Mail) → gave_of v.lead ≡ gave_of w.lead → AllBoth Stays (passed_rows w.lead.lived.life) (passed_rows v.lead.lived.life) →
      Fares w came waiting begun done number heard asked mails → Fares v came waiting begun done number heard asked mails
  fares_same done number heard asked mails same stay (waits a b none c) = waits a b (subst (NoneSince heard) (sym same) none) c
  fares_same done number heard asked mails same stay (dropped a b c d given f) = dropped a b c d (subst (GaveSince heard) (sym same) given) f
  fares_same done number heard asked mails same stay (replies told row spared stands are) =
      replies_same w v came came waiting begun begun done number heard asked mails told row (row_same w v came number asked told stay row) same (λ here. here) spared stands are
