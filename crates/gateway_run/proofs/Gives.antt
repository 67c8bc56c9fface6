-- WHAT WAS OWED FOR THE DATAGRAMS WHOSE MAILS CAME INTO HAND of a slave, and which of these mails are over, step by step.
use Rattle.std.proofs.Common.{◌≡◌, ◌<◌, ℕ, zero, suc, Bool, true, false, Option, Some, None, List, [], ◌∷◌, ◌++◌, length, map, refl, sym, ap, ◌∙◌, eq-eqb}
use Rattle.std.specs.Prelude.{slice_get, All}
use Rattle.std.proofs.lemmas.List.{map-append}
use Rattle.std.proofs.lemmas.List.Elements.{All-nil, All-cons, All-head, All-tail, All-weaker}
use Rattle.run_record.proofs.of_served_places.Hears.{last_none, last_push}
use Rattle.run_record.proofs.of_served_places.Stay.{StaysOver}
use Rattle.run_record.specs.of_served_places.Rows.{last_more, passed_rows, passings, replies_of}
use Rattle.run_record.specs.of_life_runs.Served.{Keyed, Serves, asked_at}
use Rattle.gateway_core.specs.of_mailbox_mail.declared.mail.Mail.{Mail}
use Rattle.run_record.specs.of_frame_view.Shares.{AllBoth}
use Rattle.run_record.specs.of_link_mails.Body.{Body}
use Rattle.run_record.specs.of_master_tour.Made.{is_in}
use Rattle.run_record.specs.of_segment_model.Ends.{Passing}
use Rattle.run_record.specs.of_run_book.declared.book.GramIn.{GramIn}
use Rattle.gateway_run.specs.Account.{Owing}
use Rattle.gateway_run.specs.Replies.{AllDesk, GivesAll, mails_told, owed_in}
use Rattle.gateway_run.specs.Rooms.{AreRising, owed_for}
use Rattle.gateway_run.specs.declared.desk.Request.{Request}
use Rattle.gateway_run.proofs.Comes.{ours_known}
use Rattle.gateway_run.proofs.Given.{told_append}
use Rattle.gateway_run.proofs.Hands.{both_along, both_push, in_back, in_head}

-- what is told besides of the last
told_last : (new : List Body) (xs : List (List Body)) → map mails_told (last_more new xs) ≡ last_more (mails_told new) (map mails_told xs)
told_last new [] = refl
told_last new (x ∷ []) = ap (λ m. m ∷ []) (told_append x new)
told_last new (x ∷ (y ∷ xs)) = ap (λ l. mails_told x ∷ l) (told_last new (y ∷ xs))

-- each of these numbers is among them
pub each_among : (ns : List ℕ) → All (λ n. is_in n ns ≡ true) ns
each_among [] = All-nil (λ n. is_in n [] ≡ true)
each_among (n ∷ ns) =
    All-cons (λ k. is_in k (n ∷ ns) ≡ true) n ns (in_head n n true (eq-eqb n n refl) ns)
    (All-weaker (λ k. is_in k ns ≡ true) (λ k. is_in k (n ∷ ns) ≡ true) (λ k e. among k n ns e) ns (each_among ns))
  where
    among : (k n : ℕ) (ns : List ℕ) → is_in k ns ≡ true → is_in k (n ∷ ns) ≡ true
    among k n ns e = in_back k (n ∷ []) ns e

-- those before the last of numbers that rise are less
last_less : (m n : ℕ) (ns : List ℕ) → All (λ k. m < k) (ns ++ n ∷ []) → m < n
last_less m n [] a = All-head (λ k. m < k) n [] a
last_less m n (k ∷ ns) a = last_less m n ns (All-tail (λ k. m < k) k (ns ++ n ∷ []) a)

pub rises_less : (ns : List ℕ) (n : ℕ) → AreRising (ns ++ n ∷ []) → All (λ m. m < n) ns
rises_less [] n r = All-nil (λ m. m < n)
rises_less (m ∷ ns) n r = All-cons (λ m. m < n) m ns (last_less m n ns r.0) (rises_less ns n r.1)

-- WHAT IS OWED FOR EACH, where nothing is owed for them besides, or for the last alone
pub owed_same : (os now : List Owing) (came : List ℕ) → All (λ n. owed_for n now ≡ owed_for n os) came → owed_in now came ≡ owed_in os came
owed_same os now [] a = refl
owed_same os now (n ∷ came) a = (λ i. All-head (λ n. owed_for n now ≡ owed_for n os) n came a i ∷ owed_same os now came (All-tail (λ n. owed_for n now ≡ owed_for n os) n came a) i)

pub owed_none_more : (os now : List Owing) (came : List ℕ) (more : List Mail) → more ≡ [] → All (λ n. owed_for n now ≡ owed_for n os) came → owed_in now came ≡ last_more more (owed_in os came)
owed_none_more os now came more e a = owed_same os now came a ∙ sym (ap (λ m. last_more m (owed_in os came)) e ∙ last_none (owed_in os came))

pub owed_last_more : (os now : List Owing) (came before : List ℕ) (number : ℕ) (more : List Mail) → came ≡ before ++ number ∷ [] → All (λ n. owed_for n now ≡ owed_for n os) before → owed_for number now ≡ owed_for number os ++ more →
    owed_in now came ≡ last_more more (owed_in os came)
owed_last_more os now came before number more e a last =
    ap (owed_in now) e ∙ map-append (λ (n : ℕ). owed_for n now) before (number ∷ []) ∙ (λ i. owed_same os now before a i ++ last i ∷ [])
    ∙ sym (ap (λ ns. last_more more (owed_in os ns)) e ∙ ap (last_more more) (map-append (λ (n : ℕ). owed_for n os) before (number ∷ [])) ∙ last_push more (owed_for number os) (owed_in os before))

-- WHICH ARE OVER
abbrev pub OverIf : (ℕ → Bool) → ℕ → Option Passing → Type 0
OverIf done n p = done n ≡ true → p ≡ None

pub over_same : (done done' : ℕ → Bool) (came : List ℕ) (ps qs : List (Option Passing)) → All (λ n. done' n ≡ done n) came → AllBoth (OverIf done) came ps → AllBoth StaysOver ps qs → AllBoth (OverIf done') came qs
over_same done done' [] [] [] same a b = tt
over_same done done' [] [] (q ∷ qs) same a b = absurd b
over_same done done' [] (p ∷ ps) qs same a b = absurd a
over_same done done' (n ∷ came) [] qs same a b = absurd a
over_same done done' (n ∷ came) (p ∷ ps) [] same a b = absurd b
over_same done done' (n ∷ came) (p ∷ ps) (q ∷ qs) same a b = (
  λ e. b.0 (a.0 (sym (All-head (λ n. done' n ≡ done n) n came same) ∙ e)),
  over_same done done' came ps qs (All-tail (λ n. done' n ≡ done n) n came same) a.1 b.1,
)

pub over_last : (done done' : ℕ → Bool) (before : List ℕ) (number : ℕ) (ps qs : List (Option Passing)) → All (λ n. done' n ≡ done n) before → AllBoth (OverIf done) (before ++ number ∷ []) ps → AllBoth StaysOver ps qs → slice_get qs (length before) ≡ Some None →
    AllBoth (OverIf done') (before ++ number ∷ []) qs
over_last done done' [] number [] qs same a b last = absurd a
over_last done done' [] number (p ∷ ps) [] same a b last = absurd b
over_last done done' [] number (p ∷ []) (q ∷ []) same a b last = (λ e. (let is : q ≡ None = cc in is), tt)
over_last done done' [] number (p ∷ []) (q ∷ (s ∷ qs)) same a b last = absurd b.1
over_last done done' [] number (p ∷ (r ∷ ps)) (q ∷ qs) same a b last = absurd a.1
over_last done done' (n ∷ before) number [] qs same a b last = absurd a
over_last done done' (n ∷ before) number (p ∷ ps) [] same a b last = absurd b
over_last done done' (n ∷ before) number (p ∷ ps) (q ∷ qs) same a b last = (
  λ e. b.0 (a.0 (sym (All-head (λ n. done' n ≡ done n) n before same) ∙ e)),
  over_last done done' before number ps qs (All-tail (λ n. done' n ≡ done n) n before same) a.1 b.1 last,
)

module _ (os : List Owing) (done : ℕ → Bool) (w v : Serves) (came : List ℕ) where
  -- NOTHING IS HEARD, and no mail comes into hand
  pub gives_same : replies_of (passed_rows v.lead.lived.life) ≡ replies_of (passed_rows w.lead.lived.life) → AllBoth StaysOver (passings w.lead.lived.life) (passings v.lead.lived.life) → GivesAll os done w came → GivesAll os done v came
  gives_same e over g = record {
    heard = g.heard ∙ ap (map mails_told) (sym e);
    over = both_along (OverIf done) StaysOver (OverIf done) (λ n p q a b e. b (a e)) came (passings w.lead.lived.life) (passings v.lead.lived.life) g.over over;
  }

  -- A MAIL COMES INTO HAND: nothing was owed for its datagram
  pub gives_mail : (number : ℕ) → owed_for number os ≡ [] → done number ≡ false → replies_of (passed_rows v.lead.lived.life) ≡ replies_of (passed_rows w.lead.lived.life) ++ [] ∷ [] →
      AllBoth StaysOver (passings w.lead.lived.life ++ Some Passing.Waiting ∷ []) (passings v.lead.lived.life) → GivesAll os done w came → GivesAll os done v (came ++ number ∷ [])
  gives_mail number none undone e over g = record {
    heard = map-append (λ (n : ℕ). owed_for n os) came (number ∷ []) ∙ (λ i. g.heard i ++ none i ∷ []) ∙ sym (map-append mails_told (replies_of (passed_rows w.lead.lived.life)) ([] ∷ [])) ∙ ap (map mails_told) (sym e);
    over = both_along (OverIf done) StaysOver (OverIf done) (λ n p q a b e. b (a e)) (came ++ number ∷ []) (passings w.lead.lived.life ++ Some Passing.Waiting ∷ []) (passings v.lead.lived.life)
        (both_push (OverIf done) came (passings w.lead.lived.life) number (Some Passing.Waiting) g.over (λ t. absurd (let bad : true ≡ false = sym t ∙ undone in cc))) over;
  }

  -- WHAT IS TOLD BY A FRAME is owed besides for the last
  pub gives_told : (now : List Owing) (done' : ℕ → Bool) (told : List Body) → owed_in now came ≡ last_more (mails_told told) (owed_in os came) → (AllBoth (OverIf done) came (passings w.lead.lived.life) → AllBoth (OverIf done') came (passings v.lead.lived.life)) →
      replies_of (passed_rows v.lead.lived.life) ≡ last_more told (replies_of (passed_rows w.lead.lived.life)) → GivesAll os done w came → GivesAll now done' v came
  gives_told now done' told owed over e g = record {
    heard = owed ∙ ap (last_more (mails_told told)) g.heard ∙ sym (told_last told (replies_of (passed_rows w.lead.lived.life))) ∙ ap (map mails_told) (sym e);
    over = over g.over;
  }

-- WHERE NOTHING IS OWED BESIDES for those that were heard
pub all_give : (gs : List GramIn) (rs : List Request) (os now : List Owing) (done : ℕ → Bool) → ((n : ℕ) → n < length gs → owed_for n now ≡ owed_for n os) → (i : ℕ) (ws : List Serves) (nss : List (List ℕ)) → AllDesk gs rs os i ws nss →
    AllBoth (GivesAll os done) ws nss → AllBoth (GivesAll now done) ws nss
all_give gs rs os now done quiet i [] [] d a = tt
all_give gs rs os now done quiet i [] (ns ∷ nss) d a = absurd d
all_give gs rs os now done quiet i (w ∷ ws) [] d a = absurd d
all_give gs rs os now done quiet i (w ∷ ws) (ns ∷ nss) d a = (
  record {
    heard = owed_same os now ns (All-weaker (λ (n : ℕ). n < length gs) (λ n. owed_for n now ≡ owed_for n os) quiet ns (ours_known gs i ns d.0.ours)) ∙ a.0.heard;
    over = a.0.over;
  },
  all_give gs rs os now done quiet (suc i) ws nss d.1 a.1,
)

-- where a mail is asked
pub asked_give : (os : List Owing) (done : ℕ → Bool) (place : ℕ) (k : Keyed) (ws : List Serves) (nss : List (List ℕ)) → AllBoth (GivesAll os done) ws nss → AllBoth (GivesAll os done) (asked_at place k ws) nss
asked_give os done place k [] [] a = tt
asked_give os done place k [] (ns ∷ nss) a = absurd a
asked_give os done place k (w ∷ ws) [] a = absurd a
asked_give os done zero k (w ∷ ws) (ns ∷ nss) a = (record { heard = a.0.heard; over = a.0.over }, a.1)
asked_give os done (suc place) k (w ∷ ws) (ns ∷ nss) a = (a.0, asked_give os done place k ws nss a.1)
