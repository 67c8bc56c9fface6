-- WHAT FRAMES TELL of a mail that is passed on is the same where it is seen what is meant by mails, whose contents tell that.
use Rattle.std.proofs.Common.{◌≡◌, ℕ, ◌==◌, ◌&&◌, Bool, true, false, not, Option, None, Some, List, [], ◌∷◌, map, refl, ap, ap₂, sym, ◌∙◌, if◌then◌else◌}
use Rattle.master_hand.specs.of_exchange_model.Exchange.{Speech}
use Rattle.few_replies.specs.of_life_model.Lives.{passes}
use Rattle.few_replies.specs.of_link_model.Frames.{Ask}
use Rattle.few_replies.specs.Client.{ByContents}
use Rattle.few_replies.specs.Erased.{frame_as, news_as, all_news_as}
use Rattle.few_replies.proofs.Naturals.{kept_of}
use Rattle.few_replies.specs.Led.{counted_news}
use Rattle.master_hand.specs.of_segment_model.Ends.{Passing, passing_after}
use Rattle.master_hand.specs.of_segment_model.Record.{Frame, News, Kept, kept_after, kept_all, did_read, is_read, without_empty, mails_heard}
use Rattle.master_hand.specs.of_segment_model.Slaves.{Datagram, grams}
use Rattle.master_hand.specs.of_serving_model.Erasing.{ask_as, all_as}
use Rattle.master_hand.specs.of_serving_model.Tagged.{Tagged, is_own}

module _ {N M : Type 0} (f : N → M) where
  without_as : (ns : List (News N)) → all_news_as f (without_empty ns) ≡ without_empty (all_news_as f ns)
  without_as [] = refl
  without_as (News.NothingRead ∷ ns) = without_as ns
  without_as (News.Told m ∷ ns) = ap (λ l. News.Told (f m) ∷ l) (without_as ns)
  without_as (News.Written ∷ ns) = ap (λ l. News.Written ∷ l) (without_as ns)
  without_as (News.Heard m ∷ ns) = ap (λ l. News.Heard (f m) ∷ l) (without_as ns)
  without_as (News.BoxFull full ∷ ns) = ap (λ l. News.BoxFull full ∷ l) (without_as ns)
  without_as (News.Status state refused ∷ ns) = ap (λ l. News.Status state refused ∷ l) (without_as ns)

  pub counted_as : (counts : Bool) (ns : List (News N)) → all_news_as f (counted_news counts ns) ≡ counted_news counts (all_news_as f ns)
  counted_as true ns = refl
  counted_as false ns = without_as ns

  is_read_as : (a : Ask N) → is_read (ask_as f a) ≡ is_read a
  is_read_as (Ask.WriteMail m) = refl
  is_read_as Ask.ReadMail = refl
  is_read_as (Ask.WriteRequest bit) = refl
  is_read_as Ask.ReadAcknowledge = refl
  is_read_as Ask.Other = refl

  pub did_read_as : (station : ℕ) (ds : List (Datagram N)) → did_read station (grams (all_as f ds)) ≡ did_read station (grams ds)
  did_read_as station [] = refl
  did_read_as station (d ∷ ds) = ap₂ (λ (a b : Bool). if d.gram.station == station && a && not (d.gram.counter == 0) then true else b) (is_read_as d.gram.ask) (did_read_as station ds)

  pub kept_all_as : (station : ℕ) (kept : Kept) (ks : List (Frame N)) → kept_all station kept ks ≡ kept_all station kept (map (λ k. frame_as f k) ks)
  kept_all_as station kept [] = refl
  kept_all_as station kept (k ∷ ks) = kept_all_as station (kept_after station kept k) ks ∙ ap (λ (j : Kept). kept_all station j (map (λ l. frame_as f l) ks)) (kept_of f station kept k)

-- HOW FAR A MAIL THAT IS PASSED ON HAS COME
module _ {M : Type 0} (Q : Type 0) (emission more : M → Bool) where
  abbrev sees_own : Tagged M Q → Bool
  sees_own t = is_own t.meant

  abbrev sees_more : Tagged M Q → Bool
  sees_more t = more t.mail

  -- by one of the news
  abbrev Same : Passing → News (Tagged M Q) → Type 0
  Same p n = passing_after sees_own sees_more p n ≡ passing_after emission more p (news_as (λ t. t.mail) n)

  told_same : (p : Passing) (t : Tagged M Q) → Same p (News.Told t)
  told_same Passing.Waiting t = refl
  told_same Passing.Sent t = refl
  told_same Passing.Boxed t = refl
  told_same Passing.Served t = refl
  told_same Passing.Answered t = refl

  written_same : (p : Passing) → Same p News.Written
  written_same Passing.Waiting = refl
  written_same Passing.Sent = refl
  written_same Passing.Boxed = refl
  written_same Passing.Served = refl
  written_same Passing.Answered = refl

  nothing_same : (p : Passing) → Same p News.NothingRead
  nothing_same Passing.Waiting = refl
  nothing_same Passing.Sent = refl
  nothing_same Passing.Boxed = refl
  nothing_same Passing.Served = refl
  nothing_same Passing.Answered = refl

  full_same : (p : Passing) (full : Bool) → Same p (News.BoxFull full)
  full_same Passing.Waiting full = refl
  full_same Passing.Sent full = refl
  full_same Passing.Boxed true = refl
  full_same Passing.Boxed false = refl
  full_same Passing.Served full = refl
  full_same Passing.Answered full = refl

  status_same : (p : Passing) (state : ℕ) (refused : Option ℕ) → Same p (News.Status state refused)
  status_same Passing.Waiting state refused = refl
  status_same Passing.Sent state refused = refl
  status_same Passing.Boxed state refused = refl
  status_same Passing.Served state refused = refl
  status_same Passing.Answered state refused = refl

  heard_same : (p : Passing) (t : Tagged M Q) → is_own t.meant ≡ emission t.mail → Same p (News.Heard t)
  heard_same Passing.Waiting t e = ap (λ b. if b then Some Passing.Waiting else if more t.mail then Some Passing.Answered else None) e
  heard_same Passing.Sent t e = ap (λ b. if b then Some Passing.Sent else if more t.mail then Some Passing.Answered else None) e
  heard_same Passing.Boxed t e = ap (λ b. if b then Some Passing.Boxed else if more t.mail then Some Passing.Answered else None) e
  heard_same Passing.Served t e = ap (λ b. if b then None else if more t.mail then Some Passing.Answered else None) e
  heard_same Passing.Answered t e = ap (λ b. if b then Some Passing.Answered else if more t.mail then Some Passing.Answered else None) e

  module _ {P T R S : Type 0} (y : Speech (Tagged M Q) P R) (z : Speech M T S) (own_is : y.emission ≡ (λ t. is_own t.meant)) (emission_is : z.emission ≡ emission) (ends_p : P → Bool) (passed_p : P → Bool) (ends_t : T → Bool) (passed_t : T → Bool) where
    abbrev seen_by : Option Passing → List (News (Tagged M Q)) → Option Passing
    seen_by o ns = passes y ends_p sees_more passed_p o ns

    abbrev plain_by : Option Passing → List (News M) → Option Passing
    plain_by o ns = passes z ends_t more passed_t o ns

    one_same : (p : Passing) (n : News (Tagged M Q)) → ByContents emission (mails_heard (n ∷ [])) → passing_after y.emission sees_more p n ≡ passing_after z.emission more p (news_as (λ t. t.mail) n)
    one_same p n by = ap (λ k. passing_after k sees_more p n) own_is ∙ go n by ∙ ap (λ k. passing_after k more p (news_as (λ t. t.mail) n)) (sym emission_is)
      where
        go : (n : News (Tagged M Q)) → ByContents emission (mails_heard (n ∷ [])) → Same p n
        go (News.Told t) by = told_same p t
        go News.Written by = written_same p
        go (News.Heard t) by = heard_same p t by.0
        go News.NothingRead by = nothing_same p
        go (News.BoxFull full) by = full_same p full
        go (News.Status state refused) by = status_same p state refused

    none_by : (ns : List (News M)) → plain_by None ns ≡ None
    none_by ns = refl

    -- by all of them
    pub passes_same : (o : Option Passing) (ns : List (News (Tagged M Q))) → ByContents emission (mails_heard ns) → seen_by o ns ≡ plain_by o (all_news_as (λ t. t.mail) ns)
    passes_same None ns by = refl
    passes_same (Some p) [] by = refl
    passes_same (Some p) (News.Told t ∷ ns) by = passes_same (passing_after y.emission sees_more p (News.Told t)) ns by ∙ ap (λ o. plain_by o (all_news_as (λ t. t.mail) ns)) (one_same p (News.Told t) tt)
    passes_same (Some p) (News.Written ∷ ns) by = passes_same (passing_after y.emission sees_more p News.Written) ns by ∙ ap (λ o. plain_by o (all_news_as (λ t. t.mail) ns)) (one_same p News.Written tt)
    passes_same (Some p) (News.NothingRead ∷ ns) by = passes_same (passing_after y.emission sees_more p News.NothingRead) ns by ∙ ap (λ o. plain_by o (all_news_as (λ t. t.mail) ns)) (one_same p News.NothingRead tt)
    passes_same (Some p) (News.BoxFull full ∷ ns) by = passes_same (passing_after y.emission sees_more p (News.BoxFull full)) ns by ∙ ap (λ o. plain_by o (all_news_as (λ t. t.mail) ns)) (one_same p (News.BoxFull full) tt)
    passes_same (Some p) (News.Status state refused ∷ ns) by =
        passes_same (passing_after y.emission sees_more p (News.Status state refused)) ns by ∙ ap (λ o. plain_by o (all_news_as (λ t. t.mail) ns)) (one_same p (News.Status state refused) tt)
    passes_same (Some p) (News.Heard t ∷ ns) by = passes_same (passing_after y.emission sees_more p (News.Heard t)) ns by.1 ∙ ap (λ o. plain_by o (all_news_as (λ t. t.mail) ns)) (one_same p (News.Heard t) (by.0, tt))
