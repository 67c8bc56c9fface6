-- How far a mail that is passed on comes by the news of a frame that lets no reply of it be heard.
use Rattle.std.proofs.Common.{◌≡◌, ◌&&◌, Bool, true, false, Option, Some, None, List, [], ◌∷◌, ◌++◌, map, refl, ap, ◌∙◌, if◌then◌else◌}
use Rattle.slave_parts.specs.of_segment_model.Record.{News, mails_heard, without_empty}
use Rattle.slave_parts.specs.of_segment_model.Ends.{Passing, passing_after}
use Rattle.slave_parts.proofs.of_segment_model.Written.{mails_told, has_written}
use Rattle.slave_parts.specs.of_serving_model.Tagged.{no_reply}
use Rattle.slave_parts.specs.of_exchange_model.Exchange.{Speech}
use Rattle.slave_parts.specs.of_life_model.Lives.{passes}
use Rattle.few_replies.specs.Led.{counted_news}
use Rattle.few_replies.proofs.Founds.{sees_empty, sees_late}

-- mailbox 1 was read empty
abbrev pub reads_nothing : {M : Type 0} → List (News M) → Bool
reads_nothing [] = false
reads_nothing (News.NothingRead ∷ ns) = true
reads_nothing (News.BoxFull full ∷ ns) = reads_nothing ns
reads_nothing (News.Told m ∷ ns) = reads_nothing ns
reads_nothing (News.Written ∷ ns) = reads_nothing ns
reads_nothing (News.Heard m ∷ ns) = reads_nothing ns
reads_nothing (News.Status state refused ∷ ns) = reads_nothing ns

-- news without empty reads
heard_same : {M : Type 0} (ns : List (News M)) → mails_heard (without_empty ns) ≡ mails_heard ns
heard_same [] = refl
heard_same (News.NothingRead ∷ ns) = heard_same ns
heard_same (News.Told m ∷ ns) = heard_same ns
heard_same (News.Written ∷ ns) = heard_same ns
heard_same (News.Heard m ∷ ns) = ap (λ l. m ∷ l) (heard_same ns)
heard_same (News.BoxFull full ∷ ns) = heard_same ns
heard_same (News.Status state refused ∷ ns) = heard_same ns

told_same : {M : Type 0} (ns : List (News M)) → mails_told (without_empty ns) ≡ mails_told ns
told_same [] = refl
told_same (News.NothingRead ∷ ns) = told_same ns
told_same (News.Told m ∷ ns) = ap (λ l. m ∷ l) (told_same ns)
told_same (News.Written ∷ ns) = told_same ns
told_same (News.Heard m ∷ ns) = told_same ns
told_same (News.BoxFull full ∷ ns) = told_same ns
told_same (News.Status state refused ∷ ns) = told_same ns

written_same : {M : Type 0} (ns : List (News M)) → has_written (without_empty ns) ≡ has_written ns
written_same [] = refl
written_same (News.NothingRead ∷ ns) = written_same ns
written_same (News.Told m ∷ ns) = written_same ns
written_same (News.Written ∷ ns) = refl
written_same (News.Heard m ∷ ns) = written_same ns
written_same (News.BoxFull full ∷ ns) = written_same ns
written_same (News.Status state refused ∷ ns) = written_same ns

empty_same : {M : Type 0} (ns : List (News M)) → sees_empty (without_empty ns) ≡ sees_empty ns
empty_same [] = refl
empty_same (News.NothingRead ∷ ns) = empty_same ns
empty_same (News.Told m ∷ ns) = empty_same ns
empty_same (News.Written ∷ ns) = empty_same ns
empty_same (News.Heard m ∷ ns) = empty_same ns
empty_same (News.BoxFull true ∷ ns) = empty_same ns
empty_same (News.BoxFull false ∷ ns) = refl
empty_same (News.Status state refused ∷ ns) = empty_same ns

late_same : {M : Type 0} (ns : List (News M)) → sees_late (without_empty ns) ≡ sees_late ns
late_same [] = refl
late_same (News.NothingRead ∷ ns) = late_same ns
late_same (News.Told m ∷ ns) = late_same ns
late_same (News.Written ∷ ns) = empty_same ns
late_same (News.Heard m ∷ ns) = late_same ns
late_same (News.BoxFull full ∷ ns) = late_same ns
late_same (News.Status state refused ∷ ns) = late_same ns

none_read : {M : Type 0} (ns : List (News M)) → reads_nothing (without_empty ns) ≡ false
none_read [] = refl
none_read (News.NothingRead ∷ ns) = none_read ns
none_read (News.Told m ∷ ns) = none_read ns
none_read (News.Written ∷ ns) = none_read ns
none_read (News.Heard m ∷ ns) = none_read ns
none_read (News.BoxFull full ∷ ns) = none_read ns
none_read (News.Status state refused ∷ ns) = none_read ns

told_before : {M : Type 0} (ts : List M) (ns : List (News M)) → without_empty (map (λ m. News.Told m) ts ++ ns) ≡ map (λ m. News.Told m) ts ++ without_empty ns
told_before [] ns = refl
told_before (t ∷ ts) ns = ap (λ l. News.Told t ∷ l) (told_before ts ns)

-- NEWS AS THEY COUNT tell the same but for empty reads
pub record SameNews {M : Type 0} (counts : Bool) (ns ms : List (News M)) : Type 0 where
  pub heard : mails_heard ms ≡ mails_heard ns
  pub told : mails_told ms ≡ mails_told ns
  pub written : has_written ms ≡ has_written ns
  pub empty : sees_empty ms ≡ sees_empty ns
  pub late : sees_late ms ≡ sees_late ns
  pub nothing : reads_nothing ms ≡ counts && reads_nothing ns

pub counted_same : {M : Type 0} (counts : Bool) (ns : List (News M)) → SameNews counts ns (counted_news counts ns)
counted_same true ns = record { heard = refl; told = refl; written = refl; empty = refl; late = refl; nothing = refl }
counted_same false ns = record { heard = heard_same ns; told = told_same ns; written = written_same ns; empty = empty_same ns; late = late_same ns; nothing = none_read ns }

pub counted_told : {M : Type 0} (counts : Bool) (ts : List M) (ns : List (News M)) → counted_news counts (map (λ m. News.Told m) ts ++ ns) ≡ map (λ m. News.Told m) ts ++ counted_news counts ns
counted_told true ts ns = refl
counted_told false ts ns = told_before ts ns

module _ {M Q R : Type 0} (x : Speech M Q R) (acknowledged : Q → Bool) (more : M → Bool) (passed : Q → Bool) where
  abbrev pub by : Option Passing → List (News M) → Option Passing
  by p ns = passes x acknowledged more passed p ns

  -- mails told first
  pub skips : (p : Passing) → ((m : M) → passing_after x.emission more p (News.Told m) ≡ Some p) → (ts : List M) (ns : List (News M)) → by (Some p) (map (λ m. News.Told m) ts ++ ns) ≡ by (Some p) ns
  skips p same [] ns = refl
  skips p same (t ∷ ts) ns = ap (λ q. by q (map (λ m. News.Told m) ts ++ ns)) (same t) ∙ skips p same ts ns

  pub sends : (t : M) (ts : List M) (ns : List (News M)) → by (Some Passing.Waiting) (map (λ m. News.Told m) (t ∷ ts) ++ ns) ≡ by (Some Passing.Sent) ns
  sends t ts ns = skips Passing.Sent (λ m. refl) ts ns

  -- an emission that was heard
  emits : (m : M) (ms : List M) → no_reply x.emission (m ∷ ms) ≡ true → (x.emission m ≡ true) × (no_reply x.emission ms ≡ true)
  emits m ms e = go (x.emission m) e
    where
      go : (b : Bool) → (if b then no_reply x.emission ms else false) ≡ true → (b ≡ true) × (no_reply x.emission ms ≡ true)
      go true f = (refl, f)
      go false f = absurd (let bad : false ≡ true = f in cc)

  over_emission : (p : Passing) (m : M) (ns : List (News M)) → x.emission m ≡ true → by (if x.emission m then Some p else if more m then Some Passing.Answered else None) ns ≡ by (Some p) ns
  over_emission p m ns e = ap (λ b. by (if b then Some p else if more m then Some Passing.Answered else None) ns) e

  pub waiting : (ns : List (News M)) → mails_told ns ≡ [] → no_reply x.emission (mails_heard ns) ≡ true → by (Some Passing.Waiting) ns ≡ Some Passing.Waiting
  waiting [] t e = refl
  waiting (News.Told m ∷ ns) t e = absurd (let bad : m ∷ mails_told ns ≡ [] = t in cc)
  waiting (News.Written ∷ ns) t e = waiting ns t e
  waiting (News.Heard m ∷ ns) t e = let h = emits m (mails_heard ns) e in over_emission Passing.Waiting m ns h.0 ∙ waiting ns t h.1
  waiting (News.NothingRead ∷ ns) t e = waiting ns t e
  waiting (News.BoxFull full ∷ ns) t e = waiting ns t e
  waiting (News.Status state refused ∷ ns) t e = waiting ns t e

  pub sent : (ns : List (News M)) → has_written ns ≡ false → no_reply x.emission (mails_heard ns) ≡ true → by (Some Passing.Sent) ns ≡ Some Passing.Sent
  sent [] w e = refl
  sent (News.Told m ∷ ns) w e = sent ns w e
  sent (News.Written ∷ ns) w e = absurd (let bad : true ≡ false = w in cc)
  sent (News.Heard m ∷ ns) w e = let h = emits m (mails_heard ns) e in over_emission Passing.Sent m ns h.0 ∙ sent ns w h.1
  sent (News.NothingRead ∷ ns) w e = sent ns w e
  sent (News.BoxFull full ∷ ns) w e = sent ns w e
  sent (News.Status state refused ∷ ns) w e = sent ns w e

  pub boxed : (ns : List (News M)) → sees_empty ns ≡ false → no_reply x.emission (mails_heard ns) ≡ true → by (Some Passing.Boxed) ns ≡ Some Passing.Boxed
  boxed [] s e = refl
  boxed (News.Told m ∷ ns) s e = boxed ns s e
  boxed (News.Written ∷ ns) s e = boxed ns s e
  boxed (News.Heard m ∷ ns) s e = let h = emits m (mails_heard ns) e in over_emission Passing.Boxed m ns h.0 ∙ boxed ns s h.1
  boxed (News.NothingRead ∷ ns) s e = boxed ns s e
  boxed (News.BoxFull true ∷ ns) s e = boxed ns s e
  boxed (News.BoxFull false ∷ ns) s e = absurd (let bad : true ≡ false = s in cc)
  boxed (News.Status state refused ∷ ns) s e = boxed ns s e

  pub sent_boxed : (ns : List (News M)) → has_written ns ≡ true → sees_late ns ≡ false → no_reply x.emission (mails_heard ns) ≡ true → by (Some Passing.Sent) ns ≡ Some Passing.Boxed
  sent_boxed [] w s e = absurd (let bad : false ≡ true = w in cc)
  sent_boxed (News.Told m ∷ ns) w s e = sent_boxed ns w s e
  sent_boxed (News.Written ∷ ns) w s e = boxed ns s e
  sent_boxed (News.Heard m ∷ ns) w s e = let h = emits m (mails_heard ns) e in over_emission Passing.Sent m ns h.0 ∙ sent_boxed ns w s h.1
  sent_boxed (News.NothingRead ∷ ns) w s e = sent_boxed ns w s e
  sent_boxed (News.BoxFull full ∷ ns) w s e = sent_boxed ns w s e
  sent_boxed (News.Status state refused ∷ ns) w s e = sent_boxed ns w s e

  pub served : (ns : List (News M)) → mails_heard ns ≡ [] → reads_nothing ns ≡ false → by (Some Passing.Served) ns ≡ Some Passing.Served
  served [] h r = refl
  served (News.Told m ∷ ns) h r = served ns h r
  served (News.Written ∷ ns) h r = served ns h r
  served (News.Heard m ∷ ns) h r = absurd (let bad : m ∷ mails_heard ns ≡ [] = h in cc)
  served (News.NothingRead ∷ ns) h r = absurd (let bad : true ≡ false = r in cc)
  served (News.BoxFull full ∷ ns) h r = served ns h r
  served (News.Status state refused ∷ ns) h r = served ns h r

  pub boxed_served : (ns : List (News M)) → sees_empty ns ≡ true → mails_heard ns ≡ [] → reads_nothing ns ≡ false → by (Some Passing.Boxed) ns ≡ Some Passing.Served
  boxed_served [] s h r = absurd (let bad : false ≡ true = s in cc)
  boxed_served (News.Told m ∷ ns) s h r = boxed_served ns s h r
  boxed_served (News.Written ∷ ns) s h r = boxed_served ns s h r
  boxed_served (News.Heard m ∷ ns) s h r = absurd (let bad : m ∷ mails_heard ns ≡ [] = h in cc)
  boxed_served (News.NothingRead ∷ ns) s h r = absurd (let bad : true ≡ false = r in cc)
  boxed_served (News.BoxFull true ∷ ns) s h r = boxed_served ns s h r
  boxed_served (News.BoxFull false ∷ ns) s h r = served ns h r
  boxed_served (News.Status state refused ∷ ns) s h r = boxed_served ns s h r
