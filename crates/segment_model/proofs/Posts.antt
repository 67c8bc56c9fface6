-- A service that ends with its last write is complete by the record exactly where the outward half says so.
use Rattle.std.proofs.Common.{◌≡◌, ◌≢◌, inl, inr, ℕ, ◌+◌, ◌-◌, ◌<◌, ◌≤◌, ◌==◌, ◌&&◌, ◌||◌, Bool, true, false, not, is_none, Option, Some, None, List, [], ◌∷◌, ◌++◌, map, length, refl, ap, sym, ◌∙◌, subst, arith, append_assoc, append-nil, length-append, if◌then◌else◌, eqb-true}
use Rattle.std.proofs.lemmas.Bool.Decides.{nat_tests, leb_tells}
use Rattle.link_model.specs.Counters.{next_counter}
use Rattle.link_model.specs.Mails.{LinkMail, news, bodies}
use Rattle.link_model.specs.Frames.{Ask, Gram, gram_meets, write_done, read_done}
use Rattle.link_model.proofs.Own
use Rattle.segment_model.specs.Slaves.{Datagram, Slave, Ring, grams, slave_meets, frame_after, all_back}
use Rattle.segment_model.specs.Record.{Frame, News, Kept, news_from, frame_news, back_news, all_told, joined}
use Rattle.segment_model.specs.Ends.{all_written}
use Rattle.segment_model.specs.Seats.{is_write, writes}
use Rattle.segment_model.proofs.Answers.{news_from-push, kept_of}
use Rattle.segment_model.proofs.News.{joined-append}
use Rattle.segment_model.proofs.Rests.{all_news}
use Rattle.segment_model.proofs.Written.{mails_told, has_written, mails_told-append, all_written-append, all_written-told, told_told, all_written-back, back_tells, Tells, Tells.told, Tells.quiet}

-- the ring leaves what is written
ask-gram_meets : {V M : Type 0} (s : Slave V M) (ask : Ask M) (g : Gram M) → (gram_meets s.node ask g).ask ≡ g.ask
ask-gram_meets {V} {M} s (Ask.WriteMail m) g = go s.node.out.box
  where
    go : (box : Option (LinkMail M)) → (write_done g box).ask ≡ g.ask
    go None = refl
    go (Some b) = refl
ask-gram_meets {V} {M} s Ask.ReadMail g = go s.node.inn.box
  where
    go : (box : Option (LinkMail M)) → (read_done g box).ask ≡ g.ask
    go None = refl
    go (Some b) = refl
ask-gram_meets s (Ask.WriteRequest bit) g = refl
ask-gram_meets s Ask.ReadAcknowledge g = refl
ask-gram_meets s Ask.Other g = refl

writes-frame_after : {V M : Type 0} (mine station : ℕ) (s : Slave V M) (ds : List (Datagram M)) → writes mine (grams (frame_after station s ds)) ≡ writes mine (grams ds)
writes-frame_after mine station s [] = refl
writes-frame_after {V} {M} mine station s (d ∷ ds) =
    let met : Gram M = if d.gram.station == station then gram_meets s.node d.gram.ask d.gram else d.gram in
    ap (λ rest. if met.station == mine then is_write met.ask || rest else rest) (writes-frame_after mine station (slave_meets station s d) ds)
    ∙ go (d.gram.station == station)
  where
    rest : Bool
    rest = writes mine (grams ds)

    go : (b : Bool) → (let met = if b then gram_meets s.node d.gram.ask d.gram else d.gram in if met.station == mine then is_write met.ask || rest else rest) ≡ (if d.gram.station == mine then is_write d.gram.ask || rest else rest)
    go false = refl
    go true =
        ap (λ k. if k == mine then is_write (gram_meets s.node d.gram.ask d.gram).ask || rest else rest) (Own.station-gram_meets s.node d.gram.ask d.gram)
        ∙ ap (λ a. if d.gram.station == mine then is_write a || rest else rest) (ask-gram_meets s d.gram.ask d.gram)

pub writes-all_back : {V M : Type 0} (mine : ℕ) (ns : Ring V M) (ds : List (Datagram M)) → writes mine (grams (all_back ns ds)) ≡ writes mine (grams ds)
writes-all_back mine [] ds = refl
writes-all_back mine (n ∷ ns) ds = writes-all_back mine ns (frame_after n.0 n.1 ds) ∙ writes-frame_after mine n.0 n.1 ds

-- a mail with the next counter is new
not_same : (k : ℕ) → (next_counter k == k) ≡ false
not_same k = grind (arith, nat_tests)

news_next : {M : Type 0} (kept : ℕ) (m : LinkMail M) → m.counter ≡ next_counter kept → news kept (Some m) ≡ m.body ∷ []
news_next {M} kept m e = go (m.counter == 0) (m.counter == kept) (ap (λ c. c == kept) e ∙ not_same kept)
  where
    go : (z l : Bool) → l ≡ false → (if not z && l then [] else m.body ∷ []) ≡ m.body ∷ []
    go true l f = refl
    go false false f = refl
    go false true f = absurd (let bad : true ≡ false = f in cc)

-- the mail held that was not yet sent
abbrev pub unsent : {M : Type 0} → Bool → Option (LinkMail M) → List M
unsent false holding = []
unsent true holding = bodies holding

pub record IsFresh {M : Type 0} (holding : Option (LinkMail M)) (last kept : ℕ) : Type 0 where
  pub mail : LinkMail M
  pub holds : holding ≡ Some mail
  pub next : mail.counter ≡ next_counter kept
  pub last_is : last ≡ mail.counter

pub record IsKnown {M : Type 0} (holding : Option (LinkMail M)) (last kept : ℕ) : Type 0 where
  pub last_is : last ≡ kept
  pub again : (m : LinkMail M) → holding ≡ Some m → (m.counter ≡ kept) × (m.counter ≢ 0)

abbrev pub KeptOut : {M : Type 0} → Bool → Option (LinkMail M) → ℕ → ℕ → Type 0
KeptOut true holding last kept = IsFresh holding last kept
KeptOut false holding last kept = IsKnown holding last kept

next_counted : (k : ℕ) → next_counter k ≢ 0
next_counted k e = absurd (omega (arith, e))

same_mail : {M : Type 0} (holding : Option (LinkMail M)) (m n : LinkMail M) → holding ≡ Some m → holding ≡ Some n → m ≡ n
same_mail holding m n e f = cc

still : {M : Type 0} (hw : Bool) (holding : Option (LinkMail M)) (n : LinkMail M) → (if hw then None else holding) ≡ Some n → holding ≡ Some n
still true holding n e = absurd (let bad : None ≡ Some n = e in cc)
still false holding n e = e

none_is : (b : Bool) → (b ≡ false) → (b && not false) ≡ false
none_is b e = ap (λ c. c && not false) e

-- a frame of the side keeps it
pub kept_frame : {M : Type 0} (fresh w hw : Bool) (holding : Option (LinkMail M)) (last kept behind : ℕ) (ts : List M) → Tells kept holding w ts behind → (w ≡ false → hw ≡ false) → KeptOut fresh holding last kept →
    KeptOut (fresh && not w) (if hw then None else holding) last behind
kept_frame true w hw holding last kept behind ts (told m e) q k =
    let f : IsFresh holding last kept = k in
    let same : f.mail ≡ m = same_mail holding f.mail m f.holds e in
    let z : IsKnown (if hw then None else holding) last m.counter = record {
      last_is = f.last_is ∙ ap (λ n. n.counter) same;
      again = λ n h. (let one = same_mail holding n m (still hw holding n h) e in (ap (λ n. n.counter) one, λ bad. next_counted kept (sym f.next ∙ ap (λ n. n.counter) same ∙ ap (λ n. n.counter) (sym one) ∙ bad)));
    } in z
kept_frame false w hw holding last kept behind ts (told m e) q k =
    let f : IsKnown holding last kept = k in
    let z : IsKnown (if hw then None else holding) last m.counter = record {
      last_is = f.last_is ∙ sym (f.again m e).0;
      again = λ n h. (let one = same_mail holding n m (still hw holding n h) e in (ap (λ n. n.counter) one, λ bad. (f.again m e).1 (ap (λ n. n.counter) (sym one) ∙ bad)));
    } in z
kept_frame {M} true w hw holding last kept behind ts quiet q k = subst (λ h. IsFresh {M = M} (if h then None else holding) last kept) (sym (q refl)) k
kept_frame {M} false w hw holding last kept behind ts quiet q k = subst (λ h. IsKnown {M = M} (if h then None else holding) last kept) (sym (q refl)) k

-- and what it tells was not sent before
sends : {M : Type 0} (fresh w hw : Bool) (holding : Option (LinkMail M)) (last kept behind : ℕ) (ts : List M) → Tells kept holding w ts behind → (w ≡ false → hw ≡ false) → KeptOut fresh holding last kept →
    ts ++ unsent (fresh && not w) (if hw then None else holding) ≡ unsent fresh holding
sends {M} true w hw holding last kept behind ts (told m e) q k =
    let f : IsFresh holding last kept = k in
    let same : f.mail ≡ m = same_mail holding f.mail m f.holds e in
    ap (λ l. l ++ []) (news_next kept m (ap (λ n. n.counter) (sym same) ∙ f.next)) ∙ ap bodies (sym e)
sends {M} false w hw holding last kept behind ts (told m e) q k =
    let f : IsKnown holding last kept = k in
    let a = f.again m e in
    ap (λ l. l ++ []) (all_news kept (Some m) (sym a.0) (λ n h. subst (λ c. c.counter ≢ 0) (let same : m ≡ n = cc in same) a.1))
sends true w hw holding last kept behind ts quiet q k = ap (λ h. bodies (if h then None else holding)) (q refl)
sends false w hw holding last kept behind ts quiet q k = refl

-- the newest row of a service that ends with its last write, which has n mails
pub record PostOpen {M : Type 0} (station frame n : ℕ) (fs : List (Frame M)) (fresh : Bool) (holding : Option (LinkMail M)) (told : List M) : Type 0 where
  pub begun : frame ≤ length fs
  pub told_is : told ≡ mails_told (joined (news_from station frame fs)) ++ unsent fresh holding
  pub few : length (mails_told (joined (news_from station frame fs))) < n → all_written n (joined (news_from station frame fs)) ≡ false
  pub all : n ≤ length (mails_told (joined (news_from station frame fs))) → all_written n (joined (news_from station frame fs)) ≡ is_none holding

pub news-push : {M : Type 0} (station frame : ℕ) (fs : List (Frame M)) (f : Frame M) → frame ≤ length fs → joined (news_from station frame (fs ++ f ∷ [])) ≡ joined (news_from station frame fs) ++ frame_news station (kept_of station fs) f
news-push station frame fs f le = ap joined (news_from-push station frame fs f le) ∙ joined-append (news_from station frame fs) _

is_zero : (k : ℕ) → k ≡ 0 → (k == 0) ≡ true
is_zero k e = ap (λ n. n == 0) e

not_zero : (k : ℕ) → 0 < k → (k == 0) ≡ false
not_zero k l = go (k == 0) refl
  where
    go : (b : Bool) → (k == 0) ≡ b → b ≡ false
    go true e = absurd (let z = eqb-true k 0 e in omega (arith, z, l))
    go false e = refl

some_none : {M : Type 0} (holding : Option (LinkMail M)) (m : LinkMail M) → holding ≡ Some m → is_none holding ≡ false
some_none holding m e = ap is_none e

pub post_frame : {M : Type 0} (station frame n : ℕ) (fs : List (Frame M)) (f : Frame M) (fresh w : Bool) (holding : Option (LinkMail M)) (last behind : ℕ) (mails : List M) →
    (let kept = kept_of station fs in let hw = has_written (back_news station kept.heard f.back) in
    Tells kept.told holding w (all_told station kept.told (grams f.sent)) behind → (w ≡ false → hw ≡ false) → KeptOut fresh holding last kept.told → PostOpen station frame n fs fresh holding mails →
    PostOpen station frame n (fs ++ f ∷ []) (fresh && not w) (if hw then None else holding) mails)
post_frame {M} station frame n fs f fresh w holding last behind mails t q k p =
    record {
      begun = let l = length-append fs (f ∷ []) in let b = p.begun in omega (arith, l, b);
      told_is = p.told_is ∙ ap (λ l. old ++ l) (sym (sends fresh w hw holding last kept.told behind ts t q k)) ∙ sym (append_assoc old ts _) ∙ ap (λ l. l ++ unsent (fresh && not w) (if hw then None else holding)) (sym tells);
      few = λ less.
          (let short : length old + length ts < n = let a = ap length tells in let b = length-append old ts in omega (arith, a, b, less) in
          scan ∙ ap (λ b. b || ((n - length old - length ts == 0) && hw)) (p.few (omega (arith, short))) ∙ ap (λ b. b && hw) (not_zero (n - length old - length ts) (omega (arith, short))));
      all = λ enough.
          (let long : n ≤ length old + length ts = let a = ap length tells in let b = length-append old ts in omega (arith, a, b, enough) in
          scan ∙ ap (λ b. all_written n ns || (b && hw)) (is_zero (n - length old - length ts) (omega (arith, long))) ∙ done hw refl long);
    }
  where
    kept : Kept
    kept = kept_of station fs

    hw : Bool
    hw = has_written (back_news station kept.heard f.back)

    ts : List M
    ts = all_told station kept.told (grams f.sent)

    ns : List (News M)
    ns = joined (news_from station frame fs)

    old : List M
    old = mails_told ns

    back : List (News M)
    back = back_news station kept.heard f.back

    pushed : joined (news_from station frame (fs ++ f ∷ [])) ≡ ns ++ (map (λ m. News.Told m) ts ++ back)
    pushed = news-push station frame fs f p.begun

    tells : mails_told (joined (news_from station frame (fs ++ f ∷ []))) ≡ old ++ ts
    tells = ap mails_told pushed ∙ mails_told-append ns _ ∙ ap (λ l. old ++ l) (mails_told-append (map (λ m. News.Told m) ts) back ∙ ap (λ l. l ++ mails_told back) (told_told ts) ∙ ap (λ l. ts ++ l) (back_tells station kept.heard f.back) ∙ append-nil ts)

    scan : all_written n (joined (news_from station frame (fs ++ f ∷ []))) ≡ all_written n ns || ((n - length old - length ts == 0) && hw)
    scan = ap (all_written n) pushed ∙ all_written-append n ns _
        ∙ ap (λ b. all_written n ns || b) (all_written-told (n - length old) ts back ∙ all_written-back (n - length old - length ts) back (back_tells station kept.heard f.back))

    or_true : (b : Bool) → b || true ≡ true
    or_true true = refl
    or_true false = refl

    or_false : (b : Bool) → b || false ≡ b
    or_false true = refl
    or_false false = refl

    -- where something is told, a mail is held
    holds : (w : Bool) (ts : List M) (behind : ℕ) → Tells kept.told holding w ts behind → 0 < length ts → (m : LinkMail M) × (holding ≡ Some m)
    holds w ts behind (told m e) l = (m, e)
    holds w ts behind quiet l = absurd (omega (arith, l))

    before : n ≤ length old + length ts → all_written n ns ≡ is_none holding
    before long = elim (leb_tells n (length old)) [
      | inl c ↦ p.all c.1
      | inr c ↦ let more = c.1 in let m = holds w ts behind t (omega (arith, long, more)) in p.few more ∙ sym (some_none holding m.0 m.1)
    ]

    done : (b : Bool) → hw ≡ b → n ≤ length old + length ts → all_written n ns || (true && b) ≡ is_none (if b then None else holding)
    done true e long = or_true (all_written n ns)
    done false e long = or_false (all_written n ns) ∙ before long
