-- WHEN A MAIL THAT IS PASSED ON IS OVER: no reply of it was heard, or the last that was heard is followed by no other; so with all that it has it is answered.
use Rattle.std.proofs.Common.{◌≡◌, ◌⊎◌, inl, inr, ℕ, suc, ◌+◌, ◌≤◌, ◌==◌, Bool, true, false, not, cond, Option, None, Some, List, [], ◌∷◌, ◌++◌, map, refl, ap, ap₂, sym, ◌∙◌, subst, arith, append-nil, if◌then◌else◌}
use Rattle.master_hand.specs.of_exchange_model.Exchange.{Speech, plain}
use Rattle.master_hand.proofs.of_exchange_model.Words.{plain-append}
use Rattle.few_replies.specs.of_life_model.Lives.{passes}
use Rattle.few_replies.specs.of_link_model.Frames as Link
use Rattle.few_replies.specs.of_link_model.Frames.{Ask, Gram, IsSent, in_ask, gram_meets, write_done, read_done}
use Rattle.few_replies.specs.of_link_model.Mails.{LinkMail, is_repeat, news}
use Rattle.few_replies.specs.of_link_model.Master.{InHalf, InState}
use Rattle.few_replies.specs.of_link_model.Slave.{Node}
use Rattle.few_replies.specs.Led.{counted_news}
use Rattle.few_replies.specs.Heard.{HeardBy}
use Rattle.master_hand.specs.of_segment_model.Ends.{Passing, passing_after}
use Rattle.master_hand.specs.of_segment_model.Record.{Frame, News, Kept, is_for, is_read, mails_heard, without_empty, gram_news, found_news, datagram_news, back_news, last_heard, frame_news, all_told}
use Rattle.master_hand.specs.of_segment_model.Slaves.{Datagram, Found, Slave, grams, slave_meets, frame_after}
use Rattle.master_hand.specs.of_serving_model.Passing.{ends_told}

-- the last of these is followed by no other
abbrev pub ends_last : {M : Type 0} → (M → Bool) → List M → Bool
ends_last more [] = false
ends_last more (m ∷ []) = not (more m)
ends_last more (m ∷ (n ∷ ms)) = ends_last more (n ∷ ms)

-- then they are all of those of which the last alone tells so
pub all_told_of : {M : Type 0} (more : M → Bool) (hs rest : List M) → ends_told more (hs ++ rest) ≡ true → ends_last more hs ≡ true → ends_told more hs ≡ true
all_told_of more [] rest whole last = last
all_told_of more (m ∷ []) rest whole last = last
all_told_of more (m ∷ (n ∷ ms)) rest whole last = go (more m) whole (λ w. all_told_of more (n ∷ ms) rest w last)
  where
    go : (b : Bool) → (if b then ends_told more (n ∷ (ms ++ rest)) else false) ≡ true → (ends_told more (n ∷ (ms ++ rest)) ≡ true → ends_told more (n ∷ ms) ≡ true) → (if b then ends_told more (n ∷ ms) else false) ≡ true
    go true w k = k w
    go false w k = absurd (let no : false ≡ true = w in cc)

last_more : {M : Type 0} (more : M → Bool) (ms : List M) (m : M) → ends_last more (ms ++ m ∷ []) ≡ not (more m)
last_more more [] m = refl
last_more more (k ∷ []) m = refl
last_more more (k ∷ (n ∷ ms)) m = last_more more (n ∷ ms) m

-- how many reads of mailbox 1 are among news
abbrev pub reads : {M : Type 0} → List (News M) → ℕ
reads [] = 0
reads (News.Told m ∷ ns) = reads ns
reads (News.Written ∷ ns) = reads ns
reads (News.Heard m ∷ ns) = suc (reads ns)
reads (News.NothingRead ∷ ns) = suc (reads ns)
reads (News.BoxFull full ∷ ns) = reads ns
reads (News.Status state refused ∷ ns) = reads ns

none_heard : {M : Type 0} (ns : List (News M)) → reads ns ≡ 0 → mails_heard ns ≡ []
none_heard [] e = refl
none_heard (News.Told m ∷ ns) e = none_heard ns e
none_heard (News.Written ∷ ns) e = none_heard ns e
none_heard (News.Heard m ∷ ns) e = absurd (cc)
none_heard (News.NothingRead ∷ ns) e = absurd (cc)
none_heard (News.BoxFull full ∷ ns) e = none_heard ns e
none_heard (News.Status state refused ∷ ns) e = none_heard ns e

module _ {M Q R : Type 0} (x : Speech M Q R) (acknowledged : Q → Bool) (more : M → Bool) (passed : Q → Bool) where
  abbrev by : Option Passing → List (News M) → Option Passing
  by o ns = passes x acknowledged more passed o ns

  -- one of the news that reads nothing leaves it in hand
  record Stays (p : Passing) (n : News M) (hs : List M) : Type 0 where
    next : Passing
    is : passing_after x.emission more p n ≡ Some next
    heard : HeardBy x.emission more p hs → HeardBy x.emission more next hs

  told : (p : Passing) (m : M) (hs : List M) → Stays p (News.Told m) hs
  told Passing.Waiting m hs = record { next = Passing.Sent; is = refl; heard = λ h. h }
  told Passing.Sent m hs = record { next = Passing.Sent; is = refl; heard = λ h. h }
  told Passing.Boxed m hs = record { next = Passing.Boxed; is = refl; heard = λ h. h }
  told Passing.Served m hs = record { next = Passing.Served; is = refl; heard = λ h. h }
  told Passing.Answered m hs = record { next = Passing.Answered; is = refl; heard = λ h. h }

  written : (p : Passing) (hs : List M) → Stays p News.Written hs
  written Passing.Waiting hs = record { next = Passing.Waiting; is = refl; heard = λ h. h }
  written Passing.Sent hs = record { next = Passing.Boxed; is = refl; heard = λ h. h }
  written Passing.Boxed hs = record { next = Passing.Boxed; is = refl; heard = λ h. h }
  written Passing.Served hs = record { next = Passing.Served; is = refl; heard = λ h. h }
  written Passing.Answered hs = record { next = Passing.Answered; is = refl; heard = λ h. h }

  full : (p : Passing) (b : Bool) (hs : List M) → Stays p (News.BoxFull b) hs
  full Passing.Waiting b hs = record { next = Passing.Waiting; is = refl; heard = λ h. h }
  full Passing.Sent b hs = record { next = Passing.Sent; is = refl; heard = λ h. h }
  full Passing.Boxed true hs = record { next = Passing.Boxed; is = refl; heard = λ h. h }
  full Passing.Boxed false hs = record { next = Passing.Served; is = refl; heard = λ h. h }
  full Passing.Served b hs = record { next = Passing.Served; is = refl; heard = λ h. h }
  full Passing.Answered b hs = record { next = Passing.Answered; is = refl; heard = λ h. h }

  status : (p : Passing) (state : ℕ) (refused : Option ℕ) (hs : List M) → Stays p (News.Status state refused) hs
  status Passing.Waiting state refused hs = record { next = Passing.Waiting; is = refl; heard = λ h. h }
  status Passing.Sent state refused hs = record { next = Passing.Sent; is = refl; heard = λ h. h }
  status Passing.Boxed state refused hs = record { next = Passing.Boxed; is = refl; heard = λ h. h }
  status Passing.Served state refused hs = record { next = Passing.Served; is = refl; heard = λ h. h }
  status Passing.Answered state refused hs = record { next = Passing.Answered; is = refl; heard = λ h. h }

  -- so do all that read nothing
  pub still : (ns : List (News M)) → reads ns ≡ 0 → (p : Passing) → by (Some p) ns ≡ None → ⊥
  still [] e p none = (let no : Some p ≡ None = none in cc)
  still (News.Told m ∷ ns) e p none = let k = told p m [] in still ns e k.next (sym (ap (λ o. by o ns) k.is) ∙ none)
  still (News.Written ∷ ns) e p none = let k = written p [] in still ns e k.next (sym (ap (λ o. by o ns) k.is) ∙ none)
  still (News.Heard m ∷ ns) e p none = absurd (let no : suc (reads ns) ≡ 0 = e in cc)
  still (News.NothingRead ∷ ns) e p none = absurd (let no : suc (reads ns) ≡ 0 = e in cc)
  still (News.BoxFull b ∷ ns) e p none = let k = full p b [] in still ns e k.next (sym (ap (λ o. by o ns) k.is) ∙ none)
  still (News.Status state refused ∷ ns) e p none = let k = status p state refused [] in still ns e k.next (sym (ap (λ o. by o ns) k.is) ∙ none)

  abbrev IsOver : List M → Type 0
  IsOver hs = (plain x.emission hs ≡ []) ⊎ (ends_last more (plain x.emission hs) ≡ true)

  -- a mail that was heard
  plain_one : (hs : List M) (m : M) (b : Bool) → x.emission m ≡ b → plain x.emission (hs ++ m ∷ []) ≡ plain x.emission hs ++ (cond (not b) (m ∷ []) [])
  plain_one hs m b e = plain-append x.emission hs (m ∷ []) ∙ ap (λ c. plain x.emission hs ++ cond (not c) (m ∷ []) []) e

  heard_over : (p : Passing) (m : M) (ns : List (News M)) (hs : List M) → reads ns ≡ 0 → HeardBy x.emission more p hs → by (passing_after x.emission more p (News.Heard m)) ns ≡ None → IsOver (hs ++ m ∷ [])
  heard_over p m ns hs e h none = go (x.emission m) (more m) refl refl
    where
      after_is : (b c : Bool) → x.emission m ≡ b → more m ≡ c → (q : Passing) → (q ≡ Passing.Served → ⊥) → passing_after x.emission more q (News.Heard m) ≡ (if b then Some q else if c then Some Passing.Answered else None)
      after_is b c eb ec Passing.Waiting n = ap₂ (λ (u v : Bool). if u then Some Passing.Waiting else if v then Some Passing.Answered else None) eb ec
      after_is b c eb ec Passing.Sent n = ap₂ (λ (u v : Bool). if u then Some Passing.Sent else if v then Some Passing.Answered else None) eb ec
      after_is b c eb ec Passing.Boxed n = ap₂ (λ (u v : Bool). if u then Some Passing.Boxed else if v then Some Passing.Answered else None) eb ec
      after_is b c eb ec Passing.Served n = absurd (n refl)
      after_is b c eb ec Passing.Answered n = ap₂ (λ (u v : Bool). if u then Some Passing.Answered else if v then Some Passing.Answered else None) eb ec

      goes : (q : Passing) → passing_after x.emission more p (News.Heard m) ≡ Some q → ⊥
      goes q is = still ns e q (sym (ap (λ o. by o ns) is) ∙ none)

      emits : (q : Passing) → p ≡ q → x.emission m ≡ true → IsOver (hs ++ m ∷ [])
      emits Passing.Served is eb = inl (plain_one hs m true eb ∙ append-nil (plain x.emission hs) ∙ subst (λ z. HeardBy x.emission more z hs) is h)
      emits Passing.Waiting is eb = absurd (goes p (after_is true (more m) eb refl p (λ s. (let no : Passing.Waiting ≡ Passing.Served = sym is ∙ s in cc))))
      emits Passing.Sent is eb = absurd (goes p (after_is true (more m) eb refl p (λ s. (let no : Passing.Sent ≡ Passing.Served = sym is ∙ s in cc))))
      emits Passing.Boxed is eb = absurd (goes p (after_is true (more m) eb refl p (λ s. (let no : Passing.Boxed ≡ Passing.Served = sym is ∙ s in cc))))
      emits Passing.Answered is eb = absurd (goes p (after_is true (more m) eb refl p (λ s. (let no : Passing.Answered ≡ Passing.Served = sym is ∙ s in cc))))

      follows : (q : Passing) → p ≡ q → x.emission m ≡ false → more m ≡ true → passing_after x.emission more p (News.Heard m) ≡ Some Passing.Answered
      follows Passing.Served is eb ec = ap (λ z. passing_after x.emission more z (News.Heard m)) is ∙ ap₂ (λ (u v : Bool). if u then None else if v then Some Passing.Answered else None) eb ec
      follows Passing.Waiting is eb ec = after_is false true eb ec p (λ s. (let no : Passing.Waiting ≡ Passing.Served = sym is ∙ s in cc))
      follows Passing.Sent is eb ec = after_is false true eb ec p (λ s. (let no : Passing.Sent ≡ Passing.Served = sym is ∙ s in cc))
      follows Passing.Boxed is eb ec = after_is false true eb ec p (λ s. (let no : Passing.Boxed ≡ Passing.Served = sym is ∙ s in cc))
      follows Passing.Answered is eb ec = after_is false true eb ec p (λ s. (let no : Passing.Answered ≡ Passing.Served = sym is ∙ s in cc))

      go : (b c : Bool) → x.emission m ≡ b → more m ≡ c → IsOver (hs ++ m ∷ [])
      go true c eb ec = emits p refl eb
      go false true eb ec = absurd (goes Passing.Answered (follows p refl eb ec))
      go false false eb ec = inr (ap (ends_last more) (plain_one hs m false eb) ∙ last_more more (plain x.emission hs) m ∙ ap not ec)

  nothing_over : (p : Passing) (ns : List (News M)) (hs : List M) → reads ns ≡ 0 → HeardBy x.emission more p hs → by (passing_after x.emission more p News.NothingRead) ns ≡ None → IsOver hs
  nothing_over Passing.Served ns hs e h none = inl h
  nothing_over Passing.Waiting ns hs e h none = absurd (still ns e Passing.Waiting none)
  nothing_over Passing.Sent ns hs e h none = absurd (still ns e Passing.Sent none)
  nothing_over Passing.Boxed ns hs e h none = absurd (still ns e Passing.Boxed none)
  nothing_over Passing.Answered ns hs e h none = absurd (still ns e Passing.Answered none)

  -- IT IS OVER by news that read mailbox 1 once at most
  pub over : (ns : List (News M)) → reads ns ≤ 1 → (p : Passing) (hs : List M) → HeardBy x.emission more p hs → by (Some p) ns ≡ None → IsOver (hs ++ mails_heard ns)
  over [] le p hs h none = absurd (let no : Some p ≡ None = none in cc)
  over (News.Told m ∷ ns) le p hs h none = let k = told p m hs in over ns le k.next hs (k.heard h) (sym (ap (λ o. by o ns) k.is) ∙ none)
  over (News.Written ∷ ns) le p hs h none = let k = written p hs in over ns le k.next hs (k.heard h) (sym (ap (λ o. by o ns) k.is) ∙ none)
  over (News.BoxFull b ∷ ns) le p hs h none = let k = full p b hs in over ns le k.next hs (k.heard h) (sym (ap (λ o. by o ns) k.is) ∙ none)
  over (News.Status state refused ∷ ns) le p hs h none = let k = status p state refused hs in over ns le k.next hs (k.heard h) (sym (ap (λ o. by o ns) k.is) ∙ none)
  over (News.Heard m ∷ ns) le p hs h none =
      let e : reads ns ≡ 0 = omega (arith, le) in
      subst (λ l. IsOver (hs ++ m ∷ l)) (sym (none_heard ns e)) (heard_over p m ns hs e h none)
  over (News.NothingRead ∷ ns) le p hs h none =
      let e : reads ns ≡ 0 = omega (arith, le) in
      subst (λ l. IsOver (hs ++ l)) (sym (none_heard ns e)) (subst IsOver (sym (append-nil hs)) (nothing_over p ns hs e h none))

-- ---- A FRAME READS MAILBOX 1 ONCE AT MOST
reads_append : {M : Type 0} (a b : List (News M)) → reads (a ++ b) ≡ reads a + reads b
reads_append [] b = omega arith
reads_append (News.Told m ∷ a) b = reads_append a b
reads_append (News.Written ∷ a) b = reads_append a b
reads_append (News.Heard m ∷ a) b = omega (arith, reads_append a b)
reads_append (News.NothingRead ∷ a) b = omega (arith, reads_append a b)
reads_append (News.BoxFull full ∷ a) b = reads_append a b
reads_append (News.Status state refused ∷ a) b = reads_append a b

told_reads : {M : Type 0} (ms : List M) → reads (map (λ m. News.Told m) ms) ≡ 0
told_reads [] = refl
told_reads (m ∷ ms) = told_reads ms

without_reads : {M : Type 0} (ns : List (News M)) → reads (without_empty ns) ≤ reads ns
without_reads [] = omega arith
without_reads (News.Told m ∷ ns) = without_reads ns
without_reads (News.Written ∷ ns) = without_reads ns
without_reads (News.Heard m ∷ ns) = omega (arith, without_reads ns)
without_reads (News.NothingRead ∷ ns) = omega (arith, without_reads ns)
without_reads (News.BoxFull full ∷ ns) = without_reads ns
without_reads (News.Status state refused ∷ ns) = without_reads ns

counted_reads : {M : Type 0} (b : Bool) (ns : List (News M)) → reads (counted_news b ns) ≤ reads ns
counted_reads true ns = omega arith
counted_reads false ns = without_reads ns

-- so many of a station's datagrams read it
abbrev pub asks : {M : Type 0} → ℕ → List (Gram M) → ℕ
asks station [] = 0
asks station (g ∷ gs) = (if g.station == station then (if is_read g.ask then 1 else 0) else 0) + asks station gs

found_reads : (M : Type 0) (found : Option Found) → reads (found_news {M = M} found) ≡ 0
found_reads M None = refl
found_reads M (Some (Found.State state refused)) = refl
found_reads M (Some (Found.Full filled)) = refl

heard_few : {M : Type 0} (last : ℕ) (box : Option (LinkMail M)) → reads (map (λ m. News.Heard m) (news last box)) ≤ 1
heard_few last None = omega arith
heard_few {M} last (Some m) = go (is_repeat last m)
  where
    go : (b : Bool) → reads (map (λ m. News.Heard m) (let ms : List M = if b then [] else m.body ∷ [] in ms)) ≤ 1
    go true = omega arith
    go false = omega arith

gram_reads : {M : Type 0} (last : ℕ) (a : Ask M) (g : Gram M) → reads (gram_news last a g) ≤ (if is_read a then 1 else 0)
gram_reads {M} last (Ask.WriteMail m) g = go (g.counter == 0)
  where
    go : (b : Bool) → reads (let ns : List (News M) = if b then [] else News.Written ∷ [] in ns) ≤ 0
    go true = omega arith
    go false = omega arith
gram_reads {M} last Ask.ReadMail g = go (g.counter == 0)
  where
    go : (b : Bool) → reads (let ns : List (News M) = if b then News.NothingRead ∷ [] else map (λ m. News.Heard m) (news last g.mail) in ns) ≤ 1
    go true = omega arith
    go false = heard_few last g.mail
gram_reads last (Ask.WriteRequest bit) g = omega arith
gram_reads last Ask.ReadAcknowledge g = omega arith
gram_reads last Ask.Other g = omega arith

datagram_reads : {M : Type 0} (station last : ℕ) (d : Datagram M) → reads (datagram_news station last d) ≤ (if d.gram.station == station then (if is_read d.gram.ask then 1 else 0) else 0)
datagram_reads {M} station last d =
    let one = first (d.gram.station == station) in
    let two = second (is_for station d.address) (d.counter == 0) in
    let both = reads_append (if d.gram.station == station then gram_news last d.gram.ask d.gram else []) (if is_for station d.address then (if d.counter == 0 then [] else found_news d.found) else []) in
    omega (arith, one, two, both)
  where
    first : (b : Bool) → reads (let ns : List (News M) = if b then gram_news last d.gram.ask d.gram else [] in ns) ≤ (if b then (if is_read d.gram.ask then 1 else 0) else 0)
    first true = gram_reads last d.gram.ask d.gram
    first false = omega arith

    second : (b c : Bool) → reads (let ns : List (News M) = if b then (if c then [] else found_news d.found) else [] in ns) ≡ 0
    second true true = refl
    second true false = found_reads M d.found
    second false c = refl

back_reads : {M : Type 0} (station last : ℕ) (ds : List (Datagram M)) → reads (back_news station last ds) ≤ asks station (grams ds)
back_reads station last [] = omega arith
back_reads station last (d ∷ ds) =
    let next = if d.gram.station == station then last_heard last d.gram.ask d.gram else last in
    omega (arith, reads_append (datagram_news station last d) (back_news station next ds), datagram_reads station last d, back_reads station next ds)

-- what comes back asks what was sent
meets_ask : {M S : Type 0} (n : Node M S) (a : Ask M) (g : Gram M) → (gram_meets n a g).ask ≡ g.ask
meets_ask n (Ask.WriteMail m) g = go n.out.box
  where
    go : (box : Option _) → (write_done g box).ask ≡ g.ask
    go None = refl
    go (Some k) = refl
meets_ask n Ask.ReadMail g = go n.inn.box
  where
    go : (box : Option _) → (read_done g box).ask ≡ g.ask
    go None = refl
    go (Some k) = refl
meets_ask n (Ask.WriteRequest bit) g = refl
meets_ask n Ask.ReadAcknowledge g = refl
meets_ask n Ask.Other g = refl

meets_station : {M S : Type 0} (n : Node M S) (a : Ask M) (g : Gram M) → (gram_meets n a g).station ≡ g.station
meets_station n (Ask.WriteMail m) g = go n.out.box
  where
    go : (box : Option _) → (write_done g box).station ≡ g.station
    go None = refl
    go (Some k) = refl
meets_station n Ask.ReadMail g = go n.inn.box
  where
    go : (box : Option _) → (read_done g box).station ≡ g.station
    go None = refl
    go (Some k) = refl
meets_station n (Ask.WriteRequest bit) g = refl
meets_station n Ask.ReadAcknowledge g = refl
meets_station n Ask.Other g = refl

abbrev one_asks : {M : Type 0} → ℕ → Gram M → ℕ
one_asks station g = if g.station == station then (if is_read g.ask then 1 else 0) else 0

pub after_asks : {V M : Type 0} (station k : ℕ) (s : Slave V M) (ds : List (Datagram M)) → asks station (grams (frame_after k s ds)) ≡ asks station (grams ds)
after_asks station k s [] = refl
after_asks {M = M} station k s (d ∷ ds) = ap₂ (λ (a b : ℕ). a + b) (go (d.gram.station == k)) (after_asks station k (slave_meets k s d) ds)
  where
    go : (b : Bool) → one_asks station (if b then gram_meets s.node d.gram.ask d.gram else d.gram) ≡ one_asks station d.gram
    go true = ap₂ (λ (n : ℕ) (a : Ask M). if n == station then (if is_read a then 1 else 0) else 0) (meets_station s.node d.gram.ask d.gram) (meets_ask s.node d.gram.ask d.gram)
    go false = refl

-- those of a frame that was sent
abbrev in_all : {M : Type 0} → List (Gram M) → ℕ
in_all [] = 0
in_all (g ∷ gs) = (if is_read g.ask then 1 else 0) + in_all gs

asks_own : {M : Type 0} (station : ℕ) (gs : List (Gram M)) → asks station gs ≡ in_all (Link.own station gs)
asks_own station [] = refl
asks_own {M} station (g ∷ gs) = go (g.station == station) (asks_own station gs)
  where
    go : (b : Bool) → asks station gs ≡ in_all (Link.own station gs) → (if b then (if is_read g.ask then 1 else 0) else 0) + asks station gs ≡ in_all (let l : List (Gram M) = if b then g ∷ Link.own station gs else Link.own station gs in l)
    go true e = ap (λ k. (if is_read g.ask then 1 else 0) + k) e
    go false e = omega (arith, e)

abbrev one_read : {M : Type 0} → Ask M → ℕ
one_read a = if is_read a then 1 else 0

inward_few : (M : Type 0) (state : InState) (bit : Bool) → one_read (in_ask {B = M} state bit) ≤ 1
inward_few M InState.Clear bit = omega arith
inward_few M InState.Doubt bit = omega arith
inward_few M InState.Asked bit = omega arith
inward_few M InState.Refetch bit = omega arith

sent_none : {M : Type 0} (held : Option (LinkMail M)) (gs : List (Gram M)) → IsSent held None gs → in_all gs ≡ 0
sent_none held _ IsSent.nothing = refl
sent_none held _ (IsSent.other g gs ask rest) = ap₂ (λ (a : Ask _) (k : ℕ). (if is_read a then 1 else 0) + k) ask (sent_none held gs rest)
sent_none _ _ (IsSent.write m g gs ask counter rest) = ap₂ (λ (a : Ask _) (k : ℕ). (if is_read a then 1 else 0) + k) ask (sent_none None gs rest)

sent_few : {M : Type 0} (held : Option (LinkMail M)) (inn : Option InHalf) (gs : List (Gram M)) → IsSent held inn gs → in_all gs ≤ 1
sent_few held inn _ IsSent.nothing = omega arith
sent_few {M} held inn _ (IsSent.other g gs ask rest) = let z : one_read g.ask ≡ 0 = ap (λ (a : Ask M). one_read a) ask in omega (arith, z, sent_few held inn gs rest)
sent_few {M} _ inn _ (IsSent.write m g gs ask counter rest) = let z : one_read g.ask ≡ 0 = ap (λ (a : Ask M). one_read a) ask in omega (arith, z, sent_few None inn gs rest)
sent_few {M} held _ _ (IsSent.inward h g gs ask counter rest) =
    let z : one_read g.ask ≤ 1 = subst (λ (a : Ask M). one_read a ≤ 1) (sym ask) (inward_few M h.state h.bit) in
    omega (arith, z, sent_none held gs rest)

pub sent_asks : {M : Type 0} (station : ℕ) (held : Option (LinkMail M)) (inn : Option InHalf) (gs : List (Gram M)) → IsSent held inn (Link.own station gs) → asks station gs ≤ 1
sent_asks station held inn gs sent = let e = asks_own station gs in omega (arith, e, sent_few held inn (Link.own station gs) sent)

-- SO MANY TIMES A FRAME'S NEWS read it at most
pub news_few : {M : Type 0} (station : ℕ) (kept : Kept) (counts : Bool) (f : Frame M) → reads (counted_news counts (frame_news station kept f)) ≤ asks station (grams f.back)
news_few station kept counts f =
    let told = all_told station kept.told (grams f.sent) in
    omega (
      arith,
      counted_reads counts (frame_news station kept f),
      reads_append (map (λ m. News.Told m) told) (back_news station kept.heard f.back),
      told_reads told,
      back_reads station kept.heard f.back,
    )
