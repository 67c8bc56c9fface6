-- The writes of mailbox 0 by the record: what a frame tells, what it lets the outward half know, and when all mails of a service are written.
use Rattle.std.proofs.Common.{◌≡◌, ℕ, ◌-◌, ◌==◌, ◌&&◌, ◌||◌, Bool, true, false, Option, Some, None, List, [], ◌∷◌, ◌++◌, map, length, refl, ap, sym, ◌∙◌, subst, arith, append-nil, if◌then◌else◌}
use Rattle.link_model.specs.Mails.{LinkMail, news}
use Rattle.link_model.specs.Master.{InHalf, InState}
use Rattle.link_model.specs.Link.{Halves}
use Rattle.link_model.specs.Frames.{Ask, Gram, IsSent, IsSent.nothing, IsSent.other, IsSent.write, IsSent.inward, in_ask, own, halves_answered, halves_lost, halves_after, halves_without}
use Rattle.segment_model.specs.Slaves.{Datagram, Found, grams}
use Rattle.segment_model.specs.Record.{News, is_for, gram_news, found_news, datagram_news, last_heard, back_news, mail_told, last_told, all_told, told_behind}
use Rattle.segment_model.specs.Ends.{all_written}
use Rattle.segment_model.specs.Seats.{is_write, writes}

-- the mails told among news, and whether a write was done
abbrev pub mails_told : {M : Type 0} → List (News M) → List M
mails_told [] = []
mails_told (News.Told m ∷ ns) = m ∷ mails_told ns
mails_told (News.Heard m ∷ ns) = mails_told ns
mails_told (News.Written ∷ ns) = mails_told ns
mails_told (News.NothingRead ∷ ns) = mails_told ns
mails_told (News.BoxFull full ∷ ns) = mails_told ns
mails_told (News.Status state refused ∷ ns) = mails_told ns

abbrev pub has_written : {M : Type 0} → List (News M) → Bool
has_written [] = false
has_written (News.Written ∷ ns) = true
has_written (News.Told m ∷ ns) = has_written ns
has_written (News.Heard m ∷ ns) = has_written ns
has_written (News.NothingRead ∷ ns) = has_written ns
has_written (News.BoxFull full ∷ ns) = has_written ns
has_written (News.Status state refused ∷ ns) = has_written ns

pub mails_told-append : {M : Type 0} (ns ms : List (News M)) → mails_told (ns ++ ms) ≡ mails_told ns ++ mails_told ms
mails_told-append [] ms = refl
mails_told-append (News.Told m ∷ ns) ms = ap (λ l. m ∷ l) (mails_told-append ns ms)
mails_told-append (News.Heard m ∷ ns) ms = mails_told-append ns ms
mails_told-append (News.Written ∷ ns) ms = mails_told-append ns ms
mails_told-append (News.NothingRead ∷ ns) ms = mails_told-append ns ms
mails_told-append (News.BoxFull full ∷ ns) ms = mails_told-append ns ms
mails_told-append (News.Status state refused ∷ ns) ms = mails_told-append ns ms

has_written-append : {M : Type 0} (ns ms : List (News M)) → has_written (ns ++ ms) ≡ has_written ns || has_written ms
has_written-append [] ms = refl
has_written-append (News.Written ∷ ns) ms = refl
has_written-append (News.Told m ∷ ns) ms = has_written-append ns ms
has_written-append (News.Heard m ∷ ns) ms = has_written-append ns ms
has_written-append (News.NothingRead ∷ ns) ms = has_written-append ns ms
has_written-append (News.BoxFull full ∷ ns) ms = has_written-append ns ms
has_written-append (News.Status state refused ∷ ns) ms = has_written-append ns ms

-- news behind news
pub all_written-append : {M : Type 0} (n : ℕ) (ns ms : List (News M)) → all_written n (ns ++ ms) ≡ all_written n ns || all_written (n - length (mails_told ns)) ms
all_written-append n [] ms = ap (λ k. all_written k ms) (omega arith)
all_written-append n (News.Told m ∷ ns) ms = all_written-append (n - 1) ns ms ∙ ap (λ k. all_written (n - 1) ns || all_written k ms) (omega arith)
all_written-append n (News.Written ∷ ns) ms = go (n == 0) (all_written-append n ns ms)
  where
    go : (b : Bool) → all_written n (ns ++ ms) ≡ all_written n ns || all_written (n - length (mails_told ns)) ms →
        (if b then true else all_written n (ns ++ ms)) ≡ (if b then true else all_written n ns) || all_written (n - length (mails_told ns)) ms
    go true h = refl
    go false h = h
all_written-append n (News.Heard m ∷ ns) ms = all_written-append n ns ms
all_written-append n (News.NothingRead ∷ ns) ms = all_written-append n ns ms
all_written-append n (News.BoxFull full ∷ ns) ms = all_written-append n ns ms
all_written-append n (News.Status state refused ∷ ns) ms = all_written-append n ns ms

pub all_written-told : {M : Type 0} (n : ℕ) (ts : List M) (ms : List (News M)) → all_written n (map (λ m. News.Told m) ts ++ ms) ≡ all_written (n - length ts) ms
all_written-told n [] ms = ap (λ k. all_written k ms) (omega arith)
all_written-told n (t ∷ ts) ms = all_written-told (n - 1) ts ms ∙ ap (λ k. all_written k ms) (omega arith)

pub told_told : {M : Type 0} (ts : List M) → mails_told (map (λ m. News.Told m) ts) ≡ ts
told_told [] = refl
told_told (t ∷ ts) = ap (λ l. t ∷ l) (told_told ts)

-- where nothing is told, a write completes what was all told before
pub all_written-back : {M : Type 0} (n : ℕ) (ns : List (News M)) → mails_told ns ≡ [] → all_written n ns ≡ (n == 0) && has_written ns
all_written-back n [] e = go (n == 0)
  where
    go : (b : Bool) → false ≡ b && false
    go true = refl
    go false = refl
all_written-back n (News.Told m ∷ ns) e = absurd (let bad : m ∷ mails_told ns ≡ [] = e in cc)
all_written-back n (News.Written ∷ ns) e = go (n == 0) (all_written-back n ns e)
  where
    go : (b : Bool) → all_written n ns ≡ b && has_written ns → (if b then true else all_written n ns) ≡ b && true
    go true h = refl
    go false h = h
all_written-back n (News.Heard m ∷ ns) e = all_written-back n ns e
all_written-back n (News.NothingRead ∷ ns) e = all_written-back n ns e
all_written-back n (News.BoxFull full ∷ ns) e = all_written-back n ns e
all_written-back n (News.Status state refused ∷ ns) e = all_written-back n ns e

-- what comes back tells nothing new
heard_tells : {M : Type 0} (ms : List M) → mails_told (map (λ m. News.Heard m) ms) ≡ []
heard_tells [] = refl
heard_tells (m ∷ ms) = heard_tells ms

heard_writes : {M : Type 0} (ms : List M) → has_written (map (λ m. News.Heard m) ms) ≡ false
heard_writes [] = refl
heard_writes (m ∷ ms) = heard_writes ms

found_part : {M : Type 0} (mine empty : Bool) (found : Option Found) → (mails_told {M = M} (if mine then (if empty then [] else found_news found) else []) ≡ []) × (has_written {M = M} (if mine then (if empty then [] else found_news found) else []) ≡ false)
found_part false empty found = (refl, refl)
found_part true true found = (refl, refl)
found_part true false None = (refl, refl)
found_part true false (Some (Found.State state refused)) = (refl, refl)
found_part true false (Some (Found.Full full)) = (refl, refl)

gram_tells : {M : Type 0} (last : ℕ) (ask : Ask M) (g : Gram M) → mails_told (gram_news last ask g) ≡ []
gram_tells {M} last (Ask.WriteMail m) g = go (g.counter == 0)
  where
    go : (b : Bool) → mails_told {M = M} (if b then [] else News.Written ∷ []) ≡ []
    go true = refl
    go false = refl
gram_tells last Ask.ReadMail g = go (g.counter == 0)
  where
    go : (b : Bool) → mails_told (if b then News.NothingRead ∷ [] else map (λ m. News.Heard m) (news last g.mail)) ≡ []
    go true = refl
    go false = heard_tells (news last g.mail)
gram_tells last (Ask.WriteRequest bit) g = refl
gram_tells last Ask.ReadAcknowledge g = refl
gram_tells last Ask.Other g = refl

-- a write that is done frees the half, and nothing else does
gram_frees : {M : Type 0} (last : ℕ) (h : Halves M) (ask : Ask M) (g : Gram M) → (halves_answered h ask g).out.holding ≡ (if has_written (gram_news last ask g) then None else h.out.holding)
gram_frees {M} last h (Ask.WriteMail m) g = go (g.counter == 0)
  where
    go : (b : Bool) → (if b then h.out else record h.out { holding = None }).holding ≡ (if has_written {M = M} (if b then [] else News.Written ∷ []) then None else h.out.holding)
    go true = refl
    go false = refl
gram_frees last h Ask.ReadMail g = go (g.counter == 0)
  where
    go : (b : Bool) → h.out.holding ≡ (if has_written (if b then News.NothingRead ∷ [] else map (λ m. News.Heard m) (news last g.mail)) then None else h.out.holding)
    go true = refl
    go false = sym (ap (λ b. if b then None else h.out.holding) (heard_writes (news last g.mail)))
gram_frees last h (Ask.WriteRequest bit) g = refl
gram_frees last h Ask.ReadAcknowledge g = refl
gram_frees last h Ask.Other g = refl

gram_lasts : {M : Type 0} (h : Halves M) (ask : Ask M) (g : Gram M) → (halves_answered h ask g).out.last ≡ h.out.last
gram_lasts h (Ask.WriteMail m) g = go (g.counter == 0)
  where
    go : (b : Bool) → (if b then h.out else record h.out { holding = None }).last ≡ h.out.last
    go true = refl
    go false = refl
gram_lasts h Ask.ReadMail g = refl
gram_lasts h (Ask.WriteRequest bit) g = refl
gram_lasts h Ask.ReadAcknowledge g = refl
gram_lasts h Ask.Other g = refl

gram_writes : {M : Type 0} (last : ℕ) (ask : Ask M) (g : Gram M) → is_write ask ≡ false → has_written (gram_news last ask g) ≡ false
gram_writes last (Ask.WriteMail m) g e = absurd (let bad : true ≡ false = e in cc)
gram_writes last Ask.ReadMail g e = go (g.counter == 0)
  where
    go : (b : Bool) → has_written (if b then News.NothingRead ∷ [] else map (λ m. News.Heard m) (news last g.mail)) ≡ false
    go true = refl
    go false = heard_writes (news last g.mail)
gram_writes last (Ask.WriteRequest bit) g e = refl
gram_writes last Ask.ReadAcknowledge g e = refl
gram_writes last Ask.Other g e = refl

pub back_tells : {M : Type 0} (station last : ℕ) (ds : List (Datagram M)) → mails_told (back_news station last ds) ≡ []
back_tells station last [] = refl
back_tells {M} station last (d ∷ ds) =
    mails_told-append (datagram_news station last d) _ ∙ ap (λ l. l ++ mails_told (back_news station (if d.gram.station == station then last_heard last d.gram.ask d.gram else last) ds)) one ∙ back_tells station (if d.gram.station == station then last_heard last d.gram.ask d.gram else last) ds
  where
    go : (b : Bool) → mails_told (if b then gram_news last d.gram.ask d.gram else []) ≡ []
    go true = gram_tells last d.gram.ask d.gram
    go false = refl

    one : mails_told (datagram_news station last d) ≡ []
    one = mails_told-append (if d.gram.station == station then gram_news last d.gram.ask d.gram else []) _
        ∙ ap (λ l. l ++ mails_told (if is_for station d.address then (if d.counter == 0 then [] else found_news d.found) else [])) (go (d.gram.station == station))
        ∙ (found_part {M = M} (is_for station d.address) (d.counter == 0) d.found).0

datagram_writes : {M : Type 0} (station last : ℕ) (d : Datagram M) → has_written (datagram_news station last d) ≡ (if d.gram.station == station then has_written (gram_news last d.gram.ask d.gram) else false)
datagram_writes {M} station last d =
    has_written-append (if d.gram.station == station then gram_news last d.gram.ask d.gram else []) _
    ∙ ap (λ b. has_written (if d.gram.station == station then gram_news last d.gram.ask d.gram else []) || b) (found_part {M = M} (is_for station d.address) (d.counter == 0) d.found).1
    ∙ go (d.gram.station == station)
  where
    none : (b : Bool) → b || false ≡ b
    none true = refl
    none false = refl

    go : (b : Bool) → has_written (if b then gram_news last d.gram.ask d.gram else []) || false ≡ (if b then has_written (gram_news last d.gram.ask d.gram) else false)
    go true = none (has_written (gram_news last d.gram.ask d.gram))
    go false = refl

-- behind a frame that came back the half holds its mail unless a write of it was done
pub back_frees : {M : Type 0} (station last : ℕ) (h : Halves M) (ds : List (Datagram M)) → (halves_after station h (grams ds)).out.holding ≡ (if has_written (back_news station last ds) then None else h.out.holding)
back_frees station last h [] = refl
back_frees {M} station last h (d ∷ ds) =
    back_frees station kept next ds
    ∙ ap (λ holding. if has_written later then None else holding) (one (d.gram.station == station))
    ∙ both (if d.gram.station == station then has_written (gram_news last d.gram.ask d.gram) else false) (has_written later)
    ∙ ap (λ b. if b || has_written later then None else h.out.holding) (sym (datagram_writes station last d))
    ∙ ap (λ b. if b then None else h.out.holding) (sym (has_written-append (datagram_news station last d) later))
  where
    next : Halves M
    next = if d.gram.station == station then halves_answered h d.gram.ask d.gram else h

    kept : ℕ
    kept = if d.gram.station == station then last_heard last d.gram.ask d.gram else last

    later : List (News M)
    later = back_news station kept ds

    one : (b : Bool) → (if b then halves_answered h d.gram.ask d.gram else h).out.holding ≡ (if (if b then has_written (gram_news last d.gram.ask d.gram) else false) then None else h.out.holding)
    one true = gram_frees last h d.gram.ask d.gram
    one false = refl

    both : (a b : Bool) → (if b then None else (if a then None else h.out.holding)) ≡ (if a || b then None else h.out.holding)
    both true true = refl
    both true false = refl
    both false true = refl
    both false false = refl

pub back_lasts : {M : Type 0} (station : ℕ) (h : Halves M) (gs : List (Gram M)) → (halves_after station h gs).out.last ≡ h.out.last
back_lasts station h [] = refl
back_lasts station h (g ∷ gs) = back_lasts station (if g.station == station then halves_answered h g.ask g else h) gs ∙ go (g.station == station)
  where
    go : (b : Bool) → (if b then halves_answered h g.ask g else h).out.last ≡ h.out.last
    go true = gram_lasts h g.ask g
    go false = refl

lost_out : {M : Type 0} (h : Halves M) (ask : Ask M) → (halves_lost h ask).out ≡ h.out
lost_out h (Ask.WriteMail m) = refl
lost_out h Ask.ReadMail = refl
lost_out h (Ask.WriteRequest bit) = refl
lost_out h Ask.ReadAcknowledge = refl
lost_out h Ask.Other = refl

pub losts_out : {M : Type 0} (station : ℕ) (h : Halves M) (gs : List (Gram M)) → (halves_without station h gs).out ≡ h.out
losts_out station h [] = refl
losts_out station h (g ∷ gs) = losts_out station (if g.station == station then halves_lost h g.ask else h) gs ∙ go (g.station == station)
  where
    go : (b : Bool) → (if b then halves_lost h g.ask else h).out ≡ h.out
    go true = lost_out h g.ask
    go false = refl

-- where no write was sent, none is done
pub none_written : {M : Type 0} (station last : ℕ) (ds : List (Datagram M)) → writes station (grams ds) ≡ false → has_written (back_news station last ds) ≡ false
none_written station last [] e = refl
none_written {M} station last (d ∷ ds) e =
    has_written-append (datagram_news station last d) (back_news station kept ds)
    ∙ ap (λ b. b || has_written (back_news station kept ds)) (datagram_writes station last d)
    ∙ go (d.gram.station == station) e (λ f. none_written station kept ds f)
  where
    kept : ℕ
    kept = if d.gram.station == station then last_heard last d.gram.ask d.gram else last

    parts : (a b : Bool) → a || b ≡ false → (a ≡ false) × (b ≡ false)
    parts false false e = (refl, refl)
    parts true b e = absurd (let bad : true ≡ false = e in cc)
    parts false true e = absurd (let bad : true ≡ false = e in cc)

    go : (b : Bool) → (if b then is_write d.gram.ask || writes station (grams ds) else writes station (grams ds)) ≡ false → (writes station (grams ds) ≡ false → has_written (back_news station kept ds) ≡ false) →
        (if b then has_written (gram_news last d.gram.ask d.gram) else false) || has_written (back_news station kept ds) ≡ false
    go true e more = let p = parts (is_write d.gram.ask) (writes station (grams ds)) e in ap (λ b. b || has_written (back_news station kept ds)) (gram_writes last d.gram.ask d.gram p.0) ∙ more p.1
    go false e more = more e

-- what a frame of these halves tells: it writes the mail held, or it tells nothing
pub data Tells {M : Type 0} (last : ℕ) (holding : Option (LinkMail M)) : Bool → List M → ℕ → Type 0 where
  told : (m : LinkMail M) → holding ≡ Some m → Tells last holding true (news last (Some m)) m.counter
  quiet : Tells last holding false [] last

-- the same over the datagrams to one station alone
abbrev told_own : {M : Type 0} → ℕ → List (Gram M) → List M
told_own last [] = []
told_own last (g ∷ gs) = mail_told last g.ask ++ told_own (last_told last g.ask) gs

abbrev last_own : {M : Type 0} → ℕ → List (Gram M) → ℕ
last_own last [] = last
last_own last (g ∷ gs) = last_own (last_told last g.ask) gs

abbrev writes_own : {M : Type 0} → List (Gram M) → Bool
writes_own [] = false
writes_own (g ∷ gs) = is_write g.ask || writes_own gs

own_told : {M : Type 0} (station last : ℕ) (gs : List (Gram M)) → (all_told station last gs ≡ told_own last (own station gs)) × (told_behind station last gs ≡ last_own last (own station gs)) × (writes station gs ≡ writes_own (own station gs))
own_told station last [] = (refl, refl, refl)
own_told station last (g ∷ gs) = go (g.station == station) (own_told station (last_told last g.ask) gs) (own_told station last gs)
  where
    go : (b : Bool) →
        (all_told station (last_told last g.ask) gs ≡ told_own (last_told last g.ask) (own station gs)) × (told_behind station (last_told last g.ask) gs ≡ last_own (last_told last g.ask) (own station gs)) × (writes station gs ≡ writes_own (own station gs)) →
        (all_told station last gs ≡ told_own last (own station gs)) × (told_behind station last gs ≡ last_own last (own station gs)) × (writes station gs ≡ writes_own (own station gs)) →
        ((if b then mail_told last g.ask else []) ++ all_told station (if b then last_told last g.ask else last) gs ≡ told_own last (if b then g ∷ own station gs else own station gs))
        × (told_behind station (if b then last_told last g.ask else last) gs ≡ last_own last (if b then g ∷ own station gs else own station gs))
        × ((if b then is_write g.ask || writes station gs else writes station gs) ≡ writes_own (if b then g ∷ own station gs else own station gs))
    go true mine foreign = (ap (λ l. mail_told last g.ask ++ l) mine.0, mine.1, ap (λ b. is_write g.ask || b) mine.2)
    go false mine foreign = foreign

in_tells : {M : Type 0} (last : ℕ) (h : InHalf) (state : InState) → (mail_told {M = M} last (in_ask state h.bit) ≡ []) × (last_told {M = M} last (in_ask state h.bit) ≡ last) × (is_write {M = M} (in_ask state h.bit) ≡ false)
in_tells last h InState.Clear = (refl, refl, refl)
in_tells last h InState.Doubt = (refl, refl, refl)
in_tells last h InState.Asked = (refl, refl, refl)
in_tells last h InState.Refetch = (refl, refl, refl)

-- datagrams that follow one that tells nothing
skips : {M : Type 0} (last : ℕ) (holding : Option (LinkMail M)) (g : Gram M) (gs : List (Gram M)) → mail_told last g.ask ≡ [] → last_told last g.ask ≡ last → is_write g.ask ≡ false →
    Tells last holding (writes_own gs) (told_own last gs) (last_own last gs) → Tells last holding (writes_own (g ∷ gs)) (told_own last (g ∷ gs)) (last_own last (g ∷ gs))
skips last holding g gs e f w t =
    let one : told_own last gs ≡ told_own last (g ∷ gs) = sym (ap (λ l. l ++ told_own (last_told last g.ask) gs) e ∙ ap (λ k. told_own k gs) f) in
    let two : last_own last gs ≡ last_own last (g ∷ gs) = sym (ap (λ k. last_own k gs) f) in
    let three : writes_own gs ≡ writes_own (g ∷ gs) = sym (ap (λ b. b || writes_own gs) w) in
    subst (λ b. Tells last holding b (told_own last (g ∷ gs)) (last_own last (g ∷ gs))) three
    (subst (λ l. Tells last holding (writes_own gs) l (last_own last (g ∷ gs))) one (subst (λ k. Tells last holding (writes_own gs) (told_own last gs) k) two t))

-- behind the write nothing more is told
pub record Silent {M : Type 0} (gs : List (Gram M)) : Type 0 where
  pub told : (last : ℕ) → told_own last gs ≡ []
  pub last : (last : ℕ) → last_own last gs ≡ last
  pub writes : writes_own gs ≡ false

sent_silent : {M : Type 0} (held : Option (LinkMail M)) (inn : Option InHalf) (gs : List (Gram M)) → IsSent held inn gs → held ≡ None → Silent gs
sent_silent held inn gs nothing e = record { told = λ last. refl; last = λ last. refl; writes = refl }
sent_silent {M} held inn gs (other g later a rest) e =
    let s = sent_silent held inn later rest e in
    record {
      told = λ last. ap (λ k. mail_told {M = M} last k ++ told_own (last_told last k) later) a ∙ s.told last;
      last = λ last. ap (λ k. last_own (last_told last k) later) a ∙ s.last last;
      writes = ap (λ k. is_write k || writes_own later) a ∙ s.writes;
    }
sent_silent held inn gs (write m g later a c rest) e = absurd (let bad : Some m ≡ None = e in cc)
sent_silent {M} held inn gs (inward h g later a c rest) e =
    let s = sent_silent held None later rest e in
    let ask : Ask M = in_ask h.state h.bit in
    record {
      told = λ last. (let i = in_tells {M = M} last h h.state in ap (λ k. mail_told last k ++ told_own (last_told last k) later) a ∙ ap (λ l. l ++ told_own (last_told last ask) later) i.0 ∙ ap (λ k. told_own k later) i.1 ∙ s.told last);
      last = λ last. (let i = in_tells {M = M} last h h.state in ap (λ k. last_own (last_told last k) later) a ∙ ap (λ k. last_own k later) i.1 ∙ s.last last);
      writes = ap (λ k. is_write k || writes_own later) a ∙ ap (λ b. b || writes_own later) (in_tells {M = M} 0 h h.state).2 ∙ s.writes;
    }

sent_tells : {M : Type 0} (last : ℕ) (held : Option (LinkMail M)) (inn : Option InHalf) (gs : List (Gram M)) → IsSent held inn gs → Tells last held (writes_own gs) (told_own last gs) (last_own last gs)
sent_tells last held inn gs nothing = quiet
sent_tells {M} last held inn gs (other g later a rest) =
    skips last held g later (ap (mail_told last) a) (ap (last_told last) a) (ap is_write a) (sent_tells last held inn later rest)
sent_tells {M} last held inn gs (write m g later a c rest) =
    let s = sent_silent None inn later rest refl in
    let one : told_own last (g ∷ later) ≡ news last (Some m) = ap (λ k. mail_told last k ++ told_own (last_told last k) later) a ∙ ap (λ l. news last (Some m) ++ l) (s.told m.counter) ∙ append-nil (news last (Some m)) in
    let two : last_own last (g ∷ later) ≡ m.counter = ap (λ k. last_own (last_told last k) later) a ∙ s.last m.counter in
    let three : writes_own (g ∷ later) ≡ true = ap (λ k. is_write k || writes_own later) a in
    subst (λ b. Tells last (Some m) b (told_own last (g ∷ later)) (last_own last (g ∷ later))) (sym three)
    (subst (λ l. Tells last (Some m) true l (last_own last (g ∷ later))) (sym one) (subst (λ k. Tells last (Some m) true (news last (Some m)) k) (sym two) (told m refl)))
sent_tells {M} last held inn gs (inward h g later a c rest) =
    let i = in_tells {M = M} last h h.state in
    skips last held g later (ap (mail_told last) a ∙ i.0) (ap (last_told last) a ∙ i.1) (ap is_write a ∙ i.2) (sent_tells last held None later rest)

-- a frame writes the mail held, or it tells its station nothing
pub frame_tells : {M : Type 0} (station last : ℕ) (h : Halves M) (gs : List (Gram M)) → IsSent h.out.holding (Some h.inn) (own station gs) → Tells last h.out.holding (writes station gs) (all_told station last gs) (told_behind station last gs)
frame_tells station last h gs s =
    let o = own_told station last gs in
    let t = sent_tells last h.out.holding (Some h.inn) (own station gs) s in
    subst (λ b. Tells last h.out.holding b (all_told station last gs) (told_behind station last gs)) (sym o.2)
    (subst (λ l. Tells last h.out.holding (writes_own (own station gs)) l (told_behind station last gs)) (sym o.0)
    (subst (λ k. Tells last h.out.holding (writes_own (own station gs)) (told_own last (own station gs)) k) (sym o.1) t))
