-- What the record says is what the halves heard.
use Rattle.std.proofs.Common.{◌≡◌, ℕ, ◌==◌, Bool, true, false, Option, Some, None, List, [], ◌∷◌, ◌++◌, map, refl, ap, sym, ◌∙◌, if◌then◌else◌, append_assoc, append-nil}
use Rattle.link_model.specs.Mails.{LinkMail, news, differs}
use Rattle.link_model.specs.Master.{InHalf, InState, doubt_answered, asked_answered}
use Rattle.link_model.specs.Link.{Halves}
use Rattle.link_model.specs.Frames.{Ask, Gram, halves_answered, halves_accept, halves_after, all_accepted}
use Rattle.segment_model.specs.Slaves.{Datagram, Found, grams}
use Rattle.segment_model.specs.Record.{Frame, News, Kept, is_for, gram_news, last_heard, found_news, datagram_news, back_news, heard_behind, frame_news, mails_heard, all_told, joined}

pub mails_heard-append : {M : Type 0} (ns ms : List (News M)) → mails_heard (ns ++ ms) ≡ mails_heard ns ++ mails_heard ms
mails_heard-append [] ms = refl
mails_heard-append (News.Heard m ∷ ns) ms = ap (λ l. m ∷ l) (mails_heard-append ns ms)
mails_heard-append (News.Told m ∷ ns) ms = mails_heard-append ns ms
mails_heard-append (News.Written ∷ ns) ms = mails_heard-append ns ms
mails_heard-append (News.NothingRead ∷ ns) ms = mails_heard-append ns ms
mails_heard-append (News.BoxFull full ∷ ns) ms = mails_heard-append ns ms
mails_heard-append (News.Status state refused ∷ ns) ms = mails_heard-append ns ms

pub heard_told : {M : Type 0} (ms : List M) → mails_heard (map (λ m. News.Told m) ms) ≡ []
heard_told [] = refl
heard_told (m ∷ ms) = heard_told ms

heard_heard : {M : Type 0} (ms : List M) → mails_heard (map (λ m. News.Heard m) ms) ≡ ms
heard_heard [] = refl
heard_heard (m ∷ ms) = ap (λ l. m ∷ l) (heard_heard ms)

pub heard_found : {M : Type 0} (mine zero : Bool) (found : Option Found) → mails_heard {M = M} (if mine then (if zero then [] else found_news found) else []) ≡ []
heard_found false zero found = refl
heard_found true true found = refl
heard_found true false None = refl
heard_found true false (Some (Found.State state refused)) = refl
heard_found true false (Some (Found.Full full)) = refl

heard_write : {M : Type 0} (zero : Bool) → mails_heard {M = M} (if zero then [] else News.Written ∷ []) ≡ []
heard_write true = refl
heard_write false = refl

heard_read : {M : Type 0} (last : ℕ) (zero : Bool) (mail : Option (LinkMail M)) → mails_heard (if zero then News.NothingRead ∷ [] else map (λ m. News.Heard m) (news last mail)) ≡ news last (if zero then None else mail)
heard_read last true mail = refl
heard_read last false mail = heard_heard (news last mail)

-- what a returned datagram tells is what the half accepts by it
heard_gram : {M : Type 0} (h : Halves M) (ask : Ask M) (g : Gram M) → mails_heard (gram_news h.inn.last ask g) ≡ halves_accept h ask g
heard_gram h (Ask.WriteMail m) g = heard_write (g.counter == 0)
heard_gram h Ask.ReadMail g = heard_read h.inn.last (g.counter == 0) g.mail
heard_gram h (Ask.WriteRequest bit) g = refl
heard_gram h Ask.ReadAcknowledge g = refl
heard_gram h Ask.Other g = refl

doubt_last : (h : InHalf) (c : ℕ) → (doubt_answered h c).last ≡ h.last
doubt_last h c = go (c == 0)
  where
    go : (b : Bool) → (if b then h else record h { state = InState.Asked }).last ≡ h.last
    go true = refl
    go false = refl

asked_last : (h : InHalf) (c : ℕ) (acknowledge : Bool) → (asked_answered h c acknowledge).last ≡ h.last
asked_last h c acknowledge = go (c == 0) (differs acknowledge h.bit)
  where
    go : (b d : Bool) → (if b then h else if d then h else record h { state = InState.Refetch }).last ≡ h.last
    go true d = refl
    go false true = refl
    go false false = refl

-- and the counter that the record keeps is the half's
kept_gram : {M : Type 0} (h : Halves M) (ask : Ask M) (g : Gram M) → last_heard h.inn.last ask g ≡ (halves_answered h ask g).inn.last
kept_gram h (Ask.WriteMail m) g = refl
kept_gram h Ask.ReadMail g = refl
kept_gram h (Ask.WriteRequest bit) g = sym (doubt_last h.inn g.counter)
kept_gram h Ask.ReadAcknowledge g = sym (asked_last h.inn g.counter g.acknowledge)
kept_gram h Ask.Other g = refl

kept_next : {M : Type 0} (station : ℕ) (h : Halves M) (g : Gram M) → (if g.station == station then last_heard h.inn.last g.ask g else h.inn.last) ≡ (if g.station == station then halves_answered h g.ask g else h).inn.last
kept_next station h g = go (g.station == station)
  where
    go : (b : Bool) → (if b then last_heard h.inn.last g.ask g else h.inn.last) ≡ (if b then halves_answered h g.ask g else h).inn.last
    go true = kept_gram h g.ask g
    go false = refl

heard_datagram : {M : Type 0} (station : ℕ) (h : Halves M) (d : Datagram M) → mails_heard (datagram_news station h.inn.last d) ≡ (if d.gram.station == station then halves_accept h d.gram.ask d.gram else [])
heard_datagram {M} station h d =
    mails_heard-append (if d.gram.station == station then gram_news h.inn.last d.gram.ask d.gram else []) _
    ∙ ap (λ l. mails_heard (if d.gram.station == station then gram_news h.inn.last d.gram.ask d.gram else []) ++ l) (heard_found {M = M} (is_for station d.address) (d.counter == 0) d.found)
    ∙ append-nil _ ∙ go (d.gram.station == station)
  where
    go : (b : Bool) → mails_heard (if b then gram_news h.inn.last d.gram.ask d.gram else []) ≡ (if b then halves_accept h d.gram.ask d.gram else [])
    go true = heard_gram h d.gram.ask d.gram
    go false = refl

pub heard_back : {M : Type 0} (station : ℕ) (h : Halves M) (ds : List (Datagram M)) → mails_heard (back_news station h.inn.last ds) ≡ all_accepted station h (grams ds)
heard_back station h [] = refl
heard_back {M} station h (d ∷ ds) =
    let next = if d.gram.station == station then halves_answered h d.gram.ask d.gram else h in
    mails_heard-append (datagram_news station h.inn.last d) _
    ∙ ap (λ l. l ++ mails_heard (back_news station (if d.gram.station == station then last_heard h.inn.last d.gram.ask d.gram else h.inn.last) ds)) (heard_datagram station h d)
    ∙ ap (λ l. (if d.gram.station == station then halves_accept h d.gram.ask d.gram else []) ++ l) (ap (λ k. mails_heard (back_news station k ds)) (kept_next station h d.gram) ∙ heard_back station next ds)

pub kept_back : {M : Type 0} (station : ℕ) (h : Halves M) (ds : List (Datagram M)) → heard_behind station h.inn.last ds ≡ (halves_after station h (grams ds)).inn.last
kept_back station h [] = refl
kept_back station h (d ∷ ds) =
    ap (λ k. heard_behind station k ds) (kept_next station h d.gram) ∙ kept_back station (if d.gram.station == station then halves_answered h d.gram.ask d.gram else h) ds

-- the mails that a frame lets a side hear
pub heard_frame : {M : Type 0} (station : ℕ) (kept : Kept) (h : Halves M) (f : Frame M) → h.inn.last ≡ kept.heard → mails_heard (frame_news station kept f) ≡ all_accepted station h (grams f.back)
heard_frame station kept h f e =
    let told = all_told station kept.told (grams f.sent) in
    mails_heard-append (map (λ m. News.Told m) told) (back_news station kept.heard f.back)
    ∙ ap (λ l. l ++ mails_heard (back_news station kept.heard f.back)) (heard_told told)
    ∙ ap (λ k. mails_heard (back_news station k f.back)) (sym e) ∙ heard_back station h f.back

pub joined-append : {X : Type 0} (xss : List (List X)) (xs : List X) → joined (xss ++ xs ∷ []) ≡ joined xss ++ xs
joined-append [] xs = append-nil xs
joined-append (ys ∷ xss) xs = ap (λ l. ys ++ l) (joined-append xss xs) ∙ sym (append_assoc ys (joined xss) xs)
