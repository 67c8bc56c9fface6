-- What the slave may still have withdrawn: where an empty read of mailbox 1 counts, nothing.
use Rattle.std.proofs.Common.{◌≡◌, ℕ, ◌==◌, ◌&&◌, ◌||◌, Bool, true, false, not, is_some, Option, Some, None, List, [], ◌∷◌, ◌++◌, map, refl, ap, ap₂, sym, ◌∙◌, subst, if◌then◌else◌}
use Rattle.slave_parts.specs.of_link_model.Mails.{LinkMail, news, differs}
use Rattle.slave_parts.specs.of_link_model.Master.{InHalf, InState, in_lost}
use Rattle.slave_parts.specs.of_link_model.Slave.{InSide}
use Rattle.slave_parts.specs.of_link_model.Link.{Fate, in_half_after, in_met}
use Rattle.slave_parts.specs.of_link_model.Agree.{Knows}
use Rattle.slave_parts.specs.of_link_model.Frames.{Ask, Gram, own}
use Rattle.slave_parts.specs.of_segment_model.Slaves.{Datagram, Found, grams}
use Rattle.slave_parts.specs.of_segment_model.Record.{News, is_for, is_read, did_read, gram_news, found_news, datagram_news, last_heard, back_news}
use Rattle.few_replies.proofs.Ways.{found_empty, was_read, reads_in}
use Rattle.few_replies.proofs.Passings.{reads_nothing}

-- an empty mailbox 1 has nothing withdrawn behind it
abbrev pub Shown : {M : Type 0} → InSide M → Type 0
Shown s = s.box ≡ None → s.withdrawn ≡ None

-- so it is where an empty read counts, and where the half knows that its request was acknowledged
abbrev pub Hidden : {M : Type 0} → Bool → InState → InHalf → InSide M → Type 0
Hidden counts InState.Clear h s = counts ≡ true → Shown s
Hidden counts InState.Doubt h s = s.acknowledge ≡ h.bit → Shown s
Hidden counts InState.Asked h s = s.acknowledge ≡ h.bit → Shown s
Hidden counts InState.Refetch h s = Shown s

abbrev pub IsHidden : {M : Type 0} → Bool → InHalf → InSide M → Type 0
IsHidden counts h s = Hidden counts h.state h s

same_bits : (a b : Bool) → differs a b ≡ false → a ≡ b
same_bits true true e = refl
same_bits false false e = refl
same_bits true false e = absurd (let bad : true ≡ false = e in cc)
same_bits false true e = absurd (let bad : true ≡ false = e in cc)

no_both : (a b : Bool) → a ≡ b → a ≡ not b → ⊥
no_both true true e f = let bad : true ≡ false = f in cc
no_both true false e f = let bad : true ≡ false = e in cc
no_both false true e f = let bad : false ≡ true = e in cc
no_both false false e f = let bad : false ≡ true = f in cc

module _ {M : Type 0} (counts : Bool) (h : InHalf) (s : InSide M) where
  -- a read that was done counts no further empty one
  read_on : (box : Option (LinkMail M)) → s.box ≡ box → (counts ≡ true → Shown s) → counts && not (is_some box) ≡ true → s.withdrawn ≡ None
  read_on None e shown f = shown (both counts f) e
    where
      both : (c : Bool) → c && true ≡ true → c ≡ true
      both true f = refl
      both false f = f
  read_on (Some m) e shown f = absurd (no counts f)
    where
      no : (c : Bool) → c && false ≡ true → ⊥
      no true f = let bad : false ≡ true = f in cc
      no false f = let bad : false ≡ true = f in cc

  pub answers : (state : InState) → h.state ≡ state → Hidden counts state h s →
      (let i = in_half_after h state s.box s.acknowledge Fate.Pass in Hidden (counts && not (reads_in state && is_some s.box)) i.state i (in_met s state h.bit))
  answers InState.Clear e k = λ c none. read_on s.box refl k c
  answers InState.Doubt e k = k
  answers InState.Asked e k = go (differs s.acknowledge h.bit) refl
    where
      go : (b : Bool) → differs s.acknowledge h.bit ≡ b → (let i = if b then h else record h { state = InState.Refetch } in Hidden (counts && true) i.state i s)
      go true f = subst (λ st. Hidden (counts && true) st h s) (sym e) k
      go false f = k (same_bits s.acknowledge h.bit f)
  answers InState.Refetch e k = λ c none. read_on s.box refl (λ z. k) c

  -- a lost one, met or not
  pub loses : (state : InState) → Knows state h s → Hidden counts state h s → (met : Bool) → (let i = in_lost h state in h.state ≡ state → Hidden counts i.state i (if met then in_met s state h.bit else s))
  loses InState.Clear knows k true e = λ f. absurd (no_both s.acknowledge h.bit knows.2 f)
  loses InState.Clear knows k false e = λ f. absurd (no_both s.acknowledge h.bit knows.2 f)
  loses InState.Doubt knows k true e = subst (λ st. Hidden counts st h (record s { request = h.bit })) (sym e) k
  loses InState.Doubt knows k false e = subst (λ st. Hidden counts st h s) (sym e) k
  loses InState.Asked knows k true e = subst (λ st. Hidden counts st h s) (sym e) k
  loses InState.Asked knows k false e = subst (λ st. Hidden counts st h s) (sym e) k
  loses InState.Refetch knows k true e = λ f. absurd (no_both s.acknowledge h.bit knows.1 f)
  loses InState.Refetch knows k false e = λ f. absurd (no_both s.acknowledge h.bit knows.1 f)

-- what a frame tells of its reads is what the datagrams to the station tell
or_false : (b : Bool) → b || false ≡ b
or_false true = refl
or_false false = refl

pub read_own : {M : Type 0} (station : ℕ) (gs : List (Gram M)) → did_read station gs ≡ was_read (own station gs)
read_own station [] = refl
read_own station (g ∷ gs) = go (g.station == station) (is_read g.ask) (g.counter == 0) (read_own station gs) (refl, refl)
  where
    either : (b c : Bool) → did_read station gs ≡ was_read (own station gs) → (if b && not c then true else did_read station gs) ≡ (b && not c) || was_read (own station gs)
    either true true e = e
    either true false e = refl
    either false c e = e

    go : (a b c : Bool) → did_read station gs ≡ was_read (own station gs) → (is_read g.ask ≡ b) × ((g.counter == 0) ≡ c) → (if a && b && not c then true else did_read station gs) ≡ was_read (if a then g ∷ own station gs else own station gs)
    go true b c e f = either b c e ∙ ap₂ (λ (k l : Bool). (k && not l) || was_read (own station gs)) (sym f.0) (sym f.1)
    go false b c e f = e

nothing_append : {M : Type 0} (ns ms : List (News M)) → reads_nothing (ns ++ ms) ≡ reads_nothing ns || reads_nothing ms
nothing_append [] ms = refl
nothing_append (News.NothingRead ∷ ns) ms = refl
nothing_append (News.BoxFull full ∷ ns) ms = nothing_append ns ms
nothing_append (News.Told m ∷ ns) ms = nothing_append ns ms
nothing_append (News.Written ∷ ns) ms = nothing_append ns ms
nothing_append (News.Heard m ∷ ns) ms = nothing_append ns ms
nothing_append (News.Status state refused ∷ ns) ms = nothing_append ns ms

heard_nothing : {M : Type 0} (ms : List M) → reads_nothing (map (λ m. News.Heard m) ms) ≡ false
heard_nothing [] = refl
heard_nothing (m ∷ ms) = heard_nothing ms

gram_nothing : {M : Type 0} (last : ℕ) (a : Ask M) (g : Gram M) → reads_nothing (gram_news last a g) ≡ is_read a && (g.counter == 0)
gram_nothing {M} last (Ask.WriteMail m) g = go (g.counter == 0)
  where
    go : (b : Bool) → reads_nothing {M = M} (if b then [] else News.Written ∷ []) ≡ false
    go true = refl
    go false = refl
gram_nothing last Ask.ReadMail g = go (g.counter == 0)
  where
    go : (b : Bool) → reads_nothing (if b then News.NothingRead ∷ [] else map (λ m. News.Heard m) (news last g.mail)) ≡ b
    go true = refl
    go false = heard_nothing (news last g.mail)
gram_nothing last (Ask.WriteRequest bit) g = refl
gram_nothing last Ask.ReadAcknowledge g = refl
gram_nothing last Ask.Other g = refl

found_nothing : (M : Type 0) (mine none : Bool) (found : Option Found) → reads_nothing {M = M} (if mine then (if none then [] else found_news found) else []) ≡ false
found_nothing M false none found = refl
found_nothing M true true found = refl
found_nothing M true false None = refl
found_nothing M true false (Some (Found.State state refused)) = refl
found_nothing M true false (Some (Found.Full full)) = refl

pub nothing_read : {M : Type 0} (station last : ℕ) (ds : List (Datagram M)) → reads_nothing (back_news station last ds) ≡ found_empty (own station (grams ds))
nothing_read station last [] = refl
nothing_read {M} station last (d ∷ ds) =
    nothing_append (datagram_news station last d) rest
    ∙ ap (λ b. b || reads_nothing rest) (nothing_append (if d.gram.station == station then gram_news last d.gram.ask d.gram else []) _ ∙ ap (λ b. reads_nothing (if d.gram.station == station then gram_news last d.gram.ask d.gram else []) || b) (found_nothing M (is_for station d.address) (d.counter == 0) d.found) ∙ or_false _)
    ∙ go (d.gram.station == station) (nothing_read station (if d.gram.station == station then last_heard last d.gram.ask d.gram else last) ds)
  where
    rest : List (News M)
    rest = back_news station (if d.gram.station == station then last_heard last d.gram.ask d.gram else last) ds

    go : (b : Bool) → reads_nothing rest ≡ found_empty (own station (grams ds)) → reads_nothing (if b then gram_news last d.gram.ask d.gram else []) || reads_nothing rest ≡ found_empty (if b then d.gram ∷ own station (grams ds) else own station (grams ds))
    go true e = ap₂ (λ (a c : Bool). a || c) (gram_nothing last d.gram.ask d.gram) e
    go false e = e
