-- What a returned frame tells of mailbox 0: it was seen empty only where it was, by a read of its status, and not behind a write that was done.
use Rattle.std.proofs.Common.{◌≡◌, ◌⊎◌, inl, inr, ℕ, zero, suc, ◌==◌, ◌||◌, Bool, true, false, is_some, Option, Some, None, List, [], ◌∷◌, ◌++◌, map, refl, ap, sym, ◌∙◌, subst, if◌then◌else◌, eqb-true, append_assoc}
use Rattle.std.specs.Prelude.{⊤}
use Rattle.slave_parts.specs.of_link_model.Mails.{LinkMail, news}
use Rattle.slave_parts.specs.of_link_model.Link.{written}
use Rattle.slave_parts.specs.of_link_model.Frames.{Ask, Gram, node_meets, gram_meets}
use Rattle.slave_parts.proofs.of_link_model.Own.{station-gram_meets, ask-gram_meets}
use Rattle.slave_parts.specs.of_segment_model.Slaves.{Slave, Datagram, Address, Access, Found, is_meant, found_met, address_behind, slave_meets, datagram_meets, frame_after}
use Rattle.slave_parts.specs.of_segment_model.Record.{News, is_for, gram_news, found_news, last_heard, back_news}
use Rattle.slave_parts.specs.of_life_model.Lives.{ReadsFull}
use Rattle.few_replies.specs.Led.{IsSingle, AreSingle}

-- mailbox 0 was seen empty
abbrev pub sees_empty : {M : Type 0} → List (News M) → Bool
sees_empty [] = false
sees_empty (News.BoxFull true ∷ ns) = sees_empty ns
sees_empty (News.BoxFull false ∷ ns) = true
sees_empty (News.Told m ∷ ns) = sees_empty ns
sees_empty (News.Written ∷ ns) = sees_empty ns
sees_empty (News.Heard m ∷ ns) = sees_empty ns
sees_empty (News.NothingRead ∷ ns) = sees_empty ns
sees_empty (News.Status state refused ∷ ns) = sees_empty ns

-- behind the first write that was done
abbrev pub sees_late : {M : Type 0} → List (News M) → Bool
sees_late [] = false
sees_late (News.Written ∷ ns) = sees_empty ns
sees_late (News.BoxFull full ∷ ns) = sees_late ns
sees_late (News.Told m ∷ ns) = sees_late ns
sees_late (News.Heard m ∷ ns) = sees_late ns
sees_late (News.NothingRead ∷ ns) = sees_late ns
sees_late (News.Status state refused ∷ ns) = sees_late ns

empty_append : {M : Type 0} (ns ms : List (News M)) → sees_empty (ns ++ ms) ≡ sees_empty ns || sees_empty ms
empty_append [] ms = refl
empty_append (News.BoxFull true ∷ ns) ms = empty_append ns ms
empty_append (News.BoxFull false ∷ ns) ms = refl
empty_append (News.Told m ∷ ns) ms = empty_append ns ms
empty_append (News.Written ∷ ns) ms = empty_append ns ms
empty_append (News.Heard m ∷ ns) ms = empty_append ns ms
empty_append (News.NothingRead ∷ ns) ms = empty_append ns ms
empty_append (News.Status state refused ∷ ns) ms = empty_append ns ms

-- a read that was done, or not, tells nothing of mailbox 0
heard_quiet : {M : Type 0} (ms : List M) (rest : List (News M)) → (sees_empty (map (λ m. News.Heard m) ms ++ rest) ≡ sees_empty rest) × (sees_late (map (λ m. News.Heard m) ms ++ rest) ≡ sees_late rest)
heard_quiet [] rest = (refl, refl)
heard_quiet (m ∷ ms) rest = heard_quiet ms rest

-- what a datagram to a mailbox tells: it is a write that was done, or nothing of mailbox 0
gram_quiet : {M : Type 0} (last : ℕ) (a : Ask M) (g : Gram M) (rest : List (News M)) →
    (((m : LinkMail M) × (a ≡ Ask.WriteMail m)) × ((g.counter == 0) ≡ false) × (gram_news last a g ++ rest ≡ News.Written ∷ rest))
    ⊎ ((sees_empty (gram_news last a g ++ rest) ≡ sees_empty rest) × (sees_late (gram_news last a g ++ rest) ≡ sees_late rest))
gram_quiet {M} last (Ask.WriteMail m) g rest = go (g.counter == 0) refl
  where
    go : (b : Bool) → (g.counter == 0) ≡ b → (((k : LinkMail M) × (Ask.WriteMail m ≡ Ask.WriteMail k)) × ((g.counter == 0) ≡ false) × ((if b then [] else News.Written ∷ []) ++ rest ≡ News.Written ∷ rest))
        ⊎ ((sees_empty ((if b then [] else News.Written ∷ []) ++ rest) ≡ sees_empty rest) × (sees_late ((if b then [] else News.Written ∷ []) ++ rest) ≡ sees_late rest))
    go true e = inr (refl, refl)
    go false e = inl ((m, refl), e, refl)
gram_quiet {M} last Ask.ReadMail g rest = inr (go (g.counter == 0))
  where
    go : (b : Bool) → (let ns = if b then News.NothingRead ∷ [] else map (λ m. News.Heard m) (news last g.mail) in (sees_empty (ns ++ rest) ≡ sees_empty rest) × (sees_late (ns ++ rest) ≡ sees_late rest))
    go true = (refl, refl)
    go false = heard_quiet (news last g.mail) rest
gram_quiet last (Ask.WriteRequest bit) g rest = inr (refl, refl)
gram_quiet last Ask.ReadAcknowledge g rest = inr (refl, refl)
gram_quiet last Ask.Other g rest = inr (refl, refl)

-- a datagram that finds nothing before the slave meets it
abbrev pub FindsNone : {M : Type 0} → ℕ → Datagram M → Type 0
FindsNone station d = is_for station d.address ≡ true → d.found ≡ None

abbrev pub AllFindNone : {M : Type 0} → ℕ → List (Datagram M) → Type 0
AllFindNone station [] = ⊤
AllFindNone station (d ∷ ds) = FindsNone station d × AllFindNone station ds

for_behind : (station : ℕ) (a : Address) → is_for station (address_behind a) ≡ is_for station a
for_behind station (Address.Station other) = refl
for_behind station (Address.Place n) = go n
  where
    go : (k : ℕ) → is_for station (address_behind (Address.Place k)) ≡ false
    go zero = refl
    go (suc k) = refl
for_behind station Address.Passed = refl

abbrev found_part : (M : Type 0) → Bool → Bool → Option Found → List (News M)
found_part M mine none found = if mine then (if none then [] else found_news found) else []

-- a find of another kind tells nothing of it
none_part : (M : Type 0) (mine none : Bool) (rest : List (News M)) → (sees_empty (found_part M mine none None ++ rest) ≡ sees_empty rest) × (sees_late (found_part M mine none None ++ rest) ≡ sees_late rest)
none_part M false none rest = (refl, refl)
none_part M true true rest = (refl, refl)
none_part M true false rest = (refl, refl)

state_part : (M : Type 0) (mine none : Bool) (state : ℕ) (refused : Option ℕ) (rest : List (News M)) →
    (sees_empty (found_part M mine none (Some (Found.State state refused)) ++ rest) ≡ sees_empty rest) × (sees_late (found_part M mine none (Some (Found.State state refused)) ++ rest) ≡ sees_late rest)
state_part M false none state refused rest = (refl, refl)
state_part M true true state refused rest = (refl, refl)
state_part M true false state refused rest = (refl, refl)

full_part : (M : Type 0) (mine none : Bool) (rest : List (News M)) → (sees_empty (found_part M mine none (Some (Found.Full true)) ++ rest) ≡ sees_empty rest) × (sees_late (found_part M mine none (Some (Found.Full true)) ++ rest) ≡ sees_late rest)
full_part M false none rest = (refl, refl)
full_part M true true rest = (refl, refl)
full_part M true false rest = (refl, refl)

-- an empty mailbox leaves what is late to the rest, too
free_part : (M : Type 0) (mine none : Bool) (rest : List (News M)) → sees_late (found_part M mine none (Some (Found.Full false)) ++ rest) ≡ sees_late rest
free_part M false none rest = refl
free_part M true true rest = refl
free_part M true false rest = refl

-- what a returned datagram tells, in two parts
abbrev found_of : {M : Type 0} → ℕ → Datagram M → List (News M)
found_of {M} station d = found_part M (is_for station d.address) (d.counter == 0) d.found

abbrev gram_of : {M : Type 0} → ℕ → ℕ → Gram M → List (News M)
gram_of station last g = if g.station == station then gram_news last g.ask g else []

-- its part of the mailboxes is a write of mailbox 0 that was done, or tells nothing of it
abbrev Grams : {M : Type 0} → ℕ → ℕ → Datagram M → Gram M → List (News M) → Type 0
Grams {M} station last d g rest =
    (((m : LinkMail M) × (d.gram.ask ≡ Ask.WriteMail m)) × ((d.gram.station == station) ≡ true) × (gram_of station last g ++ rest ≡ News.Written ∷ rest))
    ⊎ ((sees_empty (gram_of station last g ++ rest) ≡ sees_empty rest) × (sees_late (gram_of station last g ++ rest) ≡ sees_late rest))

station_is : (station : ℕ) (a : Address) → is_for station a ≡ true → a ≡ Address.Station station
station_is station (Address.Station other) e = ap (λ n. Address.Station n) (eqb-true other station e)
station_is station (Address.Place n) e = absurd (let bad : false ≡ true = e in cc)
station_is station Address.Passed e = absurd (let bad : false ≡ true = e in cc)

module _ {V M : Type 0} (station : ℕ) where
  -- what a datagram finds: nothing, a state, or whether mailbox 0 is full, by a read of its status
  abbrev Finds : Slave V M → Datagram M → Option Found → Type 0
  Finds s d found = (found ≡ None) ⊎ (((state : ℕ) × (refused : Option ℕ) × (found ≡ Some (Found.State state refused))) ⊎ ((d.access ≡ Access.ReadFull) × (found ≡ Some (Found.Full (is_some s.node.out.box)))))

  finds : (s : Slave V M) (d : Datagram M) → d.found ≡ None → Finds s d (datagram_meets station s d).found
  finds s d none = go (is_meant s.registers d.address) d.access refl
    where
      go : (b : Bool) (access : Access) → d.access ≡ access → Finds s d (if b then found_met s d.found access else d.found)
      go false access e = inl none
      go true (Access.SetStation at) e = inl none
      go true (Access.SetFirst right) e = inl none
      go true (Access.SetSecond right) e = inl none
      go true (Access.SetControl target acknowledge) e = inl none
      go true Access.ReadState e = inr (inl (s.registers.state, s.registers.refused, refl))
      go true Access.ReadFull e = inr (inr (e, refl))
      go true Access.Elsewhere e = inl none

  -- it tells nothing of mailbox 0, or it saw it empty by its status
  abbrev Tells : Slave V M → Datagram M → List (News M) → List (News M) → Type 0
  Tells s d part rest =
      ((sees_empty (part ++ rest) ≡ sees_empty rest) × (sees_late (part ++ rest) ≡ sees_late rest))
      ⊎ ((is_for station d.address ≡ true) × (d.access ≡ Access.ReadFull) × (s.node.out.box ≡ None) × (sees_late (part ++ rest) ≡ sees_late rest))

  tells : (s : Slave V M) (d : Datagram M) → FindsNone station d → (rest : List (News M)) → Tells s d (found_of station (datagram_meets station s d)) rest
  tells s d clean rest = go (is_for station d.address) refl
    where
      e : Datagram M
      e = datagram_meets station s d

      mine : (b : Bool) → is_for station d.address ≡ b → is_for station e.address ≡ b
      mine b f = for_behind station d.address ∙ f

      empty_box : (box : Option (LinkMail M)) → is_some box ≡ false → box ≡ None
      empty_box None f = refl
      empty_box (Some m) f = absurd (let bad : true ≡ false = f in cc)

      by_find : is_for station d.address ≡ true → Finds s d e.found → Tells s d (found_of station e) rest
      by_find f (inl none) = subst (λ l. Tells s d (found_part M (is_for station e.address) (e.counter == 0) l) rest) (sym none) (inl (none_part M (is_for station e.address) (e.counter == 0) rest))
      by_find f (inr (inl k)) = subst (λ l. Tells s d (found_part M (is_for station e.address) (e.counter == 0) l) rest) (sym k.2) (inl (state_part M (is_for station e.address) (e.counter == 0) k.0 k.1 rest))
      by_find f (inr (inr k)) = subst (λ l. Tells s d (found_part M (is_for station e.address) (e.counter == 0) l) rest) (sym k.1) (by_box (is_some s.node.out.box) refl)
        where
          by_box : (b : Bool) → is_some s.node.out.box ≡ b → Tells s d (found_part M (is_for station e.address) (e.counter == 0) (Some (Found.Full b))) rest
          by_box true g = inl (full_part M (is_for station e.address) (e.counter == 0) rest)
          by_box false g = inr (f, k.0, empty_box s.node.out.box g, free_part M (is_for station e.address) (e.counter == 0) rest)

      go : (b : Bool) → is_for station d.address ≡ b → Tells s d (found_of station e) rest
      go true f = by_find f (finds s d (clean f))
      go false f = subst (λ b. Tells s d (found_part M b (e.counter == 0) e.found) rest) (sym (mine false f)) (inl (refl, refl))

  -- a mailbox that is full stays so in a frame, and is full behind a write
  met_full : (s : Slave V M) (d : Datagram M) (b : LinkMail M) → s.node.out.box ≡ Some b → (slave_meets station s d).node.out.box ≡ Some b
  met_full s d b e = go (d.gram.station == station)
    where
      stays : (a : Ask M) → (node_meets s.node a).out.box ≡ Some b
      stays (Ask.WriteMail m) = ap (λ (box : Option (LinkMail M)). (written s.node.out box m).box) e ∙ e
      stays Ask.ReadMail = e
      stays (Ask.WriteRequest bit) = e
      stays Ask.ReadAcknowledge = e
      stays Ask.Other = e

      go : (c : Bool) → (if c then node_meets s.node d.gram.ask else s.node).out.box ≡ Some b
      go true = stays d.gram.ask
      go false = e

  written_full : (s : Slave V M) (d : Datagram M) (m : LinkMail M) → (d.gram.station == station) ≡ true → d.gram.ask ≡ Ask.WriteMail m → (b : LinkMail M) × ((slave_meets station s d).node.out.box ≡ Some b)
  written_full s d m at e = subst (λ a. (b : LinkMail M) × ((if d.gram.station == station then node_meets s.node a else s.node).out.box ≡ Some b)) (sym e)
      (subst (λ c. (b : LinkMail M) × ((if c then node_meets s.node (Ask.WriteMail m) else s.node).out.box ≡ Some b)) (sym at) (go s.node.out.box refl))
    where
      go : (box : Option (LinkMail M)) → s.node.out.box ≡ box → (b : LinkMail M) × ((written s.node.out s.node.out.box m).box ≡ Some b)
      go None f = (m, ap (λ (box : Option (LinkMail M)). (written s.node.out box m).box) f)
      go (Some b) f = (b, ap (λ (box : Option (LinkMail M)). (written s.node.out box m).box) f ∙ f)

  grams_tell : (last : ℕ) (s : Slave V M) (d : Datagram M) (rest : List (News M)) → Grams station last d (datagram_meets station s d).gram rest
  grams_tell last s d rest = go (d.gram.station == station) refl
    where
      met : Gram M
      met = gram_meets s.node d.gram.ask d.gram

      mine : (d.gram.station == station) ≡ true → (met.station == station) ≡ true
      mine f = ap (λ k. k == station) (station-gram_meets s.node d.gram.ask d.gram) ∙ f

      by_quiet : (d.gram.station == station) ≡ true →
          ((((m : LinkMail M) × (met.ask ≡ Ask.WriteMail m)) × ((met.counter == 0) ≡ false) × (gram_news last met.ask met ++ rest ≡ News.Written ∷ rest))
          ⊎ ((sees_empty (gram_news last met.ask met ++ rest) ≡ sees_empty rest) × (sees_late (gram_news last met.ask met ++ rest) ≡ sees_late rest))) → Grams station last d met rest
      by_quiet f (inl k) = inl ((k.0.0, sym (ask-gram_meets s.node d.gram.ask d.gram) ∙ k.0.1), f, ap (λ b. (if b then gram_news last met.ask met else []) ++ rest) (mine f) ∙ k.2)
      by_quiet f (inr k) = inr (
        ap (λ b. sees_empty ((if b then gram_news last met.ask met else []) ++ rest)) (mine f) ∙ k.0,
        ap (λ b. sees_late ((if b then gram_news last met.ask met else []) ++ rest)) (mine f) ∙ k.1,
      )

      go : (b : Bool) → (d.gram.station == station) ≡ b → Grams station last d (if b then met else d.gram) rest
      go true f = by_quiet f (gram_quiet last met.ask met rest)
      go false f = inr (
        ap (λ b. sees_empty ((if b then gram_news last d.gram.ask d.gram else []) ++ rest)) f,
        ap (λ b. sees_late ((if b then gram_news last d.gram.ask d.gram else []) ++ rest)) f,
      )

  abbrev next_last : ℕ → Slave V M → Datagram M → ℕ
  next_last last s d =
      if (datagram_meets station s d).gram.station == station then last_heard last (datagram_meets station s d).gram.ask (datagram_meets station s d).gram else last

  abbrev rest_of : ℕ → Slave V M → Datagram M → List (Datagram M) → List (News M)
  rest_of last s d ds = back_news station (next_last last s d) (frame_after station (slave_meets station s d) ds)

  parts : (last : ℕ) (s : Slave V M) (d : Datagram M) (ds : List (Datagram M)) →
      back_news station last (frame_after station s (d ∷ ds)) ≡ gram_of station last (datagram_meets station s d).gram ++ (found_of station (datagram_meets station s d) ++ rest_of last s d ds)
  parts last s d ds = append_assoc (gram_of station last (datagram_meets station s d).gram) (found_of station (datagram_meets station s d)) (rest_of last s d ds)

  -- the mailboxes' part leaves whether it was seen empty
  gram_leaves : (last : ℕ) (s : Slave V M) (d : Datagram M) (rest : List (News M)) → sees_empty (gram_of station last (datagram_meets station s d).gram ++ rest) ≡ sees_empty rest
  gram_leaves last s d rest = elim (grams_tell last s d rest) [
    | inl k ↦ ap sees_empty k.2
    | inr k ↦ k.0
  ]

  -- WHERE MAILBOX 0 IS FULL it is not seen empty
  pub full_tells : (last : ℕ) (s : Slave V M) (ds : List (Datagram M)) (b : LinkMail M) → s.node.out.box ≡ Some b → AllFindNone station ds → sees_empty (back_news station last (frame_after station s ds)) ≡ false
  full_tells last s [] b e clean = refl
  full_tells last s (d ∷ ds) b e clean =
      ap sees_empty (parts last s d ds) ∙ gram_leaves last s d (found_of station (datagram_meets station s d) ++ rest_of last s d ds) ∙ found (tells s d clean.0 (rest_of last s d ds)) ∙ full_tells (next_last last s d) (slave_meets station s d) ds b (met_full s d b e) clean.1
    where
      found : Tells s d (found_of station (datagram_meets station s d)) (rest_of last s d ds) → sees_empty (found_of station (datagram_meets station s d) ++ rest_of last s d ds) ≡ sees_empty (rest_of last s d ds)
      found (inl k) = k.0
      found (inr k) = absurd (let bad : Some b ≡ None = sym e ∙ k.2 in cc)

  pub empty_was : (last : ℕ) (s : Slave V M) (ds : List (Datagram M)) → AllFindNone station ds → sees_empty (back_news station last (frame_after station s ds)) ≡ true → s.node.out.box ≡ None
  empty_was last s ds clean sees = go s.node.out.box refl
    where
      go : (box : Option (LinkMail M)) → s.node.out.box ≡ box → box ≡ None
      go None e = refl
      go (Some b) e = absurd (let bad : true ≡ false = sym sees ∙ full_tells last s ds b e clean in cc)

  -- BEHIND A WRITE THAT WAS DONE it is not seen empty
  pub late_tells : (last : ℕ) (s : Slave V M) (ds : List (Datagram M)) → AllFindNone station ds → AreSingle ds → sees_late (back_news station last (frame_after station s ds)) ≡ false
  late_tells last s [] clean single = refl
  late_tells last s (d ∷ ds) clean single =
      ap sees_late (parts last s d ds) ∙ go (grams_tell last s d (found_of station (datagram_meets station s d) ++ rest_of last s d ds)) (tells s d clean.0 (rest_of last s d ds)) single.0
      (late_tells (next_last last s d) (slave_meets station s d) ds clean.1 single.1)
    where
      rest : List (News M)
      rest = rest_of last s d ds

      part : List (News M)
      part = found_of station (datagram_meets station s d)

      full : (m : LinkMail M) → (d.gram.station == station) ≡ true → d.gram.ask ≡ Ask.WriteMail m → sees_empty rest ≡ false
      full m at ask = let w = written_full s d m at ask in full_tells (next_last last s d) (slave_meets station s d) ds w.0 w.1 clean.1

      go : Grams station last d (datagram_meets station s d).gram (part ++ rest) → Tells s d part rest → IsSingle d → sees_late rest ≡ false → sees_late (gram_of station last (datagram_meets station s d).gram ++ (part ++ rest)) ≡ false
      go (inl k) t (inl other) later = absurd (let bad : Ask.WriteMail k.0.0 ≡ Ask.Other = sym k.0.1 ∙ other in cc)
      go (inl k) (inl t) (inr e) later = ap sees_late k.2 ∙ t.0 ∙ full k.0.0 k.1 k.0.1
      go (inl k) (inr t) (inr e) later = absurd (let bad : Access.ReadFull ≡ Access.Elsewhere = sym t.1 ∙ e in cc)
      go (inr k) (inl t) o later = k.1 ∙ t.1 ∙ later
      go (inr k) (inr t) o later = k.1 ∙ t.3 ∙ later

  -- WHERE IT IS SEEN EMPTY its status was read
  pub status_read : (last : ℕ) (s : Slave V M) (ds : List (Datagram M)) → AllFindNone station ds → sees_empty (back_news station last (frame_after station s ds)) ≡ true → ReadsFull station ds
  status_read last s [] clean sees = absurd (let bad : false ≡ true = sees in cc)
  status_read last s (d ∷ ds) clean sees =
      go (tells s d clean.0 (rest_of last s d ds)) (sym (gram_leaves last s d (found_of station (datagram_meets station s d) ++ rest_of last s d ds)) ∙ sym (ap sees_empty (parts last s d ds)) ∙ sees)
      (λ e. status_read (next_last last s d) (slave_meets station s d) ds clean.1 e)
    where
      go : Tells s d (found_of station (datagram_meets station s d)) (rest_of last s d ds) → sees_empty (found_of station (datagram_meets station s d) ++ rest_of last s d ds) ≡ true → (sees_empty (rest_of last s d ds) ≡ true → ReadsFull station ds) →
          ((d.address ≡ Address.Station station) × (d.access ≡ Access.ReadFull)) ⊎ ReadsFull station ds
      go (inl k) e later = inr (later (sym k.0 ∙ e))
      go (inr k) e later = inl (station_is station d.address k.0, k.1)
