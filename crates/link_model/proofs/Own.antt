-- A frame does to a station what the datagrams to that station do alone.
use Rattle.std.proofs.Common.{◌≡◌, ◌≢◌, ℕ, ◌==◌, Bool, true, false, Option, Some, None, List, [], ◌∷◌, ◌++◌, refl, ap, sym, ◌∙◌, if◌then◌else◌, eqb-true, append-nil}
use Rattle.link_model.specs.Mails.{LinkMail}
use Rattle.link_model.specs.Slave.{Node}
use Rattle.link_model.specs.Link.{Halves}
use Rattle.link_model.specs.Frames.{Ask, Gram, node_meets, gram_meets, write_done, read_done, node_after, grams_after, halves_answered, halves_accept, halves_lost, halves_after, all_accepted, halves_without, own}

-- the slave, the datagrams and the halves, where all datagrams are the station's own
abbrev pub node_all : {B S : Type 0} → Node B S → List (Gram B) → Node B S
node_all n [] = n
node_all n (g ∷ gs) = node_all (node_meets n g.ask) gs

abbrev pub grams_all : {B S : Type 0} → Node B S → List (Gram B) → List (Gram B)
grams_all n [] = []
grams_all n (g ∷ gs) = gram_meets n g.ask g ∷ grams_all (node_meets n g.ask) gs

abbrev pub halves_all : {B : Type 0} → Halves B → List (Gram B) → Halves B
halves_all h [] = h
halves_all h (g ∷ gs) = halves_all (halves_answered h g.ask g) gs

abbrev pub accepted_all : {B : Type 0} → Halves B → List (Gram B) → List B
accepted_all h [] = []
accepted_all h (g ∷ gs) = halves_accept h g.ask g ++ accepted_all (halves_answered h g.ask g) gs

abbrev pub lost_all : {B : Type 0} → Halves B → List (Gram B) → Halves B
lost_all h [] = h
lost_all h (g ∷ gs) = lost_all (halves_lost h g.ask) gs

pub node_after-own : {B S : Type 0} (station : ℕ) (n : Node B S) (gs : List (Gram B)) → node_after station n gs ≡ node_all n (own station gs)
node_after-own station n [] = refl
node_after-own {B} {S} station n (g ∷ gs) = go (g.station == station) (node_after-own station (node_meets n g.ask) gs) (node_after-own station n gs)
  where
    go : (b : Bool) → node_after station (node_meets n g.ask) gs ≡ node_all (node_meets n g.ask) (own station gs) → node_after station n gs ≡ node_all n (own station gs) → node_after station (if b then node_meets n g.ask else n) gs ≡ node_all n (if b then g ∷ own station gs else own station gs)
    go true mine other = mine
    go false mine other = other

pub halves_after-own : {B : Type 0} (station : ℕ) (h : Halves B) (gs : List (Gram B)) → halves_after station h gs ≡ halves_all h (own station gs)
halves_after-own station h [] = refl
halves_after-own {B} station h (g ∷ gs) = go (g.station == station) (halves_after-own station (halves_answered h g.ask g) gs) (halves_after-own station h gs)
  where
    go : (b : Bool) → halves_after station (halves_answered h g.ask g) gs ≡ halves_all (halves_answered h g.ask g) (own station gs) → halves_after station h gs ≡ halves_all h (own station gs) → halves_after station (if b then halves_answered h g.ask g else h) gs ≡ halves_all h (if b then g ∷ own station gs else own station gs)
    go true mine other = mine
    go false mine other = other

pub halves_without-own : {B : Type 0} (station : ℕ) (h : Halves B) (gs : List (Gram B)) → halves_without station h gs ≡ lost_all h (own station gs)
halves_without-own station h [] = refl
halves_without-own {B} station h (g ∷ gs) = go (g.station == station) (halves_without-own station (halves_lost h g.ask) gs) (halves_without-own station h gs)
  where
    go : (b : Bool) → halves_without station (halves_lost h g.ask) gs ≡ lost_all (halves_lost h g.ask) (own station gs) → halves_without station h gs ≡ lost_all h (own station gs) → halves_without station (if b then halves_lost h g.ask else h) gs ≡ lost_all h (if b then g ∷ own station gs else own station gs)
    go true mine other = mine
    go false mine other = other

pub all_accepted-own : {B : Type 0} (station : ℕ) (h : Halves B) (gs : List (Gram B)) → all_accepted station h gs ≡ accepted_all h (own station gs)
all_accepted-own station h [] = refl
all_accepted-own {B} station h (g ∷ gs) = go (g.station == station) (all_accepted-own station (halves_answered h g.ask g) gs) (all_accepted-own station h gs)
  where
    go : (b : Bool) → all_accepted station (halves_answered h g.ask g) gs ≡ accepted_all (halves_answered h g.ask g) (own station gs) → all_accepted station h gs ≡ accepted_all h (own station gs) → (if b then halves_accept h g.ask g else []) ++ all_accepted station (if b then halves_answered h g.ask g else h) gs ≡ accepted_all h (if b then g ∷ own station gs else own station gs)
    go true mine other = ap (λ xs. halves_accept h g.ask g ++ xs) mine
    go false mine other = other

-- a slave leaves the station of a datagram
pub station-gram_meets : {B S : Type 0} (n : Node B S) (ask : Ask B) (g : Gram B) → (gram_meets n ask g).station ≡ g.station
station-gram_meets {B} n (Ask.WriteMail m) g = go n.out.box
  where
    go : (box : Option (LinkMail B)) → (write_done g box).station ≡ g.station
    go None = refl
    go (Some stands) = refl
station-gram_meets {B} n Ask.ReadMail g = go n.inn.box
  where
    go : (box : Option (LinkMail B)) → (read_done g box).station ≡ g.station
    go None = refl
    go (Some stands) = refl
station-gram_meets n (Ask.WriteRequest bit) g = refl
station-gram_meets n Ask.ReadAcknowledge g = refl
station-gram_meets n Ask.Other g = refl

-- a datagram at the head of a frame, by what the test of its station says
pub own-mine : {B : Type 0} (station : ℕ) (g : Gram B) (gs : List (Gram B)) → (g.station == station) ≡ true → own station (g ∷ gs) ≡ g ∷ own station gs
own-mine station g gs e = ap (λ b. if b then g ∷ own station gs else own station gs) e

pub own-foreign : {B : Type 0} (station : ℕ) (g : Gram B) (gs : List (Gram B)) → (g.station == station) ≡ false → own station (g ∷ gs) ≡ own station gs
own-foreign station g gs e = ap (λ b. if b then g ∷ own station gs else own station gs) e

-- behind the slave of this station its datagrams are those that it met
pub own-grams_after : {B S : Type 0} (station : ℕ) (n : Node B S) (gs : List (Gram B)) → own station (grams_after station n gs) ≡ grams_all n (own station gs)
own-grams_after station n [] = refl
own-grams_after {B} {S} station n (g ∷ gs) = go (g.station == station) refl (own-grams_after station (node_meets n g.ask) gs) (own-grams_after station n gs)
  where
    go : (b : Bool) → (g.station == station) ≡ b → own station (grams_after station (node_meets n g.ask) gs) ≡ grams_all (node_meets n g.ask) (own station gs) → own station (grams_after station n gs) ≡ grams_all n (own station gs) → own station ((if b then gram_meets n g.ask g else g) ∷ grams_after station (if b then node_meets n g.ask else n) gs) ≡ grams_all n (if b then g ∷ own station gs else own station gs)
    go true e mine other = own-mine station (gram_meets n g.ask g) _ (ap (λ k. k == station) (station-gram_meets n g.ask g) ∙ e) ∙ ap (λ xs. gram_meets n g.ask g ∷ xs) mine
    go false e mine other = own-foreign station g _ e ∙ other

-- behind the slave of another station they are as they were
pub own-grams_other : {B S : Type 0} (station other : ℕ) (n : Node B S) (gs : List (Gram B)) → station ≢ other → own station (grams_after other n gs) ≡ own station gs
own-grams_other station other n [] ne = refl
own-grams_other {B} {S} station other n (g ∷ gs) ne = go (g.station == other) (g.station == station) refl refl (own-grams_other station other (node_meets n g.ask) gs ne) (own-grams_other station other n gs ne)
  where
    go : (b c : Bool) → (g.station == other) ≡ b → (g.station == station) ≡ c → own station (grams_after other (node_meets n g.ask) gs) ≡ own station gs → own station (grams_after other n gs) ≡ own station gs → own station ((if b then gram_meets n g.ask g else g) ∷ grams_after other (if b then node_meets n g.ask else n) gs) ≡ (if c then g ∷ own station gs else own station gs)
    go true true e f met same = absurd (ne (sym (eqb-true g.station station f) ∙ eqb-true g.station other e))
    go true false e f met same = own-foreign station (gram_meets n g.ask g) _ (ap (λ k. k == station) (station-gram_meets n g.ask g) ∙ f) ∙ met
    go false true e f met same = own-mine station g _ f ∙ ap (λ xs. g ∷ xs) same
    go false false e f met same = own-foreign station g _ f ∙ same

-- and its ask
pub ask-gram_meets : {B S : Type 0} (n : Node B S) (ask : Ask B) (g : Gram B) → (gram_meets n ask g).ask ≡ g.ask
ask-gram_meets {B} n (Ask.WriteMail m) g = go n.out.box
  where
    go : (box : Option (LinkMail B)) → (write_done g box).ask ≡ g.ask
    go None = refl
    go (Some stands) = refl
ask-gram_meets {B} n Ask.ReadMail g = go n.inn.box
  where
    go : (box : Option (LinkMail B)) → (read_done g box).ask ≡ g.ask
    go None = refl
    go (Some stands) = refl
ask-gram_meets n (Ask.WriteRequest bit) g = refl
ask-gram_meets n Ask.ReadAcknowledge g = refl
ask-gram_meets n Ask.Other g = refl

-- A frame with one datagram of the station, or with none, at a master's halves.
pub halves_after-one : {B : Type 0} (station : ℕ) (h : Halves B) (gs : List (Gram B)) (g : Gram B) → own station gs ≡ g ∷ [] → halves_after station h gs ≡ halves_answered h g.ask g
halves_after-one station h gs g e = halves_after-own station h gs ∙ ap (halves_all h) e

pub halves_after-none : {B : Type 0} (station : ℕ) (h : Halves B) (gs : List (Gram B)) → own station gs ≡ [] → halves_after station h gs ≡ h
halves_after-none station h gs e = halves_after-own station h gs ∙ ap (halves_all h) e

pub halves_without-one : {B : Type 0} (station : ℕ) (h : Halves B) (gs : List (Gram B)) (g : Gram B) → own station gs ≡ g ∷ [] → halves_without station h gs ≡ halves_lost h g.ask
halves_without-one station h gs g e = halves_without-own station h gs ∙ ap (lost_all h) e

pub halves_without-none : {B : Type 0} (station : ℕ) (h : Halves B) (gs : List (Gram B)) → own station gs ≡ [] → halves_without station h gs ≡ h
halves_without-none station h gs e = halves_without-own station h gs ∙ ap (lost_all h) e

pub all_accepted-one : {B : Type 0} (station : ℕ) (h : Halves B) (gs : List (Gram B)) (g : Gram B) → own station gs ≡ g ∷ [] → all_accepted station h gs ≡ halves_accept h g.ask g
all_accepted-one station h gs g e = all_accepted-own station h gs ∙ ap (accepted_all h) e ∙ append-nil (halves_accept h g.ask g)

pub all_accepted-none : {B : Type 0} (station : ℕ) (h : Halves B) (gs : List (Gram B)) → own station gs ≡ [] → all_accepted station h gs ≡ []
all_accepted-none station h gs e = all_accepted-own station h gs ∙ ap (accepted_all h) e
