-- WHAT A FRAME TELLS as it comes back is what it told as it was sent.
use Rattle.std.proofs.Common.{◌≡◌, inl, inr, ℕ, ◌==◌, ◌&&◌, Bool, true, false, not, List, [], ◌∷◌, ◌++◌, map, refl, ap, ap₂, sym, ◌∙◌, if◌then◌else◌}
use Rattle.served_places.specs.of_life_model.Own.{own, IsSeen, AreSeen}
use Rattle.served_places.proofs.of_life_model.Owns.{own-told}
use Rattle.served_places.specs.of_link_model.Frames.{Ask, gram_meets}
use Rattle.served_places.proofs.of_link_model.Own.{station-gram_meets, ask-gram_meets}
use Rattle.run_work.specs.of_few_replies.Led.{counted_news}
use Rattle.served_places.specs.of_segment_model.Record.{News, is_for, is_read, mail_told, last_told, all_told, told_behind, did_read, without_empty}
use Rattle.served_places.specs.of_segment_model.Slaves.{Slave, Datagram, Ring, grams, slave_meets, datagram_meets, frame_after, all_back}

-- these frames tell a station the same mails, with the same counter of the last
abbrev TellsSame : {M : Type 0} → ℕ → ℕ → List (Datagram M) → List (Datagram M) → Type 0
TellsSame mine last ds es = (all_told mine last (grams ds) ≡ all_told mine last (grams es)) × (told_behind mine last (grams ds) ≡ told_behind mine last (grams es))

module _ {V M : Type 0} (mine : ℕ) where
  met_station : (station : ℕ) (s : Slave V M) (d : Datagram M) → (datagram_meets station s d).gram.station ≡ d.gram.station
  met_station station s d = go (d.gram.station == station)
    where
      go : (b : Bool) → (if b then gram_meets s.node d.gram.ask d.gram else d.gram).station ≡ d.gram.station
      go true = station-gram_meets s.node d.gram.ask d.gram
      go false = refl

  met_ask : (station : ℕ) (s : Slave V M) (d : Datagram M) → (datagram_meets station s d).gram.ask ≡ d.gram.ask
  met_ask station s d = go (d.gram.station == station)
    where
      go : (b : Bool) → (if b then gram_meets s.node d.gram.ask d.gram else d.gram).ask ≡ d.gram.ask
      go true = ask-gram_meets s.node d.gram.ask d.gram
      go false = refl

  -- behind one slave
  told_after : (station last : ℕ) (s : Slave V M) (ds : List (Datagram M)) → TellsSame mine last (frame_after station s ds) ds
  told_after station last s [] = (refl, refl)
  told_after station last s (d ∷ ds) =
      let behind = slave_meets station s d in
      let rest = told_after station (if d.gram.station == mine then last_told last d.gram.ask else last) behind ds in (
        ap₂ (λ (n : ℕ) (a : Ask M). (if n == mine then mail_told last a else []) ++ all_told mine (if n == mine then last_told last a else last) (grams (frame_after station behind ds))) (met_station station s d) (met_ask station s d)
            ∙ ap (λ l. (if d.gram.station == mine then mail_told last d.gram.ask else []) ++ l) rest.0,
        ap₂ (λ (n : ℕ) (a : Ask M). told_behind mine (if n == mine then last_told last a else last) (grams (frame_after station behind ds))) (met_station station s d) (met_ask station s d) ∙ rest.1,
      )

  -- and behind a ring
  told_back : (last : ℕ) (ns : Ring V M) (ds : List (Datagram M)) → TellsSame mine last (all_back ns ds) ds
  told_back last [] ds = (refl, refl)
  told_back last (n ∷ ns) ds =
      let on = told_back last ns (frame_after n.0 n.1 ds) in
      let one = told_after n.0 last n.1 ds in (on.0 ∙ one.0, on.1 ∙ one.1)

  -- by a slave's own datagrams, which came back so
  pub told_came : (last : ℕ) (ns : Ring V M) (sent back : List (Datagram M)) → AreSeen sent → AreSeen back → all_back ns (own mine sent) ≡ own mine back → TellsSame mine last back sent
  told_came last ns sent back seen_sent seen_back same =
      let there = own-told mine last back seen_back in
      let here = own-told mine last sent seen_sent in
      let met = told_back last ns (own mine sent) in (
        sym there.0 ∙ ap (λ l. all_told mine last (grams l)) (sym same) ∙ met.0 ∙ here.0,
        sym there.1 ∙ ap (λ l. told_behind mine last (grams l)) (sym same) ∙ met.1 ∙ here.1,
      )

reads_none : (b r c rest : Bool) → r ≡ false → (if b && r && c then true else rest) ≡ rest
reads_none b r c rest e = ap (λ k. if b && k && c then true else rest) e ∙ go b
  where
    go : (a : Bool) → (if a && false && c then true else rest) ≡ rest
    go true = refl
    go false = refl

-- A READ OF MAILBOX 1 that came back is among the slave's own datagrams
pub did_own : {M : Type 0} (station : ℕ) (ds : List (Datagram M)) → AreSeen ds → did_read station (grams (own station ds)) ≡ did_read station (grams ds)
did_own station [] seen = refl
did_own station (d ∷ ds) seen = go (did_own station ds seen.1) (is_for station d.address) refl
  where
    foreign : IsSeen d → is_for station d.address ≡ false → did_read station (grams (d ∷ ds)) ≡ did_read station (grams ds)
    foreign (inl other) nay = reads_none (d.gram.station == station) (is_read d.gram.ask) (not (d.gram.counter == 0)) (did_read station (grams ds)) (ap is_read other)
    foreign (inr a) nay = ap (λ b. if b && is_read d.gram.ask && not (d.gram.counter == 0) then true else did_read station (grams ds)) (sym (ap (is_for station) a) ∙ nay)

    go : did_read station (grams (own station ds)) ≡ did_read station (grams ds) → (b : Bool) → is_for station d.address ≡ b →
        did_read station (grams (if b then d ∷ own station ds else own station ds)) ≡ did_read station (grams (d ∷ ds))
    go rest true is = ap (λ b. if d.gram.station == station && is_read d.gram.ask && not (d.gram.counter == 0) then true else b) rest
    go rest false is = rest ∙ sym (foreign seen.0 is)

-- what is told is no empty read
told_stays : {M : Type 0} (ms : List M) → without_empty (map (λ m. News.Told m) ms ++ []) ≡ map (λ m. News.Told m) ms ++ []
told_stays [] = refl
told_stays (m ∷ ms) = ap (λ l. News.Told m ∷ l) (told_stays ms)

pub told_counted : {M : Type 0} (counts : Bool) (ms : List M) → counted_news counts (map (λ m. News.Told m) ms ++ []) ≡ map (λ m. News.Told m) ms ++ []
told_counted true ms = refl
told_counted false ms = told_stays ms
