-- What a frame tells of a mail that is passed on, by the one datagram of its slave.
use Rattle.std.proofs.Common.{◌≡◌, ℕ, ◌==◌, Bool, true, false, Option, List, [], ◌∷◌, ◌++◌, map, refl, sym, ap, ◌∙◌, subst, append-nil, if◌then◌else◌}
use Rattle.idle_slaves.specs.EagerFrames.{TellsBy}
use Rattle.idle_slaves.specs.of_life_model.Own.{own}
use Rattle.idle_slaves.specs.of_link_mails.Body.{Body}
use Rattle.idle_slaves.specs.of_link_model.Frames.{Ask}
use Rattle.idle_slaves.specs.of_link_model.Mails.{news as link_news}
use Rattle.served_rings.specs.of_master_side.Passing.{news_back}
use Rattle.idle_slaves.proofs.of_master_tour.Unders.{SameAim}
use Rattle.served_rings.specs.of_few_replies.Led.{counted_news}
use Rattle.idle_slaves.specs.of_segment_model.Record.{Kept, News, all_told, back_news, datagram_news, found_news, gram_news, is_for, last_heard, mail_told}
use Rattle.idle_slaves.specs.of_segment_model.Slaves.{Access, Datagram, Found, grams}
use Rattle.seen_slaves.proofs.Returned.{own_told}

-- datagrams to others tell nothing
other_none : (station last : ℕ) (d : Datagram Body) → is_for station d.address ≡ false → (d.gram.station == station) ≡ false → datagram_news station last d ≡ []
other_none station last d e f =
    ap (λ (b : Bool). (if b then gram_news last d.gram.ask d.gram else []) ++ (if is_for station d.address then (if d.counter == 0 then [] else found_news d.found) else [])) f
    ∙ ap (λ (b : Bool). if b then (if d.counter == 0 then [] else found_news d.found) else []) e

own_news : (station last : ℕ) (ds : List (Datagram Body)) → SameAim station ds → back_news station last (own station ds) ≡ back_news station last ds
own_news station last [] a = refl
own_news station last (d ∷ ds) a = go (is_for station d.address) refl (own_news station (if d.gram.station == station then last_heard last d.gram.ask d.gram else last) ds a.1) (own_news station last ds a.1)
  where
    next : Bool → ℕ
    next b = if b then last_heard last d.gram.ask d.gram else last

    go : (b : Bool) → is_for station d.address ≡ b → back_news station (next (d.gram.station == station)) (own station ds) ≡ back_news station (next (d.gram.station == station)) ds → back_news station last (own station ds) ≡ back_news station last ds →
        back_news station last (if b then d ∷ own station ds else own station ds) ≡ back_news station last (d ∷ ds)
    go true e k here = ap (λ (l : List (News Body)). datagram_news station last d ++ l) k
    go false e k here =
        let other : (d.gram.station == station) ≡ false = sym a.0 ∙ e in
        here ∙ sym (ap (λ (l : List (News Body)). l ++ back_news station (next (d.gram.station == station)) ds) (other_none station last d e other) ∙ ap (λ (b : Bool). back_news station (next b) ds) other)

-- the first of a slave's own datagrams is for its station
first_own : (station : ℕ) (ds : List (Datagram Body)) (d : Datagram Body) (es : List (Datagram Body)) → SameAim station ds → own station ds ≡ d ∷ es → (is_for station d.address ≡ true) × ((d.gram.station == station) ≡ true)
first_own station [] d es a e = absurd (let no : [] ≡ d ∷ es = e in cc)
first_own station (c ∷ ds) d es a e = go (is_for station c.address) refl e (first_own station ds d es a.1)
  where
    go : (b : Bool) → is_for station c.address ≡ b → (if b then c ∷ own station ds else own station ds) ≡ d ∷ es → (own station ds ≡ d ∷ es → (is_for station d.address ≡ true) × ((d.gram.station == station) ≡ true)) →
        (is_for station d.address ≡ true) × ((d.gram.station == station) ≡ true)
    go true is both rest =
        let same : c ≡ d = (let l : c ∷ own station ds ≡ d ∷ es = both in cc) in
        subst (λ (z : Datagram Body). (is_for station z.address ≡ true) × ((z.gram.station == station) ≡ true)) same (is, sym a.0 ∙ is)
    go false is both rest = rest both

module _ (station : ℕ) (kept : Kept) (counts : Bool) (ds : List (Datagram Body)) (aim : SameAim station ds) (d : Datagram Body) (mine : own station ds ≡ d ∷ []) where
  abbrev is : (is_for station d.address ≡ true) × ((d.gram.station == station) ≡ true)
  is = first_own station ds d [] aim mine

  -- by a datagram that writes no mail
  alone : mail_told kept.told d.gram.ask ≡ [] → news_back station kept counts ds ≡ counted_news counts (datagram_news station kept.heard d)
  alone none =
      let told : all_told station kept.told (grams ds) ≡ [] =
      sym (own_told station kept.told ds aim).told ∙ ap (λ (zs : List (Datagram Body)). all_told station kept.told (grams zs)) mine
      ∙ ap (λ (b : Bool). (if b then mail_told kept.told d.gram.ask else []) ++ []) is.1 ∙ ap (λ (l : List Body). l ++ []) none in
      let heard : back_news station kept.heard ds ≡ datagram_news station kept.heard d =
      sym (own_news station kept.heard ds aim) ∙ ap (λ (zs : List (Datagram Body)). back_news station kept.heard zs) mine ∙ append-nil (datagram_news station kept.heard d) in
      ap (λ (l : List Body). counted_news counts (map (λ m. News.Told m) l ++ back_news station kept.heard ds)) told ∙ ap (λ (l : List (News Body)). counted_news counts l) heard

  counted_full : (full : Bool) (c : Bool) → counted_news {M = Body} c (News.BoxFull full ∷ []) ≡ News.BoxFull full ∷ []
  counted_full full true = refl
  counted_full full false = refl

  pub tells : (stepped : Bool) → (stepped ≡ true → counts ≡ true) → (d.access ≡ Access.Elsewhere → (d.counter == 0) ≡ true) → TellsBy stepped (news_back station kept counts ds) d
  tells stepped counted quiet = record {
    full = λ full access ask met found.
        alone (ap (mail_told kept.told) ask)
        ∙ ap (λ (z : List (News Body)). counted_news counts (z ++ (if is_for station d.address then (if d.counter == 0 then [] else found_news d.found) else [])))
        (ap (λ (b : Bool). if b then gram_news kept.heard d.gram.ask d.gram else []) is.1 ∙ ap (λ (z : Ask Body). gram_news kept.heard z d.gram) ask)
        ∙ ap (λ (b : Bool). counted_news counts (if b then (if d.counter == 0 then [] else found_news d.found) else [])) is.0
        ∙ ap (λ (b : Bool). counted_news counts (if b then [] else found_news d.found)) met ∙ ap (λ (z : Option Found). counted_news counts (found_news z)) found ∙ counted_full full counts;
    empty = λ access ask none made.
        alone (ap (mail_told kept.told) ask)
        ∙ ap (λ (z : List (News Body)). counted_news counts (z ++ (if is_for station d.address then (if d.counter == 0 then [] else found_news d.found) else [])))
        (ap (λ (b : Bool). if b then gram_news kept.heard d.gram.ask d.gram else []) is.1 ∙ ap (λ (z : Ask Body). gram_news kept.heard z d.gram) ask
        ∙ ap (λ (b : Bool). if b then News.NothingRead ∷ [] else map (λ m. News.Heard m) (link_news kept.heard d.gram.mail)) none)
        ∙ ap (λ (b : Bool). counted_news counts (News.NothingRead ∷ [] ++ (if b then (if d.counter == 0 then [] else found_news d.found) else []))) is.0
        ∙ ap (λ (b : Bool). counted_news counts (News.NothingRead ∷ (if b then [] else found_news d.found))) (quiet access) ∙ ap (λ (c : Bool). counted_news c (News.NothingRead ∷ [])) (counted made);
  }
