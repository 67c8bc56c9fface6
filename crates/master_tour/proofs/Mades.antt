-- A slave while a frame is made: it is looked at ahead of its visit, visited, and shown behind the last visit.
use Rattle.std.proofs.Common.{◌≡◌, ℕ, suc, ◌+◌, Bool, true, false, List, [], ◌∷◌, ◌++◌, length, Option, Some, None, refl, sym, ap, ◌∙◌, subst, arith, length-append, append-nil}
use Rattle.std.specs.Prelude.{is_some, if◌then◌else◌, nat_le, nat_lt}
use Rattle.std.proofs.lemmas.Bool.{ltb-true, leb-true}
use Rattle.master_side.specs.of_datagrams.Datagram as Raw
use Rattle.master_side.specs.of_datagrams.Frame.{IsBegun}
use Rattle.master_side.specs.of_exchange_model.Exchange.{Speech}
use Rattle.master_side.specs.of_frame_view.View.{Lens, datagram_seen}
use Rattle.master_side.specs.of_link_mails.Body.{Body}
use Rattle.master_side.specs.of_mailbox_mail.declared.mail.Mail.{Mail}
use Rattle.master_side.specs.of_mailbox_master.declared.halves.InwardHalf.{InwardHalf}
use Rattle.master_side.specs.of_mailbox_master.Links.{OutLink}
use Rattle.master_side.specs.of_mailbox_master.Any.{in_station, in_area_len}
use Rattle.master_side.specs.of_segment_model.Ends.{Passing}
use Rattle.master_side.specs.of_segment_model.Seats.{Side}
use Rattle.master_side.specs.of_state_model.Accounts.{Account, Pick}
use Rattle.master_side.specs.of_master_duty.declared.stage.Met.{Met}
use Rattle.master_side.specs.of_master_duty.Reply.{Reply}
use Rattle.master_side.specs.declared.carried.Carried.{Carried}
use Rattle.master_side.specs.declared.passing.Passing as Side
use Rattle.master_side.specs.of_life_model.Lives
use Rattle.master_side.specs.of_life_model.Lives.{Life, Spot, life_next, era_next}
use Rattle.master_side.specs.of_frame_view.Frames.{AllNotFor, IsNotFor, HasOne, AreApart}
use Rattle.master_side.specs.of_frame_view.Shares.{Lived, AllBoth, AllFrom, AllThree}
use Rattle.master_tour.specs.Walks.{EachPair}
use Rattle.master_side.proofs.of_frame_view.Frames.{none_more, one_more, one_new}
use Rattle.master_side.proofs.of_frame_view.Twice.{twice, stays, still_stands}
use Rattle.master_side.specs.of_al_state.declared.bringing.BringUp.{BringUp}
use Rattle.master_tour.specs.declared.stop.Stand.{Stand}
use Rattle.master_tour.specs.Stands.{StopShows, StandMeant, NextShows, HoldShows, Counts, stand_gram}
use Rattle.master_side.specs.of_state_model.Stated.{Service}
use Rattle.master_side.specs.Shown.{started_by}
use Rattle.master_tour.specs.Made.{IsPlanned, IsSized, StopLives, StopHas, IsClearFor, ComesAt, StopMade, is_in}
use Rattle.master_tour.proofs.Counts.{counted_begin, counts_none}
use Rattle.master_tour.proofs.Grams.{gram_for}
use Rattle.master_tour.proofs.Steps.{Hits, hits_apart, differ, Grown}

nothing_more : {T : Type 0} (xs : List T) → xs ++ [] ≡ xs
nothing_more [] = refl
nothing_more (x ∷ xs) = ap (λ z. x ∷ z) (nothing_more xs)

module _ {Q : Type 0} (x : Speech Body Q Reply) (acknowledged : Q → Bool) (more : Body → Bool) (passed : Q → Bool) (made : ℕ) where
  -- two choices before one frame, nothing begins by the first
  pub record NextTwice (a l : Life Body Q Reply) (p : Pick Q) : Type 0 where
    pub one : Pick Q
    pub is : life_next x acknowledged more passed made l l.stand p ≡ life_next x acknowledged more passed made a a.stand one
    pub idle : p.begin ≡ None → one.begin ≡ None

  pub next_twice : (a l : Life Body Q Reply) (first : Pick Q) → l ≡ life_next x acknowledged more passed made a a.stand first → first.begin ≡ None → (p : Pick Q) → NextTwice a l p
  next_twice a l first e b p =
      let same : first ≡ record { begin = None; hold = first.hold } = λ i. record { begin = b i; hold = first.hold } in
      let held = e ∙ ap (λ z. life_next x acknowledged more passed made a a.stand z) same in
      let w = twice x acknowledged more passed made a a.stand first.hold p in
      record {
        one = w.one;
        is = ap (λ (z : Life Body Q Reply). life_next x acknowledged more passed made z z.stand p) held
            ∙ ap (λ s. life_next x acknowledged more passed made (life_next x acknowledged more passed made a a.stand (record { begin = None; hold = first.hold })) s p) (still_stands x acknowledged more passed made a a.stand (record { begin = None; hold = first.hold }))
            ∙ w.is;
        idle = w.idle;
      }

  -- where none begins a mail that is passed on is where it was
  pub passing_stays : (l : Life Body Q Reply) (stand : Lives.Stand) (h : Bool) → (life_next x acknowledged more passed made l stand (record { begin = None; hold = h })).era.passing ≡ l.era.passing
  passing_stays l (Lives.Stand.Opens o) h = refl
  passing_stays l Lives.Stand.Gone h = refl
  passing_stays l Lives.Stand.Open h = go l.era.passing refl
    where
      go : (p : Option Passing) → l.era.passing ≡ p → (era_next x acknowledged more passed made l.era (record { begin = None; hold = h })).passing ≡ l.era.passing
      go p e = by_passing l.era.cleared l.era.opened l.era.state l.era.side l.era.account l.era.passing
        where
          by_passing : (c o : Option ℕ) (at : ℕ) (d : Side Body Q Reply) (k : Account Q Reply) (q : Option Passing) → (era_next x acknowledged more passed made (record { cleared = c; opened = o; state = at; side = d; account = k; passing = q }) (record { begin = None; hold = h })).passing ≡ q
          by_passing c o at d k None = refl
          by_passing c o at d k (Some q) = refl

-- the frame grows by another's datagram or by none
pub has_more : {Q : Type 0} (lens : ℕ → Lens) (index : ℕ) (spot other : Spot) (station : ℕ) (stand : Stand) (out : OutLink (Option Mail)) (inn : InwardHalf) (duty : Option Met) (carried : Carried) (under : Bool) (at : ℕ) (ds es : List Raw.Datagram) (l : Life Body Q Reply) →
    Hits lens other es → AreApart other spot → StopHas lens index spot station stand out inn duty carried under at ds l → StopHas lens index spot station stand out inn duty carried under at (ds ++ es) l
has_more lens index spot other station stand out inn duty carried under at ds es l Hits.nothing a h = subst (λ z. StopHas lens index spot station stand out inn duty carried under at z l) (sym (nothing_more ds)) h
has_more lens index spot other station stand out inn duty carried under at ds es l (Hits.gram s d g n w) a h = go (hits_apart lens spot other (d ∷ []) (Hits.gram s d g n w) a).0 h
  where
    go : IsNotFor spot d → StopHas lens index spot station stand out inn duty carried under at ds l → StopHas lens index spot station stand out inn duty carried under at (ds ++ d ∷ []) l
    go o (StopHas.none u k) = StopHas.none u (none_more spot ds d k o)
    go o (StopHas.one u k m c) = StopHas.one u (one_more spot at _ ds d k o) m c

-- what was planned of it stays
pub planned_on : (lens : ℕ → Lens) (spot : Spot) (station station' place place' start start' : ℕ) (stand stand' : Stand) (out out' back back' : ℕ) → station' ≡ station → place' ≡ place → start' ≡ start → stand' ≡ stand → out' ≡ out → back' ≡ back →
    IsPlanned lens spot station place start stand out back → IsPlanned lens spot station' place' start' stand' out' back'
planned_on lens spot station station' place place' start start' stand stand' out out' back back' a b c d e f p = record {
  stands = record { station_is = a ∙ p.stands.station_is; place_is = b ∙ p.stands.place_is; start_is = c ∙ p.stands.start_is; small = subst (λ z. nat_lt z 16 ≡ true) (sym c) p.stands.small };
  out_is = ap (λ z. (lens z).out) a ∙ p.out_is ∙ sym e;
  back_is = ap (λ z. (lens z).back) a ∙ p.back_is ∙ sym f;
  sized = subst (λ z. IsSized z out' back') (sym d) (subst (λ z. IsSized stand z back') (sym e) (subst (λ z. IsSized stand out z) (sym f) p.sized));
}

-- the frame has none of a slave that it doesn't carry
none_yet : {Q : Type 0} (lens : ℕ → Lens) (index : ℕ) (spot : Spot) (station : ℕ) (stand : Stand) (out : OutLink (Option Mail)) (inn : InwardHalf) (duty : Option Met) (carried : Carried) (under : Bool) (at : ℕ) (ds : List Raw.Datagram) (l : Life Body Q Reply) →
    under ≡ false → StopHas lens index spot station stand out inn duty carried under at ds l → AllNotFor spot ds
none_yet lens index spot station stand out inn duty carried under at ds l u (StopHas.none w n) = n
none_yet lens index spot station stand out inn duty carried under at ds l u (StopHas.one w h m c) = absurd (let t = sym u ∙ w in cc)

-- a visit: what the frame grows by, which is the datagram where the slave is carried
pub record Visited (lens : ℕ → Lens) (P : List Raw.Datagram → Type 0) (spot : Spot) (under : Bool) (gram : Raw.Datagram) : Type 0 where
  pub grows : List Raw.Datagram
  pub hits : Hits lens spot grows
  pub is : under ≡ true → grows ≡ gram ∷ []
  pub none : under ≡ false → grows ≡ []
  pub goes : P grows

module _ {Q : Type 0} (x : Speech Body Q Reply) (acknowledged : Q → Bool) (more : Body → Bool) (passed : Q → Bool) (made : ℕ) (lens : ℕ → Lens) (recover index : ℕ) where
  -- ANOTHER SLAVE stays as it is
  pub made_other : (shows : Side Body Q Reply → Account Q Reply → Type 0) (station place start : ℕ) (stand : Stand) (spare : ℕ) (out : OutLink (Option Mail)) (inn : InwardHalf) (duty : Option Met) (carried : Carried) (passing : Option Side.Passing) (under : Bool) (at : ℕ) (left next : List ℕ) (begun now : ℕ → Option (Service Q)) (ds es : List Raw.Datagram) (i : ℕ) (a : Lived Q Reply) (other : Spot) →
      now a.spot.place ≡ begun a.spot.place → ((k : ℕ) → is_in k next ≡ true → is_in k left ≡ true) → Hits lens other es → AreApart other a.spot →
      StopMade x acknowledged more passed made begun lens recover index shows station place start stand spare out inn duty carried passing under at left ds i a →
      StopMade x acknowledged more passed made now lens recover index shows station place start stand spare out inn duty carried passing under at next (ds ++ es) i a
  made_other shows station place start stand spare out inn duty carried passing under at left next begun now ds es i a other w n h p m = record {
    life = m.life;
    pick = m.pick;
    next = m.next;
    wish = m.wish ∙ sym w;
    took = m.took;
    lives = m.lives;
    idle = λ e. m.idle (n i e);
    waits = λ e. m.waits (n i e);
    bare = λ e. m.bare (n i e);
    has = has_more lens index a.spot other station stand out inn duty carried under at ds es m.life h p m.has;
  }

  -- ITS DATAGRAM IS LOOKED AT AHEAD: the next mail may be taken up, and nothing begins
  pub made_ahead : (shows shows' : Side Body Q Reply → Account Q Reply → Type 0) (station station' place place' start start' : ℕ) (stand stand' : Stand) (spare spare' : ℕ) (out out' : OutLink (Option Mail)) (inn inn' : InwardHalf) (duty duty' : Option Met) (carried carried' : Carried) (passing passing' : Option Side.Passing) (under under' : Bool) (at at' : ℕ)
      (left : List ℕ) (begun : ℕ → Option (Service Q)) (ds : List Raw.Datagram) (i : ℕ) (a : Lived Q Reply) → station' ≡ station → place' ≡ place → start' ≡ start → stand' ≡ stand → out'.len ≡ out.len → in_area_len inn' ≡ in_area_len inn → passing' ≡ passing → under' ≡ under → is_in i left ≡ true →
      (m : StopMade x acknowledged more passed made begun lens recover index shows station place start stand spare out inn duty carried passing under at left ds i a) → HoldShows x acknowledged more passed made m.life (StopShows shows' recover a.spot stand' spare') →
      StopMade x acknowledged more passed made begun lens recover index shows' station' place' start' stand' spare' out' inn' duty' carried' passing' under' at' left ds i a
  made_ahead shows shows' station station' place place' start start' stand stand' spare spare' out out' inn inn' duty duty' carried carried' passing passing' under under' at at' left begun ds i a b c d e f g p u k m h =
      let w = next_twice x acknowledged more passed made a.life m.life m.pick m.next (m.idle k) (record { begin = None; hold = h.hold }) in
      let none = m.idle k ∙ sym (w.idle refl) in
      record {
        life = life_next x acknowledged more passed made m.life m.life.stand (record { begin = None; hold = h.hold });
        pick = w.one;
        next = w.is;
        wish = sym none ∙ m.wish;
        took = counts_none x acknowledged more passed made m.life m.life.stand h.hold ∙ m.took ∙ ap (λ z. a.life.era.account.started ++ started_by made z) none;
        lives = record { planned = planned_on lens a.spot station station' place place' start start' stand stand' out.len out'.len (in_area_len inn) (in_area_len inn') b c d e f g m.lives.planned; shown = h.shown };
        idle = λ t. w.idle refl;
        waits = λ t o. ap is_some (passing_stays x acknowledged more passed made m.life m.life.stand h.hold) ∙ m.waits k (sym e ∙ o) ∙ ap is_some (sym p);
        bare = λ t. u ∙ m.bare k;
        has = StopHas.none (u ∙ m.bare k) (none_yet lens index a.spot station stand out inn duty carried under at ds m.life (m.bare k) m.has);
      }

  -- IT IS VISITED: a service comes into hand, where one may, and its datagram stands next, if there is room for it
  pub made_visit : (shows shows' : Side Body Q Reply → Account Q Reply → Type 0) (station station' place place' start start' : ℕ) (stand stand' : Stand) (spare spare' : ℕ) (out out' : OutLink (Option Mail)) (inn inn' : InwardHalf) (duty duty' : Option Met) (carried carried' : Carried) (passing passing' : Option Side.Passing) (under under' : Bool) (at at' : ℕ)
      (left next : List ℕ) (begun now : ℕ → Option (Service Q)) (begin : Option (Service Q)) (ds : List Raw.Datagram) (i : ℕ) (a : Lived Q Reply) → ComesAt begun now place begin → station' ≡ station → place' ≡ place → start' ≡ start → stand' ≡ stand → out'.len ≡ out.len → in_area_len inn' ≡ in_area_len inn → out'.station ≡ station' → in_station inn' ≡ station' → nat_le 1 station' ≡ true → nat_lt place' 16 ≡ true →
      (under' ≡ true → at' ≡ length ds) → (under' ≡ true → IsClearFor stand' carried' inn') → is_in i left ≡ true → is_in i next ≡ false →
      (m : StopMade x acknowledged more passed made begun lens recover index shows station place start stand spare out inn duty carried passing under at left ds i a) →
      NextShows x acknowledged more passed made m.life begin (λ n. StopShows shows' recover a.spot stand' spare' n × (under' ≡ true → StandMeant lens station' index carried' stand' n (datagram_seen lens (stand_gram station' index stand' out' inn' duty' carried')))) →
      Visited lens (λ es. StopMade x acknowledged more passed made now lens recover index shows' station' place' start' stand' spare' out' inn' duty' carried' passing' under' at' next (ds ++ es) i a) a.spot under' (stand_gram station' index stand' out' inn' duty' carried')
  made_visit shows shows' station station' place place' start start' stand stand' spare spare' out out' inn inn' duty duty' carried carried' passing passing' under under' at at' left next begun now begin ds i a comes b c d e f g os is named near stands clear k n m h = go under' refl
    where
      pick : Pick Q
      pick = record { begin = begin; hold = h.hold }

      life : Life Body Q Reply
      life = life_next x acknowledged more passed made m.life m.life.stand pick

      one : NextTwice x acknowledged more passed made a.life m.life pick
      one = next_twice x acknowledged more passed made a.life m.life m.pick m.next (m.idle k) pick

      count : Counts made begin a.life life
      count = h.took ∙ ap (λ z. z ++ started_by made begin) (m.took ∙ ap (λ z. a.life.era.account.started ++ started_by made z) (m.idle k) ∙ append-nil a.life.era.account.started)

      same : one.one.begin ≡ begin
      same = counted_begin x acknowledged more passed made a.life a.life.stand one.one begin (subst (λ z. Counts made begin a.life z) one.is count) one.idle

      lives : StopLives lens recover shows' station' place' start' stand' spare' out'.len (in_area_len inn') (record { spot = a.spot; life = life })
      lives = record { planned = planned_on lens a.spot station station' place place' start start' stand stand' out.len out'.len (in_area_len inn) (in_area_len inn') b c d e f g m.lives.planned; shown = h.shown.0 }

      goes : (es : List Raw.Datagram) → StopHas lens index a.spot station' stand' out' inn' duty' carried' under' at' (ds ++ es) life → StopMade x acknowledged more passed made now lens recover index shows' station' place' start' stand' spare' out' inn' duty' carried' passing' under' at' next (ds ++ es) i a
      goes es has =
          record {
            life = life;
            pick = one.one;
            next = one.is;
            wish = same ∙ sym comes.here ∙ ap now m.lives.planned.stands.place_is;
            took = subst (λ z. Counts made z a.life life) (sym same) count;
            lives = lives;
            idle = λ t. absurd (let z = sym t ∙ n in cc);
            waits = λ t. absurd (let z = sym t ∙ n in cc);
            bare = λ t. absurd (let z = sym t ∙ n in cc);
            has = has;
          }

      bare : AllNotFor a.spot ds
      bare = none_yet lens index a.spot station stand out inn duty carried under at ds m.life (m.bare k) m.has

      go : (z : Bool) → under' ≡ z → Visited lens (λ es. StopMade x acknowledged more passed made now lens recover index shows' station' place' start' stand' spare' out' inn' duty' carried' passing' under' at' next (ds ++ es) i a) a.spot under' (stand_gram station' index stand' out' inn' duty' carried')
      go false u = record { grows = []; hits = Hits.nothing; is = λ t. absurd (let z = sym t ∙ u in cc); none = λ t. refl; goes = goes [] (StopHas.none u (subst (AllNotFor a.spot) (sym (nothing_more ds)) bare)) }
      go true u =
          let gram = stand_gram station' index stand' out' inn' duty' carried' in
          let meant = h.shown.1 u in
          let first = gram_for lens recover index shows' station' place' start' stand' spare' out' inn' duty' carried' a.spot life lives os is meant in
          let st = lives.planned.stands.station_is in
          let pl = lives.planned.stands.place_is in
          let low = leb-true 1 station' named in
          let small = ltb-true place' 16 near in
          record {
            grows = gram ∷ [];
            hits = Hits.gram life.stand gram first (differ 0 a.spot.station (λ q. omega (arith, low, st, q))) (omega (arith, small, pl));
            is = λ t. refl;
            none = λ t. absurd (let z = sym t ∙ u in cc);
            goes = goes (gram ∷ []) (StopHas.one u (subst (λ z. HasOne a.spot z gram (ds ++ gram ∷ [])) (sym (stands u)) (one_new a.spot ds gram bare)) meant (clear u));
          }

-- BEFORE ANY VISIT of a frame a slave has no datagram in it
pub made_first : {Q : Type 0} (x : Speech Body Q Reply) (acknowledged : Q → Bool) (more : Body → Bool) (passed : Q → Bool) (made : ℕ) (lens : ℕ → Lens) (recover index : ℕ) (shows : Side Body Q Reply → Account Q Reply → Type 0) (station place start : ℕ) (stand : Stand) (spare : ℕ) (out : OutLink (Option Mail)) (inn : InwardHalf) (duty : Option Met) (carried : Carried) (passing : Option Side.Passing) (under : Bool) (at : ℕ) (left : List ℕ) (begun : ℕ → Option (Service Q)) (i : ℕ) (a : Lived Q Reply) →
    ((k : ℕ) → begun k ≡ None) → under ≡ false → (stand ≡ Stand.Open → is_some a.life.era.passing ≡ is_some passing) → StopLives lens recover shows station place start stand spare out.len (in_area_len inn) a → StopMade x acknowledged more passed made begun lens recover index shows station place start stand spare out inn duty carried passing under at left [] i a
made_first x acknowledged more passed made lens recover index shows station place start stand spare out inn duty carried passing under at left begun i a n u w v = record {
  life = a.life;
  pick = record { begin = None; hold = false };
  next = sym (stays x acknowledged more passed made a.life a.life.stand);
  wish = sym (n a.spot.place);
  took = sym (append-nil a.life.era.account.started);
  lives = record { planned = v.planned; shown = v.shown };
  idle = λ e. refl;
  waits = λ e. w;
  bare = λ e. u;
  has = StopHas.none u tt;
}

-- and what is shown of it doesn't depend on whether it had one
pub lives_on : {Q : Type 0} (lens : ℕ → Lens) (recover : ℕ) (shows shows' : Side Body Q Reply → Account Q Reply → Type 0) (station station' place place' start start' : ℕ) (stand stand' : Stand) (spare spare' out out' back back' : ℕ) (a : Lived Q Reply) → shows' ≡ shows → station' ≡ station → place' ≡ place → start' ≡ start → stand' ≡ stand → spare' ≡ spare → out' ≡ out → back' ≡ back →
    StopLives lens recover shows station place start stand spare out back a → StopLives lens recover shows' station' place' start' stand' spare' out' back' a
lives_on lens recover shows shows' station station' place place' start start' stand stand' spare spare' out out' back back' a s b c d e f g h v = record {
  planned = planned_on lens a.spot station station' place place' start start' stand stand' out out' back back' b c d e g h v.planned;
  shown = subst (λ z. StopShows z recover a.spot stand' spare' a.life) (sym s) (subst (λ z. StopShows shows recover a.spot z spare' a.life) (sym e) (subst (λ z. StopShows shows recover a.spot stand z a.life) (sym f) v.shown));
}

-- two walks over the same list
pub all_first : {A S : Type 0} (P : A → S → Type 0) (R : S → S → Type 0) (T : ℕ → A → S → Type 0) → ((i : ℕ) (a : A) (s t : S) → P a s → R s t → T i a t) → (i : ℕ) (as' : List A) (ss ts : List S) → AllBoth P as' ss → EachPair R ss ts → AllFrom T i as' ts
all_first P R T h i [] [] [] p r = tt
all_first P R T h i (a ∷ as') (s ∷ ss) (t ∷ ts) p r = (h i a s t p.0 r.0, all_first P R T h (suc i) as' ss ts p.1 r.1)
all_first P R T h i [] (s ∷ ss) ts p r = absurd p
all_first P R T h i [] [] (t ∷ ts) p r = absurd r
all_first P R T h i (a ∷ as') [] ts p r = absurd p
all_first P R T h i (a ∷ as') (s ∷ ss) [] p r = absurd r

-- what it makes of the frame
pub grown_of : (lens : ℕ → Lens) (P : List Raw.Datagram → Type 0) (spot : Spot) (under : Bool) (gram : Raw.Datagram) (octets octets' : List ℕ) (count count' : ℕ) (ds : List Raw.Datagram) → Visited lens (λ es. P (ds ++ es)) spot under gram → IsBegun octets ds → length ds ≡ count →
    (under ≡ true → IsBegun octets' (ds ++ gram ∷ [])) → (under ≡ false → octets' ≡ octets) → (under ≡ true → count' ≡ count + 1) → (under ≡ false → count' ≡ count) → Grown lens P octets' count' spot ds
grown_of lens P spot under gram octets octets' count count' ds v b l t f k n = go under refl
  where
    go : (z : Bool) → under ≡ z → Grown lens P octets' count' spot ds
    go true u = record {
      more = v.grows;
      hits = v.hits;
      begun = subst (λ z. IsBegun octets' (ds ++ z)) (sym (v.is u)) (t u);
      long = ap (λ z. length (ds ++ z)) (v.is u) ∙ (let e = length-append ds (gram ∷ []) in let m = k u in omega (arith, e, m, l));
      goes = v.goes;
    }
    go false u = record {
      more = v.grows;
      hits = v.hits;
      begun = subst (λ z. IsBegun z (ds ++ v.grows)) (sym (f u)) (subst (IsBegun octets) (sym (ap (λ z. ds ++ z) (v.none u) ∙ nothing_more ds)) b);
      long = ap (λ z. length (ds ++ z)) (v.none u) ∙ ap length (nothing_more ds) ∙ l ∙ sym (n u);
      goes = v.goes;
    }

-- one that only looks ahead makes nothing of it
pub grown_none : (lens : ℕ → Lens) (P : List Raw.Datagram → Type 0) (spot : Spot) (octets : List ℕ) (count : ℕ) (ds : List Raw.Datagram) → IsBegun octets ds → length ds ≡ count → P ds → Grown lens P octets count spot ds
grown_none lens P spot octets count ds b l p = record {
  more = [];
  hits = Hits.nothing;
  begun = subst (IsBegun octets) (sym (nothing_more ds)) b;
  long = ap length (nothing_more ds) ∙ l;
  goes = subst P (sym (nothing_more ds)) p;
}

-- a slave behind a frame is planned as before
pub planned_as : (lens : ℕ → Lens) (spot : Spot) (station station' place place' start start' : ℕ) (stand stand' : Stand) (out out' back back' : ℕ) → station' ≡ station → place' ≡ place → start' ≡ start → out' ≡ out → back' ≡ back → (IsSized stand out back → IsSized stand' out' back') →
    IsPlanned lens spot station place start stand out back → IsPlanned lens spot station' place' start' stand' out' back'
planned_as lens spot station station' place place' start start' stand stand' out out' back back' a b c e f h p = record {
  stands = record { station_is = a ∙ p.stands.station_is; place_is = b ∙ p.stands.place_is; start_is = c ∙ p.stands.start_is; small = subst (λ z. nat_lt z 16 ≡ true) (sym c) p.stands.small };
  out_is = ap (λ z. (lens z).out) a ∙ p.out_is ∙ sym e;
  back_is = ap (λ z. (lens z).back) a ∙ p.back_is ∙ sym f;
  sized = h p.sized;
}

pub sized_behind : (ends : Bool) (next : BringUp) (out back : ℕ) → next.out_len ≡ out → next.in_len ≡ back → IsSized (if ends then Stand.Open else Stand.Opening next) out back
sized_behind true next out back a b = tt
sized_behind false next out back a b = (a, b)

-- all of them, behind a frame
pub all_behind : {A S : Type 0} (P : A → S → Type 0) (R U : S → S → Type 0) (T : A → S → S → Type 0) → ((a : A) (s t : S) → P a s → R s t → U s t → T a s t) → (as' : List A) (ss ts : List S) → AllBoth P as' ss → EachPair R ss ts → EachPair U ss ts → AllThree T as' ss ts
all_behind P R U T h [] [] [] p r u = tt
all_behind P R U T h (a ∷ as') (s ∷ ss) (t ∷ ts) p r u = (h a s t p.0 r.0 u.0, all_behind P R U T h as' ss ts p.1 r.1 u.1)
all_behind P R U T h [] (s ∷ ss) ts p r u = absurd p
all_behind P R U T h [] [] (t ∷ ts) p r u = absurd r
all_behind P R U T h (a ∷ as') [] ts p r u = absurd p
all_behind P R U T h (a ∷ as') (s ∷ ss) [] p r u = absurd r
