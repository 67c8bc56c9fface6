-- THE ACCESS COMES BACK to the master at its place of the frame, as its slave made it.
use Rattle.std.proofs.Common.{◌≡◌, ◌⊎◌, inl, inr, ℕ, suc, ◌+◌, ◌%◌, ◌<◌, ◌≤◌, ◌==◌, Bool, true, false, List, [], ◌∷◌, ◌++◌, length, refl, ap, ap₂, sym, ◌∙◌, subst, arith}
use Rattle.std.specs.Prelude.{if◌then◌else◌, not, Option, Some, None, is_some}
use Rattle.std.proofs.lemmas.Bool.{ne_eqb}
use Rattle.slave_lives.specs.of_datagrams.declared.command.Command.{Command}
use Rattle.slave_lives.specs.of_datagrams.declared.head.Head.{Head}
use Rattle.slave_lives.specs.of_datagrams.Datagram as Raw
use Rattle.slave_lives.specs.of_esc_registers.declared.registers.Registers as Esc
use Rattle.slave_lives.specs.of_esc_registers.declared.row.Row.{Row}
use Rattle.slave_lives.specs.of_esc_registers.Access.{reads, writes, accessed, read_row, write_row, moved_on, passed_at, is_meant, row_of}
use Rattle.slave_lives.specs.of_slave_node.Passing.{passed, datagram_after, datagrams_after}
use Rattle.slave_lives.specs.of_frame_view.Seen.{datagrams_seen}
use Rattle.slave_lives.specs.of_frame_view.View.{Lens, datagram_seen, register_counter, access_of, station_of}
use Rattle.slave_lives.specs.of_frames_seen.Ring.{all_after, AllApart}
use Rattle.slave_lives.specs.of_frames_seen.Spoken.{means}
use Rattle.slave_lives.proofs.of_frames_seen.Owns.{unmoved}
use Rattle.slave_lives.specs.of_segment_model.Slaves.{Access, Found}
use Rattle.slave_lives.specs.of_life_model.Tours.{item_at}
use Rattle.slave_lives.specs.of_frame_view.Shares.{came_of}
use Rattle.slave_lives.specs.Opening.{Plan, aim, IsAccess, JustOne}
use Rattle.slave_lives.specs.Returning.{IsTurn}
use Rattle.slave_lives.specs.Ways.{AllNotFor, IsOnWay, JustOnWay, Beside, ComesBack}
use Rattle.slave_lives.proofs.Backs.{comes_back, moved_counter}
use Rattle.slave_lives.proofs.Ways as Way
use Rattle.whole_ring.proofs.Frames.{IsSent}

-- slaves behind a datagram, and it behind them
abbrev slaves_after : List Esc.Registers → Raw.Datagram → List Esc.Registers
slaves_after [] d = []
slaves_after (r ∷ rs) d = (passed r d).registers ∷ slaves_after rs (datagram_after r d)

abbrev through : List Esc.Registers → Raw.Datagram → Raw.Datagram
through [] d = d
through (r ∷ rs) d = through rs (datagram_after r d)

after_split : (rs : List Esc.Registers) (d : Raw.Datagram) (ds : List Raw.Datagram) → all_after rs (d ∷ ds) ≡ through rs d ∷ all_after (slaves_after rs d) ds
after_split [] d ds = refl
after_split (r ∷ rs) d ds = after_split rs (datagram_after r d) (datagrams_after (passed r d).registers ds)

after_none : (rs : List Esc.Registers) → all_after rs [] ≡ []
after_none [] = refl
after_none (r ∷ rs) = after_none rs

apart_one : (station : ℕ) (rs : List Esc.Registers) (d : Raw.Datagram) (ds : List Raw.Datagram) → AllApart station rs (d ∷ ds) → AllApart station rs (d ∷ [])
apart_one station [] d ds apart = tt
apart_one station (r ∷ rs) d ds apart = ((apart.0.0, tt), apart_one station rs (datagram_after r d) (datagrams_after (passed r d).registers ds) apart.1)

apart_rest : (station : ℕ) (rs : List Esc.Registers) (d : Raw.Datagram) (ds : List Raw.Datagram) → AllApart station rs (d ∷ ds) → AllApart station (slaves_after rs d) ds
apart_rest station [] d ds apart = tt
apart_rest station (r ∷ rs) d ds apart = (apart.0.1, apart_rest station rs (datagram_after r d) (datagrams_after (passed r d).registers ds) apart.1)

same_many : (rs : List Esc.Registers) (d : Raw.Datagram) → length (slaves_after rs d) ≡ length rs
same_many [] d = refl
same_many (r ∷ rs) d = ap suc (same_many rs (datagram_after r d))

-- what isn't for the slave stays so
others_on : (p : Plan) (place behind : ℕ) (rs : List Esc.Registers) (ds : List Raw.Datagram) → place < 16 → behind + length rs ≤ place → AllNotFor p place behind ds → AllNotFor p place (behind + length rs) (all_after rs ds)
others_on p place behind [] ds near few others = subst (λ m. AllNotFor p place m ds) (let e : behind ≡ behind + 0 = omega arith in e) others
others_on p place behind (q ∷ rs) ds near few others =
    subst (λ m. AllNotFor p place m (all_after rs (datagrams_after q ds))) (let e : suc behind + length rs ≡ behind + suc (length rs) = omega arith in e)
    (others_on p place (suc behind) rs (datagrams_after q ds) near (omega arith) (Way.others_behind p place behind q ds (omega arith) others))

-- and the access keeps its counter
keeps_counter : (p : Plan) (n place behind : ℕ) (rs : List Esc.Registers) (d : Raw.Datagram) → IsTurn n → place < 16 → behind + length rs ≤ place → AllApart p.station rs (d ∷ []) → IsOnWay p n place behind d → (through rs d).head.counter ≡ d.head.counter
keeps_counter p n place behind [] d at near few apart on = refl
keeps_counter p n place behind (q ∷ rs) d at near few apart on =
    let other : (place == behind) ≡ false = ne_eqb place behind (λ (e : place ≡ behind). omega arith) in
    let not_ = Way.not_its p n place behind q d at near (omega arith) other apart.0.0 on in
    let moved : datagram_after q d ≡ record d { head = moved_on d.head } = Way.moved q d not_ in
    keeps_counter p n place (suc behind) rs (datagram_after q d) at near (omega arith) apart.1 (Way.way_behind p n place behind q d at near (omega arith) on not_)
    ∙ ap (λ (x : Raw.Datagram). x.head.counter) moved ∙ moved_counter d.head

-- the counter behind its slave: it was done or not
abbrev one_or_none : ℕ → Type 0
one_or_none c = (c ≡ 0) ⊎ (c ≡ 1)

added_few : (r : Esc.Registers) (row : Row) (reading writing : Bool) (body : List ℕ) → (reading ≡ false) ⊎ (writing ≡ false) → one_or_none (accessed r row reading writing body).added
added_few r row true writing body (inl e) = absurd (cc)
added_few r row false true body k = go (is_some (write_row r row body))
  where
    go : (b : Bool) → one_or_none (0 + (if b then 1 else 0))
    go true = inr refl
    go false = inl refl
added_few r row false false body k = inl refl
added_few r row true true body (inr e) = absurd (cc)
added_few r row true false body k = go (is_some (read_row r row))
  where
    go : (b : Bool) → one_or_none ((if b then 1 else 0) + 0)
    go true = inr refl
    go false = inl refl

counted : (c : ℕ) → one_or_none c → one_or_none ((0 + c) % 65536)
counted c (inl e) = inl (let f = e in omega (arith, f))
counted c (inr e) = inr (let f = e in omega (arith, f))

counter_at : (r : Esc.Registers) (h : Head) (body : List ℕ) (row : Option Row) → h.counter ≡ 0 → (reads h.command ≡ false) ⊎ (writes h.command ≡ false) → one_or_none (passed_at r h body row).head.counter
counter_at r h body None zero_ k = inl (moved_counter h ∙ zero_)
counter_at r h body (Some row) zero_ k =
    subst (λ (c : ℕ). one_or_none ((c + (accessed r row (reads h.command) (writes h.command) body).added) % 65536)) (sym zero_)
    (counted (accessed r row (reads h.command) (writes h.command) body).added (added_few r row (reads h.command) (writes h.command) body k))

seen_few : (a : Access) (c : ℕ) → one_or_none c → one_or_none (register_counter a c)
seen_few (Access.SetStation station) c k = k
seen_few (Access.SetFirst right) c k = k
seen_few (Access.SetSecond right) c k = k
seen_few (Access.SetControl target acknowledge) c k = k
seen_few Access.ReadState c k = k
seen_few Access.ReadFull c k = k
seen_few Access.Elsewhere c k = inl refl

same_done : (c : ℕ) → one_or_none c → (c == 1) ≡ not (c == 0)
same_done c (inl e) = ap (λ (x : ℕ). x == 1) e ∙ sym (ap (λ (x : ℕ). not (x == 0)) e)
same_done c (inr e) = ap (λ (x : ℕ). x == 1) e ∙ sym (ap (λ (x : ℕ). not (x == 0)) e)

-- an access reads or writes, and not both
one_way : (p : Plan) (n : ℕ) (c : Command) → IsTurn n → c ≡ (aim p n).command → (reads c ≡ false) ⊎ (writes c ≡ false)
one_way p n c at e = subst (λ (k : Command). (reads k ≡ false) ⊎ (writes k ≡ false)) (sym e) (go at)
  where
    go : {m : ℕ} → IsTurn m → (reads (aim p m).command ≡ false) ⊎ (writes (aim p m).command ≡ false)
    go IsTurn.return = inl refl
    go IsTurn.watch = inr refl
    go IsTurn.address = inl refl
    go IsTurn.out_off = inl refl
    go IsTurn.in_off = inl refl
    go IsTurn.out_on = inl refl
    go IsTurn.in_on = inl refl
    go IsTurn.word = inl refl
    go IsTurn.status = inr refl

-- beside the only one stands the only one
beside_none : (a b : Raw.Datagram) (ds es : List Raw.Datagram) → Beside a b ds es → ds ≡ [] → ⊥
beside_none a b _ _ (Beside.here ds es) e = let no_ : a ∷ ds ≡ [] = e in cc
beside_none a b _ _ (Beside.later x y ds es k) e = let no_ : x ∷ ds ≡ [] = e in cc

beside_one : (a b : Raw.Datagram) (ds es : List Raw.Datagram) → Beside a b ds es → (x y : Raw.Datagram) → ds ≡ x ∷ [] → es ≡ y ∷ [] → (a ≡ x) × (b ≡ y)
beside_one a b _ _ (Beside.here ds es) x y e f = ((let g : a ∷ ds ≡ x ∷ [] = e in cc), (let g : b ∷ es ≡ y ∷ [] = f in cc))
beside_one a b _ _ (Beside.later u v ds es k) x y e f = absurd (beside_none a b ds es k (let g : u ∷ ds ≡ x ∷ [] = e in cc))

-- WHAT CAME BACK, to a master that looks at the place of its access: done or not, and found, as by its slave
pub record Came (lens : ℕ → Lens) (p : Plan) (n : ℕ) (r : Esc.Registers) (came : Option (Bool × Option Found)) : Type 0 where
  pub access : Raw.Datagram
  pub is : IsAccess p n access
  pub first : access.head.counter ≡ 0
  pub came_is : came ≡ Some (not ((datagram_seen lens (datagram_after r access)).counter == 0), (datagram_seen lens (datagram_after r access)).found)

module _ (lens : ℕ → Lens) (p : Plan) (n place : ℕ) (at : IsTurn n) (near : place < 16) (r : Esc.Registers) (called : (r.station ≡ 0) ⊎ (r.station ≡ p.station)) (meets : (ds : List Raw.Datagram) → JustOnWay p n place place ds → JustOne p n r ds) where
  on_way : (d : Raw.Datagram) → JustOnWay p n place place (d ∷ []) → IsOnWay p n place place d
  on_way d (inl (other, none)) = absurd none
  on_way d (inr (on, others)) = on

  -- at its place
  module _ (d : Raw.Datagram) (sent : IsSent p n place d) (bs qs : List Esc.Registers) (at_place : length bs ≡ place) (few : length qs < 16) (apart : AllApart p.station bs (d ∷ [])) (behind : AllApart p.station qs (datagram_after r (through bs d) ∷ [])) where
    just : JustOnWay p n place place (through bs d ∷ [])
    just = subst (λ (m : ℕ). JustOnWay p n place m (through bs d ∷ [])) at_place
        (subst (λ l. JustOnWay p n place (length bs) l) (after_split bs d [] ∙ ap (λ l. through bs d ∷ l) (after_none (slaves_after bs d)))
        (subst (λ (m : ℕ). JustOnWay p n place m (all_after bs (d ∷ []))) (let e : 0 + length bs ≡ length bs = omega arith in e) (Way.just_on_way p n place 0 bs (d ∷ []) at near (omega (arith, at_place)) apart (inr (sent.on, tt)))))

    is_access : IsAccess p n (through bs d)
    is_access = Way.arrives p n place (through bs d) at near (on_way (through bs d) just)

    back_seen : ComesBack lens p n r (through bs d ∷ []) (through qs (datagram_after r (through bs d)) ∷ [])
    back_seen = subst (λ l. ComesBack lens p n r (through bs d ∷ []) l) (after_split qs (datagram_after r (through bs d)) [] ∙ ap (λ l. through qs (datagram_after r (through bs d)) ∷ l) (after_none (slaves_after qs (datagram_after r (through bs d)))))
        (comes_back lens p n r qs (through bs d ∷ []) at few behind (meets (through bs d ∷ []) just))

    both : (back_seen.access ≡ through bs d) × (back_seen.back ≡ through qs (datagram_after r (through bs d)))
    both = beside_one back_seen.access back_seen.back (through bs d ∷ []) (through qs (datagram_after r (through bs d)) ∷ []) back_seen.beside (through bs d) (through qs (datagram_after r (through bs d))) refl refl

    counter_same : (datagram_seen lens (through qs (datagram_after r (through bs d)))).counter ≡ (datagram_seen lens (datagram_after r (through bs d))).counter
    counter_same = sym (ap (λ x. (datagram_seen lens x).counter) both.1) ∙ back_seen.counter ∙ ap (λ x. (datagram_seen lens (datagram_after r x)).counter) both.0

    found_same : (datagram_seen lens (through qs (datagram_after r (through bs d)))).found ≡ (datagram_seen lens (datagram_after r (through bs d))).found
    found_same = sym (ap (λ x. (datagram_seen lens x).found) both.1) ∙ back_seen.found ∙ ap (λ x. (datagram_seen lens (datagram_after r x)).found) both.0

    -- as no slave has met it
    first_met : (through bs d).head.counter ≡ 0
    first_met = keeps_counter p n place 0 bs d at near (omega (arith, at_place)) apart sent.on ∙ sent.first

    few_done : one_or_none (datagram_seen lens (datagram_after r (through bs d))).counter
    few_done =
        let x = through bs d in
        let zero_ : x.head.counter ≡ 0 = first_met in
        seen_few (access_of (lens (station_of (datagram_after r x).head.command (datagram_after r x).head.adp)) (datagram_after r x).head.command (datagram_after r x).head.ado (datagram_after r x).body) (datagram_after r x).head.counter
        (counter_at r x.head x.body (if is_meant r x.head then row_of r x.head.ado (length x.body) else None) zero_ (one_way p n x.head.command at is_access.command))

    came_here : Came lens p n r (came_of (Some (datagram_seen lens (through qs (datagram_after r (through bs d))))))
    came_here = record {
      access = through bs d;
      is = is_access;
      first = first_met;
      came_is = ap₂ (λ (c : ℕ) (f : Option Found). Some (c == 1, f)) counter_same found_same ∙ ap (λ (b : Bool). Some (b, (datagram_seen lens (datagram_after r (through bs d))).found)) (same_done (datagram_seen lens (datagram_after r (through bs d))).counter few_done);
    }

  -- behind what isn't for it
  pub came_is : (front : List Raw.Datagram) (d : Raw.Datagram) (behind : List Raw.Datagram) (bs qs : List Esc.Registers) → length bs ≡ place → length qs < 16 → AllNotFor p place 0 front → IsSent p n place d →
      AllApart p.station bs (front ++ d ∷ behind) → AllApart p.station qs (datagrams_after r (all_after bs (front ++ d ∷ behind))) →
      Came lens p n r (came_of (item_at (length front) (datagrams_seen lens (all_after qs (datagrams_after r (all_after bs (front ++ d ∷ behind)))))))
  came_is [] d behind bs qs at_place few before sent apart last =
      let x = through bs d in
      let split : all_after bs (d ∷ behind) ≡ x ∷ all_after (slaves_after bs d) behind = after_split bs d behind in
      let rest = datagrams_after (passed r x).registers (all_after (slaves_after bs d) behind) in
      let mine : AllApart p.station qs (datagram_after r x ∷ rest) = subst (λ l. AllApart p.station qs (datagrams_after r l)) split last in
      let here = came_here d sent bs qs at_place few (apart_one p.station bs d behind apart) (apart_one p.station qs (datagram_after r x) rest mine) in
      let list : all_after qs (datagrams_after r (all_after bs (d ∷ behind))) ≡ through qs (datagram_after r x) ∷ all_after (slaves_after qs (datagram_after r x)) rest =
      ap (λ l. all_after qs (datagrams_after r l)) split ∙ after_split qs (datagram_after r x) rest in
      subst (λ l. Came lens p n r (came_of (item_at 0 (datagrams_seen lens l)))) (sym list) here
  came_is (f ∷ fs) d behind bs qs at_place few before sent apart last =
      let x = through bs f in
      let tail = fs ++ d ∷ behind in
      let split : all_after bs (f ∷ tail) ≡ x ∷ all_after (slaves_after bs f) tail = after_split bs f tail in
      let other : AllNotFor p place place (x ∷ []) = subst (λ (m : ℕ). AllNotFor p place m (x ∷ [])) at_place
      (subst (λ l. AllNotFor p place (length bs) l) (after_split bs f [] ∙ ap (λ l. x ∷ l) (after_none (slaves_after bs f))) (subst (λ (m : ℕ). AllNotFor p place m (all_after bs (f ∷ []))) (let e : 0 + length bs ≡ length bs = omega arith in e) (others_on p place 0 bs (f ∷ []) near (omega (arith, at_place)) (before.0, tt)))) in
      let not_ : means r.station x.head ≡ false = (Way.none_meant p place r (x ∷ []) near called other).0 in
      let stays : (passed r x).registers ≡ r = unmoved r x not_ in
      let rest = datagrams_after r (all_after (slaves_after bs f) tail) in
      let behind_it : datagrams_after r (all_after bs (f ∷ tail)) ≡ datagram_after r x ∷ rest =
      ap (λ l. datagrams_after r l) split ∙ ap (λ (q : Esc.Registers). datagram_after r x ∷ datagrams_after q (all_after (slaves_after bs f) tail)) stays in
      let mine : AllApart p.station qs (datagram_after r x ∷ rest) = subst (λ l. AllApart p.station qs l) behind_it last in
      let next = came_is fs d behind (slaves_after bs f) (slaves_after qs (datagram_after r x)) (same_many bs f ∙ at_place) (let e = same_many qs (datagram_after r x) in omega (arith, e, few)) before.1 sent
      (apart_rest p.station bs f tail apart) (apart_rest p.station qs (datagram_after r x) rest mine) in
      let list : all_after qs (datagrams_after r (all_after bs (f ∷ tail))) ≡ through qs (datagram_after r x) ∷ all_after (slaves_after qs (datagram_after r x)) rest =
      ap (λ l. all_after qs l) behind_it ∙ after_split qs (datagram_after r x) rest in
      subst (λ l. Came lens p n r (came_of (item_at (suc (length fs)) (datagrams_seen lens l)))) (sym list) next
