-- Whether a frame has room for a slave's datagram.
use Rattle.std.proofs.Common.{◌≡◌, ◌≤◌, ◌+◌, ◌-◌, ◌<◌, ℕ, Bool, true, false, List, length, refl, sym, ap, ◌∙◌, subst, nat_le, leb-true, leb-false, arith}
use Rattle.master_side.specs.of_al_state.declared.bringing.BringUp.{BringUp}
use Rattle.master_side.specs.of_al_state.BringUp.{octets_of}
use Rattle.master_side.specs.Again.{HasNoRoom, IsOnWay, Repeats, area_of, sent_len}
use Rattle.master_side.specs.declared.hand.Hand.{Ghosts}
use Rattle.master_side.specs.declared.side.Side.{Side}
use Rattle.master_side.proofs.Agains.{least_area}
use Rattle.master_tour.specs.Goes.{is_live}
use Rattle.master_tour.specs.declared.stop.Stand.{Stand}
use Rattle.master_tour.specs.declared.stop.Stop.{Stop}
use Rattle.master_tour.specs.Rooms.{Looks, StandOnWay, StandRepeats, StopRepeats, Visits, stand_len, stop_len}

no_room : (octets : List ℕ) (n m room : ℕ) → n ≤ m → room ≡ 1514 - length octets - 12 → room < n → HasNoRoom octets m
no_room octets n m room l e r = omega (arith, l, e, r)

pub looks : {H : Type 0} {G : Ghosts H} (octets : List ℕ) (s t : Stop H G) (len room : ℕ) → len ≤ area_of s.side → (StopRepeats s → StopRepeats t × (stop_len t ≡ stop_len s) × (len ≤ stop_len s)) → room ≡ 1514 - length octets - 12 → Looks octets (nat_le len room) s t
looks octets s t len room a h e = record {
  area = λ n. no_room octets len (area_of s.side) room a e (leb-false len room n);
  again = λ r. let x = h r in (x.0, x.1, λ n. no_room octets len (stop_len s) room x.2 e (leb-false len room n));
}

-- A VISIT, by how the master stands to the slave
module _ {H : Type 0} {G : Ghosts H} (before : List ℕ) (s t : Stop H G) where
  pub visit_gone : s.stand ≡ Stand.Gone → t.under ≡ false → Visits before before s t
  visit_gone e u = record {
    area = λ l n. absurd (let d = sym (ap is_live e) ∙ l in cc);
    again = λ r. absurd (subst (λ z. StandRepeats z s.side) e r);
    way = λ y. absurd (let d = sym u ∙ y in cc);
    still = λ n. refl;
  }

  -- an opening whose access does not fit
  pub visit_full : (up : BringUp) (len room : ℕ) → s.stand ≡ Stand.Opening up → t.under ≡ false → len ≡ length (octets_of up) → len ≤ 8 → room ≡ 1514 - length before - 12 → room < len → Visits before before s t
  visit_full up len room e u is few r l = record {
    area = λ y n. no_room before len (area_of s.side) room (let a = least_area s.side in omega (arith, a, few)) r l;
    again = λ y. (λ n. no_room before len (stop_len s) room (let q = is ∙ sym (ap (λ z. stand_len z s.side) e) in omega (arith, q)) r l, λ y. absurd (let d = sym u ∙ y in cc));
    way = λ y. absurd (let d = sym u ∙ y in cc);
    still = λ n. refl;
  }

  -- one whose access stands in the frame
  pub visit_opens : (behind : List ℕ) (up : BringUp) → s.stand ≡ Stand.Opening up → t.stand ≡ Stand.Opening up → t.under ≡ true → length behind ≡ length before + (12 + length (octets_of up)) → Visits before behind s t
  visit_opens behind up e f u g = record {
    area = λ y n. absurd (let d = sym u ∙ n in cc);
    again = λ y. (λ n. absurd (let d = sym u ∙ n in cc), λ y. (let a = ap (λ z. stand_len z s.side) e in let b = ap (λ z. stand_len z t.side) f in omega (arith, a, b)));
    way = λ y. (subst (λ z. StandOnWay z t.side) (sym f) tt, (let b = ap (λ z. stand_len z t.side) f in omega (arith, b, g)));
    still = λ n. absurd (let d = sym u ∙ n in cc);
  }

  -- an open slave
  pub visit_open : (behind : List ℕ) → s.stand ≡ Stand.Open → t.stand ≡ Stand.Open → (t.under ≡ false → HasNoRoom before (area_of s.side)) → (Repeats s.side → (t.under ≡ false → HasNoRoom before (sent_len s.side)) × (t.under ≡ true → sent_len t.side ≤ sent_len s.side)) →
      (t.under ≡ true → IsOnWay t.side × (length behind ≡ length before + (12 + sent_len t.side))) → (t.under ≡ false → behind ≡ before) → Visits before behind s t
  visit_open behind e f a r w n = record {
    area = λ y z. a z;
    again = λ y.
        let x = r (subst (λ z. StandRepeats z s.side) e y) in
        let p = ap (λ z. stand_len z s.side) e in
        let q = ap (λ z. stand_len z t.side) f in
        (λ z. subst (λ k. HasNoRoom before k) (sym p) (x.0 z), λ z. (let l = x.1 z in omega (arith, l, p, q)));
    way = λ y. let x = w y in let q = ap (λ z. stand_len z t.side) f in (subst (λ z. StandOnWay z t.side) (sym f) x.0, (let g = x.1 in omega (arith, g, q)));
    still = n;
  }

-- A LOST FRAME, and before a visit: by stand and side
module _ {H : Type 0} {G : Ghosts H} (a b : Stand) (s t : Side H G) where
  pub loses_gone : (under : Bool) → a ≡ Stand.Gone → StandOnWay a s → under ≡ true → StandRepeats b t × (stand_len b t ≤ stand_len a s)
  loses_gone under e w u = absurd (subst (λ z. StandOnWay z s) e w)

  pub loses_opens : (under : Bool) (up : BringUp) → a ≡ Stand.Opening up → b ≡ Stand.Opening up → StandOnWay a s → under ≡ true → StandRepeats b t × (stand_len b t ≤ stand_len a s)
  loses_opens under up e f w u = (subst (λ z. StandRepeats z t) (sym f) tt, (let p = ap (λ z. stand_len z s) e in let q = ap (λ z. stand_len z t) f in omega (arith, p, q)))

  pub loses_open : (under : Bool) → a ≡ Stand.Open → b ≡ Stand.Open → (IsOnWay s → under ≡ true → Repeats t × (sent_len t ≤ sent_len s)) → StandOnWay a s → under ≡ true → StandRepeats b t × (stand_len b t ≤ stand_len a s)
  loses_open under e f h w u =
      let x = h (subst (λ z. StandOnWay z s) e w) u in
      let l = x.1 in
      (subst (λ z. StandRepeats z t) (sym f) x.0, (let p = ap (λ z. stand_len z s) e in let q = ap (λ z. stand_len z t) f in omega (arith, p, q, l)))

  pub ahead_open : (len : ℕ) → a ≡ Stand.Open → b ≡ Stand.Open → (Repeats s → Repeats t × (sent_len t ≡ sent_len s) × (len ≤ sent_len s)) → StandRepeats a s → StandRepeats b t × (stand_len b t ≡ stand_len a s) × (len ≤ stand_len a s)
  ahead_open len e f h r =
      let x = h (subst (λ z. StandRepeats z s) e r) in
      let p = ap (λ z. stand_len z s) e in
      let q = ap (λ z. stand_len z t) f in
      (subst (λ z. StandRepeats z t) (sym f) x.0, q ∙ x.1 ∙ sym p, (let l = x.2 in omega (arith, p, l)))

pub ahead_opens : {H : Type 0} {G : Ghosts H} (a : Stand) (s : Side H G) (up : BringUp) (len : ℕ) → a ≡ Stand.Opening up → len ≡ length (octets_of up) → len ≤ stand_len a s
ahead_opens a s up len e l = let p = ap (λ z. stand_len z s) e in omega (arith, p, l)

-- one that fits
pub fits_in : (octets : List ℕ) (ahead room len : ℕ) → len ≡ ahead → room ≡ 1514 - length octets - 12 → nat_le ahead room ≡ true → len ≤ 1514 - length octets - 12
fits_in octets ahead room len e r f = let l = leb-true ahead room f in omega (arith, e, r, l)
