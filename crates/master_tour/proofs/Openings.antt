-- An opening goes on by its accesses, as the life of its slave does.
use Rattle.std.proofs.Common.{◌≡◌, ℕ, ◌-◌, ◌<◌, ◌==◌, Bool, true, false, List, [], ◌∷◌, ◌++◌, length, Option, Some, None, refl, sym, ap, ◌∙◌, subst, arith, length-append, eq-eqb}
use Rattle.std.specs.Prelude.{nat_lt, nat_le, if◌then◌else◌, ◌&&◌, not}
use Rattle.std.proofs.lemmas.Bool.{eqb-true, le-ltb, lt-ltb, ltb-true, ltb-false}
use Rattle.master_side.specs.of_ec_fields.Fields.{bits_of, number_at}
use Rattle.master_side.specs.of_al_state.declared.bringing.BringStep.{BringStep}
use Rattle.master_side.specs.of_al_state.declared.bringing.BringStep.TheVariants.{Return, Watch, Address, OutOff, InOff, OutManager, InManager, Start, Await}
use Rattle.master_side.specs.of_al_state.declared.bringing.BringUp.{BringUp}
use Rattle.master_side.specs.of_al_state.BringUp.{is_behind_init, step_behind, is_up, shows}
use Rattle.master_side.specs.of_link_mails.Body.{Body}
use Rattle.master_side.specs.of_exchange_model.Exchange.{Speech}
use Rattle.master_side.specs.of_segment_model.Slaves.{Datagram, Access, Found}
use Rattle.master_side.specs.of_segment_model.Record.{News}
use Rattle.master_side.specs.of_segment_model.Seats.{Side}
use Rattle.master_side.specs.of_state_model.Accounts.{Account, new_account}
use Rattle.master_side.specs.of_life_model.Lives
use Rattle.master_side.specs.of_life_model.Lives.{Opening, Life, Spot, is_shown, opening_back, opens, new_era, life_back}
use Rattle.master_side.specs.of_frame_view.View.{found_of, state_found}
use Rattle.master_side.specs.of_master_duty.Reply.{Reply}
use Rattle.master_side.specs.Shown.{new_side}
use Rattle.master_tour.specs.declared.stop.Stand.{Stand}
use Rattle.master_tour.specs.declared.stop.Turned.{Turned}
use Rattle.master_tour.specs.Stands.{has_step, opening_of, is_still, IsMet, IsOpeningOf, EraShows, StopShows, FollowShows, is_reading, is_opening, is_open, turned, turned_by}

differ : (a b : ℕ) → (a ≡ b → ⊥) → false ≡ (a == b)
differ a b n = go (a == b) refl
  where
    go : (z : Bool) → (a == b) ≡ z → false ≡ (a == b)
    go false e = sym e
    go true e = absurd (n (eqb-true a b e))

-- a status shows a state without the error flag just where it is that number
word_shown : (w code state : ℕ) → nat_lt state 16 ≡ true → is_shown state (state_found w code) ≡ (w == state)
word_shown w code state s = go (nat_lt w 32) refl (bits_of w 4 1 == 1) refl
  where
    low : nat_lt w 32 ≡ true → (bits_of w 4 1 == 1) ≡ false → w < 16
    low e f = low_by (nat_lt w 16) refl
      where
        low_by : (z : Bool) → nat_lt w 16 ≡ z → w < 16
        low_by true g = ltb-true w 16 g
        low_by false g = absurd (let h = ltb-true w 32 e in let k = ltb-false w 16 g in let one : bits_of w 4 1 ≡ 1 = omega (arith, h, k) in let t = sym (eq-eqb (bits_of w 4 1) 1 one) ∙ f in cc)

    go : (b : Bool) → nat_lt w 32 ≡ b → (c : Bool) → (bits_of w 4 1 == 1) ≡ c → is_shown state (if b then Some (Found.State (bits_of w 0 4) (if c then Some code else None)) else None) ≡ (w == state)
    go false e c f = differ w state (λ k. let h = ltb-false w 32 e in let t = ltb-true state 16 s in omega (arith, h, t, k))
    go true e true f = differ w state (λ k. let h = ltb-true w 32 e in let t = ltb-true state 16 s in let one = eqb-true (bits_of w 4 1) 1 f in omega (arith, h, t, k, one))
    go true e false f = let l = low e f in ap (λ n. n == state) (omega (arith, l))

pub seen_shown : (counter : ℕ) (body : List ℕ) (state : ℕ) (done : Bool) (found : Option Found) → nat_lt state 16 ≡ true → done ≡ (counter == 1) → found ≡ found_of Access.ReadState counter body → length body ≡ 6 → (done && is_shown state found) ≡ (counter == 1 && shows body state)
seen_shown counter body state done found small e f whole = go (counter == 1) refl
  where
    go : (b : Bool) → (counter == 1) ≡ b → (done && is_shown state found) ≡ (counter == 1 && shows body state)
    go false k = ap (λ z. z && is_shown state found) (e ∙ k) ∙ ap (λ z. z && shows body state) (sym k)
    go true k =
        let one = eqb-true counter 1 k in
        let is : found ≡ state_found (number_at 2 body 0) (number_at 2 body 4) = f ∙ ap (λ (n : ℕ). if n == 0 then None else state_found (number_at 2 body 0) (number_at 2 body 4)) one in
        ap (λ z. z && is_shown state found) (e ∙ k) ∙ ap (is_shown state) is ∙ word_shown (number_at 2 body 0) (number_at 2 body 4) state small
        ∙ sym (ap (λ n. nat_le 2 n && number_at 2 body 0 == state) whole) ∙ ap (λ z. z && shows body state) (sym k)

-- HOW AN OPENING GOES ON: it ends, its slave was seen in Init, or its next access is in hand
pub data Turns {Q : Type 0} (frame : ℕ) (l : Life Body Q Reply) (up next : BringUp) (own : Bool) (m : Life Body Q Reply) (ends clears : Bool) : Type 0 where
  opened : ends ≡ true → clears ≡ false → is_still up ≡ false → m ≡ opens frame l → Turns frame l up next own m ends clears
  cleared : ends ≡ false → clears ≡ true → is_still up ≡ true → is_still next ≡ false → has_step next ≡ true →
      m ≡ record { past = l.past ++ l.era ∷ []; era = new_era (Some frame) up.start; stand = Lives.Stand.Opens (opening_of next own); gave = l.gave } → Turns frame l up next own m ends clears
  on : ends ≡ false → clears ≡ false → is_still next ≡ is_still up → has_step next ≡ true → m ≡ record l { stand = Lives.Stand.Opens (opening_of next own) } → Turns frame l up next own m ends clears

module _ {Q : Type 0} (frame adp station out_len in_len start : ℕ) (own : Bool) (l : Life Body Q Reply) (done : Bool) (found : Option Found) (counter : ℕ) (body : List ℕ) where
  abbrev pub at_step : Bool → BringStep → BringUp
  at_step again step = record { adp = adp; station = station; out_len = out_len; in_len = in_len; start = start; again = again; step = step }

  abbrev pub behind : BringUp → BringUp
  behind up = record up { step = step_behind up counter body }

  abbrev pub sees_clear : BringUp → Bool
  sees_clear up = not (up.again && is_behind_init up.step) && (up.again && is_behind_init (step_behind up counter body))

  watched : (p q : Bool) → p ≡ q → l.stand ≡ Lives.Stand.Opens (opening_of (at_step true Watch) own) → (let next = record (at_step true Watch) { step = (if not q then Watch else Address) } in
      Turns frame l (at_step true Watch) next own (if p then Lives.clears frame l (opening_of (at_step true Watch) own) else l) false (true && is_behind_init next.step))
  watched true true e st = Turns.cleared refl refl refl refl refl refl
  watched false false e st = Turns.on refl refl refl refl (λ i. record l { stand = st i })
  watched true false e st = absurd (cc)
  watched false true e st = absurd (cc)

  awaited : (again p q : Bool) → p ≡ q → l.stand ≡ Lives.Stand.Opens (opening_of (at_step again Await) own) → is_still (at_step again Await) ≡ false → has_step (at_step again Await) ≡ true → (c : Bool) → c ≡ false →
      Turns frame l (at_step again Await) (at_step again Await) own (if p then opens frame l else l) q c
  awaited again true true e st k h c n = Turns.opened refl n k refl
  awaited again false false e st k h c n = Turns.on refl n refl h (λ i. record l { stand = st i })
  awaited again true false e st k h c n = absurd (cc)
  awaited again false true e st k h c n = absurd (cc)

  pub turns : (again : Bool) (step : BringStep) → l.stand ≡ Lives.Stand.Opens (opening_of (at_step again step) own) → has_step (at_step again step) ≡ true →
      (is_reading step ≡ true → (done && is_shown 1 found) ≡ (counter == 1 && shows body 1)) → (is_reading step ≡ true → (done && is_shown start found) ≡ (counter == 1 && shows body start)) →
      Turns frame l (at_step again step) (behind (at_step again step)) own (opening_back frame l (opening_of (at_step again step) own) done found) (is_up (at_step again step) counter body) (sees_clear (at_step again step))
  turns true Return st h one at = Turns.on refl refl refl refl refl
  turns true Watch st h one at = watched (done && is_shown 1 found) (counter == 1 && shows body 1) (one refl) st
  turns true Address st h one at = Turns.on refl refl refl refl refl
  turns true OutOff st h one at = Turns.on refl refl refl refl refl
  turns true InOff st h one at = Turns.on refl refl refl refl refl
  turns true OutManager st h one at = Turns.on refl refl refl refl refl
  turns true InManager st h one at = Turns.on refl refl refl refl refl
  turns true Start st h one at = Turns.on refl refl refl refl refl
  turns true Await st h one at = awaited true (done && is_shown start found) (counter == 1 && shows body start) (at refl) st refl refl false refl
  turns false Address st h one at = Turns.on refl refl refl refl refl
  turns false OutManager st h one at = Turns.on refl refl refl refl refl
  turns false InManager st h one at = Turns.on refl refl refl refl refl
  turns false Start st h one at = Turns.on refl refl refl refl refl
  turns false Await st h one at = awaited false (done && is_shown start found) (counter == 1 && shows body start) (at refl) st refl refl false refl
  turns false Return st h one at = absurd (cc)
  turns false Watch st h one at = absurd (cc)
  turns false OutOff st h one at = absurd (cc)
  turns false InOff st h one at = absurd (cc)

-- a number against itself, and against one more
pub lt_self : (n : ℕ) → nat_lt n n ≡ false
lt_self n = le-ltb n n (omega arith)

pub lt_more : {X : Type 0} (xs : List X) (x : X) → nat_lt (length xs) (length (xs ++ x ∷ [])) ≡ true
lt_more xs x = let l = length-append xs (x ∷ []) in lt-ltb (length xs) (length (xs ++ x ∷ [])) (omega (arith, l))

pub turned_is : {Q : Type 0} (l m : Life Body Q Reply) (g c o : Bool) → nat_lt (length l.gave) (length m.gave) ≡ g → nat_lt (length l.past) (length m.past) ≡ c → (is_opening l.stand && is_open m.stand) ≡ o → turned_by g c o ≡ turned l m
turned_is l m g c o e f h = λ i. turned_by ((sym e) i) ((sym f) i) ((sym h) i)

module _ {Q : Type 0} (shows new : Side Body Q Reply → Account Q Reply → Type 0) (frame recover : ℕ) (spot : Spot) (spare : ℕ) (up : BringUp) (step : BringStep) (own : Bool) (l : Life Body Q Reply) where
  follow : (m : Life Body Q Reply) (ends clears : Bool) → Turns frame l up (record up { step = step }) own m ends clears → l.stand ≡ Lives.Stand.Opens (opening_of up own) → IsOpeningOf spot up → EraShows shows (is_still up) l.era → spare ≡ recover - length l.gave →
      (clears ≡ false → (d : Side Body Q Reply) (a : Account Q Reply) → shows d a → new d a) → (clears ≡ true → (d : Side Body Q Reply) (a : Account Q Reply) → shows d a → new new_side new_account) →
      FollowShows new recover spot (if ends then Stand.Open else Stand.Opening (record up { step = step })) spare (turned_by false clears ends) l m
  follow m ends clears (Turns.opened u c s e) st o era sp keeps renews =
      let was = subst (λ z. EraShows shows z l.era) s era in
      subst (λ z. FollowShows new recover spot (if ends then Stand.Open else Stand.Opening (record up { step = step })) spare (turned_by false clears ends) l z) (sym e)
      (subst (λ z. FollowShows new recover spot (if z then Stand.Open else Stand.Opening (record up { step = step })) spare (turned_by false clears z) l (opens frame l)) (sym u)
      (record { shown = record { stood = (refl, keeps c l.era.side l.era.account was); spared = sp; over = λ e. absurd (cc) }; told = ap (λ z. turned_by false z true) c ∙ turned_is l (opens frame l) false false true (lt_self (length l.gave)) (lt_self (length l.past)) (ap (λ z. is_opening z && true) st) }))
  follow m ends clears (Turns.cleared u c s n h e) st o era sp keeps renews =
      let was = subst (λ z. EraShows shows z l.era) s era in
      let next : Life Body Q Reply = record { past = l.past ++ l.era ∷ []; era = new_era (Some frame) up.start; stand = Lives.Stand.Opens (opening_of (record up { step = step }) own); gave = l.gave } in
      subst (λ z. FollowShows new recover spot (if ends then Stand.Open else Stand.Opening (record up { step = step })) spare (turned_by false clears ends) l z) (sym e)
      (subst (λ z. FollowShows new recover spot (if z then Stand.Open else Stand.Opening (record up { step = step })) spare (turned_by false clears z) l next) (sym u)
      (record {
        shown = record {
          stood = record { own = own; stand = refl; opening = record { step = h; state = o.state; station = o.station; place = o.place }; era = subst (λ z. EraShows new z next.era) (sym n) (renews c was.side was.account was.shown) };
          spared = sp;
          over = λ e. absurd (cc);
        };
        told = ap (λ z. turned_by false z false) c ∙ turned_is l next false true false (lt_self (length l.gave)) (lt_more l.past l.era) (ap (λ z. is_opening z && false) st);
      }))
  follow m ends clears (Turns.on u c n h e) st o era sp keeps renews =
      let next : Life Body Q Reply = record l { stand = Lives.Stand.Opens (opening_of (record up { step = step }) own) } in
      subst (λ z. FollowShows new recover spot (if ends then Stand.Open else Stand.Opening (record up { step = step })) spare (turned_by false clears ends) l z) (sym e)
      (subst (λ z. FollowShows new recover spot (if z then Stand.Open else Stand.Opening (record up { step = step })) spare (turned_by false clears z) l next) (sym u)
      (record {
        shown = record {
          stood = record { own = own; stand = refl; opening = record { step = h; state = o.state; station = o.station; place = o.place }; era = subst (λ z. EraShows new z l.era) (sym n) (kept (is_still up) era) };
          spared = sp;
          over = λ e. absurd (cc);
        };
        told = ap (λ z. turned_by false z false) c ∙ turned_is l next false false false (lt_self (length l.gave)) (lt_self (length l.past)) (ap (λ z. is_opening z && false) st);
      }))
    where
      kept : (z : Bool) → EraShows shows z l.era → EraShows new z l.era
      kept true s = record { side = s.side; account = s.account; shown = keeps c s.side s.account s.shown }
      kept false s = keeps c l.era.side l.era.account s

-- AN OPENING'S ACCESS CAME BACK
pub opening_follows : {Q : Type 0} (shows new : Side Body Q Reply → Account Q Reply → Type 0) (frame recover : ℕ) (spot : Spot) (spare : ℕ) (up next : BringUp) (l : Life Body Q Reply) (x : Speech Body Q Reply) (acknowledged : Q → Bool) (more : Body → Bool) (passed : Q → Bool) (ns : List (News Body)) (back : List (Datagram Body))
    (came : Bool × Option Found) (counter : ℕ) (body : List ℕ) (ends clears : Bool) (stand : Stand) (told : Option Turned) → next ≡ record up { step = step_behind up counter body } → ends ≡ is_up up counter body → clears ≡ (not (up.again && is_behind_init up.step) && (next.again && is_behind_init next.step)) →
    stand ≡ (if ends then Stand.Open else Stand.Opening next) → told ≡ turned_by false clears ends → IsMet up counter body came → StopShows shows recover spot (Stand.Opening up) spare l →
    (clears ≡ false → (d : Side Body Q Reply) (a : Account Q Reply) → shows d a → new d a) → (clears ≡ true → (d : Side Body Q Reply) (a : Account Q Reply) → shows d a → new new_side new_account) →
    FollowShows new recover spot stand spare told l (life_back x acknowledged more passed frame spot ns back (Some came) l l.stand)
opening_follows {Q} shows new frame recover spot spare up next l x acknowledged more passed ns back came counter body ends clears stand told n u c st to met sh keeps renews =
    let s = sh.stood in
    let up' : BringUp = record up { step = step_behind up counter body } in
    let clears' = sees_clear frame up.adp up.station up.out_len up.in_len up.start s.own l came.0 came.1 counter body up in
    let is : clears ≡ clears' = c ∙ ap (λ (z : BringUp). not (up.again && is_behind_init up.step) && (z.again && is_behind_init z.step)) n in
    let t = turns frame up.adp up.station up.out_len up.in_len up.start s.own l came.0 came.1 counter body up.again up.step s.stand s.opening.step
    (λ r. seen_shown counter body 1 came.0 came.1 refl (met.done r) (met.found r) (met.whole r)) (λ r. seen_shown counter body up.start came.0 came.1 s.opening.state (met.done r) (met.found r) (met.whole r)) in
    let base = follow shows new frame recover spot spare up (step_behind up counter body) s.own l (opening_back frame l (opening_of up s.own) came.0 came.1) (is_up up counter body) clears' t s.stand s.opening s.era sh.spared (λ e. keeps (is ∙ e)) (λ e. renews (is ∙ e)) in
    subst (λ z. FollowShows new recover spot stand spare told l (life_back x acknowledged more passed frame spot ns back (Some came) l z)) (sym s.stand)
    (subst (λ z. FollowShows new recover spot z spare told l (opening_back frame l (opening_of up s.own) came.0 came.1)) (sym (st ∙ (λ i. if u i then Stand.Open else Stand.Opening (n i))))
    (subst (λ z. FollowShows new recover spot (if is_up up counter body then Stand.Open else Stand.Opening up') spare z l (opening_back frame l (opening_of up s.own) came.0 came.1)) (sym (to ∙ (λ i. turned_by false (is i) (u i)))) base))
