-- What is unfinished of the packets of slaves behind a frame, by their lives.
use Rattle.std.proofs.Common.{◌≡◌, ◌<◌, ℕ, zero, suc, get_or, Bool, true, false, Option, Some, None, List, [], ◌∷◌, length, refl, sym, ap, ◌∙◌, subst, arith}
use Rattle.std.specs.Prelude.{◌==◌, ◌&&◌, nat_lt, if◌then◌else◌, map, IfSome, slice_get}
use Rattle.std.proofs.lemmas.Bool.Decides.{nat_tests}
use Rattle.eoe_switch.specs.of_eoe.declared.joining.Unfinished.{Unfinished}
use Rattle.life_runs.specs.of_exchange_model.Exchange.{Speech}
use Rattle.life_runs.specs.of_frame_view.Shares.{AllBoth, AllThree, given_where}
use Rattle.life_runs.specs.of_life_model.Lives.{Life, Era, Opening, Spot, Stand, shows_clear, last_step, is_shown, clears, opens, steps_on, opening_back, reopens, reopens_at, reopening, opens_state, returns_to_init, era_back, life_back, life_lost}
use Rattle.life_runs.specs.Led.{Turn}
use Rattle.life_runs.specs.Spans.{is_leaving}
use Rattle.life_runs.specs.of_link_mails.Body.{Body}
use Rattle.life_runs.specs.of_link_model.Link.{Halves}
use Rattle.life_runs.specs.of_master_duty.Reply.{Reply}
use Rattle.life_runs.specs.of_master_hand.Joins.{unfinished_behind, Completes}
use Rattle.life_runs.specs.of_master_hand.Spoken.{Asked}
use Rattle.life_runs.specs.of_master_hand.declared.found.Found.{Found}
use Rattle.life_runs.specs.of_master_side.Heard.{Brought, joined_by}
use Rattle.life_runs.specs.of_master_side.declared.hand.Heard.{Heard}
use Rattle.life_runs.specs.of_master_tour.Brings.{accepted_at}
use Rattle.life_runs.specs.of_master_tour.Joins.{join_behind, join_at}
use Rattle.life_runs.specs.of_master_tour.Stands.{turned, is_opening, is_open}
use Rattle.life_runs.specs.of_master_tour.Walks.{EachPair}
use Rattle.life_runs.specs.of_master_tour.declared.stop.Turned.{Turned}
use Rattle.life_runs.proofs.of_master_tour.Backs.{turned_same}
use Rattle.life_runs.proofs.of_master_tour.Openings.{turned_is, lt_self, lt_more}
use Rattle.life_runs.specs.of_segment_model.Record.{News}
use Rattle.life_runs.specs.of_segment_model.Slaves as Slaves
use Rattle.life_runs.specs.of_segment_model.Slaves.{Datagram}
use Rattle.life_runs.specs.of_state_model.Accounts.{Duty, Stage}
use Rattle.life_runs.specs.of_master_hand.declared.hand.InHand.{InHand}
use Rattle.life_runs.specs.of_master_side.declared.hand.Hand.{Ghosts}
use Rattle.life_runs.specs.of_master_tour.declared.stop.Stop.{Stop}
use Rattle.master_node.specs.Kept.{StopStays}
use Rattle.master_node.specs.Joined.{IsUnfinished, StopCompleted, mails_back, stand_under, unfinished_after}

abbrev SlaveLife : Type 0
SlaveLife = Life Body Asked Reply

-- nothing is unfinished, whatever the frame turned the slave into
none_kept : (turn : Option Turned) (now before : Option Unfinished) → now ≡ join_behind None turn before → before ≡ None → now ≡ None
none_kept (Some Turned.Cleared) now before e n = e
none_kept (Some Turned.Opened) now before e n = e ∙ n
none_kept (Some Turned.GivenUp) now before e n = e ∙ n
none_kept None now before e n = e ∙ n

none_at : (z : Stand) (now : Option Unfinished) → now ≡ None → IsUnfinished z now None
none_at (Stand.Opens o) now e = λ w. e
none_at Stand.Open now e = e
none_at Stand.Gone now e = tt

-- a slave that is to be returned to Init isn't at the end of its opening, and stays so until it is seen in Init
far_step : (step : ℕ) → nat_lt step 3 ≡ true → (step == 9) ≡ false
far_step step e = grind (arith, nat_tests)

next_step : (step : ℕ) → nat_lt step 3 ≡ true → (step == 2) ≡ false → nat_lt (suc step) 3 ≡ true
next_step step e f = grind (arith, nat_tests)

not_last : (again : Bool) (step : ℕ) → (again && nat_lt step 3) ≡ true → (step == (if again then 9 else 5)) ≡ true → ⊥
not_last false step e d = let bad : false ≡ true = e in cc
not_last true step e d = let bad : true ≡ false = sym d ∙ far_step step e in cc

not_left : (again : Bool) (step : ℕ) → (again && nat_lt step 3) ≡ true → (again && (step == 2)) ≡ false → (again && nat_lt (suc step) 3) ≡ false → ⊥
not_left false step e c l = let bad : false ≡ true = e in cc
not_left true step e c l = let bad : true ≡ false = sym (next_step step e c) ∙ l in cc

-- an opening behind an access of it
opening_none : (frame : ℕ) (l : SlaveLife) (o : Opening) (done : Bool) (found : Option Slaves.Found) (turn : Option Turned) (now before : Option Unfinished) → l.stand ≡ Stand.Opens o → (is_leaving (Stand.Opens o) ≡ false → before ≡ None) → now ≡ join_behind None turn before →
    turn ≡ turned l (opening_back frame l o done found) → IsUnfinished (opening_back frame l o done found).stand now None
opening_none frame l o done found turn now before st h k t = go (is_leaving (Stand.Opens o)) refl
  where
    by : (sees ends seen shown : Bool) → is_leaving (Stand.Opens o) ≡ true → shows_clear o ≡ sees → (o.step == last_step o) ≡ ends →
        turn ≡ turned l (if sees then (if seen then clears frame l o else l) else if ends then (if shown then opens frame l else l) else steps_on l o) →
        IsUnfinished (if sees then (if seen then clears frame l o else l) else if ends then (if shown then opens frame l else l) else steps_on l o).stand now None
    by true ends true shown e s d w = λ v. k ∙ ap (λ z. join_behind None z before) (w ∙ sym (turned_is l (clears frame l o) false true (is_opening l.stand && is_open (clears frame l o).stand) (lt_self (length l.gave)) (lt_more l.past l.era) refl))
    by true ends false shown e s d w = subst (λ z. IsUnfinished z now None) (sym st) (λ v. absurd (let bad : true ≡ false = sym e ∙ v in cc))
    by false true seen shown e s d w = absurd (not_last o.again o.step e d)
    by false false seen shown e s d w = λ v. absurd (not_left o.again o.step e s v)

    go : (b : Bool) → is_leaving (Stand.Opens o) ≡ b → IsUnfinished (opening_back frame l o done found).stand now None
    go false e = none_at (opening_back frame l o done found).stand now (none_kept turn now before k (h e))
    go true e = by (shows_clear o) (o.step == last_step o) (done && is_shown 1 found) (done && is_shown o.state found) e refl refl t

-- what may begin a reopening
reopened : (k : SlaveLife) (hand : Option Duty) → ((reopens k hand).gave ≡ k.gave) × ((reopens k hand).past ≡ k.past)
reopened k None = (refl, refl)
reopened k (Some duty) = go duty.stage
  where
    go : (z : Stage) → ((reopens_at k duty.target z).gave ≡ k.gave) × ((reopens_at k duty.target z).past ≡ k.past)
    go Stage.Drains = (refl, refl)
    go (Stage.Goes phase) = by (returns_to_init duty.target)
      where
        by : (b : Bool) → ((if b then record k { stand = reopening (opens_state duty.target) true } else k).gave ≡ k.gave) × ((if b then record k { stand = reopening (opens_state duty.target) true } else k).past ≡ k.past)
        by true = (refl, refl)
        by false = (refl, refl)

reopened_join : (k : SlaveLife) (hand : Option Duty) (now join : Option Unfinished) → k.stand ≡ Stand.Open → now ≡ join → IsUnfinished (reopens k hand).stand now join
reopened_join k None now join st e = subst (λ z. IsUnfinished z now join) (sym st) e
reopened_join k (Some duty) now join st e = go duty.stage
  where
    still : IsUnfinished k.stand now join
    still = subst (λ z. IsUnfinished z now join) (sym st) e

    go : (z : Stage) → IsUnfinished (reopens_at k duty.target z).stand now join
    go Stage.Drains = still
    go (Stage.Goes phase) = by (returns_to_init duty.target)
      where
        by : (b : Bool) → IsUnfinished (if b then record k { stand = reopening (opens_state duty.target) true } else k).stand now join
        by true = λ v. absurd (let bad : true ≡ false = v in cc)
        by false = still

-- BEHIND A FRAME THAT CAME BACK, by what the slave's hand joined
module _ (x : Speech Body Asked Reply) (acknowledged : Asked → Bool) (more : Body → Bool) (passed : Asked → Bool) (number : ℕ) (spot : Spot) (ns : List (News Body)) (back : List (Datagram Body)) where
  abbrev after : Option (Bool × Option Slaves.Found) → SlaveLife → Stand → SlaveLife
  after came l z = life_back x acknowledged more passed number spot ns back came l z

  nothing_joined : (turn : Option Turned) (now before : Option Unfinished) (ms : List Body) → ms ≡ [] → now ≡ join_behind None turn (joined_by unfinished_behind before ms) → now ≡ join_behind None turn before
  nothing_joined turn now before ms n k = k ∙ ap (λ z. join_behind None turn (joined_by unfinished_behind before z)) n

  pub back_unfinished : (came : Option (Bool × Option Slaves.Found)) (l : SlaveLife) (z : Stand) (turn : Option Turned) (now before join : Option Unfinished) (ms : List Body) → l.stand ≡ z → ms ≡ accepted_at spot.station l.era.side.halves back z → IsUnfinished z before join →
      now ≡ join_behind None turn (joined_by unfinished_behind before ms) → turn ≡ turned l (after came l z) → IsUnfinished (after came l z).stand now (join_at None unfinished_behind z join ms)
  back_unfinished None l (Stand.Opens o) turn now before join ms st is h k t = subst (λ z. IsUnfinished z now None) (sym st) (λ v. none_kept turn now before (nothing_joined turn now before ms is k) (h v))
  back_unfinished (Some came) l (Stand.Opens o) turn now before join ms st is h k t = opening_none number l o came.0 came.1 turn now before st h (nothing_joined turn now before ms is k) t
  back_unfinished came l Stand.Gone turn now before join ms st is h k t = subst (λ z. IsUnfinished z now None) (sym (ap (λ (m : SlaveLife). m.stand) (gone_same came) ∙ st)) tt
    where
      gone_same : (c : Option (Bool × Option Slaves.Found)) → after c l Stand.Gone ≡ l
      gone_same None = refl
      gone_same (Some c) = refl
  back_unfinished came l Stand.Open turn now before join ms st is h k t = open_case came t
    where
      e : Era Body Asked Reply
      e = era_back x acknowledged more passed spot.station number ns back l.era

      m : SlaveLife
      m = record l { era = e }

      joins : turn ≡ turned l (reopens m e.account.hand) → now ≡ joined_by unfinished_behind join ms
      joins w =
          let r = reopened m e.account.hand in
          k ∙ ap (λ z. join_behind None z (joined_by unfinished_behind before ms)) (w ∙ sym (turned_same l (reopens m e.account.hand) r.0 r.1 (ap (λ z. is_opening z && is_open (reopens m e.account.hand).stand) st)))
          ∙ ap (λ z. joined_by unfinished_behind z ms) h

      open_case : (c : Option (Bool × Option Slaves.Found)) → turn ≡ turned l (after c l Stand.Open) → IsUnfinished (after c l Stand.Open).stand now (joined_by unfinished_behind join ms)
      open_case None w = reopened_join m e.account.hand now _ st (joins w)
      open_case (Some c) w = reopened_join m e.account.hand now _ st (joins w)

-- what the mails completed of what was before, they completed of this
pub completed_at : (found : Found) (heard : Option Heard) (station : ℕ) (halves : Halves Body) (back : List (Datagram Body)) (z : Stand) (before join : Option Unfinished) (ms : List Body) → ms ≡ accepted_at station halves back z → IsUnfinished z before join → Brought (Completes found before) heard ms →
    Brought (Completes found join) heard ms
completed_at found heard station halves back Stand.Open before join ms is h b = subst (λ (j : Option Unfinished). Brought (Completes found j) heard ms) h b
completed_at found None station halves back (Stand.Opens o) before join ms is h b = b
completed_at found (Some what) station halves back (Stand.Opens o) before join ms is h (body, one, k) = absurd (let bad : [] ≡ body ∷ [] = sym is ∙ one in cc)
completed_at found None station halves back Stand.Gone before join ms is h b = b
completed_at found (Some what) station halves back Stand.Gone before join ms is h (body, one, k) = absurd (let bad : [] ≡ body ∷ [] = sym is ∙ one in cc)

-- BEHIND A LOST FRAME, by which a slave is given up or isn't
module _ (x : Speech Body Asked Reply) (acknowledged : Asked → Bool) (more : Body → Bool) (passed : Asked → Bool) (recover number : ℕ) (spot : Spot) (ns : List (News Body)) (sent : List (Datagram Body)) where
  lost_stand : (l : SlaveLife) (z : Stand) → (life_lost x acknowledged more passed spot ns sent l z).stand ≡ l.stand
  lost_stand l (Stand.Opens o) = refl
  lost_stand l Stand.Open = refl
  lost_stand l Stand.Gone = refl

  still_at : (z : Stand) (before join : Option Unfinished) → IsUnfinished z before join → IsUnfinished z before (join_at None unfinished_behind z join [])
  still_at (Stand.Opens o) before join h = h
  still_at Stand.Open before join h = h
  still_at Stand.Gone before join h = tt

  given_up : (more_left : Bool) (now join : Option Unfinished) → IsUnfinished (if more_left then reopening spot.start false else Stand.Gone) now join
  given_up true now join = λ v. absurd (let bad : true ≡ false = v in cc)
  given_up false now join = tt

  pub lost_unfinished : (gives : Bool) (l : SlaveLife) (now before join : Option Unfinished) → IsUnfinished l.stand before join → (gives ≡ false → now ≡ before) →
      IsUnfinished (given_where gives recover spot number (life_lost x acknowledged more passed spot ns sent l l.stand)).stand now (join_at None unfinished_behind l.stand join [])
  lost_unfinished true l now before join h e = given_up (nat_lt (length (life_lost x acknowledged more passed spot ns sent l l.stand).gave) recover) now _
  lost_unfinished false l now before join h e =
      subst (λ z. IsUnfinished z now (join_at None unfinished_behind l.stand join [])) (sym (lost_stand l l.stand))
      (subst (λ z. IsUnfinished l.stand z (join_at None unfinished_behind l.stand join [])) (sym (e refl)) (still_at l.stand before join h))

-- ALL SLAVES
pub three_on : {A B S : Type 0} (R : A → S → Type 0) (U : A → B → S → Type 0) (P : S → S → Type 0) (T : A → B → S → Type 0) → ((a : A) (b : B) (s t : S) → R a s → U a b s → P s t → T a b t) →
    (as' : List A) (bs : List B) (ss ts : List S) → AllBoth R as' ss → AllThree U as' bs ss → EachPair P ss ts → AllThree T as' bs ts
three_on R U P T h [] [] [] [] r u p = tt
three_on R U P T h [] [] [] (t ∷ ts) r u p = absurd p
three_on R U P T h [] [] (s ∷ ss) ts r u p = absurd r
three_on R U P T h [] (b ∷ bs) [] ts r u p = absurd u
three_on R U P T h [] (b ∷ bs) (s ∷ ss) ts r u p = absurd r
three_on R U P T h (a ∷ as') bs [] ts r u p = absurd r
three_on R U P T h (a ∷ as') [] (s ∷ ss) ts r u p = absurd u
three_on R U P T h (a ∷ as') (b ∷ bs) (s ∷ ss) [] r u p = absurd p
three_on R U P T h (a ∷ as') (b ∷ bs) (s ∷ ss) (t ∷ ts) r u p = (h a b s t r.0 u.0 p.0, three_on R U P T h as' bs ss ts r.1 u.1 p.1)

pub three_kept : {A B S : Type 0} (U : A → B → S → Type 0) (P : S → S → Type 0) → ((a : A) (b : B) (s t : S) → U a b s → P s t → U a b t) →
    (as' : List A) (bs : List B) (ss ts : List S) → AllThree U as' bs ss → EachPair P ss ts → AllThree U as' bs ts
three_kept U P h [] [] [] [] u p = tt
three_kept U P h [] [] [] (t ∷ ts) u p = absurd p
three_kept U P h [] [] (s ∷ ss) ts u p = absurd u
three_kept U P h [] (b ∷ bs) [] ts u p = absurd u
three_kept U P h [] (b ∷ bs) (s ∷ ss) ts u p = absurd u
three_kept U P h (a ∷ as') bs [] ts u p = absurd (none_three U a as' bs u)
  where
    none_three : {A B S : Type 0} (U : A → B → S → Type 0) (a : A) (as' : List A) (bs : List B) → AllThree U (a ∷ as') bs [] → ⊥
    none_three U a as' [] u = u
    none_three U a as' (b ∷ bs) u = u
three_kept U P h (a ∷ as') [] (s ∷ ss) ts u p = absurd u
three_kept U P h (a ∷ as') (b ∷ bs) (s ∷ ss) [] u p = absurd p
three_kept U P h (a ∷ as') (b ∷ bs) (s ∷ ss) (t ∷ ts) u p = (h a b s t u.0 p.0, three_kept U P h as' bs ss ts u.1 p.1)

pub three_map : {A B S : Type 0} (U V : A → B → S → Type 0) → ((a : A) (b : B) (s : S) → U a b s → V a b s) → (as' : List A) (bs : List B) (ss : List S) → AllThree U as' bs ss → AllThree V as' bs ss
three_map U V h [] [] [] u = tt
three_map U V h [] [] (s ∷ ss) u = absurd u
three_map U V h [] (b ∷ bs) [] u = absurd u
three_map U V h [] (b ∷ bs) (s ∷ ss) u = absurd u
three_map U V h (a ∷ as') [] [] u = absurd u
three_map U V h (a ∷ as') [] (s ∷ ss) u = absurd u
three_map U V h (a ∷ as') (b ∷ bs) [] u = absurd u
three_map U V h (a ∷ as') (b ∷ bs) (s ∷ ss) u = (h a b s u.0, three_map U V h as' bs ss u.1)

-- by how the master stands to each
pub three_of : {A B C S : Type 0} (f : A → C) (V : C → B → S → Type 0) (as' : List A) (bs : List B) (ss : List S) → AllThree V (map f as') bs ss → AllThree (λ a b s. V (f a) b s) as' bs ss
three_of f V [] [] [] u = tt
three_of f V [] [] (s ∷ ss) u = absurd u
three_of f V [] (b ∷ bs) [] u = absurd u
three_of f V [] (b ∷ bs) (s ∷ ss) u = absurd u
three_of f V (a ∷ as') [] [] u = absurd u
three_of f V (a ∷ as') [] (s ∷ ss) u = absurd u
three_of f V (a ∷ as') (b ∷ bs) [] u = absurd u
three_of f V (a ∷ as') (b ∷ bs) (s ∷ ss) u = (u.0, three_of f V as' bs ss u.1)

-- and what is unfinished behind
pub three_after : {A S : Type 0} (g : A → Stand) (f : Turn → A) (mails : Turn → List Body) (V : Stand → Option Unfinished → S → Type 0) (us : List Turn) (js : List (Option Unfinished)) (ss : List S) →
    AllThree (λ u j s. V (g (f u)) (join_at None unfinished_behind (stand_under u) j (mails u)) s) us js ss → AllThree V (map g (map f us)) (unfinished_after mails us js) ss
three_after g f mails V [] [] [] t = tt
three_after g f mails V [] [] (s ∷ ss) t = absurd t
three_after g f mails V [] (j ∷ js) [] t = absurd t
three_after g f mails V [] (j ∷ js) (s ∷ ss) t = absurd t
three_after g f mails V (u ∷ us) [] [] t = absurd t
three_after g f mails V (u ∷ us) [] (s ∷ ss) t = absurd t
three_after g f mails V (u ∷ us) (j ∷ js) [] t = absurd t
three_after g f mails V (u ∷ us) (j ∷ js) (s ∷ ss) t = (t.0, three_after g f mails V us js ss t.1)

pub pair_both : {S : Type 0} (P T : S → S → Type 0) (ss ts : List S) → EachPair P ss ts → EachPair T ss ts → EachPair (λ s t. P s t × T s t) ss ts
pair_both P T [] [] p t = tt
pair_both P T [] (y ∷ ys) p t = absurd p
pair_both P T (x ∷ xs) [] p t = absurd p
pair_both P T (x ∷ xs) (y ∷ ys) p t = ((p.0, t.0), pair_both P T xs ys p.1 t.1)

-- what stands at a place
pub three_here : {A B S : Type 0} (U : A → B → S → Type 0) (Q : A → B → Type 0) (as' : List A) (bs : List B) (ss : List S) (k : ℕ) (s : S) → AllThree U as' bs ss → k < length ss → s ≡ get_or ss k s → ((a : A) (b : B) → U a b s → Q a b) →
    IfSome (slice_get as' k) (λ a. IfSome (slice_get bs k) (λ b. Q a b))
three_here U Q [] [] [] k s u l e h = tt
three_here U Q [] [] (t ∷ ts) k s u l e h = absurd u
three_here U Q [] (b ∷ bs) [] k s u l e h = absurd u
three_here U Q [] (b ∷ bs) (t ∷ ts) k s u l e h = absurd u
three_here U Q (a ∷ as') [] [] k s u l e h = absurd u
three_here U Q (a ∷ as') [] (t ∷ ts) k s u l e h = absurd u
three_here U Q (a ∷ as') (b ∷ bs) [] k s u l e h = absurd u
three_here U Q (a ∷ as') (b ∷ bs) (t ∷ ts) zero s u l e h = h a b (subst (U a b) (sym e) u.0)
three_here U Q (a ∷ as') (b ∷ bs) (t ∷ ts) (suc k) s u l e h = three_here U Q as' bs ts k s u.1 (omega (arith, l)) e h

-- it stays while the master tells of it
pub unfinished_kept : {G : Ghosts InHand} (z : Stand) (join : Option Unfinished) (s t : Stop InHand G) → IsUnfinished z s.side.hand.found.join join → StopStays s t → IsUnfinished z t.side.hand.found.join join
unfinished_kept z join s t x k = subst (λ (f : Found). IsUnfinished z f.join join) (sym k.side.found) x

pub completed_kept : {G : Ghosts InHand} (back : List (Datagram Body)) (u : Turn) (before : Option Unfinished) (s t : Stop InHand G) (join : Option Unfinished) (z : Stand) → StopCompleted back u before s × IsUnfinished z s.side.hand.found.join join → StopStays s t →
    StopCompleted back u before t × IsUnfinished z t.side.hand.found.join join
completed_kept back u before s t join z x k = (
  subst (λ (h : Option Heard). Brought (Completes t.side.hand.found before) h (mails_back back u)) (sym k.side.heard)
      (subst (λ (f : Found). Brought (Completes f before) s.side.heard (mails_back back u)) (sym k.side.found) x.0),
  unfinished_kept z join s t x.1 k,
)
