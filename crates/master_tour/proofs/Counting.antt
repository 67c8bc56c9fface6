-- Whether an empty read counts, of a slave of the tour, goes on by its own datagrams and by what a frame turns it into.
use Rattle.std.proofs.Common.{◌≡◌, ◌≤◌, ℕ, suc, ◌%◌, ◌==◌, List, [], ◌∷◌, Bool, true, false, Option, None, refl, sym, ap, ◌∙◌, subst, get_or, take, drop, ◌+◌, map}
use Rattle.std.specs.Prelude.{◌&&◌, not, if◌then◌else◌}
use Rattle.master_side.specs.of_al_state.declared.bringing.BringUp.{BringUp}
use Rattle.master_side.specs.of_al_state.BringUp.{is_behind_init, step_behind, is_up}
use Rattle.master_side.specs.of_datagrams.declared.frame.Part.{Part}
use Rattle.master_side.specs.of_frame_view.View.{Lens, station_of}
use Rattle.master_side.specs.of_frame_view.Seen.{part_seen}
use Rattle.master_side.specs.of_life_model.Lives
use Rattle.master_side.specs.of_life_model.Lives.{Life, Spot, opening_back}
use Rattle.master_side.specs.of_link_mails.Body.{Body}
use Rattle.master_side.specs.of_link_model.Link.{Halves}
use Rattle.master_side.specs.of_link_model.Master.{InState}
use Rattle.master_side.specs.of_segment_model.Record.{did_read, is_read}
use Rattle.master_side.specs.of_segment_model.Slaves.{Datagram, Access, Found, grams}
use Rattle.master_side.specs.of_segment_model.Seats.{Side}
use Rattle.master_side.specs.of_state_model.Accounts.{Account}
use Rattle.master_side.specs.Carried.{Meant, IsBack, one}
use Rattle.master_side.specs.Passing.{read_behind}
use Rattle.master_side.specs.declared.carried.Carried.{Carried}
use Rattle.master_side.specs.of_master_duty.Reply.{Reply}
use Rattle.master_side.specs.Counts.{CountsAt, counts_behind, counts_on}
use Rattle.master_side.proofs.Counts.{still_counts, back_counts}
use Rattle.master_tour.specs.Under.{Grams, mine, IsAt, Under}
use Rattle.master_tour.specs.Stands.{IsMet, StopShows, is_still, opening_of}
use Rattle.master_tour.specs.Counting.{StandCounts}
use Rattle.master_tour.specs.declared.stop.Stand.{Stand}
use Rattle.master_tour.proofs.Unders.{at_map, status_whole}
use Rattle.master_tour.proofs.Openings.{Turns, turns, sees_clear, seen_shown}

-- only its own datagrams are its reads
did_mine : (station : ℕ) (ds : Grams) → did_read station (grams ds) ≡ did_read station (grams (mine station ds))
did_mine station [] = refl
did_mine station (d ∷ ds) = go (d.gram.station == station) refl (did_mine station ds)
  where
    mined : Bool → Bool
    mined z = did_read station (grams (if z then d ∷ mine station ds else mine station ds))

    go : (z : Bool) → (d.gram.station == station) ≡ z → did_read station (grams ds) ≡ did_read station (grams (mine station ds)) → did_read station (grams (d ∷ ds)) ≡ did_read station (grams (mine station (d ∷ ds)))
    go true e ih = ap (λ (w : Bool). if (d.gram.station == station) && is_read d.gram.ask && not (d.gram.counter == 0) then true else w) ih ∙ sym (ap mined e)
    go false e ih = ap (λ (z : Bool). if z && is_read d.gram.ask && not (d.gram.counter == 0) then true else did_read station (grams ds)) e ∙ ih ∙ sym (ap mined e)

counts_mine : (station pace made : ℕ) (back : Grams) (counts : Bool) → counts_behind station pace made back counts ≡ counts_behind station pace made (mine station back) counts
counts_mine station pace made back counts = ap (λ z. if suc made % pace == 0 then true else counts && not z) (did_mine station back)

-- a side that has the same frame and pace knows the same
pub counts_as : (at at' : Option ℕ) (pace pace' made : ℕ) (counts : Bool) → at' ≡ at → pace' ≡ pace → CountsAt at pace made counts → CountsAt at' pace' made counts
counts_as at at' pace pace' made counts e f k = subst (λ z. CountsAt z pace' made counts) (sym e) (subst (λ z. CountsAt at z made counts) (sym f) k)

-- THE FRAME HAD NOTHING of the slave
pub nothing_counted : (station pace made : ℕ) (at : Option ℕ) (counts : Bool) (back : Grams) → 1 ≤ pace → mine station back ≡ [] → CountsAt at pace made counts → CountsAt at pace (suc made) (counts_behind station pace made back counts)
nothing_counted station pace made at counts back p e k = still_counts station pace made at counts back p (did_mine station back ∙ ap (λ ds. did_read station (grams ds)) e) k

-- ITS DATAGRAM CAME BACK
pub has_counted : (P : Bool → Type 0) (station at pace made : ℕ) (counts under : Bool) (carried : Carried) (due : Option Access) (lens : ℕ → Lens) (octets body : List ℕ) (ps : List Part) (p z : Part) (back : Grams) (h : Halves Body) →
    under ≡ true → p ≡ get_or ps at z → body ≡ take p.head.len (drop (p.at + 10) octets) → back ≡ map (part_seen lens octets) ps → Under station at under carried h due back →
    ((b : Datagram Body) → Meant station carried h due b → IsBack p.head.counter body b → P (counts_behind station pace made (one b) counts)) → P (counts_behind station pace made back counts)
has_counted P station at pace made counts under carried due lens octets body ps p z back h is g o e (Under.none k n) f = absurd (let t = sym k ∙ is in cc)
has_counted P station at pace made counts under carried due lens octets body ps p z back h is g o e (Under.has b u i n m) f =
    let same : b ≡ part_seen lens octets p = at_map (part_seen lens octets) at ps z b (subst (λ z. IsAt at z b) e i) ∙ ap (part_seen lens octets) (sym g) in
    let came : IsBack p.head.counter (take p.head.len (drop (p.at + 10) octets)) (part_seen lens octets p) = record { counted = refl; mail = refl; acknowledge = refl; registers = refl; found = refl; whole = status_whole (lens (station_of p.head.command p.head.adp)) p.head.command p.head.ado (take p.head.len (drop (p.at + 10) octets)) } in
    subst P (sym (counts_mine station pace made back counts ∙ ap (λ ds. counts_behind station pace made ds counts) n))
    (f b m (subst (λ z. IsBack p.head.counter z b) (sym o) (subst (λ (z : Datagram Body). IsBack p.head.counter (take p.head.len (drop (p.at + 10) octets)) z) (sym same) came)))

-- and the side went on by it
pub came_counted : {Q : Type 0} (station pace pace' made : ℕ) (at at' : Option ℕ) (counts : Bool) (d : Side Body Q Reply) (b : Datagram Body) (counter : ℕ) (octets : List ℕ) (carried : Carried) (due : Option Access) (state : InState) → 1 ≤ pace → d.halves.inn.state ≡ state →
    at' ≡ read_behind carried state counter made at → pace' ≡ pace → CountsAt at pace made counts → Meant station carried d.halves due b → IsBack counter octets b → CountsAt at' pace' (suc made) (counts_behind station pace made (one b) counts)
came_counted station pace pace' made at at' counts d b counter octets carried due state l s e f k w i =
    counts_as (read_behind carried d.halves.inn.state counter made at) at' pace pace' (suc made) (counts_behind station pace made (one b) counts) (e ∙ ap (λ z. read_behind carried z counter made at) (sym s)) f
    (back_counts station pace made at counts d b counter octets carried due l k w i)

-- a slave that is gone
pub gone_counts : (stand : Stand) (at : Option ℕ) (pace made : ℕ) (counts : Bool) → stand ≡ Stand.Gone → StandCounts stand at pace made counts
gone_counts stand at pace made counts e = subst (λ z. StandCounts z at pace made counts) (sym e) tt

-- before it has shown Init nothing is said
pub still_counts_none : (stand : Stand) (up : BringUp) (at : Option ℕ) (pace made : ℕ) (counts : Bool) → stand ≡ Stand.Opening up → is_still up ≡ true → StandCounts stand at pace made counts
still_counts_none stand up at pace made counts e s = subst (λ z. StandCounts z at pace made counts) (sym e) (λ f. absurd (let t : true ≡ false = sym s ∙ f in cc))

-- while it is opened the frame's number doesn't count
pub opening_stays : (stand : Stand) (up : BringUp) (at at' : Option ℕ) (pace pace' made made' : ℕ) (counts counts' : Bool) → stand ≡ Stand.Opening up → at' ≡ at → StandCounts stand at pace made counts → StandCounts stand at' pace' made' counts'
opening_stays stand up at at' pace pace' made made' counts counts' e a s =
    subst (λ z. StandCounts z at' pace' made' counts') (sym e) (let was = subst (λ z. StandCounts z at pace made counts) e s in λ f. a ∙ was f)

-- an open one knows it
pub open_counts : (stand : Stand) (at : Option ℕ) (pace made : ℕ) (counts : Bool) → stand ≡ Stand.Open → CountsAt at pace made counts → StandCounts stand at pace made counts
open_counts stand at pace made counts e k = subst (λ z. StandCounts z at pace made counts) (sym e) k

pub counts_open : (stand : Stand) (at : Option ℕ) (pace made : ℕ) (counts : Bool) → stand ≡ Stand.Open → StandCounts stand at pace made counts → CountsAt at pace made counts
counts_open stand at pace made counts e s = subst (λ z. StandCounts z at pace made counts) e s

module _ {Q : Type 0} where
  -- AN OPENING'S ACCESS CAME BACK
  turned_counts : (frame : ℕ) (l : Life Body Q Reply) (up next : BringUp) (own : Bool) (m : Life Body Q Reply) (ends clears : Bool) (at at' : Option ℕ) (pace made : ℕ) → Turns frame l up next own m ends clears →
      (clears ≡ false → at' ≡ at) → (clears ≡ true → at' ≡ None) → (is_still up ≡ false → at ≡ None) → StandCounts (if ends then Stand.Open else Stand.Opening next) at' pace made true
  turned_counts frame l up next own m ends clears at at' pace made (Turns.opened u c s e) keeps renews h =
      subst (λ (z : Bool). StandCounts (if z then Stand.Open else Stand.Opening next) at' pace made true) (sym u) (subst (λ z. CountsAt z pace made true) (sym (keeps c ∙ h s)) (record { is = refl; early = tt }))
  turned_counts frame l up next own m ends clears at at' pace made (Turns.cleared u c s n t e) keeps renews h =
      subst (λ (z : Bool). StandCounts (if z then Stand.Open else Stand.Opening next) at' pace made true) (sym u) (λ f. renews c)
  turned_counts frame l up next own m ends clears at at' pace made (Turns.on u c n t e) keeps renews h =
      subst (λ (z : Bool). StandCounts (if z then Stand.Open else Stand.Opening next) at' pace made true) (sym u) (λ f. keeps c ∙ h (sym n ∙ f))

  pub opening_counts : (shows : Side Body Q Reply → Account Q Reply → Type 0) (frame recover : ℕ) (spot : Spot) (spare : ℕ) (up next : BringUp) (l : Life Body Q Reply) (came : Bool × Option Found) (counter : ℕ) (body : List ℕ) (ends clears : Bool) (at at' : Option ℕ) (pace made : ℕ) (stand : Stand) → next ≡ record up { step = step_behind up counter body } → ends ≡ is_up up counter body → clears ≡ (not (up.again && is_behind_init up.step) && (next.again && is_behind_init next.step)) →
      stand ≡ (if ends then Stand.Open else Stand.Opening next) → IsMet up counter body came → StopShows shows recover spot (Stand.Opening up) spare l →
      (clears ≡ false → at' ≡ at) → (clears ≡ true → at' ≡ None) → (is_still up ≡ false → at ≡ None) → (station pace' made' : ℕ) (back : Grams) (counts : Bool) → StandCounts stand at' pace made (counts_on l.stand station pace' made' back counts)
  opening_counts shows frame recover spot spare up next l came counter body ends clears at at' pace made stand n u c st met sh keeps renews h station pace' made' back counts =
      let s = sh.stood in
      let up' : BringUp = record up { step = step_behind up counter body } in
      let clears' = sees_clear frame up.adp up.station up.out_len up.in_len up.start s.own l came.0 came.1 counter body up in
      let is : clears ≡ clears' = c ∙ ap (λ (z : BringUp). not (up.again && is_behind_init up.step) && (z.again && is_behind_init z.step)) n in
      let t = turns frame up.adp up.station up.out_len up.in_len up.start s.own l came.0 came.1 counter body up.again up.step s.stand s.opening.step
      (λ r. seen_shown counter body 1 came.0 came.1 refl (met.done r) (met.found r) (met.whole r)) (λ r. seen_shown counter body up.start came.0 came.1 s.opening.state (met.done r) (met.found r) (met.whole r)) in
      let base = turned_counts frame l up up' s.own (opening_back frame l (opening_of up s.own) came.0 came.1) (is_up up counter body) clears' at at' pace made t (λ e. keeps (is ∙ e)) (λ e. renews (is ∙ e)) h in
      subst (λ (z : Lives.Stand). StandCounts stand at' pace made (counts_on z station pace' made' back counts)) (sym s.stand)
      (subst (λ z. StandCounts z at' pace made true) (sym (st ∙ (λ i. if u i then Stand.Open else Stand.Opening (n i)))) base)

  -- AN OPEN SLAVE behind a frame that was lost
  pub lost_counts : (l : Life Body Q Reply) (stand : Stand) (station pace pace' made : ℕ) (at at' : Option ℕ) (counts : Bool) → stand ≡ Stand.Open → l.stand ≡ Lives.Stand.Open → 1 ≤ pace → at' ≡ at → pace' ≡ pace → CountsAt at pace made counts →
      StandCounts stand at' pace' (suc made) (counts_on l.stand station pace made [] counts)
  lost_counts l stand station pace pace' made at at' counts s o p e f k =
      subst (λ (z : Lives.Stand). StandCounts stand at' pace' (suc made) (counts_on z station pace made [] counts)) (sym o)
      (open_counts stand at' pace' (suc made) (counts_behind station pace made [] counts) s
      (counts_as at at' pace pace' (suc made) (counts_behind station pace made [] counts) e f (nothing_counted station pace made at counts [] p refl k)))
