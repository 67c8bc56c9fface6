-- FRAME BY FRAME the record's counters of an open slave are those of its epoch.
use Rattle.std.proofs.Common.{◌≡◌, ℕ, zero, suc, ◌-◌, ◌%◌, ◌==◌, ◌<◌, ◌&&◌, Bool, true, false, not, List, [], ◌∷◌, ◌++◌, map, length, take, drop, refl, ap, ap₂, sym, ◌∙◌, subst, arith, append-nil, length-append, if◌then◌else◌}
use Rattle.std.specs.Prelude.{replicate}
use Rattle.served_places.specs.of_life_model.Eras.{era_frames}
use Rattle.served_places.specs.of_life_model.Lives.{Spot}
use Rattle.served_places.specs.of_life_model.Own.{own, own_frame, blank, AreSeen}
use Rattle.served_places.proofs.of_life_model.Eras.{frames_push}
use Rattle.served_places.proofs.of_life_model.Owns.{own-news}
use Rattle.served_places.specs.of_link_mails.Body.{Body}
use Rattle.served_places.specs.of_link_model.Segment.{RingFate}
use Rattle.run_work.specs.of_master_side.Passing.{news_back, news_lost}
use Rattle.run_work.specs.of_master_side.Counts as Record
use Rattle.run_work.specs.of_few_replies.Led.{EraTurn, counts_behind, counted_news, frame_in, has_step, news_in}
use Rattle.served_places.specs.of_segment_model.Record.{Frame, News, Kept, all_told, back_news, did_read, frame_news, heard_behind, kept_after, kept_all, nothing_kept, told_behind, without_empty}
use Rattle.served_places.specs.of_segment_model.Slaves.{Slave, grams, ring_back}
use Rattle.served_places.proofs.of_segment_model.Answers.{kept_all-push}
use Rattle.served_rings.specs.Counters.{IsCounted}
use Rattle.served_rings.proofs.Carried.{did_own, told_came, told_counted}

blanks_kept : (station n : ℕ) → kept_all {M = Body} station nothing_kept (replicate n blank) ≡ nothing_kept
blanks_kept station zero = refl
blanks_kept station (suc n) = blanks_kept station n

-- an epoch that is just opened has no frames
begun_frames : (spot : Spot) (opened : ℕ) (fs : List (Frame Body)) → length fs ≡ suc opened → era_frames spot opened (length fs) fs ≡ replicate (suc opened) blank
begun_frames spot opened fs is =
    let none : length fs - suc opened ≡ 0 = omega (arith, is) in
    ap (λ k. replicate (suc opened) blank ++ map (λ f. own_frame spot.station spot.place f) (take k (drop (suc opened) fs))) none ∙ append-nil (replicate (suc opened) blank)

-- at the begin of an epoch
pub counted_first : (spot : Spot) (opened : ℕ) (fs : List (Frame Body)) → length fs ≡ suc opened → IsCounted spot opened fs true nothing_kept true
counted_first spot opened fs is = record { same = sym (ap (kept_all spot.station nothing_kept) (begun_frames spot opened fs is) ∙ blanks_kept spot.station (suc opened)); reads = refl }

module _ {V Q : Type 0} (spot : Spot) (opened : ℕ) (fs : List (Frame Body)) (led : Bool) (kept : Kept) (counts : Bool) (t : EraTurn V Body Q) (is : IsCounted spot opened fs led kept counts) (later : opened < length fs) where
  abbrev kept_here : Kept
  kept_here = kept_all spot.station nothing_kept (era_frames spot opened (length fs) fs)

  -- the epoch's counters behind the frame
  goes_on : AreSeen t.sent → AreSeen t.back → kept_all spot.station nothing_kept (era_frames spot opened (length (fs ++ frame_in t ∷ [])) (fs ++ frame_in t ∷ [])) ≡ kept_after spot.station kept_here (frame_in t)
  goes_on sent back =
      let long : length (fs ++ frame_in t ∷ []) ≡ suc (length fs) = (let e = length-append fs (frame_in t ∷ []) in omega (arith, e)) in
      ap (λ n. kept_all spot.station nothing_kept (era_frames spot opened n (fs ++ frame_in t ∷ []))) long
      ∙ ap (kept_all spot.station nothing_kept) (frames_push spot opened fs (frame_in t) later)
      ∙ kept_all-push spot.station nothing_kept (era_frames spot opened (length fs) fs) (own_frame spot.station spot.place (frame_in t))
      ∙ (own-news spot.station spot.place kept_here (frame_in t) sent back).1

  -- its news are those of the whole frame
  news_own : AreSeen t.sent → AreSeen t.back → news_in spot opened fs led t ≡ counted_news led (frame_news spot.station kept_here (frame_in t))
  news_own sent back = ap (counted_news led) (own-news spot.station spot.place kept_here (frame_in t) sent back).0

  -- BEHIND A FRAME THAT CAME BACK
  module _ (n : Slave V Body) (pace made : ℕ) (sent : AreSeen t.sent) (back : AreSeen t.back) (came : ring_back ((spot.station, n) ∷ []) (own spot.station t.sent) RingFate.Back ≡ own spot.station t.back) (steps : has_step t.steps ≡ (suc made % pace == 0)) where
    abbrev came_so : Frame Body
    came_so = record { sent = t.back; fate = RingFate.Back; back = t.back }

    told : (last : ℕ) → (all_told spot.station last (grams t.back) ≡ all_told spot.station last (grams t.sent)) × (told_behind spot.station last (grams t.back) ≡ told_behind spot.station last (grams t.sent))
    told last = told_came spot.station last ((spot.station, n) ∷ []) t.sent t.back sent back came

    pub news_came : news_back spot.station kept counts t.back ≡ news_in spot opened fs led t
    news_came =
        ap₂ (λ (k : Kept) (b : Bool). if b then frame_news spot.station k came_so else without_empty (frame_news spot.station k came_so)) is.same is.reads
        ∙ ap (λ ms. counted_news led (map (λ m. News.Told m) ms ++ back_news spot.station kept_here.heard t.back)) (told kept_here.told).0
        ∙ sym (news_own sent back)

    pub counted_back : IsCounted spot opened (fs ++ frame_in t ∷ []) (counts_behind spot.station t.steps (own spot.station t.back) led) (kept_after spot.station kept came_so) (Record.counts_behind spot.station pace made t.back counts)
    counted_back = record {
      same = ap (λ k. kept_after spot.station k came_so) is.same ∙ ap (λ (c : ℕ). record { told = c; heard = heard_behind spot.station kept_here.heard t.back }) (told kept_here.told).1 ∙ sym (goes_on sent back);
      reads =
          ap₂ (λ (b d : Bool). if b then true else counts && not d) (sym steps) (sym (did_own spot.station t.back back))
          ∙ ap (λ b. if has_step t.steps then true else b && not (did_read spot.station (grams (own spot.station t.back)))) is.reads;
    }

  -- BEHIND A LOST ONE
  module _ (pace made : ℕ) (sent : AreSeen t.sent) (none : t.back ≡ []) (steps : has_step t.steps ≡ (suc made % pace == 0)) where
    abbrev lost_so : Frame Body
    lost_so = record { sent = t.sent; fate = RingFate.Lost 0; back = [] }

    nothing : AreSeen t.back
    nothing = subst (λ ds. AreSeen ds) (sym none) tt

    pub news_gone : news_lost spot.station kept t.sent ≡ news_in spot opened fs led t
    news_gone =
        ap (λ k. frame_news spot.station k lost_so) is.same
        ∙ sym (told_counted led (all_told spot.station kept_here.told (grams t.sent)))
        ∙ ap (λ ds. counted_news led (map (λ m. News.Told m) (all_told spot.station kept_here.told (grams t.sent)) ++ back_news spot.station kept_here.heard ds)) (sym none)
        ∙ sym (news_own sent nothing)

    pub counted_lost : IsCounted spot opened (fs ++ frame_in t ∷ []) (counts_behind spot.station t.steps (own spot.station t.back) led) (kept_after spot.station kept lost_so) (Record.counts_behind spot.station pace made [] counts)
    counted_lost = record {
      same =
          ap (λ k. kept_after spot.station k lost_so) is.same
          ∙ ap (λ ds. record { told = told_behind spot.station kept_here.told (grams t.sent); heard = heard_behind spot.station kept_here.heard ds }) (sym none)
          ∙ sym (goes_on sent nothing);
      reads =
          ap₂ (λ (b c : Bool). if b then true else c && not false) (sym steps) is.reads
          ∙ ap (λ ds. if has_step t.steps then true else led && not (did_read spot.station (grams (own spot.station ds)))) (sym none);
    }
