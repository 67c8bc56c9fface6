-- What the news of an epoch give for its rows, whatever the frames are in which its slave is left alone.
use Rattle.std.proofs.Common.{◌≡◌, ℕ, zero, suc, ◌-◌, ◌<◌, ◌≤◌, ◌==◌, ◌%◌, ◌&&◌, Bool, true, false, not, Option, Some, None, option_map, List, [], ◌∷◌, ◌++◌, map, take, drop, length, refl, ap, ap₂, sym, ◌∙◌, arith, append_assoc, if◌then◌else◌}
use Rattle.std.specs.Prelude.{replicate}
use Rattle.std.proofs.lemmas.List.{drop-map, take-map}
use Rattle.state_model.specs.of_exchange_model.Exchange.{Exchange, Speech, IsLawful, plain}
use Rattle.state_model.specs.of_segment_model.Slaves.{Datagram, grams}
use Rattle.state_model.specs.of_segment_model.Record.{Frame, News, Kept, first_end, or_later, news_each, kept_after, kept_all, nothing_kept, counted_each, without_empty, mails_heard, all_told, back_news, did_read, news_from}
use Rattle.state_model.specs.of_segment_model.Ends.{Outcome, all_written, state_ends, mails_end, ends}
use Rattle.state_model.specs.Stated.{Service}
use Rattle.state_model.specs.Promise.{task_of}
use Rattle.life_model.specs.Own.{own_frame, blank}
use Rattle.life_model.specs.Lives.{Spot}
use Rattle.life_model.specs.Eras.{era_frames}
use Rattle.life_model.proofs.Books.{map-append}
use Rattle.life_model.specs.Answers.{epoch_news, between}
use Rattle.life_model.specs.Chain.{AreLeft}
use Rattle.life_model.proofs.Lists.{take-drop, take-less, drop-append, between-join, AllNil, nil-drop, quiet_tail, each-append, each-take}

-- EMPTY READS tell nothing of a service
abbrev pub IsCalm : {M R : Type 0} → (List (News M) → Option R) → Type 0
IsCalm {M} e = (ns : List (News M)) → e ns ≡ e (without_empty ns)

written_calm : {M : Type 0} (n : ℕ) (ns : List (News M)) → all_written n ns ≡ all_written n (without_empty ns)
written_calm n [] = refl
written_calm n (News.NothingRead ∷ ns) = written_calm n ns
written_calm n (News.Told m ∷ ns) = written_calm (n - 1) ns
written_calm n (News.Written ∷ ns) = ap (λ b. if n == 0 then true else b) (written_calm n ns)
written_calm n (News.Heard m ∷ ns) = written_calm n ns
written_calm n (News.BoxFull full ∷ ns) = written_calm n ns
written_calm n (News.Status state refused ∷ ns) = written_calm n ns

heard_calm : {M : Type 0} (ns : List (News M)) → mails_heard ns ≡ mails_heard (without_empty ns)
heard_calm [] = refl
heard_calm (News.NothingRead ∷ ns) = heard_calm ns
heard_calm (News.Told m ∷ ns) = heard_calm ns
heard_calm (News.Written ∷ ns) = heard_calm ns
heard_calm (News.Heard m ∷ ns) = ap (λ l. m ∷ l) (heard_calm ns)
heard_calm (News.BoxFull full ∷ ns) = heard_calm ns
heard_calm (News.Status state refused ∷ ns) = heard_calm ns

state_calm : {M : Type 0} (R : Type 0) (target : ℕ) (refusal : Option ℕ) (ns : List (News M)) → state_ends {R = R} target refusal ns ≡ state_ends target refusal (without_empty ns)
state_calm R target refusal [] = refl
state_calm R target refusal (News.NothingRead ∷ ns) = state_calm R target refusal ns
state_calm R target refusal (News.Told m ∷ ns) = state_calm R target refusal ns
state_calm R target refusal (News.Written ∷ ns) = state_calm R target refusal ns
state_calm R target refusal (News.Heard m ∷ ns) = state_calm R target refusal ns
state_calm R target refusal (News.BoxFull full ∷ ns) = state_calm R target refusal ns
state_calm R target None (News.Status state None ∷ ns) = ap (λ o. if state == target then Some Outcome.Reached else o) (state_calm R target None ns)
state_calm R target (Some code) (News.Status state None ∷ ns) = refl
state_calm R target None (News.Status state (Some code) ∷ ns) = state_calm R target (Some code) ns
state_calm R target (Some first) (News.Status state (Some code) ∷ ns) = state_calm R target (Some first) ns

pub service_calm : {M Q R : Type 0} (x : Speech M Q R) (more : M → Bool) (service : Service Q) → IsCalm (ends x more (task_of service))
service_calm x more (Service.Mails q) ns = go (x.handed q)
  where
    go : (b : Bool) → mails_end x q b ns ≡ mails_end x q b (without_empty ns)
    go true = ap (λ b. if b then Some Outcome.Handed else None) (written_calm (length (x.planned q [])) ns)
    go false = ap (λ ms. option_map (λ r. Outcome.Replied r) (x.ends q (plain x.emission ms))) (heard_calm ns)
service_calm {R = R} x more (Service.State target) ns = state_calm R target None ns

-- no news complete nothing
pub service_none : {V A M Q R : Type 0} (x : Exchange V A M Q R) → IsLawful x → (more : M → Bool) (service : Service Q) → ends x.speech more (task_of service) [] ≡ None
service_none x law more (Service.Mails q) = go (x.speech.handed q)
  where
    go : (b : Bool) → mails_end x.speech q b [] ≡ None
    go true = refl
    go false = ap (λ r. option_map (λ r. Outcome.Replied r) r) (law.none q)
service_none x law more (Service.State target) = refl

without-append : {M : Type 0} (ns ms : List (News M)) → without_empty (ns ++ ms) ≡ without_empty ns ++ without_empty ms
without-append [] ms = refl
without-append (News.NothingRead ∷ ns) ms = without-append ns ms
without-append (News.Told m ∷ ns) ms = ap (λ l. News.Told m ∷ l) (without-append ns ms)
without-append (News.Written ∷ ns) ms = ap (λ l. News.Written ∷ l) (without-append ns ms)
without-append (News.Heard m ∷ ns) ms = ap (λ l. News.Heard m ∷ l) (without-append ns ms)
without-append (News.BoxFull full ∷ ns) ms = ap (λ l. News.BoxFull full ∷ l) (without-append ns ms)
without-append (News.Status state refused ∷ ns) ms = ap (λ l. News.Status state refused ∷ l) (without-append ns ms)

without-twice : {M : Type 0} (ns : List (News M)) → without_empty (without_empty ns) ≡ without_empty ns
without-twice [] = refl
without-twice (News.NothingRead ∷ ns) = without-twice ns
without-twice (News.Told m ∷ ns) = ap (λ l. News.Told m ∷ l) (without-twice ns)
without-twice (News.Written ∷ ns) = ap (λ l. News.Written ∷ l) (without-twice ns)
without-twice (News.Heard m ∷ ns) = ap (λ l. News.Heard m ∷ l) (without-twice ns)
without-twice (News.BoxFull full ∷ ns) = ap (λ l. News.BoxFull full ∷ l) (without-twice ns)
without-twice (News.Status state refused ∷ ns) = ap (λ l. News.Status state refused ∷ l) (without-twice ns)

-- of a slow slave the news are the same but for empty reads
counted_same : {M : Type 0} (station pace j : ℕ) (stepped : Bool) (fs : List (Frame M)) (nss : List (List (News M))) →
    map (λ ns. without_empty ns) (counted_each station pace j stepped fs nss) ≡ map (λ ns. without_empty ns) nss
counted_same station pace j stepped [] nss = refl
counted_same station pace j stepped (f ∷ fs) [] = refl
counted_same {M} station pace j stepped (f ∷ fs) (ns ∷ nss) =
    ap₂ (λ (a : List (News M)) (b : List (List (News M))). a ∷ b) (go stepped) (counted_same station pace (suc j) (if suc j % pace == 0 then true else stepped && not (did_read station (grams f.back))) fs nss)
  where
    go : (b : Bool) → without_empty (if b then ns else without_empty ns) ≡ without_empty ns
    go true = refl
    go false = without-twice ns

-- so the first answer is the same
first_calm : {M R : Type 0} (e : List (News M) → Option R) → IsCalm e → (f : ℕ) (before : List (News M)) (nss : List (List (News M))) →
    first_end e f before nss ≡ first_end e f (without_empty before) (map (λ ns. without_empty ns) nss)
first_calm e calm f before [] = refl
first_calm {R = R} e calm f before (ns ∷ nss) =
    ap₂ (λ (a : Option R) (b : Option (R × ℕ)). or_later a f b) (calm (before ++ ns) ∙ ap e (without-append before ns))
    (first_calm e calm (suc f) (before ++ ns) nss ∙ ap (λ l. first_end e (suc f) l (map (λ ms. without_empty ms) nss)) (without-append before ns))

-- FRAMES IN WHICH A SLAVE IS LEFT ALONE tell nothing of it
left_nil : {M : Type 0} (station place : ℕ) (kept : Kept) (fs : List (Frame M)) → AreLeft station fs → AllNil (news_each station kept (map (λ f. own_frame station place f) fs))
left_nil station place kept [] q = tt
left_nil {M} station place kept (f ∷ fs) q =
    (ap₂ (λ (a b : List (Datagram M)). map (λ m. News.Told m) (all_told station kept.told (grams a)) ++ back_news station kept.heard b) q.0.0 q.0.1, left_nil station place (kept_after station kept (own_frame station place f)) fs q.1)

-- the frames of an epoch up to a later end
era_more : {M : Type 0} (spot : Spot) (opened p end : ℕ) (fs : List (Frame M)) → opened < p → p ≤ end →
    era_frames spot opened end fs ≡ era_frames spot opened p fs ++ map (λ f. own_frame spot.station spot.place f) (between p end fs)
era_more spot opened p end fs less le =
    ap (λ l. replicate (suc opened) blank ++ map (λ f. own_frame spot.station spot.place f) l) (between-join (suc opened) p end fs (omega (arith, less)) le)
    ∙ ap (λ l. replicate (suc opened) blank ++ l) (map-append (λ f. own_frame spot.station spot.place f) (between (suc opened) p fs) (between p end fs))
    ∙ sym (append_assoc (replicate (suc opened) blank) (map (λ f. own_frame spot.station spot.place f) (between (suc opened) p fs)) (map (λ f. own_frame spot.station spot.place f) (between p end fs)))

-- THE SAME FIRST ANSWER up to two places behind which the slave is left alone
module _ {M R : Type 0} (e : List (News M) → Option R) (calm : IsCalm e) (none : e [] ≡ None) (spot : Spot) (opened end : ℕ) (fs : List (Frame M)) where
  abbrev pub up_to : ℕ → List (List (News M))
  up_to p = news_each spot.station nothing_kept (era_frames spot opened p fs)

  pub left_same : (frame p : ℕ) → opened < p → p ≤ end → AreLeft spot.station (between p end fs) → first_end e frame [] (drop frame (up_to end)) ≡ first_end e frame [] (drop frame (up_to p))
  left_same frame p less le left =
      let front = era_frames spot opened p fs in
      let behind = map (λ f. own_frame spot.station spot.place f) (between p end fs) in
      let kept = kept_all spot.station nothing_kept front in
      let split : up_to end ≡ up_to p ++ news_each spot.station kept behind = ap (news_each spot.station nothing_kept) (era_more spot opened p end fs less le) ∙ each-append spot.station nothing_kept front behind in
      let quiet = left_nil spot.station spot.place kept (between p end fs) left in
      ap (λ l. first_end e frame [] (drop frame l)) split ∙ ap (first_end e frame []) (drop-append frame (up_to p) (news_each spot.station kept behind))
      ∙ quiet_tail e frame [] (drop frame (up_to p)) (drop (frame - length (up_to p)) (news_each spot.station kept behind)) none (nil-drop (frame - length (up_to p)) (news_each spot.station kept behind) quiet)

  -- the frames before a place are those of an epoch that ends there
  cut_frames : (c : ℕ) → opened < c → c ≤ end → take c (era_frames spot opened end fs) ≡ era_frames spot opened c fs
  cut_frames c less le =
      let own_part = map (λ f. own_frame spot.station spot.place f) (between (suc opened) end fs) in
      take-behind (suc opened) c own_part (omega (arith, less))
      ∙ ap (λ l. replicate (suc opened) blank ++ l)
      (take-map (λ f. own_frame spot.station spot.place f) (c - suc opened) (between (suc opened) end fs)
      ∙ ap (λ l. map (λ f. own_frame spot.station spot.place f) l) (take-less (c - suc opened) (end - suc opened) (drop (suc opened) fs) (omega (arith, le))))
    where
      take-behind : (n c : ℕ) (ys : List (Frame M)) → n ≤ c → take c (replicate n blank ++ ys) ≡ replicate n blank ++ take (c - n) ys
      take-behind zero c ys le = ap (λ k. take k ys) (let same : c ≡ c - 0 = omega arith in same)
      take-behind (suc n) zero ys le = absurd (omega (arith, le))
      take-behind (suc n) (suc c) ys le = ap (λ l. blank ∷ l) (take-behind n c ys (omega (arith, le)) ∙ ap (λ k. replicate n blank ++ take k ys) (let same : c - n ≡ suc c - suc n = omega arith in same))

  -- THE ANSWER up to a place `c`, by the news that the epoch's pace counts, is that of the session, which lasts up to `until`
  pub answer_same : (pace frame until c : ℕ) → opened < until → until ≤ end → AreLeft spot.station (between until end fs) → opened < c → c ≤ end → AreLeft spot.station (between c end fs) →
      first_end e frame [] (between frame c (epoch_news spot pace (Some opened) end fs)) ≡ first_end e frame [] (news_from spot.station frame (era_frames spot opened until fs))
  answer_same pace frame until c since within left less le alone =
      let es = era_frames spot opened end fs in
      let counted = counted_each spot.station pace 0 true es (up_to end) in
      let bare = λ (l : List (List (News M))). map (λ ns. without_empty ns) l in
      let same : bare (drop frame (take c counted)) ≡ bare (drop frame (take c (up_to end))) =
      sym (drop-map (λ ns. without_empty ns) frame (take c counted)) ∙ ap (drop frame) (sym (take-map (λ ns. without_empty ns) c counted) ∙ ap (take c) (counted_same spot.station pace 0 true es (up_to end)) ∙ take-map (λ ns. without_empty ns) c (up_to end))
      ∙ drop-map (λ ns. without_empty ns) frame (take c (up_to end)) in
      let cut : take c (up_to end) ≡ up_to c = each-take spot.station c nothing_kept es ∙ ap (news_each spot.station nothing_kept) (cut_frames c less le) in
      ap (first_end e frame []) (take-drop frame c counted) ∙ first_calm e calm frame [] (drop frame (take c counted)) ∙ ap (first_end e frame []) same ∙ sym (first_calm e calm frame [] (drop frame (take c (up_to end))))
      ∙ ap (λ l. first_end e frame [] (drop frame l)) cut ∙ sym (left_same frame c less le alone) ∙ left_same frame until since within left
