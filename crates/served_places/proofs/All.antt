-- WHEN A MAIL THAT WAS PASSED ON IS OVER, what was told of it are all its replies: frame by frame, of a slave of which each has at most one datagram.
use Rattle.std.proofs.Common.{◌≡◌, ◌≤◌, ℕ, suc, Bool, true, false, inl, inr, Option, Some, None, List, [], ◌∷◌, ◌++◌, length, refl, sym, ap, ◌∙◌, subst, append-nil, arith}
use Rattle.std.specs.Prelude.{◌&&◌, if◌then◌else◌, not, All}
use Rattle.std.proofs.lemmas.Bool.{le-leb}
use Rattle.std.proofs.lemmas.List.Elements.{All-nil, All-head, All-tail, All-push}
use Rattle.run_frames.proofs.of_life_runs.Lives.{next_life}
use Rattle.run_frames.specs.of_life_runs.Lives.{LifeKept, StandsKept}
use Rattle.run_frames.proofs.of_frame_view.Frames.{own_behind, own_none}
use Rattle.run_frames.proofs.of_frame_view.Twice.{still_stands}
use Rattle.few_replies.specs.of_exchange_model.Exchange.{Speech, plain}
use Rattle.few_replies.specs.of_life_model.Lives.{Era, Life, Spot, Stand, era_back, life_back, life_lost, passes}
use Rattle.few_replies.specs.of_life_model.Own.{own}
use Rattle.few_replies.specs.of_segment_model.Ends.{Passing, passing_after}
use Rattle.few_replies.specs.of_segment_model.Record.{News, all_told, is_for, mails_heard}
use Rattle.few_replies.specs.of_segment_model.Returned.{Returns}
use Rattle.few_replies.specs.of_segment_model.Slaves.{Datagram, Found, grams}
use Rattle.few_replies.specs.of_state_model.Stated.{Service}
use Rattle.run_frames.specs.of_frame_view.Frames.{FrameFor, Share}
use Rattle.run_frames.specs.of_datagrams.Datagram as Raw
use Rattle.run_frames.specs.of_datagrams.Frame.{IsFrame, chained}
use Rattle.run_frames.specs.of_frame_view.Seen.{datagrams_seen, seen}
use Rattle.run_frames.specs.of_frame_view.View.{Lens, datagram_seen}
use Rattle.run_frames.specs.of_frame_view.Shares.{came_at, given_where}
use Rattle.few_replies.specs.of_link_mails.Body.{Body}
use Rattle.run_frames.specs.of_master_duty.Reply.{Reply}
use Rattle.run_frames.specs.of_master_hand.Spoken.{Asked, acknowledged, emission, is_followed, is_passed, passed}
use Rattle.run_frames.specs.of_master_side.Passing.{IsKept, news_back, news_lost, passing_behind}
use Rattle.run_frames.specs.of_segment_plan.declared.service.Service as Plan
use Rattle.run_frames.specs.of_segment_ring.declared.wire.Fate.{Fate}
use Rattle.run_frames.specs.of_segment_ring.declared.wire.Fate.TheVariants.{Pass, Lost}
use Rattle.run_frames.specs.of_life_runs.Led.{Exchanged, speech_at}
use Rattle.run_frames.proofs.of_frame_view.Octets.{seen_chained, seen_is}
use Rattle.run_frames.proofs.of_master_tour.Backs.{seen_aims}
use Rattle.run_frames.specs.of_master_tour.Brings.{accepted_at}
use Rattle.few_replies.specs.of_serving_model.Passing.{ends_told}
use Rattle.run_frames.specs.of_life_runs.Served.{Keyed, Serves, ServedTurn, ServedComes, IsServedTurn, accepted_by, gives_it, served_behind, served_life}
use Rattle.run_frames.specs.of_life_runs.Told.{Passed, replies_in, told_on}
use Rattle.served_places.specs.Rows.{IsHeld, StandsTold, ToldAll}
use Rattle.served_places.proofs.Behind.{reopens_keeps}
use Rattle.served_places.proofs.Next.{next_open, next_passing}
use Rattle.served_places.proofs.News.{Brings, IsBrief, IsStill, frame_brings, still_heard, told_brings}

-- others follow each of these
abbrev AllFollowed : List Body → Type 0
AllFollowed told = All (λ (m : Body). is_followed m ≡ true) told

-- and none the last
ends_so : (told : List Body) (m : Body) → AllFollowed told → is_followed m ≡ false → ends_told is_followed (told ++ m ∷ []) ≡ true
ends_so [] m a e = ap not e
ends_so (b ∷ []) m a e = ap (λ z. if z then not (is_followed m) else false) (All-head (λ (k : Body). is_followed k ≡ true) b [] a) ∙ ap not e
ends_so (b ∷ (c ∷ told)) m a e =
    ap (λ z. if z then ends_told is_followed (c ∷ (told ++ m ∷ [])) else false) (All-head (λ (k : Body). is_followed k ≡ true) b (c ∷ told) a) ∙ ends_so (c ∷ told) m (All-tail (λ (k : Body). is_followed k ≡ true) b (c ∷ told) a) e

-- the same is told where nothing is
same_told : (o : Option Passing) (told new : List Body) → new ≡ [] → StandsTold o told → StandsTold o (told ++ new)
same_told o told new e t = subst (StandsTold o) (sym (ap (λ l. told ++ l) e ∙ append-nil told)) t

-- ONE NEWS that is of no mail: it isn't over
record GoesOn (o : Option Passing) (told : List Body) : Type 0 where
  passing : Passing
  is : o ≡ Some passing
  stands : StandsTold (Some passing) told

goes : (p : Passing) (told : List Body) → StandsTold (Some p) told → GoesOn (Some p) told
goes p told t = record { passing = p; is = refl; stands = t }

sent_goes : (p : Passing) (told : List Body) (m : Body) → StandsTold (Some p) told → GoesOn (passing_after emission is_followed p (News.Told m)) told
sent_goes Passing.Waiting told m t = goes Passing.Sent told t
sent_goes Passing.Sent told m t = goes Passing.Sent told t
sent_goes Passing.Boxed told m t = goes Passing.Boxed told t
sent_goes Passing.Served told m t = goes Passing.Served told t
sent_goes Passing.Answered told m t = goes Passing.Answered told t

written_goes : (p : Passing) (told : List Body) → StandsTold (Some p) told → GoesOn (passing_after emission is_followed p News.Written) told
written_goes Passing.Waiting told t = goes Passing.Waiting told t
written_goes Passing.Sent told t = goes Passing.Boxed told t
written_goes Passing.Boxed told t = goes Passing.Boxed told t
written_goes Passing.Served told t = goes Passing.Served told t
written_goes Passing.Answered told t = goes Passing.Answered told t

box_goes : (p : Passing) (told : List Body) (full : Bool) → StandsTold (Some p) told → GoesOn (passing_after emission is_followed p (News.BoxFull full)) told
box_goes Passing.Waiting told full t = goes Passing.Waiting told t
box_goes Passing.Sent told full t = goes Passing.Sent told t
box_goes Passing.Boxed told true t = goes Passing.Boxed told t
box_goes Passing.Boxed told false t = goes Passing.Served told t
box_goes Passing.Served told full t = goes Passing.Served told t
box_goes Passing.Answered told full t = goes Passing.Answered told t

status_goes : (p : Passing) (told : List Body) (state : ℕ) (refused : Option ℕ) → StandsTold (Some p) told → GoesOn (passing_after emission is_followed p (News.Status state refused)) told
status_goes Passing.Waiting told state refused t = goes Passing.Waiting told t
status_goes Passing.Sent told state refused t = goes Passing.Sent told t
status_goes Passing.Boxed told state refused t = goes Passing.Boxed told t
status_goes Passing.Served told state refused t = goes Passing.Served told t
status_goes Passing.Answered told state refused t = goes Passing.Answered told t

-- mailbox 1 was read empty
nothing_told : (p : Passing) (told : List Body) → StandsTold (Some p) told → StandsTold (passing_after emission is_followed p News.NothingRead) told
nothing_told Passing.Waiting told t = t
nothing_told Passing.Sent told t = t
nothing_told Passing.Boxed told t = t
nothing_told Passing.Served told t = inl t
nothing_told Passing.Answered told t = t

-- a mail that is heard: an emission, a reply that others follow, or the last
one_told : (o : Option Passing) (told : List Body) (m : Body) → AllFollowed told → StandsTold o told → StandsTold (if emission m then o else if is_followed m then Some Passing.Answered else None) (told ++ plain emission (m ∷ []))
one_told o told m a t = go (emission m) (is_followed m) refl
  where
    go : (e f : Bool) → is_followed m ≡ f → StandsTold (if e then o else if f then Some Passing.Answered else None) (told ++ (if not e then m ∷ [] else []))
    go true f g = same_told o told [] refl t
    go false true g = All-push (λ (k : Body). is_followed k ≡ true) told m a g
    go false false g = inr (ends_so told m a g)

none_followed : (told : List Body) → told ≡ [] → AllFollowed told
none_followed told e = subst AllFollowed (sym e) (All-nil (λ (k : Body). is_followed k ≡ true))

heard_told : (p : Passing) (told : List Body) (m : Body) → StandsTold (Some p) told → StandsTold (passing_after emission is_followed p (News.Heard m)) (told ++ plain emission (m ∷ []))
heard_told Passing.Waiting told m t = one_told (Some Passing.Waiting) told m (none_followed told t) t
heard_told Passing.Sent told m t = one_told (Some Passing.Sent) told m (none_followed told t) t
heard_told Passing.Boxed told m t = one_told (Some Passing.Boxed) told m (none_followed told t) t
heard_told Passing.Served told m t = one_told None told m (none_followed told t) (inl t)
heard_told Passing.Answered told m t = one_told (Some Passing.Answered) told m t t

module _ (lens : ℕ → Lens) (spot : Spot) where
  abbrev by : Option Passing → List (News Body) → Option Passing
  by o ns = passes (speech_at lens spot) acknowledged is_followed is_passed o ns

  -- where it isn't over behind one news it goes on by those behind that
  on_goes : (o : Option Passing) (told out : List Body) (ns : List (News Body)) → ((p : Passing) → StandsTold (Some p) told → StandsTold (by (Some p) ns) out) → GoesOn o told → StandsTold (by o ns) out
  on_goes o told out ns f g = subst (λ z. StandsTold (by z ns) out) (sym g.is) (f g.passing g.stands)

  -- ALL NEWS OF A FRAME, where none is of mails
  still_some : (ns : List (News Body)) (p : Passing) (told : List Body) → IsStill ns → StandsTold (Some p) told → StandsTold (by (Some p) ns) told
  still_some [] p told s t = t
  still_some (News.Told m ∷ ns) p told s t = on_goes (passing_after emission is_followed p (News.Told m)) told told ns (λ q h. still_some ns q told s h) (sent_goes p told m t)
  still_some (News.Written ∷ ns) p told s t = on_goes (passing_after emission is_followed p News.Written) told told ns (λ q h. still_some ns q told s h) (written_goes p told t)
  still_some (News.Heard m ∷ ns) p told s t = absurd s
  still_some (News.NothingRead ∷ ns) p told s t = absurd s
  still_some (News.BoxFull full ∷ ns) p told s t = on_goes (passing_after emission is_followed p (News.BoxFull full)) told told ns (λ q h. still_some ns q told s h) (box_goes p told full t)
  still_some (News.Status state refused ∷ ns) p told s t =
      on_goes (passing_after emission is_followed p (News.Status state refused)) told told ns (λ q h. still_some ns q told s h) (status_goes p told state refused t)

  still_told : (o : Option Passing) (told : List Body) (ns : List (News Body)) → IsStill ns → StandsTold o told → StandsTold (by o ns) told
  still_told None told ns s t = t
  still_told (Some p) told ns s t = still_some ns p told s t

  -- where one is at most
  brief_told : (ns : List (News Body)) (p : Passing) (told : List Body) → IsBrief ns → StandsTold (Some p) told → StandsTold (by (Some p) ns) (told ++ plain emission (mails_heard ns))
  brief_told [] p told b t = same_told (Some p) told [] refl t
  brief_told (News.Told m ∷ ns) p told b t =
      on_goes (passing_after emission is_followed p (News.Told m)) told (told ++ plain emission (mails_heard ns)) ns (λ q h. brief_told ns q told b h) (sent_goes p told m t)
  brief_told (News.Written ∷ ns) p told b t =
      on_goes (passing_after emission is_followed p News.Written) told (told ++ plain emission (mails_heard ns)) ns (λ q h. brief_told ns q told b h) (written_goes p told t)
  brief_told (News.BoxFull full ∷ ns) p told b t =
      on_goes (passing_after emission is_followed p (News.BoxFull full)) told (told ++ plain emission (mails_heard ns)) ns (λ q h. brief_told ns q told b h) (box_goes p told full t)
  brief_told (News.Status state refused ∷ ns) p told b t =
      on_goes (passing_after emission is_followed p (News.Status state refused)) told (told ++ plain emission (mails_heard ns)) ns (λ q h. brief_told ns q told b h) (status_goes p told state refused t)
  brief_told (News.NothingRead ∷ ns) p told b t =
      same_told (by (passing_after emission is_followed p News.NothingRead) ns) told (plain emission (mails_heard ns)) (ap (plain emission) (still_heard ns b))
      (still_told (passing_after emission is_followed p News.NothingRead) told ns b (nothing_told p told t))
  brief_told (News.Heard m ∷ ns) p told b t =
      subst (λ ms. StandsTold (by (passing_after emission is_followed p (News.Heard m)) ns) (told ++ plain emission (m ∷ ms))) (sym (still_heard ns b))
      (still_told (passing_after emission is_followed p (News.Heard m)) (told ++ plain emission (m ∷ [])) ns b (heard_told p told m t))

  -- by what was accepted
  pub brings_told : (o : Option Passing) (told : List Body) (ns : List (News Body)) (ms : List Body) → Brings ns ms → StandsTold o told → StandsTold (by o ns) (told ++ replies_in o ms)
  brings_told None told ns ms b t = same_told None told [] refl t
  brings_told (Some p) told ns ms b t = subst (λ l. StandsTold (by (Some p) ns) (told ++ plain emission l)) b.1 (brief_told ns p told b.0 t)

-- A FRAME HAS AT MOST ONE DATAGRAM OF AN OPEN SLAVE
few_sent : (lens : ℕ → Lens) (spot : Spot) (stand : Stand) (share : Share) (ds : List Raw.Datagram) → FrameFor lens spot stand share ds → length (own spot.station (datagrams_seen lens ds)) ≤ 1
few_sent lens spot stand share ds (FrameFor.none u n) = (let e = ap length (own_none lens spot ds n) in omega (arith, e))
few_sent lens spot stand share ds (FrameFor.one u d h g) =
    subst (λ z. length (own spot.station (datagrams_seen lens z)) ≤ 1) (sym h.split)
    (subst (λ (z : List (Datagram Body)). length z ≤ 1) (sym (own_behind lens spot h.front (d ∷ h.behind) h.before)) (go (is_for spot.station (datagram_seen lens d).address) (ap length (own_none lens spot h.behind h.after))))
  where
    go : (z : Bool) → length (own spot.station (datagrams_seen lens h.behind)) ≡ 0 → length (if z then datagram_seen lens d ∷ own spot.station (datagrams_seen lens h.behind) else own spot.station (datagrams_seen lens h.behind)) ≤ 1
    go true e = omega (arith, e)
    go false e = omega (arith, e)

-- and so has its answer
pub same_many : (station : ℕ) (sent back : List (Datagram Body)) → Returns sent back → length (own station back) ≡ length (own station sent)
same_many station [] [] r = refl
same_many station [] (b ∷ back) r = absurd r
same_many station (s ∷ sent) [] r = absurd r
same_many station (s ∷ sent) (b ∷ back) r = ap (λ (z : Bool). length (if z then b ∷ own station back else own station back)) (r.0.address station) ∙ go (is_for station s.address) (same_many station sent back r.1)
  where
    go : (z : Bool) → length (own station back) ≡ length (own station sent) → length (if z then b ∷ own station back else own station back) ≡ length (if z then s ∷ own station sent else own station sent)
    go true e = ap suc e
    go false e = e

-- A SLAVE BEFORE A FRAME
module _ (lens : ℕ → Lens) (made : ℕ) (ds : List Raw.Datagram) (w : Serves) (v : ServedTurn) (t : IsServedTurn lens made ds w v) where
  -- it stands as it did
  pub same_stand : v.turn.lived.life.stand ≡ w.lead.lived.life.stand
  same_stand = ap (λ (l : Life Body Asked Reply). l.stand) t.next.life ∙ still_stands (speech_at lens w.lead.lived.spot) acknowledged is_followed is_passed made w.lead.lived.life w.lead.lived.life.stand t.next.pick

  pub turn_held : IsHeld w → (p : Passed) → v.hand ≡ Some p → v.turn.lived.life.stand ≡ Stand.Open
  turn_held h p e = same_stand ∙ go (lens w.lead.lived.spot.station).out w.lead.number v.turn.number w.lead.script w.waits v.waits w.hand v.hand v.turn.begun t.comes refl refl p e
    where
      go : (room n m : ℕ) (script : List Plan.Service) (waits rest : List Keyed) (hand after : Option Passed) (b : Option (Service Asked)) → ServedComes room script waits hand n b m rest after → w.hand ≡ hand → v.turn.begun ≡ b →
          (p : Passed) → after ≡ Some p → w.lead.lived.life.stand ≡ Stand.Open
      go _ _ _ _ _ _ _ _ _ ServedComes.none k f p s = h p (k ∙ s)
      go _ _ _ _ _ _ _ _ _ (ServedComes.own q m c) k f p s = absurd (let bad : None ≡ Some p = s in cc)
      go _ _ _ _ _ _ _ _ _ (ServedComes.mail key rest q) k f p s = next_open lens made ds w v t (Service.Mails (passed key.mail)) f

  pub turn_told : ToldAll w → (p : Passed) → v.hand ≡ Some p → StandsTold v.turn.lived.life.era.passing p.told
  turn_told h p e = go (lens w.lead.lived.spot.station).out w.lead.number v.turn.number w.lead.script w.waits v.waits w.hand v.hand v.turn.begun t.comes refl refl p e
    where
      go : (room n m : ℕ) (script : List Plan.Service) (waits rest : List Keyed) (hand after : Option Passed) (b : Option (Service Asked)) → ServedComes room script waits hand n b m rest after → w.hand ≡ hand → v.turn.begun ≡ b →
          (p : Passed) → after ≡ Some p → StandsTold v.turn.lived.life.era.passing p.told
      go _ _ _ _ _ _ _ _ _ ServedComes.none k f p s = subst (λ o. StandsTold o p.told) (sym (next_passing lens made ds w v t ∙ ap (passing_behind is_passed w.lead.lived.life.era.passing) f)) (h p (k ∙ s))
      go _ _ _ _ _ _ _ _ _ (ServedComes.own q m c) k f p s = absurd (let bad : None ≡ Some p = s in cc)
      go _ _ _ _ _ _ _ _ _ (ServedComes.mail key rest q) k f p s =
          let same : record { key = key.key; mail = key.mail; told = [] } ≡ p = (let all : Some (record { key = key.key; mail = key.mail; told = [] }) ≡ Some p = s in cc) in
          subst (λ o. StandsTold o p.told) (sym (next_passing lens made ds w v t ∙ ap (passing_behind is_passed w.lead.lived.life.era.passing) f)) (subst (λ (z : Passed). z.told ≡ []) same refl)

-- BEHIND IT
module _ (lens : ℕ → Lens) (recover retry : ℕ) (gives : Bool) (made : ℕ) (ds : List Raw.Datagram) (f : Exchanged) (v : ServedTurn) (opened : (p : Passed) → v.hand ≡ Some p → v.turn.lived.life.stand ≡ Stand.Open)
    (told : (p : Passed) → v.hand ≡ Some p → StandsTold v.turn.lived.life.era.passing p.told) where
  abbrev x : Speech Body Asked Reply
  x = speech_at lens v.turn.lived.spot

  abbrev life : Life Body Asked Reply
  life = v.turn.lived.life

  abbrev station : ℕ
  station = v.turn.lived.spot.station

  -- of the mail that was passed on last by these mails
  behind_one : (bs : List Body) (o : Option Passing) → ((p : Passed) → v.hand ≡ Some p → StandsTold o (p.told ++ replies_in life.era.passing bs)) → (hand : Option Passed) → v.hand ≡ hand → (q : Passed) → told_on life.era.passing bs hand ≡ Some q → StandsTold o q.told
  behind_one bs o h None k q e = absurd (let bad : None ≡ Some q = e in cc)
  behind_one bs o h (Some p) k q e =
      let all : Some (record p { told = p.told ++ replies_in life.era.passing bs }) ≡ Some q = e in
      let same : record p { told = p.told ++ replies_in life.era.passing bs } ≡ q = cc in
      subst (λ (z : Passed). StandsTold o z.told) same (h p k)

  module _ (brings : life.stand ≡ Stand.Open → Brings (news_back station v.kept v.counts (seen lens f.back)) (accepted_by lens recover retry f Pass v)) where
    back_told : (p : Passed) → v.hand ≡ Some p → StandsTold (served_life lens recover retry gives made f Pass v).life.era.passing (p.told ++ replies_in life.era.passing (accepted_by lens recover retry f Pass v))
    back_told p e =
        subst (λ o. StandsTold o (p.told ++ replies_in life.era.passing (accepted_by lens recover retry f Pass v))) (sym (passing_is life.stand (opened p e) (came_at v.turn.share.under v.turn.share.at (seen lens f.back))))
        (brings_told lens v.turn.lived.spot life.era.passing p.told (news_back station v.kept v.counts (seen lens f.back)) (accepted_by lens recover retry f Pass v) (brings (opened p e)) (told p e))
      where
        passing_is : (stand : Stand) → stand ≡ Stand.Open → (came : Option (Bool × Option Found)) → (life_back x acknowledged is_followed is_passed made v.turn.lived.spot (news_back station v.kept v.counts (seen lens f.back)) (seen lens f.back) came life stand).era.passing
            ≡ passes x acknowledged is_followed is_passed life.era.passing (news_back station v.kept v.counts (seen lens f.back))
        passing_is (Stand.Opens o) s came = absurd (cc)
        passing_is Stand.Gone s came = absurd (cc)
        passing_is Stand.Open s came = reopens_keeps (λ l. l.era.passing) (λ l s. refl) (record life { era = era }) era.account.hand
          where
            era : Era Body Asked Reply
            era = era_back x acknowledged is_followed is_passed station made (news_back station v.kept v.counts (seen lens f.back)) (seen lens f.back) life.era

  lost_told : (p : Passed) → v.hand ≡ Some p → StandsTold (life_lost x acknowledged is_followed is_passed v.turn.lived.spot (news_lost station v.kept (seen lens f.sent)) (seen lens f.sent) life life.stand).era.passing (p.told ++ replies_in life.era.passing [])
  lost_told p e = subst (λ s. StandsTold (life_lost x acknowledged is_followed is_passed v.turn.lived.spot (news_lost station v.kept (seen lens f.sent)) (seen lens f.sent) life s).era.passing (p.told ++ replies_in life.era.passing [])) (sym (opened p e))
      (brings_told lens v.turn.lived.spot life.era.passing p.told (news_lost station v.kept (seen lens f.sent)) [] (told_brings (all_told station v.kept.told (grams (seen lens f.sent))) [] [] (tt, refl)) (told p e))

  by_fate : (fate : Fate) → (fate ≡ Pass → life.stand ≡ Stand.Open → Brings (news_back station v.kept v.counts (seen lens f.back)) (accepted_by lens recover retry f Pass v)) →
      (q : Passed) → (if gives_it lens recover retry gives fate v then None else told_on life.era.passing (accepted_by lens recover retry f fate v) v.hand) ≡ Some q → StandsTold (served_life lens recover retry gives made f fate v).life.era.passing q.told
  by_fate Pass b q e = behind_one (accepted_by lens recover retry f Pass v) (served_life lens recover retry gives made f Pass v).life.era.passing (back_told (b refl)) v.hand refl q e
  by_fate (Lost after) b q e = go (gives && v.turn.share.under) e
    where
      lost : Life Body Asked Reply
      lost = life_lost x acknowledged is_followed is_passed v.turn.lived.spot (news_lost station v.kept (seen lens f.sent)) (seen lens f.sent) life life.stand

      go : (z : Bool) → (if z then None else told_on life.era.passing [] v.hand) ≡ Some q → StandsTold (given_where z recover v.turn.lived.spot made lost).era.passing q.told
      go true k = absurd (let bad : None ≡ Some q = k in cc)
      go false k = behind_one [] lost.era.passing lost_told v.hand refl q k

-- SO IT GOES ON over a frame
module _ (lens : ℕ → Lens) (recover retry : ℕ) (gives : Bool) (made : ℕ) (ds : List Raw.Datagram) (f : Exchanged) (w : Serves) (v : ServedTurn) (is : IsFrame f.sent (chained ds)) (t : IsServedTurn lens made ds w v)
    (returns : f.fate ≡ Pass → Returns (seen lens f.sent) (seen lens f.back)) (some : 1 ≤ w.lead.lived.spot.station) (kept : LifeKept w.kept w.lead.lived.life) where
  abbrev ours : ℕ
  ours = v.turn.lived.spot.station

  brings_so : f.fate ≡ Pass → v.turn.lived.life.stand ≡ Stand.Open → Brings (news_back ours v.kept v.counts (seen lens f.back)) (accepted_by lens recover retry f Pass v)
  brings_so e o =
      subst (λ s. Brings (news_back ours v.kept v.counts (seen lens f.back)) (accepted_at ours v.turn.lived.life.era.side.halves (seen lens f.back) s)) (sym o)
      (frame_brings ours v.kept v.counts v.turn.lived.life.era.side.halves (seen lens f.back) last.heard (seen_aims lens f.back ours (le-leb 1 ours station_some)) few)
    where
      station_some : 1 ≤ ours
      station_some = subst (λ (s : Spot). 1 ≤ s.station) (sym t.next.spot) some

      life_kept : LifeKept v.kept v.turn.lived.life
      life_kept = subst (λ k. LifeKept k v.turn.lived.life) (sym t.kept) (subst (λ (l : Life Body Asked Reply). LifeKept w.kept l) (sym t.next.life) (next_life (speech_at lens w.lead.lived.spot) acknowledged is_followed is_passed made w.kept w.lead.lived.life t.next.pick kept))

      last : IsKept v.kept v.turn.lived.life.era.side
      last = subst (λ s. StandsKept s v.kept v.turn.lived.life.era.side) o life_kept

      few : length (own ours (seen lens f.back)) ≤ 1
      few = subst (λ n. n ≤ 1) (sym (same_many ours (seen lens f.sent) (seen lens f.back) (returns e)))
          (subst (λ (z : List (Datagram Body)). length (own ours z) ≤ 1) (sym (seen_is lens f.sent (chained ds) is ∙ seen_chained lens ds)) (few_sent lens v.turn.lived.spot v.turn.lived.life.stand v.turn.share ds t.asked.has))

  pub goes_told : IsHeld w → ToldAll w → ToldAll (served_behind lens recover retry gives made f v)
  goes_told held told = λ q e. by_fate lens recover retry gives made ds f v (turn_held lens made ds w v t held) (turn_told lens made ds w v t told) f.fate brings_so q e
