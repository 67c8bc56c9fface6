-- A SERVING WHOSE FRAMES ARE VISITS OF ONE TOUR, with its slaves as their frames are counted.
use Rattle.std.specs.Prelude.{◌≡◌, ◌≤◌, ◌<◌, ℕ, suc, nat_lt, Bool, false, Option, None, List, [], ◌∷◌, ◌++◌, map, length}
use Rattle.run_frames.specs.of_frame_view.Seen.{seen}
use Rattle.run_frames.specs.of_frame_view.View.{Lens}
use Rattle.run_frames.specs.of_frame_view.Shares.{came_at}
use Rattle.run_frames.specs.of_life_runs.Led.{Exchanged, speech_at, is_passed, gives_up_at, missed_behind}
use Rattle.few_replies.specs.of_link_mails.Body.{Body}
use Rattle.run_frames.specs.of_master_duty.Reply.{Reply}
use Rattle.run_frames.specs.of_master_hand.Spoken.{Asked, acknowledged, is_followed}
use Rattle.run_frames.specs.of_master_side.Passing.{news_back, news_lost}
use Rattle.run_frames.specs.Clocks.{Clocked}
use Rattle.run_frames.specs.Goes.{Under, all_lost, all_back}
use Rattle.run_frames.specs.Orders.{opened_on, last_of}
use Rattle.run_frames.specs.Runs.{Progress, many, nothing_sent}
use Rattle.run_frames.specs.Tours.{IsVisited, again_behind, last_lost}
use Rattle.run_frames.specs.Waits.{Waits, all_anew, waits_behind}
use Rattle.few_replies.specs.of_segment_model.Slaves.{Datagram}
use Rattle.run_frames.specs.of_segment_ring.declared.wire.Fate.TheVariants.{Pass, Lost}
use Rattle.run_frames.specs.of_life_runs.Served.{Keyed, Serves, ServedTurn, IsServedFrame, MayAsk, asked_at, served_behind}

-- a slave before a frame, with its share of that, which came back so, and with what that tells of a mail that is passed on
abbrev pub back_under : List (Datagram Body) → ServedTurn → Under Body Asked Reply
back_under back v = record {
  life = v.turn.lived.life;
  under = v.turn.share.under;
  came = came_at v.turn.share.under v.turn.share.at back;
  news = news_back v.turn.lived.spot.station v.kept v.counts back;
}

-- and before one that was lost
abbrev pub lost_under : List (Datagram Body) → ServedTurn → Under Body Asked Reply
lost_under sent v = record { life = v.turn.lived.life; under = v.turn.share.under; came = None; news = news_lost v.turn.lived.spot.station v.kept sent }

-- the slaves before the first frame, with the paces of their processors
abbrev pub first_served : List Serves → List (Clocked Body Asked Reply)
first_served ws = map (λ w. record { spot = w.lead.lived.spot; life = w.lead.lived.life; pace = w.pace; stepped = false }) ws

module _ (lens : ℕ → Lens) (recover retry slowest : ℕ) where
  -- the slaves behind a frame, as they are counted: it was lost, or came back
  abbrev pub served_lost : Bool → ℕ → Exchanged → List ServedTurn → List (Clocked Body Asked Reply) → List (Clocked Body Asked Reply)
  served_lost gives made f vs cs = all_lost (speech_at lens) acknowledged is_followed is_passed gives recover made (seen lens f.sent) cs (map (lost_under (seen lens f.sent)) vs)

  abbrev pub served_back : ℕ → Exchanged → List ServedTurn → List (Clocked Body Asked Reply) → List (Clocked Body Asked Reply)
  served_back made f vs cs = all_back (speech_at lens) acknowledged is_followed is_passed made (seen lens f.back) cs (map (back_under (seen lens f.back)) vs)

  -- how many frames in a row gained nothing, behind one more that came back
  abbrev pub still_served : Progress → Exchanged → List ServedTurn → List (Clocked Body Asked Reply) → ℕ
  still_served p f vs cs = many (speech_at lens) acknowledged is_followed is_passed recover slowest p (seen lens f.back) cs (map (back_under (seen lens f.back)) vs)

  -- and how each slave waits then
  abbrev pub waits_served : Progress → Exchanged → List ServedTurn → List (Clocked Body Asked Reply) → List Waits
  waits_served p f vs cs = waits_behind (still_served p f vs cs) p.frames cs (map (back_under (seen lens f.back)) vs) p.waits

  -- the slaves behind a frame, as their master serves them
  abbrev pub serves_on : ℕ → ℕ → Exchanged → List ServedTurn → List Serves
  serves_on missed made f vs = map (served_behind lens recover retry (gives_up_at lens recover retry missed) made f) vs

  -- FRAME BY FRAME, with the slaves that come again, and with mails that are asked between them: each is a visit of the tour; and one that gained nothing, with
  -- nothing to repair, may be one with which a packet of the host or a mail that is to be passed on came in, or by which one that is passed on came a step on,
  -- and then counts as lost
  pub data IsServedToured (first : List Serves) : List Exchanged → Option (List ℕ) → ℕ → List Serves → Progress → List (Clocked Body Asked Reply) → Type 0 where
    start : IsServedToured first [] None 0 first (nothing_sent None (first_served first)) (first_served first)
    asks : (fs : List Exchanged) (again : Option (List ℕ)) (missed : ℕ) (ws : List Serves) (p : Progress) (cs : List (Clocked Body Asked Reply)) (place : ℕ) (k : Keyed) → IsServedToured first fs again missed ws p cs → MayAsk lens place k ws →
        IsServedToured first fs again missed (asked_at place k ws) p cs
    lost : (fs : List Exchanged) (again : Option (List ℕ)) (missed : ℕ) (ws : List Serves) (p : Progress) (cs : List (Clocked Body Asked Reply)) (f : Exchanged) (vs : List ServedTurn) (after : ℕ) (ps : List ℕ) → IsServedToured first fs again missed ws p cs →
        IsServedFrame lens (length fs) f.sent ws vs → f.fate ≡ Lost after → IsVisited again (length cs) p.opened p.last cs (map (lost_under (seen lens f.sent)) vs) ps →
        IsServedToured first (fs ++ f ∷ []) (again_behind (gives_up_at lens recover retry missed) ps) (missed_behind lens recover retry f.fate missed) (serves_on missed (length fs) f vs)
        (record { frames = suc p.frames; lost = suc p.lost; still = 0; opened = opened_on p.opened (served_lost (gives_up_at lens recover retry missed) p.frames f vs cs); last = last_lost (nat_lt p.opened (length cs)) (gives_up_at lens recover retry missed) p.last ps; waits = all_anew cs })
        (served_lost (gives_up_at lens recover retry missed) p.frames f vs cs)
    opening : (fs : List Exchanged) (again : Option (List ℕ)) (missed : ℕ) (ws : List Serves) (p : Progress) (cs : List (Clocked Body Asked Reply)) (f : Exchanged) (vs : List ServedTurn) (ps : List ℕ) → IsServedToured first fs again missed ws p cs →
        IsServedFrame lens (length fs) f.sent ws vs → f.fate ≡ Pass → p.opened < length cs → IsVisited again (length cs) p.opened p.last cs (map (back_under (seen lens f.back)) vs) ps →
        IsServedToured first (fs ++ f ∷ []) None (missed_behind lens recover retry f.fate missed) (serves_on missed (length fs) f vs)
        (record { frames = suc p.frames; lost = p.lost; still = p.still; opened = opened_on p.opened (served_back p.frames f vs cs); last = None; waits = all_anew cs }) (served_back p.frames f vs cs)
    round : (fs : List Exchanged) (again : Option (List ℕ)) (missed : ℕ) (ws : List Serves) (p : Progress) (cs : List (Clocked Body Asked Reply)) (f : Exchanged) (vs : List ServedTurn) (ps : List ℕ) → IsServedToured first fs again missed ws p cs →
        IsServedFrame lens (length fs) f.sent ws vs → f.fate ≡ Pass → length cs ≤ p.opened → IsVisited again (length cs) p.opened p.last cs (map (back_under (seen lens f.back)) vs) ps →
        IsServedToured first (fs ++ f ∷ []) None (missed_behind lens recover retry f.fate missed) (serves_on missed (length fs) f vs)
        (record { frames = suc p.frames; lost = p.lost; still = still_served p f vs cs; opened = p.opened; last = last_of p.last ps; waits = waits_served p f vs cs }) (served_back p.frames f vs cs)
    enters : (fs : List Exchanged) (again : Option (List ℕ)) (missed : ℕ) (ws : List Serves) (p : Progress) (cs : List (Clocked Body Asked Reply)) (f : Exchanged) (vs : List ServedTurn) (ps : List ℕ) → IsServedToured first fs again missed ws p cs →
        IsServedFrame lens (length fs) f.sent ws vs → f.fate ≡ Pass → length cs ≤ p.opened → IsVisited again (length cs) p.opened p.last cs (map (back_under (seen lens f.back)) vs) ps → still_served p f vs cs ≡ suc p.still →
        IsServedToured first (fs ++ f ∷ []) None (missed_behind lens recover retry f.fate missed) (serves_on missed (length fs) f vs)
        (record { frames = suc p.frames; lost = suc p.lost; still = 0; opened = p.opened; last = last_of p.last ps; waits = all_anew cs }) (served_back p.frames f vs cs)
