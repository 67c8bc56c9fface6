-- A RUN THAT A MASTER LEADS, and its slaves as their frames are counted.
use Rattle.std.specs.Prelude.{◌≡◌, ◌≤◌, ◌<◌, ℕ, suc, Bool, false, Option, None, List, [], ◌∷◌, ◌++◌, map, length, ⊤}
use Rattle.life_runs.specs.of_frame_view.Seen.{seen}
use Rattle.life_runs.specs.of_frame_view.View.{Lens}
use Rattle.life_runs.specs.of_frame_view.Shares.{came_at}
use Rattle.life_runs.specs.Led.{Exchanged, Leads, Turn, IsLedFrame, speech_at, is_passed, led_behind, gives_up_at, missed_behind}
use Rattle.life_runs.specs.of_link_mails.Body.{Body}
use Rattle.life_runs.specs.of_master_duty.Reply.{Reply}
use Rattle.life_runs.specs.of_master_hand.Spoken.{Asked, acknowledged, is_followed}
use Rattle.life_runs.specs.of_segment_model.Slaves.{Datagram}
use Rattle.life_runs.specs.of_segment_ring.declared.wire.Fate.TheVariants.{Pass, Lost}
use Rattle.run_frames.specs.Brings.{AllBring}
use Rattle.run_frames.specs.Clocks.{Clocked}
use Rattle.run_frames.specs.Goes.{Under, all_lost, all_back}
use Rattle.run_frames.specs.Orders.{IsRound, CarriesOne, opened_on, last_of}
use Rattle.run_frames.specs.Runs.{Progress, nothing_sent, many}
use Rattle.run_frames.specs.Waits.{Waits, all_anew, waits_behind, SomeWaits}

-- each of these is the slave that the master leads
abbrev pub AreLed : List Leads → List (Clocked Body Asked Reply) → Type 0
AreLed [] [] = ⊤
AreLed (a ∷ as') (c ∷ cs) = (c.spot ≡ a.lived.spot) × (c.life ≡ a.lived.life) × AreLed as' cs
AreLed _ _ = ⊥

-- a slave before a frame, with its share of that, which came back so
abbrev pub under_of : List (Datagram Body) → Turn → Under Body Asked Reply
under_of back u = record { life = u.lived.life; under = u.share.under; came = came_at u.share.under u.share.at back; news = [] }

-- of all slaves
abbrev pub unders : List (Datagram Body) → List Turn → List (Under Body Asked Reply)
unders back us = map (under_of back) us

-- the slaves before the first frame, with the paces of their processors
abbrev pub first_clocked : List Leads → List ℕ → List (Clocked Body Asked Reply)
first_clocked (a ∷ as') (pace ∷ paces) = record { spot = a.lived.spot; life = a.lived.life; pace = pace; stepped = false } ∷ first_clocked as' paces
first_clocked _ _ = []

module _ (lens : ℕ → Lens) (recover retry slowest : ℕ) where
  -- the slaves behind a frame, as they are counted: it was lost, or came back
  abbrev pub behind_lost : Bool → ℕ → Exchanged → List Turn → List (Clocked Body Asked Reply) → List (Clocked Body Asked Reply)
  behind_lost gives made f us cs = all_lost (speech_at lens) acknowledged is_followed is_passed gives recover made (seen lens f.sent) cs (unders (seen lens f.back) us)

  -- behind a frame that came back
  abbrev pub behind_back : ℕ → Exchanged → List Turn → List (Clocked Body Asked Reply) → List (Clocked Body Asked Reply)
  behind_back made f us cs = all_back (speech_at lens) acknowledged is_followed is_passed made (seen lens f.back) cs (unders (seen lens f.back) us)

  -- how many frames in a row gained nothing, behind one more that came back
  abbrev pub still_led : Progress → Exchanged → List Turn → List (Clocked Body Asked Reply) → ℕ
  still_led p f us cs = many (speech_at lens) acknowledged is_followed is_passed recover slowest p (seen lens f.back) cs (unders (seen lens f.back) us)

  -- and how each slave waits then
  abbrev pub waits_led : Progress → Exchanged → List Turn → List (Clocked Body Asked Reply) → List Waits
  waits_led p f us cs = waits_behind (still_led p f us cs) p.frames cs (unders (seen lens f.back) us) p.waits

  -- the lives behind a frame
  abbrev pub leads_behind : ℕ → ℕ → Exchanged → List Turn → List Leads
  leads_behind missed made f us = map (led_behind lens recover retry (gives_up_at lens recover retry missed) made f) us

  -- A RUN THAT A MASTER LEADS, frame by frame, with what the count of its frames asks for: in the first bring-up a frame carries the
  -- slave that is brought up, and behind it one that came back the first live slaves of a round; it brings each that it
  -- carries what its access asks for; and behind one that gained nothing, with nothing to repair, some slave waits yet, or a
  -- packet of the host came in with it, and it counts as lost
  pub data IsTallied (first : List Leads) (paces : List ℕ) : List Exchanged → ℕ → List Leads → Progress → List (Clocked Body Asked Reply) → Type 0 where
    start : IsTallied first paces [] 0 first (nothing_sent None (first_clocked first paces)) (first_clocked first paces)
    lost : (fs : List Exchanged) (missed : ℕ) (as' : List Leads) (p : Progress) (cs : List (Clocked Body Asked Reply)) (f : Exchanged) (us : List Turn) (after : ℕ) (next : Option ℕ) → IsTallied first paces fs missed as' p cs →
        IsLedFrame lens (length fs) f.sent as' us → f.fate ≡ Lost after → (p.opened < length cs → CarriesOne p.opened (unders (seen lens f.back) us)) →
        IsTallied first paces (fs ++ f ∷ []) (missed_behind lens recover retry f.fate missed) (leads_behind missed (length fs) f us)
        (record { frames = suc p.frames; lost = suc p.lost; still = 0; opened = opened_on p.opened (behind_lost (gives_up_at lens recover retry missed) p.frames f us cs); last = next; waits = all_anew cs }) (behind_lost (gives_up_at lens recover retry missed) p.frames f us cs)
    opening : (fs : List Exchanged) (missed : ℕ) (as' : List Leads) (p : Progress) (cs : List (Clocked Body Asked Reply)) (f : Exchanged) (us : List Turn) (next : Option ℕ) → IsTallied first paces fs missed as' p cs →
        IsLedFrame lens (length fs) f.sent as' us → f.fate ≡ Pass → AllBring (seen lens f.back) cs (unders (seen lens f.back) us) → p.opened < length cs → CarriesOne p.opened (unders (seen lens f.back) us) →
        IsTallied first paces (fs ++ f ∷ []) (missed_behind lens recover retry f.fate missed) (leads_behind missed (length fs) f us)
        (record { frames = suc p.frames; lost = p.lost; still = p.still; opened = opened_on p.opened (behind_back p.frames f us cs); last = next; waits = all_anew cs }) (behind_back p.frames f us cs)
    round : (fs : List Exchanged) (missed : ℕ) (as' : List Leads) (p : Progress) (cs : List (Clocked Body Asked Reply)) (f : Exchanged) (us : List Turn) (ps : List ℕ) → IsTallied first paces fs missed as' p cs →
        IsLedFrame lens (length fs) f.sent as' us → f.fate ≡ Pass → AllBring (seen lens f.back) cs (unders (seen lens f.back) us) → length cs ≤ p.opened → IsRound (length cs) p.last cs (unders (seen lens f.back) us) ps →
        (still_led p f us cs ≡ suc p.still → SomeWaits (behind_back p.frames f us cs) (waits_led p f us cs)) →
        IsTallied first paces (fs ++ f ∷ []) (missed_behind lens recover retry f.fate missed) (leads_behind missed (length fs) f us)
        (record { frames = suc p.frames; lost = p.lost; still = still_led p f us cs; opened = p.opened; last = last_of p.last ps; waits = waits_led p f us cs }) (behind_back p.frames f us cs)
    enters : (fs : List Exchanged) (missed : ℕ) (as' : List Leads) (p : Progress) (cs : List (Clocked Body Asked Reply)) (f : Exchanged) (us : List Turn) (ps : List ℕ) → IsTallied first paces fs missed as' p cs →
        IsLedFrame lens (length fs) f.sent as' us → f.fate ≡ Pass → AllBring (seen lens f.back) cs (unders (seen lens f.back) us) → length cs ≤ p.opened → IsRound (length cs) p.last cs (unders (seen lens f.back) us) ps → still_led p f us cs ≡ suc p.still →
        IsTallied first paces (fs ++ f ∷ []) (missed_behind lens recover retry f.fate missed) (leads_behind missed (length fs) f us)
        (record { frames = suc p.frames; lost = suc p.lost; still = 0; opened = p.opened; last = last_of p.last ps; waits = all_anew cs }) (behind_back p.frames f us cs)
