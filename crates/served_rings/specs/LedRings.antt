-- THE SLAVES OF A RING, each with its life by epochs that its master leads, and the counters that its record keeps.
use Rattle.std.specs.Prelude.{◌≡◌, ℕ, Bool, List, [], ◌∷◌, ⊤}
use Rattle.served_rings.specs.Lives.{IsLedLived, news_of, recorded_of}
use Rattle.served_places.specs.of_link_mails.Body.{Body}
use Rattle.run_work.specs.of_master_side.Counts.{counts_on, kept_on}
use Rattle.served_places.specs.of_segment_model.Record.{Frame, Kept}
use Rattle.run_work.specs.of_whole_ring.Members.{Member}
use Rattle.run_work.specs.of_whole_ring.Turning.{Turn}

-- what a record keeps of a slave: the counters of the last mail told and heard, and whether an empty read counts
pub record Counters : Type 0 where
  pub kept : Kept
  pub counts : Bool

module _ {S V A Q R : Type 0} (more : Body → Bool) (passed : Q → Bool) where
  -- A SLAVE'S LIFE up to the last of these frames
  abbrev pub LedMember : List (Frame Body) → Member S V A Q R → Counters → Type 0
  LedMember fs m k = IsLedLived m.services more passed m.spot m.clearing.cleared m.plan k.kept k.counts m.first m.life fs m.node

  -- of each
  abbrev pub AllLedMembers : List (Frame Body) → List (Member S V A Q R) → List Counters → Type 0
  AllLedMembers fs [] [] = ⊤
  AllLedMembers fs (m ∷ ms) (k ∷ ks) = LedMember fs m k × AllLedMembers fs ms ks
  AllLedMembers fs _ _ = ⊥

  -- THE NEWS BY WHICH MAILS GO ON are those that the records say of the frame
  abbrev pub AllTold : Frame Body → List (Member S V A Q R) → List Counters → List (Turn Q) → Type 0
  AllTold f [] [] [] = ⊤
  AllTold f (m ∷ ms) (k ∷ ks) (a ∷ turns) = (a.news ≡ news_of m.spot.station k.kept k.counts f) × AllTold f ms ks turns
  AllTold f _ _ _ = ⊥

-- THE COUNTERS BEHIND THE FRAME of this number
abbrev pub counters_next : {S V A Q R : Type 0} → ℕ → Frame Body → Member S V A Q R → Counters → Counters
counters_next made f m k = record { kept = kept_on m.life.stand m.spot.station k.kept (recorded_of f); counts = counts_on m.life.stand m.spot.station m.pace made (recorded_of f).back k.counts }

-- of each slave
abbrev pub all_counters : {S V A Q R : Type 0} → ℕ → Frame Body → List (Member S V A Q R) → List Counters → List Counters
all_counters made f (m ∷ ms) (k ∷ ks) = counters_next made f m k ∷ all_counters made f ms ks
all_counters made f _ _ = []
