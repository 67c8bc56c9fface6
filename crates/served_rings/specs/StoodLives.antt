-- A LIFE BY EPOCHS THAT ITS MASTER LEADS, with the slave as it stood where each epoch that is over ended.
use Rattle.std.specs.Prelude.{◌≡◌, ◌⊎◌, ◌<◌, ℕ, suc, Bool, Option, Some, List, [], ◌∷◌, ◌++◌, take, drop, All, ⊤}
use Rattle.run_work.specs.of_frames_seen.Slaves.{registers_seen}
use Rattle.served_places.specs.of_life_model.Lives.{Spot, Era, Life, Stand}
use Rattle.served_places.specs.of_life_runs.Causes.{IsOwn, since}
use Rattle.served_places.specs.of_link_mails.Body.{Body}
use Rattle.served_places.specs.of_segment_model.Record.{Frame, Kept}
use Rattle.served_rings.specs.LedRings.{Counters}
use Rattle.served_rings.specs.Lives.{AllLeds, LedKept, LedLeft, LedYet}
use Rattle.run_work.specs.of_slave_lives.Lived.{Behind}
use Rattle.run_work.specs.of_slave_lives.Opening.{Plan}
use Rattle.run_work.specs.of_slave_node.Node.{Node}
use Rattle.run_work.specs.of_whole_ring.Members.{Member}
use Rattle.run_work.specs.of_whole_ring.Whole.{IsLivedBy, LivesStillBy}

-- of the nodes of slaves behind each number of frames, this one is the first behind the frame with this number
abbrev pub IsFirst : {S : Type 0} → (ℕ → List (Node S)) → ℕ → Node S → Type 0
IsFirst nodes frame n = take 1 (nodes (suc frame)) ≡ n ∷ []

-- those of the slaves behind the first
abbrev pub others : {S : Type 0} → (ℕ → List (Node S)) → ℕ → List (Node S)
others nodes frames = drop 1 (nodes frames)

-- AN EPOCH BEGINS WITH WHAT ITS SLAVE HAD, cleared, behind the frame that showed the return to Init before it; `stood` says of a frame which node the slave was
pub record BeginsAt {S V A Q R : Type 0} (w : Behind S V A Q R) (stood : ℕ → Node S → Type 0) (b : A) (cleared : Option ℕ) : Type 0 where
  pub frame : ℕ
  pub shown : cleared ≡ Some frame
  pub node : Node S
  pub stands : stood frame node
  pub al : ℕ
  pub begins : b ≡ w.exchange.app (w.sees al (w.running.clear node.server)).server

-- OF AN EPOCH IN WHICH ITS SLAVE WAS GIVEN UP FOR GOOD, with the give-ups before: it was open, none of these came since it began, and no state service in hand returns
-- the slave to Init. So no reopening of the slave began since the epoch was opened
pub record LeftOpen {M Q R : Type 0} (before : List ℕ) (e : Era M Q R) : Type 0 where
  pub opened : ℕ
  pub opened_at : e.opened ≡ Some opened
  pub quiet : All (λ g. g < since e.cleared) before
  pub stays : IsOwn e → ⊥

module _ {S V A Q R : Type 0} (w : Behind S V A Q R) (more : Body → Bool) (passed : Q → Bool) (spot : Spot) (stood : ℕ → Node S → Type 0) (clear : A → A) where
  -- so each behind one that is over, the last by the frame with which the newest was cleared
  abbrev pub AllBegin : (a : A) (es : List (Era Body Q R)) (b : A) → AllLeds w more passed spot clear a es b → Option ℕ → Type 0
  AllBegin _ _ _ (AllLeds.none a) cleared = ⊤
  AllBegin _ _ _ (AllLeds.closed a es b e at state before is_new) cleared = AllBegin a es b before e.cleared × BeginsAt w stood (clear b) cleared
  AllBegin _ _ _ (AllLeds.opened a es b e s before left) cleared =
      AllBegin a es b before e.cleared × BeginsAt w stood (w.exchange.app (w.sees (registers_seen left.node.registers).state (w.running.clear s)).server) cleared

  -- all that are over
  abbrev pub Stood : A → List (Era Body Q R) → A → Option ℕ → Type 0
  Stood a es b cleared = (all : AllLeds w more passed spot clear a es b) × AllBegin a es b all cleared

  -- its epochs
  abbrev pub IsStoodBy : Plan → Kept → Bool → A → Life Body Q R → List (Frame Body) → Node S → Type 0
  IsStoodBy p kept counts first l fs n =
      IsLivedBy w (λ a e gs m. LedKept w more passed spot kept counts a e gs m) (λ a e gs m. LedYet w more passed spot a e gs m) (λ a e gs s. LedLeft w more passed spot a e s) (λ gs a es b. Stood a es b l.era.cleared) p spot first l fs n

  -- ONE GIVEN UP FOR GOOD, last of its give-ups: it stays up and lives its epoch on, or that isn't one in which it was open then
  abbrev pub StandsUp : A → Life Body Q R → List (Frame Body) → Node S → Stand → Type 0
  StandsUp from l fs n (Stand.Opens o) = ⊤
  StandsUp from l fs n Stand.Open = ⊤
  StandsUp from l fs n Stand.Gone =
      (before : List ℕ) × (last : ℕ) × (l.gave ≡ before ++ last ∷ []) × (LivesStillBy w from l.era (λ a e gs m. LedYet w more passed spot a e gs m) fs n ⊎ (LeftOpen before l.era → ⊥))

  -- THE LIFE
  abbrev pub IsStoodLived : Plan → Kept → Bool → A → Life Body Q R → List (Frame Body) → Node S → Type 0
  IsStoodLived p kept counts first l fs n = (i : IsStoodBy p kept counts first l fs n) × StandsUp i.from l fs n l.stand

module _ {S V A Q R : Type 0} (more : Body → Bool) (passed : Q → Bool) where
  -- A SLAVE'S LIFE up to the last of these frames
  abbrev pub StoodMember : (ℕ → Node S → Type 0) → List (Frame Body) → Member S V A Q R → Counters → Type 0
  StoodMember stood fs m k = IsStoodLived m.services more passed m.spot stood m.clearing.cleared m.plan k.kept k.counts m.first m.life fs m.node

  -- of each, by the nodes of these slaves behind each number of frames
  abbrev pub AllStoodMembers : (ℕ → List (Node S)) → List (Frame Body) → List (Member S V A Q R) → List Counters → Type 0
  AllStoodMembers nodes fs [] [] = ⊤
  AllStoodMembers nodes fs (m ∷ ms) (k ∷ ks) = StoodMember (IsFirst nodes) fs m k × AllStoodMembers (others nodes) fs ms ks
  AllStoodMembers nodes fs _ _ = ⊥
