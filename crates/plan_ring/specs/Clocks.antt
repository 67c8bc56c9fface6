-- THE CLOCKS OF ALL SLAVES OF A RING, and what each answers by a frame that came back.
use Rattle.std.specs.Prelude.{◌≡◌, ℕ, Bool, List, [], ◌∷◌, ⊤}
use Rattle.whole_ring.specs.of_frame_view.Frames.{Share}
use Rattle.whole_ring.specs.of_frame_view.Shares.{came_at}
use Rattle.whole_ring.specs.of_life_model.Repairs.{way_of}
use Rattle.whole_ring.specs.of_life_model.Lives.{Spot, Life, Stand}
use Rattle.whole_ring.specs.of_life_model.Own.{own}
use Rattle.slave_server.specs.of_link_mails.Body.{Body}
use Rattle.run_frames.specs.Answers.{EachAsks, EachAnswers, OpeningAnswers}
use Rattle.run_frames.specs.Goes.{is_same, stepped_behind}
use Rattle.slave_server.specs.of_segment_model.Slaves.{Datagram}
use Rattle.plan_ring.specs.Stands.{StandsTo}
use Rattle.whole_ring.specs.Members.{Member}
use Rattle.whole_ring.specs.Turning.{Turn, next_life}

-- each is right
abbrev pub AllStand : {S V A Q R : Type 0} → List Bool → List (Member S V A Q R) → Type 0
AllStand [] [] = ⊤
AllStand (b ∷ bs) (m ∷ ms) = StandsTo b m.life m.life.stand m.node.registers × AllStand bs ms
AllStand _ _ = ⊥

-- and behind a frame with this number, by what it made of the lives
abbrev pub clocks_on : {S V A Q R : Type 0} → ℕ → List Bool → List (Member S V A Q R) → List (Member S V A Q R) → List Bool
clocks_on made (b ∷ bs) (m ∷ ms) (n ∷ ns) = stepped_behind m.pace made (is_same (way_of 1 1 m.life) (way_of 1 1 n.life)) b ∷ clocks_on made bs ms ns
clocks_on made _ _ _ = []

-- what a slave answers: its life before the frame, and its share of that
abbrev pub AnswersAs : {Q R : Type 0} → List (Datagram Body) → Bool → Spot → Life Body Q R → Share → Stand → Type 0
AnswersAs back b spot l share (Stand.Opens o) = OpeningAnswers b o (came_at share.under share.at back)
AnswersAs back b spot l share Stand.Open = EachAnswers b l.era.side.halves.inn.state l.era.side.halves.inn.bit (own spot.station back)
AnswersAs back b spot l share Stand.Gone = ⊤

-- an open one was asked by its inward half
abbrev pub AsksAs : {Q R : Type 0} → List (Datagram Body) → Spot → Life Body Q R → Stand → Type 0
AsksAs sent spot l stand = stand ≡ Stand.Open → EachAsks l.era.side.halves.inn.state l.era.side.halves.inn.bit (own spot.station sent)

module _ {S V A Q R : Type 0} (more : Body → Bool) (passed : Q → Bool) (made : ℕ) where
  -- each was
  abbrev pub AllAsked : List (Datagram Body) → List (Member S V A Q R) → List (Turn Q) → Type 0
  AllAsked sent (m ∷ ms) (a ∷ turns) = (let l = next_life more passed made m.services m.life a in AsksAs sent m.spot l m.life.stand) × AllAsked sent ms turns
  AllAsked sent _ _ = ⊤

  -- each answers
  abbrev pub AllAnswered : List (Datagram Body) → List Bool → List (Member S V A Q R) → List (Turn Q) → Type 0
  AllAnswered back (b ∷ bs) (m ∷ ms) (a ∷ turns) = (let l = next_life more passed made m.services m.life a in AnswersAs back b m.spot l a.share m.life.stand) × AllAnswered back bs ms turns
  AllAnswered back _ _ _ = ⊤
