-- ALL SLAVES OF A MASTER, place by place: their lives before and behind a frame, and what the frame has for each.
use Rattle.std.specs.Prelude.{◌≡◌, ℕ, suc, ◌==◌, ◌&&◌, Bool, true, false, Option, Some, None, List, [], ◌∷◌, ⊤}
use Rattle.al_state.specs.of_datagrams.Datagram as Raw
use Rattle.life_model.specs.of_exchange_model.Exchange.{Speech}
use Rattle.frame_view.specs.View.{Lens}
use Rattle.frame_view.specs.Seen.{datagrams_seen}
use Rattle.link_mails.specs.Body.{Body}
use Rattle.life_model.specs.of_segment_model.Slaves.{Datagram, Found}
use Rattle.life_model.specs.of_segment_model.Record.{News}
use Rattle.life_model.specs.of_state_model.Accounts.{Pick}
use Rattle.life_model.specs.Lives.{Spot, Stand, Life, AsksOpen, life_next, life_back, life_lost, gives_up}
use Rattle.life_model.specs.Tours.{item_at}
use Rattle.frame_view.specs.Frames.{Share, FrameFor, AreApart}

-- a slave: what the plan says of it, and its life
pub record Lived (Q R : Type 0) : Type 0 where
  pub spot : Spot
  pub life : Life Body Q R

-- two lists, place by place, from a place on
abbrev pub AllFrom : {S T : Type 0} → (ℕ → S → T → Type 0) → ℕ → List S → List T → Type 0
AllFrom P i [] [] = ⊤
AllFrom P i (x ∷ xs) (y ∷ ys) = P i x y × AllFrom P (suc i) xs ys
AllFrom P i _ _ = ⊥

-- two lists, place by place
abbrev pub AllBoth : {S T : Type 0} → (S → T → Type 0) → List S → List T → Type 0
AllBoth P [] [] = ⊤
AllBoth P (x ∷ xs) (y ∷ ys) = P x y × AllBoth P xs ys
AllBoth P _ _ = ⊥

-- three lists
abbrev pub AllThree : {S T U : Type 0} → (S → T → U → Type 0) → List S → List T → List U → Type 0
AllThree P [] [] [] = ⊤
AllThree P (x ∷ xs) (y ∷ ys) (z ∷ zs) = P x y z × AllThree P xs ys zs
AllThree P _ _ _ = ⊥

-- it is apart from each of these
abbrev pub IsElsewhere : {Q R : Type 0} → Spot → List (Lived Q R) → Type 0
IsElsewhere spot [] = ⊤
IsElsewhere spot (a ∷ as') = AreApart spot a.spot × IsElsewhere spot as'

-- SLAVES OF A RING: each has a station and a place of its own
abbrev pub AreDistinct : {Q R : Type 0} → List (Lived Q R) → Type 0
AreDistinct [] = ⊤
AreDistinct (a ∷ as') = IsElsewhere a.spot as' × AreDistinct as'

-- WHAT THE FRAME HAS FOR A SLAVE: by how the master stands to it; of an open one what its epoch asks for
pub record Asked {Q R : Type 0} (lens : ℕ → Lens) (ds : List Raw.Datagram) (a : Lived Q R) (share : Share) : Type 0 where
  pub has : FrameFor lens a.spot a.life.stand share ds
  pub asks : a.life.stand ≡ Stand.Open → AsksOpen a.spot.station a.life.era (datagrams_seen lens ds)

-- what an access brought back: whether just one slave met it, and what it found
abbrev pub came_of : Option (Datagram Body) → Option (Bool × Option Found)
came_of None = None
came_of (Some d) = Some (d.counter == 1, d.found)

-- that of the slave's datagram in a frame that came back
abbrev pub came_at : Bool → ℕ → List (Datagram Body) → Option (Bool × Option Found)
came_at false at back = None
came_at true at back = came_of (item_at at back)

-- the life behind a lost frame by which the slave is given up, or isn't
abbrev pub given_where : {Q R : Type 0} → Bool → ℕ → Spot → ℕ → Life Body Q R → Life Body Q R
given_where false recover spot frame l = l
given_where true recover spot frame l = gives_up recover spot frame l

module _ {Q R : Type 0} (x : Speech Body Q R) (acknowledged : Q → Bool) (more : Body → Bool) (passed : Q → Bool) where
  -- THE LIFE BEFORE A FRAME, by some choice
  pub record IsNext (made : ℕ) (a b : Lived Q R) : Type 0 where
    pub pick : Pick Q
    pub spot : b.spot ≡ a.spot
    pub life : b.life ≡ life_next x acknowledged more passed made a.life a.life.stand pick

  -- behind a frame that came back
  abbrev pub lived_back : ℕ → List (Datagram Body) → Lived Q R → Share → List (News Body) → Lived Q R
  lived_back frame back a share news = record {
    spot = a.spot;
    life = life_back x acknowledged more passed frame a.spot news back (came_at share.under share.at back) a.life a.life.stand;
  }

  -- behind a lost one; where `gives` says so, each slave that it carried is given up
  abbrev pub lived_lost : Bool → ℕ → ℕ → List (Datagram Body) → Lived Q R → Share → List (News Body) → Lived Q R
  lived_lost gives recover frame sent a share news = record {
    spot = a.spot;
    life = given_where (gives && share.under) recover a.spot frame (life_lost x acknowledged more passed a.spot news sent a.life a.life.stand);
  }
