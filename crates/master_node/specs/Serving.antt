-- A MASTER LEADS THE LIVES OF ITS SLAVES ALSO WHILE MAILS ARE PASSED ON: what it has of each then, before a frame and while one is under way.
use Rattle.std.specs.Prelude.{◌≡◌, ◌≤◌, ◌<◌, ◌+◌, ◌^◌, ℕ, zero, suc, true, None, List, [], ◌∷◌, map, length, All}
use Rattle.life_runs.specs.Lives.{LifeKept}
use Rattle.life_runs.specs.Led.{Leads, Turn, speech_at}
use Rattle.life_runs.specs.of_frame_view.View.{Lens}
use Rattle.life_runs.specs.of_frame_view.Seen.{seen}
use Rattle.life_runs.specs.of_frame_view.Shares.{AllBoth, AllThree, AreDistinct}
use Rattle.life_runs.specs.of_master_hand.Shown.{awaits_reply, knows}
use Rattle.life_runs.specs.of_master_hand.declared.hand.InHand.{InHand}
use Rattle.life_runs.specs.of_master_side.declared.hand.Hand.{Ghosts}
use Rattle.life_runs.specs.of_mailbox_mail.declared.mail.Mail.{Mail}
use Rattle.life_runs.specs.of_master_tour.Counting.{StopCounts}
use Rattle.life_runs.specs.of_master_tour.Goes.{holds_at}
use Rattle.life_runs.specs.of_master_tour.Made.{is_in}
use Rattle.life_runs.specs.of_master_tour.Passing.{StandPassing}
use Rattle.life_runs.specs.of_master_tour.Stands.{StandUnder}
use Rattle.life_runs.specs.of_master_tour.declared.stop.Stop.{Stop}
use Rattle.life_runs.specs.Served.{Keyed, Serves, ServedTurn}
use Rattle.master_node.specs.Inhand.{HasInHand}
use Rattle.master_node.specs.Named.{IsHanded}
use Rattle.master_node.specs.Numbered.{IsNumbered}
use Rattle.master_node.specs.Rooms.{FitAgain, FitUnder}
use Rattle.master_node.specs.Shows.{GoesOn, GoesUnder, IsLived, lead_of, lived_of}
use Rattle.master_node.specs.declared.node.MasterNode.{MasterNode}
use Rattle.master_node.specs.declared.post.Post.{Post}

-- the mails that wait at a slave's post, each with the key of its asker
abbrev pub waits_of : Post → List Keyed
waits_of p = map (λ a. record { key = a.key; mail = a.mail }) p.mails.items

-- a slave of a serving as a run has it
abbrev pub run_lead : Serves → Leads
run_lead w = w.lead

abbrev pub run_turn : ServedTurn → Turn
run_turn v = v.turn

-- the slave behind the frame that is under way, should nothing come of it
abbrev pub serves_of : ServedTurn → Serves
serves_of v = record { lead = lead_of v.turn; pace = v.pace; asked = v.asked; waits = v.waits; hand = v.hand; kept = v.kept; counts = v.counts }

-- A MAIL THAT WAITS is as on the segment, without address and counter, and fits a mailbox of so many octets
abbrev pub MayPass : ℕ → Keyed → Type 0
MayPass room k = (k.mail.address ≡ 0) × (k.mail.counter ≡ 0) × (6 + length k.mail.body.items ≤ room)

-- THIS MAIL, as it was asked: under its key, without address and counter
pub record IsAsked (key : ℕ) (mail : Mail) (k : Keyed) : Type 0 where
  pub key_is : k.key ≡ key
  pub bare : (k.mail.address ≡ 0) × (k.mail.counter ≡ 0)
  pub kind : k.mail.kind ≡ mail.kind
  pub body : k.mail.body.items ≡ mail.body.items

module _ (lens : ℕ → Lens) where
  -- a mail of so many octets fits the mailbox of the slave at a place
  abbrev pub FitsAt : ℕ → ℕ → List Serves → Type 0
  FitsAt place octets [] = ⊥
  FitsAt zero octets (w ∷ ws) = 6 + octets ≤ (lens w.lead.lived.spot.station).out
  FitsAt (suc place) octets (w ∷ ws) = FitsAt place octets ws

  module _ (recover : ℕ) where
    -- THE SLAVE BEFORE THE FRAME OF THIS NUMBER: its life and its script, as in a run; a mail that is passed on has come as far as the life has it; the
    -- record's counters are those of the life, and whether an empty read counts is what its side knows; the mails that wait, each as it may be passed on; and the
    -- mail in hand, under the key of its asker; and its post has in hand what its life has
    pub record IsServed {G : Ghosts InHand} (made : ℕ) (w : Serves) (p : Post) (s : Stop InHand G) : Type 0 where
      pub lives : IsLived lens recover w.lead.lived s
      pub script : s.side.hand.laying.script ≡ w.lead.script
      pub number : s.side.hand.laying.number ≡ w.lead.number
      pub short : length w.lead.script ≤ 4096
      pub passing : StandPassing s.stand (awaits_reply s.side.hand.course s.side.hand.which s.side.hand.clients) s.side.passing w.lead.lived.life
      pub kept : LifeKept w.kept w.lead.lived.life
      pub counts : StopCounts s made w.counts
      pub pace : s.side.pace ≡ w.pace
      pub waits : waits_of p ≡ w.waits
      pub fits : All (λ k. MayPass (lens w.lead.lived.spot.station).out k) w.waits
      pub handed : IsHanded p.work w.hand w.lead.lived.life
      pub inhand : HasInHand (speech_at lens w.lead.lived.spot) (knows s.side.hand.course) w.lead.lived.life w.lead.lived.life.stand p.work

    -- THE SLAVE WHILE THAT FRAME IS UNDER WAY: besides, its share of the frame, and what the frame has of it
    pub record IsServedUnder {G : Ghosts InHand} (octets : List ℕ) (made : ℕ) (v : ServedTurn) (p : Post) (s : Stop InHand G) : Type 0 where
      pub served : IsServed made (serves_of v) p s
      pub under : v.turn.share.under ≡ s.under
      pub at : v.turn.share.at ≡ s.at
      pub way : StandUnder lens s.side.station s.at s.under s.side.carried s.stand v.turn.lived.life (seen lens octets)

    module _ (retry : ℕ) where
      -- THE MASTER BEFORE THE FRAME OF THIS NUMBER: it leads these slaves, behind so many lost frames in a row, and numbers the mails that were asked of each
      pub record ServedShows (m : MasterNode) (missed made : ℕ) (ws : List Serves) : Type 0 where
        pub each : AllThree (λ w p s. IsServed made w p s) ws m.posts.items m.tour.stops.items
        pub distinct : AreDistinct (map (λ w. lived_of (run_lead w)) ws)
        pub goes : GoesOn m.tour.again m.tour.visit.items m.tour.opened (map run_lead ws)
        pub missed_is : m.tour.missed ≡ missed
        pub retry_is : m.tour.retry ≡ retry
        pub again : m.tour.again ≡ true → FitAgain m.tour.visit.items m.tour.stops.items
        pub made_is : m.made ≡ made
        pub early : made < 2 ^ 32
        pub numbered : AllBoth (λ w p. IsNumbered (length w.asked) p) ws m.posts.items

      -- THE MASTER WHILE THAT FRAME IS UNDER WAY; the slaves of which that has a datagram come again, should it be lost
      pub record ServedUnder (m : MasterNode) (octets : List ℕ) (missed made : ℕ) (vs : List ServedTurn) : Type 0 where
        pub each : AllThree (λ v p s. IsServedUnder octets made v p s) vs m.posts.items m.tour.stops.items
        pub distinct : AreDistinct (map (λ v. v.turn.lived) vs)
        pub goes : GoesUnder m.tour.visit.items m.tour.opened (map run_turn vs)
        pub missed_is : m.tour.missed ≡ missed
        pub retry_is : m.tour.retry ≡ retry
        pub sent : 1 ≤ length (seen lens octets)
        pub fits : FitUnder m.tour.visit.items m.tour.stops.items
        pub carried : (k : ℕ) → holds_at (λ s. s.under) m.tour.stops.items k ≡ true → is_in k m.tour.visit.items ≡ true
        pub made_is : m.made ≡ suc made
        pub early : suc made < 2 ^ 32
        pub numbered : AllBoth (λ v p. IsNumbered (length v.asked) p) vs m.posts.items

-- A SLAVE BEFORE THE FIRST FRAME has this pace, and no read of it was done
abbrev pub IsPaced : {G : Ghosts InHand} → ℕ → Stop InHand G → Type 0
IsPaced pace s = (s.side.read_at ≡ None) × (s.side.pace ≡ pace)

-- the mails that wait at all posts
abbrev pub mails_in : MasterNode → List (List Keyed)
mails_in m = map waits_of m.posts.items

-- A MASTER ONLY TELLS: its slaves stay, where its tour stands, and the mails that wait
pub record TellsOnly (m n : MasterNode) : Type 0 where
  pub tour : n.tour ≡ m.tour
  pub made : n.made ≡ m.made
  pub mails : mails_in n ≡ mails_in m
