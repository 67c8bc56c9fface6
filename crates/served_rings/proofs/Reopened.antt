-- A SLAVE OF A SERVING THAT IS REOPENED was given up since its epoch began, or a state service in hand returns it.
use Rattle.std.proofs.Common.{◌≡◌, ◌⊎◌, inl, inr, ◌&&◌, ◌<◌, ℕ, suc, Bool, true, false, List, [], ◌∷◌, ◌++◌, refl, ap₂, subst, arith}
use Rattle.std.specs.Prelude.{All, if◌then◌else◌, nat_lt, ⊤}
use Rattle.std.proofs.lemmas.Bool.{lt-ltb}
use Rattle.std.proofs.lemmas.List.Elements.{All-head, All-tail}
use Rattle.served_places.specs.of_datagrams.Datagram as Raw
use Rattle.run_work.specs.of_slave_node.Passing.{datagrams_after}
use Rattle.run_work.specs.of_frame_view.View.{Lens}
use Rattle.run_work.specs.of_frame_view.Shares.{came_at}
use Rattle.served_places.specs.of_life_model.Lives.{Life, Opening, Stand, gives_up}
use Rattle.run_work.specs.of_master_duty.Reply.{Reply}
use Rattle.served_places.proofs.of_life_runs.Opened.{Leaves, Leaving, Now, Opened, back_so, given_so, later, lost_so, next_so, opened_first}
use Rattle.served_places.specs.of_life_runs.Causes.{since}
use Rattle.served_places.specs.of_life_runs.First.{leads_from}
use Rattle.served_places.specs.of_link_mails.Body.{Body}
use Rattle.served_places.specs.of_link_model.Segment.{RingFate}
use Rattle.run_work.specs.of_master_hand.Spoken.{Asked, is_followed, is_passed}
use Rattle.served_places.specs.of_segment_model.Record.{Frame}
use Rattle.run_work.specs.of_segment_plan.declared.service.Service as Row
use Rattle.run_work.specs.of_segment_plan.declared.slave.SlaveSpec.{SlaveSpec}
use Rattle.served_places.specs.of_segment_ring.declared.wire.Fate.TheVariants.{Lost, Pass}
use Rattle.served_rings.specs.Rings.{ServedMember, served_member, served_members}
use Rattle.served_rings.specs.StoodLives.{LeftOpen}
use Rattle.served_rings.proofs.Stood.{Reopens}
use Rattle.served_places.specs.of_life_runs.Served.{Serves, all_serve}
use Rattle.run_work.specs.of_slave_server.Serving.{Serving}
use Rattle.run_work.specs.of_slave_node.Node.{Node}
use Rattle.run_work.proofs.of_whole_ring.Turning.{next_stand}
use Rattle.run_work.specs.of_whole_ring.Turning.{Turn, behind_frame, given_up, life_by, next_life}

-- what holds of all holds of one among them
all_at : (P : ℕ → Type 0) (front : List ℕ) (x : ℕ) (behind : List ℕ) → All P (front ++ x ∷ behind) → P x
all_at P [] x behind h = All-head P x behind h
all_at P (y ∷ front) x behind h = all_at P front x behind (All-tail P y (front ++ x ∷ behind) h)

-- of each of those that are given up
abbrev pub AllReopen : List ServedMember → List Bool → Type 0
AllReopen [] bs = ⊤
AllReopen (m ∷ ms) [] = ⊤
AllReopen (m ∷ ms) (b ∷ bs) = Reopens m.life × AllReopen ms bs

module _ (start n : ℕ) (l : Life Body Asked Reply) (h : Opened start n l) where
  -- it leaves its epoch
  leaves_not : (state : ℕ) → Leaves start n l.gave l.era state → LeftOpen l.gave l.era → ⊥
  leaves_not state (inl own) left = left.stays own.own
  leaves_not state (inr given) left =
      let g = given.given in
      let among : All (λ k. k < since l.era.cleared) (g.front ++ g.frame ∷ g.behind) = subst (All (λ k. k < since l.era.cleared)) g.among left.quiet in
      let below = all_at (λ k. k < since l.era.cleared) g.front g.frame g.behind among in
      let from = g.from in
      omega (arith, below, from)

  early_leaves : (o : Opening) → o.again ≡ true → (o.step ≡ 1) ⊎ (o.step ≡ 2) → (o.again && nat_lt o.step 3) ≡ true
  early_leaves o again early = ap₂ (λ (a b : Bool). a && b) again (lt-ltb o.step 3 (elim early [
    | inl one ↦ omega (arith, one)
    | inr two ↦ omega (arith, two)
  ]))

  pub reopens_of : Reopens l
  reopens_of o is again early left =
      let now : Now start n l.gave l.era (Stand.Opens o) = subst (λ (st : Stand). Now start n l.gave l.era st) is h.now in
      leaves_not o.state (subst (λ (b : Bool). Leaving start n l.gave l.era o.state b) (early_leaves o again early) now) left

-- BEHIND SO MANY FRAMES, of each slave
abbrev pub AllOpened : ℕ → List ServedMember → Type 0
AllOpened n [] = ⊤
AllOpened n (m ∷ ms) = Opened m.spot.start n m.life × AllOpened n ms

-- so one that is given up was given up before, or a service returns it
pub all_reopen : (n : ℕ) (ms : List ServedMember) (bs : List Bool) → AllOpened n ms → AllReopen ms bs
all_reopen n [] bs h = tt
all_reopen n (m ∷ ms) [] h = tt
all_reopen n (m ∷ ms) (b ∷ bs) h = (reopens_of m.spot.start n m.life h.0, all_reopen n ms bs h.1)

pub later_all : (n : ℕ) (ms : List ServedMember) → AllOpened n ms → AllOpened (suc n) ms
later_all n [] h = tt
later_all n (m ∷ ms) h = (later m.spot.start n m.life h.0, later_all n ms h.1)

module _ (lens : ℕ → Lens) (made : ℕ) (f : Frame Body) where
  module _ (place : ℕ) (s : SlaveSpec) (w : Serves) (n : Node Serving) (a : Turn Asked) (h : Opened s.start made w.lead.lived.life) where
    abbrev m : ServedMember
    m = served_member lens place s w n

    next : Opened s.start made (next_life is_followed is_passed made m.services m.life a)
    next = next_so s.start made m.life h m.services.exchange.speech m.spot a.pick m.life.stand refl

    lost_one : (after : ℕ) → Opened s.start made (life_by is_followed is_passed made f (RingFate.Lost after) m.services m.spot m.life a)
    lost_one after = lost_so s.start made (next_life is_followed is_passed made m.services m.life a) next m.services.exchange.speech m.spot a.news f.sent m.life.stand (next_stand is_followed is_passed made m.services m.life a)

    back_one : Opened s.start (suc made) (life_by is_followed is_passed made f RingFate.Back m.services m.spot m.life a)
    back_one =
        back_so s.start made (next_life is_followed is_passed made m.services m.life a) next m.services.exchange.speech m.spot a.news f.back (came_at a.share.under a.share.at f.back) m.life.stand (next_stand is_followed is_passed made m.services m.life a)

  -- BEHIND A LOST FRAME, before slaves are given up for it
  pub all_lost : (after place at : ℕ) (ss : List SlaveSpec) (ws : List Serves) (ns : List (Node Serving)) (turns : List (Turn Asked)) (ds : List Raw.Datagram) → AllOpened made (served_members lens place ss ws ns) →
      AllOpened made (behind_frame is_followed is_passed made f (Lost after) at (served_members lens place ss ws ns) turns ds)
  all_lost after place at [] ws ns turns ds h = tt
  all_lost after place at (s ∷ ss) [] ns turns ds h = tt
  all_lost after place at (s ∷ ss) (w ∷ ws) [] turns ds h = tt
  all_lost after place at (s ∷ ss) (w ∷ ws) (n ∷ ns) [] ds h = tt
  all_lost after place at (s ∷ ss) (w ∷ ws) (n ∷ ns) (a ∷ turns) ds h = (lost_one place s w n a h.0 after, all_lost after (suc place) (suc at) ss ws ns turns (datagrams_after n.registers ds) h.1)

  -- behind one that came back
  pub all_back : (place at : ℕ) (ss : List SlaveSpec) (ws : List Serves) (ns : List (Node Serving)) (turns : List (Turn Asked)) (ds : List Raw.Datagram) → AllOpened made (served_members lens place ss ws ns) →
      AllOpened (suc made) (behind_frame is_followed is_passed made f Pass at (served_members lens place ss ws ns) turns ds)
  all_back place at [] ws ns turns ds h = tt
  all_back place at (s ∷ ss) [] ns turns ds h = tt
  all_back place at (s ∷ ss) (w ∷ ws) [] turns ds h = tt
  all_back place at (s ∷ ss) (w ∷ ws) (n ∷ ns) [] ds h = tt
  all_back place at (s ∷ ss) (w ∷ ws) (n ∷ ns) (a ∷ turns) ds h = (back_one place s w n a h.0, all_back (suc place) (suc at) ss ws ns turns (datagrams_after n.registers ds) h.1)

-- THOSE THAT ARE GIVEN UP
pub all_given : (recover n : ℕ) (ms : List ServedMember) (bs : List Bool) → AllOpened n ms → AllOpened (suc n) (given_up recover n ms bs)
all_given recover n [] bs h = tt
all_given recover n (m ∷ ms) [] h = later_all n (m ∷ ms) h
all_given recover n (m ∷ ms) (b ∷ bs) h = (one b, all_given recover n ms bs h.1)
  where
    one : (b : Bool) → Opened (if b then record m { life = gives_up recover m.spot n m.life } else m).spot.start (suc n) (if b then record m { life = gives_up recover m.spot n m.life } else m).life
    one true = given_so true recover m.spot n m.life h.0
    one false = later m.spot.start n m.life h.0

-- none is given up
pub none_given : (recover frame n : ℕ) (ms : List ServedMember) → AllOpened n ms → AllOpened n (given_up recover frame ms [])
none_given recover frame n [] h = tt
none_given recover frame n (m ∷ ms) h = h

-- BEFORE THE FIRST FRAME
pub all_first : (lens : ℕ → Lens) (rows : List (ℕ × Row.Service)) (place : ℕ) (ss : List SlaveSpec) (paces : List ℕ) (ns : List (Node Serving)) → AllOpened 0 (served_members lens place ss (all_serve paces (leads_from rows place ss)) ns)
all_first lens rows place [] paces ns = tt
all_first lens rows place (s ∷ ss) [] [] = tt
all_first lens rows place (s ∷ ss) (pace ∷ paces) [] = tt
all_first lens rows place (s ∷ ss) [] (n ∷ ns) = (opened_first s.start, all_first lens rows (suc place) ss [] ns)
all_first lens rows place (s ∷ ss) (pace ∷ paces) (n ∷ ns) = (opened_first s.start, all_first lens rows (suc place) ss paces ns)
