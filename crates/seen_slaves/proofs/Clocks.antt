-- The clocks of a serving's slaves by a frame, and what each answers by one that came back.
use Rattle.std.proofs.Common.{◌≡◌, ℕ, suc, Bool, true, false, List, [], ◌∷◌, ◌++◌, map, length, refl, sym, ap, ◌∙◌, subst, if◌then◌else◌}
use Rattle.std.specs.Prelude.{⊤}
use Rattle.std.proofs.lemmas.List.{length-map}
use Rattle.idle_slaves.specs.of_datagrams.Frame.{chained}
use Rattle.idle_slaves.specs.of_exchange_model.Exchange.{Speech}
use Rattle.idle_slaves.specs.of_frame_view.Seen.{seen}
use Rattle.idle_slaves.specs.of_frame_view.View.{Lens}
use Rattle.idle_slaves.proofs.Fits.{Slave}
use Rattle.idle_slaves.specs.of_life_model.Repairs.{way_of}
use Rattle.idle_slaves.specs.of_life_model.Lives.{Life, Spot, Stand, gives_up}
use Rattle.idle_slaves.specs.of_life_model.Own.{own}
use Rattle.idle_slaves.specs.of_life_runs.First.{lens_of, leads_from}
use Rattle.idle_slaves.specs.of_life_runs.Led.{Exchanged, gives_up_at, is_passed}
use Rattle.idle_slaves.specs.of_link_mails.Body.{Body}
use Rattle.served_rings.specs.of_master_duty.Reply.{Reply}
use Rattle.served_rings.specs.of_master_hand.Spoken.{Asked, acknowledged, is_followed}
use Rattle.idle_slaves.specs.of_plan_ring.Lives.{IsKnown}
use Rattle.idle_slaves.specs.of_plan_ring.Plan.{FitsPlan, step}
use Rattle.idle_slaves.specs.of_plan_ring.Round.{WentRound, all_seen, frame_seen, ring_after, ring_of}
use Rattle.idle_slaves.proofs.of_plan_ring.Known.{AllBoot, all_boot}
use Rattle.idle_slaves.proofs.of_plan_ring.Lives.{one_after}
use Rattle.idle_slaves.specs.of_run_frames.Answers.{AllAnswer, AllAsk, AsksFirst, EachAsks, StandAnswers}
use Rattle.idle_slaves.specs.of_run_frames.Goes.{Under, all_back, all_lost, clocked_behind, is_same, stepped_behind}
use Rattle.idle_slaves.specs.of_run_frames.Led.{AreLed}
use Rattle.idle_slaves.specs.of_segment_model.Record.{Frame}
use Rattle.idle_slaves.specs.of_segment_model.Slaves.{Datagram}
use Rattle.idle_slaves.specs.of_segment_plan.Sound as Plan
use Rattle.idle_slaves.specs.of_segment_plan.declared.plan.Scenario.{Scenario}
use Rattle.idle_slaves.specs.of_segment_plan.declared.service.Service as Row
use Rattle.idle_slaves.specs.of_segment_plan.declared.slave.SlaveSpec.{SlaveSpec}
use Rattle.idle_slaves.specs.of_segment_ring.Ring.{RingState}
use Rattle.idle_slaves.specs.of_segment_ring.Schedule.{fate_at}
use Rattle.idle_slaves.specs.of_segment_ring.declared.wire.Fate.{Fate}
use Rattle.idle_slaves.specs.of_segment_ring.declared.wire.Fate.TheVariants.{Pass}
use Rattle.served_rings.specs.of_served_places.Toured.{first_served}
use Rattle.served_rings.specs.Rings.{AllServedAt, AreServedLived, IsServedAt, ServedMember, served_member, served_members}
use Rattle.served_rings.proofs.All as Every
use Rattle.served_rings.proofs.One as One
use Rattle.idle_slaves.specs.of_life_runs.Served.{Serves, ServedTurn, AllServedTurn, IsServedFrame, IsServedTurn, all_serve, served_behind}
use Rattle.seen_slaves.specs.Eager.{leads_of, turns_of}
use Rattle.seen_slaves.proofs.Seats.{nodes_are}
use Rattle.idle_slaves.specs.of_plan_ring.Clocks.{AllAnswered, AllAsked, AllStand, AnswersAs, AsksAs, clocks_on}
use Rattle.idle_slaves.specs.of_plan_ring.Stands.{StandsTo}
use Rattle.idle_slaves.proofs.of_plan_ring.Each.{each_answers, each_stand, meets}
use Rattle.idle_slaves.proofs.of_plan_ring.Opened.{nothing_awaited}
use Rattle.idle_slaves.proofs.of_plan_ring.SlaveTurns.{given}
use Rattle.idle_slaves.specs.of_slave_server.Serving.{Serving}
use Rattle.idle_slaves.specs.of_slave_server.Spec.{node_of}
use Rattle.idle_slaves.specs.of_slave_node.Node.{Node}
use Rattle.served_rings.specs.of_whole_ring.Members.{AllLived, Member}
use Rattle.served_rings.specs.of_whole_ring.Turning.{AllTurn, Turn, behind_frame, frame_at, given_up, next_life}
use Rattle.served_rings.proofs.of_whole_ring.Members as Members

-- ---- THE CLOCKS of the slaves as they are counted
abbrev pub clocks : List Slave → List Bool
clocks cs = map (λ (c : Slave). c.stepped) cs

-- behind a frame they run on
abbrev pub RunOn : ℕ → List Slave → List Slave → Type 0
RunOn number [] [] = ⊤
RunOn number (c ∷ cs) (d ∷ ds) = (d ≡ clocked_behind number c d.life) × RunOn number cs ds
RunOn number _ _ = ⊥

module _ (x : Spot → Speech Body Asked Reply) (number : ℕ) where
  pub run_back : (back : List (Datagram Body)) (cs : List Slave) (us : List (Under Body Asked Reply)) → length us ≡ length cs → RunOn number cs (all_back x acknowledged is_followed is_passed number back cs us)
  run_back back [] [] e = tt
  run_back back [] (u ∷ us) e = absurd (cc)
  run_back back (c ∷ cs) [] e = absurd (cc)
  run_back back (c ∷ cs) (u ∷ us) e = (refl, run_back back cs us (let f : length us ≡ length cs = cc in f))

  pub run_lost : (gives : Bool) (recover : ℕ) (sent : List (Datagram Body)) (cs : List Slave) (us : List (Under Body Asked Reply)) → length us ≡ length cs → RunOn number cs (all_lost x acknowledged is_followed is_passed gives recover number sent cs us)
  run_lost gives recover sent [] [] e = tt
  run_lost gives recover sent [] (u ∷ us) e = absurd (cc)
  run_lost gives recover sent (c ∷ cs) [] e = absurd (cc)
  run_lost gives recover sent (c ∷ cs) (u ∷ us) e = (refl, run_lost gives recover sent cs us (let f : length us ≡ length cs = cc in f))

-- a give-up answers for nothing
given_all : {S V A Q R : Type 0} (recover made : ℕ) (bs : List Bool) (ms ns : List (Member S V A Q R)) (carried : List Bool) → AllStand (clocks_on made bs ms ns) ns → AllStand (clocks_on made bs ms (given_up recover made ns carried)) (given_up recover made ns carried)
given_all recover made bs ms [] carried k = k
given_all recover made bs ms (n ∷ ns) [] k = k
given_all recover made [] ms (n ∷ ns) (g ∷ gs) k = absurd k
given_all recover made (b ∷ bs) [] (n ∷ ns) (g ∷ gs) k = absurd k
given_all {S} {V} {A} {Q} {R} recover made (b ∷ bs) (m ∷ ms) (n ∷ ns) (g ∷ gs) k = (one g, given_all recover made bs ms ns gs k.1)
  where
    one : (g : Bool) → (let o : Member S V A Q R = if g then record n { life = gives_up recover n.spot made n.life } else n in StandsTo (stepped_behind m.pace made (is_same (way_of 1 1 m.life) (way_of 1 1 o.life)) b) o.life o.life.stand o.node.registers)
    one true = given recover made n.spot n.life _ n.node.registers
    one false = k.0

-- before the first frame nothing is awaited
pub first_stand : (lens : ℕ → Lens) (rows : List (ℕ × Row.Service)) (place at : ℕ) (ss : List SlaveSpec) (paces : List ℕ) →
    AllStand (clocks (first_served (all_serve paces (leads_from rows place ss)))) (served_members lens at ss (all_serve paces (leads_from rows place ss)) (map node_of ss))
first_stand lens rows place at [] paces = tt
first_stand lens rows place at (s ∷ ss) [] = (nothing_awaited _ false (node_of s).registers refl, first_stand lens rows (suc place) (suc at) ss [])
first_stand lens rows place at (s ∷ ss) (pace ∷ paces) = (nothing_awaited _ false (node_of s).registers refl, first_stand lens rows (suc place) (suc at) ss paces)

-- a give-up keeps the nodes
nodes_given : (recover made : ℕ) (ms : List ServedMember) (bs : List Bool) → map (λ (m : ServedMember). m.node) (given_up recover made ms bs) ≡ map (λ (m : ServedMember). m.node) ms
nodes_given recover made [] bs = refl
nodes_given recover made (m ∷ ms) [] = refl
nodes_given recover made (m ∷ ms) (b ∷ bs) = go b (nodes_given recover made ms bs)
  where
    go : (b : Bool) → map (λ (z : ServedMember). z.node) (given_up recover made ms bs) ≡ map (λ (z : ServedMember). z.node) ms →
        (if b then record m { life = gives_up recover m.spot made m.life } else m).node ∷ map (λ (z : ServedMember). z.node) (given_up recover made ms bs) ≡ m.node ∷ map (λ (z : ServedMember). z.node) ms
    go true e = ap (λ (l : List (Node Serving)). m.node ∷ l) e
    go false e = ap (λ (l : List (Node Serving)). m.node ∷ l) e

-- the clocks of the ring's slaves are those of the slaves as they are counted
module _ (plan : Scenario) (made : ℕ) where
  abbrev lens : ℕ → Lens
  lens = lens_of plan.slaves

  pub counted_stand : (place : ℕ) (ss : List SlaveSpec) (ws us : List Serves) (ns ks : List (Node Serving)) (cs ds : List Slave) → RunOn made cs ds → AreLed (leads_of ws) cs → AreLed (leads_of us) ds → map (λ (c : Slave). c.pace) cs ≡ map (λ (w : Serves). w.pace) ws →
      AllServedAt plan place ss ws ns → AllServedAt plan place ss us ks → AllStand (clocks_on made (clocks cs) (served_members (lens_of plan.slaves) place ss ws ns) (served_members (lens_of plan.slaves) place ss us ks)) (served_members (lens_of plan.slaves) place ss us ks) →
      AllStand (clocks ds) (served_members (lens_of plan.slaves) place ss us ks)
  counted_stand place [] [] [] [] [] [] [] r l m p a b k = tt
  counted_stand place [] [] [] [] [] [] (d ∷ ds) r l m p a b k = absurd r
  counted_stand place [] [] [] [] [] (c ∷ cs) ds r l m p a b k = absurd l
  counted_stand place [] [] [] [] (n ∷ ks) cs ds r l m p a b k = absurd b
  counted_stand place [] [] [] (n ∷ ns) ks cs ds r l m p a b k = absurd a
  counted_stand place [] [] (u ∷ us) ns ks cs ds r l m p a b k = absurd b
  counted_stand place [] (w ∷ ws) us ns ks cs ds r l m p a b k = absurd a
  counted_stand place (s ∷ ss) [] us ns ks cs ds r l m p a b k = absurd a
  counted_stand place (s ∷ ss) (w ∷ ws) us [] ks cs ds r l m p a b k = absurd a
  counted_stand place (s ∷ ss) (w ∷ ws) [] (n ∷ ns) ks cs ds r l m p a b k = absurd b
  counted_stand place (s ∷ ss) (w ∷ ws) (u ∷ us) (n ∷ ns) [] cs ds r l m p a b k = absurd b
  counted_stand place (s ∷ ss) (w ∷ ws) (u ∷ us) (n ∷ ns) (n' ∷ ks) [] ds r l m p a b k = absurd l
  counted_stand place (s ∷ ss) (w ∷ ws) (u ∷ us) (n ∷ ns) (n' ∷ ks) (c ∷ cs) [] r l m p a b k = absurd r
  counted_stand place (s ∷ ss) (w ∷ ws) (u ∷ us) (n ∷ ns) (n' ∷ ks) (c ∷ cs) (d ∷ ds) r l m p a b k =
      let pace : c.pace ≡ w.pace = (let both : c.pace ∷ map (λ (z : Slave). z.pace) cs ≡ w.pace ∷ map (λ (z : Serves). z.pace) ws = p in cc) in
      let paces : map (λ (z : Slave). z.pace) cs ≡ map (λ (z : Serves). z.pace) ws = (let both : c.pace ∷ map (λ (z : Slave). z.pace) cs ≡ w.pace ∷ map (λ (z : Serves). z.pace) ws = p in cc) in
      let clock : d.stepped ≡ stepped_behind w.pace made (is_same (way_of 1 1 w.lead.lived.life) (way_of 1 1 u.lead.lived.life)) c.stepped =
      ap (λ (z : Slave). z.stepped) r.0 ∙ (λ i. stepped_behind (pace i) made (is_same (way_of 1 1 (l.1 i)) (way_of 1 1 (m.1 i))) c.stepped) in (
        subst (λ (q : Bool). StandsTo q u.lead.lived.life u.lead.lived.life.stand n'.registers) (sym clock) k.0,
        counted_stand (suc place) ss ws us ns ks cs ds r.1 l.2 m.2 paces a.1 b.1 k.1,
      )

-- ---- BY A FRAME
module _ (plan : Scenario) (is : Plan.IsPlan plan) (known : IsKnown plan) (fs : List Exchanged) (missed : ℕ) (ws : List Serves) (f : Exchanged) (vs : List ServedTurn) (x : AreServedLived plan fs ws) (y : IsServedFrame (lens_of plan.slaves) (length fs) f.sent ws vs)
    (went : WentRound (ring_after (ring_of plan) fs) f) (cs : List Slave) (led : AreLed (leads_of ws) cs) (stands : AllStand (clocks cs) (served_members (lens_of plan.slaves) 0 plan.slaves ws x.nodes)) where
  abbrev ring : RingState (Node Serving)
  ring = ring_after (ring_of plan) fs

  abbrev gs : List (Frame Body)
  gs = all_seen (lens_of plan.slaves) fs

  abbrev number : ℕ
  number = length (all_seen (lens_of plan.slaves) fs)

  abbrev gives : Bool
  gives = gives_up_at (lens_of plan.slaves) plan.recover plan.retry missed

  many : number ≡ length fs
  many = length-map fs (frame_seen (lens_of plan.slaves))

  boots : AllBoot plan.services 0 plan.slaves
  boots = all_boot (length plan.slaves) plan.slaves [] plan.slaves refl plan.services is.laid.services known.states

  each : AllServedTurn (lens_of plan.slaves) number y.datagrams ws vs
  each = subst (λ (n : ℕ). AllServedTurn (lens_of plan.slaves) n y.datagrams ws vs) (sym many) y.each

  abbrev ms : List ServedMember
  ms = served_members (lens_of plan.slaves) 0 plan.slaves ws x.nodes

  abbrev turns : List (Turn Asked)
  turns = Every.turns_of plan number y.datagrams ring f went plan.slaves ws vs each

  asks : AllTurn is_followed is_passed (lens_of plan.slaves) number y.datagrams ms turns
  asks = Every.all_turn plan number y.datagrams ring f went gs 0 plan.slaves ws x.nodes vs each x.lives.each x.at boots

  abbrev Behind : Fate → List ServedMember
  Behind fate = behind_frame is_followed is_passed number (frame_at (lens_of plan.slaves) ring f.sent) fate 0 ms turns (chained y.datagrams)

  stand_on : AllStand (clocks_on number (clocks cs) ms (Behind (fate_at ring.lose ring.number))) (Behind (fate_at ring.lose ring.number))
  stand_on = each_stand (lens_of plan.slaves) step (FitsPlan plan.slaves) is_followed is_passed gs ring f.sent y.datagrams y.frame ms x.lives
      (meets (lens_of plan.slaves) step (FitsPlan plan.slaves) is_followed is_passed gs ring f.sent y.datagrams y.frame ms turns x.lives asks) [] ms turns (clocks cs) refl x.lives.each asks stands

  abbrev now : List Serves
  now = map (served_behind (lens_of plan.slaves) plan.recover plan.retry gives number f) vs

  abbrev nodes_then : Fate → List (Node Serving)
  nodes_then fate = Every.nodes_behind plan number y.datagrams ring f went gs fate 0 ws x.nodes plan.slaves (chained y.datagrams)

  at_then : (fate : Fate) → AllServedAt plan 0 plan.slaves now (nodes_then fate)
  at_then fate = Every.all_at plan number y.datagrams ring f went gs plan.recover gives fate 0 plan.slaves ws x.nodes vs each (chained y.datagrams) x.lives.each x.at

  abbrev Stands : List Slave → List (Node Serving) → Type 0
  Stands ds ns = AllStand (clocks ds) (served_members (lens_of plan.slaves) 0 plan.slaves now ns)

  by_fate : (ds : List Slave) → RunOn number cs ds → AreLed (leads_of now) ds → map (λ (c : Slave). c.pace) cs ≡ map (λ (w : Serves). w.pace) ws → (fate : Fate) → fate_at ring.lose ring.number ≡ fate →
      (nodes_then fate ≡ map (λ (m : ServedMember). m.node) (Behind fate)) × Stands ds (nodes_then fate)
  by_fate ds run on paced fate at =
      let given = Every.carried plan number y.datagrams ring f went gs gives fate vs in
      let same = Every.all_behind plan number y.datagrams ring f went gs plan.recover gives fate at (went.fate ∙ at) 0 plan.slaves ws x.nodes vs each (chained y.datagrams) x.lives.each x.at in
      let here = subst (λ (z : Fate). AllStand (clocks_on number (clocks cs) ms (Behind z)) (Behind z)) at stand_on in
      let up = given_all plan.recover number (clocks cs) ms (Behind fate) given here in (
        sym (nodes_are plan 0 plan.slaves now (nodes_then fate) (at_then fate)) ∙ ap (λ (l : List ServedMember). map (λ (m : ServedMember). m.node) l) (sym same) ∙ nodes_given plan.recover number (Behind fate) given,
        counted_stand plan number 0 plan.slaves ws now x.nodes (nodes_then fate) cs ds run led on paced x.at (at_then fate)
            (subst (λ (l : List ServedMember). AllStand (clocks_on number (clocks cs) ms l) l) same up),
      )

  -- THE CLOCKS BEHIND IT, at the ring's nodes then
  pub stands_on : (ds : List Slave) → RunOn (length fs) cs ds → AreLed (leads_of (map (served_behind (lens_of plan.slaves) plan.recover plan.retry (gives_up_at (lens_of plan.slaves) plan.recover plan.retry missed) (length fs) f) vs)) ds →
      map (λ (c : Slave). c.pace) cs ≡ map (λ (w : Serves). w.pace) ws →
      AllStand (clocks ds) (served_members (lens_of plan.slaves) 0 plan.slaves (map (served_behind (lens_of plan.slaves) plan.recover plan.retry (gives_up_at (lens_of plan.slaves) plan.recover plan.retry missed) (length fs) f) vs) (ring_after (ring_of plan) (fs ++ f ∷ [])).nodes)
  stands_on ds run on paced =
      let behind = λ (n : ℕ). map (served_behind (lens_of plan.slaves) plan.recover plan.retry gives n f) vs in
      let both = by_fate ds (subst (λ (n : ℕ). RunOn n cs ds) (sym many) run) (subst (λ (n : ℕ). AreLed (leads_of (behind n)) ds) (sym many) on) paced (fate_at ring.lose ring.number) refl in
      let ring_nodes : (ring_after (ring_of plan) (fs ++ f ∷ [])).nodes ≡ nodes_then (fate_at ring.lose ring.number) =
      ap (λ (r : RingState (Node Serving)). r.nodes) (one_after (ring_of plan) fs f)
      ∙ (Members.ring_on (lens_of plan.slaves) step (FitsPlan plan.slaves) is_followed is_passed gs ring f.sent y.datagrams y.frame ms turns x.lives asks).nodes ∙ sym both.0 in
      subst (λ (n : ℕ). AllStand (clocks ds) (served_members (lens_of plan.slaves) 0 plan.slaves (behind n) (ring_after (ring_of plan) (fs ++ f ∷ [])).nodes)) many
      (subst (λ (ns : List (Node Serving)). Stands ds ns) (sym ring_nodes) both.1)

  -- ---- WHAT EACH ANSWERS
  -- each was asked
  asked_one : (place : ℕ) (s : SlaveSpec) (w : Serves) (v : ServedTurn) (n : Node Serving) (out : (lens_of plan.slaves s.station).out ≡ s.out_len) (back : (lens_of plan.slaves s.station).back ≡ s.in_len) (at : IsServedAt plan place s w) (t : IsServedTurn (lens_of plan.slaves) number y.datagrams w v) →
      AsksFirst (seen (lens_of plan.slaves) f.sent) v.turn → (let m = served_member (lens_of plan.slaves) place s w n in AsksAs (seen (lens_of plan.slaves) f.sent) m.spot (next_life is_followed is_passed number m.services m.life (One.turn plan place s w v n number y.datagrams at t out back ring f went)) m.life.stand)
  asked_one place s w v n out back at t a opens =
      let life = One.next_same plan place s w v n number y.datagrams at t out back ring f went in
      let stand = One.stand_is plan place s w v n number y.datagrams at t out back ring f went in
      let spot = One.spot_is plan place s w v n number y.datagrams at t out back ring f went in
      subst (λ (l : Life Body Asked Reply). EachAsks l.era.side.halves.inn.state l.era.side.halves.inn.bit (own s.station (seen (lens_of plan.slaves) f.sent))) (sym life)
      (subst (λ (z : Spot). EachAsks v.turn.lived.life.era.side.halves.inn.state v.turn.lived.life.era.side.halves.inn.bit (own z.station (seen (lens_of plan.slaves) f.sent))) spot (a (stand ∙ opens)))

  all_asked : (place : ℕ) (ss : List SlaveSpec) (us : List Serves) (ns : List (Node Serving)) (ts : List ServedTurn) (ys : AllServedTurn (lens_of plan.slaves) number y.datagrams us ts) → AllLived (lens_of plan.slaves) step (FitsPlan plan.slaves) gs place (served_members (lens_of plan.slaves) place ss us ns) →
      AllServedAt plan place ss us ns → AllAsk (seen (lens_of plan.slaves) f.sent) (turns_of ts) →
      AllAsked is_followed is_passed number (seen (lens_of plan.slaves) f.sent) (served_members (lens_of plan.slaves) place ss us ns) (Every.turns_of plan number y.datagrams ring f went ss us ts ys)
  all_asked place [] [] [] ts ys lived at a = tt
  all_asked place [] [] (n ∷ ns) ts ys lived at a = absurd at
  all_asked place [] (w ∷ us) ns ts ys lived at a = absurd at
  all_asked place (s ∷ ss) [] ns ts ys lived at a = absurd at
  all_asked place (s ∷ ss) (w ∷ us) [] ts ys lived at a = absurd at
  all_asked place (s ∷ ss) (w ∷ us) (n ∷ ns) [] ys lived at a = absurd ys
  all_asked place (s ∷ ss) (w ∷ us) (n ∷ ns) (v ∷ ts) ys lived at a =
      (asked_one place s w v n lived.0.whole.plan.lens_out lived.0.whole.plan.lens_back at.0 ys.0 a.0, all_asked (suc place) ss us ns ts ys.1 lived.1 at.1 a.1)

  as_stands : (came : List (Datagram Body)) (c : Slave) (v : ServedTurn) (s : Stand) → AnswersAs came c.stepped v.turn.lived.spot v.turn.lived.life v.turn.share s → StandAnswers came c v.turn s
  as_stands came c v (Stand.Opens o) k = k
  as_stands came c v Stand.Open k = k
  as_stands came c v Stand.Gone k = tt

  answered_one : (came : List (Datagram Body)) (place : ℕ) (s : SlaveSpec) (w : Serves) (v : ServedTurn) (n : Node Serving) (c : Slave) (out : (lens_of plan.slaves s.station).out ≡ s.out_len) (back : (lens_of plan.slaves s.station).back ≡ s.in_len) (at : IsServedAt plan place s w) (t : IsServedTurn (lens_of plan.slaves) number y.datagrams w v) →
      (let m = served_member (lens_of plan.slaves) place s w n in AnswersAs came c.stepped m.spot (next_life is_followed is_passed number m.services m.life (One.turn plan place s w v n number y.datagrams at t out back ring f went)) v.turn.share m.life.stand) → StandAnswers came c v.turn v.turn.lived.life.stand
  answered_one came place s w v n c out back at t k =
      let life = One.next_same plan place s w v n number y.datagrams at t out back ring f went in
      let stand = One.stand_is plan place s w v n number y.datagrams at t out back ring f went in
      let spot = One.spot_is plan place s w v n number y.datagrams at t out back ring f went in
      as_stands came c v v.turn.lived.life.stand
      (subst (λ (z : Stand). AnswersAs came c.stepped v.turn.lived.spot v.turn.lived.life v.turn.share z) (sym stand)
      (subst (λ (z : Spot). AnswersAs came c.stepped z v.turn.lived.life v.turn.share w.lead.lived.life.stand) (sym spot)
      (subst (λ (l : Life Body Asked Reply). AnswersAs came c.stepped (served_member (lens_of plan.slaves) place s w n).spot l v.turn.share w.lead.lived.life.stand) life k)))

  all_answer : (came : List (Datagram Body)) (place : ℕ) (ss : List SlaveSpec) (us : List Serves) (ns : List (Node Serving)) (ts : List ServedTurn) (ds : List Slave) (ys : AllServedTurn (lens_of plan.slaves) number y.datagrams us ts) → AreLed (leads_of us) ds →
      AllLived (lens_of plan.slaves) step (FitsPlan plan.slaves) gs place (served_members (lens_of plan.slaves) place ss us ns) → AllServedAt plan place ss us ns →
      AllAnswered is_followed is_passed number came (clocks ds) (served_members (lens_of plan.slaves) place ss us ns) (Every.turns_of plan number y.datagrams ring f went ss us ts ys) → AllAnswer came ds (turns_of ts)
  all_answer came place [] [] [] [] [] ys l lived at k = tt
  all_answer came place [] [] [] [] (d ∷ ds) ys l lived at k = absurd l
  all_answer came place [] [] [] (v ∷ ts) ds ys l lived at k = absurd ys
  all_answer came place [] [] (n ∷ ns) ts ds ys l lived at k = absurd at
  all_answer came place [] (w ∷ us) ns ts ds ys l lived at k = absurd at
  all_answer came place (s ∷ ss) [] ns ts ds ys l lived at k = absurd at
  all_answer came place (s ∷ ss) (w ∷ us) [] ts ds ys l lived at k = absurd at
  all_answer came place (s ∷ ss) (w ∷ us) (n ∷ ns) [] ds ys l lived at k = absurd ys
  all_answer came place (s ∷ ss) (w ∷ us) (n ∷ ns) (v ∷ ts) [] ys l lived at k = absurd l
  all_answer came place (s ∷ ss) (w ∷ us) (n ∷ ns) (v ∷ ts) (d ∷ ds) ys l lived at k =
      (answered_one came place s w v n d lived.0.whole.plan.lens_out lived.0.whole.plan.lens_back at.0 ys.0 k.0, all_answer came (suc place) ss us ns ts ds ys.1 l.2 lived.1 at.1 k.1)

  -- EACH ANSWERS by a frame that came back
  pub answers : f.fate ≡ Pass → AllAsk (seen (lens_of plan.slaves) f.sent) (turns_of vs) → AllAnswer (seen (lens_of plan.slaves) f.back) cs (turns_of vs)
  answers pass asked =
      let given = each_answers (lens_of plan.slaves) step (FitsPlan plan.slaves) is_followed is_passed gs ring f.sent y.datagrams y.frame ms x.lives
      (meets (lens_of plan.slaves) step (FitsPlan plan.slaves) is_followed is_passed gs ring f.sent y.datagrams y.frame ms turns x.lives asks) (sym went.fate ∙ pass) [] ms turns (clocks cs) refl x.lives.each asks stands
      (all_asked 0 plan.slaves ws x.nodes vs each x.lives.each x.at asked) in
      all_answer (seen (lens_of plan.slaves) f.back) 0 plan.slaves ws x.nodes vs cs each led x.lives.each x.at
      (subst (λ (octets : List ℕ). AllAnswered is_followed is_passed number (seen (lens_of plan.slaves) octets) (clocks cs) ms turns) (sym went.back) given)
