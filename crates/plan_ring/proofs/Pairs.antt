-- The slaves as they are counted, and those of the ring: the same lives, and clocks that are right.
use Rattle.std.proofs.Common.{◌≡◌, ℕ, suc, Bool, true, false, List, [], ◌∷◌, map, length, refl, sym, ap, ◌∙◌, subst, if◌then◌else◌}
use Rattle.std.specs.Prelude.{⊤}
use Rattle.slave_server.specs.of_exchange_model.Exchange.{Speech}
use Rattle.whole_ring.specs.of_frame_view.Shares.{Lived}
use Rattle.whole_ring.specs.of_life_model.Repairs.{way_of}
use Rattle.whole_ring.specs.of_life_model.Lives.{Spot, Life, gives_up}
use Rattle.run_frames.specs.of_life_runs.First.{leads_from}
use Rattle.run_frames.specs.of_life_runs.Led.{Leads}
use Rattle.slave_server.specs.of_link_mails.Body.{Body}
use Rattle.run_frames.specs.of_master_duty.Reply.{Reply}
use Rattle.run_frames.specs.of_master_hand.Spoken.{Asked}
use Rattle.plan_ring.specs.Lives.{AllShown}
use Rattle.plan_ring.specs.Master.{AllSame}
use Rattle.plan_ring.specs.Plan.{PlanMember}
use Rattle.plan_ring.specs.Clocks.{AllStand, clocks_on}
use Rattle.run_frames.specs.Clocks.{Clocked}
use Rattle.run_frames.specs.Goes.{Under, is_same, stepped_behind, clocked_behind, all_lost, all_back}
use Rattle.run_frames.specs.Led.{AreLed, first_clocked}
use Rattle.slave_server.specs.of_segment_model.Slaves.{Datagram}
use Rattle.slave_server.specs.of_segment_plan.declared.plan.Scenario.{Scenario}
use Rattle.slave_server.specs.of_segment_plan.declared.service.Service as Plan
use Rattle.slave_server.specs.of_segment_plan.declared.slave.SlaveSpec.{SlaveSpec}
use Rattle.plan_ring.specs.Stands.{StandsTo}
use Rattle.plan_ring.proofs.Opened.{nothing_awaited}
use Rattle.plan_ring.proofs.SlaveTurns.{given}
use Rattle.whole_ring.specs.Members.{Member}
use Rattle.whole_ring.specs.Turning.{given_up}

abbrev pub Slave : Type 0
Slave = Clocked Body Asked Reply

-- the same slave, with a clock that is right
pub record IsPair (c : Slave) (m : PlanMember) : Type 0 where
  pub life : c.life ≡ m.life
  pub pace : c.pace ≡ m.pace
  pub stands : StandsTo c.stepped m.life m.life.stand m.node.registers

abbrev pub AllPair : List Slave → List PlanMember → Type 0
AllPair [] [] = ⊤
AllPair (c ∷ cs) (m ∷ ms) = IsPair c m × AllPair cs ms
AllPair _ _ = ⊥

abbrev pub clocks : List Slave → List Bool
clocks cs = map (λ c. c.stepped) cs

pub all_stand : (cs : List Slave) (ms : List PlanMember) → AllPair cs ms → AllStand (clocks cs) ms
all_stand [] [] p = tt
all_stand [] (m ∷ ms) p = absurd p
all_stand (c ∷ cs) [] p = absurd p
all_stand (c ∷ cs) (m ∷ ms) p = (p.0.stands, all_stand cs ms p.1)

-- behind a frame the clocks run on
abbrev pub RunOn : ℕ → List Slave → List Slave → Type 0
RunOn number [] [] = ⊤
RunOn number (c ∷ cs) (d ∷ ds) = (d ≡ clocked_behind number c d.life) × RunOn number cs ds
RunOn number _ _ = ⊥

module _ (x : Spot → Speech Body Asked Reply) (acknowledged : Asked → Bool) (more : Body → Bool) (passed : Asked → Bool) (number : ℕ) where
  pub run_back : (back : List (Datagram Body)) (cs : List Slave) (us : List (Under Body Asked Reply)) → length us ≡ length cs → RunOn number cs (all_back x acknowledged more passed number back cs us)
  run_back back [] [] e = tt
  run_back back [] (u ∷ us) e = absurd (cc)
  run_back back (c ∷ cs) [] e = absurd (cc)
  run_back back (c ∷ cs) (u ∷ us) e = (refl, run_back back cs us (let f : length us ≡ length cs = cc in f))

  pub run_lost : (gives : Bool) (recover : ℕ) (sent : List (Datagram Body)) (cs : List Slave) (us : List (Under Body Asked Reply)) → length us ≡ length cs → RunOn number cs (all_lost x acknowledged more passed gives recover number sent cs us)
  run_lost gives recover sent [] [] e = tt
  run_lost gives recover sent [] (u ∷ us) e = absurd (cc)
  run_lost gives recover sent (c ∷ cs) [] e = absurd (cc)
  run_lost gives recover sent (c ∷ cs) (u ∷ us) e = (refl, run_lost gives recover sent cs us (let f : length us ≡ length cs = cc in f))

-- so they are those of the ring behind it
pub pairs_on : (plan : Scenario) (made : ℕ) (place : ℕ) (ss : List SlaveSpec) (cs ds : List Slave) (ms ns : List PlanMember) (as' : List Leads) → RunOn made cs ds → AllPair cs ms → AllSame ms ns → AreLed as' ds → AllShown plan place ss ns as' → AllStand (clocks_on made (clocks cs) ms ns) ns → AllPair ds ns
pairs_on plan made place ss [] [] [] [] as' r p s l x k = tt
pairs_on plan made place ss [] [] [] (n ∷ ns) as' r p s l x k = absurd s
pairs_on plan made place ss [] [] (m ∷ ms) ns as' r p s l x k = absurd p
pairs_on plan made place ss [] (d ∷ ds) ms ns as' r p s l x k = absurd r
pairs_on plan made place ss (c ∷ cs) [] ms ns as' r p s l x k = absurd r
pairs_on plan made place ss (c ∷ cs) (d ∷ ds) [] ns as' r p s l x k = absurd p
pairs_on plan made place ss (c ∷ cs) (d ∷ ds) (m ∷ ms) [] as' r p s l x k = absurd s
pairs_on plan made place ss (c ∷ cs) (d ∷ ds) (m ∷ ms) (n ∷ ns) [] r p s l x k = absurd l
pairs_on plan made place [] (c ∷ cs) (d ∷ ds) (m ∷ ms) (n ∷ ns) (a ∷ as') r p s l x k = absurd x
pairs_on plan made place (spec ∷ ss) (c ∷ cs) (d ∷ ds) (m ∷ ms) (n ∷ ns) (a ∷ as') r p s l x k =
    let life : d.life ≡ n.life = l.1 ∙ ap (λ (z : Lived Asked Reply). z.life) (sym x.0.lived) in
    let clock : d.stepped ≡ stepped_behind m.pace made (is_same (way_of 1 1 m.life) (way_of 1 1 n.life)) c.stepped =
    ap (λ (z : Slave). z.stepped) r.0 ∙ (λ i. stepped_behind (p.0.pace i) made (is_same (way_of 1 1 (p.0.life i)) (way_of 1 1 (life i))) c.stepped) in (
      record {
        life = life;
        pace = ap (λ (z : Slave). z.pace) r.0 ∙ p.0.pace ∙ sym s.0.pace;
        stands = subst (λ (b : Bool). StandsTo b n.life n.life.stand n.node.registers) (sym clock) k.0;
      },
      pairs_on plan made (suc place) ss cs ds ms ns as' r.1 p.1 s.1 l.2 x.1 k.1,
    )

-- a give-up answers for nothing
pub given_all : {S V A Q R : Type 0} (recover made : ℕ) (bs : List Bool) (ms ns : List (Member S V A Q R)) (carried : List Bool) → AllStand (clocks_on made bs ms ns) ns → AllStand (clocks_on made bs ms (given_up recover made ns carried)) (given_up recover made ns carried)
given_all recover made bs ms [] carried k = k
given_all recover made bs ms (n ∷ ns) [] k = k
given_all recover made [] ms (n ∷ ns) (g ∷ gs) k = absurd k
given_all recover made (b ∷ bs) [] (n ∷ ns) (g ∷ gs) k = absurd k
given_all {S} {V} {A} {Q} {R} recover made (b ∷ bs) (m ∷ ms) (n ∷ ns) (g ∷ gs) k = (one g, given_all recover made bs ms ns gs k.1)
  where
    one : (g : Bool) → (let o : Member S V A Q R = if g then record n { life = gives_up recover n.spot made n.life } else n in StandsTo (stepped_behind m.pace made (is_same (way_of 1 1 m.life) (way_of 1 1 o.life)) b) o.life o.life.stand o.node.registers)
    one true = given recover made n.spot n.life _ n.node.registers
    one false = k.0

-- as they are switched on
pub first_pairs : (plan : Scenario) (rows : List (ℕ × Plan.Service)) (place at : ℕ) (ss ts : List SlaveSpec) (paces : List ℕ) (ms : List PlanMember) → AllShown plan at ts ms (leads_from rows place ss) → paces ≡ map (λ m. m.pace) ms → AllPair (first_clocked (leads_from rows place ss) paces) ms
first_pairs plan rows place at [] [] paces [] x e = tt
first_pairs plan rows place at [] [] paces (m ∷ ms) x e = absurd x
first_pairs plan rows place at [] (t ∷ ts) paces [] x e = absurd x
first_pairs plan rows place at [] (t ∷ ts) paces (m ∷ ms) x e = absurd x
first_pairs plan rows place at (s ∷ ss) [] paces [] x e = absurd x
first_pairs plan rows place at (s ∷ ss) [] paces (m ∷ ms) x e = absurd x
first_pairs plan rows place at (s ∷ ss) (t ∷ ts) paces [] x e = absurd x
first_pairs plan rows place at (s ∷ ss) (t ∷ ts) [] (m ∷ ms) x e = absurd (cc)
first_pairs plan rows place at (s ∷ ss) (t ∷ ts) (pace ∷ paces) (m ∷ ms) x e =
    let life = ap (λ (z : Lived Asked Reply). z.life) (sym x.0.lived) in (
      record {
        life = life;
        pace = (let p : pace ≡ m.pace = cc in p);
        stands = subst (λ (l : Life Body Asked Reply). StandsTo false l l.stand m.node.registers) life (nothing_awaited _ false m.node.registers refl);
      },
      first_pairs plan rows (suc place) (suc at) ss ts paces ms x.1 (let q : paces ≡ map (λ z. z.pace) ms = cc in q),
    )
